-- The bytes of a batch that is being gathered.
use Rattle.std.proofs.Common.{◌≡◌, ◌≤◌, ◌<◌, ◌+◌, ◌-◌, ◌%◌, ◌^◌, ℕ, zero, suc, List, [], ◌∷◌, ◌++◌, length, take, drop, replicate, refl, ap, ◌∙◌, sym, subst, arith, append_assoc, append-nil, length-append, length-drop}
use Rattle.std.proofs.Math.Nat.{mod-lt}
use Rattle.std.proofs.lemmas.List.{drop-take, drop-append-le, length-take, length-take-le, length-replicate, nil_from_length, take_all, take_at}
use Rattle.std.proofs.lemmas.List.Elements.{All-from_recursion}
use Rattle.std.proofs.lemmas.List.Sums.{sum_by_push}
use Rattle.std.proofs.lemmas.Nat.{from_be_bytes-to_be_bytes_4}
use Rattle.std.specs.Int.{w32, to_be_bytes}
use Rattle.std.specs.Prelude.{sum_by}
use Rattle.sha2.specs.Sha256.{sha256}
use Rattle.qs_codec.specs.Grammar.{Word, IsByte, IsBigEndian}
use Rattle.qs_codec.proofs.GrammarLemmas.{wide32}
use Rattle.qs_record.specs.declared.record.Record.{Record}
use Rattle.qs_record.specs.Grammar.{SpellsAll, SpellsRecord, record_length}
use Rattle.qs_record.specs.Writing.{Adds}
use Rattle.qs_log_batch.specs.Batch.{SpellsRecords, batch_length}
use Rattle.qs_log_batch.specs.Gathering.{body_in, records_in, IsGathered, IsSealed}
use Rattle.qs_record.proofs.Lengths.{record_long}
use Rattle.qs_log_batch.proofs.RecordsLemmas.{records_long, records_more, records_few, records_are_in}

-- ---- what is put behind the first bytes of records

no_fill : (n : ℕ) → n ≡ 0 → replicate {A = ℕ} n 0 ≡ []
no_fill n is = rw is refl

filled_long : (size len : ℕ) (old : List ℕ) → len ≡ length old → length (take (8 + size) old ++ replicate {A = ℕ} (8 + size - len) 0) ≡ 8 + size
filled_long size len old is_len =
    rw (length-append, length-take, length-replicate) (omega (arith, is_len))

-- the vector behind its first eight bytes is the records so far
behind_head : (size len : ℕ) (old : List ℕ) → (0 < size → 8 + size ≤ length old) → len ≡ length old
    → drop 8 (take (8 + size) old ++ replicate {A = ℕ} (8 + size - len) 0) ≡ body_in size old
behind_head zero len old within is_len =
    nil_from_length (drop 8 (take (8 + 0) old ++ replicate {A = ℕ} (8 + 0 - len) 0))
    (omega (arith, length-drop 8 (take (8 + 0) old ++ replicate {A = ℕ} (8 + 0 - len) 0), filled_long 0 len old is_len))
behind_head (suc n) len old within is_len =
    let long : 8 + suc n ≤ length old = within (omega arith) in
    let none : replicate {A = ℕ} (8 + suc n - len) 0 ≡ [] = no_fill (8 + suc n - len) (omega (arith, long, is_len)) in
    ap (λ (xs : List ℕ). drop 8 (take (8 + suc n) old ++ xs)) none ∙ ap (λ (xs : List ℕ). drop 8 xs) (append-nil (take (8 + suc n) old)) ∙ drop-take 8 (suc n) old

body_long : (size : ℕ) (old : List ℕ) → (0 < size → 8 + size ≤ length old) → length (body_in size old) ≡ size
body_long zero old within = refl
body_long (suc n) old within =
    let long : 8 + suc n ≤ length old = within (omega arith) in
    length-take-le (suc n) (drop 8 old) (omega (arith, length-drop 8 old, long))

-- what is put behind the first `size` bytes of records stands behind them
pub body_put : (size len : ℕ) (old filled part : List ℕ) → (0 < size → 8 + size ≤ length old) → len ≡ length old
    → filled ≡ take (8 + size) old ++ replicate {A = ℕ} (8 + size - len) 0 → body_in (size + length part) (filled ++ part) ≡ body_in size old ++ part
body_put size len old filled part within is_len is_filled =
    let long : 8 ≤ length filled = rw is_filled (omega (arith, filled_long size len old is_len)) in
    let behind : drop 8 filled ≡ body_in size old = ap (λ (xs : List ℕ). drop 8 xs) is_filled ∙ behind_head size len old within is_len in
    let whole : drop 8 (filled ++ part) ≡ body_in size old ++ part = drop-append-le 8 filled part long ∙ ap (λ (xs : List ℕ). xs ++ part) behind in
    ap (take (size + length part)) whole ∙ take_all (size + length part) (body_in size old ++ part) (omega (arith, length-append (body_in size old) part, body_long size old within))

-- ---- what a batch keeps

-- its records' bytes are as many as it says, and as many as its records have
pub gathered_size : (count size : ℕ) (bytes : List ℕ) (capacity : ℕ) → IsGathered count size bytes capacity
    → size ≡ sum_by record_length (records_in count (body_in size bytes))
gathered_size count size bytes capacity g =
    sym (body_long size bytes g.within) ∙ records_long (records_in count (body_in size bytes)) (body_in size bytes) g.spelled

-- there are no more records than bytes
pub gathered_few : (count size : ℕ) (bytes : List ℕ) (capacity : ℕ) → IsGathered count size bytes capacity → count ≤ size
gathered_few count size bytes capacity g =
    omega (arith, g.counted, gathered_size count size bytes capacity g, records_few (records_in count (body_in size bytes)))

-- a batch with records has bytes of them
pub gathered_some : (count size : ℕ) (bytes : List ℕ) (capacity : ℕ) → IsGathered count size bytes capacity → 0 < length (records_in count (body_in size bytes)) → 0 < size
gathered_some count size bytes capacity g some = omega (arith, g.counted, gathered_few count size bytes capacity g, some)

-- how long a batch is with one more record
pub gathered_length : (count size : ℕ) (bytes : List ℕ) (capacity : ℕ) (r : Record) (part : List ℕ) → IsGathered count size bytes capacity → SpellsRecord r part
    → 41 + size + length part ≡ batch_length (records_in count (body_in size bytes) ++ r ∷ [])
gathered_length count size bytes capacity r part g p =
    omega (arith, record_long r part p, gathered_size count size bytes capacity g, sum_by_push record_length (records_in count (body_in size bytes)) r)

-- and it is small where its length is
pub gathered_small : (count size : ℕ) (bytes : List ℕ) (capacity : ℕ) (r : Record) (part : List ℕ) (records : List Record) → IsGathered count size bytes capacity
    → records_in count (body_in size bytes) ≡ records → SpellsRecord r part → batch_length (records ++ r ∷ []) < 2 ^ 32 → 41 + size + length part < 2 ^ 32
gathered_small count size bytes capacity r part records g seen p fits =
    omega (arith, gathered_length count size bytes capacity r part g p, ap (λ (rs : List Record). batch_length (rs ++ r ∷ [])) seen, fits)

-- records behind one another in the new bytes
gathered_records : (count size : ℕ) (bytes new : List ℕ) (capacity : ℕ) (r : Record) (part : List ℕ) → IsGathered count size bytes capacity → SpellsRecord r part
    → body_in (size + length part) new ≡ body_in size bytes ++ part
    → records_in (count + 1) (body_in (size + length part) new) ≡ records_in count (body_in size bytes) ++ r ∷ []
gathered_records count size bytes new capacity r part g p body =
    let before : List Record = records_in count (body_in size bytes) in
    let spelled : SpellsRecords (before ++ r ∷ []) (body_in size bytes ++ part) = records_more before r (body_in size bytes) part g.spelled p in
    let long : length (before ++ r ∷ []) ≡ count + 1 = omega (arith, length-append before (r ∷ []), g.counted) in
    ap (records_in (count + 1)) body ∙ ap (λ (n : ℕ). records_in n (body_in size bytes ++ part)) (sym long) ∙ records_are_in (before ++ r ∷ []) (body_in size bytes ++ part) spelled

pub record IsAdded (count size : ℕ) (bytes : List ℕ) (r : Record) (new_size : ℕ) (new : List ℕ) (capacity : ℕ) : Type 0 where
  pub gathered : IsGathered (count + 1) new_size new capacity
  pub records : records_in (count + 1) (body_in new_size new) ≡ records_in count (body_in size bytes) ++ r ∷ []

-- with one more record behind the others
pub gathered_more : (count size : ℕ) (bytes new : List ℕ) (capacity new_capacity : ℕ) (r : Record) (part : List ℕ) → IsGathered count size bytes capacity → SpellsRecord r part
    → 41 + size + length part < 2 ^ 32 → body_in (size + length part) new ≡ body_in size bytes ++ part → 8 + size + length part ≤ length new → 41 + size + length part ≤ new_capacity
    → IsAdded count size bytes r (size + length part) new new_capacity
gathered_more count size bytes new capacity new_capacity r part g p small body within room =
    let before : List Record = records_in count (body_in size bytes) in
    let records : records_in (count + 1) (body_in (size + length part) new) ≡ before ++ r ∷ [] = gathered_records count size bytes new capacity r part g p body in
    record {
      gathered = record {
        spelled = rw (records, body) (records_more before r (body_in size bytes) part g.spelled p);
        counted = ap length records ∙ omega (arith, length-append before (r ∷ []), g.counted);
        small = omega (arith, small);
        within = λ some. omega (arith, within);
        room = λ some. omega (arith, room);
      };
      records = records;
    }

-- with the same records in other bytes
pub gathered_kept : (count size : ℕ) (bytes new : List ℕ) (capacity new_capacity : ℕ) → IsGathered count size bytes capacity → body_in size new ≡ body_in size bytes
    → (0 < size → 8 + size ≤ length new) → capacity ≤ new_capacity → IsGathered count size new new_capacity
gathered_kept count size bytes new capacity new_capacity g body within room = record {
  spelled = rw body g.spelled;
  counted = rw body g.counted;
  small = g.small;
  within = within;
  room = λ some. let old : 41 + size ≤ capacity = g.room some in omega arith;
}

-- with no record
pub gathered_none : (bytes : List ℕ) (capacity : ℕ) → IsGathered 0 0 bytes capacity × (records_in 0 (body_in 0 bytes) ≡ [])
unfolding records_in
gathered_none bytes capacity = (
  record {
    spelled = refl;
    counted = refl;
    small = omega arith;
    within = λ some. absurd (omega (arith, some));
    room = λ some. absurd (omega (arith, some));
  },
  refl,
)

-- ---- sealing

-- four bytes that std makes of a number spell it
word_spelled : (n : ℕ) → n < 2 ^ 32 → IsBigEndian 4 n (to_be_bytes w32 n)
word_spelled n fits = record {
  wide = refl;
  each = All-from_recursion IsByte (to_be_bytes w32 n) (low _, (low _, (low _, (low _, tt))));
  value = sym (from_be_bytes-to_be_bytes_4 n fits) ∙ wide32.same (to_be_bytes w32 n) refl;
}
  where
    low : (m : ℕ) → m % 256 < 256
    low m = mod-lt m (omega arith)

-- length and count, as they are written
head_spelled : (m n : ℕ) → m < 2 ^ 32 → n < 2 ^ 32 → SpellsAll (Word m ∷ Word n ∷ []) (to_be_bytes w32 m ++ to_be_bytes w32 n)
head_spelled m n p q = record {
  front = to_be_bytes w32 m;
  back = to_be_bytes w32 n;
  whole = refl;
  first = word_spelled m p;
  second = record { front = to_be_bytes w32 n; back = []; whole = sym (append-nil (to_be_bytes w32 n)); first = word_spelled n q; second = refl };
}

abbrev pub sealed_bytes : ℕ → ℕ → List ℕ → List ℕ
sealed_bytes size count body = to_be_bytes w32 size ++ to_be_bytes w32 count ++ body ++ sha256 (to_be_bytes w32 size ++ to_be_bytes w32 count ++ body) ++ 0 ∷ []

pub gathered_sealed : (count size : ℕ) (bytes new : List ℕ) (capacity : ℕ) → IsGathered count size bytes capacity → 0 < length (records_in count (body_in size bytes))
    → new ≡ sealed_bytes size count (body_in size bytes) → IsSealed (records_in count (body_in size bytes)) new
gathered_sealed count size bytes new capacity g some is = record {
  part = head ++ body ++ sha256 (head ++ body);
  spelled = record {
    head = head;
    body = body;
    some = some;
    counts = rw (long, g.counted) (head_spelled size count (omega (arith, g.small)) (omega (arith, g.small, gathered_few count size bytes capacity g)));
    spelled = (refl, g.spelled);
    whole = refl;
  };
  whole = is;
}
  where
    head : List ℕ
    head = to_be_bytes w32 size ++ to_be_bytes w32 count

    body : List ℕ
    body = body_in size bytes

    long : length body ≡ size
    long = body_long size bytes g.within

-- and so does a batch of which they are seen
pub seen_sealed : (count size : ℕ) (bytes new out : List ℕ) (capacity : ℕ) (records : List Record) → IsGathered count size bytes capacity
    → records_in count (body_in size bytes) ≡ records → 0 < length records → new ≡ sealed_bytes size count (body_in size bytes) → out ≡ new → IsSealed records out
seen_sealed count size bytes new out capacity records g seen some is out_is =
    subst (λ (rs : List Record). IsSealed rs out) seen (gathered_sealed count size bytes out capacity g (rw seen some) (out_is ∙ is))

-- sealing leaves the records' bytes
pub sealed_body : (count size : ℕ) (bytes new : List ℕ) → (0 < size → 8 + size ≤ length bytes) → new ≡ sealed_bytes size count (body_in size bytes)
    → (body_in size new ≡ body_in size bytes) × (8 + size ≤ length new)
sealed_body count size bytes new within is =
    let body : List ℕ = body_in size bytes in
    let digest : List ℕ = sha256 (to_be_bytes w32 size ++ to_be_bytes w32 count ++ body) in
    let long : length body ≡ size = body_long size bytes within in (
      ap (λ (xs : List ℕ). take size (drop 8 xs)) is ∙ ap (take size) (append_assoc body digest (0 ∷ [])) ∙ take_at body (digest ++ 0 ∷ []) size long,
      omega (arith, ap length is, length-append (body ++ digest) (0 ∷ []), length-append body digest, long),
    )

-- what was added to no bytes spells it alone
pub part_is : (r : Record) (old new part : List ℕ) → Adds (SpellsRecord r) old new → old ≡ [] → part ≡ new → SpellsRecord r part
part_is r old new part adds none is = subst (SpellsRecord r) (sym (is ∙ adds.added ∙ ap (λ (xs : List ℕ). xs ++ adds.part) none)) adds.spelled
