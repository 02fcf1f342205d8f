-- Records one behind the other: one list for a count, and how long they are.
use Rattle.std.proofs.Common.{◌≡◌, ◌≤◌, ◌<◌, ℕ, List, [], ◌∷◌, ◌++◌, length, drop, Result, Ok, refl, ap, ◌∙◌, sym, append-nil, arith, length-append}
use Rattle.std.proofs.lemmas.List.Sums.{sum_by-cons}
use Rattle.std.specs.Prelude.{sum_by}
use Rattle.qs_record.specs.declared.record.Record.{Record}
use Rattle.qs_record.specs.declared.record.Record.TheVariants.{Prepare, Commit, Aborted, End}
use Rattle.qs_record.specs.Grammar.{SpellsRecord, record_length}
use Rattle.qs_record.specs.Reading.{IsAhead, record_at}
use Rattle.qs_codec.specs.declared.fault.CodecFault.{CodecFault}
use Rattle.qs_codec.specs.Reading.{Reading, left_of, reading_after, reading_at}
use Rattle.std.proofs.Math.Seq.{drop-append_seam}
use Rattle.std.proofs.lemmas.List.{drop-drop}
use Rattle.qs_log_batch.specs.Gathering.{found_then, records_from, records_in}
use Rattle.qs_log_batch.specs.Batch.{SpellsRecords}
use Rattle.qs_record.proofs.Ahead.{record_found}
use Rattle.qs_record.proofs.Fronts.{record_front}
use Rattle.qs_record.proofs.Lengths.{record_long}
use Rattle.qs_log_batch.proofs.Fronts.{regroup, same_behind, same_cons, same_append}

-- as many records at the front of one list are the same records
pub records_front : (rs ss : List Record) (a b x y : List ℕ) → length rs ≡ length ss → SpellsRecords rs a → SpellsRecords ss b → a ++ x ≡ b ++ y → (rs ≡ ss) × (a ≡ b)
records_front [] [] a b x y len p q e = (refl, p ∙ sym q)
records_front [] (s ∷ ss) a b x y len p q e = absurd (omega (arith, len))
records_front (r ∷ rs) [] a b x y len p q e = absurd (omega (arith, len))
records_front (r ∷ rs) (s ∷ ss) a b x y len p q e =
    let regrouped : p.front ++ (p.back ++ x) ≡ q.front ++ (q.back ++ y) = sym (regroup p.front p.back a x p.whole) ∙ e ∙ regroup q.front q.back b y q.whole in
    let one = record_front r s p.front q.front (p.back ++ x) (q.back ++ y) p.first q.first regrouped in
    let rests : p.back ++ x ≡ q.back ++ y = same_behind p.front q.front (p.back ++ x) (q.back ++ y) one.1 regrouped in
    let more = records_front rs ss p.back q.back x y (omega (arith, len)) p.second q.second rests in
    (same_cons r s rs ss one.0 more.0, p.whole ∙ same_append p.front p.back q.front q.back one.1 more.1 ∙ sym q.whole)

-- records are as long as they are together
pub records_long : (rs : List Record) (a : List ℕ) → SpellsRecords rs a → length a ≡ sum_by record_length rs
records_long [] a p = ap length p
records_long (r ∷ rs) a p =
    let first : length p.front ≡ record_length r = record_long r p.front p.first in
    let second : length p.back ≡ sum_by record_length rs = records_long rs p.back p.second in
    ap length p.whole ∙ length-append p.front p.back ∙ rw (first, second) (sym (sum_by-cons record_length r rs))

-- a record behind records
pub records_more : (rs : List Record) (r : Record) (a part : List ℕ) → SpellsRecords rs a → SpellsRecord r part → SpellsRecords (rs ++ r ∷ []) (a ++ part)
records_more [] r a part p q = record { front = part; back = []; whole = rw p (sym (append-nil part)); first = q; second = refl }
records_more (s ∷ rs) r a part p q = record {
  front = p.front;
  back = p.back ++ part;
  whole = regroup p.front p.back a part p.whole;
  first = p.first;
  second = records_more rs r p.back part p.second q;
}

-- a record takes a byte or more
record_some : (r : Record) → 0 < record_length r
record_some (Prepare tid server covers changes) = omega arith
record_some (Commit tid told) = omega arith
record_some (Aborted tid) = omega arith
record_some (End tid) = omega arith

-- so there are no more records than bytes
pub records_few : (rs : List Record) → length rs ≤ sum_by record_length rs
records_few [] = omega arith
records_few (r ∷ rs) = rw sum_by-cons (omega (arith, record_some r, records_few rs))

-- records that stand next are found
pub records_found : (rs : List Record) (reading : Reading) (a rest : List ℕ) → SpellsRecords rs a → left_of reading ≡ a ++ rest
    → records_from (length rs) reading ≡ rs
records_found [] reading a rest p whole = refl
records_found (r ∷ rs) reading a rest p whole =
    let ahead : IsAhead (SpellsRecord r) reading = record {
      part = p.front;
      rest = p.back ++ rest;
      spelled = p.first;
      whole = whole ∙ regroup p.front p.back a rest p.whole;
    } in
    let found : record_at reading ≡ Ok (r, reading_after reading (length p.front)) = (record_found r).found reading ahead.part ahead.rest ahead.spelled ahead.whole in
    let behind : left_of (reading_after reading (length p.front)) ≡ p.back ++ rest =
    sym (drop-drop (length p.front) reading.at reading.bytes) ∙ ap (drop (length p.front)) ahead.whole ∙ drop-append_seam p.front (p.back ++ rest) in
    ap (λ (answer : Result (Record × Reading) CodecFault). found_then answer (λ after. records_from (length rs) after)) found
    ∙ ap (λ (more : List Record). r ∷ more) (records_found rs (reading_after reading (length p.front)) p.back rest p.second behind)

pub records_are_in : (rs : List Record) (a : List ℕ) → SpellsRecords rs a → records_in (length rs) a ≡ rs
unfolding records_in
records_are_in rs a p = records_found rs (reading_at a 0) a [] p (sym (append-nil a))
