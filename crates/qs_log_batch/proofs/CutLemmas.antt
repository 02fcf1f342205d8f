-- What is cut at the front of an area, against the batches that may stand there.
use Rattle.std.proofs.Common.{◌≡◌, ◌≤◌, ◌<◌, ◌+◌, ℕ, List, [], ◌∷◌, ◌++◌, length, get_or, take, drop, refl, ap, ◌∙◌, sym, subst, append_assoc, arith, length-append}
use Rattle.std.proofs.lemmas.List.{take-append-drop, take_at}
use Rattle.sha2.specs.Sha256.{sha256}
use Rattle.sha2.proofs.Facts256.{length-sha256}
use Rattle.qs_codec.specs.Grammar.{Word}
use Rattle.qs_codec.proofs.GrammarLemmas.{same_front}
use Rattle.qs_record.specs.declared.record.Record.{Record}
use Rattle.qs_record.specs.Grammar.{SpellsAll}
use Rattle.qs_log_batch.specs.Batch.{SpellsRecords, SpellsBatch}
use Rattle.qs_log_batch.specs.Reading.{HasNone, IsCut, AddsRecords, LacksRecords, AddsBatch}
use Rattle.qs_log_batch.proofs.Fronts.{same_behind, same_tail}
use Rattle.qs_log_batch.proofs.BatchLemmas.{head_front, head_long, batch_parts}

-- an area behind its open gate and eight bytes
area_cut : (area : List ℕ) → get_or area 0 0 ≡ 1 → 9 ≤ length area → area ≡ 1 ∷ (take 8 (drop 1 area) ++ drop 8 (drop 1 area))
area_cut [] gate long = absurd (omega (arith, long))
area_cut (x ∷ xs) gate long = ap (λ (y : ℕ). y ∷ xs) gate ∙ ap (λ (ys : List ℕ). 1 ∷ ys) (sym (take-append-drop 8 xs))

-- behind length and count the batch goes on with as many bytes
batch_goes_on : (area head behind : List ℕ) (size count : ℕ) (rs : List Record) (front back : List ℕ) → area ≡ 1 ∷ (head ++ behind)
    → SpellsAll (Word size ∷ Word count ∷ []) head → area ≡ front ++ back → (p : SpellsBatch 1 rs front)
    → (size ≡ length p.body) × (count ≡ length rs) × (head ≡ p.head) × (behind ≡ p.body ++ (sha256 (p.head ++ p.body) ++ back))
batch_goes_on area head behind size count rs front back cut counts whole p =
    let rest : List ℕ = p.body ++ (sha256 (p.head ++ p.body) ++ back) in
    let tails : head ++ behind ≡ p.head ++ rest = same_tail 1 1 _ _ (sym cut ∙ whole ∙ batch_parts 1 rs front back p) in
    let heads = head_front size count (length p.body) (length rs) head p.head behind rest counts p.counts tails in
    (heads.0, heads.1, heads.2, same_behind head p.head behind rest heads.2 tails)

-- where fewer bytes are left than the length and a digest, no batch stands
pub none_short : (area head behind : List ℕ) (size count : ℕ) → get_or area 0 0 ≡ 1 → 9 ≤ length area → head ≡ take 8 (drop 1 area) → behind ≡ drop 8 (drop 1 area)
    → SpellsAll (Word size ∷ Word count ∷ []) head → length behind < size + 32 → HasNone 1 area
none_short area head behind size count gate long head_is behind_is counts short = record {
  none = λ rs front back whole p.
      let cut : area ≡ 1 ∷ (head ++ behind) = rw (head_is, behind_is) (area_cut area gate long) in
      let on = batch_goes_on area head behind size count rs front back cut counts whole p in
      let rest : length behind ≡ length p.body + (32 + length back) =
      ap length on.3 ∙ length-append p.body (sha256 (p.head ++ p.body) ++ back)
      ∙ ap (λ (n : ℕ). length p.body + n) (length-append (sha256 (p.head ++ p.body)) back ∙ ap (λ (n : ℕ). n + length back) (length-sha256 (p.head ++ p.body))) in
      absurd (omega (arith, on.0, rest, short));
}

pub record IsOfBatch (head : List ℕ) (count : ℕ) (body digest : List ℕ) (rs : List Record) : Type 0 where
  pub intact : digest ≡ sha256 (head ++ body)
  pub counted : length rs ≡ count
  pub some : 0 < length rs
  pub spelled : SpellsRecords rs body

-- a batch that stands there has the parts that were cut
pub cut_of_batch : (area head : List ℕ) (count : ℕ) (body digest : List ℕ) (rs : List Record) (front back : List ℕ) → IsCut area head count body digest
    → area ≡ front ++ back → SpellsBatch 1 rs front → IsOfBatch head count body digest rs
cut_of_batch area head count body digest rs front back c whole p =
    let on = batch_goes_on area head (body ++ (digest ++ c.behind)) (length body) count rs front back c.whole c.counts whole p in
    let bodies : body ≡ p.body = same_front body p.body (digest ++ c.behind) (sha256 (p.head ++ p.body) ++ back) on.0 on.3 in
    let rests : digest ++ c.behind ≡ sha256 (p.head ++ p.body) ++ back = same_behind body p.body (digest ++ c.behind) (sha256 (p.head ++ p.body) ++ back) bodies on.3 in
    let digests : digest ≡ sha256 (p.head ++ p.body) = same_front digest (sha256 (p.head ++ p.body)) c.behind back (c.digest_long ∙ sym (length-sha256 (p.head ++ p.body))) rests in
    record {
      intact = digests ∙ same_digest p.head head p.body body (sym on.2) (sym bodies);
      counted = sym on.1;
      some = p.some;
      spelled = subst (SpellsRecords rs) (sym bodies) p.spelled.1;
    }
  where
    same_digest : (g h s t : List ℕ) → g ≡ h → s ≡ t → sha256 (g ++ s) ≡ sha256 (h ++ t)
    same_digest g h s t heads bodies = rw (heads, bodies) refl

pub none_counted : (area head : List ℕ) (count : ℕ) (body digest : List ℕ) → IsCut area head count body digest → count ≡ 0 → HasNone 1 area
none_counted area head count body digest c none = record {
  none = λ rs front back whole p. let is = cut_of_batch area head count body digest rs front back c whole p in absurd (omega (arith, is.counted, is.some, none));
}

pub none_intact : (area head : List ℕ) (count : ℕ) (body digest : List ℕ) → IsCut area head count body digest → (digest ≡ sha256 (head ++ body) → ⊥) → HasNone 1 area
none_intact area head count body digest c broken = record {
  none = λ rs front back whole p. broken (cut_of_batch area head count body digest rs front back c whole p).intact;
}

pub none_lacks : (area head : List ℕ) (count : ℕ) (body digest : List ℕ) → IsCut area head count body digest → LacksRecords count body → HasNone 1 area
none_lacks area head count body digest c lacks = record {
  none = λ rs front back whole p. let is = cut_of_batch area head count body digest rs front back c whole p in lacks.none rs is.counted is.spelled;
}

-- what was cut is a batch where its records and its digest are those of one
pub cut_batch : (area head : List ℕ) (count : ℕ) (body digest : List ℕ) (old new : List Record) → IsCut area head count body digest → 0 < count
    → digest ≡ sha256 (head ++ body) → AddsRecords count body old new → AddsBatch area (41 + length body) old new
cut_batch area head count body digest old new c some intact adds = record {
  batch = adds.records;
  within = rw whole (omega (arith, long, length-append front c.behind));
  some = omega arith;
  spelled = subst (SpellsBatch 1 adds.records) (sym (ap (take (41 + length body)) whole ∙ take_at front c.behind (41 + length body) long)) (record {
    head = head;
    body = body;
    some = rw adds.counted some;
    counts = rw adds.counted c.counts;
    spelled = (refl, adds.spelled);
    whole = ap (λ (xs : List ℕ). 1 ∷ (head ++ body ++ xs)) intact;
  });
  added = adds.added;
}
  where
    front : List ℕ
    front = 1 ∷ (head ++ body ++ digest)

    whole : area ≡ front ++ c.behind
    whole = c.whole ∙ ap (λ (xs : List ℕ). 1 ∷ xs) (sym (append_assoc head body (digest ++ c.behind)) ∙ sym (append_assoc (head ++ body) digest c.behind))

    long : length front ≡ 41 + length body
    long = omega (arith, length-append (head ++ body) digest, length-append head body, c.digest_long, head_long (length body) count head c.counts)
