-- Batches: what stands at the front of a list is one batch, and how long it is.
use Rattle.std.proofs.Common.{◌≡◌, ℕ, List, [], ◌∷◌, ◌++◌, length, refl, ap, ◌∙◌, sym, append_assoc, arith, length-append}
use Rattle.std.specs.Prelude.{sum_by}
use Rattle.sha2.specs.Sha256.{sha256}
use Rattle.sha2.proofs.Facts256.{length-sha256}
use Rattle.qs_codec.specs.Grammar.{Word}
use Rattle.qs_codec.proofs.GrammarLemmas.{front_number, same_front}
use Rattle.qs_record.specs.declared.record.Record.{Record}
use Rattle.qs_record.specs.Grammar.{SpellsAll, record_length}
use Rattle.qs_log_batch.specs.Batch.{SpellsBatch, batch_length}
use Rattle.qs_log_batch.proofs.Fronts.{regroup, same_behind, same_tail, same_append}
use Rattle.qs_log_batch.proofs.RecordsLemmas.{records_front, records_long}

-- length and count at the front of one list are one pair
pub head_front : (m n k l : ℕ) (a b x y : List ℕ) → SpellsAll (Word m ∷ Word n ∷ []) a → SpellsAll (Word k ∷ Word l ∷ []) b → a ++ x ≡ b ++ y
    → (m ≡ k) × (n ≡ l) × (a ≡ b)
head_front m n k l a b x y p q e =
    let regrouped : p.front ++ (p.back ++ x) ≡ q.front ++ (q.back ++ y) = sym (regroup p.front p.back a x p.whole) ∙ e ∙ regroup q.front q.back b y q.whole in
    let one = front_number 4 m k p.front q.front (p.back ++ x) (q.back ++ y) p.first q.first regrouped in
    let rests : p.back ++ x ≡ q.back ++ y = same_behind p.front q.front (p.back ++ x) (q.back ++ y) one.1 regrouped in
    let r = p.second in
    let s = q.second in
    let again : r.front ++ (r.back ++ x) ≡ s.front ++ (s.back ++ y) = sym (regroup r.front r.back p.back x r.whole) ∙ rests ∙ regroup s.front s.back q.back y s.whole in
    let two = front_number 4 n l r.front s.front (r.back ++ x) (s.back ++ y) r.first s.first again in
    let backs : p.back ≡ q.back = r.whole ∙ same_append r.front r.back s.front s.back two.1 (r.second ∙ sym s.second) ∙ sym s.whole in
    (one.0, two.0, p.whole ∙ same_append p.front p.back q.front q.back one.1 backs ∙ sym q.whole)

-- length and count take eight bytes
pub head_long : (m n : ℕ) (a : List ℕ) → SpellsAll (Word m ∷ Word n ∷ []) a → length a ≡ 8
head_long m n a p =
    let r = p.second in
    let back : length p.back ≡ 4 = ap length r.whole ∙ length-append r.front r.back ∙ rw (r.first.wide, r.second) refl in
    ap length p.whole ∙ length-append p.front p.back ∙ rw (p.first.wide, back) refl

-- a batch's bytes before others, part by part
pub batch_parts : (format : ℕ) (b : List Record) (a x : List ℕ) (p : SpellsBatch format b a)
    → a ++ x ≡ 1 ∷ (p.head ++ (p.body ++ (sha256 (p.head ++ p.body) ++ x)))
batch_parts format b a x p =
    ap (λ (xs : List ℕ). xs ++ x) p.whole ∙ ap (λ (xs : List ℕ). 1 ∷ xs)
    (append_assoc (p.head ++ p.body) (sha256 (p.head ++ p.body)) x ∙ append_assoc p.head p.body (sha256 (p.head ++ p.body) ++ x))

-- batches at the front of one list are one batch
pub batch_front : (format : ℕ) (b c : List Record) (a d x y : List ℕ) → SpellsBatch format b a → SpellsBatch format c d → a ++ x ≡ d ++ y → (b ≡ c) × (a ≡ d)
batch_front format b c a d x y p q e =
    let behind_p : List ℕ = sha256 (p.head ++ p.body) ++ x in
    let behind_q : List ℕ = sha256 (q.head ++ q.body) ++ y in
    let tails : p.head ++ (p.body ++ behind_p) ≡ q.head ++ (q.body ++ behind_q) =
    same_tail 1 1 _ _ (sym (batch_parts format b a x p) ∙ e ∙ batch_parts format c d y q) in
    let heads = head_front (length p.body) (length b) (length q.body) (length c) p.head q.head (p.body ++ behind_p) (q.body ++ behind_q) p.counts q.counts tails in
    let rests : p.body ++ behind_p ≡ q.body ++ behind_q = same_behind p.head q.head (p.body ++ behind_p) (q.body ++ behind_q) heads.2 tails in
    let bodies : p.body ≡ q.body = same_front p.body q.body behind_p behind_q heads.0 rests in
    let one = records_front b c p.body q.body [] [] heads.1 p.spelled.1 q.spelled.1 (ap (λ (xs : List ℕ). xs ++ []) bodies) in
    (one.0, p.whole ∙ same_bytes p.head q.head p.body q.body heads.2 bodies ∙ sym q.whole)
  where
    same_bytes : (g h s t : List ℕ) → g ≡ h → s ≡ t → 1 ∷ (g ++ s ++ sha256 (g ++ s)) ≡ 1 ∷ (h ++ t ++ sha256 (h ++ t))
    same_bytes g h s t heads bodies = rw (heads, bodies) refl

-- a batch is 41 bytes longer than its records
pub batch_long : (format : ℕ) (b : List Record) (a : List ℕ) → SpellsBatch format b a → length a ≡ batch_length b
batch_long format b a p =
    let head : length p.head ≡ 8 = head_long (length p.body) (length b) p.head p.counts in
    let body : length p.body ≡ sum_by record_length b = records_long b p.body p.spelled.1 in
    let digest : length (sha256 (p.head ++ p.body)) ≡ 32 = length-sha256 (p.head ++ p.body) in
    ap length p.whole ∙ omega (arith, length-append (p.head ++ p.body) (sha256 (p.head ++ p.body)), length-append p.head p.body, head, body, digest)
