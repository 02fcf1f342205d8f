-- Ranges of bytes: within another range, outside of a torn write, and where bytes were put.
use Rattle.std.proofs.Common.{◌≡◌, ◌≤◌, ◌<◌, ◌+◌, ◌-◌, ℕ, List, [], ◌∷◌, ◌++◌, length, get_or, take, drop, refl, sym, ◌∙◌, ap, arith, append_assoc}
use Rattle.std.proofs.lemmas.List.{take-take, drop-drop, drop-take, take-append-drop, length-take-le, take_at, drop_at, get_or-take, get_or-drop}
use Rattle.qs_disk.specs.Disk.{Torn, range, with_range}
use Rattle.qs_disk.proofs.Moments.{torn_with_range}

-- ---- ranges of ranges

pub range_within : (i k n l : ℕ) (xs : List ℕ) → i + k ≤ l → range i k (range n l xs) ≡ range (n + i) k xs
range_within i k n l xs fits =
    let whole : i + (l - i) ≡ l = omega arith in
    ap (λ (m : ℕ). take k (drop i (take m (drop n xs)))) (sym whole)
    ∙ ap (take k) (drop-take i (l - i) (drop n xs))
    ∙ take-take k (l - i) (drop i (drop n xs)) (omega arith)
    ∙ ap (take k) (drop-drop i n xs)

-- parts of ranges that are the same are the same
pub same_within : (p q l i k : ℕ) (xs ys : List ℕ) → i + k ≤ l → range p l xs ≡ range q l ys → range (p + i) k xs ≡ range (q + i) k ys
same_within p q l i k xs ys fits e =
    sym (range_within i k p l xs fits) ∙ ap (range i k) e ∙ range_within i k q l ys fits

-- the range of the first bytes, and of the last
pub range_of_take : (n k at : ℕ) (xs : List ℕ) → n + k ≤ at → range n k (take at xs) ≡ range n k xs
range_of_take n k at xs fits =
    let whole : n + (at - n) ≡ at = omega arith in
    ap (λ (m : ℕ). take k (drop n (take m xs))) (sym whole)
    ∙ ap (take k) (drop-take n (at - n) xs)
    ∙ take-take k (at - n) (drop n xs) (omega arith)

pub range_of_drop : (i k n : ℕ) (xs : List ℕ) → range i k (drop n xs) ≡ range (n + i) k xs
range_of_drop i k n xs = ap (take k) (drop-drop i n xs)

-- the byte at a place is the range of one byte there
pub get_of_range : (n : ℕ) (xs : List ℕ) → get_or (range n 1 xs) 0 0 ≡ get_or xs n 0
get_of_range n xs =
    let none : n + 0 ≡ n = omega arith in
    get_or-take 1 (drop n xs) 0 0 (omega arith) ∙ get_or-drop n xs 0 0 ∙ ap (λ (m : ℕ). get_or xs m 0) none

pub same_get : (p q : ℕ) (xs ys : List ℕ) → range p 1 xs ≡ range q 1 ys → get_or xs p 0 ≡ get_or ys q 0
same_get p q xs ys e = sym (get_of_range p xs) ∙ ap (λ (part : List ℕ). get_or part 0 0) e ∙ get_of_range q ys

-- ---- outside of a torn write

pub torn_range_before : (at count n k : ℕ) (old new : List ℕ) → Torn at count old new → n + k ≤ at → range n k new ≡ range n k old
torn_range_before at count n k old new torn fits =
    sym (range_of_take n k at new fits) ∙ ap (range n k) torn.before ∙ range_of_take n k at old fits

pub torn_drop : (at count n : ℕ) (old new : List ℕ) → Torn at count old new → at + count ≤ n → drop n new ≡ drop n old
torn_drop at count n old new torn fits =
    let whole : at + count + (n - (at + count)) ≡ n = omega arith in
    ap (λ (m : ℕ). drop m new) (sym whole)
    ∙ sym (drop-drop (n - (at + count)) (at + count) new)
    ∙ ap (drop (n - (at + count))) torn.after
    ∙ drop-drop (n - (at + count)) (at + count) old
    ∙ ap (λ (m : ℕ). drop m old) whole

pub torn_range_behind : (at count n k : ℕ) (old new : List ℕ) → Torn at count old new → at + count ≤ n → range n k new ≡ range n k old
torn_range_behind at count n k old new torn fits = ap (take k) (torn_drop at count n old new torn fits)

pub torn_take : (at count n : ℕ) (old new : List ℕ) → Torn at count old new → n ≤ at → take n new ≡ take n old
torn_take at count n old new torn fits =
    sym (take-take n at new fits) ∙ ap (take n) torn.before ∙ take-take n at old fits

pub torn_get_before : (at count n : ℕ) (old new : List ℕ) → Torn at count old new → n < at → get_or new n 0 ≡ get_or old n 0
torn_get_before at count n old new torn before =
    same_get n n new old (torn_range_before at count n 1 old new torn (omega arith))

pub torn_get_behind : (at count n : ℕ) (old new : List ℕ) → Torn at count old new → at + count ≤ n → get_or new n 0 ≡ get_or old n 0
torn_get_behind at count n old new torn behind =
    same_get n n new old (torn_range_behind at count n 1 old new torn behind)

-- a write of no bytes
pub torn_nowhere : (at : ℕ) (old new : List ℕ) → Torn at 0 old new → new ≡ old
torn_nowhere at old new torn =
    sym (take-append-drop at new)
    ∙ ap (λ (front : List ℕ). front ++ drop at new) torn.before
    ∙ ap (λ (rest : List ℕ). take at old ++ rest) (torn_drop at 0 at old new torn (omega arith))
    ∙ take-append-drop at old

-- a wider range
pub torn_wider : (at count n k : ℕ) (old new : List ℕ) → n ≤ at → at + count ≤ n + k → Torn at count old new → Torn n k old new
torn_wider at count n k old new before behind torn = record {
  before = torn_take at count n old new torn before;
  after = torn_drop at count (n + k) old new torn behind;
  as_long = torn.as_long;
}

-- two writes, one after the other
pub torn_again : (at count : ℕ) (a b c : List ℕ) → Torn at count a b → Torn at count b c → Torn at count a c
torn_again at count a b c s t = record {
  before = t.before ∙ s.before;
  after = t.after ∙ s.after;
  as_long = t.as_long ∙ s.as_long;
}

-- ---- where bytes were put

-- outside of them
pub put_range_before : (at n k : ℕ) (old part : List ℕ) → at + length part ≤ length old → n + k ≤ at → range n k (with_range old at part) ≡ range n k old
put_range_before at n k old part fits before =
    torn_range_before at (length part) n k old (with_range old at part) (torn_with_range at part old fits) before

pub put_range_behind : (at n k : ℕ) (old part : List ℕ) → at + length part ≤ length old → at + length part ≤ n → range n k (with_range old at part) ≡ range n k old
put_range_behind at n k old part fits behind =
    torn_range_behind at (length part) n k old (with_range old at part) (torn_with_range at part old fits) behind

pub put_long : (at : ℕ) (old part : List ℕ) → at + length part ≤ length old → length (with_range old at part) ≡ length old
put_long at old part fits = (torn_with_range at part old fits).as_long

-- and there
pub put_range : (at : ℕ) (old part : List ℕ) → at + length part ≤ length old → range at (length part) (with_range old at part) ≡ part
put_range at old part fits =
    let rest : List ℕ = drop (at + length part) old in
    ap (λ (xs : List ℕ). range at (length part) xs) (append_assoc (take at old) part rest)
    ∙ ap (take (length part)) (drop_at (take at old) (part ++ rest) at (length-take-le at old (omega arith)))
    ∙ take_at part rest (length part) refl

pub put_get : (at b : ℕ) (old : List ℕ) → at < length old → get_or (with_range old at (b ∷ [])) at 0 ≡ b
put_get at b old inside =
    sym (get_of_range at (with_range old at (b ∷ [])))
    ∙ ap (λ (part : List ℕ). get_or part 0 0) (put_range at old (b ∷ []) (omega arith))

-- no bytes
pub put_nothing : (at : ℕ) (old : List ℕ) → with_range old at [] ≡ old
put_nothing at old =
    append_assoc (take at old) [] (drop (at + 0) old)
    ∙ ap (λ (n : ℕ). take at old ++ drop n old) (let none : at + 0 ≡ at = omega arith in none)
    ∙ take-append-drop at old
