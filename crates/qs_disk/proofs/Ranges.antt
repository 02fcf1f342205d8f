-- Parts of lists, and lists with a part put in their place.
use Rattle.std.proofs.Common.{◌≡◌, ◌≤◌, ◌+◌, ◌-◌, ℕ, zero, suc, List, [], ◌∷◌, ◌++◌, length, take, drop, refl, sym, ◌∙◌, ap, subst, arith, append_assoc, zero-add}
use Rattle.std.proofs.Math.Seq.{take-append_seam, drop-append_seam, drop-nil}
use Rattle.std.proofs.lemmas.List.{length-append, length-take-le, length-drop, take-append-le, take-append-drop, drop-take}
use Rattle.std.proofs.lemmas.Slice.{drop-append-drop}
use Rattle.qs_disk.specs.Disk.{Torn, range, with_range}

pub drop_drop : {A : Type 0} (at count : ℕ) (xs : List A) → drop count (drop at xs) ≡ drop (at + count) xs
drop_drop zero count xs = ap (λ n. drop n xs) (sym (zero-add count))
drop_drop {A} (suc at) count [] = drop-nil {A = A} count ∙ sym (drop-nil {A = A} (suc at + count))
drop_drop (suc at) count (x ∷ xs) = let e : suc at + count ≡ suc (at + count) = omega arith in rw e (drop_drop at count xs)

pub take_take : {A : Type 0} (n m : ℕ) (xs : List A) → n ≤ m → take n (take m xs) ≡ take n xs
take_take zero m xs few = refl
take_take (suc n) zero xs few = absurd (omega arith)
take_take (suc n) (suc m) [] few = refl
take_take (suc n) (suc m) (x ∷ xs) few = ap (λ t. x ∷ t) (take_take n m xs (omega arith))

-- a list from the part before a range, the range and the part after it
pub whole : {A : Type 0} (at count : ℕ) (xs : List A) → take at xs ++ take count (drop at xs) ++ drop (at + count) xs ≡ xs
whole at count xs =
    append_assoc (take at xs) (take count (drop at xs)) (drop (at + count) xs)
    ∙ ap (λ t. take at xs ++ t) (ap (λ t. take count (drop at xs) ++ t) (sym (drop_drop at count xs)) ∙ take-append-drop count (drop at xs))
    ∙ take-append-drop at xs

-- where the three parts of such a list meet
pub take_seams : {A : Type 0} (at : ℕ) (front part rest : List A) → length front ≡ at → take at (front ++ part ++ rest) ≡ front
take_seams at front part rest long = rw (sym long) (rw append_assoc (take-append_seam front (part ++ rest)))

pub drop_seams : {A : Type 0} (end : ℕ) (front part rest : List A) → length front + length part ≡ end → drop end (front ++ part ++ rest) ≡ rest
drop_seams end front part rest long = rw (sym long) (rw (sym (length-append front part)) (drop-append_seam (front ++ part) rest))

-- what lies before a part put in place, and behind it
pub take_before : {A : Type 0} (n at : ℕ) (xs part rest : List A) → n ≤ at → at ≤ length xs → take n (take at xs ++ part ++ rest) ≡ take n xs
take_before n at xs part rest few fits =
    let long : length (take at xs) ≡ at = length-take-le at xs fits in
    let enough : n ≤ length (take at xs) = omega arith in
    ap (take n) (append_assoc (take at xs) part rest) ∙ take-append-le n (take at xs) (part ++ rest) enough ∙ take_take n at xs few

pub drop_behind : {A : Type 0} (n at end : ℕ) (xs part : List A) → end ≤ n → at ≤ length xs → at + length part ≡ end → drop n (take at xs ++ part ++ drop end xs) ≡ drop n xs
drop_behind n at end xs part many fits long =
    let front : length (take at xs) ≡ at = length-take-le at xs fits in
    let both : length (take at xs ++ part) ≡ end = omega (arith, length-append (take at xs) part) in
    drop-append-drop end xs (take at xs ++ part) n many both

-- the list stays as long
pub length_put : {A : Type 0} (at end : ℕ) (xs part : List A) → end ≤ length xs → at + length part ≡ end → length (take at xs ++ part ++ drop end xs) ≡ length xs
length_put at end xs part fits long =
    let front : length (take at xs) ≡ at = length-take-le at xs (omega arith) in
    omega (arith, length-append (take at xs ++ part) (drop end xs), length-append (take at xs) part, length-drop end xs)

pub length_range : {A : Type 0} (at count : ℕ) (xs : List A) → at + count ≤ length xs → length (take count (drop at xs)) ≡ count
length_range at count xs fits =
    let left : count ≤ length (drop at xs) = omega (arith, length-drop at xs) in length-take-le count (drop at xs) left

-- ranges beside a write

-- a range that ends before a tear stays
pub range_before : (at count n m : ℕ) (old new : List ℕ) → Torn at count old new → n + m ≤ at → range n m new ≡ range n m old
range_before at count n m old new torn few =
    sym (drop-take n m new) ∙ ap (drop n) (sym (take_take (n + m) at new few) ∙ ap (take (n + m)) torn.before ∙ take_take (n + m) at old few) ∙ drop-take n m old

-- so does what lies behind it
pub drop_after : (at count n : ℕ) (old new : List ℕ) → Torn at count old new → at + count ≤ n → drop n new ≡ drop n old
drop_after at count n old new torn many =
    let e : at + count + (n - (at + count)) ≡ n = omega arith in
    let f : drop (at + count + (n - (at + count))) new ≡ drop (at + count + (n - (at + count))) old =
    sym (drop_drop (at + count) (n - (at + count)) new) ∙ ap (drop (n - (at + count))) torn.after ∙ drop_drop (at + count) (n - (at + count)) old in
    subst (λ k. drop k new ≡ drop k old) e f

pub range_behind : (at count n m : ℕ) (old new : List ℕ) → Torn at count old new → at + count ≤ n → range n m new ≡ range n m old
range_behind at count n m old new torn many = ap (take m) (drop_after at count n old new torn many)

-- what was written is read back
pub range_written : (at : ℕ) (bytes old : List ℕ) → at ≤ length old → range at (length bytes) (with_range old at bytes) ≡ bytes
range_written at bytes old fits =
    let long : length (take at old) ≡ at = length-take-le at old fits in
    let back : drop (length (take at old)) (take at old ++ (bytes ++ drop (at + length bytes) old)) ≡ bytes ++ drop (at + length bytes) old = drop-append_seam (take at old) (bytes ++ drop (at + length bytes) old) in
    ap (λ (xs : List ℕ). take (length bytes) (drop at xs)) (append_assoc (take at old) bytes (drop (at + length bytes) old))
    ∙ ap (take (length bytes)) (subst (λ n. drop n (take at old ++ (bytes ++ drop (at + length bytes) old)) ≡ bytes ++ drop (at + length bytes) old) long back)
    ∙ take-append_seam bytes (drop (at + length bytes) old)
