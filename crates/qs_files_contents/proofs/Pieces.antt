-- Texts in pieces, one behind the other.
use Rattle.std.proofs.Common.{◌≡◌, ℕ, ◌+◌, ◌<◌, ◌^◌, ◌++◌, List, [], ◌∷◌, length, Option, Some, None, refl, sym, ap, ◌∙◌, arith}
use Rattle.std.specs.Prelude.{Bool, true, false, nat_lt, if◌then◌else◌, IfSome}
use Rattle.std.specs.List.{concat, fold}
use Rattle.std.proofs.lemmas.Bool.Decides.{nat_tests}
use Rattle.std.proofs.lemmas.List.{append_assoc, append-nil, length-append}
use Rattle.qs_files_contents.specs.Texts.{Pieces, flat, joined, linked, piece_count, add_piece, IsSum}

pub concat-append : (xs ys : Pieces) → concat (xs ++ ys) ≡ concat xs ++ concat ys
concat-append [] ys = refl
concat-append (x ∷ xs) ys = ap (λ (l : List ℕ). x ++ l) (concat-append xs ys) ∙ sym (append_assoc x (concat xs) (concat ys))

pub fold-pieces : (ps : Pieces) (text : List ℕ) → fold add_piece text ps ≡ text ++ concat ps
fold-pieces [] text = sym (append-nil text)
fold-pieces (p ∷ ps) text = fold-pieces ps (text ++ p) ∙ append_assoc text p (concat ps)

-- what is told of two texts holds of both
pub sum-told : (a b r : Option ℕ) (xs ys : Pieces) → IfSome a (λ n. n ≡ length (concat xs)) → IfSome b (λ n. n ≡ length (concat ys)) → IfSome r (IsSum a b)
    → IfSome r (λ n. n ≡ length (concat (xs ++ ys)))
sum-told a b None xs ys is also sum = tt
sum-told None b (Some n) xs ys is also sum = absurd sum
sum-told (Some a) None (Some n) xs ys is also sum = absurd sum
sum-told (Some a) (Some b) (Some n) xs ys is also sum =
    let whole : length (concat (xs ++ ys)) ≡ length (concat xs) + length (concat ys) = ap (λ (l : List ℕ). length l) (concat-append xs ys) ∙ length-append (concat xs) (concat ys) in
    omega (arith, is, also, sum, whole)

both-few : (b : Bool) (text more : Pieces) → b ≡ true → (if b then text ++ more else text) ≡ text ++ more
both-few true text more is = refl
both-few false text more is = absurd (cc)

pub few : (a b : ℕ) → a + b < 2 ^ 63 → nat_lt (a + b) (2 ^ 63) ≡ true
few a b lt = grind (arith, nat_tests, lt)

-- the text of both, where they have not too many pieces
pub flat-linked : (a b : Option Pieces) → piece_count a + piece_count b < 2 ^ 63 → flat (linked a b) ≡ joined (flat a) (flat b)
flat-linked None b lt = refl
flat-linked (Some x) None lt = refl
flat-linked (Some x) (Some y) lt =
    ap (λ (l : Pieces). Some (concat l)) (both-few (nat_lt (length x + length y) (2 ^ 63)) x y (few (length x) (length y) lt))
    ∙ ap (λ (l : List ℕ). Some l) (concat-append x y)

pub joined-assoc : (a b c : Option (List ℕ)) → joined (joined a b) c ≡ joined a (joined b c)
joined-assoc None b c = refl
joined-assoc (Some x) None None = refl
joined-assoc (Some x) None (Some z) = refl
joined-assoc (Some x) (Some y) None = refl
joined-assoc (Some x) (Some y) (Some z) = ap (λ (l : List ℕ). Some l) (append_assoc x y z)

pub joined-none : (a : Option (List ℕ)) → joined a None ≡ a
joined-none None = refl
joined-none (Some x) = refl

pub linked-none : (a : Option Pieces) → linked a None ≡ a
linked-none None = refl
linked-none (Some x) = refl
