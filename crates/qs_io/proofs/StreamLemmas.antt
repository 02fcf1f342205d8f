-- What two calls in a row took or gave, as one.
use Rattle.std.proofs.Common.{◌≡◌, ◌≤◌, ◌+◌, ℕ, List, ◌++◌, length, take, drop, Option, None, Some, ap, ◌∙◌, sym, append_assoc, arith}
use Rattle.std.proofs.lemmas.List.{take-append-drop, length-append, length-take-le}
use Rattle.std.specs.Io.KnownBytes.{Consumes, Appends}
use Rattle.qs_io.specs.Streams.{TakesAtMost}

-- what was given, and then more
pub appends_more : (a b c : Option (List ℕ)) (xs ys : List ℕ) → Appends a b xs → Appends b c ys → Appends a c (xs ++ ys)
appends_more None b c xs ys p q = tt
appends_more (Some before) None c xs ys p q = absurd p
appends_more (Some before) (Some bs) None xs ys p q = absurd q
appends_more (Some before) (Some bs) (Some cs) xs ys p q = q ∙ ap (λ (l : List ℕ). l ++ ys) p ∙ append_assoc before xs ys

-- what was taken, and then more
pub consumes_more : (a b c : Option (List ℕ)) (xs ys : List ℕ) → Consumes a b xs → Consumes b c ys → Consumes a c (xs ++ ys)
consumes_more None b c xs ys p q = tt
consumes_more (Some before) None c xs ys p q = absurd p
consumes_more (Some before) (Some bs) None xs ys p q = absurd q
consumes_more (Some before) (Some bs) (Some cs) xs ys p q = p ∙ ap (λ (l : List ℕ). xs ++ l) q ∙ sym (append_assoc xs ys cs)

-- a text, and then the n bytes of a read, are few enough
pub takes_more : (limit n : ℕ) (a b c : Option (List ℕ)) (text buf : List ℕ) → Consumes a b text → Consumes b c (take n buf)
    → n ≤ length buf → length text + length buf ≤ limit → TakesAtMost limit a c
takes_more limit n a b c text buf p q fits few = record {
  taken = text ++ take n buf;
  consumed = consumes_more a b c text (take n buf) p q;
  few = omega (arith, length-append text (take n buf), length-take-le n buf fits, few, fits);
}

-- the rest splits where the piece ends
pub splits_on : (part front back rest text : List ℕ) (n : ℕ) → part ++ rest ≡ text → front ≡ take n rest → back ≡ drop n rest
    → (part ++ front) ++ back ≡ text
splits_on part front back rest text n whole is_front is_back =
    append_assoc part front back ∙ ap (λ (l : List ℕ). part ++ l) joined ∙ whole
  where
    joined : front ++ back ≡ rest
    joined = rw (is_front, is_back) (take-append-drop n rest)
