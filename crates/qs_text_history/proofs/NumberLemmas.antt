-- Facts about the words that are numbers below a limit.
use Rattle.std.proofs.Common.{◌≡◌, ◌<◌, ◌≤◌, ℕ, ◌^◌, List, Option, Some, None, refl, ap, subst, arith}
use Rattle.std.specs.Prelude.{decimal}
use Rattle.std.proofs.lemmas.Bool.{lt-ltb}
use Rattle.qs_book_script.specs.Numbers.{below, number_of}
use Rattle.qs_book_script.proofs.NumberLemmas.{below_is}
use Rattle.qs_book_script.proofs.WordLemmas.{one_spelling}
use Rattle.qs_text_history.specs.Inner.Words.{wide_of, number_below}

below_some : (limit n : ℕ) (number : Option ℕ) → below limit number ≡ Some n → (n < limit) × (number ≡ Some n)
below_some limit n None e = cc
below_some limit n (Some value) e = let b = below_is limit value n e in (subst (λ v. v < limit) b.1 b.0, ap Some b.1)

pub number_spelled : (limit : ℕ) (word : List ℕ) (n : ℕ) → number_below limit word ≡ Some n → (n < limit) × (word ≡ decimal n)
unfolding number_below wide_of
number_spelled limit word n e =
    let b = below_some limit n (number_of word) e in
    (b.0, ((one_spelling word n).0 b.1).1)

pub number_read : (limit n : ℕ) → limit ≤ 2 ^ 64 → n < limit → number_below limit (decimal n) ≡ Some n
unfolding number_below wide_of
number_read limit n fits small =
    let whole : number_of (decimal n) ≡ Some n = (one_spelling (decimal n) n).1 (omega arith, refl) in
    rw (whole, lt-ltb n limit small) refl
