-- Facts about the causes that words spell.
use Rattle.std.proofs.Common.{◌≡◌, ◌<◌, ℕ, List, [], ◌∷◌, length, None, refl, arith}
use Rattle.qs_text_history.specs.Inner.Answers.{voted_of}

pub too_short : (words : List (List ℕ)) → length words < 3 → voted_of words ≡ None
too_short [] h = refl
too_short (one ∷ []) h = refl
too_short (one ∷ two ∷ []) h = refl
too_short (one ∷ two ∷ three ∷ rest) h = absurd (omega arith)
