-- One more turn of a loop that gathers, or that changes a value item by item.
use Rattle.std.proofs.Common.{◌≡◌, ℕ, ◌+◌, ◌<◌, ◌∙◌, ap, sym, List, [], ◌++◌, take, length}
use Rattle.std.specs.Prelude.{get_or}
use Rattle.std.specs.List.{flat_map}
use Rattle.std.proofs.lemmas.List.{take_more, flat_map_more}

pub gathered : {X A : Type 0} (f : X → List A) (xs : List X) (i : ℕ) (d : X) (before after : List A) → i < length xs → before ≡ flat_map f (take i xs) → after ≡ before ++ f (get_or xs i d) → after ≡ flat_map f (take (i + 1) xs)
gathered f xs i d before after lt was now =
    now ∙ ap (λ bs. bs ++ f (get_or xs i d)) was
    ∙ flat_map_more f [] (take i xs) (get_or xs i d)
    ∙ ap (flat_map f) (sym (take_more xs i d lt))
