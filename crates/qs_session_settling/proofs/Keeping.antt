-- Facts that steps keep, put together.
use Rattle.std.proofs.Common.{◌⊎◌, Bool, ◌∷◌, inl, inr}
use Rattle.std.specs.Prelude.{⊤}
use Rattle.qs_session_settling.specs.Pairs.{Pair, swapped}
use Rattle.qs_session_settling.proofs.Staying.{pair_of}
use Rattle.qs_session_settling.proofs.Stages.{Keeps}

-- where more holds
pub keeps_for : {M : Type 0} → (hello : M) (quiet : Bool) (I J P : Pair M → Type 0) → ((pair : Pair M) → J pair → I pair) → Keeps hello quiet I P → Keeps hello quiet J P
keeps_for hello quiet I J P more k = record {
  bears = record {
    left_takes = λ a b la ps p is h. k.bears.left_takes a b la ps p (more (pair_of a b la (p ∷ ps)) is) h;
    left_sends = λ on a b la lb x stamp is h. k.bears.left_sends on a b la lb x stamp (more (pair_of a b la lb) is) h;
    left_ticks = λ a b la lb stamp is h. k.bears.left_ticks a b la lb stamp (more (pair_of a b la lb) is) h;
    right_sends = λ on a b la lb x stamp is h. k.bears.right_sends on a b la lb x stamp (more (pair_of a b la lb) is) h;
    right_ticks = λ a b la lb stamp is h. k.bears.right_ticks a b la lb stamp (more (pair_of a b la lb) is) h;
  };
  right_takes = λ a b ps lb p is h. k.right_takes a b ps lb p (more (pair_of a b (p ∷ ps) lb) is) h;
}

-- the other way round
pub keeps_swapped : {M : Type 0} → (hello : M) (quiet : Bool) (I P : Pair M → Type 0) → Keeps hello quiet I P → Keeps hello quiet (λ pair. I (swapped pair)) (λ pair. P (swapped pair))
keeps_swapped hello quiet I P k = record {
  bears = record {
    left_takes = λ a b la ps p is h. k.right_takes b a ps la p is h;
    left_sends = λ on a b la lb x stamp is h. k.bears.right_sends on b a lb la x stamp is h;
    left_ticks = λ a b la lb stamp is h. k.bears.right_ticks b a lb la stamp is h;
    right_sends = λ on a b la lb x stamp is h. k.bears.left_sends on b a lb la x stamp is h;
    right_ticks = λ a b la lb stamp is h. k.bears.left_ticks b a lb la stamp is h;
  };
  right_takes = λ a b ps lb p is h. k.bears.left_takes b a lb ps p is h;
}

either_by : {A B C D : Type 0} → (A → C) → (B → D) → A ⊎ B → C ⊎ D
either_by f g (inl x) = inl (f x)
either_by f g (inr y) = inr (g y)

-- one of two facts
pub keeps_either : {M : Type 0} → (hello : M) (quiet : Bool) (I P Q : Pair M → Type 0) → Keeps hello quiet I P → Keeps hello quiet I Q → Keeps hello quiet I (λ pair. P pair ⊎ Q pair)
keeps_either hello quiet I P Q k l = record {
  bears = record {
    left_takes = λ a b la ps p is h. either_by (k.bears.left_takes a b la ps p is) (l.bears.left_takes a b la ps p is) h;
    left_sends = λ on a b la lb x stamp is h. either_by (k.bears.left_sends on a b la lb x stamp is) (l.bears.left_sends on a b la lb x stamp is) h;
    left_ticks = λ a b la lb stamp is h. either_by (k.bears.left_ticks a b la lb stamp is) (l.bears.left_ticks a b la lb stamp is) h;
    right_sends = λ on a b la lb x stamp is h. either_by (k.bears.right_sends on a b la lb x stamp is) (l.bears.right_sends on a b la lb x stamp is) h;
    right_ticks = λ a b la lb stamp is h. either_by (k.bears.right_ticks a b la lb stamp is) (l.bears.right_ticks a b la lb stamp is) h;
  };
  right_takes = λ a b ps lb p is h. either_by (k.right_takes a b ps lb p is) (l.right_takes a b ps lb p is) h;
}

-- nothing
pub keeps_nothing : {M : Type 0} → (hello : M) (quiet : Bool) (I : Pair M → Type 0) → Keeps hello quiet I (λ pair. ⊤)
keeps_nothing hello quiet I = record {
  bears = record {
    left_takes = λ a b la ps p is h. tt;
    left_sends = λ on a b la lb x stamp is h. tt;
    left_ticks = λ a b la lb stamp is h. tt;
    right_sends = λ on a b la lb x stamp is h. tt;
    right_ticks = λ a b la lb stamp is h. tt;
  };
  right_takes = λ a b ps lb p is h. tt;
}
