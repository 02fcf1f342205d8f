-- What is told of a reading of numbers, for any numbers that the words spell.
use Rattle.std.proofs.Common.{◌≡◌, ◌<◌, ℕ, ◌^◌, List, Some, subst}
use Rattle.std.specs.Prelude.{decimal}
use Rattle.qs_text_history.specs.Inner.Lifts.{lift1, lift2}
use Rattle.qs_text_history.specs.Inner.Words.{wide_of, number_below}
use Rattle.qs_text_history.proofs.IdentifierLemmas.{wide_back}
use Rattle.qs_text_history.proofs.LiftLemmas.{lifted1, lifted2}
use Rattle.qs_text_history.proofs.NumberLemmas.{number_spelled}

pub by_wide : {Y : Type 0} (P : Y → Type 0) (f : ℕ → Y) (a : List ℕ) (y : Y) → ((m : ℕ) → m < 2 ^ 64 → a ≡ decimal m → P (f m)) → lift1 f (wide_of a) ≡ Some y → P y
by_wide P f a y then e =
    let l = lifted1 f (wide_of a) y e in
    let m = wide_back a l.0 l.1.0 in
    subst P l.1.1 (then l.0 m.0 m.1)

pub by_below : {Y : Type 0} (limit : ℕ) (P : Y → Type 0) (f : ℕ → Y) (a : List ℕ) (y : Y) → ((m : ℕ) → m < limit → a ≡ decimal m → P (f m)) → lift1 f (number_below limit a) ≡ Some y → P y
by_below limit P f a y then e =
    let l = lifted1 f (number_below limit a) y e in
    let m = number_spelled limit a l.0 l.1.0 in
    subst P l.1.1 (then l.0 m.0 m.1)

pub by_two : {Y : Type 0} (P : Y → Type 0) (f : ℕ → ℕ → Y) (a b : List ℕ) (y : Y) → ((m n : ℕ) → m < 2 ^ 64 → n < 2 ^ 64 → a ≡ decimal m → b ≡ decimal n → P (f m n))
    → lift2 f (wide_of a) (wide_of b) ≡ Some y → P y
by_two P f a b y then e =
    let l = lifted2 f (wide_of a) (wide_of b) y e in
    let m = wide_back a l.0 l.1.1.0 in
    let n = wide_back b l.1.0 l.1.1.1.0 in
    subst P l.1.1.1.1 (then l.0 l.1.0 m.0 n.0 m.1 n.1)
