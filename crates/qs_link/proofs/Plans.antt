-- When faults are a plan, fault by fault.
use Rattle.std.proofs.Common.{◌≡◌, ◌≢◌, ◌↔◌, ℕ, Bool, true, false, refl, sym, subst, arith, List, [], ◌∷◌}
use Rattle.std.specs.Prelude.{All, ◌||◌}
use Rattle.std.specs.List.{list_any}
use Rattle.std.proofs.lemmas.Bool.Decides.{nat_tests}
use Rattle.std.proofs.lemmas.List.Elements.{All-cons, All-head, All-tail}
use Rattle.qs_link.specs.declared.outgoing.LinkFault.{LinkFault}
use Rattle.qs_link.specs.declared.outgoing.LinkFault.TheVariants.{Drop, Again, Hold}
use Rattle.qs_link.specs.Plan.{HoldsSome, NamesOnce, IsPlan, packet_of, is_of, holds_none}

one_more : (n : ℕ) (f : LinkFault) (plan : List LinkFault) (is rest : Bool) → is_of n f ≡ is → (is || rest) ≡ false → (rest ≡ false → All (λ other. packet_of other ≢ n) plan) → All (λ other. packet_of other ≢ n) (f ∷ plan)
one_more n f plan true rest e none others = absurd (grind (arith, none))
one_more n f plan false rest e none others = All-cons (λ other. packet_of other ≢ n) f plan (grind (arith, nat_tests, e)) (others none)

-- where the packet has no fault, each is of another one
no_other : (n : ℕ) (plan : List LinkFault) → list_any (is_of n) plan ≡ false → All (λ other. packet_of other ≢ n) plan
no_other n [] none = λ k d lt. absurd (omega (arith, lt))
no_other n (f ∷ plan) none = one_more n f plan (is_of n f) (list_any (is_of n) plan) refl none (no_other n plan)

one_less : (n : ℕ) (f : LinkFault) (is rest : Bool) → is_of n f ≡ is → (is || rest) ≡ true → packet_of f ≢ n → (rest ≡ true → ⊥) → ⊥
one_less n f true rest e some other others = other (grind (arith, nat_tests, e))
one_less n f false rest e some other others = others some

-- and where it has one, not each is
some_other : (n : ℕ) (plan : List LinkFault) → list_any (is_of n) plan ≡ true → All (λ other. packet_of other ≢ n) plan → ⊥
some_other n [] some h = grind (arith, some)
some_other n (f ∷ plan) some h = one_less n f (is_of n f) (list_any (is_of n) plan) refl some (All-head (λ other. packet_of other ≢ n) f plan h) (λ more. some_other n plan more (All-tail (λ other. packet_of other ≢ n) f plan h))

holds_some : (f : LinkFault) (plan : List LinkFault) → holds_none f ≡ false → HoldsSome plan → HoldsSome (f ∷ plan)
holds_some (Drop packet) plan some h = h
holds_some (Again packet) plan some h = h
holds_some (Hold packet count) plan some h = (grind (arith, nat_tests, some), h)

holds_not : (f : LinkFault) (plan : List LinkFault) → holds_none f ≡ true → HoldsSome (f ∷ plan) → ⊥
holds_not (Drop packet) plan none h = grind (arith, none)
holds_not (Again packet) plan none h = grind (arith, none)
holds_not (Hold packet count) plan none h = grind (arith, nat_tests, none, h.0)

holds_rest : (f : LinkFault) (plan : List LinkFault) → HoldsSome (f ∷ plan) → HoldsSome plan
holds_rest (Drop packet) plan h = h
holds_rest (Again packet) plan h = h
holds_rest (Hold packet count) plan h = h.1

-- the first one holds back for none
pub not_held : (faults plan : List LinkFault) (f : LinkFault) → faults ≡ f ∷ plan → holds_none f ≡ true → IsPlan faults → ⊥
not_held faults plan f e none is = holds_not f plan none (subst HoldsSome e is.held)

-- the first one's packet has another
pub not_once : (faults plan : List LinkFault) (f : LinkFault) → faults ≡ f ∷ plan → list_any (is_of (packet_of f)) plan ≡ true → IsPlan faults → ⊥
not_once faults plan f e some is = some_other (packet_of f) plan some (subst NamesOnce e is.once).0

-- the first one is right
pub as_rest : (faults plan : List LinkFault) (f : LinkFault) → faults ≡ f ∷ plan → holds_none f ≡ false → list_any (is_of (packet_of f)) plan ≡ false → IsPlan faults ↔ IsPlan plan
as_rest faults plan f e some none = (
  λ is. record { once = (subst NamesOnce e is.once).1; held = holds_rest f plan (subst HoldsSome e is.held) },
  λ is. subst IsPlan (sym e) (record { once = (no_other (packet_of f) plan none, is.once); held = holds_some f plan some is.held }),
)
