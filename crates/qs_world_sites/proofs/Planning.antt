-- What is planned for a link is a plan, fault by fault.
use Rattle.std.proofs.Common.{◌≡◌, ◌≢◌, ℕ, Bool, true, false, refl, arith, List, [], ◌∷◌, ◌++◌, if◌then◌else◌}
use Rattle.std.specs.Prelude.{◌||◌, fold}
use Rattle.std.specs.List.{flat_map, list_any}
use Rattle.std.proofs.lemmas.Bool.Decides.{nat_tests}
use Rattle.std.proofs.lemmas.List.Elements.{All-nil, All-push}
use Rattle.qs_book_script.specs.declared.script.FaultLine.{FaultLine}
use Rattle.qs_link.specs.declared.outgoing.LinkFault.{LinkFault}
use Rattle.qs_link.specs.declared.outgoing.LinkFault.TheVariants.{Drop, Again, Hold}
use Rattle.qs_link.specs.Plan.{HoldsSome, NamesOnce, IsPlan, packet_of, is_of, holds_none}
use Rattle.qs_world_sites.specs.Seats.{add_fault, fault_on, plan_between}

-- neither of two tests passes
neither : (p q : Bool) → (p || q) ≡ false → (p ≡ false) × (q ≡ false)
neither true q none = absurd (cc none)
neither false q none = (refl, none)

other_packet : (n : ℕ) (f : LinkFault) → is_of n f ≡ false → n ≢ packet_of f
other_packet n f is = grind (arith, nat_tests, is)

once_more : (plan : List LinkFault) (f : LinkFault) → list_any (is_of (packet_of f)) plan ≡ false → NamesOnce plan → NamesOnce (plan ++ f ∷ [])
once_more [] f none once = (All-nil (λ other. packet_of other ≢ packet_of f), tt)
once_more (g ∷ plan) f none once =
    let both = neither (is_of (packet_of f) g) (list_any (is_of (packet_of f)) plan) none in
    (All-push (λ other. packet_of other ≢ packet_of g) plan f once.0 (other_packet (packet_of f) g both.0), once_more plan f both.1 once.1)

holds_one : (f : LinkFault) → holds_none f ≡ false → HoldsSome (f ∷ [])
holds_one (Drop packet) some = tt
holds_one (Again packet) some = tt
holds_one (Hold packet count) some = (grind (arith, nat_tests, some), tt)

holds_more : (plan : List LinkFault) (f : LinkFault) → holds_none f ≡ false → HoldsSome plan → HoldsSome (plan ++ f ∷ [])
holds_more [] f some held = holds_one f some
holds_more (Drop packet ∷ plan) f some held = holds_more plan f some held
holds_more (Again packet ∷ plan) f some held = holds_more plan f some held
holds_more (Hold packet count ∷ plan) f some held = (held.0, holds_more plan f some held.1)

plan_more : (plan : List LinkFault) (f : LinkFault) → IsPlan plan → IsPlan (add_fault plan f)
plan_more plan f is = by (holds_none f || list_any (is_of (packet_of f)) plan) refl
  where
    by : (b : Bool) → (holds_none f || list_any (is_of (packet_of f)) plan) ≡ b → IsPlan (if b then plan else plan ++ f ∷ [])
    by true none = is
    by false none =
        let both = neither (holds_none f) (list_any (is_of (packet_of f)) plan) none in
        record { once = once_more plan f both.1 is.once; held = holds_more plan f both.0 is.held }

plans : (plan faults : List LinkFault) → IsPlan plan → IsPlan (fold add_fault plan faults)
plans plan [] is = is
plans plan (f ∷ faults) is = plans (add_fault plan f) faults (plan_more plan f is)

pub between_plans : (n m : ℕ) (lines : List FaultLine) → IsPlan (plan_between n m lines)
between_plans n m lines = plans [] (flat_map (λ line. fault_on n m line.fault) lines) (record { once = tt; held = tt })
