-- What a script has planned for a link is a plan: a fault that would be the second of its packet, or that holds it back for none, is left out.
use Rattle.std.proofs.Common.{◌≡◌, ◌≢◌, refl, ℕ, Bool, true, false, List, [], ◌∷◌, ◌++◌, arith, if◌then◌else◌}
use Rattle.std.specs.Prelude.{◌||◌, fold}
use Rattle.std.specs.List.{flat_map, list_any}
use Rattle.std.proofs.lemmas.Bool.Decides.{nat_tests}
use Rattle.std.proofs.lemmas.List.Elements.{All-append, All-cons, All-nil}
use Rattle.qs_book_script.specs.declared.script.FaultLine.{FaultLine}
use Rattle.qs_link.specs.Plan.{HoldsSome, IsPlan, NamesOnce, holds_none, is_of, packet_of}
use Rattle.qs_link.specs.declared.outgoing.LinkFault.{LinkFault}
use Rattle.qs_link.specs.declared.outgoing.LinkFault.TheVariants.{Again, Drop, Hold}
use Rattle.qs_world_sites.specs.Seats.{add_fault, fault_on, plan_between}

-- ---- one more fault stands behind the others

abbrev IsNot : LinkFault → LinkFault → Type 0
IsNot fault other = packet_of other ≢ packet_of fault

-- of two tests of which none holds, neither does
pub neither : (a b : Bool) → (a || b) ≡ false → (a ≡ false) × (b ≡ false)
neither true b none = absurd (grind (arith, none))
neither false b none = (refl, none)

apart : (x f : LinkFault) → is_of (packet_of f) x ≡ false → packet_of f ≢ packet_of x
apart x f none = grind (arith, nat_tests, none)

once_more : (plan : List LinkFault) (f : LinkFault) → list_any (is_of (packet_of f)) plan ≡ false → NamesOnce plan → NamesOnce (plan ++ f ∷ [])
once_more [] f none once = (All-nil (IsNot f), tt)
once_more (x ∷ plan) f none once =
    let both : (is_of (packet_of f) x ≡ false) × (list_any (is_of (packet_of f)) plan ≡ false) = neither (is_of (packet_of f) x) (list_any (is_of (packet_of f)) plan) none in
    (All-append (IsNot x) plan (f ∷ []) once.0 (All-cons (IsNot x) f [] (apart x f both.0) (All-nil (IsNot x))), once_more plan f both.1 once.1)

held_one : (f : LinkFault) → holds_none f ≡ false → HoldsSome (f ∷ [])
held_one (Drop packet) some = tt
held_one (Again packet) some = tt
held_one (Hold packet count) some = (grind (arith, nat_tests, some), tt)

held_more : (plan : List LinkFault) (f : LinkFault) → holds_none f ≡ false → HoldsSome plan → HoldsSome (plan ++ f ∷ [])
held_more [] f some held = held_one f some
held_more (Drop packet ∷ plan) f some held = held_more plan f some held
held_more (Again packet ∷ plan) f some held = held_more plan f some held
held_more (Hold packet count ∷ plan) f some held = (held.0, held_more plan f some held.1)

-- ---- all of them

added : (plan : List LinkFault) (f : LinkFault) → IsPlan plan → IsPlan (add_fault plan f)
added plan f is = by (holds_none f) (list_any (is_of (packet_of f)) plan) refl refl
  where
    by : (a b : Bool) → holds_none f ≡ a → list_any (is_of (packet_of f)) plan ≡ b → IsPlan (if a || b then plan else plan ++ f ∷ [])
    by true b some none = is
    by false true some none = is
    by false false some none = record { once = once_more plan f none is.once; held = held_more plan f some is.held }

all_added : (faults plan : List LinkFault) → IsPlan plan → IsPlan (fold add_fault plan faults)
all_added [] plan is = is
all_added (f ∷ faults) plan is = all_added faults (add_fault plan f) (added plan f is)

pub each_planned : (n m : ℕ) (lines : List FaultLine) → IsPlan (plan_between n m lines)
each_planned n m lines = all_added (flat_map (λ line. fault_on n m line.fault) lines) [] (record { once = tt; held = tt })
