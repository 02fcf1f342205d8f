-- A place as a number: 256 times its incarnation, and its node. Incarnations begin at 1, so no place is 0, and a later one is greater.
use Rattle.std.specs.Prelude.{ℕ, ◌+◌, ◌*◌, ◌==◌, if◌then◌else◌}
use Rattle.qs_base.specs.declared.identifiers.Class.{Class}
use Rattle.qs_base.specs.declared.identifiers.Class.TheVariants as classes
use Rattle.qs_base.specs.declared.identifiers.Tid.{Tid}
use Rattle.qs_world_agree.specs.World as machine

abbrev pub place : ℕ → ℕ → ℕ
place n inc = 256 * inc + n

-- the place of a node that is known in that incarnation; 0 for none
abbrev pub known_place : ℕ → ℕ → ℕ
known_place m inc = if inc == 0 then 0 else place m inc

-- where the transaction began
abbrev pub home_place : Tid → ℕ
home_place tid = place tid.home.0 tid.inc

abbrev pub class_in : Class → machine.Class
class_in classes.Recoverable = machine.Recoverable
class_in classes.Volatile = machine.Volatile
class_in classes.Immediate = machine.Immediate
class_in classes.Standard = machine.OnePhase
class_in classes.Delayed = machine.OnePhase
class_in classes.Activity = machine.Activity
