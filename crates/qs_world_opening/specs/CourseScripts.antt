-- What a script that was read gives a run beside what the run may begin with: the course of a journal begins with just the clients and settings of its opening, and
-- clients command what they may.
use Rattle.std.specs.Prelude.{◌≡◌, ⊤, ℕ, ◌<◌, ◌≤◌, true, false, List, [], Option, None, Some, Ok, is_some, nat_lt, slice_get}
use Rattle.std.specs.Global.{Global}
use Rattle.std.specs.List.{AllByRecursion}
use Rattle.qs_base.specs.declared.identifiers.NodeNo.{NodeNo}
use Rattle.qs_ops.specs.declared.operation.Op.TheVariants.{Lend}
use Rattle.qs_book_journal.specs.declared.script_line.Command.{Command}
use Rattle.qs_book_journal.specs.declared.script_line.Command.TheVariants as commands
use Rattle.qs_book_journal.specs.declared.script_line.ScriptLine.{ScriptLine}
use Rattle.qs_record.specs.declared.record.Record.{Record}
use Rattle.qs_text_script.specs.Script.{script_of}
use Rattle.qs_book_script.specs.declared.script.Script.{Script}
use Rattle.qs_book_conformance.specs.Begun.{clients_of, no_client, nodes_of}
use Rattle.qs_book_conformance.specs.Course.{ClientValue, is_seat}
use Rattle.qs_book_conformance.specs.Files.{quota_of}
use Rattle.qs_world.specs.Moves.{client_count}
use Rattle.qs_world.specs.Openings.{has_label, labels_begun}
use Rattle.qs_world.specs.World.{Opening}
use Rattle.qs_world_opening.specs.Scripts.{opening_by}

-- ---- a line: an owner ends what it began, and gives nothing back; a client is lent to at its own node

abbrev pub IsSaidOf : List ClientValue → List (List ℕ) → List ℕ → Command → Type 0
IsSaidOf clients begun label commands.Commit = has_label begun label ≡ true
IsSaidOf clients begun label commands.Abort = has_label begun label ≡ true
IsSaidOf clients begun label commands.Yield = has_label begun label ≡ false
IsSaidOf clients begun label (commands.Request member (Lend client)) = (state : ClientValue) × ((slice_get clients client.0 ≡ Some state) × (is_seat state.seat member.node.0 ≡ true))
IsSaidOf clients begun label command = ⊤

pub record IsSaidLine (clients : List ClientValue) (begun : List (List ℕ)) (line : ScriptLine) : Type 0 where
  pub named : line.label ≡ [] → ⊥
  pub says : IsSaidOf clients begun line.label line.command

-- ---- a client: with its seat, where it has one, and its lines

pub record IsSeated (o : Opening) (script : Script) (k : ℕ) : Type 0 where
  pub seat : Option NodeNo
  pub there : slice_get (clients_of script) k ≡ Some (record no_client { seat = seat; left = (o.clients k).1 })
  pub sits : is_some seat ≡ true → is_seat seat (o.clients k).0 ≡ true
  pub silent : is_some seat ≡ false → (o.clients k).1 ≡ []
  pub lines : AllByRecursion (IsSaidLine (clients_of script) (labels_begun (o.clients k).1)) (o.clients k).1

-- ---- the whole

pub record IsScriptOf (o : Opening) (script : Script) : Type 0 where
  pub clients : (k : ℕ) → nat_lt k client_count ≡ true → IsSeated o script k
  pub audit : (n : ℕ) → n < o.size → (o.settings n).audit ≡ script.audit
  pub quotas : (n : ℕ) → n < o.size → quota_of (slice_get (nodes_of script) n) ≡ (o.settings n).quota
  pub ageless : (n : ℕ) → n < o.size → (o.settings n).age ≡ None

-- each script that is read is that of its run
abbrev pub ScriptIsOf : ℕ → List ℕ → Script → Type 0
ScriptIsOf nodes text script = 1 ≤ nodes → nodes ≤ 16 → script_of nodes text ≡ Ok script
    → (alloc : Global) (incs : ℕ → ℕ) (logs : ℕ → List Record) → IsScriptOf (opening_by alloc script nodes incs logs) script
