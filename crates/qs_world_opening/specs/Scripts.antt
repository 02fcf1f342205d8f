-- A run that a script begins, and when the script fits.
use Rattle.std.specs.Prelude.{◌≡◌, ℕ, ◌<◌, ◌≤◌, ◌^◌, ◌&&◌, List, Option, Some, None, Ok, find, true, nat_le}
use Rattle.std.specs.Global.{Global}
use Rattle.qs_world_plans.specs.Budget.{most_budget}
use Rattle.qs_world_plans.specs.Plan.{commands_of, setting_of}
use Rattle.qs_record.specs.declared.record.Record.{Record}
use Rattle.qs_text_script.specs.Rules.{sits}
use Rattle.qs_text_script.specs.Script.{script_of}
use Rattle.qs_book_script.specs.declared.script.Script.{Script}
use Rattle.qs_book_script.specs.declared.script.Seat.{Seat}
use Rattle.qs_world.specs.Moves.{client_count}
use Rattle.qs_world.specs.Openings.{IsOpening, all_labels, are_apart, each_below, is_script, is_setting}
use Rattle.qs_world.specs.World.{Opening}
use Rattle.qs_world_opening.specs.Coherent.{AreCoherentLogs}

-- ---- the opening

abbrev pub node_of : Option Seat → ℕ
node_of None = 0
node_of (Some seat) = seat.node.0

-- the node where a client sits; a client without a seat has no lines
abbrev pub place_of : List Seat → ℕ → ℕ
place_of seats client = node_of (find (sits client) seats)

-- a script over so many nodes, each in its incarnation over its log
abbrev pub opening_by : Global → Script → ℕ → (ℕ → ℕ) → (ℕ → List Record) → Opening
opening_by alloc script nodes incs logs = record {
  alloc = alloc;
  size = nodes;
  settings = λ n. setting_of script nodes (record { 0 = n }) (incs n);
  logs = logs;
  clients = λ k. (place_of script.seats k, commands_of (record { 0 = k }) script.lines);
}

-- ---- what is up to the script

pub record IsFit (o : Opening) : Type 0 where
  pub size : (nat_le 1 o.size && nat_le o.size 16) ≡ true
  pub settings : each_below o.size (λ n. is_setting o.size n (o.settings n)) ≡ true
  pub scripts : each_below client_count (λ k. is_script o.size k (o.clients k)) ≡ true
  pub labels : are_apart (all_labels o) ≡ true

-- over whatever logs, in whatever incarnations; and a run of it has few rounds
pub record Fits (nodes : ℕ) (script : Script) : Type 0 where
  pub opens : (alloc : Global) (incs : ℕ → ℕ) (logs : ℕ → List Record) → ((n : ℕ) → n < nodes → 0 < incs n) → IsFit (opening_by alloc script nodes incs logs)
  pub few : most_budget script ≤ 2 ^ 32

-- ---- the laws

-- each script that is read fits
abbrev pub ScriptFits : ℕ → List ℕ → Script → Type 0
ScriptFits nodes text script = 1 ≤ nodes → nodes ≤ 16 → script_of nodes text ≡ Ok script → Fits nodes script

-- a script that fits may begin over logs that are coherent, and over no others
abbrev pub MayBegin : Opening → Type 0
MayBegin o = IsFit o → AreCoherentLogs o.alloc o.size (λ n. (o.settings n).inc) o.logs → IsOpening o

abbrev pub BeginsCoherent : Global → Opening → Type 0
BeginsCoherent alloc o = IsOpening o → AreCoherentLogs alloc o.size (λ n. (o.settings n).inc) o.logs

-- logs stay coherent as the incarnations grow, and empty logs are
abbrev pub StayCoherent : Global → ℕ → (ℕ → ℕ) → (ℕ → ℕ) → (ℕ → List Record) → Type 0
StayCoherent alloc size incs later logs = ((n : ℕ) → n < size → incs n ≤ later n) → AreCoherentLogs alloc size incs logs → AreCoherentLogs alloc size later logs
