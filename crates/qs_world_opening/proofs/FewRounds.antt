-- A script that is read has 4,096 commands and 64 fault lines at most, and so few rounds.
use Rattle.std.proofs.Common.{◌≡◌, ◌≤◌, ◌+◌, ◌*◌, ◌^◌, nat_lt, ℕ, true, List, [], ◌∷◌, ◌++◌, length, Option, Some, None, Ok, arith}
use Rattle.std.specs.Prelude.{find}
use Rattle.std.proofs.lemmas.Bool.Decides.{nat_tests}
use Rattle.std.proofs.lemmas.List.{length-append}
use Rattle.std.proofs.lemmas.Nat.{mul-le}
use Rattle.qs_base.specs.declared.identifiers.ClientNo.{ClientNo}
use Rattle.qs_base.specs.declared.identifiers.ServerNo.{ServerNo}
use Rattle.qs_book_script.specs.Statements.{line_states}
use Rattle.qs_book_script.specs.declared.script.Script.{Script}
use Rattle.qs_book_script.specs.declared.script.Seat.{Seat}
use Rattle.qs_book_script.specs.declared.statement.Statement.{Statement}
use Rattle.qs_book_script.specs.declared.statement.Statement.TheVariants as states
use Rattle.qs_ops.specs.Operations.{server_of}
use Rattle.qs_ops.specs.declared.operation.Op.TheVariants as ops
use Rattle.qs_text_script.specs.Rules.{fits, fits_command, fits_fault, has_command_left, has_fault_left, loan_line, sits, with_line}
use Rattle.qs_text_script.specs.Script.{script_of}
use Rattle.qs_world_plans.specs.Budget.{budget_of, capped, most_budget, most_disk_crashes, rounds_each}
use Rattle.qs_world_opening.proofs.Reading.{read_all}
use Rattle.qs_world_opening.proofs.Tests.{parts}

record AreFew (script : Script) : Type 0 where
  commands : length script.lines ≤ 4096
  faults : length script.faults ≤ 64

-- ---- one line

one_more : {A : Type 0} (xs ys : List A) (limit : ℕ) → nat_lt (length xs) limit ≡ true → length ys ≤ 1 → length (xs ++ ys) ≤ limit
one_more xs ys limit left one = by (length xs) (length ys) (length (xs ++ ys)) left one (length-append xs ys)
  where
    by : (n m all : ℕ) → nat_lt n limit ≡ true → m ≤ 1 → all ≡ n + m → all ≤ limit
    by n m all left one is = grind (arith, nat_tests, left, one, is)

loan_short : (seat : Option Seat) (server : Option ServerNo) (client : ClientNo) (label : List ℕ) (to : ClientNo) (number : ℕ) → length (loan_line seat server client label to number) ≤ 1
loan_short None server client label to number = omega arith
loan_short (Some seat) None client label to number = omega arith
loan_short (Some seat) (Some server) client label to number = omega arith

few_more : (script : Script) (s : Statement) → fits script s ≡ true → AreFew script → AreFew (with_line script s)
few_more script states.Nothing fit few = record { commands = few.commands; faults = few.faults }
few_more script (states.Seated seat) fit few = record { commands = few.commands; faults = few.faults }
few_more script (states.Limited quota) fit few = record { commands = few.commands; faults = few.faults }
few_more script (states.Audited node) fit few = record { commands = few.commands; faults = few.faults }
few_more script (states.Fault planned) fit few =
    let left = parts (has_fault_left script.faults) (fits_fault planned) fit in
    record { commands = few.commands; faults = one_more script.faults (record { line = script.count + 1; fault = planned } ∷ []) 64 left.0 (omega arith) }
few_more script (states.Order client label command) fit few =
    let left = parts (has_command_left script.lines) (fits_command command) fit in
    record { commands = one_more script.lines (record { client = client; line = script.count + 1; label = label; command = command } ∷ []) 4096 left.0 (omega arith); faults = few.faults }
few_more script (states.Lend client label to) fit few = record {
  commands = one_more script.lines (loan_line (find (sits to.0) script.seats) (server_of (ops.Lend to)) client label to (script.count + 1)) 4096 fit
      (loan_short (find (sits to.0) script.seats) (server_of (ops.Lend to)) client label to (script.count + 1));
  faults = few.faults;
}
few_more script (states.Unreadable fault) fit few = record { commands = few.commands; faults = few.faults }

-- ---- the rounds

capped_at_most : (n most : ℕ) → n ≤ most → capped n ≤ most
capped_at_most n most le = omega arith

budget_at_most : (commands faults : ℕ) → commands ≤ 4096 → faults ≤ 64 → budget_of commands faults most_disk_crashes ≤ 2 ^ 32
budget_at_most commands faults few_commands few_faults =
    let each : capped (rounds_each * capped (commands + 1)) ≤ 16781312 = omega (arith, few_commands) in
    let stops : capped (capped (faults + most_disk_crashes) + 1) ≤ 129 = omega (arith, few_faults) in
    let all : capped (rounds_each * capped (commands + 1)) * capped (capped (faults + most_disk_crashes) + 1) ≤ 16781312 * 129 = mul-le _ _ 16781312 129 each stops in
    capped_at_most (capped (rounds_each * capped (commands + 1)) * capped (capped (faults + most_disk_crashes) + 1)) (2 ^ 32) (omega (arith, all))

pub few_rounds : (nodes : ℕ) (text : List ℕ) (script : Script) → script_of nodes text ≡ Ok script → most_budget script ≤ 2 ^ 32
few_rounds nodes text script is = budget_at_most (length script.lines) (length script.faults) few.commands few.faults
  where
    few : AreFew script
    few = read_all nodes AreFew (λ before line right was. few_more before (line_states line) right.fit was) text script (record { commands = omega arith; faults = omega arith }) is
