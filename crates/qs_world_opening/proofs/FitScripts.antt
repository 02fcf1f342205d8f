-- Each script that is read fits: what holds of the lines so far goes on line by line, and so to each client.
use Rattle.std.proofs.Common.{◌≡◌, ℕ, ◌+◌, ◌≤◌, ◌<◌, ◌==◌, ◌&&◌, ◌++◌, not, nat_le, nat_lt, Bool, true, false, List, [], ◌∷◌, Option, Some, None, Ok, append-nil, refl, sym, subst, ◌∙◌, arith, if◌then◌else◌}
use Rattle.std.specs.Prelude.{find}
use Rattle.std.specs.List.{list_all}
use Rattle.std.proofs.lemmas.Bool.Decides.{nat_tests}
use Rattle.std.proofs.lemmas.List.Folds.{list_all-append}
use Rattle.qs_base.specs.declared.identifiers.ClientNo.{ClientNo}
use Rattle.qs_base.specs.declared.identifiers.ServerNo.{ServerNo}
use Rattle.qs_ipc.specs.Queue.{is_for}
use Rattle.qs_book_journal.specs.declared.script_line.Command.{Command}
use Rattle.qs_book_journal.specs.declared.script_line.Command.TheVariants as commands
use Rattle.qs_ops.specs.Operations.{server_of}
use Rattle.qs_ops.specs.declared.operation.Op.{Op}
use Rattle.qs_ops.specs.declared.operation.Op.TheVariants as ops
use Rattle.qs_text_script.specs.Rules.{is_again, is_begun, is_client, is_known, is_node, is_owner, loan_line, may_use, names_order, sits, with_line}
use Rattle.qs_text_script.specs.Script.{script_of}
use Rattle.qs_book_script.specs.Statements.{line_states}
use Rattle.qs_book_script.specs.declared.script.Script.{Script}
use Rattle.qs_book_script.specs.declared.script.Seat.{Seat}
use Rattle.qs_book_script.specs.declared.statement.Statement.{Statement}
use Rattle.qs_book_script.specs.declared.statement.Statement.TheVariants as states
use Rattle.qs_world.specs.Moves.{client_count}
use Rattle.qs_world.specs.Openings.{is_audit, is_in_run}
use Rattle.qs_world_opening.specs.Scripts.{ScriptFits, node_of, place_of}
use Rattle.qs_world_opening.proofs.FewRounds.{few_rounds}
use Rattle.qs_world_opening.proofs.FitLines.{AreFit, client_fit, none_fit, one_more, same_fit}
use Rattle.qs_world_opening.proofs.Labels.{apart_clients}
use Rattle.qs_world_opening.proofs.Reading.{read_all}
use Rattle.qs_world_opening.proofs.Stated.{is_own, lines_own}
use Rattle.qs_world_opening.proofs.Tests.{both, each_so, itself, parts}

abbrev is_seat : ℕ → Seat → Bool
is_seat nodes seat = is_in_run nodes seat.node

-- what holds of the script of the lines so far
pub record Holds (nodes : ℕ) (script : Script) : Type 0 where
  pub seats : list_all (is_seat nodes) script.seats ≡ true
  pub audit : is_audit nodes script.audit ≡ true
  pub lines : AreFit nodes script.count script.lines

turned : (b : Bool) → not b ≡ true → b ≡ false
turned true is = absurd (cc is)
turned false is = refl

-- ---- one line

-- the seat of a client that has one
seat_low : (nodes : ℕ) (test : Seat → Bool) (seats : List Seat) (seat : Seat) → list_all (is_seat nodes) seats ≡ true → find test seats ≡ Some seat → is_seat nodes seat ≡ true
seat_low nodes test [] seat all found = absurd (cc found)
seat_low nodes test (first ∷ seats) seat all found = by (test first) found (seat_low nodes test seats seat (parts (is_seat nodes first) _ all).1)
  where
    the : Option Seat → Seat
    the None = first
    the (Some seat) = seat

    by : (b : Bool) → (if b then Some first else find test seats) ≡ Some seat → (find test seats ≡ Some seat → is_seat nodes seat ≡ true) → is_seat nodes seat ≡ true
    by true is rest = subst (λ (s : Seat). is_seat nodes s ≡ true) (the_same is) (parts (is_seat nodes first) _ all).0
      where
        the_same : Some first ≡ Some seat → first ≡ seat
        the_same is = cc is
    by false is rest = rest is

module _ (nodes : ℕ) (script : Script) (holds : Holds nodes script) where
  abbrev Next : Statement → Type 0
  Next s = Holds nodes (with_line script s)

  ordered : (client : ClientNo) (label : List ℕ) (command : Command) → AreFit nodes (script.count + 1) (script.lines ++ record { client = client; line = script.count + 1; label = label; command = command } ∷ [])
      → Next (states.Order client label command)
  ordered client label command lines = record { seats = holds.seats; audit = holds.audit; lines = lines }

  order : (client : ClientNo) (label : List ℕ) (command : Command) → is_own (states.Order client label command) ≡ true
      → names_order nodes script.lines client.0 label command ≡ true → is_again script (states.Order client label command) ≡ false → Next (states.Order client label command)
  order client label commands.Begin own named once = ordered client label commands.Begin (one_more nodes script.count script.lines holds.lines (record { client = client; line = script.count + 1; label = label; command = commands.Begin }) refl refl (λ is. once) (λ is. absurd (cc is)))
  order client label commands.Commit own named once = ordered client label commands.Commit (one_more nodes script.count script.lines holds.lines (record { client = client; line = script.count + 1; label = label; command = commands.Commit }) refl refl (λ is. absurd (cc is)) (λ is. absurd (cc is)))
  order client label commands.Abort own named once = ordered client label commands.Abort (one_more nodes script.count script.lines holds.lines (record { client = client; line = script.count + 1; label = label; command = commands.Abort }) refl refl (λ is. absurd (cc is)) (λ is. absurd (cc is)))
  order client label commands.Take own named once = ordered client label commands.Take (one_more nodes script.count script.lines holds.lines (record { client = client; line = script.count + 1; label = label; command = commands.Take }) refl refl (λ is. absurd (cc is))
      (λ is. let p = parts (is_begun script.lines label) (not (is_owner script.lines client.0 label)) named in (p.0, turned (is_owner script.lines client.0 label) p.1)))
  order client label commands.Yield own named once = ordered client label commands.Yield (one_more nodes script.count script.lines holds.lines (record { client = client; line = script.count + 1; label = label; command = commands.Yield }) refl refl (λ is. absurd (cc is)) (λ is. absurd (cc is)))
  order client label (commands.Request member op) own named once = ordered client label (commands.Request member op) (one_more nodes script.count script.lines holds.lines (record { client = client; line = script.count + 1; label = label; command = commands.Request member op }) refl
      (both (is_in_run nodes member.node) (is_for member.server op) (parts (is_node nodes member.node) (may_use script.lines client.0 label) named).0 own) (λ is. absurd (cc is)) (λ is. absurd (cc is)))

  lend : (client to : ClientNo) (label : List ℕ) → Next (states.Lend client label to)
  lend client to label = record { seats = holds.seats; audit = holds.audit; lines = by (find (sits to.0) script.seats) refl (server_of (ops.Lend to)) refl }
    where
      its : (op : Op) (server : ServerNo) → server_of op ≡ Some server → is_for server op ≡ true
      its op server is = subst (λ (o : Option ServerNo). elim o [ None ↦ false | Some own ↦ own.0 == server.0 ] ≡ true) (sym is) (itself server.0)

      none : AreFit nodes (script.count + 1) (script.lines ++ [])
      none = subst (AreFit nodes (script.count + 1)) (sym (append-nil script.lines)) (same_fit nodes script.count script.lines holds.lines)

      by : (seat : Option Seat) → find (sits to.0) script.seats ≡ seat → (server : Option ServerNo) → server_of (ops.Lend to) ≡ server
          → AreFit nodes (script.count + 1) (script.lines ++ loan_line seat server client label to (script.count + 1))
      by None away server is = none
      by (Some seat) found None is = none
      by (Some seat) found (Some server) is = one_more nodes script.count script.lines holds.lines (record { client = client; line = script.count + 1; label = label; command = commands.Request (record { node = seat.node; server = server }) (ops.Lend to) }) refl
          (both (is_in_run nodes seat.node) (is_for server (ops.Lend to)) (seat_low nodes (sits to.0) script.seats seat holds.seats found) (its (ops.Lend to) server is)) (λ is. absurd (cc is)) (λ is. absurd (cc is))

  abbrev same : AreFit nodes (script.count + 1) script.lines
  same = same_fit nodes script.count script.lines holds.lines

  one_line : (s : Statement) → is_own s ≡ true → is_known nodes script s ≡ true → is_again script s ≡ false → Next s
  one_line states.Nothing own known once = record { seats = holds.seats; audit = holds.audit; lines = same }
  one_line (states.Seated seat) own known once = record { seats = list_all-append (is_seat nodes) script.seats (seat ∷ []) ∙ both (list_all (is_seat nodes) script.seats) (is_seat nodes seat && true) holds.seats (both (is_seat nodes seat) true known refl); audit = holds.audit; lines = same }
  one_line (states.Limited quota) own known once = record { seats = holds.seats; audit = holds.audit; lines = same }
  one_line (states.Audited node) own known once = record { seats = holds.seats; audit = known; lines = same }
  one_line (states.Fault planned) own known once = record { seats = holds.seats; audit = holds.audit; lines = same }
  one_line (states.Order client label command) own known once = order client label command own (parts (is_client script.seats client.0) (names_order nodes script.lines client.0 label command) known).1 once
  one_line (states.Lend client label to) own known once = lend client to label
  one_line (states.Unreadable fault) own known once = record { seats = holds.seats; audit = holds.audit; lines = same }

-- ---- the opening

place_low : (nodes : ℕ) (client : ℕ) (seats : List Seat) → nat_lt 0 nodes ≡ true → list_all (is_seat nodes) seats ≡ true → nat_lt (place_of seats client) nodes ≡ true
place_low nodes client seats some all = by (find (sits client) seats) refl
  where
    by : (seat : Option Seat) → find (sits client) seats ≡ seat → nat_lt (node_of seat) nodes ≡ true
    by None away = some
    by (Some seat) found = seat_low nodes (sits client) seats seat all found

pub script_holds : (nodes : ℕ) (text : List ℕ) (script : Script) → script_of nodes text ≡ Ok script → Holds nodes script
script_holds nodes text script is = read_all nodes (Holds nodes) (λ before line right was. one_line nodes before was (line_states line) (lines_own line) right.known right.once) text script
    (record { seats = refl; audit = refl; lines = none_fit nodes }) is

pub script_fits : (nodes : ℕ) (text : List ℕ) (script : Script) → ScriptFits nodes text script
script_fits nodes text script least most is = record {
  opens = λ alloc incs logs begun. record {
    size = both (nat_le 1 nodes) (nat_le nodes 16) (at_most 1 nodes least) (at_most nodes 16 most);
    settings = each_so nodes _ (λ n low. both _ _ (both (n == n) (nodes == nodes) (itself n) (itself nodes)) (both (nat_lt 0 (incs n)) _ (above 0 (incs n) (begun n low)) holds.audit));
    scripts = each_so client_count _ (λ k low. client_fit nodes script.count (place_of script.seats k) (record { 0 = k }) script.lines holds.lines (place_low nodes k script.seats (above 0 nodes (some nodes least)) holds.seats));
    labels = apart_clients client_count script.lines holds.lines.apart;
  };
  few = few_rounds nodes text script is;
}
  where
    holds : Holds nodes script
    holds = script_holds nodes text script is

    at_most : (a b : ℕ) → a ≤ b → nat_le a b ≡ true
    at_most a b le = grind (arith, nat_tests, le)

    above : (a b : ℕ) → a < b → nat_lt a b ≡ true
    above a b lt = grind (arith, nat_tests, lt)

    some : (n : ℕ) → 1 ≤ n → 0 < n
    some n le = grind (arith, le)
