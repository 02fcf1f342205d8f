-- A script that was read is that of its run: what holds of seats, quotas and commands line by line goes to each client and node.
use Rattle.std.proofs.Common.{◌≡◌, ◌∙◌, ℕ, ◌+◌, ◌<◌, ◌≤◌, ◌==◌, ◌++◌, nat_lt, Bool, true, false, List, [], ◌∷◌, Option, Some, None, append-nil, refl, sym, ap, subst, arith, if◌then◌else◌}
use Rattle.std.specs.Prelude.{⊤, find, is_some, slice_get}
use Rattle.std.specs.Global.{Global}
use Rattle.std.specs.List.{AllByRecursion, list_any}
use Rattle.std.proofs.lemmas.Bool.{eqb-true}
use Rattle.std.proofs.lemmas.Bool.Decides.{nat_tests}
use Rattle.qs_base.specs.declared.identifiers.ClientNo.{ClientNo}
use Rattle.qs_base.specs.declared.identifiers.Member.{Member}
use Rattle.qs_base.specs.declared.identifiers.NodeNo.{NodeNo}
use Rattle.qs_base.specs.declared.identifiers.ServerNo.{ServerNo}
use Rattle.qs_ops.specs.Operations.{server_of}
use Rattle.qs_ops.specs.declared.operation.Op.TheVariants as ops
use Rattle.qs_book_journal.specs.declared.script_line.Command.{Command}
use Rattle.qs_book_journal.specs.declared.script_line.Command.TheVariants as commands
use Rattle.qs_book_journal.specs.declared.script_line.ScriptLine.{ScriptLine}
use Rattle.qs_record.specs.declared.record.Record.{Record}
use Rattle.qs_text_script.specs.Rules.{is_client, is_limited, is_owner, is_taker, loan_line, names_order, owns_line, sits, takes_line, with_line}
use Rattle.qs_book_script.specs.Lines.{is_label}
use Rattle.qs_book_script.specs.Statements.{line_states}
use Rattle.qs_book_script.specs.declared.script.Quota.{Quota}
use Rattle.qs_book_script.specs.declared.script.Script.{Script}
use Rattle.qs_book_script.specs.declared.script.Seat.{Seat}
use Rattle.qs_book_script.specs.declared.statement.Statement.{Statement}
use Rattle.qs_book_script.specs.declared.statement.Statement.TheVariants as states
use Rattle.qs_book_conformance.specs.Begun.{clients_of, no_client}
use Rattle.qs_book_conformance.specs.Course.{ClientValue, is_seat}
use Rattle.qs_world_plans.specs.Plan.{commands_of, quota_of}
use Rattle.qs_world.specs.Openings.{labels_begun}
use Rattle.qs_world_opening.specs.CourseScripts.{IsSaidLine, IsSaidOf, IsSeated, ScriptIsOf}
use Rattle.qs_world_opening.specs.Scripts.{node_of, opening_by}
use Rattle.qs_world_opening.proofs.CourseTables.{clients_at, quota_after, quota_at, seat_after}
use Rattle.qs_world_opening.proofs.FitScripts.{script_holds}
use Rattle.qs_world_opening.proofs.Labels.{owned_as}
use Rattle.qs_world_opening.proofs.Lists.{any_more, every_last, every_more, found_any, found_last, found_more, found_same}
use Rattle.qs_world_opening.proofs.Named.{is_named, lends_none, lines_named, some_label}
use Rattle.qs_world_opening.proofs.Reading.{IsRight, read_all}
use Rattle.qs_world_opening.proofs.Tests.{itself, parts}

-- ---- one seat for a client, and one quota for a node: the first that a line gives is the last

abbrev seat_in : Option Seat → Option NodeNo
seat_in None = None
seat_in (Some seat) = Some seat.node

abbrev IsOneSeat : List Seat → Type 0
IsOneSeat seats = (k : ℕ) → seat_after k None seats ≡ seat_in (find (sits k) seats)

seat_last : (k : ℕ) (old : Option NodeNo) (seats : List Seat) (seat : Seat) → seat_after k old (seats ++ seat ∷ []) ≡ (if seat.client.0 == k then Some seat.node else seat_after k old seats)
seat_last k old [] seat = refl
seat_last k old (s ∷ seats) seat = seat_last k (if s.client.0 == k then Some s.node else old) seats seat

more_seats : (seats : List Seat) (seat : Seat) → is_client seats seat.client.0 ≡ false → IsOneSeat seats → IsOneSeat (seats ++ seat ∷ [])
more_seats seats seat new one k = seat_last k None seats seat ∙ by (seat.client.0 == k) refl
  where
    by : (b : Bool) → (seat.client.0 == k) ≡ b → (if b then Some seat.node else seat_after k None seats) ≡ seat_in (find (sits k) (seats ++ seat ∷ []))
    by true its = let alone : find (sits k) (seat ∷ []) ≡ Some seat = rw its refl in
        sym (ap seat_in (found_last (sits k) seats seat (subst (λ (n : ℕ). is_client seats n ≡ false) (eqb-true seat.client.0 k its) new) ∙ alone))
    by false its = one k ∙ sym (ap seat_in (found_same (sits k) seats seat its))

abbrev IsOneQuota : List Quota → Type 0
IsOneQuota quotas = (n : ℕ) → quota_after n 1048576 quotas ≡ quota_of (record { 0 = n }) quotas

quota_last : (n old : ℕ) (quotas : List Quota) (quota : Quota) → quota_after n old (quotas ++ quota ∷ []) ≡ (if quota.node.0 == n then quota.bytes else quota_after n old quotas)
quota_last n old [] quota = refl
quota_last n old (q ∷ quotas) quota = quota_last n (if q.node.0 == n then q.bytes else old) quotas quota

first_quota : (n : ℕ) (quotas : List Quota) (quota : Quota) → list_any (is_limited n) quotas ≡ false → (quota.node.0 == n) ≡ true → quota_of (record { 0 = n }) (quotas ++ quota ∷ []) ≡ quota.bytes
first_quota n [] quota none its = rw its refl
first_quota n (q ∷ quotas) quota none its = by (q.node.0 == n) refl (first_quota n quotas quota)
  where
    by : (b : Bool) → (q.node.0 == n) ≡ b → (list_any (is_limited n) quotas ≡ false → (quota.node.0 == n) ≡ true → quota_of (record { 0 = n }) (quotas ++ quota ∷ []) ≡ quota.bytes)
        → quota_of (record { 0 = n }) (q ∷ (quotas ++ quota ∷ [])) ≡ quota.bytes
    by true is rest = absurd (cc (rw is at none))
    by false is rest = rw is (rest (rw is at none) its)

same_quota : (n : ℕ) (quotas : List Quota) (quota : Quota) → (quota.node.0 == n) ≡ false → quota_of (record { 0 = n }) (quotas ++ quota ∷ []) ≡ quota_of (record { 0 = n }) quotas
same_quota n [] quota off = rw off refl
same_quota n (q ∷ quotas) quota off = by (q.node.0 == n) (same_quota n quotas quota off)
  where
    by : (b : Bool) → quota_of (record { 0 = n }) (quotas ++ quota ∷ []) ≡ quota_of (record { 0 = n }) quotas
        → (if b then q.bytes else quota_of (record { 0 = n }) (quotas ++ quota ∷ [])) ≡ (if b then q.bytes else quota_of (record { 0 = n }) quotas)
    by true rest = refl
    by false rest = rest

more_quotas : (quotas : List Quota) (quota : Quota) → list_any (is_limited quota.node.0) quotas ≡ false → IsOneQuota quotas → IsOneQuota (quotas ++ quota ∷ [])
more_quotas quotas quota new one n = quota_last n 1048576 quotas quota ∙ by (quota.node.0 == n) refl
  where
    by : (b : Bool) → (quota.node.0 == n) ≡ b → (if b then quota.bytes else quota_after n 1048576 quotas) ≡ quota_of (record { 0 = n }) (quotas ++ quota ∷ [])
    by true its = sym (first_quota n quotas quota (subst (λ (m : ℕ). list_any (is_limited m) quotas ≡ false) (eqb-true quota.node.0 n its) new) its)
    by false its = one n ∙ sym (same_quota n quotas quota its)

-- ---- a command, by the lines and the seats so far

abbrev IsSaidBy : List Seat → List ScriptLine → ℕ → List ℕ → Command → Type 0
IsSaidBy seats lines client label commands.Commit = is_owner lines client label ≡ true
IsSaidBy seats lines client label commands.Abort = is_owner lines client label ≡ true
IsSaidBy seats lines client label commands.Yield = is_taker lines client label ≡ true
IsSaidBy seats lines client label (commands.Request member (ops.Lend to)) = (seat : Seat) × ((find (sits to.0) seats ≡ Some seat) × (seat.node ≡ member.node))
IsSaidBy seats lines client label command = ⊤

record IsWell (seats : List Seat) (lines : List ScriptLine) (line : ScriptLine) : Type 0 where
  known : is_client seats line.client.0 ≡ true
  named : line.label ≡ [] → ⊥
  says : IsSaidBy seats lines line.client.0 line.label line.command

-- it stays so with more seats, and with more lines
said_seats : (seats : List Seat) (seat : Seat) (lines : List ScriptLine) (client : ℕ) (label : List ℕ) (command : Command) → IsSaidBy seats lines client label command → IsSaidBy (seats ++ seat ∷ []) lines client label command
said_seats seats seat lines client label commands.Begin says = tt
said_seats seats seat lines client label commands.Commit says = says
said_seats seats seat lines client label commands.Abort says = says
said_seats seats seat lines client label commands.Take says = tt
said_seats seats seat lines client label commands.Yield says = says
said_seats seats seat lines client label (commands.Request member (ops.Lend to)) says = (says.0, (found_more (sits to.0) seats seat says.0 says.1.0, says.1.1))
said_seats seats seat lines client label (commands.Request member op) says = says

said_lines : (seats : List Seat) (lines : List ScriptLine) (line : ScriptLine) (client : ℕ) (label : List ℕ) (command : Command) → IsSaidBy seats lines client label command → IsSaidBy seats (lines ++ line ∷ []) client label command
said_lines seats lines line client label commands.Begin says = tt
said_lines seats lines line client label commands.Commit says = any_more (owns_line client label) lines line says
said_lines seats lines line client label commands.Abort says = any_more (owns_line client label) lines line says
said_lines seats lines line client label commands.Take says = tt
said_lines seats lines line client label commands.Yield says = any_more (takes_line client label) lines line says
said_lines seats lines line client label (commands.Request member (ops.Lend to)) says = says
said_lines seats lines line client label (commands.Request member op) says = says

-- ---- line by line

abbrev IsLow : Seat → Type 0
IsLow seat = seat.client.0 < 32

record Holds (script : Script) : Type 0 where
  seats : IsOneSeat script.seats
  low : AllByRecursion IsLow script.seats
  quotas : IsOneQuota script.quotas
  lines : AllByRecursion (IsWell script.seats script.lines) script.lines

-- with one more line of a client that sits
module _ (script : Script) (holds : Holds script) where
  more_lines : (line : ScriptLine) → IsWell script.seats (script.lines ++ line ∷ []) line → AllByRecursion (IsWell script.seats (script.lines ++ line ∷ [])) (script.lines ++ line ∷ [])
  more_lines line well = every_last (IsWell script.seats (script.lines ++ line ∷ [])) script.lines line
      (every_more (IsWell script.seats script.lines) (IsWell script.seats (script.lines ++ line ∷ []))
      (λ l w. record { known = w.known; named = w.named; says = said_lines script.seats script.lines line l.client.0 l.label l.command w.says }) script.lines holds.lines) well

  seats_more : (seat : Seat) → AllByRecursion (IsWell (script.seats ++ seat ∷ []) script.lines) script.lines
  seats_more seat = every_more (IsWell script.seats script.lines) (IsWell (script.seats ++ seat ∷ []) script.lines)
      (λ l w. record { known = any_more (sits l.client.0) script.seats seat w.known; named = w.named; says = said_seats script.seats seat script.lines l.client.0 l.label l.command w.says }) script.lines holds.lines

  abbrev Next : Statement → Type 0
  Next s = Holds (with_line script s)

  -- what an order says by the rules it says by the lines, its own too
  ordered : (nodes : ℕ) (line : ScriptLine) (command : Command) → names_order nodes script.lines line.client.0 line.label command ≡ true → lends_none command ≡ true
      → IsSaidBy script.seats (script.lines ++ line ∷ []) line.client.0 line.label command
  ordered nodes line commands.Begin names none = tt
  ordered nodes line commands.Commit names none = any_more (owns_line line.client.0 line.label) script.lines line names
  ordered nodes line commands.Abort names none = any_more (owns_line line.client.0 line.label) script.lines line names
  ordered nodes line commands.Take names none = tt
  ordered nodes line commands.Yield names none = any_more (takes_line line.client.0 line.label) script.lines line names
  ordered nodes line (commands.Request member (ops.Lend to)) names none = absurd (cc none)
  ordered nodes line (commands.Request member op) names none = tt

  order : (nodes : ℕ) (client : ClientNo) (label : List ℕ) (command : Command) → is_label label ≡ true → lends_none command ≡ true → is_client script.seats client.0 ≡ true
      → names_order nodes script.lines client.0 label command ≡ true → Next (states.Order client label command)
  order nodes client label command named none sits names = let line : ScriptLine = record { client = client; line = script.count + 1; label = label; command = command } in
      record { seats = holds.seats; low = holds.low; quotas = holds.quotas; lines = more_lines line (record { known = sits; named = some_label label named; says = ordered nodes line command names none }) }

  lend : (client to : ClientNo) (label : List ℕ) → is_label label ≡ true → is_client script.seats client.0 ≡ true → Next (states.Lend client label to)
  lend client to label named its = record { seats = holds.seats; low = holds.low; quotas = holds.quotas; lines = by (find (sits to.0) script.seats) refl (server_of (ops.Lend to)) }
    where
      none : AllByRecursion (IsWell script.seats (script.lines ++ [])) (script.lines ++ [])
      none = subst (λ (ls : List ScriptLine). AllByRecursion (IsWell script.seats ls) ls) (sym (append-nil script.lines)) holds.lines

      loan : Seat → ServerNo → ScriptLine
      loan seat server = record { client = client; line = script.count + 1; label = label; command = commands.Request (record { node = seat.node; server = server }) (ops.Lend to) }

      by : (seat : Option Seat) → find (sits to.0) script.seats ≡ seat → (server : Option ServerNo)
          → AllByRecursion (IsWell script.seats (script.lines ++ loan_line seat server client label to (script.count + 1))) (script.lines ++ loan_line seat server client label to (script.count + 1))
      by None found server = none
      by (Some seat) found None = none
      by (Some seat) found (Some server) = more_lines (loan seat server) (record { known = its; named = some_label label named; says = (seat, (found, refl)) })

  less : (a b : ℕ) → nat_lt a b ≡ true → a < b
  less a b is = grind (arith, nat_tests, is)

  one_line : (nodes : ℕ) (s : Statement) → is_named s ≡ true → IsRight nodes script s → Next s
  one_line nodes states.Nothing named right = record { seats = holds.seats; low = holds.low; quotas = holds.quotas; lines = holds.lines }
  one_line nodes (states.Seated seat) named right = record { seats = more_seats script.seats seat right.once holds.seats; low = every_last IsLow script.seats seat holds.low (less seat.client.0 32 right.fit); quotas = holds.quotas; lines = seats_more seat }
  one_line nodes (states.Limited quota) named right = record { seats = holds.seats; low = holds.low; quotas = more_quotas script.quotas quota right.once holds.quotas; lines = holds.lines }
  one_line nodes (states.Audited node) named right = record { seats = holds.seats; low = holds.low; quotas = holds.quotas; lines = holds.lines }
  one_line nodes (states.Fault planned) named right = record { seats = holds.seats; low = holds.low; quotas = holds.quotas; lines = holds.lines }
  one_line nodes (states.Order client label command) named right = let n = parts (is_label label) (lends_none command) named in
      let k = parts (is_client script.seats client.0) (names_order nodes script.lines client.0 label command) right.known in order nodes client label command n.0 n.1 k.0 k.1
  one_line nodes (states.Lend client label to) named right = lend client to label named (parts (is_client script.seats client.0) _ right.known).0
  one_line nodes (states.Unreadable fault) named right = record { seats = holds.seats; low = holds.low; quotas = holds.quotas; lines = holds.lines }

-- ---- the opening

-- a client without a seat has no line
silent_so : (seats : List Seat) (all : List ScriptLine) (k : ℕ) → is_client seats k ≡ false → (lines : List ScriptLine) → AllByRecursion (IsWell seats all) lines → commands_of (record { 0 = k }) lines ≡ []
silent_so seats all k away [] well = refl
silent_so seats all k away (line ∷ lines) well = by (line.client.0 == k) refl (silent_so seats all k away lines well.1)
  where
    by : (b : Bool) → (line.client.0 == k) ≡ b → commands_of (record { 0 = k }) lines ≡ [] → (if b then line ∷ [] else []) ++ commands_of (record { 0 = k }) lines ≡ []
    by true its rest = absurd (cc (sym (subst (λ (n : ℕ). is_client seats n ≡ true) (eqb-true line.client.0 k its) well.0.known) ∙ away))
    by false its rest = rest

found_low : (k : ℕ) (seats : List Seat) (seat : Seat) → AllByRecursion IsLow seats → find (sits k) seats ≡ Some seat → k < 256
found_low k [] seat low found = absurd (cc found)
found_low k (s ∷ seats) seat low found = by (s.client.0 == k) refl (found_low k seats seat low.1)
  where
    few : (a b : ℕ) → (a == b) ≡ true → a < 32 → b < 256
    few a b is low = grind (arith, nat_tests, is, low)

    by : (b : Bool) → (s.client.0 == k) ≡ b → (find (sits k) seats ≡ Some seat → k < 256) → k < 256
    by true its rest = few s.client.0 k its low.0
    by false its rest = rest (rw its at found)

module _ (script : Script) (holds : Holds script) (lent : (client : ℕ) (label : List ℕ) → is_taker script.lines client label ≡ true → is_owner script.lines client label ≡ false) where
  lent_to : (to : ClientNo) (seat : Seat) (member : Member) → find (sits to.0) script.seats ≡ Some seat → seat.node ≡ member.node → (state : ClientValue) × ((slice_get (clients_of script) to.0 ≡ Some state) × (is_seat state.seat member.node.0 ≡ true))
  lent_to to seat member found at = (
    record no_client { seat = seat_after to.0 None script.seats; left = commands_of (record { 0 = to.0 }) script.lines },
    (clients_at script to.0 (found_low to.0 script.seats seat holds.low found), ap (λ (o : Option NodeNo). is_seat o member.node.0) (holds.seats to.0 ∙ ap seat_in found) ∙ (ap (λ (n : NodeNo). n.0 == member.node.0) at ∙ itself member.node.0)),
  )

  said_so : (client : ClientNo) (label : List ℕ) (command : Command) → IsSaidBy script.seats script.lines client.0 label command → IsSaidOf (clients_of script) (labels_begun (commands_of client script.lines)) label command
  said_so client label commands.Begin says = tt
  said_so client label commands.Commit says = owned_as label client script.lines ∙ says
  said_so client label commands.Abort says = owned_as label client script.lines ∙ says
  said_so client label commands.Take says = tt
  said_so client label commands.Yield says = owned_as label client script.lines ∙ lent client.0 label says
  said_so client label (commands.Request member (ops.Lend to)) says = lent_to to says.0 member says.1.0 says.1.1
  said_so client label (commands.Request member op) says = tt

  lines_so : (client : ClientNo) (lines : List ScriptLine) → AllByRecursion (IsWell script.seats script.lines) lines
      → AllByRecursion (IsSaidLine (clients_of script) (labels_begun (commands_of client script.lines))) (commands_of client lines)
  lines_so client [] well = tt
  lines_so client (line ∷ lines) well = by (line.client.0 == client.0) refl (lines_so client lines well.1)
    where
      by : (b : Bool) → (line.client.0 == client.0) ≡ b → AllByRecursion (IsSaidLine (clients_of script) (labels_begun (commands_of client script.lines))) (commands_of client lines)
          → AllByRecursion (IsSaidLine (clients_of script) (labels_begun (commands_of client script.lines))) ((if b then line ∷ [] else []) ++ commands_of client lines)
      by true its rest = (
        record {
          named = well.0.named;
          says = said_so client line.label line.command (subst (λ (n : ℕ). IsSaidBy script.seats script.lines n line.label line.command) (eqb-true line.client.0 client.0 its) well.0.says);
        },
        rest,
      )
      by false its rest = rest

  its_seat : (k : ℕ) (o : Option Seat) (seat : Option NodeNo) → seat ≡ seat_in o → is_some seat ≡ true → is_seat seat (node_of o) ≡ true
  its_seat k None seat is some = absurd (cc (sym (ap is_some is) ∙ some))
  its_seat k (Some s) seat is some = ap (λ (o : Option NodeNo). is_seat o s.node.0) is ∙ itself s.node.0

  no_seat : (o : Option Seat) (seat : Option NodeNo) → seat ≡ seat_in o → is_some seat ≡ false → o ≡ None
  no_seat None seat is none = refl
  no_seat (Some s) seat is none = absurd (cc (sym (ap is_some is) ∙ none))

  client_so : (nodes : ℕ) (incs : ℕ → ℕ) (logs : ℕ → List Record) (alloc : Global) (k : ℕ) → k < 256 → IsSeated (opening_by alloc script nodes incs logs) script k
  client_so nodes incs logs alloc k low = record {
    seat = seat_after k None script.seats;
    there = clients_at script k low;
    sits = its_seat k (find (sits k) script.seats) (seat_after k None script.seats) (holds.seats k);
    silent = λ none. silent_so script.seats script.lines k (found_any (sits k) script.seats (no_seat (find (sits k) script.seats) (seat_after k None script.seats) (holds.seats k) none)) script.lines holds.lines;
    lines = lines_so (record { 0 = k }) script.lines holds.lines;
  }

pub script_is_of : (nodes : ℕ) (text : List ℕ) (script : Script) → ScriptIsOf nodes text script
script_is_of nodes text script least most is alloc incs logs = record {
  clients = λ k low. client_so script holds (script_holds nodes text script is).lines.lent nodes incs logs alloc k (of_clients k low);
  audit = λ n low. refl;
  quotas = λ n low. quota_at script n (of_nodes n nodes low most) ∙ holds.quotas n;
  ageless = λ n low. refl;
}
  where
    holds : Holds script
    holds = read_all nodes Holds (λ before line right was. one_line before was nodes (line_states line) (lines_named line) right) text script (record { seats = λ k. refl; low = tt; quotas = λ n. refl; lines = tt }) is

    of_clients : (k : ℕ) → nat_lt k 64 ≡ true → k < 256
    of_clients k low = grind (arith, nat_tests, low)

    of_nodes : (n nodes : ℕ) → n < nodes → nodes ≤ 16 → n < 256
    of_nodes n nodes low most = grind (arith, low, most)
