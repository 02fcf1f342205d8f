-- Commands, messages and whole steps leave a node sound over its log.
use Rattle.qs_world_refine.proofs.Words.{◌≡◌, ℕ, ◌+◌, true, List, [], ◌∷◌, Option, Some, None, refl, fold, Bool, if◌then◌else◌, sym, subst, ◌&&◌, false, list_all, lookup, set_value, insert_entry, is_at, Ordering, Less, Equal, Greater, ClientNo, Member, NodeNo, Tid, Command, ScriptLine, first_untaken, last_taken, take_first, give_back, Decided, Lent, Op, Message, begun_participant, is_undecided, BeginFault, Participant, kept_outcome, is_void, take, take_command, yield, lent_command, with_loan}
use Rattle.qs_world_refine.proofs.Words.{loan_command, borrower_command, begin_as, begin_or_refuse, begin_command, request_as, request_command, with_issued, enter_ask, ask, open_command, decided_answer, owner_command, enter, decide, next_number, label_at, put_label, Work, with_manager, change_server, client_cmp, is_owner, labelled, obey, with_command, command_came, message_came, abort_old, age_rule, tick, happen, owner_waits, borrower_waits, wait_command, wait_on, waiting_clients, answer_waiting}
use Rattle.qs_world_refine.proofs.Words.{Issued, OpenCommand, SaysOn, BeginsNew, in_order, goes_in_run, where_so, MayHappen, is_open_in_run, commands_in_run, Which, is_one}
use Rattle.qs_base.specs.declared.identifiers.Outcome.TheVariants as outcomes
use Rattle.qs_book_journal.specs.declared.script_line.Command.TheVariants as commands
use Rattle.qs_node_kept.specs.declared.kept.KeptLabel.{KeptLabel}
use Rattle.qs_ops.specs.declared.answer.Answer.TheVariants as answers
use Rattle.qs_ops.specs.declared.answer.Cause.TheVariants as causes
use Rattle.qs_packet.specs.declared.message.Message.TheVariants as messages
use Rattle.qs_tm.specs.Manager as tm
use Rattle.qs_tm.specs.declared.manager.BeginFault.TheVariants as faults
use Rattle.qs_node_step.specs.Borrowing.{is_aborted}
use Rattle.qs_node_step.specs.Step.{waits_at}
use Rattle.qs_node_step.specs.declared.event.Event.{Event}
use Rattle.qs_node_step.specs.declared.event.Event.TheVariants as events
use Rattle.qs_world_refine.proofs.SaysOn.{on_itself, on_then, fold_on, if_on, rest_on, enter_on, answer_on, kept_on, doings_on, put_on, plain_on}
use Rattle.qs_world_refine.proofs.SaysOutcomes.{aborts_none, decide_on, tell_came_on, told_came_on, inquiry_came_on}
use Rattle.qs_world_refine.proofs.SaysRules.{issue_as_on, reply_came_on, request_came_on, serve_all_on, become_asked_on, undecided_on, ask_came_on, closer_came_on, refusal_came_on}
use Rattle.qs_world_refine.proofs.SaysSettles.{peer_restarted_on}
use Rattle.qs_world_refine.proofs.SoundParts.{and_both, both_and}
use Rattle.qs_world_refine.proofs.SoundStep.{all_changed}
use Rattle.qs_world_refine.proofs.SoundHolds.{told_part}
use Rattle.qs_world_refine.proofs.SoundFrames.{behind, order_tail}
use Rattle.qs_world_refine.proofs.SoundAge.{picked, put_all, all_fit, is_home_open, is_open_at, still_fits, fits_on}
use Rattle.qs_tm.specs.declared.manager.Which.TheVariants as whiches
use Rattle.qs_world_refine.proofs.SaysTells.{NotCommitted, open_commit, open_of}

-- ---- what clients command

-- a transaction begins, of which nothing is known
begin_as_on : (line : ScriptLine) (work : Work) → tm.part_of (tm.next_tid work.node.manager) work.node.manager ≡ None → SaysOn work (begin_as line (tm.next_tid work.node.manager) work)
begin_as_on line work new =
    on_then (rest_on work counted refl refl refl refl refl)
    (on_then (put_on (tm.next_tid work.node.manager) (begun_participant line.client work.node.manager.ticks) counted new refl refl)
    (on_then (rest_on begun (put_label (record { label = line.label; tid = Some (tm.next_tid work.node.manager); owner = Some line.client }) begun) refl refl refl refl refl) (on_then (enter_on _ _) (answer_on line.client answers.Done _))))
  where
    begun : Work
    begun = with_manager (tm.begin line.client) work

    counted : Work
    counted = with_manager (λ manager. record manager { begun = manager.begun + 1 }) work

pub begin_command_on : (line : ScriptLine) (work : Work) → tm.part_of (tm.next_tid work.node.manager) work.node.manager ≡ None → SaysOn work (begin_command line work)
begin_command_on line work new = by (tm.begin_fault work.room work.node.manager)
  where
    by : (o : Option BeginFault) → SaysOn work (begin_or_refuse line o work)
    by None = begin_as_on line work new
    by (Some (faults.LogFull need room)) = on_then (rest_on work (put_label (record { label = line.label; tid = None; owner = Some line.client }) work) refl refl refl refl refl) (answer_on line.client (answers.LogFull need room) _)
    by (Some (faults.Last number)) = on_itself work
    by (Some faults.NoMemory) = on_itself work

-- what is open waits for its reply
issued_on : (client : ClientNo) (issued : Issued) (work : Work) → SaysOn work (with_issued client issued work)
issued_on client issued work = plain_on work (with_issued client issued work) (record { setting = refl; records = refl; force = refl; commands = at (lookup (is_at (client_cmp client)) work.node.commands) refl }) refl
  where
    at : (o : Option OpenCommand) → lookup (is_at (client_cmp client)) work.node.commands ≡ o → commands_in_run work.node ≡ true
        → list_all (is_open_in_run work.node.setting.nodes) (elim o [ None ↦ work.node.commands | Some v ↦ set_value (is_at (client_cmp client)) work.node.commands (record v { issued = Some issued }) ]) ≡ true
    at None none is = is
    at (Some v) found is = all_changed (is_at (client_cmp client)) (is_open_in_run work.node.setting.nodes) (λ command. record command { issued = Some issued }) (λ k command. refl) work.node.commands v found is

request_command_on : (client : ClientNo) (tid : Tid) (member : Member) (op : Op) (work : Work) → SaysOn work (request_command client tid member op work)
request_command_on client tid member op work = by (next_number tid member.node work)
  where
    by : (o : Option ℕ) → SaysOn work (elim o [ None ↦ work | Some number ↦ request_as client tid member op number work ])
    by None = on_itself work
    by (Some number) = on_then (issued_on client (record { tid = tid; member = member; number = number }) work) (issue_as_on tid _ op (with_issued client (record { tid = tid; member = member; number = number }) work))

ask_on : (tid : Tid) (part : Participant) (work : Work) → SaysOn work (ask tid part work)
ask_on tid part work = if_on part.asked (on_itself work) (on_then (enter_on _ work) (on_then (doings_on tid (λ doings. record doings { asked = true }) _) (become_asked_on tid part (enter_ask tid work))))

open_command_on : (client : ClientNo) (tid : Tid) (command : Command) (work : Work) → SaysOn work (open_command client tid command work)
open_command_on client tid commands.Commit work = undecided_on tid (ask tid) work (λ part known open_now. ask_on tid part work)
open_command_on client tid commands.Abort work = undecided_on tid (λ part. decide tid outcomes.Abort (Some causes.Asked)) work (λ part known open_now. decide_on tid outcomes.Abort (Some causes.Asked) work (open_of tid work part known open_now) (aborts_none tid work))
open_command_on client tid (commands.Request member op) work = request_command_on client tid member op work
open_command_on client tid commands.Begin work = on_itself work
open_command_on client tid commands.Take work = on_itself work
open_command_on client tid commands.Yield work = on_itself work

owner_command_on : (client : ClientNo) (tid : Option Tid) (command : Command) (work : Work) → SaysOn work (owner_command client tid command work)
owner_command_on client None command work = answer_on client answers.NotBegun work
owner_command_on client (Some tid) command work = by (kept_outcome tid work.node)
  where
    by : (o : Option Decided) → SaysOn work (elim o [ None ↦ open_command client tid command work | Some decided ↦ Rattle.qs_node_step.specs.Bringing.answer client (decided_answer decided command) work ])
    by None = open_command_on client tid command work
    by (Some decided) = answer_on client (decided_answer decided command) work

take_on : (client : ClientNo) (tid : Tid) (loan : Lent) (work : Work) → SaysOn work (take client tid loan work)
take_on client tid loan work = on_then (kept_on (λ kept. record kept { loans = take_first client tid kept.loans }) work) (answer_on client _ _)

take_command_on : (client : ClientNo) (tid : Tid) (work : Work) → SaysOn work (take_command client tid work)
take_command_on client tid work = by (first_untaken client tid work.node.kept.now.loans)
  where
    by : (o : Option Lent) → SaysOn work (elim o [ None ↦ work | Some loan ↦ take client tid loan work ])
    by None = on_itself work
    by (Some loan) = take_on client tid loan work

yield_on : (client : ClientNo) (tid : Tid) (work : Work) → SaysOn work (yield client tid work)
yield_on client tid work =
    on_then (kept_on (λ kept. record kept { loans = give_back client tid kept.loans }) work)
    (on_then (enter_on _ _) (on_then (doings_on tid (λ doings. record doings { yielded = true }) _) (answer_on client answers.Done _)))

lent_command_on : (client : ClientNo) (tid : Tid) (command : Command) (work : Work) → SaysOn work (lent_command client tid command work)
lent_command_on client tid commands.Yield work = yield_on client tid work
lent_command_on client tid (commands.Request member op) work = request_command_on client tid member op work
lent_command_on client tid commands.Begin work = on_itself work
lent_command_on client tid commands.Commit work = on_itself work
lent_command_on client tid commands.Abort work = on_itself work
lent_command_on client tid commands.Take work = on_itself work

loan_command_on : (client : ClientNo) (tid : Tid) (command : Command) (work : Work) → SaysOn work (loan_command client tid command work)
loan_command_on client tid command work = by (last_taken client tid work.node.kept.now.loans)
  where
    by : (o : Option Lent) → SaysOn work (elim o [ None ↦ work | Some loan ↦ with_loan client tid command loan work ])
    by None = on_itself work
    by (Some loan) = if_on loan.yielded (answer_on client answers.NotYours work) (if_on (is_void tid loan work.node) (answer_on client answers.Ended work) (lent_command_on client tid command work))

borrower_command_on : (client : ClientNo) (tid : Tid) (command : Command) (work : Work) → SaysOn work (borrower_command client tid command work)
borrower_command_on client tid commands.Take work = take_command_on client tid work
borrower_command_on client tid commands.Yield work = loan_command_on client tid commands.Yield work
borrower_command_on client tid (commands.Request member op) work = loan_command_on client tid (commands.Request member op) work
borrower_command_on client tid commands.Begin work = loan_command_on client tid commands.Begin work
borrower_command_on client tid commands.Commit work = loan_command_on client tid commands.Commit work
borrower_command_on client tid commands.Abort work = loan_command_on client tid commands.Abort work

labelled_on : (client : ClientNo) (begun : KeptLabel) (command : Command) (work : Work) → SaysOn work (labelled client begun command work)
labelled_on client begun command work = if_on (is_owner client begun.owner) (owner_command_on client begun.tid command work) (by begun.tid)
  where
    by : (o : Option Tid) → SaysOn work (elim o [ None ↦ work | Some tid ↦ borrower_command client tid command work ])
    by None = on_itself work
    by (Some tid) = borrower_command_on client tid command work

obey_on : (line : ScriptLine) (command : Command) (work : Work) → SaysOn work (elim (label_at line.label work.node) [ None ↦ work | Some begun ↦ labelled line.client begun command work ])
obey_on line command work = by (label_at line.label work.node)
  where
    by : (o : Option KeptLabel) → SaysOn work (elim o [ None ↦ work | Some begun ↦ labelled line.client begun command work ])
    by None = on_itself work
    by (Some begun) = labelled_on line.client begun command work

-- a command of a node of the run is open
command_open : (nodes : ℕ) (client : ClientNo) (command : OpenCommand) → goes_in_run nodes command.line.command ≡ true → (es : List (ClientNo × OpenCommand)) → list_all (is_open_in_run nodes) es ≡ true → list_all (is_open_in_run nodes) (insert_entry client_cmp es client command) ≡ true
command_open nodes client command its [] all = rw its refl
command_open nodes client command its (e ∷ es) all = by (client_cmp client e.0) refl (command_open nodes client command its es (and_both (is_open_in_run nodes e) (list_all (is_open_in_run nodes) es) all).1)
  where
    both : (is_open_in_run nodes e ≡ true) × (list_all (is_open_in_run nodes) es ≡ true)
    both = and_both (is_open_in_run nodes e) (list_all (is_open_in_run nodes) es) all

    by : (r : Ordering) → client_cmp client e.0 ≡ r → list_all (is_open_in_run nodes) (insert_entry client_cmp es client command) ≡ true → list_all (is_open_in_run nodes) (insert_entry client_cmp (e ∷ es) client command) ≡ true
    by Less is more = rw is (both_and (goes_in_run nodes command.line.command) (list_all (is_open_in_run nodes) (e ∷ es)) its all)
    by Equal is more = rw is (both_and (goes_in_run nodes command.line.command) (list_all (is_open_in_run nodes) es) its both.1)
    by Greater is more = rw is (both_and (is_open_in_run nodes e) (list_all (is_open_in_run nodes) (insert_entry client_cmp es client command)) both.0 more)

command_came_on : (line : ScriptLine) (work : Work) → goes_in_run work.node.setting.nodes line.command ≡ true → BeginsNew (events.Command line.client line.line line.label line.command) work → SaysOn work (command_came line work)
command_came_on line work its new = on_then
    (plain_on work (with_command line work) (record { setting = refl; records = refl; force = refl; commands = λ is. command_open work.node.setting.nodes line.client (record { line = line; issued = None }) its work.node.commands is }) refl)
    (by line.command new)
  where
    by : (command : Command) → BeginsNew (events.Command line.client line.line line.label command) work → SaysOn (with_command line work) (obey line command (with_command line work))
    by commands.Begin new = begin_command_on line (with_command line work) new
    by commands.Commit new = obey_on line commands.Commit (with_command line work)
    by commands.Abort new = obey_on line commands.Abort (with_command line work)
    by commands.Take new = obey_on line commands.Take (with_command line work)
    by commands.Yield new = obey_on line commands.Yield (with_command line work)
    by (commands.Request member op) new = obey_on line (commands.Request member op) (with_command line work)

-- ---- what comes

message_came_on : (peer : NodeNo) (message : Message) (work : Work) → in_order work.node.manager.known ≡ true → SaysOn work (message_came peer message work)
message_came_on peer messages.Hello work ordered = on_itself work
message_came_on peer (messages.Request tid label member number issuer op) work ordered = request_came_on peer tid label member number op work
message_came_on peer (messages.Answered tid member number reply) work ordered = reply_came_on tid member number reply work
message_came_on peer (messages.AskVote tid) work ordered = ask_came_on peer tid work
message_came_on peer (messages.Covered tid up_to) work ordered = closer_came_on peer tid up_to [] work
message_came_on peer (messages.VotedYes tid up_to told) work ordered = closer_came_on peer tid up_to told work
message_came_on peer (messages.VotedAbort tid cause) work ordered = refusal_came_on tid cause work
message_came_on peer (messages.Tell tid outcome) work ordered = tell_came_on peer tid outcome work
message_came_on peer (messages.Told tid further) work ordered = told_came_on peer tid further work ordered
message_came_on peer (messages.Inquire tid) work ordered = inquiry_came_on peer tid work

-- who is that old, and not decided, is aborted
old_on : (which : Which) (age : ℕ) (es : List (Tid × Participant)) (work : Work) → in_order es ≡ true → list_all (still_fits which age work) es ≡ true → SaysOn work (fold (abort_old age) work (picked which es))
old_on which age [] work ordered all = on_itself work
old_on which age (e ∷ es) work ordered all = by (is_one which e.0 e.1) both.0 (λ (new : Work) (left : list_all (still_fits which age new) es ≡ true). old_on which age es new (order_tail e es ordered) left)
  where
    both : (still_fits which age work e ≡ true) × (list_all (still_fits which age work) es ≡ true)
    both = and_both (still_fits which age work e) (list_all (still_fits which age work) es) all

    closed : is_open_at work e.0 ≡ true → NotCommitted e.0 work
    closed opened part known = open_commit part.outcome (and_both part.engage.home (is_undecided part) (told_part is_home_open e.0 work.node.manager part known opened)).1

    by : (b : Bool) → where_so b (is_open_at work e.0) ≡ true → ((new : Work) → list_all (still_fits which age new) es ≡ true → SaysOn new (fold (abort_old age) new (picked which es)))
        → SaysOn work (fold (abort_old age) work (if b then e.0 ∷ picked which es else picked which es))
    by true opened more = on_then (decide_on e.0 outcomes.Abort (Some (causes.Old age)) work (closed opened) (aborts_none e.0 work)) (more (abort_old age work e.0) (fits_on which age e.0 work es (behind e es ordered) both.1))
    by false opened more = more work both.1

tick_on : (work : Work) → in_order work.node.manager.known ≡ true → SaysOn work (tick work)
tick_on work ordered = on_then (rest_on work ticked refl refl refl refl refl) (by work.node.setting.age)
  where
    ticked : Work
    ticked = with_manager tm.tick (change_server Rattle.qs_node_servers.specs.Servers.timers_no (λ value. record value { timers = Rattle.qs_ops.specs.Timers.ticked value.timers }) (enter Rattle.qs_book_journal.specs.declared.entry.Act.TheVariants.Tick work))

    by : (o : Option ℕ) → SaysOn ticked (age_rule o ticked)
    by None = on_itself ticked
    by (Some age) = subst (λ (tids : List Tid). SaysOn ticked (fold (abort_old age) ticked tids)) (sym (put_all (whiches.Aged ticked.node.manager.ticks age) ticked.node.manager.known []))
        (old_on (whiches.Aged ticked.node.manager.ticks age) age ticked.node.manager.known ticked ordered (all_fit (whiches.Aged ticked.node.manager.ticks age) opens ticked.node.manager.known ordered))
      where
        opens : (tid : Tid) (part : Participant) → is_one (whiches.Aged ticked.node.manager.ticks age) tid part ≡ true → is_home_open part ≡ true
        opens tid part so = at (is_undecided part) part.engage.home _ so
          where
            at : (u h b : Bool) → (u && (h && b)) ≡ true → (h && u) ≡ true
            at true true b so = refl
            at true false b so = absurd (cc so)
            at false h b so = absurd (cc so)

pub happen_on : (event : Event) (work : Work) → MayHappen event work → BeginsNew event work → in_order work.node.manager.known ≡ true → SaysOn work (happen event work)
happen_on (events.Command client line label command) work may new ordered = command_came_on (record { client = client; line = line; label = label; command = command }) work may.0 new
happen_on (events.Received peer message) work may new ordered = message_came_on peer message work ordered
happen_on events.ServeAll work may new ordered = serve_all_on work
happen_on (events.PeerRestarted peer old now) work may new ordered = peer_restarted_on peer old now work
happen_on events.Tick work may new ordered = tick_on work ordered

-- ---- commands that stay open

owner_waits_on : (client : ClientNo) (tid : Option Tid) (command : Command) (work : Work) → SaysOn work (owner_waits client tid command work)
owner_waits_on client None command work = on_itself work
owner_waits_on client (Some tid) command work = by (kept_outcome tid work.node)
  where
    by : (o : Option Decided) → SaysOn work (elim o [ None ↦ work | Some decided ↦ Rattle.qs_node_step.specs.Bringing.answer client (decided_answer decided command) work ])
    by None = on_itself work
    by (Some decided) = answer_on client (decided_answer decided command) work

borrower_waits_on : (client : ClientNo) (issued : Option Issued) (tid : Option Tid) (command : Command) (work : Work) → SaysOn work (borrower_waits client issued tid command work)
borrower_waits_on client (Some issued) tid command work = if_on (is_aborted issued.tid work.node) (answer_on client answers.Ended work) (on_itself work)
borrower_waits_on client None None command work = on_itself work
borrower_waits_on client None (Some tid) command work = borrower_command_on client tid command work

wait_on_on : (work : Work) (client : ClientNo) → SaysOn work (wait_on work client)
wait_on_on work client = by (lookup (is_at (client_cmp client)) work.node.commands)
  where
    at : (command : OpenCommand) (o : Option KeptLabel) → SaysOn work (elim o [ None ↦ work | Some begun ↦ waits_at client command begun work ])
    at command None = on_itself work
    at command (Some begun) = if_on (is_owner client begun.owner) (owner_waits_on client begun.tid command.line.command work) (borrower_waits_on client command.issued begun.tid command.line.command work)

    by : (o : Option OpenCommand) → SaysOn work (elim o [ None ↦ work | Some command ↦ wait_command client command work ])
    by None = on_itself work
    by (Some command) = at command (label_at command.line.label work.node)

pub answer_waiting_on : (work : Work) → SaysOn work (answer_waiting work)
answer_waiting_on work = fold_on wait_on wait_on_on (waiting_clients work) work
