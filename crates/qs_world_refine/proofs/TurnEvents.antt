-- Messages, time and whole steps leave the records of a transaction in turn.
use Rattle.qs_world_refine.proofs.Words.{◌≡◌, ℕ, ◌&&◌, Bool, true, false, List, [], ◌∷◌, fold, Option, Some, None, refl, sym, subst, if◌then◌else◌, list_all, lookup, is_at, ClientNo, NodeNo, Tid, Command, Decided, ticked, Message, timers_no, is_one, is_undecided, Which, Participant, kept_outcome, decided_answer, enter, label_at, NodeValue, Work, work_on, with_manager, change_server, client_cmp, is_owner, message_came, abort_old, age_rule, tick, happen, step_work, owner_waits, borrower_waits}
use Rattle.qs_world_refine.proofs.Words.{wait_command, wait_on, waiting_clients, answer_waiting, Issued, OpenCommand, in_order, where_so, is_sound, MayHappen, begun, none_is}
use Rattle.qs_base.specs.declared.identifiers.Outcome.{Outcome}
use Rattle.qs_base.specs.declared.identifiers.Outcome.TheVariants as outcomes
use Rattle.qs_book_journal.specs.declared.entry.Act.TheVariants as acts
use Rattle.qs_book_journal.specs.declared.script_line.Command.TheVariants as commands
use Rattle.qs_node_kept.specs.declared.kept.KeptLabel.{KeptLabel}
use Rattle.qs_ops.specs.declared.answer.Answer.TheVariants as answers
use Rattle.qs_ops.specs.declared.answer.Cause.TheVariants as causes
use Rattle.qs_packet.specs.declared.message.Message.TheVariants as messages
use Rattle.qs_tm.specs.Manager as tm
use Rattle.qs_tm.specs.declared.manager.Which.TheVariants as whiches
use Rattle.qs_node_step.specs.Borrowing.{is_aborted}
use Rattle.qs_node_step.specs.Step.{waits_at}
use Rattle.qs_node_step.specs.declared.event.Event.{Event}
use Rattle.qs_node_step.specs.declared.event.Event.TheVariants as events
use Rattle.qs_world_refine.specs.SoundSteps.{settled}
use Rattle.qs_world_refine.proofs.TurnOn.{Case, TurnsOn, on_itself, on_then, fold_on, if_on, rest_on, answer_on}
use Rattle.qs_world_refine.proofs.TurnRecords.{MayTake}
use Rattle.qs_world_refine.proofs.TurnOutcomes.{IsOpenAt, decide_on, tell_came_on}
use Rattle.qs_world_refine.proofs.TurnTold.{MayTold, told_came_on, inquiry_came_on}
use Rattle.qs_world_refine.proofs.TurnRules.{reply_came_on, request_came_on, serve_all_on, ask_came_on, closer_came_on, refusal_came_on}
use Rattle.qs_world_refine.proofs.TurnSettles.{peer_restarted_on, settle_on, begin_incarnation_on}
use Rattle.qs_world_refine.proofs.SoundAge.{picked, put_all, all_fit, is_home_open, is_open_at, still_fits, fits_on}
use Rattle.qs_world_refine.proofs.SoundFrames.{behind, order_tail}
use Rattle.qs_world_refine.proofs.SoundHappen.{happen_sound}
use Rattle.qs_world_refine.proofs.SoundHolds.{told_part}
use Rattle.qs_world_refine.proofs.SoundParts.{and_both}
use Rattle.qs_world_refine.proofs.SoundRestart.{begin_incarnation_sound}
use Rattle.qs_world_refine.proofs.SoundViews.{seen}
use Rattle.qs_world_refine.proofs.TurnCommands.{MayBeginIn, borrower_command_on, command_came_on}

-- ---- messages

-- what a message asks of the step: where it tells a commit, that this may be learnt; where it acknowledges one, that this may be known
abbrev pub MayHear : Case → NodeNo → Message → Work → Type 0
MayHear k peer (messages.Tell tid outcome) work = MayTake k tid outcome work
MayHear k peer (messages.Told tid further) work = MayTold k peer tid work
MayHear k peer _ work = Unit {0}

message_came_on : {k : Case} (peer : NodeNo) (message : Message) (work : Work) → in_order work.node.manager.known ≡ true → MayHear k peer message work → TurnsOn k work (message_came peer message work)
message_came_on {k} peer messages.Hello work ordered may = on_itself work
message_came_on {k} peer (messages.Request tid label member number issuer op) work ordered may = request_came_on peer tid label member number op work
message_came_on {k} peer (messages.Answered tid member number reply) work ordered may = reply_came_on tid member number reply work
message_came_on {k} peer (messages.AskVote tid) work ordered may = ask_came_on peer tid work
message_came_on {k} peer (messages.Covered tid up_to) work ordered may = closer_came_on peer tid up_to [] work
message_came_on {k} peer (messages.VotedYes tid up_to told) work ordered may = closer_came_on peer tid up_to told work
message_came_on {k} peer (messages.VotedAbort tid cause) work ordered may = refusal_came_on tid cause work
message_came_on {k} peer (messages.Tell tid outcome) work ordered may = tell_came_on peer tid outcome work may
message_came_on {k} peer (messages.Told tid further) work ordered may = told_came_on peer tid further work ordered may
message_came_on {k} peer (messages.Inquire tid) work ordered may = inquiry_came_on peer tid work

-- ---- time goes on: what is old is undecided, and each has its turn once

one_old_on : {k : Case} (age : ℕ) (tid : Tid) (work : Work) → is_open_at work tid ≡ true → TurnsOn k work (abort_old age work tid)
one_old_on {k} age tid work opened = decide_on tid outcomes.Abort (Some (causes.Old age)) work (λ same. undecided) (λ same away commit. absurd (cc (commit))) (λ commit. absurd (cc (commit)))
  where
    undecided : IsOpenAt tid work
    undecided part known = none_is part.outcome (and_both part.engage.home (is_undecided part) (told_part is_home_open tid work.node.manager part known opened)).1

all_old_on : {k : Case} (which : Which) (age : ℕ) (es : List (Tid × Participant)) (work : Work) → in_order es ≡ true → list_all (still_fits which age work) es ≡ true → TurnsOn k work (fold (abort_old age) work (picked which es))
all_old_on {k} which age [] work ordered all = on_itself work
all_old_on {k} which age (e ∷ es) work ordered all = by (is_one which e.0 e.1) both.0 (λ (new : Work) (left : list_all (still_fits which age new) es ≡ true). all_old_on {k = k} which age es new (order_tail e es ordered) left)
  where
    both : (still_fits which age work e ≡ true) × (list_all (still_fits which age work) es ≡ true)
    both = and_both (still_fits which age work e) (list_all (still_fits which age work) es) all

    by : (b : Bool) → where_so b (is_open_at work e.0) ≡ true → ((new : Work) → list_all (still_fits which age new) es ≡ true → TurnsOn k new (fold (abort_old age) new (picked which es)))
        → TurnsOn k work (fold (abort_old age) work (if b then e.0 ∷ picked which es else picked which es))
    by true opened more = on_then (one_old_on age e.0 work opened) (more (abort_old age work e.0) (fits_on which age e.0 work es (behind e es ordered) both.1))
    by false opened more = more work both.1

tick_on : {k : Case} (work : Work) → in_order work.node.manager.known ≡ true → TurnsOn k work (tick work)
tick_on {k} work ordered = on_then (rest_on work counted refl refl refl refl) (aged work.node.setting.age)
  where
    counted : Work
    counted = with_manager tm.tick (change_server timers_no (λ value. record value { timers = ticked value.timers }) (enter acts.Tick work))

    opens : (age : ℕ) (tid : Tid) (part : Participant) → is_one (whiches.Aged counted.node.manager.ticks age) tid part ≡ true → is_home_open part ≡ true
    opens age tid part so = by (is_undecided part) part.engage.home _ so
      where
        by : (u h b : Bool) → (u && (h && b)) ≡ true → (h && u) ≡ true
        by true true b so = refl
        by true false b so = absurd (cc so)
        by false h b so = absurd (cc so)

    aged : (o : Option ℕ) → TurnsOn k counted (age_rule o counted)
    aged None = on_itself counted
    aged (Some age) = subst (λ (tids : List Tid). TurnsOn k counted (fold (abort_old age) counted tids)) (sym (put_all (whiches.Aged counted.node.manager.ticks age) counted.node.manager.known []))
        (all_old_on (whiches.Aged counted.node.manager.ticks age) age counted.node.manager.known counted ordered (all_fit (whiches.Aged counted.node.manager.ticks age) (opens age) counted.node.manager.known ordered))

-- ---- messages

abbrev pub MayCome : Case → Event → Work → Type 0
MayCome k (events.Command client line label command) work = command ≡ commands.Begin → MayBeginIn k work
MayCome k (events.Received peer message) work = MayHear k peer message work
MayCome k events.ServeAll work = Unit {0}
MayCome k (events.PeerRestarted peer old new) work = Unit {0}
MayCome k events.Tick work = Unit {0}

pub happen_on : {k : Case} (event : Event) (work : Work) → MayCome k event work → in_order work.node.manager.known ≡ true → TurnsOn k work (happen event work)
happen_on {k} (events.Command client line label command) work may ordered = command_came_on (record { client = client; line = line; label = label; command = command }) work may
happen_on {k} (events.Received peer message) work may ordered = message_came_on peer message work ordered may
happen_on {k} events.ServeAll work may ordered = serve_all_on work
happen_on {k} (events.PeerRestarted peer old now) work may ordered = peer_restarted_on peer old now work
happen_on {k} events.Tick work may ordered = tick_on work ordered

-- ---- commands that stay open

owner_waits_on : {k : Case} (client : ClientNo) (tid : Option Tid) (command : Command) (work : Work) → TurnsOn k work (owner_waits client tid command work)
owner_waits_on {k} client None command work = on_itself work
owner_waits_on {k} client (Some tid) command work = by (kept_outcome tid work.node)
  where
    by : (o : Option Decided) → TurnsOn k work (elim o [ None ↦ work | Some decided ↦ Rattle.qs_node_step.specs.Bringing.answer client (decided_answer decided command) work ])
    by None = on_itself work
    by (Some decided) = answer_on client (decided_answer decided command) work

borrower_waits_on : {k : Case} (client : ClientNo) (issued : Option Issued) (tid : Option Tid) (command : Command) (work : Work) → TurnsOn k work (borrower_waits client issued tid command work)
borrower_waits_on {k} client (Some issued) tid command work = if_on (is_aborted issued.tid work.node) (answer_on client answers.Ended work) (on_itself work)
borrower_waits_on {k} client None None command work = on_itself work
borrower_waits_on {k} client None (Some tid) command work = borrower_command_on client tid command work

wait_on_on : {k : Case} (work : Work) (client : ClientNo) → TurnsOn k work (wait_on work client)
wait_on_on {k} work client = by (lookup (is_at (client_cmp client)) work.node.commands)
  where
    at : (command : OpenCommand) (o : Option KeptLabel) → TurnsOn k work (elim o [ None ↦ work | Some begun ↦ waits_at client command begun work ])
    at command None = on_itself work
    at command (Some begun) = if_on (is_owner client begun.owner) (owner_waits_on client begun.tid command.line.command work) (borrower_waits_on client command.issued begun.tid command.line.command work)

    by : (o : Option OpenCommand) → TurnsOn k work (elim o [ None ↦ work | Some command ↦ wait_command client command work ])
    by None = on_itself work
    by (Some command) = at command (label_at command.line.label work.node)

pub answer_waiting_on : {k : Case} (work : Work) → TurnsOn k work (answer_waiting work)
answer_waiting_on {k} work = fold_on wait_on wait_on_on (waiting_clients work) work

-- ---- a whole step

pub step_on : {k : Case} (node : NodeValue) (event : Event) (free : ℕ) → MayHappen event (begun node free) → MayCome k event (begun node free) → is_sound node ≡ true → TurnsOn k (work_on node free) (step_work node event free)
step_on {k} node event free may come sound =
    on_then (begin_incarnation_on (work_on node free))
    (on_then (happen_on event (begun node free) come (seen (begun node free).node begun_sound).ordered)
    (on_then (settle_on (happen event (begun node free)) (happen_sound event (begun node free) may begun_sound))
    (answer_waiting_on (settled node event free))))
  where
    begun_sound : is_sound (begun node free).node ≡ true
    begun_sound = begin_incarnation_sound (work_on node free) sound
