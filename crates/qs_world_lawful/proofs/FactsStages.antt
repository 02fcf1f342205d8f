-- What holds of a node by itself is kept at each stage of a step: the table of its deeds, where a command that comes fits the node's setting.
use Rattle.qs_world_lawful.proofs.Words.{Answer, Bool, ClientNo, Delivery, Event, FitsEvent, HasFacts, HasNodeFacts, IsCommand, KeptLabel, Lent, List, Manager, Member, Message, NodeNo, None, Op, OpenCommand, Option, Outstanding, Participant, Record, Reply, ScriptLine, ServerNo, Setting, Some, Tid, Work, abort_old, after_step, answer_of, ap, begin_incarnation, changes_in, client_cmp, client_of, command_came}
use Rattle.qs_world_lawful.proofs.Words.{enter_vote, false, find, forget, forget_rule, happen, has_label, if◌then◌else◌, insert_entry, is_at, is_forgotten, is_outcome_of, is_undecided, is_void, lent_to, locals_of, log, log_if, member_here, message_came, nat_lt, not, pass_rule, peer_restarted, ready_rule, refl, refuse_rule, remove_entry, same_node, serve_next, served_count, server_at, settle, subst, sym, take_first}
use Rattle.qs_world_lawful.proofs.Words.{tick_work, tid_of, true, try, wait_on, put_label, with_command, with_kept, with_manager, work_on, ℕ, ◌&&◌, ◌∙◌, ◌≡◌}
use Rattle.qs_ipc.specs.Queue.{is_for}
use Rattle.qs_node_kept.specs.Loans.{give_back}
use Rattle.qs_node_kept.specs.declared.kept.Kept.{Kept}
use Rattle.qs_node_step.specs.Requests.{next_local}
use Rattle.qs_node_step.specs.State.{NodeValue, part_of}
use Rattle.qs_world.specs.Openings.{is_audit}
use Rattle.qs_world_walk.proofs.IsDeeds.{over}
use Rattle.qs_world_walk.proofs.Wholes.{whole_of}
use Rattle.qs_world_walk.specs.Deed.{Issuer, closed, fresh_command, issued_by}
use Rattle.qs_world_walk.specs.May.{MayIssue, Old, command_of}
use Rattle.qs_world_walk.specs.Stage.{Stage}
use Rattle.qs_world_walk.specs.Walked.{TableOver}
use Rattle.qs_world_walk.specs.Whole.{Whole}
use Rattle.qs_world_lawful.proofs.FactsIssued.{issued_away, issued_here}
use Rattle.qs_world_lawful.proofs.FactsKept.{IsQuiet, abort_facts, forget_facts, meet_facts, outcome_facts, quiet_facts}
use Rattle.qs_world_lawful.proofs.FactsLabelled.{begin_facts, command_in, commands_facts, decide_facts, every_put, every_removed, every_set, label_facts}
use Rattle.qs_world_lawful.proofs.FactsQuiet.{acknowledged_quiet, ask_quiet, cause_quiet, causes_quiet, counted_quiet, dropped_quiet, logged_quiet, names_quiet, noted_quiet, refused_quiet, released_quiet, requested_quiet, restarted_quiet, served_quiet, settled_quiet, tell_quiet, told_quiet, voted_quiet}
use Rattle.qs_world_lawful.proofs.SameSetting.{IsSame, setting_table}
use Rattle.qs_world_lawful.proofs.Truths.{clash, left_true, not_true, of_some, right_true, same_self}
use Rattle.qs_base.specs.declared.identifiers.Outcome.TheVariants as outcomes
use Rattle.qs_ops.specs.declared.answer.Answer.TheVariants as answers
use Rattle.qs_ops.specs.declared.answer.Cause.TheVariants as causes
use Rattle.qs_ops.specs.declared.vote.Vote.TheVariants as votes
use Rattle.qs_record.specs.declared.record.Record.TheVariants as records
use Rattle.qs_book_journal.specs.declared.script_line.Command.TheVariants as commands
use Rattle.qs_tm.specs.Manager as tm
use Rattle.qs_tm.specs.Outcomes as outcome_rules
use Rattle.qs_tm.specs.Participant as participant
use Rattle.qs_node_step.specs.declared.event.Event.TheVariants as events
use Rattle.qs_world_walk.proofs.First as firsts
use Rattle.qs_world_walk.proofs.Rules as rules
use Rattle.qs_world_walk.proofs.Stages as stages
use Rattle.qs_world_walk.specs.Deed as d

abbrev pub Keeps : Work → Work → Type 0
Keeps work new = HasNodeFacts work.node → HasNodeFacts new.node

-- ---- what deeds do

pub part_keeps : (tid : Tid) (f : Participant → Participant) → IsQuiet f → (work : Work) → Keeps work (with_manager (tm.with_part tid f) work)
part_keeps tid f quiet work h = quiet_facts work.node.setting work.node.kept.now work.node.commands (locals_of work.node) tid f quiet work.node.manager h

pub log_if_keeps : (o : Option Record) (work : Work) → Keeps work (log_if o work)
log_if_keeps None work h = h
log_if_keeps (Some rec) work h = part_keeps (tid_of rec) (outcome_rules.logged rec) (logged_quiet rec) work h

closes : (client : ClientNo) (command : OpenCommand) (said : Answer) (w : Work) → Keeps w (closed client command said w)
closes client command said w h = commands_facts w.node.setting w.node.manager w.node.kept.now (locals_of w.node) w.node.commands (remove_entry (is_at (client_cmp client)) w.node.commands)
    (every_removed (λ (entry : ClientNo × OpenCommand). IsCommand w.node.setting entry.0 entry.1) (is_at (client_cmp client)) w.node.commands h.commands) h

loaned : (s : Setting) (m : Manager) (k : Kept) (c : List (ClientNo × OpenCommand)) (local : Tid → ℕ) (loans : List Lent) → HasFacts s m k c local → HasFacts s m (record k { loans = loans }) c local
loaned s m k c local loans h = record { setting = h.setting; room = h.room; rising = h.rising; parts = h.parts; labels = record { homed = h.labels.homed; runs = h.labels.runs }; commands = h.commands }

-- timers count on, and transactions are older
pub ticks_keep : (work : Work) → Keeps work (tick_work work)
ticks_keep work h = record {
  setting = h.setting;
  room = record { at = h.room.at; in_inc = h.room.in_inc; extra = h.room.extra; keep = h.room.keep };
  rising = h.rising;
  parts = h.parts;
  labels = record { homed = h.labels.homed; runs = λ label begun tid client found of owned kept. let r = h.labels.runs label begun tid client found of owned kept in record { part = r.part; known = r.known; undecided = r.undecided } };
  commands = h.commands;
}

-- a client's command is noted as its request, and that goes to a node of the run
issued : (by : Issuer) (tid : Tid) (request : Outstanding) (w : Work) → Keeps w (issued_by by tid request w)
issued (d.Client client command) tid request w h = commands_facts w.node.setting w.node.manager w.node.kept.now (locals_of w.node) w.node.commands (d.commands_by (d.Client client command) tid request w.node.commands)
    (every_set (λ (entry : ClientNo × OpenCommand). IsCommand w.node.setting entry.0 entry.1) (is_at (client_cmp client)) (λ command. record command { issued = Some (record { tid = tid; member = request.member; number = request.number }) })
    (λ who command is. record { small = is.small; fits = is.fits }) w.node.commands h.commands) h
issued (d.Files server) tid request w h = h

in_run : (by : Issuer) (tid : Tid) (request : Outstanding) (op : Op) (w : Work) → MayIssue by tid request op w → HasNodeFacts w.node → nat_lt request.member.node.0 w.node.setting.nodes ≡ true
in_run (d.Client client command) tid request op w (there, (is, m)) h = ((command_in (λ (entry : ClientNo × OpenCommand). IsCommand w.node.setting entry.0 entry.1) client command w.node.commands h.commands there).fits request.member op is).1
in_run (d.Files server) tid request op w (owes, (off, (is, m))) h = subst (λ (o : Option NodeNo). is_audit w.node.setting.nodes o ≡ true) is h.setting.audit

served : (server : ServerNo) (delivery : Delivery) (reply : Reply) (w : Work) → Keeps w (d.served server delivery reply w)
served server delivery reply w h = loaned w.node.setting (tm.served delivery.tid server w.node.manager) w.node.kept.now w.node.commands (locals_of w.node) (d.lent delivery.tid w.node.setting.inc (lent_to delivery.op) w.node.kept.now.loans)
    (part_keeps delivery.tid (participant.served server) (served_quiet server) w h)

aborted : (tid : Tid) (w : Work) → Keeps w (with_manager (tm.keep_abort tid) w)
aborted tid w h = abort_facts w.node.setting w.node.kept.now w.node.commands (locals_of w.node) tid w.node.manager h

-- no client here waits for what is decided and not kept
decided_unowned : (tid : Tid) (part : Participant) (work : Work) → HasNodeFacts work.node → part_of tid work ≡ Some part → (part.outcome ≡ None → ⊥)
    → (label : List ℕ) (begun : KeptLabel) (client : ClientNo) → find (has_label label) work.node.kept.now.labels ≡ Some begun → begun.tid ≡ Some tid → begun.owner ≡ Some client → find (is_outcome_of tid) work.node.kept.now.outcomes ≡ None → ⊥
decided_unowned tid part work h known decided label begun client found of owned kept =
    let r = h.labels.runs label begun tid client found of owned kept in decided (subst (λ (p : Participant). p.outcome ≡ None) (of_some (sym r.known ∙ known)) r.undecided)

ends : (tid : Tid) (peer : NodeNo) (part : Participant) (w : Work) → part_of tid w ≡ Some part → part.outcome ≡ Some outcomes.Commit → Keeps w (forget tid (log (records.End tid) (with_manager (tm.acknowledged tid peer) w)))
ends tid peer part w known commits h = forget_facts w.node.setting w.node.kept.now w.node.commands (locals_of w.node) tid (log (records.End tid) (with_manager (tm.acknowledged tid peer) w)).node.manager
    (λ label begun client. decided_unowned tid part w h known (λ e. cc (commits, e)) label begun client)
    (log_if_keeps (Some (records.End tid)) (with_manager (tm.acknowledged tid peer) w) (part_keeps tid (outcome_rules.acknowledged peer) (acknowledged_quiet peer) w h))

-- what is forgotten elsewhere than at its home no client here owns
forgotten : (tid : Tid) (part : Participant) (w : Work) → part_of tid w ≡ Some part → is_forgotten part ≡ true → Keeps w (forget tid w)
forgotten tid part w known is h = forget_facts w.node.setting w.node.kept.now w.node.commands (locals_of w.node) tid w.node.manager
    (λ label begun client found of owned kept. clash (sym away ∙ ((h.parts tid part known).homed ∙ (ap (λ (n : NodeNo). same_node n w.node.setting.node) (h.labels.homed label begun tid client found of owned) ∙ same_self w.node.setting.node.0)))) h
  where
    away : part.engage.home ≡ false
    away = not_true part.engage.home (right_true (is_undecided part) (not part.engage.home) (left_true (is_undecided part && not part.engage.home) _ is))

-- ---- the table

module _ (event : Event) (came : Work) (fits : FitsEvent came.node.setting event) where
  opens : (line : ScriptLine) (w : Work) → event ≡ command_of line → IsSame came w → Keeps w (with_command line w)
  opens line w is same h = commands_facts w.node.setting w.node.manager w.node.kept.now (locals_of w.node) w.node.commands (insert_entry client_cmp w.node.commands line.client (fresh_command line))
      (every_put (λ (entry : ClientNo × OpenCommand). IsCommand w.node.setting entry.0 entry.1) line.client (fresh_command line) w.node.commands h.commands
      (λ who at. record { small = ap (λ (i : ℕ). nat_lt i 64) at ∙ its.0; fits = its.1 })) h
    where
      its : FitsEvent w.node.setting (command_of line)
      its = subst (λ (s : Setting). FitsEvent s (command_of line)) (sym same) (subst (FitsEvent came.node.setting) is fits)

  facts_table : TableOver event (λ stage w. IsSame came w) (λ stage w. HasNodeFacts w.node)
  facts_table (d.Opens line) when w is same h = opens line w is same h
  facts_table (d.Labels label tid) when w m same h = label_facts w.node.setting w.node.commands (locals_of w.node) (record { label = label; tid = Some tid; owner = None }) (λ t client of owned. cc owned) w.node.manager w.node.kept.now h
  facts_table (d.Meets tid) when w (away, m) same h = meet_facts w.node.setting w.node.kept.now w.node.commands (locals_of w.node) tid w.node.manager away h
  facts_table (d.Engages tid peer number) when w m same h = part_keeps tid (participant.requested peer number) (requested_quiet peer number) w h
  facts_table d.Ticks when w m same h = ticks_keep w h
  facts_table (d.Logs tid rec) when w m same h = log_if_keeps (Some rec) w h
  facts_table (d.Ends tid server) when w m same h = part_keeps tid (outcome_rules.settled server) (settled_quiet server) w h
  facts_table (d.Learns tid outcome server) when w m same h = part_keeps tid (outcome_rules.settled server) (settled_quiet server) w h
  facts_table (d.Begins line) when w m same h = closes line.client (fresh_command line) answers.Done (put_label (record { label = line.label; tid = Some (tm.next_tid w.node.manager); owner = Some line.client }) (with_manager (tm.begin line.client) w))
      (begin_facts w.node.setting w.node.commands (locals_of w.node) line.client line.label w.node.manager w.node.kept.now h)
  facts_table (d.Refuses line need room) when w m same h = closes line.client (fresh_command line) (answers.LogFull need room) (put_label (record { label = line.label; tid = None; owner = Some line.client }) w)
      (label_facts w.node.setting w.node.commands (locals_of w.node) (record { label = line.label; tid = None; owner = Some line.client }) (λ tid client of owned. cc of) w.node.manager w.node.kept.now h)
  facts_table (d.Answers client command why) when w m same h = closes client command (d.answer_by command why) w h
  facts_table (d.Takes client command tid loan) when w m same h = closes client command (if is_void tid loan w.node then answers.Ended else answers.Done) (with_kept (λ kept. record kept { loans = take_first client tid kept.loans }) w)
      (loaned w.node.setting w.node.manager w.node.kept.now w.node.commands (locals_of w.node) (take_first client tid w.node.kept.now.loans) h)
  facts_table (d.Yields client command tid loan) when w m same h = closes client command answers.Done (with_kept (λ kept. record kept { loans = give_back client tid kept.loans }) w)
      (loaned w.node.setting w.node.manager w.node.kept.now w.node.commands (locals_of w.node) (give_back client tid w.node.kept.now.loans) h)
  facts_table (d.Asks line tid) when w m same h = part_keeps tid participant.ask ask_quiet w h
  facts_table (d.IssuesHere by tid request op) when w (near, (next, reason)) same h = issued_here tid request op (issued_by by tid request w) near
      (sym (ap (λ (b : Bool). if b then next_local tid w.node else tm.sent_as tid request.member.node w.node.manager) near) ∙ next) (issued by tid request w h)
  facts_table (d.IssuesAway by tid request op) when w (away, (next, reason)) same h = issued_away tid request op (issued_by by tid request w) away (in_run by tid request op w reason h)
      (sym (ap (λ (b : Bool). if b then next_local tid w.node else tm.sent_as tid request.member.node w.node.manager) away) ∙ next) (issued by tid request w h)
  facts_table (d.Serves server delivery reply) when w m same h = served server delivery reply w h
  facts_table (d.ServesAway server delivery reply) when w m same h = served server delivery reply w h
  facts_table (d.NotesReply tid member number request) when w m same h = part_keeps tid (participant.note_served request.count) (noted_quiet request.count) (d.taken_reply tid member number w)
      (part_keeps tid (participant.drop_waiting member number) (dropped_quiet member number) w h)
  facts_table (d.GivesReply tid member number request command reply) when w m same h = closes (client_of request.issuer) command (answer_of reply) (d.taken_reply tid member number w)
      (part_keeps tid (participant.drop_waiting member number) (dropped_quiet member number) w h)
  facts_table (d.LosesReply tid member number request) when w m same h = part_keeps tid (participant.drop_waiting member number) (dropped_quiet member number) w h
  facts_table (d.BecomesAsked peer tid) when w m same h = part_keeps tid participant.ask ask_quiet w h
  facts_table (d.Counts peer tid up_to told) when w m same h = part_keeps tid (participant.counted tid.home peer up_to told) (counted_quiet tid.home peer up_to told) w h
  facts_table (d.Blocks tid cause) when w m same h = part_keeps tid (participant.add_cause cause) (cause_quiet cause) (with_manager (tm.refused tid) w) (part_keeps tid participant.refused refused_quiet w h)
  facts_table (d.Votes tid server ballot) when w m same h = part_keeps tid (participant.voted (member_here w server) ballot (served_count tid server w)) (voted_quiet (member_here w server) ballot (served_count tid server w)) w h
  facts_table (d.Prepares tid server) when w m same h = part_keeps tid _ (logged_quiet (records.Prepare tid server (served_count tid server (enter_vote tid server votes.Recoverable w)) (changes_in (server_at (enter_vote tid server votes.Recoverable w).node.servers server) tid)))
      (enter_vote tid server votes.Recoverable w) (part_keeps tid (participant.voted (member_here w server) votes.Recoverable (served_count tid server w)) (voted_quiet (member_here w server) votes.Recoverable (served_count tid server w)) w h)
  facts_table (d.SaysYes tid part superior) when w m same h = part_keeps tid participant.released released_quiet w h
  facts_table (d.TakesCauses tid) when w m same h = part_keeps tid participant.take_causes causes_quiet w h
  facts_table (d.Forgets tid part) when w (running, is) same h = forgotten tid part w running.known is h
  facts_table (d.Decides tid outcome cause) when w m same h = decide_facts w.node.setting w.node.commands (locals_of w.node) tid (outcome_rules.decided outcome) (λ p. refl) (λ p. refl) (λ p l is. l is) (λ p e. cc e) (λ p here local h. h)
      (record { tid = tid; outcome = outcome; cause = cause }) refl w.node.manager w.node.kept.now h
  facts_table (d.TakesOutcome tid outcome) when w (away, m) same h = outcome_facts w.node.setting w.node.kept.now w.node.commands (locals_of w.node) tid outcome w.node.manager away h
  facts_table (d.KeepsAbort tid) when w m same h = aborted tid w h
  facts_table (d.KeepsTold tid peer) when w m same h = part_keeps tid (outcome_rules.add_tell peer) (tell_quiet peer) (with_manager (tm.keep_abort tid) w) (aborted tid w h)
  facts_table (d.TakesNames tid further) when w m same h = part_keeps tid (outcome_rules.take_names tid.home further) (names_quiet tid.home further) w h
  facts_table (d.Acknowledges tid peer) when w m same h = part_keeps tid (outcome_rules.acknowledged peer) (acknowledged_quiet peer) w h
  facts_table (d.EndsCommit tid peer) when w (home, (came, ((part, (known, commits)), all))) same h = ends tid peer part w known commits h
  facts_table (d.AddsTold tid peer) when w m same h = part_keeps tid (participant.add_told peer) (told_quiet peer) w h
  facts_table (d.AddsTell tid peer) when w m same h = part_keeps tid (outcome_rules.add_tell peer) (tell_quiet peer) w h
  facts_table (d.Notices tid peer) when w m same h = part_keeps tid (participant.restarted peer) (restarted_quiet peer) w h
  facts_table deed when w m same h = h

  abbrev I : Stage → Work → Type 0
  I stage w = IsSame came w × HasNodeFacts w.node

  whole : Whole event I
  whole = whole_of event I (over event (λ stage w. IsSame came w) (λ stage w. HasNodeFacts w.node) (setting_table event came) facts_table)

-- ---- the stages of a step

pub begin_incarnation_keeps : (work : Work) → Keeps work (begin_incarnation work)
begin_incarnation_keeps work h = (firsts.begin_incarnation_keeps events.ServeAll (I events.ServeAll work tt) (whole events.ServeAll work tt) work (refl, h)).1

pub happens_keep : (event : Event) (work : Work) → FitsEvent work.node.setting event → Keeps work (happen event work)
happens_keep event work fits h = (stages.happens_keep event (I event work fits) (whole event work fits) event work refl (refl, h)).1

pub command_keeps : (line : ScriptLine) (work : Work) → nat_lt line.client.0 64 ≡ true → ((member : Member) (op : Op) → line.command ≡ commands.Request member op → (is_for member.server op ≡ true) × (nat_lt member.node.0 work.node.setting.nodes ≡ true)) → Keeps work (command_came line work)
command_keeps line work small fits = happens_keep (command_of line) work (small, fits)

pub message_keeps : (peer : NodeNo) (message : Message) (work : Work) → Keeps work (message_came peer message work)
message_keeps peer message work = happens_keep (events.Received peer message) work tt

pub peer_restarted_keeps : (peer : NodeNo) (old new : ℕ) (work : Work) → Keeps work (peer_restarted peer old new work)
peer_restarted_keeps peer old new work = happens_keep (events.PeerRestarted peer old new) work tt

pub serve_next_keeps : (work : Work) (server : ServerNo) → Keeps work (serve_next work server)
serve_next_keeps work server h = (rules.serve_turn_keeps events.ServeAll (I events.ServeAll work tt) (whole events.ServeAll work tt) server refl work (refl, h)).1

pub old_keeps : (work : Work) (age : ℕ) (tid : Tid) → work.node.setting.age ≡ Some age → Keeps work (abort_old age work tid)
old_keeps work age tid limit h = ((whole events.Tick work tt).decides tid outcomes.Abort (Some (causes.Old age)) false work (Old age refl limit refl) (refl, h)).1

pub passes_keep : (work : Work) (tid : Tid) → Keeps work (try tid pass_rule work)
passes_keep work tid h = (stages.passes_keep events.ServeAll (I events.ServeAll work tt) (whole events.ServeAll work tt) tid work (refl, h)).1

pub readies_keep : (work : Work) (tid : Tid) → Keeps work (try tid ready_rule work)
readies_keep work tid h = (stages.readies_keep events.ServeAll (I events.ServeAll work tt) (whole events.ServeAll work tt) tid work (refl, h)).1

pub refuses_keep : (work : Work) (tid : Tid) → Keeps work (try tid refuse_rule work)
refuses_keep work tid h = (stages.refuses_keep events.ServeAll (I events.ServeAll work tt) (whole events.ServeAll work tt) tid work (refl, h)).1

pub forgets_keep : (work : Work) (tid : Tid) → Keeps work (try tid forget_rule work)
forgets_keep work tid h = (stages.forgets_keep events.ServeAll (I events.ServeAll work tt) (whole events.ServeAll work tt) tid work (refl, h)).1

pub settle_keeps : (work : Work) → Keeps work (settle work)
settle_keeps work h = (stages.settle_keeps events.ServeAll (I events.ServeAll work tt) (whole events.ServeAll work tt) work (refl, h)).1

pub waits_keep : (work : Work) (client : ClientNo) → Keeps work (wait_on work client)
waits_keep work client h = (stages.wait_keeps events.ServeAll (I events.ServeAll work tt) (whole events.ServeAll work tt) work client (refl, h)).1

-- ---- the whole step

pub step_keeps : (node : NodeValue) (event : Event) (free : ℕ) → FitsEvent node.setting event → HasNodeFacts node → HasNodeFacts (after_step node event free)
step_keeps node event free fits h = (stages.turns_kept event (I event (work_on node free) fits) (whole event (work_on node free) fits) node free (refl, h)).all.1
