-- Which records a whole step makes: what the node opened with, what comes, what it does of itself, and commands that stayed open.
use Rattle.qs_world_runs.proofs.Words.{◌≡◌, inr, ℕ, ◌≤◌, ◌+◌, ◌++◌, Bool, true, false, List, [], ◌∷◌, Option, Some, None, fold, refl, sym, ap, subst, ◌∙◌, if◌then◌else◌, is_at, lookup, set_value, tid_cmp, ClientNo, NodeNo, Tid, listed, Act, Command, ScriptLine, KeptLabel, Decided, Answer, ticked, Message, Record, kept_outcome, borrower_command, is_aborted, answer, enter, log_if, send, send_each, ask, begin_as, begin_or_refuse, decided_answer, open_command, owner_command, request_command}
use Rattle.qs_world_runs.proofs.Words.{give_notices, begin_incarnation, known_tids, resume_home, resume_part, resume_tid, label_at, put_label, settle, Work, change_server, client_cmp, with_manager, with_node, work_on, abort_old, age_rule, answer_waiting, borrower_waits, command_came, happen, is_owner, labelled, message_came, obey, owner_waits, step_work, tick, wait_command, wait_on, waiting_clients, waits_at, with_command, Event, Issued, OpenCommand, BeginFault, Participant, Every, Quiet}
use Rattle.qs_world_runs.proofs.Words.{quiet_send, IsSource, commits_of, decides_of, told_commit, zero_le}
use Rattle.qs_base.specs.declared.identifiers.Outcome.{Outcome}
use Rattle.qs_base.specs.declared.identifiers.Outcome.TheVariants as outcomes
use Rattle.qs_book_journal.specs.declared.entry.Act.TheVariants as acts
use Rattle.qs_book_journal.specs.declared.script_line.Command.TheVariants as commands
use Rattle.qs_ops.specs.declared.answer.Answer.TheVariants as answers
use Rattle.qs_ops.specs.declared.answer.Cause.TheVariants as causes
use Rattle.qs_packet.specs.declared.message.Message.TheVariants as messages
use Rattle.qs_record.specs.declared.record.Record.TheVariants as made
use Rattle.qs_node_servers.specs.Servers.{timers_no}
use Rattle.qs_node_step.specs.Deciding.{decide}
use Rattle.qs_node_step.specs.State.{NodeValue, part_of}
use Rattle.qs_node_step.specs.declared.event.Event.TheVariants as events
use Rattle.qs_tm.specs.Manager as tm
use Rattle.qs_tm.specs.Outcomes as outcome_rules
use Rattle.qs_tm.specs.declared.manager.BeginFault.TheVariants as faults
use Rattle.qs_world_lawful.proofs.LogEndings.{quiet_notices}
use Rattle.qs_world_lawful.proofs.LogHappening.{quiet_restarted}
use Rattle.qs_world_lawful.proofs.QuietCommands.{quiet_ask, quiet_ask_came, quiet_borrower, quiet_closer, quiet_inquiry, quiet_refusal, quiet_refuse, quiet_request_command}
use Rattle.qs_world_lawful.proofs.QuietRequests.{quiet_reply, quiet_request, quiet_serve_all}
use Rattle.qs_world_lawful.proofs.Recordless.{quiet_answer, quiet_sends}
use Rattle.qs_world_runs.specs.OnRecord.{IsPut, StepsPutVotes}
use Rattle.qs_world_runs.specs.CutRecords.{IsResumed, StepsMakeRecords}
use Rattle.qs_world_runs.proofs.RecordMakes.{all_plain, makes_fold, makes_if, makes_none, makes_then, makes_where, then_makes}
use Rattle.qs_world_runs.proofs.RecordTold.{Back, Else, K, T, WasSo, back_aborted, back_on, back_self, k_then, me, quiet, self, told_less, told_makes, tell_makes}
use Rattle.qs_world_runs.proofs.RecordRules.{decide_makes, settle_makes, still}

module _ (start : NodeValue) (event : Event) where
  -- ---- commands

  open_makes : (client : ClientNo) (tid : Tid) (command : Command) (work : Work) → K start event work (open_command client tid command work)
  open_makes client tid commands.Begin work = self start event work
  open_makes client tid commands.Commit work = makes_where (me start event) (Else start event) tid (ask tid) work (λ part. quiet start event work (ask tid part work) (quiet_ask tid part work))
  open_makes client tid commands.Abort work = makes_where (me start event) (Else start event) tid (λ part. decide tid outcomes.Abort (Some causes.Asked)) work (λ part. decide_makes (me start event) (Else start event) tid (Some causes.Asked) work outcomes.Abort)
  open_makes client tid commands.Take work = self start event work
  open_makes client tid commands.Yield work = self start event work
  open_makes client tid (commands.Request member op) work = quiet start event work (request_command client tid member op work) (quiet_request_command client tid member op work)

  owner_makes : (client : ClientNo) (o : Option Tid) (command : Command) (work : Work) → K start event work (owner_command client o command work)
  owner_makes client None command work = quiet start event work (answer client answers.NotBegun work) (quiet_answer client answers.NotBegun work)
  owner_makes client (Some tid) command work = by (kept_outcome tid work.node)
    where
      by : (o : Option Decided) → K start event work (elim o [ None ↦ open_command client tid command work | Some decided ↦ answer client (decided_answer decided command) work ])
      by None = open_makes client tid command work
      by (Some decided) = quiet start event work (answer client (decided_answer decided command) work) (quiet_answer client (decided_answer decided command) work)

  labelled_makes : (client : ClientNo) (begun : KeptLabel) (command : Command) (work : Work) → K start event work (labelled client begun command work)
  labelled_makes client begun command work = makes_if (me start event) (Else start event) (is_owner client begun.owner) work (owner_command client begun.tid command work) _ (owner_makes client begun.tid command work) (by begun.tid)
    where
      by : (o : Option Tid) → K start event work (elim o [ None ↦ work | Some tid ↦ borrower_command client tid command work ])
      by None = self start event work
      by (Some tid) = quiet start event work (borrower_command client tid command work) (quiet_borrower client tid command work)

  begin_makes : (line : ScriptLine) (o : Option BeginFault) (work : Work) → K start event work (begin_or_refuse line o work)
  begin_makes line None work =
      let begun : Work = enter (acts.Begin (tm.next_tid work.node.manager) line.label line.client) (put_label (record { label = line.label; tid = Some (tm.next_tid work.node.manager); owner = Some line.client }) (with_manager (tm.begin line.client) work)) in
      k_then start event work begun (begin_as line (tm.next_tid work.node.manager) work) (makes_none (me start event) (Else start event) work begun (acts.Begin (tm.next_tid work.node.manager) line.label line.client ∷ []) refl refl refl (tt, tt))
      (quiet start event begun (answer line.client answers.Done begun) (quiet_answer line.client answers.Done begun))
  begin_makes line (Some (faults.LogFull need room)) work = quiet start event work (begin_or_refuse line (Some (faults.LogFull need room)) work) (quiet_refuse line need room work)
  begin_makes line (Some (faults.Last number)) work = self start event work
  begin_makes line (Some faults.NoMemory) work = self start event work

  command_makes : (line : ScriptLine) (work : Work) → K start event work (command_came line work)
  command_makes line work = k_then start event work (with_command line work) (command_came line work) (still (me start event) (Else start event) work (with_command line work) refl refl) (by line.command)
    where
      w : Work
      w = with_command line work

      met : (command : Command) (o : Option KeptLabel) → K start event w (elim o [ None ↦ w | Some begun ↦ labelled line.client begun command w ])
      met command None = self start event w
      met command (Some begun) = labelled_makes line.client begun command w

      by : (command : Command) → K start event w (obey line command w)
      by commands.Begin = begin_makes line (tm.begin_fault w.room w.node.manager) w
      by commands.Commit = met commands.Commit (label_at line.label w.node)
      by commands.Abort = met commands.Abort (label_at line.label w.node)
      by commands.Take = met commands.Take (label_at line.label w.node)
      by commands.Yield = met commands.Yield (label_at line.label w.node)
      by (commands.Request member op) = met (commands.Request member op) (label_at line.label w.node)

  -- ---- what comes

  age_makes : (o : Option ℕ) (work : Work) → K start event work (age_rule o work)
  age_makes None work = self start event work
  age_makes (Some age) work = makes_fold (me start event) (Else start event) (abort_old age) (λ w tid. decide_makes (me start event) (Else start event) tid (Some (causes.Old age)) w outcomes.Abort) (tm.aged age work.node.manager) work

  tick_makes : (work : Work) → K start event work (tick work)
  tick_makes work =
      let older : Work = with_manager tm.tick (change_server timers_no (λ value. record value { timers = ticked value.timers }) (enter acts.Tick work)) in
      k_then start event work older (tick work) (makes_none (me start event) (Else start event) work older (acts.Tick ∷ []) refl refl refl (tt, tt)) (age_makes work.node.setting.age older)

  module _ (work : Work) (setting : work.node.setting ≡ start.setting) (back : Back start.manager work.node.manager) where
    message_makes : (peer : NodeNo) (message : Message) → event ≡ events.Received peer message → T start event work (message_came peer message work)
    message_makes peer (messages.Tell tid outcome) comes = tell_makes start event work setting back peer tid outcome comes
    message_makes peer messages.Hello comes = told_less start event work work (self start event work)
    message_makes peer (messages.Request tid label member number issuer op) comes = told_less start event work _ (quiet start event work _ (quiet_request peer tid label member number op work))
    message_makes peer (messages.Answered tid member number reply) comes = told_less start event work _ (quiet start event work _ (quiet_reply tid member number reply work))
    message_makes peer (messages.AskVote tid) comes = told_less start event work _ (quiet start event work _ (quiet_ask_came peer tid work))
    message_makes peer (messages.Covered tid up_to) comes = told_less start event work _ (quiet start event work _ (quiet_closer peer tid up_to [] work))
    message_makes peer (messages.VotedYes tid up_to told) comes = told_less start event work _ (quiet start event work _ (quiet_closer peer tid up_to told work))
    message_makes peer (messages.VotedAbort tid cause) comes = told_less start event work _ (quiet start event work _ (quiet_refusal tid cause work))
    message_makes peer (messages.Told tid further) comes = told_less start event work _ (told_makes start event work setting back peer tid further)
    message_makes peer (messages.Inquire tid) comes = told_less start event work _ (quiet start event work _ (quiet_inquiry peer tid work))

    happen_makes : (e : Event) → event ≡ e → T start event work (happen e work)
    happen_makes (events.Command client line label command) is = told_less start event work _ (command_makes (record { client = client; line = line; label = label; command = command }) work)
    happen_makes (events.Received peer message) is = message_makes peer message is
    happen_makes events.ServeAll is = told_less start event work _ (quiet start event work _ (quiet_serve_all work))
    happen_makes (events.PeerRestarted peer old new) is = told_less start event work _ (quiet start event work _ (quiet_restarted peer old new work))
    happen_makes events.Tick is = told_less start event work _ (tick_makes work)

  -- ---- as an incarnation begins

  pub record Resumes (work new : Work) : Type 0 where
    pub makes : K start event work new
    pub back : Back start.manager new.node.manager

  by_quiet : (work new : Work) → Quiet work new → Back start.manager work.node.manager → Resumes work new
  by_quiet work new q back = record { makes = quiet start event work new q; back = back_on start.manager work.node.manager new.node.manager q.knows back }

  aborted_makes : (tid : Tid) (part : Participant) (work : Work) → part_of tid work ≡ Some part → part.outcome ≡ Some outcomes.Abort → Back start.manager work.node.manager → Resumes work (resume_home tid part outcomes.Abort work)
  aborted_makes tid part work known aborted back = by part.log.prepared refl
    where
      done : Work
      done = give_notices tid outcomes.Abort work

      q : Quiet work done
      q = quiet_notices tid work

      back_done : Back start.manager done.node.manager
      back_done = back_on start.manager work.node.manager done.node.manager q.knows back

      of : (o : Option Participant) → part_of tid done ≡ o → Back start.manager (tm.logged tid (made.Aborted tid) done.node.manager)
      of None none = λ t p there marked. back_done t p (sym (none_changed t) ∙ there) marked
        where
          none_changed : (t : Tid) → tm.part_of t (tm.logged tid (made.Aborted tid) done.node.manager) ≡ tm.part_of t done.node.manager
          none_changed t = ap (λ (o : Option Participant). lookup (is_at (tid_cmp t)) (elim o [ None ↦ done.node.manager.known | Some v ↦ set_value (is_at (tid_cmp tid)) done.node.manager.known (outcome_rules.logged (made.Aborted tid) v) ])) none
      of (Some x) there = back_aborted start.manager done.node.manager tid x there back_done

      by : (b : Bool) → part.log.prepared ≡ b → Resumes work (log_if (if b then Some (made.Aborted tid) else None) done)
      by false unprepared = record { makes = quiet start event work done q; back = back_done }
      by true prepared = record {
        makes = record {
          more = q.more;
          made = made.Aborted tid ∷ [];
          entries = q.entries;
          records = ap (λ (rs : List Record). rs ++ made.Aborted tid ∷ []) q.records;
          setting = q.setting;
          from = λ at. (inr (inr (inr source)), tt);
          once = λ t. zero_le _;
          puts = all_plain (made.Aborted tid ∷ []) q.more q.plain;
        };
        back = of (part_of tid done) refl;
      }
        where
          source : IsResumed start (made.Aborted tid)
          source = let w : WasSo start.manager tid part = back tid part known (rw prepared refl) in record { tid = tid; part = w.was; known = w.known; prepared = w.prepared prepared; aborted = w.outcome ∙ aborted; is = refl }

  resume_makes : (work : Work) (tid : Tid) → Back start.manager work.node.manager → Resumes work (resume_tid work tid)
  resume_makes work tid back = by (part_of tid work) refl
    where
      of : (part : Participant) → part_of tid work ≡ Some part → (o : Option Outcome) → part.outcome ≡ o → Resumes work (elim o [ None ↦ send tid.home (messages.Inquire tid) work | Some outcome ↦ resume_home tid part outcome work ])
      of part known None is = by_quiet work (send tid.home (messages.Inquire tid) work) (quiet_send tid.home (messages.Inquire tid) work) back
      of part known (Some outcomes.Commit) is = by_quiet work (send_each (listed part.tell) (messages.Tell tid outcomes.Commit) work) (quiet_sends (listed part.tell) (messages.Tell tid outcomes.Commit) work) back
      of part known (Some outcomes.Abort) is = aborted_makes tid part work known is back

      by : (o : Option Participant) → part_of tid work ≡ o → Resumes work (elim o [ None ↦ work | Some part ↦ resume_part tid part work ])
      by None none = record { makes = self start event work; back = back }
      by (Some part) known = of part known part.outcome refl

  resumes : (tids : List Tid) (work : Work) → Back start.manager work.node.manager → Resumes work (fold resume_tid work tids)
  resumes [] work back = record { makes = self start event work; back = back }
  resumes (tid ∷ tids) work back =
      let one : Resumes work (resume_tid work tid) = resume_makes work tid back in
      let more : Resumes (resume_tid work tid) (fold resume_tid (resume_tid work tid) tids) = resumes tids (resume_tid work tid) one.back in
      record { makes = k_then start event work (resume_tid work tid) (fold resume_tid (resume_tid work tid) tids) one.makes more.makes; back = more.back }

  pub begin_incarnation_makes : (work : Work) → Back start.manager work.node.manager → Resumes work (begin_incarnation work)
  begin_incarnation_makes work back = by work.node.is_first
    where
      begun : Work
      begun = with_node (λ node. record node { is_first = false }) work

      by : (b : Bool) → Resumes work (if b then fold resume_tid begun (known_tids work) else work)
      by false = record { makes = self start event work; back = back }
      by true = let r : Resumes begun (fold resume_tid begun (known_tids work)) = resumes (known_tids work) begun back in
          record { makes = k_then start event work begun (fold resume_tid begun (known_tids work)) (still (me start event) (Else start event) work begun refl refl) r.makes; back = r.back }

  -- ---- commands that stayed open

  waits_make : (work : Work) (client : ClientNo) → K start event work (wait_on work client)
  waits_make work client = at (lookup (is_at (client_cmp client)) work.node.commands)
    where
      answered : (said : Answer) → K start event work (answer client said work)
      answered said = quiet start event work (answer client said work) (quiet_answer client said work)

      owners : (c : Command) (o : Option Tid) → K start event work (owner_waits client o c work)
      owners c None = self start event work
      owners c (Some tid) = by (kept_outcome tid work.node)
        where
          by : (o : Option Decided) → K start event work (elim o [ None ↦ work | Some decided ↦ answer client (decided_answer decided c) work ])
          by None = self start event work
          by (Some decided) = answered (decided_answer decided c)

      borrowers : (c : Command) (i : Option Issued) (o : Option Tid) → K start event work (borrower_waits client i o c work)
      borrowers c (Some issued) o = makes_if (me start event) (Else start event) (is_aborted issued.tid work.node) work (answer client answers.Ended work) work (answered answers.Ended) (self start event work)
      borrowers c None None = self start event work
      borrowers c None (Some tid) = quiet start event work (borrower_command client tid c work) (quiet_borrower client tid c work)

      of : (command : OpenCommand) (o : Option KeptLabel) → K start event work (elim o [ None ↦ work | Some begun ↦ waits_at client command begun work ])
      of command None = self start event work
      of command (Some begun) = makes_if (me start event) (Else start event) (is_owner client begun.owner) work (owner_waits client begun.tid command.line.command work) (borrower_waits client command.issued begun.tid command.line.command work)
          (owners command.line.command begun.tid) (borrowers command.line.command command.issued begun.tid)

      at : (o : Option OpenCommand) → K start event work (elim o [ None ↦ work | Some command ↦ wait_command client command work ])
      at None = self start event work
      at (Some command) = of command (label_at command.line.label work.node)

  -- ---- the whole

  step_makes : (free : ℕ) → T start event (work_on start free) (step_work start event free)
  step_makes free =
      let first : Work = begin_incarnation (work_on start free) in
      let r : Resumes (work_on start free) first = begin_incarnation_makes (work_on start free) (back_self start.manager) in
      let done : Work = happen event first in
      let settled : Work = settle done in
      makes_then (me start event) (Else start event) (told_commit event) (work_on start free) settled (answer_waiting settled)
      (makes_then (me start event) (Else start event) (told_commit event) (work_on start free) done settled
      (then_makes (me start event) (Else start event) (told_commit event) (work_on start free) first done r.makes (happen_makes first r.makes.setting r.back event refl))
      (settle_makes (me start event) (Else start event) done))
      (makes_fold (me start event) (Else start event) wait_on waits_make (waiting_clients settled) settled)

pub steps_make_records : StepsMakeRecords
steps_make_records node event free = let m : T node event (work_on node free) (step_work node event free) = step_makes node event free in record {
  sources = subst (λ (rs : List Record). Every (IsSource node event (step_work node event free).out.entries) rs) (sym m.records)
      (subst (λ (done : List Act). Every (IsSource node event done) m.made) (sym m.entries) (m.from refl));
  once = λ tid. subst (λ (rs : List Record). commits_of tid rs ≤ decides_of tid (step_work node event free).out.entries + told_commit event tid) (sym m.records)
      (subst (λ (done : List Act). commits_of tid m.made ≤ decides_of tid done + told_commit event tid) (sym m.entries) (m.once tid));
}

-- and each vote that goes on record has its Prepare in the batch
pub steps_put_votes : StepsPutVotes
steps_put_votes node event free = let m : T node event (work_on node free) (step_work node event free) = step_makes node event free in
    subst (λ (rs : List Record). Every (IsPut rs) (step_work node event free).out.entries) (sym m.records) (subst (λ (done : List Act). Every (IsPut m.made) done) (sym m.entries) m.puts)
