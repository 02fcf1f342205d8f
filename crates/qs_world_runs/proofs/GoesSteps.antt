-- What holds of each thing that a step does holds of a whole step, where what it begins is new; and of the end of a commit, as far as that may come.
use Rattle.qs_world_runs.proofs.Words.{◌≡◌, ℕ, ◌+◌, ◌&&◌, not, Bool, true, false, List, [], Option, Some, None, fold, refl, if◌then◌else◌, lookup, is_at, ClientNo, NodeNo, Tid, listed, same_node, Command, ScriptLine, KeptLabel, Decided, ticked, Message, kept_outcome, borrower_command, is_aborted, answer, enter, send, ask, begin_as, begin_or_refuse, decided_answer, open_command, owner_command, give_notices, begin_incarnation, find_gone, inquire, is_orphaned_by, known_tids, notice_decided}
use Rattle.qs_world_runs.proofs.Words.{notice_part, notice_tid, peer_restarted, resume_home, resume_part, resume_tid, label_at, put_label, settle, Work, change_server, client_cmp, here, with_manager, with_node, with_queues, work_on, abort_old, age_rule, borrower_waits, command_came, happen, is_owner, labelled, message_came, obey, owner_waits, step_work, tick, wait_command, wait_on, waiting_clients, waits_at, with_command, end_record, end_told, learn, learn_unknown, names_at, take_outcome}
use Rattle.qs_world_runs.proofs.Words.{take_told, tell_came, told_at_home, told_came, told_known, told_unknown, Event, Issued, OpenCommand, is_told_again, named_by, begun_participant, is_owed_by, is_undecided, BeginFault, Participant, BeginsNew}
use Rattle.qs_base.specs.declared.identifiers.Outcome.{Outcome}
use Rattle.qs_base.specs.declared.identifiers.Outcome.TheVariants as outcomes
use Rattle.qs_ipc.specs.Ipc as ipc
use Rattle.qs_book_journal.specs.declared.entry.Act.TheVariants as acts
use Rattle.qs_book_journal.specs.declared.script_line.Command.TheVariants as commands
use Rattle.qs_ops.specs.declared.answer.Answer.TheVariants as answers
use Rattle.qs_ops.specs.declared.answer.Cause.TheVariants as causes
use Rattle.qs_packet.specs.declared.message.Message.TheVariants as messages
use Rattle.qs_node_servers.specs.Servers.{timers_no}
use Rattle.qs_node_step.specs.Deciding.{decide}
use Rattle.qs_node_step.specs.State.{NodeValue, part_of}
use Rattle.qs_node_step.specs.declared.event.Event.TheVariants as events
use Rattle.qs_tm.specs.Manager as tm
use Rattle.qs_tm.specs.Outcomes as outcome_rules
use Rattle.qs_tm.specs.Outcomes.{is_abort}
use Rattle.qs_tm.specs.Participant as participant
use Rattle.qs_tm.specs.declared.manager.BeginFault.TheVariants as faults
use Rattle.qs_world_runs.proofs.Goes.{Goes, goes_answer, goes_elim, goes_enter, goes_fold, goes_if, goes_send, goes_sends, goes_where}
use Rattle.qs_world_runs.proofs.GoesCommands.{goes_ask, goes_ask_came, goes_block, goes_borrower, goes_closer, goes_inquiry, goes_learn_unknown, goes_names, goes_refusal, goes_refuse, goes_request_command, goes_told_unknown}
use Rattle.qs_world_runs.proofs.GoesRequests.{goes_label, goes_reply, goes_request, goes_serve_all}
use Rattle.qs_world_runs.proofs.GoesSettles.{goes_decide, goes_learn, goes_log_if, goes_notices, goes_settle, learnt_plain}

module _ (R : Work → Work → Type 0) (g : Goes R) where
  -- ---- another node restarted

  goes_inquire : (peer : NodeNo) (new : ℕ) (tid : Tid) (part : Participant) (work : Work) → R work (inquire peer new tid part work)
  goes_inquire peer new tid part work = goes_if R g (not part.engage.home && is_orphaned_by peer new tid part) work _ work (goes_send R g tid.home (messages.Inquire tid) work) (g.self work)

  goes_told_again : (peer : NodeNo) (tid : Tid) (outcome : Outcome) (part : Participant) (work : Work) → R work (notice_decided peer tid outcome part work)
  goes_told_again peer tid outcome part work = goes_if R g part.engage.home work _ _
      (goes_if R g (is_told_again peer part) work _ work (goes_send R g peer (messages.Tell tid outcome) work) (g.self work))
      (goes_if R g (is_abort part.outcome && same_node tid.home peer) work _ work (goes_send R g peer (messages.Told tid (listed (named_by tid.home part))) work) (g.self work))

  goes_noticed : (peer : NodeNo) (old new : ℕ) (tid : Tid) (part : Participant) (work : Work) → R work (notice_part peer old new tid part work)
  goes_noticed peer old new tid part work = by part.outcome
    where
      by : (o : Option Outcome) → R work (elim o [ None ↦ inquire peer new tid part (find_gone peer old tid part work) | Some outcome ↦ notice_decided peer tid outcome part work ])
      by None = g.both work (find_gone peer old tid part work) (inquire peer new tid part (find_gone peer old tid part work))
          (goes_if R g (is_owed_by peer part) work _ work (goes_block R g tid (causes.Gone peer old) work) (g.self work)) (goes_inquire peer new tid part (find_gone peer old tid part work))
      by (Some outcome) = goes_told_again peer tid outcome part work

  goes_notice : (peer : NodeNo) (old new : ℕ) (work : Work) (tid : Tid) → R work (notice_tid peer old new work tid)
  goes_notice peer old new work tid =
      let anew : Work = with_manager (tm.restarted tid peer) work in
      goes_elim R g (part_of tid work) work work _ (g.self work)
      (λ part. g.both work anew (notice_part peer old new tid part anew) (g.part tid (participant.restarted peer) work (λ p. record { members = refl; involved = λ is. is })) (goes_noticed peer old new tid part anew))

  goes_restarted : (peer : NodeNo) (old new : ℕ) (work : Work) → R work (peer_restarted peer old new work)
  goes_restarted peer old new work =
      let marked : Work = with_queues (ipc.mark_queues peer) work in
      g.both work marked (peer_restarted peer old new work) (g.still work marked refl refl) (goes_fold R g (notice_tid peer old new) (goes_notice peer old new) (tm.concerned peer work.node.manager) marked)

  -- ---- commands

  goes_open : (client : ClientNo) (tid : Tid) (command : Command) (work : Work) → R work (open_command client tid command work)
  goes_open client tid commands.Begin work = g.self work
  goes_open client tid commands.Commit work = goes_where R g tid (ask tid) work (λ part known. goes_ask R g tid part work)
  goes_open client tid commands.Abort work = goes_where R g tid (λ part. decide tid outcomes.Abort (Some causes.Asked)) work (λ part known. goes_decide R g tid (Some causes.Asked) work outcomes.Abort)
  goes_open client tid commands.Take work = g.self work
  goes_open client tid commands.Yield work = g.self work
  goes_open client tid (commands.Request member op) work = goes_request_command R g client tid member op work

  goes_owner : (client : ClientNo) (o : Option Tid) (command : Command) (work : Work) → R work (owner_command client o command work)
  goes_owner client None command work = goes_answer R g client answers.NotBegun work
  goes_owner client (Some tid) command work = by (kept_outcome tid work.node)
    where
      by : (o : Option Decided) → R work (elim o [ None ↦ open_command client tid command work | Some decided ↦ answer client (decided_answer decided command) work ])
      by None = goes_open client tid command work
      by (Some decided) = goes_answer R g client (decided_answer decided command) work

  goes_labelled : (client : ClientNo) (begun : KeptLabel) (command : Command) (work : Work) → R work (labelled client begun command work)
  goes_labelled client begun command work = goes_if R g (is_owner client begun.owner) work (owner_command client begun.tid command work) _ (goes_owner client begun.tid command work) (by begun.tid)
    where
      by : (o : Option Tid) → R work (elim o [ None ↦ work | Some tid ↦ borrower_command client tid command work ])
      by None = g.self work
      by (Some tid) = goes_borrower R g client tid command work

  -- what begins is new
  goes_begin : (line : ScriptLine) (o : Option BeginFault) (work : Work) → part_of (tm.next_tid work.node.manager) work ≡ None → R work (begin_or_refuse line o work)
  goes_begin line None work new =
      let tid : Tid = tm.next_tid work.node.manager in
      let counted : Work = with_manager (λ manager. record manager { begun = manager.begun + 1 }) work in
      let begun : Work = with_manager (tm.put_part tid (begun_participant line.client work.node.manager.ticks)) counted in
      let labelled : Work = put_label (record { label = line.label; tid = Some tid; owner = Some line.client }) begun in
      let entered : Work = enter (acts.Begin tid line.label line.client) labelled in
      g.both work counted (begin_as line tid work) (g.still work counted refl refl)
      (g.both counted begun (begin_as line tid work) (g.put tid (begun_participant line.client work.node.manager.ticks) counted new refl)
      (g.both begun labelled (begin_as line tid work) (goes_label R g (record { label = line.label; tid = Some tid; owner = Some line.client }) begun)
      (g.both labelled entered (begin_as line tid work) (goes_enter R g (acts.Begin tid line.label line.client) labelled) (goes_answer R g line.client answers.Done entered))))
  goes_begin line (Some (faults.LogFull need room)) work new = goes_refuse R g line need room work
  goes_begin line (Some (faults.Last number)) work new = g.self work
  goes_begin line (Some faults.NoMemory) work new = g.self work

  goes_command : (client : ClientNo) (number : ℕ) (label : List ℕ) (command : Command) (work : Work) → BeginsNew (events.Command client number label command) work → R work (command_came (record { client = client; line = number; label = label; command = command }) work)
  goes_command client number label command work new = g.both work w (command_came line work) (g.still work w refl refl) (by command new)
    where
      line : ScriptLine
      line = record { client = client; line = number; label = label; command = command }

      w : Work
      w = with_command line work

      met : (c : Command) (o : Option KeptLabel) → R w (elim o [ None ↦ w | Some begun ↦ labelled client begun c w ])
      met c None = g.self w
      met c (Some begun) = goes_labelled client begun c w

      by : (c : Command) → BeginsNew (events.Command client number label c) work → R w (obey line c w)
      by commands.Begin none = goes_begin line (tm.begin_fault w.room w.node.manager) w none
      by commands.Commit none = met commands.Commit (label_at label w.node)
      by commands.Abort none = met commands.Abort (label_at label w.node)
      by commands.Take none = met commands.Take (label_at label w.node)
      by commands.Yield none = met commands.Yield (label_at label w.node)
      by (commands.Request member op) none = met (commands.Request member op) (label_at label w.node)

  -- ---- outcomes that are told

  goes_outcome : (tid : Tid) (outcome : Outcome) (work : Work) → R work (take_outcome tid outcome work)
  goes_outcome tid outcome work = by (part_of tid work)
    where
      by : (o : Option Participant) → R work (elim o [ None ↦ learn_unknown tid outcome work | Some part ↦ if is_undecided part then learn tid outcome part work else work ])
      by None = goes_learn_unknown R g tid outcome work
      by (Some part) = goes_if R g (is_undecided part) work (learn tid outcome part work) work (goes_learn R g tid outcome part work) (g.self work)

  goes_tell : (peer : NodeNo) (tid : Tid) (outcome : Outcome) (work : Work) → R work (tell_came peer tid outcome work)
  goes_tell peer tid outcome work =
      let taken : Work = take_outcome tid outcome work in
      goes_if R g (same_node tid.home (here work)) work work _ (g.self work)
      (g.both work taken (send peer (messages.Told tid (names_at tid outcome work)) taken) (goes_outcome tid outcome work) (goes_send R g peer (messages.Told tid (names_at tid outcome work)) taken))

  -- where all took in a commit, it ends
  abbrev pub Ends : NodeNo → Tid → Work → Type 0
  Ends peer tid work = tm.all_acknowledged tid peer work.node.manager ≡ true → R (with_manager (tm.acknowledged tid peer) work) (end_told true tid (with_manager (tm.acknowledged tid peer) work))

  goes_take_told : (peer : NodeNo) (tid : Tid) (work : Work) → Ends peer tid work → R work (take_told peer tid work)
  goes_take_told peer tid work ends = g.both work acked (take_told peer tid work) (g.part tid (outcome_rules.acknowledged peer) work (λ p. record { members = refl; involved = λ is. is })) (by (tm.all_acknowledged tid peer work.node.manager) refl)
    where
      acked : Work
      acked = with_manager (tm.acknowledged tid peer) work

      by : (b : Bool) → tm.all_acknowledged tid peer work.node.manager ≡ b → R (with_manager (tm.acknowledged tid peer) work) (end_told b tid (with_manager (tm.acknowledged tid peer) work))
      by true is = ends is
      by false is = g.self (with_manager (tm.acknowledged tid peer) work)

  goes_told : (peer : NodeNo) (tid : Tid) (further : List NodeNo) (work : Work) → Ends peer tid work → R work (told_came peer tid further work)
  goes_told peer tid further work ends = goes_if R g (same_node tid.home (here work)) work (told_at_home peer tid further work) work (by (part_of tid work)) (g.self work)
    where
      of : (o : Option Outcome) → R work (told_known peer tid further o work)
      of None = g.self work
      of (Some outcomes.Commit) = goes_take_told peer tid work ends
      of (Some outcomes.Abort) = goes_names R g tid further work

      by : (o : Option Participant) → R work (elim o [ None ↦ told_unknown peer tid further work | Some part ↦ told_known peer tid further part.outcome work ])
      by None = goes_told_unknown R g peer tid further work
      by (Some part) = of part.outcome

  -- ---- what comes

  abbrev pub MayEnd : Event → Work → Type 0
  MayEnd (events.Received peer (messages.Told tid further)) work = Ends peer tid work
  MayEnd event work = Unit {0}

  goes_message : (peer : NodeNo) (message : Message) (work : Work) → MayEnd (events.Received peer message) work → R work (message_came peer message work)
  goes_message peer messages.Hello work ends = g.self work
  goes_message peer (messages.Request tid label member number issuer op) work ends = goes_request R g peer tid label member number op work
  goes_message peer (messages.Answered tid member number reply) work ends = goes_reply R g tid member number reply work
  goes_message peer (messages.AskVote tid) work ends = goes_ask_came R g peer tid work
  goes_message peer (messages.Covered tid up_to) work ends = goes_closer R g peer tid up_to [] work
  goes_message peer (messages.VotedYes tid up_to told) work ends = goes_closer R g peer tid up_to told work
  goes_message peer (messages.VotedAbort tid cause) work ends = goes_refusal R g tid cause work
  goes_message peer (messages.Tell tid outcome) work ends = goes_tell peer tid outcome work
  goes_message peer (messages.Told tid further) work ends = goes_told peer tid further work ends
  goes_message peer (messages.Inquire tid) work ends = goes_inquiry R g peer tid work

  goes_age : (o : Option ℕ) (work : Work) → R work (age_rule o work)
  goes_age None work = g.self work
  goes_age (Some age) work = goes_fold R g (abort_old age) (λ w tid. goes_decide R g tid (Some (causes.Old age)) w outcomes.Abort) (tm.aged age work.node.manager) work

  goes_tick : (work : Work) → R work (tick work)
  goes_tick work =
      let older : Work = with_manager tm.tick (change_server timers_no (λ value. record value { timers = ticked value.timers }) (enter acts.Tick work)) in
      g.both work older (tick work) (g.still work older refl refl) (goes_age work.node.setting.age older)

  pub goes_happen : (event : Event) (work : Work) → BeginsNew event work → MayEnd event work → R work (happen event work)
  goes_happen (events.Command client line label command) work new ends = goes_command client line label command work new
  goes_happen (events.Received peer message) work new ends = goes_message peer message work ends
  goes_happen events.ServeAll work new ends = goes_serve_all R g work
  goes_happen (events.PeerRestarted peer old now) work new ends = goes_restarted peer old now work
  goes_happen events.Tick work new ends = goes_tick work

  -- ---- as an incarnation begins

  goes_resume : (work : Work) (tid : Tid) → R work (resume_tid work tid)
  goes_resume work tid = by (part_of tid work)
    where
      of : (part : Participant) (o : Option Outcome) → R work (elim o [ None ↦ send tid.home (messages.Inquire tid) work | Some outcome ↦ resume_home tid part outcome work ])
      of part None = goes_send R g tid.home (messages.Inquire tid) work
      of part (Some outcomes.Commit) = goes_sends R g (listed part.tell) (messages.Tell tid outcomes.Commit) work
      of part (Some outcomes.Abort) = let noticed : Work = give_notices tid outcomes.Abort work in
          g.both work noticed (resume_home tid part outcomes.Abort work) (goes_notices R g tid outcomes.Abort work) (goes_log_if R g (if part.log.prepared then Some (end_record tid outcomes.Abort) else None) noticed (learnt_plain R g tid outcomes.Abort part.log.prepared))

      by : (o : Option Participant) → R work (elim o [ None ↦ work | Some part ↦ resume_part tid part work ])
      by None = g.self work
      by (Some part) = of part part.outcome

  pub goes_incarnation : (work : Work) → R work (begin_incarnation work)
  goes_incarnation work = by work.node.is_first
    where
      begun : Work
      begun = with_node (λ node. record node { is_first = false }) work

      by : (b : Bool) → R work (if b then fold resume_tid begun (known_tids work) else work)
      by false = g.self work
      by true = g.both work begun (fold resume_tid begun (known_tids work)) (g.still work begun refl refl) (goes_fold R g resume_tid goes_resume (known_tids work) begun)

  -- ---- commands that stayed open

  goes_wait : (work : Work) (client : ClientNo) → R work (wait_on work client)
  goes_wait work client = at (lookup (is_at (client_cmp client)) work.node.commands)
    where
      owners : (c : Command) (o : Option Tid) → R work (owner_waits client o c work)
      owners c None = g.self work
      owners c (Some tid) = by (kept_outcome tid work.node)
        where
          by : (o : Option Decided) → R work (elim o [ None ↦ work | Some decided ↦ answer client (decided_answer decided c) work ])
          by None = g.self work
          by (Some decided) = goes_answer R g client (decided_answer decided c) work

      borrowers : (c : Command) (i : Option Issued) (o : Option Tid) → R work (borrower_waits client i o c work)
      borrowers c (Some issued) o = goes_if R g (is_aborted issued.tid work.node) work (answer client answers.Ended work) work (goes_answer R g client answers.Ended work) (g.self work)
      borrowers c None None = g.self work
      borrowers c None (Some tid) = goes_borrower R g client tid c work

      of : (command : OpenCommand) (o : Option KeptLabel) → R work (elim o [ None ↦ work | Some begun ↦ waits_at client command begun work ])
      of command None = g.self work
      of command (Some begun) = goes_if R g (is_owner client begun.owner) work (owner_waits client begun.tid command.line.command work) (borrower_waits client command.issued begun.tid command.line.command work)
          (owners command.line.command begun.tid) (borrowers command.line.command command.issued begun.tid)

      at : (o : Option OpenCommand) → R work (elim o [ None ↦ work | Some command ↦ wait_command client command work ])
      at None = g.self work
      at (Some command) = of command (label_at command.line.label work.node)

  -- ---- the whole

  pub goes_step : (node : NodeValue) (event : Event) (free : ℕ) → BeginsNew event (begin_incarnation (work_on node free)) → MayEnd event (begin_incarnation (work_on node free)) → R (work_on node free) (step_work node event free)
  goes_step node event free new ends =
      let first : Work = begin_incarnation (work_on node free) in
      let done : Work = happen event first in
      let settled : Work = settle done in
      g.both (work_on node free) first (step_work node event free) (goes_incarnation (work_on node free))
      (g.both first done (step_work node event free) (goes_happen event first new ends)
      (g.both done settled (step_work node event free) (goes_settle R g done) (goes_fold R g wait_on goes_wait (waiting_clients settled) settled)))
