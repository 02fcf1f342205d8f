-- What holds of each thing that a step does holds of what a client commands, where what it begins is new, and of another node that restarted.
use Rattle.std.proofs.Common.{◌≡◌, ℕ, ◌+◌, ◌&&◌, not, List, Option, Some, None, refl}
use Rattle.qs_base.specs.declared.identifiers.ClientNo.{ClientNo}
use Rattle.qs_base.specs.declared.identifiers.NodeNo.{NodeNo}
use Rattle.qs_base.specs.declared.identifiers.Outcome.{Outcome}
use Rattle.qs_base.specs.declared.identifiers.Outcome.TheVariants as outcomes
use Rattle.qs_base.specs.declared.identifiers.Tid.{Tid}
use Rattle.qs_engage.specs.Nodes.{listed, same_node}
use Rattle.qs_ipc.specs.Ipc as ipc
use Rattle.qs_book_journal.specs.declared.entry.Act.TheVariants as acts
use Rattle.qs_book_journal.specs.declared.script_line.Command.{Command}
use Rattle.qs_book_journal.specs.declared.script_line.Command.TheVariants as commands
use Rattle.qs_book_journal.specs.declared.script_line.ScriptLine.{ScriptLine}
use Rattle.qs_node_kept.specs.declared.kept.KeptLabel.{KeptLabel}
use Rattle.qs_node_kept.specs.declared.kept.Decided.{Decided}
use Rattle.qs_ops.specs.declared.answer.Answer.TheVariants as answers
use Rattle.qs_ops.specs.declared.answer.Cause.TheVariants as causes
use Rattle.qs_packet.specs.declared.message.Message.TheVariants as messages
use Rattle.qs_node_step.specs.Answering.{kept_outcome}
use Rattle.qs_node_step.specs.Borrowing.{borrower_command}
use Rattle.qs_node_step.specs.Bringing.{answer, enter}
use Rattle.qs_node_step.specs.Commands.{ask, begin_as, begin_or_refuse, decided_answer, open_command, owner_command}
use Rattle.qs_node_step.specs.Deciding.{decide}
use Rattle.qs_node_step.specs.Restarts.{find_gone, inquire, is_orphaned_by, notice_decided, notice_part, notice_tid, peer_restarted}
use Rattle.qs_node_step.specs.Serving.{label_at, put_label}
use Rattle.qs_node_step.specs.State.{Work, part_of, with_manager, with_queues}
use Rattle.qs_node_step.specs.Step.{command_came, is_owner, labelled, obey, with_command}
use Rattle.qs_node_step.specs.declared.event.Event.TheVariants as events
use Rattle.qs_tm.specs.Manager as tm
use Rattle.qs_tm.specs.Outcomes.{is_abort, is_told_again, named_by}
use Rattle.qs_tm.specs.Participant as participant
use Rattle.qs_tm.specs.Participant.{begun_participant, is_owed_by, is_undecided}
use Rattle.qs_tm.specs.declared.manager.BeginFault.{BeginFault}
use Rattle.qs_tm.specs.declared.manager.BeginFault.TheVariants as faults
use Rattle.qs_tm.specs.declared.participant.Participant.{Participant}
use Rattle.qs_node_room.specs.Fits.{BeginsNew}
use Rattle.qs_node_room.proofs.Goes.{Goes, goes_answer, goes_elim, goes_enter, goes_fold, goes_if, goes_send, goes_where}
use Rattle.qs_node_room.proofs.GoesCommands.{goes_ask, goes_block, goes_borrower, goes_refuse, goes_request_command}
use Rattle.qs_node_room.proofs.GoesRequests.{goes_label}
use Rattle.qs_node_room.proofs.GoesSettles.{goes_abort}

module _ (R : Work → Work → Type 0) (g : Goes R) where
  -- ---- another node restarted

  goes_inquire : (peer : NodeNo) (new : ℕ) (tid : Tid) (part : Participant) (work : Work) → R work (inquire peer new tid part work)
  goes_inquire peer new tid part work = goes_if R g (not part.engage.home && is_orphaned_by peer new tid part) work _ work (goes_send R g tid.home (messages.Inquire tid) work) (g.self work)

  goes_told_again : (peer : NodeNo) (tid : Tid) (outcome : Outcome) (part : Participant) (work : Work) → R work (notice_decided peer tid outcome part work)
  goes_told_again peer tid outcome part work = goes_if R g part.engage.home work _ _
      (goes_if R g (is_told_again peer part) work _ work (goes_send R g peer (messages.Tell tid outcome) work) (g.self work))
      (goes_if R g (is_abort part.outcome && same_node tid.home peer) work _ work (goes_send R g peer (messages.Told tid (listed (named_by tid.home part))) work) (g.self work))

  goes_noticed : (peer : NodeNo) (old new : ℕ) (tid : Tid) (part : Participant) (work : Work) → R work (notice_part peer old new tid part work)
  goes_noticed peer old new tid part work = by part.outcome
    where
      by : (o : Option Outcome) → R work (elim o [ None ↦ inquire peer new tid part (find_gone peer old tid part work) | Some outcome ↦ notice_decided peer tid outcome part work ])
      by None = g.both work (find_gone peer old tid part work) (inquire peer new tid part (find_gone peer old tid part work))
          (goes_if R g (is_owed_by peer part) work _ work (goes_block R g tid (causes.Gone peer old) work) (g.self work)) (goes_inquire peer new tid part (find_gone peer old tid part work))
      by (Some outcome) = goes_told_again peer tid outcome part work

  goes_notice : (peer : NodeNo) (old new : ℕ) (work : Work) (tid : Tid) → R work (notice_tid peer old new work tid)
  goes_notice peer old new work tid =
      let anew : Work = with_manager (tm.restarted tid peer) work in
      goes_elim R g (part_of tid work) work work _ (g.self work)
      (λ part. g.both work anew (notice_part peer old new tid part anew) (g.part tid (participant.restarted peer) work (λ p. record { log = refl; outcome = λ e. e; involved = λ is. is })) (goes_noticed peer old new tid part anew))

  pub goes_restarted : (peer : NodeNo) (old new : ℕ) (work : Work) → R work (peer_restarted peer old new work)
  goes_restarted peer old new work =
      let marked : Work = with_queues (ipc.mark_queues peer) work in
      g.both work marked (peer_restarted peer old new work) (g.still work marked refl refl refl refl refl refl) (goes_fold R g (notice_tid peer old new) (goes_notice peer old new) (tm.concerned peer work.node.manager) marked)

  -- ---- commands

  goes_open : (client : ClientNo) (tid : Tid) (command : Command) (work : Work) → R work (open_command client tid command work)
  goes_open client tid commands.Begin work = g.self work
  goes_open client tid commands.Commit work = goes_where R g tid (ask tid) work (λ part known undecided. goes_ask R g tid part work)
  goes_open client tid commands.Abort work = goes_where R g tid (λ part. decide tid outcomes.Abort (Some causes.Asked)) work (λ part known undecided. goes_abort R g tid (Some causes.Asked) work)
  goes_open client tid commands.Take work = g.self work
  goes_open client tid commands.Yield work = g.self work
  goes_open client tid (commands.Request member op) work = goes_request_command R g client tid member op work

  goes_owner : (client : ClientNo) (o : Option Tid) (command : Command) (work : Work) → R work (owner_command client o command work)
  goes_owner client None command work = goes_answer R g client answers.NotBegun work
  goes_owner client (Some tid) command work = by (kept_outcome tid work.node)
    where
      by : (o : Option Decided) → R work (elim o [ None ↦ open_command client tid command work | Some decided ↦ answer client (decided_answer decided command) work ])
      by None = goes_open client tid command work
      by (Some decided) = goes_answer R g client (decided_answer decided command) work

  goes_labelled : (client : ClientNo) (begun : KeptLabel) (command : Command) (work : Work) → R work (labelled client begun command work)
  goes_labelled client begun command work = goes_if R g (is_owner client begun.owner) work (owner_command client begun.tid command work) _ (goes_owner client begun.tid command work) (by begun.tid)
    where
      by : (o : Option Tid) → R work (elim o [ None ↦ work | Some tid ↦ borrower_command client tid command work ])
      by None = g.self work
      by (Some tid) = goes_borrower R g client tid command work

  -- what begins is new
  goes_begin : (line : ScriptLine) (o : Option BeginFault) (work : Work) → part_of (tm.next_tid work.node.manager) work ≡ None → R work (begin_or_refuse line o work)
  goes_begin line None work new =
      let tid : Tid = tm.next_tid work.node.manager in
      let counted : Work = with_manager (λ manager. record manager { begun = manager.begun + 1 }) work in
      let begun : Work = with_manager (tm.put_part tid (begun_participant line.client work.node.manager.ticks)) counted in
      let labelled : Work = put_label (record { label = line.label; tid = Some tid; owner = Some line.client }) begun in
      let entered : Work = enter (acts.Begin tid line.label line.client) labelled in
      g.both work counted (begin_as line tid work) (g.still work counted refl refl refl refl refl refl)
      (g.both counted begun (begin_as line tid work) (g.put tid (begun_participant line.client work.node.manager.ticks) counted new refl)
      (g.both begun labelled (begin_as line tid work) (goes_label R g (record { label = line.label; tid = Some tid; owner = Some line.client }) begun)
      (g.both labelled entered (begin_as line tid work) (goes_enter R g (acts.Begin tid line.label line.client) labelled) (goes_answer R g line.client answers.Done entered))))
  goes_begin line (Some (faults.LogFull need room)) work new = goes_refuse R g line need room work
  goes_begin line (Some (faults.Last number)) work new = g.self work
  goes_begin line (Some faults.NoMemory) work new = g.self work

  pub goes_command : (client : ClientNo) (number : ℕ) (label : List ℕ) (command : Command) (work : Work) → BeginsNew (events.Command client number label command) work → R work (command_came (record { client = client; line = number; label = label; command = command }) work)
  goes_command client number label command work new = g.both work w (command_came line work) (g.still work w refl refl refl refl refl refl) (by command new)
    where
      line : ScriptLine
      line = record { client = client; line = number; label = label; command = command }

      w : Work
      w = with_command line work

      met : (c : Command) (o : Option KeptLabel) → R w (elim o [ None ↦ w | Some begun ↦ labelled client begun c w ])
      met c None = g.self w
      met c (Some begun) = goes_labelled client begun c w

      by : (c : Command) → BeginsNew (events.Command client number label c) work → R w (obey line c w)
      by commands.Begin none = goes_begin line (tm.begin_fault w.room w.node.manager) w none
      by commands.Commit none = met commands.Commit (label_at label w.node)
      by commands.Abort none = met commands.Abort (label_at label w.node)
      by commands.Take none = met commands.Take (label_at label w.node)
      by commands.Yield none = met commands.Yield (label_at label w.node)
      by (commands.Request member op) none = met (commands.Request member op) (label_at label w.node)
