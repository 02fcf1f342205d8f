-- What holds of each thing that a step does holds of a whole step, where what it begins is new; and of the end of a commit, as far as that may come.
use Rattle.std.proofs.Common.{◌≡◌, ℕ, ◌&&◌, Bool, true, false, List, [], Option, Some, None, fold, refl, ap, ◌∙◌, if◌then◌else◌}
use Rattle.std.specs.Map.{lookup}
use Rattle.std.specs.BTreeMap.{is_at}
use Rattle.qs_base.specs.declared.identifiers.ClientNo.{ClientNo}
use Rattle.qs_base.specs.declared.identifiers.NodeNo.{NodeNo}
use Rattle.qs_base.specs.declared.identifiers.Outcome.{Outcome}
use Rattle.qs_base.specs.declared.identifiers.Outcome.TheVariants as outcomes
use Rattle.qs_base.specs.declared.identifiers.Tid.{Tid}
use Rattle.qs_engage.specs.Nodes.{listed, same_node}
use Rattle.qs_book_journal.specs.declared.entry.Act.TheVariants as acts
use Rattle.qs_book_journal.specs.declared.script_line.Command.{Command}
use Rattle.qs_node_kept.specs.declared.kept.KeptLabel.{KeptLabel}
use Rattle.qs_node_kept.specs.declared.kept.Decided.{Decided}
use Rattle.qs_ops.specs.declared.answer.Answer.TheVariants as answers
use Rattle.qs_ops.specs.declared.answer.Cause.TheVariants as causes
use Rattle.qs_ops.specs.Timers.{ticked}
use Rattle.qs_packet.specs.declared.message.Message.{Message}
use Rattle.qs_packet.specs.declared.message.Message.TheVariants as messages
use Rattle.qs_node_servers.specs.Servers.{timers_no}
use Rattle.qs_node_step.specs.Answering.{kept_outcome}
use Rattle.qs_node_step.specs.Borrowing.{is_aborted}
use Rattle.qs_node_step.specs.Bringing.{answer, enter, send}
use Rattle.qs_node_step.specs.Commands.{decided_answer}
use Rattle.qs_node_step.specs.Deciding.{give_notices}
use Rattle.qs_node_step.specs.Restarts.{begin_incarnation, known_tids, resume_home, resume_part, resume_tid}
use Rattle.qs_node_step.specs.Serving.{label_at}
use Rattle.qs_node_step.specs.Settling.{settle}
use Rattle.qs_node_step.specs.State.{NodeValue, Work, change_server, client_cmp, part_of, here, with_manager, with_node, work_on}
use Rattle.qs_node_step.specs.Step.{abort_old, age_rule, borrower_waits, happen, is_owner, message_came, owner_waits, step_work, tick, wait_command, wait_on, waiting_clients, waits_at}
use Rattle.qs_node_step.specs.Telling.{end_told, learn, learn_unknown, names_at, take_outcome, take_told, tell_came, told_at_home, told_came, told_known, told_unknown}
use Rattle.qs_node_step.specs.declared.event.Event.{Event}
use Rattle.qs_node_step.specs.declared.event.Event.TheVariants as events
use Rattle.qs_node_step.specs.declared.state.Issued.{Issued}
use Rattle.qs_node_step.specs.declared.state.OpenCommand.{OpenCommand}
use Rattle.qs_tm.specs.Manager as tm
use Rattle.qs_tm.specs.Outcomes as outcome_rules
use Rattle.qs_tm.specs.Outcomes.{is_abort, is_told_again, named_by}
use Rattle.qs_tm.specs.Participant.{is_undecided}
use Rattle.qs_tm.specs.declared.participant.Participant.{Participant}
use Rattle.qs_node_room.specs.Fits.{BeginsNew}
use Rattle.qs_book_laws.proofs.Maps.{lookup_changed}
use Rattle.qs_base.specs.Order.{tid_cmp}
use Rattle.qs_engage.specs.Nodes.{has_all}
use Rattle.qs_record.specs.declared.record.Record.TheVariants as made
use Rattle.qs_node_step.specs.Bringing.{log}
use Rattle.qs_node_step.specs.Telling.{forget}
use Rattle.std.specs.Option.{option_map}
use Rattle.std.specs.Prelude.{◌||◌}
use Rattle.qs_node_room.proofs.Goes.{Goes, goes_answer, goes_fold, goes_if, goes_send, goes_sends, IsEndOf}
use Rattle.qs_node_room.proofs.GoesCommands.{goes_ask_came, goes_borrower, goes_closer, goes_inquiry, goes_learn_unknown, goes_names, goes_refusal, goes_told_unknown}
use Rattle.qs_node_room.proofs.GoesRequests.{goes_reply, goes_request, goes_serve_all}
use Rattle.qs_node_room.proofs.GoesSettles.{goes_abort, goes_end_record, goes_learn, goes_notices, goes_settle}
use Rattle.qs_node_room.proofs.KnownInPass.{same_notices}
use Rattle.qs_node_room.proofs.GoesBegins.{goes_restarted, goes_command}

module _ (R : Work → Work → Type 0) (g : Goes R) where
  -- ---- outcomes that are told

  goes_outcome : (tid : Tid) (outcome : Outcome) (work : Work) → R work (take_outcome tid outcome work)
  goes_outcome tid outcome work = by (part_of tid work) refl
    where
      by : (o : Option Participant) → part_of tid work ≡ o → R work (elim o [ None ↦ learn_unknown tid outcome work | Some part ↦ if is_undecided part then learn tid outcome part work else work ])
      by None none = goes_learn_unknown R g tid outcome work
      by (Some part) known = goes_if R g (is_undecided part) work (learn tid outcome part work) work (goes_learn R g tid outcome part work known) (g.self work)

  goes_tell : (peer : NodeNo) (tid : Tid) (outcome : Outcome) (work : Work) → R work (tell_came peer tid outcome work)
  goes_tell peer tid outcome work =
      let taken : Work = take_outcome tid outcome work in
      goes_if R g (same_node tid.home (here work)) work work _ (g.self work)
      (g.both work taken (send peer (messages.Told tid (names_at tid outcome work)) taken) (goes_outcome tid outcome work) (goes_send R g peer (messages.Told tid (names_at tid outcome work)) taken))

  -- where all took in a commit, it ends
  goes_end_told : (peer : NodeNo) (tid : Tid) (work : Work) → tm.all_acknowledged tid peer work.node.manager ≡ true → R (with_manager (tm.acknowledged tid peer) work) (end_told true tid (with_manager (tm.acknowledged tid peer) work))
  goes_end_told peer tid work all = by (part_of tid work) refl all
    where
      acked : Work
      acked = with_manager (tm.acknowledged tid peer) work

      ended : Work
      ended = log (made.End tid) acked

      dropped : Work
      dropped = with_manager (tm.forget tid) ended

      first : (a b : Bool) → (a && b) ≡ true → a ≡ true
      first true b is = refl
      first false b is = absurd (cc is)

      either : (a b : Bool) → b ≡ true → (a || b) ≡ true
      either true b is = refl
      either false b is = is

      by : (o : Option Participant) → part_of tid work ≡ o → elim o [ None ↦ false | Some part ↦ outcome_rules.is_all_told (outcome_rules.acknowledged peer part) ] ≡ true → R acked (forget tid ended)
      by None none is = absurd (cc is)
      by (Some part) known is =
          let later : part_of tid acked ≡ Some (outcome_rules.acknowledged peer part) = lookup_changed (is_at (tid_cmp tid)) (outcome_rules.acknowledged peer) work.node.manager.known part known in
          let last : part_of tid ended ≡ Some (outcome_rules.logged (made.End tid) (outcome_rules.acknowledged peer part)) = lookup_changed (is_at (tid_cmp tid)) (outcome_rules.logged (made.End tid)) acked.node.manager.known (outcome_rules.acknowledged peer part) later in
          g.both acked ended (forget tid ended) (g.ends tid (made.End tid) acked part.log (IsEndOf.ByEnd tid) (ap (option_map (λ (p : Participant). p.log)) later) (either part.log.prepared part.log.listed (first part.log.listed (has_all (outcome_rules.acknowledged peer part).acknowledged part.tell) is)))
          (g.both ended dropped (forget tid ended) (g.drop tid ended (ap (option_map (λ (p : Participant). p.log)) last)) (g.still dropped (forget tid ended) refl refl refl refl refl refl))

  goes_take_told : (peer : NodeNo) (tid : Tid) (work : Work) → R work (take_told peer tid work)
  goes_take_told peer tid work = g.both work acked (take_told peer tid work) (g.part tid (outcome_rules.acknowledged peer) work (λ p. record { log = refl; outcome = λ e. e; involved = λ is. is })) (by (tm.all_acknowledged tid peer work.node.manager) refl)
    where
      acked : Work
      acked = with_manager (tm.acknowledged tid peer) work

      by : (b : Bool) → tm.all_acknowledged tid peer work.node.manager ≡ b → R (with_manager (tm.acknowledged tid peer) work) (end_told b tid (with_manager (tm.acknowledged tid peer) work))
      by true is = goes_end_told peer tid work is
      by false is = g.self (with_manager (tm.acknowledged tid peer) work)

  goes_told : (peer : NodeNo) (tid : Tid) (further : List NodeNo) (work : Work) → R work (told_came peer tid further work)
  goes_told peer tid further work = goes_if R g (same_node tid.home (here work)) work (told_at_home peer tid further work) work (by (part_of tid work)) (g.self work)
    where
      of : (o : Option Outcome) → R work (told_known peer tid further o work)
      of None = g.self work
      of (Some outcomes.Commit) = goes_take_told peer tid work
      of (Some outcomes.Abort) = goes_names R g tid further work

      by : (o : Option Participant) → R work (elim o [ None ↦ told_unknown peer tid further work | Some part ↦ told_known peer tid further part.outcome work ])
      by None = goes_told_unknown R g peer tid further work
      by (Some part) = of part.outcome

  -- ---- what comes

  goes_message : (peer : NodeNo) (message : Message) (work : Work) → R work (message_came peer message work)
  goes_message peer messages.Hello work = g.self work
  goes_message peer (messages.Request tid label member number issuer op) work = goes_request R g peer tid label member number op work
  goes_message peer (messages.Answered tid member number reply) work = goes_reply R g tid member number reply work
  goes_message peer (messages.AskVote tid) work = goes_ask_came R g peer tid work
  goes_message peer (messages.Covered tid up_to) work = goes_closer R g peer tid up_to [] work
  goes_message peer (messages.VotedYes tid up_to told) work = goes_closer R g peer tid up_to told work
  goes_message peer (messages.VotedAbort tid cause) work = goes_refusal R g tid cause work
  goes_message peer (messages.Tell tid outcome) work = goes_tell peer tid outcome work
  goes_message peer (messages.Told tid further) work = goes_told peer tid further work
  goes_message peer (messages.Inquire tid) work = goes_inquiry R g peer tid work

  goes_age : (o : Option ℕ) (work : Work) → R work (age_rule o work)
  goes_age None work = g.self work
  goes_age (Some age) work = goes_fold R g (abort_old age) (λ w tid. goes_abort R g tid (Some (causes.Old age)) w) (tm.aged age work.node.manager) work

  goes_tick : (work : Work) → R work (tick work)
  goes_tick work =
      let older : Work = with_manager tm.tick (change_server timers_no (λ value. record value { timers = ticked value.timers }) (enter acts.Tick work)) in
      g.both work older (tick work) (g.still work older refl refl refl refl refl refl) (goes_age work.node.setting.age older)

  pub goes_happen : (event : Event) (work : Work) → BeginsNew event work → R work (happen event work)
  goes_happen (events.Command client line label command) work new = goes_command R g client line label command work new
  goes_happen (events.Received peer message) work new = goes_message peer message work
  goes_happen events.ServeAll work new = goes_serve_all R g work
  goes_happen (events.PeerRestarted peer old now) work new = goes_restarted R g peer old now work
  goes_happen events.Tick work new = goes_tick work

  -- ---- as an incarnation begins

  goes_resume : (work : Work) (tid : Tid) → R work (resume_tid work tid)
  goes_resume work tid = by (part_of tid work) refl
    where
      of : (part : Participant) → part_of tid work ≡ Some part → (o : Option Outcome) → R work (elim o [ None ↦ send tid.home (messages.Inquire tid) work | Some outcome ↦ resume_home tid part outcome work ])
      of part known None = goes_send R g tid.home (messages.Inquire tid) work
      of part known (Some outcomes.Commit) = goes_sends R g (listed part.tell) (messages.Tell tid outcomes.Commit) work
      of part known (Some outcomes.Abort) = let noticed : Work = give_notices tid outcomes.Abort work in
          g.both work noticed (resume_home tid part outcomes.Abort work) (goes_notices R g tid outcomes.Abort work) (goes_end_record R g tid outcomes.Abort part noticed (same_notices tid outcomes.Abort work tid ∙ ap (option_map (λ (p : Participant). p.log)) known))

      by : (o : Option Participant) → part_of tid work ≡ o → R work (elim o [ None ↦ work | Some part ↦ resume_part tid part work ])
      by None none = g.self work
      by (Some part) known = of part known part.outcome

  pub goes_incarnation : (work : Work) → R work (begin_incarnation work)
  goes_incarnation work = by work.node.is_first
    where
      begun : Work
      begun = with_node (λ node. record node { is_first = false }) work

      by : (b : Bool) → R work (if b then fold resume_tid begun (known_tids work) else work)
      by false = g.self work
      by true = g.both work begun (fold resume_tid begun (known_tids work)) (g.still work begun refl refl refl refl refl refl) (goes_fold R g resume_tid goes_resume (known_tids work) begun)

  -- ---- commands that stayed open

  goes_wait : (work : Work) (client : ClientNo) → R work (wait_on work client)
  goes_wait work client = at (lookup (is_at (client_cmp client)) work.node.commands)
    where
      owners : (c : Command) (o : Option Tid) → R work (owner_waits client o c work)
      owners c None = g.self work
      owners c (Some tid) = by (kept_outcome tid work.node)
        where
          by : (o : Option Decided) → R work (elim o [ None ↦ work | Some decided ↦ answer client (decided_answer decided c) work ])
          by None = g.self work
          by (Some decided) = goes_answer R g client (decided_answer decided c) work

      borrowers : (c : Command) (i : Option Issued) (o : Option Tid) → R work (borrower_waits client i o c work)
      borrowers c (Some issued) o = goes_if R g (is_aborted issued.tid work.node) work (answer client answers.Ended work) work (goes_answer R g client answers.Ended work) (g.self work)
      borrowers c None None = g.self work
      borrowers c None (Some tid) = goes_borrower R g client tid c work

      of : (command : OpenCommand) (o : Option KeptLabel) → R work (elim o [ None ↦ work | Some begun ↦ waits_at client command begun work ])
      of command None = g.self work
      of command (Some begun) = goes_if R g (is_owner client begun.owner) work (owner_waits client begun.tid command.line.command work) (borrower_waits client command.issued begun.tid command.line.command work)
          (owners command.line.command begun.tid) (borrowers command.line.command command.issued begun.tid)

      at : (o : Option OpenCommand) → R work (elim o [ None ↦ work | Some command ↦ wait_command client command work ])
      at None = g.self work
      at (Some command) = of command (label_at command.line.label work.node)

  -- ---- the whole

  pub goes_step : (node : NodeValue) (event : Event) (free : ℕ) → BeginsNew event (begin_incarnation (work_on node free)) → R (work_on node free) (step_work node event free)
  goes_step node event free new =
      let first : Work = begin_incarnation (work_on node free) in
      let done : Work = happen event first in
      let settled : Work = settle done in
      g.both (work_on node free) first (step_work node event free) (goes_incarnation (work_on node free))
      (g.both first done (step_work node event free) (goes_happen event first new)
      (g.both done settled (step_work node event free) (goes_settle R g done) (goes_fold R g wait_on goes_wait (waiting_clients settled) settled)))
