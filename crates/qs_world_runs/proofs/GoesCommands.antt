-- What holds of each thing that a step does holds of what is asked, counted, refused and inquired, and of what clients command.
use Rattle.qs_world_runs.proofs.Words.{◌≡◌, ℕ, true, List, Option, Some, None, refl, ◌∙◌, if◌then◌else◌, not, ◌&&◌, list_any, ClientNo, Member, NodeNo, Tid, uncovered, same_node, listed, Command, ScriptLine, Cause, Op, first_untaken, take_first, last_taken, give_back, Lent, client_server, Participant, answer_unknown, answer_known, inquiry_came, become_asked, asked_by, ask_came, count, closer_came, block, refusal_came, is_void, take, take_command, yield, lent_command, loan_command}
use Rattle.qs_world_runs.proofs.Words.{borrower_command, enter, send, refuse_begin, request_as, request_command, enter_ask, ask, put_label, Work, with_manager, with_kept, with_doings, here, keep_abort_told, learn_unknown, take_names, is_other_node, told_unknown}
use Rattle.qs_engage.specs.Engage.{is_node}
use Rattle.qs_base.specs.declared.identifiers.Outcome.{Outcome}
use Rattle.qs_base.specs.declared.identifiers.Outcome.TheVariants as outcomes
use Rattle.qs_book_journal.specs.declared.entry.Act.TheVariants as acts
use Rattle.qs_book_journal.specs.declared.script_line.Command.TheVariants as commands
use Rattle.qs_ops.specs.declared.answer.Answer.TheVariants as answers
use Rattle.qs_packet.specs.declared.message.Message.TheVariants as messages
use Rattle.qs_tm.specs.Manager as tm
use Rattle.qs_tm.specs.Outcomes as outcome_rules
use Rattle.qs_tm.specs.Participant as participant
use Rattle.qs_node_step.specs.Answering.{was_committed}
use Rattle.qs_node_step.specs.Commands.{with_issued}
use Rattle.qs_node_step.specs.Requests.{next_number}
use Rattle.qs_node_step.specs.State.{part_of}
use Rattle.qs_world_runs.proofs.Goes.{Goes, Steady, goes_answer, goes_elim, goes_enter, goes_if, goes_keep, goes_send, goes_sends, goes_where}
use Rattle.qs_world_runs.proofs.GoesRequests.{goes_issue_as, goes_label}

module _ (R : Work → Work → Type 0) (g : Goes R) where
  steadily : (f : Participant → Participant) → ((part : Participant) → (f part).members ≡ part.members) → ((part : Participant) → (f part).involved ≡ part.involved) → (part : Participant) → Steady part (f part)
  steadily f members involved part = record { members = members part; involved = λ is. involved part ∙ is }

  -- ---- asking, counting, refusing

  goes_asked : (tid : Tid) (part : Participant) (work : Work) → R work (become_asked tid part work)
  goes_asked tid part work =
      let asked : Work = with_manager (tm.ask tid) work in
      g.both work asked (become_asked tid part work) (g.part tid participant.ask work (steadily participant.ask (λ p. refl) (λ p. refl)))
      (goes_sends R g (listed (uncovered part.engage)) (messages.AskVote tid) asked)

  pub goes_ask_came : (peer : NodeNo) (tid : Tid) (work : Work) → R work (ask_came peer tid work)
  goes_ask_came peer tid work = goes_where R g tid (asked_by peer tid) work (λ part known. goes_if R g (is_node peer part.engage.superior && (not part.engage.home && not part.asked)) work _ work (goes_asked tid part work) (g.self work))

  pub goes_closer : (peer : NodeNo) (tid : Tid) (up_to : ℕ) (told : List NodeNo) (work : Work) → R work (closer_came peer tid up_to told work)
  goes_closer peer tid up_to told work = goes_where R g tid (λ part. count peer tid up_to told) work (λ part known. counted)
    where
      noted : Work
      noted = with_manager (tm.counted tid peer up_to told) work

      counted : R work (count peer tid up_to told work)
      counted = g.both work noted (count peer tid up_to told work)
          (g.part tid (participant.counted tid.home peer up_to told) work (steadily (participant.counted tid.home peer up_to told) (λ p. refl) (λ p. refl)))
          (goes_enter R g (acts.Counted tid peer up_to) noted)

  pub goes_block : (tid : Tid) (cause : Cause) (work : Work) → R work (block tid cause work)
  goes_block tid cause work =
      let refused : Work = with_manager (tm.refused tid) work in
      g.both work refused (block tid cause work) (g.part tid participant.refused work (steadily participant.refused (λ p. refl) (λ p. refl)))
      (g.part tid (participant.add_cause cause) refused (steadily (participant.add_cause cause) (λ p. refl) (λ p. refl)))

  pub goes_refusal : (tid : Tid) (cause : Cause) (work : Work) → R work (refusal_came tid cause work)
  goes_refusal tid cause work = goes_elim R g (part_of tid work) work _ _
      (goes_if R g (same_node tid.home (here work)) work work _ (g.self work) (goes_send R g tid.home (messages.VotedAbort tid cause) work))
      (λ part. goes_if R g (participant.is_undecided part) work _ work (goes_block tid cause work) (g.self work))

  -- ---- inquiries, and what is told of what is unknown

  goes_add_tell : (tid : Tid) (peer : NodeNo) (work : Work) → R work (with_manager (tm.add_tell tid peer) work)
  goes_add_tell tid peer work = g.part tid (outcome_rules.add_tell peer) work (steadily (outcome_rules.add_tell peer) (λ p. refl) (λ p. refl))

  pub goes_keep_told : (tid : Tid) (peer : NodeNo) (work : Work) → R work (keep_abort_told tid peer work)
  goes_keep_told tid peer work =
      let kept : Work = with_manager (tm.keep_abort tid) work in
      g.both work kept (keep_abort_told tid peer work) (goes_keep R g tid work) (goes_add_tell tid peer kept)

  goes_unknown : (peer : NodeNo) (tid : Tid) (work : Work) → R work (answer_unknown peer tid work)
  goes_unknown peer tid work =
      let kept : Work = keep_abort_told tid peer work in
      goes_if R g (was_committed tid work.node) work _ _ (goes_send R g peer (messages.Tell tid outcomes.Commit) work)
      (g.both work kept (send peer (messages.Tell tid outcomes.Abort) kept) (goes_keep_told tid peer work) (goes_send R g peer (messages.Tell tid outcomes.Abort) kept))

  goes_known : (peer : NodeNo) (tid : Tid) (o : Option Outcome) (work : Work) → R work (answer_known peer tid o work)
  goes_known peer tid None work = g.part tid (participant.add_told peer) work (steadily (participant.add_told peer) (λ p. refl) (λ p. refl))
  goes_known peer tid (Some outcomes.Commit) work = goes_send R g peer (messages.Tell tid outcomes.Commit) work
  goes_known peer tid (Some outcomes.Abort) work =
      let told : Work = with_manager (tm.add_tell tid peer) work in
      g.both work told (send peer (messages.Tell tid outcomes.Abort) told) (goes_add_tell tid peer work) (goes_send R g peer (messages.Tell tid outcomes.Abort) told)

  pub goes_inquiry : (peer : NodeNo) (tid : Tid) (work : Work) → R work (inquiry_came peer tid work)
  goes_inquiry peer tid work = goes_if R g (same_node tid.home (here work)) work _ work
      (goes_elim R g (part_of tid work) work _ _ (goes_unknown peer tid work) (λ part. goes_known peer tid part.outcome work)) (g.self work)

  pub goes_names : (tid : Tid) (further : List NodeNo) (work : Work) → R work (take_names tid further work)
  goes_names tid further work =
      let named : Work = with_manager (tm.take_names tid further) work in
      g.both work named (take_names tid further work)
      (g.part tid (outcome_rules.take_names tid.home further) work (steadily (outcome_rules.take_names tid.home further) (λ p. refl) (λ p. refl)))
      (goes_sends R g (listed (tm.new_names tid further work.node.manager)) (messages.Tell tid outcomes.Abort) named)

  pub goes_told_unknown : (peer : NodeNo) (tid : Tid) (further : List NodeNo) (work : Work) → R work (told_unknown peer tid further work)
  goes_told_unknown peer tid further work =
      let kept : Work = keep_abort_told tid peer work in
      goes_if R g (list_any (is_other_node tid) further) work _ work
      (g.both work kept (take_names tid further kept) (goes_keep_told tid peer work) (goes_names tid further kept)) (g.self work)

  pub goes_learn_unknown : (tid : Tid) (outcome : Outcome) (work : Work) → R work (learn_unknown tid outcome work)
  goes_learn_unknown tid outcomes.Commit work = g.self work
  goes_learn_unknown tid outcomes.Abort work = goes_keep R g tid work

  -- ---- commands

  goes_issued : (client : ClientNo) (tid : Tid) (member : Member) (op : Op) (number : ℕ) (work : Work) → R work (request_as client tid member op number work)
  goes_issued client tid member op number work =
      let issued : Work = with_issued client (record { tid = tid; member = member; number = number }) work in
      g.both work issued (request_as client tid member op number work) (g.still work issued refl refl)
      (goes_issue_as R g tid (record { issuer = client_server client; member = member; number = number; count = 0 }) op issued)

  pub goes_request_command : (client : ClientNo) (tid : Tid) (member : Member) (op : Op) (work : Work) → R work (request_command client tid member op work)
  goes_request_command client tid member op work = goes_elim R g (next_number tid member.node work) work work _ (g.self work) (λ number. goes_issued client tid member op number work)

  pub goes_refuse : (line : ScriptLine) (need room : ℕ) (work : Work) → R work (refuse_begin line need room work)
  goes_refuse line need room work =
      let labelled : Work = put_label (record { label = line.label; tid = None; owner = Some line.client }) work in
      g.both work labelled (refuse_begin line need room work) (goes_label R g _ work) (goes_answer R g line.client (answers.LogFull need room) labelled)

  pub goes_ask : (tid : Tid) (part : Participant) (work : Work) → R work (ask tid part work)
  goes_ask tid part work =
      let entered : Work = enter (acts.Ask tid) work in
      let noted : Work = enter_ask tid work in
      goes_if R g part.asked work work _ (g.self work)
      (g.both work entered (become_asked tid part noted) (goes_enter R g (acts.Ask tid) work)
      (g.both entered noted (become_asked tid part noted) (g.still entered noted refl refl) (goes_asked tid part noted)))

  goes_take : (client : ClientNo) (tid : Tid) (loan : Lent) (work : Work) → R work (take client tid loan work)
  goes_take client tid loan work =
      let taken : Work = with_kept (λ kept. record kept { loans = take_first client tid kept.loans }) work in
      g.both work taken (take client tid loan work) (g.still work taken refl refl) (goes_answer R g client (if is_void tid loan work.node then answers.Ended else answers.Done) taken)

  pub goes_take_command : (client : ClientNo) (tid : Tid) (work : Work) → R work (take_command client tid work)
  goes_take_command client tid work = goes_elim R g (first_untaken client tid work.node.kept.now.loans) work work _ (g.self work) (λ loan. goes_take client tid loan work)

  goes_yield : (client : ClientNo) (tid : Tid) (work : Work) → R work (yield client tid work)
  goes_yield client tid work =
      let given : Work = with_kept (λ kept. record kept { loans = give_back client tid kept.loans }) work in
      let entered : Work = enter (acts.Yield tid client) given in
      let noted : Work = with_doings tid (λ doings. record doings { yielded = true }) entered in
      g.both work given (yield client tid work) (g.still work given refl refl)
      (g.both given entered (yield client tid work) (goes_enter R g (acts.Yield tid client) given)
      (g.both entered noted (yield client tid work) (g.still entered noted refl refl) (goes_answer R g client answers.Done noted)))

  goes_lent : (client : ClientNo) (tid : Tid) (command : Command) (work : Work) → R work (lent_command client tid command work)
  goes_lent client tid commands.Begin work = g.self work
  goes_lent client tid commands.Commit work = g.self work
  goes_lent client tid commands.Abort work = g.self work
  goes_lent client tid commands.Take work = g.self work
  goes_lent client tid commands.Yield work = goes_yield client tid work
  goes_lent client tid (commands.Request member op) work = goes_request_command client tid member op work

  goes_loan_command : (client : ClientNo) (tid : Tid) (command : Command) (work : Work) → R work (loan_command client tid command work)
  goes_loan_command client tid command work = goes_elim R g (last_taken client tid work.node.kept.now.loans) work work _ (g.self work)
      (λ loan. goes_if R g loan.yielded work _ _ (goes_answer R g client answers.NotYours work)
      (goes_if R g (is_void tid loan work.node) work _ _ (goes_answer R g client answers.Ended work) (goes_lent client tid command work)))

  pub goes_borrower : (client : ClientNo) (tid : Tid) (command : Command) (work : Work) → R work (borrower_command client tid command work)
  goes_borrower client tid commands.Begin work = goes_loan_command client tid commands.Begin work
  goes_borrower client tid commands.Commit work = goes_loan_command client tid commands.Commit work
  goes_borrower client tid commands.Abort work = goes_loan_command client tid commands.Abort work
  goes_borrower client tid commands.Take work = goes_take_command client tid work
  goes_borrower client tid commands.Yield work = goes_loan_command client tid commands.Yield work
  goes_borrower client tid (commands.Request member op) work = goes_loan_command client tid (commands.Request member op) work
