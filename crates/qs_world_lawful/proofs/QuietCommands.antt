-- What is asked, counted, refused and inquired, and what clients command: none of these rules makes a record.
use Rattle.qs_world_lawful.proofs.Words.{◌≡◌, ℕ, true, List, Option, Some, None, refl, ◌∙◌, if◌then◌else◌, not, ◌&&◌, list_any, ClientNo, Member, NodeNo, Outcome, Tid, uncovered, is_node, same_node, listed, Command, ScriptLine, Cause, Op, first_untaken, take_first, last_taken, Lent, client_server, Participant, answer_unknown, answer_known, inquiry_came, become_asked, asked_by, ask_came, closer_came, block, refusal_came, is_void, take, take_command, yield, lent_command, loan_command}
use Rattle.qs_world_lawful.proofs.Words.{borrower_command, enter, send, refuse_begin, with_issued, request_as, request_command, enter_ask, ask, next_number, put_label, Work, with_manager, with_kept, with_doings, here, keep_abort_told, learn_unknown, take_names, is_other_node, told_unknown}
use Rattle.qs_base.specs.declared.identifiers.Outcome.TheVariants as outcomes
use Rattle.qs_book_journal.specs.declared.entry.Act.TheVariants as acts
use Rattle.qs_book_journal.specs.declared.script_line.Command.TheVariants as commands
use Rattle.qs_ops.specs.declared.answer.Answer.TheVariants as answers
use Rattle.qs_packet.specs.declared.message.Message.TheVariants as messages
use Rattle.qs_node_kept.specs.Loans.{give_back}
use Rattle.qs_tm.specs.Manager as tm
use Rattle.qs_tm.specs.Outcomes as outcome_rules
use Rattle.qs_tm.specs.Participant as participant
use Rattle.qs_node_step.specs.Answering.{was_committed}
use Rattle.qs_node_step.specs.Asking.{count}
use Rattle.qs_node_step.specs.State.{part_of}
use Rattle.qs_world_lawful.proofs.Marks.{SameMarks}
use Rattle.qs_world_lawful.proofs.Recordless.{Quiet, quiet_self, quiet_then, quiet_if, quiet_elim, quiet_enter, quiet_part, quiet_send, quiet_sends, quiet_answer, quiet_where, quiet_keep}
use Rattle.qs_world_lawful.proofs.QuietRequests.{quiet_node, quiet_issue_as, quiet_label}

plain_marks : (f : Participant → Participant) → ((part : Participant) → (f part).log ≡ part.log) → ((part : Participant) → (f part).outcome ≡ part.outcome) → ((part : Participant) → (f part).involved ≡ part.involved) → (part : Participant) → SameMarks part (f part)
plain_marks f log outcome involved part = record { log = log part; outcome = outcome part; involved = λ is. involved part ∙ is }

-- ---- asking, counting, refusing

quiet_asked : (tid : Tid) (part : Participant) (work : Work) → Quiet work (become_asked tid part work)
quiet_asked tid part work =
    let asked : Work = with_manager (tm.ask tid) work in
    quiet_then work asked (become_asked tid part work) (quiet_part tid participant.ask work (plain_marks participant.ask (λ p. refl) (λ p. refl) (λ p. refl)))
    (quiet_sends (listed (uncovered part.engage)) (messages.AskVote tid) asked)

pub quiet_ask_came : (peer : NodeNo) (tid : Tid) (work : Work) → Quiet work (ask_came peer tid work)
quiet_ask_came peer tid work = quiet_where tid (asked_by peer tid) work (λ part. quiet_if (is_node peer part.engage.superior && (not part.engage.home && not part.asked)) work _ work (quiet_asked tid part work) (quiet_self work))

pub quiet_closer : (peer : NodeNo) (tid : Tid) (up_to : ℕ) (told : List NodeNo) (work : Work) → Quiet work (closer_came peer tid up_to told work)
quiet_closer peer tid up_to told work = quiet_where tid (λ part. count peer tid up_to told) work (λ part. counted)
  where
    noted : Work
    noted = with_manager (tm.counted tid peer up_to told) work

    counted : Quiet work (count peer tid up_to told work)
    counted = quiet_then work noted (count peer tid up_to told work)
        (quiet_part tid (participant.counted tid.home peer up_to told) work (plain_marks (participant.counted tid.home peer up_to told) (λ p. refl) (λ p. refl) (λ p. refl)))
        (quiet_enter (acts.Counted tid peer up_to) noted refl)

pub quiet_block : (tid : Tid) (cause : Cause) (work : Work) → Quiet work (block tid cause work)
quiet_block tid cause work =
    let refused : Work = with_manager (tm.refused tid) work in
    quiet_then work refused (block tid cause work) (quiet_part tid participant.refused work (plain_marks participant.refused (λ p. refl) (λ p. refl) (λ p. refl)))
    (quiet_part tid (participant.add_cause cause) refused (plain_marks (participant.add_cause cause) (λ p. refl) (λ p. refl) (λ p. refl)))

pub quiet_refusal : (tid : Tid) (cause : Cause) (work : Work) → Quiet work (refusal_came tid cause work)
quiet_refusal tid cause work = quiet_elim (part_of tid work) work _ _
    (quiet_if (same_node tid.home (here work)) work work _ (quiet_self work) (quiet_send tid.home (messages.VotedAbort tid cause) work))
    (λ part. quiet_if (participant.is_undecided part) work _ work (quiet_block tid cause work) (quiet_self work))

-- ---- inquiries, and what is told of what is unknown

quiet_add_tell : (tid : Tid) (peer : NodeNo) (work : Work) → Quiet work (with_manager (tm.add_tell tid peer) work)
quiet_add_tell tid peer work = quiet_part tid (outcome_rules.add_tell peer) work (plain_marks (outcome_rules.add_tell peer) (λ p. refl) (λ p. refl) (λ p. refl))

pub quiet_keep_told : (tid : Tid) (peer : NodeNo) (work : Work) → Quiet work (keep_abort_told tid peer work)
quiet_keep_told tid peer work =
    let kept : Work = with_manager (tm.keep_abort tid) work in
    quiet_then work kept (keep_abort_told tid peer work) (quiet_keep tid work) (quiet_add_tell tid peer kept)

quiet_unknown : (peer : NodeNo) (tid : Tid) (work : Work) → Quiet work (answer_unknown peer tid work)
quiet_unknown peer tid work =
    let kept : Work = keep_abort_told tid peer work in
    quiet_if (was_committed tid work.node) work _ _ (quiet_send peer (messages.Tell tid outcomes.Commit) work)
    (quiet_then work kept (send peer (messages.Tell tid outcomes.Abort) kept) (quiet_keep_told tid peer work) (quiet_send peer (messages.Tell tid outcomes.Abort) kept))

quiet_known : (peer : NodeNo) (tid : Tid) (o : Option Outcome) (work : Work) → Quiet work (answer_known peer tid o work)
quiet_known peer tid None work = quiet_part tid (participant.add_told peer) work (plain_marks (participant.add_told peer) (λ p. refl) (λ p. refl) (λ p. refl))
quiet_known peer tid (Some outcomes.Commit) work = quiet_send peer (messages.Tell tid outcomes.Commit) work
quiet_known peer tid (Some outcomes.Abort) work =
    let told : Work = with_manager (tm.add_tell tid peer) work in
    quiet_then work told (send peer (messages.Tell tid outcomes.Abort) told) (quiet_add_tell tid peer work) (quiet_send peer (messages.Tell tid outcomes.Abort) told)

pub quiet_inquiry : (peer : NodeNo) (tid : Tid) (work : Work) → Quiet work (inquiry_came peer tid work)
quiet_inquiry peer tid work = quiet_if (same_node tid.home (here work)) work _ work
    (quiet_elim (part_of tid work) work _ _ (quiet_unknown peer tid work) (λ part. quiet_known peer tid part.outcome work)) (quiet_self work)

pub quiet_names : (tid : Tid) (further : List NodeNo) (work : Work) → Quiet work (take_names tid further work)
quiet_names tid further work =
    let named : Work = with_manager (tm.take_names tid further) work in
    quiet_then work named (take_names tid further work)
    (quiet_part tid (outcome_rules.take_names tid.home further) work (plain_marks (outcome_rules.take_names tid.home further) (λ p. refl) (λ p. refl) (λ p. refl)))
    (quiet_sends (listed (tm.new_names tid further work.node.manager)) (messages.Tell tid outcomes.Abort) named)

pub quiet_told_unknown : (peer : NodeNo) (tid : Tid) (further : List NodeNo) (work : Work) → Quiet work (told_unknown peer tid further work)
quiet_told_unknown peer tid further work =
    let kept : Work = keep_abort_told tid peer work in
    quiet_if (list_any (is_other_node tid) further) work _ work
    (quiet_then work kept (take_names tid further kept) (quiet_keep_told tid peer work) (quiet_names tid further kept)) (quiet_self work)

pub quiet_learn_unknown : (tid : Tid) (outcome : Outcome) (work : Work) → Quiet work (learn_unknown tid outcome work)
quiet_learn_unknown tid outcomes.Commit work = quiet_self work
quiet_learn_unknown tid outcomes.Abort work = quiet_keep tid work

-- ---- commands

quiet_issued : (client : ClientNo) (tid : Tid) (member : Member) (op : Op) (number : ℕ) (work : Work) → Quiet work (request_as client tid member op number work)
quiet_issued client tid member op number work =
    let issued : Work = with_issued client (record { tid = tid; member = member; number = number }) work in
    quiet_then work issued (request_as client tid member op number work) (quiet_node work issued refl refl refl)
    (quiet_issue_as tid (record { issuer = client_server client; member = member; number = number; count = 0 }) op issued)

pub quiet_request_command : (client : ClientNo) (tid : Tid) (member : Member) (op : Op) (work : Work) → Quiet work (request_command client tid member op work)
quiet_request_command client tid member op work = quiet_elim (next_number tid member.node work) work work _ (quiet_self work) (λ number. quiet_issued client tid member op number work)

pub quiet_refuse : (line : ScriptLine) (need room : ℕ) (work : Work) → Quiet work (refuse_begin line need room work)
quiet_refuse line need room work =
    let labelled : Work = put_label (record { label = line.label; tid = None; owner = Some line.client }) work in
    quiet_then work labelled (refuse_begin line need room work) (quiet_label _ work) (quiet_answer line.client (answers.LogFull need room) labelled)

pub quiet_ask : (tid : Tid) (part : Participant) (work : Work) → Quiet work (ask tid part work)
quiet_ask tid part work =
    let entered : Work = enter (acts.Ask tid) work in
    let noted : Work = enter_ask tid work in
    quiet_if part.asked work work _ (quiet_self work)
    (quiet_then work entered (become_asked tid part noted) (quiet_enter (acts.Ask tid) work refl)
    (quiet_then entered noted (become_asked tid part noted) (quiet_node entered noted refl refl refl) (quiet_asked tid part noted)))

quiet_take : (client : ClientNo) (tid : Tid) (loan : Lent) (work : Work) → Quiet work (take client tid loan work)
quiet_take client tid loan work =
    let taken : Work = with_kept (λ kept. record kept { loans = take_first client tid kept.loans }) work in
    quiet_then work taken (take client tid loan work) (quiet_node work taken refl refl refl) (quiet_answer client (if is_void tid loan work.node then answers.Ended else answers.Done) taken)

pub quiet_take_command : (client : ClientNo) (tid : Tid) (work : Work) → Quiet work (take_command client tid work)
quiet_take_command client tid work = quiet_elim (first_untaken client tid work.node.kept.now.loans) work work _ (quiet_self work) (λ loan. quiet_take client tid loan work)

quiet_yield : (client : ClientNo) (tid : Tid) (work : Work) → Quiet work (yield client tid work)
quiet_yield client tid work =
    let given : Work = with_kept (λ kept. record kept { loans = give_back client tid kept.loans }) work in
    let entered : Work = enter (acts.Yield tid client) given in
    let noted : Work = with_doings tid (λ doings. record doings { yielded = true }) entered in
    quiet_then work given (yield client tid work) (quiet_node work given refl refl refl)
    (quiet_then given entered (yield client tid work) (quiet_enter (acts.Yield tid client) given refl)
    (quiet_then entered noted (yield client tid work) (quiet_node entered noted refl refl refl) (quiet_answer client answers.Done noted)))

quiet_lent : (client : ClientNo) (tid : Tid) (command : Command) (work : Work) → Quiet work (lent_command client tid command work)
quiet_lent client tid commands.Begin work = quiet_self work
quiet_lent client tid commands.Commit work = quiet_self work
quiet_lent client tid commands.Abort work = quiet_self work
quiet_lent client tid commands.Take work = quiet_self work
quiet_lent client tid commands.Yield work = quiet_yield client tid work
quiet_lent client tid (commands.Request member op) work = quiet_request_command client tid member op work

quiet_loan_command : (client : ClientNo) (tid : Tid) (command : Command) (work : Work) → Quiet work (loan_command client tid command work)
quiet_loan_command client tid command work = quiet_elim (last_taken client tid work.node.kept.now.loans) work work _ (quiet_self work)
    (λ loan. quiet_if loan.yielded work _ _ (quiet_answer client answers.NotYours work)
    (quiet_if (is_void tid loan work.node) work _ _ (quiet_answer client answers.Ended work) (quiet_lent client tid command work)))

pub quiet_borrower : (client : ClientNo) (tid : Tid) (command : Command) (work : Work) → Quiet work (borrower_command client tid command work)
quiet_borrower client tid commands.Begin work = quiet_loan_command client tid commands.Begin work
quiet_borrower client tid commands.Commit work = quiet_loan_command client tid commands.Commit work
quiet_borrower client tid commands.Abort work = quiet_loan_command client tid commands.Abort work
quiet_borrower client tid commands.Take work = quiet_take_command client tid work
quiet_borrower client tid commands.Yield work = quiet_loan_command client tid commands.Yield work
quiet_borrower client tid (commands.Request member op) work = quiet_loan_command client tid (commands.Request member op) work
