-- What clients command is obeyed the same where the node knows of other Commits.
use Rattle.std.proofs.Common.{◌≡◌, true, List, refl, Option, Some, None}
use Rattle.std.specs.Prelude.{if◌then◌else◌}
use Rattle.qs_base.specs.declared.identifiers.Tid.{Tid}
use Rattle.qs_base.specs.declared.identifiers.ClientNo.{ClientNo}
use Rattle.qs_base.specs.declared.identifiers.Member.{Member}
use Rattle.qs_base.specs.declared.identifiers.Outcome.TheVariants as outcomes
use Rattle.qs_ops.specs.declared.operation.Op.{Op}
use Rattle.qs_ops.specs.declared.answer.Answer.TheVariants as answers
use Rattle.qs_ops.specs.declared.answer.Cause.TheVariants as causes
use Rattle.qs_book_journal.specs.declared.script_line.Command.{Command}
use Rattle.qs_book_journal.specs.declared.script_line.ScriptLine.{ScriptLine}
use Rattle.qs_book_journal.specs.declared.entry.Act.TheVariants as acts
use Rattle.qs_book_journal.specs.declared.script_line.Command.TheVariants as commands
use Rattle.qs_tm.specs.Manager as tm
use Rattle.qs_tm.specs.declared.manager.BeginFault.{BeginFault}
use Rattle.qs_tm.specs.declared.manager.BeginFault.TheVariants as faults
use Rattle.qs_node_kept.specs.Loans.{first_untaken, take_first, last_taken, give_back}
use Rattle.qs_node_kept.specs.declared.kept.Lent.{Lent}
use Rattle.qs_node_kept.specs.declared.kept.KeptLabel.{KeptLabel}
use Rattle.qs_node_servers.specs.Servers.{client_server}
use Rattle.qs_node_step.specs.State.{Work, with_manager, with_kept, with_doings}
use Rattle.qs_node_step.specs.Bringing.{enter, answer}
use Rattle.qs_node_step.specs.Answering.{kept_outcome}
use Rattle.qs_node_step.specs.Asking.{become_asked}
use Rattle.qs_node_step.specs.Commands.{request_command, begin_as, begin_or_refuse, with_issued, request_as, enter_ask, ask, open_command, decided_answer, owner_command}
use Rattle.qs_node_step.specs.Borrowing.{is_void, take, take_command, yield, lent_command, with_loan, loan_command, borrower_command}
use Rattle.qs_node_step.specs.Requests.{next_number}
use Rattle.qs_node_step.specs.Serving.{put_label, label_at}
use Rattle.qs_node_step.specs.Deciding.{decide}
use Rattle.qs_node_step.specs.Step.{is_owner, labelled, obey}
use Rattle.qs_world_forgetting.specs.Knowing.{work_knowing}
use Rattle.qs_world_forgetting.proofs.KnowingDeeds.{Commutes, unchanged, answer_goes, decide_goes, if_goes, opt_goes, same_goes, unless_goes, where_goes}
use Rattle.qs_world_forgetting.proofs.KnowingRequests.{issue_as_goes}
use Rattle.qs_world_forgetting.proofs.KnowingVotes.{become_asked_goes}

module _ (c : List Tid) where
  -- ---- clients

  request_command_goes : (client : ClientNo) (tid : Tid) (member : Member) (op : Op) → Commutes c (request_command client tid member op)
  request_command_goes client tid member op w = opt_goes c (next_number tid member.node w) unchanged (λ number u. request_as client tid member op number u) (same_goes c)
      (λ number u. issue_as_goes c tid (record { issuer = client_server client; member = member; number = number; count = 0 }) op (with_issued client (record { tid = tid; member = member; number = number }) u)) w

  take_command_goes : (client : ClientNo) (tid : Tid) → Commutes c (take_command client tid)
  take_command_goes client tid w = opt_goes c (first_untaken client tid w.node.kept.now.loans) unchanged (λ loan u. take client tid loan u) (same_goes c)
      (λ loan u. answer_goes c client (if is_void tid loan u.node then answers.Ended else answers.Done) (with_kept (λ kept. record kept { loans = take_first client tid kept.loans }) u)) w

  yield_goes : (client : ClientNo) (tid : Tid) → Commutes c (yield client tid)
  yield_goes client tid w = answer_goes c client answers.Done (with_doings tid (λ doings. record doings { yielded = true }) (enter (acts.Yield tid client) (with_kept (λ kept. record kept { loans = give_back client tid kept.loans }) w)))

  lent_goes : (client : ClientNo) (tid : Tid) (command : Command) → Commutes c (lent_command client tid command)
  lent_goes client tid commands.Yield w = yield_goes client tid w
  lent_goes client tid (commands.Request member op) w = request_command_goes client tid member op w
  lent_goes client tid commands.Begin w = refl
  lent_goes client tid commands.Commit w = refl
  lent_goes client tid commands.Abort w = refl
  lent_goes client tid commands.Take w = refl

  with_loan_goes : (client : ClientNo) (tid : Tid) (command : Command) (loan : Lent) → Commutes c (with_loan client tid command loan)
  with_loan_goes client tid command loan w = if_goes c loan.yielded (answer client answers.NotYours) (λ u. if is_void tid loan u.node then answer client answers.Ended u else lent_command client tid command u) (answer_goes c client answers.NotYours)
      (λ u. if_goes c (is_void tid loan u.node) (answer client answers.Ended) (lent_command client tid command) (answer_goes c client answers.Ended) (lent_goes client tid command) u) w

  loan_command_goes : (client : ClientNo) (tid : Tid) (command : Command) → Commutes c (loan_command client tid command)
  loan_command_goes client tid command w = opt_goes c (last_taken client tid w.node.kept.now.loans) unchanged (λ loan u. with_loan client tid command loan u) (same_goes c) (λ loan u. with_loan_goes client tid command loan u) w

  pub borrower_goes : (client : ClientNo) (tid : Tid) (command : Command) → Commutes c (borrower_command client tid command)
  borrower_goes client tid commands.Take w = take_command_goes client tid w
  borrower_goes client tid commands.Begin w = loan_command_goes client tid commands.Begin w
  borrower_goes client tid commands.Commit w = loan_command_goes client tid commands.Commit w
  borrower_goes client tid commands.Abort w = loan_command_goes client tid commands.Abort w
  borrower_goes client tid commands.Yield w = loan_command_goes client tid commands.Yield w
  borrower_goes client tid (commands.Request member op) w = loan_command_goes client tid (commands.Request member op) w

  begin_as_goes : (line : ScriptLine) (tid : Tid) → Commutes c (begin_as line tid)
  begin_as_goes line tid w = answer_goes c line.client answers.Done (enter (acts.Begin tid line.label line.client) (put_label (record { label = line.label; tid = Some tid; owner = Some line.client }) (with_manager (tm.begin line.client) w)))

  begin_fault_goes : (line : ScriptLine) (o : Option BeginFault) → Commutes c (begin_or_refuse line o)
  begin_fault_goes line None w = begin_as_goes line (tm.next_tid w.node.manager) w
  begin_fault_goes line (Some (faults.LogFull need room)) w = answer_goes c line.client (answers.LogFull need room) (put_label (record { label = line.label; tid = None; owner = Some line.client }) w)
  begin_fault_goes line (Some (faults.Last value)) w = refl
  begin_fault_goes line (Some faults.NoMemory) w = refl

  open_goes : (client : ClientNo) (tid : Tid) (command : Command) → Commutes c (open_command client tid command)
  open_goes client tid commands.Commit w = where_goes c tid (ask tid) (λ part u. unless_goes c part.asked (λ v. become_asked tid part (enter_ask tid v)) (λ v. become_asked_goes c tid part (enter_ask tid v)) u) w
  open_goes client tid commands.Abort w = where_goes c tid (λ part. decide tid outcomes.Abort (Some causes.Asked)) (λ part u. decide_goes c tid outcomes.Abort (Some causes.Asked) u) w
  open_goes client tid (commands.Request member op) w = request_command_goes client tid member op w
  open_goes client tid commands.Begin w = refl
  open_goes client tid commands.Take w = refl
  open_goes client tid commands.Yield w = refl

  owner_goes : (client : ClientNo) (o : Option Tid) (command : Command) → Commutes c (owner_command client o command)
  owner_goes client None command w = answer_goes c client answers.NotBegun w
  owner_goes client (Some tid) command w = opt_goes c (kept_outcome tid w.node) (open_command client tid command) (λ decided u. answer client (decided_answer decided command) u) (open_goes client tid command) (λ decided u. answer_goes c client (decided_answer decided command) u) w

  tid_goes : (client : ClientNo) (o : Option Tid) (command : Command) (w : Work) → ◌≡◌ {A = Work} (elim o [ None ↦ work_knowing c w | Some tid ↦ borrower_command client tid command (work_knowing c w) ]) (work_knowing c (elim o [ None ↦ w | Some tid ↦ borrower_command client tid command w ]))
  tid_goes client None command w = refl
  tid_goes client (Some tid) command w = borrower_goes client tid command w

  labelled_goes : (client : ClientNo) (begun : KeptLabel) (command : Command) → Commutes c (labelled client begun command)
  labelled_goes client begun command w = if_goes c (is_owner client begun.owner) (owner_command client begun.tid command) (λ u. elim begun.tid [ None ↦ u | Some tid ↦ borrower_command client tid command u ]) (owner_goes client begun.tid command) (λ u. tid_goes client begun.tid command u) w

  found_goes : (line : ScriptLine) (command : Command) → Commutes c (λ w. elim (label_at line.label w.node) [ None ↦ w | Some begun ↦ labelled line.client begun command w ])
  found_goes line command w = opt_goes c (label_at line.label w.node) unchanged (λ begun u. labelled line.client begun command u) (same_goes c) (λ begun u. labelled_goes line.client begun command u) w

  pub obey_goes : (line : ScriptLine) (command : Command) → Commutes c (obey line command)
  obey_goes line commands.Begin w = begin_fault_goes line (tm.begin_fault w.room w.node.manager) w
  obey_goes line commands.Commit w = found_goes line commands.Commit w
  obey_goes line commands.Abort w = found_goes line commands.Abort w
  obey_goes line commands.Take w = found_goes line commands.Take w
  obey_goes line commands.Yield w = found_goes line commands.Yield w
  obey_goes line (commands.Request member op) w = found_goes line (commands.Request member op) w
