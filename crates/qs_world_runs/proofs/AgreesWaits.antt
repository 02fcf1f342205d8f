-- What is kept at each stage of a step is kept as a command that stayed open is answered.
use Rattle.qs_world_runs.proofs.Words.{◌≡◌, ℕ, Bool, true, List, Option, Some, None, refl, lookup, is_at, ClientNo, Member, NodeNo, Tid, Command, first_untaken, last_taken, KeptLabel, Decided, Lent, Op, kept_outcome, is_aborted, is_void, take, take_command, lent_command, with_loan, loan_command, borrower_command, enter, request_as, request_command, decided_answer, label_at, Work, client_cmp, is_owner, owner_waits, borrower_waits, waits_at, wait_command, wait_on, Issued, OpenCommand}
use Rattle.qs_ipc.specs.Queue.{is_for}
use Rattle.qs_book_journal.specs.declared.script_line.Command.TheVariants as commands
use Rattle.qs_ops.specs.declared.answer.Answer.TheVariants as answers
use Rattle.qs_node_step.specs.Commands.{with_issued}
use Rattle.qs_node_step.specs.Requests.{next_number}
use Rattle.qs_world_refine.specs.Begun.{may_command}
use Rattle.qs_world_refine.specs.Walks.{Reads, Keeps}
use Rattle.qs_world_refine.proofs.SoundParts.{and_both}
use Rattle.qs_world_refine.proofs.WalkRules.{if_walk, issue_as_walk}

module _ (P Q : Tid → Bool) (R : NodeNo → Bool) (me : NodeNo) (nodes : ℕ) (I : Work → Type 0) (reads : Reads P Q R me nodes I) (keeps : Keeps P Q R me nodes I) where
  request_command_walk : (client : ClientNo) (tid : Tid) (member : Member) (op : Op) (work : Work) → Q tid ≡ true → is_for member.server op ≡ true → I work → I (request_command client tid member op work)
  request_command_walk client tid member op work its own i = by (next_number tid member.node work)
    where
      by : (o : Option ℕ) → I (elim o [ None ↦ work | Some number ↦ request_as client tid member op number work ])
      by None = i
      by (Some number) = issue_as_walk P Q R me nodes I reads keeps tid _ op (with_issued client (record { tid = tid; member = member; number = number }) work) its own (keeps.issue client (record { tid = tid; member = member; number = number }) work i)

  take_command_walk : (client : ClientNo) (tid : Tid) (work : Work) → I work → I (take_command client tid work)
  take_command_walk client tid work i = by (first_untaken client tid work.node.kept.now.loans)
    where
      by : (o : Option Lent) → I (elim o [ None ↦ work | Some loan ↦ take client tid loan work ])
      by None = i
      by (Some loan) = keeps.answer client _ _ (keeps.take client tid work i)

  lent_command_walk : (client : ClientNo) (tid : Tid) (command : Command) (work : Work) → Q tid ≡ true → may_command nodes command ≡ true → I work → I (lent_command client tid command work)
  lent_command_walk client tid commands.Yield work its may i = keeps.answer client answers.Done _ (keeps.doing tid (λ doings. record doings { yielded = true }) _ (λ doings is. is) (keeps.enter _ _ (keeps.yield client tid work i)))
  lent_command_walk client tid (commands.Request member op) work its may i = request_command_walk client tid member op work its (and_both _ (is_for member.server op) may).1 i
  lent_command_walk client tid commands.Begin work its may i = i
  lent_command_walk client tid commands.Commit work its may i = i
  lent_command_walk client tid commands.Abort work its may i = i
  lent_command_walk client tid commands.Take work its may i = i

  loan_command_walk : (client : ClientNo) (tid : Tid) (command : Command) (work : Work) → Q tid ≡ true → may_command nodes command ≡ true → I work → I (loan_command client tid command work)
  loan_command_walk client tid command work its may i = by (last_taken client tid work.node.kept.now.loans)
    where
      by : (o : Option Lent) → I (elim o [ None ↦ work | Some loan ↦ with_loan client tid command loan work ])
      by None = i
      by (Some loan) = if_walk P Q R me nodes I reads keeps loan.yielded (λ is. keeps.answer client answers.NotYours work i)
          (λ is. if_walk P Q R me nodes I reads keeps (is_void tid loan work.node) (λ is. keeps.answer client answers.Ended work i) (λ is. lent_command_walk client tid command work its may i))

  borrower_command_walk : (client : ClientNo) (tid : Tid) (command : Command) (work : Work) → Q tid ≡ true → may_command nodes command ≡ true → I work → I (borrower_command client tid command work)
  borrower_command_walk client tid commands.Take work its may i = take_command_walk client tid work i
  borrower_command_walk client tid commands.Yield work its may i = loan_command_walk client tid commands.Yield work its may i
  borrower_command_walk client tid (commands.Request member op) work its may i = loan_command_walk client tid (commands.Request member op) work its may i
  borrower_command_walk client tid commands.Begin work its may i = loan_command_walk client tid commands.Begin work its may i
  borrower_command_walk client tid commands.Commit work its may i = loan_command_walk client tid commands.Commit work its may i
  borrower_command_walk client tid commands.Abort work its may i = loan_command_walk client tid commands.Abort work its may i

  owner_waits_walk : (client : ClientNo) (tid : Option Tid) (command : Command) (work : Work) → I work → I (owner_waits client tid command work)
  owner_waits_walk client None command work i = i
  owner_waits_walk client (Some tid) command work i = by (kept_outcome tid work.node)
    where
      by : (o : Option Decided) → I (elim o [ None ↦ work | Some decided ↦ Rattle.qs_node_step.specs.Bringing.answer client (decided_answer decided command) work ])
      by None = i
      by (Some decided) = keeps.answer client (decided_answer decided command) work i

  borrower_waits_walk : (client : ClientNo) (issued : Option Issued) (name : List ℕ) (begun : KeptLabel) (command : Command) (work : Work) → label_at name work.node ≡ Some begun → may_command nodes command ≡ true → I work → I (borrower_waits client issued begun.tid command work)
  borrower_waits_walk client (Some issued) name begun command work found may i = if_walk P Q R me nodes I reads keeps (is_aborted issued.tid work.node) (λ is. keeps.answer client answers.Ended work i) (λ is. i)
  borrower_waits_walk client None name begun command work found may i = by begun.tid refl
    where
      by : (o : Option Tid) → begun.tid ≡ o → I (borrower_waits client None o command work)
      by None is = i
      by (Some tid) is = borrower_command_walk client tid command work (reads.label name begun tid work i found is) may i

  pub wait_on_walk : (work : Work) (client : ClientNo) → I work → I (wait_on work client)
  wait_on_walk work client i = by (lookup (is_at (client_cmp client)) work.node.commands) refl
    where
      at : (command : OpenCommand) → may_command nodes command.line.command ≡ true → (o : Option KeptLabel) → label_at command.line.label work.node ≡ o → I (elim o [ None ↦ work | Some begun ↦ waits_at client command begun work ])
      at command may None none = i
      at command may (Some begun) found = if_walk P Q R me nodes I reads keeps (is_owner client begun.owner) (λ is. owner_waits_walk client begun.tid command.line.command work i)
          (λ is. borrower_waits_walk client command.issued command.line.label begun command.line.command work found may i)

      by : (o : Option OpenCommand) → lookup (is_at (client_cmp client)) work.node.commands ≡ o → I (elim o [ None ↦ work | Some command ↦ wait_command client command work ])
      by None none = i
      by (Some command) found = at command (reads.command client command work i found) (label_at command.line.label work.node) refl
