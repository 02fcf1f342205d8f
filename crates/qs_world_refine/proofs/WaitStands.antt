-- Commands that stayed open are answered at the end of a step, and what stood of a transaction stands.
use Rattle.qs_world_refine.proofs.Words.{◌≡◌, ℕ, Bool, true, false, List, [], ◌∷◌, Option, Some, None, fold, refl, if◌then◌else◌, lookup, is_at, ClientNo, Tid, Decided, kept_outcome, answer, decided_answer, label_at, Work, client_cmp, is_owner, owner_waits, borrower_waits, wait_command, wait_on, waiting_clients, Issued, OpenCommand, Scene, goes_in_run, is_open_in_run, commands_in_run, Stands, GoesOn}
use Rattle.qs_node_kept.specs.declared.kept.KeptLabel.{KeptLabel}
use Rattle.qs_ops.specs.declared.answer.Answer.TheVariants as answers
use Rattle.qs_node_step.specs.Borrowing.{is_aborted}
use Rattle.qs_node_step.specs.Step.{waits_at}
use Rattle.qs_world_agree.specs.World.{World}
use Rattle.qs_world_refine.specs.CommandLaws.{AnswerWaitingGoes}
use Rattle.qs_world_refine.proofs.BorrowerStands.{answer_stands, borrower_goes}
use Rattle.qs_world_refine.proofs.SettleStands.{stands_itself, goes_further}
use Rattle.qs_world_refine.proofs.SoundStep.{wait_carries, found_all}

module _ (t : Tid) (scene : Scene) (n : ℕ) where
  module _ (client : ClientNo) (command : OpenCommand) (work : Work) (w : World) (in_run : goes_in_run work.node.setting.nodes command.line.command ≡ true) (is : Stands t scene n work w) where
    owner_stands : (o : Option Tid) → GoesOn t scene n (owner_waits client o command.line.command work) w
    owner_stands None = stands_itself t scene n work w is
    owner_stands (Some tid) = by (kept_outcome tid work.node)
      where
        by : (o : Option Decided) → GoesOn t scene n (elim o [ None ↦ work | Some decided ↦ answer client (decided_answer decided command.line.command) work ]) w
        by None = stands_itself t scene n work w is
        by (Some decided) = answer_stands t scene n client (decided_answer decided command.line.command) work w is

    borrower_stands : (issued : Option Issued) (o : Option Tid) → GoesOn t scene n (borrower_waits client issued o command.line.command work) w
    borrower_stands (Some issued) o = by (is_aborted issued.tid work.node)
      where
        by : (b : Bool) → GoesOn t scene n (if b then answer client answers.Ended work else work) w
        by true = answer_stands t scene n client answers.Ended work w is
        by false = stands_itself t scene n work w is
    borrower_stands None None = stands_itself t scene n work w is
    borrower_stands None (Some tid) = borrower_goes t tid scene n client command.line.command work w in_run is

    command_stands : GoesOn t scene n (wait_command client command work) w
    command_stands = by (label_at command.line.label work.node)
      where
        owned : (begun : KeptLabel) (b : Bool) → GoesOn t scene n (if b then owner_waits client begun.tid command.line.command work else borrower_waits client command.issued begun.tid command.line.command work) w
        owned begun true = owner_stands begun.tid
        owned begun false = borrower_stands command.issued begun.tid

        by : (o : Option KeptLabel) → GoesOn t scene n (elim o [ None ↦ work | Some begun ↦ waits_at client command begun work ]) w
        by None = stands_itself t scene n work w is
        by (Some begun) = owned begun (is_owner client begun.owner)

  pub wait_stands : (work : Work) (client : ClientNo) (w : World) → commands_in_run work.node ≡ true → Stands t scene n work w → GoesOn t scene n (wait_on work client) w
  wait_stands work client w in_run is = by (lookup (is_at (client_cmp client)) work.node.commands) refl
    where
      by : (o : Option OpenCommand) → lookup (is_at (client_cmp client)) work.node.commands ≡ o → GoesOn t scene n (elim o [ None ↦ work | Some command ↦ wait_command client command work ]) w
      by None none = stands_itself t scene n work w is
      by (Some command) found = command_stands client command work w
          (found_all (is_at (client_cmp client)) (is_open_in_run work.node.setting.nodes) (λ command. goes_in_run work.node.setting.nodes command.line.command) (λ e. refl) work.node.commands command found in_run) is

  all_stand : (clients : List ClientNo) (work : Work) (w : World) → commands_in_run work.node ≡ true → Stands t scene n work w → GoesOn t scene n (fold wait_on work clients) w
  all_stand [] work w in_run is = stands_itself t scene n work w is
  all_stand (client ∷ clients) work w in_run is =
      let first = wait_stands work client w in_run is in
      goes_further t scene n (fold wait_on work (client ∷ clients)) w first.next first.leads
      (all_stand clients (wait_on work client) first.next (wait_carries work client (is.sound, in_run)).1 first.stands)

pub answer_waiting_goes : AnswerWaitingGoes
answer_waiting_goes t scene n work w in_run is = all_stand t scene n (waiting_clients work) work w in_run is
