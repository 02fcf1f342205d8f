-- A command that stayed open is looked at again at the end of a step: as a whole.
use Rattle.qs_world_lawful.proofs.Words.{◌≡◌, ℕ, ◌==◌, Bool, true, false, Option, Some, None, refl, sym, ap, subst, ◌∙◌, nat_lt, true≢false, if◌then◌else◌, lookup, is_at, ClientNo, Member, Tid, Op, Command, BookValue, last_taken, KeptLabel, Lent, borrower_command, is_void, is_aborted, request_command, label_at, Work, client_cmp, is_owner, owner_waits, borrower_waits, waits_at, wait_command, wait_on, Issued, OpenCommand, IsAsking, HoldsWork, Participant, some_same, eqb-self, eqb-true}
use Rattle.qs_ops.specs.declared.answer.Answer.TheVariants as answers
use Rattle.qs_book_journal.specs.declared.script_line.Command.TheVariants as commands
use Rattle.qs_node_step.specs.Bringing.{answer}
use Rattle.qs_world_lawful.proofs.Answers.{by_answer}
use Rattle.qs_world_lawful.proofs.Borrowing.{by_take_command, by_loan_command, by_yield, not_void}
use Rattle.qs_world_lawful.proofs.OwnersAnswers.{by_owner_waits}
use Rattle.qs_tm.specs.Manager as tm

module _ (stamp : ℕ) (before : BookValue) (work : Work) (h : HoldsWork stamp before work) (client : ClientNo) (small : nat_lt client.0 224 ≡ true)
    (inc : (command : OpenCommand) (begun : KeptLabel) (tid : Tid) → lookup (is_at (client_cmp client)) work.node.commands ≡ Some command → label_at command.line.label work.node ≡ Some begun → begun.tid ≡ Some tid → begun.owner ≡ Some client → (part : Participant) → tm.part_of tid work.node.manager ≡ Some part → part.outcome ≡ None → tid.inc ≡ work.node.setting.inc)
    (requests : (command : OpenCommand) (begun : KeptLabel) (tid : Tid) (member : Member) (op : Op) (last : Lent) → lookup (is_at (client_cmp client)) work.node.commands ≡ Some command → label_at command.line.label work.node ≡ Some begun → begun.tid ≡ Some tid
    → command.issued ≡ None → command.line.command ≡ commands.Request member op → last_taken client tid work.node.kept.now.loans ≡ Some last → last.yielded ≡ false → is_void tid last work.node ≡ false → HoldsWork stamp before (request_command client tid member op work)) where
  same_client : (c : ClientNo) → (c.0 == client.0) ≡ true → c ≡ client
  same_client c e = ap (λ (n : ℕ). record { 0 = n }) (eqb-true c.0 client.0 e)

  owner_is : (o : Option ClientNo) → is_owner client o ≡ true → o ≡ Some client
  owner_is None e = absurd (cc e)
  owner_is (Some owner) e = ap (λ (c : ClientNo). Some c) (same_client owner e)

  module _ (command : OpenCommand) (waits : lookup (is_at (client_cmp client)) work.node.commands ≡ Some command) (begun : KeptLabel) (labelled : label_at command.line.label work.node ≡ Some begun) where
    -- who does not own it does not wait for its commit
    idle : is_owner client begun.owner ≡ false → (t : Tid) → IsAsking work.node t client → ⊥
    idle other t a =
        let same : command ≡ a.command = some_same (sym waits ∙ a.waits) in
        let label : label_at command.line.label work.node ≡ Some a.begun = subst (λ (c : OpenCommand). label_at c.line.label work.node ≡ Some a.begun) (sym same) a.labelled in
        let begun_same : begun ≡ a.begun = some_same (sym labelled ∙ label) in
        true≢false (sym (ap (is_owner client) (ap (λ (b : KeptLabel). b.owner) begun_same ∙ a.owned) ∙ eqb-self client.0) ∙ other)

    pub by_borrower_command : is_owner client begun.owner ≡ false → command.issued ≡ None → (tid : Tid) → begun.tid ≡ Some tid → (c : Command) → command.line.command ≡ c → HoldsWork stamp before (borrower_command client tid c work)
    by_borrower_command other unissued tid of = by
      where
        by : (c : Command) → command.line.command ≡ c → HoldsWork stamp before (borrower_command client tid c work)
        by commands.Take is = by_take_command stamp before work h client tid (idle other)
        by commands.Begin is = by_loan_command stamp before work h client tid (idle other) commands.Begin (λ last taken stands valid. h)
        by commands.Commit is = by_loan_command stamp before work h client tid (idle other) commands.Commit (λ last taken stands valid. h)
        by commands.Abort is = by_loan_command stamp before work h client tid (idle other) commands.Abort (λ last taken stands valid. h)
        by commands.Yield is = by_loan_command stamp before work h client tid (idle other) commands.Yield
            (λ last taken stands valid. by_yield stamp before work h client tid (idle other) small last taken stands (not_void stamp before work h client tid (idle other) (last.inc == work.node.setting.inc) (is_aborted tid work.node) valid))
        by (commands.Request member op) is = by_loan_command stamp before work h client tid (idle other) (commands.Request member op)
            (λ last taken stands valid. requests command begun tid member op last waits labelled of unissued is taken stands valid)

    by_borrower_waits : is_owner client begun.owner ≡ false → HoldsWork stamp before (borrower_waits client command.issued begun.tid command.line.command work)
    by_borrower_waits other = by command.issued refl begun.tid refl
      where
        aborted : (issued : Issued) (b : Bool) → HoldsWork stamp before (if b then answer client answers.Ended work else work)
        aborted issued true = by_answer stamp before work client answers.Ended h (λ owner there. refl) (idle other)
        aborted issued false = h

        by : (i : Option Issued) → command.issued ≡ i → (o : Option Tid) → begun.tid ≡ o → HoldsWork stamp before (borrower_waits client i o command.line.command work)
        by (Some issued) is o of = aborted issued (is_aborted issued.tid work.node)
        by None is None of = h
        by None is (Some tid) of = by_borrower_command other is tid of command.line.command refl

    by_owner_there : is_owner client begun.owner ≡ true → HoldsWork stamp before (owner_waits client begun.tid command.line.command work)
    by_owner_there own = by begun.tid refl
      where
        by : (o : Option Tid) → begun.tid ≡ o → HoldsWork stamp before (owner_waits client o command.line.command work)
        by None of = h
        by (Some tid) of = by_owner_waits stamp before work h client command waits begun labelled tid of (owner_is begun.owner own) (inc command begun tid waits labelled of (owner_is begun.owner own)) command.line.command

    by_waits_at : HoldsWork stamp before (waits_at client command begun work)
    by_waits_at = by (is_owner client begun.owner) refl
      where
        by : (b : Bool) → is_owner client begun.owner ≡ b → HoldsWork stamp before (if b then owner_waits client begun.tid command.line.command work else borrower_waits client command.issued begun.tid command.line.command work)
        by true is = by_owner_there is
        by false is = by_borrower_waits is

  -- the command of a client, if it has one
  pub by_wait_on : HoldsWork stamp before (wait_on work client)
  by_wait_on = by (lookup (is_at (client_cmp client)) work.node.commands) refl
    where
      at_label : (command : OpenCommand) → lookup (is_at (client_cmp client)) work.node.commands ≡ Some command → (o : Option KeptLabel) → label_at command.line.label work.node ≡ o → HoldsWork stamp before (elim o [ None ↦ work | Some begun ↦ waits_at client command begun work ])
      at_label command waits None is = h
      at_label command waits (Some begun) is = by_waits_at command waits begun is

      by : (o : Option OpenCommand) → lookup (is_at (client_cmp client)) work.node.commands ≡ o → HoldsWork stamp before (elim o [ None ↦ work | Some command ↦ wait_command client command work ])
      by None is = h
      by (Some command) is = at_label command is (label_at command.line.label work.node) refl
