-- The owner of a transaction that is decided is told so: its command, and one that waited, each as a whole.
use Rattle.qs_world_lawful.proofs.Words.{◌≡◌, ℕ, true, Option, Some, None, refl, sym, ap, subst, ◌∙◌, slice_get, lookup, is_at, ClientNo, Tid, Command, TransactionValue, BookValue, is_known, Owner, Participant, KeptLabel, Decided, kept_outcome, owner_command, open_command, decided_answer, outcome_answer, label_at, Work, client_cmp, owner_waits, OpenCommand, HasEnded, IsOwner, IsAsking, HoldsWork, book_at, some_same}
use Rattle.qs_book_journal.specs.declared.script_line.Command.TheVariants as commands
use Rattle.qs_tm.specs.Manager as tm
use Rattle.qs_node_step.specs.Bringing.{answer}
use Rattle.qs_world_lawful.proofs.Answers.{by_due_answer}
use Rattle.qs_world_lawful.proofs.Clauses.{of_tid}
use Rattle.qs_world_lawful.proofs.Taking.{none_open}

module _ (stamp : ℕ) (before : BookValue) (work : Work) (h : HoldsWork stamp before work) (client : ClientNo) (command : OpenCommand) (waits : lookup (is_at (client_cmp client)) work.node.commands ≡ Some command)
    (begun : KeptLabel) (labelled : label_at command.line.label work.node ≡ Some begun) (tid : Tid) (of : begun.tid ≡ Some tid) (owned : begun.owner ≡ Some client) (inc : (part : Participant) → tm.part_of tid work.node.manager ≡ Some part → part.outcome ≡ None → tid.inc ≡ work.node.setting.inc) where
  -- what the client waits for is its own
  asks_for : (t : Tid) → IsAsking work.node t client → tid ≡ t
  asks_for t a =
      let same : command ≡ a.command = some_same (sym waits ∙ a.waits) in
      let label : label_at command.line.label work.node ≡ Some a.begun = subst (λ (c : OpenCommand). label_at c.line.label work.node ≡ Some a.begun) (sym same) a.labelled in
      let begun_same : begun ≡ a.begun = some_same (sym labelled ∙ label) in
      some_same (sym of ∙ (ap (λ (b : KeptLabel). b.tid) begun_same ∙ a.of))

  -- the owner is told that it is decided
  pub by_decided_answer : (decided : Decided) → kept_outcome tid work.node ≡ Some decided → (said : Command) → HoldsWork stamp before (answer client (decided_answer decided said) work)
  by_decided_answer decided kept said = by_due_answer stamp before work client (decided_answer decided said) h known idle
    where
      ended : HasEnded (book_at stamp before work) tid decided
      ended = h.holds.clients.outcomes tid decided kept

      its : IsOwner (book_at stamp before work) tid client
      its = h.holds.clients.labels command.line.label begun tid client labelled of owned

      owns : ended.tx.owner ≡ Some client
      owns = ap (λ (x : TransactionValue). x.owner) (some_same (sym ended.found ∙ its.found)) ∙ its.owns

      may : (owner : Owner) → slice_get (book_at stamp before work).owners client.0 ≡ Some owner → is_known owner (outcome_answer decided) ≡ true
      may owner there =
          let told = ended.told client owns in
          subst (λ (o : Owner). is_known o (outcome_answer decided) ≡ true) (some_same (sym told.there ∙ there)) told.known

      known : (owner : Owner) → slice_get (book_at stamp before work).owners client.0 ≡ Some owner → is_known owner (decided_answer decided said) ≡ true
      known owner there = by said
        where
          by : (c : Command) → is_known owner (decided_answer decided c) ≡ true
          by commands.Commit = may owner there
          by commands.Abort = may owner there
          by commands.Begin = refl
          by commands.Take = refl
          by commands.Yield = refl
          by (commands.Request member op) = refl

      idle : (t : Tid) (part : Participant) → t.home ≡ work.node.setting.node → tm.part_of t work.node.manager ≡ Some part → part.outcome ≡ None → IsAsking work.node t client → ⊥
      idle t part near is unknown a =
          let same : tid ≡ t = asks_for t a in
          let here : tm.part_of tid work.node.manager ≡ Some part = subst (λ (u : Tid). tm.part_of u work.node.manager ≡ Some part) (sym same) is in
          let held = of_tid stamp (book_at stamp before work) work.node h.holds tid ended.tx ended.found in
          none_open decided.outcome ended.tx.cell ended.as_kept ((held.home (ap (λ (u : Tid). u.home) same ∙ near) (inc part here unknown)).undecided part here unknown)

  -- a command that waits is answered once the transaction is decided
  pub by_owner_waits : (said : Command) → HoldsWork stamp before (owner_waits client (Some tid) said work)
  by_owner_waits said = by (kept_outcome tid work.node) refl
    where
      by : (o : Option Decided) → kept_outcome tid work.node ≡ o → HoldsWork stamp before (elim o [ None ↦ work | Some decided ↦ answer client (decided_answer decided said) work ])
      by None kept = h
      by (Some decided) kept = by_decided_answer decided kept said

  -- what the owner commands is done where the transaction is open, and answered where it is decided
  pub by_owner_command : (said : Command) → (kept_outcome tid work.node ≡ None → HoldsWork stamp before (open_command client tid said work)) → HoldsWork stamp before (owner_command client (Some tid) said work)
  by_owner_command said opens = by (kept_outcome tid work.node) refl
    where
      by : (o : Option Decided) → kept_outcome tid work.node ≡ o → HoldsWork stamp before (elim o [ None ↦ open_command client tid said work | Some decided ↦ answer client (decided_answer decided said) work ])
      by None kept = opens kept
      by (Some decided) kept = by_decided_answer decided kept said
