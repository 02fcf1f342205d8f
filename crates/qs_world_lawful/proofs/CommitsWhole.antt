-- What a home commits lawfully is crossed nowhere: it is unanimous. And of what is committed nothing is issued.
use Rattle.qs_world_lawful.proofs.Words.{Member, Op, length, ◌≡◌, ℕ, Bool, true, false, Option, Some, None, refl, not, ◌&&◌, is_some, if◌then◌else◌, list_all, Outcome, Tid, BookValue, find_transaction, broken_decide, may_decide, broken, TransactionValue, agrees, all_served, cell_of, is_commit, is_empty, is_unanimous, Cause, entry_of, Holds}
use Rattle.qs_base.specs.declared.identifiers.Outcome.TheVariants as outcomes
use Rattle.qs_book_journal.specs.declared.entry.Act.TheVariants as acts
use Rattle.qs_book_machine.specs.Clauses.{broken_issuer, broken_outcome, is_numbered}
use Rattle.qs_node_step.specs.State.{NodeValue}
use Rattle.qs_world_lawful.proofs.Clauses.{act_allowed}

abbrev clause : ℕ → Option ℕ
clause n = Some n

module _ (stamp : ℕ) (book : BookValue) (node : NodeValue) (h : Holds stamp book node) (tid : Tid) (tx : TransactionValue) (found : find_transaction book tid ≡ Some tx) where
  pub committed_whole : (outcome : Outcome) (cause : Option Cause) → is_commit (cell_of outcome) ≡ true → broken book (entry_of node.setting.node.0 stamp (acts.Decide tid outcome cause)) ≡ None → is_empty tx.crossed ≡ true
  committed_whole outcome cause is lawful = committed outcome cause is (act_allowed stamp book node h (acts.Decide tid outcome cause) (λ s. refl) lawful)
    where
      last : (a b c d e : Bool) → ((a && b) && (c && (d && e))) ≡ true → e ≡ true
      last true true true true e is = is
      last true true true false e is = absurd (cc is)
      last true true false d e is = absurd (cc is)
      last true false c d e is = absurd (cc is)
      last false b c d e is = absurd (cc is)

      unanimous : (b : Bool) → (if b then None else clause 71) ≡ None → b ≡ true
      unanimous true e = refl
      unanimous false e = absurd (cc e)

      decides : (b : Bool) (c : Option Cause) → (if b then broken_outcome h.state book.nodes tid tx stamp outcomes.Commit c else clause 70) ≡ None → is_empty tx.crossed ≡ true
      decides true None e = last (is_some tx.asked) (all_served tx) (list_all agrees tx.parts) (is_empty tx.refusals) (is_empty tx.crossed) (unanimous (is_unanimous tx) e)
      decides true (Some k) e = absurd (cc e)
      decides false c e = absurd (cc e)

      committed : (o : Outcome) (c : Option Cause) → is_commit (cell_of o) ≡ true → broken_decide node.setting.node.0 h.state book.nodes tid (find_transaction book tid) stamp o c ≡ None → is_empty tx.crossed ≡ true
      committed outcomes.Abort c is e = absurd (cc is)
      committed outcomes.Commit c is e = decides (may_decide node.setting.node.0 tid tx) c (rw found at e)

  pub open_still : (issuer member : Member) (number : ℕ) (op : Op) → broken book (entry_of node.setting.node.0 stamp (acts.Issue tid issuer member number op)) ≡ None → is_commit tx.cell ≡ false
  open_still issuer member number op lawful =
      numbered (is_numbered node.setting.node.0 h.state (length book.nodes) tx member number op) refl (rw found at (act_allowed stamp book node h (acts.Issue tid issuer member number op) (λ s. refl) lawful))
    where
      first : (a b : Bool) → (not a && b) ≡ true → a ≡ false
      first true b e = absurd (cc e)
      first false b e = refl

      numbered : (b : Bool) → is_numbered node.setting.node.0 h.state (length book.nodes) tx member number op ≡ b → (if b then broken_issuer node.setting.node.0 h.state tid tx issuer op else clause 20) ≡ None → is_commit tx.cell ≡ false
      numbered true is e = first _ _ is
      numbered false is e = absurd (cc e)
