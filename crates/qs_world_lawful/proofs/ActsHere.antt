-- Where an act stands: what it asks and decides at its home, and what may be issued, by the clauses of its kind.
use Rattle.qs_world_lawful.proofs.Words.{◌≡◌, ℕ, ◌==◌, ◌&&◌, Bool, true, false, not, List, Option, Some, None, refl, subst, nat_lt, if◌then◌else◌, Member, Outcome, Tid, left_of, right_of, same_number, held, broken_decide, broken_issue, may_decide, TransactionValue, is_commit, is_open, Cause, Op, not-true}
use Rattle.qs_book_machine.specs.Clauses.{broken_ask, broken_ending, broken_issuer, is_client_here, is_files_here, is_for, is_note_due, is_numbered, may_ask, may_end, may_issue}
use Rattle.qs_book_machine.specs.Nodes as machine
use Rattle.qs_world_lawful.proofs.Turning.{some_of}

pub ask_here : (here : ℕ) (tid : Tid) (o : Option TransactionValue) → broken_ask here tid o ≡ None → (tx : TransactionValue) → o ≡ Some tx → may_ask here tid tx ≡ true
ask_here here tid None h tx is = absurd (cc h)
ask_here here tid (Some old) h tx is = subst (λ (x : TransactionValue). may_ask here tid x ≡ true) (some_of is) (held (may_ask here tid old) 50 None h).0

pub decide_here : (here : ℕ) (node : machine.NodeValue) (nodes : List machine.NodeValue) (tid : Tid) (o : Option TransactionValue) (stamp : ℕ) (outcome : Outcome) (cause : Option Cause) → broken_decide here node nodes tid o stamp outcome cause ≡ None
    → (tx : TransactionValue) → o ≡ Some tx → ((tid.home.0 == here) && is_open tx.cell) ≡ true
decide_here here node nodes tid None stamp outcome cause h tx is = absurd (cc h)
decide_here here node nodes tid (Some old) stamp outcome cause h tx is = subst (λ (x : TransactionValue). ((tid.home.0 == here) && is_open x.cell) ≡ true) (some_of is) (held (may_decide here tid old) 70 _ h).0

pub end_here : (here : ℕ) (node : machine.NodeValue) (o : Option TransactionValue) (member : Member) → broken_ending here node o member ≡ None → member.node.0 ≡ here
end_here here node None member h = absurd (cc h)
end_here here node (Some tx) member h = same_number member.node.0 here (right_of _ (member.node.0 == here) (left_of _ _ (held (may_end here node tx member) 90 None h).0))

-- what may be issued
pub record MayIssue (here : ℕ) (node : machine.NodeValue) (nodes : ℕ) (tid : Tid) (tx : TransactionValue) (issuer member : Member) (number : ℕ) (op : Op) : Type 0 where
  pub undone : is_commit tx.cell ≡ false
  pub fits : is_for op member ≡ true
  pub in_run : nat_lt member.node.0 nodes ≡ true
  pub own : issuer.node.0 ≡ here

pub issue_here : (here : ℕ) (node : machine.NodeValue) (nodes : ℕ) (tid : Tid) (o : Option TransactionValue) (issuer member : Member) (number : ℕ) (op : Op) → broken_issue here node nodes tid o issuer member number op ≡ None
    → (tx : TransactionValue) → o ≡ Some tx → MayIssue here node nodes tid tx issuer member number op
issue_here here node nodes tid None issuer member number op h tx is = absurd (cc h)
issue_here here node nodes tid (Some old) issuer member number op h tx is = subst (λ (x : TransactionValue). MayIssue here node nodes tid x issuer member number op) (some_of is) (record {
  undone = not-true (is_commit old.cell) (left_of (not (is_commit old.cell)) _ may.0);
  fits = left_of (is_for op member) _ rest;
  in_run = right_of (is_for op member) _ rest;
  own = by (is_files_here here issuer) refl may.1;
})
  where
    may : (is_numbered here node nodes old member number op ≡ true) × (broken_issuer here node tid old issuer op ≡ None)
    may = held (is_numbered here node nodes old member number op) 20 (broken_issuer here node tid old issuer op) h

    rest : (is_for op member && nat_lt member.node.0 nodes) ≡ true
    rest = right_of _ (is_for op member && nat_lt member.node.0 nodes) (right_of (not (is_commit old.cell)) _ may.0)

    clause : ℕ → Option ℕ
    clause n = Some n

    by : (b : Bool) → is_files_here here issuer ≡ b → (if b then (if is_note_due here node tid old op then None else clause 22) else if may_issue here node tid old issuer then None else clause 21) ≡ None → issuer.node.0 ≡ here
    by true files e = same_number issuer.node.0 here (left_of (issuer.node.0 == here) _ files)
    by false other e = same_number issuer.node.0 here (left_of (issuer.node.0 == here) _ (left_of (is_client_here here issuer) _ (held (may_issue here node tid old issuer) 21 None e).0))
