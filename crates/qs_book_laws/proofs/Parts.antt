-- What an entry does to the part of a member in an incarnation of its node: what the act says, where it is one of that member
-- in that incarnation, and nothing else.
use Rattle.qs_book_laws.proofs.Words.{◌≡◌, ℕ, ◌==◌, ◌&&◌, Bool, true, false, List, Option, Some, None, refl, sym, ap, subst, ◌∙◌, if◌then◌else◌, arith, nat_tests, slice_get, unwrap_or, nat_lt, lookup, insert_entry, is_at, same_tid, same_member, ClientNo, Member, Outcome, Tid, same_tid-true, same_member-true, same_member-self, class_of, Vote, Act, Begin, Issue, Serve, Ask, Counted, Decide, Ending, Learn, Loan, Yield, Tick, Crash, Restart, TransactionValue, changed_value, part_of, no_part, life}
use Rattle.qs_book_laws.proofs.Words.{life_cmp, serving_part, voted_part, learnt, learnt_part, ended_part, made_part, yielded_part, lent, given_back, Life, Part, BookValue, find_transaction, inc_at, is_done, borrower_at, broken_vote, is_vote_due, broken_learn, may_learn, broken_ending, may_end, broken_act, NodeValue}
use Rattle.qs_base.specs.declared.identifiers.Outcome.TheVariants as outcomes
use Rattle.qs_book_journal.specs.declared.entry.Act.TheVariants.{Answer}
use Rattle.qs_book_journal.specs.declared.entry.Act.TheVariants as acts
use Rattle.qs_book_machine.specs.Transaction.{has_loan, is_loan_due}
use Rattle.qs_book_machine.specs.Clauses.{broken_loan, may_lend, broken_yield, may_yield}
use Rattle.qs_book_laws.proofs.Counts.{life_equal, life_exact, life_itself, life_other, life_later}
use Rattle.qs_book_laws.proofs.Holding.{left_of, right_of, same_number, clash}
use Rattle.qs_book_laws.proofs.Maps.{changed_apart, lookup_changed, lookup_put, lookup_put_apart}
use Rattle.qs_book_laws.proofs.Serves.{inc_there}
use Rattle.qs_book_laws.proofs.Steps.{held, passed}
use Rattle.qs_book_laws.proofs.Turns.{Same, Gives, GivesFor, Obliged}

-- ---- one part of many

module _ (member : Member) (inc : ℕ) where
  found_in : List (Life × Part) → Part
  found_in parts = unwrap_or (lookup (is_at (life_cmp (life member inc))) parts) no_part

  -- a part that is put in its place
  pub put_part : (tx : TransactionValue) (other : Member) (k : ℕ) (part : Part)
      → unwrap_or (lookup (is_at (life_cmp (life member inc))) (insert_entry life_cmp tx.parts (life other k) part)) no_part ≡ (if same_member other member && (k == inc) then part else part_of tx member inc)
  put_part tx other k part = by (same_member other member) (k == inc) refl refl
    where
      apart : is_at (life_cmp (life member inc)) (life other k) ≡ false → unwrap_or (lookup (is_at (life_cmp (life member inc))) (insert_entry life_cmp tx.parts (life other k) part)) no_part ≡ part_of tx member inc
      apart far = ap (λ (o : Option Part). unwrap_or o no_part) (lookup_put_apart life_cmp (life other k) part (λ x. life_equal (life other k) x) (is_at (life_cmp (life member inc))) far tx.parts)

      here : other ≡ member → k ≡ inc → unwrap_or (lookup (is_at (life_cmp (life member inc))) (insert_entry life_cmp tx.parts (life other k) part)) no_part ≡ part
      here e f =
          subst (λ (x : Member). unwrap_or (lookup (is_at (life_cmp (life member inc))) (insert_entry life_cmp tx.parts (life x k) part)) no_part ≡ part) (sym e)
          (subst (λ (n : ℕ). unwrap_or (lookup (is_at (life_cmp (life member inc))) (insert_entry life_cmp tx.parts (life member n) part)) no_part ≡ part) (sym f)
          (ap (λ (o : Option Part). unwrap_or o no_part) (lookup_put life_cmp (life member inc) part (life_itself (life member inc)) tx.parts)))

      swapped : (k == inc) ≡ false → (inc == k) ≡ false
      swapped h = grind (arith, nat_tests)

      by : (b c : Bool) → same_member other member ≡ b → (k == inc) ≡ c
          → unwrap_or (lookup (is_at (life_cmp (life member inc))) (insert_entry life_cmp tx.parts (life other k) part)) no_part ≡ (if b && c then part else part_of tx member inc)
      by true true is same = here (same_member-true other member is) (same_number k inc same)
      by true false is far = apart (life_later member other inc k (swapped far))
      by false c is far = apart (life_other member other inc k is)

  -- a part that is changed where it is
  change_part : (tx : TransactionValue) (other : Member) (k : ℕ) (f : Part → Part) → (part_of tx other k ≡ no_part → ⊥)
      → unwrap_or (lookup (is_at (life_cmp (life member inc))) (changed_value (is_at (life_cmp (life other k))) f tx.parts)) no_part ≡ (if same_member other member && (k == inc) then f (part_of tx member inc) else part_of tx member inc)
  change_part tx other k f there = by (same_member other member) (k == inc) refl refl
    where
      new : Member → ℕ → Part
      new x n = unwrap_or (lookup (is_at (life_cmp (life member inc))) (changed_value (is_at (life_cmp (life x n))) f tx.parts)) no_part

      apart : is_at (life_cmp (life other k)) (life member inc) ≡ false → new other k ≡ part_of tx member inc
      apart far =
          ap (λ (o : Option Part). unwrap_or o no_part)
          (changed_apart (is_at (life_cmp (life other k))) (is_at (life_cmp (life member inc)))
          (λ l is. subst (λ (x : Life). is_at (life_cmp (life other k)) x ≡ false) (life_exact (life member inc) l is) far) f tx.parts)

      same : (o : Option Part) → lookup (is_at (life_cmp (life member inc))) tx.parts ≡ o → (part_of tx member inc ≡ no_part → ⊥) → new member inc ≡ f (part_of tx member inc)
      same None is k = absurd (k (ap (λ (o : Option Part). unwrap_or o no_part) is))
      same (Some part) is k =
          ap (λ (o : Option Part). unwrap_or o no_part) (lookup_changed (is_at (life_cmp (life member inc))) f tx.parts part is)
          ∙ ap (λ (o : Option Part). f (unwrap_or o no_part)) (sym is)

      here : other ≡ member → k ≡ inc → new other k ≡ f (part_of tx member inc)
      here e g =
          subst (λ (x : Member). new x k ≡ f (part_of tx member inc)) (sym e)
          (subst (λ (n : ℕ). new member n ≡ f (part_of tx member inc)) (sym g)
          (same (lookup (is_at (life_cmp (life member inc))) tx.parts) refl
          (subst (λ (n : ℕ). part_of tx member n ≡ no_part → ⊥) g (subst (λ (x : Member). part_of tx x k ≡ no_part → ⊥) e there))))

      unlike : (b : Bool) → same_member member other ≡ b → same_member other member ≡ false → b ≡ false
      unlike false is h = refl
      unlike true is h = absurd (clash (subst (λ (x : Member). same_member other x ≡ true) (sym (same_member-true member other is)) (same_member-self other)) h)

      by : (b c : Bool) → same_member other member ≡ b → (k == inc) ≡ c → new other k ≡ (if b && c then f (part_of tx member inc) else part_of tx member inc)
      by true true is eq = here (same_member-true other member is) (same_number k inc eq)
      by true false is far = apart (life_later other member k inc far)
      by false c is far = apart (life_other other member k inc (unlike (same_member member other) refl is))

-- ---- each act

-- the act is one of that member for the transaction, at a node that is in that incarnation
abbrev pub is_own : Tid → Member → ℕ → Tid → Member → ℕ → Bool
is_own tid member inc t other now = same_tid t tid && (same_member other member && (now == inc))

abbrev pub part_for : Tid → Member → ℕ → Tid → Option Member → ℕ → (Part → Part) → Part → Part
part_for tid member inc t None now f part = part
part_for tid member inc t (Some other) now f part = if is_own tid member inc t other now then f part else part

-- what the act makes of the part; `now` is the incarnation of its node
abbrev pub part_after : Tid → Member → ℕ → ℕ → ℕ → ℕ → Act → Part → Part
part_after tid member inc now stamp here (Serve t other from n reply) part = if is_own tid member inc t other now then serving_part (class_of other.server.0) stamp (is_done reply) part else part
part_after tid member inc now stamp here (acts.Vote t other ballot covers) part = if is_own tid member inc t other now then voted_part ballot part else part
part_after tid member inc now stamp here (Ending t other) part = if is_own tid member inc t other now then ended_part part else part
part_after tid member inc now stamp here (Learn t other outcome) part = if is_own tid member inc t other now then learnt_part outcome part else part
part_after tid member inc now stamp here (Loan t client) part = part_for tid member inc t (borrower_at client here) now made_part part
part_after tid member inc now stamp here (Yield t client) part = part_for tid member inc t (borrower_at client here) now yielded_part part
part_after tid member inc now stamp here act part = part

-- no restart of the member's node into that incarnation
abbrev pub starts_life : Member → ℕ → ℕ → Act → Bool
starts_life member inc here (Restart new pend done) = (here == member.node.0) && (new == inc)
starts_life member inc here act = false

-- ---- a lawful act of a member is one that did something

nothing_done : (m n : ℕ) → nat_lt m n ≡ true → m ≡ 0 → n ≡ 0 → ⊥
nothing_done m n h e f = grind (arith, nat_tests)

voted_there : (here : ℕ) (node : NodeValue) (tid : Tid) (o : Option TransactionValue) (tx : TransactionValue) (other : Member) (ballot : Vote) (covers : ℕ) → broken_vote here node tid o other ballot covers ≡ None → o ≡ Some tx → part_of tx other node.inc ≡ no_part → ⊥
voted_there here node tid None tx other ballot covers h is e = absurd (cc is)
voted_there here node tid (Some x) tx other ballot covers h is e =
    let same : x ≡ tx = cc is in
    let due : is_vote_due here x other (part_of x other node.inc) ≡ true = passed (is_vote_due here x other (part_of x other node.inc)) 40 _ h in
    let p : part_of x other node.inc ≡ no_part = ap (λ (y : TransactionValue). part_of y other node.inc) same ∙ e in
    nothing_done (part_of x other node.inc).voted (part_of x other node.inc).served (right_of _ _ (right_of _ _ due)) (ap (λ (q : Part). q.voted) p) (ap (λ (q : Part). q.served) p)

learnt_there : (here : ℕ) (node : NodeValue) (o : Option TransactionValue) (tx : TransactionValue) (other : Member) (outcome : Outcome) → broken_learn here node o other outcome ≡ None → o ≡ Some tx → part_of tx other node.inc ≡ no_part → ⊥
learnt_there here node None tx other outcome h is e = absurd (cc is)
learnt_there here node (Some x) tx other outcome h is e =
    let same : x ≡ tx = cc is in
    let may : may_learn here x other (part_of x other node.inc) outcome ≡ true = passed (may_learn here x other (part_of x other node.inc) outcome) 95 _ h in
    let p : part_of x other node.inc ≡ no_part = ap (λ (y : TransactionValue). part_of y other node.inc) same ∙ e in
    clash (right_of _ _ (right_of _ _ may)) (ap (λ (q : Part). q.due) p)

ended_there : (here : ℕ) (node : NodeValue) (o : Option TransactionValue) (tx : TransactionValue) (other : Member) → broken_ending here node o other ≡ None → o ≡ Some tx → part_of tx other node.inc ≡ no_part → ⊥
ended_there here node None tx other h is e = absurd (cc is)
ended_there here node (Some x) tx other h is e =
    let same : x ≡ tx = cc is in
    let may : may_end here node x other ≡ true = (held (may_end here node x other) 90 None h).0 in
    let p : part_of x other node.inc ≡ no_part = ap (λ (y : TransactionValue). part_of y other node.inc) same ∙ e in
    clash (left_of _ _ (right_of _ _ may)) (ap (λ (q : Part). q.due) p)

lent_there : (here : ℕ) (node : NodeValue) (o : Option TransactionValue) (tx : TransactionValue) (client : ClientNo) (stamp : ℕ) (other : Member) → broken_loan here node o client stamp ≡ None → o ≡ Some tx → borrower_at client here ≡ Some other → part_of tx other node.inc ≡ no_part → ⊥
lent_there here node None tx client stamp other h is at e = absurd (cc is)
lent_there here node (Some x) tx client stamp other h is at e =
    let same : x ≡ tx = cc is in
    let may : may_lend node x (borrower_at client here) stamp ≡ true = (held (may_lend node x (borrower_at client here) stamp) 85 None h).0 in
    let due : is_loan_due x other node.inc stamp ≡ true = subst (λ (m : Option Member). may_lend node x m stamp ≡ true) at may in
    let p : part_of x other node.inc ≡ no_part = ap (λ (y : TransactionValue). part_of y other node.inc) same ∙ e in
    nothing_done 0 (part_of x other node.inc).unmade (right_of _ _ due) refl (ap (λ (q : Part). q.unmade) p)

yielded_there : (here : ℕ) (node : NodeValue) (o : Option TransactionValue) (tx : TransactionValue) (client : ClientNo) (other : Member) → broken_yield here node o client ≡ None → o ≡ Some tx → borrower_at client here ≡ Some other → part_of tx other node.inc ≡ no_part → ⊥
yielded_there here node None tx client other h is at e = absurd (cc is)
yielded_there here node (Some x) tx client other h is at e =
    let same : x ≡ tx = cc is in
    let may : may_yield node x (borrower_at client here) ≡ true = (held (may_yield node x (borrower_at client here)) 88 None h).0 in
    let stands : has_loan x other node.inc ≡ true = subst (λ (m : Option Member). may_yield node x m ≡ true) at may in
    let p : part_of x other node.inc ≡ no_part = ap (λ (y : TransactionValue). part_of y other node.inc) same ∙ e in
    nothing_done (part_of x other node.inc).yielded (part_of x other node.inc).made stands (ap (λ (q : Part). q.yielded) p) (ap (λ (q : Part). q.made) p)

-- ---- a step

module _ (tid : Tid) (member : Member) (inc : ℕ) (part : Part) where
  abbrev pub IsPart : Part → TransactionValue → Type 0
  IsPart p tx = part_of tx member inc ≡ p

  is_if : (t : Tid) (other : Member) (now : ℕ) (f : Part → Part) (tx : TransactionValue) (new : Part) → same_tid t tid ≡ true → IsPart part tx
      → new ≡ (if same_member other member && (now == inc) then f (part_of tx member inc) else part_of tx member inc) → new ≡ (if is_own tid member inc t other now then f part else part)
  is_if t other now f tx new same is e =
      subst (λ (b : Bool). new ≡ (if b && (same_member other member && (now == inc)) then f part else part)) (sym same)
      (subst (λ (p : Part). new ≡ (if same_member other member && (now == inc) then f p else p)) is e)

  apart_if : (t : Tid) (other : Member) (now : ℕ) (f : Part → Part) → same_tid t tid ≡ false → Same (IsPart part) (IsPart (if is_own tid member inc t other now then f part else part))
  apart_if t other now f apart tx is = subst (λ (b : Bool). part_of tx member inc ≡ (if b && (same_member other member && (now == inc)) then f part else part)) (sym apart) is

  plain : (book : BookValue) (t : Tid) (f : TransactionValue → TransactionValue) → ((tx : TransactionValue) → part_of (f tx) member inc ≡ part_of tx member inc) → Gives tid (IsPart part) (IsPart part) book t f
  plain book t f same = record { own = λ is tx found p. same tx ∙ p; other = λ apart tx p. p }

  changes : (book : BookValue) (t : Tid) (other : Member) (now : ℕ) (f : Part → Part) (g : TransactionValue → TransactionValue)
      → ((tx : TransactionValue) → part_of (g tx) member inc ≡ unwrap_or (lookup (is_at (life_cmp (life member inc))) (changed_value (is_at (life_cmp (life other now))) f tx.parts)) no_part)
      → ((tx : TransactionValue) → find_transaction book t ≡ Some tx → part_of tx other now ≡ no_part → ⊥)
      → Gives tid (IsPart part) (IsPart (if is_own tid member inc t other now then f part else part)) book t g
  changes book t other now f g is there = record {
    own = λ same tx found p. is_if t other now f tx (part_of (g tx) member inc) same p (is tx ∙ change_part member inc tx other now f (there tx (ap (find_transaction book) (same_tid-true t tid same) ∙ found)));
    other = λ apart tx p. apart_if t other now f apart tx p;
  }

  learnt_parts : (other : Member) (k : ℕ) (outcome : Outcome) (tx : TransactionValue)
      → part_of (learnt other k outcome tx) member inc ≡ unwrap_or (lookup (is_at (life_cmp (life member inc))) (changed_value (is_at (life_cmp (life other k))) (learnt_part outcome) tx.parts)) no_part
  learnt_parts other k outcomes.Commit tx = refl
  learnt_parts other k outcomes.Abort tx = refl

  module _ (book : BookValue) (stamp here : ℕ) (node : NodeValue) (at : slice_get book.nodes here ≡ Some node) where
    abbrev now : ℕ
    now = inc_at book (record { 0 = here })

    now_is : node.inc ≡ now
    now_is = sym (inc_there book here node at)

    in_now : (t : Tid) (other : Member) → ((tx : TransactionValue) → find_transaction book t ≡ Some tx → part_of tx other node.inc ≡ no_part → ⊥) → (tx : TransactionValue) → find_transaction book t ≡ Some tx → part_of tx other now ≡ no_part → ⊥
    in_now t other k = subst (λ (n : ℕ). (tx : TransactionValue) → find_transaction book t ≡ Some tx → part_of tx other n ≡ no_part → ⊥) now_is k

    lends : (t : Tid) (o : Option Member) (f : Part → Part) (g : Member → TransactionValue → TransactionValue)
        → ((other : Member) (tx : TransactionValue) → part_of (g other tx) member inc ≡ unwrap_or (lookup (is_at (life_cmp (life member inc))) (changed_value (is_at (life_cmp (life other now))) f tx.parts)) no_part)
        → ((other : Member) → o ≡ Some other → (tx : TransactionValue) → find_transaction book t ≡ Some tx → part_of tx other node.inc ≡ no_part → ⊥)
        → GivesFor tid (IsPart part) (IsPart (part_for tid member inc t o now f part)) book t g o
    lends t None f g is there = λ tx p. p
    lends t (Some other) f g is there = changes book t other now f (g other) (is other) (in_now t other (there other refl))

    pub owes : (act : Act) → broken_act book stamp here node act ≡ None → starts_life member inc here act ≡ false → Obliged tid (IsPart part) (IsPart (part_after tid member inc now stamp here act part)) book stamp here act
    owes (Begin t label client) h far = λ tx p. p
    owes (Issue t issuer other n op) h far = plain book t _ (λ tx. refl)
    owes (Serve t other from n reply) h far = record {
      own = λ same tx found p. is_if t other now (serving_part (class_of other.server.0) stamp (is_done reply)) tx _ same p (served tx (same_member other member) (now == inc) refl refl (put_part member inc tx other now (serving_part (class_of other.server.0) stamp (is_done reply) (part_of tx other now))));
      other = λ apart tx p. apart_if t other now (serving_part (class_of other.server.0) stamp (is_done reply)) apart tx p;
    }
      where
        f : Part → Part
        f = serving_part (class_of other.server.0) stamp (is_done reply)

        served : (tx : TransactionValue) {new : Part} (b c : Bool) → same_member other member ≡ b → (now == inc) ≡ c
            → new ≡ (if same_member other member && (now == inc) then f (part_of tx other now) else part_of tx member inc) → new ≡ (if same_member other member && (now == inc) then f (part_of tx member inc) else part_of tx member inc)
        served tx {new} true true is same e =
            let x : part_of tx other now ≡ part_of tx member inc = ap (λ (m : Member). part_of tx m now) (same_member-true other member is) ∙ ap (part_of tx member) (same_number now inc same) in
            subst (λ (p : Part). new ≡ (if same_member other member && (now == inc) then f p else part_of tx member inc)) x e
        served tx {new} true false is same e = rw (is, same) (rw (is, same) at e)
        served tx {new} false c is same e = rw is (rw is at e)
    owes (acts.Vote t other ballot covers) h far =
        changes book t other now (voted_part ballot) _ (λ tx. refl) (in_now t other (λ tx found. voted_there here node t (find_transaction book t) tx other ballot covers h found))
    owes (Ask t) h far = plain book t _ (λ tx. refl)
    owes (Counted t peer so_far) h far = plain book t _ (λ tx. refl)
    owes (Decide t outcome cause) h far = plain book t _ (λ tx. refl)
    owes (Ending t other) h far = changes book t other now ended_part _ (λ tx. refl) (in_now t other (λ tx found. ended_there here node (find_transaction book t) tx other h found))
    owes (Learn t other outcome) h far =
        changes book t other now (learnt_part outcome) (learnt other now outcome) (learnt_parts other now outcome) (in_now t other (λ tx found. learnt_there here node (find_transaction book t) tx other outcome h found))
    owes (Answer client line said) h far = (λ n k tx p. p, λ tx p. p)
    owes (Loan t client) h far = lends t (borrower_at client here) made_part (λ other. lent other now) (λ other tx. refl) (λ other is tx found. lent_there here node (find_transaction book t) tx client stamp other h found is)
    owes (Yield t client) h far = lends t (borrower_at client here) yielded_part (λ other. given_back other now) (λ other tx. refl) (λ other is tx found. yielded_there here node (find_transaction book t) tx client other h found is)
    owes Tick h far = λ tx p. p
    owes (Crash cause) h far = λ tx p. p
    owes (Restart new pend done) h far = absurd (cc h)
