-- Each request of a transaction whose requests are all served in the end, and which isn't crossed, was served before another
-- of its number was issued.
use Rattle.qs_book_laws.proofs.Words.{◌≡◌, ℕ, ◌==◌, ◌&&◌, ◌||◌, Bool, true, false, not, List, [], ◌∷◌, Option, Some, None, refl, sym, ap, subst, ◌∙◌, is_some, slice_get, length, find, lookup, is_at, same_tid, same_member, member_cmp, Member, NodeNo, Outcome, Tid, same_tid-self, same_member-true, same_member-self, Op, Act, Begin, Issue, Serve, Ask, Counted, Decide, Ending, Learn, Loan, Yield, Tick, Crash, Restart, Entry, TransactionValue, request_cmp, is_standing, standing_request, crossed_by}
use Rattle.qs_book_laws.proofs.Words.{learnt, is_crossed, all_served, lent, given_back, Request, RequestNo, BookValue, find_transaction, crossed_in, inc_at, link_to, borrower_at, broken_issue, broken_act, broken, effect, IsLawful, book_after, NodeValue, is_share, crossed_at, eqb-self}
use Rattle.qs_base.specs.declared.identifiers.Outcome.TheVariants as outcomes
use Rattle.qs_book_journal.specs.declared.entry.Act.TheVariants.{Answer}
use Rattle.qs_book_journal.specs.declared.entry.Act.TheVariants as acts
use Rattle.qs_book_machine.specs.Transaction.{requests_in}
use Rattle.qs_book_laws.specs.Unanimity.{issues, issues_from, serves_from, is_served_in}
use Rattle.qs_book_laws.proofs.Ends.{lawful_node}
use Rattle.qs_book_laws.proofs.Grows.{step_grows}
use Rattle.qs_book_laws.proofs.Holding.{left_of, right_of, same_number, clash}
use Rattle.qs_book_laws.proofs.Outcomes.{Inv}
use Rattle.qs_book_laws.proofs.Ready.{served_standing}
use Rattle.qs_book_laws.proofs.Requests.{request_exact, IsStanding, put_stands, issue_stands, mark_stands, crossing}
use Rattle.qs_book_laws.proofs.Steps.{stepped}
use Rattle.qs_book_laws.proofs.Takes.{some_same}
use Rattle.qs_book_laws.proofs.Turns.{Stands, Gives, GivesFor, Obliged, step_turns}

module _ (tid : Tid) (member : Member) (from : NodeNo) (number : ℕ) where
  abbrev pub at : RequestNo
  at = record { link = record { from = from; to = member.node }; number = number }

  abbrev Stood : TransactionValue → Type 0
  Stood = IsStanding at member

  abbrev Crossed : TransactionValue → Type 0
  Crossed tx = is_crossed tx member ≡ true

  -- ---- what leaves a request that stands

  plain : (book : BookValue) (t : Tid) (f : TransactionValue → TransactionValue) → ((tx : TransactionValue) → (f tx).requests ≡ tx.requests) → Gives tid Stood Stood book t f
  plain book t f same = record {
    own = λ is tx found p. ap (λ (rs : List (RequestNo × List Request)). is_some (find (is_standing member) (requests_in rs at))) (same tx) ∙ p;
    other = λ apart tx p. p;
  }

  learnt_same : (other : Member) (inc : ℕ) (outcome : Outcome) (tx : TransactionValue) → (learnt other inc outcome tx).requests ≡ tx.requests
  learnt_same other inc outcomes.Commit tx = refl
  learnt_same other inc outcomes.Abort tx = refl

  lends : (book : BookValue) (t : Tid) (o : Option Member) (f : Member → TransactionValue → TransactionValue) → ((m : Member) (tx : TransactionValue) → (f m tx).requests ≡ tx.requests) → GivesFor tid Stood Stood book t f o
  lends book t None f same = λ tx p. p
  lends book t (Some m) f same = plain book t (f m) (same m)

  -- a serve of another request
  not_it : (t : Tid) (other : Member) (sender : NodeNo) (n : ℕ) → (is_share tid member t other && ((sender.0 == from.0) && (n == number))) ≡ false → same_tid t tid ≡ true
      → is_at (request_cmp (record { link = record { from = sender; to = other.node }; number = n })) at ≡ true → same_member other member ≡ false
  not_it t other sender n h same is = by (same_member other member) refl
    where
      e : record { link = record { from = sender; to = other.node }; number = n } ≡ at
      e = request_exact (record { link = record { from = sender; to = other.node }; number = n }) at is

      by_node : (sender.0 == from.0) ≡ true
      by_node = subst (λ (m : ℕ). (m == from.0) ≡ true) (sym (ap (λ (r : RequestNo). r.link.from.0) e)) (eqb-self from.0)

      by_number : (n == number) ≡ true
      by_number = subst (λ (m : ℕ). (m == number) ≡ true) (sym (ap (λ (r : RequestNo). r.number) e)) (eqb-self number)

      by : (b : Bool) → same_member other member ≡ b → b ≡ false
      by false far = refl
      by true near = let no : ((true && true) && (true && true)) ≡ false = rw (same, near, by_node, by_number) at h in absurd (cc no)

  owed : (book : BookValue) (stamp here : ℕ) (act : Act) → serves_from from tid member number act ≡ false → Obliged tid Stood Stood book stamp here act
  owed book stamp here (Begin t label client) h = λ tx p. p
  owed book stamp here (Issue t issuer other n op) h = record {
    own = λ is tx found p. put_stands at member tx (record { link = link_to here other; number = n }) (record { issuer = issuer; member = other; op = op; inc = inc_at book (record { 0 = here }); served = false }) p;
    other = λ apart tx p. p;
  }
  owed book stamp here (Serve t other sender n reply) h = record {
    own = λ is tx found p. mark_stands at member tx (record { link = record { from = sender; to = other.node }; number = n }) other (not_it t other sender n h is) p;
    other = λ apart tx p. p;
  }
  owed book stamp here (acts.Vote t other ballot covers) h = plain book t _ (λ tx. refl)
  owed book stamp here (Ask t) h = plain book t _ (λ tx. refl)
  owed book stamp here (Counted t peer so_far) h = plain book t _ (λ tx. refl)
  owed book stamp here (Decide t outcome cause) h = plain book t _ (λ tx. refl)
  owed book stamp here (Ending t other) h = plain book t _ (λ tx. refl)
  owed book stamp here (Learn t other outcome) h = plain book t _ (learnt_same other (inc_at book (record { 0 = here })) outcome)
  owed book stamp here (Answer client line said) h = (λ n k tx p. p, λ tx p. p)
  owed book stamp here (Loan t client) h = lends book t (borrower_at client here) (λ m. lent m (inc_at book (record { 0 = here }))) (λ m tx. refl)
  owed book stamp here (Yield t client) h = lends book t (borrower_at client here) (λ m. given_back m (inc_at book (record { 0 = here }))) (λ m tx. refl)
  owed book stamp here Tick h = λ tx p. p
  owed book stamp here (Crash cause) h = λ tx p. p
  owed book stamp here (Restart inc pend done) h = (record { learnt = λ m tx p. p; decided = λ place outcome cause tx p. p; found = λ server covers changes tx p. p }, λ tx p. p)

  -- ---- an issue of that number

  abbrev crossed_there : ℕ → Member → ℕ → ℕ → Member → TransactionValue → Option ℕ
  crossed_there place m k n to tx = lookup (is_at (member_cmp member)) (crossed_by (standing_request tx (record { link = link_to k m; number = n }) to) place to tx.crossed)

  -- crosses one that stands
  crosses_it : (book : BookValue) (stamp here : ℕ) (act : Act) → here ≡ from.0 → issues tid member number act ≡ true → Obliged tid Stood Crossed book stamp here act
  crosses_it book stamp here (Issue t issuer other n op) e h = record {
    own = λ is tx found p.
        subst (λ (m : Member). is_some (crossed_there book.place m here n m tx) ≡ true) (sym near)
        (subst (λ (k : ℕ). is_some (crossed_there book.place member k n member tx) ≡ true) (sym e)
        (subst (λ (k : ℕ). is_some (crossed_there book.place member from.0 k member tx) ≡ true) (sym same_no) (crossing at member tx book.place p)));
    other = λ apart tx p. absurd (clash (left_of (same_tid t tid) (same_member other member) (left_of (is_share tid member t other) (n == number) h)) apart);
  }
    where
      near : other ≡ member
      near = same_member-true other member (right_of (same_tid t tid) (same_member other member) (left_of (is_share tid member t other) (n == number) h))

      same_no : n ≡ number
      same_no = same_number n number (right_of (is_share tid member t other) (n == number) h)
  crosses_it book stamp here act e h = absurd (cc h)

  -- ---- a history

  crossed_last : (entries : List Entry) (book : BookValue) → Inv book → IsLawful book entries → crossed_at book tid member ≡ true → crossed_at (book_after book entries) tid member ≡ true
  crossed_last [] book i lawful h = h
  crossed_last (entry ∷ entries) book i lawful h = crossed_last entries (effect book entry) (stepped book entry i lawful.0).inv lawful.1 ((step_grows tid member book entry i lawful.0).crossed h)

  served_before : (entries : List Entry) (book : BookValue) (last : TransactionValue) → Inv book → IsLawful book entries → Stands tid Stood book
      → find_transaction (book_after book entries) tid ≡ Some last → all_served last ≡ true → is_crossed last member ≡ false → is_served_in from tid member number entries ≡ true
  served_before [] book last i lawful s found all uncrossed =
      let same : s.tx ≡ last = some_same s.tx last (sym s.found ∙ found) in
      let none : standing_request s.tx at member ≡ None = subst (λ (x : TransactionValue). standing_request x at member ≡ None) (sym same) (served_standing last at member all) in
      absurd (clash s.holds (ap (λ (o : Option Request). is_some o) none))
  served_before (entry ∷ entries) book last i lawful s found all uncrossed =
      by (serves_from from tid member number entry.act) (issues_from from tid member number entry) refl refl
      (λ still. served_before entries (effect book entry) last (stepped book entry i lawful.0).inv lawful.1 still found all uncrossed)
    where
      new : BookValue
      new = effect book entry

      inv : Inv new
      inv = (stepped book entry i lawful.0).inv

      crossed : issues_from from tid member number entry ≡ true → ⊥
      crossed is =
          let x : Stands tid Crossed new =
          step_turns tid Stood Crossed book entry i lawful.0
          (crosses_it book entry.stamp entry.node.0 entry.act (same_number entry.node.0 from.0 (left_of (entry.node.0 == from.0) (issues tid member number entry.act) is)) (right_of (entry.node.0 == from.0) (issues tid member number entry.act) is)) s in
          let there : crossed_at new tid member ≡ true = ap (λ (o : Option TransactionValue). crossed_in o member) x.found ∙ x.holds in
          clash (crossed_last entries new inv lawful.1 there) (ap (λ (o : Option TransactionValue). crossed_in o member) found ∙ uncrossed)

      by : (a b : Bool) → serves_from from tid member number entry.act ≡ a → issues_from from tid member number entry ≡ b
          → (Stands tid Stood new → is_served_in from tid member number entries ≡ true)
          → (serves_from from tid member number entry.act || (not (issues_from from tid member number entry) && is_served_in from tid member number entries)) ≡ true
      by true b is or more = rw is refl
      by false true is or more = absurd (crossed or)
      by false false is or more = rw (is, or) (more (step_turns tid Stood Stood book entry i lawful.0 (owed book entry.stamp entry.node.0 entry.act is) s))

-- ---- an issue

known_issue : (here : ℕ) (node : NodeValue) (nodes : ℕ) (tid : Tid) (o : Option TransactionValue) (issuer member : Member) (n : ℕ) (op : Op) → broken_issue here node nodes tid o issuer member n op ≡ None → (tx : TransactionValue) × (o ≡ Some tx)
known_issue here node nodes tid None issuer member n op h = absurd (cc h)
known_issue here node nodes tid (Some tx) issuer member n op h = (tx, refl)

-- after it the request stands
stands_after : (book : BookValue) (entry : Entry) (tid : Tid) (issuer member : Member) (number : ℕ) (op : Op) → Inv book → broken book entry ≡ None → entry.act ≡ acts.Issue tid issuer member number op
    → Stands tid (IsStanding (at tid member entry.node number) member) (effect book entry)
stands_after book entry tid issuer member number op i h is =
    let there : (node : NodeValue) × (slice_get book.nodes entry.node.0 ≡ Some node) × (broken_act book entry.stamp entry.node.0 node (acts.Issue tid issuer member number op) ≡ None) =
    lawful_node book entry (acts.Issue tid issuer member number op) is (λ node. refl) h in
    let known : (tx : TransactionValue) × (find_transaction book tid ≡ Some tx) = known_issue entry.node.0 there.0 (length book.nodes) tid (find_transaction book tid) issuer member number op there.2 in
    step_turns tid (λ tx. tx ≡ tx) (IsStanding (at tid member entry.node number) member) book entry i h
    (subst (λ (act : Act). Obliged tid (λ tx. tx ≡ tx) (IsStanding (at tid member entry.node number) member) book entry.stamp entry.node.0 act) (sym is) (record {
      own = λ same tx found p.
          issue_stands (at tid member entry.node number) member tx (record { issuer = issuer; member = member; op = op; inc = inc_at book entry.node; served = false })
          (rw (same_member-self member) refl);
      other = λ apart tx p. absurd (clash (same_tid-self tid) apart);
    }))
    (record { tx = known.0; found = known.1; holds = refl })

pub each_served : (tid : Tid) (book : BookValue) (entry : Entry) (rest : List Entry) (last : TransactionValue) (issuer member : Member) (number : ℕ) (op : Op) → Inv book → IsLawful book (entry ∷ rest) → entry.act ≡ acts.Issue tid issuer member number op
    → find_transaction (book_after (effect book entry) rest) tid ≡ Some last → all_served last ≡ true → is_crossed last member ≡ false → is_served_in entry.node tid member number rest ≡ true
each_served tid book entry rest last issuer member number op i lawful is found all uncrossed =
    served_before tid member entry.node number rest (effect book entry) last (stepped book entry i lawful.0).inv lawful.1 (stands_after book entry tid issuer member number op i lawful.0 is) found all uncrossed
