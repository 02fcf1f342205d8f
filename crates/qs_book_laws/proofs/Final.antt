-- Once a member has learnt an outcome, nothing of the transaction is served at its node in that life.
use Rattle.qs_book_laws.proofs.Words.{◌≡◌, ◌⊎◌, inl, inr, ℕ, ◌==◌, ◌&&◌, ◌||◌, Bool, true, false, List, [], ◌∷◌, ◌++◌, Option, Some, None, refl, sym, ap, subst, ◌∙◌, if◌then◌else◌, slice_get, list_any, Class, Member, NodeNo, Outcome, Tid, same_tid-self, same_member-self, class_of, Reply, Vote, Act, Serve, Ending, Learn, Loan, Yield, Entry, TransactionValue, part_of, cell_of, serving_part, voted_part, learnt_part, Part, Request, BookValue, find_transaction, cell_of_transaction, inc_at, is_done}
use Rattle.qs_book_laws.proofs.Words.{borrower_at, broken_serve, broken_learn, broken_act, broken, effect, IsLawful, book_after, NodeValue, opening, Opened, IsCoherent, IsCommitted, is_restart, restarts, and_false, eqb-self}
use Rattle.qs_base.specs.declared.identifiers.Class.TheVariants as classes
use Rattle.qs_base.specs.declared.identifiers.Outcome.TheVariants as outcomes
use Rattle.qs_ops.specs.declared.vote.Vote.TheVariants as votes
use Rattle.qs_book_journal.specs.declared.entry.Act.TheVariants as acts
use Rattle.qs_book_machine.specs.Transaction.{learnt_abort}
use Rattle.qs_book_machine.specs.declared.transaction.Cell.TheVariants as cells
use Rattle.qs_book_machine.specs.Clauses.{broken_request, request_here, is_reply}
use Rattle.qs_book_laws.specs.Endings.{learning_servers, is_learner}
use Rattle.qs_book_laws.specs.Lives.{IsOneLife}
use Rattle.qs_book_laws.proofs.Begun.{inc_in}
use Rattle.qs_book_laws.proofs.Committed.{step_takes, ran_shut}
use Rattle.qs_book_laws.proofs.Ends.{lawful_node}
use Rattle.qs_book_laws.proofs.Histories.{stays, learns_cell}
use Rattle.qs_book_laws.proofs.Holding.{same_number, serve_here, learn_here}
use Rattle.qs_book_laws.proofs.Lives.{same_life, inc_of_node, none_born, step_part}
use Rattle.qs_book_laws.proofs.Openings.{opening_holds}
use Rattle.qs_book_laws.proofs.Outcomes.{Inv, Moves}
use Rattle.qs_book_laws.proofs.Parts.{IsPart, is_own, part_for, part_after, starts_life}
use Rattle.qs_book_laws.proofs.Ready.{no_serve}
use Rattle.qs_book_laws.proofs.ReadyCommits.{ReadyOnce, step_once, ready_once}
use Rattle.qs_book_laws.proofs.Serves.{inc_there}
use Rattle.qs_book_laws.proofs.Shut.{Shut}
use Rattle.qs_book_laws.proofs.ShutOpenings.{opening_shut}
use Rattle.qs_book_laws.proofs.Steps.{past, stepped, ran, lawful_front, lawful_rest}
use Rattle.qs_book_laws.proofs.Takes.{some_same}
use Rattle.qs_book_laws.proofs.Turns.{Stands}

-- ---- a member that learnt abort has done so for good

abbrev HasAborted : Part → Type 0
HasAborted part = part.aborted ≡ true

served_aborted : (class : Class) (stamp : ℕ) (done : Bool) (part : Part) → HasAborted part → HasAborted (serving_part class stamp done part)
served_aborted classes.Recoverable stamp done part h = h
served_aborted classes.Volatile stamp done part h = h
served_aborted classes.Immediate stamp done part h = h
served_aborted classes.Standard stamp done part h = h
served_aborted classes.Delayed stamp done part h = h
served_aborted classes.Activity stamp done part h = h

voted_aborted : (ballot : Vote) (part : Part) → HasAborted part → HasAborted (voted_part ballot part)
voted_aborted (votes.Abort reason) part h = h
voted_aborted votes.ReadOnly part h = h
voted_aborted votes.Volatile part h = h
voted_aborted votes.Recoverable part h = h

learnt_aborted : (outcome : Outcome) (part : Part) → HasAborted part → HasAborted (learnt_part outcome part)
learnt_aborted outcomes.Commit part h = h
learnt_aborted outcomes.Abort part h = refl

choose : (b : Bool) (x y : Part) → HasAborted x → HasAborted y → HasAborted (if b then x else y)
choose true x y p q = p
choose false x y p q = q

choose_for : (tid : Tid) (member : Member) (inc : ℕ) (t : Tid) (o : Option Member) (now : ℕ) (f : Part → Part) (part : Part) → HasAborted (f part) → HasAborted part → HasAborted (part_for tid member inc t o now f part)
choose_for tid member inc t None now f part p q = q
choose_for tid member inc t (Some other) now f part p q = choose (is_own tid member inc t other now) (f part) part p q

module _ (tid : Tid) (member : Member) (inc : ℕ) where
  still_aborted : (now stamp here : ℕ) (act : Act) (part : Part) → HasAborted part → HasAborted (part_after tid member inc now stamp here act part)
  still_aborted now stamp here (Serve t other from n reply) part h = choose (is_own tid member inc t other now) (serving_part (class_of other.server.0) stamp (is_done reply) part) part (served_aborted (class_of other.server.0) stamp (is_done reply) part h) h
  still_aborted now stamp here (acts.Vote t other ballot covers) part h = choose (is_own tid member inc t other now) (voted_part ballot part) part (voted_aborted ballot part h) h
  still_aborted now stamp here (Ending t other) part h = choose (is_own tid member inc t other now) _ part h h
  still_aborted now stamp here (Learn t other outcome) part h = choose (is_own tid member inc t other now) (learnt_part outcome part) part (learnt_aborted outcome part h) h
  still_aborted now stamp here (Loan t client) part h = choose_for tid member inc t (borrower_at client here) now _ part h h
  still_aborted now stamp here (Yield t client) part h = choose_for tid member inc t (borrower_at client here) now _ part h h
  still_aborted now stamp here act part h = h

  abbrev IsAborted : TransactionValue → Type 0
  IsAborted tx = HasAborted (part_of tx member inc)

  -- the transaction is over at the member's node, in this life of it
  pub record IsOver (book : BookValue) : Type 0 where
    pub inv : Inv book
    pub shut : Shut book
    pub now : inc_in book member.node.0 ≡ Some inc
    pub once : ReadyOnce tid member book
    pub outcome : Stands tid IsAborted book ⊎ IsCommitted book tid

  pub still_over : (book : BookValue) (entry : Entry) → restarts member.node entry ≡ false → broken book entry ≡ None → IsOver book → IsOver (effect book entry)
  still_over book entry far h o = record {
    inv = m.inv;
    shut = (step_takes book entry o.inv o.shut h).shut;
    now = same_life member.node book entry far h ∙ o.now;
    once = step_once tid member book entry o.inv o.shut h o.once;
    outcome = by o.outcome;
  }
    where
      m : Moves book (effect book entry)
      m = stepped book entry o.inv h

      by : Stands tid IsAborted book ⊎ IsCommitted book tid → Stands tid IsAborted (effect book entry) ⊎ IsCommitted (effect book entry) tid
      by (inr committed) = inr (stays book (effect book entry) tid cells.Commit m.kept (record { decided = refl; cell_is = committed })).cell_is
      by (inl s) =
          let p : Part = part_of s.tx member inc in
          let last = step_part tid member inc p book entry o.inv h (none_born member inc entry far) (record { tx = s.tx; found = s.found; holds = refl }) in
          inl (record {
            tx = last.tx;
            found = last.found;
            holds = subst HasAborted (sym last.holds) (still_aborted (inc_at book entry.node) entry.stamp entry.node.0 entry.act p s.holds);
          })

  pub over_on : (entries : List Entry) (book : BookValue) → IsOneLife member.node entries → IsLawful book entries → IsOver book → IsOver (book_after book entries)
  over_on [] book life lawful o = o
  over_on (entry ∷ entries) book life lawful o = over_on entries (effect book entry) life.1 lawful.1 (still_over book entry life.0 lawful.0 o)

  -- ---- nothing is served

  any_of : (f : ℕ → Bool) (s : ℕ) (xs : List ℕ) → list_any (λ x. x == s) xs ≡ true → f s ≡ true → list_any f xs ≡ true
  any_of f s [] among h = absurd (cc among)
  any_of f s (x ∷ xs) among h = by (x == s) refl among (any_of f s xs)
    where
      by : (b : Bool) → (x == s) ≡ b → (b || list_any (λ y. y == s) xs) ≡ true → (list_any (λ y. y == s) xs ≡ true → f s ≡ true → list_any f xs ≡ true) → (f x || list_any f xs) ≡ true
      by true is k more = let here : f x ≡ true = ap f (same_number x s is) ∙ h in rw here refl
      by false is k more = or_last (f x) (more k h)
        where
          or_last : (b : Bool) → list_any f xs ≡ true → (b || list_any f xs) ≡ true
          or_last true h = refl
          or_last false h = h

  abbrev no_serve_after : Bool → Option ℕ
  no_serve_after b = if b then Some 32 else None

  not_after_abort : (book : BookValue) (here : ℕ) (node : NodeValue) (tx : TransactionValue) (other : Member) (o : Option Request) (reply : Reply) → broken_request here node book.transactions tid tx other o reply ≡ None → learnt_abort tx other.node node.inc ≡ true → ⊥
  not_after_abort book here node tx other None reply h is = absurd (cc h)
  not_after_abort book here node tx other (Some request) reply h is =
      by (learnt_abort tx other.node node.inc) is (past (is_reply here node book.transactions tid tx other request.op reply) 31 _ h)
    where
      by : (b : Bool) → b ≡ true → no_serve_after b ≡ None → ⊥
      by true h k = absurd (cc k)
      by false h k = absurd (cc h)

  pub nothing_served : (book : BookValue) (entry : Entry) (other : Member) (from : NodeNo) (number : ℕ) (reply : Reply) → is_learner member.server.0 ≡ true → broken book entry ≡ None → IsOver book
      → entry.act ≡ acts.Serve tid other from number reply → other.node ≡ member.node → ⊥
  nothing_served book entry other from number reply learner h o is near = by o.outcome
    where
      at : (node : NodeValue) × (slice_get book.nodes entry.node.0 ≡ Some node) × (broken_act book entry.stamp entry.node.0 node (acts.Serve tid other from number reply) ≡ None)
      at = lawful_node book entry (acts.Serve tid other from number reply) is (λ node. refl) h

      here : other.node.0 ≡ entry.node.0
      here = serve_here book entry.node.0 at.0 tid (find_transaction book tid) other from.0 number reply at.2

      inc_same : at.0.inc ≡ inc
      inc_same = some_same at.0.inc inc (sym (inc_of_node book entry.node.0 at.0 at.1) ∙ (ap (inc_in book) (sym here ∙ ap (λ (n : NodeNo). n.0) near) ∙ o.now))

      learnt : (tx : TransactionValue) → IsAborted tx → learnt_abort tx other.node at.0.inc ≡ true
      learnt tx p =
          subst (λ (n : NodeNo). learnt_abort tx n at.0.inc ≡ true) (sym near)
          (subst (λ (k : ℕ). learnt_abort tx member.node k ≡ true) (sym inc_same)
          (any_of (λ s. (part_of tx (record { node = member.node; server = record { 0 = s } }) inc).aborted) member.server.0 learning_servers learner p))

      by : Stands tid IsAborted book ⊎ IsCommitted book tid → ⊥
      by (inr committed) = no_serve book entry.node.0 at.0 tid member other from.0 number reply (o.once committed) at.2
      by (inl s) =
          not_after_abort book entry.node.0 at.0 s.tx other (request_here entry.node.0 s.tx other from.0 number) reply
          (subst (λ (x : Option TransactionValue). broken_serve entry.node.0 at.0 book.transactions tid x other from.0 number reply ≡ None) s.found at.2) (learnt s.tx s.holds)

-- ---- a member learns

module _ (opened : List Opened) (before more : List Entry) (first : Entry) (tid : Tid) (member : Member) (outcome : Outcome) (coherent : IsCoherent opened)
    (lawful : IsLawful (opening opened) (before ++ (first ∷ more))) (is : first.act ≡ acts.Learn tid member outcome) where
  abbrev pub book : BookValue
  book = book_after (opening opened) before

  pub begins : IsLawful (opening opened) before
  begins = lawful_front before (first ∷ more) (opening opened) lawful

  pub goes_on : IsLawful book (first ∷ more)
  goes_on = lawful_rest before (first ∷ more) (opening opened) lawful

  pub inv : Inv book
  inv = (ran before (opening opened) (opening_holds opened coherent) begins).inv

  pub at : (node : NodeValue) × (slice_get book.nodes first.node.0 ≡ Some node) × (broken_act book first.stamp first.node.0 node (acts.Learn tid member outcome) ≡ None)
  at = lawful_node book first (acts.Learn tid member outcome) is (λ node. refl) goes_on.0

  pub here : member.node.0 ≡ first.node.0
  here = learn_here first.node.0 at.0 (find_transaction book tid) member outcome at.2

  pub stays_up : restarts member.node first ≡ false
  stays_up = ap (λ (a : Act). (first.node.0 == member.node.0) && is_restart a) is ∙ and_false (first.node.0 == member.node.0)

  found : (o : Option TransactionValue) → broken_learn first.node.0 at.0 o member outcome ≡ None → (tx : TransactionValue) × (o ≡ Some tx)
  found None h = absurd (cc h)
  found (Some tx) h = (tx, refl)

  pub known : (tx : TransactionValue) × (find_transaction book tid ≡ Some tx)
  known = found (find_transaction book tid) at.2

  -- the part of any member in this life, after it
  pub part_then : (other : Member) → Stands tid (IsPart tid other at.0.inc (part_of known.0 other at.0.inc) (part_after tid other at.0.inc (inc_at book first.node) first.stamp first.node.0 first.act (part_of known.0 other at.0.inc))) (effect book first)
  part_then other = step_part tid other at.0.inc (part_of known.0 other at.0.inc) book first inv goes_on.0 (ap (starts_of other) is) (record { tx = known.0; found = known.1; holds = refl })
    where
      starts_of : Member → Act → Bool
      starts_of m act = starts_life m at.0.inc first.node.0 act

  over : (last : Outcome) → outcome ≡ last → Stands tid (λ tx. HasAborted (part_of tx member at.0.inc)) (effect book first) ⊎ IsCommitted (effect book first) tid
  over outcomes.Commit e =
      let m : Moves book (effect book first) = stepped book first inv goes_on.0 in
      let cell : cell_of_transaction (find_transaction book tid) ≡ Some cells.Commit = learns_cell first.node.0 at.0 (find_transaction book tid) member outcome at.2 ∙ ap (λ (x : Outcome). Some (cell_of x)) e in
      inr (stays book (effect book first) tid cells.Commit m.kept (record { decided = refl; cell_is = cell })).cell_is
  over outcomes.Abort e =
      let s = part_then member in
      let own : is_own tid member at.0.inc tid member (inc_at book first.node) ≡ true = rw (same_tid-self tid, same_member-self member, inc_there book first.node.0 at.0 at.1) (eqb-self at.0.inc) in
      let part : Part = part_of known.0 member at.0.inc in
      let after : part_after tid member at.0.inc (inc_at book first.node) first.stamp first.node.0 first.act part ≡ learnt_part outcomes.Abort part =
      ap (λ (a : Act). part_after tid member at.0.inc (inc_at book first.node) first.stamp first.node.0 a part) (is ∙ ap (λ (x : Outcome). acts.Learn tid member x) e)
      ∙ ap (λ (b : Bool). if b then learnt_part outcomes.Abort part else part) own in
      inl (record { tx = s.tx; found = s.found; holds = subst HasAborted (sym (s.holds ∙ after)) refl })

  pub over_then : IsOver tid member at.0.inc (effect book first)
  over_then = record {
    inv = (stepped book first inv goes_on.0).inv;
    shut = (step_takes book first inv shut goes_on.0).shut;
    now = same_life member.node book first stays_up goes_on.0 ∙ (ap (inc_in book) here ∙ inc_of_node book first.node.0 at.0 at.1);
    once = step_once tid member book first inv shut goes_on.0 (ready_once tid member opened before coherent begins);
    outcome = over outcome refl;
  }
    where
      shut : Shut book
      shut = ran_shut before (opening opened) (opening_holds opened coherent) (opening_shut opened coherent) begins

pub final : (opened : List Opened) (before between after : List Entry) (first second : Entry) (tid : Tid) (member other : Member) (outcome : Outcome) (from : NodeNo) (number : ℕ) (reply : Reply) → IsCoherent opened
    → IsLawful (opening opened) (before ++ (first ∷ (between ++ (second ∷ after)))) → is_learner member.server.0 ≡ true → first.act ≡ acts.Learn tid member outcome → IsOneLife member.node between
    → second.act ≡ acts.Serve tid other from number reply → other.node ≡ member.node → ⊥
final opened before between after first second tid member other outcome from number reply coherent lawful learner is life then_is near =
    let more : List Entry = between ++ (second ∷ after) in
    let rest : IsLawful (effect (book opened before more first tid member outcome coherent lawful is) first) more = (goes_on opened before more first tid member outcome coherent lawful is).1 in
    let inc : ℕ = (at opened before more first tid member outcome coherent lawful is).0.inc in
    let last : BookValue = book_after (effect (book opened before more first tid member outcome coherent lawful is) first) between in
    nothing_served tid member inc last second other from number reply learner (lawful_rest between (second ∷ after) _ rest).0
    (over_on tid member inc between _ life (lawful_front between (second ∷ after) _ rest) (over_then opened before more first tid member outcome coherent lawful is)) then_is near
