-- What the course has borrowed of one transaction is changed, as its node changes the loans that it keeps of that: a take, a yield, and one more loan.
use Rattle.std.proofs.Common.{◌≡◌, ◌∙◌, ℕ, ◌==◌, Bool, true, false, List, [], ◌∷◌, ◌++◌, Option, Some, None, inl, inr, refl, sym, ap, subst}
use Rattle.std.specs.Prelude.{◌&&◌, unwrap_or, if◌then◌else◌}
use Rattle.std.specs.BTreeMap.{is_at}
use Rattle.qs_base.specs.Order.{same_tid, tid_cmp}
use Rattle.qs_base.specs.declared.identifiers.ClientNo.{ClientNo}
use Rattle.qs_base.specs.declared.identifiers.Tid.{Tid}
use Rattle.qs_base.proofs.Same.{same_tid-self, same_tid-true}
use Rattle.qs_base.proofs.TidOrder.{same_tid-cmp, tid_exact}
use Rattle.qs_base_lemmas.proofs.Tests.{and_last, eqb-self}
use Rattle.qs_ops.specs.declared.answer.Answer.{Answer}
use Rattle.qs_ops.specs.declared.answer.Answer.TheVariants as answers
use Rattle.qs_book_journal.specs.declared.script_line.Command.TheVariants as commands
use Rattle.qs_book_journal.specs.declared.script_line.ScriptLine.{ScriptLine}
use Rattle.qs_book_laws.proofs.Alikes.{tid_itself}
use Rattle.qs_book_laws.proofs.Maps.{lookup_put, lookup_put_apart}
use Rattle.qs_book_machine.specs.Book.{BookValue, find_label}
use Rattle.qs_book_conformance.specs.Commands.{is_begin, is_take}
use Rattle.qs_book_conformance.specs.Course.{BorrowingValue, ClientValue, borrowing_of, first_of, no_borrowing}
use Rattle.qs_book_conformance.specs.Effects.{answered, gave_back, lent_in, refused_by, rest_of, take_of, taken_by, taken_one, told_of, with_borrowing}
use Rattle.qs_book_conformance.specs.declared.values.CommandMade.TheVariants as makes
use Rattle.qs_node_kept.specs.Loans.{give_back, is_loan_of, is_taken, last_taken, take_first}
use Rattle.qs_node_kept.specs.declared.kept.Lent.{Lent}
use Rattle.qs_world_course.specs.Answered.{IsOfTake, TakesAreAnswered, YieldIsDue, YieldsAreAnswered, after_yield, answered_at, with_given, with_taken}
use Rattle.qs_world_course.specs.Clients.{IsOnCourse, IsOver, IsSpent}
use Rattle.qs_world_course.specs.Going.{LendsGo, with_loan}
use Rattle.qs_world_course.specs.Loans.{HoldsBorrowing, loans_of, new_loan}
use Rattle.qs_world_course.proofs.Closes.{closes, plain_so}
use Rattle.qs_world_course.proofs.DueLaws.{due_of}
use Rattle.qs_world_course.proofs.LoansGo.{loans_go, takes_go, yields_go}
use Rattle.qs_world_course.proofs.LoansStay.{others_stay}

-- ---- of that transaction, and of the others

own_borrowing : (state : ClientValue) (tid : Tid) (f : BorrowingValue → BorrowingValue) → borrowing_of (with_borrowing tid f state) tid ≡ f (borrowing_of state tid)
own_borrowing state tid f = ap (λ (o : Option BorrowingValue). unwrap_or o no_borrowing) (lookup_put tid_cmp tid (f (borrowing_of state tid)) (tid_itself tid) state.borrowed)

other_borrowing : (state : ClientValue) (tid t : Tid) (f : BorrowingValue → BorrowingValue) → same_tid t tid ≡ false → borrowing_of (with_borrowing tid f state) t ≡ borrowing_of state t
other_borrowing state tid t f far = ap (λ (o : Option BorrowingValue). unwrap_or o no_borrowing)
    (lookup_put_apart tid_cmp tid (f (borrowing_of state tid)) (λ x e. tid_exact tid x e) (is_at (tid_cmp t)) (sym (same_tid-cmp t tid) ∙ far) state.borrowed)

of_other : (client : ClientNo) (tid t : Tid) → same_tid t tid ≡ false → (loan : Lent) → is_loan_of client tid loan ≡ true → is_loan_of client t loan ≡ false
of_other client tid t far loan is = by (same_tid loan.tid t) refl
  where
    never : (a b : Bool) → b ≡ false → (a && b) ≡ false
    never true b e = e
    never false b e = refl

    its_tid : loan.tid ≡ tid
    its_tid = same_tid-true loan.tid tid (and_last (loan.client.0 == client.0) (same_tid loan.tid tid) is)

    not_so : same_tid loan.tid t ≡ true → ⊥
    not_so e = absurd (cc (sym (subst (λ (u : Tid). same_tid u tid ≡ true) (sym its_tid ∙ same_tid-true loan.tid t e) (same_tid-self tid)) ∙ far))

    by : (b : Bool) → same_tid loan.tid t ≡ b → is_loan_of client t loan ≡ false
    by true e = absurd (not_so e)
    by false e = never (loan.client.0 == client.0) (same_tid loan.tid t) e

changed_loans : (state : ClientValue) (client : ClientNo) (tid t : Tid) (f : BorrowingValue → BorrowingValue) (loans new : List Lent) → ((u : Tid) → HoldsBorrowing (loans_of client u loans) (borrowing_of state u))
    → (HoldsBorrowing (loans_of client tid loans) (borrowing_of state tid) → HoldsBorrowing (loans_of client tid new) (f (borrowing_of state tid))) → ((u : Tid) → same_tid u tid ≡ false → loans_of client u new ≡ loans_of client u loans)
    → HoldsBorrowing (loans_of client t new) (borrowing_of (with_borrowing tid f state) t)
changed_loans state client tid t f loans new held own others = by (same_tid t tid) refl
  where
    by : (b : Bool) → same_tid t tid ≡ b → HoldsBorrowing (loans_of client t new) (borrowing_of (with_borrowing tid f state) t)
    by true e = subst (λ (u : Tid). HoldsBorrowing (loans_of client u new) (borrowing_of (with_borrowing tid f state) u)) (sym (same_tid-true t tid e))
        (subst (HoldsBorrowing (loans_of client tid new)) (sym (own_borrowing state tid f)) (own (held tid)))
    by false e = subst (λ (l : List Lent). HoldsBorrowing l (borrowing_of (with_borrowing tid f state) t)) (sym (others t e))
        (subst (HoldsBorrowing (loans_of client t loans)) (sym (other_borrowing state tid t f e)) (held t))

-- ---- a take

unrefused : (line : ScriptLine) (answer : Answer) (state : ClientValue) → IsOfTake answer → refused_by line answer state ≡ state
unrefused line answer state (inl is) = ap (λ (a : Answer). refused_by line a state) is
unrefused line answer state (inr is) = ap (λ (a : Answer). refused_by line a state) is

taken_so : (book : BookValue) (line : ScriptLine) (state : ClientValue) (tid : Tid) → line.command ≡ commands.Take → find_label book line.label ≡ Some tid → taken_by book line state ≡ with_borrowing tid taken_one state
taken_so book line state tid takes label = rw (ap is_take takes) (ap (λ (o : Option Tid). take_of o state) label)

-- the client after it
abbrev after_take : Tid → List ScriptLine → ClientValue → ClientValue
after_take tid rest state = record (with_borrowing tid taken_one state) { left = rest; made = makes.Nothing }

answered_take : (book : BookValue) (line : ScriptLine) (rest : List ScriptLine) (state : ClientValue) (tid : Tid) (answer : Answer) → state.left ≡ line ∷ rest → line.command ≡ commands.Take → find_label book line.label ≡ Some tid → IsOfTake answer
    → answered book answer state ≡ after_take tid rest state
answered_take book line rest state tid answer left takes label of =
    ap (λ (ls : List ScriptLine). record (told_of book answer (first_of ls) state) { left = rest_of ls; made = makes.Nothing }) left
    ∙ (ap (λ (c : ClientValue). record c { left = rest; made = makes.Nothing }) (unrefused line answer (taken_by book line state) of)
    ∙ ap (λ (c : ClientValue). record c { left = rest; made = makes.Nothing }) (taken_so book line state tid takes label))

pub takes_are_answered : TakesAreAnswered
takes_are_answered node later client line rest state book answer tid loan c takes label found of =
    subst (IsOnCourse (answered_at later (with_taken client tid node.kept) node) client rest) (sym (answered_take book line rest state tid answer c.held.left takes label of))
    (closes node later client line rest state c (with_taken client tid node.kept) (after_take tid rest state) refl refl refl
    (λ t. changed_loans state client tid t taken_one node.kept.loans (take_first client tid node.kept.loans) c.held.loans (λ g. takes_go client tid node.kept.loans (borrowing_of state tid) loan found g)
    (λ u far. (others_stay client client tid u node.kept.loans (of_other client tid u far)).0))
    c.held.refused c.held.begun)

-- ---- a yield

pub yield_is_due : YieldIsDue
yield_is_due s tid tx of is given = due_of s false tid tx answers.Done of (ap is_begin is) ∙ rw of.own_is (rw is (rw given refl))

pub yields_are_answered : YieldsAreAnswered
yields_are_answered node later client line rest state book tid loan c yields found =
    subst (IsOnCourse (answered_at later (with_given client tid node.kept) node) client rest) (sym (plain_so book line rest (after_yield tid state) answers.Done c.held.left (ap is_take yields) (λ c. refl)))
    (closes node later client line rest state c (with_given client tid node.kept) (record (with_borrowing tid gave_back state) { left = rest; made = makes.Nothing }) refl refl refl
    (λ t. changed_loans state client tid t gave_back node.kept.loans (give_back client tid node.kept.loans) c.held.loans (λ g. yields_go client tid node.kept.loans (borrowing_of state tid) loan found g)
    (λ u far. (others_stay client client tid u node.kept.loans (of_other client tid u far)).1))
    c.held.refused c.held.begun)

-- ---- a loan

-- a loan that is not taken is not the last that is
last_stays : (client c : ClientNo) (tid t : Tid) (inc : ℕ) (loans : List Lent) → last_taken client tid (loans ++ new_loan c t inc ∷ []) ≡ last_taken client tid loans
last_stays client c tid t inc [] = by (is_loan_of client tid (new_loan c t inc)) refl
  where
    by : (b : Bool) → is_loan_of client tid (new_loan c t inc) ≡ b → last_taken client tid (new_loan c t inc ∷ []) ≡ None
    by true e = rw e refl
    by false e = rw e refl
last_stays client c tid t inc (x ∷ xs) = ap (λ (o : Option Lent). elim o [ Some other ↦ Some other | None ↦ if is_taken client tid x then Some x else None ]) (last_stays client c tid t inc xs)

-- what is lent of one transaction is none of another
lent_other : (client : ClientNo) (tid u : Tid) (inc : ℕ) (loans : List Lent) → same_tid u tid ≡ false → loans_of client u (loans ++ new_loan client tid inc ∷ []) ≡ loans_of client u loans
lent_other client tid u inc [] far = rw (of_other client tid u far (new_loan client tid inc) own) refl
  where
    own : is_loan_of client tid (new_loan client tid inc) ≡ true
    own = rw (eqb-self client.0, same_tid-self tid) refl
lent_other client tid u inc (x ∷ xs) far = by (is_loan_of client u x) refl (lent_other client tid u inc xs far)
  where
    by : (b : Bool) → is_loan_of client u x ≡ b → loans_of client u (xs ++ new_loan client tid inc ∷ []) ≡ loans_of client u xs → loans_of client u (x ∷ (xs ++ new_loan client tid inc ∷ [])) ≡ loans_of client u (x ∷ xs)
    by true e more = rw e (ap (λ (l : List Lent). x ∷ l) more)
    by false e more = rw e more

pub lends_go : LendsGo
lends_go node client lines state tid h = record {
  seat = h.seat;
  left = h.left;
  line = h.line;
  made = h.made;
  spent = λ gone. spent (h.spent gone);
  loans = λ t. changed_loans state client tid t (lent_in node.inc) node.kept.loans (node.kept.loans ++ new_loan client tid node.inc ∷ []) h.loans (λ g. loans_go client tid node.kept.loans (borrowing_of state tid) node.inc g)
      (λ u far. lent_other client tid u node.inc node.kept.loans far);
  refused = h.refused;
  begun = h.begun;
}
  where
    over : (label : List ℕ) → IsOver client node label → IsOver client (with_loan client tid node) label
    over label o = record {
      begun = o.begun;
      labelled = o.labelled;
      tid = o.tid;
      of = o.of;
      decided = o.decided;
      lent_before = λ other. let had = o.lent_before other in (had.0, (last_stays client client o.tid tid node.inc node.kept.loans ∙ had.1.0, had.1.1));
    }

    spent : IsSpent client node (first_of lines) state.made → IsSpent client (with_loan client tid node) (first_of lines) state.made
    spent (inl nothing) = inl nothing
    spent (inr is) = inr (λ l at. over l.label (is l at))
