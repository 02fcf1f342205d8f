-- What was asked for, and where a transaction was crossed, stands in the history before the place that is next: each entry marks its own place alone.
use Rattle.qs_world_runs.proofs.Words.{◌≡◌, ℕ, ◌+◌, arith, Bool, true, false, List, [], ◌∷◌, Option, Some, None, Less, Equal, Greater, refl, sym, ap, subst, ◌∙◌, nat_lt, nat_tests, insert_entry, is_at, lookup, is_some, Ordering, member_cmp, Member, Tid, Act, Entry, Inv, Gives, GivesFor, Obliged, BookValue, borrower_at, book_after, effect, opening, TransactionValue, crossed_by, standing_request, Request, lasts_first, opening_empty, Here}
use Rattle.qs_base.specs.declared.identifiers.Outcome.TheVariants as outcomes
use Rattle.qs_book_journal.specs.declared.entry.Act.TheVariants as acts
use Rattle.qs_book_laws.proofs.Maps.{lookup_put, lookup_put_apart}
use Rattle.qs_book_laws.proofs.Steps.{stepped}
use Rattle.qs_book_machine.specs.Lawful.{IsLawful}
use Rattle.qs_book_machine.specs.Transaction.{crossed_from, is_before}
use Rattle.qs_world_lawful.proofs.Keys.{member_exact, member_itself}
use Rattle.qs_world_runs.specs.CutVotes.{EachMarkedBefore, IsMarkedBefore}
use Rattle.qs_world_runs.proofs.PlacedActs.{step_here}

-- ---- places

less_next : (at place : ℕ) → nat_lt at place ≡ true → nat_lt at (place + 1) ≡ true
less_next at place is = grind (arith, nat_tests, is)

next_above : (place : ℕ) → nat_lt place (place + 1) ≡ true
next_above place = grind (arith, nat_tests)

before_next : (place : ℕ) (o : Option ℕ) → is_before place o ≡ true → is_before (place + 1) o ≡ true
before_next place None is = absurd (cc is)
before_next place (Some at) is = less_next at place is

abbrev Crossed : Type 0
Crossed = List (Member × ℕ)

abbrev CrossedBefore : ℕ → Crossed → Type 0
CrossedBefore place crossed = (m : Member) → is_some (lookup (is_at (member_cmp m)) crossed) ≡ true → is_before place (lookup (is_at (member_cmp m)) crossed) ≡ true

from_before : (place : ℕ) (member : Member) (crossed : Crossed) → CrossedBefore place crossed → CrossedBefore (place + 1) (crossed_from place member crossed)
from_before place member crossed all m = by (lookup (is_at (member_cmp member)) crossed) refl
  where
    put : Crossed
    put = insert_entry member_cmp crossed member place

    of_key : lookup (is_at (member_cmp member)) crossed ≡ None → (b : Bool) → is_at (member_cmp m) member ≡ b → is_some (lookup (is_at (member_cmp m)) put) ≡ true → is_before (place + 1) (lookup (is_at (member_cmp m)) put) ≡ true
    of_key none true near is = subst (λ (k : Member). is_before (place + 1) (lookup (is_at (member_cmp k)) put) ≡ true) (sym (same near))
        (subst (λ (o : Option ℕ). is_before (place + 1) o ≡ true) (sym (lookup_put member_cmp member place (member_itself member) crossed)) (next_above place))
      where
        same : is_at (member_cmp m) member ≡ true → m ≡ member
        same at = exact (member_cmp m member) refl at
          where
            exact : (r : Ordering) → member_cmp m member ≡ r → is_at (member_cmp m) member ≡ true → m ≡ member
            exact Equal e at = member_exact m member e
            exact Less e at = absurd (let off : is_at (member_cmp m) member ≡ false = rw e refl in cc (off, at))
            exact Greater e at = absurd (let off : is_at (member_cmp m) member ≡ false = rw e refl in cc (off, at))
    of_key none false far is = let e : lookup (is_at (member_cmp m)) put ≡ lookup (is_at (member_cmp m)) crossed = lookup_put_apart member_cmp member place (member_exact member) (is_at (member_cmp m)) far crossed in
        subst (λ (o : Option ℕ). is_before (place + 1) o ≡ true) (sym e) (before_next place (lookup (is_at (member_cmp m)) crossed) (all m (ap (λ (o : Option ℕ). is_some o) (sym e) ∙ is)))

    by : (o : Option ℕ) → lookup (is_at (member_cmp member)) crossed ≡ o → is_some (lookup (is_at (member_cmp m)) (elim o [ Some earlier ↦ crossed | None ↦ put ])) ≡ true
        → is_before (place + 1) (lookup (is_at (member_cmp m)) (elim o [ Some earlier ↦ crossed | None ↦ put ])) ≡ true
    by (Some earlier) there is = before_next place (lookup (is_at (member_cmp m)) crossed) (all m is)
    by None none is = of_key none (is_at (member_cmp m) member) refl is

by_before : (o : Option Request) (place : ℕ) (member : Member) (crossed : Crossed) → CrossedBefore place crossed → CrossedBefore (place + 1) (crossed_by o place member crossed)
by_before None place member crossed all = λ m is. before_next place (lookup (is_at (member_cmp m)) crossed) (all m is)
by_before (Some earlier) place member crossed all = from_before place member crossed all

-- ---- an entry

later_marked : (place : ℕ) (tx later : TransactionValue) → later.asked ≡ tx.asked → later.crossed ≡ tx.crossed → IsMarkedBefore place tx → IsMarkedBefore (place + 1) later
later_marked place tx later a c b = record {
  asked = λ is. subst (λ (o : Option ℕ). is_before (place + 1) o ≡ true) (sym a) (before_next place tx.asked (b.asked (ap (λ (o : Option ℕ). is_some o) (sym a) ∙ is)));
  crossed = λ m is. subst (λ (xs : Crossed). is_before (place + 1) (lookup (is_at (member_cmp m)) xs) ≡ true) (sym c) (before_next place (lookup (is_at (member_cmp m)) tx.crossed) (b.crossed m (ap (λ (xs : Crossed). is_some (lookup (is_at (member_cmp m)) xs)) (sym c) ∙ is)));
}

module _ (tid : Tid) (book : BookValue) where
  abbrev Was : TransactionValue → Type 0
  Was = IsMarkedBefore book.place

  abbrev Is : TransactionValue → Type 0
  Is = IsMarkedBefore (book.place + 1)

  gives : (t : Tid) (f : TransactionValue → TransactionValue) → ((tx : TransactionValue) → Was tx → Is (f tx)) → Gives tid Was Is book t f
  gives t f goes = record { own = λ same tx found b. goes tx b; other = λ apart tx b. later_marked book.place tx tx refl refl b }

  gives_for : (t : Tid) (f : Member → TransactionValue → TransactionValue) (o : Option Member) → ((other : Member) (tx : TransactionValue) → Was tx → Is (f other tx)) → GivesFor tid Was Is book t f o
  gives_for t f None goes = λ tx b. later_marked book.place tx tx refl refl b
  gives_for t f (Some other) goes = gives t (f other) (goes other)

  obliged : (stamp here : ℕ) (act : Act) → Obliged tid Was Is book stamp here act
  obliged stamp here (acts.Begin t label client) = λ tx b. later_marked book.place tx tx refl refl b
  obliged stamp here (acts.Issue t issuer other n op) = gives t _ (λ tx b. record {
    asked = λ is. before_next book.place tx.asked (b.asked is);
    crossed = by_before (standing_request tx _ other) book.place other tx.crossed b.crossed;
  })
  obliged stamp here (acts.Serve t other from n reply) = gives t _ (λ tx b. later_marked book.place tx _ refl refl b)
  obliged stamp here (acts.Vote t other ballot covers) = gives t _ (λ tx b. later_marked book.place tx _ refl refl b)
  obliged stamp here (acts.Ask t) = gives t _ (λ tx b. record {
    asked = λ is. next_above book.place;
    crossed = λ m is. before_next book.place (lookup (is_at (member_cmp m)) tx.crossed) (b.crossed m is);
  })
  obliged stamp here (acts.Counted t peer up_to) = gives t _ (λ tx b. later_marked book.place tx _ refl refl b)
  obliged stamp here (acts.Decide t outcome cause) = gives t _ (λ tx b. later_marked book.place tx _ refl refl b)
  obliged stamp here (acts.Ending t other) = gives t _ (λ tx b. later_marked book.place tx _ refl refl b)
  obliged stamp here (acts.Learn t other outcomes.Commit) = gives t _ (λ tx b. later_marked book.place tx _ refl refl b)
  obliged stamp here (acts.Learn t other outcomes.Abort) = gives t _ (λ tx b. later_marked book.place tx _ refl refl b)
  obliged stamp here (acts.Answer client line said) = ((λ node inc tx b. record { asked = b.asked; crossed = b.crossed }), λ tx b. later_marked book.place tx tx refl refl b)
  obliged stamp here (acts.Loan t client) = gives_for t _ (borrower_at client here) (λ other tx b. later_marked book.place tx _ refl refl b)
  obliged stamp here (acts.Yield t client) = gives_for t _ (borrower_at client here) (λ other tx b. later_marked book.place tx _ refl refl b)
  obliged stamp here acts.Tick = λ tx b. later_marked book.place tx tx refl refl b
  obliged stamp here (acts.Crash cause) = λ tx b. later_marked book.place tx tx refl refl b
  obliged stamp here (acts.Restart inc pend done) = (
    record {
      learnt = λ member tx b. record { asked = b.asked; crossed = b.crossed };
      decided = λ place outcome cause tx b. record { asked = b.asked; crossed = b.crossed };
      found = λ server covers changes tx b. record { asked = b.asked; crossed = b.crossed };
    },
    λ tx b. later_marked book.place tx tx refl refl b,
  )

-- ---- a history

marked_on : (tid : Tid) (entries : List Entry) (book : BookValue) → Inv book → IsLawful book entries → Here tid (IsMarkedBefore book.place) book → Here tid (IsMarkedBefore (book_after book entries).place) (book_after book entries)
marked_on tid [] book i lawful all = all
marked_on tid (entry ∷ entries) book i lawful all = marked_on tid entries (effect book entry) (stepped book entry i lawful.0).inv lawful.1
    (step_here tid (IsMarkedBefore book.place) (IsMarkedBefore (book.place + 1)) book entry i lawful.0 (obliged tid book entry.stamp entry.node.0 entry.act)
    (λ label client ticks is. record { asked = λ no. absurd (cc no); crossed = λ m no. absurd (cc no) }) all)

pub each_marked_before : EachMarkedBefore
each_marked_before opened entries coherent named lawful tid = marked_on tid entries (opening opened) (lasts_first opened coherent named).inv lawful first
  where
    first : Here tid (IsMarkedBefore (opening opened).place) (opening opened)
    first tx found = let e = opening_empty opened tid tx found in record {
      asked = λ is. absurd (let none : is_some tx.asked ≡ false = ap (λ (o : Option ℕ). is_some o) e.unasked in cc (none, is));
      crossed = λ m is. absurd (let none : is_some (lookup (is_at (member_cmp m)) tx.crossed) ≡ false = ap (λ (xs : Crossed). is_some (lookup (is_at (member_cmp m)) xs)) e.crossed in cc (none, is));
    }
