-- What an entry leaves of the part of a member in one life of its node, and that a life which has ended is over.
use Rattle.qs_book_laws.proofs.Words.{◌≡◌, ℕ, ◌<◌, ◌==◌, ◌&&◌, Bool, true, false, List, Option, Some, None, refl, sym, ap, subst, ◌∙◌, if◌then◌else◌, arith, nat_tests, slice_get, nat_lt, option_map, same_member, Member, NodeNo, Tid, Act, Begin, Issue, Serve, Ask, Counted, Decide, Ending, Learn, Loan, Yield, Tick, Crash, Restart, Entry, Found, TransactionValue, part_of, found_part, found_at, Part, BookValue, inc_at, is_in_order, broken_act, broken_at, broken, effect, NodeValue, broken_restart}
use Rattle.qs_book_laws.proofs.Words.{member_at, reopened, restarted_node, put_new_votes, with_votes, new_votes, is_restart, restarts, and_false, ltb-true}
use Rattle.qs_book_journal.specs.declared.entry.Act.TheVariants.{Answer}
use Rattle.qs_book_journal.specs.declared.entry.Act.TheVariants as acts
use Rattle.qs_book_laws.proofs.Again.{restart_node, reopened_there, effect_nodes}
use Rattle.qs_book_laws.proofs.Begun.{inc_in, restarts_at, step_incs}
use Rattle.qs_book_laws.proofs.Faces.{Age, age}
use Rattle.qs_book_laws.proofs.Holding.{left_of, right_of, same_number}
use Rattle.qs_book_laws.proofs.Outcomes.{Inv}
use Rattle.qs_book_laws.proofs.Parts.{IsPart, part_after, starts_life, put_part, owes}
use Rattle.qs_book_laws.proofs.Steps.{held, passed}
use Rattle.qs_book_laws.proofs.Turns.{Stands, Survives, Obliged, step_turns}
use Rattle.qs_base_lemmas.proofs.Tests.{and_true}

-- ---- incarnations

-- the two ways to say that the node restarts
pub restarts_as : (node : NodeNo) (entry : Entry) → restarts node entry ≡ restarts_at node.0 entry.node.0 entry.act
restarts_as node entry = of entry.act
  where
    of : (act : Act) → ((entry.node.0 == node.0) && is_restart act) ≡ restarts_at node.0 entry.node.0 act
    of (Restart inc pend done) = and_true (entry.node.0 == node.0)
    of act = and_false (entry.node.0 == node.0)

-- the incarnation stays through a life
pub same_life : (node : NodeNo) (book : BookValue) (entry : Entry) → restarts node entry ≡ false → broken book entry ≡ None → inc_in (effect book entry) node.0 ≡ inc_in book node.0
same_life node book entry far h = step_incs node.0 book entry (sym (restarts_as node entry) ∙ far) h

pub inc_is : (book : BookValue) (here inc : ℕ) → inc_in book here ≡ Some inc → inc_at book (record { 0 = here }) ≡ inc
inc_is book here inc = of (slice_get book.nodes here)
  where
    of : (o : Option NodeValue) → option_map (λ (a : Age). a.inc) (option_map age o) ≡ Some inc → (elim o as (λ x. ℕ) [ None ↦ 0 | Some state ↦ state.inc ]) ≡ inc
    of None h = absurd (cc h)
    of (Some node) h = cc h

pub inc_of_node : (book : BookValue) (here : ℕ) (node : NodeValue) → slice_get book.nodes here ≡ Some node → inc_in book here ≡ Some node.inc
inc_of_node book here node at = ap (λ (o : Option NodeValue). option_map (λ (a : Age). a.inc) (option_map age o)) at

-- a restart begins a later one
pub record Reborn (book new : BookValue) (here inc : ℕ) : Type 0 where
  pub old : ℕ
  pub was : inc_in book here ≡ Some old
  pub now : inc_in new here ≡ Some inc
  pub later : old < inc

pub reborn : (book : BookValue) (entry : Entry) (here inc : ℕ) (pend : List Found) (done : List Tid) → broken book entry ≡ None → entry.act ≡ acts.Restart inc pend done → entry.node.0 ≡ here → Reborn book (effect book entry) here inc
reborn book entry here inc pend done h is e =
    let at : (node : NodeValue) × (slice_get book.nodes here ≡ Some node) × (broken_restart here book node inc pend done ≡ None) = restart_node book entry here inc pend done h is e in
    let last : slice_get (effect book entry).nodes here ≡ Some (restarted_node (reopened here inc pend done (put_new_votes here pend book)) pend done (with_votes (new_votes here book pend) at.0)) =
    ap (λ (nodes : List NodeValue). slice_get nodes here) (effect_nodes book entry here inc pend done is e) ∙ reopened_there here inc pend done book at.0 at.1 in
    record {
      old = at.0.inc;
      was = inc_of_node book here at.0 at.1;
      now = inc_of_node (effect book entry) here _ last;
      later = ltb-true at.0.inc inc (passed (nat_lt at.0.inc inc) 110 _ at.2);
    }

-- the restart of an entry that is one
pub record Restarting (node : NodeNo) (entry : Entry) : Type 0 where
  pub inc : ℕ
  pub pend : List Found
  pub done : List Tid
  pub act : entry.act ≡ acts.Restart inc pend done
  pub here : entry.node.0 ≡ node.0

pub restarting : (node : NodeNo) (entry : Entry) → restarts node entry ≡ true → Restarting node entry
restarting node entry is = of entry.act refl (right_of (entry.node.0 == node.0) (is_restart entry.act) is)
  where
    of : (act : Act) → entry.act ≡ act → is_restart act ≡ true → Restarting node entry
    of (Restart inc pend done) same h = record { inc = inc; pend = pend; done = done; act = same; here = same_number entry.node.0 node.0 (left_of (entry.node.0 == node.0) (is_restart entry.act) is) }
    of act same h = absurd (cc h)

-- ---- a part through a step

module _ (tid : Tid) (member : Member) (inc : ℕ) (part : Part) where
  off : (here server new : ℕ) (a b c : Bool) → ((here == member.node.0) && (new == inc)) ≡ false → (here == member.node.0) ≡ a → (server == member.server.0) ≡ b → (new == inc) ≡ c
      → (((here == member.node.0) && (server == member.server.0)) && (new == inc)) ≡ false
  off here server new true b true far p q r = let no : (true && true) ≡ false = rw (p, r) at far in absurd (cc no)
  off here server new true true false far p q r = rw (p, q, r) refl
  off here server new true false c far p q r = rw (p, q) refl
  off here server new false b c far p q r = rw p refl

  restart_survives : (here new : ℕ) → ((here == member.node.0) && (new == inc)) ≡ false → Survives (IsPart tid member inc part part) here new
  restart_survives here new far = record {
    learnt = λ m tx p. p;
    decided = λ place outcome cause tx p. p;
    found = λ server covers changes tx p. apart server covers changes tx (here == member.node.0) (server == member.server.0) (new == inc) refl refl refl ∙ p;
  }
    where
      apart : (server covers changes : ℕ) (tx : TransactionValue) (a b c : Bool) → (here == member.node.0) ≡ a → (server == member.server.0) ≡ b → (new == inc) ≡ c
          → part_of (found_at (member_at here server) new covers changes tx) member inc ≡ part_of tx member inc
      apart server covers changes tx a b c p q r =
          put_part member inc tx (member_at here server) new (found_part covers changes)
          ∙ ap (λ (x : Bool). if x then found_part covers changes else part_of tx member inc) (off here server new a b c far p q r)

  all_owe : (book : BookValue) (stamp here : ℕ) (o : Option NodeValue) (act : Act) → slice_get book.nodes here ≡ o → broken_at book stamp here o act ≡ None → starts_life member inc here act ≡ false
      → Obliged tid (IsPart tid member inc part part) (IsPart tid member inc part (part_after tid member inc (inc_at book (record { 0 = here })) stamp here act part)) book stamp here act
  all_owe book stamp here None act at h far = absurd (cc h)
  all_owe book stamp here (Some node) (Restart new pend done) at h far = (restart_survives here new far, λ tx p. p)
  all_owe book stamp here (Some node) act at h far = owes tid member inc part book stamp here node at act (held node.up 2 (broken_act book stamp here node act) h).1 far

  -- the part after a step that does not begin that life
  pub step_part : (book : BookValue) (entry : Entry) → Inv book → broken book entry ≡ None → starts_life member inc entry.node.0 entry.act ≡ false → Stands tid (IsPart tid member inc part part) book
      → Stands tid (IsPart tid member inc part (part_after tid member inc (inc_at book entry.node) entry.stamp entry.node.0 entry.act part)) (effect book entry)
  step_part book entry i h far s =
      step_turns tid (IsPart tid member inc part part) (IsPart tid member inc part (part_after tid member inc (inc_at book entry.node) entry.stamp entry.node.0 entry.act part)) book entry i h
      (all_owe book entry.stamp entry.node.0 (slice_get book.nodes entry.node.0) entry.act refl (held (is_in_order book entry) 1 _ h).1 far) s

-- ---- what every act leaves of a part

module _ (tid : Tid) (member : Member) (inc : ℕ) (Q : Part → Type 0) (found : (covers changes : ℕ) → Q (found_part covers changes)) where
  abbrev pub OfPart : TransactionValue → Type 0
  OfPart tx = Q (part_of tx member inc)

  -- also through a restart that begins that life
  pub left_survives : (here new : ℕ) → Survives OfPart here new
  left_survives here new = record {
    learnt = λ m tx p. p;
    decided = λ place outcome cause tx p. p;
    found = λ server covers changes tx p.
        subst Q (sym (put_part member inc tx (member_at here server) new (found_part covers changes)))
        (by (same_member (member_at here server) member && (new == inc)) (found_part covers changes) (part_of tx member inc) (found covers changes) p);
  }
    where
      by : (b : Bool) (x y : Part) → Q x → Q y → Q (if b then x else y)
      by true x y p q = p
      by false x y p q = q

  pub part_left : (each : (now stamp here : ℕ) (act : Act) (part : Part) → Q part → Q (part_after tid member inc now stamp here act part)) → (book : BookValue) (entry : Entry) → Inv book → broken book entry ≡ None
      → Stands tid OfPart book → Stands tid OfPart (effect book entry)
  part_left each book entry i h s = by (starts_life member inc entry.node.0 entry.act) refl
    where
      of_restart : (act : Act) → starts_life member inc entry.node.0 act ≡ true → Obliged tid OfPart OfPart book entry.stamp entry.node.0 act
      of_restart (Restart new pend done) is = (left_survives entry.node.0 new, λ tx p. p)
      of_restart act is = absurd (cc is)

      by : (b : Bool) → starts_life member inc entry.node.0 entry.act ≡ b → Stands tid OfPart (effect book entry)
      by true is = step_turns tid OfPart OfPart book entry i h (of_restart entry.act is) s
      by false is =
          let last : Stands tid (IsPart tid member inc (part_of s.tx member inc) (part_after tid member inc (inc_at book entry.node) entry.stamp entry.node.0 entry.act (part_of s.tx member inc))) (effect book entry) =
          step_part tid member inc (part_of s.tx member inc) book entry i h is (record { tx = s.tx; found = s.found; holds = refl }) in
          record {
            tx = last.tx;
            found = last.found;
            holds = subst Q (sym last.holds) (each (inc_at book entry.node) entry.stamp entry.node.0 entry.act (part_of s.tx member inc) s.holds);
          }

-- ---- which life an entry begins

module _ (member : Member) (inc : ℕ) (entry : Entry) where
  pub none_born : restarts member.node entry ≡ false → starts_life member inc entry.node.0 entry.act ≡ false
  none_born = of entry.act
    where
      far : (b c : Bool) → (b && true) ≡ false → (b && c) ≡ false
      far true c h = absurd (cc h)
      far false c h = refl

      of : (act : Act) → ((entry.node.0 == member.node.0) && is_restart act) ≡ false → starts_life member inc entry.node.0 act ≡ false
      of (Restart new pend done) h = far (entry.node.0 == member.node.0) (new == inc) h
      of act h = refl

  pub later_born : (new : ℕ) (pend : List Found) (done : List Tid) → entry.act ≡ acts.Restart new pend done → inc < new → starts_life member inc entry.node.0 entry.act ≡ false
  later_born new pend done is later = ap (starts_life member inc entry.node.0) is ∙ off (entry.node.0 == member.node.0)
    where
      unlike : (a b : ℕ) → a < b → (b == a) ≡ false
      unlike a b h = grind (arith, nat_tests)

      off : (b : Bool) → (b && (new == inc)) ≡ false
      off true = unlike inc new later
      off false = refl
