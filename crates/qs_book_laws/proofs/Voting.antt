-- A vote that is owed is made in the same life of the member's node, or the transaction is never unanimous.
use Rattle.qs_book_laws.proofs.Words.{◌≡◌, ℕ, ◌<◌, ◌≤◌, ◌==◌, ◌&&◌, ◌||◌, Bool, true, false, not, List, [], ◌∷◌, ◌⊎◌, inl, inr, Option, Some, None, refl, sym, ap, subst, ◌∙◌, if◌then◌else◌, arith, nat_tests, slice_get, list_all, Member, NodeNo, Tid, same_tid-self, same_member-true, same_member-self, class_of, is_two_phase, Reply, Act, Begin, Issue, Serve, Ask, Counted, Decide, Ending, Learn, Loan, Yield, Tick, Crash, Restart, Entry, TransactionValue, part_of, agrees, serving_part, Part, BookValue}
use Rattle.qs_book_laws.proofs.Words.{find_transaction, inc_at, is_done, broken_serve, broken_act, broken, effect, IsLawful, book_after, NodeValue, is_restart, restarts, and_false, eqb-self, lt_lt}
use Rattle.qs_book_journal.specs.declared.entry.Act.TheVariants.{Answer}
use Rattle.qs_book_journal.specs.declared.entry.Act.TheVariants as acts
use Rattle.qs_book_laws.specs.Unanimity.{votes_for, is_voted_in}
use Rattle.qs_book_laws.proofs.Always.{IsSo}
use Rattle.qs_book_laws.proofs.Begun.{inc_in}
use Rattle.qs_book_laws.proofs.Ends.{lawful_node}
use Rattle.qs_book_laws.proofs.Holding.{left_of, right_of, serve_here, vote_here}
use Rattle.qs_book_laws.proofs.Lives.{same_life, inc_is, inc_of_node, Reborn, reborn, Restarting, restarting, step_part, none_born, later_born}
use Rattle.qs_book_laws.proofs.Outcomes.{Inv}
use Rattle.qs_book_laws.proofs.Parts.{IsPart, is_own, part_after, starts_life}
use Rattle.qs_book_laws.proofs.Serves.{inc_there}
use Rattle.qs_book_laws.proofs.Steps.{stepped}
use Rattle.qs_book_laws.proofs.Takes.{some_same}
use Rattle.qs_book_laws.proofs.Turns.{Stands}
use Rattle.qs_book_laws.proofs.Voted.{agreed, IsOwed, two_covers, owes_more, still_owed}
use Rattle.qs_base_lemmas.proofs.Tests.{lt_not_equal}

-- a vote stands at its member's node
votes_there : (tid : Tid) (member : Member) (book : BookValue) (entry : Entry) → broken book entry ≡ None → votes_for tid member entry.act ≡ true → entry.node.0 ≡ member.node.0
votes_there tid member book entry h is = of entry.act refl is
  where
    of : (act : Act) → entry.act ≡ act → votes_for tid member act ≡ true → entry.node.0 ≡ member.node.0
    of (acts.Vote t other ballot covers) same v =
        let at : (node : NodeValue) × (slice_get book.nodes entry.node.0 ≡ Some node) × (broken_act book entry.stamp entry.node.0 node (acts.Vote t other ballot covers) ≡ None) =
        lawful_node book entry (acts.Vote t other ballot covers) same (λ node. refl) h in
        let e : other.node.0 ≡ entry.node.0 = vote_here entry.node.0 at.0 t (find_transaction book t) other ballot covers at.2 in
        let m : other ≡ member = same_member-true other member (right_of _ _ (left_of _ _ v)) in
        sym e ∙ ap (λ (x : Member). x.node.0) m
    of act same v = absurd (cc v)

differ : (a b : ℕ) → a < b → (b == a) ≡ true → ⊥
differ a b h k = grind (arith, nat_tests)

module _ (tid : Tid) (member : Member) (inc : ℕ) where
  -- the life is still the present one, and the vote is not made in it; or it has ended
  abbrev Awaits : BookValue → List Entry → Type 0
  Awaits book entries = ((inc_in book member.node.0 ≡ Some inc) × (is_voted_in tid member entries ≡ false)) ⊎ ((now : ℕ) × (inc_in book member.node.0 ≡ Some now) × (inc < now))

  -- no vote of it for commit in that life
  no_vote : (book : BookValue) (entry : Entry) (entries : List Entry) → broken book entry ≡ None → Awaits book (entry ∷ entries) → (inc_at book entry.node == inc) ≡ true → votes_for tid member entry.act ≡ false
  no_vote book entry entries h (inl two) same = first (votes_for tid member entry.act) (is_voted_in tid member (entry ∷ entries)) refl two.1
    where
      first : (b c : Bool) → votes_for tid member entry.act ≡ b → (votes_for tid member entry.act || (not (restarts member.node entry) && is_voted_in tid member entries)) ≡ false → b ≡ false
      first false c is none = refl
      first true c is none = let no : true ≡ false = rw is at none in absurd (cc no)
  no_vote book entry entries h (inr (now, was, later)) same = by (votes_for tid member entry.act) refl
    where
      by : (b : Bool) → votes_for tid member entry.act ≡ b → b ≡ false
      by false is = refl
      by true is =
          let e : entry.node.0 ≡ member.node.0 = votes_there tid member book entry h is in
          let at : inc_at book entry.node ≡ now = inc_is book entry.node.0 now (ap (inc_in book) e ∙ was) in
          absurd (differ inc now later (subst (λ (n : ℕ). (n == inc) ≡ true) at same))

  -- what the entry leaves to await
  record Next (book : BookValue) (entry : Entry) (entries : List Entry) : Type 0 where
    quiet : starts_life member inc entry.node.0 entry.act ≡ false
    awaits : Awaits (effect book entry) entries

  next : (book : BookValue) (entry : Entry) (entries : List Entry) → broken book entry ≡ None → Awaits book (entry ∷ entries) → Next book entry entries
  next book entry entries h a = by (restarts member.node entry) refl a
    where
      rest : (b c d : Bool) → (b || (not c && d)) ≡ false → c ≡ false → d ≡ false
      rest true c d h k = absurd (cc h)
      rest false true d h k = absurd (cc k)
      rest false false d h k = h

      by : (b : Bool) → restarts member.node entry ≡ b → Awaits book (entry ∷ entries) → Next book entry entries
      by true is (inl two) =
          let r : Restarting member.node entry = restarting member.node entry is in
          let x : Reborn book (effect book entry) member.node.0 r.inc = reborn book entry member.node.0 r.inc r.pend r.done h r.act r.here in
          let later : inc < r.inc = subst (λ (n : ℕ). n < r.inc) (some_same x.old inc (sym x.was ∙ two.0)) x.later in
          record { quiet = later_born member inc entry r.inc r.pend r.done r.act later; awaits = inr (r.inc, x.now, later) }
      by true is (inr (now, was, before)) =
          let r : Restarting member.node entry = restarting member.node entry is in
          let x : Reborn book (effect book entry) member.node.0 r.inc = reborn book entry member.node.0 r.inc r.pend r.done h r.act r.here in
          let later : now < r.inc = subst (λ (n : ℕ). n < r.inc) (some_same x.old now (sym x.was ∙ was)) x.later in
          record { quiet = later_born member inc entry r.inc r.pend r.done r.act (lt_lt inc now r.inc before later); awaits = inr (r.inc, x.now, lt_lt inc now r.inc before later) }
      by false is (inl two) = record {
        quiet = none_born member inc entry is;
        awaits = inl (same_life member.node book entry is h ∙ two.0, rest (votes_for tid member entry.act) (restarts member.node entry) (is_voted_in tid member entries) two.1 is);
      }
      by false is (inr (now, was, before)) = record { quiet = none_born member inc entry is; awaits = inr (now, same_life member.node book entry is h ∙ was, before) }

  owed_last : (entries : List Entry) (book : BookValue) (part : Part) (last : TransactionValue) → is_two_phase (class_of member.server.0) ≡ true → Inv book → IsLawful book entries → Stands tid (IsPart tid member inc part part) book → IsOwed part
      → Awaits book entries → find_transaction (book_after book entries) tid ≡ Some last → list_all agrees last.parts ≡ true → ⊥
  owed_last [] book part last two i lawful s owed a found all =
      let same : last ≡ s.tx = some_same last s.tx (sym found ∙ s.found) in
      let is : part_of last member inc ≡ part = ap (λ (x : TransactionValue). part_of x member inc) same ∙ s.holds in
      let even : (part_of last member inc).covered ≡ (part_of last member inc).served = two_covers (class_of member.server.0) (part_of last member inc) two (agreed member inc last all) in
      lt_not_equal part.covered part.served owed (subst (λ (p : Part). p.covered ≡ p.served) is even)
  owed_last (entry ∷ entries) book part last two i lawful s owed a found all =
      let n : Next book entry entries = next book entry entries lawful.0 a in
      owed_last entries (effect book entry) (part_after tid member inc (inc_at book entry.node) entry.stamp entry.node.0 entry.act part) last two (stepped book entry i lawful.0).inv lawful.1
      (stand_on (step_part tid member inc part book entry i lawful.0 n.quiet s))
      (still_owed tid member inc (inc_at book entry.node) entry.stamp entry.node.0 entry.act part (no_vote book entry entries lawful.0 a) owed) n.awaits found all
    where
      stand_on : {new : Part} → Stands tid (IsPart tid member inc part new) (effect book entry) → Stands tid (IsPart tid member inc new new) (effect book entry)
      stand_on s = record { tx = s.tx; found = s.found; holds = s.holds }

-- ---- a serve

pub known_serve : (book : BookValue) (here : ℕ) (node : NodeValue) (tid : Tid) (o : Option TransactionValue) (member : Member) (from n : ℕ) (reply : Reply) → broken_serve here node book.transactions tid o member from n reply ≡ None → (tx : TransactionValue) × (o ≡ Some tx)
known_serve book here node tid None member from n reply h = absurd (cc h)
known_serve book here node tid (Some tx) member from n reply h = (tx, refl)

abbrev pub IsCovered : Member → ℕ → TransactionValue → Type 0
IsCovered member inc tx = (part_of tx member inc).covered ≤ (part_of tx member inc).served

pub each_voted : (tid : Tid) (member : Member) (book : BookValue) (entry : Entry) (entries : List Entry) (from : NodeNo) (number : ℕ) (reply : Reply) (last : TransactionValue) → is_two_phase (class_of member.server.0) ≡ true → Inv book → IsLawful book (entry ∷ entries)
    → entry.act ≡ acts.Serve tid member from number reply → ((inc : ℕ) → IsSo tid (IsCovered member inc) book)
    → find_transaction (book_after (effect book entry) entries) tid ≡ Some last → list_all agrees last.parts ≡ true → is_voted_in tid member entries ≡ true
each_voted tid member book entry entries from number reply last two i lawful is so found all = by (is_voted_in tid member entries) refl
  where
    act : Act
    act = acts.Serve tid member from number reply

    at : (node : NodeValue) × (slice_get book.nodes entry.node.0 ≡ Some node) × (broken_act book entry.stamp entry.node.0 node act ≡ None)
    at = lawful_node book entry act is (λ node. refl) lawful.0

    inc : ℕ
    inc = at.0.inc

    known : (tx : TransactionValue) × (find_transaction book tid ≡ Some tx)
    known = known_serve book entry.node.0 at.0 tid (find_transaction book tid) member from.0 number reply at.2

    here : member.node.0 ≡ entry.node.0
    here = serve_here book entry.node.0 at.0 tid (find_transaction book tid) member from.0 number reply at.2

    part : Part
    part = part_of known.0 member inc

    served : Part
    served = serving_part (class_of member.server.0) entry.stamp (is_done reply) part

    now : inc_at book entry.node ≡ inc
    now = inc_there book entry.node.0 at.0 at.1

    own : is_own tid member inc tid member (inc_at book entry.node) ≡ true
    own = rw (same_tid-self tid, same_member-self member, now) (eqb-self inc)

    quiet : starts_life member inc entry.node.0 entry.act ≡ false
    quiet = ap (starts_life member inc entry.node.0) is

    after : part_after tid member inc (inc_at book entry.node) entry.stamp entry.node.0 entry.act part ≡ served
    after =
        ap (λ (a : Act). part_after tid member inc (inc_at book entry.node) entry.stamp entry.node.0 a part) is
        ∙ ap (λ (b : Bool). if b then serving_part (class_of member.server.0) entry.stamp (is_done reply) part else part) own

    stands : Stands tid (IsPart tid member inc part (part_after tid member inc (inc_at book entry.node) entry.stamp entry.node.0 entry.act part)) (effect book entry)
    stands = step_part tid member inc part book entry i lawful.0 quiet (record { tx = known.0; found = known.1; holds = refl })

    same : inc_in (effect book entry) member.node.0 ≡ Some inc
    same = same_life member.node book entry (ap (λ (a : Act). (entry.node.0 == member.node.0) && is_restart a) is ∙ and_false (entry.node.0 == member.node.0)) lawful.0 ∙ (ap (inc_in book) here ∙ inc_of_node book entry.node.0 at.0 at.1)

    by : (b : Bool) → is_voted_in tid member entries ≡ b → b ≡ true
    by true v = refl
    by false v =
        absurd
        (owed_last tid member inc entries (effect book entry) served last two (stepped book entry i lawful.0).inv lawful.1 (record { tx = stands.tx; found = stands.found; holds = stands.holds ∙ after })
        (owes_more (class_of member.server.0) entry.stamp (is_done reply) part (so inc known.0 known.1)) (inl (same, v)) found all)
