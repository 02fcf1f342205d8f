-- Each loan that a client was asked to take was made and given back in its life, where in the end all members agree.
use Rattle.qs_book_laws.proofs.Words.{◌≡◌, ℕ, ◌<◌, ◌==◌, ◌&&◌, Bool, true, false, List, [], ◌∷◌, Option, Some, None, refl, sym, ap, subst, ◌∙◌, if◌then◌else◌, slice_get, is_some, list_all, option_map, same_tid, same_member, Class, Member, Tid, same_member-true, class_of, Act, Serve, Loan, Yield, Entry, TransactionValue, part_of, agrees, agrees_in, borrower, found_part, Part, BookValue, find_transaction, inc_at, is_in_order, broken_act, broken_at, broken, effect, IsLawful, book_after, NodeValue}
use Rattle.qs_book_laws.proofs.Words.{opening, Opened, is_restart, restarts, lt_lt}
use Rattle.qs_base.specs.declared.identifiers.Class.TheVariants as classes
use Rattle.qs_book_laws.specs.Unanimity.{Loans, no_loans, loans_after, are_even, are_returned}
use Rattle.qs_book_laws.proofs.Always.{IsSo, so_of, step_so, opening_so}
use Rattle.qs_book_laws.proofs.Begun.{inc_in}
use Rattle.qs_book_laws.proofs.Ended.{acts_here, unchanged, ended_last}
use Rattle.qs_book_laws.proofs.Faces.{Age, age}
use Rattle.qs_book_laws.proofs.Grows.{step_grows}
use Rattle.qs_book_laws.proofs.Holding.{same_number, clash}
use Rattle.qs_book_laws.proofs.Lent.{loans_of, counted_on, unknown_same}
use Rattle.qs_book_laws.proofs.Lives.{same_life, Reborn, reborn, Restarting, restarting, step_part, none_born, later_born, left_survives}
use Rattle.qs_book_laws.proofs.Outcomes.{Inv}
use Rattle.qs_book_laws.proofs.Parts.{IsPart, part_after, put_part}
use Rattle.qs_book_laws.proofs.Steps.{held, stepped}
use Rattle.qs_book_laws.proofs.Takes.{some_same}
use Rattle.qs_book_laws.proofs.Turns.{Stands, Obliged, step_turns}
use Rattle.qs_book_laws.proofs.Voted.{agreed}
use Rattle.qs_base_lemmas.proofs.Tests.{lt_apart}

-- no loan in that life
abbrev IsUnlent : Member → ℕ → TransactionValue → Type 0
IsUnlent member inc tx = loans_of (part_of tx member inc) ≡ no_loans

module _ (tid : Tid) (member : Member) where
  -- the loans of the present life, and none of a later one
  pub record Lends (book : BookValue) (inc : ℕ) (loans : Loans) : Type 0 where
    pub now : inc_in book member.node.0 ≡ Some inc
    pub counts : IsSo tid (λ tx. loans_of (part_of tx member inc) ≡ loans) book
    pub unknown : find_transaction book tid ≡ None → loans ≡ no_loans
    pub later : (k : ℕ) → inc < k → IsSo tid (IsUnlent member k) book

  module _ (book : BookValue) (entry : Entry) (inc : ℕ) (loans : Loans) (i : Inv book) (h : broken book entry ≡ None) (l : Lends book inc loans) where
    abbrev after : Loans
    after = loans_after tid member loans entry.node entry.act

    never_known : (P : TransactionValue → Type 0) → find_transaction book tid ≡ None → Stands tid P book → Stands tid P (effect book entry)
    never_known P none s = absurd (cc (none, s.found))

    stays_unlent : restarts member.node entry ≡ false → (k : ℕ) → inc < k → IsSo tid (IsUnlent member k) (effect book entry)
    stays_unlent far k less = step_so tid (IsUnlent member k) book entry i h (λ label client ticks. refl) keeps (l.later k less)
      where
        keeps : Stands tid (IsUnlent member k) book → Stands tid (IsUnlent member k) (effect book entry)
        keeps s =
            let p : Part = part_of s.tx member k in
            let last = step_part tid member k p book entry i h (none_born member k entry far) (record { tx = s.tx; found = s.found; holds = refl }) in
            record { tx = last.tx; found = last.found; holds = ap loans_of (last.holds ∙ unchanged tid member k book entry inc p h l.now (lt_apart inc k less)) ∙ s.holds }

    lends_on : restarts member.node entry ≡ false → Lends (effect book entry) inc after
    lends_on far = by (find_transaction book tid) refl
      where
        by : (o : Option TransactionValue) → find_transaction book tid ≡ o → Lends (effect book entry) inc after
        by None none =
            let same : after ≡ loans = unknown_same tid member loans book entry h none in
            let none_yet : after ≡ no_loans = same ∙ l.unknown none in
            record {
              now = same_life member.node book entry far h ∙ l.now;
              counts = step_so tid (λ tx. loans_of (part_of tx member inc) ≡ after) book entry i h (λ label client ticks. sym none_yet) (never_known _ none) (λ tx found. absurd (cc (none, found)));
              unknown = λ still. none_yet;
              later = stays_unlent far;
            }
        by (Some tx) found =
            let p : Part = part_of tx member inc in
            let last = step_part tid member inc p book entry i h (none_born member inc entry far) (record { tx = tx; found = found; holds = refl }) in
            let loans_are : loans_of p ≡ loans = l.counts tx found in
            let counted : loans_of (part_of last.tx member inc) ≡ after =
            ap loans_of last.holds ∙ (counted_on tid member inc book entry p h l.now ∙ ap (λ (x : Loans). loans_after tid member x entry.node entry.act) loans_are) in
            record {
              now = same_life member.node book entry far h ∙ l.now;
              counts = so_of tid (λ t. loans_of (part_of t member inc) ≡ after) (effect book entry) (record { tx = last.tx; found = last.found; holds = counted });
              unknown = λ none. absurd (clash ((step_grows tid member book entry i h).known (ap (λ (o : Option TransactionValue). is_some o) found)) (ap (λ (o : Option TransactionValue). is_some o) none));
              later = stays_unlent far;
            }

    -- a restart of the member's node begins a life without loans
    lends_anew : (r : Restarting member.node entry) → (x : Reborn book (effect book entry) member.node.0 r.inc) → Lends (effect book entry) r.inc no_loans
    lends_anew r x = record {
      now = x.now;
      counts = unlent r.inc later;
      unknown = λ none. refl;
      later = λ k less. unlent k (lt_lt inc r.inc k later less);
    }
      where
        later : inc < r.inc
        later = subst (λ (n : ℕ). n < r.inc) (some_same x.old inc (sym x.was ∙ l.now)) x.later

        unlent : (k : ℕ) → inc < k → IsSo tid (IsUnlent member k) (effect book entry)
        unlent k less =
            step_so tid (IsUnlent member k) book entry i h (λ label client ticks. refl)
            (λ s. step_turns tid (IsUnlent member k) (IsUnlent member k) book entry i h
            (subst (λ (act : Act). Obliged tid (IsUnlent member k) (IsUnlent member k) book entry.stamp entry.node.0 act) (sym r.act) (left_survives tid member k (λ p. loans_of p ≡ no_loans) (λ covers changes. refl) entry.node.0 r.inc, λ tx p. p)) s)
            (l.later k less)

  -- ---- the end

  even_agrees : (class : Class) (part : Part) → class ≡ classes.Activity → agrees_in class part ≡ true → are_even (loans_of part) ≡ true
  even_agrees classes.Activity part is h = h
  even_agrees class part is h = absurd (cc is)

  even_last : (inc : ℕ) (last : TransactionValue) (loans : Loans) → class_of member.server.0 ≡ classes.Activity → list_all agrees last.parts ≡ true → loans_of (part_of last member inc) ≡ loans → are_even loans ≡ true
  even_last inc last loans class all is = subst (λ (l : Loans). are_even l ≡ true) is (even_agrees (class_of member.server.0) (part_of last member inc) class (agreed member inc last all))

  pub returned_by : (entries : List Entry) (book : BookValue) (inc : ℕ) (loans : Loans) (last : TransactionValue) → class_of member.server.0 ≡ classes.Activity → Inv book → IsLawful book entries → Lends book inc loans
      → find_transaction (book_after book entries) tid ≡ Some last → list_all agrees last.parts ≡ true → are_returned tid member loans entries ≡ true
  returned_by [] book inc loans last class i lawful l found all = even_last inc last loans class all (l.counts last found)
  returned_by (entry ∷ entries) book inc loans last class i lawful l found all =
      by (restarts member.node entry) refl
      (λ k new next. returned_by entries (effect book entry) k new last class (stepped book entry i lawful.0).inv lawful.1 next found all)
    where
      -- the life that ends was even
      even : (r : Restarting member.node entry) → Reborn book (effect book entry) member.node.0 r.inc → (o : Option TransactionValue) → find_transaction book tid ≡ o → are_even loans ≡ true
      even r x None none = subst (λ (m : Loans). are_even m ≡ true) (sym (l.unknown none)) refl
      even r x (Some tx) there =
          let later : inc < r.inc = subst (λ (n : ℕ). n < r.inc) (some_same x.old inc (sym x.was ∙ l.now)) x.later in
          let p : Part = part_of tx member inc in
          let quiet = later_born member inc entry r.inc r.pend r.done r.act later in
          let one = step_part tid member inc p book entry i lawful.0 quiet (record { tx = tx; found = there; holds = refl }) in
          let same : part_after tid member inc (inc_at book entry.node) entry.stamp entry.node.0 entry.act p ≡ p = ap (λ (a : Act). part_after tid member inc (inc_at book entry.node) entry.stamp entry.node.0 a p) r.act in
          let end : Stands tid (IsPart tid member inc p p) (book_after (effect book entry) entries) =
          ended_last tid member inc entries (effect book entry) p r.inc (stepped book entry i lawful.0).inv lawful.1 (record { tx = one.tx; found = one.found; holds = one.holds ∙ same }) x.now later in
          even_last inc last loans class all
          (ap (λ (t : TransactionValue). loans_of (part_of t member inc)) (some_same last end.tx (sym found ∙ end.found)) ∙ (ap loans_of end.holds ∙ l.counts tx there))

      by : (b : Bool) → restarts member.node entry ≡ b → ((k : ℕ) (new : Loans) → Lends (effect book entry) k new → are_returned tid member new entries ≡ true)
          → (if restarts member.node entry then are_even loans && are_returned tid member no_loans entries else are_returned tid member (loans_after tid member loans entry.node entry.act) entries) ≡ true
      by true is more =
          let r : Restarting member.node entry = restarting member.node entry is in
          let x : Reborn book (effect book entry) member.node.0 r.inc = reborn book entry member.node.0 r.inc r.pend r.done lawful.0 r.act r.here in
          rw (is, even r x (find_transaction book tid) refl) (more r.inc no_loans (lends_anew book entry inc loans i lawful.0 l r x))
      by false is more = rw is (more inc (loans_after tid member loans entry.node entry.act) (lends_on book entry inc loans i lawful.0 l is))

  -- ---- the opening

  unlent_first : (opened : List Opened) (k : ℕ) → IsSo tid (IsUnlent member k) (opening opened)
  unlent_first opened k =
      opening_so tid (IsUnlent member k) (λ cell cause. refl)
      (λ m inc covers changes tx p. subst (λ (x : Part). loans_of x ≡ no_loans) (sym (put_part member k tx m inc (found_part covers changes))) (by (same_member m member && (inc == k)) (found_part covers changes) (part_of tx member k) refl p)) opened
    where
      by : (b : Bool) (x y : Part) → loans_of x ≡ no_loans → loans_of y ≡ no_loans → loans_of (if b then x else y) ≡ no_loans
      by true x y p q = p
      by false x y p q = q

  pub lends_first : (opened : List Opened) (inc : ℕ) → inc_in (opening opened) member.node.0 ≡ Some inc → Lends (opening opened) inc no_loans
  lends_first opened inc now = record { now = now; counts = unlent_first opened inc; unknown = λ none. refl; later = λ k less. unlent_first opened k }

  -- ---- a member of no node of the run

  lost : (o : Option NodeValue) (node : NodeValue) → o ≡ Some node → o ≡ None → ⊥
  lost o node is none = absurd (cc (is, none))

  nowhere : (book : BookValue) (entry : Entry) (loans : Loans) → broken book entry ≡ None → slice_get book.nodes member.node.0 ≡ None
      → (restarts member.node entry ≡ false) × (loans_after tid member loans entry.node entry.act ≡ loans)
  nowhere book entry loans h none = (far (entry.node.0 == member.node.0) refl, act_same (slice_get book.nodes entry.node.0) refl entry.act (held (is_in_order book entry) 1 _ h).1)
    where
      not_here : (o : Option NodeValue) → slice_get book.nodes entry.node.0 ≡ o → broken_at book entry.stamp entry.node.0 o entry.act ≡ None → entry.node.0 ≡ member.node.0 → ⊥
      not_here None is k e = absurd (cc k)
      not_here (Some node) is k e = lost (slice_get book.nodes member.node.0) node (ap (slice_get book.nodes) (sym e) ∙ is) none

      elsewhere : entry.node.0 ≡ member.node.0 → ⊥
      elsewhere = not_here (slice_get book.nodes entry.node.0) refl (held (is_in_order book entry) 1 _ h).1

      far : (b : Bool) → (entry.node.0 == member.node.0) ≡ b → (b && is_restart entry.act) ≡ false
      far true is = absurd (elsewhere (same_number entry.node.0 member.node.0 is))
      far false is = refl

      off : (a b : Bool) (x y : Loans) → (b ≡ true → ⊥) → (if a && b then x else y) ≡ y
      off true true x y k = absurd (k refl)
      off true false x y k = refl
      off false b x y k = refl

      by_node : (other : Member) → other.node.0 ≡ entry.node.0 → same_member other member ≡ true → ⊥
      by_node other e same = elsewhere (sym e ∙ ap (λ (m : Member). m.node.0) (same_member-true other member same))

      act_same : (o : Option NodeValue) → slice_get book.nodes entry.node.0 ≡ o → (act : Act) → broken_at book entry.stamp entry.node.0 o act ≡ None → loans_after tid member loans entry.node act ≡ loans
      act_same None is act k = absurd (cc k)
      act_same (Some node) is (Serve t other from n reply) k =
          off (same_tid t tid) (same_member other member) _ loans (by_node other (acts_here book entry.stamp entry.node.0 node (Serve t other from n reply) other (held node.up 2 (broken_act book entry.stamp entry.node.0 node (Serve t other from n reply)) k).1 refl))
      act_same (Some node) is (Loan t client) k = off (same_tid t tid) (same_member (borrower client entry.node) member) _ loans (by_node (borrower client entry.node) refl)
      act_same (Some node) is (Yield t client) k = off (same_tid t tid) (same_member (borrower client entry.node) member) _ loans (by_node (borrower client entry.node) refl)
      act_same (Some node) is act k = refl

  none_inc : (o : Option NodeValue) → o ≡ None → option_map (λ (a : Age). a.inc) (option_map age o) ≡ None
  none_inc o none = ap (λ (x : Option NodeValue). option_map (λ (a : Age). a.inc) (option_map age x)) none

  inc_none : (o : Option NodeValue) → option_map (λ (a : Age). a.inc) (option_map age o) ≡ None → o ≡ None
  inc_none None h = refl
  inc_none (Some node) h = absurd (cc h)

  pub returned_nowhere : (entries : List Entry) (book : BookValue) → IsLawful book entries → slice_get book.nodes member.node.0 ≡ None → are_returned tid member no_loans entries ≡ true
  returned_nowhere [] book lawful none = refl
  returned_nowhere (entry ∷ entries) book lawful none =
      let two = nowhere book entry no_loans lawful.0 none in
      let still : slice_get (effect book entry).nodes member.node.0 ≡ None =
      inc_none (slice_get (effect book entry).nodes member.node.0) (same_life member.node book entry two.0 lawful.0 ∙ none_inc (slice_get book.nodes member.node.0) none) in
      rw (two.0, two.1) (returned_nowhere entries (effect book entry) lawful.1 still)
