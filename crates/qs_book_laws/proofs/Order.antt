-- Members of a node learn in order: once windows or scratch have learnt, no member that comes before them learns in that life.
use Rattle.qs_book_laws.proofs.Words.{◌≡◌, ◌⊎◌, inl, inr, ℕ, ◌==◌, ◌&&◌, ◌||◌, Bool, true, false, not, List, [], ◌∷◌, ◌++◌, Option, Some, None, refl, sym, ap, subst, ◌∙◌, if◌then◌else◌, slice_get, nat_lt, list_any, same_tid, same_member, Class, Member, NodeNo, Outcome, Tid, same_tid-true, same_member-true, class_of, files_no, Reply, Vote, Act, Serve, Ending, Learn, Loan, Yield, Entry, TransactionValue, part_of, may_learn_still, serving_part, voted_part, learnt_part, Part, BookValue}
use Rattle.qs_book_laws.proofs.Words.{find_transaction, inc_at, is_done, borrower_at, broken_vote, is_vote_due, broken_learn, may_learn, broken_act, broken, effect, IsLawful, book_after, NodeValue, opening, Opened, IsCoherent, restarts}
use Rattle.qs_base.specs.declared.identifiers.Class.TheVariants as classes
use Rattle.qs_base.specs.declared.identifiers.Outcome.TheVariants as outcomes
use Rattle.qs_ops.specs.Members.{learns_outcome}
use Rattle.qs_ops.specs.Servers.{audit_no, names_no, windows_no, scratch_no, extra_no}
use Rattle.qs_ops.specs.declared.vote.Vote.TheVariants as votes
use Rattle.qs_book_journal.specs.declared.entry.Act.TheVariants as acts
use Rattle.qs_book_machine.specs.Transaction.{is_let_go}
use Rattle.qs_book_machine.specs.Clauses.{waits_for, earlier_servers}
use Rattle.qs_book_laws.specs.Endings.{is_learner, learns_before}
use Rattle.qs_book_laws.specs.Lives.{IsOneLife}
use Rattle.qs_book_laws.proofs.Begun.{inc_in}
use Rattle.qs_book_laws.proofs.Ends.{lawful_node}
use Rattle.qs_book_laws.proofs.Final as final
use Rattle.qs_book_laws.proofs.Final.{IsOver, still_over, over_on, nothing_served}
use Rattle.qs_book_laws.proofs.Holding.{left_of, right_of, clash, same_number, learn_here}
use Rattle.qs_book_laws.proofs.Lives.{inc_of_node, none_born, step_part}
use Rattle.qs_book_laws.proofs.Parts.{is_own, part_for, part_after}
use Rattle.qs_book_laws.proofs.Serves.{inc_there}
use Rattle.qs_book_laws.proofs.Steps.{passed, past, lawful_front, lawful_rest}
use Rattle.qs_book_laws.proofs.Takes.{some_same}
use Rattle.qs_book_laws.proofs.Turns.{Stands}
use Rattle.qs_base_lemmas.proofs.Tests.{ltb_apart}

-- ---- the clause

abbrev let_go_or_early : Bool → Bool → Option ℕ
let_go_or_early let_go early = if let_go then Some 96 else if early then Some 97 else None

-- what a lawful learning says of the members that come before
none_waits : (here : ℕ) (node : NodeValue) (tx : TransactionValue) (member : Member) (outcome : Outcome) → broken_learn here node (Some tx) member outcome ≡ None → list_any (waits_for tx member node.inc) (earlier_servers (class_of member.server.0)) ≡ false
none_waits here node tx member outcome h =
    by (is_let_go (part_of tx member node.inc)) (list_any (waits_for tx member node.inc) (earlier_servers (class_of member.server.0)))
    (past (may_learn here tx member (part_of tx member node.inc) outcome) 95 _ h)
  where
    by : (a b : Bool) → let_go_or_early a b ≡ None → b ≡ false
    by true b k = absurd (cc k)
    by false true k = absurd (cc k)
    by false false k = refl

-- and of the member itself
waited : (here : ℕ) (node : NodeValue) (tx : TransactionValue) (member : Member) (outcome : Outcome) → broken_learn here node (Some tx) member outcome ≡ None → may_learn_still (part_of tx member node.inc) ≡ true
waited here node tx member outcome h =
    both (part_of tx member node.inc).due (is_let_go (part_of tx member node.inc))
    (right_of (learns_outcome (class_of member.server.0)) (part_of tx member node.inc).due (right_of _ _ (passed (may_learn here tx member (part_of tx member node.inc) outcome) 95 _ h)))
    (not_let (is_let_go (part_of tx member node.inc)) (list_any (waits_for tx member node.inc) (earlier_servers (class_of member.server.0))) (past (may_learn here tx member (part_of tx member node.inc) outcome) 95 _ h))
  where
    both : (a b : Bool) → a ≡ true → b ≡ false → (a && not b) ≡ true
    both true false p q = refl
    both true true p q = absurd (cc q)
    both false b p q = absurd (cc p)

    not_let : (a b : Bool) → let_go_or_early a b ≡ None → a ≡ false
    not_let true b k = absurd (cc k)
    not_let false b k = refl

none_of : (f : ℕ → Bool) (s : ℕ) (xs : List ℕ) → list_any (λ x. x == s) xs ≡ true → list_any f xs ≡ false → f s ≡ false
none_of f s [] among h = absurd (cc among)
none_of f s (x ∷ xs) among h = by (x == s) (f x) refl refl among h (none_of f s xs)
  where
    by : (b c : Bool) → (x == s) ≡ b → f x ≡ c → (b || list_any (λ y. y == s) xs) ≡ true → (c || list_any f xs) ≡ false → (list_any (λ y. y == s) xs ≡ true → list_any f xs ≡ false → f s ≡ false) → f s ≡ false
    by b true is has k none more = absurd (cc none)
    by true false is has k none more = ap f (sym (same_number x s is)) ∙ has
    by false false is has k none more = more k none

-- who comes before
comes_before : (s : ℕ) (class : Class) → is_learner s ≡ true → learns_before (class_of s) class ≡ true → list_any (λ x. x == s) (earlier_servers class) ≡ true
comes_before s class learner h = by (files_no == s) (audit_no == s) (names_no == s) (windows_no == s) (scratch_no == s) (extra_no == s) refl refl refl refl refl refl learner
  where
    at_server : (n : ℕ) → n ≡ s → (learns_before (class_of n) class ≡ true → list_any (λ x. x == n) (earlier_servers class) ≡ true) → list_any (λ x. x == s) (earlier_servers class) ≡ true
    at_server n e k = subst (λ (m : ℕ). list_any (λ x. x == m) (earlier_servers class) ≡ true) e (k (subst (λ (m : ℕ). learns_before (class_of m) class ≡ true) (sym e) h))

    first : (n : ℕ) (c : Class) → ((n ≡ files_no) ⊎ ((n ≡ audit_no) ⊎ ((n ≡ names_no) ⊎ (n ≡ extra_no)))) → learns_before (class_of n) c ≡ true → list_any (λ x. x == n) (earlier_servers c) ≡ true
    first n classes.Standard (inl e) k = rw e refl
    first n classes.Standard (inr (inl e)) k = rw e refl
    first n classes.Standard (inr (inr (inl e))) k = rw e refl
    first n classes.Standard (inr (inr (inr e))) k = rw e refl
    first n classes.Delayed (inl e) k = rw e refl
    first n classes.Delayed (inr (inl e)) k = rw e refl
    first n classes.Delayed (inr (inr (inl e))) k = rw e refl
    first n classes.Delayed (inr (inr (inr e))) k = rw e refl
    first n classes.Recoverable (inl e) k = let no : false ≡ true = rw e at k in absurd (cc no)
    first n classes.Recoverable (inr (inl e)) k = let no : false ≡ true = rw e at k in absurd (cc no)
    first n classes.Recoverable (inr (inr (inl e))) k = let no : false ≡ true = rw e at k in absurd (cc no)
    first n classes.Recoverable (inr (inr (inr e))) k = let no : false ≡ true = rw e at k in absurd (cc no)
    first n classes.Volatile (inl e) k = let no : false ≡ true = rw e at k in absurd (cc no)
    first n classes.Volatile (inr (inl e)) k = let no : false ≡ true = rw e at k in absurd (cc no)
    first n classes.Volatile (inr (inr (inl e))) k = let no : false ≡ true = rw e at k in absurd (cc no)
    first n classes.Volatile (inr (inr (inr e))) k = let no : false ≡ true = rw e at k in absurd (cc no)
    first n classes.Immediate (inl e) k = let no : false ≡ true = rw e at k in absurd (cc no)
    first n classes.Immediate (inr (inl e)) k = let no : false ≡ true = rw e at k in absurd (cc no)
    first n classes.Immediate (inr (inr (inl e))) k = let no : false ≡ true = rw e at k in absurd (cc no)
    first n classes.Immediate (inr (inr (inr e))) k = let no : false ≡ true = rw e at k in absurd (cc no)
    first n classes.Activity (inl e) k = let no : false ≡ true = rw e at k in absurd (cc no)
    first n classes.Activity (inr (inl e)) k = let no : false ≡ true = rw e at k in absurd (cc no)
    first n classes.Activity (inr (inr (inl e))) k = let no : false ≡ true = rw e at k in absurd (cc no)
    first n classes.Activity (inr (inr (inr e))) k = let no : false ≡ true = rw e at k in absurd (cc no)

    second : (c : Class) → learns_before classes.Standard c ≡ true → list_any (λ x. x == windows_no) (earlier_servers c) ≡ true
    second classes.Delayed k = refl
    second c k = absurd (cc k)

    third : (c : Class) → learns_before classes.Delayed c ≡ true → list_any (λ x. x == scratch_no) (earlier_servers c) ≡ true
    third c k = absurd (cc k)

    by : (a b c d e f : Bool) → (files_no == s) ≡ a → (audit_no == s) ≡ b → (names_no == s) ≡ c → (windows_no == s) ≡ d → (scratch_no == s) ≡ e → (extra_no == s) ≡ f
        → (a || (b || (c || (d || (e || (f || false)))))) ≡ true → list_any (λ x. x == s) (earlier_servers class) ≡ true
    by true b c d e f p q r t u v k = at_server files_no (same_number files_no s p) (first files_no class (inl refl))
    by false true c d e f p q r t u v k = at_server audit_no (same_number audit_no s q) (first audit_no class (inr (inl refl)))
    by false false true d e f p q r t u v k = at_server names_no (same_number names_no s r) (first names_no class (inr (inr (inl refl))))
    by false false false true e f p q r t u v k = at_server windows_no (same_number windows_no s t) (second class)
    by false false false false true f p q r t u v k = at_server scratch_no (same_number scratch_no s u) (third class)
    by false false false false false true p q r t u v k = at_server extra_no (same_number extra_no s v) (first extra_no class (inr (inr (inr refl))))
    by false false false false false false p q r t u v k = absurd (cc k)

-- ---- a member that has nothing to learn

abbrev IsQuiet : Part → Type 0
IsQuiet part = may_learn_still part ≡ false

learnt_quiet : (outcome : Outcome) (part : Part) → IsQuiet (learnt_part outcome part)
learnt_quiet outcomes.Commit part = refl
learnt_quiet outcomes.Abort part = refl

choose : (b : Bool) (x y : Part) → (b ≡ true → IsQuiet x) → IsQuiet y → IsQuiet (if b then x else y)
choose true x y p q = p refl
choose false x y p q = q

choose_for : (tid : Tid) (member : Member) (inc : ℕ) (t : Tid) (o : Option Member) (now : ℕ) (f : Part → Part) (part : Part) → IsQuiet (f part) → IsQuiet part → IsQuiet (part_for tid member inc t o now f part)
choose_for tid member inc t None now f part p q = q
choose_for tid member inc t (Some other) now f part p q = choose (is_own tid member inc t other now) (f part) part (λ own. p) q

-- one that votes lawfully has been told nothing, and let nothing go
voted_quiet : (ballot : Vote) (part : Part) → nat_lt part.voted part.served ≡ true → IsQuiet part → IsQuiet (voted_part ballot part)
voted_quiet ballot part less quiet = of ballot (undue part.due part.read_only (part.voted == part.served) (ltb_apart part.voted part.served less) quiet)
  where
    undue : (a b c : Bool) → c ≡ false → (a && not (b && c)) ≡ false → a ≡ false
    undue false b c e h = refl
    undue true b true e h = absurd (cc e)
    undue true true false e h = absurd (cc h)
    undue true false false e h = absurd (cc h)

    of : (b : Vote) → part.due ≡ false → IsQuiet (voted_part b part)
    of (votes.Abort reason) none = rw none refl
    of votes.ReadOnly none = rw none refl
    of votes.Volatile none = rw none refl
    of votes.Recoverable none = rw none refl

module _ (tid : Tid) (member : Member) (inc : ℕ) where
  still_quiet : (now stamp here : ℕ) (act : Act) (part : Part)
      → ((t : Tid) (other : Member) (from : NodeNo) (n : ℕ) (reply : Reply) → act ≡ Serve t other from n reply → is_own tid member inc t other now ≡ true → ⊥)
      → ((t : Tid) (other : Member) (ballot : Vote) (covers : ℕ) → act ≡ acts.Vote t other ballot covers → is_own tid member inc t other now ≡ true → nat_lt part.voted part.served ≡ true)
      → IsQuiet part → IsQuiet (part_after tid member inc now stamp here act part)
  still_quiet now stamp here (Serve t other from n reply) part no_serve vote h = choose (is_own tid member inc t other now) (serving_part (class_of other.server.0) stamp (is_done reply) part) part (λ own. absurd (no_serve t other from n reply refl own)) h
  still_quiet now stamp here (acts.Vote t other ballot covers) part no_serve vote h = choose (is_own tid member inc t other now) (voted_part ballot part) part (λ own. voted_quiet ballot part (vote t other ballot covers refl own) h) h
  still_quiet now stamp here (Ending t other) part no_serve vote h = choose (is_own tid member inc t other now) _ part (λ own. refl) h
  still_quiet now stamp here (Learn t other outcome) part no_serve vote h = choose (is_own tid member inc t other now) (learnt_part outcome part) part (λ own. learnt_quiet outcome part) h
  still_quiet now stamp here (Loan t client) part no_serve vote h = choose_for tid member inc t (borrower_at client here) now _ part h h
  still_quiet now stamp here (Yield t client) part no_serve vote h = choose_for tid member inc t (borrower_at client here) now _ part h h
  still_quiet now stamp here act part no_serve vote h = h

-- ---- a life

module _ (tid : Tid) (first other : Member) (inc : ℕ) (near : other.node ≡ first.node) (learner : is_learner first.server.0 ≡ true) where
  one_quiet : (book : BookValue) (entry : Entry) → restarts other.node entry ≡ false → broken book entry ≡ None → IsOver tid first inc book
      → Stands tid (λ tx. IsQuiet (part_of tx other inc)) book → Stands tid (λ tx. IsQuiet (part_of tx other inc)) (effect book entry)
  one_quiet book entry far h o s =
      let last = step_part tid other inc part book entry o.inv h (none_born other inc entry far) (record { tx = s.tx; found = s.found; holds = refl }) in
      record {
        tx = last.tx;
        found = last.found;
        holds = subst IsQuiet (sym last.holds) (still_quiet tid other inc (inc_at book entry.node) entry.stamp entry.node.0 entry.act part no_serve vote s.holds);
      }
    where
      part : Part
      part = part_of s.tx other inc

      mine : (t : Tid) (m : Member) → is_own tid other inc t m (inc_at book entry.node) ≡ true → (t ≡ tid) × (m ≡ other) × ((inc_at book entry.node == inc) ≡ true)
      mine t m own =
          let rest : (same_member m other && (inc_at book entry.node == inc)) ≡ true = right_of (same_tid t tid) (same_member m other && (inc_at book entry.node == inc)) own in
          (same_tid-true t tid (left_of (same_tid t tid) _ own), same_member-true m other (left_of (same_member m other) (inc_at book entry.node == inc) rest), right_of (same_member m other) (inc_at book entry.node == inc) rest)

      no_serve : (t : Tid) (m : Member) (from : NodeNo) (n : ℕ) (reply : Reply) → entry.act ≡ Serve t m from n reply → is_own tid other inc t m (inc_at book entry.node) ≡ true → ⊥
      no_serve t m from n reply is own =
          let e = mine t m own in
          nothing_served tid first inc book entry m from n reply learner h o (is ∙ ap (λ (x : Tid). Serve x m from n reply) e.0) (ap (λ (x : Member). x.node) e.1 ∙ near)

      due : (node : NodeValue) (t : Tid) (tx : TransactionValue) (m : Member) (ballot : Vote) (covers : ℕ) (x : Option TransactionValue) → x ≡ Some tx → broken_vote entry.node.0 node t x m ballot covers ≡ None → nat_lt (part_of tx m node.inc).voted (part_of tx m node.inc).served ≡ true
      due node t tx m ballot covers None is k = absurd (cc is)
      due node t tx m ballot covers (Some y) is k =
          let same : y ≡ tx = some_same y tx is in
          subst (λ (z : TransactionValue). nat_lt (part_of z m node.inc).voted (part_of z m node.inc).served ≡ true) same
          (right_of _ _ (right_of _ _ (passed (is_vote_due entry.node.0 y m (part_of y m node.inc)) 40 _ k)))

      vote : (t : Tid) (m : Member) (ballot : Vote) (covers : ℕ) → entry.act ≡ acts.Vote t m ballot covers → is_own tid other inc t m (inc_at book entry.node) ≡ true → nat_lt part.voted part.served ≡ true
      vote t m ballot covers is own =
          let e = mine t m own in
          let at : (node : NodeValue) × (slice_get book.nodes entry.node.0 ≡ Some node) × (broken_act book entry.stamp entry.node.0 node (acts.Vote t m ballot covers) ≡ None) =
          lawful_node book entry (acts.Vote t m ballot covers) is (λ node. refl) h in
          let inc_same : at.0.inc ≡ inc = sym (inc_there book entry.node.0 at.0 at.1) ∙ same_number (inc_at book entry.node) inc e.2 in
          let found : find_transaction book t ≡ Some s.tx = ap (find_transaction book) e.0 ∙ s.found in
          subst (λ (k : ℕ). nat_lt (part_of s.tx other k).voted (part_of s.tx other k).served ≡ true) inc_same
          (subst (λ (x : Member). nat_lt (part_of s.tx x at.0.inc).voted (part_of s.tx x at.0.inc).served ≡ true) e.1
          (due at.0 t s.tx m ballot covers (find_transaction book t) found at.2))

  quiet_on : (entries : List Entry) (book : BookValue) → IsOneLife first.node entries → IsLawful book entries → IsOver tid first inc book → Stands tid (λ tx. IsQuiet (part_of tx other inc)) book → Stands tid (λ tx. IsQuiet (part_of tx other inc)) (book_after book entries)
  quiet_on [] book life lawful o s = s
  quiet_on (entry ∷ entries) book life lawful o s =
      quiet_on entries (effect book entry) life.1 lawful.1 (still_over tid first inc book entry life.0 lawful.0 o)
      (one_quiet book entry (subst (λ (n : NodeNo). restarts n entry ≡ false) (sym near) life.0) lawful.0 o s)

-- ---- the law

pub in_order : (opened : List Opened) (before between after : List Entry) (first second : Entry) (tid : Tid) (member other : Member) (outcome last : Outcome) → IsCoherent opened
    → IsLawful (opening opened) (before ++ (first ∷ (between ++ (second ∷ after)))) → is_learner member.server.0 ≡ true → is_learner other.server.0 ≡ true → other.node ≡ member.node
    → first.act ≡ acts.Learn tid member outcome → IsOneLife member.node between → second.act ≡ acts.Learn tid other last → learns_before (class_of other.server.0) (class_of member.server.0) ≡ false
in_order opened before between after first second tid member other outcome last coherent lawful learner other_learner near is life then_is = by (learns_before (class_of other.server.0) (class_of member.server.0)) refl
  where
    more : List Entry
    more = between ++ (second ∷ after)

    book : BookValue
    book = final.book opened before more first tid member outcome coherent lawful is

    rest : IsLawful (effect book first) more
    rest = (final.goes_on opened before more first tid member outcome coherent lawful is).1

    at : (node : NodeValue) × (slice_get book.nodes first.node.0 ≡ Some node) × (broken_act book first.stamp first.node.0 node (acts.Learn tid member outcome) ≡ None)
    at = final.at opened before more first tid member outcome coherent lawful is

    known : (tx : TransactionValue) × (find_transaction book tid ≡ Some tx)
    known = final.known opened before more first tid member outcome coherent lawful is

    learns : broken_learn first.node.0 at.0 (Some known.0) member outcome ≡ None
    learns = subst (λ (o : Option TransactionValue). broken_learn first.node.0 at.0 o member outcome ≡ None) known.1 at.2

    over : IsOver tid member at.0.inc (effect book first)
    over = final.over_then opened before more first tid member outcome coherent lawful is

    -- it has nothing to learn as the first one learns, nor after it
    quiet_then : learns_before (class_of other.server.0) (class_of member.server.0) ≡ true → Stands tid (λ tx. IsQuiet (part_of tx other at.0.inc)) (effect book first)
    quiet_then h =
        let none : waits_for known.0 member at.0.inc other.server.0 ≡ false =
        none_of (waits_for known.0 member at.0.inc) other.server.0 (earlier_servers (class_of member.server.0)) (comes_before other.server.0 (class_of member.server.0) other_learner h) (none_waits first.node.0 at.0 known.0 member outcome learns) in
        let part : Part = part_of known.0 other at.0.inc in
        let quiet : IsQuiet part = subst (λ (n : NodeNo). may_learn_still (part_of known.0 (record { node = n; server = other.server }) at.0.inc) ≡ false) (sym near) none in
        let s = final.part_then opened before more first tid member outcome coherent lawful is other in
        let new : Part = part_after tid other at.0.inc (inc_at book first.node) first.stamp first.node.0 first.act part in
        let still : IsQuiet new =
        subst (λ (a : Act). IsQuiet (part_after tid other at.0.inc (inc_at book first.node) first.stamp first.node.0 a part)) (sym is)
        (choose (is_own tid other at.0.inc tid member (inc_at book first.node)) (learnt_part outcome part) part (λ own. learnt_quiet outcome part) quiet) in
        record { tx = s.tx; found = s.found; holds = subst IsQuiet (sym s.holds) still }

    by : (b : Bool) → learns_before (class_of other.server.0) (class_of member.server.0) ≡ b → b ≡ false
    by false h = refl
    by true h =
        let mid : BookValue = book_after (effect book first) between in
        let between_lawful : IsLawful (effect book first) between = lawful_front between (second ∷ after) (effect book first) rest in
        let o : IsOver tid member at.0.inc mid = over_on tid member at.0.inc between (effect book first) life between_lawful over in
        let s : Stands tid (λ tx. IsQuiet (part_of tx other at.0.inc)) mid = quiet_on tid member other at.0.inc near learner between (effect book first) life between_lawful over (quiet_then h) in
        let lawful_second : broken mid second ≡ None = (lawful_rest between (second ∷ after) (effect book first) rest).0 in
        let there : (node : NodeValue) × (slice_get mid.nodes second.node.0 ≡ Some node) × (broken_act mid second.stamp second.node.0 node (acts.Learn tid other last) ≡ None) =
        lawful_node mid second (acts.Learn tid other last) then_is (λ node. refl) lawful_second in
        let e : other.node.0 ≡ second.node.0 = learn_here second.node.0 there.0 (find_transaction mid tid) other last there.2 in
        let inc_same : there.0.inc ≡ at.0.inc =
        some_same there.0.inc at.0.inc (sym (inc_of_node mid second.node.0 there.0 there.1) ∙ (ap (inc_in mid) (sym e ∙ ap (λ (n : NodeNo). n.0) near) ∙ o.now)) in
        let waits : may_learn_still (part_of s.tx other there.0.inc) ≡ true =
        waited second.node.0 there.0 s.tx other last (subst (λ (x : Option TransactionValue). broken_learn second.node.0 there.0 x other last ≡ None) s.found there.2) in
        absurd (clash (subst (λ (k : ℕ). may_learn_still (part_of s.tx other k) ≡ true) inc_same waits) s.holds)
