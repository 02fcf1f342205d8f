-- The client that is answered has one line less and nothing in hand: answers that are no take's, and begins that are made or refused.
use Rattle.std.proofs.Common.{◌≡◌, ◌∙◌, ℕ, ◌==◌, Bool, true, false, List, [], ◌∷◌, ◌++◌, Option, Some, None, inl, inr, refl, sym, ap, subst, arith}
use Rattle.std.specs.Prelude.{◌⊎◌, slice_get, slice_set}
use Rattle.std.proofs.lemmas.Bool.Decides.{nat_tests}
use Rattle.std.specs.BTreeMap.{is_at}
use Rattle.std.specs.BTreeSet.{insert_key}
use Rattle.std.specs.List.{find, list_any}
use Rattle.std.specs.Ordering.{is_eq}
use Rattle.std.specs.Cmp.Lexicographic.{texts_ties}
use Rattle.std.specs.declared.cmp.Ordering.{Ordering}
use Rattle.std.specs.declared.cmp.Ordering.TheVariants.{Less, Equal, Greater}
use Rattle.qs_base.specs.Order.{bytes_cmp}
use Rattle.qs_base.specs.declared.identifiers.ClientNo.{ClientNo}
use Rattle.qs_base.specs.declared.identifiers.Tid.{Tid}
use Rattle.qs_base.proofs.Same.{same_bytes-self, same_bytes-true}
use Rattle.qs_base.proofs.TidOrder.{or-true}
use Rattle.qs_base_lemmas.proofs.Tests.{some_same}
use Rattle.qs_ops.specs.declared.answer.Answer.{Answer}
use Rattle.qs_ops.specs.declared.answer.Answer.TheVariants as answers
use Rattle.qs_book_journal.specs.declared.script_line.ScriptLine.{ScriptLine}
use Rattle.qs_book_laws.proofs.Maps.{changed_at_here, set_at_either}
use Rattle.qs_book_machine.specs.Book.{BookValue}
use Rattle.qs_book_conformance.specs.Answers.{is_refused}
use Rattle.qs_book_conformance.specs.Commands.{is_take}
use Rattle.qs_book_conformance.specs.Course.{ClientValue, borrowing_of, first_of}
use Rattle.qs_book_conformance.specs.Effects.{answered, refused_by, rest_of, taken_by, told_of}
use Rattle.qs_book_conformance.specs.declared.values.CommandMade.TheVariants as makes
use Rattle.qs_node_kept.specs.Keeping.{has_label}
use Rattle.qs_node_kept.specs.declared.kept.Kept.{Kept}
use Rattle.qs_node_kept.specs.declared.kept.KeptLabel.{KeptLabel}
use Rattle.qs_node_step.specs.Step.{is_owner}
use Rattle.qs_node_step.specs.declared.state.OpenCommand.{OpenCommand}
use Rattle.qs_world_course.specs.Answered.{AnswersGo, BeginsAreAnswered, IsClosed, PlainAreAnswered, RefusalsAreAnswered, answered_at, begun_as, with_label}
use Rattle.qs_world_course.specs.Clients.{Commands, ForClients, IsOnCourse, in_hand_of}
use Rattle.qs_world_course.specs.Loans.{HoldsBorrowing, loans_of}

-- ---- the client that is answered, and the others

elsewhere : {X : Type 0} (f : X → X) (xs : List X) (i j : ℕ) (v : X) → slice_get xs i ≡ Some v → (i == j) ≡ false → slice_get (slice_set xs i (f v)) j ≡ slice_get xs j
elsewhere {X} f xs i j v there far = by (set_at_either xs i j v (f v) there)
  where
    differ : j ≡ i → (i == j) ≡ false → ⊥
    differ e far_off = grind (arith, nat_tests)

    by : ((j ≡ i) × (slice_get xs j ≡ Some v) × (slice_get (slice_set xs i (f v)) j ≡ Some (f v))) ⊎ (slice_get (slice_set xs i (f v)) j ≡ slice_get xs j)
        → slice_get (slice_set xs i (f v)) j ≡ slice_get xs j
    by (inl is) = absurd (differ is.0 far)
    by (inr is) = is

pub answers_go : AnswersGo
answers_go course stamp here client line answer state there = record {
  it = changed_at_here (answered course.book answer) course.clients client.0 state there;
  others = λ k far. subst (λ (o : Option ClientValue). slice_get (elim o [ None ↦ course.clients | Some x ↦ slice_set course.clients client.0 (answered course.book answer x) ]) k ≡ slice_get course.clients k) (sym there)
      (elsewhere (answered course.book answer) course.clients client.0 k state there far);
  replies = refl;
}

-- ---- what is left to show of a client that is answered: its loans, and its labels

pub none_in_hand : (client : ClientNo) (later : Commands) → in_hand_of client later ≡ None → (command : OpenCommand) → in_hand_of client later ≡ Some command → ⊥
none_in_hand client later gone command there = absurd (cc (sym there ∙ gone))

module _ (node : ForClients) (later : Commands) (client : ClientNo) (line : ScriptLine) (rest : List ScriptLine) (state : ClientValue) (c : IsClosed node later client line rest state) where
  pub closes : (kept : Kept) (new : ClientValue) → new.seat ≡ state.seat → new.left ≡ rest → new.made ≡ makes.Nothing
      → ((t : Tid) → HoldsBorrowing (loans_of client t kept.loans) (borrowing_of new t))
      → ((label : List ℕ) (begun : KeptLabel) → find (has_label label) kept.labels ≡ Some begun → is_owner client begun.owner ≡ true → begun.tid ≡ None → is_refused new label ≡ true)
      → ((label : List ℕ) (begun : KeptLabel) (t : Tid) → find (has_label label) kept.labels ≡ Some begun → begun.tid ≡ Some t → is_refused new label ≡ false)
      → IsOnCourse (answered_at later kept node) client rest new
  closes kept new seat left made loans refused begun = record {
    seat = rw seat c.held.seat;
    left = left;
    line = λ command there. absurd (none_in_hand client later c.gone command there);
    made = λ command there. absurd (none_in_hand client later c.gone command there);
    spent = λ gone. inl made;
    loans = loans;
    refused = refused;
    begun = begun;
  }

-- ---- answers that are no take's

pub plain_so : (book : BookValue) (line : ScriptLine) (rest : List ScriptLine) (state : ClientValue) (answer : Answer) → state.left ≡ line ∷ rest → is_take line.command ≡ false → ((c : ClientValue) → refused_by line answer c ≡ c)
    → answered book answer state ≡ record state { left = rest; made = makes.Nothing }
plain_so book line rest state answer left other plain =
    ap (λ (ls : List ScriptLine). record (told_of book answer (first_of ls) state) { left = rest_of ls; made = makes.Nothing }) left
    ∙ (ap (λ (c : ClientValue). record c { left = rest; made = makes.Nothing }) (plain (taken_by book line state))
    ∙ ap (λ (c : ClientValue). record c { left = rest; made = makes.Nothing }) untaken)
  where
    untaken : taken_by book line state ≡ state
    untaken = rw other refl

pub plain_are_answered : PlainAreAnswered
plain_are_answered node later client line rest state book answer c other plain =
    subst (IsOnCourse (answered_at later node.kept node) client rest) (sym (plain_so book line rest state answer c.held.left other plain))
    (closes node later client line rest state c node.kept (record state { left = rest; made = makes.Nothing }) refl refl refl c.held.loans c.held.refused c.held.begun)

-- ---- labels

exact : (n m : List ℕ) → is_at (bytes_cmp n) m ≡ true → n ≡ m
exact n m is = same_bytes-true n m (texts_ties n m ∙ is)

label_itself : (n : List ℕ) → is_at (bytes_cmp n) n ≡ true
label_itself n = sym (texts_ties n n) ∙ same_bytes-self n

-- what is found behind one more is found before it, or is that one
abbrev IsFoundOr : List ℕ → List KeptLabel → KeptLabel → KeptLabel → Type 0
IsFoundOr label xs y begun = (find (has_label label) xs ≡ Some begun) ⊎ ((y ≡ begun) × (label ≡ y.label))

find_last : (label : List ℕ) (xs : List KeptLabel) (y begun : KeptLabel) → find (has_label label) (xs ++ y ∷ []) ≡ Some begun → IsFoundOr label xs y begun
find_last label [] y begun found = by (has_label label y) refl
  where
    by : (b : Bool) → has_label label y ≡ b → IsFoundOr label [] y begun
    by true is = inr (some_same (rw is at found), exact label y.label is)
    by false is = absurd (cc (rw is at found))
find_last label (x ∷ xs) y begun found = by (has_label label x) refl (λ f. find_last label xs y begun f)
  where
    by : (b : Bool) → has_label label x ≡ b → (find (has_label label) (xs ++ y ∷ []) ≡ Some begun → IsFoundOr label xs y begun) → IsFoundOr label (x ∷ xs) y begun
    by true is rest = inl (rw is (rw is at found))
    by false is rest = later (rest (rw is at found))
      where
        later : IsFoundOr label xs y begun → IsFoundOr label (x ∷ xs) y begun
        later (inl there) = inl (rw is there)
        later (inr last) = inr last

-- ---- a begin that is answered ok

pub begins_are_answered : BeginsAreAnswered
begins_are_answered node later client line rest state book tid c begins unrefused =
    subst (IsOnCourse (answered_at later kept node) client rest) (sym (plain_so book line rest (record state { made = makes.Begun }) answers.Done c.held.left (ap is_take begins) (λ c. refl)))
    (closes node later client line rest state c kept (record state { left = rest; made = makes.Nothing }) refl refl refl c.held.loans
    (λ label begun found own without. refused label begun own without (find_last label node.kept.labels one begun found))
    (λ label begun t found of. standing label begun t of (find_last label node.kept.labels one begun found)))
  where
    one : KeptLabel
    one = begun_as line.label (Some tid) client

    kept : Kept
    kept = with_label one node.kept

    refused : (label : List ℕ) (begun : KeptLabel) → is_owner client begun.owner ≡ true → begun.tid ≡ None → IsFoundOr label node.kept.labels one begun → is_refused state label ≡ true
    refused label begun own without (inl there) = c.held.refused label begun there own without
    refused label begun own without (inr last) = absurd (cc (ap (λ (b : KeptLabel). b.tid) last.0 ∙ without))

    standing : (label : List ℕ) (begun : KeptLabel) (t : Tid) → begun.tid ≡ Some t → IsFoundOr label node.kept.labels one begun → is_refused state label ≡ false
    standing label begun t of (inl there) = c.held.begun label begun t there of
    standing label begun t of (inr last) = ap (is_refused state) last.1 ∙ unrefused

-- ---- a begin that is refused

any_insert : (p : List ℕ → Bool) (k : List ℕ) (xs : List (List ℕ)) → list_any p xs ≡ true → list_any p (insert_key bytes_cmp xs k) ≡ true
any_insert p k [] h = absurd (cc h)
any_insert p k (x ∷ xs) h = by (bytes_cmp k x) refl (p x) refl (any_insert p k xs)
  where
    by : (r : Ordering) → bytes_cmp k x ≡ r → (b : Bool) → p x ≡ b → (list_any p xs ≡ true → list_any p (insert_key bytes_cmp xs k) ≡ true) → list_any p (insert_key bytes_cmp (x ∷ xs) k) ≡ true
    by Less is b has more = rw is (rw h (or-true (p k)))
    by Equal is b has more = rw is h
    by Greater is true has more = rw (is, has) refl
    by Greater is false has more = rw (is, has) (more (rw has at h))

own_insert : (k : List ℕ) (xs : List (List ℕ)) → list_any (is_at (bytes_cmp k)) (insert_key bytes_cmp xs k) ≡ true
own_insert k [] = rw (label_itself k) refl
own_insert k (x ∷ xs) = by (bytes_cmp k x) refl (own_insert k xs)
  where
    by : (r : Ordering) → bytes_cmp k x ≡ r → list_any (is_at (bytes_cmp k)) (insert_key bytes_cmp xs k) ≡ true → list_any (is_at (bytes_cmp k)) (insert_key bytes_cmp (x ∷ xs) k) ≡ true
    by Less is more = rw is (rw (label_itself k) refl)
    by Equal is more = rw (is, ap is_eq is) refl
    by Greater is more = rw is (rw more (or-true (is_at (bytes_cmp k) x)))

put_back : (p : List ℕ → Bool) (k : List ℕ) (xs : List (List ℕ)) → list_any p xs ≡ false → p k ≡ false → list_any p (insert_key bytes_cmp xs k) ≡ false
put_back p k [] h e = rw e refl
put_back p k (x ∷ xs) h e = by (bytes_cmp k x) refl (p x) refl (put_back p k xs)
  where
    by : (r : Ordering) → bytes_cmp k x ≡ r → (b : Bool) → p x ≡ b → (list_any p xs ≡ false → p k ≡ false → list_any p (insert_key bytes_cmp xs k) ≡ false) → list_any p (insert_key bytes_cmp (x ∷ xs) k) ≡ false
    by Less is b has more = rw is (rw e h)
    by Equal is b has more = rw is h
    by Greater is true has more = absurd (cc (rw has at h))
    by Greater is false has more = rw (is, has) (more (rw has at h) e)

refusal_so : (book : BookValue) (line : ScriptLine) (rest : List ScriptLine) (state : ClientValue) (need room : ℕ) → state.left ≡ line ∷ rest → is_take line.command ≡ false
    → answered book (answers.LogFull need room) state ≡ record state { left = rest; made = makes.Nothing; refused = insert_key bytes_cmp state.refused line.label }
refusal_so book line rest state need room left other =
    ap (λ (ls : List ScriptLine). record (told_of book (answers.LogFull need room) (first_of ls) state) { left = rest_of ls; made = makes.Nothing }) left
    ∙ ap (λ (c : ClientValue). record (refused_by line (answers.LogFull need room) c) { left = rest; made = makes.Nothing }) untaken
  where
    untaken : taken_by book line state ≡ state
    untaken = rw other refl

pub refusals_are_answered : RefusalsAreAnswered
refusals_are_answered node later client line rest state book need room c begins unmet =
    subst (IsOnCourse (answered_at later kept node) client rest) (sym (refusal_so book line rest state need room c.held.left (ap is_take begins)))
    (closes node later client line rest state c kept (record state { left = rest; made = makes.Nothing; refused = insert_key bytes_cmp state.refused line.label }) refl refl refl c.held.loans
    (λ label begun found own without. refused label begun own without (find_last label node.kept.labels one begun found))
    (λ label begun t found of. standing label begun t of (find_last label node.kept.labels one begun found)))
  where
    one : KeptLabel
    one = begun_as line.label None client

    kept : Kept
    kept = with_label one node.kept

    is_among : List ℕ → Bool
    is_among label = list_any (is_at (bytes_cmp label)) (insert_key bytes_cmp state.refused line.label)

    refused : (label : List ℕ) (begun : KeptLabel) → is_owner client begun.owner ≡ true → begun.tid ≡ None → IsFoundOr label node.kept.labels one begun → is_among label ≡ true
    refused label begun own without (inl there) = any_insert (is_at (bytes_cmp label)) line.label state.refused (c.held.refused label begun there own without)
    refused label begun own without (inr last) = subst (λ (l : List ℕ). is_among l ≡ true) (sym last.1) (own_insert line.label state.refused)

    apart : (label : List ℕ) (begun : KeptLabel) → find (has_label label) node.kept.labels ≡ Some begun → (b : Bool) → is_at (bytes_cmp label) line.label ≡ b → b ≡ false
    apart label begun there true is = absurd (cc (sym (subst (λ (l : List ℕ). find (has_label l) node.kept.labels ≡ Some begun) (exact label line.label is) there) ∙ unmet))
    apart label begun there false is = refl

    standing : (label : List ℕ) (begun : KeptLabel) (t : Tid) → begun.tid ≡ Some t → IsFoundOr label node.kept.labels one begun → is_among label ≡ false
    standing label begun t of (inl there) = put_back (is_at (bytes_cmp label)) line.label state.refused (c.held.begun label begun t there of) (apart label begun there (is_at (bytes_cmp label) line.label) refl)
    standing label begun t of (inr last) = absurd (cc (ap (λ (b : KeptLabel). b.tid) last.0 ∙ of))
