-- Facts about the users of labels after one more command.
use Rattle.std.proofs.Common.{◌≡◌, ℕ, Bool, true, false, not, ◌&&◌, ◌||◌, ◌==◌, List, [], ◌∷◌, ◌++◌, length, Option, Some, refl, sym, ◌∙◌, ap, subst, arith, true≢false}
use Rattle.std.specs.Prelude.{unwrap_or, if◌then◌else◌}
use Rattle.std.specs.BTreeMap.{insert_entry, is_at}
use Rattle.std.specs.Cmp.Lexicographic.{texts_ties}
use Rattle.std.specs.Map.{lookup}
use Rattle.std.specs.Ordering.{is_eq, ordering_reverse}
use Rattle.std.specs.declared.cmp.Ordering.{Ordering}
use Rattle.std.specs.declared.cmp.Ordering.TheVariants.{Less, Equal, Greater}
use Rattle.std.proofs.lemmas.Bool.Decides.{nat_tests}
use Rattle.std.proofs.lemmas.Cmp.{nat_list_cmp_total, tied_itself}
use Rattle.std.proofs.lemmas.List.Folds.{list_any-append}
use Rattle.std.proofs.lemmas.Map.Lookups.{exact_bytes}
use Rattle.qs_base.proofs.Same.{same_bytes-true}
use Rattle.qs_base.specs.Order.{bytes_cmp, same_bytes}
use Rattle.qs_base.specs.declared.identifiers.ClientNo.{ClientNo}
use Rattle.qs_book_journal.specs.declared.script_line.ScriptLine.{ScriptLine}
use Rattle.qs_text_script.specs.Rules.{is_begin, is_take, begins_line, owns_line, takes_line}
use Rattle.qs_text_script.specs.Users.{is_client_of, has_client, with_client, with_new_client, nobody, with_user, users_after, users_of, with_user_of, is_begun_by}
use Rattle.qs_text_script.specs.declared.label_index.Users.{Users}

-- ---- truth values

or_false : (a : Bool) → a ≡ (a || false)
or_false true = refl
or_false false = refl

or_and_false : (a b : Bool) → a ≡ (a || (b && false))
or_and_false a true = or_false a
or_and_false a false = or_false a

or_and_true : (a b : Bool) → (a || (b || false)) ≡ (a || (b && true))
or_and_true true b = refl
or_and_true false true = refl
or_and_true false false = refl

-- ---- the users after one more command

abbrev with_kinds : (begins takes : Bool) → ClientNo → Users → Users
with_kinds begins takes one users = record { owners = with_client begins one users.owners; takers = with_new_client takes one users.takers }

client_added : (kind : Bool) (client : ℕ) (one : ClientNo) (clients : List ClientNo)
    → has_client client (with_client kind one clients) ≡ (has_client client clients || (kind && ((one.0 == client) && true)))
client_added true client one clients = list_any-append (is_client_of client) clients (one ∷ []) ∙ or_and_true (has_client client clients) (one.0 == client)
client_added false client one clients = or_false (has_client client clients)

is_among : (clients : List ClientNo) (client number : ℕ) → has_client number clients ≡ true → (number == client) ≡ true → has_client client clients ≡ true
is_among clients client number has same = subst (λ n. has_client n clients ≡ true) (grind (arith, nat_tests, same)) has

or_among : (a b : Bool) → (b ≡ true → a ≡ true) → a ≡ (a || (b && true))
or_among true b among = refl
or_among false true among = absurd (true≢false (sym (among refl)))
or_among false false among = refl

new_client_added : (kind : Bool) (client : ℕ) (one : ClientNo) (clients : List ClientNo)
    → has_client client (with_new_client kind one clients) ≡ (has_client client clients || (kind && ((one.0 == client) && true)))
new_client_added false client one clients = or_false (has_client client clients)
new_client_added true client one clients = by (has_client one.0 clients) refl
  where
    by : (b : Bool) → has_client one.0 clients ≡ b
        → has_client client (with_client (not b) one clients) ≡ (has_client client clients || ((one.0 == client) && true))
    by true has = or_among (has_client client clients) (one.0 == client) (is_among clients client one.0 has)
    by false none = client_added true client one clients

no_client_added : (kind : Bool) (client : ℕ) (one : ClientNo) (clients : List ClientNo)
    → has_client client clients ≡ (has_client client clients || (kind && ((one.0 == client) && false)))
no_client_added true client one clients = or_and_false (has_client client clients) (one.0 == client)
no_client_added false client one clients = or_false (has_client client clients)

owned_after : (begins takes same : Bool) (client : ℕ) (one : ClientNo) (users : Users)
    → has_client client (if same then with_kinds begins takes one users else users).owners ≡ (has_client client users.owners || (begins && ((one.0 == client) && same)))
owned_after begins takes true client one users = client_added begins client one users.owners
owned_after begins takes false client one users = no_client_added begins client one users.owners

taken_after : (begins takes same : Bool) (client : ℕ) (one : ClientNo) (users : Users)
    → has_client client (if same then with_kinds begins takes one users else users).takers ≡ (has_client client users.takers || (takes && ((one.0 == client) && same)))
taken_after begins takes true client one users = new_client_added takes client one users.takers
taken_after begins takes false client one users = no_client_added takes client one users.takers

or_true : (a : Bool) → true ≡ (a || true)
or_true true = refl
or_true false = refl

not_empty : (one : ClientNo) (clients : List ClientNo) → not (length (clients ++ one ∷ []) == 0) ≡ true
not_empty one [] = refl
not_empty one (c ∷ clients) = grind (arith, nat_tests)

begun_after : (begins takes same : Bool) (one : ClientNo) (users : Users)
    → is_begun_by (if same then with_kinds begins takes one users else users) ≡ (is_begun_by users || (begins && same))
begun_after true takes true one users = not_empty one users.owners ∙ or_true (is_begun_by users)
begun_after false takes true one users = or_false (is_begun_by users)
begun_after begins takes false one users = or_and_false (is_begun_by users) begins

pub begun_by_line : (label : List ℕ) (line : ScriptLine) (users : Users) → is_begun_by (users_after label line users) ≡ (is_begun_by users || begins_line label line)
begun_by_line label line users = begun_after (is_begin line.command) (is_take line.command) (same_bytes line.label label) line.client users

pub owned_by_line : (client : ℕ) (label : List ℕ) (line : ScriptLine) (users : Users)
    → has_client client (users_after label line users).owners ≡ (has_client client users.owners || owns_line client label line)
owned_by_line client label line users = owned_after (is_begin line.command) (is_take line.command) (same_bytes line.label label) client line.client users

pub taken_by_line : (client : ℕ) (label : List ℕ) (line : ScriptLine) (users : Users)
    → has_client client (users_after label line users).takers ≡ (has_client client users.takers || takes_line client label line)
taken_by_line client label line users = taken_after (is_begin line.command) (is_take line.command) (same_bytes line.label label) client line.client users

-- ---- the index after one more command

module _ {X : Type 0} (k : List ℕ) (v : X) where
  lookup_put : (es : List (List ℕ × X)) → lookup (is_at (bytes_cmp k)) (insert_entry bytes_cmp es k v) ≡ Some v
  lookup_put [] = rw (tied_itself nat_list_cmp_total k) refl
  lookup_put (e ∷ es) = by (bytes_cmp k e.0) refl (lookup_put es)
    where
      by : (r : Ordering) → bytes_cmp k e.0 ≡ r → lookup (is_at (bytes_cmp k)) (insert_entry bytes_cmp es k v) ≡ Some v → lookup (is_at (bytes_cmp k)) (insert_entry bytes_cmp (e ∷ es) k v) ≡ Some v
      by Less is more = rw (is, tied_itself nat_list_cmp_total k) refl
      by Equal is more = rw (is, is) refl
      by Greater is more = rw (is, is) more

  lookup_put_apart : (p : List ℕ → Bool) → p k ≡ false → (es : List (List ℕ × X)) → lookup p (insert_entry bytes_cmp es k v) ≡ lookup p es
  lookup_put_apart p other [] = rw other refl
  lookup_put_apart p other (e ∷ es) = by (bytes_cmp k e.0) refl (lookup_put_apart p other es)
    where
      by : (r : Ordering) → bytes_cmp k e.0 ≡ r → lookup p (insert_entry bytes_cmp es k v) ≡ lookup p es → lookup p (insert_entry bytes_cmp (e ∷ es) k v) ≡ lookup p (e ∷ es)
      by Less is more = rw (is, other) refl
      by Equal is more = let no : p e.0 ≡ false = subst (λ x. p x ≡ false) (exact_bytes k e.0 is) other in rw (is, no) refl
      by Greater is more = rw (is, more) refl

is_eq-reverse : (r : Ordering) → is_eq (ordering_reverse r) ≡ is_eq r
is_eq-reverse Less = refl
is_eq-reverse Equal = refl
is_eq-reverse Greater = refl

is_at-same : (label key : List ℕ) → is_at (bytes_cmp label) key ≡ same_bytes key label
is_at-same label key = ap is_eq (nat_list_cmp_total.antisymm label key) ∙ is_eq-reverse (bytes_cmp key label) ∙ sym (texts_ties key label)

pub users_put : (label : List ℕ) (line : ScriptLine) (index : List (List ℕ × Users)) → users_of label (with_user_of line index) ≡ users_after label line (users_of label index)
users_put label line index = by (same_bytes line.label label) refl
  where
    here : (key : List ℕ) → line.label ≡ key → users_of key (with_user_of line index) ≡ with_user line (users_of key index)
    here key same = subst (λ k. users_of k (with_user_of line index) ≡ with_user line (users_of k index)) same
        (ap (λ (o : Option Users). unwrap_or o nobody) (lookup_put line.label (with_user line (users_of line.label index)) index))

    by : (b : Bool) → same_bytes line.label label ≡ b → users_of label (with_user_of line index) ≡ (if b then with_user line (users_of label index) else users_of label index)
    by true same = here label (same_bytes-true line.label label same)
    by false apart = ap (λ (o : Option Users). unwrap_or o nobody)
        (lookup_put_apart line.label (with_user line (users_of line.label index)) (is_at (bytes_cmp label)) (is_at-same label line.label ∙ apart) index)
