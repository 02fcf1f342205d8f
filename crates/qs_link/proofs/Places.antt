-- The lanes of a client are the first with its number, by their place in the list.
use Rattle.std.proofs.Common.{◌≡◌, ◌<◌, ◌≤◌, ℕ, zero, suc, ◌+◌, List, [], ◌∷◌, get_or, set, length, refl, ap, subst, sym, arith}
use Rattle.std.specs.Prelude.{Bool, Option, Result, Ok, Err, OnOk, OnErr, Some, None, true, false, not, cond, nat_lt}
use Rattle.std.specs.List.{position, position_or_len}
use Rattle.std.proofs.lemmas.Bool.Decides.{nat_tests}
use Rattle.std.proofs.lemmas.List.Quantifiers.{position-Some}
use Rattle.qs_base.specs.declared.identifiers.ClientNo.{ClientNo}
use Rattle.qs_base.specs.declared.memory.NoMemory.{NoMemory}
use Rattle.qs_book_journal.specs.declared.script_line.LineAnswer.{LineAnswer}
use Rattle.qs_book_journal.specs.declared.script_line.ScriptLine.{ScriptLine}
use Rattle.qs_link.specs.Lane.{FeedValue, DrawValue}
use Rattle.qs_link.specs.Lanes.{is_of, ends_of, at_client, with_commands, with_answers, GoesOn, CarriesIn, CarriesOut}
use Rattle.qs_link.specs.declared.ends.NodeEnds.{NodeEnds}

changed_at : (client : ClientNo) (f : NodeEnds → NodeEnds) (xs : List NodeEnds) (i : ℕ) (x d : NodeEnds) → i < length xs → is_of client (get_or xs i d) ≡ true
    → ((k : ℕ) → k < i → is_of client (get_or xs k d) ≡ false) → x ≡ f (get_or xs i d) → set xs i x ≡ at_client client f xs
changed_at client f [] i x d l is before e = absurd (omega arith)
changed_at client f (y ∷ ys) zero x d l is before e = rw is (ap (λ (q : NodeEnds). q ∷ ys) e)
changed_at client f (y ∷ ys) (suc i) x d l is before e =
    let first : is_of client y ≡ false = before 0 (omega arith) in
    rw first (ap (λ (l : List NodeEnds). y ∷ l) (changed_at client f ys i x d (omega arith) is (λ k less. before (suc k) (omega arith)) e))

found_at : (client : ClientNo) (xs : List NodeEnds) (i : ℕ) (d : NodeEnds) → i < length xs → is_of client (get_or xs i d) ≡ true
    → ((k : ℕ) → k < i → is_of client (get_or xs k d) ≡ false) → ends_of client xs ≡ Some (get_or xs i d)
found_at client [] i d l is before = absurd (omega arith)
found_at client (y ∷ ys) zero d l is before = rw is refl
found_at client (y ∷ ys) (suc i) d l is before =
    let first : is_of client y ≡ false = before 0 (omega arith) in
    rw first (found_at client ys i d (omega arith) is (λ k less. before (suc k) (omega arith)))

none_below : (a b : ℕ) → cond (nat_lt a b) (Some a) None ≡ None → b ≤ a
none_below a b h = grind (arith, nat_tests)

none_found : (client : ClientNo) (f : NodeEnds → NodeEnds) (xs : List NodeEnds) → length xs ≤ position_or_len (is_of client) xs
    → (xs ≡ at_client client f xs) × (ends_of client xs ≡ None)
none_found client f [] long = (refl, refl)
none_found client f (y ∷ ys) long = by (is_of client y) refl (none_found client f ys) long
  where
    by : (b : Bool) → is_of client y ≡ b → (length ys ≤ position_or_len (is_of client) ys → (ys ≡ at_client client f ys) × (ends_of client ys ≡ None))
        → suc (length ys) ≤ cond (not b) (1 + position_or_len (is_of client) ys) 0 → (y ∷ ys ≡ at_client client f (y ∷ ys)) × (ends_of client (y ∷ ys) ≡ None)
    by true is more l = absurd (omega arith)
    by false is more l = let rest = more (omega arith) in (rw is (ap (λ (l : List NodeEnds). y ∷ l) rest.0), rw is rest.1)

-- at the place where they stand they are changed, and there they are found
pub change_at : (client : ClientNo) (f : NodeEnds → NodeEnds) (xs : List NodeEnds) (i : ℕ) (x d : NodeEnds) → position (is_of client) xs ≡ Some i
    → x ≡ f (get_or xs i d) → set xs i x ≡ at_client client f xs
change_at client f xs i x d at e = let found = position-Some (is_of client) xs i d at in changed_at client f xs i x d found.0 found.1 found.2 e

pub find_at_place : (client : ClientNo) (xs : List NodeEnds) (i : ℕ) (d : NodeEnds) → position (is_of client) xs ≡ Some i → ends_of client xs ≡ Some (get_or xs i d)
find_at_place client xs i d at = let found = position-Some (is_of client) xs i d at in found_at client xs i d found.0 found.1 found.2

-- where they have no place nothing is changed, and none are found
pub change_none : (client : ClientNo) (f : NodeEnds → NodeEnds) (xs : List NodeEnds) → position (is_of client) xs ≡ None → xs ≡ at_client client f xs
change_none client f xs h = (none_found client f xs (none_below (position_or_len (is_of client) xs) (length xs) h)).0

pub find_none : (client : ClientNo) (xs : List NodeEnds) → position (is_of client) xs ≡ None → ends_of client xs ≡ None
find_none client xs h = (none_found client (λ end. end) xs (none_below (position_or_len (is_of client) xs) (length xs) h)).1

-- what is written back as it was changes nothing
pub unchanged_at : (xs : List NodeEnds) (i : ℕ) (x d : NodeEnds) → x ≡ get_or xs i d → set xs i x ≡ xs
unchanged_at [] i x d e = refl
unchanged_at (y ∷ ys) zero x d e = ap (λ (q : NodeEnds). q ∷ ys) e
unchanged_at (y ∷ ys) (suc i) x d e = ap (λ (l : List NodeEnds). y ∷ l) (unchanged_at ys i x d e)

pub on_err : {T E A B : Type 0} (result : Result T E) → OnErr result A → (A → B) → OnErr result B
on_err (Ok t) a f = a
on_err (Err e) a f = f a

pub on_ok : {T E A B : Type 0} (result : Result T E) → OnOk result A → (A → B) → OnOk result B
on_ok (Ok t) a f = f a
on_ok (Err e) a f = a

-- ---- carrying

pub carried_in_at : (client : ClientNo) (from_old from_new : FeedValue ScriptLine) (xs : List NodeEnds) (i : ℕ) (x d : NodeEnds) (draw : DrawValue ScriptLine)
    (answer : Result ℕ NoMemory) → position (is_of client) xs ≡ Some i → x ≡ with_commands draw (get_or xs i d)
    → GoesOn from_old from_new (get_or xs i d).commands draw answer → CarriesIn client from_old from_new xs (set xs i x) answer (ends_of client xs)
carried_in_at client from_old from_new xs i x d draw answer at is goes =
    subst (λ (o : Option NodeEnds). CarriesIn client from_old from_new xs (set xs i x) answer o) (sym (find_at_place client xs i d at))
    (draw, (change_at client (with_commands draw) xs i x d at is, goes))

pub carried_in_none : (client : ClientNo) (from : FeedValue ScriptLine) (xs : List NodeEnds) → position (is_of client) xs ≡ None
    → CarriesIn client from from xs xs (Ok 0) (ends_of client xs)
carried_in_none client from xs none =
    subst (λ (o : Option NodeEnds). CarriesIn client from from xs xs (Ok 0) o) (sym (find_none client xs none)) (refl, (refl, refl))

pub carried_out_at : (client : ClientNo) (to_old to_new : DrawValue LineAnswer) (xs : List NodeEnds) (i : ℕ) (x d : NodeEnds) (feed : FeedValue LineAnswer)
    (answer : Result ℕ NoMemory) → position (is_of client) xs ≡ Some i → x ≡ with_answers feed (get_or xs i d)
    → GoesOn (get_or xs i d).answers feed to_old to_new answer → CarriesOut client to_old to_new xs (set xs i x) answer (ends_of client xs)
carried_out_at client to_old to_new xs i x d feed answer at is goes =
    subst (λ (o : Option NodeEnds). CarriesOut client to_old to_new xs (set xs i x) answer o) (sym (find_at_place client xs i d at))
    (feed, (change_at client (with_answers feed) xs i x d at is, goes))

pub carried_out_none : (client : ClientNo) (to : DrawValue LineAnswer) (xs : List NodeEnds) → position (is_of client) xs ≡ None
    → CarriesOut client to to xs xs (Ok 0) (ends_of client xs)
carried_out_none client to xs none =
    subst (λ (o : Option NodeEnds). CarriesOut client to to xs xs (Ok 0) o) (sym (find_none client xs none)) (refl, (refl, refl))
