-- Operations have one spelling each.
use Rattle.std.proofs.Common.{◌≡◌, ℕ, ◌^◌, Bool, true, false, cond, List, [], ◌∷◌, Option, Some, refl, sym, ◌∙◌, ap, arith}
use Rattle.std.specs.Prelude.{decimal, codes}
use Rattle.std.specs.List.{list_all}
use Rattle.qs_base.specs.Order.{same_bytes}
use Rattle.qs_base.proofs.Same.{same_bytes-true}
use Rattle.qs_ops.specs.declared.operation.Op.{Op}
use Rattle.qs_ops.specs.declared.operation.Op.TheVariants.{Put, Append, Del, Get, Listing, Note, Notes, Bind, Find, Timer, Left, Window, Title, Keep, Fetch, Lend, Extra}
use Rattle.qs_text_script.specs.Journal.{op_words}
use Rattle.qs_text_history.specs.Inner.Operations.{op_of, bare_op, named_op, text_op, op_on, op_with, lend_of, timer_of, extra_of}
use Rattle.qs_text_history.specs.Spelled.{IsOp}
use Rattle.qs_text_history.specs.Words.{is_word}
use Rattle.qs_text_history.proofs.IdentifierLemmas.{chosen}
use Rattle.qs_text_history.proofs.MarkLemmas.{both, decimal_word}
use Rattle.qs_text_history.proofs.NumberLemmas.{number_read}
use Rattle.qs_text_history.proofs.ReadingLemmas.{by_below}

-- ---- what is printed is read

pub op_read : (op : Op) → IsOp op → op_of (op_words op) ≡ Some op
unfolding op_of
op_read (Put name text) is = refl
op_read (Append name text) is = refl
op_read (Del name) is = refl
op_read (Get name) is = refl
op_read Listing is = refl
op_read (Note text) is = refl
op_read Notes is = refl
op_read (Bind name text) is = refl
op_read (Find name) is = refl
op_read (Timer name ticks) is = rw (number_read (2 ^ 32) ticks (omega arith) is.1) refl
op_read (Left name) is = refl
op_read (Window name text) is = refl
op_read (Title name) is = refl
op_read (Keep name text) is = refl
op_read (Fetch name) is = refl
op_read (Lend client) is = rw (number_read 256 client.0 (omega arith) is) refl
op_read (Extra code text) is = rw (number_read (2 ^ 32) code (omega arith) is.0) refl

two_words : (name text : List ℕ) → is_word name ≡ true → is_word text ≡ true → list_all is_word (name ∷ text ∷ []) ≡ true
two_words name text n t = rw (n, t) refl

pub op_good : (op : Op) → IsOp op → list_all is_word (op_words op) ≡ true
op_good (Put name text) is = two_words name text is.0 is.1
op_good (Append name text) is = two_words name text is.0 is.1
op_good (Del name) is = rw is refl
op_good (Get name) is = rw is refl
op_good Listing is = refl
op_good (Note text) is = rw is refl
op_good Notes is = refl
op_good (Bind name text) is = two_words name text is.0 is.1
op_good (Find name) is = rw is refl
op_good (Timer name ticks) is = two_words name (decimal ticks) is.0 (decimal_word ticks (omega (arith, is.1)))
op_good (Left name) is = rw is refl
op_good (Window name text) is = two_words name text is.0 is.1
op_good (Title name) is = rw is refl
op_good (Keep name text) is = two_words name text is.0 is.1
op_good (Fetch name) is = rw is refl
op_good (Lend client) is = rw (decimal_word client.0 (omega (arith, is))) refl
op_good (Extra code text) is = two_words (decimal code) text (decimal_word code (omega (arith, is.0))) is.1

-- ---- what is read was printed

abbrev Spells : List (List ℕ) → Op → Type 0
Spells words op = IsOp op × (words ≡ op_words op)

with_word : (word text : List ℕ) (rest : List (List ℕ)) (op : Op) → IsOp op → op_words op ≡ text ∷ rest → same_bytes word text ≡ true → Spells (word ∷ rest) op
with_word word text rest op is e t = (is, ap (λ w. w ∷ rest) (same_bytes-true word text t) ∙ sym e)

bare_back : (word : List ℕ) (op : Op) → bare_op word ≡ Some op → Spells (word ∷ []) op
bare_back word op e =
    let P = Spells (word ∷ []) in
    chosen P _ Listing _ op (with_word word (codes "list") [] Listing tt refl)
    (chosen P _ Notes _ op (with_word word (codes "notes") [] Notes tt refl) (λ none. cc)) e

on_back : (word name : List ℕ) (op : Op) → is_word name ≡ true → op_on word name ≡ Some op → Spells (word ∷ name ∷ []) op
on_back word name op n e =
    let P = Spells (word ∷ name ∷ []) in
    chosen P _ (Del name) _ op (with_word word (codes "del") (name ∷ []) (Del name) n refl)
    (chosen P _ (Get name) _ op (with_word word (codes "get") (name ∷ []) (Get name) n refl)
    (chosen P _ (Note name) _ op (with_word word (codes "note") (name ∷ []) (Note name) n refl)
    (chosen P _ (Find name) _ op (with_word word (codes "find") (name ∷ []) (Find name) n refl)
    (chosen P _ (Left name) _ op (with_word word (codes "left") (name ∷ []) (Left name) n refl)
    (chosen P _ (Title name) _ op (with_word word (codes "title") (name ∷ []) (Title name) n refl)
    (chosen P _ (Fetch name) _ op (with_word word (codes "fetch") (name ∷ []) (Fetch name) n refl) (λ none. cc))))))) e

-- the first test of a row that passes leads to a reading
pub led : {A : Type 0} (P : A → Type 0) (test : Bool) (this others : Option A) (found : A) → (test ≡ true → this ≡ Some found → P found) → (others ≡ Some found → P found)
    → cond test this others ≡ Some found → P found
led P true this others found here later e = here refl e
led P false this others found here later e = later e

lend_back : (word client : List ℕ) (op : Op) → same_bytes word (codes "lend") ≡ true → lend_of client ≡ Some op → Spells (word ∷ client ∷ []) op
lend_back word client op t e =
    by_below 256 (Spells (word ∷ client ∷ [])) (λ number. Lend (record { 0 = number })) client op
    (λ m small is. with_word word (codes "lend") (client ∷ []) (Lend (record { 0 = m })) small (ap (λ w. codes "lend" ∷ w ∷ []) (sym is)) t) e

named_back : (word name : List ℕ) (op : Op) → is_word name ≡ true → named_op word name ≡ Some op → Spells (word ∷ name ∷ []) op
named_back word name op n e =
    led (Spells (word ∷ name ∷ [])) (same_bytes word (codes "lend")) (lend_of name) (op_on word name) op (lend_back word name op) (on_back word name op n) e

with_back : (word name text : List ℕ) (op : Op) → is_word name ≡ true → is_word text ≡ true → op_with word name text ≡ Some op → Spells (word ∷ name ∷ text ∷ []) op
with_back word name text op n t e =
    let P = Spells (word ∷ name ∷ text ∷ []) in
    let rest = name ∷ text ∷ [] in
    chosen P _ (Put name text) _ op (with_word word (codes "put") rest (Put name text) (n, t) refl)
    (chosen P _ (Append name text) _ op (with_word word (codes "append") rest (Append name text) (n, t) refl)
    (chosen P _ (Bind name text) _ op (with_word word (codes "bind") rest (Bind name text) (n, t) refl)
    (chosen P _ (Window name text) _ op (with_word word (codes "window") rest (Window name text) (n, t) refl)
    (chosen P _ (Keep name text) _ op (with_word word (codes "keep") rest (Keep name text) (n, t) refl) (λ none. cc))))) e

timer_back : (word name ticks : List ℕ) (op : Op) → is_word name ≡ true → same_bytes word (codes "timer") ≡ true → timer_of name ticks ≡ Some op → Spells (word ∷ name ∷ ticks ∷ []) op
timer_back word name ticks op w t e =
    by_below (2 ^ 32) (Spells (word ∷ name ∷ ticks ∷ [])) (λ number. Timer name number) ticks op
    (λ m small is. with_word word (codes "timer") (name ∷ ticks ∷ []) (Timer name m) (w, small) (ap (λ x. codes "timer" ∷ name ∷ x ∷ []) (sym is)) t) e

extra_back : (word code text : List ℕ) (op : Op) → is_word text ≡ true → same_bytes word (codes "extra") ≡ true → extra_of code text ≡ Some op → Spells (word ∷ code ∷ text ∷ []) op
extra_back word code text op w t e =
    by_below (2 ^ 32) (Spells (word ∷ code ∷ text ∷ [])) (λ number. Extra number text) code op
    (λ m small is. with_word word (codes "extra") (code ∷ text ∷ []) (Extra m text) (small, w) (ap (λ x. codes "extra" ∷ x ∷ text ∷ []) (sym is)) t) e

text_back : (word name text : List ℕ) (op : Op) → is_word name ≡ true → is_word text ≡ true → text_op word name text ≡ Some op → Spells (word ∷ name ∷ text ∷ []) op
text_back word name text op n t e =
    let P = Spells (word ∷ name ∷ text ∷ []) in
    led P (same_bytes word (codes "timer")) (timer_of name text) _ op (timer_back word name text op n)
    (led P (same_bytes word (codes "extra")) (extra_of name text) (op_with word name text) op (extra_back word name text op t) (with_back word name text op n t)) e

pub op_back : (words : List (List ℕ)) (op : Op) → list_all is_word words ≡ true → op_of words ≡ Some op → IsOp op × (words ≡ op_words op)
unfolding op_of
op_back [] op good e = cc
op_back (word ∷ []) op good e = bare_back word op e
op_back (word ∷ name ∷ []) op good e =
    let g = both (is_word word) (list_all is_word (name ∷ [])) good in
    let h = both (is_word name) true g.1 in
    named_back word name op h.0 e
op_back (word ∷ name ∷ text ∷ []) op good e =
    let g = both (is_word word) (list_all is_word (name ∷ text ∷ [])) good in
    let h = both (is_word name) (list_all is_word (text ∷ [])) g.1 in
    let k = both (is_word text) true h.1 in
    text_back word name text op h.0 k.0 e
op_back (word ∷ name ∷ text ∷ more ∷ rest) op good e = cc
