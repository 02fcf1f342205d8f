-- Facts about the transactions that were begun under labels.
use Rattle.std.proofs.Common.{◌≡◌, ℕ, Bool, true, false, cond, ◌||◌, List, [], ◌∷◌, ◌++◌, Option, Some, None, Result, Ok, Err, refl, sym, ◌∙◌, ap}
use Rattle.std.specs.Option.{is_some}
use Rattle.std.specs.Cmp.Lexicographic.{texts_ties}
use Rattle.std.specs.BTreeMap.{is_at}
use Rattle.qs_base.specs.Order.{bytes_cmp, same_bytes}
use Rattle.qs_base.proofs.Same.{same_bytes-true}
use Rattle.qs_base.specs.declared.identifiers.Tid.{Tid}
use Rattle.std.specs.Prelude.{OnOk}
use Rattle.std.proofs.lemmas.List.Folds.{list_any-append}
use Rattle.qs_book_journal.specs.declared.entry.Entry.{Entry}
use Rattle.qs_text_history.specs.Begun.{or_else, begun_with, begun_as, begins_by, begins, first_begun, is_begun}
use Rattle.qs_text_history.specs.Inner.Begun.{BegunValue, label_in, tid_in}
use Rattle.qs_text_history.specs.Inner.Reader.{Knows}

or_none : (tid : Option Tid) → tid ≡ or_else tid None
or_none (Some tid) = refl
or_none None = refl

none_of : (tid : Option Tid) → is_some tid ≡ false → tid ≡ None
none_of None e = refl
none_of (Some tid) e = cc

label_put : (f : List ℕ → Option Tid) (label other : List ℕ) (tid : Tid) (b : Bool) → same_bytes label other ≡ b → is_some (f label) ≡ false
    → cond b (Some tid) (f other) ≡ or_else (f other) (cond b (Some tid) None)
label_put f label other tid true same free =
    let none : f other ≡ None = ap f (sym (same_bytes-true label other same)) ∙ none_of (f label) free in
    rw none refl
label_put f label other tid false same free = or_none (f other)

-- a label that was put stands for its transaction, unless it stood for one
pub label_added : (f : List ℕ → Option Tid) (label key other : List ℕ) (tid : Tid) (new : Option Tid) → key ≡ label → false ≡ is_some (f label)
    → new ≡ cond (is_at (bytes_cmp key) other) (Some tid) (f other) → new ≡ or_else (f other) (begun_with label tid other)
label_added f label key other tid new is free e =
    let test : is_at (bytes_cmp key) other ≡ same_bytes label other = rw is (sym (texts_ties label other)) in
    e ∙ (rw test (label_put f label other tid (same_bytes label other) refl (sym free)))

-- ---- one more entry

or_else_assoc : (a b c : Option Tid) → or_else a (or_else b c) ≡ or_else (or_else a b) c
or_else_assoc (Some tid) b c = refl
or_else_assoc None b c = refl

first_more : (label : List ℕ) (entries : List Entry) (entry : Entry) → first_begun label (entries ++ entry ∷ []) ≡ or_else (first_begun label entries) (begun_as label entry.act)
first_more label [] entry = sym (or_none (begun_as label entry.act))
first_more label (first ∷ entries) entry =
    ap (or_else (begun_as label first.act)) (first_more label entries entry) ∙ or_else_assoc (begun_as label first.act) (first_begun label entries) (begun_as label entry.act)

or_false : (a b : Bool) → (a || (b || false)) ≡ (a || b)
or_false true b = refl
or_false false true = refl
or_false false false = refl

is_more : (tid : Tid) (entries : List Entry) (entry : Entry) → is_begun tid (entries ++ entry ∷ []) ≡ (is_begun tid entries || begins_by tid entry.act)
is_more tid entries entry = list_any-append (begins tid) entries (entry ∷ []) ∙ or_false (is_begun tid entries) (begins_by tid entry.act)

pub knows_more : (old new : BegunValue) (entries : List Entry) (entry : Entry) → Knows old entries
    → ((label : List ℕ) → label_in new label ≡ or_else (label_in old label) (begun_as label entry.act))
    → ((tid : Tid) → tid_in new tid ≡ (tid_in old tid || begins_by tid entry.act)) → Knows new (entries ++ entry ∷ [])
knows_more old new entries entry knows labels tids = record {
  labels = λ label. labels label ∙ (ap (λ t. or_else t (begun_as label entry.act)) (knows.labels label) ∙ sym (first_more label entries entry));
  tids = λ tid. tids tid ∙ (ap (λ b. b || begins_by tid entry.act) (knows.tids tid) ∙ sym (is_more tid entries entry));
}

pub ok_knows : {T E : Type 0} (result : Result T E) (begun : BegunValue) (new entries : List Entry) → OnOk result (new ≡ entries) → Knows begun entries → OnOk result (Knows begun new)
ok_knows (Ok value) begun new entries is knows = rw is knows
ok_knows (Err failed) begun new entries is knows = tt
