-- Who keeps a transaction from an operation.
use Rattle.std.proofs.Common.{◌≡◌, ℕ, List, [], ◌∷◌, Option, Some, None, refl, sym, ap, ◌∙◌}
use Rattle.std.specs.Prelude.{Bool, true, false, not, ◌&&◌, ◌||◌, is_none, if◌then◌else◌}
use Rattle.std.specs.List.{fold, list_any}
use Rattle.std.specs.List.Sorted.{IsStrictlySortedBy}
use Rattle.std.specs.Map.{keys_of}
use Rattle.qs_base.specs.Order.{tid_cmp, same_tid}
use Rattle.qs_base.specs.declared.identifiers.Tid.{Tid}
use Rattle.qs_ops.specs.declared.operation.Op.{Op}
use Rattle.qs_ops.specs.declared.operation.Op.TheVariants.{Put, Append, Del, Bind, Window, Keep}
use Rattle.qs_ops.specs.declared.share.Share.{Share}
use Rattle.qs_ops.specs.Table.{is_change_of, nothing_held, changes_name, reads_name, least_other}
use Rattle.qs_ops_shares.specs.Shares.{share_in}
use Rattle.qs_ops_shelf.specs.Changed.{changed_at, text_by}
use Rattle.qs_files_contents.specs.Edits.{no_edit, is_no_edit, seen_by}
use Rattle.qs_files_contents.specs.Slots.{Entries, slot_or_new, edit_at, first_other, is_edit, is_read}
use Rattle.qs_files_contents.specs.Texts.{Pieces}
use Rattle.qs_files.specs.Held.{Follows}
use Rattle.qs_files.proofs.Following.{unchanged}
use Rattle.qs_files.proofs.Holders.{first-same}

-- where nothing is under a name, nothing is there in the other case
abbrev Agree : Option (List ℕ) → Option (List ℕ) → Type 0
Agree a b = a ≡ None → b ≡ None

made : (q : List ℕ) (op : Op) (a b : Option (List ℕ)) → is_change_of q op ≡ true → Agree (text_by a op) (text_by b op)
made q (Put name text) a b is = λ e. absurd (cc)
made q (Append name text) a b is = λ e. absurd (cc)
made q (Del name) a b is = λ e. refl
made q (Bind name text) a b is = λ e. absurd (cc)
made q (Window name text) a b is = λ e. absurd (cc)
made q (Keep name text) a b is = λ e. absurd (cc)
made q op a b is = absurd (cc)

stepped : (q : List ℕ) (op : Op) (a b : Option (List ℕ)) → Agree a b → Agree (changed_at q a op) (changed_at q b op)
stepped q op a b before =
    (elim (is_change_of q op) as (λ c. is_change_of q op ≡ c → Agree (if c then text_by a op else a) (if c then text_by b op else b)) [
      | true ↦ λ is. made q op a b is
      | false ↦ λ is. before
    ]) refl

agreed : (q : List ℕ) (ops : List Op) (a b : Option (List ℕ)) → Agree a b → Agree (fold (changed_at q) a ops) (fold (changed_at q) b ops)
agreed q [] a b before = before
agreed q (op ∷ ops) a b before = agreed q ops (changed_at q a op) (changed_at q b op) (stepped q op a b before)

settled : (q : List ℕ) (ops : List Op) (a b : Option (List ℕ)) → list_any (is_change_of q) ops ≡ true → Agree (fold (changed_at q) a ops) (fold (changed_at q) b ops)
settled q [] a b some = absurd (cc)
settled q (op ∷ ops) a b some =
    (elim (is_change_of q op) as (λ c. is_change_of q op ≡ c → c || list_any (is_change_of q) ops ≡ true → Agree (fold (changed_at q) (if c then text_by a op else a) ops) (fold (changed_at q) (if c then text_by b op else b) ops)) [
      | true ↦ λ is any. agreed q ops (text_by a op) (text_by b op) (made q op a b is)
      | false ↦ λ is any. settled q ops a b any
    ]) refl some

-- ---- an edit that leaves every text is none

leaves : (r : Bool) (t : Option Pieces) → seen_by (record { replaces = r; text = t }) None ≡ None → seen_by (record { replaces = r; text = t }) (Some []) ≡ Some [] → (not r && is_none t) ≡ true
leaves false None none some = refl
leaves true None none some = absurd (cc)
leaves true (Some t) none some = absurd (cc)
leaves false (Some t) none some = absurd (cc)

-- and no edit leaves every text
left : (r : Bool) (t : Option Pieces) → (not r && is_none t) ≡ true → (before : Option (List ℕ)) → seen_by (record { replaces = r; text = t }) before ≡ before
left false None is None = refl
left false None is (Some x) = refl
left false (Some t) is before = absurd (cc)
left true t is before = absurd (cc)

module _ (es : Entries) (shares : List (Tid × Share)) (n : ℕ) (f : Follows es shares n) (q : List ℕ) where
  changer : (t : Tid) → is_edit (edit_at (slot_or_new es q).edits t) ≡ changes_name q (share_in shares t)
  changer t = by (list_any (is_change_of q) (share_in shares t).changes) refl
    where
      found : (b : Bool) → is_no_edit (edit_at (slot_or_new es q).edits t) ≡ b → list_any (is_change_of q) (share_in shares t).changes ≡ true → not b ≡ true
      found false is any = refl
      found true is any =
          let gone : fold (changed_at q) None (share_in shares t).changes ≡ None = f.texts t q None ∙ left (edit_at (slot_or_new es q).edits t).replaces (edit_at (slot_or_new es q).edits t).text is None in
          let there : fold (changed_at q) (Some []) (share_in shares t).changes ≡ Some [] = f.texts t q (Some []) ∙ left (edit_at (slot_or_new es q).edits t).replaces (edit_at (slot_or_new es q).edits t).text is (Some []) in
          let bad : Some [] ≡ None = sym there ∙ settled q (share_in shares t).changes None (Some []) any gone in
          absurd (cc)

      by : (b : Bool) → list_any (is_change_of q) (share_in shares t).changes ≡ b → is_edit (edit_at (slot_or_new es q).edits t) ≡ b
      by true any = found (is_no_edit (edit_at (slot_or_new es q).edits t)) refl any
      by false any = ap (λ (b : Bool). not b) (leaves (edit_at (slot_or_new es q).edits t).replaces (edit_at (slot_or_new es q).edits t).text (sym (f.texts t q None) ∙ unchanged (share_in shares t).changes q None any) (sym (f.texts t q (Some [])) ∙ unchanged (share_in shares t).changes q (Some []) any))

  least-first : (test : Share → Bool) (me : Tid) (ss : List (Tid × Share)) → first_other test me ss ≡ least_other test me ss
  least-first test me [] = refl
  least-first test me (s ∷ ss) = ap (λ (o : Option Tid). if not (same_tid me s.0) && test s.1 then Some s.0 else o) (least-first test me ss)

  pub least-changer : IsStrictlySortedBy tid_cmp (keys_of shares) → (me : Tid) → first_other is_edit me (slot_or_new es q).edits ≡ least_other (changes_name q) me shares
  least-changer sorted me =
      first-same is_edit no_edit (slot_or_new es q).edits (changes_name q) nothing_held shares refl refl (f.changers q) sorted changer me
      ∙ least-first (changes_name q) me shares

  pub least-reader : IsStrictlySortedBy tid_cmp (keys_of shares) → (me : Tid) → first_other is_read me (slot_or_new es q).readers ≡ least_other (reads_name q) me shares
  least-reader sorted me =
      first-same is_read false (slot_or_new es q).readers (reads_name q) nothing_held shares refl refl (f.readers q) sorted (λ t. f.reads t q) me
      ∙ least-first (reads_name q) me shares
