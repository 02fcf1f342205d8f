-- What stands under names follows what the transactions hold, once an operation read a file.
use Rattle.std.proofs.Common.{◌≡◌, ℕ, List, [], ◌∷◌, ◌++◌, length, Option, refl, sym, ap, ◌∙◌, subst, arith}
use Rattle.std.specs.Prelude.{Bool, true, false, ◌||◌, if◌then◌else◌}
use Rattle.std.specs.List.{fold, list_any}
use Rattle.std.specs.List.Sorted.{IsStrictlySortedBy}
use Rattle.std.specs.Map.{keys_of}
use Rattle.std.specs.BTreeMap.{is_at}
use Rattle.std.specs.Cmp.Lexicographic.{nat_list_eq_equiv}
use Rattle.qs_base.specs.Order.{tid_cmp, same_bytes, same_tid}
use Rattle.qs_base.specs.declared.identifiers.Tid.{Tid}
use Rattle.qs_base.proofs.Same.{same_bytes-true, same_tid-self}
use Rattle.qs_base.proofs.TidOrder.{tid_total, tid_exact, or-true, or-false}
use Rattle.qs_ops.specs.Table.{reads_name}
use Rattle.qs_ops.specs.declared.operation.Op.{Op}
use Rattle.qs_ops.specs.declared.share.Share.{Share}
use Rattle.qs_ops_shares.specs.Shares.{share_in, IsHeld}
use Rattle.qs_ops_shelf.specs.Changed.{changed_at}
use Rattle.qs_files_contents.specs.Edits.{seen_by}
use Rattle.qs_files_contents.specs.Slots.{Entries, slot_or_new, edit_at, reader_at, slot_read, slot_unread, at_slot, put_slot, unread_name}
use Rattle.qs_files_contents.specs.Texts.{Pieces, piece_count}
use Rattle.qs_files_contents.specs.declared.edit.Edit.{Edit}
use Rattle.qs_files_contents.specs.declared.slot.FileText.{FileText}
use Rattle.qs_files_contents.proofs.Folds.{AreSorted, sorted-unread}
use Rattle.qs_files_contents.proofs.Maps.{sorted-put, sorted-out}
use Rattle.qs_files_contents.proofs.Named.{slot-put, slot-at, slot-swept, sorted-put_slot, sorted-at_slot}
use Rattle.qs_files_contents.proofs.Steps.{reader-read, reader-unread}
use Rattle.qs_files.specs.Held.{Follows}
use Rattle.qs_files.proofs.Following.{IsNow, follows-now}
use Rattle.qs_files.proofs.Serving.{held-same}

-- ---- reads

any-snoc : {X : Type 0} (test : X → Bool) (xs : List X) (x : X) → list_any test (xs ++ x ∷ []) ≡ (list_any test xs || test x)
any-snoc test [] x = or-false (test x)
any-snoc test (y ∷ xs) x = elim (test y) as (λ b. b || list_any test (xs ++ x ∷ []) ≡ ((b || list_any test xs) || test x)) [ true ↦ refl | false ↦ any-snoc test xs x ]

-- a step at one name that leaves text and edits
pub record IsReader (tid : Tid) (reads : Bool → Bool) (old new : FileText) : Type 0 where
  pub text : new.text ≡ old.text
  pub edits : new.edits ≡ old.edits
  pub reader : reader_at new.readers tid ≡ reads (reader_at old.readers tid)
  pub others : (t : Tid) → same_tid tid t ≡ false → reader_at new.readers t ≡ reader_at old.readers t
  pub sorted : IsStrictlySortedBy tid_cmp (keys_of new.readers)

pub reader_read : (tid : Tid) (slot : FileText) → IsStrictlySortedBy tid_cmp (keys_of slot.readers) → IsReader tid (λ b. true) slot (slot_read tid slot)
reader_read tid slot sorted = record {
  text = refl;
  edits = refl;
  reader = reader-read tid tid slot ∙ ap (λ (b : Bool). if b then true else reader_at slot.readers tid) (same_tid-self tid);
  others = λ t apart. reader-read tid t slot ∙ ap (λ (b : Bool). if b then true else reader_at slot.readers t) apart;
  sorted = sorted-put tid_total tid_exact slot.readers tid true sorted;
}

pub reader_unread : (tid : Tid) (slot : FileText) → IsStrictlySortedBy tid_cmp (keys_of slot.readers) → IsReader tid (λ b. false) slot (slot_unread tid slot)
reader_unread tid slot sorted = record {
  text = refl;
  edits = refl;
  reader = reader-unread tid tid slot sorted ∙ ap (λ (b : Bool). if b then false else reader_at slot.readers tid) (same_tid-self tid);
  others = λ t apart. reader-unread tid t slot sorted ∙ ap (λ (b : Bool). if b then false else reader_at slot.readers t) apart;
  sorted = sorted-out tid_total tid_exact slot.readers (is_at (tid_cmp tid)) sorted;
}

pub reader_same : (tid : Tid) (slot : FileText) → IsStrictlySortedBy tid_cmp (keys_of slot.readers) → IsReader tid (λ b. b) slot slot
reader_same tid slot sorted = record { text = refl; edits = refl; reader = refl; others = λ t apart. refl; sorted = sorted }

pub now-read : (es new : Entries) (shares : List (Tid × Share)) (tid : Tid) (share : Share) (n : ℕ) → Follows es shares n → AreSorted new
    → ((q : List ℕ) → (reads : Bool → Bool) × IsReader tid reads (slot_or_new es q) (slot_or_new new q) × (reads (reader_at (slot_or_new es q).readers tid) ≡ reads_name q share))
    → share.changes ≡ (share_in shares tid).changes → IsNow es new tid share n
now-read es new shares tid share n f sorted at changes = record {
  names = sorted;
  changers = λ q. subst (λ (xs : List (Tid × Edit)). IsStrictlySortedBy tid_cmp (keys_of xs)) (sym (at q).1.edits) (f.changers q);
  readers = λ q. (at q).1.sorted;
  edits = λ q t apart. ap (λ (xs : List (Tid × Edit)). edit_at xs t) (at q).1.edits;
  others = λ q t apart. (at q).1.others t apart;
  texts = λ q before. ap (λ (ops : List Op). fold (changed_at q) before ops) changes ∙ f.texts tid q before ∙ ap (λ (xs : List (Tid × Edit)). seen_by (edit_at xs tid) before) (sym (at q).1.edits);
  reads = λ q. (at q).1.reader ∙ (at q).2;
  added = λ q.
      let one = ap (λ (xs : List (Tid × Edit)). piece_count (edit_at xs tid).text) (at q).1.edits in
      let two = ap (λ (ops : List Op). length ops) changes in
      omega (arith, f.added tid q, one, two);
  pieces = λ q.
      let one = ap (λ (t : Option Pieces). piece_count t) (at q).1.text in
      omega (arith, f.pieces q, one);
}

-- one name more that was read
pub read_more : (q name : List ℕ) (names : List (List ℕ)) (b : Bool) → same_bytes name q ≡ b → (if b then true else list_any (same_bytes q) names) ≡ list_any (same_bytes q) (names ++ name ∷ [])
read_more q name names b e =
    by b
    ∙ ap (λ (c : Bool). list_any (same_bytes q) names || c) (sym (nat_list_eq_equiv.symm q name ∙ e))
    ∙ sym (any-snoc (same_bytes q) names name)
  where
    by : (c : Bool) → (if c then true else list_any (same_bytes q) names) ≡ (list_any (same_bytes q) names || c)
    by true = sym (or-true (list_any (same_bytes q) names))
    by false = sym (or-false (list_any (same_bytes q) names))

-- ---- an operation that read the text under a name

module _ (es new : Entries) (shares : List (Tid × Share)) (tid : Tid) (n : ℕ) (name : List ℕ) (f : Follows es shares n) (is : new ≡ put_slot (slot_read tid) name es) where
  abbrev read_here : List ℕ → Bool → Bool
  read_here q x = if same_bytes name q then true else x

  read_at : (q : List ℕ) → IsReader tid (read_here q) (slot_or_new es q) (slot_or_new new q)
  read_at q =
      subst (λ (s : FileText). IsReader tid (read_here q) (slot_or_new es q) s) (sym (ap (λ (x : Entries). slot_or_new x q) is ∙ slot-put (slot_read tid) name es q))
      (elim (same_bytes name q) as (λ b. IsReader tid (λ x. if b then true else x) (slot_or_new es q) (if b then slot_read tid (slot_or_new es q) else slot_or_new es q)) [
        | true ↦ reader_read tid (slot_or_new es q) (f.readers q)
        | false ↦ reader_same tid (slot_or_new es q) (f.readers q)
      ])

  pub sorted-read : AreSorted new
  sorted-read = subst (λ (x : Entries). AreSorted x) (sym is) (sorted-put_slot (slot_read tid) name es f.names)

  pub text-read : (q : List ℕ) → (slot_or_new new q).text ≡ (slot_or_new es q).text
  text-read q = (read_at q).text

  pub follows-read : (after : List (Tid × Share)) (share : Share) → IsHeld tid share shares after → share.changes ≡ (share_in shares tid).changes → share.reads ≡ (share_in shares tid).reads ++ name ∷ [] → Follows new after n
  follows-read after share held changes reads =
      follows-now es new shares after tid share n n f held
      (now-read es new shares tid share n f sorted-read
      (λ q. (
        read_here q,
        read_at q,
        ap (λ (x : Bool). read_here q x) (f.reads tid q)
            ∙ read_more q name (share_in shares tid).reads (same_bytes name q) refl
            ∙ ap (λ (names : List (List ℕ)). list_any (same_bytes q) names) (sym reads),
      ))
      changes)

  -- it had read it before
  before_too : (q : List ℕ) (b : Bool) → same_bytes name q ≡ b → reader_at (slot_or_new es name).readers tid ≡ true → (if b then true else reader_at (slot_or_new es q).readers tid) ≡ reads_name q (share_in shares tid)
  before_too q true e before = sym before ∙ ap (λ (m : List ℕ). reader_at (slot_or_new es m).readers tid) (same_bytes-true name q e) ∙ f.reads tid q
  before_too q false e before = f.reads tid q

  pub follows-again : reader_at (slot_or_new es name).readers tid ≡ true → Follows new shares n
  follows-again before =
      follows-now es new shares shares tid (share_in shares tid) n n f (held-same shares tid)
      (now-read es new shares tid (share_in shares tid) n f sorted-read (λ q. (read_here q, read_at q, before_too q (same_bytes name q) refl before)) refl)

  -- the read is taken back
  module _ (last : Entries) (back : last ≡ unread_name tid new name) where
    abbrev unread_here : List ℕ → Bool → Bool
    unread_here q x = if same_bytes name q then false else x

    taken_back : (q : List ℕ) (b : Bool) → IsReader tid (λ x. if b then true else x) (slot_or_new es q) (slot_or_new new q) → IsReader tid (λ x. if b then false else x) (slot_or_new es q) (if b then slot_unread tid (slot_or_new new q) else slot_or_new new q)
    taken_back q true r =
        let u = reader_unread tid (slot_or_new new q) r.sorted in
        record { text = r.text; edits = r.edits; reader = u.reader; others = λ t apart. u.others t apart ∙ r.others t apart; sorted = u.sorted }
    taken_back q false r = r

    back_at : (q : List ℕ) → IsReader tid (unread_here q) (slot_or_new es q) (slot_or_new last q)
    back_at q =
        subst (λ (s : FileText). IsReader tid (unread_here q) (slot_or_new es q) s)
        (sym (ap (λ (x : Entries). slot_or_new x q) back ∙ slot-swept name (at_slot (slot_unread tid) name new) q (sorted-at_slot (slot_unread tid) name new sorted-read) ∙ slot-at (slot_unread tid) name new q refl))
        (taken_back q (same_bytes name q) (read_at q))

    pub sorted-back : AreSorted last
    sorted-back = subst (λ (x : Entries). AreSorted x) (sym back) (sorted-unread tid new name sorted-read)

    pub text-back : (q : List ℕ) → (slot_or_new last q).text ≡ (slot_or_new es q).text
    text-back q = (back_at q).text

    not_before : (q : List ℕ) (b : Bool) → same_bytes name q ≡ b → reader_at (slot_or_new es name).readers tid ≡ false → (if b then false else reader_at (slot_or_new es q).readers tid) ≡ reads_name q (share_in shares tid)
    not_before q true e before = sym before ∙ ap (λ (m : List ℕ). reader_at (slot_or_new es m).readers tid) (same_bytes-true name q e) ∙ f.reads tid q
    not_before q false e before = f.reads tid q

    pub follows-back : reader_at (slot_or_new es name).readers tid ≡ false → Follows last shares n
    follows-back before =
        follows-now es last shares shares tid (share_in shares tid) n n f (held-same shares tid)
        (now-read es last shares tid (share_in shares tid) n f sorted-back (λ q. (unread_here q, back_at q, not_before q (same_bytes name q) refl before)) refl)
