-- What stands under names follows what the transactions hold, whatever is served or ends.
use Rattle.std.proofs.Common.{◌≡◌, ℕ, ◌+◌, ◌≤◌, List, [], ◌∷◌, length, Option, Some, None, refl, sym, ap, ◌∙◌, subst, arith}
use Rattle.std.specs.Prelude.{Bool, true, false, ◌||◌, if◌then◌else◌}
use Rattle.std.specs.List.{fold, list_any}
use Rattle.std.specs.List.Sorted.{IsStrictlySortedBy}
use Rattle.std.specs.Map.{keys_of}
use Rattle.std.specs.Cmp.Lexicographic.{nat_list_eq_equiv}
use Rattle.qs_base.specs.Order.{bytes_cmp, tid_cmp, same_bytes, same_tid}
use Rattle.qs_base.specs.declared.identifiers.Tid.{Tid}
use Rattle.qs_base.proofs.Same.{same_tid-true}
use Rattle.qs_ops.specs.Table.{is_change_of, nothing_held, reads_name}
use Rattle.qs_ops.specs.declared.operation.Op.{Op}
use Rattle.qs_ops.specs.declared.share.Share.{Share}
use Rattle.qs_ops_shares.specs.Shares.{share_in, IsHeld}
use Rattle.qs_ops_shelf.specs.Changed.{changed_at}
use Rattle.qs_files_contents.specs.Edits.{no_edit, seen_by}
use Rattle.qs_files_contents.specs.Slots.{Entries, slot_or_new, edit_at, reader_at, ended}
use Rattle.qs_files_contents.specs.Texts.{Pieces, piece_count}
use Rattle.qs_files_contents.specs.declared.edit.Edit.{Edit}
use Rattle.qs_files_contents.specs.declared.slot.FileText.{FileText}
use Rattle.qs_files_contents.proofs.AtOnce.{done-ends, edit-ends, text-ends}
use Rattle.qs_files_contents.proofs.Ends.{unreads, text_after, IsDone, IsUnread, unread-unreads, reader-unreads}
use Rattle.qs_files_contents.proofs.Folds.{when, on_op}
use Rattle.qs_files_contents.proofs.Pieces.{joined-none}
use Rattle.qs_files.specs.Held.{Follows}
use Rattle.qs_files.proofs.Prepares.{count-edited}

-- ---- the share of one transaction takes the place of another

pub record IsNow (old new : Entries) (tid : Tid) (share : Share) (committed : ℕ) : Type 0 where
  pub names : IsStrictlySortedBy bytes_cmp (keys_of new)
  pub changers : (q : List ℕ) → IsStrictlySortedBy tid_cmp (keys_of (slot_or_new new q).edits)
  pub readers : (q : List ℕ) → IsStrictlySortedBy tid_cmp (keys_of (slot_or_new new q).readers)
  pub edits : (q : List ℕ) (t : Tid) → same_tid tid t ≡ false → edit_at (slot_or_new new q).edits t ≡ edit_at (slot_or_new old q).edits t
  pub others : (q : List ℕ) (t : Tid) → same_tid tid t ≡ false → reader_at (slot_or_new new q).readers t ≡ reader_at (slot_or_new old q).readers t
  pub texts : (q : List ℕ) (before : Option (List ℕ)) → fold (changed_at q) before share.changes ≡ seen_by (edit_at (slot_or_new new q).edits tid) before
  pub reads : (q : List ℕ) → reader_at (slot_or_new new q).readers tid ≡ reads_name q share
  pub added : (q : List ℕ) → piece_count (edit_at (slot_or_new new q).edits tid).text ≤ length share.changes
  pub pieces : (q : List ℕ) → piece_count (slot_or_new new q).text ≤ committed

pub follows-now : (old new : Entries) (shares after : List (Tid × Share)) (tid : Tid) (share : Share) (n m : ℕ) → Follows old shares n → IsHeld tid share shares after → IsNow old new tid share m → Follows new after m
follows-now old new shares after tid share n m f held now = record {
  names = now.names;
  changers = now.changers;
  readers = now.readers;
  texts = λ t q before. by_text t q before (same_tid tid t) refl;
  reads = λ t q. by_read t q (same_tid tid t) refl;
  added = λ t q. by_count t q (same_tid tid t) refl;
  pieces = now.pieces;
}
  where
    is : (t : Tid) (b : Bool) → same_tid tid t ≡ b → share_in after t ≡ (if b then share else share_in shares t)
    is t b e = held t ∙ ap (λ (c : Bool). if c then share else share_in shares t) e

    by_text : (t : Tid) (q : List ℕ) (before : Option (List ℕ)) (b : Bool) → same_tid tid t ≡ b → fold (changed_at q) before (share_in after t).changes ≡ seen_by (edit_at (slot_or_new new q).edits t) before
    by_text t q before true e =
        ap (λ (s : Share). fold (changed_at q) before s.changes) (is t true e) ∙ now.texts q before ∙ ap (λ (s : Tid). seen_by (edit_at (slot_or_new new q).edits s) before) (same_tid-true tid t e)
    by_text t q before false e =
        ap (λ (s : Share). fold (changed_at q) before s.changes) (is t false e) ∙ f.texts t q before ∙ ap (λ (x : Edit). seen_by x before) (sym (now.edits q t e))

    by_read : (t : Tid) (q : List ℕ) (b : Bool) → same_tid tid t ≡ b → reader_at (slot_or_new new q).readers t ≡ reads_name q (share_in after t)
    by_read t q true e =
        ap (λ (s : Tid). reader_at (slot_or_new new q).readers s) (sym (same_tid-true tid t e)) ∙ now.reads q ∙ ap (λ (s : Share). reads_name q s) (sym (is t true e))
    by_read t q false e = now.others q t e ∙ f.reads t q ∙ ap (λ (s : Share). reads_name q s) (sym (is t false e))

    by_count : (t : Tid) (q : List ℕ) (b : Bool) → same_tid tid t ≡ b → piece_count (edit_at (slot_or_new new q).edits t).text ≤ length (share_in after t).changes
    by_count t q true e =
        let one = ap (λ (s : Tid). piece_count (edit_at (slot_or_new new q).edits s).text) (same_tid-true tid t e) in
        let two = ap (λ (s : Share). length s.changes) (is t true e) in
        omega (arith, now.added q, one, two)
    by_count t q false e =
        let one = ap (λ (x : Edit). piece_count x.text) (now.edits q t e) in
        let two = ap (λ (s : Share). length s.changes) (is t false e) in
        omega (arith, f.added t q, one, two)

-- ---- names that were not changed

pub unchanged : (ops : List Op) (q : List ℕ) (before : Option (List ℕ)) → list_any (is_change_of q) ops ≡ false → fold (changed_at q) before ops ≡ before
unchanged [] q before none = refl
unchanged (op ∷ ops) q before none =
    (elim (is_change_of q op) as (λ b. is_change_of q op ≡ b → b || list_any (is_change_of q) ops ≡ false → fold (changed_at q) (changed_at q before op) ops ≡ before) [
      | true ↦ λ e bad. absurd (cc)
      | false ↦ λ e rest. rw e (unchanged ops q before rest)
    ]) refl none

no_pieces : (r : Bool) (t : Option Pieces) → seen_by (record { replaces = r; text = t }) None ≡ None → piece_count t ≡ 0
no_pieces r None is = refl
no_pieces true (Some t) is = absurd (cc)
no_pieces false (Some t) is = absurd (cc)

pub any_name : (q : List ℕ) (names : List (List ℕ)) → list_any (λ x. same_bytes x q) names ≡ list_any (same_bytes q) names
any_name q [] = refl
any_name q (x ∷ names) = ap (λ (b : Bool). b || list_any (λ y. same_bytes y q) names) (nat_list_eq_equiv.symm x q) ∙ ap (λ (b : Bool). same_bytes q x || b) (any_name q names)

-- ---- the end of a transaction, at one name

pub record IsEnded (tid : Tid) (commits : Bool) (changes : List Op) (reads : List (List ℕ)) (q : List ℕ) (old new : FileText) : Type 0 where
  pub text : new.text ≡ (if list_any (is_change_of q) changes then text_after tid commits old else old.text)
  pub edit : edit_at new.edits tid ≡ (if list_any (is_change_of q) changes then no_edit else edit_at old.edits tid)
  pub edits : (t : Tid) → same_tid tid t ≡ false → edit_at new.edits t ≡ edit_at old.edits t
  pub reader : reader_at new.readers tid ≡ (if list_any (same_bytes q) reads then false else reader_at old.readers tid)
  pub others : (t : Tid) → same_tid tid t ≡ false → reader_at new.readers t ≡ reader_at old.readers t
  pub changers : IsStrictlySortedBy tid_cmp (keys_of new.edits)
  pub readers : IsStrictlySortedBy tid_cmp (keys_of new.readers)

abbrev pub ended_slot : Tid → Bool → List Op → List (List ℕ) → List ℕ → FileText → FileText
ended_slot tid commits changes reads q slot = fold (when (λ x. same_bytes x q) (unreads tid)) (fold (when (is_change_of q) (on_op (ended tid commits))) slot changes) reads

pub is_ended : (tid : Tid) (commits : Bool) (changes : List Op) (reads : List (List ℕ)) (q : List ℕ) (slot : FileText) → IsStrictlySortedBy tid_cmp (keys_of slot.edits) → IsStrictlySortedBy tid_cmp (keys_of slot.readers)
    → IsEnded tid commits changes reads q slot (ended_slot tid commits changes reads q slot)
is_ended tid commits changes reads q slot changers readers =
    let done_slot = fold (when (is_change_of q) (on_op (ended tid commits))) slot changes in
    let done : IsDone tid slot done_slot = done-ends tid commits (is_change_of q) changes slot changers in
    let sorted : IsStrictlySortedBy tid_cmp (keys_of done_slot.readers) = subst (λ (rs : List (Tid × Bool)). IsStrictlySortedBy tid_cmp (keys_of rs)) (sym done.readers) readers in
    let un : IsUnread tid done_slot (fold (when (λ x. same_bytes x q) (unreads tid)) done_slot reads) = unread-unreads tid (λ x. same_bytes x q) reads done_slot sorted in
    record {
      text = un.text ∙ text-ends tid commits (is_change_of q) changes slot changers;
      edit = ap (λ (es : List (Tid × Edit)). edit_at es tid) un.edits ∙ edit-ends tid commits (is_change_of q) changes slot changers;
      edits = λ t apart. ap (λ (es : List (Tid × Edit)). edit_at es t) un.edits ∙ done.others t apart;
      reader = reader-unreads tid (λ x. same_bytes x q) reads done_slot sorted
          ∙ ap (λ (b : Bool). if b then false else reader_at done_slot.readers tid) (any_name q reads)
          ∙ ap (λ (rs : List (Tid × Bool)). if list_any (same_bytes q) reads then false else reader_at rs tid) done.readers;
      others = λ t apart. un.others t apart ∙ ap (λ (rs : List (Tid × Bool)). reader_at rs t) done.readers;
      changers = subst (λ (es : List (Tid × Edit)). IsStrictlySortedBy tid_cmp (keys_of es)) (sym un.edits) done.sorted;
      readers = un.sorted;
    }

-- ---- what a transaction has at one name

module _ (old : Entries) (shares : List (Tid × Share)) (tid : Tid) (n : ℕ) (f : Follows old shares n) where
  pub nothing_seen : (q : List ℕ) (b : Bool) → list_any (is_change_of q) (share_in shares tid).changes ≡ b → (before : Option (List ℕ)) → before ≡ seen_by (if b then no_edit else edit_at (slot_or_new old q).edits tid) before
  nothing_seen q true e before = sym (joined-none before)
  nothing_seen q false e before = sym (unchanged (share_in shares tid).changes q before e) ∙ f.texts tid q before

  pub not_read : (q : List ℕ) (b : Bool) → list_any (same_bytes q) (share_in shares tid).reads ≡ b → (if b then false else reader_at (slot_or_new old q).readers tid) ≡ false
  not_read q true e = refl
  not_read q false e = f.reads tid q ∙ e

  pub no_more : (q : List ℕ) (b : Bool) → list_any (is_change_of q) (share_in shares tid).changes ≡ b → piece_count (if b then no_edit else edit_at (slot_or_new old q).edits tid).text ≤ 0
  no_more q true e = omega (arith)
  no_more q false e =
      let edit = edit_at (slot_or_new old q).edits tid in
      let none : seen_by edit None ≡ None = sym (f.texts tid q None) ∙ unchanged (share_in shares tid).changes q None e in
      let zero = no_pieces edit.replaces edit.text none in
      omega (arith, zero)

-- ---- the end of a transaction

module _ (old new : Entries) (shares : List (Tid × Share)) (tid : Tid) (commits : Bool) (n m : ℕ) (f : Follows old shares n)
    (ended : (q : List ℕ) → IsEnded tid commits (share_in shares tid).changes (share_in shares tid).reads q (slot_or_new old q) (slot_or_new new q))
    (sorted : IsStrictlySortedBy bytes_cmp (keys_of new)) (more : n ≤ m) (all : (commits ≡ true) → n + length (share_in shares tid).changes ≤ m) where
  abbrev own : Share
  own = share_in shares tid

  still_few : (q : List ℕ) (b c : Bool) → commits ≡ c → piece_count (if b then text_after tid c (slot_or_new old q) else (slot_or_new old q).text) ≤ m
  still_few q true true e =
      let edit = edit_at (slot_or_new old q).edits tid in
      let sum = count-edited edit (slot_or_new old q).text in
      omega (arith, sum, f.pieces q, f.added tid q, all e)
  still_few q true false e = omega (arith, f.pieces q, more)
  still_few q false c e = omega (arith, f.pieces q, more)

  pub now-ended : IsNow old new tid nothing_held m
  now-ended = record {
    names = sorted;
    changers = λ q. (ended q).changers;
    readers = λ q. (ended q).readers;
    edits = λ q. (ended q).edits;
    others = λ q. (ended q).others;
    texts = λ q before. nothing_seen old shares tid n f q (list_any (is_change_of q) own.changes) refl before ∙ ap (λ (e : Edit). seen_by e before) (sym (ended q).edit);
    reads = λ q. (ended q).reader ∙ not_read old shares tid n f q (list_any (same_bytes q) own.reads) refl;
    added = λ q.
        let none = no_more old shares tid n f q (list_any (is_change_of q) own.changes) refl in
        let same = ap (λ (e : Edit). piece_count e.text) (ended q).edit in
        omega (arith, none, same);
    pieces = λ q.
        let few = still_few q (list_any (is_change_of q) own.changes) commits refl in
        let same = ap (λ (t : Option Pieces). piece_count t) (ended q).text in
        omega (arith, few, same);
  }
