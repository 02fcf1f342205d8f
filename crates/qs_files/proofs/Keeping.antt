-- What stands under names follows what the transactions hold, once changes that a log kept are pending again.
use Rattle.std.proofs.Common.{◌≡◌, ℕ, ◌≤◌, ◌<◌, ◌^◌, List, [], length, Option, refl, sym, ap, ◌∙◌, subst, arith}
use Rattle.std.specs.Prelude.{Bool, true, false, if◌then◌else◌}
use Rattle.std.specs.List.{fold, list_any}
use Rattle.std.specs.List.Sorted.{IsStrictlySortedBy}
use Rattle.std.specs.Map.{keys_of}
use Rattle.qs_base.specs.Order.{tid_cmp, same_bytes}
use Rattle.qs_base.specs.declared.identifiers.Tid.{Tid}
use Rattle.qs_ops.specs.Table.{is_change_of}
use Rattle.qs_ops.specs.declared.operation.Op.{Op}
use Rattle.qs_ops.specs.declared.share.Share.{Share}
use Rattle.qs_ops_shares.specs.Shares.{share_in, kept_share}
use Rattle.qs_ops_shelf.specs.Changed.{changed_at}
use Rattle.qs_files_contents.specs.Edits.{no_edit, seen_by, prepared_by}
use Rattle.qs_files_contents.specs.Slots.{Entries, slot_or_new, edit_at, reader_at, finished, tidied, place_for, change_by, at_change, tidy_change, unread_name}
use Rattle.qs_files_contents.specs.Texts.{Pieces, piece_count}
use Rattle.qs_files_contents.specs.declared.edit.Edit.{Edit}
use Rattle.qs_files_contents.specs.declared.prepared.Prepared.{Prepared}
use Rattle.qs_files_contents.specs.declared.slot.FileText.{FileText}
use Rattle.qs_files_contents.proofs.Ends.{unreads, IsDone, IsUnread, done-finishes, edit-finishes, text-finishes, unread-unreads, reader-unreads}
use Rattle.qs_files_contents.proofs.Folds.{AreSorted, when, on_op, placing, changing, is_named, fold-keeps, fold-sorted, sorted-place, sorted-change, sorted-at_change, sorted-tidy, sorted-unread, slot-places, slot-changes, slot-finishes, slot-tidies, slot-unreads, Like, like_itself, like-places, like-tidies, IsChanged, room-places, edit-changes}
use Rattle.qs_files_contents.proofs.Steps.{has_room, room-finished}
use Rattle.qs_files.specs.Held.{Follows}
use Rattle.qs_files.proofs.Following.{IsNow, nothing_seen, not_read, no_more, any_name}
use Rattle.qs_files.proofs.Prepares.{edit_by, seen-all, count-all}
use Rattle.qs_files.proofs.Serving.{changed-more}

-- room for the new changes is made, the old ones are dropped, and the new ones are made
abbrev pub kept_slots : Tid → List Op → List Op → List (List ℕ) → Entries → Entries
kept_slots tid ops old reads slots =
    fold (unread_name tid) (fold (tidy_change tid) (fold (change_by tid) (fold (at_change (finished tid false)) (fold (place_for tid) slots (prepared_by ops)) old) (prepared_by ops)) old) reads

pub keeps_are : (old placed done changed tidy last : Entries) (tid : Tid) (ds ps : List Prepared) (slice ops : List Op) (dropped own : List Op) (names reads : List (List ℕ)) → placed ≡ fold (place_for tid) old ds → ds ≡ ps → ps ≡ prepared_by slice → slice ≡ ops
    → done ≡ fold (at_change (finished tid false)) placed dropped → changed ≡ fold (change_by tid) done ps → tidy ≡ fold (tidy_change tid) changed dropped → last ≡ fold (unread_name tid) tidy names → dropped ≡ own → names ≡ reads
    → last ≡ kept_slots tid ops own reads old
keeps_are old placed done changed tidy last tid ds ps slice ops dropped own names reads a b c d e g h i j k =
    let same : ps ≡ prepared_by ops = c ∙ ap (λ (xs : List Op). prepared_by xs) d in
    i
    ∙ ap (λ (x : Entries). fold (unread_name tid) x names)
    (h
    ∙ ap (λ (x : Entries). fold (tidy_change tid) x dropped)
    (g
    ∙ ap (λ (x : Entries). fold (change_by tid) x ps)
    (e ∙ ap (λ (x : Entries). fold (at_change (finished tid false)) x dropped) (a ∙ ap (λ (xs : List Prepared). fold (place_for tid) old xs) b))))
    ∙ ap (λ (xs : List Prepared). fold (unread_name tid) (fold (tidy_change tid) (fold (change_by tid) (fold (at_change (finished tid false)) (fold (place_for tid) old xs) dropped) xs) dropped) names) same
    ∙ ap (λ (xs : List Op). fold (unread_name tid) (fold (tidy_change tid) (fold (change_by tid) (fold (at_change (finished tid false)) (fold (place_for tid) old (prepared_by ops)) xs) (prepared_by ops)) xs) names) j
    ∙ ap (λ (xs : List (List ℕ)). fold (unread_name tid) (fold (tidy_change tid) (fold (change_by tid) (fold (at_change (finished tid false)) (fold (place_for tid) old (prepared_by ops)) own) (prepared_by ops)) own) xs) k

stays_so : (b : Bool) (t : Option Pieces) → (if b then t else t) ≡ t
stays_so true t = refl
stays_so false t = refl

module _ (es new : Entries) (shares : List (Tid × Share)) (tid : Tid) (n : ℕ) (ops : List Op) (f : Follows es shares n) (lt : length ops < 2 ^ 63)
    (is : new ≡ kept_slots tid ops (share_in shares tid).changes (share_in shares tid).reads es) where
  abbrev own : Share
  own = share_in shares tid

  abbrev ps : List Prepared
  ps = prepared_by ops

  abbrev placed_slots : Entries
  placed_slots = fold (place_for tid) es ps

  abbrev done_slots : Entries
  done_slots = fold (at_change (finished tid false)) placed_slots own.changes

  abbrev changed_slots : Entries
  changed_slots = fold (change_by tid) done_slots ps

  abbrev tidy_slots : Entries
  tidy_slots = fold (tidy_change tid) changed_slots own.changes

  sorted_placed : AreSorted placed_slots
  sorted_placed = fold-sorted (place_for tid) (sorted-place tid) ps es f.names

  sorted_done : AreSorted done_slots
  sorted_done = fold-sorted (at_change (finished tid false)) (sorted-at_change (finished tid false)) own.changes placed_slots sorted_placed

  sorted_changed : AreSorted changed_slots
  sorted_changed = fold-sorted (change_by tid) (sorted-change tid) ps done_slots sorted_done

  sorted_tidy : AreSorted tidy_slots
  sorted_tidy = fold-sorted (tidy_change tid) (sorted-tidy tid) own.changes changed_slots sorted_changed

  sorted_new : AreSorted new
  sorted_new = subst (λ (x : Entries). AreSorted x) (sym is) (fold-sorted (unread_name tid) (sorted-unread tid) own.reads tidy_slots sorted_tidy)

  -- ---- at one name

  abbrev placed_slot : List ℕ → FileText
  placed_slot q = fold (when (is_named q) (placing tid)) (slot_or_new es q) ps

  abbrev done_slot : List ℕ → FileText
  done_slot q = fold (when (is_change_of q) (on_op (finished tid false))) (placed_slot q) own.changes

  abbrev changed_slot : List ℕ → FileText
  changed_slot q = fold (when (is_named q) (changing tid)) (done_slot q) ps

  abbrev tidy_slot : List ℕ → FileText
  tidy_slot q = fold (when (is_change_of q) (on_op (tidied tid))) (changed_slot q) own.changes

  at : (q : List ℕ) → slot_or_new new q ≡ fold (when (λ x. same_bytes x q) (unreads tid)) (tidy_slot q) own.reads
  at q =
      ap (λ (x : Entries). slot_or_new x q) is
      ∙ slot-unreads tid q own.reads tidy_slots sorted_tidy
      ∙ ap (λ (s : FileText). fold (when (λ x. same_bytes x q) (unreads tid)) s own.reads)
      (slot-tidies tid q own.changes changed_slots sorted_changed
      ∙ ap (λ (s : FileText). fold (when (is_change_of q) (on_op (tidied tid))) s own.changes)
      (slot-changes tid q ps done_slots sorted_done
      ∙ ap (λ (s : FileText). fold (when (is_named q) (changing tid)) s ps)
      (slot-finishes tid q false own.changes placed_slots sorted_placed
      ∙ ap (λ (s : FileText). fold (when (is_change_of q) (on_op (finished tid false))) s own.changes) (slot-places tid q ps es f.names))))

  placed_like : (q : List ℕ) → Like (slot_or_new es q) (placed_slot q)
  placed_like q = like-places tid (is_named q) ps (slot_or_new es q) (slot_or_new es q) (like_itself (slot_or_new es q) (f.changers q))

  done : (q : List ℕ) → IsDone tid (placed_slot q) (done_slot q)
  done q = done-finishes tid false (is_change_of q) own.changes (placed_slot q) (placed_like q).sorted

  changed_is : (q : List ℕ) → IsChanged tid (done_slot q) (changed_slot q)
  changed_is q = changed-more tid ps q (done_slot q) (done q).sorted

  tidy_like : (q : List ℕ) → Like (changed_slot q) (tidy_slot q)
  tidy_like q = like-tidies tid (is_change_of q) own.changes (changed_slot q) (changed_slot q) (like_itself (changed_slot q) (changed_is q).sorted)

  same_readers : (q : List ℕ) → (tidy_slot q).readers ≡ (slot_or_new es q).readers
  same_readers q = (tidy_like q).readers ∙ (changed_is q).readers ∙ (done q).readers ∙ (placed_like q).readers

  readers_sorted : (q : List ℕ) → IsStrictlySortedBy tid_cmp (keys_of (tidy_slot q).readers)
  readers_sorted q = subst (λ (rs : List (Tid × Bool)). IsStrictlySortedBy tid_cmp (keys_of rs)) (sym (same_readers q)) (f.readers q)

  un : (q : List ℕ) → IsUnread tid (tidy_slot q) (slot_or_new new q)
  un q = subst (λ (s : FileText). IsUnread tid (tidy_slot q) s) (sym (at q)) (unread-unreads tid (λ x. same_bytes x q) own.reads (tidy_slot q) (readers_sorted q))

  edit_done : (q : List ℕ) → edit_at (done_slot q).edits tid ≡ (if list_any (is_change_of q) own.changes then no_edit else edit_at (slot_or_new es q).edits tid)
  edit_done q = edit-finishes tid false (is_change_of q) own.changes (placed_slot q) ∙ ap (λ (e : Edit). if list_any (is_change_of q) own.changes then no_edit else e) ((placed_like q).edits tid)

  room : (q : List ℕ) → list_any (is_named q) ps ≡ true → has_room tid (done_slot q) ≡ true
  room q any = fold-keeps (λ s. has_room tid s ≡ true) (is_change_of q) (on_op (finished tid false)) (λ s op r. room-finished tid false s r) own.changes (placed_slot q) (room-places tid (is_named q) ps (slot_or_new es q) any)

  edit_new : (q : List ℕ) → edit_at (slot_or_new new q).edits tid ≡ edit_by q (edit_at (done_slot q).edits tid) ps
  edit_new q = ap (λ (xs : List (Tid × Edit)). edit_at xs tid) (un q).edits ∙ (tidy_like q).edits tid ∙ edit-changes tid q ps (done_slot q) (room q)

  none_left : (q : List ℕ) → piece_count (edit_at (done_slot q).edits tid).text ≤ 0
  none_left q =
      let none = no_more es shares tid n f q (list_any (is_change_of q) own.changes) refl in
      let same = ap (λ (e : Edit). piece_count e.text) (edit_done q) in
      omega (arith, none, same)

  pub text-kept_again : (q : List ℕ) → (slot_or_new new q).text ≡ (slot_or_new es q).text
  text-kept_again q = (un q).text ∙ (tidy_like q).text ∙ (changed_is q).text ∙ text-finishes tid false (is_change_of q) own.changes (placed_slot q) ∙ stays_so (list_any (is_change_of q) own.changes) (placed_slot q).text ∙ (placed_like q).text

  -- the new changes see nothing of the old
  seen_new : (q : List ℕ) (before : Option (List ℕ)) → fold (changed_at q) before ops ≡ seen_by (edit_at (slot_or_new new q).edits tid) before
  seen_new q before =
      ap (λ (o : Option (List ℕ)). fold (changed_at q) o ops)
      (nothing_seen es shares tid n f q (list_any (is_change_of q) own.changes) refl before ∙ ap (λ (e : Edit). seen_by e before) (sym (edit_done q)))
      ∙ sym (seen-all q ops [] (edit_at (done_slot q).edits tid) before (omega (arith, lt, none_left q)))
      ∙ ap (λ (e : Edit). seen_by e before) (sym (edit_new q))

  pub now-kept : IsNow es new tid (kept_share ops) n
  now-kept = record {
    names = sorted_new;
    changers = λ q. subst (λ (xs : List (Tid × Edit)). IsStrictlySortedBy tid_cmp (keys_of xs)) (sym (un q).edits) (tidy_like q).sorted;
    readers = λ q. (un q).sorted;
    edits = λ q t apart. ap (λ (xs : List (Tid × Edit)). edit_at xs t) (un q).edits ∙ (tidy_like q).edits t ∙ (changed_is q).others t apart ∙ (done q).others t apart ∙ (placed_like q).edits t;
    others = λ q t apart. (un q).others t apart ∙ ap (λ (rs : List (Tid × Bool)). reader_at rs t) (same_readers q);
    texts = λ q before. seen_new q before;
    reads = λ q.
        ap (λ (s : FileText). reader_at s.readers tid) (at q)
        ∙ reader-unreads tid (λ x. same_bytes x q) own.reads (tidy_slot q) (readers_sorted q)
        ∙ ap (λ (b : Bool). if b then false else reader_at (tidy_slot q).readers tid) (any_name q own.reads)
        ∙ ap (λ (rs : List (Tid × Bool)). if list_any (same_bytes q) own.reads then false else reader_at rs tid) (same_readers q)
        ∙ not_read es shares tid n f q (list_any (same_bytes q) own.reads) refl;
    added = λ q.
        let one = ap (λ (e : Edit). piece_count e.text) (edit_new q) in
        let two = count-all q ops [] (edit_at (done_slot q).edits tid) in
        omega (arith, one, two, none_left q);
    pieces = λ q.
        let one = ap (λ (t : Option Pieces). piece_count t) (text-kept_again q) in
        omega (arith, f.pieces q, one);
  }
