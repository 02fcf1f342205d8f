-- What stands under names follows what the transactions hold, once an operation is served.
use Rattle.std.proofs.Common.{◌≡◌, ℕ, ◌+◌, ◌≤◌, ◌<◌, ◌^◌, List, [], ◌++◌, length, Option, refl, sym, ap, ◌∙◌, subst, arith}
use Rattle.std.specs.Prelude.{Bool, true, false, if◌then◌else◌}
use Rattle.std.specs.List.{fold, list_any}
use Rattle.std.specs.List.Sorted.{IsStrictlySortedBy}
use Rattle.std.specs.Map.{keys_of}
use Rattle.std.proofs.lemmas.List.{length-append}
use Rattle.std.proofs.lemmas.List.Sums.{fold-append}
use Rattle.qs_base.specs.Order.{tid_cmp, same_bytes, same_tid}
use Rattle.qs_base.specs.declared.identifiers.Tid.{Tid}
use Rattle.qs_base.proofs.Same.{same_tid-true}
use Rattle.qs_ops.specs.Table.{is_change_of}
use Rattle.qs_ops.specs.declared.operation.Op.{Op}
use Rattle.qs_ops.specs.declared.share.Share.{Share}
use Rattle.qs_ops_shares.specs.Shares.{share_in, IsHeld, total, change_count}
use Rattle.qs_ops_shares.proofs.Sums.{sums-remove}
use Rattle.qs_ops_shelf.specs.Changed.{changed_at}
use Rattle.qs_files_contents.specs.Edits.{seen_by, prepared_by}
use Rattle.qs_files_contents.specs.Slots.{Entries, slot_or_new, edit_at, reader_at, tidied, place_for, change_by, tidy_change}
use Rattle.qs_files_contents.specs.Texts.{Pieces, piece_count}
use Rattle.qs_files_contents.specs.declared.edit.Edit.{Edit}
use Rattle.qs_files_contents.specs.declared.prepared.Prepared.{Prepared}
use Rattle.qs_files_contents.specs.declared.slot.FileText.{FileText}
use Rattle.qs_files_contents.proofs.Folds.{AreSorted, when, on_op, placing, changing, is_named, fold-keeps, fold-sorted, sorted-place, sorted-change, sorted-tidy, slot-places, slot-changes, slot-tidies, Like, like_itself, like-places, like-tidies, IsChanged, room-places, edit-changes}
use Rattle.qs_files_contents.proofs.Steps.{text-changed, readers-changed, sorted-changed, other-changed}
use Rattle.qs_files.specs.Held.{Follows, AreCounted}
use Rattle.qs_files.proofs.Following.{IsNow, follows-now}
use Rattle.qs_files.proofs.Prepares.{edit_by, seen-all, count-all}

-- all hold what they did
pub held-same : (shares : List (Tid × Share)) (tid : Tid) → IsHeld tid (share_in shares tid) shares shares
held-same shares tid t = by (same_tid tid t) refl
  where
    by : (b : Bool) → same_tid tid t ≡ b → share_in shares t ≡ (if b then share_in shares tid else share_in shares t)
    by true e = ap (λ (s : Tid). share_in shares s) (sym (same_tid-true tid t e))
    by false e = refl

-- ---- slots that are alike

pub now-like : (old new : Entries) (shares : List (Tid × Share)) (tid : Tid) (share : Share) (n : ℕ) → Follows old shares n → AreSorted new → ((q : List ℕ) → Like (slot_or_new old q) (slot_or_new new q))
    → share.changes ≡ (share_in shares tid).changes → share.reads ≡ (share_in shares tid).reads → IsNow old new tid share n
now-like old new shares tid share n f sorted like changes reads = record {
  names = sorted;
  changers = λ q. (like q).sorted;
  readers = λ q. subst (λ (rs : List (Tid × Bool)). IsStrictlySortedBy tid_cmp (keys_of rs)) (sym (like q).readers) (f.readers q);
  edits = λ q t apart. (like q).edits t;
  others = λ q t apart. ap (λ (rs : List (Tid × Bool)). reader_at rs t) (like q).readers;
  texts = λ q before. ap (λ (ops : List Op). fold (changed_at q) before ops) changes ∙ f.texts tid q before ∙ ap (λ (e : Edit). seen_by e before) (sym ((like q).edits tid));
  reads = λ q. ap (λ (rs : List (Tid × Bool)). reader_at rs tid) (like q).readers ∙ f.reads tid q ∙ ap (λ (names : List (List ℕ)). list_any (same_bytes q) names) (sym reads);
  added = λ q.
      let one = ap (λ (e : Edit). piece_count e.text) ((like q).edits tid) in
      let two = ap (λ (ops : List Op). length ops) changes in
      omega (arith, f.added tid q, one, two);
  pieces = λ q.
      let one = ap (λ (t : Option Pieces). piece_count t) (like q).text in
      omega (arith, f.pieces q, one);
}

pub follows-plain : (es : Entries) (shares after : List (Tid × Share)) (tid : Tid) (share : Share) (n : ℕ) → Follows es shares n → IsHeld tid share shares after
    → share.changes ≡ (share_in shares tid).changes → share.reads ≡ (share_in shares tid).reads → Follows es after n
follows-plain es shares after tid share n f held changes reads =
    follows-now es es shares after tid share n n f held (now-like es es shares tid share n f f.names (λ q. like_itself (slot_or_new es q) (f.changers q)) changes reads)

-- room for some changes was made, and given back
pub follows-tidied : (es new : Entries) (shares : List (Tid × Share)) (tid : Tid) (n : ℕ) (ps : List Prepared) (ops : List Op) → Follows es shares n
    → new ≡ fold (tidy_change tid) (fold (place_for tid) es ps) ops → Follows new shares n
follows-tidied es new shares tid n ps ops f is =
    let placed_slots = fold (place_for tid) es ps in
    let sorted_mid : AreSorted placed_slots = fold-sorted (place_for tid) (sorted-place tid) ps es f.names in
    let sorted : AreSorted new = subst (λ (x : Entries). AreSorted x) (sym is) (fold-sorted (tidy_change tid) (sorted-tidy tid) ops placed_slots sorted_mid) in
    follows-now es new shares shares tid (share_in shares tid) n n f (held-same shares tid)
    (now-like es new shares tid (share_in shares tid) n f sorted
    (λ q.
    let start = like_itself (slot_or_new es q) (f.changers q) in
    let mid = like-places tid (is_named q) ps (slot_or_new es q) (slot_or_new es q) start in
    let end = like-tidies tid (is_change_of q) ops (slot_or_new es q) (fold (when (is_named q) (placing tid)) (slot_or_new es q) ps) mid in
    subst (λ (s : FileText). Like (slot_or_new es q) s)
    (sym (ap (λ (x : Entries). slot_or_new x q) is ∙ slot-tidies tid q ops placed_slots sorted_mid ∙ ap (λ (s : FileText). fold (when (is_change_of q) (on_op (tidied tid))) s ops) (slot-places tid q ps es f.names)))
    end)
    refl refl)

pub files-placed : (es new : Entries) (tid : Tid) (ps : List Prepared) (ops : List Op) (n : ℕ) (shares : List (Tid × Share)) → Follows es shares n → new ≡ fold (tidy_change tid) (fold (place_for tid) es ps) ops
    → (q : List ℕ) → (slot_or_new new q).text ≡ (slot_or_new es q).text
files-placed es new tid ps ops n shares f is q =
    let placed_slots = fold (place_for tid) es ps in
    let sorted_mid : AreSorted placed_slots = fold-sorted (place_for tid) (sorted-place tid) ps es f.names in
    let mid = like-places tid (is_named q) ps (slot_or_new es q) (slot_or_new es q) (like_itself (slot_or_new es q) (f.changers q)) in
    let end = like-tidies tid (is_change_of q) ops (slot_or_new es q) (fold (when (is_named q) (placing tid)) (slot_or_new es q) ps) mid in
    ap (λ (x : Entries). (slot_or_new x q).text) is
    ∙ ap (λ (s : FileText). s.text) (slot-tidies tid q ops placed_slots sorted_mid ∙ ap (λ (s : FileText). fold (when (is_change_of q) (on_op (tidied tid))) s ops) (slot-places tid q ps es f.names))
    ∙ end.text

-- ---- changes

pub changed-more : (tid : Tid) (ps : List Prepared) (q : List ℕ) (slot : FileText) → IsStrictlySortedBy tid_cmp (keys_of slot.edits) → IsChanged tid slot (fold (when (is_named q) (changing tid)) slot ps)
changed-more tid ps q slot sorted =
    fold-keeps (λ s. IsChanged tid slot s) (is_named q) (changing tid)
    (λ s p c. record {
      text = text-changed tid p.change s ∙ c.text;
      others = λ t apart. other-changed tid t p.change s apart ∙ c.others t apart;
      readers = readers-changed tid p.change s ∙ c.readers;
      sorted = sorted-changed tid p.change s c.sorted;
    })
    ps slot (record { text = refl; others = λ t apart. refl; readers = refl; sorted = sorted })

module _ (es new : Entries) (shares : List (Tid × Share)) (tid : Tid) (n : ℕ) (ops : List Op) (f : Follows es shares n) (is : new ≡ fold (change_by tid) (fold (place_for tid) es (prepared_by ops)) (prepared_by ops)) where
  abbrev ps : List Prepared
  ps = prepared_by ops

  abbrev mid : Entries
  mid = fold (place_for tid) es ps

  sorted_mid : AreSorted mid
  sorted_mid = fold-sorted (place_for tid) (sorted-place tid) ps es f.names

  abbrev placed_slot : List ℕ → FileText
  placed_slot q = fold (when (is_named q) (placing tid)) (slot_or_new es q) ps

  at : (q : List ℕ) → slot_or_new new q ≡ fold (when (is_named q) (changing tid)) (placed_slot q) ps
  at q = ap (λ (x : Entries). slot_or_new x q) is ∙ slot-changes tid q ps mid sorted_mid ∙ ap (λ (s : FileText). fold (when (is_named q) (changing tid)) s ps) (slot-places tid q ps es f.names)

  like : (q : List ℕ) → Like (slot_or_new es q) (placed_slot q)
  like q = like-places tid (is_named q) ps (slot_or_new es q) (slot_or_new es q) (like_itself (slot_or_new es q) (f.changers q))

  more : (q : List ℕ) → IsChanged tid (placed_slot q) (slot_or_new new q)
  more q = subst (λ (s : FileText). IsChanged tid (placed_slot q) s) (sym (at q)) (changed-more tid ps q (placed_slot q) (like q).sorted)

  edit : (q : List ℕ) → edit_at (slot_or_new new q).edits tid ≡ edit_by q (edit_at (slot_or_new es q).edits tid) ps
  edit q =
      ap (λ (s : FileText). edit_at s.edits tid) (at q)
      ∙ edit-changes tid q ps (placed_slot q) (room-places tid (is_named q) ps (slot_or_new es q))
      ∙ ap (λ (e : Edit). edit_by q e ps) ((like q).edits tid)

  pub text-kept : (q : List ℕ) → (slot_or_new new q).text ≡ (slot_or_new es q).text
  text-kept q = (more q).text ∙ (like q).text

  pub now-changed : (share : Share) → share.changes ≡ (share_in shares tid).changes ++ ops → share.reads ≡ (share_in shares tid).reads → length (share_in shares tid).changes + length ops < 2 ^ 63 → IsNow es new tid share n
  now-changed share changes reads few = record {
    names = subst (λ (x : Entries). AreSorted x) (sym is) (fold-sorted (change_by tid) (sorted-change tid) ps mid sorted_mid);
    changers = λ q. (more q).sorted;
    readers = λ q. subst (λ (rs : List (Tid × Bool)). IsStrictlySortedBy tid_cmp (keys_of rs)) (sym ((more q).readers ∙ (like q).readers)) (f.readers q);
    edits = λ q t apart. (more q).others t apart ∙ (like q).edits t;
    others = λ q t apart. ap (λ (rs : List (Tid × Bool)). reader_at rs t) ((more q).readers ∙ (like q).readers);
    texts = λ q before.
        ap (λ (xs : List Op). fold (changed_at q) before xs) changes
        ∙ fold-append (changed_at q) before (share_in shares tid).changes ops
        ∙ ap (λ (o : Option (List ℕ)). fold (changed_at q) o ops) (f.texts tid q before)
        ∙ sym (seen-all q ops [] (edit_at (slot_or_new es q).edits tid) before (omega (arith, f.added tid q, few)))
        ∙ ap (λ (e : Edit). seen_by e before) (sym (edit q));
    reads = λ q. ap (λ (rs : List (Tid × Bool)). reader_at rs tid) ((more q).readers ∙ (like q).readers) ∙ f.reads tid q ∙ ap (λ (names : List (List ℕ)). list_any (same_bytes q) names) (sym reads);
    added = λ q.
        let one = ap (λ (e : Edit). piece_count e.text) (edit q) in
        let two = ap (λ (xs : List Op). length xs) changes in
        let three = length-append (share_in shares tid).changes ops in
        let four = count-all q ops [] (edit_at (slot_or_new es q).edits tid) in
        omega (arith, f.added tid q, one, two, three, four);
    pieces = λ q.
        let one = ap (λ (t : Option Pieces). piece_count t) (text-kept q) in
        omega (arith, f.pieces q, one);
  }

-- ---- what was prepared

pub changes_are : (old middle new : Entries) (tid : Tid) (ds ps : List Prepared) (slice ops : List Op) → middle ≡ fold (place_for tid) old ds → ds ≡ ps → ps ≡ prepared_by slice → slice ≡ ops → new ≡ fold (change_by tid) middle ps
    → new ≡ fold (change_by tid) (fold (place_for tid) old (prepared_by ops)) (prepared_by ops)
changes_are old middle new tid ds ps slice ops a b c d e =
    let same : ps ≡ prepared_by ops = c ∙ ap (λ (xs : List Op). prepared_by xs) d in
    e
    ∙ ap (λ (x : Entries). fold (change_by tid) x ps) (a ∙ ap (λ (xs : List Prepared). fold (place_for tid) old xs) b)
    ∙ ap (λ (xs : List Prepared). fold (change_by tid) (fold (place_for tid) old xs) xs) same

-- what one transaction has pending is no more than all have
pub own_few : (shares : List (Tid × Share)) (tid : Tid) → length (share_in shares tid).changes ≤ total change_count shares
own_few shares tid =
    let sums = sums-remove shares tid change_count refl in
    omega (arith, sums)

pub room_left : (shares : List (Tid × Share)) (tid : Tid) (pending committed more : ℕ) → AreCounted shares pending committed → committed + (pending + more) < 2 ^ 63 → length (share_in shares tid).changes + more < 2 ^ 63
room_left shares tid pending committed more c lt = omega (arith, c.counted, lt, own_few shares tid)

-- one change more is counted
pub few : (all waiting committed pending : ℕ) → all ≡ committed → waiting ≡ pending + 1 → all + waiting < 2 ^ 63 → committed + (pending + 1) < 2 ^ 63
few all waiting committed pending a b lt = omega (arith, a, b, lt)
