-- What the end of a transaction leaves.
use Rattle.std.proofs.Common.{◌≡◌, ℕ, ◌+◌, ◌≤◌, ◌<◌, ◌^◌, List, length, refl, sym, ap, ◌∙◌, subst, arith}
use Rattle.std.specs.Prelude.{Bool, true, false, if◌then◌else◌}
use Rattle.std.specs.List.{fold}
use Rattle.qs_base.specs.Order.{same_bytes}
use Rattle.qs_base.specs.declared.identifiers.Tid.{Tid}
use Rattle.qs_ops.specs.Table.{apply_change, nothing_held}
use Rattle.qs_ops.specs.declared.operation.Op.{Op}
use Rattle.qs_ops.specs.declared.share.Share.{Share}
use Rattle.qs_ops_shares.specs.Shares.{share_in, IsHeld, IsReplaced, change_count}
use Rattle.qs_files_contents.specs.Slots.{Entries, slot_or_new, end_change, unread_name, files_in}
use Rattle.qs_files_contents.specs.declared.slot.FileText.{FileText}
use Rattle.qs_files_contents.proofs.Ends.{unreads}
use Rattle.qs_files_contents.proofs.Folds.{AreSorted, when, fold-sorted, sorted-end, sorted-unread, slot-ends, slot-unreads}
use Rattle.qs_files.specs.Held.{Follows, AreCounted}
use Rattle.qs_files.proofs.Following.{IsEnded, is_ended, ended_slot, follows-now, now-ended}
use Rattle.qs_files.proofs.Seen.{files-committed, files-released}

abbrev pub ended_slots : Tid → Bool → List Op → List (List ℕ) → Entries → Entries
ended_slots tid commits changes reads slots = fold (unread_name tid) (fold (end_change tid commits) slots changes) reads

pub steps_are : (old first second : Entries) (tid : Tid) (commits : Bool) (changes own : List Op) (names reads : List (List ℕ)) → first ≡ fold (end_change tid commits) old changes → second ≡ fold (unread_name tid) first names
    → changes ≡ own → names ≡ reads → second ≡ ended_slots tid commits own reads old
steps_are old first second tid commits changes own names reads a b d e =
    b
    ∙ ap (λ (x : Entries). fold (unread_name tid) x names) a
    ∙ ap (λ (xs : List Op). fold (unread_name tid) (fold (end_change tid commits) old xs) names) d
    ∙ ap (λ (xs : List (List ℕ)). fold (unread_name tid) (fold (end_change tid commits) old own) xs) e

module _ (old new : Entries) (shares : List (Tid × Share)) (tid : Tid) (commits : Bool) (n : ℕ) (f : Follows old shares n)
    (is : new ≡ ended_slots tid commits (share_in shares tid).changes (share_in shares tid).reads old) where
  abbrev own : Share
  own = share_in shares tid

  abbrev first : Entries
  first = fold (end_change tid commits) old own.changes

  sorted_first : AreSorted first
  sorted_first = fold-sorted (end_change tid commits) (sorted-end tid commits) own.changes old f.names

  pub sorted_new : AreSorted new
  sorted_new = subst (λ (x : Entries). AreSorted x) (sym is) (fold-sorted (unread_name tid) (sorted-unread tid) own.reads first sorted_first)

  at : (q : List ℕ) → slot_or_new new q ≡ ended_slot tid commits own.changes own.reads q (slot_or_new old q)
  at q =
      ap (λ (x : Entries). slot_or_new x q) is
      ∙ slot-unreads tid q own.reads first sorted_first
      ∙ ap (λ (s : FileText). fold (when (λ x. same_bytes x q) (unreads tid)) s own.reads) (slot-ends tid q commits own.changes old f.names)

  ended : (q : List ℕ) → IsEnded tid commits own.changes own.reads q (slot_or_new old q) (slot_or_new new q)
  ended q = subst (λ (s : FileText). IsEnded tid commits own.changes own.reads q (slot_or_new old q) s) (sym (at q)) (is_ended tid commits own.changes own.reads q (slot_or_new old q) (f.changers q) (f.readers q))

  pub follows-ended : (after : List (Tid × Share)) (m : ℕ) → IsHeld tid nothing_held shares after → n ≤ m → (commits ≡ true → n + length own.changes ≤ m) → Follows new after m
  follows-ended after m held more all = follows-now old new shares after tid nothing_held n m f held (now-ended old new shares tid commits n m f ended sorted_new more all)

  pub files-ended : n + length own.changes < 2 ^ 63 → files_in new ≡ (if commits then fold apply_change (files_in old) own.changes else files_in old)
  files-ended few = by commits refl
    where
      by : (b : Bool) → commits ≡ b → files_in new ≡ (if b then fold apply_change (files_in old) own.changes else files_in old)
      by true e =
          files-committed old new shares tid n f sorted_new (λ q. omega (arith, few, f.pieces q, f.added tid q))
          (λ q. subst (λ (b : Bool). IsEnded tid b own.changes own.reads q (slot_or_new old q) (slot_or_new new q)) e (ended q))
      by false e =
          files-released old new own.changes own.reads tid f.names sorted_new
          (λ q. subst (λ (b : Bool). IsEnded tid b own.changes own.reads q (slot_or_new old q) (slot_or_new new q)) e (ended q))

-- what one transaction has pending is counted
pub own_counted : (shares after : List (Tid × Share)) (tid : Tid) (pending committed : ℕ) → AreCounted shares pending committed → IsReplaced (share_in shares tid) nothing_held shares after → committed + length (share_in shares tid).changes < 2 ^ 63
own_counted shares after tid pending committed c replaced =
    let sums = replaced change_count refl in
    omega (arith, c.counted, c.few, sums)
