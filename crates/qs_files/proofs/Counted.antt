-- Pending notes are counted, whatever is served, kept or ends.
use Rattle.std.proofs.Common.{◌≡◌, ℕ, ◌+◌, ◌≤◌, List, [], ◌∷◌, ◌++◌, refl, sym, ap, ◌∙◌, subst, append-nil, arith}
use Rattle.std.specs.Prelude.{true}
use Rattle.std.specs.List.Sorted.{IsStrictlySortedBy}
use Rattle.std.specs.Map.{keys_of, remove_entry}
use Rattle.std.specs.BTreeMap.{insert_entry, is_at}
use Rattle.std.proofs.lemmas.List.Sums.{sum_by-append}
use Rattle.qs_base.specs.Order.{tid_cmp}
use Rattle.qs_base.specs.declared.identifiers.Tid.{Tid}
use Rattle.qs_ops.specs.declared.operation.Op.{Op}
use Rattle.qs_ops.specs.declared.operation.Op.TheVariants.{Put, Append, Del, Get, Listing}
use Rattle.qs_ops.specs.declared.reply.Reply.{Reply}
use Rattle.qs_ops.specs.declared.reply.Reply.TheVariants.{Done, TooMany}
use Rattle.qs_ops.specs.declared.share.Share.{Share}
use Rattle.qs_ops.specs.Table.{after_serve}
use Rattle.qs_ops_shares.specs.Shares.{share_in}
use Rattle.qs_ops_shares.proofs.Sums.{sums-insert, sums-remove}
use Rattle.qs_files.specs.Held.{is_file_op}
use Rattle.qs_files.specs.Noted.{AreNoted, notes_in, count_notes, note_count}

nothing_more : (xs : List Op) → count_notes (xs ++ []) ≡ count_notes xs
nothing_more xs = ap (λ (l : List Op). count_notes l) (append-nil xs)

no_note : (xs : List Op) (op : Op) → notes_in op ≡ 0 → count_notes (xs ++ op ∷ []) ≡ count_notes xs
no_note xs op none =
    let all = sum_by-append notes_in xs (op ∷ []) in
    omega (arith, all, none)

module _ (shares : List (Tid × Share)) (tid : Tid) (waiting committed capacity : ℕ) (n : AreNoted shares waiting committed capacity) where
  -- what one transaction has pending is counted
  pub own_noted : note_count (share_in shares tid) ≤ waiting
  own_noted =
      let sum = sums-remove shares tid note_count refl in
      omega (arith, n.waits, sum)

  pub noted_grown : (more : ℕ) → capacity ≤ more → AreNoted shares waiting committed more
  noted_grown more grown = record { waits = n.waits; room = omega (arith, n.room, grown) }

  pub noted_inserted : (after : List (Tid × Share)) (share : Share) (left now more : ℕ) → IsStrictlySortedBy tid_cmp (keys_of shares) → after ≡ insert_entry tid_cmp shares tid share
      → left + note_count (share_in shares tid) ≡ waiting + note_count share → now + left ≤ more → AreNoted after left now more
  noted_inserted after share left now more sorted is balance room =
      let sum = sums-insert shares tid share sorted note_count refl in
      subst (λ (x : List (Tid × Share)). AreNoted x left now more) (sym is) (record { waits = omega (arith, n.waits, sum, balance); room = room })

  pub noted_removed : (after : List (Tid × Share)) (left now more : ℕ) → after ≡ remove_entry (is_at (tid_cmp tid)) shares
      → left + note_count (share_in shares tid) ≡ waiting → now + left ≤ more → AreNoted after left now more
  noted_removed after left now more is balance room =
      let sum = sums-remove shares tid note_count refl in
      subst (λ (x : List (Tid × Share)). AreNoted x left now more) (sym is) (record { waits = omega (arith, n.waits, sum, balance); room = room })

-- an operation of files makes no note
pub note_count-served : (share : Share) (op : Op) (reply : Reply) → is_file_op op ≡ true → note_count (after_serve share op reply) ≡ note_count share
note_count-served share op TooMany own = refl
note_count-served share (Put name text) Done own = no_note share.changes (Put name text) refl
note_count-served share (Append name text) Done own = no_note share.changes (Append name text) refl
note_count-served share (Del name) Done own = no_note share.changes (Del name) refl
note_count-served share (Get name) Done own = nothing_more share.changes
note_count-served share Listing Done own = nothing_more share.changes
note_count-served share op Done own = absurd (cc)
note_count-served share op reply own = nothing_more share.changes

-- the notes that were counted in a share are those of the transaction
pub counted_of : (shares : List (Tid × Share)) (tid : Tid) (slice changes : List Op) (count : ℕ) → count ≡ count_notes slice → slice ≡ changes → changes ≡ (share_in shares tid).changes → count ≡ note_count (share_in shares tid)
counted_of shares tid slice changes count a b c = a ∙ ap (λ (l : List Op). count_notes l) (b ∙ c)
