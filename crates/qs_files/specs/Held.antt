-- What stands under names, and what the transactions hold.
use Rattle.std.specs.Prelude.{◌≡◌, ◌≤◌, ◌<◌, ◌+◌, ◌^◌, ℕ, Bool, true, false, List, length, Option, Some, None}
use Rattle.std.specs.List.{fold}
use Rattle.std.specs.List.Sorted.{IsStrictlySortedBy}
use Rattle.std.specs.Map.{keys_of}
use Rattle.qs_base.specs.Order.{bytes_cmp, tid_cmp}
use Rattle.qs_base.specs.declared.identifiers.Tid.{Tid}
use Rattle.qs_ops.specs.Table.{TableValue, changes_name, least_other, reads_name, text_at}
use Rattle.qs_ops.specs.declared.operation.Op.{Op}
use Rattle.qs_ops.specs.declared.operation.Op.TheVariants.{Put, Append, Del, Get, Listing}
use Rattle.qs_ops.specs.declared.reply.Reply.{Reply}
use Rattle.qs_ops.specs.declared.reply.Reply.TheVariants as replies
use Rattle.qs_ops.specs.declared.share.Share.{Share}
use Rattle.qs_ops_shares.specs.Shares.{share_in, total, change_count}
use Rattle.qs_ops_shelf.specs.Changed.{changed_at}
use Rattle.qs_files_contents.specs.Edits.{seen_by}
use Rattle.qs_files_contents.specs.Slots.{Entries, slot_or_new, edit_at, reader_at}
use Rattle.qs_files_contents.specs.Texts.{piece_count}
use Rattle.qs_files_contents.specs.declared.slot.Look.{Look}
use Rattle.qs_files_contents.specs.declared.slot.Look.TheVariants as looks
use Rattle.qs_files.specs.Noted.{AreNoted}

-- what stands under each name follows what the transactions hold
pub record Follows (slots : Entries) (shares : List (Tid × Share)) (committed : ℕ) : Type 0 where
  pub names : IsStrictlySortedBy bytes_cmp (keys_of slots)
  pub changers : (q : List ℕ) → IsStrictlySortedBy tid_cmp (keys_of (slot_or_new slots q).edits)
  pub readers : (q : List ℕ) → IsStrictlySortedBy tid_cmp (keys_of (slot_or_new slots q).readers)
  -- an edit makes of any text there what the changes make of it
  pub texts : (tid : Tid) (q : List ℕ) (before : Option (List ℕ)) → fold (changed_at q) before (share_in shares tid).changes ≡ seen_by (edit_at (slot_or_new slots q).edits tid) before
  pub reads : (tid : Tid) (q : List ℕ) → reader_at (slot_or_new slots q).readers tid ≡ reads_name q (share_in shares tid)
  -- a text has no more pieces than there were changes
  pub added : (tid : Tid) (q : List ℕ) → piece_count (edit_at (slot_or_new slots q).edits tid).text ≤ length (share_in shares tid).changes
  pub pieces : (q : List ℕ) → piece_count (slot_or_new slots q).text ≤ committed

-- all pieces, committed and pending, can be in one text
pub record AreCounted (shares : List (Tid × Share)) (pending committed : ℕ) : Type 0 where
  pub counted : pending ≡ total change_count shares
  pub few : committed + pending < 2 ^ 63

-- the name that an operation with this reply read
abbrev pub read_name : Op → Reply → Option (List ℕ)
read_name (Get name) replies.Absent = Some name
read_name (Get name) (replies.Value text) = Some name
read_name op reply = None

-- an operation with this reply is a pending change to a file
abbrev pub is_changing : Op → Reply → Bool
is_changing (Put name text) replies.Done = true
is_changing (Append name text) replies.Done = true
is_changing (Del name) replies.Done = true
is_changing op reply = false

-- an operation of files
abbrev pub is_file_op : Op → Bool
is_file_op (Put name text) = true
is_file_op (Append name text) = true
is_file_op (Del name) = true
is_file_op (Get name) = true
is_file_op Listing = true
is_file_op _ = false

abbrev pub is_get : Op → Bool
is_get (Get name) = true
is_get _ = false

-- what a transaction that looks at a file finds
abbrev pub look_in : TableValue → Tid → List ℕ → Look
look_in table tid name = elim (least_other (changes_name name) tid table.shares) [ Some other ↦ looks.Held other | None ↦ looks.Free (text_at table tid name) ]

-- what a file server keeps
pub record IsKept (slots : Entries) (shares : List (Tid × Share)) (pending committed waiting notes capacity : ℕ) : Type 0 where
  pub follows : Follows slots shares committed
  pub counted : AreCounted shares pending committed
  pub noted : AreNoted shares waiting notes capacity
