-- What a server of a node keeps, and how it answers. One kind of table serves files, audit, names, windows and scratch;
-- timers have one of their own. A server holds committed contents and, for each transaction, its share: what is pending.
use Rattle.std.specs.Prelude.{ℕ, ◌+◌, Bool, false, not, ◌&&◌, ◌||◌, ◌==◌, List, [], ◌∷◌, ◌++◌, length, map, sum_by, fold, Option, Some, None, unwrap_or, is_some, nat_lt, nat_le, if◌then◌else◌}
use Rattle.std.specs.Option.{option_map}
use Rattle.std.specs.List.{list_any, filter}
use Rattle.std.specs.Ordering.{match_ordering}
use Rattle.std.specs.Map.{lookup, remove_entry}
use Rattle.std.specs.BTreeMap.{insert_entry, is_at}
use Rattle.qs_base.specs.Order.{bytes_cmp, same_bytes, tid_cmp, same_tid}
use Rattle.qs_base.specs.declared.identifiers.Tid.{Tid}
use Rattle.qs_ops.specs.Files.{file_text, put_file, or_else, text_reply}
use Rattle.qs_ops.specs.Alike.{same_reply}
use Rattle.qs_ops.specs.Spelled.{is_change}
use Rattle.qs_ops.specs.declared.operation.Op.{Op}
use Rattle.qs_ops.specs.declared.operation.Op.TheVariants.{Put, Append, Del, Get, Listing, Note, Notes, Bind, Find, Window, Title, Keep, Fetch}
use Rattle.qs_ops.specs.declared.reply.Reply.{Reply}
use Rattle.qs_ops.specs.declared.reply.Reply.TheVariants as replies
use Rattle.qs_ops.specs.declared.file.File.{File}
use Rattle.qs_ops.specs.declared.share.Share.{Share}
use Rattle.qs_ops.specs.declared.share.KeptChanges.{KeptChanges}

pub record TableValue : Type 0 where
  pub contents : List File  -- the committed files, or what names, windows and scratch have under their names; in byte order
  pub notes : List (List ℕ)  -- the committed notes of audit
  pub shares : List (Tid × Share)  -- what each transaction holds, in order of identifiers

abbrev pub no_table : TableValue
no_table = record { contents = []; notes = []; shares = [] }

-- ---- contents

-- the text under a name, or nothing
abbrev pub text_or_empty : List File → List ℕ → List ℕ
text_or_empty files name = unwrap_or (file_text files name) []

abbrev pub remove_file : List File → List ℕ → List File
remove_file files name = filter (λ file. not (same_bytes file.name name)) files

-- what a change makes of the contents under names
abbrev pub apply_change : List File → Op → List File
apply_change files (Put name text) = put_file files name text
apply_change files (Append name text) = put_file files name (text_or_empty files name ++ text)
apply_change files (Del name) = remove_file files name
apply_change files (Bind name text) = put_file files name text
apply_change files (Window name text) = put_file files name text
apply_change files (Keep name text) = put_file files name text
apply_change files _ = files

-- and of the notes
abbrev pub apply_note : List (List ℕ) → Op → List (List ℕ)
apply_note notes (Note text) = notes ++ text ∷ []
apply_note notes _ = notes

-- changes are committed, in order
abbrev pub applied : TableValue → List Op → TableValue
applied table changes = record table {
  contents = fold apply_change table.contents changes;
  notes = fold apply_note table.notes changes;
}

-- ---- what a transaction holds

abbrev pub nothing_held : Share
nothing_held = record { changes = []; reads = []; operations = 0; voted = false }

abbrev pub share_of : TableValue → Tid → Share
share_of table tid = unwrap_or (lookup (is_at (tid_cmp tid)) table.shares) nothing_held

abbrev pub with_share : TableValue → Tid → Share → TableValue
with_share table tid share = record table { shares = insert_entry tid_cmp table.shares tid share }

abbrev pub has_changes : TableValue → Tid → Bool
has_changes table tid = not (length (share_of table tid).changes == 0)

-- pending changes or reads; a share may be left that has neither
abbrev pub is_holding : Share → Bool
is_holding share = not (length share.changes == 0) || not (length share.reads == 0)

-- some transaction holds changes or reads
abbrev pub any_holds : List (Tid × Share) → Bool
any_holds shares = list_any (λ (entry : Tid × Share). is_holding entry.1) shares

-- a change to that name
abbrev pub is_change_of : List ℕ → Op → Bool
is_change_of name (Put n text) = same_bytes n name
is_change_of name (Append n text) = same_bytes n name
is_change_of name (Del n) = same_bytes n name
is_change_of name (Bind n text) = same_bytes n name
is_change_of name (Window n text) = same_bytes n name
is_change_of name (Keep n text) = same_bytes n name
is_change_of name _ = false

-- the share has a pending change to that name
abbrev pub changes_name : List ℕ → Share → Bool
changes_name name share = list_any (is_change_of name) share.changes

-- the share has a read of that name
abbrev pub reads_name : List ℕ → Share → Bool
reads_name name share = list_any (same_bytes name) share.reads

-- ---- the view: the committed contents with the transaction's own pending changes applied in order

abbrev pub view_contents : TableValue → Tid → List File
view_contents table tid = fold apply_change table.contents (share_of table tid).changes

abbrev pub view_notes : TableValue → Tid → List (List ℕ)
view_notes table tid = fold apply_note table.notes (share_of table tid).changes

abbrev pub text_at : TableValue → Tid → List ℕ → Option (List ℕ)
text_at table tid name = file_text (view_contents table tid) name

-- the bytes of all contents in the view
abbrev pub view_bytes : TableValue → Tid → ℕ
view_bytes table tid = sum_by (λ file. length file.content) (view_contents table tid)

-- ---- locks, at files alone

-- the least transaction but this one whose share passes a test
abbrev pub least_other : (Share → Bool) → Tid → List (Tid × Share) → Option Tid
least_other test me [] = None
least_other test me (e ∷ es) = if not (same_tid me e.0) && test e.1 then Some e.0 else least_other test me es

-- who keeps a change to the name back: another with a pending change to it, else another that read it; of several the least
abbrev pub holder_of_name : TableValue → Tid → List ℕ → Option Tid
holder_of_name table me name =
    or_else (least_other (changes_name name) me table.shares) (least_other (reads_name name) me table.shares)

-- who keeps the transaction from the operation
abbrev pub holder : TableValue → Tid → Op → Option Tid
holder table me (Put name text) = holder_of_name table me name
holder table me (Append name text) = holder_of_name table me name
holder table me (Del name) = holder_of_name table me name
holder table me (Get name) = least_other (changes_name name) me table.shares
holder table me _ = None

-- ---- replies

-- a file has at most 65,536 bytes
abbrev pub size_reply : List ℕ → Reply
size_reply text = if nat_lt 65536 (length text) then replies.TooLong else replies.Done

abbrev pub del_reply : Option (List ℕ) → Reply
del_reply None = replies.Absent
del_reply (Some text) = replies.Done

-- the reply where nothing refuses the operation; none where it is no operation of such a server
abbrev pub free_reply : TableValue → Tid → Op → Option Reply
free_reply table tid (Put name text) = Some (size_reply text)
free_reply table tid (Append name text) = Some (size_reply (text_or_empty (view_contents table tid) name ++ text))
free_reply table tid (Del name) = Some (del_reply (text_at table tid name))
free_reply table tid (Get name) = Some (text_reply (text_at table tid name))
free_reply table tid Listing = Some (replies.Names (map (λ file. file.name) (view_contents table tid)))
free_reply table tid (Note text) = Some replies.Done
free_reply table tid Notes = Some (replies.Notes (view_notes table tid))
free_reply table tid (Bind name text) = Some replies.Done
free_reply table tid (Find name) = Some (text_reply (text_at table tid name))
free_reply table tid (Window name text) = Some replies.Done
free_reply table tid (Title name) = Some (text_reply (text_at table tid name))
free_reply table tid (Keep name text) = Some replies.Done
free_reply table tid (Fetch name) = Some (text_reply (text_at table tid name))
free_reply table tid _ = None

-- the first refusal that holds: 1,024 operations were served, another holds the name; else this reply
abbrev pub unless_refused : TableValue → Tid → Op → Reply → Reply
unless_refused table tid op free =
    if nat_le 1024 (share_of table tid).operations then replies.TooMany
    else (elim (holder table tid op) [ Some other ↦ replies.Busy other | None ↦ free ])

-- the reply to an operation
abbrev pub reply_to : TableValue → Tid → Op → Option Reply
reply_to table tid op = option_map (unless_refused table tid op) (free_reply table tid op)

-- that reply is the one that is due
abbrev pub is_due : Option Reply → Reply → Bool
is_due None reply = false
is_due (Some due) reply = same_reply due reply

-- ---- what serving does

-- an operation with this reply makes a read of a name: a get that was answered, with a text or without
abbrev pub read_by : Op → Reply → List (List ℕ)
read_by (Get name) replies.Absent = name ∷ []
read_by (Get name) (replies.Value text) = name ∷ []
read_by op reply = []

-- an operation with this reply makes a pending change: one that was done
abbrev pub change_by : Op → Reply → List Op
change_by op replies.Done = if is_change op then op ∷ [] else []
change_by op reply = []

-- and every reply but TooMany counts
abbrev pub after_serve : Share → Op → Reply → Share
after_serve share op replies.TooMany = share
after_serve share op reply = record share {
  changes = share.changes ++ change_by op reply;
  reads = share.reads ++ read_by op reply;
  operations = share.operations + 1;
}

abbrev pub served : TableValue → Tid → Op → Reply → TableValue
served table tid op reply = with_share table tid (after_serve (share_of table tid) op reply)

-- ---- votes and the end

-- its last vote here is volatile, or not
abbrev pub with_vote : TableValue → Tid → Bool → TableValue
with_vote table tid voted = with_share table tid (record (share_of table tid) { voted = voted })

-- the transaction holds nothing here any more
abbrev pub released : TableValue → Tid → TableValue
released table tid = record table { shares = remove_entry (is_at (tid_cmp tid)) table.shares }

-- its pending changes are committed, and it holds nothing here any more
abbrev pub committed : TableValue → Tid → TableValue
committed table tid = released (applied table (share_of table tid).changes) tid

-- ---- names: a name is taken where it is bound, or pending for another that voted volatile here

-- another transaction that voted volatile has that name pending
abbrev pub is_claim : Tid → List ℕ → Tid × Share → Bool
is_claim me name entry = not (same_tid me entry.0) && (entry.1.voted && changes_name name entry.1)

abbrev pub is_taken : TableValue → Tid → List ℕ → Bool
is_taken table me name = is_some (file_text table.contents name) || list_any (is_claim me name) table.shares

-- the name that a Bind binds, where it is taken
abbrev pub taken_by : TableValue → Tid → Op → Option (List ℕ)
taken_by table me (Bind name text) = if is_taken table me name then Some name else None
taken_by table me _ = None

-- the lesser of two names
abbrev pub lesser : Option (List ℕ) → Option (List ℕ) → Option (List ℕ)
lesser None other = other
lesser name None = name
lesser (Some name) (Some other) = match_ordering (bytes_cmp name other) (Some name) (Some name) (Some other)

abbrev pub least_taken_in : TableValue → Tid → List Op → Option (List ℕ)
least_taken_in table me [] = None
least_taken_in table me (op ∷ ops) = lesser (taken_by table me op) (least_taken_in table me ops)

-- the least of the transaction's pending names that is taken
abbrev pub least_taken : TableValue → Tid → Option (List ℕ)
least_taken table tid = least_taken_in table tid (share_of table tid).changes

-- ---- a restart

-- changes that a log kept are pending again; each counts as one operation
abbrev pub kept : TableValue → KeptChanges → TableValue
kept table k = with_share table k.tid (record { changes = k.changes; reads = []; operations = length k.changes; voted = false })

-- all that was pending is gone; these changes are committed, in order, and those are pending again
abbrev pub restarted : TableValue → List Op → List KeptChanges → TableValue
restarted table changes keeps = fold kept (record (applied table changes) { shares = [] }) keeps
