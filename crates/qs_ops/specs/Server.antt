-- A server of a node, seen through the trait: which it is, what it holds, and what each call makes of that. The laws of
-- `Server` cite these functions, and so does whoever speaks of a node's servers without knowing which they are.
use Rattle.std.specs.Prelude.{◌≡◌, ℕ, ◌+◌, ◌<◌, ◌==◌, Bool, true, false, List, [], ◌∷◌, ◌++◌, length, map, take, drop, Option, Some, None, nat_lt, if◌then◌else◌}
use Rattle.qs_base.specs.declared.identifiers.Tid.{Tid}
use Rattle.qs_ops.specs.Operations.{server_of}
use Rattle.qs_ops.specs.Spelled.{prepare_length}
use Rattle.qs_ops.specs.declared.file.File.{File}
use Rattle.qs_ops.specs.declared.operation.Op.{Op}
use Rattle.qs_ops.specs.declared.operation.Op.TheVariants.{Put, Append, Note}
use Rattle.qs_ops.specs.declared.reply.Reply.{Reply}
use Rattle.qs_ops.specs.declared.reply.Reply.TheVariants as replies
use Rattle.qs_ops.specs.declared.vote.Notice.{Notice}
use Rattle.qs_ops.specs.declared.vote.Notice.TheVariants as notices
use Rattle.qs_ops.specs.declared.vote.Reason.TheVariants as reasons
use Rattle.qs_ops.specs.declared.vote.Vote.{Vote}
use Rattle.qs_ops.specs.declared.vote.Vote.TheVariants as votes
use Rattle.qs_ops.specs.Table.{TableValue, no_table, share_of, has_changes, any_holds, view_bytes, least_taken, reply_to, served, released, committed, with_vote, kept}
use Rattle.qs_ops.specs.Timers.{TimersValue, no_timers, timer_reply_to, timer_served, timers_ended}
use Rattle.qs_ops.specs.declared.server.ServerKind.{ServerKind}
use Rattle.qs_ops.specs.declared.server.ServerKind.TheVariants.{Files, Audit, Names, Timers, Windows, Scratch, Nothing}
use Rattle.qs_ops.specs.Servers.{files_no, audit_no, names_no, timers_no, windows_no, scratch_no, extra_no}

pub record ServerValue : Type 0 where
  pub kind : ServerKind
  pub table : TableValue  -- of files, audit, names, windows and scratch
  pub timers : TimersValue  -- of timers

-- its number among the servers of its node
abbrev pub number_of : ServerKind → ℕ
number_of (Files quota) = files_no
number_of Audit = audit_no
number_of Names = names_no
number_of Timers = timers_no
number_of Windows = windows_no
number_of Scratch = scratch_no
number_of Nothing = extra_no

-- the operation is one of its own
abbrev pub is_own : ServerKind → Op → Bool
is_own kind op = elim (server_of op) [ None ↦ false | Some server ↦ server.0 == number_of kind ]

-- ---- serving

-- the reply to an operation of its own; the further server that has nothing answers that it is absent
abbrev pub reply_in : ServerValue → ServerKind → Tid → Op → Option Reply
reply_in server Timers tid op = timer_reply_to server.timers tid op
reply_in server Nothing tid op = Some replies.Absent
reply_in server kind tid op = reply_to server.table tid op

abbrev pub reply_of : ServerValue → Tid → Op → Option Reply
reply_of server tid op = reply_in server server.kind tid op

abbrev pub served_by : ServerKind → Tid → Op → Reply → ServerValue → ServerValue
served_by Timers tid op reply server = record server { timers = timer_served server.timers tid op reply }
served_by Nothing tid op reply server = server
served_by kind tid op reply server = record server { table = served server.table tid op reply }

abbrev pub after_serving : ServerValue → Tid → Op → Reply → ServerValue
after_serving server tid op reply = served_by server.kind tid op reply server

-- ---- voting

-- a Prepare record of the pending changes, with the bytes that its batch and the transaction's end take besides
abbrev pub vote_need : TableValue → Tid → ℕ → ℕ
vote_need table tid frame = frame + prepare_length (share_of table tid).changes

-- what is pending goes on record where the log has room
abbrev pub vote_in_room : TableValue → Tid → ℕ → ℕ → Vote
vote_in_room table tid free frame =
    if nat_lt free (vote_need table tid frame) then votes.Abort (reasons.LogRoom (vote_need table tid frame) free) else votes.Recoverable

abbrev pub files_vote : ℕ → TableValue → Tid → ℕ → ℕ → Vote
files_vote quota table tid free frame =
    if nat_lt quota (view_bytes table tid) then votes.Abort (reasons.Quota (view_bytes table tid) quota)
    else vote_in_room table tid free frame

abbrev pub names_vote : Option (List ℕ) → Vote
names_vote None = votes.Volatile
names_vote (Some name) = votes.Abort (reasons.Taken name)

-- where something is pending
abbrev pub changes_vote : ServerKind → TableValue → Tid → ℕ → ℕ → Vote
changes_vote (Files quota) table tid free frame = files_vote quota table tid free frame
changes_vote Audit table tid free frame = vote_in_room table tid free frame
changes_vote Names table tid free frame = names_vote (least_taken table tid)
changes_vote kind table tid free frame = votes.ReadOnly

-- the vote of a server that votes: read-only exactly with nothing pending
abbrev pub vote_of : ServerValue → Tid → ℕ → ℕ → Vote
vote_of server tid free frame =
    if has_changes server.table tid then changes_vote server.kind server.table tid free frame else votes.ReadOnly

-- a read-only vote ends the reads; of another it is kept whether it is volatile
abbrev pub voted_in : TableValue → Tid → Vote → TableValue
voted_in table tid votes.ReadOnly = released table tid
voted_in table tid votes.Volatile = with_vote table tid true
voted_in table tid votes.Recoverable = table
voted_in table tid (votes.Abort reason) = with_vote table tid false

abbrev pub voted_by : ServerKind → Tid → Vote → ServerValue → ServerValue
voted_by Nothing tid ballot server = server
voted_by kind tid ballot server = record server { table = voted_in server.table tid ballot }

abbrev pub after_vote : ServerValue → Tid → Vote → ServerValue
after_vote server tid ballot = voted_by server.kind tid ballot server

-- ---- notices

abbrev pub noted_in : Notice → Tid → TableValue → TableValue
noted_in notices.Commit tid table = committed table tid
noted_in notices.Abort tid table = released table tid
noted_in notices.Ending tid table = table

-- timers end by a notice of their own
abbrev pub timers_noted : Notice → Tid → TimersValue → TimersValue
timers_noted notices.Ending tid timers = timers_ended timers tid
timers_noted notice tid timers = timers

abbrev pub noted_by : ServerKind → Notice → Tid → ServerValue → ServerValue
noted_by Timers notice tid server = record server { timers = timers_noted notice tid server.timers }
noted_by Nothing notice tid server = server
noted_by kind notice tid server = record server { table = noted_in notice tid server.table }

abbrev pub after_notice : ServerValue → Tid → Notice → ServerValue
after_notice server tid notice = noted_by server.kind notice tid server

-- ---- what is pending

-- a transaction has changes or reads there
abbrev pub holds_some : ServerValue → Bool
holds_some server = any_holds server.table.shares

-- ---- what a log keeps

-- a server whose votes and changes a log keeps
abbrev pub is_logged : ServerKind → Bool
is_logged (Files quota) = true
is_logged Audit = true
is_logged kind = false

-- the changes that are pending for the transaction
abbrev pub changes_in : ServerValue → Tid → List Op
changes_in server tid = (share_of server.table tid).changes

-- just these changes are pending again
abbrev pub after_keeping : ServerValue → Tid → List Op → ServerValue
after_keeping server tid changes =
    if is_logged server.kind then record server { table = kept server.table (record { tid = tid; changes = changes }) } else server

-- appends of this text, 4,096 bytes at a time and the last of at most so many
abbrev pub AreAppends : List ℕ → List ℕ → List Op → Type 0
AreAppends name text [] = text ≡ []
AreAppends name text (op ∷ ops) =
    (op ≡ Append name (take 4096 text)) × ((0 < length text) × AreAppends name (drop 4096 text) ops)

-- a put of the file's first 4,096 bytes, and appends of the further ones
abbrev pub IsFileWritten : File → List Op → Type 0
IsFileWritten file [] = ⊥
IsFileWritten file (op ∷ ops) =
    (op ≡ Put file.name (take 4096 file.content)) × AreAppends file.name (drop 4096 file.content) ops

-- these changes write the files, one after the other
pub data AreFilesWritten : List File → List Op → Type 0 where
  none : AreFilesWritten [] []
  next : (file : File) (files : List File) (first rest : List Op) → IsFileWritten file first → AreFilesWritten files rest → AreFilesWritten (file ∷ files) (first ++ rest)

abbrev pub note_of : List ℕ → Op
note_of text = Note text

-- the changes that give the committed contents again; a server whose changes no log keeps has none
abbrev pub AreContents : ServerKind → TableValue → List Op → Type 0
AreContents (Files quota) table changes = AreFilesWritten table.contents changes
AreContents Audit table changes = changes ≡ map note_of table.notes
AreContents kind table changes = changes ≡ []

-- nothing is left
abbrev pub cleared : ServerValue → ServerValue
cleared server = record server { table = no_table; timers = no_timers }
