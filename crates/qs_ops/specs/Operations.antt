-- Which server an operation is for, and which answer a reply makes.
use Rattle.std.specs.Prelude.{ℕ, Option, Some, None, if◌then◌else◌, nat_lt}
use Rattle.qs_base.specs.declared.identifiers.ServerNo.{ServerNo}
use Rattle.qs_ops.specs.declared.answer.Answer.{Answer}
use Rattle.qs_ops.specs.declared.answer.Answer.TheVariants as answers
use Rattle.qs_ops.specs.declared.reply.Reply.{Reply}
use Rattle.qs_ops.specs.declared.reply.Reply.TheVariants as replies
use Rattle.qs_ops.specs.declared.operation.Op.{Op}
use Rattle.qs_ops.specs.declared.operation.Op.TheVariants.{Put, Append, Del, Get, Listing, Note, Notes, Bind, Find, Timer, Left, Window, Title, Keep, Fetch, Lend, Extra}
use Rattle.qs_ops.specs.Servers.{files_no, audit_no, names_no, timers_no, windows_no, scratch_no, extra_no, client_no}

-- client k as a borrower is server 32 + k
abbrev pub borrower : ℕ → Option ServerNo
borrower client = if nat_lt client 224 then Some (record { 0 = client_no client }) else None

-- the server whose operation it is
abbrev pub server_of : Op → Option ServerNo
server_of (Put name text) = Some (record { 0 = files_no })
server_of (Append name text) = Some (record { 0 = files_no })
server_of (Del name) = Some (record { 0 = files_no })
server_of (Get name) = Some (record { 0 = files_no })
server_of Listing = Some (record { 0 = files_no })
server_of (Note text) = Some (record { 0 = audit_no })
server_of Notes = Some (record { 0 = audit_no })
server_of (Bind name text) = Some (record { 0 = names_no })
server_of (Find name) = Some (record { 0 = names_no })
server_of (Timer name ticks) = Some (record { 0 = timers_no })
server_of (Left name) = Some (record { 0 = timers_no })
server_of (Window name text) = Some (record { 0 = windows_no })
server_of (Title name) = Some (record { 0 = windows_no })
server_of (Keep name text) = Some (record { 0 = scratch_no })
server_of (Fetch name) = Some (record { 0 = scratch_no })
server_of (Extra code text) = Some (record { 0 = extra_no })
server_of (Lend client) = borrower client.0

-- the answer to a request that was served with this reply
abbrev pub answer_of : Reply → Answer
answer_of replies.Done = answers.Done
answer_of (replies.Value text) = answers.Value text
answer_of (replies.Left ticks) = answers.Left ticks
answer_of (replies.Names list) = answers.Names list
answer_of (replies.Notes list) = answers.Notes list
answer_of (replies.Busy holder) = answers.Busy holder
answer_of replies.Absent = answers.Absent
answer_of replies.TooMany = answers.TooMany
answer_of replies.TooLong = answers.TooLong
