-- Tests for equal operations, and for the answer that a reply makes.
use Rattle.std.specs.Prelude.{Bool, true, false, ◌&&◌, ◌==◌}
use Rattle.std.specs.Cmp.Lexicographic.{pointwise}
use Rattle.qs_base.specs.Order.{same_bytes, same_tid}
use Rattle.qs_ops.specs.declared.answer.Answer.{Answer}
use Rattle.qs_ops.specs.declared.answer.Answer.TheVariants as answers
use Rattle.qs_ops.specs.declared.operation.Op.{Op}
use Rattle.qs_ops.specs.declared.operation.Op.TheVariants.{Put, Append, Del, Get, Listing, Note, Notes, Bind, Find, Timer, Left, Window, Title, Keep, Fetch, Lend, Extra}
use Rattle.qs_ops.specs.declared.reply.Reply.{Reply}
use Rattle.qs_ops.specs.declared.reply.Reply.TheVariants as replies

abbrev pub same_op : Op → Op → Bool
same_op (Put name text) (Put n t) = same_bytes name n && same_bytes text t
same_op (Append name text) (Append n t) = same_bytes name n && same_bytes text t
same_op (Del name) (Del n) = same_bytes name n
same_op (Get name) (Get n) = same_bytes name n
same_op Listing Listing = true
same_op (Note text) (Note t) = same_bytes text t
same_op Notes Notes = true
same_op (Bind name text) (Bind n t) = same_bytes name n && same_bytes text t
same_op (Find name) (Find n) = same_bytes name n
same_op (Timer name ticks) (Timer n t) = same_bytes name n && (ticks == t)
same_op (Left name) (Left n) = same_bytes name n
same_op (Window name text) (Window n t) = same_bytes name n && same_bytes text t
same_op (Title name) (Title n) = same_bytes name n
same_op (Keep name text) (Keep n t) = same_bytes name n && same_bytes text t
same_op (Fetch name) (Fetch n) = same_bytes name n
same_op (Lend client) (Lend c) = client.0 == c.0
same_op (Extra code text) (Extra c t) = (code == c) && same_bytes text t
same_op _ _ = false

-- the answer to a request that was served with this reply
abbrev pub is_answer_of : Answer → Reply → Bool
is_answer_of answers.Done replies.Done = true
is_answer_of (answers.Value text) (replies.Value t) = same_bytes text t
is_answer_of (answers.Left ticks) (replies.Left t) = ticks == t
is_answer_of (answers.Names list) (replies.Names l) = pointwise same_bytes list l
is_answer_of (answers.Notes list) (replies.Notes l) = pointwise same_bytes list l
is_answer_of (answers.Busy holder) (replies.Busy h) = same_tid holder h
is_answer_of answers.Absent replies.Absent = true
is_answer_of answers.TooMany replies.TooMany = true
is_answer_of answers.TooLong replies.TooLong = true
is_answer_of _ _ = false
