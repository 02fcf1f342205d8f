-- Tests for equal replies, reasons and causes.
use Rattle.std.specs.Prelude.{Bool, true, false, ◌&&◌, ◌==◌}
use Rattle.std.specs.Cmp.Lexicographic.{pointwise}
use Rattle.qs_base.specs.Order.{same_bytes, same_tid, same_member}
use Rattle.qs_ops.specs.declared.reply.Reply.{Reply}
use Rattle.qs_ops.specs.declared.reply.Reply.TheVariants as replies
use Rattle.qs_ops.specs.declared.vote.Reason.{Reason}
use Rattle.qs_ops.specs.declared.vote.Reason.TheVariants.{Quota, LogRoom, Taken, Code}
use Rattle.qs_ops.specs.declared.answer.Cause.{Cause}
use Rattle.qs_ops.specs.declared.answer.Cause.TheVariants.{Asked, Voted, Gone, Home, Room, Old}

abbrev pub same_reply : Reply → Reply → Bool
same_reply replies.Done replies.Done = true
same_reply (replies.Value text) (replies.Value other) = same_bytes text other
same_reply (replies.Left ticks) (replies.Left other) = ticks == other
same_reply (replies.Names list) (replies.Names other) = pointwise same_bytes list other
same_reply (replies.Notes list) (replies.Notes other) = pointwise same_bytes list other
same_reply (replies.Busy holder) (replies.Busy other) = same_tid holder other
same_reply replies.Absent replies.Absent = true
same_reply replies.TooMany replies.TooMany = true
same_reply replies.TooLong replies.TooLong = true
same_reply _ _ = false

abbrev pub same_reason : Reason → Reason → Bool
same_reason (Quota bytes limit) (Quota b l) = (bytes == b) && (limit == l)
same_reason (LogRoom need room) (LogRoom n r) = (need == n) && (room == r)
same_reason (Taken name) (Taken other) = same_bytes name other
same_reason (Code code) (Code other) = code == other
same_reason _ _ = false

abbrev pub same_cause : Cause → Cause → Bool
same_cause Asked Asked = true
same_cause (Voted member reason) (Voted m r) = same_member member m && same_reason reason r
same_cause (Gone node inc) (Gone n i) = (node.0 == n.0) && (inc == i)
same_cause (Home inc) (Home i) = inc == i
same_cause (Room need room) (Room n r) = (need == n) && (room == r)
same_cause (Old age) (Old a) = age == a
same_cause _ _ = false
