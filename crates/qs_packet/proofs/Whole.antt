-- Where its parts are found, so is the message, and the packet.
use Rattle.std.proofs.Common.{◌≡◌, Ok, refl}
use Rattle.qs_codec.specs.Reading.{Reading}
use Rattle.qs_ops.specs.declared.answer.Cause.{Cause}
use Rattle.qs_ops.specs.declared.answer.Cause.TheVariants as causes
use Rattle.qs_ops.specs.declared.reply.Reply.{Reply}
use Rattle.qs_ops.specs.declared.reply.Reply.TheVariants as replies
use Rattle.qs_ops.specs.declared.vote.Reason.{Reason}
use Rattle.qs_ops.specs.declared.vote.Reason.TheVariants as reasons
use Rattle.qs_base.specs.declared.identifiers.Outcome.TheVariants.{Commit, Abort}
use Rattle.qs_packet.specs.Grammar.{reply_parts, reason_parts, cause_parts, message_parts, packet_parts, is_hello, IsNumbered}
use Rattle.qs_packet.specs.Reading.{reply_at, reply_behind, value_at, left_at, names_at, notes_at, busy_at, reason_at, reason_behind, two_numbers_at, taken_at, code_at, cause_at, cause_behind, voted_at, gone_at, home_at, old_at, message_at, hello_behind, message_behind, request_at, answered_at, ask_vote_at, covered_at, voted_yes_at, voted_abort_at, tell_at, told_at, inquire_at, outcome_at, packet_at}
use Rattle.qs_packet.specs.declared.message.Message.{Message}
use Rattle.qs_packet.specs.declared.message.Message.TheVariants.{Hello, Request, Answered, AskVote, Covered, VotedYes, VotedAbort, Tell, Told, Inquire}
use Rattle.qs_packet.specs.declared.packet.Packet.{Packet}
use Rattle.qs_record.specs.Reading.{byte_where}
use Rattle.qs_packet.proofs.Found.{AreAt}

reply_found : (reply : Reply) (r end : Reading) → AreAt (reply_parts reply) r end → reply_at r ≡ Ok (reply, end)
unfolding reply_at reply_behind value_at left_at names_at notes_at busy_at
reply_found replies.Done r end s = rw (s.first, s.others) refl
reply_found (replies.Value text) r end s = rw (s.first, s.others.first, s.others.others) refl
reply_found (replies.Left ticks) r end s = rw (s.first, s.others.first, s.others.others) refl
reply_found (replies.Names list) r end s = rw (s.first, s.others.first, s.others.others) refl
reply_found (replies.Notes list) r end s = rw (s.first, s.others.first, s.others.others) refl
reply_found (replies.Busy holder) r end s = rw (s.first, s.others.first, s.others.others) refl
reply_found replies.Absent r end s = rw (s.first, s.others) refl
reply_found replies.TooMany r end s = rw (s.first, s.others) refl
reply_found replies.TooLong r end s = rw (s.first, s.others) refl

reason_found : (reason : Reason) (r end : Reading) → AreAt (reason_parts reason) r end → reason_at r ≡ Ok (reason, end)
unfolding reason_at reason_behind two_numbers_at taken_at code_at
reason_found (reasons.Quota bytes limit) r end s = rw (s.first, s.others.first, s.others.others.first, s.others.others.others) refl
reason_found (reasons.LogRoom need room) r end s = rw (s.first, s.others.first, s.others.others.first, s.others.others.others) refl
reason_found (reasons.Taken name) r end s = rw (s.first, s.others.first, s.others.others) refl
reason_found (reasons.Code code) r end s = rw (s.first, s.others.first, s.others.others) refl

cause_found : (cause : Cause) (r end : Reading) → AreAt (cause_parts cause) r end → cause_at r ≡ Ok (cause, end)
unfolding cause_at cause_behind voted_at gone_at home_at two_numbers_at old_at
cause_found causes.Asked r end s = rw (s.first, s.others) refl
cause_found (causes.Voted member reason) r end s = rw (s.first, s.others.first, reason_found reason s.others.there end s.others.others) refl
cause_found (causes.Gone node inc) r end s = rw (s.first, s.others.first, s.others.others.first, s.others.others.others) refl
cause_found (causes.Home inc) r end s = rw (s.first, s.others.first, s.others.others) refl
cause_found (causes.Room need room) r end s = rw (s.first, s.others.first, s.others.others.first, s.others.others.others) refl
cause_found (causes.Old age) r end s = rw (s.first, s.others.first, s.others.others) refl

message_found : (message : Message) (r end : Reading) → AreAt (message_parts message) r end → message_at (is_hello message) r ≡ Ok (message, end)
unfolding message_at hello_behind message_behind request_at answered_at ask_vote_at covered_at voted_yes_at voted_abort_at tell_at told_at inquire_at outcome_at byte_where
message_found Hello r end s = rw (s.first, s.others) refl
message_found (Request tid label member number issuer op) r end s =
    let t = s.others.others.others.others in
    rw (s.first, s.others.first, s.others.others.first, s.others.others.others.first, t.first, t.others.first, t.others.others.first, t.others.others.others) refl
message_found (Answered tid member number reply) r end s =
    let t = s.others.others.others in
    rw (s.first, s.others.first, s.others.others.first, t.first, reply_found reply t.there end t.others) refl
message_found (AskVote tid) r end s = rw (s.first, s.others.first, s.others.others) refl
message_found (Covered tid up_to) r end s = rw (s.first, s.others.first, s.others.others.first, s.others.others.others) refl
message_found (VotedYes tid up_to told) r end s = rw (s.first, s.others.first, s.others.others.first, s.others.others.others.first, s.others.others.others.others) refl
message_found (VotedAbort tid cause) r end s = rw (s.first, s.others.first, cause_found cause s.others.there end s.others.others) refl
message_found (Tell tid Commit) r end s = rw (s.first, s.others.first, s.others.others.first, s.others.others.others) refl
message_found (Tell tid Abort) r end s = rw (s.first, s.others.first, s.others.others.first, s.others.others.others) refl
message_found (Told tid further) r end s = rw (s.first, s.others.first, s.others.others.first, s.others.others.others) refl
message_found (Inquire tid) r end s = rw (s.first, s.others.first, s.others.others) refl

pub packet_found : (p : Packet) (r end : Reading) → IsNumbered p → AreAt (packet_parts p) r end → packet_at r ≡ Ok (p, end)
unfolding packet_at
packet_found p r end numbered s =
    let t = s.others.others.others in
    let u = t.others.others.others in
    let message = message_found p.message u.there end u.others in
    rw (s.first, s.others.first, s.others.others.first, t.first, t.others.first, t.others.others.first, u.first, ← numbered, message) refl
