-- What was taken behind each tag.
use Rattle.std.proofs.Common.{ℕ, List}
use Rattle.qs_base.specs.declared.identifiers.Member.{Member}
use Rattle.qs_base.specs.declared.identifiers.NodeNo.{NodeNo}
use Rattle.qs_base.specs.declared.identifiers.Outcome.{Outcome}
use Rattle.qs_base.specs.declared.identifiers.ServerNo.{ServerNo}
use Rattle.qs_base.specs.declared.identifiers.Tid.{Tid}
use Rattle.qs_codec.specs.Reading.{Reading}
use Rattle.qs_ops.specs.declared.answer.Cause.{Cause}
use Rattle.qs_ops.specs.declared.answer.Cause.TheVariants as causes
use Rattle.qs_ops.specs.declared.operation.Op.{Op}
use Rattle.qs_ops.specs.declared.reply.Reply.{Reply}
use Rattle.qs_ops.specs.declared.reply.Reply.TheVariants as replies
use Rattle.qs_ops.specs.declared.vote.Reason.{Reason}
use Rattle.qs_ops.specs.declared.vote.Reason.TheVariants as reasons
use Rattle.qs_packet.specs.Grammar.{ANode, AServer, AWord, ANumber, AText, Texts, ATid, AMember, ATag, Nodes, AnOp, reply_limit, reply_parts, reason_parts, cause_parts, message_parts, outcome_tag}
use Rattle.qs_packet.specs.Reading.{TakesPart, TakesParts, TakesBehind}
use Rattle.qs_packet.specs.declared.message.Message.TheVariants.{Request, Answered, AskVote, Covered, VotedYes, VotedAbort, Tell, Told, Inquire}
use Rattle.qs_packet.proofs.Parts.{behind_none, behind_one, behind_two, behind_three, behind_one_more, behind_three_more, behind_six}

-- ---- messages

pub request_taken : (tid : Tid) (label : List ℕ) (member : Member) (number : ℕ) (issuer : ServerNo) (op : Op) (a b c d e f g : Reading)
    → TakesPart (ATid tid) a b → TakesPart (AText 64 label) b c → TakesPart (AMember member) c d → TakesPart (AWord number) d e → TakesPart (AServer issuer) e f → TakesPart (AnOp op) f g
    → TakesBehind 1 (message_parts (Request tid label member number issuer op)) a g
request_taken tid label member number issuer op a b c d e f g p q r s t u = behind_six p q r s t u

pub answered_taken : (tid : Tid) (member : Member) (number : ℕ) (reply : Reply) (a b c d e : Reading)
    → TakesPart (ATid tid) a b → TakesPart (AMember member) b c → TakesPart (AWord number) c d → TakesParts (reply_parts reply) d e
    → TakesBehind 2 (message_parts (Answered tid member number reply)) a e
answered_taken tid member number reply a b c d e p q r s = behind_three_more p q r s

pub ask_vote_taken : (tid : Tid) (a b : Reading) → TakesPart (ATid tid) a b → TakesBehind 3 (message_parts (AskVote tid)) a b
ask_vote_taken tid a b p = behind_one p

pub covered_taken : (tid : Tid) (up_to : ℕ) (a b c : Reading) → TakesPart (ATid tid) a b → TakesPart (AWord up_to) b c → TakesBehind 4 (message_parts (Covered tid up_to)) a c
covered_taken tid up_to a b c p q = behind_two p q

pub voted_yes_taken : (tid : Tid) (up_to : ℕ) (told : List NodeNo) (a b c d : Reading)
    → TakesPart (ATid tid) a b → TakesPart (AWord up_to) b c → TakesPart (Nodes told) c d → TakesBehind 5 (message_parts (VotedYes tid up_to told)) a d
voted_yes_taken tid up_to told a b c d p q r = behind_three p q r

pub voted_abort_taken : (tid : Tid) (cause : Cause) (a b c : Reading)
    → TakesPart (ATid tid) a b → TakesParts (cause_parts cause) b c → TakesBehind 6 (message_parts (VotedAbort tid cause)) a c
voted_abort_taken tid cause a b c p q = behind_one_more p q

pub tell_taken : (tid : Tid) (outcome : Outcome) (a b c : Reading)
    → TakesPart (ATid tid) a b → TakesPart (ATag (outcome_tag outcome)) b c → TakesBehind 7 (message_parts (Tell tid outcome)) a c
tell_taken tid outcome a b c p q = behind_two p q

pub told_taken : (tid : Tid) (further : List NodeNo) (a b c : Reading)
    → TakesPart (ATid tid) a b → TakesPart (Nodes further) b c → TakesBehind 8 (message_parts (Told tid further)) a c
told_taken tid further a b c p q = behind_two p q

pub inquire_taken : (tid : Tid) (a b : Reading) → TakesPart (ATid tid) a b → TakesBehind 9 (message_parts (Inquire tid)) a b
inquire_taken tid a b p = behind_one p

-- ---- replies

pub done_taken : (a : Reading) → TakesBehind 1 (reply_parts replies.Done) a a
done_taken a = behind_none

pub value_taken : (text : List ℕ) (a b : Reading) → TakesPart (AText reply_limit text) a b → TakesBehind 2 (reply_parts (replies.Value text)) a b
value_taken text a b p = behind_one p

pub left_taken : (ticks : ℕ) (a b : Reading) → TakesPart (AWord ticks) a b → TakesBehind 3 (reply_parts (replies.Left ticks)) a b
left_taken ticks a b p = behind_one p

pub names_taken : (list : List (List ℕ)) (a b : Reading) → TakesPart (Texts 64 list) a b → TakesBehind 4 (reply_parts (replies.Names list)) a b
names_taken list a b p = behind_one p

pub notes_taken : (list : List (List ℕ)) (a b : Reading) → TakesPart (Texts reply_limit list) a b → TakesBehind 5 (reply_parts (replies.Notes list)) a b
notes_taken list a b p = behind_one p

pub busy_taken : (holder : Tid) (a b : Reading) → TakesPart (ATid holder) a b → TakesBehind 6 (reply_parts (replies.Busy holder)) a b
busy_taken holder a b p = behind_one p

pub absent_taken : (a : Reading) → TakesBehind 7 (reply_parts replies.Absent) a a
absent_taken a = behind_none

pub too_many_taken : (a : Reading) → TakesBehind 8 (reply_parts replies.TooMany) a a
too_many_taken a = behind_none

pub too_long_taken : (a : Reading) → TakesBehind 9 (reply_parts replies.TooLong) a a
too_long_taken a = behind_none

-- ---- causes

pub asked_taken : (a : Reading) → TakesBehind 1 (cause_parts causes.Asked) a a
asked_taken a = behind_none

pub voted_taken : (member : Member) (reason : Reason) (a b c : Reading)
    → TakesPart (AMember member) a b → TakesParts (reason_parts reason) b c → TakesBehind 2 (cause_parts (causes.Voted member reason)) a c
voted_taken member reason a b c p q = behind_one_more p q

pub gone_taken : (node : NodeNo) (inc : ℕ) (a b c : Reading) → TakesPart (ANode node) a b → TakesPart (ANumber inc) b c → TakesBehind 3 (cause_parts (causes.Gone node inc)) a c
gone_taken node inc a b c p q = behind_two p q

pub home_taken : (inc : ℕ) (a b : Reading) → TakesPart (ANumber inc) a b → TakesBehind 4 (cause_parts (causes.Home inc)) a b
home_taken inc a b p = behind_one p

pub room_taken : (need room : ℕ) (a b c : Reading) → TakesPart (ANumber need) a b → TakesPart (ANumber room) b c → TakesBehind 5 (cause_parts (causes.Room need room)) a c
room_taken need room a b c p q = behind_two p q

pub old_taken : (age : ℕ) (a b : Reading) → TakesPart (ANumber age) a b → TakesBehind 6 (cause_parts (causes.Old age)) a b
old_taken age a b p = behind_one p

-- ---- reasons

pub quota_taken : (bytes limit : ℕ) (a b c : Reading) → TakesPart (ANumber bytes) a b → TakesPart (ANumber limit) b c → TakesBehind 1 (reason_parts (reasons.Quota bytes limit)) a c
quota_taken bytes limit a b c p q = behind_two p q

pub log_room_taken : (need room : ℕ) (a b c : Reading) → TakesPart (ANumber need) a b → TakesPart (ANumber room) b c → TakesBehind 2 (reason_parts (reasons.LogRoom need room)) a c
log_room_taken need room a b c p q = behind_two p q

pub name_taken_taken : (name : List ℕ) (a b : Reading) → TakesPart (AText 64 name) a b → TakesBehind 3 (reason_parts (reasons.Taken name)) a b
name_taken_taken name a b p = behind_one p

pub code_taken : (code : ℕ) (a b : Reading) → TakesPart (AWord code) a b → TakesBehind 4 (reason_parts (reasons.Code code)) a b
code_taken code a b p = behind_one p
