-- What is found in bytes: the packet that they spell, or the first fault from the left.
use Rattle.std.specs.Prelude.{◌≡◌, ℕ, zero, suc, List, [], ◌∷◌, length, map, All, Bool, ◌==◌, nat_le, nat_lt, if◌then◌else◌, Result, Ok, Err, ⊤}
use Rattle.std.specs.Int.{w8, w32}
use Rattle.qs_base.specs.declared.identifiers.NodeNo.{NodeNo}
use Rattle.qs_base.specs.declared.identifiers.Outcome.{Outcome}
use Rattle.qs_base.specs.declared.identifiers.Outcome.TheVariants.{Commit, Abort}
use Rattle.qs_base.specs.declared.identifiers.ServerNo.{ServerNo}
use Rattle.qs_codec.specs.declared.fault.CodecFault.{CodecFault}
use Rattle.qs_codec.specs.declared.fault.CodecFault.TheVariants.{Short, BadTag}
use Rattle.qs_codec.specs.Grammar.{Text}
use Rattle.qs_codec.specs.Reading.{Reading, reading_at, left_of, integer_at, number_at, text_at}
use Rattle.qs_ops.specs.declared.answer.Cause.{Cause}
use Rattle.qs_ops.specs.declared.answer.Cause.TheVariants as causes
use Rattle.qs_ops.specs.declared.reply.Reply.{Reply}
use Rattle.qs_ops.specs.declared.reply.Reply.TheVariants as replies
use Rattle.qs_ops.specs.declared.vote.Reason.{Reason}
use Rattle.qs_ops.specs.declared.vote.Reason.TheVariants as reasons
use Rattle.qs_ops.specs.Spelled.{IsText}
use Rattle.qs_packet.specs.Grammar.{Part, ATag, SpellsPart, SpellsParts, reply_limit}
use Rattle.qs_packet.specs.declared.fault.PacketFault.{PacketFault}
use Rattle.qs_packet.specs.declared.fault.PacketFault.TheVariants as packets
use Rattle.qs_packet.specs.declared.message.Message.{Message}
use Rattle.qs_packet.specs.declared.message.Message.TheVariants.{Hello, Request, Answered, AskVote, Covered, VotedYes, VotedAbort, Tell, Told, Inquire}
use Rattle.qs_packet.specs.declared.packet.Packet.{Packet}
use Rattle.qs_record.specs.declared.fault.RecordFault.{RecordFault}
use Rattle.qs_record.specs.declared.fault.RecordFault.TheVariants as records
use Rattle.qs_record.specs.Grammar.{SpellsAll, is_node, is_server}
use Rattle.qs_record.specs.Reading.{Takes, then_at, byte_where, tid_at, member_at, nodes_at, op_at}

-- ---- what a call gave

-- the fault of a part, as one of a packet
abbrev pub fault_of : RecordFault → PacketFault
fault_of (records.Codec fault) = packets.Codec fault
fault_of records.NoMemory = packets.NoMemory

-- what a call gave is this answer, want of memory aside
abbrev pub GivesIfRoom : Result Packet PacketFault → Result Packet PacketFault → Type 0
GivesIfRoom (Err packets.NoMemory) answer = ⊤
GivesIfRoom result answer = answer ≡ result

-- the part was taken
pub record TakesPart (part : Part) (old new : Reading) : Type 0 where
  pub taken : Takes (SpellsPart part) old new

-- the parts were taken, one behind the other
pub record TakesParts (parts : List Part) (old new : Reading) : Type 0 where
  pub taken : Takes (SpellsParts parts) old new

-- behind a tag, the other parts of these were taken
pub record TakesBehind (tag : ℕ) (parts : List Part) (old new : Reading) : Type 0 where
  pub others : List Part
  pub tagged : parts ≡ ATag tag ∷ others
  pub taken : TakesParts others old new

-- so many texts were taken
pub record TakesTexts (limit count : ℕ) (old new : Reading) (texts : List (List ℕ)) : Type 0 where
  pub counted : length texts ≡ count
  pub each : All (IsText limit) texts
  pub taken : Takes (SpellsAll (map Text texts)) old new

-- ---- parts

unfoldable pub node_at : Reading → Result (NodeNo × Reading) CodecFault
node_at r = then_at (byte_where is_node r) (λ node after. Ok (record { 0 = node }, after))

unfoldable pub server_at : Reading → Result (ServerNo × Reading) CodecFault
server_at r = then_at (byte_where is_server r) (λ server after. Ok (record { 0 = server }, after))

abbrev pub outcome_of : ℕ → Outcome
outcome_of tag = if tag == 1 then Commit else Abort

unfoldable pub outcome_at : Reading → Result (Outcome × Reading) CodecFault
outcome_at r = then_at (byte_where (λ tag. nat_le tag 1) r) (λ tag after. Ok (outcome_of tag, after))

-- so many texts of at most so many bytes
unfoldable pub texts_behind : ℕ → ℕ → Reading → Result (List (List ℕ) × Reading) CodecFault
texts_behind limit zero r = Ok ([], r)
texts_behind limit (suc count) r =
    then_at (text_at limit r) (λ text behind.
    then_at (texts_behind limit count behind) (λ texts after. Ok (text ∷ texts, after)))

-- as many texts as counted; a count above the bytes that are left is short at the count
unfoldable pub texts_at : ℕ → Reading → Result (List (List ℕ) × Reading) CodecFault
texts_at limit r =
    then_at (integer_at w32 r) (λ count behind.
    if nat_lt (length (left_of behind)) count then Err (Short r.at count) else texts_behind limit count behind)

-- ---- replies, reasons and causes: what stands behind a tag, which stood at this place

unfoldable pub value_at : Reading → Result (Reply × Reading) CodecFault
value_at r = then_at (text_at reply_limit r) (λ text after. Ok (replies.Value text, after))

unfoldable pub left_at : Reading → Result (Reply × Reading) CodecFault
left_at r = then_at (integer_at w32 r) (λ ticks after. Ok (replies.Left ticks, after))

unfoldable pub names_at : Reading → Result (Reply × Reading) CodecFault
names_at r = then_at (texts_at 64 r) (λ list after. Ok (replies.Names list, after))

unfoldable pub notes_at : Reading → Result (Reply × Reading) CodecFault
notes_at r = then_at (texts_at reply_limit r) (λ list after. Ok (replies.Notes list, after))

unfoldable pub busy_at : Reading → Result (Reply × Reading) CodecFault
busy_at r = then_at (tid_at r) (λ holder after. Ok (replies.Busy holder, after))

unfoldable pub reply_behind : ℕ → ℕ → Reading → Result (Reply × Reading) CodecFault
reply_behind at tag r =
    if tag == 1 then Ok (replies.Done, r)
    else if tag == 2 then value_at r
    else if tag == 3 then left_at r
    else if tag == 4 then names_at r
    else if tag == 5 then notes_at r
    else if tag == 6 then busy_at r
    else if tag == 7 then Ok (replies.Absent, r)
    else if tag == 8 then Ok (replies.TooMany, r)
    else if tag == 9 then Ok (replies.TooLong, r)
    else Err (BadTag at tag)

unfoldable pub reply_at : Reading → Result (Reply × Reading) CodecFault
reply_at r = then_at (integer_at w8 r) (λ tag behind. reply_behind r.at tag behind)

-- what is made of two numbers
unfoldable pub two_numbers_at : {A : Type 0} → (ℕ → ℕ → A) → Reading → Result (A × Reading) CodecFault
two_numbers_at make r = then_at (number_at r) (λ first behind. then_at (number_at behind) (λ second after. Ok (make first second, after)))

unfoldable pub taken_at : Reading → Result (Reason × Reading) CodecFault
taken_at r = then_at (text_at 64 r) (λ name after. Ok (reasons.Taken name, after))

unfoldable pub code_at : Reading → Result (Reason × Reading) CodecFault
code_at r = then_at (integer_at w32 r) (λ code after. Ok (reasons.Code code, after))

unfoldable pub reason_behind : ℕ → ℕ → Reading → Result (Reason × Reading) CodecFault
reason_behind at tag r =
    if tag == 1 then two_numbers_at reasons.Quota r
    else if tag == 2 then two_numbers_at reasons.LogRoom r
    else if tag == 3 then taken_at r
    else if tag == 4 then code_at r
    else Err (BadTag at tag)

unfoldable pub reason_at : Reading → Result (Reason × Reading) CodecFault
reason_at r = then_at (integer_at w8 r) (λ tag behind. reason_behind r.at tag behind)

unfoldable pub voted_at : Reading → Result (Cause × Reading) CodecFault
voted_at r = then_at (member_at r) (λ member behind. then_at (reason_at behind) (λ reason after. Ok (causes.Voted member reason, after)))

unfoldable pub gone_at : Reading → Result (Cause × Reading) CodecFault
gone_at r = then_at (node_at r) (λ node behind. then_at (number_at behind) (λ inc after. Ok (causes.Gone node inc, after)))

unfoldable pub home_at : Reading → Result (Cause × Reading) CodecFault
home_at r = then_at (number_at r) (λ inc after. Ok (causes.Home inc, after))

unfoldable pub old_at : Reading → Result (Cause × Reading) CodecFault
old_at r = then_at (number_at r) (λ age after. Ok (causes.Old age, after))

unfoldable pub cause_behind : ℕ → ℕ → Reading → Result (Cause × Reading) CodecFault
cause_behind at tag r =
    if tag == 1 then Ok (causes.Asked, r)
    else if tag == 2 then voted_at r
    else if tag == 3 then gone_at r
    else if tag == 4 then home_at r
    else if tag == 5 then two_numbers_at causes.Room r
    else if tag == 6 then old_at r
    else Err (BadTag at tag)

unfoldable pub cause_at : Reading → Result (Cause × Reading) CodecFault
cause_at r = then_at (integer_at w8 r) (λ tag behind. cause_behind r.at tag behind)

-- ---- messages

unfoldable pub request_at : Reading → Result (Message × Reading) CodecFault
request_at r =
    then_at (tid_at r) (λ tid behind_tid.
    then_at (text_at 64 behind_tid) (λ label behind_label.
    then_at (member_at behind_label) (λ member behind_member.
    then_at (integer_at w32 behind_member) (λ number behind_number.
    then_at (server_at behind_number) (λ issuer behind_issuer.
    then_at (op_at behind_issuer) (λ op after. Ok (Request tid label member number issuer op, after)))))))

unfoldable pub answered_at : Reading → Result (Message × Reading) CodecFault
answered_at r =
    then_at (tid_at r) (λ tid behind_tid.
    then_at (member_at behind_tid) (λ member behind_member.
    then_at (integer_at w32 behind_member) (λ number behind_number.
    then_at (reply_at behind_number) (λ reply after. Ok (Answered tid member number reply, after)))))

unfoldable pub ask_vote_at : Reading → Result (Message × Reading) CodecFault
ask_vote_at r = then_at (tid_at r) (λ tid after. Ok (AskVote tid, after))

unfoldable pub covered_at : Reading → Result (Message × Reading) CodecFault
covered_at r = then_at (tid_at r) (λ tid behind. then_at (integer_at w32 behind) (λ up_to after. Ok (Covered tid up_to, after)))

unfoldable pub voted_yes_at : Reading → Result (Message × Reading) CodecFault
voted_yes_at r =
    then_at (tid_at r) (λ tid behind_tid.
    then_at (integer_at w32 behind_tid) (λ up_to behind_up_to.
    then_at (nodes_at behind_up_to) (λ told after. Ok (VotedYes tid up_to told, after))))

unfoldable pub voted_abort_at : Reading → Result (Message × Reading) CodecFault
voted_abort_at r = then_at (tid_at r) (λ tid behind. then_at (cause_at behind) (λ cause after. Ok (VotedAbort tid cause, after)))

unfoldable pub tell_at : Reading → Result (Message × Reading) CodecFault
tell_at r = then_at (tid_at r) (λ tid behind. then_at (outcome_at behind) (λ outcome after. Ok (Tell tid outcome, after)))

unfoldable pub told_at : Reading → Result (Message × Reading) CodecFault
told_at r = then_at (tid_at r) (λ tid behind. then_at (nodes_at behind) (λ further after. Ok (Told tid further, after)))

unfoldable pub inquire_at : Reading → Result (Message × Reading) CodecFault
inquire_at r = then_at (tid_at r) (λ tid after. Ok (Inquire tid, after))

-- behind a number that is 0 a Hello alone may come
unfoldable pub hello_behind : ℕ → ℕ → Reading → Result (Message × Reading) CodecFault
hello_behind at tag r = if tag == 0 then Ok (Hello, r) else Err (BadTag at tag)

-- and behind another one any other message
unfoldable pub message_behind : ℕ → ℕ → Reading → Result (Message × Reading) CodecFault
message_behind at tag r =
    if tag == 1 then request_at r
    else if tag == 2 then answered_at r
    else if tag == 3 then ask_vote_at r
    else if tag == 4 then covered_at r
    else if tag == 5 then voted_yes_at r
    else if tag == 6 then voted_abort_at r
    else if tag == 7 then tell_at r
    else if tag == 8 then told_at r
    else if tag == 9 then inquire_at r
    else Err (BadTag at tag)

unfoldable pub message_at : Bool → Reading → Result (Message × Reading) CodecFault
message_at hello r =
    then_at (integer_at w8 r) (λ tag behind. if hello then hello_behind r.at tag behind else message_behind r.at tag behind)

-- ---- packets

unfoldable pub packet_at : Reading → Result (Packet × Reading) CodecFault
packet_at r =
    then_at (node_at r) (λ from behind_from.
    then_at (number_at behind_from) (λ inc behind_inc.
    then_at (node_at behind_inc) (λ to behind_to.
    then_at (number_at behind_to) (λ to_inc behind_to_inc.
    then_at (number_at behind_to_inc) (λ number behind_number.
    then_at (number_at behind_number) (λ ack behind_ack.
    then_at (number_at behind_ack) (λ stamp behind_stamp.
    then_at (message_at (number == 0) behind_stamp) (λ message after.
    Ok (record { from = from; inc = inc; to = to; to_inc = to_inc; number = number; ack = ack; stamp = stamp; message = message }, after)))))))))

-- behind the packet nothing may stand
abbrev pub whole_of : Result (Packet × Reading) CodecFault → Result Packet PacketFault
whole_of (Ok found) = if nat_lt found.1.at (length found.1.bytes) then Err (packets.Trailing found.1.at) else Ok found.0
whole_of (Err fault) = Err (packets.Codec fault)

-- the packet that the bytes spell, or the first fault
unfoldable pub decoded : List ℕ → Result Packet PacketFault
decoded bytes = whole_of (packet_at (reading_at bytes 0))
