-- Which bytes spell a packet. A packet is a list of parts, and their bytes stand one behind the other.
use Rattle.std.specs.Prelude.{◌≡◌, ℕ, ◌^◌, ◌<◌, Bool, true, false, ◌==◌, List, [], ◌∷◌, length, map, All, ⊤}
use Rattle.qs_base.specs.declared.identifiers.Member.{Member}
use Rattle.qs_base.specs.declared.identifiers.NodeNo.{NodeNo}
use Rattle.qs_base.specs.declared.identifiers.Outcome.{Outcome}
use Rattle.qs_base.specs.declared.identifiers.Outcome.TheVariants.{Commit, Abort}
use Rattle.qs_base.specs.declared.identifiers.ServerNo.{ServerNo}
use Rattle.qs_base.specs.declared.identifiers.Tid.{Tid}
use Rattle.qs_codec.specs.Grammar.{Byte, Word, Number, Text, Spells}
use Rattle.qs_ops.specs.Spelled.{IsSpelled, IsText}
use Rattle.qs_ops.specs.declared.answer.Cause.{Cause}
use Rattle.qs_ops.specs.declared.answer.Cause.TheVariants as causes
use Rattle.qs_ops.specs.declared.operation.Op.{Op}
use Rattle.qs_ops.specs.declared.reply.Reply.{Reply}
use Rattle.qs_ops.specs.declared.reply.Reply.TheVariants as replies
use Rattle.qs_ops.specs.declared.vote.Reason.{Reason}
use Rattle.qs_ops.specs.declared.vote.Reason.TheVariants as reasons
use Rattle.qs_packet.specs.declared.message.Message.{Message}
use Rattle.qs_packet.specs.declared.message.Message.TheVariants.{Hello, Request, Answered, AskVote, Covered, VotedYes, VotedAbort, Tell, Told, Inquire}
use Rattle.qs_packet.specs.declared.packet.Packet.{Packet}
use Rattle.qs_record.specs.Grammar.{Joined, SpellsAll, is_node, is_server, IsTid, IsMember, AreNodes, SpellsTid, SpellsMember, SpellsNodes, SpellsOp}

-- ---- parts

-- a tag, a node, a server, a number of four bytes, a number below 2^62, a text of at most so many bytes,
-- texts of at most so many bytes each, an identifier, a member, a list of nodes, or an operation
pub data Part : Type 0 where
  ATag : ℕ → Part
  ANode : NodeNo → Part
  AServer : ServerNo → Part
  AWord : ℕ → Part
  ANumber : ℕ → Part
  AText : ℕ → List ℕ → Part
  Texts : ℕ → List (List ℕ) → Part
  ATid : Tid → Part
  AMember : Member → Part
  Nodes : List NodeNo → Part
  AnOp : Op → Part

-- the texts have a spelling: each has one, and their count is written in four bytes
pub record AreTexts (limit : ℕ) (texts : List (List ℕ)) : Type 0 where
  pub few : length texts < 2 ^ 32
  pub each : All (IsText limit) texts

-- the part has a spelling
abbrev pub IsPart : Part → Type 0
IsPart (ATag tag) = ⊤
IsPart (ANode node) = is_node node.0 ≡ true
IsPart (AServer server) = is_server server.0 ≡ true
IsPart (AWord n) = ⊤
IsPart (ANumber n) = n < 2 ^ 62
IsPart (AText limit text) = IsText limit text
IsPart (Texts limit texts) = AreTexts limit texts
IsPart (ATid tid) = IsTid tid
IsPart (AMember member) = IsMember member
IsPart (Nodes nodes) = AreNodes nodes
IsPart (AnOp op) = IsSpelled op

-- the bytes spell the part
abbrev pub SpellsPart : Part → List ℕ → Type 0
SpellsPart (ATag tag) bytes = Spells (Byte tag) bytes
SpellsPart (ANode node) bytes = (is_node node.0 ≡ true) × Spells (Byte node.0) bytes
SpellsPart (AServer server) bytes = (is_server server.0 ≡ true) × Spells (Byte server.0) bytes
SpellsPart (AWord n) bytes = Spells (Word n) bytes
SpellsPart (ANumber n) bytes = Spells (Number n) bytes
SpellsPart (AText limit text) bytes = IsText limit text × Spells (Text text) bytes
SpellsPart (Texts limit texts) bytes = AreTexts limit texts × SpellsAll (Word (length texts) ∷ map Text texts) bytes
SpellsPart (ATid tid) bytes = SpellsTid tid bytes
SpellsPart (AMember member) bytes = SpellsMember member bytes
SpellsPart (Nodes nodes) bytes = SpellsNodes nodes bytes
SpellsPart (AnOp op) bytes = SpellsOp op bytes

-- each part has a spelling
abbrev pub AreParts : List Part → Type 0
AreParts [] = ⊤
AreParts (p ∷ ps) = IsPart p × AreParts ps

-- parts one behind the other
abbrev pub SpellsParts : List Part → List ℕ → Type 0
SpellsParts [] bytes = bytes ≡ []
SpellsParts (p ∷ ps) bytes = Joined (SpellsPart p) (SpellsParts ps) bytes

-- ---- messages

-- the text of a reply may be that of a file from a log that was handed in
abbrev pub reply_limit : ℕ
reply_limit = 16777216

abbrev pub reply_parts : Reply → List Part
reply_parts replies.Done = ATag 1 ∷ []
reply_parts (replies.Value text) = ATag 2 ∷ AText reply_limit text ∷ []
reply_parts (replies.Left ticks) = ATag 3 ∷ AWord ticks ∷ []
reply_parts (replies.Names list) = ATag 4 ∷ Texts 64 list ∷ []
reply_parts (replies.Notes list) = ATag 5 ∷ Texts reply_limit list ∷ []
reply_parts (replies.Busy holder) = ATag 6 ∷ ATid holder ∷ []
reply_parts replies.Absent = ATag 7 ∷ []
reply_parts replies.TooMany = ATag 8 ∷ []
reply_parts replies.TooLong = ATag 9 ∷ []

abbrev pub reason_parts : Reason → List Part
reason_parts (reasons.Quota bytes limit) = ATag 1 ∷ ANumber bytes ∷ ANumber limit ∷ []
reason_parts (reasons.LogRoom need room) = ATag 2 ∷ ANumber need ∷ ANumber room ∷ []
reason_parts (reasons.Taken name) = ATag 3 ∷ AText 64 name ∷ []
reason_parts (reasons.Code code) = ATag 4 ∷ AWord code ∷ []

abbrev pub cause_parts : Cause → List Part
cause_parts causes.Asked = ATag 1 ∷ []
cause_parts (causes.Voted member reason) = ATag 2 ∷ AMember member ∷ reason_parts reason
cause_parts (causes.Gone node inc) = ATag 3 ∷ ANode node ∷ ANumber inc ∷ []
cause_parts (causes.Home inc) = ATag 4 ∷ ANumber inc ∷ []
cause_parts (causes.Room need room) = ATag 5 ∷ ANumber need ∷ ANumber room ∷ []
cause_parts (causes.Old age) = ATag 6 ∷ ANumber age ∷ []

abbrev pub outcome_tag : Outcome → ℕ
outcome_tag Commit = 1
outcome_tag Abort = 0

-- a message is its tag and its fields
abbrev pub message_parts : Message → List Part
message_parts Hello = ATag 0 ∷ []
message_parts (Request tid label member number issuer op) =
    ATag 1 ∷ ATid tid ∷ AText 64 label ∷ AMember member ∷ AWord number ∷ AServer issuer ∷ AnOp op ∷ []
message_parts (Answered tid member number reply) = ATag 2 ∷ ATid tid ∷ AMember member ∷ AWord number ∷ reply_parts reply
message_parts (AskVote tid) = ATag 3 ∷ ATid tid ∷ []
message_parts (Covered tid up_to) = ATag 4 ∷ ATid tid ∷ AWord up_to ∷ []
message_parts (VotedYes tid up_to told) = ATag 5 ∷ ATid tid ∷ AWord up_to ∷ Nodes told ∷ []
message_parts (VotedAbort tid cause) = ATag 6 ∷ ATid tid ∷ cause_parts cause
message_parts (Tell tid outcome) = ATag 7 ∷ ATid tid ∷ ATag (outcome_tag outcome) ∷ []
message_parts (Told tid further) = ATag 8 ∷ ATid tid ∷ Nodes further ∷ []
message_parts (Inquire tid) = ATag 9 ∷ ATid tid ∷ []

-- the message has a spelling
abbrev pub IsMessage : Message → Type 0
IsMessage message = AreParts (message_parts message)

-- ---- packets

abbrev pub is_hello : Message → Bool
is_hello Hello = true
is_hello (Request tid label member number issuer op) = false
is_hello (Answered tid member number reply) = false
is_hello (AskVote tid) = false
is_hello (Covered tid up_to) = false
is_hello (VotedYes tid up_to told) = false
is_hello (VotedAbort tid cause) = false
is_hello (Tell tid outcome) = false
is_hello (Told tid further) = false
is_hello (Inquire tid) = false

-- a packet is its head and its message
abbrev pub packet_parts : Packet → List Part
packet_parts p =
    ANode p.from ∷ ANumber p.inc ∷ ANode p.to ∷ ANumber p.to_inc ∷ ANumber p.number ∷ ANumber p.ack ∷ ANumber p.stamp ∷ message_parts p.message

-- a Hello has number 0, and no other message has
abbrev pub IsNumbered : Packet → Type 0
IsNumbered p = is_hello p.message ≡ (p.number == 0)

-- the packet has a spelling
pub record IsPacket (p : Packet) : Type 0 where
  pub from : is_node p.from.0 ≡ true
  pub inc : p.inc < 2 ^ 62
  pub to : is_node p.to.0 ≡ true
  pub to_inc : p.to_inc < 2 ^ 62
  pub number : p.number < 2 ^ 62
  pub ack : p.ack < 2 ^ 62
  pub stamp : p.stamp < 2 ^ 62
  pub message : IsMessage p.message
  pub numbered : IsNumbered p

-- the bytes spell the packet
pub record SpellsPacket (p : Packet) (bytes : List ℕ) : Type 0 where
  pub numbered : IsNumbered p
  pub spelled : SpellsParts (packet_parts p) bytes
