-- What contracts see of a session, a packet and an answer.
use Rattle.std.specs.Prelude.{◌≡◌, ℕ, Option, Some, None}
use Rattle.qs_base.specs.declared.identifiers.NodeNo.{NodeNo}
use Rattle.qs_packet.specs.declared.message.Message.{Message}
use Rattle.qs_packet.specs.declared.packet.Packet.{Packet}
use Rattle.qs_session.specs.declared.taken.Taken.{Taken}
use Rattle.qs_session.specs.declared.taken.Taken.TheVariants
use Rattle.qs_session_channels.specs.End
use Rattle.qs_session_channels.specs.End.{End, Answer}

pub record SessionValue : Type 0 where
  pub me : NodeNo
  pub peer : NodeNo
  pub end : End Message

-- a packet without the names of its nodes
abbrev pub seen : Packet → End.Packet Message
seen p = record { inc = p.inc; to_inc = p.to_inc; number = p.number; ack = p.ack; stamp = p.stamp; message = p.message }

abbrev pub answer_of : Taken → Answer Message
answer_of (TheVariants.OldPeer known got) = End.OldPeer known got
answer_of (TheVariants.NewPeer old new) = End.NewPeer old new
answer_of (TheVariants.OldSelf mine got) = End.OldSelf mine got
answer_of TheVariants.Hello = End.Hello
answer_of (TheVariants.Repeat number) = End.Repeat number
answer_of (TheVariants.Early number expected) = End.Early number expected
answer_of (TheVariants.Message x) = End.Message x

-- the answer where a packet bears the message: none stands for the message itself
abbrev pub answer_with : Option Taken → Message → Answer Message
answer_with None message = End.Message message
answer_with (Some taken) message = answer_of taken

-- a packet by what stands before its message
abbrev pub headed : ℕ → ℕ → ℕ → ℕ → ℕ → Message → End.Packet Message
headed inc to_inc number ack stamp message = record { inc = inc; to_inc = to_inc; number = number; ack = ack; stamp = stamp; message = message }

-- it goes from this node to the peer
abbrev pub IsFrom : SessionValue → Packet → Type 0
IsFrom s p = (p.from ≡ s.me) × (p.to ≡ s.peer)
