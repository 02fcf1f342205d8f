-- A session that may send has a number left, so what is posted keeps it spelled; and so does a tick.
use Rattle.std.proofs.Common.{◌≡◌, ℕ, ◌+◌, ◌<◌, ◌-◌, ◌^◌, ◌↔◌, length, OnOk, OnErr, IfOk, IfSome, IsErrOf, Result, Ok, Err, List, Option, Some, None, option_map, sym, subst, arith, inl, inr, ◌⊎◌, ◌≢◌}
use Rattle.std.proofs.lemmas.Bool.{cases_eq}
use Rattle.qs_base.specs.declared.memory.GrowFault.{GrowFault}
use Rattle.qs_base.specs.declared.memory.GrowFault.TheVariants.{Last}
use Rattle.qs_base.specs.declared.memory.NoMemory.{NoMemory}
use Rattle.qs_session_channels.specs.End.{sent, sent_packet, ticked}
use Rattle.qs_packet.specs.Grammar.{IsPacket}
use Rattle.qs_packet.specs.declared.message.Message.{Message}
use Rattle.qs_packet.specs.declared.packet.Packet.{Packet}
use Rattle.qs_node_spelled.specs.Spelled.{IsSendable}
use Rattle.qs_session.proofs.Spelling.{spelled_send, spelled_packet, spelled_ticked}
use Rattle.qs_session.specs.Seen.{SessionValue, seen, IsFrom}
use Rattle.qs_session.specs.Spelled.{IsSpelled}

room : (a : ℕ) → a < 2 ^ 62 → (a ≡ 2 ^ 62 - 1 → ⊥) → a + 1 < 2 ^ 62
room a below never = way (cases_eq a (2 ^ 62 - 1))
  where
    way : (a ≡ 2 ^ 62 - 1) ⊎ (a ≢ 2 ^ 62 - 1) → a + 1 < 2 ^ 62
    way (inl last) = absurd (never last)
    way (inr other) = grind (arith, other, below)

abbrev WasOk : Result (Option Packet) GrowFault → Type 0
WasOk (Ok p) = Unit {0}
WasOk (Err fault) = ⊥

apart : (p : Option Packet) (fault : GrowFault) → Ok p ≡ Err fault → ⊥
apart p fault e = subst WasOk e tt

pub post_spelled : (s new : SessionValue) (message : Message) (result : Result (Option Packet) GrowFault) → IsSpelled s → IsSendable message
    → (IsErrOf result (Last (2 ^ 62 - 1)) ↔ (s.end.acked + length s.end.kept ≡ 2 ^ 62 - 1))
    → OnOk result (new ≡ record s { end = sent s.end message }) → OnErr result (new ≡ s) → IsSpelled new
post_spelled s new message (Ok p) is m last ok err =
    subst IsSpelled (sym ok) (spelled_send s message is m (room (s.end.acked + length s.end.kept) is.numbers (λ h. apart p (Last (2 ^ 62 - 1)) (last.1 h))))
post_spelled s new message (Err fault) is m last ok err = subst IsSpelled (sym err) is

pub packet_spelled : (s : SessionValue) (message : Message) (stamp : ℕ) (result : Result (Option Packet) GrowFault) → IsSpelled s → IsSendable message → stamp < 2 ^ 62
    → (IsErrOf result (Last (2 ^ 62 - 1)) ↔ (s.end.acked + length s.end.kept ≡ 2 ^ 62 - 1))
    → IfOk result (λ p. option_map seen p ≡ sent_packet s.end message stamp) → IfOk result (λ p. IfSome p (IsFrom s)) → IfOk result (λ p. IfSome p IsPacket)
packet_spelled s message stamp (Ok None) is m below last sent from = tt
packet_spelled s message stamp (Ok (Some p)) is m below last sent from =
    spelled_packet s message stamp p is m below (room (s.end.acked + length s.end.kept) is.numbers (λ h. apart (Some p) (Last (2 ^ 62 - 1)) (last.1 h))) sent from
packet_spelled s message stamp (Err fault) is m below last sent from = tt

pub tick_spelled : (s new : SessionValue) (result : Result (List Packet) NoMemory) → IsSpelled s → OnOk result (new ≡ record s { end = ticked s.end }) → OnErr result (new ≡ s) → IsSpelled new
tick_spelled s new (Ok ps) is ok err = subst IsSpelled (sym ok) (spelled_ticked s is)
tick_spelled s new (Err fault) is ok err = subst IsSpelled (sym err) is
