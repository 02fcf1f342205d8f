-- What a reader of whole packets answers, and that no packet's spelling is a front of another's.
use Rattle.std.proofs.Common.{◌≡◌, ◌+◌, ◌<◌, ℕ, List, [], ◌++◌, length, nat_lt, true, false, Result, Ok, Err, IsErrAnd, MatchResult, refl, ap, ◌∙◌, sym, append-nil, arith}
use Rattle.std.proofs.lemmas.Bool.{le-ltb, lt-ltb}
use Rattle.std.proofs.lemmas.List.{length-drop, nil_from_length}
use Rattle.qs_codec.specs.Reading.{Reading, reading_at, reading_after, left_of}
use Rattle.qs_packet.specs.Grammar.{packet_parts, IsNumbered, SpellsPacket}
use Rattle.qs_packet.specs.Reading.{TakesParts, GivesIfRoom, fault_of, packet_at, decoded}
use Rattle.qs_packet.specs.declared.fault.PacketFault.{PacketFault}
use Rattle.qs_packet.specs.declared.fault.PacketFault.TheVariants as packets
use Rattle.qs_packet.specs.declared.packet.Packet.{Packet}
use Rattle.qs_packet.proofs.Found.{parts_at}
use Rattle.qs_packet.proofs.Whole.{packet_found}
use Rattle.qs_record.specs.declared.fault.RecordFault.{RecordFault}
use Rattle.qs_record.specs.declared.fault.RecordFault.TheVariants as records
use Rattle.qs_record.specs.Reading.{FindsIfRoom}
use Rattle.qs_record.proofs.Found.{IsFoundBy, one_front}

packet_read : (p : Packet) → IsFoundBy packet_at (SpellsPacket p) p
packet_read p = record { found = λ r part rest s whole. packet_found p r (reading_after r (length part)) s.numbered (parts_at (packet_parts p) r part rest s.spelled whole) }

pub packet_front : (p q : Packet) (a b x y : List ℕ) → SpellsPacket p a → SpellsPacket q b → a ++ x ≡ b ++ y → (p ≡ q) × (a ≡ b)
packet_front p q = one_front packet_at (SpellsPacket p) (SpellsPacket q) p q (packet_read p) (packet_read q)

-- ---- what is answered

nothing_left : (r : Reading) → length (left_of r) ≡ 0 → nat_lt r.at (length r.bytes) ≡ false
nothing_left r none = le-ltb _ _ (omega (arith, none, length-drop r.at r.bytes))

something_left : (r : Reading) → 0 < length (left_of r) → nat_lt r.at (length r.bytes) ≡ true
something_left r some = lt-ltb _ _ (omega (arith, some, length-drop r.at r.bytes))

pub spelled_decoded : (p : Packet) (bytes : List ℕ) → SpellsPacket p bytes → decoded bytes ≡ Ok p
unfolding decoded
spelled_decoded p bytes s =
    let found = (packet_read p).found (reading_at bytes 0) bytes [] s (sym (append-nil bytes)) in
    let end : nat_lt (0 + length bytes) (length bytes) ≡ false = le-ltb _ _ (omega arith) in
    rw (found, end) refl

-- a front that is refused
pub refused : (result : Result Packet PacketFault) (fault : RecordFault) (new : Reading) (bytes : List ℕ) → IsErrAnd result (λ f. f ≡ fault_of fault)
    → FindsIfRoom {X = Packet} (Err fault) new (packet_at (reading_at bytes 0)) → GivesIfRoom result (decoded bytes)
unfolding decoded
refused (Ok p) fault new bytes is finds = absurd is
refused (Err f) (records.Codec fault) new bytes is finds = rw (is, finds) refl
refused (Err f) records.NoMemory new bytes is finds = rw is tt

pub trailing : (p : Packet) (r : Reading) (bytes : List ℕ) → packet_at (reading_at bytes 0) ≡ Ok (p, r) → 0 < length (left_of r) → decoded bytes ≡ Err (packets.Trailing r.at)
unfolding decoded
trailing p r bytes e some = rw (e, something_left r some) refl

pub answered : (p : Packet) (r : Reading) (bytes : List ℕ) → packet_at (reading_at bytes 0) ≡ Ok (p, r) → length (left_of r) ≡ 0 → decoded bytes ≡ Ok p
unfolding decoded
answered p r bytes e none = rw (e, nothing_left r none) refl

pub spelled : (p : Packet) (r : Reading) (bytes : List ℕ) → IsNumbered p → TakesParts (packet_parts p) (reading_at bytes 0) r → length (left_of r) ≡ 0 → SpellsPacket p bytes
spelled p r bytes numbered t none =
    let empty : left_of r ≡ [] = nil_from_length (left_of r) none in
    let whole : bytes ≡ t.taken.part = t.taken.whole ∙ ap (λ (xs : List ℕ). t.taken.part ++ xs) empty ∙ append-nil t.taken.part in
    record { numbered = numbered; spelled = rw whole t.taken.spelled }

abbrev gave : Packet → Result Packet PacketFault
gave p = Ok p

abbrev refuses : PacketFault → Result Packet PacketFault
refuses fault = Err fault

differ : (p : Packet) (fault : PacketFault) → refuses fault ≡ gave p → ⊥
differ p fault e = cc

-- no other answer where a packet is spelled
pub only : (result : Result Packet PacketFault) (bytes : List ℕ) (p : Packet) → GivesIfRoom result (decoded bytes) → SpellsPacket p bytes
    → MatchResult result (λ found. found ≡ p) (λ fault. fault ≡ packets.NoMemory)
only (Ok q) bytes p gives s = same p q (sym gives ∙ spelled_decoded p bytes s)
  where
    same : (p q : Packet) → gave q ≡ gave p → q ≡ p
    same p q e = cc
only (Err (packets.Codec fault)) bytes p gives s = absurd (differ p (packets.Codec fault) (sym gives ∙ spelled_decoded p bytes s))
only (Err (packets.Trailing at)) bytes p gives s = absurd (differ p (packets.Trailing at) (sym gives ∙ spelled_decoded p bytes s))
only (Err packets.NoMemory) bytes p gives s = refl
