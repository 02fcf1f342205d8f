-- No part has two spellings, and what is spelled has a spelling.
use Rattle.std.proofs.Common.{◌≡◌, ℕ, List, [], ◌∷◌, ◌++◌, length, map, ap, ◌∙◌, sym}
use Rattle.qs_codec.specs.Grammar.{Field, Byte, Word, Number, Text, Spells}
use Rattle.qs_codec.proofs.GrammarLemmas.{one_spelling}
use Rattle.qs_packet.specs.Grammar.{Part, ATag, ANode, AServer, AWord, ANumber, AText, Texts, ATid, AMember, Nodes, AnOp, IsPart, AreParts, SpellsPart, SpellsParts, IsPacket, SpellsPacket, packet_parts}
use Rattle.qs_packet.specs.declared.packet.Packet.{Packet}
use Rattle.qs_record.specs.Grammar.{Joined, SpellsAll}
use Rattle.qs_record.proofs.Lengths.{tid_one, member_one, nodes_one, op_one}

joined_one : (P Q : List ℕ → Type 0) (a b : List ℕ) → ((x y : List ℕ) → P x → P y → x ≡ y) → ((x y : List ℕ) → Q x → Q y → x ≡ y) → Joined P Q a → Joined P Q b → a ≡ b
joined_one P Q a b one_p one_q i j =
    i.whole ∙ ap (λ (xs : List ℕ). xs ++ i.back) (one_p i.front j.front i.first j.first)
    ∙ ap (λ (xs : List ℕ). j.front ++ xs) (one_q i.back j.back i.second j.second) ∙ sym j.whole

all_one : (fs : List Field) (a b : List ℕ) → SpellsAll fs a → SpellsAll fs b → a ≡ b
all_one [] a b p q = p ∙ sym q
all_one (f ∷ fs) a b p q = joined_one (Spells f) (SpellsAll fs) a b (one_spelling f) (all_one fs) p q

part_one : (p : Part) (a b : List ℕ) → SpellsPart p a → SpellsPart p b → a ≡ b
part_one (ATag tag) a b s t = one_spelling (Byte tag) a b s t
part_one (ANode node) a b s t = one_spelling (Byte node.0) a b s.1 t.1
part_one (AServer server) a b s t = one_spelling (Byte server.0) a b s.1 t.1
part_one (AWord n) a b s t = one_spelling (Word n) a b s t
part_one (ANumber n) a b s t = one_spelling (Number n) a b s t
part_one (AText limit text) a b s t = one_spelling (Text text) a b s.1 t.1
part_one (Texts limit texts) a b s t = all_one (Word (length texts) ∷ map Text texts) a b s.1 t.1
part_one (ATid tid) a b s t = tid_one tid a b s t
part_one (AMember member) a b s t = member_one member a b s t
part_one (Nodes nodes) a b s t = nodes_one nodes a b s t
part_one (AnOp op) a b s t = op_one op a b s t

parts_one : (ps : List Part) (a b : List ℕ) → SpellsParts ps a → SpellsParts ps b → a ≡ b
parts_one [] a b s t = s ∙ sym t
parts_one (p ∷ ps) a b s t = joined_one (SpellsPart p) (SpellsParts ps) a b (part_one p) (parts_one ps) s t

pub packet_one : (p : Packet) (a b : List ℕ) → SpellsPacket p a → SpellsPacket p b → a ≡ b
packet_one p a b s t = parts_one (packet_parts p) a b s.spelled t.spelled

part_valid : (p : Part) (bytes : List ℕ) → SpellsPart p bytes → IsPart p
part_valid (ATag tag) bytes s = tt
part_valid (ANode node) bytes s = s.0
part_valid (AServer server) bytes s = s.0
part_valid (AWord n) bytes s = tt
part_valid (ANumber n) bytes s = s.1
part_valid (AText limit text) bytes s = s.0
part_valid (Texts limit texts) bytes s = s.0
part_valid (ATid tid) bytes s = s.valid
part_valid (AMember member) bytes s = s.valid
part_valid (Nodes nodes) bytes s = s.valid
part_valid (AnOp op) bytes s = s.valid

parts_valid : (ps : List Part) (bytes : List ℕ) → SpellsParts ps bytes → AreParts ps
parts_valid [] bytes s = tt
parts_valid (p ∷ ps) bytes s = (part_valid p s.front s.first, parts_valid ps s.back s.second)

pub packet_valid : (p : Packet) (bytes : List ℕ) → SpellsPacket p bytes → IsPacket p
packet_valid p bytes s =
    let each = parts_valid (packet_parts p) bytes s.spelled in
    record {
      from = each.0;
      inc = each.1.0;
      to = each.1.1.0;
      to_inc = each.1.1.1.0;
      number = each.1.1.1.1.0;
      ack = each.1.1.1.1.1.0;
      stamp = each.1.1.1.1.1.1.0;
      message = each.1.1.1.1.1.1.1;
      numbered = s.numbered;
    }
