-- Where parts are spelled, each is found, one behind the other.
use Rattle.std.proofs.Common.{◌≡◌, ◌+◌, ◌≤◌, ℕ, List, [], ◌∷◌, ◌++◌, length, map, drop, nat_lt, cond, Ok, Err, refl, ap, ◌∙◌, sym, subst, append_assoc, length-append, arith}
use Rattle.std.proofs.Math.Seq.{drop-append_seam}
use Rattle.std.proofs.lemmas.List.{drop-drop}
use Rattle.std.proofs.lemmas.List.Elements.{recursion_from_All}
use Rattle.std.specs.List.{AllByRecursion}
use Rattle.std.specs.Int.{w8, w32}
use Rattle.qs_codec.specs.declared.fault.CodecFault.TheVariants.{Short}
use Rattle.qs_codec.specs.Grammar.{Word, Text, Spells}
use Rattle.qs_codec.specs.Reading.{Reading, left_of, reading_after, integer_at, number_at, text_at}
use Rattle.qs_ops.specs.Spelled.{IsText}
use Rattle.qs_packet.specs.Grammar.{Part, ATag, ANode, AServer, AWord, ANumber, AText, Texts, ATid, AMember, Nodes, AnOp, AreTexts, SpellsPart, SpellsParts}
use Rattle.qs_packet.specs.Reading.{node_at, server_at, texts_behind, texts_at}
use Rattle.qs_record.specs.Grammar.{SpellsAll, is_node, is_server}
use Rattle.qs_record.specs.Reading.{then_at, tid_at, member_at, nodes_at, op_at}
use Rattle.qs_record.proofs.Ahead.{tid_found, member_found, nodes_found, op_found}
use Rattle.qs_record.proofs.Found.{IsFoundBy, byte_found, word_found, number_found, text_found, where_found, last_found, joined_found, found_then, counted_found}

-- ---- texts

texts_enough : (texts : List (List ℕ)) (part : List ℕ) → SpellsAll (map Text texts) part → length texts ≤ length part
texts_enough [] part p = omega arith
texts_enough (text ∷ texts) part p =
    let one : length p.front ≡ length p.first.head + length text = ap length p.first.whole ∙ length-append p.first.head text in
    let both : length part ≡ length p.front + length p.back = ap length p.whole ∙ length-append p.front p.back in
    omega (arith, one, both, p.first.counts.wide, texts_enough texts p.back p.second)

texts_read : (limit : ℕ) (texts : List (List ℕ)) → AllByRecursion (IsText limit) texts → IsFoundBy (texts_behind limit (length texts)) (SpellsAll (map Text texts)) texts
unfolding texts_behind
texts_read limit [] each = last_found []
texts_read limit (text ∷ texts) each =
    joined_found (text_at limit) (λ r text behind. then_at (texts_behind limit (length texts) behind) (λ texts after. Ok (text ∷ texts, after)))
    (Spells (Text text)) (SpellsAll (map Text texts)) text (text ∷ texts) (text_found limit text each.0.fits)
    (λ r. found_then (texts_behind limit (length texts)) (SpellsAll (map Text texts)) texts (λ texts. text ∷ texts) (texts_read limit texts each.1))

texts_found : (limit : ℕ) (texts : List (List ℕ)) → AreTexts limit texts → IsFoundBy (texts_at limit) (SpellsAll (Word (length texts) ∷ map Text texts)) texts
unfolding texts_at
texts_found limit texts valid = record {
  found = λ r part rest p whole.
      (joined_found (integer_at w32) (λ r count behind. cond (nat_lt (length (left_of behind)) count) (Err (Short r.at count)) (texts_behind limit count behind))
      (Spells (Word (length texts))) (SpellsAll (map Text texts)) (length texts) texts (word_found (length texts))
      (λ r. counted_found (texts_behind limit (length texts)) (SpellsAll (map Text texts)) texts (length texts) (Short r.at (length texts))
      (texts_enough texts) (texts_read limit texts (recursion_from_All (IsText limit) texts valid.each)))).found r part rest p whole;
}

-- ---- parts

-- the part is found here, and behind it the reader stands there
abbrev pub IsAt : Part → Reading → Reading → Type 0
IsAt (ATag tag) here there = integer_at w8 here ≡ Ok (tag, there)
IsAt (ANode node) here there = node_at here ≡ Ok (node, there)
IsAt (AServer server) here there = server_at here ≡ Ok (server, there)
IsAt (AWord n) here there = integer_at w32 here ≡ Ok (n, there)
IsAt (ANumber n) here there = number_at here ≡ Ok (n, there)
IsAt (AText limit text) here there = text_at limit here ≡ Ok (text, there)
IsAt (Texts limit texts) here there = texts_at limit here ≡ Ok (texts, there)
IsAt (ATid tid) here there = tid_at here ≡ Ok (tid, there)
IsAt (AMember member) here there = member_at here ≡ Ok (member, there)
IsAt (Nodes nodes) here there = nodes_at here ≡ Ok (nodes, there)
IsAt (AnOp op) here there = op_at here ≡ Ok (op, there)

part_at : (p : Part) (r : Reading) (part rest : List ℕ) → SpellsPart p part → left_of r ≡ part ++ rest → IsAt p r (reading_after r (length part))
unfolding node_at server_at
part_at (ATag tag) r part rest s whole = (byte_found tag).found r part rest s whole
part_at (ANode node) r part rest s whole = rw ((where_found is_node node.0 s.0).found r part rest s.1 whole) refl
part_at (AServer server) r part rest s whole = rw ((where_found is_server server.0 s.0).found r part rest s.1 whole) refl
part_at (AWord n) r part rest s whole = (word_found n).found r part rest s whole
part_at (ANumber n) r part rest s whole = (number_found n).found r part rest s whole
part_at (AText limit text) r part rest s whole = (text_found limit text s.0.fits).found r part rest s.1 whole
part_at (Texts limit texts) r part rest s whole = (texts_found limit texts s.0).found r part rest s.1 whole
part_at (ATid tid) r part rest s whole = (tid_found tid).found r part rest s whole
part_at (AMember member) r part rest s whole = (member_found member).found r part rest s whole
part_at (Nodes nodes) r part rest s whole = (nodes_found nodes).found r part rest s whole
part_at (AnOp op) r part rest s whole = (op_found op).found r part rest s whole

-- this, and behind it that
pub record Then (this that : Reading → Type 0) : Type 0 where
  pub there : Reading
  pub first : this there
  pub others : that there

-- the parts are found, one behind the other
abbrev pub AreAt : List Part → Reading → Reading → Type 0
AreAt [] here end = here ≡ end
AreAt (p ∷ ps) here end = Then (IsAt p here) (λ there. AreAt ps there end)

-- what is left behind a front
left_behind : (r : Reading) (front others : List ℕ) → left_of r ≡ front ++ others → left_of (reading_after r (length front)) ≡ others
left_behind r front others whole =
    sym (drop-drop (length front) r.at r.bytes) ∙ ap (drop (length front)) whole ∙ drop-append_seam front others

pub parts_at : (ps : List Part) (r : Reading) (part rest : List ℕ) → SpellsParts ps part → left_of r ≡ part ++ rest → AreAt ps r (reading_after r (length part))
parts_at [] r part rest s whole = ap (λ (at : ℕ). record { bytes = r.bytes; at = at }) (rw s (omega arith))
parts_at (p ∷ ps) r part rest s whole =
    let split : left_of r ≡ s.front ++ (s.back ++ rest) = whole ∙ ap (λ (xs : List ℕ). xs ++ rest) s.whole ∙ append_assoc s.front s.back rest in
    let there : Reading = reading_after r (length s.front) in
    let place : r.at + length s.front + length s.back ≡ r.at + length part = rw s.whole (omega (arith, length-append s.front s.back)) in
    record {
      there = there;
      first = part_at p r s.front (s.back ++ rest) s.first split;
      others = subst (AreAt ps there) (ap (λ (at : ℕ). record { bytes = r.bytes; at = at }) place)
          (parts_at ps there s.back rest s.second (left_behind r s.front (s.back ++ rest) split));
    }
