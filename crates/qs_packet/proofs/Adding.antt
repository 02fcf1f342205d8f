-- Parts that are added one behind the other.
use Rattle.std.proofs.Common.{◌≡◌, ◌+◌, ◌<◌, ℕ, suc, zero, List, [], ◌∷◌, ◌++◌, length, map, take, get_or, Result, Ok, Err, IfOk, OnOk, refl, ap, ◌∙◌, sym, subst, append_assoc, append-nil, arith}
use Rattle.std.proofs.lemmas.List.{take_more, map-append}
use Rattle.std.proofs.lemmas.List.Elements.{recursion_from_All, All-from_recursion}
use Rattle.std.proofs.lemmas.Result.{on_ok_weaker}
use Rattle.std.specs.List.{AllByRecursion}
use Rattle.qs_codec.specs.Grammar.{Field, Word, Text, Spells}
use Rattle.qs_codec.specs.Writing.{Appends}
use Rattle.qs_ops.specs.Spelled.{IsText}
use Rattle.qs_packet.specs.Grammar.{Part, ANode, ANumber, IsPart, AreParts, AreTexts, SpellsPart, SpellsParts, SpellsPacket, IsNumbered, message_parts, packet_parts, reply_limit}
use Rattle.qs_packet.specs.Writing.{seen}
use Rattle.qs_packet.specs.declared.packet.Packet.{Packet}
use Rattle.qs_packet.specs.declared.part.Part.{Part as GivenPart}
use Rattle.qs_record.specs.Grammar.{SpellsAll}
use Rattle.qs_record.specs.Writing.{Adds}
use Rattle.qs_record.proofs.Writers.{all_more, adds_joined, adds_field}

pub adds_none : (a : List ℕ) → Adds (SpellsParts []) a a
adds_none a = record { part = []; spelled = refl; added = sym (append-nil a) }

-- one part more
spelled_more : (ps : List Part) (p : Part) (a b : List ℕ) → SpellsParts ps a → SpellsPart p b → SpellsParts (ps ++ p ∷ []) (a ++ b)
spelled_more [] p a b s t = record { front = b; back = []; whole = ap (λ (xs : List ℕ). xs ++ b) s ∙ sym (append-nil b); first = t; second = refl }
spelled_more (q ∷ ps) p a b s t = record {
  front = s.front;
  back = s.back ++ b;
  whole = ap (λ (xs : List ℕ). xs ++ b) s.whole ∙ append_assoc s.front s.back b;
  first = s.first;
  second = spelled_more ps p s.back b s.second t;
}

pub adds_next : (parts : List GivenPart) (i : ℕ) (part : GivenPart) (a b c : List ℕ) → i < length parts → part ≡ get_or parts i part
    → Adds (SpellsParts (map seen (take i parts))) a b → Adds (SpellsPart (seen part)) b c → Adds (SpellsParts (map seen (take (i + 1) parts))) a c
adds_next parts i part a b c inside is p q =
    let more : take i parts ++ part ∷ [] ≡ take (i + 1) parts = ap (λ (x : GivenPart). take i parts ++ x ∷ []) is ∙ sym (take_more parts i part inside) in
    let all : map seen (take i parts) ++ seen part ∷ [] ≡ map seen (take (i + 1) parts) = sym (map-append seen (take i parts) (part ∷ [])) ∙ ap (map seen) more in
    record {
      part = p.part ++ q.part;
      spelled = subst (λ (ps : List Part). SpellsParts ps (p.part ++ q.part)) all (spelled_more (map seen (take i parts)) (seen part) p.part q.part p.spelled q.spelled);
      added = q.added ∙ ap (λ (xs : List ℕ). xs ++ q.part) p.added ∙ append_assoc a p.part q.part;
    }

-- each part that is given has a spelling
pub valid_at : (parts : List GivenPart) (i : ℕ) (part : GivenPart) → AreParts (map seen parts) → i < length parts → part ≡ get_or parts i part → IsPart (seen part)
valid_at [] i part valid inside is = absurd (omega (arith, inside))
valid_at (p ∷ ps) zero part valid inside is = rw is valid.0
valid_at (p ∷ ps) (suc i) part valid inside is = valid_at ps i part valid.1 (omega (arith, inside)) is

-- some parts, and behind them others
both_spelled : (ps qs : List Part) (a b : List ℕ) → SpellsParts ps a → SpellsParts qs b → SpellsParts (ps ++ qs) (a ++ b)
both_spelled [] qs a b s t = rw s t
both_spelled (p ∷ ps) qs a b s t = record {
  front = s.front;
  back = s.back ++ b;
  whole = ap (λ (xs : List ℕ). xs ++ b) s.whole ∙ append_assoc s.front s.back b;
  first = s.first;
  second = both_spelled ps qs s.back b s.second t;
}

pub adds_both : (ps qs : List Part) (a b c : List ℕ) → Adds (SpellsParts ps) a b → Adds (SpellsParts qs) b c → Adds (SpellsParts (ps ++ qs)) a c
adds_both ps qs a b c p q = record {
  part = p.part ++ q.part;
  spelled = both_spelled ps qs p.part q.part p.spelled q.spelled;
  added = q.added ∙ ap (λ (xs : List ℕ). xs ++ q.part) p.added ∙ append_assoc a p.part q.part;
}

pub then_added : {E : Type 0} (result : Result (Unit {0}) E) (ps qs : List Part) (a b c : List ℕ) → Adds (SpellsParts ps) a b → OnOk result (Adds (SpellsParts qs) b c)
    → OnOk result (Adds (SpellsParts (ps ++ qs)) a c)
then_added result ps qs a b c p q = on_ok_weaker result (adds_both ps qs a b c p) q

-- a packet's head, and its message behind it
pub encoded : {E : Type 0} (result : Result (List ℕ) E) (p : Packet) (a b c : List ℕ) → a ≡ [] → IsNumbered p
    → Adds (SpellsParts (ANode p.from ∷ ANumber p.inc ∷ ANode p.to ∷ ANumber p.to_inc ∷ ANumber p.number ∷ ANumber p.ack ∷ ANumber p.stamp ∷ [])) a b
    → Adds (SpellsParts (message_parts p.message)) b c → IfOk result (λ bytes. bytes ≡ c) → IfOk result (λ bytes. SpellsPacket p bytes)
encoded (Ok bytes) p a b c none numbered head message is =
    let Head : List Part = ANode p.from ∷ ANumber p.inc ∷ ANode p.to ∷ ANumber p.to_inc ∷ ANumber p.number ∷ ANumber p.ack ∷ ANumber p.stamp ∷ [] in
    let both : Adds (SpellsParts (packet_parts p)) a c = adds_both Head (message_parts p.message) a b c head message in
    let whole : bytes ≡ both.part = is ∙ both.added ∙ ap (λ (xs : List ℕ). xs ++ both.part) none in
    record { numbered = numbered; spelled = rw whole both.spelled }
encoded (Err e) p a b c none numbered head message is = tt

-- ---- texts

pub no_text : (a : List ℕ) → Adds (SpellsAll []) a a
no_text a = record { part = []; spelled = refl; added = sym (append-nil a) }

pub adds_text : (texts : List (List ℕ)) (i : ℕ) (text : List ℕ) (a b c : List ℕ) → i < length texts → text ≡ get_or texts i text
    → Adds (SpellsAll (map Text (take i texts))) a b → Appends (Text text) b c → Adds (SpellsAll (map Text (take (i + 1) texts))) a c
adds_text texts i text a b c inside is p q =
    let more : take i texts ++ text ∷ [] ≡ take (i + 1) texts = ap (λ (x : List ℕ). take i texts ++ x ∷ []) is ∙ sym (take_more texts i text inside) in
    let fields : map Text (take i texts) ++ Text text ∷ [] ≡ map Text (take (i + 1) texts) = sym (map-append Text (take i texts) (text ∷ [])) ∙ ap (map Text) more in
    record {
      part = p.part ++ q.part;
      spelled = subst (λ (fs : List Field). SpellsAll fs (p.part ++ q.part)) fields (all_more (map Text (take i texts)) (Text text) p.part q.part p.spelled q.spelled);
      added = q.added ∙ ap (λ (xs : List ℕ). xs ++ q.part) p.added ∙ append_assoc a p.part q.part;
    }

pub texts_added : {E : Type 0} (result : Result (Unit {0}) E) (texts : List (List ℕ)) (a b c : List ℕ) → Appends (Word (length texts)) a b
    → OnOk result (Adds (SpellsAll (map Text texts)) b c) → OnOk result (Adds (SpellsAll (Word (length texts) ∷ map Text texts)) a c)
texts_added result texts a b c p q =
    on_ok_weaker result (adds_joined (Spells (Word (length texts))) (SpellsAll (map Text texts)) a b c (adds_field (Word (length texts)) a b p)) q

-- names are texts
pub names_as_texts : (texts : List (List ℕ)) → AreTexts 64 texts → AreTexts reply_limit texts
names_as_texts texts are = record { few = are.few; each = All-from_recursion (IsText reply_limit) texts (longer texts (recursion_from_All (IsText 64) texts are.each)) }
  where
    longer : (texts : List (List ℕ)) → AllByRecursion (IsText 64) texts → AllByRecursion (IsText reply_limit) texts
    longer [] each = tt
    longer (text ∷ texts) each = (record { fits = omega (arith, each.0.fits); each = each.0.each }, longer texts each.1)
