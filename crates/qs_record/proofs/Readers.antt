-- What readers that run one after the other take.
use Rattle.std.proofs.Common.{◌≡◌, ℕ, List, [], ◌∷◌, ◌++◌, length, map, true, Result, Ok, Err, IsErrAnd, subst, refl, ap, ◌∙◌, sym, append_assoc, length-append, arith}
use Rattle.qs_base.specs.declared.identifiers.NodeNo.{NodeNo}
use Rattle.qs_codec.specs.declared.fault.CodecFault.{CodecFault}
use Rattle.qs_codec.specs.Grammar.{Field, Byte, Word, Number, Spells}
use Rattle.qs_codec.specs.Reading.{Reading, Reads, left_of, reading_after}
use Rattle.qs_record.specs.Grammar.{Joined, SpellsAll, is_node, is_server, SpellsTid, SpellsMember, SpellsNodes, node_field}
use Rattle.qs_record.specs.Reading.{Takes, TakesRising, FindsIfRoom}
use Rattle.qs_record.specs.declared.fault.RecordFault.{RecordFault}
use Rattle.qs_record.specs.declared.fault.RecordFault.TheVariants.{Codec, NoMemory}

-- ---- one part behind the other

pub takes_field : (f : Field) (a b : Reading) → Reads f a b → Takes (Spells f) a b
takes_field f a b r = record { part = r.part; spelled = r.spelled; whole = r.whole; moved = r.moved }

pub takes_none : (P : List ℕ → Type 0) (a : Reading) → P [] → Takes P a a
takes_none P a p = record { part = []; spelled = p; whole = refl; moved = ap (λ (at : ℕ). record a { at = at }) (omega arith) }

-- the parts, and the place behind both
pub takes_joined : (P Q : List ℕ → Type 0) (a b c : Reading) → Takes P a b → Takes Q b c → Takes (Joined P Q) a c
takes_joined P Q a b c p q = record {
  part = p.part ++ q.part;
  spelled = record { front = p.part; back = q.part; whole = refl; first = p.spelled; second = q.spelled };
  whole = p.whole ∙ ap (λ (xs : List ℕ). p.part ++ xs) q.whole ∙ sym (append_assoc p.part q.part (left_of c));
  moved = q.moved ∙ ap (λ (r : Reading). reading_after r (length q.part)) p.moved ∙ ap (λ (at : ℕ). record a { at = at }) (omega (arith, length-append p.part q.part));
}

pub takes_as : (P Q : List ℕ → Type 0) (a b : Reading) → ((part : List ℕ) → P part → Q part) → Takes P a b → Takes Q a b
takes_as P Q a b as_well p = record { part = p.part; spelled = as_well p.part p.spelled; whole = p.whole; moved = p.moved }

pub takes_first : (f : Field) (fs : List Field) (a b c : Reading) → Reads f a b → Takes (SpellsAll fs) b c → Takes (SpellsAll (f ∷ fs)) a c
takes_first f fs a b c p q = takes_joined (Spells f) (SpellsAll fs) a b c (takes_field f a b p) q

pub takes_one : (f : Field) (a b : Reading) → Reads f a b → Takes (SpellsAll (f ∷ [])) a b
takes_one f a b p = takes_first f [] a b b p (takes_none (SpellsAll []) b refl)

pub takes_two : (f g : Field) (a b c : Reading) → Reads f a b → Reads g b c → Takes (SpellsAll (f ∷ g ∷ [])) a c
takes_two f g a b c p q = takes_first f (g ∷ []) a b c p (takes_one g b c q)

pub takes_three : (f g h : Field) (a b c d : Reading) → Reads f a b → Reads g b c → Reads h c d → Takes (SpellsAll (f ∷ g ∷ h ∷ [])) a d
takes_three f g h a b c d p q r = takes_first f (g ∷ h ∷ []) a b d p (takes_two g h b c d q r)

-- ---- identifiers, members and lists of nodes

pub tid_taken : (home inc seq : ℕ) (a b c d : Reading) → is_node home ≡ true → Reads (Byte home) a b → Reads (Number inc) b c → Reads (Word seq) c d
    → Takes (SpellsTid (record { home = record { 0 = home }; inc = inc; seq = seq })) a d
tid_taken home inc seq a b c d is p q r =
    takes_as (SpellsAll (Byte home ∷ Number inc ∷ Word seq ∷ [])) (SpellsTid (record { home = record { 0 = home }; inc = inc; seq = seq })) a d
    (λ part s. record { valid = record { home = is; inc = q.spelled.1 }; spelled = s }) (takes_three (Byte home) (Number inc) (Word seq) a b c d p q r)

pub member_taken : (node server : ℕ) (a b c : Reading) → is_node node ≡ true → is_server server ≡ true
    → Reads (Byte node) a b → Reads (Byte server) b c → Takes (SpellsMember (record { node = record { 0 = node }; server = record { 0 = server } })) a c
member_taken node server a b c is_n is_s p q =
    takes_as (SpellsAll (Byte node ∷ Byte server ∷ [])) (SpellsMember (record { node = record { 0 = node }; server = record { 0 = server } })) a c
    (λ part s. record { valid = record { node = is_n; server = is_s }; spelled = s }) (takes_two (Byte node) (Byte server) a b c p q)

pub nodes_taken : (nodes : List NodeNo) (count : ℕ) (a b c : Reading) → Reads (Byte count) a b → TakesRising count b c nodes → Takes (SpellsNodes nodes) a c
nodes_taken nodes count a b c p q =
    let counted : Reads (Byte (length nodes)) a b = subst (λ (n : ℕ). Reads (Byte n) a b) (sym q.counted) p in
    takes_as (SpellsAll (Byte (length nodes) ∷ map node_field nodes)) (SpellsNodes nodes) a c
    (λ part s. record { valid = q.valid; spelled = s }) (takes_first (Byte (length nodes)) (map node_field nodes) a b c counted q.taken)

-- ---- a fault that is passed on

pub fault_passed : {X : Type 0} (result : Result X RecordFault) (fault : CodecFault) (new : Reading) (answer : Result (X × Reading) CodecFault)
    → IsErrAnd result (λ e. e ≡ Codec fault) → answer ≡ Err fault → FindsIfRoom result new answer
fault_passed (Ok x) fault new answer is e = absurd is
fault_passed (Err (Codec other)) fault new answer is e = let same : other ≡ fault = cc in e ∙ ap Err (sym same)
fault_passed (Err NoMemory) fault new answer is e = tt
