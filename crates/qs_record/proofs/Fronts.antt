-- What follows for each value of its being found where it is spelled.
use Rattle.std.proofs.Common.{◌≡◌, ℕ, List, ◌++◌, length, Result, Ok, Err, IsErrAnd, ap, ◌∙◌}
use Rattle.qs_base.specs.declared.identifiers.Member.{Member}
use Rattle.qs_base.specs.declared.identifiers.NodeNo.{NodeNo}
use Rattle.qs_base.specs.declared.identifiers.Tid.{Tid}
use Rattle.qs_codec.specs.declared.fault.CodecFault.{CodecFault}
use Rattle.qs_codec.specs.Reading.{Reading, reading_after, reading_at}
use Rattle.qs_codec.proofs.ReadingLemmas.{one_value, no_fault}
use Rattle.qs_ops.specs.declared.operation.Op.{Op}
use Rattle.qs_record.specs.declared.fault.RecordFault.{RecordFault}
use Rattle.qs_record.specs.declared.fault.RecordFault.TheVariants.{Codec, NoMemory}
use Rattle.qs_record.specs.declared.record.Record.{Record}
use Rattle.qs_record.specs.declared.record.Record.TheVariants.{Prepare, Commit, Aborted, End}
use Rattle.qs_record.specs.Grammar.{SpellsTid, SpellsMember, SpellsNodes, SpellsOp, SpellsChanges, IsRecord, SpellsRecord}
use Rattle.qs_record.specs.Reading.{IsAhead, FindsIfRoom, IsOrNoMemory, tid_at, member_at, nodes_at, op_at, changes_at, record_at}
use Rattle.qs_record.specs.Writing.{Adds}
use Rattle.qs_record.proofs.Found.{IsFoundBy, one_front, found_back}
use Rattle.qs_record.proofs.Ahead.{tid_found, member_found, nodes_found, op_found, changes_found, record_found}

-- ---- fronts of one list

pub tid_front : (s t : Tid) (a b x y : List ℕ) → SpellsTid s a → SpellsTid t b → a ++ x ≡ b ++ y → (s ≡ t) × (a ≡ b)
tid_front s t = one_front tid_at (SpellsTid s) (SpellsTid t) s t (tid_found s) (tid_found t)

pub member_front : (m n : Member) (a b x y : List ℕ) → SpellsMember m a → SpellsMember n b → a ++ x ≡ b ++ y → (m ≡ n) × (a ≡ b)
member_front m n = one_front member_at (SpellsMember m) (SpellsMember n) m n (member_found m) (member_found n)

pub nodes_front : (ms ns : List NodeNo) (a b x y : List ℕ) → SpellsNodes ms a → SpellsNodes ns b → a ++ x ≡ b ++ y → (ms ≡ ns) × (a ≡ b)
nodes_front ms ns = one_front nodes_at (SpellsNodes ms) (SpellsNodes ns) ms ns (nodes_found ms) (nodes_found ns)

pub op_front : (o p : Op) (a b x y : List ℕ) → SpellsOp o a → SpellsOp p b → a ++ x ≡ b ++ y → (o ≡ p) × (a ≡ b)
op_front o p = one_front op_at (SpellsOp o) (SpellsOp p) o p (op_found o) (op_found p)

pub changes_front : (os ps : List Op) (a b x y : List ℕ) → SpellsChanges os a → SpellsChanges ps b → a ++ x ≡ b ++ y → (os ≡ ps) × (a ≡ b)
changes_front os ps = one_front changes_at (SpellsChanges os) (SpellsChanges ps) os ps (changes_found os) (changes_found ps)

pub record_front : (q r : Record) (a b x y : List ℕ) → SpellsRecord q a → SpellsRecord r b → a ++ x ≡ b ++ y → (q ≡ r) × (a ≡ b)
record_front q r = one_front record_at (SpellsRecord q) (SpellsRecord r) q r (record_found q) (record_found r)

-- ---- what was added is found again

pub tid_back : (tid : Tid) (old new rest : List ℕ) → Adds (SpellsTid tid) old new → tid_at (reading_at (new ++ rest) (length old)) ≡ Ok (tid, reading_at (new ++ rest) (length new))
tid_back tid = found_back tid_at (SpellsTid tid) tid (tid_found tid)

pub member_back : (member : Member) (old new rest : List ℕ) → Adds (SpellsMember member) old new → member_at (reading_at (new ++ rest) (length old)) ≡ Ok (member, reading_at (new ++ rest) (length new))
member_back member = found_back member_at (SpellsMember member) member (member_found member)

pub nodes_back : (nodes : List NodeNo) (old new rest : List ℕ) → Adds (SpellsNodes nodes) old new → nodes_at (reading_at (new ++ rest) (length old)) ≡ Ok (nodes, reading_at (new ++ rest) (length new))
nodes_back nodes = found_back nodes_at (SpellsNodes nodes) nodes (nodes_found nodes)

pub op_back : (op : Op) (old new rest : List ℕ) → Adds (SpellsOp op) old new → op_at (reading_at (new ++ rest) (length old)) ≡ Ok (op, reading_at (new ++ rest) (length new))
op_back op = found_back op_at (SpellsOp op) op (op_found op)

pub changes_back : (changes : List Op) (old new rest : List ℕ) → Adds (SpellsChanges changes) old new → changes_at (reading_at (new ++ rest) (length old)) ≡ Ok (changes, reading_at (new ++ rest) (length new))
changes_back changes = found_back changes_at (SpellsChanges changes) changes (changes_found changes)

pub record_back : (rec : Record) (old new rest : List ℕ) → Adds (SpellsRecord rec) old new → record_at (reading_at (new ++ rest) (length old)) ≡ Ok (rec, reading_at (new ++ rest) (length new))
record_back rec = found_back record_at (SpellsRecord rec) rec (record_found rec)

-- ---- what is spelled has a spelling

pub record_valid : (rec : Record) (part : List ℕ) → SpellsRecord rec part → IsRecord rec
record_valid (Prepare tid server covers changes) part p = (p.1.second.first.valid, p.0, p.1.second.second.second.valid)
record_valid (Commit tid told) part p = (p.second.first.valid, p.second.second.valid)
record_valid (Aborted tid) part p = p.second.valid
record_valid (End tid) part p = p.second.valid

-- ---- no other answer where a value is ahead

-- the answer is this value, and some place
pub record Answers {A : Type 0} (answer : Result (A × Reading) CodecFault) (x : A) : Type 0 where
  pub place : Reading
  pub is : answer ≡ Ok (x, place)

-- a reader that stands where the value is spelled finds it
pub found_ahead : {A : Type 0} (read : Reading → Result (A × Reading) CodecFault) (P : List ℕ → Type 0) (x : A) (old here : Reading) → IsFoundBy read P x → here ≡ old → IsAhead P old
    → Answers (read here) x
found_ahead read P x old here f same next = record {
  place = reading_after old (length next.part);
  is = ap read same ∙ f.found old next.part next.rest next.spelled next.whole;
}

pub value_only : {A : Type 0} (answer : Result (A × Reading) CodecFault) (found x : A) (new : Reading) → answer ≡ Ok (found, new) → Answers answer x → found ≡ x
value_only answer found x new e a = one_value answer found x new a.place e a.is

pub fault_only : {A : Type 0} (answer : Result (A × Reading) CodecFault) (fault : CodecFault) (x : A) → answer ≡ Err fault → Answers answer x → ⊥
fault_only answer fault x e a = no_fault answer fault x a.place e a.is

-- a refusal is the want of memory
pub refused_only : {A : Type 0} (result : Result A RecordFault) (fault : RecordFault) (new : Reading) (answer : Result (A × Reading) CodecFault) (x : A)
    → IsErrAnd result (λ e. e ≡ fault) → FindsIfRoom {X = A} (Err fault) new answer → Answers answer x → IsOrNoMemory result x
refused_only (Ok y) fault new answer x is finds a = absurd is
refused_only (Err e) (Codec fault) new answer x is finds a = absurd (fault_only answer fault x finds a)
refused_only (Err e) NoMemory new answer x is finds a = is
