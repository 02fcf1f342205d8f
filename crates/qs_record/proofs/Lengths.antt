-- How many bytes spell a value, and that no others spell it.
use Rattle.std.proofs.Common.{◌≡◌, ◌+◌, ◌≤◌, ℕ, List, [], ◌∷◌, ◌++◌, length, map, ap, ◌∙◌, sym, length-append, arith}
use Rattle.std.specs.Prelude.{sum_by}
use Rattle.std.proofs.lemmas.List.Sums.{sum_by-append}
use Rattle.qs_base.specs.declared.identifiers.Member.{Member}
use Rattle.qs_base.specs.declared.identifiers.NodeNo.{NodeNo}
use Rattle.qs_base.specs.declared.identifiers.Tid.{Tid}
use Rattle.qs_codec.specs.Grammar.{Field, Byte, Word, Long, Number, Text, Spells}
use Rattle.qs_codec.proofs.GrammarLemmas.{one_spelling}
use Rattle.qs_ops.specs.declared.operation.Op.{Op}
use Rattle.qs_ops.specs.declared.operation.Op.TheVariants.{Put, Append, Del, Get, Listing, Note, Notes, Bind, Find, Timer, Left, Window, Title, Keep, Fetch, Lend, Extra}
use Rattle.qs_ops.specs.Spelled.{op_length}
use Rattle.qs_record.specs.declared.record.Record.{Record}
use Rattle.qs_record.specs.declared.record.Record.TheVariants.{Prepare, Commit, Aborted, End}
use Rattle.qs_record.specs.Grammar.{Joined, SpellsAll, SpellsTid, SpellsMember, SpellsNodes, node_field, op_fields, SpellsOp, SpellsOps, SpellsChanges, SpellsRecord, record_length}

-- ---- lengths

abbrev field_size : Field → ℕ
field_size (Byte n) = 1
field_size (Word n) = 4
field_size (Long n) = 8
field_size (Number n) = 8
field_size (Text text) = 4 + length text

field_long : (f : Field) (part : List ℕ) → Spells f part → length part ≡ field_size f
field_long (Byte n) part p = p.wide
field_long (Word n) part p = p.wide
field_long (Long n) part p = p.wide
field_long (Number n) part p = p.0.wide
field_long (Text text) part p = ap length p.whole ∙ length-append p.head text ∙ ap (λ (n : ℕ). n + length text) p.counts.wide

joined_long : (P Q : List ℕ → Type 0) (m n : ℕ) (part : List ℕ) → ((a : List ℕ) → P a → length a ≡ m) → ((b : List ℕ) → Q b → length b ≡ n) → Joined P Q part → length part ≡ m + n
joined_long P Q m n part long_p long_q j = rw j.whole (omega (arith, length-append j.front j.back, long_p j.front j.first, long_q j.back j.second))

abbrev fields_size : List Field → ℕ
fields_size [] = 0
fields_size (f ∷ fs) = field_size f + fields_size fs

all_long : (fs : List Field) (part : List ℕ) → SpellsAll fs part → length part ≡ fields_size fs
all_long [] part p = ap length p
all_long (f ∷ fs) part p = joined_long (Spells f) (SpellsAll fs) (field_size f) (fields_size fs) part (field_long f) (all_long fs) p

pub tid_long : (tid : Tid) (part : List ℕ) → SpellsTid tid part → length part ≡ 13
tid_long tid part p = all_long (Byte tid.home.0 ∷ Number tid.inc ∷ Word tid.seq ∷ []) part p.spelled

pub member_long : (member : Member) (part : List ℕ) → SpellsMember member part → length part ≡ 2
member_long member part p = all_long (Byte member.node.0 ∷ Byte member.server.0 ∷ []) part p.spelled

each_long : (nodes : List NodeNo) (part : List ℕ) → SpellsAll (map node_field nodes) part → length part ≡ length nodes
each_long [] part p = ap length p
each_long (n ∷ ns) part p =
    joined_long (Spells (node_field n)) (SpellsAll (map node_field ns)) 1 (length ns) part (λ a q. q.wide) (each_long ns) p ∙ omega arith

pub nodes_enough : (nodes : List NodeNo) (part : List ℕ) → SpellsAll (map node_field nodes) part → length nodes ≤ length part
nodes_enough nodes part p = omega (arith, each_long nodes part p)

pub nodes_long : (nodes : List NodeNo) (part : List ℕ) → SpellsNodes nodes part → length part ≡ 1 + length nodes
nodes_long nodes part p =
    joined_long (Spells (Byte (length nodes))) (SpellsAll (map node_field nodes)) 1 (length nodes) part (λ a q. q.wide) (each_long nodes) p.spelled

fields_op : (op : Op) → fields_size (op_fields op) ≡ op_length op
fields_op (Put name text) = omega arith
fields_op (Append name text) = omega arith
fields_op (Del name) = omega arith
fields_op (Get name) = omega arith
fields_op Listing = omega arith
fields_op (Note text) = omega arith
fields_op Notes = omega arith
fields_op (Bind name text) = omega arith
fields_op (Find name) = omega arith
fields_op (Timer name ticks) = omega arith
fields_op (Left name) = omega arith
fields_op (Window name text) = omega arith
fields_op (Title name) = omega arith
fields_op (Keep name text) = omega arith
fields_op (Fetch name) = omega arith
fields_op (Lend client) = omega arith
fields_op (Extra code text) = omega arith

pub op_long : (op : Op) (part : List ℕ) → SpellsOp op part → length part ≡ op_length op
op_long op part p = all_long (op_fields op) part p.spelled ∙ fields_op op

-- the sum's first
sum_first : (op : Op) (ops : List Op) → sum_by op_length (op ∷ ops) ≡ op_length op + sum_by op_length ops
sum_first op ops = sum_by-append op_length (op ∷ []) ops ∙ ap (λ (n : ℕ). n + sum_by op_length ops) (omega arith)

pub ops_long : (ops : List Op) (part : List ℕ) → SpellsOps ops part → length part ≡ sum_by op_length ops
ops_long [] part p = ap length p
ops_long (op ∷ ops) part p = joined_long (SpellsOp op) (SpellsOps ops) (op_length op) (sum_by op_length ops) part (op_long op) (ops_long ops) p ∙ sym (sum_first op ops)

-- no operation is spelled by no byte
op_some : (op : Op) → 1 ≤ op_length op
op_some (Put name text) = omega arith
op_some (Append name text) = omega arith
op_some (Del name) = omega arith
op_some (Get name) = omega arith
op_some Listing = omega arith
op_some (Note text) = omega arith
op_some Notes = omega arith
op_some (Bind name text) = omega arith
op_some (Find name) = omega arith
op_some (Timer name ticks) = omega arith
op_some (Left name) = omega arith
op_some (Window name text) = omega arith
op_some (Title name) = omega arith
op_some (Keep name text) = omega arith
op_some (Fetch name) = omega arith
op_some (Lend client) = omega arith
op_some (Extra code text) = omega arith

ops_some : (ops : List Op) → length ops ≤ sum_by op_length ops
ops_some [] = omega arith
ops_some (op ∷ ops) = omega (arith, op_some op, ops_some ops, sum_first op ops)

pub ops_enough : (ops : List Op) (part : List ℕ) → SpellsOps ops part → length ops ≤ length part
ops_enough ops part p = omega (arith, ops_long ops part p, ops_some ops)

pub changes_long : (changes : List Op) (part : List ℕ) → SpellsChanges changes part → length part ≡ 4 + sum_by op_length changes
changes_long changes part p =
    joined_long (Spells (Word (length changes))) (SpellsOps changes) 4 (sum_by op_length changes) part (λ a q. q.wide) (ops_long changes) p.spelled

tagged_long : (tag : ℕ) (tid : Tid) (Q : List ℕ → Type 0) (n : ℕ) (part : List ℕ) → ((b : List ℕ) → Q b → length b ≡ n)
    → Joined (Spells (Byte tag)) (Joined (SpellsTid tid) Q) part → length part ≡ 1 + (13 + n)
tagged_long tag tid Q n part long j =
    joined_long (Spells (Byte tag)) (Joined (SpellsTid tid) Q) 1 (13 + n) part (λ a q. q.wide) (λ b q. joined_long (SpellsTid tid) Q 13 n b (tid_long tid) long q) j

pub record_long : (rec : Record) (part : List ℕ) → SpellsRecord rec part → length part ≡ record_length rec
record_long (Prepare tid server covers changes) part p =
    let Share : List ℕ → Type 0 = SpellsAll (Byte server.0 ∷ Word covers ∷ []) in
    tagged_long 1 tid (Joined Share (SpellsChanges changes)) (5 + (4 + sum_by op_length changes)) part
    (λ b q. joined_long Share (SpellsChanges changes) 5 (4 + sum_by op_length changes) b (all_long (Byte server.0 ∷ Word covers ∷ [])) (changes_long changes) q) p.1
    ∙ omega arith
record_long (Commit tid told) part p = tagged_long 2 tid (SpellsNodes told) (1 + length told) part (nodes_long told) p ∙ omega arith
record_long (Aborted tid) part p = joined_long (Spells (Byte 3)) (SpellsTid tid) 1 13 part (λ a q. q.wide) (tid_long tid) p
record_long (End tid) part p = joined_long (Spells (Byte 4)) (SpellsTid tid) 1 13 part (λ a q. q.wide) (tid_long tid) p

-- ---- one spelling

joined_one : (P Q : List ℕ → Type 0) (a b : List ℕ) → ((x y : List ℕ) → P x → P y → x ≡ y) → ((x y : List ℕ) → Q x → Q y → x ≡ y) → Joined P Q a → Joined P Q b → a ≡ b
joined_one P Q a b one_p one_q i j =
    i.whole ∙ ap (λ (xs : List ℕ). xs ++ i.back) (one_p i.front j.front i.first j.first)
    ∙ ap (λ (xs : List ℕ). j.front ++ xs) (one_q i.back j.back i.second j.second) ∙ sym j.whole

all_one : (fs : List Field) (a b : List ℕ) → SpellsAll fs a → SpellsAll fs b → a ≡ b
all_one [] a b p q = p ∙ sym q
all_one (f ∷ fs) a b p q = joined_one (Spells f) (SpellsAll fs) a b (one_spelling f) (all_one fs) p q

pub tid_one : (tid : Tid) (a b : List ℕ) → SpellsTid tid a → SpellsTid tid b → a ≡ b
tid_one tid a b p q = all_one (Byte tid.home.0 ∷ Number tid.inc ∷ Word tid.seq ∷ []) a b p.spelled q.spelled

pub member_one : (member : Member) (a b : List ℕ) → SpellsMember member a → SpellsMember member b → a ≡ b
member_one member a b p q = all_one (Byte member.node.0 ∷ Byte member.server.0 ∷ []) a b p.spelled q.spelled

pub nodes_one : (nodes : List NodeNo) (a b : List ℕ) → SpellsNodes nodes a → SpellsNodes nodes b → a ≡ b
nodes_one nodes a b p q = all_one (Byte (length nodes) ∷ map node_field nodes) a b p.spelled q.spelled

pub op_one : (op : Op) (a b : List ℕ) → SpellsOp op a → SpellsOp op b → a ≡ b
op_one op a b p q = all_one (op_fields op) a b p.spelled q.spelled

ops_one : (ops : List Op) (a b : List ℕ) → SpellsOps ops a → SpellsOps ops b → a ≡ b
ops_one [] a b p q = p ∙ sym q
ops_one (op ∷ ops) a b p q = joined_one (SpellsOp op) (SpellsOps ops) a b (op_one op) (ops_one ops) p q

pub changes_one : (changes : List Op) (a b : List ℕ) → SpellsChanges changes a → SpellsChanges changes b → a ≡ b
changes_one changes a b p q =
    joined_one (Spells (Word (length changes))) (SpellsOps changes) a b (one_spelling (Word (length changes))) (ops_one changes) p.spelled q.spelled

tagged_one : (tag : ℕ) (tid : Tid) (Q : List ℕ → Type 0) (a b : List ℕ) → ((x y : List ℕ) → Q x → Q y → x ≡ y)
    → Joined (Spells (Byte tag)) (Joined (SpellsTid tid) Q) a → Joined (Spells (Byte tag)) (Joined (SpellsTid tid) Q) b → a ≡ b
tagged_one tag tid Q a b one i j =
    joined_one (Spells (Byte tag)) (Joined (SpellsTid tid) Q) a b (one_spelling (Byte tag)) (λ x y p q. joined_one (SpellsTid tid) Q x y (tid_one tid) one p q) i j

pub record_one : (rec : Record) (a b : List ℕ) → SpellsRecord rec a → SpellsRecord rec b → a ≡ b
record_one (Prepare tid server covers changes) a b p q =
    let Share : List ℕ → Type 0 = SpellsAll (Byte server.0 ∷ Word covers ∷ []) in
    tagged_one 1 tid (Joined Share (SpellsChanges changes)) a b
    (λ x y i j. joined_one Share (SpellsChanges changes) x y (all_one (Byte server.0 ∷ Word covers ∷ [])) (changes_one changes) i j) p.1 q.1
record_one (Commit tid told) a b p q = tagged_one 2 tid (SpellsNodes told) a b (nodes_one told) p q
record_one (Aborted tid) a b p q = joined_one (Spells (Byte 3)) (SpellsTid tid) a b (one_spelling (Byte 3)) (tid_one tid) p q
record_one (End tid) a b p q = joined_one (Spells (Byte 4)) (SpellsTid tid) a b (one_spelling (Byte 4)) (tid_one tid) p q
