-- Which bytes spell an identifier, a member, a list of nodes, an operation and a record. A value's fields
-- stand one behind the other, a record's and an operation's behind its tag.
use Rattle.std.specs.Prelude.{◌≡◌, ℕ, ◌+◌, ◌^◌, ◌<◌, Bool, true, List, [], ◌∷◌, ◌++◌, length, map, nat_lt, nat_le, ◌&&◌, ◌||◌}
use Rattle.qs_base.specs.declared.identifiers.Member.{Member}
use Rattle.qs_base.specs.declared.identifiers.NodeNo.{NodeNo}
use Rattle.qs_base.specs.declared.identifiers.Tid.{Tid}
use Rattle.qs_codec.specs.Grammar.{Field, Byte, Word, Number, Text, Spells}
use Rattle.qs_ops.specs.Spelled.{IsSpelled, AreChanges, prepare_length}
use Rattle.qs_ops.specs.declared.operation.Op.{Op}
use Rattle.qs_ops.specs.declared.operation.Op.TheVariants.{Put, Append, Del, Get, Listing, Note, Notes, Bind, Find, Timer, Left, Window, Title, Keep, Fetch, Lend, Extra}
use Rattle.qs_record.specs.declared.record.Record.{Record}
use Rattle.qs_record.specs.declared.record.Record.TheVariants.{Prepare, Commit, Aborted, End}

-- first what spells the one, then what spells the other
pub record Joined (P Q : List ℕ → Type 0) (bytes : List ℕ) : Type 0 where
  pub front : List ℕ
  pub back : List ℕ
  pub whole : bytes ≡ front ++ back
  pub first : P front
  pub second : Q back

-- fields one behind the other
abbrev pub SpellsAll : List Field → List ℕ → Type 0
SpellsAll [] bytes = bytes ≡ []
SpellsAll (f ∷ fs) bytes = Joined (Spells f) (SpellsAll fs) bytes

-- ---- identifiers, members and lists of nodes

-- there are 16 nodes at most
abbrev pub is_node : ℕ → Bool
is_node n = nat_lt n 16

-- the servers of a node, and the borrowers
abbrev pub is_server : ℕ → Bool
is_server n = nat_le n 6 || (nat_le 32 n && nat_le n 95)

-- the identifier has a spelling
pub record IsTid (tid : Tid) : Type 0 where
  pub home : is_node tid.home.0 ≡ true
  pub inc : tid.inc < 2 ^ 62

-- home, incarnation and number: 13 bytes
pub record SpellsTid (tid : Tid) (bytes : List ℕ) : Type 0 where
  pub valid : IsTid tid
  pub spelled : SpellsAll (Byte tid.home.0 ∷ Number tid.inc ∷ Word tid.seq ∷ []) bytes

-- the member has a spelling
pub record IsMember (member : Member) : Type 0 where
  pub node : is_node member.node.0 ≡ true
  pub server : is_server member.server.0 ≡ true

-- node and server: 2 bytes
pub record SpellsMember (member : Member) (bytes : List ℕ) : Type 0 where
  pub valid : IsMember member
  pub spelled : SpellsAll (Byte member.node.0 ∷ Byte member.server.0 ∷ []) bytes

-- each node is at or above the least that may come, and above the one before it
abbrev pub is_rising : ℕ → List NodeNo → Bool
is_rising least [] = true
is_rising least (n ∷ ns) = nat_le least n.0 && (is_node n.0 && is_rising (n.0 + 1) ns)

-- the list of nodes has a spelling: it rises
abbrev pub AreNodes : List NodeNo → Type 0
AreNodes nodes = is_rising 0 nodes ≡ true

abbrev pub node_field : NodeNo → Field
node_field n = Byte n.0

-- their count, and each of them: a byte and one for each
pub record SpellsNodes (nodes : List NodeNo) (bytes : List ℕ) : Type 0 where
  pub valid : AreNodes nodes
  pub spelled : SpellsAll (Byte (length nodes) ∷ map node_field nodes) bytes

-- ---- operations

-- its tag, and its names, texts and numbers
abbrev pub op_fields : Op → List Field
op_fields (Put name text) = Byte 1 ∷ Text name ∷ Text text ∷ []
op_fields (Append name text) = Byte 2 ∷ Text name ∷ Text text ∷ []
op_fields (Del name) = Byte 3 ∷ Text name ∷ []
op_fields (Get name) = Byte 4 ∷ Text name ∷ []
op_fields Listing = Byte 5 ∷ []
op_fields (Note text) = Byte 6 ∷ Text text ∷ []
op_fields Notes = Byte 7 ∷ []
op_fields (Bind name text) = Byte 8 ∷ Text name ∷ Text text ∷ []
op_fields (Find name) = Byte 9 ∷ Text name ∷ []
op_fields (Timer name ticks) = Byte 10 ∷ Text name ∷ Word ticks ∷ []
op_fields (Left name) = Byte 11 ∷ Text name ∷ []
op_fields (Window name text) = Byte 12 ∷ Text name ∷ Text text ∷ []
op_fields (Title name) = Byte 13 ∷ Text name ∷ []
op_fields (Keep name text) = Byte 14 ∷ Text name ∷ Text text ∷ []
op_fields (Fetch name) = Byte 15 ∷ Text name ∷ []
op_fields (Lend client) = Byte 16 ∷ Byte client.0 ∷ []
op_fields (Extra code text) = Byte 17 ∷ Word code ∷ Text text ∷ []

pub record SpellsOp (op : Op) (bytes : List ℕ) : Type 0 where
  pub valid : IsSpelled op
  pub spelled : SpellsAll (op_fields op) bytes

-- operations one behind the other
abbrev pub SpellsOps : List Op → List ℕ → Type 0
SpellsOps [] bytes = bytes ≡ []
SpellsOps (op ∷ ops) bytes = Joined (SpellsOp op) (SpellsOps ops) bytes

-- changes behind their count
pub record SpellsChanges (changes : List Op) (bytes : List ℕ) : Type 0 where
  pub valid : AreChanges changes
  pub spelled : Joined (Spells (Word (length changes))) (SpellsOps changes) bytes

-- ---- records

-- the record has a spelling
abbrev pub IsRecord : Record → Type 0
IsRecord (Prepare tid server covers changes) = IsTid tid × (is_server server.0 ≡ true) × AreChanges changes
IsRecord (Commit tid told) = IsTid tid × AreNodes told
IsRecord (Aborted tid) = IsTid tid
IsRecord (End tid) = IsTid tid

-- its tag, the identifier, and what the record says of it
abbrev pub SpellsRecord : Record → List ℕ → Type 0
SpellsRecord (Prepare tid server covers changes) bytes =
    (is_server server.0 ≡ true)
    × Joined (Spells (Byte 1)) (Joined (SpellsTid tid) (Joined (SpellsAll (Byte server.0 ∷ Word covers ∷ [])) (SpellsChanges changes))) bytes
SpellsRecord (Commit tid told) bytes = Joined (Spells (Byte 2)) (Joined (SpellsTid tid) (SpellsNodes told)) bytes
SpellsRecord (Aborted tid) bytes = Joined (Spells (Byte 3)) (SpellsTid tid) bytes
SpellsRecord (End tid) bytes = Joined (Spells (Byte 4)) (SpellsTid tid) bytes

-- how many bytes spell the record
abbrev pub record_length : Record → ℕ
record_length (Prepare tid server covers changes) = prepare_length changes
record_length (Commit tid told) = 15 + length told
record_length (Aborted tid) = 14
record_length (End tid) = 14
