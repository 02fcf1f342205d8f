-- What a reader of composed values finds: the value and the place behind it, or the first fault from
-- the left.
use Rattle.std.specs.Prelude.{◌≡◌, ℕ, zero, suc, ◌+◌, List, [], ◌∷◌, ◌++◌, length, map, All, Bool, ◌==◌, nat_lt, nat_le, ◌&&◌, ◌||◌, if◌then◌else◌, Result, Ok, Err, MatchResult, ⊤}
use Rattle.std.specs.Int.{w8, w32}
use Rattle.qs_base.specs.declared.identifiers.Member.{Member}
use Rattle.qs_base.specs.declared.identifiers.NodeNo.{NodeNo}
use Rattle.qs_base.specs.declared.identifiers.Tid.{Tid}
use Rattle.qs_codec.specs.declared.fault.CodecFault.{CodecFault}
use Rattle.qs_codec.specs.declared.fault.CodecFault.TheVariants.{Short, BadTag}
use Rattle.qs_codec.specs.Reading.{Reading, Reads, left_of, reading_after, integer_at, number_at, text_at}
use Rattle.qs_codec.specs.Grammar.{Byte}
use Rattle.qs_ops.specs.Spelled.{IsSpelled, IsChange, is_change}
use Rattle.qs_ops.specs.declared.operation.Op.{Op}
use Rattle.qs_ops.specs.declared.operation.Op.TheVariants.{Put, Append, Del, Get, Listing, Note, Notes, Bind, Find, Timer, Left, Window, Title, Keep, Fetch, Lend, Extra}
use Rattle.qs_record.specs.declared.fault.RecordFault.{RecordFault}
use Rattle.qs_record.specs.declared.fault.RecordFault.TheVariants.{Codec, NoMemory}
use Rattle.qs_record.specs.declared.record.Record.{Record}
use Rattle.qs_record.specs.declared.record.Record.TheVariants.{Prepare, Commit, Aborted, End}
use Rattle.qs_record.specs.Grammar.{is_node, is_server, AreNodes, node_field, SpellsAll, SpellsOps, SpellsRecord, op_fields}

-- a front of what is left has P
pub record IsAhead (P : List ℕ → Type 0) (r : Reading) : Type 0 where
  pub part : List ℕ
  pub rest : List ℕ
  pub spelled : P part
  pub whole : left_of r ≡ part ++ rest

-- a front of what was left has P, and just that front was taken
pub record Takes (P : List ℕ → Type 0) (old new : Reading) : Type 0 where
  pub part : List ℕ
  pub spelled : P part
  pub whole : left_of old ≡ part ++ left_of new
  pub moved : new ≡ reading_after old (length part)

-- ---- what a call gave

-- what a call gave is this answer; after a fault the reader may stand anywhere
abbrev pub Finds : {X : Type 0} → Result X CodecFault → Reading → Result (X × Reading) CodecFault → Type 0
Finds (Ok x) new answer = answer ≡ Ok (x, new)
Finds (Err fault) new answer = answer ≡ Err fault

-- the same of a call that may also be refused memory
abbrev pub FindsIfRoom : {X : Type 0} → Result X RecordFault → Reading → Result (X × Reading) CodecFault → Type 0
FindsIfRoom (Ok x) new answer = answer ≡ Ok (x, new)
FindsIfRoom (Err (Codec fault)) new answer = answer ≡ Err fault
FindsIfRoom (Err NoMemory) new answer = ⊤

-- what a call gave is this answer; after a refusal, want of memory included, the reader stands where it stood
abbrev pub GivesIfRoom : {X : Type 0} → Result X RecordFault → Reading → Reading → Result (X × Reading) CodecFault → Type 0
GivesIfRoom (Ok x) old new answer = answer ≡ Ok (x, new)
GivesIfRoom (Err (Codec fault)) old new answer = (answer ≡ Err fault) × (new ≡ old)
GivesIfRoom (Err NoMemory) old new answer = new ≡ old

-- the call answered this value, or was refused memory
abbrev pub IsOrNoMemory : {X : Type 0} → Result X RecordFault → X → Type 0
IsOrNoMemory result x = MatchResult result (λ found. found ≡ x) (λ fault. fault ≡ NoMemory)

-- ---- what a call took

-- so many nodes were taken, and they rise
pub record TakesRising (count : ℕ) (old new : Reading) (nodes : List NodeNo) : Type 0 where
  pub counted : length nodes ≡ count
  pub valid : AreNodes nodes
  pub taken : Takes (SpellsAll (map node_field nodes)) old new

-- so many changes were taken
pub record TakesChanges (count : ℕ) (old new : Reading) (changes : List Op) : Type 0 where
  pub counted : length changes ≡ count
  pub each : All IsChange changes
  pub taken : Takes (SpellsOps changes) old new

-- the tags of the operations that change a server's state
abbrev pub is_change_tag : ℕ → Bool
is_change_tag tag =
    (tag == 1) || (tag == 2) || (tag == 3) || (tag == 6) || (tag == 8) || (tag == 10) || (tag == 12) || (tag == 14) || (tag == 17)

-- behind its tag an operation was taken that has a spelling
pub record TakesBehind (tag : ℕ) (old new : Reading) (op : Op) : Type 0 where
  pub valid : IsSpelled op
  pub changes : is_change op ≡ is_change_tag tag
  pub taken : (before : Reading) → Reads (Byte tag) before old → Takes (SpellsAll (op_fields op)) before new

-- behind its tag a record was taken
pub record TakesRecord (tag : ℕ) (old new : Reading) (rec : Record) : Type 0 where
  pub taken : (before : Reading) → Reads (Byte tag) before old → Takes (SpellsRecord rec) before new

-- ---- steps

-- what is found behind what was found
abbrev pub then_at : {A B : Type 0} → Result (A × Reading) CodecFault → (A → Reading → Result (B × Reading) CodecFault) → Result (B × Reading) CodecFault
then_at (Ok found) next = next found.0 found.1
then_at (Err fault) next = Err fault

-- a byte that passes the test
unfoldable pub byte_where : (ℕ → Bool) → Reading → Result (ℕ × Reading) CodecFault
byte_where test r = then_at (integer_at w8 r) (λ byte after. if test byte then Ok (byte, after) else Err (BadTag r.at byte))

-- ---- identifiers, members and lists of nodes

unfoldable pub tid_at : Reading → Result (Tid × Reading) CodecFault
tid_at r =
    then_at (byte_where is_node r) (λ home behind_home.
    then_at (number_at behind_home) (λ inc behind_inc.
    then_at (integer_at w32 behind_inc) (λ seq after. Ok (record { home = record { 0 = home }; inc = inc; seq = seq }, after))))

unfoldable pub member_at : Reading → Result (Member × Reading) CodecFault
member_at r =
    then_at (byte_where is_node r) (λ node behind_node.
    then_at (byte_where is_server behind_node) (λ server after. Ok (record { node = record { 0 = node }; server = record { 0 = server } }, after)))

-- a node at or above the least that may come
abbrev pub is_node_from : ℕ → ℕ → Bool
is_node_from least n = nat_le least n && is_node n

-- so many nodes that rise, from the least that may come
unfoldable pub rising_at : ℕ → ℕ → Reading → Result (List NodeNo × Reading) CodecFault
rising_at zero least r = Ok ([], r)
rising_at (suc count) least r =
    then_at (byte_where (is_node_from least) r) (λ n behind.
    then_at (rising_at count (n + 1) behind) (λ nodes after. Ok (record { 0 = n } ∷ nodes, after)))

-- as many nodes as counted; a count above the bytes that are left is short at the count
unfoldable pub nodes_at : Reading → Result (List NodeNo × Reading) CodecFault
nodes_at r =
    then_at (integer_at w8 r) (λ count behind.
    if nat_lt (length (left_of behind)) count then Err (Short r.at count) else rising_at count 0 behind)

-- ---- operations

-- what is made of a text
unfoldable pub one_text_at : (List ℕ → Op) → ℕ → Reading → Result (Op × Reading) CodecFault
one_text_at make max r = then_at (text_at max r) (λ text after. Ok (make text, after))

-- a name and a text
unfoldable pub name_and_text_at : Reading → Result ((List ℕ × List ℕ) × Reading) CodecFault
name_and_text_at r = then_at (text_at 64 r) (λ name behind. then_at (text_at 4096 behind) (λ text after. Ok ((name, text), after)))

-- what is made of a name and a text
unfoldable pub two_texts_at : (List ℕ → List ℕ → Op) → Reading → Result (Op × Reading) CodecFault
two_texts_at make r = then_at (name_and_text_at r) (λ both after. Ok (make both.0 both.1, after))

unfoldable pub timer_at : Reading → Result (Op × Reading) CodecFault
timer_at r = then_at (text_at 64 r) (λ name behind. then_at (integer_at w32 behind) (λ ticks after. Ok (Timer name ticks, after)))

unfoldable pub lend_at : Reading → Result (Op × Reading) CodecFault
lend_at r = then_at (integer_at w8 r) (λ client after. Ok (Lend (record { 0 = client }), after))

unfoldable pub extra_at : Reading → Result (Op × Reading) CodecFault
extra_at r = then_at (integer_at w32 r) (λ code behind. then_at (text_at 4096 behind) (λ text after. Ok (Extra code text, after)))

-- the tags of the operations of a name and a text
abbrev pub has_name_and_text : ℕ → Bool
has_name_and_text tag = (tag == 1) || (tag == 2) || (tag == 8) || (tag == 12) || (tag == 14)

-- the tags of the operations of a name alone
abbrev pub has_name : ℕ → Bool
has_name tag = (tag == 3) || (tag == 4) || (tag == 9) || (tag == 11) || (tag == 13) || (tag == 15)

-- what stands behind a tag of an operation, which stood at this place
unfoldable pub op_behind : ℕ → ℕ → Reading → Result (Op × Reading) CodecFault
op_behind at tag r =
    if tag == 1 then two_texts_at Put r
    else if tag == 2 then two_texts_at Append r
    else if tag == 3 then one_text_at Del 64 r
    else if tag == 4 then one_text_at Get 64 r
    else if tag == 5 then Ok (Listing, r)
    else if tag == 6 then one_text_at Note 4096 r
    else if tag == 7 then Ok (Notes, r)
    else if tag == 8 then two_texts_at Bind r
    else if tag == 9 then one_text_at Find 64 r
    else if tag == 10 then timer_at r
    else if tag == 11 then one_text_at Left 64 r
    else if tag == 12 then two_texts_at Window r
    else if tag == 13 then one_text_at Title 64 r
    else if tag == 14 then two_texts_at Keep r
    else if tag == 15 then one_text_at Fetch 64 r
    else if tag == 16 then lend_at r
    else if tag == 17 then extra_at r
    else Err (BadTag at tag)

unfoldable pub op_at : Reading → Result (Op × Reading) CodecFault
op_at r = then_at (integer_at w8 r) (λ tag behind. op_behind r.at tag behind)

unfoldable pub change_at : Reading → Result (Op × Reading) CodecFault
change_at r = then_at (byte_where is_change_tag r) (λ tag behind. op_behind r.at tag behind)

-- so many changes one behind the other
unfoldable pub changes_behind : ℕ → Reading → Result (List Op × Reading) CodecFault
changes_behind zero r = Ok ([], r)
changes_behind (suc count) r =
    then_at (change_at r) (λ op behind.
    then_at (changes_behind count behind) (λ ops after. Ok (op ∷ ops, after)))

-- as many changes as counted; a count above the bytes that are left is short at the count
unfoldable pub changes_at : Reading → Result (List Op × Reading) CodecFault
changes_at r =
    then_at (integer_at w32 r) (λ count behind.
    if nat_lt (length (left_of behind)) count then Err (Short r.at count) else changes_behind count behind)

-- ---- records

unfoldable pub prepare_at : Reading → Result (Record × Reading) CodecFault
prepare_at r =
    then_at (tid_at r) (λ tid behind_tid.
    then_at (byte_where is_server behind_tid) (λ server behind_server.
    then_at (integer_at w32 behind_server) (λ covers behind_covers.
    then_at (changes_at behind_covers) (λ changes after. Ok (Prepare tid (record { 0 = server }) covers changes, after)))))

unfoldable pub commit_at : Reading → Result (Record × Reading) CodecFault
commit_at r = then_at (tid_at r) (λ tid behind. then_at (nodes_at behind) (λ told after. Ok (Commit tid told, after)))

unfoldable pub aborted_at : Reading → Result (Record × Reading) CodecFault
aborted_at r = then_at (tid_at r) (λ tid after. Ok (Aborted tid, after))

unfoldable pub end_at : Reading → Result (Record × Reading) CodecFault
end_at r = then_at (tid_at r) (λ tid after. Ok (End tid, after))

-- what stands behind a tag of a record, which stood at this place
unfoldable pub record_behind : ℕ → ℕ → Reading → Result (Record × Reading) CodecFault
record_behind at tag r =
    if tag == 1 then prepare_at r
    else if tag == 2 then commit_at r
    else if tag == 3 then aborted_at r
    else if tag == 4 then end_at r
    else Err (BadTag at tag)

unfoldable pub record_at : Reading → Result (Record × Reading) CodecFault
record_at r = then_at (integer_at w8 r) (λ tag behind. record_behind r.at tag behind)
