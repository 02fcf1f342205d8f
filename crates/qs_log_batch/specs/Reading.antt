-- What is found at the front of an area.
use Rattle.std.specs.Prelude.{◌≡◌, ◌<◌, ◌≤◌, ℕ, Bool, true, false, List, [], ◌∷◌, ◌++◌, length, take}
use Rattle.qs_codec.specs.Grammar.{Word}
use Rattle.qs_record.specs.declared.record.Record.{Record}
use Rattle.qs_record.specs.Grammar.{SpellsAll}
use Rattle.qs_log_batch.specs.Batch.{SpellsRecords, SpellsBatch}

-- no batch stands at the front
pub record HasNone (format : ℕ) (area : List ℕ) : Type 0 where
  pub none : (records : List Record) (front back : List ℕ) → area ≡ front ++ back → SpellsBatch format records front → ⊥

-- an open gate, a length and a count, bytes of that length, and 32 bytes
pub record IsCut (area head : List ℕ) (count : ℕ) (body digest : List ℕ) : Type 0 where
  pub behind : List ℕ
  pub whole : area ≡ 1 ∷ (head ++ (body ++ (digest ++ behind)))
  pub counts : SpellsAll (Word (length body) ∷ Word count ∷ []) head
  pub digest_long : length digest ≡ 32

-- the bytes are so many records, which were added
pub record AddsRecords (count : ℕ) (body : List ℕ) (old new : List Record) : Type 0 where
  pub records : List Record
  pub counted : length records ≡ count
  pub spelled : SpellsRecords records body
  pub added : new ≡ old ++ records

-- the bytes are not so many records
pub record LacksRecords (count : ℕ) (body : List ℕ) : Type 0 where
  pub none : (records : List Record) → length records ≡ count → SpellsRecords records body → ⊥

-- whether the bytes are so many records
abbrev pub Decides : Bool → ℕ → List ℕ → List Record → List Record → Type 0
Decides true count body old new = AddsRecords count body old new
Decides false count body old new = LacksRecords count body

-- the first bytes are a batch, whose records were added
pub record AddsBatch (area : List ℕ) (used : ℕ) (old new : List Record) : Type 0 where
  pub batch : List Record
  pub within : used ≤ length area
  pub some : 0 < used
  pub spelled : SpellsBatch 1 batch (take used area)
  pub added : new ≡ old ++ batch
