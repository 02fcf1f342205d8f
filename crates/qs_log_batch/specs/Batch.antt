-- Batches of records as bytes, one behind the other at the front of an area.
use Rattle.std.specs.Prelude.{◌≡◌, ◌≢◌, ◌<◌, ℕ, ◌+◌, List, [], ◌∷◌, ◌++◌, length, get_or, sum_by}
use Rattle.sha2.specs.Sha256.{sha256}
use Rattle.qs_codec.specs.Grammar.{Word}
use Rattle.qs_record.specs.Grammar.{Joined, SpellsAll, SpellsRecord, record_length}
use Rattle.qs_record.specs.declared.record.Record.{Record}

-- records one behind the other, as format 1 has them
abbrev pub SpellsRecords : List Record → List ℕ → Type 0
SpellsRecords [] bytes = bytes ≡ []
SpellsRecords (r ∷ rs) bytes = Joined (SpellsRecord r) (SpellsRecords rs) bytes

-- the record bytes of a batch in a format; format 1 is the one that is built
abbrev pub SpellsBody : ℕ → List Record → List ℕ → Type 0
SpellsBody format records bytes = (format ≡ 1) × SpellsRecords records bytes

-- an open gate, the length and count of the records, the records, and the digest of all three
pub record SpellsBatch (format : ℕ) (records : List Record) (bytes : List ℕ) : Type 0 where
  pub head : List ℕ
  pub body : List ℕ
  pub some : 0 < length records
  pub counts : SpellsAll (Word (length body) ∷ Word (length records) ∷ []) head
  pub spelled : SpellsBody format records body
  pub whole : bytes ≡ 1 ∷ (head ++ body ++ sha256 (head ++ body))

-- batches one behind the other
abbrev pub SpellsBatches : ℕ → List (List Record) → List ℕ → Type 0
SpellsBatches format [] bytes = bytes ≡ []
SpellsBatches format (b ∷ bs) bytes = Joined (SpellsBatch format b) (SpellsBatches format bs) bytes

-- the gate at the front is not open, or the area ends here
abbrev pub IsClosed : List ℕ → Type 0
IsClosed area = get_or area 0 0 ≢ 1

-- the counted batches of an area: they stand at its front, and no gate is open behind them
pub record Counts (format : ℕ) (batches : List (List Record)) (area : List ℕ) : Type 0 where
  pub used : List ℕ
  pub rest : List ℕ
  pub whole : area ≡ used ++ rest
  pub spelled : SpellsBatches format batches used
  pub ends : IsClosed rest

-- at this place of an area, behind batches, a gate is open over what is no batch
pub record IsBroken (format : ℕ) (area : List ℕ) (at : ℕ) : Type 0 where
  pub batches : List (List Record)
  pub used : List ℕ
  pub rest : List ℕ
  pub whole : area ≡ used ++ rest
  pub spelled : SpellsBatches format batches used
  pub place : at ≡ length used
  pub gate : get_or rest 0 0 ≡ 1
  pub none : (records : List Record) (front back : List ℕ) → rest ≡ front ++ back → SpellsBatch format records front → ⊥

-- the records of batches, in order
abbrev pub joined : List (List Record) → List Record
joined [] = []
joined (b ∷ bs) = b ++ joined bs

-- a batch is 41 bytes longer than its records
abbrev pub batch_length : List Record → ℕ
batch_length records = 41 + sum_by record_length records

-- what an area counts: all records, and how many bytes the batches take
pub record IsCounted (format : ℕ) (area : List ℕ) (records : List Record) (used : ℕ) : Type 0 where
  pub batches : List (List Record)
  pub counted : Counts format batches area
  pub records_are : joined batches ≡ records
  pub used_is : sum_by batch_length batches ≡ used
