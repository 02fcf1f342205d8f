-- The bytes of a batch that is being gathered: eight for length and count, the records, and behind them
-- what an earlier sealing left.
use Rattle.std.specs.Prelude.{◌≡◌, ℕ, zero, suc, ◌+◌, ◌^◌, ◌<◌, ◌≤◌, List, [], ◌∷◌, ◌++◌, length, take, drop, Result, Ok, Err}
use Rattle.qs_codec.specs.declared.fault.CodecFault.{CodecFault}
use Rattle.qs_codec.specs.Reading.{Reading, reading_at}
use Rattle.qs_record.specs.declared.record.Record.{Record}
use Rattle.qs_record.specs.Reading.{record_at}
use Rattle.qs_log_batch.specs.Batch.{SpellsRecords, SpellsBatch}

-- a record that was found, and those behind it
abbrev pub found_then : Result (Record × Reading) CodecFault → (Reading → List Record) → List Record
found_then (Ok found) more = found.0 ∷ more found.1
found_then (Err fault) more = []

-- so many records, or those before the first that is none
abbrev pub records_from : ℕ → Reading → List Record
records_from zero r = []
records_from (suc count) r = found_then (record_at r) (λ after. records_from count after)

-- so many records at the front of bytes
unfoldable pub records_in : ℕ → List ℕ → List Record
records_in count bytes = records_from count (reading_at bytes 0)

-- the bytes of the records, which are so many
abbrev pub body_in : ℕ → List ℕ → List ℕ
body_in size bytes = take size (drop 8 bytes)

-- so many records in so many bytes, with room for what sealing adds
pub record IsGathered (count size : ℕ) (bytes : List ℕ) (capacity : ℕ) : Type 0 where
  pub spelled : SpellsRecords (records_in count (body_in size bytes)) (body_in size bytes)
  pub counted : length (records_in count (body_in size bytes)) ≡ count
  pub small : 41 + size < 2 ^ 32
  pub within : 0 < size → 8 + size ≤ length bytes
  pub room : 0 < size → 41 + size ≤ capacity

-- what is written behind a batch's gate: the batch, and the next gate, not open
pub record IsSealed (records : List Record) (bytes : List ℕ) : Type 0 where
  pub part : List ℕ
  pub spelled : SpellsBatch 1 records (1 ∷ part)
  pub whole : bytes ≡ part ++ 0 ∷ []
