-- What a disk of zeros has for a log is empty, and so coherent.
use Rattle.std.proofs.Common.{◌≡◌, subst, ℕ, ◌+◌, List, [], replicate}
use Rattle.std.specs.Global.{Global}
use Rattle.qs_log_batch.specs.Batch.{IsCounted}
use Rattle.qs_log.proofs.Fresh.{fresh_area}
use Rattle.qs_log.specs.Image.{live_area}
use Rattle.qs_world_opening.specs.Coherent.{AreCoherentLogs, IsCoherentImage}
use Rattle.qs_record.specs.declared.record.Record.{Record}

-- an area is counted in one way, and empty logs are coherent
pub fresh : ((format : ℕ) (area : List ℕ) (rs ss : List Record) (m n : ℕ) → IsCounted format area rs m → IsCounted format area ss n → (rs ≡ ss) × (m ≡ n))
    → ((alloc : Global) (size : ℕ) (incs : ℕ → ℕ) → AreCoherentLogs alloc size incs (λ n. [])) → (alloc : Global) (size : ℕ) → IsCoherentImage alloc (replicate size 0)
fresh once empty alloc size = λ present records used log.
    subst (λ (l : List Record). AreCoherentLogs alloc 1 (λ n. present.value.inc + 1) (λ n. l))
    (once present.value.format (live_area present.value.generation (replicate size 0)) [] records 0 used
    (fresh_area present.value.format present.value.generation size) log.counted).0
    (empty alloc 1 (λ n. present.value.inc + 1))
