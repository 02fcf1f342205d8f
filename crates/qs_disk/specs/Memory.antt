-- A disk in memory, as its callers see it.
use Rattle.std.specs.Prelude.{◌≡◌, ◌↔◌, ℕ, ◌+◌, ◌-◌, ◌^◌, min, List, [], ◌∷◌, ◌++◌, Result, OnOk, OnErr, IsErr, Contains}
use Rattle.qs_disk.specs.Disk.{DiskState, IsStill}

-- a count one higher, at most its type's last value
abbrev pub raised : ℕ → ℕ
raised count = min (count + 1) (2 ^ 64 - 1)

-- what it tells, which of its calls fail, and its counts of calls and of faults
pub record MemoryValue : Type 0 where
  pub disk : DiskState
  pub fail : List ℕ
  pub calls : ℕ
  pub faults : ℕ

-- a disk on which these bytes stand, and no call was made
pub record IsFresh (bytes fail : List ℕ) (value : MemoryValue) : Type 0 where
  pub content : value.disk.content ≡ bytes
  pub still : IsStill value.disk
  pub past : value.disk.past ≡ []
  pub failing : value.fail ≡ fail
  pub calls : value.calls ≡ 0
  pub faults : value.faults ≡ 0

-- a call takes the next number, fails exactly where `fail` has it, and is then counted
pub record IsCounted {T E : Type 0} (old new : MemoryValue) (result : Result T E) : Type 0 where
  pub fails : IsErr result ↔ Contains old.fail (raised old.calls)
  pub calls : new.calls ≡ raised old.calls
  pub fail : new.fail ≡ old.fail
  pub quiet : OnOk result (new.faults ≡ old.faults)
  pub counted : OnErr result (new.faults ≡ raised old.faults)

-- one moment later, and nothing changed
abbrev pub later : DiskState → DiskState
later s = record { content = s.content; now = s.now; past = s.past ++ s.now ∷ [] }

-- the content and the images stay
pub record IsUntouched (old new : DiskState) : Type 0 where
  pub content : new.content ≡ old.content
  pub now : new.now ≡ old.now
