-- A source and a sink in memory, as their callers see them.
use Rattle.std.specs.Prelude.{◌≡◌, ℕ, ◌+◌, ◌-◌, ◌^◌, ◌<◌, ◌⊎◌, min, List, length, Contains}

-- a count one higher, at most its type's last value
abbrev pub raised : ℕ → ℕ
raised count = min (count + 1) (2 ^ 64 - 1)

-- what a source in memory has left, which of its calls fail, and its counts of calls and of faults
pub record SourceValue : Type 0 where
  pub left : List ℕ
  pub fail : List ℕ
  pub calls : ℕ
  pub faults : ℕ

-- what a sink in memory was given, its room, the most that it takes at a call, which of its calls fail, and its counts
pub record SinkValue : Type 0 where
  pub given : List ℕ
  pub room : ℕ
  pub piece : ℕ
  pub fail : List ℕ
  pub calls : ℕ
  pub faults : ℕ

-- how many bytes of a part of this length the sink takes, where the call does not fail
abbrev pub taken_count : SinkValue → ℕ → ℕ
taken_count sink wanted = min wanted (min sink.piece (sink.room - length sink.given))

-- the call's number stands in `fail`, or there is a part and no room
abbrev pub RefusesGive : SinkValue → ℕ → Type 0
RefusesGive sink wanted = Contains sink.fail (raised sink.calls) ⊎ ((0 < wanted) × (length sink.given ≡ sink.room))
