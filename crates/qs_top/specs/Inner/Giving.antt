-- What becomes of a run as its output is given.
use Rattle.std.specs.Prelude.{◌≡◌, ◌⊎◌, ⊤, ℕ, List, Option, Some, None}
use Rattle.std.specs.Io.KnownBytes.{Appends}
use Rattle.qs_base.specs.Causes.{Rose}
use Rattle.qs_io.specs.Streams.{GivesPart}
use Rattle.qs_book_script.specs.declared.status.Status.{Status}
use Rattle.qs_book_script.specs.declared.status.Status.TheVariants as statuses
use Rattle.qs_top.specs.declared.outcome.Run.{Run}
use Rattle.qs_top.specs.declared.whole.RunMade.{RunMade}

-- the statuses of a run whose text is no script
abbrev pub IsTextFault : Status → Type 0
IsTextFault (statuses.Script line fault) = ⊤
IsTextFault statuses.NoMemory = ⊤
IsTextFault _ = ⊥

-- the statuses of a run without a script
abbrev pub IsNoScript : Status → Type 0
IsNoScript (statuses.Script line fault) = ⊤
IsNoScript statuses.ReadFault = ⊤
IsNoScript statuses.NoMemory = ⊤
IsNoScript _ = ⊥

-- all of the bytes were given, and the status stands
pub record WasGiven {K : Type 0} (given : K → Option (List ℕ)) (old new : K) (bytes : List ℕ) (before after : Status) : Type 0 where
  pub status : after ≡ before
  pub all : Appends (given old) (given new) bytes

-- a part of them was, for a fault of the sink
pub record WasCutOff {K : Type 0} (faults : K → ℕ) (given : K → Option (List ℕ)) (old new : K) (bytes : List ℕ) (after : Status) : Type 0 where
  pub status : after ≡ statuses.WriteFault
  pub part : GivesPart (given old) (given new) bytes
  pub rose : Rose (faults old) (faults new)

-- nothing was to be given
pub record WasSilent {K : Type 0} (given : K → Option (List ℕ)) (old new : K) (before after : Status) : Type 0 where
  pub status : after ≡ before
  pub nothing : given new ≡ given old

abbrev pub IsGivenOf : {K : Type 0} → (K → ℕ) → (K → Option (List ℕ)) → K → K → Option (List ℕ) → Status → Status → Type 0
IsGivenOf faults given old new None before after = WasSilent given old new before after
IsGivenOf faults given old new (Some bytes) before after = WasGiven given old new bytes before after ⊎ WasCutOff faults given old new bytes after

pub record IsGiven {K : Type 0} (faults : K → ℕ) (given : K → Option (List ℕ)) (old new : K) (made : RunMade) (run : Run) : Type 0 where
  pub entries : run.journal ≡ made.journal
  pub steps : run.trace ≡ made.trace
  pub output : IsGivenOf faults given old new made.output made.status run.status
