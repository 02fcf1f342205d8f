-- What a run is once its output was given.
use Rattle.std.proofs.Common.{◌≡◌, ◌⊎◌, inl, inr, ℕ, List, [], Option, Some, None, refl, sym, subst, ◌∙◌, append-nil}
use Rattle.std.specs.Io.KnownBytes.{Appends}
use Rattle.qs_base.specs.Causes.{Rose}
use Rattle.qs_disk.specs.Disk.{DiskState}
use Rattle.qs_io.specs.Streams.{GivesPart}
use Rattle.qs_book_script.specs.declared.status.Status.{Status}
use Rattle.qs_book_script.specs.declared.status.Status.TheVariants as statuses
use Rattle.qs_disk.specs.Moments.{Keeps}
use Rattle.qs_log_start.specs.Incarnation.{IsTouched}
use Rattle.qs_top.specs.Inner.Giving.{IsGiven, IsGivenOf}
use Rattle.qs_top.specs.Run.{IsNothing}
use Rattle.qs_top.specs.Statuses.{Gives, IfNot, IsEnd, IsOfRounds, IsOfRun, Tells}
use Rattle.qs_top.specs.declared.outcome.Run.{Run}
use Rattle.qs_top.specs.declared.whole.RunMade.{RunMade}
use Rattle.qs_top.proofs.StatusLemmas.{end_gives, end_or, rounds_of_run}

-- ---- no disk was opened

pub touched_alone : (s : DiskState) → Keeps (IsTouched s) s s
touched_alone s = record { between = []; grows = sym (append-nil s.past); each = tt; here = λ image is. inl is }

-- ---- how the output was given

-- of nothing that was to be given, or of all, the status is that of what was made; else the sink failed
given_status : {K : Type 0} (faults : K → ℕ) (given : K → Option (List ℕ)) (old new : K) (output : Option (List ℕ)) (before after : Status) → IsGivenOf faults given old new output before after → (after ≡ before) ⊎ ((after ≡ statuses.WriteFault) × ((bytes : List ℕ) × (output ≡ Some bytes)))
given_status faults given old new None before after g = inl g.status
given_status faults given old new (Some bytes) before after (inl g) = inl g.status
given_status faults given old new (Some bytes) before after (inr g) = inr (g.status, (bytes, refl))

-- these bytes were to be given, and were, where the status is an end
pub given_whole : {K : Type 0} (faults : K → ℕ) (given : K → Option (List ℕ)) (old new : K) (output : Option (List ℕ)) (before after : Status) (bytes : List ℕ) → IsGivenOf faults given old new output before after → output ≡ Some bytes → IsEnd after → (after ≡ before) × Appends (given old) (given new) bytes
given_whole faults given old new None before after bytes g is e = absurd (cc (is))
given_whole faults given old new (Some other) before after bytes (inl g) is e = (g.status, subst (λ (o : List ℕ). Appends (given old) (given new) o) (some_is is) g.all)
  where
    some_is : Some other ≡ Some bytes → other ≡ bytes
    some_is same = cc (same)
given_whole faults given old new (Some other) before after bytes (inr g) is e = absurd (subst IsEnd g.status e)

pub given_part : {K : Type 0} (faults : K → ℕ) (given : K → Option (List ℕ)) (old new : K) (output : Option (List ℕ)) (before after : Status) (bytes : List ℕ) → IsGivenOf faults given old new output before after → output ≡ Some bytes → IsEnd before → after ≡ statuses.WriteFault → GivesPart (given old) (given new) bytes
given_part faults given old new None before after bytes g is e fault = absurd (cc (is))
given_part faults given old new (Some other) before after bytes (inl g) is e fault = absurd (subst IsEnd (sym g.status ∙ fault) e)
given_part faults given old new (Some other) before after bytes (inr g) is e fault = subst (λ (o : List ℕ). GivesPart (given old) (given new) o) (some_is is) g.part
  where
    some_is : Some other ≡ Some bytes → other ≡ bytes
    some_is same = cc (same)

-- whatever was made, of which nothing is to be given but at an end
module _ {K : Type 0} (faults : K → ℕ) (given : K → Option (List ℕ)) (before after : K) (made : RunMade) (run : Run) (gave : IsGiven faults given before after made run) where
  pub status_of_given : (run.status ≡ made.status) ⊎ ((run.status ≡ statuses.WriteFault) × ((bytes : List ℕ) × (made.output ≡ Some bytes)))
  status_of_given = given_status faults given before after made.output made.status run.status gave.output

  pub ends_given : IfNot (IsEnd made.status) (made.output ≡ None) → (bytes : List ℕ) → made.output ≡ Some bytes → IsEnd made.status
  ends_given silent bytes is = by (end_or made.status)
    where
      by : IsEnd made.status ⊎ (IsEnd made.status → ⊥) → IsEnd made.status
      by (inl e) = e
      by (inr n) = absurd (cc (is, silent n))

  -- a status that is no fault of the sink is that of what was made
  pub status_made : (status : Status) → run.status ≡ status → (statuses.WriteFault ≡ status → ⊥) → made.status ≡ status
  status_made status is other = by status_of_given
    where
      by : (run.status ≡ made.status) ⊎ ((run.status ≡ statuses.WriteFault) × ((bytes : List ℕ) × (made.output ≡ Some bytes))) → made.status ≡ status
      by (inl same) = sym same ∙ is
      by (inr cut) = absurd (other (sym cut.0 ∙ is))

  pub empty_given : IfNot (Tells made.status) (IsNothing made.journal made.trace) → IfNot (Tells run.status) (IsNothing run.journal run.trace)
  empty_given empty untold = by status_of_given
    where
      by : (run.status ≡ made.status) ⊎ ((run.status ≡ statuses.WriteFault) × ((bytes : List ℕ) × (made.output ≡ Some bytes))) → IsNothing run.journal run.trace
      by (inl same) = let none : IsNothing made.journal made.trace = empty (λ tells. untold (subst Tells (sym same) tells)) in record { entries = gave.entries ∙ none.entries; steps = gave.steps ∙ none.steps }
      by (inr cut) = absurd (untold (subst Tells (sym cut.0) tt))

  -- only where the sink's own count rose is the status a fault of it, behind what is none
  pub fault_given : IsOfRounds made.status → run.status ≡ statuses.WriteFault → Rose (faults before) (faults after)
  fault_given built is = by made.output gave.output
    where
      never : run.status ≡ made.status → Rose (faults before) (faults after)
      never same = absurd (subst IsOfRounds (sym same ∙ is) built)

      by : (output : Option (List ℕ)) → IsGivenOf faults given before after output made.status run.status → Rose (faults before) (faults after)
      by None g = never g.status
      by (Some bytes) (inl g) = never g.status
      by (Some bytes) (inr g) = g.rose

  -- and else nothing was given
  pub silent_given : IfNot (IsEnd made.status) (made.output ≡ None) → IfNot (Gives run.status) (given after ≡ given before)
  silent_given silent not = by made.output refl gave.output
    where
      by : (output : Option (List ℕ)) → made.output ≡ output → IsGivenOf faults given before after output made.status run.status → given after ≡ given before
      by None is g = g.nothing
      by (Some bytes) is (inl g) = absurd (not (subst Gives (sym g.status) (end_gives made.status (ends_given silent bytes is))))
      by (Some bytes) is (inr g) = absurd (not (subst Gives (sym g.status) tt))

  pub built_given : IsOfRounds made.status → IsOfRun run.status
  built_given built = by status_of_given
    where
      by : (run.status ≡ made.status) ⊎ ((run.status ≡ statuses.WriteFault) × ((bytes : List ℕ) × (made.output ≡ Some bytes))) → IsOfRun run.status
      by (inl same) = subst IsOfRun (sym same) (rounds_of_run made.status built)
      by (inr cut) = subst IsOfRun (sym cut.0) tt
