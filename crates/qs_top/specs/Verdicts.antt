-- How a run judges its own journal.
use Rattle.std.specs.Prelude.{◌≡◌, ℕ, ◌+◌, ◌-◌, ◌^◌, List, ◌∷◌, fold, Option, Some, None, Result, Err, OnOk, IfErr, min, ⊤}
use Rattle.qs_book_conformance.specs.Begun.{at_start}
use Rattle.qs_book_conformance.specs.Conforming.{first_misfit, first_misfit_from, fault_of}
use Rattle.qs_book_conformance.specs.Course.{CourseValue}
use Rattle.qs_book_conformance.specs.Effects.{course_after}
use Rattle.qs_book_conformance.specs.declared.fault.Fault.{Fault}
use Rattle.qs_book_conformance.specs.declared.fault.Fault.TheVariants as faults
use Rattle.qs_book_conformance.specs.declared.fault.Misfit.{Misfit}
use Rattle.qs_book_journal.specs.declared.entry.Entry.{Entry}
use Rattle.qs_book_machine.specs.Book.{BookValue}
use Rattle.qs_book_script.specs.declared.script.Script.{Script}
use Rattle.qs_book_script.specs.declared.status.Status.{Status}
use Rattle.qs_book_script.specs.declared.status.Status.TheVariants as statuses

-- ---- where it is refused

-- the rules of the script have no numbers
abbrev pub rule_of_script : ℕ
rule_of_script = 0

abbrev pub clause_of : Fault → ℕ
clause_of (faults.Unlawful clause) = clause
clause_of (faults.Broken rule) = rule_of_script

-- the line that the entry with this place has where the history is printed; lines end at 32 bits
abbrev pub line_of : ℕ → ℕ
line_of place = min (place + 1) (2 ^ 32 - 1)

-- of this misfit the line and the clause are told
abbrev pub TellsMisfit : Option Misfit → ℕ → ℕ → Type 0
TellsMisfit None line clause = ⊥
TellsMisfit (Some misfit) line clause = (line ≡ line_of misfit.place) × (clause ≡ clause_of misfit.fault)

-- the journal is refused, at this line for this clause
abbrev pub IsRefusedAt : Script → BookValue → List Entry → ℕ → ℕ → Type 0
IsRefusedAt script book journal line clause = TellsMisfit (first_misfit script book journal) line clause

-- ---- what the judge knows

-- what the script and the machine say after a journal that conforms
abbrev pub course_of : Script → BookValue → List Entry → CourseValue
course_of script book journal = fold course_after (at_start script book) journal

-- ---- within the judging

-- why a run of which nothing is told ends there
abbrev pub IsRefusal : Status → Type 0
IsRefusal (statuses.Unlawful line clause) = ⊤
IsRefusal statuses.NoMemory = ⊤
IsRefusal _ = ⊥

-- an entry with this place was taken in, or refused: it is the first misfit of whatever history goes on with it
pub record IsJudged (place : ℕ) (old : CourseValue) (entry : Entry) (new : CourseValue) (res : Result Unit Status) : Type 0 where
  pub conforms : OnOk res (fault_of old entry ≡ None)
  pub taken : OnOk res (new ≡ course_after old entry)
  pub refused : (line clause : ℕ) → res ≡ Err (statuses.Unlawful line clause)
      → (more : List Entry) → TellsMisfit (first_misfit_from place old (entry ∷ more)) line clause
  pub refusal : IfErr res IsRefusal

-- entries were taken in, or the first of them that does not conform was refused
pub record IsTakenIn (old : CourseValue) (entries : List Entry) (new : CourseValue) (res : Result Unit Status) : Type 0 where
  pub conforms : OnOk res (first_misfit_from 0 old entries ≡ None)
  pub taken : OnOk res (new ≡ fold course_after old entries)
  pub refused : (line clause : ℕ) → res ≡ Err (statuses.Unlawful line clause) → TellsMisfit (first_misfit_from 0 old entries) line clause
  pub refusal : IfErr res IsRefusal
