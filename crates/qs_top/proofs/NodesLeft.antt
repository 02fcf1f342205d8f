-- What a run of many nodes leaves on each disk, and that a fault of a disk and a damage are of the disk that is named.
use Rattle.std.proofs.Common.{◌≡◌, ◌⊎◌, ◌∙◌, inl, inr, subst, sym, ℕ, ◌<◌, List, length, Option, Some, Result, Ok, Err, arith, slice_get}
use Rattle.qs_base.specs.Causes.{Rose}
use Rattle.qs_base.specs.declared.identifiers.NodeNo.{NodeNo}
use Rattle.qs_base.specs.declared.memory.NoMemory.{NoMemory}
use Rattle.qs_book_script.specs.declared.script.Script.{Script}
use Rattle.qs_book_script.specs.declared.status.Status.{Status}
use Rattle.qs_book_script.specs.declared.status.Status.TheVariants as statuses
use Rattle.qs_disk.specs.Disk.{DiskState}
use Rattle.qs_log.specs.declared.fault.OpenFault.{OpenFault}
use Rattle.qs_log.specs.declared.fault.OpenFault.TheVariants as open_faults
use Rattle.qs_top.specs.Disks.{IsHeldBy, IsOnlyTouched}
use Rattle.qs_top.specs.Inner.CameTo.{CameTo, HasRunSo}
use Rattle.qs_top.specs.Inner.Giving.{IsGiven}
use Rattle.qs_top.specs.Inner.Making.{not_opened}
use Rattle.qs_top.specs.Inner.OverNodes.{IsOverNodes}
use Rattle.qs_top.specs.Run.{GoesOnFrom, IsLogged, LeaveAll, Leaves}
use Rattle.qs_top.specs.Statuses.{IsEnd}
use Rattle.qs_top.specs.Verdicts.{IsRefusal}
use Rattle.qs_top.specs.declared.outcome.Run.{Run}
use Rattle.qs_top.specs.declared.whole.RunMade.{RunMade}
use Rattle.qs_top.proofs.Given.{status_of_given}
use Rattle.qs_top.proofs.Held.{held_at}
use Rattle.qs_top.proofs.NodesCame.{came_to}
use Rattle.qs_top.proofs.StatusLemmas.{status_ends}
use Rattle.qs_world.specs.Moves.{node_no}
use Rattle.qs_world_nodes.proofs.Places.{found, low_of}
use Rattle.qs_world_plans.specs.Waiting.{waiting_of}
use Rattle.qs_world_rounds.specs.declared.faults.RoundFault.{RoundFault}
use Rattle.qs_world_rounds.specs.declared.faults.RoundFault.TheVariants as faults
use Rattle.qs_world_rounds.specs.declared.rounds.Ending.{Ending}
use Rattle.qs_world_rounds.specs.Rounds.{Cast}
use Rattle.qs_world_serial.specs.Serial.{EachBeside, HasRun, IsTouchedDisk, IsTouchedUpTo}
use Rattle.qs_world_serial.specs.declared.serial.SiteTold.{SiteTold}
use Rattle.qs_world_sites.specs.Breaks.{HasRisen}
use Rattle.qs_text.specs.declared.given.Shown.{Shown}

-- P of each disk, with what stands beside it
pub each_of : {A B : Type 0} (P Q : ℕ → A → B → Type 0) (these : List A) (those : List B) → ((n : ℕ) (a : A) (b : B) → P n a b → Q n a b) → EachBeside P these those → EachBeside Q these those
each_of P Q these those so each = record { count = each.count; each = λ n a b a_is b_is. so n a b (each.each n a b a_is b_is) }

-- ---- what is left

module _ {D : Type 0} (told : Type 0) (state : D → DiskState) (own size : D → ℕ) (script : Script) (seed : ℕ) (ending : Result Ending RoundFault) (tells : Result (List SiteTold) NoMemory) (disks afters : List D) (ran : HasRun told state own size script seed ending tells disks afters) where
  last_count : length ran.last.sites ≡ length disks
  last_count = ran.stays.count ∙ ran.begins.count

  pub logged_all : EachBeside (IsLogged told state (length disks)) disks afters
  logged_all = record { count = ran.leaves.count ∙ last_count; each = each }
    where
      each : (n : ℕ) (disk after : D) → slice_get disks n ≡ Some disk → slice_get afters n ≡ Some after → IsLogged told state (length disks) n disk after
      each n disk after of_disk of_after t = by (found ran.first.sites n (omega (arith, low, ran.begins.count))) (found ran.last.sites n (omega (arith, low, last_count)))
        where
          low : n < length disks
          low = low_of disks n disk of_disk

          by : (first : Cast D) × (slice_get ran.first.sites n ≡ Some first) → (last : Cast D) × (slice_get ran.last.sites n ≡ Some last) → GoesOnFrom (length disks) (node_no n) (state disk).content (state after).now
          by (first, first_is) (last, last_is) = record {
            script = script;
            opened = last.node.opened;
            held = subst (IsHeldBy script (length disks) (node_no n) (state disk).content) (sym (ran.stays.each n first last first_is last_is).start.opened)
                (held_at told state own ran.alloc script (length disks) (node_no n) disk first (ran.begins.each n disk first of_disk first_is) t);
            each = (ran.leaves.each n last after last_is of_after).logged t;
          }

  -- where a node's count of faults rose, so did its disk's
  pub risen : (node : NodeNo) → HasRisen own node ran.first.sites ran.last.sites → (disk after : D) → slice_get disks node.0 ≡ Some disk → slice_get afters node.0 ≡ Some after → Rose (own disk) (own after)
  risen node rose disk after of_disk of_after = subst (λ (b : ℕ). Rose b (own after)) (ran.begins.each node.0 disk rose.before of_disk rose.before_is).faults
      (subst (λ (d : D). Rose rose.before.node.faults (own d)) (sym (ran.leaves.each node.0 rose.after after rose.after_is of_after).disk) rose.rose)

-- ---- the run

module _ {D K : Type 0} (told : Type 0) (state : D → DiskState) (own size : D → ℕ) (seed nodes : ℕ) (script : Script) (shown : Shown) (faults_of : K → ℕ) (given : K → Option (List ℕ)) (before after : K) (made : RunMade) (run : Run) (disks afters : List D) (over : IsOverNodes told state own size seed script shown made disks afters) (gave : IsGiven faults_of given before after made run) (count : length disks ≡ nodes) where
  came : CameTo told state own size seed script shown made disks afters
  came = came_to told state own size seed script shown made disks afters over

  abbrev StatusOr : Type 0
  StatusOr = (run.status ≡ made.status) ⊎ ((run.status ≡ statuses.WriteFault) × ((bytes : List ℕ) × (made.output ≡ Some bytes)))

  status_or : StatusOr
  status_or = status_of_given faults_of given before after made run gave

  logged_so : HasRunSo told state own size seed script disks afters → EachBeside (IsLogged told state nodes) disks afters
  logged_so ran = subst (λ (k : ℕ). EachBeside (IsLogged told state k) disks afters) count (logged_all told state own size script seed ran.ending ran.tells disks afters ran.ran)

  as_status : (status : Status) → run.status ≡ status → LeaveAll told state nodes status disks afters → LeaveAll told state nodes run.status disks afters
  as_status status is leaves = subst (λ (s : Status). LeaveAll told state nodes s disks afters) (sym is) leaves

  touched_all : EachBeside (λ n. IsTouchedDisk told state size) disks afters → EachBeside (λ n (disk : D) after. IsOnlyTouched told state disk after) disks afters
  touched_all each = each_of (λ n. IsTouchedDisk told state size) (λ n disk after. IsOnlyTouched told state disk after) disks afters (λ n a b t. t.moments) each

  -- an end, a fault of the sink and a refusal leave logs
  leaves_logs : (status : Status) → IsEnd status → EachBeside (IsLogged told state nodes) disks afters → LeaveAll told state nodes status disks afters
  leaves_logs statuses.Finished e logged = logged
  leaves_logs (statuses.Unfinished rounds waiting) e logged = logged
  leaves_logs statuses.Usage e logged = absurd e
  leaves_logs (statuses.Script line fault) e logged = absurd e
  leaves_logs statuses.ReadFault e logged = absurd e
  leaves_logs statuses.WriteFault e logged = absurd e
  leaves_logs (statuses.DiskFault node) e logged = absurd e
  leaves_logs (statuses.Damaged node at) e logged = absurd e
  leaves_logs statuses.NoMemory e logged = absurd e
  leaves_logs (statuses.NoRoom node need room) e logged = absurd e
  leaves_logs (statuses.Unlawful line clause) e logged = absurd e
  leaves_logs (statuses.Journal line) e logged = absurd e
  leaves_logs (statuses.LastGeneration node) e logged = absurd e

  refusal_leaves_logs : (status : Status) → IsRefusal status → EachBeside (IsLogged told state nodes) disks afters → LeaveAll told state nodes status disks afters
  refusal_leaves_logs (statuses.Unlawful line clause) r logged = logged
  refusal_leaves_logs statuses.NoMemory r logged = each_of (IsLogged told state nodes) (Leaves told state nodes statuses.NoMemory) disks afters (λ n a b l. inr l) logged
  refusal_leaves_logs statuses.Finished r logged = absurd r
  refusal_leaves_logs (statuses.Unfinished rounds waiting) r logged = absurd r
  refusal_leaves_logs statuses.Usage r logged = absurd r
  refusal_leaves_logs (statuses.Script line fault) r logged = absurd r
  refusal_leaves_logs statuses.ReadFault r logged = absurd r
  refusal_leaves_logs statuses.WriteFault r logged = absurd r
  refusal_leaves_logs (statuses.DiskFault node) r logged = absurd r
  refusal_leaves_logs (statuses.Damaged node at) r logged = absurd r
  refusal_leaves_logs (statuses.NoRoom node need room) r logged = absurd r
  refusal_leaves_logs (statuses.Journal line) r logged = absurd r
  refusal_leaves_logs (statuses.LastGeneration node) r logged = absurd r

  unopened_leaves : (node : NodeNo) (why : OpenFault) → EachBeside (λ n (disk : D) after. IsOnlyTouched told state disk after) disks afters → LeaveAll told state nodes (not_opened node why) disks afters
  unopened_leaves node open_faults.DiskFailed touched = each_of (λ n disk after. IsOnlyTouched told state disk after) (Leaves told state nodes (statuses.DiskFault node)) disks afters (λ n a b t. inl t) touched
  unopened_leaves node (open_faults.Damaged at) touched = touched
  unopened_leaves node open_faults.NoMemory touched = each_of (λ n disk after. IsOnlyTouched told state disk after) (Leaves told state nodes statuses.NoMemory) disks afters (λ n a b t. inl t) touched

  made_leaves : LeaveAll told state nodes made.status disks afters
  made_leaves = by came
    where
      on : (status : Status) → made.status ≡ status → LeaveAll told state nodes status disks afters → LeaveAll told state nodes made.status disks afters
      on status is leaves = subst (λ (s : Status). LeaveAll told state nodes s disks afters) (sym is) leaves

      by : CameTo told state own size seed script shown made disks afters → LeaveAll told state nodes made.status disks afters
      by (inl c) = on _ c.passed.status (leaves_logs _ (status_ends c.ending.rounds c.ending.settled (waiting_of script c.journal)) (logged_so (record { ending = Ok c.ending; tells = Ok c.tells; ran = c.ran })))
      by (inr (inl c)) = on (statuses.DiskFault c.node) c.passed.status
          (each_of (IsLogged told state nodes) (Leaves told state nodes (statuses.DiskFault c.node)) disks afters (λ n a b l. inr l) (logged_so (record { ending = Err (faults.DiskFault c.node); tells = Ok c.tells; ran = c.ran })))
      by (inr (inr (inl c))) = refusal_leaves_logs made.status c.failed.refusal (logged_so (record { ending = c.ending; tells = Ok c.tells; ran = c.ran }))
      by (inr (inr (inr (inl c)))) = on (not_opened c.node c.why) c.unopened.status
          (unopened_leaves c.node c.why (each_of (λ n. IsTouchedUpTo told state size c.node.0 n) (λ n disk after. IsOnlyTouched told state disk after) disks afters (λ n a b t. t.touched.moments) c.not.each))
      by (inr (inr (inr (inr c)))) = on statuses.NoMemory c.nothing.status (left c.left)
        where
          left : EachBeside (λ n. IsTouchedDisk told state size) disks afters ⊎ HasRunSo told state own size seed script disks afters → LeaveAll told state nodes statuses.NoMemory disks afters
          left (inl touched) = each_of (λ n. IsTouchedDisk told state size) (Leaves told state nodes statuses.NoMemory) disks afters (λ n a b t. inl t.moments) touched
          left (inr ran) = each_of (IsLogged told state nodes) (Leaves told state nodes statuses.NoMemory) disks afters (λ n a b l. inr l) (logged_so ran)

  pub nodes_leave : LeaveAll told state nodes run.status disks afters
  nodes_leave = by status_or
    where
      by : StatusOr → LeaveAll told state nodes run.status disks afters
      by (inl same) = as_status made.status same made_leaves
      by (inr cut) = as_status statuses.WriteFault cut.0 (logged came)
        where
          logged : CameTo told state own size seed script shown made disks afters → EachBeside (IsLogged told state nodes) disks afters
          logged (inl c) = logged_so (record { ending = Ok c.ending; tells = Ok c.tells; ran = c.ran })
          logged (inr (inl c)) = logged_so (record { ending = Err (faults.DiskFault c.node); tells = Ok c.tells; ran = c.ran })
          logged (inr (inr (inl c))) = logged_so (record { ending = c.ending; tells = Ok c.tells; ran = c.ran })
          logged (inr (inr (inr (inl c)))) = absurd (cc (sym cut.1.1 ∙ c.unopened.nothing.output))
          logged (inr (inr (inr (inr c)))) = absurd (cc (sym cut.1.1 ∙ c.nothing.nothing.output))
