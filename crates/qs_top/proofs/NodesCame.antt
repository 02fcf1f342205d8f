-- Which end a run over the disks of many nodes came to, and what its status says.
use Rattle.std.proofs.Common.{◌≡◌, inl, inr, subst, sym, ℕ, List, Result, Ok, Err, None}
use Rattle.qs_base.specs.declared.identifiers.NodeNo.{NodeNo}
use Rattle.qs_book_script.specs.declared.script.Script.{Script}
use Rattle.qs_book_script.specs.declared.status.Status.TheVariants as statuses
use Rattle.qs_disk.specs.Disk.{DiskState}
use Rattle.qs_log.specs.declared.fault.OpenFault.{OpenFault}
use Rattle.qs_log.specs.declared.fault.OpenFault.TheVariants as open_faults
use Rattle.qs_top.specs.Inner.CameTo.{CameTo}
use Rattle.qs_top.specs.Inner.Making.{IsMadeFrom, IsOutOfMemory, not_opened}
use Rattle.qs_top.specs.Inner.OverNodes.{IsMadeOfRun, IsMadeOfTold, IsOverNodes}
use Rattle.qs_top.specs.Ran.{machine_of}
use Rattle.qs_top.specs.Run.{IsNothing}
use Rattle.qs_top.specs.Statuses.{IfNot, IsEnd, IsOfRounds, Tells}
use Rattle.qs_top.specs.declared.whole.RunMade.{RunMade}
use Rattle.qs_top.proofs.StatusLemmas.{end_built, refusal_built, status_ends, status_tells}
use Rattle.qs_world_plans.specs.Waiting.{waiting_of}
use Rattle.qs_world_rounds.specs.declared.faults.RoundFault.{RoundFault}
use Rattle.qs_world_rounds.specs.declared.faults.RoundFault.TheVariants as faults
use Rattle.qs_world_rounds.specs.declared.rounds.Ending.{Ending}
use Rattle.qs_world_serial.specs.Serial.{HasRun, IsRun}
use Rattle.qs_world_serial.specs.declared.serial.SerialRun.{SerialRun}
use Rattle.qs_world_serial.specs.declared.serial.SerialRun.TheVariants as runs
use Rattle.qs_world_serial.specs.declared.serial.SiteTold.{SiteTold}
use Rattle.qs_text.specs.declared.given.Shown.{Shown}

module _ {D : Type 0} (told : Type 0) (state : D → DiskState) (own size : D → ℕ) (seed : ℕ) (script : Script) (shown : Shown) (made : RunMade) (disks afters : List D) where
  abbrev Came : Type 0
  Came = CameTo told state own size seed script shown made disks afters

  out_of_memory : (ending : Result Ending RoundFault) (tells : _) → HasRun told state own size script seed ending tells disks afters → IsOutOfMemory made → Came
  out_of_memory ending tells ran out = inr (inr (inr (inr (record { nothing = out; left = inr (record { ending = ending; tells = tells; ran = ran }) }))))

  of_told : (ending : Result Ending RoundFault) (tells : List SiteTold) → HasRun told state own size script seed ending (Ok tells) disks afters → IsMadeOfTold script shown ending tells made → Came
  of_told ending tells ran m = by ending ran m.made_from
    where
      by : (e : Result Ending RoundFault) → HasRun told state own size script seed e (Ok tells) disks afters → IsMadeFrom script shown e (machine_of tells) m.journal m.trace made → Came
      by (Ok done) ran (inl passed) = inl (record { ending = done; tells = tells; ran = ran; journal = m.journal; trace = m.trace; merged = m.merged; passed = passed })
      by (Ok done) ran (inr failed) = inr (inr (inl (record { ending = Ok done; judged = tt; tells = tells; ran = ran; journal = m.journal; trace = m.trace; merged = m.merged; failed = failed })))
      by (Err (faults.DiskFault node)) ran (inl passed) = inr (inl (record { node = node; tells = tells; ran = ran; journal = m.journal; trace = m.trace; merged = m.merged; passed = passed }))
      by (Err (faults.DiskFault node)) ran (inr failed) = inr (inr (inl (record { ending = Err (faults.DiskFault node); judged = tt; tells = tells; ran = ran; journal = m.journal; trace = m.trace; merged = m.merged; failed = failed })))
      by (Err faults.Damaged) ran out = out_of_memory (Err faults.Damaged) (Ok tells) ran out
      by (Err faults.NoMemory) ran out = out_of_memory (Err faults.NoMemory) (Ok tells) ran out

  pub came_to : IsOverNodes told state own size seed script shown made disks afters → Came
  came_to over = by over.ran over.is over.made_of
    where
      by : (ran : SerialRun) → IsRun told state own size script seed ran disks afters → IsMadeOfRun script shown ran made → Came
      by (runs.NotOpened node why) not unopened = inr (inr (inr (inl (record { node = node; why = why; not = not; unopened = unopened }))))
      by runs.NoMemory touched out = inr (inr (inr (inr (record { nothing = out; left = inl touched }))))
      by (runs.Ended ending (Ok tells)) ran (inl out) = out_of_memory ending (Ok tells) ran out
      by (runs.Ended ending (Ok tells)) ran (inr told_so) = of_told ending tells ran told_so
      by (runs.Ended ending (Err refused)) ran out = out_of_memory ending (Err refused) ran out

  -- ---- its status

  not_opened_built : (node : NodeNo) (why : OpenFault) → IsOfRounds (not_opened node why)
  not_opened_built node open_faults.DiskFailed = tt
  not_opened_built node (open_faults.Damaged at) = tt
  not_opened_built node open_faults.NoMemory = tt

  pub came_built : Came → IsOfRounds made.status
  came_built (inl c) = subst IsOfRounds (sym c.passed.status) (end_built _ (status_ends c.ending.rounds c.ending.settled (waiting_of script c.journal)))
  came_built (inr (inl c)) = subst IsOfRounds (sym c.passed.status) tt
  came_built (inr (inr (inl c))) = refusal_built made.status c.failed.refusal
  came_built (inr (inr (inr (inl c)))) = subst IsOfRounds (sym c.unopened.status) (not_opened_built c.node c.why)
  came_built (inr (inr (inr (inr c)))) = subst IsOfRounds (sym c.nothing.status) tt

  pub came_silent : Came → IfNot (IsEnd made.status) (made.output ≡ None)
  came_silent (inl c) not_end = absurd (not_end (subst IsEnd (sym c.passed.status) (status_ends c.ending.rounds c.ending.settled (waiting_of script c.journal))))
  came_silent (inr (inl c)) not_end = c.passed.output
  came_silent (inr (inr (inl c))) not_end = c.failed.nothing.output
  came_silent (inr (inr (inr (inl c)))) not_end = c.unopened.nothing.output
  came_silent (inr (inr (inr (inr c)))) not_end = c.nothing.nothing.output

  pub came_empty : Came → IfNot (Tells made.status) (IsNothing made.journal made.trace)
  came_empty (inl c) untold = absurd (untold (subst Tells (sym c.passed.status) (status_tells c.ending.rounds c.ending.settled (waiting_of script c.journal))))
  came_empty (inr (inl c)) untold = absurd (untold (subst Tells (sym c.passed.status) tt))
  came_empty (inr (inr (inl c))) untold = c.failed.nothing.nothing
  came_empty (inr (inr (inr (inl c)))) untold = c.unopened.nothing.nothing
  came_empty (inr (inr (inr (inr c)))) untold = c.nothing.nothing.nothing
