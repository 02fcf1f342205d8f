-- Rounds by a schedule, of which the first is told first, are rounds behind bursts, of which the last is.
use Rattle.std.proofs.Common.{refl, subst, sym, ℕ, zero, suc, Bool, List}
use Rattle.qs_disk.specs.Disk.{DiskState}
use Rattle.qs_world_bursts.specs.Threads.{RoundsBehind}
use Rattle.qs_world_sites.specs.Bursts.{IsRoundBehind}
use Rattle.qs_world_sites.specs.Schedules.{RoundsIn, order_in, turns_in}
use Rattle.qs_world_sites.specs.Sites.{SitesValue, count_of}
use Rattle.qs_world_sites.specs.declared.schedule.Schedule.{Schedule}
use Rattle.rand_pcg.specs.Lcg.{Lcg}

module _ {D : Type 0} (told : Type 0) (state : D → DiskState) (own size : D → ℕ) where
  -- one more before them
  one_before : (turns n : ℕ) (order : List ℕ) (quiet : Bool) (old mid new : SitesValue D) → IsRoundBehind told state own size turns order old mid quiet → RoundsBehind told state own size turns n mid new
      → RoundsBehind told state own size turns (suc n) old new
  one_before turns zero order quiet old mid new first same =
      (old, (refl, (order, (quiet, subst (λ (s : SitesValue D). IsRoundBehind told state own size turns order old s quiet) (sym same) first))))
  one_before turns (suc n) order quiet old mid new first (later, (between, last)) = (later, (one_before turns n order quiet old mid later first between, last))

  pub rounds_behind : (schedule : Schedule) (rng : Lcg) (n : ℕ) (old new : SitesValue D) (later : Lcg) → RoundsIn told state own size schedule rng n old new later
      → RoundsBehind told state own size (turns_in schedule) n old new
  rounds_behind schedule rng zero old new later none = none.0
  rounds_behind schedule rng (suc n) old new later (mid, (quiet, (first, rest))) = one_before (turns_in schedule) n (order_in schedule (count_of old) rng).0 quiet old mid new first
      (rounds_behind schedule (order_in schedule (count_of old) rng).1 n mid new later rest)
