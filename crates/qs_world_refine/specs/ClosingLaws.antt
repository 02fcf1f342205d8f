-- The laws of records that are not forced: at the end of a step in which they reach the disk, a transaction's End or Aborted counts.
use Rattle.std.specs.Prelude.{◌≡◌, ℕ, ◌==◌, true, if◌then◌else◌}
use Rattle.qs_base.specs.declared.identifiers.Tid.{Tid}
use Rattle.qs_record.specs.declared.record.Record.{Record}
use Rattle.qs_record.specs.declared.record.Record.TheVariants as records
use Rattle.qs_restart.specs.Recovery.{found_record}
use Rattle.qs_world_agree.specs.World.{World, Committed, Aborted}
use Rattle.qs_world_agree.specs.Carry.{IsLawful}
use Rattle.qs_world_refine.specs.Seen.{Runs, SightGoes}
use Rattle.qs_world_refine.specs.Sights.{Sight, ShowsSight}

-- the log of node n has one more record
abbrev pub sight_recorded : Sight → ℕ → Record → Sight
sight_recorded x n rec = record x { found = λ k. if k == n then found_record (x.found n) rec else x.found k }

-- all that the Commit names have acknowledged it, and End is on the disk: End
abbrev pub EndLoggedGoes : Type 0
EndLoggedGoes = (tid : Tid) (x : Sight) (w : World) → IsLawful w → ShowsSight tid x w → Runs x tid.home.0 → (x.face tid.home.0).outcome ≡ Committed → ((m : ℕ) → w.commit_list m ≡ true → w.acknowledged m ≡ true)
    → SightGoes tid (sight_recorded x tid.home.0 (records.End tid)) w

-- abort is known, and Aborted is on the disk: Abort_logged
abbrev pub AbortLoggedGoes : Type 0
AbortLoggedGoes = (tid : Tid) (x : Sight) (w : World) (n : ℕ) → IsLawful w → ShowsSight tid x w → Runs x n → (x.face n).outcome ≡ Aborted
    → SightGoes tid (sight_recorded x n (records.Aborted tid)) w
