-- What a run of many nodes leaves where memory was refused, and that it leaves its disks coherent again.
use Rattle.std.proofs.Common.{◌≡◌, ◌⊎◌, ◌∙◌, inl, inr, refl, subst, sym, ℕ, List, length, map, Option, Some, Result, Ok, Err, slice_get}
use Rattle.std.specs.Global.{Global}
use Rattle.qs_base.specs.declared.memory.NoMemory.{NoMemory}
use Rattle.qs_book_journal.specs.declared.entry.Entry.{Entry}
use Rattle.qs_book_machine.specs.Lawful.{IsLawful, book_after}
use Rattle.qs_book_script.specs.declared.script.Script.{Script}
use Rattle.qs_book_script.specs.declared.status.Status.TheVariants as statuses
use Rattle.qs_disk.specs.Disk.{DiskState, EachImage}
use Rattle.qs_log_start.specs.Incarnation.{IsTouched}
use Rattle.qs_node_step.specs.declared.trace.Step.{Step}
use Rattle.qs_top.specs.Disks.{AreOnlyTouched, IsOnlyTouched, StayCoherent}
use Rattle.qs_top.specs.Inner.CameTo.{CameTo, HasRunSo}
use Rattle.qs_top.specs.Inner.Giving.{IsGiven}
use Rattle.qs_top.specs.Inner.OverNodes.{IsOverNodes}
use Rattle.qs_top.specs.Statuses.{IsEnd}
use Rattle.qs_top.specs.Ran.{AreLastingUntold, RanOutOfMemory}
use Rattle.qs_top.specs.declared.outcome.Run.{Run}
use Rattle.qs_top.specs.declared.whole.RunMade.{RunMade}
use Rattle.qs_top.proofs.Given.{status_made}
use Rattle.qs_top.proofs.NodesCame.{came_to}
use Rattle.qs_top.proofs.NodesTraced.{NodesLaws, begins_coherent, logs_coherent}
use Rattle.qs_top.proofs.NodesLeft.{each_of}
use Rattle.qs_top.proofs.NodesMachine.{left_states}
use Rattle.qs_top.proofs.NodesTold.{map_has, map_length}
use Rattle.qs_top.proofs.StatusLemmas.{status_ends}
use Rattle.qs_world.specs.Histories.{book_of}
use Rattle.qs_world_left.specs.Disks.{AreCoherentDisks, LeaveCoherent, disks_of}
use Rattle.qs_world_left.specs.Left.{AreReadAsLeft, RefusedFollows}
use Rattle.qs_world_left.specs.Standing.{DisksStandFor, HaveOthersStampsLeft, IsTold, RefusedLeavesStanding, StandFor, StandsAlone, up_at}
use Rattle.qs_world_left.specs.Touched.{TouchedStayCoherent, WasTouched}
use Rattle.qs_world_nodes.specs.Lawful.{RefusedIsLawful}
use Rattle.qs_world_nodes.specs.Openings.{SitOnce, opening_over}
use Rattle.qs_world_opening.specs.Scripts.{Fits}
use Rattle.qs_world_plans.specs.Waiting.{waiting_of}
use Rattle.qs_world_rounds.specs.declared.faults.RoundFault.{RoundFault}
use Rattle.qs_world_rounds.specs.declared.faults.RoundFault.TheVariants as faults
use Rattle.qs_world_rounds.specs.declared.rounds.Ending.{Ending}
use Rattle.qs_world_serial.specs.Serial.{EachBeside, HasRun, IsTouchedDisk, IsTouchedUpTo}
use Rattle.qs_world_serial.specs.declared.serial.SiteTold.{SiteTold}
use Rattle.qs_world_sites.specs.Sites.{SitesValue}
use Rattle.qs_text.specs.declared.given.Shown.{Shown}

-- the laws where memory was refused, and of disks that were only touched, beside the others
pub record UntoldLaws {D : Type 0} (told : Type 0) (state : D → DiskState) (own size : D → ℕ) : Type 0 where
  pub laws : NodesLaws told state own size
  pub follows : (alloc : Global) (script : Script) (disks : List D) (seed : ℕ) (all new : SitesValue D) → RefusedFollows told state own size alloc script disks seed all new
  pub stands : (alloc : Global) (script : Script) (disks : List D) (seed : ℕ) (all new : SitesValue D) (journal : List Entry) (trace : List Step) → RefusedLeavesStanding told state own size alloc script disks seed all new journal trace
  pub lawful : (alloc : Global) (script : Script) (disks : List D) (seed : ℕ) (all new : SitesValue D) (journal : List Entry) (trace : List Step) → RefusedIsLawful told state own size alloc script disks seed all new journal trace
  pub touched : (old new : List DiskState) → TouchedStayCoherent old new

-- ---- a run, whatever its rounds came to

module _ {D : Type 0} (told : Type 0) (state : D → DiskState) (own size : D → ℕ) (script : Script) (seed nodes : ℕ) (disks afters : List D) (count : length disks ≡ nodes) (once : SitOnce script.seats) (fits : Fits nodes script)
    (read : told → AreReadAsLeft (map state disks)) (u : UntoldLaws told state own size) where
  abbrev Ran : Result Ending RoundFault → Result (List SiteTold) NoMemory → Type 0
  Ran ending tells = HasRun told state own size script seed ending tells disks afters

  fits_all : Fits (length disks) script
  fits_all = subst (λ (k : ℕ). Fits k script) (sym count) fits

  leaves : (ending : Result Ending RoundFault) (tells : Result (List SiteTold) NoMemory) (ran : Ran ending tells) → told → AreCoherentDisks (map state disks) → LeaveCoherent state ran.last.sites
  leaves (Ok ending) tells ran t coherent = u.laws.ends_follow ran.alloc script disks seed ran.first ran.last ending t
      (begins_coherent told state own size script disks once fits_all read u.laws ran.alloc ran.first ran.begins t coherent) ran.ends
  leaves (Err (faults.DiskFault node)) tells ran t coherent = u.laws.cut_follows ran.alloc script disks seed node ran.first ran.last t
      (begins_coherent told state own size script disks once fits_all read u.laws ran.alloc ran.first ran.begins t coherent) (ran.cut node refl)
  leaves (Err faults.NoMemory) tells ran t coherent = u.follows ran.alloc script disks seed ran.first ran.last t
      (begins_coherent told state own size script disks once fits_all read u.laws ran.alloc ran.first ran.begins t coherent) (ran.refused refl)
  leaves (Err faults.Damaged) tells ran t coherent = absurd (ran.undamaged t fits.few refl)

  is_lawful : (ending : Result Ending RoundFault) (tells : Result (List SiteTold) NoMemory) (ran : Ran ending tells) → told → AreCoherentDisks (map state disks) → (journal : List Entry) (trace : List Step)
      → IsTold (length disks) journal trace ran.last.sites → IsLawful (book_of (opening_over ran.alloc script disks ran.first.sites)) journal
  is_lawful (Ok ending) tells ran t coherent journal trace tells_all = u.laws.ends_lawful ran.alloc script disks seed ran.first ran.last ending journal trace t ran.begins once fits_all
      (logs_coherent told state own size script disks read u.laws ran.alloc ran.first ran.begins t coherent) ran.ends tells_all.entries tells_all.steps
  is_lawful (Err (faults.DiskFault node)) tells ran t coherent journal trace tells_all = u.laws.cut_lawful ran.alloc script disks seed node ran.first ran.last journal trace t ran.begins once fits_all
      (logs_coherent told state own size script disks read u.laws ran.alloc ran.first ran.begins t coherent) (ran.cut node refl) tells_all.entries tells_all.steps
  is_lawful (Err faults.NoMemory) tells ran t coherent journal trace tells_all = u.lawful ran.alloc script disks seed ran.first ran.last journal trace t ran.begins once fits_all
      (logs_coherent told state own size script disks read u.laws ran.alloc ran.first ran.begins t coherent) (ran.refused refl) tells_all.entries tells_all.steps
  is_lawful (Err faults.Damaged) tells ran t coherent journal trace tells_all = absurd (ran.undamaged t fits.few refl)

  stands : (ending : Result Ending RoundFault) (tells : Result (List SiteTold) NoMemory) (ran : Ran ending tells) → told → AreCoherentDisks (map state disks) → (journal : List Entry) (trace : List Step)
      → IsTold (length disks) journal trace ran.last.sites → StandFor state (opening_over ran.alloc script disks ran.first.sites) journal trace ran.last.sites
  stands (Ok ending) tells ran t coherent journal trace tells_all = u.laws.ends_stand ran.alloc script disks seed ran.first ran.last ending journal trace t ran.begins once fits_all
      (logs_coherent told state own size script disks read u.laws ran.alloc ran.first ran.begins t coherent) ran.ends tells_all
  stands (Err (faults.DiskFault node)) tells ran t coherent journal trace tells_all = u.laws.cut_stands ran.alloc script disks seed node ran.first ran.last journal trace t ran.begins once fits_all
      (logs_coherent told state own size script disks read u.laws ran.alloc ran.first ran.begins t coherent) (ran.cut node refl) tells_all
  stands (Err faults.NoMemory) tells ran t coherent journal trace tells_all = u.stands ran.alloc script disks seed ran.first ran.last journal trace t ran.begins once fits_all
      (logs_coherent told state own size script disks read u.laws ran.alloc ran.first ran.begins t coherent) (ran.refused refl) tells_all
  stands (Err faults.Damaged) tells ran t coherent journal trace tells_all = absurd (ran.undamaged t fits.few refl)

  module _ (ending : Result Ending RoundFault) (tells : Result (List SiteTold) NoMemory) (ran : Ran ending tells) where
    left : map state afters ≡ disks_of state ran.last.sites
    left = left_states told state own size script seed ending tells disks afters ran

    pub again : told → AreCoherentDisks (map state disks) → AreCoherentDisks (map state afters)
    again t coherent = subst AreCoherentDisks (sym left) (leaves ending tells ran t coherent)

    pub untold : RanOutOfMemory told state own size seed script disks afters
    untold = record { ending = ending; tells = tells; ran = ran; lasts = lasts }
      where
        lasts : told → AreCoherentDisks (map state disks) → AreLastingUntold state (opening_over ran.alloc script disks ran.first.sites) (length disks) ran.last.sites afters
        lasts t coherent = record {
          coherent = again t coherent;
          lawful = is_lawful ending tells ran t coherent;
          stands = λ journal trace tells_all. subst (DisksStandFor (book_after (book_of (opening_over ran.alloc script disks ran.first.sites)) journal) (up_at ran.last.sites) (HaveOthersStampsLeft trace)) (sym left) (stands ending tells ran t coherent journal trace tells_all).each;
          alone = λ journal trace tells_all. subst (StandsAlone (book_after (book_of (opening_over ran.alloc script disks ran.first.sites)) journal) (up_at ran.last.sites 0)) (sym left) (stands ending tells ran t coherent journal trace tells_all).alone;
        }

  -- ---- disks that were raised at most

  abbrev Images : DiskState → DiskState → Type 0
  Images a b = EachImage (IsTouched a) b.now

  touched_coherent : EachBeside (λ n. IsTouchedDisk told state size) disks afters → told → AreCoherentDisks (map state disks) → AreCoherentDisks (map state afters)
  touched_coherent each t coherent = u.touched (map state disks) (map state afters) (record { count = map_length state afters ∙ (each.count ∙ sym (map_length state disks)); each = touched_at }) coherent
    where
      touched_at : (n : ℕ) (a b : DiskState) → slice_get (map state disks) n ≡ Some a → slice_get (map state afters) n ≡ Some b → WasTouched a b
      touched_at n a b a_is b_is = by (map_has state disks n a a_is) (map_has state afters n b b_is)
        where
          by : (disk : D) × ((slice_get disks n ≡ Some disk) × (state disk ≡ a)) → (after : D) × ((slice_get afters n ≡ Some after) × (state after ≡ b)) → WasTouched a b
          by (disk, (of_disk, same)) (after, (of_after, also)) = record {
            read = read t n a a_is;
            images = subst (λ (s : DiskState). Images s b) same (subst (λ (s : DiskState). Images (state disk) s) also ((each.each n disk after of_disk of_after).moments t).here);
          }

-- ---- the run

module _ {D K : Type 0} (told : Type 0) (state : D → DiskState) (own size : D → ℕ) (seed nodes : ℕ) (script : Script) (shown : Shown) (faults_of : K → ℕ) (given : K → Option (List ℕ)) (before after : K) (made : RunMade) (run : Run) (disks afters : List D) (over : IsOverNodes told state own size seed script shown made disks afters) (gave : IsGiven faults_of given before after made run) (count : length disks ≡ nodes) (once : SitOnce script.seats) (fits : Fits nodes script) (u : UntoldLaws told state own size) where
  came : CameTo told state own size seed script shown made disks afters
  came = came_to told state own size seed script shown made disks afters over

  abbrev Touched : Type 0
  Touched = AreOnlyTouched told state disks afters

  of_run : (ending : Result Ending RoundFault) (tells : Result (List SiteTold) NoMemory) → HasRun told state own size script seed ending tells disks afters → RanOutOfMemory told state own size seed script disks afters
  of_run ending tells ran = untold told state own size script seed nodes disks afters count once fits over.read u ending tells ran

  pub nodes_out : run.status ≡ statuses.NoMemory → Touched ⊎ RanOutOfMemory told state own size seed script disks afters
  nodes_out is = by came
    where
      made_is : made.status ≡ statuses.NoMemory
      made_is = status_made faults_of given before after made run gave statuses.NoMemory is (λ same. absurd (cc same))

      by : CameTo told state own size seed script shown made disks afters → Touched ⊎ RanOutOfMemory told state own size seed script disks afters
      by (inl c) = absurd (subst IsEnd made_is (subst IsEnd (sym c.passed.status) (status_ends c.ending.rounds c.ending.settled (waiting_of script c.journal))))
      by (inr (inl c)) = absurd (cc (sym made_is ∙ c.passed.status))
      by (inr (inr (inl c))) = inr (of_run c.ending (Ok c.tells) c.ran)
      by (inr (inr (inr (inl c)))) = inl (each_of (λ n. IsTouchedUpTo told state size c.node.0 n) (λ n disk end. IsOnlyTouched told state disk end) disks afters (λ n a b t. t.touched.moments) c.not.each)
      by (inr (inr (inr (inr c)))) = left c.left
        where
          left : EachBeside (λ n. IsTouchedDisk told state size) disks afters ⊎ HasRunSo told state own size seed script disks afters → Touched ⊎ RanOutOfMemory told state own size seed script disks afters
          left (inl touched) = inl (each_of (λ n. IsTouchedDisk told state size) (λ n disk end. IsOnlyTouched told state disk end) disks afters (λ n a b t. t.moments) touched)
          left (inr ran) = inr (of_run ran.ending ran.tells ran.ran)

  pub nodes_coherent : StayCoherent told state disks afters
  nodes_coherent t coherent = by came
    where
      ran_so : (ending : Result Ending RoundFault) (tells : Result (List SiteTold) NoMemory) → HasRun told state own size script seed ending tells disks afters → AreCoherentDisks (map state afters)
      ran_so ending tells ran = again told state own size script seed nodes disks afters count once fits over.read u ending tells ran t coherent

      touched_so : EachBeside (λ n. IsTouchedDisk told state size) disks afters → AreCoherentDisks (map state afters)
      touched_so touched = touched_coherent told state own size script seed nodes disks afters count once fits over.read u touched t coherent

      by : CameTo told state own size seed script shown made disks afters → AreCoherentDisks (map state afters)
      by (inl c) = ran_so (Ok c.ending) (Ok c.tells) c.ran
      by (inr (inl c)) = ran_so (Err (faults.DiskFault c.node)) (Ok c.tells) c.ran
      by (inr (inr (inl c))) = ran_so c.ending (Ok c.tells) c.ran
      by (inr (inr (inr (inl c)))) = touched_so (each_of (λ n. IsTouchedUpTo told state size c.node.0 n) (λ n. IsTouchedDisk told state size) disks afters (λ n a b t. t.touched) c.not.each)
      by (inr (inr (inr (inr c)))) = left c.left
        where
          left : EachBeside (λ n. IsTouchedDisk told state size) disks afters ⊎ HasRunSo told state own size seed script disks afters → AreCoherentDisks (map state afters)
          left (inl touched) = touched_so touched
          left (inr ran) = ran_so ran.ending ran.tells ran.ran
