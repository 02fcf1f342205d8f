-- A run of many nodes, by the disks of which it is and the text that was read.
use Rattle.std.proofs.Common.{◌≡◌, ◌⊎◌, ◌∙◌, inl, inr, ℕ, ◌^◌, ◌≤◌, List, length, Option, Ok, refl, subst, sym, arith}
use Rattle.std.proofs.lemmas.List.{length-take-le, take-append-drop}
use Rattle.std.specs.Io.KnownBytes.{Appends}
use Rattle.std.specs.Prelude.{drop, take}
use Rattle.qs_base.specs.Causes.{Rose}
use Rattle.qs_base.specs.declared.identifiers.NodeNo.{NodeNo}
use Rattle.qs_book_script.specs.declared.script.Script.{Script}
use Rattle.qs_book_script.specs.declared.status.ScriptFault.{ScriptFault}
use Rattle.qs_book_script.specs.declared.status.Status.{Status}
use Rattle.qs_book_script.specs.declared.status.Status.TheVariants as statuses
use Rattle.qs_disk.specs.Disk.{DiskState}
use Rattle.qs_io.specs.Streams.{GivesPart}
use Rattle.qs_log.specs.Image.{IsDamaged}
use Rattle.qs_text_script.specs.Script.{script_of}
use Rattle.qs_top.specs.Disks.{AreOnlyTouched, AtNode, IsOnlyTouched, OfThese, StayCoherent, StayRoomy}
use Rattle.qs_top.specs.Inner.CameTo.{CameTo}
use Rattle.qs_top.specs.Inner.Giving.{IsGiven, IsNoScript}
use Rattle.qs_top.specs.Inner.OverNodes.{IsOverNodes}
use Rattle.qs_top.specs.Ran.{RanByRounds, RanNotBegun, RanOutOfMemory, RanRefused, RanShort, RanWhole}
use Rattle.qs_top.specs.Run.{HasLawful, IsNothing, LeaveAll, Leaves}
use Rattle.qs_top.specs.Statuses.{Gives, IfNot, IsEnd, IsOfRounds, IsOfRun, Tells}
use Rattle.qs_top.specs.Texts.{HasText, OfScript}
use Rattle.qs_top.specs.declared.outcome.Run.{Run}
use Rattle.qs_top.specs.declared.whole.RunMade.{RunMade}
use Rattle.qs_top.proofs.Given.{built_given, empty_given, fault_given, silent_given, status_made, touched_alone}
use Rattle.qs_top.proofs.NodesCame.{came_built, came_empty, came_silent, came_to}
use Rattle.qs_top.proofs.NodesGiven.{nodes_cut_off, nodes_ended, nodes_refused, nodes_short}
use Rattle.qs_top.proofs.NodesTraced.{NodesLaws}
use Rattle.qs_top.proofs.NodesLawful.{nodes_damaged, nodes_fault, nodes_lawful}
use Rattle.qs_top.proofs.NodesLeft.{nodes_leave}
use Rattle.qs_top.proofs.StatusLemmas.{end_has_script}
use Rattle.qs_top.proofs.TextLemmas.{text_of_script}
use Rattle.qs_top.proofs.NodesRoomy.{RoomLaws, nodes_roomy}
use Rattle.qs_top.proofs.NodesUntold.{UntoldLaws, nodes_coherent, nodes_out}
use Rattle.qs_world_opening.specs.Scripts.{Fits}
use Rattle.qs_world_nodes.proofs.Places.{same_some}
use Rattle.qs_world_nodes.specs.Openings.{SitOnce}
use Rattle.qs_world_serial.specs.Serial.{EachBeside}
use Rattle.qs_text.specs.declared.given.Shown.{Shown}

module _ {D K : Type 0} (told : Type 0) (state : D → DiskState) (own size : D → ℕ) (seed nodes : ℕ) (script : Script) (shown : Shown) (faults_of : K → ℕ) (given : K → Option (List ℕ)) (before after : K) (made : RunMade) (run : Run) (old new : List D)
    (over : OfThese nodes (λ disks afters. IsOverNodes told state own size seed script shown made disks afters) old new) (gave : IsGiven faults_of given before after made run) where
  with_holds : {P : List D → List D → Type 0} → P over.disks over.afters → OfThese nodes P old new
  with_holds holds = record { disks = over.disks; afters = over.afters; rest = over.rest; old_is = over.old_is; new_is = over.new_is; count = over.count; count_after = over.count_after; holds = holds }

  came : CameTo told state own size seed script shown made over.disks over.afters
  came = came_to told state own size seed script shown made over.disks over.afters over.holds

  built : IsOfRounds made.status
  built = came_built told state own size seed script shown made over.disks over.afters came

  pub these_lawful : HasLawful told state nodes run.journal old new
  these_lawful = nodes_lawful told state own size seed nodes script shown faults_of given before after made run over.disks over.afters over.holds gave old new over.rest over.old_is over.new_is over.count over.count_after

  pub these_fault : (node : NodeNo) → run.status ≡ statuses.DiskFault node → AtNode nodes node (λ disk end. Rose (own disk) (own end)) old new
  these_fault node is = nodes_fault told state own size seed nodes script shown faults_of given before after made run over.disks over.afters over.holds gave old new over.rest over.old_is over.new_is over.count over.count_after node is

  pub these_damaged : (node : NodeNo) (at : ℕ) → run.status ≡ statuses.Damaged node at → AtNode nodes node (λ disk end. told → IsDamaged (2 ^ 61) (state disk).content at) old new
  these_damaged node at is = nodes_damaged told state own size seed nodes script shown faults_of given before after made run over.disks over.afters over.holds gave old new over.rest over.old_is over.new_is over.count over.count_after node at is

  -- a script was read
  pub these_script : (line : ℕ) (fault : ScriptFault) → run.status ≡ statuses.Script line fault → ⊥
  these_script line fault is = subst IsOfRounds (status_made faults_of given before after made run gave (statuses.Script line fault) is (λ same. absurd (cc same))) built

  pub these_ran : run.status ≡ statuses.Usage → ⊥
  these_ran is = subst IsOfRounds (status_made faults_of given before after made run gave statuses.Usage is (λ same. absurd (cc same))) built

  pub these_read : run.status ≡ statuses.ReadFault → ⊥
  these_read is = subst IsOfRounds (status_made faults_of given before after made run gave statuses.ReadFault is (λ same. absurd (cc same))) built

  pub these_written : run.status ≡ statuses.WriteFault → Rose (faults_of before) (faults_of after)
  these_written is = fault_given faults_of given before after made run gave built is

  pub these_silent : IfNot (Gives run.status) (given after ≡ given before)
  these_silent not = silent_given faults_of given before after made run gave (came_silent told state own size seed script shown made over.disks over.afters came) not

  pub these_built : IsOfRun run.status
  these_built = built_given faults_of given before after made run gave built

  pub these_empty : IfNot (Tells run.status) (IsNothing run.journal run.trace)
  these_empty untold = empty_given faults_of given before after made run gave (came_empty told state own size seed script shown made over.disks over.afters came) untold

  pub these_leave : OfThese nodes (LeaveAll told state nodes run.status) old new
  these_leave = with_holds (nodes_leave told state own size seed nodes script shown faults_of given before after made run over.disks over.afters over.holds gave over.count)

  module _ (l m : Option (List ℕ)) (read : HasText shown l m (λ text. script_of nodes text ≡ Ok script)) (once : SitOnce script.seats) (fits : Fits nodes script) (u : UntoldLaws told state own size) where
    these_ended : IsEnd run.status → HasText shown l m (OfScript nodes (λ script. OfThese nodes (RanWhole told state own size seed nodes script shown (λ status. run.status ≡ status) (Appends (given before) (given after)) run.journal run.trace) old new))
    these_ended e = text_of_script l m shown nodes script (λ script. OfThese nodes (RanWhole told state own size seed nodes script shown (λ status. run.status ≡ status) (Appends (given before) (given after)) run.journal run.trace) old new) read
        (with_holds (nodes_ended told state own size seed nodes script shown faults_of given before after made run over.disks over.afters over.holds gave over.count once fits u.laws e))

    these_cut_off : run.status ≡ statuses.WriteFault → HasText shown l m (OfScript nodes (λ script. OfThese nodes (RanWhole told state own size seed nodes script shown IsEnd (GivesPart (given before) (given after)) run.journal run.trace) old new))
    these_cut_off fault = text_of_script l m shown nodes script (λ script. OfThese nodes (RanWhole told state own size seed nodes script shown IsEnd (GivesPart (given before) (given after)) run.journal run.trace) old new) read
        (with_holds (nodes_cut_off told state own size seed nodes script shown faults_of given before after made run over.disks over.afters over.holds gave over.count once fits u.laws fault))

    these_short : (node : NodeNo) → run.status ≡ statuses.DiskFault node
        → HasText shown l m (OfScript nodes (λ script. OfThese nodes (λ disks afters. RanNotBegun told state own size node run.journal run.trace disks afters ⊎ RanShort told state own size seed nodes script node run.journal run.trace disks afters) old new))
    these_short node is = text_of_script l m shown nodes script (λ script. OfThese nodes (λ disks afters. RanNotBegun told state own size node run.journal run.trace disks afters ⊎ RanShort told state own size seed nodes script node run.journal run.trace disks afters) old new) read
        (with_holds (nodes_short told state own size seed nodes script shown faults_of given before after made run over.disks over.afters over.holds gave over.count once fits u.laws node is))

    these_refused : (line clause : ℕ) → run.status ≡ statuses.Unlawful line clause
        → HasText shown l m (OfScript nodes (λ script. OfThese nodes (RanRefused told state own size seed nodes script line clause) old new))
    these_refused line clause is = text_of_script l m shown nodes script (λ script. OfThese nodes (RanRefused told state own size seed nodes script line clause) old new) read
        (with_holds (nodes_refused told state own size seed nodes script shown faults_of given before after made run over.disks over.afters over.holds gave over.count once fits u.laws line clause is))

    these_out : run.status ≡ statuses.NoMemory → OfThese nodes (AreOnlyTouched told state) old new ⊎ HasText shown l m (OfScript nodes (λ script. OfThese nodes (RanOutOfMemory told state own size seed script) old new))
    these_out is = by (nodes_out told state own size seed nodes script shown faults_of given before after made run over.disks over.afters over.holds gave over.count once fits u is)
      where
        by : AreOnlyTouched told state over.disks over.afters ⊎ RanOutOfMemory told state own size seed script over.disks over.afters
            → OfThese nodes (AreOnlyTouched told state) old new ⊎ HasText shown l m (OfScript nodes (λ script. OfThese nodes (RanOutOfMemory told state own size seed script) old new))
        by (inl touched) = inl (with_holds touched)
        by (inr ran) = inr (text_of_script l m shown nodes script (λ script. OfThese nodes (RanOutOfMemory told state own size seed script) old new) read (with_holds ran))

    pub these_by_rounds : RanByRounds told state own size seed nodes shown l m (given before) (given after) run old new
    these_by_rounds = record { ended = these_ended; cut_off = these_cut_off; cut_short = these_short; refused = these_refused; out_of_memory = these_out }

    pub these_coherent : OfThese nodes (StayCoherent told state) old new
    these_coherent = with_holds (nodes_coherent told state own size seed nodes script shown faults_of given before after made run over.disks over.afters over.holds gave over.count once fits u)

  module _ (once : SitOnce script.seats) (fits : Fits nodes script) (laws : NodesLaws told state own size) (rooms : RoomLaws told state own size) where
    pub these_roomy : OfThese nodes (StayRoomy told state size) old new
    these_roomy = with_holds (nodes_roomy told state own size seed nodes script shown made over.disks over.afters over.holds over.count once fits laws rooms)

-- ---- a run without a script

alone_leaves : {D : Type 0} (told : Type 0) (state : D → DiskState) (nodes : ℕ) (status : Status) → IsNoScript status → (n : ℕ) (d : D) → Leaves told state nodes status n d d
alone_leaves told state nodes (statuses.Script line fault) none n d = refl
alone_leaves told state nodes statuses.ReadFault none n d = refl
alone_leaves told state nodes statuses.NoMemory none n d = inl (λ yes. touched_alone (state d))
alone_leaves told state nodes statuses.Finished none n d = absurd none
alone_leaves told state nodes (statuses.Unfinished rounds waiting) none n d = absurd none
alone_leaves told state nodes statuses.Usage none n d = absurd none
alone_leaves told state nodes statuses.WriteFault none n d = absurd none
alone_leaves told state nodes (statuses.DiskFault node) none n d = absurd none
alone_leaves told state nodes (statuses.Damaged node at) none n d = absurd none
alone_leaves told state nodes (statuses.NoRoom node need room) none n d = absurd none
alone_leaves told state nodes (statuses.Unlawful line clause) none n d = absurd none
alone_leaves told state nodes (statuses.Journal line) none n d = absurd none
alone_leaves told state nodes (statuses.LastGeneration node) none n d = absurd none

-- each disk is left alone
none_these : {D : Type 0} (nodes : ℕ) (P : List D → List D → Type 0) (disks : List D) → nodes ≤ 8 → 8 ≤ length disks → P (take nodes disks) (take nodes disks) → OfThese nodes P disks disks
none_these nodes P disks few some holds = record {
  disks = take nodes disks;
  afters = take nodes disks;
  rest = drop nodes disks;
  old_is = sym (take-append-drop nodes disks);
  new_is = sym (take-append-drop nodes disks);
  count = length-take-le nodes disks (omega (arith, few, some));
  count_after = length-take-le nodes disks (omega (arith, few, some));
  holds = holds;
}

each_alone : {D : Type 0} (P : ℕ → D → D → Type 0) (disks : List D) → ((n : ℕ) (d : D) → P n d d) → EachBeside P disks disks
each_alone P disks alone = record { count = refl; each = λ n a b is other. subst (P n a) (same_some a b (sym is ∙ other)) (alone n a) }

pub none_leave : {D : Type 0} (told : Type 0) (state : D → DiskState) (nodes : ℕ) (status : Status) (disks : List D) → IsNoScript status → nodes ≤ 8 → 8 ≤ length disks → OfThese nodes (LeaveAll told state nodes status) disks disks
none_leave told state nodes status disks none few some =
    none_these nodes (LeaveAll told state nodes status) disks few some (each_alone (Leaves told state nodes status) (take nodes disks) (λ n d. alone_leaves told state nodes status none n d))

pub none_touched : {D : Type 0} (told : Type 0) (state : D → DiskState) (nodes : ℕ) (disks : List D) → nodes ≤ 8 → 8 ≤ length disks → OfThese nodes (AreOnlyTouched told state) disks disks
none_touched told state nodes disks few some =
    none_these nodes (AreOnlyTouched told state) disks few some (each_alone (λ n disk end. IsOnlyTouched told state disk end) (take nodes disks) (λ n d yes. touched_alone (state d)))

pub none_coherent : {D : Type 0} (told : Type 0) (state : D → DiskState) (nodes : ℕ) (disks : List D) → nodes ≤ 8 → 8 ≤ length disks → OfThese nodes (StayCoherent told state) disks disks
none_coherent told state nodes disks few some = none_these nodes (StayCoherent told state) disks few some (λ t coherent. coherent)

pub none_roomy : {D : Type 0} (told : Type 0) (state : D → DiskState) (size : D → ℕ) (nodes : ℕ) (disks : List D) → nodes ≤ 8 → 8 ≤ length disks → OfThese nodes (StayRoomy told state size) disks disks
none_roomy told state size nodes disks few some = none_these nodes (StayRoomy told state size) disks few some (λ t coherent roomy. roomy)

pub none_by_rounds : {D : Type 0} (told : Type 0) (state : D → DiskState) (own size : D → ℕ) (seed nodes : ℕ) (shown : Shown) (l m given after : Option (List ℕ)) (run : Run) (disks : List D) → IsNoScript run.status → nodes ≤ 8 → 8 ≤ length disks
    → RanByRounds told state own size seed nodes shown l m given after run disks disks
none_by_rounds told state own size seed nodes shown l m given after run disks none few some = record {
  ended = λ e. absurd (end_has_script run.status e none);
  cut_off = λ is. absurd (subst IsNoScript is none);
  cut_short = λ node is. absurd (subst IsNoScript is none);
  refused = λ line clause is. absurd (subst IsNoScript is none);
  out_of_memory = λ is. inl (none_touched told state nodes disks few some);
}
