-- What comes of the places behind some sites: from that of those behind one site more, as that leaves its disk.
use Rattle.std.proofs.Common.{◌≡◌, ◌∙◌, ◌+◌, ap, append_assoc, refl, subst, sym, inl, ℕ, suc, List, [], ◌∷◌, ◌++◌, length, map, arith}
use Rattle.std.proofs.lemmas.List.{append-nil}
use Rattle.std.specs.Prelude.{Result, Ok, Err, IfOk}
use Rattle.qs_base.specs.declared.identifiers.NodeNo.{NodeNo}
use Rattle.qs_base.specs.declared.memory.NoMemory.{NoMemory}
use Rattle.qs_book_script.specs.declared.script.Script.{Script}
use Rattle.qs_cell.specs.State.{disk_of}
use Rattle.qs_disk.specs.Disk.{DiskState}
use Rattle.qs_log.specs.declared.fault.OpenFault.{OpenFault}
use Rattle.qs_log.specs.declared.fault.OpenFault.TheVariants as open_faults
use Rattle.qs_world_rounds.specs.Rounds.{Cast}
use Rattle.qs_world_rounds.specs.Seats.{BeginsAt}
use Rattle.qs_world_rounds.specs.declared.faults.RoundFault.{RoundFault}
use Rattle.qs_world_rounds.specs.declared.rounds.Ending.{Ending}
use Rattle.qs_world_serial.proofs.Beside.{beside_is, beside_more, beside_none, beside_same, last_front, last_long, last_one}
use Rattle.qs_world_serial.specs.Behind.{AreAllLinks, CameOf, HasJoined, HasLeft, HasNotJoined, HasRunBehind, IsNotOpenedBehind, IsTellMore, MadeRounds, TellsMore, not_begun}
use Rattle.qs_world_serial.specs.Serial.{EachBeside, IsNotOpened, IsToldBy, IsTouchedDisk, IsTouchedUpTo, LeavesDisk}
use Rattle.qs_world_serial.specs.declared.places.Course.{Course}
use Rattle.qs_world_serial.specs.declared.serial.SerialRun.{SerialRun}
use Rattle.qs_world_serial.specs.declared.serial.SerialRun.TheVariants as runs
use Rattle.qs_world_serial.specs.declared.serial.SiteTold.{SiteTold}
use Rattle.qs_world_sites.specs.Seats.{turns_of}
use Rattle.qs_world_sites.specs.Sites.{SitesValue, links_of}

-- ---- what is told

ok_more : (P Q : SiteTold → Type 0) → ((told : SiteTold) → P told → Q told) → (old new : Result (List SiteTold) NoMemory) → IsTellMore P old new → IsTellMore Q old new
ok_more P Q weaker old (Ok tells) (first, (rest, (was, (is, has)))) = (first, (rest, (was, (is, weaker first has))))
ok_more P Q weaker old (Err e) more = tt

pub tells_as : (P Q : SiteTold → Type 0) → ((told : SiteTold) → P told → Q told) → (before run : SerialRun) → TellsMore P before run → TellsMore Q before run
tells_as P Q weaker (runs.Ended ending tells) run (more, (is, has)) = (more, (is, ok_more P Q weaker tells more has))
tells_as P Q weaker runs.NoMemory run is = is
tells_as P Q weaker (runs.NotOpened node why) run is = is

module _ {D : Type 0} where
  told_more : (site : Cast D) (gone : List (Cast D)) (old new : Result (List SiteTold) NoMemory) → IfOk old (EachBeside (λ n. IsToldBy) gone) → IsTellMore (IsToldBy site) old new
      → IfOk new (EachBeside (λ n. IsToldBy) (site ∷ gone))
  told_more site gone old (Err e) before more = tt
  told_more site gone old (Ok tells) before (first, (rest, (was, (is, has)))) =
      subst (EachBeside (λ n. IsToldBy) (site ∷ gone)) (sym is)
      (beside_more (λ n. IsToldBy) site first gone rest has (subst (λ (tell : Result (List SiteTold) NoMemory). IfOk tell (EachBeside (λ n. IsToldBy) gone)) was before))

module _ {D : Type 0} (told : Type 0) (state : D → DiskState) (own size : D → ℕ) where
  -- ---- a disk that was not changed

  pub untouched : (disk : D) → IsTouchedDisk told state size disk disk
  untouched disk = record { moments = λ yes. record { between = []; grows = sym (append-nil (state disk).past); each = tt; here = λ c image. inl image }; bytes = refl }

  touched_further : (node n : ℕ) (disk after : D) → IsTouchedUpTo told state size node n disk after → IsTouchedUpTo told state size (suc node) (suc n) disk after
  touched_further node n disk after touched = record { touched = touched.touched; behind = λ less. touched.behind (omega (arith, less)) }

  -- of the node behind, seen from one place before it
  not_opened_further : (at : ℕ) (why : OpenFault) (disk after : D) (disks afters : List D) → IsTouchedDisk told state size disk after → IsNotOpened told state own size at why disks afters
      → IsNotOpened told state own size (suc at) why (disk ∷ disks) (after ∷ afters)
  not_opened_further at why disk after disks afters touched not = record {
    disk = not.disk;
    after = not.after;
    disk_is = not.disk_is;
    after_is = not.after_is;
    unopened = not.unopened;
    each = beside_more (IsTouchedUpTo told state size (suc at)) disk after disks afters (record { touched = touched; behind = λ less. absurd (omega (arith, less)) })
        (beside_is (IsTouchedUpTo told state size at) (λ n. IsTouchedUpTo told state size (suc at) (suc n)) (touched_further at) disks afters not.each);
  }

  -- ---- the log of the next node was not opened

  not_here : (course : Course) (script : Script) (why : OpenFault) (sites : List (Cast D)) (disk after : D) (disks : List D) → HasNotJoined told state own size why disk after
      → IsNotOpenedBehind told state own size (length sites) (length sites) why (disk ∷ disks) (after ∷ disks)
  not_here course script why sites disk after disks not = record {
    at = 0;
    node_is = omega arith;
    not_opened = record {
      disk = disk;
      after = after;
      disk_is = refl;
      after_is = refl;
      unopened = not.unopened;
      each = beside_more (IsTouchedUpTo told state size 0) disk after disks disks (record { touched = not.touched; behind = λ less. absurd (omega (arith, less)) })
          (beside_same (λ n. IsTouchedUpTo told state size 0 (suc n)) (λ n d. record { touched = untouched d; behind = λ less. refl }) disks);
    };
  }

  pub came_not : (course : Course) (script : Script) (node : NodeNo) (why : OpenFault) (sites left : List (Cast D)) (disk after : D) (disks : List D) → HasNotJoined told state own size why disk after → left ≡ sites
      → node.0 ≡ length sites → CameOf told state own size course script (not_begun node why) sites left (disk ∷ disks) (after ∷ disks)
  came_not course script node open_faults.NoMemory sites left disk after disks not kept is = (
    kept,
    beside_more (λ n. IsTouchedDisk told state size) disk after disks disks not.touched (beside_same (λ n. IsTouchedDisk told state size) (λ n d. untouched d) disks),
  )
  came_not course script node open_faults.DiskFailed sites left disk after disks not kept is = (
    kept,
    subst (λ (k : ℕ). IsNotOpenedBehind told state own size (length sites) k open_faults.DiskFailed (disk ∷ disks) (after ∷ disks)) (sym is)
        (not_here course script open_faults.DiskFailed sites disk after disks not),
  )
  came_not course script node (open_faults.Damaged at) sites left disk after disks not kept is = (
    kept,
    subst (λ (k : ℕ). IsNotOpenedBehind told state own size (length sites) k (open_faults.Damaged at) (disk ∷ disks) (after ∷ disks)) (sym is)
        (not_here course script (open_faults.Damaged at) sites disk after disks not),
  )

  -- ---- all have begun

  pub came_rounds : (course : Course) (script : Script) (ending : Result Ending RoundFault) (sites left : List (Cast D)) (first last : SitesValue D) → first.sites ≡ sites → last.sites ≡ left
      → first.turns ≡ turns_of course.nodes script.seats → AreAllLinks script.faults course.nodes (map links_of sites) → MadeRounds told state own size script course.seed ending first last
      → HasRunBehind told state own size course script ending (Ok []) sites left [] []
  came_rounds course script ending sites left first last first_is last_is turns links made = record {
    first = first;
    last = last;
    begun = [];
    gone = [];
    first_is = first_is ∙ sym (append-nil sites);
    last_is = last_is ∙ sym (append-nil left);
    kept = sym (ap (λ (l : List (Cast D)). length l) last_is) ∙ (made.stays.count ∙ ap (λ (l : List (Cast D)). length l) first_is);
    turns = turns;
    links = subst (λ (l : List (Cast D)). AreAllLinks script.faults course.nodes (map links_of l)) (sym first_is) links;
    begins = beside_none (λ n disk (site : Cast D). BeginsAt told state own course.alloc script course.nodes (record { 0 = length sites + n }) disk site);
    bytes = beside_none (λ n disk (site : Cast D). size (disk_of site.node.seat.node).disk ≡ size disk);
    made = made;
    leaves = beside_none (λ n. LeavesDisk told state);
    tells_is = beside_none (λ n. IsToldBy);
  }

  -- ---- a site began, those behind it came to this, and it has left its disk

  module _ (course : Course) (script : Script) (sites joined held left : List (Cast D)) (disk after : D) (disks afters : List D) (site gone : Cast D) (joins : joined ≡ sites ++ site ∷ []) (leaves : held ≡ left ++ gone ∷ []) where
    one_more : length joined ≡ length sites + 1
    one_more = ap (λ (l : List (Cast D)). length l) joins ∙ last_long sites site

    -- nothing was done
    stood : held ≡ joined → left ++ gone ∷ [] ≡ sites ++ site ∷ []
    stood same = sym leaves ∙ (same ∙ joins)

    pub left_same : held ≡ joined → left ≡ sites
    left_same same = last_front left sites gone site (stood same)

    pub left_touched : held ≡ joined → after ≡ (disk_of gone.node.seat.node).disk → IsTouchedDisk told state size disk (disk_of site.node.seat.node).disk → IsTouchedDisk told state size disk after
    left_touched same disk_is touched =
        subst (IsTouchedDisk told state size disk) (sym (disk_is ∙ ap (λ (c : Cast D). (disk_of c.node.seat.node).disk) (last_one left sites gone site (stood same)))) touched

    begins_at : (n : ℕ) (d : D) (s : Cast D) → BeginsAt told state own course.alloc script course.nodes (record { 0 = length joined + n }) d s
        → BeginsAt told state own course.alloc script course.nodes (record { 0 = length sites + suc n }) d s
    begins_at n d s begins = subst (λ (k : ℕ). BeginsAt told state own course.alloc script course.nodes (record { 0 = k }) d s) (omega (arith, one_more)) begins

    pub ran_further : (ending : Result Ending RoundFault) (old new : Result (List SiteTold) NoMemory)
        → BeginsAt told state own course.alloc script course.nodes (record { 0 = length sites }) disk site → size (disk_of site.node.seat.node).disk ≡ size disk → LeavesDisk told state gone after
        → IsTellMore (IsToldBy gone) old new → HasRunBehind told state own size course script ending old joined held disks afters
        → HasRunBehind told state own size course script ending new sites left (disk ∷ disks) (after ∷ afters)
    ran_further ending old new begins bytes leaving tells ran = record {
      first = ran.first;
      last = ran.last;
      begun = site ∷ ran.begun;
      gone = gone ∷ ran.gone;
      first_is = ran.first_is ∙ (ap (λ (l : List (Cast D)). l ++ ran.begun) joins ∙ append_assoc sites (site ∷ []) ran.begun);
      last_is = ran.last_is ∙ (ap (λ (l : List (Cast D)). l ++ ran.gone) leaves ∙ append_assoc left (gone ∷ []) ran.gone);
      kept =
          let long : length held ≡ length left + 1 = ap (λ (l : List (Cast D)). length l) leaves ∙ last_long left gone in
          let same : length held ≡ length joined = ran.kept in
          omega (arith, long, same, one_more);
      turns = ran.turns;
      links = ran.links;
      begins = beside_more (λ n d (s : Cast D). BeginsAt told state own course.alloc script course.nodes (record { 0 = length sites + n }) d s) disk site disks ran.begun
          (subst (λ (k : ℕ). BeginsAt told state own course.alloc script course.nodes (record { 0 = k }) disk site) (omega arith) begins)
          (beside_is (λ n d (s : Cast D). BeginsAt told state own course.alloc script course.nodes (record { 0 = length joined + n }) d s)
          (λ n d (s : Cast D). BeginsAt told state own course.alloc script course.nodes (record { 0 = length sites + suc n }) d s) begins_at disks ran.begun ran.begins);
      bytes = beside_more (λ n d (s : Cast D). size (disk_of s.node.seat.node).disk ≡ size d) disk site disks ran.begun bytes ran.bytes;
      made = ran.made;
      leaves = beside_more (λ n. LeavesDisk told state) gone after ran.gone afters leaving ran.leaves;
      tells_is = told_more gone ran.gone old new ran.tells_is tells;
    }

    pub not_further : (node : ℕ) (why : OpenFault) → held ≡ joined → IsTouchedDisk told state size disk after → IsNotOpenedBehind told state own size (length joined) node why disks afters
        → IsNotOpenedBehind told state own size (length sites) node why (disk ∷ disks) (after ∷ afters)
    not_further node why same touched not = record {
      at = suc not.at;
      node_is = let is = not.node_is in omega (arith, is, one_more);
      not_opened = not_opened_further not.at why disk after disks afters touched not.not_opened;
    }

  -- whatever they came to
  pub came_first : (course : Course) (script : Script) (before run : SerialRun) (sites joined held left : List (Cast D)) (links others : _) (disk after : D) (disks afters : List D)
      → HasJoined told state own size course script sites joined links others disk → CameOf told state own size course script before joined held disks afters
      → HasLeft told state held left before run after → CameOf told state own size course script run sites left (disk ∷ disks) (after ∷ afters)
  came_first course script (runs.Ended ending tells) run sites joined held left links others disk after disks afters joins came leaves =
      let (more, (is, tell)) = leaves.tells in
      subst (λ (r : SerialRun). CameOf told state own size course script r sites left (disk ∷ disks) (after ∷ afters)) (sym is)
      (ran_further course script sites joined held left disk after disks afters joins.site leaves.site joins.sites_are leaves.sites_are ending tells more joins.begins joins.touched.bytes leaves.leaves tell came)
  came_first course script runs.NoMemory run sites joined held left links others disk after disks afters joins came leaves =
      let touched = left_touched course script sites joined held left disk after disks afters joins.site leaves.site joins.sites_are leaves.sites_are came.0 leaves.leaves.disk joins.touched in
      subst (λ (r : SerialRun). CameOf told state own size course script r sites left (disk ∷ disks) (after ∷ afters)) (sym leaves.tells) (
        left_same course script sites joined held left disk after disks afters joins.site leaves.site joins.sites_are leaves.sites_are came.0,
        beside_more (λ n. IsTouchedDisk told state size) disk after disks afters touched came.1,
      )
  came_first course script (runs.NotOpened node why) run sites joined held left links others disk after disks afters joins came leaves =
      let touched = left_touched course script sites joined held left disk after disks afters joins.site leaves.site joins.sites_are leaves.sites_are came.0 leaves.leaves.disk joins.touched in
      subst (λ (r : SerialRun). CameOf told state own size course script r sites left (disk ∷ disks) (after ∷ afters)) (sym leaves.tells) (
        left_same course script sites joined held left disk after disks afters joins.site leaves.site joins.sites_are leaves.sites_are came.0,
        not_further course script sites joined held left disk after disks afters joins.site leaves.site joins.sites_are leaves.sites_are node.0 why came.0 touched came.1,
      )

  -- as many sites are left as had begun
  pub held_long : (course : Course) (script : Script) (run : SerialRun) (sites left : List (Cast D)) (disks afters : List D) → CameOf told state own size course script run sites left disks afters → length left ≡ length sites
  held_long course script (runs.Ended ending tells) sites left disks afters came = came.kept
  held_long course script runs.NoMemory sites left disks afters came = ap (λ (l : List (Cast D)). length l) came.0
  held_long course script (runs.NotOpened node why) sites left disks afters came = ap (λ (l : List (Cast D)). length l) came.0

  -- the same, told of what is equal
  pub came_as : (course : Course) (script : Script) (run run' : SerialRun) (sites sites' left left' : List (Cast D)) (place after : D) (places afters afters' : List D) → run' ≡ run → sites' ≡ sites → left' ≡ left → afters' ≡ afters
      → CameOf told state own size course script run sites left (place ∷ places) (after ∷ afters) → CameOf told state own size course script run' sites' left' (place ∷ places) (after ∷ afters')
  came_as course script run run' sites sites' left left' place after places afters afters' run_is sites_are left_is afters_are came =
      subst (λ (r : SerialRun). CameOf told state own size course script r sites' left' (place ∷ places) (after ∷ afters')) (sym run_is)
      (subst (λ (l : List (Cast D)). CameOf told state own size course script run l left' (place ∷ places) (after ∷ afters')) (sym sites_are)
      (subst (λ (l : List (Cast D)). CameOf told state own size course script run sites l (place ∷ places) (after ∷ afters')) (sym left_is)
      (subst (λ (l : List D). CameOf told state own size course script run sites left (place ∷ places) (after ∷ l)) (sym afters_are) came)))
