-- Each image of the disk of each site stands for the machine after all that the cells tell: there is one run of the world over packets with that history, in which
-- the node has the log of the image.
use Rattle.std.proofs.Common.{[], ◌≢◌, ◌∷◌, ◌≡◌, ◌∙◌, ap, subst, sym, refl, ℕ, ◌+◌, ◌-◌, ◌<◌, ◌≤◌, ◌==◌, ◌&&◌, ◌||◌, Bool, true, false, List, length, map, option_map, arith, slice_get, nat_le, nat_lt, Some, if◌then◌else◌}
use Rattle.std.proofs.lemmas.Bool.{and_from, eqb-true, le-leb, lt-ltb}
use Rattle.std.proofs.lemmas.Bool.Decides.{nat_tests}
use Rattle.std.proofs.lemmas.List.{length-map}
use Rattle.std.proofs.lemmas.Option.{slice_get-map, slice_get_within}
use Rattle.std.specs.Global.{Global}
use Rattle.std.specs.List.{AllByRecursion}
use Rattle.qs_base.specs.declared.identifiers.NodeNo.{NodeNo}
use Rattle.qs_book_journal.specs.Merge.{IsMerged}
use Rattle.qs_book_journal.specs.declared.entry.Entry.{Entry}
use Rattle.qs_book_machine.specs.Lawful.{book_after}
use Rattle.qs_book_script.specs.declared.script.Script.{Script}
use Rattle.qs_cell_chronicle.specs.Chronicle.{last_stamp}
use Rattle.qs_disk.specs.Disk.{DiskState, IsImage}
use Rattle.qs_link.specs.declared.outgoing.LinkFault.{LinkFault}
use Rattle.qs_log.specs.Image.{IsLog}
use Rattle.qs_node_step.specs.declared.trace.Step.{Step}
use Rattle.qs_record.specs.declared.record.Record.{Record}
use Rattle.qs_slot.specs.Slot.{Present}
use Rattle.qs_world.specs.Histories.{book_of}
use Rattle.qs_world.specs.Moves.{stamp_limit}
use Rattle.qs_world.specs.Openings.{IsOpening}
use Rattle.qs_world.specs.World.{Host, Opening}
use Rattle.qs_world_left.proofs.Chosen.{ComesTo, HasLog, RunsTo, comes, runs, stamp_by}
use Rattle.qs_world_left.proofs.LastStamps.{IsLast, run_last}
use Rattle.qs_world_left.proofs.Reached.{AreLeftThere, AreReached, cut_reaches, ending_reaches, refused_leaves, rounds_reach}
use Rattle.qs_world_left.proofs.RunsLeave.{same_size}
use Rattle.qs_world_left.proofs.RunsStand.{each_run_stands, each_run_stands_alone}
use Rattle.qs_world_left.specs.Disks.{disk_state, disks_of}
use Rattle.qs_world_left.specs.Standing.{CellsLeaveStanding, CutShortLeavesStanding, EndingsLeaveStanding, HaveOthersStampsLeft, IsTold, RefusedLeavesStanding, RoundsLeaveStanding, SitesLeaveStanding, StandFor, StandsFor, StandsWhole, up_at, up_by}
use Rattle.qs_world_merge.proofs.OfOneRun.{each_is_of_one_run}
use Rattle.qs_world_merge.proofs.Reaches.{all_up_to, each_reached_up_to, up_to_both}
use Rattle.qs_world_merge.specs.LocalRuns.{client_at}
use Rattle.qs_world_merge.specs.MergedByKey.{IsMergedBy, is_after, of_node}
use Rattle.qs_world_merge.specs.MergedRuns.{untimed}
use Rattle.qs_world_merge.specs.Observed.{AreOfLocalRuns, IsOfLocalRun, IsOfOneRun, Observed, journals_of}
use Rattle.qs_world_merge.specs.Reaching.{AllUpTo}
use Rattle.qs_world_merge.specs.SameAt.{SameAt}
use Rattle.qs_world_merge.specs.StepMoves.{AreTheirMoves, StepMoves, all_moves, moves_in, step_key, step_of}
use Rattle.qs_world_nodes.proofs.Places.{found, same_some}
use Rattle.qs_world_nodes.proofs.Keeping.{each_cells}
use Rattle.qs_world_nodes.specs.Nodes.{AreCellsIn, journal_at, journal_by, plans_of, trace_at, trace_by}
use Rattle.qs_world_nodes.specs.Openings.{opening_over}
use Rattle.qs_world_opening.proofs.Tests.{parts}
use Rattle.qs_world_opening.specs.Scripts.{MayBegin}
use Rattle.qs_world_packets.specs.PacketMoves.{is_in_order}
use Rattle.qs_world_packets.specs.PacketWorld.{start}
use Rattle.qs_world_rounds.specs.Rounds.{Cast}
use Rattle.qs_world_rounds.specs.declared.rounds.Ending.{Ending}
use Rattle.qs_world_sites.specs.Sites.{SitesValue}
use Rattle.qs_world_traces.proofs.LinksBring.{each_link_brings}
use Rattle.qs_world_traces.specs.Links.{observed_by}
use Rattle.rand_pcg.specs.Lcg.{Lcg}

some_size : (size : ℕ) → nat_le 1 size ≡ true → 0 < size
some_size size some = grind (arith, nat_tests, some)

unlike : (a b : ℕ) → (a == b) ≡ false → a ≡ b → ⊥
unlike a b e same = grind (arith, nat_tests, e, same)

or_left : (a b : Bool) → a ≡ true → (a || b) ≡ true
or_left a b is = rw is refl

-- ---- steps before the last stamp

abbrev IsEarly : Step → Type 0
IsEarly step = step.stamp < last_stamp

-- the moves of such steps have lesser stamps too
moves_early : (size : ℕ) (ds : List StepMoves) → AreTheirMoves size ds → AllByRecursion IsEarly (map step_of ds) → AllUpTo (last_stamp - 1) (all_moves ds)
moves_early size [] are early = tt
moves_early size (d ∷ ds) are early = up_to_both d.step.stamp (last_stamp - 1) (moves_in d) (all_moves ds) (omega (arith, early.0)) (all_up_to d.step.stamp d.step.node.0 (moves_in d) are.0.at) (moves_early size ds are.1 early.1)

-- so a node whose steps they are has not come to the last stamp
host_early : (o : Opening) (n : ℕ) (observed : Observed) (to : IsOfLocalRun o n observed) → AllByRecursion IsEarly observed.trace → (to.world.hosts n).stamp ≤ last_stamp - 1
host_early o n observed to early = (each_reached_up_to o n observed (last_stamp - 1) to.world (record {
  steps = to.steps;
  are = to.are;
  run = to.run;
  up_to = moves_early o.size to.steps to.are (subst (AllByRecursion IsEarly) (sym to.trace_is) early);
  journal_is = to.journal_is;
  trace_is = to.trace_is;
  puts = to.puts;
  takes = to.takes;
})).host

-- of all steps, those of one node that is not k
early_of : (k n : ℕ) → n ≢ k → (trace : List Step) → HaveOthersStampsLeft trace k → AllByRecursion IsEarly (of_node step_key n trace)
early_of k n apart [] left = tt
early_of k n apart (step ∷ trace) left = by (early_of k n apart trace left.1) (step.node.0 == n) refl
  where
    by : AllByRecursion IsEarly (of_node step_key n trace) → (b : Bool) → (step.node.0 == n) ≡ b
        → AllByRecursion IsEarly (if b then step ∷ of_node step_key n trace else of_node step_key n trace)
    by rest true is = (left.0 (λ same. apart (sym (eqb-true step.node.0 n is) ∙ same)), rest)
    by rest false is = rest

after_own : (a s m k : ℕ) → a ≤ s → m ≡ k → (nat_lt a s || ((a == s) && nat_le m k)) ≡ true
after_own a s m k upto same = grind (arith, nat_tests, upto, same)

module _ {D : Type 0} (told : Type 0) (state : D → DiskState) (o : Opening) (plans : ℕ → ℕ → List LinkFault) (sites : List (Cast D)) (t : told) (opens : IsOpening o) (are : AreCellsIn told state o plans sites)
    (k : ℕ) (in_k : k < o.size) (disk : DiskState) (of_k : slice_get (disks_of state sites) k ≡ Some disk) (image : List ℕ) (at : IsImage disk.now image) (present : Present) (records : List Record) (used : ℕ) (log : IsLog present records used image) where
  abbrev observed : ℕ → Observed
  observed n = observed_by (journal_at sites n) (trace_at sites n)

  -- node k comes to a world with the log of the image, and each other one to some world
  record Goes (n : ℕ) (told_of : Observed) (up : Bool) : Type 0 where
    stamp : ℕ
    to : RunsTo o n stamp told_of
    has : n ≡ k → HasLog n up present.value.inc records to.local.world

  goes_at : (n : ℕ) (a : Cast D) → slice_get sites n ≡ Some a → (b : Bool) → (n == k) ≡ b → Goes n (observed n) (up_at sites n)
  goes_at n a is b e = subst (λ (x : _). Goes n (observed_by (journal_by x) (trace_by x)) (up_by x)) (sym is) (by b e)
    where
      its_disk : n ≡ k → IsImage (disk_state state a).now image
      its_disk same = subst (λ (d : DiskState). IsImage d.now image) (same_some disk (disk_state state a) (sym of_k
          ∙ (ap (λ (j : ℕ). slice_get (disks_of state sites) j) (sym same) ∙ (slice_get-map (disk_state state) sites n ∙ ap (λ (x : _). option_map (disk_state state) x) is)))) at

      chosen : n ≡ k → ComesTo o n (stamp_by (Some a)) (observed_by (journal_by (Some a)) (trace_by (Some a))) (up_by (Some a)) present.value.inc records
      chosen same = comes told state o n t a.node.seat.node (are.each n a is) image (its_disk same) present records (record { used = used; log = log })

      by : (b : Bool) → (n == k) ≡ b → Goes n (observed_by (journal_by (Some a)) (trace_by (Some a))) (up_by (Some a))
      by true e = let c : ComesTo o n (stamp_by (Some a)) (observed_by (journal_by (Some a)) (trace_by (Some a))) (up_by (Some a)) present.value.inc records = chosen (eqb-true n k e) in
          record { stamp = stamp_by (Some a); to = c.to; has = λ same. c.has }
      by false e = record { stamp = stamp_by (Some a); to = runs told state o n a.node.seat.node (are.each n a is); has = λ same. absurd (unlike n k e same) }

  goes : (n : ℕ) → n < o.size → Goes n (observed n) (up_at sites n)
  goes n low = by (found sites n (omega (arith, low, are.count)))
    where
      by : (a : Cast D) × (slice_get sites n ≡ Some a) → Goes n (observed n) (up_at sites n)
      by (a, is) = goes_at n a is (n == k) refl

  -- ---- one run of all

  abbrev local : AreOfLocalRuns o observed
  local n low = (goes n low).to.local

  one : IsOfOneRun o observed local
  one = each_is_of_one_run o observed local (each_link_brings o.size plans (journal_at sites) (trace_at sites) are.keep)

  sized : one.world.size ≡ o.size
  sized = same_size o (untimed one.moves) one.world opens one.run

  in_world : k < one.world.size
  in_world = omega (arith, in_k, sized)

  stamp_same : (n : ℕ) (low : n < o.size) → (one.world.hosts n).stamp ≡ ((local n low).world.hosts n).stamp
  stamp_same n low = ap (λ (h : Host). h.stamp) (one.each n low).host

  stamps : (n : ℕ) → n < o.size → (one.world.hosts n).stamp ≤ last_stamp
  stamps n low = omega (arith, stamp_same n low, (goes n low).to.upto, (goes n low).to.within)

  last : IsLast one.world
  last = run_last (untimed one.moves) (start o) one.world one.run (record { in_run = some_size o.size (parts (nat_le 1 o.size) _ opens.size).0; stamp_is = refl })

  in_run : one.world.last.1 < o.size
  in_run = omega (arith, last.in_run, sized)

  -- no other node has made a step with the last stamp
  abbrev EachEarly : Type 0
  EachEarly = (n : ℕ) → n < o.size → n ≢ k → AllByRecursion IsEarly (trace_at sites n)

  early_in : (trace : List Step) → IsMergedBy step_key o.size (trace_at sites) trace → HaveOthersStampsLeft trace k → EachEarly
  early_in trace steps left n low apart = subst (AllByRecursion IsEarly) (sym (ap (of_node step_key n) (one.trace trace steps)) ∙ one.own n low) (early_of k n apart trace left)

  module _ (early : EachEarly) where
    stamps_before : (n : ℕ) → n < o.size → n ≢ k → (one.world.hosts n).stamp < last_stamp
    stamps_before n low apart = omega (arith, stamp_same n low, host_early o n (observed n) (local n low) (early n low apart))

    -- the last step of all is of node k, or stands before the last stamp
    after : is_after one.world.last last_stamp k ≡ true
    after = by (one.world.last.1 == k) refl
      where
        by : (b : Bool) → (one.world.last.1 == k) ≡ b → is_after one.world.last last_stamp k ≡ true
        by true own = after_own one.world.last.0 last_stamp one.world.last.1 k (subst (λ (s : ℕ). s ≤ last_stamp) last.stamp_is (stamps one.world.last.1 in_run)) (eqb-true one.world.last.1 k own)
        by false apart = or_left (nat_lt one.world.last.0 last_stamp) _ (lt-ltb one.world.last.0 last_stamp
            (subst (λ (s : ℕ). s < last_stamp) last.stamp_is (stamps_before one.world.last.1 in_run (unlike one.world.last.1 k apart))))

    order : is_in_order one.world k last_stamp ≡ true
    order = and_from (nat_lt k one.world.size && nat_lt last_stamp stamp_limit) _ (and_from (nat_lt k one.world.size) (nat_lt last_stamp stamp_limit) (lt-ltb k one.world.size in_world) (lt-ltb last_stamp stamp_limit (omega arith)))
        (and_from (is_after one.world.last last_stamp k) (nat_le (one.world.hosts k).stamp last_stamp) after (le-leb (one.world.hosts k).stamp last_stamp (stamps k in_k)))

    its : HasLog k (up_at sites k) present.value.inc records (local k in_k).world
    its = (goes k in_k).has refl

    same : SameAt (client_at o) k one.world (local k in_k).world
    same = one.each k in_k

    chosen_stands : (journal : List Entry) → IsMerged (journals_of o.size observed) journal → StandsFor (book_after (book_of o) journal) k (up_at sites k) (present.value.inc + 1) records
    chosen_stands journal entries = subst (λ (l : List Record). StandsFor (book_after (book_of o) journal) k (up_at sites k) (present.value.inc + 1) l) (ap (λ (h : Host). h.log) same.host ∙ sym its.log_is)
        (subst (λ (b : Bool). StandsFor (book_after (book_of o) journal) k b (present.value.inc + 1) (one.world.hosts k).log) (same.network.up ∙ its.up_is)
        (subst (λ (l : List Entry). StandsFor (book_after (book_of o) l) k (one.world.network.up k) (present.value.inc + 1) (one.world.hosts k).log) (one.journal journal entries)
        (each_run_stands o (untimed one.moves) one.world k last_stamp (present.value.inc + 1) opens one.run order (subst (λ (i : ℕ). i < present.value.inc + 1) (sym same.network.inc) its.later))))

    -- of the only node
    chosen_stands_alone : o.size ≡ 1 → k ≡ 0 → (journal : List Entry) → IsMerged (journals_of o.size observed) journal → StandsWhole (book_after (book_of o) journal) (up_at sites k) (present.value.inc + 1) records
    chosen_stands_alone single first journal entries = subst (λ (l : List Record). StandsWhole (book_after (book_of o) journal) (up_at sites k) (present.value.inc + 1) l) (ap (λ (h : Host). h.log) same.host ∙ sym its.log_is)
        (subst (λ (b : Bool). StandsWhole (book_after (book_of o) journal) b (present.value.inc + 1) (one.world.hosts k).log) (same.network.up ∙ its.up_is)
        (subst (λ (l : List Entry). StandsWhole (book_after (book_of o) l) (one.world.network.up k) (present.value.inc + 1) (one.world.hosts k).log) (one.journal journal entries)
        (at_first k (sym first) order (subst (λ (i : ℕ). i < present.value.inc + 1) (sym same.network.inc) its.later))))
      where
        at_first : (j : ℕ) → 0 ≡ j → is_in_order one.world j last_stamp ≡ true → one.world.network.inc j < present.value.inc + 1 → StandsWhole (book_after (book_of o) one.world.journal) (one.world.network.up j) (present.value.inc + 1) (one.world.hosts j).log
        at_first j zero_is ordered below = subst (λ (i : ℕ). is_in_order one.world i last_stamp ≡ true → one.world.network.inc i < present.value.inc + 1
            → StandsWhole (book_after (book_of o) one.world.journal) (one.world.network.up i) (present.value.inc + 1) (one.world.hosts i).log) zero_is
            (λ in_order under. each_run_stands_alone o (untimed one.moves) one.world last_stamp (present.value.inc + 1) opens one.run single in_order under) ordered below

pub each_cells_stand : {D : Type 0} (told : Type 0) (state : D → DiskState) (o : Opening) (plans : ℕ → ℕ → List LinkFault) (sites : List (Cast D)) (journal : List Entry) (trace : List Step) → CellsLeaveStanding told state o plans sites journal trace
each_cells_stand {D} told state o plans sites journal trace t opens are tells = record {
  each = λ k disk of_k left image at present records used log.
      let in_k : k < o.size = low k (slice_get_within (disks_of state sites) k disk of_k) in
      chosen_stands told state o plans sites t opens are k in_k disk of_k image at present records used log
      (early_in told state o plans sites t opens are k in_k disk of_k image at present records used log trace tells.steps left) journal tells.entries;
  alone = λ disk only image at present records used log. chosen_stands_alone told state o plans sites t opens are 0 (low 0 (some disk only)) disk (ap (λ (l : List DiskState). slice_get l 0) only)
      image at present records used log (λ n under apart. absurd (apart (first n under (single disk only)))) (single disk only) refl journal tells.entries;
}
  where
    low : (k : ℕ) → k < length (disks_of state sites) → k < o.size
    low k is = omega (arith, is, length-map sites (disk_state state), are.count)

    count : (disk : DiskState) → disks_of state sites ≡ disk ∷ [] → length sites ≡ 1
    count disk only = sym (length-map sites (disk_state state)) ∙ ap length only

    single : (disk : DiskState) → disks_of state sites ≡ disk ∷ [] → o.size ≡ 1
    single disk only = sym are.count ∙ count disk only

    some : (disk : DiskState) → disks_of state sites ≡ disk ∷ [] → 0 < length (disks_of state sites)
    some disk only = omega (arith, length-map sites (disk_state state), count disk only)

    first : (m : ℕ) → m < o.size → o.size ≡ 1 → m ≡ 0
    first m under one_is = omega (arith, under, one_is)

pub each_sites_stand : {D : Type 0} (told : Type 0) (state : D → DiskState) (o : Opening) (plans : ℕ → ℕ → List LinkFault) (sites : List (Cast D)) (journal : List Entry) (trace : List Step) → SitesLeaveStanding told state o plans sites journal trace
each_sites_stand told state o plans sites journal trace t opens are tells = each_cells_stand told state o plans sites journal trace t opens (each_cells told state o plans sites are) tells

-- ---- of a run that has begun

module _ {D : Type 0} (may : (o : Opening) → MayBegin o) (told : Type 0) (state : D → DiskState) (own size : D → ℕ) (alloc : Global) (script : Script) (disks : List D) (all : SitesValue D) where
  stand : (new : SitesValue D) (journal : List Entry) (trace : List Step) → told → AreReached told state alloc script disks all new → IsTold (length disks) journal trace new.sites
      → StandFor state (opening_over alloc script disks all.sites) journal trace new.sites
  stand new journal trace t reached tells = each_sites_stand told state (opening_over alloc script disks all.sites) (plans_of script) new.sites journal trace t reached.opens reached.are tells

  pub each_rounds_stand : (rng : Lcg) (n : ℕ) (new : SitesValue D) (later : Lcg) (journal : List Entry) (trace : List Step) → RoundsLeaveStanding told state own size alloc script disks rng n all new later journal trace
  each_rounds_stand rng n new later journal trace t begun once fits coherent rounds tells =
      stand new journal trace t (rounds_reach may told state own size alloc script disks all t begun once fits coherent rng n new later rounds) tells

  pub each_ending_stands : (seed : ℕ) (new : SitesValue D) (ending : Ending) (journal : List Entry) (trace : List Step) → EndingsLeaveStanding told state own size alloc script disks seed all new ending journal trace
  each_ending_stands seed new ending journal trace t begun once fits coherent is tells =
      stand new journal trace t (ending_reaches may told state own size alloc script disks all t begun once fits coherent seed new ending is) tells

  pub each_cut_stands : (seed : ℕ) (node : NodeNo) (new : SitesValue D) (journal : List Entry) (trace : List Step) → CutShortLeavesStanding told state own size alloc script disks seed node all new journal trace
  each_cut_stands seed node new journal trace t begun once fits coherent is tells =
      stand new journal trace t (cut_reaches may told state own size alloc script disks all t begun once fits coherent seed node new is) tells

  pub each_refused_stands : (seed : ℕ) (new : SitesValue D) (journal : List Entry) (trace : List Step) → RefusedLeavesStanding told state own size alloc script disks seed all new journal trace
  each_refused_stands seed new journal trace t begun once fits coherent out tells =
      let left : AreLeftThere told state alloc script disks all new = refused_leaves may told state own size alloc script disks all t begun once fits coherent seed new out in
      each_cells_stand told state (opening_over alloc script disks all.sites) (plans_of script) new.sites journal trace t left.opens left.are tells
