-- The logs that the nodes raise as they begin are those of the contents, in the next incarnations; and one run behind another.
use Rattle.std.proofs.Common.{◌≡◌, ◌∙◌, ap, subst, sym, ℕ, ◌+◌, ◌<◌, ◌≤◌, List, [], length, map, option_map, arith, slice_get, Some}
use Rattle.std.proofs.lemmas.Option.{slice_get-map}
use Rattle.std.specs.Global.{Global}
use Rattle.qs_base.specs.declared.identifiers.NodeNo.{NodeNo}
use Rattle.qs_book_script.specs.declared.script.Script.{Script}
use Rattle.qs_cell.specs.Restart.{inc_of}
use Rattle.qs_cell.specs.declared.state.CellState.{CellState}
use Rattle.qs_disk.specs.Disk.{DiskState}
use Rattle.qs_disk.specs.Fuse.{FusedValue}
use Rattle.qs_log.specs.Image.{IsLog}
use Rattle.qs_log.specs.Log.{LogValue}
use Rattle.qs_log_start.specs.Incarnation.{IsRaisedLog, open_limit}
use Rattle.qs_record.specs.declared.record.Record.{Record}
use Rattle.qs_slot.specs.Slot.{Present, value_in}
use Rattle.qs_world.specs.World.{Opening}
use Rattle.qs_world_left.proofs.Choosing.{Choice, choose}
use Rattle.qs_world_left.proofs.SitesLeave.{each_cut_leaves, each_ending_leaves, each_refused_leaves, each_rounds_leave}
use Rattle.qs_world_left.specs.Disks.{ShowsLog, content_at, content_by}
use Rattle.qs_world_left.specs.Left.{CutShortFollows, EndingsFollow, RaisedStayCoherent, RefusedFollows, RoundsFollow}
use Rattle.qs_world_nodes.proofs.Opened.{inc_is}
use Rattle.qs_world_nodes.proofs.Places.{found}
use Rattle.qs_world_nodes.specs.Openings.{forced_in, inc_by, log_by}
use Rattle.qs_world_opening.specs.Scripts.{MayBegin, StayCoherent}
use Rattle.qs_world_rounds.specs.Rounds.{Cast}
use Rattle.qs_world_rounds.specs.Seats.{BeginsAt}
use Rattle.qs_world_rounds.specs.declared.rounds.Ending.{Ending}
use Rattle.qs_world_sites.specs.Seats.{HasBegun}
use Rattle.qs_world_sites.specs.Sites.{SitesValue}
use Rattle.rand_pcg.specs.Lcg.{Lcg}

pub no_present : Present
no_present = record { sequence = 0; value = value_in 0 []; next = 0 }

-- the log of a content, in the incarnation before that of a node that began over it
record IsBefore (content : List ℕ) (inc : ℕ) (records : List Record) (present : Present) : Type 0 where
  shows : ShowsLog content present records
  next : present.value.inc + 1 ≤ inc

module _ {D : Type 0} (told : Type 0) (state : D → DiskState) (own : D → ℕ) (alloc : Global) (script : Script) (disks : List D) (all : SitesValue D) (t : told) (begun : HasBegun told state own alloc script disks all) where
  abbrev WasAt : ℕ → Present → Type 0
  WasAt n = IsBefore (content_at (map state disks) n) (inc_by (slice_get all.sites n)) (log_by (slice_get all.sites n))

  -- where they are written as one site has them
  of_one : (n : ℕ) (disk : D) (site : Cast D) → BeginsAt told state own alloc script (length disks) (record { 0 = n }) disk site → (present : Present) × IsBefore (state disk).content (inc_by (Some site)) (log_by (Some site)) present
  of_one n disk site b = (
    raised.present,
    record {
      shows = record { used = log.used; log = subst (λ (l : List Record). IsLog raised.present l log.used (state disk).content) (sym (ap (λ (c : CellState D). forced_in c) b.started.node)) raised.records };
      next = reached (raised.present.value.inc + 1) (inc_of log) (inc_by (Some site)) (sym (ap (λ (p : Present). p.value.inc) raised.raised)) (inc_is told state own alloc script (length disks) n disk site b);
    },
  )
    where
      log : LogValue (FusedValue D)
      log = b.started.running.host.log

      raised : IsRaisedLog open_limit (state disk).content log
      raised = b.started.raised t

      reached : (a b c : ℕ) → a ≡ b → c ≡ b → a ≤ c
      reached a b c is same = omega (arith, is, same)

  was_at : (n : ℕ) → n < length disks → (present : Present) × WasAt n present
  was_at n low = by (found disks n low) (found all.sites n (omega (arith, low, begun.count)))
    where
      by : (disk : D) × (slice_get disks n ≡ Some disk) → (site : Cast D) × (slice_get all.sites n ≡ Some site) → (present : Present) × WasAt n present
      by (disk, of_disk) (site, there) =
          subst (λ (c : List ℕ). (present : Present) × IsBefore c (inc_by (slice_get all.sites n)) (log_by (slice_get all.sites n)) present)
          (sym (ap content_by (slice_get-map state disks n ∙ ap (λ (x : _). option_map state x) of_disk)))
          (subst (λ (s : _). (present : Present) × IsBefore (state disk).content (inc_by s) (log_by s) present) (sym there) (of_one n disk site (begun.each n disk site of_disk there)))

  were : Choice (length disks) WasAt
  were = choose (length disks) WasAt no_present was_at

pub each_raised : {D : Type 0} → ((alloc : Global) (size : ℕ) (incs later : ℕ → ℕ) (logs : ℕ → List Record) → StayCoherent alloc size incs later logs) → (told : Type 0) (state : D → DiskState) (own : D → ℕ) (alloc : Global) (script : Script) (disks : List D) (all : SitesValue D)
    → RaisedStayCoherent told state own alloc script disks all
each_raised stay told state own alloc script disks all t begun coherent =
    let w = were told state own alloc script disks all t begun in
    stay alloc (length disks) (λ n. (w.at n).value.inc + 1) (λ n. inc_by (slice_get all.sites n)) (λ n. log_by (slice_get all.sites n)) (λ n low. (w.has n low).next)
    (coherent w.at (λ n. log_by (slice_get all.sites n)) (λ n low. (w.has n low).shows))

-- ---- one run behind another

module _ {D : Type 0} (may : (o : Opening) → MayBegin o) (stay : (alloc : Global) (size : ℕ) (incs later : ℕ → ℕ) (logs : ℕ → List Record) → StayCoherent alloc size incs later logs)
    (told : Type 0) (state : D → DiskState) (own size : D → ℕ) (alloc : Global) (script : Script) (disks : List D) (all : SitesValue D) where
  pub each_rounds_follow : (rng : Lcg) (n : ℕ) (new : SitesValue D) (later : Lcg) → RoundsFollow told state own size alloc script disks rng n all new later
  each_rounds_follow rng n new later t b rounds =
      each_rounds_leave may told state own size alloc script disks all rng n new later t b.begun b.once b.fits (each_raised stay told state own alloc script disks all t b.begun b.coherent) rounds

  pub each_ending_follows : (seed : ℕ) (new : SitesValue D) (ending : Ending) → EndingsFollow told state own size alloc script disks seed all new ending
  each_ending_follows seed new ending t b is =
      each_ending_leaves may told state own size alloc script disks all seed new ending t b.begun b.once b.fits (each_raised stay told state own alloc script disks all t b.begun b.coherent) is

  pub each_cut_follows : (seed : ℕ) (node : NodeNo) (new : SitesValue D) → CutShortFollows told state own size alloc script disks seed node all new
  each_cut_follows seed node new t b is =
      each_cut_leaves may told state own size alloc script disks all seed node new t b.begun b.once b.fits (each_raised stay told state own alloc script disks all t b.begun b.coherent) is

  pub each_refused_follows : (seed : ℕ) (new : SitesValue D) → RefusedFollows told state own size alloc script disks seed all new
  each_refused_follows seed new t b is =
      each_refused_leaves may told state own size alloc script disks all seed new t b.begun b.once b.fits (each_raised stay told state own alloc script disks all t b.begun b.coherent) is
