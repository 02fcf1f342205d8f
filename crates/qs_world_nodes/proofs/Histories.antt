-- A run of many nodes may begin over coherent logs, and so what is told after any rounds is lawful.
use Rattle.std.proofs.Common.{◌≡◌, ◌∙◌, ap, subst, ℕ, ◌+◌, ◌<◌, List, length, arith, slice_get, Some}
use Rattle.std.specs.Global.{Global}
use Rattle.qs_base.specs.declared.identifiers.NodeNo.{NodeNo}
use Rattle.qs_book_journal.specs.declared.entry.Entry.{Entry}
use Rattle.qs_book_machine.specs.Lawful.{IsLawful}
use Rattle.qs_book_script.specs.declared.script.Script.{Script}
use Rattle.qs_disk.specs.Disk.{DiskState}
use Rattle.qs_node_step.specs.declared.trace.Step.{Step}
use Rattle.qs_slot.specs.Slot.{Present}
use Rattle.qs_world.specs.Histories.{book_of}
use Rattle.qs_world.specs.Openings.{IsOpening}
use Rattle.qs_world.specs.World.{Opening}
use Rattle.qs_world_merge.specs.MergedRuns.{untimed}
use Rattle.qs_world_nodes.proofs.Opened.{each_opening, inc_is}
use Rattle.qs_world_nodes.proofs.Places.{found}
use Rattle.qs_world_nodes.proofs.Telling.{each_cut_traced, each_ending_traced, each_refused_traced, each_rounds_traced}
use Rattle.qs_world_nodes.specs.Lawful.{CutShortIsLawful, EndingsAreLawful, NodesMayBegin, RefusedIsLawful, RoundsAreLawful}
use Rattle.qs_world_nodes.specs.Nodes.{plans_of}
use Rattle.qs_world_nodes.specs.Openings.{inc_by, log_by, opening_over}
use Rattle.qs_world_opening.specs.Scripts.{MayBegin}
use Rattle.qs_world_packets.specs.PacketLawful.{EachJournalLawful}
use Rattle.qs_world_rounds.specs.Rounds.{Cast}
use Rattle.qs_world_rounds.specs.Seats.{BeginsAt}
use Rattle.qs_world_rounds.specs.declared.rounds.Ending.{Ending}
use Rattle.qs_world_sites.specs.Seats.{HasBegun}
use Rattle.qs_world_sites.specs.Sites.{SitesValue}
use Rattle.qs_world_traces.specs.Traced.{IsTraced}
use Rattle.rand_pcg.specs.Lcg.{Lcg}

some : (a b c : ℕ) → a ≡ b → b ≡ c + 1 → 0 < a
some a b c same more = omega (arith, same, more)

module _ {D : Type 0} (told : Type 0) (state : D → DiskState) (own : D → ℕ) (alloc : Global) (script : Script) (disks : List D) (all : SitesValue D) (t : told) (begun : HasBegun told state own alloc script disks all) where
  -- each node has raised its log
  later : (n : ℕ) → n < length disks → 0 < inc_by (slice_get all.sites n)
  later n low = by (found disks n low) (found all.sites n (omega (arith, low, begun.count)))
    where
      at : (disk : D) (site : Cast D) → slice_get all.sites n ≡ Some site → BeginsAt told state own alloc script (length disks) (record { 0 = n }) disk site → 0 < inc_by (slice_get all.sites n)
      at disk site is b = let r = b.started.raised t in some _ _ r.present.value.inc (ap inc_by is ∙ inc_is told state own alloc script (length disks) n disk site b) (ap (λ (p : Present). p.value.inc) r.raised)

      by : (disk : D) × (slice_get disks n ≡ Some disk) → (site : Cast D) × (slice_get all.sites n ≡ Some site) → 0 < inc_by (slice_get all.sites n)
      by (disk, of_disk) (site, there) = at disk site there (begun.each n disk site of_disk there)

pub each_may_begin : {D : Type 0} → ((o : Opening) → MayBegin o) → (told : Type 0) (state : D → DiskState) (own : D → ℕ) (alloc : Global) (script : Script) (disks : List D) (all : SitesValue D) → NodesMayBegin told state own alloc script disks all
each_may_begin may told state own alloc script disks all t begun fits coherent =
    may (opening_over alloc script disks all.sites)
    (fits.opens alloc (λ n. inc_by (slice_get all.sites n)) (λ n. log_by (slice_get all.sites n)) (later told state own alloc script disks all t begun)) coherent

pub lawful_of : EachJournalLawful → (o : Opening) (plans : _) (journal : List Entry) (trace : List Step) → IsOpening o → IsTraced o plans journal trace → IsLawful (book_of o) journal
lawful_of lawful o plans journal trace opening traced =
    subst (IsLawful (book_of o)) traced.run.journal_is (lawful o (untimed traced.run.moves) traced.run.world opening traced.run.run)

pub each_rounds_lawful : {D : Type 0} → ((o : Opening) → MayBegin o) → EachJournalLawful → (told : Type 0) (state : D → DiskState) (own size : D → ℕ) (alloc : Global) (script : Script) (disks : List D) (rng : Lcg) (n : ℕ) (all new : SitesValue D) (later : Lcg)
    (journal : List Entry) (trace : List Step) → RoundsAreLawful told state own size alloc script disks rng n all new later journal trace
each_rounds_lawful may lawful told state own size alloc script disks rng n all new later journal trace t begun once fits coherent rounds entries steps =
    lawful_of lawful (opening_over alloc script disks all.sites) (plans_of script) journal trace (each_may_begin may told state own alloc script disks all t begun fits coherent)
    (each_rounds_traced told state own size alloc script disks (opening_over alloc script disks all.sites) rng n all new later t begun (each_opening told state own alloc script disks all begun once) rounds journal trace entries steps)

pub each_ending_lawful : {D : Type 0} → ((o : Opening) → MayBegin o) → EachJournalLawful → (told : Type 0) (state : D → DiskState) (own size : D → ℕ) (alloc : Global) (script : Script) (disks : List D) (seed : ℕ) (all new : SitesValue D) (ending : Ending)
    (journal : List Entry) (trace : List Step) → EndingsAreLawful told state own size alloc script disks seed all new ending journal trace
each_ending_lawful may lawful told state own size alloc script disks seed all new ending journal trace t begun once fits coherent ends entries steps =
    lawful_of lawful (opening_over alloc script disks all.sites) (plans_of script) journal trace (each_may_begin may told state own alloc script disks all t begun fits coherent)
    (each_ending_traced told state own size alloc script disks (opening_over alloc script disks all.sites) seed all new ending t begun (each_opening told state own alloc script disks all begun once) ends journal trace entries steps)

pub each_cut_lawful : {D : Type 0} → ((o : Opening) → MayBegin o) → EachJournalLawful → (told : Type 0) (state : D → DiskState) (own size : D → ℕ) (alloc : Global) (script : Script) (disks : List D) (seed : ℕ) (node : NodeNo) (all new : SitesValue D)
    (journal : List Entry) (trace : List Step) → CutShortIsLawful told state own size alloc script disks seed node all new journal trace
each_cut_lawful may lawful told state own size alloc script disks seed node all new journal trace t begun once fits coherent cut entries steps =
    lawful_of lawful (opening_over alloc script disks all.sites) (plans_of script) journal trace (each_may_begin may told state own alloc script disks all t begun fits coherent)
    (each_cut_traced told state own size alloc script disks (opening_over alloc script disks all.sites) seed node all new t begun (each_opening told state own alloc script disks all begun once) cut journal trace entries steps)

pub each_refused_lawful : {D : Type 0} → ((o : Opening) → MayBegin o) → EachJournalLawful → (told : Type 0) (state : D → DiskState) (own size : D → ℕ) (alloc : Global) (script : Script) (disks : List D) (seed : ℕ) (all new : SitesValue D)
    (journal : List Entry) (trace : List Step) → RefusedIsLawful told state own size alloc script disks seed all new journal trace
each_refused_lawful may lawful told state own size alloc script disks seed all new journal trace t begun once fits coherent out entries steps =
    lawful_of lawful (opening_over alloc script disks all.sites) (plans_of script) journal trace (each_may_begin may told state own alloc script disks all t begun fits coherent)
    (each_refused_traced told state own size alloc script disks (opening_over alloc script disks all.sites) seed all new t begun (each_opening told state own alloc script disks all begun once) out journal trace entries steps)
