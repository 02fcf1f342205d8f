-- What holds of all sites, and is kept by a visit of one of them, be it of its node or of a client, and as lanes and links are carried, is kept by rounds, to
-- their end; also where a restart that fails cuts one short, if that keeps it too.
use Rattle.std.proofs.Common.{◌≡◌, inl, inr, refl, subst, sym, ℕ, zero, suc, ◌-◌, Bool, List, [], ◌∷◌, Option, Some, None, slice_get, slice_set}
use Rattle.qs_base.specs.declared.identifiers.NodeNo.{NodeNo}
use Rattle.qs_book_script.specs.declared.script.Script.{Script}
use Rattle.qs_disk.specs.Disk.{DiskState}
use Rattle.qs_world_plans.specs.Order.{drawn_order, seeded}
use Rattle.qs_world_rounds.specs.Breaks as one
use Rattle.qs_world_rounds.specs.Rounds as one_rounds
use Rattle.qs_world_rounds.specs.Rounds.{Cast}
use Rattle.qs_world_rounds.specs.declared.rounds.Ending.{Ending}
use Rattle.qs_world_sites.specs.Breaks as breaks
use Rattle.qs_world_sites.specs.Breaks.{BreaksRound, VisitsUntil}
use Rattle.qs_world_sites.specs.Endings.{IsCutShort, IsEnding}
use Rattle.qs_world_sites.specs.Rounds as sites
use Rattle.qs_world_sites.specs.Rounds.{IsRound, Rounds, VisitAll}
use Rattle.qs_world_sites.specs.Sites.{AreCarried, SitesValue, count_of}
use Rattle.qs_world_sites.specs.declared.turn.Turn.{Turn}
use Rattle.rand_pcg.specs.Lcg.{Lcg}

module _ {D : Type 0} (told : Type 0) (state : D → DiskState) (own size : D → ℕ) (P : List (Cast D) → Type 0) where
  all_as : (old news : List (Cast D)) → news ≡ old → P old → P news
  all_as old news same was = subst P (sym same) was

  -- ---- visits

  module _ (visit : (old : List (Cast D)) (k place : ℕ) (site after : Cast D) (did : Bool) → slice_get old k ≡ Some site → one_rounds.VisitAt told state own size place site after did → P old → P (slice_set old k after)) where
    of_site : (turn : Turn) (c : Option (Cast D)) (olds news : List (Cast D)) (did : Bool) → slice_get olds turn.site ≡ c → sites.VisitOfSite told state own size turn c olds news did → P olds → P news
    of_site turn None olds news did got visited was = all_as olds news visited.0 was
    of_site turn (Some site) olds news did got (after, (visited, is)) was = all_as (slice_set olds turn.site after) news is (visit olds turn.site turn.place site after did got visited was)

    of_turn : (turn : Option Turn) (olds news : List (Cast D)) (did : Bool) → sites.VisitOfTurn told state own size turn olds news did → P olds → P news
    of_turn None olds news did visited was = all_as olds news visited.0 was
    of_turn (Some turn) olds news did visited was = of_site turn (slice_get olds turn.site) olds news did refl visited was

    pub visit_keeps : (place : ℕ) (old new : SitesValue D) (did : Bool) → sites.VisitAt told state own size place old new did → P old.sites → P new.sites
    visit_keeps place old new did (visited, turns) was = of_turn (slice_get old.turns place) old.sites new.sites did visited was

    pub visits_keep : (places : List ℕ) (old new : SitesValue D) (did : Bool) → VisitAll told state own size places old new did → P old.sites → P new.sites
    visits_keep [] old new did visits was = subst (λ (s : SitesValue D). P s.sites) (sym visits.0) was
    visits_keep (place ∷ places) old new did (mid, (first, (more, (visited, (rest, is))))) was = visits_keep places mid new more rest (visit_keeps place old mid first visited was)

    -- ---- rounds

    module _ (carry : (old new : List (Cast D)) → AreCarried old new → P old → P new) where
      pub round_keeps : (order : List ℕ) (old new : SitesValue D) (quiet : Bool) → IsRound told state own size order old new quiet → P old.sites → P new.sites
      round_keeps order old new quiet r was = visits_keep order r.carried new r.did r.visits (carry old.sites r.carried.sites r.carries was)

      pub rounds_keep : (rng : Lcg) (n : ℕ) (old new : SitesValue D) (later : Lcg) → Rounds told state own size rng n old new later → P old.sites → P new.sites
      rounds_keep rng zero old new later rounds was = subst (λ (s : SitesValue D). P s.sites) (sym rounds.0) was
      rounds_keep rng (suc n) old new later (mid, (quiet, (first, rest))) was =
          rounds_keep (drawn_order (count_of old) rng).1 n mid new later rest (round_keeps (drawn_order (count_of old) rng).0 old mid quiet first was)

      pub ending_keeps : (script : Script) (seed : ℕ) (old new : SitesValue D) (ending : Ending) → IsEnding told state own size script seed old new ending → P old.sites → P new.sites
      ending_keeps script seed old new ending is was = round_keeps (drawn_order (count_of is.ends.before) is.ends.drawn).0 is.ends.before new is.quiet is.ends.last
          (rounds_keep (seeded seed) (ending.rounds - 1) old is.ends.before is.ends.drawn is.ends.earlier was)

      -- ---- one that is cut short

      module _ (fail : (old : List (Cast D)) (k place : ℕ) (site after : Cast D) → slice_get old k ≡ Some site → one.FailsAt told state own size place site after → P old → P (slice_set old k after)) where
        failed_site : (node : NodeNo) (turn : Turn) (c : Option (Cast D)) (olds news : List (Cast D)) → slice_get olds turn.site ≡ c → breaks.OfSite (breaks.FailsHere told state own size node) turn c olds news → P olds → P news
        failed_site node turn None olds news got fails was = absurd fails
        failed_site node turn (Some site) olds news got (after, (fails, is)) was = all_as (slice_set olds turn.site after) news is (fail olds turn.site turn.place site after got fails.fails was)

        failed_turn : (node : NodeNo) (turn : Option Turn) (olds news : List (Cast D)) → breaks.OfTurn (breaks.FailsHere told state own size node) turn olds news → P olds → P news
        failed_turn node None olds news fails was = absurd fails
        failed_turn node (Some turn) olds news fails was = failed_site node turn (slice_get olds turn.site) olds news refl fails was

        until : (node : NodeNo) (places : List ℕ) (old new : SitesValue D) → VisitsUntil told state own size (breaks.FailsAt told state own size node) places old new → P old.sites → P new.sites
        until node [] old new visits was = absurd visits
        until node (place ∷ places) old new (inl (fails, turns)) was = failed_turn node (slice_get old.turns place) old.sites new.sites fails was
        until node (place ∷ places) old new (inr (mid, (did, (visited, rest)))) was = until node places mid new rest (visit_keeps place old mid did visited was)

        pub broken_keeps : (order : List ℕ) (node : NodeNo) (old new : SitesValue D) → BreaksRound told state own size order node old new → P old.sites → P new.sites
        broken_keeps order node old new b was = until node order b.carried new b.visits (carry old.sites b.carried.sites b.carries was)

        pub cut_keeps : (seed : ℕ) (node : NodeNo) (old new : SitesValue D) → IsCutShort told state own size seed node old new → P old.sites → P new.sites
        cut_keeps seed node old new is was = broken_keeps (drawn_order (count_of is.before) is.drawn).0 node is.before new is.broken (rounds_keep (seeded seed) is.rounds old is.before is.drawn is.earlier was)
