-- The invariant holds after every run.
use Rattle.std.proofs.Common.{◌≡◌, ℕ, ◌∷◌, List, refl, sym, subst, arith, [], ◌∙◌}
use Rattle.std.proofs.lemmas.Bool.Decides.{nat_tests}
use Rattle.qs_world_agree.specs.World.{World, Opening, IsOpening, start}
use Rattle.qs_world_agree.specs.Step.{Event, Step}
use Rattle.qs_world_agree.specs.Laws.{Run}
use Rattle.qs_world_agree.proofs.At.{At}
use Rattle.qs_world_agree.proofs.Kept.{Kept}
use Rattle.qs_world_agree.proofs.Whole.{Inv, Whole}
use Rattle.qs_world_agree.proofs.StepTable.{counts_step, involved_step, keeps_step, kept_step, outcomes_step, servers_step, still}
use Rattle.qs_world_agree.proofs.WholeTable.{whole_step}

-- after one step
pub inv_step : (e : Event) (w v : World) → Inv w → Step e w v → Inv v
inv_step e w v i s = record {
  counts = counts_step e w v i.counts s;
  servers = λ k j. servers_step e w v k j (i.servers k j) s;
  involved = λ k j. involved_step e w v k j i.counts (i.involved k j) s;
  keeps = λ k. keeps_step e w v k i.counts i.keeps s;
  outcomes = outcomes_step e w v i.keeps i.outcomes s;
  whole = λ a. let b = still e w v i.keeps s a in whole_step e w v i.counts i.servers i.outcomes i.keeps (i.whole b) b a s;
}

-- after a run
pub inv_run : (es : List Event) (w v : World) → Inv w → Run w es v → Inv v
inv_run [] w v i r = subst Inv (sym r) i
inv_run (e ∷ es) w v i r = inv_run es r.0 v (inv_step e w r.0 i r.1) r.2

-- at the start
whole_start : (o : Opening) → IsOpening o → Whole (start o)
whole_start o is = record {
  places = grind (arith, nat_tests);
  arrivals = λ i j l. grind (arith, nat_tests);
  tree = record { home = grind (arith, nat_tests, is.up_present o.home is.home_up); at = λ k. at_start o k (is.up_present o.home is.home_up) };
  bond = λ k. grind (arith, nat_tests);
  held = λ n. grind (arith, nat_tests);
  owed = λ n. grind (arith, nat_tests);
  silent = grind (arith, nat_tests);
  orphans = grind (arith, nat_tests);
  doubt = λ k. grind (arith, nat_tests);
  prepares = λ k i. grind (arith, nat_tests);
  logged = λ n i. grind (arith, nat_tests);
  knows = λ k. grind (arith, nat_tests);
  asks = λ k j. grind (arith, nat_tests);
}
  where
    at_start : (o : Opening) (k : ℕ) → o.present (o.node o.home) ≡ o.home → At (start o) k
    at_start o k is = grind (arith, nat_tests)

pub inv_start : (o : Opening) → IsOpening o → Inv (start o)
inv_start o is = record {
  counts = grind (arith, nat_tests, is);
  servers = λ k i. grind (arith, nat_tests);
  involved = λ k i. grind (arith, nat_tests);
  keeps = λ k. grind (arith, nat_tests, is.up_present o.home is.home_up);
  outcomes = grind (arith, nat_tests);
  whole = λ a. whole_start o is;
}

-- a place that knows abort keeps to it over a run
pub kept_run : (es : List Event) (w v : World) (k : ℕ) → Inv w → Run w es v → Kept w v k
kept_run [] w v k i r = subst (λ (x : World). Kept w x k) (sym r) (record { known = λ is. is; served = λ j is. refl; voted = λ j is. refl })
kept_run (e ∷ es) w v k i r =
    let first : Kept w r.0 k = kept_step e w r.0 k i.keeps r.1 in
    let rest : Kept r.0 v k = kept_run es r.0 v k (inv_step e w r.0 i r.1) r.2 in
    record {
      known = λ is. rest.known (first.known is);
      served = λ j is. rest.served j (first.known is) ∙ first.served j is;
      voted = λ j is. rest.voted j (first.known is) ∙ first.voted j is;
    }
