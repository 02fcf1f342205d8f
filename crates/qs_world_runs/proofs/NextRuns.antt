-- After each run another may follow: the nodes begin over their logs in the incarnations after their last ones.
use Rattle.qs_world_runs.proofs.Words.{◌≡◌, ℕ, ◌+◌, ◌<◌, ◌==◌, ◌&&◌, nat_lt, true, refl, sym, subst, arith, nat_tests, Setting, client_count, IsOpening, each_below, is_age, is_audit, Opening, World, Joined, AlongRun}
use Rattle.qs_world.specs.Openings.{is_format, is_script, is_setting}
use Rattle.qs_world_refine.proofs.SoundParts.{and_both}
use Rattle.qs_world_lawful.proofs.CoherentOpenings.{each_is}
use Rattle.qs_world_runs.specs.CoherentAgain.{EachRunMayFollow, IsNextOpening, next_of, next_setting}
use Rattle.qs_world_runs.proofs.JoinedOver.{each_run_joined}
use Rattle.qs_world_runs.proofs.NextOpening.{each_run_coherent, each_so}
use Rattle.qs_world_runs.proofs.RunsGoOn.{runs_go}

above : (k : ℕ) → k < k + 1
above k = grind (arith)

later_some : (k : ℕ) → nat_lt 0 (k + 1) ≡ true
later_some k = grind (arith, nat_tests)

later_so : (size n inc : ℕ) (setting : Setting) → is_setting size n setting ≡ true → is_setting size n (next_setting setting inc) ≡ true
later_so size n inc setting is = rw (p.0, later_some inc, (and_both (nat_lt 0 setting.inc) _ p.1).1) refl
  where
    p : (((setting.node.0 == n) && (setting.nodes == size)) ≡ true) × ((nat_lt 0 setting.inc && (is_age setting.age && (is_format setting.extra setting.keep && is_audit size setting.audit))) ≡ true)
    p = and_both ((setting.node.0 == n) && (setting.nodes == size)) _ is

module _ (o : Opening) (world : World) (opens : IsOpening o) (size : world.size ≡ o.size) where
  low_of : (n : ℕ) → n < world.size → n < o.size
  low_of n low = subst (λ (s : ℕ). n < s) size low

  setting_so : (n : ℕ) → n < world.size → is_setting world.size n (next_setting (o.settings n) (world.channels.inc n)) ≡ true
  setting_so n low = subst (λ (s : ℕ). is_setting s n (next_setting (o.settings n) (world.channels.inc n)) ≡ true) (sym size)
      (later_so o.size n (world.channels.inc n) (o.settings n) (each_is o.size (λ n. is_setting o.size n (o.settings n)) opens.settings n (low_of n low)))

  is_next : IsNextOpening world (next_of o world)
  is_next = record {
    size = refl;
    logs = λ n low. refl;
    later = λ n low. above (world.channels.inc n);
    settings = each_so world.size (λ n. is_setting world.size n (next_setting (o.settings n) (world.channels.inc n))) setting_so;
    scripts = subst (λ (s : ℕ). each_below client_count (λ k. is_script s k (o.clients k)) ≡ true) (sym size) opens.scripts;
    labels = opens.labels;
  }

pub each_run_may_follow : EachRunMayFollow
each_run_may_follow o moves world opens run = each_run_coherent o moves world (next_of o world) opens run (is_next o world opens j.size)
  where
    j : Joined AlongRun o world
    j = each_run_joined AlongRun runs_go o moves world opens run
