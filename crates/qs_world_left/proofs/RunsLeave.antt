-- A next opening over what a run of packets leaves is one over the world of channels that shows it.
use Rattle.std.proofs.Common.{◌≡◌, ap, refl, subst, sym, ℕ, ◌<◌, zero, suc, true, List, [], ◌++◌, arith, nat_le, nat_lt}
use Rattle.std.specs.Global.{Global}
use Rattle.std.proofs.lemmas.Bool.Decides.{nat_tests}
use Rattle.qs_record.specs.declared.record.Record.{Record}
use Rattle.qs_session_channels.specs.Channels.{Channels}
use Rattle.qs_world.specs.Moves.{client_count}
use Rattle.qs_world.specs.Openings.{IsOpening, all_below, are_apart, each_below, is_script, is_setting, labels_begun}
use Rattle.qs_world.specs.World.{Opening, Parcel}
use Rattle.qs_world_left.specs.Packets.{AreLeft, EachRunCoherent, EachRunLeavesCoherent, IsNextOpening}
use Rattle.qs_world_opening.proofs.Tests.{both, each_so, itself, parts}
use Rattle.qs_world_opening.specs.Coherent.{bare_setting, over_logs}
use Rattle.qs_world_packets.proofs.OpensWithin.{opens_alike}
use Rattle.qs_world_packets.proofs.RunsGo.{each_run_shown}
use Rattle.qs_world_packets.specs.PacketLaws.{BeginsAlike, IsRunOf}
use Rattle.qs_world_packets.specs.PacketMoves.{Move}
use Rattle.qs_world_packets.specs.PacketRuns.{Run}
use Rattle.qs_world_packets.specs.PacketWorld.{PacketWorld, over, start, within}
use Rattle.qs_world_packets.specs.WorldShown.{ShowsWorld, run_moves}
use Rattle.qs_world_runs.proofs.JoinedOver.{each_run_joined}
use Rattle.qs_world_runs.proofs.NextOpening as channelled
use Rattle.qs_world_runs.proofs.RunsGoOn.{runs_go}
use Rattle.qs_world_runs.specs.AlongRun.{AlongRun}
use Rattle.qs_world_runs.specs.CoherentAgain as again
use Rattle.qs_world_runs.specs.Joined.{Joined}

next_over : (world : PacketWorld) (channels : Channels Parcel) (next : Opening) → ShowsWorld world channels → IsNextOpening world next → again.IsNextOpening (over world channels) next
next_over world channels next shown is = record {
  size = is.size;
  logs = is.left.same;
  later = λ n low. subst (λ (k : ℕ). k < (next.settings n).inc) (sym (ap (λ (f : ℕ → ℕ). f n) shown.shows.inc)) (is.left.later n low);
  settings = is.settings;
  scripts = is.scripts;
  labels = is.labels;
}

module _ (o : Opening) (moves : List Move) (world : PacketWorld) (opens : IsOpening o) (run : Run (start o) moves world) where
  r : IsRunOf o moves world
  r = each_run_shown o moves world opens run

  alike : BeginsAlike o
  alike = opens_alike o opens

  next_opens : (next : Opening) → IsNextOpening world next → IsOpening next
  next_opens next is = channelled.each_run_coherent (within o) (run_moves (start o) moves) (over world r.channels) next alike.opens r.run (next_over world r.channels next r.shown is)

  joined : Joined AlongRun (within o) (over world r.channels)
  joined = each_run_joined AlongRun runs_go (within o) (run_moves (start o) moves) (over world r.channels) alike.opens r.run

  same : world.size ≡ o.size
  same = joined.size

  some_node : nat_lt 0 world.size ≡ true
  some_node = by world.size o.size same (parts (nat_le 1 o.size) _ opens.size).0
    where
      by : (a b : ℕ) → a ≡ b → nat_le 1 b ≡ true → nat_lt 0 a ≡ true
      by a b same least = grind (arith, nat_tests, same, least)

pub same_size : (o : Opening) (moves : List Move) (world : PacketWorld) → IsOpening o → Run (start o) moves world → world.size ≡ o.size
same_size o moves world opens run = same o moves world opens run

pub each_run_coherent : EachRunCoherent
each_run_coherent o moves world next opens run is = next_opens o moves world opens run next is

-- ---- without clients

no_lines : (size n : ℕ) → nat_lt 0 size ≡ true → each_below n (λ k. is_script size k (0, [])) ≡ true
no_lines size n some = each_so n (λ k. is_script size k (0, [])) (λ k low. both (nat_lt 0 size) true some refl)

no_labels : (n : ℕ) → all_below n (λ k. labels_begun []) ≡ []
no_labels zero = refl
no_labels (suc n) = ap (λ (l : List (List ℕ)). l ++ []) (no_labels n)

bare_so : (size : ℕ) (incs : ℕ → ℕ) (n : ℕ) → nat_lt 0 (incs n) ≡ true → is_setting size n (bare_setting size incs n) ≡ true
bare_so size incs n some = rw (itself n, itself size, some) refl

bare_next : (alloc : Global) (world : PacketWorld) (incs : ℕ → ℕ) (logs : ℕ → List Record) → nat_lt 0 world.size ≡ true → AreLeft world incs logs → IsNextOpening world (over_logs alloc world.size incs logs)
bare_next alloc world incs logs some left = record {
  size = refl;
  left = left;
  settings = each_so world.size (λ n. is_setting world.size n (bare_setting world.size incs n)) (λ n low. bare_so world.size incs n (above (world.network.inc n) (incs n) (left.later n low)));
  scripts = no_lines world.size client_count some;
  labels = ap are_apart (no_labels client_count);
}
  where
    above : (a b : ℕ) → a < b → nat_lt 0 b ≡ true
    above a b is = grind (arith, nat_tests, is)

pub each_leaves_coherent : EachRunLeavesCoherent
each_leaves_coherent o moves world alloc incs logs opens run left = record { logs = next.logs; votes = next.votes; unended = next.unended; whole = next.whole }
  where
    next : IsOpening (over_logs alloc world.size incs logs)
    next = each_run_coherent o moves world (over_logs alloc world.size incs logs) opens run (bare_next alloc world incs logs (some_node o moves world opens run) left)
