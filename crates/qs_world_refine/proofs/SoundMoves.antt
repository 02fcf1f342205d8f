-- Each move of the world leaves the nodes sound, as far as a node is seen without its log.
use Rattle.qs_world_refine.proofs.Words.{◌≡◌, ℕ, ◌<◌, ◌==◌, Bool, true, false, Option, Some, None, refl, subst, if◌then◌else◌, eqb-true, recovery, recovered_of, after_step, effects_of, Host, Cut, Stop, Rise, event_of, step_with, cut_with, stepped_host, stopped_host, risen_host, cut_log, is_sound, MayStep}
use Rattle.qs_session_channels.specs.Network.{with_at}
use Rattle.qs_node_step.specs.declared.event.Event.{Event}
use Rattle.qs_world.specs.Moves.{Step, Meet}
use Rattle.qs_world_refine.specs.SoundMoves.{AreSound, MoveSound}
use Rattle.qs_world_refine.proofs.SoundLogs.{restart_sound}
use Rattle.qs_world_refine.proofs.SoundStep.{step_sound}

-- one host changes
hosts_sound : (size : ℕ) (hosts : ℕ → Host) (n : ℕ) (host : Host) → ((m : ℕ) → m < size → is_sound (hosts m).node ≡ true) → (n < size → is_sound host.node ≡ true)
    → (m : ℕ) → m < size → is_sound (with_at hosts n host m).node ≡ true
hosts_sound size hosts n host all its m low = by (m == n) refl
  where
    by : (b : Bool) → (m == n) ≡ b → is_sound (if b then host else hosts m).node ≡ true
    by true same = its (subst (λ (k : ℕ). k < size) (eqb-true m n same) low)
    by false apart = all m low

pub move_sound : MoveSound
move_sound world (Step n stamp free source) may all = by (event_of world n stamp source) may
  where
    by : (o : Option Event) → MayStep world n free o → AreSound (step_with world n stamp free source o)
    by None may = all
    by (Some event) may = hosts_sound world.size world.hosts n (stepped_host stamp (after_step (world.hosts n).node event free) (effects_of (world.hosts n).node event free) (world.hosts n)) all (λ low. step_sound (world.hosts n).node event free may.0 may.1 (all n low))
move_sound world (Cut n stamp free source is_kept cause) may all = by (event_of world n stamp source)
  where
    by : (o : Option Event) → AreSound (cut_with world n stamp free is_kept cause o)
    by None = all
    by (Some event) = hosts_sound world.size world.hosts n (stopped_host stamp (cut_log (world.hosts n) is_kept (effects_of (world.hosts n).node event free)) (world.hosts n)) all (all n)
move_sound world (Stop n stamp cause) may all = hosts_sound world.size world.hosts n (stopped_host stamp (world.hosts n).log (world.hosts n)) all (all n)
move_sound world (Rise n stamp inc) may all = hosts_sound world.size world.hosts n (risen_host stamp inc (recovered_of (world.hosts n).log) (world.hosts n)) all (λ low. restart_sound inc (recovery (world.hosts n).log) (world.hosts n).node may.0 may.1.0 may.1.1 (all n low))
move_sound world (Meet n stamp m inc) may all = hosts_sound world.size world.hosts n (record (world.hosts n) { stamp = stamp }) all (all n)
