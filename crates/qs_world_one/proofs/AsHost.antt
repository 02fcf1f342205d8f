-- A node over its log is a host of the world: by cases on whether the step forces.
use Rattle.std.proofs.Common.{◌≡◌, ◌∙◌, ap, subst, refl, sym, inl, inr, ℕ, Bool, true, false, List, [], ◌++◌}
use Rattle.std.proofs.lemmas.List.{append-nil}
use Rattle.std.specs.Global.{Global}
use Rattle.std.specs.Prelude.{if◌then◌else◌}
use Rattle.qs_node_kept.specs.Keeping.{no_kept}
use Rattle.qs_log.specs.Log.{LogValue, forced_of}
use Rattle.qs_record.specs.declared.record.Record.{Record}
use Rattle.qs_node_step.specs.Opening.{recovered_of, opened_node}
use Rattle.qs_node_step.specs.State.{NodeValue}
use Rattle.qs_node_step.specs.declared.event.Effects.{Effects}
use Rattle.qs_node_step.specs.declared.setting.Setting.{Setting}
use Rattle.qs_world.specs.World.{Host}
use Rattle.qs_world.specs.Moves.{stepped_host, cut_log}
use Rattle.qs_node_host.specs.Host as own
use Rattle.qs_node_host.specs.Host.{HostValue, HasForced, appended}
use Rattle.qs_world_one.specs.InWorld.{BeginsAsHost, RisesAsHost, HasRecords, IsCutAsHost, host_of}

-- none waits as it begins
pub begins : {D : Type 0} (alloc : Global) (setting : Setting) (log : LogValue D) → BeginsAsHost alloc setting log
begins alloc setting log none =
    ap (λ (waiting : List Record). host_at (log.forced ++ waiting) waiting) none
    ∙ ap (λ (all : List Record). host_at all []) (append-nil log.forced)
  where
    host_at : List Record → List Record → Host
    host_at all waiting = record { node = opened_node alloc setting (recovered_of all) no_kept; log = log.forced; waiting = waiting; stamp = 0 }

-- what stands and what waits after a step
pub stepped : {D : Type 0} (before stamp : ℕ) (host : HostValue D) (node : NodeValue) (out : Effects)
    → host_of stamp (record { node = node; log = own.log_after out host.log }) ≡ stepped_host stamp node out (host_of before host)
stepped before stamp host node out = by out.force refl
  where
    by : (force : Bool) → out.force ≡ force
        → host_of stamp (record { node = node; log = own.log_after out host.log }) ≡ stepped_host stamp node out (host_of before host)
    by true due = rw due refl
    by false due = rw due refl

-- what a cut leaves
pub cut : {D : Type 0} (stamp : ℕ) (out : Effects) (host : HostValue D) → IsCutAsHost stamp out host
cut stamp out host image (inl old) = inl (host.log.used, old)
cut stamp out host image (inr after) = inr (by out.force refl)
  where
    by : (force : Bool) → out.force ≡ force → HasRecords host.log (cut_log (host_of stamp host) true out) image
    by true due = rw due (_, subst (λ (force : Bool). HasForced (if force then forced_of (appended out.records host.log) else appended out.records host.log) image) due after)
    by false due = rw due (_, subst (λ (force : Bool). HasForced (if force then forced_of (appended out.records host.log) else appended out.records host.log) image) due after)

-- what a node begins again with
pub rises : {D : Type 0} (stamp inc : ℕ) (before : Host) (log : LogValue D) → RisesAsHost stamp inc before log
rises stamp inc before log forced waiting none =
    ap (λ (all : List Record). host_with (log.forced ++ all) log.forced all) waiting
    ∙ ap (λ (all : List Record). host_with all log.forced []) (append-nil log.forced)
    ∙ ap (λ (all : List Record). host_with all all []) forced
    ∙ ap (λ (all : List Record). host_with before.log before.log all) (sym none)
  where
    host_with : List Record → List Record → List Record → Host
    host_with all stood left = record {
      node = opened_node before.node.manager.alloc (record before.node.setting { inc = inc }) (recovered_of all) before.node.kept.saved;
      log = stood;
      waiting = left;
      stamp = stamp;
    }
