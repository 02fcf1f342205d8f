-- Where nothing waits at a server, taking the first request from its queue changes nothing.
use Rattle.std.proofs.Common.{◌≡◌, ◌∙◌, refl, ap, List, [], ◌∷◌, drop}
use Rattle.std.specs.Prelude.{Option, Some, None, unwrap_or}
use Rattle.std.specs.Map.{lookup, set_value}
use Rattle.std.specs.BTreeMap.{is_at}
use Rattle.std.proofs.lemmas.Map.Steps.{set_value_same}
use Rattle.qs_base.specs.declared.identifiers.ServerNo.{ServerNo}
use Rattle.qs_base.specs.declared.identifiers.Tid.{Tid}
use Rattle.qs_ipc.specs.declared.delivery.Delivery.{Delivery}
use Rattle.qs_ipc.specs.declared.queue.QueueCounts.{QueueCounts}
use Rattle.qs_ipc.specs.Queue.{QueueValue, no_queue, first_of, first, counts_after, after_first}
use Rattle.qs_ipc.specs.Ipc.{IpcValue, server_cmp, next, after_next}

abbrev queue_of : List Delivery → List (Tid × QueueCounts) → QueueValue
queue_of waiting counts = record { waiting = waiting; counts = counts }

none_first : (waiting : List Delivery) (counts : List (Tid × QueueCounts)) → first_of waiting ≡ None
    → queue_of (drop 1 waiting) (counts_after waiting counts) ≡ queue_of waiting counts
none_first [] counts h = refl
none_first (delivery ∷ rest) counts h = absurd (cc)

pub none_taken : (server : ServerNo) (ipc : IpcValue) → next server ipc ≡ None → after_next server ipc ≡ ipc
none_taken server ipc h = by (lookup (is_at (server_cmp server)) ipc) refl h
  where
    by : (o : Option QueueValue) → lookup (is_at (server_cmp server)) ipc ≡ o → first (unwrap_or o no_queue) ≡ None
        → elim o [ None ↦ ipc | Some queue ↦ set_value (is_at (server_cmp server)) ipc (after_first queue) ] ≡ ipc
    by None at h = refl
    by (Some queue) at h =
        ap (set_value (is_at (server_cmp server)) ipc) (none_first queue.waiting queue.counts h)
        ∙ set_value_same (is_at (server_cmp server)) ipc queue at
