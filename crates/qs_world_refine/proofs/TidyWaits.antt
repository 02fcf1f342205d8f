-- A node in the middle of a step stays tidy through each change of what waits.
use Rattle.qs_world_refine.proofs.Words.{◌≡◌, ◌==◌, Bool, true, false, List, [], ◌∷◌, drop, Option, Some, None, refl, ◌∙◌, nat_lt, if◌then◌else◌, list_all, is_at, insert_entry, lookup, set_value, NodeNo, ServerNo, Tid, IpcValue, server_cmp, QueueValue, added, after_first, no_queue, mark_stale, Delivery, NodeValue, Work, with_queues, drop_counts, Stage, IsTidy, IsTidyNode, is_begun_delivery, is_begun_queue, are_servers_apart}
use Rattle.qs_ipc.specs.Ipc as ipc
use Rattle.qs_ipc.specs.Queue as queue
use Rattle.qs_world_refine.proofs.Entries.{found_passes, all_changed_value, all_inserted, all_mapped, all_set_value, apart_set, apart_put, apart_mapped}
use Rattle.qs_world_refine.proofs.SoundBegin.{all_last}
use Rattle.qs_world_refine.proofs.SoundParts.{and_both, both_and}

module _ (c : Stage) where
  -- the node is changed, and nothing is done
  pub node_tidy : (work : Work) (node : NodeValue) → node.is_first ≡ work.node.is_first → IsTidyNode c node → IsTidy c work → IsTidy c (record work { node = node })
  node_tidy work node first is t = record { node = is; begun = first ∙ t.begun; out = record { messages = t.out.messages; records = t.out.records } }

  -- ---- what waits

  with_waiting : (work : Work) (queues : IpcValue) → are_servers_apart queues ≡ true → list_all (is_begun_queue c) queues ≡ true → IsTidy c work → IsTidy c (with_queues (λ old. queues) work)
  with_waiting work queues apart all t = node_tidy work (record work.node { queues = queues }) refl (record {
    setting = t.node.setting;
    own = t.node.own;
    inc = t.node.inc;
    count = t.node.count;
    ordered = t.node.ordered;
    known = t.node.known;
    apart = apart;
    waiting = all;
    labels = t.node.labels;
    loans = t.node.loans;
    outcomes = t.node.outcomes;
    commands = t.node.commands;
    kinds = t.node.kinds;
    committed = t.node.committed;
    crossed = record { owned = t.node.crossed.owned; commits = t.node.crossed.commits; fresh = t.node.crossed.fresh; pasts = t.node.crossed.pasts; earlier = t.node.crossed.earlier };
  }) t

  pub enqueue_tidy : (server : ServerNo) (delivery : Delivery) (work : Work) → c.begun delivery.tid ≡ true → IsTidy c work → IsTidy c (with_queues (ipc.enqueue server delivery) work)
  enqueue_tidy server delivery work begun t = with_waiting work (ipc.enqueue server delivery work.node.queues) (by (lookup (is_at (server_cmp server)) work.node.queues) refl).0 (by (lookup (is_at (server_cmp server)) work.node.queues) refl).1 t
    where
      after : Option QueueValue → IpcValue
      after o = elim o [
        | None ↦ insert_entry server_cmp work.node.queues server (added delivery no_queue)
        | Some queue ↦ set_value (is_at (server_cmp server)) work.node.queues (added delivery queue)
      ]

      by : (o : Option QueueValue) → lookup (is_at (server_cmp server)) work.node.queues ≡ o → (are_servers_apart (after o) ≡ true) × (list_all (is_begun_queue c) (after o) ≡ true)
      by None none = (
        apart_put server (added delivery no_queue) work.node.queues none t.node.apart,
        all_inserted server_cmp (is_begun_queue c) server (added delivery no_queue) (λ l. both_and (c.begun delivery.tid) true begun refl) work.node.queues t.node.waiting,
      )
      by (Some queue) found = (
        apart_set server (added delivery queue) work.node.queues ∙ t.node.apart,
        let it : (k : ServerNo) × (is_begun_queue c (k, queue) ≡ true) = found_passes (is_at (server_cmp server)) (is_begun_queue c) work.node.queues queue found t.node.waiting in
            all_set_value (is_at (server_cmp server)) (is_begun_queue c) (added delivery queue) (λ l. all_last (is_begun_delivery c) queue.waiting delivery it.1 begun) work.node.queues t.node.waiting,
      )

  all_dropped : (ds : List Delivery) → list_all (is_begun_delivery c) ds ≡ true → list_all (is_begun_delivery c) (drop 1 ds) ≡ true
  all_dropped [] all = refl
  all_dropped (d ∷ ds) all = (and_both (is_begun_delivery c d) (list_all (is_begun_delivery c) ds) all).1

  pub next_tidy : (server : ServerNo) (work : Work) → IsTidy c work → IsTidy c (with_queues (ipc.after_next server) work)
  next_tidy server work t = with_waiting work (ipc.after_next server work.node.queues) (apart (lookup (is_at (server_cmp server)) work.node.queues))
      (all_changed_value (is_at (server_cmp server)) (is_begun_queue c) after_first (λ k l queue its. all_dropped queue.waiting its) work.node.queues t.node.waiting) t
    where
      apart : (o : Option QueueValue) → are_servers_apart (elim o [ None ↦ work.node.queues | Some v ↦ set_value (is_at (server_cmp server)) work.node.queues (after_first v) ]) ≡ true
      apart None = t.node.apart
      apart (Some queue) = apart_set server (after_first queue) work.node.queues ∙ t.node.apart

  pub drop_tidy : (tid : Tid) (work : Work) → IsTidy c work → IsTidy c (with_queues (drop_counts tid) work)
  drop_tidy tid work t = by (ipc.waits tid work.node.queues)
    where
      kept : (e : ServerNo × QueueValue) → (ipc.forgotten_below ipc.servers tid e).0 ≡ e.0
      kept e = at (nat_lt e.0.0 ipc.servers)
        where
          at : (b : Bool) → (if b then (e.0, queue.forgotten tid e.1) else e).0 ≡ e.0
          at true = refl
          at false = refl

      still : (e : ServerNo × QueueValue) → is_begun_queue c e ≡ true → is_begun_queue c (ipc.forgotten_below ipc.servers tid e) ≡ true
      still e is = at (nat_lt e.0.0 ipc.servers)
        where
          at : (b : Bool) → is_begun_queue c (if b then (e.0, queue.forgotten tid e.1) else e) ≡ true
          at true = is
          at false = is

      by : (b : Bool) → IsTidy c (with_queues (λ queues. if b then queues else ipc.forget tid queues) work)
      by true = with_waiting work work.node.queues t.node.apart t.node.waiting t
      by false = with_waiting work (ipc.forget tid work.node.queues) (apart_mapped (ipc.forgotten_below ipc.servers tid) kept work.node.queues ∙ t.node.apart)
          (all_mapped (is_begun_queue c) (ipc.forgotten_below ipc.servers tid) still work.node.queues t.node.waiting) t

  pub mark_tidy : (peer : NodeNo) (work : Work) → IsTidy c work → IsTidy c (with_queues (ipc.mark_queues peer) work)
  mark_tidy peer work t = with_waiting work (ipc.mark_queues peer work.node.queues) (apart_mapped (ipc.mark_queue peer) (λ e. refl) work.node.queues ∙ t.node.apart)
      (all_mapped (is_begun_queue c) (ipc.mark_queue peer) (λ e is. all_mapped (is_begun_delivery c) (mark_stale peer) stale e.1.waiting is) work.node.queues t.node.waiting) t
    where
      stale : (d : Delivery) → is_begun_delivery c d ≡ true → is_begun_delivery c (mark_stale peer d) ≡ true
      stale d is = by (d.from.0 == peer.0)
        where
          by : (b : Bool) → is_begun_delivery c (if b then record d { stale = true } else d) ≡ true
          by true = is
          by false = is
