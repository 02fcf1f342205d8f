-- All that waits is served: what is of another leaves it, and each of its own counts as served, or it is doomed.
use Rattle.qs_world_runs.proofs.Words.{◌≡◌, ◌⊎◌, inl, inr, ℕ, ◌+◌, ◌&&◌, Bool, true, false, Option, Some, None, refl, sym, ap, ◌∙◌, arith, if◌then◌else◌, nat_tests, same_tid, ServerNo, Tid, Delivery, BookValue, Reply, reply_here, serve, serve_all, serve_next, serve_or_drop, Work, with_queues, IsDoomed, same_is, Field, LeavesPlaces, ServesWell}
use Rattle.qs_ipc.specs.Ipc as ipc
use Rattle.qs_ipc.specs.Queue.{is_of}
use Rattle.qs_node_step.specs.Serving.{may_serve}
use Rattle.qs_world_lawful.specs.Face.{is_numbered}
use Rattle.qs_world_runs.specs.PlacesGo.{Goes}
use Rattle.qs_world_runs.specs.PlacesWhole.{ServeAllGoes}
use Rattle.qs_world_runs.proofs.CountedQueues.{count_left}
use Rattle.qs_world_runs.proofs.LeftRequests.{served_leaves}
use Rattle.qs_world_runs.proofs.PlacedServe.{serve_placed}
use Rattle.qs_world_runs.proofs.PlacedServes.{one_if}
use Rattle.qs_world_runs.proofs.PlacesGo.{beside, goes_by, goes_fold, goes_itself, goes_left, is_beside}
use Rattle.qs_world_runs.proofs.PlacesLeft.{queues_leave, then_leaves}

-- what leaves a queue is another's
next_leaves : (u : Tid) (server : ServerNo) (d : Delivery) (work : Work) → ipc.next server work.node.queues ≡ Some d → same_tid d.tid u ≡ false → LeavesPlaces u work (with_queues (ipc.after_next server) work)
next_leaves u server d work first far = queues_leave u (ipc.after_next server) work (λ at s. sym (none _ _ _ (count_left u at work.node.queues server d first s) (ap one_if (off _ (is_numbered at d)))))
  where
    turned : same_tid u d.tid ≡ false
    turned = flip d.tid u far
      where
        flip : (a b : Tid) → same_tid a b ≡ false → same_tid b a ≡ false
        flip a b e = grind (arith, nat_tests, e)

    off : (a b : Bool) → (a && (is_of u d && b)) ≡ false
    off true b = rw turned refl
    off false b = refl

    none : (a b c : ℕ) → a ≡ b + c → c ≡ 0 → a ≡ b
    none a b c p q = omega (arith, p, q)

module _ (D : Type 0) (t : Tid) (base : Field) (knows : ℕ → ℕ) (n stamp : ℕ) (before : BookValue) where
  abbrev G : Work → Work → Type 0
  G work new = Goes D t base knows n stamp before work new

  module _ (work : Work) (server : ServerNo) (d : Delivery) (first : ipc.next server work.node.queues ≡ Some d) where
    abbrev left : Work
    left = with_queues (ipc.after_next server) work

    -- of another
    other_goes : same_tid d.tid t ≡ false → G work (serve_or_drop server d left)
    other_goes far = by (may_serve d.tid left)
      where
        popped : LeavesPlaces t work left
        popped = next_leaves t server d work first far

        replied : (o : Option Reply) → G work (elim o [ None ↦ left | Some reply ↦ serve server d reply left ])
        replied None = goes_left D t base knows n stamp before work left popped
        replied (Some reply) = goes_left D t base knows n stamp before work (serve server d reply left) (then_leaves t work left (serve server d reply left) popped (served_leaves t d.tid far server d reply left refl))

        by : (b : Bool) → G work (if b then elim (reply_here server d.tid d.op left.node) [ None ↦ left | Some reply ↦ serve server d reply left ] else left)
        by true = replied (reply_here server d.tid d.op left.node)
        by false = goes_left D t base knows n stamp before work left popped

    -- its own
    own_goes : d.tid ≡ t → ServesWell D t work server → G work (serve_or_drop server d left)
    own_goes own well = by (may_serve d.tid left) refl
      where
        far : same_tid d.tid (beside t) ≡ false
        far = ap (λ (u : Tid). same_tid u (beside t)) own ∙ is_beside t

        popped : LeavesPlaces (beside t) work left
        popped = next_leaves (beside t) server d work first far

        dropped : D → G work left
        dropped doomed = goes_by D t base knows n stamp before (beside t) work left popped (λ is lawful placed. inl doomed)

        replied : (o : Option Reply) → reply_here server d.tid d.op left.node ≡ o → G work (elim o [ None ↦ left | Some reply ↦ serve server d reply left ])
        replied None none = dropped (well.replies d first own none)
        replied (Some reply) some = goes_by D t base knows n stamp before (beside t) work (serve server d reply left) (then_leaves (beside t) work left (serve server d reply left) popped (served_leaves (beside t) t (is_beside t) server d reply left own))
            (λ is lawful placed. inr (serve_placed t base knows n stamp before is.inv server d reply work is.here is.in_run is.up first own (well.fits d first own) is.inc lawful placed))

        refused : may_serve d.tid left ≡ false → D ⊎ (may_serve d.tid left ≡ true) → D
        refused off (inl doomed) = doomed
        refused off (inr so) = absurd (cc (off, so))

        by : (b : Bool) → may_serve d.tid left ≡ b → G work (if b then elim (reply_here server d.tid d.op left.node) [ None ↦ left | Some reply ↦ serve server d reply left ] else left)
        by true so = replied (reply_here server d.tid d.op left.node) refl
        by false off = dropped (refused off (well.serves d first own))

  next_goes : (work : Work) (server : ServerNo) → ServesWell D t work server → G work (serve_next work server)
  next_goes work server well = by (ipc.next server work.node.queues) refl
    where
      either : (d : Delivery) → ipc.next server work.node.queues ≡ Some d → (b : Bool) → same_tid d.tid t ≡ b → G work (serve_or_drop server d (with_queues (ipc.after_next server) work))
      either d first true same = own_goes work server d first (same_is d.tid t same) well
      either d first false apart = other_goes work server d first apart

      by : (o : Option Delivery) → ipc.next server work.node.queues ≡ o → G work (elim o [ None ↦ work | Some d ↦ serve_or_drop server d (with_queues (ipc.after_next server) work) ])
      by None none = goes_itself D t base knows n stamp before work
      by (Some d) first = either d first (same_tid d.tid t) refl

  pub serve_all_goes_on : (work : Work) → Rattle.qs_world_walk.specs.Walked.AtEach (ServesWell D t) serve_next work (ipc.turns work.node.queues) → G work (serve_all work)
  serve_all_goes_on work all = goes_fold D t base knows n stamp before (ServesWell D t) serve_next next_goes (ipc.turns work.node.queues) work all

pub serve_all_goes : ServeAllGoes
serve_all_goes w t base knows n stamp before work all = serve_all_goes_on (IsDoomed w) t base knows n stamp before work all
