-- A mark on what waits leaves the counts as they are.
use Rattle.std.proofs.Common.{◌≡◌, ◌∙◌, ℕ, ◌+◌, Bool, true, false, List, [], ◌∷◌, map, refl, sym}
use Rattle.std.specs.Prelude.{◌==◌, if◌then◌else◌}
use Rattle.qs_base.specs.declared.identifiers.NodeNo.{NodeNo}
use Rattle.qs_base.specs.declared.identifiers.Tid.{Tid}
use Rattle.qs_ipc.specs.declared.delivery.Delivery.{Delivery}
use Rattle.qs_ipc.specs.declared.queue.QueueCounts.{QueueCounts}
use Rattle.qs_ipc.specs.Queue.{is_of, count_of, IsCounted, mark_stale}

of_marked : (tid : Tid) (peer : NodeNo) (d : Delivery) (b : Bool) → (d.from.0 == peer.0) ≡ b → is_of tid (mark_stale peer d) ≡ is_of tid d
of_marked tid peer d true is = rw is refl
of_marked tid peer d false is = rw is refl

count_marked : (tid : Tid) (peer : NodeNo) (ds : List Delivery) → count_of tid (map (mark_stale peer) ds) ≡ count_of tid ds
count_marked tid peer [] = refl
count_marked tid peer (d ∷ ds) = rw (of_marked tid peer d (d.from.0 == peer.0) refl, count_marked tid peer ds) refl

pub marked_counted : (peer : NodeNo) (waiting : List Delivery) (counts : List (Tid × QueueCounts)) → IsCounted waiting counts → IsCounted (map (mark_stale peer) waiting) counts
marked_counted peer waiting counts counted = record { waits = λ tid. counted.waits tid ∙ sym (count_marked tid peer waiting); fits = counted.fits }
