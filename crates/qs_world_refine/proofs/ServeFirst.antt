-- What waits first at a server: an operation of its own; and another transaction's request, which is served, leaves this one standing.
use Rattle.qs_world_refine.proofs.Words.{◌≡◌, ℕ, Bool, true, false, List, [], ◌∷◌, Some, refl, sym, subst, ap, arith, is_at, list_all, nat_tests, same_tid, ServerNo, Tid, IpcValue, queue_at, server_cmp, first_of, Delivery, serve_next, NodeValue, Work, Face, ShowsFace, Scene, server_no, is_sound_queue, is_sound_delivery, Stands, same_Some}
use Rattle.qs_ipc.specs.Ipc as ipc
use Rattle.qs_world_agree.specs.World as machine
use Rattle.qs_world_agree.specs.World.{World}
use Rattle.qs_world_refine.proofs.ServeFrames.{next_leaves, next_kinds}
use Rattle.qs_world_refine.proofs.ServeRoom.{turn_is}
use Rattle.qs_world_refine.proofs.SettleStands.{stands_left}
use Rattle.qs_world_refine.proofs.SoundParts.{and_both}
use Rattle.qs_world_refine.proofs.SoundServe.{serve_next_sound}
use Rattle.qs_world_agree.specs.World.{with_at}
use Rattle.qs_world_refine.proofs.During.{Leaves}

-- ---- what waits is an operation of its member's own, of a transaction that may be served

pub delivery_sound : (node : NodeValue) (server : ServerNo) (d : Delivery) (queues : IpcValue) → ipc.next server queues ≡ Some d → list_all (is_sound_queue node) queues ≡ true → is_sound_delivery node server d ≡ true
delivery_sound node server d [] next all = absurd (cc next)
delivery_sound node server d (e ∷ es) next all = by (is_at (server_cmp server) e.0) refl (delivery_sound node server d es)
  where
    both : (is_sound_queue node e ≡ true) × (list_all (is_sound_queue node) es ≡ true)
    both = and_both (is_sound_queue node e) (list_all (is_sound_queue node) es) all

    key : is_at (server_cmp server) e.0 ≡ true → e.0 ≡ server
    key is = ap server_no (number is)
      where
        number : is_at (server_cmp server) e.0 ≡ true → e.0.0 ≡ server.0
        number is = grind (arith, nat_tests, is)

    first_sound : (waiting : List Delivery) → first_of waiting ≡ Some d → list_all (is_sound_delivery node e.0) waiting ≡ true → is_sound_delivery node e.0 d ≡ true
    first_sound [] is so = absurd (cc is)
    first_sound (x ∷ rest) is so = subst (λ (y : Delivery). is_sound_delivery node e.0 y ≡ true) (same_Some x d is) (and_both (is_sound_delivery node e.0 x) (list_all (is_sound_delivery node e.0) rest) so).0

    by : (b : Bool) → is_at (server_cmp server) e.0 ≡ b → (ipc.next server es ≡ Some d → list_all (is_sound_queue node) es ≡ true → is_sound_delivery node server d ≡ true) → is_sound_delivery node server d ≡ true
    by true is more = subst (λ (k : ServerNo). is_sound_delivery node k d ≡ true) (key is) (first_sound e.1.waiting (rw is at next) both.0)
    by false is more = more (rw is at next) both.1

-- ---- where abort is known, what waits is not asked

abbrev pub with_waits : Face → (ℕ → ℕ) → Face
with_waits f waits = record f { waits = waits }

pub aborted_waits : (f : Face) (waits : ℕ → ℕ) (q : ℕ) (w : World) → f.outcome ≡ machine.Aborted → ShowsFace f q w → ShowsFace (with_waits f waits) q w
aborted_waits f waits q w aborted is = record {
  up = is.up;
  outcome = is.outcome;
  engaged = is.engaged;
  superior = is.superior;
  last = is.last;
  last_new = is.last_new;
  sent = is.sent;
  told_in = is.told_in;
  tell = is.tell;
  running = λ open_now. absurd (cc (aborted, open_now));
}

module _ (t : Tid) (scene : Scene) (n : ℕ) (server : ServerNo) (d : Delivery) (work : Work) (w : World) (is : Stands t scene n work w) (next : ipc.next server work.node.queues ≡ Some d) where
  -- one of another transaction
  pub other_served : same_tid t d.tid ≡ false → Stands t scene n (serve_next work server) w
  other_served apart = stands_left t scene n work (serve_next work server) w (subst (λ (k : Work). Leaves t work k) (sym (turn_is server d work next)) (next_leaves t server d apart work next))
      (serve_next_sound work server is.sound) (next_kinds work server is.kinds) is
