-- What a request that comes makes of the face of a node: the transaction is met, its label learnt, and the request waits at its server.
use Rattle.qs_world_refine.proofs.Words.{◌≡◌, ℕ, ◌<◌, ◌==◌, Bool, true, false, List, Option, Some, None, refl, ap, ◌∙◌, if◌then◌else◌, is_none, eqb-true, same_tid, NodeNo, Tid, peer_of, new_engage, PeerPart, Delivery, Manager, Participant, learn_label, label_at, NodeValue, Work, node_no, face, began_here, took_in, engaged_by, server_no, IsWhole}
use Rattle.qs_engage.specs.Engage as engage
use Rattle.qs_engage.specs.declared.engage.Engage.{Engage}
use Rattle.qs_node_step.specs.Serving.{met}
use Rattle.qs_world_agree.specs.World.{with_at}
use Rattle.qs_world_refine.proofs.Alike.{SameFace}
use Rattle.qs_world_refine.proofs.Arrays.{peer_put}
use Rattle.qs_world_refine.proofs.During.{Leaves, leaves_itself}
use Rattle.qs_world_refine.proofs.Frames.{out_leaves}
use Rattle.qs_world_refine.proofs.Queues.{waits_put}

-- ---- a label is learnt

pub label_leaves : (t tid : Tid) (label : List ℕ) (work : Work) → Leaves t work (learn_label label tid work)
label_leaves t tid label work = by (is_none (label_at label work.node))
  where
    by : (b : Bool) → Leaves t work (if b then Rattle.qs_node_step.specs.Serving.put_label (record { label = label; tid = Some tid; owner = None }) work else work)
    by true = out_leaves t work _ (record { around = record { setting = refl; waits = λ s. refl; loans = refl; past = refl }; part = refl }) refl refl
    by false = leaves_itself t work

-- and nothing else of the node
pub label_manager : (tid : Tid) (label : List ℕ) (work : Work) → (learn_label label tid work).node.manager ≡ work.node.manager
label_manager tid label work = by (is_none (label_at label work.node))
  where
    by : (b : Bool) → (if b then Rattle.qs_node_step.specs.Serving.put_label (record { label = label; tid = Some tid; owner = None }) work else work).node.manager ≡ work.node.manager
    by true = refl
    by false = refl

-- ---- whom a node answers to once a request came

-- at the home nobody
pub superior_home : (from : NodeNo) (e : Engage) → e.home ≡ true → engage.with_superior from e ≡ e
superior_home from e home = by e.home home
  where
    by : (b : Bool) → b ≡ true → (if b then e else elim e.superior [ None ↦ record e { superior = Some from; last_superior = Some from } | Some superior ↦ e ]) ≡ e
    by b is = rw is refl

-- as before where there is a superior
pub superior_kept : (from superior : NodeNo) (e : Engage) → e.home ≡ false → e.superior ≡ Some superior → engage.with_superior from e ≡ e
superior_kept from superior e home has = by e.home home e.superior has
  where
    by : (b : Bool) → b ≡ false → (o : Option NodeNo) → o ≡ Some superior → (if b then e else elim o [ None ↦ record e { superior = Some from; last_superior = Some from } | Some superior ↦ e ]) ≡ e
    by b is o has = rw (is, has) refl

-- and else the sender
pub superior_new : (from : NodeNo) (e : Engage) → e.home ≡ false → e.superior ≡ None → engage.with_superior from e ≡ record e { superior = Some from; last_superior = Some from }
superior_new from e home free = by e.home home e.superior free
  where
    by : (b : Bool) → b ≡ false → (o : Option NodeNo) → o ≡ None → (if b then e else elim o [ None ↦ record e { superior = Some from; last_superior = Some from } | Some superior ↦ e ]) ≡ record e { superior = Some from; last_superior = Some from }
    by b is o free = rw (is, free) refl

abbrev pub with_number : ℕ → ℕ → Engage → Engage
with_number m number e = engage.with_last (node_no m) number e

module _ (m number : ℕ) (part : Participant) (whole : IsWhole part) (in_run : m < 16) where
  peer_is : (k : ℕ) → peer_of (engage.with_last (node_no m) number part.engage) (node_no k) ≡ (if k == m then record (peer_of part.engage (node_no m)) { last = number } else peer_of part.engage (node_no k))
  peer_is k = peer_put m k _ part.engage (rw whole.peers in_run)

  pub last_is : (k : ℕ) → (peer_of (engage.with_last (node_no m) number part.engage) (node_no k)).last ≡ with_at (λ n. (peer_of part.engage (node_no n)).last) m number k
  last_is k = ap (λ (e : PeerPart). e.last) (peer_is k) ∙ by (k == m)
    where
      by : (b : Bool) → (if b then record (peer_of part.engage (node_no m)) { last = number } else peer_of part.engage (node_no k)).last ≡ (if b then number else (peer_of part.engage (node_no k)).last)
      by true = refl
      by false = refl

  pub kept : (g : PeerPart → ℕ) → ((e : PeerPart) → g (record e { last = number }) ≡ g e) → (k : ℕ) → g (peer_of (engage.with_last (node_no m) number part.engage) (node_no k)) ≡ g (peer_of part.engage (node_no k))
  kept g keeps k = ap g (peer_is k) ∙ by (k == m) refl
    where
      by : (b : Bool) → (k == m) ≡ b → g (if b then record (peer_of part.engage (node_no m)) { last = number } else peer_of part.engage (node_no k)) ≡ g (peer_of part.engage (node_no k))
      by true e = rw (eqb-true k m e) (keeps (peer_of part.engage (node_no m)))
      by false e = refl

-- ---- the request waits

-- what is kept was requested, and one more request waits at a server
module _ (tid : Tid) (m number s : ℕ) (d : Delivery) (node : NodeValue) (manager : Manager) (part : Participant) (whole : IsWhole part) (in_run : m < 16) (its : same_tid tid d.tid ≡ true) where
  abbrev after : NodeValue
  after = record node { manager = manager; queues = Rattle.qs_ipc.specs.Ipc.enqueue (server_no s) d node.queues }

  -- from the superior, or at the home
  pub face_took : SameFace (took_in (face node tid part) m number s) (face after tid (record part { engage = with_number m number part.engage }))
  face_took = record {
    is_home = refl;
    on = refl;
    superior = refl;
    last = last_is m number part whole in_run;
    sent = kept m number part whole in_run (λ (e : PeerPart). e.sent) (λ e. refl);
    covered = kept m number part whole in_run (λ (e : PeerPart). e.covered) (λ e. refl);
    waits = λ r. waits_put tid s r d node.queues its;
    uncast = λ r. refl;
    loans = refl;
    asked = refl;
    blocked = refl;
    involved = refl;
    told = λ k. refl;
    outcome = refl;
    tell = λ k. refl;
  }

  -- where there was no superior
  pub face_engaged : began_here node tid ≡ false
      → SameFace (took_in (engaged_by (face node tid part) m) m number s) (face after tid (record part { engage = record (with_number m number part.engage) { superior = Some (node_no m); last_superior = Some (node_no m) } }))
  face_engaged away = record {
    is_home = refl;
    on = rw away refl;
    superior = refl;
    last = last_is m number part whole in_run;
    sent = kept m number part whole in_run (λ (e : PeerPart). e.sent) (λ e. refl);
    covered = kept m number part whole in_run (λ (e : PeerPart). e.covered) (λ e. refl);
    waits = λ r. waits_put tid s r d node.queues its;
    uncast = λ r. refl;
    loans = refl;
    asked = refl;
    blocked = refl;
    involved = refl;
    told = λ k. refl;
    outcome = refl;
    tell = λ k. refl;
  }

-- where it is dropped, its number alone counts
module _ (tid : Tid) (m number : ℕ) (node : NodeValue) (manager : Manager) (part : Participant) (whole : IsWhole part) (in_run : m < 16) where
  pub face_numbered : SameFace (record (face node tid part) { last = with_at (face node tid part).last m number }) (face (record node { manager = manager }) tid (record part { engage = with_number m number part.engage }))
  face_numbered = record {
    is_home = refl;
    on = refl;
    superior = refl;
    last = last_is m number part whole in_run;
    sent = kept m number part whole in_run (λ (e : PeerPart). e.sent) (λ e. refl);
    covered = kept m number part whole in_run (λ (e : PeerPart). e.covered) (λ e. refl);
    waits = λ r. refl;
    uncast = λ r. refl;
    loans = refl;
    asked = refl;
    blocked = refl;
    involved = refl;
    told = λ k. refl;
    outcome = refl;
    tell = λ k. refl;
  }

  pub face_superior : began_here node tid ≡ false
      → SameFace (record (engaged_by (face node tid part) m) { last = with_at (face node tid part).last m number })
      (face (record node { manager = manager }) tid (record part { engage = record (with_number m number part.engage) { superior = Some (node_no m); last_superior = Some (node_no m) } }))
  face_superior away = record {
    is_home = refl;
    on = rw away refl;
    superior = refl;
    last = last_is m number part whole in_run;
    sent = kept m number part whole in_run (λ (e : PeerPart). e.sent) (λ e. refl);
    covered = kept m number part whole in_run (λ (e : PeerPart). e.covered) (λ e. refl);
    waits = λ r. refl;
    uncast = λ r. refl;
    loans = refl;
    asked = refl;
    blocked = refl;
    involved = refl;
    told = λ k. refl;
    outcome = refl;
    tell = λ k. refl;
  }
