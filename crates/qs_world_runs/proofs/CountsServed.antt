-- Where all that waits at a node can be counted, each request can be counted at its turn.
use Rattle.qs_world_runs.proofs.Words.{◌≡◌, ℕ, ◌<◌, ◌==◌, ◌&&◌, Bool, true, false, List, [], ◌∷◌, length, fold, nat_lt, refl, sym, ap, subst, ◌∙◌, arith, if◌then◌else◌, eqb-true, nat_tests, ServerNo, Tid, IpcValue, queue_at, BookValue, known_tids, resume_tid, serve_next, Work, with_node, work_on, Queues, World, server_no, IsShownWorld, is_sound, known_sound, AtEach, first_work, coming_first, some_not_zero}
use Rattle.qs_ipc.specs.Ipc as ipc
use Rattle.qs_ipc.specs.Queue.{count_of}
use Rattle.qs_node_step.specs.State.{NodeValue}
use Rattle.qs_world.specs.Moves.{may_serve}
use Rattle.qs_world_refine.specs.NodeFaces.{waiting_at}
use Rattle.qs_world_refine.specs.ServeWhole as machine
use Rattle.qs_world_refine.proofs.MayCount.{can_count}
use Rattle.qs_world_refine.proofs.ServeRoom.{IsSized, next_counts, unfull}
use Rattle.qs_world_refine.proofs.SoundParts.{and_both}
use Rattle.qs_world_refine.proofs.SoundServe.{serve_next_sound}
use Rattle.qs_world_lawful.specs.Standing.{CanCount}

-- at a sound node
record Counts (work : Work) : Type 0 where
  counts : (tid : Tid) → machine.CanCount tid work
  sound : is_sound work.node ≡ true

counts_next : (work : Work) (server : ServerNo) → Counts work → Counts (serve_next work server)
counts_next work server c = record { counts = λ tid. next_counts tid work server (sized tid) (c.counts tid); sound = serve_next_sound work server c.sound }
  where
    sized : (tid : Tid) → IsSized tid work
    sized tid part known = eqb-true (length part.members) 7 (and_both (length part.engage.peers == 16) (length part.members == 7) (and_both ((length part.engage.peers == 16) && (length part.members == 7)) _ (known_sound tid work.node part known c.sound).whole).0).1

counted : (work : Work) (server : ServerNo) → Counts work → CanCount work server
counted work server c delivery part next known kept = unfull server delivery work next (c.counts delivery.tid) part known (below server.0 kept)
  where
    below : (s : ℕ) → nat_lt s 7 ≡ true → s < 7
    below s is = grind (arith, nat_tests, is)

at_turns : (servers : List ServerNo) (work : Work) → Counts work → AtEach CanCount serve_next work servers
at_turns [] work c = tt
at_turns (server ∷ servers) work c = (counted work server c, at_turns servers (serve_next work server) (counts_next work server c))

-- as a step comes to it, and as the first step of an incarnation began: then nothing waits
module _ (world : World) (is : IsShownWorld world) (n free : ℕ) (low : n < world.size) (serves : may_serve (world.hosts n).node Queues ≡ true) where
  abbrev node : NodeValue
  node = (world.hosts n).node

  pub room_before : is_sound node ≡ true → AtEach CanCount serve_next (work_on node free) (ipc.turns node.queues)
  room_before sound = at_turns (ipc.turns node.queues) (work_on node free) (record { counts = λ tid. can_count tid node free serves; sound = sound })

  pub room_first : (stamp : ℕ) (before : BookValue) → is_sound (first_work node free).node ≡ true → AtEach CanCount serve_next (first_work node free) (ipc.turns (first_work node free).node.queues)
  room_first stamp before sound = at_turns (ipc.turns (first_work node free).node.queues) (first_work node free) (record { counts = λ tid. by tid node.is_first refl; sound = sound })
    where
      by : (tid : Tid) (b : Bool) → node.is_first ≡ b → machine.CanCount tid (first_work node free)
      by tid true early = λ part s known below waits. absurd (some_not_zero (waiting_at (first_work node free).node tid s) waits
          (ap (λ (queues : IpcValue). count_of tid (queue_at queues (server_no s)).waiting) ((coming_first stamp before (work_on node free)).queues ∙ ((is.steady.nodes n low).first early).queues)))
      by tid false further = subst (λ (work : Work). machine.CanCount tid work) (sym (same further)) (can_count tid node free serves)
        where
          same : node.is_first ≡ false → first_work node free ≡ work_on node free
          same further = picked node.is_first further
            where
              picked : (b : Bool) → b ≡ false → (if b then fold resume_tid (with_node (λ node. record node { is_first = false }) (work_on node free)) (known_tids (work_on node free)) else work_on node free) ≡ work_on node free
              picked b is = rw is refl
