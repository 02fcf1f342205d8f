-- How a world of the agreement machine shows one transaction of the world of nodes, also in the middle of a node's step.
use Rattle.std.specs.Prelude.{ℕ, ◌==◌, Bool, not, ◌&&◌, List, ◌++◌, length, map, drop, if◌then◌else◌}
use Rattle.std.specs.List.{filter}
use Rattle.qs_base.specs.declared.identifiers.Tid.{Tid}
use Rattle.qs_packet.specs.declared.message.Message.{Message}
use Rattle.qs_record.specs.declared.record.Record.{Record}
use Rattle.qs_restart.specs.Recovery.{recovery}
use Rattle.qs_node_step.specs.declared.event.Sending.{Sending}
use Rattle.qs_node_step.specs.Bringing.{is_forced}
use Rattle.qs_node_step.specs.State.{NodeValue, Work}
use Rattle.qs_world.specs.World.{Parcel, World}
use Rattle.qs_world_agree.specs.World as machine
use Rattle.qs_world_refine.specs.Links.{Said}
use Rattle.qs_world_refine.specs.Messages.{all_said}
use Rattle.qs_world_refine.specs.NodeFaces.{face_at}
use Rattle.qs_world_refine.specs.Sights.{Sight, ShowsSight, with_at4}

-- all that is read of the world
pub record Scene : Type 0 where
  pub size : ℕ
  pub inc : ℕ → ℕ  -- a node's present incarnation
  pub up : ℕ → Bool
  pub knows : ℕ → ℕ → ℕ  -- the incarnation of a node that a node knows
  pub node : ℕ → NodeValue
  pub pending : ℕ → ℕ → ℕ → ℕ → List Message  -- what was posted and is not handed up, from a node in an incarnation to a node in an incarnation
  pub unmet : ℕ → ℕ → List Message  -- what waits for a node that is not known
  pub log : ℕ → List Record  -- on the disk

abbrev pub message_of : Parcel → Message
message_of parcel = parcel.message

abbrev pub scene_of : World → Scene
scene_of world = record {
  size = world.size;
  inc = world.channels.inc;
  up = world.channels.up;
  knows = world.channels.peer;
  node = λ n. (world.hosts n).node;
  pending = λ p i q j. map message_of (drop (length (world.channels.handed p q i j)) (world.channels.posted p q i j));
  unmet = λ p q. map message_of (world.channels.waits p q);
  log = λ n. (world.hosts n).log;
}

abbrev pub sight : Tid → Scene → Sight
sight tid scene = record {
  size = scene.size;
  inc = scene.inc;
  up = scene.up;
  knows = scene.knows;
  face = λ n. face_at (scene.node n) tid;
  said = λ n i m j. all_said tid (scene.pending n i m j);
  unmet = λ n m. all_said tid (scene.unmet n m);
  found = λ n. recovery (scene.log n);
}

abbrev pub Shows : Tid → Scene → machine.World → Type 0
Shows tid scene w = ShowsSight tid (sight tid scene) w

-- ---- in the middle of a step of node n: what it sends is put, and what it must force is on the disk; other records come at the end

abbrev pub sent_to : ℕ → List Sending → List Message
sent_to m sendings = map (λ (sending : Sending). sending.message) (filter (λ (sending : Sending). sending.to.0 == m) sendings)

-- what a link of node n has once the step's messages are put: from its present incarnation to the one that it knows
abbrev pub said_during : Tid → Scene → ℕ → List Sending → ℕ → ℕ → ℕ → ℕ → List Said
said_during tid scene n sendings p i q j =
    if (p == n) && ((i == scene.inc n) && ((j == scene.knows n q) && not (j == 0)))
    then all_said tid (scene.pending p i q j) ++ all_said tid (sent_to q sendings)
    else all_said tid (scene.pending p i q j)

abbrev pub unmet_during : Tid → Scene → ℕ → List Sending → ℕ → ℕ → List Said
unmet_during tid scene n sendings p q =
    if (p == n) && (scene.knows n q == 0) then all_said tid (scene.unmet p q) ++ all_said tid (sent_to q sendings) else all_said tid (scene.unmet p q)

abbrev pub sight_during : Tid → Scene → ℕ → Work → Sight
sight_during tid scene n work = record {
  size = scene.size;
  inc = scene.inc;
  up = scene.up;
  knows = scene.knows;
  face = λ k. if k == n then face_at work.node tid else face_at (scene.node k) tid;
  said = said_during tid scene n work.out.messages;
  unmet = unmet_during tid scene n work.out.messages;
  found = λ k. if k == n then recovery (scene.log n ++ filter is_forced work.out.records) else recovery (scene.log k);
}

abbrev pub ShowsWork : Tid → Scene → ℕ → Work → machine.World → Type 0
ShowsWork tid scene n work w = ShowsSight tid (sight_during tid scene n work) w

-- a message was handed up
abbrev pub handed : Scene → ℕ → ℕ → ℕ → List Message → Scene
handed scene m i n rest = record scene { pending = with_at4 scene.pending m i n (scene.inc n) rest }
