-- What a node does by itself: a run of the world over packets in which that node alone moves, and every packet may come.
use Rattle.std.specs.Prelude.{◌≡◌, ℕ, ◌<◌, ◌≤◌, ⊤, true, List, [], ◌∷◌, Option, Some, None}
use Rattle.std.specs.List.{list_any}
use Rattle.qs_node_step.specs.Step.{effects_of}
use Rattle.qs_node_step.specs.declared.event.ClientAnswer.{ClientAnswer}
use Rattle.qs_node_step.specs.declared.event.Event.{Event}
use Rattle.qs_world.specs.Posting.{is_answer_to}
use Rattle.qs_world.specs.World.{Opening}
use Rattle.qs_world_packets.specs.PacketMoves.{Move, Step, Cut, Stop, Rise, Meet, Take, Tick, event_of, may_move, moved}
use Rattle.qs_world_packets.specs.PacketWorld.{PacketWorld}

-- a move, with the stamp of the step in which it is made, and with the event that comes, where one does
pub record TimedMove : Type 0 where
  pub stamp : ℕ
  pub move : Move
  pub event : Option Event

abbrev pub node_of : Move → ℕ
node_of (Step n stamp free source) = n
node_of (Cut n stamp free source is_kept cause) = n
node_of (Stop n stamp cause) = n
node_of (Rise n stamp inc) = n
node_of (Meet n stamp m p) = n
node_of (Take n m p) = n
node_of (Tick n m stamp) = n

-- the move is made in a step of that stamp; a packet that is taken there has a lesser one
abbrev pub IsMadeAt : ℕ → Move → Type 0
IsMadeAt at (Step n stamp free source) = stamp ≡ at
IsMadeAt at (Cut n stamp free source is_kept cause) = stamp ≡ at
IsMadeAt at (Stop n stamp cause) = stamp ≡ at
IsMadeAt at (Rise n stamp inc) = stamp ≡ at
IsMadeAt at (Meet n stamp m p) = stamp ≡ at
IsMadeAt at (Take n m p) = p.stamp < at
IsMadeAt at (Tick n m stamp) = stamp ≡ at

abbrev pub event_in : PacketWorld → Move → Option Event
event_in world (Step n stamp free source) = event_of world n stamp source
event_in world (Cut n stamp free source is_kept cause) = event_of world n stamp source
event_in world (Stop n stamp cause) = None
event_in world (Rise n stamp inc) = None
event_in world (Meet n stamp m p) = None
event_in world (Take n m p) = None
event_in world (Tick n m stamp) = None

-- ---- whom a step answers

-- the node of a client
abbrev pub client_at : Opening → ℕ → ℕ
client_at o k = (o.clients k).0

abbrev pub answers_with : PacketWorld → ℕ → ℕ → Option Event → List ClientAnswer
answers_with world n free None = []
answers_with world n free (Some event) = (effects_of (world.hosts n).node event free).answers

-- only clients of node n are answered; clients_at has the node of each
abbrev pub AnswersOnly : (ℕ → ℕ) → ℕ → List ClientAnswer → Type 0
AnswersOnly clients_at n answers = (k : ℕ) → list_any (is_answer_to k) answers ≡ true → clients_at k ≡ n

abbrev pub AnswersOwn : (ℕ → ℕ) → PacketWorld → Move → Type 0
AnswersOwn clients_at world (Step n stamp free source) = AnswersOnly clients_at n (answers_with world n free (event_of world n stamp source))
AnswersOwn clients_at world (Cut n stamp free source is_kept cause) = ⊤
AnswersOwn clients_at world (Stop n stamp cause) = ⊤
AnswersOwn clients_at world (Rise n stamp inc) = ⊤
AnswersOwn clients_at world (Meet n stamp m p) = ⊤
AnswersOwn clients_at world (Take n m p) = ⊤
AnswersOwn clients_at world (Tick n m stamp) = ⊤

-- ---- the run of a node

-- node n may make the move next, as far as it sees; `at` is the stamp of its last one
pub record MayLocally (clients_at : ℕ → ℕ) (n at : ℕ) (world : PacketWorld) (t : TimedMove) : Type 0 where
  pub of_node : node_of t.move ≡ n
  pub rises : at ≤ t.stamp  -- no move of a node has a lesser stamp than the one before
  pub made_at : IsMadeAt t.stamp t.move
  pub may : may_move world t.move ≡ true
  pub event_is : event_in world t.move ≡ t.event
  pub own : AnswersOwn clients_at world t.move

abbrev pub LocalRun : (ℕ → ℕ) → ℕ → ℕ → PacketWorld → List TimedMove → PacketWorld → Type 0
LocalRun clients_at n at old [] new = new ≡ old
LocalRun clients_at n at old (t ∷ ts) new = MayLocally clients_at n at old t × LocalRun clients_at n t.stamp (moved t.move old) ts new
