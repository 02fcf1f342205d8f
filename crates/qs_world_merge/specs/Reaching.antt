-- How far a node has come by itself, step by step, and what a cell has to show of each step.
use Rattle.std.specs.Prelude.{◌≡◌, ◌≢◌, ℕ, ◌<◌, ◌≤◌, ◌^◌, Bool, true, false, is_some, ⊤, List, [], ◌∷◌, ◌++◌, map}
use Rattle.qs_session_channels.specs.End.{Packet}
use Rattle.qs_session_channels.specs.Network.{Among}
use Rattle.qs_packet.specs.declared.message.Message.{Message}
use Rattle.qs_book_journal.specs.declared.entry.CrashCause.{CrashCause}
use Rattle.qs_book_machine.specs.Clauses.{is_crash}
use Rattle.qs_world.specs.World.{Opening, Parcel}
use Rattle.qs_world_packets.specs.PacketMoves.{Source, Step, Cut, Stop, Rise, Meet, Tick, event_of, may_move, may_serve}
use Rattle.qs_world_packets.specs.PacketWorld.{PacketWorld, start}
use Rattle.qs_world_merge.specs.LocalRuns.{LocalRun, TimedMove, client_at}
use Rattle.qs_world_merge.specs.MergedByKey.{is_after}
use Rattle.qs_world_merge.specs.Observed.{AllTook, ArePut, IsOfLocalRun, Observed}
use Rattle.qs_world_merge.specs.StepMoves.{StepMoves, AreItsMoves, AreTheirMoves, all_moves, moves_in, step_of}

-- no move has a greater stamp
abbrev pub AllUpTo : ℕ → List TimedMove → Type 0
AllUpTo s [] = ⊤
AllUpTo s (t ∷ ts) = (t.stamp ≤ s) × AllUpTo s ts

-- node n has come to that world: what is observed of it is what it did in a local run there, and its last step has at most that stamp
pub record HasReached (o : Opening) (n : ℕ) (observed : Observed) (stamp : ℕ) (world : PacketWorld) : Type 0 where
  pub steps : List StepMoves
  pub are : AreTheirMoves o.size steps
  pub run : LocalRun (client_at o) n 0 (start o) (all_moves steps) world
  pub up_to : AllUpTo stamp (all_moves steps)
  pub journal_is : world.journal ≡ observed.journal
  pub trace_is : map step_of steps ≡ observed.trace
  pub puts : (m : ℕ) → m < o.size → m ≢ n → ArePut (observed.put m) (world.network.packets n m)
  pub takes : AllTook o.size n observed.took (all_moves steps)

abbrev pub nothing_observed : Observed
nothing_observed = record { journal = []; trace = []; put = λ m. []; took = λ m. [] }

abbrev pub EachBegins : Type 0
EachBegins = (o : Opening) (n : ℕ) → HasReached o n nothing_observed 0 (start o)

-- one more step, and where it leads
pub record GoesOn (o : Opening) (n : ℕ) (observed : Observed) (stamp : ℕ) (world : PacketWorld) (d : StepMoves) (next : Observed) (new : PacketWorld) : Type 0 where
  pub are : AreItsMoves o.size d
  pub run : LocalRun (client_at o) n stamp world (moves_in d) new
  pub journal_is : new.journal ≡ next.journal
  pub trace_is : next.trace ≡ observed.trace ++ d.step ∷ []
  pub puts : (m : ℕ) → m < o.size → m ≢ n → ArePut (next.put m) (new.network.packets n m)
  pub takes : AllTook o.size n next.took (moves_in d)
  pub took : (m : ℕ) (p : Packet Message) → Among (observed.took m) p → Among (next.took m) p

abbrev pub EachGoesOn : Type 0
EachGoesOn = (o : Opening) (n : ℕ) (observed : Observed) (stamp : ℕ) (world : PacketWorld) (d : StepMoves) (next : Observed) (new : PacketWorld)
    → HasReached o n observed stamp world → GoesOn o n observed stamp world d next new → HasReached o n next d.step.stamp new

-- the world has the nodes of the run, and no step of this one has a greater stamp
pub record HasStampsUpTo (size n stamp : ℕ) (world : PacketWorld) : Type 0 where
  pub size_is : world.size ≡ size
  pub host : (world.hosts n).stamp ≤ stamp
  pub last : is_after world.last stamp n ≡ true

abbrev pub EachReachedUpTo : Type 0
EachReachedUpTo = (o : Opening) (n : ℕ) (observed : Observed) (stamp : ℕ) (world : PacketWorld) → HasReached o n observed stamp world → HasStampsUpTo o.size n stamp world

abbrev pub EachReachedLocally : Type 0
EachReachedLocally = (o : Opening) (n : ℕ) (observed : Observed) (stamp : ℕ) (world : PacketWorld) → HasReached o n observed stamp world → IsOfLocalRun o n observed

-- ---- so a move of a later stamp may be made

module _ (size n stamp : ℕ) (world : PacketWorld) where
  -- a step, whole or cut off
  pub record IsReady (s : ℕ) (source : Source) : Type 0 where
    pub in_run : n < size
    pub later : stamp < s
    pub low : s < 2 ^ 62
    pub up : world.network.up n ≡ true
    pub some : is_some (event_of world n s source) ≡ true
    pub serves : may_serve (world.hosts n).node source ≡ true

abbrev pub EachMayStep : Type 0
EachMayStep = (size n stamp : ℕ) (world : PacketWorld) (s free : ℕ) (source : Source) → HasStampsUpTo size n stamp world → IsReady size n stamp world s source → may_move world (Step n s free source) ≡ true

abbrev pub EachMayCut : Type 0
EachMayCut = (size n stamp : ℕ) (world : PacketWorld) (s free : ℕ) (source : Source) (is_kept : Bool) (cause : CrashCause) → HasStampsUpTo size n stamp world → IsReady size n stamp world s source → is_crash cause ≡ true
    → may_move world (Cut n s free source is_kept cause) ≡ true

-- a crash, a restart and a tick of a session may have the stamp of the last step
abbrev pub EachMayStop : Type 0
EachMayStop = (size n stamp : ℕ) (world : PacketWorld) (s : ℕ) (cause : CrashCause) → HasStampsUpTo size n stamp world → n < size → stamp ≤ s → s < 2 ^ 62 → world.network.up n ≡ true → is_crash cause ≡ true
    → may_move world (Stop n s cause) ≡ true

abbrev pub EachMayRise : Type 0
EachMayRise = (size n stamp : ℕ) (world : PacketWorld) (s inc : ℕ) → HasStampsUpTo size n stamp world → n < size → stamp ≤ s → s < 2 ^ 62 → world.network.up n ≡ false → world.network.inc n < inc
    → may_move world (Rise n s inc) ≡ true

abbrev pub EachMayMeet : Type 0
EachMayMeet = (size n stamp : ℕ) (world : PacketWorld) (s m : ℕ) (p : Packet Parcel) → HasStampsUpTo size n stamp world → n < size → stamp < s → s < 2 ^ 62 → world.network.up n ≡ true → m < size → m ≢ n
    → (world.network.end n m).known ≡ 0 → p.stamp < s → may_move world (Meet n s m p) ≡ true

abbrev pub EachMayTick : Type 0
EachMayTick = (size n stamp : ℕ) (world : PacketWorld) (s m : ℕ) → HasStampsUpTo size n stamp world → stamp ≤ s → world.network.up n ≡ true → may_move world (Tick n m s) ≡ true
