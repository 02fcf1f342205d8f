-- At the only node of a run each request of a transaction has a number of its own, and what a server has served of it, with what waits there, is no more than the
-- numbers that were given. A vote that a log left counts what it covered in an earlier incarnation; of that nothing is issued any more: numbers
-- are given in the incarnation alone in which a transaction began.
use Rattle.std.specs.Prelude.{◌≡◌, ◌⊎◌, ℕ, ◌+◌, ◌≤◌, true, false, List, Option, Some, None, unwrap_or}
use Rattle.std.specs.BTreeMap.{is_at}
use Rattle.std.specs.List.{list_any}
use Rattle.std.specs.Map.{lookup}
use Rattle.qs_base.specs.Order.{tid_cmp}
use Rattle.qs_base.specs.declared.identifiers.Tid.{Tid}
use Rattle.qs_engage.specs.Engage.{last_number}
use Rattle.qs_ipc.specs.Ipc.{IpcValue, queue_at}
use Rattle.qs_ipc.specs.Queue.{count_of}
use Rattle.qs_node_kept.specs.Loans.{is_standing_loan}
use Rattle.qs_node_kept.specs.declared.kept.Lent.{Lent}
use Rattle.qs_book_laws.proofs.Rising.{IsRising}
use Rattle.qs_node_step.specs.State.{NodeValue}
use Rattle.qs_tm.specs.Manager as tm
use Rattle.qs_tm.specs.Participant.{member_of}
use Rattle.qs_tm.specs.declared.manager.Manager.{Manager}
use Rattle.qs_tm.specs.declared.participant.Participant.{Participant}
use Rattle.qs_world.specs.Moves.{Move, Source, may_move, may_serve, moved}
use Rattle.qs_world.specs.World.{Opening, World}
use Rattle.qs_world_refine.specs.Sights.{server_no}
use Rattle.qs_world_runs.specs.Joined.{Joined}
use Rattle.qs_world_runs.specs.JoinedLaws.{Opens}

-- ---- what bears on it of a node

pub record Tally : Type 0 where
  pub inc : ℕ
  pub manager : Manager
  pub queues : IpcValue
  pub locals : List (Tid × ℕ)  -- how many numbers were given to requests for servers here
  pub loans : List Lent

abbrev pub tally_of : NodeValue → Tally
tally_of node = record { inc = node.setting.inc; manager = node.manager; queues = node.queues; locals = node.locals; loans = node.kept.now.loans }

-- ---- of one transaction

-- what is not known has served nothing
abbrev pub served_in : Option Participant → ℕ → ℕ
served_in None s = 0
served_in (Some part) s = (member_of part (server_no s)).served

abbrev pub waits_in : Tid → IpcValue → ℕ → ℕ
waits_in tid queues s = count_of tid (queue_at queues (server_no s)).waiting

abbrev pub given_in : Tid → List (Tid × ℕ) → ℕ
given_in tid locals = unwrap_or (lookup (is_at (tid_cmp tid)) locals) 0

-- it began in this incarnation, and at each server what was served and what waits has numbers that were given
pub record IsTallied (tid : Tid) (t : Tally) : Type 0 where
  pub began : tid.inc ≡ t.inc
  pub numbers : (s : ℕ) → served_in (tm.part_of tid t.manager) s + waits_in tid t.queues s ≤ given_in tid t.locals

-- nothing of it waits or is lent here, and no number was given
pub record IsBare (tid : Tid) (t : Tally) : Type 0 where
  pub waits : (s : ℕ) → waits_in tid t.queues s ≡ 0
  pub lent : list_any (is_standing_loan tid t.inc) t.loans ≡ false
  pub none : given_in tid t.locals ≡ 0

-- ---- of a node to which no other sends anything: where something waits or is lent, and where it is undecided at its home, numbers were given for all of it.
-- W tells for which transactions that is known besides

pub record AreTallied (W : Tid → Type 0) (t : Tally) : Type 0 where
  pub in_inc : t.manager.inc ≡ t.inc
  pub rising : IsRising tid_cmp t.manager.known
  pub each : (tid : Tid) → IsTallied tid t ⊎ IsBare tid t
  pub runs : (tid : Tid) (part : Participant) → tm.part_of tid t.manager ≡ Some part → part.engage.home ≡ true → part.outcome ≡ None → IsTallied tid t
  pub asked : (tid : Tid) (part : Participant) → tm.part_of tid t.manager ≡ Some part → part.asked ≡ true → part.engage.home ≡ true
  pub given : (tid : Tid) → given_in tid t.locals ≤ last_number
  pub besides : (tid : Tid) → W tid → IsTallied tid t

abbrev pub NoneBesides : Tid → Type 0
NoneBesides tid = ⊥

-- ---- the world of one node

abbrev pub CountedAt : Opening → World → Type 0
CountedAt o world = world.size ≡ 1 → world.channels.up 0 ≡ true → AreTallied NoneBesides (tally_of (world.hosts 0).node)

-- it is so as a run begins, and each move keeps it
abbrev pub OpensCounted : Type 0
OpensCounted = Opens CountedAt

abbrev pub MovesKeepCounted : (Opening → World → Type 0) → Type 0
MovesKeepCounted P = (o : Opening) (world : World) (move : Move) → Joined P o world → CountedAt o world → may_move world move ≡ true → CountedAt o (moved move world)

-- so what waits there may be served, at each moment of a run along which that goes on
abbrev pub EachCountsAlone : (Opening → World → Type 0) → Type 0
EachCountsAlone P = (o : Opening) (world : World) → Joined P o world → world.size ≡ 1 → world.channels.up 0 ≡ true → (source : Source) → may_serve (world.hosts 0).node source ≡ true
