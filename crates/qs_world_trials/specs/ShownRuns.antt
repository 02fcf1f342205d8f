-- Runs of the world of nodes, and what the agreement machine does beside them for one transaction of them.
use Rattle.std.specs.Prelude.{◌≡◌, ℕ, ◌%◌, ◌==◌, ◌||◌, ⊤, Bool, true, false, ◌&&◌, List, [], ◌∷◌, ◌++◌, drop, fold, take, if◌then◌else◌}
use Rattle.qs_base.specs.declared.identifiers.Tid.{Tid}
use Rattle.qs_ops.specs.Members.{class_of}
use Rattle.qs_world.specs.Driven.{Know, Take, rounds_of}
use Rattle.qs_world.specs.Moves.{Clock, Handed}
use Rattle.qs_world.specs.World.{World}
use Rattle.qs_world_agree.specs.Laws.{Run}
use Rattle.qs_world_agree.specs.Step.{Abort, Answer_running, Ask, Commit, Count, Crash, Engage, Event, Inquire, Issue, Issue_local, Learn, Learn_abort, Lend, Meet, Notice, Restart, Restart_in_doubt, Serve, Take_told, Tell, Tell_abort, Vote_recoverable, Yes}
use Rattle.qs_world_agree.specs.World as machine
use Rattle.qs_world_refine.specs.Places.{class_in, place}
use Rattle.qs_world_trials.specs.ShownTests.{is_shown}
use Rattle.qs_world_trials.specs.SmallRuns.{SmallRun}
use Rattle.qs_world_trials.specs.Walks.{Doing, done, made}

-- what the machine does with the next thing that nodes do; so many things are done until it does something again
pub record Leg : Type 0 where
  pub events : List Event
  pub count : ℕ

-- the machine shows the world after each of these
abbrev pub shows_after : Tid → machine.World → World → List Doing → Bool
shows_after tid w world [] = true
shows_after tid w world (doing ∷ doings) = is_shown tid w (done world doing) && shows_after tid w (done world doing) doings

abbrev is_idle : List Event → Bool
is_idle [] = true
is_idle (event ∷ events) = false

-- leg by leg; where the machine is to do something, it does not show the world that follows as it stands
abbrev pub GoesWith : Tid → World → List Doing → machine.World → List Leg → Type 0
GoesWith tid world doings w [] = ⊤
GoesWith tid world doings w (leg ∷ legs) =
    (new : machine.World) × Run w leg.events new × (shows_after tid w world (take 1 doings) ≡ is_idle leg.events)
    × (shows_after tid new world (take leg.count doings) ≡ true) × GoesWith tid (fold done world (take leg.count doings)) (drop leg.count doings) new legs

abbrev leg : ℕ → List Event → Leg
leg count events = record { events = events; count = count }

-- the first transaction of the first node
abbrev pub first_tid : Tid
first_tid = record { home = record { 0 = 0 }; inc = 1; seq = 1 }

-- ---- where it begins: at place 256, the first one of node 0, which alone knows the other node, at place 257

abbrev pub two_nodes : machine.Opening
two_nodes = record {
  node = λ p. p % 256;
  class = λ n s. class_in (class_of s);
  home = 256;
  present = λ n. place n 1;
  up = λ p. (p == 256) || (p == 257);
  peer = λ p m. if p == 256 then (if m == 1 then 257 else 0) else 0;
}

-- both know each other
abbrev pub met_nodes : machine.Opening
met_nodes = record two_nodes { peer = λ p m. if p == 256 then (if m == 1 then 257 else 0) else if p == 257 then (if m == 0 then 256 else 0) else 0 }

-- and there is a third node, at place 258
abbrev pub three_nodes : machine.Opening
three_nodes = record met_nodes { up = λ p. (p == 256) || ((p == 257) || (p == 258)) }

-- ---- a file is put at each of two nodes, and committed

abbrev pub both_doings : List Doing
both_doings = made (drop 5 (rounds_of 2 1 16))

abbrev pub both_legs : List Leg
both_legs =
    leg 2 [] ∷ leg 11 (Meet 257 256 ∷ []) ∷ leg 1 (Issue_local 256 0 ∷ []) ∷ leg 13 (Serve 256 0 ∷ [])
    ∷ leg 4 (Issue 256 1 0 ∷ []) ∷ leg 4 (Engage 257 256 ∷ []) ∷ leg 6 (Serve 257 0 ∷ [])
    ∷ leg 2 (Ask 256 ∷ []) ∷ leg 2 (Vote_recoverable 256 0 ∷ []) ∷ leg 5 (Ask 257 ∷ Vote_recoverable 257 0 ∷ []) ∷ leg 2 (Yes 257 ∷ [])
    ∷ leg 7 (Count 256 257 ∷ Commit ∷ Tell 256 1 ∷ []) ∷ leg 7 (Learn 257 ∷ []) ∷ leg 27 (Take_told 256 257 ∷ []) ∷ []

-- ---- in the small runs it has begun after three things

abbrev pub begun_at : ℕ
begun_at = 3

-- two nodes are told a commit, and one of them does not take it in
abbrev pub three_legs : List Leg
three_legs =
    leg 1 (Issue 256 1 0 ∷ []) ∷ leg 1 (Engage 257 256 ∷ []) ∷ leg 2 (Serve 257 0 ∷ []) ∷ leg 1 (Meet 256 258 ∷ []) ∷ leg 1 (Meet 258 256 ∷ [])
    ∷ leg 1 (Issue 256 2 0 ∷ []) ∷ leg 1 (Engage 258 256 ∷ []) ∷ leg 2 (Serve 258 0 ∷ []) ∷ leg 1 (Ask 256 ∷ [])
    ∷ leg 1 (Ask 257 ∷ Vote_recoverable 257 0 ∷ []) ∷ leg 1 (Yes 257 ∷ []) ∷ leg 1 (Ask 258 ∷ Vote_recoverable 258 0 ∷ []) ∷ leg 1 (Yes 258 ∷ [])
    ∷ leg 1 (Count 256 257 ∷ []) ∷ leg 1 (Count 256 258 ∷ Commit ∷ Tell 256 1 ∷ Tell 256 2 ∷ []) ∷ leg 1 (Learn 257 ∷ []) ∷ leg 6 (Take_told 256 257 ∷ []) ∷ []

-- a node votes, restarts in doubt as place 513 and inquires; then a borrower draws it in once more, and it votes anew
abbrev pub doubt_legs : List Leg
doubt_legs =
    leg 1 (Issue_local 256 33 ∷ []) ∷ leg 1 (Lend 256 33 ∷ []) ∷ leg 1 (Issue 256 1 0 ∷ []) ∷ leg 1 (Engage 257 256 ∷ []) ∷ leg 3 (Serve 257 0 ∷ [])
    ∷ leg 1 (Ask 256 ∷ []) ∷ leg 1 (Ask 257 ∷ Vote_recoverable 257 0 ∷ []) ∷ leg 1 (Yes 257 ∷ []) ∷ leg 1 (Count 256 257 ∷ [])
    ∷ leg 1 (Crash 257 ∷ []) ∷ leg 1 (Restart_in_doubt 513 0 ∷ []) ∷ leg 1 (Meet 513 256 ∷ []) ∷ leg 1 (Notice 256 513 ∷ []) ∷ leg 1 (Inquire 513 ∷ []) ∷ leg 2 (Answer_running 513 ∷ [])
    ∷ leg 1 (Issue 256 1 0 ∷ []) ∷ leg 1 (Engage 513 256 ∷ []) ∷ leg 1 (Ask 513 ∷ []) ∷ leg 1 (Serve 513 0 ∷ []) ∷ leg 1 (Vote_recoverable 513 0 ∷ []) ∷ []

-- a node is cut off as it serves a borrower, and restarts; the home learns of it, aborts and tells it
abbrev pub abort_doings : SmallRun → List Doing
abort_doings run = run.doings ++ made (Know 1 0 ∷ Know 0 1 ∷ Take 0 Clock ∷ Take 1 (Handed 0) ∷ Take 0 (Handed 1) ∷ [])

abbrev pub abort_legs : List Leg
abort_legs =
    leg 1 (Issue_local 256 33 ∷ []) ∷ leg 2 (Lend 256 33 ∷ []) ∷ leg 1 (Ask 256 ∷ []) ∷ leg 1 (Issue 256 1 0 ∷ []) ∷ leg 1 (Engage 257 256 ∷ []) ∷ leg 1 (Ask 257 ∷ [])
    ∷ leg 1 (Crash 257 ∷ []) ∷ leg 1 (Restart 513 ∷ []) ∷ leg 1 (Meet 513 256 ∷ []) ∷ leg 2 (Notice 256 513 ∷ Abort ∷ Tell_abort 256 1 ∷ []) ∷ leg 2 (Learn_abort 513 ∷ []) ∷ []
