-- Small runs for tools/broken-rules: each is lawful as the rules stand, and breaks a clause where one rule is another.
use Rattle.std.specs.Prelude.{◌≡◌, ℕ, ◌==◌, Bool, true, List, [], ◌∷◌, ◌++◌, codes, fold, Option, None, Some, if◌then◌else◌}
use Rattle.std.specs.Global.{Global}
use Rattle.std.specs.List.{list_all}
use Rattle.qs_book_journal.specs.declared.script_line.Command.{Command}
use Rattle.qs_book_journal.specs.declared.script_line.Command.TheVariants as commands
use Rattle.qs_book_journal.specs.declared.script_line.ScriptLine.{ScriptLine}
use Rattle.qs_ops.specs.declared.operation.Op.TheVariants.{Lend}
use Rattle.qs_restart.specs.Recovery.{recovery}
use Rattle.qs_world.specs.Driven.{Know, Take, first_fault}
use Rattle.qs_world.specs.DrivenRuns.{client, get_at, put_at, said}
use Rattle.qs_world.specs.Moves.{Clock, Commanded, Handed, Queues}
use Rattle.qs_world.specs.Openings.{each_below, is_open_vote}
use Rattle.qs_world.specs.Scenes.{member, setting_of}
use Rattle.qs_world.specs.World.{Opening, World, start}
use Rattle.qs_world_trials.specs.Walks.{CutOff, Doing, Rise, Stop, done, made}

-- clients by number, each with its node and its script, over empty logs
pub record SmallRun : Type 0 where
  pub size : ℕ
  pub zero : ℕ × List ScriptLine
  pub one : ℕ × List ScriptLine
  pub two : ℕ × List ScriptLine
  pub doings : List Doing

abbrev lines_of : SmallRun → ℕ → ℕ × List ScriptLine
lines_of run k = if k == 0 then run.zero else if k == 1 then run.one else if k == 2 then run.two else (0, [])

abbrev pub opens_as : Global → SmallRun → Opening
opens_as alloc run = record { alloc = alloc; size = run.size; settings = setting_of run.size; logs = λ n. []; clients = lines_of run }

abbrev pub world_of : Global → SmallRun → World
world_of alloc run = fold done (start (opens_as alloc run)) run.doings

abbrev clause_of : Option (ℕ × ℕ) → Option ℕ
clause_of None = None
clause_of (Some fault) = Some fault.1

-- the clause that its history breaks
abbrev pub broken_in : Global → SmallRun → Option ℕ
broken_in alloc run = clause_of (first_fault (opens_as alloc run) (world_of alloc run))

-- the next run may begin over the logs that it leaves, as far as their open votes tell
abbrev next_opening : Global → SmallRun → World → Opening
next_opening alloc run world = record (opens_as alloc run) { logs = λ n. (world.hosts n).log }

abbrev are_open : Opening → Bool
are_open o = each_below o.size (λ n. list_all (is_open_vote o n) (recovery (o.logs n)).prepared)

abbrev pub opens_next : Global → SmallRun → Bool
opens_next alloc run = are_open (next_opening alloc run (world_of alloc run))

-- ---- what they are made of

abbrev nobody : ℕ × List ScriptLine
nobody = (0, [])

abbrev lend_at : ℕ → ℕ → ℕ → Command
lend_at n server k = commands.Request (member n server) (Lend (client k))

-- two nodes get to know each other, and client 0 begins
abbrev begins : List Doing
begins = made (Know 0 1 ∷ Know 1 0 ∷ Take 0 (Commanded 0) ∷ [])

-- client 0 says its next line, which node 1 serves and replies to
abbrev said_to_one : List Doing
said_to_one = made (Take 0 (Commanded 0) ∷ Take 1 (Handed 0) ∷ Take 1 Queues ∷ Take 0 (Handed 1) ∷ [])

-- and one that its own node serves
abbrev said_here : List Doing
said_here = made (Take 0 (Commanded 0) ∷ Take 0 Queues ∷ [])

-- ---- a borrower puts a file at a node while commit runs: that is cut off as it serves
abbrev pub cut_as_served : SmallRun
cut_as_served = record {
  size = 2;
  zero = (0, said 0 3 (codes "a") commands.Begin ∷ said 0 4 (codes "a") (lend_at 0 33 1) ∷ said 0 5 (codes "a") commands.Commit ∷ []);
  one = (0, said 1 6 (codes "a") commands.Take ∷ said 1 7 (codes "a") (put_at 1 (codes "f") (codes "x")) ∷ []);
  two = nobody;
  doings = begins ++ (said_here ++ (made (Take 0 (Commanded 1) ∷ Take 0 (Commanded 0) ∷ Take 0 (Commanded 1) ∷ Take 1 (Handed 0) ∷ Take 1 (Handed 0) ∷ [])
      ++ CutOff 1 Queues true ∷ Rise 1 ∷ []));
}

-- ---- the home is cut off as it votes on what it read, with the other's vote come
abbrev pub cut_as_voted : SmallRun
cut_as_voted = record {
  size = 2;
  zero = (0, said 0 3 (codes "a") commands.Begin ∷ said 0 4 (codes "a") (get_at 0 (codes "z")) ∷ said 0 5 (codes "a") (put_at 1 (codes "f") (codes "x")) ∷ said 0 6 (codes "a") commands.Commit ∷ []);
  one = nobody;
  two = nobody;
  doings = begins ++ (said_here ++ (said_to_one ++ (made (Take 0 (Commanded 0) ∷ Take 1 (Handed 0) ∷ Take 1 Clock ∷ []) ++ CutOff 0 (Handed 1) true ∷ Rise 0 ∷ [])));
}

-- ---- commit is asked for, and the home's time passes before the other node votes
abbrev pub asked_early : SmallRun
asked_early = record {
  size = 2;
  zero = (0, said 0 3 (codes "a") commands.Begin ∷ said 0 4 (codes "a") (put_at 1 (codes "f") (codes "x")) ∷ said 0 5 (codes "a") commands.Commit ∷ []);
  one = nobody;
  two = nobody;
  doings = begins ++ (said_to_one ++ made (Take 0 (Handed 1) ∷ Take 0 (Commanded 0) ∷ Take 0 Clock ∷ []));
}

-- ---- a node that only sent a request has answered its superior, and a client of it borrows again and sends another one
abbrev pub borrowed_again : SmallRun
borrowed_again = record {
  size = 2;
  zero = (0, said 0 3 (codes "a") commands.Begin ∷ said 0 4 (codes "a") (lend_at 0 34 2) ∷ said 0 5 (codes "a") (lend_at 1 33 1) ∷ said 0 6 (codes "a") commands.Commit ∷ []);
  one = (
    1,
    said 1 7 (codes "a") commands.Take ∷ said 1 8 (codes "a") (get_at 0 (codes "z")) ∷ said 1 9 (codes "a") commands.Yield
        ∷ said 1 10 (codes "a") commands.Take ∷ said 1 11 (codes "a") (get_at 0 (codes "z")) ∷ [],
  );
  two = (0, said 2 12 (codes "a") commands.Take ∷ said 2 13 (codes "a") (lend_at 1 33 1) ∷ []);
  doings = begins ++ (said_here ++ (said_to_one
      ++ made (Take 0 (Commanded 2) ∷ Take 1 (Commanded 1) ∷ Take 1 (Commanded 1) ∷ Take 0 (Handed 1) ∷ Take 0 Queues ∷ Take 1 (Handed 0) ∷ Take 1 (Handed 0) ∷ Take 1 (Commanded 1)
      ∷ Take 0 (Commanded 0) ∷ Take 1 (Handed 0) ∷ Take 0 (Handed 1) ∷ Take 0 (Commanded 2)
      ∷ Take 1 (Handed 0) ∷ Take 1 (Handed 0) ∷ Take 1 Queues ∷ Take 0 (Handed 1) ∷ Take 1 (Commanded 1) ∷ Take 1 (Commanded 1) ∷ [])));
}

-- ---- two nodes are told a commit, and one of them does not take it in
abbrev pub told_one : SmallRun
told_one = record {
  size = 3;
  zero = (
    0,
    said 0 3 (codes "a") commands.Begin ∷ said 0 4 (codes "a") (put_at 1 (codes "f") (codes "x")) ∷ said 0 5 (codes "a") (put_at 2 (codes "g") (codes "y")) ∷ said 0 6 (codes "a") commands.Commit ∷ [],
  );
  one = (0, said 1 7 (codes "b") commands.Begin ∷ said 1 8 (codes "b") (put_at 0 (codes "k") (codes "z")) ∷ said 1 9 (codes "b") commands.Commit ∷ []);
  two = nobody;
  doings = begins ++ (said_to_one
      ++ made (Know 0 2 ∷ Know 2 0 ∷ Take 0 (Commanded 0) ∷ Take 2 (Handed 0) ∷ Take 2 Queues ∷ Take 0 (Handed 2) ∷ Take 0 (Commanded 0)
      ∷ Take 1 (Handed 0) ∷ Take 1 Clock ∷ Take 2 (Handed 0) ∷ Take 2 Clock ∷ Take 0 (Handed 1) ∷ Take 0 (Handed 2) ∷ Take 1 (Handed 0) ∷ Take 0 (Handed 1)
      ∷ Take 0 (Commanded 1) ∷ Take 0 (Commanded 1) ∷ Take 0 Queues ∷ Take 0 (Commanded 1) ∷ Take 0 Clock ∷ []));
}

-- ---- a node alone stops after it committed
abbrev pub stopped_alone : SmallRun
stopped_alone = record {
  size = 1;
  zero = (0, said 0 3 (codes "a") commands.Begin ∷ said 0 4 (codes "a") (put_at 0 (codes "f") (codes "x")) ∷ said 0 5 (codes "a") commands.Commit ∷ []);
  one = nobody;
  two = nobody;
  doings = made (Take 0 (Commanded 0) ∷ Take 0 (Commanded 0) ∷ Take 0 Queues ∷ Take 0 (Commanded 0) ∷ Take 0 Clock ∷ Take 0 Clock ∷ []) ++ Stop 0 ∷ Rise 0 ∷ [];
}

-- ---- a node restarts in doubt while a client elsewhere has a loan; it inquires, and then serves that client
abbrev pub in_doubt : SmallRun
in_doubt = record {
  size = 2;
  zero = (0, said 0 3 (codes "a") commands.Begin ∷ said 0 4 (codes "a") (lend_at 0 33 1) ∷ said 0 5 (codes "a") (put_at 1 (codes "f") (codes "x")) ∷ said 0 6 (codes "a") commands.Commit ∷ []);
  one = (0, said 1 7 (codes "a") commands.Take ∷ said 1 8 (codes "a") (put_at 1 (codes "g") (codes "y")) ∷ []);
  two = nobody;
  doings = begins ++ (said_here ++ (said_to_one
      ++ (made (Take 0 (Commanded 1) ∷ Take 0 (Commanded 0) ∷ Take 1 (Handed 0) ∷ Take 1 Clock ∷ Take 0 (Handed 1) ∷ [])
      ++ ((Stop 1 ∷ Rise 1 ∷ [])
      ++ made (Know 1 0 ∷ Know 0 1 ∷ Take 1 Clock ∷ Take 0 (Handed 1) ∷ Take 1 (Handed 0)
      ∷ Take 0 (Commanded 1) ∷ Take 1 (Handed 0) ∷ Take 1 (Handed 0) ∷ Take 1 Queues ∷ Take 1 Clock ∷ [])))));
}

-- ---- as the rules stand

pub record SmallRuns (alloc : Global) : Type 0 where
  pub served : broken_in alloc cut_as_served ≡ None
  pub voted : broken_in alloc cut_as_voted ≡ None
  pub asked : broken_in alloc asked_early ≡ None
  pub borrowed : broken_in alloc borrowed_again ≡ None
  pub told : broken_in alloc told_one ≡ None
  pub next : opens_next alloc told_one ≡ true
  pub stopped : broken_in alloc stopped_alone ≡ None
  pub doubt : broken_in alloc in_doubt ≡ None
