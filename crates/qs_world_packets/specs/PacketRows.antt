-- Two nodes over packets that are lost, repeated and late: their histories are lawful, those of runs over channels.
use Rattle.std.specs.Prelude.{◌≡◌, ℕ, ◌==◌, true, List, [], ◌∷◌, ◌++◌, codes, None, if◌then◌else◌}
use Rattle.std.specs.Global.{Global}
use Rattle.qs_book_journal.specs.declared.script_line.Command.TheVariants as commands
use Rattle.qs_book_journal.specs.declared.script_line.ScriptLine.{ScriptLine}
use Rattle.qs_book_machine.specs.Lawful.{first_broken}
use Rattle.qs_world.specs.DrivenRuns.{put_at, said}
use Rattle.qs_world.specs.Histories.{book_of}
use Rattle.qs_world.specs.Scenes.{alone, setting_of}
use Rattle.qs_world.specs.TwoNodes.{remote_script, remote_journal, gone_journal}
use Rattle.qs_world.specs.World.{Opening}
use Rattle.qs_world_packets.specs.PacketPlays.{Play, Commands, Serves, Ticks, Sends, Comes, Stops, Rises, may_play, played}
use Rattle.qs_world_packets.specs.PacketWorld.{PacketWorld, start}

-- node 0 has a request for node 1, of which it knows nothing, so it waits; both greet each other, and one greeting comes twice; the request goes twice
-- and comes twice, the later packet first; and so does the reply
abbrev pub put_plays : List Play
put_plays =
    Commands 0 1 0 ∷ Commands 0 2 0 ∷ Sends 0 2 1 ∷ Sends 1 0 0 ∷ Comes 0 3 1 0 ∷ Comes 1 4 0 0 ∷ Comes 1 4 0 0 ∷ Sends 0 3 1 ∷ Sends 0 3 1
    ∷ Comes 1 5 0 0 ∷ Comes 1 5 0 1 ∷ Serves 1 6 ∷ Sends 1 6 0 ∷ Comes 0 7 1 0 ∷ Comes 0 7 1 1 ∷ []

-- it commits, and what came before comes again in between
abbrev pub remote_plays : List Play
remote_plays =
    put_plays ++ Commands 0 8 0 ∷ Comes 1 9 0 2 ∷ Comes 1 9 0 0 ∷ Ticks 1 10 ∷ Comes 0 11 1 2 ∷ Comes 0 11 1 0 ∷ Comes 1 12 0 0 ∷ Comes 0 13 1 0 ∷ []

abbrev pub remote_world : Global → PacketWorld
remote_world alloc = played (start (alone alloc 2 remote_script)) remote_plays

pub record RowRemote (alloc : Global) : Type 0 where
  pub plays : may_play (start (alone alloc 2 remote_script)) remote_plays ≡ true
  pub journal : (remote_world alloc).journal ≡ remote_journal
  pub files : ((remote_world alloc).hosts 1).node.servers.files.table.contents ≡ record { name = codes "f"; content = codes "hello" } ∷ []

-- node 1 stops before its vote, and restarts; the request comes once more, by which it knows node 0 again, and nothing is handed up, nor is what asks for
-- the vote; the home sees the restart by what is owed for these, and aborts; a packet of the earlier incarnation comes late
abbrev pub gone_plays : List Play
gone_plays =
    put_plays ++ Commands 0 8 0 ∷ Stops 1 9 ∷ Rises 1 10 2 ∷ Comes 1 11 0 1 ∷ Comes 1 11 0 0 ∷ Sends 1 11 0 ∷ Comes 0 12 1 0 ∷ Comes 0 12 1 1 ∷ Comes 1 13 0 0 ∷ Comes 0 14 1 0 ∷ []

abbrev pub gone_world : Global → PacketWorld
gone_world alloc = played (start (alone alloc 2 remote_script)) gone_plays

pub record RowGone (alloc : Global) : Type 0 where
  pub plays : may_play (start (alone alloc 2 remote_script)) gone_plays ≡ true
  pub journal : (gone_world alloc).journal ≡ gone_journal
  pub files : ((gone_world alloc).hosts 1).node.servers.files.table.contents ≡ []

-- ---- two clients of node 0 put a file each at node 1

abbrev pub pair_lines : ℕ → List ScriptLine
pair_lines k =
    if k == 0 then said 0 2 (codes "a") commands.Begin ∷ said 0 3 (codes "a") (put_at 1 (codes "f") (codes "x")) ∷ said 0 4 (codes "a") commands.Commit ∷ []
    else if k == 1 then said 1 5 (codes "b") commands.Begin ∷ said 1 6 (codes "b") (put_at 1 (codes "g") (codes "y")) ∷ said 1 7 (codes "b") commands.Commit ∷ []
    else []

abbrev pub pair : Global → Opening
pair alloc = record { alloc = alloc; size = 2; settings = setting_of 2; logs = λ n. []; clients = λ k. (0, pair_lines k) }

-- the later request comes first, and is handed up where it comes again behind the other one; so do replies; then node 1 restarts, and its greeting comes
-- before any message of its new incarnation
abbrev pub reordered_plays : List Play
reordered_plays =
    Commands 0 1 0 ∷ Commands 0 2 1 ∷ Sends 0 2 1 ∷ Comes 1 3 0 0 ∷ Sends 1 3 0 ∷ Comes 0 4 1 0 ∷ Commands 0 5 0 ∷ Commands 0 6 1
    ∷ Comes 1 7 0 0 ∷ Comes 1 7 0 1 ∷ Comes 1 8 0 0 ∷ Serves 1 9 ∷ Comes 0 10 1 0 ∷ Comes 0 10 1 1 ∷ Comes 0 11 1 0
    ∷ Stops 1 12 ∷ Rises 1 13 2 ∷ Sends 1 13 0 ∷ Comes 0 14 1 0 ∷ Commands 0 15 0 ∷ Commands 0 16 1 ∷ []

abbrev pub reordered_world : Global → PacketWorld
reordered_world alloc = played (start (pair alloc)) reordered_plays

pub record RowReordered (alloc : Global) : Type 0 where
  pub plays : may_play (start (pair alloc)) reordered_plays ≡ true
  pub lawful : first_broken (book_of (pair alloc)) (reordered_world alloc).journal ≡ None
  pub ended : (((reordered_world alloc).clients 0).lines ≡ []) × (((reordered_world alloc).clients 1).lines ≡ [])
