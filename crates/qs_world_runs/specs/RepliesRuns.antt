-- What was posted and what waits says of numbers that were given, and of requests that were served, through each move of a run: so each reply that comes is true.
use Rattle.std.specs.Prelude.{◌≡◌, true}
use Rattle.qs_book_machine.specs.Lawful.{IsLawful}
use Rattle.qs_world.specs.Histories.{book_of}
use Rattle.qs_world.specs.Moves.{Move, may_move, moved}
use Rattle.qs_world.specs.World.{Opening, World}
use Rattle.qs_world_runs.specs.Joined.{Joined}
use Rattle.qs_world_runs.specs.JoinedPlaces.{PlacesAt}
use Rattle.qs_world_runs.specs.RepliesTrue.{RepliesAt}

-- any move whose entries are lawful
abbrev pub MovesKeepReplies : Type 0
MovesKeepReplies = (o : Opening) (world : World) (move : Move) → Joined PlacesAt o world → RepliesAt o world → may_move world move ≡ true → IsLawful (book_of o) (moved move world).journal → RepliesAt o (moved move world)
