-- The lanes of a node stay those that its clients have the other ends of.
use Rattle.std.specs.Prelude.{◌≡◌, ⊤, List, [], ◌∷◌}
use Rattle.qs_base.specs.declared.identifiers.ClientNo.{ClientNo}
use Rattle.qs_book_journal.specs.declared.script_line.LineAnswer.{LineAnswer}
use Rattle.qs_book_journal.specs.declared.script_line.ScriptLine.{ScriptLine}
use Rattle.qs_link.specs.Lanes.{ends_of, SendsTo, SendsFrom}
use Rattle.qs_link.specs.declared.ends.NodeEnds.{NodeEnds}
use Rattle.qs_link.specs.Lane.{FeedValue, DrawValue}

-- the ends of one client: nothing was pushed into a ring, and nothing popped
pub record HasSameRings (old new : NodeEnds) : Type 0 where
  pub client : new.client ≡ old.client
  pub commands : new.commands.ring ≡ old.commands.ring
  pub answers : new.answers.ring ≡ old.answers.ring

-- the ends of each
abbrev pub HaveSameRings : List NodeEnds → List NodeEnds → Type 0
HaveSameRings [] [] = ⊤
HaveSameRings (old ∷ olds) (new ∷ news) = HasSameRings old new × HaveSameRings olds news
HaveSameRings _ _ = ⊥

-- an end elsewhere that is joined to one of a client's lanes here is still joined to it
pub record StayJoined (old new : List NodeEnds) : Type 0 where
  pub commands : (client : ClientNo) (feed : FeedValue ScriptLine) → SendsTo feed (ends_of client old) → SendsTo feed (ends_of client new)
  pub answers : (client : ClientNo) (draw : DrawValue LineAnswer) → SendsFrom (ends_of client old) draw → SendsFrom (ends_of client new) draw
