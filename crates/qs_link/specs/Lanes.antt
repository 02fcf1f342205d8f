-- The lanes between a node and its clients: the commands that come by them, and the answers that go.
use Rattle.std.specs.Prelude.{◌≡◌, ◌==◌, Bool, List, [], ◌∷◌, ◌++◌, drop, length, Option, Some, None, Result, Ok, OnOk, IfOk, ℕ, if◌then◌else◌}
use Rattle.std.specs.List.{find}
use Rattle.qs_base.specs.declared.identifiers.ClientNo.{ClientNo}
use Rattle.qs_base.specs.declared.memory.NoMemory.{NoMemory}
use Rattle.qs_book_journal.specs.declared.script_line.LineAnswer.{LineAnswer}
use Rattle.qs_book_journal.specs.declared.script_line.ScriptLine.{ScriptLine}
use Rattle.qs_link.specs.Lane.{FeedValue, DrawValue, IsFifo, IsLane, IsFront, on_way}
use Rattle.qs_link.specs.declared.ends.NodeEnds.{NodeEnds}
use Rattle.rtrb.specs.Ring.{SameProducer, SameConsumer}

abbrev pub is_of : ClientNo → NodeEnds → Bool
is_of client end = end.client.0 == client.0

-- the lanes of a client are the first that have its number
abbrev pub ends_of : ClientNo → List NodeEnds → Option NodeEnds
ends_of client ends = find (is_of client) ends

abbrev pub at_client : ClientNo → (NodeEnds → NodeEnds) → List NodeEnds → List NodeEnds
at_client client f [] = []
at_client client f (end ∷ ends) = if is_of client end then f end ∷ ends else end ∷ at_client client f ends

-- ---- answers

abbrev pub put_to : LineAnswer → FeedValue LineAnswer → FeedValue LineAnswer
put_to answer feed = record feed { outbox = feed.outbox ++ answer ∷ [] }

abbrev pub with_answer : LineAnswer → NodeEnds → NodeEnds
with_answer answer end = record end { answers = put_to answer end.answers }

abbrev pub delivered : ClientNo → LineAnswer → List NodeEnds → List NodeEnds
delivered client answer ends = at_client client (with_answer answer) ends

-- ---- commands

abbrev pub first_of : List ScriptLine → Option ScriptLine
first_of [] = None
first_of (line ∷ lines) = Some line

-- the first that was carried
abbrev pub line_of : Option NodeEnds → Option ScriptLine
line_of None = None
line_of (Some end) = first_of end.commands.inbox

abbrev pub next_line : ClientNo → List NodeEnds → Option ScriptLine
next_line client ends = line_of (ends_of client ends)

abbrev pub taken_from : DrawValue ScriptLine → DrawValue ScriptLine
taken_from draw = record draw { inbox = drop 1 draw.inbox }

abbrev pub without_line : NodeEnds → NodeEnds
without_line end = record end { commands = taken_from end.commands }

-- ---- carrying

-- what was on its way in a lane went on towards the inbox, and all of it where nothing was refused
pub record GoesOn {T : Type 0} (from_old from_new : FeedValue T) (to_old to_new : DrawValue T) (answer : Result ℕ NoMemory) : Type 0 where
  pub lane : IsLane from_new to_new
  pub feed : SameProducer from_old.ring from_new.ring
  pub draw : SameConsumer to_old.ring to_new.ring
  pub way : on_way from_new to_new ≡ on_way from_old to_old
  pub front : IsFront to_old.inbox to_new.inbox
  pub all : OnOk answer (to_new.inbox ≡ on_way from_old to_old)
  pub held : IfOk answer (λ n. n ≡ length to_new.inbox)
  pub fifo : IsFifo from_old to_old × IsFifo from_new to_new

-- the client's feed and the node's end are of one lane, where the client has one here
abbrev pub SendsTo : FeedValue ScriptLine → Option NodeEnds → Type 0
SendsTo from None = Unit {0}
SendsTo from (Some end) = IsLane from end.commands

abbrev pub SendsFrom : Option NodeEnds → DrawValue LineAnswer → Type 0
SendsFrom None to = Unit {0}
SendsFrom (Some end) to = IsLane end.answers to

abbrev pub with_commands : DrawValue ScriptLine → NodeEnds → NodeEnds
with_commands commands end = record end { commands = commands }

abbrev pub with_answers : FeedValue LineAnswer → NodeEnds → NodeEnds
with_answers answers end = record end { answers = answers }

-- the client's commands went on into the node's end
abbrev pub CarriesIn : ClientNo → FeedValue ScriptLine → FeedValue ScriptLine → List NodeEnds → List NodeEnds → Result ℕ NoMemory → Option NodeEnds → Type 0
CarriesIn client from_old from_new old new held None = (new ≡ old) × ((from_new ≡ from_old) × (held ≡ Ok 0))
CarriesIn client from_old from_new old new held (Some end) =
    (commands : DrawValue ScriptLine) × ((new ≡ at_client client (with_commands commands) old) × GoesOn from_old from_new end.commands commands held)

-- the answers to the client went on into its end
abbrev pub CarriesOut : ClientNo → DrawValue LineAnswer → DrawValue LineAnswer → List NodeEnds → List NodeEnds → Result ℕ NoMemory → Option NodeEnds → Type 0
CarriesOut client to_old to_new old new held None = (new ≡ old) × ((to_new ≡ to_old) × (held ≡ Ok 0))
CarriesOut client to_old to_new old new held (Some end) =
    (answers : FeedValue LineAnswer) × ((new ≡ at_client client (with_answers answers) old) × GoesOn end.answers answers to_old to_new held)
