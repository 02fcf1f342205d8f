-- What the messages of a channel say of one transaction.
use Rattle.std.specs.Prelude.{◌≡◌, Bool, true, false, List, [], ◌∷◌, if◌then◌else◌}
use Rattle.std.specs.List.{flat_map}
use Rattle.qs_base.specs.Order.{same_tid}
use Rattle.qs_base.specs.declared.identifiers.Outcome.{Outcome}
use Rattle.qs_base.specs.declared.identifiers.Outcome.TheVariants as outcomes
use Rattle.qs_base.specs.declared.identifiers.Tid.{Tid}
use Rattle.qs_packet.specs.declared.message.Message.{Message}
use Rattle.qs_packet.specs.declared.message.Message.TheVariants as messages
use Rattle.qs_world_refine.specs.Links.{Said, Requested, Closed, Outcome_told, Taken_in, Inquired}

abbrev pub is_commit : Outcome → Bool
is_commit outcomes.Commit = true
is_commit outcomes.Abort = false

-- of another transaction nothing
abbrev pub if_same : Tid → Tid → Said → List Said
if_same tid other what = if same_tid tid other then what ∷ [] else []

abbrev pub said : Tid → Message → List Said
said tid (messages.Request t label member number issuer op) = if_same tid t (Requested number member.server.0)
said tid (messages.Covered t up_to) = if_same tid t (Closed up_to [])
said tid (messages.VotedYes t up_to told) = if_same tid t (Closed up_to told)
said tid (messages.Tell t outcome) = if_same tid t (Outcome_told (is_commit outcome))
said tid (messages.Told t further) = if_same tid t (Taken_in further)
said tid (messages.Inquire t) = if_same tid t Inquired
said tid messages.Hello = []
said tid (messages.Answered t member number reply) = []
said tid (messages.AskVote t) = []
said tid (messages.VotedAbort t cause) = []

-- what a channel says of it
abbrev pub all_said : Tid → List Message → List Said
all_said tid sent = flat_map (said tid) sent

-- it is about another transaction
abbrev pub IsForeign : Tid → Message → Type 0
IsForeign t messages.Hello = Unit {0}
IsForeign t (messages.Request tid label member number issuer op) = same_tid t tid ≡ false
IsForeign t (messages.Answered tid member number reply) = same_tid t tid ≡ false
IsForeign t (messages.AskVote tid) = same_tid t tid ≡ false
IsForeign t (messages.Covered tid up_to) = same_tid t tid ≡ false
IsForeign t (messages.VotedYes tid up_to told) = same_tid t tid ≡ false
IsForeign t (messages.VotedAbort tid cause) = same_tid t tid ≡ false
IsForeign t (messages.Tell tid outcome) = same_tid t tid ≡ false
IsForeign t (messages.Told tid further) = same_tid t tid ≡ false
IsForeign t (messages.Inquire tid) = same_tid t tid ≡ false
