-- The laws of messages about an outcome that bring nothing new: what shows the work before shows it after.
use Rattle.std.specs.Prelude.{◌≡◌, ◌≢◌, ℕ, false, List, Some, None}
use Rattle.std.specs.List.{list_any}
use Rattle.qs_base.specs.declared.identifiers.NodeNo.{NodeNo}
use Rattle.qs_base.specs.declared.identifiers.Outcome.{Outcome}
use Rattle.qs_base.specs.declared.identifiers.Outcome.TheVariants as outcomes
use Rattle.qs_base.specs.declared.identifiers.Tid.{Tid}
use Rattle.qs_packet.specs.declared.message.Message.{Message}
use Rattle.qs_packet.specs.declared.message.Message.TheVariants as messages
use Rattle.qs_tm.specs.declared.participant.Participant.{Participant}
use Rattle.qs_node_step.specs.State.{Work, part_of}
use Rattle.qs_node_step.specs.Step.{message_came}
use Rattle.qs_node_step.specs.Telling.{is_other_node}
use Rattle.qs_world_agree.specs.World.{World}
use Rattle.qs_world_agree.specs.Carry.{IsLawful}
use Rattle.qs_world_refine.specs.Links.{node_no}
use Rattle.qs_world_refine.specs.Shows.{Scene, ShowsWork, handed}
use Rattle.qs_world_refine.specs.Steps.{IsAt, IsNext, Knows, Goes}

-- a Tell with commit comes from the home's node to another one
pub record IsToldCommit (tid : Tid) (scene : Scene) (n m i : ℕ) (rest : List Message) (work : Work) : Type 0 where
  pub at : IsAt scene n work
  pub next : IsNext scene n m i (messages.Tell tid outcomes.Commit) rest
  pub from_home : m ≡ tid.home.0

-- which knows nothing of it: Acknowledge
abbrev pub TellCommitUnknownGoes : Type 0
TellCommitUnknownGoes = (tid : Tid) (scene : Scene) (n m i : ℕ) (rest : List Message) (work : Work) (w : World) → ShowsWork tid scene n work w
    → IsToldCommit tid scene n m i rest work → part_of tid work ≡ None
    → Goes tid (handed scene m i n rest) n (message_came (node_no m) (messages.Tell tid outcomes.Commit) work) w

-- which knows the commit: Acknowledge
abbrev pub TellCommitAgainGoes : Type 0
TellCommitAgainGoes = (tid : Tid) (scene : Scene) (n m i : ℕ) (rest : List Message) (work : Work) (part : Participant) (w : World) → IsLawful w → ShowsWork tid scene n work w
    → IsToldCommit tid scene n m i rest work → Knows tid work part → part.engage.home ≡ false → part.outcome ≡ Some outcomes.Commit
    → Goes tid (handed scene m i n rest) n (message_came (node_no m) (messages.Tell tid outcomes.Commit) work) w

-- a Tell comes to the home's node: no event
abbrev pub TellHomeGoes : Type 0
TellHomeGoes = (tid : Tid) (scene : Scene) (m i : ℕ) (outcome : Outcome) (rest : List Message) (work : Work) (w : World) → ShowsWork tid scene tid.home.0 work w
    → IsAt scene tid.home.0 work → IsNext scene tid.home.0 m i (messages.Tell tid outcome) rest
    → Goes tid (handed scene m i tid.home.0 rest) tid.home.0 (message_came (node_no m) (messages.Tell tid outcome) work) w

-- a Told comes to another node than the home: no event
abbrev pub ToldElsewhereGoes : Type 0
ToldElsewhereGoes = (tid : Tid) (scene : Scene) (n m i : ℕ) (further : List NodeNo) (rest : List Message) (work : Work) (w : World) → ShowsWork tid scene n work w
    → IsAt scene n work → IsNext scene n m i (messages.Told tid further) rest → tid.home.0 ≢ n
    → Goes tid (handed scene m i n rest) n (message_came (node_no m) (messages.Told tid further) work) w

-- one comes to the home's node, which has not decided it, or knows nothing of it and is told of nobody else: no event
abbrev pub ToldRunningGoes : Type 0
ToldRunningGoes = (tid : Tid) (scene : Scene) (m i : ℕ) (further : List NodeNo) (rest : List Message) (work : Work) (part : Participant) (w : World) → ShowsWork tid scene tid.home.0 work w
    → IsAt scene tid.home.0 work → IsNext scene tid.home.0 m i (messages.Told tid further) rest → part_of tid work ≡ Some part → part.outcome ≡ None
    → Goes tid (handed scene m i tid.home.0 rest) tid.home.0 (message_came (node_no m) (messages.Told tid further) work) w

abbrev pub ToldNobodyGoes : Type 0
ToldNobodyGoes = (tid : Tid) (scene : Scene) (m i : ℕ) (further : List NodeNo) (rest : List Message) (work : Work) (w : World) → ShowsWork tid scene tid.home.0 work w
    → IsAt scene tid.home.0 work → IsNext scene tid.home.0 m i (messages.Told tid further) rest → part_of tid work ≡ None → list_any (is_other_node tid) further ≡ false
    → Goes tid (handed scene m i tid.home.0 rest) tid.home.0 (message_came (node_no m) (messages.Told tid further) work) w
