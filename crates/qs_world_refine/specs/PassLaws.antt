-- The law of a vote pass: what shows the work before shows it after.
use Rattle.std.specs.Prelude.{◌≡◌, ℕ, ◌<◌, true, None, Some}
use Rattle.qs_base.specs.declared.identifiers.Tid.{Tid}
use Rattle.qs_ops.specs.Server.{number_of}
use Rattle.qs_node_servers.specs.Servers.{server_at}
use Rattle.qs_tm.specs.declared.participant.Participant.{Participant}
use Rattle.qs_node_step.specs.Settling.{pass_rule}
use Rattle.qs_node_step.specs.State.{NodeValue, Work, part_of}
use Rattle.qs_world_agree.specs.World.{World}
use Rattle.qs_world_agree.specs.Carry.{IsLawful}
use Rattle.qs_world_refine.specs.Shows.{Scene, ShowsWork}
use Rattle.qs_world_refine.specs.Sights.{server_no}
use Rattle.qs_world_refine.specs.Sound.{is_sound}
use Rattle.qs_world_refine.specs.Steps.{IsAt, Goes}

-- each server of the node is of the kind that has its number
abbrev pub HasKinds : NodeValue → Type 0
HasKinds node = (s : ℕ) → s < 7 → number_of (server_at node.servers (server_no s)).kind ≡ s

-- every server whose vote is due votes, or files that owe a note issue it: an event for each vote, and Issue, Issue_unmet or Issue_local for the note. A
-- note to a server of the same node waits there while the servers behind files vote, so the machine issues it behind their votes
abbrev pub PassRuleGoes : Type 0
PassRuleGoes = (tid : Tid) (scene : Scene) (n : ℕ) (work : Work) (part : Participant) (w : World) → IsLawful w → ShowsWork tid scene n work w
    → IsAt scene n work → is_sound work.node ≡ true → HasKinds work.node → part_of tid work ≡ Some part → part.outcome ≡ None
    → Goes tid scene n (pass_rule tid part work) w
