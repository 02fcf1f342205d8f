-- What a step of a node enters of files says what the node's setting says: a refusal names its quota, and a note goes to its audit node.
use Rattle.std.specs.Prelude.{◌≡◌, ⊤, ℕ, ◌==◌, true, List, Some}
use Rattle.qs_ops.specs.Servers.{files_no}
use Rattle.qs_ops.specs.declared.operation.Op.{Op}
use Rattle.qs_ops.specs.declared.operation.Op.TheVariants.{Note}
use Rattle.qs_ops.specs.declared.server.ServerKind.TheVariants as kinds
use Rattle.qs_ops.specs.declared.vote.Reason.TheVariants as reasons
use Rattle.qs_ops.specs.declared.vote.Vote.{Vote}
use Rattle.qs_ops.specs.declared.vote.Vote.TheVariants as votes
use Rattle.qs_book_journal.specs.declared.entry.Act.{Act}
use Rattle.qs_book_journal.specs.declared.entry.Act.TheVariants as acts
use Rattle.qs_node_step.specs.State.{NodeValue}
use Rattle.qs_node_step.specs.Step.{effects_of}
use Rattle.qs_node_step.specs.declared.event.Event.{Event}
use Rattle.qs_node_step.specs.declared.setting.Setting.{Setting}
use Rattle.qs_world.specs.Moves.{Move, moved}
use Rattle.qs_world.specs.World.{Opening, World, start}
use Rattle.qs_world_lawful.specs.Logs.{Every}

-- ---- an act

abbrev pub NamesQuota : ℕ → Vote → Type 0
NamesQuota quota (votes.Abort (reasons.Quota bytes limit)) = limit ≡ quota
NamesQuota quota vote = ⊤

abbrev pub IsNote : Op → Type 0
IsNote op = (text : List ℕ) × (op ≡ Note text)

abbrev pub IsAsSet : Setting → Act → Type 0
IsAsSet setting (acts.Vote tid member vote covers) = (member.server.0 == files_no) ≡ true → NamesQuota setting.quota vote
IsAsSet setting (acts.Issue tid issuer member number op) = (issuer.server.0 == files_no) ≡ true → (setting.audit ≡ Some member.node) × IsNote op
IsAsSet setting act = ⊤

-- ---- a step of a node whose files have the quota of its setting

abbrev pub HasItsQuota : NodeValue → Type 0
HasItsQuota node = node.servers.files.kind ≡ kinds.Files node.setting.quota

abbrev pub StepsAsSet : Type 0
StepsAsSet = (node : NodeValue) (event : Event) (free : ℕ) → HasItsQuota node → Every (IsAsSet node.setting) (effects_of node event free).entries

-- ---- a run: each node goes on with the quota and the audit node that it began with

pub record IsSetAs (setting : Setting) (node : NodeValue) : Type 0 where
  pub audit : node.setting.audit ≡ setting.audit
  pub quota : node.setting.quota ≡ setting.quota
  pub files : HasItsQuota node

abbrev pub SetAt : Opening → World → Type 0
SetAt o world = (n : ℕ) → IsSetAs (o.settings n) (world.hosts n).node

abbrev pub OpensSet : Type 0
OpensSet = (o : Opening) → SetAt o (start o)

abbrev pub MovesKeepSet : Type 0
MovesKeepSet = (o : Opening) (world : World) (move : Move) → SetAt o world → SetAt o (moved move world)
