-- The words that this crate's proofs share, each from where it is defined: a proof names here what it speaks of.
pub use Rattle.std.proofs.Common.{Bool, List, None, Option, Some, [], false, fold, if◌then◌else◌, inl, inr, not, refl, subst, sym, true, ℕ, ◌&&◌, ◌++◌, ◌∷◌, ◌≡◌}
pub use Rattle.std.specs.BTreeMap.{is_at}
pub use Rattle.std.specs.Map.{lookup}
pub use Rattle.qs_base.specs.declared.identifiers.ClientNo.{ClientNo}
pub use Rattle.qs_base.specs.declared.identifiers.Member.{Member}
pub use Rattle.qs_base.specs.declared.identifiers.NodeNo.{NodeNo}
pub use Rattle.qs_base.specs.declared.identifiers.Outcome.{Outcome}
pub use Rattle.qs_base.specs.declared.identifiers.ServerNo.{ServerNo}
pub use Rattle.qs_base.specs.declared.identifiers.Tid.{Tid}
pub use Rattle.qs_ops.specs.declared.operation.Op.{Op}
pub use Rattle.qs_engage.specs.Nodes.{listed, same_node}
pub use Rattle.qs_tm.specs.Participant.{is_undecided}
pub use Rattle.qs_tm.specs.declared.participant.Participant.{Participant}
pub use Rattle.qs_packet.specs.declared.message.Message.{Message}
pub use Rattle.qs_node_step.specs.Asking.{become_asked}
pub use Rattle.qs_node_step.specs.Bringing.{answer, send}
pub use Rattle.qs_node_step.specs.Deciding.{decide, end_members}
pub use Rattle.qs_node_step.specs.Requests.{issue_as, next_number}
pub use Rattle.qs_node_step.specs.Serving.{label_at}
pub use Rattle.qs_node_step.specs.State.{Work, doings_of, here, part_of, with_doings, with_manager, with_queues}
pub use Rattle.qs_node_step.specs.declared.event.Event.{Event}
pub use Rattle.qs_node_step.specs.declared.state.OpenCommand.{OpenCommand}
pub use Rattle.qs_world_walk.specs.May.{InHand}
pub use Rattle.qs_world_walk.specs.Stage.{Later, Settles, Stage, Waits, after, before, during}
pub use Rattle.qs_world_walk.specs.Walked.{Table}
pub use Rattle.qs_world_walk.specs.Whole.{Whole}
