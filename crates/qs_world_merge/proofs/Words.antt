-- The words that this crate's proofs share, each from where it is defined: a proof names here what it speaks of.
pub use Rattle.std.proofs.Common.{◌≡◌, ◌∙◌, ℕ, true, List, Bool, [], ◌∷◌, refl, sym, ap, subst, false, ◌<◌, arith, ◌≤◌, ◌++◌, ◌==◌, Option, Some, None, ◌≢◌, inl, inr, ◌⊎◌, if◌then◌else◌, zero, suc, append-nil, le_refl}
pub use Rattle.std.proofs.lemmas.Bool.{cases_eq, eq-eqb}
pub use Rattle.std.proofs.lemmas.Bool.Decides.{nat_tests}
pub use Rattle.std.specs.List.{filter}
pub use Rattle.std.specs.Prelude.{cond, ◌&&◌, map, not, is_some, ⊤, option_to_list}
pub use Rattle.qs_base_lemmas.proofs.Tests.{eqb-self}
pub use Rattle.qs_book_journal.specs.declared.entry.CrashCause.{CrashCause}
pub use Rattle.qs_book_journal.specs.declared.entry.Entry.{Entry}
pub use Rattle.qs_book_machine.specs.Clauses.{is_crash}
pub use Rattle.qs_node_step.specs.Step.{effects_of}
pub use Rattle.qs_node_step.specs.declared.event.ClientAnswer.{ClientAnswer}
pub use Rattle.qs_node_step.specs.declared.event.Event.{Event}
pub use Rattle.qs_node_step.specs.declared.event.Sending.{Sending}
pub use Rattle.qs_session_channels.specs.End.{Packet, End, answer, sent_packet, tick_packets}
pub use Rattle.qs_session_channels.specs.Network.{Among, Network, with_at}
pub use Rattle.qs_world.specs.Posting.{entries_of}
pub use Rattle.qs_world.specs.World.{Parcel, Host}
pub use Rattle.qs_world_merge.specs.LocalRuns.{node_of, LocalRun, TimedMove, IsMadeAt, AnswersOwn, client_at, event_in, AnswersOnly, answers_with}
pub use Rattle.qs_world_merge.specs.MergedByKey.{of_node, is_after, InKeyOrder, is_of_node, IsMergedBy}
pub use Rattle.qs_world_merge.specs.MergedRuns.{move_key, PutBy, WasPut, SourcePut, untimed, AllPut}
pub use Rattle.qs_world_merge.specs.Reaching.{HasStampsUpTo}
pub use Rattle.qs_world_merge.specs.SameAt.{SameAt, entry_key, SameNetworkAt}
pub use Rattle.qs_world_merge.specs.StepMoves.{AreTheirMoves, StepMoves, all_moves, step_of}
pub use Rattle.qs_world_packets.specs.PacketMoves.{Source, Move, Cut, Stop, Rise, Meet, Take, event_of, moved, cut_with, step_with, Commanded, Queues, Clock, Brought, is_later, may_step, taken_by, is_in_order, may_move, may_serve, send_all, send_next}
pub use Rattle.qs_world_packets.specs.PacketRuns.{Run}
pub use Rattle.qs_world_packets.specs.PacketSessions.{plain_packet}
pub use Rattle.qs_world_packets.specs.PacketWorld.{PacketWorld, start, hello}
