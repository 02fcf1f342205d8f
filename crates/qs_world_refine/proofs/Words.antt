-- The words that this crate's proofs share, each from where it is defined: a proof names here what it speaks of.
pub use Rattle.std.proofs.Common.{◌≡◌, true, refl, false, ℕ, Bool, sym, ◌∙◌, List, [], ap, if◌then◌else◌, arith, subst, ◌∷◌, Some, None, ◌==◌, Option, ◌&&◌, ◌<◌, not, ◌||◌, ◌++◌, ◌≤◌, inl, inr, ◌≢◌, ◌⊎◌, ◌+◌, fold, nat_lt, is_some, length, nat_le, is_none, map, unwrap_or, drop, suc, ◌-◌, zero, append_assoc, cond, max, ◌*◌}
pub use Rattle.std.proofs.lemmas.Bool.{eqb-true, not-true, or_left, or_right, and_parts, or_from, and_right, or_parts, or_cases, and_from, eq-eqb, eqb-false, ne_eqb}
pub use Rattle.std.proofs.lemmas.Bool.Decides.{nat_tests}
pub use Rattle.std.proofs.lemmas.List.{length-set, get_or-set_other, get_or_past, set_past}
pub use Rattle.std.proofs.lemmas.List.Elements.{filter-append}
pub use Rattle.std.proofs.lemmas.List.Folds.{list_any-append, list_all-append}
pub use Rattle.std.proofs.lemmas.List.Sums.{fold-append}
pub use Rattle.std.proofs.lemmas.Option.{same_Some}
pub use Rattle.std.specs.BTreeMap.{is_at, insert_entry}
pub use Rattle.std.specs.Global.{Global}
pub use Rattle.std.specs.List.{list_any, list_all, filter, find, flat_map}
pub use Rattle.std.specs.Map.{lookup, set_value, remove_entry}
pub use Rattle.std.specs.Prelude.{slice_index_or}
pub use Rattle.std.specs.declared.cmp.Ordering.{Ordering}
pub use Rattle.std.specs.declared.cmp.Ordering.TheVariants.{Equal, Greater, Less}
pub use Rattle.qs_world_agree.proofs.Carries.{leads_on, lawful}
pub use Rattle.qs_world_agree.proofs.Counts.{Counts}
pub use Rattle.qs_world_agree.proofs.Inv.{inv_step}
pub use Rattle.qs_world_agree.proofs.Reopened.{inv_first}
pub use Rattle.qs_world_agree.proofs.Whole.{Inv}
pub use Rattle.qs_world_agree.specs.Carry.{IsLawful, Leads, Begins}
pub use Rattle.qs_world_agree.specs.Guards.{Votes, held, held_at, next, carried, next_server}
pub use Rattle.qs_world_agree.specs.Origins.{Found, Origin}
pub use Rattle.qs_world_agree.specs.Step.{Commit, Count, Cover, Join, End, Issue, Issue_local, Issue_unmet, Serve, Serve_told, Tell, Vote_read, Vote_recoverable, Vote_volatile, Yes, Yes_lost, Abort, Abort_logged, Acknowledge, Answer_abort, Answer_commit, Answer_running, Ask, Commit_unlogged, Crash, Drop_cover, Drop_engage, Drop_join, Forget, Ignore, Inquire, Inquire_home, Inquire_lost, Learn, Learn_abort, Learn_abort_home, Name_again, Restart, Restart_home, Restart_in_doubt, Take_names, Take_told, Tell_abort, Vote_abort, Yield, Checkpoint, Commit_cut, Force, Learn_cut, Learn_home, Miss, Refuse}
pub use Rattle.qs_world_agree.specs.World.{Open, Committed, Aborted, with_at3}
pub use Rattle.qs_session_channels.specs.Channels.{Channels}
pub use Rattle.qs_base.proofs.TidOrder.{tid_exact, or-false, or-true}
pub use Rattle.qs_base.specs.Order.{same_tid, tid_cmp}
pub use Rattle.qs_base.specs.declared.identifiers.Class.{Class}
pub use Rattle.qs_base.specs.declared.identifiers.ClientNo.{ClientNo}
pub use Rattle.qs_base.specs.declared.identifiers.Member.{Member}
pub use Rattle.qs_base.specs.declared.identifiers.NodeNo.{NodeNo}
pub use Rattle.qs_base.specs.declared.identifiers.ServerNo.{ServerNo}
pub use Rattle.qs_base.specs.declared.identifiers.Tid.{Tid}
pub use Rattle.qs_ops.specs.Members.{class_of, is_two_phase}
pub use Rattle.qs_ops.specs.Operations.{answer_of}
pub use Rattle.qs_ops.specs.Server.{vote_of, ServerValue, after_serving, changes_in, after_notice, after_vote, number_of}
pub use Rattle.qs_ops.specs.Timers.{ticked}
pub use Rattle.qs_ops.specs.declared.answer.Answer.{Answer}
pub use Rattle.qs_ops.specs.declared.answer.Cause.{Cause}
pub use Rattle.qs_ops.specs.declared.operation.Op.{Op}
pub use Rattle.qs_ops.specs.declared.operation.Op.TheVariants.{Note}
pub use Rattle.qs_ops.specs.declared.reply.Reply.{Reply}
pub use Rattle.qs_ops.specs.declared.server.ServerKind.{ServerKind}
pub use Rattle.qs_ops.specs.declared.vote.Vote.{Vote}
pub use Rattle.qs_record.specs.declared.record.Record.{Record}
pub use Rattle.qs_packet.specs.declared.message.Message.{Message}
pub use Rattle.qs_book_journal.specs.declared.entry.CrashCause.{CrashCause}
pub use Rattle.qs_book_journal.specs.declared.script_line.Command.{Command}
pub use Rattle.qs_book_journal.specs.declared.script_line.ScriptLine.{ScriptLine}
pub use Rattle.qs_book_machine.specs.Clauses.{is_crash}
pub use Rattle.qs_book_machine.specs.Nodes.{is_recoverable}
pub use Rattle.qs_base_lemmas.proofs.Tests.{eqb-self, or_last, or_first, and_false, false-or, and_last, implied, never_not, none_is, and_first, never_both, not_never, or_assoc}
pub use Rattle.qs_engage.specs.Engage.{peer_of, last_number, no_peer, uncovered, release_of, is_node, new_engage, next_sent, engaged, is_covered, with_last, with_peer}
pub use Rattle.qs_engage.specs.Nodes.{same_node, listed, no_nodes, put_node, is_no_node, joined, put_where, has_all, union, with_listed, without}
pub use Rattle.qs_engage.specs.declared.engage.Engaged.{Engaged}
pub use Rattle.qs_engage.specs.declared.engage.PeerPart.{PeerPart}
pub use Rattle.qs_engage.specs.declared.nodes.Nodes.{Nodes}
pub use Rattle.qs_tm.specs.Manager.{is_one, changed_value}
pub use Rattle.qs_tm.specs.Members.{no_member, class_here, files_no, is_told_class, ballot_of}
pub use Rattle.qs_tm.specs.Outcomes.{is_abort, aborted_participant, committed_before, named_by, told_with_own, writes_commit, record_of, voted_before, drawn_in, is_told_again, new_names}
pub use Rattle.qs_tm.specs.Participant.{is_undecided, new_participant, member_of, is_forgotten, is_by_files, needs_pass, with_member, is_owed_by, begun_participant, only_read, is_due_at, servers_due}
pub use Rattle.qs_tm.specs.declared.manager.BeginFault.{BeginFault}
pub use Rattle.qs_tm.specs.declared.manager.Decision.{Decision}
pub use Rattle.qs_tm.specs.declared.manager.Manager.{Manager}
pub use Rattle.qs_tm.specs.declared.manager.Which.{Which}
pub use Rattle.qs_tm.specs.declared.members.Cast.{Cast}
pub use Rattle.qs_tm.specs.declared.members.MemberPart.{MemberPart}
pub use Rattle.qs_tm.specs.declared.participant.InLog.{InLog}
pub use Rattle.qs_tm.specs.declared.participant.Outstanding.{Outstanding}
pub use Rattle.qs_tm.specs.declared.participant.Participant.{Participant}
pub use Rattle.qs_restart.specs.Recovery.{recovery, Recovery, names_transaction, found_record, is_untold_of, Untold, Prepared, nothing_said, is_vote_of, in_doubt, mark_committed, untold, commit_of, ended, prepare_of, with_list}
pub use Rattle.qs_ipc.specs.Ipc.{IpcValue, queue_at, server_cmp, waits_in}
pub use Rattle.qs_ipc.specs.Queue.{is_for, QueueValue, count_of, first_of, no_queue, added, after_first, mark_stale}
pub use Rattle.qs_ipc.specs.declared.delivery.Delivery.{Delivery}
pub use Rattle.qs_node_kept.specs.Keeping.{is_outcome_of, no_kept, has_label}
pub use Rattle.qs_node_kept.specs.Loans.{is_standing_loan, last_taken, give_back, take_first, first_untaken, is_taken, is_untaken}
pub use Rattle.qs_node_kept.specs.declared.kept.Decided.{Decided}
pub use Rattle.qs_node_kept.specs.declared.kept.Kept.{Kept}
pub use Rattle.qs_node_kept.specs.declared.kept.Lent.{Lent}
pub use Rattle.qs_node_servers.specs.Servers.{server_at, audit_no, client_of, is_client, ServersValue, timers_no, with_server, client_server}
pub use Rattle.qs_node_step.specs.Answering.{was_committed, kept_outcome, is_kept_commit, answer_known, answer_unknown, inquiry_came}
pub use Rattle.qs_node_step.specs.Asking.{block, become_asked, asked_by, count, pass_unknown, refusal_came, where_undecided, ask_came, closer_came}
pub use Rattle.qs_node_step.specs.Borrowing.{is_void, take, borrower_command, lent_command, loan_command, with_loan, yield, take_command}
pub use Rattle.qs_node_step.specs.Bringing.{send, enter, is_forced, is_other, tid_of, log_if, member_here, send_each, answer, log, send_next}
pub use Rattle.qs_node_step.specs.Commands.{decided_answer, with_issued, begin_or_refuse, enter_ask, request_as, request_command, ask, begin_as, begin_command, open_command, owner_command, refuse_begin}
pub use Rattle.qs_node_step.specs.Deciding.{give_notices, decide, end_members, due_endings, end_member, learners_at, learn_member, decide_commit, keep_outcome, notify, decide_as, learn_members}
pub use Rattle.qs_node_step.specs.Opening.{recovered_of, new_manager, recovered_as, take_up, opened_manager, opened_node}
pub use Rattle.qs_node_step.specs.Requests.{enter_issue, next_number, issue_away, with_local, issue_here, reply_came, ask_on, is_asked, issue_as, label_of, take_reply, waits_as, answer_issuer, issue}
pub use Rattle.qs_node_step.specs.Restarts.{notice_tid, resume_home, resume_part, resume_tid, find_gone, inquire, known_tids, notice_decided, notice_part, begin_incarnation, is_orphaned_by, name_again, peer_restarted}
pub use Rattle.qs_node_step.specs.Serving.{label_at, put_label, learn_label, cover_from, is_dropped, serve_next, take_in, engage, lent_to, request_came, serve, reply_here, serve_or_drop, enter_serve, give_reply, make_loan, change_served, serve_all}
pub use Rattle.qs_node_step.specs.Settling.{is_lent, may_answer, ready_rule, forget_rule, refuse_rule, is_quiet, say_yes, try, pass_rule, refusal_goes_to, send_refusal, is_pass_due, is_busy, refuse_elsewhere, settle_tid, answer_superior, due_tids, settle}
pub use Rattle.qs_node_step.specs.State.{Work, part_of, with_manager, NodeValue, here, with_queues, client_cmp, change_server, work_on, doings_of, with_doings, with_kept, with_node}
pub use Rattle.qs_node_step.specs.Step.{message_came, effects_of, step_work, after_step, happen, with_command, is_owner, accept, obey, abort_old, age_rule, answer_waiting, borrower_waits, labelled, owner_waits, wait_command, wait_on, waiting_clients, command_came, tick}
pub use Rattle.qs_node_step.specs.Telling.{forget, record_learnt, keep_abort_told, learn, learn_unknown, told_known, told_unknown, names_at, take_outcome, end_record, end_told, is_other_node, take_names, told_at_home, tell_came, told_came, take_told, drop_counts, names_of}
pub use Rattle.qs_node_step.specs.Voting.{vote_with, enter_vote, served_count, vote_frame, vote_next, change_count, due_votes, issue_note, note_text, owes_note, vote_pass}
pub use Rattle.qs_node_step.specs.declared.event.Effects.{Effects}
pub use Rattle.qs_node_step.specs.declared.event.Sending.{Sending}
pub use Rattle.qs_node_step.specs.declared.setting.Setting.{Setting}
pub use Rattle.qs_node_step.specs.declared.state.Doings.{Doings}
pub use Rattle.qs_node_step.specs.declared.state.Issued.{Issued}
pub use Rattle.qs_node_step.specs.declared.state.OpenCommand.{OpenCommand}
pub use Rattle.qs_world.proofs.Below.{each_is}
pub use Rattle.qs_world.specs.Moves.{event_of, Source, cut_with, Cut, step_with, Stop, Rise, risen_host, stopped, cut_log, stopped_host, stepped_host, Commanded, Noticed, Queues, may_step, moved, reopened, taken_by, Clock, Handed, is_in_order, is_later, risen, Move, may_move, command_of, log_after, client_count, hand_next}
pub use Rattle.qs_world.specs.Openings.{IsOpening, are_unended, is_in_run, is_whole_log, is_audit, is_record, is_setting, is_earlier, is_list, is_untold, is_committed_at_home}
pub use Rattle.qs_world.specs.Posting.{next_parcel, post_all}
pub use Rattle.qs_world.specs.World.{Parcel, Host, start, Opening, known_of}
pub use Rattle.qs_world_refine.specs.BeginLaws.{IsUnbegun}
pub use Rattle.qs_world_refine.specs.Begun.{count_in, inc_in, may_be_known, fits, fits_record, may_command, past_among, begun_among, is_list_at, is_drawn}
pub use Rattle.qs_world_refine.specs.DecisionLaws.{IsHome, ShowsTold, HasNoDoubt}
pub use Rattle.qs_world_refine.specs.EachMove.{ShowsAll, AllGoes, KeepsDecided, MessagesFit}
pub use Rattle.qs_world_refine.specs.EventLaws.{IsCut}
pub use Rattle.qs_world_refine.specs.Faces.{Face, ShowsFace, ShowsOpen}
pub use Rattle.qs_world_refine.specs.InquireLaws.{MayInquire}
pub use Rattle.qs_world_refine.specs.InquiryLaws.{telling_face}
pub use Rattle.qs_world_refine.specs.JoinLaws.{is_loose_of, are_in_turn, is_forced_of}
pub use Rattle.qs_world_refine.specs.Lefts.{reopening_seen}
pub use Rattle.qs_world_refine.specs.Links.{node_no, link, Said, waiting_link, IsLink, names_node, Closed, Requested, Outcome_told, Taken_in, Link, Inquired, IsEmpty, IsTold}
pub use Rattle.qs_world_refine.specs.Lists.{tell_of_part, AreListed, last_list, tell_at, later_list}
pub use Rattle.qs_world_refine.specs.MeetingLaws.{met_at}
pub use Rattle.qs_world_refine.specs.Messages.{all_said, said, IsForeign}
pub use Rattle.qs_world_refine.specs.MoveLaws.{IsSeated, is_record_of, AllClose, MayClose, taken_scene, ShowsWorld, WorldGoes, StepShown, sight_logged, is_cut_with}
pub use Rattle.qs_world_refine.specs.NodeFaces.{face_at, face, began_here, part_at, is_past_commit, uncast_of, unknown_at_home, outcome_seen, unknown, loans_at, outcome_of}
pub use Rattle.qs_world_refine.specs.OutcomeWhole.{AgreesWith, KeepsPast}
pub use Rattle.qs_world_refine.specs.PassLaws.{HasKinds}
pub use Rattle.qs_world_refine.specs.Places.{place, known_place, class_in}
pub use Rattle.qs_world_refine.specs.RestartLaws.{noticed, IsNoticed}
pub use Rattle.qs_world_refine.specs.RiseLaws.{IsRisenFace, sight_risen_as, outcome_at_home, ArePlaced}
pub use Rattle.qs_world_refine.specs.SaidLaws.{no_flags, SaysOn, BeginsNew, AreSaid, flags_at, AreSoundOver, are_left_open, BeginsNewAt, lists_others, IsSaid, MayMoveOver}
pub use Rattle.qs_world_refine.specs.Seen.{SightGoes, sight_faced, Runs, FaceReady, sight_taken, Meets, took_in, engaged_by, NamedGoes, drew, sight_agreed, sight_returned, sight_said, MayVote, lent_one, served_one, sight_committed}
pub use Rattle.qs_world_refine.specs.SeenOutcome.{sight_waiting}
pub use Rattle.qs_world_refine.specs.ServeWhole.{CanCount}
pub use Rattle.qs_world_refine.specs.SettleLaws.{IsElsewhere}
pub use Rattle.qs_world_refine.specs.ShownWorlds.{IsShownWorld, IsShown}
pub use Rattle.qs_world_refine.specs.Shows.{Scene, sight_during, ShowsWork, handed, scene_of, sight, Shows, said_during, message_of, unmet_during}
pub use Rattle.qs_world_refine.specs.Sights.{Sight, ShowsSight, server_no, is_in_doubt, list_of, ShowsLog, ShowsStage}
pub use Rattle.qs_world_refine.specs.Sound.{where_so, is_sound, same_flag, in_order, is_sound_part, has_doubt, may_be_served, goes_in_run, is_sound_peer, is_whole, fits_setting, is_past, is_list_of, is_owned_label, is_sound_delivery, is_sound_loan, is_sound_queue, may_vote, is_owned, is_sound_member, is_engaged, is_less, is_sound_label, may_take_up, kept_before, is_covered_vote, is_kept_part, is_label_before, is_loan_before, is_sound_superior, is_sound_home, is_sound_said, is_superior, keeps_commits, keeps_owned, tells_nobody}
pub use Rattle.qs_world_refine.specs.SoundLaws.{StaysSound}
pub use Rattle.qs_world_refine.specs.SoundMoves.{MayStep}
pub use Rattle.qs_world_refine.specs.SoundSteps.{begun, FitsMessage, MayHappen, commands_in_run, is_open_in_run}
pub use Rattle.qs_world_refine.specs.Stands.{Stands, GoesOn, may_doubt}
pub use Rattle.qs_world_refine.specs.Starts.{IsNewFace, IsUnseen, opening_seen, MayBegin, SaysNothing, begins_at, is_of_other}
pub use Rattle.qs_world_refine.specs.Steadies.{IsSteadyWorld, stage_of, MachineGives, are_two, is_steady_parcel, GivesAt, IsSteadyHost, is_steady_record, is_steady_line, stage_with, MachineMoves}
pub use Rattle.qs_world_refine.specs.Steady.{IsSteady, HasBegun, is_fit_message, are_queues_apart}
pub use Rattle.qs_world_refine.specs.SteadyFacts.{KnowsNothing}
pub use Rattle.qs_world_refine.specs.Steps.{Goes, IsAt, IsNext, IsWhole, IsKnown, IsToldSet}
pub use Rattle.qs_world_refine.specs.TakenLaws.{rest_behind}
pub use Rattle.qs_world_refine.specs.Tidy.{Stage, IsTidy, IsStage, IsTidyNode, is_tidy_record, is_tidy_label, is_tidy_loan, is_settled, is_tidy_outcome, is_tidy_part, IsCrossed, is_begun_delivery, is_begun_queue, is_tidy_command, is_tidy_superior, are_servers_apart, is_tidy_sending}
pub use Rattle.qs_world_refine.specs.ToldWhole.{TakesTold}
pub use Rattle.qs_world_refine.specs.Walks.{Keeps, Reads, is_run, is_homed, IsPlain, MayForget, begins_one, is_decided, MayLog, TicksOn}
