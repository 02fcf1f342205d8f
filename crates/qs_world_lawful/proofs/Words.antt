-- The words that this crate's proofs share, each from where it is defined: a proof names here what it speaks of.
pub use Rattle.std.proofs.Common.{◌≡◌, refl, ℕ, true, sym, false, ◌∙◌, ap, Some, Bool, List, subst, None, Option, [], ◌∷◌, if◌then◌else◌, ◌==◌, inl, inr, ◌&&◌, ◌++◌, not, is_some, ◌⊎◌, length, fold, arith, ◌||◌, nat_lt, ◌+◌, ◌≤◌, ◌<◌, suc, map, unwrap_or, ◌≢◌, zero, Equal, true≢false, Less, append-nil, Greater, is_none, append_assoc, flat_map, nat_le, ◌^◌, drop, ◌-◌, le_refl, replicate}
pub use Rattle.std.proofs.lemmas.Bool.{eqb-true, and_parts, eqb-false, false≢true, not-true, or_right, or_left, and_from, both_ways, eq-eqb, and_right, false_from_ne_true, ltb-true, lt-ltb}
pub use Rattle.std.proofs.lemmas.Bool.Decides.{nat_tests}
pub use Rattle.std.proofs.lemmas.Cmp.{tied_itself, nat_cmp_total}
pub use Rattle.std.proofs.lemmas.Grind.{flat_map-append}
pub use Rattle.std.proofs.lemmas.List.Folds.{list_any-append}
pub use Rattle.std.proofs.lemmas.List.Sums.{fold-append}
pub use Rattle.std.proofs.lemmas.Map.Lookups.{exact_unsigned, exact_pairs}
pub use Rattle.std.proofs.lemmas.Option.{same_Some, none-some, slice_get-map, slice_get_within}
pub use Rattle.std.specs.BTreeMap.{is_at, insert_entry}
pub use Rattle.std.specs.BTreeSet.{insert_key}
pub use Rattle.std.specs.Global.{Global}
pub use Rattle.std.specs.List.{list_any, filter, find, list_all}
pub use Rattle.std.specs.Map.{lookup, set_value, remove_entry}
pub use Rattle.std.specs.Option.{option_map}
pub use Rattle.std.specs.Prelude.{slice_get, ⊤, slice_set, slice_index_or, cond}
pub use Rattle.std.specs.declared.cmp.Ordering.{Ordering}
pub use Rattle.qs_session_channels.specs.Channels.{Channels}
pub use Rattle.qs_session_channels.specs.Network.{with_at2, with_at}
pub use Rattle.qs_base.proofs.Same.{same_tid-self, same_tid-true, same_member-true, same_member-self, same_bytes-self, same_bytes-true}
pub use Rattle.qs_base.proofs.TidOrder.{tid_exact, or-true, tid_total}
pub use Rattle.qs_base.specs.Order.{tid_cmp, same_tid, member_cmp, same_member, bytes_cmp}
pub use Rattle.qs_base.specs.declared.identifiers.Class.{Class}
pub use Rattle.qs_base.specs.declared.identifiers.ClientNo.{ClientNo}
pub use Rattle.qs_base.specs.declared.identifiers.Member.{Member}
pub use Rattle.qs_base.specs.declared.identifiers.NodeNo.{NodeNo}
pub use Rattle.qs_base.specs.declared.identifiers.Outcome.{Outcome}
pub use Rattle.qs_base.specs.declared.identifiers.ServerNo.{ServerNo}
pub use Rattle.qs_base.specs.declared.identifiers.Tid.{Tid}
pub use Rattle.qs_ops.specs.Members.{class_of, is_two_phase, learns_outcome}
pub use Rattle.qs_ops.specs.Operations.{answer_of}
pub use Rattle.qs_ops.specs.Server.{changes_in, ServerValue, after_serving, after_notice, after_vote, vote_of, noted_by, voted_by, voted_in, noted_in, reply_of, changes_vote, served_by}
pub use Rattle.qs_ops.specs.Servers.{names_no, scratch_no, windows_no, is_client_no, client_no}
pub use Rattle.qs_ops.specs.Table.{TableValue, share_of, applied, nothing_held, released, apply_change, served, after_serve, apply_note, committed, no_table, has_changes, holder, is_change_of, kept, reply_to, with_share}
pub use Rattle.qs_ops.specs.Timers.{timers_ended, ticked, timer_served, TimersValue}
pub use Rattle.qs_ops.specs.declared.answer.Answer.{Answer}
pub use Rattle.qs_ops.specs.declared.answer.Cause.{Cause}
pub use Rattle.qs_ops.specs.declared.file.File.{File}
pub use Rattle.qs_ops.specs.declared.operation.Op.{Op}
pub use Rattle.qs_ops.specs.declared.operation.Op.TheVariants.{Note, Append, Bind, Del, Fetch, Find, Get, Keep, Lend, Listing, Notes, Put, Title, Window, Extra, Left, Timer}
pub use Rattle.qs_ops.specs.declared.reply.Reply.{Reply}
pub use Rattle.qs_ops.specs.declared.server.ServerKind.{ServerKind}
pub use Rattle.qs_ops.specs.declared.server.ServerKind.TheVariants.{Files}
pub use Rattle.qs_ops.specs.declared.share.Share.{Share}
pub use Rattle.qs_ops.specs.declared.vote.Notice.{Notice}
pub use Rattle.qs_ops.specs.declared.vote.Reason.{Reason}
pub use Rattle.qs_ops.specs.declared.vote.Vote.{Vote}
pub use Rattle.qs_record.specs.declared.record.Record.{Record}
pub use Rattle.qs_packet.specs.declared.message.Message.{Message}
pub use Rattle.qs_book_journal.specs.declared.entry.Act.{Act}
pub use Rattle.qs_book_journal.specs.declared.entry.CrashCause.{CrashCause}
pub use Rattle.qs_book_journal.specs.declared.entry.Entry.{Entry}
pub use Rattle.qs_book_journal.specs.declared.entry.Found.{Found}
pub use Rattle.qs_book_journal.specs.declared.script_line.Command.{Command}
pub use Rattle.qs_book_journal.specs.declared.script_line.ScriptLine.{ScriptLine}
pub use Rattle.qs_book_machine.specs.Book.{BookValue, find_transaction, inc_at, with_transaction, cell_of_transaction, with_waiting, crosses, crossed_in, with_owner, doubts_after, hear, learn_node, loan_to, waiting_of, changed_at, give_back_from, with_crossing, end_node, ticks_at, begin, told, owner_of, pending_in, serve_node, tick_node, vote_node, crash_node, server_serve, crossed_serve, told_owner}
pub use Rattle.qs_book_machine.specs.Clauses.{link_to, has_no_record, borrower_at, is_fresh, is_known, broken_decide, broken_issue, is_vote, may_decide, has_vote, is_crash, is_reply, takes_lock}
pub use Rattle.qs_book_machine.specs.Lawful.{broken, effect, book_after, IsLawful, effect_act, broken_node, broken_at, broken_act}
pub use Rattle.qs_book_machine.specs.Nodes.{is_recoverable, crossed_node, bound_names, crossed_server, record_of, voter, with_table, voter_cmp, changes_of, crossed_names, crossed_table, with_doubts, with_names}
pub use Rattle.qs_book_machine.specs.Opening.{opening, name_all, name_from, name_pending, name_transaction, opened_transaction, has_commit, put_of}
pub use Rattle.qs_book_machine.specs.Restart.{is_among, member_at, record_at, new_votes, with_votes, count_of, is_open_here, abort_begun, commit_found, is_on_record, vote_found, learn_found, put_new_votes, up_to, begun_tid, votes_once, restart, begun_at, could_vote, is_new_vote, reopened, add_commit, broken_restart, commits_found, has_record, is_committed, is_same_vote, may_be_lost, new_vote, restarted_node, without_records, is_found_as}
pub use Rattle.qs_book_machine.specs.Transaction.{TransactionValue, is_commit, is_open, is_outcome, life, no_part, has_note, is_standing, requests_at, issued, changed_value, is_crossed, is_start, sent_in, served_in, sent_on, standing_request, life_cmp, decided_at, learnt, found_at, has_learnt, request_cmp, learnt_abort, may_learn_still, with_learnt, begun, is_empty, voted, cell_of, is_covering, is_unanimous, requests_in, serving_part, voted_part, asked_at, crossed_by, ended_part, learnt_part, link_cmp, mark_served, agrees, found_part, heard, start_cmp, starts_after, all_served, crossed_from, has_refusal, is_loan_due, lent, made_part, noted_cmp, sent_more, yielded_part}
pub use Rattle.qs_book_machine.specs.declared.opened.Opened.{Opened}
pub use Rattle.qs_book_machine.specs.declared.opened.Pending.{Pending}
pub use Rattle.qs_book_machine.specs.declared.state.Asking.{Asking}
pub use Rattle.qs_book_machine.specs.declared.state.OnRecord.{OnRecord}
pub use Rattle.qs_book_machine.specs.declared.state.Owner.{Owner}
pub use Rattle.qs_book_machine.specs.declared.state.Voter.{Voter}
pub use Rattle.qs_book_machine.specs.declared.transaction.Cell.{Cell}
pub use Rattle.qs_book_machine.specs.declared.transaction.Life.{Life}
pub use Rattle.qs_book_machine.specs.declared.transaction.Link.{Link}
pub use Rattle.qs_book_machine.specs.declared.transaction.Noted.{Noted}
pub use Rattle.qs_book_machine.specs.declared.transaction.Part.{Part}
pub use Rattle.qs_book_machine.specs.declared.transaction.Request.{Request}
pub use Rattle.qs_book_machine.specs.declared.transaction.RequestNo.{RequestNo}
pub use Rattle.qs_book_machine.specs.declared.transaction.Sent.{Sent}
pub use Rattle.qs_book_machine.specs.declared.transaction.Start.{Start}
pub use Rattle.qs_base_lemmas.proofs.Tests.{some_same, eqb-self, none_is, and_false, and_first, and_last, apart_turned, eqb_turned, or_last, le_le, le_suc, zero_plus, and_true, is_plus_zero, is_zero_plus, le_lt, ltb_some, zero_le}
pub use Rattle.qs_book_laws.proofs.Alikes.{tid_itself, at_exact, voter_exact, voter_equal, voter_itself}
pub use Rattle.qs_book_laws.proofs.Faces.{face, Age, Alike, age, either_way, vote_by}
pub use Rattle.qs_book_laws.proofs.Holding.{same_number, clash, left_of, restart_nodes, right_of}
pub use Rattle.qs_book_laws.proofs.Holds.{elsewhere}
pub use Rattle.qs_book_laws.proofs.InRun.{ran_run}
pub use Rattle.qs_book_laws.proofs.Maps.{lookup_put, lookup_put_apart, lookup_changed, changed_at_here, changed_apart, changed_alike, changed_none, changed_at_either, changed_at_alike, changed_either, Either, lookup_set, removed_none}
pub use Rattle.qs_book_laws.proofs.Openings.{first_book, opening_holds, opening_names}
pub use Rattle.qs_book_laws.proofs.Outcomes.{Inv, next_is}
pub use Rattle.qs_book_laws.proofs.Rising.{IsRising, put_rises, IsBelow, removed, remove_rises}
pub use Rattle.qs_book_laws.proofs.Shares.{removed_apart}
pub use Rattle.qs_book_laws.proofs.Steps.{held, after_both, lawful_front, lawful_rest, begin_may, ran, passed}
pub use Rattle.qs_book_laws.proofs.Stills.{facet, Facet}
pub use Rattle.qs_book_laws.specs.Laws.{IsCoherent}
pub use Rattle.qs_book_laws.specs.Learning.{AllLearn, is_server, learning}
pub use Rattle.qs_book_laws.specs.Served.{keeps_contents}
pub use Rattle.qs_engage.specs.Engage.{last_number, peer_of, no_peer, uncovered, is_node, release_of, new_engage, with_last}
pub use Rattle.qs_engage.specs.Nodes.{same_node, listed, is_no_node}
pub use Rattle.qs_engage.specs.declared.engage.Engage.{Engage}
pub use Rattle.qs_engage.specs.declared.engage.Engaged.{Engaged}
pub use Rattle.qs_engage.specs.declared.engage.PeerPart.{PeerPart}
pub use Rattle.qs_tm.specs.Members.{class_here, is_told_class, no_member}
pub use Rattle.qs_tm.specs.Outcomes.{told_with_own, committed_before, is_told_again, named_by, voted_before}
pub use Rattle.qs_tm.specs.Participant.{member_of, is_undecided, awaits_note, has_noted, is_forgotten, is_due_at, servers_due, new_participant, with_member, begun_participant, is_answered_by, is_owed_by, learners, waiting_for, needs_pass, is_count, only_read, with_causes_of}
pub use Rattle.qs_tm.specs.declared.manager.BeginFault.{BeginFault}
pub use Rattle.qs_tm.specs.declared.manager.Decision.{Decision}
pub use Rattle.qs_tm.specs.declared.manager.Manager.{Manager}
pub use Rattle.qs_tm.specs.declared.members.MemberPart.{MemberPart}
pub use Rattle.qs_tm.specs.declared.participant.InLog.{InLog}
pub use Rattle.qs_tm.specs.declared.participant.Outstanding.{Outstanding}
pub use Rattle.qs_tm.specs.declared.participant.Participant.{Participant}
pub use Rattle.qs_restart.specs.Recovery.{Recovery, Prepared, recovery, names_transaction, is_in_doubt, found_record, nothing_said, open_vote, mark_committed, prepare_of, found_commit, is_untold_of, is_vote_of, with_list, Untold, in_doubt, untold, found_prepare}
pub use Rattle.qs_ipc.specs.Ipc.{queue_at, IpcValue, server_cmp}
pub use Rattle.qs_ipc.specs.Queue.{QueueValue, no_queue}
pub use Rattle.qs_ipc.specs.declared.delivery.Delivery.{Delivery}
pub use Rattle.qs_node_kept.specs.Keeping.{is_outcome_of, has_label}
pub use Rattle.qs_node_kept.specs.Loans.{last_taken, first_untaken, take_first}
pub use Rattle.qs_node_kept.specs.declared.kept.KeptLabel.{KeptLabel}
pub use Rattle.qs_node_kept.specs.declared.kept.Decided.{Decided}
pub use Rattle.qs_node_kept.specs.declared.kept.Lent.{Lent}
pub use Rattle.qs_node_servers.specs.Servers.{ServersValue, with_server, server_at, is_client, client_server, client_of}
pub use Rattle.qs_node_step.specs.Answering.{kept_outcome, answer_known, answer_unknown, inquiry_came, is_kept_commit}
pub use Rattle.qs_node_step.specs.Asking.{become_asked, block, where_undecided, ask_came, asked_by, closer_came, refusal_came}
pub use Rattle.qs_node_step.specs.Borrowing.{borrower_command, is_aborted, is_void, lent_command, loan_command, take, take_command, yield}
pub use Rattle.qs_node_step.specs.Bringing.{send, enter, member_here, log, log_if, send_each, tid_of, is_other}
pub use Rattle.qs_node_step.specs.Commands.{request_command, ask, decided_answer, open_command, outcome_answer, owner_command, begin_or_refuse, enter_ask, with_issued, request_as, begin_as, refuse_begin}
pub use Rattle.qs_node_step.specs.Deciding.{give_notices, end_member, end_members, learn_member, learners_at, decide_commit, keep_outcome, due_endings, notice_of, learn_members, decide_as}
pub use Rattle.qs_node_step.specs.Opening.{recovered_of, new_manager, recovered_as, take_up, close_outcome, close_tid, is_left_open, opened_servers, outcome_in_log}
pub use Rattle.qs_node_step.specs.Requests.{issue_here, next_number, enter_issue, issue_away, local_count, reply_came, take_reply, answer_issuer, ask_on, is_asked, label_of, with_local, enqueue, issue_as, next_local, waits_as}
pub use Rattle.qs_node_step.specs.Restarts.{begin_incarnation, known_tids, resume_home, resume_part, resume_tid, notice_tid, find_gone, inquire, is_orphaned_by, notice_decided, notice_part, peer_restarted}
pub use Rattle.qs_node_step.specs.Serving.{label_at, put_label, enter_serve, serve_next, make_loan, lent_to, reply_here, cover_from, engage, is_dropped, learn_label, met, request_came, serve_or_drop, take_in}
pub use Rattle.qs_node_step.specs.Settling.{forget_rule, pass_rule, ready_rule, refuse_rule, settle, settle_tid, try, due_tids, is_pass_due, is_quiet, may_answer, answer_superior, refusal_goes_to, refuse_elsewhere, send_refusal, ready, refuse_home, say_yes, is_lent, is_put_off}
pub use Rattle.qs_node_step.specs.State.{Work, here, with_manager, client_cmp, with_queues, change_server, doings_of, with_doings, work_on, with_kept}
pub use Rattle.qs_node_step.specs.Step.{happen, is_owner, wait_on, with_command, command_came, effects_of, abort_old, after_step, labelled, obey, step_work, age_rule, message_came, owner_waits, waiting_clients, borrower_waits, wait_command, waits_at, answer_waiting, tick}
pub use Rattle.qs_node_step.specs.Telling.{forget, learn_unknown, record_learnt, names_at, take_names, take_outcome, tell_came, told_unknown, end_told, keep_abort_told, told_at_home, told_came, told_known, is_other_node, take_told, end_record}
pub use Rattle.qs_node_step.specs.Voting.{vote_with, enter_vote, served_count, issue_note, vote_frame, vote_next, vote_pass, change_count, due_votes, owes_note, log_vote}
pub use Rattle.qs_node_step.specs.declared.event.Effects.{Effects}
pub use Rattle.qs_node_step.specs.declared.event.Event.{Event}
pub use Rattle.qs_node_step.specs.declared.event.Sending.{Sending}
pub use Rattle.qs_node_step.specs.declared.setting.Setting.{Setting}
pub use Rattle.qs_node_step.specs.declared.state.Issued.{Issued}
pub use Rattle.qs_node_step.specs.declared.state.OpenCommand.{OpenCommand}
pub use Rattle.qs_world.specs.DrivenRuns.{late}
pub use Rattle.qs_world.specs.Faults.{both}
pub use Rattle.qs_world.specs.Histories.{opened_from, pending_of, opened_with}
pub use Rattle.qs_world.specs.Moves.{moved, may_move, Rise, Meet, Source, event_of, is_later, risen_host, stopped_host, Clock, Commanded, Handed, Noticed, Queues, Step, stamp_limit, stopped}
pub use Rattle.qs_world.specs.Openings.{IsOpening, are_rising, labels_begun, is_earlier, is_record}
pub use Rattle.qs_world.specs.Posting.{entry_of, entries_of, next_parcel, post_all, post_next}
pub use Rattle.qs_world.specs.World.{World, Parcel, Opening, Host, inc_of, known_of, start}
pub use Rattle.qs_world_walk.specs.Walked.{AtEach, done_work}
pub use Rattle.qs_world_lawful.specs.Agreed.{AgreementGives}
pub use Rattle.qs_world_lawful.specs.Amid.{InRun, IsSent}
pub use Rattle.qs_world_lawful.specs.Aside.{IsOfStep, IsAside}
pub use Rattle.qs_world_lawful.specs.Beside.{HoldsBeside, IsTrueCause, has_issued, HoldsPart, HoldsReads, HoldsNotes, HoldsStranger, HoldsEnded, HoldsTidBeside, awaits_count, is_note_with, HasOwner, HoldsReader, has_note_in, is_note_by, HoldsClock}
pub use Rattle.qs_world_lawful.specs.BesideStep.{HasCountRoom}
pub use Rattle.qs_world_lawful.specs.Coming.{ComesTo, ComesMessage, ComesLine}
pub use Rattle.qs_world_lawful.specs.Doubtful.{doubt_at, member_as, last_doubt, share_as}
pub use Rattle.qs_world_lawful.specs.Doubts.{HoldsDoubts, doubted, has_name, is_bind}
pub use Rattle.qs_world_lawful.specs.Entering.{book_at, HoldsWork, entries_so_far, IsAborted}
pub use Rattle.qs_world_lawful.specs.Face.{face_of, at_server, part_or_new, part_in, is_loan_here, is_given_back, is_held, is_loan_in, IsEmpty}
pub use Rattle.qs_world_lawful.specs.Filed.{HoldsFiles}
pub use Rattle.qs_world_lawful.specs.Given.{AreNoted, HasCause, MayDecide, MayPass, IsUncommitted, MayCommit, MayServe, MaySettle}
pub use Rattle.qs_world_lawful.specs.GivenStep.{first_work, tick_work, MayStep, MayAge, MayRequest, MayWait}
pub use Rattle.qs_world_lawful.specs.Holds.{HoldsTid, Holds, HoldsAt, HoldsMember, IsOwner, IsAsking, HoldsClients, HoldsHome, HasEnded, IsBehind, MayBeTold, HoldsStill, is_next, HoldsNode, HoldsVoter, covers_at_most}
pub use Rattle.qs_world_lawful.specs.Issues.{next_to}
pub use Rattle.qs_world_lawful.specs.Lasting.{Lasts, StandsOnce, IsOfNow, IsBefore}
pub use Rattle.qs_world_lawful.specs.LastingLaws.{IsNumbered}
pub use Rattle.qs_world_lawful.specs.Logged.{HoldsLogged, HasCommitted, HoldsLogs, KeepsLogs, HasAborted, Later, HoldsHost, IsNamed, IsPlain, IsPrepared, IsRecordSafe, IsKnown, KnowsLog, HasOutcome, IsCommitMade, IsMarked, StandsIn, KeepsRecords, is_plain, IsTrueEvent, LearntOn}
pub use Rattle.qs_world_lawful.specs.Logs.{Every, found_votes, IsVoteLogged, found_of, IsCutVote, HoldsStopped, IsCommitLogged, IsRecordKept, IsApplied}
pub use Rattle.qs_world_lawful.specs.NodeFacts.{HasNodeFacts, AreNumbered, AreApart, IsCommand, IsPart, locals_of, HasFacts, FitsEvent, IsRunning}
pub use Rattle.qs_world_lawful.specs.Parcels.{pending_from, HoldsChannels, on_its_way, ops_of, way_between, GoesTo, IsParcel, IsSaid, pending}
pub use Rattle.qs_world_lawful.specs.Said.{HoldsSaid, IsRecorded, IsAsRecorded, IsMadeBy, HoldsLeft, IsToBeRecorded, IsApart, SameContents, book_found}
pub use Rattle.qs_world_lawful.specs.Saying.{SaidAfter, HoldsMade, AreInDoubt, SaidAt, book_then, learn_all, IsEnd}
pub use Rattle.qs_world_lawful.specs.Scripts.{IsFresh, AreBehind, HoldsClient}
pub use Rattle.qs_world_lawful.specs.Standing.{Stands, CanCount, HoldsHomes, KeepsStanding, StandsBy}
pub use Rattle.qs_world_lawful.specs.StepOn.{StepOn}
pub use Rattle.qs_world_lawful.specs.StepStands.{StepStands}
pub use Rattle.qs_world_lawful.specs.Tables.{is_seen, HoldsServers, seen_in, HoldsTable, HoldsTimers, of_seen}
pub use Rattle.qs_world_lawful.specs.Tried.{rich}
pub use Rattle.qs_world_lawful.specs.Waits.{IsWithin, waiting_ops, standing_ops, HoldsWaits, op_in, is_idle, HoldsWaitsAt, AreFor, op_of}
pub use Rattle.qs_world_lawful.specs.WayLaws.{AreSound}
pub use Rattle.qs_world_lawful.specs.WorldLaws.{rise_entry}
pub use Rattle.qs_world_lawful.specs.Worlds.{HoldsNodeOf, HoldsKept, HoldsWorld, HoldsDown, HoldsUp, HoldsNodeAt, IsLoanOf, IsLeftOpen, IsOpenStill}
