-- The words that this crate's proofs share, each from where it is defined: a proof names here what it speaks of.
pub use Rattle.std.proofs.Common.{◌≡◌, true, ℕ, refl, false, Bool, List, sym, Some, subst, ◌∙◌, [], ap, None, ◌∷◌, Option, if◌then◌else◌, ◌==◌, arith, ◌&&◌, ◌++◌, inl, inr, ◌<◌, not, ◌⊎◌, ◌+◌, ◌≤◌, ◌||◌, is_some, nat_lt, fold, length, suc, map, nat_le, le_refl, append-nil, zero, append_assoc, is_none, ◌-◌, drop, Equal, ◌≢◌, ◌^◌, Greater, Less, length-append, cond}
pub use Rattle.std.proofs.lemmas.Bool.{eqb-true, and_parts, or_right, not-true, or_parts, or_left, ltb-true, eq-eqb, and_from, lt-ltb, eqb-false, or_cases, and_right}
pub use Rattle.std.proofs.lemmas.Bool.Decides.{nat_tests}
pub use Rattle.std.proofs.lemmas.Cmp.{nat_cmp_total, tied_itself}
pub use Rattle.std.proofs.lemmas.Grind.{flat_map-append}
pub use Rattle.std.proofs.lemmas.List.Folds.{list_any-append, list_all-append}
pub use Rattle.std.proofs.lemmas.List.Sums.{fold-append}
pub use Rattle.std.proofs.lemmas.Option.{same_Some, slice_get_within}
pub use Rattle.std.specs.BTreeMap.{is_at, insert_entry}
pub use Rattle.std.specs.Cmp.{IsTotalOrder}
pub use Rattle.std.specs.Global.{Global}
pub use Rattle.std.specs.List.{list_any, filter, list_all, find}
pub use Rattle.std.specs.Map.{lookup, remove_entry, set_value}
pub use Rattle.std.specs.Option.{option_map}
pub use Rattle.std.specs.Prelude.{slice_get, unwrap_or, ⊤, slice_index_or, slice_set}
pub use Rattle.std.specs.declared.cmp.Ordering.{Ordering}
pub use Rattle.qs_world_agree.proofs.Carries.{leads_on}
pub use Rattle.qs_world_agree.proofs.Doomed.{doom_stays, abort_dooms}
pub use Rattle.qs_world_agree.specs.Carry.{Leads}
pub use Rattle.qs_world_agree.specs.Doomed.{IsDoomed, IsLeft, IsPast}
pub use Rattle.qs_world_agree.specs.World.{Committed, Open, Aborted}
pub use Rattle.qs_session_channels.specs.Channels.{Channels}
pub use Rattle.qs_session_channels.specs.Network.{with_at2}
pub use Rattle.qs_base.proofs.Same.{same_tid-self, same_tid-true, same_member-true}
pub use Rattle.qs_base.proofs.TidOrder.{tid_exact, or-true, tid_total}
pub use Rattle.qs_base.specs.Order.{same_tid, tid_cmp, same_member, member_cmp}
pub use Rattle.qs_base.specs.declared.identifiers.Class.{Class}
pub use Rattle.qs_base.specs.declared.identifiers.ClientNo.{ClientNo}
pub use Rattle.qs_base.specs.declared.identifiers.Member.{Member}
pub use Rattle.qs_base.specs.declared.identifiers.NodeNo.{NodeNo}
pub use Rattle.qs_base.specs.declared.identifiers.ServerNo.{ServerNo}
pub use Rattle.qs_base.specs.declared.identifiers.Tid.{Tid}
pub use Rattle.qs_ops.specs.Members.{class_of, is_two_phase}
pub use Rattle.qs_ops.specs.Operations.{answer_of}
pub use Rattle.qs_ops.specs.Server.{after_serving, changes_in, after_vote, vote_of, ServerValue, after_notice, is_logged, reply_of, voted_by, after_keeping, noted_by, noted_in, served_by, voted_in}
pub use Rattle.qs_ops.specs.Servers.{client_no, extra_no, is_client_no, names_no}
pub use Rattle.qs_ops.specs.Table.{share_of, TableValue, applied, after_serve, kept, released}
pub use Rattle.qs_ops.specs.Timers.{ticked}
pub use Rattle.qs_ops.specs.declared.answer.Answer.{Answer}
pub use Rattle.qs_ops.specs.declared.answer.Cause.{Cause}
pub use Rattle.qs_ops.specs.declared.operation.Op.{Op}
pub use Rattle.qs_ops.specs.declared.operation.Op.TheVariants.{Note}
pub use Rattle.qs_ops.specs.declared.reply.Reply.{Reply}
pub use Rattle.qs_ops.specs.declared.server.ServerKind.{ServerKind}
pub use Rattle.qs_ops.specs.declared.share.Share.{Share}
pub use Rattle.qs_ops.specs.declared.vote.Notice.{Notice}
pub use Rattle.qs_ops.specs.declared.vote.Vote.{Vote}
pub use Rattle.qs_record.specs.declared.record.Record.{Record}
pub use Rattle.qs_packet.specs.declared.message.Message.{Message}
pub use Rattle.qs_book_journal.specs.declared.entry.Act.{Act}
pub use Rattle.qs_book_journal.specs.declared.entry.CrashCause.{CrashCause}
pub use Rattle.qs_book_journal.specs.declared.entry.Entry.{Entry}
pub use Rattle.qs_book_journal.specs.declared.entry.Found.{Found}
pub use Rattle.qs_book_journal.specs.declared.script_line.Command.{Command}
pub use Rattle.qs_book_journal.specs.declared.script_line.ScriptLine.{ScriptLine}
pub use Rattle.qs_book_machine.proofs.Present.{request_total}
pub use Rattle.qs_book_machine.specs.Book.{BookValue, find_transaction, inc_at, cell_of_transaction, with_transaction, crossed_in}
pub use Rattle.qs_book_machine.specs.Clauses.{borrower_at, is_crash, link_to, broken_issue, has_vote, broken_issuer}
pub use Rattle.qs_book_machine.specs.Lawful.{book_after, effect, broken, broken_act, broken_at}
pub use Rattle.qs_book_machine.specs.Nodes.{is_recoverable, record_of, voter, changes_of, pending_at, voter_cmp}
pub use Rattle.qs_book_machine.specs.Opening.{opening}
pub use Rattle.qs_book_machine.specs.Restart.{is_among, record_at, is_found_as, may_be_lost, commits_found, is_committed, put_new_votes}
pub use Rattle.qs_book_machine.specs.Transaction.{TransactionValue, is_commit, standing_request, is_empty, is_standing, request_cmp, agrees, changed_value, is_unanimous, life_cmp, issued, cell_of, is_crossed, life, requests_at, sent_in, sent_on, no_part, requests_in, decided_at, learnt_part, link_cmp, agrees_in, crossed_by, ended_part, given_back, mark_served, voted_part, all_served, is_covering, is_outcome, is_served, yielded_part}
pub use Rattle.qs_book_machine.specs.declared.opened.Opened.{Opened}
pub use Rattle.qs_book_machine.specs.declared.state.OnRecord.{OnRecord}
pub use Rattle.qs_book_machine.specs.declared.state.Owner.{Owner}
pub use Rattle.qs_book_machine.specs.declared.state.Voter.{Voter}
pub use Rattle.qs_book_machine.specs.declared.transaction.Cell.{Cell}
pub use Rattle.qs_book_machine.specs.declared.transaction.Life.{Life}
pub use Rattle.qs_book_machine.specs.declared.transaction.Link.{Link}
pub use Rattle.qs_book_machine.specs.declared.transaction.Part.{Part}
pub use Rattle.qs_book_machine.specs.declared.transaction.Request.{Request}
pub use Rattle.qs_book_machine.specs.declared.transaction.RequestNo.{RequestNo}
pub use Rattle.qs_book_machine.specs.declared.transaction.Sent.{Sent}
pub use Rattle.qs_base_lemmas.proofs.Tests.{eqb-self, some_same, and_first, le_le, apart_turned, eq_le, zero_le, and_false, and_last, zero_least, and_three, is_zero_plus, some_not_zero, equal_apart, le_next, next_not_zero, none_below_zero, none_some, not_implied, plus_zero, suc_not_zero, zero_plus}
pub use Rattle.qs_book_laws.proofs.Alikes.{at_exact, tid_itself, voter_exact}
pub use Rattle.qs_book_laws.proofs.Counts.{life_equal, life_itself}
pub use Rattle.qs_book_laws.proofs.InRun.{ran_run}
pub use Rattle.qs_book_laws.proofs.LinkSteps.{paced}
pub use Rattle.qs_book_laws.proofs.Maps.{changed_apart, changed_at_here, changed_none}
pub use Rattle.qs_book_laws.proofs.Outcomes.{Inv}
pub use Rattle.qs_book_laws.proofs.Rising.{IsRising, put_rises, remove_rises, removed, IsBelow}
pub use Rattle.qs_book_laws.proofs.Steps.{after_both, held, ran, lawful_front, lawful_rest}
pub use Rattle.qs_book_laws.proofs.Turns.{Obliged, Gives, GivesFor, step_turns}
pub use Rattle.qs_book_laws.specs.Gone.{answers, counts, is_count_of}
pub use Rattle.qs_book_laws.specs.Lives.{restarts}
pub use Rattle.qs_engage.specs.Engage.{peer_of, last_number, release_of, uncovered, is_covered, is_open_to, no_peer, is_passive, next_sent, with_peer}
pub use Rattle.qs_engage.specs.Nodes.{same_node, listed}
pub use Rattle.qs_engage.specs.declared.engage.Engage.{Engage}
pub use Rattle.qs_engage.specs.declared.engage.Engaged.{Engaged}
pub use Rattle.qs_engage.specs.declared.engage.PeerPart.{PeerPart}
pub use Rattle.qs_engage.specs.declared.nodes.Nodes.{Nodes}
pub use Rattle.qs_tm.specs.Members.{class_here, is_told_class, no_member, ballot_of}
pub use Rattle.qs_tm.specs.Outcomes.{told_with_own, is_told_again, named_by, aborted_participant, committed_before, voted_before}
pub use Rattle.qs_tm.specs.Participant.{is_undecided, member_of, new_participant, is_forgotten, is_by_files, needs_pass, is_owed_by, is_answered_by, awaits_note, begun_participant, with_member, all_agree, is_ready}
pub use Rattle.qs_tm.specs.declared.manager.BeginFault.{BeginFault}
pub use Rattle.qs_tm.specs.declared.manager.Decision.{Decision}
pub use Rattle.qs_tm.specs.declared.manager.Manager.{Manager}
pub use Rattle.qs_tm.specs.declared.members.MemberPart.{MemberPart}
pub use Rattle.qs_tm.specs.declared.participant.InLog.{InLog}
pub use Rattle.qs_tm.specs.declared.participant.Outstanding.{Outstanding}
pub use Rattle.qs_tm.specs.declared.participant.Participant.{Participant}
pub use Rattle.qs_restart.specs.Recovery.{Recovery, names_transaction, recovery, Prepared, found_record, nothing_said, mark_committed}
pub use Rattle.qs_restart.specs.declared.recovered.Recovered.{Recovered}
pub use Rattle.qs_ipc.specs.Ipc.{IpcValue, queue_at, server_cmp}
pub use Rattle.qs_ipc.specs.Queue.{QueueValue, first_of}
pub use Rattle.qs_ipc.specs.declared.delivery.Delivery.{Delivery}
pub use Rattle.qs_world_walk.specs.Walked.{AtEach, done_work}
pub use Rattle.qs_world_refine.proofs.CommitIdles.{commit_clear, commit_unmet, requested}
pub use Rattle.qs_world_refine.proofs.EachCame.{case_of}
pub use Rattle.qs_world_refine.proofs.EachEvent.{StepCame, step_came}
pub use Rattle.qs_world_refine.proofs.EachMay.{from_notice, from_node, from_client, FromNotice}
pub use Rattle.qs_world_refine.proofs.Facts.{invariant}
pub use Rattle.qs_world_refine.proofs.Heads.{shown_here, face_is}
pub use Rattle.qs_world_refine.proofs.MoveGoes.{step_may, StepMay, in_run}
pub use Rattle.qs_world_refine.proofs.Moving.{up_taken, inc_taken}
pub use Rattle.qs_world_refine.proofs.NodeReady.{none_waits}
pub use Rattle.qs_world_refine.proofs.Others.{forget_apart}
pub use Rattle.qs_world_refine.proofs.Posted.{up_all, inc_all, parcels, peer_all}
pub use Rattle.qs_world_refine.proofs.SettleFrames.{settle_leaves}
pub use Rattle.qs_world_refine.proofs.SettleGoes.{settle_tid_goes}
pub use Rattle.qs_world_refine.proofs.ShownBegins.{each_begun_shown}
pub use Rattle.qs_world_refine.proofs.ShownMoves.{steady, move_shown, home_in_run, shown_fit}
pub use Rattle.qs_world_refine.proofs.SoundHolds.{known_sound}
pub use Rattle.qs_world_refine.proofs.SoundKnown.{same_is, nothing_lent}
pub use Rattle.qs_world_refine.proofs.SoundRestart.{begin_incarnation_sound}
pub use Rattle.qs_world_refine.proofs.SoundStep.{wait_carries}
pub use Rattle.qs_world_refine.proofs.SoundViews.{seen, PartSound, is_apart}
pub use Rattle.qs_world_refine.proofs.SteadyBegins.{begun_tidy, ComesFit, c, stage}
pub use Rattle.qs_world_refine.proofs.SteadyFrom.{steady_gives, begun_low}
pub use Rattle.qs_world_refine.proofs.StepAll.{node_stopped}
pub use Rattle.qs_world_refine.proofs.StillSteps.{begins_in}
pub use Rattle.qs_world_refine.proofs.TidyKeeps.{tidy_keeps, tidy_ticks}
pub use Rattle.qs_world_refine.proofs.TidyReads.{tidy_reads}
pub use Rattle.qs_world_refine.proofs.TurnOn.{is_aborted_of, is_end_of}
pub use Rattle.qs_world_refine.specs.Begun.{count_in, inc_in, may_be_known}
pub use Rattle.qs_world_refine.specs.CommitLaws.{has_request}
pub use Rattle.qs_world_refine.specs.EachMove.{ShowsAll, AllGoes}
pub use Rattle.qs_world_refine.specs.Faces.{ShowsFace}
pub use Rattle.qs_world_refine.specs.Links.{link, waiting_link}
pub use Rattle.qs_world_refine.specs.Messages.{all_said}
pub use Rattle.qs_world_refine.specs.MoveLaws.{taken_scene}
pub use Rattle.qs_world_refine.specs.NodeFaces.{face_at, began_here, outcome_seen, outcome_of}
pub use Rattle.qs_world_refine.specs.Places.{place, known_place}
pub use Rattle.qs_world_refine.specs.SaidLaws.{BeginsNew}
pub use Rattle.qs_world_refine.specs.ShownWorlds.{IsShownWorld, IsShown}
pub use Rattle.qs_world_refine.specs.Shows.{Scene, sent_to, scene_of, sight}
pub use Rattle.qs_world_refine.specs.Sights.{server_no}
pub use Rattle.qs_world_refine.specs.Sound.{is_sound, is_engaged, same_flag, where_so, is_sound_peer}
pub use Rattle.qs_world_refine.specs.SoundSteps.{commands_in_run}
pub use Rattle.qs_world_refine.specs.Steadies.{stage_of, IsSteadyWorld, MachineGives}
pub use Rattle.qs_world_refine.specs.Steady.{IsSteady}
pub use Rattle.qs_world_refine.specs.Tidy.{Stage, IsTidy, IsStage, IsTidyNode}
pub use Rattle.qs_node_kept.specs.Keeping.{no_kept, is_outcome_of}
pub use Rattle.qs_node_kept.specs.Loans.{give_back, last_taken, take_first, first_untaken, is_standing_loan, is_taken}
pub use Rattle.qs_node_kept.specs.declared.kept.KeptLabel.{KeptLabel}
pub use Rattle.qs_node_kept.specs.declared.kept.Decided.{Decided}
pub use Rattle.qs_node_kept.specs.declared.kept.Lent.{Lent}
pub use Rattle.qs_node_servers.specs.Servers.{server_at, client_of, client_server, is_client, ServersValue, with_server}
pub use Rattle.qs_node_step.specs.Answering.{kept_outcome, answer_known, answer_unknown, inquiry_came, inquiry_at_home, is_kept_commit}
pub use Rattle.qs_node_step.specs.Asking.{become_asked, block, where_undecided, ask_came, closer_came, count, refusal_came, asked_by, pass_unknown}
pub use Rattle.qs_node_step.specs.Borrowing.{borrower_command, is_aborted, is_void, lent_command, with_loan, loan_command, take, take_command, yield}
pub use Rattle.qs_node_step.specs.Bringing.{enter, answer, send, member_here, is_other, log_if, send_each, send_next, tid_of}
pub use Rattle.qs_node_step.specs.Commands.{decided_answer, request_command, request_as, begin_or_refuse, open_command, owner_command, ask, begin_command, enter_ask, begin_as, refuse_begin}
pub use Rattle.qs_node_step.specs.Deciding.{end_members, give_notices, keep_outcome, due_endings, end_member, learners_at, learn_member, learn_members, notify, decide_as, notice_of}
pub use Rattle.qs_node_step.specs.Opening.{recovered_of, new_manager, take_up}
pub use Rattle.qs_node_step.specs.Requests.{issue_as, issue_away, issue_here, enter_issue, ask_on, is_asked, label_of, with_local, reply_came, waits_as, issue, answer_issuer, enqueue, take_reply, next_local, is_issued_as}
pub use Rattle.qs_node_step.specs.Restarts.{begin_incarnation, known_tids, resume_tid, resume_home, resume_part, notice_tid, find_gone, inquire, notice_decided, notice_part, is_orphaned_by, name_again, peer_restarted, tell_again}
pub use Rattle.qs_node_step.specs.Serving.{label_at, put_label, serve_next, engage, lent_to, serve, serve_or_drop, is_dropped, make_loan, reply_here, request_came, enter_serve, learn_label, serve_all, take_in, cover_from, change_served}
pub use Rattle.qs_node_step.specs.Settling.{settle_tid, due_tids, pass_rule, settle, try, is_pass_due, may_answer, ready_rule, refuse_rule, forget_rule, is_quiet, is_busy, ready, refusal_goes_to, refuse_elsewhere, send_refusal, answer_superior, is_put_off, refuse_home, say_yes, is_lent}
pub use Rattle.qs_node_step.specs.State.{Work, with_manager, client_cmp, here, work_on, with_doings, with_queues, change_server, doings_of, with_kept, with_node, no_doings}
pub use Rattle.qs_node_step.specs.Step.{effects_of, after_step, step_work, wait_on, is_owner, happen, with_command, waiting_clients, borrower_waits, owner_waits, wait_command, waits_at, command_came, labelled, obey, abort_old, age_rule, message_came, tick, answer_waiting, accept}
pub use Rattle.qs_node_step.specs.Telling.{forget, end_record, learn, learn_unknown, record_learnt, told_unknown, end_told, names_at, take_names, take_outcome, tell_came, told_at_home, told_came, told_known, is_other_node, keep_abort_told, drop_counts, take_told}
pub use Rattle.qs_node_step.specs.Voting.{vote_with, vote_pass, vote_next, enter_vote, issue_note, owes_note, due_votes, served_count, vote_frame, change_count, log_vote}
pub use Rattle.qs_node_step.specs.declared.event.ClientAnswer.{ClientAnswer}
pub use Rattle.qs_node_step.specs.declared.event.Effects.{Effects}
pub use Rattle.qs_node_step.specs.declared.event.Event.{Event}
pub use Rattle.qs_node_step.specs.declared.event.Sending.{Sending}
pub use Rattle.qs_node_step.specs.declared.setting.Setting.{Setting}
pub use Rattle.qs_node_step.specs.declared.state.Doings.{Doings}
pub use Rattle.qs_node_step.specs.declared.state.Issued.{Issued}
pub use Rattle.qs_node_step.specs.declared.state.OpenCommand.{OpenCommand}
pub use Rattle.qs_world.specs.Histories.{book_of, opened_from}
pub use Rattle.qs_world.specs.Moves.{Source, event_of, step_with, taken_by, moved, Handed, Noticed, Step, Queues, Clock, Commanded, may_move, stepped_host, Rise, Cut, Meet, Move, Stop, cut_log, cut_with, risen_host, stopped, is_later, hand_next, stopped_host, log_after, may_step, command_of, waiting_after, client_count, handed_by}
pub use Rattle.qs_world.specs.Openings.{IsOpening, is_earlier, is_record, labels_begun, are_rising, each_below, is_age, is_audit, same_label}
pub use Rattle.qs_world.specs.Posting.{entries_of, entry_of, next_parcel, post_all, next_line}
pub use Rattle.qs_world.specs.Runs.{Run}
pub use Rattle.qs_world.specs.World.{World, Opening, Parcel, Host, start, inc_of, known_of, Client}
pub use Rattle.qs_world_lawful.proofs.Answers.{client_exact, AreApart, same_client_or}
pub use Rattle.qs_world_lawful.proofs.Apart.{same_or_apart}
pub use Rattle.qs_world_lawful.proofs.AsideGoes.{goes_aside}
pub use Rattle.qs_world_lawful.proofs.CoherentOpenings.{opens_soundly, every_of}
pub use Rattle.qs_world_lawful.proofs.Counting.{index_alike}
pub use Rattle.qs_world_lawful.proofs.EntryTurns.{Begins, Turning, by_entry, Actor, actor}
pub use Rattle.qs_world_lawful.proofs.Faces.{part_changed, filter_last, filter_more, left_elsewhere, left_here, part_unknown, queued_elsewhere, queued_here, same_server_or}
pub use Rattle.qs_world_lawful.proofs.FactsKept.{each_changed}
pub use Rattle.qs_world_lawful.proofs.FactsStages.{begin_incarnation_keeps}
pub use Rattle.qs_world_lawful.proofs.FirstComes.{coming_first}
pub use Rattle.qs_world_lawful.proofs.FoundMembers.{every_two, every_among}
pub use Rattle.qs_world_lawful.proofs.LastsAlways.{in_runs}
pub use Rattle.qs_world_lawful.proofs.LastsEntry.{lasts_on}
pub use Rattle.qs_world_lawful.proofs.LastsOpening.{lasts_ran, lasts_first, opening_empty}
pub use Rattle.qs_world_lawful.proofs.LastsWell.{LastsWell}
pub use Rattle.qs_world_lawful.proofs.LogFrames.{every_on}
pub use Rattle.qs_world_lawful.proofs.LogRecords.{every_append, every_filter, every_map, is_found_in, to_votes, of_votes}
pub use Rattle.qs_world_lawful.proofs.Marks.{put_there}
pub use Rattle.qs_world_lawful.proofs.NumberedLogs.{opened_numbered, opening_named}
pub use Rattle.qs_world_lawful.proofs.OpenedFresh.{state, state_there}
pub use Rattle.qs_world_lawful.proofs.OpenedWorld.{world_held}
pub use Rattle.qs_world_lawful.proofs.OtherWays.{HoldsOps}
pub use Rattle.qs_world_lawful.proofs.ParcelsKept.{every_more, at_two, channels_moved}
pub use Rattle.qs_world_lawful.proofs.Recordless.{Quiet, quiet_send}
pub use Rattle.qs_world_lawful.proofs.RisesWhole.{rises_well}
pub use Rattle.qs_world_lawful.proofs.SameSetting.{begin_same, happen_same, step_same}
pub use Rattle.qs_world_lawful.proofs.Still.{still_held, held_at}
pub use Rattle.qs_world_lawful.proofs.Truths.{of_some, clash, left_true, right_true, same_self}
pub use Rattle.qs_world_lawful.proofs.Turning.{Turns, turned_by}
pub use Rattle.qs_world_lawful.proofs.WholeStep.{first_held}
pub use Rattle.qs_world_lawful.specs.Amid.{InRun}
pub use Rattle.qs_world_lawful.specs.Aside.{IsOfStep, AnswersElsewhere, IsAside}
pub use Rattle.qs_world_lawful.specs.Beside.{HoldsBeside, is_committed_at, IsTrueCause, has_issued}
pub use Rattle.qs_world_lawful.specs.BesideStep.{HappensSo}
pub use Rattle.qs_world_lawful.specs.Coming.{ComesTo}
pub use Rattle.qs_world_lawful.specs.Doubtful.{doubt_at}
pub use Rattle.qs_world_lawful.specs.Entering.{HoldsWork, book_at, entries_so_far}
pub use Rattle.qs_world_lawful.specs.Face.{at_server, face_of, part_or_new, is_loan_in}
pub use Rattle.qs_world_lawful.specs.GivenStep.{first_work}
pub use Rattle.qs_world_lawful.specs.Holds.{HoldsAt, HoldsStill, HoldsTid, is_kept}
pub use Rattle.qs_world_lawful.specs.Lasting.{Lasts}
pub use Rattle.qs_world_lawful.specs.Logged.{HasCommitted, HoldsLogged, HasAborted, IsRecordSafe, IsTrueEvent, IsMarked, StandsIn, HasOutcome}
pub use Rattle.qs_world_lawful.specs.Logs.{Every, found_votes, IsVoteLogged, IsCommitLogged}
pub use Rattle.qs_world_lawful.specs.NodeFacts.{HasNodeFacts, FitsEvent, IsRunning}
pub use Rattle.qs_world_lawful.specs.Parcels.{pending, is_asking_for, pending_from, way_between, HoldsChannels, HoldsWays, IsParcel, on_its_way, ops_of}
pub use Rattle.qs_world_lawful.specs.Said.{HoldsSaid, IsApart, IsAsRecorded, IsMadeBy}
pub use Rattle.qs_world_lawful.specs.Scripts.{HoldsScripts}
pub use Rattle.qs_world_lawful.specs.Waits.{IsWithin}
pub use Rattle.qs_world_lawful.specs.WayLaws.{AreSound}
pub use Rattle.qs_world_lawful.specs.WorldLaws.{rise_entry}
pub use Rattle.qs_world_lawful.specs.Worlds.{HoldsNodeAt, HoldsUp, HoldsWorld, HoldsNodeOf, HoldsDown}
pub use Rattle.qs_world_runs.specs.Agrees.{MakesStep, nodes_in, SoundStages, PassesUndone}
pub use Rattle.qs_world_runs.specs.AlongRun.{AlongRun}
pub use Rattle.qs_world_runs.specs.Answering.{IsOfOpen, with_event}
pub use Rattle.qs_world_runs.specs.Awaited.{WaitsAt, Among, IsWaiting, IsBorrowed, is_lent_to}
pub use Rattle.qs_world_runs.specs.Awaiting.{AwaitedAt, AreAwaited, AwaitedOf, AwaitsOwn, EachIssueWaits, HoldsAwaited}
pub use Rattle.qs_world_runs.specs.ComesFind.{ComesFound}
pub use Rattle.qs_world_runs.specs.Counted.{AreTallied, IsTallied, tally_of, IsBare, Tally, given_in, waits_in, NoneBesides}
pub use Rattle.qs_world_runs.specs.CoversAhead.{HasCast}
pub use Rattle.qs_world_runs.specs.CutBatches.{FitCut, is_record_of}
pub use Rattle.qs_world_runs.specs.CutCommits.{KeptVotes}
pub use Rattle.qs_world_runs.specs.CutRecords.{IsSource, decides_of, one_if, EntersDecide, commits_of, told_commit}
pub use Rattle.qs_world_runs.specs.CutVotes.{EntersVote, IsVoteDue, IsOfPrepare}
pub use Rattle.qs_world_runs.specs.Deeds.{Deeds, deeds_of, IsKeptSo, IsStill}
pub use Rattle.qs_world_runs.specs.DeedsReplied.{IsKeptAt, IsKeptFirst, TakesInAt}
pub use Rattle.qs_world_runs.specs.Firsts.{is_noted}
pub use Rattle.qs_world_runs.specs.Joined.{Joined, book_in, HoldsRunning, ClientsAt, RunningAt, ClocksAt, HomesAt, HomesHave, IsOwnClient, LoggedAt, OwnersAt}
pub use Rattle.qs_world_runs.specs.JoinedLaws.{entries_in, WholeSteps, AfterStep, StaysUnanimousThen, book_then, CommitsSettled, IsBetweenSteps}
pub use Rattle.qs_world_runs.specs.JoinedPlaces.{PlacesAt, PlacedOf}
pub use Rattle.qs_world_runs.specs.Labels.{AreOwned}
pub use Rattle.qs_world_runs.specs.OnRecord.{is_prepare_at, is_recording}
pub use Rattle.qs_world_runs.specs.Owing.{Owes, IsAwaited, stands_awaited, stands_uncounted, OwesAt, StandsOwed}
pub use Rattle.qs_world_runs.specs.OwingAmid.{IsCommanded, Amid, Around, around, IsHeld, LeavesWaits, StandsSo, command_at, NotAwaited, Waits}
pub use Rattle.qs_world_runs.specs.OwnChanges.{is_own_vote}
pub use Rattle.qs_world_runs.specs.Placed.{Field, field_of, asked, Placed, message_of, waiting, IsPlaced, IsPresent, standing, AreIssued, EachPlaced, IsLife, EachLives, HoldsPlaced, IsMember, goes_there, IsIssued, kept_between, sent_between}
pub use Rattle.qs_world_runs.specs.PlacedActs.{OpenPlaced, is_loud, is_against, loud}
pub use Rattle.qs_world_runs.specs.PlacesAmid.{LeavesPlaces, Here, PlacedAmid, field_amid, book_amid}
pub use Rattle.qs_world_runs.specs.PlacesApart.{LeavesNone}
pub use Rattle.qs_world_runs.specs.PlacesCommits.{IsBeside}
pub use Rattle.qs_world_runs.specs.PlacesEnds.{taken, AreInOrder}
pub use Rattle.qs_world_runs.specs.PlacesFound.{PassFinds, ComesFinds, IssueFinds, WaitFinds}
pub use Rattle.qs_world_runs.specs.PlacesGo.{HoldsOr, IssuesWell, PassesWell, WaitsWell, note_op, note_request, Extends}
pub use Rattle.qs_world_runs.specs.PlacesRules.{AreLawful, IsAmid, Reaches}
pub use Rattle.qs_world_runs.specs.PlacesSteps.{WholeFound}
pub use Rattle.qs_world_runs.specs.PlacesTurns.{IsReadyAt, ShownAt}
pub use Rattle.qs_world_runs.specs.PlacesWhole.{ComesWell, ServesWell}
pub use Rattle.qs_world_runs.specs.RecordLaws.{CoversAt}
pub use Rattle.qs_world_runs.specs.RepliesTrue.{HasGiven, IsOfLast, RepliesAt, IsOfKnown, IsServed}
pub use Rattle.qs_world_runs.specs.Rooms.{AreFew, HasRoom, IsOfRun}
pub use Rattle.qs_world_runs.specs.Stays.{Stays}
pub use Rattle.qs_world_runs.specs.StepLaws.{InStep}
pub use Rattle.qs_world_runs.specs.Stores.{store_of, MayAsk, IsNoVote}
pub use Rattle.qs_world_runs.specs.Traces.{IsKept, Trace, fresh_command, trace_of, IsOrdinary}
