-- The words that this crate's proofs share, each from where it is defined: a proof names here what it speaks of.
pub use Rattle.std.proofs.Common.{◌≡◌, true, refl, Bool, false, List, ℕ, ◌∙◌, Some, ap, sym, Option, None, subst, [], ◌∷◌, if◌then◌else◌, ◌==◌, ◌&&◌, arith, nat_lt, ◌++◌, inl, ◌||◌, fold, inr, ◌⊎◌, ◌+◌, ◌<◌, length, not, ◌≤◌, flat_map, le_refl, suc, ◌-◌, zero, append_assoc, map}
pub use Rattle.std.proofs.lemmas.Bool.{or_right, eq-eqb, or_left, ltb-true}
pub use Rattle.std.proofs.lemmas.Bool.Decides.{nat_tests}
pub use Rattle.std.proofs.lemmas.Cmp.{nat_cmp_total, tied_itself}
pub use Rattle.std.proofs.lemmas.List.{append-nil}
pub use Rattle.std.proofs.lemmas.List.Sums.{fold-append}
pub use Rattle.std.proofs.lemmas.Map.Lookups.{exact_unsigned, exact_pairs}
pub use Rattle.std.proofs.lemmas.Option.{slice_get-map}
pub use Rattle.std.specs.BTreeMap.{is_at, insert_entry}
pub use Rattle.std.specs.List.{list_any, list_all, AllByRecursion, All, find}
pub use Rattle.std.specs.Map.{lookup, remove_entry, set_value}
pub use Rattle.std.specs.Option.{option_map}
pub use Rattle.std.specs.Ordering.{nat_cmp, match_ordering}
pub use Rattle.std.specs.Prelude.{slice_get, is_some, unwrap_or, nat_le, slice_set, cond, ⊤}
pub use Rattle.std.specs.declared.cmp.Ordering.{Ordering}
pub use Rattle.std.specs.declared.cmp.Ordering.TheVariants.{Equal, Greater, Less}
pub use Rattle.qs_base.proofs.Same.{same_tid-true, same_member-true, same_tid-self, same_member-self}
pub use Rattle.qs_base.proofs.TidOrder.{tid_exact, or-false, tid_total}
pub use Rattle.qs_base.specs.Order.{same_tid, tid_cmp, same_member, member_cmp}
pub use Rattle.qs_base.specs.declared.identifiers.Class.{Class}
pub use Rattle.qs_base.specs.declared.identifiers.ClientNo.{ClientNo}
pub use Rattle.qs_base.specs.declared.identifiers.Member.{Member}
pub use Rattle.qs_base.specs.declared.identifiers.NodeNo.{NodeNo}
pub use Rattle.qs_base.specs.declared.identifiers.Outcome.{Outcome}
pub use Rattle.qs_base.specs.declared.identifiers.Tid.{Tid}
pub use Rattle.qs_ops.specs.Alike.{same_cause}
pub use Rattle.qs_ops.specs.Members.{class_of, is_two_phase}
pub use Rattle.qs_ops.specs.Servers.{files_no, is_client_no}
pub use Rattle.qs_ops.specs.Table.{TableValue, share_of, kept, applied, committed, released, served, no_table, restarted, apply_change, apply_note, nothing_held}
pub use Rattle.qs_ops.specs.Timers.{timer_served, timers_ended}
pub use Rattle.qs_ops.specs.declared.answer.Cause.{Cause}
pub use Rattle.qs_ops.specs.declared.operation.Op.{Op}
pub use Rattle.qs_ops.specs.declared.reply.Reply.{Reply}
pub use Rattle.qs_ops.specs.declared.share.KeptChanges.{KeptChanges}
pub use Rattle.qs_ops.specs.declared.share.Share.{Share}
pub use Rattle.qs_ops.specs.declared.vote.Vote.{Vote}
pub use Rattle.qs_book_journal.specs.declared.entry.Act.{Act}
pub use Rattle.qs_book_journal.specs.declared.entry.Act.TheVariants.{Issue, Loan, Serve, Yield, Ending, Learn, Counted, Restart, Ask, Begin, Crash, Decide, Tick}
pub use Rattle.qs_book_journal.specs.declared.entry.Entry.{Entry}
pub use Rattle.qs_book_journal.specs.declared.entry.Found.{Found}
pub use Rattle.qs_book_machine.specs.Book.{BookValue, find_transaction, inc_at, with_transaction, is_done, changed_at, crossed_in, cell_of_transaction, learn_node, doubts_after, hear, waiting_of, with_owner, with_waiting, crosses, decide, begin, vote_node, answer, give_back_from, loan_to, tick_node, with_node, crash_node, ticks_at, end_node, issue, serve_node, with_crossing, server_serve, learn, pending_in, vote, crossed_serve, serve, count, end, give_back, loan, owner_of}
pub use Rattle.qs_book_machine.specs.Clauses.{borrower_at, link_to, broken_vote, broken_learn, is_vote_due, broken_serve, broken_issue, may_learn, broken_decide, broken_outcome, may_decide, broken_ending, broken_issuer, has_vote, is_numbered, is_server_vote, may_end}
pub use Rattle.qs_book_machine.specs.Lawful.{effect, broken, broken_act, book_after, IsLawful, effect_act, broken_at, is_in_order, broken_node}
pub use Rattle.qs_book_machine.specs.Nodes.{NodeValue, voter_cmp, voter, pending_at, record_of, changes_of, with_table, crossed_node, crossed_names, crossed_server, without_record, crossed_table}
pub use Rattle.qs_book_machine.specs.Opening.{opening, opened_node, name_all, name_from, name_pending, name_transaction, keep_pending, note_of, opened_transaction, put_of, put_record}
pub use Rattle.qs_book_machine.specs.Restart.{member_at, put_new_votes, record_at, is_among, restart, reopened, restarted_node, with_votes, commit_found, new_votes, abort_begun, begun_at, up_to, vote_found, broken_restart, is_open_here, begun_tid, count_of, learn_found, without_records, decide_found, changes_at, is_found_commit, is_kept_at, keep_found, new_votes_at, is_found, is_found_as, is_kept, is_new_vote, new_vote, vote_as_stopped}
pub use Rattle.qs_book_machine.specs.Transaction.{TransactionValue, part_of, issued, found_at, is_crossed, is_open, learnt, serving_part, standing_request, changed_value, decided_at, learnt_part, voted_part, begun, given_back, lent, agrees, counted, heard, is_commit, voted, with_learnt, asked_at, found_part, is_empty, is_unanimous, served_in, life, life_cmp, requests_at, all_served, cell_of, crossed_by, is_abort, is_by_files, is_gone, is_open_link, is_open_to, link_cmp, made_part, no_part, peer_of, yielded_part, agrees_in, borrower, ended, ended_part, heard_by, is_by_client, is_covering, is_outcome, is_standing, may_learn_still, node_cmp, request_cmp, sent_in, sent_more, sent_on, with_counted}
pub use Rattle.qs_book_machine.specs.declared.opened.Opened.{Opened}
pub use Rattle.qs_book_machine.specs.declared.opened.Pending.{Pending}
pub use Rattle.qs_book_machine.specs.declared.state.Asking.{Asking}
pub use Rattle.qs_book_machine.specs.declared.state.OnRecord.{OnRecord}
pub use Rattle.qs_book_machine.specs.declared.state.Owner.{Owner}
pub use Rattle.qs_book_machine.specs.declared.state.Reopened.{Reopened}
pub use Rattle.qs_book_machine.specs.declared.state.Voter.{Voter}
pub use Rattle.qs_book_machine.specs.declared.transaction.Cell.{Cell}
pub use Rattle.qs_book_machine.specs.declared.transaction.Life.{Life}
pub use Rattle.qs_book_machine.specs.declared.transaction.Link.{Link}
pub use Rattle.qs_book_machine.specs.declared.transaction.Part.{Part}
pub use Rattle.qs_book_machine.specs.declared.transaction.Peer.{Peer}
pub use Rattle.qs_book_machine.specs.declared.transaction.Request.{Request}
pub use Rattle.qs_book_machine.specs.declared.transaction.RequestNo.{RequestNo}
pub use Rattle.qs_book_machine.specs.declared.transaction.Sent.{Sent}
pub use Rattle.qs_base_lemmas.proofs.Tests.{and_false, eqb-self, and_last, le_one_more, false-or, lt_lt, or_assoc, zero_plus}
pub use Rattle.qs_book_laws.specs.Durable.{IsKept, Applies}
pub use Rattle.qs_book_laws.specs.Gone.{is_counted, is_count_of, ran_as, restarts_into}
pub use Rattle.qs_book_laws.specs.Laws.{IsCoherent, IsCommitted, IsDecided, LeavesCommitted, TakesCommitted}
pub use Rattle.qs_book_laws.specs.Lives.{restarts, is_restart}
pub use Rattle.qs_book_laws.specs.Served.{held_at, keeps_contents, crossed_at, is_share, change_served, lets_go, changes_served, votes_on, change_of_request, standing_at}
