-- Asking, voting and settling are the same where the node knows of other Commits.
use Rattle.std.proofs.Common.{◌≡◌, ◌∙◌, ℕ, List, [], ◌∷◌, refl, ap, fold, Option, Some, None}
use Rattle.std.specs.Prelude.{not, ◌&&◌, if◌then◌else◌}
use Rattle.qs_base.specs.declared.identifiers.NodeNo.{NodeNo}
use Rattle.qs_base.specs.declared.identifiers.Tid.{Tid}
use Rattle.qs_base.specs.declared.identifiers.ServerNo.{ServerNo}
use Rattle.qs_base.specs.declared.identifiers.Outcome.TheVariants as outcomes
use Rattle.qs_ops.specs.Server.{vote_of}
use Rattle.qs_ops.specs.declared.answer.Cause.{Cause}
use Rattle.qs_ops.specs.declared.operation.Op.TheVariants.{Note}
use Rattle.qs_ops.specs.declared.vote.Vote.{Vote}
use Rattle.qs_ops.specs.declared.vote.Vote.TheVariants as votes
use Rattle.qs_packet.specs.declared.message.Message.TheVariants as messages
use Rattle.qs_engage.specs.Nodes.{same_node, listed}
use Rattle.qs_engage.specs.Engage.{uncovered, is_node, release_of}
use Rattle.qs_tm.specs.Participant.{is_undecided, is_forgotten}
use Rattle.qs_tm.specs.Outcomes.{told_with_own}
use Rattle.qs_tm.specs.Members.{files_no}
use Rattle.qs_tm.specs.Manager as tm
use Rattle.qs_tm.specs.declared.participant.Participant.{Participant}
use Rattle.qs_node_servers.specs.Servers.{server_at, audit_no}
use Rattle.qs_node_step.specs.State.{Work, here, part_of, with_manager, doings_of}
use Rattle.qs_node_step.specs.Bringing.{send}
use Rattle.qs_node_step.specs.Telling.{forget}
use Rattle.qs_node_step.specs.Asking.{become_asked, asked_by, ask_came, count, closer_came, block, pass_unknown, refusal_came}
use Rattle.qs_node_step.specs.Deciding.{decide, end_members, decide_commit}
use Rattle.qs_node_step.specs.Voting.{vote_pass, change_count, owes_note, note_text, issue_note, enter_vote, log_vote, vote_with, vote_frame, vote_next, due_votes}
use Rattle.qs_node_step.specs.Settling.{is_pass_due, pass_rule, may_answer, is_quiet, say_yes, answer_superior, ready, ready_rule, refusal_goes_to, send_refusal, refuse_elsewhere, refuse_home, refuse_rule, forget_rule, try, settle_tid, due_tids, settle}
use Rattle.qs_world_forgetting.specs.Knowing.{work_knowing}
use Rattle.qs_world_forgetting.proofs.KnowingDeeds.{Commutes, unchanged, decide_commit_goes, decide_goes, end_members_goes, fold_goes, if_goes, opt_goes, same_goes, send_each_goes, send_goes, unless_goes, when_goes, where_goes}
use Rattle.qs_world_forgetting.proofs.KnowingRequests.{issue_goes}

module _ (c : List Tid) where
  -- ---- asking, counting, refusals

  pub become_asked_goes : (tid : Tid) (part : Participant) → Commutes c (become_asked tid part)
  become_asked_goes tid part w = send_each_goes c (listed (uncovered part.engage)) (messages.AskVote tid) (with_manager (tm.ask tid) w)

  pub ask_came_goes : (peer : NodeNo) (tid : Tid) → Commutes c (ask_came peer tid)
  ask_came_goes peer tid w = where_goes c tid (asked_by peer tid) (λ part u. when_goes c (is_node peer part.engage.superior && (not part.engage.home && not part.asked)) (become_asked tid part) (become_asked_goes tid part) u) w

  pub closer_goes : (peer : NodeNo) (tid : Tid) (up_to : ℕ) (told : List NodeNo) → Commutes c (closer_came peer tid up_to told)
  closer_goes peer tid up_to told w = where_goes c tid (λ part. count peer tid up_to told) (λ part u. refl) w

  pub refusal_goes : (tid : Tid) (cause : Cause) → Commutes c (refusal_came tid cause)
  refusal_goes tid cause w = opt_goes c (part_of tid w) (pass_unknown tid cause) (λ part u. if is_undecided part then block tid cause u else u)
      (λ u. unless_goes c (same_node tid.home (here u)) (send tid.home (messages.VotedAbort tid cause)) (send_goes c tid.home (messages.VotedAbort tid cause)) u) (λ part u. when_goes c (is_undecided part) (block tid cause) (λ v. refl) u) w

  -- ---- vote pass

  issue_note_goes : (tid : Tid) (o : Option NodeNo) → Commutes c (issue_note tid o)
  issue_note_goes tid None w = refl
  issue_note_goes tid (Some node) w = issue_goes c tid files_no (record { node = node; server = audit_no }) (Note (note_text tid (here w) (change_count tid w.node))) (change_count tid w.node) w

  log_vote_goes : (ballot : Vote) (tid : Tid) (server : ServerNo) → Commutes c (log_vote ballot tid server)
  log_vote_goes (votes.Abort reason) tid server w = refl
  log_vote_goes votes.ReadOnly tid server w = refl
  log_vote_goes votes.Volatile tid server w = refl
  log_vote_goes votes.Recoverable tid server w = refl

  vote_next_goes : (tid : Tid) (server : ServerNo) → Commutes c (λ w. vote_next tid w server)
  vote_next_goes tid server w = if_goes c (owes_note tid server w) (issue_note tid w.node.setting.audit) (vote_with tid server (vote_of (server_at w.node.servers server) tid w.room (vote_frame w))) (issue_note_goes tid w.node.setting.audit)
      (λ u. log_vote_goes (vote_of (server_at w.node.servers server) tid w.room (vote_frame w)) tid server (enter_vote tid server (vote_of (server_at w.node.servers server) tid w.room (vote_frame w)) u)) w

  vote_pass_goes : (tid : Tid) → Commutes c (vote_pass tid)
  vote_pass_goes tid w = ap (λ (v : Work). fold (vote_next tid) v (due_votes tid w)) (end_members_goes c tid w) ∙ fold_goes c (vote_next tid) (vote_next_goes tid) (due_votes tid w) (end_members tid w)

  -- ---- settling

  pass_goes : (tid : Tid) (part : Participant) → Commutes c (pass_rule tid part)
  pass_goes tid part w = when_goes c (is_pass_due tid part w) (vote_pass tid) (vote_pass_goes tid) w

  superior_goes : (tid : Tid) (part : Participant) → Commutes c (answer_superior tid part)
  superior_goes tid part w = opt_goes c (release_of part.engage) unchanged (λ superior u. say_yes tid part superior u) (same_goes c)
      (λ superior u. send_goes c superior.0 (messages.VotedYes tid superior.1 (listed (told_with_own (here u) part))) (with_manager (tm.released tid) u)) w

  ready_goes : (tid : Tid) (part : Participant) → Commutes c (ready tid part)
  ready_goes tid part w = if_goes c part.engage.home (λ u. if is_quiet (doings_of tid u) then decide_commit tid u else u) (answer_superior tid part) (λ u. when_goes c (is_quiet (doings_of tid u)) (decide_commit tid) (decide_commit_goes c tid) u) (superior_goes tid part) w

  ready_rule_goes : (tid : Tid) (part : Participant) → Commutes c (ready_rule tid part)
  ready_rule_goes tid part w = when_goes c (may_answer tid part w) (ready tid part) (ready_goes tid part) w

  refuse_elsewhere_goes : (tid : Tid) (part : Participant) → Commutes c (refuse_elsewhere tid part)
  refuse_elsewhere_goes tid part w = fold_goes c (send_refusal tid (refusal_goes_to tid part)) (λ cause u. send_goes c (refusal_goes_to tid part) (messages.VotedAbort tid cause) u) part.causes (with_manager (tm.take_causes tid) w)

  first_goes : (tid : Tid) (list : List Cause) (w : Work) → ◌≡◌ {A = Work} (elim list [ [] ↦ work_knowing c w | cause ∷ more ↦ decide tid outcomes.Abort (Some cause) (work_knowing c w) ]) (work_knowing c (elim list [ [] ↦ w | cause ∷ more ↦ decide tid outcomes.Abort (Some cause) w ]))
  first_goes tid [] w = refl
  first_goes tid (cause ∷ more) w = decide_goes c tid outcomes.Abort (Some cause) w

  refuse_goes : (tid : Tid) (part : Participant) → Commutes c (refuse_rule tid part)
  refuse_goes tid part w = if_goes c part.engage.home (refuse_home tid part) (refuse_elsewhere tid part) (λ u. first_goes tid part.causes u) (refuse_elsewhere_goes tid part) w

  forget_goes : (tid : Tid) (part : Participant) → Commutes c (forget_rule tid part)
  forget_goes tid part w = when_goes c (is_forgotten part) (forget tid) (λ u. refl) w

  settle_tid_goes : (tid : Tid) → Commutes c (λ w. settle_tid w tid)
  settle_tid_goes tid w =
      let passed : Work = try tid pass_rule w in
      let readied : Work = try tid ready_rule passed in
      let refused : Work = try tid refuse_rule readied in
      ap (λ (v : Work). try tid forget_rule (try tid refuse_rule (try tid ready_rule v))) (where_goes c tid (pass_rule tid) (pass_goes tid) w)
      ∙ ap (λ (v : Work). try tid forget_rule (try tid refuse_rule v)) (where_goes c tid (ready_rule tid) (ready_rule_goes tid) passed)
      ∙ ap (try tid forget_rule) (where_goes c tid (refuse_rule tid) (refuse_goes tid) readied)
      ∙ where_goes c tid (forget_rule tid) (forget_goes tid) refused

  pub settle_goes : Commutes c settle
  settle_goes w = fold_goes c settle_tid settle_tid_goes (due_tids w) w
