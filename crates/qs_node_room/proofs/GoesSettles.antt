-- What holds of each thing that a step does holds of votes, decisions and outcomes, and of all that a node does of itself at the end of a step.
use Rattle.std.proofs.Common.{◌≡◌, ℕ, ◌&&◌, not, Bool, true, false, List, [], ◌∷◌, Option, Some, None, is_none, refl, sym, ap, subst, ◌∙◌, fold, if◌then◌else◌}
use Rattle.std.specs.Prelude.{is_some}
use Rattle.qs_base.specs.declared.identifiers.NodeNo.{NodeNo}
use Rattle.qs_base.specs.declared.identifiers.Outcome.{Outcome}
use Rattle.qs_base.specs.declared.identifiers.Outcome.TheVariants as outcomes
use Rattle.qs_base.specs.declared.identifiers.ServerNo.{ServerNo}
use Rattle.qs_base.specs.declared.identifiers.Tid.{Tid}
use Rattle.qs_engage.specs.Engage.{release_of}
use Rattle.qs_engage.specs.Nodes.{is_no_node, listed}
use Rattle.qs_book_journal.specs.declared.entry.Act.TheVariants as acts
use Rattle.qs_ops.specs.Server.{vote_of}
use Rattle.qs_ops.specs.declared.answer.Cause.{Cause}
use Rattle.qs_ops.specs.declared.answer.Cause.TheVariants as causes
use Rattle.qs_ops.specs.declared.operation.Op.TheVariants.{Note}
use Rattle.qs_ops.specs.declared.vote.Notice.{Notice}
use Rattle.qs_ops.specs.declared.vote.Notice.TheVariants as notices
use Rattle.qs_ops.specs.Server.{after_notice}
use Rattle.qs_packet.specs.declared.message.Message.TheVariants as messages
use Rattle.qs_record.specs.declared.record.Record.TheVariants as made
use Rattle.qs_node_servers.specs.Servers.{audit_no, server_at}
use Rattle.qs_node_step.specs.Bringing.{enter, log_if, member_here}
use Rattle.qs_node_step.specs.Deciding.{decide, decide_as, decide_commit, due_endings, end_member, end_members, give_notices, keep_outcome, learn_member, learn_members, learners_at, notice_of, notify}
use Rattle.qs_node_step.specs.Settling.{answer_superior, due_tids, forget_rule, is_pass_due, is_quiet, may_answer, pass_rule, ready, ready_rule, refusal_goes_to, refuse_elsewhere, refuse_home, refuse_rule, say_yes, send_refusal, settle, settle_tid, try}
use Rattle.qs_node_step.specs.State.{Work, change_server, doings_of, here, part_of, with_manager}
use Rattle.qs_node_step.specs.Telling.{end_record, forget, learn}
use Rattle.qs_node_step.specs.Voting.{change_count, due_votes, issue_note, note_text, owes_note, vote_frame, vote_next, vote_pass, vote_with}
use Rattle.qs_tm.specs.Manager as tm
use Rattle.qs_tm.specs.Members as members
use Rattle.qs_tm.specs.Members.{all_servers}
use Rattle.qs_tm.specs.Outcomes as outcome_rules
use Rattle.qs_tm.specs.Outcomes.{told_with_own}
use Rattle.qs_tm.specs.Participant as participant
use Rattle.qs_tm.specs.Participant.{is_due_at, is_forgotten, is_undecided, only_read, servers_due}
use Rattle.qs_tm.specs.declared.participant.Participant.{Participant}
use Rattle.qs_node_room.proofs.Goes.{Goes, goes_enter, goes_fold, goes_if, goes_send, goes_sends, goes_where, IsEndOf, log_of}
use Rattle.qs_node_room.proofs.GoesRequests.{goes_issue}
use Rattle.std.specs.Option.{option_map}
use Rattle.qs_node_step.specs.Bringing.{log, send_each}
use Rattle.qs_node_step.specs.Telling.{record_learnt}
use Rattle.qs_node_room.proofs.KnownInPass.{same_part, same_ends, same_notices, known_on, next_known}

-- what is forgotten is not involved
uninvolved : (part : Participant) → is_forgotten part ≡ true → part.involved ≡ false
uninvolved part is = at (is_undecided part) part.engage.home (is_none part.engage.superior) part.involved (is_no_node part.told && only_read part) is
  where
    at : (a b c e d : Bool) → ((a && (not b)) && ((c && not e) && d)) ≡ true → e ≡ false
    at a b c false d h = refl
    at true false true true d h = absurd (cc h)
    at true false false true d h = absurd (cc h)
    at true true c true d h = absurd (cc h)
    at false b c true d h = absurd (cc h)

module _ (R : Work → Work → Type 0) (g : Goes R) where
  -- ---- notices

  goes_notify : (tid : Tid) (notice : Notice) (server : ServerNo) (work : Work) → R work (notify tid notice server work)
  goes_notify tid notice server work =
      let changed : Work = change_server server (λ value. after_notice value tid notice) work in
      g.both work changed (notify tid notice server work) (g.still work changed refl refl refl refl refl refl) (g.part tid (outcome_rules.settled server) changed (λ p. record { log = refl; outcome = λ e. e; involved = λ is. is }))

  goes_end : (tid : Tid) (work : Work) (server : ServerNo) → R work (end_member tid work server)
  goes_end tid work server =
      let told : Work = notify tid notices.Ending server work in
      g.both work told (end_member tid work server) (goes_notify tid notices.Ending server work) (goes_enter R g (acts.Ending tid (member_here work server)) told)

  pub goes_ends : (tid : Tid) (work : Work) → R work (end_members tid work)
  goes_ends tid work = goes_fold R g (end_member tid) (goes_end tid) (due_endings tid work) work

  goes_learn_member : (tid : Tid) (outcome : Outcome) (work : Work) (server : ServerNo) → R work (learn_member tid outcome work server)
  goes_learn_member tid outcome work server =
      let told : Work = notify tid (notice_of outcome) server work in
      g.both work told (learn_member tid outcome work server) (goes_notify tid (notice_of outcome) server work) (goes_enter R g (acts.Learn tid (member_here work server) outcome) told)

  goes_learn_members : (tid : Tid) (outcome : Outcome) (work : Work) → R work (learn_members tid outcome work)
  goes_learn_members tid outcome work = goes_fold R g (learn_member tid outcome) (goes_learn_member tid outcome) (learners_at tid work) work

  pub goes_notices : (tid : Tid) (outcome : Outcome) (work : Work) → R work (give_notices tid outcome work)
  goes_notices tid outcomes.Commit work = goes_learn_members tid outcomes.Commit work
  goes_notices tid outcomes.Abort work = let ended : Work = end_members tid work in g.both work ended (give_notices tid outcomes.Abort work) (goes_ends tid work) (goes_learn_members tid outcomes.Abort ended)

  -- ---- votes

  goes_votes : (tid : Tid) (servers : List ServerNo) (work : Work) → is_some (part_of tid work) ≡ true → R work (fold (vote_next tid) work servers)
  goes_votes tid [] work known = g.self work
  goes_votes tid (server ∷ servers) work known = g.both work (vote_next tid work server) (fold (vote_next tid) (vote_next tid work server) servers) next (goes_votes tid servers (vote_next tid work server) (next_known tid work server known))
    where
      note : (o : Option NodeNo) → R work (issue_note tid o work)
      note None = g.self work
      note (Some node) = goes_issue R g tid members.files_no (record { node = node; server = audit_no }) (Note (note_text tid (here work) (change_count tid work.node))) (change_count tid work.node) work

      next : R work (vote_next tid work server)
      next = goes_if R g (owes_note tid server work) work (issue_note tid work.node.setting.audit work) (vote_with tid server (vote_of (server_at work.node.servers server) tid work.room (vote_frame work)) work)
          (note work.node.setting.audit) (g.vote tid server work known)

  goes_pass : (tid : Tid) (work : Work) → is_some (part_of tid work) ≡ true → R work (vote_pass tid work)
  goes_pass tid work known = g.both work (end_members tid work) (vote_pass tid work) (goes_ends tid work) (goes_votes tid (due_votes tid work) (end_members tid work) (known_on tid work (end_members tid work) (same_ends tid work) known))

  -- ---- decisions

  -- what a decision brings about beside its record
  goes_told : (tid : Tid) (outcome : Outcome) (cause : Option Cause) (tell : List NodeNo) (logged : Work) → R logged (send_each tell (messages.Tell tid outcome) (give_notices tid outcome (enter (acts.Decide tid outcome cause) (keep_outcome tid outcome cause logged))))
  goes_told tid outcome cause tell logged =
      let kept : Work = keep_outcome tid outcome cause logged in
      let entered : Work = enter (acts.Decide tid outcome cause) kept in
      let noticed : Work = give_notices tid outcome entered in
      g.both logged kept _ (g.still logged kept refl refl refl refl refl refl)
      (g.both kept entered _ (goes_enter R g (acts.Decide tid outcome cause) kept)
      (g.both entered noticed _ (goes_notices tid outcome entered) (goes_sends R g tell (messages.Tell tid outcome) noticed)))

  goes_decided : (tid : Tid) (outcome : Outcome) (work : Work) → R work (with_manager (tm.decide tid outcome) work)
  goes_decided tid outcome work = g.part tid (outcome_rules.decided outcome) work (λ p. record { log = refl; outcome = λ e. absurd (cc e); involved = λ is. is })

  -- an abort
  pub goes_abort : (tid : Tid) (cause : Option Cause) (work : Work) → R work (decide tid outcomes.Abort cause work)
  goes_abort tid cause work = by (part_of tid work) refl
    where
      decided : Work
      decided = with_manager (tm.decide tid outcomes.Abort) work

      by : (o : Option Participant) → part_of tid work ≡ o → R work (decide_as tid outcomes.Abort cause (elim o [ None ↦ tm.no_decision | Some part ↦ record { rec = outcome_rules.record_of tid outcomes.Abort part; tell = listed (outcome_rules.tell_of outcomes.Abort part) } ]) work)
      by None none = g.both work decided _ (goes_decided tid outcomes.Abort work) (goes_told tid outcomes.Abort cause [] decided)
      by (Some part) known = g.both work decided _ (goes_decided tid outcomes.Abort work) (at part.log.prepared refl)
        where
          at : (b : Bool) → part.log.prepared ≡ b → R decided (send_each (listed (outcome_rules.tell_of outcomes.Abort part)) (messages.Tell tid outcomes.Abort) (give_notices tid outcomes.Abort (enter (acts.Decide tid outcomes.Abort cause) (keep_outcome tid outcomes.Abort cause (log_if (if b then Some (made.Aborted tid) else None) decided)))))
          at true is = g.both decided (log (made.Aborted tid) decided) _
              (g.ends tid (made.Aborted tid) decided part.log (IsEndOf.ByAborted tid) (same_part tid (outcome_rules.decided outcomes.Abort) work (λ p. refl) tid ∙ ap (option_map (λ (p : Participant). p.log)) known) (rw is refl))
              (goes_told tid outcomes.Abort cause (listed (outcome_rules.tell_of outcomes.Abort part)) (log (made.Aborted tid) decided))
          at false is = goes_told tid outcomes.Abort cause (listed (outcome_rules.tell_of outcomes.Abort part)) decided

  -- a commit, of one that is not decided, where it has room; else an abort
  goes_commit : (tid : Tid) (part : Participant) (work : Work) → part_of tid work ≡ Some part → part.outcome ≡ None → R work (decide_commit tid work)
  goes_commit tid part work known undecided = by (tm.need_past tid work.room work.node.manager) refl
    where
      made_of : (o : Option Participant) → part_of tid work ≡ o → tm.need_past tid work.room work.node.manager ≡ None → R work (decide_as tid outcomes.Commit None (elim o [ None ↦ tm.no_decision | Some part ↦ record { rec = outcome_rules.record_of tid outcomes.Commit part; tell = listed (outcome_rules.tell_of outcomes.Commit part) } ]) work)
      made_of None none room = absurd (cc (sym none ∙ known))
      made_of (Some other) is room = g.both work _ _ (g.commit tid other work is (let same : part ≡ other = cc (sym known ∙ is) in subst (λ (p : Participant). p.outcome ≡ None) same undecided) room)
          (goes_told tid outcomes.Commit None (listed (outcome_rules.tell_of outcomes.Commit other)) (log_if (outcome_rules.record_of tid outcomes.Commit other) (with_manager (tm.decide tid outcomes.Commit) work)))

      by : (o : Option ℕ) → tm.need_past tid work.room work.node.manager ≡ o → R work (elim o [ None ↦ decide tid outcomes.Commit None work | Some need ↦ decide tid outcomes.Abort (Some (causes.Room need work.room)) work ])
      by None room = made_of (part_of tid work) refl room
      by (Some need) room = goes_abort tid (Some (causes.Room need work.room)) work

  -- ---- an outcome is learnt

  pub goes_end_record : (tid : Tid) (outcome : Outcome) (part : Participant) (work : Work) → log_of tid work ≡ Some part.log → R work (log_if (record_learnt tid outcome part) work)
  goes_end_record tid outcome part work known = by part.log.prepared refl
    where
      ending : (o : Outcome) → IsEndOf tid (end_record tid o)
      ending outcomes.Commit = IsEndOf.ByCommit tid
      ending outcomes.Abort = IsEndOf.ByAborted tid

      by : (b : Bool) → part.log.prepared ≡ b → R work (log_if (if b then Some (end_record tid outcome) else None) work)
      by true is = g.ends tid (end_record tid outcome) work part.log (ending outcome) known (rw is refl)
      by false is = g.self work

  pub goes_learn : (tid : Tid) (outcome : Outcome) (part : Participant) (work : Work) → part_of tid work ≡ Some part → R work (learn tid outcome part work)
  goes_learn tid outcome part work known =
      let took : Work = with_manager (tm.took_outcome tid outcome) work in
      let noticed : Work = give_notices tid outcome took in
      g.both work took (learn tid outcome part work) (g.part tid (outcome_rules.took_outcome outcome) work (λ p. record { log = refl; outcome = λ e. absurd (cc e); involved = λ is. is }))
      (g.both took noticed (learn tid outcome part work) (goes_notices tid outcome took)
      (goes_end_record tid outcome part noticed (same_notices tid outcome took tid ∙ (same_part tid (outcome_rules.took_outcome outcome) work (λ p. refl) tid ∙ ap (option_map (λ (p : Participant). p.log)) known))))

  -- ---- settling

  goes_ready : (tid : Tid) (part : Participant) (work : Work) → part_of tid work ≡ Some part → part.outcome ≡ None → R work (ready_rule tid part work)
  goes_ready tid part work known undecided = goes_if R g (may_answer tid part work) work (ready tid part work) work
      (goes_if R g part.engage.home work (if is_quiet (doings_of tid work) then decide_commit tid work else work) (answer_superior tid part work)
      (goes_if R g (is_quiet (doings_of tid work)) work (decide_commit tid work) work (goes_commit tid part work known undecided) (g.self work)) (answered (release_of part.engage)))
      (g.self work)
    where
      answered : (o : Option (NodeNo × ℕ)) → R work (elim o [ None ↦ work | Some superior ↦ say_yes tid part superior work ])
      answered None = g.self work
      answered (Some superior) = let released : Work = with_manager (tm.released tid) work in g.both work released (say_yes tid part superior work) (g.part tid participant.released work (λ p. record { log = refl; outcome = λ e. e; involved = λ is. is }))
          (goes_send R g superior.0 (messages.VotedYes tid superior.1 (listed (told_with_own (here work) part))) released)

  goes_refuse : (tid : Tid) (part : Participant) (work : Work) → R work (refuse_rule tid part work)
  goes_refuse tid part work = goes_if R g part.engage.home work (refuse_home tid part work) (refuse_elsewhere tid part work) (home part.causes)
      (let taken : Work = with_manager (tm.take_causes tid) work in g.both work taken (refuse_elsewhere tid part work) (g.part tid participant.take_causes work (λ p. record { log = refl; outcome = λ e. e; involved = λ is. is }))
      (goes_fold R g (send_refusal tid (refusal_goes_to tid part)) (λ w cause. goes_send R g (refusal_goes_to tid part) (messages.VotedAbort tid cause) w) part.causes taken))
    where
      home : (cs : List Cause) → R work (elim cs [ [] ↦ work | cause ∷ more ↦ decide tid outcomes.Abort (Some cause) work ])
      home [] = g.self work
      home (cause ∷ more) = goes_abort tid (Some cause) work

  goes_forget : (tid : Tid) (part : Participant) (work : Work) → part_of tid work ≡ Some part → part.outcome ≡ None → R work (forget_rule tid part work)
  goes_forget tid part work known undecided = by (is_forgotten part) refl
    where
      forgotten : Work
      forgotten = with_manager (tm.forget tid) work

      by : (b : Bool) → is_forgotten part ≡ b → R work (if b then forget tid work else work)
      by true is = g.both work forgotten (forget tid work) (g.forget tid part work known undecided (uninvolved part is)) (g.still forgotten (forget tid work) refl refl refl refl refl refl)
      by false is = g.self work

  goes_settle_tid : (work : Work) (tid : Tid) → R work (settle_tid work tid)
  goes_settle_tid work tid =
      let passed : Work = try tid pass_rule work in
      let answered : Work = try tid ready_rule passed in
      let refused : Work = try tid refuse_rule answered in
      g.both work refused (settle_tid work tid)
      (g.both work answered refused
      (g.both work passed answered (goes_where R g tid (pass_rule tid) work (λ part known undecided. goes_if R g (is_pass_due tid part work) work (vote_pass tid work) work (goes_pass tid work (ap is_some known)) (g.self work)))
      (goes_where R g tid (ready_rule tid) passed (λ part known undecided. goes_ready tid part passed known undecided)))
      (goes_where R g tid (refuse_rule tid) answered (λ part known undecided. goes_refuse tid part answered)))
      (goes_where R g tid (forget_rule tid) refused (λ part known undecided. goes_forget tid part refused known undecided))

  pub goes_settle : (work : Work) → R work (settle work)
  goes_settle work = goes_fold R g settle_tid goes_settle_tid (due_tids work) work
