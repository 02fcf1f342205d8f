-- What holds of each thing that a step does holds of votes, decisions and outcomes, and of all that a node does of itself at the end of a step.
use Rattle.qs_world_runs.proofs.Words.{◌≡◌, ℕ, ◌<◌, arith, ◌&&◌, not, Bool, true, false, List, [], ◌∷◌, Option, Some, None, is_none, refl, sym, ap, subst, ◌∙◌, fold, if◌then◌else◌, is_some, lookup, is_at, tid_cmp, NodeNo, ServerNo, Tid, release_of, listed, changes_in, vote_of, Cause, Note, Vote, Notice, after_notice, Record, server_at, enter, log_if, member_here, decide_as, due_endings, end_member, end_members, give_notices, keep_outcome, learn_member, learn_members, learners_at, notice_of}
use Rattle.qs_world_runs.proofs.Words.{notify, answer_superior, due_tids, forget_rule, is_pass_due, is_quiet, may_answer, pass_rule, ready, ready_rule, refusal_goes_to, refuse_elsewhere, refuse_home, refuse_rule, say_yes, send_refusal, settle, settle_tid, try, Work, change_server, doings_of, here, with_manager, end_record, forget, learn, change_count, due_votes, enter_vote, issue_note, owes_note, served_count, vote_frame, vote_next, vote_pass, vote_with, told_with_own, is_forgotten}
use Rattle.qs_world_runs.proofs.Words.{is_undecided, Participant, Every, every_filter, Quiet}
use Rattle.qs_base.specs.declared.identifiers.Outcome.{Outcome}
use Rattle.qs_base.specs.declared.identifiers.Outcome.TheVariants as outcomes
use Rattle.qs_engage.specs.Nodes.{is_no_node}
use Rattle.qs_book_journal.specs.declared.entry.Act.TheVariants as acts
use Rattle.qs_ops.specs.declared.answer.Cause.TheVariants as causes
use Rattle.qs_ops.specs.declared.vote.Vote.TheVariants as votes
use Rattle.qs_ops.specs.declared.vote.Notice.TheVariants as notices
use Rattle.qs_packet.specs.declared.message.Message.TheVariants as messages
use Rattle.qs_record.specs.declared.record.Record.TheVariants as made
use Rattle.qs_node_servers.specs.Servers.{audit_no}
use Rattle.qs_node_step.specs.Deciding.{decide, decide_commit}
use Rattle.qs_node_step.specs.State.{part_of}
use Rattle.qs_node_step.specs.Voting.{note_text}
use Rattle.qs_tm.specs.Manager as tm
use Rattle.qs_tm.specs.Members as members
use Rattle.qs_tm.specs.Members.{all_servers}
use Rattle.qs_tm.specs.Outcomes as outcome_rules
use Rattle.qs_tm.specs.Participant as participant
use Rattle.qs_tm.specs.Participant.{is_due_at, only_read, servers_due}
use Rattle.qs_tm.specs.declared.participant.Due.TheVariants as dues
use Rattle.qs_book_laws.proofs.Maps.{lookup_changed}
use Rattle.qs_world_lawful.proofs.LogEndings.{quiet_ends}
use Rattle.qs_world_lawful.proofs.Marks.{MarksOn}
use Rattle.qs_world_lawful.proofs.QuietRequests.{quiet_issue}
use Rattle.qs_world_lawful.proofs.Recordless.{quiet_self}
use Rattle.qs_world_runs.proofs.Goes.{Goes, goes_enter, goes_fold, goes_if, goes_send, goes_sends, goes_where, is_prepare}
use Rattle.qs_world_runs.proofs.GoesRequests.{goes_issue}

-- ---- the servers to which something is due are a node's

abbrev IsServer : ServerNo → Type 0
IsServer server = server.0 < 7

all_low : Every IsServer all_servers
unfolding all_servers
all_low = (omega arith, (omega arith, (omega arith, (omega arith, (omega arith, (omega arith, (omega arith, tt)))))))

votes_low : (tid : Tid) (work : Work) → Every IsServer (due_votes tid work)
votes_low tid work = by (part_of tid work)
  where
    by : (o : Option Participant) → Every IsServer (elim o [ None ↦ [] | Some part ↦ servers_due dues.Vote part ])
    by None = tt
    by (Some part) = every_filter IsServer (is_due_at dues.Vote part) all_servers all_low

-- what is forgotten is not involved
uninvolved : (part : Participant) → is_forgotten part ≡ true → part.involved ≡ false
uninvolved part is = at (is_undecided part) part.engage.home (is_none part.engage.superior) part.involved (is_no_node part.told && only_read part) is
  where
    at : (a b c e d : Bool) → ((a && (not b)) && ((c && not e) && d)) ≡ true → e ≡ false
    at a b c false d h = refl
    at true false true true d h = absurd (cc h)
    at true false false true d h = absurd (cc h)
    at true true c true d h = absurd (cc h)
    at false b c true d h = absurd (cc h)

-- ---- what is known in a pass stays known

known_on : (tid : Tid) (work new : Work) → Quiet work new → is_some (part_of tid work) ≡ true → is_some (part_of tid new) ≡ true
known_on tid work new q some = by (part_of tid work) refl (part_of tid new) refl
  where
    by : (o : Option Participant) → part_of tid work ≡ o → (n : Option Participant) → part_of tid new ≡ n → is_some (part_of tid new) ≡ true
    by o was (Some part) is = ap is_some is
    by None was None is = absurd (cc (sym (ap is_some was) ∙ some))
    by (Some part) was None is = absurd (subst (λ (x : Option Participant). MarksOn (Some part) x) is (subst (λ (x : Option Participant). MarksOn x (part_of tid new)) was (q.knows.marks tid)))

changed_known : (tid : Tid) (f : Participant → Participant) (known : List (Tid × Participant)) → is_some (lookup (is_at (tid_cmp tid)) known) ≡ true → is_some (lookup (is_at (tid_cmp tid)) (tm.changed_value (is_at (tid_cmp tid)) f known)) ≡ true
changed_known tid f known some = by (lookup (is_at (tid_cmp tid)) known) refl
  where
    by : (o : Option Participant) → lookup (is_at (tid_cmp tid)) known ≡ o → is_some (lookup (is_at (tid_cmp tid)) (tm.changed_value (is_at (tid_cmp tid)) f known)) ≡ true
    by None none = absurd (cc (sym (ap is_some none) ∙ some))
    by (Some part) is = ap is_some (lookup_changed (is_at (tid_cmp tid)) f known part is)

vote_known : (tid : Tid) (server : ServerNo) (ballot : Vote) (work : Work) → is_some (part_of tid work) ≡ true → is_some (part_of tid (vote_with tid server ballot work)) ≡ true
vote_known tid server votes.Recoverable work some = changed_known tid (outcome_rules.logged (made.Prepare tid server (served_count tid server (enter_vote tid server votes.Recoverable work)) (changes_in (server_at (enter_vote tid server votes.Recoverable work).node.servers server) tid))) (enter_vote tid server votes.Recoverable work).node.manager.known
    (changed_known tid (participant.voted (member_here work server) votes.Recoverable (served_count tid server work)) work.node.manager.known some)
vote_known tid server votes.ReadOnly work some = changed_known tid (participant.voted (member_here work server) votes.ReadOnly (served_count tid server work)) work.node.manager.known some
vote_known tid server votes.Volatile work some = changed_known tid (participant.voted (member_here work server) votes.Volatile (served_count tid server work)) work.node.manager.known some
vote_known tid server (votes.Abort reason) work some = changed_known tid (participant.voted (member_here work server) (votes.Abort reason) (served_count tid server work)) work.node.manager.known some

next_known : (tid : Tid) (work : Work) (server : ServerNo) → is_some (part_of tid work) ≡ true → is_some (part_of tid (vote_next tid work server)) ≡ true
next_known tid work server some = by (owes_note tid server work)
  where
    note : (o : Option NodeNo) → Quiet work (issue_note tid o work)
    note None = quiet_self work
    note (Some node) = quiet_issue tid members.files_no (record { node = node; server = audit_no }) (Note (note_text tid (here work) (change_count tid work.node))) (change_count tid work.node) work

    by : (b : Bool) → is_some (part_of tid (if b then issue_note tid work.node.setting.audit work else vote_with tid server (vote_of (server_at work.node.servers server) tid work.room (vote_frame work)) work)) ≡ true
    by true = known_on tid work (issue_note tid work.node.setting.audit work) (note work.node.setting.audit) some
    by false = vote_known tid server (vote_of (server_at work.node.servers server) tid work.room (vote_frame work)) work some

module _ (R : Work → Work → Type 0) (g : Goes R) where
  -- ---- notices

  goes_notify : (tid : Tid) (notice : Notice) (server : ServerNo) (work : Work) → R work (notify tid notice server work)
  goes_notify tid notice server work =
      let changed : Work = change_server server (λ value. after_notice value tid notice) work in
      g.both work changed (notify tid notice server work) (g.still work changed refl refl) (g.settled tid server changed)

  goes_end : (tid : Tid) (work : Work) (server : ServerNo) → R work (end_member tid work server)
  goes_end tid work server =
      let told : Work = notify tid notices.Ending server work in
      g.both work told (end_member tid work server) (goes_notify tid notices.Ending server work) (goes_enter R g (acts.Ending tid (member_here work server)) told)

  pub goes_ends : (tid : Tid) (work : Work) → R work (end_members tid work)
  goes_ends tid work = goes_fold R g (end_member tid) (goes_end tid) (due_endings tid work) work

  goes_learn_member : (tid : Tid) (outcome : Outcome) (work : Work) (server : ServerNo) → R work (learn_member tid outcome work server)
  goes_learn_member tid outcome work server =
      let told : Work = notify tid (notice_of outcome) server work in
      g.both work told (learn_member tid outcome work server) (goes_notify tid (notice_of outcome) server work) (goes_enter R g (acts.Learn tid (member_here work server) outcome) told)

  goes_learn_members : (tid : Tid) (outcome : Outcome) (work : Work) → R work (learn_members tid outcome work)
  goes_learn_members tid outcome work = goes_fold R g (learn_member tid outcome) (goes_learn_member tid outcome) (learners_at tid work) work

  pub goes_notices : (tid : Tid) (outcome : Outcome) (work : Work) → R work (give_notices tid outcome work)
  goes_notices tid outcomes.Commit work = goes_learn_members tid outcomes.Commit work
  goes_notices tid outcomes.Abort work = let ended : Work = end_members tid work in g.both work ended (give_notices tid outcomes.Abort work) (goes_ends tid work) (goes_learn_members tid outcomes.Abort ended)

  -- ---- votes

  goes_votes : (tid : Tid) (servers : List ServerNo) → Every IsServer servers → (work : Work) → is_some (part_of tid work) ≡ true → R work (fold (vote_next tid) work servers)
  goes_votes tid [] all work known = g.self work
  goes_votes tid (server ∷ servers) all work known = g.both work (vote_next tid work server) (fold (vote_next tid) (vote_next tid work server) servers) (next (part_of tid work) refl known) (goes_votes tid servers all.1 (vote_next tid work server) (next_known tid work server known))
    where
      note : (o : Option NodeNo) → R work (issue_note tid o work)
      note None = g.self work
      note (Some node) = goes_issue R g tid members.files_no (record { node = node; server = audit_no }) (Note (note_text tid (here work) (change_count tid work.node))) (change_count tid work.node) work

      next : (o : Option Participant) → part_of tid work ≡ o → is_some (part_of tid work) ≡ true → R work (vote_next tid work server)
      next None none some = absurd (cc (sym (ap is_some none) ∙ some))
      next (Some part) is some = goes_if R g (owes_note tid server work) work (issue_note tid work.node.setting.audit work) (vote_with tid server (vote_of (server_at work.node.servers server) tid work.room (vote_frame work)) work)
          (note work.node.setting.audit) (g.vote tid server (vote_of (server_at work.node.servers server) tid work.room (vote_frame work)) work all.0 part is)

  goes_pass : (tid : Tid) (work : Work) → is_some (part_of tid work) ≡ true → R work (vote_pass tid work)
  goes_pass tid work known = g.both work (end_members tid work) (vote_pass tid work) (goes_ends tid work) (goes_votes tid (due_votes tid work) (votes_low tid work) (end_members tid work) (known_on tid work (end_members tid work) (quiet_ends tid work) known))

  -- ---- decisions

  -- a record that is no vote
  pub goes_log_if : (o : Option Record) (work : Work) → ((rec : Record) → o ≡ Some rec → is_prepare rec ≡ false) → R work (log_if o work)
  goes_log_if None work plain = g.self work
  goes_log_if (Some rec) work plain = g.log rec work (plain rec refl)

  decided_plain : (tid : Tid) (outcome : Outcome) (part : Participant) (rec : Record) → outcome_rules.record_of tid outcome part ≡ Some rec → is_prepare rec ≡ false
  decided_plain tid outcomes.Commit part rec is = by (outcome_rules.writes_commit part) is
    where
      by : (b : Bool) → (if b then Some (made.Commit tid (listed part.told)) else None) ≡ Some rec → is_prepare rec ≡ false
      by true e = let same : made.Commit tid (listed part.told) ≡ rec = cc e in subst (λ (r : Record). is_prepare r ≡ false) same refl
      by false e = absurd (cc e)
  decided_plain tid outcomes.Abort part rec is = by part.log.prepared is
    where
      by : (b : Bool) → (if b then Some (made.Aborted tid) else None) ≡ Some rec → is_prepare rec ≡ false
      by true e = let same : made.Aborted tid ≡ rec = cc e in subst (λ (r : Record). is_prepare r ≡ false) same refl
      by false e = absurd (cc e)

  pub learnt_plain : (tid : Tid) (outcome : Outcome) (b : Bool) (rec : Record) → (if b then Some (end_record tid outcome) else None) ≡ Some rec → is_prepare rec ≡ false
  learnt_plain tid outcome false rec e = absurd (cc e)
  learnt_plain tid outcome true rec e = let same : end_record tid outcome ≡ rec = cc e in subst (λ (r : Record). is_prepare r ≡ false) same (plain outcome)
    where
      plain : (o : Outcome) → is_prepare (end_record tid o) ≡ false
      plain outcomes.Commit = refl
      plain outcomes.Abort = refl

  goes_decided : (tid : Tid) (outcome : Outcome) (cause : Option Cause) (o : Option Record) (tell : List NodeNo) (work : Work) → ((rec : Record) → o ≡ Some rec → is_prepare rec ≡ false) → R work (decide_as tid outcome cause (record { rec = o; tell = tell }) work)
  goes_decided tid outcome cause o tell work plain =
      let decided : Work = with_manager (tm.decide tid outcome) work in
      let logged : Work = log_if o decided in
      let kept : Work = keep_outcome tid outcome cause logged in
      let entered : Work = enter (acts.Decide tid outcome cause) kept in
      let noticed : Work = give_notices tid outcome entered in
      g.both work decided _ (g.part tid (outcome_rules.decided outcome) work (λ p. record { members = refl; involved = λ is. is }))
      (g.both decided logged _ (goes_log_if o decided plain)
      (g.both logged kept _ (g.still logged kept refl refl)
      (g.both kept entered _ (goes_enter R g (acts.Decide tid outcome cause) kept)
      (g.both entered noticed _ (goes_notices tid outcome entered) (goes_sends R g tell (messages.Tell tid outcome) noticed)))))

  pub goes_decide : (tid : Tid) (cause : Option Cause) (work : Work) (outcome : Outcome) → R work (decide tid outcome cause work)
  goes_decide tid cause work outcome = by (part_of tid work)
    where
      by : (o : Option Participant) → R work (decide_as tid outcome cause (elim o [ None ↦ tm.no_decision | Some part ↦ record { rec = outcome_rules.record_of tid outcome part; tell = listed (outcome_rules.tell_of outcome part) } ]) work)
      by None = goes_decided tid outcome cause None [] work (λ rec e. absurd (cc e))
      by (Some part) = goes_decided tid outcome cause (outcome_rules.record_of tid outcome part) (listed (outcome_rules.tell_of outcome part)) work (decided_plain tid outcome part)

  goes_commit : (tid : Tid) (work : Work) → R work (decide_commit tid work)
  goes_commit tid work = by (tm.need_past tid work.room work.node.manager)
    where
      by : (o : Option ℕ) → R work (elim o [ None ↦ decide tid outcomes.Commit None work | Some need ↦ decide tid outcomes.Abort (Some (causes.Room need work.room)) work ])
      by None = goes_decide tid None work outcomes.Commit
      by (Some need) = goes_decide tid (Some (causes.Room need work.room)) work outcomes.Abort

  -- ---- an outcome is learnt

  pub goes_learn : (tid : Tid) (outcome : Outcome) (part : Participant) (work : Work) → R work (learn tid outcome part work)
  goes_learn tid outcome part work =
      let took : Work = with_manager (tm.took_outcome tid outcome) work in
      let noticed : Work = give_notices tid outcome took in
      g.both work took (learn tid outcome part work) (g.part tid (outcome_rules.took_outcome outcome) work (λ p. record { members = refl; involved = λ is. is }))
      (g.both took noticed (learn tid outcome part work) (goes_notices tid outcome took) (goes_log_if (if part.log.prepared then Some (end_record tid outcome) else None) noticed (learnt_plain tid outcome part.log.prepared)))

  -- ---- settling

  goes_ready : (tid : Tid) (part : Participant) (work : Work) → R work (ready_rule tid part work)
  goes_ready tid part work = goes_if R g (may_answer tid part work) work (ready tid part work) work
      (goes_if R g part.engage.home work (if is_quiet (doings_of tid work) then decide_commit tid work else work) (answer_superior tid part work)
      (goes_if R g (is_quiet (doings_of tid work)) work (decide_commit tid work) work (goes_commit tid work) (g.self work)) (answered (release_of part.engage)))
      (g.self work)
    where
      answered : (o : Option (NodeNo × ℕ)) → R work (elim o [ None ↦ work | Some superior ↦ say_yes tid part superior work ])
      answered None = g.self work
      answered (Some superior) = let released : Work = with_manager (tm.released tid) work in g.both work released (say_yes tid part superior work) (g.part tid participant.released work (λ p. record { members = refl; involved = λ is. is }))
          (goes_send R g superior.0 (messages.VotedYes tid superior.1 (listed (told_with_own (here work) part))) released)

  goes_refuse : (tid : Tid) (part : Participant) (work : Work) → R work (refuse_rule tid part work)
  goes_refuse tid part work = goes_if R g part.engage.home work (refuse_home tid part work) (refuse_elsewhere tid part work) (home part.causes)
      (let taken : Work = with_manager (tm.take_causes tid) work in g.both work taken (refuse_elsewhere tid part work) (g.part tid participant.take_causes work (λ p. record { members = refl; involved = λ is. is }))
      (goes_fold R g (send_refusal tid (refusal_goes_to tid part)) (λ w cause. goes_send R g (refusal_goes_to tid part) (messages.VotedAbort tid cause) w) part.causes taken))
    where
      home : (cs : List Cause) → R work (elim cs [ [] ↦ work | cause ∷ more ↦ decide tid outcomes.Abort (Some cause) work ])
      home [] = g.self work
      home (cause ∷ more) = goes_decide tid (Some cause) work outcomes.Abort

  goes_forget : (tid : Tid) (part : Participant) (work : Work) → part_of tid work ≡ Some part → R work (forget_rule tid part work)
  goes_forget tid part work known = by (is_forgotten part) refl
    where
      forgotten : Work
      forgotten = with_manager (tm.forget tid) work

      by : (b : Bool) → is_forgotten part ≡ b → R work (if b then forget tid work else work)
      by true is = g.both work forgotten (forget tid work) (g.forget tid part work known (uninvolved part is)) (g.still forgotten (forget tid work) refl refl)
      by false is = g.self work

  goes_settle_tid : (work : Work) (tid : Tid) → R work (settle_tid work tid)
  goes_settle_tid work tid =
      let passed : Work = try tid pass_rule work in
      let answered : Work = try tid ready_rule passed in
      let refused : Work = try tid refuse_rule answered in
      g.both work refused (settle_tid work tid)
      (g.both work answered refused
      (g.both work passed answered (goes_where R g tid (pass_rule tid) work (λ part known. goes_if R g (is_pass_due tid part work) work (vote_pass tid work) work (goes_pass tid work (ap is_some known)) (g.self work)))
      (goes_where R g tid (ready_rule tid) passed (λ part known. goes_ready tid part passed)))
      (goes_where R g tid (refuse_rule tid) answered (λ part known. goes_refuse tid part answered)))
      (goes_where R g tid (forget_rule tid) refused (λ part known. goes_forget tid part refused known))

  pub goes_settle : (work : Work) → R work (settle work)
  goes_settle work = goes_fold R g settle_tid goes_settle_tid (due_tids work) work
