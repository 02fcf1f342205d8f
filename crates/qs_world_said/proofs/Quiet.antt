-- What is kept by all that no client sees, is kept by the rules of settling of which no client sees anything: messages, records and notices, notes and votes, commits.
use Rattle.std.proofs.Common.{◌≡◌, ◌∙◌, ℕ, Bool, true, false, List, [], ◌∷◌, ◌++◌, Option, Some, None, refl, ap}
use Rattle.std.specs.Prelude.{if◌then◌else◌}
use Rattle.std.specs.List.{find}
use Rattle.qs_base.specs.declared.identifiers.Member.{Member}
use Rattle.qs_base.specs.declared.identifiers.NodeNo.{NodeNo}
use Rattle.qs_base.specs.declared.identifiers.Outcome.{Outcome}
use Rattle.qs_base.specs.declared.identifiers.Outcome.TheVariants as outcomes
use Rattle.qs_base.specs.declared.identifiers.ServerNo.{ServerNo}
use Rattle.qs_base.specs.declared.identifiers.Tid.{Tid}
use Rattle.qs_engage.specs.Engage.{release_of, uncovered}
use Rattle.qs_engage.specs.Nodes.{listed, same_node}
use Rattle.qs_ops.specs.Server.{vote_of}
use Rattle.qs_ops.specs.declared.answer.Cause.{Cause}
use Rattle.qs_ops.specs.declared.answer.Cause.TheVariants as causes
use Rattle.qs_ops.specs.declared.operation.Op.{Op}
use Rattle.qs_ops.specs.declared.operation.Op.TheVariants.{Note}
use Rattle.qs_ops.specs.declared.vote.Vote.{Vote}
use Rattle.qs_ops.specs.declared.vote.Vote.TheVariants as votes
use Rattle.qs_book_journal.specs.declared.entry.Act.{Act}
use Rattle.qs_book_journal.specs.declared.entry.Act.TheVariants as acts
use Rattle.qs_node_kept.specs.Keeping.{is_outcome_of}
use Rattle.qs_node_servers.specs.Servers.{audit_no, server_at}
use Rattle.qs_node_step.specs.Asking.{become_asked}
use Rattle.qs_node_step.specs.Bringing.{enter, log, log_if, member_here, send, send_each, send_next}
use Rattle.qs_node_step.specs.Deciding.{decide, decide_commit, due_endings, end_member, end_members, give_notices, keep_outcome, learn_member, learn_members, learners_at}
use Rattle.qs_node_step.specs.Requests.{ask_on, enter_issue, is_asked, issue_as, issue_away, issue_here, label_of, next_number, with_local}
use Rattle.qs_node_step.specs.Settling.{answer_superior, forget_rule, is_pass_due, is_quiet, may_answer, pass_rule, ready, ready_rule, refusal_goes_to, refuse_elsewhere, say_yes, send_refusal}
use Rattle.qs_node_step.specs.State.{Work, doings_of, here, with_manager}
use Rattle.qs_node_step.specs.Telling.{forget}
use Rattle.qs_node_step.specs.Voting.{change_count, due_votes, enter_vote, issue_note, log_vote, note_text, owes_note, served_count, vote_frame, vote_next, vote_pass}
use Rattle.qs_packet.specs.declared.message.Message.{Message}
use Rattle.qs_packet.specs.declared.message.Message.TheVariants as messages
use Rattle.qs_record.specs.declared.record.Record.{Record}
use Rattle.qs_tm.specs.Manager as tm
use Rattle.qs_tm.specs.Members.{files_no}
use Rattle.qs_tm.specs.Outcomes.{told_with_own}
use Rattle.qs_tm.specs.Participant.{is_forgotten}
use Rattle.qs_tm.specs.declared.participant.Outstanding.{Outstanding}
use Rattle.qs_tm.specs.declared.participant.Participant.{Participant}
use Rattle.qs_world_course.specs.Reasons.{IsQuietAct, IsUnasked, IsUnseen, Nothing, Quiet}
use Rattle.qs_world_walk.specs.Deed.{sent, waiting}
use Rattle.qs_world_walk.proofs.First.{sent_is}
use Rattle.qs_world_walk.proofs.Rules.{waiting_is}
use Rattle.qs_world_walk.proofs.Shapes as shapes
use Rattle.qs_world_said.proofs.Lookups.{found_before}

module _ (P : Work → Type 0) (k : (work new : Work) → IsUnseen work new → P work → P new) where
  abbrev pub Keeps : Work → Work → Type 0
  Keeps work new = P work → P new

  -- ---- one change: nothing that clients see, with nothing entered, or with what is quiet

  pub left : (work new : Work) → new.node.setting ≡ work.node.setting → new.node.commands ≡ work.node.commands → new.node.kept ≡ work.node.kept → new.out.answers ≡ work.out.answers → new.out.entries ≡ work.out.entries → Keeps work new
  left work new setting commands kept answers entries = k work new (record {
    setting = setting;
    commands = commands;
    labels = ap (λ held. held.now.labels) kept;
    loans = ap (λ held. held.now.loans) kept;
    outcomes = λ tid decided there. ap (λ held. find (is_outcome_of tid) held.now.outcomes) kept ∙ there;
    answers = answers;
    enters = Nothing entries;
  })

  pub quiet : (work new : Work) (act : Act) → IsQuietAct act → new.node.setting ≡ work.node.setting → new.node.commands ≡ work.node.commands → new.node.kept ≡ work.node.kept → new.out.answers ≡ work.out.answers
      → new.out.entries ≡ work.out.entries ++ act ∷ [] → Keeps work new
  quiet work new act is setting commands kept answers entries = k work new (record {
    setting = setting;
    commands = commands;
    labels = ap (λ held. held.now.labels) kept;
    loans = ap (λ held. held.now.loans) kept;
    outcomes = λ tid decided there. ap (λ held. find (is_outcome_of tid) held.now.outcomes) kept ∙ there;
    answers = answers;
    enters = Quiet act is entries;
  })

  pub sends : (to : NodeNo) (message : Message) (work : Work) → Keeps work (send to message work)
  sends to message work h = sent_is P to message work (left work (sent to message work) refl refl refl refl refl h)

  pub sends_each : (nodes : List NodeNo) (message : Message) (work : Work) → Keeps work (send_each nodes message work)
  sends_each nodes message work = shapes.fold_keeps P (send_next message) (λ w to. sends to message w) nodes work

  pub logs : (o : Option Record) (work : Work) → Keeps work (log_if o work)
  logs None work h = h
  logs (Some rec) work h = left work (log rec work) refl refl refl refl refl h

  -- ---- notices, and behind a decision

  ends : (tid : Tid) (work : Work) → Keeps work (end_members tid work)
  ends tid work = shapes.fold_keeps P (end_member tid) (λ w server. quiet w (end_member tid w server) (acts.Ending tid (member_here w server)) tt refl refl refl refl refl) (due_endings tid work) work

  learns : (tid : Tid) (outcome : Outcome) (work : Work) → Keeps work (learn_members tid outcome work)
  learns tid outcome work = shapes.fold_keeps P (learn_member tid outcome) (λ w server. quiet w (learn_member tid outcome w server) (acts.Learn tid (member_here w server) outcome) tt refl refl refl refl refl) (learners_at tid work) work

  pub notices : (tid : Tid) (outcome : Outcome) (work : Work) → Keeps work (give_notices tid outcome work)
  notices tid outcomes.Commit work h = learns tid outcomes.Commit work h
  notices tid outcomes.Abort work h = learns tid outcomes.Abort (end_members tid work) (ends tid work h)

  -- its entry stands and its outcome is kept; then all is told
  abbrev pub entered : Tid → Outcome → Option Cause → Work → Work
  entered tid outcome cause work = enter (acts.Decide tid outcome cause) (keep_outcome tid outcome cause (with_manager (tm.decide tid outcome) work))

  pub decides : (tid : Tid) (outcome : Outcome) (cause : Option Cause) (work : Work) → P (entered tid outcome cause work) → P (decide tid outcome cause work)
  decides tid outcome cause work h = sends_each (tm.decision tid outcome work.node.manager).tell (messages.Tell tid outcome) (give_notices tid outcome stood)
      (notices tid outcome stood (logged (tm.decision tid outcome work.node.manager).rec))
    where
      stood : Work
      stood = enter (acts.Decide tid outcome cause) (keep_outcome tid outcome cause (log_if (tm.decision tid outcome work.node.manager).rec (with_manager (tm.decide tid outcome) work)))

      logged : (o : Option Record) → P (enter (acts.Decide tid outcome cause) (keep_outcome tid outcome cause (log_if o (with_manager (tm.decide tid outcome) work))))
      logged None = h
      logged (Some rec) = left (entered tid outcome cause work) (enter (acts.Decide tid outcome cause) (keep_outcome tid outcome cause (log rec (with_manager (tm.decide tid outcome) work)))) refl refl refl refl refl h

  unasked : (tid : Tid) (outcome : Outcome) (cause : Option Cause) (work : Work) → IsUnasked outcome cause → Keeps work (decide tid outcome cause work)
  unasked tid outcome cause work is h = decides tid outcome cause work (k work (entered tid outcome cause work) (record {
    setting = refl;
    commands = refl;
    labels = refl;
    loans = refl;
    outcomes = λ t decided there. found_before (is_outcome_of t) work.node.kept.now.outcomes (record { tid = tid; outcome = outcome; cause = cause }) decided there;
    answers = refl;
    enters = Quiet (acts.Decide tid outcome cause) is refl;
  }) h)

  pub asked_then : (tid : Tid) (part : Participant) (work : Work) → P (with_manager (tm.ask tid) work) → P (become_asked tid part work)
  asked_then tid part work = sends_each (listed (uncovered part.engage)) (messages.AskVote tid) (with_manager (tm.ask tid) work)

  pub asked_on : (tid : Tid) (part : Participant) (work : Work) → Keeps work (become_asked tid part work)
  asked_on tid part work h = asked_then tid part work (left work (with_manager (tm.ask tid) work) refl refl refl refl refl h)

  -- ---- settling: notes and votes, what is ready, and what is forgotten

  noted : (tid : Tid) (o : Option NodeNo) (work : Work) → Keeps work (issue_note tid o work)
  noted tid None work = λ h. h
  noted tid (Some node) work = shapes.elim_keeps P (next_number tid node work) work (λ number. issue_as tid (request number) op work) work (λ none h. h)
      (λ number next. shapes.if_keeps P (same_node node (here work)) (issue_here tid (request number) op work) (issue_away tid (request number) op work) work (λ is. goes_here number) (λ is. goes_away number))
    where
      member : Member
      member = record { node = node; server = audit_no }

      op : Op
      op = Note (note_text tid (here work) (change_count tid work.node))

      request : ℕ → Outstanding
      request number = record { issuer = files_no; member = member; number = number; count = change_count tid work.node }

      goes_here : (number : ℕ) → Keeps work (issue_here tid (request number) op work)
      goes_here number h = waiting_is P audit_no (record { tid = tid; from = here work; number = number; op = op; stale = false }) (with_local tid number (enter_issue tid (request number) op work))
          (quiet work (waiting audit_no (record { tid = tid; from = here work; number = number; op = op; stale = false }) (with_local tid number (enter_issue tid (request number) op work)))
          (acts.Issue tid (member_here work files_no) member number op) refl refl refl refl refl refl h)

      made : ℕ → Work
      made number = with_manager (tm.sent tid node) (enter_issue tid (request number) op work)

      gone : ℕ → Work
      gone number = send node (messages.Request tid (label_of tid work.node) member number files_no op) (made number)

      asks_on : (b : Bool) (w : Work) → Keeps w (ask_on b tid node w)
      asks_on false w h = h
      asks_on true w h = sends node (messages.AskVote tid) w h

      goes_away : (number : ℕ) → Keeps work (issue_away tid (request number) op work)
      goes_away number h = asks_on (is_asked tid work) (gone number) (sends node (messages.Request tid (label_of tid work.node) member number files_no op) (made number)
          (quiet work (made number) (acts.Issue tid (member_here work files_no) member number op) refl refl refl refl refl refl h))

  voted : (tid : Tid) (server : ServerNo) (ballot : Vote) (work : Work) → Keeps work (log_vote ballot tid server (enter_vote tid server ballot work))
  voted tid server (votes.Abort reason) work = quiet work (enter_vote tid server (votes.Abort reason) work) (acts.Vote tid (member_here work server) (votes.Abort reason) (served_count tid server work)) tt refl refl refl refl refl
  voted tid server votes.ReadOnly work = quiet work (enter_vote tid server votes.ReadOnly work) (acts.Vote tid (member_here work server) votes.ReadOnly (served_count tid server work)) tt refl refl refl refl refl
  voted tid server votes.Volatile work = quiet work (enter_vote tid server votes.Volatile work) (acts.Vote tid (member_here work server) votes.Volatile (served_count tid server work)) tt refl refl refl refl refl
  voted tid server votes.Recoverable work = quiet work (log_vote votes.Recoverable tid server (enter_vote tid server votes.Recoverable work)) (acts.Vote tid (member_here work server) votes.Recoverable (served_count tid server work)) tt refl refl refl refl refl

  pub passes : (tid : Tid) (part : Participant) (work : Work) → Keeps work (pass_rule tid part work)
  passes tid part work = shapes.if_keeps P (is_pass_due tid part work) (vote_pass tid work) work work
      (λ due h. shapes.fold_keeps P (vote_next tid) (λ w server. shapes.if_keeps P (owes_note tid server w) (issue_note tid w.node.setting.audit w) (log_vote (ballot w server) tid server (enter_vote tid server (ballot w server) w)) w
      (λ owes. noted tid w.node.setting.audit w) (λ free. voted tid server (ballot w server) w)) (due_votes tid work) (end_members tid work) (ends tid work h)) (λ due h. h)
    where
      ballot : Work → ServerNo → Vote
      ballot w server = vote_of (server_at w.node.servers server) tid w.room (vote_frame w)

  pub readies : (tid : Tid) (part : Participant) (work : Work) → Keeps work (ready_rule tid part work)
  readies tid part work = shapes.if_keeps P (may_answer tid part work) (ready tid part work) work work
      (λ answers. shapes.if_keeps P part.engage.home (if is_quiet (doings_of tid work) then decide_commit tid work else work) (answer_superior tid part work) work
      (λ home. shapes.if_keeps P (is_quiet (doings_of tid work)) (decide_commit tid work) work work (λ is. commits) (λ is h. h))
      (λ home. shapes.elim_keeps P (release_of part.engage) work (λ superior. say_yes tid part superior work) work (λ none h. h)
      (λ superior is h. sends superior.0 (messages.VotedYes tid superior.1 (listed (told_with_own (here work) part))) (with_manager (tm.released tid) work) (left work (with_manager (tm.released tid) work) refl refl refl refl refl h)))) (λ is h. h)
    where
      commits : Keeps work (decide_commit tid work)
      commits = shapes.elim_keeps P (tm.need_past tid work.room work.node.manager) (decide tid outcomes.Commit None work) (λ need. decide tid outcomes.Abort (Some (causes.Room need work.room)) work) work
          (λ none. unasked tid outcomes.Commit None work tt) (λ need is. unasked tid outcomes.Abort (Some (causes.Room need work.room)) work tt)

  pub sends_on : (tid : Tid) (part : Participant) (work : Work) → Keeps work (refuse_elsewhere tid part work)
  sends_on tid part work h = shapes.fold_keeps P (send_refusal tid (refusal_goes_to tid part)) (λ w cause. sends (refusal_goes_to tid part) (messages.VotedAbort tid cause) w) part.causes (with_manager (tm.take_causes tid) work)
      (left work (with_manager (tm.take_causes tid) work) refl refl refl refl refl h)

  pub forgets : (tid : Tid) (part : Participant) (work : Work) → Keeps work (forget_rule tid part work)
  forgets tid part work = shapes.if_keeps P (is_forgotten part) (forget tid work) work work (λ is. left work (forget tid work) refl refl refl refl refl) (λ is h. h)
