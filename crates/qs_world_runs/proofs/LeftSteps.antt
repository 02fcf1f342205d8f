-- What is commanded, settled and served of one transaction leaves the places of every other; and no command bears on any but a request and a loan given back.
use Rattle.qs_world_runs.proofs.Words.{◌≡◌, true, false, List, [], ◌∷◌, Option, Some, None, refl, if◌then◌else◌, same_tid, ClientNo, Member, Tid, release_of, ScriptLine, first_untaken, give_back, take_first, Cause, Op, client_server, become_asked, where_undecided, is_void, take, take_command, yield, enter, ask, begin_as, begin_command, begin_or_refuse, enter_ask, refuse_begin, request_as, request_command, put_label, answer_superior, forget_rule, is_pass_due, is_quiet, may_answer, pass_rule}
use Rattle.qs_world_runs.proofs.Words.{ready, ready_rule, refusal_goes_to, refuse_elsewhere, refuse_home, refuse_rule, say_yes, send_refusal, settle_tid, try, Work, doings_of, with_doings, with_kept, with_manager, forget, vote_pass, is_forgotten, BeginFault, Participant, LeavesPlaces}
use Rattle.qs_base.specs.declared.identifiers.Outcome.TheVariants as outcomes
use Rattle.qs_book_journal.specs.declared.entry.Act.TheVariants as acts
use Rattle.qs_ops.specs.declared.answer.Answer.TheVariants as answers
use Rattle.qs_ops.specs.declared.answer.Cause.TheVariants as causes
use Rattle.qs_packet.specs.declared.message.Message.TheVariants as messages
use Rattle.qs_node_step.specs.Commands.{with_issued}
use Rattle.qs_node_step.specs.Deciding.{decide, decide_commit}
use Rattle.qs_node_step.specs.Requests.{next_number}
use Rattle.qs_tm.specs.Manager as tm
use Rattle.qs_tm.specs.declared.manager.BeginFault.TheVariants as faults
use Rattle.qs_world_runs.proofs.LeftOutcomes.{become_leaves, commit_leaves, decide_leaves, forget_leaves}
use Rattle.qs_world_runs.proofs.LeftRequests.{issue_as_leaves, vote_pass_leaves}
use Rattle.qs_world_runs.proofs.PlacesLeft.{answer_leaves, elim_leaves, entry_leaves, fold_leaves, if_leaves, itself_leaves, same_leaves, send_leaves, then_leaves, undecided_leaves}

module _ (t : Tid) where
  abbrev L : Work → Work → Type 0
  L work new = LeavesPlaces t work new

  still : (work new : Work) → new.out.entries ≡ work.out.entries → new.out.messages ≡ work.out.messages → new.node.queues ≡ work.node.queues → new.node.setting ≡ work.node.setting → L work new
  still work new p q r s = same_leaves t work new p q r s

  -- ---- beginning

  pub begun_leaves : (line : ScriptLine) (work : Work) → L work (begin_command line work)
  begun_leaves line work = by (tm.begin_fault work.room work.node.manager)
    where
      begun : (tid : Tid) → L work (begin_as line tid work)
      begun tid = then_leaves t work entered (begin_as line tid work) (entry_leaves t (acts.Begin tid line.label line.client) work entered refl refl refl refl refl) (answer_leaves t line.client answers.Done entered)
        where
          entered : Work
          entered = enter (acts.Begin tid line.label line.client) (put_label (record { label = line.label; tid = Some tid; owner = Some line.client }) (with_manager (tm.begin line.client) work))

      by : (o : Option BeginFault) → L work (begin_or_refuse line o work)
      by None = begun (tm.next_tid work.node.manager)
      by (Some (faults.LogFull need room)) = then_leaves t work (put_label (record { label = line.label; tid = None; owner = Some line.client }) work) (refuse_begin line need room work) (still work (put_label (record { label = line.label; tid = None; owner = Some line.client }) work) refl refl refl refl)
          (answer_leaves t line.client (answers.LogFull need room) (put_label (record { label = line.label; tid = None; owner = Some line.client }) work))
      by (Some (faults.Last value)) = itself_leaves t work
      by (Some faults.NoMemory) = itself_leaves t work

  -- ---- the owner

  ask_leaves : (tid : Tid) (part : Participant) (work : Work) → L work (ask tid part work)
  ask_leaves tid part work = if_leaves t part.asked work (become_asked tid part (enter_ask tid work)) work (itself_leaves t work)
      (then_leaves t work (enter_ask tid work) (become_asked tid part (enter_ask tid work)) (entry_leaves t (acts.Ask tid) work (enter_ask tid work) refl refl refl refl refl) (become_leaves t tid part (enter_ask tid work)))

  pub asking_leaves : (tid : Tid) (work : Work) → L work (where_undecided tid (ask tid) work)
  asking_leaves tid work = undecided_leaves t tid (ask tid) work (λ part. ask_leaves tid part work)

  pub aborting_leaves : (tid : Tid) (work : Work) → L work (where_undecided tid (λ part. decide tid outcomes.Abort (Some causes.Asked)) work)
  aborting_leaves tid work = undecided_leaves t tid (λ part. decide tid outcomes.Abort (Some causes.Asked)) work (λ part. decide_leaves t tid outcomes.Abort (Some causes.Asked) work)

  -- ---- a borrower

  pub take_leaves : (client : ClientNo) (tid : Tid) (work : Work) → L work (take_command client tid work)
  take_leaves client tid work = elim_leaves t (first_untaken client tid work.node.kept.now.loans) work (λ loan. take client tid loan work) work (itself_leaves t work)
      (λ loan. then_leaves t work taken (take client tid loan work) (still work taken refl refl refl refl) (answer_leaves t client (if is_void tid loan work.node then answers.Ended else answers.Done) taken))
    where
      taken : Work
      taken = with_kept (λ kept. record kept { loans = take_first client tid kept.loans }) work

  -- ---- settling

  said_leaves : (tid : Tid) (part : Participant) (work : Work) → L work (answer_superior tid part work)
  said_leaves tid part work = elim_leaves t (release_of part.engage) work (λ superior. say_yes tid part superior work) work (itself_leaves t work)
      (λ superior. then_leaves t work (with_manager (tm.released tid) work) (say_yes tid part superior work) (still work (with_manager (tm.released tid) work) refl refl refl refl)
      (send_leaves t superior.0 (messages.VotedYes tid superior.1 _) (with_manager (tm.released tid) work) (λ server number. refl)))

  pub ready_leaves : (tid : Tid) (part : Participant) (work : Work) → L work (ready_rule tid part work)
  ready_leaves tid part work = if_leaves t (may_answer tid part work) (ready tid part work) work work
      (if_leaves t part.engage.home (if is_quiet (doings_of tid work) then decide_commit tid work else work) (answer_superior tid part work) work
      (if_leaves t (is_quiet (doings_of tid work)) (decide_commit tid work) work work (commit_leaves t tid work) (itself_leaves t work)) (said_leaves tid part work)) (itself_leaves t work)

  refused_home : (tid : Tid) (part : Participant) (work : Work) → L work (refuse_home tid part work)
  refused_home tid part work = by part.causes
    where
      by : (cs : List Cause) → L work (elim cs [ [] ↦ work | cause ∷ more ↦ decide tid outcomes.Abort (Some cause) work ])
      by [] = itself_leaves t work
      by (cause ∷ more) = decide_leaves t tid outcomes.Abort (Some cause) work

  pub refuse_leaves : (tid : Tid) (part : Participant) (work : Work) → L work (refuse_rule tid part work)
  refuse_leaves tid part work = if_leaves t part.engage.home (refuse_home tid part work) (refuse_elsewhere tid part work) work (refused_home tid part work)
      (then_leaves t work taken (refuse_elsewhere tid part work) (still work taken refl refl refl refl)
      (fold_leaves t (send_refusal tid (refusal_goes_to tid part)) (λ w cause. send_leaves t (refusal_goes_to tid part) (messages.VotedAbort tid cause) w (λ server number. refl)) part.causes taken))
    where
      taken : Work
      taken = with_manager (tm.take_causes tid) work

  pub forget_rule_leaves : (tid : Tid) (part : Participant) (work : Work) → L work (forget_rule tid part work)
  forget_rule_leaves tid part work = if_leaves t (is_forgotten part) (forget tid work) work work (forget_leaves t tid work) (itself_leaves t work)

  -- all but a vote pass
  pub rest_leaves : (tid : Tid) (work : Work) → L work (try tid forget_rule (try tid refuse_rule (try tid ready_rule work)))
  rest_leaves tid work = then_leaves t work readied (try tid forget_rule (try tid refuse_rule readied)) (undecided_leaves t tid (ready_rule tid) work (λ part. ready_leaves tid part work))
      (then_leaves t readied (try tid refuse_rule readied) (try tid forget_rule (try tid refuse_rule readied)) (undecided_leaves t tid (refuse_rule tid) readied (λ part. refuse_leaves tid part readied))
      (undecided_leaves t tid (forget_rule tid) (try tid refuse_rule readied) (λ part. forget_rule_leaves tid part (try tid refuse_rule readied))))
    where
      readied : Work
      readied = try tid ready_rule work

  -- ---- of another transaction

  module _ (tid : Tid) (far : same_tid tid t ≡ false) where
    pub request_leaves : (client : ClientNo) (member : Member) (op : Op) (work : Work) → L work (request_command client tid member op work)
    request_leaves client member op work = elim_leaves t (next_number tid member.node work) work (λ number. request_as client tid member op number work) work (itself_leaves t work)
        (λ number. then_leaves t work (with_issued client (record { tid = tid; member = member; number = number }) work) (request_as client tid member op number work) (still work (with_issued client (record { tid = tid; member = member; number = number }) work) refl refl refl refl)
        (issue_as_leaves t tid far (record { issuer = client_server client; member = member; number = number; count = 0 }) op (with_issued client (record { tid = tid; member = member; number = number }) work)))

    pub yield_leaves : (client : ClientNo) (work : Work) → L work (yield client tid work)
    yield_leaves client work = then_leaves t work given (yield client tid work) (entry_leaves t (acts.Yield tid client) work given far refl refl refl refl) (answer_leaves t client answers.Done given)
      where
        given : Work
        given = with_doings tid (λ doings. record doings { yielded = true }) (enter (acts.Yield tid client) (with_kept (λ kept. record kept { loans = give_back client tid kept.loans }) work))

    pub pass_leaves : (part : Participant) (work : Work) → L work (pass_rule tid part work)
    pass_leaves part work = if_leaves t (is_pass_due tid part work) (vote_pass tid work) work work (vote_pass_leaves t tid far work) (itself_leaves t work)

    pub settle_leaves : (work : Work) → L work (settle_tid work tid)
    settle_leaves work = then_leaves t work (try tid pass_rule work) (settle_tid work tid) (undecided_leaves t tid (pass_rule tid) work (λ part. pass_leaves part work)) (rest_leaves tid (try tid pass_rule work))
