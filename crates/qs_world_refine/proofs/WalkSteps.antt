-- What each thing of a step keeps, clients' commands, messages and whatever else comes keep.
use Rattle.qs_world_refine.proofs.Words.{◌≡◌, ℕ, Bool, true, false, List, [], ◌∷◌, fold, Option, Some, None, refl, sym, ap, ◌∙◌, list_all, lookup, is_at, ClientNo, Member, NodeNo, Tid, same_node, is_for, Command, ScriptLine, first_untaken, last_taken, Decided, Lent, ticked, Op, Message, timers_no, Participant, kept_outcome, is_void, take, take_command, lent_command, with_loan, loan_command, borrower_command, enter, request_as, request_command, with_issued, enter_ask, ask, open_command}
use Rattle.qs_world_refine.proofs.Words.{decided_answer, owner_command, decide, next_number, label_at, Work, part_of, with_manager, change_server, client_cmp, is_owner, labelled, obey, with_command, command_came, message_came, abort_old, age_rule, tick, happen, owner_waits, borrower_waits, wait_command, wait_on, waiting_clients, answer_waiting, Issued, OpenCommand, fits, may_command, Reads, Keeps, is_homed, is_run, TicksOn, begins_one}
use Rattle.qs_base.specs.declared.identifiers.Outcome.TheVariants as outcomes
use Rattle.qs_book_journal.specs.declared.script_line.Command.TheVariants as commands
use Rattle.qs_node_kept.specs.declared.kept.KeptLabel.{KeptLabel}
use Rattle.qs_ops.specs.declared.answer.Answer.TheVariants as answers
use Rattle.qs_ops.specs.declared.answer.Cause.TheVariants as causes
use Rattle.qs_packet.specs.declared.message.Message.TheVariants as messages
use Rattle.qs_book_journal.specs.declared.entry.Act.TheVariants as acts
use Rattle.qs_tm.specs.Manager as tm
use Rattle.qs_node_step.specs.Borrowing.{is_aborted}
use Rattle.qs_node_step.specs.Step.{waits_at}
use Rattle.qs_node_step.specs.declared.event.Event.{Event}
use Rattle.qs_node_step.specs.declared.event.Event.TheVariants as events
use Rattle.qs_world_refine.specs.Walks.{MayStepOn, MayTick}
use Rattle.qs_world_refine.proofs.SoundParts.{and_both, both_and}
use Rattle.qs_world_refine.proofs.WalkRules.{fold_walk, if_walk, issue_as_walk, reply_came_walk, request_came_walk, serve_all_walk, undecided_walk, become_asked_walk, ask_came_walk, closer_came_walk, refusal_came_walk}
use Rattle.qs_world_refine.proofs.WalkOutcomes.{decide_walk, tell_came_walk, told_came_walk, inquiry_came_walk}
use Rattle.qs_world_refine.proofs.WalkSettles.{peer_restarted_walk}

-- where time goes on in any case
pub may_tick : (I : Work → Type 0) → TicksOn I → (event : Event) → MayTick event I
may_tick I on (events.Command client line label command) = tt
may_tick I on (events.Received peer message) = tt
may_tick I on events.ServeAll = tt
may_tick I on (events.PeerRestarted peer old new) = tt
may_tick I on events.Tick = on

module _ (P Q : Tid → Bool) (R : NodeNo → Bool) (me : NodeNo) (nodes : ℕ) (I : Work → Type 0) (reads : Reads P Q R me nodes I) (keeps : Keeps P Q R me nodes I) where
  -- ---- what clients command

  request_command_walk : (client : ClientNo) (tid : Tid) (member : Member) (op : Op) (work : Work) → Q tid ≡ true → is_for member.server op ≡ true → I work → I (request_command client tid member op work)
  request_command_walk client tid member op work its own i = by (next_number tid member.node work)
    where
      by : (o : Option ℕ) → I (elim o [ None ↦ work | Some number ↦ request_as client tid member op number work ])
      by None = i
      by (Some number) = issue_as_walk P Q R me nodes I reads keeps tid _ op (with_issued client (record { tid = tid; member = member; number = number }) work) its own (keeps.issue client (record { tid = tid; member = member; number = number }) work i)

  ask_walk : (tid : Tid) (part : Participant) (work : Work) → Q tid ≡ true → I work → I (ask tid part work)
  ask_walk tid part work its i = if_walk P Q R me nodes I reads keeps part.asked (λ is. i)
      (λ is. become_asked_walk P Q R me nodes I reads keeps tid part (enter_ask tid work) its (keeps.doing tid (λ doings. record doings { asked = true }) _ (λ doings is. is) (keeps.enter _ work i)))

  -- what runs here is homed here
  run_homed : (tid : Tid) (work : Work) → I work → tm.told_of tid false is_run work.node.manager ≡ true → is_homed P me tid ≡ true
  run_homed tid work i runs = by (part_of tid work) refl
    where
      by : (o : Option Participant) → part_of tid work ≡ o → is_homed P me tid ≡ true
      by None none = absurd (let never : tm.told_of tid false is_run work.node.manager ≡ false = ap (λ (o : Option Participant). elim o [ None ↦ false | Some p ↦ is_run p ]) none in cc (never, runs))
      by (Some part) known =
          let it : is_run part ≡ true = sym (ap (λ (o : Option Participant). elim o [ None ↦ false | Some p ↦ is_run p ]) known) ∙ runs in
          both_and (P tid) _ (reads.known tid part work i known) (sym (reads.home tid part work i known) ∙ (and_both part.engage.home _ it).0)

  open_command_walk : (client : ClientNo) (tid : Tid) (command : Command) (work : Work) → Q tid ≡ true → may_command nodes command ≡ true → tm.told_of tid false is_run work.node.manager ≡ true → I work → I (open_command client tid command work)
  open_command_walk client tid commands.Commit work its may runs i = undecided_walk P Q R me nodes I reads keeps tid (ask tid) work (λ part known open_now. ask_walk tid part work its i) i
  open_command_walk client tid commands.Abort work its may runs i = undecided_walk P Q R me nodes I reads keeps tid (λ part. decide tid outcomes.Abort (Some causes.Asked)) work
      (λ part known open_now. decide_walk P Q R me nodes I reads keeps tid outcomes.Abort (Some causes.Asked) work (run_homed tid work i runs) (λ is. absurd (cc (is))) i) i
  open_command_walk client tid (commands.Request member op) work its may runs i = request_command_walk client tid member op work its (and_both _ (is_for member.server op) may).1 i
  open_command_walk client tid commands.Begin work its may runs i = i
  open_command_walk client tid commands.Take work its may runs i = i
  open_command_walk client tid commands.Yield work its may runs i = i

  owner_command_walk : (client owner : ClientNo) (name : List ℕ) (begun : KeptLabel) (command : Command) (work : Work) → label_at name work.node ≡ Some begun → begun.owner ≡ Some owner → may_command nodes command ≡ true → I work → I (owner_command client begun.tid command work)
  owner_command_walk client owner name begun command work found own may i = by begun.tid refl
    where
      at : (tid : Tid) → begun.tid ≡ Some tid → (o : Option Decided) → kept_outcome tid work.node ≡ o → I (elim o [ None ↦ open_command client tid command work | Some decided ↦ Rattle.qs_node_step.specs.Bringing.answer client (decided_answer decided command) work ])
      at tid is None none = open_command_walk client tid command work (reads.label name begun tid work i found is) may (reads.owned name begun owner tid work i found own is none) i
      at tid is (Some decided) kept = keeps.answer client (decided_answer decided command) work i

      by : (o : Option Tid) → begun.tid ≡ o → I (owner_command client o command work)
      by None is = keeps.answer client answers.NotBegun work i
      by (Some tid) is = at tid is (kept_outcome tid work.node) refl

  take_command_walk : (client : ClientNo) (tid : Tid) (work : Work) → I work → I (take_command client tid work)
  take_command_walk client tid work i = by (first_untaken client tid work.node.kept.now.loans)
    where
      by : (o : Option Lent) → I (elim o [ None ↦ work | Some loan ↦ take client tid loan work ])
      by None = i
      by (Some loan) = keeps.answer client _ _ (keeps.take client tid work i)

  lent_command_walk : (client : ClientNo) (tid : Tid) (command : Command) (work : Work) → Q tid ≡ true → may_command nodes command ≡ true → I work → I (lent_command client tid command work)
  lent_command_walk client tid commands.Yield work its may i = keeps.answer client answers.Done _ (keeps.doing tid (λ doings. record doings { yielded = true }) _ (λ doings is. is) (keeps.enter _ _ (keeps.yield client tid work i)))
  lent_command_walk client tid (commands.Request member op) work its may i = request_command_walk client tid member op work its (and_both _ (is_for member.server op) may).1 i
  lent_command_walk client tid commands.Begin work its may i = i
  lent_command_walk client tid commands.Commit work its may i = i
  lent_command_walk client tid commands.Abort work its may i = i
  lent_command_walk client tid commands.Take work its may i = i

  loan_command_walk : (client : ClientNo) (tid : Tid) (command : Command) (work : Work) → Q tid ≡ true → may_command nodes command ≡ true → I work → I (loan_command client tid command work)
  loan_command_walk client tid command work its may i = by (last_taken client tid work.node.kept.now.loans)
    where
      by : (o : Option Lent) → I (elim o [ None ↦ work | Some loan ↦ with_loan client tid command loan work ])
      by None = i
      by (Some loan) = if_walk P Q R me nodes I reads keeps loan.yielded (λ is. keeps.answer client answers.NotYours work i)
          (λ is. if_walk P Q R me nodes I reads keeps (is_void tid loan work.node) (λ is. keeps.answer client answers.Ended work i) (λ is. lent_command_walk client tid command work its may i))

  borrower_command_walk : (client : ClientNo) (tid : Tid) (command : Command) (work : Work) → Q tid ≡ true → may_command nodes command ≡ true → I work → I (borrower_command client tid command work)
  borrower_command_walk client tid commands.Take work its may i = take_command_walk client tid work i
  borrower_command_walk client tid commands.Yield work its may i = loan_command_walk client tid commands.Yield work its may i
  borrower_command_walk client tid (commands.Request member op) work its may i = loan_command_walk client tid (commands.Request member op) work its may i
  borrower_command_walk client tid commands.Begin work its may i = loan_command_walk client tid commands.Begin work its may i
  borrower_command_walk client tid commands.Commit work its may i = loan_command_walk client tid commands.Commit work its may i
  borrower_command_walk client tid commands.Abort work its may i = loan_command_walk client tid commands.Abort work its may i

  labelled_walk : (client : ClientNo) (name : List ℕ) (begun : KeptLabel) (command : Command) (work : Work) → label_at name work.node ≡ Some begun → may_command nodes command ≡ true → I work → I (labelled client begun command work)
  labelled_walk client name begun command work found may i = if_walk P Q R me nodes I reads keeps (is_owner client begun.owner) (λ is. owns begun.owner refl is) (λ is. by begun.tid refl)
    where
      owns : (o : Option ClientNo) → begun.owner ≡ o → is_owner client o ≡ true → I (owner_command client begun.tid command work)
      owns None is owner = absurd (cc (owner))
      owns (Some other) is owner = owner_command_walk client other name begun command work found is may i

      by : (o : Option Tid) → begun.tid ≡ o → I (elim o [ None ↦ work | Some tid ↦ borrower_command client tid command work ])
      by None is = i
      by (Some tid) is = borrower_command_walk client tid command work (reads.label name begun tid work i found is) may i

  obey_walk : (line : ScriptLine) (command : Command) (work : Work) → may_command nodes command ≡ true → I work → I (elim (label_at line.label work.node) [ None ↦ work | Some begun ↦ labelled line.client begun command work ])
  obey_walk line command work may i = by (label_at line.label work.node) refl
    where
      by : (o : Option KeptLabel) → label_at line.label work.node ≡ o → I (elim o [ None ↦ work | Some begun ↦ labelled line.client begun command work ])
      by None none = i
      by (Some begun) found = labelled_walk line.client line.label begun command work found may i

  command_came_walk : (line : ScriptLine) (work : Work) → may_command nodes line.command ≡ true → begins_one line.command ≡ false → I work → I (command_came line work)
  command_came_walk line work may none i = by line.command may none
    where
      opened : I (with_command line work)
      opened = keeps.opens line work may i

      by : (command : Command) → may_command nodes command ≡ true → begins_one command ≡ false → I (obey line command (with_command line work))
      by commands.Begin may none = absurd (cc (none))
      by commands.Commit may none = obey_walk line commands.Commit (with_command line work) may opened
      by commands.Abort may none = obey_walk line commands.Abort (with_command line work) may opened
      by commands.Take may none = obey_walk line commands.Take (with_command line work) may opened
      by commands.Yield may none = obey_walk line commands.Yield (with_command line work) may opened
      by (commands.Request member op) may none = obey_walk line (commands.Request member op) (with_command line work) may opened

  -- ---- what comes

  message_walk : (peer : NodeNo) (message : Message) (work : Work) → R peer ≡ true → fits P Q nodes peer me message ≡ true → I work → I (message_came peer message work)
  message_walk peer messages.Hello work met fit i = i
  message_walk peer (messages.Request tid label member number issuer op) work met fit i = request_came_walk P Q R me nodes I reads keeps peer tid label member number op work (and_both (Q tid) _ fit).0 met i
  message_walk peer (messages.Answered tid member number reply) work met fit i = reply_came_walk P Q R me nodes I reads keeps tid member number reply work i
  message_walk peer (messages.AskVote tid) work met fit i = ask_came_walk P Q R me nodes I reads keeps peer tid work i
  message_walk peer (messages.Covered tid up_to) work met fit i = closer_came_walk P Q R me nodes I reads keeps peer tid up_to [] work i
  message_walk peer (messages.VotedYes tid up_to told) work met fit i = closer_came_walk P Q R me nodes I reads keeps peer tid up_to told work i
  message_walk peer (messages.VotedAbort tid cause) work met fit i = refusal_came_walk P Q R me nodes I reads keeps tid cause work fit i
  message_walk peer (messages.Tell tid outcome) work met fit i = let both : (P tid ≡ true) × (same_node tid.home peer ≡ true) = and_both (P tid) _ fit in tell_came_walk P Q R me nodes I reads keeps peer tid outcome work both.0 both.1 i
  message_walk peer (messages.Told tid further) work met fit i = told_came_walk P Q R me nodes I reads keeps peer tid further work (and_both (P tid) _ fit).0 i
  message_walk peer (messages.Inquire tid) work met fit i = inquiry_came_walk P Q R me nodes I reads keeps peer tid work (and_both (P tid) _ fit).0 i

  tick_walk : (work : Work) → TicksOn I → I work → I (tick work)
  tick_walk work on i = by work.node.setting.age
    where
      after : Work
      after = with_manager tm.tick (change_server timers_no (λ value. record value { timers = ticked value.timers }) (enter acts.Tick work))

      ticking : I after
      ticking = on _ (keeps.serve timers_no (λ value. record value { timers = ticked value.timers }) _ (λ value. refl) (keeps.enter acts.Tick work i))

      each : (age : ℕ) (tids : List Tid) → list_all (is_homed P me) tids ≡ true → (w : Work) → I w → I (fold (abort_old age) w tids)
      each age [] all w j = j
      each age (tid ∷ tids) all w j =
          let both : (is_homed P me tid ≡ true) × (list_all (is_homed P me) tids ≡ true) = and_both (is_homed P me tid) _ all in
          each age tids both.1 (abort_old age w tid) (decide_walk P Q R me nodes I reads keeps tid outcomes.Abort (Some (causes.Old age)) w both.0 (λ is. absurd (cc (is))) j)

      by : (o : Option ℕ) → I (age_rule o after)
      by None = ticking
      by (Some age) = each age (tm.aged age after.node.manager) (reads.aged age after ticking) after ticking

  pub happen_walk : (event : Event) (work : Work) → MayStepOn P Q R me nodes event → MayTick event I → I work → I (happen event work)
  happen_walk (events.Command client line label command) work may on i = command_came_walk (record { client = client; line = line; label = label; command = command }) work may.0 may.1 i
  happen_walk (events.Received peer message) work may on i = message_walk peer message work may.0 may.1 i
  happen_walk events.ServeAll work may on i = serve_all_walk P Q R me nodes I reads keeps work i
  happen_walk (events.PeerRestarted peer old new) work may on i = peer_restarted_walk P Q R me nodes I reads keeps peer old new work i
  happen_walk events.Tick work may on i = tick_walk work on i

  -- ---- commands that stay open

  owner_waits_walk : (client : ClientNo) (tid : Option Tid) (command : Command) (work : Work) → I work → I (owner_waits client tid command work)
  owner_waits_walk client None command work i = i
  owner_waits_walk client (Some tid) command work i = by (kept_outcome tid work.node)
    where
      by : (o : Option Decided) → I (elim o [ None ↦ work | Some decided ↦ Rattle.qs_node_step.specs.Bringing.answer client (decided_answer decided command) work ])
      by None = i
      by (Some decided) = keeps.answer client (decided_answer decided command) work i

  borrower_waits_walk : (client : ClientNo) (issued : Option Issued) (name : List ℕ) (begun : KeptLabel) (command : Command) (work : Work) → label_at name work.node ≡ Some begun → may_command nodes command ≡ true → I work → I (borrower_waits client issued begun.tid command work)
  borrower_waits_walk client (Some issued) name begun command work found may i = if_walk P Q R me nodes I reads keeps (is_aborted issued.tid work.node) (λ is. keeps.answer client answers.Ended work i) (λ is. i)
  borrower_waits_walk client None name begun command work found may i = by begun.tid refl
    where
      by : (o : Option Tid) → begun.tid ≡ o → I (borrower_waits client None o command work)
      by None is = i
      by (Some tid) is = borrower_command_walk client tid command work (reads.label name begun tid work i found is) may i

  wait_on_walk : (work : Work) (client : ClientNo) → I work → I (wait_on work client)
  wait_on_walk work client i = by (lookup (is_at (client_cmp client)) work.node.commands) refl
    where
      at : (command : OpenCommand) → may_command nodes command.line.command ≡ true → (o : Option KeptLabel) → label_at command.line.label work.node ≡ o → I (elim o [ None ↦ work | Some begun ↦ waits_at client command begun work ])
      at command may None none = i
      at command may (Some begun) found = if_walk P Q R me nodes I reads keeps (is_owner client begun.owner) (λ is. owner_waits_walk client begun.tid command.line.command work i)
          (λ is. borrower_waits_walk client command.issued command.line.label begun command.line.command work found may i)

      by : (o : Option OpenCommand) → lookup (is_at (client_cmp client)) work.node.commands ≡ o → I (elim o [ None ↦ work | Some command ↦ wait_command client command work ])
      by None none = i
      by (Some command) found = at command (reads.command client command work i found) (label_at command.line.label work.node) refl

  pub answer_waiting_walk : (work : Work) → I work → I (answer_waiting work)
  answer_waiting_walk work i = fold_walk P Q R me nodes I reads keeps wait_on wait_on_walk (waiting_clients work) work i
