-- What waits for its reply waits on as clients command: the client that issued it does not, since its command is in hand.
use Rattle.qs_world_runs.proofs.Words.{◌≡◌, inl, ℕ, ◌+◌, Bool, true, false, List, [], ◌∷◌, ◌++◌, Option, Some, None, refl, sym, subst, ◌∙◌, if◌then◌else◌, nat_cmp_total, tied_itself, is_at, lookup, is_some, Equal, ClientNo, Member, Tid, Lent, Op, label_at, put_label, changed_apart, Work, client_cmp, with_doings, with_manager, Issued, OpenCommand, awaits_note, is_answered_by, is_by_files, is_forgotten, new_participant, Participant, Command, ScriptLine, first_untaken, give_back, last_taken}
use Rattle.qs_world_runs.proofs.Words.{take_first, KeptLabel, Decided, Answer, client_server, kept_outcome, become_asked, borrower_command, is_void, lent_command, take, with_loan, yield, answer, enter, ask, begin_as, begin_command, begin_or_refuse, decided_answer, enter_ask, open_command, owner_command, refuse_begin, request_as, request_command, command_came, is_owner, labelled, obey, with_command, with_kept, BeginFault, client_exact}
use Rattle.qs_base.specs.declared.identifiers.Outcome.TheVariants as outcomes
use Rattle.qs_node_step.specs.Deciding.{decide}
use Rattle.qs_node_step.specs.Requests.{next_number}
use Rattle.qs_book_laws.proofs.Maps.{lookup_put, lookup_put_apart}
use Rattle.qs_tm.specs.Manager as tm
use Rattle.qs_tm.specs.Participant as participant
use Rattle.qs_book_journal.specs.declared.script_line.Command.TheVariants as commands
use Rattle.qs_book_journal.specs.declared.entry.Act.TheVariants as acts
use Rattle.qs_ops.specs.declared.answer.Answer.TheVariants as answers
use Rattle.qs_ops.specs.declared.answer.Cause.TheVariants as causes
use Rattle.qs_node_step.specs.Commands.{with_issued}
use Rattle.qs_tm.specs.declared.manager.BeginFault.TheVariants as faults
use Rattle.qs_world_runs.proofs.AwaitedKept.{back_lent, borrowed_on, elsewhere, loans_on, put_on, take_lent, labelled_on, with_borrowed}
use Rattle.qs_world_runs.proofs.AwaitedTurns.{issue_as_on}
use Rattle.qs_world_runs.proofs.AwaitedRules.{become_on, On, Free, answer_on, decide_on, free_so, if_on, itself_on, then_on, undecided_on, waits_on}

pub client_self : (c : ClientNo) → client_cmp c c ≡ Equal
client_self c = rw (tied_itself nat_cmp_total c.0) refl

module _ (D : Type 0) (tid : Tid) (member : Member) (number : ℕ) where
  abbrev L : Work → Work → Type 0
  L work new = On D tid member number work new

  abbrev Fr : ClientNo → Work → Type 0
  Fr client work = Free D tid member number client work

  say : (client : ClientNo) (said : Answer) (work : Work) → Fr client work → L work (answer client said work)
  say client said work free = answer_on D tid member number client said work (free_so D tid member number client work free)

  -- ---- loans

  give_on : (client : ClientNo) (t : Tid) (work : Work) → Fr client work → L work (with_kept (λ kept. record kept { loans = give_back client t kept.loans }) work)
  give_on client t work free = waits_on D tid member number work (with_kept (λ kept. record kept { loans = give_back client t kept.loans }) work)
      (λ w. with_borrowed tid member number work.node.manager work.node.commands work.node.commands work.node.kept.now (record work.node.kept.now { loans = give_back client t work.node.kept.now.loans }) work.node.setting.inc D
      (loans_on tid member number work.node.commands work.node.setting.inc D client work.node.kept.now (free_so D tid member number client work free w) (give_back client t work.node.kept.now.loans)
      (λ c far. back_lent c client far tid work.node.setting.inc t work.node.kept.now.loans)) w) (λ k. k)

  took_on : (client : ClientNo) (t : Tid) (work : Work) → Fr client work → L work (with_kept (λ kept. record kept { loans = take_first client t kept.loans }) work)
  took_on client t work free = waits_on D tid member number work (with_kept (λ kept. record kept { loans = take_first client t kept.loans }) work)
      (λ w. with_borrowed tid member number work.node.manager work.node.commands work.node.commands work.node.kept.now (record work.node.kept.now { loans = take_first client t work.node.kept.now.loans }) work.node.setting.inc D
      (loans_on tid member number work.node.commands work.node.setting.inc D client work.node.kept.now (free_so D tid member number client work free w) (take_first client t work.node.kept.now.loans)
      (λ c far. take_lent c client far tid work.node.setting.inc t work.node.kept.now.loans)) w) (λ k. k)

  -- ---- requests that clients command

  issued_on : (client : ClientNo) (issued : Issued) (work : Work) → Fr client work → L work (with_issued client issued work)
  issued_on client issued work free = waits_on D tid member number work (with_issued client issued work)
      (λ w. with_borrowed tid member number work.node.manager work.node.commands changed work.node.kept.now work.node.kept.now work.node.setting.inc D
      (borrowed_on tid member number work.node.kept.now work.node.setting.inc D client work.node.commands changed (free_so D tid member number client work free w)
      (λ c far. changed_apart (is_at (client_cmp client)) (is_at (client_cmp c)) far.1 (λ command. record command { issued = Some issued }) work.node.commands)) w) (λ k. k)
    where
      changed : List (ClientNo × OpenCommand)
      changed = tm.changed_value (is_at (client_cmp client)) (λ command. record command { issued = Some issued }) work.node.commands

  request_on : (client : ClientNo) (t : Tid) (m : Member) (op : Op) (work : Work) → Fr client work → L work (request_command client t m op work)
  request_on client t m op work free = by (next_number t m.node work)
    where
      by : (o : Option ℕ) → L work (elim o [ None ↦ work | Some n ↦ request_as client t m op n work ])
      by None = itself_on D tid member number work
      by (Some n) = then_on D tid member number work (with_issued client (record { tid = t; member = m; number = n }) work) (request_as client t m op n work) (issued_on client (record { tid = t; member = m; number = n }) work free)
          (issue_as_on D tid member number t (record { issuer = client_server client; member = m; number = n; count = 0 }) op (with_issued client (record { tid = t; member = m; number = n }) work))

  -- ---- a borrower

  pub borrower_on : (client : ClientNo) (t : Tid) (command : Command) (work : Work) → Fr client work → L work (borrower_command client t command work)
  borrower_on client t command work free = by command
    where
      taken : Work
      taken = with_kept (λ kept. record kept { loans = take_first client t kept.loans }) work

      taking : (o : Option Lent) → L work (elim o [ None ↦ work | Some loan ↦ take client t loan work ])
      taking None = itself_on D tid member number work
      taking (Some loan) = then_on D tid member number work taken (take client t loan work) (took_on client t work free) (say client (if is_void t loan work.node then answers.Ended else answers.Done) taken free)

      given : Work
      given = with_doings t (λ doings. record doings { yielded = true }) (enter (acts.Yield t client) (with_kept (λ kept. record kept { loans = give_back client t kept.loans }) work))

      lent : (c : Command) → L work (lent_command client t c work)
      lent commands.Yield = then_on D tid member number work given (yield client t work) (give_on client t work free) (say client answers.Done given free)
      lent (commands.Request m op) = request_on client t m op work free
      lent commands.Begin = itself_on D tid member number work
      lent commands.Commit = itself_on D tid member number work
      lent commands.Abort = itself_on D tid member number work
      lent commands.Take = itself_on D tid member number work

      with_one : (c : Command) (o : Option Lent) → L work (elim o [ None ↦ work | Some loan ↦ with_loan client t c loan work ])
      with_one c None = itself_on D tid member number work
      with_one c (Some loan) = if_on D tid member number loan.yielded (answer client answers.NotYours work) (if is_void t loan work.node then answer client answers.Ended work else lent_command client t c work) work (λ so. say client answers.NotYours work free)
          (λ so. if_on D tid member number (is_void t loan work.node) (answer client answers.Ended work) (lent_command client t c work) work (λ s. say client answers.Ended work free) (λ s. lent c))

      by : (c : Command) → L work (borrower_command client t c work)
      by commands.Take = taking (first_untaken client t work.node.kept.now.loans)
      by commands.Begin = with_one commands.Begin (last_taken client t work.node.kept.now.loans)
      by commands.Commit = with_one commands.Commit (last_taken client t work.node.kept.now.loans)
      by commands.Abort = with_one commands.Abort (last_taken client t work.node.kept.now.loans)
      by commands.Yield = with_one commands.Yield (last_taken client t work.node.kept.now.loans)
      by (commands.Request m op) = with_one (commands.Request m op) (last_taken client t work.node.kept.now.loans)

  -- ---- an owner

  owner_on : (client : ClientNo) (o : Option Tid) (command : Command) (work : Work) → Fr client work → L work (owner_command client o command work)
  owner_on client None command work free = say client answers.NotBegun work free
  owner_on client (Some t) command work free = by (kept_outcome t work.node)
    where
      asks : (part : Participant) → L work (ask t part work)
      asks part = if_on D tid member number part.asked work (become_asked t part (enter_ask t work)) work (λ so. itself_on D tid member number work) (λ so. then_on D tid member number work (enter_ask t work) (become_asked t part (enter_ask t work)) (λ w. inl w) (become_on D tid member number t part (enter_ask t work)))

      opened : (c : Command) → L work (open_command client t c work)
      opened commands.Commit = undecided_on D tid member number t (ask t) work (λ part known open_now. asks part)
      opened commands.Abort = undecided_on D tid member number t (λ part. decide t outcomes.Abort (Some causes.Asked)) work (λ part known open_now. decide_on D tid member number t outcomes.Abort (Some causes.Asked) work)
      opened (commands.Request m op) = request_on client t m op work free
      opened commands.Begin = itself_on D tid member number work
      opened commands.Take = itself_on D tid member number work
      opened commands.Yield = itself_on D tid member number work

      by : (o : Option Decided) → L work (elim o [ None ↦ open_command client t command work | Some decided ↦ answer client (decided_answer decided command) work ])
      by None = opened command
      by (Some decided) = say client (decided_answer decided command) work free

  -- ---- a command comes

  -- what begins is another transaction
  abbrev pub BeginsOther : Work → Type 0
  BeginsOther work = is_some (tm.part_of tid work.node.manager) ≡ true → tm.next_tid work.node.manager ≡ tid → ⊥

  begin_on : (line : ScriptLine) (work : Work) → BeginsOther work → Fr line.client work → L work (begin_command line work)
  begin_on line work other free = by (tm.begin_fault work.room work.node.manager)
    where
      noted : Option Tid → Work → Work
      noted o w = put_label (record { label = line.label; tid = o; owner = Some line.client }) w

      notes : (o : Option Tid) (w : Work) → L w (noted o w)
      notes o w = waits_on D tid member number w (noted o w) (with_borrowed tid member number w.node.manager w.node.commands w.node.commands w.node.kept.now (record w.node.kept.now { labels = w.node.kept.now.labels ++ record { label = line.label; tid = o; owner = Some line.client } ∷ [] }) w.node.setting.inc D
          (λ b. inl (labelled_on tid member number w.node.commands w.node.setting.inc w.node.kept.now (record { label = line.label; tid = o; owner = Some line.client }) b))) (λ k. k)

      begun : Work
      begun = with_manager (tm.begin line.client) work

      begins : L work begun
      begins = waits_on D tid member number work begun (λ w. inl (put_on tid member number work.node.commands work.node.kept.now work.node.setting.inc (tm.next_tid work.node.manager) (participant.begun_participant line.client work.node.manager.ticks) (record work.node.manager { begun = work.node.manager.begun + 1 }) (other (rw w.known refl))
          (elsewhere tid member number work.node.commands work.node.kept.now work.node.setting.inc work.node.manager (record work.node.manager { begun = work.node.manager.begun + 1 }) refl w))) (λ k. k)

      begun_as : (t : Tid) → L work (begin_as line t work)
      begun_as t = then_on D tid member number work begun (begin_as line t work) begins
          (then_on D tid member number begun (noted (Some t) begun) (begin_as line t work) (notes (Some t) begun) (then_on D tid member number (noted (Some t) begun) (enter (acts.Begin t line.label line.client) (noted (Some t) begun)) (begin_as line t work) (λ w. inl w)
          (say line.client answers.Done (enter (acts.Begin t line.label line.client) (noted (Some t) begun)) free)))

      by : (o : Option BeginFault) → L work (begin_or_refuse line o work)
      by None = begun_as (tm.next_tid work.node.manager)
      by (Some (faults.LogFull need room)) = then_on D tid member number work (noted None work) (refuse_begin line need room work) (notes None work) (say line.client (answers.LogFull need room) (noted None work) free)
      by (Some (faults.Last value)) = itself_on D tid member number work
      by (Some faults.NoMemory) = itself_on D tid member number work

  obey_on : (line : ScriptLine) (command : Command) (work : Work) → BeginsOther work → Fr line.client work → L work (obey line command work)
  obey_on line command work other free = by command
    where
      borrows : (c : Command) (o : Option Tid) → L work (elim o [ None ↦ work | Some t ↦ borrower_command line.client t c work ])
      borrows c None = itself_on D tid member number work
      borrows c (Some t) = borrower_on line.client t c work free

      under : (c : Command) (o : Option KeptLabel) → L work (elim o [ None ↦ work | Some begun ↦ labelled line.client begun c work ])
      under c None = itself_on D tid member number work
      under c (Some begun) = if_on D tid member number (is_owner line.client begun.owner) (owner_command line.client begun.tid c work) (elim begun.tid [ None ↦ work | Some t ↦ borrower_command line.client t c work ]) work
          (λ so. owner_on line.client begun.tid c work free) (λ so. borrows c begun.tid)

      by : (c : Command) → L work (obey line c work)
      by commands.Begin = begin_on line work other free
      by commands.Commit = under commands.Commit (label_at line.label work.node)
      by commands.Abort = under commands.Abort (label_at line.label work.node)
      by commands.Take = under commands.Take (label_at line.label work.node)
      by commands.Yield = under commands.Yield (label_at line.label work.node)
      by (commands.Request m op) = under (commands.Request m op) (label_at line.label work.node)

  -- the client has no command in hand
  abbrev pub HasNone : ClientNo → Work → Type 0
  HasNone client work = lookup (is_at (client_cmp client)) work.node.commands ≡ None

  pub command_on : (line : ScriptLine) (work : Work) → BeginsOther work → HasNone line.client work → L work (command_came line work)
  command_on line work other none = then_on D tid member number work coming (command_came line work)
      (waits_on D tid member number work coming (λ w. with_borrowed tid member number work.node.manager work.node.commands coming.node.commands work.node.kept.now work.node.kept.now work.node.setting.inc D
      (borrowed_on tid member number work.node.kept.now work.node.setting.inc D line.client work.node.commands coming.node.commands
      (λ b e. absurd (let there : lookup (is_at (client_cmp line.client)) work.node.commands ≡ Some b.command = subst (λ (c : ClientNo). lookup (is_at (client_cmp c)) work.node.commands ≡ Some b.command) (sym e) b.there in cc (there, none)))
      (λ c far. lookup_put_apart client_cmp line.client (record { line = line; issued = None }) (λ x is. client_exact line.client x (rw is refl)) (is_at (client_cmp c)) (apart c far.1) work.node.commands)) w) (λ k. k))
      (obey_on line line.command coming other fresh)
    where
      coming : Work
      coming = with_command line work

      apart : (c : ClientNo) → ((k : ClientNo) → is_at (client_cmp c) k ≡ true → is_at (client_cmp line.client) k ≡ false) → is_at (client_cmp c) line.client ≡ false
      apart c far = of (is_at (client_cmp c) line.client) refl
        where
          of : (b : Bool) → is_at (client_cmp c) line.client ≡ b → b ≡ false
          of false is = refl
          of true is = absurd (let same : is_at (client_cmp line.client) line.client ≡ true = rw (client_self line.client) refl in let other_key : is_at (client_cmp line.client) line.client ≡ false = far line.client is in cc (same, other_key))

      fresh : Fr line.client coming
      fresh command there issued = absurd (cc (sym there ∙ lookup_put client_cmp line.client (record { line = line; issued = None }) (client_self line.client) work.node.commands, issued))
