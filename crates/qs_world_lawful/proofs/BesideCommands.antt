-- What clients command, as it comes and while it waits: what stands before stands after.
use Rattle.qs_world_lawful.proofs.Words.{◌≡◌, ℕ, ◌==◌, ◌+◌, true, Option, Some, None, refl, sym, ap, ◌∙◌, arith, if◌then◌else◌, nat_tests, is_at, lookup, is_some, slice_get, ClientNo, Member, Tid, uncovered, listed, Command, ScriptLine, first_untaken, last_taken, take_first, KeptLabel, Lent, BookValue, find_transaction, with_transaction, TransactionValue, asked_at, changed_none, lookup_changed, tid_cmp, Op, client_server, kept_outcome, become_asked, borrower_command, is_aborted, is_void, lent_command}
use Rattle.qs_world_lawful.proofs.Words.{loan_command, take, take_command, yield, enter, ask, begin_or_refuse, decided_answer, enter_ask, open_command, owner_command, refuse_begin, request_as, request_command, with_issued, next_number, label_at, put_label, Work, client_cmp, with_doings, with_kept, with_manager, borrower_waits, command_came, is_owner, labelled, obey, owner_waits, wait_command, wait_on, waits_at, with_command, Issued, OpenCommand, BeginFault, Participant, InRun, book_at}
use Rattle.qs_base.specs.declared.identifiers.Outcome.TheVariants as outcomes
use Rattle.qs_book_journal.specs.declared.entry.Act.TheVariants as acts
use Rattle.qs_book_journal.specs.declared.script_line.Command.TheVariants as commands
use Rattle.qs_node_kept.specs.Loans.{give_back}
use Rattle.qs_book_machine.specs.Nodes as machine
use Rattle.qs_ops.specs.declared.answer.Answer.TheVariants as answers
use Rattle.qs_ops.specs.declared.answer.Cause.TheVariants as causes
use Rattle.qs_packet.specs.declared.message.Message.TheVariants as messages
use Rattle.qs_node_step.specs.Bringing.{answer}
use Rattle.qs_node_step.specs.Deciding.{decide}
use Rattle.qs_node_step.specs.State.{NodeValue, part_of}
use Rattle.qs_node_step.specs.Step.{request_waits}
use Rattle.qs_tm.specs.Manager as tm
use Rattle.qs_tm.specs.Participant as participant
use Rattle.qs_tm.specs.declared.manager.BeginFault.TheVariants as faults
use Rattle.qs_world_lawful.proofs.BesideBegin.{goes_begin}
use Rattle.qs_world_lawful.proofs.BesideGoes.{Goes, goes_alike, goes_elim, goes_if, goes_self, goes_sends, goes_then, goes_where}
use Rattle.qs_world_lawful.proofs.BesidePlain.{goes_answer, goes_asked, goes_yield}
use Rattle.qs_world_lawful.proofs.BesideReply.{goes_ask}
use Rattle.qs_world_lawful.proofs.BesideRequests.{goes_number, known_asked}
use Rattle.qs_world_lawful.proofs.BesideSettle.{goes_abort}
use Rattle.qs_world_lawful.proofs.Faces.{part_changed}
use Rattle.qs_world_lawful.proofs.Growing.{book_now}
use Rattle.qs_world_lawful.proofs.Truths.{of_some}

module _ (stamp : ℕ) (before : BookValue) (run : InRun before) where
  abbrev On : Work → Work → Type 0
  On work new = Goes stamp before run work new

  -- ---- asking

  pub goes_become : (tid : Tid) (part : Participant) (work : Work) → part_of tid work ≡ Some part → ((tx : TransactionValue) → find_transaction (book_at stamp before work) tid ≡ Some tx → is_some tx.asked ≡ true) → On work (become_asked tid part work)
  goes_become tid part work known asked = goes_then stamp before run work (with_manager (tm.ask tid) work) (become_asked tid part work) (goes_ask stamp before run tid work asked)
      (goes_sends stamp before run (listed (uncovered part.engage)) (messages.AskVote tid) (with_manager (tm.ask tid) work) (λ to. tt)
      (λ w at es h. known_asked (book_at stamp before w) w.node tid (participant.ask part) (ap (λ (n : NodeValue). tm.part_of tid n.manager) at ∙ part_changed tid participant.ask work.node.manager part known) refl h))

  goes_asks : (tid : Tid) (part : Participant) (work : Work) → part_of tid work ≡ Some part → On work (ask tid part work)
  goes_asks tid part work known = goes_if stamp before run part.asked work work (become_asked tid part (enter_ask tid work)) (λ is. goes_self stamp before run work)
      (λ is. goes_then stamp before run work entered (become_asked tid part (enter_ask tid work)) (goes_asked stamp before run tid work)
      (goes_then stamp before run entered (enter_ask tid work) (become_asked tid part (enter_ask tid work)) (goes_alike stamp before run entered (enter_ask tid work) refl refl refl refl refl refl)
      (goes_become tid part (enter_ask tid work) known (λ tx found. so tx (sym (ap (λ (b : BookValue). find_transaction b tid) (book_now stamp before work (enter_ask tid work) (acts.Ask tid) refl refl)) ∙ found)))))
    where
      entered : Work
      entered = enter (acts.Ask tid) work

      so : (tx : TransactionValue) → find_transaction (with_transaction tid (asked_at (book_at stamp before work).place) (book_at stamp before work)) tid ≡ Some tx → is_some tx.asked ≡ true
      so tx found = by (find_transaction (book_at stamp before work) tid) refl
        where
          no : None ≡ Some tx → ⊥
          no e = cc e

          by : (o : Option TransactionValue) → find_transaction (book_at stamp before work) tid ≡ o → is_some tx.asked ≡ true
          by None is = absurd (no (sym (changed_none (is_at (tid_cmp tid)) (asked_at (book_at stamp before work).place) (book_at stamp before work).transactions is) ∙ found))
          by (Some t) is = ap (λ (x : TransactionValue). is_some x.asked) (of_some (sym found ∙ lookup_changed (is_at (tid_cmp tid)) (asked_at (book_at stamp before work).place) (book_at stamp before work).transactions t is))

  -- ---- requests of clients

  goes_request_command : (client : ClientNo) (tid : Tid) (member : Member) (op : Op) (work : Work) → On work (request_command client tid member op work)
  goes_request_command client tid member op work = goes_elim stamp before run (next_number tid member.node work) work work (λ number. request_as client tid member op number work) (λ none. goes_self stamp before run work)
      (λ number is. goes_then stamp before run work (issued number) (request_as client tid member op number work) (goes_alike stamp before run work (issued number) refl refl refl refl refl refl)
      (goes_number stamp before run tid (record { issuer = client_server client; member = member; number = number; count = 0 }) op (issued number) (λ files. absurd (none client.0 files)) is))
    where
      issued : ℕ → Work
      issued number = with_issued client (record { tid = tid; member = member; number = number }) work

      none : (n : ℕ) → (n + 32 == 0) ≡ true → ⊥
      none n e = grind (arith, nat_tests, e)

  -- ---- borrowers

  goes_take : (client : ClientNo) (tid : Tid) (loan : Lent) (work : Work) → On work (take client tid loan work)
  goes_take client tid loan work =
      let taken : Work = with_kept (λ kept. record kept { loans = take_first client tid kept.loans }) work in
      goes_then stamp before run work taken (take client tid loan work) (goes_alike stamp before run work taken refl refl refl refl refl refl) (goes_answer stamp before run client (if is_void tid loan work.node then answers.Ended else answers.Done) taken)

  goes_take_command : (client : ClientNo) (tid : Tid) (work : Work) → On work (take_command client tid work)
  goes_take_command client tid work = goes_elim stamp before run (first_untaken client tid work.node.kept.now.loans) work work (λ loan. take client tid loan work) (λ none. goes_self stamp before run work) (λ loan is. goes_take client tid loan work)

  goes_yields : (client : ClientNo) (tid : Tid) (work : Work) → On work (yield client tid work)
  goes_yields client tid work =
      let given : Work = with_kept (λ kept. record kept { loans = give_back client tid kept.loans }) work in
      let entered : Work = enter (acts.Yield tid client) given in
      let noted : Work = with_doings tid (λ doings. record doings { yielded = true }) entered in
      goes_then stamp before run work given (yield client tid work) (goes_alike stamp before run work given refl refl refl refl refl refl)
      (goes_then stamp before run given entered (yield client tid work) (goes_yield stamp before run tid client given)
      (goes_then stamp before run entered noted (yield client tid work) (goes_alike stamp before run entered noted refl refl refl refl refl refl) (goes_answer stamp before run client answers.Done noted)))

  goes_lent : (client : ClientNo) (tid : Tid) (command : Command) (work : Work) → On work (lent_command client tid command work)
  goes_lent client tid commands.Begin work = goes_self stamp before run work
  goes_lent client tid commands.Commit work = goes_self stamp before run work
  goes_lent client tid commands.Abort work = goes_self stamp before run work
  goes_lent client tid commands.Take work = goes_self stamp before run work
  goes_lent client tid commands.Yield work = goes_yields client tid work
  goes_lent client tid (commands.Request member op) work = goes_request_command client tid member op work

  goes_loan_command : (client : ClientNo) (tid : Tid) (command : Command) (work : Work) → On work (loan_command client tid command work)
  goes_loan_command client tid command work = goes_elim stamp before run (last_taken client tid work.node.kept.now.loans) work work _ (λ none. goes_self stamp before run work)
      (λ loan is. goes_if stamp before run loan.yielded work _ _ (λ y. goes_answer stamp before run client answers.NotYours work)
      (λ y. goes_if stamp before run (is_void tid loan work.node) work _ _ (λ v. goes_answer stamp before run client answers.Ended work) (λ v. goes_lent client tid command work)))

  pub goes_borrower : (client : ClientNo) (tid : Tid) (command : Command) (work : Work) → On work (borrower_command client tid command work)
  goes_borrower client tid commands.Begin work = goes_loan_command client tid commands.Begin work
  goes_borrower client tid commands.Commit work = goes_loan_command client tid commands.Commit work
  goes_borrower client tid commands.Abort work = goes_loan_command client tid commands.Abort work
  goes_borrower client tid commands.Take work = goes_take_command client tid work
  goes_borrower client tid commands.Yield work = goes_loan_command client tid commands.Yield work
  goes_borrower client tid (commands.Request member op) work = goes_loan_command client tid (commands.Request member op) work

  -- ---- owners

  goes_open : (client : ClientNo) (tid : Tid) (command : Command) (work : Work) → On work (open_command client tid command work)
  goes_open client tid commands.Begin work = goes_self stamp before run work
  goes_open client tid commands.Commit work = goes_where stamp before run tid (ask tid) work (λ part known none. goes_asks tid part work known)
  goes_open client tid commands.Abort work = goes_where stamp before run tid (λ part. decide tid outcomes.Abort (Some causes.Asked)) work (λ part known none. goes_abort stamp before run tid causes.Asked work)
  goes_open client tid commands.Take work = goes_self stamp before run work
  goes_open client tid commands.Yield work = goes_self stamp before run work
  goes_open client tid (commands.Request member op) work = goes_request_command client tid member op work

  goes_owner : (client : ClientNo) (o : Option Tid) (command : Command) (work : Work) → On work (owner_command client o command work)
  goes_owner client None command work = goes_answer stamp before run client answers.NotBegun work
  goes_owner client (Some tid) command work = goes_elim stamp before run (kept_outcome tid work.node) work (open_command client tid command work) (λ decided. answer client (decided_answer decided command) work) (λ none. goes_open client tid command work)
      (λ decided is. goes_answer stamp before run client (decided_answer decided command) work)

  goes_labelled : (client : ClientNo) (begun : KeptLabel) (command : Command) (work : Work) → On work (labelled client begun command work)
  goes_labelled client begun command work = goes_if stamp before run (is_owner client begun.owner) work (owner_command client begun.tid command work) (elim begun.tid [ None ↦ work | Some tid ↦ borrower_command client tid command work ])
      (λ is. goes_owner client begun.tid command work) (λ is. goes_elim stamp before run begun.tid work work (λ tid. borrower_command client tid command work) (λ none. goes_self stamp before run work) (λ tid at. goes_borrower client tid command work))

  -- ---- as they come

  module _ (line : ScriptLine) (work : Work) (owner : is_some (slice_get (book_at stamp before work).owners line.client.0) ≡ true)
      (clock : (state : machine.NodeValue) → slice_get (book_at stamp before work).nodes work.node.setting.node.0 ≡ Some state → state.timers.ticks ≡ work.node.manager.ticks) where
    abbrev open_work : Work
    open_work = with_command line work

    begins : (o : Option BeginFault) → On open_work (begin_or_refuse line o open_work)
    begins None = goes_begin stamp before run open_work line owner clock
    begins (Some (faults.LogFull need room)) =
        let put : Work = put_label (record { label = line.label; tid = None; owner = Some line.client }) open_work in
        goes_then stamp before run open_work put (refuse_begin line need room open_work) (goes_alike stamp before run open_work put refl refl refl refl refl refl) (goes_answer stamp before run line.client (answers.LogFull need room) put)
    begins (Some (faults.Last number)) = goes_self stamp before run open_work
    begins (Some faults.NoMemory) = goes_self stamp before run open_work

    meets : (command : Command) → On open_work (elim (label_at line.label open_work.node) [ None ↦ open_work | Some begun ↦ labelled line.client begun command open_work ])
    meets command = goes_elim stamp before run (label_at line.label open_work.node) open_work open_work (λ begun. labelled line.client begun command open_work) (λ none. goes_self stamp before run open_work) (λ begun is. goes_labelled line.client begun command open_work)

    obeys : (command : Command) → On open_work (obey line command open_work)
    obeys commands.Begin = begins (tm.begin_fault open_work.room open_work.node.manager)
    obeys commands.Commit = meets commands.Commit
    obeys commands.Abort = meets commands.Abort
    obeys commands.Take = meets commands.Take
    obeys commands.Yield = meets commands.Yield
    obeys (commands.Request member op) = meets (commands.Request member op)

    pub goes_command : On work (command_came line work)
    goes_command = goes_then stamp before run work open_work (command_came line work) (goes_alike stamp before run work open_work refl refl refl refl refl refl) (obeys line.command)

  -- ---- while they wait

  goes_request_waits : (client : ClientNo) (issued : Issued) (work : Work) → On work (request_waits client issued work)
  goes_request_waits client issued work = goes_if stamp before run (is_aborted issued.tid work.node) work (answer client answers.Ended work) work (λ is. goes_answer stamp before run client answers.Ended work) (λ is. goes_self stamp before run work)

  goes_owner_waits : (client : ClientNo) (o : Option Tid) (command : Command) (work : Work) → On work (owner_waits client o command work)
  goes_owner_waits client None command work = goes_self stamp before run work
  goes_owner_waits client (Some tid) command work = goes_elim stamp before run (kept_outcome tid work.node) work work (λ decided. answer client (decided_answer decided command) work) (λ none. goes_self stamp before run work) (λ decided is. goes_answer stamp before run client (decided_answer decided command) work)

  goes_borrower_waits : (client : ClientNo) (issued : Option Issued) (o : Option Tid) (command : Command) (work : Work) → On work (borrower_waits client issued o command work)
  goes_borrower_waits client (Some issued) o command work = goes_request_waits client issued work
  goes_borrower_waits client None None command work = goes_self stamp before run work
  goes_borrower_waits client None (Some tid) command work = goes_borrower client tid command work

  goes_waits_at : (client : ClientNo) (command : OpenCommand) (begun : KeptLabel) (work : Work) → On work (waits_at client command begun work)
  goes_waits_at client command begun work = goes_if stamp before run (is_owner client begun.owner) work (owner_waits client begun.tid command.line.command work) (borrower_waits client command.issued begun.tid command.line.command work)
      (λ is. goes_owner_waits client begun.tid command.line.command work) (λ is. goes_borrower_waits client command.issued begun.tid command.line.command work)

  goes_wait_command : (client : ClientNo) (command : OpenCommand) (work : Work) → On work (wait_command client command work)
  goes_wait_command client command work = goes_elim stamp before run (label_at command.line.label work.node) work work (λ begun. waits_at client command begun work) (λ none. goes_self stamp before run work) (λ begun is. goes_waits_at client command begun work)

  pub goes_wait : (work : Work) (client : ClientNo) → On work (wait_on work client)
  goes_wait work client = goes_elim stamp before run (lookup (is_at (client_cmp client)) work.node.commands) work work (λ command. wait_command client command work) (λ none. goes_self stamp before run work) (λ command is. goes_wait_command client command work)
