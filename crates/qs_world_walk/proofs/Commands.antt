-- What deeds and whole rules keep, the commands of clients keep: as they come, and as they are tried again in the turn of the client.
use Rattle.qs_world_walk.proofs.Words.{Bool, ClientNo, Event, InHand, Member, None, Op, OpenCommand, Option, Some, Stage, Tid, Waits, Whole, Work, after, answer, become_asked, decide, false, if◌then◌else◌, inl, inr, label_at}
use Rattle.qs_world_walk.proofs.Words.{next_number, refl, subst, true, with_doings, with_manager, ◌≡◌}
use Rattle.qs_book_journal.specs.declared.script_line.Command.{Command}
use Rattle.qs_book_journal.specs.declared.script_line.ScriptLine.{ScriptLine}
use Rattle.qs_tm.specs.declared.manager.BeginFault.{BeginFault}
use Rattle.qs_node_kept.specs.Loans.{first_untaken, give_back, last_taken, take_first}
use Rattle.qs_node_kept.specs.declared.kept.Lent.{Lent}
use Rattle.qs_node_servers.specs.Servers.{client_server}
use Rattle.qs_node_step.specs.Answering.{kept_outcome}
use Rattle.qs_node_step.specs.Borrowing.{borrower_command, is_void, lent_command, loan_command, take, with_loan}
use Rattle.qs_node_step.specs.Bringing.{enter}
use Rattle.qs_node_step.specs.Commands.{ask, begin_command, begin_or_refuse, decided_answer, enter_ask, open_command, owner_command, request_as, request_command}
use Rattle.qs_node_step.specs.Serving.{met, put_label}
use Rattle.qs_node_step.specs.State.{with_kept}
use Rattle.qs_node_step.specs.Step.{is_owner, labelled, obey}
use Rattle.qs_world_walk.specs.Deed.{closed, fresh_command}
use Rattle.qs_world_walk.specs.May.{HasLoan, IsMet, MayUse, command_of}
use Rattle.qs_world_walk.specs.Stage.{in_turn}
use Rattle.qs_base.specs.declared.identifiers.Outcome.TheVariants as outcomes
use Rattle.qs_ops.specs.declared.answer.Answer.TheVariants as answers
use Rattle.qs_ops.specs.declared.answer.Cause.TheVariants as causes
use Rattle.qs_book_journal.specs.declared.entry.Act.TheVariants as acts
use Rattle.qs_book_journal.specs.declared.script_line.Command.TheVariants as commands
use Rattle.qs_tm.specs.Manager as tm
use Rattle.qs_tm.specs.declared.manager.BeginFault.TheVariants as faults
use Rattle.qs_world_walk.proofs.Rules as rules
use Rattle.qs_world_walk.proofs.Shapes as shapes
use Rattle.qs_world_walk.specs.Deed as d
use Rattle.qs_world_walk.specs.May as may

module _ (event : Event) (I : Stage → Work → Type 0) (r : Whole event I) where
  abbrev P : Work → Type 0
  P work = I after work

  abbrev Keeps : Work → Work → Type 0
  Keeps work new = P work → P new

  -- a command in hand
  module _ (client : ClientNo) (command : OpenCommand) (work : Work) (there : InHand client command work) (own : Bool) where
    abbrev W : Work → Type 0
    W w = I (in_turn own (Waits client)) w

    abbrev GoesOn : Work → Type 0
    GoesOn new = W work → W new

    request_keeps : (tid : Tid) (member : Member) (op : Op) → command.line.command ≡ commands.Request member op → MayUse client command tid work → GoesOn (request_command client tid member op work)
    request_keeps tid member op is may_use = shapes.elim_keeps W (next_number tid member.node work) work (λ number. request_as client tid member op number work) work (λ none h. h)
        (λ number next. r.issues (d.Client client command) tid (record { issuer = client_server client; member = member; number = number; count = 0 }) op own work next (there, (is, (refl, may_use))))

    pub borrower_keeps : (tid : Tid) → IsMet client command false (Some tid) work → GoesOn (borrower_command client tid command.line.command work)
    borrower_keeps tid met = by command.line.command refl
      where
        taken : (loan : Lent) → first_untaken client tid work.node.kept.now.loans ≡ Some loan → command.line.command ≡ commands.Take → GoesOn (take client tid loan work)
        taken loan untaken is h = rules.closed_is W client command (with_kept (λ kept. record kept { loans = take_first client tid kept.loans }) work) there
            (λ c. closed client c (if is_void tid loan work.node then answers.Ended else answers.Done) (with_kept (λ kept. record kept { loans = take_first client tid kept.loans }) work))
            (with_kept (λ kept. record kept { loans = take_first client tid kept.loans }) work) (r.does (d.Takes client command tid loan) own work tt (there, (is, (met, untaken))) h)

        given : Work
        given = with_doings tid (λ doings. record doings { yielded = true }) (enter (acts.Yield tid client) (with_kept (λ kept. record kept { loans = give_back client tid kept.loans }) work))

        lent : (c : Command) → command.line.command ≡ c → (loan : Lent) → HasLoan client tid loan work → GoesOn (lent_command client tid c work)
        lent commands.Begin is loan has = λ h. h
        lent commands.Commit is loan has = λ h. h
        lent commands.Abort is loan has = λ h. h
        lent commands.Take is loan has = λ h. h
        lent commands.Yield is loan has = λ h. rules.closed_is W client command given there (λ c. closed client c answers.Done given) given (r.does (d.Yields client command tid loan) own work tt (there, (is, (met, has))) h)
        lent (commands.Request member op) is loan has = request_keeps tid member op is (inr (met, (loan, has)))

        loans : (c : Command) → command.line.command ≡ c → GoesOn (loan_command client tid c work)
        loans c is = shapes.elim_keeps W (last_taken client tid work.node.kept.now.loans) work (λ loan. with_loan client tid c loan work) work (λ none h. h)
            (λ loan last. shapes.if_keeps W loan.yielded (answer client answers.NotYours work) (if is_void tid loan work.node then answer client answers.Ended work else lent_command client tid c work) work
            (λ yielded. rules.answer_keeps event I r own client command (d.NotIts loan) work there (tid, (met, (last, yielded))))
            (λ kept. shapes.if_keeps W (is_void tid loan work.node) (answer client answers.Ended work) (lent_command client tid c work) work
            (λ void. rules.answer_keeps event I r own client command (d.Void loan) work there (tid, (met, (last, (kept, void)))))
            (λ good. lent c is loan (record { last = last; kept = kept; good = good }))))

        by : (c : Command) → command.line.command ≡ c → GoesOn (borrower_command client tid c work)
        by commands.Take is = shapes.elim_keeps W (first_untaken client tid work.node.kept.now.loans) work (λ loan. take client tid loan work) work (λ none h. h) (λ loan untaken. taken loan untaken is)
        by commands.Begin is = loans commands.Begin is
        by commands.Commit is = loans commands.Commit is
        by commands.Abort is = loans commands.Abort is
        by commands.Yield is = loans commands.Yield is
        by (commands.Request member op) is = loans (commands.Request member op) is

  -- a line that came
  module _ (line : ScriptLine) (work : Work) (there : InHand line.client (fresh_command line) work) (came : event ≡ command_of line) where
    owner_keeps : (o : Option Tid) → IsMet line.client (fresh_command line) true o work → Keeps work (owner_command line.client o line.command work)
    owner_keeps None met = rules.answer_keeps event I r false line.client (fresh_command line) d.Unbegun work there met
    owner_keeps (Some tid) met = shapes.elim_keeps P (kept_outcome tid work.node) (open_command line.client tid line.command work) (λ decided. answer line.client (decided_answer decided line.command) work) work
        (λ none. opens line.command refl none) (λ decided is. rules.answer_keeps event I r false line.client (fresh_command line) (d.Over decided) work there (tid, (met, is)))
      where
        opens : (c : Command) → line.command ≡ c → kept_outcome tid work.node ≡ None → Keeps work (open_command line.client tid c work)
        opens commands.Begin is none = λ h. h
        opens commands.Commit is none = shapes.open_keeps P tid (ask tid) work (λ part running. shapes.if_keeps P part.asked work (become_asked tid part (enter_ask tid work)) work (λ asked h. h)
            (λ asked. r.asks line tid part work (record { came = came; there = there; commit = is; met = met; undecided = none; running = running; first = asked })))
        opens commands.Abort is none = shapes.open_keeps P tid (λ part. decide tid outcomes.Abort (Some causes.Asked)) work
            (λ part running. r.decides tid outcomes.Abort (Some causes.Asked) false work (may.Commanded line part came there is met none running refl))
        opens commands.Take is none = λ h. h
        opens commands.Yield is none = λ h. h
        opens (commands.Request member op) is none = request_keeps line.client (fresh_command line) work there false tid member op is (inl (met, none))

    begin_keeps : line.command ≡ commands.Begin → Keeps work (begin_command line work)
    begin_keeps is h = by (tm.begin_fault work.room work.node.manager) refl
      where
        begun : Work
        begun = enter (acts.Begin (tm.next_tid work.node.manager) line.label line.client)
            (put_label (record { label = line.label; tid = Some (tm.next_tid work.node.manager); owner = Some line.client }) (with_manager (tm.begin line.client) work))

        refused : Work
        refused = put_label (record { label = line.label; tid = None; owner = Some line.client }) work

        by : (fault : Option BeginFault) → tm.begin_fault work.room work.node.manager ≡ fault → P (begin_or_refuse line fault work)
        by None none = rules.closed_is P line.client (fresh_command line) begun there (λ c. closed line.client c answers.Done begun) begun (r.does (d.Begins line) tt work tt (there, (came, (is, none))) h)
        by (Some (faults.LogFull need room)) full = rules.closed_is P line.client (fresh_command line) refused there (λ c. closed line.client c (answers.LogFull need room) refused) refused
            (r.does (d.Refuses line need room) tt work tt (there, (came, (is, full))) h)
        by (Some (faults.Last value)) last = h
        by (Some faults.NoMemory) last = h

    pub obey_keeps : Keeps work (obey line line.command work)
    obey_keeps = by line.command refl
      where
        met_by : Command → Work
        met_by c = elim (label_at line.label work.node) [ None ↦ work | Some begun ↦ labelled line.client begun c work ]

        labels : Keeps work (met_by line.command)
        labels = shapes.elim_keeps P (label_at line.label work.node) work (λ begun. labelled line.client begun line.command work) work (λ none h. h)
            (λ begun met. shapes.if_keeps P (is_owner line.client begun.owner) (owner_command line.client begun.tid line.command work) (elim begun.tid [ None ↦ work | Some tid ↦ borrower_command line.client tid line.command work ]) work
            (λ own. owner_keeps begun.tid (record { begun = begun; met = met; own_is = own; of_is = refl }))
            (λ own. shapes.elim_keeps P begun.tid work (λ tid. borrower_command line.client tid line.command work) work (λ none h. h)
            (λ tid of. borrower_keeps line.client (fresh_command line) work there false tid (record { begun = begun; met = met; own_is = own; of_is = of }))))

        by : (c : Command) → line.command ≡ c → Keeps work (obey line c work)
        by commands.Begin is = begin_keeps is
        by commands.Commit is = subst (λ (c : Command). Keeps work (met_by c)) is labels
        by commands.Abort is = subst (λ (c : Command). Keeps work (met_by c)) is labels
        by commands.Take is = subst (λ (c : Command). Keeps work (met_by c)) is labels
        by commands.Yield is = subst (λ (c : Command). Keeps work (met_by c)) is labels
        by (commands.Request member op) is = subst (λ (c : Command). Keeps work (met_by c)) is labels
