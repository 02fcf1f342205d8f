-- What clients command leaves what was served and what waits within the numbers that were given: an owner's transaction runs at its home here, and of what is lent numbers were given.
use Rattle.qs_world_runs.proofs.Words.{◌≡◌, ℕ, ◌+◌, ◌==◌, Bool, true, false, Option, Some, None, refl, sym, subst, ◌∙◌, if◌then◌else◌, ClientNo, Member, NodeNo, Tid, last_number, same_node, Command, ScriptLine, first_untaken, give_back, last_taken, take_first, KeptLabel, Decided, Lent, Op, client_server, kept_outcome, become_asked, borrower_command, is_aborted, is_void, lent_command, loan_command, take, take_command, with_loan, answer, enter, ask, begin_command, begin_or_refuse, decided_answer}
use Rattle.qs_world_runs.proofs.Words.{enter_ask, open_command, owner_command, request_command, issue_away, issue_here, next_local, label_at, put_label, Work, here, with_doings, with_kept, with_manager, command_came, is_owner, labelled, obey, with_command, BeginFault, Outstanding, Participant, HasNodeFacts, IsRunning, same_self, AreTallied, IsTallied, tally_of, not_implied}
use Rattle.qs_base.specs.declared.identifiers.Outcome.TheVariants as outcomes
use Rattle.qs_book_journal.specs.declared.entry.Act.TheVariants as acts
use Rattle.qs_book_journal.specs.declared.script_line.Command.TheVariants as commands
use Rattle.qs_ops.specs.declared.answer.Answer.TheVariants as answers
use Rattle.qs_ops.specs.declared.answer.Cause.TheVariants as causes
use Rattle.qs_node_step.specs.Commands.{with_issued}
use Rattle.qs_node_step.specs.Deciding.{decide}
use Rattle.qs_node_step.specs.Requests.{local_count}
use Rattle.qs_node_step.specs.State.{part_of}
use Rattle.qs_tm.specs.Manager as tm
use Rattle.qs_tm.specs.declared.manager.BeginFault.TheVariants as faults
use Rattle.qs_world_runs.proofs.TalliedLoans.{back_tallied, lent_tallied, present_stands, take_tallied}
use Rattle.qs_world_runs.proofs.TalliedParts.{begin_tallied}
use Rattle.qs_world_runs.proofs.TalliedRules as rules

-- what a client here owns, and was not told the end of, runs here
pub record RunsHere (tid : Tid) (work : Work) : Type 0 where
  pub home : (part : Participant) → part_of tid work ≡ Some part → part.engage.home ≡ true
  pub part : Participant
  pub known : part_of tid work ≡ Some part
  pub undecided : part.outcome ≡ None

module _ (W : Tid → Type 0) where
  abbrev Keeps : Work → Work → Type 0
  Keeps work new = rules.Keeps W work new

  request_command_keeps : (client : ClientNo) (tid : Tid) (member : Member) (op : Op) (work : Work) → IsTallied tid (tally_of work.node) → Keeps work (request_command client tid member op work)
  request_command_keeps client tid member op work its = by (same_node member.node (here work))
    where
      request : ℕ → Outstanding
      request number = record { issuer = client_server client; member = member; number = number; count = 0 }

      marked : ℕ → Work
      marked number = with_issued client (record { tid = tid; member = member; number = number }) work

      near : (full : Bool) → (local_count tid work.node == last_number) ≡ full → Keeps work (elim (if full then None else Some (local_count tid work.node + 1)) [ None ↦ work | Some number ↦ issue_here tid (request number) op (marked number) ])
      near true is h = h
      near false is h = rules.here_keeps W tid (client_server client) member 0 op (marked (local_count tid work.node + 1)) is its h

      by : (b : Bool) → Keeps work (elim (if b then next_local tid work.node else tm.sent_as tid member.node work.node.manager)
          [ None ↦ work | Some number ↦ if b then issue_here tid (request number) op (marked number) else issue_away tid (request number) op (marked number) ])
      by true = near (local_count tid work.node == last_number) refl
      by false = rules.elim_keeps W (tm.sent_as tid member.node work.node.manager) work (λ number. issue_away tid (request number) op (marked number)) work (λ h. h) (λ number is h. rules.away_keeps W tid (request number) op (marked number) h)

  begin_keeps : (line : ScriptLine) (work : Work) → Keeps work (begin_command line work)
  begin_keeps line work h = by (tm.begin_fault work.room work.node.manager)
    where
      begun : Work
      begun = enter (acts.Begin (tm.next_tid work.node.manager) line.label line.client)
          (put_label (record { label = line.label; tid = Some (tm.next_tid work.node.manager); owner = Some line.client }) (with_manager (tm.begin line.client) work))

      by : (fault : Option BeginFault) → AreTallied W (tally_of (begin_or_refuse line fault work).node)
      by None = rules.answer_keeps W line.client answers.Done begun (begin_tallied W line.client (tally_of work.node) h)
      by (Some (faults.LogFull need room)) = rules.answer_keeps W line.client (answers.LogFull need room) (put_label (record { label = line.label; tid = None; owner = Some line.client }) work) h
      by (Some (faults.Last value)) = h
      by (Some faults.NoMemory) = h

  owner_keeps : (client : ClientNo) (o : Option Tid) (command : Command) (work : Work) → ((tid : Tid) → o ≡ Some tid → kept_outcome tid work.node ≡ None → RunsHere tid work) → Keeps work (owner_command client o command work)
  owner_keeps client None command work own = rules.answer_keeps W client answers.NotBegun work
  owner_keeps client (Some tid) command work own = by (kept_outcome tid work.node) refl
    where
      opens : RunsHere tid work → (c : Command) → Keeps work (open_command client tid c work)
      opens runs commands.Begin = λ h. h
      opens runs commands.Commit = rules.undecided_keeps W tid (ask tid) work (λ part known open_now. rules.if_keeps W part.asked work (become_asked tid part (enter_ask tid work)) work (λ is h. h)
          (λ is h. rules.become_asked_keeps W tid part (enter_ask tid work) runs.home h))
      opens runs commands.Abort = rules.undecided_keeps W tid (λ part. decide tid outcomes.Abort (Some causes.Asked)) work (λ part known open_now. rules.decided_keeps W tid outcomes.Abort (Some causes.Asked) work)
      opens runs commands.Take = λ h. h
      opens runs commands.Yield = λ h. h
      opens runs (commands.Request member op) = λ h. request_command_keeps client tid member op work (h.runs tid runs.part runs.known (runs.home runs.part runs.known) runs.undecided) h

      by : (o : Option Decided) → kept_outcome tid work.node ≡ o → Keeps work (elim o [ None ↦ open_command client tid command work | Some decided ↦ answer client (decided_answer decided command) work ])
      by None none = opens (own tid refl none) command
      by (Some decided) is = rules.answer_keeps W client (decided_answer decided command) work

  pub borrower_keeps : (client : ClientNo) (tid : Tid) (command : Command) (work : Work) → Keeps work (borrower_command client tid command work)
  borrower_keeps client tid command work = by command
    where
      takes : Keeps work (take_command client tid work)
      takes = rules.elim_keeps W (first_untaken client tid work.node.kept.now.loans) work (λ loan. take client tid loan work) work (λ h. h)
          (λ loan is h. rules.answer_keeps W client (if is_void tid loan work.node then answers.Ended else answers.Done) (with_kept (λ kept. record kept { loans = take_first client tid kept.loans }) work) (take_tallied W client tid (tally_of work.node) h))

      lent : (loan : Lent) → last_taken client tid work.node.kept.now.loans ≡ Some loan → loan.yielded ≡ false → (loan.inc == work.node.setting.inc) ≡ true → (c : Command) → Keeps work (lent_command client tid c work)
      lent loan is given now commands.Begin = λ h. h
      lent loan is given now commands.Commit = λ h. h
      lent loan is given now commands.Abort = λ h. h
      lent loan is given now commands.Take = λ h. h
      lent loan is given now commands.Yield = λ h. rules.answer_keeps W client answers.Done (with_doings tid (λ doings. record doings { yielded = true }) (enter (acts.Yield tid client) (with_kept (λ kept. record kept { loans = give_back client tid kept.loans }) work)))
          (back_tallied W client tid (tally_of work.node) h)
      lent loan is given now (commands.Request member op) = λ h. request_command_keeps client tid member op work (lent_tallied W tid (tally_of work.node) (present_stands client tid work.node.setting.inc loan work.node.kept.now.loans is given now) h) h

      loans : (c : Command) → Keeps work (loan_command client tid c work)
      loans c = rules.elim_keeps W (last_taken client tid work.node.kept.now.loans) work (λ loan. with_loan client tid c loan work) work (λ h. h)
          (λ loan is. rules.if_keeps W loan.yielded (answer client answers.NotYours work) (if is_void tid loan work.node then answer client answers.Ended work else lent_command client tid c work) work (λ yielded. rules.answer_keeps W client answers.NotYours work)
          (λ given. rules.if_keeps W (is_void tid loan work.node) (answer client answers.Ended work) (lent_command client tid c work) work (λ void. rules.answer_keeps W client answers.Ended work)
          (λ void. lent loan is given (not_implied (loan.inc == work.node.setting.inc) (is_aborted tid work.node) void) c)))

      by : (c : Command) → Keeps work (borrower_command client tid c work)
      by commands.Take = takes
      by commands.Begin = loans commands.Begin
      by commands.Commit = loans commands.Commit
      by commands.Abort = loans commands.Abort
      by commands.Yield = loans commands.Yield
      by (commands.Request member op) = loans (commands.Request member op)

  -- what is under an owner's label runs here
  module _ (line : ScriptLine) (work : Work) (facts : HasNodeFacts work.node) where
    abbrev came : Work
    came = with_command line work

    owned : (begun : KeptLabel) (owner : Option ClientNo) → label_at line.label work.node ≡ Some begun → begun.owner ≡ owner → is_owner line.client owner ≡ true → (tid : Tid) → begun.tid ≡ Some tid → kept_outcome tid work.node ≡ None → RunsHere tid came
    owned begun None found of own tid its none = absurd (cc own)
    owned begun (Some client) found of own tid its none = record {
      home = λ part known. (facts.parts tid part known).homed ∙ same;
      part = runs.part;
      known = runs.known;
      undecided = runs.undecided;
    }
      where
        runs : IsRunning work.node.manager tid
        runs = facts.labels.runs line.label begun tid client found its of none

        same : same_node tid.home work.node.setting.node ≡ true
        same = subst (λ (n : NodeNo). same_node n work.node.setting.node ≡ true) (sym (facts.labels.homed line.label begun tid client found its of)) (same_self work.node.setting.node.0)

    pub command_keeps : Keeps work (command_came line work)
    command_keeps = by line.command
      where
        labels : (c : Command) → Keeps work (elim (label_at line.label came.node) [ None ↦ came | Some begun ↦ labelled line.client begun c came ])
        labels c = rules.elim_keeps W (label_at line.label came.node) came (λ begun. labelled line.client begun c came) work (λ h. h)
            (λ begun is. rules.if_keeps W (is_owner line.client begun.owner) (owner_command line.client begun.tid c came) (elim begun.tid [ None ↦ came | Some tid ↦ borrower_command line.client tid c came ]) work
            (λ own h. owner_keeps line.client begun.tid c came (owned begun begun.owner is refl own) h) (λ own. rules.elim_keeps W begun.tid came (λ tid. borrower_command line.client tid c came) work (λ h. h) (λ tid of h. borrower_keeps line.client tid c came h)))

        by : (c : Command) → Keeps work (obey line c came)
        by commands.Begin = λ h. begin_keeps line came h
        by commands.Commit = labels commands.Commit
        by commands.Abort = labels commands.Abort
        by commands.Take = labels commands.Take
        by commands.Yield = labels commands.Yield
        by (commands.Request member op) = labels (commands.Request member op)
