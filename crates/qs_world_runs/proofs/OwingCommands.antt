-- What a node waits for stands on through what clients command, as it comes and while it waits: a request that is issued has its command in hand, and nothing waits for a command that is answered.
use Rattle.qs_world_runs.proofs.Words.{◌≡◌, ℕ, ◌+◌, ◌-◌, true, false, List, Option, Some, None, refl, sym, ap, subst, ◌∙◌, arith, nat_lt, if◌then◌else◌, nat_tests, is_at, find, lookup, same_tid-self, same_tid-true, same_tid, ClientNo, Member, Tid, Entry, Command, ScriptLine, is_outcome_of, first_untaken, give_back, last_taken, take_first, KeptLabel, Decided, Answer, Op, client_of, client_server, kept_outcome, become_asked, borrower_command, is_aborted, is_void, lent_command, loan_command, take}
use Rattle.qs_world_runs.proofs.Words.{take_command, with_loan, answer, enter, ask, begin_command, begin_or_refuse, decided_answer, enter_ask, open_command, owner_command, request_as, request_command, is_issued_as, label_at, put_label, Work, client_cmp, with_doings, with_kept, with_manager, borrower_waits, is_owner, labelled, obey, owner_waits, wait_command, wait_on, waits_at, Issued, OpenCommand, begun_participant, BeginFault, Manager, Outstanding, Participant, clash, left_true, of_some}
use Rattle.qs_world_runs.proofs.Words.{same_self, Amid, Around, IsCommanded, NotAwaited, around, command_at, fresh_command}
use Rattle.qs_base.proofs.Same.{same_member-self}
use Rattle.qs_base.specs.declared.identifiers.Outcome.TheVariants as outcomes
use Rattle.qs_book_journal.specs.declared.entry.Act.TheVariants as acts
use Rattle.qs_book_journal.specs.declared.script_line.Command.TheVariants as commands
use Rattle.qs_node_kept.specs.Keeping.{has_label}
use Rattle.qs_book_laws.proofs.Maps.{lookup_changed}
use Rattle.qs_ops.specs.declared.answer.Answer.TheVariants as answers
use Rattle.qs_ops.specs.declared.answer.Cause.TheVariants as causes
use Rattle.qs_node_step.specs.Commands.{with_issued}
use Rattle.qs_node_step.specs.Deciding.{decide}
use Rattle.qs_node_step.specs.Requests.{next_number}
use Rattle.qs_tm.specs.Manager as tm
use Rattle.qs_tm.specs.Outcomes.{is_abort}
use Rattle.qs_tm.specs.declared.manager.BeginFault.TheVariants as faults
use Rattle.qs_world_runs.proofs.OwingEnters.{answered_amid, entered_amid, issued_amid, labelled_amid, unissued}
use Rattle.qs_world_runs.proofs.OwingParts.{every_each, so_fresh, waits_put}
use Rattle.qs_world_runs.proofs.OwingRules as rules
use Rattle.qs_world_runs.proofs.OwingTold as told

-- the member of a client is its own
back : (client : ClientNo) → client_of (client_server client) ≡ client
back client = ap (λ (k : ℕ). record { 0 = k }) (of client.0)
  where
    of : (k : ℕ) → (k + 32) - 32 ≡ k
    of k = grind (arith)

client_is : (k : ℕ) → nat_lt 31 (k + 32) ≡ true
client_is k = grind (arith, nat_tests)

-- two commands that are found of a client are one
module _ (a : Around) (client : ClientNo) (command : OpenCommand) (there : command_at client a ≡ Some command) where
  its_command : (tid : Tid) (request : Outstanding) (c : IsCommanded a tid request) → client_of request.issuer ≡ client → c.command ≡ command
  its_command tid request c same = of_some (sym c.there ∙ (ap (λ (x : ClientNo). command_at x a) same ∙ there))

  -- what is aborted waits for nothing
  pub aborted_unawaited : (m : Manager) (issued : Issued) → command.issued ≡ Some issued → tm.told_of issued.tid false (λ part. is_abort part.outcome) m ≡ true → NotAwaited a m client
  aborted_unawaited m issued some aborted tid part known undecided = every_each (λ (request : Outstanding). IsCommanded a tid request → client_of request.issuer ≡ client → ⊥) not_this part.waiting
    where
      open_still : tm.told_of tid false (λ p. is_abort p.outcome) m ≡ false
      open_still = ap (λ (o : Option Participant). elim o [ None ↦ false | Some p ↦ is_abort p.outcome ]) known ∙ ap is_abort undecided

      not_this : (request : Outstanding) → IsCommanded a tid request → client_of request.issuer ≡ client → ⊥
      not_this request c same = clash (sym open_still ∙ subst (λ (t : Tid). tm.told_of t false (λ p. is_abort p.outcome) m ≡ true) (same_tid-true issued.tid tid its) aborted)
        where
          one : c.issued ≡ issued
          one = of_some (sym c.as_issued ∙ (ap (λ (o : OpenCommand). o.issued) (its_command tid request c same) ∙ some))

          its : same_tid issued.tid tid ≡ true
          its = left_true (same_tid issued.tid tid) _ (subst (λ (i : Issued). is_issued_as tid request.member request.number i ≡ true) one c.for_it)

  -- nor does what its owner is told the end of
  pub ended_unawaited : (m : Manager) (begun : KeptLabel) (tid : Tid) (decided : Decided) → find (has_label command.line.label) a.labels ≡ Some begun → begun.tid ≡ Some tid → is_owner client begun.owner ≡ true → find (is_outcome_of tid) a.outcomes ≡ Some decided → NotAwaited a m client
  ended_unawaited m begun tid decided found of own ended t part known undecided = every_each (λ (request : Outstanding). IsCommanded a t request → client_of request.issuer ≡ client → ⊥) not_this part.waiting
    where
      no : None ≡ Some decided → ⊥
      no e = cc e

      not_this : (request : Outstanding) → IsCommanded a t request → client_of request.issuer ≡ client → ⊥
      not_this request c same = no (sym (c.unended (subst (λ (x : ClientNo). is_owner x c.begun.owner ≡ true) (sym same) (subst (λ (b : KeptLabel). is_owner client b.owner ≡ true) (sym one) own)))
          ∙ (ap (λ (x : Tid). find (is_outcome_of x) a.outcomes) (same_tid-true t tid its) ∙ ended))
        where
          one : c.begun ≡ begun
          one = of_some (sym c.found ∙ (ap (λ (o : OpenCommand). find (has_label o.line.label) a.labels) (its_command t request c same) ∙ found))

          its : same_tid t tid ≡ true
          its = sym (ap (λ (o : Option Tid). elim o [ None ↦ false | Some other ↦ same_tid t other ]) (ap (λ (b : KeptLabel). b.tid) one ∙ of)) ∙ c.of

module _ (before : List Entry) (stamp : ℕ) where
  abbrev Keeps : Work → Work → Type 0
  Keeps work new = rules.Keeps before stamp work new

  -- a command that was not issued is answered
  answer_keeps : (client : ClientNo) (said : Answer) (command : OpenCommand) (work : Work) → lookup (is_at (client_cmp client)) work.node.commands ≡ Some command → command.issued ≡ None → Keeps work (answer client said work)
  answer_keeps client said command work there none = answered_amid before stamp client said work (unissued (around before stamp work) work.node.manager client command there none)

  -- a transaction begins as its client is answered
  pub begin_keeps : (line : ScriptLine) (work : Work) → lookup (is_at (client_cmp line.client)) work.node.commands ≡ Some (fresh_command line) → Keeps work (begin_command line work)
  begin_keeps line work waits h = by (tm.begin_fault work.room work.node.manager)
    where
      next : Tid
      next = tm.next_tid work.node.manager

      part : Participant
      part = begun_participant line.client work.node.manager.ticks

      label : KeptLabel
      label = record { label = line.label; tid = Some next; owner = Some line.client }

      begins : Amid before stamp (with_manager (tm.begin line.client) work)
      begins = waits_put (around before stamp work) next part (record work.node.manager { begun = work.node.manager.begun + 1 }) (so_fresh (around before stamp work) next part true refl refl) (record { rising = h.rising; each = h.each })

      by : (fault : Option BeginFault) → Amid before stamp (begin_or_refuse line fault work)
      by None = answer_keeps line.client answers.Done (fresh_command line) (enter (acts.Begin next line.label line.client) (put_label label (with_manager (tm.begin line.client) work))) waits refl
          (entered_amid before stamp (acts.Begin next line.label line.client) (put_label label (with_manager (tm.begin line.client) work)) (record { counts = λ t peer number. refl; answers = λ server. refl })
          (labelled_amid before stamp label (with_manager (tm.begin line.client) work) begins))
      by (Some (faults.LogFull need room)) = answer_keeps line.client (answers.LogFull need room) (fresh_command line) (put_label (record { label = line.label; tid = None; owner = Some line.client }) work) waits refl
          (labelled_amid before stamp (record { label = line.label; tid = None; owner = Some line.client }) work h)
      by (Some (faults.Last value)) = h
      by (Some faults.NoMemory) = h

  -- ---- of a client whose command is in hand and was not issued, under that label

  module _ (client : ClientNo) (command : OpenCommand) (begun : KeptLabel) (work : Work) (there : lookup (is_at (client_cmp client)) work.node.commands ≡ Some command) (none : command.issued ≡ None) (found : label_at command.line.label work.node ≡ Some begun) where
    module _ (tid : Tid) (of : begun.tid ≡ Some tid) (unended : is_owner client begun.owner ≡ true → kept_outcome tid work.node ≡ None) where
      request_keeps : (member : Member) (op : Op) → Keeps work (request_command client tid member op work)
      request_keeps member op = rules.elim_keeps before stamp (next_number tid member.node work) work (λ number. request_as client tid member op number work) work (λ h. h) as_number
        where
          as_number : (number : ℕ) → next_number tid member.node work ≡ Some number → Keeps work (request_as client tid member op number work)
          as_number number next h = rules.issue_as_keeps before stamp tid request op marked next may (issued_amid before stamp client issued work (unissued (around before stamp work) work.node.manager client command there none) h)
            where
              issued : Issued
              issued = record { tid = tid; member = member; number = number }

              request : Outstanding
              request = record { issuer = client_server client; member = member; number = number; count = 0 }

              marked : Work
              marked = with_issued client issued work

              may : rules.MayIssue before stamp tid request marked
              may other = (
                record {
                  command = record command { issued = Some issued };
                  there = ap (λ (x : ClientNo). command_at x (around before stamp marked)) (back client) ∙ lookup_changed (is_at (client_cmp client)) (λ (o : OpenCommand). record o { issued = Some issued }) work.node.commands command there;
                  issued = issued;
                  as_issued = refl;
                  for_it = rw (same_tid-self tid, same_member-self member, same_self number) refl;
                  begun = begun;
                  found = found;
                  of = ap (λ (o : Option Tid). elim o [ None ↦ false | Some t ↦ same_tid tid t ]) of ∙ same_tid-self tid;
                  unended = λ own. unended (subst (λ (x : ClientNo). is_owner x begun.owner ≡ true) (back client) own);
                },
                client_is client.0,
              )

      pub borrower_keeps : (c : Command) → Keeps work (borrower_command client tid c work)
      borrower_keeps c = by c
        where
          takes : Keeps work (take_command client tid work)
          takes = rules.elim_keeps before stamp (first_untaken client tid work.node.kept.now.loans) work (λ loan. take client tid loan work) work (λ h. h)
              (λ loan is h. answer_keeps client (if is_void tid loan work.node then answers.Ended else answers.Done) command (with_kept (λ kept. record kept { loans = take_first client tid kept.loans }) work) there none h)

          lent : (d : Command) → Keeps work (lent_command client tid d work)
          lent commands.Begin = λ h. h
          lent commands.Commit = λ h. h
          lent commands.Abort = λ h. h
          lent commands.Take = λ h. h
          lent commands.Yield = λ h. answer_keeps client answers.Done command (with_doings tid (λ doings. record doings { yielded = true }) (enter (acts.Yield tid client) (with_kept (λ kept. record kept { loans = give_back client tid kept.loans }) work))) there none
              (entered_amid before stamp (acts.Yield tid client) (with_kept (λ kept. record kept { loans = give_back client tid kept.loans }) work) (record { counts = λ t peer number. refl; answers = λ server. refl }) h)
          lent (commands.Request member op) = request_keeps member op

          loans : (d : Command) → Keeps work (loan_command client tid d work)
          loans d = rules.elim_keeps before stamp (last_taken client tid work.node.kept.now.loans) work (λ loan. with_loan client tid d loan work) work (λ h. h)
              (λ loan is. rules.if_keeps before stamp loan.yielded (answer client answers.NotYours work) (if is_void tid loan work.node then answer client answers.Ended work else lent_command client tid d work) work (λ yielded. answer_keeps client answers.NotYours command work there none)
              (λ yielded. rules.if_keeps before stamp (is_void tid loan work.node) (answer client answers.Ended work) (lent_command client tid d work) work (λ void. answer_keeps client answers.Ended command work there none) (λ void. lent d)))

          by : (d : Command) → Keeps work (borrower_command client tid d work)
          by commands.Take = takes
          by commands.Begin = loans commands.Begin
          by commands.Commit = loans commands.Commit
          by commands.Abort = loans commands.Abort
          by commands.Yield = loans commands.Yield
          by (commands.Request member op) = loans (commands.Request member op)

      opens : (c : Command) → Keeps work (open_command client tid c work)
      opens commands.Begin = λ h. h
      opens commands.Commit = rules.undecided_keeps before stamp tid (ask tid) work (λ part. rules.if_keeps before stamp part.asked work (become_asked tid part (enter_ask tid work)) work (λ is h. h)
          (λ is h. told.become_asked_keeps before stamp tid part (enter_ask tid work) (entered_amid before stamp (acts.Ask tid) work (record { counts = λ t peer number. refl; answers = λ server. refl }) h)))
      opens commands.Abort = rules.undecided_keeps before stamp tid (λ part. decide tid outcomes.Abort (Some causes.Asked)) work (λ part. told.decided_keeps before stamp tid outcomes.Abort (Some causes.Asked) work)
      opens commands.Take = λ h. h
      opens commands.Yield = λ h. h
      opens (commands.Request member op) = request_keeps member op

    owner_keeps : (c : Command) → Keeps work (owner_command client begun.tid c work)
    owner_keeps c = by begun.tid refl
      where
        at : (tid : Tid) → begun.tid ≡ Some tid → (o : Option Decided) → kept_outcome tid work.node ≡ o → Keeps work (elim o [ None ↦ open_command client tid c work | Some decided ↦ answer client (decided_answer decided c) work ])
        at tid of None unkept = opens tid of (λ own. unkept) c
        at tid of (Some decided) kept = answer_keeps client (decided_answer decided c) command work there none

        by : (o : Option Tid) → begun.tid ≡ o → Keeps work (owner_command client o c work)
        by None of = answer_keeps client answers.NotBegun command work there none
        by (Some tid) of = at tid of (kept_outcome tid work.node) refl

    -- by a borrower, who is not its owner
    lent_keeps : is_owner client begun.owner ≡ false → (c : Command) (o : Option Tid) → begun.tid ≡ o → Keeps work (elim o [ None ↦ work | Some tid ↦ borrower_command client tid c work ])
    lent_keeps far c None of h = h
    lent_keeps far c (Some tid) of h = borrower_keeps tid of (λ own. absurd (clash (sym far ∙ own))) c h

    labelled_keeps : (c : Command) → Keeps work (labelled client begun c work)
    labelled_keeps c = rules.if_keeps before stamp (is_owner client begun.owner) (owner_command client begun.tid c work) (elim begun.tid [ None ↦ work | Some tid ↦ borrower_command client tid c work ]) work (λ own. owner_keeps c) (λ far. lent_keeps far c begun.tid refl)

  -- a command that comes
  pub obey_keeps : (line : ScriptLine) (work : Work) → lookup (is_at (client_cmp line.client)) work.node.commands ≡ Some (fresh_command line) → Keeps work (obey line line.command work)
  obey_keeps line work waits = by line.command
    where
      labels : (c : Command) → Keeps work (elim (label_at line.label work.node) [ None ↦ work | Some begun ↦ labelled line.client begun c work ])
      labels c = rules.elim_keeps before stamp (label_at line.label work.node) work (λ begun. labelled line.client begun c work) work (λ h. h) (λ begun found. labelled_keeps line.client (fresh_command line) begun work waits refl found c)

      by : (c : Command) → Keeps work (obey line c work)
      by commands.Begin = begin_keeps line work waits
      by commands.Commit = labels commands.Commit
      by commands.Abort = labels commands.Abort
      by commands.Take = labels commands.Take
      by commands.Yield = labels commands.Yield
      by (commands.Request member op) = labels (commands.Request member op)

  -- a command that stayed open
  pub waits_keep : (work : Work) (client : ClientNo) → Keeps work (wait_on work client)
  waits_keep work client = rules.elim_keeps before stamp (lookup (is_at (client_cmp client)) work.node.commands) work (λ command. wait_command client command work) work (λ h. h)
      (λ command there. rules.elim_keeps before stamp (label_at command.line.label work.node) work (λ begun. waits_at client command begun work) work (λ h. h)
      (λ begun found. rules.if_keeps before stamp (is_owner client begun.owner) (owner_waits client begun.tid command.line.command work) (borrower_waits client command.issued begun.tid command.line.command work) work
      (λ own. owners command there begun found own begun.tid refl) (λ far. borrowers command there begun found far command.issued refl)))
    where
      owners : (command : OpenCommand) → lookup (is_at (client_cmp client)) work.node.commands ≡ Some command → (begun : KeptLabel) → label_at command.line.label work.node ≡ Some begun → is_owner client begun.owner ≡ true → (o : Option Tid) → begun.tid ≡ o → Keeps work (owner_waits client o command.line.command work)
      owners command there begun found own None of = λ h. h
      owners command there begun found own (Some tid) of = rules.elim_keeps before stamp (kept_outcome tid work.node) work (λ decided. answer client (decided_answer decided command.line.command) work) work (λ h. h)
          (λ decided kept. answered_amid before stamp client (decided_answer decided command.line.command) work (ended_unawaited (around before stamp work) client command there work.node.manager begun tid decided found of own kept))

      borrowers : (command : OpenCommand) → lookup (is_at (client_cmp client)) work.node.commands ≡ Some command → (begun : KeptLabel) → label_at command.line.label work.node ≡ Some begun → is_owner client begun.owner ≡ false → (i : Option Issued) → command.issued ≡ i → Keeps work (borrower_waits client i begun.tid command.line.command work)
      borrowers command there begun found far (Some issued) some = rules.if_keeps before stamp (is_aborted issued.tid work.node) (answer client answers.Ended work) work work
          (λ aborted. answered_amid before stamp client answers.Ended work (aborted_unawaited (around before stamp work) client command there work.node.manager issued some aborted)) (λ open_still h. h)
      borrowers command there begun found far None none = of begun.tid refl
        where
          of : (o : Option Tid) → begun.tid ≡ o → Keeps work (borrower_waits client None o command.line.command work)
          of None is = λ h. h
          of (Some tid) is = borrower_keeps client command begun work there none found tid is (λ own. absurd (clash (sym far ∙ own))) command.line.command
