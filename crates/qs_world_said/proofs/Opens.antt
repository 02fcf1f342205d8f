-- A command that is looked at again and is not answered is open still, and of other clients all is left.
use Rattle.std.proofs.Common.{◌≡◌, ◌∙◌, ℕ, ◌==◌, Bool, true, false, Option, Some, None, refl, sym, ap, subst}
use Rattle.std.specs.Prelude.{if◌then◌else◌}
use Rattle.std.specs.BTreeMap.{is_at}
use Rattle.std.specs.List.{find}
use Rattle.std.specs.Map.{lookup, remove_entry}
use Rattle.qs_base.specs.declared.identifiers.ClientNo.{ClientNo}
use Rattle.qs_base.specs.declared.identifiers.Member.{Member}
use Rattle.qs_base.specs.declared.identifiers.NodeNo.{NodeNo}
use Rattle.qs_base.specs.declared.identifiers.Tid.{Tid}
use Rattle.qs_base_lemmas.proofs.Tests.{some_same}
use Rattle.qs_engage.specs.Nodes.{same_node}
use Rattle.qs_ops.specs.declared.answer.Answer.{Answer}
use Rattle.qs_ops.specs.declared.answer.Answer.TheVariants as answers
use Rattle.qs_ops.specs.declared.operation.Op.{Op}
use Rattle.qs_book_journal.specs.declared.entry.Act.TheVariants as acts
use Rattle.qs_book_journal.specs.declared.script_line.Command.{Command}
use Rattle.qs_book_journal.specs.declared.script_line.Command.TheVariants as commands
use Rattle.qs_book_laws.proofs.Maps.{changed_apart, lookup_changed}
use Rattle.qs_book_laws.proofs.Rising.{IsRising, removed}
use Rattle.qs_node_kept.specs.Keeping.{has_label}
use Rattle.qs_node_kept.specs.Loans.{first_untaken, give_back, last_taken, take_first}
use Rattle.qs_node_kept.specs.declared.kept.KeptLabel.{KeptLabel}
use Rattle.qs_node_kept.specs.declared.kept.Lent.{Lent}
use Rattle.qs_node_servers.specs.Servers.{client_server}
use Rattle.qs_node_step.specs.Answering.{kept_outcome}
use Rattle.qs_node_step.specs.Borrowing.{borrower_command, is_aborted, is_void, lent_command, loan_command, take, with_loan}
use Rattle.qs_node_step.specs.Bringing.{answer, enter, send}
use Rattle.qs_node_step.specs.Commands.{decided_answer, request_as, request_command}
use Rattle.qs_node_step.specs.Requests.{ask_on, enter_issue, is_asked, issue_away, issue_here, label_of, next_number, with_local}
use Rattle.qs_node_step.specs.Serving.{label_at}
use Rattle.qs_node_step.specs.State.{Work, client_cmp, here, with_doings, with_kept, with_manager}
use Rattle.qs_node_step.specs.Step.{borrower_waits, is_owner, owner_waits, wait_command, wait_on, waits_at}
use Rattle.qs_node_step.specs.declared.state.Issued.{Issued}
use Rattle.qs_node_step.specs.declared.state.OpenCommand.{OpenCommand}
use Rattle.qs_packet.specs.declared.message.Message.{Message}
use Rattle.qs_packet.specs.declared.message.Message.TheVariants as messages
use Rattle.qs_tm.specs.Manager as tm
use Rattle.qs_tm.specs.Outcomes as outcome_rules
use Rattle.qs_tm.specs.declared.participant.Outstanding.{Outstanding}
use Rattle.qs_tm.specs.declared.participant.Participant.{Participant}
use Rattle.qs_world_course.specs.Clients.{Commands, in_hand_of}
use Rattle.qs_world_course.specs.Worlds.{IsOpenStill, WaitsOnLoan}
use Rattle.qs_world_lawful.proofs.Answers.{client_exact}
use Rattle.qs_world_lawful.proofs.OtherShares.{removed_apart}
use Rattle.qs_world_walk.specs.Deed as d
use Rattle.qs_world_walk.specs.Deed.{closed, did, issued_by}
use Rattle.qs_world_walk.specs.May.{HasLoan, InHand, IsMet}
use Rattle.qs_world_walk.proofs.First.{sent_is}
use Rattle.qs_world_walk.proofs.Rules.{closed_is, waiting_is}
use Rattle.qs_world_said.specs.Knows.{KnowsIssued}
use Rattle.qs_world_said.proofs.Lookups.{far_at, last_gives, last_takes, of_other_client}
use Rattle.qs_world_said.proofs.StepCommands.{elim_gives, if_gives}
use Rattle.qs_world_said.proofs.OpenStill.{IsRested, LeavesKept, good_loan, open_lent, open_owned, open_unmet, outcome_stays}

-- ---- one client's turn

module _ (client : ClientNo) (work : Work) (rising : IsRising client_cmp work.node.commands) where
  -- what is in hand of it is open still, and of others all is left
  pub record IsTurned (new : Work) : Type 0 where
    pub own : IsRested client new.node
    pub hands : (k : ClientNo) → (client.0 == k.0) ≡ false → in_hand_of k new.node.commands ≡ in_hand_of k work.node.commands
    pub kept : (k : ClientNo) → (client.0 == k.0) ≡ false → LeavesKept k work.node new.node

  left_kept : (k : ClientNo) → LeavesKept k work.node work.node
  left_kept k = record { labels = refl; outcomes = refl; last = λ tid. refl; aborted = λ tid. refl; inc = refl }

  nothing : in_hand_of client work.node.commands ≡ None → IsTurned work
  nothing none = record { own = λ c is. absurd (cc (sym none ∙ is)); hands = λ k far. refl; kept = λ k far. left_kept k }

  closes : (said : Answer) (command : OpenCommand) (mid : Work) → mid.node.commands ≡ work.node.commands → ((k : ClientNo) → (client.0 == k.0) ≡ false → LeavesKept k work.node mid.node) → IsTurned (closed client command said mid)
  closes said command mid same left = record {
    own = λ c is. absurd (cc (sym (ap (λ (cs : Commands). in_hand_of client (remove_entry (is_at (client_cmp client)) cs)) same ∙ removed client_cmp client_exact client work.node.commands rising) ∙ is));
    hands = λ k far. ap (λ (cs : Commands). in_hand_of k (remove_entry (is_at (client_cmp client)) cs)) same ∙ removed_apart (is_at (client_cmp client)) (is_at (client_cmp k)) (far_at client k far) work.node.commands;
    kept = λ k far. let l = left k far in record { labels = l.labels; outcomes = l.outcomes; last = l.last; aborted = l.aborted; inc = l.inc };
  }

  module _ (command : OpenCommand) (there : InHand client command work) where
    stays : IsOpenStill work.node client command → IsTurned work
    stays still = record { own = λ c is. subst (IsOpenStill work.node client) (some_same (sym there ∙ is)) still; hands = λ k far. refl; kept = λ k far. left_kept k }

    told : (said : Answer) → IsTurned (answer client said work)
    told said = closed_is IsTurned client command work there (λ c. closed client c said work) work (closes said command work refl (λ k far. left_kept k))

    -- a borrower's, not issued
    module _ (tid : Tid) (met : IsMet client command false (Some tid) work) (fresh : command.issued ≡ None) where
      rests : IsTurned work
      rests = stays (open_lent work.node client command met.begun met.met met.own_is (λ t issued of has. absurd (cc (sym fresh ∙ has))))

      module _ (loan : Lent) (has : HasLoan client tid loan work) (request : Outstanding) where
        abbrev its : Issued
        its = record { tid = tid; member = request.member; number = request.number }

        abbrev noted : OpenCommand → OpenCommand
        noted c = record c { issued = Some its }

        issues : (new : Work) → new.node.commands ≡ tm.changed_value (is_at (client_cmp client)) noted work.node.commands → ((k : ClientNo) → LeavesKept k work.node new.node) → IsTurned new
        issues new same left = record {
          own = λ c is. subst (IsOpenStill new.node client) (some_same (sym there_noted ∙ is))
              (open_lent new.node client (noted command) met.begun (ap (find (has_label command.line.label)) l.labels ∙ met.met) met.own_is (λ t issued of is. waits t issued (some_same (sym met.of_is ∙ of)) (some_same is)));
          hands = λ k far. ap (in_hand_of k) same ∙ changed_apart (is_at (client_cmp client)) (is_at (client_cmp k)) (far_at client k far) noted work.node.commands;
          kept = λ k far. left k;
        }
          where
            l : LeavesKept client work.node new.node
            l = left client

            there_noted : in_hand_of client new.node.commands ≡ Some (noted command)
            there_noted = ap (in_hand_of client) same ∙ lookup_changed (is_at (client_cmp client)) noted work.node.commands command there

            waits : (t : Tid) (issued : Issued) → tid ≡ t → its ≡ issued → WaitsOnLoan new.node client t issued
            waits t issued of is = let good = good_loan tid loan work.node has.good in
                subst (λ (u : Tid). WaitsOnLoan new.node client u issued) of (record {
                  its = ap (λ (i : Issued). i.tid) (sym is);
                  unaborted = l.aborted tid ∙ good.1;
                  loan = loan;
                  last = l.last tid ∙ has.last;
                  ungiven = has.kept;
                  present = good.0 ∙ sym l.inc;
                })

      requests : (loan : Lent) → HasLoan client tid loan work → (member : Member) (op : Op) → IsTurned (request_command client tid member op work)
      requests loan has member op = elim_gives IsTurned (next_number tid member.node work) work (λ number. request_as client tid member op number work) (λ none. rests)
          (λ number next. if_gives IsTurned (same_node member.node (here (noted_work number))) (issue_here tid (request number) op (noted_work number)) (issue_away tid (request number) op (noted_work number)) (λ own. goes_here number) (λ far. goes_away number))
        where
          request : ℕ → Outstanding
          request number = record { issuer = client_server client; member = member; number = number; count = 0 }

          noted_work : ℕ → Work
          noted_work number = issued_by (d.Client client command) tid (request number) work

          made : ℕ → Work
          made number = with_manager (tm.sent tid member.node) (enter_issue tid (request number) op (noted_work number))

          message : ℕ → Message
          message number = messages.Request tid (label_of tid (noted_work number).node) member number (client_server client) op

          issued_left : (number : ℕ) (t : Tid) → tm.told_of t false (λ (p : Participant). outcome_rules.is_abort p.outcome) (tm.issued tid (request number) work.node.manager) ≡ is_aborted t work.node
          issued_left number t = outcome_stays tid _ (λ p. refl) work.node.manager t

          goes_here : (number : ℕ) → IsTurned (issue_here tid (request number) op (noted_work number))
          goes_here number = waiting_is IsTurned member.server (record { tid = tid; from = here (noted_work number); number = number; op = op; stale = false }) (with_local tid number (enter_issue tid (request number) op (noted_work number)))
              (issues loan has (request number) (did (d.IssuesHere (d.Client client command) tid (request number) op) work) refl (λ k. record { labels = refl; outcomes = refl; last = λ t. refl; aborted = issued_left number; inc = refl }))

          goes_on : (number : ℕ) → IsTurned (did (d.IssuesAway (d.Client client command) tid (request number) op) work)
          goes_on number = issues loan has (request number) (did (d.IssuesAway (d.Client client command) tid (request number) op) work) refl (λ k. record {
            labels = refl;
            outcomes = refl;
            last = λ t. refl;
            aborted = λ t. outcome_stays tid _ (λ p. refl) (tm.issued tid (request number) work.node.manager) t ∙ issued_left number t;
            inc = refl;
          })

          sends : (to : NodeNo) (m : Message) (w : Work) → IsTurned w → IsTurned (send to m w)
          sends to m w t = sent_is IsTurned to m w (record { own = t.own; hands = t.hands; kept = t.kept })

          asks_on : (b : Bool) (w : Work) → IsTurned w → IsTurned (ask_on b tid member.node w)
          asks_on false w g = g
          asks_on true w g = sends member.node (messages.AskVote tid) w g

          goes_away : (number : ℕ) → IsTurned (issue_away tid (request number) op (noted_work number))
          goes_away number = asks_on (is_asked tid (noted_work number)) (send member.node (message number) (made number)) (sent_is IsTurned member.node (message number) (made number) (goes_on number))

      takes : (loan : Lent) → IsTurned (take client tid loan work)
      takes loan = closed_is IsTurned client command took there (λ c. closed client c said took) took (closes said command took refl (λ k far. record {
        labels = refl;
        outcomes = refl;
        last = λ t. last_takes client k tid t (λ x. of_other_client client k tid t x far) work.node.kept.now.loans;
        aborted = λ t. refl;
        inc = refl;
      }))
        where
          took : Work
          took = with_kept (λ kept. record kept { loans = take_first client tid kept.loans }) work

          said : Answer
          said = if is_void tid loan work.node then answers.Ended else answers.Done

      gives : IsTurned (answer client answers.Done (with_doings tid (λ doings. record doings { yielded = true }) (enter (acts.Yield tid client) (with_kept (λ kept. record kept { loans = give_back client tid kept.loans }) work))))
      gives = closed_is IsTurned client command gave there (λ c. closed client c answers.Done gave) gave (closes answers.Done command gave refl (λ k far. record {
        labels = refl;
        outcomes = refl;
        last = λ t. last_gives client k tid t (λ x. of_other_client client k tid t x far) work.node.kept.now.loans;
        aborted = λ t. refl;
        inc = refl;
      }))
        where
          gave : Work
          gave = with_doings tid (λ doings. record doings { yielded = true }) (enter (acts.Yield tid client) (with_kept (λ kept. record kept { loans = give_back client tid kept.loans }) work))

      lent : (c : Command) (loan : Lent) → HasLoan client tid loan work → IsTurned (lent_command client tid c work)
      lent commands.Begin loan has = rests
      lent commands.Commit loan has = rests
      lent commands.Abort loan has = rests
      lent commands.Take loan has = rests
      lent commands.Yield loan has = gives
      lent (commands.Request member op) loan has = requests loan has member op

      loans : (c : Command) → IsTurned (loan_command client tid c work)
      loans c = elim_gives IsTurned (last_taken client tid work.node.kept.now.loans) work (λ loan. with_loan client tid c loan work) (λ none. rests)
          (λ loan last. if_gives IsTurned loan.yielded (answer client answers.NotYours work) (if is_void tid loan work.node then answer client answers.Ended work else lent_command client tid c work) (λ yielded. told answers.NotYours)
          (λ free. if_gives IsTurned (is_void tid loan work.node) (answer client answers.Ended work) (lent_command client tid c work) (λ void. told answers.Ended) (λ good. lent c loan (record { last = last; kept = free; good = good }))))

      borrows : (c : Command) → IsTurned (borrower_command client tid c work)
      borrows commands.Take = elim_gives IsTurned (first_untaken client tid work.node.kept.now.loans) work (λ loan. take client tid loan work) (λ none. rests) (λ loan untaken. takes loan)
      borrows commands.Begin = loans commands.Begin
      borrows commands.Commit = loans commands.Commit
      borrows commands.Abort = loans commands.Abort
      borrows commands.Yield = loans commands.Yield
      borrows (commands.Request member op) = loans (commands.Request member op)

    -- ---- one that stayed open

    owners : (o : Option Tid) → IsMet client command true o work → IsTurned (owner_waits client o command.line.command work)
    owners None met = stays (open_owned work.node client command met.begun met.met met.own_is (λ t of. absurd (cc (sym met.of_is ∙ of))))
    owners (Some tid) met = elim_gives IsTurned (kept_outcome tid work.node) work (λ decided. answer client (decided_answer decided command.line.command) work)
        (λ none. stays (open_owned work.node client command met.begun met.met met.own_is (λ t of. subst (λ (u : Tid). kept_outcome u work.node ≡ None) (some_same (sym met.of_is ∙ of)) none)))
        (λ decided is. told (decided_answer decided command.line.command))

    borrowers : ((issued : Issued) → command.issued ≡ Some issued → KnowsIssued work.node client command issued) → (i : Option Issued) → command.issued ≡ i → (o : Option Tid) → IsMet client command false o work
        → IsTurned (borrower_waits client i o command.line.command work)
    borrowers knows (Some issued) is o met = if_gives IsTurned (is_aborted issued.tid work.node) (answer client answers.Ended work) work (λ over. told answers.Ended)
        (λ on. stays (open_lent work.node client command met.begun met.met met.own_is (λ t other of has. waits on t other of (some_same (sym is ∙ has)))))
      where
        k : KnowsIssued work.node client command issued
        k = knows issued is

        same : met.begun ≡ k.begun
        same = some_same (sym met.met ∙ k.met)

        waits : is_aborted issued.tid work.node ≡ false → (t : Tid) (other : Issued) → met.begun.tid ≡ Some t → issued ≡ other → WaitsOnLoan work.node client t other
        waits on t other of has = let loan = k.lent (ap (λ (b : KeptLabel). is_owner client b.owner) (sym same) ∙ met.own_is) in
            subst (WaitsOnLoan work.node client t) has (subst (λ (u : Tid). WaitsOnLoan work.node client u issued) (some_same (sym k.of ∙ (ap (λ (b : KeptLabel). b.tid) (sym same) ∙ of)))
            (record { its = refl; unaborted = on; loan = loan.loan; last = loan.last; ungiven = loan.ungiven; present = loan.present }))
    borrowers knows None is None met = stays (open_lent work.node client command met.begun met.met met.own_is (λ t other of has. absurd (cc (sym met.of_is ∙ of))))
    borrowers knows None is (Some tid) met = borrows tid met is command.line.command

  pub turned : ((command : OpenCommand) (issued : Issued) → in_hand_of client work.node.commands ≡ Some command → command.issued ≡ Some issued → KnowsIssued work.node client command issued) → IsTurned (wait_on work client)
  turned knows = elim_gives IsTurned (lookup (is_at (client_cmp client)) work.node.commands) work (λ command. wait_command client command work) nothing
      (λ command there. elim_gives IsTurned (label_at command.line.label work.node) work (λ begun. waits_at client command begun work) (λ none. stays command there (open_unmet work.node client command none))
      (λ begun is. if_gives IsTurned (is_owner client begun.owner) (owner_waits client begun.tid command.line.command work) (borrower_waits client command.issued begun.tid command.line.command work)
      (λ own. owners command there begun.tid (record { begun = begun; met = is; own_is = own; of_is = refl }))
      (λ own. borrowers command there (λ issued has. knows command issued there has) command.issued refl begun.tid (record { begun = begun; met = is; own_is = own; of_is = refl }))))
