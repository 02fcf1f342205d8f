-- A take and a yield: the loan is taken, or given back, and the command is answered.
use Rattle.std.proofs.Common.{◌≡◌, ◌∙◌, ℕ, ◌==◌, Bool, true, false, List, [], ◌∷◌, Option, Some, None, append_assoc, inl, inr, refl, sym, ap}
use Rattle.std.specs.Prelude.{slice_get, if◌then◌else◌}
use Rattle.std.specs.BTreeMap.{is_at}
use Rattle.qs_base.specs.Order.{tid_cmp}
use Rattle.qs_base.specs.declared.identifiers.ClientNo.{ClientNo}
use Rattle.qs_base.specs.declared.identifiers.Member.{Member}
use Rattle.qs_base.specs.declared.identifiers.Tid.{Tid}
use Rattle.qs_ops.specs.declared.answer.Answer.{Answer}
use Rattle.qs_ops.specs.declared.answer.Answer.TheVariants as answers
use Rattle.qs_book_journal.specs.declared.entry.Act.TheVariants as acts
use Rattle.qs_book_journal.specs.declared.script_line.Command.TheVariants as commands
use Rattle.qs_book_laws.proofs.Maps.{changed_at_here, lookup_changed}
use Rattle.qs_book_machine.specs.Book.{BookValue, find_label, find_transaction, give_back_from, inc_at}
use Rattle.qs_book_machine.specs.Clauses.{borrower_at}
use Rattle.qs_book_machine.specs.Lawful.{effect}
use Rattle.qs_book_machine.specs.Transaction.{TransactionValue, given_back}
use Rattle.qs_book_conformance.specs.Borrowing.{owns}
use Rattle.qs_book_conformance.specs.Course.{CourseValue}
use Rattle.qs_book_conformance.specs.Effects.{course_after}
use Rattle.qs_book_conformance.specs.declared.values.CommandMade.TheVariants as makes
use Rattle.qs_node_kept.specs.Loans.{first_untaken}
use Rattle.qs_node_kept.specs.declared.kept.Lent.{Lent}
use Rattle.qs_node_step.specs.Borrowing.{is_void}
use Rattle.qs_node_step.specs.State.{Work}
use Rattle.qs_node_step.specs.declared.state.Issued.{Issued}
use Rattle.qs_node_step.specs.declared.state.OpenCommand.{OpenCommand}
use Rattle.qs_world.specs.Posting.{entry_of}
use Rattle.qs_world_course.specs.Answered.{IsOfTake, after_yield, answered_at, with_given, with_taken}
use Rattle.qs_world_course.specs.Clients.{Commands, ForClients}
use Rattle.qs_world_course.specs.Due.{IsDue, IsFirst, IsOf, Said}
use Rattle.qs_world_course.specs.Going.{LeavesClient}
use Rattle.qs_world_course.specs.Making.{HasStanding}
use Rattle.qs_world_course.proofs.Borrows.{takes_are_answered, yield_is_due, yields_are_answered}
use Rattle.qs_world_course.proofs.DueLaws.{due_is_kept, take_is_due}
use Rattle.qs_world_course.proofs.LoansStay.{others_stay}
use Rattle.qs_world_course.proofs.MadeLaws.{borrower_may_yield}
use Rattle.qs_world_walk.specs.Deed as d
use Rattle.qs_world_walk.specs.Deed.{closed, did}
use Rattle.qs_world_walk.specs.May.{HasLoan, InHand, IsMet}
use Rattle.qs_world_said.specs.Amid.{ClientAmid, IsFor, IsSaidSo, clients_of, course_amid}
use Rattle.qs_world_said.specs.Deeds.{TakesKeep, YieldsKeep}
use Rattle.qs_world_said.specs.Knows.{KnowsAtStage, KnowsIssued, KnowsTid}
use Rattle.qs_world_said.proofs.Answers as answering
use Rattle.qs_world_said.proofs.Frames.{amid_stays, answered_amid, goes, leaves_itself, same_replies}
use Rattle.qs_world_said.proofs.InHand.{Handed, not_over_lent, unmade}
use Rattle.qs_world_said.proofs.Lookups.{changed_far, last_gives, last_takes, of_other_client}

-- ---- what a yield leaves of the machine

yielded_label : (book : BookValue) (stamp here : ℕ) (tid : Tid) (client : ClientNo) (label : List ℕ) → find_label (effect book (entry_of here stamp (acts.Yield tid client))) label ≡ find_label book label
yielded_label book stamp here tid client label = by (borrower_at client here)
  where
    by : (o : Option Member) → find_label (give_back_from (inc_at book (record { 0 = here })) tid o book) label ≡ find_label book label
    by None = refl
    by (Some member) = refl

yielded_found : (book : BookValue) (stamp here : ℕ) (tid : Tid) (client : ClientNo) (tx : TransactionValue) → find_transaction book tid ≡ Some tx
    → (later : TransactionValue) × ((find_transaction (effect book (entry_of here stamp (acts.Yield tid client))) tid ≡ Some later) × (later.owner ≡ tx.owner))
yielded_found book stamp here tid client tx found = by (borrower_at client here)
  where
    inc : ℕ
    inc = inc_at book (record { 0 = here })

    by : (o : Option Member) → (later : TransactionValue) × ((find_transaction (give_back_from inc tid o book) tid ≡ Some later) × (later.owner ≡ tx.owner))
    by None = (tx, (found, refl))
    by (Some member) = (given_back member inc tx, (lookup_changed (is_at (tid_cmp tid)) (given_back member inc) book.transactions tx found, refl))

module _ (stamp : ℕ) (before : CourseValue) (work : Work) (client : ClientNo) (command : OpenCommand) (tid : Tid) (knows : KnowsAtStage (course_amid stamp before work) work.node) (at : InHand client command work)
    (met : IsMet client command false (Some tid) work) (came : Option ClientNo) (mine : IsFor client came) (h : IsSaidSo stamp before came work) where
  abbrev was : CourseValue
  was = course_amid stamp before work

  abbrev had : ForClients
  had = clients_of work

  abbrev hand : Handed was had came client command
  hand = answering.hand stamp before work client command knows at came mine h

  abbrev its : Said
  its = answering.s stamp before work client command knows at came mine h

  abbrev later : Commands
  later = answering.later stamp before work client command knows at came mine h

  abbrev t : KnowsTid was client command.line.label met.begun tid
  t = knows.names.tids client command met.begun tid at met.met met.of_is

  of : IsOf its false tid t.tx
  of = answering.is_of stamp before work client command knows at came mine h false met.begun tid met.met met.own_is met.of_is t

  -- ---- a take

  module _ (takes : command.line.command ≡ commands.Take) (loan : Lent) (untaken : first_untaken client tid work.node.kept.now.loans ≡ Some loan) where
    of_take : (void : Bool) → IsOfTake (if void then answers.Ended else answers.Done)
    of_take true = inr refl
    of_take false = inl refl

    abbrev said_of : Answer
    said_of = if is_void tid loan work.node then answers.Ended else answers.Done

    due : IsDue its said_of
    due = take_is_due its tid t.tx work.node.kept.now.loans loan (is_void tid loan work.node) of takes (answering.has_loans stamp before work client command knows at came mine h tid) untaken
        (answering.void_so stamp before work client command knows at came mine h tid t.tx (knows.machine.aborts tid t.tx t.found) loan)

    leaves_taken : (other : ClientNo) → (client.0 == other.0) ≡ false → LeavesClient other had (answered_at later (with_taken client tid had.kept) had)
    leaves_taken other far = record {
      here = refl;
      inc = refl;
      in_hand = answering.in_hand_still stamp before work client command knows at came mine h other far;
      labels = λ label. refl;
      outcomes = λ another decided is. (decided, is);
      loans = λ another. (others_stay client other tid another had.kept.loans (λ l. of_other_client client other tid another l far)).0;
      last = λ another. last_takes client other tid another (λ l. of_other_client client other tid another l far) had.kept.loans;
    }

    pub takes_on : IsSaidSo stamp before None (did (d.Takes client command tid loan) work)
    takes_on = goes stamp before work (did (d.Takes client command tid loan) work) (acts.Answer client command.line.line said_of ∷ []) refl refl came None h
        (due_is_kept its said_of (answering.first stamp before work client command knows at came mine h) due, tt)
        (answered_amid stamp was had client hand.state command.line hand.rest said_of later (with_taken client tid had.kept) hand.there hand.left (answering.gone stamp before work client command knows at came mine h)
        (takes_are_answered (record had { in_hand = hand.so.beside }) later client command.line hand.rest hand.state was.book said_of tid loan (answering.closed_so stamp before work client command knows at came mine h) takes t.labelled untaken (of_take (is_void tid loan work.node)))
        leaves_taken (answering.others stamp before work client command knows at came mine h))

  -- ---- a yield

  module _ (yields : command.line.command ≡ commands.Yield) (loan : Lent) (has : HasLoan client tid loan work) where
    unissued : (o : Option Issued) → command.issued ≡ o → command.issued ≡ None
    unissued None is = is
    unissued (Some issued) is = let i : KnowsIssued work.node client command issued = knows.names.issued client command issued at is in absurd (cc (sym yields ∙ i.asks))

    nothing : hand.state.made ≡ makes.Nothing
    nothing = unmade had came client hand.state command hand.amid at (unissued command.issued refl) (λ is. absurd (cc (sym yields ∙ is))) (λ is. absurd (cc (sym yields ∙ is))) (λ over. not_over_lent work client command false tid met over refl loan has)

    standing : HasStanding its tid t.tx
    standing = record {
      of = of;
      loans = work.node.kept.now.loans;
      held = answering.has_loans stamp before work client command knows at came mine h tid;
      loan = loan;
      last = has.last;
      ungiven = has.kept;
      stands = answering.stands_so stamp before work client command knows at came mine h tid t.tx (knows.machine.aborts tid t.tx t.found) loan has.good;
    }

    abbrev entered : CourseValue
    entered = course_after was (entry_of had.here.0 stamp (acts.Yield tid client))

    there_given : slice_get entered.clients client.0 ≡ Some (after_yield tid hand.state)
    there_given = changed_at_here (after_yield tid) was.clients client.0 hand.state hand.there

    abbrev given : Said
    given = record { course = entered; here = had.here.0; client = client; state = after_yield tid hand.state; line = command.line }

    first_given : IsFirst given
    first_given = record { there = there_given; seat = hand.sits; first = hand.first }

    due_given : IsDue given answers.Done
    due_given = let tx = yielded_found was.book stamp had.here.0 tid client t.tx t.found in
        yield_is_due given tid tx.0 (record {
          unrefused = of.unrefused;
          label = yielded_label was.book stamp had.here.0 tid client command.line.label ∙ t.labelled;
          found = tx.1.0;
          own_is = ap (λ (o : Option ClientNo). owns o client) tx.1.1 ∙ of.own_is;
        }) yields refl

    leaves_given : (other : ClientNo) → (client.0 == other.0) ≡ false → LeavesClient other had (answered_at later (with_given client tid had.kept) had)
    leaves_given other far = record {
      here = refl;
      inc = refl;
      in_hand = answering.in_hand_still stamp before work client command knows at came mine h other far;
      labels = λ label. refl;
      outcomes = λ another decided is. (decided, is);
      loans = λ another. (others_stay client other tid another had.kept.loans (λ l. of_other_client client other tid another l far)).1;
      last = λ another. last_gives client other tid another (λ l. of_other_client client other tid another l far) had.kept.loans;
    }

    others_given : (other : ClientNo) → (client.0 == other.0) ≡ false → ClientAmid entered had None other
    others_given other far = amid_stays other had had (leaves_itself other had) None was entered (changed_far (after_yield tid) was.clients client.0 other.0 far) (same_replies was entered refl) (answering.others stamp before work client command knows at came mine h other far)

    pub yields_on : IsSaidSo stamp before None (did (d.Yields client command tid loan) work)
    yields_on = goes stamp before work (did (d.Yields client command tid loan) work) (acts.Yield tid client ∷ acts.Answer client command.line.line answers.Done ∷ []) refl
        (append_assoc work.out.entries (acts.Yield tid client ∷ []) (acts.Answer client command.line.line answers.Done ∷ [])) came None h
        (borrower_may_yield its tid t.tx (record { first = answering.first stamp before work client command knows at came mine h; is = yields; nothing = nothing }) standing, (due_is_kept given answers.Done first_given due_given, tt))
        (answered_amid stamp entered had client (after_yield tid hand.state) command.line hand.rest answers.Done later (with_given client tid had.kept) there_given hand.left (answering.gone stamp before work client command knows at came mine h)
        (yields_are_answered (record had { in_hand = hand.so.beside }) later client command.line hand.rest hand.state entered.book tid loan (answering.closed_so stamp before work client command knows at came mine h) yields has.last)
        leaves_given others_given)

pub takes_keep : TakesKeep
takes_keep stamp before work client command tid loan knows at takes met untaken came mine h = takes_on stamp before work client command tid knows at met came mine h takes loan untaken

pub yields_keep : YieldsKeep
yields_keep stamp before work client command tid loan knows at yields met has came mine h = yields_on stamp before work client command tid knows at met came mine h yields loan has
