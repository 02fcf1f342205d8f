-- A command that is answered: each answer that is due to it breaks no rule, and its client goes on to its next line.
use Rattle.std.proofs.Common.{◌≡◌, ◌∙◌, ℕ, ◌==◌, Bool, true, false, List, [], ◌∷◌, Option, Some, None, inl, inr, refl, sym, ap, subst}
use Rattle.std.specs.Prelude.{◌⊎◌, ◌||◌, not}
use Rattle.std.specs.BTreeMap.{is_at}
use Rattle.std.specs.Map.{remove_entry}
use Rattle.qs_base.specs.declared.identifiers.ClientNo.{ClientNo}
use Rattle.qs_base.specs.declared.identifiers.Member.{Member}
use Rattle.qs_base.specs.declared.identifiers.Outcome.{Outcome}
use Rattle.qs_base.specs.declared.identifiers.Outcome.TheVariants as outcomes
use Rattle.qs_base.specs.declared.identifiers.Tid.{Tid}
use Rattle.qs_base_lemmas.proofs.Tests.{some_same}
use Rattle.qs_ops.specs.declared.answer.Answer.{Answer}
use Rattle.qs_ops.specs.declared.answer.Answer.TheVariants as answers
use Rattle.qs_ops.specs.declared.answer.Cause.{Cause}
use Rattle.qs_ops.specs.declared.operation.Op.{Op}
use Rattle.qs_book_journal.specs.declared.entry.Act.TheVariants as acts
use Rattle.qs_book_journal.specs.declared.script_line.Command.{Command}
use Rattle.qs_book_journal.specs.declared.script_line.Command.TheVariants as commands
use Rattle.qs_book_journal.specs.declared.script_line.ScriptLine.{ScriptLine}
use Rattle.qs_book_laws.proofs.Rising.{removed}
use Rattle.qs_book_laws.proofs.Shares.{removed_apart}
use Rattle.qs_book_machine.specs.Transaction.{TransactionValue, is_abort, is_open}
use Rattle.qs_book_machine.specs.declared.transaction.Cell.{Cell}
use Rattle.qs_book_machine.specs.declared.transaction.Cell.TheVariants as cells
use Rattle.qs_book_conformance.specs.Answers.{is_outcome_answer}
use Rattle.qs_book_conformance.specs.Borrowing.{is_void as is_void_at, knows_abort}
use Rattle.qs_book_conformance.specs.Commands.{is_take}
use Rattle.qs_book_conformance.specs.Course.{ClientValue, CourseValue}
use Rattle.qs_book_conformance.specs.Effects.{refused_by}
use Rattle.qs_node_kept.specs.declared.kept.Decided.{Decided}
use Rattle.qs_node_kept.specs.declared.kept.KeptLabel.{KeptLabel}
use Rattle.qs_node_kept.specs.declared.kept.Lent.{Lent}
use Rattle.qs_node_step.specs.Borrowing.{is_aborted, is_void}
use Rattle.qs_node_step.specs.Commands.{aborted_answer, decided_answer, outcome_answer}
use Rattle.qs_node_step.specs.Serving.{label_at}
use Rattle.qs_node_step.specs.State.{Work, client_cmp}
use Rattle.qs_node_step.specs.Step.{is_owner}
use Rattle.qs_node_step.specs.declared.state.OpenCommand.{OpenCommand}
use Rattle.qs_world_course.specs.Answered.{IsClosed, answered_at}
use Rattle.qs_world_course.specs.Clients.{Commands, ForClients, IsOnCourse, in_hand_of}
use Rattle.qs_world_course.specs.Due.{HasLoans, IsDue, IsFirst, IsOf, IsOfLoan, IsVoidSo, Said}
use Rattle.qs_world_course.specs.Going.{LeavesClient}
use Rattle.qs_world_course.specs.Loans.{loan_of}
use Rattle.qs_world_course.specs.Worlds.{IsToldSo}
use Rattle.qs_world_course.proofs.Closes.{plain_are_answered}
use Rattle.qs_world_course.proofs.DueLaws.{due_is_kept, ended_is_due, not_begun_is_due, not_yours_is_due, owner_is_ended, owner_is_told}
use Rattle.qs_world_lawful.proofs.Answers.{client_exact}
use Rattle.qs_world_walk.specs.Deed.{closed}
use Rattle.qs_world_walk.specs.May.{InHand}
use Rattle.qs_world_said.specs.Amid.{IsFor, IsSaidSo, clients_of, course_amid}
use Rattle.qs_world_said.specs.Deeds.{EndedKeeps, IsOfLast, NotItsKeeps, OverKeeps, UnbegunKeeps, VoidKeeps}
use Rattle.qs_world_said.specs.Knows.{HasUngiven, KnowsAbort, KnowsAtStage, KnowsIssued, KnowsTid, MaySay}
use Rattle.qs_world_said.proofs.Frames.{AreOthers, answered_amid, goes, the_others}
use Rattle.qs_world_said.proofs.InHand.{Handed, handed}
use Rattle.qs_world_said.proofs.Lookups.{far_at}

-- ---- an answer, where it is due

module _ (stamp : ℕ) (before : CourseValue) (work : Work) (client : ClientNo) (command : OpenCommand) (knows : KnowsAtStage (course_amid stamp before work) work.node) (there : InHand client command work)
    (came : Option ClientNo) (mine : IsFor client came) (h : IsSaidSo stamp before came work) where
  abbrev pub course : CourseValue
  course = course_amid stamp before work

  abbrev pub node : ForClients
  node = clients_of work

  abbrev pub hand : Handed course node came client command
  hand = handed course node came client command h.on there

  pub others : AreOthers course node client
  others = the_others course node came client mine h.on

  abbrev pub later : Commands
  later = remove_entry (is_at (client_cmp client)) work.node.commands

  pub gone : in_hand_of client later ≡ None
  gone = removed client_cmp client_exact client work.node.commands knows.machine.apart

  abbrev pub s : Said
  s = record { course = course; here = node.here.0; client = client; state = hand.state; line = command.line }

  pub first : IsFirst s
  first = record { there = hand.there; seat = hand.sits; first = hand.first }

  abbrev pub beside : Commands
  beside = hand.so.beside

  pub closed_so : IsClosed (record node { in_hand = beside }) later client command.line hand.rest hand.state
  closed_so = record { held = subst (λ (ls : List ScriptLine). IsOnCourse (record node { in_hand = beside }) client ls hand.state) hand.left hand.so.held; gone = gone }

  pub in_hand_still : (other : ClientNo) → (client.0 == other.0) ≡ false → in_hand_of other later ≡ in_hand_of other work.node.commands
  in_hand_still other far = removed_apart (is_at (client_cmp client)) (is_at (client_cmp other)) (far_at client other far) work.node.commands

  leaves_closed : (other : ClientNo) → (client.0 == other.0) ≡ false → LeavesClient other node (answered_at later node.kept node)
  leaves_closed other far = record { here = refl; inc = refl; in_hand = in_hand_still other far; labels = λ label. refl; outcomes = λ tid decided is. (decided, is); loans = λ tid. refl; last = λ tid. refl }

  pub plain : (answer : Answer) → is_take command.line.command ≡ false → ((c : ClientValue) → refused_by command.line answer c ≡ c) → IsDue s answer → IsSaidSo stamp before None (closed client command answer work)
  plain answer untaken keeps due = goes stamp before work (closed client command answer work) (acts.Answer client command.line.line answer ∷ []) refl refl came None h (due_is_kept s answer first due, tt)
      (answered_amid stamp course node client hand.state command.line hand.rest answer later node.kept hand.there hand.left gone
      (plain_are_answered (record node { in_hand = beside }) later client command.line hand.rest hand.state course.book answer closed_so untaken keeps)
      leaves_closed others)

  -- ---- of which transaction it speaks

  pub is_of : (own : Bool) (begun : KeptLabel) (tid : Tid) → label_at command.line.label work.node ≡ Some begun → is_owner client begun.owner ≡ own → begun.tid ≡ Some tid → (t : KnowsTid course client command.line.label begun tid) → IsOf s own tid t.tx
  is_of own begun tid met is of t = record { unrefused = hand.so.held.begun command.line.label begun tid met of; label = t.labelled; found = t.found; own_is = t.owner ∙ is }

  pub has_loans : (tid : Tid) → HasLoans s tid work.node.kept.now.loans
  has_loans tid = hand.so.held.loans tid

  -- ---- what the node takes the loan for

  pub void_so : (tid : Tid) (tx : TransactionValue) → KnowsAbort course work.node tid tx → (loan : Lent) → IsVoidSo s tx loan (is_void tid loan work.node)
  void_so tid tx a loan = record { known = λ is. known (loan.inc == work.node.setting.inc) refl (sym machine ∙ is); so = λ is. so (loan.inc == work.node.setting.inc) refl is }
    where
      knows_it : Bool
      knows_it = knows_abort course.book node.here.0 tx

      machine : is_void_at course.book node.here.0 tx (loan_of loan) ≡ (not (loan.inc == work.node.setting.inc) || knows_abort course.book node.here.0 tx)
      machine = ap (λ (n : ℕ). not (loan.inc == n) || knows_abort course.book node.here.0 tx) knows.machine.inc

      known : (b : Bool) → (loan.inc == work.node.setting.inc) ≡ b → (not (loan.inc == work.node.setting.inc) || knows_abort course.book node.here.0 tx) ≡ true → is_void tid loan work.node ≡ true
      known true is v = rw is (a.learnt (rw is at v))
      known false is v = rw is refl

      so : (b : Bool) → (loan.inc == work.node.setting.inc) ≡ b → is_void tid loan work.node ≡ true → (is_void_at course.book node.here.0 tx (loan_of loan) ≡ true) ⊎ (is_abort tx.cell ≡ true)
      so true is v = inr (a.so (rw is at v))
      so false is v = inl (machine ∙ rw is refl)

  -- the loan stands in the machine where it is good at the node
  pub stands_so : (tid : Tid) (tx : TransactionValue) → KnowsAbort course work.node tid tx → (loan : Lent) → is_void tid loan work.node ≡ false → is_void_at course.book node.here.0 tx (loan_of loan) ≡ false
  stands_so tid tx a loan good = by (is_void_at course.book node.here.0 tx (loan_of loan)) refl
    where
      by : (b : Bool) → is_void_at course.book node.here.0 tx (loan_of loan) ≡ b → b ≡ false
      by false is = refl
      by true is = absurd (cc (sym ((void_so tid tx a loan).known is) ∙ good))

-- ---- not begun

pub unbegun_keeps : UnbegunKeeps
unbegun_keeps stamp before work client command knows there met came mine h =
    plain stamp before work client command knows there came mine h answers.NotBegun (untaken command.line.command (subst (λ (b : Bool). MaySay b command.line.command) met.own_is (knows.names.says client command met.begun there met.met))) (λ c. refl)
    (not_begun_is_due (s stamp before work client command knows there came mine h)
    ((hand stamp before work client command knows there came mine h).so.held.refused command.line.label met.begun met.met met.own_is met.of_is))
  where
    untaken : (c : Command) → MaySay true c → is_take c ≡ false
    untaken commands.Begin m = absurd m
    untaken commands.Commit m = refl
    untaken commands.Abort m = refl
    untaken commands.Take m = absurd (cc m)
    untaken commands.Yield m = absurd (cc m)
    untaken (commands.Request member op) m = refl

-- ---- the outcome, to its owner

outcome_refuses : (decided : Decided) (line : ScriptLine) (c : ClientValue) → refused_by line (outcome_answer decided) c ≡ c
outcome_refuses decided line c = by decided.outcome decided.cause
  where
    by : (o : Outcome) (cause : Option Cause) → refused_by line (elim o [ outcomes.Commit ↦ answers.Committed | outcomes.Abort ↦ aborted_answer cause ]) c ≡ c
    by outcomes.Commit cause = refl
    by outcomes.Abort None = refl
    by outcomes.Abort (Some cause) = refl

told_over : (cell : Cell) (cause : Option Cause) (answer : Answer) → is_outcome_answer cell cause answer ≡ true → is_open cell ≡ false
told_over cells.Open cause answer is = absurd (cc is)
told_over cells.Commit cause answer is = refl
told_over cells.Abort cause answer is = refl

pub over_keeps : OverKeeps
over_keeps stamp before work client command tid decided knows there met kept came mine h = by command.line.command refl (subst (λ (b : Bool). MaySay b command.line.command) met.own_is (knows.names.says client command met.begun there met.met))
  where
    its : Said
    its = s stamp before work client command knows there came mine h

    t : KnowsTid (course_amid stamp before work) client command.line.label met.begun tid
    t = knows.names.tids client command met.begun tid there met.met met.of_is

    of : IsOf its true tid t.tx
    of = is_of stamp before work client command knows there came mine h true met.begun tid met.met met.own_is met.of_is t

    told : is_outcome_answer t.tx.cell t.tx.cause (outcome_answer decided) ≡ true
    told = let k : IsToldSo (course_amid stamp before work).book tid decided = knows.names.outcomes tid decided kept in
        subst (λ (tx : TransactionValue). is_outcome_answer tx.cell tx.cause (outcome_answer decided) ≡ true) (some_same (sym k.found ∙ t.found)) k.so

    Then : Command → Type 0
    Then c = IsSaidSo stamp before None (closed client command (decided_answer decided c) work)

    outcome : (c : Command) → command.line.command ≡ c → is_take c ≡ false → (c ≡ commands.Commit) ⊎ (c ≡ commands.Abort) → IsSaidSo stamp before None (closed client command (outcome_answer decided) work)
    outcome c is other which = plain stamp before work client command knows there came mine h (outcome_answer decided) (ap is_take is ∙ other) (λ state. outcome_refuses decided command.line state)
        (owner_is_told its tid t.tx decided of (ends which) told)
      where
        ends : (c ≡ commands.Commit) ⊎ (c ≡ commands.Abort) → (command.line.command ≡ commands.Commit) ⊎ (command.line.command ≡ commands.Abort)
        ends (inl e) = inl (is ∙ e)
        ends (inr e) = inr (is ∙ e)

    by : (c : Command) → command.line.command ≡ c → MaySay true c → IsSaidSo stamp before None (closed client command (decided_answer decided command.line.command) work)
    by commands.Begin is m = absurd m
    by commands.Commit is m = subst Then (sym is) (outcome commands.Commit is refl (inl refl))
    by commands.Abort is m = subst Then (sym is) (outcome commands.Abort is refl (inr refl))
    by commands.Take is m = absurd (cc m)
    by commands.Yield is m = absurd (cc m)
    by (commands.Request member op) is m = subst Then (sym is) (plain stamp before work client command knows there came mine h answers.Ended (ap is_take is) (λ state. refl)
        (owner_is_ended its tid t.tx member op of is (told_over t.tx.cell t.tx.cause (outcome_answer decided) told)))

-- ---- of the loan of the last take

abbrev Which : Command → Type 0
Which c = (c ≡ commands.Yield) ⊎ ((member : Member) × ((op : Op) × (c ≡ commands.Request member op)))

which_of : (c : Command) → MaySay false c → is_take c ≡ false → Which c
which_of commands.Begin m other = absurd m
which_of commands.Commit m other = absurd (cc m)
which_of commands.Abort m other = absurd (cc m)
which_of commands.Take m other = absurd (cc other)
which_of commands.Yield m other = inl refl
which_of (commands.Request member op) m other = inr (member, (op, refl))

module _ (stamp : ℕ) (before : CourseValue) (work : Work) (client : ClientNo) (command : OpenCommand) (tid : Tid) (loan : Lent) (knows : KnowsAtStage (course_amid stamp before work) work.node) (l : IsOfLast client command tid loan work)
    (came : Option ClientNo) (mine : IsFor client came) (h : IsSaidSo stamp before came work) where
  abbrev its : Said
  its = s stamp before work client command knows l.there came mine h

  pub t : KnowsTid (course_amid stamp before work) client command.line.label l.met.begun tid
  t = knows.names.tids client command l.met.begun tid l.there l.met.met l.met.of_is

  pub of_loan : IsOfLoan (s stamp before work client command knows l.there came mine h) tid t.tx work.node.kept.now.loans loan
  of_loan = record {
    of = is_of stamp before work client command knows l.there came mine h false l.met.begun tid l.met.met l.met.own_is l.met.of_is t;
    which = which_of command.line.command (subst (λ (b : Bool). MaySay b command.line.command) l.met.own_is (knows.names.says client command l.met.begun l.there l.met.met)) l.untaken;
    ungiven = (hand stamp before work client command knows l.there came mine h).ungiven;
    held = has_loans stamp before work client command knows l.there came mine h tid;
    last = l.last;
  }

  pub last_void : is_void tid loan work.node ≡ true → IsVoidSo (s stamp before work client command knows l.there came mine h) t.tx loan true
  last_void void = subst (IsVoidSo (s stamp before work client command knows l.there came mine h) t.tx loan) void (void_so stamp before work client command knows l.there came mine h tid t.tx (knows.machine.aborts tid t.tx t.found) loan)

pub not_its_keeps : NotItsKeeps
not_its_keeps stamp before work client command tid loan knows l given came mine h = plain stamp before work client command knows l.there came mine h answers.NotYours l.untaken (λ c. refl)
    (not_yours_is_due (s stamp before work client command knows l.there came mine h) tid (t stamp before work client command tid loan knows l came mine h).tx work.node.kept.now.loans loan (of_loan stamp before work client command tid loan knows l came mine h) given)

pub void_keeps : VoidKeeps
void_keeps stamp before work client command tid loan knows l free void came mine h = plain stamp before work client command knows l.there came mine h answers.Ended l.untaken (λ c. refl)
    (ended_is_due (s stamp before work client command knows l.there came mine h) tid (t stamp before work client command tid loan knows l came mine h).tx work.node.kept.now.loans loan (of_loan stamp before work client command tid loan knows l came mine h) free
    (last_void stamp before work client command tid loan knows l came mine h void))

-- what is issued is ended where the node knows abort
pub ended_keeps : EndedKeeps
ended_keeps stamp before work client command of issued knows there met is over = void_keeps stamp before work client command issued.tid lent.loan knows l lent.ungiven void
  where
    i : KnowsIssued work.node client command issued
    i = knows.names.issued client command issued there is

    same : i.begun ≡ met.begun
    same = some_same (sym i.met ∙ met.met)

    other : is_owner client i.begun.owner ≡ false
    other = ap (λ (b : KeptLabel). is_owner client b.owner) same ∙ met.own_is

    lent : HasUngiven work.node client issued.tid
    lent = i.lent other

    l : IsOfLast client command issued.tid lent.loan work
    l = record { there = there; met = record { begun = i.begun; met = i.met; own_is = other; of_is = i.of }; last = lent.last; untaken = ap is_take i.asks }

    void : is_void issued.tid lent.loan work.node ≡ true
    void = by (not (lent.loan.inc == work.node.setting.inc)) over
      where
        by : (b : Bool) → is_aborted issued.tid work.node ≡ true → (b || is_aborted issued.tid work.node) ≡ true
        by true e = refl
        by false e = e
