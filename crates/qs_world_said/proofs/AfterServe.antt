-- What is known of the machine stays as a line comes, and as a request is served and a loan is made.
use Rattle.std.proofs.Common.{◌≡◌, ◌∙◌, ℕ, ◌+◌, ◌==◌, Bool, true, false, [], ◌∷◌, ◌++◌, Option, Some, None, append_assoc, inl, inr, refl, sym, ap, subst}
use Rattle.std.specs.Prelude.{◌⊎◌, ◌||◌, slice_get, unwrap_or, if◌then◌else◌}
use Rattle.std.specs.BTreeMap.{is_at}
use Rattle.std.specs.Map.{lookup}
use Rattle.std.specs.Option.{option_map}
use Rattle.std.proofs.lemmas.Cmp.{nat_cmp_total, on_total}
use Rattle.std.specs.Cmp.{IsTotalOrder}
use Rattle.qs_base.specs.Order.{tid_cmp}
use Rattle.qs_base.specs.declared.identifiers.Class.{Class}
use Rattle.qs_base.specs.declared.identifiers.Class.TheVariants as classes
use Rattle.qs_base.specs.declared.identifiers.ClientNo.{ClientNo}
use Rattle.qs_base.specs.declared.identifiers.Member.{Member}
use Rattle.qs_base.specs.declared.identifiers.NodeNo.{NodeNo}
use Rattle.qs_base.specs.declared.identifiers.ServerNo.{ServerNo}
use Rattle.qs_base.specs.declared.identifiers.Tid.{Tid}
use Rattle.qs_ipc.specs.declared.delivery.Delivery.{Delivery}
use Rattle.qs_ops.specs.Members.{class_of}
use Rattle.qs_ops.specs.declared.reply.Reply.{Reply}
use Rattle.qs_book_journal.specs.declared.entry.Act.{Act}
use Rattle.qs_book_journal.specs.declared.entry.Act.TheVariants as acts
use Rattle.qs_book_journal.specs.declared.script_line.ScriptLine.{ScriptLine}
use Rattle.qs_book_laws.proofs.Acts.{by_loan, by_serve}
use Rattle.qs_book_laws.proofs.Maps.{changed_alike, lookup_put, lookup_put_apart}
use Rattle.qs_base_lemmas.proofs.Tests.{some_same}
use Rattle.qs_book_laws.proofs.Rising.{IsRising, put_rises}
use Rattle.qs_engage.specs.Engage.{last_number}
use Rattle.qs_tm.specs.Members.{class_here, is_told_class}
use Rattle.qs_book_machine.specs.Book.{BookValue, find_transaction, inc_at, is_done, loan_to}
use Rattle.qs_book_machine.specs.Clauses.{borrower_at}
use Rattle.qs_book_machine.specs.Lawful.{effect}
use Rattle.qs_book_machine.specs.Transaction.{TransactionValue, is_abort, learnt_abort, lent, life, life_cmp, made_part, no_part, part_of, served_in, serving_part}
use Rattle.qs_book_machine.specs.declared.transaction.Cell.{Cell}
use Rattle.qs_book_machine.specs.declared.transaction.Part.{Part}
use Rattle.qs_book_machine.specs.declared.transaction.RequestNo.{RequestNo}
use Rattle.qs_book_conformance.specs.Course.{CourseValue}
use Rattle.qs_node_step.specs.Borrowing.{is_aborted}
use Rattle.qs_node_step.specs.Bringing.{member_here}
use Rattle.qs_node_step.specs.Serving.{lent_to}
use Rattle.qs_node_step.specs.State.{NodeValue, Work, client_cmp}
use Rattle.qs_tm.specs.Manager as tm
use Rattle.qs_tm.specs.Outcomes as outcome_rules
use Rattle.qs_tm.specs.Participant as participant
use Rattle.qs_tm.specs.declared.participant.Participant.{Participant}
use Rattle.qs_world.specs.Posting.{entry_of}
use Rattle.qs_world_lawful.proofs.Keys.{KeyApart, life_exact, life_itself, same_key_or}
use Rattle.qs_world_lawful.proofs.Parts.{aborts_alike}
use Rattle.qs_world_walk.specs.Deed as d
use Rattle.qs_world_walk.specs.Deed.{did, fresh_command, loan_entered, served}
use Rattle.qs_world_said.specs.Amid.{course_amid}
use Rattle.qs_world_said.specs.Knows.{KnowsAbort, KnowsMachine}
use Rattle.qs_world_said.proofs.Frames.{course_then}
use Rattle.qs_world_said.proofs.Serves.{inc_alike}

-- ---- whether a member learnt abort, after a serve and after a loan

serving_aborted : (c : Class) (stamp : ℕ) (done : Bool) (part : Part) → (serving_part c stamp done part).aborted ≡ part.aborted
serving_aborted classes.Recoverable stamp done part = refl
serving_aborted classes.Volatile stamp done part = refl
serving_aborted classes.Immediate stamp done part = refl
serving_aborted classes.Standard stamp done part = refl
serving_aborted classes.Delayed stamp done part = refl
serving_aborted classes.Activity stamp done part = refl

served_aborts : (at : RequestNo) (member : Member) (i stamp : ℕ) (done : Bool) (tx : TransactionValue) (here : NodeNo) (inc : ℕ) → learnt_abort (served_in at member i stamp done tx) here inc ≡ learnt_abort tx here inc
served_aborts at member i stamp done tx here inc = aborts_alike tx now here inc (λ other. by other (same_key_or life_cmp life_exact life_itself (life member i) (life other inc)))
  where
    now : TransactionValue
    now = served_in at member i stamp done tx

    put : Part
    put = serving_part (class_of member.server.0) stamp done (part_of tx member i)

    own : (part_of now member i).aborted ≡ (part_of tx member i).aborted
    own = ap (λ (o : Option Part). (unwrap_or o no_part).aborted) (lookup_put life_cmp (life member i) put (life_itself (life member i)) tx.parts) ∙ serving_aborted (class_of member.server.0) stamp done (part_of tx member i)

    by : (other : Member) → (life member i ≡ life other inc) ⊎ KeyApart life_cmp life_exact life_itself (life member i) (life other inc) → (part_of now other inc).aborted ≡ (part_of tx other inc).aborted
    by other (inl same) = subst (λ l. (unwrap_or (lookup (is_at (life_cmp l)) now.parts) no_part).aborted ≡ (unwrap_or (lookup (is_at (life_cmp l)) tx.parts) no_part).aborted) same own
    by other (inr far) = ap (λ (o : Option Part). (unwrap_or o no_part).aborted) (lookup_put_apart life_cmp (life member i) put (life_exact (life member i)) (is_at (life_cmp (life other inc))) far.at tx.parts)

aborted_in : (o : Option Part) → (unwrap_or o no_part).aborted ≡ unwrap_or (option_map (λ (p : Part). p.aborted) o) no_part.aborted
aborted_in None = refl
aborted_in (Some p) = refl

lent_aborts : (client : Member) (i : ℕ) (tx : TransactionValue) (here : NodeNo) (inc : ℕ) → learnt_abort (lent client i tx) here inc ≡ learnt_abort tx here inc
lent_aborts client i tx here inc = aborts_alike tx (lent client i tx) here inc (λ other. aborted_in (lookup (is_at (life_cmp (life other inc))) (lent client i tx).parts)
    ∙ (ap (λ (o : Option Bool). unwrap_or o no_part.aborted) (changed_alike (is_at (life_cmp (life client i))) (λ (p : Part). p.aborted) made_part (λ p. refl) (is_at (life_cmp (life other inc))) tx.parts)
    ∙ sym (aborted_in (lookup (is_at (life_cmp (life other inc))) tx.parts))))

-- ---- what an entry leaves of the machine: the incarnation, and of each transaction its cell and whether abort was learnt here

pub record SeenAs (here : NodeNo) (inc : ℕ) (old : BookValue) (tid : Tid) (tx : TransactionValue) : Type 0 where
  pub was : TransactionValue
  pub found : find_transaction old tid ≡ Some was
  pub cell : tx.cell ≡ was.cell
  pub aborts : learnt_abort tx here inc ≡ learnt_abort was here inc

pub record LeavesSeen (here : NodeNo) (inc : ℕ) (old new : BookValue) : Type 0 where
  pub incs : inc_at new here ≡ inc_at old here
  pub seen : (tid : Tid) (tx : TransactionValue) → find_transaction new tid ≡ Some tx → SeenAs here inc old tid tx

leaves_then : (here : NodeNo) (inc : ℕ) (a b c : BookValue) → LeavesSeen here inc a b → LeavesSeen here inc b c → LeavesSeen here inc a c
leaves_then here inc a b c h g = record {
  incs = g.incs ∙ h.incs;
  seen = λ tid tx found. let one = g.seen tid tx found in let two = h.seen tid one.was one.found in record { was = two.was; found = two.found; cell = one.cell ∙ two.cell; aborts = one.aborts ∙ two.aborts };
}

abbrev Face : Type 0
Face = Cell × Bool

abbrev face_at : NodeNo → ℕ → TransactionValue → Face
face_at here inc tx = (tx.cell, learnt_abort tx here inc)

found_face : (here : NodeNo) (inc : ℕ) (o : Option TransactionValue) (tx : TransactionValue) → Some (face_at here inc tx) ≡ option_map (face_at here inc) o → (was : TransactionValue) × ((o ≡ Some was) × (face_at here inc tx ≡ face_at here inc was))
found_face here inc None tx is = absurd (cc is)
found_face here inc (Some was) tx is = (was, (refl, some_same is))

seen_as : (here : NodeNo) (inc : ℕ) (old : BookValue) (tid : Tid) (tx : TransactionValue) → Some (face_at here inc tx) ≡ option_map (face_at here inc) (find_transaction old tid) → SeenAs here inc old tid tx
seen_as here inc old tid tx is = let f = found_face here inc (find_transaction old tid) tx is in
    record { was = f.0; found = f.1.0; cell = ap (λ (p : Face). p.0) f.1.1; aborts = ap (λ (p : Face). p.1) f.1.1 }

serve_leaves : (book : BookValue) (here : NodeNo) (inc stamp : ℕ) (tid : Tid) (member : Member) (from : NodeNo) (number : ℕ) (reply : Reply) → LeavesSeen here inc book (effect book (entry_of here.0 stamp (acts.Serve tid member from number reply)))
serve_leaves book here inc stamp tid member from number reply = record {
  incs = inc_alike (slice_get new.nodes here.0) (slice_get book.nodes here.0) ((by_serve here.0 tid member from number stamp reply book).ages here.0);
  seen = λ t tx found. seen_as here inc book t tx (sym (ap (option_map (face_at here inc)) found)
      ∙ changed_alike (is_at (tid_cmp tid)) (face_at here inc) f (λ x. ap (λ (b : Bool). (x.cell, b)) (served_aborts at member (inc_at book here) stamp (is_done reply) x here inc)) (is_at (tid_cmp t)) book.transactions);
}
  where
    new : BookValue
    new = effect book (entry_of here.0 stamp (acts.Serve tid member from number reply))

    at : RequestNo
    at = record { link = record { from = from; to = member.node }; number = number }

    f : TransactionValue → TransactionValue
    f = served_in at member (inc_at book here) stamp (is_done reply)

loan_leaves : (book : BookValue) (here : NodeNo) (inc stamp : ℕ) (tid : Tid) (client : ClientNo) → LeavesSeen here inc book (effect book (entry_of here.0 stamp (acts.Loan tid client)))
loan_leaves book here inc stamp tid client = record {
  incs = inc_alike (slice_get (effect book (entry_of here.0 stamp (acts.Loan tid client))).nodes here.0) (slice_get book.nodes here.0) ((by_loan here.0 tid client book).ages here.0);
  seen = λ t tx found. seen_as here inc book t tx (sym (ap (option_map (face_at here inc)) found) ∙ alike (borrower_at client here.0) t);
}
  where
    alike : (o : Option Member) (t : Tid) → option_map (face_at here inc) (find_transaction (loan_to (inc_at book here) tid o book) t) ≡ option_map (face_at here inc) (find_transaction book t)
    alike None t = refl
    alike (Some member) t = changed_alike (is_at (tid_cmp tid)) (face_at here inc) (lent member (inc_at book here)) (λ x. ap (λ (b : Bool). (x.cell, b)) (lent_aborts member (inc_at book here) x here inc)) (is_at (tid_cmp t)) book.transactions

-- ---- what is known

pub machine_goes : (course later : CourseValue) (node new : NodeValue) → new.setting ≡ node.setting → new.commands ≡ node.commands → ((tid : Tid) → is_aborted tid new ≡ is_aborted tid node) → LeavesSeen node.setting.node node.setting.inc course.book later.book
    → KnowsMachine course node → KnowsMachine later new
machine_goes course later node new setting commands same leaves m = record {
  apart = subst (λ cs. IsRising client_cmp cs) (sym commands) m.apart;
  inc = ap (λ s. inc_at later.book s.node) setting ∙ (inc_now ∙ sym (ap (λ s. s.inc) setting));
  aborts = λ tid tx found. knows tid tx (leaves.seen tid tx found);
}
  where
    inc_now : inc_at later.book node.setting.node ≡ node.setting.inc
    inc_now = leaves.incs ∙ m.inc

    knows : (tid : Tid) (tx : TransactionValue) → SeenAs node.setting.node node.setting.inc course.book tid tx → KnowsAbort later new tid tx
    knows tid tx s = let a = m.aborts tid s.was s.found in record {
      learnt = λ is. same tid ∙ a.learnt (ap (λ (i : ℕ). learnt_abort s.was node.setting.node i) m.inc ∙ (sym s.aborts ∙ (sym (ap (λ t. learnt_abort tx t.node (inc_at later.book t.node)) setting ∙ ap (λ (i : ℕ). learnt_abort tx node.setting.node i) inc_now) ∙ is)));
      so = λ is. ap is_abort s.cell ∙ a.so (sym (same tid) ∙ is);
    }

client_total : IsTotalOrder client_cmp
client_total = on_total (λ (c : ClientNo). c.0) nat_cmp_total

pub came_machine : (stamp : ℕ) (before : CourseValue) (work : Work) (line : ScriptLine) → KnowsMachine (course_amid stamp before work) work.node → KnowsMachine (course_amid stamp before (did (d.Opens line) work)) (did (d.Opens line) work).node
came_machine stamp before work line m = record {
  apart = put_rises client_cmp client_total line.client (fresh_command line) work.node.commands m.apart;
  inc = m.inc;
  aborts = λ tid tx found. let a = m.aborts tid tx found in record { learnt = a.learnt; so = a.so };
}

-- a serve leaves outcomes
outcome_served : (server : ServerNo) (part : Participant) → outcome_rules.is_abort (participant.served server part).outcome ≡ outcome_rules.is_abort part.outcome
outcome_served server part = by ((participant.member_of part server).served == last_number)
  where
    by : (b : Bool) → outcome_rules.is_abort (if b then part else record (participant.with_member server (record (participant.member_of part server) { served = (participant.member_of part server).served + 1; fresh = true }) part) {
      involved = part.involved || is_told_class (class_here server);
    }).outcome ≡ outcome_rules.is_abort part.outcome
    by true = refl
    by false = refl

pub told_in : (o : Option Participant) → (elim o as (λ o. Bool) [ None ↦ false | Some part ↦ outcome_rules.is_abort part.outcome ]) ≡ unwrap_or (option_map (λ (p : Participant). outcome_rules.is_abort p.outcome) o) false
told_in None = refl
told_in (Some part) = refl

pub served_machine : (stamp : ℕ) (before : CourseValue) (work : Work) (server : ServerNo) (delivery : Delivery) (reply : Reply) → KnowsMachine (course_amid stamp before work) work.node
    → KnowsMachine (course_amid stamp before (served server delivery reply work)) (served server delivery reply work).node
served_machine stamp before work server delivery reply m =
    machine_goes course (course_amid stamp before made) work.node made.node refl refl aborted_same (by (lent_to delivery.op) refl) m
  where
    made : Work
    made = served server delivery reply work

    course : CourseValue
    course = course_amid stamp before work

    here : NodeNo
    here = work.node.setting.node

    inc : ℕ
    inc = work.node.setting.inc

    aborted_same : (tid : Tid) → is_aborted tid made.node ≡ is_aborted tid work.node
    aborted_same tid = told_in (tm.part_of tid made.node.manager)
        ∙ (ap (λ (o : Option Bool). unwrap_or o false) (changed_alike (is_at (tid_cmp delivery.tid)) (λ (p : Participant). outcome_rules.is_abort p.outcome) (participant.served server) (outcome_served server) (is_at (tid_cmp tid)) work.node.manager.known)
        ∙ sym (told_in (tm.part_of tid work.node.manager)))

    act : Act
    act = acts.Serve delivery.tid (member_here work server) delivery.from delivery.number reply

    one : BookValue
    one = effect course.book (entry_of here.0 stamp act)

    by : (o : Option ClientNo) → lent_to delivery.op ≡ o → LeavesSeen here inc course.book (course_amid stamp before made).book
    by None is = subst (λ (b : BookValue). LeavesSeen here inc course.book b) (sym (ap (λ (c : CourseValue). c.book) (course_then stamp before work made (act ∷ []) refl (ap (λ o. loan_entered delivery.tid o (work.out.entries ++ act ∷ [])) is))))
        (serve_leaves course.book here inc stamp delivery.tid (member_here work server) delivery.from delivery.number reply)
    by (Some client) is = subst (λ (b : BookValue). LeavesSeen here inc course.book b)
        (sym (ap (λ (c : CourseValue). c.book) (course_then stamp before work made (act ∷ acts.Loan delivery.tid client ∷ []) refl
        (ap (λ o. loan_entered delivery.tid o (work.out.entries ++ act ∷ [])) is ∙ append_assoc work.out.entries (act ∷ []) (acts.Loan delivery.tid client ∷ [])))))
        (leaves_then here inc course.book one (effect one (entry_of here.0 stamp (acts.Loan delivery.tid client))) (serve_leaves course.book here inc stamp delivery.tid (member_here work server) delivery.from delivery.number reply)
        (loan_leaves one here inc stamp delivery.tid client))
