-- Of what a node forgets the machine has nothing due: it only read, sent nothing, and issued no note.
use Rattle.qs_world_lawful.proofs.Words.{◌≡◌, ℕ, ◌==◌, ◌≤◌, Bool, true, false, Option, Some, None, refl, sym, ap, subst, ◌∙◌, arith, nat_lt, nat_tests, not, ◌&&◌, ◌||◌, is_none, if◌then◌else◌, Class, NodeNo, ServerNo, Tid, is_no_node, BookValue, find_transaction, TransactionValue, has_note, may_learn_still, Part, class_of, Work, is_due_at, is_forgotten, is_undecided, member_of, needs_pass, only_read, Participant, HoldsPart, HoldsReads, book_at, at_server, face_of, HoldsMember, HoldsTid, Stands}
use Rattle.qs_world_lawful.proofs.Words.{or_last, none_is}
use Rattle.qs_base.specs.declared.identifiers.Class.TheVariants as classes
use Rattle.qs_book_machine.specs.Clauses.{note_text}
use Rattle.qs_book_machine.specs.Transaction.{is_let_go, part_of}
use Rattle.qs_node_step.specs.State.{NodeValue}
use Rattle.qs_tm.specs.Manager as tm
use Rattle.qs_tm.specs.Members as rules
use Rattle.qs_tm.specs.Members.{all_servers}
use Rattle.qs_tm.specs.Participant.{has_due}
use Rattle.qs_tm.specs.declared.participant.Due.TheVariants as dues
use Rattle.qs_world_lawful.specs.Agreed.{IsIdle}
use Rattle.qs_world_lawful.specs.Given.{HasOnlyRead}
use Rattle.qs_world_lawful.specs.Holds.{is_kept}
use Rattle.qs_world_lawful.proofs.Clauses.{of_tid}
use Rattle.qs_world_lawful.proofs.ReadAlone.{all_read}
use Rattle.qs_world_lawful.proofs.Truths.{clash, left_true, not_true, right_true}

-- timers alone are immediate, and no server of a node is a client
immediate_is : (n : ℕ) → rules.is_immediate (class_of n) ≡ true → (n == 3) ≡ true
immediate_is n = by (n == 2) (n == 3) (n == 4) (n == 5) (nat_lt 31 n)
  where
    by : (a b c d e : Bool) → rules.is_immediate (if a then classes.Volatile else if b then classes.Immediate else if c then classes.Standard else if d then classes.Delayed else if e then classes.Activity else classes.Recoverable) ≡ true → b ≡ true
    by true b c d e is = absurd (cc is)
    by false true c d e is = refl
    by false false true d e is = absurd (cc is)
    by false false false true e is = absurd (cc is)
    by false false false false true is = absurd (cc is)
    by false false false false false is = absurd (cc is)

no_client : (n : ℕ) → nat_lt n 7 ≡ true → class_of n ≡ classes.Activity → ⊥
no_client n kept is = by (n == 2) (n == 3) (n == 4) (n == 5) (nat_lt 31 n) refl is
  where
    far : nat_lt 31 n ≡ true → ⊥
    far e = grind (arith, nat_tests, kept, e)

    by : (a b c d e : Bool) → nat_lt 31 n ≡ e → (if a then classes.Volatile else if b then classes.Immediate else if c then classes.Standard else if d then classes.Delayed else if e then classes.Activity else classes.Recoverable) ≡ classes.Activity → ⊥
    by true b c d e so is = cc is
    by false true c d e so is = cc is
    by false false true d e so is = cc is
    by false false false true e so is = cc is
    by false false false false true so is = far so
    by false false false false false so is = cc is

-- nothing is due to timers
unended : (part : Participant) → needs_pass part ≡ false → (server : ServerNo) → rules.is_immediate (class_of server.0) ≡ true → (member_of part server).fresh ≡ false
unfolding all_servers
unended part idle server is = subst (λ (n : ℕ). (member_of part (record { 0 = n })).fresh ≡ false) (sym (number server.0 (immediate_is server.0 is))) (fourth (ends 0) (ends 1) (ends 2) (member_of part (record { 0 = 3 })).fresh (ends 4) (ends 5) (ends 6) (or_last (has_due dues.Vote part) (has_due dues.Ending part) idle))
  where
    ends : ℕ → Bool
    ends n = is_due_at dues.Ending part (record { 0 = n })

    number : (n : ℕ) → (n == 3) ≡ true → n ≡ 3
    number n e = grind (arith, nat_tests, e)

    fourth : (a b c d e f g : Bool) → (a || (b || (c || (d || (e || (f || (g || false))))))) ≡ false → d ≡ false
    fourth a b c false e f g is = refl
    fourth false false false true e f g is = absurd (cc is)
    fourth true b c true e f g is = absurd (cc is)
    fourth false true c true e f g is = absurd (cc is)
    fourth false false true true e f g is = absurd (cc is)

unlearning : (p : Part) → p.due ≡ false → may_learn_still p ≡ false
unlearning p none = ap (λ (b : Bool). b && not (is_let_go p)) none

module _ (stamp : ℕ) (before : BookValue) (size : ℕ) (nodes : ℕ → NodeValue) (n : ℕ) (work : Work) (s : Stands stamp before size nodes n work) (tid : Tid) (part : Participant) (known : tm.part_of tid work.node.manager ≡ Some part)
    (tx : TransactionValue) (found : find_transaction (book_at stamp before work) tid ≡ Some tx) (forgotten : is_forgotten part ≡ true) (quiet : IsIdle part) where
  abbrev here : NodeNo
  here = work.node.setting.node

  abbrev inc : ℕ
  inc = work.node.setting.inc

  front : (is_undecided part && not part.engage.home) ≡ true
  front = left_true (is_undecided part && not part.engage.home) _ forgotten

  back : ((is_none part.engage.superior && not part.involved) && (is_no_node part.told && only_read part)) ≡ true
  back = right_true (is_undecided part && not part.engage.home) _ forgotten

  unknown : part.outcome ≡ None
  unknown = none_is part.outcome (left_true (is_undecided part) (not part.engage.home) front)

  away : part.engage.home ≡ false
  away = not_true part.engage.home (right_true (is_undecided part) (not part.engage.home) front)

  free : (is_none part.engage.superior && not part.involved) ≡ true
  free = left_true (is_none part.engage.superior && not part.involved) _ back

  uninvolved : part.involved ≡ false
  uninvolved = not_true part.involved (right_true (is_none part.engage.superior) (not part.involved) free)

  read : only_read part ≡ true
  read = right_true (is_no_node part.told) (only_read part) (right_true (is_none part.engage.superior && not part.involved) _ back)

  its : HoldsPart (book_at stamp before work) s.by.beside.state work.node tid tx part
  its = (s.by.beside.at tid).parts tx part found known

  reads : HoldsReads here inc tid tx part
  reads = its.reads unknown

  held : HoldsTid here inc tid tx (record (face_of work.node tid) { known = Some part })
  held = subst (λ (o : Option Participant). HoldsTid here inc tid tx (record (face_of work.node tid) { known = o })) known (of_tid stamp (book_at stamp before work) work.node s.held.holds tid tx found)

  member : (server : ServerNo) → is_kept server ≡ true → HoldsMember tx (at_server here server) inc (member_of part server)
  member server kept = held.members refl server kept

  learnt : (server : ServerNo) → is_kept server ≡ true → (c : Class) → class_of server.0 ≡ c → may_learn_still (part_of tx (at_server here server) inc) ≡ false
  learnt server kept classes.Recoverable is = (member server kept).learns (rw is refl) ∙ (ap (λ (c : Class). rules.is_to_learn c (member_of part server)) is ∙ (reads.readers server kept).unfresh (rw is refl) (all_read part read server kept (rw is refl)))
  learnt server kept classes.Volatile is = (member server kept).learns (rw is refl) ∙ (ap (λ (c : Class). rules.is_to_learn c (member_of part server)) is ∙ (reads.readers server kept).unfresh (rw is refl) (all_read part read server kept (rw is refl)))
  learnt server kept classes.Standard is = (member server kept).learns (rw is refl) ∙ (ap (λ (c : Class). rules.is_to_learn c (member_of part server)) is ∙ stale (member_of part server).fresh ((reads.readers server kept).told (rw is refl)))
    where
      stale : (b : Bool) → (b ≡ true → part.involved ≡ true) → b ≡ false
      stale false e = refl
      stale true e = absurd (clash (sym uninvolved ∙ e refl))
  learnt server kept classes.Delayed is = (member server kept).learns (rw is refl) ∙ (ap (λ (c : Class). rules.is_to_learn c (member_of part server)) is ∙ stale (member_of part server).fresh ((reads.readers server kept).told (rw is refl)))
    where
      stale : (b : Bool) → (b ≡ true → part.involved ≡ true) → b ≡ false
      stale false e = refl
      stale true e = absurd (clash (sym uninvolved ∙ e refl))
  learnt server kept classes.Immediate is = unlearning (part_of tx (at_server here server) inc) ((member server kept).ends (rw is refl) ∙ unended part quiet.due server (rw is refl))
  learnt server kept classes.Activity is = absurd (no_client server.0 kept is)

  pub only_read_there : HasOnlyRead here inc tid tx
  only_read_there = record {
    covers = λ server kept two. (reads.readers server kept).anew two (all_read part read server kept two);
    learns = λ server kept. learnt server kept (class_of server.0) refl;
    ends = λ server kept is. (member server kept).ends is ∙ unended part quiet.due server is;
    sent = λ peer apart. held.sent refl peer apart ∙ quiet.unsent peer;
    noted = λ count one. no_note count one (has_note tx (record { node = here; inc = inc; text = note_text tid here.0 count })) refl;
  }
    where
      none_pending : (k p : ℕ) → 1 ≤ k → k ≤ p → p ≡ 0 → ⊥
      none_pending k p one most none = grind (arith, one, most, none)

      no_note : (count : ℕ) → 1 ≤ count → (b : Bool) → has_note tx (record { node = here; inc = inc; text = note_text tid here.0 count }) ≡ b → b ≡ false
      no_note count one false is = refl
      no_note count one true is = absurd (none_pending count (part_of tx (at_server here rules.files_no) inc).pending one (reads.counted count one (its.notes.served count one is))
          (reads.unchanged (all_read part read rules.files_no refl refl)))
