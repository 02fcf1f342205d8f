-- At a node where nothing of a transaction is open its present lives agree.
use Rattle.qs_world_runs.proofs.Words.{◌≡◌, inl, inr, ℕ, ◌≤◌, ◌==◌, ◌&&◌, ◌||◌, not, nat_lt, Bool, true, false, List, [], ◌∷◌, Option, Some, length, suc, is_some, refl, sym, ap, subst, ◌∙◌, arith, if◌then◌else◌, nat_tests, filter, list_any, same_tid, Class, ClientNo, NodeNo, ServerNo, Tid, is_standing_loan, Lent, BookValue, find_transaction, TransactionValue, agrees_in, is_commit, Cell, Life, Part, class_of, is_two_phase, client_no, is_client_no, names_no, member_of, at_server, face_of}
use Rattle.qs_world_runs.proofs.Words.{is_loan_in, HoldsAt, HoldsTid, HoldsStill, Field, IsLife, IsMember, and_from, or_parts, eq-eqb}
use Rattle.qs_base.specs.declared.identifiers.Class.TheVariants as classes
use Rattle.qs_book_machine.specs.Transaction.{borrower, is_open, part_of}
use Rattle.qs_book_machine.specs.declared.transaction.Cell.TheVariants as cells
use Rattle.qs_ops.specs.Servers.{timers_no, windows_no, scratch_no}
use Rattle.qs_node_step.specs.State.{NodeValue}
use Rattle.qs_world_lawful.specs.Face.{Face, part_in, is_held, is_given_back, is_loan_here}
use Rattle.qs_world_lawful.specs.Holds.{HoldsMember}
use Rattle.qs_world_runs.specs.PlacedLaws.{IsFree, FreeAgrees}

-- ---- loans: where none stands, as many were given back as were made

module _ (tid : Tid) (inc : ℕ) (client : ClientNo) where
  all_back : (loans : List Lent) → list_any (is_standing_loan tid inc) loans ≡ false
      → length (filter (is_given_back client inc) (filter (is_loan_in tid) loans)) ≡ length (filter (is_loan_here client inc) (filter (is_loan_in tid) loans))
  all_back [] none = refl
  all_back (loan ∷ loans) none = by (same_tid tid loan.tid) (loan.client.0 == client.0) (loan.inc == inc) loan.yielded refl refl refl refl both.0 (all_back loans both.1)
    where
      both : (is_standing_loan tid inc loan ≡ false) × (list_any (is_standing_loan tid inc) loans ≡ false)
      both = or_parts (is_standing_loan tid inc loan) (list_any (is_standing_loan tid inc) loans) none

      by : (s c i y : Bool) → same_tid tid loan.tid ≡ s → (loan.client.0 == client.0) ≡ c → (loan.inc == inc) ≡ i → loan.yielded ≡ y → (s && (not y && i)) ≡ false
          → length (filter (is_given_back client inc) (filter (is_loan_in tid) loans)) ≡ length (filter (is_loan_here client inc) (filter (is_loan_in tid) loans))
          → length (filter (is_given_back client inc) (filter (is_loan_in tid) (loan ∷ loans))) ≡ length (filter (is_loan_here client inc) (filter (is_loan_in tid) (loan ∷ loans)))
      by false c i y s_is c_is i_is y_is off more = rw s_is more
      by true false i y s_is c_is i_is y_is off more = rw (s_is, c_is) more
      by true true false y s_is c_is i_is y_is off more = rw (s_is, c_is, i_is) more
      by true true true true s_is c_is i_is y_is off more = rw (s_is, c_is, i_is, y_is) (ap (λ (n : ℕ). suc n) more)
      by true true true false s_is c_is i_is y_is off more = absurd (cc off)

-- ---- classes

pub low_class : (s : ℕ) → nat_lt s 7 ≡ true → class_of s ≡ classes.Activity → ⊥
low_class s low is = by (s == names_no) (s == timers_no) (s == windows_no) (s == scratch_no) (is_client_no s) (grind (arith, nat_tests, low)) is
  where
    by : (a b c d e : Bool) → e ≡ false → (if a then classes.Volatile else if b then classes.Immediate else if c then classes.Standard else if d then classes.Delayed else if e then classes.Activity else classes.Recoverable) ≡ classes.Activity → ⊥
    by true b c d e off so = cc so
    by false true c d e off so = cc so
    by false false true d e off so = cc so
    by false false false true e off so = cc so
    by false false false false true off so = cc off
    by false false false false false off so = cc so

pub client_class : (c : ℕ) → class_of (client_no c) ≡ classes.Activity
client_class c = by (client_no c == names_no) (client_no c == timers_no) (client_no c == windows_no) (client_no c == scratch_no) (is_client_no (client_no c))
    (grind (arith, nat_tests)) (grind (arith, nat_tests)) (grind (arith, nat_tests)) (grind (arith, nat_tests)) (grind (arith, nat_tests))
  where
    by : (a b c d e : Bool) → a ≡ false → b ≡ false → c ≡ false → d ≡ false → e ≡ true → (if a then classes.Volatile else if b then classes.Immediate else if c then classes.Standard else if d then classes.Delayed else if e then classes.Activity else classes.Recoverable) ≡ classes.Activity
    by a b c d e p q r s t = rw (p, q, r, s, t) refl

module _ (book : BookValue) (tid : Tid) (tx : TransactionValue) (field : Field) (node : NodeValue) (found : find_transaction book tid ≡ Some tx) (undecided : is_open tx.cell ≡ true) (h : HoldsStill book node) (free : IsFree tid node) where
  abbrev here : NodeNo
  here = node.setting.node

  abbrev inc : ℕ
  inc = node.setting.inc

  abbrev face : Face
  face = face_of node tid

  its : HoldsTid here inc tid tx face
  its = subst (λ (o : Option TransactionValue). HoldsAt here inc tid o face) found (h.at tid)

  held : is_held tx face ≡ true
  held = by tx.cell (is_some face.known) undecided
    where
      by : (c : Cell) (k : Bool) → is_open c ≡ true → (k || not (is_commit c)) ≡ true
      by cells.Open true is = refl
      by cells.Open false is = refl
      by cells.Commit k is = absurd (cc is)
      by cells.Abort k is = absurd (cc is)

  -- a server voted for all that it served
  voted : (server : ServerNo) (part : Part) → nat_lt server.0 7 ≡ true → is_two_phase (class_of server.0) ≡ true → part_of tx (at_server here server) inc ≡ part → part.covered ≡ part.voted → part.covered ≡ part.served
  voted server part low two is cast = cast ∙ same part.voted part.served (subst (λ (p : Part). p.voted ≤ p.served) is m.voted) (subst (λ (p : Part). nat_lt p.voted p.served ≡ false) is not_due)
    where
      m : HoldsMember tx (at_server here server) inc (member_of (part_in face) server)
      m = its.members held server low

      not_due : nat_lt (part_of tx (at_server here server) inc).voted (part_of tx (at_server here server) inc).served ≡ false
      not_due = (m.votes two).is_due ∙ ap (λ (b : Bool). not b) (free.covers server low two)

      same : (a b : ℕ) → a ≤ b → nat_lt a b ≡ false → a ≡ b
      same a b below off = grind (arith, nat_tests, below, off)

  -- a client gave back each loan
  given : (client : ClientNo) (part : Part) → nat_lt client.0 224 ≡ true → part_of tx (borrower client here) inc ≡ part → part.yielded ≡ part.made
  given client part low is = ap (λ (p : Part). p.yielded) (sym is) ∙ (its.yielded client low ∙ (all_back tid inc client node.kept.now.loans free.unlent ∙ (sym (its.made client low) ∙ ap (λ (p : Part). p.made) is)))

  at_class : (l : Life) (part : Part) → IsLife tx field l part → l.member.node ≡ here → l.inc ≡ inc → (c : Class) → class_of l.member.server.0 ≡ c → agrees_in c part ≡ true
  at_class l part life at now c is = by c is life.member
    where
      part_is : (server : ServerNo) → l.member.server ≡ server → part_of tx (at_server here server) inc ≡ part
      part_is server same = subst (λ (n : NodeNo). part_of tx (at_server n server) inc ≡ part) at (subst (λ (s : ServerNo). part_of tx (at_server l.member.node s) inc ≡ part) same (subst (λ (i : ℕ). part_of tx l.member i ≡ part) now life.kept))

      two_phase : (c : Class) → is_two_phase c ≡ true → class_of l.member.server.0 ≡ c → IsMember l.member.server → (part.covered == part.served) ≡ true
      two_phase c two is (inl low) = eq-eqb part.covered part.served (voted l.member.server part low (ap is_two_phase is ∙ two) (part_is l.member.server refl) (life.cast (ap is_two_phase is ∙ two)))
      two_phase c two is (inr client) = absurd (let one : is_two_phase (class_of l.member.server.0) ≡ true = ap is_two_phase is ∙ two in
          let other : is_two_phase (class_of l.member.server.0) ≡ false = ap (λ (s : ℕ). is_two_phase (class_of s)) client.2 ∙ ap is_two_phase (client_class client.0.0) in cc (one, other))

      activity : class_of l.member.server.0 ≡ classes.Activity → IsMember l.member.server → ((part.made == part.served) && (part.yielded == part.made)) ≡ true
      activity is (inl low) = absurd (low_class l.member.server.0 low is)
      activity is (inr client) = and_from (part.made == part.served) (part.yielded == part.made) (eq-eqb part.made part.served (life.made is))
          (eq-eqb part.yielded part.made (given client.0 part client.1 (part_is (record { 0 = client_no client.0.0 }) (ap (λ (s : ℕ). server_of s) client.2))))
        where
          server_of : ℕ → ServerNo
          server_of s = record { 0 = s }

      by : (c : Class) → class_of l.member.server.0 ≡ c → IsMember l.member.server → agrees_in c part ≡ true
      by classes.Recoverable is m = two_phase classes.Recoverable refl is m
      by classes.Volatile is m = two_phase classes.Volatile refl is m
      by classes.Activity is m = activity is m
      by classes.Immediate is m = refl
      by classes.Standard is m = refl
      by classes.Delayed is m = refl

pub free_agrees : FreeAgrees
free_agrees book tid tx field node l part found undecided h free life at now = at_class book tid tx field node found undecided h free l part life at now (class_of l.member.server.0) refl
