-- What a client's command is given, as it comes and while it waits: what a client here owns runs here, what is lent here is known and not
-- committed, and a request fits the run.
use Rattle.qs_world_lawful.proofs.Words.{◌≡◌, ℕ, ◌==◌, Bool, true, false, List, [], ◌∷◌, Option, Some, None, refl, sym, ap, subst, ◌∙◌, arith, nat_lt, nat_tests, is_at, list_any, lookup, not, ◌||◌, is_some, if◌then◌else◌, same_tid-true, same_tid-self, same_tid, ClientNo, Member, NodeNo, Tid, same_node, ScriptLine, last_taken, KeptLabel, Lent, BookValue, Op, kept_outcome, is_aborted, label_at, is_lent, Work, client_cmp, OpenCommand, Participant, ComesLine, book_at, MayRequest, MayWait, IsCommand}
use Rattle.qs_world_lawful.proofs.Words.{IsRunning, StandsBy, eqb-self}
use Rattle.qs_ipc.specs.Queue.{is_for}
use Rattle.qs_node_kept.specs.Loans.{is_loan_of, is_standing_loan, is_taken}
use Rattle.qs_node_step.specs.State.{NodeValue}
use Rattle.qs_tm.specs.Manager as tm
use Rattle.qs_world_lawful.specs.Agreed.{AreLentUndone}
use Rattle.qs_world_lawful.specs.GivenStep.{IsLentHere, IsLentTo, IsUndecidedOfNow, MayCommand}
use Rattle.qs_world_lawful.proofs.FactsLabelled.{command_in}
use Rattle.qs_world_lawful.proofs.GivenSettling.{uncommitted}
use Rattle.qs_world_lawful.proofs.Truths.{left_true, of_some, right_true}
use Rattle.qs_base_lemmas.proofs.Tests.{not_implied}

-- ---- loans

-- the present loan is one of those that were made, of that transaction
taken_in : (client : ClientNo) (tid : Tid) (test : Lent → Bool) (loan : Lent) (loans : List Lent) → last_taken client tid loans ≡ Some loan → test loan ≡ true → (list_any test loans ≡ true) × (same_tid loan.tid tid ≡ true)
taken_in client tid test loan [] found is = absurd (cc found)
taken_in client tid test loan (x ∷ xs) found is = by (last_taken client tid xs) (λ f. taken_in client tid test loan xs f is) found
  where
    or_right : (b : Bool) → list_any test xs ≡ true → (b || list_any test xs) ≡ true
    or_right true h = refl
    or_right false h = h

    first : (b : Bool) → is_taken client tid x ≡ b → (if b then Some x else None) ≡ Some loan → ((test x || list_any test xs) ≡ true) × (same_tid loan.tid tid ≡ true)
    first true taken found = (rw (subst (λ (y : Lent). test y ≡ true) (sym (of_some found)) is) refl, subst (λ (y : Lent). same_tid y.tid tid ≡ true) (of_some found) (right_true (x.client.0 == client.0) (same_tid x.tid tid) (left_true (is_loan_of client tid x) x.taken taken)))
    first false untaken found = absurd (cc found)

    by : (o : Option Lent) → (o ≡ Some loan → (list_any test xs ≡ true) × (same_tid loan.tid tid ≡ true)) → (elim o [ Some other ↦ Some other | None ↦ if is_taken client tid x then Some x else None ]) ≡ Some loan → ((test x || list_any test xs) ≡ true) × (same_tid loan.tid tid ≡ true)
    by None rest found = first (is_taken client tid x) refl found
    by (Some other) rest found = (or_right (test x) (rest found).0, (rest found).1)

module _ (stamp : ℕ) (before : BookValue) (size : ℕ) (nodes : ℕ → NodeValue) (n : ℕ) (work : Work) (s : StandsBy stamp before size nodes n work) where
  -- ---- what is owned here

  owned_now : (label : List ℕ) (begun : KeptLabel) (tid : Tid) (client : ClientNo) → label_at label work.node ≡ Some begun → begun.tid ≡ Some tid → begun.owner ≡ Some client → IsUndecidedOfNow work tid
  owned_now label begun tid client known of owned part there undecided = (s.facts.parts tid part there).began at_home undecided
    where
      at_home : part.engage.home ≡ true
      at_home = (s.facts.parts tid part there).homed ∙ (ap (λ (k : NodeNo). same_node k work.node.setting.node) (s.facts.labels.homed label begun tid client known of owned) ∙ eqb-self work.node.setting.node.0)

  -- ---- what is lent here

  lent_here : (client : ClientNo) (tid : Tid) → AreLentUndone size nodes n work → IsLentTo client work tid → IsLentHere stamp before work tid
  lent_here client tid undone lent = by (tm.part_of tid work.node.manager) refl (undone tid stands).0
    where
      valid : (not (lent.loan.inc == work.node.setting.inc) || is_aborted tid work.node) ≡ false
      valid = lent.valid

      now : (lent.loan.inc == work.node.setting.inc) ≡ true
      now = not_implied (lent.loan.inc == work.node.setting.inc) (is_aborted tid work.node) valid

      its : (list_any (is_standing_loan lent.loan.tid work.node.setting.inc) work.node.kept.now.loans ≡ true) × (same_tid lent.loan.tid tid ≡ true)
      its = taken_in client tid (is_standing_loan lent.loan.tid work.node.setting.inc) lent.loan work.node.kept.now.loans lent.taken (rw (same_tid-self lent.loan.tid, lent.stands, now) refl)

      stands : is_lent tid work.node ≡ true
      stands = subst (λ (t : Tid). is_lent t work.node ≡ true) (same_tid-true lent.loan.tid tid its.1) its.0

      by : (o : Option Participant) → tm.part_of tid work.node.manager ≡ o → is_some o ≡ true → IsLentHere stamp before work tid
      by None known there = absurd (cc there)
      by (Some part) known there = record { part = part; known = known; open_still = uncommitted stamp before size nodes n work s tid (undone tid stands).1 }

  -- ---- requests

  request_of : (tid : Tid) (member : Member) (op : Op) → (is_for member.server op ≡ true) × (nat_lt member.node.0 work.node.setting.nodes ≡ true) → MayRequest work tid member op
  request_of tid member op fits = record {
    fits = fits.0;
    in_run = fits.1;
    slot = λ part known. let slots = (s.facts.parts tid part known).slots in let small = s.facts.setting.small in let in_run = fits.1 in grind (arith, nat_tests, slots, small, in_run);
  }

  below : (k : ℕ) → nat_lt k 64 ≡ true → nat_lt k 224 ≡ true
  below k is = grind (arith, nat_tests, is)

  -- a command that stayed open is looked at
  pub may_wait : AreLentUndone size nodes n work → (client : ClientNo) → nat_lt client.0 64 ≡ true → MayWait stamp before work client
  may_wait undone client small = record {
    small = below client.0 small;
    of_now = λ command begun tid waits known of owned. owned_now command.line.label begun tid client known of owned;
    requests = λ command tid member op waits is lent. (request_of tid member op ((fits_of command waits).fits member op is), lent_here client tid undone lent);
  }
    where
      fits_of : (command : OpenCommand) → lookup (is_at (client_cmp client)) work.node.commands ≡ Some command → IsCommand work.node.setting client command
      fits_of command waits = command_in (λ (entry : ClientNo × OpenCommand). IsCommand work.node.setting entry.0 entry.1) client command work.node.commands s.facts.commands waits

  -- a line comes
  pub may_command : AreLentUndone size nodes n work → (line : ScriptLine) → ComesLine (book_at stamp before work) work.node line → MayCommand stamp before work line
  may_command undone line comes = record {
    free = comes.free;
    behind = comes.behind;
    small = below line.client.0 comes.small;
    fresh = comes.fresh;
    of_now = λ begun tid known of owned kept. (s.facts.labels.homed line.label begun tid line.client known of owned, running_now begun tid known of owned kept);
    undecided = λ begun tid known of owned. owned_now line.label begun tid line.client known of owned;
    runs = λ begun tid known of owned kept. let r = s.facts.labels.runs line.label begun tid line.client known of owned kept in (r.part, r.known, r.undecided);
    requests = λ begun tid member op known of is. request_of tid member op (comes.fits member op is);
    lent = λ begun tid member op known of other is lent. lent_here line.client tid undone lent;
  }
    where
      running_now : (begun : KeptLabel) (tid : Tid) → label_at line.label work.node ≡ Some begun → begun.tid ≡ Some tid → begun.owner ≡ Some line.client → kept_outcome tid work.node ≡ None → tid.inc ≡ work.node.setting.inc
      running_now begun tid known of owned kept = let r : IsRunning work.node.manager tid = s.facts.labels.runs line.label begun tid line.client known of owned kept in owned_now line.label begun tid line.client known of owned r.part r.known r.undecided
