-- Each request that a two-phase member served stands before a vote of it for commit, where in the end all members agree.
use Rattle.qs_book_laws.proofs.Words.{◌≡◌, ℕ, ◌+◌, ◌<◌, ◌≤◌, ◌==◌, ◌&&◌, Bool, true, false, not, Option, Some, None, refl, sym, subst, if◌then◌else◌, arith, unwrap_or, list_all, lookup, is_at, same_tid, same_member, Class, Member, Outcome, Tid, class_of, is_two_phase, Vote, Act, Begin, Issue, Serve, Ask, Counted, Decide, Ending, Learn, Loan, Yield, Tick, Crash, Restart, TransactionValue, part_of, no_part, life, life_cmp, agrees, agrees_in, serving_part, voted_part, learnt_part, Life, Part}
use Rattle.qs_book_laws.proofs.Words.{is_done, borrower_at}
use Rattle.qs_base.specs.declared.identifiers.Class.TheVariants as classes
use Rattle.qs_base.specs.declared.identifiers.Outcome.TheVariants as outcomes
use Rattle.qs_ops.specs.declared.vote.Vote.TheVariants as votes
use Rattle.qs_book_journal.specs.declared.entry.Act.TheVariants.{Answer}
use Rattle.qs_book_journal.specs.declared.entry.Act.TheVariants as acts
use Rattle.qs_book_laws.specs.Unanimity.{is_against, votes_for}
use Rattle.qs_book_laws.proofs.Counts.{life_exact}
use Rattle.qs_book_laws.proofs.Found.{entry_passes}
use Rattle.qs_book_laws.proofs.Holding.{left_of, right_of, same_number}
use Rattle.qs_book_laws.proofs.Parts.{is_own, part_for, part_after}
use Rattle.qs_base_lemmas.proofs.Tests.{lt_le}

-- ---- what all agree on

pub agreed : (member : Member) (inc : ℕ) (tx : TransactionValue) → list_all agrees tx.parts ≡ true → agrees_in (class_of member.server.0) (part_of tx member inc) ≡ true
agreed member inc tx all = by (lookup (is_at (life_cmp (life member inc))) tx.parts) refl
  where
    none : (class : Class) → agrees_in class no_part ≡ true
    none classes.Recoverable = refl
    none classes.Volatile = refl
    none classes.Immediate = refl
    none classes.Standard = refl
    none classes.Delayed = refl
    none classes.Activity = refl

    by : (o : Option Part) → lookup (is_at (life_cmp (life member inc))) tx.parts ≡ o → agrees_in (class_of member.server.0) (unwrap_or o no_part) ≡ true
    by None found = none (class_of member.server.0)
    by (Some part) found =
        let at : (k : Life) × (is_at (life_cmp (life member inc)) k ≡ true) × (agrees (k, part) ≡ true) = entry_passes (is_at (life_cmp (life member inc))) agrees tx.parts part found all in
        let same : life member inc ≡ at.0 = life_exact (life member inc) at.0 at.1 in
        subst (λ (l : Life). agrees (l, part) ≡ true) (sym same) at.2

-- a vote is owed: something was served since the last vote for commit
abbrev pub IsOwed : Part → Type 0
IsOwed part = part.covered < part.served

pub two_covers : (class : Class) (part : Part) → is_two_phase class ≡ true → agrees_in class part ≡ true → part.covered ≡ part.served
two_covers classes.Recoverable part two h = same_number part.covered part.served h
two_covers classes.Volatile part two h = same_number part.covered part.served h
two_covers classes.Immediate part two h = absurd (cc two)
two_covers classes.Standard part two h = absurd (cc two)
two_covers classes.Delayed part two h = absurd (cc two)
two_covers classes.Activity part two h = absurd (cc two)

-- ---- what leaves a vote owed

pub served_is : (class : Class) (stamp : ℕ) (done : Bool) (part : Part) → (serving_part class stamp done part).served ≡ part.served + 1
served_is classes.Recoverable stamp done part = refl
served_is classes.Volatile stamp done part = refl
served_is classes.Immediate stamp done part = refl
served_is classes.Standard stamp done part = refl
served_is classes.Delayed stamp done part = refl
served_is classes.Activity stamp done part = refl

pub covered_is : (class : Class) (stamp : ℕ) (done : Bool) (part : Part) → (serving_part class stamp done part).covered ≡ part.covered
covered_is classes.Recoverable stamp done part = refl
covered_is classes.Volatile stamp done part = refl
covered_is classes.Immediate stamp done part = refl
covered_is classes.Standard stamp done part = refl
covered_is classes.Delayed stamp done part = refl
covered_is classes.Activity stamp done part = refl

more : (a b c d : ℕ) → c ≡ a → d ≡ b + 1 → a ≤ b → c < d
more a b c d p q h = omega arith

pub owes_more : (class : Class) (stamp : ℕ) (done : Bool) (part : Part) → part.covered ≤ part.served → IsOwed (serving_part class stamp done part)
owes_more class stamp done part h =
    more part.covered part.served (serving_part class stamp done part).covered (serving_part class stamp done part).served (covered_is class stamp done part) (served_is class stamp done part) h

against_owes : (ballot : Vote) (part : Part) → is_against ballot ≡ true → IsOwed part → IsOwed (voted_part ballot part)
against_owes (votes.Abort reason) part is h = h
against_owes votes.ReadOnly part is h = absurd (cc is)
against_owes votes.Volatile part is h = absurd (cc is)
against_owes votes.Recoverable part is h = absurd (cc is)

learnt_owes : (outcome : Outcome) (part : Part) → IsOwed part → IsOwed (learnt_part outcome part)
learnt_owes outcomes.Commit part h = h
learnt_owes outcomes.Abort part h = h

choose : (b : Bool) (x y : Part) → (b ≡ true → IsOwed x) → IsOwed y → IsOwed (if b then x else y)
choose true x y p q = p refl
choose false x y p q = q

choose_for : (tid : Tid) (member : Member) (inc : ℕ) (t : Tid) (o : Option Member) (now : ℕ) (f : Part → Part) (part : Part) → IsOwed (f part) → IsOwed part → IsOwed (part_for tid member inc t o now f part)
choose_for tid member inc t None now f part p q = q
choose_for tid member inc t (Some other) now f part p q = choose (is_own tid member inc t other now) (f part) part (λ own. p) q

module _ (tid : Tid) (member : Member) (inc : ℕ) where
  -- an act that is no vote of its for commit in this life
  pub still_owed : (now stamp here : ℕ) (act : Act) (part : Part) → ((now == inc) ≡ true → votes_for tid member act ≡ false) → IsOwed part → IsOwed (part_after tid member inc now stamp here act part)
  still_owed now stamp here (Serve t other from n reply) part not_for h =
      choose (is_own tid member inc t other now) (serving_part (class_of other.server.0) stamp (is_done reply) part) part (λ own. owes_more (class_of other.server.0) stamp (is_done reply) part (lt_le part.covered part.served h)) h
  still_owed now stamp here (acts.Vote t other ballot covers) part not_for h = choose (is_own tid member inc t other now) (voted_part ballot part) part (λ own. against_owes ballot part (it_is own (is_against ballot) refl) h) h
    where
      it_is : is_own tid member inc t other now ≡ true → (b : Bool) → is_against ballot ≡ b → b ≡ true
      it_is own true is = refl
      it_is own false is =
          let mine : same_tid t tid ≡ true = left_of (same_tid t tid) (same_member other member && (now == inc)) own in
          let rest : (same_member other member && (now == inc)) ≡ true = right_of (same_tid t tid) (same_member other member && (now == inc)) own in
          let its : same_member other member ≡ true = left_of (same_member other member) (now == inc) rest in
          let none : ((same_tid t tid && same_member other member) && not (is_against ballot)) ≡ false = not_for (right_of (same_member other member) (now == inc) rest) in
          let no : ((true && true) && not false) ≡ false = rw (mine, its, is) at none in
          absurd (cc no)
  still_owed now stamp here (Ending t other) part not_for h = choose (is_own tid member inc t other now) _ part (λ own. h) h
  still_owed now stamp here (Learn t other outcome) part not_for h = choose (is_own tid member inc t other now) (learnt_part outcome part) part (λ own. learnt_owes outcome part h) h
  still_owed now stamp here (Loan t client) part not_for h = choose_for tid member inc t (borrower_at client here) now _ part h h
  still_owed now stamp here (Yield t client) part not_for h = choose_for tid member inc t (borrower_at client here) now _ part h h
  still_owed now stamp here act part not_for h = h
