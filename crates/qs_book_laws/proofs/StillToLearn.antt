-- The part of a member that is still to learn how a transaction ends: what keeps it so.
use Rattle.qs_book_laws.proofs.Words.{◌≡◌, ℕ, ◌≤◌, ◌==◌, ◌+◌, ◌&&◌, not, Bool, true, false, Option, Some, None, refl, sym, ap, subst, [], arith, if◌then◌else◌, le_refl, nat_tests, same_member, same_tid, Class, Member, Outcome, Tid, Act, BookValue, find_transaction, is_done, borrower_at, TransactionValue, is_abort, is_crossed, learnt_part, may_learn_still, part_of, serving_part, voted_part, Part, class_of, Vote, held_at, is_share, lets_go, le_one_more}
use Rattle.qs_base.specs.declared.identifiers.Class.TheVariants as classes
use Rattle.qs_base.specs.declared.identifiers.Outcome.TheVariants as outcomes
use Rattle.qs_book_journal.specs.declared.entry.Act.TheVariants as acts
use Rattle.qs_book_machine.specs.Transaction.{is_let_go}
use Rattle.qs_ops.specs.declared.vote.Vote.TheVariants as votes
use Rattle.qs_book_laws.proofs.Begun.{inc_in}
use Rattle.qs_book_laws.proofs.FoundParts.{IsFoundPart}
use Rattle.qs_book_laws.proofs.Leaves.{serves_on}
use Rattle.qs_book_laws.proofs.Parts.{is_own, part_after, part_for}
use Rattle.qs_book_laws.proofs.Shares.{number}
use Rattle.qs_base_lemmas.proofs.Tests.{never_both}

-- ---- a part: its votes stand for at most what it served

abbrev pub IsMost : Part → Type 0
IsMost part = part.voted ≤ part.served

pub covers_each : (tid : Tid) (member : Member) (inc now stamp here : ℕ) (act : Act) (part : Part) → IsMost part → IsMost (part_after tid member inc now stamp here act part)
covers_each tid member inc now stamp here act part most = of act
  where
    choose : (b : Bool) (f : Part) → IsMost f → IsMost (if b then f else part)
    choose true f p = p
    choose false f p = most

    serves : (c : Class) (done : Bool) → IsMost (serving_part c stamp done part)
    serves classes.Activity done = le_one_more part.voted part.served most
    serves classes.Recoverable done = le_one_more part.voted part.served most
    serves classes.Volatile done = le_one_more part.voted part.served most
    serves classes.Standard done = le_one_more part.voted part.served most
    serves classes.Delayed done = le_one_more part.voted part.served most
    serves classes.Immediate done = le_one_more part.voted part.served most

    votes_for : (ballot : Vote) → IsMost (voted_part ballot part)
    votes_for (votes.Abort reason) = le_refl part.served
    votes_for votes.ReadOnly = le_refl part.served
    votes_for votes.Volatile = le_refl part.served
    votes_for votes.Recoverable = le_refl part.served

    learns : (outcome : Outcome) → IsMost (learnt_part outcome part)
    learns outcomes.Commit = most
    learns outcomes.Abort = most

    for : (t : Tid) (o : Option Member) (f : Part → Part) → IsMost (f part) → IsMost (part_for tid member inc t o now f part)
    for t None f p = most
    for t (Some other) f p = choose (is_own tid member inc t other now) (f part) p

    of : (act : Act) → IsMost (part_after tid member inc now stamp here act part)
    of (acts.Serve t other from n reply) = choose (is_own tid member inc t other now) _ (serves (class_of other.server.0) (is_done reply))
    of (acts.Vote t other ballot covers) = choose (is_own tid member inc t other now) _ (votes_for ballot)
    of (acts.Ending t other) = choose (is_own tid member inc t other now) _ most
    of (acts.Learn t other outcome) = choose (is_own tid member inc t other now) _ (learns outcome)
    of (acts.Loan t client) = for t (borrower_at client here) _ most
    of (acts.Yield t client) = for t (borrower_at client here) _ most
    of act = most

-- ---- a part that is still to learn

abbrev pub IsUnlearnt : Part → Type 0
IsUnlearnt part = may_learn_still part ≡ true

unlearnt_due : (part : Part) → IsUnlearnt part → part.due ≡ true
unlearnt_due part is = by part.due (is_let_go part) is
  where
    by : (a b : Bool) → (a && not b) ≡ true → a ≡ true
    by true b e = refl
    by false b e = absurd (cc e)

-- one that serves is, and one that votes to commit or against it stays so
pub serves_unlearnt : (c : Class) (stamp : ℕ) (done : Bool) (part : Part) → c ≡ classes.Recoverable → IsMost part → IsUnlearnt (serving_part c stamp done part)
serves_unlearnt c stamp done part is most = rw is (by part.read_only (part.voted == part.served + 1) (apart part.voted part.served most))
  where
    apart : (n m : ℕ) → n ≤ m → (n == m + 1) ≡ false
    apart n m h = grind (arith, nat_tests, h)

    by : (a b : Bool) → b ≡ false → (true && not (a && b)) ≡ true
    by true b e = rw e refl
    by false b e = refl

votes_unlearnt : (ballot : Vote) (part : Part) → (ballot ≡ votes.ReadOnly → ⊥) → IsUnlearnt part → IsUnlearnt (voted_part ballot part)
votes_unlearnt (votes.Abort reason) part off is = rw (unlearnt_due part is) refl
votes_unlearnt votes.ReadOnly part off is = absurd (off refl)
votes_unlearnt votes.Volatile part off is = rw (unlearnt_due part is) refl
votes_unlearnt votes.Recoverable part off is = rw (unlearnt_due part is) refl

pub recoverable : (c : Bool) (s : ℕ) → s ≡ number c → class_of s ≡ classes.Recoverable
recoverable true s is = ap class_of is
recoverable false s is = ap class_of is

-- one that was found is
pub found_unlearnt : (part : Part) → IsFoundPart part → IsUnlearnt part
found_unlearnt part is = subst IsUnlearnt (sym is.2) refl

-- what an act leaves so, that serves nothing there, lets nothing go and ends nothing
module _ (tid : Tid) (member : Member) (inc now stamp here : ℕ) (part : Part) (is : IsUnlearnt part) where
  on_or : (b : Bool) (f : Part) → (b ≡ true → IsUnlearnt f) → IsUnlearnt (if b then f else part)
  on_or true f p = p refl
  on_or false f p = is

  on_for : (t : Tid) (o : Option Member) (f : Part → Part) → IsUnlearnt (f part) → IsUnlearnt (part_for tid member inc t o now f part)
  on_for t None f p = is
  on_for t (Some other) f p = on_or (is_own tid member inc t other now) (f part) (λ own. p)

  own_share : (t : Tid) (other : Member) → is_own tid member inc t other now ≡ true → is_share tid member t other ≡ true
  own_share t other own = by (same_tid t tid) (same_member other member) (now == inc) own
    where
      by : (a b c : Bool) → (a && (b && c)) ≡ true → (a && b) ≡ true
      by true true c e = refl
      by true false c e = absurd (cc e)
      by false b c e = absurd (cc e)

  pub stays_unlearnt : (at : ℕ) (act : Act) → serves_on tid member act ≡ false → lets_go tid member at act ≡ false → ((t : Tid) (other : Member) → act ≡ acts.Ending t other → is_share tid member t other ≡ true → ⊥) → IsUnlearnt (part_after tid member inc now stamp here act part)
  stays_unlearnt at (acts.Serve t other from n reply) idle holds ends = on_or (is_own tid member inc t other now) _ (λ own. absurd (never_both (is_share tid member t other) (own_share t other own) idle))
  stays_unlearnt at (acts.Vote t other ballot covers) idle holds ends = on_or (is_own tid member inc t other now) (voted_part ballot part) (λ own. votes_unlearnt ballot part (λ same. off ballot same (own_share t other own) holds) is)
    where
      off : (ballot : Vote) → ballot ≡ votes.ReadOnly → is_share tid member t other ≡ true → lets_go tid member at (acts.Vote t other ballot covers) ≡ false → ⊥
      off ballot same share holds = never_both (is_share tid member t other) share (subst (λ (b : Vote). lets_go tid member at (acts.Vote t other b covers) ≡ false) same holds)
  stays_unlearnt at (acts.Ending t other) idle holds ends = on_or (is_own tid member inc t other now) _ (λ own. absurd (ends t other refl (own_share t other own)))
  stays_unlearnt at (acts.Learn t other outcome) idle holds ends = on_or (is_own tid member inc t other now) _ (λ own. absurd (never_both (is_share tid member t other) (own_share t other own) holds))
  stays_unlearnt at (acts.Loan t client) idle holds ends = on_for t (borrower_at client here) _ is
  stays_unlearnt at (acts.Yield t client) idle holds ends = on_for t (borrower_at client here) _ is
  stays_unlearnt at act idle holds ends = is

-- ---- what is pending there is still to learn, whatever was served stands before or behind its votes

module _ (tid : Tid) (member : Member) where
  pub record Learning (book : BookValue) : Type 0 where
    pub most : (i : ℕ) (tx : TransactionValue) → find_transaction book tid ≡ Some tx → IsMost (part_of tx member i)
    pub waits : (tx : TransactionValue) (inc : ℕ) → find_transaction book tid ≡ Some tx → inc_in book member.node.0 ≡ Some inc → is_abort tx.cell ≡ false → is_crossed tx member ≡ false → (held_at book tid member ≡ [] → ⊥) → IsUnlearnt (part_of tx member inc)
