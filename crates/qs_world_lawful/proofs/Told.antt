-- What an owner may be told once its transaction is decided, and that it may be told still what it could.
use Rattle.qs_world_lawful.proofs.Words.{◌≡◌, Bool, true, false, List, [], ◌∷◌, Option, Some, None, Less, Equal, Greater, refl, sym, ◌∙◌, arith, nat_tests, ◌||◌, list_any, is_at, insert_key, Ordering, Outcome, Tid, same_bytes-self, same_member-self, Answer, Cause, Reason, told, is_known, Owner, outcome_answer, or-true}
use Rattle.qs_base.specs.declared.identifiers.Outcome.TheVariants as outcomes
use Rattle.qs_book_machine.proofs.CauseOrder.{among_causes}
use Rattle.qs_ops.specs.Alike.{same_cause, same_reason}
use Rattle.qs_ops.specs.declared.answer.Answer.TheVariants as answers
use Rattle.qs_ops.specs.declared.answer.Cause.TheVariants.{Asked, Voted, Gone, Home, Room, Old}
use Rattle.qs_ops.specs.declared.vote.Reason.TheVariants.{Quota, LogRoom, Taken, Code}
use Rattle.qs_book_machine.specs.Causes.{cause_cmp}
use Rattle.qs_world_lawful.proofs.Casting.{any_insert}

pub same_reason-self : (r : Reason) → same_reason r r ≡ true
same_reason-self (Quota bytes limit) = grind (arith, nat_tests)
same_reason-self (LogRoom need room) = grind (arith, nat_tests)
same_reason-self (Taken name) = same_bytes-self name
same_reason-self (Code code) = grind (arith, nat_tests)

same_cause-self : (c : Cause) → same_cause c c ≡ true
same_cause-self Asked = refl
same_cause-self (Voted member reason) = rw (same_member-self member, same_reason-self reason) refl
same_cause-self (Gone node inc) = grind (arith, nat_tests)
same_cause-self (Home inc) = grind (arith, nat_tests)
same_cause-self (Room need room) = grind (arith, nat_tests)
same_cause-self (Old age) = grind (arith, nat_tests)

-- a cause is among those that it was put to
any_put : {K : Type 0} (cmp : K → K → Ordering) (k : K) (xs : List K) → is_at (cmp k) k ≡ true → list_any (is_at (cmp k)) (insert_key cmp xs k) ≡ true
any_put cmp k [] self = rw self refl
any_put cmp k (x ∷ xs) self = by (cmp k x) refl (any_put cmp k xs self)
  where
    by : (r : Ordering) → cmp k x ≡ r → list_any (is_at (cmp k)) (insert_key cmp xs k) ≡ true → list_any (is_at (cmp k)) (insert_key cmp (x ∷ xs) k) ≡ true
    by Less is more = rw is (rw self refl)
    by Equal is more = rw is (rw is refl)
    by Greater is more = rw is (rw more (or-true (is_at (cmp k) x)))

itself : (c : Cause) → is_at (cause_cmp c) c ≡ true
itself c = one (is_at (cause_cmp c) c) (among_causes c (c ∷ []) ∙ alone)
  where
    one : (b : Bool) → (b || false) ≡ true → b ≡ true
    one true h = refl
    one false h = absurd (cc h)

    alone : (same_cause c c || false) ≡ true
    alone = rw (same_cause-self c) refl

pub among_own : (c : Cause) (causes : List Cause) → list_any (same_cause c) (insert_key cause_cmp causes c) ≡ true
among_own c causes = sym (among_causes c (insert_key cause_cmp causes c)) ∙ any_put cause_cmp c causes (itself c)

-- ---- what was known is known

pub known_still : (outcome : Outcome) (cause : Option Cause) (owner : Owner) (said : Answer) → is_known owner said ≡ true → is_known (told outcome cause owner) said ≡ true
known_still outcomes.Commit cause owner said h = of said h
  where
    of : (s : Answer) → is_known owner s ≡ true → is_known (record owner { committed = true }) s ≡ true
    of answers.Committed h = refl
    of (answers.Aborted c) h = h
    of answers.Done h = refl
    of (answers.Value text) h = refl
    of (answers.Left ticks) h = refl
    of (answers.Names list) h = refl
    of (answers.Notes list) h = refl
    of (answers.Busy holder) h = refl
    of answers.Absent h = refl
    of answers.TooMany h = refl
    of answers.TooLong h = refl
    of answers.Ended h = refl
    of answers.NotYours h = refl
    of answers.NotBegun h = refl
    of (answers.LogFull need room) h = refl
known_still outcomes.Abort None owner said h = h
known_still outcomes.Abort (Some cause) owner said h = of said h
  where
    of : (s : Answer) → is_known owner s ≡ true → is_known (record owner { causes = insert_key cause_cmp owner.causes cause }) s ≡ true
    of answers.Committed h = h
    of (answers.Aborted c) h = any_insert cause_cmp (same_cause c) cause owner.causes h
    of answers.Done h = refl
    of (answers.Value text) h = refl
    of (answers.Left ticks) h = refl
    of (answers.Names list) h = refl
    of (answers.Notes list) h = refl
    of (answers.Busy holder) h = refl
    of answers.Absent h = refl
    of answers.TooMany h = refl
    of answers.TooLong h = refl
    of answers.Ended h = refl
    of answers.NotYours h = refl
    of answers.NotBegun h = refl
    of (answers.LogFull need room) h = refl

-- and the outcome is known then
pub known_now : (tid : Tid) (outcome : Outcome) (cause : Option Cause) (owner : Owner) → is_known (told outcome cause owner) (outcome_answer (record { tid = tid; outcome = outcome; cause = cause })) ≡ true
known_now tid outcomes.Commit cause owner = refl
known_now tid outcomes.Abort None owner = refl
known_now tid outcomes.Abort (Some cause) owner = among_own cause owner.causes
