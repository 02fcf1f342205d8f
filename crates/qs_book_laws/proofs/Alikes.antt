-- What a test for the same cause or the same transaction tells.
use Rattle.qs_book_laws.proofs.Words.{ℕ, ◌≡◌, Bool, true, false, ◌||◌, List, [], ◌∷◌, refl, sym, ap, subst, arith, AllByRecursion, list_any, nat_tests, nat_cmp, is_at, Ordering, Less, Equal, Greater, tid_cmp, same_tid, Tid, same_member-true, same_tid-true, same_cause, Cause, exact_unsigned, exact_pairs, voter_cmp, Voter, tid_exact, tid_total, tied_itself, nat_cmp_total}
use Rattle.qs_base.proofs.Same.{same_bytes-true}
use Rattle.qs_ops.specs.Alike.{same_reason}
use Rattle.qs_ops.specs.declared.answer.Cause.TheVariants.{Asked, Voted, Gone, Home, Room, Old}
use Rattle.qs_ops.specs.declared.vote.Reason.{Reason}
use Rattle.qs_ops.specs.declared.vote.Reason.TheVariants.{Quota, LogRoom, Taken, Code}

pub same_reason-true : (r s : Reason) → same_reason r s ≡ true → r ≡ s
same_reason-true (Quota bytes limit) (Quota b l) h = grind (arith, nat_tests)
same_reason-true (LogRoom need room) (LogRoom n r) h = grind (arith, nat_tests)
same_reason-true (Taken name) (Taken other) h = ap Taken (same_bytes-true name other h)
same_reason-true (Code code) (Code other) h = grind (arith, nat_tests)
same_reason-true r s h = absurd (cc h)

pub same_cause-true : (c d : Cause) → same_cause c d ≡ true → c ≡ d
same_cause-true Asked Asked h = refl
same_cause-true (Voted member reason) (Voted m r) h = grind (arith, same_member-true member m, same_reason-true reason r)
same_cause-true (Gone node inc) (Gone n i) h = grind (arith, nat_tests)
same_cause-true (Home inc) (Home i) h = grind (arith, nat_tests)
same_cause-true (Room need room) (Room n r) h = grind (arith, nat_tests)
same_cause-true (Old age) (Old a) h = grind (arith, nat_tests)
same_cause-true c d h = absurd (cc h)

pub tid_itself : (t : Tid) → tid_cmp t t ≡ Equal
tid_itself t = tied_itself tid_total t

pub at_exact : (s t : Tid) → is_at (tid_cmp s) t ≡ true → s ≡ t
at_exact s t = by (tid_cmp s t) refl
  where
    by : (r : Ordering) → tid_cmp s t ≡ r → is_at (tid_cmp s) t ≡ true → s ≡ t
    by Less is h = absurd (cc (rw is at h))
    by Equal is h = tid_exact s t is
    by Greater is h = absurd (cc (rw is at h))

-- ---- who votes

pub voter_equal : (v w : Voter) → voter_cmp v w ≡ Equal → v ≡ w
voter_equal v w e =
    let pairs = exact_pairs tid_cmp nat_cmp tid_exact exact_unsigned (v.tid, v.server.0) (w.tid, w.server.0) e in
    ap made pairs
  where
    made : Tid × ℕ → Voter
    made p = record { tid = p.0; server = record { 0 = p.1 } }

pub voter_exact : (v w : Voter) → is_at (voter_cmp v) w ≡ true → v ≡ w
voter_exact v w = by (voter_cmp v w) refl
  where
    by : (r : Ordering) → voter_cmp v w ≡ r → is_at (voter_cmp v) w ≡ true → v ≡ w
    by Less is h = absurd (cc (rw is at h))
    by Equal is h = voter_equal v w is
    by Greater is h = absurd (cc (rw is at h))

pub voter_itself : (v : Voter) → voter_cmp v v ≡ Equal
voter_itself v = rw (tid_itself v.tid) (tied_itself nat_cmp_total v.server.0)

-- what holds of all of them holds of one that is among them
pub all_among : (P : Tid → Type 0) (tids : List Tid) (tid : Tid) → AllByRecursion P tids → list_any (same_tid tid) tids ≡ true → P tid
all_among P [] tid all h = absurd (cc h)
all_among P (t ∷ tids) tid all h = by (same_tid tid t) refl h (all_among P tids tid all.1)
  where
    by : (b : Bool) → same_tid tid t ≡ b → (b || list_any (same_tid tid) tids) ≡ true → (list_any (same_tid tid) tids ≡ true → P tid) → P tid
    by true is h more = subst P (sym (same_tid-true tid t is)) all.0
    by false is h more = more h
