-- What a member served of a transaction, and what its votes cover, after each act.
use Rattle.qs_book_laws.proofs.Words.{◌≡◌, ℕ, ◌+◌, Bool, true, false, List, [], ◌∷◌, ◌==◌, Option, Some, None, refl, sym, ap, subst, ◌∙◌, fold, if◌then◌else◌, arith, nat_tests, unwrap_or, is_some, option_map, lookup, nat_cmp, insert_entry, is_at, Ordering, Less, Equal, Greater, exact_unsigned, exact_pairs, tied_itself, nat_cmp_total, tid_cmp, member_cmp, same_member, Member, Outcome, Tid, same_member-true, same_member-self, Cause, Vote, Found, class_of, TransactionValue, changed_value, part_of}
use Rattle.qs_book_laws.proofs.Words.{no_part, life, life_cmp, learnt, learnt_part, lent, made_part, given_back, yielded_part, voted, voted_part, served_in, serving_part, found_at, found_part, with_learnt, decided_at, heard, Life, Part, RequestNo, BookValue, find_transaction, with_transaction, decide, hear, loan_to, give_back_from, inc_at, up_to, begun_at, abort_begun, vote_found, commit_found, learn_found, decide_found, is_among, is_open_here, begun_tid, record_at, member_at}
use Rattle.qs_book_laws.proofs.Words.{count_of as pending_of, Asking}
use Rattle.qs_base.specs.declared.identifiers.Outcome.TheVariants as outcomes
use Rattle.qs_ops.specs.declared.vote.Vote.TheVariants as votes
use Rattle.qs_ops.specs.declared.answer.Cause.TheVariants as causes
use Rattle.qs_book_laws.proofs.Holding.{member_equal, clash, settled}
use Rattle.qs_book_laws.proofs.Maps.{changed_alike, changed_apart, changed_none, lookup_changed, lookup_put, lookup_put_apart}

pub record Count : Type 0 where
  pub served : ℕ
  pub covered : ℕ

abbrev pub counts : Part → Count
counts part = record { served = part.served; covered = part.covered }

abbrev pub count_in : Member → ℕ → TransactionValue → Count
count_in member inc tx = counts (part_of tx member inc)

abbrev pub no_count : Count
no_count = record { served = 0; covered = 0 }

abbrev pub count_of : BookValue → Tid → Member → ℕ → Count
count_of book tid member inc = unwrap_or (option_map (count_in member inc) (find_transaction book tid)) no_count

-- ---- lives

pub life_equal : (l m : Life) → life_cmp l m ≡ Equal → l ≡ m
life_equal l m e =
    let pairs = exact_pairs member_cmp nat_cmp member_equal exact_unsigned (l.member, l.inc) (m.member, m.inc) e in
    ap made pairs
  where
    made : Member × ℕ → Life
    made p = record { member = p.0; inc = p.1 }

pub life_exact : (l m : Life) → is_at (life_cmp l) m ≡ true → l ≡ m
life_exact l m = by (life_cmp l m) refl
  where
    by : (r : Ordering) → life_cmp l m ≡ r → is_at (life_cmp l) m ≡ true → l ≡ m
    by Less is h = absurd (cc (rw is at h))
    by Equal is h = life_equal l m is
    by Greater is h = absurd (cc (rw is at h))

pub life_itself : (l : Life) → life_cmp l l ≡ Equal
life_itself l = rw (tied_itself nat_cmp_total l.member.node.0, tied_itself nat_cmp_total l.member.server.0, tied_itself nat_cmp_total l.inc) refl

pub life_other : (member other : Member) (inc k : ℕ) → same_member other member ≡ false → is_at (life_cmp (life member inc)) (life other k) ≡ false
life_other member other inc k h = by (is_at (life_cmp (life member inc)) (life other k)) refl
  where
    by : (b : Bool) → is_at (life_cmp (life member inc)) (life other k) ≡ b → b ≡ false
    by false is = refl
    by true is =
        let e : member ≡ other = ap (λ (l : Life). l.member) (life_exact (life member inc) (life other k) is) in
        let self : same_member other member ≡ true = subst (λ (x : Member). same_member other x ≡ true) (sym e) (same_member-self other) in
        absurd (clash self h)

-- another incarnation is another life
pub life_later : (member other : Member) (k inc : ℕ) → (k == inc) ≡ false → is_at (life_cmp (life member k)) (life other inc) ≡ false
life_later member other k inc far = by (is_at (life_cmp (life member k)) (life other inc)) refl
  where
    differ : k ≡ inc → (k == inc) ≡ false → ⊥
    differ e far_off = grind (arith, nat_tests)

    by : (b : Bool) → is_at (life_cmp (life member k)) (life other inc) ≡ b → b ≡ false
    by false is = refl
    by true is = absurd (differ (ap (λ (l : Life). l.inc) (life_exact (life member k) (life other inc) is)) far)

-- ---- transactions

abbrev part_count : Option Part → Count
part_count o = counts (unwrap_or o no_part)

from_map : (o p : Option Part) → option_map counts o ≡ option_map counts p → part_count o ≡ part_count p
from_map None None h = refl
from_map (Some x) (Some y) h = cc
from_map None (Some y) h = absurd (cc h)
from_map (Some x) None h = absurd (cc h)

-- a change of a part that leaves the counts
pub changed_counts : (member : Member) (inc : ℕ) (p : Life → Bool) (f : Part → Part) → ((part : Part) → counts (f part) ≡ counts part) → (tx : TransactionValue)
    → part_count (lookup (is_at (life_cmp (life member inc))) (changed_value p f tx.parts)) ≡ count_in member inc tx
changed_counts member inc p f keeps tx =
    from_map (lookup (is_at (life_cmp (life member inc))) (changed_value p f tx.parts)) (lookup (is_at (life_cmp (life member inc))) tx.parts)
    (changed_alike p counts f keeps (is_at (life_cmp (life member inc))) tx.parts)

pub learnt_counts : (member other : Member) (inc k : ℕ) (outcome : Outcome) (tx : TransactionValue) → count_in member inc (learnt other k outcome tx) ≡ count_in member inc tx
learnt_counts member other inc k outcomes.Commit tx = changed_counts member inc (is_at (life_cmp (life other k))) (learnt_part outcomes.Commit) (λ part. refl) tx
learnt_counts member other inc k outcomes.Abort tx = changed_counts member inc (is_at (life_cmp (life other k))) (learnt_part outcomes.Abort) (λ part. refl) tx

pub put_apart : (member other : Member) (inc k : ℕ) (part : Part) (tx : TransactionValue) → same_member other member ≡ false
    → part_count (lookup (is_at (life_cmp (life member inc))) (insert_entry life_cmp tx.parts (life other k) part)) ≡ count_in member inc tx
put_apart member other inc k part tx h =
    ap part_count (lookup_put_apart life_cmp (life other k) part (λ x. life_equal (life other k) x) (is_at (life_cmp (life member inc))) (life_other member other inc k h) tx.parts)

pub voted_apart : (member other : Member) (inc k : ℕ) (ballot : Vote) (tx : TransactionValue) → same_member other member ≡ false → count_in member inc (voted other k ballot tx) ≡ count_in member inc tx
voted_apart member other inc k ballot tx h =
    ap part_count (changed_apart (is_at (life_cmp (life other k))) (is_at (life_cmp (life member inc))) apart (voted_part ballot) tx.parts)
  where
    apart : (l : Life) → is_at (life_cmp (life member inc)) l ≡ true → is_at (life_cmp (life other k)) l ≡ false
    apart l is = subst (λ (x : Life). is_at (life_cmp (life other k)) x ≡ false) (life_exact (life member inc) l is) (life_other other member k inc (swapped (same_member member other) refl))
      where
        swapped : (b : Bool) → same_member member other ≡ b → b ≡ false
        swapped false is = refl
        swapped true is =
            let e : member ≡ other = same_member-true member other is in
            let self : same_member other member ≡ true = subst (λ (x : Member). same_member other x ≡ true) (sym e) (same_member-self other) in
            absurd (clash self h)

pub abort_counts : (member other : Member) (inc k : ℕ) (tx : TransactionValue) → (ballot : Vote) → ((part : Part) → counts (voted_part ballot part) ≡ counts part) → count_in member inc (voted other k ballot tx) ≡ count_in member inc tx
abort_counts member other inc k tx ballot keeps = changed_counts member inc (is_at (life_cmp (life other k))) (voted_part ballot) keeps tx

-- a serve of files or audit
pub served_count : (member : Member) (inc stamp : ℕ) (at : RequestNo) (done : Bool) (tx : TransactionValue) → ((part : Part) → counts (serving_part (class_of member.server.0) stamp done part) ≡ record { served = part.served + 1; covered = part.covered })
    → count_in member inc (served_in at member inc stamp done tx) ≡ record { served = (count_in member inc tx).served + 1; covered = (count_in member inc tx).covered }
served_count member inc stamp at done tx more =
    ap part_count (lookup_put life_cmp (life member inc) (serving_part (class_of member.server.0) stamp done (part_of tx member inc)) (life_itself (life member inc)) tx.parts)
    ∙ more (part_of tx member inc)

pub served_later : (member : Member) (k inc stamp : ℕ) (at : RequestNo) (done : Bool) (tx : TransactionValue) → (k == inc) ≡ false → count_in member k (served_in at member inc stamp done tx) ≡ count_in member k tx
served_later member k inc stamp at done tx far =
    ap part_count
    (lookup_put_apart life_cmp (life member inc) (serving_part (class_of member.server.0) stamp done (part_of tx member inc)) (λ x. life_equal (life member inc) x)
    (is_at (life_cmp (life member k))) (life_later member member k inc far) tx.parts)

-- a vote that a restart found covers nothing yet
pub found_count : (member : Member) (inc covers changes : ℕ) (tx : TransactionValue) → count_in member inc (found_at member inc covers changes tx) ≡ no_count
found_count member inc covers changes tx = ap part_count (lookup_put life_cmp (life member inc) (found_part covers changes) (life_itself (life member inc)) tx.parts)

pub found_later : (member : Member) (k inc covers changes : ℕ) (tx : TransactionValue) → (k == inc) ≡ false → count_in member k (found_at member inc covers changes tx) ≡ count_in member k tx
found_later member k inc covers changes tx far =
    ap part_count
    (lookup_put_apart life_cmp (life member inc) (found_part covers changes) (λ x. life_equal (life member inc) x) (is_at (life_cmp (life member k))) (life_later member member k inc far) tx.parts)

-- a vote to commit covers all that was served
abbrev pub is_for_commit : Vote → Bool
is_for_commit (votes.Abort reason) = false
is_for_commit votes.ReadOnly = true
is_for_commit votes.Volatile = true
is_for_commit votes.Recoverable = true

voted_even : (ballot : Vote) (part : Part) → is_for_commit ballot ≡ true → (voted_part ballot part).covered ≡ (voted_part ballot part).served
voted_even (votes.Abort reason) part h = absurd (cc h)
voted_even votes.ReadOnly part h = refl
voted_even votes.Volatile part h = refl
voted_even votes.Recoverable part h = refl

pub voted_count : (member : Member) (inc : ℕ) (ballot : Vote) (tx : TransactionValue) → is_for_commit ballot ≡ true
    → (count_in member inc (voted member inc ballot tx)).covered ≡ (count_in member inc (voted member inc ballot tx)).served
voted_count member inc ballot tx h = by (lookup (is_at (life_cmp (life member inc))) tx.parts) refl
  where
    even : Option Part → Type 0
    even o = (part_count o).covered ≡ (part_count o).served

    by : (o : Option Part) → lookup (is_at (life_cmp (life member inc))) tx.parts ≡ o → even (lookup (is_at (life_cmp (life member inc))) (voted member inc ballot tx).parts)
    by None is = subst even (sym (changed_none (is_at (life_cmp (life member inc))) (voted_part ballot) tx.parts is)) refl
    by (Some part) is = subst even (sym (lookup_changed (is_at (life_cmp (life member inc))) (voted_part ballot) tx.parts part is)) (voted_even ballot part h)

pub voted_later : (member : Member) (k inc : ℕ) (ballot : Vote) (tx : TransactionValue) → (k == inc) ≡ false → count_in member k (voted member inc ballot tx) ≡ count_in member k tx
voted_later member k inc ballot tx far = ap part_count (changed_apart (is_at (life_cmp (life member inc))) (is_at (life_cmp (life member k))) apart (voted_part ballot) tx.parts)
  where
    swapped : (k == inc) ≡ false → (inc == k) ≡ false
    swapped h = grind (arith, nat_tests)

    apart : (l : Life) → is_at (life_cmp (life member k)) l ≡ true → is_at (life_cmp (life member inc)) l ≡ false
    apart l is = subst (λ (x : Life). is_at (life_cmp (life member inc)) x ≡ false) (life_exact (life member k) l is) (life_later member member inc k (swapped far))

-- ---- books

module _ (tid : Tid) (member : Member) where
  -- the counts are the same
  abbrev pub Counted : BookValue → BookValue → Type 0
  Counted old new = (inc : ℕ) → count_of new tid member inc ≡ count_of old tid member inc

  counted_then : (old mid new : BookValue) → Counted old mid → Counted mid new → Counted old new
  counted_then old mid new a b inc = b inc ∙ a inc

  counted_if : (b : Bool) (old x y : BookValue) → Counted old x → Counted old y → Counted old (if b then x else y)
  counted_if true old x y p q = p
  counted_if false old x y p q = q

  pub counted_all : {A : Type 0} (f : BookValue → A → BookValue) → ((book : BookValue) (x : A) → Counted book (f book x)) → (xs : List A) (book : BookValue) → Counted book (fold f book xs)
  counted_all f each [] book inc = refl
  counted_all f each (x ∷ xs) book inc = counted_all f each xs (f book x) inc ∙ each book x inc

  pub of_transaction : (t : Tid) (f : TransactionValue → TransactionValue) → ((inc : ℕ) (tx : TransactionValue) → count_in member inc (f tx) ≡ count_in member inc tx) → (book : BookValue) → Counted book (with_transaction t f book)
  of_transaction t f keeps book inc =
      ap (λ (o : Option Count). unwrap_or o no_count) (changed_alike (is_at (tid_cmp t)) (count_in member inc) f (keeps inc) (is_at (tid_cmp tid)) book.transactions)

  pub of_decide : (t : Tid) (outcome : Outcome) (cause : Option Cause) (book : BookValue) → Counted book (decide t outcome cause book)
  of_decide t outcome cause book inc = of_transaction t (decided_at book.place outcome cause) (λ k tx. refl) book inc

  pub of_hear : (asks : List Asking) (book : BookValue) → Counted book (fold hear book asks)
  of_hear asks book = counted_all hear (λ x ask. of_transaction ask.tid (heard ask.node (inc_at x ask.node)) (λ k tx. refl) x) asks book

  pub of_loan : (inc : ℕ) (t : Tid) (o : Option Member) (book : BookValue) → Counted book (loan_to inc t o book)
  of_loan inc t None book = λ k. refl
  of_loan inc t (Some other) book = of_transaction t (lent other inc) (λ k tx. changed_counts member k (is_at (life_cmp (life other inc))) made_part (λ part. refl) tx) book

  pub of_yield : (inc : ℕ) (t : Tid) (o : Option Member) (book : BookValue) → Counted book (give_back_from inc t o book)
  of_yield inc t None book = λ k. refl
  of_yield inc t (Some other) book = of_transaction t (given_back other inc) (λ k tx. changed_counts member k (is_at (life_cmp (life other inc))) yielded_part (λ part. refl) tx) book

  -- a restart of another node
  learn_counted : (here : ℕ) (t : Tid) (s : ℕ) (book : BookValue) → Counted book (learn_found here t s book)
  learn_counted here t s book =
      counted_if (is_some (record_at here book t s)) book (with_transaction t (with_learnt (member_at here s)) book) book
      (of_transaction t (with_learnt (member_at here s)) (λ k tx. refl) book) (λ k. refl)

  pub commit_counted : (here : ℕ) (book : BookValue) (t : Tid) → Counted book (commit_found here book t)
  commit_counted here book t inc =
      decided (learn_found here t 6 (learn_found here t 1 (learn_found here t 0 book))) inc
      ∙ (learn_counted here t 6 (learn_found here t 1 (learn_found here t 0 book)) inc ∙ (learn_counted here t 1 (learn_found here t 0 book) inc ∙ learn_counted here t 0 book inc))
    where
      decided : (b : BookValue) → Counted b (decide_found here t b)
      decided b = counted_if (is_open_here here t (find_transaction b t)) b (decide t outcomes.Commit None b) b (of_decide t outcomes.Commit None b) (λ k. refl)

  vote_counted : (here inc : ℕ) (done : List Tid) → (here == member.node.0) ≡ false → (book : BookValue) (f : Found) → Counted book (vote_found here inc done book f)
  vote_counted here inc done far book f =
      counted_if (is_among done f.tid) book book (with_transaction f.tid (found_at (member_at here f.server.0) inc f.covers (pending_of (record_at here book f.tid f.server.0))) book) (λ k. refl)
      (of_transaction f.tid (found_at (member_at here f.server.0) inc f.covers (pending_of (record_at here book f.tid f.server.0)))
      (λ k tx. put_apart member (member_at here f.server.0) k inc (found_part f.covers (pending_of (record_at here book f.tid f.server.0))) tx (rw far refl)) book)

  pub abort_counted : (here inc : ℕ) (book : BookValue) (seq : ℕ) → Counted book (abort_begun here inc book seq)
  abort_counted here inc book seq =
      counted_if (is_open_here here (begun_tid here inc seq) (find_transaction book (begun_tid here inc seq))) book (decide (begun_tid here inc seq) outcomes.Abort (Some (causes.Home inc)) book) book
      (of_decide (begun_tid here inc seq) outcomes.Abort (Some (causes.Home inc)) book) (λ k. refl)

  pub of_settled : (here inc : ℕ) (pend : List Found) (done : List Tid) → (here == member.node.0) ≡ false → (book : BookValue) → Counted book (settled here inc pend done book)
  of_settled here inc pend done far book k =
      counted_all (abort_begun here (inc_at book (record { 0 = here }))) (abort_counted here (inc_at book (record { 0 = here }))) (up_to (begun_at here book)) (fold (vote_found here inc done) (fold (commit_found here) book done) pend) k
      ∙ (counted_all (vote_found here inc done) (vote_counted here inc done far) pend (fold (commit_found here) book done) k
      ∙ counted_all (commit_found here) (commit_counted here) done book k)
