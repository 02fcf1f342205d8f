-- A transaction that may still be committed began in the incarnation in which its home is: a restart of the home aborts it,
-- or commits it.
use Rattle.qs_book_laws.proofs.Words.{◌≡◌, ℕ, zero, suc, ◌<◌, ◌≤◌, ◌==◌, ◌&&◌, ◌||◌, Bool, true, false, List, [], ◌∷◌, Option, Some, None, inl, inr, refl, sym, ap, subst, ◌∙◌, fold, arith, if◌then◌else◌, nat_tests, slice_get, is_some, list_any, option_map, is_at, tid_cmp, Member, Tid, Act, Begin, Issue, Serve, Ask, Counted, Decide, Ending, Learn, Loan, Yield, Tick, Crash, Restart, Entry, Found, TransactionValue, is_open, decided_at, BookValue, find_transaction, changed_at, decide, begin, inc_at}
use Rattle.qs_book_laws.proofs.Words.{is_in_order, broken_act, broken_node, broken_at, broken, effect_act, effect, NodeValue, restart, restarted_node, reopened, put_new_votes, new_votes, with_votes, abort_begun, begun_tid, is_open_here, up_to, begun_at, commit_found, vote_found, eq-eqb, or_right}
use Rattle.std.proofs.lemmas.List.Folds.{list_any-append}
use Rattle.qs_base.specs.declared.identifiers.Outcome.TheVariants as outcomes
use Rattle.qs_ops.specs.declared.answer.Cause.TheVariants as causes
use Rattle.qs_book_journal.specs.declared.entry.Act.TheVariants.{Answer}
use Rattle.qs_book_journal.specs.declared.entry.Act.TheVariants as acts
use Rattle.qs_book_laws.proofs.Acts as of
use Rattle.qs_book_laws.proofs.Faces.{Face, face, face_at, Age, age, age_at, Alike, node_alike}
use Rattle.qs_book_laws.proofs.Grows.{before_aborts, abort_alters}
use Rattle.qs_book_laws.proofs.Holding.{settled, restart_nodes}
use Rattle.qs_book_laws.proofs.Holds.{elsewhere}
use Rattle.qs_book_laws.proofs.Maps.{lookup_changed, changed_at_here, changed_at_alike}
use Rattle.qs_book_laws.proofs.Outcomes.{Inv, IsBegun, Kept, by_alike}
use Rattle.qs_book_laws.proofs.Restarts.{Settles, settles_all, commit_settles, vote_settles, abort_settles, votes_age}
use Rattle.qs_book_laws.proofs.Steps.{held}
use Rattle.qs_book_laws.proofs.Takes.{some_of}
use Rattle.qs_base_lemmas.proofs.Tests.{lt_not_equal}

-- ---- incarnations

-- the incarnation of a node
abbrev pub inc_in : BookValue → ℕ → Option ℕ
inc_in book n = option_map (λ (a : Age). a.inc) (age_at book n)

-- the entry restarts that node
abbrev pub restarts_at : ℕ → ℕ → Act → Bool
restarts_at n here (acts.Restart inc pend done) = here == n
restarts_at n here act = false

same_incs : (old new : BookValue) (n : ℕ) → Alike old new → inc_in new n ≡ inc_in old n
same_incs old new n a = ap (λ (o : Option Age). option_map (λ (x : Age). x.inc) o) (a.ages n)

from_ages : (o p : Option NodeValue) → option_map (λ (v : NodeValue). v.inc) o ≡ option_map (λ (v : NodeValue). v.inc) p → option_map (λ (a : Age). a.inc) (option_map age o) ≡ option_map (λ (a : Age). a.inc) (option_map age p)
from_ages None None h = refl
from_ages None (Some y) h = absurd (cc h)
from_ages (Some x) None h = absurd (cc h)
from_ages (Some x) (Some y) h = h

acted_incs : (n : ℕ) (book : BookValue) (stamp here : ℕ) (node : NodeValue) (act : Act) → restarts_at n here act ≡ false → broken_act book stamp here node act ≡ None → inc_in (effect_act stamp here act book) n ≡ inc_in book n
acted_incs n book stamp here node (Begin t label client) far h =
    from_ages (slice_get (begin here t label client book).nodes n) (slice_get book.nodes n)
    (changed_at_alike (λ (v : NodeValue). v.inc) (λ (v : NodeValue). record v { begun = t.seq }) (λ v. refl) book.nodes here n)
acted_incs n book stamp here node (Issue t issuer to number op) far h = same_incs book (effect_act stamp here (Issue t issuer to number op) book) n (of.by_issue here t issuer to number op book)
acted_incs n book stamp here node (Serve t to from number reply) far h = same_incs book (effect_act stamp here (Serve t to from number reply) book) n (of.by_serve here t to from number stamp reply book)
acted_incs n book stamp here node (acts.Vote t to ballot covers) far h = same_incs book (effect_act stamp here (acts.Vote t to ballot covers) book) n (of.by_vote here t to ballot covers book)
acted_incs n book stamp here node (Ask t) far h = refl
acted_incs n book stamp here node (Counted t peer upto) far h = refl
acted_incs n book stamp here node (Decide t outcome cause) far h = refl
acted_incs n book stamp here node (Ending t to) far h = same_incs book (effect_act stamp here (Ending t to) book) n (of.by_end here t to book)
acted_incs n book stamp here node (Learn t to outcome) far h = same_incs book (effect_act stamp here (Learn t to outcome) book) n (of.by_learn here t to outcome book)
acted_incs n book stamp here node (Answer client line said) far h = same_incs book (effect_act stamp here (Answer client line said) book) n (of.by_answer client line book)
acted_incs n book stamp here node (Loan t client) far h = same_incs book (effect_act stamp here (Loan t client) book) n (of.by_loan here t client book)
acted_incs n book stamp here node (Yield t client) far h = same_incs book (effect_act stamp here (Yield t client) book) n (of.by_yield here t client book)
acted_incs n book stamp here node Tick far h = same_incs book (effect_act stamp here Tick book) n (of.by_tick here stamp book)
acted_incs n book stamp here node (Crash cause) far h = same_incs book (effect_act stamp here (Crash cause) book) n (of.by_crash here book)
acted_incs n book stamp here node (Restart inc pend done) far h = absurd (cc h)

node_incs : (n : ℕ) (book : BookValue) (stamp here : ℕ) (node : NodeValue) (act : Act) → restarts_at n here act ≡ false → broken_node book stamp here node act ≡ None → inc_in (effect_act stamp here act book) n ≡ inc_in book n
node_incs n book stamp here node (Restart inc pend done) far h =
    ap (λ (nodes : List NodeValue). option_map (λ (a : Age). a.inc) (option_map age (slice_get nodes n))) (restart_nodes here inc pend done book)
    ∙ ap (λ (o : Option NodeValue). option_map (λ (a : Age). a.inc) (option_map age o))
    (elsewhere (restarted_node (reopened here inc pend done (put_new_votes here pend book)) pend done) (changed_at here (with_votes (new_votes here book pend)) book.nodes) here n far
    ∙ elsewhere (with_votes (new_votes here book pend)) book.nodes here n far)
node_incs n book stamp here node act far h = acted_incs n book stamp here node act far (held node.up 2 (broken_act book stamp here node act) h).1

at_incs : (n : ℕ) (book : BookValue) (stamp here : ℕ) (o : Option NodeValue) (act : Act) → restarts_at n here act ≡ false → broken_at book stamp here o act ≡ None → inc_in (effect_act stamp here act book) n ≡ inc_in book n
at_incs n book stamp here None act far h = absurd (cc h)
at_incs n book stamp here (Some node) act far h = node_incs n book stamp here node act far h

pub step_incs : (n : ℕ) (book : BookValue) (entry : Entry) → restarts_at n entry.node.0 entry.act ≡ false → broken book entry ≡ None → inc_in (effect book entry) n ≡ inc_in book n
step_incs n book entry far h = at_incs n book entry.stamp entry.node.0 (slice_get book.nodes entry.node.0) entry.act far (held (is_in_order book entry) 1 _ h).1

-- ---- a restart of the home

-- the transaction is decided
pub record IsClosed (book : BookValue) (tid : Tid) : Type 0 where
  pub seen : Face
  pub found : face_at book tid ≡ Some seen
  pub closed : is_open seen.cell ≡ false

pub closed_over : (old new : BookValue) (tid : Tid) → Kept old new → IsClosed old tid → IsClosed new tid
closed_over old new tid kept c = record { seen = c.seen; found = kept tid c.seen c.found c.closed; closed = c.closed }

-- the transaction began in the incarnation in which its home is
abbrev pub IsNative : Tid → BookValue → Type 0
IsNative tid book = (inc : ℕ) → inc_in book tid.home.0 ≡ Some inc → is_some (find_transaction book tid) ≡ true → (tid.inc ≡ inc) × (0 < tid.seq)

-- it was begun there, or is closed by the abort of all that were
abort_one : (here : ℕ) (tid : Tid) (book : BookValue) → tid.home.0 ≡ here → is_some (find_transaction book tid) ≡ true → IsClosed (abort_begun here tid.inc book tid.seq) tid
abort_one here tid book home known =
    subst (λ (t : Tid). IsClosed (if is_open_here here t (find_transaction book t) then decide t outcomes.Abort (Some (causes.Home tid.inc)) book else book) tid) (sym itself)
    (by (find_transaction book tid) refl known)
  where
    itself : begun_tid here tid.inc tid.seq ≡ tid
    itself = ap (λ (n : ℕ). begun_tid n tid.inc tid.seq) (sym home)

    at_home : (tid.home.0 == here) ≡ true
    at_home = eq-eqb tid.home.0 here home

    cells : (tx : TransactionValue) → find_transaction book tid ≡ Some tx → (b : Bool) → is_open tx.cell ≡ b → IsClosed (if b then decide tid outcomes.Abort (Some (causes.Home tid.inc)) book else book) tid
    cells tx is true opened = record {
      seen = face (decided_at book.place outcomes.Abort (Some (causes.Home tid.inc)) tx);
      found = ap (λ (o : Option TransactionValue). option_map face o) (lookup_changed (is_at (tid_cmp tid)) (decided_at book.place outcomes.Abort (Some (causes.Home tid.inc))) book.transactions tx is);
      closed = refl;
    }
    cells tx is false closed = record { seen = face tx; found = ap (λ (o : Option TransactionValue). option_map face o) is; closed = closed }

    by : (o : Option TransactionValue) → find_transaction book tid ≡ o → is_some o ≡ true → IsClosed (if is_open_here here tid o then decide tid outcomes.Abort (Some (causes.Home tid.inc)) book else book) tid
    by None is k = absurd (cc k)
    by (Some tx) is k =
        subst (λ (b : Bool). IsClosed (if b && is_open tx.cell then decide tid outcomes.Abort (Some (causes.Home tid.inc)) book else book) tid) (sym at_home)
        (cells tx is (is_open tx.cell) refl)

abort_all : (here : ℕ) (tid : Tid) (member : Member) → tid.home.0 ≡ here → (seqs : List ℕ) (book : BookValue) → Inv book → is_some (find_transaction book tid) ≡ true → list_any (λ n. n == tid.seq) seqs ≡ true
    → IsClosed (fold (abort_begun here tid.inc) book seqs) tid
abort_all here tid member home [] book i known among = absurd (cc among)
abort_all here tid member home (seq ∷ seqs) book i known among = by (seq == tid.seq) refl among (abort_all here tid member home seqs (abort_begun here tid.inc book seq) one.moves.inv ((abort_alters tid member here tid.inc book seq).known ∙ known))
  where
    one : Settles book (abort_begun here tid.inc book seq)
    one = abort_settles here tid.inc book seq i

    rest : Settles (abort_begun here tid.inc book seq) (fold (abort_begun here tid.inc) (abort_begun here tid.inc book seq) seqs)
    rest = settles_all (abort_begun here tid.inc) (λ b x. abort_settles here tid.inc b x) seqs (abort_begun here tid.inc book seq) one.moves.inv

    equal : (seq == tid.seq) ≡ true → tid.seq ≡ seq
    equal h = grind (arith, nat_tests)

    by : (b : Bool) → (seq == tid.seq) ≡ b → (b || list_any (λ n. n == tid.seq) seqs) ≡ true → (list_any (λ n. n == tid.seq) seqs ≡ true → IsClosed (fold (abort_begun here tid.inc) (abort_begun here tid.inc book seq) seqs) tid) → IsClosed (fold (abort_begun here tid.inc) (abort_begun here tid.inc book seq) seqs) tid
    by true is h more =
        closed_over (abort_begun here tid.inc book seq) (fold (abort_begun here tid.inc) (abort_begun here tid.inc book seq) seqs) tid rest.moves.kept
        (subst (λ (n : ℕ). IsClosed (abort_begun here tid.inc book n) tid) (equal is) (abort_one here tid book home known))
    by false is h more = more h

among_up_to : (n m : ℕ) → 0 < m → m ≤ n → list_any (λ k. k == m) (up_to n) ≡ true
among_up_to zero m above below = absurd (omega arith)
among_up_to (suc n) m above below = list_any-append (λ (k : ℕ). k == m) (up_to n) (suc n ∷ []) ∙ by (suc n == m) refl (among_up_to n m above)
  where
    less : (suc n == m) ≡ false → m ≤ n
    less h = grind (arith, nat_tests)

    by : (b : Bool) → (suc n == m) ≡ b → (m ≤ n → list_any (λ k. k == m) (up_to n) ≡ true) → (list_any (λ k. k == m) (up_to n) || ((suc n == m) || false)) ≡ true
    by true is more = or_right (list_any (λ k. k == m) (up_to n)) ((suc n == m) || false) (rw is refl)
    by false far more = let h : list_any (λ k. k == m) (up_to n) ≡ true = more (less far) in rw h refl

module _ (tid : Tid) (member : Member) (here inc : ℕ) (pend : List Found) (done : List Tid) (book : BookValue) (node : NodeValue)
    (i : Inv book) (at_here : slice_get book.nodes here ≡ Some node) (home : tid.home.0 ≡ here) (native : IsNative tid book) (known : is_some (find_transaction book tid) ≡ true) where
  abbrev mid : BookValue
  mid = put_new_votes here pend book

  mid_inv : Inv mid
  mid_inv = (by_alike book mid i (node_alike here (with_votes (new_votes here book pend)) (votes_age (new_votes here book pend)) book)).inv

  abbrev voted : BookValue
  voted = fold (vote_found here inc done) (fold (commit_found here) mid done) pend

  voted_inv : Inv voted
  voted_inv =
      let a : Settles mid (fold (commit_found here) mid done) = settles_all (commit_found here) (λ b x. commit_settles here b x) done mid mid_inv in
      (settles_all (vote_found here inc done) (λ b x. vote_settles here inc done b x) pend (fold (commit_found here) mid done) a.moves.inv).moves.inv

  voted_known : is_some (find_transaction voted tid) ≡ true
  voted_known = (before_aborts tid member here inc pend done mid).known ∙ known

  aged : age_at book here ≡ Some (age node)
  aged = ap (λ (o : Option NodeValue). option_map age o) at_here

  its_inc : (tid.inc ≡ node.inc) × (0 < tid.seq)
  its_inc = native node.inc (ap (λ (n : ℕ). inc_in book n) home ∙ ap (λ (o : Option Age). option_map (λ (a : Age). a.inc) o) aged) known

  its_seq : tid.seq ≤ node.begun
  its_seq =
      let tx : (tx : TransactionValue) × (find_transaction book tid ≡ Some tx) = some_of (find_transaction book tid) known in
      by (i.begun tid (face tx.0) (age node) (ap (λ (o : Option TransactionValue). option_map face o) tx.1) (ap (age_at book) home ∙ aged))
    where
      by : IsBegun tid (age node) → tid.seq ≤ node.begun
      by (inl earlier) = absurd (lt_not_equal tid.inc node.inc earlier its_inc.0)
      by (inr both) = both.1

  mid_here : slice_get mid.nodes here ≡ Some (with_votes (new_votes here book pend) node)
  mid_here = changed_at_here (with_votes (new_votes here book pend)) book.nodes here node at_here

  mid_age : age (with_votes (new_votes here book pend) node) ≡ age node
  mid_age = votes_age (new_votes here book pend) node

  mid_inc : inc_at mid (record { 0 = here }) ≡ tid.inc
  mid_inc = ap (λ (o : Option NodeValue). elim o [ None ↦ 0 | Some state ↦ state.inc ]) mid_here ∙ (ap (λ (a : Age). a.inc) mid_age ∙ sym its_inc.0)

  mid_begun : begun_at here mid ≡ node.begun
  mid_begun = ap (λ (o : Option NodeValue). elim o [ None ↦ 0 | Some state ↦ state.begun ]) mid_here ∙ ap (λ (a : Age). a.begun) mid_age

  -- after a restart of its home it is decided
  pub home_closes : IsClosed (restart here inc pend done book) tid
  home_closes =
      let c : IsClosed (fold (abort_begun here tid.inc) voted (up_to node.begun)) tid = abort_all here tid member home (up_to node.begun) voted voted_inv voted_known (among_up_to node.begun tid.seq its_inc.1 its_seq) in
      let d : IsClosed (settled here inc pend done mid) tid =
      subst (λ (k : ℕ). IsClosed (fold (abort_begun here k) voted (up_to (begun_at here mid))) tid) (sym mid_inc)
      (subst (λ (k : ℕ). IsClosed (fold (abort_begun here tid.inc) voted (up_to k)) tid) (sym mid_begun) c) in
      record { seen = d.seen; found = d.found; closed = d.closed }
