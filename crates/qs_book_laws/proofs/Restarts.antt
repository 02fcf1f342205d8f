-- A restart keeps the invariant of outcomes: what it finds decides open cells alone, and its incarnation is new.
use Rattle.qs_book_laws.proofs.Words.{◌≡◌, ◌⊎◌, ℕ, ◌<◌, [], ◌∷◌, ◌==◌, Bool, true, false, List, Option, Some, None, fold, inl, inr, refl, sym, ap, subst, ◌∙◌, arith, if◌then◌else◌, slice_get, is_some, option_map, Outcome, Tid, Cause, Found, TransactionValue, is_open, with_learnt, found_at, BookValue, find_transaction, with_node, with_transaction, decide, inc_at, changed_at, NodeValue, is_among, member_at, record_at, is_open_here, learn_found, decide_found, commit_found, vote_found, begun_tid}
use Rattle.qs_book_laws.proofs.Words.{abort_begun, up_to, begun_at, restarted_node, reopened, restart, with_votes, new_votes, count_of as pending_of, OnRecord, Voter, and_last}
use Rattle.qs_base.specs.declared.identifiers.Outcome.TheVariants as outcomes
use Rattle.qs_ops.specs.declared.answer.Cause.TheVariants as causes
use Rattle.qs_book_machine.specs.Restart.{restart_found, with_vote}
use Rattle.qs_book_laws.proofs.Faces.{Face, face, Age, age, face_at, age_at, Alike, transaction_alike, node_alike}
use Rattle.qs_book_laws.proofs.Maps.{changed_at_either}
use Rattle.qs_book_laws.proofs.Outcomes.{Inv, IsBegun, Moves, moves_then, untold, by_alike, by_decide}

-- a step that leaves the nodes
pub record Settles (old new : BookValue) : Type 0 where
  pub nodes : new.nodes ≡ old.nodes
  pub moves : Moves old new

settles_self : (book : BookValue) → Inv book → Settles book book
settles_self book i = record { nodes = refl; moves = record { inv = i; kept = λ tid seen is closed. is } }

pub settles_then : (old mid new : BookValue) → Settles old mid → Settles mid new → Settles old new
settles_then old mid new a b = record { nodes = b.nodes ∙ a.nodes; moves = moves_then old mid new a.moves b.moves }

settles_if : (b : Bool) (old x y : BookValue) → (b ≡ true → Settles old x) → Settles old y → Settles old (if b then x else y)
settles_if true old x y p q = p refl
settles_if false old x y p q = q

pub settles_all : {A : Type 0} (f : BookValue → A → BookValue) → ((book : BookValue) (x : A) → Inv book → Settles book (f book x)) → (xs : List A) (book : BookValue) → Inv book → Settles book (fold f book xs)
settles_all f each [] book i = settles_self book i
settles_all f each (x ∷ xs) book i =
    let one : Settles book (f book x) = each book x i in
    settles_then book (f book x) (fold f (f book x) xs) one (settles_all f each xs (f book x) one.moves.inv)

transaction_settles : (tid : Tid) (f : TransactionValue → TransactionValue) → ((tx : TransactionValue) → face (f tx) ≡ face tx) → (book : BookValue) → Inv book → Settles book (with_transaction tid f book)
transaction_settles tid f keeps book i = record { nodes = refl; moves = by_alike book (with_transaction tid f book) i (transaction_alike tid f keeps book) }

-- a decision at the home, where the cell is open
decides_open : (here : ℕ) (tid : Tid) (outcome : Outcome) (cause : Option Cause) (book : BookValue) → Inv book → is_open_here here tid (find_transaction book tid) ≡ true → Settles book (decide tid outcome cause book)
decides_open here tid outcome cause book i opened = by (find_transaction book tid) refl opened
  where
    by : (o : Option TransactionValue) → find_transaction book tid ≡ o → is_open_here here tid o ≡ true → Settles book (decide tid outcome cause book)
    by None is h = absurd (cc h)
    by (Some tx) is h = record { nodes = refl; moves = by_decide book tid tx outcome cause i is (and_last (tid.home.0 == here) (is_open tx.cell) h) }

pub learn_settles : (here : ℕ) (tid : Tid) (server : ℕ) (book : BookValue) → Inv book → Settles book (learn_found here tid server book)
learn_settles here tid server book i =
    settles_if (is_some (record_at here book tid server)) book (with_transaction tid (with_learnt (member_at here server)) book) book
    (λ is. transaction_settles tid (with_learnt (member_at here server)) (λ tx. refl) book i) (settles_self book i)

decide_settles : (here : ℕ) (tid : Tid) (book : BookValue) → Inv book → Settles book (decide_found here tid book)
decide_settles here tid book i =
    settles_if (is_open_here here tid (find_transaction book tid)) book (decide tid outcomes.Commit None book) book
    (decides_open here tid outcomes.Commit None book i) (settles_self book i)

pub commit_settles : (here : ℕ) (book : BookValue) (tid : Tid) → Inv book → Settles book (commit_found here book tid)
commit_settles here book tid i =
    let zeroth : BookValue = learn_found here tid 0 book in
    let first : BookValue = learn_found here tid 1 zeroth in
    let sixth : BookValue = learn_found here tid 6 first in
    let a : Settles book zeroth = learn_settles here tid 0 book i in
    let b : Settles zeroth first = learn_settles here tid 1 zeroth a.moves.inv in
    let c : Settles first sixth = learn_settles here tid 6 first b.moves.inv in
    settles_then book zeroth _ a (settles_then zeroth first _ b (settles_then first sixth (decide_found here tid sixth) c (decide_settles here tid sixth c.moves.inv)))

pub vote_settles : (here inc : ℕ) (done : List Tid) (book : BookValue) (found : Found) → Inv book → Settles book (vote_found here inc done book found)
vote_settles here inc done book found i =
    let f : TransactionValue → TransactionValue = found_at (member_at here found.server.0) inc found.covers (pending_of (record_at here book found.tid found.server.0)) in
    settles_if (is_among done found.tid) book book (with_transaction found.tid f book)
    (λ is. settles_self book i) (transaction_settles found.tid f (λ tx. refl) book i)

pub abort_settles : (here inc : ℕ) (book : BookValue) (seq : ℕ) → Inv book → Settles book (abort_begun here inc book seq)
abort_settles here inc book seq i =
    let tid : Tid = begun_tid here inc seq in
    settles_if (is_open_here here tid (find_transaction book tid)) book (decide tid outcomes.Abort (Some (causes.Home inc)) book) book
    (decides_open here tid outcomes.Abort (Some (causes.Home inc)) book i) (settles_self book i)

-- ---- the node

earlier : (q : Tid) (at : Age) (inc : ℕ) → IsBegun q at → at.inc < inc → q.inc < inc
earlier q at inc b less = grind arith

-- the node comes up in a later incarnation
node_rises : (here : ℕ) (f : NodeValue → NodeValue) (book : BookValue) (node : NodeValue) → Inv book → slice_get book.nodes here ≡ Some node → node.inc < (f node).inc → Moves book (with_node here f book)
node_rises here f book node i at_here rises =
    untold book (with_node here f book) i (λ q seen is closed. is) (λ client. refl)
    (λ q seen at is aged. by q seen at is aged (changed_at_either f book.nodes here q.home.0 node at_here))
  where
    by : (q : Tid) (seen : Face) (at : Age) → face_at book q ≡ Some seen → option_map age (slice_get (changed_at here f book.nodes) q.home.0) ≡ Some at
        → ((q.home.0 ≡ here) × (slice_get book.nodes q.home.0 ≡ Some node) × (slice_get (changed_at here f book.nodes) q.home.0 ≡ Some (f node))) ⊎ (slice_get (changed_at here f book.nodes) q.home.0 ≡ slice_get book.nodes q.home.0)
        → IsBegun q at
    by q seen at is aged (inl h) =
        let e : Some (age (f node)) ≡ Some at = ap (option_map age) (sym h.2) ∙ aged in
        let at_is : at ≡ age (f node) = cc in
        let less : q.inc < (f node).inc = earlier q (age node) (f node).inc (i.begun q seen (age node) is (ap (option_map age) h.1)) rises in
        rw at_is (inl less)
    by q seen at is aged (inr h) = i.begun q seen at is (ap (option_map age) (sym h) ∙ aged)

pub votes_age : (votes : List (Voter × OnRecord)) (node : NodeValue) → age (with_votes votes node) ≡ age node
votes_age [] node = refl
votes_age (vote ∷ votes) node = votes_age votes (with_vote node vote)

same_inc : (v node : NodeValue) → Some (age v) ≡ Some (age node) → v.inc ≡ node.inc
same_inc v node e = ap inc_or e
  where
    inc_or : Option Age → ℕ
    inc_or None = 0
    inc_or (Some at) = at.inc

module _ (here inc : ℕ) (pend : List Found) (done : List Tid) (book : BookValue) (node : NodeValue)
    (i : Inv book) (at_here : age_at book here ≡ Some (age node)) (rises : node.inc < inc) where
  abbrev committed_book : BookValue
  committed_book = fold (commit_found here) book done

  abbrev voted_book : BookValue
  voted_book = fold (vote_found here inc done) committed_book pend

  abbrev aborted_book : BookValue
  aborted_book = fold (abort_begun here (inc_at book (record { 0 = here }))) voted_book (up_to (begun_at here book))

  settled : Settles book aborted_book
  settled =
      let a : Settles book committed_book = settles_all (commit_found here) (λ b x. commit_settles here b x) done book i in
      let b : Settles committed_book voted_book = settles_all (vote_found here inc done) (λ b x. vote_settles here inc done b x) pend committed_book a.moves.inv in
      let c : Settles voted_book aborted_book = settles_all (abort_begun here (inc_at book (record { 0 = here }))) (λ b x. abort_settles here (inc_at book (record { 0 = here })) b x) (up_to (begun_at here book)) voted_book b.moves.inv in
      settles_then book committed_book aborted_book a (settles_then committed_book voted_book aborted_book b c)

  found_moves : Moves book (restart_found here inc pend done book)
  found_moves = by (slice_get aborted_book.nodes here) refl
    where
      by : (o : Option NodeValue) → slice_get aborted_book.nodes here ≡ o → Moves book (restart_found here inc pend done book)
      by None is = let e : None ≡ Some (age node) = ap (option_map age) (sym is) ∙ (ap (λ (ns : List NodeValue). option_map age (slice_get ns here)) settled.nodes ∙ at_here) in absurd (cc e)
      by (Some v) is =
          let e : Some (age v) ≡ Some (age node) = ap (option_map age) (sym is) ∙ (ap (λ (ns : List NodeValue). option_map age (slice_get ns here)) settled.nodes ∙ at_here) in
          let up : v.inc < inc = subst (λ (n : ℕ). n < inc) (sym (same_inc v node e)) rises in
          moves_then book aborted_book (restart_found here inc pend done book) settled.moves
          (node_rises here (restarted_node (reopened here inc pend done book) pend done) aborted_book v settled.moves.inv is up)

pub by_restart : (here inc : ℕ) (pend : List Found) (done : List Tid) (book : BookValue) (node : NodeValue)
    → Inv book → slice_get book.nodes here ≡ Some node → node.inc < inc → Moves book (restart here inc pend done book)
by_restart here inc pend done book node i at_here rises =
    let a : Alike book mid = node_alike here (with_votes (new_votes here book pend)) (votes_age (new_votes here book pend)) book in
    let m : Moves book mid = by_alike book mid i a in
    moves_then book mid (restart here inc pend done book) m
    (found_moves here inc pend done mid node m.inv (a.ages here ∙ ap (option_map age) at_here) rises)
  where
    mid : BookValue
    mid = with_node here (with_votes (new_votes here book pend)) book
