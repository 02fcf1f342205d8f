-- A member holds what it had pending, with what it served at the end, until it lets go.
use Rattle.qs_book_laws.proofs.Words.{◌≡◌, ℕ, Bool, true, false, List, [], ◌∷◌, ◌++◌, ◌==◌, ◌&&◌, ◌||◌, Option, Some, None, refl, sym, ap, subst, ◌∙◌, fold, nat_lt, arith, nat_tests, unwrap_or, slice_get, is_some, option_map, lookup, insert_entry, is_at, Equal, append-nil, append_assoc, exact_unsigned, exact_pairs, tied_itself, nat_cmp_total, nat_cmp, tid_cmp, member_cmp, Member, NodeNo, Outcome, Tid, same_tid-true, same_member-true, Op, Reply, Vote, Act, Begin, Issue, Serve, Ask, Counted, Decide}
use Rattle.qs_book_laws.proofs.Words.{Ending, Learn, Loan, Yield, Tick, Crash, Restart, Entry, Found, class_of, is_two_phase, TransactionValue, standing_request, part_of, issued, crossed_by, is_outcome, Request, RequestNo, BookValue, find_transaction, changed_at, with_owner, with_transaction, with_waiting, with_crossing, crosses, issue, serve_node, vote_node, crossed_in, learn_node, doubts_after, hear, answer, waiting_of, loan_to, give_back_from, inc_at, end_node, tick_node, crash_node}
use Rattle.qs_book_laws.proofs.Words.{pending_in, link_to, borrower_at, broken_serve, broken_vote, is_vote_due, broken_learn, may_learn, is_in_order, broken_act, broken_node, broken_at, broken, effect_act, effect, IsLawful, book_after, NodeValue, pending_at, restart, put_new_votes, new_votes, with_votes, restarted_node, reopened, abort_begun, vote_found, commit_found, learn_found, decide_found, up_to, begun_at, is_among, is_open_here, begun_tid, record_at, Owner, is_share, change_of_request}
use Rattle.qs_book_laws.proofs.Words.{standing_at, change_served, changes_served, lets_go, held_at, crossed_at, keeps_contents}
use Rattle.qs_ops.specs.declared.vote.Vote.TheVariants as votes
use Rattle.qs_book_journal.specs.declared.entry.Act.TheVariants.{Answer}
use Rattle.qs_book_journal.specs.declared.entry.Act.TheVariants as acts
use Rattle.qs_book_machine.specs.Transaction.{crossed_from}
use Rattle.qs_book_laws.specs.Served.{IsHolding}
use Rattle.qs_book_laws.proofs.Faces.{either_way, vote_by}
use Rattle.qs_book_laws.proofs.Maps.{lookup_changed, lookup_put}
use Rattle.qs_book_laws.proofs.Shares.{number}
use Rattle.qs_book_laws.proofs.Steps.{passed, held}
use Rattle.qs_book_laws.proofs.Holds.{changes_in, held_in, holds_same, holds_far, holds_more, at_share, crossing_holds, serve_holds, serve_gives, vote_holds, learn_holds}

pub left_of : (a b : Bool) → (a && b) ≡ true → a ≡ true
left_of true b h = refl
left_of false b h = absurd (cc h)

pub right_of : (a b : Bool) → (a && b) ≡ true → b ≡ true
right_of true b h = h
right_of false b h = absurd (cc h)

pub clash : {c : Bool} → c ≡ true → c ≡ false → ⊥
clash h k = absurd (cc (sym h ∙ k))

pub same_number : (m n : ℕ) → (m == n) ≡ true → m ≡ n
same_number m n h = grind (arith, nat_tests)

-- ---- where an act stands

pub serve_here : (book : BookValue) (here : ℕ) (node : NodeValue) (tid : Tid) (o : Option TransactionValue) (member : Member) (from number : ℕ) (reply : Reply) → broken_serve here node book.transactions tid o member from number reply ≡ None → member.node.0 ≡ here
serve_here book here node tid None member from number reply h = absurd (cc h)
serve_here book here node tid (Some tx) member from number reply h = by (member.node.0 == here) refl
  where
    by : (b : Bool) → (member.node.0 == here) ≡ b → member.node.0 ≡ here
    by true is = same_number member.node.0 here is
    by false is = absurd (cc (rw is at h))

pub vote_here : (here : ℕ) (node : NodeValue) (tid : Tid) (o : Option TransactionValue) (member : Member) (ballot : Vote) (covers : ℕ) → broken_vote here node tid o member ballot covers ≡ None → member.node.0 ≡ here
vote_here here node tid None member ballot covers h = absurd (cc h)
vote_here here node tid (Some tx) member ballot covers h =
    let due : is_vote_due here tx member (part_of tx member node.inc) ≡ true = passed (is_vote_due here tx member (part_of tx member node.inc)) 40 _ h in
    same_number member.node.0 here (right_of (is_two_phase (class_of member.server.0)) (member.node.0 == here) (left_of _ _ due))

pub learn_here : (here : ℕ) (node : NodeValue) (o : Option TransactionValue) (member : Member) (outcome : Outcome) → broken_learn here node o member outcome ≡ None → member.node.0 ≡ here
learn_here here node None member outcome h = absurd (cc h)
learn_here here node (Some tx) member outcome h =
    let may : may_learn here tx member (part_of tx member node.inc) outcome ≡ true = passed (may_learn here tx member (part_of tx member node.inc) outcome) 95 _ h in
    same_number member.node.0 here (right_of (is_outcome outcome tx.cell) (member.node.0 == here) (left_of _ _ may))

-- ---- acts that leave the nodes

pub waiting_nodes : (tid : Tid) (issuer member : Member) (book : BookValue) → (with_waiting tid issuer member book).nodes ≡ book.nodes
waiting_nodes tid issuer member book = either_way (λ (x : BookValue). x.nodes) (nat_lt 31 issuer.server.0) _ _ _ refl refl

pub fold_nodes : {A : Type 0} (f : BookValue → A → BookValue) → ((book : BookValue) (x : A) → (f book x).nodes ≡ book.nodes) → (xs : List A) (book : BookValue) → (fold f book xs).nodes ≡ book.nodes
fold_nodes f each [] book = refl
fold_nodes f each (x ∷ xs) book = fold_nodes f each xs (f book x) ∙ each book x

pub loan_nodes : (inc : ℕ) (tid : Tid) (o : Option Member) (book : BookValue) → (loan_to inc tid o book).nodes ≡ book.nodes
loan_nodes inc tid None book = refl
loan_nodes inc tid (Some member) book = refl

pub yield_nodes : (inc : ℕ) (tid : Tid) (o : Option Member) (book : BookValue) → (give_back_from inc tid o book).nodes ≡ book.nodes
yield_nodes inc tid None book = refl
yield_nodes inc tid (Some member) book = refl

-- ---- a restart

learn_found_nodes : (here : ℕ) (tid : Tid) (server : ℕ) (book : BookValue) → (learn_found here tid server book).nodes ≡ book.nodes
learn_found_nodes here tid server book = either_way (λ (x : BookValue). x.nodes) (is_some (record_at here book tid server)) _ _ _ refl refl

decide_found_nodes : (here : ℕ) (tid : Tid) (book : BookValue) → (decide_found here tid book).nodes ≡ book.nodes
decide_found_nodes here tid book = either_way (λ (x : BookValue). x.nodes) (is_open_here here tid (find_transaction book tid)) _ _ _ refl refl

commit_found_nodes : (here : ℕ) (book : BookValue) (tid : Tid) → (commit_found here book tid).nodes ≡ book.nodes
commit_found_nodes here book tid =
    decide_found_nodes here tid (learn_found here tid 6 (learn_found here tid 1 (learn_found here tid 0 book)))
    ∙ (learn_found_nodes here tid 6 (learn_found here tid 1 (learn_found here tid 0 book))
    ∙ (learn_found_nodes here tid 1 (learn_found here tid 0 book) ∙ learn_found_nodes here tid 0 book))

vote_found_nodes : (here inc : ℕ) (done : List Tid) (book : BookValue) (found : Found) → (vote_found here inc done book found).nodes ≡ book.nodes
vote_found_nodes here inc done book found = either_way (λ (x : BookValue). x.nodes) (is_among done found.tid) _ _ _ refl refl

abort_begun_nodes : (here inc : ℕ) (book : BookValue) (seq : ℕ) → (abort_begun here inc book seq).nodes ≡ book.nodes
abort_begun_nodes here inc book seq = either_way (λ (x : BookValue). x.nodes) (is_open_here here (begun_tid here inc seq) (find_transaction book (begun_tid here inc seq))) _ _ _ refl refl

-- the book before the node begins anew, with its transactions settled
abbrev pub settled : ℕ → ℕ → List Found → List Tid → BookValue → BookValue
settled here inc pend done book =
    fold (abort_begun here (inc_at book (record { 0 = here })))
    (fold (vote_found here inc done) (fold (commit_found here) book done) pend)
    (up_to (begun_at here book))

pub settled_nodes : (here inc : ℕ) (pend : List Found) (done : List Tid) (book : BookValue) → (settled here inc pend done book).nodes ≡ book.nodes
settled_nodes here inc pend done book =
    fold_nodes (abort_begun here (inc_at book (record { 0 = here }))) (abort_begun_nodes here (inc_at book (record { 0 = here }))) (up_to (begun_at here book)) (fold (vote_found here inc done) (fold (commit_found here) book done) pend)
    ∙ (fold_nodes (vote_found here inc done) (vote_found_nodes here inc done) pend (fold (commit_found here) book done)
    ∙ fold_nodes (commit_found here) (commit_found_nodes here) done book)

pub restart_nodes : (here inc : ℕ) (pend : List Found) (done : List Tid) (book : BookValue)
    → (restart here inc pend done book).nodes ≡ changed_at here (restarted_node (reopened here inc pend done (put_new_votes here pend book)) pend done) (changed_at here (with_votes (new_votes here book pend)) book.nodes)
restart_nodes here inc pend done book =
    ap (λ (nodes : List NodeValue). changed_at here (restarted_node (reopened here inc pend done (put_new_votes here pend book)) pend done) nodes) (settled_nodes here inc pend done (put_new_votes here pend book))

-- ---- crossing

pub member_equal : (m n : Member) → member_cmp m n ≡ Equal → m ≡ n
member_equal m n e =
    let pairs = exact_pairs nat_cmp nat_cmp exact_unsigned exact_unsigned (m.node.0, m.server.0) (n.node.0, n.server.0) e in
    ap made pairs
  where
    made : ℕ × ℕ → Member
    made p = record { node = record { 0 = p.0 }; server = record { 0 = p.1 } }

pub member_itself : (member : Member) → member_cmp member member ≡ Equal
member_itself member = rw (tied_itself nat_cmp_total member.node.0, tied_itself nat_cmp_total member.server.0) refl

-- once crossed, from whatever place on
crossed_put : (place : ℕ) (member : Member) (xs : List (Member × ℕ)) → is_some (lookup (is_at (member_cmp member)) (crossed_from place member xs)) ≡ true
crossed_put place member xs = by (lookup (is_at (member_cmp member)) xs) refl
  where
    by : (o : Option ℕ) → lookup (is_at (member_cmp member)) xs ≡ o → is_some (lookup (is_at (member_cmp member)) (elim o [ Some earlier ↦ xs | None ↦ insert_entry member_cmp xs member place ])) ≡ true
    by None found = ap (λ (o : Option ℕ). is_some o) (lookup_put member_cmp member place (member_itself member) xs)
    by (Some earlier) found = ap (λ (o : Option ℕ). is_some o) found

issue_crosses : (tid : Tid) (member : Member) (at : RequestNo) (request : Request) (peer_inc place : ℕ) (book : BookValue) → request.member ≡ member → crosses (find_transaction book tid) at member ≡ true
    → crossed_at (with_transaction tid (issued at request peer_inc place) book) tid member ≡ true
issue_crosses tid member at request peer_inc place book is h = of (find_transaction book tid) refl h
  where
    more : (tx : TransactionValue) (o : Option Request) → standing_request tx at member ≡ o → (elim o [ None ↦ false | Some r ↦ true ]) ≡ true → is_some (lookup (is_at (member_cmp member)) (crossed_by (standing_request tx at request.member) place request.member tx.crossed)) ≡ true
    more tx None found say = absurd (cc say)
    more tx (Some r) found say = rw (is, found) (crossed_put place member tx.crossed)

    of : (o : Option TransactionValue) → find_transaction book tid ≡ o → crosses o at member ≡ true → crossed_at (with_transaction tid (issued at request peer_inc place) book) tid member ≡ true
    of None found say = absurd (cc say)
    of (Some tx) found say = rw (lookup_changed (is_at (tid_cmp tid)) (issued at request peer_inc place) book.transactions tx found) (more tx (standing_request tx at member) refl say)

pub crossing_transactions : (c : Bool) (tid : Tid) (member : Member) (book : BookValue) → (with_crossing c tid member book).transactions ≡ book.transactions
crossing_transactions true tid member book = refl
crossing_transactions false tid member book = refl

pub waiting_transactions : (tid : Tid) (issuer member : Member) (book : BookValue) → (with_waiting tid issuer member book).transactions ≡ book.transactions
waiting_transactions tid issuer member book = either_way (λ (x : BookValue). x.transactions) (nat_lt 31 issuer.server.0) _ _ _ refl refl

-- where the transaction isn't crossed at the member after an issue, the issue crossed another, or elsewhere
issue_apart : (tid : Tid) (member : Member) (here : ℕ) (t : Tid) (issuer other : Member) (number : ℕ) (op : Op) (book : BookValue) → crossed_at (issue here t issuer other number op book) tid member ≡ false
    → crosses (find_transaction book t) (record { link = link_to here other; number = number }) other ≡ true → is_share tid member t other ≡ false
issue_apart tid member here t issuer other number op book plain say = by (is_share tid member t other) refl
  where
    request : Request
    request = record { issuer = issuer; member = other; op = op; inc = inc_at book (record { 0 = here }); served = false }

    one : BookValue
    one = with_transaction t (issued (record { link = link_to here other; number = number }) request (inc_at book other.node) book.place) book

    same : (issue here t issuer other number op book).transactions ≡ one.transactions
    same =
        crossing_transactions (crosses (find_transaction book t) (record { link = link_to here other; number = number }) other) t other (with_waiting t issuer other one)
        ∙ waiting_transactions t issuer other one

    crossed : crossed_at one t other ≡ true
    crossed = issue_crosses t other (record { link = link_to here other; number = number }) request (inc_at book other.node) book.place book refl say

    by : (c : Bool) → is_share tid member t other ≡ c → is_share tid member t other ≡ false
    by false apart = apart
    by true mine =
        let e : t ≡ tid = same_tid-true t tid (left_of _ _ mine) in
        let f : other ≡ member = same_member-true other member (right_of _ _ mine) in
        let late : crossed_at one tid member ≡ true = subst (λ (x : Tid). crossed_at one x member ≡ true) e (subst (λ (x : Member). crossed_at one t x ≡ true) f crossed) in
        let last : crossed_at (issue here t issuer other number op book) tid member ≡ true = ap (λ (ts : List (Tid × TransactionValue)). crossed_in (lookup (is_at (tid_cmp tid)) ts) member) same ∙ late in
        absurd (clash last plain)

-- ---- each act

module _ (b : Bool) (tid : Tid) (member : Member) (is : member.server.0 ≡ number b) where
  abbrev pub Holds : BookValue → BookValue → List Op → Type 0
  Holds book new more = held_in b tid member.node.0 new.nodes ≡ held_in b tid member.node.0 book.nodes ++ more

  same_nodes : (book new : BookValue) → new.nodes ≡ book.nodes → Holds book new []
  same_nodes book new e = ap (held_in b tid member.node.0) e ∙ sym (append-nil (held_in b tid member.node.0 book.nodes))

  plain_node : (book : BookValue) (here : ℕ) (f : NodeValue → NodeValue) → ((v : NodeValue) → changes_in b tid (f v) ≡ changes_in b tid v) → held_in b tid member.node.0 (changed_at here f book.nodes) ≡ held_in b tid member.node.0 book.nodes ++ []
  plain_node book here f keeps = holds_same b tid member.node.0 here f keeps book.nodes ∙ sym (append-nil (held_in b tid member.node.0 book.nodes))

  abbrev here_as : BookValue → ℕ → (NodeValue → NodeValue) → List Op → Type 0
  here_as book here f more = held_in b tid member.node.0 (changed_at here f book.nodes) ≡ held_in b tid member.node.0 book.nodes ++ more

  serve_other : (book : BookValue) (t : Tid) (other : Member) (o : Option TransactionValue) (at : RequestNo) (reply : Reply) → is_share tid member t other ≡ false → here_as book other.node.0 (serve_node o at t other reply) []
  serve_other book t other o at reply apart =
      at_share b tid member is t other (serve_node o at t other reply) (λ v h. serve_holds b tid t o at other reply v h) apart book.nodes
      ∙ sym (append-nil (held_in b tid member.node.0 book.nodes))

  serve_mine : (book : BookValue) (node : NodeValue) (o : Option TransactionValue) (at : RequestNo) (reply : Reply) → slice_get book.nodes member.node.0 ≡ Some node → crossed_in o member ≡ false
      → here_as book member.node.0 (serve_node o at tid member reply) (change_of_request (standing_at o at member) reply)
  serve_mine book node o at reply at_here plain =
      holds_more b tid member.node.0 (serve_node o at tid member reply) (change_of_request (standing_at o at member) reply) (serve_gives b tid o at member reply is plain) book.nodes node at_here

  abbrev request_no : NodeNo → ℕ → Member → RequestNo
  request_no from number other = record { link = record { from = from; to = other.node }; number = number }

  serves : (book : BookValue) (node : NodeValue) (t : Tid) (other : Member) (from : NodeNo) (number : ℕ) (reply : Reply) → slice_get book.nodes other.node.0 ≡ Some node → crossed_at book tid member ≡ false
      → here_as book other.node.0 (serve_node (find_transaction book t) (request_no from number other) t other reply) (change_served book tid member (Serve t other from number reply))
  serves book node t other from number reply at_here plain = by (is_share tid member t other) refl
    where
      by : (c : Bool) → is_share tid member t other ≡ c
          → here_as book other.node.0 (serve_node (find_transaction book t) (request_no from number other) t other reply) (change_served book tid member (Serve t other from number reply))
      by false apart = rw apart (serve_other book t other (find_transaction book t) (request_no from number other) reply apart)
      by true mine =
          let e : t ≡ tid = same_tid-true t tid (left_of _ _ mine) in
          let f : other ≡ member = same_member-true other member (right_of _ _ mine) in
          rw mine (subst (λ (x : Tid). here_as book other.node.0 (serve_node (find_transaction book x) (request_no from number other) x other reply) (change_of_request (standing_at (find_transaction book x) (request_no from number other) other) reply)) (sym e)
          (subst (λ (x : Member). here_as book x.node.0 (serve_node (find_transaction book tid) (request_no from number x) tid x reply) (change_of_request (standing_at (find_transaction book tid) (request_no from number x) x) reply)) (sym f)
          (serve_mine book node (find_transaction book tid) (request_no from number member) reply (subst (λ (x : Member). slice_get book.nodes x.node.0 ≡ Some node) f at_here) plain)))

  votes_on : (book : BookValue) (t : Tid) (other : Member) (count : ℕ) (crossed : Bool) (ballot : Vote) (covers : ℕ) → lets_go tid member other.node.0 (acts.Vote t other ballot covers) ≡ false
      → here_as book other.node.0 (vote_node count crossed t other.server.0 ballot covers) []
  votes_on book t other count crossed ballot covers keeps = of ballot keeps ∙ sym (append-nil (held_in b tid member.node.0 book.nodes))
    where
      plain : (ballot : Vote) → (ballot ≡ votes.ReadOnly → ⊥) → held_in b tid member.node.0 (changed_at other.node.0 (vote_node count crossed t other.server.0 ballot covers) book.nodes) ≡ held_in b tid member.node.0 book.nodes
      plain ballot not_read = holds_same b tid member.node.0 other.node.0 (vote_node count crossed t other.server.0 ballot covers) (λ v. vote_holds b tid t count crossed other.server.0 ballot covers v (λ e. absurd (not_read e))) book.nodes

      of : (ballot : Vote) → lets_go tid member other.node.0 (acts.Vote t other ballot covers) ≡ false → held_in b tid member.node.0 (changed_at other.node.0 (vote_node count crossed t other.server.0 ballot covers) book.nodes) ≡ held_in b tid member.node.0 book.nodes
      of votes.ReadOnly apart = at_share b tid member is t other (vote_node count crossed t other.server.0 votes.ReadOnly covers) (λ v h. vote_holds b tid t count crossed other.server.0 votes.ReadOnly covers v (λ read. h)) apart book.nodes
      of (votes.Abort reason) apart = plain (votes.Abort reason) (λ e. absurd (cc e))
      of votes.Volatile apart = plain votes.Volatile (λ e. absurd (cc e))
      of votes.Recoverable apart = plain votes.Recoverable (λ e. absurd (cc e))

  learns_on : (book : BookValue) (t : Tid) (other : Member) (outcome : Outcome) → is_share tid member t other ≡ false
      → here_as book other.node.0 (λ v. doubts_after t other.server.0 (learn_node outcome t other.server.0 v)) []
  learns_on book t other outcome apart =
      at_share b tid member is t other (λ v. doubts_after t other.server.0 (learn_node outcome t other.server.0 v)) (λ v h. learn_holds b tid t other.server.0 outcome v h) apart book.nodes
      ∙ sym (append-nil (held_in b tid member.node.0 book.nodes))

  crossing_on : (book mid : BookValue) (c : Bool) (t : Tid) (other : Member) → mid.nodes ≡ book.nodes → (c ≡ true → is_share tid member t other ≡ false) → Holds book (with_crossing c t other mid) []
  crossing_on book mid false t other e apart = same_nodes book mid e
  crossing_on book mid true t other e apart =
      crossing_holds b tid member is t other (apart refl) mid.nodes ∙ (ap (held_in b tid member.node.0) e ∙ sym (append-nil (held_in b tid member.node.0 book.nodes)))

  -- an act of a node that is up
  acted_holds : (book : BookValue) (stamp here : ℕ) (node : NodeValue) (act : Act) → slice_get book.nodes here ≡ Some node → broken_act book stamp here node act ≡ None → lets_go tid member here act ≡ false
      → crossed_at book tid member ≡ false → crossed_at (effect_act stamp here act book) tid member ≡ false → Holds book (effect_act stamp here act book) (change_served book tid member act)
  acted_holds book stamp here node (Begin t label client) at h keeps was after = plain_node book here (λ (v : NodeValue). record v { begun = t.seq }) (λ v. begins b v)
    where
      begins : (c : Bool) (v : NodeValue) → changes_in c tid (record v { begun = t.seq }) ≡ changes_in c tid v
      begins true v = refl
      begins false v = refl
  acted_holds book stamp here node (Issue t issuer other number op) at h keeps was after =
      crossing_on book (with_waiting t issuer other one) (crosses (find_transaction book t) (record { link = link_to here other; number = number }) other) t other
      (waiting_nodes t issuer other one) (issue_apart tid member here t issuer other number op book after)
    where
      one : BookValue
      one = with_transaction t (issued (record { link = link_to here other; number = number }) (record { issuer = issuer; member = other; op = op; inc = inc_at book (record { 0 = here }); served = false }) (inc_at book other.node) book.place) book
  acted_holds book stamp here node (Serve t other from number reply) at h keeps was after =
      let e : other.node.0 ≡ here = serve_here book here node t (find_transaction book t) other from.0 number reply h in
      subst (λ (n : ℕ). here_as book n (serve_node (find_transaction book t) (request_no from number other) t other reply) (change_served book tid member (Serve t other from number reply))) e
      (serves book node t other from number reply (subst (λ (n : ℕ). slice_get book.nodes n ≡ Some node) (sym e) at) was)
  acted_holds book stamp here node (acts.Vote t other ballot covers) at h keeps was after =
      let e : other.node.0 ≡ here = vote_here here node t (find_transaction book t) other ballot covers h in
      subst (λ (n : ℕ). here_as book n (vote_by book here t other ballot covers) []) e
      (votes_on book t other (pending_in (find_transaction book t) other (inc_at book (record { 0 = here }))) (crossed_in (find_transaction book t) other) ballot covers (subst (λ (n : ℕ). lets_go tid member n (acts.Vote t other ballot covers) ≡ false) (sym e) keeps))
  acted_holds book stamp here node (Ask t) at h keeps was after = same_nodes book book refl
  acted_holds book stamp here node (Counted t peer up_to) at h keeps was after = same_nodes book book refl
  acted_holds book stamp here node (Decide t outcome cause) at h keeps was after = same_nodes book book refl
  acted_holds book stamp here node (Ending t other) at h keeps was after = plain_node book here (end_node t) (ends b)
    where
      ends : (c : Bool) (v : NodeValue) → changes_in c tid (end_node t v) ≡ changes_in c tid v
      ends true v = refl
      ends false v = refl
  acted_holds book stamp here node (Learn t other outcome) at h keeps was after =
      let e : other.node.0 ≡ here = learn_here here node (find_transaction book t) other outcome h in
      subst (λ (n : ℕ). here_as book n (λ v. doubts_after t other.server.0 (learn_node outcome t other.server.0 v)) []) e (learns_on book t other outcome keeps)
  acted_holds book stamp here node (Answer client line said) at h keeps was after = same_nodes book (answer client line book) (fold_nodes hear (λ x y. refl) (waiting_of (slice_get book.owners client.0)) (with_owner client.0 (λ (owner : Owner). record owner { line = line; waiting = [] }) book))
  acted_holds book stamp here node (Loan t client) at h keeps was after = same_nodes book (loan_to (inc_at book (record { 0 = here })) t (borrower_at client here) book) (loan_nodes (inc_at book (record { 0 = here })) t (borrower_at client here) book)
  acted_holds book stamp here node (Yield t client) at h keeps was after = same_nodes book (give_back_from (inc_at book (record { 0 = here })) t (borrower_at client here) book) (yield_nodes (inc_at book (record { 0 = here })) t (borrower_at client here) book)
  acted_holds book stamp here node Tick at h keeps was after = plain_node book here (tick_node stamp) (ticks b)
    where
      ticks : (c : Bool) (v : NodeValue) → changes_in c tid (tick_node stamp v) ≡ changes_in c tid v
      ticks true v = refl
      ticks false v = refl
  acted_holds book stamp here node (Crash cause) at h keeps was after = plain_node book here (crash_node book.place) (stops b)
    where
      stops : (c : Bool) (v : NodeValue) → changes_in c tid (crash_node book.place v) ≡ changes_in c tid v
      stops true v = refl
      stops false v = refl
  acted_holds book stamp here node (Restart inc pend done) at h keeps was after = absurd (cc h)

  -- a restart of another node
  restart_holds : (here inc : ℕ) (pend : List Found) (done : List Tid) (book : BookValue) → (here == member.node.0) ≡ false → Holds book (restart here inc pend done book) []
  restart_holds here inc pend done book far =
      ap (held_in b tid member.node.0) (restart_nodes here inc pend done book)
      ∙ (holds_far b tid member.node.0 here (restarted_node (reopened here inc pend done (put_new_votes here pend book)) pend done) far (changed_at here (with_votes (new_votes here book pend)) book.nodes)
      ∙ (holds_far b tid member.node.0 here (with_votes (new_votes here book pend)) far book.nodes ∙ sym (append-nil (held_in b tid member.node.0 book.nodes))))

  node_holds : (book : BookValue) (stamp here : ℕ) (node : NodeValue) (act : Act) → slice_get book.nodes here ≡ Some node → broken_node book stamp here node act ≡ None → lets_go tid member here act ≡ false
      → crossed_at book tid member ≡ false → crossed_at (effect_act stamp here act book) tid member ≡ false → Holds book (effect_act stamp here act book) (change_served book tid member act)
  node_holds book stamp here node (Restart inc pend done) at h keeps was after = restart_holds here inc pend done book keeps
  node_holds book stamp here node act at h keeps was after = acted_holds book stamp here node act at (held node.up 2 (broken_act book stamp here node act) h).1 keeps was after

  at_holds : (book : BookValue) (stamp here : ℕ) (o : Option NodeValue) (act : Act) → slice_get book.nodes here ≡ o → broken_at book stamp here o act ≡ None → lets_go tid member here act ≡ false
      → crossed_at book tid member ≡ false → crossed_at (effect_act stamp here act book) tid member ≡ false → Holds book (effect_act stamp here act book) (change_served book tid member act)
  at_holds book stamp here None act at h keeps was after = absurd (cc h)
  at_holds book stamp here (Some node) act at h keeps was after = node_holds book stamp here node act at h keeps was after

  pub step_holds : (book : BookValue) (entry : Entry) → broken book entry ≡ None → lets_go tid member entry.node.0 entry.act ≡ false
      → crossed_at book tid member ≡ false → crossed_at (effect book entry) tid member ≡ false → Holds book (effect book entry) (change_served book tid member entry.act)
  step_holds book entry h keeps was after =
      at_holds book entry.stamp entry.node.0 (slice_get book.nodes entry.node.0) entry.act refl (held (is_in_order book entry) 1 _ h).1 keeps was after

  plain_first : (book : BookValue) (entries : List Entry) → IsHolding book tid member entries → crossed_at book tid member ≡ false
  plain_first book [] holding = holding
  plain_first book (entry ∷ entries) holding = holding.0

  pub history_holds : (entries : List Entry) (book : BookValue) → IsLawful book entries → IsHolding book tid member entries → Holds book (book_after book entries) (changes_served book tid member entries)
  history_holds [] book lawful holding = sym (append-nil (held_in b tid member.node.0 book.nodes))
  history_holds (entry ∷ entries) book lawful holding =
      history_holds entries (effect book entry) lawful.1 holding.1.1
      ∙ (ap (λ (ops : List Op). ops ++ changes_served (effect book entry) tid member entries)
      (step_holds book entry lawful.0 holding.1.0 holding.0 (plain_first (effect book entry) entries holding.1.1))
      ∙ append_assoc (held_in b tid member.node.0 book.nodes) (change_served book tid member entry.act) (changes_served (effect book entry) tid member entries))

  pub held_is : (book : BookValue) → held_at book tid member ≡ held_in b tid member.node.0 book.nodes
  held_is book = of (slice_get book.nodes member.node.0)
    where
      one : (c : Bool) (v : NodeValue) → pending_at v tid (number c) ≡ changes_in c tid v
      one true v = refl
      one false v = refl

      of : (o : Option NodeValue) → unwrap_or (option_map (λ (v : NodeValue). pending_at v tid member.server.0) o) [] ≡ unwrap_or (option_map (changes_in b tid) o) []
      of None = refl
      of (Some v) = subst (λ (s : ℕ). pending_at v tid s ≡ changes_in b tid v) (sym is) (one b v)

  holds_served : (book : BookValue) (entries : List Entry) → IsLawful book entries → IsHolding book tid member entries
      → held_at (book_after book entries) tid member ≡ held_at book tid member ++ changes_served book tid member entries
  holds_served book entries lawful holding =
      held_is (book_after book entries)
      ∙ (history_holds entries book lawful holding ∙ ap (λ (ops : List Op). ops ++ changes_served book tid member entries) (sym (held_is book)))

-- files, or audit
pub which : (s : ℕ) → keeps_contents s ≡ true → (b : Bool) × (s ≡ number b)
which s h = by (s == 0) (s == 1) refl refl h
  where
    by : (x y : Bool) → (s == 0) ≡ x → (s == 1) ≡ y → (x || y) ≡ true → (b : Bool) × (s ≡ number b)
    by true y p q or = (true, same_number s 0 p)
    by false true p q or = (false, same_number s 1 q)
    by false false p q or = absurd (cc or)

pub holds_what_it_served : (book : BookValue) (entries : List Entry) (tid : Tid) (member : Member) → keeps_contents member.server.0 ≡ true → IsLawful book entries → IsHolding book tid member entries
    → held_at (book_after book entries) tid member ≡ held_at book tid member ++ changes_served book tid member entries
holds_what_it_served book entries tid member keeps lawful holding =
    let w : (b : Bool) × (member.server.0 ≡ number b) = which member.server.0 keeps in
    holds_served w.0 tid member w.1 book entries lawful holding
