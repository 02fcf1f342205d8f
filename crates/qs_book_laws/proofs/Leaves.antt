-- What a member has on record of a transaction, and its counts, stay as they are at an entry at which it does nothing on it.
use Rattle.qs_book_laws.proofs.Words.{◌≡◌, ℕ, Bool, true, false, List, [], ◌==◌, Option, Some, None, refl, sym, ap, subst, ◌∙◌, unwrap_or, slice_get, option_map, lookup, is_at, tid_cmp, same_tid, ClientNo, Member, NodeNo, Outcome, Tid, Op, Reply, Vote, tid_exact, Act, Begin, Issue, Serve, Ask, Counted, Decide, Ending, Learn, Loan, Yield, Tick, Crash, Restart, Found, TransactionValue, begun, issued, asked_at, counted, ended, ended_part, learnt, voted, served_in, life, life_cmp, Request, BookValue}
use Rattle.qs_book_laws.proofs.Words.{find_transaction, changed_at, with_node, with_owner, with_transaction, with_waiting, crosses, begin, issue, serve, vote, crossed_in, learn, learn_node, doubts_after, answer, waiting_of, inc_at, is_done, ticks_at, end, count, loan, give_back, tick_node, crash_node, link_to, borrower_at, broken_vote, broken_learn, Entry, TableValue, committed, is_in_order, broken_act, broken_node, broken_at, broken, effect_act, effect, NodeValue, with_table, restart}
use Rattle.qs_book_laws.proofs.Words.{restarted_node, reopened, put_new_votes, with_votes, new_votes, Owner, is_share, lets_go, votes_on}
use Rattle.qs_base.specs.declared.identifiers.Outcome.TheVariants as outcomes
use Rattle.qs_ops.specs.declared.vote.Vote.TheVariants as votes
use Rattle.qs_book_journal.specs.declared.entry.Act.TheVariants.{Answer}
use Rattle.qs_book_journal.specs.declared.entry.Act.TheVariants as acts
use Rattle.qs_book_laws.proofs.Acts as alike
use Rattle.qs_book_laws.proofs.Alikes.{tid_itself, at_exact}
use Rattle.qs_book_laws.proofs.Counts.{count_of, count_in, no_count, Counted as SameCount, of_transaction, of_decide, of_hear, of_loan, of_yield, of_settled, changed_counts, learnt_counts, put_apart, voted_apart}
use Rattle.qs_book_laws.proofs.Faces.{face, Alike, either_way, vote_by, pending_now}
use Rattle.qs_book_laws.proofs.Holding.{vote_here, learn_here, restart_nodes, crossing_transactions, waiting_transactions}
use Rattle.qs_book_laws.proofs.Holds.{elsewhere}
use Rattle.qs_book_laws.proofs.Maps.{changed_at_alike, lookup_put, lookup_put_apart}
use Rattle.qs_book_laws.proofs.Outcomes.{Inv, is_new}
use Rattle.qs_book_laws.proofs.Shares.{number}
use Rattle.qs_book_laws.proofs.StillActs as still
use Rattle.qs_book_laws.proofs.Steps.{begin_may, held}
use Rattle.qs_book_laws.proofs.Stills.{Still}
use Rattle.qs_book_laws.proofs.Covers.{mark_in, mark_of, SameMark, still_mark, share_mark, put_mark, remove_mark, apart_count}

-- the member serves a request of the transaction
abbrev pub serves_on : Tid → Member → Act → Bool
serves_on tid member (acts.Serve t other from number reply) = is_share tid member t other
serves_on tid member act = false

module _ (tid : Tid) (member : Member) where
  pub record Leaves (old new : BookValue) : Type 0 where
    pub mark : SameMark tid member old new
    pub count : SameCount tid member old new

  stilly : (old new : BookValue) → Still old new → Alike old new → SameCount tid member old new → Leaves old new
  stilly old new a b count = record { mark = still_mark tid member old new a b; count = count }

  -- ---- a begin

  begin_count : (book : BookValue) (here : ℕ) (node : NodeValue) (t : Tid) (label : List ℕ) (client : ClientNo) → Inv book → slice_get book.nodes here ≡ Some node → broken_act book 0 here node (Begin t label client) ≡ None
      → SameCount tid member book (begin here t label client book)
  begin_count book here node t label client i at h inc = by (is_at (tid_cmp tid) t) refl
    where
      tx : TransactionValue
      tx = begun label client (ticks_at (slice_get book.nodes here))

      none : (o : Option TransactionValue) → find_transaction book t ≡ o → unwrap_or (option_map (count_in member inc) o) no_count ≡ no_count
      none None is = refl
      none (Some old) is = absurd (is_new book here node t label client i at (begin_may here node book.labels t label h) (face old) (ap (λ (o : Option TransactionValue). option_map face o) is))

      by : (b : Bool) → is_at (tid_cmp tid) t ≡ b → count_of (begin here t label client book) tid member inc ≡ count_of book tid member inc
      by false other = ap (λ (o : Option TransactionValue). unwrap_or (option_map (count_in member inc) o) no_count) (lookup_put_apart tid_cmp t tx (λ x. tid_exact t x) (is_at (tid_cmp tid)) other book.transactions)
      by true same =
          let e : tid ≡ t = at_exact tid t same in
          subst (λ (x : Tid). count_of (begin here t label client book) x member inc ≡ count_of book x member inc) (sym e)
          (ap (λ (o : Option TransactionValue). unwrap_or (option_map (count_in member inc) o) no_count) (lookup_put tid_cmp t tx (tid_itself t) book.transactions) ∙ sym (none (find_transaction book t) refl))

  -- ---- each act

  with_table_mark : (k : ℕ) (f : TableValue → TableValue) (v : NodeValue) → mark_in tid member.server.0 (with_table k f v) ≡ mark_in tid member.server.0 v
  with_table_mark k f v =
      either_way (mark_in tid member.server.0) (k == 0) _ _ _ refl
      (either_way (mark_in tid member.server.0) (k == 1) _ _ _ refl
      (either_way (mark_in tid member.server.0) (k == 2) _ _ _ refl
      (either_way (mark_in tid member.server.0) (k == 4) _ _ _ refl
      (either_way (mark_in tid member.server.0) (k == 5) _ _ _ refl refl))))

  learn_mark : (t : Tid) (k : ℕ) (v : NodeValue) → (k ≡ member.server.0 → same_tid t tid ≡ false) → mark_in tid member.server.0 (doubts_after t k (learn_node outcomes.Commit t k v)) ≡ mark_in tid member.server.0 v
  learn_mark t k v apart =
      either_way (mark_in tid member.server.0) (k == 2) _ _ _ refl refl
      ∙ (remove_mark tid member t k (with_table k (λ table. committed table t) v) apart ∙ with_table_mark k (λ table. committed table t) v)

  vote_count : (book : BookValue) (here : ℕ) (t : Tid) (other : Member) (ballot : Vote) (covers : ℕ) → is_share tid member t other ≡ false → SameCount tid member book (vote here t other ballot covers book)
  vote_count book here t other ballot covers apart =
      apart_count tid member t other (voted other (inc_at book (record { 0 = here })) ballot) (λ far inc tx. voted_apart member other inc (inc_at book (record { 0 = here })) ballot tx far) apart book

  vote_leaves : (book : BookValue) (here : ℕ) (node : NodeValue) (t : Tid) (other : Member) (ballot : Vote) (covers : ℕ) → broken_vote here node t (find_transaction book t) other ballot covers ≡ None → is_share tid member t other ≡ false
      → Leaves book (vote here t other ballot covers book)
  vote_leaves book here node t other ballot covers h apart = of ballot h
    where
      plain : (ballot : Vote) → still.goes_on_record ballot ≡ false → Leaves book (vote here t other ballot covers book)
      plain ballot off = stilly book (vote here t other ballot covers book) (still.by_vote here t other ballot covers book off) (alike.by_vote here t other ballot covers book) (vote_count book here t other ballot covers apart)

      of : (ballot : Vote) → broken_vote here node t (find_transaction book t) other ballot covers ≡ None → Leaves book (vote here t other ballot covers book)
      of votes.ReadOnly h = plain votes.ReadOnly refl
      of (votes.Abort reason) h = plain (votes.Abort reason) refl
      of votes.Volatile h = plain votes.Volatile refl
      of votes.Recoverable h =
          let e : other.node.0 ≡ here = vote_here here node t (find_transaction book t) other votes.Recoverable covers h in
          let f : NodeValue → NodeValue = vote_by book here t other votes.Recoverable covers in
          record {
            mark =
                subst (λ (n : ℕ). option_map (mark_in tid member.server.0) (slice_get (changed_at n (vote_by book here t other votes.Recoverable covers) book.nodes) member.node.0) ≡ mark_of book tid member) e
                (share_mark tid member t other f (λ v far. put_mark tid member t other.server.0 (pending_now book here t other) (crossed_in (find_transaction book t) other) covers v far) apart book.nodes);
            count = vote_count book here t other votes.Recoverable covers apart;
          }

  learn_leaves : (book : BookValue) (here : ℕ) (node : NodeValue) (t : Tid) (other : Member) (outcome : Outcome) → broken_learn here node (find_transaction book t) other outcome ≡ None → is_share tid member t other ≡ false
      → Leaves book (learn here t other outcome book)
  learn_leaves book here node t other outcome h apart = of outcome h
    where
      count : (outcome : Outcome) → SameCount tid member book (learn here t other outcome book)
      count outcome = of_transaction tid member t (learnt other (inc_at book (record { 0 = here })) outcome) (λ inc tx. learnt_counts member other inc (inc_at book (record { 0 = here })) outcome tx) book

      of : (outcome : Outcome) → broken_learn here node (find_transaction book t) other outcome ≡ None → Leaves book (learn here t other outcome book)
      of outcomes.Abort h = stilly book (learn here t other outcomes.Abort book) (still.by_learn_abort here t other book) (alike.by_learn here t other outcomes.Abort book) (count outcomes.Abort)
      of outcomes.Commit h =
          let e : other.node.0 ≡ here = learn_here here node (find_transaction book t) other outcomes.Commit h in
          record {
            mark =
                subst (λ (n : ℕ). option_map (mark_in tid member.server.0) (slice_get (changed_at n (λ v. doubts_after t other.server.0 (learn_node outcomes.Commit t other.server.0 v)) book.nodes) member.node.0) ≡ mark_of book tid member) e
                (share_mark tid member t other (λ v. doubts_after t other.server.0 (learn_node outcomes.Commit t other.server.0 v)) (λ v far. learn_mark t other.server.0 v far) apart book.nodes);
            count = count outcomes.Commit;
          }

  pub serve_mark : (book : BookValue) (here : ℕ) (t : Tid) (other : Member) (from : NodeNo) (n_th stamp : ℕ) (reply : Reply) → SameMark tid member book (serve here t other from n_th stamp reply book)
  serve_mark book here t other from n_th stamp reply =
      still_mark tid member book (serve here t other from n_th stamp reply book) (still.by_serve here t other from n_th stamp reply book) (alike.by_serve here t other from n_th stamp reply book)

  serve_leaves : (book : BookValue) (here : ℕ) (t : Tid) (other : Member) (from : NodeNo) (n_th stamp : ℕ) (reply : Reply) → is_share tid member t other ≡ false → Leaves book (serve here t other from n_th stamp reply book)
  serve_leaves book here t other from n_th stamp reply apart = record {
    mark = serve_mark book here t other from n_th stamp reply;
    count =
        apart_count tid member t other (served_in (record { link = record { from = from; to = other.node }; number = n_th }) other (inc_at book (record { 0 = here })) stamp (is_done reply))
        (λ far inc tx. put_apart member other inc (inc_at book (record { 0 = here })) _ tx far) apart book;
  }

  issue_count : (here : ℕ) (t : Tid) (issuer other : Member) (n_th : ℕ) (op : Op) (book : BookValue) → SameCount tid member book (issue here t issuer other n_th op book)
  issue_count here t issuer other n_th op book inc =
      ap (λ (ts : List (Tid × TransactionValue)). unwrap_or (option_map (count_in member inc) (lookup (is_at (tid_cmp tid)) ts)) no_count)
      (crossing_transactions (crosses (find_transaction book t) (record { link = link_to here other; number = n_th }) other) t other (with_waiting t issuer other one) ∙ waiting_transactions t issuer other one)
      ∙ of_transaction tid member t (issued (record { link = link_to here other; number = n_th }) request (inc_at book other.node) book.place) (λ k tx. refl) book inc
    where
      request : Request
      request = record { issuer = issuer; member = other; op = op; inc = inc_at book (record { 0 = here }); served = false }

      one : BookValue
      one = with_transaction t (issued (record { link = link_to here other; number = n_th }) request (inc_at book other.node) book.place) book

  acted_leaves : (book : BookValue) (stamp here : ℕ) (node : NodeValue) (act : Act) → Inv book → slice_get book.nodes here ≡ Some node → broken_act book stamp here node act ≡ None
      → lets_go tid member here act ≡ false → votes_on tid member act ≡ false → serves_on tid member act ≡ false → Leaves book (effect_act stamp here act book)
  acted_leaves book stamp here node (Begin t label client) i at h keeps quiet idle = record {
    mark = changed_at_alike (mark_in tid member.server.0) (λ (v : NodeValue). record v { begun = t.seq }) (λ v. refl) book.nodes here member.node.0;
    count = begin_count book here node t label client i at h;
  }
  acted_leaves book stamp here node (Issue t issuer other n_th op) i at h keeps quiet idle =
      stilly book (issue here t issuer other n_th op book) (still.by_issue here t issuer other n_th op book) (alike.by_issue here t issuer other n_th op book) (issue_count here t issuer other n_th op book)
  acted_leaves book stamp here node (Serve t other from n_th reply) i at h keeps quiet idle = serve_leaves book here t other from n_th stamp reply idle
  acted_leaves book stamp here node (acts.Vote t other ballot covers) i at h keeps quiet idle = vote_leaves book here node t other ballot covers h quiet
  acted_leaves book stamp here node (Ask t) i at h keeps quiet idle = record { mark = refl; count = of_transaction tid member t (asked_at book.place) (λ k tx. refl) book }
  acted_leaves book stamp here node (Counted t peer upto) i at h keeps quiet idle = record {
    mark = refl;
    count = of_transaction tid member t (counted (record { from = record { 0 = here }; to = peer }) (inc_at book (record { 0 = here })) upto (inc_at book peer)) (λ k tx. refl) book;
  }
  acted_leaves book stamp here node (Decide t outcome cause) i at h keeps quiet idle = record { mark = refl; count = of_decide tid member t outcome cause book }
  acted_leaves book stamp here node (Ending t other) i at h keeps quiet idle =
      stilly book (end here t other book) (still.by_end here t other book) (alike.by_end here t other book)
      (of_transaction tid member t (ended other (inc_at book (record { 0 = here }))) (λ k tx. changed_counts member k (is_at (life_cmp (life other (inc_at book (record { 0 = here }))))) ended_part (λ part. refl) tx) book)
  acted_leaves book stamp here node (Learn t other outcome) i at h keeps quiet idle = learn_leaves book here node t other outcome h keeps
  acted_leaves book stamp here node (Answer client line said) i at h keeps quiet idle =
      stilly book (answer client line book) (still.by_answer client line book) (alike.by_answer client line book)
      (of_hear tid member (waiting_of (slice_get book.owners client.0)) (with_owner client.0 (λ (owner : Owner). record owner { line = line; waiting = [] }) book))
  acted_leaves book stamp here node (Loan t client) i at h keeps quiet idle =
      stilly book (loan here t client book) (still.by_loan here t client book) (alike.by_loan here t client book) (of_loan tid member (inc_at book (record { 0 = here })) t (borrower_at client here) book)
  acted_leaves book stamp here node (Yield t client) i at h keeps quiet idle =
      stilly book (give_back here t client book) (still.by_yield here t client book) (alike.by_yield here t client book) (of_yield tid member (inc_at book (record { 0 = here })) t (borrower_at client here) book)
  acted_leaves book stamp here node Tick i at h keeps quiet idle =
      stilly book (with_node here (tick_node stamp) book) (still.by_tick here stamp book) (alike.by_tick here stamp book) (λ k. refl)
  acted_leaves book stamp here node (Crash cause) i at h keeps quiet idle =
      stilly book (with_node here (crash_node book.place) book) (still.by_crash here book) (alike.by_crash here book) (λ k. refl)
  acted_leaves book stamp here node (Restart inc pend done) i at h keeps quiet idle = absurd (cc h)

  -- a restart of another node
  restart_leaves : (here inc : ℕ) (pend : List Found) (done : List Tid) (book : BookValue) → (here == member.node.0) ≡ false → Leaves book (restart here inc pend done book)
  restart_leaves here inc pend done book far = record {
    mark =
        ap (λ (nodes : List NodeValue). option_map (mark_in tid member.server.0) (slice_get nodes member.node.0)) (restart_nodes here inc pend done book)
        ∙ (ap (λ (o : Option NodeValue). option_map (mark_in tid member.server.0) o)
        (elsewhere (restarted_node (reopened here inc pend done (put_new_votes here pend book)) pend done) (changed_at here (with_votes (new_votes here book pend)) book.nodes) here member.node.0 far
        ∙ elsewhere (with_votes (new_votes here book pend)) book.nodes here member.node.0 far));
    count = of_settled tid member here inc pend done far (put_new_votes here pend book);
  }

  node_leaves : (book : BookValue) (stamp here : ℕ) (node : NodeValue) (act : Act) → Inv book → slice_get book.nodes here ≡ Some node → broken_node book stamp here node act ≡ None
      → lets_go tid member here act ≡ false → votes_on tid member act ≡ false → serves_on tid member act ≡ false → Leaves book (effect_act stamp here act book)
  node_leaves book stamp here node (Restart inc pend done) i at h keeps quiet idle = restart_leaves here inc pend done book keeps
  node_leaves book stamp here node act i at h keeps quiet idle = acted_leaves book stamp here node act i at (held node.up 2 (broken_act book stamp here node act) h).1 keeps quiet idle

  at_leaves : (book : BookValue) (stamp here : ℕ) (o : Option NodeValue) (act : Act) → Inv book → slice_get book.nodes here ≡ o → broken_at book stamp here o act ≡ None
      → lets_go tid member here act ≡ false → votes_on tid member act ≡ false → serves_on tid member act ≡ false → Leaves book (effect_act stamp here act book)
  at_leaves book stamp here None act i at h keeps quiet idle = absurd (cc h)
  at_leaves book stamp here (Some node) act i at h keeps quiet idle = node_leaves book stamp here node act i at h keeps quiet idle

  -- it does not let go, vote or serve there
  pub step_leaves : (book : BookValue) (entry : Entry) → Inv book → broken book entry ≡ None → lets_go tid member entry.node.0 entry.act ≡ false → votes_on tid member entry.act ≡ false → serves_on tid member entry.act ≡ false → Leaves book (effect book entry)
  step_leaves book entry i h keeps quiet idle =
      let l : Leaves book (effect_act entry.stamp entry.node.0 entry.act book) = at_leaves book entry.stamp entry.node.0 (slice_get book.nodes entry.node.0) entry.act i refl (held (is_in_order book entry) 1 _ h).1 keeps quiet idle in
      record { mark = l.mark; count = l.count }
