-- A node stopped at an earlier place of the history, whatever was entered since.
use Rattle.qs_world_lawful.proofs.Words.{◌≡◌, ◌⊎◌, inl, inr, ℕ, ◌≤◌, ◌==◌, ◌&&◌, Bool, true, false, List, [], ◌∷◌, Option, Some, None, fold, refl, sym, ap, subst, ◌∙◌, if◌then◌else◌, le_refl, slice_get, slice_set, Member, Outcome, Tid, Act, either_way, vote_by, restart_nodes, changed_at_either, BookValue, changed_at, crash_node, crosses, doubts_after, end_node, find_transaction, hear, inc_at, learn_node, serve_node, server_serve, tick_node, vote_node, waiting_of, with_crossing, with_owner}
use Rattle.qs_world_lawful.proofs.Words.{with_transaction, with_waiting, borrower_at, link_to, effect_act, crossed_names, crossed_node, crossed_server, crossed_table, with_table, new_votes, put_new_votes, reopened, restarted_node, with_votes, without_records, TransactionValue, is_crossed, issued, standing_request, OnRecord, Owner, Voter, Request, RequestNo, names_no, scratch_no, windows_no, TableValue, committed, released, served, timer_served, timers_ended, Op, Reply, Vote, some_same}
use Rattle.qs_base.specs.declared.identifiers.Outcome.TheVariants as outcomes
use Rattle.qs_book_journal.specs.declared.entry.Act.TheVariants as acts
use Rattle.qs_book_laws.proofs.Holding.{fold_nodes, loan_nodes, waiting_nodes, yield_nodes}
use Rattle.qs_book_machine.specs.Book.{is_done}
use Rattle.qs_book_machine.specs.Nodes as machine
use Rattle.qs_book_machine.specs.Restart.{with_vote}
use Rattle.qs_ops.specs.Servers.{audit_no, files_no, timers_no}
use Rattle.qs_ops.specs.Table.{with_vote as voted_table}
use Rattle.qs_ops.specs.declared.vote.Vote.TheVariants as votes

abbrev at : machine.NodeValue → ℕ
at node = node.stopped

table_at : (server : ℕ) (f : TableValue → TableValue) (node : machine.NodeValue) → at (with_table server f node) ≡ at node
table_at server f node =
    either_way at (server == files_no) _ _ _ refl
    (either_way at (server == audit_no) _ _ _ refl
    (either_way at (server == names_no) _ _ _ refl
    (either_way at (server == windows_no) _ _ _ refl
    (either_way at (server == scratch_no) _ _ _ refl refl))))

crossed_at : (tid : Tid) (server : ℕ) (node : machine.NodeValue) → at (crossed_node tid server node) ≡ at node
crossed_at tid server node = either_way at node.up (crossed_server tid server node) node (at node) inner refl
  where
    other : machine.NodeValue
    other = if server == timers_no then record node { timers = timers_ended node.timers tid } else crossed_table tid server node

    inner : at (crossed_server tid server node) ≡ at node
    inner =
        either_way at (server == names_no) (crossed_names tid node) other (at node) refl
        (either_way at (server == timers_no) (record node { timers = timers_ended node.timers tid }) (crossed_table tid server node) (at node) refl (table_at server (λ table. released table tid) node))

serve_at : (o : Option TransactionValue) (key : RequestNo) (tid : Tid) (member : Member) (reply : Reply) (node : machine.NodeValue) → at (serve_node o key tid member reply node) ≡ at node
serve_at None key tid member reply node = refl
serve_at (Some tx) key tid member reply node =
    either_way at (is_crossed tx member) _ _ _ (either_way at ((member.server.0 == names_no) && is_done reply) _ _ _ refl refl) (of (standing_request tx key member))
  where
    one : (op : Op) → at (server_serve member.server.0 tid op reply node) ≡ at node
    one op =
        either_way at (member.server.0 == timers_no) (record node { timers = timer_served node.timers tid op reply }) (with_table member.server.0 (λ table. served table tid op reply) node) (at node) refl
        (table_at member.server.0 (λ table. served table tid op reply) node)

    of : (o : Option Request) → at (elim o [ None ↦ node | Some request ↦ server_serve member.server.0 tid request.op reply node ]) ≡ at node
    of None = refl
    of (Some request) = one request.op

vote_at : (count : ℕ) (crossed : Bool) (tid : Tid) (server : ℕ) (ballot : Vote) (covers : ℕ) (node : machine.NodeValue) → at (vote_node count crossed tid server ballot covers node) ≡ at node
vote_at count crossed tid server votes.ReadOnly covers node = table_at server (λ table. released table tid) node
vote_at count true tid server (votes.Abort reason) covers node = refl
vote_at count false tid server (votes.Abort reason) covers node = table_at server (λ table. voted_table table tid false) node
vote_at count true tid server votes.Volatile covers node = refl
vote_at count false tid server votes.Volatile covers node = table_at server (λ table. voted_table table tid true) node
vote_at count crossed tid server votes.Recoverable covers node = refl

learn_at : (outcome : Outcome) (tid : Tid) (server : ℕ) (node : machine.NodeValue) → at (doubts_after tid server (learn_node outcome tid server node)) ≡ at node
learn_at outcome tid server node = either_way at (server == names_no) _ _ _ (of outcome) (of outcome)
  where
    of : (o : Outcome) → at (learn_node o tid server node) ≡ at node
    of outcomes.Commit = table_at server (λ table. committed table tid) node
    of outcomes.Abort = table_at server (λ table. released table tid) node

voted_at : (vs : List (Voter × OnRecord)) (v : machine.NodeValue) → at (with_votes vs v) ≡ at v
voted_at [] v = refl
voted_at (x ∷ vs) v = voted_at vs (with_vote v x)

forgot_at : (done : List Tid) (v : machine.NodeValue) → at (fold without_records v done) ≡ at v
forgot_at [] v = refl
forgot_at (tid ∷ done) v = forgot_at done (without_records v tid)

-- ---- books

abbrev pub HaveStopped : ℕ → List machine.NodeValue → Type 0
HaveStopped place nodes = (n : ℕ) (node : machine.NodeValue) → slice_get nodes n ≡ Some node → node.stopped ≤ place

module _ (place : ℕ) where
  changed : (here : ℕ) (f : machine.NodeValue → machine.NodeValue) → ((v : machine.NodeValue) → v.stopped ≤ place → (f v).stopped ≤ place) → (nodes : List machine.NodeValue) → HaveStopped place nodes → HaveStopped place (changed_at here f nodes)
  changed here f keeps nodes all n node is = by (slice_get nodes here) refl
    where
      one : (u : machine.NodeValue) → ((n ≡ here) × (slice_get nodes n ≡ Some u) × (slice_get (changed_at here f nodes) n ≡ Some (f u))) ⊎ (slice_get (changed_at here f nodes) n ≡ slice_get nodes n) → node.stopped ≤ place
      one u (inl h) = subst (λ (v : machine.NodeValue). v.stopped ≤ place) (some_same (sym h.2 ∙ is)) (keeps u (all n u h.1))
      one u (inr h) = all n node (sym h ∙ is)

      by : (o : Option machine.NodeValue) → slice_get nodes here ≡ o → node.stopped ≤ place
      by None none = all n node (sym (ap (λ (xs : List machine.NodeValue). slice_get xs n) (same none)) ∙ is)
        where
          same : slice_get nodes here ≡ None → changed_at here f nodes ≡ nodes
          same h = subst (λ (o : Option machine.NodeValue). (elim o [ None ↦ nodes | Some x ↦ slice_set nodes here (f x) ]) ≡ nodes) (sym h) refl
      by (Some u) found = one u (changed_at_either f nodes here n u found)

  same : (f : machine.NodeValue → machine.NodeValue) → ((v : machine.NodeValue) → at (f v) ≡ at v) → (v : machine.NodeValue) → v.stopped ≤ place → (f v).stopped ≤ place
  same f keeps v h = subst (λ (k : ℕ). k ≤ place) (sym (keeps v)) h

  alike : (old new : List machine.NodeValue) → new ≡ old → HaveStopped place old → HaveStopped place new
  alike old new e all = subst (HaveStopped place) (sym e) all

pub act_stopped : (book : BookValue) (stamp here : ℕ) (act : Act) → HaveStopped book.place book.nodes → HaveStopped book.place (effect_act stamp here act book).nodes
act_stopped book stamp here (acts.Begin t label client) all = changed book.place here (λ (v : machine.NodeValue). record v { begun = t.seq }) (λ v h. h) book.nodes all
act_stopped book stamp here (acts.Issue t issuer m k op) all = crossing (crosses (find_transaction book t) key m)
  where
    key : RequestNo
    key = record { link = link_to here m; number = k }

    one : BookValue
    one = with_transaction t (issued key (record { issuer = issuer; member = m; op = op; inc = inc_at book (record { 0 = here }); served = false }) (inc_at book m.node) book.place) book

    first : HaveStopped book.place (with_waiting t issuer m one).nodes
    first = alike book.place book.nodes (with_waiting t issuer m one).nodes (waiting_nodes t issuer m one) all

    crossing : (c : Bool) → HaveStopped book.place (with_crossing c t m (with_waiting t issuer m one)).nodes
    crossing true = changed book.place m.node.0 (crossed_node t m.server.0) (same book.place (crossed_node t m.server.0) (crossed_at t m.server.0)) (with_waiting t issuer m one).nodes first
    crossing false = first
act_stopped book stamp here (acts.Serve t m from k reply) all = changed book.place here f (same book.place f (serve_at (find_transaction book t) key t m reply)) book.nodes all
  where
    key : RequestNo
    key = record { link = record { from = from; to = m.node }; number = k }

    f : machine.NodeValue → machine.NodeValue
    f = serve_node (find_transaction book t) key t m reply
act_stopped book stamp here (acts.Vote t m ballot covers) all = changed book.place here (vote_by book here t m ballot covers) (same book.place (vote_by book here t m ballot covers) (vote_at _ _ t m.server.0 ballot covers)) book.nodes all
act_stopped book stamp here (acts.Ask t) all = all
act_stopped book stamp here (acts.Counted t peer so_far) all = all
act_stopped book stamp here (acts.Decide t outcome cause) all = all
act_stopped book stamp here (acts.Ending t m) all = changed book.place here (end_node t) (λ v h. h) book.nodes all
act_stopped book stamp here (acts.Learn t m outcome) all = changed book.place here f (same book.place f (learn_at outcome t m.server.0)) book.nodes all
  where
    f : machine.NodeValue → machine.NodeValue
    f v = doubts_after t m.server.0 (learn_node outcome t m.server.0 v)
act_stopped book stamp here (acts.Answer client line said) all =
    alike book.place book.nodes (effect_act stamp here (acts.Answer client line said) book).nodes (fold_nodes hear (λ x y. refl) (waiting_of (slice_get book.owners client.0)) (with_owner client.0 (λ (owner : Owner). record owner { line = line; waiting = [] }) book)) all
act_stopped book stamp here (acts.Loan t client) all = alike book.place book.nodes (effect_act stamp here (acts.Loan t client) book).nodes (loan_nodes (inc_at book (record { 0 = here })) t (borrower_at client here) book) all
act_stopped book stamp here (acts.Yield t client) all = alike book.place book.nodes (effect_act stamp here (acts.Yield t client) book).nodes (yield_nodes (inc_at book (record { 0 = here })) t (borrower_at client here) book) all
act_stopped book stamp here acts.Tick all = changed book.place here (tick_node stamp) (λ v h. h) book.nodes all
act_stopped book stamp here (acts.Crash cause) all = changed book.place here (crash_node book.place) (λ v h. le_refl book.place) book.nodes all
act_stopped book stamp here (acts.Restart inc pend done) all =
    subst (HaveStopped book.place) (sym (restart_nodes here inc pend done book))
    (changed book.place here g (same book.place g (λ v. forgot_at done v)) (changed_at here (with_votes (new_votes here book pend)) book.nodes)
    (changed book.place here (with_votes (new_votes here book pend)) (same book.place (with_votes (new_votes here book pend)) (voted_at (new_votes here book pend))) book.nodes all))
  where
    g : machine.NodeValue → machine.NodeValue
    g = restarted_node (reopened here inc pend done (put_new_votes here pend book)) pend done
