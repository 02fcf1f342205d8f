-- What an entry that is no restart does, it does whatever Commits the logs held as the run began.
use Rattle.std.proofs.Common.{◌≡◌, ◌∙◌, ℕ, zero, suc, ◌-◌, Bool, true, false, List, [], ◌∷◌, ◌++◌, refl, ap, fold, map, length, Option, Some, None}
use Rattle.std.specs.Prelude.{◌&&◌, ◌==◌, slice_get, slice_set, if◌then◌else◌}
use Rattle.std.specs.BTreeMap.{insert_entry}
use Rattle.qs_base.specs.Order.{bytes_cmp, tid_cmp}
use Rattle.qs_base.specs.declared.identifiers.Member.{Member}
use Rattle.qs_base.specs.declared.identifiers.NodeNo.{NodeNo}
use Rattle.qs_base.specs.declared.identifiers.Outcome.{Outcome}
use Rattle.qs_base.specs.declared.identifiers.Tid.{Tid}
use Rattle.qs_base.specs.declared.identifiers.Outcome.TheVariants as outcomes
use Rattle.qs_ops.specs.Table.{served, released, committed, with_vote, TableValue}
use Rattle.qs_ops.specs.Timers.{timer_served, timers_ended}
use Rattle.qs_ops.specs.Servers.{names_no, timers_no, is_client_no, files_no, audit_no, windows_no, scratch_no}
use Rattle.qs_ops.specs.declared.reply.Reply.{Reply}
use Rattle.qs_ops.specs.declared.vote.Vote.{Vote}
use Rattle.qs_ops.specs.declared.vote.Vote.TheVariants as votes
use Rattle.qs_book_journal.specs.declared.entry.Act.{Act}
use Rattle.qs_book_journal.specs.declared.entry.Act.TheVariants as acts
use Rattle.qs_book_machine.specs.Book.{BookValue, find_transaction, inc_at, changed_at, with_node, with_transaction, with_owner, ticks_at, with_waiting, crosses, with_crossing, is_done, server_serve, crossed_serve, serve_node, vote_node, crossed_in, pending_in, learn_node, doubts_after, hear, waiting_of, tick_node, crash_node, count, end_node, loan_to, give_back_from}
use Rattle.qs_book_machine.specs.Nodes.{NodeValue, with_table, without_record, pending_at, bound_names, with_doubts, without_doubts, crossed_table, crossed_names, crossed_server, crossed_node}
use Rattle.qs_book_machine.specs.Lawful.{effect_act}
use Rattle.qs_book_machine.specs.Clauses.{link_to, borrower_at}
use Rattle.qs_book_machine.specs.Transaction.{TransactionValue, begun, issued, served_in, voted, learnt, heard, is_crossed, standing_request, requests_at, counted, ended}
use Rattle.qs_book_machine.specs.declared.transaction.Request.{Request}
use Rattle.qs_book_machine.specs.declared.transaction.RequestNo.{RequestNo}
use Rattle.qs_book_machine.specs.declared.state.Asking.{Asking}
use Rattle.qs_world_forgetting.specs.BookCommits.{book_without, is_restart, without_commits}

-- ---- lists

abbrev pub opt_without : Option NodeValue → Option NodeValue
opt_without None = None
opt_without (Some node) = Some (without_commits node)

pub get_without : (ns : List NodeValue) (i : ℕ) → slice_get (map without_commits ns) i ≡ opt_without (slice_get ns i)
get_without [] i = refl
get_without (n ∷ ns) zero = refl
get_without (n ∷ ns) (suc i) = get_without ns i

set_without : (ns : List NodeValue) (i : ℕ) (x : NodeValue) → slice_set (map without_commits ns) i (without_commits x) ≡ map without_commits (slice_set ns i x)
set_without [] i x = refl
set_without (n ∷ ns) zero x = refl
set_without (n ∷ ns) (suc i) x = ap (λ (l : List NodeValue). without_commits n ∷ l) (set_without ns i x)

pub length_without : (ns : List NodeValue) → length (map without_commits ns) ≡ length ns
length_without [] = refl
length_without (n ∷ ns) = ap suc (length_without ns)

abbrev Keeps : (NodeValue → NodeValue) → Type 0
Keeps f = (node : NodeValue) → f (without_commits node) ≡ without_commits (f node)

changed_without : (i : ℕ) (f : NodeValue → NodeValue) → Keeps f → (ns : List NodeValue) → changed_at i f (map without_commits ns) ≡ map without_commits (changed_at i f ns)
changed_without i f keeps ns = ap (λ (o : Option NodeValue). elim o [ None ↦ map without_commits ns | Some x ↦ slice_set (map without_commits ns) i (f x) ]) (get_without ns i) ∙ by (slice_get ns i)
  where
    by : (o : Option NodeValue) → ◌≡◌ {A = List NodeValue} (elim (opt_without o) [ None ↦ map without_commits ns | Some x ↦ slice_set (map without_commits ns) i (f x) ]) (map without_commits (elim o [ None ↦ ns | Some x ↦ slice_set ns i (f x) ]))
    by None = refl
    by (Some x) = ap (slice_set (map without_commits ns) i) (keeps x) ∙ set_without ns i (f x)

inc_without : (book : BookValue) (n : NodeNo) → inc_at (book_without book) n ≡ inc_at book n
inc_without book n = ap (λ (o : Option NodeValue). elim o [ None ↦ 0 | Some state ↦ state.inc ]) (get_without book.nodes n.0) ∙ by (slice_get book.nodes n.0)
  where
    by : (o : Option NodeValue) → ◌≡◌ {A = ℕ} (elim (opt_without o) [ None ↦ 0 | Some state ↦ state.inc ]) (elim o [ None ↦ 0 | Some state ↦ state.inc ])
    by None = refl
    by (Some x) = refl

ticks_without : (book : BookValue) (i : ℕ) → ticks_at (slice_get (map without_commits book.nodes) i) ≡ ticks_at (slice_get book.nodes i)
ticks_without book i = ap ticks_at (get_without book.nodes i) ∙ by (slice_get book.nodes i)
  where
    by : (o : Option NodeValue) → ticks_at (opt_without o) ≡ ticks_at o
    by None = refl
    by (Some x) = refl

-- ---- what an entry does

abbrev Goes : (BookValue → BookValue) → Type 0
Goes f = (book : BookValue) → f (book_without book) ≡ book_without (f book)

node_goes : (here : ℕ) (f : NodeValue → NodeValue) → Keeps f → Goes (with_node here f)
node_goes here f keeps book = ap (λ (l : List NodeValue). record book { nodes = l }) (changed_without here f keeps book.nodes)

table_keeps : (server : ℕ) (f : TableValue → TableValue) → Keeps (with_table server f)
table_keeps server f node = by (server == files_no) (server == audit_no) (server == names_no) (server == windows_no) (server == scratch_no)
  where
    by : (a b c d e : Bool)
        → ◌≡◌ {A = NodeValue} (if a then record (without_commits node) { files = f node.files } else if b then record (without_commits node) { audit = f node.audit } else if c then record (without_commits node) { names = f node.names } else if d then record (without_commits node) { windows = f node.windows } else if e then record (without_commits node) { scratch = f node.scratch } else without_commits node)
        (without_commits (if a then record node { files = f node.files } else if b then record node { audit = f node.audit } else if c then record node { names = f node.names } else if d then record node { windows = f node.windows } else if e then record node { scratch = f node.scratch } else node))
    by true b c d e = refl
    by false true c d e = refl
    by false false true d e = refl
    by false false false true e = refl
    by false false false false true = refl
    by false false false false false = refl

if_keeps : (b : Bool) (f g : NodeValue → NodeValue) → Keeps f → Keeps g → Keeps (λ node. if b then f node else g node)
if_keeps true f g p q node = p node
if_keeps false f g p q node = q node

same_keeps : Keeps (λ node. node)
same_keeps node = refl

names_keeps : (tid : Tid) → Keeps (crossed_names tid)
names_keeps tid node = table_keeps names_no (λ table. released table tid) (with_doubts tid (bound_names (pending_at node tid names_no)) node)

crossed_keeps : (tid : Tid) (server : ℕ) → Keeps (crossed_node tid server)
crossed_keeps tid server node = if_keeps node.up (crossed_server tid server) (λ n. n)
    (if_keeps (server == names_no) (crossed_names tid) (λ n. if server == timers_no then record n { timers = timers_ended n.timers tid } else crossed_table tid server n) (names_keeps tid)
    (if_keeps (server == timers_no) (λ n. record n { timers = timers_ended n.timers tid }) (crossed_table tid server) (λ n. refl) (table_keeps server (λ table. released table tid)))) same_keeps node

serve_keeps : (o : Option TransactionValue) (at : RequestNo) (tid : Tid) (member : Member) (reply : Reply) → Keeps (serve_node o at tid member reply)
serve_keeps None at tid member reply node = refl
serve_keeps (Some tx) at tid member reply node = if_keeps (is_crossed tx member) (crossed_serve member.server.0 tid (requests_at tx at) reply)
    (λ n. elim (standing_request tx at member) [ None ↦ n | Some request ↦ server_serve member.server.0 tid request.op reply n ])
    (if_keeps ((member.server.0 == names_no) && is_done reply) (with_doubts tid (bound_names (map (λ (request : Request). request.op) (requests_at tx at)))) (λ n. n) (λ n. refl) same_keeps)
    (λ n. by (standing_request tx at member) n) node
  where
    by : (o : Option Request) (n : NodeValue) → ◌≡◌ {A = NodeValue} (elim o [ None ↦ without_commits n | Some request ↦ server_serve member.server.0 tid request.op reply (without_commits n) ]) (without_commits (elim o [ None ↦ n | Some request ↦ server_serve member.server.0 tid request.op reply n ]))
    by None n = refl
    by (Some request) n = if_keeps (member.server.0 == timers_no) (λ m. record m { timers = timer_served m.timers tid request.op reply }) (with_table member.server.0 (λ table. served table tid request.op reply)) (λ m. refl) (table_keeps member.server.0 (λ table. served table tid request.op reply)) n

vote_keeps : (count : ℕ) (crossed : Bool) (tid : Tid) (server : ℕ) (ballot : Vote) (covers : ℕ) → Keeps (vote_node count crossed tid server ballot covers)
vote_keeps count crossed tid server votes.ReadOnly covers node = table_keeps server (λ table. released table tid) node
vote_keeps count true tid server (votes.Abort reason) covers node = refl
vote_keeps count false tid server (votes.Abort reason) covers node = table_keeps server (λ table. with_vote table tid false) node
vote_keeps count true tid server votes.Volatile covers node = refl
vote_keeps count false tid server votes.Volatile covers node = table_keeps server (λ table. with_vote table tid true) node
vote_keeps count crossed tid server votes.Recoverable covers node = refl

learn_keeps : (outcome : Outcome) (tid : Tid) (server : ℕ) → Keeps (λ node. doubts_after tid server (learn_node outcome tid server node))
learn_keeps outcome tid server node = ap (doubts_after tid server) (first outcome) ∙ if_keeps (server == names_no) (without_doubts tid) (λ n. n) (λ n. refl) same_keeps (learn_node outcome tid server node)
  where
    first : (o : Outcome) → learn_node o tid server (without_commits node) ≡ without_commits (learn_node o tid server node)
    first outcomes.Commit = ap (without_record tid server) (table_keeps server (λ table. committed table tid) node)
    first outcomes.Abort = table_keeps server (λ table. released table tid) node

-- ---- kind by kind; a restart is told elsewhere

crossing_goes : (b : Bool) (tid : Tid) (member : Member) → Goes (with_crossing b tid member)
crossing_goes true tid member book = node_goes member.node.0 (crossed_node tid member.server.0) (crossed_keeps tid member.server.0) book
crossing_goes false tid member book = refl

waiting_goes : (tid : Tid) (issuer member : Member) → Goes (with_waiting tid issuer member)
waiting_goes tid issuer member book = by (is_client_no issuer.server.0)
  where
    by : (b : Bool) → ◌≡◌ {A = BookValue} (if b then with_owner (issuer.server.0 - 32) (λ owner. record owner { waiting = owner.waiting ++ record { tid = tid; node = member.node } ∷ [] }) (book_without book) else book_without book)
        (book_without (if b then with_owner (issuer.server.0 - 32) (λ owner. record owner { waiting = owner.waiting ++ record { tid = tid; node = member.node } ∷ [] }) book else book))
    by true = refl
    by false = refl

hear_goes : (asks : List Asking) → Goes (λ book. fold hear book asks)
hear_goes [] book = refl
hear_goes (a ∷ asks) book = ap (λ (i : ℕ). fold hear (with_transaction a.tid (heard a.node i) (book_without book)) asks) (inc_without book a.node) ∙ hear_goes asks (hear book a)

loan_goes : (inc : ℕ) (tid : Tid) (o : Option Member) → Goes (loan_to inc tid o)
loan_goes inc tid None book = refl
loan_goes inc tid (Some member) book = refl

back_goes : (inc : ℕ) (tid : Tid) (o : Option Member) → Goes (give_back_from inc tid o)
back_goes inc tid None book = refl
back_goes inc tid (Some member) book = refl

abbrev node_no : ℕ → NodeNo
node_no here = record { 0 = here }

pub act_goes : (stamp here : ℕ) (act : Act) → is_restart act ≡ false → (book : BookValue) → effect_act stamp here act (book_without book) ≡ book_without (effect_act stamp here act book)
act_goes stamp here (acts.Begin tid label client) e book =
    ap (λ (t : ℕ). record (with_node here (λ node. record node { begun = tid.seq }) (book_without book)) { labels = insert_entry bytes_cmp book.labels label tid; transactions = insert_entry tid_cmp book.transactions tid (begun label client t) }) (ticks_without book here)
    ∙ ap (λ (b : BookValue). record b { labels = insert_entry bytes_cmp book.labels label tid; transactions = insert_entry tid_cmp book.transactions tid (begun label client (ticks_at (slice_get book.nodes here))) }) (node_goes here (λ node. record node { begun = tid.seq }) (λ node. refl) book)
act_goes stamp here (acts.Issue tid issuer member number op) e book =
    let at : RequestNo = record { link = link_to here member; number = number } in
    let request : ℕ → Request = λ i. record { issuer = issuer; member = member; op = op; inc = i; served = false } in
    ap (λ (i : ℕ). with_crossing (crosses (find_transaction book tid) at member) tid member (with_waiting tid issuer member (with_transaction tid (issued at (request (inc_at (book_without book) (node_no here))) i book.place) (book_without book)))) (inc_without book member.node)
    ∙ ap (λ (i : ℕ). with_crossing (crosses (find_transaction book tid) at member) tid member (with_waiting tid issuer member (with_transaction tid (issued at (request i) (inc_at book member.node) book.place) (book_without book)))) (inc_without book (node_no here))
    ∙ ap (with_crossing (crosses (find_transaction book tid) at member) tid member) (waiting_goes tid issuer member (with_transaction tid (issued at (request (inc_at book (node_no here))) (inc_at book member.node) book.place) book))
    ∙ crossing_goes (crosses (find_transaction book tid) at member) tid member (with_waiting tid issuer member (with_transaction tid (issued at (request (inc_at book (node_no here))) (inc_at book member.node) book.place) book))
act_goes stamp here (acts.Serve tid member from number reply) e book =
    let at : RequestNo = record { link = record { from = from; to = member.node }; number = number } in
    ap (λ (i : ℕ). with_transaction tid (served_in at member i stamp (is_done reply)) (with_node here (serve_node (find_transaction book tid) at tid member reply) (book_without book))) (inc_without book (node_no here))
    ∙ ap (with_transaction tid (served_in at member (inc_at book (node_no here)) stamp (is_done reply))) (node_goes here (serve_node (find_transaction book tid) at tid member reply) (serve_keeps (find_transaction book tid) at tid member reply) book)
act_goes stamp here (acts.Vote tid member ballot covers) e book =
    ap (λ (i : ℕ). with_transaction tid (voted member i ballot) (with_node here (vote_node (pending_in (find_transaction book tid) member i) (crossed_in (find_transaction book tid) member) tid member.server.0 ballot covers) (book_without book))) (inc_without book (node_no here))
    ∙ ap (with_transaction tid (voted member (inc_at book (node_no here)) ballot))
    (node_goes here (vote_node (pending_in (find_transaction book tid) member (inc_at book (node_no here))) (crossed_in (find_transaction book tid) member) tid member.server.0 ballot covers)
    (vote_keeps (pending_in (find_transaction book tid) member (inc_at book (node_no here))) (crossed_in (find_transaction book tid) member) tid member.server.0 ballot covers) book)
act_goes stamp here (acts.Decide tid outcome cause) e book = refl
act_goes stamp here (acts.Learn tid member outcome) e book =
    ap (λ (i : ℕ). with_transaction tid (learnt member i outcome) (with_node here (λ node. doubts_after tid member.server.0 (learn_node outcome tid member.server.0 node)) (book_without book))) (inc_without book (node_no here))
    ∙ ap (with_transaction tid (learnt member (inc_at book (node_no here)) outcome)) (node_goes here (λ node. doubts_after tid member.server.0 (learn_node outcome tid member.server.0 node)) (learn_keeps outcome tid member.server.0) book)
act_goes stamp here (acts.Loan tid client) e book = ap (λ (i : ℕ). loan_to i tid (borrower_at client here) (book_without book)) (inc_without book (node_no here)) ∙ loan_goes (inc_at book (node_no here)) tid (borrower_at client here) book
act_goes stamp here (acts.Yield tid client) e book = ap (λ (i : ℕ). give_back_from i tid (borrower_at client here) (book_without book)) (inc_without book (node_no here)) ∙ back_goes (inc_at book (node_no here)) tid (borrower_at client here) book
act_goes stamp here acts.Tick e book = node_goes here (tick_node stamp) (λ node. refl) book
act_goes stamp here (acts.Restart inc pend done) e book = absurd (cc e)
act_goes stamp here (acts.Ask tid) e book = refl
act_goes stamp here (acts.Counted tid peer up_to) e book =
    ap (λ (i : ℕ). with_transaction tid (counted (record { from = node_no here; to = peer }) i up_to (inc_at (book_without book) peer)) (book_without book)) (inc_without book (node_no here))
    ∙ ap (λ (i : ℕ). with_transaction tid (counted (record { from = node_no here; to = peer }) (inc_at book (node_no here)) up_to i) (book_without book)) (inc_without book peer)
act_goes stamp here (acts.Ending tid member) e book =
    ap (λ (i : ℕ). with_transaction tid (ended member i) (with_node here (end_node tid) (book_without book))) (inc_without book (node_no here))
    ∙ ap (with_transaction tid (ended member (inc_at book (node_no here)))) (node_goes here (end_node tid) (λ node. refl) book)
act_goes stamp here (acts.Answer client line said) e book = hear_goes (waiting_of (slice_get book.owners client.0)) (with_owner client.0 (λ owner. record owner { line = line; waiting = [] }) book)
act_goes stamp here (acts.Crash cause) e book = node_goes here (crash_node book.place) (λ node. refl) book
