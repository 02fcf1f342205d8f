-- The acts that leave what the laws see: all but begin, decide and restart.
use Rattle.qs_book_laws.proofs.Words.{◌≡◌, ℕ, ◌-◌, [], ◌∷◌, ◌==◌, ◌&&◌, Bool, true, false, List, Option, Some, None, refl, ◌∙◌, fold, nat_lt, if◌then◌else◌, ClientNo, Member, NodeNo, Outcome, Tid, Op, Reply, Vote, slice_get, TableValue, released, served, committed, timer_served, timers_ended, TransactionValue, issued, learnt, asked_at, is_crossed, standing_request, requests_at, Request, RequestNo, link_to, borrower_at, NodeValue, with_table, crossed_node, crossed_server, crossed_names}
use Rattle.qs_book_laws.proofs.Words.{crossed_table, BookValue, find_transaction, with_node, with_transaction, with_waiting, with_crossing, crosses, issue, serve, serve_node, server_serve, crossed_serve, is_done, vote, vote_node, crossed_in, learn, learn_node, doubts_after, hear, answer, waiting_of, tick_node, crash_node, count, end, end_node, loan, loan_to, give_back, give_back_from, inc_at, pending_in, Asking}
use Rattle.qs_base.specs.declared.identifiers.Outcome.TheVariants as outcomes
use Rattle.qs_ops.specs.declared.vote.Vote.TheVariants as votes
use Rattle.qs_ops.specs.Table.{with_vote}
use Rattle.qs_book_laws.proofs.Faces.{face, age, Alike, alike_self, alike_then, transaction_alike, node_alike, owner_alike, either_way, either_alike}

-- ---- nodes

pub with_table_age : (server : ℕ) (f : TableValue → TableValue) (node : NodeValue) → age (with_table server f node) ≡ age node
with_table_age server f node =
    either_way age (server == 0) _ _ _ refl
    (either_way age (server == 1) _ _ _ refl
    (either_way age (server == 2) _ _ _ refl
    (either_way age (server == 4) _ _ _ refl
    (either_way age (server == 5) _ _ _ refl refl))))

crossed_server_age : (tid : Tid) (server : ℕ) (node : NodeValue) → age (crossed_server tid server node) ≡ age node
crossed_server_age tid server node =
    either_way age (server == 2) (crossed_names tid node) other (age node) refl
    (either_way age (server == 3) (record node { timers = timers_ended node.timers tid }) (crossed_table tid server node) (age node) refl
    (with_table_age server (λ table. released table tid) node))
  where
    other : NodeValue
    other = if server == 3 then record node { timers = timers_ended node.timers tid } else crossed_table tid server node

crossed_age : (tid : Tid) (server : ℕ) (node : NodeValue) → age (crossed_node tid server node) ≡ age node
crossed_age tid server node = either_way age node.up (crossed_server tid server node) node (age node) (crossed_server_age tid server node) refl

server_serve_age : (server : ℕ) (tid : Tid) (op : Op) (reply : Reply) (node : NodeValue) → age (server_serve server tid op reply node) ≡ age node
server_serve_age server tid op reply node =
    either_way age (server == 3) (record node { timers = timer_served node.timers tid op reply }) (with_table server f node) (age node) refl (with_table_age server f node)
  where
    f : TableValue → TableValue
    f table = served table tid op reply

crossed_serve_age : (server : ℕ) (tid : Tid) (requests : List Request) (reply : Reply) (node : NodeValue) → age (crossed_serve server tid requests reply node) ≡ age node
crossed_serve_age server tid requests reply node = either_way age ((server == 2) && is_done reply) _ _ _ refl refl

serve_age : (o : Option TransactionValue) (at : RequestNo) (tid : Tid) (member : Member) (reply : Reply) (node : NodeValue) → age (serve_node o at tid member reply node) ≡ age node
serve_age None at tid member reply node = refl
serve_age (Some tx) at tid member reply node =
    either_way age (is_crossed tx member) _ _ _ (crossed_serve_age member.server.0 tid (requests_at tx at) reply node) (of (standing_request tx at member))
  where
    of : (o : Option Request) → age (elim o [ None ↦ node | Some request ↦ server_serve member.server.0 tid request.op reply node ]) ≡ age node
    of None = refl
    of (Some request) = server_serve_age member.server.0 tid request.op reply node

vote_age : (count : ℕ) (crossed : Bool) (tid : Tid) (server : ℕ) (ballot : Vote) (covers : ℕ) (node : NodeValue) → age (vote_node count crossed tid server ballot covers node) ≡ age node
vote_age count crossed tid server votes.ReadOnly covers node = with_table_age server (λ table. released table tid) node
vote_age count true tid server (votes.Abort reason) covers node = refl
vote_age count false tid server (votes.Abort reason) covers node = with_table_age server (λ table. with_vote table tid false) node
vote_age count true tid server votes.Volatile covers node = refl
vote_age count false tid server votes.Volatile covers node = with_table_age server (λ table. with_vote table tid true) node
vote_age count crossed tid server votes.Recoverable covers node = refl

learn_age : (outcome : Outcome) (tid : Tid) (server : ℕ) (node : NodeValue) → age (learn_node outcome tid server node) ≡ age node
learn_age outcomes.Commit tid server node = with_table_age server (λ table. committed table tid) node
learn_age outcomes.Abort tid server node = with_table_age server (λ table. released table tid) node

doubts_age : (tid : Tid) (server : ℕ) (node : NodeValue) → age (doubts_after tid server node) ≡ age node
doubts_age tid server node = either_way age (server == 2) _ _ _ refl refl

-- ---- transactions

learnt_face : (member : Member) (inc : ℕ) (outcome : Outcome) (tx : TransactionValue) → face (learnt member inc outcome tx) ≡ face tx
learnt_face member inc outcomes.Commit tx = refl
learnt_face member inc outcomes.Abort tx = refl

-- ---- acts

waiting_alike : (tid : Tid) (issuer member : Member) (book : BookValue) → Alike book (with_waiting tid issuer member book)
waiting_alike tid issuer member book =
    either_alike (nat_lt 31 issuer.server.0) _ _ _ (owner_alike (issuer.server.0 - 32) _ (λ owner. refl) book) (alike_self book)

crossing_alike : (b : Bool) (tid : Tid) (member : Member) (book : BookValue) → Alike book (with_crossing b tid member book)
crossing_alike true tid member book = node_alike member.node.0 (crossed_node tid member.server.0) (crossed_age tid member.server.0) book
crossing_alike false tid member book = alike_self book

pub by_issue : (here : ℕ) (tid : Tid) (issuer member : Member) (number : ℕ) (op : Op) (book : BookValue) → Alike book (issue here tid issuer member number op book)
by_issue here tid issuer member number op book =
    let at : RequestNo = record { link = link_to here member; number = number } in
    let request : Request = record { issuer = issuer; member = member; op = op; inc = inc_at book (record { 0 = here }); served = false } in
    let f : TransactionValue → TransactionValue = issued at request (inc_at book member.node) book.place in
    let one : BookValue = with_transaction tid f book in
    let two : BookValue = with_waiting tid issuer member one in
    alike_then book two _ (alike_then book one two (transaction_alike tid f (λ tx. refl) book) (waiting_alike tid issuer member one))
    (crossing_alike (crosses (find_transaction book tid) at member) tid member two)

pub by_serve : (here : ℕ) (tid : Tid) (member : Member) (from : NodeNo) (number stamp : ℕ) (reply : Reply) (book : BookValue) → Alike book (serve here tid member from number stamp reply book)
by_serve here tid member from number stamp reply book =
    alike_then book _ _ (node_alike here _ (serve_age (find_transaction book tid) _ tid member reply) book) (transaction_alike tid _ (λ tx. refl) _)

pub by_ask : (tid : Tid) (book : BookValue) → Alike book (with_transaction tid (asked_at book.place) book)
by_ask tid book = transaction_alike tid _ (λ tx. refl) book

pub by_vote : (here : ℕ) (tid : Tid) (member : Member) (ballot : Vote) (covers : ℕ) (book : BookValue) → Alike book (vote here tid member ballot covers book)
by_vote here tid member ballot covers book =
    alike_then book _ _ (node_alike here _ (vote_age (pending_in (find_transaction book tid) member (inc_at book (record { 0 = here }))) (crossed_in (find_transaction book tid) member) tid member.server.0 ballot covers) book) (transaction_alike tid _ (λ tx. refl) _)

pub by_count : (here : ℕ) (tid : Tid) (peer : NodeNo) (up_to : ℕ) (book : BookValue) → Alike book (count here tid peer up_to book)
by_count here tid peer up_to book = transaction_alike tid _ (λ tx. refl) book

pub by_end : (here : ℕ) (tid : Tid) (member : Member) (book : BookValue) → Alike book (end here tid member book)
by_end here tid member book = alike_then book _ _ (node_alike here (end_node tid) (λ node. refl) book) (transaction_alike tid _ (λ tx. refl) _)

pub by_learn : (here : ℕ) (tid : Tid) (member : Member) (outcome : Outcome) (book : BookValue) → Alike book (learn here tid member outcome book)
by_learn here tid member outcome book =
    alike_then book _ _
    (node_alike here _ (λ node. doubts_age tid member.server.0 (learn_node outcome tid member.server.0 node) ∙ learn_age outcome tid member.server.0 node) book)
    (transaction_alike tid _ (learnt_face member _ outcome) _)

heard_alike : (asks : List Asking) (book : BookValue) → Alike book (fold hear book asks)
heard_alike [] book = alike_self book
heard_alike (ask ∷ asks) book = alike_then book (hear book ask) _ (transaction_alike ask.tid _ (λ tx. refl) book) (heard_alike asks (hear book ask))

pub by_answer : (client : ClientNo) (line : ℕ) (book : BookValue) → Alike book (answer client line book)
by_answer client line book =
    alike_then book _ _ (owner_alike client.0 _ (λ owner. refl) book) (heard_alike (waiting_of (slice_get book.owners client.0)) _)

lent_alike : (inc : ℕ) (tid : Tid) (o : Option Member) (book : BookValue) → Alike book (loan_to inc tid o book)
lent_alike inc tid None book = alike_self book
lent_alike inc tid (Some member) book = transaction_alike tid _ (λ tx. refl) book

pub by_loan : (here : ℕ) (tid : Tid) (client : ClientNo) (book : BookValue) → Alike book (loan here tid client book)
by_loan here tid client book = lent_alike _ tid (borrower_at client here) book

given_alike : (inc : ℕ) (tid : Tid) (o : Option Member) (book : BookValue) → Alike book (give_back_from inc tid o book)
given_alike inc tid None book = alike_self book
given_alike inc tid (Some member) book = transaction_alike tid _ (λ tx. refl) book

pub by_yield : (here : ℕ) (tid : Tid) (client : ClientNo) (book : BookValue) → Alike book (give_back here tid client book)
by_yield here tid client book = given_alike _ tid (borrower_at client here) book

pub by_tick : (here stamp : ℕ) (book : BookValue) → Alike book (with_node here (tick_node stamp) book)
by_tick here stamp book = node_alike here _ (λ node. refl) book

pub by_crash : (here : ℕ) (book : BookValue) → Alike book (with_node here (crash_node book.place) book)
by_crash here book = node_alike here _ (λ node. refl) book
