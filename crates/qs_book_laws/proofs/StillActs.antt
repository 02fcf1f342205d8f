-- The acts that leave what the law of committed contents sees: all but begin, ask, a vote that goes on record, learning
-- commit, and restart.
use Rattle.qs_book_laws.proofs.Words.{◌≡◌, ℕ, ◌-◌, [], ◌∷◌, ◌==◌, ◌&&◌, Bool, true, false, List, Option, Some, None, refl, ap, ◌∙◌, fold, nat_lt, if◌then◌else◌, ClientNo, Member, NodeNo, Outcome, Tid, Op, Reply, Vote, slice_get, TableValue, released, served, timer_served, timers_ended, TransactionValue, issued, learnt, is_crossed, standing_request, requests_at, Request, RequestNo, link_to, borrower_at, NodeValue, with_table, crossed_node, crossed_server, crossed_names, crossed_table, BookValue}
use Rattle.qs_book_laws.proofs.Words.{find_transaction, with_node, with_transaction, with_waiting, with_crossing, crosses, issue, serve, serve_node, server_serve, crossed_serve, is_done, vote, vote_node, crossed_in, learn, learn_node, doubts_after, hear, answer, waiting_of, tick_node, crash_node, count, end, end_node, loan, loan_to, give_back, give_back_from, inc_at, pending_in, Asking}
use Rattle.qs_base.specs.declared.identifiers.Outcome.TheVariants as outcomes
use Rattle.qs_ops.specs.declared.file.File.{File}
use Rattle.qs_ops.specs.declared.vote.Vote.TheVariants as votes
use Rattle.qs_ops.specs.Table.{with_vote}
use Rattle.qs_book_laws.proofs.Faces.{either_way}
use Rattle.qs_book_laws.proofs.Stills.{facet, asked_of, Still, still_self, still_then, transaction_still, node_still, owner_still, either_still}

-- ---- nodes

-- a change of a table that leaves its committed contents
pub record Leaves (f : TableValue → TableValue) : Type 0 where
  pub contents : (table : TableValue) → (f table).contents ≡ table.contents
  pub notes : (table : TableValue) → (f table).notes ≡ table.notes

pub with_table_facet : (server : ℕ) (f : TableValue → TableValue) → Leaves f → (node : NodeValue) → facet (with_table server f node) ≡ facet node
with_table_facet server f leaves node =
    either_way facet (server == 0) _ _ _ (ap (λ (files : List File). record (facet node) { files = files; file_notes = (f node.files).notes }) (leaves.contents node.files) ∙ ap (λ (notes : List (List ℕ)). record (facet node) { file_notes = notes }) (leaves.notes node.files))
    (either_way facet (server == 1) _ _ _ (ap (λ (files : List File). record (facet node) { audit_files = files; notes = (f node.audit).notes }) (leaves.contents node.audit) ∙ ap (λ (notes : List (List ℕ)). record (facet node) { notes = notes }) (leaves.notes node.audit))
    (either_way facet (server == 2) _ _ _ refl
    (either_way facet (server == 4) _ _ _ refl
    (either_way facet (server == 5) _ _ _ refl refl))))

released_leaves : (tid : Tid) → Leaves (λ table. released table tid)
released_leaves tid = record { contents = λ table. refl; notes = λ table. refl }

served_leaves : (tid : Tid) (op : Op) (reply : Reply) → Leaves (λ table. served table tid op reply)
served_leaves tid op reply = record { contents = λ table. refl; notes = λ table. refl }

vote_leaves : (tid : Tid) (voted : Bool) → Leaves (λ table. with_vote table tid voted)
vote_leaves tid voted = record { contents = λ table. refl; notes = λ table. refl }

crossed_server_facet : (tid : Tid) (server : ℕ) (node : NodeValue) → facet (crossed_server tid server node) ≡ facet node
crossed_server_facet tid server node =
    either_way facet (server == 2) (crossed_names tid node) other (facet node) refl
    (either_way facet (server == 3) (record node { timers = timers_ended node.timers tid }) (crossed_table tid server node) (facet node) refl
    (with_table_facet server (λ table. released table tid) (released_leaves tid) node))
  where
    other : NodeValue
    other = if server == 3 then record node { timers = timers_ended node.timers tid } else crossed_table tid server node

crossed_facet : (tid : Tid) (server : ℕ) (node : NodeValue) → facet (crossed_node tid server node) ≡ facet node
crossed_facet tid server node = either_way facet node.up (crossed_server tid server node) node (facet node) (crossed_server_facet tid server node) refl

server_serve_facet : (server : ℕ) (tid : Tid) (op : Op) (reply : Reply) (node : NodeValue) → facet (server_serve server tid op reply node) ≡ facet node
server_serve_facet server tid op reply node =
    either_way facet (server == 3) (record node { timers = timer_served node.timers tid op reply }) (with_table server f node) (facet node) refl (with_table_facet server f (served_leaves tid op reply) node)
  where
    f : TableValue → TableValue
    f table = served table tid op reply

crossed_serve_facet : (server : ℕ) (tid : Tid) (requests : List Request) (reply : Reply) (node : NodeValue) → facet (crossed_serve server tid requests reply node) ≡ facet node
crossed_serve_facet server tid requests reply node = either_way facet ((server == 2) && is_done reply) _ _ _ refl refl

serve_facet : (o : Option TransactionValue) (at : RequestNo) (tid : Tid) (member : Member) (reply : Reply) (node : NodeValue) → facet (serve_node o at tid member reply node) ≡ facet node
serve_facet None at tid member reply node = refl
serve_facet (Some tx) at tid member reply node =
    either_way facet (is_crossed tx member) _ _ _ (crossed_serve_facet member.server.0 tid (requests_at tx at) reply node) (of (standing_request tx at member))
  where
    of : (o : Option Request) → facet (elim o [ None ↦ node | Some request ↦ server_serve member.server.0 tid request.op reply node ]) ≡ facet node
    of None = refl
    of (Some request) = server_serve_facet member.server.0 tid request.op reply node

-- a vote that goes on record
abbrev pub goes_on_record : Vote → Bool
goes_on_record votes.Recoverable = true
goes_on_record ballot = false

vote_facet : (count : ℕ) (crossed : Bool) (tid : Tid) (server : ℕ) (ballot : Vote) (covers : ℕ) (node : NodeValue) → goes_on_record ballot ≡ false → facet (vote_node count crossed tid server ballot covers node) ≡ facet node
vote_facet count crossed tid server votes.ReadOnly covers node h = with_table_facet server (λ table. released table tid) (released_leaves tid) node
vote_facet count true tid server (votes.Abort reason) covers node h = refl
vote_facet count false tid server (votes.Abort reason) covers node h = with_table_facet server (λ table. with_vote table tid false) (vote_leaves tid false) node
vote_facet count true tid server votes.Volatile covers node h = refl
vote_facet count false tid server votes.Volatile covers node h = with_table_facet server (λ table. with_vote table tid true) (vote_leaves tid true) node
vote_facet count crossed tid server votes.Recoverable covers node h = absurd (cc h)

pub doubts_facet : (tid : Tid) (server : ℕ) (node : NodeValue) → facet (doubts_after tid server node) ≡ facet node
doubts_facet tid server node = either_way facet (server == 2) _ _ _ refl refl

-- ---- transactions

pub learnt_asked : (member : Member) (inc : ℕ) (outcome : Outcome) (tx : TransactionValue) → asked_of (learnt member inc outcome tx) ≡ asked_of tx
learnt_asked member inc outcomes.Commit tx = refl
learnt_asked member inc outcomes.Abort tx = refl

-- ---- acts

waiting_still : (tid : Tid) (issuer member : Member) (book : BookValue) → Still book (with_waiting tid issuer member book)
waiting_still tid issuer member book =
    either_still (nat_lt 31 issuer.server.0) _ _ _ (owner_still (issuer.server.0 - 32) _ book) (still_self book)

crossing_still : (b : Bool) (tid : Tid) (member : Member) (book : BookValue) → Still book (with_crossing b tid member book)
crossing_still true tid member book = node_still member.node.0 (crossed_node tid member.server.0) (crossed_facet tid member.server.0) book
crossing_still false tid member book = still_self book

pub by_issue : (here : ℕ) (tid : Tid) (issuer member : Member) (number : ℕ) (op : Op) (book : BookValue) → Still book (issue here tid issuer member number op book)
by_issue here tid issuer member number op book =
    let at : RequestNo = record { link = link_to here member; number = number } in
    let request : Request = record { issuer = issuer; member = member; op = op; inc = inc_at book (record { 0 = here }); served = false } in
    let f : TransactionValue → TransactionValue = issued at request (inc_at book member.node) book.place in
    let one : BookValue = with_transaction tid f book in
    let two : BookValue = with_waiting tid issuer member one in
    still_then book two _ (still_then book one two (transaction_still tid f (λ tx. refl) book) (waiting_still tid issuer member one))
    (crossing_still (crosses (find_transaction book tid) at member) tid member two)

pub by_serve : (here : ℕ) (tid : Tid) (member : Member) (from : NodeNo) (number stamp : ℕ) (reply : Reply) (book : BookValue) → Still book (serve here tid member from number stamp reply book)
by_serve here tid member from number stamp reply book =
    still_then book _ _ (node_still here _ (serve_facet (find_transaction book tid) _ tid member reply) book) (transaction_still tid _ (λ tx. refl) _)

pub by_vote : (here : ℕ) (tid : Tid) (member : Member) (ballot : Vote) (covers : ℕ) (book : BookValue) → goes_on_record ballot ≡ false → Still book (vote here tid member ballot covers book)
by_vote here tid member ballot covers book h =
    still_then book _ _ (node_still here _ (λ node. vote_facet (pending_in (find_transaction book tid) member (inc_at book (record { 0 = here }))) (crossed_in (find_transaction book tid) member) tid member.server.0 ballot covers node h) book) (transaction_still tid _ (λ tx. refl) _)

pub by_count : (here : ℕ) (tid : Tid) (peer : NodeNo) (up_to : ℕ) (book : BookValue) → Still book (count here tid peer up_to book)
by_count here tid peer up_to book = transaction_still tid _ (λ tx. refl) book

pub by_end : (here : ℕ) (tid : Tid) (member : Member) (book : BookValue) → Still book (end here tid member book)
by_end here tid member book = still_then book _ _ (node_still here (end_node tid) (λ node. refl) book) (transaction_still tid _ (λ tx. refl) _)

pub by_learn_abort : (here : ℕ) (tid : Tid) (member : Member) (book : BookValue) → Still book (learn here tid member outcomes.Abort book)
by_learn_abort here tid member book =
    still_then book _ _
    (node_still here _ (λ node. doubts_facet tid member.server.0 (learn_node outcomes.Abort tid member.server.0 node) ∙ with_table_facet member.server.0 (λ table. released table tid) (released_leaves tid) node) book)
    (transaction_still tid (learnt member (inc_at book (record { 0 = here })) outcomes.Abort) (learnt_asked member (inc_at book (record { 0 = here })) outcomes.Abort) _)

heard_still : (asks : List Asking) (book : BookValue) → Still book (fold hear book asks)
heard_still [] book = still_self book
heard_still (ask ∷ asks) book = still_then book (hear book ask) _ (transaction_still ask.tid _ (λ tx. refl) book) (heard_still asks (hear book ask))

pub by_answer : (client : ClientNo) (line : ℕ) (book : BookValue) → Still book (answer client line book)
by_answer client line book =
    still_then book _ _ (owner_still client.0 _ book) (heard_still (waiting_of (slice_get book.owners client.0)) _)

lent_still : (inc : ℕ) (tid : Tid) (o : Option Member) (book : BookValue) → Still book (loan_to inc tid o book)
lent_still inc tid None book = still_self book
lent_still inc tid (Some member) book = transaction_still tid _ (λ tx. refl) book

pub by_loan : (here : ℕ) (tid : Tid) (client : ClientNo) (book : BookValue) → Still book (loan here tid client book)
by_loan here tid client book = lent_still _ tid (borrower_at client here) book

given_still : (inc : ℕ) (tid : Tid) (o : Option Member) (book : BookValue) → Still book (give_back_from inc tid o book)
given_still inc tid None book = still_self book
given_still inc tid (Some member) book = transaction_still tid _ (λ tx. refl) book

pub by_yield : (here : ℕ) (tid : Tid) (client : ClientNo) (book : BookValue) → Still book (give_back here tid client book)
by_yield here tid client book = given_still _ tid (borrower_at client here) book

pub by_tick : (here stamp : ℕ) (book : BookValue) → Still book (with_node here (tick_node stamp) book)
by_tick here stamp book = node_still here _ (λ node. refl) book

pub by_crash : (here : ℕ) (book : BookValue) → Still book (with_node here (crash_node book.place) book)
by_crash here book = node_still here _ (λ node. refl) book
