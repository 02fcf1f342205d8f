-- The nodes of the run are the same through any history.
use Rattle.qs_book_laws.proofs.Words.{◌≡◌, ℕ, zero, suc, ◌<◌, Bool, true, false, List, [], ◌∷◌, Option, Some, None, refl, ap, subst, ◌∙◌, nat_lt, slice_get, slice_set, length, Member, Tid, Act, Begin, Issue, Serve, Ask, Counted, Decide, Ending, Learn, Loan, Yield, Tick, Crash, Restart, Entry, issued, BookValue, find_transaction, changed_at, with_owner, with_transaction, with_waiting, with_crossing, crosses, hear, waiting_of, inc_at, serve_node, learn_node, doubts_after, end_node, tick_node}
use Rattle.qs_book_laws.proofs.Words.{crash_node, link_to, borrower_at, effect_act, effect, book_after, NodeValue, crossed_node, opened_node, opening, restarted_node, reopened, put_new_votes, new_votes, with_votes, Opened, Owner, IsCoherent}
use Rattle.std.proofs.lemmas.List.{length-map}
use Rattle.std.proofs.lemmas.Option.{slice_get_within}
use Rattle.qs_book_journal.specs.declared.entry.Act.TheVariants.{Answer}
use Rattle.qs_book_journal.specs.declared.entry.Act.TheVariants as acts
use Rattle.qs_book_laws.proofs.Holding.{waiting_nodes, fold_nodes, loan_nodes, yield_nodes, restart_nodes}
use Rattle.qs_book_laws.proofs.Openings.{opening_names}
use Rattle.qs_book_laws.proofs.Faces.{vote_by}
use Rattle.std.proofs.lemmas.Bool.{lt-ltb}

set_length : {X : Type 0} (xs : List X) (i : ℕ) (w : X) → length (slice_set xs i w) ≡ length xs
set_length [] i w = refl
set_length (x ∷ xs) zero w = refl
set_length (x ∷ xs) (suc i) w = ap suc (set_length xs i w)

changed_length : {X : Type 0} (f : X → X) (xs : List X) (i : ℕ) → length (changed_at i f xs) ≡ length xs
changed_length {X} f xs i = by (slice_get xs i)
  where
    by : (o : Option X) → length {A = X} (elim o [ None ↦ xs | Some x ↦ slice_set xs i (f x) ]) ≡ length xs
    by None = refl
    by (Some x) = set_length xs i (f x)

-- as many nodes
abbrev SameRun : BookValue → BookValue → Type 0
SameRun old new = length new.nodes ≡ length old.nodes

crossing_run : (c : Bool) (tid : Tid) (member : Member) (book : BookValue) → SameRun book (with_crossing c tid member book)
crossing_run true tid member book = changed_length (crossed_node tid member.server.0) book.nodes member.node.0
crossing_run false tid member book = refl

act_run : (stamp here : ℕ) (act : Act) (book : BookValue) → SameRun book (effect_act stamp here act book)
act_run stamp here (Begin tid label client) book = changed_length (λ (v : NodeValue). record v { begun = tid.seq }) book.nodes here
act_run stamp here (Issue tid issuer member n op) book =
    crossing_run (crosses (find_transaction book tid) (record { link = link_to here member; number = n }) member) tid member (with_waiting tid issuer member one) ∙ ap length (waiting_nodes tid issuer member one)
  where
    one : BookValue
    one = with_transaction tid
        (issued (record { link = link_to here member; number = n }) (record { issuer = issuer; member = member; op = op; inc = inc_at book (record { 0 = here }); served = false }) (inc_at book member.node) book.place)
        book
act_run stamp here (Serve tid member from n reply) book =
    changed_length (serve_node (find_transaction book tid) (record { link = record { from = from; to = member.node }; number = n }) tid member reply) book.nodes here
act_run stamp here (acts.Vote tid member ballot covers) book = changed_length (vote_by book here tid member ballot covers) book.nodes here
act_run stamp here (Ask tid) book = refl
act_run stamp here (Counted tid peer so_far) book = refl
act_run stamp here (Decide tid outcome cause) book = refl
act_run stamp here (Ending tid member) book = changed_length (end_node tid) book.nodes here
act_run stamp here (Learn tid member outcome) book = changed_length (λ (v : NodeValue). doubts_after tid member.server.0 (learn_node outcome tid member.server.0 v)) book.nodes here
act_run stamp here (Answer client line said) book =
    ap length (fold_nodes hear (λ x y. refl) (waiting_of (slice_get book.owners client.0)) (with_owner client.0 (λ (owner : Owner). record owner { line = line; waiting = [] }) book))
act_run stamp here (Loan tid client) book = ap length (loan_nodes (inc_at book (record { 0 = here })) tid (borrower_at client here) book)
act_run stamp here (Yield tid client) book = ap length (yield_nodes (inc_at book (record { 0 = here })) tid (borrower_at client here) book)
act_run stamp here Tick book = changed_length (tick_node stamp) book.nodes here
act_run stamp here (Crash cause) book = changed_length (crash_node book.place) book.nodes here
act_run stamp here (Restart inc pend done) book =
    ap length (restart_nodes here inc pend done book)
    ∙ (changed_length (restarted_node (reopened here inc pend done (put_new_votes here pend book)) pend done) (changed_at here (with_votes (new_votes here book pend)) book.nodes) here
    ∙ changed_length (with_votes (new_votes here book pend)) book.nodes here)

pub ran_run : (entries : List Entry) (book : BookValue) → length (book_after book entries).nodes ≡ length book.nodes
ran_run [] book = refl
ran_run (entry ∷ entries) book = ran_run entries (effect book entry) ∙ act_run entry.stamp entry.node.0 entry.act book

-- a node that is there is one of the run's
pub in_run : (opened : List Opened) (entries : List Entry) (n : ℕ) (node : NodeValue) → IsCoherent opened → slice_get (book_after (opening opened) entries).nodes n ≡ Some node → nat_lt n (length opened) ≡ true
in_run opened entries n node coherent at = lt-ltb n (length opened) (subst (λ (m : ℕ). n < m) same (slice_get_within (book_after (opening opened) entries).nodes n node at))
  where
    same : length (book_after (opening opened) entries).nodes ≡ length opened
    same = ran_run entries (opening opened) ∙ (ap length (opening_names opened coherent).nodes ∙ length-map opened opened_node)
