-- What the tables of files and audit hold, and what a log holds, has one entry for each key at every time.
use Rattle.qs_book_laws.proofs.Words.{◌≡◌, ◌⊎◌, ℕ, Bool, true, false, List, [], ◌∷◌, ◌==◌, ◌&&◌, Option, Some, None, inl, inr, refl, sym, ap, subst, ◌∙◌, fold, map, if◌then◌else◌, slice_get-map, slice_get, slice_set, flat_map, option_map, is_at, tid_cmp, Member, Outcome, Tid, Op, Reply, Vote, tid_total, Act, Begin, Issue, Serve, Ask, Counted, Decide, Ending, Learn, Loan, Yield, Tick, Crash, Restart, Entry, Found, TableValue, served, released, committed, restarted, applied, kept, share_of}
use Rattle.qs_book_laws.proofs.Words.{no_table, timer_served, timers_ended, KeptChanges, TransactionValue, is_crossed, standing_request, requests_at, issued, Request, RequestNo, BookValue, find_transaction, changed_at, with_owner, with_transaction, with_waiting, with_crossing, crosses, serve_node, server_serve, crossed_serve, is_done, vote_node, crossed_in, learn_node, doubts_after, hear, answer, waiting_of, inc_at, end_node, tick_node, crash_node, loan_to, give_back_from, pending_in, link_to}
use Rattle.qs_book_laws.proofs.Words.{borrower_at, effect_act, effect, NodeValue, with_table, crossed_node, crossed_server, crossed_names, without_record, pending_at, voter, voter_cmp, opened_node, put_record, put_of, note_of, keep_pending, opening, is_found, restarted_node, reopened, without_records, with_votes, new_votes, put_new_votes, Opened, Pending, OnRecord, Owner, Reopened, Voter, IsCoherent}
use Rattle.qs_base.specs.declared.identifiers.Outcome.TheVariants as outcomes
use Rattle.qs_ops.specs.declared.vote.Vote.TheVariants as votes
use Rattle.qs_book_journal.specs.declared.entry.Act.TheVariants.{Answer}
use Rattle.qs_book_journal.specs.declared.entry.Act.TheVariants as acts
use Rattle.qs_ops.specs.Table.{with_vote, after_serve}
use Rattle.qs_book_machine.specs.Nodes.{with_doubts, without_doubts, bound_names}
use Rattle.qs_book_machine.specs.Restart.{with_vote as put_vote}
use Rattle.qs_book_laws.proofs.Holding.{waiting_nodes, fold_nodes, loan_nodes, yield_nodes, restart_nodes}
use Rattle.qs_book_laws.proofs.Maps.{changed_at_either}
use Rattle.qs_book_laws.proofs.Openings.{first_book, opening_names}
use Rattle.qs_book_laws.proofs.Rising.{IsRising, filter_rises, put_rises, remove_rises, voter_total}
use Rattle.qs_book_laws.proofs.Takes.{some_same}
use Rattle.qs_book_laws.proofs.Faces.{vote_by}

abbrev pub IsTidyTable : TableValue → Type 0
IsTidyTable table = IsRising tid_cmp table.shares

pub record IsTidy (node : NodeValue) : Type 0 where
  pub files : IsTidyTable node.files
  pub audit : IsTidyTable node.audit
  pub records : IsRising voter_cmp node.records

either_tidy : (b : Bool) (x y : NodeValue) → IsTidy x → IsTidy y → IsTidy (if b then x else y)
either_tidy true x y p q = p
either_tidy false x y p q = q

-- ---- tables

abbrev KeepsTidy : (TableValue → TableValue) → Type 0
KeepsTidy f = (table : TableValue) → IsTidyTable table → IsTidyTable (f table)

released_tidy : (tid : Tid) → KeepsTidy (λ table. released table tid)
released_tidy tid table t = remove_rises tid_cmp (is_at (tid_cmp tid)) table.shares t

served_tidy : (tid : Tid) (op : Op) (reply : Reply) → KeepsTidy (λ table. served table tid op reply)
served_tidy tid op reply table t = put_rises tid_cmp tid_total tid (after_serve (share_of table tid) op reply) table.shares t

vote_tidy : (tid : Tid) (voted : Bool) → KeepsTidy (λ table. with_vote table tid voted)
vote_tidy tid voted table t = put_rises tid_cmp tid_total tid (record (share_of table tid) { voted = voted }) table.shares t

all_kept : (keeps : List KeptChanges) (table : TableValue) → IsTidyTable table → IsTidyTable (fold kept table keeps)
all_kept [] table t = t
all_kept (k ∷ keeps) table t = all_kept keeps (kept table k) (put_rises tid_cmp tid_total k.tid _ table.shares t)

restarted_tidy : (table : TableValue) (changes : List Op) (keeps : List KeptChanges) → IsTidyTable (restarted table changes keeps)
restarted_tidy table changes keeps = all_kept keeps (record (applied table changes) { shares = [] }) tt

with_table_tidy : (s : ℕ) (f : TableValue → TableValue) → KeepsTidy f → (v : NodeValue) → IsTidy v → IsTidy (with_table s f v)
with_table_tidy s f keeps v t =
    either_tidy (s == 0) _ _ (record { files = keeps v.files t.files; audit = t.audit; records = t.records })
    (either_tidy (s == 1) _ _ (record { files = t.files; audit = keeps v.audit t.audit; records = t.records })
    (either_tidy (s == 2) _ _ (record { files = t.files; audit = t.audit; records = t.records })
    (either_tidy (s == 4) _ _ (record { files = t.files; audit = t.audit; records = t.records })
    (either_tidy (s == 5) _ _ (record { files = t.files; audit = t.audit; records = t.records }) t))))

-- ---- nodes

same_tables : (v w : NodeValue) → w.files ≡ v.files → w.audit ≡ v.audit → w.records ≡ v.records → IsTidy v → IsTidy w
same_tables v w files audit records t = record {
  files = subst IsTidyTable (sym files) t.files;
  audit = subst IsTidyTable (sym audit) t.audit;
  records = subst (IsRising voter_cmp) (sym records) t.records;
}

crossed_tidy : (tid : Tid) (s : ℕ) (v : NodeValue) → IsTidy v → IsTidy (crossed_node tid s v)
crossed_tidy tid s v t =
    either_tidy v.up (crossed_server tid s v) v
    (either_tidy (s == 2) (crossed_names tid v) _ (with_table_tidy 2 (λ table. released table tid) (released_tidy tid) doubted (same_tables v doubted refl refl refl t))
    (either_tidy (s == 3) (record v { timers = timers_ended v.timers tid }) _ (same_tables v (record v { timers = timers_ended v.timers tid }) refl refl refl t)
    (with_table_tidy s (λ table. released table tid) (released_tidy tid) v t))) t
  where
    doubted : NodeValue
    doubted = with_doubts tid (bound_names (pending_at v tid 2)) v

server_serve_tidy : (s : ℕ) (tid : Tid) (op : Op) (reply : Reply) (v : NodeValue) → IsTidy v → IsTidy (server_serve s tid op reply v)
server_serve_tidy s tid op reply v t =
    either_tidy (s == 3) (record v { timers = timer_served v.timers tid op reply }) _ (same_tables v (record v { timers = timer_served v.timers tid op reply }) refl refl refl t)
    (with_table_tidy s (λ table. served table tid op reply) (served_tidy tid op reply) v t)

crossed_serve_tidy : (s : ℕ) (tid : Tid) (requests : List Request) (reply : Reply) (v : NodeValue) → IsTidy v → IsTidy (crossed_serve s tid requests reply v)
crossed_serve_tidy s tid requests reply v t =
    either_tidy ((s == 2) && is_done reply) doubted v (same_tables v doubted refl refl refl t) t
  where
    doubted : NodeValue
    doubted = with_doubts tid (bound_names (map (λ (request : Request). request.op) requests)) v

serve_tidy : (o : Option TransactionValue) (at : RequestNo) (tid : Tid) (member : Member) (reply : Reply) (v : NodeValue) → IsTidy v → IsTidy (serve_node o at tid member reply v)
serve_tidy None at tid member reply v t = t
serve_tidy (Some tx) at tid member reply v t =
    either_tidy (is_crossed tx member) (crossed_serve member.server.0 tid (requests_at tx at) reply v) _ (crossed_serve_tidy member.server.0 tid (requests_at tx at) reply v t) (of (standing_request tx at member))
  where
    of : (o : Option Request) → IsTidy (elim o [ None ↦ v | Some request ↦ server_serve member.server.0 tid request.op reply v ])
    of None = t
    of (Some request) = server_serve_tidy member.server.0 tid request.op reply v t

vote_node_tidy : (count : ℕ) (crossed : Bool) (tid : Tid) (s : ℕ) (ballot : Vote) (covers : ℕ) (v : NodeValue) → IsTidy v → IsTidy (vote_node count crossed tid s ballot covers v)
vote_node_tidy count crossed tid s votes.ReadOnly covers v t = with_table_tidy s (λ table. released table tid) (released_tidy tid) v t
vote_node_tidy count true tid s (votes.Abort reason) covers v t = t
vote_node_tidy count false tid s (votes.Abort reason) covers v t = with_table_tidy s (λ table. with_vote table tid false) (vote_tidy tid false) v t
vote_node_tidy count true tid s votes.Volatile covers v t = t
vote_node_tidy count false tid s votes.Volatile covers v t = with_table_tidy s (λ table. with_vote table tid true) (vote_tidy tid true) v t
vote_node_tidy count crossed tid s votes.Recoverable covers v t = record { files = t.files; audit = t.audit; records = put_rises voter_cmp voter_total (voter tid s) _ v.records t.records }

pub without_tidy : (tid : Tid) (s : ℕ) (v : NodeValue) → IsTidy v → IsTidy (without_record tid s v)
without_tidy tid s v t = record { files = t.files; audit = t.audit; records = remove_rises voter_cmp (is_at (voter_cmp (voter tid s))) v.records t.records }

learn_tidy : (tid : Tid) (s : ℕ) (outcome : Outcome) (v : NodeValue) → IsTidy v → IsTidy (doubts_after tid s (learn_node outcome tid s v))
learn_tidy tid s outcome v t = either_tidy (s == 2) (without_doubts tid (learn_node outcome tid s v)) (learn_node outcome tid s v) (same_tables (learn_node outcome tid s v) (without_doubts tid (learn_node outcome tid s v)) refl refl refl (of outcome)) (of outcome)
  where
    of : (outcome : Outcome) → IsTidy (learn_node outcome tid s v)
    of outcomes.Commit = without_tidy tid s (with_table s (λ table. committed table tid) v) (with_table_tidy s (λ table. committed table tid) (λ table u. released_tidy tid table u) v t)
    of outcomes.Abort = with_table_tidy s (λ table. released table tid) (released_tidy tid) v t

pub votes_tidy : (votes : List (Voter × OnRecord)) (v : NodeValue) → IsTidy v → IsTidy (with_votes votes v)
votes_tidy [] v t = t
votes_tidy (vote ∷ votes) v t =
    votes_tidy votes (put_vote v vote) (record { files = t.files; audit = t.audit; records = put_rises voter_cmp voter_total vote.0 vote.1 v.records t.records })

forgot_tidy : (done : List Tid) (v : NodeValue) → IsTidy v → IsTidy (fold without_records v done)
forgot_tidy [] v t = t
forgot_tidy (tid ∷ done) v t =
    forgot_tidy done (without_records v tid) (without_tidy tid 6 (without_record tid 1 (without_record tid 0 v)) (without_tidy tid 1 (without_record tid 0 v) (without_tidy tid 0 v t)))

restart_tidy : (left : Reopened) (pend : List Found) (done : List Tid) (v : NodeValue) → IsTidy v → IsTidy (restarted_node left pend done v)
restart_tidy left pend done v t = record {
  files = restarted_tidy (fold without_records v done).files left.files left.files_kept;
  audit = restarted_tidy (fold without_records v done).audit left.audit left.audit_kept;
  records = filter_rises voter_cmp (is_found pend) (fold without_records v done).records (forgot_tidy done v t).records;
}

opened_tidy : (one : Opened) → IsTidy (opened_node one)
opened_tidy one = record {
  files = restarted_tidy no_table (map put_of one.files) (flat_map (keep_pending 0) one.pending);
  audit = restarted_tidy no_table (map note_of one.audit) (flat_map (keep_pending 1) one.pending);
  records = put one.pending [] tt;
}
  where
    put : (pending : List Pending) (es : List (Voter × OnRecord)) → IsRising voter_cmp es → IsRising voter_cmp (fold put_record es pending)
    put [] es rising = rising
    put (p ∷ pending) es rising = put pending (put_record es p) (put_rises voter_cmp voter_total (voter p.tid p.server.0) _ es rising)

-- ---- books

abbrev pub AllTidy : List NodeValue → Type 0
AllTidy nodes = (n : ℕ) (node : NodeValue) → slice_get nodes n ≡ Some node → IsTidy node

changed_tidy : (here : ℕ) (f : NodeValue → NodeValue) → ((v : NodeValue) → IsTidy v → IsTidy (f v)) → (nodes : List NodeValue) → AllTidy nodes → AllTidy (changed_at here f nodes)
changed_tidy here f keeps nodes all n node is = by (slice_get nodes here) refl
  where
    at : (u : NodeValue) → ((n ≡ here) × (slice_get nodes n ≡ Some u) × (slice_get (changed_at here f nodes) n ≡ Some (f u))) ⊎ (slice_get (changed_at here f nodes) n ≡ slice_get nodes n) → IsTidy node
    at u (inl h) = subst IsTidy (some_same (f u) node (sym h.2 ∙ is)) (keeps u (all n u h.1))
    at u (inr h) = all n node (sym h ∙ is)

    by : (o : Option NodeValue) → slice_get nodes here ≡ o → IsTidy node
    by None none = all n node (sym (ap (λ (xs : List NodeValue). slice_get xs n) (same none)) ∙ is)
      where
        same : slice_get nodes here ≡ None → changed_at here f nodes ≡ nodes
        same h = subst (λ (o : Option NodeValue). (elim o [ None ↦ nodes | Some x ↦ slice_set nodes here (f x) ]) ≡ nodes) (sym h) refl
    by (Some u) found = at u (changed_at_either f nodes here n u found)

same_tidy : (old new : List NodeValue) → new ≡ old → AllTidy old → AllTidy new
same_tidy old new same all = subst AllTidy (sym same) all

crossing_tidy : (c : Bool) (tid : Tid) (member : Member) (book : BookValue) → AllTidy book.nodes → AllTidy (with_crossing c tid member book).nodes
crossing_tidy true tid member book all = changed_tidy member.node.0 (crossed_node tid member.server.0) (crossed_tidy tid member.server.0) book.nodes all
crossing_tidy false tid member book all = all

acted_tidy : (book : BookValue) (stamp here : ℕ) (act : Act) → AllTidy book.nodes → AllTidy (effect_act stamp here act book).nodes
acted_tidy book stamp here (Begin t label client) all = changed_tidy here (λ (v : NodeValue). record v { begun = t.seq }) (λ v u. same_tables v (record v { begun = t.seq }) refl refl refl u) book.nodes all
acted_tidy book stamp here (Issue t issuer other number op) all =
    crossing_tidy (crosses (find_transaction book t) no other) t other (with_waiting t issuer other one) (same_tidy book.nodes (with_waiting t issuer other one).nodes (waiting_nodes t issuer other one) all)
  where
    no : RequestNo
    no = record { link = link_to here other; number = number }

    one : BookValue
    one = with_transaction t (issued no (record { issuer = issuer; member = other; op = op; inc = inc_at book (record { 0 = here }); served = false }) (inc_at book other.node) book.place) book
acted_tidy book stamp here (Serve t other from number reply) all = changed_tidy here (serve_node (find_transaction book t) no t other reply) (serve_tidy (find_transaction book t) no t other reply) book.nodes all
  where
    no : RequestNo
    no = record { link = record { from = from; to = other.node }; number = number }
acted_tidy book stamp here (acts.Vote t other ballot covers) all =
    changed_tidy here (vote_by book here t other ballot covers) (vote_node_tidy (pending_in (find_transaction book t) other (inc_at book (record { 0 = here }))) (crossed_in (find_transaction book t) other) t other.server.0 ballot covers) book.nodes all
acted_tidy book stamp here (Ask t) all = all
acted_tidy book stamp here (Counted t peer up_to) all = all
acted_tidy book stamp here (Decide t outcome cause) all = all
acted_tidy book stamp here (Ending t other) all = changed_tidy here (end_node t) (λ v u. same_tables v (end_node t v) refl refl refl u) book.nodes all
acted_tidy book stamp here (Learn t other outcome) all =
    changed_tidy here (λ v. doubts_after t other.server.0 (learn_node outcome t other.server.0 v)) (learn_tidy t other.server.0 outcome) book.nodes all
acted_tidy book stamp here (Answer client line said) all =
    same_tidy book.nodes (answer client line book).nodes
    (fold_nodes hear (λ x y. refl) (waiting_of (slice_get book.owners client.0)) (with_owner client.0 (λ (owner : Owner). record owner { line = line; waiting = [] }) book)) all
acted_tidy book stamp here (Loan t client) all = same_tidy book.nodes (loan_to (inc_at book (record { 0 = here })) t (borrower_at client here) book).nodes (loan_nodes (inc_at book (record { 0 = here })) t (borrower_at client here) book) all
acted_tidy book stamp here (Yield t client) all = same_tidy book.nodes (give_back_from (inc_at book (record { 0 = here })) t (borrower_at client here) book).nodes (yield_nodes (inc_at book (record { 0 = here })) t (borrower_at client here) book) all
acted_tidy book stamp here Tick all = changed_tidy here (tick_node stamp) (λ v u. same_tables v (tick_node stamp v) refl refl refl u) book.nodes all
acted_tidy book stamp here (Crash cause) all = changed_tidy here (crash_node book.place) (λ v u. same_tables v (crash_node book.place v) refl refl refl u) book.nodes all
acted_tidy book stamp here (Restart inc pend done) all =
    subst AllTidy (sym (restart_nodes here inc pend done book))
    (changed_tidy here (restarted_node left pend done) (restart_tidy left pend done) (changed_at here (with_votes (new_votes here book pend)) book.nodes)
    (changed_tidy here (with_votes (new_votes here book pend)) (votes_tidy (new_votes here book pend)) book.nodes all))
  where
    left : Reopened
    left = reopened here inc pend done (put_new_votes here pend book)

pub step_tidy : (book : BookValue) (entry : Entry) → AllTidy book.nodes → AllTidy (effect book entry).nodes
step_tidy book entry all = acted_tidy book entry.stamp entry.node.0 entry.act all

pub opening_tidy : (opened : List Opened) → IsCoherent opened → AllTidy (opening opened).nodes
opening_tidy opened coherent = same_tidy (first_book opened).nodes (opening opened).nodes (opening_names opened coherent).nodes first
  where
    of : (o : Option Opened) (node : NodeValue) → option_map opened_node o ≡ Some node → IsTidy node
    of None node is = absurd (cc is)
    of (Some one) node is = subst IsTidy (some_same (opened_node one) node is) (opened_tidy one)

    first : AllTidy (map opened_node opened)
    first n node is = of (slice_get opened n) node (sym (slice_get-map opened_node opened n) ∙ is)
