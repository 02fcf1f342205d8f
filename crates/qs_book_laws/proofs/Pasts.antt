-- A node ran in an incarnation of this run exactly where it opened in it, or an entry restarted it into it.
use Rattle.qs_book_laws.proofs.Words.{◌≡◌, ℕ, ◌<◌, ◌≤◌, ◌==◌, ◌&&◌, ◌||◌, Bool, true, false, List, [], ◌∷◌, Option, Some, None, refl, sym, ap, subst, ◌∙◌, fold, if◌then◌else◌, arith, le_refl, slice_get, unwrap_or, list_any, option_map, nat_cmp, match_ordering, Ordering, Less, Equal, Greater, exact_unsigned, Member, NodeNo, Outcome, Tid, TableValue, released, served, committed, files_no, timer_served, timers_ended, Op, Reply, Vote, Act, Begin, Issue, Serve, Ask, Counted, Decide, Ending, Learn}
use Rattle.qs_book_laws.proofs.Words.{Loan, Yield, Tick, Crash, Restart, Entry, TransactionValue, issued, is_crossed, standing_request, Request, RequestNo, BookValue, find_transaction, changed_at, with_owner, with_transaction, with_waiting, with_crossing, crosses, serve_node, server_serve, is_done, vote_node, learn_node, doubts_after, hear, waiting_of, tick_node, crash_node, end_node, inc_at, link_to, borrower_at, is_in_order, broken_act, broken_at, broken, effect_act, effect, IsLawful}
use Rattle.qs_book_laws.proofs.Words.{book_after, NodeValue, with_table, crossed_node, crossed_server, crossed_names, crossed_table, restarted_node, reopened, put_new_votes, with_votes, new_votes, without_records, broken_restart, OnRecord, Voter, restarts_into, is_restart, restarts, Owner, and_false, false-or, or_assoc}
use Rattle.std.specs.BTreeSet.{insert_key}
use Rattle.qs_base.specs.declared.identifiers.Outcome.TheVariants as outcomes
use Rattle.qs_ops.specs.Table.{with_vote as voted_table}
use Rattle.qs_ops.specs.Servers.{audit_no, names_no, timers_no, windows_no, scratch_no}
use Rattle.qs_ops.specs.declared.vote.Vote.TheVariants as votes
use Rattle.qs_book_journal.specs.declared.entry.Act.TheVariants.{Answer}
use Rattle.qs_book_journal.specs.declared.entry.Act.TheVariants as acts
use Rattle.qs_book_machine.specs.Restart.{with_vote}
use Rattle.qs_book_laws.specs.Gone.{is_restart_into}
use Rattle.qs_book_laws.proofs.Again.{restart_node, reopened_there, effect_nodes}
use Rattle.qs_book_laws.proofs.Gone.{inc_as}
use Rattle.qs_book_laws.proofs.Lives.{same_life, Reborn, reborn, Restarting, restarting}
use Rattle.qs_book_laws.proofs.Faces.{either_way, vote_by}
use Rattle.qs_book_laws.proofs.Holding.{left_of, fold_nodes, loan_nodes, yield_nodes, waiting_nodes, restart_nodes}
use Rattle.qs_book_laws.proofs.Holds.{elsewhere}
use Rattle.qs_book_laws.proofs.Maps.{changed_at_alike}
use Rattle.qs_book_laws.proofs.Steps.{held}
use Rattle.qs_base_lemmas.proofs.Tests.{le_le, eq_ge}

pub record Run : Type 0 where
  pub inc : ℕ
  pub past : List ℕ

abbrev pub run_of : NodeValue → Run
run_of node = record { inc = node.inc; past = node.past }

-- ---- what leaves it

table_run : (server : ℕ) (f : TableValue → TableValue) (node : NodeValue) → run_of (with_table server f node) ≡ run_of node
table_run server f node =
    either_way run_of (server == files_no) _ _ _ refl
    (either_way run_of (server == audit_no) _ _ _ refl
    (either_way run_of (server == names_no) _ _ _ refl
    (either_way run_of (server == windows_no) _ _ _ refl
    (either_way run_of (server == scratch_no) _ _ _ refl refl))))

crossed_run : (tid : Tid) (server : ℕ) (node : NodeValue) → run_of (crossed_node tid server node) ≡ run_of node
crossed_run tid server node = either_way run_of node.up (crossed_server tid server node) node (run_of node) inner refl
  where
    other : NodeValue
    other = if server == timers_no then record node { timers = timers_ended node.timers tid } else crossed_table tid server node

    inner : run_of (crossed_server tid server node) ≡ run_of node
    inner =
        either_way run_of (server == names_no) (crossed_names tid node) other (run_of node) refl
        (either_way run_of (server == timers_no) (record node { timers = timers_ended node.timers tid }) (crossed_table tid server node) (run_of node) refl (table_run server (λ table. released table tid) node))

serve_run : (o : Option TransactionValue) (at : RequestNo) (tid : Tid) (member : Member) (reply : Reply) (node : NodeValue) → run_of (serve_node o at tid member reply node) ≡ run_of node
serve_run None at tid member reply node = refl
serve_run (Some tx) at tid member reply node =
    either_way run_of (is_crossed tx member) _ _ _ (either_way run_of ((member.server.0 == names_no) && is_done reply) _ _ _ refl refl) (of (standing_request tx at member))
  where
    one : (op : Op) → run_of (server_serve member.server.0 tid op reply node) ≡ run_of node
    one op =
        either_way run_of (member.server.0 == timers_no) (record node { timers = timer_served node.timers tid op reply }) (with_table member.server.0 (λ table. served table tid op reply) node) (run_of node) refl
        (table_run member.server.0 (λ table. served table tid op reply) node)

    of : (o : Option Request) → run_of (elim o [ None ↦ node | Some request ↦ server_serve member.server.0 tid request.op reply node ]) ≡ run_of node
    of None = refl
    of (Some request) = one request.op

vote_run : (count : ℕ) (crossed : Bool) (tid : Tid) (server : ℕ) (ballot : Vote) (covers : ℕ) (node : NodeValue) → run_of (vote_node count crossed tid server ballot covers node) ≡ run_of node
vote_run count crossed tid server votes.ReadOnly covers node = table_run server (λ table. released table tid) node
vote_run count true tid server (votes.Abort reason) covers node = refl
vote_run count false tid server (votes.Abort reason) covers node = table_run server (λ table. voted_table table tid false) node
vote_run count true tid server votes.Volatile covers node = refl
vote_run count false tid server votes.Volatile covers node = table_run server (λ table. voted_table table tid true) node
vote_run count crossed tid server votes.Recoverable covers node = refl

learn_run : (outcome : Outcome) (tid : Tid) (server : ℕ) (node : NodeValue) → run_of (doubts_after tid server (learn_node outcome tid server node)) ≡ run_of node
learn_run outcome tid server node = either_way run_of (server == names_no) _ _ _ (of outcome) (of outcome)
  where
    of : (o : Outcome) → run_of (learn_node o tid server node) ≡ run_of node
    of outcomes.Commit = table_run server (λ table. committed table tid) node
    of outcomes.Abort = table_run server (λ table. released table tid) node

-- ---- acts

module _ (n : ℕ) where
  abbrev runs : List NodeValue → Option Run
  runs nodes = option_map run_of (slice_get nodes n)

  at : (here : ℕ) (f : NodeValue → NodeValue) → ((v : NodeValue) → run_of (f v) ≡ run_of v) → (nodes : List NodeValue) → runs (changed_at here f nodes) ≡ runs nodes
  at here f keeps nodes = changed_at_alike run_of f keeps nodes here n

  acted : (book : BookValue) (stamp here : ℕ) (node : NodeValue) (act : Act) → broken_act book stamp here node act ≡ None → runs (effect_act stamp here act book).nodes ≡ runs book.nodes
  acted book stamp here node (Begin t label client) h = at here (λ (v : NodeValue). record v { begun = t.seq }) (λ v. refl) book.nodes
  acted book stamp here node (Issue t issuer m k op) h = crossing (crosses (find_transaction book t) no m) ∙ ap runs (waiting_nodes t issuer m one)
    where
      no : RequestNo
      no = record { link = link_to here m; number = k }

      one : BookValue
      one = with_transaction t (issued no (record { issuer = issuer; member = m; op = op; inc = inc_at book (record { 0 = here }); served = false }) (inc_at book m.node) book.place) book

      crossing : (c : Bool) → runs (with_crossing c t m (with_waiting t issuer m one)).nodes ≡ runs (with_waiting t issuer m one).nodes
      crossing true = at m.node.0 (crossed_node t m.server.0) (crossed_run t m.server.0) (with_waiting t issuer m one).nodes
      crossing false = refl
  acted book stamp here node (Serve t m from k reply) h = at here _ (serve_run (find_transaction book t) (record { link = record { from = from; to = m.node }; number = k }) t m reply) book.nodes
  acted book stamp here node (acts.Vote t m ballot covers) h = at here (vote_by book here t m ballot covers) (vote_run _ _ t m.server.0 ballot covers) book.nodes
  acted book stamp here node (Ask t) h = refl
  acted book stamp here node (Counted t peer so_far) h = refl
  acted book stamp here node (Decide t outcome cause) h = refl
  acted book stamp here node (Ending t m) h = at here (end_node t) (λ v. refl) book.nodes
  acted book stamp here node (Learn t m outcome) h = at here (λ (v : NodeValue). doubts_after t m.server.0 (learn_node outcome t m.server.0 v)) (learn_run outcome t m.server.0) book.nodes
  acted book stamp here node (Answer client line said) h =
      ap runs (fold_nodes hear (λ x y. refl) (waiting_of (slice_get book.owners client.0)) (with_owner client.0 (λ (owner : Owner). record owner { line = line; waiting = [] }) book))
  acted book stamp here node (Loan t client) h = ap runs (loan_nodes (inc_at book (record { 0 = here })) t (borrower_at client here) book)
  acted book stamp here node (Yield t client) h = ap runs (yield_nodes (inc_at book (record { 0 = here })) t (borrower_at client here) book)
  acted book stamp here node Tick h = at here (tick_node stamp) (λ v. refl) book.nodes
  acted book stamp here node (Crash cause) h = at here (crash_node book.place) (λ v. refl) book.nodes
  acted book stamp here node (Restart inc pend done) h = absurd (cc h)

  stepped_run : (book : BookValue) (stamp here : ℕ) (o : Option NodeValue) (act : Act) → ((here == n) && is_restart act) ≡ false → broken_at book stamp here o act ≡ None → runs (effect_act stamp here act book).nodes ≡ runs book.nodes
  stepped_run book stamp here None act far h = absurd (cc h)
  stepped_run book stamp here (Some node) (Restart inc pend done) far h =
      ap runs (restart_nodes here inc pend done book)
      ∙ ap (option_map run_of)
      (elsewhere (restarted_node (reopened here inc pend done (put_new_votes here pend book)) pend done) (changed_at here (with_votes (new_votes here book pend)) book.nodes) here n (off (here == n) far)
      ∙ elsewhere (with_votes (new_votes here book pend)) book.nodes here n (off (here == n) far))
    where
      off : (b : Bool) → (b && true) ≡ false → b ≡ false
      off true h = absurd (cc h)
      off false h = refl
  stepped_run book stamp here (Some node) act far h = acted book stamp here node act (held node.up 2 (broken_act book stamp here node act) h).1

-- ---- histories

one_more : (xs : List ℕ) (y gone : ℕ) → list_any (λ p. p == gone) (insert_key nat_cmp xs y) ≡ ((y == gone) || list_any (λ p. p == gone) xs)
one_more [] y gone = refl
one_more (x ∷ xs) y gone = by (nat_cmp y x) refl (one_more xs y gone)
  where
    twice : (a b : Bool) → (a || b) ≡ (a || (a || b))
    twice true b = refl
    twice false b = refl

    swap : (a b c : Bool) → (a || (b || c)) ≡ (b || (a || c))
    swap true true c = refl
    swap true false c = refl
    swap false b c = refl

    by : (o : Ordering) → nat_cmp y x ≡ o → list_any (λ p. p == gone) (insert_key nat_cmp xs y) ≡ ((y == gone) || list_any (λ p. p == gone) xs)
        → list_any (λ p. p == gone) (match_ordering o (y ∷ x ∷ xs) (x ∷ xs) (x ∷ insert_key nat_cmp xs y)) ≡ ((y == gone) || list_any (λ p. p == gone) (x ∷ xs))
    by Less is more = refl
    by Equal is more =
        subst (λ (k : ℕ). list_any (λ p. p == gone) (x ∷ xs) ≡ ((k == gone) || list_any (λ p. p == gone) (x ∷ xs))) (sym (exact_unsigned y x is)) (twice (x == gone) (list_any (λ p. p == gone) xs))
    by Greater is more = ap (λ (b : Bool). (x == gone) || b) more ∙ swap (x == gone) (y == gone) (list_any (λ p. p == gone) xs)

module _ (node : NodeNo) (gone : ℕ) where
  abbrev pub has_run : Option Run → Bool
  has_run None = false
  has_run (Some run) = (run.inc == gone) || list_any (λ p. p == gone) run.past

  abbrev pub ran_at : BookValue → Bool
  ran_at book = has_run (option_map run_of (slice_get book.nodes node.0))

  step_ran : (book : BookValue) (entry : Entry) → broken book entry ≡ None → ran_at (effect book entry) ≡ (ran_at book || restarts_into node gone entry)
  step_ran book entry h = by (restarts node entry) refl
    where
      none_into : restarts node entry ≡ false → restarts_into node gone entry ≡ false
      none_into far = of entry.act far
        where
          less : (b c : Bool) → (b && true) ≡ false → (b && c) ≡ false
          less true c h = absurd (cc h)
          less false c h = refl

          of : (act : Act) → ((entry.node.0 == node.0) && is_restart act) ≡ false → ((entry.node.0 == node.0) && is_restart_into gone act) ≡ false
          of (Restart inc pend done) h = less (entry.node.0 == node.0) (inc == gone) h
          of act h = and_false (entry.node.0 == node.0)

      swap : (a b : Bool) → (a || b) ≡ (b || a)
      swap true true = refl
      swap true false = refl
      swap false true = refl
      swap false false = refl

      by : (b : Bool) → restarts node entry ≡ b → ran_at (effect book entry) ≡ (ran_at book || restarts_into node gone entry)
      by false far =
          ap has_run (stepped_run node.0 book entry.stamp entry.node.0 (slice_get book.nodes entry.node.0) entry.act far (held (is_in_order book entry) 1 _ h).1)
          ∙ (false-or (ran_at book) ∙ ap (λ (b : Bool). ran_at book || b) (sym (none_into far)))
      by true near =
          let r : Restarting node entry = restarting node entry near in
          let at : (v : NodeValue) × (slice_get book.nodes node.0 ≡ Some v) × (broken_restart node.0 book v r.inc r.pend r.done ≡ None) = restart_node book entry node.0 r.inc r.pend r.done h r.act r.here in
          let last : slice_get (effect book entry).nodes node.0 ≡ Some (restarted_node (reopened node.0 r.inc r.pend r.done (put_new_votes node.0 r.pend book)) r.pend r.done (with_votes (new_votes node.0 book r.pend) at.0)) =
          ap (λ (nodes : List NodeValue). slice_get nodes node.0) (effect_nodes book entry node.0 r.inc r.pend r.done r.act r.here) ∙ reopened_there node.0 r.inc r.pend r.done book at.0 at.1 in
          let now : ran_at (effect book entry) ≡ ((r.inc == gone) || list_any (λ p. p == gone) (insert_key nat_cmp at.0.past at.0.inc)) =
          ap (λ (o : Option NodeValue). has_run (option_map run_of o)) last
          ∙ ap (λ (x : Run). (r.inc == gone) || list_any (λ p. p == gone) (insert_key nat_cmp x.past x.inc)) (forgot r.done (with_votes (new_votes node.0 book r.pend) at.0) ∙ voted (new_votes node.0 book r.pend) at.0) in
          let was : ran_at book ≡ ((at.0.inc == gone) || list_any (λ p. p == gone) at.0.past) = ap (λ (o : Option NodeValue). has_run (option_map run_of o)) at.1 in
          let into : restarts_into node gone entry ≡ (r.inc == gone) =
          ap (λ (a : Act). (entry.node.0 == node.0) && is_restart_into gone a) r.act ∙ ap (λ (b : Bool). b && (r.inc == gone)) (left_of (entry.node.0 == node.0) (is_restart entry.act) near) in
          now ∙ (ap (λ (b : Bool). (r.inc == gone) || b) (one_more at.0.past at.0.inc gone)
          ∙ (swap (r.inc == gone) ((at.0.inc == gone) || list_any (λ p. p == gone) at.0.past)
          ∙ (ap (λ (b : Bool). b || (r.inc == gone)) (sym was) ∙ ap (λ (b : Bool). ran_at book || b) (sym into))))
        where
          forgot : (done : List Tid) (v : NodeValue) → run_of (fold without_records v done) ≡ run_of v
          forgot [] v = refl
          forgot (tid ∷ done) v = forgot done (without_records v tid)

          voted : (vs : List (Voter × OnRecord)) (v : NodeValue) → run_of (with_votes vs v) ≡ run_of v
          voted [] v = refl
          voted (x ∷ vs) v = voted vs (with_vote v x)

  pub ran_through : (entries : List Entry) (book : BookValue) → IsLawful book entries → ran_at (book_after book entries) ≡ (ran_at book || list_any (restarts_into node gone) entries)
  ran_through [] book lawful = false-or (ran_at book)
  ran_through (entry ∷ entries) book lawful =
      ran_through entries (effect book entry) lawful.1
      ∙ (ap (λ (b : Bool). b || list_any (restarts_into node gone) entries) (step_ran book entry lawful.0) ∙ or_assoc (ran_at book) (restarts_into node gone entry) (list_any (restarts_into node gone) entries))

  -- its incarnation does not fall
  pub inc_rises : (entries : List Entry) (book : BookValue) → IsLawful book entries → inc_at book node ≤ inc_at (book_after book entries) node
  inc_rises [] book lawful = le_refl (inc_at book node)
  inc_rises (entry ∷ entries) book lawful = le_le (inc_at book node) (inc_at (effect book entry) node) _ (by (restarts node entry) refl) (inc_rises entries (effect book entry) lawful.1)
    where
      lower : (a b c d : ℕ) → a ≡ b → b < c → d ≡ c → a ≤ d
      lower a b c d e k f = omega arith

      by : (b : Bool) → restarts node entry ≡ b → inc_at book node ≤ inc_at (effect book entry) node
      by false far = eq_ge (inc_at book node) (inc_at (effect book entry) node) (inc_as (effect book entry) node ∙ (ap (λ (o : Option ℕ). unwrap_or o 0) (same_life node book entry far lawful.0) ∙ sym (inc_as book node)))
      by true near =
          let r : Restarting node entry = restarting node entry near in
          let x : Reborn book (effect book entry) node.0 r.inc = reborn book entry node.0 r.inc r.pend r.done lawful.0 r.act r.here in
          lower (inc_at book node) x.old r.inc (inc_at (effect book entry) node) (inc_as book node ∙ ap (λ (o : Option ℕ). unwrap_or o 0) x.was) x.later (inc_as (effect book entry) node ∙ ap (λ (o : Option ℕ). unwrap_or o 0) x.now)
