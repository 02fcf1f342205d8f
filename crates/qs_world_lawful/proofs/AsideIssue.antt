-- What an issue of another node makes of the state of a node: where the request crosses its transaction at a server there, the machine hides it
-- there from then on; else it leaves the state.
use Rattle.qs_world_lawful.proofs.Words.{◌≡◌, ◌≢◌, ◌⊎◌, inl, inr, ℕ, ◌==◌, ◌&&◌, not, Bool, true, false, List, Option, Some, None, refl, sym, ap, subst, ◌∙◌, is_some, if◌then◌else◌, slice_get, lookup, is_at, member_cmp, tid_cmp, Member, NodeNo, Tid, tid_itself, same_number, elsewhere, changed_at_here, BookValue, crosses, find_transaction, inc_at, with_crossing, with_transaction, with_waiting, link_to, crossed_names, crossed_node, crossed_server, crossed_table, with_table, TransactionValue}
use Rattle.qs_world_lawful.proofs.Words.{crossed_by, is_crossed, issued, standing_request, Request, RequestNo, names_no, scratch_no, windows_no, TableValue, released, timers_ended, Op, ServersValue, SameContents, HoldsServers, is_seen, seen_in, eqb-self, and_false, and_true}
use Rattle.qs_book_machine.specs.Book.{issue}
use Rattle.qs_book_machine.specs.Nodes as machine
use Rattle.qs_ops.specs.Servers.{audit_no, files_no, timers_no}
use Rattle.qs_world_lawful.proofs.Apart.{Apart, same_or_apart}
use Rattle.qs_world_lawful.proofs.CrossedTables.{crossed_up, servers_alike}
use Rattle.qs_world_lawful.proofs.Crossing.{crossing_txs, waiting_nodes, waiting_txs}
use Rattle.qs_world_lawful.proofs.Frames.{SameState}
use Rattle.qs_world_lawful.proofs.IssuedStands.{crossed_elsewhere}
use Rattle.qs_world_lawful.proofs.Keys.{member_found}
use Rattle.qs_world_lawful.proofs.States.{crossed_state, state_itself}
use Rattle.qs_world_lawful.proofs.Steps.{tx_apart, tx_changed}
use Rattle.qs_world_lawful.proofs.TurnedRequests.{crossing_new}

-- what a crossing leaves of the state of its node: what is committed, and what is on record
pub record SameRecords (state later : machine.NodeValue) : Type 0 where
  pub records : later.records ≡ state.records
  pub committed : later.committed ≡ state.committed
  pub files : SameContents later.files state.files
  pub audit : SameContents later.audit state.audit
  pub stopped : later.stopped ≡ state.stopped

pub records_itself : (state : machine.NodeValue) → SameRecords state state
records_itself state = record { records = refl; committed = refl; files = record { contents = refl; notes = refl }; audit = record { contents = refl; notes = refl }; stopped = refl }

table_records : (server : ℕ) (tid : Tid) (node : machine.NodeValue) → SameRecords node (with_table server (λ table. released table tid) node)
table_records server tid node = by (server == files_no) (server == audit_no) (server == names_no) (server == windows_no) (server == scratch_no)
  where
    f : TableValue → TableValue
    f table = released table tid

    by : (a b c d e : Bool) → SameRecords node (if a then record node { files = f node.files } else if b then record node { audit = f node.audit } else if c then record node { names = f node.names } else if d then record node { windows = f node.windows } else if e then record node { scratch = f node.scratch } else node)
    by true b c d e = record { records = refl; committed = refl; files = record { contents = refl; notes = refl }; audit = record { contents = refl; notes = refl }; stopped = refl }
    by false true c d e = record { records = refl; committed = refl; files = record { contents = refl; notes = refl }; audit = record { contents = refl; notes = refl }; stopped = refl }
    by false false true d e = record { records = refl; committed = refl; files = record { contents = refl; notes = refl }; audit = record { contents = refl; notes = refl }; stopped = refl }
    by false false false true e = record { records = refl; committed = refl; files = record { contents = refl; notes = refl }; audit = record { contents = refl; notes = refl }; stopped = refl }
    by false false false false true = record { records = refl; committed = refl; files = record { contents = refl; notes = refl }; audit = record { contents = refl; notes = refl }; stopped = refl }
    by false false false false false = records_itself node

pub crossed_records : (tid : Tid) (server : ℕ) (node : machine.NodeValue) → SameRecords node (crossed_node tid server node)
crossed_records tid server node = by node.up (server == names_no) (server == timers_no)
  where
    by : (a b c : Bool) → SameRecords node (if a then (if b then crossed_names tid node else if c then record node { timers = timers_ended node.timers tid } else crossed_table tid server node) else node)
    by true true c = record { records = refl; committed = refl; files = record { contents = refl; notes = refl }; audit = record { contents = refl; notes = refl }; stopped = refl }
    by true false true = record { records = refl; committed = refl; files = record { contents = refl; notes = refl }; audit = record { contents = refl; notes = refl }; stopped = refl }
    by true false false = table_records server tid node
    by false b c = records_itself node

-- the state of a node after the entry of another
pub record NodeOn (book new : BookValue) (here : NodeNo) (state : machine.NodeValue) (servers : ServersValue) : Type 0 where
  pub later : machine.NodeValue
  pub there : slice_get new.nodes here.0 ≡ Some later
  pub left : SameState state later
  pub records : SameRecords state later
  pub holds : HoldsServers (is_seen book here) state servers → HoldsServers (is_seen new here) later servers

module _ (book : BookValue) (acting : ℕ) (tid : Tid) (issuer member : Member) (number : ℕ) (op : Op) (tx : TransactionValue) (found : find_transaction book tid ≡ Some tx)
    (here : NodeNo) (state : machine.NodeValue) (there : slice_get book.nodes here.0 ≡ Some state) (servers : ServersValue) where
  abbrev pub key : RequestNo
  key = record { link = link_to acting member; number = number }

  abbrev request : Request
  request = record { issuer = issuer; member = member; op = op; inc = inc_at book (record { 0 = acting }); served = false }

  abbrev f : TransactionValue → TransactionValue
  f = issued key request (inc_at book member.node) book.place

  abbrev inner : BookValue
  inner = with_waiting tid issuer member (with_transaction tid f book)

  abbrev crossing : Bool
  crossing = crosses (find_transaction book tid) key member

  abbrev pub new : BookValue
  new = issue acting tid issuer member number op book

  txs : new.transactions ≡ (with_transaction tid f book).transactions
  txs = crossing_txs crossing tid member inner ∙ waiting_txs tid issuer member (with_transaction tid f book)

  found_now : find_transaction new tid ≡ Some (f tx)
  found_now = ap (lookup (is_at (tid_cmp tid))) txs ∙ tx_changed tid f book.transactions tx found

  found_far : (t : Tid) → Apart tid t → find_transaction new t ≡ find_transaction book t
  found_far t far = ap (lookup (is_at (tid_cmp t))) txs ∙ tx_apart tid t f book.transactions far

  inner_there : slice_get inner.nodes here.0 ≡ Some state
  inner_there = ap (λ (ns : List machine.NodeValue). slice_get ns here.0) (waiting_nodes tid issuer member (with_transaction tid f book)) ∙ there

  crosses_is : (o : Option Request) → standing_request tx key member ≡ o → crossing ≡ (elim o [ None ↦ false | Some r ↦ true ])
  crosses_is o is = ap (λ (x : Option TransactionValue). crosses x key member) found ∙ ap (λ (x : Option Request). elim x [ None ↦ false | Some r ↦ true ]) is

  seen_where : (n : ℕ) → is_crossed (f tx) (record { node = here; server = record { 0 = n } }) ≡ is_crossed tx (record { node = here; server = record { 0 = n } }) → (t : Tid) → is_seen new here n t ≡ is_seen book here n t
  seen_where n same t = by (same_or_apart tid t)
    where
      by : (tid ≡ t) ⊎ Apart tid t → is_seen new here n t ≡ is_seen book here n t
      by (inl is) = subst (λ (u : Tid). is_seen new here n u ≡ is_seen book here n u) is (ap (seen_in here n) found_now ∙ (ap not same ∙ sym (ap (seen_in here n) found)))
      by (inr far) = ap (seen_in here n) (found_far t far)

  seen_apart : (n : ℕ) → is_at (member_cmp (record { node = here; server = record { 0 = n } })) member ≡ false → (t : Tid) → is_seen new here n t ≡ is_seen book here n t
  seen_apart n far t = seen_where n (crossed_elsewhere (standing_request tx key member) book.place member (record { node = here; server = record { 0 = n } }) tx.crossed far) t

  same_there : slice_get new.nodes here.0 ≡ Some state → ((n : ℕ) (t : Tid) → is_seen new here n t ≡ is_seen book here n t) → NodeOn book new here state servers
  same_there at seen = record { later = state; there = at; left = state_itself state; records = records_itself state; holds = λ h. servers_alike (is_seen book here) (is_seen new here) state servers seen h }

  -- none stands: nothing is crossed
  none_stands : standing_request tx key member ≡ None → NodeOn book new here state servers
  none_stands is = same_there
      (ap (λ (b : Bool). slice_get (machine_crossing b).nodes here.0) (crosses_is None is) ∙ inner_there)
      (λ n t. seen_where n (ap (λ (o : Option Request). is_some (lookup (is_at (member_cmp (record { node = here; server = record { 0 = n } }))) (crossed_by o book.place member tx.crossed))) is) t)
    where
      machine_crossing : Bool → BookValue
      machine_crossing b = with_crossing b tid member inner

  module _ (up : state.up ≡ true) (earlier : Request) (is : standing_request tx key member ≡ Some earlier) where
    new_nodes : (n : ℕ) → slice_get new.nodes n ≡ slice_get (with_crossing true tid member inner).nodes n
    new_nodes n = ap (λ (b : Bool). slice_get (with_crossing b tid member inner).nodes n) (crosses_is (Some earlier) is)

    -- at another node
    crossed_far : (member.node.0 == here.0) ≡ false → NodeOn book new here state servers
    crossed_far far = same_there (new_nodes here.0 ∙ (elsewhere (crossed_node tid member.server.0) inner.nodes member.node.0 here.0 far ∙ inner_there)) (λ n t. seen_apart n (apart n _ refl) t)
      where
        apart : (n : ℕ) (b : Bool) → is_at (member_cmp (record { node = here; server = record { 0 = n } })) member ≡ b → b ≡ false
        apart n false at = refl
        apart n true at = absurd (cc (far, subst (λ (m : Member). (m.node.0 == here.0) ≡ true) (member_found (record { node = here; server = record { 0 = n } }) member at) (eqb-self here.0)))

    -- here
    crossed_near : (member.node.0 == here.0) ≡ true → NodeOn book new here state servers
    crossed_near near = record {
      later = crossed_node tid member.server.0 state;
      there = new_nodes here.0 ∙ subst (λ (n : ℕ). slice_get (changed_at_there) n ≡ Some (crossed_node tid member.server.0 state)) own (changed_at_here (crossed_node tid member.server.0) inner.nodes member.node.0 state (ap (slice_get inner.nodes) own ∙ inner_there));
      left = crossed_state tid member.server.0 state;
      records = crossed_records tid member.server.0 state;
      holds = λ h. crossed_up (is_seen book here) (is_seen new here) state servers h tid member.server.0 hides others up;
    }
      where
        changed_at_there : List machine.NodeValue
        changed_at_there = (with_crossing true tid member inner).nodes

        own : member.node.0 ≡ here.0
        own = same_number member.node.0 here.0 near

        member_is : member ≡ record { node = here; server = record { 0 = member.server.0 } }
        member_is = ap (λ (n : ℕ). record { node = record { 0 = n }; server = member.server }) own

        itself : (u : Tid) → is_at (tid_cmp u) u ≡ true
        itself u = rw (tid_itself u) refl

        crossed_now : is_crossed (f tx) member ≡ true
        crossed_now = ap (λ (o : Option Request). is_some (lookup (is_at (member_cmp member)) (crossed_by o book.place member tx.crossed))) is ∙ crossing_new book.place member tx.crossed

        now_hidden : is_seen new here member.server.0 tid ≡ false
        now_hidden = ap (seen_in here member.server.0) found_now ∙ ap not (subst (λ (m : Member). is_crossed (f tx) m ≡ true) member_is crossed_now)

        own_it : is_seen new here member.server.0 tid ≡ (is_seen book here member.server.0 tid && not (is_at (tid_cmp tid) tid))
        own_it = now_hidden ∙ sym (ap (λ (b : Bool). is_seen book here member.server.0 tid && not b) (itself tid) ∙ and_false (is_seen book here member.server.0 tid))

        hides : (t : Tid) → is_seen new here member.server.0 t ≡ (is_seen book here member.server.0 t && not (is_at (tid_cmp tid) t))
        hides t = of (same_or_apart tid t)
          where
            of : (tid ≡ t) ⊎ Apart tid t → is_seen new here member.server.0 t ≡ (is_seen book here member.server.0 t && not (is_at (tid_cmp tid) t))
            of (inl same) = subst (λ (u : Tid). is_seen new here member.server.0 u ≡ (is_seen book here member.server.0 u && not (is_at (tid_cmp tid) u))) same own_it
            of (inr far) = ap (seen_in here member.server.0) (found_far t far)
                ∙ sym (ap (λ (b : Bool). is_seen book here member.server.0 t && not b) (far.keys t (itself t)) ∙ and_true (is_seen book here member.server.0 t))

        others : (n : ℕ) → n ≢ member.server.0 → (t : Tid) → is_seen new here n t ≡ is_seen book here n t
        others n far t = seen_apart n (member_far (is_at (member_cmp (record { node = here; server = record { 0 = n } })) member) refl) t
          where
            member_far : (b : Bool) → is_at (member_cmp (record { node = here; server = record { 0 = n } })) member ≡ b → b ≡ false
            member_far false e = refl
            member_far true e = absurd (far (ap (λ (m : Member). m.server.0) (member_found (record { node = here; server = record { 0 = n } }) member e)))

  pub issue_leaves : state.up ≡ true → NodeOn book new here state servers
  issue_leaves up = by (standing_request tx key member) refl
    where
      by : (o : Option Request) → standing_request tx key member ≡ o → NodeOn book new here state servers
      by None is = none_stands is
      by (Some earlier) is = of (member.node.0 == here.0) refl
        where
          of : (b : Bool) → (member.node.0 == here.0) ≡ b → NodeOn book new here state servers
          of false far = crossed_far up earlier is far
          of true near = crossed_near up earlier is near
