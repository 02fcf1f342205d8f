-- What each lawful entry that a node makes in a step leaves of the machine for every other node: its state, or that with a transaction hidden that
-- is crossed there; the owners of transactions, and what they may be told; and of another home the cells.
use Rattle.qs_world_lawful.proofs.Words.{◌≡◌, ◌⊎◌, inl, inr, ℕ, ◌==◌, true, false, List, length, Option, Some, None, refl, sym, ap, subst, ◌∙◌, slice_get, ClientNo, Member, NodeNo, Outcome, Tid, Act, Entry, Decided, BookValue, find_transaction, broken_issue, broken, broken_node, effect, effect_act, TransactionValue, is_open, is_outcome, Cell, Op, ServersValue, held, outcome_answer, IsOfStep, HasEnded, IsOwner, MayBeTold, is_seen, seen_in, eqb-self}
use Rattle.qs_base.specs.declared.identifiers.Outcome.TheVariants as outcomes
use Rattle.qs_book_journal.specs.declared.entry.Act.TheVariants as acts
use Rattle.qs_book_machine.specs.Nodes as machine
use Rattle.qs_book_machine.specs.declared.transaction.Cell.TheVariants as cells
use Rattle.qs_world_lawful.proofs.Apart.{Apart, same_or_apart}
use Rattle.qs_world_lawful.proofs.AsideActs.{IsQuiet, IsStill, crossings_same, owners_keep, there_same}
use Rattle.qs_world_lawful.proofs.AsideIssue.{NodeOn, issue_leaves, records_itself}
use Rattle.qs_world_lawful.proofs.CrossedTables.{servers_alike}
use Rattle.qs_world_lawful.proofs.EntryTurns.{Actor, Begins, Turning, actor, begins, by_entry}
use Rattle.qs_world_lawful.proofs.LastsWell.{LastsWell}
use Rattle.qs_world_lawful.proofs.SameWaits.{seen_alike}
use Rattle.qs_world_lawful.proofs.States.{state_itself}
use Rattle.qs_world_lawful.proofs.Turning.{Turns, some_of}

module _ (book : BookValue) (entry : Entry) (w : LastsWell book) (h : broken book entry ≡ None) where
  abbrev pub new : BookValue
  new = effect book entry

  a : Actor book entry
  a = actor book entry h

  as_act : (act : Act) → entry.act ≡ act → broken_node book entry.stamp entry.node.0 a.state act ≡ None
  as_act act is = subst (λ (x : Act). broken_node book entry.stamp entry.node.0 a.state x ≡ None) is a.allowed

  module _ (here : NodeNo) (far : (entry.node.0 == here.0) ≡ false) (state : machine.NodeValue) (there : slice_get book.nodes here.0 ≡ Some state) (servers : ServersValue) where
    same_seen : slice_get new.nodes here.0 ≡ slice_get book.nodes here.0 → ((n : ℕ) (t : Tid) → is_seen new here n t ≡ is_seen book here n t) → NodeOn book new here state servers
    same_seen same seen = record { later = state; there = same ∙ there; left = state_itself state; records = records_itself state; holds = λ s. servers_alike (is_seen book here) (is_seen new here) state servers seen s }

    quiet_there : (act : Act) → entry.act ≡ act → IsQuiet act → slice_get new.nodes here.0 ≡ slice_get book.nodes here.0
    quiet_there act is quiet = ap (λ (x : Act). slice_get (effect_act entry.stamp entry.node.0 x book).nodes here.0) is ∙ there_same entry.stamp entry.node.0 here.0 far act quiet book

    still_on : (act : Act) → entry.act ≡ act → IsStill act → IsQuiet act → NodeOn book new here state servers
    still_on act is still quiet = same_seen (quiet_there act is quiet)
        (λ n t. ap (λ (x : Act). seen_in here n (find_transaction (effect_act entry.stamp entry.node.0 x book) t)) is ∙ seen_alike book (effect_act entry.stamp entry.node.0 act book) here (crossings_same entry.stamp entry.node.0 act still book) n t)

    begin_on : (tid : Tid) (label : List ℕ) (client : ClientNo) → entry.act ≡ acts.Begin tid label client → NodeOn book new here state servers
    begin_on tid label client is = same_seen (quiet_there (acts.Begin tid label client) is tt) (λ n t. at n t (same_or_apart b.tid t))
      where
        b : Begins book entry
        b = begins book entry w.inv h tid label client is

        at : (n : ℕ) (t : Tid) → (b.tid ≡ t) ⊎ Apart b.tid t → is_seen new here n t ≡ is_seen book here n t
        at n t (inl same) = subst (λ (u : Tid). is_seen new here n u ≡ is_seen book here n u) same (ap (seen_in here n) b.stands ∙ sym (ap (seen_in here n) b.new))
        at n t (inr apart) = ap (seen_in here n) (b.others t apart)

    issue_on : state.up ≡ true → (tid : Tid) (issuer member : Member) (number : ℕ) (op : Op) → entry.act ≡ acts.Issue tid issuer member number op → NodeOn book new here state servers
    issue_on up tid issuer member number op is = by (find_transaction book tid) refl
      where
        allowed : broken_issue entry.node.0 a.state (length book.nodes) tid (find_transaction book tid) issuer member number op ≡ None
        allowed = (held a.state.up 2 _ (as_act (acts.Issue tid issuer member number op) is)).1

        by : (o : Option TransactionValue) → find_transaction book tid ≡ o → NodeOn book new here state servers
        by None none = absurd (cc (subst (λ (o : Option TransactionValue). broken_issue entry.node.0 a.state (length book.nodes) tid o issuer member number op ≡ None) none allowed))
        by (Some tx) found = with_stamp (subst (λ (y : Act). NodeOn book (effect_act entry.stamp entry.node.0 y book) here state servers) (sym is) (issue_leaves book entry.node.0 tid issuer member number op tx found here state there servers up))
          where
            with_stamp : NodeOn book (effect_act entry.stamp entry.node.0 entry.act book) here state servers → NodeOn book new here state servers
            with_stamp x = record { later = x.later; there = x.there; left = x.left; records = x.records; holds = x.holds }

    pub node_on : state.up ≡ true → IsOfStep entry.act → NodeOn book new here state servers
    node_on up of_step = by entry.act refl of_step
      where
        by : (act : Act) → entry.act ≡ act → IsOfStep act → NodeOn book new here state servers
        by (acts.Restart inc pend done) is so = absurd so
        by (acts.Begin tid label client) is so = begin_on tid label client is
        by (acts.Issue tid issuer member number op) is so = issue_on up tid issuer member number op is
        by (acts.Serve tid member from number reply) is so = still_on (acts.Serve tid member from number reply) is tt tt
        by (acts.Vote tid member ballot covers) is so = still_on (acts.Vote tid member ballot covers) is tt tt
        by (acts.Ask tid) is so = still_on (acts.Ask tid) is tt tt
        by (acts.Counted tid peer up_to) is so = still_on (acts.Counted tid peer up_to) is tt tt
        by (acts.Decide tid outcome cause) is so = still_on (acts.Decide tid outcome cause) is tt tt
        by (acts.Ending tid member) is so = still_on (acts.Ending tid member) is tt tt
        by (acts.Learn tid member outcome) is so = still_on (acts.Learn tid member outcome) is tt tt
        by (acts.Answer client line said) is so = still_on (acts.Answer client line said) is tt tt
        by (acts.Loan tid client) is so = still_on (acts.Loan tid client) is tt tt
        by (acts.Yield tid client) is so = still_on (acts.Yield tid client) is tt tt
        by acts.Tick is so = still_on acts.Tick is tt tt
        by (acts.Crash cause) is so = still_on (acts.Crash cause) is tt tt

  -- ---- transactions and owners

  -- of each transaction: it stands on, turned or as it was; what is new begins at the node of the entry
  abbrev pub Goes : Tid → TransactionValue → TransactionValue → Type 0
  Goes tid tx later = (later ≡ tx) ⊎ ((t : Turning book entry) × Turns entry.node.0 t.now book.place tid tx later)

  pub goes_on : (tid : Tid) (tx : TransactionValue) → find_transaction book tid ≡ Some tx → (later : TransactionValue) × (find_transaction new tid ≡ Some later) × Goes tid tx later
  goes_on tid tx found = of (by_entry book entry w.inv h)
    where
      of : Begins book entry ⊎ Turning book entry → (later : TransactionValue) × (find_transaction new tid ≡ Some later) × Goes tid tx later
      of (inr t) = let p = t.turned.goes tid tx found in (p.0, p.1, inr (t, p.2))
      of (inl b) = at (same_or_apart b.tid tid)
        where
          at : (b.tid ≡ tid) ⊎ Apart b.tid tid → (later : TransactionValue) × (find_transaction new tid ≡ Some later) × Goes tid tx later
          at (inl same) = absurd (cc (sym (ap (find_transaction book) same ∙ found) ∙ b.new))
          at (inr far) = (tx, b.others tid far ∙ found, inl refl)

  pub new_begins : (tid : Tid) → find_transaction book tid ≡ None → (find_transaction new tid ≡ None) ⊎ ((b : Begins book entry) × (b.tid ≡ tid))
  new_begins tid none = of (by_entry book entry w.inv h)
    where
      of : Begins book entry ⊎ Turning book entry → (find_transaction new tid ≡ None) ⊎ ((b : Begins book entry) × (b.tid ≡ tid))
      of (inr t) = inl (t.turned.none tid none)
      of (inl b) = at (same_or_apart b.tid tid)
        where
          at : (b.tid ≡ tid) ⊎ Apart b.tid tid → (find_transaction new tid ≡ None) ⊎ ((b : Begins book entry) × (b.tid ≡ tid))
          at (inl same) = inr (b, same)
          at (inr far) = inl (b.others tid far ∙ none)

  pub owner_same : (tid : Tid) (tx later : TransactionValue) → Goes tid tx later → later.owner ≡ tx.owner
  owner_same tid tx later (inl same) = ap (λ (x : TransactionValue). x.owner) same
  owner_same tid tx later (inr r) = r.1.owner

  pub cell_shut : (tid : Tid) (tx later : TransactionValue) → Goes tid tx later → is_open tx.cell ≡ false → later.cell ≡ tx.cell
  cell_shut tid tx later (inl same) shut = ap (λ (x : TransactionValue). x.cell) same
  cell_shut tid tx later (inr r) shut = r.1.decided shut

  pub cell_away : (tid : Tid) (tx later : TransactionValue) → Goes tid tx later → (tid.home.0 == entry.node.0) ≡ false → later.cell ≡ tx.cell
  cell_away tid tx later (inl same) far = ap (λ (x : TransactionValue). x.cell) same
  cell_away tid tx later (inr r) far = r.1.away far

  pub owner_on : (tid : Tid) (client : ClientNo) → IsOwner book tid client → IsOwner new tid client
  owner_on tid client o = let p = goes_on tid o.tx o.found in record { tx = p.0; found = p.1; owns = owner_same tid o.tx p.0 p.2 ∙ o.owns }

  -- whose home is another stood
  pub stood_away : (tid : Tid) (later : TransactionValue) → (tid.home.0 == entry.node.0) ≡ false → find_transaction new tid ≡ Some later → (tx : TransactionValue) × (find_transaction book tid ≡ Some tx) × Goes tid tx later
  stood_away tid later far found = by (find_transaction book tid) refl
    where
      by : (o : Option TransactionValue) → find_transaction book tid ≡ o → (tx : TransactionValue) × (find_transaction book tid ≡ Some tx) × Goes tid tx later
      by (Some tx) is =
          let p = goes_on tid tx is in
          (tx, is, subst (λ (x : TransactionValue). Goes tid tx x) (some_of (sym p.1 ∙ found)) p.2)
      by None none = absurd (of (new_begins tid none))
        where
          of : (find_transaction new tid ≡ None) ⊎ ((b : Begins book entry) × (b.tid ≡ tid)) → ⊥
          of (inl gone) = cc (sym gone ∙ found)
          of (inr (b, same)) = cc (far, subst (λ (t : Tid). (t.home.0 == entry.node.0) ≡ true) same (subst (λ (n : ℕ). (n == entry.node.0) ≡ true) (sym b.home) (eqb-self entry.node.0)))

  pub owner_back : (tid : Tid) (client : ClientNo) → (tid.home.0 == entry.node.0) ≡ false → IsOwner new tid client → IsOwner book tid client
  owner_back tid client far o =
      let p = stood_away tid o.tx far o.found in
      record { tx = p.0; found = p.1; owns = sym (owner_same tid p.0 o.tx p.2) ∙ o.owns }

  shut : (o : Outcome) (c : Cell) → is_outcome o c ≡ true → is_open c ≡ false
  shut o cells.Commit e = refl
  shut o cells.Abort e = refl
  shut outcomes.Commit cells.Open e = absurd (cc e)
  shut outcomes.Abort cells.Open e = absurd (cc e)

  pub told_on : IsOfStep entry.act → (client : ClientNo) (d : Decided) → MayBeTold book client d → MayBeTold new client d
  told_on of_step client d m =
      let p = owners_keep entry.stamp entry.node.0 entry.act of_step book client.0 m.owner m.there in
      record { owner = p.0; there = p.1; known = p.2.0.known (outcome_answer d) m.known }

  pub ended_on : IsOfStep entry.act → (tid : Tid) (d : Decided) → HasEnded book tid d → HasEnded new tid d
  ended_on of_step tid d e =
      let p = goes_on tid e.tx e.found in
      record {
        tx = p.0;
        found = p.1;
        as_kept = ap (is_outcome d.outcome) (cell_shut tid e.tx p.0 p.2 (shut d.outcome e.tx.cell e.as_kept)) ∙ e.as_kept;
        told = λ client owned. told_on of_step client d (e.told client (sym (owner_same tid e.tx p.0 p.2) ∙ owned));
      }
