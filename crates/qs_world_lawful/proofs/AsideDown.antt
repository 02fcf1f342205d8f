-- Each lawful entry that another node makes in a step leaves what the machine has of the log of a node that is down, but for its Commits.
use Rattle.qs_world_lawful.proofs.Words.{◌≡◌, ◌⊎◌, inl, inr, ℕ, ◌≤◌, ◌==◌, ◌&&◌, ◌||◌, Bool, true, false, List, Option, Some, None, refl, sym, ap, subst, ◌∙◌, if◌then◌else◌, slice_get, slice_set, Member, ServerNo, Tid, Act, Entry, Found, changed_at_either, BookValue, crosses, find_transaction, inc_at, with_crossing, with_transaction, with_waiting, link_to, broken, effect_act, crossed_node, crossed_server, could_vote, is_among, may_be_lost, member_at, TransactionValue, has_learnt, is_open, issued}
use Rattle.qs_world_lawful.proofs.Words.{OnRecord, Voter, Cell, RequestNo, Op, Prepared, Recovery, IsOfStep, IsCutVote, IsRecordKept, IsVoteLogged, found_of, some_same, apart_turned, eqb-true, and_parts}
use Rattle.qs_book_journal.specs.declared.entry.Act.TheVariants as acts
use Rattle.qs_book_machine.specs.Nodes as machine
use Rattle.qs_book_machine.specs.Transaction.{is_abort, part_of}
use Rattle.qs_book_machine.specs.declared.transaction.Cell.TheVariants as cells
use Rattle.qs_world_lawful.proofs.AsideActs.{IsQuiet, there_same}
use Rattle.qs_world_lawful.proofs.AsideBook.{Goes, cell_away, goes_on, new}
use Rattle.qs_world_lawful.proofs.AsideKept.{home_far}
use Rattle.qs_world_lawful.proofs.AsideTid.{part_same}
use Rattle.qs_world_lawful.proofs.Crossing.{waiting_nodes}
use Rattle.qs_world_lawful.proofs.LastsWell.{LastsWell}
use Rattle.qs_world_lawful.proofs.AsideThen.{could_then}

module _ (book : BookValue) (entry : Entry) (w : LastsWell book) (h : broken book entry ≡ None) (k : ℕ) (far : (entry.node.0 == k) ≡ false) (of_step : IsOfStep entry.act) (s : machine.NodeValue) (there : slice_get book.nodes k ≡ Some s) where
  abbrev after : BookValue
  after = new book entry w h

  near : (k == entry.node.0) ≡ false
  near = apart_turned entry.node.0 k far

  low : s.stopped ≤ book.place
  low = w.stopped k s there

  -- its state is the same
  pub there_on : s.up ≡ false → slice_get after.nodes k ≡ Some s
  there_on down = of entry.act refl of_step
    where
      quiet : (act : Act) → entry.act ≡ act → IsQuiet act → slice_get after.nodes k ≡ Some s
      quiet act is q = ap (λ (x : Act). slice_get (effect_act entry.stamp entry.node.0 x book).nodes k) is ∙ (there_same entry.stamp entry.node.0 k far act q book ∙ there)

      issue : (tid : Tid) (issuer member : Member) (number : ℕ) (op : Op) → entry.act ≡ acts.Issue tid issuer member number op → slice_get after.nodes k ≡ Some s
      issue tid issuer member number op is = ap (λ (x : Act). slice_get (effect_act entry.stamp entry.node.0 x book).nodes k) is ∙ by (crosses (find_transaction book tid) key member)
        where
          key : RequestNo
          key = record { link = link_to entry.node.0 member; number = number }

          one : BookValue
          one = with_transaction tid (issued key (record { issuer = issuer; member = member; op = op; inc = inc_at book (record { 0 = entry.node.0 }); served = false }) (inc_at book member.node) book.place) book

          inner : BookValue
          inner = with_waiting tid issuer member one

          there_inner : slice_get inner.nodes k ≡ Some s
          there_inner = ap (λ (ns : List machine.NodeValue). slice_get ns k) (waiting_nodes tid issuer member one) ∙ there

          left : crossed_node tid member.server.0 s ≡ s
          left = ap (λ (b : Bool). if b then crossed_server tid member.server.0 s else s) down

          by : (b : Bool) → slice_get (with_crossing b tid member inner).nodes k ≡ Some s
          by false = there_inner
          by true = at (slice_get inner.nodes member.node.0) refl
            where
              f : machine.NodeValue → machine.NodeValue
              f = crossed_node tid member.server.0

              of_either : (u : machine.NodeValue) → ((k ≡ member.node.0) × (slice_get inner.nodes k ≡ Some u) × (slice_get (with_crossing true tid member inner).nodes k ≡ Some (f u))) ⊎ (slice_get (with_crossing true tid member inner).nodes k ≡ slice_get inner.nodes k) → slice_get (with_crossing true tid member inner).nodes k ≡ Some s
              of_either u (inl e) = e.2 ∙ (ap (λ (x : machine.NodeValue). Some (f x)) (some_same (sym e.1 ∙ there_inner)) ∙ ap Some left)
              of_either u (inr e) = e ∙ there_inner

              at : (o : Option machine.NodeValue) → slice_get inner.nodes member.node.0 ≡ o → slice_get (with_crossing true tid member inner).nodes k ≡ Some s
              at (Some u) found = of_either u (changed_at_either f inner.nodes member.node.0 k u found)
              at None none = ap (λ (ns : List machine.NodeValue). slice_get ns k) (unchanged none) ∙ there_inner
                where
                  unchanged : slice_get inner.nodes member.node.0 ≡ None → (with_crossing true tid member inner).nodes ≡ inner.nodes
                  unchanged e = subst (λ (o : Option machine.NodeValue). (elim o [ None ↦ inner.nodes | Some x ↦ slice_set inner.nodes member.node.0 (f x) ]) ≡ inner.nodes) (sym e) refl

      of : (act : Act) → entry.act ≡ act → IsOfStep act → slice_get after.nodes k ≡ Some s
      of (acts.Restart inc pend done) is so = absurd so
      of (acts.Issue tid issuer member number op) is so = issue tid issuer member number op is
      of (acts.Begin tid label client) is so = quiet (acts.Begin tid label client) is tt
      of (acts.Serve tid member from number reply) is so = quiet (acts.Serve tid member from number reply) is tt
      of (acts.Vote tid member ballot covers) is so = quiet (acts.Vote tid member ballot covers) is tt
      of (acts.Ask tid) is so = quiet (acts.Ask tid) is tt
      of (acts.Counted tid peer up_to) is so = quiet (acts.Counted tid peer up_to) is tt
      of (acts.Decide tid outcome cause) is so = quiet (acts.Decide tid outcome cause) is tt
      of (acts.Ending tid member) is so = quiet (acts.Ending tid member) is tt
      of (acts.Learn tid member outcome) is so = quiet (acts.Learn tid member outcome) is tt
      of (acts.Answer client line said) is so = quiet (acts.Answer client line said) is tt
      of (acts.Loan tid client) is so = quiet (acts.Loan tid client) is tt
      of (acts.Yield tid client) is so = quiet (acts.Yield tid client) is tt
      of acts.Tick is so = quiet acts.Tick is tt
      of (acts.Crash cause) is so = quiet (acts.Crash cause) is tt

  pub could_same : (tid : Tid) (tx later : TransactionValue) → Goes book entry w h tid tx later → (found : Found) → could_vote k s later found ≡ could_vote k s tx found
  could_same tid tx later (inl same) found = ap (λ (x : TransactionValue). could_vote k s x found) same
  could_same tid tx later (inr (t, r)) found = could_then entry.node.0 t.now book.place k s.inc tid tx later r near s low found

  pub part_on : (tid : Tid) (tx later : TransactionValue) → Goes book entry w h tid tx later → (m : ServerNo) → part_of later (record { node = record { 0 = k }; server = m }) s.inc ≡ part_of tx (record { node = record { 0 = k }; server = m }) s.inc
  part_on tid tx later (inl same) m = ap (λ (x : TransactionValue). part_of x (record { node = record { 0 = k }; server = m }) s.inc) same
  part_on tid tx later (inr (t, r)) m = part_same entry.node.0 t.now book.place (record { 0 = k }) s.inc tid tx later r near m s.inc

  has_learnt_on : (tid : Tid) (tx later : TransactionValue) → Goes book entry w h tid tx later → (m : Member) → has_learnt tx m ≡ true → has_learnt later m ≡ true
  has_learnt_on tid tx later (inl same) m is = ap (λ (x : TransactionValue). has_learnt x m) same ∙ is
  has_learnt_on tid tx later (inr (t, r)) m is = r.learnt m is

  cell_shut : (tid : Tid) (tx later : TransactionValue) → Goes book entry w h tid tx later → is_open tx.cell ≡ false → later.cell ≡ tx.cell
  cell_shut tid tx later (inl same) shut = ap (λ (x : TransactionValue). x.cell) same
  cell_shut tid tx later (inr r) shut = r.1.decided shut

  same_cell : (tid : Tid) (tx later : TransactionValue) → Goes book entry w h tid tx later → (tid.home.0 == k) ≡ true → later.cell ≡ tx.cell
  same_cell tid tx later g e = cell_away book entry w h tid tx later g (home_far book entry w h k far of_step tid (eqb-true tid.home.0 k e))

  lost_on : (tid : Tid) → may_be_lost k tid (find_transaction book tid) ≡ true → may_be_lost k tid (find_transaction after tid) ≡ true
  lost_on tid is = by (find_transaction book tid) refl is
    where
      by : (o : Option TransactionValue) → find_transaction book tid ≡ o → may_be_lost k tid o ≡ true → may_be_lost k tid (find_transaction after tid) ≡ true
      by None nothing e = absurd (cc e)
      by (Some tx) had e =
          let p = goes_on book entry w h tid tx had in
          ap (may_be_lost k tid) p.1 ∙ of p.0 p.2 (is_abort tx.cell) refl
        where
          shut : (c : Cell) → is_abort c ≡ true → is_open c ≡ false
          shut cells.Abort e = refl
          shut cells.Open e = absurd (cc e)
          shut cells.Commit e = absurd (cc e)

          of : (next : TransactionValue) → Goes book entry w h tid tx next → (b : Bool) → is_abort tx.cell ≡ b → (is_abort next.cell || (is_open next.cell && (tid.home.0 == k))) ≡ true
          of next g true a = subst (λ (c : Cell). (is_abort c || (is_open c && (tid.home.0 == k))) ≡ true) (sym (cell_shut tid tx next g (shut tx.cell a))) (rw a refl)
          of next g false a = subst (λ (c : Cell). (is_abort c || (is_open c && (tid.home.0 == k))) ≡ true) (sym (same_cell tid tx next g (and_parts (is_open tx.cell) (tid.home.0 == k) (rw a at e)).1)) e

  learnt_on : (tid : Tid) (tx next : TransactionValue) → Goes book entry w h tid tx next → (m : Member) → (has_learnt tx m ≡ true) ⊎ (is_among s.committed tid ≡ true) → (has_learnt next m ≡ true) ⊎ (is_among s.committed tid ≡ true)
  learnt_on tid tx next g m (inl is) = inl (has_learnt_on tid tx next g m is)
  learnt_on tid tx next g m (inr is) = inr is

  pub vote_on : (said : Recovery) (v : Prepared) → IsVoteLogged k book s said v ⊎ IsCutVote k book s v → IsVoteLogged k after s said v ⊎ IsCutVote k after s v
  vote_on said v (inl (inl on)) = inl (inl on)
  vote_on said v (inl (inr a)) =
      let p = goes_on book entry w h v.tid a.tx a.found in
      inl (inr (record { tx = p.0; found = p.1; has_commit = a.has_commit; learnt = learnt_on v.tid a.tx p.0 p.2 (member_at k v.server.0) a.learnt }))
  vote_on said v (inr c) =
      let p = goes_on book entry w h v.tid c.tx c.found in
      inr (record { tx = p.0; found = p.1; could = could_same v.tid c.tx p.0 p.2 (found_of v) ∙ c.could })

  pub record_on : (said : Recovery) (e : Voter × OnRecord) → IsRecordKept k book said e → IsRecordKept k after said e
  record_on said e (inl is) = inl (lost_on e.0.tid is)
  record_on said e (inr is) = inr is
