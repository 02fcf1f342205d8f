-- Each lawful entry begins one transaction, or turns each of them.
use Rattle.qs_world_lawful.proofs.Words.{◌≡◌, ◌⊎◌, inl, inr, ℕ, ◌+◌, List, Option, Some, None, refl, sym, ap, subst, ◌∙◌, if◌then◌else◌, slice_get, is_at, tid_cmp, ClientNo, Tid, tid_exact, Act, Entry, Found, tid_itself, lookup_put, lookup_put_apart, Inv, next_is, begin_may, held, BookValue, find_transaction, inc_at, ticks_at, broken, broken_act, broken_at, broken_node, effect, effect_act, broken_restart, restart, TransactionValue, begun, entry_of}
use Rattle.qs_book_journal.specs.declared.entry.Act.TheVariants as acts
use Rattle.qs_book_laws.proofs.Steps.{unheld}
use Rattle.qs_book_machine.specs.Lawful.{is_in_order}
use Rattle.qs_book_machine.specs.Nodes as machine
use Rattle.qs_world_lawful.proofs.Apart.{Apart}
use Rattle.qs_world_lawful.proofs.AnyRestart.{restart_turns}
use Rattle.qs_world_lawful.proofs.LogActs.{fresh}
use Rattle.qs_world_lawful.proofs.Turning.{Turned, Turns}
use Rattle.qs_world_lawful.proofs.TurningActs.{IsActing, act_turns}

-- the node that it is of
pub record Actor (book : BookValue) (entry : Entry) : Type 0 where
  pub state : machine.NodeValue
  pub there : slice_get book.nodes entry.node.0 ≡ Some state
  pub allowed : broken_node book entry.stamp entry.node.0 state entry.act ≡ None

pub actor : (book : BookValue) (entry : Entry) → broken book entry ≡ None → Actor book entry
actor book entry h = by (slice_get book.nodes entry.node.0) refl (held (is_in_order book entry) 1 _ h).1
  where
    by : (o : Option machine.NodeValue) → slice_get book.nodes entry.node.0 ≡ o → broken_at book entry.stamp entry.node.0 o entry.act ≡ None → Actor book entry
    by None is k = absurd (cc k)
    by (Some state) is k = record { state = state; there = is; allowed = k }

-- it begins a transaction
pub record Begins (book : BookValue) (entry : Entry) : Type 0 where
  pub tid : Tid
  pub label : List ℕ
  pub client : ClientNo
  pub act : entry.act ≡ acts.Begin tid label client
  pub home : tid.home.0 ≡ entry.node.0
  pub first : tid.seq ≡ (elim (slice_get book.nodes entry.node.0) [ None ↦ 0 | Some state ↦ state.begun ]) + 1
  pub inc : tid.inc ≡ inc_at book entry.node
  pub new : find_transaction book tid ≡ None
  pub stands : find_transaction (effect book entry) tid ≡ Some (begun label client (ticks_at (slice_get book.nodes entry.node.0)))
  pub others : (other : Tid) → Apart tid other → find_transaction (effect book entry) other ≡ find_transaction book other

-- it turns each, in an incarnation of its node
pub record Turning (book : BookValue) (entry : Entry) : Type 0 where
  pub now : ℕ
  pub turned : Turned (Turns entry.node.0 now book.place) book (effect book entry)
  pub stays : (inc : ℕ) (pend : List Found) (done : List Tid) → entry.act ≡ acts.Restart inc pend done → now ≡ inc
  pub acts_now : ((inc : ℕ) (pend : List Found) (done : List Tid) → entry.act ≡ acts.Restart inc pend done → ⊥) → now ≡ inc_at book entry.node

module _ (book : BookValue) (entry : Entry) (i : Inv book) (h : broken book entry ≡ None) where
  a : Actor book entry
  a = actor book entry h

  module _ (act : Act) (is : entry.act ≡ act) where
    allowed : broken_node book entry.stamp entry.node.0 a.state act ≡ None
    allowed = subst (λ (x : Act). broken_node book entry.stamp entry.node.0 a.state x ≡ None) is a.allowed

    there : (tid : Tid) → find_transaction (effect book entry) tid ≡ find_transaction (effect_act entry.stamp entry.node.0 act book) tid
    there tid = ap (λ (x : Act). find_transaction (effect_act entry.stamp entry.node.0 x book) tid) is

    acting : IsActing book entry.stamp entry.node.0 a.state act → broken_act book entry.stamp entry.node.0 a.state act ≡ None → ((inc : ℕ) (pend : List Found) (done : List Tid) → act ≡ acts.Restart inc pend done → ⊥) → Turning book entry
    acting acts_up k other = record {
      now = inc_at book entry.node;
      turned = record { none = λ tid none. there tid ∙ t.none tid none; goes = λ tid tx found. let p = t.goes tid tx found in (p.0, there tid ∙ p.1, p.2) };
      stays = λ inc pend done e. absurd (other inc pend done (sym is ∙ e));
      acts_now = λ none. refl;
    }
      where
        t : Turned (Turns entry.node.0 (inc_at book entry.node) book.place) book (effect_act entry.stamp entry.node.0 act book)
        t = act_turns book entry.stamp entry.node.0 a.state act acts_up k

  restarts : (inc : ℕ) (pend : List Found) (done : List Tid) → entry.act ≡ acts.Restart inc pend done → Turning book entry
  restarts inc pend done is = record {
    now = inc;
    turned = record { none = λ tid none. there (acts.Restart inc pend done) is tid ∙ t.none tid none; goes = λ tid tx found. let p = t.goes tid tx found in (p.0, there (acts.Restart inc pend done) is tid ∙ p.1, p.2) };
    stays = λ other p d e. ap inc_in (sym is ∙ e);
    acts_now = λ none. absurd (none inc pend done is);
  }
    where
      inc_in : Act → ℕ
      inc_in (acts.Restart n p d) = n
      inc_in act = 0

      may : broken_restart entry.node.0 book a.state inc pend done ≡ None
      may = unheld a.state.up 2 _ (allowed (acts.Restart inc pend done) is)

      t : Turned (Turns entry.node.0 inc book.place) book (restart entry.node.0 inc pend done book)
      t = restart_turns book entry.node.0 inc pend done a.state a.there may

  pub begins : (tid : Tid) (label : List ℕ) (client : ClientNo) → entry.act ≡ acts.Begin tid label client → Begins book entry
  begins tid label client is = record {
    tid = tid;
    label = label;
    client = client;
    act = is;
    home = next.0;
    first = next.2 ∙ ap (λ (o : Option machine.NodeValue). (elim o [ None ↦ 0 | Some state ↦ state.begun ]) + 1) (sym a.there);
    inc = next.1 ∙ ap (λ (o : Option machine.NodeValue). elim o [ None ↦ 0 | Some state ↦ state.inc ]) (sym a.there);
    new = fresh book entry.stamp entry.node.0 a.state i a.there tid label client (subst (λ (x : Act). broken book (entry_of entry.node.0 entry.stamp x) ≡ None) is h);
    stands = there (acts.Begin tid label client) is tid ∙ lookup_put tid_cmp tid one (tid_itself tid) book.transactions;
    others = λ other far. there (acts.Begin tid label client) is other ∙ lookup_put_apart tid_cmp tid one (λ x. tid_exact tid x) (is_at (tid_cmp other)) far.at book.transactions;
  }
    where
      one : TransactionValue
      one = begun label client (ticks_at (slice_get book.nodes entry.node.0))

      next : (tid.home.0 ≡ entry.node.0) × (tid.inc ≡ a.state.inc) × (tid.seq ≡ a.state.begun + 1)
      next = next_is entry.node.0 a.state tid (begin_may entry.node.0 a.state book.labels tid label (held a.state.up 2 _ (allowed (acts.Begin tid label client) is)).1)

  pub by_entry : Begins book entry ⊎ Turning book entry
  by_entry = of entry.act refl
    where
      ran : (act : Act) → entry.act ≡ act → (broken_node book entry.stamp entry.node.0 a.state act ≡ (if a.state.up then broken_act book entry.stamp entry.node.0 a.state act else Some 2)) → broken_act book entry.stamp entry.node.0 a.state act ≡ None
      ran act is e = (held a.state.up 2 _ (sym e ∙ allowed act is)).1

      of : (act : Act) → entry.act ≡ act → Begins book entry ⊎ Turning book entry
      of (acts.Begin tid label client) is = inl (begins tid label client is)
      of (acts.Restart inc pend done) is = inr (restarts inc pend done is)
      of (acts.Issue tid issuer member number op) is = inr (acting (acts.Issue tid issuer member number op) is tt (ran (acts.Issue tid issuer member number op) is refl) (λ n p d e. absurd (cc e)))
      of (acts.Serve tid member from number reply) is = inr (acting (acts.Serve tid member from number reply) is tt (ran (acts.Serve tid member from number reply) is refl) (λ n p d e. absurd (cc e)))
      of (acts.Vote tid member ballot covers) is = inr (acting (acts.Vote tid member ballot covers) is tt (ran (acts.Vote tid member ballot covers) is refl) (λ n p d e. absurd (cc e)))
      of (acts.Ask tid) is = inr (acting (acts.Ask tid) is tt (ran (acts.Ask tid) is refl) (λ n p d e. absurd (cc e)))
      of (acts.Counted tid peer up_to) is = inr (acting (acts.Counted tid peer up_to) is tt (ran (acts.Counted tid peer up_to) is refl) (λ n p d e. absurd (cc e)))
      of (acts.Decide tid outcome cause) is = inr (acting (acts.Decide tid outcome cause) is tt (ran (acts.Decide tid outcome cause) is refl) (λ n p d e. absurd (cc e)))
      of (acts.Ending tid member) is = inr (acting (acts.Ending tid member) is tt (ran (acts.Ending tid member) is refl) (λ n p d e. absurd (cc e)))
      of (acts.Learn tid member outcome) is = inr (acting (acts.Learn tid member outcome) is tt (ran (acts.Learn tid member outcome) is refl) (λ n p d e. absurd (cc e)))
      of (acts.Answer client line said) is = inr (acting (acts.Answer client line said) is tt (ran (acts.Answer client line said) is refl) (λ n p d e. absurd (cc e)))
      of (acts.Loan tid client) is = inr (acting (acts.Loan tid client) is tt (ran (acts.Loan tid client) is refl) (λ n p d e. absurd (cc e)))
      of (acts.Yield tid client) is = inr (acting (acts.Yield tid client) is tt (ran (acts.Yield tid client) is refl) (λ n p d e. absurd (cc e)))
      of acts.Tick is = inr (acting acts.Tick is tt (ran acts.Tick is refl) (λ n p d e. absurd (cc e)))
      of (acts.Crash cause) is = inr (acting (acts.Crash cause) is tt (ran (acts.Crash cause) is refl) (λ n p d e. absurd (cc e)))
