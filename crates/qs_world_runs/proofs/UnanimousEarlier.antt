-- What a home commits in a step was unanimous as the step began: what leaves it open and is not noted makes nothing unanimous.
use Rattle.qs_world_runs.proofs.Words.{◌≡◌, inl, inr, ℕ, ◌&&◌, Bool, true, false, List, [], ◌∷◌, ◌++◌, Option, Some, None, refl, sym, ap, subst, ◌∙◌, cond, insert_entry, is_at, list_all, list_any, lookup, set_value, slice_get, same_tid, Class, Member, Tid, Act, Inv, held, Gives, GivesFor, Obliged, BookValue, cell_of_transaction, find_transaction, inc_at, borrower_at, book_after, broken, broken_act, broken_at, effect, TransactionValue, agrees, agrees_in, all_served, changed_value, ended_part}
use Rattle.qs_world_runs.proofs.Words.{is_commit, is_served, is_unanimous, issued, learnt_part, request_cmp, requests_at, Cell, Life, Part, Request, RequestNo, class_of, Cause, effects_of, step_work, Event, entries_of, entry_of, HasCommitted, deeds_of, Here, is_noted, and_parts, or_parts}
use Rattle.qs_base.specs.declared.identifiers.Class.TheVariants as classes
use Rattle.qs_base.specs.declared.identifiers.Outcome.{Outcome}
use Rattle.qs_base.specs.declared.identifiers.Outcome.TheVariants as outcomes
use Rattle.qs_book_journal.specs.declared.entry.Act.TheVariants as acts
use Rattle.qs_book_laws.proofs.Maps.{lookup_put}
use Rattle.qs_book_laws.proofs.Steps.{stepped}
use Rattle.qs_book_machine.specs.Clauses.{broken_decide, broken_outcome, may_decide}
use Rattle.qs_book_machine.specs.Lawful.{IsLawful, is_in_order}
use Rattle.qs_book_machine.specs.Nodes as machine
use Rattle.qs_book_machine.specs.Transaction.{ended, learnt}
use Rattle.qs_book_machine.specs.declared.transaction.Cell.TheVariants as cells
use Rattle.qs_node_step.specs.State.{NodeValue}
use Rattle.qs_world_runs.specs.Firsts.{CommitsSo, is_commit_of}
use Rattle.qs_world_runs.proofs.CommitsFirst.{commits_so}
use Rattle.qs_world_runs.proofs.PlacedActs.{step_here}
use Rattle.qs_world_runs.proofs.PlacedTx.{request_self}

-- ---- what the change of a transaction leaves

-- a request that was just issued is not served
last_served : (requests : List Request) (request : Request) → list_all is_served (requests ++ request ∷ []) ≡ true → request.served ≡ true
last_served [] request all = (and_parts request.served true all).0
last_served (r ∷ requests) request all = last_served requests request (and_parts r.served _ all).1

entry_passes : {K V : Type 0} (test : K → Bool) (p : V → Bool) (es : List (K × V)) (v : V) → lookup test es ≡ Some v → list_all (λ (entry : K × V). p entry.1) es ≡ true → p v ≡ true
entry_passes test p [] v there all = absurd (cc there)
entry_passes {K} {V} test p (e ∷ es) v there all = by (test e.0) there (and_parts (p e.1) _ all) (λ is rest. entry_passes test p es v is rest)
  where
    one : Some e.1 ≡ Some v → e.1 ≡ v
    one is = cc is

    by : (b : Bool) → cond b (Some e.1) (lookup test es) ≡ Some v → (p e.1 ≡ true) × (list_all (λ (entry : K × V). p entry.1) es ≡ true) → (lookup test es ≡ Some v → list_all (λ (entry : K × V). p entry.1) es ≡ true → p v ≡ true) → p v ≡ true
    by true is all more = subst (λ (x : V). p x ≡ true) (one is) all.0
    by false is all more = more is all.1

unserved : (at : RequestNo) (request : Request) (peer_inc place : ℕ) (tx : TransactionValue) → request.served ≡ false → all_served (issued at request peer_inc place tx) ≡ true → ⊥
unserved at request peer_inc place tx off all =
    let on : request.served ≡ true = last_served (requests_at tx at) request (entry_passes (is_at (request_cmp at)) (list_all is_served) (insert_entry request_cmp tx.requests at (requests_at tx at ++ request ∷ [])) (requests_at tx at ++ request ∷ [])
    (lookup_put request_cmp at (requests_at tx at ++ request ∷ []) (request_self at) tx.requests) all) in cc (off, on)

module _ (test : Life → Bool) (f : Part → Part) (same : (c : Class) (part : Part) → agrees_in c (f part) ≡ agrees_in c part) where
  set_agrees : (es : List (Life × Part)) (part : Part) → lookup test es ≡ Some part → list_all agrees (set_value test es (f part)) ≡ list_all agrees es
  set_agrees [] part there = refl
  set_agrees (e ∷ es) part there = by (test e.0) there (λ is. set_agrees es part is)
    where
      by : (b : Bool) → cond b (Some e.1) (lookup test es) ≡ Some part → (lookup test es ≡ Some part → list_all agrees (set_value test es (f part)) ≡ list_all agrees es) → list_all agrees (cond b ((e.0, f part) ∷ es) (e ∷ set_value test es (f part))) ≡ (agrees e && list_all agrees es)
      by true is more = ap (λ (b : Bool). b && list_all agrees es) (same (class_of e.0.member.server.0) part ∙ ap (λ (p : Part). agrees_in (class_of e.0.member.server.0) p) (sym (one is)))
        where
          one : Some e.1 ≡ Some part → e.1 ≡ part
          one is = cc is
      by false is more = ap (λ (b : Bool). agrees e && b) (more is)

  changed_agrees : (es : List (Life × Part)) → list_all agrees (changed_value test f es) ≡ list_all agrees es
  changed_agrees es = by (lookup test es) refl
    where
      by : (o : Option Part) → lookup test es ≡ o → list_all agrees (elim o [ None ↦ es | Some part ↦ set_value test es (f part) ]) ≡ list_all agrees es
      by None none = refl
      by (Some part) there = set_agrees es part there

ended_same : (c : Class) (part : Part) → agrees_in c (ended_part part) ≡ agrees_in c part
ended_same classes.Recoverable part = refl
ended_same classes.Volatile part = refl
ended_same classes.Activity part = refl
ended_same classes.Immediate part = refl
ended_same classes.Standard part = refl
ended_same classes.Delayed part = refl

learnt_same : (outcome : Outcome) (c : Class) (part : Part) → agrees_in c (learnt_part outcome part) ≡ agrees_in c part
learnt_same outcomes.Commit classes.Recoverable part = refl
learnt_same outcomes.Commit classes.Volatile part = refl
learnt_same outcomes.Commit classes.Activity part = refl
learnt_same outcomes.Commit classes.Immediate part = refl
learnt_same outcomes.Commit classes.Standard part = refl
learnt_same outcomes.Commit classes.Delayed part = refl
learnt_same outcomes.Abort classes.Recoverable part = refl
learnt_same outcomes.Abort classes.Volatile part = refl
learnt_same outcomes.Abort classes.Activity part = refl
learnt_same outcomes.Abort classes.Immediate part = refl
learnt_same outcomes.Abort classes.Standard part = refl
learnt_same outcomes.Abort classes.Delayed part = refl

parts_back : (tx later : TransactionValue) → list_all agrees later.parts ≡ list_all agrees tx.parts → later.requests ≡ tx.requests → later.asked ≡ tx.asked → later.refusals ≡ tx.refusals → later.crossed ≡ tx.crossed → is_unanimous later ≡ true → is_unanimous tx ≡ true
parts_back tx later p q r s t is = rw (sym p, sym q, sym r, sym s, sym t) is

-- ---- not unanimous, through what is not noted

abbrev Divided : TransactionValue → Type 0
Divided tx = is_unanimous tx ≡ true → ⊥

abbrev Uncommitted : TransactionValue → Type 0
Uncommitted tx = is_commit tx.cell ≡ true → ⊥

-- a commit that is lawful is of what stands and is unanimous
decide_unanimous : (book : BookValue) (n stamp : ℕ) (tid : Tid) (cause : Option Cause) → broken book (entry_of n stamp (acts.Decide tid outcomes.Commit cause)) ≡ None
    → (tx : TransactionValue) × (find_transaction book tid ≡ Some tx) × (is_unanimous tx ≡ true)
decide_unanimous book n stamp tid cause h = at (slice_get book.nodes n) (held (is_in_order book (entry_of n stamp (acts.Decide tid outcomes.Commit cause))) 1 _ h).1
  where
    of_cause : (tx : TransactionValue) (c : Option Cause) (node : machine.NodeValue) → broken_outcome node book.nodes tid tx stamp outcomes.Commit c ≡ None → is_unanimous tx ≡ true
    of_cause tx None node is = (held (is_unanimous tx) 71 None is).0
    of_cause tx (Some c) node is = absurd (cc is)

    of_known : (node : machine.NodeValue) (x : Option TransactionValue) → find_transaction book tid ≡ x → broken_decide n node book.nodes tid x stamp outcomes.Commit cause ≡ None → (tx : TransactionValue) × (find_transaction book tid ≡ Some tx) × (is_unanimous tx ≡ true)
    of_known node None none is = absurd (cc is)
    of_known node (Some tx) found is = (tx, found, of_cause tx cause node (held (may_decide n tid tx) 70 (broken_outcome node book.nodes tid tx stamp outcomes.Commit cause) is).1)

    at : (o : Option machine.NodeValue) → broken_at book stamp n o (acts.Decide tid outcomes.Commit cause) ≡ None → (tx : TransactionValue) × (find_transaction book tid ≡ Some tx) × (is_unanimous tx ≡ true)
    at None is = absurd (cc is)
    at (Some node) is = of_known node (find_transaction book tid) refl (held node.up 2 (broken_act book stamp n node (acts.Decide tid outcomes.Commit cause)) is).1

module _ (tid : Tid) (n stamp : ℕ) where
  pub gives : (P : TransactionValue → Type 0) (book : BookValue) (t : Tid) (f : TransactionValue → TransactionValue) → ((tx : TransactionValue) → P tx → P (f tx)) → Gives tid P P book t f
  gives P book t f keeps = record { own = λ same tx found p. keeps tx p; other = λ apart tx p. p }

  pub aside : (P : TransactionValue → Type 0) (book : BookValue) (t : Tid) (f : TransactionValue → TransactionValue) → same_tid t tid ≡ false → Gives tid P P book t f
  aside P book t f apart = record { own = λ same tx found p. absurd (cc (same, apart)); other = λ apart tx p. p }

  pub aside_for : (P : TransactionValue → Type 0) (book : BookValue) (t : Tid) (f : Member → TransactionValue → TransactionValue) (o : Option Member) → same_tid t tid ≡ false → GivesFor tid P P book t f o
  aside_for P book t f None apart = λ tx p. p
  aside_for P book t f (Some other) apart = aside P book t (f other) apart

  stays_divided : (book : BookValue) (act : Act) → broken book (entry_of n stamp act) ≡ None → is_noted tid act ≡ false → Obliged tid Divided Divided book stamp n act
  stays_divided book (acts.Begin t label client) h off = λ tx p. p
  stays_divided book (acts.Issue t issuer other number op) h off = gives Divided book t _ (λ tx p is. unserved _ _ (inc_at book other.node) book.place tx refl (and_parts _ _ (and_parts _ _ is).0).1)
  stays_divided book (acts.Serve t other from number reply) h off = aside Divided book t _ off
  stays_divided book (acts.Vote t other ballot covers) h off = aside Divided book t _ off
  stays_divided book (acts.Ask t) h off = aside Divided book t _ off
  stays_divided book (acts.Counted t peer up_to) h off = gives Divided book t _ (λ tx p is. p is)
  stays_divided book (acts.Decide t outcome cause) h off = gives Divided book t _ (λ tx p is. p is)
  stays_divided book (acts.Ending t other) h off = gives Divided book t _ (λ tx p is. p (parts_back tx (ended other _ tx) (changed_agrees _ ended_part ended_same tx.parts) refl refl refl refl is))
  stays_divided book (acts.Learn t other outcomes.Commit) h off = gives Divided book t _ (λ tx p is. p (parts_back tx (learnt other _ outcomes.Commit tx) (changed_agrees _ (learnt_part outcomes.Commit) (learnt_same outcomes.Commit) tx.parts) refl refl refl refl is))
  stays_divided book (acts.Learn t other outcomes.Abort) h off = gives Divided book t _ (λ tx p is. p (parts_back tx (learnt other _ outcomes.Abort tx) (changed_agrees _ (learnt_part outcomes.Abort) (learnt_same outcomes.Abort) tx.parts) refl refl refl refl is))
  stays_divided book (acts.Answer client line said) h off = ((λ node inc tx p is. p is), λ tx p. p)
  stays_divided book (acts.Loan t client) h off = aside_for Divided book t _ (borrower_at client n) off
  stays_divided book (acts.Yield t client) h off = aside_for Divided book t _ (borrower_at client n) off
  stays_divided book acts.Tick h off = λ tx p. p
  stays_divided book (acts.Crash cause) h off = λ tx p. p
  stays_divided book (acts.Restart inc pend done) h off = absurd (cc off)

  divided_commit : (before after : List Act) (cause : Option Cause) (book : BookValue) → Inv book → IsLawful book (entries_of n stamp (before ++ acts.Decide tid outcomes.Commit cause ∷ after)) → list_any (is_noted tid) before ≡ false → Here tid Divided book → ⊥
  divided_commit [] after cause book i lawful off s = let d = decide_unanimous book n stamp tid cause lawful.0 in s d.0 d.1 d.2
  divided_commit (act ∷ before) after cause book i lawful off s = let two = or_parts (is_noted tid act) _ off in
      divided_commit before after cause (effect book (entry_of n stamp act)) (stepped book (entry_of n stamp act) i lawful.0).inv lawful.1 two.1
      (step_here tid Divided Divided book (entry_of n stamp act) i lawful.0 (stays_divided book act lawful.0 two.0) (λ label client ticks is un. cc un) s)

  -- ---- and not committed, through what commits nothing

  not_abort : (outcome : Outcome) (cause : Option Cause) (book : BookValue) (t : Tid) → is_commit_of tid (acts.Decide t outcome cause) ≡ false → Obliged tid Uncommitted Uncommitted book stamp n (acts.Decide t outcome cause)
  not_abort outcomes.Abort cause book t off = gives Uncommitted book t _ (λ tx p is. absurd (cc is))
  not_abort outcomes.Commit cause book t off = aside Uncommitted book t _ off

  borrows : (book : BookValue) (t : Tid) (f : Member → TransactionValue → TransactionValue) (o : Option Member) → ((other : Member) (tx : TransactionValue) → Uncommitted tx → Uncommitted (f other tx)) → GivesFor tid Uncommitted Uncommitted book t f o
  borrows book t f None keeps = λ tx p. p
  borrows book t f (Some other) keeps = gives Uncommitted book t (f other) (keeps other)

  stays_open : (book : BookValue) (act : Act) → is_commit_of tid act ≡ false → Obliged tid Uncommitted Uncommitted book stamp n act
  stays_open book (acts.Begin t label client) off = λ tx p. p
  stays_open book (acts.Issue t issuer other number op) off = gives Uncommitted book t _ (λ tx p is. p is)
  stays_open book (acts.Serve t other from number reply) off = gives Uncommitted book t _ (λ tx p is. p is)
  stays_open book (acts.Vote t other ballot covers) off = gives Uncommitted book t _ (λ tx p is. p is)
  stays_open book (acts.Ask t) off = gives Uncommitted book t _ (λ tx p is. p is)
  stays_open book (acts.Counted t peer up_to) off = gives Uncommitted book t _ (λ tx p is. p is)
  stays_open book (acts.Decide t outcome cause) off = not_abort outcome cause book t off
  stays_open book (acts.Ending t other) off = gives Uncommitted book t _ (λ tx p is. p is)
  stays_open book (acts.Learn t other outcomes.Commit) off = gives Uncommitted book t _ (λ tx p is. p is)
  stays_open book (acts.Learn t other outcomes.Abort) off = gives Uncommitted book t _ (λ tx p is. p is)
  stays_open book (acts.Answer client line said) off = ((λ node inc tx p is. p is), λ tx p. p)
  stays_open book (acts.Loan t client) off = borrows book t _ (borrower_at client n) (λ other tx p is. p is)
  stays_open book (acts.Yield t client) off = borrows book t _ (borrower_at client n) (λ other tx p is. p is)
  stays_open book acts.Tick off = λ tx p. p
  stays_open book (acts.Crash cause) off = λ tx p. p
  stays_open book (acts.Restart inc pend done) off = absurd (cc off)

  uncommitted : (done : List Act) (book : BookValue) → Inv book → IsLawful book (entries_of n stamp done) → list_any (is_commit_of tid) done ≡ false → Here tid Uncommitted book → Here tid Uncommitted (book_after book (entries_of n stamp done))
  uncommitted [] book i lawful off s = s
  uncommitted (act ∷ done) book i lawful off s = let two = or_parts (is_commit_of tid act) _ off in
      uncommitted done (effect book (entry_of n stamp act)) (stepped book (entry_of n stamp act) i lawful.0).inv lawful.1 two.1
      (step_here tid Uncommitted Uncommitted book (entry_of n stamp act) i lawful.0 (stays_open book act two.0) (λ label client ticks is un. cc un) s)

  -- ---- a whole step

  module _ (node : NodeValue) (event : Event) (free : ℕ) (book : BookValue) (i : Inv book) (lawful : IsLawful book (entries_of n stamp (effects_of node event free).entries)) (now : HasCommitted (book_after book (entries_of n stamp (effects_of node event free).entries)) tid) where
    committed_then : (later : Option TransactionValue) → cell_of_transaction later ≡ Some cells.Commit → (tx : TransactionValue) × (later ≡ Some tx) × (is_commit tx.cell ≡ true)
    committed_then None is = absurd (cc is)
    committed_then (Some tx) is = (tx, refl, so tx.cell is)
      where
        so : (c : Cell) → Some c ≡ Some cells.Commit → is_commit c ≡ true
        so cells.Commit e = refl
        so cells.Open e = absurd (cc e)
        so cells.Abort e = absurd (cc e)

    -- nothing that is neither committed nor unanimous is committed then
    not_both : Here tid Divided book → Here tid Uncommitted book → ⊥
    not_both divided open_now = by (commits_so tid node event free)
      where
        by : CommitsSo tid (deeds_of (step_work node event free)) → ⊥
        by (inl c) = divided_commit c.before c.after c.cause book i (subst (λ (acts_done : List Act). IsLawful book (entries_of n stamp acts_done)) c.is lawful) c.unnoted divided
        by (inr s) = let later = committed_then (find_transaction (book_after book (entries_of n stamp (effects_of node event free).entries)) tid) now in uncommitted (effects_of node event free).entries book i lawful s.none open_now later.0 later.1 later.2

    pub unanimous_earlier : (tx : TransactionValue) → find_transaction book tid ≡ Some tx → is_commit tx.cell ≡ false → is_unanimous tx ≡ true
    unanimous_earlier tx found undecided = by (is_unanimous tx) refl
      where
        one : (x : TransactionValue) → find_transaction book tid ≡ Some x → tx ≡ x
        one x there = same (sym found ∙ there)
          where
            same : Some tx ≡ Some x → tx ≡ x
            same e = cc e

        by : (b : Bool) → is_unanimous tx ≡ b → is_unanimous tx ≡ true
        by true is = is
        by false is = absurd (not_both
            (λ x there un. let e : tx ≡ x = one x there in cc (is, un, e))
            (λ x there un. let e : tx ≡ x = one x there in cc (undecided, un, e)))

    -- what begins in a step it does not commit
    pub stood_earlier : find_transaction book tid ≡ None → ⊥
    stood_earlier none = not_both (λ x there. absurd (cc (none, there))) (λ x there. absurd (cc (none, there)))
