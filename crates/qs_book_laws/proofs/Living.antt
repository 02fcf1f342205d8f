-- Through every lawful history: what a member has pending and on record of a transaction that may still be committed is what
-- it served, as far as its votes cover that.
use Rattle.qs_book_laws.proofs.Words.{◌≡◌, ℕ, ◌+◌, ◌<◌, Bool, true, false, List, [], ◌∷◌, ◌++◌, Option, Some, None, refl, sym, ap, subst, ◌∙◌, arith, append-nil, append_assoc, is_some, slice_get, option_map, Member, Tid, Op, Act, Entry, Found, TransactionValue, BookValue, find_transaction, broken_act, broken, effect_act, effect, IsLawful, book_after, NodeValue, restart, broken_restart, change_served, changes_served, keeps_contents}
use Rattle.qs_book_journal.specs.declared.entry.Act.TheVariants as acts
use Rattle.qs_book_laws.proofs.Again.{restart_node}
use Rattle.qs_book_laws.proofs.Alikes.{at_exact}
use Rattle.qs_book_laws.proofs.Begun.{IsNative, IsClosed, inc_in, restarts_at, step_incs, home_closes}
use Rattle.qs_book_laws.proofs.Committed.{step_takes}
use Rattle.qs_book_laws.proofs.Ends.{lawful_node}
use Rattle.qs_book_laws.proofs.Faces.{Age, age}
use Rattle.qs_book_laws.proofs.Grows.{begins, step_alters, step_grows, restart_alters}
use Rattle.qs_book_laws.proofs.Holding.{same_number, which}
use Rattle.qs_book_laws.proofs.Keeping.{is_live, not_live, live_before, Keeping, step_keeps}
use Rattle.qs_book_laws.proofs.Outcomes.{Inv, next_is}
use Rattle.qs_book_laws.proofs.Resuming.{resumes}
use Rattle.qs_book_laws.proofs.Shares.{number}
use Rattle.qs_book_laws.proofs.Shut.{Shut}
use Rattle.qs_book_laws.proofs.Steps.{begin_may, stepped}
use Rattle.qs_book_laws.proofs.Takes.{some_same}
use Rattle.qs_book_laws.proofs.Tidy.{AllTidy, step_tidy}

-- a restart, as its effect on the book
pub effect_restart : (book : BookValue) (entry : Entry) (here inc : ℕ) (pend : List Found) (done : List Tid) → entry.act ≡ acts.Restart inc pend done → entry.node.0 ≡ here
    → effect book entry ≡ record (restart here inc pend done book) { stamp = entry.stamp; node = entry.node.0; place = book.place + 1 }
effect_restart book entry here inc pend done is e =
    ap (λ (a : Act). record (effect_act entry.stamp entry.node.0 a book) { stamp = entry.stamp; node = entry.node.0; place = book.place + 1 }) is
    ∙ ap (λ (n : ℕ). record (restart n inc pend done book) { stamp = entry.stamp; node = entry.node.0; place = book.place + 1 }) e

pub lived : (tid : Tid) (member : Member) (book : BookValue) (entry : Entry) → Inv book → broken book entry ≡ None → is_live (find_transaction (effect book entry) tid) member ≡ true → is_live (find_transaction book tid) member ≡ true
lived tid member book entry i h live = live_before tid member book (effect book entry) (stepped book entry i h).kept (step_grows tid member book entry i h) live

module _ (tid : Tid) (member : Member) where
  -- ---- where the transaction began

  module _ (book : BookValue) (entry : Entry) (i : Inv book) (h : broken book entry ≡ None) (live : is_live (find_transaction (effect book entry) tid) member ≡ true) (native : IsNative tid book) where
    -- a restart of its home would have decided it
    home_restarts : (act : Act) → entry.act ≡ act → restarts_at tid.home.0 entry.node.0 act ≡ true → is_some (find_transaction (effect book entry) tid) ≡ true → ⊥
    home_restarts (acts.Restart inc pend done) is near known =
        let e : entry.node.0 ≡ tid.home.0 = same_number entry.node.0 tid.home.0 near in
        let there : (node : NodeValue) × (slice_get book.nodes tid.home.0 ≡ Some node) × (broken_restart tid.home.0 book node inc pend done ≡ None) = restart_node book entry tid.home.0 inc pend done h is e in
        let was_known : is_some (find_transaction book tid) ≡ true = sym (step_alters tid member book entry (ap (begins tid) is) h).known ∙ known in
        let c : IsClosed (restart tid.home.0 inc pend done book) tid = home_closes tid member tid.home.0 inc pend done book there.0 i there.1 refl native was_known in
        let found : find_transaction (effect book entry) tid ≡ find_transaction (restart tid.home.0 inc pend done book) tid = ap (λ (b : BookValue). find_transaction b tid) (effect_restart book entry tid.home.0 inc pend done is e) in
        not_live (find_transaction (restart tid.home.0 inc pend done book) tid) member c.seen c.found c.closed (subst (λ (o : Option TransactionValue). is_live o member ≡ true) found live)
    home_restarts act is near known = absurd (cc near)

    -- it begins in the incarnation of its home
    begins_there : (act : Act) → entry.act ≡ act → begins tid act ≡ true → (inc : ℕ) → inc_in book tid.home.0 ≡ Some inc → (tid.inc ≡ inc) × (0 < tid.seq)
    begins_there (acts.Begin t label client) is same inc inc_is =
        let e : tid ≡ t = at_exact tid t same in
        let at : (node : NodeValue) × (slice_get book.nodes entry.node.0 ≡ Some node) × (broken_act book entry.stamp entry.node.0 node (acts.Begin t label client) ≡ None) =
        lawful_node book entry (acts.Begin t label client) is (λ node. refl) h in
        let next = next_is entry.node.0 at.0 t (begin_may entry.node.0 at.0 book.labels t label at.2) in
        let there : inc_in book tid.home.0 ≡ Some at.0.inc =
        ap (λ (n : ℕ). inc_in book n) (ap (λ (x : Tid). x.home.0) e ∙ next.0) ∙ ap (λ (o : Option NodeValue). option_map (λ (a : Age). a.inc) (option_map age o)) at.1 in
        (ap (λ (x : Tid). x.inc) e ∙ (next.1 ∙ some_same at.0.inc inc (sym there ∙ inc_is)), above tid.seq at.0.begun (ap (λ (x : Tid). x.seq) e ∙ next.2))
      where
        above : (m n : ℕ) → m ≡ n + 1 → 0 < m
        above m n k = omega arith
    begins_there act is same inc inc_is = absurd (cc same)

    pub step_native : IsNative tid (effect book entry)
    step_native inc inc_is known = by (restarts_at tid.home.0 entry.node.0 entry.act) refl
      where
        beginning : inc_in book tid.home.0 ≡ Some inc → (c : Bool) → begins tid entry.act ≡ c → (tid.inc ≡ inc) × (0 < tid.seq)
        beginning was true is = begins_there entry.act refl is inc was
        beginning was false is = native inc was (sym (step_alters tid member book entry is h).known ∙ known)

        by : (c : Bool) → restarts_at tid.home.0 entry.node.0 entry.act ≡ c → (tid.inc ≡ inc) × (0 < tid.seq)
        by true is = absurd (home_restarts entry.act refl is known)
        by false far = beginning (sym (step_incs tid.home.0 book entry far h) ∙ inc_is) (begins tid entry.act) refl

  -- ---- a step

  pub record Living (book : BookValue) (changes : List Op) : Type 0 where
    pub native : IsNative tid book
    pub keeping : Keeping tid member book changes

  stamped : (book : BookValue) (changes : List Op) (stamp node place : ℕ) → Keeping tid member book changes → Keeping tid member (record book { stamp = stamp; node = node; place = place }) changes
  stamped book changes stamp node place k = record {
    mark = k.mark;
    at = k.at;
    pending = k.pending;
    on_record = k.on_record;
    above = k.above;
    most = k.most;
    empty = k.empty;
    unknown = k.unknown;
  }

  module _ (keeps : keeps_contents member.server.0 ≡ true) (book : BookValue) (entry : Entry) (changes : List Op)
      (i : Inv book) (shut : Shut book) (tidy : AllTidy book.nodes) (h : broken book entry ≡ None)
      (live : is_live (find_transaction (effect book entry) tid) member ≡ true) (l : Living book changes) where
    before_live : is_live (find_transaction book tid) member ≡ true
    before_live = lived tid member book entry i h live

    restarts : (inc : ℕ) (pend : List Found) (done : List Tid) → entry.act ≡ acts.Restart inc pend done → entry.node.0 ≡ member.node.0 → Keeping tid member (effect book entry) (changes ++ change_served book tid member entry.act)
    restarts inc pend done is e =
        let side : (b : Bool) × (member.server.0 ≡ number b) = which member.server.0 keeps in
        let there : (node : NodeValue) × (slice_get book.nodes member.node.0 ≡ Some node) × (broken_restart member.node.0 book node inc pend done ≡ None) = restart_node book entry member.node.0 inc pend done h is e in
        let last : BookValue = restart member.node.0 inc pend done book in
        let effect_is : effect book entry ≡ record last { stamp = entry.stamp; node = entry.node.0; place = book.place + 1 } = effect_restart book entry member.node.0 inc pend done is e in
        let last_live : is_live (find_transaction last tid) member ≡ true = subst (λ (b : BookValue). is_live (find_transaction b tid) member ≡ true) effect_is live in
        let kept : Keeping tid member last changes =
        resumes tid member side.0 side.1 inc pend done book there.0 changes i shut there.1 there.2 (restart_alters tid member member.node.0 inc pend done book) before_live last_live l.native l.keeping in
        let nothing : changes ++ change_served book tid member entry.act ≡ changes = ap (λ (a : Act). changes ++ change_served book tid member a) is ∙ append-nil changes in
        subst (λ (b : BookValue). Keeping tid member b (changes ++ change_served book tid member entry.act)) (sym effect_is)
        (subst (Keeping tid member (record last { stamp = entry.stamp; node = entry.node.0; place = book.place + 1 })) (sym nothing) (stamped last changes entry.stamp entry.node.0 (book.place + 1) kept))

    pub step_living : Living (effect book entry) (changes ++ change_served book tid member entry.act)
    step_living = record {
      native = step_native book entry i h live l.native;
      keeping = step_keeps tid member keeps book entry changes i tidy h live l.keeping entry.act refl restarts;
    }

  -- ---- a history

  pub ran_living : keeps_contents member.server.0 ≡ true → (entries : List Entry) (book : BookValue) (changes : List Op) → Inv book → Shut book → AllTidy book.nodes → IsLawful book entries
      → (is_live (find_transaction book tid) member ≡ true → Living book changes) → is_live (find_transaction (book_after book entries) tid) member ≡ true
      → Living (book_after book entries) (changes ++ changes_served book tid member entries)
  ran_living keeps [] book changes i shut tidy lawful first live = subst (Living book) (sym (append-nil changes)) (first live)
  ran_living keeps (entry ∷ entries) book changes i shut tidy lawful first live =
      subst (Living (book_after (effect book entry) entries)) (append_assoc changes (change_served book tid member entry.act) (changes_served (effect book entry) tid member entries))
      (ran_living keeps entries (effect book entry) (changes ++ change_served book tid member entry.act) (stepped book entry i lawful.0).inv (step_takes book entry i shut lawful.0).shut (step_tidy book entry tidy) lawful.1
      (λ now. step_living keeps book entry changes i shut tidy lawful.0 now (first (lived tid member book entry i lawful.0 now))) live)
