-- What an entry of a node leaves beside transactions: the state of every other node, but where a request crosses its transaction there; and what
-- each client was told, and may be told.
use Rattle.qs_world_lawful.proofs.Words.{◌≡◌, ◌⊎◌, inl, inr, ℕ, ◌-◌, ◌==◌, Bool, true, false, List, [], ◌∷◌, ◌++◌, fold, Option, Some, None, refl, sym, ap, subst, ◌∙◌, if◌then◌else◌, slice_get, slice_set, ⊤, option_map, list_any, is_at, tid_cmp, Member, Outcome, Tid, Act, elsewhere, changed_alike, changed_at_either, BookValue, changed_at, crosses, find_transaction, give_back_from, hear, inc_at, loan_to, owner_of, told, waiting_of, with_owner, with_transaction, with_waiting, borrower_at, is_known}
use Rattle.qs_world_lawful.proofs.Words.{link_to, effect_act, TransactionValue, heard, issued, learnt, Asking, Owner, RequestNo, is_client_no, Answer, Cause, IsOfStep, some_same}
use Rattle.qs_base.specs.declared.identifiers.Outcome.TheVariants as outcomes
use Rattle.qs_book_journal.specs.declared.entry.Act.TheVariants as acts
use Rattle.qs_book_laws.proofs.Holding.{fold_nodes, loan_nodes, yield_nodes}
use Rattle.qs_book_machine.specs.Nodes as machine
use Rattle.qs_ops.specs.Alike.{same_cause}
use Rattle.qs_ops.specs.declared.answer.Answer.TheVariants as answers
use Rattle.qs_world_lawful.proofs.Crossing.{crossing_owners}
use Rattle.qs_world_lawful.proofs.RestartOwners.{told_still}
use Rattle.qs_world_lawful.proofs.SameWaits.{crossings}
use Rattle.qs_world_lawful.proofs.Told.{known_still}

-- neither an issue nor a restart
abbrev pub IsQuiet : Act → Type 0
IsQuiet (acts.Issue tid issuer member number op) = ⊥
IsQuiet (acts.Restart inc pend done) = ⊥
IsQuiet act = ⊤

module _ (stamp here k : ℕ) (far : (here == k) ≡ false) where
  -- ---- the state of another node

  pub there_same : (act : Act) → IsQuiet act → (book : BookValue) → slice_get (effect_act stamp here act book).nodes k ≡ slice_get book.nodes k
  there_same (acts.Issue tid issuer member number op) quiet book = absurd quiet
  there_same (acts.Restart inc pend done) quiet book = absurd quiet
  there_same (acts.Begin tid label client) quiet book = elsewhere _ book.nodes here k far
  there_same (acts.Serve tid member from number reply) quiet book = elsewhere _ book.nodes here k far
  there_same (acts.Vote tid member ballot covers) quiet book = elsewhere _ book.nodes here k far
  there_same (acts.Ask tid) quiet book = refl
  there_same (acts.Counted tid peer up_to) quiet book = refl
  there_same (acts.Decide tid outcome cause) quiet book = refl
  there_same (acts.Ending tid member) quiet book = elsewhere _ book.nodes here k far
  there_same (acts.Learn tid member outcome) quiet book = elsewhere _ book.nodes here k far
  there_same (acts.Answer client line said) quiet book = ap (λ (ns : List machine.NodeValue). slice_get ns k) (fold_nodes hear (λ x y. refl) (waiting_of (slice_get book.owners client.0)) (with_owner client.0 (λ (owner : Owner). record owner { line = line; waiting = [] }) book))
  there_same (acts.Loan tid client) quiet book = ap (λ (ns : List machine.NodeValue). slice_get ns k) (loan_nodes (inc_at book (record { 0 = here })) tid (borrower_at client here) book)
  there_same (acts.Yield tid client) quiet book = ap (λ (ns : List machine.NodeValue). slice_get ns k) (yield_nodes (inc_at book (record { 0 = here })) tid (borrower_at client here) book)
  there_same acts.Tick quiet book = elsewhere _ book.nodes here k far
  there_same (acts.Crash cause) quiet book = elsewhere _ book.nodes here k far

-- ---- what is crossed

abbrev pub KeepsCrossings : BookValue → BookValue → Type 0
KeepsCrossings book new = (t : Tid) → option_map crossings (find_transaction new t) ≡ option_map crossings (find_transaction book t)

crossings_by : (tid : Tid) (f : TransactionValue → TransactionValue) → ((tx : TransactionValue) → crossings (f tx) ≡ crossings tx) → (book : BookValue) → KeepsCrossings book (with_transaction tid f book)
crossings_by tid f keeps book t = changed_alike (is_at (tid_cmp tid)) crossings f keeps (is_at (tid_cmp t)) book.transactions

crossings_heard : (asks : List Asking) (book : BookValue) → KeepsCrossings book (fold hear book asks)
crossings_heard [] book t = refl
crossings_heard (ask ∷ asks) book t = crossings_heard asks (hear book ask) t ∙ crossings_by ask.tid (heard ask.node (inc_at book ask.node)) (λ tx. refl) book t

-- neither begins, nor issues, nor restarts
abbrev pub IsStill : Act → Type 0
IsStill (acts.Begin tid label client) = ⊥
IsStill act = IsQuiet act

pub crossings_same : (stamp here : ℕ) (act : Act) → IsStill act → (book : BookValue) → KeepsCrossings book (effect_act stamp here act book)
crossings_same stamp here (acts.Issue tid issuer member number op) still book = absurd still
crossings_same stamp here (acts.Restart inc pend done) still book = absurd still
crossings_same stamp here (acts.Begin tid label client) still book = absurd still
crossings_same stamp here (acts.Serve tid member from number reply) still book = λ t. changed_alike (is_at (tid_cmp tid)) crossings _ (λ tx. refl) (is_at (tid_cmp t)) book.transactions
crossings_same stamp here (acts.Vote tid member ballot covers) still book = λ t. changed_alike (is_at (tid_cmp tid)) crossings _ (λ tx. refl) (is_at (tid_cmp t)) book.transactions
crossings_same stamp here (acts.Ask tid) still book = λ t. changed_alike (is_at (tid_cmp tid)) crossings _ (λ tx. refl) (is_at (tid_cmp t)) book.transactions
crossings_same stamp here (acts.Counted tid peer up_to) still book = λ t. changed_alike (is_at (tid_cmp tid)) crossings _ (λ tx. refl) (is_at (tid_cmp t)) book.transactions
crossings_same stamp here (acts.Decide tid outcome cause) still book = λ t. changed_alike (is_at (tid_cmp tid)) crossings _ (λ tx. refl) (is_at (tid_cmp t)) book.transactions
crossings_same stamp here (acts.Ending tid member) still book = λ t. changed_alike (is_at (tid_cmp tid)) crossings _ (λ tx. refl) (is_at (tid_cmp t)) book.transactions
crossings_same stamp here (acts.Learn tid member outcome) still book = λ t. changed_alike (is_at (tid_cmp tid)) crossings (learnt member (inc_at book (record { 0 = here })) outcome) (of outcome) (is_at (tid_cmp t)) book.transactions
  where
    of : (outcome : Outcome) (tx : TransactionValue) → crossings (learnt member (inc_at book (record { 0 = here })) outcome tx) ≡ crossings tx
    of outcomes.Commit tx = refl
    of outcomes.Abort tx = refl
crossings_same stamp here (acts.Answer client line said) still book = λ t. crossings_heard (waiting_of (slice_get book.owners client.0)) (with_owner client.0 (λ (owner : Owner). record owner { line = line; waiting = [] }) book) t
crossings_same stamp here (acts.Loan tid client) still book = by (borrower_at client here)
  where
    by : (o : Option Member) → KeepsCrossings book (loan_to (inc_at book (record { 0 = here })) tid o book)
    by None t = refl
    by (Some member) t = changed_alike (is_at (tid_cmp tid)) crossings _ (λ tx. refl) (is_at (tid_cmp t)) book.transactions
crossings_same stamp here (acts.Yield tid client) still book = by (borrower_at client here)
  where
    by : (o : Option Member) → KeepsCrossings book (give_back_from (inc_at book (record { 0 = here })) tid o book)
    by None t = refl
    by (Some member) t = changed_alike (is_at (tid_cmp tid)) crossings _ (λ tx. refl) (is_at (tid_cmp t)) book.transactions
crossings_same stamp here acts.Tick still book = λ t. refl
crossings_same stamp here (acts.Crash cause) still book = λ t. refl

-- ---- clients

-- it may be told what it might be told
pub record OwnerOn (owner later : Owner) : Type 0 where
  pub known : (answer : Answer) → is_known owner answer ≡ true → is_known later answer ≡ true

-- of the client that is answered the line rises
abbrev pub IsAnsweredBy : ℕ → Act → Type 0
IsAnsweredBy client (acts.Answer who line said) = who.0 ≡ client
IsAnsweredBy client act = ⊥

abbrev pub KeepsOwner : Act → BookValue → BookValue → Type 0
KeepsOwner act book new = (client : ℕ) (owner : Owner) → slice_get book.owners client ≡ Some owner → (later : Owner) × (slice_get new.owners client ≡ Some later) × (OwnerOn owner later × ((IsAnsweredBy client act → ⊥) → later.line ≡ owner.line))

owner_self : (act : Act) (book new : BookValue) → new.owners ≡ book.owners → KeepsOwner act book new
owner_self act book new same client owner is = (owner, ap (λ (os : List Owner). slice_get os client) same ∙ is, (record { known = λ answer e. e }, λ none. refl))

-- what a client may be told is in its causes and its commit alone
known_by : (a b : Owner) → b.committed ≡ a.committed → b.causes ≡ a.causes → (said : Answer) → is_known a said ≡ true → is_known b said ≡ true
known_by a b committed causes answers.Committed h = committed ∙ h
known_by a b committed causes (answers.Aborted c) h = ap (λ cs. list_any (same_cause c) cs) causes ∙ h
known_by a b committed causes answers.Done h = refl
known_by a b committed causes (answers.Value text) h = refl
known_by a b committed causes (answers.Left ticks) h = refl
known_by a b committed causes (answers.Names list) h = refl
known_by a b committed causes (answers.Notes list) h = refl
known_by a b committed causes (answers.Busy holder) h = refl
known_by a b committed causes answers.Absent h = refl
known_by a b committed causes answers.TooMany h = refl
known_by a b committed causes answers.TooLong h = refl
known_by a b committed causes answers.Ended h = refl
known_by a b committed causes answers.NotYours h = refl
known_by a b committed causes answers.NotBegun h = refl
known_by a b committed causes (answers.LogFull need room) h = refl

-- one owner is changed, who may be told what he might be told
owner_changed : (act : Act) (c : ℕ) (f : Owner → Owner) → ((owner : Owner) → OwnerOn owner (f owner) × ((IsAnsweredBy c act → ⊥) → (f owner).line ≡ owner.line)) → (book new : BookValue) → new.owners ≡ changed_at c f book.owners → KeepsOwner act book new
owner_changed act c f each book new same client owner is = by (slice_get book.owners c) refl
  where
    abbrev_there : slice_get new.owners client ≡ slice_get (changed_at c f book.owners) client
    abbrev_there = ap (λ (os : List Owner). slice_get os client) same

    at : (v : Owner) → ((client ≡ c) × (slice_get book.owners client ≡ Some v) × (slice_get (changed_at c f book.owners) client ≡ Some (f v))) ⊎ (slice_get (changed_at c f book.owners) client ≡ slice_get book.owners client)
        → (later : Owner) × (slice_get new.owners client ≡ Some later) × (OwnerOn owner later × ((IsAnsweredBy client act → ⊥) → later.line ≡ owner.line))
    at v (inr e) = (owner, abbrev_there ∙ (e ∙ is), (record { known = λ answer k. k }, λ none. refl))
    at v (inl (own, was, now)) =
        let e : v ≡ owner = some_same (sym was ∙ is) in
        (f v, abbrev_there ∙ now, subst (λ (o : Owner). OwnerOn o (f v) × ((IsAnsweredBy client act → ⊥) → (f v).line ≡ o.line)) e (subst (λ (n : ℕ). OwnerOn v (f v) × ((IsAnsweredBy n act → ⊥) → (f v).line ≡ v.line)) (sym own) (each v)))

    by : (o : Option Owner) → slice_get book.owners c ≡ o → (later : Owner) × (slice_get new.owners client ≡ Some later) × (OwnerOn owner later × ((IsAnsweredBy client act → ⊥) → later.line ≡ owner.line))
    by None none = (owner, abbrev_there ∙ (ap (λ (os : List Owner). slice_get os client) (unchanged none) ∙ is), (record { known = λ answer k. k }, λ n. refl))
      where
        unchanged : slice_get book.owners c ≡ None → changed_at c f book.owners ≡ book.owners
        unchanged h = subst (λ (o : Option Owner). (elim o [ None ↦ book.owners | Some x ↦ slice_set book.owners c (f x) ]) ≡ book.owners) (sym h) refl
    by (Some v) found = at v (changed_at_either f book.owners c client v found)

heard_owners : (asks : List Asking) (book : BookValue) → (fold hear book asks).owners ≡ book.owners
heard_owners [] book = refl
heard_owners (ask ∷ asks) book = heard_owners asks (hear book ask)

pub owners_keep : (stamp here : ℕ) (act : Act) → IsOfStep act → (book : BookValue) → KeepsOwner act book (effect_act stamp here act book)
owners_keep stamp here (acts.Restart inc pend done) of_step book = absurd of_step
owners_keep stamp here (acts.Issue tid issuer member number op) of_step book = by (is_client_no issuer.server.0) refl
  where
    key : RequestNo
    key = record { link = link_to here member; number = number }

    one : BookValue
    one = with_transaction tid (issued key (record { issuer = issuer; member = member; op = op; inc = inc_at book (record { 0 = here }); served = false }) (inc_at book member.node) book.place) book

    owners_are : (effect_act stamp here (acts.Issue tid issuer member number op) book).owners ≡ (with_waiting tid issuer member one).owners
    owners_are = crossing_owners (crosses (find_transaction book tid) key member) tid member (with_waiting tid issuer member one)

    f : Owner → Owner
    f owner = record owner { waiting = owner.waiting ++ record { tid = tid; node = member.node } ∷ [] }

    by : (b : Bool) → is_client_no issuer.server.0 ≡ b → KeepsOwner (acts.Issue tid issuer member number op) book (effect_act stamp here (acts.Issue tid issuer member number op) book)
    by true is = owner_changed (acts.Issue tid issuer member number op) (issuer.server.0 - 32) f (λ owner. (record { known = λ answer k. known_by owner (f owner) refl refl answer k }, λ none. refl)) book (effect_act stamp here (acts.Issue tid issuer member number op) book)
        (owners_are ∙ ap (λ (b : Bool). (if b then with_owner (issuer.server.0 - 32) f one else one).owners) is)
    by false is = owner_self (acts.Issue tid issuer member number op) book (effect_act stamp here (acts.Issue tid issuer member number op) book) (owners_are ∙ ap (λ (b : Bool). (if b then with_owner (issuer.server.0 - 32) f one else one).owners) is)
owners_keep stamp here (acts.Decide tid outcome cause) of_step book = λ client owner is.
    let p = told_still (owner_of (find_transaction book tid)) outcome cause book.owners client owner is in
    (p.0, p.1, by owner p.0 p.2)
  where
    line_still : (outcome : Outcome) (cause : Option Cause) (owner : Owner) → (told outcome cause owner).line ≡ owner.line
    line_still outcomes.Commit cause owner = refl
    line_still outcomes.Abort None owner = refl
    line_still outcomes.Abort (Some cause) owner = refl

    by : (owner later : Owner) → (later ≡ owner) ⊎ (later ≡ told outcome cause owner) → OwnerOn owner later × ((⊥ → ⊥) → later.line ≡ owner.line)
    by owner later (inl same) = subst (λ (o : Owner). OwnerOn owner o × ((⊥ → ⊥) → o.line ≡ owner.line)) (sym same) (record { known = λ answer k. k }, λ none. refl)
    by owner later (inr more) = subst (λ (o : Owner). OwnerOn owner o × ((⊥ → ⊥) → o.line ≡ owner.line)) (sym more) (record { known = λ answer k. known_still outcome cause owner answer k }, λ none. line_still outcome cause owner)
owners_keep stamp here (acts.Answer who line said) of_step book =
    owner_changed (acts.Answer who line said) who.0 f (λ owner. (record { known = λ answer k. known_by owner (f owner) refl refl answer k }, λ none. absurd (none refl))) book (effect_act stamp here (acts.Answer who line said) book)
    (heard_owners (waiting_of (slice_get book.owners who.0)) (with_owner who.0 f book))
  where
    f : Owner → Owner
    f owner = record owner { line = line; waiting = [] }
owners_keep stamp here (acts.Begin tid label client) of_step book = owner_self (acts.Begin tid label client) book (effect_act stamp here (acts.Begin tid label client) book) refl
owners_keep stamp here (acts.Serve tid member from number reply) of_step book = owner_self (acts.Serve tid member from number reply) book (effect_act stamp here (acts.Serve tid member from number reply) book) refl
owners_keep stamp here (acts.Vote tid member ballot covers) of_step book = owner_self (acts.Vote tid member ballot covers) book (effect_act stamp here (acts.Vote tid member ballot covers) book) refl
owners_keep stamp here (acts.Ask tid) of_step book = owner_self (acts.Ask tid) book (effect_act stamp here (acts.Ask tid) book) refl
owners_keep stamp here (acts.Counted tid peer up_to) of_step book = owner_self (acts.Counted tid peer up_to) book (effect_act stamp here (acts.Counted tid peer up_to) book) refl
owners_keep stamp here (acts.Ending tid member) of_step book = owner_self (acts.Ending tid member) book (effect_act stamp here (acts.Ending tid member) book) refl
owners_keep stamp here (acts.Learn tid member outcome) of_step book = owner_self (acts.Learn tid member outcome) book (effect_act stamp here (acts.Learn tid member outcome) book) refl
owners_keep stamp here (acts.Loan tid client) of_step book = owner_self (acts.Loan tid client) book (effect_act stamp here (acts.Loan tid client) book) (by (borrower_at client here))
  where
    by : (o : Option Member) → (loan_to (inc_at book (record { 0 = here })) tid o book).owners ≡ book.owners
    by None = refl
    by (Some member) = refl
owners_keep stamp here (acts.Yield tid client) of_step book = owner_self (acts.Yield tid client) book (effect_act stamp here (acts.Yield tid client) book) (by (borrower_at client here))
  where
    by : (o : Option Member) → (give_back_from (inc_at book (record { 0 = here })) tid o book).owners ≡ book.owners
    by None = refl
    by (Some member) = refl
owners_keep stamp here acts.Tick of_step book = owner_self acts.Tick book (effect_act stamp here acts.Tick book) refl
owners_keep stamp here (acts.Crash cause) of_step book = owner_self (acts.Crash cause) book (effect_act stamp here (acts.Crash cause) book) refl
