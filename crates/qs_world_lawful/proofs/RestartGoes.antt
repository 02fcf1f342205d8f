-- What a restart leaves of each transaction of the machine, and what it changes: members of its node learn commit, its votes are found, and
-- what is open at its home is decided.
use Rattle.qs_world_lawful.proofs.Words.{◌≡◌, ◌⊎◌, inl, inr, ℕ, ◌==◌, ◌&&◌, Bool, true, false, List, [], ◌∷◌, Option, Some, None, fold, refl, sym, ap, subst, ◌∙◌, if◌then◌else◌, is_some, list_all, lookup, insert_entry, is_at, tid_cmp, Ordering, Less, Equal, Greater, Class, Member, Outcome, Tid, Found, changed_apart, changed_none, lookup_changed, BookValue, find_transaction, with_transaction, is_recoverable, abort_begun, begun_tid, commit_found, count_of, is_among, is_open_here, learn_found}
use Rattle.qs_world_lawful.proofs.Words.{member_at, record_at, vote_found, class_of, TransactionValue, agrees, decided_at, found_at, has_learnt, is_open, life, with_learnt, Life, Part, Cause, Every, eqb-self, and_last, and_parts}
use Rattle.qs_base.specs.declared.identifiers.Class.TheVariants as classes
use Rattle.qs_base.specs.declared.identifiers.Outcome.TheVariants as outcomes
use Rattle.qs_book_machine.specs.Book.{decide}
use Rattle.qs_book_machine.specs.Transaction.{agrees_in, part_of}
use Rattle.qs_book_machine.specs.Transaction as transaction
use Rattle.qs_ops.specs.Servers.{audit_no, extra_no, files_no}
use Rattle.qs_world_lawful.proofs.Apart.{Apart, same_or_apart}
use Rattle.qs_world_lawful.proofs.LearntOn.{more_learnt}
use Rattle.qs_world_lawful.proofs.Parts.{LivesApart, put_part_apart}
use Rattle.qs_world_lawful.proofs.Keys.{same_key_or, life_exact, life_itself}

-- a member that the restart found no vote of, by its place alone
abbrev pub IsElsewhere : ℕ → ℕ → Member → ℕ → Type 0
IsElsewhere here inc member i = ((member.node.0 == here) && ((i == inc) && is_recoverable member.server.0)) ≡ false

-- a part that agrees is put in among parts that do
agree_put : (l : Life) (part : Part) → agrees_in (class_of l.member.server.0) part ≡ true → (parts : List (Life × Part)) → list_all agrees parts ≡ true → list_all agrees (insert_entry transaction.life_cmp parts l part) ≡ true
agree_put l part own [] all = rw own refl
agree_put l part own (e ∷ parts) all = by (transaction.life_cmp l e.0) refl (agree_put l part own parts (and_parts (agrees e) _ all).1)
  where
    same : transaction.life_cmp l e.0 ≡ Equal → agrees_in (class_of e.0.member.server.0) part ≡ true
    same is = subst (λ (x : Life). agrees_in (class_of x.member.server.0) part ≡ true) (life_exact l e.0 (rw is refl)) own

    by : (o : Ordering) → transaction.life_cmp l e.0 ≡ o → list_all agrees (insert_entry transaction.life_cmp parts l part) ≡ true → list_all agrees (insert_entry transaction.life_cmp (e ∷ parts) l part) ≡ true
    by Less is more = rw (is, own) all
    by Equal is more = rw (is, same is) (and_parts (agrees e) _ all).1
    by Greater is more = rw (is, (and_parts (agrees e) _ all).0) more

agrees_found : (c : Class) (covers changes : ℕ) → agrees_in c (transaction.found_part covers changes) ≡ true
agrees_found classes.Recoverable covers changes = refl
agrees_found classes.Volatile covers changes = refl
agrees_found classes.Activity covers changes = refl
agrees_found classes.Standard covers changes = refl
agrees_found classes.Delayed covers changes = refl
agrees_found classes.Immediate covers changes = refl

pub record Goes (here : ℕ) (P : Member → ℕ → Type 0) (place : ℕ) (tid : Tid) (tx later : TransactionValue) : Type 0 where
  pub requests : later.requests ≡ tx.requests
  pub sent : later.sent ≡ tx.sent
  pub noted : later.noted ≡ tx.noted
  pub crossed : later.crossed ≡ tx.crossed
  pub asked : later.asked ≡ tx.asked
  pub owner : later.owner ≡ tx.owner
  pub starts : later.starts ≡ tx.starts
  pub refusals : later.refusals ≡ tx.refusals
  pub agree : list_all agrees tx.parts ≡ true → list_all agrees later.parts ≡ true
  pub when : ((later.cell ≡ tx.cell) × (later.decided ≡ tx.decided)) ⊎ ((is_open tx.cell ≡ true) × (later.decided ≡ Some place))
  pub parts : (member : Member) (i : ℕ) → P member i → part_of later member i ≡ part_of tx member i
  pub decided : is_open tx.cell ≡ false → later.cell ≡ tx.cell
  pub away : (tid.home.0 == here) ≡ false → later.cell ≡ tx.cell
  pub learnt : (member : Member) → has_learnt tx member ≡ true → has_learnt later member ≡ true

pub goes_self : (here : ℕ) (P : Member → ℕ → Type 0) (place : ℕ) (tid : Tid) (tx : TransactionValue) → Goes here P place tid tx tx
goes_self here P place tid tx = record { requests = refl; sent = refl; noted = refl; crossed = refl; asked = refl; owner = refl; starts = refl; refusals = refl; agree = λ all. all; when = inl (refl, refl); parts = λ member i far. refl; decided = λ shut. refl; away = λ far. refl; learnt = λ member is. is }

pub goes_then : (here : ℕ) (P : Member → ℕ → Type 0) (place : ℕ) (tid : Tid) (tx mid later : TransactionValue) → Goes here P place tid tx mid → Goes here P place tid mid later → Goes here P place tid tx later
goes_then here P place tid tx mid later a b = record {
  requests = b.requests ∙ a.requests;
  sent = b.sent ∙ a.sent;
  noted = b.noted ∙ a.noted;
  crossed = b.crossed ∙ a.crossed;
  asked = b.asked ∙ a.asked;
  owner = b.owner ∙ a.owner;
  starts = b.starts ∙ a.starts;
  refusals = b.refusals ∙ a.refusals;
  agree = λ all. b.agree (a.agree all);
  when = of a.when b.when;
  parts = λ member i far. b.parts member i far ∙ a.parts member i far;
  decided = λ shut. b.decided (ap is_open (a.decided shut) ∙ shut) ∙ a.decided shut;
  away = λ far. b.away far ∙ a.away far;
  learnt = λ member is. b.learnt member (a.learnt member is);
}
  where
    of : ((mid.cell ≡ tx.cell) × (mid.decided ≡ tx.decided)) ⊎ ((is_open tx.cell ≡ true) × (mid.decided ≡ Some place)) → ((later.cell ≡ mid.cell) × (later.decided ≡ mid.decided)) ⊎ ((is_open mid.cell ≡ true) × (later.decided ≡ Some place))
        → ((later.cell ≡ tx.cell) × (later.decided ≡ tx.decided)) ⊎ ((is_open tx.cell ≡ true) × (later.decided ≡ Some place))
    of (inl p) (inl q) = inl (q.0 ∙ p.0, q.1 ∙ p.1)
    of (inl p) (inr q) = inr (ap is_open (sym p.0) ∙ q.0, q.1)
    of (inr p) (inl q) = inr (p.0, q.1 ∙ p.1)
    of (inr p) (inr q) = inr (p.0, q.1)

goes_learnt : (here : ℕ) (P : Member → ℕ → Type 0) (place : ℕ) (tid : Tid) (m : Member) (tx : TransactionValue) → Goes here P place tid tx (with_learnt m tx)
goes_learnt here P place tid m tx = record { requests = refl; sent = refl; noted = refl; crossed = refl; asked = refl; owner = refl; starts = refl; refusals = refl; agree = λ all. all; when = inl (refl, refl); parts = λ member i far. refl; decided = λ shut. refl; away = λ far. refl; learnt = λ member is. more_learnt m tx member is }

goes_decided : (here : ℕ) (P : Member → ℕ → Type 0) (tid : Tid) (place : ℕ) (outcome : Outcome) (cause : Option Cause) (tx : TransactionValue) → ((tid.home.0 == here) && is_open tx.cell) ≡ true → Goes here P place tid tx (decided_at place outcome cause tx)
goes_decided here P tid place outcome cause tx is = record {
  requests = refl;
  sent = refl;
  noted = refl;
  crossed = refl;
  asked = refl;
  owner = refl;
  starts = refl;
  refusals = refl;
  agree = λ all. all;
  when = inr (and_last (tid.home.0 == here) (is_open tx.cell) is, refl);
  parts = λ member i far. refl;
  decided = λ shut. absurd (clash (tid.home.0 == here) (is_open tx.cell) is (inr shut));
  away = λ far. absurd (clash (tid.home.0 == here) (is_open tx.cell) is (inl far));
  learnt = λ member is. is;
}
  where
    clash : (a b : Bool) → (a && b) ≡ true → (a ≡ false) ⊎ (b ≡ false) → ⊥
    clash true true e (inl f) = cc f
    clash true true e (inr f) = cc f
    clash true false e f = cc e
    clash false b e f = cc e

goes_found : (here : ℕ) (P : Member → ℕ → Type 0) (inc place : ℕ) → ((member : Member) (i : ℕ) → P member i → IsElsewhere here inc member i) → (tid : Tid) (server covers changes : ℕ) → is_recoverable server ≡ true → (tx : TransactionValue) → Goes here P place tid tx (found_at (member_at here server) inc covers changes tx)
goes_found here P inc place apart tid server covers changes kept tx = record { requests = refl; sent = refl; noted = refl; crossed = refl; asked = refl; owner = refl; starts = refl; refusals = refl; agree = agree_put (life (member_at here server) inc) (transaction.found_part covers changes) (agrees_found (class_of server) covers changes) tx.parts; when = inl (refl, refl); parts = λ member i far. part member i (apart member i far); decided = λ shut. refl; away = λ far. refl; learnt = λ member is. is }
  where
    part : (member : Member) (i : ℕ) → IsElsewhere here inc member i → part_of (found_at (member_at here server) inc covers changes tx) member i ≡ part_of tx member i
    part member i far = by (same_key_or transaction.life_cmp life_exact life_itself (life (member_at here server) inc) (life member i))
      where
        clash : life (member_at here server) inc ≡ life member i → ⊥
        clash same = cc (sym far ∙ at)
          where
            node : member.node.0 ≡ here
            node = sym (ap (λ (l : Life). l.member.node.0) same)

            number : member.server.0 ≡ server
            number = sym (ap (λ (l : Life). l.member.server.0) same)

            number_of : i ≡ inc
            number_of = sym (ap (λ (l : Life). l.inc) same)

            at : ((member.node.0 == here) && ((i == inc) && is_recoverable member.server.0)) ≡ true
            at = rw (node, number_of, number, eqb-self here, eqb-self inc) kept

        by : (life (member_at here server) inc ≡ life member i) ⊎ LivesApart (life (member_at here server) inc) (life member i) → part_of (found_at (member_at here server) inc covers changes tx) member i ≡ part_of tx member i
        by (inl same) = absurd (clash same)
        by (inr is) = put_part_apart (life (member_at here server) inc) (transaction.found_part covers changes) tx.parts member i is

-- ---- the machine goes on

pub record Onward (here : ℕ) (P : Member → ℕ → Type 0) (old new : BookValue) : Type 0 where
  pub nodes : new.nodes ≡ old.nodes
  pub place : new.place ≡ old.place
  pub none : (tid : Tid) → find_transaction old tid ≡ None → find_transaction new tid ≡ None
  pub goes : (tid : Tid) (tx : TransactionValue) → find_transaction old tid ≡ Some tx → (later : TransactionValue) × (find_transaction new tid ≡ Some later) × Goes here P old.place tid tx later

pub on_self : (here : ℕ) (P : Member → ℕ → Type 0) (book : BookValue) → Onward here P book book
on_self here P book = record { nodes = refl; place = refl; none = λ tid is. is; goes = λ tid tx found. (tx, found, goes_self here P book.place tid tx) }

pub on_then : (here : ℕ) (P : Member → ℕ → Type 0) (old mid new : BookValue) → Onward here P old mid → Onward here P mid new → Onward here P old new
on_then here P old mid new a b = record {
  nodes = b.nodes ∙ a.nodes;
  place = b.place ∙ a.place;
  none = λ tid is. b.none tid (a.none tid is);
  goes = λ tid tx found.
      let p = a.goes tid tx found in
      let q = b.goes tid p.0 p.1 in
      (q.0, q.1, goes_then here P old.place tid tx p.0 q.0 p.2 (subst (λ (k : ℕ). Goes here P k tid p.0 q.0) a.place q.2));
}

pub on_if : (b : Bool) (here : ℕ) (P : Member → ℕ → Type 0) (old x y : BookValue) → (b ≡ true → Onward here P old x) → Onward here P old y → Onward here P old (if b then x else y)
on_if true here P old x y p q = p refl
on_if false here P old x y p q = q

pub on_fold : {A : Type 0} (here : ℕ) (P : Member → ℕ → Type 0) (Q : A → Type 0) (f : BookValue → A → BookValue) → ((book : BookValue) (x : A) → Q x → Onward here P book (f book x)) → (xs : List A) → Every Q xs → (book : BookValue) → Onward here P book (fold f book xs)
on_fold here P Q f each [] all book = on_self here P book
on_fold here P Q f each (x ∷ xs) all book = on_then here P book (f book x) (fold f (f book x) xs) (each book x all.0) (on_fold here P Q f each xs all.1 (f book x))

on_changed : (here : ℕ) (P : Member → ℕ → Type 0) (t : Tid) (f : TransactionValue → TransactionValue) (book new : BookValue) → new.nodes ≡ book.nodes → new.place ≡ book.place → new.transactions ≡ transaction.changed_value (is_at (tid_cmp t)) f book.transactions
    → ((tx : TransactionValue) → find_transaction book t ≡ Some tx → Goes here P book.place t tx (f tx)) → Onward here P book new
on_changed here P t f book new nodes place txs each = record { nodes = nodes; place = place; none = none; goes = goes }
  where
    there : (tid : Tid) → find_transaction new tid ≡ lookup (is_at (tid_cmp tid)) (transaction.changed_value (is_at (tid_cmp t)) f book.transactions)
    there tid = ap (λ (es : List (Tid × TransactionValue)). lookup (is_at (tid_cmp tid)) es) txs

    none : (tid : Tid) → find_transaction book tid ≡ None → find_transaction new tid ≡ None
    none tid is = there tid ∙ by (same_or_apart t tid)
      where
        by : (t ≡ tid) ⊎ Apart t tid → lookup (is_at (tid_cmp tid)) (transaction.changed_value (is_at (tid_cmp t)) f book.transactions) ≡ None
        by (inl same) = subst (λ (u : Tid). lookup (is_at (tid_cmp tid)) (transaction.changed_value (is_at (tid_cmp u)) f book.transactions) ≡ None) (sym same) (changed_none (is_at (tid_cmp tid)) f book.transactions is)
        by (inr far) = changed_apart (is_at (tid_cmp t)) (is_at (tid_cmp tid)) far.keys f book.transactions ∙ is

    goes : (tid : Tid) (tx : TransactionValue) → find_transaction book tid ≡ Some tx → (later : TransactionValue) × (find_transaction new tid ≡ Some later) × Goes here P book.place tid tx later
    goes tid tx found = by (same_or_apart t tid)
      where
        own : (u : Tid) → u ≡ tid → ((tx : TransactionValue) → find_transaction book u ≡ Some tx → Goes here P book.place u tx (f tx)) → lookup (is_at (tid_cmp tid)) (transaction.changed_value (is_at (tid_cmp u)) f book.transactions) ≡ Some (f tx)
        own u same _ = subst (λ (x : Tid). lookup (is_at (tid_cmp tid)) (transaction.changed_value (is_at (tid_cmp x)) f book.transactions) ≡ Some (f tx)) (sym same) (lookup_changed (is_at (tid_cmp tid)) f book.transactions tx found)

        by : (t ≡ tid) ⊎ Apart t tid → (later : TransactionValue) × (find_transaction new tid ≡ Some later) × Goes here P book.place tid tx later
        by (inl same) = (f tx, there tid ∙ own t same each, subst (λ (u : Tid). Goes here P book.place u tx (f tx)) same (each tx (ap (find_transaction book) same ∙ found)))
        by (inr far) = (tx, there tid ∙ (changed_apart (is_at (tid_cmp t)) (is_at (tid_cmp tid)) far.keys f book.transactions ∙ found), goes_self here P book.place tid tx)

-- ---- each step of it

module _ (here : ℕ) (P : Member → ℕ → Type 0) where
  pub learn_on : (tid : Tid) (server : ℕ) (book : BookValue) → Onward here P book (learn_found here tid server book)
  learn_on tid server book = on_if (is_some (record_at here book tid server)) here P book (with_transaction tid (with_learnt (member_at here server)) book) book
      (λ is. on_changed here P tid (with_learnt (member_at here server)) book _ refl refl refl (λ tx found. goes_learnt here P book.place tid (member_at here server) tx)) (on_self here P book)

  pub decide_on : (tid : Tid) (outcome : Outcome) (cause : Option Cause) (book : BookValue) → is_open_here here tid (find_transaction book tid) ≡ true → Onward here P book (decide tid outcome cause book)
  decide_on tid outcome cause book is = on_changed here P tid (decided_at book.place outcome cause) book (decide tid outcome cause book) refl refl refl
      (λ tx found. goes_decided here P tid book.place outcome cause tx (subst (λ (o : Option TransactionValue). is_open_here here tid o ≡ true) found is))

  pub commit_on : (book : BookValue) (tid : Tid) → Onward here P book (commit_found here book tid)
  commit_on book tid =
      let a = learn_found here tid files_no book in
      let b = learn_found here tid audit_no a in
      let c = learn_found here tid extra_no b in
      on_then here P book a (commit_found here book tid) (learn_on tid files_no book)
      (on_then here P a b (commit_found here book tid) (learn_on tid audit_no a)
      (on_then here P b c (commit_found here book tid) (learn_on tid extra_no b)
      (on_if (is_open_here here tid (find_transaction c tid)) here P c (decide tid outcomes.Commit None c) c (decide_on tid outcomes.Commit None c) (on_self here P c))))

  pub vote_on : (inc : ℕ) → ((member : Member) (i : ℕ) → P member i → IsElsewhere here inc member i) → (done : List Tid) (book : BookValue) (found : Found) → is_recoverable found.server.0 ≡ true → Onward here P book (vote_found here inc done book found)
  vote_on inc apart done book found kept = by (is_among done found.tid)
    where
      by : (b : Bool) → Onward here P book (if b then book else with_transaction found.tid (found_at (member_at here found.server.0) inc found.covers (count_of (record_at here book found.tid found.server.0))) book)
      by true = on_self here P book
      by false = on_changed here P found.tid _ book _ refl refl refl (λ tx is. goes_found here P inc book.place apart found.tid found.server.0 found.covers (count_of (record_at here book found.tid found.server.0)) kept tx)

  pub abort_on : (old_inc : ℕ) (book : BookValue) (seq : ℕ) → Onward here P book (abort_begun here old_inc book seq)
  abort_on old_inc book seq = on_if (is_open_here here (begun_tid here old_inc seq) (find_transaction book (begun_tid here old_inc seq))) here P book _ book (decide_on (begun_tid here old_inc seq) outcomes.Abort _ book) (on_self here P book)
