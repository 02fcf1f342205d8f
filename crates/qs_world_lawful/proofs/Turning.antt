-- What one entry makes of each transaction of the machine: at most one request is new or served, at one member, and all that other nodes
-- did, or this one did in other incarnations, is left.
use Rattle.qs_world_lawful.proofs.Words.{◌≡◌, ◌⊎◌, inl, inr, ℕ, ◌==◌, ◌&&◌, Bool, true, false, List, [], ◌∷◌, ◌++◌, Option, Some, None, fold, refl, sym, ap, subst, ◌∙◌, list_any, lookup, insert_entry, is_at, tid_cmp, Member, NodeNo, Tid, changed_apart, changed_none, lookup_changed, BookValue, find_transaction, TransactionValue, changed_value, crossed_by, has_learnt, has_note, is_commit, is_open, is_start, mark_served, request_cmp, requests_at, sent_in, sent_on, standing_request, Link, Request}
use Rattle.qs_world_lawful.proofs.Words.{RequestNo, has_issued}
use Rattle.qs_book_machine.specs.Clauses.{is_for}
use Rattle.qs_book_machine.specs.Transaction.{part_of}
use Rattle.qs_world_lawful.proofs.Apart.{Apart, same_or_apart}
use Rattle.qs_world_lawful.proofs.RestartGoes.{Goes, IsElsewhere, goes_self}

-- ---- requests

-- none is new, and none is served
pub record Leaves (tx later : TransactionValue) : Type 0 where
  pub requests : later.requests ≡ tx.requests
  pub crossed : later.crossed ≡ tx.crossed

-- the node issues one, in that incarnation
pub record Issues (here now place : ℕ) (tx later : TransactionValue) : Type 0 where
  pub at : RequestNo
  pub request : Request
  pub from : at.link.from.0 ≡ here
  pub to : at.link.to ≡ request.member.node
  pub issuer : request.issuer.node.0 ≡ here
  pub inc : request.inc ≡ now
  pub unserved : request.served ≡ false
  pub fits : is_for request.op request.member ≡ true
  pub undone : is_commit tx.cell ≡ false
  pub cell : later.cell ≡ tx.cell
  pub requests : later.requests ≡ insert_entry request_cmp tx.requests at (requests_at tx at ++ request ∷ [])
  pub crossed : later.crossed ≡ crossed_by (standing_request tx at request.member) place request.member tx.crossed

-- a member of the node serves one
pub record Serves (here : ℕ) (tx later : TransactionValue) : Type 0 where
  pub at : RequestNo
  pub member : Member
  pub own : member.node.0 ≡ here
  pub to : at.link.to ≡ member.node
  pub requests : later.requests ≡ changed_value (is_at (request_cmp at)) (mark_served member) tx.requests
  pub crossed : later.crossed ≡ tx.crossed

-- ---- the whole

-- another node, or another incarnation
abbrev pub IsFar : ℕ → ℕ → NodeNo → ℕ → Type 0
IsFar here now node i = ((node.0 == here) && (i == now)) ≡ false

pub record Turns (here now place : ℕ) (tid : Tid) (tx later : TransactionValue) : Type 0 where
  pub requests : Leaves tx later ⊎ (Issues here now place tx later ⊎ Serves here tx later)
  pub sent : (link : Link) (i : ℕ) → IsFar here now link.from i → (sent_in i (sent_on later link) ≡ sent_in i (sent_on tx link)) ⊎ (((link.from.0 == here) ≡ true) × (sent_in i (sent_on later link) ≡ 0))
  pub issued : (node : NodeNo) (i : ℕ) (text : List ℕ) → IsFar here now node i → has_issued later node i text ≡ has_issued tx node i text
  pub noted : (node : NodeNo) (i : ℕ) (text : List ℕ) → has_note later (record { node = node; inc = i; text = text }) ≡ true → (has_note tx (record { node = node; inc = i; text = text }) ≡ true) ⊎ (has_issued tx node i text ≡ true)
  pub asked : (later.asked ≡ tx.asked) ⊎ (((tid.home.0 == here) ≡ true) × ((tx.asked ≡ None) × (later.asked ≡ Some place)))
  pub owner : later.owner ≡ tx.owner
  pub when : ((later.cell ≡ tx.cell) × (later.decided ≡ tx.decided)) ⊎ ((is_open tx.cell ≡ true) × (later.decided ≡ Some place))
  pub decided : is_open tx.cell ≡ false → later.cell ≡ tx.cell
  pub away : (tid.home.0 == here) ≡ false → later.cell ≡ tx.cell
  pub parts : (member : Member) (i : ℕ) → IsFar here now member.node i → part_of later member i ≡ part_of tx member i
  pub starts : (member : Member) (i served covers : ℕ) → IsFar here now member.node i → list_any (is_start member i served covers) later.starts ≡ list_any (is_start member i served covers) tx.starts
  pub learnt : (member : Member) → has_learnt tx member ≡ true → has_learnt later member ≡ true

-- a change that leaves all but what a restart changes
pub turns_quiet : (here now place : ℕ) (tid : Tid) (tx later : TransactionValue) → Goes here (IsElsewhere here now) place tid tx later → Turns here now place tid tx later
turns_quiet here now place tid tx later g = record {
  requests = inl (record { requests = g.requests; crossed = g.crossed });
  sent = λ link i far. inl (ap (λ sent. sent_in i (sent_on (record tx { sent = sent }) link)) g.sent);
  issued = λ node i text far. ap (λ rs. has_issued (record tx { requests = rs }) node i text) g.requests;
  noted = λ node i text is. inl (ap (λ noted. has_note (record tx { noted = noted }) (record { node = node; inc = i; text = text })) (sym g.noted) ∙ is);
  asked = inl g.asked;
  owner = g.owner;
  when = g.when;
  decided = g.decided;
  away = g.away;
  parts = λ member i far. g.parts member i (elsewhere (member.node.0 == here) (i == now) _ far);
  starts = λ member i served covers far. ap (list_any (is_start member i served covers)) g.starts;
  learnt = g.learnt;
}
  where
    elsewhere : (a b c : Bool) → (a && b) ≡ false → (a && (b && c)) ≡ false
    elsewhere true true c is = absurd (cc is)
    elsewhere true false c is = refl
    elsewhere false b c is = refl

-- ---- the machine before and after

pub record Turned (R : Tid → TransactionValue → TransactionValue → Type 0) (old new : BookValue) : Type 0 where
  pub none : (tid : Tid) → find_transaction old tid ≡ None → find_transaction new tid ≡ None
  pub goes : (tid : Tid) (tx : TransactionValue) → find_transaction old tid ≡ Some tx → (later : TransactionValue) × (find_transaction new tid ≡ Some later) × R tid tx later

pub some_of : {X : Type 0} {x y : X} → Some x ≡ Some y → x ≡ y
some_of e = cc e

module _ (R : Tid → TransactionValue → TransactionValue → Type 0) where
  -- what stands stood
  pub stood : (old new : BookValue) → Turned R old new → (tid : Tid) (later : TransactionValue) → find_transaction new tid ≡ Some later → (tx : TransactionValue) × (find_transaction old tid ≡ Some tx) × R tid tx later
  stood old new t tid later found = by (find_transaction old tid) refl
    where
      by : (o : Option TransactionValue) → find_transaction old tid ≡ o → (tx : TransactionValue) × (find_transaction old tid ≡ Some tx) × R tid tx later
      by None is = absurd (cc (sym (t.none tid is) ∙ found))
      by (Some tx) is =
          let p = t.goes tid tx is in
          (tx, is, subst (λ (x : TransactionValue). R tid tx x) (some_of (sym p.1 ∙ found)) p.2)

  pub turned_same : ((tid : Tid) (tx : TransactionValue) → R tid tx tx) → (old new : BookValue) → new.transactions ≡ old.transactions → Turned R old new
  turned_same self old new same = record {
    none = λ tid is. there tid ∙ is;
    goes = λ tid tx found. (tx, there tid ∙ found, self tid tx);
  }
    where
      there : (tid : Tid) → find_transaction new tid ≡ find_transaction old tid
      there tid = ap (λ (es : List (Tid × TransactionValue)). lookup (is_at (tid_cmp tid)) es) same

  -- one transaction is changed
  pub turned_by : ((tid : Tid) (tx : TransactionValue) → R tid tx tx) → (t : Tid) (f : TransactionValue → TransactionValue) (book new : BookValue) → new.transactions ≡ changed_value (is_at (tid_cmp t)) f book.transactions
      → ((tx : TransactionValue) → find_transaction book t ≡ Some tx → R t tx (f tx)) → Turned R book new
  turned_by self t f book new txs each = record { none = none; goes = goes }
    where
      there : (tid : Tid) → find_transaction new tid ≡ lookup (is_at (tid_cmp tid)) (changed_value (is_at (tid_cmp t)) f book.transactions)
      there tid = ap (λ (es : List (Tid × TransactionValue)). lookup (is_at (tid_cmp tid)) es) txs

      none : (tid : Tid) → find_transaction book tid ≡ None → find_transaction new tid ≡ None
      none tid is = there tid ∙ by (same_or_apart t tid)
        where
          by : (t ≡ tid) ⊎ Apart t tid → lookup (is_at (tid_cmp tid)) (changed_value (is_at (tid_cmp t)) f book.transactions) ≡ None
          by (inl same) = subst (λ (u : Tid). lookup (is_at (tid_cmp tid)) (changed_value (is_at (tid_cmp u)) f book.transactions) ≡ None) (sym same) (changed_none (is_at (tid_cmp tid)) f book.transactions is)
          by (inr far) = changed_apart (is_at (tid_cmp t)) (is_at (tid_cmp tid)) far.keys f book.transactions ∙ is

      goes : (tid : Tid) (tx : TransactionValue) → find_transaction book tid ≡ Some tx → (later : TransactionValue) × (find_transaction new tid ≡ Some later) × R tid tx later
      goes tid tx found = by (same_or_apart t tid)
        where
          own : (u : Tid) → u ≡ tid → lookup (is_at (tid_cmp tid)) (changed_value (is_at (tid_cmp u)) f book.transactions) ≡ Some (f tx)
          own u same = subst (λ (x : Tid). lookup (is_at (tid_cmp tid)) (changed_value (is_at (tid_cmp x)) f book.transactions) ≡ Some (f tx)) (sym same) (lookup_changed (is_at (tid_cmp tid)) f book.transactions tx found)

          by : (t ≡ tid) ⊎ Apart t tid → (later : TransactionValue) × (find_transaction new tid ≡ Some later) × R tid tx later
          by (inl same) = (f tx, there tid ∙ own t same, subst (λ (u : Tid). R u tx (f tx)) same (each tx (ap (find_transaction book) same ∙ found)))
          by (inr far) = (tx, there tid ∙ (changed_apart (is_at (tid_cmp t)) (is_at (tid_cmp tid)) far.keys f book.transactions ∙ found), self tid tx)

  turned_self : ((tid : Tid) (tx : TransactionValue) → R tid tx tx) → (book : BookValue) → Turned R book book
  turned_self self book = turned_same self book book refl

  pub turned_then : ((tid : Tid) (tx mid later : TransactionValue) → R tid tx mid → R tid mid later → R tid tx later) → (old mid new : BookValue) → Turned R old mid → Turned R mid new → Turned R old new
  turned_then both old mid new a b = record {
    none = λ tid is. b.none tid (a.none tid is);
    goes = λ tid tx found.
        let p = a.goes tid tx found in
        let q = b.goes tid p.0 p.1 in
        (q.0, q.1, both tid tx p.0 q.0 p.2 q.2);
  }

  pub turned_fold : ((tid : Tid) (tx : TransactionValue) → R tid tx tx) → ((tid : Tid) (tx mid later : TransactionValue) → R tid tx mid → R tid mid later → R tid tx later) → {A : Type 0} (f : BookValue → A → BookValue)
      → ((book : BookValue) (x : A) → Turned R book (f book x)) → (xs : List A) (book : BookValue) → Turned R book (fold f book xs)
  turned_fold self both f each [] book = turned_self self book
  turned_fold self both f each (x ∷ xs) book = turned_then both book (f book x) (fold f (f book x) xs) (each book x) (turned_fold self both f each xs (f book x))

-- it turns more loosely
pub turned_as : (R S : Tid → TransactionValue → TransactionValue → Type 0) → ((tid : Tid) (tx later : TransactionValue) → R tid tx later → S tid tx later) → (old new : BookValue) → Turned R old new → Turned S old new
turned_as R S looser old new t = record {
  none = t.none;
  goes = λ tid tx found.
      let p = t.goes tid tx found in
      (p.0, p.1, looser tid tx p.0 p.2);
}

-- ---- a change that leaves requests

pub turns_self : (here now place : ℕ) (tid : Tid) (tx : TransactionValue) → Turns here now place tid tx tx
turns_self here now place tid tx = turns_quiet here now place tid tx tx (goes_self here (IsElsewhere here now) place tid tx)

pub record Plain (here now : ℕ) (tx later : TransactionValue) : Type 0 where
  pub requests : later.requests ≡ tx.requests
  pub crossed : later.crossed ≡ tx.crossed
  pub sent : (link : Link) (i : ℕ) → sent_in i (sent_on later link) ≡ sent_in i (sent_on tx link)
  pub noted : later.noted ≡ tx.noted
  pub asked : later.asked ≡ tx.asked
  pub owner : later.owner ≡ tx.owner
  pub cell : later.cell ≡ tx.cell
  pub decided : later.decided ≡ tx.decided
  pub parts : (member : Member) (i : ℕ) → IsFar here now member.node i → part_of later member i ≡ part_of tx member i
  pub starts : (member : Member) (i served covers : ℕ) → IsFar here now member.node i → list_any (is_start member i served covers) later.starts ≡ list_any (is_start member i served covers) tx.starts
  pub learnt : (member : Member) → has_learnt tx member ≡ true → has_learnt later member ≡ true

pub turns_plain : (here now place : ℕ) (tid : Tid) (tx later : TransactionValue) → Plain here now tx later → Turns here now place tid tx later
turns_plain here now place tid tx later p = record {
  requests = inl (record { requests = p.requests; crossed = p.crossed });
  sent = λ link i far. inl (p.sent link i);
  issued = λ node i text far. ap (λ rs. has_issued (record tx { requests = rs }) node i text) p.requests;
  noted = λ node i text is. inl (ap (λ noted. has_note (record tx { noted = noted }) (record { node = node; inc = i; text = text })) (sym p.noted) ∙ is);
  asked = inl p.asked;
  owner = p.owner;
  when = inl (p.cell, p.decided);
  decided = λ shut. p.cell;
  away = λ far. p.cell;
  parts = p.parts;
  starts = p.starts;
  learnt = p.learnt;
}
