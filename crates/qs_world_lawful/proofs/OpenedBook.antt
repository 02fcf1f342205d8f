-- What the machine opens with of each transaction that a log names: its outcome, and of each member what stands in doubt in its log.
use Rattle.qs_world_lawful.proofs.Words.{◌≡◌, ◌⊎◌, inl, inr, ℕ, ◌+◌, ◌<◌, ◌==◌, ◌&&◌, zero, suc, Bool, true, false, List, [], ◌∷◌, length, Option, Some, None, fold, refl, sym, ap, subst, ◌∙◌, arith, if◌then◌else◌, is_some, unwrap_or, nat_tests, nat_lt, slice_get, list_any, lookup, insert_entry, is_at, same_tid, tid_cmp, same_tid-self, Tid, at_exact, tid_itself, changed_apart, lookup_changed, lookup_put, lookup_put_apart, BookValue, find_transaction, has_commit, name_all, name_from, name_pending}
use Rattle.qs_world_lawful.proofs.Words.{name_transaction, opened_transaction, member_at, TransactionValue, found_at, found_part, life, no_part, Opened, Pending, Life, Part, and_false, eqb-self, eqb-true, eqb-false}
use Rattle.qs_book_machine.specs.Nodes as machine
use Rattle.qs_book_machine.specs.Transaction.{part_of}
use Rattle.qs_book_machine.specs.Transaction as transaction
use Rattle.qs_book_machine.specs.declared.transaction.Cell.TheVariants as cells
use Rattle.qs_ops.specs.declared.answer.Cause.TheVariants as causes
use Rattle.qs_world_lawful.proofs.Apart.{Apart, same_or_apart}
use Rattle.qs_world_lawful.proofs.Keys.{same_key_or, life_exact, life_itself}
use Rattle.qs_world_lawful.proofs.Parts.{LivesApart, put_part_apart}

-- the last of these that is of that member and transaction
abbrev pub is_pending_of : Tid → ℕ → Pending → Bool
is_pending_of tid s pending = same_tid pending.tid tid && (pending.server.0 == s)

abbrev pub last_pending : Tid → ℕ → Option Pending → Pending → Option Pending
last_pending tid s found pending = if is_pending_of tid s pending then Some pending else found

-- what the machine has of a member then
abbrev pub part_opened : Option Pending → Part
part_opened None = no_part
part_opened (Some pending) = found_part pending.covers (length pending.changes)

-- all but what members did
abbrev pub without_parts : TransactionValue → TransactionValue
without_parts tx = record tx { parts = [] }

module _ (nodes : List machine.NodeValue) (tid : Tid) (n inc s : ℕ) where
  -- what is found of the transaction, with its member's part
  pub record IsNamedAs (o : Option Pending) (tx : TransactionValue) : Type 0 where
    pub rest : without_parts tx ≡ opened_transaction nodes tid
    pub part : part_of tx (member_at n s) inc ≡ part_opened o

  abbrev pub Stands : Option Pending → Option TransactionValue → Type 0
  Stands o None = o ≡ None
  Stands o (Some tx) = IsNamedAs o tx

  -- the machine as far as logs were read
  pub record Reads (o : Option Pending) (book : BookValue) : Type 0 where
    pub nodes_are : book.nodes ≡ nodes
    pub stands : Stands o (find_transaction book tid)

  plain : (tx : TransactionValue) → (tx ≡ opened_transaction nodes tid) → IsNamedAs None tx
  plain tx is = record { rest = whole tx is; part = ap (λ (t : TransactionValue). part_of t (member_at n s) inc) is ∙ none (list_any (has_commit tid) nodes) (nat_lt tid.home.0 (length nodes)) }
    where
      none : (b c : Bool) → part_of (if b then transaction.opened_as cells.Commit None else if c then transaction.opened_as cells.Abort (Some (causes.Home tid.inc)) else transaction.opened_as cells.Open None) (member_at n s) inc ≡ no_part
      none true c = refl
      none false true = refl
      none false false = refl

      whole : (t : TransactionValue) → t ≡ opened_transaction nodes tid → without_parts t ≡ opened_transaction nodes tid
      whole t e = ap without_parts e ∙ same (list_any (has_commit tid) nodes) (nat_lt tid.home.0 (length nodes))
        where
          same : (b c : Bool) → without_parts (if b then transaction.opened_as cells.Commit None else if c then transaction.opened_as cells.Abort (Some (causes.Home tid.inc)) else transaction.opened_as cells.Open None)
              ≡ (if b then transaction.opened_as cells.Commit None else if c then transaction.opened_as cells.Abort (Some (causes.Home tid.inc)) else transaction.opened_as cells.Open None)
          same true c = refl
          same false true = refl
          same false false = refl

  -- a transaction is named
  names : (t : Tid) (o : Option Pending) (book : BookValue) → Reads o book → Reads o (name_transaction book t)
  names t o book r = by (find_transaction book t) refl (same_or_apart t tid)
    where
      put : BookValue
      put = record book { transactions = insert_entry tid_cmp book.transactions t (opened_transaction book.nodes t) }

      own : t ≡ tid → find_transaction book t ≡ None → Reads o put
      own same none = subst (λ (u : Tid). Reads o (record book { transactions = insert_entry tid_cmp book.transactions u (opened_transaction book.nodes u) })) (sym same)
          (record { nodes_are = r.nodes_are; stands = subst (Stands o) (sym (lookup_put tid_cmp tid (opened_transaction book.nodes tid) (tid_itself tid) book.transactions)) (subst (λ (q : Option Pending). IsNamedAs q (opened_transaction book.nodes tid)) (sym nothing) (plain (opened_transaction book.nodes tid) (ap (λ (ns : List machine.NodeValue). opened_transaction ns tid) r.nodes_are))) })
        where
          nothing : o ≡ None
          nothing = subst (Stands o) (ap (find_transaction book) (sym same) ∙ none) r.stands

      by : (p : Option TransactionValue) → find_transaction book t ≡ p → (t ≡ tid) ⊎ Apart t tid → Reads o (elim p [ Some tx ↦ book | None ↦ put ])
      by (Some tx) is which = r
      by None is (inl same) = own same is
      by None is (inr far) = record { nodes_are = r.nodes_are; stands = subst (Stands o) (sym (lookup_put_apart tid_cmp t (opened_transaction book.nodes t) (λ x e. at_exact t x (rw e refl)) (is_at (tid_cmp tid)) far.at book.transactions)) r.stands }

  all_names : (tids : List Tid) (o : Option Pending) (book : BookValue) → Reads o book → Reads o (fold name_transaction book tids)
  all_names [] o book r = r
  all_names (t ∷ tids) o book r = all_names tids o (name_transaction book t) (names t o book r)

  -- ---- a vote that a log holds

  -- a transaction that was named is there
  named_there : (book : BookValue) → is_some (find_transaction (name_transaction book tid) tid) ≡ true
  named_there book = by (find_transaction book tid) refl
    where
      by : (p : Option TransactionValue) → find_transaction book tid ≡ p → is_some (find_transaction (elim p [ Some tx ↦ book | None ↦ record book { transactions = insert_entry tid_cmp book.transactions tid (opened_transaction book.nodes tid) } ]) tid) ≡ true
      by (Some tx) is = ap is_some is
      by None is = ap is_some (lookup_put tid_cmp tid (opened_transaction book.nodes tid) (tid_itself tid) book.transactions)

  abbrev f_of : ℕ → ℕ → Pending → TransactionValue → TransactionValue
  f_of k i p = found_at (member_at k p.server.0) i p.covers (length p.changes)

  -- what it makes of the member
  abbrev next_pending : ℕ → Option Pending → Pending → Option Pending
  next_pending k o p = if k == n then last_pending tid s o p else o

  own_part : (k i : ℕ) (p : Pending) (o : Option Pending) (tx : TransactionValue) → ((k == n) ≡ true → i ≡ inc) → p.tid ≡ tid → part_of tx (member_at n s) inc ≡ part_opened o → part_of (f_of k i p tx) (member_at n s) inc ≡ part_opened (next_pending k o p)
  own_part k i p o tx same_inc same h = by (k == n) (p.server.0 == s) refl refl
    where
      apart : (life (member_at k p.server.0) i ≡ life (member_at n s) inc → ⊥) → part_of (f_of k i p tx) (member_at n s) inc ≡ part_opened o
      apart far = of (same_key_or transaction.life_cmp life_exact life_itself (life (member_at k p.server.0) i) (life (member_at n s) inc))
        where
          of : (life (member_at k p.server.0) i ≡ life (member_at n s) inc) ⊎ LivesApart (life (member_at k p.server.0) i) (life (member_at n s) inc) → part_of (f_of k i p tx) (member_at n s) inc ≡ part_opened o
          of (inl same_life) = absurd (far same_life)
          of (inr is) = put_part_apart (life (member_at k p.server.0) i) (found_part p.covers (length p.changes)) tx.parts (member_at n s) inc is ∙ h

      by : (a b : Bool) → (k == n) ≡ a → (p.server.0 == s) ≡ b → part_of (f_of k i p tx) (member_at n s) inc ≡ part_opened (if a then (if same_tid p.tid tid && b then Some p else o) else o)
      by false b far e = apart (λ l. eqb-false k n far (ap (λ (x : Life). x.member.node.0) l))
      by true false near far = subst (λ (c : Bool). part_of (f_of k i p tx) (member_at n s) inc ≡ part_opened (if c then Some p else o)) (sym (and_false (same_tid p.tid tid))) (apart (λ l. eqb-false p.server.0 s far (ap (λ (x : Life). x.member.server.0) l)))
      by true true near is = subst (λ (c : Bool). part_of (f_of k i p tx) (member_at n s) inc ≡ part_opened (if c && true then Some p else o)) (sym (subst (λ (t : Tid). same_tid t tid ≡ true) (sym same) (same_tid-self tid)))
          (subst (λ (l : Life). unwrap_or (lookup (is_at (transaction.life_cmp (life (member_at n s) inc))) (insert_entry transaction.life_cmp tx.parts l (found_part p.covers (length p.changes)))) no_part ≡ found_part p.covers (length p.changes)) (sym key)
          (ap (λ (q : Option Part). unwrap_or q no_part) (lookup_put transaction.life_cmp (life (member_at n s) inc) (found_part p.covers (length p.changes)) (life_itself (life (member_at n s) inc)) tx.parts)))
        where
          key : life (member_at k p.server.0) i ≡ life (member_at n s) inc
          key = rw (eqb-true k n near, eqb-true p.server.0 s is, same_inc near) refl

  pending_read : (k i : ℕ) → ((k == n) ≡ true → i ≡ inc) → (p : Pending) (o : Option Pending) (book : BookValue) → Reads o book → Reads (next_pending k o p) (name_pending k i book p)
  pending_read k i same_inc p o book r = by (same_or_apart p.tid tid)
    where
      mid : BookValue
      mid = name_transaction book p.tid

      r_mid : Reads o mid
      r_mid = names p.tid o book r

      same_o : Apart p.tid tid → next_pending k o p ≡ o
      same_o far = of (k == n)
        where
          of : (b : Bool) → (if b then (if same_tid p.tid tid && (p.server.0 == s) then Some p else o) else o) ≡ o
          of true = rw far.by refl
          of false = refl

      by : (p.tid ≡ tid) ⊎ Apart p.tid tid → Reads (next_pending k o p) (name_pending k i book p)
      by (inr far) = subst (λ (q : Option Pending). Reads q (name_pending k i book p)) (sym (same_o far))
          (record { nodes_are = r_mid.nodes_are; stands = subst (Stands o) (sym (changed_apart (is_at (tid_cmp p.tid)) (is_at (tid_cmp tid)) far.keys (f_of k i p) mid.transactions)) r_mid.stands })
      by (inl same) = record { nodes_are = r_mid.nodes_are; stands = at (find_transaction mid tid) refl }
        where
          there : is_some (find_transaction mid tid) ≡ true
          there = subst (λ (t : Tid). is_some (find_transaction (name_transaction book t) tid) ≡ true) (sym same) (named_there book)

          at : (q : Option TransactionValue) → find_transaction mid tid ≡ q → Stands (next_pending k o p) (find_transaction (name_pending k i book p) tid)
          at None none = absurd (cc (sym (ap is_some none) ∙ there))
          at (Some tx) had = subst (Stands (next_pending k o p)) (sym now) (record { rest = is.rest; part = own_part k i p o tx same_inc same is.part })
            where
              now : find_transaction (name_pending k i book p) tid ≡ Some (f_of k i p tx)
              now = subst (λ (t : Tid). lookup (is_at (tid_cmp tid)) (transaction.changed_value (is_at (tid_cmp t)) (f_of k i p) mid.transactions) ≡ Some (f_of k i p tx)) (sym same) (lookup_changed (is_at (tid_cmp tid)) (f_of k i p) mid.transactions tx had)

              is : IsNamedAs o tx
              is = subst (Stands o) had r_mid.stands

  pendings_far : (k i : ℕ) → (k == n) ≡ false → (ps : List Pending) (o : Option Pending) (book : BookValue) → Reads o book → Reads o (fold (name_pending k i) book ps)
  pendings_far k i far [] o book r = r
  pendings_far k i far (p ∷ ps) o book r = pendings_far k i far ps o (name_pending k i book p) (subst (λ (b : Bool). Reads (if b then last_pending tid s o p else o) (name_pending k i book p)) far (pending_read k i (λ near. absurd (cc (sym far ∙ near))) p o book r))

  pendings_here : (ps : List Pending) (o : Option Pending) (book : BookValue) → Reads o book → Reads (fold (last_pending tid s) o ps) (fold (name_pending n inc) book ps)
  pendings_here [] o book r = r
  pendings_here (p ∷ ps) o book r = pendings_here ps (last_pending tid s o p) (name_pending n inc book p) (subst (λ (b : Bool). Reads (if b then last_pending tid s o p else o) (name_pending n inc book p)) (eqb-self n) (pending_read n inc (λ near. refl) p o book r))

  -- ---- the logs, one after the other

  logs_past : (k : ℕ) (ones : List Opened) (o : Option Pending) (book : BookValue) → n < k → Reads o book → Reads o (name_from k ones book)
  logs_past k [] o book low r = r
  logs_past k (one ∷ ones) o book low r = logs_past (suc k) ones o (name_all k one book) (more low) (pendings_far k one.inc (other low) one.pending o (fold name_transaction book one.committed) (all_names one.committed o book r))
    where
      more : {a b : ℕ} → a < b → a < suc b
      more {a} {b} e = grind (arith, e)

      other : {a b : ℕ} → a < b → (b == a) ≡ false
      other {a} {b} e = grind (arith, nat_tests, e)

  pub logs_read : (k j : ℕ) (ones : List Opened) (one : Opened) → slice_get ones j ≡ Some one → n ≡ k + j → one.inc ≡ inc → (book : BookValue) → Reads None book → Reads (fold (last_pending tid s) None one.pending) (name_from k ones book)
  logs_read k j [] one is at same book r = absurd (cc is)
  logs_read k zero (x ∷ ones) one is at same book r =
      logs_past (suc k) ones (fold (last_pending tid s) None one.pending) (name_all k x book) (next k at)
      (subst (λ (y : Opened). Reads (fold (last_pending tid s) None one.pending) (name_all k y book)) (sym first)
      (subst (λ (i : ℕ). Reads (fold (last_pending tid s) None one.pending) (fold (name_pending k i) (fold name_transaction book one.committed) one.pending)) (sym same)
      (subst (λ (m : ℕ). Reads (fold (last_pending tid s) None one.pending) (fold (name_pending m inc) (fold name_transaction book one.committed) one.pending)) (here k at)
      (pendings_here one.pending None (fold name_transaction book one.committed) (all_names one.committed None book r)))))
    where
      first : x ≡ one
      first = ap (λ (o : Option Opened). elim o [ None ↦ x | Some y ↦ y ]) is

      here : (k : ℕ) → n ≡ k + 0 → n ≡ k
      here k e = grind (arith, e)

      next : (k : ℕ) → n ≡ k + 0 → n < suc k
      next k e = grind (arith, e)
  logs_read k (suc j) (x ∷ ones) one is at same book r = logs_read (suc k) j ones one is (on k j at) same (name_all k x book)
      (pendings_far k x.inc (far k j at) x.pending None (fold name_transaction book x.committed) (all_names x.committed None book r))
    where
      on : (k j : ℕ) → n ≡ k + suc j → n ≡ suc k + j
      on k j e = grind (arith, e)

      far : (k j : ℕ) → n ≡ k + suc j → (k == n) ≡ false
      far k j e = grind (arith, nat_tests, e)
