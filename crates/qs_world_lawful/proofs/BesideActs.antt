-- What an entry of a node leaves of each transaction, of the node and of owners, as far as the machine has it beside the node.
use Rattle.qs_world_lawful.proofs.Words.{◌≡◌, ◌≢◌, inl, inr, ℕ, true, List, [], ◌∷◌, Option, Some, None, refl, sym, ap, subst, ◌∙◌, fold, is_at, lookup, set_value, option_map, ◌&&◌, is_none, is_some, slice_get, unwrap_or, tid_exact, tid_cmp, ClientNo, Member, NodeNo, ServerNo, Tid, BookValue, begin, end_node, find_transaction, give_back_from, hear, inc_at, loan_to, waiting_of, with_owner, with_transaction, has_no_record, TransactionValue, asked_at, changed_value, ended_part, lent, life, life_cmp}
use Rattle.qs_world_lawful.proofs.Words.{made_part, no_part, yielded_part, OnRecord, Owner, Voter, Life, Part, Age, Alike, age, face, Either, changed_either, lookup_put_apart, HasOwner, at_server}
use Rattle.qs_ops.specs.Servers.{audit_no, extra_no, files_no}
use Rattle.qs_book_machine.specs.Book.{answer, count, end, with_node}
use Rattle.qs_book_machine.specs.Nodes as machine
use Rattle.qs_book_machine.specs.Transaction.{ended, given_back, part_of}
use Rattle.qs_book_laws.proofs.Faces.{Face, told_of}
use Rattle.qs_tm.specs.Members as rules
use Rattle.qs_world_lawful.proofs.Apart.{Apart}
use Rattle.qs_world_lawful.proofs.BesideParts.{SameWhole, TxStep, step_same, whole_then}
use Rattle.qs_world_lawful.proofs.MemberRule.{parts_alike}
use Rattle.qs_world_lawful.proofs.MemberTid.{lives_apart}
use Rattle.qs_world_lawful.proofs.Parts.{changed_part_apart}
use Rattle.qs_world_lawful.proofs.Steps.{tx_apart}
use Rattle.qs_world_lawful.proofs.Truths.{of_some}

-- ---- transactions

module _ (here : NodeNo) (inc : ℕ) where
  abbrev pub Steps : BookValue → BookValue → Type 0
  Steps old new = (t : Tid) → TxStep here inc old new t

  pub steps_self : (book : BookValue) → Steps book book
  steps_self book t = step_same here inc book book t refl

  pub steps_then : (old mid new : BookValue) → Steps old mid → Steps mid new → Steps old new
  steps_then old mid new a b t = record {
    none = λ is. (b t).none ((a t).none is);
    some = λ tx found.
        let p : (l : TransactionValue) × (find_transaction mid t ≡ Some l) × SameWhole here inc tx l = (a t).some tx found in
        let q : (l : TransactionValue) × (find_transaction new t ≡ Some l) × SameWhole here inc p.0 l = (b t).some p.0 p.1 in
        (q.0, q.1, whole_then here inc tx p.0 q.0 p.2 q.2);
  }

  -- what is of the machine's order alone
  pub steps_as : (old new last : BookValue) → last.transactions ≡ new.transactions → Steps old new → Steps old last
  steps_as old new last same a = steps_then old new last a (λ t. step_same here inc new last t (ap (λ (txs : List (Tid × TransactionValue)). lookup (is_at (tid_cmp t)) txs) same))

  -- a change that leaves it
  pub transaction_steps : (tid : Tid) (f : TransactionValue → TransactionValue) → ((tx : TransactionValue) → SameWhole here inc tx (f tx)) → (book : BookValue) → Steps book (with_transaction tid f book)
  transaction_steps tid f keeps book t = by (find_transaction book tid) refl
    where
      at : (v : TransactionValue) → Either (find_transaction book t) (find_transaction (with_transaction tid f book) t) v (f v) → TxStep here inc book (with_transaction tid f book) t
      at v (inl same) = step_same here inc book (with_transaction tid f book) t same
      at v (inr now) = record {
        none = λ is. absurd (no (sym is ∙ now.0));
        some = λ tx found. (f v, now.1, subst (λ (x : TransactionValue). SameWhole here inc x (f v)) (of_some (sym now.0 ∙ found)) (keeps v));
      }
        where
          no : {x : TransactionValue} → None ≡ Some x → ⊥
          no e = cc e

      by : (o : Option TransactionValue) → find_transaction book tid ≡ o → TxStep here inc book (with_transaction tid f book) t
      by None is = step_same here inc book (with_transaction tid f book) t (none_changed is)
        where
          none_changed : find_transaction book tid ≡ None → find_transaction (with_transaction tid f book) t ≡ find_transaction book t
          none_changed e = subst (λ (o : Option TransactionValue). lookup (is_at (tid_cmp t)) (elim o [ None ↦ book.transactions | Some v ↦ set_value (is_at (tid_cmp tid)) book.transactions (f v) ]) ≡ find_transaction book t) (sym e) refl
      by (Some v) is = at v (changed_either (is_at (tid_cmp tid)) (is_at (tid_cmp t)) f book.transactions v is)

  fold_steps : {A : Type 0} (f : BookValue → A → BookValue) → ((book : BookValue) (x : A) → Steps book (f book x)) → (xs : List A) (book : BookValue) → Steps book (fold f book xs)
  fold_steps f each [] book = steps_self book
  fold_steps f each (x ∷ xs) book = steps_then book (f book x) (fold f (f book x) xs) (each book x) (fold_steps f each xs (f book x))

  -- what leaves all that is looked at
  plain : (tx later : TransactionValue) → later.requests ≡ tx.requests → later.noted ≡ tx.noted → later.starts ≡ tx.starts → later.parts ≡ tx.parts → later.begun_at ≡ tx.begun_at → later.asked ≡ tx.asked → later.cell ≡ tx.cell → SameWhole here inc tx later
  plain tx later requests noted starts parts begun asked cell = record {
    same = record {
      requests = requests;
      noted = noted;
      starts = starts;
      served = λ s. ap (λ ps. (unwrap_parts s ps).served) parts;
      found = λ s. ap (λ ps. (unwrap_parts s ps).found) parts;
      begun_at = begun;
      asked = λ is. ap (λ (o : Option ℕ). is_some o) asked ∙ is;
    };
    pending = ap (λ ps. (unwrap_parts rules.files_no ps).pending) parts;
    cell = cell;
  }
    where
      unwrap_parts : ServerNo → List (Life × Part) → Part
      unwrap_parts s ps = unwrap_or (lookup (is_at (life_cmp (life (at_server here s) inc))) ps) no_part

  -- a part is changed that keeps its counts
  counts : (tx : TransactionValue) (member : Member) (i : ℕ) (g : Part → Part) → ((p : Part) → (g p).served ≡ p.served) → ((p : Part) → (g p).found ≡ p.found)
      → (part_of (record tx { parts = changed_value (is_at (life_cmp (life member i))) g tx.parts }) (at_server here rules.files_no) inc).pending ≡ (part_of tx (at_server here rules.files_no) inc).pending
      → SameWhole here inc tx (record tx { parts = changed_value (is_at (life_cmp (life member i))) g tx.parts })
  counts tx member i g served found pending = record {
    same = record {
      requests = refl;
      noted = refl;
      starts = refl;
      served = λ s. parts_alike (λ (p : Part). p.served) (life member i) g served tx.parts (at_server here s) inc;
      found = λ s. parts_alike (λ (p : Part). p.found) (life member i) g found tx.parts (at_server here s) inc;
      begun_at = refl;
      asked = λ is. is;
    };
    pending = pending;
    cell = refl;
  }

  pub asked_steps : (tid : Tid) (place : ℕ) (book : BookValue) → Steps book (with_transaction tid (asked_at place) book)
  asked_steps tid place book = transaction_steps tid (asked_at place)
      (λ tx. record { same = record { requests = refl; noted = refl; starts = refl; served = λ s. refl; found = λ s. refl; begun_at = refl; asked = λ is. refl }; pending = refl; cell = refl }) book

  pub counted_steps : (n : ℕ) (tid : Tid) (peer : NodeNo) (up_to : ℕ) (book : BookValue) → Steps book (count n tid peer up_to book)
  counted_steps n tid peer up_to book = transaction_steps tid _ (λ tx. plain tx _ refl refl refl refl refl refl refl) book

  pub answered_steps : (client : ClientNo) (line : ℕ) (book : BookValue) → Steps book (answer client line book)
  answered_steps client line book = steps_then book owned (answer client line book) (λ t. step_same here inc book owned t refl)
      (fold_steps hear (λ b ask. transaction_steps ask.tid _ (λ tx. plain tx _ refl refl refl refl refl refl refl) b) (waiting_of (slice_get book.owners client.0)) owned)
    where
      owned : BookValue
      owned = with_owner client.0 (λ owner. record owner { line = line; waiting = [] }) book

  pub lent_steps : (i : ℕ) (tid : Tid) (o : Option Member) (book : BookValue) → Steps book (loan_to i tid o book)
  lent_steps i tid None book = steps_self book
  lent_steps i tid (Some member) book = transaction_steps tid (lent member i)
      (λ tx. counts tx member i made_part (λ p. refl) (λ p. refl) (parts_alike (λ (p : Part). p.pending) (life member i) made_part (λ p. refl) tx.parts (at_server here rules.files_no) inc)) book

  pub given_steps : (i : ℕ) (tid : Tid) (o : Option Member) (book : BookValue) → Steps book (give_back_from i tid o book)
  given_steps i tid None book = steps_self book
  given_steps i tid (Some member) book = transaction_steps tid (given_back member i)
      (λ tx. counts tx member i yielded_part (λ p. refl) (λ p. refl) (parts_alike (λ (p : Part). p.pending) (life member i) yielded_part (λ p. refl) tx.parts (at_server here rules.files_no) inc)) book

  -- another server than files is told that it ends
  pub ended_steps : (n i : ℕ) (tid : Tid) (server : ServerNo) → server.0 ≢ 0 → i ≡ inc → (book : BookValue) → inc_at book (record { 0 = n }) ≡ i → Steps book (end n tid (at_server here server) book)
  ended_steps n i tid server far now book at = steps_then book (with_node n (end_node tid) book) (end n tid (at_server here server) book) (λ t. step_same here inc book (with_node n (end_node tid) book) t refl)
      (transaction_steps tid (ended (at_server here server) (inc_at book (record { 0 = n }))) (λ tx. ends tx) (with_node n (end_node tid) book))
    where
      ends : (tx : TransactionValue) → SameWhole here inc tx (ended (at_server here server) (inc_at book (record { 0 = n })) tx)
      ends tx = counts tx (at_server here server) (inc_at book (record { 0 = n })) ended_part (λ p. refl) (λ p. refl)
          (subst (λ (k : ℕ). (part_of (ended (at_server here server) k tx) (at_server here rules.files_no) inc).pending ≡ (part_of tx (at_server here rules.files_no) inc).pending) (sym (at ∙ now))
          (ap (λ (p : Part). p.pending) (changed_part_apart (life (at_server here server) inc) ended_part tx.parts (at_server here rules.files_no) inc (lives_apart here inc server rules.files_no far))))

  -- ---- acts that change one transaction: the others are left

  pub others_changed : (tid t : Tid) (f : TransactionValue → TransactionValue) (book new : BookValue) → new.transactions ≡ (with_transaction tid f book).transactions → Apart tid t → TxStep here inc book new t
  others_changed tid t f book new is far = step_same here inc book new t (ap (λ (txs : List (Tid × TransactionValue)). lookup (is_at (tid_cmp t)) txs) is ∙ tx_apart tid t f book.transactions far)

  pub others_begun : (n : ℕ) (tid t : Tid) (label : List ℕ) (client : ClientNo) (book : BookValue) → Apart tid t → TxStep here inc book (begin n tid label client book) t
  others_begun n tid t label client book far = step_same here inc book (begin n tid label client book) t (lookup_put_apart tid_cmp tid _ (tid_exact tid) (is_at (tid_cmp t)) far.at book.transactions)

-- ---- owners

pub owners_alike : (old new : BookValue) → Alike old new → ((tid : Tid) (tx : TransactionValue) → find_transaction old tid ≡ Some tx → HasOwner old tx) → (tid : Tid) (tx : TransactionValue) → find_transaction new tid ≡ Some tx → HasOwner new tx
owners_alike old new a h tid tx found client owns = still client (was (find_transaction old tid) refl)
  where
    still : (client : ClientNo) → is_some (slice_get old.owners client.0) ≡ true → is_some (slice_get new.owners client.0) ≡ true
    still client is = by (slice_get old.owners client.0) (slice_get new.owners client.0) (a.tolds client.0) is
      where
        by : (o p : Option Owner) → option_map told_of p ≡ option_map told_of o → is_some o ≡ true → is_some p ≡ true
        by None p e is = absurd (cc is)
        by (Some x) None e is = absurd (cc e)
        by (Some x) (Some y) e is = refl

    seen : option_map face (find_transaction old tid) ≡ Some (face tx)
    seen = sym (a.faces tid) ∙ ap (option_map face) found

    was : (o : Option TransactionValue) → find_transaction old tid ≡ o → is_some (slice_get old.owners client.0) ≡ true
    was None is = absurd (no (sym (ap (option_map face) is) ∙ seen))
      where
        no : None ≡ Some (face tx) → ⊥
        no e = cc e
    was (Some x) is = h tid x is client (ap (λ (f : Face). f.owner) (of_some (sym (ap (option_map face) is) ∙ seen)) ∙ owns)

-- ---- the node

pub inc_on : (old new : BookValue) (n : ℕ) (state next : machine.NodeValue) → slice_get old.nodes n ≡ Some state → slice_get new.nodes n ≡ Some next → option_map age (slice_get new.nodes n) ≡ option_map age (slice_get old.nodes n) → next.inc ≡ state.inc
inc_on old new n state next was now same = ap (λ (a : Age). a.inc) (of_some (sym (ap (option_map age) now) ∙ (same ∙ ap (option_map age) was)))

pub records_same : (state next : machine.NodeValue) → next.records ≡ state.records → (t : Tid) → has_no_record next t ≡ has_no_record state t
records_same state next same t = ap (λ (rs : List (Voter × OnRecord)). is_none (found rs files_no) && (is_none (found rs audit_no) && is_none (found rs extra_no))) same
  where
    found : List (Voter × OnRecord) → ℕ → Option OnRecord
    found rs s = lookup (is_at (machine.voter_cmp (machine.voter t s))) rs
