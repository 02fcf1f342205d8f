-- Transactions of an opening are numbered from 1, where each log names those alone; and so do the logs of a run that begins as it may.
use Rattle.qs_world_lawful.proofs.Words.{◌≡◌, ◌⊎◌, inl, inr, ℕ, ◌+◌, ◌++◌, not, Bool, true, false, List, [], ◌∷◌, length, map, fold, flat_map, Option, Some, None, zero, suc, refl, sym, ap, subst, ◌∙◌, is_some, if◌then◌else◌, filter, insert_entry, is_at, tid_cmp, NodeNo, Tid, tid_exact, lookup_put_apart, first_book, BookValue, find_transaction, name_all, name_from, name_pending, name_transaction, opened_transaction, opening, member_at, TransactionValue, found_at, Opened, Pending, Record, Prepared}
use Rattle.qs_world_lawful.proofs.Words.{Recovery, found_record, is_in_doubt, names_transaction, nothing_said, prepare_of, recovery, with_list, opened_from, pending_of, Opening, IsNumbered, IsNamed, Every, and_first}
use Rattle.qs_record.specs.declared.record.Record.TheVariants as records
use Rattle.qs_world_lawful.proofs.Apart.{Apart, same_or_apart}
use Rattle.qs_world_lawful.proofs.LogRecords.{every_append}
use Rattle.qs_world_lawful.proofs.Turning.{stood, turned_by}

abbrev IsName : Tid → Type 0
IsName tid = names_transaction tid ≡ true

abbrev AreNamed : BookValue → Type 0
AreNamed book = (tid : Tid) (tx : TransactionValue) → find_transaction book tid ≡ Some tx → IsName tid

one_named : (book : BookValue) (t : Tid) → IsName t → AreNamed book → AreNamed (name_transaction book t)
one_named book t name all = by (find_transaction book t)
  where
    put : BookValue
    put = record book { transactions = insert_entry tid_cmp book.transactions t (opened_transaction book.nodes t) }

    at : (tid : Tid) (tx : TransactionValue) → find_transaction put tid ≡ Some tx → (t ≡ tid) ⊎ Apart t tid → IsName tid
    at tid tx found (inl same) = subst IsName same name
    at tid tx found (inr far) = all tid tx (sym (lookup_put_apart tid_cmp t (opened_transaction book.nodes t) (λ x. tid_exact t x) (is_at (tid_cmp tid)) far.at book.transactions) ∙ found)

    by : (o : Option TransactionValue) → AreNamed (elim o [ Some tx ↦ book | None ↦ put ])
    by (Some tx) = all
    by None = λ tid tx found. at tid tx found (same_or_apart t tid)

all_named : (tids : List Tid) → Every IsName tids → (book : BookValue) → AreNamed book → AreNamed (fold name_transaction book tids)
all_named [] names book all = all
all_named (t ∷ tids) names book all = all_named tids names.1 (name_transaction book t) (one_named book t names.0 all)

vote_named : (n inc : ℕ) (book : BookValue) (p : Pending) → IsName p.tid → AreNamed book → AreNamed (name_pending n inc book p)
vote_named n inc book p name all tid later found =
    let f : TransactionValue → TransactionValue = found_at (member_at n p.server.0) inc p.covers (length p.changes) in
    let s = stood (λ t tx later. IsName t → IsName t) (name_transaction book p.tid) (name_pending n inc book p)
    (turned_by (λ t tx later. IsName t → IsName t) (λ t tx is. is) p.tid f (name_transaction book p.tid) (name_pending n inc book p) refl (λ tx at is. is)) tid later found in
    one_named book p.tid name all tid s.0 s.1

votes_named : (n inc : ℕ) (pending : List Pending) → Every (λ (p : Pending). IsName p.tid) pending → (book : BookValue) → AreNamed book → AreNamed (fold (name_pending n inc) book pending)
votes_named n inc [] names book all = all
votes_named n inc (p ∷ pending) names book all = votes_named n inc pending names.1 (name_pending n inc book p) (vote_named n inc book p names.0 all)

logs_named : (n : ℕ) (logs : List Opened) → Every IsNumbered logs → (book : BookValue) → AreNamed book → AreNamed (name_from n logs book)
logs_named n [] names book all = all
logs_named n (one ∷ logs) names book all = logs_named (suc n) logs names.1 (name_all n one book) (votes_named n one.inc one.pending names.0.pending (fold name_transaction book one.committed) (all_named one.committed names.0.committed book all))

pub opening_named : (opened : List Opened) → Every IsNumbered opened → IsNamed (opening opened)
opening_named opened names tid is = by (find_transaction (opening opened) tid) refl
  where
    by : (o : Option TransactionValue) → find_transaction (opening opened) tid ≡ o → IsName tid
    by None none = absurd (cc (sym (ap is_some none) ∙ is))
    by (Some tx) found = logs_named 0 opened names (first_book opened) (λ tid tx at. absurd (cc at)) tid tx found

-- ---- the logs of a run

-- a Commit that a log says is of a transaction
list_commits : (tid : Tid) (told : List NodeNo) (said : Recovery) → Every IsName said.committed → Every IsName (with_list tid told said).committed
list_commits tid [] said all = all
list_commits tid (first ∷ more) said all = all

record_commits : (said : Recovery) (rec : Record) → Every IsName said.committed → Every IsName (found_record said rec).committed
record_commits said (records.Prepare tid server covers changes) all = all
record_commits said (records.Commit tid told) all = list_commits tid told (record said { files = _; audit = _; extra = _; committed = said.committed ++ (if names_transaction tid then tid ∷ [] else []) })
    (every_append IsName said.committed (if names_transaction tid then tid ∷ [] else []) all (by (names_transaction tid) refl))
  where
    by : (b : Bool) → names_transaction tid ≡ b → Every IsName (if b then tid ∷ [] else [])
    by true is = (is, tt)
    by false is = tt
record_commits said (records.Aborted tid) all = all
record_commits said (records.End tid) all = all

pub said_commits : (log : List Record) → Every IsName (recovery log).committed
said_commits log = from log nothing_said tt
  where
    from : (log : List Record) (said : Recovery) → Every IsName said.committed → Every IsName (fold found_record said log).committed
    from [] said all = all
    from (rec ∷ log) said all = from log (found_record said rec) (record_commits said rec all)

-- and so is a vote in doubt
in_doubt_named : (votes : List Prepared) → Every (λ (p : Pending). IsName p.tid) (flat_map pending_of (map prepare_of (filter is_in_doubt votes)))
in_doubt_named [] = tt
in_doubt_named (v ∷ votes) = by (is_in_doubt v) refl (in_doubt_named votes)
  where
    by : (b : Bool) → is_in_doubt v ≡ b → Every (λ (p : Pending). IsName p.tid) (flat_map pending_of (map prepare_of (filter is_in_doubt votes)))
        → Every (λ (p : Pending). IsName p.tid) (flat_map pending_of (map prepare_of (if b then v ∷ filter is_in_doubt votes else filter is_in_doubt votes)))
    by true is more = (and_first (names_transaction v.tid) (not v.committed) is, more)
    by false is more = more

pub opened_numbered : (o : Opening) (n more : ℕ) → Every IsNumbered (opened_from o n more)
opened_numbered o n zero = tt
opened_numbered o n (suc more) = (record { committed = said_commits (o.logs n); pending = in_doubt_named (recovery (o.logs n)).prepared }, opened_numbered o (n + 1) more)
