-- Who holds which name: an index from names to the transactions that hold them.
use Rattle.std.specs.Prelude.{◌≡◌, ℕ, Bool, not, List, [], ◌∷◌, Option, Some, None, if◌then◌else◌}
use Rattle.std.specs.List.{filter, find}
use Rattle.std.specs.Map.{lookup}
use Rattle.std.specs.BTreeMap.{is_at}
use Rattle.std.specs.BTreeSet.{BTreeSet, insert_key}
use Rattle.qs_base.specs.Order.{bytes_cmp, tid_cmp, same_tid}
use Rattle.qs_base.specs.declared.identifiers.Tid.{Tid}
use Rattle.qs_ops.specs.declared.share.Share.{Share}

-- names in byte order, and under each the transactions that hold it
abbrev pub Index : Type 0
Index = List (List ℕ × BTreeSet Tid)

-- the transactions of an entry; none where there is no entry
abbrev pub tids_of : Option (BTreeSet Tid) → List Tid
tids_of None = []
tids_of (Some tids) = tids.keys

-- the transactions that hold a name, in order
abbrev pub holders_of : Index → List ℕ → List Tid
holders_of index name = tids_of (lookup (is_at (bytes_cmp name)) index)

-- one more transaction at its place in the order
abbrev pub with_tid : Tid → List Tid → List Tid
with_tid tid tids = insert_key tid_cmp tids tid

-- all transactions but one
abbrev pub without_tid : Tid → List Tid → List Tid
without_tid tid tids = filter (λ t. not (same_tid tid t)) tids

-- the first transaction but one
abbrev pub first_other : Tid → List Tid → Option Tid
first_other tid tids = find (λ t. not (same_tid tid t)) tids

-- at each name that passes a test the holders are changed, and at each other name they are the same
abbrev pub ChangesHolders : (List ℕ → Bool) → (List Tid → List Tid) → Index → Index → Type 0
ChangesHolders test change old new =
    (name : List ℕ) → holders_of new name ≡ (if test name then change (holders_of old name) else holders_of old name)

-- at each name the holders are the same
abbrev pub SameHolders : Index → Index → Type 0
SameHolders old new = (name : List ℕ) → holders_of new name ≡ holders_of old name

-- the transactions whose share passes a test, in order
abbrev pub keys_where : (Share → Bool) → List (Tid × Share) → List Tid
keys_where test [] = []
keys_where test (e ∷ es) = if test e.1 then e.0 ∷ keys_where test es else keys_where test es

-- the index has under each name the transactions whose share passes the name's test
abbrev pub IsIndexOf : (List ℕ → Share → Bool) → Index → List (Tid × Share) → Type 0
IsIndexOf test index shares = (name : List ℕ) → holders_of index name ≡ keys_where (test name) shares
