-- The locks that served operations make, and that they follow what the transactions hold.
use Rattle.std.specs.Prelude.{◌≡◌, ℕ, Bool, true, false, List, Option, None, unwrap_or}
use Rattle.std.specs.List.{list_any}
use Rattle.std.specs.Map.{lookup}
use Rattle.std.specs.BTreeMap.{is_at}
use Rattle.qs_base.specs.Order.{same_bytes, same_tid, tid_cmp}
use Rattle.qs_base.specs.declared.identifiers.Tid.{Tid}
use Rattle.qs_ops.specs.declared.operation.Op.{Op}
use Rattle.qs_ops.specs.declared.operation.Op.TheVariants.{Put, Append, Del, Get}
use Rattle.qs_ops.specs.declared.reply.Reply.{Reply}
use Rattle.qs_ops.specs.declared.reply.Reply.TheVariants.{Done, Value, Absent, TooMany}
use Rattle.qs_ops.specs.declared.file.File.{File}
use Rattle.qs_ops.specs.declared.share.Share.{Share}
use Rattle.qs_book_tables.specs.declared.locks.Locks.{Locks}
use Rattle.qs_ops.specs.Files.{or_else}
use Rattle.qs_ops.specs.Table.{nothing_held, is_change_of, changes_name, reads_name}
use Rattle.qs_book_tables.specs.Index.{Index, holders_of, first_other, ChangesHolders, SameHolders, IsIndexOf}
use Rattle.qs_ops.specs.Places.{IsInOrder}
use Rattle.qs_book_tables.specs.Sizes.{files_bytes}

-- what a transaction holds
abbrev pub share_in : List (Tid × Share) → Tid → Share
share_in shares tid = unwrap_or (lookup (is_at (tid_cmp tid)) shares) nothing_held

-- who has a pending change to which name
abbrev pub changers : Locks → Index
changers locks = locks.changers.names.entries

-- who read which name
abbrev pub readers : Locks → Index
readers locks = locks.readers.names.entries

-- an operation with this reply makes a pending change to the name
abbrev pub makes_change : Op → Reply → List ℕ → Bool
makes_change op Done n = is_change_of n op
makes_change op reply n = false

-- an operation with this reply makes a read of the name
abbrev pub makes_read : Op → Reply → List ℕ → Bool
makes_read op TooMany n = false
makes_read (Get name) Absent n = same_bytes name n
makes_read (Get name) (Value text) n = same_bytes name n
makes_read op reply n = false

-- who keeps a change to a name back
abbrev pub name_holder : Locks → Tid → List ℕ → Option Tid
name_holder locks tid name =
    or_else (first_other tid (holders_of (changers locks) name)) (first_other tid (holders_of (readers locks) name))

-- who keeps a transaction from an operation
abbrev pub lock_holder : Locks → Tid → Op → Option Tid
lock_holder locks tid (Put name text) = name_holder locks tid name
lock_holder locks tid (Append name text) = name_holder locks tid name
lock_holder locks tid (Del name) = name_holder locks tid name
lock_holder locks tid (Get name) = first_other tid (holders_of (changers locks) name)
lock_holder locks tid op = None

-- the holders at the name that an operation with this reply locks are changed, and no others
pub record ChangesLocks (change : List Tid → List Tid) (op : Op) (reply : Reply) (old new : Locks) : Type 0 where
  pub at_changers : ChangesHolders (makes_change op reply) change (changers old) (changers new)
  pub at_readers : ChangesHolders (makes_read op reply) change (readers old) (readers new)

-- all hold what they did
pub record SameLocks (old new : Locks) : Type 0 where
  pub at_changers : SameHolders (changers old) (changers new)
  pub at_readers : SameHolders (readers old) (readers new)

-- the transaction holds none of the names that pass a test
abbrev pub IsFreshFor : Tid → (List ℕ → Bool) → Index → Type 0
IsFreshFor tid test index = (name : List ℕ) → test name ≡ true → list_any (same_tid tid) (holders_of index name) ≡ false

-- the transaction does not hold the lock that an operation with this reply makes
pub record IsFresh (tid : Tid) (op : Op) (reply : Reply) (locks : Locks) : Type 0 where
  pub at_changers : IsFreshFor tid (makes_change op reply) (changers locks)
  pub at_readers : IsFreshFor tid (makes_read op reply) (readers locks)

-- under each name stand the transactions whose shares change it, and those whose shares read it
pub record FollowShares (locks : Locks) (shares : List (Tid × Share)) : Type 0 where
  pub at_changers : IsIndexOf changes_name (changers locks) shares
  pub at_readers : IsIndexOf reads_name (readers locks) shares

-- the files are in byte order of their names, so many bytes are theirs, and the locks follow the shares
pub record IsConsistent (contents : List File) (bytes : ℕ) (locks : Locks) (shares : List (Tid × Share)) : Type 0 where
  pub order : IsInOrder contents
  pub counted : bytes ≡ files_bytes contents
  pub follows : FollowShares locks shares
