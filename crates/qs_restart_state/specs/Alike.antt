-- A log that reads like another: the same but for what is over, of which it may have less.
use Rattle.std.specs.Prelude.{◌≡◌, ℕ, Bool, true, not, List, [], ◌++◌}
use Rattle.std.specs.List.{filter, list_any, list_all}
use Rattle.qs_base.specs.Order.{same_tid}
use Rattle.qs_base.specs.declared.identifiers.Tid.{Tid}
use Rattle.qs_ops.specs.declared.operation.Op.{Op}
use Rattle.qs_ops.specs.Table.{TableValue, no_table, applied}
use Rattle.qs_record.specs.declared.record.Record.{Record}
use Rattle.qs_record.specs.declared.record.Record.TheVariants as records
use Rattle.qs_restart.specs.declared.recovered.OpenVote.{OpenVote}
use Rattle.qs_restart.specs.Recovery.{Prepared, Recovery, recovery, open_votes, in_doubt, untold}
use Rattle.qs_restart_state.specs.States.{are_unended, state}

abbrev pub is_among : List Tid → Tid → Bool
is_among tids tid = list_any (same_tid tid) tids

-- the transaction is not over
abbrev pub is_left : List Tid → Tid → Bool
is_left over tid = not (is_among over tid)

-- that of the vote is not
abbrev pub is_beyond : List Tid → Prepared → Bool
is_beyond over vote = is_left over vote.tid

-- what changes make of an empty server
abbrev pub makes : List Op → TableValue
makes changes = applied no_table changes

abbrev pub MakesSame : List Op → List Op → Type 0
MakesSame xs ys = makes xs ≡ makes ys

-- `over` are the transactions whose Commits stood in the log at a checkpoint: of these the thin one may lack Commits, and lacks votes
pub record ReadsAlike (over : List Tid) (full thin : Recovery) : Type 0 where
  pub files : MakesSame full.files thin.files
  pub audit : MakesSame full.audit thin.audit
  pub extra : MakesSame full.extra thin.extra
  pub prepared : thin.prepared ≡ filter (is_beyond over) full.prepared
  pub untold : thin.untold ≡ full.untold
  pub over_are : (tid : Tid) → is_among over tid ≡ true → is_among full.committed tid ≡ true
  pub fewer : (tid : Tid) → is_among thin.committed tid ≡ true → is_among full.committed tid ≡ true
  pub others : filter (is_left over) thin.committed ≡ filter (is_left over) full.committed

abbrev pub EachReadsLikeItself : Type 0
EachReadsLikeItself = (said : Recovery) → ReadsAlike [] said said

-- ---- further records

-- nothing is voted on or committed again that is over
abbrev pub is_fresh : List Tid → Record → Bool
is_fresh over (records.Prepare tid server covers changes) = not (is_among over tid)
is_fresh over (records.Commit tid told) = not (is_among over tid)
is_fresh over (records.Aborted tid) = true
is_fresh over (records.End tid) = true

abbrev pub EachStaysAlike : Type 0
EachStaysAlike = (over : List Tid) (full thin more : List Record) → list_all (is_fresh over) more ≡ true
    → ReadsAlike over (recovery full) (recovery thin) → ReadsAlike over (recovery (full ++ more)) (recovery (thin ++ more))

-- ---- a checkpoint

-- the contents of the servers are what the log makes
pub record AreContents (files audit extra : List Op) (said : Recovery) : Type 0 where
  pub files_are : MakesSame said.files files
  pub audit_are : MakesSame said.audit audit
  pub extra_are : MakesSame said.extra extra

-- the state of a log reads like all that the log reads like; over is now what was over, and each transaction that the log has as committed
abbrev pub EachStateReadsAlike : Type 0
EachStateReadsAlike = (over : List Tid) (full thin : List Record) (node : ℕ) (files audit extra : List Op) → are_unended (recovery thin) ≡ true → AreContents files audit extra (recovery thin)
    → ReadsAlike over (recovery full) (recovery thin) → ReadsAlike (over ++ (recovery thin).committed) (recovery full) (recovery (state node files audit extra (recovery thin)))

-- ---- a restart

-- it finds the same votes in doubt and the same Commits to be told; of the votes that stand open, and of all Commits, only some of what is over may lack
pub record FindsSame (over : List Tid) (full thin : Recovery) : Type 0 where
  pub doubts : in_doubt thin ≡ in_doubt full
  pub commits : untold thin ≡ untold full
  pub votes : open_votes thin ≡ filter (λ (vote : OpenVote). is_left over vote.tid) (open_votes full)
  pub others : filter (is_left over) thin.committed ≡ filter (is_left over) full.committed

abbrev pub EachFindsSame : Type 0
EachFindsSame = (over : List Tid) (full thin : Recovery) → are_unended full ≡ true → ReadsAlike over full thin → FindsSame over full thin
