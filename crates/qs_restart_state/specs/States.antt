-- The state of a node as records, which takes the place of its log at a checkpoint; and what it says.
use Rattle.std.specs.Prelude.{◌≡◌, ℕ, Bool, true, not, ◌&&◌, ◌||◌, List, [], ◌∷◌, ◌++◌, map}
use Rattle.std.specs.List.{filter, list_any, list_all}
use Rattle.qs_base.specs.Order.{same_tid}
use Rattle.qs_base.specs.declared.identifiers.ServerNo.{ServerNo}
use Rattle.qs_base.specs.declared.identifiers.Tid.{Tid}
use Rattle.qs_ops.specs.declared.operation.Op.{Op}
use Rattle.qs_record.specs.declared.record.Record.{Record}
use Rattle.qs_record.specs.declared.record.Record.TheVariants as records
use Rattle.qs_restart.specs.Recovery.{Prepared, Untold, Recovery, files_no, audit_no, extra_no, names_transaction, is_untold_of, recovery, prepare_of, commit_of}

-- ---- the state

-- its identifier: of this node, and of no transaction
abbrev pub state_tid : ℕ → Tid
state_tid node = record { home = record { 0 = node }; inc = 0; seq = 0 }

-- a Prepare with the contents of a server, where it has any
abbrev pub contents_at : Tid → ServerNo → List Op → List Record
contents_at tid server [] = []
contents_at tid server (op ∷ ops) = records.Prepare tid server 0 (op ∷ ops) ∷ []

-- the contents of each server, in order of numbers, and their Commit
abbrev pub contents_of : Tid → List Op → List Op → List Op → List Record
contents_of tid files audit extra = contents_at tid files_no files ++ (contents_at tid audit_no audit ++ (contents_at tid extra_no extra ++ records.Commit tid [] ∷ []))

abbrev pub is_undecided : Prepared → Bool
is_undecided vote = not vote.committed

-- the last Prepare of each transaction and server that is not ended and has no Commit, in log order
abbrev pub undecided_of : Recovery → List Record
undecided_of said = map prepare_of (filter is_undecided said.prepared)

-- the Commits with a list and no End, in log order
abbrev pub listed_of : Recovery → List Record
listed_of said = map commit_of said.untold

-- the state of a node with these contents, over a log that says this
abbrev pub state : ℕ → List Op → List Op → List Op → Recovery → List Record
state node files audit extra said = contents_of (state_tid node) files audit extra ++ (undecided_of said ++ listed_of said)

-- ---- a coherent log, as far as its votes and Commits that are not ended go

-- a vote without a Commit behind it is of a transaction of which the log has no Commit at all
abbrev pub is_doubt : Recovery → Prepared → Bool
is_doubt said vote =
    vote.committed
    || (names_transaction vote.tid && (not (list_any (is_untold_of vote.tid) said.untold) && not (list_any (same_tid vote.tid) said.committed)))

abbrev pub is_numbered : Untold → Bool
is_numbered commit = names_transaction commit.tid

abbrev pub are_unended : Recovery → Bool
are_unended said = list_all (is_doubt said) said.prepared && list_all is_numbered said.untold

-- ---- what it says

abbrev pub tid_of : Untold → Tid
tid_of commit = commit.tid

-- the contents, the votes in doubt, the Commits to be told; and of no other transaction that it was committed
abbrev pub state_said : List Op → List Op → List Op → Recovery → Recovery
state_said files audit extra said = record {
  files = files;
  audit = audit;
  extra = extra;
  prepared = filter is_undecided said.prepared;
  untold = said.untold;
  committed = map tid_of said.untold;
}

abbrev pub EachStateSays : Type 0
EachStateSays = (node : ℕ) (files audit extra : List Op) (log : List Record) → are_unended (recovery log) ≡ true
    → recovery (state node files audit extra (recovery log)) ≡ state_said files audit extra (recovery log)

abbrev pub EachStateIsCoherent : Type 0
EachStateIsCoherent = (node : ℕ) (files audit extra : List Op) (log : List Record) → are_unended (recovery log) ≡ true
    → are_unended (recovery (state node files audit extra (recovery log))) ≡ true
