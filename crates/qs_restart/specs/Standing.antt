-- What stands open in a log, told by what stands behind it.
use Rattle.std.specs.Prelude.{◌≡◌, ℕ, Bool, not, ◌&&◌, List, [], ◌∷◌, ◌++◌, if◌then◌else◌}
use Rattle.std.specs.List.{filter, flat_map, list_any}
use Rattle.qs_base.specs.declared.identifiers.NodeNo.{NodeNo}
use Rattle.qs_base.specs.declared.identifiers.ServerNo.{ServerNo}
use Rattle.qs_base.specs.declared.identifiers.Tid.{Tid}
use Rattle.qs_ops.specs.declared.operation.Op.{Op}
use Rattle.qs_record.specs.declared.record.Record.{Record}
use Rattle.qs_record.specs.declared.record.Record.TheVariants as records
use Rattle.qs_restart.specs.Places.{is_prepare_of, is_listed_of, is_end_of, has_none}
use Rattle.qs_restart.specs.Recovery.{Prepared, Untold, Recovery, files_no, audit_no, extra_no, is_vote_of}

-- a vote, where no later vote of its transaction and server stands behind it, and nothing that ends the transaction
abbrev pub open_at : Tid → ServerNo → ℕ → List Op → List Record → List Prepared
open_at tid server covers changes behind =
    if not (list_any (is_prepare_of tid server) behind) && not (list_any (is_end_of tid) behind)
    then record { tid = tid; server = server; covers = covers; changes = changes; committed = list_any (is_listed_of tid) behind } ∷ []
    else []

abbrev pub open_prepares : List Record → List Prepared
open_prepares [] = []
open_prepares (records.Prepare tid server covers changes ∷ behind) = open_at tid server covers changes behind ++ open_prepares behind
open_prepares (records.Commit tid told ∷ behind) = open_prepares behind
open_prepares (records.Aborted tid ∷ behind) = open_prepares behind
open_prepares (records.End tid ∷ behind) = open_prepares behind

-- a Commit with a list, where nothing behind it ends the transaction
abbrev pub untold_at : Tid → List NodeNo → List Record → List Untold
untold_at tid told behind =
    if not (has_none told) && not (list_any (is_end_of tid) behind) then record { tid = tid; told = told } ∷ [] else []

abbrev pub open_commits : List Record → List Untold
open_commits [] = []
open_commits (records.Prepare tid server covers changes ∷ behind) = open_commits behind
open_commits (records.Commit tid told ∷ behind) = untold_at tid told behind ++ open_commits behind
open_commits (records.Aborted tid ∷ behind) = open_commits behind
open_commits (records.End tid ∷ behind) = open_commits behind

-- the changes of the last vote of a transaction at a server, where it stands open
abbrev pub last_changes : Tid → ServerNo → List Record → List Op
last_changes tid server log = flat_map (λ (vote : Prepared). vote.changes) (filter (is_vote_of tid server) (open_prepares log))

-- ---- the state at the front of a later log: the contents of each server, under an identifier of number 0

abbrev pub state_tid : ℕ → Tid
state_tid node = record { home = record { 0 = node }; inc = 0; seq = 0 }

abbrev pub state : ℕ → List Op → List Op → List Op → List Record
state node files audit extra =
    records.Prepare (state_tid node) files_no 0 files ∷ records.Prepare (state_tid node) audit_no 0 audit
    ∷ records.Prepare (state_tid node) extra_no 0 extra ∷ records.Commit (state_tid node) [] ∷ []

pub record StateSays (files audit extra : List Op) (said : Recovery) : Type 0 where
  pub files_are : said.files ≡ files
  pub audit_are : said.audit ≡ audit
  pub extra_are : said.extra ≡ extra
  pub no_votes : said.prepared ≡ []
  pub no_commits : said.untold ≡ []
  pub none_committed : said.committed ≡ []
