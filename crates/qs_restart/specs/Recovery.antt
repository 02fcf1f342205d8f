-- What a log says: the fold of its records.
use Rattle.std.specs.Prelude.{ℕ, ◌==◌, Bool, true, false, not, ◌&&◌, List, [], ◌∷◌, ◌++◌, fold, map, if◌then◌else◌, nat_lt}
use Rattle.std.specs.List.{filter, flat_map}
use Rattle.qs_base.specs.Order.{same_tid}
use Rattle.qs_base.specs.declared.identifiers.NodeNo.{NodeNo}
use Rattle.qs_base.specs.declared.identifiers.ServerNo.{ServerNo}
use Rattle.qs_base.specs.declared.identifiers.Tid.{Tid}
use Rattle.qs_ops.specs.Servers as servers
use Rattle.qs_ops.specs.declared.operation.Op.{Op}
use Rattle.qs_record.specs.declared.record.Record.{Record}
use Rattle.qs_record.specs.declared.record.Record.TheVariants as records
use Rattle.qs_restart.specs.declared.recovered.OpenVote.{OpenVote}

-- a server's vote that is not ended
pub record Prepared : Type 0 where
  pub tid : Tid
  pub server : ServerNo
  pub covers : ℕ
  pub changes : List Op
  pub committed : Bool  -- a Commit with a list stands behind it

-- a Commit whose list has still to be told
pub record Untold : Type 0 where
  pub tid : Tid
  pub told : List NodeNo

pub record Recovery : Type 0 where
  pub files : List Op  -- the committed changes of files, in order
  pub audit : List Op  -- of audit
  pub extra : List Op  -- and of the further server
  pub prepared : List Prepared  -- the last vote of each transaction and server that is not ended, in order of their places
  pub untold : List Untold  -- the Commits with a list and no End
  pub committed : List Tid  -- the transactions of all Commits, in order

abbrev pub nothing_said : Recovery
nothing_said = record { files = []; audit = []; extra = []; prepared = []; untold = []; committed = [] }

abbrev pub files_no : ServerNo
files_no = record { 0 = servers.files_no }

abbrev pub audit_no : ServerNo
audit_no = record { 0 = servers.audit_no }

abbrev pub extra_no : ServerNo
extra_no = record { 0 = servers.extra_no }

-- transactions are numbered from 1: number 0 is the state of a node that stands at the front of a later log
abbrev pub names_transaction : Tid → Bool
names_transaction tid = nat_lt 0 tid.seq

-- ---- record by record

abbrev pub is_vote_of : Tid → ServerNo → Prepared → Bool
is_vote_of tid server vote = same_tid vote.tid tid && (vote.server.0 == server.0)

abbrev pub is_of : Tid → Prepared → Bool
is_of tid vote = same_tid vote.tid tid

abbrev pub is_untold_of : Tid → Untold → Bool
is_untold_of tid commit = same_tid commit.tid tid

-- a later vote takes the place of the earlier one
abbrev pub found_prepare : Prepared → Recovery → Recovery
found_prepare vote said = record said {
  prepared = filter (λ other. not (is_vote_of vote.tid vote.server other)) said.prepared ++ vote ∷ [];
}

-- the changes that a Commit commits at a server
abbrev pub changes_at : ServerNo → Tid → Recovery → List Op
changes_at server tid said = flat_map (λ (vote : Prepared). vote.changes) (filter (is_vote_of tid server) said.prepared)

-- the transaction's records are ended
abbrev pub ended : Tid → Recovery → Recovery
ended tid said = record said {
  prepared = filter (λ vote. not (is_of tid vote)) said.prepared;
  untold = filter (λ commit. not (is_untold_of tid commit)) said.untold;
}

abbrev pub mark_committed : Tid → Prepared → Prepared
mark_committed tid vote = if is_of tid vote then record vote { committed = true } else vote

-- a Commit with no list ends the transaction's records; one with a list has still to be told
abbrev pub with_list : Tid → List NodeNo → Recovery → Recovery
with_list tid [] said = ended tid said
with_list tid told said = record said {
  prepared = map (mark_committed tid) said.prepared;
  untold = said.untold ++ record { tid = tid; told = told } ∷ [];
}

abbrev pub found_commit : Tid → List NodeNo → Recovery → Recovery
found_commit tid told said =
    with_list tid told (record said {
      files = said.files ++ changes_at files_no tid said;
      audit = said.audit ++ changes_at audit_no tid said;
      extra = said.extra ++ changes_at extra_no tid said;
      committed = said.committed ++ (if names_transaction tid then tid ∷ [] else []);
    })

abbrev pub found_record : Recovery → Record → Recovery
found_record said (records.Prepare tid server covers changes) =
    found_prepare (record { tid = tid; server = server; covers = covers; changes = changes; committed = false }) said
found_record said (records.Commit tid told) = found_commit tid told said
found_record said (records.Aborted tid) = ended tid said
found_record said (records.End tid) = ended tid said

-- what a log says
abbrev pub recovery : List Record → Recovery
recovery log = fold found_record nothing_said log

-- ---- what a restart tells of it

abbrev pub open_vote : Prepared → OpenVote
open_vote vote = record { tid = vote.tid; server = vote.server; covers = vote.covers }

-- the votes that stand open
abbrev pub open_votes : Recovery → List OpenVote
open_votes said = map open_vote (filter (λ vote. names_transaction vote.tid) said.prepared)

-- of these, those with no Commit: their outcome is not known here
abbrev pub is_in_doubt : Prepared → Bool
is_in_doubt vote = names_transaction vote.tid && not vote.committed

abbrev pub prepare_of : Prepared → Record
prepare_of vote = records.Prepare vote.tid vote.server vote.covers vote.changes

abbrev pub in_doubt : Recovery → List Record
in_doubt said = map prepare_of (filter is_in_doubt said.prepared)

abbrev pub commit_of : Untold → Record
commit_of commit = records.Commit commit.tid commit.told

abbrev pub untold : Recovery → List Record
untold said = map commit_of (filter (λ commit. names_transaction commit.tid) said.untold)
