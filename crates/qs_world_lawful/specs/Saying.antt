-- How what a log says of contents and changes goes on by entries of its node and the record beside them: by entries that touch
-- neither; by an end of a transaction's records; by a vote and its Prepare; and by a transaction that its servers learn to be
-- committed, and its Commit.
use Rattle.std.specs.Prelude.{◌≡◌, ℕ, true, false, ◌&&◌, ◌==◌, ◌++◌, List, [], ◌∷◌, None, Some, length, map, nat_lt, slice_get, ⊤}
use Rattle.qs_base.specs.Order.{same_tid}
use Rattle.qs_base.specs.declared.identifiers.NodeNo.{NodeNo}
use Rattle.qs_base.specs.declared.identifiers.Outcome.TheVariants as outcomes
use Rattle.qs_base.specs.declared.identifiers.ServerNo.{ServerNo}
use Rattle.qs_base.specs.declared.identifiers.Tid.{Tid}
use Rattle.qs_book_journal.specs.declared.entry.Act.{Act}
use Rattle.qs_book_journal.specs.declared.entry.Act.TheVariants as acts
use Rattle.qs_book_journal.specs.declared.entry.Entry.{Entry}
use Rattle.qs_book_laws.specs.Laws.{IsCoherent}
use Rattle.qs_book_laws.specs.Learning.{AllLearn, HasLearnt, learning}
use Rattle.qs_book_laws.specs.Served.{keeps_contents}
use Rattle.qs_book_machine.specs.Book.{BookValue, crossed_in, find_transaction, inc_at, pending_in}
use Rattle.qs_book_machine.specs.Lawful.{IsLawful, book_after, broken, effect}
use Rattle.qs_book_machine.specs.Nodes as machine
use Rattle.qs_book_machine.specs.Opening.{opening}
use Rattle.qs_book_machine.specs.Restart.{is_among, member_at, votes_once}
use Rattle.qs_book_machine.specs.declared.opened.Opened.{Opened}
use Rattle.qs_ops.specs.Server.{changes_in}
use Rattle.qs_ops.specs.Servers.{files_no}
use Rattle.qs_ops.specs.declared.operation.Op.{Op}
use Rattle.qs_ops.specs.declared.vote.Vote.TheVariants as votes
use Rattle.qs_record.specs.declared.record.Record.{Record}
use Rattle.qs_record.specs.declared.record.Record.TheVariants as made
use Rattle.qs_restart.specs.Recovery.{Prepared, Recovery, ended, found_commit, found_prepare, is_of, names_transaction, recovery}
use Rattle.qs_node_servers.specs.Servers.{server_at}
use Rattle.qs_node_step.specs.State.{NodeValue, Work, here, part_of}
use Rattle.qs_node_step.specs.Voting.{vote_with}
use Rattle.qs_tm.specs.Manager as tm
use Rattle.qs_tm.specs.Participant.{learners}
use Rattle.qs_tm.specs.declared.participant.Participant.{Participant}
use Rattle.qs_world.specs.Posting.{entries_of, entry_of}
use Rattle.qs_world_lawful.specs.Entering.{book_at, entries_so_far}
use Rattle.qs_world_lawful.specs.Holds.{Holds}
use Rattle.qs_world_lawful.specs.Lasting.{Lasts}
use Rattle.qs_world_lawful.specs.Logged.{HasCommitted, HoldsLogged, HoldsLogs, IsPlain, is_plain}
use Rattle.qs_world_lawful.specs.Logs.{Every, found_of}
use Rattle.qs_world_lawful.specs.Said.{HoldsSaid, IsApart, IsAsRecorded, IsMadeBy, IsUndone, SameContents}

-- what HoldsSaid has, but for what is in doubt at its home
pub record HoldsMade (here : ℕ) (book : BookValue) (state : machine.NodeValue) (log : Recovery) : Type 0 where
  pub files : IsMadeBy state.files log.files
  pub audit : IsMadeBy state.audit log.audit
  pub recorded : Every (IsAsRecorded here book state) log.prepared
  pub apart : Every (IsApart log) log.prepared
  pub gone : (tid : Tid) (server : ℕ) → keeps_contents server ≡ true → is_among log.committed tid ≡ true → machine.record_of state tid server ≡ None

-- ---- what the machine does

-- what is crossed at this node stays so
abbrev pub StaysCrossed : ℕ → BookValue → BookValue → Type 0
StaysCrossed here old new = (tid : Tid) (server : ℕ) → crossed_in (find_transaction new tid) (member_at here server) ≡ false → crossed_in (find_transaction old tid) (member_at here server) ≡ false

-- neither committed contents nor what is on record changes
pub record KeepsSaid (here : ℕ) (old new : BookValue) (state later : machine.NodeValue) : Type 0 where
  pub files : SameContents state.files later.files
  pub audit : SameContents state.audit later.audit
  pub records : (tid : Tid) (server : ℕ) → machine.record_of later tid server ≡ machine.record_of state tid server
  pub crossed : StaysCrossed here old new

-- a vote is on record now, and nothing else changes
pub record PutsVote (here : ℕ) (old new : BookValue) (state later : machine.NodeValue) (vote : Prepared) : Type 0 where
  pub files : SameContents state.files later.files
  pub audit : SameContents state.audit later.audit
  pub others : (tid : Tid) (server : ℕ) → (same_tid tid vote.tid && (server == vote.server.0)) ≡ false → machine.record_of later tid server ≡ machine.record_of state tid server
  pub own : IsAsRecorded here new later vote
  pub crossed : StaysCrossed here old new

-- a vote in doubt for what commits, and where the transaction is not crossed
pub record MayCommitHere (here : ℕ) (book : BookValue) (vote : Prepared) : Type 0 where
  pub doubt : vote.committed ≡ false
  pub clean : crossed_in (find_transaction book vote.tid) (member_at here vote.server.0) ≡ false

-- the servers of the node learn that it is committed, and commit what is on record of it; all that the log has of it is in doubt
pub record LearnsHere (here : ℕ) (old new : BookValue) (state later : machine.NodeValue) (log : Recovery) (tid : Tid) : Type 0 where
  pub learnt : HasLearnt tid state later
  pub crossed : StaysCrossed here old new
  pub committed : HasCommitted old tid
  pub named : names_transaction tid ≡ true
  pub votes : Every (λ (vote : Prepared). is_of tid vote ≡ true → MayCommitHere here old vote) log.prepared

-- ---- what the log says then

abbrev pub EachKeepsSaid : Type 0
EachKeepsSaid = (here : ℕ) (old new : BookValue) (state later : machine.NodeValue) (log : Recovery) → KeepsSaid here old new state later → HoldsMade here old state log → HoldsMade here new later log

abbrev pub EachEndKeepsSaid : Type 0
EachEndKeepsSaid = (here : ℕ) (book : BookValue) (state : machine.NodeValue) (log : Recovery) (tid : Tid) → HoldsMade here book state log → HoldsMade here book state (ended tid log)

abbrev pub EachVoteIsSaid : Type 0
EachVoteIsSaid = (here : ℕ) (old new : BookValue) (state later : machine.NodeValue) (log : Recovery) (vote : Prepared) → PutsVote here old new state later vote → is_among log.committed vote.tid ≡ false → HoldsMade here old state log → HoldsMade here new later (found_prepare vote log)

abbrev pub EachCommitIsSaid : Type 0
EachCommitIsSaid = (here : ℕ) (old new : BookValue) (state later : machine.NodeValue) (log : Recovery) (tid : Tid) (told : List NodeNo) → LearnsHere here old new state later log tid → votes_once (map found_of log.prepared) ≡ true → HoldsLogged here old state log → HoldsMade here old state log
    → HoldsMade here new later (found_commit tid told log)

-- and with what is in doubt at its home it is all of it
abbrev pub EachMadeIsSaid : Type 0
EachMadeIsSaid = (here : ℕ) (book : BookValue) (state : machine.NodeValue) (log : Recovery) → HoldsMade here book state log → Every (IsUndone here book) log.prepared → HoldsSaid here book state log

-- each server's vote for a transaction stands in a log once
abbrev pub EachVoteOnce : Type 0
EachVoteOnce = (log : List Record) → votes_once (map found_of (recovery log).prepared) ≡ true

-- ---- at entries of the machine

-- the node after entries, and what its log says then
pub record SaidAfter (here : ℕ) (new : BookValue) (log : Recovery) : Type 0 where
  pub state : machine.NodeValue
  pub there : slice_get new.nodes here ≡ Some state
  pub said : HoldsMade here new state log

-- these changes are what the member has pending, unless the transaction is crossed there; of files the machine has their count in any case
pub record ArePending (here : ℕ) (book : BookValue) (state : machine.NodeValue) (tid : Tid) (server : ServerNo) (ops : List Op) : Type 0 where
  pub changes : crossed_in (find_transaction book tid) (member_at here server.0) ≡ false → machine.pending_at state tid server.0 ≡ ops
  pub count : server.0 ≡ files_no → pending_in (find_transaction book tid) (member_at here server.0) (inc_at book (record { 0 = here })) ≡ length ops

-- a vote of changes that are pending, and its Prepare
abbrev pub EachVoteEnters : Type 0
EachVoteEnters = (opened : List Opened) (history : List Entry) (stamp here : ℕ) (state : machine.NodeValue) (tid : Tid) (server : ServerNo) (covers : ℕ) (changes : List Op) (records : List Record) → IsCoherent opened → IsLawful (opening opened) history
    → slice_get (book_after (opening opened) history).nodes here ≡ Some state → broken (book_after (opening opened) history) (entry_of here stamp (acts.Vote tid (member_at here server.0) votes.Recoverable covers)) ≡ None
    → is_among (recovery records).committed tid ≡ false → ArePending here (book_after (opening opened) history) state tid server changes → HoldsMade here (book_after (opening opened) history) state (recovery records)
    → SaidAfter here (effect (book_after (opening opened) history) (entry_of here stamp (acts.Vote tid (member_at here server.0) votes.Recoverable covers))) (recovery (records ++ made.Prepare tid server covers changes ∷ []))

-- all that the log has of the transaction is in doubt
abbrev pub AreInDoubt : Tid → Recovery → Type 0
AreInDoubt tid log = Every (λ (vote : Prepared). is_of tid vote ≡ true → vote.committed ≡ false) log.prepared

-- its servers learn that it is committed, and its Commit
abbrev pub EachCommitEnters : Type 0
EachCommitEnters = (opened : List Opened) (history : List Entry) (stamp here : ℕ) (state : machine.NodeValue) (tid : Tid) (servers : List ServerNo) (told : List NodeNo) (records : List Record) → IsCoherent opened → nat_lt here (length opened) ≡ true → nat_lt tid.home.0 (length opened) ≡ true
    → IsLawful (opening opened) history → HasCommitted (book_after (opening opened) history) tid → slice_get (book_after (opening opened) history).nodes here ≡ Some state → AllLearn (book_after (opening opened) history) tid here state servers
    → IsLawful (book_after (opening opened) history) (learning stamp here tid servers) → names_transaction tid ≡ true → AreInDoubt tid (recovery records) → HoldsLogged here (book_after (opening opened) history) state (recovery records)
    → HoldsMade here (book_after (opening opened) history) state (recovery records)
    → SaidAfter here (book_after (book_after (opening opened) history) (learning stamp here tid servers)) (recovery (records ++ made.Commit tid told ∷ []))

-- entries that put nothing on record and take nothing off
abbrev pub EachPlainEnters : Type 0
EachPlainEnters = (opened : List Opened) (history : List Entry) (stamp here : ℕ) (state : machine.NodeValue) (act : Act) (log : Recovery) → IsCoherent opened → IsLawful (opening opened) history → slice_get (book_after (opening opened) history).nodes here ≡ Some state
    → is_plain act ≡ true → broken (book_after (opening opened) history) (entry_of here stamp act) ≡ None → HoldsMade here (book_after (opening opened) history) state log → SaidAfter here (effect (book_after (opening opened) history) (entry_of here stamp act)) log

-- nothing that the log has of the transaction is in doubt
abbrev pub AreCommitted : Tid → Recovery → Type 0
AreCommitted tid log = Every (λ (vote : Prepared). is_of tid vote ≡ true → vote.committed ≡ true) log.prepared

-- its servers learn that it is committed, where the log has nothing in doubt of it: no Commit is written
abbrev pub EachLearningEnters : Type 0
EachLearningEnters = (opened : List Opened) (history : List Entry) (stamp here : ℕ) (state : machine.NodeValue) (tid : Tid) (servers : List ServerNo) (log : Recovery) → IsCoherent opened → nat_lt here (length opened) ≡ true → nat_lt tid.home.0 (length opened) ≡ true
    → IsLawful (opening opened) history → HasCommitted (book_after (opening opened) history) tid → slice_get (book_after (opening opened) history).nodes here ≡ Some state → AllLearn (book_after (opening opened) history) tid here state servers
    → IsLawful (book_after (opening opened) history) (learning stamp here tid servers) → AreCommitted tid log → HoldsLogged here (book_after (opening opened) history) state log → HoldsMade here (book_after (opening opened) history) state log
    → SaidAfter here (book_after (book_after (opening opened) history) (learning stamp here tid servers)) log

-- ---- in the middle of a step: what it needs is so, since the machine holds what the node has

abbrev pub EachPendingIsHeld : Type 0
EachPendingIsHeld = (stamp : ℕ) (book : BookValue) (node : NodeValue) (tid : Tid) (server : ServerNo) (h : Holds stamp book node) → keeps_contents server.0 ≡ true → ArePending node.setting.node.0 book h.state tid server (changes_in (server_at node.servers server) tid)

abbrev pub EachLearnerIsHeld : Type 0
EachLearnerIsHeld = (stamp : ℕ) (book : BookValue) (node : NodeValue) (tid : Tid) (part : Participant) (h : Holds stamp book node) → tm.part_of tid node.manager ≡ Some part → AllLearn book tid node.setting.node.0 h.state (learners part)

-- in the middle of a step: what the log will say with the records of the step so far
abbrev pub SaidAt : ℕ → BookValue → List Record → List Record → Work → Type 0
SaidAt stamp before disk waiting work = SaidAfter (here work).0 (book_at stamp before work) (recovery (disk ++ (waiting ++ work.out.records)))

-- the rule by which a server votes recoverable
abbrev pub EachVoteSays : Type 0
EachVoteSays = (opened : List Opened) (history : List Entry) → IsCoherent opened → IsLawful (opening opened) history → (stamp : ℕ) (disk waiting : List Record) (tid : Tid) (server : ServerNo) (work : Work) (part : Participant) → part_of tid work ≡ Some part → part.outcome ≡ None
    → keeps_contents server.0 ≡ true → Lasts (book_at stamp (book_after (opening opened) history) work) → IsLawful (book_after (opening opened) history) (entries_so_far stamp (vote_with tid server votes.Recoverable work)) → HoldsLogs stamp (book_after (opening opened) history) disk waiting work
    → Holds stamp (book_at stamp (book_after (opening opened) history) work) work.node → SaidAt stamp (book_after (opening opened) history) disk waiting work → SaidAt stamp (book_after (opening opened) history) disk waiting (vote_with tid server votes.Recoverable work)

-- rules that make no record, and put nothing on record and take nothing off
abbrev pub EachQuietSays : Type 0
EachQuietSays = (opened : List Opened) (history : List Entry) → IsCoherent opened → IsLawful (opening opened) history → (stamp : ℕ) (disk waiting : List Record) (work new : Work) (more : List Act) → new.out.entries ≡ work.out.entries ++ more → Every IsPlain more
    → new.out.records ≡ work.out.records → new.node.setting ≡ work.node.setting → IsLawful (book_after (opening opened) history) (entries_so_far stamp new) → SaidAt stamp (book_after (opening opened) history) disk waiting work → SaidAt stamp (book_after (opening opened) history) disk waiting new

-- or that end a transaction's records
abbrev pub IsEnd : Record → Type 0
IsEnd (made.Aborted tid) = ⊤
IsEnd (made.End tid) = ⊤
IsEnd other = ⊥

abbrev pub EachEndSays : Type 0
EachEndSays = (opened : List Opened) (history : List Entry) → IsCoherent opened → IsLawful (opening opened) history → (stamp : ℕ) (disk waiting : List Record) (work new : Work) (more : List Act) (rec : Record) → new.out.entries ≡ work.out.entries ++ more → Every IsPlain more → IsEnd rec
    → new.out.records ≡ work.out.records ++ rec ∷ [] → new.node.setting ≡ work.node.setting → IsLawful (book_after (opening opened) history) (entries_so_far stamp new) → SaidAt stamp (book_after (opening opened) history) disk waiting work → SaidAt stamp (book_after (opening opened) history) disk waiting new

-- a rule by which the servers of the node learn that a transaction is committed, behind entries that put nothing on record, with its Commit
abbrev pub learn_all : NodeNo → Tid → List ServerNo → List Act
learn_all node tid servers = map (λ (server : ServerNo). acts.Learn tid (record { node = node; server = server }) outcomes.Commit) servers

abbrev pub book_then : ℕ → BookValue → Work → List Act → BookValue
book_then stamp before work front = book_after (book_at stamp before work) (entries_of (here work).0 stamp front)

abbrev pub EachCommitSays : Type 0
EachCommitSays = (opened : List Opened) (history : List Entry) → IsCoherent opened → IsLawful (opening opened) history → (stamp : ℕ) (disk waiting : List Record) (work new : Work) (tid : Tid) (front : List Act) (servers : List ServerNo) (told : List NodeNo)
    → new.out.entries ≡ work.out.entries ++ (front ++ learn_all (here work) tid servers) → Every IsPlain front → new.out.records ≡ work.out.records ++ made.Commit tid told ∷ [] → new.node.setting ≡ work.node.setting
    → nat_lt (here work).0 (length opened) ≡ true → nat_lt tid.home.0 (length opened) ≡ true → IsLawful (book_after (opening opened) history) (entries_so_far stamp new) → HasCommitted (book_then stamp (book_after (opening opened) history) work front) tid
    → ((state : machine.NodeValue) → slice_get (book_then stamp (book_after (opening opened) history) work front).nodes (here work).0 ≡ Some state → AllLearn (book_then stamp (book_after (opening opened) history) work front) tid (here work).0 state servers)
    → AreInDoubt tid (recovery (disk ++ (waiting ++ work.out.records))) → HoldsLogs stamp (book_after (opening opened) history) disk waiting work → SaidAt stamp (book_after (opening opened) history) disk waiting work
    → SaidAt stamp (book_after (opening opened) history) disk waiting new
