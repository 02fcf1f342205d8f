-- What a step's own votes say of what the machine had before it: beside what its member has pending, each was due as the step began.
use Rattle.std.specs.Prelude.{◌≡◌, ◌⊎◌, ⊤, ℕ, Bool, true, false, not, ◌&&◌, ◌||◌, List, ◌∷◌, ◌++◌, Some, is_some, nat_lt}
use Rattle.qs_base.specs.declared.identifiers.Member.{Member}
use Rattle.qs_base.specs.declared.identifiers.Tid.{Tid}
use Rattle.qs_book_journal.specs.declared.entry.Act.{Act}
use Rattle.qs_book_journal.specs.declared.entry.Act.TheVariants as acts
use Rattle.qs_book_journal.specs.declared.entry.CrashCause.{CrashCause}
use Rattle.qs_book_journal.specs.declared.entry.Entry.{Entry}
use Rattle.qs_book_laws.proofs.Outcomes.{Inv}
use Rattle.qs_book_laws.specs.Laws.{IsCoherent}
use Rattle.qs_book_machine.specs.Book.{BookValue, crash_node, find_transaction, inc_at}
use Rattle.qs_book_machine.specs.Clauses.{has_vote}
use Rattle.qs_book_machine.specs.Lawful.{IsLawful, book_after, effect}
use Rattle.qs_book_machine.specs.Nodes as machine
use Rattle.qs_book_machine.specs.Nodes.{pending_at}
use Rattle.qs_book_machine.specs.Opening.{opening}
use Rattle.qs_book_machine.specs.Restart.{member_at}
use Rattle.qs_book_machine.specs.Transaction.{TransactionValue, is_before, is_commit, is_covering, is_crossed, is_empty, part_of, was_crossed}
use Rattle.qs_book_machine.specs.declared.opened.Opened.{Opened}
use Rattle.qs_ops.specs.declared.vote.Vote.{Vote}
use Rattle.qs_ops.specs.declared.vote.Vote.TheVariants as votes
use Rattle.qs_record.specs.declared.record.Record.{Record}
use Rattle.qs_record.specs.declared.record.Record.TheVariants as made
use Rattle.qs_restart.specs.Recovery.{Prepared, recovery}
use Rattle.qs_node_step.specs.State.{NodeValue}
use Rattle.qs_node_step.specs.Step.{effects_of}
use Rattle.qs_node_step.specs.declared.event.Event.{Event}
use Rattle.qs_world.specs.Posting.{entries_of, entry_of}
use Rattle.qs_world_lawful.specs.Logged.{IsNamed}
use Rattle.qs_world_lawful.specs.Logs.{Every, IsCutVote, IsVoteLogged}

-- what a vote needs beside what its member has pending: asked and not committed, something served since the last vote, and covers that count
abbrev pub is_due_vote : Member → ℕ → ℕ → TransactionValue → Bool
is_due_vote member inc covers tx =
    (is_some tx.asked && not (is_commit tx.cell)) && (nat_lt (part_of tx member inc).voted (part_of tx member inc).served && is_covering tx member inc covers)

pub record IsVoteDue (book : BookValue) (tid : Tid) (member : Member) (inc covers : ℕ) : Type 0 where
  pub tx : TransactionValue
  pub found : find_transaction book tid ≡ Some tx
  pub due : is_due_vote member inc covers tx ≡ true

-- that vote is among these
pub record EntersVote (tid : Tid) (member : Member) (ballot : Vote) (covers : ℕ) (done : List Act) : Type 0 where
  pub before : List Act
  pub after : List Act
  pub is : done ≡ before ++ acts.Vote tid member ballot covers ∷ after

-- each vote of a step was due as the step began
abbrev pub StepsVoteDue : Type 0
StepsVoteDue = (tid : Tid) (n stamp : ℕ) (node : NodeValue) (event : Event) (free : ℕ) (book : BookValue) → Inv book → IsLawful book (entries_of n stamp (effects_of node event free).entries)
    → (member : Member) (ballot : Vote) (covers : ℕ) → EntersVote tid member ballot covers (effects_of node event free).entries → IsVoteDue book tid member (inc_at book (record { 0 = n })) covers

-- ---- what is marked with a place stands before the next

-- commit was asked for, and it was crossed where it is, before that place in the history
pub record IsMarkedBefore (place : ℕ) (tx : TransactionValue) : Type 0 where
  pub asked : is_some tx.asked ≡ true → is_before place tx.asked ≡ true
  pub crossed : (member : Member) → is_crossed tx member ≡ true → was_crossed place tx member ≡ true

abbrev pub EachMarkedBefore : Type 0
EachMarkedBefore = (opened : List Opened) (entries : List Entry) → IsCoherent opened → IsNamed (opening opened) → IsLawful (opening opened) entries → (tid : Tid) (tx : TransactionValue)
    → find_transaction (book_after (opening opened) entries) tid ≡ Some tx → IsMarkedBefore (book_after (opening opened) entries).place tx

-- a vote that is due as its node stops could be made then, of a server that has such votes, where its member has something pending or the
-- transaction is crossed there
abbrev pub DueVotesCut : Type 0
DueVotesCut = (n stamp : ℕ) (cause : CrashCause) (book : BookValue) (state : machine.NodeValue) (vote : Prepared) (tx : TransactionValue) → find_transaction book vote.tid ≡ Some tx → IsMarkedBefore book.place tx
    → is_due_vote (member_at n vote.server.0) state.inc vote.covers tx ≡ true → has_vote vote.server.0 votes.Recoverable ≡ true → (is_crossed tx (member_at n vote.server.0) || not (is_empty (pending_at state vote.tid vote.server.0))) ≡ true
    → IsCutVote n (effect book (entry_of n stamp (acts.Crash cause))) (crash_node book.place state) vote

-- ---- the log

-- of a Prepare, as the vote that a log says of it
abbrev pub IsOfPrepare : (Prepared → Type 0) → Record → Type 0
IsOfPrepare P (made.Prepare tid server covers changes) = P (record { tid = tid; server = server; covers = covers; changes = changes; committed = false })
IsOfPrepare P rec = ⊤

-- a batch leaves votes that stood on record or applied so, and its own Prepares that could be made as votes of a step that was cut off
abbrev pub BatchLeavesVotes : Type 0
BatchLeavesVotes = (n : ℕ) (book : BookValue) (state : machine.NodeValue) (disk waiting records : List Record) → Every (IsVoteLogged n book state (recovery (disk ++ waiting))) (recovery (disk ++ waiting)).prepared
    → Every (IsOfPrepare (IsCutVote n book state)) records
    → Every (λ (vote : Prepared). IsVoteLogged n book state (recovery ((disk ++ waiting) ++ records)) vote ⊎ IsCutVote n book state vote) (recovery ((disk ++ waiting) ++ records)).prepared
