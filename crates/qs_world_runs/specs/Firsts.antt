-- What comes first in a step: a home commits, and servers vote, before the step asks for the commit or serves a request; and a home commits before it votes, lends or takes a loan back.
use Rattle.std.specs.Prelude.{◌≡◌, ◌⊎◌, ℕ, Bool, true, false, not, ◌&&◌, ◌||◌, List, [], ◌∷◌, ◌++◌, Option, Some, None}
use Rattle.std.specs.List.{list_any}
use Rattle.qs_base.specs.Order.{same_tid}
use Rattle.qs_base.specs.declared.identifiers.Outcome.TheVariants as outcomes
use Rattle.qs_base.specs.declared.identifiers.Tid.{Tid}
use Rattle.qs_book_journal.specs.declared.entry.Act.{Act}
use Rattle.qs_book_journal.specs.declared.entry.Act.TheVariants as acts
use Rattle.qs_book_laws.proofs.Outcomes.{Inv}
use Rattle.qs_book_machine.specs.Book.{BookValue, find_transaction}
use Rattle.qs_book_machine.specs.Lawful.{IsLawful, book_after}
use Rattle.qs_book_machine.specs.Transaction.{TransactionValue, is_commit, is_unanimous}
use Rattle.qs_ops.specs.declared.answer.Cause.{Cause}
use Rattle.qs_node_step.specs.Settling.{is_quiet}
use Rattle.qs_node_step.specs.State.{NodeValue}
use Rattle.qs_node_step.specs.Step.{effects_of, step_work}
use Rattle.qs_node_step.specs.declared.event.Event.{Event}
use Rattle.qs_world.specs.Posting.{entries_of}
use Rattle.qs_world_lawful.specs.Logged.{HasCommitted}
use Rattle.qs_world_runs.specs.Deeds.{Deeds, deeds_of, doings_in}

-- ---- commits

-- what a step notes of the transaction; and no step enters a restart
abbrev pub is_noted : Tid → Act → Bool
is_noted tid (acts.Ask t) = same_tid t tid
is_noted tid (acts.Serve t member from number reply) = same_tid t tid
is_noted tid (acts.Vote t member ballot covers) = same_tid t tid
is_noted tid (acts.Loan t client) = same_tid t tid
is_noted tid (acts.Yield t client) = same_tid t tid
is_noted tid (acts.Restart inc pend done) = true
is_noted tid act = false

abbrev pub is_commit_of : Tid → Act → Bool
is_commit_of tid (acts.Decide t outcomes.Commit cause) = same_tid t tid
is_commit_of tid (acts.Restart inc pend done) = true
is_commit_of tid act = false

pub record CommitsFirst (tid : Tid) (done : List Act) : Type 0 where
  pub before : List Act
  pub cause : Option Cause
  pub after : List Act
  pub is : done ≡ before ++ acts.Decide tid outcomes.Commit cause ∷ after
  pub unnoted : list_any (is_noted tid) before ≡ false

-- where nothing was noted that forbids its commit, the step did none of it
pub record Unnoted (tid : Tid) (d : Deeds) : Type 0 where
  pub none : is_quiet (doings_in tid d) ≡ true → list_any (is_noted tid) d.trace.entries ≡ false

-- it is not committed, and what was noted forbids that
pub record StaysOpen (tid : Tid) (d : Deeds) : Type 0 where
  pub none : list_any (is_commit_of tid) d.trace.entries ≡ false
  pub unnoted : Unnoted tid d

abbrev pub CommitsSo : Tid → Deeds → Type 0
CommitsSo tid d = CommitsFirst tid d.trace.entries ⊎ StaysOpen tid d

abbrev pub StepsCommitFirst : Type 0
StepsCommitFirst = (tid : Tid) (node : NodeValue) (event : Event) (free : ℕ) → CommitsSo tid (deeds_of (step_work node event free))

-- what is committed after a step was unanimous as it began, if it was undecided then
abbrev pub CommitsUnanimous : Type 0
CommitsUnanimous = (tid : Tid) (n stamp : ℕ) (node : NodeValue) (event : Event) (free : ℕ) (book : BookValue) → Inv book → IsLawful book (entries_of n stamp (effects_of node event free).entries)
    → HasCommitted (book_after book (entries_of n stamp (effects_of node event free).entries)) tid → (tx : TransactionValue) → find_transaction book tid ≡ Some tx → is_commit tx.cell ≡ false → is_unanimous tx ≡ true

-- and what is committed after a step stood as it began: what begins in it is not committed in it
abbrev pub CommitsStood : Type 0
CommitsStood = (tid : Tid) (n stamp : ℕ) (node : NodeValue) (event : Event) (free : ℕ) (book : BookValue) → Inv book → IsLawful book (entries_of n stamp (effects_of node event free).entries)
    → HasCommitted (book_after book (entries_of n stamp (effects_of node event free).entries)) tid → find_transaction book tid ≡ None → ⊥

-- ---- votes

-- the step asks for its commit, or serves a request of it
abbrev pub is_asked_or_served : Tid → Act → Bool
is_asked_or_served tid (acts.Ask t) = same_tid t tid
is_asked_or_served tid (acts.Serve t member from number reply) = same_tid t tid
is_asked_or_served tid act = false

abbrev pub is_vote_of : Tid → Act → Bool
is_vote_of tid (acts.Vote t member ballot covers) = same_tid t tid
is_vote_of tid act = false

-- each vote on it comes before any of these; whether one came already
abbrev pub votes_first : Tid → Bool → List Act → Bool
votes_first tid came [] = true
votes_first tid came (act ∷ done) = not (is_vote_of tid act && came) && votes_first tid (came || is_asked_or_served tid act) done

abbrev pub StepsVoteFirst : Type 0
StepsVoteFirst = (tid : Tid) (node : NodeValue) (event : Event) (free : ℕ) → votes_first tid false (effects_of node event free).entries ≡ true
