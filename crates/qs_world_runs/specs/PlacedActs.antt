-- Which acts bear on what all places hold of a transaction.
use Rattle.std.specs.Prelude.{◌≡◌, Bool, true, false, List}
use Rattle.std.specs.List.{filter}
use Rattle.qs_base.specs.Order.{same_tid}
use Rattle.qs_base.specs.declared.identifiers.Tid.{Tid}
use Rattle.qs_book_journal.specs.declared.entry.Act.{Act}
use Rattle.qs_book_journal.specs.declared.entry.Act.TheVariants as acts
use Rattle.qs_book_machine.specs.Transaction.{TransactionValue, is_open}
use Rattle.qs_ops.specs.declared.vote.Vote.{Vote}
use Rattle.qs_ops.specs.declared.vote.Vote.TheVariants as votes
use Rattle.qs_world_runs.specs.Placed.{Field, Placed}

-- a request of it is issued or served, a vote is cast, a loan is made or given back; or a node restarts, which no step enters
abbrev pub is_loud : Tid → Act → Bool
is_loud tid (acts.Issue t issuer member number op) = same_tid t tid
is_loud tid (acts.Serve t member from number reply) = same_tid t tid
is_loud tid (acts.Vote t member ballot covers) = same_tid t tid
is_loud tid (acts.Loan t client) = same_tid t tid
is_loud tid (acts.Yield t client) = same_tid t tid
is_loud tid (acts.Restart inc pend done) = true
is_loud tid act = false

-- those of a list that do
abbrev pub loud : Tid → List Act → List Act
loud tid done = filter (is_loud tid) done

abbrev pub is_against : Vote → Bool
is_against (votes.Abort reason) = true
is_against ballot = false

-- while it is undecided it is so placed
abbrev pub OpenPlaced : Tid → Field → TransactionValue → Type 0
OpenPlaced tid field tx = is_open tx.cell ≡ true → Placed tid tx field
