-- How what files and audit of a node have pending of a transaction ends there: it is on record once it is committed, its member is still to learn, and as it learns commit all that is on record is committed.
use Rattle.std.specs.Prelude.{◌≡◌, ◌≢◌, ◌==◌, ℕ, Bool, true, false, List, [], ◌∷◌, length, Some, None, nat_lt, slice_get}
use Rattle.std.specs.List.{list_any}
use Rattle.qs_base.specs.Order.{same_tid}
use Rattle.qs_base.specs.declared.identifiers.Member.{Member}
use Rattle.qs_base.specs.declared.identifiers.Outcome.TheVariants as outcomes
use Rattle.qs_base.specs.declared.identifiers.ServerNo.{ServerNo}
use Rattle.qs_base.specs.declared.identifiers.Tid.{Tid}
use Rattle.qs_book_journal.specs.declared.entry.Act.TheVariants as acts
use Rattle.qs_book_journal.specs.declared.entry.Entry.{Entry}
use Rattle.qs_book_machine.specs.Book.{BookValue, find_transaction}
use Rattle.qs_book_machine.specs.Lawful.{IsLawful, book_after}
use Rattle.qs_book_machine.specs.Nodes.{NodeValue, changes_of, record_of}
use Rattle.qs_book_machine.specs.Opening.{opening}
use Rattle.qs_book_machine.specs.Restart.{record_at}
use Rattle.qs_book_machine.specs.Transaction.{TransactionValue, is_abort, is_crossed, may_learn_still, part_of}
use Rattle.qs_book_machine.specs.declared.opened.Opened.{Opened}
use Rattle.qs_ops.specs.Servers.{audit_no, files_no}
use Rattle.qs_ops.specs.Table.{TableValue, applied}
use Rattle.qs_ops.specs.declared.operation.Op.{Op}
use Rattle.qs_book_laws.specs.Laws.{IsCoherent, IsCommitted}
use Rattle.qs_book_laws.specs.Served.{held_at, keeps_contents}

-- what is committed is pending at a member of the run just as it is on record there: all of it, or nothing of it any more
abbrev pub EachPendsAsRecorded : Type 0
EachPendsAsRecorded = (opened : List Opened) (history : List Entry) (tid : Tid) (member : Member) → IsCoherent opened → keeps_contents member.server.0 ≡ true → nat_lt member.node.0 (length opened) ≡ true → IsLawful (opening opened) history
    → IsCommitted (book_after (opening opened) history) tid → held_at (book_after (opening opened) history) tid member ≡ changes_of (record_at member.node.0 (book_after (opening opened) history) tid member.server.0)

-- a member that has something pending of what is not aborted, and is not crossed there, has still to learn how it ends, in the last incarnation of its node
abbrev pub EachPendingLearns : Type 0
EachPendingLearns = (opened : List Opened) (history : List Entry) (tid : Tid) (member : Member) (tx : TransactionValue) (node : NodeValue) → IsCoherent opened → keeps_contents member.server.0 ≡ true → nat_lt member.node.0 (length opened) ≡ true
    → nat_lt tid.home.0 (length opened) ≡ true → IsLawful (opening opened) history → find_transaction (book_after (opening opened) history) tid ≡ Some tx → slice_get (book_after (opening opened) history).nodes member.node.0 ≡ Some node
    → is_abort tx.cell ≡ false → is_crossed tx member ≡ false → held_at (book_after (opening opened) history) tid member ≢ [] → may_learn_still (part_of tx member node.inc) ≡ true

-- ---- a node learns commit

-- servers of a node learn commit, one after the other
abbrev pub learning : ℕ → ℕ → Tid → List ServerNo → List Entry
learning stamp n tid [] = []
learning stamp n tid (server ∷ servers) = record { stamp = stamp; node = record { 0 = n }; act = acts.Learn tid (record { node = record { 0 = n }; server = server }) outcomes.Commit } ∷ learning stamp n tid servers

abbrev pub is_server : ℕ → ServerNo → Bool
is_server server other = other.0 == server

-- these changes were committed there, and nothing else
pub record HasCommitted (before after : TableValue) (changes : List Op) : Type 0 where
  pub contents : after.contents ≡ (applied before changes).contents
  pub notes : after.notes ≡ (applied before changes).notes

-- what was on record of the transaction is committed, and nothing of it is left on record; what is on record of others stays
pub record HasLearnt (tid : Tid) (before after : NodeValue) : Type 0 where
  pub files : HasCommitted before.files after.files (changes_of (record_of before tid files_no))
  pub audit : HasCommitted before.audit after.audit (changes_of (record_of before tid audit_no))
  pub gone : (server : ℕ) → keeps_contents server ≡ true → record_of after tid server ≡ None
  pub others : (t : Tid) (server : ℕ) → same_tid t tid ≡ false → record_of after t server ≡ record_of before t server

-- each of files and audit that has still to learn is among them
abbrev pub AllLearn : BookValue → Tid → ℕ → NodeValue → List ServerNo → Type 0
AllLearn book tid n node servers = (tx : TransactionValue) (server : ServerNo) → find_transaction book tid ≡ Some tx → keeps_contents server.0 ≡ true → may_learn_still (part_of tx (record { node = record { 0 = n }; server = server }) node.inc) ≡ true → list_any (is_server server.0) servers ≡ true

abbrev pub EachLearnsAll : Type 0
EachLearnsAll = (opened : List Opened) (history : List Entry) (stamp n : ℕ) (tid : Tid) (servers : List ServerNo) (node : NodeValue) → IsCoherent opened → nat_lt n (length opened) ≡ true → nat_lt tid.home.0 (length opened) ≡ true → IsLawful (opening opened) history
    → IsCommitted (book_after (opening opened) history) tid → slice_get (book_after (opening opened) history).nodes n ≡ Some node → AllLearn (book_after (opening opened) history) tid n node servers
    → (after : NodeValue) × (slice_get (book_after (book_after (opening opened) history) (learning stamp n tid servers)).nodes n ≡ Some after) × HasLearnt tid node after
