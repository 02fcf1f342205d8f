-- What becomes of the changes of a committed transaction at files and audit: they are kept until an entry commits them, once.
use Rattle.std.specs.Prelude.{◌≡◌, ◌⊎◌, ℕ, List, [], ◌∷◌, Some, None, slice_get}
use Rattle.qs_base.specs.declared.identifiers.Member.{Member}
use Rattle.qs_base.specs.declared.identifiers.Outcome.TheVariants as outcomes
use Rattle.qs_base.specs.declared.identifiers.Tid.{Tid}
use Rattle.qs_ops.specs.declared.operation.Op.{Op}
use Rattle.qs_book_journal.specs.declared.entry.Act.TheVariants as acts
use Rattle.qs_book_journal.specs.declared.entry.Entry.{Entry}
use Rattle.qs_book_journal.specs.declared.entry.Found.{Found}
use Rattle.qs_book_machine.specs.Book.{BookValue}
use Rattle.qs_book_machine.specs.Lawful.{effect}
use Rattle.qs_book_machine.specs.Nodes.{NodeValue, changes_of}
use Rattle.qs_book_machine.specs.Restart.{record_at}
use Rattle.qs_book_laws.specs.Served.{held_at, logged_at, HasApplied, CommitsOnce}

-- the changes are pending at the member, where the share that holds them is their lock, and on record, where a restart
-- finds them
pub record IsKept (book : BookValue) (tid : Tid) (member : Member) (changes : List Op) : Type 0 where
  pub pending : held_at book tid member ≡ changes
  pub on_record : changes_of (record_at member.node.0 book tid member.server.0) ≡ changes

-- nothing of the transaction is pending there, or on record
pub record IsGone (book : BookValue) (tid : Tid) (member : Member) : Type 0 where
  pub pending : held_at book tid member ≡ []
  pub on_record : record_at member.node.0 book tid member.server.0 ≡ None

-- ---- an entry that commits the changes there, in order

-- the member learns commit
pub record LearnsCommit (book : BookValue) (entry : Entry) (tid : Tid) (member : Member) (changes : List Op) : Type 0 where
  pub act : entry.act ≡ acts.Learn tid member outcomes.Commit
  pub applied : (was now : NodeValue) → slice_get book.nodes member.node.0 ≡ Some was
      → slice_get (effect book entry).nodes member.node.0 ≡ Some now → HasApplied member.server.0 changes was now

-- its node restarts, and finds the transaction's Commit
pub record FindsCommit (book : BookValue) (entry : Entry) (tid : Tid) (member : Member) (changes : List Op) : Type 0 where
  pub inc : ℕ
  pub pend : List Found
  pub done : List Tid
  pub act : entry.act ≡ acts.Restart inc pend done
  pub here : entry.node.0 ≡ member.node.0
  pub logged : changes_of (logged_at book pend tid member) ≡ changes
  pub applied : (was now : NodeValue) → slice_get book.nodes member.node.0 ≡ Some was
      → slice_get (effect book entry).nodes member.node.0 ≡ Some now → CommitsOnce book pend tid member was now

abbrev pub Applies : BookValue → Entry → Tid → Member → List Op → Type 0
Applies book entry tid member changes = LearnsCommit book entry tid member changes ⊎ FindsCommit book entry tid member changes

-- ---- through a history

abbrev pub IsGoneThrough : BookValue → Tid → Member → List Entry → Type 0
IsGoneThrough book tid member [] = IsGone book tid member
IsGoneThrough book tid member (entry ∷ entries) = IsGone book tid member × IsGoneThrough (effect book entry) tid member entries

-- the changes are kept at each moment up to an entry that applies them, and gone at each moment after it; or kept to the end
abbrev pub IsDurable : BookValue → Tid → Member → List Op → List Entry → Type 0
IsDurable book tid member changes [] = IsKept book tid member changes
IsDurable book tid member changes (entry ∷ entries) =
    IsKept book tid member changes
    × ((Applies book entry tid member changes × IsGoneThrough (effect book entry) tid member entries)
    ⊎ IsDurable (effect book entry) tid member changes entries)
