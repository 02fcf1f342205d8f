-- What files and audit hold pending of a transaction, and what they serve for it.
use Rattle.std.specs.Prelude.{◌≡◌, ◌⊎◌, ℕ, ◌==◌, Bool, false, ◌&&◌, ◌||◌, List, [], ◌∷◌, ◌++◌, fold, flat_map, Option, Some, None, slice_get, unwrap_or, if◌then◌else◌, ⊤}
use Rattle.std.specs.Option.{option_map}
use Rattle.qs_base.specs.Order.{same_tid, same_member}
use Rattle.qs_base.specs.declared.identifiers.Member.{Member}
use Rattle.qs_base.specs.declared.identifiers.Tid.{Tid}
use Rattle.qs_ops.specs.declared.operation.Op.{Op}
use Rattle.qs_ops.specs.declared.reply.Reply.{Reply}
use Rattle.qs_ops.specs.declared.vote.Vote.TheVariants as votes
use Rattle.qs_book_journal.specs.declared.entry.Act.{Act}
use Rattle.qs_book_journal.specs.declared.entry.Act.TheVariants as acts
use Rattle.qs_book_journal.specs.declared.entry.Entry.{Entry}
use Rattle.qs_ops.specs.Table.{apply_change, apply_note, change_by}
use Rattle.qs_book_machine.specs.Transaction.{TransactionValue, standing_request}
use Rattle.qs_book_machine.specs.declared.transaction.Request.{Request}
use Rattle.qs_book_machine.specs.declared.transaction.RequestNo.{RequestNo}
use Rattle.qs_book_machine.specs.Book.{BookValue, find_transaction, crossed_in}
use Rattle.qs_book_machine.specs.Lawful.{effect}
use Rattle.qs_book_machine.specs.Nodes.{NodeValue, pending_at, changes_of}
use Rattle.qs_book_machine.specs.Restart.{record_at, put_new_votes, is_among}
use Rattle.qs_book_machine.specs.declared.state.OnRecord.{OnRecord}
use Rattle.qs_book_journal.specs.declared.entry.Found.{Found}

-- files (0) and audit (1) keep contents over restarts
abbrev pub keeps_contents : ℕ → Bool
keeps_contents server = (server == 0) || (server == 1)

-- the changes of the transaction that are pending at the member
abbrev pub held_at : BookValue → Tid → Member → List Op
held_at book tid member = unwrap_or (option_map (λ node. pending_at node tid member.server.0) (slice_get book.nodes member.node.0)) []

abbrev pub crossed_at : BookValue → Tid → Member → Bool
crossed_at book tid member = crossed_in (find_transaction book tid) member

-- ---- what an entry serves

-- the same transaction at the same member
abbrev pub is_share : Tid → Member → Tid → Member → Bool
is_share tid member t other = same_tid t tid && same_member other member

abbrev pub standing_at : Option TransactionValue → RequestNo → Member → Option Request
standing_at None at member = None
standing_at (Some tx) at member = standing_request tx at member

-- the change that a request makes where it is served with this reply: it is one only where the reply is Done
abbrev pub change_of_request : Option Request → Reply → List Op
change_of_request None reply = []
change_of_request (Some request) reply = change_by request.op reply

-- the change that an act serves for the transaction at the member
abbrev pub change_served : BookValue → Tid → Member → Act → List Op
change_served book tid member (acts.Serve t other from number reply) =
    if is_share tid member t other
    then change_of_request (standing_at (find_transaction book t) (record { link = record { from = from; to = other.node }; number = number }) other) reply
    else []
change_served book tid member act = []

-- all changes that a history serves for it there, in order
abbrev pub changes_served : BookValue → Tid → Member → List Entry → List Op
changes_served book tid member [] = []
changes_served book tid member (entry ∷ entries) =
    change_served book tid member entry.act ++ changes_served (effect book entry) tid member entries

-- ---- how long a member holds what it served

-- the member learns the outcome, or votes that it has nothing to commit, or its node restarts
abbrev pub lets_go : Tid → Member → ℕ → Act → Bool
lets_go tid member here (acts.Vote t other votes.ReadOnly covers) = is_share tid member t other
lets_go tid member here (acts.Learn t other outcome) = is_share tid member t other
lets_go tid member here (acts.Restart inc pend done) = here == member.node.0
lets_go tid member here act = false

-- through this history it does none of these, and the transaction is never crossed there
abbrev pub IsHolding : BookValue → Tid → Member → List Entry → Type 0
IsHolding book tid member [] = crossed_at book tid member ≡ false
IsHolding book tid member (entry ∷ entries) =
    (crossed_at book tid member ≡ false)
    × ((lets_go tid member entry.node.0 entry.act ≡ false) × IsHolding (effect book entry) tid member entries)

-- the member votes on the transaction
abbrev pub votes_on : Tid → Member → Act → Bool
votes_on tid member (acts.Vote t other ballot covers) = is_share tid member t other
votes_on tid member act = false

-- through this history it does not
abbrev pub NeverVotes : Tid → Member → List Entry → Type 0
NeverVotes tid member [] = ⊤
NeverVotes tid member (entry ∷ entries) = (votes_on tid member entry.act ≡ false) × NeverVotes tid member entries

-- ---- what is applied

-- that server of the node commits these changes, in order, and nothing else
pub record HasApplied (server : ℕ) (changes : List Op) (before after : NodeValue) : Type 0 where
  pub contents : after.files.contents ≡ (if server == 0 then fold apply_change before.files.contents changes else before.files.contents)
  pub notes : after.audit.notes ≡ (if server == 1 then fold apply_note before.audit.notes changes else before.audit.notes)

-- ---- a restart

-- what the log of the member's node holds of the transaction as a restart reads it, with the votes that it finds and that
-- are new
abbrev pub logged_at : BookValue → List Found → Tid → Member → Option OnRecord
logged_at book pend tid member = record_at member.node.0 (put_new_votes member.node.0 pend book) tid member.server.0

-- what the log held of it; or what was pending as the node stopped, where a vote was found that was not told
abbrev pub IsLogged : BookValue → List Found → Tid → Member → Type 0
IsLogged book pend tid member =
    (changes_of (logged_at book pend tid member) ≡ changes_of (record_at member.node.0 book tid member.server.0))
    ⊎ (changes_of (logged_at book pend tid member) ≡ held_at book tid member)

-- what the log holds of the transaction stays there, and is pending again
pub record PendsAgain (book new : BookValue) (pend : List Found) (tid : Tid) (member : Member) : Type 0 where
  pub pending : held_at new tid member ≡ changes_of (logged_at book pend tid member)
  pub on_record : record_at member.node.0 new tid member.server.0 ≡ logged_at book pend tid member

-- The member commits the logged changes of these transactions, in order; this one is among them, once.
pub record CommitsOnce (book : BookValue) (pend : List Found) (tid : Tid) (member : Member) (before after : NodeValue) : Type 0 where
  pub first : List Tid
  pub rest : List Tid
  pub not_before : is_among first tid ≡ false
  pub not_after : is_among rest tid ≡ false
  pub files : member.server.0 ≡ 0
      → after.files.contents ≡ fold apply_change before.files.contents (flat_map (λ (t : Tid). changes_of (logged_at book pend t member)) (first ++ (tid ∷ rest)))
  pub audit : member.server.0 ≡ 1
      → after.audit.notes ≡ fold apply_note before.audit.notes (flat_map (λ (t : Tid). changes_of (logged_at book pend t member)) (first ++ (tid ∷ rest)))
