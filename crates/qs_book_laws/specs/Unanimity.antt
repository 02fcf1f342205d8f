-- What a transaction has come to as it is committed, in entries of its history.
use Rattle.std.specs.Prelude.{◌≡◌, ℕ, ◌+◌, ◌==◌, Bool, true, false, not, ◌&&◌, ◌||◌, List, [], ◌∷◌, ◌++◌, if◌then◌else◌}
use Rattle.std.specs.List.{list_any}
use Rattle.qs_base.specs.Order.{same_tid}
use Rattle.qs_base.specs.declared.identifiers.Class.TheVariants as classes
use Rattle.qs_base.specs.declared.identifiers.Member.{Member}
use Rattle.qs_base.specs.declared.identifiers.NodeNo.{NodeNo}
use Rattle.qs_base.specs.declared.identifiers.Tid.{Tid}
use Rattle.qs_ops.specs.Members.{class_of, is_two_phase}
use Rattle.qs_ops.specs.declared.operation.Op.{Op}
use Rattle.qs_ops.specs.declared.reply.Reply.{Reply}
use Rattle.qs_ops.specs.declared.vote.Vote.{Vote}
use Rattle.qs_ops.specs.declared.vote.Vote.TheVariants as votes
use Rattle.qs_book_journal.specs.declared.entry.Act.{Act}
use Rattle.qs_book_journal.specs.declared.entry.Act.TheVariants as acts
use Rattle.qs_book_journal.specs.declared.entry.Entry.{Entry}
use Rattle.qs_book_machine.specs.Transaction.{borrower}
use Rattle.qs_book_laws.specs.Lives.{restarts}
use Rattle.qs_book_laws.specs.Served.{is_share}

-- commit is asked for
abbrev pub asks : Tid → Act → Bool
asks tid (acts.Ask t) = same_tid t tid
asks tid act = false

-- ---- requests

-- a request of that number goes from the node to the member
abbrev pub issues : Tid → Member → ℕ → Act → Bool
issues tid member number (acts.Issue t issuer other n op) = is_share tid member t other && (n == number)
issues tid member number act = false

abbrev pub issues_from : NodeNo → Tid → Member → ℕ → Entry → Bool
issues_from from tid member number entry = (entry.node.0 == from.0) && issues tid member number entry.act

-- the member serves a request of that number of that node
abbrev pub serves_from : NodeNo → Tid → Member → ℕ → Act → Bool
serves_from from tid member number (acts.Serve t other sender n reply) = is_share tid member t other && ((sender.0 == from.0) && (n == number))
serves_from from tid member number act = false

-- the request is served, before another of its number goes from that node to that member
abbrev pub is_served_in : NodeNo → Tid → Member → ℕ → List Entry → Bool
is_served_in from tid member number [] = false
is_served_in from tid member number (entry ∷ entries) =
    serves_from from tid member number entry.act
    || (not (issues_from from tid member number entry) && is_served_in from tid member number entries)

-- ---- votes

abbrev pub is_against : Vote → Bool
is_against (votes.Abort reason) = true
is_against ballot = false

-- the member votes, and not against commit
abbrev pub votes_for : Tid → Member → Act → Bool
votes_for tid member (acts.Vote t other ballot covers) = is_share tid member t other && not (is_against ballot)
votes_for tid member act = false

-- a member, whichever, votes against commit
abbrev pub votes_against : Tid → Act → Bool
votes_against tid (acts.Vote t other ballot covers) = same_tid t tid && is_against ballot
votes_against tid act = false

-- the member votes so in this life of its node
abbrev pub is_voted_in : Tid → Member → List Entry → Bool
is_voted_in tid member [] = false
is_voted_in tid member (entry ∷ entries) =
    votes_for tid member entry.act || (not (restarts member.node entry) && is_voted_in tid member entries)

-- ---- loans

-- in a life of its node: how often a client was asked to take a loan, took one, and gave one back
pub record Loans : Type 0 where
  pub asked : ℕ
  pub taken : ℕ
  pub returned : ℕ

abbrev pub no_loans : Loans
no_loans = record { asked = 0; taken = 0; returned = 0 }

abbrev pub loans_after : Tid → Member → Loans → NodeNo → Act → Loans
loans_after tid member loans here (acts.Serve t other from number reply) = if is_share tid member t other then record loans { asked = loans.asked + 1 } else loans
loans_after tid member loans here (acts.Loan t client) = if is_share tid member t (borrower client here) then record loans { taken = loans.taken + 1 } else loans
loans_after tid member loans here (acts.Yield t client) = if is_share tid member t (borrower client here) then record loans { returned = loans.returned + 1 } else loans
loans_after tid member loans here act = loans

-- each loan was taken, and given back
abbrev pub are_even : Loans → Bool
are_even loans = (loans.taken == loans.asked) && (loans.returned == loans.taken)

-- so it was as each life of the node ended, and is now
abbrev pub are_returned : Tid → Member → Loans → List Entry → Bool
are_returned tid member loans [] = are_even loans
are_returned tid member loans (entry ∷ entries) =
    if restarts member.node entry
    then are_even loans && are_returned tid member no_loans entries
    else are_returned tid member (loans_after tid member loans entry.node entry.act) entries

-- ---- the whole

abbrev pub asks_in : Tid → List Entry → Bool
asks_in tid history = list_any (λ (entry : Entry). asks tid entry.act) history

abbrev pub is_refused_in : Tid → List Entry → Bool
is_refused_in tid history = list_any (λ (entry : Entry). votes_against tid entry.act) history

-- Commit was asked for. Each request was served, none crossing another. Each request that a two-phase member served, be it
-- files, audit, names or the further server, stands before a vote of it for commit in the same life of its node. No member
-- ever voted against commit. Each loan that a client was asked to take was made and given back.
pub record IsUnanimous (tid : Tid) (history : List Entry) : Type 0 where
  pub asked : asks_in tid history ≡ true
  pub served : (first rest : List Entry) (issue : Entry) (issuer member : Member) (number : ℕ) (op : Op) → history ≡ first ++ (issue ∷ rest)
      → issue.act ≡ acts.Issue tid issuer member number op → is_served_in issue.node tid member number rest ≡ true
  pub voted : (first rest : List Entry) (serve : Entry) (member : Member) (from : NodeNo) (number : ℕ) (reply : Reply) → is_two_phase (class_of member.server.0) ≡ true
      → history ≡ first ++ (serve ∷ rest) → serve.act ≡ acts.Serve tid member from number reply → is_voted_in tid member rest ≡ true
  pub unopposed : is_refused_in tid history ≡ false
  pub returned : (member : Member) → class_of member.server.0 ≡ classes.Activity → are_returned tid member no_loans history ≡ true
