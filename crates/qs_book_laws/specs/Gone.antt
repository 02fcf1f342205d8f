-- When a transaction is aborted because a node is gone, in entries of its history.
use Rattle.std.specs.Prelude.{◌≡◌, ℕ, ◌==◌, ◌&&◌, ◌||◌, Bool, true, false, not, nat_le, nat_lt, List, [], ◌∷◌, ◌++◌}
use Rattle.std.specs.List.{list_any}
use Rattle.qs_base.specs.Order.{same_tid}
use Rattle.qs_base.specs.declared.identifiers.NodeNo.{NodeNo}
use Rattle.qs_base.specs.declared.identifiers.Tid.{Tid}
use Rattle.qs_ops.specs.Servers.{files_no, client_no, is_client_no}
use Rattle.qs_book_journal.specs.declared.entry.Act.{Act}
use Rattle.qs_book_journal.specs.declared.entry.Act.TheVariants as acts
use Rattle.qs_book_journal.specs.declared.entry.Entry.{Entry}
use Rattle.qs_book_machine.specs.Book.{BookValue, inc_at}
use Rattle.qs_book_laws.specs.Lives.{restarts}

-- ---- a request that stands open; `since` are the entries after its issue

-- a command of that client is answered
abbrev pub is_answer_to : ℕ → Act → Bool
is_answer_to server (acts.Answer client line said) = client_no client.0 == server
is_answer_to server act = false

abbrev pub answers : ℕ → Entry → Bool
answers server entry = is_answer_to server entry.act

-- a client issued it, and had no answer since
abbrev pub waits_still : ℕ → List Entry → Bool
waits_still server since = is_client_no server && not (list_any (answers server) since)

-- an answer of that node is counted, for all requests up to that number or a greater one
abbrev pub is_count_of : Tid → NodeNo → ℕ → Act → Bool
is_count_of tid node number (acts.Counted t peer up_to) = (same_tid t tid && (peer.0 == node.0)) && nat_le number up_to
is_count_of tid node number act = false

-- by the node that issued it
abbrev pub counts : Tid → NodeNo → NodeNo → ℕ → Entry → Bool
counts tid node from number entry = (entry.node.0 == from.0) && is_count_of tid node number entry.act

-- before that node restarted
abbrev pub is_counted : Tid → NodeNo → NodeNo → ℕ → List Entry → Bool
is_counted tid node from number [] = false
is_counted tid node from number (entry ∷ since) =
    not (restarts from entry) && (counts tid node from number entry || is_counted tid node from number since)

-- a request of the transaction to the node: of files, or of a client that waits still, or not counted
abbrev pub is_open_issue : Tid → NodeNo → NodeNo → Act → List Entry → Bool
is_open_issue tid node from (acts.Issue t issuer member number op) since =
    (same_tid t tid && (member.node.0 == node.0))
    && ((issuer.server.0 == files_no)
    || (waits_still issuer.server.0 since || not (is_counted tid node from number since)))
is_open_issue tid node from act since = false

-- after these entries a request of the transaction to the node stands open
abbrev pub stands_open : Tid → NodeNo → List Entry → Bool
stands_open tid node [] = false
stands_open tid node (entry ∷ since) = is_open_issue tid node entry.node entry.act since || stands_open tid node since

-- ---- a node that is gone

abbrev pub is_restart_into : ℕ → Act → Bool
is_restart_into inc (acts.Restart new pend done) = new == inc
is_restart_into inc act = false

-- the node restarts into that incarnation
abbrev pub restarts_into : NodeNo → ℕ → Entry → Bool
restarts_into node inc entry = (entry.node.0 == node.0) && is_restart_into inc entry.act

abbrev pub is_restart_beyond : ℕ → Act → Bool
is_restart_beyond inc (acts.Restart new pend done) = nat_lt inc new
is_restart_beyond inc act = false

-- or into a later one
abbrev pub restarts_beyond : NodeNo → ℕ → Entry → Bool
restarts_beyond node inc entry = (entry.node.0 == node.0) && is_restart_beyond inc entry.act

-- the node opened in that incarnation, or restarted into it
abbrev pub ran_as : BookValue → List Entry → NodeNo → ℕ → Bool
ran_as first history node inc = (inc_at first node == inc) || list_any (restarts_into node inc) history

-- at some moment, when the node had restarted into a later incarnation, a request to it stood open
pub record StoodOpen (history : List Entry) (tid : Tid) (node : NodeNo) (gone : ℕ) : Type 0 where
  pub early : List Entry
  pub late : List Entry
  pub parts : history ≡ early ++ late
  pub restarted : list_any (restarts_beyond node gone) early ≡ true
  pub open_then : stands_open tid node early ≡ true

-- and the node did run in that incarnation
pub record IsGone (first : BookValue) (history : List Entry) (tid : Tid) (node : NodeNo) (gone : ℕ) : Type 0 where
  pub ran : ran_as first history node gone ≡ true
  pub stood : StoodOpen history tid node gone
