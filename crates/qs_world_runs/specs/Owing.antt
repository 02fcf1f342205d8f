-- What a node that runs waits for of other nodes stands in the history: its last request to each that has not answered for it, and each request without a reply.
use Rattle.std.specs.Prelude.{◌≡◌, ℕ, ◌<◌, ◌==◌, ◌&&◌, ◌||◌, not, Bool, true, false, List, [], ◌∷◌, Some, None, Option}
use Rattle.std.specs.BTreeMap.{is_at}
use Rattle.std.specs.Map.{lookup}
use Rattle.qs_base.specs.Order.{same_tid}
use Rattle.qs_base.specs.declared.identifiers.NodeNo.{NodeNo}
use Rattle.qs_base.specs.declared.identifiers.Tid.{Tid}
use Rattle.qs_engage.specs.Engage.{is_open_to, peer_of}
use Rattle.qs_book_journal.specs.declared.entry.Act.{Act}
use Rattle.qs_book_journal.specs.declared.entry.Act.TheVariants as acts
use Rattle.qs_book_journal.specs.declared.entry.Entry.{Entry}
use Rattle.qs_node_kept.specs.Keeping.{is_label_of}
use Rattle.qs_book_laws.specs.Gone.{is_counted, waits_still}
use Rattle.qs_ops.specs.Servers.{files_no}
use Rattle.qs_node_servers.specs.Servers.{client_of}
use Rattle.qs_node_step.specs.Requests.{waits_as}
use Rattle.qs_node_step.specs.Serving.{label_at}
use Rattle.qs_node_step.specs.State.{NodeValue, client_cmp}
use Rattle.qs_node_step.specs.declared.state.OpenCommand.{OpenCommand}
use Rattle.qs_tm.specs.Manager as tm
use Rattle.qs_tm.specs.declared.participant.Outstanding.{Outstanding}
use Rattle.qs_tm.specs.declared.participant.Participant.{Participant}
use Rattle.qs_world.specs.World.{World}
use Rattle.qs_world_lawful.specs.Aside.{AnswersElsewhere}
use Rattle.qs_world_lawful.specs.Logs.{Every}

-- ---- a request of that number which the node issued, and has not counted since

abbrev pub is_uncounted : Tid → NodeNo → NodeNo → ℕ → NodeNo → Act → List Entry → Bool
is_uncounted tid peer here number from (acts.Issue t issuer member k op) since =
    ((same_tid t tid && (member.node.0 == peer.0)) && ((from.0 == here.0) && (k == number))) && not (is_counted tid peer here number since)
is_uncounted tid peer here number from act since = false

abbrev pub stands_uncounted : Tid → NodeNo → NodeNo → ℕ → List Entry → Bool
stands_uncounted tid peer here number [] = false
stands_uncounted tid peer here number (entry ∷ since) = is_uncounted tid peer here number entry.node entry.act since || stands_uncounted tid peer here number since

-- ---- a request that files issued, or a client that had no answer since

abbrev pub is_awaited : Tid → NodeNo → ℕ → Act → List Entry → Bool
is_awaited tid peer server (acts.Issue t issuer member k op) since =
    ((same_tid t tid && (member.node.0 == peer.0)) && (issuer.server.0 == server)) && ((server == files_no) || waits_still server since)
is_awaited tid peer server act since = false

abbrev pub stands_awaited : Tid → NodeNo → ℕ → List Entry → Bool
stands_awaited tid peer server [] = false
stands_awaited tid peer server (entry ∷ since) = is_awaited tid peer server entry.act since || stands_awaited tid peer server since

-- ---- of a node

-- the label of that command is the transaction's
abbrev pub names_tid : Tid → NodeValue → Option OpenCommand → Bool
names_tid tid node None = false
names_tid tid node (Some command) = elim (label_at command.line.label node) [ None ↦ false | Some begun ↦ is_label_of tid begun ]

-- a request that has no reply stands; what files issued for good, what a client issued as long as its command waits for just this one
pub record IsAwaited (node : NodeValue) (history : List Entry) (tid : Tid) (request : Outstanding) : Type 0 where
  pub stands : stands_awaited tid request.member.node request.issuer.0 history ≡ true
  pub in_hand : (request.issuer.0 == files_no) ≡ false → waits_as tid request.member request.number (lookup (is_at (client_cmp (client_of request.issuer))) node.commands) ≡ true
  pub labelled : (request.issuer.0 == files_no) ≡ false → names_tid tid node (lookup (is_at (client_cmp (client_of request.issuer))) node.commands) ≡ true

pub record StandsOwed (node : NodeValue) (history : List Entry) (tid : Tid) (part : Participant) : Type 0 where
  pub uncounted : (peer : NodeNo) → is_open_to peer part.engage ≡ true → stands_uncounted tid peer node.setting.node (peer_of part.engage peer).sent history ≡ true
  pub awaited : part.outcome ≡ None → Every (IsAwaited node history tid) part.waiting

abbrev pub Owes : NodeValue → List Entry → Type 0
Owes node history = (tid : Tid) (part : Participant) → tm.part_of tid node.manager ≡ Some part → StandsOwed node history tid part

abbrev pub OwesAt : World → Type 0
OwesAt world = (n : ℕ) → n < world.size → world.channels.up n ≡ true → Owes (world.hosts n).node world.journal

-- an entry of another node, which answers no client that has a command open at this one
pub record IsElsewhere (n : ℕ) (node : NodeValue) (entry : Entry) : Type 0 where
  pub far : entry.node.0 ≡ n → ⊥
  pub answers : AnswersElsewhere node entry.act
