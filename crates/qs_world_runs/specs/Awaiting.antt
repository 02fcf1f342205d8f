-- Each request that stands at another node than the one that issued it waits there for its reply, or its transaction is doomed. So a node that is not engaged has none
-- that stands at another.
use Rattle.std.specs.Prelude.{◌≡◌, ◌⊎◌, ℕ, ◌==◌, true, false, None, Some, is_some}
use Rattle.qs_base.specs.declared.identifiers.Member.{Member}
use Rattle.qs_base.specs.declared.identifiers.NodeNo.{NodeNo}
use Rattle.qs_base.specs.declared.identifiers.Tid.{Tid}
use Rattle.qs_book_journal.specs.declared.entry.Act.TheVariants as acts
use Rattle.qs_book_machine.specs.Book.{BookValue, find_transaction}
use Rattle.qs_book_machine.specs.Lawful.{IsLawful}
use Rattle.qs_book_machine.specs.Transaction.{TransactionValue, is_open, standing_request}
use Rattle.qs_book_machine.specs.declared.transaction.RequestNo.{RequestNo}
use Rattle.qs_ops.specs.declared.operation.Op.{Op}
use Rattle.qs_ops.specs.declared.reply.Reply.{Reply}
use Rattle.qs_packet.specs.declared.message.Message.TheVariants as messages
use Rattle.qs_node_step.specs.State.{NodeValue}
use Rattle.qs_node_step.specs.Step.{after_step, effects_of}
use Rattle.qs_node_step.specs.declared.event.Event.{Event}
use Rattle.qs_node_step.specs.declared.event.Event.TheVariants as events
use Rattle.qs_world.specs.Moves.{Source, Step, moved}
use Rattle.qs_world.specs.Posting.{entries_of}
use Rattle.qs_world.specs.World.{Opening, World}
use Rattle.qs_world_agree.specs.World as machine
use Rattle.qs_world_agree.specs.Doomed.{IsDoomed}
use Rattle.qs_world_refine.specs.Begun.{has_begun}
use Rattle.qs_world_refine.specs.EachMove.{ShowsAll}
use Rattle.qs_world_lawful.specs.Parcels.{way_between}
use Rattle.qs_world_runs.specs.Agrees.{MakesStep, nodes_in}
use Rattle.qs_world_runs.specs.Awaited.{Among, IsWaiting, WaitsAt}
use Rattle.qs_world_runs.specs.Joined.{Joined, book_in}
use Rattle.qs_world_runs.specs.JoinedPlaces.{PlacedOf}
use Rattle.qs_world_runs.specs.Placed.{HoldsPlaced, Placed, field_of}

-- those of one node
abbrev pub AwaitsOwn : ℕ → Tid → TransactionValue → NodeValue → Type 0
AwaitsOwn n tid tx node = (at : RequestNo) (member : Member) → at.link.from.0 ≡ n → (at.link.to.0 == n) ≡ false → is_some (standing_request tx at member) ≡ true → WaitsAt tid member at.number node

-- of each
abbrev pub AreAwaited : Tid → TransactionValue → (ℕ → NodeValue) → Type 0
AreAwaited tid tx nodes = (n : ℕ) → AwaitsOwn n tid tx (nodes n)

abbrev pub HoldsAwaited : Tid → BookValue → (ℕ → NodeValue) → machine.World → Type 0
HoldsAwaited tid book nodes w = (tx : TransactionValue) → find_transaction book tid ≡ Some tx → is_open tx.cell ≡ true → IsDoomed w ⊎ AreAwaited tid tx nodes

-- beside what all places hold of it
pub record AwaitedOf (tid : Tid) (o : Opening) (world : World) : Type 0 where
  pub places : PlacedOf tid o world
  pub awaited : HoldsAwaited tid (book_in o world) (nodes_in world) places.machine

abbrev pub AwaitedAt : Opening → World → Type 0
AwaitedAt o world = (tid : Tid) → has_begun world tid ≡ true → AwaitedOf tid o world

-- ---- a step: those of its own node

-- where all was so as the step began, and all places hold what they should as it ends
abbrev pub EachOwnAwaited : (Opening → World → Type 0) → Type 0
EachOwnAwaited P = (o : Opening) (world : World) (n stamp free : ℕ) (source : Source) (event : Event) → Joined P o world → MakesStep world n stamp source event
    → IsLawful (book_in o world) (entries_of n stamp (effects_of (world.hosts n).node event free).entries)
    → (tid : Tid) (w : machine.World) → ShowsAll tid (moved (Step n stamp free source) world) w → HoldsPlaced tid (book_in o world) (field_of world) w → HoldsAwaited tid (book_in o world) (nodes_in world) w
    → (tx : TransactionValue) → find_transaction (book_in o (moved (Step n stamp free source) world)) tid ≡ Some tx → is_open tx.cell ≡ true → Placed tid tx (field_of (moved (Step n stamp free source) world))
    → IsDoomed w ⊎ AwaitsOwn n tid tx (after_step (world.hosts n).node event free)

-- ---- of what its node had issued before the step, it is enough that each reply is true: a reply that comes is of a request that stands no more

abbrev pub EachReplyTrue : (Opening → World → Type 0) → Type 0
EachReplyTrue P = (o : Opening) (world : World) (n stamp : ℕ) (source : Source) (peer : NodeNo) (tid : Tid) (member : Member) (number : ℕ) (reply : Reply) (tx : TransactionValue) → Joined P o world → MakesStep world n stamp source (events.Received peer (messages.Answered tid member number reply))
    → find_transaction (book_in o world) tid ≡ Some tx → is_open tx.cell ≡ true → Placed tid tx (field_of world) → standing_request tx (way_between n member.node.0 number) member ≡ None

-- those of one node that did not stand in that machine
abbrev pub AwaitsFresh : ℕ → Tid → BookValue → TransactionValue → NodeValue → Type 0
AwaitsFresh n tid book tx node = (at : RequestNo) (member : Member) → at.link.from.0 ≡ n → (at.link.to.0 == n) ≡ false → is_some (standing_request tx at member) ≡ true
    → ((was : TransactionValue) → find_transaction book tid ≡ Some was → standing_request was at member ≡ None) → WaitsAt tid member at.number node

-- what it issues in the step
abbrev pub EachFreshAwaited : (Opening → World → Type 0) → Type 0
EachFreshAwaited P = (o : Opening) (world : World) (n stamp free : ℕ) (source : Source) (event : Event) → Joined P o world → MakesStep world n stamp source event
    → IsLawful (book_in o world) (entries_of n stamp (effects_of (world.hosts n).node event free).entries)
    → (tid : Tid) (w : machine.World) → ShowsAll tid (moved (Step n stamp free source) world) w → HoldsPlaced tid (book_in o world) (field_of world) w → HoldsAwaited tid (book_in o world) (nodes_in world) w
    → (tx : TransactionValue) → find_transaction (book_in o (moved (Step n stamp free source) world)) tid ≡ Some tx → is_open tx.cell ≡ true → Placed tid tx (field_of (moved (Step n stamp free source) world))
    → IsDoomed w ⊎ AwaitsFresh n tid (book_in o world) tx (after_step (world.hosts n).node event free)

-- of what did not stand before, it is enough that each request that an entry of the step issues to another node waits then, or its node has decided
abbrev pub EachIssueWaits : (Opening → World → Type 0) → Type 0
EachIssueWaits P = (o : Opening) (world : World) (n stamp free : ℕ) (source : Source) (event : Event) → Joined P o world → MakesStep world n stamp source event
    → (tid : Tid) (issuer member : Member) (number : ℕ) (op : Op) → Among (acts.Issue tid issuer member number op) (effects_of (world.hosts n).node event free).entries → (member.node.0 == n) ≡ false
    → IsWaiting tid member number (after_step (world.hosts n).node event free)
