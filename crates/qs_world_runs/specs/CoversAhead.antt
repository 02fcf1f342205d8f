-- Of each vote that stands in doubt in the log of a node that runs, the last vote of its member covers at least as much, while the node knows its transaction: so a later vote covers more.
use Rattle.std.specs.Prelude.{◌≡◌, ⊤, ℕ, ◌<◌, ◌≤◌, true, ◌++◌, Some, nat_lt}
use Rattle.std.specs.List.{list_any}
use Rattle.qs_book_machine.specs.Nodes as machine
use Rattle.qs_book_machine.specs.Restart.{is_found_as}
use Rattle.qs_book_machine.specs.declared.state.OnRecord.{OnRecord}
use Rattle.qs_record.specs.declared.record.Record.{Record}
use Rattle.qs_record.specs.declared.record.Record.TheVariants as made
use Rattle.qs_restart.specs.Recovery.{Prepared, Recovery, is_in_doubt, recovery}
use Rattle.qs_tm.specs.Manager as tm
use Rattle.qs_tm.specs.Participant.{member_of}
use Rattle.qs_tm.specs.declared.manager.Manager.{Manager}
use Rattle.qs_tm.specs.declared.members.Cast.{Cast}
use Rattle.qs_tm.specs.declared.members.MemberPart.{MemberPart}
use Rattle.qs_tm.specs.declared.participant.Participant.{Participant}
use Rattle.qs_world.specs.World.{Host, World}
use Rattle.qs_world_lawful.specs.Logs.{Every, found_votes}

-- ---- one node

-- its last vote covers at least so many, of those that it served
pub record HasCast (covers : ℕ) (m : MemberPart) : Type 0 where
  pub cast : Cast
  pub vote : m.vote ≡ Some cast
  pub least : covers ≤ cast.covers
  pub most : cast.covers ≤ m.served

abbrev pub IsCovered : Manager → Prepared → Type 0
IsCovered manager vote = is_in_doubt vote ≡ true → (part : Participant) → tm.part_of vote.tid manager ≡ Some part → HasCast vote.covers (member_of part vote.server)

abbrev pub HostCovers : Host → Type 0
HostCovers host = Every (IsCovered host.node.manager) (recovery (host.log ++ host.waiting)).prepared

-- ---- each node that runs

abbrev pub HoldsCovers : World → Type 0
HoldsCovers world = (n : ℕ) → n < world.size → world.channels.up n ≡ true → HostCovers (world.hosts n)

-- ---- so a vote of a step covers more than what is on record of its member, where that is found in the log

abbrev pub IsBeyondVote : machine.NodeValue → Recovery → Record → Type 0
IsBeyondVote state log (made.Prepare tid server covers changes) = (rec : OnRecord) → machine.record_of state tid server.0 ≡ Some rec → list_any (is_found_as (machine.voter tid server.0) rec.covers) (found_votes log) ≡ true → nat_lt rec.covers covers ≡ true
IsBeyondVote state log rec = ⊤
