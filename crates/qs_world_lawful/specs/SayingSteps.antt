-- A whole step leaves what the log of its node says as the machine has it, with the records that wait for the next force and on the disk.
use Rattle.std.specs.Prelude.{◌≡◌, ℕ, Bool, true, not, ◌&&◌, ◌++◌, List, Some, length, nat_lt, slice_get, ⊤}
use Rattle.std.specs.List.{list_any}
use Rattle.qs_base.specs.declared.identifiers.Outcome.TheVariants as outcomes
use Rattle.qs_base.specs.declared.identifiers.ServerNo.{ServerNo}
use Rattle.qs_base.specs.declared.identifiers.Tid.{Tid}
use Rattle.qs_book_journal.specs.declared.entry.Act.{Act}
use Rattle.qs_book_journal.specs.declared.entry.Entry.{Entry}
use Rattle.qs_book_laws.specs.Laws.{IsCoherent}
use Rattle.qs_book_laws.specs.Learning.{AllLearn}
use Rattle.qs_book_machine.specs.Book.{BookValue}
use Rattle.qs_book_machine.specs.Lawful.{IsLawful, book_after}
use Rattle.qs_book_machine.specs.Nodes as machine
use Rattle.qs_book_machine.specs.Opening.{opening}
use Rattle.qs_book_machine.specs.declared.opened.Opened.{Opened}
use Rattle.qs_packet.specs.declared.message.Message.TheVariants as messages
use Rattle.qs_record.specs.declared.record.Record.{Record}
use Rattle.qs_restart.specs.Recovery.{Prepared, Recovery, is_of, recovery}
use Rattle.qs_node_step.specs.State.{NodeValue, Work, here, part_of}
use Rattle.qs_node_step.specs.Step.{effects_of}
use Rattle.qs_node_step.specs.declared.event.Event.{Event}
use Rattle.qs_node_step.specs.declared.event.Event.TheVariants as events
use Rattle.qs_tm.specs.declared.participant.Participant.{Participant}
use Rattle.qs_world.specs.Moves.{log_after, waiting_after}
use Rattle.qs_world.specs.Posting.{entries_of}
use Rattle.qs_world.specs.World.{Host}
use Rattle.qs_world_lawful.specs.Entering.{book_at, entries_so_far}
use Rattle.qs_world_lawful.specs.GivenStep.{first_work}
use Rattle.qs_world_lawful.specs.LastingLaws.{IsNumbered}
use Rattle.qs_world_lawful.specs.Logged.{HasCommitted, HoldsHost, HoldsLogged, HoldsLogs, IsPlain, IsTrueEvent}
use Rattle.qs_world_lawful.specs.Logs.{Every}
use Rattle.qs_world_lawful.specs.Said.{HoldsSaid}
use Rattle.qs_world_lawful.specs.Saying.{AreCommitted, SaidAfter, book_then, learn_all}
use Rattle.qs_world_lawful.specs.StepOn.{StepOn}

-- a rule by which the servers of the node learn that a transaction is committed, behind entries that put nothing on record, where a log has
-- nothing in doubt of it: what that log says stays so, with no Commit
abbrev pub EachLearntSays : Type 0
EachLearntSays = (opened : List Opened) (history : List Entry) → IsCoherent opened → IsLawful (opening opened) history → (stamp : ℕ) (disk waiting : List Record) (work new : Work) (tid : Tid) (front : List Act) (servers : List ServerNo) (log : Recovery)
    → new.out.entries ≡ work.out.entries ++ (front ++ learn_all (here work) tid servers) → Every IsPlain front → new.node.setting ≡ work.node.setting → nat_lt (here work).0 (length opened) ≡ true → nat_lt tid.home.0 (length opened) ≡ true
    → IsLawful (book_after (opening opened) history) (entries_so_far stamp new) → HasCommitted (book_then stamp (book_after (opening opened) history) work front) tid
    → ((state : machine.NodeValue) → slice_get (book_then stamp (book_after (opening opened) history) work front).nodes (here work).0 ≡ Some state → AllLearn (book_then stamp (book_after (opening opened) history) work front) tid (here work).0 state servers)
    → AreCommitted tid log → (logs : HoldsLogs stamp (book_after (opening opened) history) disk waiting work) → HoldsLogged (here work).0 (book_at stamp (book_after (opening opened) history) work) logs.state log
    → SaidAfter (here work).0 (book_at stamp (book_after (opening opened) history) work) log → SaidAfter (here new).0 (book_at stamp (book_after (opening opened) history) new) log

-- ---- the step

abbrev pub is_doubt_of : Tid → Prepared → Bool
is_doubt_of tid vote = is_of tid vote && not vote.committed

-- the home of the transaction is of the run; and where the node says that the log has it in doubt, it has
pub record IsToldSo (opened : List Opened) (log : Recovery) (tid : Tid) (work : Work) : Type 0 where
  pub at_home : nat_lt tid.home.0 (length opened) ≡ true
  pub doubted : (part : Participant) → part_of tid work ≡ Some part → part.log.prepared ≡ true → list_any (is_doubt_of tid) log.prepared ≡ true

-- so it is of a commit that is told
abbrev pub TellsSo : List Opened → Recovery → Event → Work → Type 0
TellsSo opened log (events.Received peer (messages.Tell tid outcomes.Commit)) work = IsToldSo opened log tid work
TellsSo opened log event work = ⊤

-- between steps
pub record SaysBetween (n : ℕ) (book : BookValue) (disk waiting : List Record) : Type 0 where
  pub state : machine.NodeValue
  pub there : slice_get book.nodes n ≡ Some state
  pub said : HoldsSaid n book state (recovery (disk ++ waiting))
  pub on_disk : HoldsSaid n book state (recovery disk)

abbrev pub EachStepSays : Type 0
EachStepSays = (opened : List Opened) (history : List Entry) → IsCoherent opened → Every IsNumbered opened → IsLawful (opening opened) history → (stamp size : ℕ) (nodes : ℕ → NodeValue) (n : ℕ) (host : Host) (event : Event) (free : ℕ)
    → StepOn stamp (book_after (opening opened) history) size nodes n host.node event free → nat_lt n (length opened) ≡ true → IsTrueEvent (book_after (opening opened) history) event → HoldsHost n (book_after (opening opened) history) host.node.manager host.log host.waiting
    → TellsSo opened (recovery (host.log ++ (host.waiting ++ (first_work host.node free).out.records))) event (first_work host.node free) → SaysBetween n (book_after (opening opened) history) host.log host.waiting
    → SaysBetween n (book_after (book_after (opening opened) history) (entries_of n stamp (effects_of host.node event free).entries)) (log_after host (effects_of host.node event free)) (waiting_after host (effects_of host.node event free))
