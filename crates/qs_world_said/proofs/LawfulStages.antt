-- A step of a node of a run is lawful at each of its stages, so what is known of its machine is known there: the names alone are left to be known.
use Rattle.std.proofs.Common.{◌≡◌, ℕ, true, List, ◌∷◌, Some, subst}
use Rattle.std.specs.Prelude.{nat_lt}
use Rattle.qs_base.specs.declared.identifiers.ClientNo.{ClientNo}
use Rattle.qs_base.specs.declared.identifiers.ServerNo.{ServerNo}
use Rattle.qs_base.specs.declared.identifiers.Tid.{Tid}
use Rattle.qs_base_lemmas.proofs.Tests.{none_is}
use Rattle.qs_ipc.specs.Ipc as ipc
use Rattle.qs_ops.specs.declared.answer.Cause.{Cause}
use Rattle.qs_ops.specs.declared.answer.Cause.TheVariants as causes
use Rattle.qs_book_machine.specs.Book.{BookValue, find_transaction}
use Rattle.qs_book_machine.specs.Transaction.{TransactionValue}
use Rattle.qs_book_conformance.specs.Course.{CourseValue}
use Rattle.qs_node_step.specs.Serving.{serve_next}
use Rattle.qs_node_step.specs.Settling.{due_tids, pass_rule, ready_rule, settle, settle_tid, try}
use Rattle.qs_node_step.specs.State.{NodeValue, Work}
use Rattle.qs_node_step.specs.Step.{wait_on, waiting_clients}
use Rattle.qs_node_step.specs.declared.event.Event.{Event}
use Rattle.qs_node_step.specs.declared.event.Event.TheVariants as events
use Rattle.qs_node_step.specs.declared.state.OpenCommand.{OpenCommand}
use Rattle.qs_packet.specs.declared.message.Message.{Message}
use Rattle.qs_packet.specs.declared.message.Message.TheVariants as messages
use Rattle.qs_world_lawful.specs.Agreed.{AgreementGives, AreLentUndone}
use Rattle.qs_world_lawful.specs.Beside.{IsTrueCause}
use Rattle.qs_world_lawful.specs.BesideStep.{HasCountRoom}
use Rattle.qs_world_lawful.specs.Coming.{ComesTo}
use Rattle.qs_world_lawful.specs.Entering.{HoldsWork, book_at}
use Rattle.qs_world_lawful.specs.GivenStep.{first_work}
use Rattle.qs_world_lawful.specs.Logs.{Every}
use Rattle.qs_world_lawful.specs.NodeFacts.{IsCommand}
use Rattle.qs_world_lawful.specs.Standing.{CanCount, Stands}
use Rattle.qs_world_lawful.specs.StepOn.{StepOn}
use Rattle.qs_world_lawful.specs.StepStands.{StepStands}
use Rattle.qs_world_lawful.proofs.BesideWhole.{step_beside}
use Rattle.qs_world_lawful.proofs.CommandCame.{by_waits}
use Rattle.qs_world_lawful.proofs.GivenServing.{may_serve}
use Rattle.qs_world_lawful.proofs.GivenStages.{at_each, s_answered, s_settled}
use Rattle.qs_world_lawful.proofs.GivenWaiting.{may_wait}
use Rattle.qs_world_lawful.proofs.GivenWhole.{all_any, both_at, done, given_so, settled, small_clients}
use Rattle.qs_world_lawful.proofs.LearningAll.{stands}
use Rattle.qs_world_lawful.proofs.Replied.{by_served}
use Rattle.qs_world_lawful.proofs.StandsOn.{step_stands}
use Rattle.qs_world_walk.specs.Walked.{AtEach, done_work}
use Rattle.qs_world_said.specs.Amid.{course_amid}
use Rattle.qs_world_said.specs.Deeds.{IsFound}
use Rattle.qs_world_said.specs.Knows.{KnowsAtStage, KnowsMachine, KnowsNames}
use Rattle.qs_world_said.specs.Steps.{FindsCauses, HasFound, KnowsEvent, KnowsMessage, KnowsServing, KnowsStep, LawfulStepKeepsSaid}
use Rattle.qs_world_said.proofs.AfterServe.{came_machine, served_machine}
use Rattle.qs_world_said.proofs.Machine.{machine_is_known}
use Rattle.qs_world_said.proofs.StepWhole.{step_keeps_said}

-- a cause that stands for good is a vote, or a node that is gone
found_so : (book : BookValue) (tid : Tid) (cause : Cause) → IsTrueCause book tid cause → IsFound cause
found_so book tid causes.Asked t = absurd t
found_so book tid (causes.Voted member reason) t = tt
found_so book tid (causes.Gone node inc) t = tt
found_so book tid (causes.Room need room) t = tt
found_so book tid (causes.Home inc) t = absurd t
found_so book tid (causes.Old age) t = absurd t

module _ (stamp : ℕ) (before : CourseValue) (size : ℕ) (nodes : ℕ → NodeValue) (n : ℕ) (node : NodeValue) (event : Event) (free : ℕ) (on : StepOn stamp before.book size nodes n node event free) where
  pub s : StepStands stamp before.book size nodes n node event free
  s = step_stands stamp before.book size nodes n node event free (step_beside stamp before.book size nodes n node event free on)

  abbrev pub I : Work → Type 0
  I work = Stands stamp before.book size nodes n work

  machine : (work : Work) → I work → KnowsMachine (course_amid stamp before work) work.node
  machine work k = machine_is_known stamp before work k.held

  both : (work : Work) → I work → KnowsNames (course_amid stamp before work) work.node → KnowsAtStage (course_amid stamp before work) work.node
  both work k names = record { machine = machine work k; names = names }

  -- ---- what comes

  serving : (work : Work) (server : ServerNo) → I work → KnowsServing KnowsNames stamp before work server → KnowsServing KnowsAtStage stamp before work server
  serving work server k knows delivery reply may = let it = knows delivery reply may in record {
    knows = both work k it.knows;
    sits = it.sits;
    replies = λ own. let r = it.replies own in record { knows = record { machine = served_machine stamp before work server delivery reply (machine work k); names = r.knows }; gave = r.gave };
  }

  pub served_on : (work : Work) (server : ServerNo) → I work → CanCount work server → I (serve_next work server)
  served_on work server k room = let held : HoldsWork stamp before.book (serve_next work server) = by_served stamp before.book work k.held server (may_serve stamp before.book size nodes n work k server room) in
      record { held = held; by = s.rules.serves work server room k held }

  message : (m : Message) → KnowsMessage KnowsNames stamp before (first_work node free) m → KnowsMessage KnowsAtStage stamp before (first_work node free) m
  message messages.Hello knows = tt
  message (messages.Request tid label member number issuer op) knows = knows
  message (messages.Answered tid member number reply) knows = record { knows = both (first_work node free) s.first knows.knows; gave = knows.gave }
  message (messages.AskVote tid) knows = tt
  message (messages.Covered tid up_to) knows = tt
  message (messages.VotedYes tid up_to told) knows = tt
  message (messages.VotedAbort tid cause) knows = tt
  message (messages.Tell tid outcome) knows = tt
  message (messages.Told tid further) knows = tt
  message (messages.Inquire tid) knows = tt

  comes : (e : Event) → ComesTo (book_at stamp before.book (first_work node free)) e (first_work node free) → KnowsEvent KnowsNames stamp before e (first_work node free) → KnowsEvent KnowsAtStage stamp before e (first_work node free)
  comes (events.Command client line label command) given knows = record {
    first = knows.first;
    knows = record { machine = came_machine stamp before (first_work node free) (record { client = client; line = line; label = label; command = command }) (machine (first_work node free) s.first); names = knows.knows };
    new = knows.new;
    room = knows.room;
  }
  comes (events.Received peer m) given knows = message m knows
  comes events.ServeAll given knows = at_each I (λ (server : ServerNo). Unit {0}) (λ (work : Work) (server : ServerNo). KnowsServing KnowsNames stamp before work server × CanCount work server) (KnowsServing KnowsAtStage stamp before) serve_next
      (λ work server k any g. serving work server k g.0) (λ work server k any g. served_on work server k g.1) (ipc.turns (first_work node free).node.queues) (first_work node free) s.first (all_any (ipc.turns (first_work node free).node.queues))
      (both_at (KnowsServing KnowsNames stamp before) CanCount serve_next (ipc.turns (first_work node free).node.queues) (first_work node free) knows given)
  comes (events.PeerRestarted peer old new) given knows = tt
  comes events.Tick given knows = knows

  -- ---- settling: a home has causes that stand for good

  has_found : (work : Work) (tid : Tid) → I work → HasFound work tid
  has_found work tid k part cause more running home is = found_so (book_at stamp before.book work) tid cause first.0
    where
      tx : (tx : TransactionValue) × (find_transaction (book_at stamp before.book work) tid ≡ Some tx)
      tx = stands stamp (book_at stamp before.book work) work.node tid part k.held.holds running.known

      first : Every (IsTrueCause (book_at stamp before.book work) tid) (cause ∷ more)
      first = subst (λ (cs : List Cause). Every (IsTrueCause (book_at stamp before.book work) tid) cs) is (((k.by.beside.at tid).parts tx.0 part tx.1 running.known).causes (none_is part.outcome running.undecided))

  pub found : FindsCauses node event free
  found = at_each I (λ (tid : Tid). Unit {0}) (λ (work : Work) (tid : Tid). AgreementGives stamp before.book size nodes n work tid × HasCountRoom work tid) (λ (work : Work) (tid : Tid). HasFound (try tid ready_rule (try tid pass_rule work)) tid) settle_tid
      (λ work tid k any g. has_found (try tid ready_rule (try tid pass_rule work)) tid (s_answered stamp before.book size nodes n s.rules work tid k g.0 g.1))
      (λ work tid k any g. s_settled stamp before.book size nodes n s.rules work tid k g.0 g.1)
      (due_tids (done_work node event free)) (done_work node event free) (done stamp before.book size nodes n node event free s) (all_any (due_tids (done_work node event free))) (given_so stamp before.book size nodes n node event free s)

  -- ---- commands that stayed open

  abbrev pub end : Work
  end = settle (done_work node event free)

  abbrev pub IsSmall : ClientNo → Type 0
  IsSmall client = nat_lt client.0 64 ≡ true

  pub at_end : I end
  at_end = settled stamp before.book size nodes n node event free s

  waits : AtEach (λ (work : Work) (client : ClientNo). KnowsNames (course_amid stamp before work) work.node) wait_on end (waiting_clients end) → AtEach (λ (work : Work) (client : ClientNo). KnowsAtStage (course_amid stamp before work) work.node) wait_on end (waiting_clients end)
  waits names = at_each I IsSmall (λ (work : Work) (client : ClientNo). AreLentUndone size nodes n work × KnowsNames (course_amid stamp before work) work.node) (λ (work : Work) (client : ClientNo). KnowsAtStage (course_amid stamp before work) work.node) wait_on
      (λ work client k small g. both work k g.1)
      (λ work client k small g. let held : HoldsWork stamp before.book (wait_on work client) = by_waits stamp before.book work k.held client (may_wait stamp before.book size nodes n work k.by g.0 client small) in record { held = held; by = s.rules.waits work client k held })
      (waiting_clients end) end at_end
      (small_clients (λ (entry : ClientNo × OpenCommand). IsCommand end.node.setting entry.0 entry.1) IsSmall (λ entry is. is.small) end.node.commands at_end.by.facts.commands)
      (both_at (λ (work : Work) (client : ClientNo). AreLentUndone size nodes n work) (λ (work : Work) (client : ClientNo). KnowsNames (course_amid stamp before work) work.node) wait_on (waiting_clients end) end s.agreed.waits names)

  pub known : KnowsStep KnowsNames stamp before node event free → KnowsStep KnowsAtStage stamp before node event free
  known names = record { comes = comes event s.comes names.comes; waits = waits names.waits }

pub lawful_step_keeps_said : LawfulStepKeepsSaid
lawful_step_keeps_said stamp before size nodes n node event free on names stood =
    step_keeps_said stamp before node event free (known stamp before size nodes n node event free on names) (found stamp before size nodes n node event free on) stood
