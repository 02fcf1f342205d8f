-- What is known of names at the stages of a step of a node of a run, and names stand after it.
use Rattle.std.proofs.Common.{◌≡◌, ℕ, List, None, inl, inr, refl, sym, ap, subst}
use Rattle.std.specs.Prelude.{◌⊎◌}
use Rattle.qs_base.specs.declared.identifiers.ClientNo.{ClientNo}
use Rattle.qs_base.specs.declared.identifiers.ServerNo.{ServerNo}
use Rattle.qs_ipc.specs.Ipc as ipc
use Rattle.qs_book_journal.specs.declared.entry.Entry.{Entry}
use Rattle.qs_book_journal.specs.declared.script_line.Command.TheVariants as commands
use Rattle.qs_book_journal.specs.declared.script_line.ScriptLine.{ScriptLine}
use Rattle.qs_book_machine.specs.Lawful.{IsLawful}
use Rattle.qs_book_conformance.specs.Course.{CourseValue}
use Rattle.qs_node_step.specs.Serving.{label_at, serve_next}
use Rattle.qs_node_step.specs.State.{NodeValue, Work, work_on}
use Rattle.qs_node_step.specs.Step.{after_step, effects_of, is_owner, step_work, wait_on, waiting_clients}
use Rattle.qs_node_step.specs.declared.event.Event.{Event}
use Rattle.qs_node_step.specs.declared.event.Event.TheVariants as events
use Rattle.qs_node_step.specs.declared.setting.Setting.{Setting}
use Rattle.qs_node_step.specs.declared.state.OpenCommand.{OpenCommand}
use Rattle.qs_packet.specs.declared.message.Message.{Message}
use Rattle.qs_packet.specs.declared.message.Message.TheVariants as messages
use Rattle.qs_world.specs.Posting.{entries_of}
use Rattle.qs_world_course.specs.Kinds.{course_on}
use Rattle.qs_world_lawful.specs.Agreed.{AreLentUndone}
use Rattle.qs_world_lawful.specs.Coming.{ComesTo}
use Rattle.qs_world_lawful.specs.Entering.{HoldsWork, book_at, entries_so_far}
use Rattle.qs_world_lawful.specs.GivenStep.{first_work}
use Rattle.qs_world_lawful.specs.NodeFacts.{IsCommand}
use Rattle.qs_world_lawful.specs.Standing.{CanCount}
use Rattle.qs_world_lawful.specs.StepKeeps.{entered_by}
use Rattle.qs_world_lawful.specs.StepOn.{StepOn}
use Rattle.qs_world_lawful.proofs.CommandCame.{by_waits}
use Rattle.qs_world_lawful.proofs.GivenStages.{at_each}
use Rattle.qs_world_lawful.proofs.GivenWaiting.{may_wait}
use Rattle.qs_world_lawful.proofs.GivenWhole.{all_any, both_at, small_clients}
use Rattle.qs_world_lawful.proofs.SameSetting.{step_same}
use Rattle.qs_world_walk.specs.Deed as d
use Rattle.qs_world_walk.specs.Deed.{did}
use Rattle.qs_world_walk.specs.Stage as walks
use Rattle.qs_world_walk.specs.Walked.{AtEach}
use Rattle.qs_world_walk.proofs.First as first
use Rattle.qs_world_walk.proofs.Stages.{serves_kept}
use Rattle.qs_world_walk.proofs.Wholes.{whole_of}
use Rattle.qs_world_said.specs.Amid.{course_amid}
use Rattle.qs_world_said.specs.Hands.{ComesAs, IsToBegin, Owns}
use Rattle.qs_world_said.specs.Knows.{KnowsNames, MaySay}
use Rattle.qs_world_said.specs.Labels.{TellsItsLabel}
use Rattle.qs_world_said.specs.Naming.{NamesAmid, NamesStand}
use Rattle.qs_world_said.specs.NamingStep.{IsGiven, IsGivenLine, IsGivenMessage, IsGivenServing, NamesAreKnownAmid, StepKeepsStanding}
use Rattle.qs_world_said.specs.Steps.{KnowsComing, KnowsEvent, KnowsMessage, KnowsServing}
use Rattle.qs_world_said.proofs.Hands as hands
use Rattle.qs_world_said.proofs.HandsStay.{each_gives}
use Rattle.qs_world_said.proofs.LawfulStages as lawful
use Rattle.qs_world_said.proofs.Machine.{room_is_known}
use Rattle.qs_world_said.proofs.NamesServed.{served_names}
use Rattle.qs_world_said.proofs.Naming as naming
use Rattle.qs_world_said.proofs.Naming.{begins_so, names_are_known, names_stay, stand_amid}

module _ (own : Owns) (stamp : ℕ) (before : CourseValue) (size : ℕ) (nodes : ℕ → NodeValue) (n : ℕ) (node : NodeValue) (event : Event) (free : ℕ) (on : StepOn stamp before.book size nodes n node event free)
    (comes_as : ComesAs own node event) (tells : TellsItsLabel before.book event) (stood : NamesStand own before node) where
  abbrev I : walks.Stage → Work → Type 0
  I = naming.I own stamp before.book on.in_run event

  abbrev begun : Work
  begun = first_work node free

  at_first : I walks.before begun
  at_first = first.begin_incarnation_keeps event I (whole_of event I (naming.table own stamp before.book on.in_run event tells)) (work_on node free) (begins_so own stamp before on.in_run event node free comes_as stood)

  stand : (stage : walks.Stage) (work : Work) → IsLawful before.book (entries_so_far stamp work) → I stage work → NamesStand own (course_amid stamp before work) work.node
  stand stage work so i = stand_amid own stamp before on.in_run event stage work i so

  known : (stage : walks.Stage) (work : Work) → IsLawful before.book (entries_so_far stamp work) → I stage work → KnowsNames (course_amid stamp before work) work.node
  known stage work so i = names_are_known own (course_amid stamp before work) work.node (stand stage work so i)

  abbrev L : Work → Type 0
  L = lawful.I stamp before size nodes n node event free on

  first_lawful : IsLawful before.book (entries_so_far stamp begun)
  first_lawful = (lawful.s stamp before size nodes n node event free on).first.held.lawful

  -- ---- what comes

  opened : (line : ScriptLine) → event ≡ events.Command line.client line.line line.label line.command → KnowsNames (course_amid stamp before (did (d.Opens line) begun)) (did (d.Opens line) begun).node
  opened line is = known walks.after (did (d.Opens line) begun) first_lawful (naming.table own stamp before.book on.in_run event tells (d.Opens line) tt begun is at_first)

  -- a label that begins is one that the node has not met
  unmet : (line : ScriptLine) → event ≡ events.Command line.client line.line line.label line.command → line.command ≡ commands.Begin → label_at line.label begun.node ≡ None
  unmet line is begins = by ((at_first.0.0.yet refl).lines line is).says
    where
      by : MaySay (is_owner line.client (own.begins line.label)) line.command ⊎ IsToBegin own begun.node line.client line → label_at line.label begun.node ≡ None
      by (inl may) = absurd (subst (MaySay (is_owner line.client (own.begins line.label))) begins may)
      by (inr b) = b.1.1

  line_comes : (line : ScriptLine) → event ≡ events.Command line.client line.line line.label line.command → IsGivenLine stamp before begun line → KnowsComing KnowsNames stamp before begun line
  line_comes line is given = let k = (lawful.s stamp before size nodes n node event free on).first in let room = room_is_known stamp before begun k.held k.by.facts.room.keep in record {
    first = given.first;
    knows = opened line is;
    new = λ begins. record { unmet = unmet line is begins; unrefused = given.unrefused begins };
    room = record { state = room.state; there = room.there; keep = room.keep };
  }

  message : (m : Message) → IsGivenMessage stamp before begun m → KnowsMessage KnowsNames stamp before begun m
  message messages.Hello given = tt
  message (messages.Request tid label member number issuer op) given = λ none. record { unmet = none; unrefused = given none }
  message (messages.Answered tid member number reply) given = record { knows = known walks.before begun first_lawful at_first; gave = given }
  message (messages.AskVote tid) given = tt
  message (messages.Covered tid up_to) given = tt
  message (messages.VotedYes tid up_to told) given = tt
  message (messages.VotedAbort tid cause) given = tt
  message (messages.Tell tid outcome) given = tt
  message (messages.Told tid further) given = tt
  message (messages.Inquire tid) given = tt

  serving : (work : Work) (server : ServerNo) → L work → NamesAmid own stamp before work → IsGivenServing stamp before work server → KnowsServing KnowsNames stamp before work server
  serving work server k names given delivery reply may = let stands = names k.held.lawful in let it = given delivery reply may in record {
    knows = names_are_known own (course_amid stamp before work) work.node stands;
    sits = it.sits;
    replies = λ own_node. record { knows = names_are_known own _ _ (served_names own stamp before work server delivery reply stands); gave = it.replies own_node };
  }

  serves : event ≡ events.ServeAll → AtEach (λ (w : Work) (server : ServerNo). NamesAmid own stamp before w) serve_next begun (ipc.turns begun.node.queues)
  serves is = each_gives (λ (w : Work) (server : ServerNo). I walks.after w) (λ (w : Work) (server : ServerNo). NamesAmid own stamp before w) serve_next (λ w server i. stand_amid own stamp before on.in_run event walks.after w i) (ipc.turns begun.node.queues) begun
      (serves_kept event I (whole_of event I (naming.table own stamp before.book on.in_run event tells)) node free (begins_so own stamp before on.in_run event node free comes_as stood) is)

  comes : (e : Event) → event ≡ e → ComesTo (book_at stamp before.book begun) e begun → IsGiven stamp before e begun → KnowsEvent KnowsNames stamp before e begun
  comes (events.Command client line label command) is fits given = line_comes (record { client = client; line = line; label = label; command = command }) is given
  comes (events.Received peer m) is fits given = message m given
  comes events.ServeAll is fits given = at_each L (λ (server : ServerNo). Unit {0}) (λ (w : Work) (server : ServerNo). (NamesAmid own stamp before w × IsGivenServing stamp before w server) × CanCount w server) (KnowsServing KnowsNames stamp before) serve_next
      (λ w server k any g. serving w server k g.0.0 g.0.1) (λ w server k any g. lawful.served_on stamp before size nodes n node event free on w server k g.1) (ipc.turns begun.node.queues) begun (lawful.s stamp before size nodes n node event free on).first
      (all_any (ipc.turns begun.node.queues))
      (both_at (λ (w : Work) (server : ServerNo). NamesAmid own stamp before w × IsGivenServing stamp before w server) CanCount serve_next (ipc.turns begun.node.queues) begun
      (both_at (λ (w : Work) (server : ServerNo). NamesAmid own stamp before w) (IsGivenServing stamp before) serve_next (ipc.turns begun.node.queues) begun (serves is) given) fits)
  comes (events.PeerRestarted peer old new) is fits given = tt
  comes events.Tick is fits given = given

  -- ---- commands that stayed open

  abbrev end : Work
  end = lawful.end stamp before size nodes n node event free on

  abbrev Small : ClientNo → Type 0
  Small = lawful.IsSmall stamp before size nodes n node event free on

  at_end : L end
  at_end = lawful.at_end stamp before size nodes n node event free on

  waits : AtEach (λ (work : Work) (client : ClientNo). KnowsNames (course_amid stamp before work) work.node) wait_on end (waiting_clients end)
  waits = at_each L Small (λ (work : Work) (client : ClientNo). AreLentUndone size nodes n work × NamesAmid own stamp before work) (λ (work : Work) (client : ClientNo). KnowsNames (course_amid stamp before work) work.node) wait_on
      (λ work client k small g. names_are_known own (course_amid stamp before work) work.node (g.1 k.held.lawful))
      (λ work client k small g. let held : HoldsWork stamp before.book (wait_on work client) = by_waits stamp before.book work k.held client (may_wait stamp before.book size nodes n work k.by g.0 client small) in
      record { held = held; by = (lawful.s stamp before size nodes n node event free on).rules.waits work client k held })
      (waiting_clients end) end at_end (small_clients (λ (entry : ClientNo × OpenCommand). IsCommand end.node.setting entry.0 entry.1) Small (λ entry is. is.small) end.node.commands at_end.by.facts.commands)
      (both_at (λ (work : Work) (client : ClientNo). AreLentUndone size nodes n work) (λ (work : Work) (client : ClientNo). NamesAmid own stamp before work) wait_on (waiting_clients end) end (lawful.s stamp before size nodes n node event free on).agreed.waits
      (names_stay own stamp before node event free on.in_run comes_as tells stood).waits)

pub names_are_known_amid : NamesAreKnownAmid
names_are_known_amid own stamp before size nodes n node event free on comes_as tells stood given = record {
  comes = comes own stamp before size nodes n node event free on comes_as tells stood event refl (lawful.s stamp before size nodes n node event free on).comes given;
  waits = waits own stamp before size nodes n node event free on comes_as tells stood;
}

pub step_keeps_standing : StepKeepsStanding
step_keeps_standing own stamp before node event free run so comes_as tells stood = record {
  hands = hands.same own (step_work node event free).node (after_step node event free) refl refl all.hands refl (λ k t. refl);
  labels = all.labels;
  outcomes = all.outcomes;
  owners = all.owners;
}
  where
    same : entries_so_far stamp (step_work node event free) ≡ entered_by stamp node event free
    same = ap (λ (s : Setting). entries_of s.node.0 stamp (effects_of node event free).entries) (step_same node event free)

    all : NamesStand own (course_on before (entered_by stamp node event free)) (step_work node event free).node
    all = subst (λ (es : List Entry). NamesStand own (course_on before es) (step_work node event free).node) same
        ((names_stay own stamp before node event free run comes_as tells stood).all (subst (IsLawful before.book) (sym same) so))
