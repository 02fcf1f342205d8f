-- Rules of a node's step that leave it sound over its log.
use Rattle.std.specs.Prelude.{◌≡◌, ℕ, true, List, Option, Some, None, false, not}
use Rattle.std.specs.List.{list_all}
use Rattle.qs_base.specs.declared.identifiers.Member.{Member}
use Rattle.qs_base.specs.declared.identifiers.NodeNo.{NodeNo}
use Rattle.qs_base.specs.declared.identifiers.Outcome.{Outcome}
use Rattle.qs_base.specs.declared.identifiers.Outcome.TheVariants as outcomes
use Rattle.qs_base.specs.declared.identifiers.Tid.{Tid}
use Rattle.qs_book_journal.specs.declared.script_line.ScriptLine.{ScriptLine}
use Rattle.qs_ops.specs.declared.answer.Cause.{Cause}
use Rattle.qs_ops.specs.declared.operation.Op.{Op}
use Rattle.qs_ops.specs.declared.reply.Reply.{Reply}
use Rattle.qs_tm.specs.Manager as tm
use Rattle.qs_tm.specs.Participant.{is_undecided}
use Rattle.qs_tm.specs.declared.participant.Participant.{Participant}
use Rattle.qs_node_step.specs.Answering.{inquiry_came}
use Rattle.qs_node_step.specs.Asking.{ask_came, closer_came, refusal_came}
use Rattle.qs_node_step.specs.Commands.{begin_command}
use Rattle.qs_node_step.specs.Deciding.{decide}
use Rattle.qs_node_step.specs.Requests.{reply_came}
use Rattle.qs_node_step.specs.Restarts.{peer_restarted, begin_incarnation}
use Rattle.qs_node_step.specs.Serving.{request_came, serve_all}
use Rattle.qs_node_step.specs.Settling.{pass_rule, ready_rule, refuse_rule, forget_rule, settle}
use Rattle.qs_node_step.specs.State.{Work, part_of}
use Rattle.qs_node_step.specs.Step.{happen, answer_waiting}
use Rattle.qs_node_step.specs.Telling.{tell_came, told_came}
use Rattle.qs_node_step.specs.declared.event.Event.{Event}
use Rattle.qs_engage.specs.Nodes.{listed, same_node}
use Rattle.qs_world.specs.Openings as openings
use Rattle.qs_world.specs.Openings.{is_in_run}
use Rattle.qs_world_refine.specs.Lists.{is_commit}
use Rattle.qs_world_refine.specs.SaidLaws.{SaysOn, BeginsNew}
use Rattle.qs_world_refine.specs.Sound.{is_sound, in_order}
use Rattle.qs_world_refine.specs.SoundSteps.{MayHappen}

-- ---- what comes

abbrev pub BeginSays : Type 0
BeginSays = (line : ScriptLine) (work : Work) → tm.part_of (tm.next_tid work.node.manager) work.node.manager ≡ None → SaysOn work (begin_command line work)

abbrev pub RequestSays : Type 0
RequestSays = (peer : NodeNo) (tid : Tid) (label : List ℕ) (member : Member) (number : ℕ) (op : Op) (work : Work) → SaysOn work (request_came peer tid label member number op work)

abbrev pub ReplySays : Type 0
ReplySays = (tid : Tid) (member : Member) (number : ℕ) (reply : Reply) (work : Work) → SaysOn work (reply_came tid member number reply work)

abbrev pub AskSays : Type 0
AskSays = (peer : NodeNo) (tid : Tid) (work : Work) → SaysOn work (ask_came peer tid work)

abbrev pub CloserSays : Type 0
CloserSays = (peer : NodeNo) (tid : Tid) (up_to : ℕ) (told : List NodeNo) (work : Work) → SaysOn work (closer_came peer tid up_to told work)

abbrev pub RefusalSays : Type 0
RefusalSays = (tid : Tid) (cause : Cause) (work : Work) → SaysOn work (refusal_came tid cause work)

abbrev pub TellSays : Type 0
TellSays = (peer : NodeNo) (tid : Tid) (outcome : Outcome) (work : Work) → SaysOn work (tell_came peer tid outcome work)

abbrev pub ToldSays : Type 0
ToldSays = (peer : NodeNo) (tid : Tid) (further : List NodeNo) (work : Work) → in_order work.node.manager.known ≡ true → SaysOn work (told_came peer tid further work)

abbrev pub InquirySays : Type 0
InquirySays = (peer : NodeNo) (tid : Tid) (work : Work) → SaysOn work (inquiry_came peer tid work)

abbrev pub ServeSays : Type 0
ServeSays = (work : Work) → SaysOn work (serve_all work)

abbrev pub NoticeSays : Type 0
NoticeSays = (peer : NodeNo) (old new : ℕ) (work : Work) → SaysOn work (peer_restarted peer old new work)

abbrev pub HappenSays : Type 0
HappenSays = (event : Event) (work : Work) → MayHappen event work → BeginsNew event work → in_order work.node.manager.known ≡ true → SaysOn work (happen event work)

-- ---- what the node does of itself

abbrev pub DecideSays : Type 0
DecideSays = (tid : Tid) (outcome : Outcome) (cause : Option Cause) (work : Work) → ((part : Participant) → part_of tid work ≡ Some part → is_commit part.outcome ≡ false)
    → (outcome ≡ outcomes.Commit → (part : Participant) → part_of tid work ≡ Some part → (part.log.listed ≡ false) × ((list_all (is_in_run 16) (listed part.told) ≡ true) × ((not (openings.has_node (listed part.told) tid.home) ≡ true) × (same_node tid.home work.node.setting.node ≡ true)))) → SaysOn work (decide tid outcome cause work)

abbrev pub PassSays : Type 0
PassSays = (tid : Tid) (part : Participant) (work : Work) → part_of tid work ≡ Some part → is_undecided part ≡ true → is_sound work.node ≡ true → SaysOn work (pass_rule tid part work)

abbrev pub ReadySays : Type 0
ReadySays = (tid : Tid) (part : Participant) (work : Work) → part_of tid work ≡ Some part → is_undecided part ≡ true → is_sound work.node ≡ true → SaysOn work (ready_rule tid part work)

abbrev pub RefuseSays : Type 0
RefuseSays = (tid : Tid) (part : Participant) (work : Work) → part_of tid work ≡ Some part → is_undecided part ≡ true → SaysOn work (refuse_rule tid part work)

abbrev pub ForgetSays : Type 0
ForgetSays = (tid : Tid) (part : Participant) (work : Work) → part_of tid work ≡ Some part → is_sound work.node ≡ true → SaysOn work (forget_rule tid part work)

abbrev pub SettleSays : Type 0
SettleSays = (work : Work) → is_sound work.node ≡ true → SaysOn work (settle work)

abbrev pub ResumeSays : Type 0
ResumeSays = (work : Work) → SaysOn work (begin_incarnation work)

abbrev pub WaitingSays : Type 0
WaitingSays = (work : Work) → SaysOn work (answer_waiting work)
