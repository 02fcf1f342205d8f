-- The same by whole rules, each of which is several deeds that one test lets be done: a decision, a vote pass, an outcome that is learnt, and so on. By these go facts
-- that hang on why those deeds are done, or that do not hold between them. A table of deeds gives all of them.
use Rattle.std.specs.Prelude.{◌≡◌, ℕ, ⊤, fold, Bool, true, false, List, Option, Some, None}
use Rattle.qs_base.specs.declared.identifiers.Member.{Member}
use Rattle.qs_base.specs.declared.identifiers.NodeNo.{NodeNo}
use Rattle.qs_base.specs.declared.identifiers.Outcome.{Outcome}
use Rattle.qs_base.specs.declared.identifiers.ServerNo.{ServerNo}
use Rattle.qs_base.specs.declared.identifiers.Tid.{Tid}
use Rattle.qs_book_journal.specs.declared.script_line.Command.TheVariants as commands
use Rattle.qs_book_journal.specs.declared.script_line.ScriptLine.{ScriptLine}
use Rattle.qs_ops.specs.declared.answer.Cause.{Cause}
use Rattle.qs_ops.specs.declared.operation.Op.{Op}
use Rattle.qs_packet.specs.declared.message.Message.{Message}
use Rattle.qs_packet.specs.declared.message.Message.TheVariants as messages
use Rattle.qs_node_step.specs.Answering.{inquiry_at_home, kept_outcome}
use Rattle.qs_node_step.specs.Asking.{become_asked}
use Rattle.qs_node_step.specs.Bringing.{send}
use Rattle.qs_node_step.specs.Commands.{enter_ask}
use Rattle.qs_node_step.specs.Deciding.{decide}
use Rattle.qs_node_step.specs.Requests.{issue_as, next_number}
use Rattle.qs_node_step.specs.Restarts.{notice_part, resume_home}
use Rattle.qs_node_step.specs.Serving.{request_came}
use Rattle.qs_node_step.specs.Settling.{is_pass_due, refuse_elsewhere}
use Rattle.qs_node_step.specs.State.{NodeValue, Work, part_of, with_manager, work_on}
use Rattle.qs_node_step.specs.Step.{abort_old}
use Rattle.qs_node_step.specs.Telling.{names_at, take_names, take_outcome}
use Rattle.qs_node_step.specs.Voting.{vote_pass}
use Rattle.qs_node_step.specs.declared.event.Event.{Event}
use Rattle.qs_node_step.specs.declared.event.Event.TheVariants as events
use Rattle.qs_tm.specs.Manager as tm
use Rattle.qs_tm.specs.declared.participant.Outstanding.{Outstanding}
use Rattle.qs_tm.specs.declared.participant.Participant.{Participant}
use Rattle.qs_world_walk.specs.Deed.{Deed, Issuer, did, fresh_command, issued_by}
use Rattle.qs_world_walk.specs.Deed as d
use Rattle.qs_world_walk.specs.May.{InHand, IsHome, IsMet, IsOpen, May, MayDecide, MayIssue, command_of}
use Rattle.qs_world_walk.specs.Stage.{Settles, Stage, after, before, during, in_turn}
use Rattle.qs_world_walk.specs.Walked.{AtTurns}
use Rattle.qs_world_walk.specs.When.{When, WhenIssued, issuing, next_stage, stage_of}

-- what is done alone, and not in a whole rule only
abbrev pub IsAlone : Deed → Type 0
IsAlone (d.Labels label tid) = ⊥
IsAlone (d.Meets tid) = ⊥
IsAlone (d.Engages tid peer number) = ⊥
IsAlone (d.TakesIn peer tid member number op) = ⊥
IsAlone (d.Logs tid rec) = ⊥
IsAlone (d.Ends tid server) = ⊥
IsAlone (d.Learns tid outcome server) = ⊥
IsAlone (d.Asks line tid) = ⊥
IsAlone (d.BecomesAsked peer tid) = ⊥
IsAlone (d.IssuesHere by tid request op) = ⊥
IsAlone (d.IssuesAway by tid request op) = ⊥
IsAlone (d.Votes tid server ballot) = ⊥
IsAlone (d.Prepares tid server) = ⊥
IsAlone (d.TakesCauses tid) = ⊥
IsAlone (d.Decides tid outcome cause) = ⊥
IsAlone (d.TakesNames tid further) = ⊥
IsAlone (d.TakesOutcome tid outcome) = ⊥
IsAlone (d.KeepsAbort tid) = ⊥
IsAlone (d.AddsTold tid peer) = ⊥
IsAlone (d.AddsTell tid peer) = ⊥
IsAlone (d.Notices tid peer) = ⊥
IsAlone deed = ⊤

-- a message that is sent alone: a refusal that is passed on, and an inquiry as an incarnation begins
abbrev pub MaySay : Event → NodeNo → Message → Work → Type 0
MaySay event to (messages.VotedAbort tid cause) work = (to ≡ tid.home) × (IsHome false tid work × ((part_of tid work ≡ None) × ((peer : NodeNo) × (event ≡ events.Received peer (messages.VotedAbort tid cause)))))
MaySay event to (messages.Inquire tid) work = (to ≡ tid.home) × ((part : Participant) × ((part_of tid work ≡ Some part) × (part.outcome ≡ None)))
MaySay event to message work = ⊥

abbrev pub MayAlone : Event → Deed → Work → Type 0
MayAlone event (d.Sends to message) work = MaySay event to message work
MayAlone event deed work = May event deed work

-- an owner's command that asks, with what stands then
pub record MayAsk (event : Event) (line : ScriptLine) (tid : Tid) (part : Participant) (work : Work) : Type 0 where
  pub came : event ≡ command_of line
  pub there : InHand line.client (fresh_command line) work
  pub commit : line.command ≡ commands.Commit
  pub met : IsMet line.client (fresh_command line) true (Some tid) work
  pub undecided : kept_outcome tid work.node ≡ None
  pub running : IsOpen tid part work
  pub first : part.asked ≡ false

pub record Whole (event : Event) (I : Stage → Work → Type 0) : Type 0 where
  pub does : (deed : Deed) (when : When deed) (work : Work) → IsAlone deed → MayAlone event deed work → I (stage_of deed when) work → I (next_stage deed when) (did deed work)
  pub resumes : (tid : Tid) (part : Participant) (outcome : Outcome) (work : Work) → part_of tid work ≡ Some part → part.outcome ≡ Some outcome → I before work → I before (resume_home tid part outcome work)
  pub decides : (tid : Tid) (outcome : Outcome) (cause : Option Cause) (own : Bool) (work : Work) → MayDecide event tid outcome cause work → I (in_turn own (Settles tid)) work → I (in_turn own (Settles tid)) (decide tid outcome cause work)
  pub passes : (tid : Tid) (part : Participant) (work : Work) → IsOpen tid part work → is_pass_due tid part work ≡ true → I (during (Settles tid)) work → I (during (Settles tid)) (vote_pass tid work)
  pub tells : (peer : NodeNo) (tid : Tid) (outcome : Outcome) (work : Work) → event ≡ events.Received peer (messages.Tell tid outcome) → IsHome false tid work → I after work → I after (send peer (messages.Told tid (names_at tid outcome work)) (take_outcome tid outcome work))
  pub inquired : (peer : NodeNo) (tid : Tid) (work : Work) → event ≡ events.Received peer (messages.Inquire tid) → IsHome true tid work → I after work → I after (inquiry_at_home peer tid work)
  pub notices : (peer : NodeNo) (old new : ℕ) (tid : Tid) (part : Participant) (work : Work) → event ≡ events.PeerRestarted peer old new → part_of tid work ≡ Some part → I after work → I after (notice_part peer old new tid part (with_manager (tm.restarted tid peer) work))
  pub ages : (age : ℕ) (work : Work) → event ≡ events.Tick → work.node.setting.age ≡ Some age → I after work → I after (fold (abort_old age) work (tm.aged age work.node.manager))
  pub asked : (peer : NodeNo) (tid : Tid) (part : Participant) (work : Work) → May event (d.BecomesAsked peer tid) work → IsOpen tid part work → I after work → I after (become_asked tid part work)
  pub asks : (line : ScriptLine) (tid : Tid) (part : Participant) (work : Work) → MayAsk event line tid part work → I after work → I after (become_asked tid part (enter_ask tid work))
  pub issues : (by : Issuer) (tid : Tid) (request : Outstanding) (op : Op) (when : WhenIssued by) (work : Work) → next_number tid request.member.node work ≡ Some request.number → MayIssue by tid request op work
      → I (issuing by tid when) work → I (issuing by tid when) (issue_as tid request op (issued_by by tid request work))
  pub requests : (peer : NodeNo) (tid : Tid) (label : List ℕ) (member : Member) (number : ℕ) (issuer : ServerNo) (op : Op) (work : Work) → event ≡ events.Received peer (messages.Request tid label member number issuer op) → I before work → I after (request_came peer tid label member number op work)
  pub names : (peer : NodeNo) (tid : Tid) (further : List NodeNo) (work : Work) → event ≡ events.Received peer (messages.Told tid further) → IsHome true tid work → I after work → I after (take_names tid further work)
  pub refuses : (tid : Tid) (part : Participant) (work : Work) → IsOpen tid part work → part.engage.home ≡ false → I (during (Settles tid)) work → I (during (Settles tid)) (refuse_elsewhere tid part work)

abbrev pub EachWhole : Type 1
EachWhole = (I : Stage → Work → Type 0) (node : NodeValue) (event : Event) (free : ℕ) → Whole event I → I before (work_on node free) → AtTurns I node event free
