-- At which stage of a step a deed is done: one is enough for most, and the others say which it is.
use Rattle.std.specs.Prelude.{⊤, Bool, true, Option}
use Rattle.std.specs.Option.{option_map}
use Rattle.qs_base.specs.declared.identifiers.ServerNo.{ServerNo}
use Rattle.qs_base.specs.declared.identifiers.Tid.{Tid}
use Rattle.qs_world_walk.specs.Deed.{Deed, Issuer}
use Rattle.qs_world_walk.specs.Deed as d
use Rattle.qs_world_walk.specs.Stage.{Moment, Serves, Settles, Stage, Waits, after, before, during, in_turn, stage_at}

-- a client issues as its command comes, or in its turn; files in the turn of the transaction
abbrev pub WhenIssued : Issuer → Type 0
WhenIssued (d.Client client command) = Bool
WhenIssued (d.Files server) = ⊤

abbrev pub When : Deed → Type 0
When (d.Sends to message) = Stage
When (d.Logs tid rec) = Moment
When (d.Ends tid server) = Moment
When (d.Learns tid outcome server) = Moment
When (d.Answers client command why) = Bool
When (d.Takes client command tid loan) = Bool
When (d.Yields client command tid loan) = Bool
When (d.IssuesHere by tid request op) = WhenIssued by
When (d.IssuesAway by tid request op) = WhenIssued by
When (d.NotesReply tid member number request) = Option ServerNo
When (d.GivesReply tid member number request command reply) = Option ServerNo
When (d.LosesReply tid member number request) = Option ServerNo
When (d.Decides tid outcome cause) = Bool
When deed = ⊤

-- a reply comes, or is given in the turn of the server that served
abbrev pub replying : Option ServerNo → Stage
replying server = record { come = true; turn = option_map Serves server }

abbrev pub issuing : (by : Issuer) → Tid → WhenIssued by → Stage
issuing (d.Client client command) tid own = in_turn own (Waits client)
issuing (d.Files server) tid when = during (Settles tid)

abbrev pub stage_of : (deed : Deed) → When deed → Stage
stage_of d.Starts when = before
stage_of d.Lets when = before
stage_of (d.Opens line) when = before
stage_of (d.Labels label tid) when = before
stage_of (d.Meets tid) when = before
stage_of (d.Engages tid peer number) when = before
stage_of (d.TakesIn peer tid member number op) when = before
stage_of (d.Stales peer) when = before
stage_of d.Ticks when = before
stage_of (d.Rests turn) when = during turn
stage_of (d.Sends to message) stage = stage
stage_of (d.Logs tid rec) moment = stage_at moment (Settles tid)
stage_of (d.Ends tid server) moment = stage_at moment (Settles tid)
stage_of (d.Learns tid outcome server) moment = stage_at moment (Settles tid)
stage_of (d.Answers client command why) own = in_turn own (Waits client)
stage_of (d.Takes client command tid loan) own = in_turn own (Waits client)
stage_of (d.Yields client command tid loan) own = in_turn own (Waits client)
stage_of (d.IssuesHere by tid request op) when = issuing by tid when
stage_of (d.IssuesAway by tid request op) when = issuing by tid when
stage_of (d.Serves server delivery reply) when = during (Serves server)
stage_of (d.ServesAway server delivery reply) when = during (Serves server)
stage_of (d.Drops server delivery) when = during (Serves server)
stage_of (d.NotesReply tid member number request) server = replying server
stage_of (d.GivesReply tid member number request command reply) server = replying server
stage_of (d.LosesReply tid member number request) server = replying server
stage_of (d.Votes tid server ballot) when = during (Settles tid)
stage_of (d.Prepares tid server) when = during (Settles tid)
stage_of (d.SaysYes tid part superior) when = during (Settles tid)
stage_of (d.TakesCauses tid) when = during (Settles tid)
stage_of (d.Forgets tid part) when = during (Settles tid)
stage_of (d.Decides tid outcome cause) own = in_turn own (Settles tid)
stage_of deed when = after

-- and at which it goes on
abbrev pub next_stage : (deed : Deed) → When deed → Stage
next_stage d.Lets when = after
next_stage (d.Opens line) when = after
next_stage (d.TakesIn peer tid member number op) when = after
next_stage (d.Stales peer) when = after
next_stage d.Ticks when = after
next_stage (d.Turns turn) when = during turn
next_stage (d.Rests turn) when = after
next_stage deed when = stage_of deed when
