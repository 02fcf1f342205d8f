-- As a node serves all that waits, and before that as its incarnation begins, no server votes.
use Rattle.std.proofs.Common.{◌≡◌, ℕ, Bool, true, false, List, [], ◌∷◌, ◌++◌, Option, Some, None, refl}
use Rattle.std.specs.Prelude.{⊤, fold}
use Rattle.qs_base.specs.declared.identifiers.ClientNo.{ClientNo}
use Rattle.qs_base.specs.declared.identifiers.ServerNo.{ServerNo}
use Rattle.qs_base.specs.declared.identifiers.Tid.{Tid}
use Rattle.qs_book_journal.specs.declared.entry.Act.{Act}
use Rattle.qs_book_journal.specs.declared.entry.Act.TheVariants as acts
use Rattle.qs_ipc.specs.Ipc as ipc
use Rattle.qs_ipc.specs.declared.delivery.Delivery.{Delivery}
use Rattle.qs_ops.specs.declared.reply.Reply.{Reply}
use Rattle.qs_book_conformance.specs.Course.{CourseValue}
use Rattle.qs_book_conformance.specs.Effects.{course_after}
use Rattle.qs_node_step.specs.Bringing.{member_here}
use Rattle.qs_node_step.specs.Serving.{lent_to, serve_next}
use Rattle.qs_node_step.specs.State.{NodeValue, Work, work_on}
use Rattle.qs_node_step.specs.declared.event.Event.TheVariants as events
use Rattle.qs_world.specs.Posting.{entries_of, entry_of}
use Rattle.qs_world_course.specs.Kinds.{Keeps}
use Rattle.qs_world_lawful.specs.GivenStep.{first_work}
use Rattle.qs_world_lawful.specs.Logs.{Every}
use Rattle.qs_world_lawful.proofs.LogRecords.{every_append}
use Rattle.qs_world_walk.proofs.First as first
use Rattle.qs_world_walk.proofs.Rules as rules
use Rattle.qs_world_walk.proofs.Wholes.{whole_of}
use Rattle.qs_world_walk.specs.Deed.{Deed, loan_entered}
use Rattle.qs_world_walk.specs.Deed as d
use Rattle.qs_world_walk.specs.Stage.{Serves, Settles, Stage, Turn, Waits}
use Rattle.qs_world_walk.specs.Walked.{Table, done_work}
use Rattle.qs_world_walk.specs.When.{stage_of}
use Rattle.qs_world_walk.specs.Whole.{Whole}
use Rattle.qs_world_filed.specs.Parts.{within_quotas}

abbrev pub IsNoVote : Act → Type 0
IsNoVote (acts.Vote tid member vote covers) = ⊥
IsNoVote act = ⊤

-- so it keeps to quotas, whatever its course is
act_kept : (course : CourseValue) (n stamp : ℕ) (act : Act) → IsNoVote act → within_quotas course (entry_of n stamp act) ≡ None
act_kept course n stamp (acts.Vote tid member vote covers) none = absurd none
act_kept course n stamp act none = refl

pub unvoted_kept : (n stamp : ℕ) (done : List Act) (course : CourseValue) → Every IsNoVote done → Keeps within_quotas course (entries_of n stamp done)
unvoted_kept n stamp [] course none = tt
unvoted_kept n stamp (act ∷ done) course none = (act_kept course n stamp act none.0, unvoted_kept n stamp done (course_after course (entry_of n stamp act)) none.1)

-- ---- before what comes, and in the turn of a server

abbrev In : Bool → Option Turn → List Act → Type 0
In false turn done = Every IsNoVote done
In true None done = ⊤
In true (Some (Serves server)) done = Every IsNoVote done
In true (Some (Settles tid)) done = ⊤
In true (Some (Waits client)) done = ⊤

abbrev IsUnvoted : Stage → Work → Type 0
IsUnvoted stage work = In stage.come stage.turn work.out.entries

push : (done : List Act) (act : Act) → IsNoVote act → Every IsNoVote done → Every IsNoVote (done ++ act ∷ [])
push done act none all = every_append IsNoVote done (act ∷ []) all (none, tt)

one : (come : Bool) (turn : Option Turn) (done : List Act) (act : Act) → IsNoVote act → In come turn done → In come turn (done ++ act ∷ [])
one false turn done act none h = push done act none h
one true None done act none h = tt
one true (Some (Serves server)) done act none h = push done act none h
one true (Some (Settles tid)) done act none h = tt
one true (Some (Waits client)) done act none h = tt

at : (stage : Stage) (done : List Act) (act : Act) → IsNoVote act → In stage.come stage.turn done → In stage.come stage.turn (done ++ act ∷ [])
at stage done act none h = one stage.come stage.turn done act none h

lent : (tid : Tid) (o : Option ClientNo) (done : List Act) → Every IsNoVote done → Every IsNoVote (loan_entered tid o done)
lent tid None done all = all
lent tid (Some client) done all = push done (acts.Loan tid client) tt all

served : (server : ServerNo) (delivery : Delivery) (reply : Reply) (work : Work) → Every IsNoVote work.out.entries
    → Every IsNoVote (loan_entered delivery.tid (lent_to delivery.op) (work.out.entries ++ acts.Serve delivery.tid (member_here work server) delivery.from delivery.number reply ∷ []))
served server delivery reply work all = lent delivery.tid (lent_to delivery.op) (work.out.entries ++ acts.Serve delivery.tid (member_here work server) delivery.from delivery.number reply ∷ []) (push work.out.entries (acts.Serve delivery.tid (member_here work server) delivery.from delivery.number reply) tt all)

unvoted_table : Table events.Tick IsUnvoted
unvoted_table (d.Turns (Serves server)) when w m h = absurd (cc m)
unvoted_table (d.Turns (Settles tid)) when w m h = tt
unvoted_table (d.Turns (Waits client)) when w m h = tt
unvoted_table (d.Rests turn) when w m h = tt
unvoted_table d.Lets when w m h = tt
unvoted_table (d.Opens line) when w m h = tt
unvoted_table (d.TakesIn peer tid member number op) when w m h = tt
unvoted_table (d.Stales peer) when w m h = tt
unvoted_table d.Ticks when w m h = tt
unvoted_table (d.Serves server delivery reply) when w m h = served server delivery reply w h
unvoted_table (d.ServesAway server delivery reply) when w m h = served server delivery reply w h
unvoted_table (d.Ends tid server) when w m h = at (stage_of (d.Ends tid server) when) w.out.entries (acts.Ending tid (member_here w server)) tt h
unvoted_table (d.Learns tid outcome server) when w m h = at (stage_of (d.Learns tid outcome server) when) w.out.entries (acts.Learn tid (member_here w server) outcome) tt h
unvoted_table (d.Answers client command why) when w m h = at (stage_of (d.Answers client command why) when) w.out.entries _ tt h
unvoted_table (d.Takes client command tid loan) when w m h = at (stage_of (d.Takes client command tid loan) when) w.out.entries _ tt h
unvoted_table (d.Yields client command tid loan) when w m h = at (stage_of (d.Yields client command tid loan) when) (w.out.entries ++ acts.Yield tid client ∷ []) _ tt (at (stage_of (d.Yields client command tid loan) when) w.out.entries (acts.Yield tid client) tt h)
unvoted_table (d.IssuesHere by tid request op) when w m h = at (stage_of (d.IssuesHere by tid request op) when) w.out.entries _ tt h
unvoted_table (d.IssuesAway by tid request op) when w m h = at (stage_of (d.IssuesAway by tid request op) when) w.out.entries _ tt h
unvoted_table (d.GivesReply tid member number request command reply) when w m h = at (stage_of (d.GivesReply tid member number request command reply) when) w.out.entries _ tt h
unvoted_table (d.Decides tid outcome cause) when w m h = at (stage_of (d.Decides tid outcome cause) when) w.out.entries (acts.Decide tid outcome cause) tt h
unvoted_table (d.Begins line) when w m h = tt
unvoted_table (d.Refuses line need room) when w m h = tt
unvoted_table (d.Asks line tid) when w m h = tt
unvoted_table (d.Counts peer tid up_to told) when w m h = tt
unvoted_table (d.Votes tid server ballot) when w m h = tt
unvoted_table (d.Prepares tid server) when w m h = tt
unvoted_table deed when w m h = h

whole : Whole events.Tick IsUnvoted
whole = whole_of events.Tick IsUnvoted unvoted_table

-- ---- all that waits is served

serves_none : (servers : List ServerNo) (work : Work) → Every IsNoVote work.out.entries → Every IsNoVote (fold serve_next work servers).out.entries
serves_none [] work h = h
serves_none (server ∷ servers) work h = serves_none servers (serve_next work server) (rules.serve_next_keeps events.Tick IsUnvoted whole server work h)

pub serving_votes_none : (node : NodeValue) (free : ℕ) → Every IsNoVote (done_work node events.ServeAll free).out.entries
serving_votes_none node free = serves_none (ipc.turns (first_work node free).node.queues) (first_work node free) (first.begin_incarnation_keeps events.Tick IsUnvoted whole (work_on node free) tt)
