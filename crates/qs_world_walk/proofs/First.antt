-- Messages, notices and records, which come before the event too: what their deeds keep, their rules keep; and so does the first step of an incarnation.
use Rattle.qs_world_walk.proofs.Words.{Bool, Event, List, Message, NodeNo, None, Option, Outcome, Participant, Settles, Some, Stage, Table, Tid, Whole, Work, [], before, end_members, false, fold, if◌then◌else◌, listed, part_of, refl, send, true}
use Rattle.qs_world_walk.proofs.Words.{◌++◌, ◌∷◌, ◌≡◌}
use Rattle.qs_record.specs.declared.record.Record.{Record}
use Rattle.qs_node_step.specs.Bringing.{is_other, log_if, send_each, send_next}
use Rattle.qs_node_step.specs.Deciding.{due_endings, end_member, give_notices, learn_member, learn_members, learners_at}
use Rattle.qs_node_step.specs.Restarts.{begin_incarnation, known_tids, resume_home, resume_part, resume_tid}
use Rattle.qs_node_step.specs.State.{with_node}
use Rattle.qs_node_step.specs.Telling.{record_learnt}
use Rattle.qs_world_walk.specs.Deed.{sent}
use Rattle.qs_world_walk.specs.May.{Learnt, MayLog, MaySend}
use Rattle.qs_world_walk.specs.Stage.{Early, Moment, stage_at}
use Rattle.qs_world_walk.specs.Whole.{MaySay}
use Rattle.qs_base.specs.declared.identifiers.Outcome.TheVariants as outcomes
use Rattle.qs_packet.specs.declared.message.Message.TheVariants as messages
use Rattle.qs_world_walk.proofs.Shapes as shapes
use Rattle.qs_world_walk.specs.Deed as d

-- to no other node of the run nothing goes
pub sent_is : (P : Work → Type 0) (to : NodeNo) (message : Message) (work : Work) → P (sent to message work) → P (send to message work)
sent_is P to message work = by (is_other work.node.setting to)
  where
    by : (b : Bool) → P (record work { out = record work.out { messages = if b then work.out.messages ++ record { to = to; message = message } ∷ [] else work.out.messages } })
        → P (if b then record work { out = record work.out { messages = work.out.messages ++ record { to = to; message = message } ∷ [] } } else work)
    by true h = h
    by false h = h

-- ---- from a table

module _ (event : Event) (I : Stage → Work → Type 0) (k : Table event I) where
  pub send_keeps : (stage : Stage) (to : NodeNo) (message : Message) (work : Work) → MaySend event to message work → I stage work → I stage (send to message work)
  send_keeps stage to message work may h = sent_is (I stage) to message work (k (d.Sends to message) stage work may h)

  pub send_each_keeps : (stage : Stage) (nodes : List NodeNo) (message : Message) (work : Work) → ((w : Work) (to : NodeNo) → MaySend event to message w) → I stage work → I stage (send_each nodes message work)
  send_each_keeps stage nodes message work may = shapes.fold_keeps (I stage) (send_next message) (λ w to. send_keeps stage to message w (may w to)) nodes work

  module _ (moment : Moment) (tid : Tid) where
    abbrev Keeps : Work → Work → Type 0
    Keeps work new = I (stage_at moment (Settles tid)) work → I (stage_at moment (Settles tid)) new

    pub log_if_keeps : (o : Option Record) (work : Work) → ((rec : Record) → o ≡ Some rec → MayLog tid rec work) → Keeps work (log_if o work)
    log_if_keeps None work may h = h
    log_if_keeps (Some rec) work may h = k (d.Logs tid rec) moment work (may rec refl) h

    pub ended_keeps : (work : Work) → Keeps work (end_members tid work)
    ended_keeps work = shapes.fold_keeps (I (stage_at moment (Settles tid))) (end_member tid) (λ w s. k (d.Ends tid s) moment w tt) (due_endings tid work) work

    learnt_keeps : (outcome : Outcome) (work : Work) → Keeps work (learn_members tid outcome work)
    learnt_keeps outcome work = shapes.fold_keeps (I (stage_at moment (Settles tid))) (learn_member tid outcome) (λ w s. k (d.Learns tid outcome s) moment w tt) (learners_at tid work) work

    pub noticed_keeps : (outcome : Outcome) (work : Work) → Keeps work (give_notices tid outcome work)
    noticed_keeps outcomes.Commit work h = learnt_keeps outcomes.Commit work h
    noticed_keeps outcomes.Abort work h = learnt_keeps outcomes.Abort (end_members tid work) (ended_keeps work h)

    pub learn_logged : (outcome : Outcome) (part : Participant) (work : Work) → Keeps work (log_if (record_learnt tid outcome part) (give_notices tid outcome work))
    learn_logged outcome part work h = log_if_keeps (record_learnt tid outcome part) (give_notices tid outcome work) (λ rec is. Learnt outcome part is) (noticed_keeps outcome work h)

  pub resumed_keeps : (tid : Tid) (part : Participant) (o : Outcome) (work : Work) → I before work → I before (resume_home tid part o work)
  resumed_keeps tid part outcomes.Commit work = send_each_keeps before (listed part.tell) (messages.Tell tid outcomes.Commit) work (λ w to. tt)
  resumed_keeps tid part outcomes.Abort work = learn_logged Early tid outcomes.Abort part work

-- ---- by whole rules

module _ (event : Event) (I : Stage → Work → Type 0) (r : Whole event I) where
  pub lone_send : (stage : Stage) (to : NodeNo) (message : Message) (work : Work) → MaySay event to message work → I stage work → I stage (send to message work)
  lone_send stage to message work may h = sent_is (I stage) to message work (r.does (d.Sends to message) stage work tt may h)

  abbrev Begins : Work → Work → Type 0
  Begins work new = I before work → I before new

  resume_keeps : (work : Work) (tid : Tid) → Begins work (resume_tid work tid)
  resume_keeps work tid = shapes.elim_keeps (I before) (part_of tid work) work (λ part. resume_part tid part work) work (λ none h. h) (λ part known. of part known part.outcome refl)
    where
      of : (part : Participant) → part_of tid work ≡ Some part → (o : Option Outcome) → part.outcome ≡ o → Begins work (elim o [ None ↦ send tid.home (messages.Inquire tid) work | Some outcome ↦ resume_home tid part outcome work ])
      of part known None is = lone_send before tid.home (messages.Inquire tid) work (refl, (part, (known, is)))
      of part known (Some outcome) is = r.resumes tid part outcome work known is

  pub begin_incarnation_keeps : (work : Work) → Begins work (begin_incarnation work)
  begin_incarnation_keeps work = shapes.if_keeps (I before) work.node.is_first (fold resume_tid (with_node (λ node. record node { is_first = false }) work) (known_tids work)) work work
      (λ is h. shapes.fold_keeps (I before) resume_tid resume_keeps (known_tids work) (with_node (λ node. record node { is_first = false }) work) (r.does d.Starts tt work tt is h)) (λ is h. h)
