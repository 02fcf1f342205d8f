-- What all things that a rule does to what a step has in hand, entered, sent and answered, with what it noted, a whole step keeps: the table of its deeds. Before what
-- comes has come one fact holds, and after it another.
use Rattle.qs_world_runs.proofs.Words.{Act, Bool, Cause, ClientNo, Deeds, Delivery, Event, IsKept, IsKeptAt, IsKeptFirst, IsKeptSo, IsOrdinary, IsStill, List, Message, NodeNo, None, Op, Option, Outstanding, Reply, ServerNo, Some, TakesInAt, Tid, Trace, Work, [], answer_of, client_of, deeds_of, doings_of, done_work, due_tids, enter_issue, enter_vote, false, here, if◌then◌else◌, is_other, is_quiet, is_void}
use Rattle.qs_world_runs.proofs.Words.{label_of, lent_to, listed, member_here, pass_rule, refl, same_node, served_count, settle_tid, step_work, subst, told_with_own, trace_of, true, try, with_local, with_manager, work_on, ℕ, ◌++◌, ◌∷◌, ◌≡◌}
use Rattle.qs_base.specs.declared.identifiers.Outcome.{Outcome}
use Rattle.qs_ipc.specs.Queue.{is_for}
use Rattle.qs_node_step.specs.State.{NodeValue}
use Rattle.qs_world_walk.proofs.Wholes.{whole_of}
use Rattle.qs_world_walk.specs.Deed.{Issuer, answer_by, goes_away, issued_by, waiting, waits_here}
use Rattle.qs_world_walk.specs.May.{IsLet, MayDecide, MaySend}
use Rattle.qs_world_walk.specs.Stage.{Early, Later, Stage}
use Rattle.qs_world_walk.specs.Walked.{Table}
use Rattle.qs_world_walk.specs.Whole.{Whole}
use Rattle.qs_world_walk.specs.Walked.{AtEach}
use Rattle.qs_world_runs.proofs.TraceKept.{kept_at, kept_first, taken_at}
use Rattle.qs_world_runs.specs.Deeds.{TakesInSo, traced}
use Rattle.qs_world_runs.specs.DeedsReplied.{IsNotice, IsPlain}
use Rattle.qs_world_runs.specs.Traces.{TakesIn}
use Rattle.qs_base.specs.declared.identifiers.Outcome.TheVariants as outcomes
use Rattle.qs_ops.specs.declared.answer.Answer.TheVariants as answers
use Rattle.qs_ops.specs.declared.vote.Vote.TheVariants as votes
use Rattle.qs_book_journal.specs.declared.entry.Act.TheVariants as acts
use Rattle.qs_ipc.specs.Ipc as ipc
use Rattle.qs_tm.specs.Manager as tm
use Rattle.qs_packet.specs.declared.message.Message.TheVariants as messages
use Rattle.qs_node_step.specs.declared.event.Event.TheVariants as events
use Rattle.qs_world_walk.proofs.Stages as stages
use Rattle.qs_world_walk.specs.Deed as d
use Rattle.qs_world_runs.specs.Traces as traces

plain : (event : Event) (to : NodeNo) (message : Message) (w : Work) → MaySend event to message w → IsPlain message
plain event to (messages.Request tid label member number issuer op) w m = m
plain event to (messages.Answered tid member number reply) w m = m
plain event to message w m = tt

let_is_none : (event : Event) → IsLet event → IsNotice event → ⊥
let_is_none (events.PeerRestarted peer old new) lets notice = lets
let_is_none event lets notice = notice

quiet : (event : Event) (tid : Tid) (outcome : Outcome) (cause : Option Cause) (w : Work) → MayDecide event tid outcome cause w → outcome ≡ outcomes.Commit → is_quiet (doings_of tid w) ≡ true
quiet event tid outcomes.Commit cause w m is = m.1.1.1.quiet
quiet event tid outcomes.Abort cause w m is = absurd (cc is)

module _ (P Q : Deeds → Type 0) (p : IsKeptFirst P) (q : IsKeptAt Q) where
  abbrev R : Bool → Deeds → Type 0
  R true t = Q t
  R false t = P t

  abbrev I : Stage → Work → Type 0
  I stage w = R stage.come (deeds_of w)

  kept_first_of : (c : Bool) → IsKeptFirst (R c)
  kept_first_of true = q.first
  kept_first_of false = p

  sends : (c : Bool) (to : NodeNo) (message : Message) (w : Work) → IsPlain message → R c (deeds_of w) → R c (deeds_of (d.sent to message w))
  sends c to message w is h = by (is_other w.node.setting to)
    where
      by : (b : Bool) → R c (deeds_of (record w { out = record w.out { messages = if b then w.out.messages ++ record { to = to; message = message } ∷ [] else w.out.messages } }))
      by true = (kept_first_of c).sends (deeds_of w) to message is h
      by false = h

  issued : (by : Issuer) (tid : Tid) (request : Outstanding) (w : Work) → Q (deeds_of w) → Q (deeds_of (issued_by by tid request w))
  issued (d.Client client command) tid request w h = q.marks (deeds_of w) client (record { tid = tid; member = request.member; number = request.number }) h
  issued (d.Files server) tid request w h = h

  -- what waits at a server of this node
  queues : (server : ServerNo) (delivery : Delivery) (w : Work) → Q (traced (λ t. traces.with_queues (ipc.enqueue server delivery t.queues) t) (deeds_of w)) → Q (deeds_of w) → Q (deeds_of (waiting server delivery w))
  queues server delivery w waits lets = by (is_for server delivery.op)
    where
      by : (b : Bool) → Q (traced (λ t. traces.with_queues (if b then ipc.enqueue server delivery t.queues else t.queues) t) (deeds_of w))
      by true = waits
      by false = lets

  waits : (tid : Tid) (request : Outstanding) (op : Op) (w : Work) → Q (deeds_of w) → Q (deeds_of (waits_here tid request op w))
  waits tid request op w h = queues request.member.server delivery made (q.queues (deeds_of made) request.member.server delivery refl issues) issues
    where
      delivery : Delivery
      delivery = record { tid = tid; from = here w; number = request.number; op = op; stale = false }

      made : Work
      made = with_local tid request.number (enter_issue tid request op w)

      issues : Q (deeds_of made)
      issues = q.issues (deeds_of w) tid request.issuer request.member request.number op h

  goes : (tid : Tid) (request : Outstanding) (op : Op) (w : Work) → same_node request.member.node (here w) ≡ false → Q (deeds_of w) → Q (deeds_of (goes_away tid request op w))
  goes tid request op w away h = by (is_other w.node.setting request.member.node)
    where
      made : Work
      made = with_manager (tm.sent tid request.member.node) (enter_issue tid request op w)

      message : Message
      message = messages.Request tid (label_of tid w.node) request.member request.number request.issuer op

      by : (b : Bool) → Q (deeds_of (record made { out = record made.out { messages = if b then made.out.messages ++ record { to = request.member.node; message = message } ∷ [] else made.out.messages } }))
      by true = q.asks (deeds_of w) tid (label_of tid w.node) request.issuer request.member request.number op away h
      by false = q.issues (deeds_of w) tid request.issuer request.member request.number op h

  -- the first that waits at a server is served, and its reply goes where it came from
  abbrev made : ServerNo → Delivery → Reply → Work → Option ClientNo → Deeds
  made server delivery reply w o = let s : Deeds = deeds_of (d.served server delivery reply w) in
      traced (λ t. record t { entries = d.loan_entered delivery.tid o (w.out.entries ++ acts.Serve delivery.tid (member_here w server) delivery.from delivery.number reply ∷ []) }) s

  serves : (server : ServerNo) (delivery : Delivery) (reply : Reply) (w : Work) → ipc.next server w.node.queues ≡ Some delivery → (o : Option ClientNo) → Q (deeds_of w) → Q (made server delivery reply w o)
  serves server delivery reply w next None = q.serves (deeds_of w) server delivery reply None next
  serves server delivery reply w next (Some client) = q.serves (deeds_of w) server delivery reply (Some client) next

  replies : (server : ServerNo) (delivery : Delivery) (reply : Reply) (w : Work) → ipc.next server w.node.queues ≡ Some delivery → same_node delivery.from (here w) ≡ false → delivery.stale ≡ false → (o : Option ClientNo)
      → Q (deeds_of w) → Q (traced (λ t. record t { messages = if is_other w.node.setting delivery.from then t.messages ++ record { to = delivery.from; message = messages.Answered delivery.tid (member_here w server) delivery.number reply } ∷ [] else t.messages }) (made server delivery reply w o))
  replies server delivery reply w next far live o h = by (is_other w.node.setting delivery.from) o
    where
      by : (other : Bool) (o : Option ClientNo) → Q (traced (λ t. record t { messages = if other then t.messages ++ record { to = delivery.from; message = messages.Answered delivery.tid (member_here w server) delivery.number reply } ∷ [] else t.messages }) (made server delivery reply w o))
      by false o = serves server delivery reply w next o h
      by true None = q.replies (deeds_of w) server delivery reply None next far live h
      by true (Some client) = q.replies (deeds_of w) server delivery reply (Some client) next far live h

  module _ (event : Event) (t : TakesInAt event P Q) where
    trace_table : Table event I
    trace_table d.Lets when w m h = t.lets (deeds_of w) (let_is_none event m) h
    trace_table (d.Opens line) when w m h = t.comes (deeds_of w) line m h
    trace_table (d.Labels label tid) when w (new, (peer, (member, (number, (op, r))))) h = t.learns (deeds_of w) peer tid label member number r.issuer op r.is h
    trace_table (d.TakesIn peer tid member number op) when w (label, r) h = queues member.server (record { tid = tid; from = peer; number = number; op = op; stale = false }) w
        (t.takes (deeds_of w) peer tid label member number r.issuer op r.is h) (t.lets (deeds_of w) (λ notice. subst IsNotice r.is notice) h)
    trace_table (d.Stales peer) when w (old, new, is) h = t.notices (deeds_of w) peer old new is h
    trace_table d.Ticks when w m h = q.first.enters (deeds_of w) acts.Tick tt (t.lets (deeds_of w) (λ notice. subst IsNotice m notice) h)
    trace_table (d.Sends to message) stage w m h = sends stage.come to message w (plain event to message w m) h
    trace_table (d.Logs tid rec) Early w m h = h
    trace_table (d.Logs tid rec) (Later own) w m h = h
    trace_table (d.Ends tid server) Early w m h = p.enters (deeds_of w) (acts.Ending tid (member_here w server)) tt h
    trace_table (d.Ends tid server) (Later own) w m h = q.first.enters (deeds_of w) (acts.Ending tid (member_here w server)) tt h
    trace_table (d.Learns tid outcome server) Early w m h = p.enters (deeds_of w) (acts.Learn tid (member_here w server) outcome) tt h
    trace_table (d.Learns tid outcome server) (Later own) w m h = q.first.enters (deeds_of w) (acts.Learn tid (member_here w server) outcome) tt h
    trace_table (d.Begins line) when w (there, (came, (is, none))) h = q.begins (deeds_of w) line (tm.next_tid w.node.manager) there is h
    trace_table (d.Refuses line need room) when w (there, m) h = q.closes _ line.client (traces.fresh_command line) (answers.LogFull need room) there (q.refuses (deeds_of w) line h)
    trace_table (d.Answers client command why) when w (there, m) h = q.closes (deeds_of w) client command (answer_by command why) there h
    trace_table (d.Takes client command tid loan) when w (there, m) h = q.closes (deeds_of w) client command (if is_void tid loan w.node then answers.Ended else answers.Done) there h
    trace_table (d.Yields client command tid loan) when w (there, m) h = q.closes _ client command answers.Done there (q.yields (deeds_of w) tid client h)
    trace_table (d.Asks line tid) when w m h = q.commit_asked (deeds_of w) tid h
    trace_table (d.IssuesHere (d.Client client command) tid request op) when w m h = waits tid request op (issued_by (d.Client client command) tid request w) (issued (d.Client client command) tid request w h)
    trace_table (d.IssuesHere (d.Files server) tid request op) when w m h = waits tid request op w h
    trace_table (d.IssuesAway (d.Client client command) tid request op) when w (away, m) h = goes tid request op (issued_by (d.Client client command) tid request w) away (issued (d.Client client command) tid request w h)
    trace_table (d.IssuesAway (d.Files server) tid request op) when w (away, m) h = goes tid request op w away h
    trace_table (d.Serves server delivery reply) when w (may, m) h = serves server delivery reply w may.first (lent_to delivery.op) h
    trace_table (d.ServesAway server delivery reply) when w (may, (far, live)) h = replies server delivery reply w may.first far live (lent_to delivery.op) h
    trace_table (d.Drops server delivery) when w m h = q.leaves (deeds_of w) server h
    trace_table (d.GivesReply tid member number request command reply) when w (waiting, (is, (there, m))) h = q.closes (deeds_of w) (client_of request.issuer) command (answer_of reply) there h
    trace_table (d.Counts peer tid up_to told) when w m h = q.first.enters (deeds_of w) (acts.Counted tid peer up_to) tt h
    trace_table (d.Votes tid server ballot) when w m h = q.votes (deeds_of w) tid (member_here w server) ballot (served_count tid server w) m.1.due h
    trace_table (d.Prepares tid server) when w m h = q.prepares (deeds_of (enter_vote tid server votes.Recoverable w)) tid (q.votes (deeds_of w) tid (member_here w server) votes.Recoverable (served_count tid server w) m.due h)
    trace_table (d.SaysYes tid part superior) when w m h = sends true superior.0 (messages.VotedYes tid superior.1 (listed (told_with_own (here w) part))) w tt h
    trace_table (d.Forgets tid part) when w m h = q.forgets (deeds_of w) tid h
    trace_table (d.Decides tid outcome cause) when w m h = q.decides (deeds_of w) tid outcome cause (quiet event tid outcome cause w m) h
    trace_table (d.EndsCommit tid peer) when w m h = q.forgets (deeds_of w) tid h
    trace_table deed when w m h = h

    whole : Whole event I
    whole = whole_of event I trace_table

    turns_keep : (tids : List Tid) (work : Work) → Q (deeds_of work) → AtEach (λ (w : Work) (tid : Tid). Q (deeds_of (try tid pass_rule w))) settle_tid work tids
    turns_keep [] work h = tt
    turns_keep (tid ∷ tids) work h = (stages.passes_keep event I whole tid work (stages.turns event I whole tid work h), turns_keep tids (settle_tid work tid) (stages.settle_tid_keeps event I whole tid work h))

  -- ---- the whole step

  pub step_kept : (node : NodeValue) (event : Event) (free : ℕ) → TakesInAt event P Q → P (deeds_of (work_on node free)) → Q (deeds_of (step_work node event free))
  step_kept node event free t h = (stages.turns_kept event I (whole event t) node free h).all

  -- and up to each turn as it settles
  pub turns_kept : (node : NodeValue) (event : Event) (free : ℕ) → TakesInAt event P Q → P (deeds_of (work_on node free)) → AtEach (λ (w : Work) (tid : Tid). Q (deeds_of (try tid pass_rule w))) settle_tid (done_work node event free) (due_tids (done_work node event free))
  turns_kept node event free t h = turns_keep event t (due_tids (done_work node event free)) (done_work node event free) (stages.turns_kept event I (whole event t) node free h).done

module _ (P Q : Deeds → Type 0) (p : IsKeptSo P) (q : IsKeptSo Q) where
  pub step_done : (node : NodeValue) (event : Event) (free : ℕ) → TakesInSo event P Q → P (deeds_of (work_on node free)) → Q (deeds_of (step_work node event free))
  step_done node event free t = step_kept P Q (kept_first P p) (kept_at Q q) node event free (taken_at event P Q q t)

  pub turns_done : (node : NodeValue) (event : Event) (free : ℕ) → TakesInSo event P Q → P (deeds_of (work_on node free)) → AtEach (λ (w : Work) (tid : Tid). Q (deeds_of (try tid pass_rule w))) settle_tid (done_work node event free) (due_tids (done_work node event free))
  turns_done node event free t = turns_kept P Q (kept_first P p) (kept_at Q q) node event free (taken_at event P Q q t)

-- ---- what asks nothing of what was noted

ordinary : (act : Act) → IsStill act → IsOrdinary act
ordinary (acts.Begin tid label client) still = still
ordinary (acts.Issue tid issuer member number op) still = still
ordinary (acts.Serve tid member from number reply) still = still
ordinary (acts.Ask tid) still = tt
ordinary (acts.Vote tid member ballot covers) still = tt
ordinary (acts.Counted tid peer up_to) still = tt
ordinary (acts.Decide tid outcome cause) still = tt
ordinary (acts.Ending tid member) still = tt
ordinary (acts.Learn tid member outcome) still = tt
ordinary (acts.Answer client line said) still = still
ordinary (acts.Loan tid client) still = tt
ordinary (acts.Yield tid client) still = tt
ordinary acts.Tick still = tt
ordinary (acts.Crash cause) still = still
ordinary (acts.Restart inc pend done) still = still

module _ (P : Trace → Type 0) (k : IsKept P) where
  kept_so : IsKeptSo (λ d. P d.trace)
  kept_so = record {
    enters = λ d act still. k.enters d.trace act (ordinary act still);
    sends = λ d. k.sends d.trace;
    closes = λ d. k.closes d.trace;
    begins = λ d. k.begins d.trace;
    refuses = λ d. k.refuses d.trace;
    marks = λ d. k.marks d.trace;
    issues = λ d. k.issues d.trace;
    asks = λ d. k.asks d.trace;
    queues = λ d. k.queues d.trace;
    leaves = λ d. k.leaves d.trace;
    forgets = λ d. k.forgets d.trace;
    stales = λ d. k.stales d.trace;
    serves = λ d. k.serves d.trace;
    lends = λ d tid client served. k.enters d.trace (acts.Loan tid client) tt;
    commit_asked = λ d tid. k.enters d.trace (acts.Ask tid) tt;
    votes = λ d tid member ballot covers off. k.enters d.trace (acts.Vote tid member ballot covers) tt;
    prepares = λ d tid h. h;
    yields = λ d tid client. k.enters d.trace (acts.Yield tid client) tt;
    decides = λ d tid outcome cause quiet. k.enters d.trace (acts.Decide tid outcome cause) tt;
  }

module _ (P Q : Trace → Type 0) (p : IsKept P) (q : IsKept Q) where
  pub step_traced : (node : NodeValue) (event : Event) (free : ℕ) → TakesIn event P Q → P (trace_of (work_on node free)) → Q (trace_of (step_work node event free))
  step_traced node event free t = step_done (λ d. P d.trace) (λ d. Q d.trace) (kept_so P p) (kept_so Q q) node event free (record { lets = λ d. t.lets d.trace; comes = λ d. t.comes d.trace; learns = λ d. t.learns d.trace; takes = λ d. t.takes d.trace })
