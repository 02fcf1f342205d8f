-- A step of a node, whatever comes to it, answers each client once at most, and only the command that waits, under the number of its line: deed by deed.
use Rattle.std.proofs.Common.{◌≡◌, ◌∙◌, ap, refl, subst, sym, ℕ, Bool, true, false, List, [], Some, None, if◌then◌else◌}
use Rattle.std.specs.BTreeMap.{insert_entry}
use Rattle.qs_base.specs.declared.identifiers.ClientNo.{ClientNo}
use Rattle.qs_node_servers.specs.Servers.{client_of}
use Rattle.qs_node_step.specs.Borrowing.{is_void}
use Rattle.qs_node_step.specs.Bringing.{answer, enter}
use Rattle.qs_node_kept.specs.Loans.{give_back, take_first}
use Rattle.qs_node_step.specs.Serving.{put_label}
use Rattle.qs_node_step.specs.State.{NodeValue, Work, client_cmp, with_doings, with_kept, with_manager}
use Rattle.qs_node_step.specs.Step.{step_work}
use Rattle.qs_node_step.specs.declared.event.ClientAnswer.{ClientAnswer}
use Rattle.qs_node_step.specs.declared.event.Event.{Event}
use Rattle.qs_node_step.specs.declared.event.Event.TheVariants as events
use Rattle.qs_node_step.specs.declared.state.OpenCommand.{OpenCommand}
use Rattle.qs_book_journal.specs.declared.entry.Act.TheVariants as acts
use Rattle.qs_ops.specs.Operations.{answer_of}
use Rattle.qs_ops.specs.declared.answer.Answer.{Answer}
use Rattle.qs_ops.specs.declared.answer.Answer.TheVariants as answers
use Rattle.qs_tm.specs.Manager as tm
use Rattle.qs_world_one.proofs.AnswersOnce.{Went, after as behind, answer_goes, issued_goes, still}
use Rattle.qs_world_one.specs.Showing.{Waiting}
use Rattle.qs_world_walk.proofs.Stages as stages
use Rattle.qs_world_walk.proofs.Wholes.{whole_of}
use Rattle.qs_world_walk.specs.Deed as d
use Rattle.qs_world_walk.specs.Deed.{answer_by, closed, fresh_command, taken_reply}
use Rattle.qs_world_walk.specs.May.{InHand, IsLet}
use Rattle.qs_world_walk.specs.Stage.{Stage}
use Rattle.qs_world_walk.specs.Walked.{Table}

-- what waits once the event came: a command waits
abbrev pub IsCome : Event → Waiting → Waiting → Type 0
IsCome (events.Command client line label command) waits came = came ≡ insert_entry client_cmp waits client (record { line = record { client = client; line = line; label = label; command = command }; issued = None })
IsCome event waits came = came ≡ waits

no_command : (event : Event) (waits came : Waiting) → IsLet event → IsCome event waits came → came ≡ waits
no_command (events.Command client line label command) waits came let_go is = absurd let_go
no_command (events.Received peer message) waits came let_go is = is
no_command events.ServeAll waits came let_go is = is
no_command (events.PeerRestarted peer old new) waits came let_go is = is
no_command events.Tick waits came let_go is = is

-- an open command is answered
answer_is : (client : ClientNo) (command : OpenCommand) (said : Answer) (work : Work) → InHand client command work → answer client said work ≡ closed client command said work
answer_is client command said work there = rw (there, answer) refl

module _ (k : ClientNo) (event : Event) (waits came : Waiting) (comes : IsCome event waits came) where
  abbrev Kept : Bool → Waiting → List ClientAnswer → Type 0
  Kept false now said = (now ≡ waits) × (said ≡ [])
  Kept true now said = Went k came now [] said

  abbrev I : Stage → Work → Type 0
  I stage work = Kept stage.come work.node.commands work.out.answers

  begun : (now : Waiting) (said : List ClientAnswer) → came ≡ now → said ≡ [] → Went k came now [] said
  begun now said is none = subst (λ (w : Waiting). Went k came w [] said) is (subst (λ (l : List ClientAnswer). Went k came came [] l) (sym none) still)

  of_event : (e : Event) → event ≡ e → IsCome e waits came
  of_event e is = subst (λ (x : Event). IsCome x waits came) is comes

  gone : (client : ClientNo) (command : OpenCommand) (said : Answer) (work : Work) → InHand client command work → Went k came work.node.commands [] work.out.answers
      → Went k came (closed client command said work).node.commands [] (closed client command said work).out.answers
  gone client command said work there h = behind (subst (λ (w : Work). Went k work.node.commands w.node.commands work.out.answers w.out.answers) (answer_is client command said work there) (answer_goes k client said work)) h

  table : Table event I
  table d.Lets when w m h = begun w.node.commands w.out.answers (no_command event waits came m comes ∙ sym h.0) h.1
  table (d.Opens line) when w m h = begun (insert_entry client_cmp w.node.commands line.client (fresh_command line)) w.out.answers
      (of_event (events.Command line.client line.line line.label line.command) m ∙ ap (λ (l : Waiting). insert_entry client_cmp l line.client (fresh_command line)) (sym h.0)) h.1
  table (d.TakesIn peer tid member number op) when w m h = begun w.node.commands w.out.answers (of_event _ m.1.is ∙ sym h.0) h.1
  table (d.Stales peer) when w m h = begun w.node.commands w.out.answers (of_event _ m.2 ∙ sym h.0) h.1
  table d.Ticks when w m h = begun w.node.commands w.out.answers (of_event _ m ∙ sym h.0) h.1
  table (d.Begins line) when w m h = gone line.client (fresh_command line) answers.Done
      (enter (acts.Begin (tm.next_tid w.node.manager) line.label line.client)
      (put_label (record { label = line.label; tid = Some (tm.next_tid w.node.manager); owner = Some line.client }) (with_manager (tm.begin line.client) w))) m.0 h
  table (d.Refuses line need room) when w m h = gone line.client (fresh_command line) (answers.LogFull need room) (put_label (record { label = line.label; tid = None; owner = Some line.client }) w) m.0 h
  table (d.Answers client command why) when w m h = gone client command (answer_by command why) w m.0 h
  table (d.Takes client command tid loan) when w m h = gone client command (if is_void tid loan w.node then answers.Ended else answers.Done) (with_kept (λ kept. record kept { loans = take_first client tid kept.loans }) w) m.0 h
  table (d.Yields client command tid loan) when w m h = gone client command answers.Done
      (with_doings tid (λ doings. record doings { yielded = true }) (enter (acts.Yield tid client) (with_kept (λ kept. record kept { loans = give_back client tid kept.loans }) w))) m.0 h
  table (d.IssuesHere (d.Client client command) tid request op) when w m h = behind (issued_goes k client (record { tid = tid; member = request.member; number = request.number }) w) h
  table (d.IssuesAway (d.Client client command) tid request op) when w m h = behind (issued_goes k client (record { tid = tid; member = request.member; number = request.number }) w) h
  table (d.GivesReply tid member number request command reply) when w m h = gone (client_of request.issuer) command (answer_of reply) (taken_reply tid member number w) m.1.1.0 h
  table deed when w m h = h

-- so does a whole step
pub step_goes : (k : ClientNo) (node : NodeValue) (event : Event) (free : ℕ) (came : Waiting) → IsCome event node.commands came → Went k came (step_work node event free).node.commands [] (step_work node event free).out.answers
step_goes k node event free came comes =
    (stages.turns_kept event (I k event node.commands came comes) (whole_of event (I k event node.commands came comes) (table k event node.commands came comes)) node free (refl, refl)).all
