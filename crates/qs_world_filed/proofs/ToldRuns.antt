-- In every run each note that files have noted is told, or its transaction is crossed at the audit server: through steps, crashes and restarts.
use Rattle.std.proofs.Common.{◌≡◌, ◌∙◌, ℕ, refl, sym, ap, subst}
use Rattle.qs_base.specs.declared.identifiers.Member.{Member}
use Rattle.qs_base.specs.declared.identifiers.NodeNo.{NodeNo}
use Rattle.qs_base.specs.declared.identifiers.Tid.{Tid}
use Rattle.qs_book_laws.proofs.Turns.{Stands}
use Rattle.qs_book_machine.specs.Book.{BookValue, inc_at}
use Rattle.qs_book_machine.specs.Lawful.{book_after}
use Rattle.qs_ops.specs.declared.reply.Reply.{Reply}
use Rattle.qs_packet.specs.declared.message.Message.TheVariants as messages
use Rattle.qs_tm.specs.declared.participant.Participant.{Participant}
use Rattle.qs_node_step.specs.Opening.{opened_node}
use Rattle.qs_node_step.specs.State.{NodeValue, Work}
use Rattle.qs_node_step.specs.Step.{after_step, effects_of, step_work}
use Rattle.qs_node_step.specs.declared.event.Event.{Event}
use Rattle.qs_node_step.specs.declared.event.Event.TheVariants as events
use Rattle.qs_node_step.specs.declared.setting.Setting.{Setting}
use Rattle.qs_world.specs.Moves.{Source}
use Rattle.qs_world.specs.Posting.{entries_of}
use Rattle.qs_world.specs.World.{Opening, World}
use Rattle.qs_world_lawful.specs.Logs.{Every}
use Rattle.qs_world_runs.specs.Agrees.{MakesStep}
use Rattle.qs_world_runs.specs.AlongRun.{AlongRun}
use Rattle.qs_world_runs.specs.Joined.{Joined, book_in}
use Rattle.qs_world_runs.specs.RepliesTrue.{IsOfLast, IsServed}
use Rattle.qs_world_walk.specs.Stage.{Stage, after}
use Rattle.qs_world_filed.specs.Noting.{HasIssuedNotes}
use Rattle.qs_world_filed.specs.Replied.{EachRunTellsNoted, IsToldOf, ToldNotes}
use Rattle.qs_world_filed.proofs.NodesGo.{AtAll, IsBare, NodesGo, bare_opened, nodes_along}
use Rattle.qs_world_filed.proofs.NotesParts.{every_so}
use Rattle.qs_world_filed.proofs.NotesReplied.{inc_now, served}
use Rattle.qs_world_filed.proofs.NotesRuns as runs
use Rattle.qs_world_filed.proofs.NotesRuns.{notes_go}
use Rattle.qs_world_filed.proofs.NotesTable.{IsNoting, noting_table}
use Rattle.qs_world_filed.proofs.NotesTold.{AllTold, each_run_tells}
use Rattle.qs_world_filed.proofs.Over.{goes_along}
use Rattle.qs_world_filed.proofs.ToldTable.{IsTelling, telling_table, told_on}
use Rattle.qs_world_walk.proofs.IsDeeds.{each_turn}

-- ---- a node

abbrev pub Tells : BookValue → NodeValue → Type 0
Tells book node = HasIssuedNotes book node × ToldNotes book node.setting node.manager.known

module _ (o : Opening) (world : World) (n stamp free : ℕ) (source : Source) (event : Event) (j : Joined AlongRun o world) (makes : MakesStep world n stamp source event) (h : Tells (book_in o world) (world.hosts n).node) where
  abbrev node : NodeValue
  node = (world.hosts n).node

  abbrev now : BookValue
  now = book_in o world

  pub all : AllTold now
  all tid tx found = each_run_tells o world.journal j.opens j.lawful tid tx found

  pub came : (peer : NodeNo) (tid : Tid) (member : Member) (number : ℕ) (reply : Reply) → event ≡ events.Received peer (messages.Answered tid member number reply) → IsOfLast now node.setting.node.0 node.setting.inc tid (IsServed node.setting.node.0 node.setting.inc member number)
  came peer tid member number reply is = subst (λ (k : ℕ). IsOfLast now k node.setting.inc tid (IsServed k node.setting.inc member number)) (sym (runs.at_n o world n stamp free source event j makes h.0))
      (subst (λ (i : ℕ). IsOfLast now n i tid (IsServed n i member number)) inc_is (served o world n stamp peer tid member number reply j source replies))
    where
      replies : MakesStep world n stamp source (events.Received peer (messages.Answered tid member number reply))
      replies = subst (MakesStep world n stamp source) is makes

      inc_is : world.channels.inc n ≡ node.setting.inc
      inc_is = sym (inc_now o world n stamp peer tid member number reply j source replies) ∙ (ap (λ (k : ℕ). inc_at now (record { 0 = k })) (sym (runs.at_n o world n stamp free source event j makes h.0)) ∙ runs.first o world n stamp free source event j makes h.0)

  abbrev Noting : Stage → Work → Type 0
  Noting stage work = IsNoting node.setting stamp now (runs.well o world n stamp free source event j makes h.0) (runs.first o world n stamp free source event j makes h.0) stage work

  abbrev Telling : Stage → Work → Type 0
  Telling stage work = IsTelling node.setting stamp now (runs.well o world n stamp free source event j makes h.0) (runs.first o world n stamp free source event j makes h.0) all event came stage work

  done : Noting after (step_work node event free) × Telling after (step_work node event free)
  done = (each_turn (λ stage work. Noting stage work × Telling stage work) node event free
      (λ deed when work m both. (
        noting_table node.setting stamp now (runs.well o world n stamp free source event j makes h.0) (runs.first o world n stamp free source event j makes h.0) event deed when work m both.0,
        telling_table node.setting stamp now (runs.well o world n stamp free source event j makes h.0) (runs.first o world n stamp free source event j makes h.0) all event came deed when work m both.0 both.1,
      ))
      (record { same = refl; going = λ lawful. record { notes = h.0; still = refl } }, record { tells = λ lawful. h.1 })).all

  own : ToldNotes (book_after now (entries_of n stamp (effects_of node event free).entries)) (after_step node event free).setting (after_step node event free).manager.known
  own = subst (λ (t : Setting). ToldNotes (book_after now (entries_of n stamp (effects_of node event free).entries)) t (step_work node event free).node.manager.known) (sym done.0.same)
      (subst (λ (k : ℕ). ToldNotes (book_after now (entries_of k stamp (effects_of node event free).entries)) node.setting (step_work node event free).node.manager.known) (runs.at_n o world n stamp free source event j makes h.0) (done.1.tells (runs.fine o world n stamp free source event j makes h.0)))

-- ---- runs

pub tells_go : NodesGo Tells
tells_go = record {
  begins = λ book alloc setting found kept. (
    notes_go.begins book alloc setting found kept,
    every_so IsBare (λ (e : Tid × Participant). Every (λ (count : ℕ). Stands e.0 (IsToldOf setting e.0 count) book) e.1.noted) (λ e bare. subst (Every (λ (count : ℕ). Stands e.0 (IsToldOf setting e.0 count) book)) (sym bare.1) tt) (opened_node alloc setting found kept).manager.known (bare_opened alloc setting found kept),
  );
  enters = λ book entry node w fine h. (notes_go.enters book entry node w fine h.0, told_on node.setting book entry w fine node.manager.known h.1);
  steps = λ o world n stamp free source event j makes h. (notes_go.steps o world n stamp free source event j makes h.0, own o world n stamp free source event j makes h);
}

pub each_run_tells_noted : EachRunTellsNoted
each_run_tells_noted o moves new opens run n = (goes_along (AtAll Tells tells_go) (nodes_along Tells tells_go) o moves new opens run n).1
