-- In every run each node has issued the notes that it waits for or has noted: through steps, crashes and restarts.
use Rattle.std.proofs.Common.{◌≡◌, ◌∙◌, ℕ, Option, Some, None, refl, sym, ap, subst}
use Rattle.qs_base.specs.declared.identifiers.Tid.{Tid}
use Rattle.qs_book_machine.specs.Book.{BookValue, inc_at}
use Rattle.qs_book_machine.specs.Lawful.{IsLawful, book_after}
use Rattle.qs_book_machine.specs.Nodes as machine
use Rattle.qs_tm.specs.declared.participant.Participant.{Participant}
use Rattle.qs_node_step.specs.Opening.{opened_node}
use Rattle.qs_node_step.specs.State.{NodeValue}
use Rattle.qs_node_step.specs.Step.{after_step, effects_of, step_work}
use Rattle.qs_node_step.specs.declared.event.Event.{Event}
use Rattle.qs_node_step.specs.declared.setting.Setting.{Setting}
use Rattle.qs_world.specs.Moves.{Source}
use Rattle.qs_world.specs.Posting.{entries_of}
use Rattle.qs_world.specs.World.{Opening, World}
use Rattle.qs_world_lawful.specs.Holds.{HoldsStill}
use Rattle.qs_world_lawful.proofs.LastsWell.{LastsWell}
use Rattle.qs_world_runs.specs.Agrees.{MakesStep}
use Rattle.qs_world_runs.specs.AlongRun.{AlongRun}
use Rattle.qs_world_runs.specs.Joined.{Joined, book_in}
use Rattle.qs_world_runs.proofs.JoinedSteps.{step_at, step_lawful, step_low, step_up}
use Rattle.qs_world_runs.proofs.JoinedWays.{lasts_now}
use Rattle.qs_world_runs.proofs.RunsGoOn.{runs_go}
use Rattle.qs_world_walk.proofs.IsDeeds.{each_turn}
use Rattle.qs_world_filed.specs.Noting.{EachRunIssuesNotes, HasIssuedNotes, IssuedNotes, KnowsNotes}
use Rattle.qs_world_filed.proofs.NotesParts.{bare_known, every_so, notes_on}
use Rattle.qs_world_filed.proofs.NotesTable.{IsNoting, Now, noting_table}
use Rattle.qs_world_filed.proofs.Over.{goes_along}
use Rattle.qs_world_filed.proofs.NodesGo.{AtAll, IsBare, NodesGo, bare_opened, nodes_along}

-- ---- a step

module _ (o : Opening) (world : World) (n stamp free : ℕ) (source : Source) (event : Event) (j : Joined AlongRun o world) (makes : MakesStep world n stamp source event) (all : HasIssuedNotes (book_in o world) (world.hosts n).node) where
  abbrev node : NodeValue
  node = (world.hosts n).node

  abbrev now : BookValue
  now = book_in o world

  pub at_n : node.setting.node.0 ≡ n
  at_n = step_at AlongRun runs_go.steps o world j n stamp free source event makes

  still : HoldsStill now node
  still = ((j.held.nodes n (step_low AlongRun runs_go.steps o world j n stamp free source event makes)).runs (step_up AlongRun runs_go.steps o world j n stamp free source event makes)).still

  pub well : LastsWell now
  well = lasts_now o world j.opens j.lawful

  pub first : inc_at now (record { 0 = node.setting.node.0 }) ≡ node.setting.inc
  first = ap (λ (s : Option machine.NodeValue). elim s [ None ↦ 0 | Some state ↦ state.inc ]) still.there ∙ still.same.inc

  done : Now node.setting stamp now well first (step_work node event free).node.setting (step_work node event free).out.entries (step_work node event free).node.manager.known
  done = (each_turn (IsNoting node.setting stamp now well first) node event free (noting_table node.setting stamp now well first event) (record { same = refl; going = λ lawful. record { notes = all; still = refl } })).all

  pub fine : IsLawful now (entries_of node.setting.node.0 stamp (effects_of node event free).entries)
  fine = subst (λ (k : ℕ). IsLawful now (entries_of k stamp (effects_of node event free).entries)) (sym at_n) (step_lawful AlongRun runs_go.steps o world j n stamp free source event makes)

  pub own : HasIssuedNotes (book_after now (entries_of n stamp (effects_of node event free).entries)) (after_step node event free)
  own = subst (λ (t : Setting). IssuedNotes (book_after now (entries_of n stamp (effects_of node event free).entries)) t (step_work node event free).node.manager.known) (sym done.same)
      (subst (λ (k : ℕ). IssuedNotes (book_after now (entries_of k stamp (effects_of node event free).entries)) node.setting (step_work node event free).node.manager.known) at_n (done.going fine).notes)

-- ---- runs

pub notes_go : NodesGo HasIssuedNotes
notes_go = record {
  begins = λ book alloc setting found kept. every_so IsBare (λ (e : Tid × Participant). KnowsNotes book setting e.0 e.1) (λ e bare. bare_known book setting e.0 e.1 bare.0 bare.1) (opened_node alloc setting found kept).manager.known (bare_opened alloc setting found kept);
  enters = λ book entry node w fine h. notes_on node.setting book entry w.inv fine node.manager.known h;
  steps = λ o world n stamp free source event j makes h. own o world n stamp free source event j makes h;
}

pub each_run_issues : EachRunIssuesNotes
each_run_issues o moves new opens run = goes_along (AtAll HasIssuedNotes notes_go) (nodes_along HasIssuedNotes notes_go) o moves new opens run
