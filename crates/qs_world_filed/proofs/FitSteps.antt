-- The votes of a step are within the quota of its node: where all that waits is served, what stands after that is taken from there on, since no server votes before.
use Rattle.std.proofs.Common.{◌≡◌, ◌∙◌, ℕ, ◌<◌, List, [], refl, sym, ap, subst}
use Rattle.qs_book_journal.specs.declared.entry.Act.{Act}
use Rattle.qs_book_machine.specs.Book.{BookValue}
use Rattle.qs_book_machine.specs.Lawful.{IsLawful, book_after}
use Rattle.qs_book_conformance.specs.Course.{CourseValue}
use Rattle.qs_book_conformance.specs.Files.{quota_at}
use Rattle.qs_node_servers.specs.Servers.{ServersValue}
use Rattle.qs_node_step.specs.Settling.{settle}
use Rattle.qs_node_step.specs.State.{NodeValue, Work}
use Rattle.qs_node_step.specs.Step.{effects_of, step_work}
use Rattle.qs_node_step.specs.declared.event.Event.{Event}
use Rattle.qs_node_step.specs.declared.event.Event.TheVariants as events
use Rattle.qs_node_step.specs.declared.setting.Setting.{Setting}
use Rattle.qs_world.specs.Moves.{Source}
use Rattle.qs_world.specs.Posting.{entries_of}
use Rattle.qs_world.specs.World.{Opening, World}
use Rattle.qs_world_course.specs.Kinds.{Keeps, course_on}
use Rattle.qs_world_lawful.specs.Holds.{HoldsStill}
use Rattle.qs_world_lawful.specs.Logs.{Every}
use Rattle.qs_world_lawful.specs.Standing.{Stands}
use Rattle.qs_world_lawful.specs.StepStands.{StepStands}
use Rattle.qs_world_lawful.proofs.BesideWhole.{step_beside}
use Rattle.qs_world_lawful.proofs.GivenWhole.{done}
use Rattle.qs_world_lawful.proofs.LastsOpening.{lasts_ran}
use Rattle.qs_world_lawful.proofs.LastsWell.{LastsWell}
use Rattle.qs_world_lawful.proofs.StandsOn.{step_stands}
use Rattle.qs_world_runs.specs.Agrees.{MakesStep, nodes_in}
use Rattle.qs_world_runs.specs.AlongRun.{AlongRun}
use Rattle.qs_world_runs.specs.Joined.{Joined, book_in}
use Rattle.qs_world_runs.specs.JoinedLaws.{entries_in}
use Rattle.qs_world_runs.proofs.JoinedSteps.{step_at, step_given, step_lawful, step_low, step_up}
use Rattle.qs_world_runs.proofs.JoinedWays.{lasts_now}
use Rattle.qs_world_runs.proofs.RunsGoOn.{runs_go}
use Rattle.qs_world_walk.proofs.IsDeeds.{each_turn, over}
use Rattle.qs_world_walk.proofs.Stages as stages
use Rattle.qs_world_walk.proofs.Wholes.{whole_of}
use Rattle.qs_world_walk.specs.Stage.{Stage}
use Rattle.qs_world_walk.specs.Walked.{done_work}
use Rattle.qs_world_walk.specs.Whole.{Whole}
use Rattle.qs_world_filed.specs.Parts.{within_quotas}
use Rattle.qs_world_filed.specs.Settings.{HasItsQuota}
use Rattle.qs_world_filed.specs.Sizes.{StepsFit}
use Rattle.qs_world_filed.proofs.FitTable.{IsFitNow, fit_table}
use Rattle.qs_world_filed.proofs.Going.{Going}
use Rattle.qs_world_filed.proofs.Leaves.{entries_leave}
use Rattle.qs_world_filed.proofs.SeenActs.{HoldsSeen}
use Rattle.qs_world_filed.proofs.SetTable.{IsSetNow, SetSo, set_at_turns, set_table}
use Rattle.qs_world_filed.proofs.Unvoted.{IsNoVote, serving_votes_none, unvoted_kept}

module _ (o : Opening) (world : World) (n stamp free : ℕ) (source : Source) (event : Event) (j : Joined AlongRun o world) (makes : MakesStep world n stamp source event) (its : HasItsQuota (world.hosts n).node)
    (course : CourseValue) (book : course.book ≡ book_in o world) (quota : quota_at course n ≡ (world.hosts n).node.setting.quota) where
  abbrev node : NodeValue
  node = (world.hosts n).node

  abbrev setting : Setting
  setting = node.setting

  at_n : setting.node.0 ≡ n
  at_n = step_at AlongRun runs_go.steps o world j n stamp free source event makes

  limit : quota_at course setting.node.0 ≡ setting.quota
  limit = ap (quota_at course) at_n ∙ quota

  well : LastsWell course.book
  well = subst LastsWell (sym book) (lasts_now o world j.opens j.lawful)

  abbrev G : List Act → ServersValue → Type 0
  G done servers = Going setting.node stamp course setting.quota limit done servers

  abbrev Both : Stage → Work → Type 0
  Both stage work = IsSetNow setting stage work × IsFitNow setting stamp course limit stage work

  -- ---- as the step begins

  low : n < world.size
  low = step_low AlongRun runs_go.steps o world j n stamp free source event makes

  still : HoldsStill (book_in o world) node
  still = ((j.held.nodes n low).runs (step_up AlongRun runs_go.steps o world j n stamp free source event makes)).still

  first : G [] node.servers
  first lawful = record {
    well = well;
    seen = subst (λ (b : BookValue). HoldsSeen setting.node b node.servers) (sym book) (record { state = still.state; there = still.there; up = still.same.up; holds = still.servers });
    kept = tt;
  }

  -- ---- once all that waits was served

  stands : StepStands stamp (book_in o world) world.size (nodes_in world) n node event free
  stands = step_stands stamp (book_in o world) world.size (nodes_in world) n node event free (step_beside stamp (book_in o world) world.size (nodes_in world) n node event free (step_given AlongRun runs_go.steps o world j n stamp free source event makes))

  served : Stands stamp (book_in o world) world.size (nodes_in world) n (done_work node event free)
  served = done stamp (book_in o world) world.size (nodes_in world) n node event free stands

  abbrev amid : Work
  amid = done_work node event free

  set_amid : SetSo setting amid.node.setting amid.node.servers.files.kind amid.out.entries
  set_amid = (set_at_turns node event free its).done

  seen_amid : HoldsSeen setting.node (book_after (book_in o world) (entries_of setting.node.0 stamp amid.out.entries)) amid.node.servers
  seen_amid = subst (λ (t : Setting). HoldsSeen t.node (book_after (book_in o world) (entries_of t.node.0 stamp amid.out.entries)) amid.node.servers) set_amid.same
      (record { state = served.held.holds.state; there = served.held.holds.there; up = served.held.holds.same.up; holds = served.held.holds.servers })

  going_amid : Every IsNoVote amid.out.entries → G amid.out.entries amid.node.servers
  going_amid none lawful = record {
    well = subst LastsWell (sym then_is) (lasts_ran (entries_of setting.node.0 stamp amid.out.entries) course.book well lawful);
    seen = subst (λ (b : BookValue). HoldsSeen setting.node b amid.node.servers) (sym (then_is ∙ ap (λ (b : BookValue). book_after b (entries_of setting.node.0 stamp amid.out.entries)) book)) seen_amid;
    kept = unvoted_kept setting.node.0 stamp amid.out.entries course none;
  }
    where
      then_is : (course_on course (entries_of setting.node.0 stamp amid.out.entries)).book ≡ book_after course.book (entries_of setting.node.0 stamp amid.out.entries)
      then_is = (entries_leave course (entries_of setting.node.0 stamp amid.out.entries)).book

  -- ---- the whole step

  ends : G (step_work node event free).out.entries (step_work node event free).node.servers
  ends = by event refl
    where
      -- nothing is served
      through : (event ≡ events.ServeAll → ⊥) → G (step_work node event free).out.entries (step_work node event free).node.servers
      through other = ((each_turn Both node event free (over event (IsSetNow setting) (IsFitNow setting stamp course limit) (set_table setting event) (fit_table setting stamp course limit event other)) (record { same = refl; files = its; entered = tt }, first)).all).1

      ticks : events.Tick ≡ events.ServeAll → ⊥
      ticks is = cc is

      rest : Whole events.Tick Both
      rest = whole_of events.Tick Both (over events.Tick (IsSetNow setting) (IsFitNow setting stamp course limit) (set_table setting events.Tick) (fit_table setting stamp course limit events.Tick ticks))

      after_serving : event ≡ events.ServeAll → G (step_work node event free).out.entries (step_work node event free).node.servers
      after_serving is = (stages.answers_keep events.Tick Both rest (settle amid) (stages.settle_keeps events.Tick Both rest amid (set_amid, going_amid (subst (λ (e : Event). Every IsNoVote (done_work node e free).out.entries) (sym is) (serving_votes_none node free))))).1

      by : (e : Event) → event ≡ e → G (step_work node event free).out.entries (step_work node event free).node.servers
      by events.ServeAll is = after_serving is
      by (events.Command client line label command) is = through (λ s. absurd (cc (is, s)))
      by (events.Received peer message) is = through (λ s. absurd (cc (is, s)))
      by (events.PeerRestarted peer old new) is = through (λ s. absurd (cc (is, s)))
      by events.Tick is = through (λ s. absurd (cc (is, s)))

  lawful_here : IsLawful course.book (entries_of setting.node.0 stamp (effects_of node event free).entries)
  lawful_here = subst (λ (b : BookValue). IsLawful b (entries_of setting.node.0 stamp (effects_of node event free).entries)) (sym book)
      (subst (λ (k : ℕ). IsLawful (book_in o world) (entries_of k stamp (effects_of node event free).entries)) (sym at_n) (step_lawful AlongRun runs_go.steps o world j n stamp free source event makes))

  pub fits : Keeps within_quotas course (entries_in world n stamp free event)
  fits = subst (λ (k : ℕ). Keeps within_quotas course (entries_of k stamp (effects_of node event free).entries)) at_n (ends lawful_here).kept

pub steps_fit : StepsFit
steps_fit o world n stamp free source event j makes its course book quota = fits o world n stamp free source event j makes its course book quota
