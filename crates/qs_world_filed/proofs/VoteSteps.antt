-- The votes of a step are noted: where all that waits is served, what stands after that is taken from there on, since no server votes before.
use Rattle.std.proofs.Common.{◌≡◌, ◌∙◌, ℕ, ◌<◌, List, [], ◌∷◌, false, Option, Some, None, refl, sym, ap, subst}
use Rattle.qs_book_journal.specs.declared.entry.Act.{Act}
use Rattle.qs_book_machine.specs.Book.{BookValue}
use Rattle.qs_book_machine.specs.Lawful.{IsLawful, book_after}
use Rattle.qs_book_conformance.specs.Course.{CourseValue}
use Rattle.qs_book_conformance.specs.Files.{quota_at}
use Rattle.qs_node_step.specs.Settling.{settle}
use Rattle.qs_node_step.specs.State.{NodeValue, Work, work_on}
use Rattle.qs_node_step.specs.Step.{effects_of, step_work}
use Rattle.qs_node_step.specs.declared.event.Event.{Event}
use Rattle.qs_node_step.specs.declared.event.Event.TheVariants as events
use Rattle.qs_node_step.specs.declared.setting.Setting.{Setting}
use Rattle.qs_world.specs.Moves.{Source}
use Rattle.qs_world.specs.Posting.{entries_of, entry_of}
use Rattle.qs_world.specs.World.{Opening, World}
use Rattle.qs_world_course.specs.Kinds.{Keeps, course_on}
use Rattle.qs_world_lawful.specs.Holds.{HoldsStill}
use Rattle.qs_world_lawful.specs.Logs.{Every}
use Rattle.qs_world_lawful.specs.Standing.{Stands}
use Rattle.qs_world_lawful.specs.StepStands.{StepStands}
use Rattle.qs_world_lawful.proofs.BesideWhole.{step_beside}
use Rattle.qs_world_lawful.proofs.GivenWhole.{done}
use Rattle.qs_world_lawful.proofs.LastsOpening.{lasts_ran}
use Rattle.qs_world_lawful.proofs.LastsWell.{LastsWell}
use Rattle.qs_world_lawful.proofs.StandsOn.{step_stands}
use Rattle.qs_world_runs.specs.Agrees.{MakesStep, nodes_in}
use Rattle.qs_world_runs.specs.AlongRun.{AlongRun}
use Rattle.qs_world_runs.specs.Joined.{Joined, book_in}
use Rattle.qs_world_runs.specs.JoinedLaws.{entries_in}
use Rattle.qs_world_runs.proofs.JoinedSteps.{step_at, step_given, step_lawful, step_low, step_up}
use Rattle.qs_world_runs.proofs.JoinedWays.{lasts_now}
use Rattle.qs_world_runs.proofs.RunsGoOn.{runs_go}
use Rattle.qs_world_walk.specs.Stage.{Stage}
use Rattle.qs_world_walk.specs.Walked.{done_work}
use Rattle.qs_world_filed.specs.Settings.{HasItsQuota}
use Rattle.qs_world_filed.proofs.FitTable.{IsFitNow, fit_table}
use Rattle.qs_world_filed.proofs.Going.{Going}
use Rattle.qs_world_filed.proofs.Leaves.{entries_leave}
use Rattle.qs_world_filed.proofs.SeenActs.{HoldsSeen}
use Rattle.qs_world_filed.proofs.SetTable.{IsSetNow, SetSo, set_at_turns, set_table}
use Rattle.qs_world_filed.proofs.Unvoted.{IsNoVote, serving_votes_none, unvoted_kept}
use Rattle.std.specs.List.{list_any}
use Rattle.std.specs.Prelude.{length}
use Rattle.qs_base.specs.declared.identifiers.Member.{Member}
use Rattle.qs_base.specs.declared.identifiers.NodeNo.{NodeNo}
use Rattle.std.proofs.lemmas.Bool.{or_parts}
use Rattle.qs_base.specs.declared.identifiers.Tid.{Tid}
use Rattle.qs_book_journal.specs.declared.entry.Act.TheVariants as acts
use Rattle.qs_book_laws.specs.Lives.{is_restart}
use Rattle.qs_book_machine.specs.Book.{find_transaction, inc_at}
use Rattle.qs_book_machine.specs.Transaction.{TransactionValue}
use Rattle.qs_ops.specs.Server.{changes_in}
use Rattle.qs_ops.specs.declared.reply.Reply.{Reply}
use Rattle.qs_packet.specs.declared.message.Message.TheVariants as messages
use Rattle.qs_book_conformance.specs.Effects.{course_after}
use Rattle.qs_world_lawful.specs.Face.{face_of}
use Rattle.qs_world_lawful.specs.Holds.{HoldsAt}
use Rattle.qs_world_runs.specs.RepliesTrue.{IsOfLast, IsServed}
use Rattle.qs_world_walk.specs.Stage.{after}
use Rattle.qs_world_filed.specs.Noting.{HasIssuedNotes}
use Rattle.qs_world_filed.specs.Parts.{noted}
use Rattle.qs_world_filed.specs.Replied.{ToldNotes}
use Rattle.qs_world_walk.specs.Walked.{Table}
use Rattle.qs_world_walk.specs.Whole.{Whole}
use Rattle.qs_world_filed.proofs.CountTable.{Counting, IsCounting}
use Rattle.qs_world_filed.proofs.Counts.{CountsSo, pend}
use Rattle.qs_world_filed.proofs.NotesRuns as notes_runs
use Rattle.qs_world_filed.proofs.NotesTable.{IsNoting, noting_table}
use Rattle.qs_world_filed.proofs.NotesTold.{AllTold}
use Rattle.qs_world_filed.proofs.ToldRuns as told_runs
use Rattle.qs_world_filed.proofs.ToldRuns.{Tells}
use Rattle.qs_world_filed.proofs.ToldTable.{IsTelling, Telling, telling_table}
use Rattle.qs_world_walk.proofs.IsDeeds.{each_turn}
use Rattle.qs_world_walk.proofs.Stages as stages
use Rattle.qs_world_walk.proofs.Wholes.{whole_of}
use Rattle.qs_world_filed.proofs.VotesTable.{counting_table}

-- ---- where no server votes, no note is owed

unvoted_act : (course : CourseValue) (n stamp : ℕ) (act : Act) → IsNoVote act → is_restart act ≡ false → noted course (entry_of n stamp act) ≡ None
unvoted_act course n stamp (acts.Vote tid member vote covers) none still = absurd none
unvoted_act course n stamp (acts.Restart inc pend done) none still = absurd (cc still)
unvoted_act course n stamp act none still = refl

unvoted_noted : (n stamp : ℕ) (done : List Act) (course : CourseValue) → Every IsNoVote done → list_any is_restart done ≡ false → Keeps noted course (entries_of n stamp done)
unvoted_noted n stamp [] course none still = tt
unvoted_noted n stamp (act ∷ done) course none still = (unvoted_act course n stamp act none.0 (or_parts (is_restart act) (list_any is_restart done) still).0, unvoted_noted n stamp done (course_after course (entry_of n stamp act)) none.1 (or_parts (is_restart act) (list_any is_restart done) still).1)

-- what the machine has of files is what they hold
counts_at : (node : NodeValue) (book : BookValue) → ((tid : Tid) → HoldsAt node.setting.node node.setting.inc tid (find_transaction book tid) (face_of node tid)) → CountsSo node.setting.node node.setting.inc book node.servers
counts_at node book at t = by (find_transaction book t) (at t)
  where
    by : (o : Option TransactionValue) → HoldsAt node.setting.node node.setting.inc t o (face_of node t) → pend node.setting.node node.setting.inc o ≡ length (changes_in node.servers.files t)
    by None empty = sym empty.changes
    by (Some tx) h = h.pending

module _ (o : Opening) (world : World) (n stamp free : ℕ) (source : Source) (event : Event) (j : Joined AlongRun o world) (makes : MakesStep world n stamp source event) (its : HasItsQuota (world.hosts n).node) (tells : Tells (book_in o world) (world.hosts n).node)
    (course : CourseValue) (book : course.book ≡ book_in o world) (quota : quota_at course n ≡ (world.hosts n).node.setting.quota) (audit : course.audit ≡ (world.hosts n).node.setting.audit) where
  abbrev node : NodeValue
  node = (world.hosts n).node

  abbrev setting : Setting
  setting = node.setting

  at_n : setting.node.0 ≡ n
  at_n = step_at AlongRun runs_go.steps o world j n stamp free source event makes

  limit : quota_at course setting.node.0 ≡ setting.quota
  limit = ap (quota_at course) at_n ∙ quota

  well : LastsWell course.book
  well = subst LastsWell (sym book) (lasts_now o world j.opens j.lawful)

  first : inc_at course.book (record { 0 = setting.node.0 }) ≡ setting.inc
  first = subst (λ (b : BookValue). inc_at b (record { 0 = setting.node.0 }) ≡ setting.inc) (sym book) (notes_runs.first o world n stamp free source event j makes tells.0)

  all : AllTold course.book
  all = subst AllTold (sym book) (told_runs.all o world n stamp free source event j makes tells)

  came : (peer : NodeNo) (tid : Tid) (member : Member) (number : ℕ) (reply : Reply) → event ≡ events.Received peer (messages.Answered tid member number reply) → IsOfLast course.book setting.node.0 setting.inc tid (IsServed setting.node.0 setting.inc member number)
  came peer tid member number reply is = subst (λ (b : BookValue). IsOfLast b setting.node.0 setting.inc tid (IsServed setting.node.0 setting.inc member number)) (sym book) (told_runs.came o world n stamp free source event j makes tells peer tid member number reply is)

  low : n < world.size
  low = step_low AlongRun runs_go.steps o world j n stamp free source event makes

  still : HoldsStill (book_in o world) node
  still = ((j.held.nodes n low).runs (step_up AlongRun runs_go.steps o world j n stamp free source event makes)).still

  -- ---- as the step begins

  set_first : SetSo setting node.setting node.servers.files.kind []
  set_first = record { same = refl; files = its; entered = tt }

  noting_first : IsNoting setting stamp course.book well first after (work_on node free)
  noting_first = record { same = refl; going = λ lawful. record { notes = subst (λ (b : BookValue). HasIssuedNotes b node) (sym book) tells.0; still = refl } }

  telling_first : Telling setting stamp course.book well first all event came [] node.manager.known
  telling_first = record { tells = λ lawful. subst (λ (b : BookValue). ToldNotes b setting node.manager.known) (sym book) tells.1 }

  fit_first : Going setting.node stamp course setting.quota limit [] node.servers
  fit_first lawful = record {
    well = well;
    seen = subst (λ (b : BookValue). HoldsSeen setting.node b node.servers) (sym book) (record { state = still.state; there = still.there; up = still.same.up; holds = still.servers });
    kept = tt;
  }

  counting_first : Counting setting stamp course well first audit [] node.servers
  counting_first = record { counts = λ lawful. subst (λ (b : BookValue). CountsSo setting.node setting.inc b node.servers) (sym book) (counts_at node (book_in o world) still.at); kept = λ lawful. tt; still = λ lawful. refl }

  -- ---- all of it, by deeds

  abbrev Noting : Stage → Work → Type 0
  Noting stage work = IsNoting setting stamp course.book well first stage work

  module _ (e : Event) (comes : (peer : NodeNo) (tid : Tid) (member : Member) (number : ℕ) (reply : Reply) → e ≡ events.Received peer (messages.Answered tid member number reply) → IsOfLast course.book setting.node.0 setting.inc tid (IsServed setting.node.0 setting.inc member number)) where
    abbrev Tellings : Stage → Work → Type 0
    Tellings stage work = IsTelling setting stamp course.book well first all e comes stage work

    abbrev Known : Stage → Work → Type 0
    Known stage work = Noting stage work × Tellings stage work

    abbrev All : Stage → Work → Type 0
    All stage work = IsSetNow setting stage work × (Noting stage work × (Tellings stage work × (IsFitNow setting stamp course limit stage work × IsCounting setting stamp course well first audit stage work)))

    known_table : Table e Known
    known_table deed when w m h = (noting_table setting stamp course.book well first e deed when w m h.0, telling_table setting stamp course.book well first all e comes deed when w m h.0 h.1)

    all_table : (e ≡ events.ServeAll → ⊥) → Table e All
    all_table other deed when w m h = (
      set_table setting e deed when w m h.0,
      (
        noting_table setting stamp course.book well first e deed when w m h.1.0,
        (
          telling_table setting stamp course.book well first all e comes deed when w m h.1.0 h.1.1.0,
          (
            fit_table setting stamp course limit e other deed when w m h.0 h.1.1.1.0,
            counting_table setting stamp course well first audit limit all e comes other deed when w m (h.0, (h.1.1.0, h.1.1.1.0)) h.1.1.1.1,
          ),
        ),
      ),
    )

  -- ---- once all that waits was served

  stands : StepStands stamp (book_in o world) world.size (nodes_in world) n node event free
  stands = step_stands stamp (book_in o world) world.size (nodes_in world) n node event free (step_beside stamp (book_in o world) world.size (nodes_in world) n node event free (step_given AlongRun runs_go.steps o world j n stamp free source event makes))

  served : Stands stamp (book_in o world) world.size (nodes_in world) n (done_work node event free)
  served = done stamp (book_in o world) world.size (nodes_in world) n node event free stands

  abbrev amid : Work
  amid = done_work node event free

  set_amid : SetSo setting amid.node.setting amid.node.servers.files.kind amid.out.entries
  set_amid = (set_at_turns node event free its).done

  known_amid : Known event came after amid
  known_amid = (each_turn (Known event came) node event free (known_table event came) (noting_first, telling_first)).done

  -- the machine after what was entered so far
  abbrev then_book : BookValue
  then_book = book_after course.book (entries_of setting.node.0 stamp amid.out.entries)

  then_is : (course_on course (entries_of setting.node.0 stamp amid.out.entries)).book ≡ then_book
  then_is = (entries_leave course (entries_of setting.node.0 stamp amid.out.entries)).book

  from_world : book_after (book_in o world) (entries_of setting.node.0 stamp amid.out.entries) ≡ then_book
  from_world = ap (λ (b : BookValue). book_after b (entries_of setting.node.0 stamp amid.out.entries)) (sym book)

  seen_amid : HoldsSeen setting.node (book_after (book_in o world) (entries_of setting.node.0 stamp amid.out.entries)) amid.node.servers
  seen_amid = subst (λ (t : Setting). HoldsSeen t.node (book_after (book_in o world) (entries_of t.node.0 stamp amid.out.entries)) amid.node.servers) set_amid.same
      (record { state = served.held.holds.state; there = served.held.holds.there; up = served.held.holds.same.up; holds = served.held.holds.servers })

  counts_amid : CountsSo setting.node setting.inc then_book amid.node.servers
  counts_amid = subst (λ (b : BookValue). CountsSo setting.node setting.inc b amid.node.servers) from_world
      (subst (λ (t : Setting). CountsSo t.node t.inc (book_after (book_in o world) (entries_of t.node.0 stamp amid.out.entries)) amid.node.servers) set_amid.same (counts_at amid.node (book_after (book_in o world) (entries_of amid.node.setting.node.0 stamp amid.out.entries)) served.held.holds.at))

  fit_amid : Every IsNoVote amid.out.entries → Going setting.node stamp course setting.quota limit amid.out.entries amid.node.servers
  fit_amid none lawful = record {
    well = subst LastsWell (sym then_is) (lasts_ran (entries_of setting.node.0 stamp amid.out.entries) course.book well lawful);
    seen = subst (λ (b : BookValue). HoldsSeen setting.node b amid.node.servers) (from_world ∙ sym then_is) seen_amid;
    kept = unvoted_kept setting.node.0 stamp amid.out.entries course none;
  }

  counting_amid : Every IsNoVote amid.out.entries → Counting setting stamp course well first audit amid.out.entries amid.node.servers
  counting_amid none = record {
    counts = λ lawful. counts_amid;
    kept = λ lawful. unvoted_noted setting.node.0 stamp amid.out.entries course none (known_amid.0.going lawful).still;
    still = λ lawful. (known_amid.0.going lawful).still;
  }

  -- ---- the whole step

  never : (peer : NodeNo) (tid : Tid) (member : Member) (number : ℕ) (reply : Reply) → events.Tick ≡ events.Received peer (messages.Answered tid member number reply) → IsOfLast course.book setting.node.0 setting.inc tid (IsServed setting.node.0 setting.inc member number)
  never peer tid member number reply is = absurd (cc is)

  ends : Counting setting stamp course well first audit (step_work node event free).out.entries (step_work node event free).node.servers
  ends = by event refl
    where
      -- nothing is served
      through : (event ≡ events.ServeAll → ⊥) → Counting setting stamp course well first audit (step_work node event free).out.entries (step_work node event free).node.servers
      through other = ((each_turn (All event came) node event free (all_table event came other) (set_first, (noting_first, (telling_first, (fit_first, counting_first))))).all).1.1.1.1

      ticks : events.Tick ≡ events.ServeAll → ⊥
      ticks is = cc is

      rest : Whole events.Tick (All events.Tick never)
      rest = whole_of events.Tick (All events.Tick never) (all_table events.Tick never ticks)

      after_serving : event ≡ events.ServeAll → Counting setting stamp course well first audit (step_work node event free).out.entries (step_work node event free).node.servers
      after_serving is = (stages.answers_keep events.Tick (All events.Tick never) rest (settle amid) (stages.settle_keeps events.Tick (All events.Tick never) rest amid
          (set_amid, (known_amid.0, (record { tells = known_amid.1.tells }, (fit_amid unvoted, counting_amid unvoted)))))).1.1.1.1
        where
          unvoted : Every IsNoVote amid.out.entries
          unvoted = subst (λ (e : Event). Every IsNoVote (done_work node e free).out.entries) (sym is) (serving_votes_none node free)

      by : (e : Event) → event ≡ e → Counting setting stamp course well first audit (step_work node event free).out.entries (step_work node event free).node.servers
      by events.ServeAll is = after_serving is
      by (events.Command client line label command) is = through (λ s. absurd (cc (is, s)))
      by (events.Received peer message) is = through (λ s. absurd (cc (is, s)))
      by (events.PeerRestarted peer old new) is = through (λ s. absurd (cc (is, s)))
      by events.Tick is = through (λ s. absurd (cc (is, s)))

  lawful_here : IsLawful course.book (entries_of setting.node.0 stamp (effects_of node event free).entries)
  lawful_here = subst (λ (b : BookValue). IsLawful b (entries_of setting.node.0 stamp (effects_of node event free).entries)) (sym book)
      (subst (λ (k : ℕ). IsLawful (book_in o world) (entries_of k stamp (effects_of node event free).entries)) (sym at_n) (step_lawful AlongRun runs_go.steps o world j n stamp free source event makes))

  pub votes_noted : Keeps noted course (entries_in world n stamp free event)
  votes_noted = subst (λ (k : ℕ). Keeps noted course (entries_of k stamp (effects_of node event free).entries)) at_n (ends.kept lawful_here)
