-- A whole step of a node of a run leaves what the log said as the node opened, and between steps what a home has not decided is younger than the age limit.
use Rattle.qs_world_runs.proofs.Words.{◌≡◌, ◌⊎◌, inl, inr, ℕ, ◌+◌, ◌-◌, ◌≤◌, ◌<◌, ◌^◌, true, false, List, Option, Some, None, nat_lt, refl, sym, ap, subst, ◌∙◌, arith, nat_tests, ⊤, tid_total, tid_cmp, ClientNo, Tid, ScriptLine, put_rises, enter, begin_or_refuse, put_label, settle, Work, with_manager, work_on, after_step, answer_waiting, happen, step_work, with_command, Event, Setting, begun_participant, BeginFault, is_age, World, is_sound, IsSteadyWorld, MachineGives, IsStage, IsTidy, Stage}
use Rattle.qs_world_runs.proofs.Words.{begin_incarnation_sound, ComesFit, begun_tidy, c, stage, begins_in, HasNodeFacts, Stays, eq_le, le_next}
use Rattle.std.proofs.Common.{min}
use Rattle.qs_book_journal.specs.declared.entry.Act.TheVariants as acts
use Rattle.qs_book_journal.specs.declared.script_line.Command.TheVariants as commands
use Rattle.qs_ops.specs.declared.answer.Answer.TheVariants as answers
use Rattle.qs_node_step.specs.State.{NodeValue}
use Rattle.qs_node_step.specs.declared.event.Event.TheVariants as events
use Rattle.qs_tm.specs.Manager as tm
use Rattle.qs_tm.specs.declared.manager.BeginFault.TheVariants as faults
use Rattle.qs_world_refine.specs.SoundSteps.{begun}
use Rattle.qs_world_refine.specs.Walks.{MayTick}
use Rattle.qs_world_refine.proofs.SoundHappen.{happen_sound}
use Rattle.qs_world_refine.proofs.SteadyBegins.{comes_may, comes_on}
use Rattle.qs_world_refine.proofs.SteadySteps.{d, later, stage_d}
use Rattle.qs_world_refine.proofs.StillSteps.{may_on}
use Rattle.qs_world_refine.proofs.TidyHappens.{happen_tidy}
use Rattle.qs_world_refine.proofs.TidyResumes.{first_tidy, later_tidy, resume_walk}
use Rattle.qs_world_refine.proofs.WalkSettles.{settle_walk}
use Rattle.qs_world_refine.proofs.WalkSteps.{answer_waiting_walk, happen_walk, may_tick}
use Rattle.qs_world_lawful.specs.NodeFacts.{AreYoung}
use Rattle.qs_world_runs.specs.Stays.{BeganAt, IsYoungAt}
use Rattle.qs_world_runs.proofs.StaysWalk.{Both, both_keeps, both_reads, both_ticks, began_put, stays_answered, stays_still}
use Rattle.qs_world_runs.proofs.YoungTick.{tick_young}

-- ---- one begins

module _ (Y : Tid → ℕ → Type 0) (T : ℕ → Type 0) (log : List Tid) (now : (tid : Tid) (t : ℕ) → T t → Y tid t) where
  begins_stay : (line : ScriptLine) (o : Option BeginFault) (work : Work) → Stays Y T log work → Stays Y T log (begin_or_refuse line o work)
  begins_stay line None work s = stays_answered Y T log line.client answers.Done _
      (stays_still Y T log begun_work (enter (acts.Begin next line.label line.client) (put_label (record { label = line.label; tid = Some next; owner = Some line.client }) begun_work)) refl refl (record {
        rising = put_rises tid_cmp tid_total next (begun_participant line.client work.node.manager.ticks) work.node.manager.known s.rising;
        began = began_put Y next (begun_participant line.client work.node.manager.ticks) (record work.node.manager { begun = work.node.manager.begun + 1 }) (λ home undecided. now next work.node.manager.ticks s.ticks) s.began;
        ticks = s.ticks;
        committed = s.committed;
      }))
    where
      next : Tid
      next = tm.next_tid work.node.manager

      begun_work : Work
      begun_work = with_manager (tm.begin line.client) work
  begins_stay line (Some (faults.LogFull need room)) work s = stays_answered Y T log line.client (answers.LogFull need room) _
      (stays_still Y T log work (put_label (record { label = line.label; tid = None; owner = Some line.client }) work) refl refl s)
  begins_stay line (Some (faults.Last number)) work s = s
  begins_stay line (Some faults.NoMemory) work s = s

-- ---- a step of a node that runs

module _ (world : World) (steady : IsSteadyWorld world) (n free : ℕ) (low : n < world.size) (up : world.channels.up n ≡ true) (facts : HasNodeFacts (world.hosts n).node) where
  abbrev node : NodeValue
  node = (world.hosts n).node

  abbrev first : Work
  first = begun (world.hosts n).node free

  abbrev before : Stage
  before = c world steady n free low up

  abbrev behind : Stage
  behind = d world steady n free low up

  its : IsStage (c world steady n free low up)
  its = stage world steady n free low up

  sound : (event : Event) → ComesFit world steady n free low up event → MachineGives event first → is_sound (happen event first).node ≡ true
  sound event fit gives = happen_sound event first (comes_may world steady n free low up event fit gives) (begin_incarnation_sound (work_on node free) (steady.sound n low).node)

  module _ (Y : Tid → ℕ → Type 0) (T : ℕ → Type 0) where
    abbrev At : Stage → Work → Type 0
    At s work = IsTidy s work × Stays Y T node.committed work

    -- as it begins
    first_stays : BeganAt Y node.manager → T node.manager.ticks → At before first
    first_stays began ticks = resume_walk before.past before.begun before.met before.setting.node before.setting.nodes (Both Y T node.committed before its) (both_reads Y T node.committed before its) (both_keeps Y T node.committed before its) (work_on node free)
        (λ is tid part known committed. (((steady.nodes n low).first is).parts tid part known).committed committed)
        (λ is. (first_tidy before its (work_on node free) (steady.nodes n low).tidy refl refl, record { rising = facts.rising; began = began; ticks = ticks; committed = refl }))
        (λ is. (later_tidy before its (work_on node free) (steady.nodes n low).tidy is refl refl, record { rising = facts.rising; began = began; ticks = ticks; committed = refl }))

    -- as it ends
    settled_stays : (s : Stage) → IsStage s → (work : Work) → is_sound work.node ≡ true → At s work → At s (answer_waiting (settle work))
    settled_stays s is work sound i = answer_waiting_walk s.past s.begun s.met s.setting.node s.setting.nodes (Both Y T node.committed s is) (both_reads Y T node.committed s is) (both_keeps Y T node.committed s is) (settle work)
        (settle_walk s.past s.begun s.met s.setting.node s.setting.nodes (Both Y T node.committed s is) (both_reads Y T node.committed s is) (both_keeps Y T node.committed s is) work sound i)

    -- what comes, where no tick does, or time may go on
    done_stays : (event : Event) → ComesFit world steady n free low up event → MayTick event (Both Y T node.committed before its) → ((tid : Tid) (t : ℕ) → T t → Y tid t) → At before first → At before (happen event first) ⊎ At behind (happen event first)
    done_stays event fit on now i = by event refl
      where
        still : begins_in event ≡ false → At before (happen event first) ⊎ At behind (happen event first)
        still none = inl (happen_walk before.past before.begun before.met before.setting.node before.setting.nodes (Both Y T node.committed before its) (both_reads Y T node.committed before its) (both_keeps Y T node.committed before its) event first
            (may_on before its event none (comes_on world steady n free low up event fit)) on i)

        begins : (client : ClientNo) (line : ℕ) (label : List ℕ) → event ≡ events.Command client line label commands.Begin → At before (happen event first) ⊎ At behind (happen event first)
        begins client line label is = by (happen_tidy before its behind (later world steady n free low up) event first (comes_on world steady n free low up event fit) (begun_tidy world steady n free low up))
          where
            its_line : ScriptLine
            its_line = record { client = client; line = line; label = label; command = commands.Begin }

            held : Stays Y T node.committed (happen event first)
            held = subst (λ (e : Event). Stays Y T node.committed (happen e first)) (sym is) (begins_stay Y T node.committed now its_line (tm.begin_fault (with_command its_line first).room (with_command its_line first).node.manager) (with_command its_line first)
                (stays_still Y T node.committed first (with_command its_line first) refl refl i.1))

            by : IsTidy before (happen event first) ⊎ IsTidy behind (happen event first) → At before (happen event first) ⊎ At behind (happen event first)
            by (inl tidy) = inl (tidy, held)
            by (inr tidy) = inr (tidy, held)

        by : (e : Event) → event ≡ e → At before (happen event first) ⊎ At behind (happen event first)
        by (events.Command client line label commands.Begin) is = begins client line label is
        by (events.Command client line label commands.Commit) is = still (ap begins_in is)
        by (events.Command client line label commands.Abort) is = still (ap begins_in is)
        by (events.Command client line label commands.Take) is = still (ap begins_in is)
        by (events.Command client line label commands.Yield) is = still (ap begins_in is)
        by (events.Command client line label (commands.Request member op)) is = still (ap begins_in is)
        by (events.Received peer message) is = still (ap begins_in is)
        by events.ServeAll is = still (ap begins_in is)
        by (events.PeerRestarted peer old new) is = still (ap begins_in is)
        by events.Tick is = still (ap begins_in is)

    -- so the whole of it
    step_stays : (event : Event) → ComesFit world steady n free low up event → MachineGives event first → At before (happen event first) ⊎ At behind (happen event first) → Stays Y T node.committed (step_work node event free)
    step_stays event fit gives (inl i) = (settled_stays before its (happen event first) (sound event fit gives) i).1
    step_stays event fit gives (inr i) = (settled_stays behind (stage_d world steady n free low up) (happen event first) (sound event fit gives) i).1

  -- ---- what the log said

  pub step_committed : (event : Event) → ComesFit world steady n free low up event → MachineGives event first → (after_step node event free).committed ≡ node.committed
  step_committed event fit gives = (step_stays Y T event fit gives (done_stays Y T event fit (may_tick (Both Y T node.committed before its) (both_ticks Y T node.committed before its (λ work t. tt)) event) (λ tid t so. tt) (first_stays Y T (λ tid part known home undecided. tt) tt))).committed
    where
      Y : Tid → ℕ → Type 0
      Y tid t = ⊤

      T : ℕ → Type 0
      T t = ⊤

  -- ---- ages

  module _ (room : node.manager.ticks < 2 ^ 62) (young : AreYoung node) where
    abbrev YoungBy : ℕ → Tid → ℕ → Type 0
    YoungBy at t b = IsYoungAt before.setting.age at b

    abbrev Says : ℕ → ℕ → Type 0
    Says at t = t ≡ at

    abbrev next : ℕ
    next = min (node.manager.ticks + 1) (2 ^ 64 - 1)

    first_young : BeganAt (YoungBy node.manager.ticks) node.manager
    first_young tid part known home undecided = let y = young tid part known home undecided in record { begun = y.begun; age = λ age limit. y.age age limit }

    -- what begins is new
    new_young : (tid : Tid) (t : ℕ) → t ≡ node.manager.ticks → IsYoungAt before.setting.age node.manager.ticks t
    new_young tid t is = record { begun = eq_le t node.manager.ticks is; age = λ age limit. less t node.manager.ticks age is (subst (λ (o : Option ℕ). is_age o ≡ true) limit facts.setting.age) }
      where
        less : (a b k : ℕ) → a ≡ b → nat_lt 0 k ≡ true → b - a < k
        less a b k e p = grind (arith, nat_tests, e, p)

    of_stays : (time : ℕ) (event : Event) → Stays (YoungBy time) (Says time) node.committed (step_work node event free) → (after_step node event free).setting ≡ node.setting → AreYoung (after_step node event free)
    of_stays time event s setting tid part known home undecided = let y = s.began tid part known home undecided in record {
      begun = subst (λ (t : ℕ). part.begun_at ≤ t) (sym s.ticks) y.begun;
      age = λ age limit. subst (λ (t : ℕ). t - part.begun_at < age) (sym s.ticks) (y.age age (ap (λ (x : Setting). x.age) (sym setting) ∙ limit));
    }

    -- as the step begins
    start : At (YoungBy node.manager.ticks) (Says node.manager.ticks) before first
    start = first_stays (YoungBy node.manager.ticks) (Says node.manager.ticks) first_young refl

    pub first_ticks : first.node.manager.ticks ≡ node.manager.ticks
    first_ticks = start.1.ticks

    -- the time after it, and what is young then
    record Timed (event : Event) : Type 0 where
      pub time : ℕ
      pub once : time ≤ node.manager.ticks + 1
      pub stays : Stays (YoungBy time) (Says time) node.committed (step_work node event free)

    step_timed : (event : Event) → ComesFit world steady n free low up event → MachineGives event first → Timed event
    step_timed event fit gives = by event refl
      where
        at_most : (t : ℕ) → min (t + 1) (2 ^ 64 - 1) ≤ t + 1
        at_most t = grind (arith, nat_tests)

        still : MayTick event (Both (YoungBy node.manager.ticks) (Says node.manager.ticks) node.committed before its) → Timed event
        still on = record { time = node.manager.ticks; once = le_next node.manager.ticks; stays = step_stays (YoungBy node.manager.ticks) (Says node.manager.ticks) event fit gives (done_stays (YoungBy node.manager.ticks) (Says node.manager.ticks) event fit on new_young start) }

        ticked : event ≡ events.Tick → Timed event
        ticked is = record {
          time = next;
          once = at_most node.manager.ticks;
          stays = step_stays (YoungBy next) (Says next) event fit gives (inl (subst (λ (e : Event). At (YoungBy next) (Says next) before (happen e first)) (sym is) (tick_young node.committed before its node.manager.ticks room first start)));
        }

        by : (e : Event) → event ≡ e → Timed event
        by (events.Command client line label command) is = still (subst (λ (e : Event). MayTick e (Both (YoungBy node.manager.ticks) (Says node.manager.ticks) node.committed before its)) (sym is) tt)
        by (events.Received peer message) is = still (subst (λ (e : Event). MayTick e (Both (YoungBy node.manager.ticks) (Says node.manager.ticks) node.committed before its)) (sym is) tt)
        by events.ServeAll is = still (subst (λ (e : Event). MayTick e (Both (YoungBy node.manager.ticks) (Says node.manager.ticks) node.committed before its)) (sym is) tt)
        by (events.PeerRestarted peer old new) is = still (subst (λ (e : Event). MayTick e (Both (YoungBy node.manager.ticks) (Says node.manager.ticks) node.committed before its)) (sym is) tt)
        by events.Tick is = ticked is

    pub step_young : (event : Event) → ComesFit world steady n free low up event → MachineGives event first → (after_step node event free).setting ≡ node.setting → AreYoung (after_step node event free)
    step_young event fit gives setting = let t = step_timed event fit gives in of_stays t.time event t.stays setting

    pub step_ticks : (event : Event) → ComesFit world steady n free low up event → MachineGives event first → (after_step node event free).manager.ticks ≤ node.manager.ticks + 1
    step_ticks event fit gives = let t = step_timed event fit gives in subst (λ (time : ℕ). time ≤ node.manager.ticks + 1) (sym t.stays.ticks) t.once
