-- At the end of a step that logged a Prepare of a transaction its node is engaged for it, or has decided it, as it has where it logged a Commit.
use Rattle.qs_world_refine.proofs.Words.{◌≡◌, ◌⊎◌, inl, inr, ℕ, ◌<◌, Bool, true, false, List, [], ◌∷◌, ◌++◌, Option, Some, None, refl, subst, list_any, lookup, remove_entry, is_at, ClientNo, Tid, ScriptLine, Answer, Record, BeginFault, enter, answer, is_forced, begin_or_refuse, put_label, settle, NodeValue, Work, with_manager, work_on, client_cmp, happen, answer_waiting, step_work, with_command, OpenCommand, is_sound, begun, IsSteadyWorld, MachineGives, Stage, IsStage, IsTidy}
use Rattle.qs_book_journal.specs.declared.entry.Act.TheVariants as acts
use Rattle.qs_book_journal.specs.declared.script_line.Command.TheVariants as commands
use Rattle.qs_ops.specs.declared.answer.Answer.TheVariants as answers
use Rattle.qs_record.specs.declared.record.Record.TheVariants as records
use Rattle.qs_tm.specs.Manager as tm
use Rattle.qs_tm.specs.declared.manager.BeginFault.TheVariants as faults
use Rattle.qs_node_step.specs.declared.event.Event.{Event}
use Rattle.qs_node_step.specs.declared.event.Event.TheVariants as events
use Rattle.qs_world.specs.World.{World}
use Rattle.qs_world_refine.specs.CutLaws.{is_prepare_of, is_commit_of}
use Rattle.qs_world_refine.proofs.BeginKeeps.{begin_keeps}
use Rattle.qs_world_refine.proofs.PreparedHeld.{LoggedWell, Both, both_reads, both_keeps, both_ticks}
use Rattle.qs_world_refine.proofs.SoundHappen.{happen_sound}
use Rattle.qs_world_refine.proofs.SoundRestart.{begin_incarnation_sound}
use Rattle.qs_world_refine.proofs.SteadyBegins.{ComesFit, c, stage, begun_tidy, comes_may, comes_on}
use Rattle.qs_world_refine.proofs.SteadySteps.{d, stage_d, later}
use Rattle.qs_world_refine.proofs.StillSteps.{begins_in, may_on}
use Rattle.qs_world_refine.proofs.TidyHappens.{happen_tidy}
use Rattle.qs_world_refine.proofs.TurnCommands.{any_wider}
use Rattle.qs_world_refine.proofs.WalkSettles.{settle_walk}
use Rattle.qs_world_refine.proofs.WalkSteps.{happen_walk, answer_waiting_walk, may_tick}

-- ---- what begins logs nothing

abbrev SameRecords : Work → Work → Type 0
SameRecords work new = new.out.records ≡ work.out.records

answer_records : (client : ClientNo) (said : Answer) (work : Work) → SameRecords work (answer client said work)
answer_records client said work = by (lookup (is_at (client_cmp client)) work.node.commands)
  where
    by : (o : Option OpenCommand) → SameRecords work (elim o [
      | None ↦ work
      | Some command ↦ record work {
        node = record work.node { commands = remove_entry (is_at (client_cmp client)) work.node.commands };
        out = record work.out {
          answers = work.out.answers ++ record { client = client; answer = record { line = command.line.line; answer = said } } ∷ [];
          entries = work.out.entries ++ acts.Answer client command.line.line said ∷ [];
        };
      }
    ])
    by None = refl
    by (Some command) = refl

begin_records : (line : ScriptLine) (o : Option BeginFault) (work : Work) → (begin_or_refuse line o work).out.records ≡ work.out.records
begin_records line None work = answer_records line.client answers.Done (enter (acts.Begin (tm.next_tid work.node.manager) line.label line.client) (put_label (record { label = line.label; tid = Some (tm.next_tid work.node.manager); owner = Some line.client }) (with_manager (tm.begin line.client) work)))
begin_records line (Some (faults.LogFull need room)) work = answer_records line.client (answers.LogFull need room) (put_label (record { label = line.label; tid = None; owner = Some line.client }) work)
begin_records line (Some (faults.Last number)) work = refl
begin_records line (Some faults.NoMemory) work = refl

module _ (t : Tid) where
  commit_forced : (rec : Record) → is_commit_of t rec ≡ true → is_forced rec ≡ true
  commit_forced (records.Prepare tid server covers changes) is = absurd (cc is)
  commit_forced (records.Commit tid told) is = refl
  commit_forced (records.Aborted tid) is = absurd (cc is)
  commit_forced (records.End tid) is = absurd (cc is)

  prepare_forced : (rec : Record) → is_prepare_of t rec ≡ true → is_forced rec ≡ true
  prepare_forced (records.Prepare tid server covers changes) is = refl
  prepare_forced (records.Commit tid told) is = absurd (cc is)
  prepare_forced (records.Aborted tid) is = absurd (cc is)
  prepare_forced (records.End tid) is = absurd (cc is)

  settles : (s : Stage) (is : IsStage s) (work : Work) → is_sound work.node ≡ true → Both t s is work → Both t s is (answer_waiting (settle work))
  settles s is work sound both = answer_waiting_walk s.past s.begun s.met s.setting.node s.setting.nodes (Both t s is) (both_reads t s is) (both_keeps t s is) (settle work)
      (settle_walk s.past s.begun s.met s.setting.node s.setting.nodes (Both t s is) (both_reads t s is) (both_keeps t s is) work sound both)

  module _ (world : World) (steady : IsSteadyWorld world) (n free : ℕ) (low : n < world.size) (up : world.channels.up n ≡ true) where
    abbrev node : NodeValue
    node = (world.hosts n).node

    abbrev first : Work
    first = begun node free

    none_first : (p : Record → Bool) → ((rec : Record) → p rec ≡ true → is_forced rec ≡ true) → list_any p first.out.records ≡ true → ⊥
    none_first p each has =
        let some : list_any is_forced first.out.records ≡ true = any_wider p is_forced each first.out.records has in
        let none : list_any is_forced first.out.records ≡ false = (begin_keeps (work_on node free)).forced in cc (some, none)

    -- where nothing more was logged
    none_logged : (new : Work) → new.out.records ≡ first.out.records → LoggedWell t new
    none_logged new same = record {
      noted = λ has. absurd (none_first (is_prepare_of t) prepare_forced (before (is_prepare_of t) has));
      held = λ has. absurd (none_first (is_prepare_of t) prepare_forced (before (is_prepare_of t) has));
      decided = λ has. absurd (none_first (is_commit_of t) commit_forced (before (is_commit_of t) has));
    }
      where
        before : (p : Record → Bool) → list_any p new.out.records ≡ true → list_any p first.out.records ≡ true
        before p has = subst (λ (rs : List Record). list_any p rs ≡ true) same has

    first_held : LoggedWell t first
    first_held = none_logged first refl

    sound : (event : Event) → ComesFit world steady n free low up event → MachineGives event first → is_sound (happen event first).node ≡ true
    sound event fit gives = happen_sound event first (comes_may world steady n free low up event fit gives) (begin_incarnation_sound (work_on node free) (steady.sound n low).node)

    still : (event : Event) → begins_in event ≡ false → ComesFit world steady n free low up event → MachineGives event first → LoggedWell t (step_work node event free)
    still event none fit gives = (settles (c world steady n free low up) (stage world steady n free low up) (happen event first) (sound event fit gives)
        (happen_walk s.past s.begun s.met s.setting.node s.setting.nodes (Both t s (stage world steady n free low up)) (both_reads t s (stage world steady n free low up)) (both_keeps t s (stage world steady n free low up)) event first
        (may_on s (stage world steady n free low up) event none (comes_on world steady n free low up event fit)) (may_tick (Both t s (stage world steady n free low up)) (both_ticks t s (stage world steady n free low up)) event) (begun_tidy world steady n free low up, first_held))).1
      where
        s : Stage
        s = c world steady n free low up

    begins : (client : ClientNo) (line : ℕ) (label : List ℕ) → ComesFit world steady n free low up (events.Command client line label commands.Begin) → MachineGives (events.Command client line label commands.Begin) first → LoggedWell t (step_work node (events.Command client line label commands.Begin) free)
    begins client line label fit gives = by (happen_tidy (c world steady n free low up) (stage world steady n free low up) (d world steady n free low up) (later world steady n free low up) event first (comes_on world steady n free low up event fit) (begun_tidy world steady n free low up))
      where
        event : Event
        event = events.Command client line label commands.Begin

        its : ScriptLine
        its = record { client = client; line = line; label = label; command = commands.Begin }

        held : LoggedWell t (happen event first)
        held = none_logged (happen event first) (begin_records its (tm.begin_fault (with_command its first).room (with_command its first).node.manager) (with_command its first))

        by : IsTidy (c world steady n free low up) (happen event first) ⊎ IsTidy (d world steady n free low up) (happen event first) → LoggedWell t (step_work node event free)
        by (inl tidy) = (settles (c world steady n free low up) (stage world steady n free low up) (happen event first) (sound event fit gives) (tidy, held)).1
        by (inr tidy) = (settles (d world steady n free low up) (stage_d world steady n free low up) (happen event first) (sound event fit gives) (tidy, held)).1

    pub step_logs : (event : Event) → ComesFit world steady n free low up event → MachineGives event first → LoggedWell t (step_work node event free)
    step_logs (events.Command client line label commands.Begin) fit gives = begins client line label fit gives
    step_logs (events.Command client line label commands.Commit) fit gives = still (events.Command client line label commands.Commit) refl fit gives
    step_logs (events.Command client line label commands.Abort) fit gives = still (events.Command client line label commands.Abort) refl fit gives
    step_logs (events.Command client line label commands.Take) fit gives = still (events.Command client line label commands.Take) refl fit gives
    step_logs (events.Command client line label commands.Yield) fit gives = still (events.Command client line label commands.Yield) refl fit gives
    step_logs (events.Command client line label (commands.Request member op)) fit gives = still (events.Command client line label (commands.Request member op)) refl fit gives
    step_logs (events.Received peer message) fit gives = still (events.Received peer message) refl fit gives
    step_logs events.ServeAll fit gives = still events.ServeAll refl fit gives
    step_logs (events.PeerRestarted peer old new) fit gives = still (events.PeerRestarted peer old new) refl fit gives
    step_logs events.Tick fit gives = still events.Tick refl fit gives
