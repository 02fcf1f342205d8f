-- A tidy node stays tidy through a whole step.
use Rattle.qs_world_refine.proofs.Words.{◌≡◌, inl, inr, ℕ, ◌+◌, ◌≤◌, ◌<◌, Bool, true, false, Option, Some, None, is_some, refl, sym, ap, subst, ◌∙◌, arith, nat_tests, ◌⊎◌, list_all, NodeNo, Tid, same_node, Command, ScriptLine, begin_as, begin_or_refuse, begin_command, put_label, settle, NodeValue, Work, with_manager, with_command, happen, answer_waiting, Setting, BeginFault, fits, may_command, is_sound, is_owned_label, Stage, IsStage, IsTidyNode, IsTidy, is_tidy_label, begins_one, is_run, or_right}
use Rattle.qs_book_journal.specs.declared.script_line.Command.TheVariants as commands
use Rattle.qs_node_kept.specs.declared.kept.KeptLabel.{KeptLabel}
use Rattle.qs_ops.specs.declared.answer.Answer.TheVariants as answers
use Rattle.qs_node_step.specs.declared.event.Event.{Event}
use Rattle.qs_node_step.specs.declared.event.Event.TheVariants as events
use Rattle.qs_tm.specs.Manager as tm
use Rattle.qs_tm.specs.declared.manager.BeginFault.TheVariants as faults
use Rattle.qs_world_refine.proofs.SoundBegin.{all_last}
use Rattle.qs_world_refine.proofs.SoundParts.{both_and}
use Rattle.qs_world_refine.proofs.TidyBegins.{Widens, begun_tidy, begun_runs, out_wide}
use Rattle.qs_world_refine.proofs.TidyKeeps.{tidy_keeps, tidy_ticks}
use Rattle.qs_world_refine.proofs.TidyReads.{tidy_reads}
use Rattle.qs_world_refine.proofs.WalkSettles.{settle_walk}
use Rattle.qs_world_refine.proofs.WalkSteps.{happen_walk, answer_waiting_walk}

-- the number that comes next is not given yet
pub fresh_next : (c : Stage) → IsStage c → (node : NodeValue) → IsTidyNode c node → c.past (tm.next_tid node.manager) ≡ false
fresh_next c stage node n = by (c.past (tm.next_tid node.manager)) refl
  where
    never : (inc low : ℕ) → (inc < inc) ⊎ ((inc ≡ inc) × (low + 1 ≤ low)) → false ≡ true
    never inc low (inl less) = absurd (grind (arith, less))
    never inc low (inr same) = let it : low + 1 ≤ low = same.1 in absurd (grind (arith, it))

    here : same_node node.manager.node c.setting.node ≡ true
    here = subst (λ (m : NodeNo). same_node m c.setting.node ≡ true) (sym n.own) (itself c.setting.node)
      where
        itself : (m : NodeNo) → same_node m m ≡ true
        itself m = grind (arith, nat_tests)

    by : (b : Bool) → c.past (tm.next_tid node.manager) ≡ b → b ≡ false
    by false is = refl
    by true is = absurd (
        let given : (node.manager.inc < c.setting.inc) ⊎ ((node.manager.inc ≡ c.setting.inc) × (node.manager.begun + 1 ≤ c.count)) = (stage.own (tm.next_tid node.manager) is here).1 in
        let at : (c.setting.inc < c.setting.inc) ⊎ ((c.setting.inc ≡ c.setting.inc) × (c.count + 1 ≤ c.count)) =
        subst (λ (k : ℕ). (c.setting.inc < c.setting.inc) ⊎ ((c.setting.inc ≡ c.setting.inc) × (k + 1 ≤ c.count))) n.count (subst (λ (i : ℕ). (i < c.setting.inc) ⊎ ((i ≡ c.setting.inc) × (node.manager.begun + 1 ≤ c.count))) n.inc given) in
        let never : false ≡ true = never c.setting.inc c.count at in cc (never))

-- the stage after a step, which may have begun one more
pub record Later (c d : Stage) : Type 0 where
  pub wide : Widens c d
  pub stage : IsStage d
  pub next : (node : NodeValue) → IsTidyNode c node → d.past (tm.next_tid node.manager) ≡ true
  pub begun : (node : NodeValue) → IsTidyNode c node → d.begun (tm.next_tid node.manager) ≡ true
  pub count : d.count ≡ c.count + 1

module _ (c : Stage) (stage : IsStage c) where
  -- ---- another label, of none or of one that runs here

  with_label : (d : Stage) (work : Work) (label : KeptLabel) → is_tidy_label d label ≡ true → is_owned_label work.node label ≡ true → IsTidy d work → IsTidy d (put_label label work)
  with_label d work label tidy owned t = record {
    node = record {
      setting = t.node.setting;
      own = t.node.own;
      inc = t.node.inc;
      count = t.node.count;
      ordered = t.node.ordered;
      known = t.node.known;
      apart = t.node.apart;
      waiting = t.node.waiting;
      labels = all_last (is_tidy_label d) work.node.kept.now.labels label t.node.labels tidy;
      loans = t.node.loans;
      outcomes = t.node.outcomes;
      commands = t.node.commands;
      kinds = t.node.kinds;
      committed = t.node.committed;
      crossed = record { owned = all_last (is_owned_label work.node) work.node.kept.now.labels label t.node.crossed.owned owned; commits = t.node.crossed.commits; fresh = t.node.crossed.fresh; pasts = t.node.crossed.pasts; earlier = t.node.crossed.earlier };
    };
    begun = t.begun;
    out = record { messages = t.out.messages; records = t.out.records };
  }

  begin_tidy : (d : Stage) (later : Later c d) (line : ScriptLine) (work : Work) → IsTidy c work → IsTidy d (begin_as line (tm.next_tid work.node.manager) work)
  begin_tidy d later line work t =
      let keeps = tidy_keeps d later.stage in
      keeps.answer line.client answers.Done _ (keeps.enter _ _ (with_label d begun (record { label = line.label; tid = Some next; owner = Some line.client })
      (both_and (d.begun next) (same_node work.node.manager.node d.setting.node) (later.begun work.node t.node) here)
      (or_right (is_some (Rattle.qs_node_step.specs.Answering.kept_outcome next begun.node)) (tm.told_of next false is_run begun.node.manager) (begun_runs c d later.wide later.count work.node t.node fresh its line.client))
      (record { node = begun_tidy c d later.wide later.count work.node t.node fresh its line.client; begun = t.begun; out = out_wide c d later.wide work.out t.out })))
    where
      next : Tid
      next = tm.next_tid work.node.manager

      begun : Work
      begun = with_manager (tm.begin line.client) work

      fresh : c.past next ≡ false
      fresh = fresh_next c stage work.node t.node

      its : d.past next ≡ true
      its = later.next work.node t.node

      itself : (m : NodeNo) → same_node m m ≡ true
      itself m = grind (arith, nat_tests)

      here : same_node work.node.manager.node d.setting.node ≡ true
      here = subst (λ (m : NodeNo). same_node m d.setting.node ≡ true) (sym (t.node.own ∙ ap (λ (s : Setting). s.node) (sym later.wide.setting))) (itself d.setting.node)

  -- it began one more, or none
  begin_command_tidy : (d : Stage) (later : Later c d) (line : ScriptLine) (work : Work) → IsTidy c work → IsTidy c (begin_command line work) ⊎ IsTidy d (begin_command line work)
  begin_command_tidy d later line work t = by (tm.begin_fault work.room work.node.manager)
    where
      by : (o : Option BeginFault) → IsTidy c (begin_or_refuse line o work) ⊎ IsTidy d (begin_or_refuse line o work)
      by None = inr (begin_tidy d later line work t)
      by (Some (faults.LogFull need room)) = inl ((tidy_keeps c stage).answer line.client (answers.LogFull need room) _ (with_label c work (record { label = line.label; tid = None; owner = Some line.client }) refl refl t))
      by (Some (faults.Last number)) = inl t
      by (Some faults.NoMemory) = inl t

  abbrev pub MayComeOn : Event → Type 0
  MayComeOn (events.Command client line label command) = may_command c.setting.nodes command ≡ true
  MayComeOn (events.Received peer message) = (c.met peer ≡ true) × (fits c.past c.begun c.setting.nodes peer c.setting.node message ≡ true)
  MayComeOn events.ServeAll = Rattle.std.specs.Prelude.⊤
  MayComeOn (events.PeerRestarted peer old new) = Rattle.std.specs.Prelude.⊤
  MayComeOn events.Tick = Rattle.std.specs.Prelude.⊤

  pub happen_tidy : (d : Stage) (later : Later c d) (event : Event) (work : Work) → MayComeOn event → IsTidy c work → IsTidy c (happen event work) ⊎ IsTidy d (happen event work)
  happen_tidy d later (events.Command client line label command) work may t = by command may
    where
      abbrev_line : Command → ScriptLine
      abbrev_line command = record { client = client; line = line; label = label; command = command }

      walk : (command : Command) → may_command c.setting.nodes command ≡ true → begins_one command ≡ false → IsTidy c (happen (events.Command client line label command) work)
      walk command may none = happen_walk c.past c.begun c.met c.setting.node c.setting.nodes (IsTidy c) (tidy_reads c stage) (tidy_keeps c stage) (events.Command client line label command) work (may, none) tt t

      by : (command : Command) → may_command c.setting.nodes command ≡ true → IsTidy c (happen (events.Command client line label command) work) ⊎ IsTidy d (happen (events.Command client line label command) work)
      by commands.Begin may = begin_command_tidy d later (record { client = client; line = line; label = label; command = commands.Begin }) (with_command (record { client = client; line = line; label = label; command = commands.Begin }) work)
          ((tidy_keeps c stage).opens (record { client = client; line = line; label = label; command = commands.Begin }) work refl t)
      by commands.Commit may = inl (walk commands.Commit may refl)
      by commands.Abort may = inl (walk commands.Abort may refl)
      by commands.Take may = inl (walk commands.Take may refl)
      by commands.Yield may = inl (walk commands.Yield may refl)
      by (commands.Request member op) may = inl (walk (commands.Request member op) may refl)
  happen_tidy d later (events.Received peer message) work may t = inl (happen_walk c.past c.begun c.met c.setting.node c.setting.nodes (IsTidy c) (tidy_reads c stage) (tidy_keeps c stage) (events.Received peer message) work may tt t)
  happen_tidy d later events.ServeAll work may t = inl (happen_walk c.past c.begun c.met c.setting.node c.setting.nodes (IsTidy c) (tidy_reads c stage) (tidy_keeps c stage) events.ServeAll work may tt t)
  happen_tidy d later (events.PeerRestarted peer old new) work may t = inl (happen_walk c.past c.begun c.met c.setting.node c.setting.nodes (IsTidy c) (tidy_reads c stage) (tidy_keeps c stage) (events.PeerRestarted peer old new) work may tt t)
  happen_tidy d later events.Tick work may t = inl (happen_walk c.past c.begun c.met c.setting.node c.setting.nodes (IsTidy c) (tidy_reads c stage) (tidy_keeps c stage) events.Tick work may (tidy_ticks c) t)

  -- the node settles, and commands that stayed open are answered
  pub settles_tidy : (work : Work) → is_sound work.node ≡ true → IsTidy c work → IsTidy c (answer_waiting (settle work))
  settles_tidy work sound t = answer_waiting_walk c.past c.begun c.met c.setting.node c.setting.nodes (IsTidy c) (tidy_reads c stage) (tidy_keeps c stage) (settle work)
      (settle_walk c.past c.begun c.met c.setting.node c.setting.nodes (IsTidy c) (tidy_reads c stage) (tidy_keeps c stage) work sound t)
