-- A client begins a transaction in a step of its home: the machine at its start shows it, and it stands so.
use Rattle.qs_world_refine.proofs.Words.{◌≡◌, ℕ, ◌<◌, ◌==◌, ◌&&◌, ◌||◌, not, Bool, true, false, List, [], ◌∷◌, ◌++◌, Option, Some, None, refl, sym, ap, subst, ◌∙◌, arith, if◌then◌else◌, list_any, filter, nat_tests, list_any-append, NodeNo, Tid, same_node, Command, ScriptLine, Record, recovery, names_transaction, BeginFault, Participant, was_committed, enter, is_forced, refuse_begin, begin_or_refuse, begin_command, put_label, NodeValue, Work, part_of, with_manager, work_on, obey, with_command}
use Rattle.qs_world_refine.proofs.Words.{Commanded, command_of, may_be_known, inc_in, count_in, ShowsAll, is_loose_of, is_record_of, HasKinds, Scene, scene_of, sight_during, is_in_doubt, begun, Stands, GoesOn, IsSteadyWorld, stage_of, KnowsNothing, IsSteady, IsTidy, is_tidy_record, eq-eqb}
use Rattle.qs_book_journal.specs.declared.entry.Act.TheVariants as acts
use Rattle.qs_book_journal.specs.declared.script_line.Command.TheVariants as commands
use Rattle.qs_ops.specs.declared.answer.Answer.TheVariants as answers
use Rattle.qs_tm.specs.Manager as tm
use Rattle.qs_tm.specs.declared.manager.BeginFault.TheVariants as faults
use Rattle.qs_world.specs.World.{World}
use Rattle.qs_world_agree.specs.World as machine
use Rattle.qs_world_refine.specs.Begun.{has_begun}
use Rattle.qs_world_refine.specs.Starts.{MayBeginAt}
use Rattle.qs_world_refine.proofs.BeginKeeps.{KeptOn}
use Rattle.qs_world_refine.proofs.Beginning as beginning
use Rattle.qs_world_refine.proofs.BorrowerStands.{answer_kinds}
use Rattle.qs_world_refine.proofs.Calm.{unknown_still, committed_same}
use Rattle.qs_world_refine.proofs.Doubts.{none_of}
use Rattle.qs_world_refine.proofs.During.{Leaves, leaves_itself, leaves_on, found_same}
use Rattle.qs_world_refine.proofs.EachEvent.{StepCame}
use Rattle.qs_world_refine.proofs.EachHears.{first, keeps}
use Rattle.qs_world_refine.proofs.EachTold.{filter_none}
use Rattle.qs_world_refine.proofs.Frames.{out_leaves}
use Rattle.qs_world_refine.proofs.Keeping.{Keeps, leaves_keeps, keeps_shown, answer_leaves}
use Rattle.qs_world_refine.proofs.SettleRules.{beside}
use Rattle.qs_world_refine.proofs.SettleStands.{at_same, home_free}
use Rattle.qs_world_refine.proofs.SoundBegin.{begin_command_sound}
use Rattle.qs_world_refine.proofs.SteadyBegins.{begun_tidy}
use Rattle.qs_world_refine.proofs.SteadyGives.{unbegun_unknown, none_any}
use Rattle.qs_world_refine.proofs.SteadyGrows.{begun_past}
use Rattle.qs_world_refine.proofs.UnseenWorlds.{not_committed, none_waiting, fit_apart}

-- ---- the log has no room for another: nothing of any transaction changes

refused_leaves : (t : Tid) (line : ScriptLine) (need room : ℕ) (work : Work) → Leaves t work (refuse_begin line need room work)
refused_leaves t line need room work = leaves_on t work labelled_work (refuse_begin line need room work)
    (out_leaves t work labelled_work (record { around = record { setting = refl; waits = λ s. refl; loans = refl; past = refl }; part = refl }) refl refl) (answer_leaves t line.client (answers.LogFull need room) labelled_work)
  where
    labelled_work : Work
    labelled_work = put_label (record { label = line.label; tid = None; owner = Some line.client }) work

begin_kinds : (line : ScriptLine) (o : Option BeginFault) (work : Work) → HasKinds work.node → HasKinds (begin_or_refuse line o work).node
begin_kinds line None work has = answer_kinds line.client answers.Done
    (enter (acts.Begin (tm.next_tid work.node.manager) line.label line.client) (put_label (record { label = line.label; tid = Some (tm.next_tid work.node.manager); owner = Some line.client }) (with_manager (tm.begin line.client) work))) has
begin_kinds line (Some (faults.LogFull need room)) work has = answer_kinds line.client (answers.LogFull need room) (put_label (record { label = line.label; tid = None; owner = Some line.client }) work) has
begin_kinds line (Some (faults.Last number)) work has = has
begin_kinds line (Some faults.NoMemory) work has = has

module _ (t : Tid) (world : World) (w : machine.World) (steady : IsSteady world) (tidy : IsSteadyWorld world) (numbered : names_transaction t ≡ true) (home_in : t.home.0 < world.size) (off : may_be_known world t ≡ false) (all : ShowsAll t world w)
    (n free : ℕ) (n_in : n < world.size) (on : world.channels.up n ≡ true) (next_is : t ≡ tm.next_tid (begun (world.hosts n).node free).node.manager) where
  abbrev node : NodeValue
  node = (world.hosts n).node

  abbrev work : Work
  work = begun node free

  abbrev scene : Scene
  scene = scene_of world

  stood : GoesOn t scene n work w
  stood = first t world w steady home_in all n free n_in on

  on_first : KeptOn (work_on node free) work
  on_first = keeps t world w steady home_in all n free n_in on

  its : IsTidy (stage_of world n) work
  its = begun_tidy world tidy n free n_in on

  unknown_there : KnowsNothing t world n
  unknown_there = unbegun_unknown t world n tidy n_in numbered off

  none_known : part_of t work ≡ None
  none_known = unknown_still (work_on node free) work on_first t unknown_there.part

  -- ---- it may begin: its number is new

  may_begin_at : (line : ScriptLine) → MayBeginAt (with_command line work)
  may_begin_at line = record {
    node = its.node.own ∙ sym (ap (λ s. s.node) its.node.setting);
    inc = its.node.inc ∙ sym (ap (λ s. s.inc) its.node.setting);
    unknown = subst (λ (u : Tid). part_of u work ≡ None) next_is none_known;
    fresh = subst (λ (u : Tid). was_committed u work.node ≡ false) next_is (committed_same (work_on node free) work on_first t ∙ not_committed t world tidy numbered home_in off n n_in);
  }

  home_here : same_node t.home work.node.setting.node ≡ true
  home_here = eq-eqb t.home.0 work.node.setting.node.0 (ap (λ (u : Tid). u.home.0) next_is ∙ ap (λ (k : NodeNo). k.0) (its.node.own ∙ sym (ap (λ s. s.node) its.node.setting)))

  -- ---- it begins, or it does not

  module _ (line : ScriptLine) where
    abbrev before : Work
    before = with_command line work

    abbrev after : Work
    after = begin_command line before

    before_leaves : (u : Tid) → Leaves u work before
    before_leaves u = out_leaves u work before (record { around = record { setting = refl; waits = λ s. refl; loans = refl; past = refl }; part = refl }) refl refl

    begin_keeps : Keeps t before after
    begin_keeps = by (tm.begin_fault before.room before.node.manager)
      where
        by : (o : Option BeginFault) → Keeps t before (begin_or_refuse line o before)
        by None = subst (λ (u : Tid). Keeps u before (Rattle.qs_node_step.specs.Commands.begin_as line (tm.next_tid before.node.manager) before)) (sym next_is) (beginning.begin_keeps line before (may_begin_at line))
        by (Some (faults.LogFull need room)) = leaves_keeps t before (refuse_begin line need room before) (refused_leaves t line need room before)
        by (Some (faults.Last number)) = leaves_keeps t before before (leaves_itself t before)
        by (Some faults.NoMemory) = leaves_keeps t before before (leaves_itself t before)

    setting_stays : after.node.setting ≡ work.node.setting
    setting_stays = by (tm.begin_fault before.room before.node.manager)
      where
        by : (o : Option BeginFault) → (begin_or_refuse line o before).node.setting ≡ work.node.setting
        by None = (beginning.begin_leaves line before (beside (tm.next_tid before.node.manager)) (Rattle.qs_world_refine.proofs.SettleRules.beside_apart (tm.next_tid before.node.manager))).node.around.setting
        by (Some (faults.LogFull need room)) = (refused_leaves t line need room before).node.around.setting
        by (Some (faults.Last number)) = refl
        by (Some faults.NoMemory) = refl

    sound_after : Rattle.qs_world_refine.specs.Sound.is_sound after.node ≡ true
    sound_after = begin_command_sound line before stood.stands.sound

    keeps_it : Keeps t work after
    keeps_it = Rattle.qs_world_refine.proofs.Keeping.keeps_on t work before after (leaves_keeps t work before (before_leaves t)) begin_keeps

    -- its log says nothing of it
    found_is : (sight_during t scene n work).found n ≡ recovery (world.hosts n).log
    found_is = picked (n == n) (grind (arith, nat_tests)) ∙ (ap (λ (l : List Record). recovery ((world.hosts n).log ++ l)) (filter_none work.out.records on_first.forced) ∙ ap recovery (Rattle.qs_world_refine.proofs.Sending.append_nil (world.hosts n).log))
      where
        picked : (b : Bool) → b ≡ true → (if b then recovery ((world.hosts n).log ++ filter is_forced work.out.records) else recovery ((world.hosts n).log)) ≡ recovery ((world.hosts n).log ++ filter is_forced work.out.records)
        picked b is = rw is refl

    no_doubt : (s : ℕ) → is_in_doubt t s ((sight_during t scene n after).found n) ≡ false
    no_doubt s = (found_same t scene n work after stood.next keeps_it.quiet n).prepared s ∙ (ap (is_in_doubt t s) found_is ∙ none_of t s (recovery (world.hosts n).log).prepared unknown_there.doubt)

    begun_stands : Stands t scene n after stood.next
    begun_stands = record {
      at = at_same t scene n work after setting_stays stood.stands.at;
      home_in = home_in;
      sound = sound_after;
      kinds = begin_kinds line (tm.begin_fault before.room before.node.manager) before stood.stands.kinds;
      lawful = stood.stands.lawful;
      shown = keeps_shown t scene n work after stood.next keeps_it stood.stands.shown;
      clear = λ _ s. no_doubt s;
      superior = λ part m known has. absurd (home_free t after.node part m sound_after known (ap (λ s. same_node t.home s.node) setting_stays ∙ home_here) has);
    }

  -- ---- nothing of it waits in the log

  none_before : list_any (is_record_of t) ((world.hosts n).waiting ++ work.out.records) ≡ false
  none_before = list_any-append (is_record_of t) (world.hosts n).waiting work.out.records ∙ neither (none_waiting t world tidy numbered home_in off n n_in)
      (none_any (is_record_of t) (is_tidy_record (stage_of world n)) (fit_apart t (may_be_known world) (has_begun world) off (λ u is. (begun_past world.size (inc_in world) (count_in world) u is).0) node.setting.node) work.out.records its.out.records)
    where
      neither : {a b : Bool} → a ≡ false → b ≡ false → (a || b) ≡ false
      neither x y = rw (x, y) refl

  none_loose : (rs : List Record) → list_any (is_record_of t) rs ≡ false → list_any (is_loose_of t) rs ≡ false
  none_loose [] none = refl
  none_loose (r ∷ rs) none = by (is_record_of t r) (list_any (is_record_of t) rs) (not (is_forced r)) none (none_loose rs)
    where
      by : (a b c : Bool) → (a || b) ≡ false → (b ≡ false → list_any (is_loose_of t) rs ≡ false) → ((a && c) || list_any (is_loose_of t) rs) ≡ false
      by true b c none more = absurd (cc (none))
      by false b c none more = more none

  -- ---- what comes

  pub begins_come : (k : ℕ) (line : ScriptLine) → line.command ≡ commands.Begin → StepCame t world n free (Commanded k) (command_of line) w
  begins_come k line is = record {
    later = scene;
    size = refl;
    inc = refl;
    log = refl;
    came = record {
      mid = stood.next;
      leads = stood.leads;
      after = subst (λ (c : Command). GoesOn t scene n (obey line c (with_command line work)) stood.next) (sym is) (record { next = stood.next; leads = record { events = []; run = refl }; stands = begun_stands line });
      ends = false;
      ended = λ never. absurd (cc (never));
      comes = λ f last leads shown begins same. (none_loose ((world.hosts n).waiting ++ work.out.records) none_before, ap (λ (o : Option Participant). Rattle.qs_world_refine.proofs.TurnOn.fate_found o) none_known);
    };
    taken = λ work log v shown. shown;
  }
