-- Over a run each log only grows, by records that name transactions.
use Rattle.qs_world_refine.proofs.Words.{◌≡◌, ◌⊎◌, ℕ, ◌<◌, ◌==◌, ◌++◌, inl, inr, Bool, true, false, List, [], ◌∷◌, Option, Some, None, refl, sym, ap, subst, ◌∙◌, if◌then◌else◌, list_all, eqb-true, list_all-append, Tid, is_crash, Record, names_transaction, tid_of, recovered_of, after_step, effects_of, step_work, Effects, Move, Source, Cut, Stop, Rise, event_of, cut_log, cut_with, may_move, may_step, moved, risen_host, step_with, stepped_host, stopped, stopped_host, Host, Opening, start}
use Rattle.qs_world_refine.proofs.Words.{IsShownWorld, begun, GivesAt, IsSteadyWorld, MachineGives, stage_of, Stage, IsTidy, is_tidy_record}
use Rattle.qs_session_channels.specs.Network.{with_at}
use Rattle.qs_node_step.specs.declared.event.Event.{Event}
use Rattle.qs_world.specs.Moves.{Step, Meet}
use Rattle.qs_world.specs.Runs.{Run}
use Rattle.qs_world.specs.World.{World}
use Rattle.qs_world_refine.specs.EveryRun.{EveryLogGrows, GrewFrom, is_named_record}
use Rattle.qs_world_refine.proofs.MoveGoes.{StepMay, step_may}
use Rattle.qs_world_refine.proofs.PastRecords.{record_fits}
use Rattle.qs_world_refine.proofs.SaysOn.{append_three}
use Rattle.qs_world_refine.proofs.Sending.{append_nil}
use Rattle.qs_world_refine.proofs.SoundBegin.{all_implied}
use Rattle.qs_world_refine.proofs.SoundParts.{and_both}
use Rattle.qs_world_refine.proofs.SteadyMays.{event_fits}
use Rattle.qs_world_refine.proofs.SteadySteps.{step_tidy, d}
use Rattle.qs_world_refine.proofs.EveryRunShown.{start_shown}
use Rattle.qs_world_refine.proofs.ShownBegins.{each_begun_shown}
use Rattle.qs_world_refine.proofs.ShownMoves.{move_shown, shown_gives}

abbrev AllGrew : Opening → World → Type 0
AllGrew o world = (n : ℕ) → n < world.size → GrewFrom (o.logs n) (world.hosts n)

-- one host changes
grew_with : (o : Opening) (world after : World) (n : ℕ) (host : Host) → after.size ≡ world.size → ((k : ℕ) → after.hosts k ≡ with_at world.hosts n host k) → (n < world.size → GrewFrom (o.logs n) host) → AllGrew o world → AllGrew o after
grew_with o world after n host sized hosts own old k low = subst (λ (h : Host). GrewFrom (o.logs k) h) (sym (hosts k)) (by (subst (λ (s : ℕ). k < s) sized low) (k == n) refl)
  where
    by : k < world.size → (b : Bool) → (k == n) ≡ b → GrewFrom (o.logs k) (if b then host else world.hosts k)
    by low true same = subst (λ (j : ℕ). GrewFrom (o.logs j) host) (sym (eqb-true k n same)) (own (subst (λ (j : ℕ). j < world.size) (eqb-true k n same) low))
    by low false apart = old k low

-- records that name transactions come behind
module _ (old : List Record) (host : Host) (grew : GrewFrom old host) where
  none_waits : (node : Host) → node.log ≡ host.log → node.waiting ≡ [] → GrewFrom old node
  none_waits node same none = record { more = grew.more; is = same ∙ grew.is; named = grew.named; waiting = ap (λ (l : List Record). list_all is_named_record l) none }

  forced : (node : Host) (records : List Record) → node.log ≡ host.log ++ (host.waiting ++ records) → node.waiting ≡ [] → list_all is_named_record records ≡ true → GrewFrom old node
  forced node records same none named = record {
    more = grew.more ++ (host.waiting ++ records);
    is = same ∙ (ap (λ (l : List Record). l ++ (host.waiting ++ records)) grew.is ∙ append_three old grew.more (host.waiting ++ records));
    named = list_all-append is_named_record grew.more (host.waiting ++ records) ∙ rw (grew.named) (list_all-append is_named_record host.waiting records ∙ rw (grew.waiting, named) refl);
    waiting = ap (λ (l : List Record). list_all is_named_record l) none;
  }

  unforced : (node : Host) (records : List Record) → node.log ≡ host.log → node.waiting ≡ host.waiting ++ records → list_all is_named_record records ≡ true → GrewFrom old node
  unforced node records same waits named = record {
    more = grew.more;
    is = same ∙ grew.is;
    named = grew.named;
    waiting = ap (λ (l : List Record). list_all is_named_record l) waits ∙ (list_all-append is_named_record host.waiting records ∙ rw (grew.waiting, named) refl);
  }

-- ---- a step

module _ (world : World) (steady : IsSteadyWorld world) (n stamp free : ℕ) (source : Source) (event : Event) (is : event_of world n stamp source ≡ Some event) (low : n < world.size) (up : world.channels.up n ≡ true)
    (gives : MachineGives event (begun (world.hosts n).node free)) where
  abbrev host : Host
  host = world.hosts n

  abbrev out : Effects
  out = effects_of host.node event free

  pub records_named : list_all is_named_record out.records ≡ true
  records_named = by (step_tidy world steady n free low up event (event_fits world steady n free low up stamp source event is) gives)
    where
      each : (s : Stage) → ((tid : Tid) → s.past tid ≡ true → names_transaction tid ≡ true) → list_all (is_tidy_record s) (step_work host.node event free).out.records ≡ true → list_all is_named_record out.records ≡ true
      each s past = all_implied (is_tidy_record s) is_named_record (λ rec fits. past (tid_of rec) (record_fits s.past s.setting.node rec fits)) (step_work host.node event free).out.records

      by : (IsTidy (stage_of world n) (step_work host.node event free) ⊎ IsTidy (d world steady n free low up) (step_work host.node event free)) → list_all is_named_record out.records ≡ true
      by (inl t) = each (stage_of world n) (λ tid past. (and_both (names_transaction tid) _ past).0) t.out.records
      by (inr t) = each (d world steady n free low up) (λ tid past. (and_both (names_transaction tid) _ past).0) t.out.records

  module _ (old : List Record) (grew : GrewFrom old host) where
    stepped_grew : GrewFrom old (stepped_host stamp (after_step host.node event free) out host)
    stepped_grew = by out.force refl
      where
        by : (b : Bool) → out.force ≡ b → GrewFrom old (stepped_host stamp (after_step host.node event free) out host)
        by true force = forced old host grew (stepped_host stamp (after_step host.node event free) out host) out.records (ap (λ (f : Bool). if f then host.log ++ (host.waiting ++ out.records) else host.log) force) (ap (λ (f : Bool). if f then [] else host.waiting ++ out.records) force) records_named
        by false force = unforced old host grew (stepped_host stamp (after_step host.node event free) out host) out.records (ap (λ (f : Bool). if f then host.log ++ (host.waiting ++ out.records) else host.log) force) (ap (λ (f : Bool). if f then [] else host.waiting ++ out.records) force) records_named

    cut_grew : (is_kept : Bool) → GrewFrom old (stopped_host stamp (cut_log host is_kept out) host)
    cut_grew false = none_waits old host grew (stopped_host stamp (cut_log host false out) host) refl refl
    cut_grew true = by out.force refl
      where
        by : (b : Bool) → out.force ≡ b → GrewFrom old (stopped_host stamp (cut_log host true out) host)
        by true force = forced old host grew (stopped_host stamp (cut_log host true out) host) out.records (ap (λ (f : Bool). if f then host.log ++ (host.waiting ++ out.records) else host.log) force) refl records_named
        by false force = none_waits old host grew (stopped_host stamp (cut_log host true out) host) (ap (λ (f : Bool). if f then host.log ++ (host.waiting ++ out.records) else host.log) force) refl

-- ---- each move, and each run

move_grew : (o : Opening) (world : World) (move : Move) → may_move world move ≡ true → IsShownWorld world → AllGrew o world → AllGrew o (moved move world)
move_grew o world (Step n stamp free source) may is old = by (event_of world n stamp source) refl
  where
    its : StepMay world n source
    its = step_may world n stamp source may

    by : (found : Option Event) → event_of world n stamp source ≡ found → AllGrew o (step_with world n stamp free source found)
    by None none = old
    by (Some event) came = grew_with o world (step_with world n stamp free source (Some event)) n (stepped_host stamp (after_step (world.hosts n).node event free) (effects_of (world.hosts n).node event free) (world.hosts n)) refl (λ k. refl)
        (λ low. stepped_grew world is.steady n stamp free source event came its.low its.runs (gives event came) (o.logs n) (old n low)) old
      where
        gives : (event : Event) → event_of world n stamp source ≡ Some event → MachineGives event (begun (world.hosts n).node free)
        gives event came = subst (λ (found : Option Event). GivesAt world n free found) came (shown_gives world (Step n stamp free source) may is)
move_grew o world (Cut n stamp free source is_kept cause) may is old = by (event_of world n stamp source) refl
  where
    its : StepMay world n source
    its = step_may world n stamp source (and_both (may_step world n stamp source) (is_crash cause) may).0

    by : (found : Option Event) → event_of world n stamp source ≡ found → AllGrew o (cut_with world n stamp free is_kept cause found)
    by None none = old
    by (Some event) came = grew_with o world (cut_with world n stamp free is_kept cause (Some event)) n (stopped_host stamp (cut_log (world.hosts n) is_kept (effects_of (world.hosts n).node event free)) (world.hosts n)) refl (λ k. refl)
        (λ low. cut_grew world is.steady n stamp free source event came its.low its.runs (gives event came) (o.logs n) (old n low) is_kept) old
      where
        gives : (event : Event) → event_of world n stamp source ≡ Some event → MachineGives event (begun (world.hosts n).node free)
        gives event came = subst (λ (found : Option Event). GivesAt world n free found) came (shown_gives world (Cut n stamp free source is_kept cause) may is)
move_grew o world (Stop n stamp cause) may is old = grew_with o world (stopped world n stamp cause (world.hosts n).log) n (stopped_host stamp (world.hosts n).log (world.hosts n)) refl (λ k. refl)
    (λ low. none_waits (o.logs n) (world.hosts n) (old n low) (stopped_host stamp (world.hosts n).log (world.hosts n)) refl refl) old
move_grew o world (Rise n stamp inc) may is old = grew_with o world (moved (Rise n stamp inc) world) n (risen_host stamp inc (recovered_of (world.hosts n).log) (world.hosts n)) refl (λ k. refl)
    (λ low. record { more = (old n low).more; is = (old n low).is; named = (old n low).named; waiting = (old n low).waiting }) old
move_grew o world (Meet n stamp m inc) may is old = grew_with o world (moved (Meet n stamp m inc) world) n (record (world.hosts n) { stamp = stamp }) refl (λ k. refl)
    (λ low. record { more = (old n low).more; is = (old n low).is; named = (old n low).named; waiting = (old n low).waiting }) old

run_grew : (o : Opening) (moves : List Move) (old new : World) → Run old moves new → IsShownWorld old → AllGrew o old → AllGrew o new
run_grew o [] old new run is grew = subst (λ (world : World). AllGrew o world) (sym run) grew
run_grew o (move ∷ moves) old new run is grew = run_grew o moves (moved move old) new run.1 (move_shown old move run.0 is (each_begun_shown old move run.0 is)) (move_grew o old move run.0 is grew)

pub every_log_grows : EveryLogGrows
every_log_grows o moves world opens run = run_grew o moves (start o) world run (start_shown o opens) (λ n low. record { more = []; is = sym (append_nil (o.logs n)); named = refl; waiting = refl })
