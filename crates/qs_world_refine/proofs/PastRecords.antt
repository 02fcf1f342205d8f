-- Each record of a log is of a transaction of an incarnation that its home had, where that is a node of the run: where a world begins, and after each move.
use Rattle.qs_world_refine.proofs.Words.{◌≡◌, ℕ, ◌<◌, ◌≤◌, ◌==◌, ◌&&◌, ◌||◌, ◌⊎◌, ◌+◌, ◌++◌, not, nat_lt, nat_le, inl, inr, Bool, true, false, List, Option, Some, None, refl, sym, ap, subst, ◌∙◌, if◌then◌else◌, arith, list_all, eqb-true, nat_tests, list_all-append, NodeNo, Tid, CrashCause, is_crash, Record, names_transaction, tid_of, recovered_of, after_step, effects_of, step_work, Move, Source, Cut, Stop, Rise, event_of, taken_by, step_with, cut_with, cut_log, may_move, may_step, moved}
use Rattle.qs_world_refine.proofs.Words.{is_in_order, stepped_host, stopped, stopped_host, risen_host, IsOpening, is_earlier, is_record, Host, Opening, start, each_is, begun_among, count_in, fits_record, inc_in, past_among, begun, IsSteadyWorld, MachineGives, GivesAt, MachineMoves, stage_of, Stage, IsTidy, is_tidy_record}
use Rattle.qs_session_channels.specs.Network.{with_at}
use Rattle.qs_record.specs.declared.record.Record.TheVariants as records
use Rattle.qs_node_step.specs.declared.event.Event.{Event}
use Rattle.qs_world.specs.Moves.{Step, Meet}
use Rattle.qs_world.specs.World.{World, inc_of}
use Rattle.qs_world_refine.specs.Listed.{is_past_tid, is_past_record}
use Rattle.qs_world_refine.proofs.MoveGoes.{StepMay, step_may}
use Rattle.qs_world_refine.proofs.Moving.{inc_taken}
use Rattle.qs_world_refine.proofs.Posted.{inc_all}
use Rattle.qs_world_refine.proofs.SaidMoves.{log_same}
use Rattle.qs_world_refine.proofs.SaysOn.{append_three}
use Rattle.qs_world_refine.proofs.Sending.{append_nil}
use Rattle.qs_world_refine.proofs.SoundBegin.{all_implied}
use Rattle.qs_world_refine.proofs.SoundParts.{and_both}
use Rattle.qs_world_refine.proofs.SteadyMays.{event_fits}
use Rattle.qs_world_refine.proofs.SteadySteps.{step_tidy, d, bump}
use Rattle.qs_base_lemmas.proofs.Tests.{eq_ge}

abbrev pub ArePast : World → List Record → Type 0
ArePast world log = list_all (is_past_record world) log ≡ true

-- ---- later worlds

later_tid : (world after : World) (tid : Tid) → after.size ≡ world.size → ((k : ℕ) → world.channels.inc k ≤ after.channels.inc k) → is_past_tid world tid ≡ true → is_past_tid after tid ≡ true
later_tid world after tid sized grows is = by (nat_lt tid.home.0 world.size) (nat_lt tid.home.0 after.size) (ap (λ (s : ℕ). nat_lt tid.home.0 s) sized) (nat_le tid.inc (world.channels.inc tid.home.0)) refl is
  where
    more : tid.inc ≤ world.channels.inc tid.home.0 → world.channels.inc tid.home.0 ≤ after.channels.inc tid.home.0 → nat_le tid.inc (after.channels.inc tid.home.0) ≡ true
    more a b = grind (arith, nat_tests, a, b)

    by : (a b : Bool) → b ≡ a → (c : Bool) → nat_le tid.inc (world.channels.inc tid.home.0) ≡ c → (not a || c) ≡ true → (not b || nat_le tid.inc (after.channels.inc tid.home.0)) ≡ true
    by true b same true known is = rw (same, more (grind (arith, nat_tests, known)) (grows tid.home.0)) refl
    by true b same false known is = absurd (cc (is))
    by false b same c known is = rw same refl

pub later_past : (world after : World) → after.size ≡ world.size → ((k : ℕ) → world.channels.inc k ≤ after.channels.inc k) → (log : List Record) → ArePast world log → ArePast after log
later_past world after sized grows log = all_implied (is_past_record world) (is_past_record after) (λ rec. later_tid world after (tid_of rec) sized grows) log

front_past : (world : World) (xs ys : List Record) → ArePast world (xs ++ ys) → ArePast world xs
front_past world xs ys all = (and_both (list_all (is_past_record world) xs) (list_all (is_past_record world) ys) (sym (list_all-append (is_past_record world) xs ys) ∙ all)).0

-- ---- what may be known is of such an incarnation

known_past : (world : World) (count : ℕ → ℕ) → ((k : ℕ) → world.channels.up k ≡ false → count k ≡ 0) → (tid : Tid) → past_among world.size (inc_in world) count tid ≡ true → is_past_tid world tid ≡ true
known_past world count zero tid is = by (nat_lt tid.home.0 world.size) its.0 its.1
  where
    its : (names_transaction tid ≡ true) × ((not (nat_lt tid.home.0 world.size) || begun_among world.size (inc_in world) count tid) ≡ true)
    its = and_both (names_transaction tid) (not (nat_lt tid.home.0 world.size) || begun_among world.size (inc_in world) count tid) is

    at : (up : Bool) → world.channels.up tid.home.0 ≡ up → names_transaction tid ≡ true
        → (nat_lt tid.inc (if up then world.channels.inc tid.home.0 else world.channels.inc tid.home.0 + 1) || ((tid.inc == (if up then world.channels.inc tid.home.0 else world.channels.inc tid.home.0 + 1)) && nat_le tid.seq (count tid.home.0))) ≡ true
        → nat_le tid.inc (world.channels.inc tid.home.0) ≡ true
    at true on names so = grind (arith, nat_tests, so)
    at false off names so = let none : count tid.home.0 ≡ 0 = zero tid.home.0 off in grind (arith, nat_tests, names, so, none)

    by : (b : Bool) → names_transaction tid ≡ true → (not b || (names_transaction tid && (b && (nat_lt tid.inc (inc_in world tid.home.0) || ((tid.inc == inc_in world tid.home.0) && nat_le tid.seq (count tid.home.0)))))) ≡ true
        → (not b || nat_le tid.inc (world.channels.inc tid.home.0)) ≡ true
    by true names so = at (world.channels.up tid.home.0) refl names (and_both (names_transaction tid) _ so).1
    by false names so = refl

-- ---- the records of a step

pub record_fits : (past : Tid → Bool) (me : NodeNo) (rec : Record) → fits_record past me rec ≡ true → past (tid_of rec) ≡ true
record_fits past me (records.Prepare tid server covers changes) is = (and_both (past tid) _ is).0
record_fits past me (records.Commit tid told) is = (and_both (past tid) _ is).0
record_fits past me (records.Aborted tid) is = is
record_fits past me (records.End tid) is = is

module _ (world : World) (steady : IsSteadyWorld world) (n stamp free : ℕ) (source : Source) (event : Event) (is : event_of world n stamp source ≡ Some event) (low : n < world.size) (up : world.channels.up n ≡ true)
    (gives : MachineGives event (begun (world.hosts n).node free)) where
  records_past : ArePast world (effects_of (world.hosts n).node event free).records
  records_past = by (step_tidy world steady n free low up event (event_fits world steady n free low up stamp source event is) gives)
    where
      stopped_none : (k : ℕ) → world.channels.up k ≡ false → count_in world k ≡ 0
      stopped_none k off = rw off refl

      bumped_none : (k : ℕ) → world.channels.up k ≡ false → bump n (count_in world) k ≡ 0
      bumped_none k off = at (k == n) refl
        where
          at : (b : Bool) → (k == n) ≡ b → (if b then count_in world k + 1 else count_in world k) ≡ 0
          at true same = absurd (let on : world.channels.up k ≡ true = subst (λ (j : ℕ). world.channels.up j ≡ true) (sym (eqb-true k n same)) up in cc (on, off))
          at false apart = stopped_none k off

      each : (s : Stage) → ((tid : Tid) → s.past tid ≡ true → is_past_tid world tid ≡ true) → list_all (is_tidy_record s) (step_work (world.hosts n).node event free).out.records ≡ true → ArePast world (effects_of (world.hosts n).node event free).records
      each s past = all_implied (is_tidy_record s) (is_past_record world) (λ rec fits. past (tid_of rec) (record_fits s.past s.setting.node rec fits)) (step_work (world.hosts n).node event free).out.records

      by : (IsTidy (stage_of world n) (step_work (world.hosts n).node event free) ⊎ IsTidy (d world steady n free low up) (step_work (world.hosts n).node event free)) → ArePast world (effects_of (world.hosts n).node event free).records
      by (inl t) = each (stage_of world n) (known_past world (count_in world) stopped_none) t.out.records
      by (inr t) = each (d world steady n free low up) (known_past world (bump n (count_in world)) bumped_none) t.out.records

  module _ (old : ArePast world ((world.hosts n).log ++ (world.hosts n).waiting)) where
    all_past : ArePast world (((world.hosts n).log ++ (world.hosts n).waiting) ++ (effects_of (world.hosts n).node event free).records)
    all_past = list_all-append (is_past_record world) ((world.hosts n).log ++ (world.hosts n).waiting) (effects_of (world.hosts n).node event free).records ∙ rw (old, records_past) refl

    pub cut_past : (is_kept : Bool) → ArePast world (cut_log (world.hosts n) is_kept (effects_of (world.hosts n).node event free))
    cut_past true = by (effects_of (world.hosts n).node event free).force
      where
        by : (b : Bool) → ArePast world (if b then (world.hosts n).log ++ ((world.hosts n).waiting ++ (effects_of (world.hosts n).node event free).records) else (world.hosts n).log)
        by true = subst (λ (l : List Record). ArePast world l) (append_three (world.hosts n).log (world.hosts n).waiting (effects_of (world.hosts n).node event free).records) all_past
        by false = front_past world (world.hosts n).log (world.hosts n).waiting old
    cut_past false = front_past world (world.hosts n).log (world.hosts n).waiting old

-- ---- each move

abbrev pub EachPast : World → Type 0
EachPast world = (n : ℕ) → n < world.size → ArePast world ((world.hosts n).log ++ (world.hosts n).waiting)

-- one host changes
past_with : (world after : World) (n : ℕ) (host : Host) → after.size ≡ world.size → ((k : ℕ) → after.hosts k ≡ with_at world.hosts n host k) → ((k : ℕ) → world.channels.inc k ≤ after.channels.inc k)
    → (n < world.size → ArePast world (host.log ++ host.waiting)) → EachPast world → EachPast after
past_with world after n host sized hosts grows own old k low = subst (λ (h : Host). ArePast after (h.log ++ h.waiting)) (sym (hosts k)) (by (subst (λ (s : ℕ). k < s) sized low) (k == n) refl)
  where
    by : k < world.size → (b : Bool) → (k == n) ≡ b → ArePast after ((if b then host else world.hosts k).log ++ (if b then host else world.hosts k).waiting)
    by low true same = later_past world after sized grows (host.log ++ host.waiting) (own (subst (λ (j : ℕ). j < world.size) (eqb-true k n same) low))
    by low false apart = later_past world after sized grows ((world.hosts k).log ++ (world.hosts k).waiting) (old k low)

-- a node stops
past_stopped : (world : World) (n stamp : ℕ) (cause : CrashCause) (log : List Record) → (n < world.size → ArePast world log) → EachPast world → EachPast (stopped world n stamp cause log)
past_stopped world n stamp cause log own old = past_with world (stopped world n stamp cause log) n (stopped_host stamp log (world.hosts n)) refl (λ k. refl) (λ k. eq_ge _ _ refl) (λ low. subst (λ (l : List Record). ArePast world l) (sym (append_nil log)) (own low)) old

pub start_past : (o : Opening) → IsOpening o → EachPast (start o)
start_past o opens n low = subst (λ (l : List Record). ArePast (start o) l) (sym (append_nil (o.logs n))) (all_implied (is_record o n) (is_past_record (start o)) each (o.logs n) (each_is o.size (λ k. list_all (is_record o k) (o.logs k)) opens.logs n low))
  where
    earlier : (tid : Tid) → is_earlier o tid ≡ true → is_past_tid (start o) tid ≡ true
    earlier tid is = by (nat_lt tid.home.0 o.size) (nat_lt tid.inc (o.settings tid.home.0).inc) refl is
      where
        by : (a b : Bool) → nat_lt tid.inc (o.settings tid.home.0).inc ≡ b → (not a || b) ≡ true → (not a || nat_le tid.inc (o.settings tid.home.0).inc) ≡ true
        by true true less is = grind (arith, nat_tests, less)
        by true false less is = absurd (cc (is))
        by false b less is = refl

    each : (rec : Record) → is_record o n rec ≡ true → is_past_record (start o) rec ≡ true
    each (records.Prepare tid server covers changes) is = earlier tid (and_both (is_earlier o tid) _ is).0
    each (records.Commit tid told) is = earlier tid (and_both (is_earlier o tid) _ is).0
    each (records.Aborted tid) is = earlier tid is
    each (records.End tid) is = earlier tid is

pub move_past : (world : World) (move : Move) → may_move world move ≡ true → MachineMoves world move → IsSteadyWorld world → EachPast world → EachPast (moved move world)
move_past world (Step n stamp free source) may gives steady old = by (event_of world n stamp source) refl gives
  where
    its : StepMay world n source
    its = step_may world n stamp source may

    inc_is : (event : Event) → (step_with world n stamp free source (Some event)).channels.inc ≡ world.channels.inc
    inc_is event = inc_all n stamp (effects_of (world.hosts n).node event free).messages (taken_by world n source) ∙ inc_taken world n source

    by : (o : Option Event) → event_of world n stamp source ≡ o → GivesAt world n free o → EachPast (step_with world n stamp free source o)
    by None none gives = old
    by (Some event) came gives = past_with world (step_with world n stamp free source (Some event)) n (stepped_host stamp (after_step (world.hosts n).node event free) (effects_of (world.hosts n).node event free) (world.hosts n)) refl (λ k. refl)
        (λ k. eq_ge (world.channels.inc k) _ (ap (λ (f : ℕ → ℕ). f k) (inc_is event)))
        (λ low. subst (λ (l : List Record). ArePast world l) (sym (log_same (effects_of (world.hosts n).node event free).force (world.hosts n).log (world.hosts n).waiting (effects_of (world.hosts n).node event free).records))
        (all_past world steady n stamp free source event came its.low its.runs gives (old n its.low))) old
move_past world (Cut n stamp free source is_kept cause) may gives steady old = by (event_of world n stamp source) refl gives
  where
    its : StepMay world n source
    its = step_may world n stamp source (and_both (may_step world n stamp source) (is_crash cause) may).0

    by : (o : Option Event) → event_of world n stamp source ≡ o → GivesAt world n free o → EachPast (cut_with world n stamp free is_kept cause o)
    by None none gives = old
    by (Some event) came gives = past_stopped world n stamp cause (cut_log (world.hosts n) is_kept (effects_of (world.hosts n).node event free))
        (λ _. cut_past world steady n stamp free source event came its.low its.runs gives (old n its.low) is_kept) old
move_past world (Stop n stamp cause) may gives steady old = past_stopped world n stamp cause (world.hosts n).log (λ low. front_past world (world.hosts n).log (world.hosts n).waiting (old n low)) old
move_past world (Rise n stamp inc) may gives steady old = past_with world (moved (Rise n stamp inc) world) n (risen_host stamp inc (recovered_of (world.hosts n).log) (world.hosts n)) refl (λ k. refl) grows (λ low. old n low) old
  where
    later : world.channels.inc n ≤ inc
    later = grind (arith, nat_tests, (and_both (is_in_order world n stamp) (nat_lt (inc_of world n) inc) (and_both (not (world.channels.up n)) _ may).1).1)

    grows : (k : ℕ) → world.channels.inc k ≤ (if k == n then inc else world.channels.inc k)
    grows k = at (k == n) refl
      where
        at : (b : Bool) → (k == n) ≡ b → world.channels.inc k ≤ (if b then inc else world.channels.inc k)
        at true same = subst (λ (j : ℕ). world.channels.inc j ≤ inc) (sym (eqb-true k n same)) later
        at false apart = eq_ge _ _ refl
move_past world (Meet n stamp m inc) may gives steady old = past_with world (moved (Meet n stamp m inc) world) n (record (world.hosts n) { stamp = stamp }) refl (λ k. refl) (λ k. eq_ge _ _ refl) (λ low. old n low) old
