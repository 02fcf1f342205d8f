-- Whom a Commit in its log names a node that runs is to tell, and each log can be taken up whole: where a world begins, and after each move.
use Rattle.qs_world_refine.proofs.Words.{◌≡◌, ℕ, ◌<◌, ◌==◌, ◌&&◌, Bool, true, false, List, [], ◌∷◌, ◌++◌, Option, Some, None, refl, sym, ap, subst, ◌∙◌, if◌then◌else◌, arith, not, eqb-true, not-true, nat_tests, CrashCause, is_crash, Record, recovery, no_kept, recovered_of, after_step, effects_of, Effects, Source, Cut, Stop, Rise, event_of, taken_by, step_with, cut_with, cut_log, log_after, stepped_host, stopped, stopped_host, reopened, risen_host, may_step, moved, are_unended, is_committed_at_home}
use Rattle.qs_world_refine.proofs.Words.{is_earlier, is_list, is_record, is_whole_log, Host, start, each_is, list_all, list_all-append, NodeNo, Tid, AreListed, lists_others, begun, IsSteadyWorld, MachineGives, GivesAt}
use Rattle.qs_session_channels.specs.Network.{with_at}
use Rattle.qs_node_step.specs.declared.event.Event.{Event}
use Rattle.qs_world.specs.Moves.{Step, Meet}
use Rattle.qs_world.specs.Openings.{has_node}
use Rattle.qs_world.specs.World.{World}
use Rattle.qs_world_refine.specs.Listed.{IsListedWorld, StartListed, MoveListed}
use Rattle.qs_record.specs.declared.record.Record.TheVariants as records
use Rattle.qs_world_refine.specs.Lists.{AreTaken}
use Rattle.qs_world_refine.proofs.MoveGoes.{StepMay, step_may}
use Rattle.qs_world_refine.proofs.Moving.{up_taken}
use Rattle.qs_world_refine.proofs.PastRecords.{EachPast, move_past, start_past}
use Rattle.qs_world_refine.proofs.Posted.{up_all}
use Rattle.qs_world_refine.proofs.SaidMoves.{log_same}
use Rattle.qs_world_refine.proofs.SaidNames.{opening_left}
use Rattle.qs_world_refine.proofs.SaidSteps.{step_lists, step_others, step_whole}
use Rattle.qs_world_refine.proofs.SaysOn.{append_three}
use Rattle.qs_world_refine.proofs.Sending.{append_nil}
use Rattle.qs_world_refine.proofs.SoundParts.{and_both}
use Rattle.qs_world_refine.proofs.SteadyBegins.{comes_may, comes_new}
use Rattle.qs_world_refine.proofs.SteadyMays.{event_fits}
use Rattle.qs_world_refine.proofs.TakenLists.{opened_lists}

-- ---- one host changes

pub listed_with : (world after : World) (n : ℕ) (host : Host) → after.size ≡ world.size → ((k : ℕ) → after.hosts k ≡ with_at world.hosts n host k) → ((k : ℕ) → (k == n) ≡ false → after.channels.up k ≡ true → world.channels.up k ≡ true)
    → (n < world.size → after.channels.up n ≡ true → AreListed host.node (recovery (host.log ++ host.waiting))) → (n < world.size → AreTaken (recovery host.log))
    → (n < world.size → is_whole_log (recovery (host.log ++ host.waiting)) ≡ true) → (n < world.size → is_whole_log (recovery host.log) ≡ true)
    → (n < world.size → list_all lists_others (host.log ++ host.waiting) ≡ true) → EachPast after → IsListedWorld world → IsListedWorld after
listed_with world after n host sized hosts up_is now log whole whole_log others past is = record {
  past = past;
  nodes = λ k low up. subst (λ (h : Host). AreListed h.node (recovery (h.log ++ h.waiting))) (sym (hosts k)) (node_at k (subst (λ (s : ℕ). k < s) sized low) up (k == n) refl);
  logs = λ k low. subst (λ (h : Host). AreTaken (recovery h.log)) (sym (hosts k)) (log_at k (subst (λ (s : ℕ). k < s) sized low) (k == n) refl);
  whole = λ k low. subst (λ (h : Host). is_whole_log (recovery (h.log ++ h.waiting)) ≡ true) (sym (hosts k)) (whole_at k (subst (λ (s : ℕ). k < s) sized low) (k == n) refl);
  others = λ k low. subst (λ (h : Host). list_all lists_others (h.log ++ h.waiting) ≡ true) (sym (hosts k)) (others_at k (subst (λ (s : ℕ). k < s) sized low) (k == n) refl);
  whole_logs = λ k low. subst (λ (h : Host). is_whole_log (recovery h.log) ≡ true) (sym (hosts k)) (whole_log_at k (subst (λ (s : ℕ). k < s) sized low) (k == n) refl);
}
  where
    node_at : (k : ℕ) → k < world.size → after.channels.up k ≡ true → (b : Bool) → (k == n) ≡ b → AreListed (if b then host else world.hosts k).node (recovery ((if b then host else world.hosts k).log ++ (if b then host else world.hosts k).waiting))
    node_at k low up true same = let it : k ≡ n = eqb-true k n same in now (subst (λ (j : ℕ). j < world.size) it low) (subst (λ (j : ℕ). after.channels.up j ≡ true) it up)
    node_at k low up false apart = is.nodes k low (up_is k apart up)

    log_at : (k : ℕ) → k < world.size → (b : Bool) → (k == n) ≡ b → AreTaken (recovery (if b then host else world.hosts k).log)
    log_at k low true same = log (subst (λ (j : ℕ). j < world.size) (eqb-true k n same) low)
    log_at k low false apart = is.logs k low

    whole_at : (k : ℕ) → k < world.size → (b : Bool) → (k == n) ≡ b → is_whole_log (recovery ((if b then host else world.hosts k).log ++ (if b then host else world.hosts k).waiting)) ≡ true
    whole_at k low true same = whole (subst (λ (j : ℕ). j < world.size) (eqb-true k n same) low)
    whole_at k low false apart = is.whole k low

    whole_log_at : (k : ℕ) → k < world.size → (b : Bool) → (k == n) ≡ b → is_whole_log (recovery (if b then host else world.hosts k).log) ≡ true
    whole_log_at k low true same = whole_log (subst (λ (j : ℕ). j < world.size) (eqb-true k n same) low)
    whole_log_at k low false apart = is.whole_logs k low

    others_at : (k : ℕ) → k < world.size → (b : Bool) → (k == n) ≡ b → list_all lists_others ((if b then host else world.hosts k).log ++ (if b then host else world.hosts k).waiting) ≡ true
    others_at k low true same = others (subst (λ (j : ℕ). j < world.size) (eqb-true k n same) low)
    others_at k low false apart = is.others k low

-- what holds of records and of those behind them holds of these
front_of : {A : Type 0} (p : A → Bool) (xs ys : List A) → list_all p (xs ++ ys) ≡ true → list_all p xs ≡ true
front_of p xs ys all = (and_both (list_all p xs) (list_all p ys) (sym (list_all-append p xs ys) ∙ all)).0

-- ---- a step

module _ (world : World) (steady : IsSteadyWorld world) (listed : IsListedWorld world) (n stamp free : ℕ) (source : Source) (event : Event) (is : event_of world n stamp source ≡ Some event) (low : n < world.size) (up : world.channels.up n ≡ true)
    (gives : MachineGives event (begun (world.hosts n).node free)) where
  abbrev host : Host
  host = world.hosts n

  abbrev out : Effects
  out = effects_of host.node event free

  -- with all records
  whole : AreListed (after_step host.node event free) (recovery ((host.log ++ host.waiting) ++ out.records))
  whole = step_lists host.node event free (host.log ++ host.waiting) (comes_may world steady n free low up event (event_fits world steady n free low up stamp source event is) gives) (comes_new world steady n free low up event)
      (steady.sound n low).node ((steady.sound n low).runs up) (listed.nodes n low up)

  -- and it can be taken up whole
  all_whole : is_whole_log (recovery ((host.log ++ host.waiting) ++ out.records)) ≡ true
  all_whole = step_whole host.node event free (host.log ++ host.waiting) (comes_may world steady n free low up event (event_fits world steady n free low up stamp source event is) gives) (comes_new world steady n free low up event)
      (steady.sound n low).node ((steady.sound n low).runs up) (listed.whole n low)

  log_whole : is_whole_log (recovery (log_after host out)) ≡ true
  log_whole = by out.force
    where
      by : (b : Bool) → is_whole_log (recovery (if b then host.log ++ (host.waiting ++ out.records) else host.log)) ≡ true
      by true = subst (λ (l : List Record). is_whole_log (recovery l) ≡ true) (append_three host.log host.waiting out.records) all_whole
      by false = listed.whole_logs n low

  all_others : list_all lists_others ((host.log ++ host.waiting) ++ out.records) ≡ true
  all_others = list_all-append lists_others (host.log ++ host.waiting) out.records ∙ rw (listed.others n low, step_others host.node event free (comes_may world steady n free low up event (event_fits world steady n free low up stamp source event is) gives) (comes_new world steady n free low up event) (steady.sound n low).node) refl

  log_others : list_all lists_others (log_after host out) ≡ true
  log_others = by out.force
    where
      by : (b : Bool) → list_all lists_others (if b then host.log ++ (host.waiting ++ out.records) else host.log) ≡ true
      by true = subst (λ (l : List Record). list_all lists_others l ≡ true) (append_three host.log host.waiting out.records) all_others
      by false = front_of lists_others host.log host.waiting (listed.others n low)

  log_taken : AreTaken (recovery (log_after host out))
  log_taken = by out.force
    where
      by : (b : Bool) → AreTaken (recovery (if b then host.log ++ (host.waiting ++ out.records) else host.log))
      by true = subst (λ (l : List Record). AreTaken (recovery l)) (append_three host.log host.waiting out.records) whole.taken
      by false = listed.logs n low

  step_listed : EachPast (step_with world n stamp free source (Some event)) → IsListedWorld (step_with world n stamp free source (Some event))
  step_listed past = listed_with world (step_with world n stamp free source (Some event)) n (stepped_host stamp (after_step host.node event free) out host) refl (λ k. refl)
      (λ k apart on. ap (λ (f : ℕ → Bool). f k) (sym up_is) ∙ on)
      (λ _ _. subst (λ (l : List Record). AreListed (after_step host.node event free) (recovery l)) (sym (log_same out.force host.log host.waiting out.records)) whole) (λ _. log_taken)
      (λ _. subst (λ (l : List Record). is_whole_log (recovery l) ≡ true) (sym (log_same out.force host.log host.waiting out.records)) all_whole) (λ _. log_whole)
      (λ _. subst (λ (l : List Record). list_all lists_others l ≡ true) (sym (log_same out.force host.log host.waiting out.records)) all_others) past listed
    where
      up_is : (step_with world n stamp free source (Some event)).channels.up ≡ world.channels.up
      up_is = up_all n stamp out.messages (taken_by world n source) ∙ up_taken world n source

  cut_taken : (is_kept : Bool) → AreTaken (recovery (cut_log host is_kept out))
  cut_taken true = log_taken
  cut_taken false = listed.logs n low

  cut_whole : (is_kept : Bool) → is_whole_log (recovery (cut_log host is_kept out)) ≡ true
  cut_whole true = log_whole
  cut_whole false = listed.whole_logs n low

  cut_others : (is_kept : Bool) → list_all lists_others (cut_log host is_kept out) ≡ true
  cut_others true = log_others
  cut_others false = front_of lists_others host.log host.waiting (listed.others n low)

-- ---- a node stops

stop_listed : (world : World) (n stamp : ℕ) (cause : CrashCause) (log : List Record) → (n < world.size → AreTaken (recovery log)) → (n < world.size → is_whole_log (recovery log) ≡ true) → (n < world.size → list_all lists_others log ≡ true) → EachPast (stopped world n stamp cause log) → IsListedWorld world → IsListedWorld (stopped world n stamp cause log)
stop_listed world n stamp cause log taken whole others past is = listed_with world (stopped world n stamp cause log) n (stopped_host stamp log (world.hosts n)) refl (λ k. refl) (λ k apart on. still k apart on) (λ low on. absurd (off on)) taken
    (λ low. subst (λ (l : List Record). is_whole_log (recovery l) ≡ true) (sym (append_nil log)) (whole low)) whole (λ low. subst (λ (l : List Record). list_all lists_others l ≡ true) (sym (append_nil log)) (others low)) past is
  where
    still : (k : ℕ) → (k == n) ≡ false → (if k == n then false else world.channels.up k) ≡ true → world.channels.up k ≡ true
    still k apart on = rw apart at on

    off : (if n == n then false else world.channels.up n) ≡ true → ⊥
    off on = picked (n == n) (grind (arith, nat_tests)) on
      where
        picked : (b : Bool) → b ≡ true → (if b then false else world.channels.up n) ≡ true → ⊥
        picked true is on = cc (on)
        picked false is on = cc (is)

-- ---- each move

pub start_listed : StartListed
start_listed o opens taken = record {
  nodes = λ n low up. subst (λ (l : List Record). AreListed ((start o).hosts n).node (recovery l)) (sym (append_nil (o.logs n)))
      (opened_lists o.alloc (o.settings n) no_kept (o.logs n) (opening_left (recovery (o.logs n)) (each_is o.size (λ k. are_unended (recovery (o.logs k))) opens.unended n low)) (taken n low));
  logs = taken;
  past = start_past o opens;
  whole = λ n low. subst (λ (l : List Record). is_whole_log (recovery l) ≡ true) (sym (append_nil (o.logs n))) (opened n low);
  whole_logs = opened;
  others = λ n low. subst (λ (l : List Record). list_all lists_others l ≡ true) (sym (append_nil (o.logs n))) (each_others n (o.logs n) (each_is o.size (λ k. list_all (is_record o k) (o.logs k)) opens.logs n low));
}
  where
    opened : (n : ℕ) → n < o.size → is_whole_log (recovery (o.logs n)) ≡ true
    opened n low = each_is o.size (λ k. is_whole_log (recovery (o.logs k))) opens.whole n low

    names_off : (n : ℕ) (tid : Tid) (told : List NodeNo) → is_list n tid told ≡ true → not (has_node told tid.home) ≡ true
    names_off n tid [] is = refl
    names_off n tid (first ∷ others) is = (and_both (tid.home.0 == n) (not (has_node (first ∷ others) tid.home)) is).1

    others_in : (n : ℕ) (rec : Record) → is_record o n rec ≡ true → lists_others rec ≡ true
    others_in n (records.Commit tid told) is = names_off n tid told (and_both (is_committed_at_home o tid) (is_list n tid told) (and_both (is_earlier o tid) (is_committed_at_home o tid && is_list n tid told) is).1).1
    others_in n (records.Prepare tid server covers changes) is = refl
    others_in n (records.Aborted tid) is = refl
    others_in n (records.End tid) is = refl

    each_others : (n : ℕ) (log : List Record) → list_all (is_record o n) log ≡ true → list_all lists_others log ≡ true
    each_others n [] all = refl
    each_others n (rec ∷ log) all = rw (others_in n rec (and_both (is_record o n rec) (list_all (is_record o n) log) all).0, each_others n log (and_both (is_record o n rec) (list_all (is_record o n) log) all).1) refl

pub move_listed : MoveListed
move_listed world (Step n stamp free source) may gives steady is = by (event_of world n stamp source) refl gives (move_past world (Step n stamp free source) may gives steady is.past)
  where
    its : StepMay world n source
    its = step_may world n stamp source may

    by : (o : Option Event) → event_of world n stamp source ≡ o → GivesAt world n free o → EachPast (step_with world n stamp free source o) → IsListedWorld (step_with world n stamp free source o)
    by None none gives past = is
    by (Some event) came gives past = step_listed world steady is n stamp free source event came its.low its.runs gives past
move_listed world (Cut n stamp free source is_kept cause) may gives steady is = by (event_of world n stamp source) refl gives (move_past world (Cut n stamp free source is_kept cause) may gives steady is.past)
  where
    its : StepMay world n source
    its = step_may world n stamp source (and_both (may_step world n stamp source) (is_crash cause) may).0

    by : (o : Option Event) → event_of world n stamp source ≡ o → GivesAt world n free o → EachPast (cut_with world n stamp free is_kept cause o) → IsListedWorld (cut_with world n stamp free is_kept cause o)
    by None none gives past = is
    by (Some event) came gives past = stop_listed world n stamp cause (cut_log (world.hosts n) is_kept (effects_of (world.hosts n).node event free)) (λ _. cut_taken world steady is n stamp free source event came its.low its.runs gives is_kept) (λ _. cut_whole world steady is n stamp free source event came its.low its.runs gives is_kept) (λ _. cut_others world steady is n stamp free source event came its.low its.runs gives is_kept) past is
move_listed world (Stop n stamp cause) may gives steady is = stop_listed world n stamp cause (world.hosts n).log (λ low. is.logs n low) (λ low. is.whole_logs n low) (λ low. front_of lists_others (world.hosts n).log (world.hosts n).waiting (is.others n low)) (move_past world (Stop n stamp cause) may gives steady is.past) is
move_listed world (Rise n stamp inc) may gives steady is = listed_with world (moved (Rise n stamp inc) world) n (risen_host stamp inc (recovered_of (world.hosts n).log) (world.hosts n)) refl (λ k. refl) (λ k apart on. still k apart on)
    (λ low on. subst (λ (l : List Record). AreListed (reopened inc (recovered_of (world.hosts n).log) (world.hosts n).node) (recovery l)) (sym (all_logged low)) (opened_lists (world.hosts n).node.manager.alloc (record (world.hosts n).node.setting { inc = inc }) (world.hosts n).node.kept.saved (world.hosts n).log (steady.nodes n low).unended (is.logs n low)))
    (λ low. is.logs n low) (λ low. is.whole n low) (λ low. is.whole_logs n low) (λ low. is.others n low) (move_past world (Rise n stamp inc) may gives steady is.past) is
  where
    all_logged : n < world.size → (world.hosts n).log ++ (world.hosts n).waiting ≡ (world.hosts n).log
    all_logged low = ap (λ (l : List Record). (world.hosts n).log ++ l) ((steady.sound n low).stopped (not-true (world.channels.up n) (and_both (not (world.channels.up n)) _ may).0)) ∙ append_nil (world.hosts n).log

    still : (k : ℕ) → (k == n) ≡ false → (if k == n then true else world.channels.up k) ≡ true → world.channels.up k ≡ true
    still k apart on = rw apart at on
move_listed world (Meet n stamp m inc) may gives steady is = listed_with world (moved (Meet n stamp m inc) world) n (record (world.hosts n) { stamp = stamp }) refl (λ k. refl) (λ k apart on. on) (λ low on. is.nodes n low on) (λ low. is.logs n low) (λ low. is.whole n low) (λ low. is.whole_logs n low) (λ low. is.others n low) (move_past world (Meet n stamp m inc) may gives steady is.past) is
