-- A node stops, in place of a step or in one whose batch is lost: the machine after the entry has the whole world after it.
use Rattle.qs_world_lawful.proofs.Words.{◌≡◌, ◌⊎◌, inl, inr, ℕ, ◌<◌, ◌==◌, ◌&&◌, ◌||◌, ◌++◌, not, Bool, true, false, List, [], ◌∷◌, ap, append-nil, length, Option, Some, None, refl, sym, subst, ◌∙◌, arith, if◌then◌else◌, is_some, nat_lt, nat_le, nat_tests, slice_get, CrashCause, elsewhere, ran_run, BookValue, crash_node, is_crash, broken, effect, Record, recovery, effects_of, Effects, Event, Source, event_of, is_later, may_move, moved, stamp_limit, stopped, stopped_host, entry_of, World, inc_of}
use Rattle.qs_world_lawful.proofs.Words.{is_next, Lasts, HoldsLogged, HoldsDown, HoldsNodeAt, HoldsNodeOf, HoldsWorld, eqb-true, and_parts, apart_turned}
use Rattle.qs_book_journal.specs.declared.entry.Act.TheVariants as acts
use Rattle.qs_book_machine.specs.Nodes as machine
use Rattle.qs_world.specs.Moves.{Cut, cut_log, cut_with, is_in_order, may_step}
use Rattle.qs_world_lawful.specs.CutLaws.{EachCutIsHeld, EachKeepsItsQuietBatch, IsCutSaid, IsQuietStep}
use Rattle.qs_world_lawful.specs.WorldLaws.{EachLosesItsBatch, EachStops, StopsWell}
use Rattle.qs_world_lawful.proofs.OtherNodes.{node_on}
use Rattle.qs_world_lawful.proofs.StopsWell.{at, stops_by, stops_own, u}

-- an order of stamps, and of nodes where these are one, goes on
pub back_by : (limit last0 last1 stamp n s k : ℕ) → (nat_lt stamp limit && (nat_lt last0 stamp || ((last0 == stamp) && not (nat_lt n last1)))) ≡ true → (nat_lt s limit && (nat_lt stamp s || ((stamp == s) && not (nat_lt k n)))) ≡ true → (nat_lt s limit && (nat_lt last0 s || ((last0 == s) && not (nat_lt k last1)))) ≡ true
back_by limit last0 last1 stamp n s k a b = grind (arith, nat_tests, a, b)

pub next_by : (limit size stamp n s k host : ℕ) → ((nat_lt k size && nat_lt s limit) && ((nat_lt stamp s || ((stamp == s) && nat_le n k)) && nat_le host s)) ≡ true → (nat_lt s limit && (nat_lt stamp s || ((stamp == s) && not (nat_lt k n)))) ≡ true
next_by limit size stamp n s k host a = grind (arith, nat_tests, a)

module _ (book : BookValue) (world : World) (n stamp : ℕ) (cause : CrashCause) (lasts : Lasts book) (h : HoldsWorld book world) (up : world.channels.up n ≡ true) (ordered : is_in_order world n stamp ≡ true) (crash : is_crash cause ≡ true) (disk : List Record)
    (owns : (broken book (entry_of n stamp (acts.Crash cause)) ≡ None) × HoldsNodeAt (effect book (entry_of n stamp (acts.Crash cause))) (stopped world n stamp cause disk) n) where
  abbrev now : BookValue
  now = effect book (entry_of n stamp (acts.Crash cause))

  abbrev next : World
  next = stopped world n stamp cause disk

  own : HoldsNodeAt now next n
  own = owns.1

  size_now : length now.nodes ≡ length book.nodes
  size_now = ran_run (entry_of n stamp (acts.Crash cause) ∷ []) book

  order_now : (k s : ℕ) → is_in_order next k s ≡ true → is_next s k now ≡ true
  order_now k s is = next_by stamp_limit world.size stamp n s k (next.hosts k).stamp is

  nodes_now : (k : ℕ) → k < world.size → HoldsNodeAt now next k
  nodes_now k low = by (k == n) refl
    where
      by : (b : Bool) → (k == n) ≡ b → HoldsNodeAt now next k
      by true near = subst (λ (j : ℕ). HoldsNodeAt now next j) (sym (eqb-true k n near)) own
      by false far = subst (λ (b : Bool). HoldsNodeOf now world.size k (inc_of world k) (if b then false else world.channels.up k) (if b then stopped_host stamp disk (world.hosts n) else world.hosts k)) (sym far)
          (node_on book stamp n now.place now.nodes k (elsewhere (crash_node book.place) book.nodes n k (apart_turned k n far)) size_now world.size (inc_of world k) (world.channels.up k) (world.hosts k) (h.nodes k low))

  pub stops_well : StopsWell book next n stamp cause
  stops_well = record {
    lawful = (owns.0, tt);
    holds = record { size = size_now ∙ h.size; order = order_now; nodes = nodes_now };
  }

-- ---- as moves of the world

-- what a log says that has nothing new: that on the disk, and with what waits for the next force
module _ (book : BookValue) (world : World) (n stamp : ℕ) (cause : CrashCause) (lasts : Lasts book) (h : HoldsWorld book world) (up : world.channels.up n ≡ true) (ordered : is_in_order world n stamp ≡ true) (crash : is_crash cause ≡ true) where
  same_state : (disk : List Record) → (u book world n stamp cause lasts h up ordered crash disk).log.state ≡ (at book world n stamp cause lasts h up ordered crash disk).state
  same_state disk = ap (λ (o : Option machine.NodeValue). elim o [ None ↦ (u book world n stamp cause lasts h up ordered crash disk).log.state | Some x ↦ x ]) (sym (u book world n stamp cause lasts h up ordered crash disk).log.there ∙ (at book world n stamp cause lasts h up ordered crash disk).there)

  pub as_on_disk : StopsWell book (stopped world n stamp cause (world.hosts n).log) n stamp cause
  as_on_disk = stops_well book world n stamp cause lasts h up ordered crash (world.hosts n).log
      (stops_own book world n stamp cause lasts h up ordered crash (world.hosts n).log
      (subst (λ (s : machine.NodeValue). HoldsLogged n book s (recovery (world.hosts n).log)) (same_state (world.hosts n).log) (u book world n stamp cause lasts h up ordered crash (world.hosts n).log).log.on_disk)
      (u book world n stamp cause lasts h up ordered crash (world.hosts n).log).on_disk)

  pub as_forced : StopsWell book (stopped world n stamp cause ((world.hosts n).log ++ (world.hosts n).waiting)) n stamp cause
  as_forced = stops_well book world n stamp cause lasts h up ordered crash whole
      (stops_own book world n stamp cause lasts h up ordered crash whole
      (subst (λ (s : machine.NodeValue). HoldsLogged n book s (recovery ((world.hosts n).log ++ (world.hosts n).waiting))) (same_state whole) (u book world n stamp cause lasts h up ordered crash whole).log.all)
      (u book world n stamp cause lasts h up ordered crash whole).said)
    where
      whole : List Record
      whole = (world.hosts n).log ++ (world.hosts n).waiting

  -- any log, where the machine has what it says
  pub as_said : (disk : List Record) → ((state : machine.NodeValue) → slice_get book.nodes n ≡ Some state → HoldsDown n (effect book (entry_of n stamp (acts.Crash cause))) (crash_node book.place state) (stopped_host stamp disk (world.hosts n)))
      → StopsWell book (stopped world n stamp cause disk) n stamp cause
  as_said disk down = stops_well book world n stamp cause lasts h up ordered crash disk
      (stops_by book world n stamp cause lasts h up ordered crash disk (down (at book world n stamp cause lasts h up ordered crash disk).state (at book world n stamp cause lasts h up ordered crash disk).there))

pub by_stop : EachStops
by_stop book world n stamp cause lasts h may =
    let one = and_parts (world.channels.up n) _ may in
    let two = and_parts (is_in_order world n stamp) (is_crash cause) one.1 in
    as_on_disk book world n stamp cause lasts h one.0 two.0 two.1

-- a step that is cut off
module _ (book : BookValue) (world : World) (n stamp free : ℕ) (source : Source) (kept : Bool) (cause : CrashCause) (lasts : Lasts book) (h : HoldsWorld book world) (may : may_move world (Cut n stamp free source kept cause) ≡ true) where
  record Cuts : Type 0 where
    up : world.channels.up n ≡ true
    ordered : is_in_order world n stamp ≡ true
    crash : is_crash cause ≡ true
    event : Event
    comes : event_of world n stamp source ≡ Some event

  cuts : Cuts
  cuts =
      let whole = and_parts (may_step world n stamp source) (is_crash cause) may in
      let one = and_parts (world.channels.up n) _ whole.0 in
      let two = and_parts (is_later world n stamp) _ one.1 in
      let three = and_parts (is_some (event_of world n stamp source)) _ two.1 in
      by one.0 (and_parts (is_in_order world n stamp) _ two.0).0 whole.1 (event_of world n stamp source) refl three.0
    where
      by : world.channels.up n ≡ true → is_in_order world n stamp ≡ true → is_crash cause ≡ true → (o : Option Event) → event_of world n stamp source ≡ o → is_some o ≡ true → Cuts
      by up ordered crash None is e = absurd (cc e)
      by up ordered crash (Some event) is e = record { up = up; ordered = ordered; crash = crash; event = event; comes = is }

  abbrev out : Effects
  out = effects_of (world.hosts n).node cuts.event free

  abbrev log_as : Bool → Bool → List Record → List Record
  log_as is_kept force records = if is_kept then (if force then (world.hosts n).log ++ ((world.hosts n).waiting ++ records) else (world.hosts n).log) else (world.hosts n).log

  unforced_log : kept ≡ true → out.force ≡ false → cut_log (world.hosts n) kept out ≡ (world.hosts n).log
  unforced_log is_kept unforced = ap (λ (b : Bool). log_as b out.force out.records) is_kept ∙ ap (λ (b : Bool). log_as true b out.records) unforced

  forced_log : kept ≡ true → out.force ≡ true → out.records ≡ [] → cut_log (world.hosts n) kept out ≡ (world.hosts n).log ++ (world.hosts n).waiting
  forced_log is_kept forced none = ap (λ (b : Bool). log_as b out.force out.records) is_kept
      ∙ (ap (λ (b : Bool). log_as true b out.records) forced ∙ (ap (log_as true true) none ∙ ap (λ (rs : List Record). (world.hosts n).log ++ rs) (append-nil (world.hosts n).waiting)))

  world_is : moved (Cut n stamp free source kept cause) world ≡ stopped world n stamp cause (cut_log (world.hosts n) kept out)
  world_is = ap (cut_with world n stamp free kept cause) cuts.comes

  with_log : (disk : List Record) → cut_log (world.hosts n) kept out ≡ disk → StopsWell book (stopped world n stamp cause disk) n stamp cause → StopsWell book (moved (Cut n stamp free source kept cause) world) n stamp cause
  with_log disk same well = subst (λ (w : World). StopsWell book w n stamp cause) (sym (world_is ∙ ap (stopped world n stamp cause) same)) well

  pub cut_lost : kept ≡ false → StopsWell book (moved (Cut n stamp free source kept cause) world) n stamp cause
  cut_lost lost = with_log (world.hosts n).log (ap (λ (b : Bool). cut_log (world.hosts n) b out) lost) (as_on_disk book world n stamp cause lasts h cuts.up cuts.ordered cuts.crash)

  pub cut_quiet : kept ≡ true → IsQuietStep world n stamp free source → StopsWell book (moved (Cut n stamp free source kept cause) world) n stamp cause
  cut_quiet is_kept quiet = by (quiet cuts.event cuts.comes)
    where
      by : (out.force ≡ false) ⊎ (out.records ≡ []) → StopsWell book (moved (Cut n stamp free source kept cause) world) n stamp cause
      by (inl unforced) = with_log (world.hosts n).log (unforced_log is_kept unforced) (as_on_disk book world n stamp cause lasts h cuts.up cuts.ordered cuts.crash)
      by (inr no_records) = of out.force refl
        where
          of : (b : Bool) → out.force ≡ b → StopsWell book (moved (Cut n stamp free source kept cause) world) n stamp cause
          of false unforced = with_log (world.hosts n).log (unforced_log is_kept unforced) (as_on_disk book world n stamp cause lasts h cuts.up cuts.ordered cuts.crash)
          of true forced = with_log ((world.hosts n).log ++ (world.hosts n).waiting) (forced_log is_kept forced no_records)
              (as_forced book world n stamp cause lasts h cuts.up cuts.ordered cuts.crash)

  pub cut_said : IsCutSaid book world n stamp free source kept cause → StopsWell book (moved (Cut n stamp free source kept cause) world) n stamp cause
  cut_said said = with_log (cut_log (world.hosts n) kept out) refl (as_said book world n stamp cause lasts h cuts.up cuts.ordered cuts.crash (cut_log (world.hosts n) kept out) (said cuts.event cuts.comes))

pub by_cut : EachLosesItsBatch
by_cut book world n stamp free source cause lasts h may = cut_lost book world n stamp free source false cause lasts h may refl

pub by_quiet : EachKeepsItsQuietBatch
by_quiet book world n stamp free source cause lasts h may quiet = cut_quiet book world n stamp free source true cause lasts h may refl quiet

pub by_said : EachCutIsHeld
by_said book world n stamp free source kept cause lasts h may said = cut_said book world n stamp free source kept cause lasts h may said
