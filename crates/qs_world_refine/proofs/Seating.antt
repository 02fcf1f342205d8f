-- The nodes of a world sit in their places, where it begins and after each move.
use Rattle.qs_world_refine.proofs.Words.{◌≡◌, ◌≢◌, ℕ, ◌<◌, ◌≤◌, ◌==◌, ◌&&◌, not, nat_lt, nat_le, Bool, true, false, [], Option, Some, None, refl, sym, ap, subst, ◌∙◌, arith, if◌then◌else◌, eqb-true, nat_tests, recovered_of, after_step, effects_of, Setting, Source, Commanded, Handed, Queues, Clock, Noticed, Move, Cut, Stop, Rise, event_of, hand_next, taken_by, step_with, cut_with, stepped_host, stopped_host, risen_host, cut_log, may_move, moved, is_later, is_in_order, is_setting, next_parcel}
use Rattle.qs_world_refine.proofs.Words.{post_all, Host, Parcel, known_of, each_is, node_no, IsSeated, AreSoundOver, BeginsNewAt, MayStep}
use Rattle.qs_session_channels.specs.Network.{with_at}
use Rattle.qs_node_step.specs.declared.event.Event.{Event}
use Rattle.qs_world.specs.Moves.{Step, Meet, notice_of, has_begun}
use Rattle.qs_world.specs.World.{World}
use Rattle.qs_world_refine.specs.MoveLaws.{StartSeated, MoveSeated}
use Rattle.qs_world_refine.proofs.Channelled.{IsWell, well_hand, well_notice, well_meet, well_crash, well_restart, well_post}
use Rattle.qs_world_refine.proofs.Posted.{inc_all}
use Rattle.qs_world_refine.proofs.Moving.{inc_taken}
use Rattle.qs_world_refine.proofs.SaidMoves.{move_said}
use Rattle.qs_world_refine.proofs.SaidSteps.{step_seated}
use Rattle.qs_world_refine.proofs.SoundParts.{and_both}

-- ---- where a world begins

pub start_seated : StartSeated
start_seated o opens = record {
  small = grind (arith, nat_tests, (and_both (nat_le 1 o.size) (nat_le o.size 16) opens.size).1);
  node = λ n in_run. ap (λ (k : ℕ). node_no k) (eqb-true (o.settings n).node.0 n (places n in_run).0);
  nodes = λ n in_run. eqb-true (o.settings n).nodes o.size (places n in_run).1;
  inc = λ n in_run. refl;
  begun = λ n in_run. grind (arith, nat_tests, begun n in_run);
  known = λ n m. grind (arith);
  ordered = λ n m i j. ([], refl);
  unborn = λ n m i j late. refl;
  unknown = λ n m j past. refl;
  stopped = λ n in_run off. absurd (cc (off));
}
  where
    its : (n : ℕ) → n < o.size → is_setting o.size n (o.settings n) ≡ true
    its n in_run = each_is o.size (λ n. is_setting o.size n (o.settings n)) opens.settings n in_run

    places : (n : ℕ) → n < o.size → (((o.settings n).node.0 == n) ≡ true) × (((o.settings n).nodes == o.size) ≡ true)
    places n in_run = and_both ((o.settings n).node.0 == n) ((o.settings n).nodes == o.size) (and_both (((o.settings n).node.0 == n) && ((o.settings n).nodes == o.size)) _ (its n in_run)).0

    begun : (n : ℕ) → n < o.size → nat_lt 0 (o.settings n).inc ≡ true
    begun n in_run = (and_both (nat_lt 0 (o.settings n).inc) _ (and_both (((o.settings n).node.0 == n) && ((o.settings n).nodes == o.size)) _ (its n in_run)).1).0

-- ---- channels

pub well_seated : (world : World) → IsSeated world → IsWell world.channels
well_seated world seated = record { known = seated.known; ordered = seated.ordered; unborn = seated.unborn; unknown = seated.unknown }

-- an incarnation that is noticed is a later one, and began
pub noticed_is : (world : World) (n stamp m new : ℕ) (event : Event) → notice_of world n stamp m new ≡ Some event → (world.channels.peer n m < new) × (new ≤ world.channels.inc m)
noticed_is world n stamp m new event is = by (nat_lt 0 (known_of world n m)) (nat_lt (known_of world n m) new) (nat_le new (world.channels.inc m)) _ refl refl is
  where
    by : (a b c d : Bool) → nat_lt (known_of world n m) new ≡ b → nat_le new (world.channels.inc m) ≡ c → (if a && (b && (c && d)) then Some (Rattle.qs_node_step.specs.declared.event.Event.TheVariants.PeerRestarted (Rattle.qs_world.specs.Moves.node_no m) (known_of world n m) new) else None) ≡ Some event
        → (world.channels.peer n m < new) × (new ≤ world.channels.inc m)
    by true true true d later begun is = (grind (arith, nat_tests, later), grind (arith, nat_tests, begun))
    by true true false d later begun is = absurd (cc (is))
    by true false c d later begun is = absurd (cc (is))
    by false b c d later begun is = absurd (cc (is))

pub well_taken : (world : World) (n stamp : ℕ) (source : Source) (event : Event) → event_of world n stamp source ≡ Some event → IsWell world.channels → IsWell (taken_by world n source)
well_taken world n stamp (Commanded k) event is w = w
well_taken world n stamp (Handed m) event is w = by (next_parcel world n m) refl
  where
    by : (o : Option Parcel) → next_parcel world n m ≡ o → IsWell (hand_next n m o world.channels)
    by None none = w
    by (Some parcel) next = well_hand world.channels n m parcel next w
well_taken world n stamp Queues event is w = w
well_taken world n stamp Clock event is w = w
well_taken world n stamp (Noticed m new) event is w = let its : (world.channels.peer n m < new) × (new ≤ world.channels.inc m) = noticed_is world n stamp m new event is in well_notice world.channels n m new its.0 its.1 w

-- ---- one host changes

-- a host in its place, in that incarnation
record Seat (size n inc : ℕ) (host : Host) : Type 0 where
  node : host.node.setting.node ≡ node_no n
  nodes : host.node.setting.nodes ≡ size
  inc_is : host.node.setting.inc ≡ inc
  begun : 1 ≤ inc

seat_of : (world : World) → IsSeated world → (n : ℕ) → n < world.size → Seat world.size n (world.channels.inc n) (world.hosts n)
seat_of world seated n in_run = record { node = seated.node n in_run; nodes = seated.nodes n in_run; inc_is = seated.inc n in_run; begun = seated.begun n in_run }

-- with the same setting
seat_as : (size n inc : ℕ) (host new : Host) → new.node.setting ≡ host.node.setting → Seat size n inc host → Seat size n inc new
seat_as size n inc host new same seat = record { node = ap (λ (s : Setting). s.node) same ∙ seat.node; nodes = ap (λ (s : Setting). s.nodes) same ∙ seat.nodes; inc_is = ap (λ (s : Setting). s.inc) same ∙ seat.inc_is; begun = seat.begun }

seats_with : (world : World) → IsSeated world → (n : ℕ) (host : Host) (inc : ℕ → ℕ) → ((m : ℕ) → m ≢ n → inc m ≡ world.channels.inc m) → (n < world.size → Seat world.size n (inc n) host) → (m : ℕ) → m < world.size → Seat world.size m (inc m) (with_at world.hosts n host m)
seats_with world seated n host inc others its m in_run = by (m == n) refl
  where
    by : (b : Bool) → (m == n) ≡ b → Seat world.size m (inc m) (if b then host else world.hosts m)
    by true is = rw (eqb-true m n is) (its (subst (λ (k : ℕ). k < world.size) (eqb-true m n is) in_run))
    by false is = rw (others m (λ same. grind (arith, nat_tests, is, same))) (seat_of world seated m in_run)

seated_by : (world new : World) → world.size ≤ 16 → ((m : ℕ) → m < new.size → Seat new.size m (new.channels.inc m) (new.hosts m)) → new.size ≡ world.size → IsWell new.channels → ((m : ℕ) → m < new.size → new.channels.up m ≡ false → (new.hosts m).waiting ≡ []) → IsSeated new
seated_by world new small seats same w stopped = record {
  small = rw same small;
  node = λ m in_run. (seats m in_run).node;
  nodes = λ m in_run. (seats m in_run).nodes;
  inc = λ m in_run. (seats m in_run).inc_is;
  begun = λ m in_run. (seats m in_run).begun;
  known = w.known;
  ordered = w.ordered;
  unborn = w.unborn;
  unknown = w.unknown;
  stopped = stopped;
}

-- ---- moves

pub move_seated : MoveSeated
move_seated world (Step n stamp free source) may fits new all seated = by (event_of world n stamp source) refl fits new (λ m low. (after m low).stopped)
  where
    after : AreSoundOver (moved (Step n stamp free source) world)
    after = move_said world (Step n stamp free source) may fits new all

    by : (o : Option Event) → event_of world n stamp source ≡ o → MayStep world n free o → BeginsNewAt world n free o
        → ((m : ℕ) → m < (step_with world n stamp free source o).size → (step_with world n stamp free source o).channels.up m ≡ false → ((step_with world n stamp free source o).hosts m).waiting ≡ []) → IsSeated (step_with world n stamp free source o)
    by None is fits new stopped = seated
    by (Some event) is fits new stopped = seated_by world (step_with world n stamp free source (Some event)) seated.small
        (seats_with world seated n (stepped_host stamp (after_step (world.hosts n).node event free) (effects_of (world.hosts n).node event free) (world.hosts n)) (post_all n stamp (effects_of (world.hosts n).node event free).messages (taken_by world n source)).inc
        (λ m other. ap (λ (f : ℕ → ℕ). f m) inc_is)
        (λ in_run. rw inc_is (seat_as world.size n (world.channels.inc n) (world.hosts n) (stepped_host stamp (after_step (world.hosts n).node event free) (effects_of (world.hosts n).node event free) (world.hosts n))
        (step_seated (world.hosts n).node event free fits.0 new (all n in_run).node) (seat_of world seated n in_run))))
        refl (well_post n stamp (effects_of (world.hosts n).node event free).messages (taken_by world n source) (well_taken world n stamp source event is (well_seated world seated))) stopped
      where
        inc_is : (post_all n stamp (effects_of (world.hosts n).node event free).messages (taken_by world n source)).inc ≡ world.channels.inc
        inc_is = inc_all n stamp (effects_of (world.hosts n).node event free).messages (taken_by world n source) ∙ inc_taken world n source
move_seated world (Cut n stamp free source is_kept cause) may fits new all seated = by (event_of world n stamp source) (λ m low. (after m low).stopped)
  where
    after : AreSoundOver (moved (Cut n stamp free source is_kept cause) world)
    after = move_said world (Cut n stamp free source is_kept cause) may fits new all

    by : (o : Option Event) → ((m : ℕ) → m < (cut_with world n stamp free is_kept cause o).size → (cut_with world n stamp free is_kept cause o).channels.up m ≡ false → ((cut_with world n stamp free is_kept cause o).hosts m).waiting ≡ []) → IsSeated (cut_with world n stamp free is_kept cause o)
    by None stopped = seated
    by (Some event) stopped = seated_by world (cut_with world n stamp free is_kept cause (Some event)) seated.small
        (seats_with world seated n (stopped_host stamp (cut_log (world.hosts n) is_kept (effects_of (world.hosts n).node event free)) (world.hosts n)) world.channels.inc (λ m other. refl)
        (λ in_run. seat_as world.size n (world.channels.inc n) (world.hosts n) (stopped_host stamp (cut_log (world.hosts n) is_kept (effects_of (world.hosts n).node event free)) (world.hosts n)) refl (seat_of world seated n in_run)))
        refl (well_crash world.channels n (well_seated world seated)) stopped
move_seated world (Stop n stamp cause) may fits new all seated = seated_by world (moved (Stop n stamp cause) world) seated.small
    (seats_with world seated n (stopped_host stamp (world.hosts n).log (world.hosts n)) world.channels.inc (λ m other. refl) (λ in_run. seat_as world.size n (world.channels.inc n) (world.hosts n) (stopped_host stamp (world.hosts n).log (world.hosts n)) refl (seat_of world seated n in_run))) refl (well_crash world.channels n (well_seated world seated))
    (λ m low. (move_said world (Stop n stamp cause) may fits new all m low).stopped)
move_seated world (Rise n stamp inc) may fits new all seated = seated_by world (moved (Rise n stamp inc) world) seated.small
    (seats_with world seated n (risen_host stamp inc (recovered_of (world.hosts n).log) (world.hosts n)) (with_at world.channels.inc n inc) (λ m other. grind (arith, nat_tests, other))
    (λ in_run. record { node = seated.node n in_run; nodes = seated.nodes n in_run; inc_is = here; begun = rw (sym here) (some (world.channels.inc n) (seated.begun n in_run) later) })) refl
    (well_restart world.channels n inc later (well_seated world seated)) (λ m low. (move_said world (Rise n stamp inc) may fits new all m low).stopped)
  where
    here : inc ≡ with_at world.channels.inc n inc n
    here = grind (arith, nat_tests)

    later : world.channels.inc n < inc
    later = grind (arith, nat_tests, (and_both (is_in_order world n stamp) (nat_lt (world.channels.inc n) inc) (and_both (not (world.channels.up n)) _ may).1).1)

    some : (a : ℕ) → 1 ≤ a → a < inc → 1 ≤ inc
    some a b c = omega (arith, b, c)
move_seated world (Meet n stamp k inc) may fits new all seated = seated_by world (moved (Meet n stamp k inc) world) seated.small
    (seats_with world seated n (record (world.hosts n) { stamp = stamp }) world.channels.inc (λ m other. refl) (λ in_run. seat_as world.size n (world.channels.inc n) (world.hosts n) (record (world.hosts n) { stamp = stamp }) refl (seat_of world seated n in_run))) refl
    (well_meet world.channels n k inc (eqb-true (known_of world n k) 0 unknown.0) (grind (arith, nat_tests, unknown.1.0)) (grind (arith, nat_tests, unknown.1.1)) (well_seated world seated)) (λ m low. (move_said world (Meet n stamp k inc) may fits new all m low).stopped)
  where
    unknown : ((known_of world n k == 0) ≡ true) × ((nat_lt 0 inc ≡ true) × (nat_le inc (world.channels.inc k) ≡ true))
    unknown =
        let rest = (and_both (not (k == n) && nat_lt k world.size) _ (and_both (is_later world n stamp) _ (and_both (world.channels.up n) _ may).1).1).1 in
        let first : ((known_of world n k == 0) ≡ true) × ((nat_lt 0 inc && has_begun world stamp k inc) ≡ true) = and_both (known_of world n k == 0) (nat_lt 0 inc && has_begun world stamp k inc) rest in
        let last : (nat_lt 0 inc ≡ true) × (has_begun world stamp k inc ≡ true) = and_both (nat_lt 0 inc) (has_begun world stamp k inc) first.1 in
        (first.0, (last.0, (and_both (nat_le inc (world.channels.inc k)) _ last.1).0))
