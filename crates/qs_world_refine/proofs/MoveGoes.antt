-- What shows the world before a move shows it after.
use Rattle.qs_world_refine.proofs.Words.{◌≡◌, ◌≢◌, ℕ, ◌<◌, ◌≤◌, ◌==◌, ◌&&◌, not, nat_lt, nat_le, Bool, true, false, [], Option, Some, None, is_some, refl, sym, ap, ◌∙◌, arith, if◌then◌else◌, eqb-true, not-true, nat_tests, Tid, is_crash, recovery, recovered_of, Source, Cut, Stop, Rise, event_of, step_with, cut_with, risen_host, risen, reopened, is_later, is_in_order, may_step, known_of, met_at, IsSeated, AllClose, ShowsWorld, WorldGoes, face_at, began_here, place, IsRisenFace, sight_risen_as}
use Rattle.qs_world_refine.proofs.Words.{SightGoes, scene_of, Shows, may_take_up, kept_before, not_never}
use Rattle.qs_node_step.specs.declared.event.Event.{Event}
use Rattle.qs_world.specs.Moves.{Step, Meet, met, may_serve, has_begun}
use Rattle.qs_world.specs.World.{World}
use Rattle.qs_world_agree.specs.World as machine
use Rattle.qs_world_refine.specs.MeetingLaws.{sight_met}
use Rattle.qs_world_refine.specs.MoveLaws.{MoveGoes}
use Rattle.qs_world_refine.proofs.Facts.{invariant, lawful_on}
use Rattle.qs_world_refine.proofs.FreshRuns.{fresh}
use Rattle.qs_world_refine.proofs.Meeting.{meet, meet_next}
use Rattle.qs_world_refine.proofs.Placing.{placed_stay}
use Rattle.qs_world_refine.proofs.RestartGoes.{rise}
use Rattle.qs_world_refine.proofs.RisenFaces.{risen_face}
use Rattle.qs_world_refine.proofs.Same.{same_place}
use Rattle.qs_world_refine.proofs.SeenMoved.{seen_risen, seen_met}
use Rattle.qs_world_refine.proofs.SoundParts.{and_both}
use Rattle.qs_world_refine.proofs.StepMoves.{x, closes_on, stops, whole, cut}

module _ (tid : Tid) (world : World) (w : machine.World) (seated : IsSeated world) (home_in : tid.home.0 < world.size) (sw : ShowsWorld tid world w) where
  -- ---- a restart

  -- the transaction began there in no later incarnation than the last
  begun_before : (n : ℕ) → tid.home.0 ≡ n → tid.inc ≤ world.channels.inc n
  begun_before n is = rw (sym is) (born w.home (w.present (w.node w.home)) ((invariant w sw.lawful).keeps 0).home_born sw.shown.stage.home (ap w.present (ap w.node sw.shown.stage.home ∙ sw.shown.stage.nodes tid.home.0 tid.inc home_in) ∙ sw.shown.stage.present tid.home.0 home_in))
    where
      born : (a b : ℕ) → a ≤ b → a ≡ place tid.home.0 tid.inc → b ≡ place tid.home.0 (world.channels.inc tid.home.0) → tid.inc ≤ world.channels.inc tid.home.0
      born a b c d e = omega (arith, c, d, e)

  module _ (n stamp inc : ℕ) (n_in : n < world.size) (off : world.channels.up n ≡ false) (later : world.channels.inc n < inc)
      (takes : may_take_up (world.hosts n).node.setting.node (recovery (world.hosts n).log) ≡ true) (before : kept_before (world.hosts n).node.setting.node inc (world.hosts n).node.kept.saved ≡ true) where
    abbrev face : Rattle.qs_world_refine.specs.Faces.Face
    face = face_at (reopened inc (recovered_of (world.hosts n).log) (world.hosts n).node) tid

    its_face : IsRisenFace tid n (recovery (world.hosts n).log) face
    its_face = risen_face tid n inc (world.hosts n).log (world.hosts n).node sw.shown.stage.numbered (seated.node n n_in) (λ is. less tid.inc (begun_before n is)) takes before
      where
        less : (a : ℕ) → a ≤ world.channels.inc n → a < inc
        less a b = omega (arith, b, later)

    goes : SightGoes tid (sight_risen_as (x tid world w seated home_in sw) n inc face) w
    goes = rise tid (x tid world w seated home_in sw) w n inc face sw.lawful sw.placed sw.shown (record { in_run = n_in; down = off; later = later; begun = seated.begun }) home_in its_face

    abbrev after : World
    after = risen world n stamp inc (recovered_of (world.hosts n).log)

    shown : Shows tid (scene_of after) goes.next
    shown = seen_risen tid world n stamp inc (recovered_of (world.hosts n).log) goes.next seated later goes.shown

    pub rises : WorldGoes tid (risen world n stamp inc (recovered_of (world.hosts n).log)) w
    rises = record {
      next = goes.next;
      leads = goes.leads;
      shown = record { lawful = lawful_on w goes.next sw.lawful goes.leads; placed = placed_stay w goes.next sw.lawful sw.placed goes.leads; shown = shown; closes = λ m m_in on. closes m m_in (m == n) refl on (shown.faces m m_in on).up };
    }
      where
        -- of who was down nothing waited
        closes : (m : ℕ) → m < world.size → (b : Bool) → (m == n) ≡ b → (if b then true else world.channels.up m) ≡ true → goes.next.up (place m (if b then inc else world.channels.inc m)) ≡ true
            → AllClose tid m (place m (if b then inc else world.channels.inc m)) goes.next (if b then risen_host stamp inc (recovered_of (world.hosts n).log) (world.hosts n) else world.hosts m).waiting
        closes m m_in true is on runs = rw (seated.stopped n n_in off) tt
        closes m m_in false is on runs = closes_on tid world w seated home_in sw goes.next goes.leads m m_in on runs

  -- ---- a first meeting

  module _ (n stamp m first : ℕ) (n_in : n < world.size) (on : world.channels.up n ≡ true) (m_in : m < world.size) (other : m ≢ n) (unknown : world.channels.peer n m ≡ 0) (some : 1 ≤ first) (begun : first ≤ world.channels.inc m) where
    abbrev q : ℕ
    q = place n (world.channels.inc n)

    -- who answers to a node knows a place of it
    apart : (face_at (world.hosts n).node tid).on ≡ true → (face_at (world.hosts n).node tid).is_home ≡ false → (face_at (world.hosts n).node tid).superior ≢ m
    apart engaged away is = never (w.engager q) (w.peer q (w.superior q)) ((sw.placed q m).engager (here.engaged ∙ engaged) not_home) ((fresh w sw.lawful q q).known (here.engaged ∙ engaged) not_home).1 none
      where
        here : Rattle.qs_world_refine.specs.Faces.ShowsFace (face_at (world.hosts n).node tid) q w
        here = sw.shown.faces n n_in on

        not_home : q ≢ w.home
        not_home same = let at = same_place n tid.home.0 (world.channels.inc n) tid.inc (omega (arith, n_in, sw.shown.stage.small)) (omega (arith, home_in, sw.shown.stage.small)) (same ∙ sw.shown.stage.home) in
            let began : began_here (world.hosts n).node tid ≡ true = rw (seated.node n n_in, seated.inc n n_in) (same_both tid.home.0 n tid.inc (world.channels.inc n) at.0 at.1) in cc (began, away)
          where
            same_both : (a b c d : ℕ) → b ≡ a → d ≡ c → ((a == b) && (c == d)) ≡ true
            same_both a b c d p r = grind (arith, nat_tests, p, r)

        none : w.peer q (w.superior q) ≡ 0
        none = ap (w.peer q) (here.superior engaged away ∙ is) ∙ (sw.shown.stage.peers n m n_in m_in on ∙ rw unknown refl)

        never : (a b : ℕ) → 1 ≤ a → a ≤ b → b ≡ 0 → ⊥
        never a b c d e = omega (arith, c, d, e)

    met_goes : SightGoes tid (sight_met (x tid world w seated home_in sw) n m first) w
    met_goes = meet tid (x tid world w seated home_in sw) w n m first sw.lawful sw.shown (record { in_run = n_in; up = on }) m_in other unknown some begun apart

    met_shown : Shows tid (scene_of (met world n stamp m first)) met_goes.next
    met_shown = seen_met tid world n stamp m first met_goes.next seated unknown some met_goes.shown

    pub meets : WorldGoes tid (met world n stamp m first) w
    meets = record {
      next = met_goes.next;
      leads = met_goes.leads;
      shown = record { lawful = lawful_on w met_goes.next sw.lawful met_goes.leads; placed = placed_stay w met_goes.next sw.lawful sw.placed met_goes.leads; shown = met_shown; closes = λ k k_in runs. closes k k_in runs (k == n) refl };
    }
      where
        closes : (k : ℕ) → k < world.size → world.channels.up k ≡ true → (b : Bool) → (k == n) ≡ b → AllClose tid k (place k (world.channels.inc k)) met_goes.next (if b then record (world.hosts n) { stamp = stamp } else world.hosts k).waiting
        closes k k_in runs true is = rw (eqb-true k n is) (closes_on tid world w seated home_in sw met_goes.next met_goes.leads n n_in on (met_shown.faces n n_in on).up)
        closes k k_in runs false is = closes_on tid world w seated home_in sw met_goes.next met_goes.leads k k_in runs (met_shown.faces k k_in runs).up

    pub meets_next : meets.next ≡ met_at w (place n (world.channels.inc n)) (place m first)
    unfolding meets met_goes
    meets_next = meet_next tid (x tid world w seated home_in sw) w n m first sw.lawful sw.shown (record { in_run = n_in; up = on }) m_in other unknown some begun apart

-- ---- each move

pub in_run : (world : World) (n stamp : ℕ) → is_in_order world n stamp ≡ true → n < world.size
in_run world n stamp is = grind (arith, nat_tests, (and_both (nat_lt n world.size) _ (and_both (nat_lt n world.size && nat_lt stamp _) _ is).0).0)

pub later_in : (world : World) (n stamp : ℕ) → is_later world n stamp ≡ true → n < world.size
later_in world n stamp is = in_run world n stamp (and_both (is_in_order world n stamp) _ is).0

-- what a step that may be made gives
pub record StepMay (world : World) (n : ℕ) (source : Source) : Type 0 where
  pub runs : world.channels.up n ≡ true
  pub low : n < world.size
  pub serves : may_serve (world.hosts n).node source ≡ true

pub step_may : (world : World) (n stamp : ℕ) (source : Source) → may_step world n stamp source ≡ true → StepMay world n source
step_may world n stamp source may =
    let runs : (world.channels.up n ≡ true) × ((is_later world n stamp && (is_some (event_of world n stamp source) && may_serve (world.hosts n).node source)) ≡ true) = and_both (world.channels.up n) _ may in
    let later : (is_later world n stamp ≡ true) × ((is_some (event_of world n stamp source) && may_serve (world.hosts n).node source) ≡ true) = and_both (is_later world n stamp) _ runs.1 in
    record { runs = runs.0; low = later_in world n stamp later.0; serves = (and_both (is_some (event_of world n stamp source)) (may_serve (world.hosts n).node source) later.1).1 }

pub move_goes : MoveGoes
move_goes tid world (Step n stamp free source) w may seated home_in goes sw = by (event_of world n stamp source) refl
  where
    its : StepMay world n source
    its = step_may world n stamp source may

    by : (o : Option Event) → event_of world n stamp source ≡ o → WorldGoes tid (step_with world n stamp free source o) w
    by None is = record { next = w; leads = record { events = []; run = refl }; shown = sw }
    by (Some event) is = whole tid world w seated home_in sw n stamp free source event its.low its.runs is (goes.goes event is)
move_goes tid world (Cut n stamp free source is_kept cause) w may seated home_in goes sw = by (event_of world n stamp source) refl
  where
    its : StepMay world n source
    its = step_may world n stamp source (and_both (may_step world n stamp source) (is_crash cause) may).0

    by : (o : Option Event) → event_of world n stamp source ≡ o → WorldGoes tid (cut_with world n stamp free is_kept cause o) w
    by None is = record { next = w; leads = record { events = []; run = refl }; shown = sw }
    by (Some event) is = cut tid world w seated home_in sw n stamp free source event its.low its.runs is is_kept cause (goes event is)
move_goes tid world (Stop n stamp cause) w may seated home_in goes sw =
    let runs = and_both (world.channels.up n) _ may in
    stops tid world w seated home_in sw n stamp cause (world.hosts n).log [] (in_run world n stamp (and_both (is_in_order world n stamp) _ runs.1).0) runs.0 refl tt
move_goes tid world (Rise n stamp inc) w may seated home_in goes sw = rises tid world w seated home_in sw n stamp inc (in_run world n stamp order.0) (not-true (world.channels.up n) both.0) (grind (arith, nat_tests, order.1)) goes.0 goes.1
  where
    both : (not (world.channels.up n) ≡ true) × ((is_in_order world n stamp && nat_lt (world.channels.inc n) inc) ≡ true)
    both = and_both (not (world.channels.up n)) (is_in_order world n stamp && nat_lt (world.channels.inc n) inc) may

    order : (is_in_order world n stamp ≡ true) × (nat_lt (world.channels.inc n) inc ≡ true)
    order = and_both (is_in_order world n stamp) (nat_lt (world.channels.inc n) inc) both.1
move_goes tid world (Meet n stamp m first) w may seated home_in goes sw = meets tid world w seated home_in sw n stamp m first (later_in world n stamp order.0) runs.0 (grind (arith, nat_tests, others.1)) (λ is. not_never (m == n) others.0 (grind (arith, nat_tests, is)))
    (eqb-true (known_of world n m) 0 known.0) (grind (arith, nat_tests, begun.0)) (grind (arith, nat_tests, (and_both (nat_le first (world.channels.inc m)) _ begun.1).0))
  where
    runs : (world.channels.up n ≡ true) × ((is_later world n stamp && ((not (m == n) && nat_lt m world.size) && ((known_of world n m == 0) && (nat_lt 0 first && has_begun world stamp m first)))) ≡ true)
    runs = and_both (world.channels.up n) _ may

    order : (is_later world n stamp ≡ true) × (((not (m == n) && nat_lt m world.size) && ((known_of world n m == 0) && (nat_lt 0 first && has_begun world stamp m first))) ≡ true)
    order = and_both (is_later world n stamp) _ runs.1

    rest : ((not (m == n) && nat_lt m world.size) ≡ true) × (((known_of world n m == 0) && (nat_lt 0 first && has_begun world stamp m first)) ≡ true)
    rest = and_both (not (m == n) && nat_lt m world.size) _ order.1

    others : (not (m == n) ≡ true) × (nat_lt m world.size ≡ true)
    others = and_both (not (m == n)) (nat_lt m world.size) rest.0

    known : ((known_of world n m == 0) ≡ true) × ((nat_lt 0 first && has_begun world stamp m first) ≡ true)
    known = and_both (known_of world n m == 0) _ rest.1

    begun : (nat_lt 0 first ≡ true) × (has_begun world stamp m first ≡ true)
    begun = and_both (nat_lt 0 first) (has_begun world stamp m first) known.1
