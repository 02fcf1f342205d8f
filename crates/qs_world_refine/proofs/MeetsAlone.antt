-- A first meeting is one event of the machine: what its guard tests stands, and nothing else happens.
use Rattle.qs_world_refine.proofs.Words.{◌≡◌, ℕ, ◌<◌, ◌≤◌, ◌==◌, ◌&&◌, not, true, false, nat_lt, nat_le, eqb-true, not-true, eqb-false, is_later, may_move, known_of}
use Rattle.std.proofs.lemmas.Bool.{ltb-true, leb-true}
use Rattle.qs_world.specs.Moves.{Meet, has_begun as has_risen}
use Rattle.qs_world.specs.World.{World}
use Rattle.qs_world_refine.specs.MeetLaws.{MeetGoesAlone}
use Rattle.qs_world_refine.proofs.EachMoveGoes.{meet_goes_on, meet_next_is}
use Rattle.qs_world_refine.proofs.MoveGoes.{later_in}
use Rattle.qs_world_refine.proofs.ShownMoves.{steady, home_in_run, messages_fit}
use Rattle.qs_world_refine.proofs.SoundParts.{and_both}
use Rattle.qs_world_refine.proofs.SteadyFrom.{begun_low}
use Rattle.qs_base_lemmas.proofs.Tests.{ltb_some}

-- what may be: two other nodes of the run, of which the first runs and knows nothing of the second
pub record Meets (world : World) (n m first : ℕ) : Type 0 where
  pub n_in : n < world.size
  pub on : world.channels.up n ≡ true
  pub apart : (m == n) ≡ false
  pub m_in : m < world.size
  pub unknown : world.channels.peer n m ≡ 0
  pub some : 1 ≤ first
  pub begun : first ≤ world.channels.inc m

pub meets_may : (world : World) (n stamp m first : ℕ) → may_move world (Meet n stamp m first) ≡ true → Meets world n m first
meets_may world n stamp m first may = record {
  n_in = later_in world n stamp order.0;
  on = runs.0;
  apart = not-true (m == n) others.0;
  m_in = ltb-true m world.size others.1;
  unknown = eqb-true (known_of world n m) 0 known.0;
  some = ltb_some first risen.0;
  begun = leb-true first (world.channels.inc m) (and_both (nat_le first (world.channels.inc m)) _ risen.1).0;
}
  where
    runs : (world.channels.up n ≡ true) × ((is_later world n stamp && ((not (m == n) && nat_lt m world.size) && ((known_of world n m == 0) && (nat_lt 0 first && has_risen world stamp m first)))) ≡ true)
    runs = and_both (world.channels.up n) _ may

    order : (is_later world n stamp ≡ true) × (((not (m == n) && nat_lt m world.size) && ((known_of world n m == 0) && (nat_lt 0 first && has_risen world stamp m first))) ≡ true)
    order = and_both (is_later world n stamp) _ runs.1

    both : ((not (m == n) && nat_lt m world.size) ≡ true) × (((known_of world n m == 0) && (nat_lt 0 first && has_risen world stamp m first)) ≡ true)
    both = and_both (not (m == n) && nat_lt m world.size) _ order.1

    others : (not (m == n) ≡ true) × (nat_lt m world.size ≡ true)
    others = and_both (not (m == n)) (nat_lt m world.size) both.0

    known : ((known_of world n m == 0) ≡ true) × ((nat_lt 0 first && has_risen world stamp m first) ≡ true)
    known = and_both (known_of world n m == 0) _ both.1

    risen : (nat_lt 0 first ≡ true) × (has_risen world stamp m first ≡ true)
    risen = and_both (nat_lt 0 first) _ known.1

pub meet_goes_alone : MeetGoesAlone
meet_goes_alone tid world n stamp m first w may is begun all = record {
  goes = meet_goes_on tid world w (steady world is) (messages_fit world is) (home_in_run world is tid begun) (begun_low world tid begun) all n stamp m first its.n_in its.on its.m_in (eqb-false m n its.apart) its.unknown its.some its.begun;
  alone = meet_next_is tid world w (steady world is) (messages_fit world is) (home_in_run world is tid begun) (begun_low world tid begun) all n stamp m first its.n_in its.on its.m_in (eqb-false m n its.apart) its.unknown its.some its.begun;
}
  where
    its : Meets world n m first
    its = meets_may world n stamp m first may
