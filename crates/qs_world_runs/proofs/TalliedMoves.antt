-- Nothing comes to the only node of a run from another one, so what it has served and what waits there stays within the numbers that were given: as a run begins,
-- and through each move.
use Rattle.qs_world_runs.proofs.Words.{◌≡◌, ℕ, ◌<◌, ◌≤◌, ◌==◌, ◌&&◌, not, arith, nat_lt, Bool, true, false, Option, Some, None, refl, sym, subst, if◌then◌else◌, eqb-true, and_parts, ltb-true, list_all, CrashCause, no_kept, recovered_of, Event, Clock, Commanded, Cut, Handed, Meet, Move, Noticed}
use Rattle.qs_world_runs.proofs.Words.{Queues, Rise, Source, Step, Stop, cut_with, event_of, may_move, may_step, moved, step_with, Opening, World, is_crash, IsSteady, from_client, from_node, from_notice, in_run, step_may, steady_gives, clash, of_some, AreTallied, NoneBesides, tally_of, Joined}
use Rattle.qs_world.specs.Moves.{is_in_order}
use Rattle.qs_session_channels.specs.Network.{with_at}
use Rattle.qs_world_refine.specs.Sound.{is_label_before, is_loan_before}
use Rattle.qs_world_refine.proofs.EachMay.{is_next}
use Rattle.qs_world_lawful.proofs.Truths.{not_true}
use Rattle.qs_world_runs.specs.Counted.{CountedAt, MovesKeepCounted, OpensCounted}
use Rattle.qs_world_runs.proofs.TalliedOpened.{opened_tallied}
use Rattle.qs_world_runs.proofs.TalliedStages.{IsOwnEvent, commanded, serves, step_tallied, ticks}

one_low : (size : ℕ) → size ≡ 1 → 0 < size
one_low size one = omega (arith, one)

-- ---- as a run begins

pub opens_counted : OpensCounted
opens_counted o opens one up = opened_tallied o.alloc (o.settings 0) (recovered_of (o.logs 0)) no_kept refl

-- ---- moves

module _ (P : Opening → World → Type 0) (o : Opening) (world : World) (j : Joined P o world) (counted : CountedAt o world) where
  steady : IsSteady world
  steady = steady_gives world j.shown.steady j.shown.listed

  -- a node of the run is the only one
  only : (n : ℕ) → world.size ≡ 1 → n < world.size → n ≡ 0
  only n one low = omega (arith, one, low)

  -- and knows nobody
  nobody : (m : ℕ) → world.size ≡ 1 → 1 ≤ world.channels.peer 0 m → ⊥
  nobody m one knows = (steady.peers 0 m knows).1 (only m one (steady.peers 0 m knows).0)

  own : (stamp : ℕ) (source : Source) (event : Event) → world.size ≡ 1 → event_of world 0 stamp source ≡ Some event → IsOwnEvent event
  own stamp (Commanded k) event one comes = let from = from_client world 0 k event steady comes in subst IsOwnEvent (sym from.is) (commanded from.line.client from.line.line from.line.label from.line.command)
  own stamp (Handed m) event one comes = let from = from_node world 0 stamp m event comes in absurd (nobody m one (is_next world 0 m from.parcel steady from.found).from.some)
  own stamp Queues event one comes = subst IsOwnEvent (of_some comes) serves
  own stamp Clock event one comes = subst IsOwnEvent (of_some comes) ticks
  own stamp (Noticed m new) event one comes = let from = from_notice world 0 stamp m new event comes in absurd (nobody m one from.known)

  step_counted : (n stamp free : ℕ) (source : Source) → n ≡ 0 → world.channels.up n ≡ true → (e : Option Event) → event_of world n stamp source ≡ e → world.size ≡ 1 → AreTallied NoneBesides (tally_of ((step_with world n stamp free source e).hosts 0).node)
  step_counted n stamp free source zero_is up None comes one = counted one (subst (λ (k : ℕ). world.channels.up k ≡ true) zero_is up)
  step_counted n stamp free source zero_is up (Some event) comes one = subst (λ (k : ℕ). AreTallied NoneBesides (tally_of ((step_with world k stamp free source (Some event)).hosts 0).node)) (sym zero_is)
      (step_tallied (world.hosts 0).node event free (own stamp source event one (subst (λ (k : ℕ). event_of world k stamp source ≡ Some event) zero_is comes)) (j.facts 0 (one_low world.size one)) (counted one (subst (λ (k : ℕ). world.channels.up k ≡ true) zero_is up)))

  rise_counted : (n stamp inc : ℕ) → n ≡ 0 → world.channels.up n ≡ false → nat_lt (world.channels.inc n) inc ≡ true → world.size ≡ 1 → AreTallied NoneBesides (tally_of ((moved (Rise n stamp inc) world).hosts 0).node)
  rise_counted n stamp inc zero_is off later one = subst (λ (k : ℕ). AreTallied NoneBesides (tally_of ((moved (Rise k stamp inc) world).hosts 0).node)) (sym zero_is)
      (opened_tallied (world.hosts 0).node.manager.alloc (record (world.hosts 0).node.setting { inc = inc }) (recovered_of (world.hosts 0).log) (world.hosts 0).node.kept.saved
      (and_parts (list_all (is_loan_before inc) (world.hosts 0).node.kept.saved.loans) (list_all (is_label_before (world.hosts 0).node.setting.node inc) (world.hosts 0).node.kept.saved.labels)
      (steady.kept 0 inc (one_low world.size one) (subst (λ (k : ℕ). world.channels.up k ≡ false) zero_is off) (ltb-true (world.channels.inc 0) inc (subst (λ (k : ℕ). nat_lt (world.channels.inc k) inc ≡ true) zero_is later)))).0)

pub moves_counted : (P : Opening → World → Type 0) → MovesKeepCounted P
moves_counted P o world move j counted may = goes move may
  where
    low_of : (n stamp : ℕ) (rest : Bool) → (is_in_order world n stamp && rest) ≡ true → n < world.size
    low_of n stamp rest is = in_run world n stamp (and_parts (is_in_order world n stamp) rest is).0

    -- a node that stops does not run
    stops : (n : ℕ) (cause : CrashCause) → n < world.size → world.size ≡ 1 → with_at world.channels.up n false 0 ≡ true → ⊥
    stops n cause low one up = clash (subst (λ (k : ℕ). with_at world.channels.up k false 0 ≡ true) (only P o world j counted n one low) up)

    goes : (move : Move) → may_move world move ≡ true → CountedAt o (moved move world)
    goes (Step n stamp free source) may = step_goes
      where
        step_goes : CountedAt o (moved (Step n stamp free source) world)
        step_goes one up = let its = step_may world n stamp source may in step_counted P o world j counted n stamp free source (only P o world j counted n (size_is one) its.low) its.runs (event_of world n stamp source) refl (size_is one)
          where
            size_is : (moved (Step n stamp free source) world).size ≡ 1 → world.size ≡ 1
            size_is is = by (event_of world n stamp source) is
              where
                by : (e : Option Event) → (step_with world n stamp free source e).size ≡ 1 → world.size ≡ 1
                by None e = e
                by (Some event) e = e
    goes (Cut n stamp free source is_kept cause) may = cut_goes (event_of world n stamp source)
      where
        low : n < world.size
        low = (step_may world n stamp source (and_parts (may_step world n stamp source) (is_crash cause) may).0).low

        cut_goes : (e : Option Event) → CountedAt o (cut_with world n stamp free is_kept cause e)
        cut_goes None = counted
        cut_goes (Some event) = λ one up. absurd (stops n cause low one up)
    goes (Stop n stamp cause) may = λ one up. absurd (stops n cause (low_of n stamp (is_crash cause) (and_parts (world.channels.up n) (is_in_order world n stamp && is_crash cause) may).1) one up)
    goes (Rise n stamp inc) may = λ one up. rise_counted P o world j counted n stamp inc (only P o world j counted n one (low_of n stamp (nat_lt (world.channels.inc n) inc) tests.1)) (not_true (world.channels.up n) tests.0)
        (and_parts (is_in_order world n stamp) (nat_lt (world.channels.inc n) inc) tests.1).1 one
      where
        tests : (not (world.channels.up n) ≡ true) × ((is_in_order world n stamp && nat_lt (world.channels.inc n) inc) ≡ true)
        tests = and_parts (not (world.channels.up n)) (is_in_order world n stamp && nat_lt (world.channels.inc n) inc) may
    goes (Meet n stamp m inc) may = meet_goes
      where
        meet_goes : CountedAt o (moved (Meet n stamp m inc) world)
        meet_goes one up = by (0 == n) refl
          where
            by : (b : Bool) → (0 == n) ≡ b → AreTallied NoneBesides (tally_of (if b then record (world.hosts n) { stamp = stamp } else world.hosts 0).node)
            by true is = subst (λ (k : ℕ). AreTallied NoneBesides (tally_of (world.hosts k).node)) (eqb-true 0 n is) (counted one up)
            by false is = counted one up
