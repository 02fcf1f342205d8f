-- A visit is one more round of its node, and so is a restart.
use Rattle.std.proofs.Common.{◌≡◌, ◌∙◌, ◌≤◌, ◌+◌, ap, arith, ℕ, zero, suc, Bool, List, [], ◌∷◌}
use Rattle.std.specs.Global.{Global}
use Rattle.std.specs.Prelude.{Option, Some, None, Result}
use Rattle.qs_disk.specs.Disk.{DiskState}
use Rattle.qs_link.specs.declared.ends.NodeEnds.{NodeEnds}
use Rattle.qs_packet.specs.declared.packet.Packet.{Packet}
use Rattle.qs_cell_chronicle.specs.Carried.{Seen, seen}
use Rattle.qs_cell_chronicle.specs.Chronicle.{counted}
use Rattle.qs_cell_chronicle.specs.declared.occasion.Occasion.{Occasion}
use Rattle.qs_cell_peers.specs.Links.{carried_from}
use Rattle.qs_cell.specs.Hearing.{Hears, HearsBelow, HearsIf, HearsIn, HearsTimes, Post}
use Rattle.qs_cell.specs.Restart.{in_round_as}
use Rattle.qs_cell.specs.State.{IsSeenAs, StartsAgain, carried_of, rounds_of}
use Rattle.qs_cell.specs.Visits.{Seat, TakesTurn, TurnsAll, due, left_by, sources_of}
use Rattle.qs_cell.specs.WholeVisits.{Visits}
use Rattle.qs_cell.specs.declared.cell.EventSource.{EventSource}
use Rattle.qs_cell.specs.declared.state.CellState.{CellState}
use Rattle.qs_cell.specs.declared.state.CellState.TheVariants as states
use Rattle.qs_cell.specs.declared.state.RestartFault.{RestartFault}
use Rattle.qs_cell.proofs.Hearing.{taken_rounds}
use Rattle.qs_cell.proofs.Reopening.{made_rounds, restart_rounds}

pub seen_rounds : {D : Type 0} (f : Seen → Seen) (old new : CellState D) → IsSeenAs f old new → rounds_of new ≡ (f (seen (carried_of old))).told.rounds
seen_rounds f (states.Up old) (states.Up new) same = ap (λ (s : Seen). s.told.rounds) same.1.0
seen_rounds f (states.Down old) (states.Down new) same = ap (λ (s : Seen). s.told.rounds) same.1.1.1.0
seen_rounds f (states.Up old) (states.Down new) same = absurd same
seen_rounds f (states.Down old) (states.Up new) same = absurd same

module _ {D : Type 0} (told : Type 0) (state : D → DiskState) (own size : D → ℕ) where
  -- ---- packets and turns are none

  if_rounds : (taken : Option Packet) (old new : Post D) → HearsIf told state own size taken old new → rounds_of new.seat.node ≡ rounds_of old.seat.node
  if_rounds None old new is = ap (λ (p : Post D). rounds_of p.seat.node) is
  if_rounds (Some packet) old new is = taken_rounds told state own size packet old.seat.node new.seat.node is.1.0 is.1.1.0

  in_rounds : (m : ℕ) (ready : CellState D) (old new : Post D) → HearsIn told state own size m ready old new → rounds_of new.seat.node ≡ rounds_of ready
  in_rounds m (states.Down stopped) old new is = ap (λ (p : Post D). rounds_of p.seat.node) is
  in_rounds m (states.Up running) old new is = if_rounds is.0 (record { seat = record old.seat { node = states.Up running }; links = is.1.0 }) new is.1.1.1

  pub hears_rounds : (m : ℕ) (old new : Post D) → Hears told state own size m old new → rounds_of new.seat.node ≡ rounds_of old.seat.node
  hears_rounds m old new hears = in_rounds m hears.ready old new hears.turn ∙ seen_rounds (λ s. s) old.seat.node hears.ready hears.same

  times_rounds : (m count : ℕ) (old new : Post D) → HearsTimes told state own size m count old new → rounds_of new.seat.node ≡ rounds_of old.seat.node
  times_rounds m zero old new is = ap (λ (p : Post D). rounds_of p.seat.node) is
  times_rounds m (suc count) old new is = hears_rounds m is.0 new is.1.1 ∙ times_rounds m count old is.0 is.1.0

  below_rounds : (m : ℕ) (old new : Post D) → HearsBelow told state own size m old new → rounds_of new.seat.node ≡ rounds_of old.seat.node
  below_rounds zero old new is = ap (λ (p : Post D). rounds_of p.seat.node) is
  below_rounds (suc m) old new is = times_rounds m (carried_from is.0.links m) is.0 new is.1.1 ∙ below_rounds m old is.0 is.1.0

  turn_rounds : (is_due : Option Occasion) (left : List NodeEnds) (old new : Seat D) → TakesTurn told state own size is_due left old new → rounds_of new.node ≡ rounds_of old.node
  turn_rounds None left old new taken = ap (λ (s : Seat D). rounds_of s.node) taken
  turn_rounds (Some occasion) left old new (answers, (makes, ends)) = made_rounds told state own size occasion old.node new.node answers makes

  pub turns_rounds : (sources : List EventSource) (old new : Seat D) → TurnsAll told state own size sources old new → rounds_of new.node ≡ rounds_of old.node
  turns_rounds [] old new turns = ap (λ (s : Seat D). rounds_of s.node) turns
  turns_rounds (source ∷ sources) old new (mid, (turn, rest)) =
      turns_rounds sources mid new rest
      ∙ (turn_rounds (due source turn.ready old.ends) (left_by source turn.ready old.ends) (record { node = turn.ready; ends = old.ends }) mid turn.turn
      ∙ seen_rounds (λ s. s) old.node turn.ready turn.same)

  -- ---- but the visit itself is one, and a restart at most one

  pub visit_rounds : (old new : Post D) → Visits told state own size old new → rounds_of new.seat.node ≡ counted (rounds_of old.seat.node)
  visit_rounds old new visits = turns_rounds (sources_of old.seat.ends) visits.heard.seat new.seat visits.turns
      ∙ (below_rounds old.links.size visits.begun visits.heard visits.hears ∙ seen_rounds in_round_as old.seat.node visits.begun.seat.node visits.begins.round)

  pub start_rounds : (alloc : Global) (old new : CellState D) (answer : Result Bool RestartFault) → StartsAgain told state own size alloc old new answer → rounds_of new ≤ rounds_of old + 1
  start_rounds alloc (states.Up running) new answer starts =
      let same : rounds_of new ≡ running.carried.chronicle.told.rounds = ap (λ (n : CellState D). rounds_of n) starts.0 in
      omega (arith, same)
  start_rounds alloc (states.Down stopped) new answer starts =
      let one : rounds_of new ≡ counted stopped.carried.chronicle.told.rounds = ap (λ (n : CellState D). rounds_of n) starts.node ∙ restart_rounds told state own size alloc stopped starts.restarted starts.is in
      omega (arith, one)
