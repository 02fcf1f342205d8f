-- A cell only adds to its journal: in an event, in a visit and in a restart.
use Rattle.std.proofs.Common.{◌≡◌, ◌∙◌, ap, subst, sym, refl, inl, inr, ℕ, Bool, true, false, List, [], ◌∷◌, ◌++◌, map, append_assoc}
use Rattle.std.proofs.lemmas.List.{append-nil}
use Rattle.std.specs.Prelude.{Option, Some, None, Result}
use Rattle.std.specs.Global.{Global}
use Rattle.qs_disk.specs.Disk.{DiskState}
use Rattle.qs_files.specs.declared.files.Files.{Files}
use Rattle.qs_book_journal.specs.declared.entry.Entry.{Entry}
use Rattle.qs_ops.specs.declared.no_server.NoServer.{NoServer}
use Rattle.qs_node_step.specs.declared.event.ClientAnswer.{ClientAnswer}
use Rattle.qs_cell_chronicle.specs.Carried.{Seen, seen}
use Rattle.qs_cell_chronicle.specs.Chronicle.{Told, is_last, is_last_past, stamped, numbered, entry_of}
use Rattle.qs_cell_chronicle.specs.Occasions.{stamp_in}
use Rattle.qs_cell_chronicle.specs.declared.occasion.Occasion.{Occasion}
use Rattle.qs_link.specs.declared.ends.NodeEnds.{NodeEnds}
use Rattle.qs_cell.specs.Cell.{IsOutcome, begun, begun_past, stepped, labels_of, out_of}
use Rattle.qs_cell.specs.Restart.{IsRestarted}
use Rattle.qs_cell.specs.State.{Up, IsSeenAs, state_of, state_after, carried_of, StartsAgain}
use Rattle.qs_cell.specs.Visits.{Seat, MakesIn, TakesTurn, Turns, IsBroken, TurnsAll, TurnsSome, Grows, entries_in, due, left_by}
use Rattle.qs_cell.specs.declared.cell.EventSource.{EventSource}
use Rattle.qs_cell.specs.Outcomes.{Outcome}
use Rattle.qs_cell.specs.Outcomes as outcomes
use Rattle.qs_cell.specs.declared.state.CellState.{CellState}
use Rattle.qs_cell.specs.declared.state.CellState.TheVariants as states
use Rattle.qs_cell.specs.declared.state.RestartFault.{RestartFault}
use Rattle.qs_cell.specs.declared.stopped.Restarted.{Restarted}
use Rattle.qs_cell.specs.declared.stopped.Restarted.TheVariants as restarts
use Rattle.qs_cell.specs.declared.stopped.Stopped.{Stopped}

-- ---- lists that grow

grows_not : (old new : List Entry) → new ≡ old → Grows old new
grows_not old new is = record { made = []; is = is ∙ sym (append-nil old) }

grows_by : (old mid new more : List Entry) → mid ≡ old → new ≡ mid ++ more → Grows old new
grows_by old mid new more same is = record { made = more; is = is ∙ ap (λ (l : List Entry). l ++ more) same }

pub grows_on : (a b c : List Entry) → Grows a b → Grows b c → Grows a c
grows_on a b c first second = record {
  made = first.made ++ second.made;
  is = second.is ∙ ap (λ (l : List Entry). l ++ second.made) first.is ∙ append_assoc a first.made second.made;
}

-- nothing was added
pub entries_same : {D : Type 0} (old new : CellState D) → entries_in new ≡ entries_in old → Grows (entries_in old) (entries_in new)
entries_same old new same = grows_not (entries_in old) (entries_in new) same

-- a stamp adds nothing
stamped_same : (told : Told) → (stamped told).journal ≡ told.journal
stamped_same told = by (is_last told) refl
  where
    by : (b : Bool) → is_last told ≡ b → (stamped told).journal ≡ told.journal
    by true is = rw is refl
    by false is = rw is refl

begun_same : (other : ℕ) (told : Told) → (begun_past other told).journal ≡ told.journal
begun_same other told = by (is_last_past other (numbered told)) refl
  where
    by : (b : Bool) → is_last_past other (numbered told) ≡ b → (begun_past other told).journal ≡ told.journal
    by true is = rw is refl
    by false is = rw is refl

pub past_same : (other : ℕ) (told : Told) (new made : List Entry) → new ≡ (begun_past other told).journal ++ made → Grows told.journal new
past_same other told new made is = grows_by told.journal (begun_past other told).journal new made (begun_same other told) is

-- ---- an event

made_by : {D : Type 0} (own : D → ℕ) (size : ℕ) (occasion : Occasion) (old : Up D) (outcome : Outcome D Files NoServer) → IsOutcome own size occasion old outcome
    → Grows old.carried.chronicle.told.journal (carried_of (state_of outcome)).chronicle.told.journal
made_by own size occasion old (outcomes.Whole running answers) is = past_same (stamp_in occasion) old.carried.chronicle.told running.carried.chronicle.told.journal _ (ap (λ (s : Seen). s.told.journal) is.seen)
made_by own size occasion old (outcomes.Followed stopped answers) is =
    grows_on old.carried.chronicle.told.journal whole.told.journal stopped.carried.chronicle.told.journal
    (past_same (stamp_in occasion) old.carried.chronicle.told whole.told.journal
    (map (entry_of (begun occasion old.carried.chronicle.told).node (begun occasion old.carried.chronicle.told).stamp) (out_of size occasion old).entries) refl)
    (grows_by whole.told.journal (stamped whole.told).journal stopped.carried.chronicle.told.journal _ (stamped_same whole.told)
    (ap (λ (s : Seen). s.told.journal) is.seen))
  where
    whole : Seen
    whole = stepped occasion old.carried.setting.inc (labels_of size occasion old) (out_of size occasion old) is.put (seen old.carried)
made_by own size occasion old (outcomes.Replaced stopped) is = past_same (stamp_in occasion) old.carried.chronicle.told stopped.carried.chronicle.told.journal _ (ap (λ (t : Told). t.journal) is.told)
made_by own size occasion old (outcomes.CutOff stopped) is = past_same (stamp_in occasion) old.carried.chronicle.told stopped.carried.chronicle.told.journal _ (ap (λ (t : Told). t.journal) is.told)

pub made_in : {D : Type 0} (told : Type 0) (state : D → DiskState) (own size : D → ℕ) (occasion : Occasion) (old new : CellState D) (answers : List ClientAnswer)
    → MakesIn told state own size occasion old new answers → Grows (entries_in old) (entries_in new)
made_in {D} told state own size occasion (states.Up old) new answers makes =
    subst (λ (node : CellState D). Grows old.carried.chronicle.told.journal (entries_in node)) (sym makes.node)
    (made_by own (size old.host.log.disk.disk) occasion old makes.outcome makes.is)
made_in {D} told state own size occasion (states.Down old) new answers makes = grows_not _ _ (ap (λ (node : CellState D). entries_in node) makes.0)

-- ---- a visit

pub seen_same : {D : Type 0} (f : Seen → Seen) (old new : CellState D) → ((s : Seen) → (f s).told.journal ≡ s.told.journal) → IsSeenAs f old new
    → entries_in new ≡ entries_in old
seen_same f (states.Up old) (states.Up new) keeps is = ap (λ (s : Seen). s.told.journal) is.1.0 ∙ keeps (seen old.carried)
seen_same f (states.Down old) (states.Down new) keeps is = ap (λ (s : Seen). s.told.journal) is.1.1.1.0 ∙ keeps (seen old.carried)
seen_same f (states.Up old) (states.Down new) keeps is = absurd is
seen_same f (states.Down old) (states.Up new) keeps is = absurd is

module _ {D : Type 0} (told : Type 0) (state : D → DiskState) (own size : D → ℕ) where
  turn_grows : (occasion : Option Occasion) (left : List NodeEnds) (old new : Seat D) → TakesTurn told state own size occasion left old new
      → Grows (entries_in old.node) (entries_in new.node)
  turn_grows None left old new is = grows_not _ _ (ap (λ (seat : Seat D). entries_in seat.node) is)
  turn_grows (Some occasion) left old new is = made_in told state own size occasion old.node new.node is.0 is.1.0

  one_grows : (source : EventSource) (old new : Seat D) → Turns told state own size source old new → Grows (entries_in old.node) (entries_in new.node)
  one_grows source old new turns =
      grows_on _ _ _ (grows_not _ _ (seen_same (λ s. s) old.node turns.ready (λ s. refl) turns.same))
      (turn_grows (due source turns.ready old.ends) (left_by source turns.ready old.ends) (record { node = turns.ready; ends = old.ends }) new turns.turn)

  broken_grows : (source : EventSource) (old new : Seat D) → IsBroken told state own size source old new → Grows (entries_in old.node) (entries_in new.node)
  broken_grows source old new (inl same) = grows_not _ _ (seen_same (λ s. s) old.node new.node (λ s. refl) same.0)
  broken_grows source old new (inr made) =
      grows_on _ _ _ (grows_not _ _ (seen_same (λ s. s) old.node made.0 (λ s. refl) made.1.0))
      (made_in told state own size made.1.1.0 made.0 new.node made.1.1.1.1.0 made.1.1.1.1.1)

  pub all_grow : (sources : List EventSource) (old new : Seat D) → TurnsAll told state own size sources old new → Grows (entries_in old.node) (entries_in new.node)
  all_grow [] old new is = grows_not _ _ (ap (λ (seat : Seat D). entries_in seat.node) is)
  all_grow (source ∷ sources) old new all = grows_on _ _ _ (one_grows source old all.0 all.1.0) (all_grow sources all.0 new all.1.1)

  pub some_grow : (sources : List EventSource) (old new : Seat D) → TurnsSome told state own size sources old new → Grows (entries_in old.node) (entries_in new.node)
  some_grow [] old new is = absurd is
  some_grow (source ∷ sources) old new (inl broken) = broken_grows source old new broken
  some_grow (source ∷ sources) old new (inr on) = grows_on _ _ _ (one_grows source old on.0 on.1.0) (some_grow sources on.0 new on.1.1)

-- ---- a restart

restarted_grows : {D : Type 0} (own : D → ℕ) (alloc : Global) (old : Stopped D) (restarted : Restarted D Files NoServer) → IsRestarted own alloc old restarted
    → Grows old.carried.chronicle.told.journal (carried_of (state_after restarted)).chronicle.told.journal
restarted_grows own alloc old (restarts.Up running) is = grows_by _ _ _ _ (stamped_same _) (ap (λ (s : Seen). s.told.journal) is.seen)
restarted_grows own alloc old (restarts.Down stopped why) is = grows_not _ _ (ap (λ (s : Seen). s.told.journal) is.0.seen)

pub start_grows : {D : Type 0} (told : Type 0) (state : D → DiskState) (own size : D → ℕ) (alloc : Global) (old new : CellState D) (answer : Result Bool RestartFault)
    → StartsAgain told state own size alloc old new answer → Grows (entries_in old) (entries_in new)
start_grows {D} told state own size alloc (states.Up running) new answer is = grows_not _ _ (ap (λ (node : CellState D). entries_in node) is.0)
start_grows {D} told state own size alloc (states.Down stopped) new answer is =
    subst (λ (node : CellState D). Grows stopped.carried.chronicle.told.journal (entries_in node)) (sym is.node)
    (restarted_grows own alloc stopped is.restarted is.is)
