-- The turns of a visit, one after the other, up to a refusal of memory.
use Rattle.std.proofs.Common.{◌≡◌, ◌∙◌, ◌<◌, ap, subst, sym, refl, inl, inr, ℕ, zero, suc, ◌+◌, List, [], ◌∷◌, ◌++◌, length, take, drop, get_or, arith}
use Rattle.std.specs.Prelude.{Option, Some, None, Result, Ok, Err, OnOk, OnErr}
use Rattle.qs_disk.specs.Disk.{DiskState}
use Rattle.qs_node_step.specs.declared.event.ClientAnswer.{ClientAnswer}
use Rattle.qs_cell_chronicle.specs.declared.occasion.Occasion.{Occasion}
use Rattle.qs_cell.specs.Joined.{HaveSameRings}
use Rattle.qs_cell.specs.Visits.{Seat, Turns, TakesTurn, MakesIn, IsBroken, TurnsAll, TurnsSome, IsSameNode, sources_of, due, left_by, all_delivered}
use Rattle.qs_cell.specs.declared.cell.EventSource.{EventSource}
use Rattle.qs_cell.specs.declared.cell.EventSource.TheVariants as sources
use Rattle.qs_cell.specs.declared.state.CellState.{CellState}
use Rattle.qs_cell.specs.declared.state.CellState.TheVariants as states
use Rattle.qs_link.specs.declared.ends.NodeEnds.{NodeEnds}

take_more : (xs : List EventSource) (i : ℕ) (d : EventSource) → i < length xs → take (suc i) xs ≡ take i xs ++ get_or xs i d ∷ []
take_more [] i d less = absurd (omega (arith, less))
take_more (x ∷ xs) zero d less = refl
take_more (x ∷ xs) (suc i) d less = ap (λ (l : List EventSource). x ∷ l) (take_more xs i d (omega (arith, less)))

split_at : (xs : List EventSource) (i : ℕ) (d : EventSource) → i < length xs → take i xs ++ get_or xs i d ∷ drop (suc i) xs ≡ xs
split_at [] i d less = absurd (omega (arith, less))
split_at (x ∷ xs) zero d less = refl
split_at (x ∷ xs) (suc i) d less = ap (λ (l : List EventSource). x ∷ l) (split_at xs i d (omega (arith, less)))

one_more : (i : ℕ) → i + 1 ≡ suc i
one_more i = omega arith

module _ {D : Type 0} (told : Type 0) (state : D → DiskState) (own size : D → ℕ) where
  more : (xs : List EventSource) (s : EventSource) (a b c : Seat D) → TurnsAll told state own size xs a b → Turns told state own size s b c
      → TurnsAll told state own size (xs ++ s ∷ []) a c
  more [] s a b c all turn = (c, (subst (λ (x : Seat D). Turns told state own size s x c) all turn, refl))
  more (x ∷ xs) s a b c all turn = (all.0, (all.1.0, more xs s all.0 b c all.1.1 turn))

  broken : (xs : List EventSource) (s : EventSource) (ys : List EventSource) (a b c : Seat D) → TurnsAll told state own size xs a b → IsBroken told state own size s b c
      → TurnsSome told state own size (xs ++ s ∷ ys) a c
  broken [] s ys a b c all turn = inl (subst (λ (x : Seat D). IsBroken told state own size s x c) all turn)
  broken (x ∷ xs) s ys a b c all turn = inr (all.0, (all.1.0, broken xs s ys all.0 b c all.1.1 turn))

  -- the turn of the next source
  pub turns_more : (xs : List EventSource) (i : ℕ) (s d : EventSource) (a b c : Seat D) → i < length xs → s ≡ get_or xs i d → TurnsAll told state own size (take i xs) a b
      → Turns told state own size s b c → TurnsAll told state own size (take (i + 1) xs) a c
  turns_more xs i s d a b c less is all turn =
      subst (λ (l : List EventSource). TurnsAll told state own size l a c)
      (sym (ap (λ (n : ℕ). take n xs) (one_more i) ∙ take_more xs i d less ∙ ap (λ (x : EventSource). take i xs ++ x ∷ []) (sym is)))
      (more (take i xs) s a b c all turn)

  -- the turn in which memory was refused
  pub turns_broken : (xs : List EventSource) (i : ℕ) (s d : EventSource) (a b c : Seat D) → i < length xs → s ≡ get_or xs i d → TurnsAll told state own size (take i xs) a b
      → IsBroken told state own size s b c → TurnsSome told state own size xs a c
  turns_broken xs i s d a b c less is all turn =
      subst (λ (l : List EventSource). TurnsSome told state own size l a c) (ap (λ (x : EventSource). take i xs ++ x ∷ drop (suc i) xs) is ∙ split_at xs i d less)
      (broken (take i xs) s (drop (suc i) xs) a b c all turn)

  -- one turn, in which nothing is due
  pub turn_none : (source : EventSource) (seat : Seat D) (old ready : CellState D) (ends left : List NodeEnds) → record { node = old; ends = ends } ≡ seat
      → IsSameNode old ready → due source ready ends ≡ None → left ≡ left_by source ready ends
      → Turns told state own size source seat (record { node = ready; ends = left })
  turn_none source seat old ready ends left is same none left_is =
      subst (λ (s : Seat D). Turns told state own size source s (record { node = ready; ends = left })) is (record {
        ready = ready;
        same = same;
        turn = subst (λ (d : Option Occasion).
            TakesTurn told state own size d (left_by source ready ends) (record { node = ready; ends = ends }) (record { node = ready; ends = left }))
            (sym none) (ap (λ (l : List NodeEnds). record { node = ready; ends = l }) left_is);
      })

  -- in which an event is made, and its answers go out
  pub turn_made : (source : EventSource) (occasion : Occasion) (seat : Seat D) (old ready new : CellState D) (ends left after : List NodeEnds) (answers : List ClientAnswer)
      → record { node = old; ends = ends } ≡ seat → IsSameNode old ready → due source ready ends ≡ Some occasion → left ≡ left_by source ready ends
      → MakesIn told state own size occasion ready new answers → after ≡ all_delivered answers left
      → Turns told state own size source seat (record { node = new; ends = after })
  turn_made source occasion seat old ready new ends left after answers is same some left_is makes after_is =
      subst (λ (s : Seat D). Turns told state own size source s (record { node = new; ends = after })) is (record {
        ready = ready;
        same = same;
        turn = subst (λ (d : Option Occasion).
            TakesTurn told state own size d (left_by source ready ends) (record { node = ready; ends = ends }) (record { node = new; ends = after }))
            (sym some) (answers, (makes, after_is ∙ ap (all_delivered answers) left_is));
      })

  -- or its answers do not
  pub turn_broken : (source : EventSource) (occasion : Occasion) (seat new : Seat D) (old ready : CellState D) (ends : List NodeEnds) (answers : List ClientAnswer)
      → record { node = old; ends = ends } ≡ seat → IsSameNode old ready → due source ready ends ≡ Some occasion
      → MakesIn told state own size occasion ready new.node answers → IsBroken told state own size source seat new
  turn_broken source occasion seat new old ready ends answers is same some makes =
      subst (λ (s : Seat D). IsBroken told state own size source s new) is (inr (ready, (same, (occasion, (some, (answers, makes))))))

-- ---- what stays

-- the sources of a visit are those of its clients
same_sources : (old new : List NodeEnds) → HaveSameRings old new → sources_of new ≡ sources_of old
same_sources [] [] same = refl
same_sources (x ∷ xs) (y ∷ ys) same =
    ap (λ client. sources.Client client ∷ sources_of ys) same.0.client ∙ ap (λ (rest : List EventSource). sources.Client x.client ∷ rest) (same_sources xs ys same.1)
same_sources [] (y ∷ ys) same = absurd same
same_sources (x ∷ xs) [] same = absurd same

-- also as a slice lends them
pub sources_now : (old now lent : List NodeEnds) → lent ≡ now → HaveSameRings old now → sources_of lent ≡ sources_of old
sources_now old now lent is same = ap sources_of is ∙ same_sources old now same

pub within : (old lent : List NodeEnds) (place count : ℕ) → lent ≡ old → count ≡ length (sources_of lent) → place < count → place < length (sources_of old)
within old lent place count is count_is less = subst (λ (n : ℕ). place < n) (count_is ∙ ap (λ (ends : List NodeEnds). length (sources_of ends)) is) less

pub on_err_all : {T E A : Type 0} (result : Result T E) → A → OnErr result A
on_err_all (Ok t) a = tt
on_err_all (Err e) a = a

pub on_ok_map : {T E A B : Type 0} (result : Result T E) → OnOk result A → (A → B) → OnOk result B
on_ok_map (Ok t) a f = f a
on_ok_map (Err e) a f = a

pub same_node : {D : Type 0} (node : CellState D) → IsSameNode node node
same_node (states.Up running) = ((refl, refl), (refl, refl))
same_node (states.Down stopped) = (refl, (refl, ((refl, refl), (refl, refl))))

-- refused before the first turn
pub none_taken : {D : Type 0} (told : Type 0) (state : D → DiskState) (own size : D → ℕ) (ends : List NodeEnds) (seat : Seat D)
    → TurnsSome told state own size (sources_of ends) seat seat
none_taken told state own size [] seat = inl (inl (same_node seat.node, refl))
none_taken told state own size (end ∷ ends) seat = inl (inl (same_node seat.node, refl))
