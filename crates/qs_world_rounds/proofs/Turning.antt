-- Turns in a burst: a turn is no round of the node, and leaves the lanes of its clients joined.
use Rattle.std.proofs.Common.{◌≡◌, ◌∙◌, ◌+◌, ap, subst, sym, refl, inr, ℕ, zero, suc, Bool, List, [], ◌∷◌, ◌++◌, ◌||◌, append-nil, length, map, arith}
use Rattle.std.proofs.lemmas.List.{map-append}
use Rattle.std.specs.Prelude.{Result, Ok, Err, OnErr}
use Rattle.qs_book_journal.specs.declared.entry.Entry.{Entry}
use Rattle.qs_cell.proofs.Acting.{act_rounds}
use Rattle.qs_cell.specs.Starts.{CellValue, journal_of, post_of}
use Rattle.qs_cell.specs.State.{rounds_of}
use Rattle.qs_cell.specs.Visits.{Grows, entries_in}
use Rattle.qs_client.specs.declared.cell.ClientCell.{ClientCell}
use Rattle.qs_disk.specs.Disk.{DiskState}
use Rattle.qs_world_plans.specs.Order.{places_below}
use Rattle.qs_world_rounds.specs.Repeats.{AllVisits, Visit}
use Rattle.qs_world_rounds.specs.Rounds.{CarriesAll, Cast, IsSameStart, VisitAll, visits_of}
use Rattle.qs_world_rounds.specs.Turns.{TakesSome, TakesTurn, TakesTurns, TurnIsRefused}
use Rattle.qs_world_rounds.proofs.Repeats.{visits_then}

one_more : (n : ℕ) → n + 1 ≡ suc n
one_more n = omega arith

-- the client behind those that were visited
pub client_more : {S : Type 0} (At : Visit S) (k : ℕ) (a b c : S) (d e : Bool) → AllVisits At (map suc (places_below k)) a b d → At (suc k) b c e → AllVisits At (map suc (places_below (k + 1))) a c (d || e)
client_more At k a b c d e before visit =
    subst (λ (l : List ℕ). AllVisits At l a c (d || e)) (sym (ap (λ (n : ℕ). map suc (places_below n)) (one_more k) ∙ map-append suc (places_below k) (k ∷ [])))
    (visits_then At (map suc (places_below k)) (suc k) a b c d e before visit)

-- ---- what a site keeps

module _ {D : Type 0} where
  pub start_on : (a b c : CellValue D) → IsSameStart a b → IsSameStart b c → IsSameStart a c
  start_on a b c first second = record {
    opened = second.opened ∙ first.opened;
    faults = second.faults ∙ first.faults;
    links = record { size = second.links.size ∙ first.links.size; me = second.links.me ∙ first.links.me };
  }

  pub start_same : (a b : CellValue D) → b ≡ a → IsSameStart a b
  start_same a b is = subst (IsSameStart a) (sym is) (record { opened = refl; faults = refl; links = record { size = refl; me = refl } })

  pub carried_node : (old new : CellValue D) (xs ys : List ClientCell) → CarriesAll old new xs ys → new.seat.node ≡ old.seat.node
  carried_node old new [] [] is = ap (λ (c : CellValue D). c.seat.node) is
  carried_node old new (x ∷ xs) (y ∷ ys) (mid, (both, rest)) = carried_node mid new xs ys rest ∙ both.node
  carried_node old new [] (y ∷ ys) none = absurd none
  carried_node old new (x ∷ xs) [] none = absurd none

-- its journal
pub grows_none : (journal : List Entry) → Grows journal journal
grows_none journal = record { made = []; is = sym (append-nil journal) }

pub grows_as : {D : Type 0} (a b : CellValue D) → b.seat.node ≡ a.seat.node → Grows (journal_of a) (journal_of b)
grows_as a b is = subst (λ n. Grows (journal_of a) (entries_in n)) (sym is) (grows_none (journal_of a))

pub on_err_map : {T E A B : Type 0} (result : Result T E) → OnErr result A → (A → B) → OnErr result B
on_err_map (Ok t) a f = a
on_err_map (Err e) a f = f a

-- ---- turns

module _ {D : Type 0} (told : Type 0) (state : D → DiskState) (own size : D → ℕ) where
  pub clients_alone : (clients : List ℕ) (old new : Cast D) (did : Bool) → VisitAll told state own size (map suc clients) old new did → new.node ≡ old.node
  clients_alone [] old new did visits = ap (λ (c : Cast D). c.node) visits.0
  clients_alone (at ∷ clients) old new did (mid, (first, (more, (visit, (rest, is))))) = clients_alone clients mid new more rest ∙ visit.0

  pub turns_more : (turns : ℕ) (old mid new : Cast D) → TakesTurns told state own size turns old mid → TakesTurn told state own size mid new → TakesTurns told state own size (turns + 1) old new
  turns_more turns old mid new before turn = subst (λ (n : ℕ). TakesTurns told state own size n old new) (sym (one_more turns)) (mid, (before, turn))

  pub took_some : (turns few : ℕ) (old mid new : Cast D) → TakesTurns told state own size few old mid → TurnIsRefused told state own size mid new → TakesSome told state own size turns old new
  took_some turns few old mid new before refused = inr (few, (mid, (before, refused)))

  turn_rounds : (old new : Cast D) → TakesTurn told state own size old new → visits_of new ≡ visits_of old
  turn_rounds old new turn = act_rounds told state own size (post_of turn.visited.node) (post_of new.node) turn.act.acts
      ∙ (ap (λ (c : CellValue D). rounds_of c.seat.node) (clients_alone (places_below (length turn.carried.clients)) turn.carried turn.visited turn.did turn.visits)
      ∙ ap (λ n. rounds_of n) (carried_node old.node turn.carried.node old.clients turn.carried.clients turn.carries))

  pub turns_rounds : (turns : ℕ) (old new : Cast D) → TakesTurns told state own size turns old new → visits_of new ≡ visits_of old
  turns_rounds zero old new same = ap (λ (c : Cast D). visits_of c) same
  turns_rounds (suc turns) old new (mid, (before, turn)) = turn_rounds mid new turn ∙ turns_rounds turns old mid before
