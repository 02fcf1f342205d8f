-- What all places hold goes on through a whole step of a world in which all stands together.
use Rattle.qs_world_runs.proofs.Words.{◌≡◌, ◌⊎◌, inl, inr, ℕ, ◌+◌, ◌≤◌, Bool, true, false, List, ◌++◌, length, length-append, Option, Some, None, refl, sym, ap, subst, ◌∙◌, arith, Tid, after_both, BookValue, find_transaction, book_after, TransactionValue, work_on, Event, book_of, opened_from, Source, step_with, taken_by, Opening, Parcel, World, IsDoomed, doom_stays, StepMay, step_may, up_taken, HoldsNodeAt, opens_soundly, lasts_first, lasts_ran, LastsWell, opened_numbered, opening_named}
use Rattle.qs_world_runs.proofs.Words.{MakesStep, Joined, book_in, entries_in, PlacesAt, Field, HoldsPlaced, Placed, field_of, OpenPlaced, Here, AreInOrder, IsAmid, some_same}
use Rattle.qs_book_machine.specs.Lawful.{IsLawful}
use Rattle.qs_book_machine.specs.Nodes as book_nodes
use Rattle.qs_book_machine.specs.Transaction.{is_open}
use Rattle.qs_world_agree.specs.World as machine
use Rattle.qs_world_refine.proofs.Channelled.{IsWell}
use Rattle.qs_world_refine.proofs.Seating.{well_seated, well_taken}
use Rattle.qs_world_runs.specs.PlacesJoined.{WasPlaced, WholeStepHolds, WholeStepPlaces}
use Rattle.qs_world_runs.specs.PlacesWhole.{StepsWell}
use Rattle.qs_world_runs.proofs.StepsWhole.{step_places}

-- ---- what all places hold, with what dooms said of all of it or of each

module _ (tid : Tid) (book : BookValue) (field : Field) (D : Type 0) where
  -- of all
  pub held_here : (w : machine.World) → (IsDoomed w → D) → HoldsPlaced tid book field w → D ⊎ Here tid (OpenPlaced tid field) book
  held_here w dooms holds = by (find_transaction book tid) refl
    where
      of_tx : (tx : TransactionValue) → find_transaction book tid ≡ Some tx → IsDoomed w ⊎ Placed tid tx field → D ⊎ Here tid (OpenPlaced tid field) book
      of_tx tx found (inl doomed) = inl (dooms doomed)
      of_tx tx found (inr placed) = inr (λ other there undecided. subst (λ (x : TransactionValue). Placed tid x field) (some_same (sym found ∙ there)) placed)

      of_cell : (tx : TransactionValue) → find_transaction book tid ≡ Some tx → (b : Bool) → is_open tx.cell ≡ b → D ⊎ Here tid (OpenPlaced tid field) book
      of_cell tx found true undecided = of_tx tx found (holds tx found undecided)
      of_cell tx found false over = inr (λ other there undecided. absurd (cc (ap (λ (x : TransactionValue). is_open x.cell) (some_same (sym found ∙ there)), over, undecided)))

      by : (x : Option TransactionValue) → find_transaction book tid ≡ x → D ⊎ Here tid (OpenPlaced tid field) book
      by None none = inr (λ tx found. absurd (cc (none, found)))
      by (Some tx) found = of_cell tx found (is_open tx.cell) refl

  -- of each
  here_held : (w : machine.World) → (D → IsDoomed w) → D ⊎ Here tid (OpenPlaced tid field) book → HoldsPlaced tid book field w
  here_held w dooms (inl doomed) tx found undecided = inl (dooms doomed)
  here_held w dooms (inr placed) tx found undecided = inr (placed tx found undecided)

-- ---- what a step finds

least : (a b c : ℕ) → c ≡ a + b → a ≤ c
least a b c is = omega (arith, is)

module _ (o : Opening) (world : World) (j : Joined PlacesAt o world) (n stamp free : ℕ) (source : Source) (event : Event) (makes : MakesStep world n stamp source event) where
  abbrev book : BookValue
  book = book_in o world

  its : StepMay world n source
  its = step_may world n stamp source makes.may

  at : HoldsNodeAt book world n
  at = j.held.nodes n its.low

  well : LastsWell book
  well = lasts_ran world.journal (book_of o) (lasts_first (opened_from o 0 o.size) (opens_soundly o j.opens) (opening_named (opened_from o 0 o.size) (opened_numbered o 0 o.size))) j.lawful

  pub amid : IsAmid (field_of world) n stamp book (work_on (world.hosts n).node free)
  amid = record {
    inv = well.inv;
    here = at.node;
    in_run = its.low;
    up = its.runs;
    inc = ap (λ (x : Option book_nodes.NodeValue). elim x [ None ↦ 0 | Some state ↦ state.inc ]) at.there ∙ at.inc_is;
  }

  in_order : AreInOrder (taken_by world n source) n
  in_order = record {
    up = ap (λ (f : ℕ → Bool). f n) (up_taken world n source) ∙ its.runs;
    known = λ q. taken.known q n;
    handed = λ p q i k. let rest : (rest : List Parcel) × ((taken_by world n source).posted p q i k ≡ (taken_by world n source).handed p q i k ++ rest) = taken.ordered p q i k in
        least (length ((taken_by world n source).handed p q i k)) (length rest.0) (length ((taken_by world n source).posted p q i k)) (ap length rest.1 ∙ length-append ((taken_by world n source).handed p q i k) rest.0);
  }
    where
      taken : IsWell (taken_by world n source)
      taken = well_taken world n stamp source event makes.comes (well_seated world j.shown.steady.seated)

  module _ (tid : Tid) (w : machine.World) (lawful : IsLawful book (entries_in world n stamp free event)) (finds : StepsWell (IsDoomed w) tid world n stamp free book source event) where
    abbrev new : World
    new = step_with world n stamp free source (Some event)

    first : WasPlaced tid o world w → IsDoomed w ⊎ Here tid (OpenPlaced tid (field_of world)) book
    first (inl was) = held_here tid book (field_of world) (IsDoomed w) was.0.machine (λ doomed. doom_stays was.0.machine w doomed was.1) was.0.placed
    first (inr none) = inr (λ tx found. absurd (cc (none, found)))

    later : WasPlaced tid o world w → IsDoomed w ⊎ Here tid (OpenPlaced tid (field_of new)) (book_after book (entries_in world n stamp free event))
    later was = step_places w tid world n stamp free book source event makes.comes in_order amid finds lawful (first was)

    holds_new : WasPlaced tid o world w → HoldsPlaced tid (book_in o new) (field_of new) w
    holds_new was = here_held tid (book_in o new) (field_of new) (IsDoomed w) w (λ doomed. doomed)
        (subst (λ (b : BookValue). IsDoomed w ⊎ Here tid (OpenPlaced tid (field_of new)) b) (sym (after_both world.journal (entries_in world n stamp free event) (book_of o))) (later was))

pub whole_step_holds : WholeStepHolds
whole_step_holds tid o world n stamp free source event w j makes lawful finds was = subst (λ (e : Option Event). HoldsPlaced tid (book_in o (step_with world n stamp free source e)) (field_of (step_with world n stamp free source e)) w) (sym makes.comes)
    (holds_new o world j n stamp free source event makes tid w lawful finds was)

pub whole_step_places : WholeStepPlaces
whole_step_places tid o world n stamp free source event w j makes lawful finds was shows = record { machine = w; shows = shows; placed = whole_step_holds tid o world n stamp free source event w j makes lawful finds was }
