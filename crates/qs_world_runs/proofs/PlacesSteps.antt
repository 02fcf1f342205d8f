-- What all places hold of each transaction goes on through each step: what had begun is shown by a machine that the one before leads to, and what begins in it was not there.
use Rattle.qs_world_runs.proofs.Words.{◌≡◌, inl, inr, ℕ, ◌+◌, ◌<◌, ◌==◌, ◌&&◌, ◌||◌, Bool, true, false, Option, Some, None, is_some, refl, sym, ap, subst, ◌∙◌, nat_lt, nat_le, if◌then◌else◌, eqb-true, Tid, find_transaction, TransactionValue, names_transaction, after_step, effects_of, Event, book_of, Cut, Meet, Rise, Source, Step, Stop, event_of, may_move, moved, step_with, stepped_host, taken_by, Opening, World, ShowsAll, IsShown, IsShownWorld, StepMay, step_may, inc_taken, up_taken, inc_all}
use Rattle.qs_world_runs.proofs.Words.{up_all, each_begun_shown, move_shown, in_runs, MakesStep, Joined, book_in, entries_in, PlacedOf, PlacesAt, WholeFound}
use Rattle.qs_book_machine.specs.Lawful.{IsLawful}
use Rattle.qs_world_refine.specs.Begun.{has_begun}
use Rattle.qs_world_runs.specs.PlacesSteps.{StepsKeepPlaces}
use Rattle.qs_world_runs.proofs.FreshFinds.{fresh_find}
use Rattle.qs_world_runs.proofs.JoinedParts.{lawful_more}
use Rattle.qs_world_runs.proofs.PlacesBegin.{begun_up}
use Rattle.qs_world_runs.proofs.PlacesJoined.{whole_step_places}
use Rattle.qs_world_runs.proofs.WholeFinds.{whole_find}

module _ (o : Opening) (world : World) (n stamp free : ℕ) (source : Source) (j : Joined PlacesAt o world) (may : may_move world (Step n stamp free source) ≡ true)
    (event : Event) (comes : event_of world n stamp source ≡ Some event) (lawful : IsLawful (book_in o world) (entries_in world n stamp free event)) where
  abbrev new : World
  new = step_with world n stamp free source (Some event)

  makes : MakesStep world n stamp source event
  makes = record { may = may; comes = comes }

  its : StepMay world n source
  its = step_may world n stamp source may

  pub moved_is : moved (Step n stamp free source) world ≡ new
  moved_is = ap (step_with world n stamp free source) comes

  pub shown : IsShownWorld new
  shown = subst IsShownWorld moved_is (move_shown world (Step n stamp free source) may j.shown (each_begun_shown world (Step n stamp free source) may j.shown))

  -- ---- what begins in it is of its node

  up_is : new.channels.up ≡ world.channels.up
  up_is = up_all n stamp (effects_of (world.hosts n).node event free).messages (taken_by world n source) ∙ up_taken world n source

  inc_is : new.channels.inc ≡ world.channels.inc
  inc_is = inc_all n stamp (effects_of (world.hosts n).node event free).messages (taken_by world n source) ∙ inc_taken world n source

  begun_away : (tid : Tid) → (tid.home.0 == n) ≡ false → has_begun new tid ≡ true → has_begun world tid ≡ true
  begun_away tid far has = picked (tid.home.0 == n) far (subst (λ (inc : ℕ → ℕ). Begun world.channels.up inc (tid.home.0 == n) ≡ true) inc_is (subst (λ (up : ℕ → Bool). Begun up new.channels.inc (tid.home.0 == n) ≡ true) up_is has))
    where
      k : ℕ
      k = tid.home.0

      Begun : (ℕ → Bool) → (ℕ → ℕ) → Bool → Bool
      Begun up inc b = names_transaction tid && (nat_lt k world.size && (nat_lt tid.inc (if up k then inc k else inc k + 1) || ((tid.inc == (if up k then inc k else inc k + 1)) && nat_le tid.seq (if up k then (if b then stepped_host stamp (after_step (world.hosts n).node event free) (effects_of (world.hosts n).node event free) (world.hosts n) else world.hosts k).node.manager.begun else 0))))

      picked : (b : Bool) → b ≡ false → Begun world.channels.up world.channels.inc b ≡ true → has_begun world tid ≡ true
      picked false is so = so
      picked true is so = absurd (cc is)

  module _ (tid : Tid) (begun : has_begun new tid ≡ true) (unbegun : has_begun world tid ≡ false) where
    pub home_is : tid.home.0 ≡ n
    home_is = by (tid.home.0 == n) refl
      where
        by : (b : Bool) → (tid.home.0 == n) ≡ b → tid.home.0 ≡ n
        by true near = eqb-true tid.home.0 n near
        by false far = absurd (let was : has_begun world tid ≡ true = begun_away tid far begun in cc (was, unbegun))

    pub none_before : find_transaction (book_in o world) tid ≡ None
    none_before = by (find_transaction (book_in o world) tid) refl
      where
        by : (x : Option TransactionValue) → find_transaction (book_in o world) tid ≡ x → find_transaction (book_in o world) tid ≡ None
        by None none = none
        by (Some tx) there = absurd (let was : has_begun world tid ≡ true = begun_up (book_in o world) world (in_runs o world.journal j.opens j.lawful) j.held tid (ap is_some there) (subst (λ (k : ℕ). k < world.size) (sym home_is) its.low) (ap world.channels.up home_is ∙ its.runs) in cc (was, unbegun))

    begins : PlacedOf tid o new
    begins = subst (PlacedOf tid o) moved_is (whole_step_places tid o world n stamp free source event shows.machine j makes lawful (fresh_find shows.machine tid o world n stamp free source event j makes lawful home_is unbegun none_before) (inr none_before)
        (subst (λ (v : World). ShowsAll tid v shows.machine) (sym moved_is) shows.shows))
      where
        shows : IsShown tid new
        shows = shown.shown tid begun

  -- ---- what had begun

  goes_on : (tid : Tid) → has_begun world tid ≡ true → PlacedOf tid o new
  goes_on tid was = by (j.places tid was)
    where
      by : PlacedOf tid o world → PlacedOf tid o new
      by p = let f : WholeFound tid o world n stamp free source event p.machine = whole_find tid o world n stamp free source event p.machine j makes lawful was p.shows in
          subst (PlacedOf tid o) moved_is (whole_step_places tid o world n stamp free source event f.next j makes lawful f.finds (inl (p, f.leads)) f.shows)

  places_then : PlacesAt o new
  places_then tid begun = by (has_begun world tid) refl
    where
      by : (b : Bool) → has_begun world tid ≡ b → PlacedOf tid o new
      by true was = goes_on tid was
      by false unbegun = begins tid begun unbegun

pub steps_keep_places : StepsKeepPlaces
steps_keep_places o world (Step n stamp free source) is j may lawful = by (event_of world n stamp source) refl lawful
  where
    by : (e : Option Event) → event_of world n stamp source ≡ e → IsLawful (book_of o) (moved (Step n stamp free source) world).journal → PlacesAt o (moved (Step n stamp free source) world)
    by None none so = subst (λ (e : Option Event). PlacesAt o (step_with world n stamp free source e)) (sym none) j.places
    by (Some event) comes so = subst (λ (e : Option Event). PlacesAt o (step_with world n stamp free source e)) (sym comes)
        (places_then o world n stamp free source j may event comes
        (lawful_more o world (step_with world n stamp free source (Some event)) (entries_in world n stamp free event) refl (subst (λ (e : Option Event). IsLawful (book_of o) (step_with world n stamp free source e).journal) comes so)))
steps_keep_places o world (Cut n stamp free source is_kept cause) is j may lawful = absurd is
steps_keep_places o world (Stop n stamp cause) is j may lawful = absurd is
steps_keep_places o world (Rise n stamp inc) is j may lawful = absurd is
steps_keep_places o world (Meet n stamp m inc) is j may lawful = absurd is
