-- A node restarts, whatever its log has of the transaction: Restart, Restart_in_doubt, or Restart_home and Learn_abort_home.
use Rattle.qs_world_refine.proofs.Words.{◌≡◌, ◌≢◌, inr, ℕ, ◌<◌, ◌≤◌, ◌==◌, ◌&&◌, Bool, true, false, [], ◌∷◌, arith, refl, sym, ◌∙◌, ap, subst, if◌then◌else◌, list_any, nat_tests, same_tid, Tid, is_untold_of, Open, Committed, Aborted, Restart, Restart_in_doubt, Restart_home, Learn_abort_home, Leads, IsLawful, Face, place, ArePlaced, IsRisenFace, outcome_at_home, sight_risen_as, SightGoes, Sight, ShowsSight, has_doubt}
use Rattle.qs_world_agree.specs.World.{World, Outcome, with_at}
use Rattle.qs_world_agree.specs.Guards.{closed}
use Rattle.qs_world_agree.specs.Step.{Step}
use Rattle.qs_world_refine.specs.Faces.{blank_face}
use Rattle.qs_world_refine.specs.Links.{is_aborted}
use Rattle.qs_world_refine.specs.RiseLaws.{MayRise, RiseGoes}
use Rattle.qs_world_refine.specs.RisingLaws.{RestartGoes}
use Rattle.qs_world_refine.proofs.Doubts.{is_doubt_at, none_of, some_of}
use Rattle.qs_world_refine.proofs.Facts.{invariant}
use Rattle.qs_world_refine.proofs.FreshRuns.{fresh}
use Rattle.qs_world_refine.proofs.Restarting.{IsUnborn, Rises, risen_world, new_shown, after}
use Rattle.qs_world_refine.proofs.UnbornRuns.{unborn}

-- ---- a value at one place

at_it : {A : Type 0} (f : ℕ → A) (q : ℕ) (a : A) → with_at f q a q ≡ a
at_it f q a = grind (arith, nat_tests)

off_it : {A : Type 0} (f : ℕ → A) (q : ℕ) (a : A) (k : ℕ) → k ≢ q → with_at f q a k ≡ f k
off_it f q a k other = grind (arith, nat_tests, other)

-- what was aborted stays so
stays_aborted : (o : Outcome) → ◌≡◌ {A = Bool} (elim o [ Aborted ↦ true | Open ↦ false | Committed ↦ false ]) true → ◌≡◌ {A = Bool} (elim (closed o) [ Aborted ↦ true | Open ↦ false | Committed ↦ false ]) true
stays_aborted Open is = absurd (cc (is))
stays_aborted Committed is = is
stays_aborted Aborted is = refl

module _ (tid : Tid) (x : Sight) (w : World) (n new : ℕ) (lawful : IsLawful w) (shown : ShowsSight tid x w) (may : MayRise x n new) (home_in : tid.home.0 < x.size)
    (stranger : (m : ℕ) → w.peer (place n new) m ≡ 0) where
  abbrev q : ℕ
  q = place n new

  abbrev present : ℕ → ℕ
  present = with_at w.present (w.node q) q

  abbrev up : ℕ → Bool
  up = with_at w.up q true

  node_q : w.node q ≡ n
  node_q = shown.stage.nodes n new may.in_run

  home_node : w.node w.home ≡ tid.home.0
  home_node = ap w.node shown.stage.home ∙ shown.stage.nodes tid.home.0 tid.inc home_in

  before : w.present (w.node q) < q
  before = less (w.present (w.node q)) (ap w.present node_q ∙ shown.stage.present n may.in_run)
    where
      less : (a : ℕ) → a ≡ place n (x.inc n) → a < place n new
      less a e = omega (arith, e, may.later)

  was_down : w.up (w.present (w.node q)) ≡ false
  was_down = ap w.up (ap w.present node_q ∙ shown.stage.present n may.in_run) ∙ (shown.stage.up n (x.inc n) may.in_run ∙ ap (λ (b : Bool). b && (x.inc n == x.inc n)) may.down)

  newborn : IsUnborn w q
  newborn = record { later = before; blank = unborn w lawful q before; counts = (invariant w lawful).counts; fresh = fresh w lawful; stranger = stranger }

  rises : (involved : ℕ → Bool) (outcome : ℕ → Outcome) (acknowledged : ℕ → Bool) (cell : Outcome) (learnt : ℕ → Bool) → ((k : ℕ) → k ≢ q → involved k ≡ w.involved k) → ((k : ℕ) → k ≢ q → outcome k ≡ w.outcome k)
      → (is_aborted w ≡ true → is_aborted (record w { cell = cell }) ≡ true) → Rises q w present up involved outcome acknowledged cell learnt
  rises involved outcome acknowledged cell learnt drawn knows aborted = record {
    present_here = at_it w.present (w.node q) q;
    present_other = off_it w.present (w.node q) q;
    up_here = at_it w.up q true;
    up_other = off_it w.up q true;
    involved_other = drawn;
    outcome_other = knows;
    aborted = aborted;
  }

  -- ---- another node than the home

  module _ (elsewhere : tid.home.0 ≢ n) (f : Face) (is : IsRisenFace tid n (x.found n) f) where
    away : w.node q ≢ w.node w.home
    away e = elsewhere (sym home_node ∙ (sym e ∙ node_q))

    unknown : f.outcome ≡ Open
    unknown = is.outcome ∙ by (tid.home.0 == n) refl
      where
        by : (b : Bool) → (tid.home.0 == n) ≡ b → (if b then outcome_at_home tid (x.found n) else Open) ≡ Open
        by true same = absurd (elsewhere (grind (arith, nat_tests, same)))
        by false apart = refl

    abbrev drawn : Bool → ℕ → Bool
    drawn b = with_at w.involved q b

    plain : (b : Bool) → Rises q w present up (drawn b) w.outcome w.acknowledged w.cell w.learnt_abort
    plain b = rises (drawn b) w.outcome w.acknowledged w.cell w.learnt_abort (off_it w.involved q b) (λ k other. refl) (λ so. so)

    goes : (b : Bool) → Leads w (risen_world q w present up (drawn b) w.outcome w.acknowledged w.cell w.learnt_abort) → has_doubt tid (x.found n) ≡ b → SightGoes tid (sight_risen_as x n new f) w
    goes b leads doubt = record {
      next = risen_world q w present up (drawn b) w.outcome w.acknowledged w.cell w.learnt_abort;
      leads = leads;
      shown = after tid x w n new shown may present up (drawn b) w.outcome w.acknowledged w.cell w.learnt_abort (plain b) newborn f
          (new_shown q w present up (drawn b) w.outcome w.acknowledged w.cell w.learnt_abort (plain b) newborn tid n (x.found n) f is (newborn.blank.outcome ∙ sym unknown) (λ known. at_it w.involved q b ∙ (sym doubt ∙ sym (is.involved known))));
    }

    prepared_at : (s : ℕ) → w.prepared (w.node q) s ≡ list_any (is_doubt_at tid s) (x.found n).prepared
    prepared_at s = ap (λ (k : ℕ). w.prepared k s) node_q ∙ (shown.logs n may.in_run).prepared s

    pub elsewhere_goes : SightGoes tid (sight_risen_as x n new f) w
    elsewhere_goes = by (has_doubt tid (x.found n)) refl
      where
        by : (b : Bool) → has_doubt tid (x.found n) ≡ b → SightGoes tid (sight_risen_as x n new f) w
        by false none = goes false (record { events = Restart q ∷ []; run = (_, (was_down, before, away, (λ s. prepared_at s ∙ none_of tid s (x.found n).prepared none), refl), refl) }) none
        by true some = let vote = some_of tid (x.found n).prepared some in
            goes true (record { events = Restart_in_doubt q vote.0 ∷ []; run = (_, (was_down, before, away, prepared_at vote.0 ∙ vote.1, refl), refl) }) some

  -- ---- the home's node

  module _ (here : tid.home.0 ≡ n) (f : Face) (is : IsRisenFace tid n (x.found n) f) where
    at_home : w.node q ≡ w.node w.home
    at_home = node_q ∙ (sym here ∙ sym home_node)

    not_home : q ≢ w.home
    not_home e = later_than w.home q ((invariant w lawful).keeps q).home_born (subst (λ (m : ℕ). w.present m < q) at_home before) e
      where
        later_than : (a b : ℕ) {c : ℕ} → a ≤ c → c < b → b ≡ a → ⊥
        later_than a b d e g = omega (arith, d, e, g)

    abbrev knows : Outcome → ℕ → Outcome
    knows o = with_at w.outcome q o

    abbrev nobody : ℕ → Bool
    nobody m = false

    abbrev drawn_none : ℕ → Bool
    drawn_none = with_at w.involved q false

    home_rises : (o : Outcome) (outcome : ℕ → Outcome) (learnt : ℕ → Bool) → ((k : ℕ) → k ≢ q → outcome k ≡ w.outcome k) → Rises q w present up drawn_none outcome nobody (closed w.cell) learnt
    home_rises o outcome learnt others = rises drawn_none outcome nobody (closed w.cell) learnt (off_it w.involved q false) others (stays_aborted w.cell)

    found_here : f.outcome ≡ outcome_at_home tid (x.found n)
    found_here = is.outcome ∙ by (tid.home.0 == n) refl
      where
        by : (b : Bool) → (tid.home.0 == n) ≡ b → (if b then outcome_at_home tid (x.found n) else Open) ≡ outcome_at_home tid (x.found n)
        by true same = refl
        by false apart = absurd (grind (arith, nat_tests, apart, here))

    logged : w.commit_logged ≡ list_any (same_tid tid) (x.found n).committed
    logged = (shown.logs n may.in_run).committed (sym here)

    abbrev restarted : Outcome → World
    restarted o = risen_world q w present up drawn_none (knows o) nobody (closed w.cell) w.learnt_abort

    restarts : (b : Bool) → w.commit_logged ≡ b → Step (Restart_home q) w (restarted (if b then Committed else Open))
    restarts b stands = subst (λ (c : Bool). Step (Restart_home q) w (restarted (if c then Committed else Open))) stands (was_down, before, at_home, refl)

    -- no event but that
    alone : (b : Bool) → w.commit_logged ≡ b → f.outcome ≡ (if b then Committed else Open) → (f.outcome ≡ Open → has_doubt tid (x.found n) ≡ false) → SightGoes tid (sight_risen_as x n new f) w
    alone b stands known none = record {
      next = restarted (if b then Committed else Open);
      leads = record { events = Restart_home q ∷ []; run = (_, restarts b stands, refl) };
      shown = after tid x w n new shown may present up drawn_none (knows (if b then Committed else Open)) nobody (closed w.cell) w.learnt_abort (r b) newborn f
          (new_shown q w present up drawn_none (knows (if b then Committed else Open)) nobody (closed w.cell) w.learnt_abort (r b) newborn tid n (x.found n) f is
          (at_it w.outcome q (if b then Committed else Open) ∙ sym known) (λ open_is. at_it w.involved q false ∙ (sym (none open_is) ∙ sym (is.involved open_is))));
    }
      where
        r : (b : Bool) → Rises q w present up drawn_none (knows (if b then Committed else Open)) nobody (closed w.cell) w.learnt_abort
        r b = home_rises (if b then Committed else Open) (knows (if b then Committed else Open)) w.learnt_abort (off_it w.outcome q (if b then Committed else Open))

    -- a vote in doubt, of which no Commit stands, is aborted
    aborts : f.outcome ≡ Aborted → has_doubt tid (x.found n) ≡ true → SightGoes tid (sight_risen_as x n new f) w
    aborts known some = record {
      next = ended;
      leads = record { events = Restart_home q ∷ Learn_abort_home q vote.0 ∷ []; run = (restarted Open, restarts false unlogged, (ended, learns, refl)) };
      shown = after tid x w n new shown may present up drawn_none (with_at (knows Open) q Aborted) nobody (closed w.cell) (with_at w.learnt_abort (w.node q) true) r newborn f
          (new_shown q w present up drawn_none (with_at (knows Open) q Aborted) nobody (closed w.cell) (with_at w.learnt_abort (w.node q) true) r newborn tid n (x.found n) f is
          (at_it (knows Open) q Aborted ∙ sym known) (λ open_is. absurd (let both : Aborted ≡ Open = sym known ∙ open_is in cc (both))));
    }
      where
        vote : (s : ℕ) × (list_any (is_doubt_at tid s) (x.found n).prepared ≡ true)
        vote = some_of tid (x.found n).prepared some

        ended : World
        ended = risen_world q w present up drawn_none (with_at (knows Open) q Aborted) nobody (closed w.cell) (with_at w.learnt_abort (w.node q) true)

        prepared : w.prepared (w.node q) vote.0 ≡ true
        prepared = ap (λ (k : ℕ). w.prepared k vote.0) node_q ∙ ((shown.logs n may.in_run).prepared vote.0 ∙ vote.1)

        unlogged : w.commit_logged ≡ false
        unlogged = by w.commit_logged refl
          where
            by : (b : Bool) → w.commit_logged ≡ b → b ≡ false
            by false so = refl
            by true so = absurd (
                let clear : w.prepared (w.node w.home) vote.0 ≡ false = (lawful.answered ((invariant w lawful).outcomes.logged so)).home_clear vote.0 in
                let here : w.prepared (w.node w.home) vote.0 ≡ true = subst (λ (k : ℕ). w.prepared k vote.0 ≡ true) at_home prepared in
                cc (clear, here))

        learns : Step (Learn_abort_home q vote.0) (restarted Open) ended
        learns = ((at_it w.up q true, at_home, inr (at_it w.outcome q Open, not_home)), not_home, prepared, refl)

        r : Rises q w present up drawn_none (with_at (knows Open) q Aborted) nobody (closed w.cell) (with_at w.learnt_abort (w.node q) true)
        r = home_rises Aborted (with_at (knows Open) q Aborted) (with_at w.learnt_abort (w.node q) true) (λ k other. off_it (knows Open) q Aborted k other ∙ off_it w.outcome q Open k other)

    pub home_goes : SightGoes tid (sight_risen_as x n new f) w
    home_goes = by (list_any (is_untold_of tid) (x.found n).untold) (has_doubt tid (x.found n)) (list_any (same_tid tid) (x.found n).committed) refl refl refl found_here
      where
        by : (a b c : Bool) → list_any (is_untold_of tid) (x.found n).untold ≡ a → has_doubt tid (x.found n) ≡ b → list_any (same_tid tid) (x.found n).committed ≡ c
            → f.outcome ≡ (if a then Committed else if b then Aborted else if c then Committed else Open) → SightGoes tid (sight_risen_as x n new f) w
        by true b c untold doubt commit known = alone true ((invariant w lawful).outcomes.stands ((shown.logs n may.in_run).unended (sym here) ∙ untold)) known (λ open_is. absurd (let both : Committed ≡ Open = sym known ∙ open_is in cc (both)))
        by false true c untold doubt commit known = aborts known doubt
        by false false true untold doubt commit known = alone true (logged ∙ commit) known (λ _. doubt)
        by false false false untold doubt commit known = alone false (logged ∙ commit) known (λ _. doubt)

  pub rise_goes : (f : Face) → IsRisenFace tid n (x.found n) f → SightGoes tid (sight_risen_as x n new f) w
  rise_goes f is = by (tid.home.0 == n) refl
    where
      by : (b : Bool) → (tid.home.0 == n) ≡ b → SightGoes tid (sight_risen_as x n new f) w
      by true same = home_goes (grind (arith, nat_tests, same)) f is
      by false apart = elsewhere_goes (λ same. grind (arith, nat_tests, apart, same)) f is

-- a place that is not born knows nobody
nobody_known : (tid : Tid) (x : Sight) (w : World) (n new : ℕ) → ShowsSight tid x w → MayRise x n new → ArePlaced w → (m : ℕ) → w.peer (place n new) m ≡ 0
nobody_known tid x w n new shown may placed m = (placed (place n new) m).stranger (less (w.present (w.node (place n new))) (ap w.present (shown.stage.nodes n new may.in_run) ∙ shown.stage.present n may.in_run))
  where
    less : (a : ℕ) → a ≡ place n (x.inc n) → a < place n new
    less a e = omega (arith, e, may.later)

pub rise : RiseGoes
rise tid x w n new f lawful placed shown may home_in is = rise_goes tid x w n new lawful shown may home_in (nobody_known tid x w n new shown may placed) f is

-- with nothing in doubt its face is blank
pub restart : RestartGoes
restart tid x w n new lawful shown n_in down later elsewhere home_in clear begun stranger =
    elsewhere_goes tid x w n new lawful shown (record { in_run = n_in; down = down; later = later; begun = begun }) home_in stranger elsewhere blank_face (record {
      on = refl;
      sent = λ m. refl;
      covered = λ m. refl;
      waits = λ s. refl;
      uncast = λ s. refl;
      loans = refl;
      asked = refl;
      involved = λ _. sym (no_doubt (has_doubt tid (x.found n)) refl);
      told = λ m. refl;
      outcome = sym (by (tid.home.0 == n) refl);
      tell = λ _ m. refl;
    })
  where
    no_doubt : (b : Bool) → has_doubt tid (x.found n) ≡ b → b ≡ false
    no_doubt false is = refl
    no_doubt true is = absurd (let vote = some_of tid (x.found n).prepared is in let none = clear vote.0 in let some = vote.1 in cc (none, some))

    by : (b : Bool) → (tid.home.0 == n) ≡ b → (if b then outcome_at_home tid (x.found n) else Open) ≡ Open
    by true same = absurd (elsewhere (grind (arith, nat_tests, same)))
    by false apart = refl
