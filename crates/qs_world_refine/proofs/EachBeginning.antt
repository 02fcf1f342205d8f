-- Each move of a steady world, for a transaction whose number is still to be given: it stays so, or the machine began in the world before it and shows it after.
use Rattle.qs_world_refine.proofs.Words.{◌≡◌, ◌⊎◌, inl, inr, ℕ, ◌+◌, ◌<◌, ◌==◌, ◌&&◌, not, nat_lt, Bool, true, false, [], Option, Some, None, is_some, refl, sym, ap, subst, ◌∙◌, arith, if◌then◌else◌, eqb-true, not-true, nat_tests, Tid, CrashCause, is_crash, recovered_of, Cut, Stop, Rise, event_of, step_with, cut_with, stopped, risen, risen_host, is_later, is_in_order, reopened, Begins, Found, inc_in, count_in, may_be_known, IsUnbegun, ShowsAll, reopening_seen, IsSteadyWorld, GivesAt, stage_of}
use Rattle.qs_world_refine.proofs.Words.{IsSteady, recovery}
use Rattle.qs_node_step.specs.declared.event.Event.{Event}
use Rattle.qs_world.specs.Moves.{Step, Meet, met, may_serve}
use Rattle.qs_world.specs.World.{World}
use Rattle.qs_world_refine.specs.BeginLaws.{EachBegins}
use Rattle.qs_world_refine.proofs.PassedOver.{w, risen_sight, passed_left, passed_shows_all}
use Rattle.qs_world_refine.proofs.Reopening.{may_reopen}
use Rattle.qs_world_refine.proofs.SoundParts.{and_both}
use Rattle.qs_world_refine.proofs.TidyTaken.{opened_taken}
use Rattle.qs_world_refine.proofs.SaidTidy.{log_tidy, all_parted}
use Rattle.qs_world_refine.proofs.ToCome.{IsToCome, still, as_before, some_number, which_inc, other_stops, later_stops}
use Rattle.qs_world_refine.proofs.MoveGoes.{in_run, later_in}
use Rattle.qs_world_refine.proofs.BeginSteps.{home_stops, steps, cuts}

module _ (tid : Tid) (world : World) (steady : IsSteady world) (tidy : IsSteadyWorld world) (is : IsUnbegun tid world) where
  abbrev h : ℕ
  h = tid.home.0

  abbrev Done : World → Type 0
  Done new = Begins IsUnbegun ShowsAll tid new

  -- ---- a stop

  stops_so : (n stamp : ℕ) (cause : CrashCause) → n < world.size → world.channels.up n ≡ true → Done (stopped world n stamp cause (world.hosts n).log)
  stops_so n stamp cause n_in on = by (h == n) refl
    where
      by : (b : Bool) → (h == n) ≡ b → Done (stopped world n stamp cause (world.hosts n).log)
      by false apart = inl (other_stops tid world is n stamp cause (world.hosts n).log apart)
      by true same = at (which_inc tid world is (ap world.channels.up (eqb-true h n same) ∙ on))
        where
          at : (world.channels.inc h < tid.inc) ⊎ (tid.inc ≡ world.channels.inc h) → Done (stopped world n stamp cause (world.hosts n).log)
          at (inl less) = inl (later_stops tid world is n stamp cause (world.hosts n).log same less)
          at (inr now) = home_stops tid world steady tidy is (ap world.channels.up (eqb-true h n same) ∙ on) now n stamp cause n_in on

  -- ---- a restart

  module _ (stamp inc : ℕ) (off : world.channels.up h ≡ false) (beyond : world.channels.inc h < inc) where
    abbrev up_again : World
    up_again = risen world h stamp inc (recovered_of (world.hosts h).log)

    itself : (h == h) ≡ true
    itself = grind (arith, nat_tests)

    none : (reopened inc (recovered_of (world.hosts h).log) (world.hosts h).node).manager.begun ≡ 0
    none = (opened_taken (record (stage_of world h) { setting = record (world.hosts h).node.setting { inc = inc } }) (world.hosts h).node.manager.alloc (recovery (world.hosts h).log)
        (log_tidy (may_be_known world) (world.hosts h).node.setting.node (world.hosts h).log (all_parted _ (world.hosts h).log (world.hosts h).waiting (tidy.nodes h is.home_in).records).0)).none

    home_rises : Done up_again
    home_rises = which (nat_lt tid.inc inc) refl
      where
        which : (b : Bool) → nat_lt tid.inc inc ≡ b → Done up_again
        which true over = let less : tid.inc < inc = grind (arith, nat_tests, over) in
            inr (
              Found (reopening_seen tid (risen_sight tid world tidy is.numbered is.home_in is.unknown stamp inc off beyond less)),
              may_reopen tid (risen_sight tid world tidy is.numbered is.home_in is.unknown stamp inc off beyond less) (passed_left tid world tidy is.numbered is.home_in is.unknown stamp inc off beyond less),
              (w tid world tidy is.numbered is.home_in is.unknown stamp inc off beyond less, record { events = []; run = refl }, passed_shows_all tid world tidy is.numbered is.home_in is.unknown stamp inc off beyond less),
            )
        which false not_over = inl (still tid world is up_again refl (at (nat_lt inc tid.inc) refl))
          where
            inc_now : inc_in up_again h ≡ inc
            inc_now = picked (h == h) itself
              where
                picked : (b : Bool) → b ≡ true → (if (if b then true else world.channels.up h) then (if b then inc else world.channels.inc h) else (if b then inc else world.channels.inc h) + 1) ≡ inc
                picked b so = rw so refl

            count_now : count_in up_again h ≡ 0
            count_now = picked (h == h) itself ∙ none
              where
                picked : (b : Bool) → b ≡ true → (if (if b then true else world.channels.up h) then (if b then risen_host stamp inc (recovered_of (world.hosts h).log) (world.hosts h) else world.hosts h).node.manager.begun else 0)
                    ≡ (reopened inc (recovered_of (world.hosts h).log) (world.hosts h).node).manager.begun
                picked b so = rw so refl

            at : (b : Bool) → nat_lt inc tid.inc ≡ b → IsToCome tid (inc_in up_again) (count_in up_again)
            at true far = inl (subst (λ (k : ℕ). k < tid.inc) (sym inc_now) (grind (arith, nat_tests, far)))
            at false near = inr (even tid.inc inc near not_over ∙ sym inc_now, subst (λ (k : ℕ). k < tid.seq) (sym count_now) (some_number tid world is))
              where
                even : (a b : ℕ) → nat_lt b a ≡ false → nat_lt a b ≡ false → a ≡ b
                even a b p q = grind (arith, nat_tests, p, q)

  rises_so : (n stamp inc : ℕ) → world.channels.up n ≡ false → world.channels.inc n < inc → Done (risen world n stamp inc (recovered_of (world.hosts n).log))
  rises_so n stamp inc down later = by (h == n) refl
    where
      other_rises : (h == n) ≡ false → IsUnbegun tid (risen world n stamp inc (recovered_of (world.hosts n).log))
      other_rises apart = as_before tid world is (risen world n stamp inc (recovered_of (world.hosts n).log)) refl (rw apart refl) (rw apart refl)

      by : (b : Bool) → (h == n) ≡ b → Done (risen world n stamp inc (recovered_of (world.hosts n).log))
      by false apart = inl (other_rises apart)
      by true same = subst (λ (k : ℕ). world.channels.up k ≡ false → world.channels.inc k < inc → Done (risen world k stamp inc (recovered_of (world.hosts k).log))) (eqb-true h n same) (home_rises stamp inc) down later

  -- ---- a first meeting

  meets_so : (n stamp m inc : ℕ) → Done (met world n stamp m inc)
  meets_so n stamp m inc = inl (as_before tid world is (met world n stamp m inc) refl refl (ap (λ (k : ℕ). if world.channels.up h then k else 0) (by (h == n) refl)))
    where
      by : (b : Bool) → (h == n) ≡ b → (if b then record (world.hosts n) { stamp = stamp } else world.hosts h).node.manager.begun ≡ (world.hosts h).node.manager.begun
      by true same = ap (λ (k : ℕ). (world.hosts k).node.manager.begun) (sym (eqb-true h n same))
      by false apart = refl

-- ---- each move

pub each_begins : EachBegins
each_begins tid world (Step n stamp free source) may gives steady tidy is = by (event_of world n stamp source) refl gives
  where
    runs : (world.channels.up n ≡ true) × ((is_later world n stamp && (is_some (event_of world n stamp source) && may_serve (world.hosts n).node source)) ≡ true)
    runs = and_both (world.channels.up n) _ may

    by : (o : Option Event) → event_of world n stamp source ≡ o → GivesAt world n free o → Begins IsUnbegun ShowsAll tid (step_with world n stamp free source o)
    by None comes gives = inl is
    by (Some event) comes gives = steps tid world steady tidy is n stamp free source event (later_in world n stamp (and_both (is_later world n stamp) _ runs.1).0) runs.0 comes gives
each_begins tid world (Cut n stamp free source is_kept cause) may gives steady tidy is = by (event_of world n stamp source) refl gives
  where
    runs : (world.channels.up n ≡ true) × ((is_later world n stamp && (is_some (event_of world n stamp source) && may_serve (world.hosts n).node source)) ≡ true)
    runs = and_both (world.channels.up n) _ (and_both (world.channels.up n && (is_later world n stamp && (is_some (event_of world n stamp source) && may_serve (world.hosts n).node source))) (is_crash cause) may).0

    by : (o : Option Event) → event_of world n stamp source ≡ o → GivesAt world n free o → Begins IsUnbegun ShowsAll tid (cut_with world n stamp free is_kept cause o)
    by None comes gives = inl is
    by (Some event) comes gives = cuts tid world steady tidy is n stamp free source event (later_in world n stamp (and_both (is_later world n stamp) _ runs.1).0) runs.0 comes gives is_kept cause
each_begins tid world (Stop n stamp cause) may gives steady tidy is =
    let runs = and_both (world.channels.up n) _ may in stops_so tid world steady tidy is n stamp cause (in_run world n stamp (and_both (is_in_order world n stamp) _ runs.1).0) runs.0
each_begins tid world (Rise n stamp inc) may gives steady tidy is = rises_so tid world steady tidy is n stamp inc (not-true (world.channels.up n) both.0) (grind (arith, nat_tests, order.1))
  where
    both : (not (world.channels.up n) ≡ true) × ((is_in_order world n stamp && nat_lt (world.channels.inc n) inc) ≡ true)
    both = and_both (not (world.channels.up n)) (is_in_order world n stamp && nat_lt (world.channels.inc n) inc) may

    order : (is_in_order world n stamp ≡ true) × (nat_lt (world.channels.inc n) inc ≡ true)
    order = and_both (is_in_order world n stamp) (nat_lt (world.channels.inc n) inc) both.1
each_begins tid world (Meet n stamp m inc) may gives steady tidy is = meets_so tid world steady tidy is n stamp m inc
