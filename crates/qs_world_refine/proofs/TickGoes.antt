-- Time goes on at a node.
use Rattle.qs_world_refine.proofs.Words.{◌≡◌, ℕ, ◌&&◌, Bool, true, false, List, [], ◌∷◌, Option, Some, None, fold, refl, sym, subst, ap, if◌then◌else◌, list_all, Tid, ticked, timers_no, is_one, is_undecided, Which, Participant, enter, Work, part_of, with_manager, change_server, abort_old, age_rule, Scene, in_order, where_so, Stands, GoesOn}
use Rattle.qs_book_journal.specs.declared.entry.Act.TheVariants as acts
use Rattle.qs_ops.specs.declared.answer.Cause.TheVariants as causes
use Rattle.qs_tm.specs.Manager as tm
use Rattle.qs_tm.specs.declared.manager.Which.TheVariants as whiches
use Rattle.qs_world_agree.specs.World.{World}
use Rattle.qs_world_refine.specs.TickLaws.{TickGoes}
use Rattle.qs_world_refine.proofs.Frames.{out_leaves}
use Rattle.qs_world_refine.proofs.HomeAborts.{aborts}
use Rattle.qs_world_refine.proofs.KindsKept.{change_kinds}
use Rattle.qs_world_refine.proofs.SettleStands.{stands_itself, stands_left, goes_further}
use Rattle.qs_world_refine.proofs.SoundAge.{picked, put_all, all_fit, is_home_open, is_open_at, still_fits, fits_on}
use Rattle.qs_world_refine.proofs.SoundFrames.{behind, order_tail}
use Rattle.qs_world_refine.proofs.SoundHolds.{told_part}
use Rattle.qs_world_refine.proofs.SoundParts.{and_both}
use Rattle.qs_world_refine.proofs.SoundViews.{seen}

module _ (t : Tid) (scene : Scene) (n : ℕ) where
  one_old : (age : ℕ) (tid : Tid) (work : Work) (w : World) → is_open_at work tid ≡ true → Stands t scene n work w → GoesOn t scene n (abort_old age work tid) w
  one_old age tid work w opened is = by (part_of tid work) refl
    where
      by : (o : Option Participant) → part_of tid work ≡ o → GoesOn t scene n (abort_old age work tid) w
      by None none =
          let never : is_open_at work tid ≡ false = ap (λ (o : Option Participant). elim o [ None ↦ false | Some p ↦ is_home_open p ]) none in
          absurd (cc (never, opened))
      by (Some part) known =
          let both : (part.engage.home ≡ true) × (is_undecided part ≡ true) = and_both part.engage.home (is_undecided part) (told_part is_home_open tid work.node.manager part known opened) in
          aborts tid scene (Some (causes.Old age)) work part known both.1 both.0 t n w is

  all_old : (which : Which) (age : ℕ) (es : List (Tid × Participant)) (work : Work) (w : World) → in_order es ≡ true → list_all (still_fits which age work) es ≡ true → Stands t scene n work w
      → GoesOn t scene n (fold (abort_old age) work (picked which es)) w
  all_old which age [] work w ordered all is = stands_itself t scene n work w is
  all_old which age (e ∷ es) work w ordered all is = by (is_one which e.0 e.1) both.0 (λ (new : Work) (v : World) (left : list_all (still_fits which age new) es ≡ true) (so : Stands t scene n new v). all_old which age es new v (order_tail e es ordered) left so)
    where
      both : (still_fits which age work e ≡ true) × (list_all (still_fits which age work) es ≡ true)
      both = and_both (still_fits which age work e) (list_all (still_fits which age work) es) all

      by : (b : Bool) → where_so b (is_open_at work e.0) ≡ true → ((new : Work) (v : World) → list_all (still_fits which age new) es ≡ true → Stands t scene n new v → GoesOn t scene n (fold (abort_old age) new (picked which es)) v)
          → GoesOn t scene n (fold (abort_old age) work (if b then e.0 ∷ picked which es else picked which es)) w
      by true opened more =
          let first = one_old age e.0 work w opened is in
          goes_further t scene n (fold (abort_old age) work (e.0 ∷ picked which es)) w first.next first.leads
          (more (abort_old age work e.0) first.next (fits_on which age e.0 work es (behind e es ordered) both.1) first.stands)
      by false opened more = more work w both.1 is

  aged : (limit : Option ℕ) (work : Work) (w : World) → Stands t scene n work w → GoesOn t scene n (age_rule limit work) w
  aged None work w is = stands_itself t scene n work w is
  aged (Some age) work w is = subst (λ (tids : List Tid). GoesOn t scene n (fold (abort_old age) work tids) w) (sym (put_all (whiches.Aged work.node.manager.ticks age) work.node.manager.known []))
      (all_old (whiches.Aged work.node.manager.ticks age) age work.node.manager.known work w ordered (all_fit (whiches.Aged work.node.manager.ticks age) opens work.node.manager.known ordered) is)
    where
      ordered : in_order work.node.manager.known ≡ true
      ordered = (seen work.node is.sound).ordered

      opens : (tid : Tid) (part : Participant) → is_one (whiches.Aged work.node.manager.ticks age) tid part ≡ true → is_home_open part ≡ true
      opens tid part so = by (is_undecided part) part.engage.home _ so
        where
          by : (u h b : Bool) → (u && (h && b)) ≡ true → (h && u) ≡ true
          by true true b so = refl
          by true false b so = absurd (cc so)
          by false h b so = absurd (cc so)

pub tick_goes : TickGoes
tick_goes t scene n work w is = aged t scene n work.node.setting.age counted w
    (stands_left t scene n work counted w (out_leaves t work counted (record { around = record { setting = refl; waits = λ s. refl; loans = refl; past = refl }; part = refl }) refl refl) is.sound
    (change_kinds timers_no (λ value. record value { timers = ticked value.timers }) (λ value. refl) (enter acts.Tick work) is.kinds) is)
  where
    counted : Work
    counted = with_manager tm.tick (change_server timers_no (λ value. record value { timers = ticked value.timers }) (enter acts.Tick work))
