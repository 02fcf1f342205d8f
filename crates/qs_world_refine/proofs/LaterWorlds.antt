-- What the agreement machine goes on to keep: a commit that was decided, and acknowledgements while the home's node runs in the same incarnation.
use Rattle.qs_world_refine.proofs.Words.{◌≡◌, ℕ, ◌<◌, Bool, true, false, refl, sym, ap, ◌∙◌, Tid, Open, Committed, Aborted, Leads, IsLawful, place, Sight, ShowsStage}
use Rattle.qs_world_agree.specs.World.{World, Outcome}
use Rattle.qs_world_agree.proofs.Heeded.{lasts_run}
use Rattle.qs_world_refine.proofs.Facts.{invariant}
use Rattle.qs_world_refine.proofs.Lasting.{acks_stay}

pub commit_stays : (w v : World) → IsLawful w → Leads w v → w.cell ≡ Committed → v.cell ≡ Committed
commit_stays w v lawful leads = (lasts_run leads.events w v 0 (invariant w lawful) leads.run).committed

abbrev pub is_committed : Outcome → Bool
is_committed Committed = true
is_committed Open = false
is_committed Aborted = false

pub committed_is : (o : Outcome) → is_committed o ≡ true → o ≡ Committed
committed_is Committed is = refl
committed_is Open is = absurd (cc (is))
committed_is Aborted is = absurd (cc (is))

pub is_committed_cell : (w : World) → w.cell ≡ Committed → is_committed w.cell ≡ true
is_committed_cell w is = ap is_committed is

-- what two sights show, in which the home's node runs in the same incarnation
pub acks_on : (t : Tid) (x y : Sight) (w v : World) → t.home.0 < x.size → t.home.0 < y.size → y.inc t.home.0 ≡ x.inc t.home.0 → ShowsStage t x w → ShowsStage t y v → Leads w v → (m : ℕ) → w.acknowledged m ≡ true → v.acknowledged m ≡ true
acks_on t x y w v in_x in_y same first last leads = acks_stay w v leads (present_there ∙ (last.present t.home.0 in_y ∙ (ap (place t.home.0) same ∙ (sym (first.present t.home.0 in_x) ∙ sym (ap w.present home_is)))))
  where
    home_is : w.node w.home ≡ t.home.0
    home_is = ap w.node first.home ∙ first.nodes t.home.0 t.inc in_x

    present_there : v.present (w.node w.home) ≡ v.present t.home.0
    present_there = ap v.present home_is
