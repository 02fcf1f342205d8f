-- The home commits with nobody to be told and nothing in its log: Commit_unlogged.
use Rattle.qs_world_refine.proofs.Words.{◌≡◌, ◌≢◌, ℕ, ◌<◌, ◌≤◌, ◌==◌, true, false, [], ◌∷◌, arith, refl, sym, ◌∙◌, subst, ap, if◌then◌else◌, nat_tests, Tid, Open, Committed, Commit_unlogged, Leads, place, Face, ShowsFace, link, waiting_link, Sight, ShowsSight, FaceReady}
use Rattle.qs_world_agree.specs.World.{World, with_at}
use Rattle.qs_world_agree.specs.Guards.{IsReady}
use Rattle.qs_world_agree.specs.Step.{Step}
use Rattle.qs_world_refine.proofs.Streams.{Stays}
use Rattle.qs_world_refine.proofs.Local.{Local, local_sight}
use Rattle.qs_world_refine.proofs.Ready.{is_ready}

abbrev pub after_unlogged : World → World
after_unlogged old = record old {
  engaged = with_at old.engaged old.home false;
  outcome = with_at old.outcome old.home Committed;
  cell = Committed;
  learnt_commit = with_at old.learnt_commit (old.node old.home) true;
}

unlogged_links : (a b : ℕ) (w v : World) → w.cell ≡ Open → Step Commit_unlogged w v → Stays (link w a b) (link v a b)
unlogged_links a b w v undecided s = record { carries = grind (arith, undecided, s.3); posted = grind (arith, s.3); closers = grind (arith, s.3); inquiry_put = grind (arith, s.3) }

unlogged_waiting : (a b : ℕ) (w v : World) → w.cell ≡ Open → Step Commit_unlogged w v → Stays (waiting_link w a b) (waiting_link v a b)
unlogged_waiting a b w v undecided s = record { carries = grind (arith, undecided, s.3); posted = grind (arith, s.3); closers = grind (arith, s.3); inquiry_put = grind (arith, s.3) }

unlogged_others : (k : ℕ) (w v : World) (f : Face) → k ≢ w.home → ShowsFace f k w → Step Commit_unlogged w v → ShowsFace f k v
unlogged_others k w v f other i s = grind (arith, nat_tests, other, i, s.3)

unlogged_face : (w v : World) (f : Face) → f.is_home ≡ true → ShowsFace f w.home w → Step Commit_unlogged w v → ShowsFace (record f { on = false; outcome = Committed }) w.home v
unlogged_face w v f here i s = grind (arith, nat_tests, here, i, s.3)

pub unlogged_local : (w v : World) → w.cell ≡ Open → Step Commit_unlogged w v → Local w.home w v
unlogged_local w v undecided s = record {
  stage = rw s.3 (record { node = refl; class = refl; home = refl; present = refl; up = refl; peer = refl });
  logs = rw s.3 (record { prepared = refl; commit_logged = refl; unended = refl; commit_list = refl });
  links = λ a b. unlogged_links a b w v undecided s;
  waiting = λ a b. unlogged_waiting a b w v undecided s;
  others = λ k f other i. unlogged_others k w v f other i s;
}

module _ (tid : Tid) (x : Sight) (w : World) (shown : ShowsSight tid x w) (n_in : tid.home.0 < x.size) (is_up : x.up tid.home.0 ≡ true) (first_home : x.inc tid.home.0 ≡ tid.inc) (is_home : (x.face tid.home.0).is_home ≡ true)
    (ready : FaceReady (x.face tid.home.0) (place tid.home.0 (x.inc tid.home.0)) w) (nobody : (m : ℕ) → (x.face tid.home.0).told m ≡ false) (unprepared : (s : ℕ) → w.prepared tid.home.0 s ≡ false)
    (counts : (m : ℕ) → w.covered (place tid.home.0 (x.inc tid.home.0)) m ≤ w.sent (place tid.home.0 (x.inc tid.home.0)) m) (undecided : w.cell ≡ Open) where
  abbrev pub v : World
  v = after_unlogged w

  home_is : place tid.home.0 (x.inc tid.home.0) ≡ w.home
  home_is = ap (λ (i : ℕ). place tid.home.0 i) first_home ∙ sym shown.stage.home

  here : ShowsFace (x.face tid.home.0) w.home w
  here = subst (λ (q : ℕ). ShowsFace (x.face tid.home.0) q w) home_is (shown.faces tid.home.0 n_in is_up)

  node_is : w.node w.home ≡ tid.home.0
  node_is = ap w.node shown.stage.home ∙ shown.stage.nodes tid.home.0 tid.inc n_in

  step : Step Commit_unlogged w v
  step = (
    subst (λ (q : ℕ). IsReady w q) home_is (is_ready (x.face tid.home.0) (place tid.home.0 (x.inc tid.home.0)) w counts (shown.faces tid.home.0 n_in is_up) ready),
    (λ m. (here.running ready.undecided).told m ∙ nobody m),
    (λ s. ap (λ (k : ℕ). w.prepared k s) node_is ∙ unprepared s),
    refl,
  )

  pub after : ShowsSight tid (record x { face = λ k. if k == tid.home.0 then record (x.face tid.home.0) { on = false; outcome = Committed } else x.face k }) v
  after = local_sight tid x w v tid.home.0 (record (x.face tid.home.0) { on = false; outcome = Committed }) shown n_in
      (subst (λ (q : ℕ). Local q w v) (sym home_is) (unlogged_local w v undecided step))
      (subst (λ (q : ℕ). ShowsFace (record (x.face tid.home.0) { on = false; outcome = Committed }) q v) (sym home_is) (unlogged_face w v (x.face tid.home.0) is_home here step))

  pub leads : Leads w v
  leads = record { events = Commit_unlogged ∷ []; run = (v, step, refl) }
