-- A request that went out late dooms its transaction: where its sender knows an incarnation that does not run any more, that takes nothing more of it.
use Rattle.qs_world_runs.proofs.Words.{◌≡◌, inl, inr, ℕ, ◌<◌, ◌≤◌, ◌==◌, ◌&&◌, Bool, true, false, refl, sym, ap, subst, ◌∙◌, arith, if◌then◌else◌, nat_tests, Tid, Work, Leads, IsDoomed, IsPast, known_place, place, Scene, Field, Reaches}
use Rattle.qs_world_agree.specs.World as machine
use Rattle.qs_world_agree.specs.Laws.{IsReached}
use Rattle.qs_world_agree.proofs.Doomed.{late_dooms}
use Rattle.qs_world_agree.proofs.Lawful.{inv_reached}
use Rattle.qs_world_refine.specs.Shows.{Shows}
use Rattle.qs_world_refine.specs.Stands.{Stands}

-- which places a world of the agreement machine has, and which run and are known at node n
pub record Sees (scene : Scene) (n : ℕ) (w : machine.World) : Type 0 where
  pub node : (m i : ℕ) → m < scene.size → w.node (place m i) ≡ m
  pub up : (m i : ℕ) → m < scene.size → w.up (place m i) ≡ (scene.up m && (i == scene.inc m))
  pub peer : (m : ℕ) → m < scene.size → w.peer (place n (scene.inc n)) m ≡ known_place m (scene.knows n m)

pub sees_work : (t : Tid) (scene : Scene) (n : ℕ) (work : Work) (w : machine.World) → Stands t scene n work w → Sees scene n w
sees_work t scene n work w is = record { node = is.shown.stage.nodes; up = is.shown.stage.up; peer = λ m in_run. is.shown.stage.peers n m is.at.in_run in_run is.at.up }

pub sees_world : (t : Tid) (scene : Scene) (n : ℕ) (w : machine.World) → n < scene.size → scene.up n ≡ true → Shows t scene w → Sees scene n w
sees_world t scene n w low up is = record { node = is.stage.nodes; up = is.stage.up; peer = λ m in_run. is.stage.peers n m low in_run up }

module _ (scene : Scene) (n : ℕ) (c f : machine.World) (at_first : Sees scene n c) (at_last : Sees scene n f) (reached : IsReached c) (leads : Leads c f) (m : ℕ) (in_run : m < scene.size) where
  abbrev p : ℕ
  p = place n (scene.inc n)

  abbrev i : ℕ
  i = scene.knows n m

  abbrev q : ℕ
  q = place m i

  module _ (some : (i == 0) ≡ false) (gone : (scene.up m && (i == scene.inc m)) ≡ false) (more : c.sent p m < f.sent p m) where
    known_is : known_place m i ≡ q
    known_is = by (i == 0) some
      where
        by : (b : Bool) → b ≡ false → (if b then 0 else place m i) ≡ place m i
        by b is = rw is refl

    node_is : c.node q ≡ m
    node_is = at_first.node m i in_run

    before : c.peer p (c.node q) ≡ q
    before = ap (c.peer p) node_is ∙ (at_first.peer m in_run ∙ known_is)

    now : f.peer p (c.node q) ≡ q
    now = ap (f.peer p) node_is ∙ (at_last.peer m in_run ∙ known_is)

    past : IsPast c q
    past = record { down = at_first.up m i in_run ∙ gone; begun = subst (λ (k : ℕ). k ≤ c.present (c.node q)) before ((inv_reached c reached).counts.peer_present p (c.node q)) }

    positive : (a b : ℕ) → (a == 0) ≡ false → 1 ≤ place b a
    positive a b is = grind (arith, nat_tests, is)

    pub late_doomed : IsDoomed f
    late_doomed = late_dooms c f p q reached past (positive i m some) before now leads (subst (λ (k : ℕ). c.sent p k < f.sent p k) (sym node_is) more)

  -- where it does not reach the node
  pub unreached_doomed : (base : Field) (knows : ℕ → ℕ) → base.up m ≡ scene.up m → base.inc m ≡ scene.inc m → knows m ≡ scene.knows n m → (Reaches base knows m → ⊥) → c.sent p m < f.sent p m → IsDoomed f
  unreached_doomed base knows up_is inc_is knows_is unreached more = by (i == 0) (scene.up m) (i == scene.inc m) refl refl refl
    where
      never : Reaches base knows m → IsDoomed f
      never reaches = absurd (unreached reaches)

      by : (a b e : Bool) → (i == 0) ≡ a → scene.up m ≡ b → (i == scene.inc m) ≡ e → IsDoomed f
      by true b e none up same = never (inl (ap (λ (k : ℕ). k == 0) knows_is ∙ none))
      by false true true some up same = never (inr (up_is ∙ up, rw (knows_is, inc_is, same, some) refl))
      by false true false some up same = late_doomed some (rw (up, same) refl) more
      by false false e some up same = late_doomed some (rw up refl) more
