-- A message that comes to a node: what stands of a transaction that is shown goes on to stand, whatever the message is about.
use Rattle.qs_world_refine.proofs.Words.{◌≡◌, ℕ, ◌<◌, ◌≤◌, ◌==◌, ◌&&◌, ◌||◌, not, Bool, true, false, Option, Some, None, is_some, refl, sym, ap, subst, ◌∙◌, if◌then◌else◌, list_any, eqb-true, same_tid, NodeNo, Tid, same_node, Participant, was_committed, NodeValue, Work, part_of, work_on, Open, Committed, Aborted, Leads, ShowsAll, KeepsDecided, began_here, is_past_commit, KeepsPast, Scene, scene_of, is_past, begun, Stands, GoesOn, IsSteady, HasBegun}
use Rattle.qs_tm.specs.Manager as tm
use Rattle.qs_world.specs.World.{World}
use Rattle.qs_world_agree.specs.World as machine
use Rattle.qs_world_refine.specs.CloserWhole.{CountsNoMore}
use Rattle.qs_world_refine.proofs.BeginKeeps.{KeptOn, begin_keeps}
use Rattle.qs_world_refine.proofs.BeginStands.{begin_incarnation_goes}
use Rattle.qs_world_refine.proofs.Calm.{SameCore, IsCalm, calm, known_before}
use Rattle.qs_world_refine.proofs.EachReady.{ready, taken_up}
use Rattle.qs_world_refine.proofs.Heads.{Learnt, released}
use Rattle.qs_world_refine.proofs.LaterWorlds.{commit_stays}
use Rattle.qs_world_refine.proofs.SoundParts.{and_both}
use Rattle.qs_world_refine.proofs.StepGoes.{begins}

module _ (t : Tid) (world : World) (w : machine.World) (steady : IsSteady world) (home_in : t.home.0 < world.size) (all : ShowsAll t world w) (n free : ℕ) (n_in : n < world.size) (on : world.channels.up n ≡ true) where
  abbrev pub node : NodeValue
  node = (world.hosts n).node

  abbrev pub wk : Work
  wk = begun node free

  -- ---- the step begins

  pub opened : Stands t (scene_of world) n (work_on node free) w
  opened = begins t (scene_of world) n free w all.seen.lawful all.seen.shown (ready t world w steady home_in all n n_in on)

  pub first : GoesOn t (scene_of world) n wk w
  first = begin_incarnation_goes t (scene_of world) n (work_on node free) w (taken_up t world w steady home_in all n n_in on free) opened

  pub is_calm : IsCalm wk
  is_calm = calm node free (steady.sound n n_in).node (steady.nodes n n_in on)

  pub keeps : KeptOn (work_on node free) wk
  keeps = begin_keeps (work_on node free)

  -- what it knew before
  pub was : (part : Participant) → part_of t wk ≡ Some part → (old : Participant) × ((tm.part_of t node.manager ≡ Some old) × SameCore old part)
  was part known = known_before (work_on node free) wk keeps t part known

  -- ---- with a machine that is as far as the step's beginning, or further

  module _ (v : machine.World) (leads : Leads w v) (scene : Scene) (sized : scene.size ≡ world.size) (same : scene.inc ≡ world.channels.inc) (is : Stands t scene n wk v) where
    pub learnt : Learnt t wk v
    learnt part known decided = let old = was part known in commit_stays w v all.seen.lawful leads (all.outcome.learnt n old.0 n_in on old.1.0 (sym old.1.1.outcome ∙ decided))

    -- where it began here, it has begun
    module _ (began : HasBegun world t) where
      begun_below : began_here wk.node t ≡ true → t.seq ≤ wk.node.manager.begun
      begun_below here = subst (λ (k : ℕ). t.seq ≤ k) (sym keeps.begun) (subst (λ (k : ℕ). t.seq ≤ (world.hosts k).node.manager.begun) at_n (began home_in (subst (λ (k : ℕ). world.channels.up k ≡ true) (sym at_n) on) at_inc))
        where
          tests : (same_node t.home wk.node.setting.node ≡ true) × ((t.inc == wk.node.setting.inc) ≡ true)
          tests = and_both (same_node t.home wk.node.setting.node) (t.inc == wk.node.setting.inc) here

          at_n : t.home.0 ≡ n
          at_n = eqb-true t.home.0 n (sym (ap (λ (k : NodeNo). same_node t.home k) is.at.node) ∙ tests.0)

          at_inc : t.inc ≡ world.channels.inc t.home.0
          at_inc = eqb-true t.inc wk.node.setting.inc tests.1 ∙ (is.at.inc ∙ (ap (λ (f : ℕ → ℕ). f n) same ∙ ap world.channels.inc (sym at_n)))

      pub past_here : is_past wk.node t ≡ true
      past_here = by (began_here wk.node t) refl
        where
          off : (b : Bool) → b ≡ false → (c d : Bool) → (not (b && c) || d) ≡ true
          off b is c d = rw is refl

          by : (b : Bool) → began_here wk.node t ≡ b → is_past wk.node t ≡ true
          by true here = is_calm.past t here all.seen.shown.stage.numbered (begun_below here)
          by false later = off (began_here wk.node t) later (not (tm.knows t wk.node.manager)) (was_committed t wk.node)

      -- what it began and knows no more it committed
      pub past_commit : part_of t wk ≡ None → began_here wk.node t ≡ true → is_past_commit wk.node t ≡ true
      past_commit none here = picked (began_here wk.node t) here (committed (began_here wk.node t) (tm.knows t wk.node.manager) (was_committed t wk.node) here (ap (λ (o : Option Participant). is_some o) none) past_here)
        where
          committed : (a b c : Bool) → a ≡ true → b ≡ false → (not (a && not b) || c) ≡ true → c ≡ true
          committed true true c x y z = absurd (cc (y))
          committed true false c x y z = z
          committed false b c x y z = absurd (cc (x))

          picked : (b : Bool) → b ≡ true → was_committed t wk.node ≡ true → (if b then was_committed t wk.node else list_any (same_tid t) wk.node.committed) ≡ true
          picked b is so = rw is so

      pub counts_no_more : CountsNoMore t wk
      counts_no_more = record {
        released = λ part known decided. released t scene n wk v is part known (learnt part known decided) decided;
        kept = past_commit;
      }

      pub keeps_past : KeepsDecided t world w → n ≡ t.home.0 → ((w.cell ≡ Committed) → part_of t wk ≡ None → is_past_commit wk.node t ≡ true) → KeepsPast t wk
      keeps_past kept at later = record {
        began = past_here;
        kept = λ none committed. later (kept.now (subst (λ (k : ℕ). was_committed t (world.hosts k).node ≡ true) at (sym (Rattle.qs_world_refine.proofs.Calm.committed_same (work_on node free) wk keeps t) ∙ committed))) none;
      }
