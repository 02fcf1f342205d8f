-- A request that is dropped as it comes dooms its transaction: its node knows abort, or its home stopped or decided abort.
use Rattle.qs_world_runs.proofs.Words.{◌≡◌, ◌≢◌, ℕ, ◌==◌, Bool, true, false, Option, Some, None, is_some, refl, sym, ap, ◌∙◌, if◌then◌else◌, unwrap_or, eqb-true, and_right, NodeNo, Tid, same_node, is_dropped, Work, here, new_participant, Participant, Committed, IsDoomed, abort_dooms, began_here, face_at, outcome_of, place, Scene, shown_here}
use Rattle.qs_base.specs.declared.identifiers.Outcome.{Outcome}
use Rattle.qs_base.specs.declared.identifiers.Outcome.TheVariants as outcomes
use Rattle.qs_node_step.specs.State.{part_of}
use Rattle.qs_tm.specs.Outcomes.{is_abort}
use Rattle.qs_world_agree.specs.World as machine
use Rattle.qs_world_agree.proofs.Doomed.{past_home_dooms}
use Rattle.qs_world_refine.specs.NodeFaces.{is_past_commit, unknown, unknown_at_home}
use Rattle.qs_world_refine.specs.Stands.{Stands}
use Rattle.qs_world_refine.proofs.Heads.{Learnt, aborted_cell}
use Rattle.qs_base_lemmas.proofs.Tests.{and_rest}

module _ (t : Tid) (scene : Scene) (n : ℕ) (work : Work) (v : machine.World) (is : Stands t scene n work v) where
  -- abort is known
  pub known_dooms : (part : Participant) → part_of t work ≡ Some part → part.outcome ≡ Some outcomes.Abort → IsDoomed v
  known_dooms part known aborted = abort_dooms v is.lawful.reached (aborted_cell t scene n work v is part known aborted)

  module _ (learnt : Learnt t work v) (past : part_of t work ≡ None → began_here work.node t ≡ true → is_past_commit work.node t ≡ true) (undecided : v.cell ≢ Committed) where
    abort : (part : Participant) → part_of t work ≡ Some part → (o : Option Outcome) → part.outcome ≡ o → is_abort o ≡ true → IsDoomed v
    abort part known None is so = absurd (cc so)
    abort part known (Some outcomes.Commit) is so = absurd (cc so)
    abort part known (Some outcomes.Abort) is so = known_dooms part known is

    decided : (part : Participant) → part_of t work ≡ Some part → (o : Option Outcome) → part.outcome ≡ o → is_some o ≡ true → IsDoomed v
    decided part known None is so = absurd (cc so)
    decided part known (Some outcomes.Commit) is so = absurd (undecided (learnt part known is))
    decided part known (Some outcomes.Abort) is so = known_dooms part known is

    -- its home knows it no more, or is a later incarnation
    module _ (none : part_of t work ≡ None) (home : same_node t.home (here work) ≡ true) where
      abbrev outcome_if : Bool → machine.Outcome
      outcome_if b = outcome_of (record (new_participant true) { outcome = if b then Some outcomes.Commit else None })

      seen_unknown : (face_at work.node t).outcome ≡ outcome_if (is_past_commit work.node t)
      seen_unknown = ap (λ (o : Option Participant). outcome_of (unwrap_or o (unknown work.node t))) none
          ∙ ap (λ (b : Bool). outcome_of (if b then unknown_at_home work.node t else new_participant false)) home

      knows : began_here work.node t ≡ true → v.outcome (place n (scene.inc n)) ≡ Committed
      knows began = (shown_here t scene n work v is).outcome ∙ (seen_unknown ∙ ap outcome_if (past none began))

      at_n : t.home.0 ≡ n
      at_n = eqb-true t.home.0 n (sym (ap (λ (k : NodeNo). same_node t.home k) is.at.node) ∙ home)

      down : began_here work.node t ≡ false → v.up v.home ≡ false
      down later = ap v.up is.shown.stage.home ∙ (is.shown.stage.up t.home.0 t.inc is.home_in ∙ and_right (scene.up t.home.0) (t.inc == scene.inc t.home.0)
          (ap (λ (i : ℕ). t.inc == i) (ap scene.inc at_n ∙ sym is.at.inc) ∙ and_rest (same_node t.home work.node.setting.node) (t.inc == work.node.setting.inc) home later))

      of_home : (b : Bool) → began_here work.node t ≡ b → IsDoomed v
      of_home true began = absurd (undecided (is.lawful.agreed.knows_commit (place n (scene.inc n)) (knows began)))
      of_home false later = past_home_dooms v is.lawful.reached (down later) undecided

    pub dropped_dooms : is_dropped (same_node t.home (here work)) (part_of t work) ≡ true → IsDoomed v
    dropped_dooms drops = by (same_node t.home (here work)) refl (part_of t work) refl drops
      where
        by : (b : Bool) → same_node t.home (here work) ≡ b → (o : Option Participant) → part_of t work ≡ o → is_dropped b o ≡ true → IsDoomed v
        by true home None none so = of_home none home (began_here work.node t) refl
        by false away None none so = absurd (cc so)
        by true home (Some part) known so = decided part known part.outcome refl so
        by false away (Some part) known so = abort part known part.outcome refl so
