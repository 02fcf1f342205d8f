-- What the machine of one transaction says at a stage of a node's step: while it is not committed there, its home has not committed it.
use Rattle.qs_world_runs.proofs.Words.{◌≡◌, ◌⊎◌, inl, inr, ℕ, ◌<◌, ◌==◌, ◌||◌, not, Bool, true, false, Option, Some, None, refl, sym, ap, subst, ◌∙◌, if◌then◌else◌, find, list_any, eqb-true, eq-eqb, or_left, or_right, same_tid, NodeNo, Tid, same_node, Nodes, is_outcome_of, is_kept_commit, Work, Participant, World, Committed, Leads, ShowsAll, began_here, outcome_seen, place, Scene, same_flag, IsSteadyWorld, IsTidyNode, Stage, case_of, face_is, shown_here, known_sound, is_committed_at, nodes_in}
use Rattle.qs_world_runs.proofs.Words.{eqb-self}
use Rattle.std.proofs.lemmas.Bool.{false_from_ne_true}
use Rattle.qs_base.specs.declared.identifiers.Outcome.{Outcome}
use Rattle.qs_base.specs.declared.identifiers.Outcome.TheVariants as outcomes
use Rattle.qs_node_step.specs.Answering.{was_committed}
use Rattle.qs_node_step.specs.State.{NodeValue, part_of}
use Rattle.qs_tm.specs.Manager as tm
use Rattle.qs_world_agree.specs.World as machine
use Rattle.qs_world_refine.specs.Faces.{Face}
use Rattle.qs_world_refine.specs.Stands.{Stands}
use Rattle.qs_world_refine.specs.Tidy.{is_settled}
use Rattle.qs_world_refine.proofs.LaterWorlds.{commit_stays}
use Rattle.qs_world_refine.proofs.TurnOn.{KeptSo, became, fate_at, fate_found, same_outcome}
use Rattle.qs_world_lawful.specs.Agreed.{node_in}
use Rattle.qs_world_lawful.specs.Beside.{is_done}

-- ---- at a home between its steps, what it knows as committed it keeps so, or its log had it

home_keeps : (c : Stage) (node : NodeValue) → IsTidyNode c node → (t : Tid) → same_node t.home node.setting.node ≡ true → (part : Participant) → tm.part_of t node.manager ≡ Some part → part.outcome ≡ Some outcomes.Commit → was_committed t node ≡ true
home_keeps c node tidy t home part known decided = by (began_here node t) refl
  where
    by : (b : Bool) → began_here node t ≡ b → was_committed t node ≡ true
    by true here = tidy.crossed.commits t part known here decided
    by false later = or_right (is_kept_commit (find (is_outcome_of t) node.kept.now.outcomes)) (list_any (same_tid t) node.committed)
        (subst (λ (o : Option Outcome). is_settled o (list_any (same_tid t) node.committed) ≡ true) decided (tidy.crossed.earlier t part known home later))

-- it has not committed what is neither kept so nor known so
not_done : (t : Tid) (node : NodeValue) → (was_committed t node ≡ true → ⊥) → ((part : Participant) → tm.part_of t node.manager ≡ Some part → part.outcome ≡ Some outcomes.Commit → ⊥) → is_committed_at node t ≡ false
not_done t node unkept unknown = neither (false_from_ne_true (was_committed t node) unkept) (by (tm.part_of t node.manager) refl)
  where
    neither : {a b : Bool} → a ≡ false → b ≡ false → (a || b) ≡ false
    neither x y = rw (x, y) refl

    open_part : (o : Option Outcome) → (o ≡ Some outcomes.Commit → ⊥) → is_done o ≡ false
    open_part None never = refl
    open_part (Some outcomes.Commit) never = absurd (never refl)
    open_part (Some outcomes.Abort) never = refl

    by : (o : Option Participant) → tm.part_of t node.manager ≡ o → tm.told_of t false (λ part. is_done part.outcome) node.manager ≡ false
    by None none = ap (λ (o : Option Participant). elim o [ None ↦ false | Some part ↦ is_done part.outcome ]) none
    by (Some part) known = ap (λ (o : Option Participant). elim o [ None ↦ false | Some part ↦ is_done part.outcome ]) known ∙ open_part part.outcome (unknown part known)

-- ---- what a stage of the step says of the transaction

pub record AtStage (t : Tid) (world : World) (w : machine.World) (n : ℕ) (later : Scene) (ends : Bool) (work : Work) : Type 0 where
  pub now : machine.World
  pub leads : Leads w now
  pub stands : Stands t later n work now
  pub kept : KeptSo (case_of t world n ends w) work
  pub ended : ends ≡ true → now.cell ≡ Committed

module _ (t : Tid) (world : World) (w : machine.World) (tidy : IsSteadyWorld world) (home_in : t.home.0 < world.size) (all : ShowsAll t world w) (n : ℕ) (later : Scene) (ends : Bool) (work : Work) (s : AtStage t world w n later ends work) where
  abbrev v : machine.World
  v = s.now

  commit_on : w.cell ≡ Committed → v.cell ≡ Committed
  commit_on = commit_stays w v all.seen.lawful s.leads

  -- who is in its step, and knows the commit at the home
  known_here : t.home.0 ≡ n → (part : Participant) → part_of t work ≡ Some part → part.outcome ≡ Some outcomes.Commit → v.cell ≡ Committed
  known_here at part known decided = s.stands.lawful.agreed.knows_commit (place n (later.inc n)) ((shown_here t later n work v s.stands).outcome
      ∙ (ap (λ (f : Face). f.outcome) (face_is t later n work v s.stands part known) ∙ (ap (λ (o : Option Outcome). outcome_seen o (part.engage.home || part.involved)) decided ∙ seen (part.engage.home || part.involved) (or_left part.engage.home part.involved is_home))))
    where
      seen : (b : Bool) → b ≡ true → outcome_seen (Some outcomes.Commit) b ≡ Committed
      seen b so = rw so refl

      here : same_node t.home work.node.setting.node ≡ true
      here = ap (λ (k : NodeNo). same_node t.home k) s.stands.at.node ∙ eq-eqb t.home.0 n at

      is_home : part.engage.home ≡ true
      is_home = flag part.engage.home (same_node t.home work.node.setting.node) here (known_sound t work.node part known s.stands.sound).homed
        where
          flag : (a b : Bool) → b ≡ true → same_flag a b ≡ true → a ≡ true
          flag true b so both = refl
          flag false b so both = absurd (let off : not b ≡ false = rw so refl in cc (off, both))

  kept_here : t.home.0 ≡ n → was_committed t work.node ≡ true → v.cell ≡ Committed
  kept_here at is = by ends refl
    where
      before : was_committed t (world.hosts n).node ≡ true → v.cell ≡ Committed
      before was = commit_on (all.kept.now (subst (λ (k : ℕ). was_committed t (world.hosts k).node ≡ true) (sym at) was))

      fated : (acks : Nodes) → fate_at t work.node ≡ became (Some outcomes.Commit) acks → v.cell ≡ Committed
      fated acks fate = found (part_of t work) refl
        where
          found : (o : Option Participant) → part_of t work ≡ o → v.cell ≡ Committed
          found None none = absurd (let both : None ≡ became (Some outcomes.Commit) acks = sym (ap fate_found none) ∙ fate in cc (both))
          found (Some part) known = known_here at part known (same_outcome part.outcome (Some outcomes.Commit) part.acknowledged acks (sym (ap fate_found known) ∙ fate))

      which : (was_committed t (world.hosts n).node ≡ true) ⊎ ((acks : Nodes) × (fate_at t work.node ≡ became (Some outcomes.Commit) acks)) → v.cell ≡ Committed
      which (inl was) = before was
      which (inr known) = fated known.0 known.1

      by : (b : Bool) → ends ≡ b → v.cell ≡ Committed
      by true so = s.ended so
      by false open_end = which (s.kept open_end is)

  -- so while the machine has no commit, its home has none
  pub undone : (v.cell ≡ Committed → ⊥) → is_committed_at (node_in (nodes_in world) n work t.home.0) t ≡ false
  undone never = by (t.home.0 == n) refl
    where
      there : is_committed_at (world.hosts t.home.0).node t ≡ false
      there = not_done t (world.hosts t.home.0).node (λ was. never (commit_on (all.kept.now was)))
          (λ part known decided. never (commit_on (all.kept.now (home_keeps _ (world.hosts t.home.0).node (tidy.nodes t.home.0 home_in).tidy t home_there part known decided))))
        where
          home_there : same_node t.home (world.hosts t.home.0).node.setting.node ≡ true
          home_there = ap (λ (k : NodeNo). same_node t.home k) (tidy.seated.node t.home.0 home_in) ∙ eqb-self t.home.0

      by : (b : Bool) → (t.home.0 == n) ≡ b → is_committed_at (if b then work.node else (world.hosts t.home.0).node) t ≡ false
      by false apart = there
      by true same = not_done t work.node (λ is. never (kept_here (eqb-true t.home.0 n same) is)) (λ part known decided. never (known_here (eqb-true t.home.0 n same) part known decided))
