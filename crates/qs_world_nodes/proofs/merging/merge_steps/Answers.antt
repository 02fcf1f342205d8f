use Rattle.std.proofs.Common.{◌≡◌, ◌∙◌, ℕ, [], get_or, length, refl, rules, sym, subst}
use Rattle.std.proofs.lemmas.List.Sorted.{answers_always}
use Rattle.qs_node_step.specs.declared.trace.Step.{Step}
use Rattle.qs_world_merge.specs.MergedByKey.{IsMergedBy}
use Rattle.qs_world_merge.specs.StepMoves.{step_key}
use Rattle.qs_world_nodes.proofs.MergeLemmas.{merged_by}
use Rattle.qs_world_nodes.proofs.merging.merge_steps.Goals as goal

pub returns : goal.returns
returns c =
    let key : Step → ℕ × ℕ = λ step. (step.stamp, step.node.0) in
    let asked = answers_always _ _ _ (λ f a r g h. search rules) in
    let sort = c.in_ok-sort_by_key.ensures in
    subst (IsMergedBy step_key (length c.args.traces) (λ n. get_or c.args.traces n [])) (sym c.from_vec.ensures)
    (merged_by c.args.traces c.into_vec-steps.result.items c.sort_by_key.new.self.items (c.into_vec-steps.ensures ∙ c.in_ok-joined.ensures)
    (sort.sorted key asked) (sort.stable key asked))
