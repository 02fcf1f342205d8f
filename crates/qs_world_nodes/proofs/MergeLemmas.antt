-- What a stable sort leaves of all steps is the merge of the traces.
use Rattle.std.proofs.Common.{◌≡◌, ◌∙◌, ℕ, List, [], get_or, length, refl, subst, sym}
use Rattle.std.specs.List.{flat_map}
use Rattle.std.specs.List.Sorted.{IsSortedBy, IsStableBy}
use Rattle.qs_node_step.specs.declared.trace.Step.{Step}
use Rattle.qs_world_merge.specs.MergedByKey.{IsMergedBy, key_lt}
use Rattle.qs_world_merge.specs.StepMoves.{step_key}
use Rattle.qs_world_traces.proofs.AreListed.{each_trace_listed}

pub merged_by : (traces : List (List Step)) (steps after : List Step) → steps ≡ flat_map (λ xs. xs) traces → IsSortedBy (key_lt step_key) after → IsStableBy (key_lt step_key) steps after
    → IsMergedBy step_key (length traces) (λ n. get_or traces n []) after
merged_by traces steps after from sorted stable = record {
  in_order = sorted;
  as_they_stood = subst (λ (xs : List Step). IsStableBy (key_lt step_key) xs after) (from ∙ sym (each_trace_listed traces (λ n. get_or traces n []) (λ n low. refl))) stable;
}
