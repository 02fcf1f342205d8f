use Rattle.std.proofs.Common.{◌∙◌, ap, rules}
use Rattle.std.proofs.lemmas.Map.Made.{map_same_pairs}
use Rattle.qs_ipc.specs.Queue.{marked}
use Rattle.qs_ipc.specs.Ipc.{mark_queues}
use Rattle.qs_ipc.proofs.ipc.Ipc.mark_stale.Goals as goal

-- src/ipc.rt
pub returns : goal.returns
returns c =
    map_same_pairs _ (marked c.args.peer) _ (λ k v b w f' t. search rules) _ _ c.retain.ensures.filtered
    ∙ ap (mark_queues c.args.peer) c.self.view_is
