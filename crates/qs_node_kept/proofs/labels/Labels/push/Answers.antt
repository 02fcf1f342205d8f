use Rattle.qs_node_kept.proofs.Newest.{new_last}
use Rattle.qs_node_kept.proofs.labels.Labels.push.Goals as goal

pub invariant_of-self-2 : goal.invariant_of-self-2
invariant_of-self-2 c =
    let label = rw c.items.ensures at c.in_ok-is_new.ensures in
    rw c.in_ok-push.ensures.ok (record {
      indexed = record { labels_found = label.ok; tids_found = rw c.items-2.ensures at c.in_ok-note_tid.ensures.ok };
      last = λ is_new. new_last c.self.inside.items.now c.args.begun (label.new is_new);
    })
