use Rattle.std.proofs.Common.{◌∙◌, ap, Option}
use Rattle.std.specs.Prelude.{unwrap_or}
use Rattle.std.specs.BTreeMap.{insert_entry}
use Rattle.qs_base.specs.Order.{tid_cmp}
use Rattle.qs_base.proofs.TidOrder.{tid_total}
use Rattle.qs_ops.specs.declared.share.Share.{Share}
use Rattle.qs_ops.specs.Table.{nothing_held}
use Rattle.qs_ops_shares.proofs.Present.{insert_entry-present}
use Rattle.qs_ops_shares.proofs.shares.set_vote.Goals as goal

pub returns-in-Some-clause-ok : goal.returns-in-Some-clause-ok
returns-in-Some-clause-ok c =
    let es = c.args.shares.now.entries in
    let share = c.set_vote.new.self in
    (c.get_mut.follows.holds share).0
    ∙ insert_entry-present tid_total es c.args.tid c.in-Some.held.now share c.in-Some.ensures.ordered c.in-Some.ensures.value
    ∙ ap (λ (s : Share). insert_entry tid_cmp es c.args.tid s) c.set_vote.ensures
    ∙ ap (λ (o : Option Share). insert_entry tid_cmp es c.args.tid (record (unwrap_or o nothing_held) { voted = c.args.voted })) c.in-Some.ensures.value
