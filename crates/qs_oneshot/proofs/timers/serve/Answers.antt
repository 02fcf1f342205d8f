use Rattle.std.proofs.Common.{◌∙◌, ap, sym, Option}
use Rattle.std.specs.Prelude.{unwrap_or}
use Rattle.std.specs.Map.{set_value}
use Rattle.std.specs.BTreeMap.{insert_entry, is_at}
use Rattle.std.proofs.lemmas.Result.{on_ok_weaker, on_err_weaker}
use Rattle.std.proofs.lemmas.Map.Steps.{set_value_same}
use Rattle.qs_base.specs.Order.{tid_cmp}
use Rattle.qs_base.proofs.TidOrder.{tid_total}
use Rattle.qs_ops.specs.Timers.{TimerShareValue, no_timer_share, after_timer}
use Rattle.qs_ops_shares.proofs.Present.{insert_entry-present}
use Rattle.qs_oneshot.proofs.timers.serve.Goals as goal

pub returns-in-Some-clause-ok : goal.returns-in-Some-clause-ok
returns-in-Some-clause-ok c =
    let es = c.args.shares.now.entries in
    let share = c.serve.new.self in
    on_ok_weaker c.serve.result
    (λ served. (c.get_mut.follows.holds share).0
    ∙ insert_entry-present tid_total es c.args.tid c.in-Some.share.now share c.in-Some.ensures.ordered c.in-Some.ensures.value
    ∙ ap (λ (s : TimerShareValue). insert_entry tid_cmp es c.args.tid s)
    (served ∙ ap (λ (o : Option TimerShareValue). after_timer c.args.now (unwrap_or o no_timer_share) c.args.op.now c.args.reply.now) c.in-Some.ensures.value))
    c.serve.ensures.ok

pub returns-in-Some-clause-err : goal.returns-in-Some-clause-err
returns-in-Some-clause-err c =
    let es = c.args.shares.now.entries in
    let share = c.serve.new.self in
    on_err_weaker c.serve.result
    (λ same. (c.get_mut.follows.holds share).0
    ∙ ap (λ (s : TimerShareValue). set_value (is_at (tid_cmp c.args.tid)) es s) same
    ∙ set_value_same (is_at (tid_cmp c.args.tid)) es c.in-Some.share.now (sym c.in-Some.ensures.value))
    c.serve.ensures.err
