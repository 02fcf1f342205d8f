use Rattle.std.proofs.Common.{◌∙◌, sym, ap}
use Rattle.std.specs.Map.{set_value}
use Rattle.std.specs.BTreeMap.{is_at}
use Rattle.std.proofs.lemmas.Result.{on_err_weaker}
use Rattle.std.proofs.lemmas.Map.Steps.{set_value_same}
use Rattle.qs_ipc.specs.Queue.{QueueValue}
use Rattle.qs_ipc.specs.Ipc.{server_cmp}
use Rattle.qs_ipc.proofs.ipc.add.Goals as goal

pub returns-in-Some-clause-err : goal.returns-in-Some-clause-err
returns-in-Some-clause-err c =
    let es = c.args.queues.now.entries in
    on_err_weaker c.add.result
    (λ same. (c.get_mut.follows.holds c.add.new.self).0
    ∙ ap (λ (q : QueueValue). set_value (is_at (server_cmp c.args.server)) es q) same
    ∙ set_value_same (is_at (server_cmp c.args.server)) es c.in-Some.queue.now (sym c.in-Some.ensures.value))
    c.add.ensures.err
