use Rattle.std.proofs.Common.{◌∙◌, ap, refl}
use Rattle.qs_ipc.specs.Ipc.{waits}
use Rattle.qs_ipc.proofs.Forgetting.{forget_on, none_below, waits_mapped}
use Rattle.qs_ipc.proofs.ipc.Ipc.forget.Goals as goal

pub loop-number-init : goal.loop-number-init
loop-number-init c = none_below c.args.tid c.self.inside.queues.entries

pub forget_at-requires : goal.forget_at-requires
forget_at-requires c =
    ap (waits c.args.tid) c.loop-number.invariant ∙ waits_mapped c.loop-number.number c.args.tid c.self.inside.queues.entries
    ∙ ap (waits c.args.tid) c.self.view_is ∙ c.requires

pub loop-number-preserved : goal.loop-number-preserved
loop-number-preserved c =
    forget_on c.loop-number.number (record { 0 = c.loop-number.number }) c.args.tid c.self.inside.queues.entries c.loop-number.self-inside.queues.entries c.forget_at.new.queues.entries
    refl c.forget_at.ensures.ordered c.loop-number.invariant c.forget_at.ensures.entries
