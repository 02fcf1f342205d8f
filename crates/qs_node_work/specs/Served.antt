-- A request is served in two parts: the server replies, and then the request counts as served.
use Rattle.std.specs.Prelude.{Option, Some, None, true}
use Rattle.qs_base.specs.declared.identifiers.Member.{Member}
use Rattle.qs_base.specs.declared.identifiers.ServerNo.{ServerNo}
use Rattle.qs_base.specs.declared.identifiers.Tid.{Tid}
use Rattle.qs_ipc.specs.declared.delivery.Delivery.{Delivery}
use Rattle.qs_ops.specs.declared.operation.Op.{Op}
use Rattle.qs_ops.specs.declared.reply.Reply.{Reply}
use Rattle.qs_book_journal.specs.declared.entry.Act.TheVariants as acts
use Rattle.qs_tm.specs.Manager as tm
use Rattle.qs_node_step.specs.State.{Work, with_manager, with_doings}
use Rattle.qs_node_step.specs.Bringing.{enter}
use Rattle.qs_node_step.specs.Serving.{change_served}

-- what a reply leaves; all is as it was where there is none
abbrev pub replied : ServerNo → Tid → Op → Option Reply → Work → Work
replied server tid op None work = work
replied server tid op (Some reply) work = change_served server tid op reply work

-- the request counts as served, and its entry stands
abbrev pub count_serve : Member → Delivery → Reply → Work → Work
count_serve member delivery reply work =
    enter (acts.Serve delivery.tid member delivery.from delivery.number reply)
    (with_manager (tm.served delivery.tid member.server) (with_doings delivery.tid (λ doings. record doings { served = true }) work))
