-- Where the outcome is kept, the owner's command is answered with it.
use Rattle.std.proofs.Common.{◌≡◌, ap, Option, Some, None}
use Rattle.qs_base.specs.declared.identifiers.ClientNo.{ClientNo}
use Rattle.qs_base.specs.declared.identifiers.Tid.{Tid}
use Rattle.qs_ops.specs.declared.answer.Answer.{Answer}
use Rattle.qs_book_journal.specs.declared.script_line.Command.{Command}
use Rattle.qs_node_kept.specs.declared.kept.Decided.{Decided}
use Rattle.qs_node_step.specs.State.{Work}
use Rattle.qs_node_step.specs.Bringing.{answer}
use Rattle.qs_node_step.specs.Answering.{kept_outcome}
use Rattle.qs_node_step.specs.Commands.{open_command, decided_answer, owner_command}
use Rattle.qs_node.specs.Begun.{kept_answer}

pub told : (client : ClientNo) (tid : Tid) (command : Command) (work : Work) (said : Answer)
    → kept_answer tid command work.node ≡ Some said → answer client said work ≡ owner_command client (Some tid) command work
told client tid command work said is = by (kept_outcome tid work.node) is
  where
    by : (kept : Option Decided) → elim kept [ None ↦ None | Some decided ↦ Some (decided_answer decided command) ] ≡ Some said
        → answer client said work ≡ elim kept [ None ↦ open_command client tid command work | Some decided ↦ answer client (decided_answer decided command) work ]
    by None h = absurd (cc)
    by (Some decided) h =
        let same : said ≡ decided_answer decided command = cc in
        ap (λ (a : Answer). answer client a work) same
