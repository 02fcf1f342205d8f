use Rattle.std.proofs.Common.{◌∙◌, ap, sym, List}
use Rattle.qs_base.specs.declared.identifiers.Tid.{Tid}
use Rattle.qs_book_machine.specs.Restart.{is_among}
use Rattle.qs_book.proofs.Looking.{among_pushed}
use Rattle.qs_book.proofs.book.reviving.push_tid.Goals as goal

pub returns-clause-set : goal.returns-clause-set
returns-clause-set c = λ other.
    among_pushed c.args.tids.now c.args.tid c.args.set.now.keys c.add_tid.new.set.keys c.in_ok-add_tid.ensures c.requires other
    ∙ ap (λ (l : List Tid). is_among l other) (sym c.in_ok-push.ensures.ok)
