use Rattle.std.proofs.Common.{◌≡◌, OnOk, subst}
use Rattle.qs_book_machine.specs.Book.{BookValue}
use Rattle.qs_book_machine.specs.Restart.{restart_found}
use Rattle.qs_book.proofs.book.Book.restart.Goals as goal

pub returns : goal.returns
returns c =
    subst
    (λ (book : BookValue). OnOk c.restart_found.result (c.restart_found.new.self ≡ restart_found c.args.here.0 c.args.inc c.args.pend.now c.args.done.now book))
    c.in_ok-put_new_votes.ensures c.restart_found.ensures
