use Rattle.std.proofs.Common.{◌∙◌, ap}
use Rattle.std.specs.Prelude.{ℕ, Bool}
use Rattle.std.specs.BTreeMap.{is_at}
use Rattle.std.specs.Map.{set_value}
use Rattle.std.proofs.lemmas.Result.{on_ok_weaker}
use Rattle.qs_base.specs.Order.{tid_cmp}
use Rattle.qs_book.specs.contracts.book.Book.{the_view}
use Rattle.qs_book_machine.specs.Book.{is_done, inc_at}
use Rattle.qs_book_machine.specs.Transaction.{TransactionValue, served_in}
use Rattle.qs_book.proofs.Serving.{served_known}
use Rattle.qs_book.proofs.book.Book.serve_at.Goals as goal

pub returns : goal.returns
returns c =
    let now = c.args.self.now in
    let book = the_view c.self.inside in
    let tx = c.in-Some.tx.now in
    on_ok_weaker c.serve-2.result
    (λ served. served_known c.args.here.0 c.args.at c.args.tid c.args.member c.args.reply.now
    (served_in c.args.at c.args.member (inc_at now c.args.here) c.args.stamp (is_done c.args.reply.now)) book now tx _ _ c.self.view_is
    c.in-Some.ensures.value c.in_ok-serve.ensures
    ((c.get_mut.follows.holds c.serve-2.new.self).0
    ∙ ap (λ (new : TransactionValue). set_value (is_at (tid_cmp c.args.tid)) book.transactions new)
    (served
    ∙ ap (λ (inc : ℕ). served_in c.args.at c.args.member inc c.args.stamp c.is_done.result tx) c.inc_at-inc.ensures
    ∙ ap (λ (done : Bool). served_in c.args.at c.args.member (inc_at now c.args.here) c.args.stamp done tx) c.is_done.ensures)))
    c.serve-2.ensures.ok
