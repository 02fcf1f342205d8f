use Rattle.qs_text.proofs.OutputLemmas.{whole_output}
use Rattle.qs_text.proofs.output.out_text.Goals as goal

pub returns : goal.returns
returns c =
    whole_output c.args.script.now c.as_slice.result.now c.args.history.now c.as_slice-2.result.now c.as_slice-3.result.now c.as_slice-4.result.now
    c.args.book.now c.args.journal c.new-out.result c.put_clients.new.out c.put_nodes.new.out c.put_totals.new.out c.put_shown.new.out
    c.as_slice.ensures c.as_slice-2.ensures c.as_slice-3.ensures c.as_slice-4.ensures
    c.new-out.ensures c.in_ok-put_clients.ensures c.in_ok-put_nodes.ensures c.in_ok-put_totals.ensures c.in_ok-put_shown.ensures
