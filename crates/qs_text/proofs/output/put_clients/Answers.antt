use Rattle.std.proofs.Common.{arith}
use Rattle.qs_text.proofs.OutputLemmas.{no_client, next_client, all_clients}
use Rattle.qs_text.proofs.output.put_clients.Goals as goal

pub loop-number-init : goal.loop-number-init
loop-number-init c = no_client c.args.seats.now c.args.history.now c.args.book.now c.args.out.now

pub loop-number-preserved : goal.loop-number-preserved
loop-number-preserved c =
    next_client c.args.seats.now c.args.history.now c.args.book.now c.args.out.now c.loop-number.out c.put_client_part.new.out c.loop-number.number
    c.loop-number.invariant c.in_ok-put_client_part.ensures

pub returns : goal.returns
returns c =
    all_clients c.args.seats.now c.args.history.now c.args.book.now c.args.out.now c.loop-number.out c.loop-number.number (omega arith) c.loop-number.invariant
