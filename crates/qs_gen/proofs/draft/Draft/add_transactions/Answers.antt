use Rattle.std.proofs.Common.{arith}
use Rattle.qs_gen.specs.Load.{with_transactions}
use Rattle.qs_gen.proofs.LoadLemmas.{no_transactions, next_transaction, all_of}
use Rattle.qs_gen.proofs.draft.Draft.add_transactions.Goals as goal

pub loop-number-init : goal.loop-number-init
loop-number-init c = no_transactions c.args.client c.args.self.now

pub loop-number-preserved : goal.loop-number-preserved
loop-number-preserved c = next_transaction c.args.client _ _ _ _ c.in_ok-add_transaction.ensures c.loop-number.invariant

pub returns : goal.returns
returns c = all_of (λ number. with_transactions c.args.client number c.args.self.now) _ _ 40 (omega arith) c.loop-number.invariant
