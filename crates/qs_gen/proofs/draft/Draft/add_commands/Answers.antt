use Rattle.std.proofs.Common.{arith}
use Rattle.qs_gen.specs.Load.{with_commands}
use Rattle.qs_gen.proofs.LoadLemmas.{no_commands, next_commands, all_of}
use Rattle.qs_gen.proofs.draft.Draft.add_commands.Goals as goal

pub loop-client-init : goal.loop-client-init
loop-client-init c = no_commands c.args.self.now

pub loop-client-preserved : goal.loop-client-preserved
loop-client-preserved c = next_commands _ _ _ _ c.in_ok-add_transactions.ensures c.loop-client.invariant

pub returns : goal.returns
returns c = all_of (λ client. with_commands client c.args.self.now) _ _ 8 (omega arith) c.loop-client.invariant
