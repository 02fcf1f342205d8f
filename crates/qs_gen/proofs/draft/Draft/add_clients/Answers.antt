use Rattle.std.proofs.Common.{arith}
use Rattle.qs_gen.specs.Load.{with_clients}
use Rattle.qs_gen.proofs.LoadLemmas.{no_clients, next_client, all_of}
use Rattle.qs_gen.proofs.draft.Draft.add_clients.Goals as goal

pub loop-client-init : goal.loop-client-init
loop-client-init c = no_clients c.args.self.now

pub loop-client-preserved : goal.loop-client-preserved
loop-client-preserved c = next_client _ _ _ _ _ c.in_ok-client_line.ensures c.in_ok-add.ensures c.loop-client.invariant

pub returns : goal.returns
returns c = all_of (λ client. with_clients client c.args.self.now) _ _ 8 (omega arith) c.loop-client.invariant
