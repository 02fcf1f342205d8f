use Rattle.std.proofs.Common.{rules}
use Rattle.std.proofs.lemmas.Map.Made.{filter_same_pairs}
use Rattle.qs_book_machine.specs.Restart.{is_found}
use Rattle.qs_book_machine.specs.declared.state.OnRecord.{OnRecord}
use Rattle.qs_book_machine.specs.declared.state.Voter.{Voter}
use Rattle.qs_book.proofs.node.keep_found.Goals as goal

-- src/node.rt
pub returns : goal.returns
returns c = filter_same_pairs _ (λ (entry : Voter × OnRecord). is_found c.args.votes.now entry.0) _ (λ k v b w f' t. search rules) _ _ c.retain.ensures.filtered
