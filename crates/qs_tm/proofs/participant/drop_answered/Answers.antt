use Rattle.std.proofs.Common.{rules, not}
use Rattle.std.proofs.lemmas.Fn.{filter_same}
use Rattle.qs_tm.specs.Participant.{is_answered_by}
use Rattle.qs_tm.proofs.participant.drop_answered.Goals as goal

-- src/participant.rt
pub returns : goal.returns
returns c = filter_same _ (λ request. not (is_answered_by c.args.member c.args.number request)) _ (λ x b f h. search (rules, h)) _ _ c.retain.ensures.filtered
