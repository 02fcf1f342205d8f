use Rattle.qs_world_refine.proofs.RuleGoes.{ask_vote, refusal, recoverable, volatile, read_only, against, answer_superior}
use Rattle.qs_world_refine.proofs.rules.votes.Goals as goal

pub returns : goal.returns
returns c = record { ask_vote = ask_vote; refusal = refusal; recoverable = recoverable; volatile = volatile; read_only = read_only; against = against; answer_superior = answer_superior }
