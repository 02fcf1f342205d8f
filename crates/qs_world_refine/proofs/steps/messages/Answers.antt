use Rattle.qs_world_refine.proofs.MessageStands.{foreign_stands, answered_stands, ask_vote_stands, refusal_stands}
use Rattle.qs_world_refine.proofs.steps.messages.Goals as goal

pub returns : goal.returns
returns c = record { foreign = foreign_stands; answered = answered_stands; ask_vote = ask_vote_stands; refusal = refusal_stands }
