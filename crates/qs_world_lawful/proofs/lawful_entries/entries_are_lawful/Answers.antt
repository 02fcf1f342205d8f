use Rattle.qs_world_lawful.proofs.Clauses.{may_begin, may_tick, may_ask, may_count, may_serve, may_vote, may_learn, may_answer}
use Rattle.qs_world_lawful.proofs.lawful_entries.entries_are_lawful.Goals as goal

pub returns : goal.returns
returns c = record { begins = may_begin; ticks = may_tick; asks = may_ask; counts = may_count; serves = may_serve; votes = may_vote; learns = may_learn; answers = may_answer }
