use Rattle.qs_world_lawful.proofs.FactsStages.{serve_next_keeps}
use Rattle.qs_world_lawful.proofs.FactsStages.{command_keeps, forgets_keep, message_keeps, old_keeps, passes_keep, readies_keep, refuses_keep, ticks_keep, waits_keep}
use Rattle.qs_world_lawful.proofs.FactsStages.{begin_incarnation_keeps, peer_restarted_keeps}
use Rattle.qs_world_lawful.proofs.lawful_given.stages_keep_the_facts.Goals as goal

pub returns : goal.returns
returns c = record { begins = begin_incarnation_keeps; messages = message_keeps; commands = command_keeps; serves = serve_next_keeps; restarts = peer_restarted_keeps; ticks = ticks_keep; olds = old_keeps; passes = passes_keep; readies = readies_keep; refuses = refuses_keep; forgets = forgets_keep; waits = waits_keep }
