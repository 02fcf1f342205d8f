use Rattle.qs_world_lawful.proofs.LogCrashes.{still_held, may_find, may_rise}
use Rattle.qs_world_lawful.proofs.LogLaws.{inv_is}
use Rattle.qs_world_lawful.proofs.lawful_logs.stopped_node_may_restart.Goals as goal

pub returns : goal.returns
returns c = record {
  stopped = λ opened history coherent lawful n manager disk waiting h stamp cause entered. still_held opened history coherent (inv_is opened history coherent lawful) n manager disk waiting h stamp cause entered;
  found = λ opened history coherent lawful n manager disk waiting h. may_find opened history coherent (inv_is opened history coherent lawful) n manager disk waiting h;
  restarted = λ opened history coherent lawful n manager disk waiting h state there inc rises. may_rise opened history coherent (inv_is opened history coherent lawful) n manager disk waiting h state there inc rises;
}
