-- After a whole step of a node its log says of contents and changes what the machine has, with the records that wait for the next force and on the disk.
use Rattle.qs_world_runs.proofs.Words.{◌≡◌, ℕ, ◌<◌, true, sym, ap, ◌∙◌, length, nat_lt, effects_of, Event, opened_from, Source, log_after, waiting_after, Opening, World, IsTrueEvent, HoldsNodeAt, opens_soundly, opened_numbered, MakesStep, nodes_in, Joined, book_in, WholeSteps, book_then, lt-ltb}
use Rattle.qs_node_step.specs.State.{NodeValue}
use Rattle.qs_world_lawful.specs.SayingSteps.{SaysBetween}
use Rattle.qs_world_lawful.proofs.SaidWhole.{step_says}
use Rattle.qs_world_runs.proofs.JoinedSteps.{step_given, step_low, step_up}
use Rattle.qs_world_runs.proofs.SaidTells.{opened_length, tells_so}

module _ (P : Opening → World → Type 0) (steps : WholeSteps P) (o : Opening) (world : World) (j : Joined P o world) (n stamp free : ℕ) (source : Source) (event : Event) (makes : MakesStep world n stamp source event) (true_event : IsTrueEvent (book_in o world) event) where
  abbrev node : NodeValue
  node = (world.hosts n).node

  low : n < world.size
  low = step_low P steps o world j n stamp free source event makes

  up : world.channels.up n ≡ true
  up = step_up P steps o world j n stamp free source event makes

  at : HoldsNodeAt (book_in o world) world n
  at = j.held.nodes n low

  in_run : nat_lt n (length (opened_from o 0 o.size)) ≡ true
  in_run = ap (λ (k : ℕ). nat_lt n k) (opened_length o 0 o.size ∙ sym j.size) ∙ lt-ltb n world.size low

  pub step_said : SaysBetween n (book_then o world n stamp free event) (log_after (world.hosts n) (effects_of node event free)) (waiting_after (world.hosts n) (effects_of node event free))
  step_said = step_says (opened_from o 0 o.size) world.journal (opens_soundly o j.opens) (opened_numbered o 0 o.size) j.lawful stamp world.size (nodes_in world) n (world.hosts n) event free
      (step_given P steps o world j n stamp free source event makes) in_run true_event (tells_so o world j.shown j.size n stamp free source event makes)
      (at.runs up).log (record { state = at.state; there = at.there; said = (at.runs up).said; on_disk = (at.runs up).on_disk })
