-- A step and its clients, in a world in which all stands together.
use Rattle.qs_world_runs.proofs.Words.{ℕ, sym, ap, subst, IsRising, book_after, client_cmp, effects_of, Event, Source, step_with, entries_of, Opening, World, StepMay, step_may, IsOfStep, Every, HoldsScripts, HoldsNodeAt, MakesStep, InStep, ClientsAt, Joined, book_in}
use Rattle.qs_world_runs.specs.StepLaws.{AnswersAside, BeginsOwned, KeepsClients, KeepsScripts}
use Rattle.qs_world_runs.specs.Answering.{IsFree}
use Rattle.qs_world_runs.proofs.JoinedClients as clients
use Rattle.qs_world_runs.proofs.JoinedScripts as scripts

module _ (P : Opening → World → Type 0) (o : Opening) (world : World) (j : Joined P o world) (n stamp free : ℕ) (source : Source) (event : Event) (makes : MakesStep world n stamp source event) where
  its : StepMay world n source
  its = step_may world n stamp source makes.may

  at : HoldsNodeAt (book_in o world) world n
  at = j.held.nodes n its.low

  rising : IsRising client_cmp (world.hosts n).node.commands
  rising = (at.runs its.runs).still.clients.apart

  -- of a client that commands nothing is in hand
  pub comes_free : IsFree event (world.hosts n).node.commands
  comes_free = clients.free_event o j.opens (book_in o world) world n stamp free source event makes.comes j.scripts j.clients j.size its.low its.runs at.run rising

  pub of_steps : Every IsOfStep (effects_of (world.hosts n).node event free).entries
  of_steps = clients.of_steps o j.opens (book_in o world) world n stamp free source event makes.comes j.scripts j.clients j.size its.low its.runs at.run rising

  pub begins_owned : BeginsOwned o world n stamp free source event
  begins_owned = clients.begins_owned o j.opens (book_in o world) world n stamp free source event makes.comes j.scripts j.clients j.size its.low its.runs at.run rising

  pub answers_aside : AnswersAside o world n stamp free source event
  answers_aside = clients.answers_aside o j.opens (book_in o world) world n stamp free source event makes.comes j.scripts j.clients j.size its.low its.runs at.run rising

  pub clients_then : KeepsClients o world n stamp free source event
  clients_then = subst ClientsAt (sym (ap (step_with world n stamp free source) makes.comes))
      (scripts.clients_then o j.opens (book_in o world) world n stamp free source event makes.comes j.scripts j.clients j.size its.low its.runs at.run rising)

  pub scripts_then : KeepsScripts o world n stamp free source event
  scripts_then = subst (λ (w : World). HoldsScripts o (book_after (book_in o world) (entries_of n stamp (effects_of (world.hosts n).node event free).entries)) w) (sym (ap (step_with world n stamp free source) makes.comes))
      (scripts.scripts_then o j.opens (book_in o world) world n stamp free source event makes.comes j.scripts j.clients j.size its.low its.runs at.run rising)

pub steps_owned : (P : Opening → World → Type 0) → InStep P BeginsOwned
steps_owned P o world n stamp free source event j makes = begins_owned P o world j n stamp free source event makes

pub steps_aside : (P : Opening → World → Type 0) → InStep P AnswersAside
steps_aside P o world n stamp free source event j makes = answers_aside P o world j n stamp free source event makes

pub steps_clients : (P : Opening → World → Type 0) → InStep P KeepsClients
steps_clients P o world n stamp free source event j makes = clients_then P o world j n stamp free source event makes

pub steps_scripts : (P : Opening → World → Type 0) → InStep P KeepsScripts
steps_scripts P o world n stamp free source event j makes = scripts_then P o world j n stamp free source event makes
