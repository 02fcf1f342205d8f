-- What a lawful step keeps of the clients of its node, all of it.
use Rattle.qs_world_lawful.proofs.BesideSent.{lawful_on}
use Rattle.qs_world_said.specs.Knows.{KnowsNames}
use Rattle.qs_world_said.specs.Steps.{KnowsStep, StepSaid}
use Rattle.qs_world_said.specs.Whole.{LawfulStepLeaves}
use Rattle.qs_world_said.proofs.LawfulStages.{lawful_step_keeps_said}
use Rattle.qs_world_said.proofs.NamingStep.{names_are_known_amid, step_keeps_standing}
use Rattle.qs_world_said.proofs.OpensStep.{lawful_step_leaves_open}

pub lawful_step_leaves : LawfulStepLeaves
lawful_step_leaves own stamp before size nodes n node event free on comes tells deeds stood = record {
  keeps = said.keeps;
  stand = record { amid = said.on; names = step_keeps_standing own stamp before node event free on.in_run (lawful_on stamp before.book size nodes n node event free on) comes tells stood.names };
  opens = lawful_step_leaves_open stamp before size nodes n node event free on names;
}
  where
    names : KnowsStep KnowsNames stamp before node event free
    names = names_are_known_amid own stamp before size nodes n node event free on comes tells stood.names deeds

    said : StepSaid stamp before node event free
    said = lawful_step_keeps_said stamp before size nodes n node event free on names stood.amid
