use Rattle.qs_world_lawful.proofs.SaidLearnt.{learnt_says}
use Rattle.qs_world_lawful.proofs.SaidWhole.{step_says}
use Rattle.qs_world_lawful.proofs.lawful_logs.step_says_contents.Goals as goal

pub returns : goal.returns
returns c = record {
  learnt = λ opened history coherent lawful stamp disk waiting work new tid front servers log grows plain setting in_run at_home entered done all ended logs logged said. learnt_says opened history coherent lawful stamp disk waiting work new tid front servers log grows plain setting in_run at_home entered done all ended logs logged said;
  step = λ opened history coherent numbered lawful stamp size nodes n host event free s in_run true_event logged tells said. step_says opened history coherent numbered lawful stamp size nodes n host event free s in_run true_event tells logged said;
}
