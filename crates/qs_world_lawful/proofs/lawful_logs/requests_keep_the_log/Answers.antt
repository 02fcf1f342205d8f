use Rattle.qs_world_lawful.proofs.LogLaws.{quiet_keeps}
use Rattle.qs_world_lawful.proofs.QuietCommands.{quiet_ask_came, quiet_closer, quiet_inquiry, quiet_borrower}
use Rattle.qs_world_lawful.proofs.QuietRequests.{quiet_reply, quiet_request, quiet_serve_all}
use Rattle.qs_world_lawful.proofs.lawful_logs.requests_keep_the_log.Goals as goal

pub returns : goal.returns
returns c = record {
  comes = λ opened history coherent lawful stamp disk waiting work peer tid label member number op. quiet_keeps opened history coherent lawful stamp disk waiting work _ (quiet_request peer tid label member number op work);
  served = λ opened history coherent lawful stamp disk waiting work. quiet_keeps opened history coherent lawful stamp disk waiting work _ (quiet_serve_all work);
  replied = λ opened history coherent lawful stamp disk waiting work tid member number reply. quiet_keeps opened history coherent lawful stamp disk waiting work _ (quiet_reply tid member number reply work);
  asked = λ opened history coherent lawful stamp disk waiting work peer tid. quiet_keeps opened history coherent lawful stamp disk waiting work _ (quiet_ask_came peer tid work);
  counted = λ opened history coherent lawful stamp disk waiting work peer tid up_to told. quiet_keeps opened history coherent lawful stamp disk waiting work _ (quiet_closer peer tid up_to told work);
  inquired = λ opened history coherent lawful stamp disk waiting work peer tid. quiet_keeps opened history coherent lawful stamp disk waiting work _ (quiet_inquiry peer tid work);
  borrowed = λ opened history coherent lawful stamp disk waiting work client tid command. quiet_keeps opened history coherent lawful stamp disk waiting work _ (quiet_borrower client tid command work);
}
