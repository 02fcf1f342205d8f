-- Which effects of a step can be written: its records in the log, its messages in packets.
use Rattle.std.specs.Prelude.{All}
use Rattle.qs_node_spelled.specs.Spelled.{IsSendable}
use Rattle.qs_node_step.specs.declared.event.Effects.{Effects}
use Rattle.qs_node_step.specs.declared.event.Sending.{Sending}
use Rattle.qs_record.specs.Grammar.{IsRecord}

abbrev pub IsSent : Sending → Type 0
IsSent sending = IsSendable sending.message

-- each record and each message has a spelling
pub record AreSpelled (out : Effects) : Type 0 where
  pub records : All IsRecord out.records
  pub messages : All IsSent out.messages
