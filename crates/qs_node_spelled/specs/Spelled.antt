-- Which messages a session may send.
use Rattle.std.specs.Prelude.{◌≡◌, false}
use Rattle.qs_packet.specs.Grammar.{IsMessage, is_hello}
use Rattle.qs_packet.specs.declared.message.Message.{Message}

-- a message that may be sent: any that has a spelling, but no Hello, which bears no number
abbrev pub IsSendable : Message → Type 0
IsSendable message = IsMessage message × (is_hello message ≡ false)
