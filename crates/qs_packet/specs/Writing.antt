-- The parts of a packet as a writer is given them.
use Rattle.qs_packet.specs.Grammar.{Part, ATag, ANode, AServer, AWord, ANumber, AText, Texts, ATid, AMember, Nodes, AnOp, reply_limit}
use Rattle.qs_packet.specs.declared.part.Part.{Part as GivenPart}
use Rattle.qs_packet.specs.declared.part.Part.TheVariants as given

abbrev pub seen : GivenPart → Part
seen (given.Tag tag) = ATag tag
seen (given.Node node) = ANode node
seen (given.Server server) = AServer server
seen (given.Word n) = AWord n
seen (given.Number n) = ANumber n
seen (given.Name text) = AText 64 text.now
seen (given.Text text) = AText reply_limit text.now
seen (given.Names texts) = Texts 64 texts.now
seen (given.Texts texts) = Texts reply_limit texts.now
seen (given.Tid tid) = ATid tid
seen (given.Member member) = AMember member
seen (given.Nodes nodes) = Nodes nodes.now
seen (given.Op op) = AnOp op.now
