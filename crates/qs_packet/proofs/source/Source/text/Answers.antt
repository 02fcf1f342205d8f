use Rattle.qs_packet.proofs.Texts.{text_taken}
use Rattle.qs_packet.proofs.source.Source.text.Goals as goal

pub returns-clause-exact : goal.returns-clause-exact
returns-clause-exact c = rw (c.in_ok-from_slice.ensures, ← c.self.view_is) c.in_ok-text.ensures.exact

pub returns-clause-value : goal.returns-clause-value
returns-clause-value c = rw (c.in_ok-from_slice.ensures, ← c.self.view_is) (text_taken c.args.limit c.in_ok-text.ensures.fits c.in_ok-text.ensures.value)
