use Rattle.qs_codec.proofs.WritingLemmas.{byte_back, word_back, long_back, number_back, text_back}
use Rattle.qs_codec.proofs.laws.reads_back.Goals as goal

pub returns : goal.returns
returns c = record { byte = byte_back; word = word_back; long = long_back; number = number_back; text = text_back }
