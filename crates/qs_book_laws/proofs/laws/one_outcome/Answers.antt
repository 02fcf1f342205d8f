use Rattle.qs_book_laws.proofs.Histories.{decided_stays, learns, learn_alike, answers_truly}
use Rattle.qs_book_laws.proofs.laws.one_outcome.Goals as goal

pub returns : goal.returns
returns c = record { decided = decided_stays; learnt = learns; agreed = learn_alike; answered = answers_truly }
