use Rattle.qs_book_laws.proofs.Reopening.{ticking_stands, clearing_stands, keeping_stands}
use Rattle.qs_book_laws.proofs.Serving.{replies_by_rules, votes_by_rules, serving_stands, voting_stands, learning_stands, ending_stands}
use Rattle.qs_book_laws.proofs.servers.servers_go_by_the_rules.Goals as goal

pub returns : goal.returns
returns c = record { reply = replies_by_rules; vote = votes_by_rules; served = serving_stands; voted = voting_stands; learnt = learning_stands; ended = ending_stands; ticked = ticking_stands; cleared = clearing_stands; kept = keeping_stands }
