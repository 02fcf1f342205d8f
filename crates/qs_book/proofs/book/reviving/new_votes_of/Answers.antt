use Rattle.qs_book_journal.specs.declared.entry.Found.{Found}
use Rattle.qs_book_machine.specs.Restart.{new_vote}
use Rattle.qs_book.proofs.Loops.{gathered}
use Rattle.qs_book.proofs.book.reviving.new_votes_of.Goals as goal

abbrev no_found : Found
no_found = record { tid = record { home = record { 0 = 0 }; inc = 0; seq = 0 }; server = record { 0 = 0 }; covers = 0 }

pub loop-found-preserved : goal.loop-found-preserved
loop-found-preserved c =
    gathered (new_vote c.args.here.0 c.args.book.now c.args.node.now) c.args.pend.now c.loop-found.found-index no_found
    c.loop-found.votes.items c.add_new_vote.new.votes.items c.loop-found-test.true c.loop-found.invariant c.in_ok-add_new_vote.ensures
