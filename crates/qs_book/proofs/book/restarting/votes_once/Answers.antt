use Rattle.std.proofs.Common.{ap}
use Rattle.std.specs.Prelude.{Bool, ◌&&◌}
use Rattle.std.proofs.lemmas.List.{drop_more}
use Rattle.qs_book_journal.specs.declared.entry.Found.{Found}
use Rattle.qs_book_machine.specs.Restart.{votes_once}
use Rattle.qs_book.proofs.Once.{none_seen, next_seen, seen_again}
use Rattle.qs_book.proofs.book.restarting.votes_once.Goals as goal

abbrev no_found : Found
no_found = record { tid = record { home = record { 0 = 0 }; inc = 0; seq = 0 }; server = record { 0 = 0 }; covers = 0 }

pub loop-found-init : goal.loop-found-init
loop-found-init c = rw c.new-seen.ensures.empty (ap (λ (b : Bool). b && votes_once c.args.pend.now) (none_seen c.args.pend.now))

pub loop-found-preserved : goal.loop-found-preserved
loop-found-preserved c =
    next_seen c.loop-found.seen.keys c.args.pend.now _ c.loop-found.found-index
    (drop_more c.args.pend.now c.loop-found.found-index no_found c.loop-found-test.true) c.loop-found.invariant
    c.in_ok-is_first.field-0 c.in_ok-is_first.ensures.first c.is_first.new.seen.keys c.in_ok-is_first.ensures.seen c.if-not-branch.false

pub returns-then-not-branch : goal.returns-then-not-branch
returns-then-not-branch c =
    seen_again c.loop-found.seen.keys c.args.pend.now _ c.loop-found.found-index
    (drop_more c.args.pend.now c.loop-found.found-index no_found c.loop-found-test.true) c.loop-found.invariant
    c.in_ok-is_first.field-0 c.in_ok-is_first.ensures.first c.if-not-branch.true
