use Rattle.std.proofs.Common.{ap, sym, ◌∙◌, List, [], ◌∷◌, ◌++◌, get_or}
use Rattle.std.proofs.lemmas.List.{take_more}
use Rattle.qs_book_journal.specs.declared.entry.Found.{Found}
use Rattle.qs_book.proofs.Looking.{covers_more}
use Rattle.qs_book.proofs.found.FoundVotes.new.Goals as goal

abbrev no_found : Found
no_found = record { tid = record { home = record { 0 = 0 }; inc = 0; seq = 0 }; server = record { 0 = 0 }; covers = 0 }

pub loop-found-preserved : goal.loop-found-preserved
loop-found-preserved c = record {
  items = c.in_ok-push.ensures.items
      ∙ ap (λ (l : List Found). l ++ get_or c.args.pend.now c.loop-found.found-index no_found ∷ []) c.loop-found.invariant.items
      ∙ sym (take_more c.args.pend.now c.loop-found.found-index no_found c.loop-found-test.true);
  best = covers_more c.args.pend.now c.loop-found.found-index no_found c.loop-found.covers.entries c.add_covers.new.covers.entries c.loop-found-test.true
      c.in_ok-add_covers.ensures c.loop-found.invariant.best;
}
