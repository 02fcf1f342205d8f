use Rattle.std.proofs.Common.{ap, sym, ◌∙◌, List, [], ◌∷◌, ◌++◌, get_or}
use Rattle.std.proofs.lemmas.List.{take_more}
use Rattle.qs_base.specs.declared.identifiers.Tid.{Tid}
use Rattle.qs_book.proofs.Looking.{among_more}
use Rattle.qs_book.proofs.found.FoundCommits.new.Goals as goal

abbrev no_tid : Tid
no_tid = record { home = record { 0 = 0 }; inc = 0; seq = 0 }

pub loop-tid-preserved : goal.loop-tid-preserved
loop-tid-preserved c = record {
  items = c.in_ok-push.ensures.items
      ∙ ap (λ (l : List Tid). l ++ get_or c.args.tids.now c.loop-tid.tid-index no_tid ∷ []) c.loop-tid.invariant.items
      ∙ sym (take_more c.args.tids.now c.loop-tid.tid-index no_tid c.loop-tid-test.true);
  set = among_more c.args.tids.now c.loop-tid.tid-index no_tid c.loop-tid.set.keys c.add_tid.new.set.keys c.loop-tid-test.true
      c.in_ok-add_tid.ensures c.loop-tid.invariant.set;
}
