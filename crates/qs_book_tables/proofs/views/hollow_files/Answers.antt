use Rattle.std.proofs.Common.{◌≡◌, arith}
use Rattle.std.proofs.lemmas.Grind.{common_steps}
use Rattle.qs_book_tables.specs.Views.{names_of}
use Rattle.qs_book_tables.proofs.Texts.{in_order-names}
use Rattle.qs_book_tables.proofs.views.hollow_files.Goals as goal

pub returns-clause-order : goal.returns-clause-order
returns-clause-order c =
    let same : names_of c.loop-file.hollow.items ≡ names_of c.args.files.now = grind (arith, common_steps) in
    in_order-names c.args.files.now c.loop-file.hollow.items same c.requires
