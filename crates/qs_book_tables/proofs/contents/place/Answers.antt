use Rattle.std.proofs.Common.{rules}
use Rattle.std.proofs.lemmas.Fn.{always_returns_same}
use Rattle.qs_base.specs.Order.{bytes_cmp}
use Rattle.qs_ops.proofs.FileOrder.{place_from_search}
use Rattle.qs_book_tables.proofs.contents.place.Goals as goal

-- the closure compares a file's name with the name
pub returns-clause-value : goal.returns-clause-value
returns-clause-value c =
    let found = c.binary_search_by.ensures in
    let by_name = found.position (λ file. bytes_cmp file.name c.args.name.now) (always_returns_same _ _ _ (λ a r g called. search rules)) in
    place_from_search c.args.files.now c.args.name.now _ c.requires found.bound by_name
