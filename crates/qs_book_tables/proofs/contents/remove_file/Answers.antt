use Rattle.std.proofs.Common.{◌≡◌, Ok, Err, ◌∙◌}
use Rattle.qs_ops.specs.Places.{place_of}
use Rattle.qs_ops.proofs.FileOrder.{remove_file-found, remove_file-gap, in_order-remove_file}
use Rattle.qs_book_tables.proofs.contents.remove_file.Goals as goal

pub returns-in-Ok-clause-value : goal.returns-in-Ok-clause-value
returns-in-Ok-clause-value c =
    let e : Ok c.in-Ok.at ≡ place_of c.args.files.now.items c.args.name.now = cc c.in-Ok.ensures.value in
    c.remove.ensures.items ∙ remove_file-found c.args.files.now.items c.args.name.now c.in-Ok.at c.requires e

pub returns-in-Ok-clause-order : goal.returns-in-Ok-clause-order
returns-in-Ok-clause-order c =
    let e : Ok c.in-Ok.at ≡ place_of c.args.files.now.items c.args.name.now = cc c.in-Ok.ensures.value in
    rw (c.remove.ensures.items ∙ remove_file-found c.args.files.now.items c.args.name.now c.in-Ok.at c.requires e)
    (in_order-remove_file c.args.files.now.items c.args.name.now c.requires)

pub returns-in-Err-clause-value : goal.returns-in-Err-clause-value
returns-in-Err-clause-value c =
    let e : Err c.in-Err.field-0 ≡ place_of c.args.files.now.items c.args.name.now = cc c.in-Err.ensures.value in
    remove_file-gap c.args.files.now.items c.args.name.now c.in-Err.field-0 c.requires e
