use Rattle.std.proofs.Common.{◌≡◌, Ok, Err, ◌∙◌}
use Rattle.qs_ops.specs.Places.{place_of}
use Rattle.qs_ops.proofs.FileOrder.{put_file-found, put_file-gap, in_order-put_file}
use Rattle.qs_book_tables.proofs.contents.put_file.Goals as goal

pub returns-in-Ok-clause-value : goal.returns-in-Ok-clause-value
returns-in-Ok-clause-value c =
    let e : Ok c.in-Ok.at ≡ place_of c.args.files.now.items c.args.name = cc c.in-Ok.ensures.value in
    put_file-found c.args.files.now.items c.args.name c.args.text c.in-Ok.at e

pub returns-in-Ok-clause-order : goal.returns-in-Ok-clause-order
returns-in-Ok-clause-order c =
    let e : Ok c.in-Ok.at ≡ place_of c.args.files.now.items c.args.name = cc c.in-Ok.ensures.value in
    rw (put_file-found c.args.files.now.items c.args.name c.args.text c.in-Ok.at e)
    (in_order-put_file c.args.files.now.items c.args.name c.args.text c.requires.order)

pub returns-in-Ok-insert-clause-value : goal.returns-in-Ok-insert-clause-value
returns-in-Ok-insert-clause-value c =
    let e : Err c.in-Err.at ≡ place_of c.args.files.now.items c.args.name = cc c.in-Err.ensures.value in
    c.in-Ok-insert.ensures.items ∙ put_file-gap c.args.files.now.items c.args.name c.args.text c.in-Err.at e

pub returns-in-Ok-insert-clause-order : goal.returns-in-Ok-insert-clause-order
returns-in-Ok-insert-clause-order c =
    let e : Err c.in-Err.at ≡ place_of c.args.files.now.items c.args.name = cc c.in-Err.ensures.value in
    rw (c.in-Ok-insert.ensures.items ∙ put_file-gap c.args.files.now.items c.args.name c.args.text c.in-Err.at e)
    (in_order-put_file c.args.files.now.items c.args.name c.args.text c.requires.order)
