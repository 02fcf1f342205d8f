use Rattle.qs_ops.proofs.FileOrder.{file_text-found, file_text-gap}
use Rattle.qs_book_tables.proofs.contents.file_text.Goals as goal

pub returns-in-Ok : goal.returns-in-Ok
returns-in-Ok c = file_text-found c.args.files.now c.args.name.now c.in-Ok.at c.index-files-at.result c.requires c.in-Ok.ensures.bound c.in-Ok.ensures.value

pub returns-in-Err : goal.returns-in-Err
returns-in-Err c = file_text-gap c.args.files.now c.args.name.now c.in-Err.field-0 c.requires c.in-Err.ensures.value
