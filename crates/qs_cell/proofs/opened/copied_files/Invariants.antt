use Rattle.std.proofs.Common.{◌≡◌, take}
use Rattle.qs_cell.proofs.opened.copied_files.Given as goal

abbrev pub invariant-loop-file : goal.invariant-loop-file
invariant-loop-file l = l.copies ≡ take l.file-index l.files
