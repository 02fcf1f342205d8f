use Rattle.std.proofs.Common.{◌≡◌, take, map}
use Rattle.qs_book_machine.specs.Opening.{put_of}
use Rattle.qs_book.proofs.opening.puts_of.Given as goal

abbrev pub invariant-loop-file : goal.invariant-loop-file
invariant-loop-file l = l.puts ≡ map put_of (take l.file-index l.files)
