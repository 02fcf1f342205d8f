use Rattle.std.proofs.Common.{◌≡◌, ◌++◌, take}
use Rattle.std.specs.List.{flat_map}
use Rattle.qs_text.specs.Output.{file_text}
use Rattle.qs_text.proofs.output.put_files.Given as goal

abbrev pub invariant-loop-file : goal.invariant-loop-file
invariant-loop-file l = l.out ≡ l.initial.out ++ flat_map (file_text) (take l.file-index l.files)
