-- Changes that write files, added behind others.
use Rattle.std.specs.Prelude.{◌≡◌, ℕ, ◌++◌, List}
use Rattle.qs_ops.specs.Server.{AreAppends, IsFileWritten, AreFilesWritten}
use Rattle.qs_ops.specs.declared.file.File.{File}
use Rattle.qs_ops.specs.declared.operation.Op.{Op}

-- appends of the text
abbrev pub AddsAppends : List ℕ → List ℕ → List Op → List Op → Type 0
AddsAppends name text old new = (ops : List Op) × (new ≡ old ++ ops) × AreAppends name text ops

-- changes that write a file
abbrev pub AddsFile : List ℕ → List ℕ → List Op → List Op → Type 0
AddsFile name text old new = (ops : List Op) × (new ≡ old ++ ops) × IsFileWritten (record { name = name; content = text }) ops

-- changes that write files, one after the other
abbrev pub AddsFiles : List File → List Op → List Op → Type 0
AddsFiles files old new = (ops : List Op) × (new ≡ old ++ ops) × AreFilesWritten files ops
