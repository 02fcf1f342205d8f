-- Places of files in byte order of their names.
use Rattle.std.specs.Prelude.{◌≡◌, ℕ, suc, List, [], ◌∷◌, Result, ⊤, slice_set}
use Rattle.std.specs.declared.result.Result.TheVariants.{Ok, Err}
use Rattle.std.specs.declared.cmp.Ordering.TheVariants.{Less}
use Rattle.std.specs.Ordering.{match_ordering}
use Rattle.std.specs.List.{insert}
use Rattle.qs_base.specs.Order.{bytes_cmp}
use Rattle.qs_ops.specs.declared.file.File.{File}

-- the name is below that of each file
abbrev pub IsBelowAll : List ℕ → List File → Type 0
IsBelowAll name [] = ⊤
IsBelowAll name (f ∷ fs) = (bytes_cmp name f.name ≡ Less) × IsBelowAll name fs

-- each file's name is below those of the files after it
abbrev pub IsInOrder : List File → Type 0
IsInOrder [] = ⊤
IsInOrder (f ∷ fs) = IsBelowAll f.name fs × IsInOrder fs

-- the same answer, one place further on
abbrev pub one_further : Result ℕ ℕ → Result ℕ ℕ
one_further (Ok at) = Ok (suc at)
one_further (Err at) = Err (suc at)

-- where the file of a name is, else where it would go
abbrev pub place_of : List File → List ℕ → Result ℕ ℕ
place_of [] name = Err 0
place_of (f ∷ fs) name = match_ordering (bytes_cmp name f.name) (Err 0) (Ok 0) (one_further (place_of fs name))

-- the files with this one at the place of its name
abbrev pub with_file : Result ℕ ℕ → File → List File → List File
with_file (Ok at) file files = slice_set files at file
with_file (Err at) file files = insert files at file
