-- Texts that changes leave under names, gathered before they are committed.
use Rattle.std.specs.Prelude.{◌≡◌, ℕ, false, List, Option, unwrap_or}
use Rattle.std.specs.List.{fold}
use Rattle.std.specs.Map.{lookup}
use Rattle.std.specs.BTreeMap.{is_at}
use Rattle.qs_base.specs.Order.{bytes_cmp}
use Rattle.qs_ops.specs.declared.operation.Op.{Op}
use Rattle.qs_ops.specs.declared.file.File.{File}
use Rattle.qs_ops.specs.Files.{file_text}
use Rattle.qs_book_tables.specs.Edits.{changed_at}
use Rattle.qs_book_tables.specs.Views.{set_text}

-- names in byte order, and with each the text that is left there, or nothing
abbrev pub Texts : Type 0
Texts = List (List ℕ × Option (List ℕ))

-- what is under a name: the gathered text, else that of the file
abbrev pub text_staged : Texts → List File → List ℕ → Option (List ℕ)
text_staged texts files name = unwrap_or (lookup (is_at (bytes_cmp name)) texts) (file_text files name)

-- one more change is gathered
abbrev pub IsStaged : List File → Op → Texts → Texts → Type 0
IsStaged files op old new = (name : List ℕ) → text_staged new files name ≡ changed_at name (text_staged old files name) op

-- all these changes are gathered
abbrev pub AreStaged : List File → List Op → Texts → Type 0
AreStaged files ops texts = (name : List ℕ) → text_staged texts files name ≡ fold (changed_at name) (file_text files name) ops

-- the files with a gathered text
abbrev pub set_entry : List File → List ℕ × Option (List ℕ) → List File
set_entry files entry = set_text files entry.0 entry.1

-- at all names but one the texts are the same
abbrev pub IsWithoutName : List ℕ → Texts → Texts → Type 0
IsWithoutName name old new = (other : List ℕ) → is_at (bytes_cmp name) other ≡ false → lookup (is_at (bytes_cmp other)) new ≡ lookup (is_at (bytes_cmp other)) old
