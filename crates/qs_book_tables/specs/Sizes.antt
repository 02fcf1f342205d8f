-- How many bytes the texts of files have.
use Rattle.std.specs.Prelude.{◌≡◌, ℕ, ◌+◌, List, [], length, Option, Some, None, sum_by, unwrap_or}
use Rattle.qs_ops.specs.declared.operation.Op.{Op}
use Rattle.qs_ops.specs.declared.file.File.{File}
use Rattle.qs_book_tables.specs.Edits.{changed_name, text_by}

-- of all texts
abbrev pub files_bytes : List File → ℕ
files_bytes files = sum_by (λ file. length file.content) files

-- of what is under a name
abbrev pub text_bytes : Option (List ℕ) → ℕ
text_bytes text = length (unwrap_or text [])

-- the count of all bytes before a change and after it, by the text under its name
abbrev pub CountsText : (List ℕ → Option (List ℕ)) → Op → Option (List ℕ) → ℕ → ℕ → Type 0
CountsText text op None before after = after ≡ before
CountsText text op (Some name) before after = after + text_bytes (text name) ≡ before + text_bytes (text_by (text name) op)

abbrev pub CountsChange : (List ℕ → Option (List ℕ)) → Op → ℕ → ℕ → Type 0
CountsChange text op before after = CountsText text op (changed_name op) before after
