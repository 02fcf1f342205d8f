-- What a transaction is about to make of a text, and one change more.
use Rattle.std.specs.Prelude.{Bool, true, false, not, ◌&&◌, is_none, ℕ, ◌++◌, List, [], ◌∷◌, Option, Some, None, if◌then◌else◌}
use Rattle.std.specs.List.{fold}
use Rattle.qs_base.specs.Order.{same_bytes}
use Rattle.qs_ops.specs.declared.operation.Op.{Op}
use Rattle.qs_ops.specs.declared.operation.Op.TheVariants.{Put, Append, Del, Bind, Window, Keep}
use Rattle.qs_files_contents.specs.Texts.{Pieces, flat, joined, linked}
use Rattle.qs_files_contents.specs.declared.edit.Edit.{Edit}
use Rattle.qs_files_contents.specs.declared.edit.Change.{Change}
use Rattle.qs_files_contents.specs.declared.edit.Change.TheVariants as changes
use Rattle.qs_files_contents.specs.declared.prepared.Prepared.{Prepared}

abbrev pub no_edit : Edit
no_edit = record { replaces = false; text = None }

abbrev pub is_no_edit : Edit → Bool
is_no_edit edit = not edit.replaces && is_none edit.text

-- what becomes of a text
abbrev pub edited : Edit → Option Pieces → Option Pieces
edited edit before = linked (if edit.replaces then None else before) edit.text

-- the same of its bytes
abbrev pub seen_by : Edit → Option (List ℕ) → Option (List ℕ)
seen_by edit before = joined (if edit.replaces then None else before) (flat edit.text)

-- with one change more
abbrev pub changed : Edit → Change → Edit
changed edit (changes.Put text) = record { replaces = true; text = Some text }
changed edit (changes.Append text) = record edit { text = linked edit.text (Some text) }
changed edit changes.Del = record { replaces = true; text = None }

-- ---- changes of a list

-- the name that a change is to
abbrev pub changed_name : Op → Option (List ℕ)
changed_name (Put name text) = Some name
changed_name (Append name text) = Some name
changed_name (Del name) = Some name
changed_name (Bind name text) = Some name
changed_name (Window name text) = Some name
changed_name (Keep name text) = Some name
changed_name _ = None

abbrev pub prepared_change : List ℕ → Change → Prepared
prepared_change name change = record { name = name; change = change }

-- a change to a name, its text in one piece
abbrev pub prepared_from : Op → Option Prepared
prepared_from (Put name text) = Some (prepared_change name (changes.Put (text ∷ [])))
prepared_from (Append name text) = Some (prepared_change name (changes.Append (text ∷ [])))
prepared_from (Del name) = Some (prepared_change name changes.Del)
prepared_from (Bind name text) = Some (prepared_change name (changes.Put (text ∷ [])))
prepared_from (Window name text) = Some (prepared_change name (changes.Put (text ∷ [])))
prepared_from (Keep name text) = Some (prepared_change name (changes.Put (text ∷ [])))
prepared_from _ = None

abbrev pub add_prepared : List Prepared → Op → List Prepared
add_prepared prepared op = elim (prepared_from op) [ None ↦ prepared | Some change ↦ prepared ++ change ∷ [] ]

-- the changes to names among these
abbrev pub prepared_by : List Op → List Prepared
prepared_by ops = fold add_prepared [] ops

-- what a change makes of an edit under a name
abbrev pub changed_under : List ℕ → Edit → Prepared → Edit
changed_under name edit p = if same_bytes p.name name then changed edit p.change else edit
