-- What changes do at one name.
use Rattle.std.specs.Prelude.{ℕ, ◌++◌, List, [], Option, Some, None, unwrap_or, if◌then◌else◌}
use Rattle.qs_ops.specs.declared.operation.Op.{Op}
use Rattle.qs_ops.specs.declared.operation.Op.TheVariants.{Put, Append, Del, Bind, Window, Keep}
use Rattle.qs_ops.specs.Table.{is_change_of}

-- what a change makes of the text under its name
abbrev pub text_by : Option (List ℕ) → Op → Option (List ℕ)
text_by before (Put name text) = Some text
text_by before (Append name text) = Some (unwrap_or before [] ++ text)
text_by before (Del name) = None
text_by before (Bind name text) = Some text
text_by before (Window name text) = Some text
text_by before (Keep name text) = Some text
text_by before _ = before

-- and of the text under any name
abbrev pub changed_at : List ℕ → Option (List ℕ) → Op → Option (List ℕ)
changed_at name before op = if is_change_of name op then text_by before op else before
