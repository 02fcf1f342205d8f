-- Operations that put a whole text under a name, or ask for one.
use Rattle.std.specs.Prelude.{ℕ, Bool, true, false, List, Option, Some, None}
use Rattle.qs_ops.specs.declared.operation.Op.{Op}
use Rattle.qs_ops.specs.declared.reply.Reply.{Reply}
use Rattle.qs_ops.specs.declared.reply.Reply.TheVariants.{Done}
use Rattle.qs_ops.specs.declared.operation.Op.TheVariants.{Bind, Find, Window, Title, Keep, Fetch}

abbrev pub is_plain : Op → Bool
is_plain (Bind name text) = true
is_plain (Find name) = true
is_plain (Window name text) = true
is_plain (Title name) = true
is_plain (Keep name text) = true
is_plain (Fetch name) = true
is_plain _ = false

-- the name and the text of an operation that with this reply puts a text under a name
abbrev pub put_by : Op → Reply → Option (List ℕ × List ℕ)
put_by (Bind name text) Done = Some (name, text)
put_by (Window name text) Done = Some (name, text)
put_by (Keep name text) Done = Some (name, text)
put_by op reply = None
