-- Files by name: what is under a name, and what putting one does. Names, windows and scratch are kept so too.
use Rattle.std.specs.Prelude.{ℕ, List, [], ◌∷◌, Option, Some, None, if◌then◌else◌}
use Rattle.std.specs.Ordering.{match_ordering}
use Rattle.qs_base.specs.Order.{bytes_cmp, same_bytes}
use Rattle.qs_base.specs.declared.identifiers.Tid.{Tid}
use Rattle.qs_ops.specs.declared.file.File.{File}
use Rattle.qs_ops.specs.declared.reply.Reply.{Reply}
use Rattle.qs_ops.specs.declared.reply.Reply.TheVariants.{Value, Absent}

-- the committed text under a name
abbrev pub file_text : List File → List ℕ → Option (List ℕ)
file_text [] name = None
file_text (f ∷ fs) name = if same_bytes f.name name then Some f.content else file_text fs name

-- the file has this text from now on; names stay in byte order
abbrev pub put_file : List File → List ℕ → List ℕ → List File
put_file [] name text = record { name = name; content = text } ∷ []
put_file (f ∷ fs) name text = match_ordering (bytes_cmp name f.name)
    (record { name = name; content = text } ∷ f ∷ fs)
    (record { name = name; content = text } ∷ fs)
    (f ∷ put_file fs name text)

-- the reply that tells the text under a name
abbrev pub text_reply : Option (List ℕ) → Reply
text_reply None = Absent
text_reply (Some text) = Value text

-- the first holder, where there is one, else the second
abbrev pub or_else : Option Tid → Option Tid → Option Tid
or_else None other = other
or_else (Some tid) other = Some tid
