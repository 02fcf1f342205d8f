-- What is under names, seen through files in order, and the replies that come of it.
use Rattle.std.specs.Prelude.{ℕ, ◌++◌, Bool, true, false, List, [], map, Option, Some, None}
use Rattle.qs_ops.specs.Files.{file_text, put_file, text_reply}
use Rattle.qs_ops.specs.declared.operation.Op.{Op}
use Rattle.qs_ops.specs.declared.operation.Op.TheVariants.{Put, Append, Del, Get, Listing, Note, Notes, Bind, Find, Window, Title, Keep, Fetch}
use Rattle.qs_ops.specs.declared.reply.Reply.{Reply}
use Rattle.qs_ops.specs.declared.reply.Reply.TheVariants as replies
use Rattle.qs_ops.specs.declared.file.File.{File}
use Rattle.qs_book_tables.specs.Edits.{changed_name}
use Rattle.qs_ops.specs.Table.{remove_file, text_or_empty, size_reply, del_reply}

-- under that name there is this text from now on, or nothing
abbrev pub set_text : List File → List ℕ → Option (List ℕ) → List File
set_text files name (Some text) = put_file files name text
set_text files name None = remove_file files name

abbrev pub names_of : List File → List (List ℕ)
names_of files = map (λ file. file.name) files

-- the empty text; none after a change that removes its file
abbrev pub hollow_text : Op → Option (List ℕ)
hollow_text (Del name) = None
hollow_text _ = Some []

-- what a change makes of files whose texts are left out
abbrev pub hollow_change : List File → Op → List File
hollow_change files op = elim (changed_name op) [ None ↦ files | Some name ↦ set_text files name (hollow_text op) ]

-- the server answers such operations
abbrev pub is_served : Op → Bool
is_served (Put name text) = true
is_served (Append name text) = true
is_served (Del name) = true
is_served (Get name) = true
is_served Listing = true
is_served (Note text) = true
is_served Notes = true
is_served (Bind name text) = true
is_served (Find name) = true
is_served (Window name text) = true
is_served (Title name) = true
is_served (Keep name text) = true
is_served (Fetch name) = true
is_served _ = false

-- the reply of these contents and notes, where nothing refuses the operation
abbrev pub viewed_reply : List File → List (List ℕ) → Op → Option Reply
viewed_reply files notes (Put name text) = Some (size_reply text)
viewed_reply files notes (Append name text) = Some (size_reply (text_or_empty files name ++ text))
viewed_reply files notes (Del name) = Some (del_reply (file_text files name))
viewed_reply files notes (Get name) = Some (text_reply (file_text files name))
viewed_reply files notes Listing = Some (replies.Names (names_of files))
viewed_reply files notes (Note text) = Some replies.Done
viewed_reply files notes Notes = Some (replies.Notes notes)
viewed_reply files notes (Bind name text) = Some replies.Done
viewed_reply files notes (Find name) = Some (text_reply (file_text files name))
viewed_reply files notes (Window name text) = Some replies.Done
viewed_reply files notes (Title name) = Some (text_reply (file_text files name))
viewed_reply files notes (Keep name text) = Some replies.Done
viewed_reply files notes (Fetch name) = Some (text_reply (file_text files name))
viewed_reply files notes _ = None
