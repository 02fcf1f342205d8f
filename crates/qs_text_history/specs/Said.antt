-- What the lines of a history say, one by one.
use Rattle.std.specs.Prelude.{ℕ, ◌<◌, ◌^◌, List, [], ◌∷◌, ◌++◌, Option, codes, decimal}
use Rattle.qs_text_script.specs.Answers.{tid_text, list_text}
use Rattle.qs_text_script.specs.Journal.{entry_line}
use Rattle.qs_text_history.specs.Spelled.{IsWord, IsTid, IsEntry}
use Rattle.qs_text_history.specs.declared.said.Said.{Said}
use Rattle.qs_text_history.specs.declared.said.Said.TheVariants.{Nodes, Node, File, Note, Item, Commit, Line}

-- ---- how it is spelled

-- the numbers fit, and names and texts are words; there are 1 to 16 nodes, and formats 1 and 2
abbrev pub IsSaid : Said → Type 0
IsSaid (Nodes count) = (0 < count) × (count < 17)
IsSaid (Node number inc format) = (number < 256) × ((inc < 2 ^ 64) × ((0 < format) × (format < 3)))
IsSaid (File name content) = IsWord name × IsWord content
IsSaid (Note text) = IsWord text
IsSaid (Item text) = IsWord text
IsSaid (Commit tid) = IsTid tid
IsSaid (Line entry) = IsEntry entry

-- the line that says it; the label is how it names the holder of a busy answer
abbrev pub said_line : Option (List ℕ) → Said → List ℕ
said_line label (Nodes count) = codes "nodes" ++ list_text (decimal count ∷ [])
said_line label (Node number inc format) = codes "node" ++ list_text (decimal number ∷ codes "inc" ∷ decimal inc ∷ codes "format" ∷ decimal format ∷ [])
said_line label (File name content) = codes "file" ++ list_text (name ∷ content ∷ [])
said_line label (Note text) = codes "note" ++ list_text (text ∷ [])
said_line label (Item text) = codes "item" ++ list_text (text ∷ [])
said_line label (Commit tid) = codes "commit" ++ list_text (tid_text tid ∷ [])
said_line label (Line entry) = entry_line (λ tid. label) entry
