-- The lines of a history, and where a text stops to be one.
use Rattle.std.specs.Prelude.{ℕ, ◌≡◌, ◌+◌, ◌<◌, ◌≤◌, ◌^◌, ◌⊎◌, false, true, List, [], ◌∷◌, ◌++◌, length, map, take, sum_by, slice_get, Option, Some, codes, decimal, ⊤}
use Rattle.std.specs.Ordering.{is_lt}
use Rattle.qs_base.specs.Order.{bytes_cmp}
use Rattle.qs_base.specs.declared.identifiers.Tid.{Tid}
use Rattle.qs_book_journal.specs.declared.entry.Entry.{Entry}
use Rattle.qs_book_machine.specs.declared.opened.Opened.{Opened}
use Rattle.qs_ops.specs.declared.file.File.{File}
use Rattle.qs_text_script.specs.Answers.{tid_text, list_text}
use Rattle.qs_text_script.specs.Journal.{entry_line}
use Rattle.qs_book_script.specs.Lines.{lines_of}
use Rattle.qs_text_history.specs.Reading.{Reading, at_start, is_open, IsNamedAct, Follows, Reads}
use Rattle.qs_text_history.specs.Spelled.{IsWord, IsTid, IsEntry, Each}

-- ---- openings

-- nodes N
abbrev pub nodes_line : ℕ → List ℕ
nodes_line count = codes "nodes" ++ list_text (decimal count ∷ [])

-- node K inc I format F
abbrev pub node_line : ℕ → ℕ → ℕ → List ℕ
node_line number inc format = codes "node" ++ list_text (decimal number ∷ codes "inc" ∷ decimal inc ∷ codes "format" ∷ decimal format ∷ [])

-- file NAME TEXT
abbrev pub file_line : File → List ℕ
file_line file = codes "file" ++ list_text (file.name ∷ file.content ∷ [])

-- note TEXT
abbrev pub note_line : List ℕ → List ℕ
note_line text = codes "note" ++ list_text (text ∷ [])

-- item TEXT
abbrev pub item_line : List ℕ → List ℕ
item_line text = codes "item" ++ list_text (text ∷ [])

-- commit TID
abbrev pub commit_line : Tid → List ℕ
commit_line tid = codes "commit" ++ list_text (tid_text tid ∷ [])

-- a node's incarnation and format, its files, its notes, the texts of its further server, and its commits
abbrev pub opened_lines : ℕ → Opened → List (List ℕ)
opened_lines number node =
    node_line number node.inc node.format
    ∷ (map file_line node.files ++ (map note_line node.audit ++ (map item_line node.extra ++ map commit_line node.committed)))

-- the nodes from a number on
abbrev pub nodes_lines : ℕ → List Opened → List (List ℕ)
nodes_lines number [] = []
nodes_lines number (node ∷ nodes) = opened_lines number node ++ nodes_lines (number + 1) nodes

-- the number of nodes, and each of them
abbrev pub opening_lines : List Opened → List (List ℕ)
opening_lines nodes = nodes_line (length nodes) ∷ nodes_lines 0 nodes

-- each name is above the one before
abbrev pub AreRising : List File → Type 0
AreRising [] = ⊤
AreRising (file ∷ []) = ⊤
AreRising (file ∷ next ∷ files) = (is_lt (bytes_cmp file.name next.name) ≡ true) × AreRising (next ∷ files)

pub record IsFile (file : File) : Type 0 where
  pub name : IsWord file.name
  pub content : IsWord file.content

-- the node has a spelling: nothing is pending, files stand in the order of their names
pub record IsOpened (node : Opened) : Type 0 where
  pub inc : node.inc < 2 ^ 64
  pub some : 0 < node.format
  pub format : node.format < 3
  pub files : Each IsFile node.files
  pub rising : AreRising node.files
  pub audit : Each IsWord node.audit
  pub extra : Each IsWord node.extra
  pub committed : Each IsTid node.committed
  pub pending : node.pending ≡ []

-- ---- histories

-- the line of an entry behind others; the label is how it names the holder of a busy answer
pub record IsLine (before : List Entry) (entry : Entry) (line : List ℕ) : Type 0 where
  pub label : Option (List ℕ)
  pub spelled : IsEntry entry
  pub named : IsNamedAct before label entry.act
  pub is : line ≡ entry_line (λ tid. label) entry

-- a line for each entry, in order, behind others
abbrev pub AreLines : List Entry → List Entry → List (List ℕ) → Type 0
AreLines before [] lines = lines ≡ []
AreLines before (entry ∷ entries) [] = ⊥
AreLines before (entry ∷ entries) (line ∷ lines) = IsLine before entry line × AreLines (before ++ entry ∷ []) entries lines

-- the lines are those of this opening and these entries
pub record IsJournal (lines : List (List ℕ)) (opened : List Opened) (entries : List Entry) : Type 0 where
  pub some : 0 < length opened
  pub few : length opened < 17
  pub each : Each IsOpened opened
  pub rest : List (List ℕ)
  pub whole : lines ≡ opening_lines opened ++ rest
  pub entry_lines : AreLines [] entries rest

-- ---- faults

-- the line at this place can't follow
pub record Stops (before : Reading) (lines : List (List ℕ)) (at : ℕ) : Type 0 where
  pub line : List ℕ
  pub is : slice_get lines at ≡ Some line
  pub none : (next : Reading) → Follows before line next → ⊥

-- how many bytes lines take, each with a line feed
abbrev pub span : List (List ℕ) → ℕ
span lines = sum_by (λ line. length line + 1) lines

-- the line at this place holds the first byte past the limit
pub record IsPast (text : List ℕ) (at : ℕ) : Type 0 where
  pub over : 67108864 < length text
  pub until : span (take at (lines_of text)) ≤ 67108864
  pub past : 67108864 < span (take (at + 1) (lines_of text))

-- the lines end before each node was read
pub record EndsEarly (before : Reading) (lines : List (List ℕ)) (at : ℕ) : Type 0 where
  pub at_end : at ≡ length lines
  pub missing : is_open before ≡ false

-- the lines before this one, by number from 1, can be read, and this one can't follow, or is past the limit, or is missing
pub record IsFault (text : List ℕ) (number : ℕ) : Type 0 where
  pub at : ℕ
  pub number_is : number ≡ at + 1
  pub before : Reading
  pub reads : Reads at_start (take at (lines_of text)) before
  pub why : Stops before (lines_of text) at ⊎ (IsPast text at ⊎ EndsEarly before (lines_of text) at)
