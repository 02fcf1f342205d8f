-- How a history is read line by line.
use Rattle.std.specs.Prelude.{ℕ, ◌≡◌, ◌-◌, ◌==◌, Bool, true, false, ◌&&◌, List, [], ◌∷◌, ◌++◌, length, Option, Some, None, nat_lt, slice_get, ⊤}
use Rattle.std.specs.Option.{option_to_list}
use Rattle.std.specs.Ordering.{is_lt}
use Rattle.qs_base.specs.Order.{bytes_cmp}
use Rattle.qs_base.specs.declared.identifiers.Tid.{Tid}
use Rattle.qs_book_journal.specs.declared.entry.Act.TheVariants as acts
use Rattle.qs_book_journal.specs.declared.entry.Act.{Act}
use Rattle.qs_book_journal.specs.declared.entry.Entry.{Entry}
use Rattle.qs_book_machine.specs.declared.opened.Opened.{Opened}
use Rattle.qs_ops.specs.declared.answer.Answer.{Answer}
use Rattle.qs_ops.specs.declared.answer.Answer.TheVariants as answers
use Rattle.qs_ops.specs.declared.file.File.{File as FileValue}
use Rattle.qs_text_script.specs.Answers.{tid_text}
use Rattle.qs_text_history.specs.Begun.{first_begun, is_begun}
use Rattle.qs_text_history.specs.Said.{IsSaid, said_line}
use Rattle.qs_text_history.specs.Spelled.{IsWord}
use Rattle.qs_text_history.specs.declared.said.Said.{Said}
use Rattle.qs_text_history.specs.declared.said.Said.TheVariants.{Nodes, Node, File, Note, Item, Commit, Line}

-- ---- what was read so far

-- the number of nodes, 0 before the first line; the nodes whose part was read to its end, the one
-- whose part is being read, and the entries
pub record Reading : Type 0 where
  pub nodes : ℕ
  pub done : List Opened
  pub current : Option Opened
  pub entries : List Entry

abbrev pub at_start : Reading
at_start = record { nodes = 0; done = []; current = None; entries = [] }

-- the nodes that were read
abbrev pub opened_of : Reading → List Opened
opened_of reading = reading.done ++ option_to_list reading.current

-- each node was read
abbrev pub is_open : Reading → Bool
is_open reading = nat_lt 0 reading.nodes && length (opened_of reading) == reading.nodes

-- ---- which lines may follow

abbrev pub rises_above : List ℕ → Option FileValue → Bool
rises_above name None = true
rises_above name (Some file) = is_lt (bytes_cmp file.name name)

-- the name is above that of the last file
abbrev pub rises : List ℕ → List FileValue → Bool
rises name files = rises_above name (slice_get files (length files - 1))

-- the part of a node goes on with this: files with rising names, then notes, then items, then commits
abbrev pub may_go_on : Opened → Said → Bool
may_go_on node (File name content) =
    (length node.audit == 0) && ((length node.extra == 0) && ((length node.committed == 0) && rises name node.files))
may_go_on node (Note text) = (length node.extra == 0) && length node.committed == 0
may_go_on node (Item text) = length node.committed == 0
may_go_on node (Commit tid) = true
may_go_on node _ = false

abbrev pub current_may : Option Opened → Said → Bool
current_may None said = false
current_may (Some node) said = may_go_on node said

-- the line may stand next: the number of nodes first, then the part of each node in order, then the entries
abbrev pub may_follow : Reading → Said → Bool
may_follow reading (Nodes count) = reading.nodes == 0
may_follow reading (Node number inc format) = nat_lt number reading.nodes && number == length (opened_of reading)
may_follow reading (Line entry) = is_open reading
may_follow reading said = current_may reading.current said

-- ---- and what is read then

-- a node of which nothing more is known
abbrev pub opening : ℕ → ℕ → Opened
opening inc format = record { inc = inc; format = format; files = []; audit = []; extra = []; pending = []; committed = [] }

-- the part of a node with one more line
abbrev pub gone_on : Opened → Said → Opened
gone_on node (File name content) = record node { files = node.files ++ record { name = name; content = content } ∷ [] }
gone_on node (Note text) = record node { audit = node.audit ++ text ∷ [] }
gone_on node (Item text) = record node { extra = node.extra ++ text ∷ [] }
gone_on node (Commit tid) = record node { committed = node.committed ++ tid ∷ [] }
gone_on node _ = node

abbrev pub current_after : Option Opened → Said → Option Opened
current_after None said = None
current_after (Some node) said = Some (gone_on node said)

abbrev pub read_after : Reading → Said → Reading
read_after reading (Nodes count) = record reading { nodes = count }
read_after reading (Node number inc format) = record reading { done = opened_of reading; current = Some (opening inc format) }
read_after reading (Line entry) = record reading { done = opened_of reading; current = None; entries = reading.entries ++ entry ∷ [] }
read_after reading said = record reading { current = current_after reading.current said }

-- ---- line by line

-- the holder goes by the label of the first begin that has it, and by its identifier where that is no
-- label of a begin and no begin began it
abbrev pub NamesHolder : List Entry → Tid → Option (List ℕ) → Type 0
NamesHolder entries holder (Some label) = IsWord label × (first_begun label entries ≡ Some holder)
NamesHolder entries holder None = (first_begun (tid_text holder) entries ≡ None) × (is_begun holder entries ≡ false)

abbrev pub IsNamedAnswer : List Entry → Option (List ℕ) → Answer → Type 0
IsNamedAnswer entries label (answers.Busy holder) = NamesHolder entries holder label
IsNamedAnswer entries label _ = ⊤

abbrev pub IsNamedAct : List Entry → Option (List ℕ) → Act → Type 0
IsNamedAct entries label (acts.Answer client line answer) = IsNamedAnswer entries label answer
IsNamedAct entries label _ = ⊤

-- the label is how the line names the holder of a busy answer
abbrev pub IsNamed : List Entry → Option (List ℕ) → Said → Type 0
IsNamed entries label (Line entry) = IsNamedAct entries label entry.act
IsNamed entries label _ = ⊤

-- the line may stand behind what was read, and this is read then
pub record Follows (reading : Reading) (line : List ℕ) (next : Reading) : Type 0 where
  pub said : Said
  pub label : Option (List ℕ)
  pub spelled : IsSaid said
  pub named : IsNamed reading.entries label said
  pub is : line ≡ said_line label said
  pub may : may_follow reading said ≡ true
  pub reads : read_after reading said ≡ next

-- the lines are read from one state to another
abbrev pub Reads : Reading → List (List ℕ) → Reading → Type 0
Reads reading [] last = reading ≡ last
Reads reading (line ∷ lines) last = (next : Reading) × (Follows reading line next × Reads next lines last)
