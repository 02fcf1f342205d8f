-- How what the lines of a history say is read.
use Rattle.std.specs.Prelude.{ℕ, ◌^◌, ◌&&◌, Bool, List, [], ◌∷◌, Option, Some, None, nat_lt, codes, if◌then◌else◌}
use Rattle.qs_base.specs.Order.{same_bytes}
use Rattle.qs_base.specs.declared.identifiers.Tid.{Tid}
use Rattle.qs_text_history.specs.Inner.Acts.{entry_of}
use Rattle.qs_text_history.specs.Inner.Lifts.{lift1, lift3}
use Rattle.qs_text_history.specs.Inner.Words.{wide_of, number_below, tid_of}
use Rattle.qs_text_history.specs.declared.said.Said.{Said}
use Rattle.qs_text_history.specs.declared.said.Said.TheVariants.{Nodes, Node, File, Note, Item, Commit, Line}

-- ---- how it is read

-- the number, where it is from 1 to below the limit
abbrev pub within : ℕ → Option ℕ → Option ℕ
within limit None = None
within limit (Some number) = if nat_lt 0 number && nat_lt number limit then Some number else None

-- (nodes) COUNT
abbrev pub nodes_of : List (List ℕ) → Option Said
nodes_of (count ∷ []) = lift1 Nodes (within 17 (number_below 256 count))
nodes_of _ = None

abbrev pub node_with : Option ℕ → Option ℕ → Option ℕ → Option Said
node_with number inc format = lift3 Node number inc format

abbrev pub are_titles : List ℕ → List ℕ → Bool
are_titles one two = same_bytes one (codes "inc") && same_bytes two (codes "format")

-- (node) NUMBER inc INC format FORMAT
abbrev pub node_of : List (List ℕ) → Option Said
node_of (number ∷ one ∷ inc ∷ two ∷ format ∷ []) =
    if are_titles one two
    then node_with (number_below 256 number) (wide_of inc) (within 3 (number_below (2 ^ 32) format))
    else None
node_of _ = None

-- (file) NAME CONTENT
abbrev pub file_of : List (List ℕ) → Option Said
file_of (name ∷ content ∷ []) = Some (File name content)
file_of _ = None

-- (note) TEXT
abbrev pub note_of : List (List ℕ) → Option Said
note_of (text ∷ []) = Some (Note text)
note_of _ = None

-- (item) TEXT
abbrev pub item_of : List (List ℕ) → Option Said
item_of (text ∷ []) = Some (Item text)
item_of _ = None

-- (commit) TID
abbrev pub commit_of : List (List ℕ) → Option Said
commit_of (tid ∷ []) = lift1 Commit (tid_of tid)
commit_of _ = None

-- a line of an opening
unfoldable pub opening_of : List ℕ → List (List ℕ) → Option Said
opening_of word rest =
    if same_bytes word (codes "nodes") then nodes_of rest
    else if same_bytes word (codes "node") then node_of rest
    else if same_bytes word (codes "file") then file_of rest
    else if same_bytes word (codes "note") then note_of rest
    else if same_bytes word (codes "item") then item_of rest
    else if same_bytes word (codes "commit") then commit_of rest
    else None

abbrev pub said_by : (List ℕ → Option Tid) → List ℕ → List (List ℕ) → Option ℕ → Option Said
said_by holder first rest (Some stamp) = lift1 Line (entry_of holder (first ∷ rest))
said_by holder first rest None = opening_of first rest

-- what a line of these words says: that of an entry begins with a number
unfoldable pub said_of : (List ℕ → Option Tid) → List (List ℕ) → Option Said
said_of holder (first ∷ rest) = said_by holder first rest (wide_of first)
said_of holder [] = None
