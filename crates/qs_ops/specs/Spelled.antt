-- Which names, texts, operations and lists of changes have a spelling in bytes, and how long it is.
use Rattle.std.specs.Prelude.{◌≡◌, ℕ, ◌+◌, ◌^◌, ◌<◌, ◌≤◌, Bool, true, false, List, length, sum_by, All, ⊤}
use Rattle.qs_base.specs.Printable.{IsPrintable}
use Rattle.qs_ops.specs.declared.operation.Op.{Op}
use Rattle.qs_ops.specs.declared.operation.Op.TheVariants.{Put, Append, Del, Get, Listing, Note, Notes, Bind, Find, Timer, Left, Window, Title, Keep, Fetch, Lend, Extra}

-- at most so many printable characters
pub record IsText (limit : ℕ) (text : List ℕ) : Type 0 where
  pub fits : length text ≤ limit
  pub each : All IsPrintable text

-- a name has at most 64 characters
abbrev pub IsName : List ℕ → Type 0
IsName = IsText 64

-- and the text of an operation at most 4,096
abbrev pub IsOpText : List ℕ → Type 0
IsOpText = IsText 4096

-- the operation has a spelling
abbrev pub IsSpelled : Op → Type 0
IsSpelled (Put name text) = IsName name × IsOpText text
IsSpelled (Append name text) = IsName name × IsOpText text
IsSpelled (Del name) = IsName name
IsSpelled (Get name) = IsName name
IsSpelled Listing = ⊤
IsSpelled (Note text) = IsOpText text
IsSpelled Notes = ⊤
IsSpelled (Bind name text) = IsName name × IsOpText text
IsSpelled (Find name) = IsName name
IsSpelled (Timer name ticks) = IsName name
IsSpelled (Left name) = IsName name
IsSpelled (Window name text) = IsName name × IsOpText text
IsSpelled (Title name) = IsName name
IsSpelled (Keep name text) = IsName name × IsOpText text
IsSpelled (Fetch name) = IsName name
IsSpelled (Lend client) = ⊤
IsSpelled (Extra code text) = IsOpText text

-- the operation changes its server's state; of the further server each may
abbrev pub is_change : Op → Bool
is_change (Put name text) = true
is_change (Append name text) = true
is_change (Del name) = true
is_change (Get name) = false
is_change Listing = false
is_change (Note text) = true
is_change Notes = false
is_change (Bind name text) = true
is_change (Find name) = false
is_change (Timer name ticks) = true
is_change (Left name) = false
is_change (Window name text) = true
is_change (Title name) = false
is_change (Keep name text) = true
is_change (Fetch name) = false
is_change (Lend client) = false
is_change (Extra code text) = true

-- a change that has a spelling
pub record IsChange (op : Op) : Type 0 where
  pub changes : is_change op ≡ true
  pub spelled : IsSpelled op

-- the list of changes has a spelling; its count is written in four bytes
pub record AreChanges (changes : List Op) : Type 0 where
  pub few : length changes < 2 ^ 32
  pub each : All IsChange changes

-- how many bytes spell the operation: its tag, and each name and text behind its length
abbrev pub op_length : Op → ℕ
op_length (Put name text) = 9 + length name + length text
op_length (Append name text) = 9 + length name + length text
op_length (Del name) = 5 + length name
op_length (Get name) = 5 + length name
op_length Listing = 1
op_length (Note text) = 5 + length text
op_length Notes = 1
op_length (Bind name text) = 9 + length name + length text
op_length (Find name) = 5 + length name
op_length (Timer name ticks) = 9 + length name
op_length (Left name) = 5 + length name
op_length (Window name text) = 9 + length name + length text
op_length (Title name) = 5 + length name
op_length (Keep name text) = 9 + length name + length text
op_length (Fetch name) = 5 + length name
op_length (Lend client) = 2
op_length (Extra code text) = 9 + length text

-- how many bytes spell a Prepare record of these changes
abbrev pub prepare_length : List Op → ℕ
prepare_length changes = 23 + sum_by op_length changes
