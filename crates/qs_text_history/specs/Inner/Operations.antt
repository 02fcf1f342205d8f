-- The operations that words spell.
use Rattle.std.specs.Prelude.{ℕ, ◌^◌, List, [], ◌∷◌, Option, Some, None, codes, if◌then◌else◌}
use Rattle.qs_base.specs.Order.{same_bytes}
use Rattle.qs_ops.specs.declared.operation.Op.{Op}
use Rattle.qs_ops.specs.declared.operation.Op.TheVariants.{Put, Append, Del, Get, Listing, Note, Notes, Bind, Find, Timer, Left, Window, Title, Keep, Fetch, Lend, Extra}
use Rattle.qs_text_history.specs.Inner.Lifts.{lift1}
use Rattle.qs_text_history.specs.Inner.Words.{number_below}

-- list, notes
abbrev pub bare_op : List ℕ → Option Op
bare_op word =
    if same_bytes word (codes "list") then Some Listing
    else if same_bytes word (codes "notes") then Some Notes
    else None

-- del NAME, get NAME, note TEXT, find NAME, left NAME, title NAME, fetch NAME
abbrev pub op_on : List ℕ → List ℕ → Option Op
op_on word name =
    if same_bytes word (codes "del") then Some (Del name)
    else if same_bytes word (codes "get") then Some (Get name)
    else if same_bytes word (codes "note") then Some (Note name)
    else if same_bytes word (codes "find") then Some (Find name)
    else if same_bytes word (codes "left") then Some (Left name)
    else if same_bytes word (codes "title") then Some (Title name)
    else if same_bytes word (codes "fetch") then Some (Fetch name)
    else None

-- (lend) CLIENT
abbrev pub lend_of : List ℕ → Option Op
lend_of client = lift1 (λ number. Lend (record { 0 = number })) (number_below 256 client)

-- an operation of two words
abbrev pub named_op : List ℕ → List ℕ → Option Op
named_op word name = if same_bytes word (codes "lend") then lend_of name else op_on word name

-- put, append, bind, window or keep NAME TEXT
abbrev pub op_with : List ℕ → List ℕ → List ℕ → Option Op
op_with word name text =
    if same_bytes word (codes "put") then Some (Put name text)
    else if same_bytes word (codes "append") then Some (Append name text)
    else if same_bytes word (codes "bind") then Some (Bind name text)
    else if same_bytes word (codes "window") then Some (Window name text)
    else if same_bytes word (codes "keep") then Some (Keep name text)
    else None

-- (timer) NAME TICKS
abbrev pub timer_of : List ℕ → List ℕ → Option Op
timer_of name ticks = lift1 (λ number. Timer name number) (number_below (2 ^ 32) ticks)

-- (extra) CODE TEXT
abbrev pub extra_of : List ℕ → List ℕ → Option Op
extra_of code text = lift1 (λ number. Extra number text) (number_below (2 ^ 32) code)

-- an operation of three words
abbrev pub text_op : List ℕ → List ℕ → List ℕ → Option Op
text_op word name text =
    if same_bytes word (codes "timer") then timer_of name text
    else if same_bytes word (codes "extra") then extra_of name text
    else op_with word name text

-- the operation that the words spell
unfoldable pub op_of : List (List ℕ) → Option Op
op_of (word ∷ []) = bare_op word
op_of (word ∷ name ∷ []) = named_op word name
op_of (word ∷ name ∷ text ∷ []) = text_op word name text
op_of _ = None
