-- Which transactions have a record in a log and are not ended there, and what is free in the log beside the bytes kept for them.
use Rattle.std.specs.Prelude.{ℕ, ◌*◌, ◌-◌, Bool, if◌then◌else◌, is_some, List, [], ◌∷◌, fold, length, ⊤}
use Rattle.std.specs.Map.{lookup, remove_entry}
use Rattle.std.specs.BTreeMap.{insert_entry, is_at}
use Rattle.qs_base.specs.Order.{tid_cmp}
use Rattle.qs_base.specs.declared.identifiers.Tid.{Tid}
use Rattle.qs_record.specs.declared.record.Record.{Record}
use Rattle.qs_record.specs.declared.record.Record.TheVariants as records
use Rattle.qs_node_room.specs.declared.unended.Boundary.{Boundary}
use Rattle.qs_node_room.specs.declared.unended.Boundary.TheVariants as boundaries

-- a set of transactions, in order
abbrev pub Tids : Type 0
Tids = List (Tid × ⊤)

-- whether the transaction is among them
abbrev pub has_open : Tid → Tids → Bool
has_open tid tids = is_some (lookup (is_at (tid_cmp tid)) tids)

-- one that is among them stays
abbrev pub opened : Tid → Tids → Tids
opened tid tids = if has_open tid tids then tids else insert_entry tid_cmp tids tid tt

abbrev pub ended : Tid → Tids → Tids
ended tid tids = remove_entry (is_at (tid_cmp tid)) tids

-- as they were before one was opened; `added` tells whether it was not among them
abbrev pub taken_back : Bool → Tid → Tids → Tids
taken_back added tid tids = if added then ended tid tids else tids

-- a Prepare or a Commit with a list opens, a Commit without one, an Aborted or an End ends
abbrev pub boundary_of : Record → Boundary
boundary_of (records.Prepare tid server covers changes) = boundaries.Opens tid
boundary_of (records.Commit tid []) = boundaries.Ends tid
boundary_of (records.Commit tid (node ∷ nodes)) = boundaries.Opens tid
boundary_of (records.Aborted tid) = boundaries.Ends tid
boundary_of (records.End tid) = boundaries.Ends tid

abbrev pub after_boundary : Boundary → Tids → Tids
after_boundary (boundaries.Opens tid) tids = opened tid tids
after_boundary (boundaries.Ends tid) tids = ended tid tids

abbrev pub after_record : Tids → Record → Tids
after_record tids rec = after_boundary (boundary_of rec) tids

-- those of a log
abbrev pub unended : List Record → Tids
unended log = fold after_record [] log

-- the bytes of a log's room that are not kept, so many being kept for each of them; at least 0
abbrev pub free_room : ℕ → ℕ → Tids → ℕ
free_room room keep tids = room - keep * length tids
