-- Which transactions have a record in a log and are not ended there.
use Rattle.std.specs.Prelude.{◌≡◌, ℕ, Bool, true, false, not, ◌&&◌, ◌||◌, List, [], ◌∷◌, fold}
use Rattle.std.specs.List.{list_any}
use Rattle.qs_base.specs.Order.{same_tid}
use Rattle.qs_base.specs.declared.identifiers.Tid.{Tid}
use Rattle.qs_ops.specs.declared.operation.Op.{Op}
use Rattle.qs_record.specs.declared.record.Record.{Record}
use Rattle.qs_record.specs.declared.record.Record.TheVariants as records
use Rattle.qs_restart.specs.Recovery.{Recovery, is_of, is_untold_of, recovery}
use Rattle.qs_restart_state.specs.States.{are_unended, state}

-- a Prepare or a Commit with a list opens it, a Commit without one, an Aborted or an End ends it
abbrev pub after : Tid → Bool → Record → Bool
after tid on (records.Prepare other server covers changes) = same_tid other tid || on
after tid on (records.Commit other []) = not (same_tid other tid) && on
after tid on (records.Commit other (node ∷ nodes)) = same_tid other tid || on
after tid on (records.Aborted other) = not (same_tid other tid) && on
after tid on (records.End other) = not (same_tid other tid) && on

abbrev pub is_open : Tid → List Record → Bool
is_open tid log = fold (after tid) false log

-- what recovery keeps has a vote or a Commit of it
abbrev pub is_kept : Tid → Recovery → Bool
is_kept tid said = list_any (is_of tid) said.prepared || list_any (is_untold_of tid) said.untold

abbrev pub EachOpenIsKept : Type 0
EachOpenIsKept = (tid : Tid) (log : List Record) → is_open tid log ≡ is_kept tid (recovery log)

abbrev pub EachStateOpensSame : Type 0
EachStateOpensSame = (tid : Tid) (node : ℕ) (files audit extra : List Op) (log : List Record) → are_unended (recovery log) ≡ true
    → is_open tid (state node files audit extra (recovery log)) ≡ is_open tid log
