-- The state of a log, record by record.
use Rattle.std.specs.Prelude.{◌≡◌, ℕ, true, List, [], ◌∷◌, codes}
use Rattle.qs_base.specs.declared.identifiers.Tid.{Tid}
use Rattle.qs_ops.specs.declared.operation.Op.{Op}
use Rattle.qs_ops.specs.declared.operation.Op.TheVariants.{Put, Note}
use Rattle.qs_record.specs.declared.record.Record.{Record}
use Rattle.qs_record.specs.declared.record.Record.TheVariants as records
use Rattle.qs_restart.specs.Recovery.{recovery, files_no, audit_no}
use Rattle.qs_restart_state.specs.States.{are_unended, state, state_tid}

abbrev pub tid : ℕ → Tid
tid seq = record { home = record { 0 = 0 }; inc = 1; seq = seq }

abbrev pub put : List ℕ → List Op
put text = Put (codes "f") text ∷ []

abbrev pub note : List Op
note = Note (codes "n") ∷ []

-- of node 0: the first transaction is committed and ended, the second in doubt at two servers, at files with a later vote; the third's Commit has still to
-- be told to node 1, the fourth's was told, and the fifth is aborted
abbrev pub log : List Record
log =
    records.Prepare (tid 1) files_no 1 (put (codes "a"))
    ∷ records.Commit (tid 1) []
    ∷ records.Prepare (tid 2) files_no 1 (put (codes "b"))
    ∷ records.Prepare (tid 2) audit_no 1 note
    ∷ records.Prepare (tid 2) files_no 2 (put (codes "c"))
    ∷ records.Prepare (tid 3) files_no 1 (put (codes "d"))
    ∷ records.Commit (tid 3) (record { 0 = 1 } ∷ [])
    ∷ records.Prepare (tid 4) files_no 1 (put (codes "e"))
    ∷ records.Commit (tid 4) (record { 0 = 1 } ∷ [])
    ∷ records.End (tid 4)
    ∷ records.Prepare (tid 5) files_no 1 (put (codes "x"))
    ∷ records.Aborted (tid 5) ∷ []

-- files hold the text of the fourth, and audit nothing
abbrev pub its_state : List Record
its_state =
    records.Prepare (state_tid 0) files_no 0 (put (codes "e"))
    ∷ records.Commit (state_tid 0) []
    ∷ records.Prepare (tid 2) audit_no 1 note
    ∷ records.Prepare (tid 2) files_no 2 (put (codes "c"))
    ∷ records.Commit (tid 3) (record { 0 = 1 } ∷ []) ∷ []

pub record RowState : Type 0 where
  pub coherent : are_unended (recovery log) ≡ true
  pub state_is : state 0 (put (codes "e")) [] [] (recovery log) ≡ its_state
