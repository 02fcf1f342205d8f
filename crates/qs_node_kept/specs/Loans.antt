-- The loans of a client. Its present loan is the one that its last take was answered with.
use Rattle.std.specs.Prelude.{ℕ, ◌==◌, Bool, true, not, ◌&&◌, List, [], ◌∷◌, Option, Some, None, is_some, if◌then◌else◌}
use Rattle.std.specs.List.{find}
use Rattle.qs_base.specs.Order.{same_tid}
use Rattle.qs_base.specs.declared.identifiers.ClientNo.{ClientNo}
use Rattle.qs_base.specs.declared.identifiers.Tid.{Tid}
use Rattle.qs_node_kept.specs.declared.kept.Lent.{Lent}

abbrev pub is_loan_of : ClientNo → Tid → Lent → Bool
is_loan_of client tid loan = (loan.client.0 == client.0) && same_tid loan.tid tid

abbrev pub is_taken : ClientNo → Tid → Lent → Bool
is_taken client tid loan = is_loan_of client tid loan && loan.taken

abbrev pub is_untaken : ClientNo → Tid → Lent → Bool
is_untaken client tid loan = is_loan_of client tid loan && not loan.taken

-- the first loan that no take has taken
abbrev pub first_untaken : ClientNo → Tid → List Lent → Option Lent
first_untaken client tid loans = find (is_untaken client tid) loans

-- is taken
abbrev pub take_first : ClientNo → Tid → List Lent → List Lent
take_first client tid [] = []
take_first client tid (loan ∷ loans) =
    if is_untaken client tid loan then record loan { taken = true } ∷ loans else loan ∷ take_first client tid loans

-- the last one that was taken, in order of loans
abbrev pub last_taken : ClientNo → Tid → List Lent → Option Lent
last_taken client tid [] = None
last_taken client tid (loan ∷ loans) = later (last_taken client tid loans)
  where
    later : Option Lent → Option Lent
    later (Some other) = Some other
    later None = if is_taken client tid loan then Some loan else None

-- is given back
abbrev pub give_back : ClientNo → Tid → List Lent → List Lent
give_back client tid [] = []
give_back client tid (loan ∷ loans) =
    if is_taken client tid loan && not (is_some (last_taken client tid loans))
    then record loan { yielded = true } ∷ loans
    else loan ∷ give_back client tid loans

-- a loan of that incarnation that was not given back
abbrev pub is_standing_loan : Tid → ℕ → Lent → Bool
is_standing_loan tid inc loan = same_tid tid loan.tid && (not loan.yielded && (loan.inc == inc))
