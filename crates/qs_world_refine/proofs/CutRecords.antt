-- Of which kind a record of a transaction is, where a list has one.
use Rattle.qs_world_refine.proofs.Words.{◌≡◌, ◌⊎◌, inl, inr, ◌||◌, Bool, true, false, List, [], ◌∷◌, refl, list_any, same_tid, Tid, Record, is_record_of, or_right, or_left}
use Rattle.qs_record.specs.declared.record.Record.TheVariants as records
use Rattle.qs_world_refine.specs.CutLaws.{is_prepare_of, is_commit_of}
use Rattle.qs_world_refine.proofs.TurnOn.{is_aborted_of, is_end_of}

-- of such lists one has it
abbrev pub OneOf : Tid → List Record → Type 0
OneOf tid rs = ((list_any (is_prepare_of tid) rs ≡ true) ⊎ (list_any (is_commit_of tid) rs ≡ true)) ⊎ ((list_any (is_aborted_of tid) rs ≡ true) ⊎ (list_any (is_end_of tid) rs ≡ true))

head_is : (tid : Tid) (r : Record) (rs : List Record) → is_record_of tid r ≡ true → OneOf tid (r ∷ rs)
head_is tid (records.Prepare u server covers changes) rs is = inl (inl (or_left (same_tid tid u) _ is))
head_is tid (records.Commit u told) rs is = inl (inr (or_left (same_tid tid u) _ is))
head_is tid (records.Aborted u) rs is = inr (inl (or_left (same_tid tid u) _ is))
head_is tid (records.End u) rs is = inr (inr (or_left (same_tid tid u) _ is))

tail_is : (tid : Tid) (r : Record) (rs : List Record) → OneOf tid rs → OneOf tid (r ∷ rs)
tail_is tid r rs (inl (inl so)) = inl (inl (or_right (is_prepare_of tid r) _ so))
tail_is tid r rs (inl (inr so)) = inl (inr (or_right (is_commit_of tid r) _ so))
tail_is tid r rs (inr (inl so)) = inr (inl (or_right (is_aborted_of tid r) _ so))
tail_is tid r rs (inr (inr so)) = inr (inr (or_right (is_end_of tid r) _ so))

pub one_of : (tid : Tid) (rs : List Record) → list_any (is_record_of tid) rs ≡ true → OneOf tid rs
one_of tid [] has = absurd (cc has)
one_of tid (rec ∷ rs) has = by (is_record_of tid rec) refl has (one_of tid rs)
  where
    by : (b : Bool) → is_record_of tid rec ≡ b → (b || list_any (is_record_of tid) rs) ≡ true → (list_any (is_record_of tid) rs ≡ true → OneOf tid rs) → OneOf tid (rec ∷ rs)
    by true is has more = head_is tid rec rs is
    by false is has more = tail_is tid rec rs (more has)
