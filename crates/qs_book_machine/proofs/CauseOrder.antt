-- The order of causes tells two of them apart exactly where they are not the same.
use Rattle.std.proofs.Common.{◌≡◌, ◌⊎◌, inl, inr, refl, sym, ap, List, [], ◌∷◌}
use Rattle.std.specs.Prelude.{Bool, true, false, ◌||◌}
use Rattle.std.specs.List.{list_any}
use Rattle.std.specs.BTreeMap.{is_at}
use Rattle.std.specs.BTreeSet.{insert_key}
use Rattle.std.specs.Ordering.{match_ordering}
use Rattle.std.specs.declared.cmp.Ordering.{Ordering}
use Rattle.std.specs.declared.cmp.Ordering.TheVariants.{Less, Equal, Greater}
use Rattle.std.specs.Cmp.{unsigned_ties, both_tied}
use Rattle.std.specs.Cmp.Lexicographic.{texts_ties}
use Rattle.qs_base.specs.Order.{member_cmp, same_member}
use Rattle.qs_base.specs.declared.identifiers.Member.{Member}
use Rattle.qs_ops.specs.Alike.{same_reason, same_cause}
use Rattle.qs_ops.specs.declared.answer.Cause.{Cause}
use Rattle.qs_ops.specs.declared.answer.Cause.TheVariants.{Asked, Voted, Gone, Home, Room, Old}
use Rattle.qs_ops.specs.declared.vote.Reason.{Reason}
use Rattle.qs_ops.specs.declared.vote.Reason.TheVariants.{Quota, LogRoom, Taken, Code}
use Rattle.qs_ops.specs.contracts.vote.ReasonOrd.TheImpl as reason_ord
use Rattle.qs_book_machine.specs.Causes.{cause_cmp}

same_member-cmp : (m n : Member) → is_at (member_cmp m) n ≡ same_member m n
same_member-cmp m n = sym (both_tied _ _ _ _ (unsigned_ties m.node.0 n.node.0) (unsigned_ties m.server.0 n.server.0))

same_reason-cmp : (r s : Reason) → is_at ((reason_ord.ghosts).cmp r) s ≡ same_reason r s
same_reason-cmp (Quota b l) (Quota c m) = sym (both_tied _ _ _ _ (unsigned_ties b c) (unsigned_ties l m))
same_reason-cmp (Quota b l) (LogRoom n r) = refl
same_reason-cmp (Quota b l) (Taken x) = refl
same_reason-cmp (Quota b l) (Code c) = refl
same_reason-cmp (LogRoom n r) (Quota b l) = refl
same_reason-cmp (LogRoom n r) (LogRoom m s) = sym (both_tied _ _ _ _ (unsigned_ties n m) (unsigned_ties r s))
same_reason-cmp (LogRoom n r) (Taken x) = refl
same_reason-cmp (LogRoom n r) (Code c) = refl
same_reason-cmp (Taken x) (Quota b l) = refl
same_reason-cmp (Taken x) (LogRoom n r) = refl
same_reason-cmp (Taken x) (Taken y) = sym (texts_ties x y)
same_reason-cmp (Taken x) (Code c) = refl
same_reason-cmp (Code c) (Quota b l) = refl
same_reason-cmp (Code c) (LogRoom n r) = refl
same_reason-cmp (Code c) (Taken x) = refl
same_reason-cmp (Code c) (Code d) = sym (unsigned_ties c d)

same_cause-cmp : (c d : Cause) → is_at (cause_cmp c) d ≡ same_cause c d
same_cause-cmp Asked Asked = refl
same_cause-cmp Asked (Voted m r) = refl
same_cause-cmp Asked (Gone n i) = refl
same_cause-cmp Asked (Home i) = refl
same_cause-cmp Asked (Room n r) = refl
same_cause-cmp Asked (Old a) = refl
same_cause-cmp (Voted m r) Asked = refl
same_cause-cmp (Voted m r) (Voted n s) = sym (both_tied _ _ _ _ (sym (same_member-cmp m n)) (sym (same_reason-cmp r s)))
same_cause-cmp (Voted m r) (Gone n i) = refl
same_cause-cmp (Voted m r) (Home i) = refl
same_cause-cmp (Voted m r) (Room n s) = refl
same_cause-cmp (Voted m r) (Old a) = refl
same_cause-cmp (Gone n i) Asked = refl
same_cause-cmp (Gone n i) (Voted m r) = refl
same_cause-cmp (Gone n i) (Gone m j) = sym (both_tied _ _ _ _ (unsigned_ties n.0 m.0) (unsigned_ties i j))
same_cause-cmp (Gone n i) (Home j) = refl
same_cause-cmp (Gone n i) (Room m r) = refl
same_cause-cmp (Gone n i) (Old a) = refl
same_cause-cmp (Home i) Asked = refl
same_cause-cmp (Home i) (Voted m r) = refl
same_cause-cmp (Home i) (Gone n j) = refl
same_cause-cmp (Home i) (Home j) = sym (unsigned_ties i j)
same_cause-cmp (Home i) (Room n r) = refl
same_cause-cmp (Home i) (Old a) = refl
same_cause-cmp (Room n r) Asked = refl
same_cause-cmp (Room n r) (Voted m s) = refl
same_cause-cmp (Room n r) (Gone m i) = refl
same_cause-cmp (Room n r) (Home i) = refl
same_cause-cmp (Room n r) (Room m s) = sym (both_tied _ _ _ _ (unsigned_ties n m) (unsigned_ties r s))
same_cause-cmp (Room n r) (Old a) = refl
same_cause-cmp (Old a) Asked = refl
same_cause-cmp (Old a) (Voted m r) = refl
same_cause-cmp (Old a) (Gone n i) = refl
same_cause-cmp (Old a) (Home i) = refl
same_cause-cmp (Old a) (Room n r) = refl
same_cause-cmp (Old a) (Old b) = sym (unsigned_ties a b)

pub among_causes : (c : Cause) (causes : List Cause) → list_any (is_at (cause_cmp c)) causes ≡ list_any (same_cause c) causes
among_causes c causes = ap (λ (test : Cause → Bool). list_any test causes) (λ i d. same_cause-cmp c d i)

-- with one more, a cause is among them that was, or that is that one
pub among_more : (c d : Cause) (causes : List Cause) → list_any (same_cause c) (insert_key cause_cmp causes d) ≡ true
    → (list_any (same_cause c) causes ≡ true) ⊎ (same_cause c d ≡ true)
among_more c d [] h = by (same_cause c d) h
  where
    by : (b : Bool) → (b || false) ≡ true → (false ≡ true) ⊎ (b ≡ true)
    by true h = inr refl
    by false h = inl h
among_more c d (x ∷ causes) h = by (cause_cmp d x) h (among_more c d causes)
  where
    first : (b : Bool) → (b || (same_cause c x || list_any (same_cause c) causes)) ≡ true
        → ((same_cause c x || list_any (same_cause c) causes) ≡ true) ⊎ (b ≡ true)
    first true h = inr refl
    first false h = inl h

    later : (b : Bool) → (list_any (same_cause c) (insert_key cause_cmp causes d) ≡ true → (list_any (same_cause c) causes ≡ true) ⊎ (same_cause c d ≡ true))
        → (b || list_any (same_cause c) (insert_key cause_cmp causes d)) ≡ true → ((b || list_any (same_cause c) causes) ≡ true) ⊎ (same_cause c d ≡ true)
    later true more h = inl refl
    later false more h = more h

    by : (r : Ordering) → list_any (same_cause c) (match_ordering r (d ∷ x ∷ causes) (x ∷ causes) (x ∷ insert_key cause_cmp causes d)) ≡ true
        → (list_any (same_cause c) (insert_key cause_cmp causes d) ≡ true → (list_any (same_cause c) causes ≡ true) ⊎ (same_cause c d ≡ true))
        → ((same_cause c x || list_any (same_cause c) causes) ≡ true) ⊎ (same_cause c d ≡ true)
    by Less h more = first (same_cause c d) h
    by Equal h more = inl h
    by Greater h more = later (same_cause c x) more h
