-- A reply may come: each note that was served stays noted, or is still waited for, since no two requests wait under one number.
use Rattle.qs_world_lawful.proofs.Words.{◌≡◌, ◌⊎◌, inl, inr, ℕ, ◌==◌, Bool, true, false, List, [], ◌∷◌, Some, refl, sym, ap, subst, ◌∙◌, list_any-append, filter, find, list_any, not, ◌&&◌, ◌||◌, if◌then◌else◌, same_member-true, same_member, Member, NodeNo, Tid, TransactionValue, awaits_note, has_noted, is_answered_by, is_count, waiting_for, Outstanding, Participant, HoldsNotes, awaits_count, is_note_with, AreNoted, AreApart, eqb-true}
use Rattle.qs_tm.specs.Participant.{drop_waiting, is_by_files, note_served}
use Rattle.qs_world_lawful.specs.Given.{replied}
use Rattle.qs_world_lawful.proofs.Truths.{clash, left_true, of_some, right_true}

-- who waits for a note of that count waits for a note
pub awaits_some : (count : ℕ) (ws : List Outstanding) → list_any (is_note_with count) ws ≡ true → list_any is_by_files ws ≡ true
awaits_some count [] is = absurd (cc is)
awaits_some count (w ∷ ws) is = by (is_by_files w) (w.count == count) is (awaits_some count ws)
  where
    by : (a b : Bool) → ((a && b) || list_any (is_note_with count) ws) ≡ true → (list_any (is_note_with count) ws ≡ true → list_any is_by_files ws ≡ true) → (a || list_any is_by_files ws) ≡ true
    by true b is rest = refl
    by false b is rest = rest is

-- those that no answer is for stay
pub none_dropped : (test : Outstanding → Bool) (ws : List Outstanding) → list_any test ws ≡ false → filter (λ w. not (test w)) ws ≡ ws
none_dropped test [] is = refl
none_dropped test (w ∷ ws) is = by (test w) is (none_dropped test ws)
  where
    by : (b : Bool) → (b || list_any test ws) ≡ false → (list_any test ws ≡ false → filter (λ w. not (test w)) ws ≡ ws) → (if not b then w ∷ filter (λ w. not (test w)) ws else filter (λ w. not (test w)) ws) ≡ w ∷ ws
    by true is rest = absurd (cc is)
    by false is rest = ap (λ (xs : List Outstanding). w ∷ xs) (rest is)

module _ (member : Member) (number : ℕ) where
  -- an answer to one request is for no other
  pub for_one : (w : Outstanding) → is_answered_by member number w ≡ true → (rest : List Outstanding) → list_any (is_answered_by w.member w.number) rest ≡ false → list_any (is_answered_by member number) rest ≡ false
  for_one w is rest none = subst (λ (m : Member). list_any (is_answered_by m number) rest ≡ false) (same_member-true w.member member (left_true (same_member w.member member) _ is))
      (subst (λ (k : ℕ). list_any (is_answered_by w.member k) rest ≡ false) (eqb-true w.number number (right_true (same_member w.member member) _ is)) none)

  -- a note that is waited for is the one that is answered, or is still waited for
  still_waits : (count : ℕ) (ws : List Outstanding) (request : Outstanding) → AreApart ws → find (is_answered_by member number) ws ≡ Some request → list_any (is_note_with count) ws ≡ true
      → (list_any is_by_files (filter (λ w. not (is_answered_by member number w)) ws) ≡ true) ⊎ (is_note_with count request ≡ true)
  still_waits count [] request apart found is = absurd (cc is)
  still_waits count (w ∷ ws) request apart found is = by (is_answered_by member number w) refl found (is_note_with count w) refl is (λ f i. still_waits count ws request apart.1 f i)
    where
      kept : list_any (is_answered_by member number) ws ≡ false → list_any (is_note_with count) ws ≡ true → list_any is_by_files (filter (λ w. not (is_answered_by member number w)) ws) ≡ true
      kept none is = subst (λ (xs : List Outstanding). list_any is_by_files xs ≡ true) (sym (none_dropped (is_answered_by member number) ws none)) (awaits_some count ws is)

      of_files : is_note_with count w ≡ true → (is_by_files w || list_any is_by_files (filter (λ w. not (is_answered_by member number w)) ws)) ≡ true
      of_files note = rw (left_true (is_by_files w) (w.count == count) note) refl

      more : (b : Bool) → (list_any is_by_files (filter (λ w. not (is_answered_by member number w)) ws) ≡ true) ⊎ (is_note_with count request ≡ true)
          → ((b || list_any is_by_files (filter (λ w. not (is_answered_by member number w)) ws)) ≡ true) ⊎ (is_note_with count request ≡ true)
      more true (inl is) = inl refl
      more false (inl is) = inl is
      more b (inr is) = inr is

      by : (a : Bool) → is_answered_by member number w ≡ a → (if a then Some w else find (is_answered_by member number) ws) ≡ Some request → (b : Bool) → is_note_with count w ≡ b → (b || list_any (is_note_with count) ws) ≡ true
          → (find (is_answered_by member number) ws ≡ Some request → list_any (is_note_with count) ws ≡ true → (list_any is_by_files (filter (λ w. not (is_answered_by member number w)) ws) ≡ true) ⊎ (is_note_with count request ≡ true))
          → (list_any is_by_files (if not a then w ∷ filter (λ w. not (is_answered_by member number w)) ws else filter (λ w. not (is_answered_by member number w)) ws) ≡ true) ⊎ (is_note_with count request ≡ true)
      by true answers found true note is rest = inr (subst (λ (r : Outstanding). is_note_with count r ≡ true) (of_some found) note)
      by true answers found false note is rest = inl (kept (for_one w answers ws apart.0) is)
      by false other found true note is rest = inl (of_files note)
      by false other found false note is rest = more (is_by_files w) (rest found is)

-- after the reply
pub replied_notes : (here : NodeNo) (inc : ℕ) (tid : Tid) (tx : TransactionValue) (part : Participant) → HoldsNotes here inc tid tx part → AreApart part.waiting
    → (member : Member) (number : ℕ) (request : Outstanding) → waiting_for member number part ≡ Some request → AreNoted here inc tid tx (replied member number request part)
replied_notes here inc tid tx part notes apart member number request found count one has = by (is_by_files request) refl (notes.issued count one (notes.served count one has))
  where
    dropped : Participant
    dropped = drop_waiting member number part

    counted : is_note_with count request ≡ true → (request.count == count) ≡ true
    counted is = right_true (is_by_files request) (request.count == count) is

    by : (b : Bool) → is_by_files request ≡ b → (has_noted count part ≡ true) ⊎ (awaits_count count part ≡ true)
        → (has_noted count (if b then note_served request.count (drop_waiting member number part) else drop_waiting member number part) ≡ true) ⊎ (awaits_note (if b then note_served request.count (drop_waiting member number part) else drop_waiting member number part) ≡ true)
    by true files (inl noted) = inl (list_any-append (is_count count) part.noted (request.count ∷ []) ∙ rw (noted) refl)
    by true files (inr waits) = of (still_waits member number count part.waiting request apart found waits)
      where
        last : (b : Bool) → (b || (true || false)) ≡ true
        last true = refl
        last false = refl

        of : (list_any is_by_files (filter (λ w. not (is_answered_by member number w)) part.waiting) ≡ true) ⊎ (is_note_with count request ≡ true)
            → (has_noted count (note_served request.count (drop_waiting member number part)) ≡ true) ⊎ (awaits_note (note_served request.count (drop_waiting member number part)) ≡ true)
        of (inl still) = inr still
        of (inr its) = inl (list_any-append (is_count count) part.noted (request.count ∷ []) ∙ rw (counted its) (last (list_any (is_count count) part.noted)))
    by false other (inl noted) = inl noted
    by false other (inr waits) = of (still_waits member number count part.waiting request apart found waits)
      where
        of : (list_any is_by_files (filter (λ w. not (is_answered_by member number w)) part.waiting) ≡ true) ⊎ (is_note_with count request ≡ true)
            → (has_noted count (drop_waiting member number part) ≡ true) ⊎ (awaits_note (drop_waiting member number part) ≡ true)
        of (inl still) = inr still
        of (inr its) = absurd (clash (sym other ∙ left_true (is_by_files request) (request.count == count) its))
