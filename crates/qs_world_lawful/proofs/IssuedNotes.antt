-- A request that is issued is one more under its number: each note that was issued before is issued still, and no other one is.
use Rattle.qs_world_lawful.proofs.Words.{◌≡◌, ◌⊎◌, inl, inr, ℕ, Bool, true, false, List, [], ◌∷◌, ◌++◌, Some, Less, Equal, Greater, refl, if◌then◌else◌, insert_entry, is_at, list_any, lookup, ◌||◌, unwrap_or, Ordering, NodeNo, TransactionValue, issued, request_cmp, requests_at, Request, RequestNo, has_issued, is_note_by, or_left, or_right}
use Rattle.qs_world_lawful.proofs.Issued.{any_more}
use Rattle.std.proofs.lemmas.Bool.{or_cases}

-- ---- requests under their numbers, one more

module _ (p : Request → Bool) where
  abbrev any_in : RequestNo × List Request → Bool
  any_in entry = list_any p entry.1

  -- what is looked up stands in the list
  looked : (test : RequestNo → Bool) (es : List (RequestNo × List Request)) → list_any p (unwrap_or (lookup test es) []) ≡ true → list_any any_in es ≡ true
  looked test [] h = absurd (cc h)
  looked test (e ∷ es) h = by (test e.0) h (looked test es)
    where
      by : (b : Bool) → list_any p (unwrap_or (if b then Some e.1 else lookup test es) []) ≡ true → (list_any p (unwrap_or (lookup test es) []) ≡ true → list_any any_in es ≡ true) → (list_any p e.1 || list_any any_in es) ≡ true
      by true h more = or_left (list_any p e.1) (list_any any_in es) h
      by false h more = or_right (list_any p e.1) (list_any any_in es) (more h)

  in_last : (rs : List Request) (r : Request) → list_any p (rs ++ r ∷ []) ≡ true → (list_any p rs ≡ true) ⊎ (p r ≡ true)
  in_last [] r h = by (p r) refl h
    where
      by : (b : Bool) → p r ≡ b → (b || false) ≡ true → (false ≡ true) ⊎ (p r ≡ true)
      by true is e = inr is
      by false is e = absurd (cc e)
  in_last (x ∷ rs) r h = by (p x) h (in_last rs r)
    where
      by : (b : Bool) → (b || list_any p (rs ++ r ∷ [])) ≡ true → (list_any p (rs ++ r ∷ []) ≡ true → (list_any p rs ≡ true) ⊎ (p r ≡ true)) → ((b || list_any p rs) ≡ true) ⊎ (p r ≡ true)
      by true e more = inl refl
      by false e more = more e

  -- what there is once these were put there was before, or is of these
  put_back : (key : RequestNo) (vs : List Request) (es : List (RequestNo × List Request)) → list_any any_in (insert_entry request_cmp es key vs) ≡ true → (list_any any_in es ≡ true) ⊎ (list_any p vs ≡ true)
  put_back key vs [] h = swap (or_cases (list_any p vs) false h)
    where
      swap : (list_any p vs ≡ true) ⊎ (false ≡ true) → (false ≡ true) ⊎ (list_any p vs ≡ true)
      swap (inl e) = inr e
      swap (inr e) = inl e
  put_back key vs (e ∷ es) h = by (request_cmp key e.0) refl h (put_back key vs es)
    where
      by : (r : Ordering) → request_cmp key e.0 ≡ r → list_any any_in (insert_entry request_cmp (e ∷ es) key vs) ≡ true → (list_any any_in (insert_entry request_cmp es key vs) ≡ true → (list_any any_in es ≡ true) ⊎ (list_any p vs ≡ true))
          → (list_any any_in (e ∷ es) ≡ true) ⊎ (list_any p vs ≡ true)
      by Less is h more = first (or_cases (list_any p vs) (list_any p e.1 || list_any any_in es) (rw is at h))
        where
          first : (list_any p vs ≡ true) ⊎ ((list_any p e.1 || list_any any_in es) ≡ true) → (list_any any_in (e ∷ es) ≡ true) ⊎ (list_any p vs ≡ true)
          first (inl new) = inr new
          first (inr old) = inl old
      by Equal is h more = first (or_cases (list_any p vs) (list_any any_in es) (rw is at h))
        where
          first : (list_any p vs ≡ true) ⊎ (list_any any_in es ≡ true) → (list_any any_in (e ∷ es) ≡ true) ⊎ (list_any p vs ≡ true)
          first (inl new) = inr new
          first (inr old) = inl (or_right (list_any p e.1) (list_any any_in es) old)
      by Greater is h more = first (or_cases (list_any p e.1) (list_any any_in (insert_entry request_cmp es key vs)) (rw is at h))
        where
          next : (list_any any_in es ≡ true) ⊎ (list_any p vs ≡ true) → (list_any any_in (e ∷ es) ≡ true) ⊎ (list_any p vs ≡ true)
          next (inl old) = inl (or_right (list_any p e.1) (list_any any_in es) old)
          next (inr new) = inr new

          first : (list_any p e.1 ≡ true) ⊎ (list_any any_in (insert_entry request_cmp es key vs) ≡ true) → (list_any any_in (e ∷ es) ≡ true) ⊎ (list_any p vs ≡ true)
          first (inl old) = inl (or_left (list_any p e.1) (list_any any_in es) old)
          first (inr rest) = next (more rest)

  -- and what there was there is
  put_on : (key : RequestNo) (vs : List Request) (es : List (RequestNo × List Request)) → (list_any p (unwrap_or (lookup (is_at (request_cmp key)) es) []) ≡ true → list_any p vs ≡ true) → list_any any_in es ≡ true
      → list_any any_in (insert_entry request_cmp es key vs) ≡ true
  put_on key vs [] old h = absurd (cc h)
  put_on key vs (e ∷ es) old h = by (request_cmp key e.0) refl old h (put_on key vs es)
    where
      by : (r : Ordering) → request_cmp key e.0 ≡ r → (list_any p (unwrap_or (lookup (is_at (request_cmp key)) (e ∷ es)) []) ≡ true → list_any p vs ≡ true) → list_any any_in (e ∷ es) ≡ true
          → ((list_any p (unwrap_or (lookup (is_at (request_cmp key)) es) []) ≡ true → list_any p vs ≡ true) → list_any any_in es ≡ true → list_any any_in (insert_entry request_cmp es key vs) ≡ true)
          → list_any any_in (insert_entry request_cmp (e ∷ es) key vs) ≡ true
      by Less is old h more = rw is (or_right (list_any p vs) (list_any p e.1 || list_any any_in es) h)
      by Equal is old h more = rw is (first (or_cases (list_any p e.1) (list_any any_in es) h))
        where
          first : (list_any p e.1 ≡ true) ⊎ (list_any any_in es ≡ true) → (list_any p vs || list_any any_in es) ≡ true
          first (inl was) = or_left (list_any p vs) (list_any any_in es) ((rw is at old) was)
          first (inr rest) = or_right (list_any p vs) (list_any any_in es) rest
      by Greater is old h more = rw is (first (or_cases (list_any p e.1) (list_any any_in es) h))
        where
          first : (list_any p e.1 ≡ true) ⊎ (list_any any_in es ≡ true) → (list_any p e.1 || list_any any_in (insert_entry request_cmp es key vs)) ≡ true
          first (inl was) = or_left (list_any p e.1) (list_any any_in (insert_entry request_cmp es key vs)) was
          first (inr rest) = or_right (list_any p e.1) (list_any any_in (insert_entry request_cmp es key vs)) (more (rw is at old) rest)

-- ---- notes that were issued

module _ (key : RequestNo) (r : Request) (peer_inc place : ℕ) (tx : TransactionValue) (here : NodeNo) (inc : ℕ) (text : List ℕ) where
  pub issued_back : has_issued (issued key r peer_inc place tx) here inc text ≡ true → (has_issued tx here inc text ≡ true) ⊎ (is_note_by here inc text r ≡ true)
  issued_back h = of (put_back (is_note_by here inc text) key (requests_at tx key ++ r ∷ []) tx.requests h)
    where
      last : (list_any (is_note_by here inc text) (requests_at tx key) ≡ true) ⊎ (is_note_by here inc text r ≡ true) → (has_issued tx here inc text ≡ true) ⊎ (is_note_by here inc text r ≡ true)
      last (inl was) = inl (looked (is_note_by here inc text) (is_at (request_cmp key)) tx.requests was)
      last (inr new) = inr new

      of : (has_issued tx here inc text ≡ true) ⊎ (list_any (is_note_by here inc text) (requests_at tx key ++ r ∷ []) ≡ true) → (has_issued tx here inc text ≡ true) ⊎ (is_note_by here inc text r ≡ true)
      of (inl was) = inl was
      of (inr new) = last (in_last (is_note_by here inc text) (requests_at tx key) r new)

  pub issued_still : has_issued tx here inc text ≡ true → has_issued (issued key r peer_inc place tx) here inc text ≡ true
  issued_still h = put_on (is_note_by here inc text) key (requests_at tx key ++ r ∷ []) tx.requests (any_more (is_note_by here inc text) (requests_at tx key) r) h
