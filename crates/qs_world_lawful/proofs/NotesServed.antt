-- Notes of files as requests are served: what was issued stays so, and what counts as served was issued.
use Rattle.qs_world_lawful.proofs.Words.{◌≡◌, ◌⊎◌, inl, inr, ℕ, Bool, true, false, List, [], ◌∷◌, Option, Some, None, Less, Equal, Greater, refl, sym, ap, subst, ◌∙◌, exact_unsigned, exact_pairs, is_at, insert_key, find, list_any, lookup, set_value, ◌||◌, unwrap_or, if◌then◌else◌, Ordering, same_bytes-self, bytes_cmp, Member, NodeNo, TransactionValue, changed_value, has_note, is_standing, mark_served, noted_cmp, request_cmp, requests_at, requests_in, served_in, standing_request, Noted, Request}
use Rattle.qs_world_lawful.proofs.Words.{RequestNo, Op, has_issued, has_note_in, is_note_by, eqb-self}
use Rattle.std.proofs.lemmas.Map.Lookups.{exact_bytes}
use Rattle.std.specs.Ordering.{nat_cmp, ordering_then}
use Rattle.qs_book_machine.specs.Transaction.{is_by_files, note_of, with_note, with_note_of}
use Rattle.qs_ops.specs.declared.operation.Op.TheVariants as ops
use Rattle.qs_world_lawful.proofs.Truths.{of_some}

-- ---- keys

noted_exact : (m n : Noted) → noted_cmp m n ≡ Equal → m ≡ n
noted_exact m n e = ap (λ (p : ℕ × (ℕ × List ℕ)). record { node = record { 0 = p.0 }; inc = p.1.0; text = p.1.1 })
    (exact_pairs nat_cmp (λ (p q : ℕ × List ℕ). ordering_then (nat_cmp p.0 q.0) (bytes_cmp p.1 q.1)) exact_unsigned (exact_pairs nat_cmp bytes_cmp exact_unsigned exact_bytes) (m.node.0, (m.inc, m.text)) (n.node.0, (n.inc, n.text)) e)

noted_at : (m n : Noted) → is_at (noted_cmp m) n ≡ true → m ≡ n
noted_at m n = by (noted_cmp m n) refl
  where
    by : (r : Ordering) → noted_cmp m n ≡ r → is_at (noted_cmp m) n ≡ true → m ≡ n
    by Less is h = absurd (cc (rw is at h))
    by Equal is h = noted_exact m n is
    by Greater is h = absurd (cc (rw is at h))

-- what is found among keys to which one was put was found before, or is that one
pub any_put_back : {K : Type 0} (cmp : K → K → Ordering) (p : K → Bool) (k : K) (xs : List K) → list_any p (insert_key cmp xs k) ≡ true → (list_any p xs ≡ true) ⊎ (p k ≡ true)
any_put_back cmp p k [] h = by (p k) refl h
  where
    by : (b : Bool) → p k ≡ b → (b || false) ≡ true → (false ≡ true) ⊎ (p k ≡ true)
    by true is h = inr is
    by false is h = absurd (cc h)
any_put_back cmp p k (x ∷ xs) h = by (cmp k x) refl h (any_put_back cmp p k xs)
  where
    first : (b : Bool) → p k ≡ b → (b || (p x || list_any p xs)) ≡ true → ((p x || list_any p xs) ≡ true) ⊎ (p k ≡ true)
    first true is h = inr is
    first false is h = inl h

    later : (b : Bool) → (b || list_any p (insert_key cmp xs k)) ≡ true → (list_any p (insert_key cmp xs k) ≡ true → (list_any p xs ≡ true) ⊎ (p k ≡ true)) → ((b || list_any p xs) ≡ true) ⊎ (p k ≡ true)
    later true h rest = inl refl
    later false h rest = rest h

    by : (r : Ordering) → cmp k x ≡ r → list_any p (insert_key cmp (x ∷ xs) k) ≡ true → (list_any p (insert_key cmp xs k) ≡ true → (list_any p xs ≡ true) ⊎ (p k ≡ true)) → ((p x || list_any p xs) ≡ true) ⊎ (p k ≡ true)
    by Less is h rest = first (p k) refl (rw is at h)
    by Equal is h rest = inl (rw is at h)
    by Greater is h rest = later (p x) (rw is at h) rest

-- ---- a request of files tells its note

tells : (r : Request) (note : Noted) → note_of r ≡ Some note → is_note_by note.node note.inc note.text r ≡ true
tells r note = by (is_by_files r) refl r.op refl
  where
    of_text : (text : List ℕ) → is_by_files r ≡ true → r.op ≡ ops.Note text → record { node = r.issuer.node; inc = r.inc; text = text } ≡ note → is_note_by note.node note.inc note.text r ≡ true
    of_text text files op e = subst (λ (m : Noted). is_note_by m.node m.inc m.text r ≡ true) e (rw (eqb-self r.issuer.node.0, eqb-self r.inc, files, op) (same_bytes-self text))

    by : (b : Bool) → is_by_files r ≡ b → (op : Op) → r.op ≡ op → note_of r ≡ Some note → is_note_by note.node note.inc note.text r ≡ true
    by false other op is h = absurd (cc (rw other at h))
    by true files (ops.Note text) is h = of_text text files is (of_some (rw (files, is) at h))
    by true files (ops.Put name text) is h = absurd (cc (rw (files, is) at h))
    by true files (ops.Append name text) is h = absurd (cc (rw (files, is) at h))
    by true files (ops.Del name) is h = absurd (cc (rw (files, is) at h))
    by true files (ops.Get name) is h = absurd (cc (rw (files, is) at h))
    by true files ops.Listing is h = absurd (cc (rw (files, is) at h))
    by true files ops.Notes is h = absurd (cc (rw (files, is) at h))
    by true files (ops.Bind name text) is h = absurd (cc (rw (files, is) at h))
    by true files (ops.Find name) is h = absurd (cc (rw (files, is) at h))
    by true files (ops.Timer name ticks) is h = absurd (cc (rw (files, is) at h))
    by true files (ops.Left name) is h = absurd (cc (rw (files, is) at h))
    by true files (ops.Window name text) is h = absurd (cc (rw (files, is) at h))
    by true files (ops.Title name) is h = absurd (cc (rw (files, is) at h))
    by true files (ops.Keep name text) is h = absurd (cc (rw (files, is) at h))
    by true files (ops.Fetch name) is h = absurd (cc (rw (files, is) at h))
    by true files (ops.Lend client) is h = absurd (cc (rw (files, is) at h))
    by true files (ops.Extra code text) is h = absurd (cc (rw (files, is) at h))

-- a request that stands is one that was issued
stands_issued : (tx : TransactionValue) (at : RequestNo) (member : Member) (r : Request) (here : NodeNo) (inc : ℕ) (text : List ℕ) → standing_request tx at member ≡ Some r → is_note_by here inc text r ≡ true → has_issued tx here inc text ≡ true
stands_issued tx at member r here inc text stands is = in_all tx.requests refl
  where
    in_list : (rs : List Request) → find (is_standing member) rs ≡ Some r → list_any (is_note_by here inc text) rs ≡ true
    in_list [] found = absurd (cc found)
    in_list (x ∷ xs) found = by (is_standing member x) found (in_list xs)
      where
        by : (b : Bool) → (if b then Some x else find (is_standing member) xs) ≡ Some r → (find (is_standing member) xs ≡ Some r → list_any (is_note_by here inc text) xs ≡ true) → list_any (is_note_by here inc text) (x ∷ xs) ≡ true
        by true found rest = rw (subst (λ (y : Request). is_note_by here inc text y ≡ true) (sym (of_some found)) is) refl
        by false found rest = or_right (is_note_by here inc text x) (rest found)
          where
            or_right : (b : Bool) → list_any (is_note_by here inc text) xs ≡ true → (b || list_any (is_note_by here inc text) xs) ≡ true
            or_right true h = refl
            or_right false h = h

    in_all : (es : List (RequestNo × List Request)) → tx.requests ≡ es → list_any (has_note_in here inc text) tx.requests ≡ true
    in_all es e = of tx.requests (in_list (requests_at tx at) stands)
      where
        of : (es : List (RequestNo × List Request)) → list_any (is_note_by here inc text) (requests_in es at) ≡ true → list_any (has_note_in here inc text) es ≡ true
        of [] h = absurd (cc h)
        of (e ∷ es) h = by (is_at (request_cmp at) e.0) h (of es)
          where
            by : (b : Bool) → list_any (is_note_by here inc text) (unwrap_or (if b then Some e.1 else lookup (is_at (request_cmp at)) es) []) ≡ true
                → (list_any (is_note_by here inc text) (requests_in es at) ≡ true → list_any (has_note_in here inc text) es ≡ true) → list_any (has_note_in here inc text) (e ∷ es) ≡ true
            by true h rest = rw h refl
            by false h rest = or_right (has_note_in here inc text e) (rest h)
              where
                or_right : (b : Bool) → list_any (has_note_in here inc text) es ≡ true → (b || list_any (has_note_in here inc text) es) ≡ true
                or_right true h = refl
                or_right false h = h

-- ---- a serve

module _ (at : RequestNo) (member : Member) (inc stamp : ℕ) (done : Bool) (tx : TransactionValue) (here : NodeNo) (i : ℕ) (text : List ℕ) where
  abbrev note : Noted
  note = record { node = here; inc = i; text = text }

  -- what counts as served after it did before, or stands now
  pub served_note : has_note (served_in at member inc stamp done tx) note ≡ true → (has_note tx note ≡ true) ⊎ (has_issued tx here i text ≡ true)
  served_note h = by (standing_request tx at member) refl h
    where
      of_note : (r : Request) → standing_request tx at member ≡ Some r → (o : Option Noted) → note_of r ≡ o → list_any (is_at (noted_cmp note)) (with_note o tx.noted) ≡ true → (has_note tx note ≡ true) ⊎ (has_issued tx here i text ≡ true)
      of_note r stands None is h = inl h
      of_note r stands (Some new) is h = of (any_put_back noted_cmp (is_at (noted_cmp note)) new tx.noted h)
        where
          of : (list_any (is_at (noted_cmp note)) tx.noted ≡ true) ⊎ (is_at (noted_cmp note) new ≡ true) → (has_note tx note ≡ true) ⊎ (has_issued tx here i text ≡ true)
          of (inl before) = inl before
          of (inr now) = inr (stands_issued tx at member r here i text stands (subst (λ (m : Noted). is_note_by m.node m.inc m.text r ≡ true) (sym (noted_at note new now)) (tells r new is)))

      by : (o : Option Request) → standing_request tx at member ≡ o → list_any (is_at (noted_cmp note)) (with_note_of o tx.noted) ≡ true → (has_note tx note ≡ true) ⊎ (has_issued tx here i text ≡ true)
      by None is h = inl h
      by (Some r) is h = of_note r is (note_of r) refl h

  -- and the same notes are issued
  pub served_issued : has_issued (served_in at member inc stamp done tx) here i text ≡ has_issued tx here i text
  served_issued = of tx.requests
    where
      marked : (rs : List Request) → list_any (is_note_by here i text) (mark_served member rs) ≡ list_any (is_note_by here i text) rs
      marked [] = refl
      marked (r ∷ rs) = by (is_standing member r) (marked rs)
        where
          by : (b : Bool) → list_any (is_note_by here i text) (mark_served member rs) ≡ list_any (is_note_by here i text) rs
              → list_any (is_note_by here i text) (if b then record r { served = true } ∷ rs else r ∷ mark_served member rs) ≡ (is_note_by here i text r || list_any (is_note_by here i text) rs)
          by true rest = refl
          by false rest = ap (λ (b : Bool). is_note_by here i text r || b) rest

      put : (rs : List Request) (es : List (RequestNo × List Request)) → lookup (is_at (request_cmp at)) es ≡ Some rs → list_any (has_note_in here i text) (set_value (is_at (request_cmp at)) es (mark_served member rs)) ≡ list_any (has_note_in here i text) es
      put rs [] found = absurd (cc found)
      put rs (e ∷ es) found = by (is_at (request_cmp at) e.0) found (put rs es)
        where
          by : (b : Bool) → (if b then Some e.1 else lookup (is_at (request_cmp at)) es) ≡ Some rs
              → (lookup (is_at (request_cmp at)) es ≡ Some rs → list_any (has_note_in here i text) (set_value (is_at (request_cmp at)) es (mark_served member rs)) ≡ list_any (has_note_in here i text) es)
              → list_any (has_note_in here i text) (if b then (e.0, mark_served member rs) ∷ es else e ∷ set_value (is_at (request_cmp at)) es (mark_served member rs)) ≡ (has_note_in here i text e || list_any (has_note_in here i text) es)
          by true found rest = ap (λ (b : Bool). b || list_any (has_note_in here i text) es) (marked rs ∙ ap (λ (xs : List Request). list_any (is_note_by here i text) xs) (sym (of_some found)))
          by false found rest = ap (λ (b : Bool). has_note_in here i text e || b) (rest found)

      of : (es : List (RequestNo × List Request)) → list_any (has_note_in here i text) (changed_value (is_at (request_cmp at)) (mark_served member) es) ≡ list_any (has_note_in here i text) es
      of es = by (lookup (is_at (request_cmp at)) es) refl
        where
          by : (o : Option (List Request)) → lookup (is_at (request_cmp at)) es ≡ o → list_any (has_note_in here i text) (elim o [ None ↦ es | Some rs ↦ set_value (is_at (request_cmp at)) es (mark_served member rs) ]) ≡ list_any (has_note_in here i text) es
          by None is = refl
          by (Some rs) is = put rs es is
