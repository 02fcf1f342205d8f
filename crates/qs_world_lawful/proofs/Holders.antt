-- Who keeps a transaction from an operation at files, by the machine's table: the same, or one that is crossed and holds something.
use Rattle.qs_world_lawful.proofs.Words.{◌≡◌, ◌⊎◌, inl, inr, ℕ, Less, Equal, Greater, Bool, true, false, List, [], ◌∷◌, Option, Some, None, refl, sym, ap, subst, ◌∙◌, fold, not, ◌&&◌, unwrap_or, filter, list_any, lookup, is_at, tid_cmp, same_tid, Ordering, Tid, at_exact, tid_itself, IsRising, IsBelow, takes_lock, TableValue, share_of, nothing_held, holder, is_change_of, apply_change, apply_note, File, Op, Put, Append, Del, Get, Listing, Note, Notes, Bind, Find, Window, Title, Keep, Fetch, Share}
use Rattle.qs_world_lawful.proofs.Words.{HoldsTable, of_seen, is_idle, false≢true, and_false}
use Rattle.qs_base.specs.Order.{same_bytes}
use Rattle.qs_ops.specs.Files.{or_else}
use Rattle.qs_ops.specs.Table.{least_other, holder_of_name, changes_name, reads_name, free_reply, view_contents, view_notes}
use Rattle.qs_world_lawful.proofs.Tables.{own_share}

abbrev is_at_equal : Ordering → Bool
is_at_equal Less = false
is_at_equal Equal = true
is_at_equal Greater = false

-- what is found behind a key has a greater one
behind : (k t : Tid) (s : Share) (xs : List (Tid × Share)) → IsBelow tid_cmp k xs → lookup (is_at (tid_cmp t)) xs ≡ Some s → is_at (tid_cmp t) k ≡ true → ⊥
behind k t s [] below found at = absurd (cc found)
behind k t s (x ∷ xs) below found at = by (is_at (tid_cmp t) x.0) refl (behind k t s xs below.1)
  where
    by : (b : Bool) → is_at (tid_cmp t) x.0 ≡ b → (lookup (is_at (tid_cmp t)) xs ≡ Some s → is_at (tid_cmp t) k ≡ true → ⊥) → ⊥
    by false is more = more (rw is at found) at
    by true is more =
        let same_key : k ≡ x.0 = sym (at_exact t k at) ∙ at_exact t x.0 is in
        let less : tid_cmp k x.0 ≡ Less = below.0 in
        false≢true (sym (ap is_at_equal less) ∙ subst (λ (u : Tid). is_at_equal (tid_cmp k u) ≡ true) same_key (ap is_at_equal (tid_itself k)))

-- ---- the least other that holds something

module _ (test : Share → Bool) (me : Tid) (seen : Tid → Bool) where
  abbrev p : Tid × Share → Bool
  p = of_seen seen

  none_seen : (es : List (Tid × Share)) → least_other test me es ≡ None → least_other test me (filter p es) ≡ None
  none_seen [] h = refl
  none_seen (e ∷ es) h = by (seen e.0) (not (same_tid me e.0) && test e.1) refl refl (none_seen es)
    where
      by : (a b : Bool) → seen e.0 ≡ a → (not (same_tid me e.0) && test e.1) ≡ b → (least_other test me es ≡ None → least_other test me (filter p es) ≡ None) → least_other test me (filter p (e ∷ es)) ≡ None
      by a true has is more = absurd (cc (rw is at h))
      by true false has is more = rw (has, is) (more (rw is at h))
      by false false has is more = rw has (more (rw is at h))

  -- it is one that is hidden, and another than this one
  pub record IsHidden (es : List (Tid × Share)) (t : Tid) : Type 0 where
    pub share : Share
    pub hidden : seen t ≡ false
    pub other : same_tid me t ≡ false
    pub passes : test share ≡ true
    pub there : lookup (is_at (tid_cmp t)) es ≡ Some share

  some_seen : (es : List (Tid × Share)) → IsRising tid_cmp es → (t : Tid) → least_other test me es ≡ Some t → (least_other test me (filter p es) ≡ Some t) ⊎ IsHidden es t
  some_seen [] rising t h = absurd (cc h)
  some_seen (e ∷ es) rising t h = by (seen e.0) (not (same_tid me e.0) && test e.1) refl refl (some_seen es rising.1 t)
    where
      same : Some e.0 ≡ Some t → e.0 ≡ t
      same is = cc is

      parts : (a b : Bool) → (not a && b) ≡ true → (a ≡ false) × (b ≡ true)
      parts true b is = absurd (cc is)
      parts false true is = (refl, refl)
      parts false false is = absurd (cc is)

      first : seen e.0 ≡ false → (not (same_tid me e.0) && test e.1) ≡ true → e.0 ≡ t → IsHidden (e ∷ es) t
      first has is at = subst (λ (u : Tid). IsHidden (e ∷ es) u) at (record { share = e.1; hidden = has; other = (parts (same_tid me e.0) (test e.1) is).0; passes = (parts (same_tid me e.0) (test e.1) is).1; there = rw (tid_itself e.0) refl })

      further : IsHidden es t → IsHidden (e ∷ es) t
      further k = record { share = k.share; hidden = k.hidden; other = k.other; passes = k.passes; there = past (is_at (tid_cmp t) e.0) refl }
        where
          past : (b : Bool) → is_at (tid_cmp t) e.0 ≡ b → lookup (is_at (tid_cmp t)) (e ∷ es) ≡ Some k.share
          past true is = absurd (behind e.0 t k.share es rising.0 k.there is)
          past false is = rw is k.there

      by : (a b : Bool) → seen e.0 ≡ a → (not (same_tid me e.0) && test e.1) ≡ b → (least_other test me es ≡ Some t → (least_other test me (filter p es) ≡ Some t) ⊎ IsHidden es t) → (least_other test me (filter p (e ∷ es)) ≡ Some t) ⊎ IsHidden (e ∷ es) t
      by true true has is more = inl (rw (has, is) (rw is at h))
      by false true has is more = inr (first has is (same (rw is at h)))
      by true false has is more = beyond (more (rw is at h))
        where
          beyond : (least_other test me (filter p es) ≡ Some t) ⊎ IsHidden es t → (least_other test me (filter p (e ∷ es)) ≡ Some t) ⊎ IsHidden (e ∷ es) t
          beyond (inl found) = inl (rw (has, is) found)
          beyond (inr k) = inr (further k)
      by false false has is more = beyond (more (rw is at h))
        where
          beyond : (least_other test me (filter p es) ≡ Some t) ⊎ IsHidden es t → (least_other test me (filter p (e ∷ es)) ≡ Some t) ⊎ IsHidden (e ∷ es) t
          beyond (inl found) = inl (rw has found)
          beyond (inr k) = inr (further k)

-- a share that has to do with a name is not idle
not_idle : (name : List ℕ) (share : Share) → (changes_name name share ≡ true) ⊎ (reads_name name share ≡ true) → is_idle share ≡ false
not_idle name share (inl is) = by share.changes refl is
  where
    by : (xs : List Op) → share.changes ≡ xs → list_any (is_change_of name) xs ≡ true → is_idle share ≡ false
    by [] so e = absurd (cc e)
    by (x ∷ xs) so e = rw so refl
not_idle name share (inr is) = by share.reads refl is
  where
    by : (xs : List (List ℕ)) → share.reads ≡ xs → list_any (same_bytes name) xs ≡ true → is_idle share ≡ false
    by [] so e = absurd (cc e)
    by (x ∷ xs) so e = rw so (and_false _)

-- ---- who keeps the transaction from an operation

module _ (seen : Tid → Bool) (kept held : TableValue) (h : HoldsTable seen kept held) (me : Tid) (mine : seen me ≡ true) where
  -- it is hidden, and holds something in the server's table
  pub record IsHiding (t : Tid) : Type 0 where
    pub hidden : seen t ≡ false
    pub other : same_tid me t ≡ false
    pub busy : is_idle (share_of held t) ≡ false

  hiding : (test : Share → Bool) → ((share : Share) → test share ≡ true → is_idle share ≡ false) → (t : Tid) → IsHidden test me seen held.shares t → IsHiding t
  hiding test busy t k = record { hidden = k.hidden; other = k.other; busy = ap (λ (o : Option Share). is_idle (unwrap_or o nothing_held)) k.there ∙ busy k.share k.passes }

  abbrev pub Holder : Option Tid → Option Tid → Type 0
  Holder k o = (k ≡ o) ⊎ ((t : Tid) × (o ≡ Some t) × IsHiding t)

  least : (test : Share → Bool) → ((share : Share) → test share ≡ true → is_idle share ≡ false) → (o : Option Tid) → least_other test me held.shares ≡ o → Holder (least_other test me kept.shares) o
  least test busy None is = inl (ap (least_other test me) h.shares ∙ none_seen test me seen held.shares is)
  least test busy (Some t) is = by (some_seen test me seen held.shares h.rising t is)
    where
      by : (least_other test me (filter (of_seen seen) held.shares) ≡ Some t) ⊎ IsHidden test me seen held.shares t → Holder (least_other test me kept.shares) (Some t)
      by (inl found) = inl (ap (least_other test me) h.shares ∙ found)
      by (inr k) = inr (t, refl, hiding test busy t k)

  of_two : (a b k l : Option Tid) → Holder k a → Holder l b → Holder (or_else k l) (or_else a b)
  of_two a b k l (inr hidden) second = inr (hidden.0, ap (λ o. or_else o b) hidden.1, hidden.2)
  of_two None b k l (inl is) (inl so) = inl (rw (is, so) refl)
  of_two None b k l (inl is) (inr hidden) = inr hidden
  of_two (Some t) b k l (inl is) second = inl (rw is refl)

  named : (name : List ℕ) → Holder (holder_of_name kept me name) (holder_of_name held me name)
  named name = of_two _ _ _ _ (least (changes_name name) (λ share is. not_idle name share (inl is)) _ refl) (least (reads_name name) (λ share is. not_idle name share (inr is)) _ refl)

  abbrev pub Back : Op → Type 0
  Back op = (holder kept me op ≡ holder held me op) ⊎ ((takes_lock op ≡ true) × ((t : Tid) × (holder held me op ≡ Some t) × IsHiding t))

  -- the same, or one that is hidden, where the operation takes a lock
  pub holds_back : (op : Op) → Back op
  holds_back (Put name text) = locked (named name)
    where
      locked : Holder (holder_of_name kept me name) (holder_of_name held me name) → Back (Put name text)
      locked (inl is) = inl is
      locked (inr hidden) = inr (refl, hidden)
  holds_back (Append name text) = locked (named name)
    where
      locked : Holder (holder_of_name kept me name) (holder_of_name held me name) → Back (Append name text)
      locked (inl is) = inl is
      locked (inr hidden) = inr (refl, hidden)
  holds_back (Del name) = locked (named name)
    where
      locked : Holder (holder_of_name kept me name) (holder_of_name held me name) → Back (Del name)
      locked (inl is) = inl is
      locked (inr hidden) = inr (refl, hidden)
  holds_back (Get name) = locked (least (changes_name name) (λ share is. not_idle name share (inl is)) _ refl)
    where
      locked : Holder (least_other (changes_name name) me kept.shares) (least_other (changes_name name) me held.shares) → Back (Get name)
      locked (inl is) = inl is
      locked (inr hidden) = inr (refl, hidden)
  holds_back op = inl refl

  -- what it sees is the same
  same_view : view_contents kept me ≡ view_contents held me
  same_view = ap (λ (c : List File). fold apply_change c (share_of kept me).changes) h.contents ∙ ap (λ (s : Share). fold apply_change held.contents s.changes) (own_share seen kept held h me mine)

  same_notes : view_notes kept me ≡ view_notes held me
  same_notes = ap (λ c. fold apply_note c (share_of kept me).changes) h.notes ∙ ap (λ (s : Share). fold apply_note held.notes s.changes) (own_share seen kept held h me mine)

  pub same_free : (op : Op) → free_reply kept me op ≡ free_reply held me op
  same_free (Put name text) = refl
  same_free (Append name text) = rw same_view refl
  same_free (Del name) = rw same_view refl
  same_free (Get name) = rw same_view refl
  same_free Listing = rw same_view refl
  same_free (Note text) = refl
  same_free Notes = rw same_notes refl
  same_free (Bind name text) = refl
  same_free (Find name) = rw same_view refl
  same_free (Window name text) = refl
  same_free (Title name) = rw same_view refl
  same_free (Keep name text) = refl
  same_free (Fetch name) = rw same_view refl
  same_free op = refl
