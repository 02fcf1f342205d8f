-- What names of a node hold that is hidden is in doubt, and goes on so as they serve, vote and learn, and as more is hidden.
use Rattle.qs_world_lawful.proofs.Words.{◌≡◌, ◌⊎◌, inl, inr, ℕ, Bool, true, false, List, [], ◌∷◌, Option, refl, sym, ap, subst, ◌∙◌, map, flat_map-append, not, ◌&&◌, unwrap_or, if◌then◌else◌, filter, list_all, remove_entry, is_at, tid_cmp, Tid, IsRising, bound_names, with_names, Request, voted_in, noted_in, names_no, TableValue, after_serve, applied, served, share_of, Op, Reply, Share, Vote, Outcome, notice_of, HoldsDoubts, doubted, has_name, is_bind, IsWithin, op_in, false≢true}
use Rattle.std.proofs.lemmas.List.Folds.{list_all-append}
use Rattle.qs_ipc.specs.Queue.{is_for}
use Rattle.qs_book_machine.specs.Book.{is_done}
use Rattle.qs_book_machine.specs.Nodes.{bound_name}
use Rattle.qs_ops.specs.declared.vote.Vote.TheVariants as votes
use Rattle.qs_base.specs.declared.identifiers.Outcome.TheVariants as outcomes
use Rattle.qs_world_lawful.specs.Doubts.{names_of}
use Rattle.qs_world_lawful.proofs.Apart.{Apart, same_or_apart}
use Rattle.qs_world_lawful.proofs.OtherShares.{removed_apart, share_noted, share_put, share_voted}
use Rattle.qs_world_lawful.proofs.Pending.{gone}
use Rattle.qs_world_lawful.proofs.Doubted.{IsAdded, added, bound_among, doubted_apart, doubted_more, in_either, in_left, in_right, itself, share_own}

-- ---- what is held

abbrev changes_at : TableValue → Tid → List Op
changes_at table t = (share_of table t).changes

module _ (seen : Tid → Bool) (doubts : List (Tid × List (List ℕ))) (held : TableValue) (h : HoldsDoubts seen doubts held) where
  doubts_keep : (new : TableValue) → ((t : Tid) → (changes_at new t ≡ changes_at held t) ⊎ (changes_at new t ≡ [])) → HoldsDoubts seen doubts new
  doubts_keep new each = record { binds = λ t. by_binds t (each t); hidden = λ t other name has. by_hidden t other name (each t) has }
    where
      by_binds : (t : Tid) → (changes_at new t ≡ changes_at held t) ⊎ (changes_at new t ≡ []) → list_all is_bind (changes_at new t) ≡ true
      by_binds t (inl same) = ap (list_all is_bind) same ∙ h.binds t
      by_binds t (inr none) = ap (list_all is_bind) none

      by_hidden : (t : Tid) → seen t ≡ false → (name : List ℕ) → (changes_at new t ≡ changes_at held t) ⊎ (changes_at new t ≡ []) → has_name name (names_of new t) ≡ true → has_name name (doubted doubts t) ≡ true
      by_hidden t other name (inl same) has = h.hidden t other name (sym (ap (λ (ops : List Op). has_name name (bound_names ops)) same) ∙ has)
      by_hidden t other name (inr none) has = absurd (false≢true (sym (ap (λ (ops : List Op). has_name name (bound_names ops)) none) ∙ has))

  -- the same is hidden
  pub doubts_alike : (now : Tid → Bool) → ((t : Tid) → now t ≡ seen t) → HoldsDoubts now doubts held
  doubts_alike now same = record { binds = h.binds; hidden = λ t other. h.hidden t (sym (same t) ∙ other) }

  module _ (tid : Tid) where
    -- all but this one's is kept
    at_tid : (new : TableValue) → (changes_at new tid ≡ changes_at held tid) ⊎ (changes_at new tid ≡ []) → ((t : Tid) → Apart tid t → share_of new t ≡ share_of held t) → HoldsDoubts seen doubts new
    at_tid new own others = doubts_keep new (λ t. by t (same_or_apart tid t))
      where
        by : (t : Tid) → (tid ≡ t) ⊎ Apart tid t → (changes_at new t ≡ changes_at held t) ⊎ (changes_at new t ≡ [])
        by t (inl is) = subst (λ (u : Tid). (changes_at new u ≡ changes_at held u) ⊎ (changes_at new u ≡ [])) is own
        by t (inr far) = inl (ap (λ (s : Share). s.changes) (others t far))

    pub voted_doubts : IsRising tid_cmp held.shares → (ballot : Vote) → HoldsDoubts seen doubts (voted_in held tid ballot)
    voted_doubts rising ballot = at_tid (voted_in held tid ballot) (own ballot) (λ t far. share_voted tid t ballot held far)
      where
        own : (b : Vote) → (changes_at (voted_in held tid b) tid ≡ changes_at held tid) ⊎ (changes_at (voted_in held tid b) tid ≡ [])
        own votes.ReadOnly = inr (ap (λ (s : Share). s.changes) (gone held tid rising))
        own votes.Volatile = inl (ap (λ (s : Share). s.changes) (share_own held tid (record (share_of held tid) { voted = true })))
        own votes.Recoverable = inl refl
        own (votes.Abort reason) = inl (ap (λ (s : Share). s.changes) (share_own held tid (record (share_of held tid) { voted = false })))

    -- once it learnt how it ends it holds nothing
    pub noted_gone : IsRising tid_cmp held.shares → (outcome : Outcome) → changes_at (noted_in (notice_of outcome) tid held) tid ≡ []
    noted_gone rising outcomes.Commit = ap (λ (s : Share). s.changes) (gone (applied held (changes_at held tid)) tid rising)
    noted_gone rising outcomes.Abort = ap (λ (s : Share). s.changes) (gone held tid rising)

    pub noted_doubts : IsRising tid_cmp held.shares → (outcome : Outcome) → HoldsDoubts seen doubts (noted_in (notice_of outcome) tid held)
    noted_doubts rising outcome = at_tid (noted_in (notice_of outcome) tid held) (inr (noted_gone rising outcome)) (λ t far. share_noted tid t (notice_of outcome) held far)

    -- and of what holds nothing no name is in doubt
    pub doubts_gone : changes_at held tid ≡ [] → HoldsDoubts seen (remove_entry (is_at (tid_cmp tid)) doubts) held
    doubts_gone none = record { binds = h.binds; hidden = λ t other name has. by t other name has (same_or_apart tid t) }
      where
        by : (t : Tid) → seen t ≡ false → (name : List ℕ) → has_name name (names_of held t) ≡ true → (tid ≡ t) ⊎ Apart tid t → has_name name (doubted (remove_entry (is_at (tid_cmp tid)) doubts) t) ≡ true
        by t other name has (inl is) = absurd (false≢true (sym (ap (λ (ops : List Op). has_name name (bound_names ops)) (subst (λ (u : Tid). changes_at held u ≡ []) is none)) ∙ has))
        by t other name has (inr far) = ap (λ (o : Option (List (List ℕ))). has_name name (unwrap_or o [])) (removed_apart (is_at (tid_cmp tid)) (is_at (tid_cmp t)) far.keys doubts) ∙ h.hidden t other name has

    -- ---- more is in doubt

    more_doubts : (names : List (List ℕ)) (t : Tid) (name : List ℕ) → has_name name (doubted doubts t) ≡ true → has_name name (doubted (with_names tid names doubts) t) ≡ true
    more_doubts names t name has = by (same_or_apart tid t)
      where
        by : (tid ≡ t) ⊎ Apart tid t → has_name name (doubted (with_names tid names doubts) t) ≡ true
        by (inl is) = subst (λ (u : Tid). has_name name (doubted (with_names tid names doubts) u) ≡ true) is
            (ap (has_name name) (doubted_more tid names doubts) ∙ in_left name (doubted doubts tid) names (subst (λ (u : Tid). has_name name (doubted doubts u) ≡ true) (sym is) has))
        by (inr far) = ap (has_name name) (doubted_apart tid t names doubts far) ∙ has

    pub more_in_doubt : (names : List (List ℕ)) → HoldsDoubts seen (with_names tid names doubts) held
    more_in_doubt names = record { binds = h.binds; hidden = λ t other name has. more_doubts names t name (h.hidden t other name has) }

    -- it is hidden from now on, and what it binds is in doubt
    pub crossed_doubts : (names : List (List ℕ)) (now : Tid → Bool) → ((t : Tid) → now t ≡ (seen t && not (is_at (tid_cmp tid) t))) → (seen tid ≡ true → names ≡ names_of held tid) → HoldsDoubts now (with_names tid names doubts) held
    crossed_doubts names now hides its = record { binds = h.binds; hidden = λ t other name has. by t other name has (same_or_apart tid t) }
      where
        by : (t : Tid) → now t ≡ false → (name : List ℕ) → has_name name (names_of held t) ≡ true → (tid ≡ t) ⊎ Apart tid t → has_name name (doubted (with_names tid names doubts) t) ≡ true
        by t other name has (inl is) = subst (λ (u : Tid). has_name name (doubted (with_names tid names doubts) u) ≡ true) is (own (seen tid) refl)
          where
            has_own : has_name name (names_of held tid) ≡ true
            has_own = subst (λ (u : Tid). has_name name (names_of held u) ≡ true) (sym is) has

            own : (b : Bool) → seen tid ≡ b → has_name name (doubted (with_names tid names doubts) tid) ≡ true
            own true mine = ap (has_name name) (doubted_more tid names doubts) ∙ in_right name (doubted doubts tid) names (ap (has_name name) (its mine) ∙ has_own)
            own false hid = more_doubts names tid name (h.hidden tid hid name has_own)
        by t other name has (inr far) = more_doubts names t name (h.hidden t (still (seen t) refl) name has)
          where
            still : (b : Bool) → seen t ≡ b → seen t ≡ false
            still false is = is
            still true is = absurd (false≢true (sym (sym (hides t ∙ rw (is, far.keys t (itself t)) refl) ∙ other)))

    -- ---- a request is served

    module _ (op : Op) (reply : Reply) (fits : is_for (record { 0 = names_no }) op ≡ true) where
      abbrev new : TableValue
      new = served held tid op reply

      own_changes : changes_at new tid ≡ (after_serve (share_of held tid) op reply).changes
      own_changes = ap (λ (s : Share). s.changes) (share_own held tid (after_serve (share_of held tid) op reply))

      served_binds : (t : Tid) → list_all is_bind (changes_at new t) ≡ true
      served_binds t = by (same_or_apart tid t)
        where
          own : ((after_serve (share_of held tid) op reply).changes ≡ changes_at held tid) ⊎ IsAdded op reply (changes_at held tid) (after_serve (share_of held tid) op reply).changes → list_all is_bind (changes_at new tid) ≡ true
          own (inl same) = ap (list_all is_bind) (own_changes ∙ same) ∙ h.binds tid
          own (inr a) = ap (list_all is_bind) (own_changes ∙ a.more) ∙ (list_all-append is_bind (changes_at held tid) (op ∷ []) ∙ rw (h.binds tid, a.bind) refl)

          by : (tid ≡ t) ⊎ Apart tid t → list_all is_bind (changes_at new t) ≡ true
          by (inl is) = subst (λ (u : Tid). list_all is_bind (changes_at new u) ≡ true) is (own (added op reply (share_of held tid) fits))
          by (inr far) = ap (λ (s : Share). list_all is_bind s.changes) (share_put tid t (after_serve (share_of held tid) op reply) held far) ∙ h.binds t

      pub served_doubts : seen tid ≡ true → HoldsDoubts seen doubts new
      served_doubts mine = record { binds = served_binds; hidden = λ t other name has. by t other name has (same_or_apart tid t) }
        where
          by : (t : Tid) → seen t ≡ false → (name : List ℕ) → has_name name (names_of new t) ≡ true → (tid ≡ t) ⊎ Apart tid t → has_name name (doubted doubts t) ≡ true
          by t other name has (inl is) = absurd (false≢true (sym other ∙ subst (λ (u : Tid). seen u ≡ true) is mine))
          by t other name has (inr far) = h.hidden t other name (sym (ap (λ (s : Share). has_name name (bound_names s.changes)) (share_put tid t (after_serve (share_of held tid) op reply) held far)) ∙ has)

      -- what a hidden one may have bound is in doubt
      pub hidden_doubts : (ops : List Op) (p : Request → Bool) (requests : List Request) → IsWithin (op ∷ ops) (map op_in (filter p requests))
          → HoldsDoubts seen (if is_done reply then with_names tid (bound_names (map op_in requests)) doubts else doubts) new
      hidden_doubts ops p requests first = record { binds = served_binds; hidden = λ t other name has. by t other name has (same_or_apart tid t) }
        where
          now : List (Tid × List (List ℕ))
          now = if is_done reply then with_names tid (bound_names (map op_in requests)) doubts else doubts

          grown : (t : Tid) (name : List ℕ) → has_name name (doubted doubts t) ≡ true → has_name name (doubted now t) ≡ true
          grown t name has = of (is_done reply)
            where
              of : (b : Bool) → has_name name (doubted (if b then with_names tid (bound_names (map op_in requests)) doubts else doubts) t) ≡ true
              of true = more_doubts (bound_names (map op_in requests)) t name has
              of false = has

          own : (name : List ℕ) → seen tid ≡ false → has_name name (names_of new tid) ≡ true
              → ((after_serve (share_of held tid) op reply).changes ≡ changes_at held tid) ⊎ IsAdded op reply (changes_at held tid) (after_serve (share_of held tid) op reply).changes → has_name name (doubted now tid) ≡ true
          own name hid has (inl same) = grown tid name (h.hidden tid hid name (sym (ap (λ (xs : List Op). has_name name (bound_names xs)) (own_changes ∙ same)) ∙ has))
          own name hid has (inr a) = of (in_either name (names_of held tid) (bound_names (op ∷ [])) (sym (ap (λ (xs : List Op). has_name name (bound_names xs)) (own_changes ∙ a.more) ∙ ap (has_name name) (flat_map-append bound_name (changes_at held tid) (op ∷ []))) ∙ has))
            where
              of : (has_name name (names_of held tid) ≡ true) ⊎ (has_name name (bound_names (op ∷ [])) ≡ true) → has_name name (doubted now tid) ≡ true
              of (inl old) = grown tid name (h.hidden tid hid name old)
              of (inr fresh) = subst (λ (b : Bool). has_name name (doubted (if b then with_names tid (bound_names (map op_in requests)) doubts else doubts) tid) ≡ true) (sym a.done)
                  (ap (has_name name) (doubted_more tid (bound_names (map op_in requests)) doubts) ∙ in_right name (doubted doubts tid) (bound_names (map op_in requests)) (bound_among name op ops p requests first fresh))

          by : (t : Tid) → seen t ≡ false → (name : List ℕ) → has_name name (names_of new t) ≡ true → (tid ≡ t) ⊎ Apart tid t → has_name name (doubted now t) ≡ true
          by t other name has (inl is) = subst (λ (u : Tid). has_name name (doubted now u) ≡ true) is
              (own name (subst (λ (u : Tid). seen u ≡ false) (sym is) other) (subst (λ (u : Tid). has_name name (names_of new u) ≡ true) (sym is) has) (added op reply (share_of held tid) fits))
          by t other name has (inr far) = grown t name (h.hidden t other name (sym (ap (λ (s : Share). has_name name (bound_names s.changes)) (share_put tid t (after_serve (share_of held tid) op reply) held far)) ∙ has))
