-- As a world begins the machine has on record what stands in doubt in each log, and of contents and changes what the log says.
use Rattle.qs_world_lawful.proofs.Words.{◌≡◌, ◌⊎◌, inl, inr, ℕ, ◌==◌, ◌&&◌, ◌||◌, not, Bool, true, false, List, [], ◌∷◌, length, map, Option, Some, fold, refl, sym, ap, subst, ◌∙◌, if◌then◌else◌, option_map, filter, list_any, lookup, insert_entry, is_at, same_tid, same_tid-self, same_tid-true, Tid, voter_equal, voter_exact, lookup_put, lookup_put_apart, tied_itself, voter, voter_cmp, is_same_vote, votes_once, Pending, OnRecord, Voter, Prepared, is_in_doubt, names_transaction, open_vote, last_doubt}
use Rattle.qs_world_lawful.proofs.Words.{Every, found_of, eqb-self, some_same, and_right, not-true, or_right, and_parts, eqb-true}
use Rattle.qs_book_laws.proofs.Rising.{voter_total}
use Rattle.qs_book_machine.specs.Opening.{put_record}
use Rattle.qs_world.specs.Moves as moves
use Rattle.qs_world_lawful.proofs.OpenedBook.{is_pending_of, last_pending}
use Rattle.std.proofs.lemmas.Bool.{and_left, or_parts}

-- ---- the last vote of a member goes on record

abbrev pub record_for : Pending → OnRecord
record_for p = record { changes = p.changes; covers = p.covers; pending = length p.changes }

module _ (tid : Tid) (s : ℕ) where
  one_put : (p : Pending) (o : Option Pending) (es : List (Voter × OnRecord)) → lookup (is_at (voter_cmp (voter tid s))) es ≡ option_map record_for o → lookup (is_at (voter_cmp (voter tid s))) (put_record es p) ≡ option_map record_for (last_pending tid s o p)
  one_put p o es h = by (is_pending_of tid s p) refl
    where
      own : voter p.tid p.server.0 ≡ voter tid s → lookup (is_at (voter_cmp (voter tid s))) (insert_entry voter_cmp es (voter p.tid p.server.0) (record_for p)) ≡ Some (record_for p)
      own same = subst (λ (v : Voter). lookup (is_at (voter_cmp (voter tid s))) (insert_entry voter_cmp es v (record_for p)) ≡ Some (record_for p)) (sym same) (lookup_put voter_cmp (voter tid s) (record_for p) (tied_itself voter_total (voter tid s)) es)

      apart : is_pending_of tid s p ≡ false → (b : Bool) → is_at (voter_cmp (voter tid s)) (voter p.tid p.server.0) ≡ b → b ≡ false
      apart far false is = refl
      apart far true is = absurd (cc (sym far ∙ near))
        where
          same : voter tid s ≡ voter p.tid p.server.0
          same = voter_exact (voter tid s) (voter p.tid p.server.0) is

          near : is_pending_of tid s p ≡ true
          near = rw (sym (ap (λ (v : Voter). v.tid) same), sym (ap (λ (v : Voter). v.server.0) same), same_tid-self tid) (eqb-self s)

      by : (b : Bool) → is_pending_of tid s p ≡ b → lookup (is_at (voter_cmp (voter tid s))) (put_record es p) ≡ option_map record_for (if b then Some p else o)
      by true is =
          let q = and_parts (same_tid p.tid tid) (p.server.0 == s) is in
          own (both p.tid p.server.0 (same_tid-true p.tid tid q.0) (eqb-true p.server.0 s q.1))
        where
          both : (t : Tid) (k : ℕ) → t ≡ tid → k ≡ s → voter t k ≡ voter tid s
          both t k a b = rw (a, b) refl
      by false is = lookup_put_apart voter_cmp (voter p.tid p.server.0) (record_for p) (λ x e. voter_equal (voter p.tid p.server.0) x e) (is_at (voter_cmp (voter tid s))) (apart is _ refl) es ∙ h

  pub all_put : (ps : List Pending) (o : Option Pending) (es : List (Voter × OnRecord)) → lookup (is_at (voter_cmp (voter tid s))) es ≡ option_map record_for o → lookup (is_at (voter_cmp (voter tid s))) (fold put_record es ps) ≡ option_map record_for (fold (last_pending tid s) o ps)
  all_put [] o es h = h
  all_put (p ∷ ps) o es h = all_put ps (last_pending tid s o p) (put_record es p) (one_put p o es h)

-- ---- each vote in doubt is the last of its member

later_stays : (v : Prepared) (votes : List Prepared) → list_any (is_same_vote (found_of v)) (map moves.found_of (map open_vote (filter (λ (x : Prepared). names_transaction x.tid) votes))) ≡ false → fold (last_doubt v.tid v.server.0) (Some v) votes ≡ Some v
later_stays v [] none = refl
later_stays v (x ∷ votes) none = by (names_transaction x.tid) refl none (later_stays v votes)
  where
    skip : (b : Bool) → (is_in_doubt x && (same_tid x.tid v.tid && (x.server.0 == v.server.0))) ≡ b → b ≡ false → (fold (last_doubt v.tid v.server.0) (Some v) votes ≡ Some v) → fold (last_doubt v.tid v.server.0) (if b then Some x else Some v) votes ≡ Some v
    skip false is e more = more
    skip true is e more = absurd (cc e)

    by : (b : Bool) → names_transaction x.tid ≡ b → list_any (is_same_vote (found_of v)) (map moves.found_of (map open_vote (if b then x ∷ filter (λ (y : Prepared). names_transaction y.tid) votes else filter (λ (y : Prepared). names_transaction y.tid) votes))) ≡ false
        → (list_any (is_same_vote (found_of v)) (map moves.found_of (map open_vote (filter (λ (y : Prepared). names_transaction y.tid) votes))) ≡ false → fold (last_doubt v.tid v.server.0) (Some v) votes ≡ Some v)
        → fold (last_doubt v.tid v.server.0) (if is_in_doubt x && (same_tid x.tid v.tid && (x.server.0 == v.server.0)) then Some x else Some v) votes ≡ Some v
    by false unnamed far more = skip (is_in_doubt x && (same_tid x.tid v.tid && (x.server.0 == v.server.0))) refl (and_left (is_in_doubt x) _ (and_left (names_transaction x.tid) (not x.committed) unnamed)) (more far)
    by true named far more =
        let p = or_parts (is_same_vote (found_of v) (found_of x)) _ far in
        skip (is_in_doubt x && (same_tid x.tid v.tid && (x.server.0 == v.server.0))) refl (and_right (is_in_doubt x) _ p.0) (more p.1)

pub doubts_once : (votes : List Prepared) (o : Tid → ℕ → Option Prepared) → votes_once (map moves.found_of (map open_vote (filter (λ (x : Prepared). names_transaction x.tid) votes))) ≡ true
    → Every (λ (v : Prepared). is_in_doubt v ≡ true → fold (last_doubt v.tid v.server.0) (o v.tid v.server.0) votes ≡ Some v) votes
doubts_once [] o once = tt
doubts_once (x ∷ votes) o once = ((λ doubt. own doubt), doubts_once votes (λ tid s. last_doubt tid s (o tid s) x) (rest (names_transaction x.tid) once))
  where
    rest : (b : Bool) → votes_once (map moves.found_of (map open_vote (if b then x ∷ filter (λ (y : Prepared). names_transaction y.tid) votes else filter (λ (y : Prepared). names_transaction y.tid) votes))) ≡ true → votes_once (map moves.found_of (map open_vote (filter (λ (y : Prepared). names_transaction y.tid) votes))) ≡ true
    rest true h = (and_parts _ _ h).1
    rest false h = h

    first : (b : Bool) → b ≡ true → votes_once (map moves.found_of (map open_vote (if b then x ∷ filter (λ (y : Prepared). names_transaction y.tid) votes else filter (λ (y : Prepared). names_transaction y.tid) votes))) ≡ true
        → list_any (is_same_vote (found_of x)) (map moves.found_of (map open_vote (filter (λ (y : Prepared). names_transaction y.tid) votes))) ≡ false
    first true e h = not-true _ (and_parts _ _ h).0
    first false e h = absurd (cc e)

    own : is_in_doubt x ≡ true → fold (last_doubt x.tid x.server.0) (last_doubt x.tid x.server.0 (o x.tid x.server.0) x) votes ≡ Some x
    own doubt = subst (λ (b : Bool). fold (last_doubt x.tid x.server.0) (if b then Some x else o x.tid x.server.0) votes ≡ Some x) (sym near) (later_stays x votes (first (names_transaction x.tid) (and_parts (names_transaction x.tid) _ doubt).0 once))
      where
        near : (is_in_doubt x && (same_tid x.tid x.tid && (x.server.0 == x.server.0))) ≡ true
        near = rw (doubt, same_tid-self x.tid) (eqb-self x.server.0)

-- what is the last in doubt is among them
pub doubt_found : (tid : Tid) (s : ℕ) (test : Prepared → Bool) (v : Prepared) → test v ≡ true → (votes : List Prepared) (o : Option Prepared) → fold (last_doubt tid s) o votes ≡ Some v → (o ≡ Some v) ⊎ (list_any test votes ≡ true)
doubt_found tid s test v is [] o h = inl h
doubt_found tid s test v is (x ∷ votes) o h = by (is_in_doubt x && (same_tid x.tid tid && (x.server.0 == s))) refl (λ p e. doubt_found tid s test v is votes p e) h
  where
    by : (b : Bool) → (is_in_doubt x && (same_tid x.tid tid && (x.server.0 == s))) ≡ b → ((p : Option Prepared) → fold (last_doubt tid s) p votes ≡ Some v → (p ≡ Some v) ⊎ (list_any test votes ≡ true))
        → fold (last_doubt tid s) (if b then Some x else o) votes ≡ Some v → (o ≡ Some v) ⊎ ((test x || list_any test votes) ≡ true)
    by false at more h = of (more o h)
      where
        of : (o ≡ Some v) ⊎ (list_any test votes ≡ true) → (o ≡ Some v) ⊎ ((test x || list_any test votes) ≡ true)
        of (inl e) = inl e
        of (inr e) = inr (or_right (test x) (list_any test votes) e)
    by true at more h = of (more (Some x) h)
      where
        of : (Some x ≡ Some v) ⊎ (list_any test votes ≡ true) → (o ≡ Some v) ⊎ ((test x || list_any test votes) ≡ true)
        of (inl e) = inr (rw (subst (λ (y : Prepared). test y ≡ true) (sym (some_same e)) is) refl)
        of (inr e) = inr (or_right (test x) (list_any test votes) e)
