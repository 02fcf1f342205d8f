-- What a log has in doubt of a transaction, of any server.
use Rattle.qs_world_refine.proofs.Words.{◌≡◌, ℕ, ◌==◌, ◌&&◌, ◌||◌, not, Bool, true, false, List, [], ◌∷◌, ◌++◌, map, refl, sym, ◌∙◌, if◌then◌else◌, filter, list_any, same_tid, Tid, Prepared, Recovery, is_vote_of, mark_committed, is_in_doubt, server_no, has_doubt, eqb-self, and_false, or_left, or_right}
use Rattle.qs_restart.specs.Recovery.{is_of}

abbrev pub is_doubt_at : Tid → ℕ → Prepared → Bool
is_doubt_at tid s vote = is_vote_of tid (server_no s) vote && not vote.committed

abbrev pub is_doubt_of : Tid → Prepared → Bool
is_doubt_of tid vote = is_of tid vote && not vote.committed

pub none_of : (tid : Tid) (s : ℕ) (votes : List Prepared) → list_any (is_doubt_of tid) votes ≡ false → list_any (is_doubt_at tid s) votes ≡ false
none_of tid s [] none = refl
none_of tid s (v ∷ votes) none = by (same_tid v.tid tid) (v.server.0 == s) (not v.committed) none (none_of tid s votes)
  where
    by : (a b c : Bool) → ((a && c) || list_any (is_doubt_of tid) votes) ≡ false → (list_any (is_doubt_of tid) votes ≡ false → list_any (is_doubt_at tid s) votes ≡ false) → (((a && b) && c) || list_any (is_doubt_at tid s) votes) ≡ false
    by true b true none more = absurd (cc (none))
    by true true false none more = more none
    by true false false none more = more none
    by false b c none more = more none

pub some_of : (tid : Tid) (votes : List Prepared) → list_any (is_doubt_of tid) votes ≡ true → (s : ℕ) × (list_any (is_doubt_at tid s) votes ≡ true)
some_of tid [] some = absurd (cc (some))
some_of tid (v ∷ votes) some = by (is_doubt_of tid v) refl (some_of tid votes) some
  where
    here : (a c : Bool) → (a && c) ≡ true → ((a && (v.server.0 == v.server.0)) && c) ≡ true
    here a c is = rw (eqb-self v.server.0) (wide a c is)
      where
        wide : (a c : Bool) → (a && c) ≡ true → ((a && true) && c) ≡ true
        wide true c is = is
        wide false c is = is

    by : (b : Bool) → is_doubt_of tid v ≡ b → (list_any (is_doubt_of tid) votes ≡ true → (s : ℕ) × (list_any (is_doubt_at tid s) votes ≡ true)) → (b || list_any (is_doubt_of tid) votes) ≡ true → (s : ℕ) × (list_any (is_doubt_at tid s) (v ∷ votes) ≡ true)
    by true is again some = (v.server.0, or_left (is_doubt_at tid v.server.0 v) _ (here (same_tid v.tid tid) (not v.committed) is))
    by false is again some = let more = again some in (more.0, or_right (is_doubt_at tid more.0 v) _ more.1)

-- two logs that have the same in doubt at each server
pub doubt_same : (tid : Tid) (r s : Recovery) → ((k : ℕ) → is_in_doubt tid k s ≡ is_in_doubt tid k r) → has_doubt tid s ≡ has_doubt tid r
doubt_same tid r s same = by (has_doubt tid r) (has_doubt tid s) refl refl
  where
    by : (a b : Bool) → has_doubt tid r ≡ a → has_doubt tid s ≡ b → b ≡ a
    by true true ea eb = refl
    by false false ea eb = refl
    by true false ea eb = absurd (let vote = some_of tid r.prepared ea in let none : is_in_doubt tid vote.0 s ≡ false = none_of tid vote.0 s.prepared eb in let there : is_in_doubt tid vote.0 s ≡ true = same vote.0 ∙ vote.1 in cc (none, there))
    by false true ea eb = absurd (let vote = some_of tid s.prepared eb in let none : is_in_doubt tid vote.0 r ≡ false = none_of tid vote.0 r.prepared ea in let there : is_in_doubt tid vote.0 r ≡ true = sym (same vote.0) ∙ vote.1 in cc (none, there))

-- ---- once the transaction is ended, or its votes are committed, nothing is

pub doubts_ended : (tid : Tid) (votes : List Prepared) → list_any (is_doubt_of tid) (filter (λ vote. not (is_of tid vote)) votes) ≡ false
doubts_ended tid [] = refl
doubts_ended tid (v ∷ votes) = by (is_of tid v) refl (doubts_ended tid votes)
  where
    by : (b : Bool) → is_of tid v ≡ b → list_any (is_doubt_of tid) (filter (λ vote. not (is_of tid vote)) votes) ≡ false → list_any (is_doubt_of tid) (if not b then v ∷ filter (λ vote. not (is_of tid vote)) votes else filter (λ vote. not (is_of tid vote)) votes) ≡ false
    by true e more = more
    by false e more = rw e more

pub doubts_marked : (tid : Tid) (votes : List Prepared) → list_any (is_doubt_of tid) (map (mark_committed tid) votes) ≡ false
doubts_marked tid [] = refl
doubts_marked tid (v ∷ votes) = by (is_of tid v) refl (doubts_marked tid votes)
  where
    by : (b : Bool) → is_of tid v ≡ b → list_any (is_doubt_of tid) (map (mark_committed tid) votes) ≡ false → (is_doubt_of tid (if b then record v { committed = true } else v) || list_any (is_doubt_of tid) (map (mark_committed tid) votes)) ≡ false
    by true e more = rw (and_false (same_tid v.tid tid)) more
    by false e more = rw e more

-- what comes last
pub any_last : {A : Type 0} (p : A → Bool) (x : A) → p x ≡ true → (xs : List A) → list_any p (xs ++ x ∷ []) ≡ true
any_last p x is [] = rw is refl
any_last p x is (y ∷ xs) = by (p y) (any_last p x is xs)
  where
    by : (b : Bool) → list_any p (xs ++ x ∷ []) ≡ true → (b || list_any p (xs ++ x ∷ [])) ≡ true
    by true more = refl
    by false more = more
