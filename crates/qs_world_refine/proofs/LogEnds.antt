-- A log in which a transaction's records are ended says nothing of it any more but that it is committed.
use Rattle.qs_world_refine.proofs.Words.{◌≡◌, ℕ, ◌&&◌, not, Bool, true, false, List, [], ◌∷◌, refl, if◌then◌else◌, filter, list_any, same_tid, Tid, Prepared, Untold, is_vote_of, is_untold_of, server_no}
use Rattle.qs_restart.specs.Recovery.{is_of}

-- nothing is in doubt
pub doubt_ended : (tid : Tid) (s : ℕ) (votes : List Prepared) → list_any (λ (v : Prepared). is_vote_of tid (server_no s) v && not v.committed) (filter (λ vote. not (is_of tid vote)) votes) ≡ false
doubt_ended tid s [] = refl
doubt_ended tid s (v ∷ votes) = by (same_tid v.tid tid) refl (doubt_ended tid s votes)
  where
    by : (b : Bool) → same_tid v.tid tid ≡ b → list_any (λ (v : Prepared). is_vote_of tid (server_no s) v && not v.committed) (filter (λ vote. not (is_of tid vote)) votes) ≡ false
        → list_any (λ (v : Prepared). is_vote_of tid (server_no s) v && not v.committed) (if not b then v ∷ filter (λ vote. not (is_of tid vote)) votes else filter (λ vote. not (is_of tid vote)) votes) ≡ false
    by true e more = more
    by false e more = rw e more

-- and no Commit is to be told
pub untold_ended : (tid : Tid) (commits : List Untold) → list_any (is_untold_of tid) (filter (λ commit. not (is_untold_of tid commit)) commits) ≡ false
untold_ended tid [] = refl
untold_ended tid (c ∷ commits) = by (is_untold_of tid c) refl (untold_ended tid commits)
  where
    by : (b : Bool) → is_untold_of tid c ≡ b → list_any (is_untold_of tid) (filter (λ commit. not (is_untold_of tid commit)) commits) ≡ false
        → list_any (is_untold_of tid) (if not b then c ∷ filter (λ commit. not (is_untold_of tid commit)) commits else filter (λ commit. not (is_untold_of tid commit)) commits) ≡ false
    by true e more = more
    by false e more = rw e more
