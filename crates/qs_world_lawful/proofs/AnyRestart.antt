-- A restart turns each transaction too, whatever votes and Commits it finds; and nothing is left undecided of what its node began.
use Rattle.qs_world_lawful.proofs.Words.{◌≡◌, ℕ, ◌≤◌, true, false, List, [], ◌∷◌, Option, Some, None, fold, sym, ap, subst, ◌∙◌, slice_get, list_all, Member, Tid, Found, left_of, changed_at_here, Age, passed, BookValue, find_transaction, inc_at, is_recoverable, abort_begun, begun_at, broken_restart, commit_found, is_open_here, new_votes, put_new_votes, restart, up_to, vote_found, votes_once, with_votes, IsOfNow, Every, and_last}
use Rattle.qs_book_laws.proofs.Restarts.{votes_age}
use Rattle.qs_book_laws.proofs.Steps.{past}
use Rattle.qs_book_machine.specs.Nodes as machine
use Rattle.qs_book_machine.specs.Restart.{is_found_vote}
use Rattle.qs_world_lawful.proofs.RestartCells.{aborts_on, aborts_shut, commits_on}
use Rattle.qs_world_lawful.proofs.RestartGoes.{IsElsewhere, Onward, on_fold, on_then, vote_on}
use Rattle.qs_world_lawful.proofs.Turning.{Turned, Turns, turns_quiet}

module _ (book : BookValue) (here inc : ℕ) (pend : List Found) (done : List Tid) (state : machine.NodeValue) (there : slice_get book.nodes here ≡ Some state) (allowed : broken_restart here book state inc pend done ≡ None) where
  abbrev P : Member → ℕ → Type 0
  P = IsElsewhere here inc

  abbrev read : BookValue
  read = put_new_votes here pend book

  abbrev committed : BookValue
  committed = fold (commit_found here) read done

  abbrev voted : BookValue
  voted = fold (vote_found here inc done) committed pend

  abbrev was_inc : ℕ
  was_inc = inc_at read (record { 0 = here })

  abbrev settled : BookValue
  settled = fold (abort_begun here was_inc) voted (up_to (begun_at here read))

  kinds : Every (λ (found : Found). is_recoverable found.server.0 ≡ true) pend
  kinds = each pend (left_of (list_all (is_found_vote here book state done) pend) (votes_once pend) (passed _ 111 _ (past _ 110 _ allowed)))
    where
      each : (fs : List Found) → list_all (is_found_vote here book state done) fs ≡ true → Every (λ (found : Found). is_recoverable found.server.0 ≡ true) fs
      each [] all = tt
      each (f ∷ fs) all = (left_of (is_recoverable f.server.0) _ (left_of (is_found_vote here book state done f) _ all), each fs (and_last (is_found_vote here book state done f) _ all))

  to_settled : Onward here P voted settled
  to_settled = aborts_on here P was_inc (up_to (begun_at here read)) voted

  onward : Onward here P read settled
  onward = on_then here P read committed settled (commits_on here P done read)
      (on_then here P committed voted settled (on_fold here P (λ (found : Found). is_recoverable found.server.0 ≡ true) (vote_found here inc done) (λ b f kept. vote_on here P inc (λ m i far. far) done b f kept) pend kinds committed) to_settled)

  pub restart_turns : Turned (Turns here inc book.place) book (restart here inc pend done book)
  restart_turns = record {
    none = λ tid is. onward.none tid is;
    goes = λ tid tx found.
        let p = onward.goes tid tx found in
        (p.0, p.1, turns_quiet here inc book.place tid tx p.0 p.2);
  }

  -- ---- nothing that began there is open

  found_there : slice_get read.nodes here ≡ Some (with_votes (new_votes here book pend) state)
  found_there = changed_at_here (with_votes (new_votes here book pend)) book.nodes here state there

  same_inc : (with_votes (new_votes here book pend) state).inc ≡ state.inc
  same_inc = ap (λ (a : Age). a.inc) (votes_age (new_votes here book pend) state)

  same_begun : (with_votes (new_votes here book pend) state).begun ≡ state.begun
  same_begun = ap (λ (a : Age). a.begun) (votes_age (new_votes here book pend) state)

  inc_is : was_inc ≡ state.inc
  inc_is = ap (λ (o : Option machine.NodeValue). elim o [ None ↦ 0 | Some v ↦ v.inc ]) found_there ∙ same_inc

  begun_is : begun_at here read ≡ state.begun
  begun_is = ap (λ (o : Option machine.NodeValue). elim o [ None ↦ 0 | Some v ↦ v.begun ]) found_there ∙ same_begun

  pub restart_shuts : (tid : Tid) → tid.home.0 ≡ here → IsOfNow state tid → 1 ≤ tid.seq → is_open_here here tid (find_transaction (restart here inc pend done book) tid) ≡ false
  restart_shuts tid home now low =
      aborts_shut here P was_inc tid (begun_at here read) voted home (now.inc ∙ sym inc_is) low (subst (λ (k : ℕ). tid.seq ≤ k) (sym begun_is) now.counted)
