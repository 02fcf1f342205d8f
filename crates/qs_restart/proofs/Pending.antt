-- What a Commit commits at a server is at the place of the vote that stands open before it.
use Rattle.std.proofs.Common.{◌≡◌, ◌∙◌, ℕ, suc, Bool, true, false, List, [], ◌∷◌, ◌++◌, Option, Some, None, refl, sym, subst, ap, append-nil, arith}
use Rattle.std.proofs.lemmas.Bool.Decides.{nat_tests}
use Rattle.std.specs.Prelude.{not, ◌&&◌, ◌==◌, is_some, nat_lt, slice_get, if◌then◌else◌}
use Rattle.std.specs.List.{filter, flat_map, list_any}
use Rattle.qs_base.specs.Order.{same_tid}
use Rattle.qs_base.specs.declared.identifiers.ServerNo.{ServerNo}
use Rattle.qs_base.specs.declared.identifiers.Tid.{Tid}
use Rattle.qs_ops.specs.declared.operation.Op.{Op}
use Rattle.qs_record.specs.declared.record.Record.{Record}
use Rattle.qs_record.specs.declared.record.Record.TheVariants as records
use Rattle.qs_restart.specs.Recovery.{Prepared, Recovery, is_vote_of, changes_at, recovery}
use Rattle.qs_restart.specs.Places.{is_prepare_of, is_listed_of, is_end_of, last_place, is_behind, pending_place, changes_of, changes_in}
use Rattle.qs_restart.specs.Standing.{open_at, open_prepares}
use Rattle.qs_restart.proofs.Opened.{prepared_open}
use Rattle.qs_restart.proofs.Behind.{any_place, below, first, not_before, same_tid-flip, same_tid-self, same_tid-exact, same_server-exact, and_left, and_right, flip, self}

abbrev changes_among : Tid → ServerNo → List Prepared → List Op
changes_among tid server votes = flat_map (λ (vote : Prepared). vote.changes) (filter (is_vote_of tid server) votes)

abbrev at_place : Tid → ServerNo → List Record → List Record → List Op
at_place tid server all log = changes_in all (pending_place (last_place (is_prepare_of tid server) log) (last_place (is_end_of tid) log))

-- a record more at the front shifts the places
shift : (all : List Record) (rec : Record) (ends : Bool) (place : ℕ) (end : Option ℕ)
    → changes_in (rec ∷ all) (pending_place (Some (suc place)) (elim end [ None ↦ if ends then Some 0 else None | Some e ↦ Some (suc e) ])) ≡ changes_in all (pending_place (Some place) end)
shift all rec true place None = rw (not_before place) refl
shift all rec false place None = refl
shift all rec ends place (Some e) = by (nat_lt place e) refl
  where
    by : (b : Bool) → nat_lt place e ≡ b → changes_in (rec ∷ all) (pending_place (Some (suc place)) (Some (suc e))) ≡ changes_in all (pending_place (Some place) (Some e))
    by true is = rw (below place e, is) refl
    by false is = rw (below place e, is) refl

-- a record that is no vote of it
past : (tid : Tid) (server : ServerNo) (all log : List Record) (rec : Record) → is_prepare_of tid server rec ≡ false → at_place tid server all log ≡ at_place tid server (rec ∷ all) (rec ∷ log)
past tid server all log rec none = by (last_place (is_prepare_of tid server) log) refl
  where
    by : (o : Option ℕ) → last_place (is_prepare_of tid server) log ≡ o → at_place tid server all log ≡ at_place tid server (rec ∷ all) (rec ∷ log)
    by None at = rw (at, none) refl
    by (Some place) at = rw at (sym (shift all rec (is_end_of tid rec) place (last_place (is_end_of tid) log)))

-- in front of these votes none of it stands
none_more : (tid : Tid) (server : ServerNo) (vote : Prepared) (votes : List Prepared) (b : Bool) → is_vote_of tid server vote ≡ false → changes_among tid server ((if b then vote ∷ [] else []) ++ votes) ≡ changes_among tid server votes
none_more tid server vote votes true none = rw none refl
none_more tid server vote votes false none = refl

-- a vote of it
hits : (tid : Tid) (server : ServerNo) (covers : ℕ) (changes : List Op) (log rest : List Record) → changes_among tid server (open_prepares log) ≡ at_place tid server (log ++ rest) log
    → changes_among tid server (open_at tid server covers changes log ++ open_prepares log) ≡ at_place tid server (records.Prepare tid server covers changes ∷ (log ++ rest)) (records.Prepare tid server covers changes ∷ log)
hits tid server covers changes log rest more = by (last_place (is_prepare_of tid server) log) refl (last_place (is_end_of tid) log) refl
  where
    is_its : is_prepare_of tid server (records.Prepare tid server covers changes) ≡ true
    is_its = rw (same_tid-self tid, self server.0) refl

    by : (p : Option ℕ) → last_place (is_prepare_of tid server) log ≡ p → (e : Option ℕ) → last_place (is_end_of tid) log ≡ e
        → changes_among tid server (open_at tid server covers changes log ++ open_prepares log) ≡ at_place tid server (records.Prepare tid server covers changes ∷ (log ++ rest)) (records.Prepare tid server covers changes ∷ log)
    by (Some place) at e end =
        rw (any_place (is_prepare_of tid server) log ∙ ap is_some at, at)
        (more ∙ ap (λ (o : Option ℕ). changes_in (log ++ rest) (pending_place o (last_place (is_end_of tid) log))) at ∙ sym (shift (log ++ rest) (records.Prepare tid server covers changes) false place (last_place (is_end_of tid) log)))
    by None at (Some place) end =
        rw (any_place (is_prepare_of tid server) log ∙ ap is_some at, any_place (is_end_of tid) log ∙ ap is_some end, at, end, is_its, first place)
        (more ∙ ap (λ (o : Option ℕ). changes_in (log ++ rest) (pending_place o (last_place (is_end_of tid) log))) at)
    by None at None end =
        rw (any_place (is_prepare_of tid server) log ∙ ap is_some at, any_place (is_end_of tid) log ∙ ap is_some end, at, end, is_its)
        (ap (λ (l : List Op). changes ++ l) (more ∙ ap (λ (o : Option ℕ). changes_in (log ++ rest) (pending_place o (last_place (is_end_of tid) log))) at) ∙ append-nil changes)

-- a vote of another transaction or server
other_vote : (tid : Tid) (server : ServerNo) (t : Tid) (s : ServerNo) → is_prepare_of tid server (records.Prepare t s 0 []) ≡ (same_tid t tid && (s.0 == server.0))
other_vote tid server t s = rw (same_tid-flip tid t, flip server.0 s.0) refl

stands_at : (tid : Tid) (server : ServerNo) (log rest : List Record) → changes_among tid server (open_prepares log) ≡ at_place tid server (log ++ rest) log
stands_at tid server [] rest = refl
stands_at tid server (records.Commit t told ∷ log) rest = stands_at tid server log rest ∙ past tid server (log ++ rest) log (records.Commit t told) refl
stands_at tid server (records.Aborted t ∷ log) rest = stands_at tid server log rest ∙ past tid server (log ++ rest) log (records.Aborted t) refl
stands_at tid server (records.End t ∷ log) rest = stands_at tid server log rest ∙ past tid server (log ++ rest) log (records.End t) refl
stands_at tid server (records.Prepare t s covers changes ∷ log) rest = by (same_tid t tid && (s.0 == server.0)) refl (stands_at tid server log rest)
  where
    vote : Prepared
    vote = record { tid = t; server = s; covers = covers; changes = changes; committed = list_any (is_listed_of t) log }

    by : (b : Bool) → (same_tid t tid && (s.0 == server.0)) ≡ b → changes_among tid server (open_prepares log) ≡ at_place tid server (log ++ rest) log
        → changes_among tid server (open_at t s covers changes log ++ open_prepares log) ≡ at_place tid server (records.Prepare t s covers changes ∷ (log ++ rest)) (records.Prepare t s covers changes ∷ log)
    by false other more =
        none_more tid server vote (open_prepares log) (not (list_any (is_prepare_of t s) log) && not (list_any (is_end_of t) log)) other
        ∙ more ∙ past tid server (log ++ rest) log (records.Prepare t s covers changes) (other_vote tid server t s ∙ other)
    by true same more =
        subst (λ (x : Tid). changes_among tid server (open_at x s covers changes log ++ open_prepares log) ≡ at_place tid server (records.Prepare x s covers changes ∷ (log ++ rest)) (records.Prepare x s covers changes ∷ log)) (sym (same_tid-exact t tid (and_left _ _ same)))
        (subst (λ (x : ServerNo). changes_among tid server (open_at tid x covers changes log ++ open_prepares log) ≡ at_place tid server (records.Prepare tid x covers changes ∷ (log ++ rest)) (records.Prepare tid x covers changes ∷ log)) (sym (same_server-exact s server (and_right _ _ same)))
        (hits tid server covers changes log rest more))

-- what a Commit commits, where the log goes on
pub changes_before : (server : ServerNo) (tid : Tid) (log rest : List Record) → changes_at server tid (recovery log) ≡ at_place tid server (log ++ rest) log
changes_before server tid log rest = ap (changes_among tid server) (prepared_open log) ∙ stands_at tid server log rest
