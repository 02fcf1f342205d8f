-- What is on record of a node that runs is of a transaction that the machine has: it is aborted, or the log has its Commit, or a vote of it.
use Rattle.qs_world_runs.proofs.Words.{◌≡◌, inl, inr, ℕ, ◌||◌, Bool, true, false, List, [], ◌∷◌, Option, Some, None, is_none, is_some, refl, sym, ap, subst, ◌∙◌, list_any, same_tid, same_tid-true, Tid, Found, BookValue, cell_of_transaction, find_transaction, is_among, is_found_as, TransactionValue, OnRecord, extra_no, Prepared, Recovery, names_transaction, HasCommitted, HoldsLogged, IsRecordSafe, StandsIn, Every, found_votes, every_filter, every_map, left_true}
use Rattle.qs_book_machine.specs.Clauses.{has_no_record}
use Rattle.qs_book_machine.specs.Nodes as machine
use Rattle.qs_ops.specs.Servers.{audit_no, files_no}
use Rattle.qs_restart.specs.Recovery.{open_vote}
use Rattle.qs_world.specs.Moves as moves

module _ (here : ℕ) (book : BookValue) (state : machine.NodeValue) (log : Recovery) (h : HoldsLogged here book state log) (committed : (tid : Tid) → is_among log.committed tid ≡ true → HasCommitted book tid) (tid : Tid) (nothing : find_transaction book tid ≡ None) where
  abbrev Stands : Found → Type 0
  Stands found = is_some (find_transaction book found.tid) ≡ true

  all_stand : Every Stands (found_votes log)
  all_stand = every_map (λ v. is_some (find_transaction book v.tid) ≡ true) Stands moves.found_of (λ v is. is) _
      (every_map (StandsIn book) (λ v. is_some (find_transaction book v.tid) ≡ true) open_vote (λ v is. is) _ (every_filter (StandsIn book) (λ (vote : Prepared). names_transaction vote.tid) log.prepared h.stands))

  no_cell : (o : Option TransactionValue) → o ≡ None → is_some (cell_of_transaction o) ≡ false
  no_cell o is = ap (λ (x : Option TransactionValue). is_some (cell_of_transaction x)) is

  module _ (server : ℕ) (rec : OnRecord) where
    none_found : (founds : List Found) → Every Stands founds → list_any (is_found_as (machine.voter tid server) rec.covers) founds ≡ true → ⊥
    none_found [] all any = cc any
    none_found (f ∷ founds) all any = by (is_found_as (machine.voter tid server) rec.covers f) refl any (none_found founds all.1)
      where
        by : (b : Bool) → is_found_as (machine.voter tid server) rec.covers f ≡ b → (b || list_any (is_found_as (machine.voter tid server) rec.covers) founds) ≡ true → (list_any (is_found_as (machine.voter tid server) rec.covers) founds ≡ true → ⊥) → ⊥
        by false is more rest = rest more
        by true is more rest =
            let same : f.tid ≡ tid = same_tid-true f.tid tid (left_true (same_tid f.tid tid) _ is) in
            cc (sym (ap is_some nothing) ∙ subst (λ (t : Tid). is_some (find_transaction book t) ≡ true) same all.0)

    none_safe : IsRecordSafe book log (machine.voter tid server) rec.covers → ⊥
    none_safe (inl aborted) = cc (sym (no_cell (find_transaction book tid) nothing) ∙ ap is_some aborted)
    none_safe (inr (inl among)) = cc (sym (no_cell (find_transaction book tid) nothing) ∙ ap is_some (committed tid among))
    none_safe (inr (inr found)) = none_found (found_votes log) all_stand found

  none_at : (server : ℕ) → is_none (machine.record_of state tid server) ≡ true
  none_at server = by (machine.record_of state tid server) refl
    where
      by : (o : Option OnRecord) → machine.record_of state tid server ≡ o → is_none (machine.record_of state tid server) ≡ true
      by None is = ap is_none is
      by (Some rec) is = absurd (none_safe server rec (h.kept tid server rec is))

  pub records_stand : has_no_record state tid ≡ true
  records_stand = rw (none_at files_no, none_at audit_no, none_at extra_no) refl
