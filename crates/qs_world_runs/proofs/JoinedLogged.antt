-- The Commits that a node's log had as it opened are the machine's, since its log has them for good.
use Rattle.qs_world_runs.proofs.Words.{◌≡◌, inl, inr, ℕ, ◌||◌, Bool, true, false, List, [], ◌∷◌, Some, refl, sym, subst, list_any, slice_get, same_tid-true, same_tid, Tid, BookValue, recovery, Host, Lasts, HasCommitted, Every, HoldsUp}
use Rattle.qs_book_machine.specs.Nodes as machine
use Rattle.qs_world_lawful.specs.BesideStep.{AreCommitted}
use Rattle.qs_world_lawful.specs.Logged.{IsCommitMade}
use Rattle.qs_world_runs.specs.Joined.{IsLogged}

-- each Commit of the log is the machine's
pub every_made : (book : BookValue) (n : ℕ) (state : machine.NodeValue) → Lasts book → slice_get book.nodes n ≡ Some state → (tids : List Tid) → Every (IsCommitMade book state) tids → (tid : Tid) → list_any (same_tid tid) tids ≡ true → HasCommitted book tid
every_made book n state lasts there [] made tid is = absurd (cc is)
every_made book n state lasts there (t ∷ tids) made tid is = by (same_tid tid t) refl is (every_made book n state lasts there tids made.1 tid)
  where
    of : IsCommitMade book state t → HasCommitted book t
    of (inl among) = (lasts.nodes (record { 0 = n }) state there).committed t among
    of (inr done) = done

    by : (b : Bool) → same_tid tid t ≡ b → (b || list_any (same_tid tid) tids) ≡ true → (list_any (same_tid tid) tids ≡ true → HasCommitted book tid) → HasCommitted book tid
    by true same here rest = subst (HasCommitted book) (sym (same_tid-true tid t same)) (of made.0)
    by false other later rest = rest later

-- what its log had as the node opened, its log has
pub logged_by_log : (book : BookValue) (n : ℕ) (state : machine.NodeValue) (host : Host) → Lasts book → HoldsUp n book state host → IsLogged host.node host.log → AreCommitted book host.node
logged_by_log book n state host lasts up logged tid is = every_made book n up.log.state lasts up.log.there (recovery host.log).committed up.log.on_disk.commits tid (logged tid is)
