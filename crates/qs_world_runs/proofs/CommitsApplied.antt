-- Which Commits of a log a restart applies, and with which changes, goes by what is on record of them; where nothing is, none of them.
use Rattle.qs_world_runs.proofs.Words.{◌≡◌, ℕ, ◌&&◌, ◌||◌, ◌==◌, ◌++◌, not, Bool, true, false, List, [], ◌∷◌, Option, Some, None, fold, refl, sym, ap, subst, ◌∙◌, if◌then◌else◌, is_some, flat_map-append, slice_get, same_tid, same_tid-self, Tid, BookValue, changes_of, record_of, commits_found, is_among, record_at, OnRecord, applied, Op, Recovery, Every, HoldsSaid, IsMadeBy, or_left, or_right}
use Rattle.std.proofs.Common.{flat_map}
use Rattle.qs_book_machine.specs.Nodes as machine
use Rattle.qs_book_machine.specs.Restart.{add_commit, changes_at, has_record}
use Rattle.qs_ops.specs.Servers.{audit_no, files_no}
use Rattle.qs_world_runs.proofs.BatchContents.{Applies}

-- what holds of all that are among some, holds of each of them
pub every_self : (P : Tid → Type 0) (tids : List Tid) → ((tid : Tid) → is_among tids tid ≡ true → P tid) → Every P tids
every_self P [] gives = tt
every_self P (t ∷ tids) gives = (gives t (or_left (same_tid t t) (is_among tids t) (same_tid-self t)), every_self P tids (λ u is. gives u (or_right (same_tid u t) (is_among tids u) is)))

-- where nothing is on record
none_found : (here : ℕ) (book : BookValue) (changes : Tid → List Op) (done : List Tid) → Every (λ (tid : Tid). changes tid ≡ []) done → flat_map changes (commits_found here book done) ≡ []
none_found here book changes done all = from done [] all refl
  where
    more : (tid : Tid) (acc : List Tid) → changes tid ≡ [] → flat_map changes acc ≡ [] → (b : Bool) → flat_map changes (if b then acc ++ tid ∷ [] else acc) ≡ []
    more tid acc none empty true = flat_map-append changes acc (tid ∷ []) ∙ rw (empty, none) refl
    more tid acc none empty false = empty

    from : (tids acc : List Tid) → Every (λ (tid : Tid). changes tid ≡ []) tids → flat_map changes acc ≡ [] → flat_map changes (fold (add_commit here book) acc tids) ≡ []
    from [] acc all empty = empty
    from (t ∷ tids) acc all empty = from tids (add_commit here book acc t) all.1 (more t acc all.0 empty (has_record here book t && not (is_among acc t)))

pub nothing_applied : (here : ℕ) (book : BookValue) (state : machine.NodeValue) (there : slice_get book.nodes here ≡ Some state) (log : Recovery) → HoldsSaid here book state log → Applies here book state there log
nothing_applied here book state there log said = record {
  files = subst (λ (ops : List Op). IsMadeBy (applied state.files ops) log.files) (sym (nothing files_no refl)) (record { contents = said.files.contents; notes = said.files.notes });
  audit = subst (λ (ops : List Op). IsMadeBy (applied state.audit ops) log.audit) (sym (nothing audit_no refl)) (record { contents = said.audit.contents; notes = said.audit.notes });
}
  where
    nothing : (server : ℕ) → ((server == 0) || (server == 1)) ≡ true → flat_map (changes_at here book server) (commits_found here book log.committed) ≡ []
    nothing server keeps = none_found here book (changes_at here book server) log.committed (every_self (λ (tid : Tid). changes_at here book server tid ≡ []) log.committed
        (λ tid among. ap (λ (o : Option machine.NodeValue). changes_of (elim o [ None ↦ None | Some node ↦ record_of node tid server ])) there ∙ ap changes_of (said.gone tid server keeps among)))

-- where the same is on record
module _ (here : ℕ) (new old : BookValue) where
  abbrev pub IsSame : Tid → Type 0
  IsSame tid = (server : ℕ) → record_at here new tid server ≡ record_at here old tid server

  same_from : (done acc : List Tid) → Every IsSame done → fold (add_commit here new) acc done ≡ fold (add_commit here old) acc done
  same_from [] acc all = refl
  same_from (t ∷ done) acc all = ap (λ (ts : List Tid). fold (add_commit here new) ts done) one ∙ same_from done (add_commit here old acc t) all.1
    where
      has : has_record here new t ≡ has_record here old t
      has = ap (λ (o : Option OnRecord). is_some o || is_some (record_at here new t audit_no)) (all.0 files_no) ∙ ap (λ (o : Option OnRecord). is_some (record_at here old t files_no) || is_some o) (all.0 audit_no)

      one : add_commit here new acc t ≡ add_commit here old acc t
      one = ap (λ (b : Bool). if b && not (is_among acc t) then acc ++ t ∷ [] else acc) has

  kept_from : (P : Tid → Type 0) (done acc : List Tid) → Every P done → Every P acc → Every P (fold (add_commit here old) acc done)
  kept_from P [] acc all some = some
  kept_from P (t ∷ done) acc all some = kept_from P done (add_commit here old acc t) all.1 (by (has_record here old t && not (is_among acc t)))
    where
      behind : (ts : List Tid) → Every P ts → Every P (ts ++ t ∷ [])
      behind [] s = (all.0, tt)
      behind (u ∷ ts) s = (s.0, behind ts s.1)

      by : (b : Bool) → Every P (if b then acc ++ t ∷ [] else acc)
      by true = behind acc some
      by false = some

  same_each : (server : ℕ) (tids : List Tid) → Every IsSame tids → flat_map (changes_at here new server) tids ≡ flat_map (changes_at here old server) tids
  same_each server [] all = refl
  same_each server (t ∷ tids) all = ap (λ (o : Option OnRecord). changes_of o ++ flat_map (changes_at here new server) tids) (all.0 server) ∙ ap (λ (ops : List Op). changes_at here old server t ++ ops) (same_each server tids all.1)

  pub same_applied : (server : ℕ) (done : List Tid) → Every IsSame done → flat_map (changes_at here new server) (commits_found here new done) ≡ flat_map (changes_at here old server) (commits_found here old done)
  same_applied server done all = ap (λ (ts : List Tid). flat_map (changes_at here new server) ts) (same_from done [] all) ∙ same_each server (commits_found here old done) (kept_from IsSame done [] all tt)
