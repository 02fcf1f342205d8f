-- What a server holds after a restart, and after a tick, is what the machine has there.
use Rattle.qs_book_laws.proofs.Words.{◌≡◌, ℕ, Bool, true, false, List, [], ◌∷◌, Some, None, refl, sym, ap, subst, ◌∙◌, fold, if◌then◌else◌, slice_get, Tid, TableValue, kept, restarted, KeptChanges, Entry, Found, BookValue, tick_node, broken, effect, NodeValue, restarted_node, reopened, without_records, put_new_votes, with_votes, new_votes, broken_restart, Reopened}
use Rattle.qs_ops.specs.Server.{ServerValue, is_logged, cleared}
use Rattle.qs_ops.specs.Timers.{TimersValue, ticked}
use Rattle.qs_ops.specs.declared.server.ServerKind.{ServerKind}
use Rattle.qs_ops.specs.declared.server.ServerKind.TheVariants.{Files, Audit, Names, Timers, Windows, Scratch, Nothing}
use Rattle.qs_book_journal.specs.declared.entry.Act.TheVariants as acts
use Rattle.qs_book_laws.specs.Endings.{BeginsEmpty}
use Rattle.qs_book_laws.specs.Standing.{StandsAs, StandsFor, commits_of, kept_of, with_commits, keep_each}
use Rattle.qs_book_laws.proofs.Again.{restart_node, reopened_there, effect_nodes}
use Rattle.qs_book_laws.proofs.Takes.{some_same}

-- ---- what the log does not keep

same_files : (done : List Tid) (node : NodeValue) → (fold without_records node done).files ≡ node.files
same_files [] node = refl
same_files (tid ∷ done) node = same_files done (without_records node tid)

same_audit : (done : List Tid) (node : NodeValue) → (fold without_records node done).audit ≡ node.audit
same_audit [] node = refl
same_audit (tid ∷ done) node = same_audit done (without_records node tid)

cleared_as : (kind : ServerKind) (left : Reopened) (pend : List Found) (done : List Tid) (node : NodeValue) (server : ServerValue) → is_logged kind ≡ false → StandsAs kind (restarted_node left pend done node) (cleared server)
cleared_as (Files quota) left pend done node server h = absurd (cc h)
cleared_as Audit left pend done node server h = absurd (cc h)
cleared_as Names left pend done node server h = refl
cleared_as Timers left pend done node server h = refl
cleared_as Windows left pend done node server h = refl
cleared_as Scratch left pend done node server h = refl
cleared_as Nothing left pend done node server h = tt

pub clearing_stands : (left : Reopened) (pend : List Found) (done : List Tid) (node : NodeValue) (server : ServerValue) → is_logged server.kind ≡ false → StandsAs server.kind (restarted_node left pend done node) (cleared server)
clearing_stands left pend done node server h = cleared_as server.kind left pend done node server h

-- ---- what it keeps

keeps_each : (keeps : List KeptChanges) (server : ServerValue) → is_logged server.kind ≡ true → (keep_each server keeps).table ≡ fold kept server.table keeps
keeps_each [] server h = refl
keeps_each (k ∷ keeps) server h = ap (λ (s : ServerValue). (keep_each s keeps).table) one ∙ keeps_each keeps next h
  where
    next : ServerValue
    next = record server { table = kept server.table k }

    one : (if is_logged server.kind then next else server) ≡ next
    one = ap (λ (b : Bool). if b then next else server) h

kept_as : (kind : ServerKind) (left : Reopened) (pend : List Found) (done : List Tid) (node : NodeValue) (server : ServerValue) → server.kind ≡ kind → is_logged kind ≡ true → StandsAs kind node server
    → StandsAs kind (restarted_node left pend done node) (keep_each (with_commits server (commits_of kind left)) (kept_of kind left))
kept_as (Files quota) left pend done node server is h stands =
    let same : node.files ≡ server.table = some_same node.files server.table stands in
    ap Some (ap (λ (t : TableValue). restarted t left.files left.files_kept) (same_files done node ∙ same)
    ∙ sym (keeps_each left.files_kept (with_commits server left.files) (ap is_logged is)))
kept_as Audit left pend done node server is h stands =
    let same : node.audit ≡ server.table = some_same node.audit server.table stands in
    ap Some (ap (λ (t : TableValue). restarted t left.audit left.audit_kept) (same_audit done node ∙ same)
    ∙ sym (keeps_each left.audit_kept (with_commits server left.audit) (ap is_logged is)))
kept_as Names left pend done node server is h stands = absurd (cc h)
kept_as Timers left pend done node server is h stands = absurd (cc h)
kept_as Windows left pend done node server is h stands = absurd (cc h)
kept_as Scratch left pend done node server is h stands = absurd (cc h)
kept_as Nothing left pend done node server is h stands = absurd (cc h)

pub keeping_stands : (left : Reopened) (pend : List Found) (done : List Tid) (node : NodeValue) (server : ServerValue) → is_logged server.kind ≡ true → StandsFor node server
    → StandsAs server.kind (restarted_node left pend done node) (keep_each (with_commits server (commits_of server.kind left)) (kept_of server.kind left))
keeping_stands left pend done node server h stands = kept_as server.kind left pend done node server refl h stands

-- ---- a tick

pub ticking_stands : (node : NodeValue) (server : ServerValue) (stamp : ℕ) → server.kind ≡ Timers → StandsFor node server → StandsAs Timers (tick_node stamp node) (record server { timers = ticked server.timers })
ticking_stands node server stamp is stands =
    let e : node.timers ≡ server.timers = subst (λ (k : ServerKind). StandsAs k node server) is stands in
    ap (λ (t : TimersValue). ticked t) e

-- ---- the node

pub begins_empty : (book : BookValue) (entry : Entry) (inc : ℕ) (pend : List Found) (done : List Tid) (node : NodeValue) → broken book entry ≡ None → entry.act ≡ acts.Restart inc pend done
    → slice_get (effect book entry).nodes entry.node.0 ≡ Some node → BeginsEmpty node
begins_empty book entry inc pend done node h is there =
    let at : (was : NodeValue) × (slice_get book.nodes entry.node.0 ≡ Some was) × (broken_restart entry.node.0 book was inc pend done ≡ None) = restart_node book entry entry.node.0 inc pend done h is refl in
    let new : NodeValue = restarted_node (reopened entry.node.0 inc pend done (put_new_votes entry.node.0 pend book)) pend done (with_votes (new_votes entry.node.0 book pend) at.0) in
    let last : slice_get (effect book entry).nodes entry.node.0 ≡ Some new =
    ap (λ (nodes : List NodeValue). slice_get nodes entry.node.0) (effect_nodes book entry entry.node.0 inc pend done is refl) ∙ reopened_there entry.node.0 inc pend done book at.0 at.1 in
    subst BeginsEmpty (some_same new node (sym last ∙ there)) (record { names = refl; windows = refl; scratch = refl; timers = refl })
