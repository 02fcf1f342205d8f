-- A node stops, in place of a step or in one whose batch is lost: what its log says on the disk is what a restart will find, and no more.
use Rattle.qs_world_lawful.proofs.Words.{◌≡◌, inl, inr, ℕ, ◌<◌, ◌==◌, ◌&&◌, ◌||◌, ◌++◌, not, Bool, true, false, List, [], ◌∷◌, flat_map, Option, Some, None, fold, refl, sym, ap, subst, ◌∙◌, if◌then◌else◌, is_some, nat_lt, flat_map-append, slice_get, lookup, is_at, same_tid, tid_cmp, same_tid-self, ClientNo, NodeNo, Tid, CrashCause, Entry, Found, Decided, changed_at_here, keeps_contents, BookValue, cell_of_transaction, crash_node, find_transaction, has_vote, is_crash, broken, effect, record_of}
use Rattle.qs_world_lawful.proofs.Words.{add_commit, commits_found, could_vote, has_record, is_among, is_new_vote, is_on_record, new_vote, new_votes, put_new_votes, record_at, with_votes, TransactionValue, is_commit, OnRecord, Voter, Cell, applied, Op, Record, Prepared, Recovery, recovery, stopped, stopped_host, entry_of, Host, World, inc_of, HasEnded, IsOwner, MayBeTold, Lasts, HasCommitted, HoldsLogged, IsCommitMade, Later, Every, IsVoteLogged, found_of, found_votes, HoldsLeft, HoldsSaid}
use Rattle.qs_world_lawful.proofs.Words.{IsMadeBy, IsApart, IsAsRecorded, IsRecorded, IsToBeRecorded, HoldsDown, HoldsKept, HoldsNodeAt, HoldsNodeOf, HoldsUp, HoldsWorld, IsLeftOpen, IsLoanOf, IsOpenStill, lt-ltb, and_right, or_left, or_right, ltb-true, and_parts, eqb-self}
use Rattle.qs_book_journal.specs.declared.entry.Act.TheVariants as acts
use Rattle.qs_node_kept.specs.declared.kept.Kept.{Kept}
use Rattle.qs_book_machine.specs.Nodes as machine
use Rattle.qs_book_machine.specs.Restart.{changes_at, vote_as_stopped}
use Rattle.qs_book_machine.specs.Transaction.{is_before, was_committed, was_in_commit}
use Rattle.qs_book_machine.specs.declared.transaction.Cell.TheVariants as cells
use Rattle.qs_ops.specs.Servers.{audit_no, files_no}
use Rattle.qs_ops.specs.declared.vote.Vote.TheVariants as votes
use Rattle.qs_world.specs.Moves.{is_in_order}
use Rattle.qs_world.specs.Moves as moves
use Rattle.qs_world_lawful.proofs.LogCrashes.{may_crash}
use Rattle.qs_world_lawful.proofs.LogCrashes as crashes
use Rattle.qs_world_lawful.proofs.LogFrames.{every_on, logged_on}
use Rattle.qs_world_lawful.proofs.LearntOn.{learnt_self}
use Rattle.qs_world_lawful.proofs.RestoredRecords.{found_of_all, new_votes_are}
use Rattle.qs_world_lawful.proofs.FoundMembers.{every_among, every_two}
use Rattle.qs_world_lawful.proofs.Still.{held_at}

-- ---- what is kept for clients, where the transactions and the owners are the same

pub kept_same : (here : NodeNo) (inc : ℕ) (old new : BookValue) → new.transactions ≡ old.transactions → new.owners ≡ old.owners → (kept : Kept) → HoldsKept here inc old kept → HoldsKept here inc new kept
kept_same here inc old new txs owners kept h = record {
  owners = λ label begun tid client labelled is owned. own tid client (h.owners label begun tid client labelled is owned);
  outcomes = λ tid d is. ended tid d (h.outcomes tid d is);
  undecided = every_on (IsLeftOpen here old kept.outcomes) (IsLeftOpen here new kept.outcomes) (λ b left tid is home none. open_still tid (left tid is home none)) kept.labels h.undecided;
  loans = every_on (IsLoanOf old inc) (IsLoanOf new inc) (λ loan l. record { stands = ap is_some (there loan.tid) ∙ l.stands; made = l.made }) kept.loans h.loans;
}
  where
    there : (tid : Tid) → find_transaction new tid ≡ find_transaction old tid
    there tid = ap (λ (es : List (Tid × TransactionValue)). lookup (is_at (tid_cmp tid)) es) txs

    own : (tid : Tid) (client : ClientNo) → IsOwner old tid client → IsOwner new tid client
    own tid client o = record { tx = o.tx; found = there tid ∙ o.found; owns = o.owns }

    told : (client : ClientNo) (d : Decided) → MayBeTold old client d → MayBeTold new client d
    told client d m = record { owner = m.owner; there = ap (λ os. slice_get os client.0) owners ∙ m.there; known = m.known }

    ended : (tid : Tid) (d : Decided) → HasEnded old tid d → HasEnded new tid d
    ended tid d e = record { tx = e.tx; found = there tid ∙ e.found; as_kept = e.as_kept; told = λ client owned. told client d (e.told client owned) }

    open_still : (tid : Tid) → IsOpenStill old tid → IsOpenStill new tid
    open_still tid o = record { tx = o.tx; found = there tid ∙ o.found; undecided = o.undecided; owned = λ client is. ap (λ os. is_some (slice_get os client.0)) owners ∙ o.owned client is }

-- ---- nothing new is found

none_new : (here : ℕ) (book : BookValue) (state : machine.NodeValue) (fs : List Found) → Every (λ (f : Found). is_new_vote here state (find_transaction book f.tid) f ≡ false) fs → flat_map (new_vote here book state) fs ≡ []
none_new here book state [] all = refl
none_new here book state (f ∷ fs) all = subst (λ (b : Bool). (if b then (machine.voter f.tid f.server.0, vote_as_stopped here book state f) ∷ [] else []) ++ flat_map (new_vote here book state) fs ≡ []) (sym all.0) (none_new here book state fs all.1)

-- of Commits none of which has changes, no changes are found
none_found : (here : ℕ) (book : BookValue) (changes : Tid → List Op) (done : List Tid) → Every (λ (tid : Tid). changes tid ≡ []) done → flat_map changes (commits_found here book done) ≡ []
none_found here book changes done all = from done [] all refl
  where
    more : (tid : Tid) (acc : List Tid) → changes tid ≡ [] → flat_map changes acc ≡ [] → (b : Bool) → flat_map changes (if b then acc ++ tid ∷ [] else acc) ≡ []
    more tid acc none empty true = flat_map-append changes acc (tid ∷ []) ∙ rw (empty, none) refl
    more tid acc none empty false = empty

    from : (tids acc : List Tid) → Every (λ (tid : Tid). changes tid ≡ []) tids → flat_map changes acc ≡ [] → flat_map changes (fold (add_commit here book) acc tids) ≡ []
    from [] acc all empty = empty
    from (t ∷ tids) acc all empty = from tids (add_commit here book acc t) all.1 (more t acc all.0 empty (has_record here book t && not (is_among acc t)))

-- ---- the whole

module _ (book : BookValue) (world : World) (n stamp : ℕ) (cause : CrashCause) (lasts : Lasts book) (h : HoldsWorld book world) (up : world.channels.up n ≡ true) (ordered : is_in_order world n stamp ≡ true) (crash : is_crash cause ≡ true) (disk : List Record) where
  in_run : n < world.size
  in_run = ltb-true n world.size (and_parts (nat_lt n world.size) (nat_lt stamp moves.stamp_limit) (and_parts (nat_lt n world.size && nat_lt stamp moves.stamp_limit) _ ordered).0).0

  pub at : HoldsNodeAt book world n
  at = h.nodes n in_run

  pub u : HoldsUp n book at.state (world.hosts n)
  u = at.runs up

  abbrev log : Recovery
  log = recovery disk

  abbrev entry : Entry
  entry = entry_of n stamp (acts.Crash cause)

  abbrev pub now : BookValue
  now = effect book entry

  abbrev pub state_now : machine.NodeValue
  state_now = crash_node book.place at.state

  lawful : broken book entry ≡ None
  lawful = subst (λ (k : ℕ). broken book (entry_of k stamp (acts.Crash cause)) ≡ None) at.node (may_crash stamp book (world.hosts n).node (held_at n stamp book (world.hosts n).node at.node u.still (h.order n stamp ordered)) cause crash)

  there_now : slice_get now.nodes n ≡ Some state_now
  there_now = changed_at_here (crash_node book.place) book.nodes n at.state at.there

  abbrev pub host : Host
  host = stopped_host stamp disk (world.hosts n)

  node_now : HoldsDown n now state_now host → HoldsNodeOf now world.size n (inc_of world n) false host
  node_now down = record {
    state = state_now;
    there = there_now;
    up_is = refl;
    inc_is = at.inc_is;
    node = at.node;
    run = at.run;
    format = at.format;
    accepted = at.accepted;
    kept = kept_same (world.hosts n).node.setting.node (inc_of world n) book now refl refl (world.hosts n).node.kept.saved at.kept;
    runs = λ is. absurd (cc is);
    stopped = λ is. down;
  }

  -- the entry is lawful, and the machine has the node that is down, where it has what its log says
  pub stops_by : HoldsDown n now state_now host → (broken book entry ≡ None) × HoldsNodeAt now (stopped world n stamp cause disk) n
  stops_by down = (lawful, subst (λ (b : Bool). HoldsNodeOf now world.size n (inc_of world n) (if b then false else world.channels.up n) (if b then host else world.hosts n)) (sym (eqb-self n)) (node_now down))

  -- a log that has nothing new
  module _ (logged : HoldsLogged n book at.state log) (said : HoldsSaid n book at.state log) where
    later : Later book now
    later = record { aborted = λ tid is. is; committed = λ tid is. is; learnt = learnt_self book }

    logged_now : HoldsLogged n now state_now log
    logged_now = logged_on n book now at.state state_now log later refl refl logged

    -- ---- nothing that the log says is new

    known_committed : (tid : Tid) → is_among log.committed tid ≡ true → HasCommitted book tid
    known_committed tid among = by (every_among (IsCommitMade book at.state) log.committed tid logged.commits among)
      where
        own : slice_get book.nodes n ≡ Some at.state
        own = at.there

        by : IsCommitMade book at.state tid → HasCommitted book tid
        by (inl opening) = (lasts.nodes (record { 0 = n }) at.state own).committed tid opening
        by (inr is) = is

    not_new : (v : Prepared) → IsVoteLogged n book at.state log v → is_new_vote n state_now (find_transaction now v.tid) (found_of v) ≡ false
    not_new v (inl on) = of (find_transaction book v.tid)
      where
        of : (o : Option TransactionValue) → is_new_vote n state_now o (found_of v) ≡ false
        of None = refl
        of (Some tx) = rw on refl
    not_new v (inr applied) = ap (λ (o : Option TransactionValue). is_new_vote n state_now o (found_of v)) applied.found ∙ clear
      where
        cell : applied.tx.cell ≡ cells.Commit
        cell = ap (λ (o : Option Cell). elim o [ None ↦ cells.Commit | Some c ↦ c ]) (sym (ap cell_of_transaction applied.found) ∙ known_committed v.tid applied.has_commit)

        before : (o : Option ℕ) → applied.tx.decided ≡ o → (is_commit applied.tx.cell && (not (is_some o) || is_before book.place o)) ≡ true
        before None e = rw cell refl
        before (Some p) e = rw cell (lt-ltb p book.place (lasts.past v.tid applied.tx p applied.found e))

        past : was_committed book.place applied.tx ≡ true
        past = before applied.tx.decided refl

        between : (a b c : Bool) → b ≡ false → (a && (b && c)) ≡ false
        between true true c e = absurd (cc e)
        between true false c e = refl
        between false b c e = refl

        in_commit : was_in_commit book.place applied.tx ≡ false
        in_commit = and_right (is_before book.place applied.tx.asked) (not (was_committed book.place applied.tx)) (ap not past)

        clear : (not (is_on_record state_now (found_of v)) && could_vote n state_now applied.tx (found_of v)) ≡ false
        clear = and_right (not (is_on_record state_now (found_of v))) (could_vote n state_now applied.tx (found_of v)) (between (has_vote v.server.0 votes.Recoverable) (was_in_commit book.place applied.tx) _ in_commit)

    votes_none : new_votes n now (found_votes log) ≡ []
    votes_none = new_votes_are n now state_now (found_votes log) there_now ∙ none_new n now state_now (found_votes log)
        (found_of_all (λ (f : Found). is_new_vote n state_now (find_transaction now f.tid) f ≡ false) log (every_on (IsVoteLogged n book at.state log) (λ (v : Prepared). is_new_vote n state_now (find_transaction now v.tid) (found_of v) ≡ false) not_new log.prepared logged.votes))

    abbrev mid : BookValue
    mid = put_new_votes n (found_votes log) now

    record_is : (tid : Tid) (s : ℕ) → record_at n mid tid s ≡ record_of at.state tid s
    record_is tid s = ap (λ (o : Option machine.NodeValue). elim o [ None ↦ None | Some node ↦ record_of node tid s ]) (changed_at_here (with_votes (new_votes n now (found_votes log))) now.nodes n state_now there_now)
        ∙ ap (λ (votes : List (Voter × OnRecord)). record_of (with_votes votes state_now) tid s) votes_none

    gone : (server : ℕ) → keeps_contents server ≡ true → (tid : Tid) → is_among log.committed tid ≡ true → changes_at n mid server tid ≡ []
    gone server keeps tid among = ap machine.changes_of (record_is tid server ∙ said.gone tid server keeps among)

    every_self : (P : Tid → Type 0) (tids : List Tid) → ((tid : Tid) → is_among tids tid ≡ true → P tid) → Every P tids
    every_self P [] gives = tt
    every_self P (t ∷ tids) gives = (gives t (or_left (same_tid t t) (is_among tids t) (same_tid-self t)), every_self P tids (λ u is. gives u (or_right (same_tid u t) (is_among tids u) is)))

    nothing_found : (server : ℕ) → keeps_contents server ≡ true → flat_map (changes_at n mid server) (commits_found n mid log.committed) ≡ []
    nothing_found server keeps = none_found n mid (changes_at n mid server) log.committed (every_self (λ (tid : Tid). changes_at n mid server tid ≡ []) log.committed (gone server keeps))

    recorded : (v : Prepared) → IsVoteLogged n book at.state log v → IsAsRecorded n book at.state v → IsApart log v → IsToBeRecorded n now log v
    recorded v (inr applied) as_recorded apart names clear = absurd (cc (sym (apart names clear) ∙ applied.has_commit))
    recorded v (inl on) as_recorded apart names clear = by (record_of at.state v.tid v.server.0) refl on
      where
        by : (o : Option OnRecord) → record_of at.state v.tid v.server.0 ≡ o → is_on_record at.state (found_of v) ≡ true → IsRecorded n now (record_at n mid v.tid v.server.0) v
        by None none on = absurd (cc (sym (ap (λ (o : Option OnRecord). elim o [ None ↦ false | Some rec ↦ rec.covers == v.covers ]) none) ∙ on))
        by (Some rec) is on =
            let k : IsRecorded n book (Some rec) v = as_recorded clear rec is in
            subst (λ (o : Option OnRecord). IsRecorded n now o v) (sym (record_is v.tid v.server.0 ∙ is)) (record { changes = k.changes; count = k.count })

    left : HoldsLeft n now state_now log
    left = record {
      files = subst (λ (ops : List Op). IsMadeBy (applied at.state.files ops) log.files) (sym (nothing_found files_no refl)) (record { contents = said.files.contents; notes = said.files.notes });
      audit = subst (λ (ops : List Op). IsMadeBy (applied at.state.audit ops) log.audit) (sym (nothing_found audit_no refl)) (record { contents = said.audit.contents; notes = said.audit.notes });
      recorded = every_two (λ (v : Prepared). IsVoteLogged n book at.state log v × IsAsRecorded n book at.state v) (IsApart log) (IsToBeRecorded n now log) (λ v both apart. recorded v both.0 both.1 apart) log.prepared
          (every_two (IsVoteLogged n book at.state log) (IsAsRecorded n book at.state) (λ (v : Prepared). IsVoteLogged n book at.state log v × IsAsRecorded n book at.state v) (λ v a b. (a, b)) log.prepared logged.votes said.recorded) said.apart;
      apart = said.apart;
      undone = said.undone;
    }

    down : HoldsDown n now state_now host
    down = record {
      log = crashes.stopped n now state_now log (lasts.nodes (record { 0 = n }) at.state at.there).tidy logged_now;
      stands = logged_now.stands;
      marked = logged_now.marked;
      left = left;
      nothing_waits = refl;
    }

    -- and it has what a log says that has nothing new
    pub stops_own : (broken book entry ≡ None) × HoldsNodeAt now (stopped world n stamp cause disk) n
    stops_own = stops_by down
