-- A restart of another node leaves what a node that is down will find as it restarts itself; and so all that is held of any other node.
use Rattle.qs_world_lawful.proofs.Words.{◌≡◌, ℕ, ◌≤◌, ◌==◌, ◌&&◌, ◌++◌, not, Bool, false, List, [], ◌∷◌, flat_map, Option, Some, None, fold, refl, sym, ap, subst, ◌∙◌, if◌then◌else◌, slice_get, NodeNo, Tid, Found, changed_at_here, BookValue, find_transaction, pending_in, add_commit, commits_found, could_vote, has_record, is_among, is_new_vote, is_on_record, member_at, new_vote, new_votes, record_at, with_votes, TransactionValue, OnRecord, Voter, Part, applied, Op, Recovery, recovery, Host}
use Rattle.qs_world_lawful.proofs.Words.{StandsIn, found_votes, HoldsLeft, IsMadeBy, IsRecorded, IsToBeRecorded, book_found, HoldsDown, HoldsNodeOf, HoldsUp}
use Rattle.qs_book_machine.specs.Nodes as machine
use Rattle.qs_book_machine.specs.Restart.{changes_at}
use Rattle.qs_book_machine.specs.Transaction.{part_of}
use Rattle.qs_ops.specs.Servers.{audit_no, files_no}
use Rattle.qs_world_lawful.specs.Said.{IsUndone}
use Rattle.qs_world_lawful.proofs.LogFrames.{every_on}
use Rattle.qs_world_lawful.proofs.OthersLog.{could_same, host_on, kept_on, recorded_on, said_on, stands_on, stopped_on, undone_on}
use Rattle.qs_world_lawful.proofs.OthersRise.{holds_on, nodes_same}
use Rattle.qs_world_lawful.proofs.RestoredRecords.{new_votes_are}
use Rattle.qs_world_lawful.proofs.RestoredTid.{Restarts, goes, new, none}

module _ (book : BookValue) (risen : NodeNo) (stamp inc : ℕ) (log : Recovery) (state : machine.NodeValue) (r : Restarts book risen inc log state) (n : ℕ) (far : (n == risen.0) ≡ false) (near : (risen.0 == n) ≡ false) where
  abbrev now : BookValue
  now = new book risen stamp inc log state r

  module _ (s : machine.NodeValue) (there : slice_get book.nodes n ≡ Some s) (low : s.stopped ≤ book.place) (said : Recovery) where
    there_now : slice_get now.nodes n ≡ Some s
    there_now = nodes_same book risen stamp inc log state r n far near ∙ there

    -- what a vote that is found makes is the same
    one_same : (f : Found) → new_vote n now s f ≡ new_vote n book s f
    one_same f = by (find_transaction book f.tid) refl
      where
        made : Option TransactionValue → List (Voter × OnRecord)
        made o = if is_new_vote n s o f then (machine.voter f.tid f.server.0, record { changes = machine.pending_at s f.tid f.server.0; covers = f.covers; pending = pending_in o (member_at n f.server.0) s.inc }) ∷ [] else []

        with_count : Bool → ℕ → List (Voter × OnRecord)
        with_count b count = if not (is_on_record s f) && b then (machine.voter f.tid f.server.0, record { changes = machine.pending_at s f.tid f.server.0; covers = f.covers; pending = count }) ∷ [] else []

        by : (o : Option TransactionValue) → find_transaction book f.tid ≡ o → new_vote n now s f ≡ new_vote n book s f
        by None is = ap made (none book risen stamp inc log state r f.tid is ∙ sym is)
        by (Some tx) is =
            let p = goes book risen stamp inc log state r f.tid tx is in
            ap made p.1
            ∙ (ap (λ (b : Bool). with_count b (part_of p.0 (member_at n f.server.0) s.inc).pending) (could_same book risen stamp inc log state r n far near f.tid tx p.0 p.2 s low f)
            ∙ (ap (λ (q : Part). with_count (could_vote n s tx f) q.pending) (p.2.parts (member_at n f.server.0) s.inc (rw far refl)) ∙ sym (ap made is)))

    all_same : (fs : List Found) → flat_map (new_vote n now s) fs ≡ flat_map (new_vote n book s) fs
    all_same [] = refl
    all_same (f ∷ fs) = ap (λ (v : List (Voter × OnRecord)). v ++ flat_map (new_vote n now s) fs) (one_same f) ∙ ap (λ (v : List (Voter × OnRecord)). new_vote n book s f ++ v) (all_same fs)

    votes_same : new_votes n now (found_votes said) ≡ new_votes n book (found_votes said)
    votes_same = new_votes_are n now s (found_votes said) there_now ∙ (all_same (found_votes said) ∙ sym (new_votes_are n book s (found_votes said) there))

    abbrev mid : BookValue
    mid = book_found n book said

    abbrev mid_now : BookValue
    mid_now = book_found n now said

    record_same : (tid : Tid) (server : ℕ) → record_at n mid_now tid server ≡ record_at n mid tid server
    record_same tid server = ap found_at (changed_at_here (with_votes (new_votes n now (found_votes said))) now.nodes n s there_now)
        ∙ (ap (λ (votes : List (Voter × OnRecord)). machine.record_of (with_votes votes s) tid server) votes_same
        ∙ sym (ap found_at (changed_at_here (with_votes (new_votes n book (found_votes said))) book.nodes n s there)))
      where
        found_at : Option machine.NodeValue → Option OnRecord
        found_at o = elim o [ None ↦ None | Some node ↦ machine.record_of node tid server ]

    has_same : (tid : Tid) → has_record n mid_now tid ≡ has_record n mid tid
    has_same tid = rw (record_same tid files_no, record_same tid audit_no) refl

    found_same : (done some : List Tid) → fold (add_commit n mid_now) some done ≡ fold (add_commit n mid) some done
    found_same [] some = refl
    found_same (t ∷ done) some = ap (λ (b : Bool). fold (add_commit n mid_now) (if b && not (is_among some t) then some ++ t ∷ [] else some) done) (has_same t) ∙ found_same done (add_commit n mid some t)

    changes_same : (server : ℕ) (tids : List Tid) → flat_map (changes_at n mid_now server) tids ≡ flat_map (changes_at n mid server) tids
    changes_same server [] = refl
    changes_same server (t ∷ tids) = ap (λ (o : Option OnRecord). machine.changes_of o ++ flat_map (changes_at n mid_now server) tids) (record_same t server) ∙ ap (λ (ops : List Op). changes_at n mid server t ++ ops) (changes_same server tids)

    applied_same : (server : ℕ) → flat_map (changes_at n mid_now server) (commits_found n mid_now said.committed) ≡ flat_map (changes_at n mid server) (commits_found n mid said.committed)
    applied_same server = changes_same server (commits_found n mid_now said.committed) ∙ ap (flat_map (changes_at n mid server)) (found_same said.committed [])

    pub left_on : HoldsLeft n book s said → HoldsLeft n now s said
    left_on h = record {
      files = subst (λ (ops : List Op). IsMadeBy (applied s.files ops) said.files) (sym (applied_same files_no)) h.files;
      audit = subst (λ (ops : List Op). IsMadeBy (applied s.audit ops) said.audit) (sym (applied_same audit_no)) h.audit;
      recorded = every_on (IsToBeRecorded n book said) (IsToBeRecorded n now said) (λ v is names clear. subst (λ (o : Option OnRecord). IsRecorded n now o v) (sym (record_same v.tid v.server.0)) (recorded_on book risen stamp inc log state r n far near (record_at n mid v.tid v.server.0) v (is names clear))) said.prepared h.recorded;
      apart = h.apart;
      undone = every_on (IsUndone n book) (IsUndone n now) (undone_on book risen stamp inc log state r n far near) said.prepared h.undone;
    }

  -- ---- all of it

  pub node_on : (size i : ℕ) (up : Bool) (host : Host) → ((s : machine.NodeValue) → slice_get book.nodes n ≡ Some s → s.stopped ≤ book.place) → HoldsNodeOf book size n i up host → HoldsNodeOf now size n i up host
  node_on size i up host low h = record {
    state = h.state;
    there = nodes_same book risen stamp inc log state r n far near ∙ h.there;
    up_is = h.up_is;
    inc_is = h.inc_is;
    node = h.node;
    run = h.run;
    format = h.format;
    accepted = h.accepted;
    kept = kept_on book risen stamp inc log state r n far near host.node.setting.node h.node i host.node.kept.saved h.kept;
    runs = λ is. let u : HoldsUp n book h.state host = h.runs is in record {
      still = holds_on book risen stamp inc log state r n far near host.node h.node u.still;
      log = host_on book risen stamp inc log state r n far near host.node.manager host.log host.waiting u.log;
      said = said_on book risen stamp inc log state r n far near h.state (recovery (host.log ++ host.waiting)) u.said;
      on_disk = said_on book risen stamp inc log state r n far near h.state (recovery host.log) u.on_disk;
    };
    stopped = λ is. let d : HoldsDown n book h.state host = h.stopped is in record {
      log = stopped_on book risen stamp inc log state r n far near h.state (low h.state h.there) (recovery host.log) d.log;
      stands = every_on (StandsIn book) (StandsIn now) (λ v stands. stands_on book risen stamp inc log state r n far near v.tid stands) (recovery host.log).prepared d.stands;
      marked = d.marked;
      left = left_on h.state h.there (low h.state h.there) (recovery host.log) d.left;
      nothing_waits = d.nothing_waits;
    };
  }
