-- What another node does that changes no transaction and no owner leaves all that is held of a node, its log too, whether it runs or not.
use Rattle.qs_world_lawful.proofs.Words.{◌≡◌, ◌⊎◌, inl, inr, ℕ, ◌&&◌, ◌++◌, not, Bool, List, [], ◌∷◌, length, flat_map, Option, Some, None, fold, refl, sym, ap, subst, ◌∙◌, if◌then◌else◌, slice_get, ClientNo, Tid, Decided, BookValue, add_commit, commits_found, has_record, is_among, new_votes, record_at, with_votes, OnRecord, Voter, changed_at_here, applied, Op, Record, Prepared, Recovery, recovery, Manager, Host, HasEnded, HoldsClients, HoldsStill, IsBehind, IsOwner, MayBeTold, HoldsHost}
use Rattle.qs_world_lawful.proofs.Words.{HoldsLogged, Later, HoldsStopped, IsCutVote, IsVoteLogged, found_votes, HoldsLeft, HoldsSaid, IsAsRecorded, IsMadeBy, IsRecorded, IsToBeRecorded, book_found, HoldsDown, HoldsNodeOf, HoldsUp}
use Rattle.qs_book_machine.specs.Nodes as machine
use Rattle.qs_book_machine.specs.Restart.{changes_at, new_votes_at}
use Rattle.qs_ops.specs.Servers.{audit_no, files_no}
use Rattle.qs_node_step.specs.State.{NodeValue}
use Rattle.qs_world_lawful.proofs.LearntOn.{learnt_self}
use Rattle.qs_world_lawful.proofs.LogFrames.{every_on, logged_on}
use Rattle.qs_world_lawful.proofs.Marks.{knows_on, knows_self}
use Rattle.qs_world_lawful.proofs.StopsWell.{kept_same}

module _ (old : BookValue) (s m p : ℕ) (ns : List machine.NodeValue) (n : ℕ) (same : slice_get ns n ≡ slice_get old.nodes n) (sized : length ns ≡ length old.nodes) where
  abbrev pub new : BookValue
  new = record old { stamp = s; node = m; place = p; nodes = ns }

  -- ---- a node that runs

  owner_on : (tid : Tid) (client : ClientNo) → IsOwner old tid client → IsOwner new tid client
  owner_on tid client o = record { tx = o.tx; found = o.found; owns = o.owns }

  owner_back : (tid : Tid) (client : ClientNo) → IsOwner new tid client → IsOwner old tid client
  owner_back tid client o = record { tx = o.tx; found = o.found; owns = o.owns }

  behind_on : (client : ClientNo) (line : ℕ) → IsBehind old client line → IsBehind new client line
  behind_on client line b = record { owner = b.owner; there = b.there; less = b.less }

  told_on : (client : ClientNo) (d : Decided) → MayBeTold old client d → MayBeTold new client d
  told_on client d t = record { owner = t.owner; there = t.there; known = t.known }

  ended_on : (tid : Tid) (d : Decided) → HasEnded old tid d → HasEnded new tid d
  ended_on tid d e = record { tx = e.tx; found = e.found; as_kept = e.as_kept; told = λ client owned. told_on client d (e.told client owned) }

  clients_on : (node : NodeValue) → HoldsClients old node → HoldsClients new node
  clients_on node h = record {
    apart = h.apart;
    lines = λ client command is. behind_on client command.line.line (h.lines client command is);
    labels = λ label begun tid client labelled is owned. owner_on tid client (h.labels label begun tid client labelled is owned);
    outcomes = λ tid d is. ended_on tid d (h.outcomes tid d is);
    asking = λ tid client part home known undecided asked owner. h.asking tid client part home known undecided asked (owner_back tid client owner);
  }

  pub holds_on : (node : NodeValue) → node.setting.node.0 ≡ n → HoldsStill old node → HoldsStill new node
  holds_on node here h = record {
    run = sized ∙ h.run;
    state = h.state;
    there = subst (λ (k : ℕ). slice_get ns k ≡ Some h.state) (sym here) (same ∙ subst (λ (k : ℕ). slice_get old.nodes k ≡ Some h.state) here h.there);
    same = h.same;
    at = h.at;
    begun = h.begun;
    clients = clients_on node h.clients;
    servers = h.servers;
    waits = h.waits;
  }

  -- ---- its log

  later : Later old new
  later = record { aborted = λ tid is. is; committed = λ tid is. is; learnt = learnt_self old }

  logged_same : (state : machine.NodeValue) (log : Recovery) → HoldsLogged n old state log → HoldsLogged n new state log
  logged_same state log h = logged_on n old new state state log later refl refl h

  host_on : (manager : Manager) (disk waiting : List Record) → HoldsHost n old manager disk waiting → HoldsHost n new manager disk waiting
  host_on manager disk waiting h = record {
    state = h.state;
    there = same ∙ h.there;
    named = h.named;
    all = logged_same h.state (recovery (disk ++ waiting)) h.all;
    knows = knows_on old new manager manager (recovery (disk ++ waiting)) later (knows_self manager) h.knows;
    on_disk = logged_same h.state (recovery disk) h.on_disk;
    alike = h.alike;
  }

  recorded_on : (o : Option OnRecord) (v : Prepared) → IsRecorded n old o v → IsRecorded n new o v
  recorded_on o v k = record { changes = k.changes; count = k.count }

  said_on : (state : machine.NodeValue) (log : Recovery) → HoldsSaid n old state log → HoldsSaid n new state log
  said_on state log h = record {
    files = h.files;
    audit = h.audit;
    recorded = every_on (IsAsRecorded n old state) (IsAsRecorded n new state) (λ v is clear rec at. recorded_on (Some rec) v (is clear rec at)) log.prepared h.recorded;
    apart = h.apart;
    gone = h.gone;
    undone = h.undone;
  }

  -- ---- a node that is down

  stopped_on : (state : machine.NodeValue) (log : Recovery) → HoldsStopped n old state log → HoldsStopped n new state log
  stopped_on state log h = record {
    kinds = h.kinds;
    votes = every_on (λ (v : Prepared). IsVoteLogged n old state log v ⊎ IsCutVote n old state v) (λ (v : Prepared). IsVoteLogged n new state log v ⊎ IsCutVote n new state v) vote_on log.prepared h.votes;
    kept = h.kept;
    commits = h.commits;
  }
    where
      vote_on : (v : Prepared) → IsVoteLogged n old state log v ⊎ IsCutVote n old state v → IsVoteLogged n new state log v ⊎ IsCutVote n new state v
      vote_on v (inl (inl on)) = inl (inl on)
      vote_on v (inl (inr a)) = inl (inr (record { tx = a.tx; found = a.found; has_commit = a.has_commit; learnt = a.learnt }))
      vote_on v (inr c) = inr (record { tx = c.tx; found = c.found; could = c.could })

  module _ (state : machine.NodeValue) (there : slice_get old.nodes n ≡ Some state) (log : Recovery) where
    abbrev was : BookValue
    was = book_found n old log

    abbrev now : BookValue
    now = book_found n new log

    -- the votes that a restart finds are the same
    votes_same : new_votes n new (found_votes log) ≡ new_votes n old (found_votes log)
    votes_same = ap (λ (o : Option machine.NodeValue). new_votes_at n old o (found_votes log)) same

    record_same : (tid : Tid) (server : ℕ) → record_at n now tid server ≡ record_at n was tid server
    record_same tid server = ap found_at (changed_at_here (with_votes (new_votes n new (found_votes log))) ns n state (same ∙ there))
        ∙ (ap (λ (votes : List (Voter × OnRecord)). machine.record_of (with_votes votes state) tid server) votes_same
        ∙ sym (ap found_at (changed_at_here (with_votes (new_votes n old (found_votes log))) old.nodes n state there)))
      where
        found_at : Option machine.NodeValue → Option OnRecord
        found_at o = elim o [ None ↦ None | Some node ↦ machine.record_of node tid server ]

    has_same : (tid : Tid) → has_record n now tid ≡ has_record n was tid
    has_same tid = rw (record_same tid files_no, record_same tid audit_no) refl

    found_same : (done some : List Tid) → fold (add_commit n now) some done ≡ fold (add_commit n was) some done
    found_same [] some = refl
    found_same (t ∷ done) some = ap (λ (b : Bool). fold (add_commit n now) (if b && not (is_among some t) then some ++ t ∷ [] else some) done) (has_same t) ∙ found_same done (add_commit n was some t)

    changes_same : (server : ℕ) (tids : List Tid) → flat_map (changes_at n now server) tids ≡ flat_map (changes_at n was server) tids
    changes_same server [] = refl
    changes_same server (t ∷ tids) = ap (λ (o : Option OnRecord). machine.changes_of o ++ flat_map (changes_at n now server) tids) (record_same t server) ∙ ap (λ (ops : List Op). changes_at n was server t ++ ops) (changes_same server tids)

    all_same : (server : ℕ) → flat_map (changes_at n now server) (commits_found n now log.committed) ≡ flat_map (changes_at n was server) (commits_found n was log.committed)
    all_same server = changes_same server (commits_found n now log.committed) ∙ ap (flat_map (changes_at n was server)) (found_same log.committed [])

    left_on : HoldsLeft n old state log → HoldsLeft n new state log
    left_on h = record {
      files = subst (λ (ops : List Op). IsMadeBy (applied state.files ops) log.files) (sym (all_same files_no)) h.files;
      audit = subst (λ (ops : List Op). IsMadeBy (applied state.audit ops) log.audit) (sym (all_same audit_no)) h.audit;
      recorded = every_on (IsToBeRecorded n old log) (IsToBeRecorded n new log) (λ v is names clear. subst (λ (o : Option OnRecord). IsRecorded n new o v) (sym (record_same v.tid v.server.0)) (recorded_on (record_at n was v.tid v.server.0) v (is names clear))) log.prepared h.recorded;
      apart = h.apart;
      undone = h.undone;
    }

  -- ---- all of it

  pub node_on : (size inc : ℕ) (up : Bool) (host : Host) → HoldsNodeOf old size n inc up host → HoldsNodeOf new size n inc up host
  node_on size inc up host h = record {
    state = h.state;
    there = same ∙ h.there;
    up_is = h.up_is;
    inc_is = h.inc_is;
    node = h.node;
    run = h.run;
    format = h.format;
    accepted = h.accepted;
    kept = kept_same host.node.setting.node inc old new refl refl host.node.kept.saved h.kept;
    runs = λ is. let u : HoldsUp n old h.state host = h.runs is in record {
      still = holds_on host.node h.node u.still;
      log = host_on host.node.manager host.log host.waiting u.log;
      said = said_on h.state (recovery (host.log ++ host.waiting)) u.said;
      on_disk = said_on h.state (recovery host.log) u.on_disk;
    };
    stopped = λ is. let d : HoldsDown n old h.state host = h.stopped is in record {
      log = stopped_on h.state (recovery host.log) d.log;
      stands = d.stands;
      marked = d.marked;
      left = left_on h.state h.there (recovery host.log) d.left;
      nothing_waits = d.nothing_waits;
    };
  }
