-- A restart of another node leaves all that is held of a node that runs, and of its log.
use Rattle.qs_world_lawful.proofs.Words.{◌≡◌, ◌⊎◌, inl, inr, ℕ, ◌==◌, not, Bool, true, false, List, [], ◌∷◌, Option, Some, None, fold, refl, sym, ap, subst, ◌∙◌, if◌then◌else◌, is_some, nat_lt, slice_get, lookup, is_at, member_cmp, ClientNo, NodeNo, Outcome, Tid, Found, restart_nodes, elsewhere, ran_run, BookValue, find_transaction, owner_of, told, with_transaction, abort_begun, begun_tid, commit_found, count_of, is_among, is_open_here, learn_found, member_at, new_votes, put_new_votes, record_at}
use Rattle.qs_world_lawful.proofs.Words.{reopened, restarted_node, up_to, vote_found, with_votes, TransactionValue, found_at, is_commit, is_empty, is_open, with_learnt, Owner, Cause, Recovery, entry_of, face_of, HoldsAt, HoldsClients, HoldsStill, IsBehind, IsOwner, found_votes, is_seen, seen_in, HoldsWaitsAt}
use Rattle.qs_base.specs.declared.identifiers.Outcome.TheVariants as outcomes
use Rattle.qs_book_journal.specs.declared.entry.Act.TheVariants as acts
use Rattle.qs_book_machine.specs.Book.{decide}
use Rattle.qs_book_machine.specs.Nodes as machine
use Rattle.qs_ops.specs.Servers.{audit_no, extra_no, files_no}
use Rattle.qs_ops.specs.declared.answer.Cause.TheVariants as causes
use Rattle.qs_node_step.specs.State.{NodeValue}
use Rattle.qs_world_lawful.proofs.CrossedTables.{servers_alike}
use Rattle.qs_world_lawful.proofs.OthersTid.{tid_on, waits_on}
use Rattle.qs_world_lawful.proofs.RestartGoes.{Goes, IsElsewhere}
use Rattle.qs_world_lawful.proofs.RestartOwners.{told_still}
use Rattle.qs_world_lawful.proofs.Restored.{owners_new, settled, with_found}
use Rattle.qs_world_lawful.proofs.RestoredClients.{ended_still}
use Rattle.qs_world_lawful.proofs.RestoredTid.{Restarts, found_whole, goes, new, none, was}

module _ (book : BookValue) (risen : NodeNo) (stamp inc : ℕ) (log : Recovery) (state : machine.NodeValue) (r : Restarts book risen inc log state) where
  abbrev now : BookValue
  now = new book risen stamp inc log state r

  -- ---- where a client stands

  -- the client's line is the same
  pub record SameLine (client : ℕ) (b : BookValue) (c : BookValue) : Type 0 where
    pub on : (owner : Owner) → slice_get b.owners client ≡ Some owner → (later : Owner) × (slice_get c.owners client ≡ Some later) × (later.line ≡ owner.line)

  line_self : (client : ℕ) (b : BookValue) → SameLine client b b
  line_self client b = record { on = λ owner is. (owner, is, refl) }

  line_then : (client : ℕ) (a b c : BookValue) → SameLine client a b → SameLine client b c → SameLine client a c
  line_then client a b c p q = record {
    on = λ owner is.
        let x = p.on owner is in
        let y = q.on x.0 x.1 in
        (y.0, y.1, y.2 ∙ x.2);
  }

  line_same : (client : ℕ) (b c : BookValue) → c.owners ≡ b.owners → SameLine client b c
  line_same client b c same = record { on = λ owner is. (owner, ap (λ (os : List Owner). slice_get os client) same ∙ is, refl) }

  line_if : (x : Bool) (client : ℕ) (a b c : BookValue) → SameLine client a b → SameLine client a c → SameLine client a (if x then b else c)
  line_if true client a b c p q = p
  line_if false client a b c p q = q

  told_line : (outcome : Outcome) (cause : Option Cause) (owner : Owner) → (told outcome cause owner).line ≡ owner.line
  told_line outcomes.Commit cause owner = refl
  told_line outcomes.Abort None owner = refl
  told_line outcomes.Abort (Some cause) owner = refl

  line_decide : (client : ℕ) (tid : Tid) (outcome : Outcome) (cause : Option Cause) (b : BookValue) → SameLine client b (decide tid outcome cause b)
  line_decide client tid outcome cause b = record { on = one }
    where
      one : (owner : Owner) → slice_get b.owners client ≡ Some owner → (later : Owner) × (slice_get (decide tid outcome cause b).owners client ≡ Some later) × (later.line ≡ owner.line)
      one owner is =
          let p = told_still (owner_of (find_transaction b tid)) outcome cause b.owners client owner is in
          (p.0, p.1, of p.0 p.2)
        where
          of : (x : Owner) → (x ≡ owner) ⊎ (x ≡ told outcome cause owner) → x.line ≡ owner.line
          of x (inl same) = ap (λ (o : Owner). o.line) same
          of x (inr more) = ap (λ (o : Owner). o.line) more ∙ told_line outcome cause owner

  line_fold : {A : Type 0} (client : ℕ) (f : BookValue → A → BookValue) → ((b : BookValue) (x : A) → SameLine client b (f b x)) → (xs : List A) (b : BookValue) → SameLine client b (fold f b xs)
  line_fold client f each [] b = line_self client b
  line_fold client f each (x ∷ xs) b = line_then client b (f b x) (fold f (f b x) xs) (each b x) (line_fold client f each xs (f b x))

  line_learn : (client : ℕ) (t : Tid) (server : ℕ) (b : BookValue) → SameLine client b (learn_found risen.0 t server b)
  line_learn client t server b = line_if (is_some (record_at risen.0 b t server)) client b (with_transaction t (with_learnt (member_at risen.0 server)) b) b (line_same client b (with_transaction t (with_learnt (member_at risen.0 server)) b) refl) (line_self client b)

  line_commit : (client : ℕ) (b : BookValue) (t : Tid) → SameLine client b (commit_found risen.0 b t)
  line_commit client b t =
      let x = learn_found risen.0 t files_no b in
      let y = learn_found risen.0 t audit_no x in
      let z = learn_found risen.0 t extra_no y in
      line_then client b x (commit_found risen.0 b t) (line_learn client t files_no b)
      (line_then client x y (commit_found risen.0 b t) (line_learn client t audit_no x)
      (line_then client y z (commit_found risen.0 b t) (line_learn client t extra_no y)
      (line_if (is_open_here risen.0 t (find_transaction z t)) client z (decide t outcomes.Commit None z) z (line_decide client t outcomes.Commit None z) (line_self client z))))

  line_vote : (client : ℕ) (b : BookValue) (found : Found) → SameLine client b (vote_found risen.0 inc log.committed b found)
  line_vote client b found = by (is_among log.committed found.tid)
    where
      f : TransactionValue → TransactionValue
      f = found_at (member_at risen.0 found.server.0) inc found.covers (count_of (record_at risen.0 b found.tid found.server.0))

      by : (x : Bool) → SameLine client b (if x then b else with_transaction found.tid f b)
      by true = line_self client b
      by false = line_same client b (with_transaction found.tid f b) refl

  line_abort : (client : ℕ) (b : BookValue) (seq : ℕ) → SameLine client b (abort_begun risen.0 state.inc b seq)
  line_abort client b seq = line_if (is_open_here risen.0 (begun_tid risen.0 state.inc seq) (find_transaction b (begun_tid risen.0 state.inc seq))) client b (decide (begun_tid risen.0 state.inc seq) outcomes.Abort (Some (causes.Home state.inc)) b) b
      (line_decide client (begun_tid risen.0 state.inc seq) outcomes.Abort (Some (causes.Home state.inc)) b) (line_self client b)

  pub lines : (client : ℕ) → SameLine client book now
  lines client =
      let a = with_found book risen.0 stamp inc log state r.there in
      let b = fold (commit_found risen.0) a log.committed in
      let c = fold (vote_found risen.0 inc log.committed) b (found_votes log) in
      let d = settled book risen.0 stamp inc log state r.there in
      line_then client book a now (line_same client book a refl)
      (line_then client a b now (line_fold client (commit_found risen.0) (line_commit client) log.committed a)
      (line_then client b c now (line_fold client (vote_found risen.0 inc log.committed) (line_vote client) (found_votes log) b)
      (line_then client c d now (line_fold client (abort_begun risen.0 state.inc) (line_abort client) (up_to state.begun) c) (line_same client d now (owners_new book risen.0 stamp inc log state r.there)))))

  -- ---- a node that runs

  module _ (n : ℕ) (far : (n == risen.0) ≡ false) (near : (risen.0 == n) ≡ false) where
    pub nodes_same : slice_get now.nodes n ≡ slice_get book.nodes n
    nodes_same = ap (λ (ns : List machine.NodeValue). slice_get ns n) (restart_nodes risen.0 inc (found_votes log) log.committed book)
        ∙ (elsewhere (restarted_node (reopened risen.0 inc (found_votes log) log.committed (put_new_votes risen.0 (found_votes log) book)) (found_votes log) log.committed) _ risen.0 n near ∙ elsewhere (with_votes (new_votes risen.0 book (found_votes log))) book.nodes risen.0 n near)

    clients_on : (node : NodeValue) → HoldsClients book node → HoldsClients now node
    clients_on node h = record {
      apart = h.apart;
      lines = λ client command is. behind client command.line.line (h.lines client command is);
      labels = λ label begun tid client labelled is owned. owner_on tid client (h.labels label begun tid client labelled is owned);
      outcomes = λ tid d is. ended_still book risen stamp inc log state r tid d (h.outcomes tid d is);
      asking = λ tid client part home known undecided asked owner. h.asking tid client part home known undecided asked (owner_back tid client owner);
    }
      where
        behind : (client : ClientNo) (line : ℕ) → IsBehind book client line → IsBehind now client line
        behind client line b =
            let p = (lines client.0).on b.owner b.there in
            record { owner = p.0; there = p.1; less = ap (λ (k : ℕ). nat_lt k line) p.2 ∙ b.less }

        owner_on : (tid : Tid) (client : ClientNo) → IsOwner book tid client → IsOwner now tid client
        owner_on tid client o =
            let p = goes book risen stamp inc log state r tid o.tx o.found in
            record { tx = p.0; found = p.1; owns = p.2.owner ∙ o.owns }

        owner_back : (tid : Tid) (client : ClientNo) → IsOwner now tid client → IsOwner book tid client
        owner_back tid client o =
            let w = was book risen stamp inc log state r tid o.tx o.found in
            record { tx = w.0; found = w.1; owns = sym w.2.owner ∙ o.owns }

    seen_same : (here : NodeNo) (s : ℕ) (tid : Tid) → is_seen now here s tid ≡ is_seen book here s tid
    seen_same here s tid = by (find_transaction book tid) refl
      where
        by : (o : Option TransactionValue) → find_transaction book tid ≡ o → seen_in here s (find_transaction now tid) ≡ seen_in here s (find_transaction book tid)
        by None is = ap (seen_in here s) (none book risen stamp inc log state r tid is ∙ sym is)
        by (Some tx) is =
            let p = goes book risen stamp inc log state r tid tx is in
            ap (seen_in here s) p.1 ∙ (ap (λ crossed. not (is_some (lookup (is_at (member_cmp (record { node = here; server = record { 0 = s } }))) crossed))) p.2.crossed ∙ sym (ap (seen_in here s) is))

    pub holds_on : (node : NodeValue) → node.setting.node.0 ≡ n → HoldsStill book node → HoldsStill now node
    holds_on node here h = record {
      run = ran_run (entry_of risen.0 stamp (acts.Restart inc (found_votes log) log.committed) ∷ []) book ∙ h.run;
      state = h.state;
      there = subst (λ (k : ℕ). slice_get now.nodes k ≡ Some h.state) (sym here) (nodes_same ∙ subst (λ (k : ℕ). slice_get book.nodes k ≡ Some h.state) here h.there);
      same = h.same;
      at = at_on;
      begun = λ tid home is. h.begun tid home (begun_back tid is);
      clients = clients_on node h.clients;
      servers = servers_alike (is_seen book node.setting.node) (is_seen now node.setting.node) h.state node.servers (seen_same node.setting.node) h.servers;
      waits = waits_at;
    }
      where
        far_own : (node.setting.node.0 == risen.0) ≡ false
        far_own = ap (λ (k : ℕ). k == risen.0) here ∙ far

        at_on : (tid : Tid) → HoldsAt node.setting.node node.setting.inc tid (find_transaction now tid) (face_of node tid)
        at_on tid = by (find_transaction book tid) refl
          where
            by : (o : Option TransactionValue) → find_transaction book tid ≡ o → HoldsAt node.setting.node node.setting.inc tid (find_transaction now tid) (face_of node tid)
            by None is = subst (λ (o : Option TransactionValue). HoldsAt node.setting.node node.setting.inc tid o (face_of node tid)) (is ∙ sym (none book risen stamp inc log state r tid is)) (h.at tid)
            by (Some tx) is =
                let p = goes book risen stamp inc log state r tid tx is in
                subst (λ (o : Option TransactionValue). HoldsAt node.setting.node node.setting.inc tid o (face_of node tid)) (sym p.1)
                (tid_on risen.0 inc book.place node.setting.node node.setting.inc tid tx p.0 p.2 far_own (face_of node tid) (subst (λ (o : Option TransactionValue). HoldsAt node.setting.node node.setting.inc tid o (face_of node tid)) is (h.at tid)))

        begun_back : (tid : Tid) → is_some (find_transaction now tid) ≡ true → is_some (find_transaction book tid) ≡ true
        begun_back tid is = by (find_transaction book tid) refl
          where
            by : (o : Option TransactionValue) → find_transaction book tid ≡ o → is_some (find_transaction book tid) ≡ true
            by None nothing = absurd (cc (sym (ap is_some (none book risen stamp inc log state r tid nothing)) ∙ is))
            by (Some tx) had = ap is_some had

        waits_at : (tid : Tid) → HoldsWaitsAt node.setting.node node.setting.inc tid (find_transaction now tid) (face_of node tid).waiting node.servers
        waits_at tid = by (find_transaction book tid) refl
          where
            by : (o : Option TransactionValue) → find_transaction book tid ≡ o → HoldsWaitsAt node.setting.node node.setting.inc tid (find_transaction now tid) (face_of node tid).waiting node.servers
            by None is = subst (λ (o : Option TransactionValue). HoldsWaitsAt node.setting.node node.setting.inc tid o (face_of node tid).waiting node.servers) (is ∙ sym (none book risen stamp inc log state r tid is)) (h.waits tid)
            by (Some tx) is =
                let p = goes book risen stamp inc log state r tid tx is in
                subst (λ (o : Option TransactionValue). HoldsWaitsAt node.setting.node node.setting.inc tid o (face_of node tid).waiting node.servers) (sym p.1)
                (waits_on risen.0 inc book.place node.setting.node node.setting.inc tid tx p.0 p.2 far_own (whole tx p.0 is p.1 p.2) (face_of node tid).waiting node.servers (held tx is))
              where
                held : (tx : TransactionValue) → find_transaction book tid ≡ Some tx → HoldsWaitsAt node.setting.node node.setting.inc tid (Some tx) (face_of node tid).waiting node.servers
                held tx is = subst (λ (o : Option TransactionValue). HoldsWaitsAt node.setting.node node.setting.inc tid o (face_of node tid).waiting node.servers) is (h.waits tid)

                whole : (tx later : TransactionValue) → find_transaction book tid ≡ Some tx → find_transaction now tid ≡ Some later → Goes risen.0 (IsElsewhere risen.0 inc) book.place tid tx later → is_commit later.cell ≡ true → is_empty later.crossed ≡ true
                whole tx later is found g commit = of (is_open tx.cell) refl
                  where
                    same : (was book risen stamp inc log state r tid later found).0 ≡ tx
                    same = ap (λ (o : Option TransactionValue). elim o [ None ↦ tx | Some x ↦ x ]) (sym (was book risen stamp inc log state r tid later found).1 ∙ is)

                    of : (b : Bool) → is_open tx.cell ≡ b → is_empty later.crossed ≡ true
                    of false shut = ap is_empty g.crossed ∙ (held tx is).whole (sym (ap is_commit (g.decided shut)) ∙ commit)
                    of true undecided = ap is_empty g.crossed ∙ subst (λ (x : TransactionValue). is_empty x.crossed ≡ true) same (found_whole book risen stamp inc log state r tid later found commit (ap (λ (x : TransactionValue). is_open x.cell) same ∙ undecided))
