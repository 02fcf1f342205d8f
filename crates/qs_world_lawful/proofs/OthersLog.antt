-- A restart of another node leaves what the log of a node says, whether it runs or not, and what is kept for its clients.
use Rattle.qs_world_lawful.proofs.Words.{◌≡◌, ◌⊎◌, inl, inr, ℕ, ◌≤◌, ◌==◌, ◌&&◌, ◌||◌, ◌++◌, not, Bool, true, false, List, Option, Some, None, refl, sym, ap, subst, ◌∙◌, arith, is_some, nat_lt, nat_tests, slice_get, list_all, lookup, is_at, member_cmp, ClientNo, Member, NodeNo, Tid, Found, BookValue, cell_of_transaction, crossed_in, find_transaction, could_vote, is_among, is_committed, may_be_lost, member_at, TransactionValue, agrees, all_served, has_learnt, is_commit, is_empty, is_open}
use Rattle.qs_world_lawful.proofs.Words.{is_unanimous, Owner, OnRecord, Voter, Cell, Record, Prepared, Recovery, names_transaction, recovery, Manager, IsOwner, HoldsHost, HoldsLogged, IsNamed, Later, HoldsStopped, IsCommitLogged, IsCutVote, IsRecordKept, IsVoteLogged, found_of, HoldsSaid, IsAsRecorded, IsRecorded, HoldsKept, IsLeftOpen, IsLoanOf, IsOpenStill, and_false, and_from, eqb-true}
use Rattle.qs_node_kept.specs.declared.kept.Kept.{Kept}
use Rattle.qs_book_machine.specs.Nodes as machine
use Rattle.qs_book_machine.specs.Transaction.{is_abort, is_before, part_of, was_committed}
use Rattle.qs_book_machine.specs.declared.transaction.Cell.TheVariants as cells
use Rattle.qs_world_lawful.specs.Said.{IsUndone}
use Rattle.qs_world_lawful.proofs.FoundMembers.{and_both}
use Rattle.qs_world_lawful.proofs.LogFrames.{every_on, logged_on}
use Rattle.qs_world_lawful.proofs.Marks.{knows_on, knows_self}
use Rattle.qs_world_lawful.proofs.OthersRise.{lines, nodes_same}
use Rattle.qs_world_lawful.proofs.RestartGoes.{Goes, IsElsewhere}
use Rattle.qs_world_lawful.proofs.RestoredClients.{ended_still}
use Rattle.qs_world_lawful.proofs.RestoredTid.{Restarts, aborted_stays, committed_stays, goes, new, none}

module _ (book : BookValue) (risen : NodeNo) (stamp inc : ℕ) (log : Recovery) (state : machine.NodeValue) (r : Restarts book risen inc log state) (n : ℕ) (far : (n == risen.0) ≡ false) (near : (risen.0 == n) ≡ false) where
  abbrev now : BookValue
  now = new book risen stamp inc log state r

  abbrev G : Tid → TransactionValue → TransactionValue → Type 0
  G tid tx later = Goes risen.0 (IsElsewhere risen.0 inc) book.place tid tx later

  pub later : Later book now
  later = record {
    aborted = aborted_stays book risen stamp inc log state r;
    committed = committed_stays book risen stamp inc log state r;
    learnt = λ tid tx found.
        let p = goes book risen stamp inc log state r tid tx found in
        (p.0, p.1, p.2.learnt);
  }

  -- whatever stands stands
  pub stands_on : (tid : Tid) → is_some (find_transaction book tid) ≡ true → is_some (find_transaction now tid) ≡ true
  stands_on tid is = by (find_transaction book tid) refl
    where
      by : (o : Option TransactionValue) → find_transaction book tid ≡ o → is_some (find_transaction now tid) ≡ true
      by None nothing = absurd (cc (sym (ap is_some nothing) ∙ is))
      by (Some tx) had = ap is_some (goes book risen stamp inc log state r tid tx had).1

  pub named_on : IsNamed book → IsNamed now
  named_on named tid is = by (find_transaction book tid) refl
    where
      by : (o : Option TransactionValue) → find_transaction book tid ≡ o → names_transaction tid ≡ true
      by None nothing = absurd (cc (sym (ap is_some (none book risen stamp inc log state r tid nothing)) ∙ is))
      by (Some tx) had = named tid (ap is_some had)

  -- ---- a node that runs

  logged_same : (s : machine.NodeValue) (said : Recovery) → HoldsLogged n book s said → HoldsLogged n now s said
  logged_same s said h = logged_on n book now s s said later refl refl h

  pub host_on : (manager : Manager) (disk waiting : List Record) → HoldsHost n book manager disk waiting → HoldsHost n now manager disk waiting
  host_on manager disk waiting h = record {
    state = h.state;
    there = nodes_same book risen stamp inc log state r n far near ∙ h.there;
    named = named_on h.named;
    all = logged_same h.state (recovery (disk ++ waiting)) h.all;
    knows = knows_on book now manager manager (recovery (disk ++ waiting)) later (knows_self manager) h.knows;
    on_disk = logged_same h.state (recovery disk) h.on_disk;
    alike = h.alike;
  }

  -- a transaction is crossed there as it was
  crossed_same : (tid : Tid) (member : Member) → crossed_in (find_transaction now tid) member ≡ crossed_in (find_transaction book tid) member
  crossed_same tid member = by (find_transaction book tid) refl
    where
      by : (o : Option TransactionValue) → find_transaction book tid ≡ o → crossed_in (find_transaction now tid) member ≡ crossed_in (find_transaction book tid) member
      by None is = ap (λ (o : Option TransactionValue). crossed_in o member) (none book risen stamp inc log state r tid is ∙ sym is)
      by (Some tx) is =
          let p = goes book risen stamp inc log state r tid tx is in
          ap (λ (o : Option TransactionValue). crossed_in o member) p.1 ∙ (ap (λ crossed. is_some (lookup (is_at (member_cmp member)) crossed)) p.2.crossed ∙ sym (ap (λ (o : Option TransactionValue). crossed_in o member) is))

  pub recorded_on : (o : Option OnRecord) (v : Prepared) → IsRecorded n book o v → IsRecorded n now o v
  recorded_on o v k = record { changes = λ clean. k.changes (sym (crossed_same v.tid (member_at n v.server.0)) ∙ clean); count = k.count }

  -- of another home, the cell is the same
  home_same : (tid : Tid) → tid.home.0 ≡ n → cell_of_transaction (find_transaction now tid) ≡ cell_of_transaction (find_transaction book tid)
  home_same tid home = by (find_transaction book tid) refl
    where
      by : (o : Option TransactionValue) → find_transaction book tid ≡ o → cell_of_transaction (find_transaction now tid) ≡ cell_of_transaction (find_transaction book tid)
      by None is = ap cell_of_transaction (none book risen stamp inc log state r tid is ∙ sym is)
      by (Some tx) is =
          let p = goes book risen stamp inc log state r tid tx is in
          ap cell_of_transaction p.1 ∙ (ap Some (p.2.away (ap (λ (k : ℕ). k == risen.0) home ∙ far)) ∙ sym (ap cell_of_transaction is))

  pub undone_on : (v : Prepared) → IsUndone n book v → IsUndone n now v
  undone_on v h home names clear committed = h home names clear (sym (home_same v.tid home) ∙ committed)

  pub said_on : (s : machine.NodeValue) (said : Recovery) → HoldsSaid n book s said → HoldsSaid n now s said
  said_on s said h = record {
    files = h.files;
    audit = h.audit;
    recorded = every_on (IsAsRecorded n book s) (IsAsRecorded n now s) (λ v is clear rec at. recorded_on (Some rec) v (is clear rec at)) said.prepared h.recorded;
    apart = h.apart;
    gone = h.gone;
    undone = every_on (IsUndone n book) (IsUndone n now) undone_on said.prepared h.undone;
  }

  -- ---- what is kept for clients

  pub kept_on : (here : NodeNo) → here.0 ≡ n → (i : ℕ) (kept : Kept) → HoldsKept here i book kept → HoldsKept here i now kept
  kept_on here own i kept h = record {
    owners = λ label begun tid client labelled is owned. owner_on tid client (h.owners label begun tid client labelled is owned);
    outcomes = λ tid d is. ended_still book risen stamp inc log state r tid d (h.outcomes tid d is);
    undecided = every_on (IsLeftOpen here book kept.outcomes) (IsLeftOpen here now kept.outcomes) (λ b left tid is home none. open_on tid home (left tid is home none)) kept.labels h.undecided;
    loans = every_on (IsLoanOf book i) (IsLoanOf now i) (λ loan l. record { stands = stands_on loan.tid l.stands; made = l.made }) kept.loans h.loans;
  }
    where
      owner_on : (tid : Tid) (client : ClientNo) → IsOwner book tid client → IsOwner now tid client
      owner_on tid client o =
          let p = goes book risen stamp inc log state r tid o.tx o.found in
          record { tx = p.0; found = p.1; owns = p.2.owner ∙ o.owns }

      open_on : (tid : Tid) → tid.home ≡ here → IsOpenStill book tid → IsOpenStill now tid
      open_on tid home o =
          let p = goes book risen stamp inc log state r tid o.tx o.found in
          record {
            tx = p.0;
            found = p.1;
            undecided = ap is_open (p.2.away (ap (λ (m : NodeNo). m.0 == risen.0) home ∙ (ap (λ (k : ℕ). k == risen.0) own ∙ far))) ∙ o.undecided;
            owned = λ client is. still client (slice_get book.owners client.0) refl (o.owned client (sym p.2.owner ∙ is));
          }
        where
          still : (client : ClientNo) (x : Option Owner) → slice_get book.owners client.0 ≡ x → is_some (slice_get book.owners client.0) ≡ true → is_some (slice_get now.owners client.0) ≡ true
          still client None none is = absurd (cc (sym (ap is_some none) ∙ is))
          still client (Some owner) had is = ap is_some ((lines book risen stamp inc log state r client.0).on owner had).1

  -- ---- a node that is down

  part_same : (tid : Tid) (tx later : TransactionValue) → G tid tx later → (server i : ℕ) → part_of later (member_at n server) i ≡ part_of tx (member_at n server) i
  part_same tid tx later g server i = g.parts (member_at n server) i (rw far refl)

  -- commit was asked for before it stopped, and not decided before
  commit_same : (tid : Tid) (tx later : TransactionValue) → G tid tx later → (stopped : ℕ) → stopped ≤ book.place → was_committed stopped later ≡ was_committed stopped tx
  commit_same tid tx later g stopped low = by g.when
    where
      open_not : (c : Cell) → is_open c ≡ true → is_commit c ≡ false
      open_not cells.Open e = refl
      open_not cells.Commit e = absurd (cc e)
      open_not cells.Abort e = refl

      no_more : (a b : ℕ) → a ≤ b → nat_lt b a ≡ false
      no_more a b e = grind (arith, nat_tests, e)

      late : later.decided ≡ Some book.place → was_committed stopped later ≡ false
      late at = subst (λ (o : Option ℕ). (is_commit later.cell && (not (is_some o) || is_before stopped o)) ≡ false) (sym at) (rw (no_more stopped book.place low) (and_false (is_commit later.cell)))

      by : ((later.cell ≡ tx.cell) × (later.decided ≡ tx.decided)) ⊎ ((is_open tx.cell ≡ true) × (later.decided ≡ Some book.place)) → was_committed stopped later ≡ was_committed stopped tx
      by (inl same) = ap (λ (c : Cell). is_commit c && (not (is_some later.decided) || is_before stopped later.decided)) same.0 ∙ ap (λ (o : Option ℕ). is_commit tx.cell && (not (is_some o) || is_before stopped o)) same.1
      by (inr made) = late made.1 ∙ sym (rw (open_not tx.cell made.0) refl)

  -- so what it could vote then is the same
  pub could_same : (tid : Tid) (tx later : TransactionValue) → G tid tx later → (s : machine.NodeValue) → s.stopped ≤ book.place → (found : Found) → could_vote n s later found ≡ could_vote n s tx found
  could_same tid tx later g s low found =
      rw (g.asked, commit_same tid tx later g s.stopped low, part_same tid tx later g found.server.0 s.inc, g.starts, g.crossed) refl

  unanimous_on : (tid : Tid) (tx later : TransactionValue) → G tid tx later → is_unanimous tx ≡ true → is_unanimous later ≡ true
  unanimous_on tid tx later g is =
      let one = and_both (is_some tx.asked && all_served tx) _ is in
      let two = and_both (list_all agrees tx.parts) (is_empty tx.refusals && is_empty tx.crossed) one.1 in
      and_from (is_some later.asked && all_served later) (list_all agrees later.parts && (is_empty later.refusals && is_empty later.crossed)) (asked one.0) (and_from (list_all agrees later.parts) (is_empty later.refusals && is_empty later.crossed) (g.agree two.0) (rest two.1))
    where
      asked : (is_some tx.asked && all_served tx) ≡ true → (is_some later.asked && all_served later) ≡ true
      asked e = rw (g.asked, g.requests) e

      rest : (is_empty tx.refusals && is_empty tx.crossed) ≡ true → (is_empty later.refusals && is_empty later.crossed) ≡ true
      rest e = rw (g.refusals, g.crossed) e

  pub stopped_on : (s : machine.NodeValue) → s.stopped ≤ book.place → (said : Recovery) → HoldsStopped n book s said → HoldsStopped n now s said
  stopped_on s low said h = record {
    kinds = h.kinds;
    votes = every_on (λ (v : Prepared). IsVoteLogged n book s said v ⊎ IsCutVote n book s v) (λ (v : Prepared). IsVoteLogged n now s said v ⊎ IsCutVote n now s v) vote_on said.prepared h.votes;
    kept = every_on (IsRecordKept n book said) (IsRecordKept n now said) kept_record s.records h.kept;
    commits = every_on (IsCommitLogged n book s) (IsCommitLogged n now s) commit_on said.committed h.commits;
  }
    where
      learnt_on : (tid : Tid) (tx next : TransactionValue) → G tid tx next → (m : Member) → (has_learnt tx m ≡ true) ⊎ (is_among s.committed tid ≡ true) → (has_learnt next m ≡ true) ⊎ (is_among s.committed tid ≡ true)
      learnt_on tid tx next g m (inl is) = inl (g.learnt m is)
      learnt_on tid tx next g m (inr is) = inr is

      vote_on : (v : Prepared) → IsVoteLogged n book s said v ⊎ IsCutVote n book s v → IsVoteLogged n now s said v ⊎ IsCutVote n now s v
      vote_on v (inl (inl on)) = inl (inl on)
      vote_on v (inl (inr a)) =
          let p = goes book risen stamp inc log state r v.tid a.tx a.found in
          inl (inr (record { tx = p.0; found = p.1; has_commit = a.has_commit; learnt = learnt_on v.tid a.tx p.0 p.2 (member_at n v.server.0) a.learnt }))
      vote_on v (inr c) =
          let p = goes book risen stamp inc log state r v.tid c.tx c.found in
          inr (record { tx = p.0; found = p.1; could = could_same v.tid c.tx p.0 p.2 s low (found_of v) ∙ c.could })

      same_cell : (tid : Tid) (tx next : TransactionValue) → G tid tx next → (tid.home.0 == n) ≡ true → next.cell ≡ tx.cell
      same_cell tid tx next g e = g.away (ap (λ (k : ℕ). k == risen.0) (eqb-true tid.home.0 n e) ∙ far)

      lost_on : (tid : Tid) → may_be_lost n tid (find_transaction book tid) ≡ true → may_be_lost n tid (find_transaction now tid) ≡ true
      lost_on tid is = by (find_transaction book tid) refl is
        where
          by : (o : Option TransactionValue) → find_transaction book tid ≡ o → may_be_lost n tid o ≡ true → may_be_lost n tid (find_transaction now tid) ≡ true
          by None nothing e = absurd (cc e)
          by (Some tx) had e =
              let p = goes book risen stamp inc log state r tid tx had in
              ap (may_be_lost n tid) p.1 ∙ of p.0 p.2 (is_abort tx.cell) refl
            where
              of : (next : TransactionValue) → G tid tx next → (b : Bool) → is_abort tx.cell ≡ b → (is_abort next.cell || (is_open next.cell && (tid.home.0 == n))) ≡ true
              of next g true a = subst (λ (c : Cell). (is_abort c || (is_open c && (tid.home.0 == n))) ≡ true) (sym (g.decided (shut tx.cell a))) (rw a refl)
                where
                  shut : (c : Cell) → is_abort c ≡ true → is_open c ≡ false
                  shut cells.Abort e = refl
                  shut cells.Open e = absurd (cc e)
                  shut cells.Commit e = absurd (cc e)
              of next g false a = subst (λ (c : Cell). (is_abort c || (is_open c && (tid.home.0 == n))) ≡ true) (sym (same_cell tid tx next g (and_both (is_open tx.cell) (tid.home.0 == n) (rw a at e)).1)) e

      kept_record : (e : Voter × OnRecord) → IsRecordKept n book said e → IsRecordKept n now said e
      kept_record e (inl is) = inl (lost_on e.0.tid is)
      kept_record e (inr is) = inr is

      commit_on : (tid : Tid) → IsCommitLogged n book s tid → IsCommitLogged n now s tid
      commit_on tid (inl is) = inl is
      commit_on tid (inr is) = inr (by (find_transaction book tid) refl is)
        where
          by : (o : Option TransactionValue) → find_transaction book tid ≡ o → is_committed n tid o ≡ true → is_committed n tid (find_transaction now tid) ≡ true
          by None nothing e = absurd (cc e)
          by (Some tx) had e =
              let p = goes book risen stamp inc log state r tid tx had in
              ap (is_committed n tid) p.1 ∙ of p.0 p.2 (is_commit tx.cell) refl
            where
              of : (next : TransactionValue) → G tid tx next → (b : Bool) → is_commit tx.cell ≡ b → (is_commit next.cell || ((is_open next.cell && (tid.home.0 == n)) && is_unanimous next)) ≡ true
              of next g true a = subst (λ (c : Cell). (is_commit c || ((is_open c && (tid.home.0 == n)) && is_unanimous next)) ≡ true) (sym (g.decided (shut tx.cell a))) (rw a refl)
                where
                  shut : (c : Cell) → is_commit c ≡ true → is_open c ≡ false
                  shut cells.Commit e = refl
                  shut cells.Open e = absurd (cc e)
                  shut cells.Abort e = absurd (cc e)
              of next g false a = subst (λ (c : Cell). (is_commit c || ((is_open c && (tid.home.0 == n)) && is_unanimous next)) ≡ true) (sym (same_cell tid tx next g one.1)) (rw (a, one.0, one.1) (unanimous_on tid tx next g two.1))
                where
                  two : ((is_open tx.cell && (tid.home.0 == n)) ≡ true) × (is_unanimous tx ≡ true)
                  two = and_both (is_open tx.cell && (tid.home.0 == n)) (is_unanimous tx) (rw a at e)

                  one : (is_open tx.cell ≡ true) × ((tid.home.0 == n) ≡ true)
                  one = and_both (is_open tx.cell) (tid.home.0 == n) two.0
