-- Each lawful entry that another node makes in a step leaves what a log says of contents and changes, and what is kept for clients.
use Rattle.qs_world_lawful.proofs.Words.{◌≡◌, inl, inr, ℕ, ◌==◌, true, false, List, Option, Some, None, refl, sym, ap, ◌∙◌, is_some, slice_get, ClientNo, Member, NodeNo, Tid, Entry, BookValue, cell_of_transaction, crossed_in, find_transaction, broken, member_at, TransactionValue, is_crossed, is_open, OnRecord, Owner, TableValue, Op, Prepared, Recovery, IsOfStep, HoldsSaid, IsAsRecorded, IsMadeBy, IsRecorded, SameContents, HoldsKept, IsLeftOpen, IsLoanOf, IsOpenStill, apart_turned}
use Rattle.qs_node_kept.specs.declared.kept.Kept.{Kept}
use Rattle.qs_book_machine.specs.Nodes as machine
use Rattle.qs_world_lawful.specs.Said.{IsUndone}
use Rattle.qs_world_lawful.proofs.AsideActs.{owners_keep}
use Rattle.qs_world_lawful.proofs.AsideBook.{Goes, cell_away, ended_on, goes_on, new, owner_on, owner_same, stood_away}
use Rattle.qs_world_lawful.proofs.AsideIssue.{SameRecords}
use Rattle.qs_world_lawful.proofs.LastsWell.{LastsWell}
use Rattle.qs_world_lawful.proofs.LogFrames.{every_on}
use Rattle.qs_world_lawful.proofs.TurnedRequests.{crossed_back}

made_by : (table other : TableValue) (changes : List Op) → SameContents other table → IsMadeBy table changes → IsMadeBy other changes
made_by table other changes same is = record { contents = same.contents ∙ is.contents; notes = same.notes ∙ is.notes }

module _ (book : BookValue) (entry : Entry) (w : LastsWell book) (h : broken book entry ≡ None) where
  abbrev after : BookValue
  after = new book entry w h

  module _ (k : ℕ) (far : (entry.node.0 == k) ≡ false) (of_step : IsOfStep entry.act) where
    pub home_far : (tid : Tid) → tid.home.0 ≡ k → (tid.home.0 == entry.node.0) ≡ false
    home_far tid home = ap (λ (n : ℕ). n == entry.node.0) home ∙ apart_turned entry.node.0 k far

    -- whatever stands stands
    pub stands_on : (tid : Tid) → is_some (find_transaction book tid) ≡ true → is_some (find_transaction after tid) ≡ true
    stands_on tid is = by (find_transaction book tid) refl
      where
        by : (o : Option TransactionValue) → find_transaction book tid ≡ o → is_some (find_transaction after tid) ≡ true
        by None nothing = absurd (cc (sym (ap is_some nothing) ∙ is))
        by (Some tx) had = ap is_some (goes_on book entry w h tid tx had).1

    uncrossed_back : (tid : Tid) (member : Member) → crossed_in (find_transaction after tid) member ≡ false → crossed_in (find_transaction book tid) member ≡ false
    uncrossed_back tid member clean = by (find_transaction book tid) refl
      where
        by : (o : Option TransactionValue) → find_transaction book tid ≡ o → crossed_in (find_transaction book tid) member ≡ false
        by None is = ap (λ (o : Option TransactionValue). crossed_in o member) is
        by (Some tx) is =
            let p = goes_on book entry w h tid tx is in
            ap (λ (o : Option TransactionValue). crossed_in o member) is ∙ of p.0 p.2 (sym (ap (λ (o : Option TransactionValue). crossed_in o member) p.1) ∙ clean)
          where
            of : (later : TransactionValue) → Goes book entry w h tid tx later → is_crossed later member ≡ false → is_crossed tx member ≡ false
            of later (inl same) c = ap (λ (x : TransactionValue). is_crossed x member) (sym same) ∙ c
            of later (inr (t, r)) c = crossed_back entry.node.0 t.now book.place tx later r.requests member c

    -- of this home the cell is the same
    pub home_same : (tid : Tid) → tid.home.0 ≡ k → cell_of_transaction (find_transaction after tid) ≡ cell_of_transaction (find_transaction book tid)
    home_same tid home = by (find_transaction after tid) refl
      where
        by : (o : Option TransactionValue) → find_transaction after tid ≡ o → cell_of_transaction (find_transaction after tid) ≡ cell_of_transaction (find_transaction book tid)
        by (Some later) found =
            let p = stood_away book entry w h tid later (home_far tid home) found in
            ap cell_of_transaction found ∙ (ap Some (cell_away book entry w h tid p.0 later p.2 (home_far tid home)) ∙ sym (ap cell_of_transaction p.1))
        by None gone = ap cell_of_transaction gone ∙ sym (of (find_transaction book tid) refl)
          where
            of : (o : Option TransactionValue) → find_transaction book tid ≡ o → cell_of_transaction (find_transaction book tid) ≡ None
            of None is = ap cell_of_transaction is
            of (Some tx) is = absurd (cc (sym gone ∙ (goes_on book entry w h tid tx is).1))

    -- ---- what its log says

    pub recorded_on : (o : Option OnRecord) (v : Prepared) → IsRecorded k book o v → IsRecorded k after o v
    recorded_on o v r = record { changes = λ clean. r.changes (uncrossed_back v.tid (member_at k v.server.0) clean); count = r.count }

    pub undone_on : (v : Prepared) → IsUndone k book v → IsUndone k after v
    undone_on v u home names clear committed = u home names clear (sym (home_same v.tid home) ∙ committed)

    pub said_on : (state later : machine.NodeValue) → SameRecords state later → (log : Recovery) → HoldsSaid k book state log → HoldsSaid k after later log
    said_on state later same log s = record {
      files = made_by state.files later.files log.files same.files s.files;
      audit = made_by state.audit later.audit log.audit same.audit s.audit;
      recorded = every_on (IsAsRecorded k book state) (IsAsRecorded k after later) (λ v is clear rec at. recorded_on (Some rec) v (is clear rec (sym (record_same v.tid v.server.0) ∙ at))) log.prepared s.recorded;
      apart = s.apart;
      gone = λ tid server kept among. record_same tid server ∙ s.gone tid server kept among;
      undone = every_on (IsUndone k book) (IsUndone k after) undone_on log.prepared s.undone;
    }
      where
        record_same : (tid : Tid) (server : ℕ) → machine.record_of later tid server ≡ machine.record_of state tid server
        record_same tid server = ap (λ rs. machine.record_of (record state { records = rs }) tid server) same.records

    -- ---- what is kept for clients

    pub kept_on : (here : NodeNo) → here.0 ≡ k → (inc : ℕ) (kept : Kept) → HoldsKept here inc book kept → HoldsKept here inc after kept
    kept_on here own inc kept c = record {
      owners = λ label begun tid client labelled is owned. owner_on book entry w h tid client (c.owners label begun tid client labelled is owned);
      outcomes = λ tid d is. ended_on book entry w h of_step tid d (c.outcomes tid d is);
      undecided = every_on (IsLeftOpen here book kept.outcomes) (IsLeftOpen here after kept.outcomes) (λ b left tid is home none. open_on tid home (left tid is home none)) kept.labels c.undecided;
      loans = every_on (IsLoanOf book inc) (IsLoanOf after inc) (λ loan l. record { stands = stands_on loan.tid l.stands; made = l.made }) kept.loans c.loans;
    }
      where
        open_on : (tid : Tid) → tid.home ≡ here → IsOpenStill book tid → IsOpenStill after tid
        open_on tid home o =
            let p = goes_on book entry w h tid o.tx o.found in
            record {
              tx = p.0;
              found = p.1;
              undecided = ap is_open (cell_away book entry w h tid o.tx p.0 p.2 (home_far tid (ap (λ (m : NodeNo). m.0) home ∙ own))) ∙ o.undecided;
              owned = λ client is. still client (slice_get book.owners client.0) refl (o.owned client (sym (owner_same book entry w h tid o.tx p.0 p.2) ∙ is));
            }
          where
            still : (client : ClientNo) (x : Option Owner) → slice_get book.owners client.0 ≡ x → is_some (slice_get book.owners client.0) ≡ true → is_some (slice_get after.owners client.0) ≡ true
            still client None none is = absurd (cc (sym (ap is_some none) ∙ is))
            still client (Some owner) had is = ap is_some (owners_keep entry.stamp entry.node.0 entry.act of_step book client.0 owner had).1
