-- Each lawful entry that another node makes in a step leaves what a node that is down will find in its log as it restarts.
use Rattle.qs_world_lawful.proofs.Words.{◌≡◌, ◌⊎◌, inl, inr, ℕ, ◌==◌, ◌&&◌, ◌++◌, not, Bool, true, false, List, [], ◌∷◌, flat_map, Option, Some, None, fold, refl, sym, ap, subst, ◌∙◌, if◌then◌else◌, slice_get, ClientNo, Tid, Entry, Found, changed_at_here, BookValue, find_transaction, pending_in, ticks_at, has_vote, broken, crossed_node, crossed_server, add_commit, commits_found, could_vote, has_record, is_among, is_new_vote, is_on_record, member_at, new_vote, new_votes, record_at, with_votes}
use Rattle.qs_world_lawful.proofs.Words.{TransactionValue, begun, OnRecord, Voter, Part, applied, Op, Recovery, IsOfStep, found_votes, HoldsLeft, IsMadeBy, IsRecorded, IsToBeRecorded, book_found}
use Rattle.qs_book_machine.specs.Nodes as machine
use Rattle.qs_book_machine.specs.Restart.{changes_at}
use Rattle.qs_book_machine.specs.Transaction.{part_of}
use Rattle.qs_ops.specs.Servers.{audit_no, files_no}
use Rattle.qs_ops.specs.declared.vote.Vote.TheVariants as votes
use Rattle.qs_world_lawful.specs.Said.{IsUndone}
use Rattle.qs_world_lawful.proofs.AsideBook.{goes_on, new, new_begins}
use Rattle.qs_world_lawful.proofs.AsideKept.{recorded_on, undone_on}
use Rattle.qs_world_lawful.proofs.AsideDown.{could_same, part_on, there_on}
use Rattle.qs_world_lawful.proofs.EntryTurns.{Begins}
use Rattle.qs_world_lawful.proofs.LastsWell.{LastsWell}
use Rattle.qs_world_lawful.proofs.LogFrames.{every_on}
use Rattle.qs_world_lawful.proofs.RestoredRecords.{new_votes_are}

module _ (book : BookValue) (entry : Entry) (w : LastsWell book) (h : broken book entry ≡ None) (k : ℕ) (far : (entry.node.0 == k) ≡ false) (of_step : IsOfStep entry.act) (s : machine.NodeValue) (there : slice_get book.nodes k ≡ Some s) where
  abbrev after : BookValue
  after = new book entry w h

  -- ---- what is found again

  module _ (down : s.up ≡ false) (said : Recovery) where
    -- what a vote that is found makes is the same
    one_same : (f : Found) → new_vote k after s f ≡ new_vote k book s f
    one_same f = by (find_transaction book f.tid) refl
      where
        made : Option TransactionValue → List (Voter × OnRecord)
        made o = if is_new_vote k s o f then (machine.voter f.tid f.server.0, record { changes = machine.pending_at s f.tid f.server.0; covers = f.covers; pending = pending_in o (member_at k f.server.0) s.inc }) ∷ [] else []

        with_count : Bool → ℕ → List (Voter × OnRecord)
        with_count b count = if not (is_on_record s f) && b then (machine.voter f.tid f.server.0, record { changes = machine.pending_at s f.tid f.server.0; covers = f.covers; pending = count }) ∷ [] else []

        by : (o : Option TransactionValue) → find_transaction book f.tid ≡ o → new_vote k after s f ≡ new_vote k book s f
        by None is = of (new_begins book entry w h f.tid is)
          where
            of : (find_transaction after f.tid ≡ None) ⊎ ((b : Begins book entry) × (b.tid ≡ f.tid)) → new_vote k after s f ≡ new_vote k book s f
            of (inl gone) = ap made (gone ∙ sym is)
            of (inr (b, same)) = ap made (ap (find_transaction after) (sym same) ∙ b.stands) ∙ (none b.label b.client (ticks_at (slice_get book.nodes entry.node.0)) ∙ sym (ap made is))
              where
                and_none : (a b : Bool) → (a && (b && false)) ≡ false
                and_none true true = refl
                and_none true false = refl
                and_none false b = refl

                none : (label : List ℕ) (client : ClientNo) (ticks : ℕ) → made (Some (begun label client ticks)) ≡ []
                none label client ticks = ap (λ (b : Bool). if b then (machine.voter f.tid f.server.0, record { changes = machine.pending_at s f.tid f.server.0; covers = f.covers; pending = 0 }) ∷ [] else []) (and_none (not (is_on_record s f)) (has_vote f.server.0 votes.Recoverable))
        by (Some tx) is =
            let p = goes_on book entry w h f.tid tx is in
            ap made p.1
            ∙ (ap (λ (b : Bool). with_count b (part_of p.0 (member_at k f.server.0) s.inc).pending) (could_same book entry w h k far of_step s there f.tid tx p.0 p.2 f)
            ∙ (ap (λ (q : Part). with_count (could_vote k s tx f) q.pending) (part_on book entry w h k far of_step s there f.tid tx p.0 p.2 f.server) ∙ sym (ap made is)))

    all_same : (fs : List Found) → flat_map (new_vote k after s) fs ≡ flat_map (new_vote k book s) fs
    all_same [] = refl
    all_same (f ∷ fs) = ap (λ (v : List (Voter × OnRecord)). v ++ flat_map (new_vote k after s) fs) (one_same f) ∙ ap (λ (v : List (Voter × OnRecord)). new_vote k book s f ++ v) (all_same fs)

    votes_same : new_votes k after (found_votes said) ≡ new_votes k book (found_votes said)
    votes_same = new_votes_are k after s (found_votes said) (there_on book entry w h k far of_step s there down) ∙ (all_same (found_votes said) ∙ sym (new_votes_are k book s (found_votes said) there))

    abbrev mid : BookValue
    mid = book_found k book said

    abbrev mid_now : BookValue
    mid_now = book_found k after said

    record_same : (tid : Tid) (server : ℕ) → record_at k mid_now tid server ≡ record_at k mid tid server
    record_same tid server = ap found_at (changed_at_here (with_votes (new_votes k after (found_votes said))) after.nodes k s (there_on book entry w h k far of_step s there down))
        ∙ (ap (λ (votes : List (Voter × OnRecord)). machine.record_of (with_votes votes s) tid server) votes_same
        ∙ sym (ap found_at (changed_at_here (with_votes (new_votes k book (found_votes said))) book.nodes k s there)))
      where
        found_at : Option machine.NodeValue → Option OnRecord
        found_at o = elim o [ None ↦ None | Some node ↦ machine.record_of node tid server ]

    has_same : (tid : Tid) → has_record k mid_now tid ≡ has_record k mid tid
    has_same tid = rw (record_same tid files_no, record_same tid audit_no) refl

    found_same : (done some : List Tid) → fold (add_commit k mid_now) some done ≡ fold (add_commit k mid) some done
    found_same [] some = refl
    found_same (t ∷ done) some = ap (λ (b : Bool). fold (add_commit k mid_now) (if b && not (is_among some t) then some ++ t ∷ [] else some) done) (has_same t) ∙ found_same done (add_commit k mid some t)

    changes_same : (server : ℕ) (tids : List Tid) → flat_map (changes_at k mid_now server) tids ≡ flat_map (changes_at k mid server) tids
    changes_same server [] = refl
    changes_same server (t ∷ tids) = ap (λ (o : Option OnRecord). machine.changes_of o ++ flat_map (changes_at k mid_now server) tids) (record_same t server) ∙ ap (λ (ops : List Op). changes_at k mid server t ++ ops) (changes_same server tids)

    applied_same : (server : ℕ) → flat_map (changes_at k mid_now server) (commits_found k mid_now said.committed) ≡ flat_map (changes_at k mid server) (commits_found k mid said.committed)
    applied_same server = changes_same server (commits_found k mid_now said.committed) ∙ ap (flat_map (changes_at k mid server)) (found_same said.committed [])

    pub left_on : HoldsLeft k book s said → HoldsLeft k after s said
    left_on c = record {
      files = subst (λ (ops : List Op). IsMadeBy (applied s.files ops) said.files) (sym (applied_same files_no)) c.files;
      audit = subst (λ (ops : List Op). IsMadeBy (applied s.audit ops) said.audit) (sym (applied_same audit_no)) c.audit;
      recorded = every_on (IsToBeRecorded k book said) (IsToBeRecorded k after said) (λ v is names clear. subst (λ (o : Option OnRecord). IsRecorded k after o v) (sym (record_same v.tid v.server.0)) (recorded_on book entry w h k far of_step (record_at k mid v.tid v.server.0) v (is names clear))) said.prepared c.recorded;
      apart = c.apart;
      undone = every_on (IsUndone k book) (IsUndone k after) (undone_on book entry w h k far of_step) said.prepared c.undone;
    }
