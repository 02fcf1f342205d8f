-- Each record of a step fits what the machine had as it began, as far as its votes are of what was pending then: whatever else its log makes, it has a source that says so.
use Rattle.qs_world_runs.proofs.Words.{◌≡◌, inl, inr, ℕ, ◌<◌, ◌≤◌, ◌+◌, ◌&&◌, ◌||◌, ◌++◌, append_assoc, arith, not, Bool, true, false, List, [], ◌∷◌, length, Option, Some, None, refl, sym, ap, subst, ◌∙◌, list_any, is_some, slice_get, same_tid-self, same_tid-true, same_tid, Member, NodeNo, ServerNo, Tid, Act, BookValue, cell_of_transaction, find_transaction, is_among, TransactionValue, is_empty, OnRecord, changes_in, Op, Record, Prepared, Recovery, names_transaction, recovery, server_at}
use Rattle.qs_world_runs.proofs.Words.{effects_of, end_record, Event, InLog, Participant, book_of, opened_from, Source, entries_of, Host, Opening, World, IsRecordSafe, HasCommitted, Every, IsApart, HoldsNodeAt, HoldsUp, opens_soundly, in_runs, lasts_first, lasts_ran, LastsWell, opened_numbered, opening_named, held_at, MakesStep, FitCut, is_record_of, IsSource, commits_of, one_if, EntersVote, IsVoteDue, Joined, book_in, AfterStep, StaysUnanimousThen, WholeSteps, some_same, le_le, or_right}
use Rattle.qs_world_runs.proofs.Words.{not-true}
use Rattle.qs_base.specs.declared.identifiers.Outcome.{Outcome}
use Rattle.qs_base.specs.declared.identifiers.Outcome.TheVariants as outcomes
use Rattle.qs_book_journal.specs.declared.entry.Act.TheVariants as acts
use Rattle.qs_book_laws.specs.Served.{keeps_contents}
use Rattle.qs_book_machine.specs.Book.{pending_in}
use Rattle.qs_book_machine.specs.Lawful.{IsLawful}
use Rattle.qs_book_machine.specs.Nodes as machine
use Rattle.qs_book_machine.specs.Restart.{member_at}
use Rattle.qs_book_machine.specs.declared.transaction.Cell.TheVariants as cells
use Rattle.qs_ops.specs.declared.vote.Vote.TheVariants as votes
use Rattle.qs_record.specs.declared.record.Record.TheVariants as made
use Rattle.qs_restart.specs.Recovery.{is_of}
use Rattle.qs_node_step.specs.State.{NodeValue}
use Rattle.qs_world_refine.proofs.SaysSeen.{said_seen}
use Rattle.qs_world_refine.specs.SaidLaws.{AreSaid, IsSoundOver, no_flags}
use Rattle.qs_world_lawful.specs.Saying.{ArePending}
use Rattle.qs_world_lawful.specs.Holds.{Holds}
use Rattle.qs_world_lawful.proofs.FoundMembers.{and_both}
use Rattle.qs_world_lawful.proofs.SaidHeld.{pending_of}
use Rattle.qs_world_runs.specs.CutBatches.{FitsCut, IsOwnVote, IsVoteOfStart}
use Rattle.qs_world_runs.specs.CutRecords.{IsTold, is_commit_record}
use Rattle.qs_world_runs.specs.Firsts.{is_vote_of}
use Rattle.qs_world_runs.proofs.BatchBeyond.{beyond_now}
use Rattle.qs_world_runs.proofs.BatchCommits.{Commits, commit_is}
use Rattle.qs_world_runs.proofs.BatchSources.{aborted_fits, end_fits}
use Rattle.qs_world_runs.proofs.DueVotes.{steps_vote_due}
use Rattle.qs_world_runs.proofs.JoinedHeld.{true_event}
use Rattle.qs_world_runs.proofs.JoinedLogged.{every_made}
use Rattle.qs_world_runs.proofs.JoinedSteps.{step_lawful, step_low, step_ordered, step_up}
use Rattle.qs_world_runs.proofs.RecordMakes.{commits_both}
use Rattle.qs_world_runs.proofs.RecordSteps.{steps_make_records}
use Rattle.qs_world_runs.proofs.VotesShut.{vote_keeps}

-- what a log has in doubt it has no Commit of
doubt_apart : (tid : Tid) (log : Recovery) → names_transaction tid ≡ true → (votes : List Prepared) → Every (IsApart log) votes → list_any (λ (vote : Prepared). is_of tid vote && not vote.committed) votes ≡ true → is_among log.committed tid ≡ false
doubt_apart tid log named [] apart some = absurd (cc some)
doubt_apart tid log named (vote ∷ votes) apart some = by (is_of tid vote && not vote.committed) refl some (doubt_apart tid log named votes apart.1)
  where
    by : (b : Bool) → (is_of tid vote && not vote.committed) ≡ b → (b || list_any (λ (vote : Prepared). is_of tid vote && not vote.committed) votes) ≡ true
        → (list_any (λ (vote : Prepared). is_of tid vote && not vote.committed) votes ≡ true → is_among log.committed tid ≡ false) → is_among log.committed tid ≡ false
    by true e i more = let p = and_both (is_of tid vote) (not vote.committed) e in let same : vote.tid ≡ tid = same_tid-true vote.tid tid p.0 in
        subst (λ (t : Tid). is_among log.committed t ≡ false) same (apart.0 (ap names_transaction same ∙ named) (not-true vote.committed p.1))
    by false e i more = more i

module _ (P : Opening → World → Type 0) (steps : WholeSteps P) (unanimous : AfterStep P StaysUnanimousThen) (o : Opening) (world : World) (n stamp free : ℕ) (source : Source) (event : Event) (j : Joined P o world) (makes : MakesStep world n stamp source event)
    (state : machine.NodeValue) (there : slice_get (book_in o world).nodes n ≡ Some state) where
  abbrev book : BookValue
  book = book_in o world

  abbrev host : Host
  host = world.hosts n

  abbrev node : NodeValue
  node = host.node

  abbrev done : List Act
  done = (effects_of node event free).entries

  abbrev records : List Record
  records = (effects_of node event free).records

  abbrev log : Recovery
  log = recovery (host.log ++ host.waiting)

  low : n < world.size
  low = step_low P steps o world j n stamp free source event makes

  lawful : IsLawful book (entries_of n stamp done)
  lawful = step_lawful P steps o world j n stamp free source event makes

  well : LastsWell book
  well = lasts_ran world.journal (book_of o) (lasts_first (opened_from o 0 o.size) (opens_soundly o j.opens) (opening_named (opened_from o 0 o.size) (opened_numbered o 0 o.size))) j.lawful

  at : HoldsNodeAt book world n
  at = j.held.nodes n low

  up : HoldsUp n book at.state host
  up = at.runs (step_up P steps o world j n stamp free source event makes)

  me_is : node.setting.node ≡ record { 0 = n }
  me_is = ap (λ (k : ℕ). record { 0 = k }) at.node

  committed : (tid : Tid) → is_among log.committed tid ≡ true → HasCommitted book tid
  committed tid among = every_made book n up.log.state (in_runs o world.journal j.opens j.lawful) up.log.there log.committed up.log.all.commits tid among

  said : AreSaid node log
  said = let sound : IsSoundOver world n = j.shown.steady.sound n low in said_seen node log sound.node (sound.runs (step_up P steps o world j n stamp free source event makes))

  -- what this node has in doubt as it is told has no Commit in its log
  undoubted : (tid : Tid) → HasCommitted book tid → IsTold node event (made.Commit tid []) → is_among log.committed tid ≡ false
  undoubted tid has t = doubt_apart tid log named log.prepared up.said.apart (subst (λ (x : Tid). list_any (λ (vote : Prepared). is_of x vote && not vote.committed) log.prepared ≡ true) (sym same) doubted)
    where
      by : (x : Outcome) → t.outcome ≡ x → made.Commit tid [] ≡ end_record t.tid t.outcome → tid ≡ t.tid
      by outcomes.Commit is e = one (e ∙ ap (end_record t.tid) is)
        where
          one : {x y : Tid} {a b : List NodeNo} → made.Commit x a ≡ made.Commit y b → x ≡ y
          one e = cc e
      by outcomes.Abort is e = absurd (clash (e ∙ ap (end_record t.tid) is))
        where
          clash : made.Commit tid [] ≡ made.Aborted t.tid → ⊥
          clash e = cc e

      same : tid ≡ t.tid
      same = by t.outcome refl t.is

      doubted : list_any (λ (vote : Prepared). is_of t.tid vote && not vote.committed) log.prepared ≡ true
      doubted = sym (said t.tid).prepared ∙ (ap (λ (f : InLog). f.prepared) (ap (λ (x : Option Participant). elim x [ None ↦ no_flags | Some p ↦ p.log ]) t.known) ∙ t.prepared)

      some : (x : Option TransactionValue) → cell_of_transaction x ≡ Some cells.Commit → is_some x ≡ true
      some None e = absurd (cc e)
      some (Some tx) e = refl

      named : names_transaction tid ≡ true
      named = well.named tid (some (find_transaction book tid) has)

  abbrev From : Record → Type 0
  From rec = IsSource node event done rec

  commit_so : (tid : Tid) (told : List NodeNo) → From (made.Commit tid told) → Commits n stamp free node event book well lawful (true_event P steps unanimous o world j n stamp free source event makes) log up.log.knows committed undoubted tid
  commit_so tid told from = commit_is n stamp free node event book well lawful (true_event P steps unanimous o world j n stamp free source event makes) log up.log.knows committed undoubted tid told from

  aborted_so : (tid : Tid) → From (made.Aborted tid) → FitsCut n book state log.committed [] (made.Aborted tid)
  aborted_so tid from = aborted_fits n stamp free node event book well lawful (true_event P steps unanimous o world j n stamp free source event makes) log up.log.knows committed undoubted tid from

  end_so : (tid : Tid) → From (made.End tid) → is_among log.committed tid ≡ true
  end_so tid from = end_fits n stamp free node event book well lawful (true_event P steps unanimous o world j n stamp free source event makes) log up.log.knows committed undoubted tid from

  -- ---- a vote

  -- what the node has pending as the step begins the machine has
  pending_now : (server : ServerNo) (tid : Tid) → keeps_contents server.0 ≡ true → ArePending n book state tid server (changes_in (server_at node.servers server) tid)
  pending_now server tid keeps = subst (λ (s : machine.NodeValue). ArePending n book s tid server (changes_in (server_at node.servers server) tid)) same
      (subst (λ (k : ℕ). ArePending k book held.state tid server (changes_in (server_at node.servers server) tid)) at.node (pending_of stamp book node tid held server keeps))
    where
      held : Holds stamp book node
      held = held_at n stamp book node at.node up.still (j.held.order n stamp (step_ordered P steps o world j n stamp free source event makes))

      same : held.state ≡ state
      same = some_same (sym held.there ∙ (ap (λ (k : ℕ). slice_get book.nodes k) at.node ∙ there))

  entered : (tid : Tid) (server : ServerNo) (covers : ℕ) (changes : List Op) → From (made.Prepare tid server covers changes) → EntersVote tid (member_at n server.0) votes.Recoverable covers done × (is_empty changes ≡ false)
  entered tid server covers changes (inl e) = (subst (λ (k : NodeNo). EntersVote tid (record { node = k; server = server }) votes.Recoverable covers done) me_is e.0, e.1)
  entered tid server covers changes (inr (inl t)) = absurd (by t.outcome t.is)
    where
      by : (x : Outcome) → made.Prepare tid server covers changes ≡ end_record t.tid x → ⊥
      by outcomes.Commit e = cc e
      by outcomes.Abort e = cc e
  entered tid server covers changes (inr (inr (inl t))) = absurd (clash t.is)
    where
      clash : made.Prepare tid server covers changes ≡ made.End t.tid → ⊥
      clash e = cc e
  entered tid server covers changes (inr (inr (inr t))) = absurd (clash t.is)
    where
      clash : made.Prepare tid server covers changes ≡ made.Aborted t.tid → ⊥
      clash e = cc e

  kept_so : (tid : Tid) (server : ℕ) (rec : OnRecord) → machine.record_of state tid server ≡ Some rec → IsRecordSafe book log (machine.voter tid server) rec.covers
  kept_so tid server rec is = up.log.all.kept tid server rec (ap (λ (s : machine.NodeValue). machine.record_of s tid server) (some_same (sym up.log.there ∙ there)) ∙ is)

  vote_fits : (tid : Tid) (server : ServerNo) (covers : ℕ) (changes : List Op) → From (made.Prepare tid server covers changes) → IsVoteOfStart node book state log (made.Prepare tid server covers changes) → IsOwnVote n book state tid server covers changes
  vote_fits tid server covers changes from of = let e : EntersVote tid (member_at n server.0) votes.Recoverable covers done = (entered tid server covers changes from).0 in record {
    keeps = vote_keeps n stamp done book tid (member_at n server.0) covers lawful e;
    due = subst (λ (i : ℕ). IsVoteDue book tid (member_at n server.0) i covers) (ap (λ (x : Option machine.NodeValue). elim x [ None ↦ 0 | Some s ↦ s.inc ]) there)
        (steps_vote_due tid n stamp node event free book well.inv lawful (member_at n server.0) votes.Recoverable covers e);
    of = record {
      has = (entered tid server covers changes from).1;
      pending = λ clean. subst (λ (ops : List Op). machine.pending_at state tid server.0 ≡ ops) (sym of.same) ((pending_now server tid (vote_keeps n stamp done book tid (member_at n server.0) covers lawful e)).changes clean);
      count = λ is. sym (ap (λ (i : ℕ). pending_in (find_transaction book tid) (member_at n server.0) i) (ap (λ (x : Option machine.NodeValue). elim x [ None ↦ 0 | Some s ↦ s.inc ]) there))
          ∙ ((pending_now server tid (vote_keeps n stamp done book tid (member_at n server.0) covers lawful e)).count is ∙ ap length (sym of.same));
      beyond = beyond_now n stamp free node event book well.inv lawful state log kept_so committed tid server covers (entered tid server covers changes from).0 of.beyond of.fresh;
    };
  }

  -- ---- the first record of what is committed

  any_vote : (tid : Tid) (member : Member) (covers : ℕ) → EntersVote tid member votes.Recoverable covers done → list_any (is_vote_of tid) done ≡ true
  any_vote tid member covers e = ap (list_any (is_vote_of tid)) e.is ∙ in_middle e.before
    where
      in_middle : (xs : List Act) → list_any (is_vote_of tid) (xs ++ acts.Vote tid member votes.Recoverable covers ∷ e.after) ≡ true
      in_middle [] = rw (same_tid-self tid) refl
      in_middle (x ∷ xs) = or_right (is_vote_of tid x) _ (in_middle xs)

  none_of : (tid : Tid) → Commits n stamp free node event book well lawful (true_event P steps unanimous o world j n stamp free source event makes) log up.log.knows committed undoubted tid → (before : List Record) → Every From before → commits_of tid before ≡ 0 → list_any (is_record_of tid) before ≡ false
  none_of tid c [] all none = refl
  none_of tid c (rec ∷ before) all none = rw (head rec all.0 (first (is_commit_record tid rec) (commits_of tid before) none)) (none_of tid c before all.1 (rest (one_if (is_commit_record tid rec)) (commits_of tid before) none))
    where
      rest : (a b : ℕ) → a + b ≡ 0 → b ≡ 0
      rest a b e = grind (arith, e)

      first : (b : Bool) (k : ℕ) → one_if b + k ≡ 0 → b ≡ false
      first false k e = refl
      first true k e = absurd (never k e)
        where
          never : (k : ℕ) → 1 + k ≡ 0 → ⊥
          never k e = grind (arith, e)

      head : (r : Record) → From r → is_commit_record tid r ≡ false → is_record_of tid r ≡ false
      head (made.Commit t told) from off = off
      head (made.Prepare t server covers changes) from off = by (same_tid t tid) refl
        where
          by : (b : Bool) → same_tid t tid ≡ b → same_tid t tid ≡ false
          by false e = e
          by true e = absurd (let some : list_any (is_vote_of tid) done ≡ true = subst (λ (x : Tid). list_any (is_vote_of x) done ≡ true) (same_tid-true t tid e) (any_vote t (member_at n server.0) covers (entered t server covers changes from).0) in
              let no_vote : list_any (is_vote_of tid) done ≡ false = c.unvoted in cc (some, no_vote))
      head (made.Aborted t) from off = by (same_tid t tid) refl
        where
          by : (b : Bool) → same_tid t tid ≡ b → same_tid t tid ≡ false
          by false e = e
          by true e = absurd (c.stands (subst (λ (x : Tid). From (made.Aborted x)) (same_tid-true t tid e) from))
      head (made.End t) from off = by (same_tid t tid) refl
        where
          by : (b : Bool) → same_tid t tid ≡ b → same_tid t tid ≡ false
          by false e = e
          by true e = absurd (let among : is_among log.committed tid ≡ true = subst (λ (x : Tid). is_among log.committed x ≡ true) (same_tid-true t tid e) (end_so t from) in let fresh : is_among log.committed tid ≡ false = c.fresh in cc (among, fresh))

  -- ---- record by record

  fit_all : (rest before : List Record) → records ≡ before ++ rest → Every From before → Every From rest → Every (IsVoteOfStart node book state log) rest → FitCut n book state log.committed before rest
  fit_all [] before is front back of = tt
  fit_all (rec ∷ rest) before is front back of = (one rec is back.0 of.0, fit_all rest (before ++ rec ∷ []) (is ∙ sym (append_assoc before (rec ∷ []) rest)) (behind before front) back.1 of.1)
    where
      behind : (xs : List Record) → Every From xs → Every From (xs ++ rec ∷ [])
      behind [] all = (back.0, tt)
      behind (x ∷ xs) all = (all.0, behind xs all.1)

      one : (r : Record) → records ≡ before ++ r ∷ rest → From r → IsVoteOfStart node book state log r → FitsCut n book state log.committed before r
      one (made.Prepare tid server covers changes) so from pending = vote_fits tid server covers changes from pending
      one (made.Commit tid told) so from pending = let c = commit_so tid told from in record {
        named = c.named;
        fresh = c.fresh;
        first = none_of tid c before front (none (commits_of tid before) (commits_of tid rest) (one_if (same_tid tid tid)) (ap one_if (same_tid-self tid))
            (subst (λ (k : ℕ). k ≤ 1) (ap (commits_of tid) so ∙ commits_both tid before (made.Commit tid told ∷ rest)) (le_le _ _ 1 ((steps_make_records node event free).once tid) c.once)));
      }
        where
          none : (a b k : ℕ) → k ≡ 1 → a + (k + b) ≤ 1 → a ≡ 0
          none a b k p q = grind (arith, p, q)
      one (made.Aborted tid) so from pending = aborted_so tid from
      one (made.End tid) so from pending = end_so tid from

  pub batch_fits : Every (IsVoteOfStart node book state log) records → FitCut n book state log.committed [] records
  batch_fits of = fit_all records [] refl tt (steps_make_records node event free).sources of
