-- What is on record at the node of a whole step stays known there; and its votes are fresh.
use Rattle.qs_world_runs.proofs.Words.{◌≡◌, ◌⊎◌, inl, inr, ℕ, ◌==◌, ◌||◌, ◌++◌, Bool, true, false, List, [], ◌∷◌, Option, Some, None, refl, sym, ap, subst, ◌∙◌, fold, list_any, is_some, slice_get, same_tid-true, Member, ServerNo, Tid, Act, BookValue, book_after, is_among, is_found_as, OnRecord, Record, Recovery, found_record, recovery, names_transaction, after_step, effects_of, end_record, Event, Source, entries_of, Host, Opening, World, StepMay, step_may, is_aborted_of, is_end_of, HasAborted}
use Rattle.qs_world_runs.proofs.Words.{HasCommitted, Every, IsVoteLogged, found_votes, HoldsNodeAt, HoldsUp, in_runs, LastsWell, every_on, is_found_in, of_votes, to_votes, MakesStep, IsSource, EntersVote, IsVoteDue, Joined, book_in, entries_in, is_recording, some_same}
use Rattle.qs_base.specs.declared.identifiers.Outcome.{Outcome}
use Rattle.qs_base.specs.declared.identifiers.Outcome.TheVariants as outcomes
use Rattle.qs_book_machine.specs.Lawful.{IsLawful}
use Rattle.qs_book_machine.specs.Nodes as machine
use Rattle.qs_book_machine.specs.declared.transaction.Cell.TheVariants as cells
use Rattle.qs_ops.specs.declared.vote.Vote.TheVariants as votes
use Rattle.qs_record.specs.declared.record.Record.TheVariants as made
use Rattle.qs_node_step.specs.State.{NodeValue}
use Rattle.qs_world_runs.specs.CutRecords.{IsLastTold}
use Rattle.qs_world_runs.specs.OnRecord.{IsFreshVote, IsInLog, KeepsAbort, RecordsKnown}
use Rattle.qs_world_runs.specs.RecordLaws.{RecordsAt}
use Rattle.qs_world_runs.proofs.AbortsKept.{abort_stays, aborted_kept, unvoted}
use Rattle.qs_world_runs.proofs.DueVotes.{restless, steps_vote_due}
use Rattle.qs_world_runs.proofs.JoinedLogged.{every_made}
use Rattle.qs_world_runs.proofs.JoinedWays.{lasts_now}
use Rattle.qs_world_runs.proofs.LogHas.{committed_all, has_all, put_all}
use Rattle.qs_world_runs.proofs.RecordSteps.{steps_make_records, steps_put_votes}
use Rattle.qs_world_runs.proofs.RecordsFrom.{From, all_from}
use Rattle.qs_world_runs.proofs.VotesRecorded.{found_covers, found_named, is_in, put_in, vote_in}

-- ---- a whole step

module _ (P : Opening → World → Type 0) (o : Opening) (world : World) (j : Joined P o world) (h : RecordsAt o world) (n stamp free : ℕ) (source : Source) (event : Event) (makes : MakesStep world n stamp source event)
    (lawful : IsLawful (book_in o world) (entries_in world n stamp free event)) where
  abbrev book : BookValue
  book = book_in o world

  abbrev host : Host
  host = world.hosts n

  abbrev node : NodeValue
  node = host.node

  abbrev done : List Act
  done = (effects_of node event free).entries

  abbrev batch : List Record
  batch = (effects_of node event free).records

  abbrev log : Recovery
  log = recovery (host.log ++ host.waiting)

  its : StepMay world n source
  its = step_may world n stamp source makes.may

  at : HoldsNodeAt book world n
  at = j.held.nodes n its.low

  up : HoldsUp n book at.state host
  up = at.runs its.runs

  well : LastsWell book
  well = lasts_now o world j.opens j.lawful

  committed : (tid : Tid) → is_among log.committed tid ≡ true → HasCommitted book tid
  committed tid among = every_made book n up.log.state (in_runs o world.journal j.opens j.lawful) up.log.there log.committed up.log.all.commits tid among

  -- ---- what is on record after it

  -- a commit that is ended stands in the log
  ended : (tid : Tid) (rs : List Record) → Every (IsSource node event done) rs → list_any (is_end_of tid) rs ≡ true → is_among log.committed tid ≡ true
  ended tid [] from some = absurd (cc some)
  ended tid (rec ∷ rs) from some = by (is_end_of tid rec) refl some (ended tid rs from.1)
    where
      last_told : (t : Tid) → IsLastTold node (made.End t) → is_among log.committed t ≡ true
      last_told t told = subst (λ (x : Tid). is_among log.committed x ≡ true) (sym (same told.is)) ((up.log.knows.parts told.tid told.part told.known).has_commit told.listed)
        where
          same : {x y : Tid} → made.End x ≡ made.End y → x ≡ y
          same e = cc e

      never_told : (t : Tid) (x : Tid) (outcome : Outcome) → made.End t ≡ end_record x outcome → ⊥
      never_told t x outcomes.Commit e = cc e
      never_told t x outcomes.Abort e = cc e

      of : (t : Tid) → IsSource node event done (made.End t) → is_among log.committed t ≡ true
      of t (inl never) = absurd never
      of t (inr (inl told)) = absurd (never_told t told.tid told.outcome told.is)
      of t (inr (inr (inl last))) = last_told t last
      of t (inr (inr (inr resumed))) = absurd (let e : made.End t ≡ made.Aborted resumed.tid = resumed.is in cc e)

      first : (r : Record) → IsSource node event done r → is_end_of tid r ≡ true → is_among log.committed tid ≡ true
      first (made.Prepare t server covers changes) so is = absurd (cc is)
      first (made.Commit t told) so is = absurd (cc is)
      first (made.Aborted t) so is = absurd (cc is)
      first (made.End t) so is = subst (λ (x : Tid). is_among log.committed x ≡ true) (sym (same_tid-true tid t is)) (of t so)

      by : (b : Bool) → is_end_of tid rec ≡ b → (b || list_any (is_end_of tid) rs) ≡ true → (list_any (is_end_of tid) rs ≡ true → is_among log.committed tid ≡ true) → is_among log.committed tid ≡ true
      by true now more rest = first rec from.0 now
      by false far more rest = rest more

  abbrev longer : Recovery
  longer = fold found_record log batch

  pub known_then : (state : machine.NodeValue) → slice_get (book_after book (entries_of n stamp done)).nodes n ≡ Some state → RecordsKnown state (after_step node event free).manager longer
  known_then state there tid s rec has = by (list_any (is_aborted_of tid) batch) refl (list_any (is_end_of tid) batch) refl
    where
      from : From n (book_after book (entries_of n stamp done)) at.state (λ t k. list_any (is_recording t k) done)
      from = all_from n stamp done (restless node event free) book well.inv lawful at.state at.there

      same : state ≡ from.next
      same = some_same (sym there ∙ from.there)

      some_rec : is_some (machine.record_of from.next tid s) ≡ true
      some_rec = ap is_some (subst (λ (x : machine.NodeValue). machine.record_of x tid s ≡ Some rec) same has)

      named_now : list_any (is_recording tid s) done ≡ true → names_transaction tid ≡ true
      named_now recording = let r = vote_in tid s done recording in let d : IsVoteDue book tid r.member _ r.covers = steps_vote_due tid n stamp node event free book well.inv lawful r.member votes.Recoverable r.covers r.enters in up.log.named tid (ap is_some d.found)

      kept_on : list_any (is_aborted_of tid) batch ≡ false → list_any (is_end_of tid) batch ≡ false → KeepsAbort node.manager tid ⊎ IsInLog log (machine.voter tid s) → KeepsAbort (after_step node event free).manager tid ⊎ IsInLog longer (machine.voter tid s)
      kept_on stands unended (inl kept) = inl (abort_stays world j.shown n stamp free source event makes tid kept)
      kept_on stands unended (inr (inl among)) = inr (inl (committed_all tid batch log among))
      kept_on stands unended (inr (inr found)) = inr (has_all tid s (found_named tid s log.prepared (to_votes (machine.voter tid s) 0 log found)) batch log stands unended (inr found))

      was : list_any (is_aborted_of tid) batch ≡ false → list_any (is_end_of tid) batch ≡ false → (o : Option OnRecord) → machine.record_of at.state tid s ≡ o → is_some (machine.record_of at.state tid s) ≡ true → KeepsAbort (after_step node event free).manager tid ⊎ IsInLog longer (machine.voter tid s)
      was stands unended None none some = absurd (cc (sym (ap is_some none) ∙ some))
      was stands unended (Some old) is some = kept_on stands unended (h n its.low its.runs at.state at.there tid s old is)

      of : list_any (is_aborted_of tid) batch ≡ false → list_any (is_end_of tid) batch ≡ false → (is_some (machine.record_of at.state tid s) ≡ true) ⊎ (list_any (is_recording tid s) done ≡ true) → KeepsAbort (after_step node event free).manager tid ⊎ IsInLog longer (machine.voter tid s)
      of stands unended (inl some) = was stands unended (machine.record_of at.state tid s) refl some
      of stands unended (inr recording) = inr (put_all tid s (named_now recording) batch log stands unended (put_in tid s batch done (steps_put_votes node event free) recording))

      by : (a : Bool) → list_any (is_aborted_of tid) batch ≡ a → (e : Bool) → list_any (is_end_of tid) batch ≡ e → KeepsAbort (after_step node event free).manager tid ⊎ IsInLog longer (machine.voter tid s)
      by true aborted e ends = inl (aborted_kept world j.shown n stamp free source event makes tid aborted)
      by false stands true ends = inr (inl (committed_all tid batch log (ended tid batch (steps_make_records node event free).sources ends)))
      by false stands false unended = of stands unended (from.from tid s some_rec)

  -- ---- its votes

  abbrev FreshIn : Record → Type 0
  FreshIn = IsFreshVote book at.state log

  vote_fresh : (tid : Tid) (server : ServerNo) (covers : ℕ) (member : Member) → EntersVote tid member votes.Recoverable covers done → (rec : OnRecord) → machine.record_of at.state tid server.0 ≡ Some rec → HasAborted book tid
      → list_any (is_found_as (machine.voter tid server.0) rec.covers) (found_votes log) ≡ false → (rec.covers == covers) ≡ false
  vote_fresh tid server covers member enters rec has aborted none = by (h n its.low its.runs at.state at.there tid server.0 rec has)
    where
      undone : is_among log.committed tid ≡ true → ⊥
      undone among = clash (sym aborted ∙ committed tid among)
        where
          clash : Some cells.Abort ≡ Some cells.Commit → ⊥
          clash e = cc e

      covered : (is_found_in (machine.voter tid server.0) rec.covers log.prepared ≡ true) ⊎ (is_among log.committed tid ≡ true) → ⊥
      covered (inl found) = cc (of_votes (machine.voter tid server.0) rec.covers log found, none)
      covered (inr among) = undone among

      by : KeepsAbort node.manager tid ⊎ IsInLog log (machine.voter tid server.0) → (rec.covers == covers) ≡ false
      by (inl kept) = absurd (unvoted world j.shown n stamp free source event makes tid kept member.server.0 (put_in tid member.server.0 batch done (steps_put_votes node event free) (is_in tid member covers done enters)))
      by (inr (inl among)) = absurd (undone among)
      by (inr (inr found)) = absurd (covered (found_covers n book at.state log tid server.0 rec has log.prepared logged (to_votes (machine.voter tid server.0) 0 log found)))
        where
          logged : Every (IsVoteLogged n book at.state log) log.prepared
          logged = subst (λ (x : machine.NodeValue). Every (IsVoteLogged n book x log) log.prepared) (some_same (sym up.log.there ∙ at.there)) up.log.all.votes

  fresh_one : (rec : Record) → IsSource node event done rec → FreshIn rec
  fresh_one (made.Commit t told) so = tt
  fresh_one (made.Aborted t) so = tt
  fresh_one (made.End t) so = tt
  fresh_one (made.Prepare tid server covers changes) (inl entered) = vote_fresh tid server covers (record { node = node.setting.node; server = server }) entered.0
  fresh_one (made.Prepare tid server covers changes) (inr (inl told)) = absurd (never told.outcome told.is)
    where
      never : (outcome : Outcome) → made.Prepare tid server covers changes ≡ end_record told.tid outcome → ⊥
      never outcomes.Commit e = cc e
      never outcomes.Abort e = cc e
  fresh_one (made.Prepare tid server covers changes) (inr (inr (inl last))) = absurd (let e : made.Prepare tid server covers changes ≡ made.End last.tid = last.is in cc e)
  fresh_one (made.Prepare tid server covers changes) (inr (inr (inr resumed))) = absurd (let e : made.Prepare tid server covers changes ≡ made.Aborted resumed.tid = resumed.is in cc e)

  pub votes_fresh : (state : machine.NodeValue) → slice_get book.nodes n ≡ Some state → Every (IsFreshVote book state log) batch
  votes_fresh state there = subst (λ (x : machine.NodeValue). Every (IsFreshVote book x log) batch) (some_same (sym at.there ∙ there)) (every_on (IsSource node event done) FreshIn fresh_one batch (steps_make_records node event free).sources)
