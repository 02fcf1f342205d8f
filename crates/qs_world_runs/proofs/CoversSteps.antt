-- In a whole step the last votes of members go on to cover what the log says of them in doubt, and its votes cover more.
use Rattle.qs_world_runs.proofs.Words.{◌≡◌, inl, inr, ℕ, ◌<◌, ◌≤◌, ◌==◌, ◌&&◌, ◌||◌, ◌++◌, not, Bool, true, false, List, [], ◌∷◌, Option, Some, None, refl, sym, ap, subst, ◌∙◌, fold, same_tid-self, Member, ServerNo, Tid, Act, BookValue, cell_of_transaction, inc_at, has_vote, is_recoverable, is_among, is_commit, Cell, Op, Record, Prepared, Recovery, found_record, names_transaction, recovery, work_on, after_step, effects_of, step_work, end_record, Event, member_of, Participant, Source, Host}
use Rattle.qs_world_runs.proofs.Words.{Opening, World, StepMay, step_may, HasCommitted, Every, IsApart, HoldsNodeAt, HoldsUp, every_two, in_runs, LastsWell, every_on, MakesStep, HasCast, IsSource, IsOfPrepare, IsVoteDue, Joined, book_in, entries_in, CoversAt, not-true, and_parts, some_same, eqb-self}
use Rattle.qs_base.specs.declared.identifiers.Outcome.{Outcome}
use Rattle.qs_base.specs.declared.identifiers.Outcome.TheVariants as outcomes
use Rattle.qs_book_machine.specs.Lawful.{IsLawful}
use Rattle.qs_book_machine.specs.declared.transaction.Cell.TheVariants as cells
use Rattle.qs_ops.specs.declared.vote.Vote.TheVariants as votes
use Rattle.qs_record.specs.declared.record.Record.TheVariants as made
use Rattle.qs_restart.specs.Recovery.{is_in_doubt}
use Rattle.qs_node_step.specs.State.{NodeValue}
use Rattle.qs_tm.specs.Manager as tm
use Rattle.qs_world_lawful.specs.Logged.{IsKnown, IsPrepared}
use Rattle.qs_world_runs.specs.CoversAhead.{IsCovered}
use Rattle.qs_world_runs.proofs.CountsOn.{IsAheadAt, IsCastIn}
use Rattle.qs_world_runs.proofs.DueVotes.{steps_vote_due}
use Rattle.qs_world_runs.proofs.JoinedLogged.{every_made}
use Rattle.qs_world_runs.proofs.JoinedWays.{lasts_now}
use Rattle.qs_world_runs.proofs.RecordSteps.{steps_make_records}
use Rattle.qs_world_runs.proofs.VotesShut.{vote_keeps}
use Rattle.qs_world_runs.proofs.CoversCounts.{ahead_first, cast_last, casts, counts}
use Rattle.qs_world_runs.proofs.CoversRecords.{all_records, at_place, every_place, low_of}

module _ (P : Opening → World → Type 0) (o : Opening) (world : World) (j : Joined P o world) (h : CoversAt o world) (n stamp free : ℕ) (source : Source) (event : Event) (makes : MakesStep world n stamp source event)
    (lawful : IsLawful (book_in o world) (entries_in world n stamp free event)) where
  abbrev book : BookValue
  book = book_in o world

  abbrev host : Host
  host = world.hosts n

  abbrev node : NodeValue
  node = host.node

  abbrev done : List Act
  done = (effects_of node event free).entries

  abbrev batch : List Record
  batch = (effects_of node event free).records

  abbrev log : Recovery
  log = recovery (host.log ++ host.waiting)

  its : StepMay world n source
  its = step_may world n stamp source makes.may

  pub at : HoldsNodeAt book world n
  at = j.held.nodes n its.low

  pub up : HoldsUp n book at.state host
  up = at.runs its.runs

  well : LastsWell book
  well = lasts_now o world j.opens j.lawful

  committed : (tid : Tid) → is_among log.committed tid ≡ true → HasCommitted book tid
  committed tid among = every_made book n up.log.state (in_runs o world.journal j.opens j.lawful) up.log.there log.committed up.log.all.commits tid among

  -- ---- through the step

  -- ---- what the log says in doubt

  -- what is known of each vote of the log
  pub record VoteNow (v : Prepared) : Type 0 where
    pub low : v.server.0 < 7
    pub covered : IsCovered node.manager v
    pub knows : is_in_doubt v ≡ true → IsPrepared (tm.part_of v.tid node.manager)
    pub apart : is_in_doubt v ≡ true → is_among log.committed v.tid ≡ false

  doubt_is : (v : Prepared) → is_in_doubt v ≡ true → (names_transaction v.tid ≡ true) × (v.committed ≡ false)
  doubt_is v is = let p = and_parts (names_transaction v.tid) (not v.committed) is in (p.0, not-true v.committed p.1)

  pub votes_now : Every VoteNow log.prepared
  votes_now = every_two (λ (v : Prepared). (is_recoverable v.server.0 ≡ true) × IsCovered node.manager v) (λ (v : Prepared). IsKnown node.manager v × IsApart log v) VoteNow
      (λ v a b. record { low = low_of v.server a.0; covered = a.1; knows = λ is. let d = doubt_is v is in b.0 d.0 d.1; apart = λ is. let d = doubt_is v is in b.1 d.0 d.1 }) log.prepared
      (every_two (λ (v : Prepared). is_recoverable v.server.0 ≡ true) (IsCovered node.manager) (λ (v : Prepared). (is_recoverable v.server.0 ≡ true) × IsCovered node.manager v) (λ v a b. (a, b)) log.prepared up.log.all.kinds (h n its.low its.runs))
      (every_two (IsKnown node.manager) (IsApart log) (λ (v : Prepared). IsKnown node.manager v × IsApart log v) (λ v a b. (a, b)) log.prepared up.log.knows.votes up.said.apart)

  -- where it stands in doubt its member is known, with how much it served
  pub record StartsAhead (v : Prepared) : Type 0 where
    pub low : v.server.0 < 7
    pub apart : is_among log.committed v.tid ≡ false
    pub part : Participant
    pub known : tm.part_of v.tid node.manager ≡ Some part
    pub involved : part.involved ≡ true
    pub cast : HasCast v.covers (member_of part v.server)
    pub ahead : IsAheadAt v.tid v.server low v.covers (member_of part v.server).served (work_on node free)

  pub starts_ahead : (v : Prepared) → VoteNow v → is_in_doubt v ≡ true → StartsAhead v
  starts_ahead v now is = by (tm.part_of v.tid node.manager) refl (now.knows is)
    where
      by : (x : Option Participant) → tm.part_of v.tid node.manager ≡ x → IsPrepared x → StartsAhead v
      by None none prepared = absurd prepared
      by (Some part) known prepared = let cast : HasCast v.covers (member_of part v.server) = now.covered is part known in record {
        low = now.low;
        apart = now.apart is;
        part = part;
        known = known;
        involved = (up.log.knows.parts v.tid part known).involved prepared;
        cast = cast;
        ahead = ahead_first P o world j n stamp free source event makes v.tid v.server now.low (now.apart is) part known ((up.log.knows.parts v.tid part known).involved prepared) v.covers cast;
      }

  abbrev Then : Prepared → Type 0
  Then = IsCovered (after_step node event free).manager

  old_then : (v : Prepared) → VoteNow v → Then v
  old_then v now is part known = let a : StartsAhead v = starts_ahead v now is in
      cast_last P o world j n stamp free source event makes v.tid v.server a.low a.apart v.covers (member_of a.part v.server).served ((counts P o world j n stamp free source event makes v.tid v.server a.low a.apart).keeps v.covers (member_of a.part v.server).served a.ahead) part known

  -- ---- its own Prepares

  clash_cells : Some cells.Abort ≡ Some cells.Commit → ⊥
  clash_cells e = cc e

  -- a vote of what is committed is not due
  due_uncommitted : (tid : Tid) (member : Member) (covers : ℕ) → IsVoteDue book tid member (inc_at book (record { 0 = n })) covers → is_among log.committed tid ≡ false
  due_uncommitted tid member covers due = by (is_among log.committed tid) refl
    where
      off : (a b c : Bool) → ((a && not b) && c) ≡ true → b ≡ false
      off a false c e = refl
      off true true c e = absurd (cc e)
      off false true c e = absurd (cc e)

      by : (b : Bool) → is_among log.committed tid ≡ b → is_among log.committed tid ≡ false
      by false is = is
      by true among = absurd (let is : due.tx.cell ≡ cells.Commit = some_same (sym (ap cell_of_transaction due.found) ∙ committed tid among) in cc (off _ (is_commit due.tx.cell) _ due.due, ap is_commit is))

  pub record OwnVote (tid : Tid) (server : ServerNo) (covers : ℕ) : Type 0 where
    pub low : server.0 < 7
    pub keeps : has_vote server.0 votes.Recoverable ≡ true
    pub due : IsVoteDue book tid (record { node = node.setting.node; server = server }) (inc_at book (record { 0 = n })) covers
    pub apart : is_among log.committed tid ≡ false
    pub cast : IsAheadAt tid server low covers 0 (step_work node event free) × ((c z : ℕ) → IsAheadAt tid server low c z (work_on node free) → z ≤ covers)

  pub own_vote : (tid : Tid) (server : ServerNo) (covers : ℕ) (changes : List Op) (before after : List Record) → batch ≡ before ++ made.Prepare tid server covers changes ∷ after → IsSource node event done (made.Prepare tid server covers changes) → OwnVote tid server covers
  own_vote tid server covers changes before after is (inr (inl told)) = absurd (never told.outcome told.is)
    where
      never : (outcome : Outcome) → made.Prepare tid server covers changes ≡ end_record told.tid outcome → ⊥
      never outcomes.Commit e = cc e
      never outcomes.Abort e = cc e
  own_vote tid server covers changes before after is (inr (inr (inl last))) = absurd (let e : made.Prepare tid server covers changes ≡ made.End last.tid = last.is in cc e)
  own_vote tid server covers changes before after is (inr (inr (inr resumed))) = absurd (let e : made.Prepare tid server covers changes ≡ made.Aborted resumed.tid = resumed.is in cc e)
  own_vote tid server covers changes before after is (inl entered) = record {
    low = below;
    keeps = keeps;
    due = due;
    apart = uncommitted;
    cast = at_place (IsCastIn tid server below (work_on node free) (step_work node event free)) before (made.Prepare tid server covers changes) after
        (subst (λ (rs : List Record). Every (IsCastIn tid server below (work_on node free) (step_work node event free)) rs) is (casts P o world j n stamp free source event makes tid server below uncommitted)) (same_tid-self tid) (eqb-self server.0);
  }
    where
      member : Member
      member = record { node = node.setting.node; server = server }

      due : IsVoteDue book tid member (inc_at book (record { 0 = n })) covers
      due = steps_vote_due tid n stamp node event free book well.inv lawful member votes.Recoverable covers entered.0

      uncommitted : is_among log.committed tid ≡ false
      uncommitted = due_uncommitted tid member covers due

      keeps : has_vote server.0 votes.Recoverable ≡ true
      keeps = vote_keeps n stamp done book tid member covers lawful entered.0

      below : server.0 < 7
      below = low_of server (wider (server.0 == 0) (server.0 == 1) (server.0 == 6) keeps)
        where
          wider : (a b c : Bool) → (a || b) ≡ true → (a || (b || c)) ≡ true
          wider true b c e = refl
          wider false true c e = refl
          wider false false c e = absurd (cc e)

  own_then : (rec : Record) (before after : List Record) → batch ≡ before ++ rec ∷ after → IsSource node event done rec → IsOfPrepare Then rec
  own_then (made.Prepare tid server covers changes) before after is from = let v : OwnVote tid server covers = own_vote tid server covers changes before after is from in λ doubt part known. cast_last P o world j n stamp free source event makes tid server v.low v.apart covers 0 v.cast.0 part known
  own_then (made.Commit tid told) before after is from = tt
  own_then (made.Aborted tid) before after is from = tt
  own_then (made.End tid) before after is from = tt

  pub source_at : (rec : Record) (before after : List Record) → batch ≡ before ++ rec ∷ after → IsSource node event done rec
  source_at rec before after is = at_place (IsSource node event done) before rec after (subst (λ (rs : List Record). Every (IsSource node event done) rs) is (steps_make_records node event free).sources)

  -- ---- after it

  pub covers_then : Every (IsCovered (after_step node event free).manager) (fold found_record log batch).prepared
  covers_then = all_records Then (λ v q is. absurd (never v is)) batch log (every_on VoteNow Then old_then log.prepared votes_now)
      (every_place (IsOfPrepare Then) batch [] batch refl (λ rec before after is. own_then rec before after is (source_at rec before after is)))
    where
      never : (v : Prepared) → (names_transaction v.tid && not true) ≡ true → ⊥
      never v is = by (names_transaction v.tid) is
        where
          by : (b : Bool) → (b && false) ≡ true → ⊥
          by true e = cc e
          by false e = cc e
