-- A step commits of what began elsewhere only what the log of its home has committed: it had the vote in doubt before, and the home's Commit names it for as long.
use Rattle.qs_world_runs.proofs.Words.{◌≡◌, ◌≢◌, ◌⊎◌, inl, inr, ℕ, ◌<◌, ◌==◌, ◌||◌, ◌&&◌, ◌++◌, not, nat_lt, Bool, true, false, List, [], ◌∷◌, Option, Some, None, is_some, refl, sym, ap, subst, ◌∙◌, arith, if◌then◌else◌, nat_tests, list_any-append, fold-append, list_all, list_any, same_tid-true, same_tid, NodeNo, ServerNo, Tid, same_node, Act, find_transaction, inc_at, is_among, is_committed, TransactionValue, is_commit, is_unanimous, Record, Recovery, found_record, names_transaction}
use Rattle.qs_world_runs.proofs.Words.{nothing_said, recovery, effects_of, end_record, Effects, Event, book_of, opened_from, Source, log_after, Host, Opening, World, Committed, may_be_known, IsShown, stage_of, StepMay, step_may, Every, IsCommitLogged, opens_soundly, every_among, lasts_first, lasts_ran, LastsWell, opened_numbered, opening_named, of_some, MakesStep, IsSource, EntersVote, IsVoteDue, Joined, book_in, PlacesAt, eqb-self}
use Rattle.qs_base.specs.declared.identifiers.Outcome.{Outcome}
use Rattle.qs_base.specs.declared.identifiers.Outcome.TheVariants as outcomes
use Rattle.qs_book_machine.specs.Nodes as machine
use Rattle.qs_book_machine.specs.Transaction.{is_open}
use Rattle.qs_ops.specs.declared.vote.Vote.TheVariants as votes
use Rattle.qs_record.specs.declared.record.Record.TheVariants as records
use Rattle.qs_node_step.specs.Answering.{was_committed}
use Rattle.qs_node_step.specs.Bringing.{is_forced}
use Rattle.qs_node_step.specs.State.{NodeValue}
use Rattle.qs_world.specs.Openings.{is_commit_of}
use Rattle.qs_world_agree.specs.World as agreement
use Rattle.qs_world_refine.specs.MoveLaws.{AllClose}
use Rattle.qs_world_refine.specs.SaidLaws.{is_prepare_of}
use Rattle.qs_world_refine.specs.Sound.{has_doubt}
use Rattle.qs_world_refine.specs.Tidy.{is_tidy_record}
use Rattle.qs_world_refine.proofs.Doubts.{some_of}
use Rattle.qs_world_refine.proofs.DoubtsBefore.{doubt_before}
use Rattle.qs_world_refine.proofs.LeftLogs.{commits_are_records}
use Rattle.qs_world_refine.proofs.NodesAgree.{begun_of}
use Rattle.qs_world_refine.proofs.SaidSteps.{step_forces, step_owns}
use Rattle.qs_world_refine.proofs.SoundParts.{and_both}
use Rattle.qs_world_refine.proofs.SteadyGives.{unbegun_unknown}
use Rattle.qs_world_lawful.proofs.OpenedCommits.{commit_among}
use Rattle.qs_world_runs.specs.CoherentAgain.{HomeLogged, StepCommitsHome}
use Rattle.qs_world_runs.specs.CutVotes.{is_due_vote}
use Rattle.qs_world_runs.proofs.AgreesEach as agrees
use Rattle.qs_world_runs.proofs.CutCommits.{keeps_commits}
use Rattle.qs_world_runs.proofs.WholeSteps.{whole_steps}
use Rattle.qs_world_runs.proofs.DueVotes.{steps_vote_due}
use Rattle.qs_world_runs.proofs.JoinedSteps.{step_lawful}
use Rattle.qs_world_runs.proofs.RecordSteps.{steps_make_records}
use Rattle.qs_world_runs.proofs.RisesRunning.{known_committed}
use Rattle.qs_base_lemmas.proofs.Tests.{never_both, not_never}

-- ---- what the home has committed and another node's log has in doubt, the home's log has committed

pub home_logged : HomeLogged
home_logged tid world n is numbered home_in n_in other was doubt = by (may_be_known world tid) refl
  where
    so : IsShown tid world → list_any (same_tid tid) (recovery (world.hosts tid.home.0).log).committed ≡ true
    so shown =
        let w = shown.machine in
        let logs = shown.shows.seen.shown.logs in
        let cell : w.cell ≡ Committed = shown.shows.kept.now was in
        let vote = some_of tid (recovery (world.hosts n).log).prepared doubt in
        let home_node : w.node w.home ≡ tid.home.0 = ap w.node shown.shows.seen.shown.stage.home ∙ shown.shows.seen.shown.stage.nodes tid.home.0 tid.inc home_in in
        let answered = shown.shows.seen.lawful.answered cell in
        let told = answered.in_log n vote.0 (λ same. other (same ∙ home_node)) ((logs n n_in).prepared vote.0 ∙ vote.1) in
        sym ((logs tid.home.0 home_in).committed refl) ∙ answered.stands told.1

    by : (b : Bool) → may_be_known world tid ≡ b → list_any (same_tid tid) (recovery (world.hosts tid.home.0).log).committed ≡ true
    by true past = so (is.shown tid (begun_of tid world home_in past))
    by false off = absurd (let none : has_doubt tid (recovery (world.hosts n).log) ≡ false = (unbegun_unknown tid world n is.steady n_in numbered off).doubt in cc (none, doubt))

-- one of a list for which a test holds, where another holds for all
pub one_of : {A : Type 0} (p q : A → Bool) (Q : Type 0) → ((x : A) → p x ≡ true → q x ≡ true → Q) → (xs : List A) → list_all p xs ≡ true → list_any q xs ≡ true → Q
one_of p q Q each [] all some = absurd (cc some)
one_of p q Q each (x ∷ xs) all some = by (q x) refl some (one_of p q Q each xs (and_both (p x) _ all).1)
  where
    by : (b : Bool) → q x ≡ b → (b || list_any q xs) ≡ true → (list_any q xs ≡ true → Q) → Q
    by true is some more = each x (and_both (p x) _ all).0 is
    by false is some more = more some

-- ---- of what waits for a force nothing is a vote

none_waits : (tid : Tid) (n q : ℕ) (w : agreement.World) (waiting : List Record) → AllClose tid n q w waiting → list_any (is_prepare_of tid) waiting ≡ true → ⊥
none_waits tid n q w [] closes some = cc some
none_waits tid n q w (records.Prepare u server covers changes ∷ rest) closes some = none_waits tid n q w rest closes.1 (later (same_tid tid u) closes.0 some)
  where
    later : (b : Bool) → b ≡ false → (b || list_any (is_prepare_of tid) rest) ≡ true → list_any (is_prepare_of tid) rest ≡ true
    later true off is = absurd (cc off)
    later false off is = is
none_waits tid n q w (records.Commit u told ∷ rest) closes some = none_waits tid n q w rest closes.1 some
none_waits tid n q w (records.Aborted u ∷ rest) closes some = none_waits tid n q w rest closes.1 some
none_waits tid n q w (records.End u ∷ rest) closes some = none_waits tid n q w rest closes.1 some

-- ---- of a Prepare the step entered the vote

module _ (node : NodeValue) (event : Event) (done : List Act) (tid : Tid) where
  record EntersSome : Type 0 where
    server : ServerNo
    covers : ℕ
    enters : EntersVote tid (record { node = node.setting.node; server = server }) votes.Recoverable covers done

  entered_one : (rec : Record) → IsSource node event done rec → is_prepare_of tid rec ≡ true → EntersSome
  entered_one (records.Prepare u server covers changes) (inl e) is = record { server = server; covers = covers; enters = subst (λ (t : Tid). EntersVote t (record { node = node.setting.node; server = server }) votes.Recoverable covers done) (sym (same_tid-true tid u is)) e.0 }
  entered_one (records.Prepare u server covers changes) (inr (inl told)) is = absurd (let none : is_prepare_of tid (records.Prepare u server covers changes) ≡ is_prepare_of tid (end_record told.tid told.outcome) = ap (is_prepare_of tid) told.is in never told.outcome (sym none ∙ is))
    where
      never : (outcome : Outcome) → is_prepare_of tid (end_record told.tid outcome) ≡ true → ⊥
      never outcomes.Commit e = cc e
      never outcomes.Abort e = cc e
  entered_one (records.Prepare u server covers changes) (inr (inr (inl last))) is = absurd (never_both (same_tid tid u) is (ap (is_prepare_of tid) last.is))
  entered_one (records.Prepare u server covers changes) (inr (inr (inr resumed))) is = absurd (never_both (same_tid tid u) is (ap (is_prepare_of tid) resumed.is))
  entered_one (records.Commit u told) source is = absurd (cc is)
  entered_one (records.Aborted u) source is = absurd (cc is)
  entered_one (records.End u) source is = absurd (cc is)

  entered : (recs : List Record) → Every (IsSource node event done) recs → list_any (is_prepare_of tid) recs ≡ true → EntersSome
  entered [] all some = absurd (cc some)
  entered (rec ∷ recs) all some = by (is_prepare_of tid rec) refl some (entered recs all.1)
    where
      by : (b : Bool) → is_prepare_of tid rec ≡ b → (b || list_any (is_prepare_of tid) recs) ≡ true → (list_any (is_prepare_of tid) recs ≡ true → EntersSome) → EntersSome
      by true is some more = entered_one rec all.0 is
      by false is some more = more some

-- ---- a step

module _ (o : Opening) (world : World) (n stamp free : ℕ) (source : Source) (event : Event) (j : Joined PlacesAt o world) (makes : MakesStep world n stamp source event)
    (tid : Tid) (named : names_transaction tid ≡ true) (home_in : nat_lt tid.home.0 world.size ≡ true) (far : (tid.home.0 == n) ≡ false) where
  abbrev host : Host
  host = world.hosts n

  abbrev out : Effects
  out = effects_of host.node event free

  its : StepMay world n source
  its = step_may world n stamp source makes.may

  low : tid.home.0 < world.size
  low = grind (arith, nat_tests, home_in)

  apart : n ≢ tid.home.0
  apart same = never_both (tid.home.0 == tid.home.0) (eqb-self tid.home.0) (subst (λ (k : ℕ). (tid.home.0 == k) ≡ false) same far)

  forces : list_any (is_commit_of tid) out.records ≡ true → out.force ≡ true
  forces some = step_forces host.node event free (agrees.may world j.shown n stamp free source event makes) (agrees.begins_new world j.shown n stamp free source event makes) (j.shown.steady.sound n its.low).node ∙ wider out.records some
    where
      wider : (recs : List Record) → list_any (is_commit_of tid) recs ≡ true → list_any is_forced recs ≡ true
      wider [] some = absurd (cc some)
      wider (records.Prepare u server covers changes ∷ recs) some = refl
      wider (records.Commit u told ∷ recs) some = refl
      wider (records.Aborted u ∷ recs) some = wider recs some
      wider (records.End u ∷ recs) some = wider recs some

  among : list_any (is_commit_of tid) out.records ≡ true → is_among (recovery (log_after host out)).committed tid ≡ true
  among some = subst (λ (b : Bool). is_among (recovery (if b then host.log ++ (host.waiting ++ out.records) else host.log)).committed tid ≡ true) (sym (forces some))
      (commit_among tid named (host.log ++ (host.waiting ++ out.records)) (behind host.log (host.waiting ++ out.records) (behind host.waiting out.records some)))
    where
      behind : (xs ys : List Record) → list_any (is_commit_of tid) ys ≡ true → list_any (is_commit_of tid) (xs ++ ys) ≡ true
      behind xs ys is = list_any-append (is_commit_of tid) xs ys ∙ last (list_any (is_commit_of tid) xs) is
        where
          last : (b : Bool) → list_any (is_commit_of tid) ys ≡ true → (b || list_any (is_commit_of tid) ys) ≡ true
          last true is = refl
          last false is = is

  -- the reference machine has it committed before the step
  record CommittedBefore : Type 0 where
    tx : TransactionValue
    found : find_transaction (book_in o world) tid ≡ Some tx
    committed : is_commit tx.cell ≡ true

  committed_before : list_any (is_commit_of tid) out.records ≡ true → CommittedBefore
  committed_before some = of (every_among (IsCommitLogged n (book_in o world) state) (recovery (log_after host out)).committed tid (keeps_commits o world n stamp free source event j makes state) (among some))
    where
      state : machine.NodeValue
      state = record (j.held.nodes n its.low).state { committed = [] }

      cell : (a b c : Bool) → (a || ((b && (tid.home.0 == n)) && c)) ≡ true → a ≡ true
      cell true b c is = refl
      cell false true c is = absurd (let off : ((tid.home.0 == n) && c) ≡ false = rw far refl in cc (off, is))
      cell false false c is = absurd (cc is)

      at : (x : Option TransactionValue) → find_transaction (book_in o world) tid ≡ x → is_committed n tid x ≡ true → CommittedBefore
      at None none is = absurd (cc is)
      at (Some tx) found is = record { tx = tx; found = found; committed = cell (is_commit tx.cell) (is_open tx.cell) (is_unanimous tx) is }

      of : IsCommitLogged n (book_in o world) state tid → CommittedBefore
      of (inl is) = absurd (cc is)
      of (inr is) = at (find_transaction (book_in o world) tid) refl is

  -- and so has its home
  home_had : CommittedBefore → was_committed tid (world.hosts tid.home.0).node ≡ true
  home_had c = known_committed (world.hosts tid.home.0).node tid (sym (j.shown.steady.seated.node tid.home.0 low)) (j.shown.steady.nodes tid.home.0 low).tidy.crossed (j.homes tid c.tx c.found c.committed home_in)

  -- its log had it in doubt, on the disk
  on_disk : has_doubt tid (recovery (host.log ++ host.waiting)) ≡ true → has_doubt tid (recovery host.log) ≡ true
  on_disk doubt = of (doubt_before tid host.waiting (recovery host.log) (subst (λ (said : Recovery). has_doubt tid said ≡ true) (fold-append found_record nothing_said host.log host.waiting) doubt))
    where
      waits : (b : Bool) → may_be_known world tid ≡ b → list_any (is_prepare_of tid) host.waiting ≡ true → ⊥
      waits true past some = let shown = j.shown.shown tid (begun_of tid world low past) in none_waits tid n _ shown.machine host.waiting (shown.shows.seen.closes n its.low its.runs) some
      waits false off some = one_of (is_tidy_record (stage_of world n)) (is_prepare_of tid) ⊥ (λ rec tidy is. never_both (may_be_known world tid) (past_one rec tidy is) off) host.waiting (j.shown.steady.nodes n its.low).waiting some
        where
          past_one : (r : Record) → is_tidy_record (stage_of world n) r ≡ true → is_prepare_of tid r ≡ true → may_be_known world tid ≡ true
          past_one (records.Prepare u server covers changes) tidy is = subst (λ (t : Tid). may_be_known world t ≡ true) (sym (same_tid-true tid u is)) (and_both (may_be_known world u) _ tidy).0
          past_one (records.Commit u told) tidy is = absurd (cc is)
          past_one (records.Aborted u) tidy is = absurd (cc is)
          past_one (records.End u) tidy is = absurd (cc is)

      of : (has_doubt tid (recovery host.log) ≡ true) ⊎ (list_any (is_prepare_of tid) host.waiting ≡ true) → has_doubt tid (recovery host.log) ≡ true
      of (inl is) = is
      of (inr some) = absurd (waits (may_be_known world tid) refl some)

  -- what is committed no step votes for
  well : LastsWell (book_in o world)
  well = lasts_ran world.journal (book_of o) (lasts_first (opened_from o 0 o.size) (opens_soundly o j.opens) (opening_named (opened_from o 0 o.size) (opened_numbered o 0 o.size))) j.lawful

  none_prepared : CommittedBefore → list_any (is_prepare_of tid) out.records ≡ true → ⊥
  none_prepared c some = late due.tx c.tx due.found c.found c.committed due.due
    where
      its_vote : EntersSome host.node event out.entries tid
      its_vote = entered host.node event out.entries tid out.records (steps_make_records host.node event free).sources some

      due : IsVoteDue (book_in o world) tid (record { node = host.node.setting.node; server = its_vote.server }) (inc_at (book_in o world) (record { 0 = n })) its_vote.covers
      due = steps_vote_due tid n stamp host.node event free (book_in o world) well.inv (step_lawful PlacesAt whole_steps o world j n stamp free source event makes) (record { node = host.node.setting.node; server = its_vote.server }) votes.Recoverable its_vote.covers its_vote.enters

      late : (tx other : TransactionValue) → find_transaction (book_in o world) tid ≡ Some tx → find_transaction (book_in o world) tid ≡ Some other → is_commit other.cell ≡ true
          → is_due_vote (record { node = host.node.setting.node; server = its_vote.server }) (inc_at (book_in o world) (record { 0 = n })) its_vote.covers tx ≡ true → ⊥
      late tx other found there committed is =
          let same : tx ≡ other = of_some (sym found ∙ there) in
          let shut : is_commit tx.cell ≡ true = subst (λ (t : TransactionValue). is_commit t.cell ≡ true) (sym same) committed in
          not_never (is_commit tx.cell) (and_both (is_some tx.asked) (not (is_commit tx.cell)) (and_both (is_some tx.asked && not (is_commit tx.cell)) _ is).0).1 shut

  off : same_node tid.home host.node.setting.node ≡ false
  off = subst (λ (k : NodeNo). (tid.home.0 == k.0) ≡ false) (sym (j.shown.steady.seated.node n its.low)) far

  pub step_commits_home : list_any (is_commit_of tid) out.records ≡ true → list_any (is_commit_of tid) (world.hosts tid.home.0).log ≡ true
  step_commits_home some = of (step_owns host.node event free (host.log ++ host.waiting) (agrees.may world j.shown n stamp free source event makes) (agrees.begins_new world j.shown n stamp free source event makes)
      (j.shown.steady.sound n its.low).node ((j.shown.steady.sound n its.low).runs its.runs) tid off some)
    where
      c : CommittedBefore
      c = committed_before some

      of : (has_doubt tid (recovery (host.log ++ host.waiting)) ≡ true) ⊎ (list_any (is_prepare_of tid) out.records ≡ true) → list_any (is_commit_of tid) (world.hosts tid.home.0).log ≡ true
      of (inl doubt) = commits_are_records tid (world.hosts tid.home.0).log (home_logged tid world n j.shown named low its.low apart (home_had c) (on_disk doubt))
      of (inr prepared) = absurd (none_prepared c prepared)

pub steps_commit_home : StepCommitsHome PlacesAt
steps_commit_home o world n stamp free source event j makes tid named home_in far some = step_commits_home o world n stamp free source event j makes tid named home_in far some
