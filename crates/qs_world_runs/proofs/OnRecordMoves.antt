-- What is on record at a node that runs is known there as a run begins, and after each move.
use Rattle.qs_world_runs.proofs.Words.{◌≡◌, ◌⊎◌, inl, inr, ℕ, ◌<◌, ◌==◌, ◌&&◌, ◌++◌, append-nil, append_assoc, Bool, true, false, List, [], ◌∷◌, Option, Some, None, refl, sym, ap, subst, ◌∙◌, fold, arith, nat_le, if◌then◌else◌, eqb-true, nat_tests, fold-append, list_any, lookup, option_map, is_at, slice_get, same_tid, Tid, Act, CrashCause, changed_at_here, BookValue, book_after, effect, put_new_votes, OnRecord, Voter, Record, Prepared, Recovery, found_record, names_transaction, nothing_said}
use Rattle.qs_world_runs.proofs.Words.{recovery, recovered_of, after_step, effects_of, Effects, Event, book_of, Cut, Meet, Move, Rise, Source, Step, Stop, cut_log, cut_with, event_of, log_after, may_move, moved, risen_host, step_with, stepped_host, stopped, stopped_host, taken_by, waiting_after, entries_of, entry_of, Host, Opening, World, up_taken, up_all, doubt_at, found_votes, rise_entry, HoldsNodeAt, is_found_in, of_votes, state, state_there, MakesStep, Joined, book_in, some_same}
use Rattle.qs_world_runs.proofs.Words.{apart_turned}
use Rattle.qs_base.specs.declared.identifiers.Outcome.TheVariants as outcomes
use Rattle.qs_book_journal.specs.declared.entry.Act.TheVariants as acts
use Rattle.qs_book_laws.proofs.Faces.{vote_by}
use Rattle.qs_book_laws.proofs.FoundOnly.{recorded_was}
use Rattle.qs_book_laws.proofs.Holding.{restart_nodes}
use Rattle.qs_book_laws.proofs.Holds.{elsewhere}
use Rattle.qs_book_laws.proofs.Stills.{Facet, facet, facet_at}
use Rattle.qs_book_machine.specs.Book.{changed_at, doubts_after, learn_node}
use Rattle.qs_book_machine.specs.Lawful.{IsLawful}
use Rattle.qs_book_machine.specs.Nodes as machine
use Rattle.qs_book_machine.specs.Restart.{is_found, new_votes, reopened, restarted_node, with_votes, without_records}
use Rattle.qs_ops.specs.declared.vote.Vote.TheVariants as votes
use Rattle.qs_world.specs.Openings.{is_doubt}
use Rattle.qs_world_refine.proofs.SoundParts.{and_both}
use Rattle.qs_world_lawful.proofs.LogActs.{plain_facets, with_facet}
use Rattle.qs_world_lawful.proofs.LogRecords.{found_is}
use Rattle.qs_world_lawful.proofs.LogRecords as log_records
use Rattle.qs_world_lawful.proofs.OpenedFresh.{doubtful, one}
use Rattle.qs_world_lawful.proofs.OpenedRecords.{all_put, doubt_found, record_for}
use Rattle.qs_world_lawful.proofs.OpenedVotes.{as_pending, last_as}
use Rattle.qs_world_lawful.proofs.Reopened.{doubt_is}
use Rattle.qs_world_runs.specs.OnRecord.{HostKnown, RecordsKnown}
use Rattle.qs_world_runs.specs.RecordLaws.{MovesKeepRecords, OpensRecords, RecordsAt, VotesAreFresh}
use Rattle.qs_world_runs.proofs.JoinedParts.{book_on, lawful_more}
use Rattle.qs_world_runs.proofs.OnRecordSteps.{known_then, votes_fresh}

-- ---- what another node does

module _ (m n : ℕ) (far : (m == n) ≡ false) (stamp : ℕ) where
  one_facet : (act : Act) (book : BookValue) → facet_at (effect book (entry_of m stamp act)) n ≡ facet_at book n
  one_facet (acts.Vote tid member votes.Recoverable covers) book = ap (option_map facet) (elsewhere (vote_by book m tid member votes.Recoverable covers) book.nodes m n far)
  one_facet (acts.Learn tid member outcomes.Commit) book = ap (option_map facet) (elsewhere (λ node. doubts_after tid member.server.0 (learn_node outcomes.Commit tid member.server.0 node)) book.nodes m n far)
  one_facet (acts.Restart inc pend done) book =
      ap (λ (nodes : List machine.NodeValue). option_map facet (slice_get nodes n)) (restart_nodes m inc pend done book)
      ∙ (ap (option_map facet) (elsewhere (restarted_node (reopened m inc pend done (put_new_votes m pend book)) pend done) (changed_at m (with_votes (new_votes m book pend)) book.nodes) m n far)
      ∙ ap (option_map facet) (elsewhere (with_votes (new_votes m book pend)) book.nodes m n far))
  one_facet act book = plain_facets stamp m act book refl n

  all_facets : (done : List Act) (book : BookValue) → facet_at (book_after book (entries_of m stamp done)) n ≡ facet_at book n
  all_facets [] book = refl
  all_facets (act ∷ done) book = all_facets done (effect book (entry_of m stamp act)) ∙ one_facet act book

  -- leaves what is on record there
  pub known_still : (done : List Act) (book : BookValue) (host : Host) → HostKnown book n host → HostKnown (book_after book (entries_of m stamp done)) n host
  known_still done book host h state there tid s rec has =
      let was = with_facet (slice_get book.nodes n) (facet state) (sym (all_facets done book) ∙ ap (option_map facet) there) in
      h was.0 was.1 tid s rec (ap (λ (rs : List (Voter × OnRecord)). lookup (is_at (machine.voter_cmp (machine.voter tid s))) rs) (ap (λ (f : Facet). f.records) was.2) ∙ has)

-- ---- as a run begins

abbrev NamesIt : Tid → ℕ → Prepared → Type 0
NamesIt tid s v = log_records.is_found (machine.voter tid s) 0 v ≡ true

pub opens_records : OpensRecords
opens_records o opens n low on its there tid s rec has = inr (inr (subst (λ (log : List Record). is_found (found_votes (recovery log)) (machine.voter tid s) ≡ true) (sym (append-nil (o.logs n))) found))
  where
    log : Recovery
    log = recovery (o.logs n)

    record_is : machine.record_of (state o opens n low) tid s ≡ option_map record_for (option_map as_pending (doubt_at log.prepared tid s))
    record_is = all_put tid s (one o opens n low).pending None [] refl ∙ ap (option_map record_for) (last_as tid s log.prepared None)

    least : (k : ℕ) → nat_le 0 k ≡ true
    least k = grind (arith, nat_tests)

    passes : (v : Prepared) → doubt_at log.prepared tid s ≡ Some v → log_records.is_found (machine.voter tid s) 0 v ≡ true
    passes v at = let p = doubt_is (λ (x : Prepared). is_doubt log x ≡ true) tid s log.prepared (doubtful o opens n low) v at in
        of (names_transaction v.tid) v.committed (same_tid v.tid tid) (v.server.0 == s) (nat_le 0 v.covers) (least v.covers) p.1
      where
        of : (a b c d e : Bool) → e ≡ true → ((a && Rattle.std.specs.Prelude.not b) && (c && d)) ≡ true → (a && (c && (d && e))) ≡ true
        of true false true true e is h = is
        of true false true false e is h = absurd (cc h)
        of true false false d e is h = absurd (cc h)
        of true true c d e is h = absurd (cc h)
        of false b c d e is h = absurd (cc h)

    some_vote : {v : Prepared} → (None ≡ Some v) ⊎ (list_any (log_records.is_found (machine.voter tid s) 0) log.prepared ≡ true) → is_found_in (machine.voter tid s) 0 log.prepared ≡ true
    some_vote (inl e) = absurd (cc e)
    some_vote (inr e) = e

    by : (d : Option Prepared) → doubt_at log.prepared tid s ≡ d → option_map record_for (option_map as_pending d) ≡ Some rec → is_found (found_votes log) (machine.voter tid s) ≡ true
    by None at e = absurd (cc e)
    by (Some v) at e = of_votes (machine.voter tid s) 0 log (some_vote (doubt_found tid s (log_records.is_found (machine.voter tid s) 0) v (passes v at) log.prepared None at))

    found : is_found (found_votes log) (machine.voter tid s) ≡ true
    found = by (doubt_at log.prepared tid s) refl (sym record_is ∙ subst (λ (x : machine.NodeValue). machine.record_of x tid s ≡ Some rec) (some_same (sym there ∙ state_there o opens n low)) has)

-- ---- what a step makes of a host

-- with what waits, the log has all of the step's records
pub whole_log : (host : Host) (out : Effects) → recovery (log_after host out ++ waiting_after host out) ≡ fold found_record (recovery (host.log ++ host.waiting)) out.records
whole_log host out = ap recovery (by out.force) ∙ fold-append found_record nothing_said (host.log ++ host.waiting) out.records
  where
    by : (b : Bool) → (if b then host.log ++ (host.waiting ++ out.records) else host.log) ++ (if b then [] else host.waiting ++ out.records) ≡ (host.log ++ host.waiting) ++ out.records
    by true = append-nil (host.log ++ (host.waiting ++ out.records)) ∙ sym (append_assoc host.log host.waiting out.records)
    by false = sym (append_assoc host.log host.waiting out.records)

-- whoever runs after it ran before it
pub ran_then : (world : World) (n stamp free : ℕ) (source : Source) (event : Event) (k : ℕ) → (step_with world n stamp free source (Some event)).channels.up k ≡ true → world.channels.up k ≡ true
ran_then world n stamp free source event k on = sym (ap (λ (up : ℕ → Bool). up k) (up_all n stamp (effects_of (world.hosts n).node event free).messages (taken_by world n source) ∙ up_taken world n source)) ∙ on

-- ---- moves

module _ (P : Opening → World → Type 0) (o : Opening) (world : World) (j : Joined P o world) (h : RecordsAt o world) where
  abbrev book : BookValue
  book = book_in o world

  abbrev Known : ℕ → World → Host → Type 0
  Known k after host = HostKnown (book_in o after) k host

  -- every other node
  others : (n stamp : ℕ) (done : List Act) (after : World) → after.journal ≡ world.journal ++ entries_of n stamp done → (k : ℕ) → k < world.size → world.channels.up k ≡ true → (k == n) ≡ false → Known k after (world.hosts k)
  others n stamp done after journal k low on far = subst (λ (b : BookValue). HostKnown b k (world.hosts k)) (sym (book_on o world after (entries_of n stamp done) journal)) (known_still n k (apart_turned k n far) stamp done book (world.hosts k) (h k low on))

  -- ---- a crash

  crash_records : (n stamp : ℕ) (cause : CrashCause) (log : List Record) → RecordsAt o (stopped world n stamp cause log)
  crash_records n stamp cause log k low = by (k == n) refl
    where
      by : (b : Bool) → (k == n) ≡ b → (if b then false else world.channels.up k) ≡ true → Known k (stopped world n stamp cause log) (if b then stopped_host stamp log (world.hosts n) else world.hosts k)
      by true near on = absurd (cc on)
      by false far on = others n stamp (acts.Crash cause ∷ []) (stopped world n stamp cause log) refl k low on far

  -- ---- a first meeting

  meet_records : (n stamp m inc : ℕ) → RecordsAt o (moved (Meet n stamp m inc) world)
  meet_records n stamp m inc k low on = by (k == n) refl
    where
      by : (b : Bool) → (k == n) ≡ b → HostKnown book k (if b then record (world.hosts n) { stamp = stamp } else world.hosts k)
      by true near = subst (λ (i : ℕ). HostKnown book k (record (world.hosts i) { stamp = stamp })) (eqb-true k n near) (λ its there. h k low on its there)
      by false far = h k low on

  -- ---- a restart: what is on record then is found in the log

  module _ (n stamp inc : ℕ) (may : may_move world (Rise n stamp inc) ≡ true) where
    abbrev risen : World
    risen = moved (Rise n stamp inc) world

    abbrev said : Recovery
    said = recovery (world.hosts n).log

    down : world.channels.up n ≡ false
    down = off (world.channels.up n) (and_both (Rattle.std.specs.Prelude.not (world.channels.up n)) _ may).0
      where
        off : (b : Bool) → Rattle.std.specs.Prelude.not b ≡ true → b ≡ false
        off false e = refl
        off true e = absurd (cc e)

    own_records : n < world.size → HostKnown (book_after book (rise_entry world n stamp inc ∷ [])) n (risen_host stamp inc (recovered_of (world.hosts n).log) (world.hosts n))
    own_records low its there tid s rec has = inr (inr (subst (λ (log : List Record). is_found (found_votes (recovery log)) (machine.voter tid s) ≡ true) (sym nothing) found))
      where
        at : HoldsNodeAt book world n
        at = j.held.nodes n low

        nothing : (world.hosts n).log ++ (world.hosts n).waiting ≡ (world.hosts n).log
        nothing = ap (λ (w : List Record). (world.hosts n).log ++ w) (at.stopped down).nothing_waits ∙ append-nil (world.hosts n).log

        voted : machine.NodeValue
        voted = with_votes (new_votes n book (found_votes said)) at.state

        next_is : slice_get (book_after book (rise_entry world n stamp inc ∷ [])).nodes n ≡ Some (restarted_node (reopened n inc (found_votes said) said.committed (put_new_votes n (found_votes said) book)) (found_votes said) said.committed voted)
        next_is = ap (λ (nodes : List machine.NodeValue). slice_get nodes n) (restart_nodes n inc (found_votes said) said.committed book)
            ∙ changed_at_here (restarted_node (reopened n inc (found_votes said) said.committed (put_new_votes n (found_votes said) book)) (found_votes said) said.committed) (changed_at n (with_votes (new_votes n book (found_votes said))) book.nodes) n voted
            (changed_at_here (with_votes (new_votes n book (found_votes said))) book.nodes n at.state at.there)

        found : is_found (found_votes said) (machine.voter tid s) ≡ true
        found = (recorded_was (found_votes said) (fold without_records voted said.committed) tid s rec (subst (λ (x : machine.NodeValue). machine.record_of x tid s ≡ Some rec) (some_same (sym there ∙ next_is)) has)).1

    rise_records : RecordsAt o risen
    rise_records k low = by (k == n) refl
      where
        by : (b : Bool) → (k == n) ≡ b → (if b then true else world.channels.up k) ≡ true → Known k risen (if b then risen_host stamp inc (recovered_of (world.hosts n).log) (world.hosts n) else world.hosts k)
        by true near on = subst (λ (b : BookValue). HostKnown b k (risen_host stamp inc (recovered_of (world.hosts n).log) (world.hosts n))) (sym (book_on o world risen (rise_entry world n stamp inc ∷ []) refl))
            (subst (λ (i : ℕ). HostKnown (book_after book (rise_entry world n stamp inc ∷ [])) i (risen_host stamp inc (recovered_of (world.hosts n).log) (world.hosts n))) (sym (eqb-true k n near)) (own_records (subst (λ (i : ℕ). i < world.size) (eqb-true k n near) low)))
        by false far on = others n stamp (acts.Restart inc (found_votes said) said.committed ∷ []) risen refl k low on far

  -- ---- a step

  module _ (n stamp free : ℕ) (source : Source) (event : Event) (makes : MakesStep world n stamp source event) where
    abbrev next : World
    next = step_with world n stamp free source (Some event)

    abbrev out : Effects
    out = effects_of (world.hosts n).node event free

    step_records : IsLawful (book_of o) next.journal → RecordsAt o next
    step_records lawful k low on = by (k == n) refl
      where
        own : (its : machine.NodeValue) → slice_get (book_after book (entries_of n stamp out.entries)).nodes n ≡ Some its → RecordsKnown its (after_step (world.hosts n).node event free).manager (recovery (log_after (world.hosts n) out ++ waiting_after (world.hosts n) out))
        own its there = subst (λ (log : Recovery). RecordsKnown its (after_step (world.hosts n).node event free).manager log) (sym (whole_log (world.hosts n) out))
            (known_then P o world j h n stamp free source event makes (lawful_more o world next (entries_of n stamp out.entries) refl lawful) its there)

        by : (b : Bool) → (k == n) ≡ b → Known k next (if b then stepped_host stamp (after_step (world.hosts n).node event free) out (world.hosts n) else world.hosts k)
        by true near = subst (λ (b : BookValue). HostKnown b k (stepped_host stamp (after_step (world.hosts n).node event free) out (world.hosts n))) (sym (book_on o world next (entries_of n stamp out.entries) refl))
            (subst (λ (i : ℕ). HostKnown (book_after book (entries_of n stamp out.entries)) i (stepped_host stamp (after_step (world.hosts n).node event free) out (world.hosts n))) (sym (eqb-true k n near)) (λ its there. own its there))
        by false far = others n stamp out.entries next refl k low (ran_then world n stamp free source event k on) far

  -- ---- each move

  each_move : (move : Move) → may_move world move ≡ true → IsLawful (book_of o) (moved move world).journal → RecordsAt o (moved move world)
  each_move (Step n stamp free source) may lawful = by (event_of world n stamp source) refl lawful
    where
      by : (e : Option Event) → event_of world n stamp source ≡ e → IsLawful (book_of o) (step_with world n stamp free source e).journal → RecordsAt o (step_with world n stamp free source e)
      by None none lawful = h
      by (Some event) comes lawful = step_records n stamp free source event (record { may = may; comes = comes }) lawful
  each_move (Cut n stamp free source is_kept cause) may lawful = by (event_of world n stamp source)
    where
      by : (e : Option Event) → RecordsAt o (cut_with world n stamp free is_kept cause e)
      by None = h
      by (Some event) = crash_records n stamp cause (cut_log (world.hosts n) is_kept (effects_of (world.hosts n).node event free))
  each_move (Stop n stamp cause) may lawful = crash_records n stamp cause (world.hosts n).log
  each_move (Rise n stamp inc) may lawful = rise_records n stamp inc may
  each_move (Meet n stamp m inc) may lawful = meet_records n stamp m inc

pub moves_keep_records : (P : Opening → World → Type 0) → MovesKeepRecords P
moves_keep_records P o world move j h may lawful = each_move P o world j h move may lawful

pub votes_are_fresh : (P : Opening → World → Type 0) → VotesAreFresh P
votes_are_fresh P o world n stamp free source event j h makes lawful state there = votes_fresh P o world j h n stamp free source event makes lawful state there
