-- The home decides commit, or anything of what it does not know.
use Rattle.qs_world_lawful.proofs.Words.{◌≡◌, ℕ, Bool, true, false, List, [], ◌∷◌, ◌++◌, Option, Some, None, refl, ap, ◌∙◌, fold, append_assoc, if◌then◌else◌, ◌||◌, slice_get, is_at, tid_cmp, NodeNo, Outcome, Tid, listed, Act, Cause, changed_none, lookup_changed, Inv, held, TransactionValue, is_open, decided_at, BookValue, find_transaction, cell_of_transaction, broken, effect, Record, learners, InLog, Participant, enter, send_each, log, learn_member, learners_at, give_notices, keep_outcome}
use Rattle.qs_world_lawful.proofs.Words.{decide_as, Work, here, with_manager, entry_of, book_at, HasOutcome, KeepsLogs}
use Rattle.qs_base.specs.declared.identifiers.Outcome.TheVariants as outcomes
use Rattle.qs_book_journal.specs.declared.entry.Act.TheVariants as acts
use Rattle.qs_packet.specs.declared.message.Message.TheVariants as messages
use Rattle.qs_book_laws.proofs.Steps.{decide_may}
use Rattle.qs_book_machine.specs.Nodes as machine
use Rattle.qs_record.specs.declared.record.Record.TheVariants as records
use Rattle.qs_tm.specs.Manager as tm
use Rattle.qs_tm.specs.Outcomes as outcome_rules
use Rattle.qs_node_step.specs.State.{part_of}
use Rattle.qs_world_lawful.proofs.LogActs.{acting}
use Rattle.qs_world_lawful.proofs.LogCommitting.{held_committed, held_unwritten}
use Rattle.qs_world_lawful.proofs.LogEndings.{quiet_notices}
use Rattle.qs_world_lawful.proofs.LogKeeps.{keeps_then, by_quiet, lawful_since}
use Rattle.qs_world_lawful.proofs.LogLearning.{Learns, learns, learn_acts}
use Rattle.qs_world_lawful.proofs.LogMarks.{ChangesPart, changes_part, changes_on, changes_then}
use Rattle.qs_world_lawful.proofs.Marks.{SameMarks, part_none}
use Rattle.qs_world_lawful.proofs.QuietRequests.{quiet_node}
use Rattle.qs_world_lawful.proofs.Recordless.{Quiet, quiet_self, quiet_then, quiet_enter, quiet_manager, quiet_sends}

-- ---- the machine

-- a lawful decision is of an open cell, and gives it its outcome
pub decides : (book : BookValue) (stamp here : ℕ) (state : machine.NodeValue) → slice_get book.nodes here ≡ Some state → (tid : Tid) (outcome : Outcome) (cause : Option Cause) → broken book (entry_of here stamp (acts.Decide tid outcome cause)) ≡ None
    → (tx : TransactionValue) × (find_transaction book tid ≡ Some tx) × (is_open tx.cell ≡ true)
decides book stamp here state there tid outcome cause lawful =
    decide_may here state book.nodes tid (find_transaction book tid) stamp outcome cause (held state.up 2 _ (acting book stamp here (acts.Decide tid outcome cause) state there lawful)).1

pub decided_now : (book : BookValue) (stamp here : ℕ) (tid : Tid) (outcome : Outcome) (cause : Option Cause) (tx : TransactionValue) → find_transaction book tid ≡ Some tx → HasOutcome (effect book (entry_of here stamp (acts.Decide tid outcome cause))) tid outcome
decided_now book stamp here tid outcome cause tx found = ap cell_of_transaction (lookup_changed (is_at (tid_cmp tid)) (decided_at book.place outcome cause) book.transactions tx found)

module _ (stamp : ℕ) (before : BookValue) (i : Inv before) (disk waiting : List Record) (tid : Tid) (cause : Option Cause) (work : Work) where
  abbrev book : BookValue
  book = book_at stamp before work

  abbrev pub act : Outcome → Act
  act outcome = acts.Decide tid outcome cause

  abbrev pub decided : Outcome → Work
  decided outcome = with_manager (tm.decide tid outcome) work

  abbrev pub entered : Outcome → Work → Work
  entered outcome recorded = enter (act outcome) (keep_outcome tid outcome cause recorded)

  pub quiet_entered : (outcome : Outcome) (recorded : Work) → Quiet recorded (entered outcome recorded)
  quiet_entered outcome recorded =
      let kept : Work = keep_outcome tid outcome cause recorded in
      quiet_then recorded kept (entered outcome recorded) (quiet_node recorded kept refl refl refl) (quiet_enter (act outcome) kept refl)

  -- ---- of what the node does not know

  pub quiet_unknown : (outcome : Outcome) → part_of tid work ≡ None → Quiet work (decide_as tid outcome cause tm.no_decision work)
  quiet_unknown outcome none =
      quiet_then work (decided outcome) (decide_as tid outcome cause tm.no_decision work) (quiet_manager (tm.decide tid outcome) work (part_none tid (outcome_rules.decided outcome) work.node.manager none))
      (quiet_then (decided outcome) (entered outcome (decided outcome)) (decide_as tid outcome cause tm.no_decision work) (quiet_entered outcome (decided outcome)) (notices outcome))
    where
      still_none : (outcome : Outcome) → part_of tid (entered outcome (decided outcome)) ≡ None
      still_none outcome = changed_none (is_at (tid_cmp tid)) (outcome_rules.decided outcome) work.node.manager.known none

      nobody : (o : Option Participant) (w : Work) → o ≡ None → Quiet w (fold (learn_member tid outcomes.Commit) w (elim o [ None ↦ [] | Some part ↦ learners part ]))
      nobody None w e = quiet_self w
      nobody (Some part) w e = absurd (cc e)

      notices : (outcome : Outcome) → Quiet (entered outcome (decided outcome)) (give_notices tid outcome (entered outcome (decided outcome)))
      notices outcomes.Commit = nobody (part_of tid (entered outcomes.Commit (decided outcomes.Commit))) (entered outcomes.Commit (decided outcomes.Commit)) (still_none outcomes.Commit)
      notices outcomes.Abort = quiet_notices tid (entered outcomes.Abort (decided outcomes.Abort))

  -- ---- of what it knows

  module _ (part : Participant) (known : part_of tid work ≡ Some part) where
    pub decided_part : (outcome : Outcome) → ChangesPart tid work.node.manager (decided outcome).node.manager part (outcome_rules.decided outcome part)
    decided_part outcome = changes_part tid (outcome_rules.decided outcome) work.node.manager part known

    -- commit, with its record
    module _ (told : List NodeNo) where
      abbrev pub rec : Record
      rec = records.Commit tid told

      abbrev pub start : Work
      start = entered outcomes.Commit (log rec (decided outcomes.Commit))

      abbrev pub noticed : Work
      noticed = give_notices tid outcomes.Commit start

      pub all_learns : Learns tid (learners_at tid start) start noticed
      all_learns = learns tid (learners_at tid start) start

      abbrev logged : Participant
      logged = outcome_rules.logged rec (outcome_rules.decided outcomes.Commit part)

      settled : (z : Participant) × ChangesPart tid work.node.manager noticed.node.manager part z × SameMarks logged z
      settled = changes_on tid work.node.manager start.node.manager noticed.node.manager part logged
          (changes_then tid work.node.manager (decided outcomes.Commit).node.manager start.node.manager part (outcome_rules.decided outcomes.Commit part) logged (decided_part outcomes.Commit)
          (changes_part tid (outcome_rules.logged rec) (decided outcomes.Commit).node.manager (outcome_rules.decided outcomes.Commit part) (decided_part outcomes.Commit).now))
          all_learns.knows

      pub grows : noticed.out.entries ≡ work.out.entries ++ ((act outcomes.Commit ∷ []) ++ learn_acts (here work) tid (learners_at tid start))
      grows = all_learns.entries ∙ append_assoc work.out.entries (act outcomes.Commit ∷ []) (learn_acts (here work) tid (learners_at tid start))

      pub by_written : KeepsLogs stamp before disk waiting work noticed
      by_written = record {
        more = (act outcomes.Commit ∷ []) ++ learn_acts (here work) tid (learners_at tid start);
        entries = grows;
        setting = all_learns.setting;
        keeps = λ lawful h.
            let first = (lawful_since stamp before i disk waiting work noticed ((act outcomes.Commit ∷ []) ++ learn_acts (here work) tid (learners_at tid start)) grows all_learns.setting lawful).0 in
            let at = decides book stamp (here work).0 h.state h.there tid outcomes.Commit cause first in
            held_committed stamp before i disk waiting work noticed h tid (act outcomes.Commit ∷ []) (learners_at tid start) grows all_learns.setting (refl, tt) lawful
            (decided_now book stamp (here work).0 tid outcomes.Commit cause at.0 at.1) part settled.0 settled.1 settled.2.outcome told all_learns.records all_learns.force (ap (λ (l : InLog). l.prepared) settled.2.log);
      }

    -- without a record
    module _ (unprepared : part.log.prepared ≡ false) where
      abbrev pub bare : Work
      bare = entered outcomes.Commit (decided outcomes.Commit)

      abbrev pub bare_noticed : Work
      bare_noticed = give_notices tid outcomes.Commit bare

      pub bare_learns : Learns tid (learners_at tid bare) bare bare_noticed
      bare_learns = learns tid (learners_at tid bare) bare

      bare_settled : (z : Participant) × ChangesPart tid work.node.manager bare_noticed.node.manager part z × SameMarks (outcome_rules.decided outcomes.Commit part) z
      bare_settled = changes_on tid work.node.manager bare.node.manager bare_noticed.node.manager part (outcome_rules.decided outcomes.Commit part) (decided_part outcomes.Commit) bare_learns.knows

      pub bare_grows : bare_noticed.out.entries ≡ work.out.entries ++ ((act outcomes.Commit ∷ []) ++ learn_acts (here work) tid (learners_at tid bare))
      bare_grows = bare_learns.entries ∙ append_assoc work.out.entries (act outcomes.Commit ∷ []) (learn_acts (here work) tid (learners_at tid bare))

      pub by_unwritten : KeepsLogs stamp before disk waiting work bare_noticed
      by_unwritten = record {
        more = (act outcomes.Commit ∷ []) ++ learn_acts (here work) tid (learners_at tid bare);
        entries = bare_grows;
        setting = bare_learns.setting;
        keeps = λ lawful h.
            let first = (lawful_since stamp before i disk waiting work bare_noticed ((act outcomes.Commit ∷ []) ++ learn_acts (here work) tid (learners_at tid bare)) bare_grows bare_learns.setting lawful).0 in
            let at = decides book stamp (here work).0 h.state h.there tid outcomes.Commit cause first in
            held_unwritten stamp before i disk waiting work bare_noticed h tid (act outcomes.Commit ∷ []) (learners_at tid bare) bare_grows bare_learns.setting (refl, tt) lawful
            (decided_now book stamp (here work).0 tid outcomes.Commit cause at.0 at.1) part bare_settled.0 bare_settled.1 bare_settled.2.outcome bare_learns.records bare_learns.force unprepared bare_settled.2.log;
      }

    or_left : (a b : Bool) → (a || b) ≡ false → a ≡ false
    or_left true b e = absurd (cc e)
    or_left false b e = refl

    pub by_commit : (tell : List NodeNo) → KeepsLogs stamp before disk waiting work (decide_as tid outcomes.Commit cause (record { rec = outcome_rules.record_of tid outcomes.Commit part; tell = tell }) work)
    by_commit tell = by (outcome_rules.writes_commit part) refl
      where
        by : (b : Bool) → outcome_rules.writes_commit part ≡ b → KeepsLogs stamp before disk waiting work (decide_as tid outcomes.Commit cause (record { rec = if b then Some (records.Commit tid (listed part.told)) else None; tell = tell }) work)
        by true writes = keeps_then stamp before i disk waiting work (noticed (listed part.told)) (send_each tell (messages.Tell tid outcomes.Commit) (noticed (listed part.told))) (by_written (listed part.told))
            (by_quiet stamp before i disk waiting (noticed (listed part.told)) (send_each tell (messages.Tell tid outcomes.Commit) (noticed (listed part.told))) (quiet_sends tell (messages.Tell tid outcomes.Commit) (noticed (listed part.told))))
        by false writes =
            let unprepared = or_left part.log.prepared _ writes in
            keeps_then stamp before i disk waiting work (bare_noticed unprepared) (send_each tell (messages.Tell tid outcomes.Commit) (bare_noticed unprepared)) (by_unwritten unprepared)
            (by_quiet stamp before i disk waiting (bare_noticed unprepared) (send_each tell (messages.Tell tid outcomes.Commit) (bare_noticed unprepared)) (quiet_sends tell (messages.Tell tid outcomes.Commit) (bare_noticed unprepared)))
