-- A node learns abort, or commit, or finds as it begins that what it had in doubt is aborted: the rules as wholes.
use Rattle.qs_world_lawful.proofs.Words.{◌≡◌, ℕ, Bool, true, false, List, [], ◌∷◌, ◌++◌, Some, None, refl, sym, ap, ◌∙◌, if◌then◌else◌, ◌||◌, Outcome, ServerNo, Tid, Inv, BookValue, after_notice, Notice, Record, Participant, log, log_if, member_here, end_member, due_endings, end_members, learn_member, learners_at, learn_members, give_notices, Work, with_manager, change_server, end_record, record_learnt, book_at, HasAborted, HasOutcome, HoldsLogs, KeepsLogs}
use Rattle.qs_base.specs.declared.identifiers.Outcome.TheVariants as outcomes
use Rattle.qs_book_journal.specs.declared.entry.Act.TheVariants as acts
use Rattle.qs_ops.specs.declared.vote.Notice.TheVariants as notices
use Rattle.qs_record.specs.declared.record.Record.TheVariants as records
use Rattle.qs_tm.specs.Manager as tm
use Rattle.qs_tm.specs.Outcomes as outcome_rules
use Rattle.qs_node_step.specs.Deciding.{notify}
use Rattle.qs_node_step.specs.State.{part_of}
use Rattle.qs_node_step.specs.Telling.{learn}
use Rattle.qs_world_lawful.proofs.LogAborting.{ran_on, held_aborted, held_unrecorded}
use Rattle.qs_world_lawful.proofs.LogCommitting.{held_committed, held_unwritten}
use Rattle.qs_world_lawful.proofs.LogLearning.{Learns, learns}
use Rattle.qs_world_lawful.proofs.LogMarks.{ChangesPart, changes_part, changes_on, changes_then}
use Rattle.qs_world_lawful.proofs.Marks.{SameMarks, marks_equal}
use Rattle.qs_world_lawful.proofs.QuietRequests.{quiet_node}
use Rattle.qs_world_lawful.proofs.Recordless.{Quiet, quiet_then, quiet_fold, quiet_enter, quiet_part}

-- ---- notices of an abort

quiet_notify : (tid : Tid) (notice : Notice) (server : ServerNo) (work : Work) → Quiet work (notify tid notice server work)
quiet_notify tid notice server work =
    let changed : Work = change_server server (λ value. after_notice value tid notice) work in
    quiet_then work changed (notify tid notice server work) (quiet_node work changed refl refl refl)
    (quiet_part tid (outcome_rules.settled server) changed (λ part. record { log = refl; outcome = refl; involved = λ is. is }))

pub quiet_end : (tid : Tid) (work : Work) (server : ServerNo) → Quiet work (end_member tid work server)
quiet_end tid work server =
    let told : Work = notify tid notices.Ending server work in
    quiet_then work told (end_member tid work server) (quiet_notify tid notices.Ending server work) (quiet_enter (acts.Ending tid (member_here work server)) told refl)

pub quiet_ends : (tid : Tid) (work : Work) → Quiet work (end_members tid work)
quiet_ends tid work = quiet_fold (end_member tid) (quiet_end tid) (due_endings tid work) work

quiet_abort : (tid : Tid) (work : Work) (server : ServerNo) → Quiet work (learn_member tid outcomes.Abort work server)
quiet_abort tid work server =
    let told : Work = notify tid notices.Abort server work in
    quiet_then work told (learn_member tid outcomes.Abort work server) (quiet_notify tid notices.Abort server work) (quiet_enter (acts.Learn tid (member_here work server) outcomes.Abort) told refl)

pub quiet_notices : (tid : Tid) (work : Work) → Quiet work (give_notices tid outcomes.Abort work)
quiet_notices tid work =
    let ended : Work = end_members tid work in
    quiet_then work ended (give_notices tid outcomes.Abort work) (quiet_ends tid work) (quiet_fold (learn_member tid outcomes.Abort) (quiet_abort tid) (learners_at tid ended) ended)

module _ (stamp : ℕ) (before : BookValue) (i : Inv before) (disk waiting : List Record) (tid : Tid) (work : Work) where
  -- ---- abort

  module _ (mid : Work) (out : mid.out ≡ work.out) (setting : mid.node.setting ≡ work.node.setting) (part y : Participant) (c : ChangesPart tid work.node.manager mid.node.manager part y) (marks : y.log ≡ part.log)
      (aborted : HoldsLogs stamp before disk waiting work → part.log.prepared ≡ true → HasAborted (book_at stamp before work) tid) (unlisted : HoldsLogs stamp before disk waiting work → part.log.listed ≡ true → ⊥) where
    abbrev noticed : Work
    noticed = give_notices tid outcomes.Abort mid

    q : Quiet mid noticed
    q = quiet_notices tid mid

    settled : (z : Participant) × ChangesPart tid work.node.manager noticed.node.manager part z × SameMarks y z
    settled = changes_on tid work.node.manager mid.node.manager noticed.node.manager part y c q.knows

    entries : noticed.out.entries ≡ work.out.entries ++ q.more
    entries = q.entries ∙ ap (λ o. o.entries ++ q.more) out

    pub by_aborted : KeepsLogs stamp before disk waiting work (log_if (record_learnt tid outcomes.Abort part) noticed)
    by_aborted = by part.log.prepared refl
      where
        by : (b : Bool) → part.log.prepared ≡ b → KeepsLogs stamp before disk waiting work (log_if (if b then Some (end_record tid outcomes.Abort) else None) noticed)
        by true prepared = record {
          more = q.more;
          entries = entries;
          setting = q.setting ∙ setting;
          keeps = λ lawful h.
              let new : Work = log (records.Aborted tid) noticed in
              let recorded = changes_part tid (outcome_rules.logged (records.Aborted tid)) noticed.node.manager settled.0 settled.1.now in
              let c_all = changes_then tid work.node.manager noticed.node.manager new.node.manager part settled.0 (outcome_rules.logged (records.Aborted tid) settled.0) settled.1 recorded in
              held_aborted stamp before i disk waiting work new h q.more entries (q.setting ∙ setting) q.plain lawful tid part (outcome_rules.logged (records.Aborted tid) settled.0) c_all
              (ap (λ rs. rs ++ records.Aborted tid ∷ []) (q.records ∙ ap (λ o. o.records) out)) (ap (λ (b : Bool). b || false) (q.force ∙ ap (λ o. o.force) out))
              ((ran_on stamp before i disk waiting work new h q.more entries (q.setting ∙ setting) q.plain lawful tid part (outcome_rules.logged (records.Aborted tid) settled.0) c_all).later.aborted tid (aborted h prepared)) refl refl;
        }
        by false unprepared = record {
          more = q.more;
          entries = entries;
          setting = q.setting ∙ setting;
          keeps = λ lawful h. held_unrecorded stamp before i disk waiting work noticed h q.more entries (q.setting ∙ setting) q.plain lawful tid part settled.0 settled.1
              (q.records ∙ ap (λ o. o.records) out) (q.force ∙ ap (λ o. o.force) out) unprepared (settled.2.log ∙ marks) (unlisted h);
        }

  -- ---- it is told

  module _ (part : Participant) (known : part_of tid work ≡ Some part) (undecided : part.outcome ≡ None) where
    clash : {X : Type 0} → part.outcome ≡ Some outcomes.Commit → X
    clash is = absurd (differ (sym undecided ∙ is))
      where
        differ : None ≡ Some outcomes.Commit → ⊥
        differ e = cc e

    abbrev took : Outcome → Work
    took outcome = with_manager (tm.took_outcome tid outcome) work

    by_told_commit : HasOutcome before tid outcomes.Commit → KeepsLogs stamp before disk waiting work (learn tid outcomes.Commit part work)
    by_told_commit told = by part.log.prepared refl
      where
        l : Learns tid (learners_at tid (took outcomes.Commit)) (took outcomes.Commit) (learn_members tid outcomes.Commit (took outcomes.Commit))
        l = learns tid (learners_at tid (took outcomes.Commit)) (took outcomes.Commit)

        settled : (z : Participant) × ChangesPart tid work.node.manager (learn_members tid outcomes.Commit (took outcomes.Commit)).node.manager part z × SameMarks (outcome_rules.took_outcome outcomes.Commit part) z
        settled = changes_on tid work.node.manager (took outcomes.Commit).node.manager (learn_members tid outcomes.Commit (took outcomes.Commit)).node.manager part (outcome_rules.took_outcome outcomes.Commit part)
            (changes_part tid (outcome_rules.took_outcome outcomes.Commit) work.node.manager part known) l.knows

        by : (b : Bool) → part.log.prepared ≡ b → KeepsLogs stamp before disk waiting work (log_if (if b then Some (end_record tid outcomes.Commit) else None) (learn_members tid outcomes.Commit (took outcomes.Commit)))
        by true prepared =
            let done : Work = learn_members tid outcomes.Commit (took outcomes.Commit) in
            let new : Work = log (records.Commit tid []) done in
            record {
              more = _;
              entries = l.entries;
              setting = l.setting;
              keeps = λ lawful h. held_committed stamp before i disk waiting work new h tid [] (learners_at tid (took outcomes.Commit)) l.entries l.setting tt lawful (h.since.committed tid told) part (outcome_rules.logged (records.Commit tid []) settled.0)
                  (changes_then tid work.node.manager done.node.manager new.node.manager part settled.0 (outcome_rules.logged (records.Commit tid []) settled.0) settled.1 (changes_part tid (outcome_rules.logged (records.Commit tid [])) done.node.manager settled.0 settled.1.now))
                  settled.2.outcome [] (ap (λ rs. rs ++ records.Commit tid [] ∷ []) l.records) (ap (λ (b : Bool). b || true) l.force) refl;
            }
        by false unprepared = record {
          more = _;
          entries = l.entries;
          setting = l.setting;
          keeps = λ lawful h. held_unwritten stamp before i disk waiting work (learn_members tid outcomes.Commit (took outcomes.Commit)) h tid [] (learners_at tid (took outcomes.Commit)) l.entries l.setting tt lawful (h.since.committed tid told) part settled.0 settled.1
              settled.2.outcome l.records l.force unprepared settled.2.log;
        }

    pub by_learn_rule : (outcome : Outcome) → HasOutcome before tid outcome → KeepsLogs stamp before disk waiting work (learn tid outcome part work)
    by_learn_rule outcomes.Commit told = by_told_commit told
    by_learn_rule outcomes.Abort told =
        by_aborted (took outcomes.Abort) refl refl part (outcome_rules.took_outcome outcomes.Abort part) (changes_part tid (outcome_rules.took_outcome outcomes.Abort) work.node.manager part known) refl
        (λ h prepared. h.since.aborted tid told) (λ h listed. clash ((h.knows.parts tid part known).listed listed))

  -- ---- as an incarnation begins

  pub by_resumed : (part : Participant) → part_of tid work ≡ Some part → part.outcome ≡ Some outcomes.Abort → KeepsLogs stamp before disk waiting work (log_if (record_learnt tid outcomes.Abort part) (give_notices tid outcomes.Abort work))
  by_resumed part known knows =
      by_aborted work refl refl part part
      (record { rises = λ is. is; before = known; now = known; others = λ t far. marks_equal (tm.part_of t work.node.manager) (tm.part_of t work.node.manager) refl }) refl
      (λ h prepared. (h.knows.parts tid part known).aborted prepared knows) (λ h listed. differ (sym knows ∙ (h.knows.parts tid part known).listed listed))
    where
      differ : Some outcomes.Abort ≡ Some outcomes.Commit → ⊥
      differ e = cc e
