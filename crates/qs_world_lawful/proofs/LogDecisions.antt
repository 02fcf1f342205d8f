-- The home decides: the rule as a whole, commit or abort.
use Rattle.qs_world_lawful.proofs.Words.{◌≡◌, ℕ, Bool, true, false, List, [], ◌∷◌, ◌++◌, Option, Some, None, refl, sym, ap, ◌∙◌, append_assoc, if◌then◌else◌, NodeNo, Outcome, Tid, listed, Act, Cause, Inv, is_open, Cell, BookValue, cell_of_transaction, IsLawful, book_after, Record, Participant, send_each, log, give_notices, decide_as, decide_commit, Work, here, entries_of, entries_so_far, book_at, Every, HasAborted, HoldsLogs, IsPlain, KeepsLogs}
use Rattle.qs_base.specs.declared.identifiers.Outcome.TheVariants as outcomes
use Rattle.qs_ops.specs.declared.answer.Cause.TheVariants as causes
use Rattle.qs_packet.specs.declared.message.Message.TheVariants as messages
use Rattle.qs_book_machine.specs.declared.transaction.Cell.TheVariants as cells
use Rattle.qs_record.specs.declared.record.Record.TheVariants as records
use Rattle.qs_tm.specs.Manager as tm
use Rattle.qs_tm.specs.Outcomes as outcome_rules
use Rattle.qs_node_step.specs.Deciding.{decide}
use Rattle.qs_node_step.specs.State.{part_of}
use Rattle.qs_world_lawful.proofs.LogAborting.{held_aborted, held_unrecorded}
use Rattle.qs_world_lawful.proofs.LogDeciding.{act, decided, entered, decides, decided_now, quiet_unknown, decided_part, by_commit}
use Rattle.qs_world_lawful.proofs.LogEndings.{quiet_notices}
use Rattle.qs_world_lawful.proofs.LogKeeps.{run_plain, keeps_then, by_quiet, lawful_before, lawful_since, inv_at}
use Rattle.qs_world_lawful.proofs.LogMarks.{ChangesPart, changes_part, changes_on, changes_then}
use Rattle.qs_world_lawful.proofs.Marks.{SameMarks}
use Rattle.qs_world_lawful.proofs.Recordless.{Quiet, quiet_sends}

module _ (stamp : ℕ) (before : BookValue) (i : Inv before) (disk waiting : List Record) (tid : Tid) (cause : Option Cause) (work : Work) where
  abbrev book : BookValue
  book = book_at stamp before work

  abbrev decide_act : Act
  decide_act = act stamp before i disk waiting tid cause work outcomes.Abort

  abbrev start_with : Work → Work
  start_with recorded = entered stamp before i disk waiting tid cause work outcomes.Abort recorded

  abbrev decided_work : Work
  decided_work = decided stamp before i disk waiting tid cause work outcomes.Abort

  module _ (part : Participant) (known : part_of tid work ≡ Some part) where
    -- what the machine has of it after these entries
    aborts : (h : HoldsLogs stamp before disk waiting work) (more : List Act) (new : Work) → (grows : new.out.entries ≡ work.out.entries ++ (decide_act ∷ more)) (same : new.node.setting ≡ work.node.setting) → IsLawful before (entries_so_far stamp new)
        → Every IsPlain more → HasAborted (book_after book (entries_of (here work).0 stamp (decide_act ∷ more))) tid
    aborts h more new grows same lawful plain =
        let at : ℕ = (here work).0 in
        let since = lawful_since stamp before i disk waiting work new (decide_act ∷ more) grows same lawful in
        let tx = decides book stamp at h.state h.there tid outcomes.Abort cause since.0 in
        let first = run_plain stamp at (decide_act ∷ []) book h.state (inv_at stamp before i disk waiting work (lawful_before stamp before i disk waiting work new (decide_act ∷ more) grows same lawful)) h.named h.there (refl, tt) (since.0, tt) in
        let rest = run_plain stamp at more (book_after book (entries_of at stamp (decide_act ∷ []))) first.next first.inv first.named first.there plain since.1 in
        rest.later.aborted tid (decided_now book stamp at tid outcomes.Abort cause tx.0 tx.1)

    -- it is open still, so nobody is told that it is committed
    unlisted : (h : HoldsLogs stamp before disk waiting work) (more : List Act) (new : Work) → new.out.entries ≡ work.out.entries ++ (decide_act ∷ more) → new.node.setting ≡ work.node.setting → IsLawful before (entries_so_far stamp new) → part.log.listed ≡ true → ⊥
    unlisted h more new grows same lawful is =
        let tx = decides book stamp (here work).0 h.state h.there tid outcomes.Abort cause (lawful_since stamp before i disk waiting work new (decide_act ∷ more) grows same lawful).0 in
        differ tx.0.cell (ap cell_of_transaction (sym tx.1) ∙ (h.knows.parts tid part known).committed is) tx.2
      where
        differ : (c : Cell) → Some c ≡ Some cells.Commit → is_open c ≡ true → ⊥
        differ cells.Open e o = cc e
        differ cells.Commit e o = cc o
        differ cells.Abort e o = cc o

    -- with Aborted
    abbrev rec : Record
    rec = records.Aborted tid

    abbrev start : Work
    start = start_with (log rec decided_work)

    abbrev noticed : Work
    noticed = give_notices tid outcomes.Abort start

    q : Quiet start noticed
    q = quiet_notices tid start

    abbrev logged : Participant
    logged = outcome_rules.logged rec (outcome_rules.decided outcomes.Abort part)

    settled : (z : Participant) × ChangesPart tid work.node.manager noticed.node.manager part z × SameMarks logged z
    settled = changes_on tid work.node.manager start.node.manager noticed.node.manager part logged
        (changes_then tid work.node.manager decided_work.node.manager start.node.manager part (outcome_rules.decided outcomes.Abort part) logged
        (decided_part stamp before i disk waiting tid cause work part known outcomes.Abort)
        (changes_part tid (outcome_rules.logged rec) decided_work.node.manager (outcome_rules.decided outcomes.Abort part) (decided_part stamp before i disk waiting tid cause work part known outcomes.Abort).now))
        q.knows

    grows : noticed.out.entries ≡ work.out.entries ++ (decide_act ∷ q.more)
    grows = q.entries ∙ append_assoc work.out.entries (decide_act ∷ []) q.more

    by_recorded : KeepsLogs stamp before disk waiting work noticed
    by_recorded = record {
      more = decide_act ∷ q.more;
      entries = grows;
      setting = q.setting;
      keeps = λ lawful h. held_aborted stamp before i disk waiting work noticed h (decide_act ∷ q.more) grows q.setting (refl, q.plain) lawful tid part settled.0 settled.1 q.records q.force
          (aborts h q.more noticed grows q.setting lawful q.plain)
          (ap (λ l. l.prepared) settled.2.log) (ap (λ l. l.listed) settled.2.log);
    }

    -- without
    abbrev bare : Work
    bare = start_with decided_work

    abbrev bare_noticed : Work
    bare_noticed = give_notices tid outcomes.Abort bare

    bare_q : Quiet bare bare_noticed
    bare_q = quiet_notices tid bare

    bare_settled : (z : Participant) × ChangesPart tid work.node.manager bare_noticed.node.manager part z × SameMarks (outcome_rules.decided outcomes.Abort part) z
    bare_settled = changes_on tid work.node.manager bare.node.manager bare_noticed.node.manager part (outcome_rules.decided outcomes.Abort part) (decided_part stamp before i disk waiting tid cause work part known outcomes.Abort) bare_q.knows

    bare_grows : bare_noticed.out.entries ≡ work.out.entries ++ (decide_act ∷ bare_q.more)
    bare_grows = bare_q.entries ∙ append_assoc work.out.entries (decide_act ∷ []) bare_q.more

    by_bare : part.log.prepared ≡ false → KeepsLogs stamp before disk waiting work bare_noticed
    by_bare unprepared = record {
      more = decide_act ∷ bare_q.more;
      entries = bare_grows;
      setting = bare_q.setting;
      keeps = λ lawful h. held_unrecorded stamp before i disk waiting work bare_noticed h (decide_act ∷ bare_q.more) bare_grows bare_q.setting (refl, bare_q.plain) lawful tid part bare_settled.0 bare_settled.1 bare_q.records bare_q.force unprepared bare_settled.2.log
          (unlisted h bare_q.more bare_noticed bare_grows bare_q.setting lawful);
    }

    by_abort : (tell : List NodeNo) → KeepsLogs stamp before disk waiting work (decide_as tid outcomes.Abort cause (record { rec = outcome_rules.record_of tid outcomes.Abort part; tell = tell }) work)
    by_abort tell = by part.log.prepared refl
      where
        by : (b : Bool) → part.log.prepared ≡ b → KeepsLogs stamp before disk waiting work (decide_as tid outcomes.Abort cause (record { rec = if b then Some (records.Aborted tid) else None; tell = tell }) work)
        by true prepared = keeps_then stamp before i disk waiting work noticed (send_each tell (messages.Tell tid outcomes.Abort) noticed) by_recorded (by_quiet stamp before i disk waiting noticed (send_each tell (messages.Tell tid outcomes.Abort) noticed) (quiet_sends tell (messages.Tell tid outcomes.Abort) noticed))
        by false unprepared = keeps_then stamp before i disk waiting work bare_noticed (send_each tell (messages.Tell tid outcomes.Abort) bare_noticed) (by_bare unprepared) (by_quiet stamp before i disk waiting bare_noticed (send_each tell (messages.Tell tid outcomes.Abort) bare_noticed) (quiet_sends tell (messages.Tell tid outcomes.Abort) bare_noticed))

  -- ---- the rule

  pub by_decide : (outcome : Outcome) → KeepsLogs stamp before disk waiting work (decide tid outcome cause work)
  by_decide outcome = by (part_of tid work) refl
    where
      of : (part : Participant) → part_of tid work ≡ Some part → (outcome : Outcome) (tell : List NodeNo) → KeepsLogs stamp before disk waiting work (decide_as tid outcome cause (record { rec = outcome_rules.record_of tid outcome part; tell = tell }) work)
      of part known outcomes.Commit tell = by_commit stamp before i disk waiting tid cause work part known tell
      of part known outcomes.Abort tell = by_abort part known tell

      by : (o : Option Participant) → part_of tid work ≡ o → KeepsLogs stamp before disk waiting work (decide_as tid outcome cause (elim o [ None ↦ tm.no_decision | Some part ↦ record { rec = outcome_rules.record_of tid outcome part; tell = listed (outcome_rules.tell_of outcome part) } ]) work)
      by None is = by_quiet stamp before i disk waiting work (decide_as tid outcome cause tm.no_decision work) (quiet_unknown stamp before i disk waiting tid cause work outcome is)
      by (Some part) is = of part is outcome (listed (outcome_rules.tell_of outcome part))

-- the home decides commit, or aborts where the Commit finds no room
pub by_decide_commit : (stamp : ℕ) (before : BookValue) (i : Inv before) (disk waiting : List Record) (tid : Tid) (work : Work) → KeepsLogs stamp before disk waiting work (decide_commit tid work)
by_decide_commit stamp before i disk waiting tid work = by (tm.need_past tid work.room work.node.manager)
  where
    by : (o : Option ℕ) → KeepsLogs stamp before disk waiting work (elim o [ None ↦ decide tid outcomes.Commit None work | Some need ↦ decide tid outcomes.Abort (Some (causes.Room need work.room)) work ])
    by None = by_decide stamp before i disk waiting tid None work outcomes.Commit
    by (Some need) = by_decide stamp before i disk waiting tid (Some (causes.Room need work.room)) work outcomes.Abort
