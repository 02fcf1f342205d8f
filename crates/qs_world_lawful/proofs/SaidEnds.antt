-- Rules that write at most the end of a transaction's records: what they enter puts nothing on record and takes nothing off.
use Rattle.qs_world_lawful.proofs.Words.{◌≡◌, Bool, true, false, List, [], ◌∷◌, ◌++◌, Option, Some, None, refl, sym, ap, ◌∙◌, append_assoc, fold, if◌then◌else◌, append-nil, NodeNo, Outcome, Tid, listed, Act, Cause, Record, where_undecided, enter, log, log_if, send, send_each, decide_as, give_notices, keep_outcome, begin_incarnation, known_tids, resume_home, resume_part, resume_tid, Work, with_manager, forget, record_learnt, is_undecided, Participant, IsPlain, Every, IsEnd}
use Rattle.qs_base.specs.declared.identifiers.Outcome.TheVariants as outcomes
use Rattle.qs_book_journal.specs.declared.entry.Act.TheVariants as acts
use Rattle.qs_packet.specs.declared.message.Message.TheVariants as messages
use Rattle.qs_record.specs.declared.record.Record.TheVariants as records
use Rattle.qs_node_step.specs.Deciding.{decide}
use Rattle.qs_node_step.specs.State.{part_of, with_node}
use Rattle.qs_node_step.specs.Telling.{learn}
use Rattle.qs_tm.specs.Manager as tm
use Rattle.qs_tm.specs.Outcomes as outcome_rules
use Rattle.qs_world_lawful.proofs.LogEndings.{quiet_notices}
use Rattle.qs_world_lawful.proofs.LogRecords.{every_append}
use Rattle.qs_world_lawful.proofs.Recordless.{Quiet, quiet_enter, quiet_self, quiet_send, quiet_sends}
use Rattle.qs_base.proofs.TidOrder.{or-false}

-- its entries put nothing on record and take nothing off, and its records end others at most
pub record EndsOnly (work new : Work) : Type 0 where
  pub more : List Act
  pub entries : new.out.entries ≡ work.out.entries ++ more
  pub plain : Every IsPlain more
  pub made : List Record
  pub records : new.out.records ≡ work.out.records ++ made
  pub ends : Every IsEnd made
  pub force : new.out.force ≡ work.out.force
  pub setting : new.node.setting ≡ work.node.setting

pub ends_quiet : (work new : Work) → Quiet work new → EndsOnly work new
ends_quiet work new q = record { more = q.more; entries = q.entries; plain = q.plain; made = []; records = q.records ∙ sym (append-nil work.out.records); ends = tt; force = q.force; setting = q.setting }

pub ends_self : (work : Work) → EndsOnly work work
ends_self work = ends_quiet work work (quiet_self work)

-- nothing is entered or recorded
pub ends_still : (work new : Work) → new.out ≡ work.out → new.node.setting ≡ work.node.setting → EndsOnly work new
ends_still work new out setting = record {
  more = [];
  entries = ap (λ o. o.entries) out ∙ sym (append-nil work.out.entries);
  plain = tt;
  made = [];
  records = ap (λ o. o.records) out ∙ sym (append-nil work.out.records);
  ends = tt;
  force = ap (λ o. o.force) out;
  setting = setting;
}

pub ends_then : (work mid new : Work) → EndsOnly work mid → EndsOnly mid new → EndsOnly work new
ends_then work mid new a b = record {
  more = a.more ++ b.more;
  entries = b.entries ∙ (ap (λ (acted : List Act). acted ++ b.more) a.entries ∙ append_assoc work.out.entries a.more b.more);
  plain = every_append IsPlain a.more b.more a.plain b.plain;
  made = a.made ++ b.made;
  records = b.records ∙ (ap (λ (rs : List Record). rs ++ b.made) a.records ∙ append_assoc work.out.records a.made b.made);
  ends = every_append IsEnd a.made b.made a.ends b.ends;
  force = b.force ∙ a.force;
  setting = b.setting ∙ a.setting;
}

pub ends_if : (b : Bool) (work x y : Work) → EndsOnly work x → EndsOnly work y → EndsOnly work (if b then x else y)
ends_if true work x y p q = p
ends_if false work x y p q = q

pub ends_fold : {A : Type 0} (f : Work → A → Work) → ((work : Work) (a : A) → EndsOnly work (f work a)) → (xs : List A) (work : Work) → EndsOnly work (fold f work xs)
ends_fold f each [] work = ends_self work
ends_fold f each (x ∷ xs) work = ends_then work (f work x) (fold f (f work x) xs) (each work x) (ends_fold f each xs (f work x))

pub ends_where : (tid : Tid) (rule : Participant → Work → Work) (work : Work) → ((part : Participant) → EndsOnly work (rule part work)) → EndsOnly work (where_undecided tid rule work)
ends_where tid rule work each = by (part_of tid work)
  where
    by : (o : Option Participant) → EndsOnly work (elim o [ None ↦ work | Some part ↦ if is_undecided part then rule part work else work ])
    by None = ends_self work
    by (Some part) = ends_if (is_undecided part) work (rule part work) work (each part) (ends_self work)

-- ---- the end of a transaction's records

pub ends_aborted : (tid : Tid) (work : Work) → EndsOnly work (log (records.Aborted tid) work)
ends_aborted tid work = record { more = []; entries = sym (append-nil work.out.entries); plain = tt; made = records.Aborted tid ∷ []; records = refl; ends = (tt, tt); force = or-false work.out.force; setting = refl }

pub ends_ended : (tid : Tid) (work : Work) → EndsOnly work (log (records.End tid) work)
ends_ended tid work = record { more = []; entries = sym (append-nil work.out.entries); plain = tt; made = records.End tid ∷ []; records = refl; ends = (tt, tt); force = or-false work.out.force; setting = refl }

abbrev ended_if : Bool → Tid → Option Record
ended_if b tid = if b then Some (records.Aborted tid) else None

ends_recorded : (b : Bool) (tid : Tid) (work : Work) → EndsOnly work (log_if (ended_if b tid) work)
ends_recorded true tid work = ends_aborted tid work
ends_recorded false tid work = ends_self work

pub ends_forget : (tid : Tid) (work : Work) → EndsOnly work (forget tid work)
ends_forget tid work = ends_still work (forget tid work) refl refl

-- ---- the home decides abort

ends_aborting : (tid : Tid) (cause : Option Cause) (b : Bool) (tell : List NodeNo) (work : Work) → EndsOnly work (decide_as tid outcomes.Abort cause (record { rec = ended_if b tid; tell = tell }) work)
ends_aborting tid cause b tell work =
    let decided : Work = with_manager (tm.decide tid outcomes.Abort) work in
    let recorded : Work = log_if (ended_if b tid) decided in
    let kept : Work = keep_outcome tid outcomes.Abort cause recorded in
    let entered : Work = enter (acts.Decide tid outcomes.Abort cause) kept in
    let noticed : Work = give_notices tid outcomes.Abort entered in
    let told : Work = send_each tell (messages.Tell tid outcomes.Abort) noticed in
    ends_then work decided told (ends_still work decided refl refl)
    (ends_then decided recorded told (ends_recorded b tid decided)
    (ends_then recorded kept told (ends_still recorded kept refl refl)
    (ends_then kept entered told (ends_quiet kept entered (quiet_enter (acts.Decide tid outcomes.Abort cause) kept refl))
    (ends_then entered noticed told (ends_quiet entered noticed (quiet_notices tid entered)) (ends_quiet noticed told (quiet_sends tell (messages.Tell tid outcomes.Abort) noticed))))))

pub ends_decide : (tid : Tid) (cause : Option Cause) (work : Work) → EndsOnly work (decide tid outcomes.Abort cause work)
ends_decide tid cause work = by (part_of tid work)
  where
    by : (o : Option Participant) → EndsOnly work (decide_as tid outcomes.Abort cause (elim o [ None ↦ tm.no_decision | Some part ↦ record { rec = outcome_rules.record_of tid outcomes.Abort part; tell = listed (outcome_rules.tell_of outcomes.Abort part) } ]) work)
    by None = ends_aborting tid cause false [] work
    by (Some part) = ends_aborting tid cause part.log.prepared (listed (outcome_rules.tell_of outcomes.Abort part)) work

-- ---- a node learns abort, also as its incarnation begins

ends_noticed : (tid : Tid) (part : Participant) (work : Work) → EndsOnly work (log_if (record_learnt tid outcomes.Abort part) (give_notices tid outcomes.Abort work))
ends_noticed tid part work =
    let noticed : Work = give_notices tid outcomes.Abort work in
    ends_then work noticed (log_if (record_learnt tid outcomes.Abort part) noticed) (ends_quiet work noticed (quiet_notices tid work)) (ends_recorded part.log.prepared tid noticed)

pub ends_learn : (tid : Tid) (part : Participant) (work : Work) → EndsOnly work (learn tid outcomes.Abort part work)
ends_learn tid part work =
    let took : Work = with_manager (tm.took_outcome tid outcomes.Abort) work in
    ends_then work took (learn tid outcomes.Abort part work) (ends_still work took refl refl) (ends_noticed tid part took)

ends_resume : (work : Work) (tid : Tid) → EndsOnly work (resume_tid work tid)
ends_resume work tid = by (part_of tid work)
  where
    of : (part : Participant) (o : Option Outcome) → EndsOnly work (elim o [ None ↦ send tid.home (messages.Inquire tid) work | Some outcome ↦ resume_home tid part outcome work ])
    of part None = ends_quiet work (send tid.home (messages.Inquire tid) work) (quiet_send tid.home (messages.Inquire tid) work)
    of part (Some outcomes.Commit) = ends_quiet work (send_each (listed part.tell) (messages.Tell tid outcomes.Commit) work) (quiet_sends (listed part.tell) (messages.Tell tid outcomes.Commit) work)
    of part (Some outcomes.Abort) = ends_noticed tid part work

    by : (o : Option Participant) → EndsOnly work (elim o [ None ↦ work | Some part ↦ resume_part tid part work ])
    by None = ends_self work
    by (Some part) = of part part.outcome

pub ends_begin : (work : Work) → EndsOnly work (begin_incarnation work)
ends_begin work =
    let begun : Work = with_node (λ node. record node { is_first = false }) work in
    ends_if work.node.is_first work (fold resume_tid begun (known_tids work)) work
    (ends_then work begun (fold resume_tid begun (known_tids work)) (ends_still work begun refl refl) (ends_fold resume_tid ends_resume (known_tids work) begun)) (ends_self work)
