-- Decisions, outcomes that are told, and inquiries leave the records of a transaction in turn.
use Rattle.qs_world_refine.proofs.Words.{◌≡◌, ◌⊎◌, inl, inr, ◌||◌, ℕ, Bool, true, false, List, [], ◌∷◌, ◌++◌, Option, Some, None, is_some, refl, ap, subst, ◌∙◌, if◌then◌else◌, list_any, find, is_at, same_tid, tid_cmp, NodeNo, ServerNo, Tid, listed, same_node, Nodes, after_notice, Cause, Record, aborted_participant, record_of, writes_commit, is_undecided, Decision, Participant, is_outcome_of, Decided, is_kept_commit, log_if, tid_of, notify, end_member, due_endings, end_members, learn_member}
use Rattle.qs_world_refine.proofs.Words.{learners_at, learn_members, give_notices, keep_outcome, decide, decide_commit, Work, here, part_of, with_manager, change_server, names_at, end_record, record_learnt, learn, learn_unknown, take_outcome, tell_came, or_cases}
use Rattle.qs_base.specs.declared.identifiers.Outcome.{Outcome}
use Rattle.qs_base.specs.declared.identifiers.Outcome.TheVariants as outcomes
use Rattle.qs_ops.specs.declared.answer.Cause.TheVariants as causes
use Rattle.qs_ops.specs.declared.vote.Notice.{Notice}
use Rattle.qs_packet.specs.declared.message.Message.TheVariants as messages
use Rattle.qs_record.specs.declared.record.Record.TheVariants as records
use Rattle.qs_tm.specs.Manager as tm
use Rattle.qs_tm.specs.Outcomes as outcome_rules
use Rattle.qs_node_step.specs.Deciding.{notice_of}
use Rattle.qs_world_refine.proofs.Maps.{changed_none}
use Rattle.qs_world_refine.proofs.TurnOn.{Case, KeptSo, became, fate_at, Turned, TurnsOn, SameTurn, NoLoose, on_itself, on_then, same_on, same_then, fold_same, if_on, rest_on, enter_on, enter_same, send_on, sends_on, server_same, part_same, apart_same, open_loose}
use Rattle.qs_world_refine.proofs.TurnRecords.{fate_logged_if, log_if_kept, MayEnter, MayTake, put_on, log_if_on, aborted_now, fate_unknown, open_fate, open_decided, take_on}

-- ---- notices

notify_same : {k : Case} (tid : Tid) (notice : Notice) (server : ServerNo) (work : Work) → SameTurn k work (notify tid notice server work)
notify_same {k} tid notice server work = same_then (server_same server (λ value. after_notice value tid notice) work) (part_same tid (outcome_rules.settled server) (λ part. refl) (change_server server (λ value. after_notice value tid notice) work))

end_member_same : {k : Case} (tid : Tid) (work : Work) (server : ServerNo) → SameTurn k work (end_member tid work server)
end_member_same {k} tid work server = same_then (notify_same tid Rattle.qs_ops.specs.declared.vote.Notice.TheVariants.Ending server work) (enter_same _ _)

pub end_members_same : {k : Case} (tid : Tid) (work : Work) → SameTurn k work (end_members tid work)
end_members_same {k} tid work = fold_same (end_member tid) (end_member_same tid) (due_endings tid work) work

learn_member_same : {k : Case} (tid : Tid) (outcome : Outcome) (work : Work) (server : ServerNo) → SameTurn k work (learn_member tid outcome work server)
learn_member_same {k} tid outcome work server = same_then (notify_same tid (notice_of outcome) server work) (enter_same _ _)

learn_members_same : {k : Case} (tid : Tid) (outcome : Outcome) (work : Work) → SameTurn k work (learn_members tid outcome work)
learn_members_same {k} tid outcome work = fold_same (learn_member tid outcome) (learn_member_same tid outcome) (learners_at tid work) work

pub notices_same : {k : Case} (tid : Tid) (outcome : Outcome) (work : Work) → SameTurn k work (give_notices tid outcome work)
notices_same {k} tid outcomes.Commit work = learn_members_same tid outcomes.Commit work
notices_same {k} tid outcomes.Abort work = same_then (end_members_same tid work) (learn_members_same tid outcomes.Abort (end_members tid work))

-- ---- the decision

abbrev made : Tid → Outcome → Option Participant → Decision
made tid outcome o = elim o [ None ↦ tm.no_decision | Some part ↦ record { rec = record_of tid outcome part; tell = listed (outcome_rules.tell_of outcome part) } ]

-- its record may be appended, once it is decided
record_may : (k : Case) (tid : Tid) (outcome : Outcome) (part : Participant) (decided : Work) (rec : Record) → record_of tid outcome part ≡ Some rec → NoLoose k decided.out.records
    → (acks : Nodes) × (fate_at k.tid decided.node ≡ became (Some outcome) acks) → MayEnter k rec decided
record_may k tid outcomes.Commit part decided rec is clear fate = by (writes_commit part) is
  where
    by : (b : Bool) → (if b then Some (records.Commit tid (listed part.told)) else None) ≡ Some rec → MayEnter k rec decided
    by true is = let same : records.Commit tid (listed part.told) ≡ rec = cc (is) in subst (λ (r : Record). MayEnter k r decided) same clear
    by false is = absurd (cc (is))
record_may k tid outcomes.Abort part decided rec is clear fate = by part.log.prepared is
  where
    by : (b : Bool) → (if b then Some (records.Aborted tid) else None) ≡ Some rec → MayEnter k rec decided
    by true is = let same : records.Aborted tid ≡ rec = cc (is) in subst (λ (r : Record). MayEnter k r decided) same fate
    by false is = absurd (cc (is))

-- and is its own
record_own : (tid : Tid) (outcome : Outcome) (part : Participant) (rec : Record) → record_of tid outcome part ≡ Some rec → tid_of rec ≡ tid
record_own tid outcomes.Commit part rec is = by (writes_commit part) is
  where
    by : (b : Bool) → (if b then Some (records.Commit tid (listed part.told)) else None) ≡ Some rec → tid_of rec ≡ tid
    by true is = let same : records.Commit tid (listed part.told) ≡ rec = cc (is) in subst (λ (r : Record). tid_of r ≡ tid) same refl
    by false is = absurd (cc (is))
record_own tid outcomes.Abort part rec is = by part.log.prepared is
  where
    by : (b : Bool) → (if b then Some (records.Aborted tid) else None) ≡ Some rec → tid_of rec ≡ tid
    by true is = let same : records.Aborted tid ≡ rec = cc (is) in subst (λ (r : Record). tid_of r ≡ tid) same refl
    by false is = absurd (cc (is))

pub setting_logged : (rec : Option Record) (work : Work) → (log_if rec work).node.setting ≡ work.node.setting
setting_logged None work = refl
setting_logged (Some rec) work = refl

-- what is decided is kept: a commit of one that is known as such
pub found_last : (p : Decided → Bool) (x : Decided) (xs : List Decided) → is_kept_commit (find p (xs ++ x ∷ [])) ≡ true → (is_kept_commit (find p xs) ≡ true) ⊎ ((p x ≡ true) × (is_kept_commit (Some x) ≡ true))
found_last p x [] = by (p x)
  where
    by : (b : Bool) → is_kept_commit (if b then Some x else None) ≡ true → (false ≡ true) ⊎ ((b ≡ true) × (is_kept_commit (Some x) ≡ true))
    by true is = inr (refl, is)
    by false is = absurd (cc (is))
found_last p x (y ∷ ys) = by (p y) (found_last p x ys)
  where
    by : (b : Bool) → (is_kept_commit (find p (ys ++ x ∷ [])) ≡ true → (is_kept_commit (find p ys) ≡ true) ⊎ ((p x ≡ true) × (is_kept_commit (Some x) ≡ true)))
        → is_kept_commit (if b then Some y else find p (ys ++ x ∷ [])) ≡ true → (is_kept_commit (if b then Some y else find p ys) ≡ true) ⊎ ((p x ≡ true) × (is_kept_commit (Some x) ≡ true))
    by true more is = inl is
    by false more is = more is

keep_on : {k : Case} (tid : Tid) (outcome : Outcome) (cause : Option Cause) (work : Work) → (same_tid k.tid tid ≡ true → outcome ≡ outcomes.Commit → (acks : Nodes) × (fate_at k.tid work.node ≡ became (Some outcomes.Commit) acks))
    → TurnsOn k work (keep_outcome tid outcome cause work)
keep_on {k} tid outcome cause work known = record { setting = refl; goes = λ is. is; kept = λ so open_end is. by so open_end (or_cases (is_kept_commit (find (is_outcome_of k.tid) (work.node.kept.now.outcomes ++ last ∷ []))) (list_any (same_tid k.tid) work.node.committed) is) }
  where
    last : Decided
    last = record { tid = tid; outcome = outcome; cause = cause }

    before : (a b : Bool) → (a ≡ true) ⊎ (b ≡ true) → (a || b) ≡ true
    before true b is = refl
    before false b (inl is) = absurd (cc (is))
    before false b (inr is) = is

    commit : (o : Outcome) → is_kept_commit (Some (record { tid = tid; outcome = o; cause = cause })) ≡ true → o ≡ outcomes.Commit
    commit outcomes.Commit is = refl
    commit outcomes.Abort is = absurd (cc (is))

    by : KeptSo k work → k.ends ≡ false → (is_kept_commit (find (is_outcome_of k.tid) (work.node.kept.now.outcomes ++ last ∷ [])) ≡ true) ⊎ (list_any (same_tid k.tid) work.node.committed ≡ true)
        → (k.was ≡ true) ⊎ ((acks : Nodes) × (fate_at k.tid work.node ≡ became (Some outcomes.Commit) acks))
    by so open_end (inr logged) = so open_end (before (is_kept_commit (find (is_outcome_of k.tid) work.node.kept.now.outcomes)) (list_any (same_tid k.tid) work.node.committed) (inr logged))
    by so open_end (inl its) = at (found_last (is_outcome_of k.tid) last work.node.kept.now.outcomes its)
      where
        at : (is_kept_commit (find (is_outcome_of k.tid) work.node.kept.now.outcomes) ≡ true) ⊎ ((is_outcome_of k.tid last ≡ true) × (is_kept_commit (Some last) ≡ true)) → (k.was ≡ true) ⊎ ((acks : Nodes) × (fate_at k.tid work.node ≡ became (Some outcomes.Commit) acks))
        at (inl old) = so open_end (before (is_kept_commit (find (is_outcome_of k.tid) work.node.kept.now.outcomes)) (list_any (same_tid k.tid) work.node.committed) (inl old))
        at (inr new) = inr (known new.0 (commit outcome new.1))

-- it is unknown or undecided
abbrev pub IsOpenAt : Tid → Work → Type 0
IsOpenAt tid work = (part : Participant) → part_of tid work ≡ Some part → part.outcome ≡ None

pub decide_on : {k : Case} (tid : Tid) (outcome : Outcome) (cause : Option Cause) (work : Work) → (same_tid k.tid tid ≡ true → IsOpenAt tid work) → MayTake k tid outcome work → (outcome ≡ outcomes.Commit → (part : Participant) × (part_of tid work ≡ Some part)) → TurnsOn k work (decide tid outcome cause work)
decide_on {k} tid outcome cause work open_at may found =
    on_then logged
    (on_then (keep_on tid outcome cause (log_if (tm.decision tid outcome work.node.manager).rec decided) known_then)
    (on_then (enter_on _ (keep_outcome tid outcome cause (log_if (tm.decision tid outcome work.node.manager).rec decided)))
    (on_then (same_on (notices_same tid outcome _)) (sends_on (tm.decision tid outcome work.node.manager).tell (messages.Tell tid outcome) _))))
  where
    decided : Work
    decided = with_manager (tm.decide tid outcome) work

    logged_as : (o : Option Participant) → part_of tid work ≡ o → (b : Bool) → same_tid k.tid tid ≡ b → TurnsOn k work (log_if (made tid outcome o).rec decided)
    logged_as None none b same = rest_on work decided refl refl (changed_none (is_at (tid_cmp tid)) (outcome_rules.decided outcome) work.node.manager.known none) refl
    logged_as (Some part) known false apart = on_then (same_on (apart_same tid (outcome_rules.decided outcome) work apart))
        (log_if_on (record_of tid outcome part) decided (λ is rec its same. absurd (let own : same_tid k.tid tid ≡ true = subst (λ (u : Tid). same_tid k.tid u ≡ true) (record_own tid outcome part rec its) same in cc (own, apart))))
    logged_as (Some part) known true same = record {
      setting = setting_logged (record_of tid outcome part) decided;
      kept = λ so. log_if_kept k (record_of tid outcome part) decided ((take_on {k = k} tid (outcome_rules.decided outcome) outcome work part known open_now refl refl may).kept so);
      goes = λ is. (log_if_on (record_of tid outcome part) decided (λ after rec its of_it. record_may k tid outcome part decided rec its (open_loose k work.node.setting.node (fate_at k.tid work.node) work.out.records part.acknowledged opened is) fate)).goes
          ((take_on tid (outcome_rules.decided outcome) outcome work part known open_now refl refl may).goes is);
    }
      where
        open_now : part.outcome ≡ None
        open_now = open_at same part known

        opened : fate_at k.tid work.node ≡ became None part.acknowledged
        opened = open_fate k tid work part known open_now same

        fate : (acks : Nodes) × (fate_at k.tid decided.node ≡ became (Some outcome) acks)
        fate = (part.acknowledged, open_decided k tid (outcome_rules.decided outcome) outcome work part known open_now refl refl same)

    -- a commit is known from then on
    known_then : same_tid k.tid tid ≡ true → outcome ≡ outcomes.Commit → (acks : Nodes) × (fate_at k.tid (log_if (tm.decision tid outcome work.node.manager).rec decided).node ≡ became (Some outcomes.Commit) acks)
    known_then same commit = let one = found commit in (
      one.0.acknowledged,
      fate_logged_if k.tid (tm.decision tid outcome work.node.manager).rec decided
          ∙ (open_decided k tid (outcome_rules.decided outcome) outcome work one.0 one.1 (open_at same one.0 one.1) refl refl same ∙ ap (λ (o : Outcome). became (Some o) one.0.acknowledged) commit),
    )

    logged : TurnsOn k work (log_if (tm.decision tid outcome work.node.manager).rec decided)
    logged = logged_as (part_of tid work) refl (same_tid k.tid tid) refl

pub decide_commit_on : {k : Case} (tid : Tid) (work : Work) → (part : Participant) × (part_of tid work ≡ Some part) → (same_tid k.tid tid ≡ true → IsOpenAt tid work) → (same_tid k.tid tid ≡ true → same_node k.tid.home work.node.setting.node ≡ true) → TurnsOn k work (decide_commit tid work)
decide_commit_on {k} tid work found open_at at_home = by (tm.need_past tid work.room work.node.manager)
  where
    by : (o : Option ℕ) → TurnsOn k work (elim o [ None ↦ decide tid outcomes.Commit None work | Some need ↦ decide tid outcomes.Abort (Some (causes.Room need work.room)) work ])
    by None = decide_on tid outcomes.Commit None work open_at (λ same away commit. absurd (let at = at_home same in cc (at, away))) (λ _. found)
    by (Some need) = decide_on tid outcomes.Abort (Some (causes.Room need work.room)) work open_at (λ same away commit. absurd (cc (commit))) (λ commit. absurd (cc (commit)))

-- ---- an outcome is told

pub learn_on : {k : Case} (tid : Tid) (outcome : Outcome) (part : Participant) (work : Work) → part_of tid work ≡ Some part → part.outcome ≡ None → MayTake k tid outcome work → TurnsOn k work (learn tid outcome part work)
learn_on {k} tid outcome part work known open_now may = by (same_tid k.tid tid) refl
  where
    taken : Work
    taken = with_manager (tm.took_outcome tid outcome) work

    noted : SameTurn k taken (give_notices tid outcome taken)
    noted = notices_same tid outcome taken

    own : (rec : Record) (b : Bool) (outcome : Outcome) → (if b then Some (end_record tid outcome) else None) ≡ Some rec → tid_of rec ≡ tid
    own rec true outcomes.Commit is = let same : records.Commit tid [] ≡ rec = cc (is) in subst (λ (r : Record). tid_of r ≡ tid) same refl
    own rec true outcomes.Abort is = let same : records.Aborted tid ≡ rec = cc (is) in subst (λ (r : Record). tid_of r ≡ tid) same refl
    own rec false outcome is = absurd (cc (is))

    by : (b : Bool) → same_tid k.tid tid ≡ b → TurnsOn k work (learn tid outcome part work)
    by false apart = on_then (take_on tid (outcome_rules.took_outcome outcome) outcome work part known open_now refl refl may)
        (on_then (same_on noted) (log_if_on (record_learnt tid outcome part) (give_notices tid outcome taken)
        (λ is rec its same. absurd (let of_it : same_tid k.tid tid ≡ true = subst (λ (u : Tid). same_tid k.tid u ≡ true) (own rec part.log.prepared outcome its) same in cc (of_it, apart)))))
    by true same = record {
      setting = setting_logged (record_learnt tid outcome part) (give_notices tid outcome taken) ∙ noted.setting;
      kept = λ so. log_if_kept k (record_learnt tid outcome part) (give_notices tid outcome taken) ((on_then (take_on {k = k} tid (outcome_rules.took_outcome outcome) outcome work part known open_now refl refl may) (same_on noted)).kept so);
      goes = λ is. (log_if_on (record_learnt tid outcome part) (give_notices tid outcome taken) (λ after rec its of_it. enters rec part.log.prepared outcome its (rw noted.records (clear is)) (part.acknowledged, noted.fate ∙ decided))).goes
          ((on_then (take_on tid (outcome_rules.took_outcome outcome) outcome work part known open_now refl refl may) (same_on noted)).goes is);
    }
      where
        clear : Turned k work → NoLoose k work.out.records
        clear is = open_loose k work.node.setting.node (fate_at k.tid work.node) work.out.records part.acknowledged (open_fate k tid work part known open_now same) is

        decided : fate_at k.tid taken.node ≡ became (Some outcome) part.acknowledged
        decided = open_decided k tid (outcome_rules.took_outcome outcome) outcome work part known open_now refl refl same

        enters : (rec : Record) (b : Bool) (o : Outcome) → (if b then Some (end_record tid o) else None) ≡ Some rec → NoLoose k (give_notices tid outcome taken).out.records
            → (acks : Nodes) × (fate_at k.tid (give_notices tid outcome taken).node ≡ became (Some o) acks) → MayEnter k rec (give_notices tid outcome taken)
        enters rec true outcomes.Commit is none fate = let its : records.Commit tid [] ≡ rec = cc (is) in subst (λ (r : Record). MayEnter k r (give_notices tid outcome taken)) its none
        enters rec true outcomes.Abort is none fate = let its : records.Aborted tid ≡ rec = cc (is) in subst (λ (r : Record). MayEnter k r (give_notices tid outcome taken)) its fate
        enters rec false o is none fate = absurd (cc (is))

-- of what is not known abort is kept
pub keep_abort_on : {k : Case} (tid : Tid) (work : Work) → TurnsOn k work (with_manager (tm.keep_abort tid) work)
keep_abort_on {k} tid work = by (tm.part_of tid work.node.manager) refl
  where
    new : Participant
    new = aborted_participant (tm.is_home tid work.node.manager)

    by : (o : Option Participant) → tm.part_of tid work.node.manager ≡ o → TurnsOn k work (record work { node = record work.node { manager = if is_some o then work.node.manager else tm.put_part tid new work.node.manager } })
    by None none = put_on tid new work (λ same. fate_unknown k tid work same none) (λ same is. aborted_now (here work) (fate_at k.tid work.node) work.out.records (fate_unknown k tid work same none) is)
    by (Some known) is = on_itself work

take_outcome_on : {k : Case} (tid : Tid) (outcome : Outcome) (work : Work) → MayTake k tid outcome work → TurnsOn k work (take_outcome tid outcome work)
take_outcome_on {k} tid outcome work may = by (part_of tid work) refl
  where
    unknown : (outcome : Outcome) → TurnsOn k work (learn_unknown tid outcome work)
    unknown outcomes.Commit = on_itself work
    unknown outcomes.Abort = keep_abort_on tid work

    at : (part : Participant) → part_of tid work ≡ Some part → (o : Option Outcome) → part.outcome ≡ o → TurnsOn k work (if Rattle.std.specs.Prelude.is_none o then learn tid outcome part work else work)
    at part known None open_now = learn_on tid outcome part work known open_now may
    at part known (Some other) is = on_itself work

    by : (o : Option Participant) → part_of tid work ≡ o → TurnsOn k work (elim o [ None ↦ learn_unknown tid outcome work | Some part ↦ if is_undecided part then learn tid outcome part work else work ])
    by None none = unknown outcome
    by (Some part) known = at part known part.outcome refl

pub tell_came_on : {k : Case} (peer : NodeNo) (tid : Tid) (outcome : Outcome) (work : Work) → MayTake k tid outcome work → TurnsOn k work (tell_came peer tid outcome work)
tell_came_on {k} peer tid outcome work may = if_on (same_node tid.home (here work)) (on_itself work) (on_then (take_outcome_on tid outcome work may) (send_on peer (messages.Told tid (names_at tid outcome work)) (take_outcome tid outcome work)))
