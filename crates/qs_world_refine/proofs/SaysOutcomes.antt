-- Decisions, outcomes that are told, and inquiries leave a node sound over its log.
use Rattle.qs_world_refine.proofs.Words.{◌≡◌, inl, inr, ◌==◌, ◌&&◌, ◌||◌, not, Bool, true, false, List, [], ◌∷◌, fold, Option, Some, None, is_some, refl, sym, ap, subst, ◌∙◌, arith, if◌then◌else◌, is_none, ℕ, ◌<◌, list_all, list_any, is_at, same_tid, tid_cmp, NodeNo, Tid, listed, same_node, no_nodes, Cause, Record, aborted_participant, record_of, writes_commit, is_undecided, Decision, InLog, Participant, was_committed, answer_unknown, answer_known, inquiry_came, log, log_if, tid_of, learners_at}
use Rattle.qs_world_refine.proofs.Words.{give_notices, keep_outcome, decide, decide_commit, Work, here, part_of, with_manager, names_at, end_record, record_learnt, learn, learn_unknown, take_outcome, tell_came, forget, end_told, take_told, take_names, keep_abort_told, is_other_node, told_unknown, told_known, told_at_home, told_came, no_flags, flags_at, SaysOn, in_order, list_of, is_in_run, tell_at, tell_of_part, names_node, node_no, Nodes, is_untold_of}
use Rattle.qs_base.specs.declared.identifiers.Outcome.{Outcome}
use Rattle.qs_base.specs.declared.identifiers.Outcome.TheVariants as outcomes
use Rattle.qs_engage.specs.Nodes.{has_node}
use Rattle.qs_ops.specs.declared.answer.Cause.TheVariants as causes
use Rattle.qs_packet.specs.declared.message.Message.TheVariants as messages
use Rattle.qs_record.specs.declared.record.Record.TheVariants as records
use Rattle.qs_tm.specs.Manager as tm
use Rattle.qs_tm.specs.Outcomes as outcome_rules
use Rattle.qs_tm.specs.Participant as participant
use Rattle.qs_world_refine.proofs.Forgetting.{forgotten, order_changed}
use Rattle.qs_world_refine.proofs.Maps.{lookup_changed}
use Rattle.qs_world_refine.proofs.Others.{forget_apart}
use Rattle.qs_world_refine.proofs.SaysLogs.{CommitsOwn, MayLog, ListsIt, lists_told, log_on, log_if_on, flags_logged}
use Rattle.qs_world_refine.proofs.SaysOn.{on_itself, on_then, if_on, rest_on, two_on, grown_on, KeepsTelling, enter_on, send_on, sends_on, queues_on, part_on, absent_on}
use Rattle.qs_world_refine.proofs.SoundKnown.{same_is}
use Rattle.qs_world.specs.Openings as openings
use Rattle.qs_world_refine.specs.Lists.{is_commit}
use Rattle.qs_world_refine.proofs.NodeLists.{listed_within, listed_names, unlisted}
use Rattle.qs_world_refine.proofs.SaysNotices.{IsKnown, IsLoggedAs, learns_logged, notices_known, notices_on, part_known, part_logged}
use Rattle.qs_world_refine.proofs.SaysTells.{NotCommitted, open_of, nobody_told, names_grow, tell_grows}

-- ---- the decision

abbrev made : Tid → Outcome → Option Participant → Decision
made tid outcome o = elim o [ None ↦ tm.no_decision | Some part ↦ record { rec = record_of tid outcome part; tell = listed (outcome_rules.tell_of outcome part) } ]

-- its record is of the transaction, which is known where there is one
decided_may : (tid : Tid) (outcome : Outcome) (work : Work) (rec : Record) → (tm.decision tid outcome work.node.manager).rec ≡ Some rec → (tid_of rec ≡ tid) × IsKnown tid work
decided_may tid outcome work rec = by outcome (part_of tid work) refl
  where
    written : (b : Bool) (list : List NodeNo) → (if b then Some (records.Commit tid list) else None) ≡ Some rec → tid_of rec ≡ tid
    written true list is = let same : records.Commit tid list ≡ rec = cc (is) in subst (λ (r : Record). tid_of r ≡ tid) same refl
    written false list is = absurd (cc (is))

    ended : (b : Bool) → (if b then Some (records.Aborted tid) else None) ≡ Some rec → tid_of rec ≡ tid
    ended true is = let same : records.Aborted tid ≡ rec = cc (is) in subst (λ (r : Record). tid_of r ≡ tid) same refl
    ended false is = absurd (cc (is))

    of_it : (outcome : Outcome) (part : Participant) → record_of tid outcome part ≡ Some rec → tid_of rec ≡ tid
    of_it outcomes.Commit part is = written (writes_commit part) (listed part.told) is
    of_it outcomes.Abort part is = ended part.log.prepared is

    by : (outcome : Outcome) (o : Option Participant) → part_of tid work ≡ o
        → (made tid outcome o).rec ≡ Some rec → (tid_of rec ≡ tid) × IsKnown tid work
    by outcome None none is = absurd (cc (is))
    by outcome (Some part) known is = (of_it outcome part is, (part, known))

-- a commit that is decided is the first of its transaction in the log, and names nodes of the run
abbrev pub MayList : Tid → Outcome → Work → Type 0
MayList tid outcome work = outcome ≡ outcomes.Commit → (part : Participant) → part_of tid work ≡ Some part → (part.log.listed ≡ false) × ((list_all (is_in_run 16) (listed part.told) ≡ true) × ((not (openings.has_node (listed part.told) tid.home) ≡ true) × (same_node tid.home (here work) ≡ true)))

abbrev flags_in : Option Participant → InLog
flags_in o = elim o [ None ↦ no_flags | Some part ↦ part.log ]

pub aborts_none : (tid : Tid) (work : Work) → MayList tid outcomes.Abort work
aborts_none tid work is = absurd (cc (is))

pub decide_on : (tid : Tid) (outcome : Outcome) (cause : Option Cause) (work : Work) → NotCommitted tid work → MayList tid outcome work → SaysOn work (decide tid outcome cause work)
decide_on tid outcome cause work closed may_list =
    on_then (grown_on tid (outcome_rules.decided outcome) (λ part. refl) work (λ part known m below has. absurd (nobody_told part (closed part known) m has)))
    (on_then (log_if_on (tm.decision tid outcome work.node.manager).rec decided may)
    (on_then (rest_on (log_if (tm.decision tid outcome work.node.manager).rec decided) (keep_outcome tid outcome cause (log_if (tm.decision tid outcome work.node.manager).rec decided)) refl refl refl refl refl)
    (on_then (enter_on _ (keep_outcome tid outcome cause (log_if (tm.decision tid outcome work.node.manager).rec decided)))
    (on_then (notices_on tid outcome _) (sends_on (tm.decision tid outcome work.node.manager).tell (messages.Tell tid outcome) _)))))
  where
    decided : Work
    decided = with_manager (tm.decide tid outcome) work

    may : (rec : Record) → (tm.decision tid outcome work.node.manager).rec ≡ Some rec → MayLog rec decided × (ListsIt rec decided × CommitsOwn rec decided.node)
    may rec is = let of_it : (tid_of rec ≡ tid) × IsKnown tid work = decided_may tid outcome work rec is in (
      inr (subst (λ (t : Tid). IsKnown t decided) (sym of_it.0) (part_known tid (outcome_rules.decided outcome) work of_it.1)),
      (
        lists outcome may_list of_it.1.0 of_it.1.1 (sym (ap (λ (o : Option Participant). (made tid outcome o).rec) of_it.1.1) ∙ is),
        owns outcome may_list of_it.1.0 of_it.1.1 (sym (ap (λ (o : Option Participant). (made tid outcome o).rec) of_it.1.1) ∙ is),
      ),
    )
      where
        told_in : Option Participant → Nodes
        told_in o = elim o [ None ↦ no_nodes | Some part ↦ tell_of_part part ]

        owns : (o : Outcome) → MayList tid o work → (part : Participant) → part_of tid work ≡ Some part → record_of tid o part ≡ Some rec → CommitsOwn rec (with_manager (tm.decide tid o) work).node
        owns outcomes.Commit may_list part known is = by (writes_commit part) is
          where
            by : (b : Bool) → (if b then Some (records.Commit tid (listed part.told)) else None) ≡ Some rec → CommitsOwn rec (with_manager (tm.decide tid outcomes.Commit) work).node
            by true is = let same : records.Commit tid (listed part.told) ≡ rec = cc (is) in subst (λ (r : Record). CommitsOwn r (with_manager (tm.decide tid outcomes.Commit) work).node) same (inl (may_list refl part known).1.1.1)
            by false is = absurd (cc (is))
        owns outcomes.Abort may_list part known is = by part.log.prepared is
          where
            by : (b : Bool) → (if b then Some (records.Aborted tid) else None) ≡ Some rec → CommitsOwn rec (with_manager (tm.decide tid outcomes.Abort) work).node
            by true is = let same : records.Aborted tid ≡ rec = cc (is) in subst (λ (r : Record). CommitsOwn r (with_manager (tm.decide tid outcomes.Abort) work).node) same tt
            by false is = absurd (cc (is))

        lists : (o : Outcome) → MayList tid o work → (part : Participant) → part_of tid work ≡ Some part → record_of tid o part ≡ Some rec → ListsIt rec (with_manager (tm.decide tid o) work)
        lists outcomes.Commit may_list part known is = written (writes_commit part) is
          where
            told_is : tell_at tid (with_manager (tm.decide tid outcomes.Commit) work).node ≡ part.told
            told_is = ap told_in (lookup_changed (is_at (tid_cmp tid)) (outcome_rules.decided outcomes.Commit) work.node.manager.known part known)

            written : (b : Bool) → (if b then Some (records.Commit tid (listed part.told)) else None) ≡ Some rec → ListsIt rec (with_manager (tm.decide tid outcomes.Commit) work)
            written true is = let same : records.Commit tid (listed part.told) ≡ rec = cc (is) in subst (λ (r : Record). ListsIt r (with_manager (tm.decide tid outcomes.Commit) work)) same
                (lists_told tid (listed part.told) (with_manager (tm.decide tid outcomes.Commit) work).node (record {
                  named = λ m names. let its = listed_within part.told m names in (its.0, subst (λ (s : Nodes). has_node s (node_no m) ≡ true) (sym told_is) its.1);
                  all = λ m below has. listed_names part.told m below (subst (λ (s : Nodes). has_node s (node_no m) ≡ true) told_is has);
                  run = (may_list refl part known).1.0;
                  others = (may_list refl part known).1.1.0;
                  fresh = ap (λ (o : Option Participant). (flags_in o).listed) (lookup_changed (is_at (tid_cmp tid)) (outcome_rules.decided outcomes.Commit) work.node.manager.known part known) ∙ (may_list refl part known).0;
                }))
            written false is = absurd (cc (is))
        lists outcomes.Abort may_list part known is = ended part.log.prepared is
          where
            ended : (b : Bool) → (if b then Some (records.Aborted tid) else None) ≡ Some rec → ListsIt rec (with_manager (tm.decide tid outcomes.Abort) work)
            ended true is = let same : records.Aborted tid ≡ rec = cc (is) in subst (λ (r : Record). ListsIt r (with_manager (tm.decide tid outcomes.Abort) work)) same tt
            ended false is = absurd (cc (is))

pub decide_commit_on : (tid : Tid) (work : Work) → NotCommitted tid work → MayList tid outcomes.Commit work → SaysOn work (decide_commit tid work)
decide_commit_on tid work closed may_list = by (tm.need_past tid work.room work.node.manager)
  where
    by : (o : Option Rattle.std.proofs.Common.ℕ) → SaysOn work (elim o [ None ↦ decide tid outcomes.Commit None work | Some need ↦ decide tid outcomes.Abort (Some (causes.Room need work.room)) work ])
    by None = decide_on tid outcomes.Commit None work closed may_list
    by (Some need) = decide_on tid outcomes.Abort (Some (causes.Room need work.room)) work closed (aborts_none tid work)

-- ---- an outcome is told

learn_on : (tid : Tid) (outcome : Outcome) (part : Participant) (work : Work) → part_of tid work ≡ Some part → is_undecided part ≡ true → SaysOn work (learn tid outcome part work)
learn_on tid outcome part work known open_now =
    on_then (grown_on tid (outcome_rules.took_outcome outcome) (λ part. refl) work (λ p its m below has. absurd (nobody_told p (open_of tid work part known open_now p its) m has)))
    (on_then (notices_on tid outcome taken) (log_if_on (record_learnt tid outcome part) (give_notices tid outcome taken) (λ rec is. (inr (subst (λ (t : Tid). IsKnown t (give_notices tid outcome taken)) (sym (of_it rec part.log.prepared outcome is)) known_still), (no_list rec part.log.prepared outcome is (give_notices tid outcome taken), owns rec outcome is)))))
  where
    taken : Work
    taken = with_manager (tm.took_outcome tid outcome) work

    known_still : IsKnown tid (give_notices tid outcome taken)
    known_still = notices_known tid outcome taken (part_known tid (outcome_rules.took_outcome outcome) work (part, known))

    -- a commit is logged where its vote is in doubt
    owns : (rec : Record) (outcome : Outcome) → record_learnt tid outcome part ≡ Some rec → CommitsOwn rec (give_notices tid outcome (with_manager (tm.took_outcome tid outcome) work)).node
    owns rec outcomes.Commit is = by part.log.prepared refl is
      where
        told : Work
        told = with_manager (tm.took_outcome tid outcomes.Commit) work

        still : IsLoggedAs tid part.log (give_notices tid outcomes.Commit told).node.manager
        still = learns_logged tid part.log outcomes.Commit (learners_at tid told) told (part_logged tid part.log (outcome_rules.took_outcome outcomes.Commit) (λ part. refl) work.node.manager (record { part = part; known = known; flags_are = refl }))

        flags : flags_at tid (give_notices tid outcomes.Commit told).node ≡ part.log
        flags = ap flags_in still.known ∙ still.flags_are

        by : (b : Bool) → part.log.prepared ≡ b → (if b then Some (end_record tid outcomes.Commit) else None) ≡ Some rec → CommitsOwn rec (give_notices tid outcomes.Commit told).node
        by true prepared is = let same : records.Commit tid [] ≡ rec = cc (is) in subst (λ (r : Record). CommitsOwn r (give_notices tid outcomes.Commit told).node) same
            (inr (λ said is. sym (is tid).prepared ∙ (ap (λ (f : InLog). f.prepared) flags ∙ prepared)))
        by false prepared is = absurd (cc (is))
    owns rec outcomes.Abort is = by part.log.prepared is
      where
        by : (b : Bool) → (if b then Some (end_record tid outcomes.Abort) else None) ≡ Some rec → CommitsOwn rec (give_notices tid outcomes.Abort (with_manager (tm.took_outcome tid outcomes.Abort) work)).node
        by true is = let same : records.Aborted tid ≡ rec = cc (is) in subst (λ (r : Record). CommitsOwn r (give_notices tid outcomes.Abort (with_manager (tm.took_outcome tid outcomes.Abort) work)).node) same tt
        by false is = absurd (cc (is))

    no_list : (rec : Record) (b : Bool) (outcome : Outcome) → (if b then Some (end_record tid outcome) else None) ≡ Some rec → (w : Work) → ListsIt rec w
    no_list rec true outcomes.Commit is w = let same : records.Commit tid [] ≡ rec = cc (is) in subst (λ (r : Record). ListsIt r w) same tt
    no_list rec true outcomes.Abort is w = let same : records.Aborted tid ≡ rec = cc (is) in subst (λ (r : Record). ListsIt r w) same tt
    no_list rec false outcome is w = absurd (cc (is))

    ended : (outcome : Outcome) → tid_of (end_record tid outcome) ≡ tid
    ended outcomes.Commit = refl
    ended outcomes.Abort = refl

    of_it : (rec : Record) (b : Bool) (outcome : Outcome) → (if b then Some (end_record tid outcome) else None) ≡ Some rec → tid_of rec ≡ tid
    of_it rec true outcome is = let same : end_record tid outcome ≡ rec = cc (is) in subst (λ (r : Record). tid_of r ≡ tid) same (ended outcome)
    of_it rec false outcome is = absurd (cc (is))

-- of what is not known abort is kept
pub keep_abort_on : (tid : Tid) (work : Work) → SaysOn work (with_manager (tm.keep_abort tid) work)
keep_abort_on tid work = absent_on tid (aborted_participant (tm.is_home tid work.node.manager)) work refl refl

take_outcome_on : (tid : Tid) (outcome : Outcome) (work : Work) → SaysOn work (take_outcome tid outcome work)
take_outcome_on tid outcome work = by (part_of tid work) refl
  where
    unknown : (outcome : Outcome) → SaysOn work (learn_unknown tid outcome work)
    unknown outcomes.Commit = on_itself work
    unknown outcomes.Abort = keep_abort_on tid work

    by : (o : Option Participant) → part_of tid work ≡ o → SaysOn work (elim o [ None ↦ learn_unknown tid outcome work | Some part ↦ if is_undecided part then learn tid outcome part work else work ])
    by None none = unknown outcome
    by (Some part) known = picked part known (is_undecided part) refl
      where
        picked : (part : Participant) → part_of tid work ≡ Some part → (b : Bool) → is_undecided part ≡ b → SaysOn work (if b then learn tid outcome part work else work)
        picked part known true open_now = learn_on tid outcome part work known open_now
        picked part known false decided = on_itself work

pub tell_came_on : (peer : NodeNo) (tid : Tid) (outcome : Outcome) (work : Work) → SaysOn work (tell_came peer tid outcome work)
tell_came_on peer tid outcome work = if_on (same_node tid.home (here work)) (on_itself work) (on_then (take_outcome_on tid outcome work) (send_on peer (messages.Told tid (names_at tid outcome work)) (take_outcome tid outcome work)))

-- ---- it was taken in

-- what has nothing in the log may be forgotten
pub forget_on : (tid : Tid) (work : Work) → in_order work.node.manager.known ≡ true → (flags_at tid work.node).prepared ≡ false → (flags_at tid work.node).listed ≡ false → SaysOn work (forget tid work)
forget_on tid work ordered prepared listed = on_then (two_on work forgot (record { setting = refl; records = refl; force = refl; commands = λ is. is }) (λ t. by t (same_tid t tid) refl) tells) (queues_on (Rattle.qs_node_step.specs.Telling.drop_counts tid) forgot)
  where
    forgot : Work
    forgot = with_manager (tm.forget tid) work

    told : Option Participant → InLog
    told o = elim o [ None ↦ no_flags | Some part ↦ part.log ]

    told_in : Option Participant → Nodes
    told_in o = elim o [ None ↦ no_nodes | Some part ↦ tell_of_part part ]

    -- its log has no list
    tells : KeepsTelling work forgot
    tells said is has = record { named = λ t m below names. at t m below names (same_tid t tid) refl; taken = has.taken }
      where
        at : (t : Tid) (m : ℕ) → m < 16 → names_node (list_of t said) (node_no m) ≡ true → (b : Bool) → same_tid t tid ≡ b → has_node (tell_at t forgot.node) (node_no m) ≡ true
        at t m below names true same = absurd (
            let none : list_any (is_untold_of tid) said.untold ≡ false = sym (is tid).listed ∙ listed in
            let off : names_node (list_of tid said) (node_no m) ≡ false = unlisted tid said.untold none (node_no m) in
            let on : names_node (list_of tid said) (node_no m) ≡ true = subst (λ (u : Tid). names_node (list_of u said) (node_no m) ≡ true) (same_is t tid same) names in cc (off, on))
        at t m below names false apart = subst (λ (o : Option Participant). has_node (told_in o) (node_no m) ≡ true) (sym (forget_apart t tid work.node.manager apart)) (has.named t m below names)

    gone : flags_at tid forgot.node ≡ no_flags
    gone = ap told (forgotten tid work.node.manager ordered)

    by : (t : Tid) (b : Bool) → same_tid t tid ≡ b → ((flags_at t forgot.node).prepared ≡ (flags_at t work.node).prepared) × ((flags_at t forgot.node).listed ≡ (flags_at t work.node).listed)
    by t true same = subst (λ (u : Tid). ((flags_at u forgot.node).prepared ≡ (flags_at u work.node).prepared) × ((flags_at u forgot.node).listed ≡ (flags_at u work.node).listed)) (sym (same_is t tid same))
        (ap (λ (f : InLog). f.prepared) gone ∙ sym prepared, ap (λ (f : InLog). f.listed) gone ∙ sym listed)
    by t false apart = let same : flags_at t forgot.node ≡ flags_at t work.node = ap told (forget_apart t tid work.node.manager apart) in (ap (λ (f : InLog). f.prepared) same, ap (λ (f : InLog). f.listed) same)

end_told_on : (b : Bool) (tid : Tid) (work : Work) → in_order work.node.manager.known ≡ true → SaysOn work (end_told b tid work)
end_told_on false tid work ordered = on_itself work
end_told_on true tid work ordered = on_then (log_on (records.End tid) work (inl refl) tt tt)
    (forget_on tid (log (records.End tid) work) (order_changed tid (outcome_rules.logged (records.End tid)) work.node.manager ordered)
    (ap (λ (f : InLog). f.prepared) (flags_logged (records.End tid) work (inl refl))) (ap (λ (f : InLog). f.listed) (flags_logged (records.End tid) work (inl refl))))

take_told_on : (peer : NodeNo) (tid : Tid) (work : Work) → in_order work.node.manager.known ≡ true → SaysOn work (take_told peer tid work)
take_told_on peer tid work ordered = on_then (part_on tid (outcome_rules.acknowledged peer) (λ part. (refl, refl)) work)
    (end_told_on (tm.all_acknowledged tid peer work.node.manager) tid (with_manager (tm.acknowledged tid peer) work) (order_changed tid (outcome_rules.acknowledged peer) work.node.manager ordered))

take_names_on : (tid : Tid) (further : List NodeNo) (work : Work) → SaysOn work (take_names tid further work)
take_names_on tid further work = on_then (grown_on tid (outcome_rules.take_names tid.home further) (λ part. refl) work (λ part known m below has. names_grow tid further part (is_commit part.outcome) m below has)) (sends_on (listed (tm.new_names tid further work.node.manager)) (messages.Tell tid outcomes.Abort) _)

keep_told_on : (tid : Tid) (peer : NodeNo) (work : Work) → SaysOn work (keep_abort_told tid peer work)
keep_told_on tid peer work = on_then (keep_abort_on tid work) (grown_on tid (outcome_rules.add_tell peer) (λ part. refl) (with_manager (tm.keep_abort tid) work) (λ part known m below has. tell_grows peer part (is_commit part.outcome) m has))

pub told_came_on : (peer : NodeNo) (tid : Tid) (further : List NodeNo) (work : Work) → in_order work.node.manager.known ≡ true → SaysOn work (told_came peer tid further work)
told_came_on peer tid further work ordered = if_on (same_node tid.home (here work)) (by (part_of tid work)) (on_itself work)
  where
    known : (o : Option Outcome) → SaysOn work (told_known peer tid further o work)
    known None = on_itself work
    known (Some outcomes.Commit) = take_told_on peer tid work ordered
    known (Some outcomes.Abort) = take_names_on tid further work

    by : (o : Option Participant) → SaysOn work (elim o [ None ↦ told_unknown peer tid further work | Some part ↦ told_known peer tid further part.outcome work ])
    by None = if_on (list_any (is_other_node tid) further) (on_then (keep_told_on tid peer work) (take_names_on tid further (keep_abort_told tid peer work))) (on_itself work)
    by (Some part) = known part.outcome

-- ---- inquiries

pub inquiry_came_on : (peer : NodeNo) (tid : Tid) (work : Work) → SaysOn work (inquiry_came peer tid work)
inquiry_came_on peer tid work = if_on (same_node tid.home (here work)) (by (part_of tid work)) (on_itself work)
  where
    known : (o : Option Outcome) → SaysOn work (answer_known peer tid o work)
    known None = part_on tid (participant.add_told peer) (λ part. (refl, refl)) work
    known (Some outcomes.Commit) = send_on peer (messages.Tell tid outcomes.Commit) work
    known (Some outcomes.Abort) = on_then (grown_on tid (outcome_rules.add_tell peer) (λ part. refl) work (λ part known m below has. tell_grows peer part (is_commit part.outcome) m has)) (send_on peer (messages.Tell tid outcomes.Abort) _)

    by : (o : Option Participant) → SaysOn work (elim o [ None ↦ answer_unknown peer tid work | Some part ↦ answer_known peer tid part.outcome work ])
    by None = if_on (was_committed tid work.node) (send_on peer (messages.Tell tid outcomes.Commit) work) (on_then (keep_told_on tid peer work) (send_on peer (messages.Tell tid outcomes.Abort) (keep_abort_told tid peer work)))
    by (Some part) = known part.outcome
