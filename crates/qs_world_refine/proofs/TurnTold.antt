-- That an outcome was taken in, and inquiries, leave the records of a transaction in turn.
use Rattle.qs_world_refine.proofs.Words.{inl, inr, ◌≡◌, ℕ, ◌==◌, Bool, true, false, List, Option, Some, None, refl, sym, ap, subst, ◌∙◌, arith, if◌then◌else◌, list_any, eqb-true, nat_tests, get_or-set_other, is_at, same_tid, tid_cmp, NodeNo, Tid, listed, same_node, put_node, Nodes, Record, aborted_participant, record_of, writes_commit, is_undecided, Participant, was_committed, answer_unknown, answer_known, inquiry_came, log, Work, here, part_of, with_manager, names_at, end_record, record_learnt}
use Rattle.qs_world_refine.proofs.Words.{learn, learn_unknown, take_outcome, tell_came, forget, end_told, take_told, take_names, keep_abort_told, is_other_node, told_unknown, told_known, told_at_home, told_came, node_no, in_order}
use Rattle.qs_base.specs.declared.identifiers.Outcome.{Outcome}
use Rattle.qs_base.specs.declared.identifiers.Outcome.TheVariants as outcomes
use Rattle.qs_engage.specs.Nodes.{has_node}
use Rattle.qs_packet.specs.declared.message.Message.TheVariants as messages
use Rattle.qs_record.specs.declared.record.Record.TheVariants as records
use Rattle.qs_tm.specs.Manager as tm
use Rattle.qs_tm.specs.Outcomes as outcome_rules
use Rattle.qs_tm.specs.Participant as participant
use Rattle.qs_world_refine.proofs.Forgetting.{forgotten, order_changed}
use Rattle.qs_world_refine.proofs.Maps.{lookup_changed}
use Rattle.qs_world_refine.proofs.Others.{forget_apart}
use Rattle.qs_world_refine.proofs.SaysOn.{told_changed}
use Rattle.qs_world_refine.proofs.TurnOn.{Case, Fate, became, same_outcome, same_acks, open_apart, abort_apart, fate_of, fate_found, fate_at, TurnedAs, TurnsOn, on_itself, on_then, same_on, if_on, send_on, sends_on, queues_on, part_on, apart_same}
use Rattle.qs_world_refine.proofs.TurnRecords.{log_on, fated_on, forgotten_now, fate_known}
use Rattle.qs_world_refine.proofs.SoundKnown.{same_is}
use Rattle.qs_world_refine.proofs.TurnOutcomes.{keep_abort_on}

-- ---- it was taken in

-- what became no abort may be forgotten
pub forget_on : {k : Case} (tid : Tid) (work : Work) → in_order work.node.manager.known ≡ true → (same_tid k.tid tid ≡ true → (acks : Nodes) → fate_at k.tid work.node ≡ became (Some outcomes.Abort) acks → ⊥)
    → (same_tid k.tid tid ≡ true → (acks : Nodes) → fate_at k.tid work.node ≡ became (Some outcomes.Commit) acks → k.ends ≡ true) → TurnsOn k work (forget tid work)
forget_on {k} tid work ordered kept commits = on_then (by (same_tid k.tid tid) refl) (queues_on (Rattle.qs_node_step.specs.Telling.drop_counts tid) forgot)
  where
    forgot : Work
    forgot = with_manager (tm.forget tid) work

    by : (b : Bool) → same_tid k.tid tid ≡ b → TurnsOn k work forgot
    by true same = fated_on work forgot None refl refl (subst (λ (u : Tid). fate_at u forgot.node ≡ None) (sym (same_is k.tid tid same)) (ap fate_found (forgotten tid work.node.manager ordered)))
        (forgotten_now (here work) (fate_at k.tid work.node) work.out.records (kept same)) refl (λ acks its. inl (commits same acks its))
    by false apart = same_on (record { setting = refl; fate = ap fate_found (forget_apart k.tid tid work.node.manager apart); records = refl; was = refl })

-- what the home's node asks as it takes in that a commit was told
pub record MayTold (k : Case) (peer : NodeNo) (tid : Tid) (work : Work) : Type 0 where
  pub acks : same_tid k.tid tid ≡ true → same_node tid.home work.node.setting.node ≡ true → (part : Participant) → part_of tid work ≡ Some part → part.outcome ≡ Some outcomes.Commit → tm.all_acknowledged tid peer work.node.manager ≡ false → k.acks peer.0 ≡ true
  pub ends : same_tid k.tid tid ≡ true → same_node tid.home work.node.setting.node ≡ true → (part : Participant) → part_of tid work ≡ Some part → part.outcome ≡ Some outcomes.Commit → tm.all_acknowledged tid peer work.node.manager ≡ true → k.ends ≡ true

acked_on : {k : Case} (peer : NodeNo) (tid : Tid) (part : Participant) (work : Work) → part_of tid work ≡ Some part → (same_tid k.tid tid ≡ true → k.acks peer.0 ≡ true) → TurnsOn k work (with_manager (tm.acknowledged tid peer) work)
acked_on {k} peer tid part work known may = by (same_tid k.tid tid) refl
  where
    after : Work
    after = with_manager (tm.acknowledged tid peer) work

    by : (b : Bool) → same_tid k.tid tid ≡ b → TurnsOn k work after
    by false apart = same_on (apart_same tid (outcome_rules.acknowledged peer) work apart)
    by true same = fated_on work after (became part.outcome (put_node part.acknowledged peer)) refl refl
        (fate_known k tid after (outcome_rules.acknowledged peer part) same (lookup_changed (is_at (tid_cmp tid)) (outcome_rules.acknowledged peer) work.node.manager.known part known))
        (λ is. more (subst (λ (e : Option Fate). TurnedAs k (here work) e work.out.records) (fate_known k tid work part same known) is))
        refl (λ acks its. inr (put_node part.acknowledged peer, ap (λ (o : Option Outcome). became o (put_node part.acknowledged peer)) (same_outcome part.outcome (Some outcomes.Commit) part.acknowledged acks (sym (fate_known k tid work part same known) ∙ its))))
      where
        more : TurnedAs k (here work) (fate_of part) work.out.records → TurnedAs k (here work) (became part.outcome (put_node part.acknowledged peer)) work.out.records
        more is = record {
          aborted = λ has. let known = is.aborted has in (put_node part.acknowledged peer, ap (λ (o : Option Outcome). became o (put_node part.acknowledged peer)) (same_outcome part.outcome (Some outcomes.Abort) part.acknowledged known.0 known.1));
          ended = λ has. ((is.ended has).0, λ a same. (is.ended has).1 part.acknowledged (ap (λ (o : Option Outcome). became o part.acknowledged) (same_outcome part.outcome None (put_node part.acknowledged peer) a same)));
          ends = is.ends;
          turn = is.turn;
          learnt = λ away a same. is.learnt away part.acknowledged (ap (λ (o : Option Outcome). became o part.acknowledged) (same_outcome part.outcome (Some outcomes.Commit) (put_node part.acknowledged peer) a same));
          acked = λ o a its m has. by_test m (m == peer.0) refl (subst (λ (b : Nodes). has_node b (node_no m) ≡ true) (sym (same_acks part.outcome o (put_node part.acknowledged peer) a its)) has);
        }
          where
            by_test : (m : ℕ) (b : Bool) → (m == peer.0) ≡ b → has_node (put_node part.acknowledged peer) (node_no m) ≡ true → k.acks m ≡ true
            by_test m true at has = subst (λ (j : ℕ). k.acks j ≡ true) (sym (eqb-true m peer.0 at)) (may same)
            by_test m false off has = is.acked part.outcome part.acknowledged refl m (sym (get_or-set_other part.acknowledged.has peer.0 m true false (λ same. grind (arith, nat_tests, off, same))) ∙ has)

end_told_on : {k : Case} (b : Bool) (tid : Tid) (work : Work) → in_order work.node.manager.known ≡ true → (b ≡ true → same_tid k.tid tid ≡ true → k.ends ≡ true) → (b ≡ true → same_node tid.home (here work) ≡ true)
    → (b ≡ true → same_tid k.tid tid ≡ true → (acks : Nodes) × (fate_at k.tid work.node ≡ became (Some outcomes.Commit) acks)) → TurnsOn k work (end_told b tid work)
end_told_on {k} false tid work ordered ends at fate = on_itself work
end_told_on {k} true tid work ordered ends at fate = on_then (log_on k (records.End tid) work (λ same. (ends refl same, (subst (λ (u : Tid). same_node u.home (here work) ≡ true) (sym (same_is k.tid tid same)) (at refl), λ acks open_now. open_apart outcomes.Commit (fate refl same).0 acks (sym (fate refl same).1 ∙ open_now)))))
    (forget_on tid (log (records.End tid) work) (order_changed tid (outcome_rules.logged (records.End tid)) work.node.manager ordered)
    (λ same acks aborted. abort_apart acks (fate refl same).0 (sym aborted ∙ (after ∙ (fate refl same).1))) (λ same acks its. ends refl same))
  where
    after : fate_at k.tid (log (records.End tid) work).node ≡ fate_at k.tid work.node
    after = told_changed None fate_of (is_at (tid_cmp tid)) (is_at (tid_cmp k.tid)) (outcome_rules.logged (records.End tid)) (λ part. refl) work.node.manager.known

-- whose acknowledgement may be known matters no more once it is forgotten
abbrev any_acks : Case → Case
any_acks k = record k { acks = λ m. true }

loosened : {k : Case} (node : NodeNo) (fate : Option Fate) (more : List Record) → TurnedAs k node fate more → TurnedAs (any_acks k) node fate more
loosened node fate more is = record { aborted = is.aborted; ended = is.ended; ends = is.ends; turn = is.turn; learnt = is.learnt; acked = λ o acks its m has. refl }

tightened : {k : Case} (node : NodeNo) (more : List Record) → TurnedAs (any_acks k) node None more → TurnedAs k node None more
tightened {k} node more is = record { aborted = is.aborted; ended = is.ended; ends = is.ends; turn = is.turn; learnt = is.learnt; acked = λ o acks its m has. absurd (none o acks its) }
  where
    none : (o : Option Outcome) (acks : Nodes) → None ≡ became o acks → ⊥
    none o acks its = cc (its)

take_told_on : {k : Case} (peer : NodeNo) (tid : Tid) (part : Participant) (work : Work) → in_order work.node.manager.known ≡ true → part_of tid work ≡ Some part → part.outcome ≡ Some outcomes.Commit → same_node tid.home (here work) ≡ true
    → MayTold k peer tid work → TurnsOn k work (take_told peer tid work)
take_told_on {k} peer tid part work ordered known committed at may = by (tm.all_acknowledged tid peer work.node.manager) refl (same_tid k.tid tid) refl
  where
    took : Work
    took = with_manager (tm.acknowledged tid peer) work

    took_ordered : in_order took.node.manager.known ≡ true
    took_ordered = order_changed tid (outcome_rules.acknowledged peer) work.node.manager ordered

    fate : (c : Case) → same_tid c.tid tid ≡ true → (acks : Nodes) × (fate_at c.tid took.node ≡ became (Some outcomes.Commit) acks)
    fate c same = (
      put_node part.acknowledged peer,
      fate_known c tid took (outcome_rules.acknowledged peer part) same (lookup_changed (is_at (tid_cmp tid)) (outcome_rules.acknowledged peer) work.node.manager.known part known)
          ∙ ap (λ (o : Option Outcome). became o (put_node part.acknowledged peer)) committed,
    )

    -- it is forgotten then
    ending : same_tid k.tid tid ≡ true → tm.all_acknowledged tid peer work.node.manager ≡ true → TurnsOn (any_acks k) work (end_told true tid took)
    ending same all = on_then (acked_on peer tid part work known (λ _. refl)) (end_told_on true tid took took_ordered (λ _ _. may.ends same at part known committed all) (λ _. at) (λ _ own. fate (any_acks k) own))

    gone : same_tid k.tid tid ≡ true → fate_at k.tid (end_told true tid took).node ≡ None
    gone same = subst (λ (u : Tid). fate_at u (end_told true tid took).node ≡ None) (sym (same_is k.tid tid same))
        (ap fate_found (forgotten tid (log (records.End tid) took).node.manager (order_changed tid (outcome_rules.logged (records.End tid)) took.node.manager took_ordered)))

    by : (b : Bool) → tm.all_acknowledged tid peer work.node.manager ≡ b → (s : Bool) → same_tid k.tid tid ≡ s → TurnsOn k work (end_told b tid took)
    by false still s own = acked_on peer tid part work known (λ same. may.acks same at part known committed still)
    by true all false apart = on_then (acked_on peer tid part work known (λ same. absurd (cc (same, apart)))) (end_told_on true tid took took_ordered (λ _ same. absurd (cc (same, apart))) (λ _. at) (λ _ own. fate k own))
    by true all true same = record {
      setting = (ending same all).setting;
      kept = (ending same all).kept;
      goes = λ is. subst (λ (f : Option Fate). TurnedAs k (end_told true tid took).node.setting.node f (end_told true tid took).out.records) (sym (gone same))
          (tightened (end_told true tid took).node.setting.node (end_told true tid took).out.records
          (subst (λ (f : Option Fate). TurnedAs (any_acks k) (end_told true tid took).node.setting.node f (end_told true tid took).out.records) (gone same)
          ((ending same all).goes (loosened (here work) (fate_at k.tid work.node) work.out.records is))));
    }

take_names_on : {k : Case} (tid : Tid) (further : List NodeNo) (work : Work) → TurnsOn k work (take_names tid further work)
take_names_on {k} tid further work = on_then (part_on tid (outcome_rules.take_names tid.home further) (λ part. refl) work) (sends_on (listed (tm.new_names tid further work.node.manager)) (messages.Tell tid outcomes.Abort) _)

keep_told_on : {k : Case} (tid : Tid) (peer : NodeNo) (work : Work) → TurnsOn k work (keep_abort_told tid peer work)
keep_told_on {k} tid peer work = on_then (keep_abort_on tid work) (part_on tid (outcome_rules.add_tell peer) (λ part. refl) (with_manager (tm.keep_abort tid) work))

pub told_came_on : {k : Case} (peer : NodeNo) (tid : Tid) (further : List NodeNo) (work : Work) → in_order work.node.manager.known ≡ true → MayTold k peer tid work → TurnsOn k work (told_came peer tid further work)
told_came_on {k} peer tid further work ordered may = at_home (same_node tid.home (here work)) refl
  where
    known_at : same_node tid.home (here work) ≡ true → (part : Participant) → part_of tid work ≡ Some part → (o : Option Outcome) → part.outcome ≡ o → TurnsOn k work (told_known peer tid further o work)
    known_at at part known None is = on_itself work
    known_at at part known (Some outcomes.Commit) is = take_told_on peer tid part work ordered known is at may
    known_at at part known (Some outcomes.Abort) is = take_names_on tid further work

    by : same_node tid.home (here work) ≡ true → (o : Option Participant) → part_of tid work ≡ o → TurnsOn k work (elim o [ None ↦ told_unknown peer tid further work | Some part ↦ told_known peer tid further part.outcome work ])
    by at None none = if_on (list_any (is_other_node tid) further) (on_then (keep_told_on tid peer work) (take_names_on tid further (keep_abort_told tid peer work))) (on_itself work)
    by at (Some part) known = known_at at part known part.outcome refl

    at_home : (b : Bool) → same_node tid.home (here work) ≡ b → TurnsOn k work (if b then told_at_home peer tid further work else work)
    at_home true at = by at (part_of tid work) refl
    at_home false away = on_itself work

-- ---- inquiries

pub inquiry_came_on : {k : Case} (peer : NodeNo) (tid : Tid) (work : Work) → TurnsOn k work (inquiry_came peer tid work)
inquiry_came_on {k} peer tid work = if_on (same_node tid.home (here work)) (by (part_of tid work)) (on_itself work)
  where
    known : (o : Option Outcome) → TurnsOn k work (answer_known peer tid o work)
    known None = part_on tid (participant.add_told peer) (λ part. refl) work
    known (Some outcomes.Commit) = send_on peer (messages.Tell tid outcomes.Commit) work
    known (Some outcomes.Abort) = on_then (part_on tid (outcome_rules.add_tell peer) (λ part. refl) work) (send_on peer (messages.Tell tid outcomes.Abort) _)

    by : (o : Option Participant) → TurnsOn k work (elim o [ None ↦ answer_unknown peer tid work | Some part ↦ answer_known peer tid part.outcome work ])
    by None = if_on (was_committed tid work.node) (send_on peer (messages.Tell tid outcomes.Commit) work) (on_then (keep_told_on tid peer work) (send_on peer (messages.Tell tid outcomes.Abort) (keep_abort_told tid peer work)))
    by (Some part) = known part.outcome
