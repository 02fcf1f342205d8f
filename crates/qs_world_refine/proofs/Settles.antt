-- What a node does of itself for one transaction: readiness, refusals and forgetting.
use Rattle.qs_world_refine.proofs.Words.{◌≡◌, ℕ, ◌&&◌, not, Bool, true, false, List, [], ◌∷◌, Option, Some, None, refl, sym, subst, ap, if◌then◌else◌, NodeNo, Tid, peer_of, Cause, is_undecided, only_read, needs_pass, Participant, decide, decide_commit, is_busy, may_answer, is_quiet, ready_rule, answer_superior, say_yes, refusal_goes_to, send_refusal, refuse_elsewhere, Work, doings_of, with_manager, forget, face, Goes, and_parts}
use Rattle.qs_base.specs.declared.identifiers.Outcome.TheVariants as outcomes
use Rattle.qs_ops.specs.declared.answer.Cause.TheVariants as causes
use Rattle.qs_packet.specs.declared.message.Message.TheVariants as messages
use Rattle.qs_tm.specs.Manager as tm
use Rattle.qs_tm.specs.Participant as participant
use Rattle.qs_world_refine.specs.SettleLaws.{ReadyHomeGoes, ReadyElsewhereGoes, RefuseHomeGoes, RefuseElsewhereGoes, ForgetRuleGoes}
use Rattle.qs_world_refine.proofs.Alike.{SameFace}
use Rattle.qs_world_refine.proofs.DecideAbort as abort
use Rattle.qs_world_refine.proofs.DecideCommit as commit
use Rattle.qs_world_refine.proofs.During.{Leaves, send_leaves}
use Rattle.qs_world_refine.proofs.ForgetRead as forgetting
use Rattle.qs_world_refine.proofs.Keeping.{keeps_on, keeps_goes, leaves_keeps, part_keeps, nothing_goes}
use Rattle.qs_world_refine.proofs.Others.{fold_leaves}
use Rattle.qs_world_refine.proofs.SayYes.{yes_goes}

-- ---- readiness

may_ready : (tid : Tid) (part : Participant) (work : Work) → may_answer tid part work ≡ true → participant.is_ready (is_busy tid work.node part) part ≡ true
may_ready tid part work may = (and_parts (participant.is_ready (is_busy tid work.node part) part) (not (needs_pass part) && not (doings_of tid work).prepared) may).0

pub ready_home : ReadyHomeGoes
ready_home tid scene work part w lawful shown is_home clear = by (may_answer tid part work) refl
  where
    decides : participant.is_ready (is_busy tid work.node part) part ≡ true → (o : Option ℕ)
        → Goes tid scene tid.home.0 (elim o [ None ↦ decide tid outcomes.Commit None work | Some need ↦ decide tid outcomes.Abort (Some (causes.Room need work.room)) work ]) w
    decides is None = commit.decide_commit tid scene None work part w lawful shown is_home is clear
    decides is (Some need) = abort.decide_abort tid scene (Some (causes.Room need work.room)) work part w shown is_home

    quiet : participant.is_ready (is_busy tid work.node part) part ≡ true → (b : Bool) → Goes tid scene tid.home.0 (if b then decide_commit tid work else work) w
    quiet is true = decides is (tm.need_past tid work.room work.node.manager)
    quiet is false = nothing_goes tid scene tid.home.0 work w shown

    by : (b : Bool) → may_answer tid part work ≡ b → Goes tid scene tid.home.0 (ready_rule tid part work) w
    by false is = rw is (nothing_goes tid scene tid.home.0 work w shown)
    by true is = rw (is, is_home.home) (quiet (may_ready tid part work is) (is_quiet (doings_of tid work)))

pub ready_elsewhere : ReadyElsewhereGoes
ready_elsewhere tid scene n work part w lawful shown away peer = by (may_answer tid part work) refl
  where
    answers : participant.is_ready (is_busy tid work.node part) part ≡ true → (o : Option NodeNo) → part.engage.superior ≡ o → Goes tid scene n (answer_superior tid part work) w
    answers is None none = subst (λ (k : Work). Goes tid scene n k w) (sym nobody) (nothing_goes tid scene n work w shown)
      where
        release : (o : Option NodeNo) → o ≡ None → ◌≡◌ {A = Option (NodeNo × ℕ)} (elim o [ None ↦ None | Some superior ↦ Some (superior, (peer_of part.engage superior).last) ]) None
        release o is = rw is refl

        nobody : answer_superior tid part work ≡ work
        nobody = ap (λ (o : Option (NodeNo × ℕ)). elim o [ None ↦ work | Some superior ↦ say_yes tid part superior work ]) (release part.engage.superior none)
    answers is (Some superior) has = yes_goes tid scene n superior.0 (scene.knows n superior.0) work part w away.at (peer superior.0 has) away.knows away.undecided has away.away away.home_in is lawful shown

    by : (b : Bool) → may_answer tid part work ≡ b → Goes tid scene n (ready_rule tid part work) w
    by false is = rw is (nothing_goes tid scene n work w shown)
    by true is = rw (is, away.not_home) (answers (may_ready tid part work is) part.engage.superior refl)

-- ---- refusals

pub refuse_home : RefuseHomeGoes
refuse_home tid scene work part w shown is_home = rw is_home.home (by part.causes)
  where
    by : (causes : List Cause) → Goes tid scene tid.home.0 (elim causes [ [] ↦ work | cause ∷ more ↦ decide tid outcomes.Abort (Some cause) work ]) w
    by [] = nothing_goes tid scene tid.home.0 work w shown
    by (cause ∷ more) = abort.decide_abort tid scene (Some cause) work part w shown is_home

pub refuse_elsewhere_goes : RefuseElsewhereGoes
refuse_elsewhere_goes tid scene n work part w shown away = rw away (keeps_goes tid scene n work (refuse_elsewhere tid part work) w
    (keeps_on tid work (with_manager (tm.take_causes tid) work) (refuse_elsewhere tid part work) (part_keeps tid participant.take_causes work hidden)
    (leaves_keeps tid (with_manager (tm.take_causes tid) work) (refuse_elsewhere tid part work) (fold_leaves tid (send_refusal tid (refusal_goes_to tid part)) sent part.causes (with_manager (tm.take_causes tid) work)))) shown)
  where
    hidden : (part : Participant) → SameFace (face work.node tid part) (face work.node tid (participant.take_causes part))
    hidden part = record { is_home = refl; on = refl; superior = refl; last = λ m. refl; sent = λ m. refl; covered = λ m. refl; waits = λ s. refl; uncast = λ s. refl; loans = refl; asked = refl; blocked = refl; involved = refl; told = λ m. refl; outcome = refl; tell = λ m. refl }

    sent : (work : Work) (cause : Cause) → Leaves tid work (send_refusal tid (refusal_goes_to tid part) work cause)
    sent work cause = send_leaves tid (refusal_goes_to tid part) (messages.VotedAbort tid cause) work refl

-- ---- forgetting

pub forget_rule_goes : ForgetRuleGoes
forget_rule_goes tid scene n work part w lawful shown away ordered = by (participant.is_forgotten part) refl
  where
    by : (b : Bool) → participant.is_forgotten part ≡ b → Goes tid scene n (if b then forget tid work else work) w
    by true is = forgetting.forget_read tid scene n work part w lawful shown away.at away.knows away.away away.home_in ordered is
    by false is = nothing_goes tid scene n work w shown
