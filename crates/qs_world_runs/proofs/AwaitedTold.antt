-- What waits for its reply waits on as outcomes are told, taken in and asked for, where the outcome is another transaction's.
use Rattle.qs_world_runs.proofs.Words.{◌≡◌, ◌⊎◌, inl, inr, ℕ, Bool, true, false, List, Option, Some, None, refl, sym, subst, ◌∙◌, if◌then◌else◌, list_any, is_some, Member, NodeNo, Tid, listed, same_node, answer_known, answer_unknown, inquiry_at_home, inquiry_came, kept_outcome, send, give_notices, Work, here, with_manager, end_told, forget, is_other_node, keep_abort_told, learn, learn_unknown, names_at, record_learnt, take_names, take_outcome, take_told, tell_came, told_at_home, told_came}
use Rattle.qs_world_runs.proofs.Words.{told_known, told_unknown, is_undecided, Participant, same_or_apart, WaitsAt, same_Some}
use Rattle.qs_base.specs.declared.identifiers.Outcome.{Outcome}
use Rattle.qs_base.specs.declared.identifiers.Outcome.TheVariants as outcomes
use Rattle.qs_packet.specs.declared.message.Message.TheVariants as messages
use Rattle.qs_record.specs.declared.record.Record.TheVariants as records
use Rattle.qs_node_step.specs.Answering.{was_committed}
use Rattle.qs_node_step.specs.Bringing.{log}
use Rattle.qs_node_step.specs.State.{part_of}
use Rattle.qs_tm.specs.Manager as tm
use Rattle.qs_tm.specs.Outcomes as outcome_rules
use Rattle.qs_tm.specs.Participant as participant
use Rattle.qs_world_lawful.proofs.Apart.{Apart}
use Rattle.qs_world_runs.proofs.AwaitedRules.{On, change_on, decided_on, forgets_on, if_on, itself_on, log_if_on, log_on, notices_on, plain, send_each_on, send_on, then_on, waits_on}
use Rattle.qs_world_runs.proofs.AwaitedKept.{unknown_on}

module _ (D : Type 0) (tid : Tid) (member : Member) (number : ℕ) where
  abbrev L : Work → Work → Type 0
  L work new = On D tid member number work new

  -- ---- an outcome is told and taken in

  learn_on : (t : Tid) (outcome : Outcome) (part : Participant) (work : Work) → (t ≡ tid → D) → L work (learn t outcome part work)
  learn_on t outcome part work decides = then_on D tid member number work managed (learn t outcome part work) (decided_on D tid member number t (outcome_rules.took_outcome outcome) work decides)
      (then_on D tid member number managed (give_notices t outcome managed) (learn t outcome part work) (notices_on D tid member number t outcome managed) (log_if_on D tid member number (record_learnt t outcome part) (give_notices t outcome managed)))
    where
      managed : Work
      managed = with_manager (tm.took_outcome t outcome) work

  abort_on : (t : Tid) (work : Work) → L work (with_manager (tm.keep_abort t) work)
  abort_on t work = waits_on D tid member number work (with_manager (tm.keep_abort t) work) (λ w. inl (unknown_on tid member number work.node.commands work.node.kept.now work.node.setting.inc t (outcome_rules.aborted_participant (tm.is_home t work.node.manager)) work.node.manager w)) (λ k. k)

  outcome_on : (t : Tid) (outcome : Outcome) (work : Work) → (t ≡ tid → D) → L work (take_outcome t outcome work)
  outcome_on t outcome work decides = by (part_of t work)
    where
      unknown : (o : Outcome) → L work (learn_unknown t o work)
      unknown outcomes.Commit = itself_on D tid member number work
      unknown outcomes.Abort = abort_on t work

      by : (o : Option Participant) → L work (elim o [ None ↦ learn_unknown t outcome work | Some part ↦ if is_undecided part then learn t outcome part work else work ])
      by None = unknown outcome
      by (Some part) = if_on D tid member number (is_undecided part) (learn t outcome part work) work work (λ so. learn_on t outcome part work decides) (λ so. itself_on D tid member number work)

  pub tell_on : (peer : NodeNo) (t : Tid) (outcome : Outcome) (work : Work) → (t ≡ tid → D) → L work (tell_came peer t outcome work)
  tell_on peer t outcome work decides = if_on D tid member number (same_node t.home (here work)) work (send peer (messages.Told t (names_at t outcome work)) (take_outcome t outcome work)) work (λ so. itself_on D tid member number work)
      (λ so. then_on D tid member number work (take_outcome t outcome work) (send peer (messages.Told t (names_at t outcome work)) (take_outcome t outcome work)) (outcome_on t outcome work decides) (send_on D tid member number peer (messages.Told t (names_at t outcome work)) (take_outcome t outcome work)))

  -- what is known as decided does not wait
  open_still : (t : Tid) (part : Participant) (outcome : Outcome) (work : Work) → part_of t work ≡ Some part → part.outcome ≡ Some outcome → t ≡ tid → WaitsAt tid member number work.node → ⊥
  open_still t part outcome work known is e w = let both : Some w.part ≡ Some part = sym w.known ∙ subst (λ (u : Tid). part_of u work ≡ Some part) e known in one w.part part both w.undecided
    where
      one : (a b : Participant) → Some a ≡ Some b → a.outcome ≡ None → ⊥
      one a b both none = let same : a ≡ b = same_Some a b both in cc (none, is, same)

  names_on : (t : Tid) (further : List NodeNo) (work : Work) → L work (take_names t further work)
  names_on t further work = then_on D tid member number work (with_manager (tm.take_names t further) work) (take_names t further work) (change_on D tid member number t (outcome_rules.take_names t.home further) work (λ same. plain D tid member number (outcome_rules.take_names t.home further) (λ p. refl) (λ p. refl) (λ p. refl)))
      (send_each_on D tid member number (listed (tm.new_names t further work.node.manager)) (messages.Tell t outcomes.Abort) (with_manager (tm.take_names t further) work))

  keep_on : (t : Tid) (peer : NodeNo) (work : Work) → L work (keep_abort_told t peer work)
  keep_on t peer work = then_on D tid member number work (with_manager (tm.keep_abort t) work) (keep_abort_told t peer work) (abort_on t work) (change_on D tid member number t (outcome_rules.add_tell peer) (with_manager (tm.keep_abort t) work) (λ same. plain D tid member number (outcome_rules.add_tell peer) (λ p. refl) (λ p. refl) (λ p. refl)))

  taken_on : (peer : NodeNo) (t : Tid) (work : Work) → (t ≡ tid → WaitsAt tid member number work.node → ⊥) → L work (take_told peer t work)
  taken_on peer t work none = by (same_or_apart t tid)
    where
      acked : Work
      acked = with_manager (tm.acknowledged t peer) work

      acked_on : L work acked
      acked_on = change_on D tid member number t (outcome_rules.acknowledged peer) work (λ same. plain D tid member number (outcome_rules.acknowledged peer) (λ p. refl) (λ p. refl) (λ p. refl))

      end : (b : Bool) → Apart t tid → L acked (end_told b t acked)
      end false far = itself_on D tid member number acked
      end true far = then_on D tid member number acked (log (records.End t) acked) (forget t (log (records.End t) acked)) (log_on D tid member number (records.End t) acked) (forgets_on D tid member number t (log (records.End t) acked) (λ e. absurd (far.differ e)))

      ends_kept : (b : Bool) → is_some (kept_outcome tid work.node) ≡ true → is_some (kept_outcome tid (end_told b t acked).node) ≡ true
      ends_kept true k = k
      ends_kept false k = k

      by : (t ≡ tid) ⊎ Apart t tid → L work (take_told peer t work)
      by (inl e) = waits_on D tid member number work (take_told peer t work) (λ w. absurd (none e w)) (ends_kept (tm.all_acknowledged t peer work.node.manager))
      by (inr far) = then_on D tid member number work acked (take_told peer t work) acked_on (end (tm.all_acknowledged t peer work.node.manager) far)

  pub told_on : (peer : NodeNo) (t : Tid) (further : List NodeNo) (work : Work) → L work (told_came peer t further work)
  told_on peer t further work = if_on D tid member number (same_node t.home (here work)) (told_at_home peer t further work) work work (λ so. by (part_of t work) refl) (λ so. itself_on D tid member number work)
    where
      known : (part : Participant) → part_of t work ≡ Some part → (o : Option Outcome) → part.outcome ≡ o → L work (told_known peer t further o work)
      known part is None so = itself_on D tid member number work
      known part is (Some outcomes.Commit) so = taken_on peer t work (open_still t part outcomes.Commit work is so)
      known part is (Some outcomes.Abort) so = names_on t further work

      by : (o : Option Participant) → part_of t work ≡ o → L work (elim o [ None ↦ told_unknown peer t further work | Some part ↦ told_known peer t further part.outcome work ])
      by None is = if_on D tid member number (list_any (is_other_node t) further) (take_names t further (keep_abort_told t peer work)) work work
          (λ so. then_on D tid member number work (keep_abort_told t peer work) (take_names t further (keep_abort_told t peer work)) (keep_on t peer work) (names_on t further (keep_abort_told t peer work))) (λ so. itself_on D tid member number work)
      by (Some part) is = known part is part.outcome refl

  -- ---- inquiries

  pub inquiry_on : (peer : NodeNo) (t : Tid) (work : Work) → L work (inquiry_came peer t work)
  inquiry_on peer t work = if_on D tid member number (same_node t.home (here work)) (inquiry_at_home peer t work) work work (λ so. by (part_of t work)) (λ so. itself_on D tid member number work)
    where
      known : (o : Option Outcome) → L work (answer_known peer t o work)
      known None = change_on D tid member number t (participant.add_told peer) work (λ same. plain D tid member number (participant.add_told peer) (λ p. refl) (λ p. refl) (λ p. refl))
      known (Some outcomes.Commit) = send_on D tid member number peer (messages.Tell t outcomes.Commit) work
      known (Some outcomes.Abort) = then_on D tid member number work (with_manager (tm.add_tell t peer) work) (send peer (messages.Tell t outcomes.Abort) (with_manager (tm.add_tell t peer) work))
          (change_on D tid member number t (outcome_rules.add_tell peer) work (λ same. plain D tid member number (outcome_rules.add_tell peer) (λ p. refl) (λ p. refl) (λ p. refl))) (send_on D tid member number peer (messages.Tell t outcomes.Abort) (with_manager (tm.add_tell t peer) work))

      by : (o : Option Participant) → L work (elim o [ None ↦ answer_unknown peer t work | Some part ↦ answer_known peer t part.outcome work ])
      by None = if_on D tid member number (was_committed t work.node) (send peer (messages.Tell t outcomes.Commit) work) (send peer (messages.Tell t outcomes.Abort) (keep_abort_told t peer work)) work
          (λ so. send_on D tid member number peer (messages.Tell t outcomes.Commit) work)
          (λ so. then_on D tid member number work (keep_abort_told t peer work) (send peer (messages.Tell t outcomes.Abort) (keep_abort_told t peer work)) (keep_on t peer work) (send_on D tid member number peer (messages.Tell t outcomes.Abort) (keep_abort_told t peer work)))
      by (Some part) = known part.outcome
