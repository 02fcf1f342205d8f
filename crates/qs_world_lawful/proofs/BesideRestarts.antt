-- Another node restarts, or this one begins, and time goes on: what stands before stands after.
use Rattle.qs_world_lawful.proofs.Words.{◌≡◌, ℕ, ◌+◌, ◌<◌, ◌-◌, ◌^◌, Bool, true, false, List, [], ◌∷◌, Option, Some, None, refl, sym, ap, subst, ◌∙◌, arith, fold, if◌then◌else◌, ◌&&◌, not, NodeNo, Outcome, Tid, listed, same_node, BookValue, effect_act, block, send, give_notices, begin_incarnation, find_gone, inquire, is_orphaned_by, known_tids, notice_decided, notice_part, notice_tid, peer_restarted, resume_home, resume_part, resume_tid, Work, here, with_manager}
use Rattle.qs_world_lawful.proofs.Words.{with_queues, abort_old, age_rule, tick, is_told_again, named_by, is_owed_by, Participant, InRun, book_at, AtEach, tick_work, HasOutcome}
use Rattle.qs_node_step.specs.Restarts.{name_again, tell_again}
use Rattle.std.proofs.Common.{min}
use Rattle.qs_base.specs.declared.identifiers.Outcome.TheVariants as outcomes
use Rattle.qs_ipc.specs.Ipc as ipc
use Rattle.qs_book_journal.specs.declared.entry.Act.TheVariants as acts
use Rattle.qs_book_laws.proofs.Acts as of
use Rattle.qs_ops.specs.declared.answer.Cause.TheVariants as causes
use Rattle.qs_packet.specs.declared.message.Message.TheVariants as messages
use Rattle.qs_node_step.specs.State.{NodeValue, part_of, with_node}
use Rattle.qs_tm.specs.Manager as tm
use Rattle.qs_tm.specs.Outcomes.{is_abort}
use Rattle.qs_tm.specs.Participant as participant
use Rattle.qs_world_lawful.specs.BesideStep.{IsGone}
use Rattle.qs_world_lawful.proofs.BesideActs.{steps_as, steps_self}
use Rattle.qs_world_lawful.proofs.DecidedOutcomes.{outcome_said}
use Rattle.qs_world_lawful.proofs.BesideGoes.{Goes, goes_alike, goes_elim, goes_entry, goes_fold, goes_if, goes_part, goes_self, goes_send, goes_sends, goes_then}
use Rattle.qs_world_lawful.proofs.BesideLearnt.{Ended, goes_notices, notices_still}
use Rattle.qs_world_lawful.proofs.BesideParts.{part_same}
use Rattle.qs_world_lawful.proofs.BesidePlain.{beside_plain}
use Rattle.qs_world_lawful.proofs.BesideReply.{goes_block}
use Rattle.qs_world_lawful.proofs.BesideRequests.{engaged_on, known_there}
use Rattle.qs_world_lawful.proofs.BesideSettle.{goes_abort}
use Rattle.qs_world_lawful.proofs.BesideTold.{goes_ends_record, goes_late}
use Rattle.qs_world_lawful.proofs.FactsQuiet.{restarted_quiet}
use Rattle.qs_world_lawful.proofs.Faces.{part_changed}
use Rattle.qs_world_lawful.proofs.Truths.{left_true}

module _ (stamp : ℕ) (before : BookValue) (run : InRun before) where
  abbrev On : Work → Work → Type 0
  On work new = Goes stamp before run work new

  -- each item as it is given at its stage
  pub goes_each : {A : Type 0} (P : Work → A → Type 0) (f : Work → A → Work) → ((work : Work) (x : A) → P work x → On work (f work x)) → (xs : List A) (work : Work) → AtEach P f work xs → On work (fold f work xs)
  goes_each P f each [] work given = goes_self stamp before run work
  goes_each P f each (x ∷ xs) work given = goes_then stamp before run work (f work x) (fold f (f work x) xs) (each work x given.0) (goes_each P f each xs (f work x) given.1)

  abort_of : (o : Outcome) → is_abort (Some o) ≡ true → o ≡ outcomes.Abort
  abort_of outcomes.Abort e = refl
  abort_of outcomes.Commit e = absurd (cc e)

  -- ---- another node restarted

  goes_notice : (peer : NodeNo) (old new : ℕ) (work : Work) (tid : Tid) → IsGone stamp before peer old work tid → On work (notice_tid peer old new work tid)
  goes_notice peer old new work tid gone = goes_elim stamp before run (part_of tid work) work work (λ part. notice_part peer old new tid part (with_manager (tm.restarted tid peer) work)) (λ none. goes_self stamp before run work)
      (λ part known. goes_then stamp before run work anew (notice_part peer old new tid part anew) (goes_part stamp before run tid (participant.restarted peer) work (λ p at. engaged_on p (participant.restarted peer p) refl ((restarted_quiet peer).home p)))
      (of part known part.outcome refl))
    where
      anew : Work
      anew = with_manager (tm.restarted tid peer) work

      known_anew : (part : Participant) → part_of tid work ≡ Some part → part_of tid anew ≡ Some (participant.restarted peer part)
      known_anew part known = part_changed tid (participant.restarted peer) work.node.manager part known

      finds : (part : Participant) → part_of tid work ≡ Some part → part.outcome ≡ None → On (with_manager (tm.restarted tid peer) work) (find_gone peer old tid part (with_manager (tm.restarted tid peer) work))
      finds part known none = goes_if stamp before run (is_owed_by peer part) anew (block tid (causes.Gone peer old) anew) anew (λ owed. goes_block stamp before run tid (causes.Gone peer old) anew (λ h. gone part known none owed)) (λ is. goes_self stamp before run anew)

      asks : (part : Participant) → part_of tid work ≡ Some part → part.outcome ≡ None → (b : Bool)
          → On (with_manager (tm.restarted tid peer) work) (if b then send tid.home (messages.Inquire tid) (find_gone peer old tid part (with_manager (tm.restarted tid peer) work)) else find_gone peer old tid part (with_manager (tm.restarted tid peer) work))
      asks part known none false = finds part known none
      asks part known none true = goes_late stamp before run anew (find_gone peer old tid part anew) tid.home (messages.Inquire tid) (finds part known none) refl (λ h. known_there (book_at stamp before anew) anew.node tid (participant.restarted peer part) (known_anew part known) h)

      decided : (part : Participant) → part_of tid work ≡ Some part → (outcome : Outcome) → part.outcome ≡ Some outcome → On (with_manager (tm.restarted tid peer) work) (notice_decided peer tid outcome part (with_manager (tm.restarted tid peer) work))
      decided part known outcome is = goes_if stamp before run part.engage.home anew (tell_again peer tid outcome part anew) (name_again peer tid part anew)
          (λ home. goes_if stamp before run (is_told_again peer part) anew (send peer (messages.Tell tid outcome) anew) anew
          (λ again. goes_send stamp before run peer (messages.Tell tid outcome) anew tt (λ h. outcome_said (book_at stamp before anew) anew.node tid (participant.restarted peer part) outcome (known_anew part known) is h)) (λ again. goes_self stamp before run anew))
          (λ away. goes_if stamp before run (is_abort part.outcome && same_node tid.home peer) anew (send peer (messages.Told tid (listed (named_by tid.home part))) anew) anew
          (λ names. goes_send stamp before run peer (messages.Told tid (listed (named_by tid.home part))) anew tt
          (λ h others. subst (λ (o : Outcome). HasOutcome (book_at stamp before anew) tid o) (abort_of outcome (ap is_abort (sym is) ∙ left_true (is_abort part.outcome) (same_node tid.home peer) names))
          (outcome_said (book_at stamp before anew) anew.node tid (participant.restarted peer part) outcome (known_anew part known) is h)))
          (λ names. goes_self stamp before run anew))

      of : (part : Participant) → part_of tid work ≡ Some part → (o : Option Outcome) → part.outcome ≡ o
          → On (with_manager (tm.restarted tid peer) work) (elim o [ None ↦ inquire peer new tid part (find_gone peer old tid part (with_manager (tm.restarted tid peer) work)) | Some outcome ↦ notice_decided peer tid outcome part (with_manager (tm.restarted tid peer) work) ])
      of part known None is = asks part known is (not part.engage.home && is_orphaned_by peer new tid part)
      of part known (Some outcome) is = decided part known outcome is

  pub goes_restarted : (peer : NodeNo) (old new : ℕ) (work : Work) → AtEach (IsGone stamp before peer old) (notice_tid peer old new) (with_queues (ipc.mark_queues peer) work) (tm.concerned peer work.node.manager) → On work (peer_restarted peer old new work)
  goes_restarted peer old new work gone = goes_then stamp before run work (with_queues (ipc.mark_queues peer) work) (peer_restarted peer old new work) (goes_alike stamp before run work (with_queues (ipc.mark_queues peer) work) refl refl refl refl refl refl)
      (goes_each (IsGone stamp before peer old) (notice_tid peer old new) (goes_notice peer old new) (tm.concerned peer work.node.manager) (with_queues (ipc.mark_queues peer) work) gone)

  -- ---- this one begins

  goes_resume : (work : Work) (tid : Tid) → On work (resume_tid work tid)
  goes_resume work tid = goes_elim stamp before run (part_of tid work) work work (λ part. resume_part tid part work) (λ none. goes_self stamp before run work) (λ part known. of part known part.outcome refl)
    where
      home : (part : Participant) → part_of tid work ≡ Some part → (o : Outcome) → part.outcome ≡ Some o → On work (resume_home tid part o work)
      home part known outcomes.Commit is = goes_sends stamp before run (listed part.tell) (messages.Tell tid outcomes.Commit) work (λ to. tt)
          (λ w at es h. outcome_said (book_at stamp before w) w.node tid part outcomes.Commit (ap (λ (n : NodeValue). tm.part_of tid n.manager) at ∙ known) is h)
      home part known outcomes.Abort is =
          let e : Ended stamp before run tid outcomes.Abort work = record { part = part; known = known; decided = is } in
          goes_then stamp before run work (give_notices tid outcomes.Abort work) (resume_home tid part outcomes.Abort work) (goes_notices stamp before run tid outcomes.Abort outcomes.Abort work e)
          (goes_ends_record stamp before run (give_notices tid outcomes.Abort work) tid outcomes.Abort part (notices_still stamp before run tid outcomes.Abort outcomes.Abort work e))

      of : (part : Participant) → part_of tid work ≡ Some part → (o : Option Outcome) → part.outcome ≡ o → On work (elim o [ None ↦ send tid.home (messages.Inquire tid) work | Some outcome ↦ resume_home tid part outcome work ])
      of part known None is = goes_send stamp before run tid.home (messages.Inquire tid) work refl (λ h. known_there (book_at stamp before work) work.node tid part known h)
      of part known (Some outcome) is = home part known outcome is

  pub goes_incarnation : (work : Work) → On work (begin_incarnation work)
  goes_incarnation work = goes_if stamp before run work.node.is_first work (fold resume_tid first (known_tids work)) work
      (λ is. goes_then stamp before run work first (fold resume_tid first (known_tids work)) (goes_alike stamp before run work first refl refl refl refl refl refl) (goes_fold stamp before run resume_tid goes_resume (known_tids work) first)) (λ is. goes_self stamp before run work)
    where
      first : Work
      first = with_node (λ node. record node { is_first = false }) work

  -- ---- time goes on

  pub goes_ticked : (work : Work) → work.node.manager.ticks + 1 < 2 ^ 62 → On work (tick_work work)
  goes_ticked work room = goes_entry stamp before run work (tick_work work) acts.Tick refl refl refl refl
      (λ fine inv causes h. beside_plain stamp (book_at stamp before work) acts.Tick refl work.node (tick_work work).node refl causes h
      (let a = of.by_tick (here work).0 stamp (book_at stamp before work) in record { faces = a.faces; ages = a.ages; tolds = a.tolds })
      (steps_as (here work) work.node.setting.inc (book_at stamp before work) (effect_act stamp (here work).0 acts.Tick (book_at stamp before work)) _ refl
      (steps_as (here work) work.node.setting.inc (book_at stamp before work) (book_at stamp before work) (effect_act stamp (here work).0 acts.Tick (book_at stamp before work)) refl (steps_self (here work) work.node.setting.inc (book_at stamp before work))))
      (record { ticks = one work.node.servers.timers.timers.ticks work.node.manager.ticks h.clock.ticks room; room = below work.node.manager.ticks room })
      (λ t is. is) (λ t. part_same work.node (tick_work work).node t refl))
    where
      one : (a b : ℕ) → a ≡ b → b + 1 < 2 ^ 62 → a + 1 ≡ min (b + 1) (2 ^ 64 - 1)
      one a b e small = grind (arith, e, small)

      below : (b : ℕ) → b + 1 < 2 ^ 62 → min (b + 1) (2 ^ 64 - 1) < 2 ^ 62
      below b small = grind (arith, small)

  goes_age : (o : Option ℕ) (work : Work) → On work (age_rule o work)
  goes_age None work = goes_self stamp before run work
  goes_age (Some age) work = goes_fold stamp before run (abort_old age) (λ w tid. goes_abort stamp before run tid (causes.Old age) w) (tm.aged age work.node.manager) work

  pub goes_tick : (work : Work) → work.node.manager.ticks + 1 < 2 ^ 62 → On work (tick work)
  goes_tick work room = goes_then stamp before run work (tick_work work) (tick work) (goes_ticked work room) (goes_age work.node.setting.age (tick_work work))
