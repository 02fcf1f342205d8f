-- Readiness, refusal and forgetting: what stands before each of these rules stands after it.
use Rattle.qs_world_lawful.proofs.Words.{◌≡◌, inr, ℕ, ◌≤◌, Bool, true, false, List, [], ◌∷◌, Option, Some, None, refl, sym, ap, subst, ◌∙◌, arith, fold, if◌then◌else◌, append-nil, ◌&&◌, ◌++◌, not, is_none, is_some, NodeNo, Outcome, Tid, release_of, is_no_node, listed, same_node, Decided, BookValue, find_transaction, TransactionValue, is_open, is_outcome, Cell, Cause, kept_outcome, is_other, decide_commit, answer_superior, forget_rule, is_quiet, may_answer, ready, ready_rule, refusal_goes_to}
use Rattle.qs_world_lawful.proofs.Words.{refuse_elsewhere, refuse_home, refuse_rule, say_yes, send_refusal, Work, doings_of, here, with_manager, forget, told_with_own, is_forgotten, is_undecided, member_of, only_read, Participant, InRun, HoldsBeside, HoldsReads, HoldsStranger, IsTrueCause, has_issued, HoldsWork, book_at, at_server, face_of, HasEnded, HoldsTid, Every, HasNodeFacts, eqb-self, eqb-true}
use Rattle.qs_base.specs.declared.identifiers.Outcome.TheVariants as outcomes
use Rattle.qs_book_machine.specs.Clauses.{note_text}
use Rattle.qs_book_machine.specs.Transaction.{part_of as machine_part}
use Rattle.qs_book_machine.specs.declared.transaction.Cell.TheVariants as cells
use Rattle.qs_ops.specs.declared.answer.Cause.TheVariants as causes
use Rattle.qs_packet.specs.declared.message.Message.TheVariants as messages
use Rattle.qs_node_step.specs.Deciding.{decide}
use Rattle.qs_node_step.specs.State.{part_of}
use Rattle.qs_tm.specs.Manager as tm
use Rattle.qs_tm.specs.Members as rules
use Rattle.qs_tm.specs.Participant as participant
use Rattle.qs_world_lawful.proofs.BesideDecide.{goes_decide}
use Rattle.qs_world_lawful.proofs.BesideGoes.{Goes, goes_elim, goes_if, goes_part, goes_self, goes_send, goes_then}
use Rattle.qs_world_lawful.proofs.BesideKnown.{goes_forget}
use Rattle.qs_world_lawful.proofs.BesideRequests.{engaged_on}
use Rattle.qs_world_lawful.proofs.Clauses.{of_tid}
use Rattle.qs_world_lawful.proofs.ReadAlone.{all_read}
use Rattle.qs_world_lawful.proofs.Truths.{clash, left_true, node_is, not_true, right_true}

-- what is decided is not open
shut : (o : Outcome) (c : Cell) → is_outcome o c ≡ true → is_open c ≡ true → ⊥
shut o cells.Commit e open_still = cc open_still
shut o cells.Abort e open_still = cc open_still
shut outcomes.Commit cells.Open e open_still = cc e
shut outcomes.Abort cells.Open e open_still = cc e

-- of what is not decided at its home no outcome is kept
pub unkept : (stamp : ℕ) (before : BookValue) (work : Work) → HoldsWork stamp before work → HasNodeFacts work.node → (tid : Tid) (p : Participant) → part_of tid work ≡ Some p → p.engage.home ≡ true → p.outcome ≡ None → kept_outcome tid work.node ≡ None
unkept stamp before work h facts tid p known home none = by (kept_outcome tid work.node) refl
  where
    at : tid.home ≡ work.node.setting.node
    at = node_is tid.home work.node.setting.node (eqb-true tid.home.0 work.node.setting.node.0 (sym (facts.parts tid p known).homed ∙ home))

    by : (o : Option Decided) → kept_outcome tid work.node ≡ o → o ≡ None
    by None is = refl
    by (Some d) is = absurd (of (h.holds.clients.outcomes tid d is))
      where
        of : HasEnded (book_at stamp before work) tid d → ⊥
        of e = shut d.outcome e.tx.cell e.as_kept ((its.home at ((facts.parts tid p known).began home none)).undecided p refl none)
          where
            its : HoldsTid work.node.setting.node work.node.setting.inc tid e.tx (record (face_of work.node tid) { known = Some p })
            its = subst (λ (o : Option Participant). HoldsTid work.node.setting.node work.node.setting.inc tid e.tx (record (face_of work.node tid) { known = o })) known (of_tid stamp (book_at stamp before work) work.node h.holds tid e.tx e.found)

module _ (stamp : ℕ) (before : BookValue) (run : InRun before) where
  abbrev On : Work → Work → Type 0
  On work new = Goes stamp before run work new

  -- where nothing is entered, what stands before may be used all along
  pub goes_given : (work new : Work) → new.out.entries ≡ work.out.entries → new.node.setting ≡ work.node.setting → new.node.committed ≡ work.node.committed → (HoldsBeside (book_at stamp before work) work.node → On work new) → On work new
  goes_given work new entries setting logged body = record { more = []; entries = entries ∙ sym (append-nil work.out.entries); setting = setting; logged = logged; keeps = λ lawful h. (body h).keeps lawful h; sends = λ lawful h all. (body h).sends lawful h all }

  -- ---- readiness

  pub goes_commit : (tid : Tid) (work : Work) → kept_outcome tid work.node ≡ None → On work (decide_commit tid work)
  goes_commit tid work none = goes_elim stamp before run (tm.need_past tid work.room work.node.manager) work _ _ (λ fits. goes_decide stamp before run tid outcomes.Commit None work (λ is. none))
      (λ need is. goes_decide stamp before run tid outcomes.Abort (Some (causes.Room need work.room)) work (λ e. absurd (never e)))
    where
      never : outcomes.Abort ≡ outcomes.Commit → ⊥
      never e = cc e

  pub goes_abort : (tid : Tid) (cause : Cause) (work : Work) → On work (decide tid outcomes.Abort (Some cause) work)
  goes_abort tid cause work = goes_decide stamp before run tid outcomes.Abort (Some cause) work (λ e. absurd (never e))
    where
      never : outcomes.Abort ≡ outcomes.Commit → ⊥
      never e = cc e

  goes_yes : (tid : Tid) (part : Participant) (superior : NodeNo × ℕ) (work : Work) → On work (say_yes tid part superior work)
  goes_yes tid part superior work =
      let released : Work = with_manager (tm.released tid) work in
      goes_then stamp before run work released (say_yes tid part superior work) (goes_part stamp before run tid participant.released work (λ p at. engaged_on p (participant.released p) refl refl))
      (goes_send stamp before run superior.0 (messages.VotedYes tid superior.1 (listed (told_with_own (here work) part))) released tt (λ h. tt))

  pub goes_ready : (tid : Tid) (part : Participant) (work : Work) → (part.engage.home ≡ true → kept_outcome tid work.node ≡ None) → On work (ready_rule tid part work)
  goes_ready tid part work none = goes_if stamp before run (may_answer tid part work) work (ready tid part work) work
      (λ may. goes_if stamp before run part.engage.home work (if is_quiet (doings_of tid work) then decide_commit tid work else work) (answer_superior tid part work)
      (λ home. goes_if stamp before run (is_quiet (doings_of tid work)) work (decide_commit tid work) work (λ quiet. goes_commit tid work (none home)) (λ busy. goes_self stamp before run work))
      (λ away. goes_elim stamp before run (release_of part.engage) work work _ (λ free. goes_self stamp before run work) (λ superior is. goes_yes tid part superior work)))
      (λ not_yet. goes_self stamp before run work)

  -- ---- refusal

  module _ (tid : Tid) (to : NodeNo) where
    entries_sent : (cs : List Cause) (w : Work) → (fold (send_refusal tid to) w cs).out.entries ≡ w.out.entries
    entries_sent [] w = refl
    entries_sent (c ∷ cs) w = entries_sent cs (send_refusal tid to w c) ∙ by (is_other w.node.setting to)
      where
        by : (b : Bool) → (if b then record w { out = record w.out { messages = w.out.messages ++ record { to = to; message = messages.VotedAbort tid c } ∷ [] } } else w).out.entries ≡ w.out.entries
        by true = refl
        by false = refl

    setting_sent : (cs : List Cause) (w : Work) → (fold (send_refusal tid to) w cs).node.setting ≡ w.node.setting
    setting_sent [] w = refl
    setting_sent (c ∷ cs) w = setting_sent cs (send_refusal tid to w c) ∙ by (is_other w.node.setting to)
      where
        by : (b : Bool) → (if b then record w { out = record w.out { messages = w.out.messages ++ record { to = to; message = messages.VotedAbort tid c } ∷ [] } } else w).node.setting ≡ w.node.setting
        by true = refl
        by false = refl

    logged_sent : (cs : List Cause) (w : Work) → (fold (send_refusal tid to) w cs).node.committed ≡ w.node.committed
    logged_sent [] w = refl
    logged_sent (c ∷ cs) w = logged_sent cs (send_refusal tid to w c) ∙ by (is_other w.node.setting to)
      where
        by : (b : Bool) → (if b then record w { out = record w.out { messages = w.out.messages ++ record { to = to; message = messages.VotedAbort tid c } ∷ [] } } else w).node.committed ≡ w.node.committed
        by true = refl
        by false = refl

    refuses : (cs : List Cause) (w : Work) → Every (IsTrueCause (book_at stamp before w) tid) cs → On w (fold (send_refusal tid to) w cs)
    refuses [] w all = goes_self stamp before run w
    refuses (c ∷ cs) w all = goes_then stamp before run w (send_refusal tid to w c) (fold (send_refusal tid to) (send_refusal tid to w c) cs) (goes_send stamp before run to (messages.VotedAbort tid c) w tt (λ h. all.0))
        (refuses cs (send_refusal tid to w c) (by (is_other w.node.setting to)))
      where
        by : (b : Bool) → Every (IsTrueCause (book_at stamp before (if b then record w { out = record w.out { messages = w.out.messages ++ record { to = to; message = messages.VotedAbort tid c } ∷ [] } } else w)) tid) cs
        by true = all.1
        by false = all.1

  goes_elsewhere : (tid : Tid) (part : Participant) (work : Work) → part_of tid work ≡ Some part → part.outcome ≡ None → On work (refuse_elsewhere tid part work)
  goes_elsewhere tid part work known none = goes_given work (refuse_elsewhere tid part work) (entries_sent tid (refusal_goes_to tid part) part.causes taken) (setting_sent tid (refusal_goes_to tid part) part.causes taken) (logged_sent tid (refusal_goes_to tid part) part.causes taken)
      (λ h. goes_then stamp before run work taken (refuse_elsewhere tid part work)
      (goes_part stamp before run tid participant.take_causes work (λ p at. record { notes = record { keeps = λ c is. is }; asked = refl; outcome = refl; causes = inr refl; members = refl; involved = λ is. is; home = refl; begun_at = refl; unended = λ is. is }))
      (refuses tid (refusal_goes_to tid part) part.causes taken (so h (find_transaction (book_at stamp before work) tid) refl ((h.at tid).stands part known))))
    where
      taken : Work
      taken = with_manager (tm.take_causes tid) work

      so : (h : HoldsBeside (book_at stamp before work) work.node) (o : Option TransactionValue) → find_transaction (book_at stamp before work) tid ≡ o → is_some (find_transaction (book_at stamp before work) tid) ≡ true → Every (IsTrueCause (book_at stamp before work) tid) part.causes
      so h None is there = absurd (clash (sym (ap is_some is) ∙ there))
      so h (Some tx) is there = ((h.at tid).parts tx part is known).causes none

  pub goes_refuse : (tid : Tid) (part : Participant) (work : Work) → part_of tid work ≡ Some part → part.outcome ≡ None → On work (refuse_rule tid part work)
  goes_refuse tid part work known none = goes_if stamp before run part.engage.home work (refuse_home tid part work) (refuse_elsewhere tid part work) (λ home. of part.causes) (λ away. goes_elsewhere tid part work known none)
    where
      of : (cs : List Cause) → On work (elim cs [ [] ↦ work | cause ∷ more ↦ decide tid outcomes.Abort (Some cause) work ])
      of [] = goes_self stamp before run work
      of (cause ∷ more) = goes_abort tid cause work

  -- ---- forgetting

  pub goes_forgets : (tid : Tid) (part : Participant) (work : Work) → part_of tid work ≡ Some part → part.outcome ≡ None → HasNodeFacts work.node → On work (forget_rule tid part work)
  goes_forgets tid part work known none facts = goes_if stamp before run (is_forgotten part) work (forget tid work) work (λ is. goes_forget stamp before run work tid facts.rising (λ h tx found. (λ open_still. stranger is h tx found, λ home. absurd (far is home)))) (λ is. goes_self stamp before run work)
    where
      front : is_forgotten part ≡ true → (is_undecided part && not part.engage.home) ≡ true
      front is = left_true (is_undecided part && not part.engage.home) _ is

      read : is_forgotten part ≡ true → only_read part ≡ true
      read is = right_true (is_no_node part.told) (only_read part) (right_true (is_none part.engage.superior && not part.involved) _ (right_true (is_undecided part && not part.engage.home) _ is))

      far : is_forgotten part ≡ true → tid.home ≡ work.node.setting.node → ⊥
      far is home = clash (sym (not_true part.engage.home (right_true (is_undecided part) (not part.engage.home) (front is))) ∙ ((facts.parts tid part known).homed ∙ (ap (λ (k : NodeNo). same_node k work.node.setting.node) home ∙ eqb-self work.node.setting.node.0)))

      stranger : is_forgotten part ≡ true → (h : HoldsBeside (book_at stamp before work) work.node) (tx : TransactionValue) → find_transaction (book_at stamp before work) tid ≡ Some tx → HoldsStranger work.node.setting.node work.node.setting.inc tid tx
      stranger is h tx found = record { unissued = λ count one. none_issued count one (has_issued tx work.node.setting.node work.node.setting.inc (note_text tid work.node.setting.node.0 count)) refl; unchanged = nothing }
        where
          reads : HoldsReads work.node.setting.node work.node.setting.inc tid tx part
          reads = ((h.at tid).parts tx part found known).reads none

          nothing : (machine_part tx (at_server work.node.setting.node rules.files_no) work.node.setting.inc).pending ≡ 0
          nothing = reads.unchanged (all_read part (read is) rules.files_no refl refl)

          never : (k p : ℕ) → 1 ≤ k → k ≤ p → p ≡ 0 → ⊥
          never k p one most zero_is = grind (arith, one, most, zero_is)

          none_issued : (count : ℕ) → 1 ≤ count → (b : Bool) → has_issued tx work.node.setting.node work.node.setting.inc (note_text tid work.node.setting.node.0 count) ≡ b → b ≡ false
          none_issued count one false so = refl
          none_issued count one true so = absurd (never count _ one (reads.counted count one so) nothing)
