-- A node that settles at the end of a step stays sound.
use Rattle.qs_world_refine.proofs.Words.{◌≡◌, ◌&&◌, ◌||◌, not, Bool, true, false, List, [], ◌∷◌, Option, Some, None, refl, fold, if◌then◌else◌, Tid, Cause, is_undecided, Participant, where_undecided, decide, decide_commit, may_answer, is_quiet, answer_superior, ready_rule, pass_rule, refuse_elsewhere, refuse_rule, forget_rule, try, settle_tid, due_tids, Work, part_of, doings_of, is_sound, StaysSound}
use Rattle.qs_base.specs.declared.identifiers.Outcome.TheVariants as outcomes
use Rattle.qs_ops.specs.declared.answer.Cause.TheVariants as causes
use Rattle.qs_tm.specs.Manager as tm
use Rattle.qs_node_step.specs.Settling.{ready, refuse_home}
use Rattle.qs_world_refine.specs.SoundLaws.{SettleSound}
use Rattle.qs_world_refine.proofs.SoundAnswer.{none_waits, none_lent, answer_superior_sound, refuse_elsewhere_sound, forget_rule_sound}
use Rattle.qs_world_refine.proofs.SoundDecide.{decide_abort_sound, decide_commit_sound}
use Rattle.qs_world_refine.proofs.SoundVotes.{pass_rule_sound}

-- a rule is tried
pub undecided_known : (tid : Tid) (rule : Participant → Work → Work) (work : Work) → ((part : Participant) → part_of tid work ≡ Some part → is_undecided part ≡ true → StaysSound work (rule part work))
    → StaysSound work (where_undecided tid rule work)
undecided_known tid rule work each = by (part_of tid work) refl
  where
    picked : (part : Participant) → part_of tid work ≡ Some part → (b : Bool) → is_undecided part ≡ b → StaysSound work (if b then rule part work else work)
    picked part known true open_now = each part known open_now
    picked part known false is = λ sound. sound

    by : (o : Option Participant) → part_of tid work ≡ o → StaysSound work (elim o [ None ↦ work | Some part ↦ if is_undecided part then rule part work else work ])
    by None none = λ sound. sound
    by (Some part) known = picked part known (is_undecided part) refl

module _ (tid : Tid) (part : Participant) (work : Work) (known : part_of tid work ≡ Some part) (open_now : is_undecided part ≡ true) where
  commits : may_answer tid part work ≡ true → part.engage.home ≡ true → StaysSound work (decide_commit tid work)
  commits may home = by (tm.need_past tid work.room work.node.manager)
    where
      by : (o : Option Rattle.std.proofs.Common.ℕ) → StaysSound work (elim o [ None ↦ decide tid outcomes.Commit None work | Some need ↦ decide tid outcomes.Abort (Some (causes.Room need work.room)) work ])
      by None = decide_commit_sound tid part None work known open_now home (none_waits tid part work may) (none_lent tid part work may)
      by (Some need) = decide_abort_sound tid part (Some (causes.Room need work.room)) work known open_now home

  ready_sound : may_answer tid part work ≡ true → StaysSound work (ready tid part work)
  ready_sound may = by part.engage.home refl
    where
      quiet : part.engage.home ≡ true → (b : Bool) → StaysSound work (if b then decide_commit tid work else work)
      quiet home true = commits may home
      quiet home false = λ sound. sound

      by : (h : Bool) → part.engage.home ≡ h → StaysSound work (if h then (if is_quiet (doings_of tid work) then decide_commit tid work else work) else answer_superior tid part work)
      by true home = quiet home (is_quiet (doings_of tid work))
      by false away = answer_superior_sound tid part work known may

  pub ready_rule_sound : StaysSound work (ready_rule tid part work)
  ready_rule_sound = by (may_answer tid part work) refl
    where
      by : (b : Bool) → may_answer tid part work ≡ b → StaysSound work (if b then ready tid part work else work)
      by true may = ready_sound may
      by false may = λ sound. sound

  pub refuse_rule_sound : StaysSound work (refuse_rule tid part work)
  refuse_rule_sound = by part.engage.home refl
    where
      first : part.engage.home ≡ true → (list : List Cause) → StaysSound work (elim list [ [] ↦ work | cause ∷ more ↦ decide tid outcomes.Abort (Some cause) work ])
      first home [] = λ sound. sound
      first home (cause ∷ more) = decide_abort_sound tid part (Some cause) work known open_now home

      by : (h : Bool) → part.engage.home ≡ h → StaysSound work (if h then refuse_home tid part work else refuse_elsewhere tid part work)
      by true home = first home part.causes
      by false away = refuse_elsewhere_sound tid part work

pub settle_tid_sound : (work : Work) (tid : Tid) → StaysSound work (settle_tid work tid)
settle_tid_sound work tid sound =
    undecided_known tid (forget_rule tid) refused (λ part known open_now. forget_rule_sound tid part refused known)
    (undecided_known tid (refuse_rule tid) readied (λ part known open_now. refuse_rule_sound tid part readied known open_now)
    (undecided_known tid (ready_rule tid) passed (λ part known open_now. ready_rule_sound tid part passed known open_now)
    (undecided_known tid (pass_rule tid) work (λ part known open_now. pass_rule_sound tid part work known open_now) sound)))
  where
    passed : Work
    passed = try tid pass_rule work

    readied : Work
    readied = try tid ready_rule passed

    refused : Work
    refused = try tid refuse_rule readied

pub settle_sound : SettleSound
settle_sound work = each (due_tids work) work
  where
    each : (tids : List Tid) (w : Work) → is_sound w.node ≡ true → is_sound (fold settle_tid w tids).node ≡ true
    each [] w sound = sound
    each (tid ∷ tids) w sound = each tids (settle_tid w tid) (settle_tid_sound w tid sound)
