-- Each rule by which a node settles a transaction leaves standing what stood of it, at the home and elsewhere.
use Rattle.qs_world_refine.proofs.Words.{◌≡◌, ℕ, ◌==◌, ◌&&◌, ◌||◌, not, Bool, true, false, List, [], ◌∷◌, Option, Some, None, is_some, refl, sym, subst, ap, ◌∙◌, arith, if◌then◌else◌, is_none, eqb-true, nat_tests, Tid, same_node, Cause, is_undecided, is_forgotten, Participant, decide, decide_commit, may_answer, is_quiet, ready_rule, answer_superior, refuse_rule, forget_rule, Work, part_of, doings_of, forget, Scene, is_sound, StaysSound, may_doubt, Stands, GoesOn, never_not}
use Rattle.qs_base.specs.declared.identifiers.Outcome.{Outcome}
use Rattle.qs_base.specs.declared.identifiers.Outcome.TheVariants as outcomes
use Rattle.qs_ops.specs.declared.answer.Cause.TheVariants as causes
use Rattle.qs_tm.specs.Manager as tm
use Rattle.qs_world_agree.specs.World.{World}
use Rattle.qs_world_refine.proofs.During.{Leaves}
use Rattle.qs_world_refine.proofs.KindsKept.{ready_kinds, refuse_kinds}
use Rattle.qs_world_refine.proofs.Known.{is_open}
use Rattle.qs_world_refine.proofs.SettleFrames.{ready_leaves, refuse_leaves}
use Rattle.qs_world_refine.proofs.SettleStands.{stands_itself, its, is_at_home, home_clear, home_free}
use Rattle.qs_world_refine.proofs.Settles.{ready_home, refuse_home}
use Rattle.qs_world_refine.proofs.SettlesWhole.{IsDecided, decided_now}
use Rattle.qs_world_refine.proofs.SoundParts.{and_both}
use Rattle.qs_world_refine.proofs.SoundSettle.{ready_rule_sound, refuse_rule_sound}
use Rattle.qs_world_refine.proofs.SettleRules.{beside, beside_apart, RuleStands, IsClear, Answers, stands_on, ready_there, refuse_there, forget_there}

module _ (tid : Tid) (scene : Scene) (work : Work) (w : World) (part : Participant) (is : Stands tid scene tid.home.0 work w) (known : part_of tid work ≡ Some part) (undecided : part.outcome ≡ None) where
  home : part.engage.home ≡ true
  home = (is_at_home tid scene work w is part known undecided).home

  pub decided_clear : (outcome : Outcome) (cause : Option Cause) → IsClear tid scene tid.home.0 (decide tid outcome cause work)
  decided_clear outcome cause none s = absurd (by now.part.outcome now.part.log.prepared now.decided (sym (ap (may_doubt (tid.home.0 == tid.home.0)) now.known) ∙ none))
    where
      now : IsDecided tid (decide tid outcome cause work)
      now = decided_now tid scene work part (is_at_home tid scene work w is part known undecided) outcome cause

      by : (o : Option Outcome) (b : Bool) → is_none o ≡ false → (is_some o || b) ≡ false → ⊥
      by None b is so = cc is
      by (Some outcome) b is so = cc so

  -- nobody is answered
  pub home_answers : (new : Work) → is_sound new.node ≡ true → Leaves (beside tid) work new → Answers tid scene tid.home.0 new
  home_answers new sound left now m its has = absurd (home_free tid new.node now m sound its (rw left.node.around.setting here_now) has)
    where
      here_now : same_node tid.home work.node.setting.node ≡ true
      here_now = rw is.at.node (grind (arith, nat_tests))

  ready_clear : IsClear tid scene tid.home.0 (ready_rule tid part work)
  ready_clear = by (may_answer tid part work)
    where
      room : (o : Option ℕ) → IsClear tid scene tid.home.0 (elim o [ None ↦ decide tid outcomes.Commit None work | Some need ↦ decide tid outcomes.Abort (Some (causes.Room need work.room)) work ])
      room None = decided_clear outcomes.Commit None
      room (Some need) = decided_clear outcomes.Abort (Some (causes.Room need work.room))

      quiet : (b : Bool) → IsClear tid scene tid.home.0 (if b then decide_commit tid work else work)
      quiet true = room (tm.need_past tid work.room work.node.manager)
      quiet false = is.clear

      by : (b : Bool) → IsClear tid scene tid.home.0 (if b then (if part.engage.home then (if is_quiet (doings_of tid work) then decide_commit tid work else work) else answer_superior tid part work) else work)
      by true = rw home (quiet (is_quiet (doings_of tid work)))
      by false = is.clear

  ready_here : GoesOn tid scene tid.home.0 (ready_rule tid part work) w
  ready_here = stands_on tid scene tid.home.0 work (ready_rule tid part work) w is
      (ready_home tid scene work part w is.lawful is.shown (is_at_home tid scene work w is part known undecided) (home_clear tid scene work w is part known undecided))
      left sound (ready_kinds tid part work) ready_clear (home_answers (ready_rule tid part work) (sound is.sound) left)
    where
      left : Leaves (beside tid) work (ready_rule tid part work)
      left = ready_leaves (beside tid) tid (beside_apart tid) part work

      sound : StaysSound work (ready_rule tid part work)
      sound = ready_rule_sound tid part work known (is_open part undecided)

  refuse_here : GoesOn tid scene tid.home.0 (refuse_rule tid part work) w
  refuse_here = stands_on tid scene tid.home.0 work (refuse_rule tid part work) w is
      (refuse_home tid scene work part w is.shown (is_at_home tid scene work w is part known undecided))
      left sound (refuse_kinds tid part work) (rw home (by part.causes)) (home_answers (refuse_rule tid part work) (sound is.sound) left)
    where
      left : Leaves (beside tid) work (refuse_rule tid part work)
      left = refuse_leaves (beside tid) tid (beside_apart tid) part work

      sound : StaysSound work (refuse_rule tid part work)
      sound = refuse_rule_sound tid part work known (is_open part undecided)

      by : (list : List Cause) → IsClear tid scene tid.home.0 (elim list [ [] ↦ work | cause ∷ more ↦ decide tid outcomes.Abort (Some cause) work ])
      by [] = is.clear
      by (cause ∷ more) = decided_clear outcomes.Abort (Some cause)

  -- nothing is forgotten there
  forget_here : GoesOn tid scene tid.home.0 (forget_rule tid part work) w
  forget_here = by (is_forgotten part) refl
    where
      never : is_forgotten part ≡ true → ⊥
      never so = never_not part.engage.home home (and_both (is_undecided part) (not part.engage.home) (and_both (is_undecided part && not part.engage.home) _ so).0).1

      by : (b : Bool) → is_forgotten part ≡ b → GoesOn tid scene tid.home.0 (if b then forget tid work else work) w
      by true so = absurd (never so)
      by false so = stands_itself tid scene tid.home.0 work w is

-- ---- wherever it is

module _ (tid : Tid) (scene : Scene) (n : ℕ) where
  pub ready_stands : RuleStands tid scene n ready_rule
  ready_stands work w part is known undecided = by (tid.home.0 == n) refl
    where
      at : (m : ℕ) → tid.home.0 ≡ m → Stands tid scene m work w → GoesOn tid scene m (ready_rule tid part work) w
      at m same = subst (λ (k : ℕ). Stands tid scene k work w → GoesOn tid scene k (ready_rule tid part work) w) same (λ is. ready_here tid scene work w part is known undecided)

      by : (b : Bool) → (tid.home.0 == n) ≡ b → GoesOn tid scene n (ready_rule tid part work) w
      by true here_is = at n (eqb-true tid.home.0 n here_is) is
      by false away = ready_there tid scene n away work w part is known undecided

  pub refuse_stands : RuleStands tid scene n refuse_rule
  refuse_stands work w part is known undecided = by (tid.home.0 == n) refl
    where
      at : (m : ℕ) → tid.home.0 ≡ m → Stands tid scene m work w → GoesOn tid scene m (refuse_rule tid part work) w
      at m same = subst (λ (k : ℕ). Stands tid scene k work w → GoesOn tid scene k (refuse_rule tid part work) w) same (λ is. refuse_here tid scene work w part is known undecided)

      by : (b : Bool) → (tid.home.0 == n) ≡ b → GoesOn tid scene n (refuse_rule tid part work) w
      by true here_is = at n (eqb-true tid.home.0 n here_is) is
      by false away = refuse_there tid scene n away work w part is known undecided

  pub forget_stands : RuleStands tid scene n forget_rule
  forget_stands work w part is known undecided = by (tid.home.0 == n) refl
    where
      at : (m : ℕ) → tid.home.0 ≡ m → Stands tid scene m work w → GoesOn tid scene m (forget_rule tid part work) w
      at m same = subst (λ (k : ℕ). Stands tid scene k work w → GoesOn tid scene k (forget_rule tid part work) w) same (λ is. forget_here tid scene work w part is known undecided)

      by : (b : Bool) → (tid.home.0 == n) ≡ b → GoesOn tid scene n (forget_rule tid part work) w
      by true here_is = at n (eqb-true tid.home.0 n here_is) is
      by false away = forget_there tid scene n away work w part is known undecided
