-- A home aborts a transaction that it runs, this one or another.
use Rattle.qs_world_refine.proofs.Words.{◌≡◌, ℕ, Bool, true, false, [], Option, Some, None, refl, sym, subst, ap, ◌∙◌, is_none, eqb-true, same_tid, NodeNo, Tid, same_node, Cause, is_undecided, Participant, decide, Work, part_of, Scene, same_flag, StaysSound, Stands, GoesOn}
use Rattle.qs_base.specs.declared.identifiers.Outcome.{Outcome}
use Rattle.qs_base.specs.declared.identifiers.Outcome.TheVariants as outcomes
use Rattle.qs_world_agree.specs.World.{World}
use Rattle.qs_world_refine.proofs.DecideAbort.{decide_abort}
use Rattle.qs_world_refine.proofs.During.{Leaves}
use Rattle.qs_world_refine.proofs.KindsKept.{decide_kinds}
use Rattle.qs_world_refine.proofs.SettleFrames.{decide_leaves}
use Rattle.qs_world_refine.proofs.SettleHome.{decided_clear, home_answers}
use Rattle.qs_world_refine.proofs.SettleRules.{beside, beside_apart, stands_on}
use Rattle.qs_world_refine.proofs.SettleStands.{its, is_at_home, stands_left}
use Rattle.qs_world_refine.proofs.SoundDecide.{decide_abort_sound}
use Rattle.qs_world_refine.proofs.SoundKnown.{same_is}

pub none_is : (part : Participant) → is_undecided part ≡ true → part.outcome ≡ None
none_is part is = by part.outcome refl is
  where
    by : (o : Option Outcome) → part.outcome ≡ o → is_none o ≡ true → part.outcome ≡ None
    by None at so = at
    by (Some outcome) at so = absurd (cc so)

module _ (tid : Tid) (scene : Scene) (cause : Option Cause) (work : Work) (part : Participant) (known : part_of tid work ≡ Some part) (open_now : is_undecided part ≡ true) (home : part.engage.home ≡ true) where
  sound : StaysSound work (decide tid outcomes.Abort cause work)
  sound = decide_abort_sound tid part cause work known open_now home

  here : (w : World) → Stands tid scene tid.home.0 work w → GoesOn tid scene tid.home.0 (decide tid outcomes.Abort cause work) w
  here w is = stands_on tid scene tid.home.0 work (decide tid outcomes.Abort cause work) w is
      (decide_abort tid scene cause work part w is.shown (is_at_home tid scene work w is part known (none_is part open_now)))
      left sound (decide_kinds tid outcomes.Abort cause work)
      (decided_clear tid scene work w part is known (none_is part open_now) outcomes.Abort cause)
      (home_answers tid scene work w part is known (none_is part open_now) (decide tid outcomes.Abort cause work) (sound is.sound) left)
    where
      left : Leaves (beside tid) work (decide tid outcomes.Abort cause work)
      left = decide_leaves (beside tid) tid (beside_apart tid) outcomes.Abort cause work

  own : (n : ℕ) (w : World) → Stands tid scene n work w → GoesOn tid scene n (decide tid outcomes.Abort cause work) w
  own n w is = subst (λ (k : ℕ). Stands tid scene k work w → GoesOn tid scene k (decide tid outcomes.Abort cause work) w) at_node (here w) is
    where
      same : same_node tid.home work.node.setting.node ≡ true
      same = on part.engage.home (same_node tid.home work.node.setting.node) home (its tid scene n work w is part known (none_is part open_now)).homed
        where
          on : (a b : Bool) → a ≡ true → same_flag a b ≡ true → b ≡ true
          on true b is so = so
          on false b is so = absurd (cc is)

      at_node : tid.home.0 ≡ n
      at_node = eqb-true tid.home.0 n (sym (ap (λ (m : NodeNo). same_node tid.home m) is.at.node) ∙ same)

  pub aborts : (t : Tid) (n : ℕ) (w : World) → Stands t scene n work w → GoesOn t scene n (decide tid outcomes.Abort cause work) w
  aborts t n w is = by (same_tid t tid) refl
    where
      by : (b : Bool) → same_tid t tid ≡ b → GoesOn t scene n (decide tid outcomes.Abort cause work) w
      by true same = subst (λ (k : Tid). Stands k scene n work w → GoesOn k scene n (decide tid outcomes.Abort cause work) w) (sym (same_is t tid same)) (own n w) is
      by false apart = record {
        next = w;
        leads = record { events = []; run = refl };
        stands = stands_left t scene n work (decide tid outcomes.Abort cause work) w (decide_leaves t tid apart outcomes.Abort cause work) (sound is.sound) (decide_kinds tid outcomes.Abort cause work is.kinds) is;
      }
