-- A node settles at the end of a step: one transaction after the other.
use Rattle.qs_world_refine.proofs.Words.{◌≡◌, ℕ, Bool, true, false, List, [], ◌∷◌, fold, refl, subst, same_tid, Tid, pass_rule, ready_rule, refuse_rule, forget_rule, try, settle_tid, due_tids, Work, Scene, Stands, GoesOn}
use Rattle.qs_world_agree.specs.World.{World}
use Rattle.qs_world_refine.specs.SettleWhole.{SettleTidGoes, SettleGoes}
use Rattle.qs_world_refine.proofs.KindsKept.{settle_kinds}
use Rattle.qs_world_refine.proofs.SettleFrames.{settle_leaves}
use Rattle.qs_world_refine.proofs.SettleHome.{ready_stands, refuse_stands, forget_stands}
use Rattle.qs_world_refine.proofs.SettleRules.{try_stands, pass_stands}
use Rattle.qs_world_refine.proofs.SettleStands.{stands_itself, stands_left, goes_further}
use Rattle.qs_world_refine.proofs.SoundKnown.{same_is}
use Rattle.qs_world_refine.proofs.SoundSettle.{settle_tid_sound}

own_turn : (tid : Tid) (scene : Scene) (n : ℕ) (work : Work) (w : World) → Stands tid scene n work w → GoesOn tid scene n (settle_tid work tid) w
own_turn tid scene n work w is =
    let passed = try_stands tid scene n pass_rule (pass_stands tid scene n) work w is in
    let readied = try_stands tid scene n ready_rule (ready_stands tid scene n) (try tid pass_rule work) passed.next passed.stands in
    let refused = try_stands tid scene n refuse_rule (refuse_stands tid scene n) (try tid ready_rule (try tid pass_rule work)) readied.next readied.stands in
    goes_further tid scene n (settle_tid work tid) w passed.next passed.leads
    (goes_further tid scene n (settle_tid work tid) passed.next readied.next readied.leads
    (goes_further tid scene n (settle_tid work tid) readied.next refused.next refused.leads
    (try_stands tid scene n forget_rule (forget_stands tid scene n) (try tid refuse_rule (try tid ready_rule (try tid pass_rule work))) refused.next refused.stands)))

pub settle_tid_goes : SettleTidGoes
settle_tid_goes t tid scene n work w is = by (same_tid t tid) refl
  where
    by : (b : Bool) → same_tid t tid ≡ b → GoesOn t scene n (settle_tid work tid) w
    by true same = subst (λ (k : Tid). GoesOn t scene n (settle_tid work k) w) (same_is t tid same) (own_turn t scene n work w is)
    by false apart = record {
      next = w;
      leads = record { events = []; run = refl };
      stands = stands_left t scene n work (settle_tid work tid) w (settle_leaves t tid apart work) (settle_tid_sound work tid is.sound) (settle_kinds tid work is.kinds) is;
    }

pub settle_goes : SettleGoes
settle_goes t scene n work w is = each (due_tids work) work w is
  where
    each : (tids : List Tid) (work : Work) (w : World) → Stands t scene n work w → GoesOn t scene n (fold settle_tid work tids) w
    each [] work w is = stands_itself t scene n work w is
    each (tid ∷ tids) work w is =
        let first = settle_tid_goes t tid scene n work w is in
        goes_further t scene n (fold settle_tid work (tid ∷ tids)) w first.next first.leads (each tids (settle_tid work tid) first.next first.stands)
