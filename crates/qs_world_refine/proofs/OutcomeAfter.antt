-- What stands of a transaction after a message about it came.
use Rattle.qs_world_refine.proofs.Words.{◌≡◌, ℕ, ◌≤◌, ◌==◌, ◌||◌, Bool, true, false, List, [], ◌∷◌, ◌++◌, Some, None, is_some, refl, sym, ap, ◌∙◌, if◌then◌else◌, filter, NodeNo, Tid, Message, Record, recovery, Participant, is_other, is_forced, send, Work, part_of, node_no, Scene, handed, is_in_doubt, StaysSound, may_doubt, Stands, GoesOn, Goes, same_Some}
use Rattle.qs_world_agree.specs.World.{World}
use Rattle.qs_world_refine.proofs.During.{Leaves}
use Rattle.qs_world_refine.proofs.Facts.{lawful_on}
use Rattle.qs_world_refine.proofs.KindsKept.{KeepsKinds}
use Rattle.qs_world_refine.proofs.MessageStands.{handed_at}
use Rattle.qs_world_refine.proofs.SettleRules.{beside, IsClear, Answers}
use Rattle.std.proofs.lemmas.Option.{none-some}

-- ---- what stands after a message of its own

module _ (t : Tid) (scene : Scene) (n m i : ℕ) (rest : List Message) (work new : Work) (w : World) (is : Stands t scene n work w) (goes : Goes t (handed scene m i n rest) n new w) (left : Leaves (beside t) work new) (sound : StaysSound work new) (kinds : KeepsKinds work new) where
  unfoldable pub stands_after : IsClear t scene n new → Answers t scene n new → GoesOn t (handed scene m i n rest) n new w
  stands_after clear answers = record {
    next = goes.next;
    leads = goes.leads;
    stands = record {
      at = handed_at t scene n m i rest work new left is.at;
      home_in = is.home_in;
      sound = sound is.sound;
      kinds = kinds is.kinds;
      lawful = lawful_on w goes.next is.lawful goes.leads;
      shown = goes.shown;
      clear = clear;
      superior = answers;
    };
  }

  -- it is decided then
  unfoldable pub decided_after : (part : Participant) → part_of t new ≡ Some part → is_some part.outcome ≡ true → ((k : ℕ) → part.engage.superior ≡ Some (node_no k) → 1 ≤ scene.knows n k) → GoesOn t (handed scene m i n rest) n new w
  decided_after part known decided answers = stands_after
      (λ none s. absurd (off (is_some part.outcome) part.log.prepared decided (sym (ap (may_doubt (t.home.0 == n)) known) ∙ none)))
      (λ p k its has. answers k (ap (λ (q : Participant). q.engage.superior) (same_Some part p (sym known ∙ its)) ∙ has))
    where
      off : (a b : Bool) → a ≡ true → (a || b) ≡ false → ⊥
      off true b so none = cc none
      off false b so none = cc so

  -- it is not known still
  pub unknown_after : part_of t work ≡ None → part_of t new ≡ None → new.out.records ≡ work.out.records → GoesOn t (handed scene m i n rest) n new w
  unknown_after before none same = stands_after
      (λ clear s. ap (λ (rs : List Record). is_in_doubt t s (if n == n then recovery (scene.log n ++ filter is_forced rs) else recovery (scene.log n))) same ∙ is.clear (ap (may_doubt (t.home.0 == n)) (before ∙ sym none) ∙ clear) s)
      (λ p k its has. absurd (none-some p (sym none ∙ its)))

pub send_records : (to : NodeNo) (message : Message) (work : Work) → (send to message work).out.records ≡ work.out.records
send_records to message work = by (is_other work.node.setting to)
  where
    by : (b : Bool) → ◌≡◌ {A = List Record} (if b then record work { out = record work.out { messages = work.out.messages ++ record { to = to; message = message } ∷ [] } } else work).out.records work.out.records
    by true = refl
    by false = refl
