-- Scenes after a message was handed up, and after a restart was noticed, are the same to all that is seen.
use Rattle.qs_world_refine.proofs.Words.{◌≡◌, ℕ, ◌==◌, ◌&&◌, not, Bool, true, false, List, [], ◌∷◌, ◌++◌, drop, length, map, Option, refl, sym, ap, subst, if◌then◌else◌, Tid, Channels, Message, Record, Work, Noticed, hand_next, Parcel, all_said, taken_scene, noticed, message_of, scene_of, handed, sight, Shows, Sight, rest_behind}
use Rattle.qs_session_channels.specs.Channels as channel
use Rattle.qs_world.specs.World.{World}
use Rattle.qs_world_agree.specs.World as machine
use Rattle.qs_world_refine.specs.Shows.{sent_to}
use Rattle.qs_world_refine.specs.Sights.{with_at4}
use Rattle.qs_world_refine.specs.StepLaws.{stepped}
use Rattle.qs_world_refine.specs.TakenLaws.{HandedTaken, NoticedTaken}
use Rattle.qs_world_refine.proofs.Alike.{same_itself, found_itself, sight_alike}
use Rattle.qs_world_refine.proofs.Channelled.{four_at}
use Rattle.qs_world_refine.proofs.Moving.{knows_as}
use Rattle.qs_world_refine.proofs.Still.{four_here, four_apart}

module _ (tid : Tid) (world : World) (n m : ℕ) (parcel : Parcel) (work : Work) (log : List Record) (w : machine.World) where
  abbrev after : World
  after = record world { channels = channel.moved (channel.Hand n m parcel) world.channels }

  -- what is on its way
  left : (p k q l : ℕ) → (scene_of after).pending p k q l ≡ (handed (scene_of world) m (world.channels.peer n m) n (rest_behind world n m parcel)).pending p k q l
  left p k q l = four_at (λ (h : List Parcel). map message_of (drop (length h) (world.channels.posted p q k l)) ≡ with_at4 (scene_of world).pending m (world.channels.peer n m) n (world.channels.inc n) (rest_behind world n m parcel) p k q l)
      world.channels.handed m n (world.channels.peer n m) (world.channels.inc n) (world.channels.handed m n (world.channels.peer n m) (world.channels.inc n) ++ parcel ∷ []) p q k l
      (λ is. rw (is.first, is.second, is.third, is.fourth) (sym (four_here (scene_of world).pending m (world.channels.peer n m) n (world.channels.inc n) (rest_behind world n m parcel))))
      (λ apart. sym (four_apart (scene_of world).pending m (world.channels.peer n m) n (world.channels.inc n) (rest_behind world n m parcel) p k q l (λ a b c d. apart (record { first = a; second = c; third = b; fourth = d }))))

  pub hand_taken : Shows tid (stepped (handed (scene_of world) m (world.channels.peer n m) n (rest_behind world n m parcel)) n work log) w → Shows tid (stepped (scene_of after) n work log) w
  hand_taken shown = sight_alike tid (sight tid (stepped (handed (scene_of world) m (world.channels.peer n m) n (rest_behind world n m parcel)) n work log)) (sight tid (stepped (scene_of after) n work log)) w
      (record {
        size = refl;
        inc = refl;
        up = refl;
        knows = refl;
        face = λ k. same_itself ((sight tid (stepped (scene_of after) n work log)).face k);
        said = λ p k q l. ap (λ (list : List Message). all_said tid (if (p == n) && ((k == world.channels.inc n) && ((l == world.channels.peer n q) && not (l == 0))) then list ++ sent_to q work.out.messages else list)) (left p k q l);
        unmet = λ p q. refl;
        found = λ k. found_itself tid ((sight tid (stepped (scene_of after) n work log)).found k);
      }) shown

pub handed_taken : HandedTaken
handed_taken tid world n m parcel work log w next shown = subst (λ (o : Option Parcel). Shows tid (stepped (scene_of (record world { channels = hand_next n m o world.channels })) n work log) w) (sym next) (hand_taken tid world n m parcel work log w shown)

pub noticed_taken : NoticedTaken
noticed_taken tid world n m new work log w shown = sight_alike tid (record x { knows = y.knows }) y w
    (record {
      size = refl;
      inc = refl;
      up = refl;
      knows = refl;
      face = λ k. same_itself (y.face k);
      said = λ p k q l. ap (λ (i : ℕ). all_said tid (if (p == n) && ((k == world.channels.inc n) && ((l == i) && not (l == 0))) then (scene_of world).pending p k q l ++ sent_to q work.out.messages else (scene_of world).pending p k q l)) (knows n q);
      unmet = λ p q. ap (λ (i : ℕ). all_said tid (if (p == n) && (i == 0) then (scene_of world).unmet p q ++ sent_to q work.out.messages else (scene_of world).unmet p q)) (knows n q);
      found = λ k. found_itself tid (y.found k);
    }) (knows_as tid x w y.knows knows shown)
  where
    x : Sight
    x = sight tid (stepped (noticed (scene_of world) n m new) n work log)

    y : Sight
    y = sight tid (stepped (taken_scene world n (Noticed m new)) n work log)

    knows : (a b : ℕ) → y.knows a b ≡ x.knows a b
    knows a b = by (a == n) (b == m)
      where
        by : (c d : Bool) → (if c then (if d then new else world.channels.peer a b) else world.channels.peer a b) ≡ (if c && d then new else world.channels.peer a b)
        by true d = refl
        by false d = refl
