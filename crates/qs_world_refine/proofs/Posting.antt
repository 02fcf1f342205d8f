-- A message of the transaction is sent: it stands on its link, or waits where no incarnation of the other node is known.
use Rattle.qs_world_refine.proofs.Words.{◌≡◌, ℕ, ◌≤◌, ◌==◌, Bool, true, false, List, [], ◌∷◌, ◌++◌, arith, refl, sym, subst, ap, ◌∙◌, if◌then◌else◌, nat_tests, NodeNo, Tid, Message, is_other, send, Work, Face, Said, said, face_at, Scene, said_during, unmet_during, sight_during, ShowsWork, Sight, ShowsSight}
use Rattle.qs_world_agree.specs.World.{World}
use Rattle.qs_world_refine.specs.Sights.{with_at4}
use Rattle.qs_world_refine.proofs.Alike.{SameFace, same_itself, sight_alike}
use Rattle.qs_world_refine.proofs.During.{Quiet, said_same, unmet_same, found_same}
use Rattle.qs_world_refine.proofs.Sending.{said_more, unmet_same as unmet_still}
use Rattle.qs_world_refine.proofs.Still.{at_four, four_here, four_apart}

-- once it is sent
abbrev pub sent_work : NodeNo → Message → Work → Work
sent_work to message work = record work { out = record work.out { messages = work.out.messages ++ record { to = to; message = message } ∷ [] } }

pub send_is : (to : NodeNo) (message : Message) (work : Work) → is_other work.node.setting to ≡ true → send to message work ≡ sent_work to message work
send_is to message work other = rw other refl

module _ (tid : Tid) (scene : Scene) (n : ℕ) (to : NodeNo) (message : Message) (what : Said) (work mid : Work) (w : World) (quiet : Quiet tid work mid) (says : said tid message ≡ what ∷ []) where
  abbrev x : Sight
  x = sight_during tid scene n work

  abbrev posted : Work
  posted = sent_work to message mid

  -- what is seen where it was put on the link to node m in incarnation i
  abbrev pub put_on : Face → ℕ → ℕ → Sight
  put_on f m i = record x { face = λ k. if k == n then f else x.face k; said = with_at4 x.said n (x.inc n) m i (x.said n (x.inc n) m i ++ what ∷ []) }

  module _ (known : (scene.knows n to.0 == 0) ≡ false) where
    abbrev j : ℕ
    j = scene.knows n to.0

    said_now : (a k b l : ℕ) → said_during tid scene n posted.out.messages a k b l ≡ with_at4 x.said n (x.inc n) to.0 j (x.said n (x.inc n) to.0 j ++ what ∷ []) a k b l
    said_now a k b l =
        said_more tid scene n to message mid.out.messages known a k b l
        ∙ at_four (λ (a k b l : ℕ) (s : List Said). s ≡ with_at4 x.said n (x.inc n) to.0 j (x.said n (x.inc n) to.0 j ++ what ∷ []) a k b l) (said_during tid scene n mid.out.messages) n (scene.inc n) to.0 j (said_during tid scene n mid.out.messages n (scene.inc n) to.0 j ++ said tid message)
        (here ∙ sym (four_here x.said n (x.inc n) to.0 j (x.said n (x.inc n) to.0 j ++ what ∷ [])))
        a k b l
        (λ apart. said_same tid scene n work mid w quiet a k b l ∙ sym (four_apart x.said n (x.inc n) to.0 j (x.said n (x.inc n) to.0 j ++ what ∷ []) a k b l apart))
      where
        here : said_during tid scene n mid.out.messages n (scene.inc n) to.0 (scene.knows n to.0) ++ said tid message ≡ x.said n (x.inc n) to.0 (scene.knows n to.0) ++ what ∷ []
        here = ap (λ (s : List Said). s ++ said tid message) (said_same tid scene n work mid w quiet n (scene.inc n) to.0 (scene.knows n to.0)) ∙ ap (λ (s : List Said). x.said n (x.inc n) to.0 (scene.knows n to.0) ++ s) says

    unmet_now : (a b : ℕ) → unmet_during tid scene n posted.out.messages a b ≡ x.unmet a b
    unmet_now a b = unmet_still tid scene n to message mid.out.messages known a b ∙ unmet_same tid scene n work mid w quiet a b

    put_known : (f : Face) → ShowsSight tid (put_on f to.0 j) w → SameFace f (face_at mid.node tid) → ShowsWork tid scene n posted w
    put_known f shown same = sight_alike tid (put_on f to.0 j) (sight_during tid scene n posted) w
        (record { size = refl; inc = refl; up = refl; knows = refl; face = faces; said = said_now; unmet = unmet_now; found = found_same tid scene n work mid w quiet }) shown
      where
        faces : (k : ℕ) → SameFace (if k == n then f else x.face k) ((sight_during tid scene n posted).face k)
        faces k = by (k == n)
          where
            by : (b : Bool) → SameFace (if b then f else (if b then face_at work.node tid else face_at (scene.node k) tid)) (if b then face_at mid.node tid else face_at (scene.node k) tid)
            by true = same
            by false = same_itself (face_at (scene.node k) tid)

  -- an event put it on a link and changed the face of the node, and the node changed so
  pub put_shown : (m i : ℕ) → to.0 ≡ m → scene.knows n m ≡ i → 1 ≤ i → (f : Face) → ShowsSight tid (put_on f m i) w → SameFace f (face_at mid.node tid) → ShowsWork tid scene n posted w
  put_shown m i to_is knows some f shown same = put_known not_zero f (moved m i to.0 (scene.knows n to.0) (sym to_is) (sym knows_is) shown) same
    where
      knows_is : scene.knows n to.0 ≡ i
      knows_is = ap (λ (k : ℕ). scene.knows n k) to_is ∙ knows

      not_zero : (scene.knows n to.0 == 0) ≡ false
      not_zero = positive (scene.knows n to.0) knows_is
        where
          positive : (k : ℕ) → k ≡ i → (k == 0) ≡ false
          positive k is = grind (arith, nat_tests, is, some)

      moved : (p j q k : ℕ) → p ≡ q → j ≡ k → ShowsSight tid (put_on f p j) w → ShowsSight tid (put_on f q k) w
      moved p j q k e d s = subst (λ (z : ℕ). ShowsSight tid (put_on f z k) w) e (subst (λ (z : ℕ). ShowsSight tid (put_on f p z) w) d s)
