-- A request is handed up, and Covered goes back to where it came from.
use Rattle.qs_world_refine.proofs.Words.{◌≡◌, ◌≢◌, ℕ, ◌==◌, Bool, true, false, List, [], ◌∷◌, ◌++◌, refl, sym, subst, ap, ◌∙◌, if◌then◌else◌, Tid, Message, Work, Face, Said, Closed, node_no, said, all_said, face_at, sight_returned, Scene, said_during, unmet_during, sight_during, ShowsWork, handed, Sight, ShowsSight}
use Rattle.qs_world_agree.specs.World.{World}
use Rattle.qs_world_refine.specs.Sights.{with_at4}
use Rattle.qs_world_refine.proofs.Alike.{SameFace, same_itself, sight_alike}
use Rattle.qs_world_refine.proofs.During.{Quiet, said_same, unmet_same, found_same}
use Rattle.qs_world_refine.proofs.Handing.{handed_said}
use Rattle.qs_world_refine.proofs.Posting.{sent_work}
use Rattle.qs_world_refine.proofs.Sending.{said_more, unmet_same as unmet_still}
use Rattle.qs_world_refine.proofs.Still.{at_four, four_here, four_apart}

module _ (tid : Tid) (scene : Scene) (n m number : ℕ) (back : Message) (rest : List Message) (work mid : Work) (w : World) (quiet : Quiet tid work mid)
    (other : m ≢ n) (known : (scene.knows n m == 0) ≡ false) (says : said tid back ≡ Closed number [] ∷ []) where
  abbrev x : Sight
  x = sight_during tid scene n work

  abbrev j : ℕ
  j = scene.knows n m

  abbrev later : Scene
  later = handed scene m j n rest

  abbrev sent : Work
  sent = sent_work (node_no m) back mid

  -- what was on its way before it was sent
  abbrev taken : ℕ → ℕ → ℕ → ℕ → List Said
  taken = with_at4 x.said m j n (x.inc n) (all_said tid rest)

  taken_is : (a k b l : ℕ) → said_during tid later n mid.out.messages a k b l ≡ taken a k b l
  taken_is a k b l = handed_said tid scene n m j rest mid.out.messages other a k b l
      ∙ at_four (λ (a k b l : ℕ) (s : List Said). s ≡ taken a k b l) (said_during tid scene n mid.out.messages) m j n (scene.inc n) (all_said tid rest)
      (sym (four_here x.said m j n (scene.inc n) (all_said tid rest))) a k b l
      (λ apart. said_same tid scene n work mid w quiet a k b l ∙ sym (four_apart x.said m j n (scene.inc n) (all_said tid rest) a k b l apart))

  -- on the link back nothing was taken
  back_is : taken n (scene.inc n) m j ≡ x.said n (x.inc n) m j
  back_is = four_apart x.said m j n (scene.inc n) (all_said tid rest) n (scene.inc n) m j (λ is _ _ _. other (sym is))

  said_now : (a k b l : ℕ) → said_during tid later n sent.out.messages a k b l ≡ with_at4 taken n (x.inc n) m j (x.said n (x.inc n) m j ++ Closed number [] ∷ []) a k b l
  said_now a k b l =
      said_more tid later n (node_no m) back mid.out.messages known a k b l
      ∙ at_four (λ (a k b l : ℕ) (s : List Said). s ≡ with_at4 taken n (x.inc n) m j (x.said n (x.inc n) m j ++ Closed number [] ∷ []) a k b l) (said_during tid later n mid.out.messages) n (scene.inc n) m j (said_during tid later n mid.out.messages n (scene.inc n) m j ++ said tid back)
      (here ∙ sym (four_here taken n (x.inc n) m j (x.said n (x.inc n) m j ++ Closed number [] ∷ [])))
      a k b l
      (λ apart. taken_is a k b l ∙ sym (four_apart taken n (x.inc n) m j (x.said n (x.inc n) m j ++ Closed number [] ∷ []) a k b l apart))
    where
      here : said_during tid later n mid.out.messages n (scene.inc n) m j ++ said tid back ≡ x.said n (x.inc n) m j ++ Closed number [] ∷ []
      here = ap (λ (s : List Said). s ++ said tid back) (taken_is n (scene.inc n) m j ∙ back_is) ∙ ap (λ (s : List Said). x.said n (x.inc n) m j ++ s) says

  unmet_now : (a b : ℕ) → unmet_during tid later n sent.out.messages a b ≡ x.unmet a b
  unmet_now a b = unmet_still tid later n (node_no m) back mid.out.messages known a b ∙ unmet_same tid scene n work mid w quiet a b

  returned_known : (f : Face) → ShowsSight tid (sight_returned x n m j number f (all_said tid rest)) w → SameFace f (face_at mid.node tid) → ShowsWork tid later n sent w
  returned_known f shown same = sight_alike tid (sight_returned x n m j number f (all_said tid rest)) (sight_during tid later n sent) w
      (record { size = refl; inc = refl; up = refl; knows = refl; face = faces; said = said_now; unmet = unmet_now; found = found_same tid scene n work mid w quiet }) shown
    where
      faces : (k : ℕ) → SameFace (if k == n then f else x.face k) ((sight_during tid scene n mid).face k)
      faces k = by (k == n)
        where
          by : (b : Bool) → SameFace (if b then f else (if b then face_at work.node tid else face_at (scene.node k) tid)) (if b then face_at mid.node tid else face_at (scene.node k) tid)
          by true = same
          by false = same_itself (face_at (scene.node k) tid)

  pub returned_shown : (i : ℕ) → scene.knows n m ≡ i → (f : Face) → ShowsSight tid (sight_returned x n m i number f (all_said tid rest)) w → SameFace f (face_at mid.node tid) → ShowsWork tid (handed scene m i n rest) n sent w
  returned_shown i is f shown same =
      subst (λ (z : ℕ). ShowsSight tid (sight_returned x n m z number f (all_said tid rest)) w → ShowsWork tid (handed scene m z n rest) n sent w) is (λ before. returned_known f before same) shown
