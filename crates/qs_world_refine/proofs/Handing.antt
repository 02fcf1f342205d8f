-- A message that is handed up is gone from its link.
use Rattle.qs_world_refine.proofs.Words.{◌≡◌, ◌≢◌, ℕ, ◌==◌, ◌&&◌, not, Bool, true, false, List, [], ◌++◌, arith, refl, sym, ap, ◌∙◌, if◌then◌else◌, eqb-true, nat_tests, Tid, Message, Sending, Work, Face, Said, said, all_said, face_at, Scene, said_during, sight_during, ShowsWork, handed, Sight, ShowsSight, IsNext}
use Rattle.qs_world_agree.specs.World.{World}
use Rattle.qs_world_refine.specs.Shows.{sent_to}
use Rattle.qs_world_refine.specs.Sights.{with_at4}
use Rattle.qs_world_refine.proofs.Alike.{SameFace, same_itself, sight_alike}
use Rattle.qs_world_refine.proofs.During.{Quiet, said_same, unmet_same, found_same, quiet_itself}
use Rattle.qs_world_refine.proofs.Still.{at_four}

-- what is on its way once it is
pub handed_said : (tid : Tid) (scene : Scene) (n m i : ℕ) (rest : List Message) (sendings : List Sending) → m ≢ n → (a k b l : ℕ)
    → said_during tid (handed scene m i n rest) n sendings a k b l ≡ with_at4 (said_during tid scene n sendings) m i n (scene.inc n) (all_said tid rest) a k b l
handed_said tid scene n m i rest sendings other a k b l =
    by (a == n) (a == m) (k == i) (b == n) (l == scene.inc n) ((k == scene.inc n) && ((l == scene.knows n b) && not (l == 0))) (λ one two. other (sym (eqb-true a m two) ∙ eqb-true a n one))
  where
    by : (an am ki bn li known : Bool) → (an ≡ true → am ≡ true → ⊥)
        → (if an && known then all_said tid (if am && (ki && (bn && li)) then rest else scene.pending a k b l) ++ all_said tid (sent_to b sendings) else all_said tid (if am && (ki && (bn && li)) then rest else scene.pending a k b l))
        ≡ (if am && (ki && (bn && li)) then all_said tid rest else (if an && known then all_said tid (scene.pending a k b l) ++ all_said tid (sent_to b sendings) else all_said tid (scene.pending a k b l)))
    by true true ki bn li known never = absurd (never refl refl)
    by false true true true true known never = refl
    by false true false bn li known never = refl
    by false true true false li known never = refl
    by false true true true false known never = refl
    by true false ki bn li known never = refl
    by false false ki bn li known never = refl

-- what its link says before
pub head_said : (tid : Tid) (scene : Scene) (n m i : ℕ) (message : Message) (rest : List Message) (sendings : List Sending) → IsNext scene n m i message rest
    → said_during tid scene n sendings m i n (scene.inc n) ≡ said tid message ++ all_said tid rest
head_said tid scene n m i message rest sendings next = by (m == n) (grind (arith, nat_tests, next.from.other))
  where
    by : (b : Bool) → b ≡ false
        → (if b && ((i == scene.inc n) && ((scene.inc n == scene.knows n n) && not (scene.inc n == 0))) then all_said tid (scene.pending m i n (scene.inc n)) ++ all_said tid (sent_to n sendings) else all_said tid (scene.pending m i n (scene.inc n)))
        ≡ said tid message ++ all_said tid rest
    by b e = rw e (ap (all_said tid) next.head)

module _ (tid : Tid) (scene : Scene) (n m i : ℕ) (message : Message) (rest : List Message) (work new : Work) (w : World) (next : IsNext scene n m i message rest) (quiet : Quiet tid work new) where
  abbrev x : Sight
  x = sight_during tid scene n work

  -- an event took it and changed the face of the node, and the node changed so
  pub taken_shown : (f : Face) → ShowsSight tid (record x { face = λ k. if k == n then f else x.face k; said = with_at4 x.said m i n (x.inc n) (all_said tid rest) }) w
      → SameFace f (face_at new.node tid) → ShowsWork tid (handed scene m i n rest) n new w
  taken_shown f shown same = sight_alike tid (record x { face = λ k. if k == n then f else x.face k; said = with_at4 x.said m i n (x.inc n) (all_said tid rest) }) (sight_during tid (handed scene m i n rest) n new) w
      (record { size = refl; inc = refl; up = refl; knows = refl; face = faces; said = said_now; unmet = unmet_same tid scene n work new w quiet; found = found_same tid scene n work new w quiet }) shown
    where
      faces : (k : ℕ) → SameFace (if k == n then f else x.face k) ((sight_during tid scene n new).face k)
      faces k = by (k == n)
        where
          by : (b : Bool) → SameFace (if b then f else (if b then face_at work.node tid else face_at (scene.node k) tid)) (if b then face_at new.node tid else face_at (scene.node k) tid)
          by true = same
          by false = same_itself (face_at (scene.node k) tid)

      said_now : (a k b l : ℕ) → said_during tid (handed scene m i n rest) n new.out.messages a k b l ≡ with_at4 x.said m i n (x.inc n) (all_said tid rest) a k b l
      said_now a k b l = handed_said tid scene n m i rest new.out.messages next.from.other a k b l ∙ at_four (λ (a k b l : ℕ) (s : List Said). s ≡ with_at4 x.said m i n (x.inc n) (all_said tid rest) a k b l) (said_during tid scene n new.out.messages) m i n (scene.inc n) (all_said tid rest) four_here a k b l four_there
        where
          four_here : all_said tid rest ≡ with_at4 x.said m i n (x.inc n) (all_said tid rest) m i n (scene.inc n)
          four_here = sym (Rattle.qs_world_refine.proofs.Still.four_here x.said m i n (scene.inc n) (all_said tid rest))

          four_there : (a ≡ m → k ≡ i → b ≡ n → l ≡ scene.inc n → ⊥) → said_during tid scene n new.out.messages a k b l ≡ with_at4 x.said m i n (x.inc n) (all_said tid rest) a k b l
          four_there apart = said_same tid scene n work new w quiet a k b l ∙ sym (Rattle.qs_world_refine.proofs.Still.four_apart x.said m i n (scene.inc n) (all_said tid rest) a k b l apart)

-- a message that says nothing of the transaction was handed up
pub handed_quiet : (tid : Tid) (scene : Scene) (n m i : ℕ) (message : Message) (rest : List Message) (work : Work) (w : World) → IsNext scene n m i message rest → said tid message ≡ []
    → ShowsWork tid scene n work w → ShowsWork tid (handed scene m i n rest) n work w
handed_quiet tid scene n m i message rest work w next nothing shown = sight_alike tid (sight_during tid scene n work) (sight_during tid (handed scene m i n rest) n work) w
    (record {
      size = refl;
      inc = refl;
      up = refl;
      knows = refl;
      face = λ k. same_itself ((sight_during tid scene n work).face k);
      said = λ a k b l. handed_said tid scene n m i rest work.out.messages next.from.other a k b l
          ∙ at_four (λ (a k b l : ℕ) (s : List Said). s ≡ said_during tid scene n work.out.messages a k b l) (said_during tid scene n work.out.messages) m i n (scene.inc n) (all_said tid rest) (sym (head_said tid scene n m i message rest work.out.messages next ∙ ap (λ (s : List Said). s ++ all_said tid rest) nothing)) a k b l (λ _. refl);
      unmet = λ a b. refl;
      found = found_same tid scene n work work w (quiet_itself tid work);
    }) shown
