-- A record of the transaction that is forced stands on the disk in the middle of the step.
use Rattle.qs_world_refine.proofs.Words.{◌≡◌, ℕ, ◌==◌, Bool, true, false, List, [], ◌∷◌, ◌++◌, refl, ap, ◌∙◌, arith, if◌then◌else◌, filter, nat_tests, Tid, Record, recovery, found_record, is_forced, Work, Face, face_at, Scene, sight_during, ShowsWork, Sight, ShowsSight}
use Rattle.qs_world_agree.specs.World.{World}
use Rattle.qs_world_refine.proofs.Alike.{SameFace, SameFound, same_itself, found_itself, sight_alike}
use Rattle.qs_world_refine.proofs.During.{forced_log, recovery_more}

module _ (tid : Tid) (scene : Scene) (n : ℕ) (rec : Record) (work new : Work) (w : World) (forced : is_forced rec ≡ true)
    (records : new.out.records ≡ work.out.records ++ rec ∷ []) (messages : new.out.messages ≡ work.out.messages) where
  abbrev x : Sight
  x = sight_during tid scene n work

  log_is : forced_log (scene.log n) new ≡ found_record (forced_log (scene.log n) work) rec
  log_is = ap (λ (list : List Record). recovery (scene.log n ++ filter is_forced list)) records ∙ recovery_more tid work rec (scene.log n) forced

  found_here : x.found n ≡ forced_log (scene.log n) work
  found_here = by (n == n) (grind (arith, nat_tests))
    where
      by : (b : Bool) → b ≡ true → (if b then forced_log (scene.log n) work else recovery (scene.log n)) ≡ forced_log (scene.log n) work
      by b e = rw e refl

  found_now : (k : ℕ) → SameFound tid (if k == n then found_record (x.found n) rec else x.found k) ((sight_during tid scene n new).found k)
  found_now k = by (k == n)
    where
      by : (b : Bool) → SameFound tid (if b then found_record (x.found n) rec else (if b then forced_log (scene.log n) work else recovery (scene.log k))) (if b then forced_log (scene.log n) new else recovery (scene.log k))
      by true = rw (log_is, found_here) (found_itself tid (found_record (forced_log (scene.log n) work) rec))
      by false = found_itself tid (recovery (scene.log k))

  -- an event changed the face of the node and its log, and the node changed so
  pub logged_shown : (f : Face) → ShowsSight tid (record x { face = λ k. if k == n then f else x.face k; found = λ k. if k == n then found_record (x.found n) rec else x.found k }) w
      → SameFace f (face_at new.node tid) → ShowsWork tid scene n new w
  logged_shown f shown same = sight_alike tid (record x { face = λ k. if k == n then f else x.face k; found = λ k. if k == n then found_record (x.found n) rec else x.found k }) (sight_during tid scene n new) w
      (record { size = refl; inc = refl; up = refl; knows = refl; face = faces; said = λ a k b l. rw messages refl; unmet = λ a b. rw messages refl; found = found_now }) shown
    where
      faces : (k : ℕ) → SameFace (if k == n then f else x.face k) ((sight_during tid scene n new).face k)
      faces k = by (k == n)
        where
          by : (b : Bool) → SameFace (if b then f else (if b then face_at work.node tid else face_at (scene.node k) tid)) (if b then face_at new.node tid else face_at (scene.node k) tid)
          by true = same
          by false = same_itself (face_at (scene.node k) tid)
