-- What is seen of a transaction after a restart and a first meeting, from what was seen before it.
use Rattle.qs_world_refine.proofs.Words.{◌≡◌, inl, inr, ℕ, ◌<◌, ◌≤◌, ◌==◌, ◌&&◌, ◌||◌, Bool, true, false, List, [], ◌++◌, drop, length, map, refl, sym, ap, ◌∙◌, if◌then◌else◌, eqb-true, Tid, recovery, risen_host, reopened, risen, Parcel, all_said, IsSeated, face_at, sight_risen_as, message_of, scene_of, sight, Sight, ShowsSight}
use Rattle.qs_restart.specs.declared.recovered.Recovered.{Recovered}
use Rattle.qs_world.specs.Moves.{met}
use Rattle.qs_world.specs.World.{World}
use Rattle.qs_world_agree.specs.World as machine
use Rattle.qs_world_refine.specs.MeetingLaws.{sight_met}
use Rattle.qs_world_refine.specs.Sights.{with_at4}
use Rattle.qs_world_refine.proofs.Alike.{SameFace, SameFound, same_itself, found_itself, sight_alike}
use Rattle.qs_world_refine.proofs.Channelled.{four_at}
use Rattle.qs_world_refine.proofs.Moving.{drop_none, none_before, knows_as}
use Rattle.qs_world_refine.proofs.Still.{four_here, four_apart}

-- nothing is on its way where nothing was posted
nothing_left : (tid : Tid) (front whole : List Parcel) → whole ≡ [] → all_said tid (map message_of (drop (length front) whole)) ≡ []
nothing_left tid front whole none = ap (λ (l : List Parcel). all_said tid (map message_of l)) (drop_none front whole none)

-- ---- a restart

pub seen_risen : (tid : Tid) (world : World) (n stamp inc : ℕ) (found : Recovered) (w : machine.World) → IsSeated world → world.channels.inc n < inc
    → ShowsSight tid (sight_risen_as (sight tid (scene_of world)) n inc (face_at (reopened inc found (world.hosts n).node) tid)) w → ShowsSight tid (sight tid (scene_of (risen world n stamp inc found))) w
seen_risen tid world n stamp inc found w seated later shown = sight_alike tid (record x { knows = after.knows }) after w
    (record { size = refl; inc = refl; up = refl; knows = refl; face = λ k. face k (k == n); said = said; unmet = λ a b. unmet a b (a == n); found = λ k. found_at k (k == n) refl })
    (knows_as tid x w after.knows (λ a b. knows a b (a == n)) shown)
  where
    x : Sight
    x = sight_risen_as (sight tid (scene_of world)) n inc (face_at (reopened inc found (world.hosts n).node) tid)

    after : Sight
    after = sight tid (scene_of (risen world n stamp inc found))

    knows : (a b : ℕ) (c : Bool) → (if c then (λ (m : ℕ). 0) else world.channels.peer a) b ≡ (if c then 0 else world.channels.peer a b)
    knows a b true = refl
    knows a b false = refl

    face : (k : ℕ) (b : Bool) → SameFace (if b then face_at (reopened inc found (world.hosts n).node) tid else face_at (world.hosts k).node tid) (face_at (if b then risen_host stamp inc found (world.hosts n) else world.hosts k).node tid)
    face k true = same_itself (face_at (reopened inc found (world.hosts n).node) tid)
    face k false = same_itself (face_at (world.hosts k).node tid)

    said_at : (a i b j : ℕ) (c d e f : Bool) → (a == n) ≡ c → (i == inc) ≡ d → (b == n) ≡ e → (j == inc) ≡ f
        → all_said tid ((scene_of world).pending a i b j) ≡ (if (c && d) || (e && f) then [] else all_said tid ((scene_of world).pending a i b j))
    said_at a i b j true true e f p q r s = nothing_left tid (world.channels.handed a b i j) (world.channels.posted a b i j) (seated.unborn a b i j (inl (rw (eqb-true a n p, eqb-true i inc q) later)))
    said_at a i b j true false true true p q r s = nothing_left tid (world.channels.handed a b i j) (world.channels.posted a b i j) (seated.unborn a b i j (inr (rw (eqb-true b n r, eqb-true j inc s) later)))
    said_at a i b j false d true true p q r s = nothing_left tid (world.channels.handed a b i j) (world.channels.posted a b i j) (seated.unborn a b i j (inr (rw (eqb-true b n r, eqb-true j inc s) later)))
    said_at a i b j true false true false p q r s = refl
    said_at a i b j true false false f p q r s = refl
    said_at a i b j false d true false p q r s = refl
    said_at a i b j false d false f p q r s = refl

    said : (a i b j : ℕ) → all_said tid ((scene_of world).pending a i b j) ≡ (if ((a == n) && (i == inc)) || ((b == n) && (j == inc)) then [] else all_said tid ((scene_of world).pending a i b j))
    said a i b j = said_at a i b j (a == n) (i == inc) (b == n) (j == inc) refl refl refl refl

    unmet : (a b : ℕ) (c : Bool) → all_said tid (map message_of ((if c then (λ (m : ℕ). []) else world.channels.waits a) b)) ≡ (if c then [] else all_said tid (map message_of (world.channels.waits a b)))
    unmet a b true = refl
    unmet a b false = refl

    found_at : (k : ℕ) (b : Bool) → (k == n) ≡ b → SameFound tid (recovery (world.hosts k).log) (recovery (if b then risen_host stamp inc found (world.hosts n) else world.hosts k).log)
    found_at k true is = rw (eqb-true k n is) (found_itself tid (recovery (world.hosts n).log))
    found_at k false is = found_itself tid (recovery (world.hosts k).log)

-- ---- a first meeting

pub seen_met : (tid : Tid) (world : World) (n stamp m first : ℕ) (w : machine.World) → IsSeated world → world.channels.peer n m ≡ 0 → 1 ≤ first
    → ShowsSight tid (sight_met (sight tid (scene_of world)) n m first) w → ShowsSight tid (sight tid (scene_of (met world n stamp m first))) w
seen_met tid world n stamp m first w seated unknown some shown = sight_alike tid (record x { knows = after.knows }) after w
    (record { size = refl; inc = refl; up = refl; knows = refl; face = λ k. face k (k == n) refl; said = said; unmet = λ a b. unmet a b (a == n) (b == m); found = λ k. found_at k (k == n) refl })
    (knows_as tid x w after.knows (λ a b. knows a b (a == n) (b == m)) shown)
  where
    x : Sight
    x = sight_met (sight tid (scene_of world)) n m first

    after : Sight
    after = sight tid (scene_of (met world n stamp m first))

    knows : (a b : ℕ) (c d : Bool) → (if c then (if d then first else world.channels.peer a b) else world.channels.peer a b) ≡ (if c && d then first else world.channels.peer a b)
    knows a b true d = refl
    knows a b false d = refl

    face : (k : ℕ) (b : Bool) → (k == n) ≡ b → SameFace (face_at (world.hosts k).node tid) (face_at (if b then record (world.hosts n) { stamp = stamp } else world.hosts k).node tid)
    face k true is = rw (eqb-true k n is) (same_itself (face_at (world.hosts n).node tid))
    face k false is = same_itself (face_at (world.hosts k).node tid)

    found_at : (k : ℕ) (b : Bool) → (k == n) ≡ b → SameFound tid (recovery (world.hosts k).log) (recovery (if b then record (world.hosts n) { stamp = stamp } else world.hosts k).log)
    found_at k true is = rw (eqb-true k n is) (found_itself tid (recovery (world.hosts n).log))
    found_at k false is = found_itself tid (recovery (world.hosts k).log)

    -- nothing was posted for that incarnation before
    fresh : world.channels.posted n m (world.channels.inc n) first ≡ []
    fresh = seated.unknown n m first (rw unknown some)

    untaken : world.channels.handed n m (world.channels.inc n) first ≡ []
    untaken = let all = seated.ordered n m (world.channels.inc n) first in none_before (world.channels.handed n m (world.channels.inc n) first) all.0 (sym fresh ∙ all.1)

    put : map message_of (drop (length (world.channels.handed n m (world.channels.inc n) first)) (world.channels.posted n m (world.channels.inc n) first ++ world.channels.waits n m)) ≡ map message_of (world.channels.waits n m)
    put = rw (untaken, fresh) refl

    said : (a i b j : ℕ) → after.said a i b j ≡ x.said a i b j
    said a i b j = four_at (λ (l : List Parcel). all_said tid (map message_of (drop (length (world.channels.handed a b i j)) l)) ≡ with_at4 (sight tid (scene_of world)).said n (world.channels.inc n) m first (all_said tid (map message_of (world.channels.waits n m))) a i b j)
        world.channels.posted n m (world.channels.inc n) first (world.channels.posted n m (world.channels.inc n) first ++ world.channels.waits n m) a b i j
        (λ is. rw (is.first, is.second, is.third, is.fourth) (ap (all_said tid) put ∙ sym (four_here (sight tid (scene_of world)).said n (world.channels.inc n) m first (all_said tid (map message_of (world.channels.waits n m))))))
        (λ apart. sym (four_apart (sight tid (scene_of world)).said n (world.channels.inc n) m first (all_said tid (map message_of (world.channels.waits n m))) a i b j (λ p q r s. apart (record { first = p; second = r; third = q; fourth = s }))))

    unmet : (a b : ℕ) (c d : Bool) → all_said tid (map message_of (if c then (if d then [] else world.channels.waits a b) else world.channels.waits a b)) ≡ (if c && d then [] else all_said tid (map message_of (world.channels.waits a b)))
    unmet a b true true = refl
    unmet a b true false = refl
    unmet a b false d = refl
