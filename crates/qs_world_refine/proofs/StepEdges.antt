-- What shows the world shows the work as a step begins, and the other way round as it ends.
use Rattle.qs_world_refine.proofs.Words.{◌≡◌, ℕ, ◌==◌, ◌&&◌, not, Bool, true, false, List, [], ◌++◌, refl, if◌then◌else◌, filter, eqb-true, Message, recovery, is_forced, work_on, accept, Said, all_said, face_at, sight, sight_during, said_during, unmet_during}
use Rattle.qs_world_refine.specs.Shows.{sent_to}
use Rattle.qs_world_refine.specs.StepLaws.{StepBegins, stepped, StepEnds}
use Rattle.qs_world_refine.proofs.Alike.{SameFace, SameFound, same_itself, found_itself, sight_alike}
use Rattle.qs_world_refine.proofs.Reading.{face_for}
use Rattle.qs_world_refine.proofs.Sending.{append_nil, said_append}

pub step_begins : StepBegins
step_begins tid scene n free w shown = sight_alike tid (sight tid scene) (sight_during tid scene n (work_on (scene.node n) free)) w
    (record { size = refl; inc = refl; up = refl; knows = refl; face = λ k. by k (k == n) refl; said = said_is; unmet = unmet_is; found = λ k. found_by k (k == n) refl }) shown
  where
    by : (k : ℕ) (b : Bool) → (k == n) ≡ b → SameFace (face_at (scene.node k) tid) (if b then face_at (scene.node n) tid else face_at (scene.node k) tid)
    by k true is = rw (eqb-true k n is) (same_itself (face_at (scene.node n) tid))
    by k false is = same_itself (face_at (scene.node k) tid)

    nothing : (t : Bool) (list : List Said) → (if t then list ++ [] else list) ≡ list
    nothing true list = append_nil list
    nothing false list = refl

    said_is : (a k b l : ℕ) → said_during tid scene n [] a k b l ≡ all_said tid (scene.pending a k b l)
    said_is a k b l = nothing ((a == n) && ((k == scene.inc n) && ((l == scene.knows n b) && not (l == 0)))) (all_said tid (scene.pending a k b l))

    unmet_is : (a b : ℕ) → unmet_during tid scene n [] a b ≡ all_said tid (scene.unmet a b)
    unmet_is a b = nothing ((a == n) && (scene.knows n b == 0)) (all_said tid (scene.unmet a b))

    found_by : (k : ℕ) (b : Bool) → (k == n) ≡ b → SameFound tid (recovery (scene.log k)) (if b then recovery (scene.log n ++ []) else recovery (scene.log k))
    found_by k true is = rw (eqb-true k n is, append_nil (scene.log n)) (found_itself tid (recovery (scene.log n)))
    found_by k false is = found_itself tid (recovery (scene.log k))

pub step_ends : StepEnds
step_ends tid scene n work log w shown says = sight_alike tid (sight_during tid scene n work) (sight tid (stepped scene n work log)) w
    (record { size = refl; inc = refl; up = refl; knows = refl; face = λ k. by k (k == n); said = said_is; unmet = unmet_is; found = λ k. found_by k (k == n) }) shown
  where
    by : (k : ℕ) (b : Bool) → SameFace (if b then face_at work.node tid else face_at (scene.node k) tid) (face_at (if b then accept work.node else scene.node k) tid)
    by k true = face_for tid work.node (accept work.node) (record { around = record { setting = refl; waits = λ s. refl; loans = refl; past = refl }; part = refl })
    by k false = same_itself (face_at (scene.node k) tid)

    split : (t : Bool) (list more : List Message) → all_said tid (if t then list ++ more else list) ≡ (if t then all_said tid list ++ all_said tid more else all_said tid list)
    split true list more = said_append tid list more
    split false list more = refl

    said_is : (a k b l : ℕ) → all_said tid ((stepped scene n work log).pending a k b l) ≡ said_during tid scene n work.out.messages a k b l
    said_is a k b l = split ((a == n) && ((k == scene.inc n) && ((l == scene.knows n b) && not (l == 0)))) (scene.pending a k b l) (sent_to b work.out.messages)

    unmet_is : (a b : ℕ) → all_said tid ((stepped scene n work log).unmet a b) ≡ unmet_during tid scene n work.out.messages a b
    unmet_is a b = split ((a == n) && (scene.knows n b == 0)) (scene.unmet a b) (sent_to b work.out.messages)

    found_by : (k : ℕ) (b : Bool) → SameFound tid (if b then recovery (scene.log n ++ filter is_forced work.out.records) else recovery (scene.log k)) (recovery (if b then log else scene.log k))
    found_by k true = record { prepared = says.prepared; committed = says.committed; unended = says.unended; named = says.named }
    found_by k false = found_itself tid (recovery (scene.log k))
