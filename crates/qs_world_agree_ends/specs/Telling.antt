-- What is told of the outcome, and what may happen then.
use Rattle.std.specs.Prelude.{◌≡◌, ◌≢◌, ◌⊎◌, ℕ, true}
use Rattle.qs_world_agree.specs.World.{Committed, Aborted, World}
use Rattle.qs_world_agree.specs.Guards.{drawn, names, IsTold}
use Rattle.qs_world_agree.specs.Step.{Event, Tell, Learn, Acknowledge, Tell_abort, Learn_abort, Step}
use Rattle.qs_world_agree.specs.Laws.{IsReached}
use Rattle.qs_world_agree.specs.Carry.{Leads}

-- the event may happen
abbrev pub May : Event → World → Type 0
May e w = (v : World) × Step e w v

-- ---- a commit

-- while a Commit has no End, the running place of the home's node may tell anybody
abbrev pub CommitMayBeTold : Type 0
CommitMayBeTold = (w : World) (h n : ℕ) → IsReached w → w.unended ≡ true → w.up h ≡ true → w.node h ≡ w.node w.home → May (Tell h n) w

-- who is told learns it, or acknowledges
abbrev pub ToldMayAnswer : Type 0
ToldMayAnswer = (w : World) (q : ℕ) → IsReached w → IsTold w q (w.tell_commit (w.node q)) → May (Learn q) w ⊎ May (Acknowledge q) w

-- who knows it, at another node than the home's, has put its Told
abbrev pub LearntIsAnswered : Type 0
LearntIsAnswered = (w : World) (q : ℕ) → IsReached w → w.outcome q ≡ Committed → w.node q ≢ w.node w.home → w.ack_put q ≡ true

-- ---- an abort

-- whom a place is to tell it may tell, while it runs
abbrev pub AbortMayBeTold : Type 0
AbortMayBeTold = (w : World) (h n : ℕ) → IsReached w → w.up h ≡ true → w.to_tell h n ≡ true → May (Tell_abort h n) w

-- who is told knows it, or may learn it
abbrev pub ToldMayLearn : Type 0
ToldMayLearn = (w : World) (q : ℕ) → IsReached w → IsTold w q (w.tell_abort (w.node q)) → (w.outcome q ≡ Aborted) ⊎ May (Learn_abort q) w

-- who was to be told stays so
abbrev pub ToTellStays : Type 0
ToTellStays = (w v : World) (h n : ℕ) → IsReached w → Leads w v → w.to_tell h n ≡ true → v.to_tell h n ≡ true

-- whomever the home had drawn in before it decided abort, it is to tell
abbrev pub DrawnAreToTell : Type 0
DrawnAreToTell = (w v : World) (n : ℕ) → IsReached w → Leads w v → w.outcome w.home ≢ Aborted → v.outcome w.home ≡ Aborted → drawn w w.home n ≡ true → v.to_tell w.home n ≡ true

-- whomever another place had drawn in before it learnt abort, its Told names
abbrev pub DrawnAreNamed : Type 0
DrawnAreNamed = (w v : World) (q n : ℕ) → IsReached w → Leads w v → w.node q ≢ w.node w.home → w.outcome q ≢ Aborted → v.outcome q ≡ Aborted → names w q n ≡ true → v.named q n ≡ true
