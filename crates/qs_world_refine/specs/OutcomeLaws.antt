-- The laws of the events that decide a transaction, tell its outcome and end it, over all that is seen of it.
use Rattle.std.specs.Prelude.{◌≡◌, ◌≢◌, ℕ, ◌<◌, true, false, List, [], ◌∷◌}
use Rattle.qs_base.specs.declared.identifiers.NodeNo.{NodeNo}
use Rattle.qs_base.specs.declared.identifiers.Tid.{Tid}
use Rattle.qs_world_agree.specs.World.{World, Open, Committed, Aborted}
use Rattle.qs_world_agree.specs.Carry.{Leads, IsLawful}
use Rattle.qs_world_refine.specs.Links.{Said, Outcome_told, Taken_in}
use Rattle.qs_world_refine.specs.Places.{place}
use Rattle.qs_world_refine.specs.Sights.{Sight, ShowsSight}
use Rattle.qs_world_refine.specs.Seen.{FaceReady, Runs, Meets, SightGoes, sight_faced, sight_said, sight_taken, sight_committed}
use Rattle.qs_world_refine.specs.SeenOutcome.{aborted_face, forgotten_face, sight_waiting, ToldGoes}

-- ---- decisions

-- the home is ready, and its Commit is on the disk and names nobody: Commit, and End
abbrev pub CommitAloneGoes : Type 0
CommitAloneGoes = (tid : Tid) (x : Sight) (w : World) → IsLawful w → ShowsSight tid x w → Runs x tid.home.0 → x.inc tid.home.0 ≡ tid.inc
    → (x.face tid.home.0).is_home ≡ true → FaceReady (x.face tid.home.0) (place tid.home.0 (x.inc tid.home.0)) w → ((m : ℕ) → (x.face tid.home.0).told m ≡ false)
    → SightGoes tid (sight_committed tid x []) w

-- the home decides abort, for whatever cause: Abort
abbrev pub AbortGoes : Type 0
AbortGoes = (tid : Tid) (x : Sight) (w : World) → ShowsSight tid x w → Runs x tid.home.0 → x.inc tid.home.0 ≡ tid.inc
    → (x.face tid.home.0).is_home ≡ true → (x.face tid.home.0).outcome ≡ Open
    → SightGoes tid (sight_faced x tid.home.0 (aborted_face (x.face tid.home.0))) w

-- ---- an outcome is told, to a place that is known or to one that is to come

-- Tell
abbrev pub TellWaitsGoes : Type 0
TellWaitsGoes = (tid : Tid) (x : Sight) (w : World) (n m : ℕ) → ShowsSight tid x w → Runs x n → (x.face n).outcome ≡ Committed → n ≡ tid.home.0
    → SightGoes tid (sight_waiting x n m (x.face n) (Outcome_told true)) w

-- Tell_abort
abbrev pub TellAbortGoes : Type 0
TellAbortGoes = (tid : Tid) (x : Sight) (w : World) (n m i : ℕ) → ShowsSight tid x w → Runs x n → m < x.size → (x.face n).outcome ≡ Aborted → (x.face n).tell m ≡ true → n ≡ tid.home.0
    → SightGoes tid (sight_said x n m i (x.face n) (Outcome_told false)) w

abbrev pub TellAbortWaitsGoes : Type 0
TellAbortWaitsGoes = (tid : Tid) (x : Sight) (w : World) (n m : ℕ) → ShowsSight tid x w → Runs x n → (x.face n).outcome ≡ Aborted → (x.face n).tell m ≡ true → n ≡ tid.home.0
    → SightGoes tid (sight_waiting x n m (x.face n) (Outcome_told false)) w

-- ---- it was taken in

-- a Told comes where commit is known: Take_told
abbrev pub TakeToldGoes : Type 0
TakeToldGoes = (tid : Tid) (x : Sight) (w : World) (n m i : ℕ) (further : List NodeNo) (rest : List Said) → IsLawful w → ShowsSight tid x w → Runs x n → Meets x n m i
    → x.said m i n (x.inc n) ≡ Taken_in further ∷ rest → (x.face n).outcome ≡ Committed → n ≡ tid.home.0
    → ToldGoes tid (sight_taken x n m i (x.face n) rest) w m

-- ---- another node than the home forgets what it only read: Forget
abbrev pub ForgetGoes : Type 0
ForgetGoes = (tid : Tid) (x : Sight) (w : World) (n : ℕ) → IsLawful w → ShowsSight tid x w → Runs x n → tid.home.0 ≢ n → tid.home.0 < x.size
    → (x.face n).outcome ≡ Open → (x.face n).on ≡ false → (x.face n).involved ≡ false → ((m : ℕ) → (x.face n).told m ≡ false)
    → SightGoes tid (sight_faced x n (forgotten_face (x.face n))) w

-- whoever acknowledged a commit has done so as long as the home's node runs in the same incarnation
abbrev pub AcksStay : Type 0
AcksStay = (w v : World) → Leads w v → v.present (w.node w.home) ≡ w.present (w.node w.home) → (m : ℕ) → w.acknowledged m ≡ true → v.acknowledged m ≡ true
