-- The laws of the events by which the home answers inquiries, and takes in whom an abort is to be told, over all that is seen of a transaction.
use Rattle.std.specs.Prelude.{◌≡◌, ◌≢◌, ◌⊎◌, ℕ, Bool, true, false, List, ◌∷◌, if◌then◌else◌}
use Rattle.qs_base.specs.declared.identifiers.Tid.{Tid}
use Rattle.qs_world_agree.specs.World.{World, Open, Committed, Aborted, with_at}
use Rattle.qs_world_agree.specs.Carry.{Leads}
use Rattle.qs_world_refine.specs.Faces.{Face}
use Rattle.qs_world_refine.specs.Links.{Said, Inquired}
use Rattle.qs_world_refine.specs.Seen.{Runs, Meets, SightGoes, sight_faced, sight_taken}
use Rattle.qs_world_refine.specs.Sights.{Sight, ShowsSight}

-- the home is to tell abort to one node more
abbrev pub telling_face : Face → ℕ → Face
telling_face f m = record f { outcome = Aborted; tell = with_at f.tell m true }

-- the home's node knows abort, or runs in a later incarnation, knows nothing, and so is to tell nobody
pub record MayTellAbort (tid : Tid) (x : Sight) (n : ℕ) : Type 0 where
  pub home : n ≡ tid.home.0
  pub may : ((x.face n).outcome ≡ Aborted) ⊎ (((x.face n).outcome ≡ Open) × (tid.inc ≢ x.inc n) × ((k : ℕ) → (x.face n).tell k ≡ false))

-- the machine goes on, and an outcome may be told to node m
pub record AnswerGoes (tid : Tid) (y : Sight) (w : World) (m : ℕ) (commit : Bool) : Type 0 where
  pub next : World
  pub leads : Leads w next
  pub shown : ShowsSight tid y next
  pub tells : (if commit then next.tell_commit m else next.tell_abort m) ≡ true

-- ---- an Inquire comes to the home's node

-- which runs the transaction: Answer_running
abbrev pub AnswerRunningGoes : Type 0
AnswerRunningGoes = (tid : Tid) (x : Sight) (w : World) (n m i : ℕ) (rest : List Said) → ShowsSight tid x w → Runs x n → Meets x n m i
    → x.said m i n (x.inc n) ≡ Inquired ∷ rest → n ≡ tid.home.0 → x.inc n ≡ tid.inc → (x.face n).outcome ≡ Open
    → SightGoes tid (sight_taken x n m i (record (x.face n) { told = with_at (x.face n).told m true }) rest) w

-- which knows commit: Answer_commit
abbrev pub AnswerCommitGoes : Type 0
AnswerCommitGoes = (tid : Tid) (x : Sight) (w : World) (n m i : ℕ) (rest : List Said) → ShowsSight tid x w → Runs x n → Meets x n m i
    → x.said m i n (x.inc n) ≡ Inquired ∷ rest → n ≡ tid.home.0 → (x.face n).outcome ≡ Committed
    → AnswerGoes tid (sight_taken x n m i (x.face n) rest) w m true

-- for which it is aborted: Answer_abort
abbrev pub AnswerAbortGoes : Type 0
AnswerAbortGoes = (tid : Tid) (x : Sight) (w : World) (n m i : ℕ) (rest : List Said) → ShowsSight tid x w → Runs x n → Meets x n m i
    → x.said m i n (x.inc n) ≡ Inquired ∷ rest → MayTellAbort tid x n
    → AnswerGoes tid (sight_taken x n m i (telling_face (x.face n) m) rest) w m false

-- ---- a Told names one more: Take_names

-- the machine goes on, and a place has named whom it named before
pub record NamesGoes (tid : Tid) (y : Sight) (w : World) (q : ℕ) : Type 0 where
  pub next : World
  pub leads : Leads w next
  pub shown : ShowsSight tid y next
  pub kept : (k : ℕ) → w.named q k ≡ true → next.named q k ≡ true

abbrev pub TakeNameGoes : Type 0
TakeNameGoes = (tid : Tid) (x : Sight) (w : World) (n q k : ℕ) → ShowsSight tid x w → Runs x n → MayTellAbort tid x n → w.named q k ≡ true
    → NamesGoes tid (sight_faced x n (telling_face (x.face n) k)) w q
