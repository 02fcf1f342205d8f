-- What passes make of two ends, from whatever a run left.
use Rattle.std.specs.Prelude.{◌≡◌, ◌≤◌, ℕ, ◌+◌, ◌==◌, true, false, [], ◌∷◌, length, if◌then◌else◌}
use Rattle.qs_session_channels.specs.End.{End, tick_packets}
use Rattle.qs_session_settling.specs.Pairs.{Pair, Step, stepped}
use Rattle.qs_session_settling.specs.Passes.{Passes, QuietPasses, sends_none}
use Rattle.qs_session_settling.specs.Consistent.{IsConsistent, OneRoseLast, handed_up}

-- each end knows the other's present incarnation
pub record KnowEachOther {M : Type 0} (pair : Pair M) : Type 0 where
  pub left : pair.left.end.known ≡ pair.right.end.mine
  pub right : pair.right.end.known ≡ pair.left.end.mine

-- each step leaves what a run leaves
abbrev pub EachStays : (M : Type 0) → Type 0
EachStays M = (hello : M) (step : Step M) (pair : Pair M) → IsConsistent pair → IsConsistent (stepped hello step pair)

-- after three passes each knows the other
abbrev pub EachAcquaints : (M : Type 0) → Type 0
EachAcquaints M = (hello : M) (old new : Pair M) → IsConsistent old → OneRoseLast old → Passes hello 3 old new → KnowEachOther new

-- and each has met the other: it took a packet of that incarnation for its own
pub record HaveMet {M : Type 0} (pair : Pair M) : Type 0 where
  pub known : KnowEachOther pair
  pub left : pair.left.end.met ≡ true
  pub right : pair.right.end.met ≡ true

-- each step keeps both
abbrev pub EachStaysKnown : (M : Type 0) → Type 0
EachStaysKnown M = (hello : M) (step : Step M) (pair : Pair M) → IsConsistent pair → KnowEachOther pair → KnowEachOther (stepped hello step pair)

abbrev pub EachStaysMet : (M : Type 0) → Type 0
EachStaysMet M = (hello : M) (step : Step M) (pair : Pair M) → IsConsistent pair → HaveMet pair → HaveMet (stepped hello step pair)

-- six more make two that know each other meet
abbrev pub EachMeets : (M : Type 0) → Type 0
EachMeets M = (hello : M) (old new : Pair M) → IsConsistent old → KnowEachOther old → Passes hello 6 old new → HaveMet new

-- so nine do from whatever a run left
abbrev pub EachHasMet : (M : Type 0) → Type 0
EachHasMet M = (hello : M) (old new : Pair M) → IsConsistent old → OneRoseLast old → Passes hello 9 old new → HaveMet new

-- ---- what is kept is handed up

-- the number of the last message that an end has for the other's present incarnation
abbrev pub sent_to : {M : Type 0} → End M → End M → ℕ
sent_to from to = if from.known == to.mine then from.acked + length from.kept else 0

-- what each had for the other has been handed up by now
pub record AllHandedUp {M : Type 0} (old new : Pair M) : Type 0 where
  pub left : sent_to old.left.end old.right.end ≤ handed_up new.left.end new.right.end
  pub right : sent_to old.right.end old.left.end ≤ handed_up new.right.end new.left.end

-- one pass over two that know each other, and then each hands up all that was kept as it began
abbrev pub EachHandsUp : (M : Type 0) → Type 0
EachHandsUp M = (hello : M) (old mid new : Pair M) → IsConsistent old → KnowEachOther old → Passes hello 1 old mid → Passes hello 1 mid new → AllHandedUp mid new

-- so five hand up what was kept as they began, from whatever a run left: by an end that did not know the other's present incarnation,
-- nothing was kept for that
abbrev pub EachHasHandedUp : (M : Type 0) → Type 0
EachHasHandedUp M = (hello : M) (old new : Pair M) → IsConsistent old → OneRoseLast old → Passes hello 5 old new → AllHandedUp old new

-- ---- nothing goes any more

-- an end with nothing to send: it keeps nothing, owes nothing and has met its peer
pub record IsIdle {M : Type 0} (e : End M) : Type 0 where
  pub kept : e.kept ≡ []
  pub owed : e.owed ≡ false
  pub met : e.met ≡ true

-- both are so, know each other, and nothing stands on the links
pub record IsAtRest {M : Type 0} (pair : Pair M) : Type 0 where
  pub known : KnowEachOther pair
  pub left : IsIdle pair.left.end
  pub right : IsIdle pair.right.end
  pub left_link : pair.left.link ≡ []
  pub right_link : pair.right.link ≡ []

-- so a tick puts nothing
abbrev pub EachIsSilent : (M : Type 0) → Type 0
EachIsSilent M = (hello : M) (pair : Pair M) → IsConsistent pair → IsAtRest pair → (stamp : ℕ) → (tick_packets hello pair.left.end stamp ≡ []) × (tick_packets hello pair.right.end stamp ≡ [])

-- and all stays as it is until a message is sent
abbrev pub EachRests : (M : Type 0) → Type 0
EachRests M = (hello : M) (step : Step M) (pair : Pair M) → IsConsistent pair → IsAtRest pair → sends_none (step ∷ []) ≡ true → stepped hello step pair ≡ pair

-- five passes in which no message is sent bring two that have met to rest
abbrev pub EachFallsSilent : (M : Type 0) → Type 0
EachFallsSilent M = (hello : M) (old new : Pair M) → IsConsistent old → HaveMet old → QuietPasses hello 5 old new → IsAtRest new

-- ---- together: what eleven passes without a send make of whatever a run left

pub record IsSettled {M : Type 0} (old new : Pair M) : Type 0 where
  pub met : HaveMet new
  pub handed_up : AllHandedUp old new
  pub rests : IsAtRest new

abbrev pub EachSettles : (M : Type 0) → Type 0
EachSettles M = (hello : M) (old new : Pair M) → IsConsistent old → OneRoseLast old → QuietPasses hello 11 old new → IsSettled old new
