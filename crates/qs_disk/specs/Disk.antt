-- What a disk tells: its content, and the images that a power cut may leave, now and at each moment before.
use Rattle.std.specs.Prelude.{◌≡◌, ◌≤◌, ◌+◌, ◌*◌, ◌⊎◌, ℕ, Bool, true, false, IsTrue, IsFalse, List, [], ◌∷◌, ◌++◌, length, take, drop, ⊤}

-- what a power cut goes by: the bytes at the last sync, and which places were written since
pub record Frame : Type 0 where
  pub stable : List ℕ
  pub loose : List Bool

-- any bytes at the loose places, the stable ones elsewhere
abbrev pub Matches : List ℕ → List Bool → List ℕ → Type 0
Matches [] loose c = c ≡ []
Matches (s ∷ stable) [] c = c ≡ s ∷ stable
Matches (s ∷ stable) (l ∷ loose) [] = ⊥
Matches (s ∷ stable) (true ∷ loose) (b ∷ c) = Matches stable loose c
Matches (s ∷ stable) (false ∷ loose) (b ∷ c) = (b ≡ s) × Matches stable loose c

-- a power cut may leave these bytes
abbrev pub IsImage : Frame → List ℕ → Type 0
IsImage f c = Matches f.stable f.loose c

pub record DiskState : Type 0 where
  pub content : List ℕ  -- what a read gives
  pub now : Frame  -- what a power cut goes by now
  pub past : List Frame  -- and at each moment before, the oldest first

-- a disk has a multiple of 4,096 bytes, from 65,536 to 16,777,216
pub record IsSize (size : ℕ) : Type 0 where
  pub pages : ℕ
  pub whole : size ≡ 4096 * pages
  pub least : 65536 ≤ size
  pub most : size ≤ 16777216

-- each image has P
abbrev pub EachImage : (List ℕ → Type 0) → Frame → Type 0
EachImage P f = (c : List ℕ) → IsImage f c → P c

-- a power cut may leave bytes that have P
pub record MayLeave (P : List ℕ → Type 0) (f : Frame) : Type 0 where
  pub bytes : List ℕ
  pub image : IsImage f bytes
  pub has : P bytes

-- whatever a power cut might have left before, it may leave still
abbrev pub StillLeaves : Frame → Frame → Type 0
StillLeaves old new = (c : List ℕ) → IsImage old c → IsImage new c

-- the content is the only image
abbrev pub IsStill : DiskState → Type 0
IsStill s = EachImage (λ c. c ≡ s.content) s.now

-- each frame of the list is this one
abbrev pub AllWere : Frame → List Frame → Type 0
AllWere f [] = ⊤
AllWere f (g ∷ fs) = (g ≡ f) × AllWere f fs

-- the bytes of a range
abbrev pub range : ℕ → ℕ → List ℕ → List ℕ
range at count bytes = take count (drop at bytes)

-- the bytes with these in place of as many from `at` on
abbrev pub with_range : List ℕ → ℕ → List ℕ → List ℕ
with_range bytes at part = take at bytes ++ part ++ drop (at + length part) bytes

-- a write of so many bytes that was cut short: any bytes in the range, the same elsewhere
pub record Torn (at count : ℕ) (old new : List ℕ) : Type 0 where
  pub before : take at new ≡ take at old
  pub after : drop (at + count) new ≡ drop (at + count) old
  pub as_long : length new ≡ length old

-- the moments of a call, up to its end, are that at which it began
pub record Elapses (old new : DiskState) : Type 0 where
  pub between : List Frame
  pub grows : new.past ≡ old.past ++ between
  pub were : AllWere old.now between

-- a read of so many bytes changes nothing
pub record Reads (at : ℕ) (bytes : List ℕ) (ok : Bool) (old new : DiskState) : Type 0 where
  pub read : IsTrue ok → bytes ≡ range at (length bytes) old.content
  pub content : new.content ≡ old.content
  pub images : (c : List ℕ) → IsImage new.now c → IsImage old.now c
  pub keeps : StillLeaves old.now new.now
  pub time : Elapses old new

-- a write: until the next sync each image has any bytes in the range, those of before too, also where the write failed
pub record Writes (at : ℕ) (bytes : List ℕ) (ok : Bool) (old new : DiskState) : Type 0 where
  pub written : IsTrue ok → new.content ≡ with_range old.content at bytes
  pub images : (c : List ℕ) → IsImage new.now c → (d : List ℕ) × IsImage old.now d × Torn at (length bytes) d c
  pub keeps : StillLeaves old.now new.now
  pub as_long : length new.content ≡ length old.content
  pub time : Elapses old new

-- a sync: the content is the only image; one that failed loses none of before
pub record Syncs (ok : Bool) (old new : DiskState) : Type 0 where
  pub still : IsTrue ok → IsStill new
  pub content : new.content ≡ old.content
  pub images : (c : List ℕ) → IsImage new.now c → IsImage old.now c ⊎ (c ≡ old.content)
  pub keeps : IsFalse ok → StillLeaves old.now new.now
  pub time : Elapses old new

-- a power cut: one image is left, which is the content and the only image from then on; one that failed loses none of before
pub record Cuts (ok : Bool) (old new : DiskState) : Type 0 where
  pub left : IsTrue ok → IsImage old.now new.content
  pub still : IsTrue ok → IsStill new
  pub images : (c : List ℕ) → IsImage new.now c → IsImage old.now c
  pub keeps : IsFalse ok → StillLeaves old.now new.now
  pub as_long : length new.content ≡ length old.content
  pub time : Elapses old new
