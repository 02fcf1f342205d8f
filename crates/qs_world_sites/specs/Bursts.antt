-- Bursts before rounds: the sites take their turns side by side, in threads, and then make a round in one.
use Rattle.std.specs.Prelude.{◌≡◌, ◌≢◌, ◌⊎◌, ℕ, Bool, List, Some, slice_get}
use Rattle.qs_base.specs.declared.identifiers.NodeNo.{NodeNo}
use Rattle.qs_cell_peers.specs.Links.{into_of, out_of}
use Rattle.qs_disk.specs.Disk.{DiskState}
use Rattle.qs_link.specs.Lane.{IsFifo}
use Rattle.qs_world_rounds.specs.Rounds.{Cast}
use Rattle.qs_world_rounds.specs.Turns.{TakesSome, TakesTurns}
use Rattle.qs_world_sites.specs.Breaks.{BreaksRound, HasRisen, RefusesRound}
use Rattle.qs_world_sites.specs.Rounds.{IsRound}
use Rattle.qs_world_sites.specs.Sites.{Each, HasSameCell, SitesValue, links_of}

-- ---- a burst

-- each site takes so many turns
abbrev pub Bursts : {D : Type 0} → Type 0 → (D → DiskState) → (D → ℕ) → (D → ℕ) → ℕ → List (Cast D) → List (Cast D) → Type 0
Bursts told state own size turns old new = Each (TakesTurns told state own size turns) old new

-- each ring was looked at from both ends, and has lost, repeated and reordered nothing
abbrev pub AreFifoSites : {D : Type 0} → List (Cast D) → Type 0
AreFifoSites sites = (n m : ℕ) (a b : Cast _) → slice_get sites n ≡ Some a → slice_get sites m ≡ Some b → n ≢ m → IsFifo (out_of (links_of a) m).feed (into_of (links_of b) n)

-- memory was refused, at one site or at several; then the threads have joined, and links were carried as far as memory was had for
pub record IsRefusedBurst {D : Type 0} (told : Type 0) (state : D → DiskState) (own size : D → ℕ) (turns : ℕ) (old new : List (Cast D)) : Type 0 where
  pub burst : List (Cast D)
  pub some : Each (TakesSome told state own size turns) old burst
  pub joined : AreFifoSites burst
  pub same : Each HasSameCell burst new

-- ---- a burst, and the round behind it

pub record IsRoundBehind {D : Type 0} (told : Type 0) (state : D → DiskState) (own size : D → ℕ) (turns : ℕ) (order : List ℕ) (old new : SitesValue D) (quiet : Bool) : Type 0 where
  pub burst : SitesValue D
  pub bursts : Bursts told state own size turns old.sites burst.sites
  pub turns_are : burst.turns ≡ old.turns
  pub round : IsRound told state own size order burst new quiet

-- the round was cut short, as the disk of that node failed
pub record BreaksBehind {D : Type 0} (told : Type 0) (state : D → DiskState) (own size : D → ℕ) (turns : ℕ) (order : List ℕ) (node : NodeNo) (old new : SitesValue D) : Type 0 where
  pub burst : SitesValue D
  pub bursts : Bursts told state own size turns old.sites burst.sites
  pub turns_are : burst.turns ≡ old.turns
  pub broken : BreaksRound told state own size order node burst new
  pub rose : HasRisen own node old.sites new.sites

-- memory was refused in the round; each ring was looked at before
pub record IsRefusedRound {D : Type 0} (told : Type 0) (state : D → DiskState) (own size : D → ℕ) (turns : ℕ) (order : List ℕ) (old new : SitesValue D) : Type 0 where
  pub burst : SitesValue D
  pub bursts : Bursts told state own size turns old.sites burst.sites
  pub joined : AreFifoSites burst.sites
  pub turns_are : burst.turns ≡ old.turns
  pub refused : RefusesRound told state own size order burst new

-- or in the burst, or before it
abbrev pub IsRefusedBehind : {D : Type 0} → Type 0 → (D → DiskState) → (D → ℕ) → (D → ℕ) → ℕ → List ℕ → SitesValue D → SitesValue D → Type 0
IsRefusedBehind told state own size turns order old new =
    (new ≡ old) ⊎ (IsRefusedBurst told state own size turns old.sites new.sites ⊎ IsRefusedRound told state own size turns order old new)
