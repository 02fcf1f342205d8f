-- What is seen of a transaction once its outcome is decided, told, taken in and ended.
use Rattle.std.specs.Prelude.{◌≡◌, ℕ, ◌==◌, ◌&&◌, true, false, [], ◌∷◌, ◌++◌, if◌then◌else◌}
use Rattle.qs_base.specs.declared.identifiers.Tid.{Tid}
use Rattle.qs_world_agree.specs.World.{World, Aborted}
use Rattle.qs_world_agree.specs.Carry.{Leads}
use Rattle.qs_world_refine.specs.Faces.{Face, blank_face}
use Rattle.qs_world_refine.specs.Links.{Said}
use Rattle.qs_world_refine.specs.Seen.{drew}
use Rattle.qs_world_refine.specs.Sights.{Sight, ShowsSight}

-- the home decided abort, and is to tell all whom it drew in
abbrev pub aborted_face : Face → Face
aborted_face f = record f { on = false; outcome = Aborted; tell = λ m. drew f m }

-- a node forgot it: what waits at its servers, and its loans, are not of what it kept
abbrev pub forgotten_face : Face → Face
forgotten_face f = record blank_face { waits = f.waits; loans = f.loans }

-- a message waits for node m, of which no place is known
abbrev pub sight_waiting : Sight → ℕ → ℕ → Face → Said → Sight
sight_waiting x n m f what = record x {
  face = λ k. if k == n then f else x.face k;
  unmet = λ a b. if (a == n) && (b == m) then x.unmet n m ++ what ∷ [] else x.unmet a b;
}

-- the machine goes on, node m acknowledged the commit, and whoever did so before still has
pub record ToldGoes (tid : Tid) (y : Sight) (w : World) (m : ℕ) : Type 0 where
  pub next : World
  pub leads : Leads w next
  pub shown : ShowsSight tid y next
  pub taken : next.acknowledged m ≡ true
  pub kept : (k : ℕ) → w.acknowledged k ≡ true → next.acknowledged k ≡ true
