-- The law of a first meeting, over all that is seen of a transaction.
use Rattle.std.specs.Prelude.{◌≡◌, ◌≢◌, ℕ, ◌<◌, ◌≤◌, ◌==◌, ◌&&◌, true, false, [], if◌then◌else◌}
use Rattle.qs_base.specs.declared.identifiers.Tid.{Tid}
use Rattle.qs_world_agree.specs.World.{World, with_at2}
use Rattle.qs_world_agree.specs.Carry.{IsLawful}
use Rattle.qs_world_refine.specs.Seen.{Runs, SightGoes}
use Rattle.qs_world_refine.specs.Sights.{Sight, ShowsSight, with_at4}

-- node n knows a first incarnation of node m, and what waited is put for it
abbrev pub sight_met : Sight → ℕ → ℕ → ℕ → Sight
sight_met x n m first = record x {
  knows = λ a b. if (a == n) && (b == m) then first else x.knows a b;
  said = with_at4 x.said n (x.inc n) m first (x.unmet n m);
  unmet = λ a b. if (a == n) && (b == m) then [] else x.unmet a b;
}

-- place p knows place q, and all that it sent to that node is put for it
abbrev pub met_at : World → ℕ → ℕ → World
met_at w p q = record w {
  peer = with_at2 w.peer p (w.node q) q;
  posted = with_at2 w.posted p q (w.sent p (w.node q));
  inquiry_put = with_at2 w.inquiry_put p q (w.inquiries p);
}

-- the node does not answer to the other one yet: Meet
abbrev pub MeetGoes : Type 0
MeetGoes = (tid : Tid) (x : Sight) (w : World) (n m first : ℕ) → IsLawful w → ShowsSight tid x w → Runs x n → m < x.size → m ≢ n → x.knows n m ≡ 0 → 1 ≤ first → first ≤ x.inc m
    → ((x.face n).on ≡ true → (x.face n).is_home ≡ false → (x.face n).superior ≢ m)
    → SightGoes tid (sight_met x n m first) w
