-- The law of a restart of another node than the home, over all that is seen of a transaction.
use Rattle.std.specs.Prelude.{◌≡◌, ◌≢◌, ℕ, ◌<◌, ◌≤◌, false}
use Rattle.qs_base.specs.declared.identifiers.Tid.{Tid}
use Rattle.qs_world_agree.specs.World.{World}
use Rattle.qs_world_agree.specs.Carry.{IsLawful}
use Rattle.qs_world_refine.specs.Places.{place}
use Rattle.qs_world_refine.specs.Seen.{SightGoes, sight_risen}
use Rattle.qs_world_refine.specs.Sights.{Sight, ShowsSight, is_in_doubt}

-- nothing of the transaction is in doubt in its log, and its new place knows nobody yet: Restart
abbrev pub RestartGoes : Type 0
RestartGoes = (tid : Tid) (x : Sight) (w : World) (n new : ℕ) → IsLawful w → ShowsSight tid x w → n < x.size → x.up n ≡ false → x.inc n < new → tid.home.0 ≢ n → tid.home.0 < x.size
    → ((s : ℕ) → is_in_doubt tid s (x.found n) ≡ false) → ((k : ℕ) → k < x.size → 1 ≤ x.inc k) → ((m : ℕ) → w.peer (place n new) m ≡ 0)
    → SightGoes tid (sight_risen x n new) w
