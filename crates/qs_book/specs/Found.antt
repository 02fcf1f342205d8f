-- The greatest covers with which a member's vote was found.
use Rattle.std.specs.Prelude.{ℕ, Bool, false, Option, Some, None, nat_lt, nat_le, if◌then◌else◌}

-- so many covers are no more than these
abbrev pub is_within : Option ℕ → ℕ → Bool
is_within None covers = false
is_within (Some best) covers = nat_le covers best

abbrev pub greater_covers : Option ℕ → ℕ → ℕ
greater_covers None covers = covers
greater_covers (Some best) covers = if nat_lt covers best then best else covers
