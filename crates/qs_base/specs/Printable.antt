-- Which bytes may stand in names and texts.
use Rattle.std.specs.Prelude.{ℕ, ◌≤◌}

-- a character from the blank to the tilde
abbrev pub IsPrintable : ℕ → Type 0
IsPrintable b = (32 ≤ b) × (b ≤ 126)
