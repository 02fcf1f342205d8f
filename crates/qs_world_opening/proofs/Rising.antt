-- The lines of a script rise, and so do those of one client.
use Rattle.std.proofs.Common.{◌≡◌, ℕ, ◌≤◌, ◌<◌, ◌==◌, ◌++◌, nat_le, nat_lt, Bool, true, false, List, [], ◌∷◌, refl, arith, if◌then◌else◌}
use Rattle.std.specs.List.{list_all}
use Rattle.std.proofs.lemmas.Bool.Decides.{nat_tests}
use Rattle.qs_base.specs.declared.identifiers.ClientNo.{ClientNo}
use Rattle.qs_book_journal.specs.declared.script_line.ScriptLine.{ScriptLine}
use Rattle.qs_world_plans.specs.Plan.{commands_of}
use Rattle.qs_world.specs.Openings.{are_rising}
use Rattle.qs_world_opening.proofs.Tests.{both, parts}

-- the line stands at that place, or before it
abbrev pub is_before : ℕ → ScriptLine → Bool
is_before count line = nat_le line.line count

through : (a b c : ℕ) → nat_lt a b ≡ true → nat_lt b c ≡ true → nat_lt a c ≡ true
through a b c low high = grind (arith, nat_tests, low, high)

-- also from behind a lower one
lower : (lines : List ScriptLine) (last next : ℕ) → nat_lt last next ≡ true → are_rising next lines ≡ true → are_rising last lines ≡ true
lower [] last next low rise = refl
lower (line ∷ lines) last next low rise = let p = parts (nat_lt next line.line) (are_rising line.line lines) rise in
    both (nat_lt last line.line) (are_rising line.line lines) (through last next line.line low p.0) p.1

pub clients_rise : (client : ClientNo) (lines : List ScriptLine) (last : ℕ) → are_rising last lines ≡ true → are_rising last (commands_of client lines) ≡ true
clients_rise client [] last rise = refl
clients_rise client (line ∷ lines) last rise = by (line.client.0 == client.0) (clients_rise client lines line.line p.1)
  where
    p : (nat_lt last line.line ≡ true) × (are_rising line.line lines ≡ true)
    p = parts (nat_lt last line.line) (are_rising line.line lines) rise

    by : (b : Bool) → are_rising line.line (commands_of client lines) ≡ true → are_rising last ((if b then line ∷ [] else []) ++ commands_of client lines) ≡ true
    by true rest = both (nat_lt last line.line) (are_rising line.line (commands_of client lines)) p.0 rest
    by false rest = lower (commands_of client lines) last line.line p.0 rest

pub rise_more : (lines : List ScriptLine) (last count : ℕ) (line : ScriptLine) → are_rising last lines ≡ true → list_all (is_before count) lines ≡ true
    → last ≤ count → count < line.line → are_rising last (lines ++ line ∷ []) ≡ true
rise_more [] last count line rise before low next = both (nat_lt last line.line) true (by last count line.line low next) refl
  where
    by : (a b c : ℕ) → a ≤ b → b < c → nat_lt a c ≡ true
    by a b c le lt = grind (arith, nat_tests, le, lt)
rise_more (first ∷ lines) last count line rise before low next =
    let p = parts (nat_lt last first.line) (are_rising first.line lines) rise in
    let q = parts (is_before count first) (list_all (is_before count) lines) before in
    both (nat_lt last first.line) (are_rising first.line (lines ++ line ∷ [])) p.0 (rise_more lines first.line count line p.1 q.1 (by first.line count q.0) next)
  where
    by : (a b : ℕ) → nat_le a b ≡ true → a ≤ b
    by a b le = grind (arith, nat_tests, le)

-- more lines may come behind
pub before_more : (lines : List ScriptLine) (count next : ℕ) → count ≤ next → list_all (is_before count) lines ≡ true → list_all (is_before next) lines ≡ true
before_more [] count next low before = refl
before_more (line ∷ lines) count next low before = let p = parts (is_before count line) (list_all (is_before count) lines) before in
    both (is_before next line) (list_all (is_before next) lines) (by line.line count next p.0 low) (before_more lines count next low p.1)
  where
    by : (a b c : ℕ) → nat_le a b ≡ true → b ≤ c → nat_le a c ≡ true
    by a b c le more = grind (arith, nat_tests, le, more)
