-- Logs stay coherent as the incarnations of their nodes grow: what is earlier stays earlier, and no other test reads incarnations.
use Rattle.std.proofs.Common.{◌≡◌, ℕ, ◌≤◌, ◌<◌, ◌||◌, not, nat_lt, Bool, true, false, List, [], ◌∷◌, refl, arith}
use Rattle.std.specs.Global.{Global}
use Rattle.std.specs.List.{list_all}
use Rattle.std.proofs.lemmas.Bool.Decides.{nat_tests}
use Rattle.qs_base.specs.declared.identifiers.Tid.{Tid}
use Rattle.qs_record.specs.declared.record.Record.{Record}
use Rattle.qs_record.specs.declared.record.Record.TheVariants as records
use Rattle.qs_world.specs.Openings.{is_earlier, is_record}
use Rattle.qs_world.specs.World.{Opening}
use Rattle.qs_world_opening.specs.Coherent.{AreCoherentLogs, over_logs}
use Rattle.qs_world_opening.specs.Scripts.{StayCoherent}
use Rattle.qs_world_opening.proofs.Tests.{both, each_more, each_so, parts}

module _ (alloc : Global) (size : ℕ) (incs later : ℕ → ℕ) (logs : ℕ → List Record) (grow : (n : ℕ) → n < size → incs n ≤ later n) where
  abbrev before : Opening
  before = over_logs alloc size incs logs

  abbrev after : Opening
  after = over_logs alloc size later logs

  earlier : (tid : Tid) → is_earlier before tid ≡ true → is_earlier after tid ≡ true
  earlier tid is = by (nat_lt tid.home.0 size) refl is
    where
      below : (a b : ℕ) → nat_lt a b ≡ true → a < b
      below a b is = grind (arith, nat_tests, is)

      still : (a b c : ℕ) → nat_lt a b ≡ true → b ≤ c → nat_lt a c ≡ true
      still a b c is le = grind (arith, nat_tests, is, le)

      by : (b : Bool) → nat_lt tid.home.0 size ≡ b → (not b || nat_lt tid.inc (incs tid.home.0)) ≡ true → (not b || nat_lt tid.inc (later tid.home.0)) ≡ true
      by false off is = refl
      by true on is = still tid.inc (incs tid.home.0) (later tid.home.0) is (grow tid.home.0 (below tid.home.0 size on))

  one : (n : ℕ) (rec : Record) → is_record before n rec ≡ true → is_record after n rec ≡ true
  one n (records.Prepare tid server covers changes) is = let p = parts (is_earlier before tid) _ is in both (is_earlier after tid) _ (earlier tid p.0) p.1
  one n (records.Commit tid told) is = let p = parts (is_earlier before tid) _ is in both (is_earlier after tid) _ (earlier tid p.0) p.1
  one n (records.Aborted tid) is = earlier tid is
  one n (records.End tid) is = earlier tid is

  all : (n : ℕ) (recs : List Record) → list_all (is_record before n) recs ≡ true → list_all (is_record after n) recs ≡ true
  all n [] is = refl
  all n (rec ∷ recs) is = let p = parts (is_record before n rec) (list_all (is_record before n) recs) is in
      both (is_record after n rec) (list_all (is_record after n) recs) (one n rec p.0) (all n recs p.1)

pub stay_coherent : (alloc : Global) (size : ℕ) (incs later : ℕ → ℕ) (logs : ℕ → List Record) → StayCoherent alloc size incs later logs
stay_coherent alloc size incs later logs grow is = record {
  logs = each_more size (λ n. list_all (is_record (over_logs alloc size incs logs) n) (logs n)) (λ n. list_all (is_record (over_logs alloc size later logs) n) (logs n)) (λ n. all alloc size incs later logs grow n (logs n)) is.logs;
  votes = is.votes;
  unended = is.unended;
  whole = is.whole;
}

pub empty_coherent : (alloc : Global) (size : ℕ) (incs : ℕ → ℕ) → AreCoherentLogs alloc size incs (λ n. [])
empty_coherent alloc size incs = record {
  logs = each_so size _ (λ k low. refl);
  votes = each_so size _ (λ k low. refl);
  unended = each_so size _ (λ k low. refl);
  whole = each_so size _ (λ k low. refl);
}
