-- An opening without clients over the log of a world of one node: such a run may begin there.
use Rattle.std.proofs.Common.{◌≡◌, ap, refl, sym, ℕ, ◌<◌, zero, suc, true, List, [], ◌++◌, arith, nat_lt}
use Rattle.std.proofs.lemmas.Bool.Decides.{nat_tests}
use Rattle.std.specs.Global.{Global}
use Rattle.qs_world_opening.specs.Coherent.{bare_setting, over_logs}
use Rattle.qs_record.specs.declared.record.Record.{Record}
use Rattle.qs_world.specs.Moves.{client_count}
use Rattle.qs_world.specs.Openings.{all_below, are_apart, each_below, is_script, is_setting, labels_begun}
use Rattle.qs_world.specs.World.{Opening, World}
use Rattle.qs_world_runs.specs.CoherentAgain.{IsNextOpening}

-- in this incarnation, with this quota
abbrev pub over_log : Global → ℕ → List Record → ℕ → Opening
over_log alloc inc log quota = record (over_logs alloc 1 (λ n. inc) (λ n. log)) { settings = λ n. record (bare_setting 1 (λ m. inc) n) { quota = quota } }

none_above : (size n : ℕ) → size ≡ 1 → suc n < size → ⊥
none_above size n one low = omega arith

at_zero : (P : ℕ → Type 0) (size : ℕ) → size ≡ 1 → P 0 → (n : ℕ) → n < size → P n
at_zero P size one first zero low = first
at_zero P size one first (suc n) low = absurd (none_above size n one low)

no_scripts : (n : ℕ) → each_below n (λ k. is_script 1 k (0, [])) ≡ true
no_scripts zero = refl
no_scripts (suc n) = no_scripts n

no_labels : (n : ℕ) → all_below n (λ k. labels_begun []) ≡ []
no_labels zero = refl
no_labels (suc n) = ap (λ (l : List (List ℕ)). l ++ []) (no_labels n)

pub is_next : (alloc : Global) (inc : ℕ) (log : List Record) (quota : ℕ) (world : World) → world.size ≡ 1 → (world.hosts 0).log ≡ log → world.channels.inc 0 < inc → IsNextOpening world (over_log alloc inc log quota)
is_next alloc inc log quota world one log_is later = record {
  size = sym one;
  logs = at_zero (λ n. log ≡ (world.hosts n).log) world.size one (sym log_is);
  later = at_zero (λ n. world.channels.inc n < inc) world.size one later;
  settings = setting_so;
  scripts = no_scripts client_count;
  labels = ap are_apart (no_labels client_count);
}
  where
    some : nat_lt 0 inc ≡ true
    some = above (world.channels.inc 0) inc later
      where
        above : (a b : ℕ) → a < b → nat_lt 0 b ≡ true
        above a b is = grind (arith, nat_tests, is)

    setting_so : each_below 1 (λ n. is_setting 1 n (record (bare_setting 1 (λ m. inc) n) { quota = quota })) ≡ true
    setting_so = rw some refl
