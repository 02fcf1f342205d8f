-- How many nodes a run has that the words ask for, and that they ask for one run alone.
use Rattle.std.proofs.Common.{◌≡◌, ◌≤◌, ◌∙◌, refl, subst, sym, ℕ, ◌&&◌, Bool, true, false, Option, Some, None, arith, nat_le, if◌then◌else◌}
use Rattle.std.proofs.lemmas.Bool.Decides.{nat_tests}
use Rattle.qs_base_lemmas.proofs.Tests.{and_first, and_last}
use Rattle.qs_text_script.specs.declared.form.Form.{Form}
use Rattle.qs_text_script.specs.declared.form.Form.TheVariants as forms
use Rattle.qs_top.specs.Asking.{asked_by, asked_in, serial_run, shown_with}
use Rattle.qs_top.specs.declared.asking.Asked.{Asked}
use Rattle.qs_top.specs.declared.asking.Asked.TheVariants as asked
use Rattle.qs_text.specs.declared.given.Shown.{Shown}

le_of : (a b : ℕ) → nat_le a b ≡ true → a ≤ b
le_of a b is = grind (arith, nat_tests, is)

record IsFew (nodes : ℕ) : Type 0 where
  some : 1 ≤ nodes
  few : nodes ≤ 8

few_serial : (n seed : ℕ) (given : Shown) (nodes at : ℕ) (shown : Shown) → serial_run n seed given ≡ Some (asked.Serial nodes at shown) → IsFew nodes
few_serial n seed given nodes at shown is = by (nat_le 1 n && nat_le n 8) refl is
  where
    of_n : (nat_le 1 n && nat_le n 8) ≡ true → n ≡ nodes → IsFew nodes
    of_n tests same = record {
      some = omega (arith, same, le_of 1 n (and_first (nat_le 1 n) (nat_le n 8) tests));
      few = omega (arith, same, le_of n 8 (and_last (nat_le 1 n) (nat_le n 8) tests));
    }

    by : (low : Bool) → (nat_le 1 n && nat_le n 8) ≡ low → (if low then Some (asked.Serial n seed given) else None) ≡ Some (asked.Serial nodes at shown) → IsFew nodes
    by false tests is = absurd (cc is)
    by true tests is = of_n tests (cc is)

-- a load
few_load : (nodes : ℕ) → 4 ≡ nodes → IsFew nodes
few_load nodes same = record { some = omega (arith, same); few = omega (arith, same) }

few_in : (form : Form) (nodes seed : ℕ) (shown : Shown) → asked_in form ≡ Some (asked.Serial nodes seed shown) → IsFew nodes
few_in (forms.Run n None journal) nodes seed shown is = absurd (cc is)
few_in (forms.Run n (Some at) journal) nodes seed shown is = few_serial n at (shown_with journal) nodes seed shown is
few_in forms.Check nodes seed shown is = absurd (cc is)
few_in (forms.Load at) nodes seed shown is = few_load nodes (cc is)

few_by : (form : Option Form) (nodes seed : ℕ) (shown : Shown) → asked_by form ≡ Some (asked.Serial nodes seed shown) → IsFew nodes
few_by None nodes seed shown is = absurd (cc is)
few_by (Some form) nodes seed shown is = few_in form nodes seed shown is

pub some_nodes : (form : Option Form) (nodes seed : ℕ) (shown : Shown) → asked_by form ≡ Some (asked.Serial nodes seed shown) → 1 ≤ nodes
some_nodes form nodes seed shown is = (few_by form nodes seed shown is).some

pub few_nodes : (form : Option Form) (nodes seed : ℕ) (shown : Shown) → asked_by form ≡ Some (asked.Serial nodes seed shown) → nodes ≤ 8
few_nodes form nodes seed shown is = (few_by form nodes seed shown is).few

-- ---- one run

record IsOneRun (n seed m at : ℕ) (shown other : Shown) : Type 0 where
  nodes : n ≡ m
  seeds : seed ≡ at
  output : shown ≡ other

one_run : (n seed m at : ℕ) (shown other : Shown) (by : Option Asked) → by ≡ Some (asked.Serial n seed shown) → by ≡ Some (asked.Serial m at other) → IsOneRun n seed m at shown other
one_run n seed m at shown other by one also = record { nodes = cc (one, also); seeds = cc (one, also); output = cc (one, also) }

-- what holds of the run that is asked for, by its nodes, its seed and what is to be shown of it, holds of any that is
pub by_asked : (P : ℕ → ℕ → Shown → Type 0) (by : Option Asked) (n seed m at : ℕ) (shown other : Shown) → by ≡ Some (asked.Serial n seed shown) → by ≡ Some (asked.Serial m at other) → P n seed shown → P m at other
by_asked P by n seed m at shown other one also holds = let same : IsOneRun n seed m at shown other = one_run n seed m at shown other by one also in
    subst (λ (k : ℕ). P k at other) same.nodes (subst (λ (s : ℕ). P n s other) same.seeds (subst (P n seed) same.output holds))

pub as_asked : (P : ℕ → Shown → Type 0) (by : Option Asked) (n seed m at : ℕ) (shown other : Shown) → by ≡ Some (asked.Serial n seed shown) → by ≡ Some (asked.Serial m at other) → P n shown → P m other
as_asked P by n seed m at shown other one also holds = by_asked (λ k s given. P k given) by n seed m at shown other one also holds
