-- The order of identifiers is total and exact, and small facts of truth values that crates above cite.
use Rattle.std.proofs.Common.{◌≡◌, ℕ, refl, ap}
use Rattle.std.specs.Prelude.{Bool, true, false, ◌||◌}
use Rattle.std.specs.Bool.{OnTrue}
use Rattle.std.specs.declared.cmp.Ordering.TheVariants.{Equal}
use Rattle.std.specs.Ordering.{ordering_then, nat_cmp, is_eq}
use Rattle.std.specs.Cmp.{IsTotalOrder, unsigned_ties, both_tied}
use Rattle.std.proofs.lemmas.Cmp.{nat_cmp_total, on_total, then_total}
use Rattle.std.proofs.lemmas.Map.Lookups.{exact_unsigned, exact_pairs}
use Rattle.qs_base.specs.Order.{tid_cmp, same_tid}
use Rattle.qs_base.specs.declared.identifiers.Tid.{Tid}

pub same_tid-cmp : (s t : Tid) → same_tid s t ≡ is_eq (tid_cmp s t)
same_tid-cmp s t = both_tied _ _ _ _ (unsigned_ties s.home.0 t.home.0) (both_tied _ _ _ _ (unsigned_ties s.inc t.inc) (unsigned_ties s.seq t.seq))

pub tid_exact : (s t : Tid) → tid_cmp s t ≡ Equal → s ≡ t
tid_exact s t e =
    let first = exact_pairs nat_cmp (λ (p q : ℕ × ℕ). ordering_then (nat_cmp p.0 q.0) (nat_cmp p.1 q.1)) exact_unsigned (exact_pairs nat_cmp nat_cmp exact_unsigned exact_unsigned) (s.home.0, (s.inc, s.seq)) (t.home.0, (t.inc, t.seq)) e in
    ap (λ (p : ℕ × (ℕ × ℕ)). record { home = record { 0 = p.0 }; inc = p.1.0; seq = p.1.1 }) first

pub tid_total : IsTotalOrder tid_cmp
tid_total = then_total (on_total (λ (t : Tid). t.home.0) nat_cmp_total) (then_total (on_total (λ (t : Tid). t.inc) nat_cmp_total) (on_total (λ (t : Tid). t.seq) nat_cmp_total))

-- ---- truth values

pub or-true : (b : Bool) → b || true ≡ true
or-true true = refl
or-true false = refl

pub or-false : (b : Bool) → b || false ≡ b
or-false true = refl
or-false false = refl

pub on_true : {P : Type 0} (b : Bool) → b ≡ true → OnTrue b P → P
on_true true e p = p
on_true false e p = absurd (cc)
