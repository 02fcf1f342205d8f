-- The last place of a kind of record tells whether one stands behind a place.
use Rattle.std.proofs.Common.{◌≡◌, ◌∙◌, ℕ, zero, suc, ◌+◌, Bool, true, false, List, [], ◌∷◌, ◌++◌, length, drop, Option, Some, None, refl, sym, ap, append-nil, arith}
use Rattle.std.proofs.lemmas.Bool.Decides.{nat_tests}
use Rattle.std.specs.Prelude.{◌&&◌, ◌==◌, is_some, nat_lt}
use Rattle.std.specs.List.{list_any}
use Rattle.qs_base.specs.Order.{same_tid}
use Rattle.qs_base.specs.declared.identifiers.ServerNo.{ServerNo}
use Rattle.qs_base.specs.declared.identifiers.Tid.{Tid}
use Rattle.qs_record.specs.declared.record.Record.{Record}
use Rattle.qs_restart.specs.Places.{last_place, is_behind}

pub below : (i p : ℕ) → nat_lt (suc i) (suc p) ≡ nat_lt i p
below i p = grind (arith, nat_tests)

pub first : (p : ℕ) → nat_lt 0 (suc p) ≡ true
first p = grind (arith, nat_tests)

pub not_before : (p : ℕ) → nat_lt (suc p) 0 ≡ false
not_before p = grind (arith, nat_tests)

pub any_place : (test : Record → Bool) (log : List Record) → list_any test log ≡ is_some (last_place test log)
any_place test [] = refl
any_place test (rec ∷ log) = by (test rec) refl (last_place test log) refl (any_place test log)
  where
    by : (b : Bool) → test rec ≡ b → (o : Option ℕ) → last_place test log ≡ o → list_any test log ≡ is_some (last_place test log) → list_any test (rec ∷ log) ≡ is_some (last_place test (rec ∷ log))
    by true is None at more = rw (at, is) refl
    by true is (Some place) at more = rw (at, is) refl
    by false is None at more = rw (at, is) (more ∙ ap is_some at)
    by false is (Some place) at more = rw (at, is) (more ∙ ap is_some at)

-- whether one stands behind place i
pub behind : (test : Record → Bool) (log : List Record) (i : ℕ) → is_behind i (last_place test log) ≡ list_any test (drop (suc i) log)
behind test [] i = refl
behind test (rec ∷ log) zero = by (test rec) refl (last_place test log) refl
  where
    by : (b : Bool) → test rec ≡ b → (o : Option ℕ) → last_place test log ≡ o → is_behind 0 (last_place test (rec ∷ log)) ≡ list_any test log
    by true is None at = rw (at, is) (sym (any_place test log ∙ ap is_some at))
    by false is None at = rw (at, is) (sym (any_place test log ∙ ap is_some at))
    by b is (Some place) at = rw at (first place ∙ sym (any_place test log ∙ ap is_some at))
behind test (rec ∷ log) (suc i) = by (test rec) refl (last_place test log) refl (behind test log i)
  where
    by : (b : Bool) → test rec ≡ b → (o : Option ℕ) → last_place test log ≡ o → is_behind i (last_place test log) ≡ list_any test (drop (suc i) log) → is_behind (suc i) (last_place test (rec ∷ log)) ≡ list_any test (drop (suc i) log)
    by true is None at more = rw (at, is) (not_before i ∙ sym (ap (is_behind i) at) ∙ more)
    by false is None at more = rw (at, is) (sym (ap (is_behind i) at) ∙ more)
    by b is (Some place) at more = rw at (below i place ∙ sym (ap (is_behind i) at) ∙ more)

-- ---- identifiers and numbers

same_number : (a b : ℕ) → (a == b) ≡ true → a ≡ b
same_number a b is = grind (arith, nat_tests, is)

pub flip : (a b : ℕ) → (a == b) ≡ (b == a)
flip a b = grind (arith, nat_tests)

pub self : (a : ℕ) → (a == a) ≡ true
self a = grind (arith, nat_tests)

pub same_tid-flip : (s t : Tid) → same_tid s t ≡ same_tid t s
same_tid-flip s t = rw (flip s.home.0 t.home.0, flip s.inc t.inc, flip s.seq t.seq) refl

pub same_tid-self : (t : Tid) → same_tid t t ≡ true
same_tid-self t = rw (self t.home.0, self t.inc, self t.seq) refl

pub and_left : (a b : Bool) → (a && b) ≡ true → a ≡ true
and_left true b h = refl
and_left false b h = absurd (cc h)

pub and_right : (a b : Bool) → (a && b) ≡ true → b ≡ true
and_right true b h = h
and_right false b h = absurd (cc h)

pub same_tid-exact : (s t : Tid) → same_tid s t ≡ true → s ≡ t
same_tid-exact s t h =
    let home = same_number s.home.0 t.home.0 (and_left _ _ h) in
    let inc = same_number s.inc t.inc (and_left _ _ (and_right _ _ h)) in
    let seq = same_number s.seq t.seq (and_right _ _ (and_right _ _ h)) in
    ap (λ (n : ℕ). record { home = record { 0 = n }; inc = s.inc; seq = s.seq }) home
    ∙ ap (λ (n : ℕ). record { home = t.home; inc = n; seq = s.seq }) inc
    ∙ ap (λ (n : ℕ). record { home = t.home; inc = t.inc; seq = n }) seq

pub same_server-exact : (s t : ServerNo) → (s.0 == t.0) ≡ true → s ≡ t
same_server-exact s t h = ap (λ (n : ℕ). record { 0 = n }) (same_number s.0 t.0 h)
