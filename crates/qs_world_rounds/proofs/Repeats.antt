-- Visits one after the other, up to one that is cut short, and one round more, whatever is visited.
use Rattle.std.proofs.Common.{◌≡◌, ◌∙◌, ◌<◌, ap, subst, sym, refl, inl, inr, ℕ, zero, suc, ◌+◌, Bool, true, false, ◌||◌, List, [], ◌∷◌, ◌++◌, length, take, drop, get_or, arith}
use Rattle.qs_world_rounds.specs.Repeats.{AllVisits, RoundsBy, Visit, VisitsUpTo}
use Rattle.rand_pcg.specs.Lcg.{Lcg}

take_more : (xs : List ℕ) (i : ℕ) (d : ℕ) → i < length xs → take (suc i) xs ≡ take i xs ++ get_or xs i d ∷ []
take_more [] i d less = absurd (omega (arith, less))
take_more (x ∷ xs) zero d less = refl
take_more (x ∷ xs) (suc i) d less = ap (λ (l : List ℕ). x ∷ l) (take_more xs i d (omega (arith, less)))

split_at : (xs : List ℕ) (i : ℕ) (d : ℕ) → i < length xs → take i xs ++ get_or xs i d ∷ drop (suc i) xs ≡ xs
split_at [] i d less = absurd (omega (arith, less))
split_at (x ∷ xs) zero d less = refl
split_at (x ∷ xs) (suc i) d less = ap (λ (l : List ℕ). x ∷ l) (split_at xs i d (omega (arith, less)))

one_more : (i : ℕ) → i + 1 ≡ suc i
one_more i = omega arith

or_rest : (d e : Bool) → d ≡ false → (d || e) ≡ (e || false)
or_rest d true is = rw is refl
or_rest d false is = rw is refl

or_assoc : (a b e : Bool) → ((a || b) || e) ≡ (a || (b || e))
or_assoc true b e = refl
or_assoc false b e = refl

module _ {S : Type 0} (At : Visit S) where
  pub visits_then : (xs : List ℕ) (p : ℕ) (a b c : S) (d e : Bool) → AllVisits At xs a b d → At p b c e
      → AllVisits At (xs ++ p ∷ []) a c (d || e)
  visits_then [] p a b c d e all visit =
      (c, (e, (false, (subst (λ (x : S). At p x c e) all.0 visit, ((refl, refl), or_rest d e all.1)))))
  visits_then (x ∷ xs) p a b c d e all visit = (
    all.0,
    (
      all.1.0,
      (
        all.1.1.0 || e,
        (
          all.1.1.1.0,
          (
            visits_then xs p all.0 b c all.1.1.0 e all.1.1.1.1.0 visit,
            ap (λ (z : Bool). z || e) all.1.1.1.1.1 ∙ or_assoc all.1.0 all.1.1.0 e,
          ),
        ),
      ),
    ),
  )

  until : (Comes : ℕ → S → S → Type 0) (xs : List ℕ) (p : ℕ) (ys : List ℕ) (a b c : S) (d : Bool) → AllVisits At xs a b d → Comes p b c
      → VisitsUpTo At Comes (xs ++ p ∷ ys) a c
  until Comes [] p ys a b c d all comes = inl (subst (λ (x : S). Comes p x c) all.0 comes)
  until Comes (x ∷ xs) p ys a b c d all comes =
      inr (all.0, (all.1.0, (all.1.1.1.0, until Comes xs p ys all.0 b c all.1.1.0 all.1.1.1.1.0 comes)))

  -- the visit at the next place
  pub visits_more : (xs : List ℕ) (i p q : ℕ) (a b c : S) (d e : Bool) → i < length xs → p ≡ get_or xs i q → AllVisits At (take i xs) a b d
      → At p b c e → AllVisits At (take (i + 1) xs) a c (d || e)
  visits_more xs i p q a b c d e less is all visit =
      subst (λ (l : List ℕ). AllVisits At l a c (d || e))
      (sym (ap (λ (n : ℕ). take n xs) (one_more i) ∙ take_more xs i q less ∙ ap (λ (x : ℕ). take i xs ++ x ∷ []) (sym is)))
      (visits_then (take i xs) p a b c d e all visit)

  -- the place at which the disk failed, or memory was refused
  pub visits_until : (Comes : ℕ → S → S → Type 0) (xs : List ℕ) (i p q : ℕ) (a b c : S) (d : Bool) → i < length xs → p ≡ get_or xs i q
      → AllVisits At (take i xs) a b d → Comes p b c → VisitsUpTo At Comes xs a c
  visits_until Comes xs i p q a b c d less is all comes =
      subst (λ (l : List ℕ). VisitsUpTo At Comes l a c) (ap (λ (x : ℕ). take i xs ++ x ∷ drop (suc i) xs) is ∙ split_at xs i q less)
      (until Comes (take i xs) p (drop (suc i) xs) a b c d all comes)

-- ---- one more round

module _ {S : Type 0} (draw : ℕ → Lcg → List ℕ × Lcg) (count : S → ℕ) (Is : List ℕ → S → S → Bool → Type 0) where
  further : (rng : Lcg) (n : ℕ) (a b c : S) (later : Lcg) (quiet : Bool) → RoundsBy draw count Is rng n a b later
      → Is (draw (count b) later).0 b c quiet → RoundsBy draw count Is rng (suc n) a c (draw (count b) later).1
  further rng zero a b c later quiet all last =
      subst (λ (l : Lcg). RoundsBy draw count Is rng 1 a c (draw (count b) l).1) (sym all.1)
      (subst (λ (x : S). RoundsBy draw count Is rng 1 a c (draw (count x) rng).1) (sym all.0)
      (c, (quiet, (here, (refl, refl)))))
    where
      here : Is (draw (count a) rng).0 a c quiet
      here =
          subst (λ (x : S). Is (draw (count x) rng).0 x c quiet) all.0
          (subst (λ (l : Lcg). Is (draw (count b) l).0 b c quiet) all.1 last)
  further rng (suc n) a b c later quiet all last =
      (all.0, (all.1.0, (all.1.1.0, further (draw (count a) rng).1 n all.0 b c later quiet all.1.1.1 last)))

  pub rounds_more : (rng : Lcg) (n : ℕ) (a b c : S) (later next : Lcg) (quiet : Bool) → RoundsBy draw count Is rng n a b later
      → Is (draw (count b) later).0 b c quiet → next ≡ (draw (count b) later).1 → RoundsBy draw count Is rng (n + 1) a c next
  rounds_more rng n a b c later next quiet all last is =
      subst (λ (k : ℕ). RoundsBy draw count Is rng k a c next) (sym (one_more n))
      (subst (λ (l : Lcg). RoundsBy draw count Is rng (suc n) a c l) (sym is) (further rng n a b c later quiet all last))
