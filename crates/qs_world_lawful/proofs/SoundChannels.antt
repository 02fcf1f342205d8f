-- Channels are sound as a run begins, and after each thing that may happen to them.
use Rattle.qs_world_lawful.proofs.Words.{◌≡◌, ℕ, ◌<◌, ◌≤◌, ◌+◌, ◌++◌, suc, List, [], ◌∷◌, length, refl, sym, ap, subst, ◌∙◌, arith, Channels, with_at, with_at2, Parcel, AreSound, is_zero_plus}
use Rattle.qs_session_channels.specs.Channels as channel
use Rattle.qs_session_channels.specs.Channels.{with_at4}
use Rattle.qs_world_lawful.specs.WayLaws.{EachMovesSoundly, EachOpensSound}
use Rattle.qs_world_lawful.proofs.ParcelsKept.{at_one, at_two}
use Rattle.qs_base_lemmas.proofs.Tests.{lt_lt}

never : {A : Type 0} (n : ℕ) → n < n → A
never n e = absurd (no_less n e)
  where
    no_less : (n : ℕ) → n < n → ⊥
    no_less n e = grind (arith, e)

low : (a b : ℕ) → a ≤ b → b < a → ⊥
low a b e f = grind (arith, e, f)

pub length_both : (xs ys : List Parcel) → length (xs ++ ys) ≡ length xs + length ys
length_both [] ys = is_zero_plus (length ys)
length_both (x ∷ xs) ys = ap suc (length_both xs ys) ∙ suc_plus (length xs) (length ys)
  where
    suc_plus : (m n : ℕ) → suc (m + n) ≡ suc m + n
    suc_plus m n = grind (arith)

longer : (k : ℕ) (xs ys : List Parcel) → k ≤ length xs → k ≤ length (xs ++ ys)
longer k xs ys e = of k (length xs) (length ys) (length (xs ++ ys)) (length_both xs ys) e
  where
    of : (k l m n : ℕ) → n ≡ l + m → k ≤ l → k ≤ n
    of k l m n same e = grind (arith, same, e)

module _ (c : Channels Parcel) (known : (n m : ℕ) → c.peer n m ≤ c.inc m) (s : AreSound c) where
  -- more is posted by the present incarnation, for one that began
  pub more_posted : (n m b : ℕ) (more : List Parcel) → b ≤ c.inc m → AreSound (record c { posted = with_at4 c.posted n m (c.inc n) b (c.posted n m (c.inc n) b ++ more) })
  more_posted n m b more begun = record {
    by_none = λ p q i j late. at_two (λ (p q : ℕ) (g : ℕ → ℕ → List Parcel). (i j : ℕ) → c.inc p < i → g i j ≡ []) c.posted n m (with_at2 (c.posted n m) (c.inc n) b (c.posted n m (c.inc n) b ++ more))
        (at_two (λ (i j : ℕ) (ps : List Parcel). c.inc n < i → ps ≡ []) (c.posted n m) (c.inc n) b (c.posted n m (c.inc n) b ++ more) (λ late. never (c.inc n) late) (λ i j. s.by_none n m i j)) s.by_none p q i j late;
    for_none = λ p q i j late. at_two (λ (p q : ℕ) (g : ℕ → ℕ → List Parcel). (i j : ℕ) → c.inc q < j → g i j ≡ []) c.posted n m (with_at2 (c.posted n m) (c.inc n) b (c.posted n m (c.inc n) b ++ more))
        (at_two (λ (i j : ℕ) (ps : List Parcel). c.inc m < j → ps ≡ []) (c.posted n m) (c.inc n) b (c.posted n m (c.inc n) b ++ more) (λ late. absurd (low b (c.inc m) begun late)) (λ i j. s.for_none n m i j)) s.for_none p q i j late;
    within = λ p q. at_two (λ (p q : ℕ) (g : ℕ → ℕ → List Parcel). (i j : ℕ) → length (c.handed p q i j) ≤ length (g i j)) c.posted n m (with_at2 (c.posted n m) (c.inc n) b (c.posted n m (c.inc n) b ++ more))
        (at_two (λ (i j : ℕ) (ps : List Parcel). length (c.handed n m i j) ≤ length ps) (c.posted n m) (c.inc n) b (c.posted n m (c.inc n) b ++ more) (longer (length (c.handed n m (c.inc n) b)) (c.posted n m (c.inc n) b) more (s.within n m (c.inc n) b)) (s.within n m)) s.within p q;
  }

  pub same_sound : (d : Channels Parcel) → d.inc ≡ c.inc → d.posted ≡ c.posted → d.handed ≡ c.handed → AreSound d
  same_sound d inc posted handed = record {
    by_none = λ n m i j late. ap (λ f. f n m i j) posted ∙ s.by_none n m i j (subst (λ (f : ℕ → ℕ). f n < i) inc late);
    for_none = λ n m i j late. ap (λ f. f n m i j) posted ∙ s.for_none n m i j (subst (λ (f : ℕ → ℕ). f m < j) inc late);
    within = λ n m i j. subst (λ (f : ℕ → ℕ → ℕ → ℕ → List Parcel). length (f n m i j) ≤ length (d.posted n m i j)) (sym handed) (subst (λ (f : ℕ → ℕ → ℕ → ℕ → List Parcel). length (c.handed n m i j) ≤ length (f n m i j)) (sym posted) (s.within n m i j));
  }

  pub moves_soundly : (move : channel.Move Parcel) → channel.May move c → AreSound (channel.moved move c)
  moves_soundly (channel.Wait n m x) may = same_sound (channel.moved (channel.Wait n m x) c) refl refl refl
  moves_soundly (channel.Post n m x) may = more_posted n m (c.peer n m) (x ∷ []) (known n m)
  moves_soundly (channel.Meet n m j) may =
      let p = more_posted n m j (c.waits n m) may.3 in
      record { by_none = p.by_none; for_none = p.for_none; within = p.within }
  moves_soundly (channel.Notice n m j) may = same_sound (channel.moved (channel.Notice n m j) c) refl refl refl
  moves_soundly (channel.Hand n m x) may = record {
    by_none = s.by_none;
    for_none = s.for_none;
    within = λ p q. at_two (λ (p q : ℕ) (g : ℕ → ℕ → List Parcel). (i j : ℕ) → length (g i j) ≤ length (c.posted p q i j)) c.handed m n (with_at2 (c.handed m n) (c.peer n m) (c.inc n) (c.handed m n (c.peer n m) (c.inc n) ++ x ∷ []))
        (at_two (λ (i j : ℕ) (ps : List Parcel). length ps ≤ length (c.posted m n i j)) (c.handed m n) (c.peer n m) (c.inc n) (c.handed m n (c.peer n m) (c.inc n) ++ x ∷ []) own (s.within m n)) s.within p q;
  }
    where
      fits : (h : List Parcel) (rest : List Parcel) (ps : List Parcel) → ps ≡ h ++ x ∷ rest → length (h ++ x ∷ []) ≤ length ps
      fits h rest ps is = of (length h) (length rest) (length (h ++ x ∷ [])) (length ps) (length_both h (x ∷ [])) (ap length is ∙ length_both h (x ∷ rest))
        where
          of : (k r l p : ℕ) → l ≡ k + 1 → p ≡ k + suc r → l ≤ p
          of k r l p e f = grind (arith, e, f)

      own : length (c.handed m n (c.peer n m) (c.inc n) ++ x ∷ []) ≤ length (c.posted m n (c.peer n m) (c.inc n))
      own = fits (c.handed m n (c.peer n m) (c.inc n)) may.2.0 (c.posted m n (c.peer n m) (c.inc n)) may.2.1
  moves_soundly (channel.Crash n) may = same_sound (channel.moved (channel.Crash n) c) refl refl refl
  moves_soundly (channel.Restart n i) may = record {
    by_none = λ p q k j late. s.by_none p q k j (before p k late);
    for_none = λ p q k j late. s.for_none p q k j (before q j late);
    within = s.within;
  }
    where
      before : (p k : ℕ) → with_at c.inc n i p < k → c.inc p < k
      before p k = at_one (λ (p l : ℕ). l < k → c.inc p < k) c.inc n i (λ late. lt_lt (c.inc n) i k may.1 late) (λ p late. late) p

pub opens_sound : EachOpensSound
opens_sound o = record { by_none = λ n m i j late. refl; for_none = λ n m i j late. refl; within = λ n m i j. none }
  where
    none : 0 ≤ 0
    none = grind (arith)

pub all_soundly : EachMovesSoundly
all_soundly move c may known s = moves_soundly c known s move may
