-- What holds of the channels between incarnations is kept by each of their moves that a world makes.
use Rattle.qs_world_refine.proofs.Words.{◌≡◌, ◌⊎◌, inl, inr, ℕ, ◌<◌, ◌≤◌, ◌==◌, ◌&&◌, not, Bool, true, false, List, [], ◌∷◌, ◌++◌, length, Some, refl, sym, ap, subst, ◌∙◌, arith, if◌then◌else◌, eqb-true, nat_tests, Channels, Sending, post_all, Parcel}
use Rattle.std.specs.Prelude.{slice_get}
use Rattle.qs_session_channels.specs.Channels as channel
use Rattle.qs_session_channels.specs.Channels.{with_at4}
use Rattle.qs_session_channels.specs.Laws.{IsOrdered}
use Rattle.qs_session_channels.specs.Network.{with_at, with_at2}
use Rattle.qs_world_refine.proofs.Posted.{parcels, inc_all, peer_all, handed_all, posted_all}
use Rattle.qs_world_refine.proofs.SaysOn.{append_three}
use Rattle.qs_base_lemmas.proofs.Tests.{zero_le, le_le, le_lt}

pub record IsWell (c : Channels Parcel) : Type 0 where
  pub known : (n m : ℕ) → c.peer n m ≤ c.inc m
  pub ordered : IsOrdered c
  pub unborn : (n m i j : ℕ) → (c.inc n < i) ⊎ (c.inc m < j) → c.posted n m i j ≡ []
  pub unknown : (n m j : ℕ) → c.peer n m < j → c.posted n m (c.inc n) j ≡ []

-- ---- one of four

pub record IsAtFour (n m i j p q k l : ℕ) : Type 0 where
  pub first : p ≡ n
  pub second : q ≡ m
  pub third : k ≡ i
  pub fourth : l ≡ j

-- the value is the new one there, and the old one elsewhere
pub four_at : {A : Type 0} (P : A → Type 0) (f : ℕ → ℕ → ℕ → ℕ → A) (n m i j : ℕ) (x : A) (p q k l : ℕ) → (IsAtFour n m i j p q k l → P x) → ((IsAtFour n m i j p q k l → ⊥) → P (f p q k l)) → P (with_at4 f n m i j x p q k l)
four_at {A} P f n m i j x p q k l here there = outer (p == n) refl (q == m) refl
  where
    inner : p ≡ n → q ≡ m → (c : Bool) → (k == i) ≡ c → (d : Bool) → (l == j) ≡ d → P (if c then (if d then x else f n m k l) else f n m k l)
    inner a b true c true d = here (record { first = a; second = b; third = eqb-true k i c; fourth = eqb-true l j d })
    inner a b true c false d = subst (λ (v : A). P v) (rw (a, b) refl) (there (λ is. let l_is = is.fourth in grind (arith, nat_tests, d, l_is)))
    inner a b false c d e = subst (λ (v : A). P v) (rw (a, b) refl) (there (λ is. let k_is = is.third in grind (arith, nat_tests, c, k_is)))

    outer : (a : Bool) → (p == n) ≡ a → (b : Bool) → (q == m) ≡ b → P ((if a then (if b then (λ (s t : ℕ). if s == i then (if t == j then x else f n m s t) else f n m s t) else f p q) else f p q) k l)
    outer true a true b = inner (eqb-true p n a) (eqb-true q m b) (k == i) refl (l == j) refl
    outer true a false b = there (λ is. let q_is = is.second in grind (arith, nat_tests, b, q_is))
    outer false a b c = there (λ is. let p_is = is.first in grind (arith, nat_tests, a, p_is))

-- ---- a message is handed up

pub next_is : {A : Type 0} (front rest : List A) (x : A) → slice_get (front ++ rest) (length front) ≡ Some x → (more : List A) × (rest ≡ x ∷ more)
next_is [] [] x is = absurd (cc (is))
next_is {A} [] (y ∷ more) x is = let same : y ≡ x = cc (is) in (more, ap (λ (z : A). z ∷ more) same)
next_is (y ∷ front) rest x is = next_is front rest x is

pub well_hand : (c : Channels Parcel) (n m : ℕ) (x : Parcel) → slice_get (c.posted m n (c.peer n m) (c.inc n)) (length (c.handed m n (c.peer n m) (c.inc n))) ≡ Some x → IsWell c → IsWell (channel.moved (channel.Hand n m x) c)
well_hand c n m x next w = record {
  known = w.known;
  ordered = λ p q k l. four_at (λ (h : List Parcel). (rest : List Parcel) × (c.posted p q k l ≡ h ++ rest)) c.handed m n (c.peer n m) (c.inc n) (c.handed m n (c.peer n m) (c.inc n) ++ x ∷ []) p q k l
      (λ is. rw (is.first, is.second, is.third, is.fourth) (here (w.ordered m n (c.peer n m) (c.inc n)))) (λ _. w.ordered p q k l);
  unborn = w.unborn;
  unknown = w.unknown;
}
  where
    here : (rest : List Parcel) × (c.posted m n (c.peer n m) (c.inc n) ≡ c.handed m n (c.peer n m) (c.inc n) ++ rest)
        → (rest : List Parcel) × (c.posted m n (c.peer n m) (c.inc n) ≡ (c.handed m n (c.peer n m) (c.inc n) ++ x ∷ []) ++ rest)
    here all =
        let more : (more : List Parcel) × (all.0 ≡ x ∷ more) = next_is (c.handed m n (c.peer n m) (c.inc n)) all.0 x (subst (λ (l : List Parcel). slice_get l (length (c.handed m n (c.peer n m) (c.inc n))) ≡ Some x) all.1 next) in
        (more.0, all.1 ∙ (ap (λ (l : List Parcel). c.handed m n (c.peer n m) (c.inc n) ++ l) more.1 ∙ sym (append_three (c.handed m n (c.peer n m) (c.inc n)) (x ∷ []) more.0)))

-- ---- sessions

pub two_at : {A : Type 0} (P : A → Type 0) (f : ℕ → ℕ → A) (n m : ℕ) (x : A) (p q : ℕ) → (p ≡ n → q ≡ m → P x) → ((p ≡ n → q ≡ m → ⊥) → P (f p q)) → P (with_at2 f n m x p q)
two_at {A} P f n m x p q here there = by (p == n) refl (q == m) refl
  where
    by : (a : Bool) → (p == n) ≡ a → (b : Bool) → (q == m) ≡ b → P (if a then (if b then x else f p q) else f p q)
    by true a true b = here (eqb-true p n a) (eqb-true q m b)
    by true a false b = there (λ _ is. grind (arith, nat_tests, b, is))
    by false a b c = there (λ is _. grind (arith, nat_tests, a, is))

pub well_notice : (c : Channels Parcel) (n m new : ℕ) → c.peer n m < new → new ≤ c.inc m → IsWell c → IsWell (channel.moved (channel.Notice n m new) c)
well_notice c n m new later begun w = record {
  known = λ p q. two_at (λ (k : ℕ). k ≤ c.inc q) c.peer n m new p q (λ _ is. rw is begun) (λ _. w.known p q);
  ordered = w.ordered;
  unborn = w.unborn;
  unknown = λ p q j past. w.unknown p q j (less p q j (rises p q) past);
}
  where
    rises : (p q : ℕ) → c.peer p q ≤ with_at2 c.peer n m new p q
    rises p q = two_at (λ (k : ℕ). c.peer p q ≤ k) c.peer n m new p q (λ a b. rw (a, b) (omega (arith, later))) (λ _. omega (arith))

    less : (p q j : ℕ) → c.peer p q ≤ with_at2 c.peer n m new p q → with_at2 c.peer n m new p q < j → c.peer p q < j
    less p q j a b = omega (arith, a, b)

pub well_meet : (c : Channels Parcel) (n m j : ℕ) → c.peer n m ≡ 0 → 1 ≤ j → j ≤ c.inc m → IsWell c → IsWell (channel.moved (channel.Meet n m j) c)
well_meet c n m j none some begun w = record {
  known = λ p q. two_at (λ (k : ℕ). k ≤ c.inc q) c.peer n m j p q (λ _ is. rw is begun) (λ _. w.known p q);
  ordered = λ p q k l. four_at (λ (t : List Parcel). (rest : List Parcel) × (t ≡ c.handed p q k l ++ rest)) c.posted n m (c.inc n) j (c.posted n m (c.inc n) j ++ c.waits n m) p q k l
      (λ is. rw (is.first, is.second, is.third, is.fourth) (here (w.ordered n m (c.inc n) j))) (λ _. w.ordered p q k l);
  unborn = λ p q k l late. four_at (λ (t : List Parcel). t ≡ []) c.posted n m (c.inc n) j (c.posted n m (c.inc n) j ++ c.waits n m) p q k l
      (λ is. absurd (never p q k l is late)) (λ _. w.unborn p q k l late);
  unknown = λ p q l past. four_at (λ (t : List Parcel). t ≡ []) c.posted n m (c.inc n) j (c.posted n m (c.inc n) j ++ c.waits n m) p q (c.inc p) l
      (λ is. absurd (known_now p q l is past)) (λ _. w.unknown p q l (less p q l (rises p q) past));
}
  where
    here : (rest : List Parcel) × (c.posted n m (c.inc n) j ≡ c.handed n m (c.inc n) j ++ rest) → (rest : List Parcel) × (c.posted n m (c.inc n) j ++ c.waits n m ≡ c.handed n m (c.inc n) j ++ rest)
    here all = (all.0 ++ c.waits n m, ap (λ (t : List Parcel). t ++ c.waits n m) all.1 ∙ append_three (c.handed n m (c.inc n) j) all.0 (c.waits n m))

    never : (p q k l : ℕ) → IsAtFour n m (c.inc n) j p q k l → (c.inc p < k) ⊎ (c.inc q < l) → ⊥
    never p q k l is late = by (rw (is.first, is.second, is.third, is.fourth) at late)
      where
        by : (c.inc n < c.inc n) ⊎ (c.inc m < j) → ⊥
        by (inl past) = omega (arith, past)
        by (inr past) = omega (arith, past, begun)

    known_now : (p q l : ℕ) → IsAtFour n m (c.inc n) j p q (c.inc p) l → with_at2 c.peer n m j p q < l → ⊥
    known_now p q l is past = by (rw (is.first, is.second, is.fourth) at past)
      where
        here_is : with_at2 c.peer n m j n m ≡ j
        here_is = grind (arith, nat_tests)

        by : with_at2 c.peer n m j n m < j → ⊥
        by past = let same = here_is in omega (arith, same, past)

    rises : (p q : ℕ) → c.peer p q ≤ with_at2 c.peer n m j p q
    rises p q = two_at (λ (k : ℕ). c.peer p q ≤ k) c.peer n m j p q (λ a b. rw (a, b) (omega (arith, none))) (λ _. omega (arith))

    less : (p q l : ℕ) → c.peer p q ≤ with_at2 c.peer n m j p q → with_at2 c.peer n m j p q < l → c.peer p q < l
    less p q l a b = omega (arith, a, b)

pub well_crash : (c : Channels Parcel) (n : ℕ) → IsWell c → IsWell (channel.moved (channel.Crash n) c)
well_crash c n w = record { known = w.known; ordered = w.ordered; unborn = w.unborn; unknown = w.unknown }

pub well_restart : (c : Channels Parcel) (n i : ℕ) → c.inc n < i → IsWell c → IsWell (channel.moved (channel.Restart n i) c)
well_restart c n i later w = record {
  known = λ p q. known_at p q (p == n) refl;
  ordered = w.ordered;
  unborn = λ p q k l late. w.unborn p q k l (earlier p q k l late);
  unknown = λ p q j past. unknown_at p q j (p == n) refl past;
}
  where
    rises : (p : ℕ) → c.inc p ≤ with_at c.inc n i p
    rises p = by (p == n) refl
      where
        by : (b : Bool) → (p == n) ≡ b → c.inc p ≤ (if b then i else c.inc p)
        by true is = rw (eqb-true p n is) (omega (arith, later))
        by false is = omega (arith)

    known_at : (p q : ℕ) (b : Bool) → (p == n) ≡ b → (if b then (λ (m : ℕ). 0) else c.peer p) q ≤ with_at c.inc n i q
    known_at p q true is = zero_le (with_at c.inc n i q)
    known_at p q false is = le_le (c.peer p q) (c.inc q) (with_at c.inc n i q) (w.known p q) (rises q)

    earlier : (p q k l : ℕ) → (with_at c.inc n i p < k) ⊎ (with_at c.inc n i q < l) → (c.inc p < k) ⊎ (c.inc q < l)
    earlier p q k l (inl past) = inl (le_lt (c.inc p) (with_at c.inc n i p) k (rises p) past)
    earlier p q k l (inr past) = inr (le_lt (c.inc q) (with_at c.inc n i q) l (rises q) past)

    unknown_at : (p q j : ℕ) (b : Bool) → (p == n) ≡ b → (if b then (λ (m : ℕ). 0) else c.peer p) q < j → c.posted p q (if b then i else c.inc p) j ≡ []
    unknown_at p q j true is past = w.unborn p q i j (inl (rw (eqb-true p n is) later))
    unknown_at p q j false is past = w.unknown p q j past

-- ---- messages are put

pub well_post : (n stamp : ℕ) (sendings : List Sending) (c : Channels Parcel) → IsWell c → IsWell (post_all n stamp sendings c)
well_post n stamp sendings c w = record {
  known = λ p q. rw (peer_all n stamp sendings c, inc_all n stamp sendings c) (w.known p q);
  ordered = λ p q k l. rw (handed_all n stamp sendings c, posted_all n stamp sendings c p q k l) (more (is_put p q k l) (c.handed p q k l) (c.posted p q k l) (w.ordered p q k l) (parcels n stamp q sendings));
  unborn = λ p q k l late. posted_all n stamp sendings c p q k l ∙ none (is_put p q k l) (c.posted p q k l) (parcels n stamp q sendings) (λ is. never p q k l is (rw (inc_all n stamp sendings c) at late)) (w.unborn p q k l (rw (inc_all n stamp sendings c) at late));
  unknown = λ p q j past. rw (inc_all n stamp sendings c) (posted_all n stamp sendings c p q (c.inc p) j ∙ none (is_put p q (c.inc p) j) (c.posted p q (c.inc p) j) (parcels n stamp q sendings) (λ is. known_now p q j is (rw (peer_all n stamp sendings c) at past)) (w.unknown p q j (rw (peer_all n stamp sendings c) at past)));
}
  where
    is_put : ℕ → ℕ → ℕ → ℕ → Bool
    is_put p q k l = (p == n) && ((k == c.inc n) && ((l == c.peer n q) && not (l == 0)))

    more : (b : Bool) (h t : List Parcel) → (rest : List Parcel) × (t ≡ h ++ rest) → (x : List Parcel) → (rest : List Parcel) × ((if b then t ++ x else t) ≡ h ++ rest)
    more true h t all x = (all.0 ++ x, ap (λ (l : List Parcel). l ++ x) all.1 ∙ append_three h all.0 x)
    more false h t all x = all

    none : (b : Bool) (t x : List Parcel) → (b ≡ true → ⊥) → t ≡ [] → (if b then t ++ x else t) ≡ []
    none true t x never is = absurd (never refl)
    none false t x never is = is

    its : (p q k l : ℕ) → is_put p q k l ≡ true → (p ≡ n) × ((k ≡ c.inc n) × (l ≡ c.peer n q))
    its p q k l is = by (p == n) (k == c.inc n) (l == c.peer n q) (l == 0) refl refl refl is
      where
        by : (a b d e : Bool) → (p == n) ≡ a → (k == c.inc n) ≡ b → (l == c.peer n q) ≡ d → (a && (b && (d && not e))) ≡ true → (p ≡ n) × ((k ≡ c.inc n) × (l ≡ c.peer n q))
        by true true true e x y z is = (eqb-true p n x, (eqb-true k (c.inc n) y, eqb-true l (c.peer n q) z))
        by false b d e x y z is = absurd (cc (is))
        by true false d e x y z is = absurd (cc (is))
        by true true false e x y z is = absurd (cc (is))

    never : (p q k l : ℕ) → is_put p q k l ≡ true → (c.inc p < k) ⊎ (c.inc q < l) → ⊥
    never p q k l is (inl past) = let at = its p q k l is in let same : k ≡ c.inc p = at.1.0 ∙ ap c.inc (sym at.0) in omega (arith, same, past)
    never p q k l is (inr past) = let at = its p q k l is in let same = at.1.1 in let below = w.known n q in omega (arith, same, below, past)

    known_now : (p q j : ℕ) → is_put p q (c.inc p) j ≡ true → c.peer p q < j → ⊥
    known_now p q j is past = let at = its p q (c.inc p) j is in let same : j ≡ c.peer p q = at.1.1 ∙ ap (λ (k : ℕ). c.peer k q) (sym at.0) in omega (arith, same, past)
