-- What holds of all that is sent holds of what is handed up, since that is one of the messages that were posted.
use Rattle.std.proofs.Common.{◌≡◌, ◌≢◌, ◌⊎◌, ℕ, sym, subst, arith, List, [], ◌∷◌, ◌++◌, inl, inr}
use Rattle.std.specs.List.{All}
use Rattle.std.proofs.lemmas.Bool.{cases_eq}
use Rattle.std.proofs.lemmas.Bool.Decides.{nat_tests}
use Rattle.std.proofs.lemmas.List.Elements.{All-append, All-head, All-nil, All-push, All-tail, All-weaker}
use Rattle.qs_session_channels.specs.Network.{with_at, with_at2}
use Rattle.qs_session_channels.specs.Channels.{Channels, Move, Wait, Post, Meet, Notice, Hand, Crash, Restart, May, moved, opening, with_at4}
use Rattle.qs_session_channels.specs.Streams.{AllSaid, SaysWell, HearsWell}
use Rattle.qs_session_channels.proofs.Spots.{spot, at_spot, off_spot}

middle : {M : Type 0} → (P : M → Type 0) (hs rest : List M) (x : M) → All P (hs ++ x ∷ rest) → P x
middle P [] rest x h = All-head P x rest h
middle P (y ∷ hs) rest x h = middle P hs rest x (All-tail P y (hs ++ x ∷ rest) h)

pub hears_well : {M : Type 0} → (P : ℕ → ℕ → ℕ → M → Type 0) (move : Move M) (c : Channels M) → AllSaid P c → May move c → HearsWell P move c
hears_well P (Wait n m x) c s may = tt
hears_well P (Post n m x) c s may = tt
hears_well P (Meet n m j) c s may = tt
hears_well P (Notice n m j) c s may = tt
hears_well P (Hand n m x) c s may = middle (P m (c.peer n m) n) (c.handed m n (c.peer n m) (c.inc n)) may.2.0 x (subst (All (P m (c.peer n m) n)) may.2.1 (s.posted m n (c.peer n m) (c.inc n)))
hears_well P (Crash n) c s may = tt
hears_well P (Restart n i) c s may = tt

all_at4 : {M : Type 0} → (P : ℕ → ℕ → ℕ → M → Type 0) (f : ℕ → ℕ → ℕ → ℕ → List M) (a b h k : ℕ) (xs : List M) → ((n m i j : ℕ) → All (P n i m) (f n m i j)) → All (P a h b) xs
    → (n m i j : ℕ) → All (P n i m) (with_at4 f a b h k xs n m i j)
all_at4 P f a b h k xs old new n m i j = by (spot a b h k n m i j)
  where
    by : ((n ≡ a) × (m ≡ b) × (i ≡ h) × (j ≡ k)) ⊎ (((n ≡ a) × (m ≡ b) × (i ≡ h) × (j ≡ k)) → ⊥) → All (P n i m) (with_at4 f a b h k xs n m i j)
    by (inl e) = rw (e.0, e.1, e.2, e.3) (subst (All (P a h b)) (sym (at_spot f a b h k xs)) new)
    by (inr other) = subst (All (P n i m)) (sym (off_spot f a b h k xs n m i j other)) (old n m i j)

at_pair : {A : Type 0} → (f : ℕ → ℕ → A) (a b : ℕ) (x : A) → with_at2 f a b x a b ≡ x
at_pair f a b x = grind (arith, nat_tests)

off_first : {A : Type 0} → (f : ℕ → ℕ → A) (a b : ℕ) (x : A) (n m : ℕ) → n ≢ a → with_at2 f a b x n m ≡ f n m
off_first f a b x n m other = grind (arith, nat_tests, other)

off_second : {A : Type 0} → (f : ℕ → ℕ → A) (a b : ℕ) (x : A) (n m : ℕ) → m ≢ b → with_at2 f a b x n m ≡ f n m
off_second f a b x n m other = grind (arith, nat_tests, other)

all_at2 : {M : Type 0} → (P : ℕ → ℕ → M → Type 0) (f : ℕ → ℕ → List M) (a b : ℕ) (xs : List M) → ((n m : ℕ) → All (P n m) (f n m)) → All (P a b) xs → (n m : ℕ) → All (P n m) (with_at2 f a b xs n m)
all_at2 P f a b xs old new n m = by (cases_eq n a) (cases_eq m b)
  where
    by : (n ≡ a) ⊎ (n ≢ a) → (m ≡ b) ⊎ (m ≢ b) → All (P n m) (with_at2 f a b xs n m)
    by (inl p) (inl q) = rw (p, q) (subst (All (P a b)) (sym (at_pair f a b xs)) new)
    by (inr p) q = subst (All (P n m)) (sym (off_first f a b xs n m p)) (old n m)
    by p (inr q) = subst (All (P n m)) (sym (off_second f a b xs n m q)) (old n m)

-- a restart leaves nothing that waits
none_wait : {M : Type 0} → (P : ℕ → ℕ → ℕ → M → Type 0) (c : Channels M) (a h : ℕ) → AllSaid P c → (n m : ℕ) → All (P n (with_at c.inc a h n) m) (with_at c.waits a (λ l. []) n m)
none_wait {M} P c a h s n m = by (cases_eq n a)
  where
    by : (n ≡ a) ⊎ (n ≢ a) → All (P n (with_at c.inc a h n) m) (with_at c.waits a (λ l. []) n m)
    by (inl p) = let e : with_at c.waits a (λ l. []) n m ≡ [] = grind (arith, nat_tests, p) in rw e (All-nil (P n (with_at c.inc a h n) m))
    by (inr p) =
        let e : with_at c.waits a (λ l. []) n m ≡ c.waits n m = grind (arith, nat_tests, p) in
        let f : with_at c.inc a h n ≡ c.inc n = grind (arith, nat_tests, p) in
        rw (e, f) (s.waits n m)

pub still_said : {M : Type 0} → (P : ℕ → ℕ → ℕ → M → Type 0) (move : Move M) (c : Channels M) → AllSaid P c → May move c → SaysWell P move c → AllSaid P (moved move c)
still_said P (Wait a b x) c s may says = record {
  posted = s.posted;
  waits = all_at2 (λ n m. P n (c.inc n) m) c.waits a b (c.waits a b ++ x ∷ []) s.waits (All-push (P a (c.inc a) b) (c.waits a b) x (s.waits a b) says);
}
still_said P (Post a b x) c s may says = record {
  posted = all_at4 P c.posted a b (c.inc a) (c.peer a b) (c.posted a b (c.inc a) (c.peer a b) ++ x ∷ []) s.posted (All-push (P a (c.inc a) b) (c.posted a b (c.inc a) (c.peer a b)) x (s.posted a b (c.inc a) (c.peer a b)) says);
  waits = s.waits;
}
still_said P (Meet a b j) c s may says = record {
  posted = all_at4 P c.posted a b (c.inc a) j (c.posted a b (c.inc a) j ++ c.waits a b) s.posted (All-append (P a (c.inc a) b) (c.posted a b (c.inc a) j) (c.waits a b) (s.posted a b (c.inc a) j) (s.waits a b));
  waits = all_at2 (λ n m. P n (c.inc n) m) c.waits a b [] s.waits (All-nil (P a (c.inc a) b));
}
still_said P (Notice a b j) c s may says = record { posted = s.posted; waits = s.waits }
still_said P (Hand a b x) c s may says = record { posted = s.posted; waits = s.waits }
still_said P (Crash a) c s may says = record { posted = s.posted; waits = s.waits }
still_said P (Restart a h) c s may says = record { posted = s.posted; waits = none_wait P c a h s }

pub said_opening : {M : Type 0} → (P : ℕ → ℕ → ℕ → M → Type 0) (inc : ℕ → ℕ) → AllSaid P (opening inc)
said_opening P inc = record { posted = λ n m i j. All-nil (P n i m); waits = λ n m. All-nil (P n (inc n) m) }

pub said_weaker : {M : Type 0} → (P Q : ℕ → ℕ → ℕ → M → Type 0) (c : Channels M) → AllSaid P c → ((n i m : ℕ) (x : M) → P n i m x → Q n i m x) → AllSaid Q c
said_weaker P Q c s on = record {
  posted = λ n m i j. All-weaker (P n i m) (Q n i m) (on n i m) (c.posted n m i j) (s.posted n m i j);
  waits = λ n m. All-weaker (P n (c.inc n) m) (Q n (c.inc n) m) (on n (c.inc n) m) (c.waits n m) (s.waits n m);
}
