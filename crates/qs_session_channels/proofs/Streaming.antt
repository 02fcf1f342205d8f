-- The messages of a kind of which none waits pass through the channels as through channels of their own.
use Rattle.std.proofs.Common.{◌≡◌, ◌≢◌, ◌⊎◌, Bool, true, false, ℕ, refl, sym, ap, subst, ◌∙◌, arith, List, [], ◌∷◌, ◌++◌, inl, inr}
use Rattle.std.specs.List.{filter}
use Rattle.std.proofs.lemmas.Bool.{cases_eq}
use Rattle.std.proofs.lemmas.Bool.Decides.{nat_tests}
use Rattle.std.proofs.lemmas.List.{append-nil}
use Rattle.std.proofs.lemmas.List.Elements.{filter-append}
use Rattle.qs_session_channels.specs.Channels.{Channels, Move, Wait, Post, Meet, Notice, Hand, Crash, Restart, May, moved, opening, IsNext, with_at4}
use Rattle.qs_session_channels.specs.Streams.{NoneWaits, IsDirect, IsStream, posted_of, handed_of, only_at}
use Rattle.qs_session_channels.proofs.Spots.{spot, at_spot, off_spot}

-- what is appended at one place
grown : {M : Type 0} → (is : M → Bool) (f : ℕ → ℕ → ℕ → ℕ → List M) (a b h k : ℕ) (ys : List M) (n m i j : ℕ)
    → filter is (with_at4 f a b h k (f a b h k ++ ys) n m i j) ≡ filter is (f n m i j) ++ only_at a b h k (filter is ys) n m i j
grown {M} is f a b h k ys n m i j = by (spot a b h k n m i j)
  where
    by : ((n ≡ a) × (m ≡ b) × (i ≡ h) × (j ≡ k)) ⊎ (((n ≡ a) × (m ≡ b) × (i ≡ h) × (j ≡ k)) → ⊥) → filter is (with_at4 f a b h k (f a b h k ++ ys) n m i j) ≡ filter is (f n m i j) ++ only_at a b h k (filter is ys) n m i j
    by (inl e) = rw (e.0, e.1, e.2, e.3, at_spot f a b h k (f a b h k ++ ys), at_spot {A = List M} (λ n m i j. []) a b h k (filter is ys)) (filter-append is (f a b h k) ys)
    by (inr other) = rw (off_spot f a b h k (f a b h k ++ ys) n m i j other, off_spot {A = List M} (λ n m i j. []) a b h k (filter is ys) n m i j other) (sym (append-nil (filter is (f n m i j))))

nothing_there : {M : Type 0} → (a b h k n m i j : ℕ) → only_at {M = M} a b h k [] n m i j ≡ []
nothing_there {M} a b h k n m i j = by (spot a b h k n m i j)
  where
    by : ((n ≡ a) × (m ≡ b) × (i ≡ h) × (j ≡ k)) ⊎ (((n ≡ a) × (m ≡ b) × (i ≡ h) × (j ≡ k)) → ⊥) → only_at {M = M} a b h k [] n m i j ≡ []
    by (inl e) = rw (e.0, e.1, e.2, e.3) (at_spot {A = List M} (λ n m i j. []) a b h k [])
    by (inr other) = off_spot {A = List M} (λ n m i j. []) a b h k [] n m i j other

same : {M : Type 0} → (is : M → Bool) (xs : List M) → filter is xs ≡ filter is xs ++ []
same is xs = sym (append-nil (filter is xs))

pub streams : {M : Type 0} → (is : M → Bool) (move : Move M) (c : Channels M) → NoneWaits is c → May move c → IsStream is move c (moved move c)
streams is (Wait a b x) c none may = record { posted = λ n m i j. same is (c.posted n m i j); handed = λ n m i j. same is (c.handed n m i j) }
streams is (Post a b x) c none may = record { posted = grown is c.posted a b (c.inc a) (c.peer a b) (x ∷ []); handed = λ n m i j. same is (c.handed n m i j) }
streams {M} is (Meet a b l) c none may = record { posted = met; handed = λ n m i j. same is (c.handed n m i j) }
  where
    met : (n m i j : ℕ) → filter is ((moved (Meet a b l) c).posted n m i j) ≡ filter is (c.posted n m i j) ++ []
    met n m i j =
        grown is c.posted a b (c.inc a) l (c.waits a b) n m i j
        ∙ ap (λ (ys : List M). filter is (c.posted n m i j) ++ only_at a b (c.inc a) l ys n m i j) (none a b)
        ∙ ap (λ (ys : List M). filter is (c.posted n m i j) ++ ys) (nothing_there a b (c.inc a) l n m i j)
streams is (Notice a b l) c none may = record { posted = λ n m i j. same is (c.posted n m i j); handed = λ n m i j. same is (c.handed n m i j) }
streams is (Hand a b x) c none may = record { posted = λ n m i j. same is (c.posted n m i j); handed = grown is c.handed b a (c.peer a b) (c.inc a) (x ∷ []) }
streams is (Crash a) c none may = record { posted = λ n m i j. same is (c.posted n m i j); handed = λ n m i j. same is (c.handed n m i j) }
streams is (Restart a h) c none may = record { posted = λ n m i j. same is (c.posted n m i j); handed = λ n m i j. same is (c.handed n m i j) }

kept_out : {M : Type 0} → (is : M → Bool) (x : M) → is x ≡ false → ◌≡◌ {A = List M} (filter is (x ∷ [])) []
kept_out is x off = rw off refl

wait_direct : {M : Type 0} → (is : M → Bool) (a b : ℕ) (x : M) (c : Channels M) → NoneWaits is c → is x ≡ false → NoneWaits is (moved (Wait a b x) c)
wait_direct {M} is a b x c none off n m = grind (arith, nat_tests, none n m, none a b, filter-append is (c.waits a b) (x ∷ []), kept_out is x off)

pub still_direct : {M : Type 0} → (is : M → Bool) (move : Move M) (c : Channels M) → NoneWaits is c → May move c → IsDirect is move → NoneWaits is (moved move c)
still_direct is (Wait a b x) c none may direct = wait_direct is a b x c none direct
still_direct is (Post a b x) c none may direct = none
still_direct is (Meet a b j) c none may direct = λ n m. grind (arith, nat_tests, none n m)
still_direct is (Notice a b j) c none may direct = none
still_direct is (Hand a b x) c none may direct = none
still_direct is (Crash a) c none may direct = none
still_direct is (Restart a h) c none may direct = λ n m. grind (arith, nat_tests, none n m)

of_kind : {M : Type 0} → (is : M → Bool) (x : M) (rest : List M) → is x ≡ true → filter is (x ∷ rest) ≡ x ∷ filter is rest
of_kind is x rest of = rw of refl

pub next_of : {M : Type 0} → (is : M → Bool) (n m : ℕ) (x : M) (c : Channels M) → May (Hand n m x) c → is x ≡ true → IsNext (posted_of is c m n (c.peer n m) (c.inc n)) (handed_of is c m n (c.peer n m) (c.inc n)) x
next_of {M} is n m x c may of = (
  filter is may.2.0,
  ap (filter is) may.2.1
      ∙ filter-append is (c.handed m n (c.peer n m) (c.inc n)) (x ∷ may.2.0)
      ∙ ap (λ (ys : List M). filter is (c.handed m n (c.peer n m) (c.inc n)) ++ ys) (of_kind is x may.2.0 of),
)
