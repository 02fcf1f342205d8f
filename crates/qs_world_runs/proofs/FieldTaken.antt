-- A request that comes leaves its way and waits at its server: as many are there.
use Rattle.qs_world_runs.proofs.Words.{◌≡◌, ℕ, ◌+◌, ◌-◌, ◌<◌, ◌≤◌, ◌==◌, ◌&&◌, Bool, true, false, List, [], ◌∷◌, ◌++◌, length, map, Some, zero, suc, refl, sym, ap, subst, ◌∙◌, arith, if◌then◌else◌, le_refl, eqb-true, and_parts, nat_tests, drop, slice_get, ServerNo, Tid, Channels, Message, Parcel, World, pending, pending_from, asked, field_of, message_of, eqb-self, same_Some}
use Rattle.qs_session_channels.specs.Channels as channel
use Rattle.qs_world_runs.proofs.PlacesLeft.{asked_more}

-- ---- the first of what is on its way leaves it

module _ (t : Tid) (server : ServerNo) (number : ℕ) where
  abbrev ask : List Parcel → ℕ
  ask ps = asked t server number (map message_of ps)

  pub ask_more : (xs ys : List Parcel) → ask (xs ++ ys) ≡ ask xs + ask ys
  ask_more xs ys = ap (asked t server number) (mapped xs ys) ∙ asked_more t server number (map message_of xs) (map message_of ys)
    where
      mapped : (xs ys : List Parcel) → map message_of (xs ++ ys) ≡ map message_of xs ++ map message_of ys
      mapped [] ys = refl
      mapped (x ∷ xs) ys = ap (λ (rest : List Message). x.message ∷ rest) (mapped xs ys)

  -- behind the first incarnation all is as it was
  behind : (f g : ℕ → List Parcel) (k : ℕ) → ((i : ℕ) → k < i → f i ≡ g i) → (i more : ℕ) → k < i → ask (pending_from f i more) ≤ ask (pending_from g i more)
  behind f g k each i zero low = le_refl 0
  behind f g k each i (suc more) low = sums (ask (f i ++ pending_from f (suc i) more)) (ask (g i ++ pending_from g (suc i) more)) (ask (f i)) (ask (g i)) (ask (pending_from f (suc i) more)) (ask (pending_from g (suc i) more))
      (ask_more (f i) (pending_from f (suc i) more)) (ask_more (g i) (pending_from g (suc i) more)) (ap ask (each i low)) (behind f g k each (suc i) more (later k i low))
    where
      later : (k i : ℕ) → k < i → k < suc i
      later k i p = omega (arith, p)

      sums : (a b c d e h : ℕ) → a ≡ c + e → b ≡ d + h → c ≡ d → e ≤ h → a ≤ b
      sums a b c d e h p q r m = omega (arith, p, q, r, m)

  pub first_less : (f g : ℕ → List Parcel) (k : ℕ) (x : Parcel) → f k ≡ x ∷ g k → ((i : ℕ) → k < i → f i ≡ g i) → (more : ℕ) → ask (pending_from f k more) ≤ ask (pending_from g k more) + asked t server number (x.message ∷ [])
  first_less f g k x first each zero = none (asked t server number (x.message ∷ []))
    where
      none : (a : ℕ) → 0 ≤ 0 + a
      none a = omega arith
  first_less f g k x first each (suc more) = sums (ask (f k ++ pending_from f (suc k) more)) (ask (g k ++ pending_from g (suc k) more)) (ask (f k)) (ask (g k)) (ask (pending_from f (suc k) more)) (ask (pending_from g (suc k) more)) (asked t server number (x.message ∷ []))
      (ask_more (f k) (pending_from f (suc k) more)) (ask_more (g k) (pending_from g (suc k) more)) (ap ask first ∙ ask_more (x ∷ []) (g k)) (behind f g k each (suc k) more (above k))
    where
      above : (k : ℕ) → k < suc k
      above k = omega arith

      sums : (a b c d e h y : ℕ) → a ≡ c + e → b ≡ d + h → c ≡ y + d → e ≤ h → a ≤ b + y
      sums a b c d e h y p q r m = omega (arith, p, q, r, m)

-- ---- a channel of which one more was handed up

rest_of : (posted : List Parcel) (k : ℕ) (x : Parcel) → slice_get posted k ≡ Some x → drop k posted ≡ x ∷ drop (suc k) posted
rest_of [] zero x is = absurd (cc is)
rest_of [] (suc k) x is = absurd (cc is)
rest_of (p ∷ posted) zero x is = ap (λ (y : Parcel). y ∷ posted) (same_Some p x is)
rest_of (p ∷ posted) (suc k) x is = rest_of posted k x is

longer : (xs : List Parcel) (x : Parcel) → length (xs ++ x ∷ []) ≡ suc (length xs)
longer [] x = refl
longer (y ∷ xs) x = ap suc (longer xs x)

module _ (t : Tid) (world : World) (n m : ℕ) (parcel : Parcel) (next : slice_get (world.channels.posted m n (world.channels.peer n m) (world.channels.inc n)) (length (world.channels.handed m n (world.channels.peer n m) (world.channels.inc n))) ≡ Some parcel) where
  abbrev c : Channels Parcel
  c = world.channels

  abbrev d : Channels Parcel
  d = channel.moved (channel.Hand n m parcel) c

  abbrev pub handed_world : World
  handed_world = record world { channels = d }

  -- at its place one less, and elsewhere as many
  here : pending c m n (c.peer n m) (c.inc n) ≡ parcel ∷ pending d m n (c.peer n m) (c.inc n)
  here = rest_of (c.posted m n (c.peer n m) (c.inc n)) (length (c.handed m n (c.peer n m) (c.inc n))) parcel next ∙ ap (λ (k : ℕ). parcel ∷ drop k (c.posted m n (c.peer n m) (c.inc n))) (sym (ap length at_place ∙ longer (c.handed m n (c.peer n m) (c.inc n)) parcel))
    where
      at_place : d.handed m n (c.peer n m) (c.inc n) ≡ c.handed m n (c.peer n m) (c.inc n) ++ parcel ∷ []
      at_place = picked (m == m) (n == n) (c.peer n m == c.peer n m) (c.inc n == c.inc n) (eqb-self m) (eqb-self n) (eqb-self (c.peer n m)) (eqb-self (c.inc n))
        where
          picked : (p q r s : Bool) → p ≡ true → q ≡ true → r ≡ true → s ≡ true
              → (if p then (if q then (λ (k l : ℕ). if k == c.peer n m then (if l == c.inc n then c.handed m n (c.peer n m) (c.inc n) ++ parcel ∷ [] else c.handed m n k l) else c.handed m n k l) else c.handed m n) else c.handed m n) (c.peer n m) (c.inc n)
              ≡ c.handed m n (c.peer n m) (c.inc n) ++ parcel ∷ []
          picked p q r s pe qe re se = rw (pe, qe) (inner (c.peer n m == c.peer n m) (c.inc n == c.inc n) (eqb-self (c.peer n m)) (eqb-self (c.inc n)))
            where
              inner : (r s : Bool) → r ≡ true → s ≡ true → (if r then (if s then c.handed m n (c.peer n m) (c.inc n) ++ parcel ∷ [] else c.handed m n (c.peer n m) (c.inc n)) else c.handed m n (c.peer n m) (c.inc n)) ≡ c.handed m n (c.peer n m) (c.inc n) ++ parcel ∷ []
              inner r s re se = rw (re, se) refl

  -- another channel is as it was
  elsewhere : (p q i j : ℕ) → ((p == m) && ((q == n) && (i == c.peer n m))) ≡ false → pending d p q i j ≡ pending c p q i j
  elsewhere p q i j far = ap (λ (xs : List Parcel). drop (length xs) (c.posted p q i j)) (by (p == m) (q == n) (i == c.peer n m) refl refl refl far)
    where
      by : (a b e : Bool) → (p == m) ≡ a → (q == n) ≡ b → (i == c.peer n m) ≡ e → ((p == m) && ((q == n) && (i == c.peer n m))) ≡ false → d.handed p q i j ≡ c.handed p q i j
      by false b e pm qn ip far = rw pm refl
      by true false e pm qn ip far = rw (pm, qn) refl
      by true true false pm qn ip far = rw (pm, qn, ip) (ap (λ (l : ℕ). c.handed l n i j) (sym (eqb-true p m pm)) ∙ ap (λ (l : ℕ). c.handed p l i j) (sym (eqb-true q n qn)))
      by true true true pm qn ip far = absurd (cc (rw (pm, qn, ip) at far))

  -- ---- all that is on its way

  abbrev own : ℕ → ℕ → Bool
  own p q = (p == m) && (q == n)

  same_from : (f g : ℕ → List Parcel) → ((i : ℕ) → f i ≡ g i) → (i more : ℕ) → pending_from f i more ≡ pending_from g i more
  same_from f g each i zero = refl
  same_from f g each i (suc more) = ap (λ (ps : List Parcel). ps ++ pending_from f (suc i) more) (each i) ∙ ap (λ (ps : List Parcel). g i ++ ps) (same_from f g each (suc i) more)

  pub sent_less : (p q : ℕ) (server : ServerNo) (number : ℕ) → asked t server number ((field_of world).sent p q) ≤ asked t server number ((field_of handed_world).sent p q) + (if own p q then asked t server number (parcel.message ∷ []) else 0)
  sent_less p q server number = by (own p q) refl
    where
      same_less : (a b : ℕ) → a ≡ b → a ≤ b + 0
      same_less a b e = omega (arith, e)

      off : (a b e : Bool) → (a && b) ≡ false → (a && (b && e)) ≡ false
      off true true e so = absurd (cc so)
      off true false e so = refl
      off false b e so = refl

      last : (a b e : Bool) → e ≡ false → (a && (b && e)) ≡ false
      last true true e so = so
      last true false e so = refl
      last false b e so = refl

      later : (k i : ℕ) → k < i → (i == k) ≡ false
      later k i low = grind (arith, nat_tests, low)

      first : asked t server number ((field_of world).sent m n) ≤ asked t server number ((field_of handed_world).sent m n) + asked t server number (parcel.message ∷ [])
      first = first_less t server number (λ i. pending c m n i (c.inc n)) (λ i. pending d m n i (c.inc n)) (c.peer n m) parcel here
          (λ i low. sym (elsewhere m n i (c.inc n) (last (m == m) (n == n) (i == c.peer n m) (later (c.peer n m) i low)))) ((c.inc m + 1) - c.peer n m)

      by : (b : Bool) → own p q ≡ b → asked t server number ((field_of world).sent p q) ≤ asked t server number ((field_of handed_world).sent p q) + (if b then asked t server number (parcel.message ∷ []) else 0)
      by true so = let both = and_parts (p == m) (q == n) so in
          subst (λ (k : ℕ). asked t server number ((field_of world).sent k q) ≤ asked t server number ((field_of handed_world).sent k q) + asked t server number (parcel.message ∷ [])) (sym (eqb-true p m both.0))
          (subst (λ (k : ℕ). asked t server number ((field_of world).sent m k) ≤ asked t server number ((field_of handed_world).sent m k) + asked t server number (parcel.message ∷ [])) (sym (eqb-true q n both.1)) first)
      by false so = same_less (asked t server number ((field_of world).sent p q)) (asked t server number ((field_of handed_world).sent p q))
          (ap (λ (ps : List Parcel). asked t server number (map message_of ps)) (same_from (λ i. pending c p q i (c.inc q)) (λ i. pending d p q i (c.inc q)) (λ i. sym (elsewhere p q i (c.inc q) (off (p == m) (q == n) (i == c.peer n m) so))) (c.peer q p) ((c.inc p + 1) - c.peer q p)))
