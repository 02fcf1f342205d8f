-- The number of a transaction is still to be given: what that says, and what keeps it so.
use Rattle.qs_world_refine.proofs.Words.{◌≡◌, ◌⊎◌, inl, inr, ℕ, ◌+◌, ◌<◌, ◌==◌, ◌&&◌, ◌||◌, not, nat_lt, nat_le, Bool, true, false, List, refl, sym, ap, subst, ◌∙◌, arith, nat_tests, NodeNo, Tid, CrashCause, Record, names_transaction, stopped, Begins, past_among, inc_in, count_in, IsUnbegun, ShowsAll}
use Rattle.qs_world.specs.World.{World}

-- a number that is still to be given: of a later incarnation, or a later one of this
abbrev pub IsToCome : Tid → (ℕ → ℕ) → (ℕ → ℕ) → Type 0
IsToCome tid inc count = (inc tid.home.0 < tid.inc) ⊎ ((tid.inc ≡ inc tid.home.0) × (count tid.home.0 < tid.seq))

pub tid_is : (a b : Tid) → a.home ≡ b.home → a.inc ≡ b.inc → a.seq ≡ b.seq → a ≡ b
tid_is a b p q r = ap (λ (h : NodeNo). record { home = h; inc = a.inc; seq = a.seq }) p ∙ (ap (λ (i : ℕ). record { home = b.home; inc = i; seq = a.seq }) q ∙ ap (λ (s : ℕ). record { home = b.home; inc = b.inc; seq = s }) r)

module _ (tid : Tid) (world : World) (is : IsUnbegun tid world) where
  abbrev pub h : ℕ
  h = tid.home.0

  -- ---- numbers

  pub to_come : IsToCome tid (inc_in world) (count_in world)
  to_come = by (names_transaction tid) is.numbered (nat_lt h world.size) (grind (arith, nat_tests, is.home_in)) is.unknown
    where
      split : (i k s m : ℕ) → (nat_lt i k || ((i == k) && nat_le s m)) ≡ false → (k < i) ⊎ ((i ≡ k) × (m < s))
      split i k s m off = at (nat_lt k i) refl
        where
          at : (b : Bool) → nat_lt k i ≡ b → (k < i) ⊎ ((i ≡ k) × (m < s))
          at true less = inl (grind (arith, nat_tests, less))
          at false other = inr (grind (arith, nat_tests, other, off), grind (arith, nat_tests, other, off))

      by : (a : Bool) → a ≡ true → (b : Bool) → b ≡ true → (a && (not b || (a && (b && (nat_lt tid.inc (inc_in world h) || ((tid.inc == inc_in world h) && nat_le tid.seq (count_in world h))))))) ≡ false → IsToCome tid (inc_in world) (count_in world)
      by true x true y off = split tid.inc (inc_in world h) tid.seq (count_in world h) off
      by false x b y off = absurd (cc (x))
      by true x false y off = absurd (cc (y))

  pub not_known : (inc count : ℕ → ℕ) → IsToCome tid inc count → past_among world.size inc count tid ≡ false
  not_known inc count later = by (names_transaction tid) (nat_lt h world.size) (grind (arith, nat_tests, is.home_in)) (nat_lt tid.inc (inc h) || ((tid.inc == inc h) && nat_le tid.seq (count h))) (none later)
    where
      none : IsToCome tid inc count → (nat_lt tid.inc (inc h) || ((tid.inc == inc h) && nat_le tid.seq (count h))) ≡ false
      none (inl less) = grind (arith, nat_tests, less)
      none (inr same) = grind (arith, nat_tests, same.0, same.1)

      by : (a b : Bool) → b ≡ true → (c : Bool) → c ≡ false → (a && (not b || (a && (b && c)))) ≡ false
      by a b in_run c off = rw (in_run, off) (last a)
        where
          last : (a : Bool) → (a && (a && false)) ≡ false
          last true = refl
          last false = refl

  pub still : (new : World) → new.size ≡ world.size → IsToCome tid (inc_in new) (count_in new) → IsUnbegun tid new
  still new sized later = record {
    numbered = is.numbered;
    home_in = subst (λ (s : ℕ). h < s) (sym sized) is.home_in;
    unknown = subst (λ (s : ℕ). past_among s (inc_in new) (count_in new) tid ≡ false) (sym sized) (not_known (inc_in new) (count_in new) later);
  }

  -- where its home gives numbers as before
  pub as_before : (new : World) → new.size ≡ world.size → inc_in new h ≡ inc_in world h → count_in new h ≡ count_in world h → IsUnbegun tid new
  as_before new sized inc count = still new sized (subst (λ (i : ℕ). (i < tid.inc) ⊎ ((tid.inc ≡ i) × (count_in new h < tid.seq))) (sym inc) (subst (λ (c : ℕ). (inc_in world h < tid.inc) ⊎ ((tid.inc ≡ inc_in world h) × (c < tid.seq))) (sym count) to_come))

  pub some_number : 0 < tid.seq
  some_number = grind (arith, nat_tests, is.numbered)

  abbrev pub Done : World → Type 0
  Done new = Begins IsUnbegun ShowsAll tid new

  pub count_up : world.channels.up h ≡ true → count_in world h ≡ (world.hosts h).node.manager.begun
  count_up up = rw up refl

  pub inc_up : world.channels.up h ≡ true → inc_in world h ≡ world.channels.inc h
  inc_up up = rw up refl

  -- the incarnation that is to give it is this one, or comes later
  pub which_inc : world.channels.up h ≡ true → (world.channels.inc h < tid.inc) ⊎ (tid.inc ≡ world.channels.inc h)
  which_inc up = by to_come
    where
      by : IsToCome tid (inc_in world) (count_in world) → (world.channels.inc h < tid.inc) ⊎ (tid.inc ≡ world.channels.inc h)
      by (inl less) = inl (subst (λ (k : ℕ). k < tid.inc) (inc_up up) less)
      by (inr same) = inr (same.0 ∙ inc_up up)

  -- ---- a stop

  module _ (n stamp : ℕ) (cause : CrashCause) (log : List Record) where
    abbrev pub down : World
    down = stopped world n stamp cause log

    pub other_stops : (h == n) ≡ false → IsUnbegun tid down
    other_stops apart = as_before down refl (rw apart refl) (rw apart refl)

    -- it comes later than the next incarnation of the node
    pub later_stops : (h == n) ≡ true → world.channels.inc h < tid.inc → IsUnbegun tid down
    later_stops same less = still down refl (by (nat_lt (world.channels.inc h + 1) tid.inc) refl)
      where
        after : inc_in down h ≡ world.channels.inc h + 1
        after = rw same refl

        none : count_in down h ≡ 0
        none = rw same refl

        by : (b : Bool) → nat_lt (world.channels.inc h + 1) tid.inc ≡ b → IsToCome tid (inc_in down) (count_in down)
        by true far = inl (subst (λ (k : ℕ). k < tid.inc) (sym after) (grind (arith, nat_tests, far)))
        by false near = inr (next tid.inc (world.channels.inc h) less near ∙ sym after, subst (λ (k : ℕ). k < tid.seq) (sym none) some_number)
          where
            next : (a b : ℕ) → b < a → nat_lt (b + 1) a ≡ false → a ≡ b + 1
            next a b p q = grind (arith, nat_tests, p, q)
