-- What becomes of a request, from the invariant.
use Rattle.std.proofs.Common.{◌≡◌, ◌≢◌, ◌⊎◌, ℕ, ◌<◌, ◌≤◌, inl, inr, true, refl, sym, subst, arith}
use Rattle.std.proofs.lemmas.Bool.{cases_eq}
use Rattle.qs_world_agree.specs.World.{Open, World}
use Rattle.qs_world_agree.specs.Doomed.{IsLeft, IsKeptBack}
use Rattle.qs_world_agree.proofs.Counts.{Counts}
use Rattle.qs_world_agree.proofs.Facts.{home_open}
use Rattle.qs_world_agree.proofs.Lawful.{inv_reached}
use Rattle.qs_world_agree_ends.specs.Requests.{IsHopeful, IsUncovered, IsComing, IsOwed, SentIsPut, PutIsKnown, UncoveredGoesOn, OwedIsKnown}
use Rattle.qs_world_agree_ends.proofs.Ends.{Ends, ends_reached}
use Rattle.qs_world_agree_ends.proofs.GoesOn.{IsBack, IsHeld}

pub sent_is_put : SentIsPut
sent_is_put w p m j r below to = by (cases_eq (w.peer p m) 0)
  where
    c : Counts w
    c = (inv_reached w r).counts

    from : (a b : ℕ) → a < b → 1 ≤ b
    from a b less = omega (arith, less)

    place : w.peer p m ≢ 0 → 1 ≤ w.peer p m
    place some = omega (arith, some)

    put : (node posted sent : ℕ) → (node ≡ m → posted ≡ sent) → node ≡ m → j ≤ sent → j ≤ posted
    put node posted sent all at within = omega (arith, all at, within)

    all : 1 ≤ w.peer p m → w.node (w.peer p m) ≡ m → w.posted p (w.peer p m) ≡ w.sent p m
    all some at = subst (λ (n : ℕ). w.peer p n ≡ w.peer p m → w.posted p (w.peer p m) ≡ w.sent p n) at (λ known. c.posted_all p (w.peer p m) known some) refl

    by : (w.peer p m ≡ 0) ⊎ (w.peer p m ≢ 0) → IsKeptBack w p m j ⊎ ((w.node (w.peer p m) ≡ m) × IsUncovered w p (w.peer p m) j)
    by (inl none) = inl (record { number = from (w.covered p m) j below; was_sent = to; unknown = none })
    by (inr some) =
        let at : w.node (w.peer p m) ≡ m = c.peer_node p m (place some) in
        inr (at, record { put = put (w.node (w.peer p m)) (w.posted p (w.peer p m)) (w.sent p m) (λ is. all (place some) is) at to; uncovered = subst (λ (n : ℕ). w.covered p n < j) (sym at) below })

-- covered and put
between : (a b j : ℕ) → a < j → j ≤ b → a < b
between a b j low high = omega (arith, low, high)

pub put_is_known : PutIsKnown
put_is_known w p q j r g u = ((ends_reached w r).covers p q).put_known g (between (w.covered p (w.node q)) (w.posted p q) j u.uncovered u.put)

-- who waits for what it sent is engaged
waits_engaged : (w : World) (p q j : ℕ) → Ends w → IsHopeful w p → IsUncovered w p q j → w.engaged p ≡ true
waits_engaged w p q j i a u = by (cases_eq p w.home)
  where
    at_home : p ≡ w.home → w.cell ≡ Open
    at_home is = home_open w i.inv.keeps (subst (λ (h : ℕ). w.up h ≡ true) is a.runs) (subst (λ (h : ℕ). w.outcome h ≡ Open) is (a.undecided is))

    within : (a b d : ℕ) → a < j → j ≤ b → b ≤ d → a < d
    within a b d x y z = omega (arith, x, y, z)

    by : (p ≡ w.home) ⊎ (p ≢ w.home) → w.engaged p ≡ true
    by (inl is) = let undecided : w.cell ≡ Open = at_home is in subst (λ (h : ℕ). w.engaged h ≡ true) (sym is) ((i.inv.whole (λ ab. cc (ab, undecided))).tree.home.home_engaged undecided)
    by (inr other) = (i.tied p).sent_engaged (w.node q) other (within (w.covered p (w.node q)) (w.posted p q) (w.sent p (w.node q)) u.uncovered u.put (i.inv.counts.posted_sent p q))

pub uncovered_goes_on : UncoveredGoesOn
uncovered_goes_on w p q j r a u = by (i.goes_on p q j a.runs (waits_engaged w p q j i a u) a.not_gone u.uncovered u.put)
  where
    i : Ends w
    i = ends_reached w r

    number : (a b : ℕ) → a < b → 1 ≤ b
    number a b less = omega (arith, less)

    same : (a : ℕ) → a ≤ a
    same a = omega arith

    by : (w.received q p < j) ⊎ (IsBack w p q j ⊎ IsHeld w p q j) → IsLeft w p q j ⊎ (IsComing w q p j ⊎ IsOwed w q p j)
    by (inl left) = inl (record { number = number (w.received q p) j left; put = u.put; untaken = left })
    by (inr (inl back)) = inr (inl (record { index = w.closers q p; untaken = back.0; put = same (w.closers q p); covers = back.1 }))
    by (inr (inr held)) = inr (inr (record { engaged = held.0; other = held.1; superior = held.2; taken = held.3 }))

pub owed_is_known : OwedIsKnown
owed_is_known w p q j r up some owed = subst (λ (m : ℕ). w.peer q m ≡ p) (sym owed.superior) (known (w.peer q (w.node p)) (w.present (w.node p)) (w.last q p) owed.taken ((i.covers p q).met) (i.inv.counts.peer_present q (w.node p)) (i.inv.counts.up_present p up))
  where
    i : Ends w
    i = ends_reached w r

    known : (there present last : ℕ) → j ≤ last → (1 ≤ last → p ≤ there) → there ≤ present → present ≡ p → there ≡ p
    known there present last taken met below now = omega (arith, met (omega (arith, taken, some)), below, now)
