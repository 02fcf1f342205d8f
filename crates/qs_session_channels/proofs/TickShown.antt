-- What goes at a tick was posted before: so channels stay, and show the network still.
use Rattle.std.proofs.Common.{◌≡◌, ◌≢◌, ◌⊎◌, Bool, ℕ, ◌+◌, ◌-◌, ◌==◌, ◌<◌, ◌≤◌, true, false, refl, sym, subst, ap, ◌∙◌, arith, List, [], ◌∷◌, ◌++◌, length, take, drop, Option, Some, None, inl, inr, if◌then◌else◌, zero, suc}
use Rattle.std.specs.Prelude.{slice_get}
use Rattle.std.proofs.lemmas.Bool.{cases_eq}
use Rattle.std.proofs.lemmas.Bool.Decides.{nat_tests}
use Rattle.std.proofs.lemmas.List.{append_assoc, length-append, drop-append-le, length-drop}
use Rattle.qs_session_channels.specs.End.{End, Packet, Answer, packet, again, idle_packets, tick_packets, ticked}
use Rattle.qs_session_channels.specs.Network.{with_at2, Network, Event, Send, Tick, Receive, Crash, Restart, Among, Can, stepped}
use Rattle.qs_session_channels.specs.Channels.{with_at4, Channels, Move, MovesOn}
use Rattle.qs_session_channels.specs.Shown.{Own, Good, Between, Shows, Goes, moves}
use Rattle.qs_session_channels.proofs.Lists.{get_drop}
use Rattle.qs_session_channels.proofs.Grown.{among_at}

tick_own : {M : Type 0} → (hello : M) (a b stamp : ℕ) (w : Network M) (c : Channels M) (n m : ℕ) → Own w c n m → Own (stepped hello (Tick a b stamp) w) c n m
tick_own hello a b stamp w c n m o = grind (arith, nat_tests, o)

-- a packet of a tick bears a kept message, or is a Hello
pub record Ticked {M : Type 0} (e : End M) (p : Packet M) : Type 0 where
  pub inc : p.inc ≡ e.mine
  pub ack : p.ack ≡ e.taken
  pub to_inc : (p.to_inc ≡ 0) ⊎ (p.to_inc ≡ e.known)
  pub number : p.number ≢ 0 → (p.to_inc ≡ e.known) × (e.known ≢ 0) × (e.acked < p.number)
  pub message : (k : ℕ) → p.number ≡ e.acked + k + 1 → slice_get e.kept k ≡ Some p.message

again_ticked : {M : Type 0} → (e : End M) (stamp k : ℕ) (xs : List M) (p : Packet M) → Among (again e stamp k xs) p
    → (p.inc ≡ e.mine) × (p.ack ≡ e.taken) × (p.to_inc ≡ e.known) × (k < p.number) × ((l : ℕ) → p.number ≡ k + l + 1 → slice_get xs l ≡ Some p.message)
again_ticked e stamp k [] p h = elim h [ ]
again_ticked e stamp k (x ∷ xs) p (inl is) = rw (sym is) (refl, refl, refl, omega arith, λ l at. first l at)
  where
    first : (l : ℕ) → k + 1 ≡ k + l + 1 → slice_get (x ∷ xs) l ≡ Some x
    first zero at = refl
    first (suc l) at = absurd (omega (arith, at))
again_ticked e stamp k (x ∷ xs) p (inr h) = let t = again_ticked e stamp (k + 1) xs p h in (t.0, t.1, t.2, grind (arith, t.3), λ l at. later t.3 t.4 l at)
  where
    later : k + 1 < p.number → ((l : ℕ) → p.number ≡ k + 1 + l + 1 → slice_get xs l ≡ Some p.message) → (l : ℕ) → p.number ≡ k + l + 1 → slice_get (x ∷ xs) l ≡ Some p.message
    later above rest zero at = absurd (omega (arith, above, at))
    later above rest (suc l) at = rest l (omega (arith, at))

hello_ticked : {M : Type 0} → (hello : M) (e : End M) (stamp to_inc : ℕ) (p : Packet M) → (to_inc ≡ 0) ⊎ (to_inc ≡ e.known) → packet e to_inc 0 stamp hello ≡ p → Ticked e p
hello_ticked hello e stamp to_inc p to is = rw (sym is) (record { inc = refl; ack = refl; to_inc = to; number = λ some. absurd (some refl); message = λ k at. absurd (omega (arith, at)) })

kept_ticked : {M : Type 0} → (e : End M) (stamp : ℕ) (p : Packet M) → e.known ≢ 0 → Among (again e stamp e.acked e.kept) p → Ticked e p
kept_ticked e stamp p met h =
    let t = again_ticked e stamp e.acked e.kept p h in
    record { inc = t.0; ack = t.1; to_inc = inr t.2; number = λ some. (t.2, met, t.3); message = λ k at. t.4 k at }

idle_is : {M : Type 0} → (hello : M) (e : End M) (stamp : ℕ) (p : Packet M) → Among (idle_packets hello e stamp) p → (packet e e.known 0 stamp hello ≡ p) ⊎ (packet e 0 0 stamp hello ≡ p)
idle_is hello e stamp p h = grind (arith, h)

pub all_ticked : {M : Type 0} → (hello : M) (e : End M) (stamp : ℕ) (p : Packet M) → Among (tick_packets hello e stamp) p → Ticked e p
all_ticked {M} hello e stamp p h = unmet (cases_eq e.known 0)
  where
    idle : (packet e e.known 0 stamp hello ≡ p) ⊎ (packet e 0 0 stamp hello ≡ p) → Ticked e p
    idle (inl is) = hello_ticked hello e stamp e.known p (inr refl) is
    idle (inr is) = hello_ticked hello e stamp 0 p (inl refl) is

    kept : (e.known ≢ 0) → (length e.kept ≡ 0) ⊎ (length e.kept ≢ 0) → Ticked e p
    kept met (inl none) = idle (idle_is hello e stamp p (grind (arith, nat_tests, h, met, none)))
    kept met (inr some) = kept_ticked e stamp p met (grind (arith, nat_tests, h, met, some))

    unmet : (e.known ≡ 0) ⊎ (e.known ≢ 0) → Ticked e p
    unmet (inl is) = hello_ticked hello e stamp 0 p (inl refl) (grind (arith, nat_tests, h, is))
    unmet (inr met) = kept met (cases_eq (length e.kept) 0)

good_ticked : {M : Type 0} → (w : Network M) (c : Channels M) (a b : ℕ) (p : Packet M) → Own w c a b → Ticked (w.end a b) p → Good w.inc c.posted c.handed a b p
good_ticked {M} w c a b p o t = record {
  born = grind (arith, t.inc, o.mine, o.born);
  from = grind (arith, t.inc, o.mine);
  number = λ k is. number k is (t.number (grind (arith, is)));
  ack = λ some. grind (arith, t.to_inc, t.ack, t.inc, o.mine, o.taken, some);
}
  where
    number : (k : ℕ) → p.number ≡ k + 1 → (p.to_inc ≡ (w.end a b).known) × ((w.end a b).known ≢ 0) × ((w.end a b).acked < p.number) → slice_get (c.posted a b p.inc p.to_inc) k ≡ Some p.message
    number k is n =
        let l : (w.end a b).acked + (k - (w.end a b).acked) ≡ k = omega (arith, n.2, is) in
        let g = t.message (k - (w.end a b).acked) (omega (arith, n.2, is)) in
        let d = get_drop (w.end a b).acked (c.posted a b (w.inc a) (w.end a b).known) (k - (w.end a b).acked) in
        grind (arith, g, d, l, o.kept n.1, n.0, t.inc, o.mine)

pub by_tick : {M : Type 0} → (hello : M) (a b stamp : ℕ) (w : Network M) (c : Channels M) → Shows w c → Can (Tick a b stamp) w → Goes hello (Tick a b stamp) w c
by_tick {M} hello a b stamp w c r can = (
  c,
  refl,
  record {
    inc = r.inc;
    up = r.up;
    own = λ n m up. tick_own hello a b stamp w c n m (r.own n m up);
    packets = λ n m p h. was n m p (among_at w.packets a b (tick_packets hello (w.end a b) stamp) n m p h);
    between = r.between;
  },
)
  where
    was : (n m : ℕ) (p : Packet M) → ((n ≡ a) × (m ≡ b) × Among (tick_packets hello (w.end a b) stamp) p) ⊎ Among (w.packets n m) p → Good w.inc c.posted c.handed n m p
    was n m p (inl h) = rw (h.0, h.1) (good_ticked w c a b p (r.own a b can) (all_ticked hello (w.end a b) stamp p h.2))
    was n m p (inr h) = r.packets n m p h
