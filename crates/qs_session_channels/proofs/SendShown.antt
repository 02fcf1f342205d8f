-- A message that is sent is posted or waits, as its number says: so channels still show the network.
use Rattle.std.proofs.Common.{◌≡◌, ◌≢◌, ◌⊎◌, Bool, ℕ, ◌+◌, ◌-◌, ◌==◌, ◌<◌, ◌≤◌, true, false, refl, sym, subst, ap, ◌∙◌, arith, List, [], ◌∷◌, ◌++◌, length, take, drop, Option, Some, None, inl, inr, if◌then◌else◌}
use Rattle.std.specs.Prelude.{slice_get, option_to_list}
use Rattle.std.proofs.lemmas.Bool.{cases_eq}
use Rattle.std.proofs.lemmas.Bool.Decides.{nat_tests}
use Rattle.std.proofs.lemmas.List.{append_assoc, length-append, drop-append-le, length-drop}
use Rattle.qs_session_channels.specs.End.{End, Packet, Answer, sent, sent_packet, packet}
use Rattle.qs_session_channels.specs.Network.{with_at2, Network, Event, Send, Tick, Receive, Crash, Restart, Among, Can, stepped}
use Rattle.qs_session_channels.specs.Channels
use Rattle.qs_session_channels.specs.Channels.{with_at4, Channels, Move, Wait, Post, Meet, Notice, Hand, May, moved, MovesOn}
use Rattle.qs_session_channels.specs.Shown.{Own, Good, Between, Shows, Goes, moves}
use Rattle.qs_session_channels.proofs.Lists.{get_more, get_last, next_is}
use Rattle.qs_session_channels.proofs.Grown.{among_at, handed_within, good_posted, between_posted, one_move}

-- while the peer is unknown it waits
wait_own : {M : Type 0} → (hello x : M) (a b stamp : ℕ) (w : Network M) (c : Channels M) (n m : ℕ) → Shows w c → w.up n ≡ true → (w.end a b).known ≡ 0 → Own (stepped hello (Send a b x stamp) w) (moved (Wait a b x) c) n m
wait_own {M} hello x a b stamp w c n m r up unmet = grind (arith, nat_tests, r.own n m up, unmet)

-- what is posted and not acknowledged is kept, so the next number is that of the place behind all that was posted
next_number : {M : Type 0} → (w : Network M) (c : Channels M) (a b : ℕ) → Shows w c → w.up a ≡ true → (w.end a b).known ≢ 0
    → (w.end a b).acked + length (w.end a b).kept ≡ length (c.posted a b (w.inc a) (w.end a b).known)
next_number {M} w c a b r up met =
    let o = r.own a b up in
    let i : (w.end a b).acked ≤ length (c.posted a b (w.inc a) (w.end a b).known) = grind (arith, o.acked met, handed_within w.inc c.posted c.handed a b (w.inc a) (w.end a b).known (r.between a b)) in
    grind (arith, o.kept met, i, length-drop {A = M} (w.end a b).acked (c.posted a b (w.inc a) (w.end a b).known))

post_own : {M : Type 0} → (hello x : M) (a b stamp : ℕ) (w : Network M) (c : Channels M) (n m : ℕ) → Shows w c → w.up a ≡ true → w.up n ≡ true → (w.end a b).known ≢ 0 → Own (stepped hello (Send a b x stamp) w) (moved (Post a b x) c) n m
post_own {M} hello x a b stamp w c n m r on up met =
    let t = next_number w c a b r on met in
    let o = r.own n m up in
    let s = r.own a b on in
    let z : (w.end a b).acked ≤ length (c.posted a b (w.inc a) (w.end a b).known) = grind (arith, t) in
    let d = drop-append-le {A = M} (w.end a b).acked (c.posted a b (w.inc a) (w.end a b).known) (x ∷ []) z in
    record {
      born = o.born;
      mine = grind (arith, nat_tests, o.mine);
      peer = grind (arith, nat_tests, o.peer);
      there = grind (arith, nat_tests, o.there);
      waits = grind (arith, nat_tests, o.waits, met);
      none_acked = grind (arith, nat_tests, o.none_acked);
      kept = grind (arith, nat_tests, o.kept, s.kept met, s.peer, r.inc, d, met);
      acked = grind (arith, nat_tests, o.acked);
      taken = grind (arith, nat_tests, o.taken);
      unposted = λ j lt. grind (arith, nat_tests, o.unposted j, lt, s.peer, r.inc);
      unhanded = λ j lt. grind (arith, nat_tests, o.unhanded j, lt);
    }

-- the packet that goes
post_packet : {M : Type 0} → (x : M) (a b stamp : ℕ) (w : Network M) (c : Channels M) → Shows w c → w.up a ≡ true → (w.end a b).known ≢ 0
    → Good w.inc (moved (Post a b x) c).posted c.handed a b (packet (w.end a b) (w.end a b).known ((w.end a b).acked + length (w.end a b).kept + 1) stamp x)
post_packet {M} x a b stamp w c r on met =
    let t = next_number w c a b r on met in
    let s = r.own a b on in
    record {
      born = grind (arith, s.mine, s.born);
      from = grind (arith, s.mine);
      number = λ k is. grind (arith, nat_tests, t, is, s.mine, s.peer, r.inc, get_last (c.posted a b (w.inc a) (w.end a b).known) x);
      ack = λ some. grind (arith, s.taken met, s.mine);
    }

wait_put : {M : Type 0} → (x : M) (a b stamp : ℕ) (w : Network M) (n m : ℕ) (p : Packet M) → (w.end a b).known ≡ 0 → Among (with_at2 w.packets a b (option_to_list (sent_packet (w.end a b) x stamp) ++ w.packets a b) n m) p → Among (w.packets n m) p
wait_put x a b stamp w n m p unmet h = grind (arith, nat_tests, unmet, h)

post_put : {M : Type 0} → (x : M) (a b stamp : ℕ) (w : Network M) (n m : ℕ) (p : Packet M) → (w.end a b).known ≢ 0 → Among (with_at2 w.packets a b (option_to_list (sent_packet (w.end a b) x stamp) ++ w.packets a b) n m) p
    → ((n ≡ a) × (m ≡ b) × (packet (w.end a b) (w.end a b).known ((w.end a b).acked + length (w.end a b).kept + 1) stamp x ≡ p)) ⊎ Among (w.packets n m) p
post_put x a b stamp w n m p met h = grind (arith, nat_tests, met, h, among_at w.packets a b (option_to_list (sent_packet (w.end a b) x stamp)) n m p)

wait_shown : {M : Type 0} → (hello x : M) (a b stamp : ℕ) (w : Network M) (c : Channels M) → Shows w c → w.up a ≡ true → (w.end a b).known ≡ 0 → Shows (stepped hello (Send a b x stamp) w) (moved (Wait a b x) c)
wait_shown hello x a b stamp w c r on unmet = record {
  inc = r.inc;
  up = r.up;
  own = λ n m up. wait_own hello x a b stamp w c n m r up unmet;
  packets = λ n m p h. r.packets n m p (wait_put x a b stamp w n m p unmet h);
  between = r.between;
}

post_shown : {M : Type 0} → (hello x : M) (a b stamp : ℕ) (w : Network M) (c : Channels M) → Shows w c → w.up a ≡ true → (w.end a b).known ≢ 0 → Shows (stepped hello (Send a b x stamp) w) (moved (Post a b x) c)
post_shown {M} hello x a b stamp w c r on met = record {
  inc = r.inc;
  up = r.up;
  own = λ n m up. post_own hello x a b stamp w c n m r on up met;
  packets = λ n m p h. was n m p (post_put x a b stamp w n m p met h);
  between = λ n m. between_posted w.inc c.posted c.handed a b (c.inc a) (c.peer a b) (x ∷ []) n m old (handed_within w.inc c.posted c.handed a b (c.inc a) (c.peer a b) (r.between a b)) (r.between n m);
}
  where
    old : c.inc a ≤ w.inc a
    old = grind (arith, r.inc)

    was : (n m : ℕ) (p : Packet M)
        → ((n ≡ a) × (m ≡ b) × (packet (w.end a b) (w.end a b).known ((w.end a b).acked + length (w.end a b).kept + 1) stamp x ≡ p)) ⊎ Among (w.packets n m) p
        → Good w.inc (moved (Post a b x) c).posted c.handed n m p
    was n m p (inl h) = rw (h.0, h.1, sym h.2) (post_packet x a b stamp w c r on met)
    was n m p (inr h) = good_posted w.inc c.posted c.handed a b (c.inc a) (c.peer a b) (x ∷ []) n m p (r.packets n m p h)

pub by_send : {M : Type 0} → (hello x : M) (a b stamp : ℕ) (w : Network M) (c : Channels M) → Shows w c → Can (Send a b x stamp) w → Goes hello (Send a b x stamp) w c
by_send {M} hello x a b stamp w c r can = way (cases_eq (w.end a b).known 0)
  where
    way : ((w.end a b).known ≡ 0) ⊎ ((w.end a b).known ≢ 0) → Goes hello (Send a b x stamp) w c
    way (inl unmet) = one_move _ c (Wait a b x) _ (grind (arith, nat_tests, unmet)) (grind (arith, unmet, can, r.up, (r.own a b can).peer)) (wait_shown hello x a b stamp w c r can unmet)
    way (inr met) = one_move _ c (Post a b x) _ (grind (arith, nat_tests, met)) (grind (arith, met, can, r.up, (r.own a b can).peer)) (post_shown hello x a b stamp w c r can met)
