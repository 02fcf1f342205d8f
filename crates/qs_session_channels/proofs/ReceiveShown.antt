-- A packet that is received hands up the next message or none, whichever of all that were ever sent it is.
use Rattle.std.proofs.Common.{◌≡◌, ◌≢◌, ◌⊎◌, Bool, ℕ, ◌+◌, ◌-◌, ◌==◌, ◌<◌, ◌≤◌, true, false, refl, sym, subst, ap, ◌∙◌, arith, List, [], ◌∷◌, ◌++◌, length, take, drop, Option, Some, None, inl, inr, if◌then◌else◌}
use Rattle.std.specs.Prelude.{slice_get}
use Rattle.std.proofs.lemmas.Bool.{cases_eq}
use Rattle.std.proofs.lemmas.Bool.Decides.{nat_tests}
use Rattle.std.proofs.lemmas.List.{length-append, append-nil}
use Rattle.qs_session_channels.specs.End.{End, Packet, Answer, OldPeer, NewPeer, OldSelf, Hello, Repeat, Early, Message, Answers, answer, left, acknowledged}
use Rattle.qs_session_channels.specs.Network.{with_at2, Network, Event, Receive, Among, Can, stepped}
use Rattle.qs_session_channels.specs.Channels.{with_at4, Channels, Move, Meet, Notice, Hand, May, moved, MovesOn}
use Rattle.qs_session_channels.specs.Shown.{Own, Good, Between, Shows, Goes, answer_moves, moves}
use Rattle.qs_session_channels.proofs.Lists.{drop_drop, drop_took, took, next_is}
use Rattle.qs_session_channels.proofs.Grown.{good_posted, between_posted, good_handed, between_handed, handed_within, one_move}

-- the network with another end
abbrev with_end : {M : Type 0} → Network M → ℕ → ℕ → End M → Network M
with_end w a b e = record w { end = with_at2 w.end a b e }

ack_kept : {M : Type 0} → (acked ack : ℕ) (kept posted : List M) → kept ≡ drop acked posted → drop (ack - acked) kept ≡ drop (acked + length (take (ack - acked) kept)) posted
ack_kept {M} acked ack kept posted is = sym (drop_took (ack - acked) kept) ∙ ap (λ (l : List M). drop (length (take (ack - acked) kept)) l) is ∙ drop_drop acked (length (take (ack - acked) kept)) posted

ack_within : {M : Type 0} → (acked ack high : ℕ) (kept : List M) → acked ≤ high → ack ≤ high → acked + length (take (ack - acked) kept) ≤ high
ack_within acked ack high kept a b = let t = took (ack - acked) kept in omega (arith, a, b, t.0)

-- nothing but an acknowledgement that is owed
owed_own : {M : Type 0} → (a b : ℕ) (owed : Bool) (w : Network M) (c : Channels M) (n m : ℕ) → Own w c n m → Own (with_end w a b (record (w.end a b) { owed = owed })) c n m
owed_own a b owed w c n m o = grind (arith, nat_tests, o)

-- an acknowledgement
ack_own : {M : Type 0} → (a b ack : ℕ) (owed : Bool) (w : Network M) (c : Channels M) (n m : ℕ) → Own w c a b → (w.end a b).known ≢ 0 → ack ≤ length (c.handed a b (w.inc a) (w.end a b).known) → Own w c n m
    → Own (with_end w a b (acknowledged (w.end a b) ack owed (w.end a b).taken)) c n m
ack_own {M} a b ack owed w c n m s met low o =
    let k = ack_kept (w.end a b).acked ack (w.end a b).kept (c.posted a b (w.inc a) (w.end a b).known) (s.kept met) in
    let l = ack_within (w.end a b).acked ack (length (c.handed a b (w.inc a) (w.end a b).known)) (w.end a b).kept (s.acked met) low in
    record {
      born = o.born;
      mine = grind (arith, nat_tests, o.mine);
      peer = grind (arith, nat_tests, o.peer);
      there = grind (arith, nat_tests, o.there);
      waits = grind (arith, nat_tests, o.waits, met);
      none_acked = grind (arith, nat_tests, o.none_acked, met);
      kept = grind (arith, nat_tests, o.kept, k);
      acked = grind (arith, nat_tests, o.acked, l);
      taken = grind (arith, nat_tests, o.taken);
      unposted = λ j lt. grind (arith, nat_tests, o.unposted j, lt);
      unhanded = λ i lt. grind (arith, nat_tests, o.unhanded i, lt);
    }

-- the next message is handed up, with an acknowledgement
hand_own : {M : Type 0} → (a b ack : ℕ) (x : M) (w : Network M) (c : Channels M) (n m : ℕ) → Shows w c → w.up a ≡ true → (w.end a b).known ≢ 0 → ack ≤ length (c.handed a b (w.inc a) (w.end a b).known) → Own w c n m
    → Own (with_end w a b (acknowledged (w.end a b) ack true ((w.end a b).taken + 1))) (moved (Hand a b x) c) n m
hand_own {M} a b ack x w c n m r on met low o =
    let s = r.own a b on in
    let k = ack_kept (w.end a b).acked ack (w.end a b).kept (c.posted a b (w.inc a) (w.end a b).known) (s.kept met) in
    let l = ack_within (w.end a b).acked ack (length (c.handed a b (w.inc a) (w.end a b).known)) (w.end a b).kept (s.acked met) low in
    let h = length-append {A = M} (c.handed b a (w.end a b).known (w.inc a)) (x ∷ []) in
    record {
      born = o.born;
      mine = grind (arith, nat_tests, o.mine);
      peer = grind (arith, nat_tests, o.peer);
      there = grind (arith, nat_tests, o.there);
      waits = grind (arith, nat_tests, o.waits, met);
      none_acked = grind (arith, nat_tests, o.none_acked, met);
      kept = grind (arith, nat_tests, o.kept, k);
      acked = grind (arith, nat_tests, o.acked, l, h, s.peer, r.inc);
      taken = grind (arith, nat_tests, o.taken, h, s.peer, r.inc);
      unposted = λ j lt. grind (arith, nat_tests, o.unposted j, lt);
      unhanded = λ i lt. grind (arith, nat_tests, o.unhanded i, lt, s.peer, r.inc);
    }

-- a first incarnation of the peer is met
meet_own : {M : Type 0} → (a b j : ℕ) (met : Bool) (w : Network M) (c : Channels M) (n m : ℕ) → Shows w c → w.up a ≡ true → (w.end a b).known ≡ 0 → 1 ≤ j → j ≤ w.inc b → Own w c n m
    → Own (with_end w a b (record (w.end a b) { known = j; taken = 0; acked = 0; owed = true; met = met })) (moved (Meet a b j) c) n m
meet_own {M} a b j met w c n m r on unmet some there o =
    let s = r.own a b on in
    let p = s.unposted j (grind (arith, unmet, some)) in
    let h = s.unhanded j (grind (arith, unmet, some)) in
    let q = s.waits unmet in
    record {
      born = o.born;
      mine = grind (arith, nat_tests, o.mine);
      peer = grind (arith, nat_tests, o.peer);
      there = grind (arith, nat_tests, o.there, there);
      waits = grind (arith, nat_tests, o.waits, some);
      none_acked = grind (arith, nat_tests, o.none_acked, some);
      kept = grind (arith, nat_tests, o.kept, p, q, r.inc);
      acked = grind (arith, nat_tests, o.acked);
      taken = grind (arith, nat_tests, o.taken, h);
      unposted = λ k lt. grind (arith, nat_tests, o.unposted k, lt, unmet, r.inc);
      unhanded = λ i lt. grind (arith, nat_tests, o.unhanded i, lt, unmet);
    }

-- a later incarnation is noted
notice_own : {M : Type 0} → (a b j : ℕ) (met : Bool) (w : Network M) (c : Channels M) (n m : ℕ) → Shows w c → w.up a ≡ true → (w.end a b).known < j → j ≤ w.inc b → Own w c n m
    → Own (with_end w a b (record (w.end a b) { known = j; taken = 0; acked = 0; kept = []; owed = true; met = met })) (moved (Notice a b j) c) n m
notice_own {M} a b j met w c n m r on above there o =
    let s = r.own a b on in
    let p = s.unposted j above in
    let h = s.unhanded j above in
    record {
      born = o.born;
      mine = grind (arith, nat_tests, o.mine);
      peer = grind (arith, nat_tests, o.peer);
      there = grind (arith, nat_tests, o.there, there);
      waits = grind (arith, nat_tests, o.waits, above);
      none_acked = grind (arith, nat_tests, o.none_acked, above);
      kept = grind (arith, nat_tests, o.kept, p);
      acked = grind (arith, nat_tests, o.acked);
      taken = grind (arith, nat_tests, o.taken, h);
      unposted = λ k lt. grind (arith, nat_tests, o.unposted k, lt, above);
      unhanded = λ i lt. grind (arith, nat_tests, o.unhanded i, lt, above);
    }

-- where the channels stay as they are
stay : {M : Type 0} → (hello : M) (a b : ℕ) (p : Packet M) (x : Answer M) (w : Network M) (c : Channels M) → Shows w c → answer_moves a b x ≡ []
    → ((n m : ℕ) → w.up n ≡ true → Own (stepped hello (Receive a b p x) w) c n m) → Goes hello (Receive a b p x) w c
stay {M} hello a b p x w c r none own = (c, subst (λ (ms : List (Move M)). MovesOn c ms c) (sym none) refl, record { inc = r.inc; up = r.up; own = own; packets = r.packets; between = r.between })

-- what holds of a packet that is for this incarnation and from the known one
record Fit {M : Type 0} (w : Network M) (c : Channels M) (a b : ℕ) (p : Packet M) : Type 0 where
  met : (w.end a b).known ≢ 0
  low : p.ack ≤ length (c.handed a b (w.inc a) (w.end a b).known)

fit : {M : Type 0} → (w : Network M) (c : Channels M) (a b : ℕ) (p : Packet M) → Own w c a b → Good w.inc c.posted c.handed b a p → p.inc ≡ (w.end a b).known → p.to_inc ≡ (w.end a b).mine → Fit w c a b p
fit w c a b p o g from to = record { met = grind (arith, from, g.born); low = grind (arith, g.ack, from, to, o.mine, o.born) }

by_new : {M : Type 0} → (hello : M) (a b old new : ℕ) (p : Packet M) (w : Network M) (c : Channels M) → Shows w c → w.up a ≡ true → Good w.inc c.posted c.handed b a p → Answers (w.end a b) p (NewPeer old new) → Goes hello (Receive a b p (NewPeer old new)) w c
by_new {M} hello a b old new p w c r on g is = way (cases_eq old 0)
  where
    there : new ≤ w.inc b
    there = grind (arith, is, g.from)

    above : (w.end a b).known < new
    above = grind (arith, is)

    old_inc : c.inc a ≤ w.inc a
    old_inc = grind (arith, r.inc)

    unposted : (w.end a b).known ≡ 0 → c.posted a b (c.inc a) new ≡ []
    unposted unmet = grind (arith, (r.own a b on).unposted new above, r.inc)

    meet : (w.end a b).known ≡ 0 → Shows (with_end w a b (record (w.end a b) { known = new; taken = 0; acked = 0; owed = true; met = (left (NewPeer old new) (w.end a b) p).met })) (moved (Meet a b new) c)
    meet unmet = record {
      inc = r.inc;
      up = r.up;
      own = λ n m up. meet_own a b new (left (NewPeer old new) (w.end a b) p).met w c n m r on unmet (grind (arith, above)) there (r.own n m up);
      packets = λ n m q h. good_posted w.inc c.posted c.handed a b (c.inc a) new (c.waits a b) n m q (r.packets n m q h);
      between = λ n m. between_posted w.inc c.posted c.handed a b (c.inc a) new (c.waits a b) n m old_inc (handed_within w.inc c.posted c.handed a b (c.inc a) new (r.between a b)) (r.between n m);
    }

    notice : Shows (with_end w a b (record (w.end a b) { known = new; taken = 0; acked = 0; kept = []; owed = true; met = (left (NewPeer old new) (w.end a b) p).met })) (moved (Notice a b new) c)
    notice = record {
      inc = r.inc;
      up = r.up;
      own = λ n m up. notice_own a b new (left (NewPeer old new) (w.end a b) p).met w c n m r on above there (r.own n m up);
      packets = r.packets;
      between = r.between;
    }

    way : (old ≡ 0) ⊎ (old ≢ 0) → Goes hello (Receive a b p (NewPeer old new)) w c
    way (inl unmet) = one_move _ c (Meet a b new) _ (grind (arith, nat_tests, unmet)) (grind (arith, unmet, is, on, r.up, r.inc, there, above, (r.own a b on).peer)) (rw unmet (meet (grind (arith, is, unmet))))
    way (inr met) = one_move _ c (Notice a b new) _ (grind (arith, nat_tests, met)) (grind (arith, met, is, on, r.up, r.inc, there, above, (r.own a b on).peer)) (let e : (old == 0) ≡ false = grind (arith, nat_tests, met) in rw e notice)

by_message : {M : Type 0} → (hello x : M) (a b : ℕ) (p : Packet M) (w : Network M) (c : Channels M) → Shows w c → w.up a ≡ true → Good w.inc c.posted c.handed b a p → Answers (w.end a b) p (Message x) → Goes hello (Receive a b p (Message x)) w c
by_message {M} hello x a b p w c r on g is = (
  moved (Hand a b x) c,
  ((grind (arith, on, r.up), grind (arith, f.met, o.peer), (_, next)), refl),
  record {
    inc = r.inc;
    up = r.up;
    own = λ n m up. hand_own a b p.ack x w c n m r on f.met f.low (r.own n m up);
    packets = λ n m q h. good_handed w.inc c.posted c.handed b a (c.peer a b) (c.inc a) x n m q (r.packets n m q h);
    between = λ n m. between_handed w.inc c.posted c.handed b a (c.peer a b) (c.inc a) x n m (grind (arith, r.inc)) next (r.between n m);
  },
)
  where
    o : Own w c a b
    o = r.own a b on

    f : Fit w c a b p
    f = fit w c a b p o g is.1 is.2

    got : slice_get (c.posted b a (c.peer a b) (c.inc a)) (length (c.handed b a (c.peer a b) (c.inc a))) ≡ Some x
    got = grind (arith, g.number (w.end a b).taken is.3, is, o.mine, o.peer, r.inc, o.taken f.met)

    next : c.posted b a (c.peer a b) (c.inc a) ≡ c.handed b a (c.peer a b) (c.inc a) ++ x ∷ drop (length (c.handed b a (c.peer a b) (c.inc a)) + 1) (c.posted b a (c.peer a b) (c.inc a))
    next = next_is (c.handed b a (c.peer a b) (c.inc a)) (c.posted b a (c.peer a b) (c.inc a)) x ((r.between b a).prefix (c.peer a b) (c.inc a)) got

by_answer : {M : Type 0} → (hello : M) (a b : ℕ) (p : Packet M) (x : Answer M) (w : Network M) (c : Channels M) → Shows w c → w.up a ≡ true → Good w.inc c.posted c.handed b a p → Answers (w.end a b) p x → Goes hello (Receive a b p x) w c
by_answer hello a b p (OldPeer known got) w c r on g is = stay hello a b p (OldPeer known got) w c r refl (λ n m up. owed_own a b (w.end a b).owed w c n m (r.own n m up))
by_answer hello a b p (NewPeer old new) w c r on g is = by_new hello a b old new p w c r on g is
by_answer hello a b p (OldSelf mine got) w c r on g is = stay hello a b p (OldSelf mine got) w c r refl (λ n m up. owed_own a b true w c n m (r.own n m up))
by_answer hello a b p Hello w c r on g is = let f = fit w c a b p (r.own a b on) g is.0 is.1 in stay hello a b p Hello w c r refl (λ n m up. ack_own a b p.ack (w.end a b).owed w c n m (r.own a b on) f.met f.low (r.own n m up))
by_answer hello a b p (Repeat number) w c r on g is = let f = fit w c a b p (r.own a b on) g is.1 is.2 in stay hello a b p (Repeat number) w c r refl (λ n m up. ack_own a b p.ack true w c n m (r.own a b on) f.met f.low (r.own n m up))
by_answer hello a b p (Early number expected) w c r on g is = let f = fit w c a b p (r.own a b on) g is.2 is.3 in stay hello a b p (Early number expected) w c r refl (λ n m up. ack_own a b p.ack true w c n m (r.own a b on) f.met f.low (r.own n m up))
by_answer hello a b p (Message x) w c r on g is = by_message hello x a b p w c r on g is

-- where each answer is given
pub answers : {M : Type 0} → (e : End M) (p : Packet M) (x : Answer M) → answer e p ≡ x → Answers e p x
answers e p (OldPeer known got) is = grind (arith, nat_tests, is)
answers e p (NewPeer old new) is = grind (arith, nat_tests, is)
answers e p (OldSelf mine got) is = grind (arith, nat_tests, is)
answers e p Hello is = grind (arith, nat_tests, is)
answers e p (Repeat number) is = grind (arith, nat_tests, is)
answers e p (Early number expected) is = grind (arith, nat_tests, is)
answers e p (Message x) is = grind (arith, nat_tests, is)

pub by_receive : {M : Type 0} → (hello : M) (a b : ℕ) (p : Packet M) (x : Answer M) (w : Network M) (c : Channels M) → Shows w c → Can (Receive a b p x) w → Goes hello (Receive a b p x) w c
by_receive hello a b p x w c r can = by_answer hello a b p x w c r can.0 (r.packets b a p can.1) (answers (w.end a b) p x can.2)
