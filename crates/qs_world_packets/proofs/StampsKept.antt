-- Stamps of packets and of what is kept go on to fit what began and what was posted, through all that happens to the network.
use Rattle.std.proofs.Common.{◌≡◌, ◌≢◌, ◌⊎◌, ℕ, ◌+◌, ◌-◌, ◌==◌, ◌≤◌, ◌<◌, Bool, true, false, List, [], ◌∷◌, ◌++◌, length, drop, Option, Some, None, zero, suc, refl, sym, ap, subst, ◌∙◌, arith, inl, inr, if◌then◌else◌}
use Rattle.std.specs.Prelude.{option_to_list}
use Rattle.std.proofs.lemmas.Bool.{cases_eq}
use Rattle.std.proofs.lemmas.Bool.Decides.{nat_tests}
use Rattle.qs_session_channels.specs.End.{End, Packet, Answer, OldPeer, NewPeer, OldSelf, Hello, Repeat, Early, Message, again, fresh, idle_packets, left, packet, sent, sent_packet, tick_packets, ticked}
use Rattle.qs_session_channels.specs.Network.{Network, Among, Send, Tick, Receive, Crash, Restart, stepped, with_at, with_at2}
use Rattle.qs_session_channels.proofs.Grown.{among_append, among_at}
use Rattle.qs_world.specs.World.{Parcel}
use Rattle.qs_world_packets.specs.PacketWorld.{hello}
use Rattle.qs_world_packets.specs.WorldShown.{BeganBy, IsStamped, Stamped}

pub raised : (born : ℕ → ℕ → Option ℕ) (stamps later : ℕ → ℕ) (net : Network Parcel) → ((n : ℕ) → stamps n ≤ later n) → Stamped born stamps net → Stamped born later net
raised born stamps later net rises s = record {
  began = λ n. let b = s.began n in record { at = b.at; is = b.is; by = grind (arith, b.by, rises n) };
  kept = λ n m parcel up among. grind (arith, s.kept n m parcel up among, rises n);
  packets = s.packets;
}

-- ---- what an end keeps

among_drop : {A : Type 0} (k : ℕ) (xs : List A) (x : A) → Among (drop k xs) x → Among xs x
among_drop zero xs x h = h
among_drop (suc k) [] x h = h
among_drop (suc k) (y ∷ xs) x h = inr (among_drop k xs x h)

among_none : {A : Type 0} (b : Bool) (xs : List A) (x : A) → Among (if b then xs else []) x → Among xs x
among_none true xs x h = h
among_none false xs x h = absurd h

-- a packet leaves nothing there that was not kept before
left_kept : (a : Answer Parcel) (e : End Parcel) (p : Packet Parcel) (x : Parcel) → Among (left a e p).kept x → Among e.kept x
left_kept (OldPeer known got) e p x h = h
left_kept (NewPeer old new) e p x h = among_none (old == 0) e.kept x h
left_kept (OldSelf mine got) e p x h = h
left_kept Hello e p x h = among_drop (p.ack - e.acked) e.kept x h
left_kept (Repeat number) e p x h = among_drop (p.ack - e.acked) e.kept x h
left_kept (Early number expected) e p x h = among_drop (p.ack - e.acked) e.kept x h
left_kept (Message y) e p x h = among_drop (p.ack - e.acked) e.kept x h

kept_at : (ends : ℕ → ℕ → End Parcel) (a b : ℕ) (e : End Parcel) (n m : ℕ) (x : Parcel) → Among (with_at2 ends a b e n m).kept x → ((n ≡ a) × (m ≡ b) × Among e.kept x) ⊎ Among (ends n m).kept x
kept_at ends a b e n m x h = grind (arith, nat_tests, h)

-- ---- a packet is received

pub stamped_receive : (born : ℕ → ℕ → Option ℕ) (stamps : ℕ → ℕ) (net : Network Parcel) (n m : ℕ) (p : Packet Parcel) (a : Answer Parcel) → Stamped born stamps net → Stamped born stamps (stepped hello (Receive n m p a) net)
stamped_receive born stamps net n m p a s = record {
  began = s.began;
  kept = λ k l x up among. by k l x up (kept_at net.end n m (left a (net.end n m) p) k l x among);
  packets = s.packets;
}
  where
    by : (k l : ℕ) (x : Parcel) → net.up k ≡ true → ((k ≡ n) × (l ≡ m) × Among (left a (net.end n m) p).kept x) ⊎ Among (net.end k l).kept x → x.stamp ≤ stamps k
    by k l x up (inl h) = s.kept k l x up (subst (λ (j : ℕ). Among (net.end j l).kept x) (sym h.0) (subst (λ (j : ℕ). Among (net.end n j).kept x) (sym h.1) (left_kept a (net.end n m) p x h.2)))
    by k l x up (inr h) = s.kept k l x up h

-- ---- packets that are sent

-- a packet of an end bears a message that is kept there, or none
pub record IsSent (e : End Parcel) (stamp : ℕ) (p : Packet Parcel) : Type 0 where
  pub inc : p.inc ≡ e.mine
  pub at : p.stamp ≡ stamp
  pub message : (p.message ≡ hello) ⊎ Among e.kept p.message

again_sent : (e : End Parcel) (stamp k : ℕ) (xs : List Parcel) (p : Packet Parcel) → Among (again e stamp k xs) p → (p.inc ≡ e.mine) × (p.stamp ≡ stamp) × Among xs p.message
again_sent e stamp k [] p h = absurd h
again_sent e stamp k (x ∷ xs) p (inl is) = rw (sym is) (refl, refl, inl refl)
again_sent e stamp k (x ∷ xs) p (inr h) = let t = again_sent e stamp (k + 1) xs p h in (t.0, t.1, inr t.2)

hello_sent : (e : End Parcel) (stamp to_inc : ℕ) (p : Packet Parcel) → packet e to_inc 0 stamp hello ≡ p → IsSent e stamp p
hello_sent e stamp to_inc p is = rw (sym is) (record { inc = refl; at = refl; message = inl refl })

idle_is : (e : End Parcel) (stamp : ℕ) (p : Packet Parcel) → Among (idle_packets hello e stamp) p → (packet e e.known 0 stamp hello ≡ p) ⊎ (packet e 0 0 stamp hello ≡ p)
idle_is e stamp p h = grind (arith, h)

pub tick_sent : (e : End Parcel) (stamp : ℕ) (p : Packet Parcel) → Among (tick_packets hello e stamp) p → IsSent e stamp p
tick_sent e stamp p h = unmet (cases_eq e.known 0)
  where
    idle : (packet e e.known 0 stamp hello ≡ p) ⊎ (packet e 0 0 stamp hello ≡ p) → IsSent e stamp p
    idle (inl is) = hello_sent e stamp e.known p is
    idle (inr is) = hello_sent e stamp 0 p is

    kept : (e.known ≢ 0) → (length e.kept ≡ 0) ⊎ (length e.kept ≢ 0) → IsSent e stamp p
    kept met (inl none) = idle (idle_is e stamp p (grind (arith, nat_tests, h, met, none)))
    kept met (inr some) = let t = again_sent e stamp e.acked e.kept p (grind (arith, nat_tests, h, met, some)) in record { inc = t.0; at = t.1; message = inr t.2 }

    unmet : (e.known ≡ 0) ⊎ (e.known ≢ 0) → IsSent e stamp p
    unmet (inl is) = hello_sent e stamp 0 p (grind (arith, nat_tests, h, is))
    unmet (inr met) = kept met (cases_eq (length e.kept) 0)

-- with the stamp of the node's last step, or a later one, it fits
sent_stamped : (born : ℕ → ℕ → Option ℕ) (stamps : ℕ → ℕ) (net : Network Parcel) (n stamp : ℕ) (e : End Parcel) (p : Packet Parcel) → BeganBy (born n (net.inc n)) (stamps n) → ((x : Parcel) → Among e.kept x → x.stamp ≤ stamp)
    → e.mine ≡ net.inc n → stamps n ≤ stamp → IsSent e stamp p → IsStamped born n p
sent_stamped born stamps net n stamp e p b kept mine low s = record {
  began = record { at = b.at; is = ap (λ (i : ℕ). born n i) (s.inc ∙ mine) ∙ b.is; by = grind (arith, b.by, low, s.at) };
  posted = by s.message;
}
  where
    by : (p.message ≡ hello) ⊎ Among e.kept p.message → p.message.stamp ≤ p.stamp
    by (inl is) = rw is (least p.stamp)
      where
        least : (k : ℕ) → 0 ≤ k
        least k = grind (arith)
    by (inr among) = grind (arith, kept p.message among, s.at)

-- ---- a session ticks

pub stamped_tick : (born : ℕ → ℕ → Option ℕ) (stamps : ℕ → ℕ) (net : Network Parcel) (n m stamp : ℕ) → net.up n ≡ true → (net.end n m).mine ≡ net.inc n → stamps n ≤ stamp → Stamped born stamps net → Stamped born stamps (stepped hello (Tick n m stamp) net)
stamped_tick born stamps net n m stamp on mine low s = record {
  began = s.began;
  kept = λ k l x up among. was k l x up (kept_at net.end n m (ticked (net.end n m)) k l x among);
  packets = λ k l p among. new k l p (among_at net.packets n m (tick_packets hello (net.end n m) stamp) k l p among);
}
  where
    was : (k l : ℕ) (x : Parcel) → net.up k ≡ true → ((k ≡ n) × (l ≡ m) × Among (net.end n m).kept x) ⊎ Among (net.end k l).kept x → x.stamp ≤ stamps k
    was k l x up (inl h) = rw h.0 (s.kept n m x on h.2)
    was k l x up (inr h) = s.kept k l x up h

    new : (k l : ℕ) (p : Packet Parcel) → ((k ≡ n) × (l ≡ m) × Among (tick_packets hello (net.end n m) stamp) p) ⊎ Among (net.packets k l) p → IsStamped born k p
    new k l p (inl h) = rw h.0 (sent_stamped born stamps net n stamp (net.end n m) p (s.began n) (λ x among. grind (arith, s.kept n m x on among, low)) mine low (tick_sent (net.end n m) stamp p h.2))
    new k l p (inr h) = s.packets k l p h

-- ---- a message is sent

sent_kept : (e : End Parcel) (x y : Parcel) → Among (sent e x).kept y → Among e.kept y ⊎ (x ≡ y)
sent_kept e x y h = by (among_append e.kept (x ∷ []) y (plain (e.known == 0) h))
  where
    plain : (b : Bool) → Among (if b then record e { kept = e.kept ++ x ∷ [] } else record e { kept = e.kept ++ x ∷ []; owed = false }).kept y → Among (e.kept ++ x ∷ []) y
    plain true h = h
    plain false h = h

    by : Among e.kept y ⊎ Among (x ∷ []) y → Among e.kept y ⊎ (x ≡ y)
    by (inl h) = inl h
    by (inr (inl is)) = inr is
    by (inr (inr none)) = absurd none

pub message_sent : (e : End Parcel) (x : Parcel) (stamp : ℕ) (p : Packet Parcel) → Among (option_to_list (sent_packet e x stamp)) p → (p.inc ≡ e.mine) × (p.stamp ≡ stamp) × (p.message ≡ x)
message_sent e x stamp p h = by (e.known == 0) h
  where
    by : (b : Bool) → Among (option_to_list (if b then None else Some (packet e e.known (e.acked + length e.kept + 1) stamp x))) p → (p.inc ≡ e.mine) × (p.stamp ≡ stamp) × (p.message ≡ x)
    by true h = absurd h
    by false (inl is) = rw (sym is) (refl, refl, refl)
    by false (inr none) = absurd none

pub stamped_send : (born : ℕ → ℕ → Option ℕ) (stamps : ℕ → ℕ) (net : Network Parcel) (n m : ℕ) (x : Parcel) → net.up n ≡ true → (net.end n m).mine ≡ net.inc n → stamps n ≡ x.stamp → Stamped born stamps net → Stamped born stamps (stepped hello (Send n m x x.stamp) net)
stamped_send born stamps net n m x on mine at s = record {
  began = s.began;
  kept = λ k l y up among. was k l y up (kept_at net.end n m (sent (net.end n m) x) k l y among);
  packets = λ k l p among. new k l p (among_at net.packets n m (option_to_list (sent_packet (net.end n m) x x.stamp)) k l p among);
}
  where
    kept_by : (y : Parcel) → Among (net.end n m).kept y ⊎ (x ≡ y) → y.stamp ≤ stamps n
    kept_by y (inl h) = s.kept n m y on h
    kept_by y (inr is) = rw (sym is) (grind (arith, at))

    was : (k l : ℕ) (y : Parcel) → net.up k ≡ true → ((k ≡ n) × (l ≡ m) × Among (sent (net.end n m) x).kept y) ⊎ Among (net.end k l).kept y → y.stamp ≤ stamps k
    was k l y up (inl h) = rw h.0 (kept_by y (sent_kept (net.end n m) x y h.2))
    was k l y up (inr h) = s.kept k l y up h

    sent_now : (p : Packet Parcel) → (p.inc ≡ (net.end n m).mine) × (p.stamp ≡ x.stamp) × (p.message ≡ x) → IsStamped born n p
    sent_now p is = let b = s.began n in record {
      began = record { at = b.at; is = ap (λ (i : ℕ). born n i) (is.0 ∙ mine) ∙ b.is; by = grind (arith, b.by, at, is.1) };
      posted = grind (arith, is.1, ap (λ (y : Parcel). y.stamp) is.2);
    }

    new : (k l : ℕ) (p : Packet Parcel) → ((k ≡ n) × (l ≡ m) × Among (option_to_list (sent_packet (net.end n m) x x.stamp)) p) ⊎ Among (net.packets k l) p → IsStamped born k p
    new k l p (inl h) = rw h.0 (sent_now p (message_sent (net.end n m) x x.stamp p h.2))
    new k l p (inr h) = s.packets k l p h

-- ---- a crash, and a restart

pub stamped_crash : (born : ℕ → ℕ → Option ℕ) (stamps : ℕ → ℕ) (net : Network Parcel) (n : ℕ) → net.up n ≡ true → Stamped born stamps net → Stamped born stamps (stepped hello (Crash n) net)
stamped_crash born stamps net n on s = record {
  began = s.began;
  kept = λ k l x up among. s.kept k l x (grind (arith, nat_tests, up, on)) among;
  packets = s.packets;
}

-- the ends are fresh, and packets are of earlier incarnations
pub stamped_restart : (born : ℕ → ℕ → Option ℕ) (stamps : ℕ → ℕ) (net : Network Parcel) (n inc stamp : ℕ) → net.inc n < inc → stamps n ≤ stamp → ((k m : ℕ) (p : Packet Parcel) → Among (net.packets k m) p → p.inc ≤ net.inc k) → Stamped born stamps net
    → Stamped (with_at born n (with_at (born n) inc (Some stamp))) (with_at stamps n stamp) (stepped hello (Restart n inc) net)
stamped_restart born stamps net n inc stamp above low from s = record {
  began = λ k. began k (cases_eq k n);
  kept = λ k l x up among. kept k l x up among (cases_eq k n);
  packets = λ k l p among. let old = s.packets k l p among in record { began = record { at = old.began.at; is = same k p (from k l p among) old.began.at old.began.is; by = old.began.by }; posted = old.posted };
}
  where
    began : (k : ℕ) → (k ≡ n) ⊎ (k ≢ n) → BeganBy (with_at born n (with_at (born n) inc (Some stamp)) k (with_at net.inc n inc k)) (with_at stamps n stamp k)
    began k (inl is) = record { at = stamp; is = grind (arith, nat_tests, is); by = grind (arith, nat_tests, is) }
    began k (inr other) = let b = s.began k in record { at = b.at; is = grind (arith, nat_tests, other, b.is); by = grind (arith, nat_tests, other, b.by) }

    kept : (k l : ℕ) (x : Parcel) → with_at net.up n true k ≡ true → Among (with_at net.end n (λ m. fresh inc) k l).kept x → (k ≡ n) ⊎ (k ≢ n) → x.stamp ≤ with_at stamps n stamp k
    kept k l x up among (inl is) = absurd (grind (arith, nat_tests, among, is))
    kept k l x up among (inr other) = grind (arith, nat_tests, other, s.kept k l x (grind (arith, nat_tests, up, other)) (grind (arith, nat_tests, among, other)))

    same : (k : ℕ) (p : Packet Parcel) → p.inc ≤ net.inc k → (at : ℕ) → born k p.inc ≡ Some at → with_at born n (with_at (born n) inc (Some stamp)) k p.inc ≡ Some at
    same k p early at is = grind (arith, nat_tests, early, above, is)
