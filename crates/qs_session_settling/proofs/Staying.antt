-- Each step leaves what a run leaves.
use Rattle.std.proofs.Common.{◌≡◌, Bool, ℕ, ◌+◌, ◌==◌, ◌≤◌, true, false, refl, sym, subst, arith, List, [], ◌∷◌, ◌++◌, length, inl, inr}
use Rattle.std.specs.Prelude.{option_to_list}
use Rattle.std.proofs.lemmas.Bool.Decides.{nat_tests}
use Rattle.qs_session_channels.specs.End.{End, Packet, received, sent, sent_packet, ticked, tick_packets, again, packet}
use Rattle.qs_session_settling.specs.Pairs.{Pair, Action, Take, Send, Tick, Step, Left, Right, left_acted, swapped, stepped}
use Rattle.qs_session_settling.specs.Consistent.{IsOld, AreOld, handed_up, IsConsistentSide, IsConsistent}
use Rattle.qs_session_settling.proofs.Receiving.{Taking, taking}
use Rattle.qs_session_settling.proofs.Ticking.{Each, each_again, Ticking, ticking, sending}

abbrev pub pair_of : {M : Type 0} → (a b : End M) (la lb : List (Packet M)) → Pair M
pair_of a b la lb = record { left = record { end = a; link = la }; right = record { end = b; link = lb } }

-- ---- packets stay old

pub both_old : {M : Type 0} → (a b : End M) (xs ys : List (Packet M)) → AreOld a b xs → AreOld a b ys → AreOld a b (xs ++ ys)
both_old a b [] ys is more = more
both_old a b (x ∷ xs) ys is more = (is.0, both_old a b xs ys is.1 more)

each_old : {M : Type 0} → (a b : End M) (xs : List (Packet M)) → Each (IsOld a b) xs → AreOld a b xs
each_old a b [] is = tt
each_old a b (x ∷ xs) is = (is.0, each_old a b xs is.1)

-- an end that knows as much, and has handed up as much of what it knew
pub record Grows {M : Type 0} (a c b d : End M) : Type 0 where
  pub mine : c.mine ≡ a.mine
  pub other : d.mine ≡ b.mine
  pub known : a.known ≤ c.known
  pub taken : a.known ≡ b.mine → a.taken ≤ c.taken

one_old : {M : Type 0} → (a c b d : End M) (p : Packet M) → Grows a c b d → a.known ≤ b.mine → IsOld a b p → IsOld c d p
one_old a c b d p g k is = record {
  by = grind (arith, is.by, g.mine);
  for = grind (arith, is.for, g.other);
  here = λ same. grind (arith, is.here, same, g.mine, g.known);
  ack = λ same to. grind (arith, is.ack, is.here, same, to, g.mine, g.other, g.taken, k);
}

pub still_old : {M : Type 0} → (a c b d : End M) (xs : List (Packet M)) → Grows a c b d → a.known ≤ b.mine → AreOld a b xs → AreOld c d xs
still_old a c b d [] g k is = tt
still_old a c b d (x ∷ xs) g k is = (one_old a c b d x g k is.0, still_old a c b d xs g k is.1)

-- ---- an end takes a packet

record Took {M : Type 0} (a b c : End M) (p : Packet M) : Type 0 where
  grows : Grows a c b b
  knows : c.known ≤ b.mine
  met : c.met ≡ true → c.known ≡ b.mine → b.known ≡ a.mine
  acked : c.known ≡ b.mine → c.acked ≤ handed_up c b
  is_met : b.met ≡ true → b.known ≡ a.mine → c.known ≡ b.mine
  is_acked : b.known ≡ a.mine → b.acked ≤ handed_up b c

took : {M : Type 0} → (a b c : End M) (la lb : List (Packet M)) (p : Packet M) → Taking a p c → IsOld b a p → IsConsistentSide a b la → IsConsistentSide b a lb → Took a b c p
took a b c la lb p (inl t) old is more = record {
  grows = record { mine = grind (arith, t.same); other = refl; known = grind (arith, t.same); taken = λ same. grind (arith, t.same) };
  knows = grind (arith, t.same, is.knows);
  met = λ on same. grind (arith, t.same, is.met, on, same);
  acked = λ same. grind (arith, nat_tests, t.same, is.acked, same);
  is_met = λ on same. grind (arith, t.same, more.met, on, same);
  is_acked = λ same. grind (arith, nat_tests, t.same, more.acked, same);
}
took a b c la lb p (inr (inl t)) old is more = record {
  grows = record { mine = t.mine; other = refl; known = grind (arith, t.newer, t.known); taken = λ same. absurd (grind (arith, t.newer, old.by, same)) };
  knows = grind (arith, t.known, old.by);
  met = λ on same. grind (arith, t.met, on, same, t.known, old.here, more.knows);
  acked = λ same. grind (arith, t.acked);
  is_met = λ on same. absurd (grind (arith, more.met, on, same, t.newer, old.by));
  is_acked = λ same. grind (arith, nat_tests, more.acked, same, t.newer, old.by);
}
took a b c la lb p (inr (inr (inl t))) old is more = record {
  grows = record { mine = grind (arith, t.same); other = refl; known = grind (arith, t.same); taken = λ same. grind (arith, t.same) };
  knows = grind (arith, t.same, is.knows);
  met = λ on same. grind (arith, t.same, is.met, on, same);
  acked = λ same. grind (arith, nat_tests, t.same, is.acked, same);
  is_met = λ on same. grind (arith, t.same, more.met, on, same);
  is_acked = λ same. grind (arith, nat_tests, t.same, more.acked, same);
}
took a b c la lb p (inr (inr (inr t))) old is more = record {
  grows = record { mine = t.mine; other = refl; known = grind (arith, t.known); taken = λ same. grind (arith, t.taken) };
  knows = grind (arith, t.known, is.knows);
  met = λ on same. grind (arith, t.known, t.by, t.for, same, old.here, more.knows);
  acked = λ same. grind (arith, nat_tests, t.known, t.mine, t.by, t.for, same, old.here, old.ack, more.knows, t.within, is.acked);
  is_met = λ on same. grind (arith, more.met, on, same, t.known);
  is_acked = λ same. grind (arith, nat_tests, more.acked, same, t.known, t.taken);
}

takes : {M : Type 0} → (a b : End M) (la ps : List (Packet M)) (p : Packet M) → IsConsistent (pair_of a b la (p ∷ ps)) → IsConsistent (pair_of (received a p) b la ps)
takes a b la ps p is =
    let t = took a b (received a p) la (p ∷ ps) p (taking a p) is.right.old.0 is.left is.right in
    record {
      left = record {
        some = grind (arith, is.left.some, t.grows.mine);
        knows = t.knows;
        old = still_old a (received a p) b b la t.grows is.left.knows is.left.old;
        met = λ on same. grind (arith, t.met, on, same, t.grows.mine);
        acked = t.acked;
      };
      right = record {
        some = is.right.some;
        knows = grind (arith, is.right.knows, t.grows.mine);
        old = still_old b b a (received a p) ps (record { mine = refl; other = t.grows.mine; known = grind arith; taken = λ same. grind arith }) is.right.knows is.right.old.1;
        met = λ on same. grind (arith, t.is_met, on, same, t.grows.mine);
        acked = λ same. grind (arith, t.is_acked, same, t.grows.mine);
      };
    }

-- ---- it puts more on its link, and is left as it was but for what it keeps and owes

pub record Same {M : Type 0} (a c : End M) : Type 0 where
  pub mine : c.mine ≡ a.mine
  pub known : c.known ≡ a.known
  pub met : c.met ≡ a.met
  pub taken : c.taken ≡ a.taken
  pub acked : c.acked ≡ a.acked

puts : {M : Type 0} → (a c b : End M) (la lb more : List (Packet M)) → Same a c → AreOld a b more → IsConsistent (pair_of a b la lb) → IsConsistent (pair_of c b (la ++ more) lb)
puts a c b la lb more s goes is = record {
  left = record {
    some = grind (arith, is.left.some, s.mine);
    knows = grind (arith, is.left.knows, s.known);
    old = still_old a c b b (la ++ more) (record { mine = s.mine; other = refl; known = grind (arith, s.known); taken = λ same. grind (arith, s.taken) }) is.left.knows (both_old a b la more is.left.old goes);
    met = λ on same. grind (arith, is.left.met, on, same, s.mine, s.known, s.met);
    acked = λ same. grind (arith, nat_tests, is.left.acked, same, s.mine, s.known, s.acked);
  };
  right = record {
    some = is.right.some;
    knows = grind (arith, is.right.knows, s.mine);
    old = still_old b b a c lb (record { mine = refl; other = s.mine; known = grind arith; taken = λ same. grind arith }) is.right.knows is.right.old;
    met = λ on same. grind (arith, is.right.met, on, same, s.mine, s.known);
    acked = λ same. grind (arith, nat_tests, is.right.acked, same, s.mine, s.known, s.taken);
  };
}

one_put : {M : Type 0} → (a b : End M) (to number stamp : ℕ) (x : M) → to ≤ a.known → a.known ≤ b.mine → IsOld a b (packet a to number stamp x)
one_put a b to number stamp x below is = record { by = grind arith; for = grind (arith, below, is); here = λ same. below; ack = λ same there. grind arith }

tick_old : {M : Type 0} → (hello : M) (a b : End M) (stamp : ℕ) → a.known ≤ b.mine → Ticking hello a stamp → AreOld a b (tick_packets hello a stamp)
tick_old hello a b stamp is (inl t) = subst (λ ps. AreOld a b ps) (sym t.puts) (one_put a b 0 0 stamp hello (grind arith) is, tt)
tick_old hello a b stamp is (inr (inl t)) =
    subst (λ ps. AreOld a b ps) (sym t.puts) (each_old a b (again a stamp a.acked a.kept) (each_again (IsOld a b) a stamp (λ number x. one_put a b a.known (number + 1) stamp x (grind arith) is) a.acked a.kept))
tick_old hello a b stamp is (inr (inr (inl t))) = subst (λ ps. AreOld a b ps) (sym t.puts) (one_put a b a.known 0 stamp hello (grind arith) is, tt)
tick_old hello a b stamp is (inr (inr (inr (inl t)))) = subst (λ ps. AreOld a b ps) (sym t.puts) (one_put a b 0 0 stamp hello (grind arith) is, tt)
tick_old hello a b stamp is (inr (inr (inr (inr t)))) = subst (λ ps. AreOld a b ps) (sym t.puts) tt

send_old : {M : Type 0} → (a b : End M) (x : M) (stamp : ℕ) → a.known ≤ b.mine → AreOld a b (option_to_list (sent_packet a x stamp))
send_old {M} a b x stamp is = by_test (a.known == 0) refl
  where
    by_test : (strange : Bool) → (a.known == 0) ≡ strange → AreOld a b (option_to_list (sent_packet a x stamp))
    by_test true e = subst (λ ps. AreOld a b ps) (sym ((sending a x stamp).none (grind (arith, nat_tests, e)))) tt
    by_test false e = subst (λ ps. AreOld a b ps) (sym ((sending a x stamp).puts (grind (arith, nat_tests, e)))) (one_put a b a.known (a.acked + length a.kept + 1) stamp x (grind arith) is, tt)

pub same_sent : {M : Type 0} → (a : End M) (x : M) (stamp : ℕ) → Same a (sent a x)
same_sent a x stamp = let s = sending a x stamp in record { mine = s.mine; known = s.known; met = s.met; taken = s.taken; acked = s.acked }

left_stays : {M : Type 0} → (hello : M) (action : Action M) (a b : End M) (la lb : List (Packet M)) → IsConsistent (pair_of a b la lb) → IsConsistent (left_acted hello action (pair_of a b la lb))
left_stays hello Take a b la [] is = is
left_stays hello Take a b la (p ∷ ps) is = takes a b la ps p is
left_stays hello (Send x stamp) a b la lb is = puts a (sent a x) b la lb (option_to_list (sent_packet a x stamp)) (same_sent a x stamp) (send_old a b x stamp is.left.knows) is
left_stays hello (Tick stamp) a b la lb is =
    puts a (ticked a) b la lb (tick_packets hello a stamp) (record { mine = refl; known = refl; met = refl; taken = refl; acked = refl }) (tick_old hello a b stamp is.left.knows (ticking hello a stamp)) is

-- ---- either side

pub other_way : {M : Type 0} → (pair : Pair M) → IsConsistent pair → IsConsistent (swapped pair)
other_way pair is = record { left = is.right; right = is.left }

pub stays : {M : Type 0} → (hello : M) (step : Step M) (pair : Pair M) → IsConsistent pair → IsConsistent (stepped hello step pair)
stays hello (Left action) pair is = left_stays hello action pair.left.end pair.right.end pair.left.link pair.right.link is
stays hello (Right action) pair is =
    other_way (left_acted hello action (swapped pair)) (left_stays hello action pair.right.end pair.left.end pair.right.link pair.left.link (other_way pair is))
