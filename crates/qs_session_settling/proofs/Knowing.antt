-- Three passes, and each end knows the other.
use Rattle.std.proofs.Common.{◌≡◌, ◌≢◌, ◌⊎◌, ℕ, suc, true, false, refl, sym, subst, arith, List, [], ◌∷◌, ◌++◌, length, inl, inr}
use Rattle.std.specs.Prelude.{⊤, option_to_list}
use Rattle.qs_session_channels.specs.End.{End, Packet, received, sent, sent_packet, ticked, tick_packets, again}
use Rattle.qs_session_settling.specs.Pairs.{Pair, Step, swapped, stepped}
use Rattle.qs_session_settling.specs.Passes.{Passes}
use Rattle.qs_session_settling.specs.Consistent.{IsConsistent, OneRoseLast}
use Rattle.qs_session_settling.specs.Settled.{KnowEachOther}
use Rattle.qs_session_settling.proofs.Ticking.{Ticking, ticking, sending}
use Rattle.qs_session_settling.proofs.Staying.{pair_of, stays, other_way}
use Rattle.qs_session_settling.proofs.Stages.{Bears, Keeps, Stage, Stays, keeps_each}
use Rattle.qs_session_settling.proofs.Rows.{Row, row_of, parted, stays_row, keeps_row, consistent_on, staged_row, row_mirrored}
use Rattle.qs_session_settling.proofs.Keeping.{keeps_nothing}
use Rattle.qs_session_settling.proofs.Within.{Within, within_more, within_front, within_behind}
use Rattle.qs_session_settling.proofs.Learning.{heard, KnowsLeft, knows_on, RightRose, rose_on}

-- ---- whoever the right end has met is the right one: it rose last, or it knows the left end

abbrev IsSure : {M : Type 0} → Pair M → Type 0
IsSure pair = RightRose pair ⊎ KnowsLeft pair

abbrev Sure : {M : Type 0} → Pair M → Type 0
Sure pair = IsConsistent pair × IsSure pair

sure_by : {M : Type 0} → (hello : M) (step : Step M) (pair : Pair M) → IsConsistent pair → IsSure pair → IsSure (stepped hello step pair)
sure_by hello step pair is (inl r) = inl (keeps_each hello false IsConsistent RightRose (rose_on hello) step tt pair is r)
sure_by hello step pair is (inr k) = inr (keeps_each hello false IsConsistent KnowsLeft (knows_on hello false) step tt pair is k)

sure_on : {M : Type 0} → (hello : M) → Stays hello false Sure
sure_on hello step of pair is = (stays hello step pair is.0, sure_by hello step pair is.0 is.1)

met_known : {M : Type 0} → (pair : Pair M) → Sure pair → pair.right.end.met ≡ true → pair.left.end.known ≡ pair.right.end.mine
met_known pair (is, inl r) on = is.right.met on (r.met on)
met_known pair (is, inr k) on = is.right.met on k

-- ---- its tick says something, unless the left end knows it

abbrev By : {M : Type 0} → ℕ → Packet M → Type 0
By i p = p.inc ≡ i

abbrev Says : {M : Type 0} → Pair M → Type 0
Says pair = Within (By pair.right.end.mine) (length pair.right.link) pair.right.link ⊎ (pair.left.end.known ≡ pair.right.end.mine)

tick_says : {M : Type 0} → (hello : M) (a b : End M) (la lb : List (Packet M)) (stamp : ℕ) → Sure (pair_of a b la lb) → Ticking hello b stamp → Says (pair_of a (ticked b) la (lb ++ tick_packets hello b stamp))
tick_says hello a b la lb stamp is (inl t) = inl (within_behind (By b.mine) lb (tick_packets hello b stamp) (subst (λ ps. Within (By b.mine) (length ps) ps) (sym t.puts) (inl refl)))
tick_says {M} hello a b la lb stamp is (inr (inl t)) = inl (within_behind (By b.mine) lb (tick_packets hello b stamp) (subst (λ ps. Within (By b.mine) (length ps) ps) (sym t.puts) (first b.kept t.some)))
  where
    first : (xs : List M) → length xs ≢ 0 → Within (By b.mine) (length (again b stamp b.acked xs)) (again b stamp b.acked xs)
    first [] some = absurd (some refl)
    first (x ∷ xs) some = inl refl
tick_says hello a b la lb stamp is (inr (inr (inl t))) = inl (within_behind (By b.mine) lb (tick_packets hello b stamp) (subst (λ ps. Within (By b.mine) (length ps) ps) (sym t.puts) (inl refl)))
tick_says hello a b la lb stamp is (inr (inr (inr (inl t)))) = inl (within_behind (By b.mine) lb (tick_packets hello b stamp) (subst (λ ps. Within (By b.mine) (length ps) ps) (sym t.puts) (inl refl)))
tick_says hello a b la lb stamp is (inr (inr (inr (inr t)))) = inr (met_known (pair_of a b la lb) is t.met)

says_left : {M : Type 0} → (a b : End M) (la ps : List (Packet M)) (p : Packet M) → Sure (pair_of a b la (p ∷ ps)) → Says (pair_of a b la (p ∷ ps)) → Says (pair_of (received a p) b la ps)
says_left a b la ps p is (inl (inl here)) = inr (grind (arith, here, (heard a p).known, (heard a p).heard, is.0.right.old.0.by, is.0.left.knows))
says_left a b la ps p is (inl (inr later)) = inl later
says_left a b la ps p is (inr knows) = inr (grind (arith, knows, (heard a p).known, is.0.right.old.0.by))

says_more : {M : Type 0} → (a b c d : End M) (la lc lb more : List (Packet M)) → c.known ≡ a.known → d.mine ≡ b.mine → Says (pair_of a b la lb) → Says (pair_of c d lc (lb ++ more))
says_more a b c d la lc lb more known mine (inl h) = inl (subst (λ i. Within (By i) (length (lb ++ more)) (lb ++ more)) (sym mine) (within_front (By b.mine) lb more h))
says_more a b c d la lc lb more known mine (inr k) = inr (grind (arith, k, known, mine))

says_same : {M : Type 0} → (a b c d : End M) (la lc lb : List (Packet M)) → c.known ≡ a.known → d.mine ≡ b.mine → Says (pair_of a b la lb) → Says (pair_of c d lc lb)
says_same a b c d la lc lb known mine (inl h) = inl (subst (λ i. Within (By i) (length lb) lb) (sym mine) h)
says_same a b c d la lc lb known mine (inr k) = inr (grind (arith, k, known, mine))

says_on : {M : Type 0} → (hello : M) → Keeps hello false Sure Says
says_on hello = record {
  bears = record {
    left_takes = says_left;
    left_sends = λ on a b la lb x stamp is h. says_same a b (sent a x) b la (la ++ option_to_list (sent_packet a x stamp)) lb (sending a x stamp).known refl h;
    left_ticks = λ a b la lb stamp is h. says_same a b (ticked a) b la (la ++ tick_packets hello a stamp) lb refl refl h;
    right_sends = λ on a b la lb x stamp is h. says_more a b a (sent b x) la la lb (option_to_list (sent_packet b x stamp)) refl (sending b x stamp).mine h;
    right_ticks = λ a b la lb stamp is h. says_more a b a (ticked b) la la lb (tick_packets hello b stamp) refl refl h;
  };
  right_takes = λ a b ps lb p is h. says_same a b a (received b p) (p ∷ ps) ps lb refl (heard b p).mine h;
}

saying : {M : Type 0} → (hello : M) → Stage hello false Sure (λ n pair. ⊤) Says
saying hello = record {
  bears = λ n. (keeps_nothing hello false Sure).bears;
  takes = λ n a b ps lb p is h. tt;
  finds_none = λ n a b lb is h. tt;
  takes_more = λ a b ps lb p is h. tt;
  ticks = λ a b la lb stamp is h. tick_says hello a b la lb stamp is (ticking hello b stamp);
  keeps = says_on hello;
}

-- ---- and who takes it knows who said it

abbrev Hears : {M : Type 0} → ℕ → Pair M → Type 0
Hears n pair = Within (By pair.left.end.mine) n pair.left.link ⊎ KnowsLeft pair

hears_same : {M : Type 0} → (n : ℕ) (a b c d : End M) (la more lb lc : List (Packet M)) → c.mine ≡ a.mine → d.known ≡ b.known → Hears n (pair_of a b la lb) → Hears n (pair_of c d (la ++ more) lc)
hears_same n a b c d la more lb lc mine known (inl h) = inl (subst (λ i. Within (By i) n (la ++ more)) (sym mine) (within_more (By a.mine) n la more h))
hears_same n a b c d la more lb lc mine known (inr k) = inr (grind (arith, k, known, mine))

hears_took : {M : Type 0} → (n : ℕ) (a b c : End M) (la lb lc : List (Packet M)) → c.mine ≡ a.mine → Hears n (pair_of a b la lb) → Hears n (pair_of c b la lc)
hears_took n a b c la lb lc mine (inl h) = inl (subst (λ i. Within (By i) n la) (sym mine) h)
hears_took n a b c la lb lc mine (inr k) = inr (grind (arith, k, mine))

hears_on : {M : Type 0} → (hello : M) (n : ℕ) → Bears hello false IsConsistent (Hears n)
hears_on hello n = record {
  left_takes = λ a b la ps p is h. hears_took n a b (received a p) la (p ∷ ps) ps (heard a p).mine h;
  left_sends = λ on a b la lb x stamp is h. hears_same n a b (sent a x) b la (option_to_list (sent_packet a x stamp)) lb lb (sending a x stamp).mine refl h;
  left_ticks = λ a b la lb stamp is h. hears_same n a b (ticked a) b la (tick_packets hello a stamp) lb lb refl refl h;
  right_sends = λ on a b la lb x stamp is h. hears_kept n a b (sent b x) la lb (lb ++ option_to_list (sent_packet b x stamp)) (sending b x stamp).known h;
  right_ticks = λ a b la lb stamp is h. h;
}
  where
    hears_kept : {M : Type 0} → (n : ℕ) (a b d : End M) (la lb lc : List (Packet M)) → d.known ≡ b.known → Hears n (pair_of a b la lb) → Hears n (pair_of a d la lc)
    hears_kept n a b d la lb lc known (inl h) = inl h
    hears_kept n a b d la lb lc known (inr k) = inr (grind (arith, k, known))

hears_next : {M : Type 0} → (n : ℕ) (a b : End M) (ps lb : List (Packet M)) (p : Packet M) → IsConsistent (pair_of a b (p ∷ ps) lb) → Hears (suc n) (pair_of a b (p ∷ ps) lb) → Hears n (pair_of a (received b p) ps lb)
hears_next n a b ps lb p is (inl (inl here)) = inr (grind (arith, here, (heard b p).known, (heard b p).heard, is.left.old.0.by, is.right.knows))
hears_next n a b ps lb p is (inl (inr later)) = inl later
hears_next n a b ps lb p is (inr k) = inr (grind (arith, k, (heard b p).known, is.left.old.0.by))

hears_none : {M : Type 0} → (n : ℕ) (a b : End M) (lb : List (Packet M)) → Hears (suc n) (pair_of a b [] lb) → Hears n (pair_of a b [] lb)
hears_none n a b lb (inl h) = absurd h
hears_none n a b lb (inr k) = inr k

hears_end : {M : Type 0} → (pair : Pair M) → Hears 0 pair → KnowsLeft pair
hears_end pair (inl h) = absurd h
hears_end pair (inr k) = k

hears_more : {M : Type 0} → (a b : End M) (ps lb : List (Packet M)) (p : Packet M) → IsConsistent (pair_of a b (p ∷ ps) lb) → Hears 0 (pair_of a b (p ∷ ps) lb) → Hears 0 (pair_of a (received b p) ps lb)
hears_more a b ps lb p is h = inr (grind (arith, hears_end (pair_of a b (p ∷ ps) lb) h, (heard b p).known, is.left.old.0.by))

hearing : {M : Type 0} → (hello : M) → Stage hello false IsConsistent Hears KnowsLeft
hearing hello = record {
  bears = hears_on hello;
  takes = hears_next;
  finds_none = λ n a b lb is h. hears_none n a b lb h;
  takes_more = hears_more;
  ticks = λ a b la lb stamp is h. hears_end (pair_of a b la lb) h;
  keeps = knows_on hello false;
}

-- ---- behind that, its own tick says something

abbrev Learned : {M : Type 0} → Pair M → Type 0
Learned pair = KnowsLeft pair × Says pair

learned_on : {M : Type 0} → (hello : M) → Keeps hello false IsConsistent Learned
learned_on hello = let k = knows_on hello false in let s = says_on hello in record {
  bears = record {
    left_takes = λ a b la ps p is h. (k.bears.left_takes a b la ps p is h.0, s.bears.left_takes a b la ps p (is, inr h.0) h.1);
    left_sends = λ on a b la lb x stamp is h. (k.bears.left_sends on a b la lb x stamp is h.0, s.bears.left_sends on a b la lb x stamp (is, inr h.0) h.1);
    left_ticks = λ a b la lb stamp is h. (k.bears.left_ticks a b la lb stamp is h.0, s.bears.left_ticks a b la lb stamp (is, inr h.0) h.1);
    right_sends = λ on a b la lb x stamp is h. (k.bears.right_sends on a b la lb x stamp is h.0, s.bears.right_sends on a b la lb x stamp (is, inr h.0) h.1);
    right_ticks = λ a b la lb stamp is h. (k.bears.right_ticks a b la lb stamp is h.0, s.bears.right_ticks a b la lb stamp (is, inr h.0) h.1);
  };
  right_takes = λ a b ps lb p is h. (k.right_takes a b ps lb p is h.0, s.right_takes a b ps lb p (is, inr h.0) h.1);
}

learning : {M : Type 0} → (hello : M) → Stage hello false IsConsistent Hears Learned
learning hello = record {
  bears = hears_on hello;
  takes = hears_next;
  finds_none = λ n a b lb is h. hears_none n a b lb h;
  takes_more = hears_more;
  ticks = λ a b la lb stamp is h. let k = hears_end (pair_of a b la lb) h in (k, tick_says hello a b la lb stamp (is, inr k) (ticking hello b stamp));
  keeps = learned_on hello;
}

-- ---- pass by pass

-- the right end, which rose last, says something; the left one learns of it, and says something; and the right one learns of that
by_right_rose : {M : Type 0} → (hello : M) (old new : Pair M) → IsConsistent old → RightRose old → Row hello false 3 old new → KnowEachOther new
by_right_rose hello old new is r row =
    let p = parted hello false 1 2 old new row in
    let q = parted hello false 1 1 p.0 new p.2 in
    let said = staged_row hello false Sure (λ n x. ⊤) Says (sure_on hello) (saying hello) old p.0 p.1 (is, inl r) tt in
    let one = other_way p.0 (stays_row hello false IsConsistent (consistent_on hello false) 1 old p.0 p.1 is) in
    let back = row_mirrored hello false 1 p.0 q.0 q.1 in
    let learned = staged_row hello false IsConsistent Hears Learned (consistent_on hello false) (learning hello) (swapped p.0) (swapped q.0) back one said in
    let two = stays_row hello false IsConsistent (consistent_on hello false) 1 (swapped p.0) (swapped q.0) back one in
    let right = staged_row hello false IsConsistent Hears KnowsLeft (consistent_on hello false) (hearing hello) q.0 new q.2 (other_way (swapped q.0) two) learned.1 in
    record { left = keeps_row hello false IsConsistent KnowsLeft (consistent_on hello false) (knows_on hello false) 1 (swapped q.0) (swapped new) (row_mirrored hello false 1 q.0 new q.2) two learned.0; right = right }

-- three, and each knows the other
pub acquainted : {M : Type 0} → (hello : M) (old new : Pair M) → IsConsistent old → OneRoseLast old → Row hello false 3 old new → KnowEachOther new
acquainted hello old new is (inl r) row =
    let k = by_right_rose hello (swapped old) (swapped new) (other_way old is) r (row_mirrored hello false 3 old new row) in
    record { left = k.right; right = k.left }
acquainted hello old new is (inr r) row = by_right_rose hello old new is r row

pub acquaints : {M : Type 0} → (hello : M) (old new : Pair M) → IsConsistent old → OneRoseLast old → Passes hello 3 old new → KnowEachOther new
acquaints hello old new is r passes = acquainted hello old new is r (row_of hello 3 old new passes)
