-- What is on its way goes on as a node gets to know a first incarnation of another: what waited for it is posted behind all that was, and of what
-- that node has on its way the incarnations before are not known any more.
use Rattle.qs_world_lawful.proofs.Words.{◌≡◌, ℕ, ◌<◌, ◌≤◌, ◌+◌, ◌-◌, ◌==◌, ◌++◌, ◌&&◌, not, zero, suc, Bool, true, false, List, [], ◌∷◌, drop, length, Some, refl, sym, ap, subst, ◌∙◌, arith, nat_lt, nat_le, if◌then◌else◌, append-nil, append_assoc, nat_tests, flat_map-append, ServerNo, Tid, Channels, with_at2, BookValue, find_transaction, TransactionValue, Op, Meet, is_later, may_move, moved, Parcel, World, HoldsChannels, on_its_way, ops_of, pending, pending_from, way_between, IsWithin}
use Rattle.qs_world_lawful.proofs.Words.{standing_ops, waiting_ops, AreSound, eqb-self, zero_plus, both_ways, eqb-true}
use Rattle.qs_world_lawful.specs.Face.{waiting_at}
use Rattle.qs_world_lawful.specs.Parcels.{HoldsWays}
use Rattle.qs_world_lawful.specs.WayLaws.{EachMeetKeepsWays}
use Rattle.qs_world_lawful.proofs.WithinParts.{pending_last, pending_parts, pending_same, within_around, within_first}
use Rattle.qs_base_lemmas.proofs.Tests.{lt_apart}
use Rattle.std.proofs.lemmas.Bool.{leb-true}

drop_front : (k : ℕ) (xs ys : List Parcel) → k ≤ length xs → drop k (xs ++ ys) ≡ drop k xs ++ ys
drop_front zero xs ys low = refl
drop_front (suc k) [] ys low = absurd (none k low)
  where
    none : (k : ℕ) → suc k ≤ 0 → ⊥
    none k e = grind (arith, e)
drop_front (suc k) (x ∷ xs) ys low = drop_front k xs ys (fall k (length xs) low)
  where
    fall : (k l : ℕ) → suc k ≤ suc l → k ≤ l
    fall k l e = grind (arith, e)

module _ (book : BookValue) (world : World) (n stamp m inc : ℕ) (channels : HoldsChannels book world.size world.channels) (sound : AreSound world.channels) (may : may_move world (Meet n stamp m inc) ≡ true) (ways : HoldsWays book world) where
  abbrev c : Channels Parcel
  c = world.channels

  record Meets : Type 0 where
    other : (m == n) ≡ false
    unknown : c.peer n m ≡ 0
    begun : inc ≤ c.inc m

  meets : Meets
  meets = of (c.up n) (is_later world n stamp) (m == n) refl (nat_lt m world.size) (c.peer n m == 0) refl (nat_lt 0 inc) (nat_le inc (c.inc m)) refl _ may
    where
      is_none : (k : ℕ) → (k == 0) ≡ true → k ≡ 0
      is_none k e = grind (arith, nat_tests, e)

      of : (s t u : Bool) → (m == n) ≡ u → (v w : Bool) → (c.peer n m == 0) ≡ w → (x y : Bool) → nat_le inc (c.inc m) ≡ y → (z : Bool) → (s && (t && ((not u && v) && (w && (x && (y && z)))))) ≡ true → Meets
      of true true false apart true true known true true low z e = record { other = apart; unknown = is_none (c.peer n m) known; begun = leb-true inc (c.inc m) low }
      of true true false apart true true known true false low z e = absurd (cc e)
      of true true false apart true true known false y low z e = absurd (cc e)
      of true true false apart true false known x y low z e = absurd (cc e)
      of true true false apart false w known x y low z e = absurd (cc e)
      of true true true apart v w known x y low z e = absurd (cc e)
      of true false u apart v w known x y low z e = absurd (cc e)
      of false t u apart v w known x y low z e = absurd (cc e)

  module _ (a b : ℕ) (in_a : nat_lt a world.size ≡ true) (in_b : nat_lt b world.size ≡ true) (apart : (a == b) ≡ false) (tid : Tid) (tx : TransactionValue) (server : ServerNo) (number : ℕ) (found : find_transaction book tid ≡ Some tx) where
    abbrev ops : List Parcel → List Op
    ops = ops_of tid server number

    abbrev W : ℕ → List Op
    W k = waiting_ops (way_between a b number) (waiting_at (world.hosts k).node tid server)

    abbrev rs : List Op
    rs = standing_ops tx (way_between a b number) (record { 0 = b }) server

    abbrev at : ℕ → List Parcel
    at i = pending c a b i (c.inc b)

    abbrev P : List Parcel
    P = pending_from at (c.peer b a) ((c.inc a + 1) - c.peer b a)

    was_so : IsWithin (W b ++ ops (P ++ c.waits a b)) rs
    was_so = ways a b in_a in_b apart tid tx server number found

    -- what it has on its way to the one it knows now
    abbrev met : ℕ → ℕ → ℕ → List Parcel
    met k l i = drop (length (c.handed a b i (c.inc b))) (with_at2 (c.posted k l) (c.inc k) inc (c.posted k l (c.inc k) inc ++ c.waits k l) i (c.inc b))

    abbrev Met : ℕ → ℕ → Type 0
    Met k l = IsWithin (W b ++ ops (pending_from (met k l) (c.peer b a) ((c.inc a + 1) - c.peer b a) ++ [])) rs

    met_own : Met a b
    met_own = by (c.inc b == inc) refl
      where
        numbers : (p l : ℕ) → p ≤ l → (l + 1) - p ≡ suc (l - p)
        numbers p l e = grind (arith, e)

        whole : (p l : ℕ) → p ≤ l → p + (l - p) ≡ l
        whole p l e = grind (arith, e)

        at_last : c.inc b ≡ inc → met a b (c.inc a) ≡ at (c.inc a) ++ c.waits a b
        at_last same = rw (eqb-self (c.inc a), ap (λ (k : ℕ). k == inc) same ∙ eqb-self inc) (ap (λ (k : ℕ). drop (length (c.handed a b (c.inc a) (c.inc b))) (c.posted a b (c.inc a) k ++ c.waits a b)) (sym same)
            ∙ drop_front (length (c.handed a b (c.inc a) (c.inc b))) (c.posted a b (c.inc a) (c.inc b)) (c.waits a b) (sound.within a b (c.inc a) (c.inc b)))

        less : (i : ℕ) → i < c.inc a → met a b i ≡ at i
        less i e = rw (lt_apart i (c.inc a) e) refl

        apart_at : (c.inc b == inc) ≡ false → (i : ℕ) → met a b i ≡ at i
        apart_at far i = of (i == c.inc a)
          where
            of : (x : Bool) → drop (length (c.handed a b i (c.inc b))) (if x then (if c.inc b == inc then c.posted a b (c.inc a) inc ++ c.waits a b else c.posted a b i (c.inc b)) else c.posted a b i (c.inc b)) ≡ at i
            of true = rw far refl
            of false = refl

        by : (x : Bool) → (c.inc b == inc) ≡ x → Met a b
        by true same = subst (λ (ps : List Parcel). IsWithin (W b ++ ops ps) rs) (sym (append-nil _ ∙ (ap (pending_from (met a b) (c.peer b a)) (numbers (c.peer b a) (c.inc a) (channels.known b a))
            ∙ (pending_last at (met a b) (c.waits a b) (c.inc a) (at_last (eqb-true (c.inc b) inc same)) less (c.peer b a) (c.inc a - c.peer b a) (whole (c.peer b a) (c.inc a) (channels.known b a))
            ∙ ap (λ (k : ℕ). pending_from at (c.peer b a) k ++ c.waits a b) (sym (numbers (c.peer b a) (c.inc a) (channels.known b a))))))) was_so
        by false far = subst (λ (ps : List Parcel). IsWithin (W b ++ ops ps) rs) (sym (append-nil _ ∙ pending_same (met a b) at (apart_at far) (c.peer b a) ((c.inc a + 1) - c.peer b a)))
            (within_first (W b) (ops P) (ops (c.waits a b)) rs (subst (λ (xs : List Op). IsWithin (W b ++ xs) rs) (flat_map-append _ P (c.waits a b)) was_so))

    -- what the other has on its way to it
    back : c.peer b a ≡ 0 → inc ≤ c.inc a → IsWithin (W b ++ ops (pending_from at inc ((c.inc a + 1) - inc) ++ c.waits a b)) rs
    back unknown low = subst (λ (xs : List Op). IsWithin (W b ++ xs) rs) (sym (flat_map-append _ (pending_from at inc ((c.inc a + 1) - inc)) (c.waits a b)))
        (within_around (W b) (ops (pending_from at 0 inc)) (ops (pending_from at inc ((c.inc a + 1) - inc)) ++ ops (c.waits a b)) rs
        (subst (λ (xs : List Op). IsWithin (W b ++ xs) rs) (flat_map-append _ (pending_from at 0 inc) (pending_from at inc ((c.inc a + 1) - inc) ++ c.waits a b) ∙ ap (λ (t : List Op). ops (pending_from at 0 inc) ++ t) (flat_map-append _ (pending_from at inc ((c.inc a + 1) - inc)) (c.waits a b)))
        (subst (λ (ps : List Parcel). IsWithin (W b ++ ops ps) rs) parts was_so)))
      where
        numbers : (j l : ℕ) → j ≤ l → (l + 1) - 0 ≡ j + ((l + 1) - j)
        numbers j l e = grind (arith, e)

        parts : P ++ c.waits a b ≡ pending_from at 0 inc ++ (pending_from at inc ((c.inc a + 1) - inc) ++ c.waits a b)
        parts = ap (λ (k : ℕ). pending_from at k ((c.inc a + 1) - k) ++ c.waits a b) unknown
            ∙ (ap (λ (ps : List Parcel). ps ++ c.waits a b) (ap (pending_from at 0) (numbers inc (c.inc a) low) ∙ (pending_parts at 0 inc ((c.inc a + 1) - inc) ∙ ap (λ (k : ℕ). pending_from at 0 inc ++ pending_from at k ((c.inc a + 1) - inc)) (zero_plus inc)))
            ∙ append_assoc (pending_from at 0 inc) (pending_from at inc ((c.inc a + 1) - inc)) (c.waits a b))

    pub met_way : IsWithin (waiting_ops (way_between a b number) (waiting_at ((moved (Meet n stamp m inc) world).hosts b).node tid server) ++ ops (on_its_way (moved (Meet n stamp m inc) world).channels a b)) rs
    met_way = by (a == n) refl (b == m) refl (b == n) refl (a == m) refl
      where
        both : (a b n : ℕ) → (a == n) ≡ true → (b == n) ≡ true → (a == b) ≡ true
        both a b n e f = grind (arith, nat_tests, e, f)

        by : (x : Bool) → (a == n) ≡ x → (y : Bool) → (b == m) ≡ y → (u : Bool) → (b == n) ≡ u → (v : Bool) → (a == m) ≡ v
            → IsWithin (waiting_ops (way_between a b number) (waiting_at (if u then record (world.hosts n) { stamp = stamp } else world.hosts b).node tid server)
            ++ ops (pending_from (λ i. drop (length (c.handed a b i (c.inc b))) ((if x then (if y then with_at2 (c.posted n m) (c.inc n) inc (c.posted n m (c.inc n) inc ++ c.waits n m) else c.posted a b) else c.posted a b) i (c.inc b))) (if u then (if v then inc else c.peer b a) else c.peer b a) ((c.inc a + 1) - (if u then (if v then inc else c.peer b a) else c.peer b a))
            ++ (if x then (if y then [] else c.waits a b) else c.waits a b))) rs
        by true near y is true too v e = absurd (both_ways (a == b) apart (both a b n near too))
        by true near true is false too v e = subst (λ (l : ℕ). Met n l) (eqb-true b m is) (subst (λ (k : ℕ). Met k b) (eqb-true a n near) met_own)
        by true near false is false too v e = was_so
        by false far y is true too true e = subst (λ (k : ℕ). IsWithin (W k ++ ops (pending_from at inc ((c.inc a + 1) - inc) ++ c.waits a b)) rs) (eqb-true b n too)
            (back (subst (λ (l : ℕ). c.peer b l ≡ 0) (sym (eqb-true a m e)) (subst (λ (k : ℕ). c.peer k m ≡ 0) (sym (eqb-true b n too)) meets.unknown)) (subst (λ (k : ℕ). inc ≤ c.inc k) (sym (eqb-true a m e)) meets.begun))
        by false far y is true too false e = subst (λ (k : ℕ). IsWithin (W k ++ ops (P ++ c.waits a b)) rs) (eqb-true b n too) was_so
        by false far y is false too v e = was_so

pub meet_ways : EachMeetKeepsWays
meet_ways book world n stamp m inc channels sound may ways a b in_a in_b apart tid tx server number found = met_way book world n stamp m inc channels sound may ways a b in_a in_b apart tid tx server number found
