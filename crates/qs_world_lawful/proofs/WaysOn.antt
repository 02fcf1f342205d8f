-- What is on its way goes on through a crash, whatever it leaves in the log, and through a restart; and scripts through a restart.
use Rattle.qs_world_lawful.proofs.Words.{◌≡◌, ℕ, ◌<◌, ◌+◌, ◌-◌, ◌==◌, ◌++◌, ◌&&◌, not, zero, suc, Bool, true, false, List, [], ◌∷◌, drop, length, map, Some, refl, sym, ap, subst, ◌∙◌, arith, nat_lt, if◌then◌else◌, append-nil, nat_tests, flat_map-append, filter, ServerNo, Tid, Channels, BookValue, find_transaction, book_after, TransactionValue, requests_in, is_standing, Op, recovered_of, Rise, may_move, moved, risen_host, stopped_host, Parcel, World, at_server, Lasts, on_its_way, ops_of, pending}
use Rattle.qs_world_lawful.proofs.Words.{pending_from, way_between, IsWithin, op_in, standing_ops, waiting_ops, AreSound, rise_entry, HoldsWorld, eqb-true, both_ways, ltb-true}
use Rattle.qs_world_lawful.specs.Face.{waiting_at}
use Rattle.qs_world_lawful.specs.Parcels.{HoldsWays}
use Rattle.qs_world_lawful.specs.WayLaws.{EachCrashKeepsWays, EachRiseKeepsWays}
use Rattle.qs_world_lawful.proofs.OpenedScripts.{none_from}
use Rattle.qs_world_lawful.proofs.RestoredTid.{was}
use Rattle.qs_world_lawful.proofs.RisesWell.{at, log, r, same_book, setting}
use Rattle.qs_world_lawful.proofs.WithinParts.{pending_past, within_behind, within_first}

-- ---- a crash

pub crash_ways : EachCrashKeepsWays
crash_ways book world n stamp cause log h a b in_a in_b apart tid tx server number found = by (b == n) refl
  where
    was_so : IsWithin (waiting_ops (way_between a b number) (waiting_at (world.hosts b).node tid server) ++ ops_of tid server number (on_its_way world.channels a b)) (standing_ops tx (way_between a b number) (record { 0 = b }) server)
    was_so = h a b in_a in_b apart tid tx server number found

    by : (x : Bool) → (b == n) ≡ x
        → IsWithin (waiting_ops (way_between a b number) (waiting_at (if x then stopped_host stamp log (world.hosts n) else world.hosts b).node tid server) ++ ops_of tid server number (on_its_way world.channels a b)) (standing_ops tx (way_between a b number) (record { 0 = b }) server)
    by false far = was_so
    by true near = subst (λ (k : ℕ). IsWithin (waiting_ops (way_between a b number) (waiting_at (world.hosts k).node tid server) ++ ops_of tid server number (on_its_way world.channels a b)) (standing_ops tx (way_between a b number) (record { 0 = b }) server)) (eqb-true b n near) was_so

-- ---- a restart

abbrev nothing : List Parcel
nothing = []

drop_none : (k : ℕ) → drop k nothing ≡ []
drop_none zero = refl
drop_none (suc k) = refl

more_by : (p old new : ℕ) → old < new → (new + 1) - p ≡ ((old + 1) - p) + (((new + 1) - p) - ((old + 1) - p))
more_by p old new later = grind (arith, later)

past_last : (p last : ℕ) → last < p + ((last + 1) - p)
past_last p last = grind (arith)

module _ (book : BookValue) (world : World) (n stamp inc : ℕ) (lasts : Lasts book) (held : HoldsWorld book world) (sound : AreSound world.channels) (may : may_move world (Rise n stamp inc) ≡ true) (ways : HoldsWays book world) where
  abbrev c : Channels Parcel
  c = world.channels

  later_inc : c.inc n < inc
  later_inc = ltb-true (c.inc n) inc (last (not (c.up n)) _ _ may)
    where
      last : (x y z : Bool) → (x && (y && z)) ≡ true → z ≡ true
      last true true z e = e
      last true false z e = absurd (cc e)
      last false y z e = absurd (cc e)

  -- it stood, with the same requests
  stood : (tid : Tid) (later : TransactionValue) → find_transaction (book_after book (rise_entry world n stamp inc ∷ [])) tid ≡ Some later → (tx : TransactionValue) × (find_transaction book tid ≡ Some tx) × (later.requests ≡ tx.requests)
  stood tid later found =
      let p = was book (setting book world n stamp inc lasts held may).node stamp inc (log book world n stamp inc lasts held may) (at book world n stamp inc lasts held may).state (r book world n stamp inc lasts held may) tid later
      (subst (λ (b : BookValue). find_transaction b tid ≡ Some later) (same_book book world n stamp inc lasts held may) found) in
      (p.0, p.1, p.2.requests)

  module _ (a b : ℕ) (in_a : nat_lt a world.size ≡ true) (in_b : nat_lt b world.size ≡ true) (apart : (a == b) ≡ false) (tid : Tid) (tx : TransactionValue) (server : ServerNo) (number : ℕ) (found : find_transaction book tid ≡ Some tx) where
    abbrev ops : List Parcel → List Op
    ops = ops_of tid server number

    abbrev W : List Op
    W = waiting_ops (way_between a b number) (waiting_at (world.hosts b).node tid server)

    abbrev rs : List Op
    rs = standing_ops tx (way_between a b number) (record { 0 = b }) server

    abbrev P : List Parcel
    P = pending_from (λ i. pending c a b i (c.inc b)) (c.peer b a) ((c.inc a + 1) - c.peer b a)

    was_so : IsWithin (W ++ (ops P ++ ops (c.waits a b))) rs
    was_so = subst (λ (xs : List Op). IsWithin (W ++ xs) rs) (flat_map-append _ P (c.waits a b)) (ways a b in_a in_b apart tid tx server number found)

    empty_posted : (i j : ℕ) → c.posted a b i j ≡ [] → pending c a b i j ≡ []
    empty_posted i j none = ap (drop (length (c.handed a b i j))) none ∙ drop_none (length (c.handed a b i j))

    to_it : (b ≡ n) → IsWithin (ops (pending_from (λ i. pending c a b i inc) 0 ((c.inc a + 1) - 0) ++ c.waits a b)) rs
    to_it same = subst (λ (ps : List Parcel). IsWithin (ops (ps ++ c.waits a b)) rs) (sym (none_from (λ i. pending c a b i inc) (λ i. empty_posted i inc (sound.for_none a b i inc (subst (λ (k : ℕ). c.inc k < inc) (sym same) later_inc))) 0 ((c.inc a + 1) - 0)))
        (within_behind (ops P) (ops (c.waits a b)) rs (within_behind W (ops P ++ ops (c.waits a b)) rs was_so))

    from_it : (a ≡ n) → IsWithin (W ++ ops (pending_from (λ i. pending c a b i (c.inc b)) (c.peer b a) ((inc + 1) - c.peer b a) ++ [])) rs
    from_it same = subst (λ (ps : List Parcel). IsWithin (W ++ ops ps) rs) (sym (append-nil _ ∙ same_pending)) (within_first W (ops P) (ops (c.waits a b)) rs was_so)
      where
        same_pending : pending_from (λ i. pending c a b i (c.inc b)) (c.peer b a) ((inc + 1) - c.peer b a) ≡ P
        same_pending = ap (pending_from (λ i. pending c a b i (c.inc b)) (c.peer b a)) (more_by (c.peer b a) (c.inc a) inc (subst (λ (k : ℕ). c.inc k < inc) (sym same) later_inc))
            ∙ pending_past (λ i. pending c a b i (c.inc b)) (c.inc a) (λ i late. empty_posted i (c.inc b) (sound.by_none a b i (c.inc b) late)) (c.peer b a) ((c.inc a + 1) - c.peer b a) _ (past_last (c.peer b a) (c.inc a))

    pub risen_way : IsWithin (waiting_ops (way_between a b number) (waiting_at ((moved (Rise n stamp inc) world).hosts b).node tid server) ++ ops (on_its_way (moved (Rise n stamp inc) world).channels a b)) rs
    risen_way = by (a == n) refl (b == n) refl
      where
        by : (x : Bool) → (a == n) ≡ x → (y : Bool) → (b == n) ≡ y
            → IsWithin (waiting_ops (way_between a b number) (waiting_at (if y then risen_host stamp inc (recovered_of (world.hosts n).log) (world.hosts n) else world.hosts b).node tid server)
            ++ ops (pending_from (λ i. pending c a b i (if y then inc else c.inc b)) ((if y then (λ (m : ℕ). 0) else c.peer b) a) (((if x then inc else c.inc a) + 1) - (if y then (λ (m : ℕ). 0) else c.peer b) a) ++ (if x then (λ (m : ℕ). []) else c.waits a) b)) rs
        by true near true too = absurd (both_ways (a == b) apart (both a b n near too))
          where
            both : (a b n : ℕ) → (a == n) ≡ true → (b == n) ≡ true → (a == b) ≡ true
            both a b n e f = grind (arith, nat_tests, e, f)
        by true near false far = from_it (eqb-true a n near)
        by false far true near = to_it (eqb-true b n near)
        by false far false too = subst (λ (xs : List Op). IsWithin (W ++ xs) rs) (sym (flat_map-append _ P (c.waits a b))) was_so

pub rise_ways : EachRiseKeepsWays
rise_ways book world n stamp inc lasts held sound may ways a b in_a in_b apart tid later server number found =
    let p = stood book world n stamp inc lasts held sound may ways tid later found in
    subst (λ (rs : List Op). IsWithin (waiting_ops (way_between a b number) (waiting_at ((moved (Rise n stamp inc) world).hosts b).node tid server) ++ ops_of tid server number (on_its_way (moved (Rise n stamp inc) world).channels a b)) rs)
    (ap (λ es. map op_in (filter (is_standing (at_server (record { 0 = b }) server)) (requests_in es (way_between a b number)))) (sym p.2))
    (risen_way book world n stamp inc lasts held sound may ways a b in_a in_b apart tid p.0 server number p.1)
