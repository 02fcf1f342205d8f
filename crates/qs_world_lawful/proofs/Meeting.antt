-- A node gets to know a first incarnation of another: nothing is entered, and the machine has the world as before.
use Rattle.qs_world_lawful.proofs.Words.{◌≡◌, ℕ, ◌<◌, ◌==◌, ◌&&◌, ◌||◌, Bool, true, false, refl, sym, subst, arith, if◌then◌else◌, nat_lt, nat_le, nat_tests, BookValue, Meet, is_later, may_move, moved, stamp_limit, Host, World, inc_of, is_next, HoldsDown, HoldsNodeAt, HoldsNodeOf, HoldsUp, HoldsWorld, eqb-true, and_parts}
use Rattle.qs_world.specs.Moves.{is_in_order}

-- the stamp of a host bears on nothing that is held
pub stamp_on : (book : BookValue) (size n inc : ℕ) (up : Bool) (host : Host) (stamp : ℕ) → HoldsNodeOf book size n inc up host → HoldsNodeOf book size n inc up (record host { stamp = stamp })
stamp_on book size n inc up host stamp h = record {
  state = h.state;
  there = h.there;
  up_is = h.up_is;
  inc_is = h.inc_is;
  node = h.node;
  run = h.run;
  format = h.format;
  accepted = h.accepted;
  kept = h.kept;
  runs = λ is. let u : HoldsUp n book h.state host = h.runs is in record { still = u.still; log = u.log; said = u.said; on_disk = u.on_disk };
  stopped = λ is. let d : HoldsDown n book h.state host = h.stopped is in record { log = d.log; stands = d.stands; marked = d.marked; left = d.left; nothing_waits = d.nothing_waits };
}

-- a step after a step is after what stood before it
pub order_on : (size limit last0 last1 host stamp n s k host2 : ℕ) → ((nat_lt n size && nat_lt stamp limit) && ((nat_lt last0 stamp || ((last0 == stamp) && nat_le last1 n)) && nat_le host stamp)) ≡ true
    → ((nat_lt k size && nat_lt s limit) && ((nat_lt stamp s || ((stamp == s) && nat_le n k)) && true)) ≡ true
    → nat_le host2 s ≡ true
    → ((nat_lt k size && nat_lt s limit) && ((nat_lt last0 s || ((last0 == s) && nat_le last1 k)) && nat_le host2 s)) ≡ true
order_on size limit last0 last1 host stamp n s k host2 a b c = grind (arith, nat_tests, a, b, c)

module _ (book : BookValue) (world : World) (n stamp m inc : ℕ) (h : HoldsWorld book world) (may : may_move world (Meet n stamp m inc) ≡ true) where
  abbrev next : World
  next = moved (Meet n stamp m inc) world

  first : is_in_order world n stamp ≡ true
  first = (and_parts (is_in_order world n stamp) _ (and_parts (is_later world n stamp) _ (and_parts (world.channels.up n) _ may).1).0).0

  host_at : (k : ℕ) (s : ℕ) (b : Bool) → nat_le (if b then record (world.hosts n) { stamp = stamp } else world.hosts k).stamp s ≡ true → (b ≡ true → k ≡ n) → nat_le (world.hosts k).stamp s ≡ true
  host_at k s true e near = subst (λ (j : ℕ). nat_le (world.hosts j).stamp s ≡ true) (sym (near refl)) (low (world.hosts n).stamp stamp s (and_parts (nat_lt world.last.0 stamp || ((world.last.0 == stamp) && nat_le world.last.1 n)) _ (and_parts (nat_lt n world.size && nat_lt stamp stamp_limit) _ first).1).1 e)
    where
      low : (a b c : ℕ) → nat_le a b ≡ true → nat_le b c ≡ true → nat_le a c ≡ true
      low a b c p q = grind (arith, nat_tests, p, q)
  host_at k s false e near = e

  pub meets : HoldsWorld book next
  meets = record { size = h.size; order = order; nodes = nodes }
    where
      order : (k s : ℕ) → is_in_order next k s ≡ true → is_next s k book ≡ true
      order k s is = h.order k s (order_on world.size stamp_limit world.last.0 world.last.1 (world.hosts n).stamp stamp n s k (world.hosts k).stamp first whole (host_at k s (k == n) host (λ e. eqb-true k n e)))
        where
          two : ((nat_lt k world.size && nat_lt s stamp_limit) ≡ true) × (((nat_lt stamp s || ((stamp == s) && nat_le n k)) && nat_le (next.hosts k).stamp s) ≡ true)
          two = and_parts (nat_lt k world.size && nat_lt s stamp_limit) _ is

          host : nat_le (next.hosts k).stamp s ≡ true
          host = (and_parts (nat_lt stamp s || ((stamp == s) && nat_le n k)) _ two.1).1

          whole : ((nat_lt k world.size && nat_lt s stamp_limit) && ((nat_lt stamp s || ((stamp == s) && nat_le n k)) && true)) ≡ true
          whole = rw (two.0, (and_parts (nat_lt stamp s || ((stamp == s) && nat_le n k)) _ two.1).0) refl

      nodes : (k : ℕ) → k < world.size → HoldsNodeAt book next k
      nodes k low = by (k == n) refl
        where
          by : (b : Bool) → (k == n) ≡ b → HoldsNodeOf book world.size k (inc_of world k) (world.channels.up k) (if b then record (world.hosts n) { stamp = stamp } else world.hosts k)
          by false far = h.nodes k low
          by true near = subst (λ (j : ℕ). HoldsNodeOf book world.size k (inc_of world k) (world.channels.up k) (record (world.hosts j) { stamp = stamp })) (eqb-true k n near) (stamp_on book world.size k (inc_of world k) (world.channels.up k) (world.hosts k) stamp (h.nodes k low))
