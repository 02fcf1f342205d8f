-- So it is after a first meeting.
use Rattle.qs_world_refine.proofs.Words.{◌≡◌, inr, ℕ, ◌≤◌, ◌<◌, ◌==◌, not, Bool, true, false, List, [], ◌++◌, refl, sym, ap, subst, arith, nat_lt, if◌then◌else◌, nat_tests, list_all, Parcel, IsSeated, AreSoundOver, stage_with, stage_of, IsSteadyHost, IsSteadyWorld, is_steady_parcel, are_two, eqb-true}
use Rattle.qs_session_channels.specs.Network.{with_at2}
use Rattle.qs_world.specs.Moves.{met}
use Rattle.qs_world.specs.World.{World}
use Rattle.qs_world_refine.proofs.SaidTidy.{all_joined}
use Rattle.qs_world_refine.proofs.SoundParts.{both_and}
use Rattle.qs_world_refine.proofs.SteadyGrows.{Grows, Rises, parcels_on, record_on, hosts_after, may_be_on, has_begun_on, stage_stands}
use Rattle.qs_world_refine.proofs.TidyBegins.{Widens}

-- ---- a first meeting

module _ (world : World) (steady : IsSteadyWorld world) (n stamp m inc : ℕ) (low : n < world.size) (other : not (m == n) ≡ true) (in_run : nat_lt m world.size ≡ true) (some : nat_lt 0 inc ≡ true) where
  abbrev new : World
  new = met world n stamp m inc

  same_hosts : (k : ℕ) → (new.hosts k).node.manager.begun ≡ (world.hosts k).node.manager.begun
  same_hosts k = by (k == n) refl
    where
      by : (b : Bool) → (k == n) ≡ b → (new.hosts k).node.manager.begun ≡ (world.hosts k).node.manager.begun
      by true same = rw same (ap (λ (j : ℕ). (world.hosts j).node.manager.begun) (sym (eqb-true k n same)))
      by false off = rw off refl

  pub meet_grows : Grows world new
  meet_grows = record { size = refl; rises = λ k. inr (refl, by k (world.channels.up k)) }
    where
      by : (k : ℕ) (b : Bool) → (if b then (world.hosts k).node.manager.begun else 0) ≤ (if b then (new.hosts k).node.manager.begun else 0)
      by k true = let same : (new.hosts k).node.manager.begun ≡ (world.hosts k).node.manager.begun = same_hosts k in grind (arith, same)
      by k false = grind (arith)

  peer_on : (p q : ℕ) → 1 ≤ world.channels.peer p q → 1 ≤ new.channels.peer p q
  peer_on p q knows = by (p == n) (q == m)
    where
      by : (a b : Bool) → 1 ≤ (if a then (if b then inc else world.channels.peer p q) else world.channels.peer p q)
      by true true = grind (arith, nat_tests, some)
      by true false = knows
      by false b = knows

  pub meet_steady : IsSeated new → AreSoundOver new → IsSteadyWorld new
  meet_steady seated sound = record {
    seated = seated;
    sound = sound;
    nodes = hosts_after world new n (record (world.hosts n) { stamp = stamp }) meet_grows (λ k. refl) (λ k q off knows. peer_on k q knows) (λ in_run. host_now) steady.nodes;
    peers = λ p q knows. two p q (p == n) refl (q == m) refl knows;
    nobody = λ p q j. by_old p q j;
    posted = posted_now;
    waits = λ p q. waits_now p q (p == n) (q == m);
    scripts = steady.scripts;
  }
    where
      wide : Widens (stage_of world n) (stage_with new n (world.hosts n).node)
      wide = record { setting = refl; past = may_be_on world new meet_grows; begun = has_begun_on world new meet_grows; met = λ q its. known q.0 its }
        where
          known : (q : ℕ) → nat_lt 0 (world.channels.peer n q) ≡ true → nat_lt 0 (new.channels.peer n q) ≡ true
          known q its = let it : 1 ≤ new.channels.peer n q = peer_on n q (grind (arith, nat_tests, its)) in grind (arith, nat_tests, it)

      host_wide_at : IsSteadyHost (stage_with new n (world.hosts n).node) (world.hosts n)
      host_wide_at = Rattle.qs_world_refine.proofs.SteadyGrows.host_wide (stage_of world n) (stage_with new n (world.hosts n).node) wide refl (world.hosts n) (steady.nodes n low)

      host_now : IsSteadyHost (stage_with new n (world.hosts n).node) (record (world.hosts n) { stamp = stamp })
      host_now = record { tidy = host_wide_at.tidy; saved = host_wide_at.saved; first = host_wide_at.first; records = host_wide_at.records; waiting = host_wide_at.waiting; unended = host_wide_at.unended }

      meets : are_two world.size n m ≡ true
      meets = both_and (nat_lt n world.size) _ (grind (arith, nat_tests, low)) (both_and (nat_lt m world.size) _ in_run (grind (arith, nat_tests, other)))

      two : (p q : ℕ) (a : Bool) → (p == n) ≡ a → (b : Bool) → (q == m) ≡ b → 1 ≤ new.channels.peer p q → are_two world.size p q ≡ true
      two p q true pa true qb knows = subst (λ (k : ℕ). are_two world.size k q ≡ true) (sym (eqb-true p n pa)) (subst (λ (k : ℕ). are_two world.size n k ≡ true) (sym (eqb-true q m qb)) meets)
      two p q true pa false qb knows = steady.peers p q (rw (pa, qb) at knows)
      two p q false pa b qb knows = steady.peers p q (rw pa at knows)

      -- what waited is posted
      met_list : List Parcel
      met_list = world.channels.posted n m (world.channels.inc n) inc ++ world.channels.waits n m

      at_four : (p q i j : ℕ) (a b : Bool) → (a ≡ true → p ≡ n) → (b ≡ true → q ≡ m)
          → list_all (is_steady_parcel new p q) ((if a then (if b then with_at2 (world.channels.posted n m) (world.channels.inc n) inc met_list else world.channels.posted p q) else world.channels.posted p q) i j) ≡ true
      at_four p q i j false b pa qb = parcels_on world new meet_grows p q (world.channels.posted p q i j) (steady.posted p q i j)
      at_four p q i j true false pa qb = parcels_on world new meet_grows p q (world.channels.posted p q i j) (steady.posted p q i j)
      at_four p q i j true true pa qb = subst (λ (k : ℕ). list_all (is_steady_parcel new k q) (piece (i == world.channels.inc n) (j == inc)) ≡ true) (sym (pa refl)) (subst (λ (k : ℕ). list_all (is_steady_parcel new n k) (piece (i == world.channels.inc n) (j == inc)) ≡ true) (sym (qb refl)) (whole (i == world.channels.inc n) (j == inc)))
        where
          piece : Bool → Bool → List Parcel
          piece x y = if x then (if y then met_list else world.channels.posted n m i j) else world.channels.posted n m i j

          whole : (x y : Bool) → list_all (is_steady_parcel new n m) (piece x y) ≡ true
          whole true true = parcels_on world new meet_grows n m (world.channels.posted n m (world.channels.inc n) inc ++ world.channels.waits n m)
              (all_joined (is_steady_parcel world n m) (world.channels.posted n m (world.channels.inc n) inc) (world.channels.waits n m) (steady.posted n m (world.channels.inc n) inc) (steady.waits n m))
          whole true false = parcels_on world new meet_grows n m (world.channels.posted n m i j) (steady.posted n m i j)
          whole false y = parcels_on world new meet_grows n m (world.channels.posted n m i j) (steady.posted n m i j)

      posted_now : (p q i j : ℕ) → list_all (is_steady_parcel new p q) (new.channels.posted p q i j) ≡ true
      posted_now p q i j = at_four p q i j (p == n) (q == m) (eqb-true p n) (eqb-true q m)

      waits_now : (p q : ℕ) (a b : Bool) → list_all (is_steady_parcel new p q) (if a then (if b then [] else world.channels.waits p q) else world.channels.waits p q) ≡ true
      waits_now p q true true = refl
      waits_now p q true false = parcels_on world new meet_grows p q (world.channels.waits p q) (steady.waits p q)
      waits_now p q false b = parcels_on world new meet_grows p q (world.channels.waits p q) (steady.waits p q)

      by_old : (p q j : ℕ) → new.channels.posted p q 0 j ≡ []
      by_old p q j = by (p == n) (q == m)
        where
          none : (0 == world.channels.inc n) ≡ false
          none = let it : 1 ≤ world.channels.inc n = steady.seated.begun n low in grind (arith, nat_tests, it)

          inner : (x y : Bool) → x ≡ false → (if x then (if y then met_list else world.channels.posted n m 0 j) else world.channels.posted n m 0 j) ≡ []
          inner true y off = absurd (cc (off))
          inner false y off = steady.nobody n m j

          by : (a b : Bool) → (if a then (if b then with_at2 (world.channels.posted n m) (world.channels.inc n) inc met_list else world.channels.posted p q) else world.channels.posted p q) 0 j ≡ []
          by true true = inner (0 == world.channels.inc n) (j == inc) none
          by true false = steady.nobody p q j
          by false b = steady.nobody p q j
