-- A later incarnation of another node becomes known: a request that an earlier one has on its way dooms, and where there is none what all places hold goes on.
use Rattle.qs_world_runs.proofs.Words.{◌≡◌, ◌≢◌, ◌⊎◌, inl, inr, ℕ, ◌+◌, ◌<◌, ◌≤◌, ◌==◌, ◌&&◌, not, Bool, true, false, List, ◌++◌, map, zero, suc, refl, ap, subst, ◌∙◌, arith, if◌then◌else◌, nat_tests, Tid, BookValue, Work, Noticed, taken_by, World, IsDoomed, IsLeft, has_request, link, all_said, taken_scene, known_place, place, Scene, sent_to, requested, first_work, pending, field_of, message_of, PlacedAmid, taken, none_below_zero}
use Rattle.qs_world_agree.specs.World as machine
use Rattle.qs_world_agree.proofs.Doomed.{left_behind_dooms}
use Rattle.qs_world_refine.specs.Links.{IsLink, Said}
use Rattle.qs_world_refine.specs.Stands as shown
use Rattle.qs_world_runs.proofs.CommitsPlaced.{none_in}
use Rattle.qs_world_runs.proofs.NoticeComes.{notice_comes}
use Rattle.std.proofs.lemmas.Bool.{ne_eqb}

-- one below k is so, or none is
any_below : (f : ℕ → Bool) (k : ℕ) → ((i : ℕ) → i < k → f i ≡ false) ⊎ ((i : ℕ) × (i < k) × (f i ≡ true))
any_below f zero = inl (λ i less. absurd (none_below_zero i less))
any_below f (suc k) = by (f k) refl (any_below f k)
  where
    self : (k : ℕ) → k < suc k
    self k = omega arith

    further : (i k : ℕ) → i < k → i < suc k
    further i k less = omega (arith, less)

    last : (i k : ℕ) → i < suc k → (i < k) ⊎ (i ≡ k)
    last i k less = cases (i == k) refl
      where
        cases : (b : Bool) → (i == k) ≡ b → (i < k) ⊎ (i ≡ k)
        cases true same = inr (grind (arith, nat_tests, same))
        cases false apart = inl (grind (arith, nat_tests, apart, less))

    by : (b : Bool) → f k ≡ b → ((i : ℕ) → i < k → f i ≡ false) ⊎ ((i : ℕ) × (i < k) × (f i ≡ true)) → ((i : ℕ) → i < suc k → f i ≡ false) ⊎ ((i : ℕ) × (i < suc k) × (f i ≡ true))
    by b is (inr some) = inr (some.0, further some.0 k some.1, some.2)
    by true is (inl none) = inr (k, self k, is)
    by false is (inl none) = inl (λ i less. each i (last i k less))
      where
        each : (i : ℕ) → (i < k) ⊎ (i ≡ k) → f i ≡ false
        each i (inl below) = none i below
        each i (inr same) = ap f same ∙ is

module _ (t : Tid) (world : World) (n m new : ℕ) (m_in : m < world.size) (other : m ≢ n) (known : 1 ≤ world.channels.peer n m) (later : world.channels.peer n m < new) (begun : new ≤ world.channels.inc m)
    (work : Work) (v : machine.World) (is : shown.Stands t (taken_scene world n (Noticed m new)) n work v) where
  abbrev scene : Scene
  scene = taken_scene world n (Noticed m new)

  abbrev me : ℕ
  me = place n (world.channels.inc n)

  abbrev has : ℕ → Bool
  has i = has_request (all_said t (map message_of (pending world.channels m n i (world.channels.inc n))))

  -- the machine knows the later one too
  peer_is : v.peer me m ≡ place m new
  peer_is = is.shown.stage.peers n m is.at.in_run m_in is.at.up ∙ (ap (known_place m) (knows n m refl refl) ∙ some new (positive (world.channels.peer n m) new later))
    where
      knows : (a b : ℕ) → a ≡ n → b ≡ m → (taken_by world n (Noticed m new)).peer a b ≡ new
      knows a b p q = grind (arith, nat_tests, p, q)

      positive : (a b : ℕ) → a < b → 1 ≤ b
      positive a b less = omega (arith, less)

      some : (k : ℕ) → 1 ≤ k → known_place m k ≡ place m k
      some k positive = picked (k == 0) (grind (arith, nat_tests, positive))
        where
          picked : (b : Bool) → b ≡ false → (if b then 0 else place m k) ≡ place m k
          picked b off = rw off refl

  left : (i : ℕ) → i < new → has i ≡ true → IsDoomed v
  left i less some = left_behind_dooms v (place m i) me (v.received me (place m i) + 1) is.lawful.reached behind put
    where
      node_is : v.node (place m i) ≡ m
      node_is = is.shown.stage.nodes m i m_in

      behind : place m i < v.peer me (v.node (place m i))
      behind = below i new m (v.peer me (v.node (place m i))) less (ap (v.peer me) node_is ∙ peer_is)
        where
          below : (a b d e : ℕ) → a < b → e ≡ place d b → place d a < e
          below a b d e h q = omega (arith, h, q)

      -- the node's own messages go elsewhere
      apart : (m == n) ≡ false
      apart = ne_eqb m n other

      same : (b c : Bool) → b ≡ false → (xs ys : List Said) → (if b && c then xs ++ ys else xs) ≡ xs
      same b c off xs ys = rw off refl

      on_way : IsLink (link v (place m i) me) (all_said t (map message_of (pending world.channels m n i (world.channels.inc n))))
      on_way = subst (λ (s : List Said). IsLink (link v (place m i) me) s)
          (same (m == n) ((i == scene.inc n) && ((world.channels.inc n == scene.knows n n) && not (world.channels.inc n == 0))) apart (all_said t (scene.pending m i n (world.channels.inc n))) (all_said t (sent_to n work.out.messages)))
          (is.shown.links m i n (world.channels.inc n) m_in is.at.in_run is.at.up refl)

      waits : v.received me (place m i) < v.posted (place m i) me
      waits = requested (all_said t (map message_of (pending world.channels m n i (world.channels.inc n)))) (link v (place m i) me) some on_way

      put : IsLeft v (place m i) me (v.received me (place m i) + 1)
      put = record { number = omega arith; put = omega (arith, waits); untaken = omega arith }

  pub notice_finds : (stamp free : ℕ) (before : BookValue) → IsDoomed v ⊎ (PlacedAmid t (field_of world) (world.channels.peer n) n stamp before (first_work (world.hosts n).node free)
      → PlacedAmid t (field_of (taken world n (Noticed m new))) ((taken_by world n (Noticed m new)).peer n) n stamp before (first_work (world.hosts n).node free))
  notice_finds stamp free before = by (any_below has new)
    where
      by : ((i : ℕ) → i < new → has i ≡ false) ⊎ ((i : ℕ) × (i < new) × (has i ≡ true)) → IsDoomed v ⊎ (PlacedAmid t (field_of world) (world.channels.peer n) n stamp before (first_work (world.hosts n).node free)
          → PlacedAmid t (field_of (taken world n (Noticed m new))) ((taken_by world n (Noticed m new)).peer n) n stamp before (first_work (world.hosts n).node free))
      by (inl none) = inr (notice_comes t world n m new stamp free before known later begun (λ i server number less. none_in t server number (pending world.channels m n i (world.channels.inc n)) (none i less)))
      by (inr some) = inl (left some.0 some.1 some.2)
