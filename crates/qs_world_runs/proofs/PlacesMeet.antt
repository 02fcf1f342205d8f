-- What all places hold through a first meeting: what was kept back for an incarnation that stopped dooms, and so does what an earlier one has on its way.
use Rattle.qs_world_runs.proofs.Words.{◌≡◌, ◌≢◌, ◌⊎◌, inl, inr, ℕ, ◌+◌, ◌<◌, ◌≤◌, ◌==◌, ◌&&◌, ◌||◌, Bool, true, false, List, [], ◌∷◌, map, refl, sym, ap, subst, ◌∙◌, arith, nat_lt, nat_le, if◌then◌else◌, eqb-true, nat_tests, Tid, TransactionValue, Request, RequestNo, Meet, may_move, moved, Opening, World, Open, Committed, Aborted, IsDoomed, IsLeft, IsPast, doom_stays, has_request, AllGoes, ShowsAll, link, waiting_link, all_said, place, requested, invariant, pending, AreSound, Joined, nodes_in}
use Rattle.qs_world_runs.proofs.Words.{WaitsAt, AreAwaited, AwaitedAt, AwaitedOf, PlacedOf, EachPlaced, Placed, field_of, message_of, equal_apart}
use Rattle.qs_book_machine.specs.Transaction.{is_open}
use Rattle.qs_node_step.specs.State.{NodeValue}
use Rattle.qs_world_agree.specs.World as machine
use Rattle.qs_world_agree.specs.World.{Outcome}
use Rattle.qs_world_agree.proofs.Doomed.{left_behind_dooms, left_dooms}
use Rattle.qs_world_refine.specs.Begun.{has_begun}
use Rattle.qs_world_refine.specs.MeetLaws.{MeetsAlone}
use Rattle.qs_world_refine.specs.MeetingLaws.{met_at}
use Rattle.qs_world_refine.proofs.MeetsAlone.{Meets, meet_goes_alone, meets_may}
use Rattle.qs_world_runs.proofs.JoinedParts.{seated_sound}
use Rattle.qs_world_runs.proofs.MetFields.{room_then, same_nodes}
use Rattle.qs_world_runs.proofs.PlacedIssued.{issued_left}
use Rattle.qs_world_runs.proofs.PlacedTx.{HasRoom, bare_lives, bare_on, lives_bare, placed_on}
use Rattle.qs_world_runs.proofs.Entries.{each_on}
use Rattle.qs_base_lemmas.proofs.Tests.{le_zero}

at_pair : (a b : ℕ) (f : ℕ → ℕ → ℕ) (x k l : ℕ) → k ≡ a → l ≡ b → machine.with_at2 f a b x k l ≡ x
at_pair a b f x k l p q = grind (arith, nat_tests, p, q)

at_other : (a b : ℕ) (f : ℕ → ℕ → ℕ) (x k l : ℕ) → k ≢ a → machine.with_at2 f a b x k l ≡ f k l
at_other a b f x k l p = grind (arith, nat_tests, p)

turned : (b : Bool) (x y : ℕ) → (b && (y == x)) ≡ false → (b && (x == y)) ≡ false
turned true x y off = grind (arith, nat_tests, off)
turned false x y off = refl

module _ (o : Opening) (world : World) (j : Joined AwaitedAt o world) (n stamp m inc : ℕ) (may : may_move world (Meet n stamp m inc) ≡ true) where
  abbrev after : World
  after = moved (Meet n stamp m inc) world

  its : Meets world n m inc
  its = meets_may world n stamp m inc may

  module _ (tid : Tid) (was : has_begun world tid ≡ true) where
    p : PlacedOf tid o world
    p = (j.places tid was).places

    abbrev w : machine.World
    w = p.machine

    all : ShowsAll tid world w
    all = p.shows

    alone : MeetsAlone tid world after n m inc w
    alone = meet_goes_alone tid world n stamp m inc w may j.shown was p.shows

    goes : AllGoes tid after w
    goes = alone.goes

    abbrev v : machine.World
    v = goes.next

    abbrev me : ℕ
    me = place n (world.channels.inc n)

    abbrev it : ℕ
    it = place m inc

    -- ---- what the machine has then: the place knows the other, and has all put for it that it sent there

    abbrev as_met : machine.World
    as_met = met_at w me it

    is_met : v ≡ as_met
    unfolding goes alone
    is_met = alone.alone

    node_me : w.node me ≡ n
    node_me = all.seen.shown.stage.nodes n (world.channels.inc n) its.n_in

    node_it : w.node it ≡ m
    node_it = all.seen.shown.stage.nodes m inc its.m_in

    same_place : (k : ℕ) → place m k ≢ me
    same_place k same = equal_apart m n (sym (all.seen.shown.stage.nodes m k its.m_in) ∙ (ap w.node same ∙ node_me)) its.apart

    -- an earlier incarnation of the other has a request on its way
    left : (i : ℕ) → i < inc → has_request (all_said tid (map message_of (pending world.channels m n i (world.channels.inc n)))) ≡ true → IsDoomed v
    left i less has = left_behind_dooms v (place m i) me (w.received me (place m i) + 1) goes.shown.seen.lawful.reached (subst (λ (x : machine.World). place m i < x.peer me (x.node (place m i))) (sym is_met) later) (subst (λ (x : machine.World). IsLeft x (place m i) me (w.received me (place m i) + 1)) (sym is_met) put)
      where
        waits : w.received me (place m i) < w.posted (place m i) me
        waits = requested (all_said tid (map message_of (pending world.channels m n i (world.channels.inc n)))) (link w (place m i) me) has (all.seen.shown.links m i n (world.channels.inc n) its.m_in its.n_in its.on refl)

        later : place m i < as_met.peer me (as_met.node (place m i))
        later = below i inc m (as_met.peer me (as_met.node (place m i))) less (at_pair me (w.node it) w.peer it me (w.node (place m i)) refl (all.seen.shown.stage.nodes m i its.m_in ∙ sym node_it))
          where
            below : (a b d e : ℕ) → a < b → e ≡ place d b → place d a < e
            below a b d e h q = omega (arith, h, q)

        put : IsLeft as_met (place m i) me (w.received me (place m i) + 1)
        put = record { number = omega arith; put = more (w.received me (place m i)) (w.posted (place m i) me) (as_met.posted (place m i) me) waits (at_other me it w.posted (w.sent me (w.node it)) (place m i) me (same_place i)); untaken = omega arith }
          where
            more : (a b d : ℕ) → a < b → d ≡ b → a + 1 ≤ d
            more a b d h e = omega (arith, h, e)

    -- it kept a request back for an incarnation that stopped
    lost : (world.channels.up m && (world.channels.inc m == inc)) ≡ false → has_request (all_said tid (map message_of (world.channels.waits n m))) ≡ true → IsDoomed v
    lost gone has = left_dooms v me it 1 goes.shown.seen.lawful.reached (subst (λ (x : machine.World). IsPast x it) (sym is_met) past) (subst (λ (x : machine.World). IsLeft x me it 1) (sym is_met) put)
      where
        sent : 0 < w.sent me m
        sent = requested (all_said tid (map message_of (world.channels.waits n m))) (waiting_link w me m) has (all.seen.shown.unmet n m its.n_in its.m_in its.on its.unknown)

        past : IsPast as_met it
        past = record { down = all.seen.shown.stage.up m inc its.m_in ∙ turned (world.channels.up m) inc (world.channels.inc m) gone; begun = below m inc (world.channels.inc m) (w.present (w.node it)) its.begun (ap w.present node_it ∙ all.seen.shown.stage.present m its.m_in) }
          where
            below : (a b d e : ℕ) → b ≤ d → e ≡ place a d → place a b ≤ e
            below a b d e h q = omega (arith, h, q)

        none_taken : w.received it me ≡ 0
        none_taken = le_zero (w.received it me) (w.posted me it) ((invariant w all.seen.lawful).counts.received_posted it me) ((invariant w all.seen.lawful).counts.posted_known me it below)
          where
            under : (a b d : ℕ) → a ≡ 0 → 1 ≤ b → a < place d b
            under a b d e h = omega (arith, e, h)

            below : w.peer me (w.node it) < it
            below = under (w.peer me (w.node it)) inc m (ap (w.peer me) node_it ∙ (all.seen.shown.stage.peers n m its.n_in its.m_in its.on ∙ rw (its.unknown) refl)) its.some

        put : IsLeft as_met me it 1
        put = record { number = omega arith; put = more (w.sent me m) (as_met.posted me it) sent (at_pair me it w.posted (w.sent me (w.node it)) me it refl refl ∙ ap (w.sent me) node_it); untaken = less (w.received it me) none_taken }
          where
            more : (a b : ℕ) → 0 < a → b ≡ a → 1 ≤ b
            more a b h e = omega (arith, h, e)

            less : (a : ℕ) → a ≡ 0 → a < 1
            less a e = omega (arith, e)

    sound : AreSound world.channels
    sound = seated_sound world j.shown.steady.seated

    module _ (tx : TransactionValue) (placed : Placed tid tx (field_of world)) where
      room : (at : RequestNo) → IsDoomed v ⊎ HasRoom tid (field_of world) (field_of after) at
      room at = room_then tid world n stamp m inc v its.on its.apart its.unknown its.begun sound (j.channels.known m n) lost left at

      nodes : Rattle.qs_world_runs.proofs.PlacedTx.SameNodes (field_of world) (field_of after)
      nodes = same_nodes tid world n stamp m inc v its.on its.apart its.unknown its.begun sound (j.channels.known m n) lost left

      each : (entries : List (RequestNo × List Request)) → EachPlaced tid (field_of world) entries → IsDoomed v ⊎ EachPlaced tid (field_of after) entries
      each [] all_placed = inr tt
      each (entry ∷ entries) all_placed = by (room entry.0) (each entries all_placed.1)
        where
          by : IsDoomed v ⊎ HasRoom tid (field_of world) (field_of after) entry.0 → IsDoomed v ⊎ EachPlaced tid (field_of after) entries → IsDoomed v ⊎ EachPlaced tid (field_of after) (entry ∷ entries)
          by (inl doomed) rest = inl doomed
          by (inr has) (inl doomed) = inl doomed
          by (inr has) (inr rest) = inr (placed_on tid (field_of world) (field_of after) nodes entry.0 has entry.1 all_placed.0, rest)

      placed_then : IsDoomed v ⊎ Placed tid tx (field_of after)
      placed_then = by (each tx.requests placed.requests)
        where
          by : IsDoomed v ⊎ EachPlaced tid (field_of after) tx.requests → IsDoomed v ⊎ Placed tid tx (field_of after)
          by (inl doomed) = inl doomed
          by (inr requests) = inr (record {
            numbers = placed.numbers;
            members = placed.members;
            requests = requests;
            issued = issued_left tx tx (field_of world) (field_of after) refl (λ k l. refl) nodes.up nodes.inc placed.issued;
            lives = lives_bare tx (field_of after) placed.members (each_on Rattle.qs_book_machine.specs.Transaction.life_cmp (Rattle.qs_world_runs.proofs.PlacedTx.IsBare (field_of world)) (Rattle.qs_world_runs.proofs.PlacedTx.IsBare (field_of after)) (bare_on (field_of world) (field_of after) nodes) tx.parts (bare_lives tx (field_of world) tx.parts placed.lives));
            unrefused = placed.unrefused;
            uncrossed = placed.uncrossed;
          })

    placed_of : PlacedOf tid o after
    placed_of = record { machine = v; shows = goes.shown; placed = λ tx found undecided. by tx (p.placed tx found undecided) }
      where
        by : (tx : TransactionValue) → IsDoomed w ⊎ Placed tid tx (field_of world) → IsDoomed v ⊎ Placed tid tx (field_of after)
        by tx (inl doomed) = inl (doom_stays w v doomed goes.leads)
        by tx (inr placed) = placed_then tx placed

    awaited_of : AwaitedOf tid o after
    unfolding p placed_of goes
    awaited_of = record { places = placed_of; awaited = λ tx found undecided. by tx ((j.places tid was).awaited tx found undecided) }
      where
        node_is : (k : ℕ) → nodes_in after k ≡ nodes_in world k
        node_is k = picked (k == n) refl
          where
            picked : (b : Bool) → (k == n) ≡ b → (if b then record (world.hosts n) { stamp = stamp } else world.hosts k).node ≡ (world.hosts k).node
            picked true near = ap (λ (i : ℕ). (world.hosts i).node) (sym (eqb-true k n near))
            picked false far = refl

        by : (tx : TransactionValue) → IsDoomed w ⊎ AreAwaited tid tx (nodes_in world) → IsDoomed v ⊎ AreAwaited tid tx (nodes_in after)
        by tx (inl doomed) = inl (doom_stays w v doomed goes.leads)
        by tx (inr await) = inr (λ k at member from_k away stands. subst (λ (node : NodeValue). WaitsAt tid member at.number node) (sym (node_is k)) (await k at member from_k away stands))

  -- what has begun had begun before
  begun_before : (tid : Tid) → has_begun after tid ≡ true → has_begun world tid ≡ true
  begun_before tid has = picked (tid.home.0 == n) refl has
    where
      k : ℕ
      k = tid.home.0

      picked : (b : Bool) → (k == n) ≡ b
          → (Rattle.qs_restart.specs.Recovery.names_transaction tid && (nat_lt k world.size && (nat_lt tid.inc (if world.channels.up k then world.channels.inc k else world.channels.inc k + 1)
          || ((tid.inc == (if world.channels.up k then world.channels.inc k else world.channels.inc k + 1)) && nat_le tid.seq (if world.channels.up k then (if b then record (world.hosts n) { stamp = stamp } else world.hosts k).node.manager.begun else 0))))) ≡ true
          → has_begun world tid ≡ true
      picked false far so = so
      picked true near so = subst (λ (i : ℕ). (Rattle.qs_restart.specs.Recovery.names_transaction tid && (nat_lt k world.size && (nat_lt tid.inc (if world.channels.up k then world.channels.inc k else world.channels.inc k + 1)
          || ((tid.inc == (if world.channels.up k then world.channels.inc k else world.channels.inc k + 1)) && nat_le tid.seq (if world.channels.up k then (world.hosts i).node.manager.begun else 0))))) ≡ true) (sym (eqb-true k n near)) so

  pub meet_places : AwaitedAt o after
  meet_places tid begun = awaited_of tid (begun_before tid begun)
