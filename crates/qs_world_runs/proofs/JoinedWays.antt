-- After a step each request that is on its way stands in the machine in the order of numbers, behind those that wait: on ways from the stepping
-- node, on ways to it, and on those of others.
use Rattle.qs_world_runs.proofs.Words.{◌≡◌, ◌⊎◌, inl, inr, ℕ, ◌==◌, ◌<◌, ◌≤◌, Bool, true, false, List, [], ◌∷◌, ◌++◌, Some, refl, sym, ap, subst, ◌∙◌, arith, nat_lt, if◌then◌else◌, append_assoc, append-nil, eqb-true, nat_tests, flat_map-append, ServerNo, Tid, Channels, Act, Entry, after_both, BookValue, book_after, Op, after_step, effects_of, step_work, Event, Sending, book_of, opened_from, Source, step_with, stepped_host, taken_by, IsOpening, entries_of, Opening, Parcel, World, StepMay}
use Rattle.qs_world_runs.proofs.Words.{step_may, parcels, steady_gives, IsOfStep, Every, HoldsWays, on_its_way, ops_of, way_between, IsWithin, opens_soundly, lasts_first, lasts_ran, LastsWell, opened_numbered, opening_named, HoldsOps, MakesStep, Joined, book_in, InStep, trace_of, eqb-self, apart_turned}
use Rattle.qs_book_machine.specs.Lawful.{IsLawful}
use Rattle.qs_node_step.specs.State.{NodeValue}
use Rattle.qs_world_lawful.specs.Parcels.{HoldsWay}
use Rattle.qs_world_lawful.specs.Waits.{waiting_ops}
use Rattle.qs_world_lawful.proofs.OtherWays.{none_of, on_way_so}
use Rattle.qs_world_lawful.proofs.StepWays.{KeepsPair, pair_all, pair_taken, step_other_ways, way_same}
use Rattle.qs_world_lawful.proofs.WithinParts.{within_around, within_front}
use Rattle.qs_world_runs.specs.StepLaws.{KeepsWays}
use Rattle.qs_world_runs.proofs.ClientsGo.{of_steps}
use Rattle.qs_world_runs.proofs.JoinedParts.{lawful_both}
use Rattle.qs_world_runs.proofs.KeptBack.{taken_unmet}
use Rattle.qs_world_runs.proofs.TraceStages.{step_traced}
use Rattle.qs_world_runs.proofs.WaysEntries.{Ops, standing}
use Rattle.qs_world_runs.proofs.WaysPosted.{posted_way}
use Rattle.qs_world_runs.proofs.WaysSent as going
use Rattle.qs_world_runs.proofs.WaysServed.{came_from, waiting}
use Rattle.qs_world_runs.proofs.WaysSplit.{Split, way_split}
use Rattle.qs_world_runs.proofs.WaysTraced as coming
use Rattle.qs_world_runs.proofs.WaysTraced.{none_around}

every_entry : (n stamp : ℕ) (acts : List Act) → Every IsOfStep acts → Every (λ (entry : Entry). (entry.node.0 ≡ n) × IsOfStep entry.act) (entries_of n stamp acts)
every_entry n stamp [] all = tt
every_entry n stamp (act ∷ more) all = ((refl, all.0), every_entry n stamp more all.1)

-- the machine of a run
pub lasts_now : (o : Opening) (world : World) → IsOpening o → IsLawful (book_of o) world.journal → LastsWell (book_in o world)
lasts_now o world opens lawful = lasts_ran world.journal (book_of o) (lasts_first (opened_from o 0 o.size) (opens_soundly o opens) (opening_named (opened_from o 0 o.size) (opened_numbered o 0 o.size))) lawful

module _ (P : Opening → World → Type 0) (o : Opening) (world : World) (j : Joined P o world) (n stamp free : ℕ) (source : Source) (event : Event) (makes : MakesStep world n stamp source event)
    (lawful : IsLawful (book_in o world) (entries_of n stamp (effects_of (world.hosts n).node event free).entries)) where
  abbrev node : NodeValue
  node = (world.hosts n).node

  abbrev c : Channels Parcel
  c = world.channels

  abbrev taken : Channels Parcel
  taken = taken_by world n source

  abbrev sendings : List Sending
  sendings = (effects_of node event free).messages

  abbrev book : BookValue
  book = book_in o world

  abbrev now : BookValue
  now = book_after book (entries_of n stamp (effects_of node event free).entries)

  abbrev after : World
  after = step_with world n stamp free source (Some event)

  its : StepMay world n source
  its = step_may world n stamp source makes.may

  lasts : LastsWell book
  lasts = lasts_now o world j.opens j.lawful

  in_low : (k : ℕ) → nat_lt k world.size ≡ true → k < world.size
  in_low k is = grind (arith, nat_tests, is)

  -- as it was
  whole : (a b : ℕ) → nat_lt a world.size ≡ true → nat_lt b world.size ≡ true → (a == b) ≡ false → HoldsOps book a b (λ t s k. waiting a b (world.hosts b).node.queues t s k ++ ops_of t s k (on_its_way c a b))
  whole a b in_a in_b apart = record {
    stands = λ t tx s k found. j.ways a b in_a in_b apart t tx s k found;
    none = λ t s k none. rw (ap (waiting_ops (way_between a b k)) (j.queued b (in_low b in_b) t s none)) (none_of book world.size a b t none s k (on_its_way c a b) (on_way_so book world.size a b c j.channels));
  }

  -- ---- from the stepping node

  module _ (b : ℕ) (in_n : nat_lt n world.size ≡ true) (in_b : nat_lt b world.size ≡ true) (apart : (n == b) ≡ false) (far : (b == n) ≡ false) where
    abbrev way : Ops
    way t s k = waiting n b (world.hosts b).node.queues t s k ++ ops_of t s k (on_its_way c n b)

    sent_so : going.From n stamp book lasts b far way (trace_of (step_work node event free))
    sent_so = step_traced (going.From n stamp book lasts b far way) (going.From n stamp book lasts b far way) (going.from_kept n stamp book lasts b far way) (going.from_kept n stamp book lasts b far way) node event free (going.from_taken n stamp book lasts b far way event)
        (record { here = j.shown.steady.seated.node n its.low; stands = coming.alike n stamp book lasts n b way (λ t s k. way t s k ++ []) [] (λ t s k. append-nil (way t s k)) (λ fine. whole n b in_n in_b apart) })

    pair : KeepsPair c taken n b
    pair = pair_taken n b n far world source

    way_taken : on_its_way taken n b ≡ on_its_way c n b
    way_taken = way_same c taken n b pair

    posted : (on_its_way after.channels n b ≡ on_its_way taken n b ++ parcels n stamp b sendings) ⊎ (on_its_way after.channels n b ≡ on_its_way taken n b)
    posted = posted_way n stamp b sendings taken ordered known (taken_unmet world n stamp source event makes.comes j.unmet n b)
      where
        ordered : (i : ℕ) → (rest : List Parcel) × (taken.posted n b i (taken.inc b) ≡ taken.handed n b i (taken.inc b) ++ rest)
        ordered i = let r = j.shown.steady.seated.ordered n b i (taken.inc b) in
            (r.0, ap (λ (f : ℕ → ℕ → List Parcel). f i (taken.inc b)) pair.posted ∙ (r.1 ∙ ap (λ (f : ℕ → ℕ → List Parcel). f i (taken.inc b) ++ r.0) (sym pair.handed)))

        known : taken.peer b n ≤ taken.inc n
        known = subst (λ (x : ℕ). x ≤ taken.inc n) (sym pair.peer) (subst (λ (f : ℕ → ℕ). c.peer b n ≤ f n) (sym pair.inc) (j.channels.known b n))

    from_then : HoldsWay now after.channels n b (world.hosts b).node
    from_then t tx s k found = of posted
      where
        stands : IsWithin ((waiting n b (world.hosts b).node.queues t s k ++ ops_of t s k (on_its_way c n b)) ++ ops_of t s k (parcels n stamp b sendings)) (standing n b tx s k)
        stands = (sent_so.stands lawful).stands t tx s k found

        of : (on_its_way after.channels n b ≡ on_its_way taken n b ++ parcels n stamp b sendings) ⊎ (on_its_way after.channels n b ≡ on_its_way taken n b)
            → IsWithin (waiting n b (world.hosts b).node.queues t s k ++ ops_of t s k (on_its_way after.channels n b)) (standing n b tx s k)
        of (inl more) = subst (λ (xs : List Op). IsWithin xs (standing n b tx s k))
            (append_assoc (waiting n b (world.hosts b).node.queues t s k) (ops_of t s k (on_its_way c n b)) (ops_of t s k (parcels n stamp b sendings))
            ∙ ap (λ (xs : List Op). waiting n b (world.hosts b).node.queues t s k ++ xs) (sym (ap (ops_of t s k) (more ∙ ap (λ (ps : List Parcel). ps ++ parcels n stamp b sendings) way_taken) ∙ flat_map-append _ (on_its_way c n b) (parcels n stamp b sendings)))) stands
        of (inr same) = subst (λ (ps : List Parcel). IsWithin (waiting n b (world.hosts b).node.queues t s k ++ ops_of t s k ps) (standing n b tx s k)) (sym (same ∙ way_taken))
            (within_front (waiting n b (world.hosts b).node.queues t s k ++ ops_of t s k (on_its_way c n b)) (ops_of t s k (parcels n stamp b sendings)) (standing n b tx s k) stands)

  -- ---- to it

  module _ (a : ℕ) (in_a : nat_lt a world.size ≡ true) (in_n : nat_lt n world.size ≡ true) (far : (a == n) ≡ false) where
    split : Split c taken a n event
    split = way_split world n stamp a far (steady_gives world j.shown.steady j.shown.listed) (j.channels.known n a) event source makes.comes

    abbrev pub rest : Ops
    rest t s k = ops_of t s k (on_its_way taken a n)

    abbrev comes : Ops
    comes t s k = came_from a event t s k ++ rest t s k

    pub before_it : HoldsOps book a n (λ t s k. waiting a n node.queues t s k ++ comes t s k)
    before_it = record {
      stands = λ t tx s k found. within_around (waiting a n node.queues t s k) (ops_of t s k split.front) (comes t s k) (standing a n tx s k)
          (subst (λ (xs : List Op). IsWithin (waiting a n node.queues t s k ++ xs) (standing a n tx s k)) (ops_split t s k) (old.stands t tx s k found));
      none = λ t s k none. none_around (waiting a n node.queues t s k) (ops_of t s k split.front) (comes t s k) (ap (λ (xs : List Op). waiting a n node.queues t s k ++ xs) (sym (ops_split t s k)) ∙ old.none t s k none);
    }
      where
        old : HoldsOps book a n (λ t s k. waiting a n node.queues t s k ++ ops_of t s k (on_its_way c a n))
        old = whole a n in_a in_n far

        ops_split : (t : Tid) (s : ServerNo) (k : ℕ) → ops_of t s k (on_its_way c a n) ≡ ops_of t s k split.front ++ (came_from a event t s k ++ ops_of t s k (on_its_way taken a n))
        ops_split t s k = ap (ops_of t s k) split.way ∙ (flat_map-append _ split.front (split.came ++ on_its_way taken a n)
            ∙ ap (λ (xs : List Op). ops_of t s k split.front ++ xs) (flat_map-append _ split.came (on_its_way taken a n)
            ∙ ap (λ (xs : List Op). xs ++ ops_of t s k (on_its_way taken a n)) (sym (split.is t s k))))

    came_so : coming.To n stamp book lasts a far rest (trace_of (step_work node event free))
    came_so = step_traced (coming.To n stamp book lasts a far comes) (coming.To n stamp book lasts a far rest) (coming.to_kept n stamp book lasts a far comes) (coming.to_kept n stamp book lasts a far rest) node event free
        (coming.to_taken n stamp book lasts a far event rest) (record { here = j.shown.steady.seated.node n its.low; stands = λ fine. before_it })

    to_then : HoldsWay now after.channels a n (after_step node event free)
    to_then t tx s k found = subst (λ (ps : List Parcel). IsWithin (waiting a n (after_step node event free).queues t s k ++ ops_of t s k ps) (standing a n tx s k))
        (sym (way_same taken after.channels a n (pair_all a n n far stamp sendings taken))) ((came_so.stands lawful).stands t tx s k found)

  -- ---- all of them

  others_then : (a b : ℕ) → nat_lt a world.size ≡ true → nat_lt b world.size ≡ true → (a == b) ≡ false → (a == n) ≡ false → (b == n) ≡ false → HoldsWay now after.channels a b (after.hosts b).node
  others_then a b in_a in_b apart a_far b_far = subst (λ (x : BookValue). HoldsWay x after.channels a b (after.hosts b).node) (after_both world.journal (entries_of n stamp (effects_of node event free).entries) (book_of o))
      (subst (λ (w : World). HoldsWay (book_after (book_of o) (world.journal ++ entries_of n stamp (effects_of node event free).entries)) w.channels a b (w.hosts b).node) (ap (step_with world n stamp free source) makes.comes)
      (step_other_ways (opened_from o 0 o.size) world.journal (entries_of n stamp (effects_of node event free).entries) (opens_soundly o j.opens) (opened_numbered o 0 o.size) (lawful_both world.journal (entries_of n stamp (effects_of node event free).entries) (book_of o) j.lawful lawful)
      world n stamp free source (every_entry n stamp (effects_of node event free).entries (of_steps P o world j n stamp free source event makes)) a b a_far b_far j.channels (j.queued b (in_low b in_b)) (j.ways a b in_a in_b apart)))

  ways_then : HoldsWays now after
  ways_then a b in_a in_b apart = by (a == n) refl (b == n) refl
    where
      other_node : (b == n) ≡ false → (after.hosts b).node ≡ (world.hosts b).node
      other_node far = picked (b == n) far
        where
          picked : (x : Bool) → x ≡ false → (if x then stepped_host stamp (after_step node event free) (effects_of node event free) (world.hosts n) else world.hosts b).node ≡ (world.hosts b).node
          picked x is = rw is refl

      own_node : (after.hosts n).node ≡ after_step node event free
      own_node = picked (n == n) (eqb-self n)
        where
          picked : (x : Bool) → x ≡ true → (if x then stepped_host stamp (after_step node event free) (effects_of node event free) (world.hosts n) else world.hosts n).node ≡ after_step node event free
          picked x is = rw is refl

      from_n : (b == n) ≡ false → nat_lt n world.size ≡ true → (n == b) ≡ false → HoldsWay now after.channels n b (after.hosts b).node
      from_n far in_n apart = subst (λ (m : NodeValue). HoldsWay now after.channels n b m) (sym (other_node far)) (from_then b in_n in_b apart far)

      to_n : (a == n) ≡ false → nat_lt n world.size ≡ true → HoldsWay now after.channels a n (after.hosts n).node
      to_n far in_n = subst (λ (m : NodeValue). HoldsWay now after.channels a n m) (sym own_node) (to_then a in_a in_n far)

      by : (x : Bool) → (a == n) ≡ x → (y : Bool) → (b == n) ≡ y → HoldsWay now after.channels a b (after.hosts b).node
      by true near true too = absurd (cc (sym apart ∙ (ap (λ (i : ℕ). i == b) (eqb-true a n near) ∙ (ap (λ (i : ℕ). n == i) (eqb-true b n too) ∙ eqb-self n))))
      by true near false b_far = subst (λ (i : ℕ). HoldsWay now after.channels i b (after.hosts b).node) (sym (eqb-true a n near)) (from_n b_far (subst (λ (i : ℕ). nat_lt i world.size ≡ true) (eqb-true a n near) in_a) (apart_turned b n b_far))
      by false a_far true too = subst (λ (i : ℕ). HoldsWay now after.channels a i (after.hosts i).node) (sym (eqb-true b n too)) (to_n a_far (subst (λ (i : ℕ). nat_lt i world.size ≡ true) (eqb-true b n too) in_b))
      by false a_far false b_far = others_then a b in_a in_b apart a_far b_far

pub steps_ways : (P : Opening → World → Type 0) → InStep P KeepsWays
steps_ways P o world n stamp free source event j makes lawful =
    subst (λ (w : World). HoldsWays (book_after (book_in o world) (entries_of n stamp (effects_of (world.hosts n).node event free).entries)) w) (sym (ap (step_with world n stamp free source) makes.comes))
    (ways_then P o world j n stamp free source event makes lawful)
