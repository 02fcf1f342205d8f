-- The links between sites, as they are carried one after the other, until all are.
use Rattle.std.proofs.Common.{◌≡◌, ◌≢◌, ◌⊎◌, ◌∙◌, ◌<◌, ◌==◌, ◌&&◌, ◌||◌, ap, subst, sym, refl, inl, inr, ℕ, Bool, true, false, List, length, arith}
use Rattle.std.proofs.lemmas.Bool.Decides.{nat_tests}
use Rattle.std.specs.Prelude.{Some, Result, Ok, Err, OnOk, not, slice_get}
use Rattle.std.specs.Result.{result_and}
use Rattle.qs_base.specs.declared.memory.NoMemory.{NoMemory}
use Rattle.qs_cell_peers.specs.Links.{CarriesLink, HasCarried, StayLinked, into_of, is_peer_of, out_of}
use Rattle.qs_link.specs.Lane.{DrawValue, IsFifo}
use Rattle.qs_link.specs.Plan.{OutgoingValue}
use Rattle.qs_packet.specs.declared.packet.Packet.{Packet}
use Rattle.qs_world_rounds.specs.Rounds.{Cast}
use Rattle.qs_world_sites.proofs.Staying.{each_on, each_same, got_at, got_below, links_none, links_on, peer_at, Got}
use Rattle.qs_world_sites.specs.Bursts.{AreFifoSites}
use Rattle.qs_world_sites.specs.Carrying.{CarriesWhere, Comes, WasLookedAt, WasMet}
use Rattle.qs_world_sites.specs.Sites.{AreLinked, AreLinksCarried, Each, HasOtherLinks, WasCarried, links_of}
use Rattle.rtrb.specs.Ring.{SameConsumer, SameProducer}

one : {A : Type 0} {x y : A} → Some x ≡ Some y → x ≡ y
one is = cc is

-- the ends of the link from one site to another
abbrev out : {D : Type 0} → Cast D → ℕ → OutgoingValue
out site m = out_of (links_of site) m

abbrev into : {D : Type 0} → Cast D → ℕ → DrawValue Packet
into site n = into_of (links_of site) n

came_as : (Came : Comes) (o p q r : OutgoingValue) (i j k l : DrawValue Packet) → q ≡ o → r ≡ p → k ≡ i → l ≡ j → Came o p i j → Came q r k l
came_as Came o p q r i j k l first second third fourth was =
    subst (λ (x : OutgoingValue). Came x r k l) (sym first) (subst (λ (x : OutgoingValue). Came o x k l) (sym second)
    (subst (λ (x : DrawValue Packet). Came o p x l) (sym third) (subst (λ (x : DrawValue Packet). Came o p i x) (sym fourth) was)))

module _ {D : Type 0} (Came : Comes) where
  pub where_none : (xs : List (Cast D)) → CarriesWhere Came (λ n m. false) xs xs
  where_none xs = record {
    others = each_same HasOtherLinks links_none xs;
    moved = λ n m a b c d here there at to apart no. absurd (cc no);
    kept = λ n m a b c d here there at to apart no. (ap (λ (x : Cast D). out x m) (one (sym there ∙ here)), ap (λ (x : Cast D). into x n) (one (sym to ∙ at)));
  }

  pub where_is : (done same : ℕ → ℕ → Bool) (old new : List (Cast D)) → ((n m : ℕ) → n < length old → m < length old → n ≢ m → same n m ≡ done n m) → CarriesWhere Came done old new → CarriesWhere Came same old new
  where_is done same old new is carries = record {
    others = carries.others;
    moved = λ n m a b c d here there at to apart done_is. carries.moved n m a b c d here there at to apart (sym (is n m (got_below old n a here) (got_below old m c at) apart) ∙ done_is);
    kept = λ n m a b c d here there at to apart no. carries.kept n m a b c d here there at to apart (sym (is n m (got_below old n a here) (got_below old m c at) apart) ∙ no);
  }

  pub where_on : (first second : ℕ → ℕ → Bool) → ((n m : ℕ) → first n m ≡ true → second n m ≡ false) → (xs ys zs : List (Cast D)) → CarriesWhere Came first xs ys → CarriesWhere Came second ys zs
      → CarriesWhere Came (λ n m. first n m || second n m) xs zs
  where_on first second apart xs ys zs front back = record {
    others = each_on HasOtherLinks HasOtherLinks HasOtherLinks links_on xs ys zs front.others back.others;
    moved = λ n m a b c d here there at to differ done_is. moves n m a b c d here there at to differ (mid n a here) (mid m c at) (first n m) refl done_is;
    kept = λ n m a b c d here there at to differ not_done. stays n m a b c d here there at to differ (mid n a here) (mid m c at) (first n m) refl not_done;
  }
    where
      mid : (n : ℕ) (a : Cast D) → slice_get xs n ≡ Some a → Got ys n
      mid n a here = got_at ys n (let less = got_below xs n a here in let same = front.others.count in omega arith)

      moves : (n m : ℕ) (a b c d : Cast D) → slice_get xs n ≡ Some a → slice_get zs n ≡ Some b → slice_get xs m ≡ Some c → slice_get zs m ≡ Some d → n ≢ m → (x : Got ys n) (y : Got ys m)
          → (e : Bool) → first n m ≡ e → (e || second n m) ≡ true → Came (out a m) (out b m) (into c n) (into d n)
      moves n m a b c d here there at to differ x y true is done_is =
          let was = front.moved n m a x.item c y.item here x.is at y.is differ is in
          let still = back.kept n m x.item b y.item d x.is there y.is to differ (apart n m is) in
          came_as Came (out a m) (out x.item m) (out a m) (out b m) (into c n) (into y.item n) (into c n) (into d n) refl still.0 refl still.1 was
      moves n m a b c d here there at to differ x y false is done_is =
          let still = front.kept n m a x.item c y.item here x.is at y.is differ is in
          let was = back.moved n m x.item b y.item d x.is there y.is to differ done_is in
          came_as Came (out x.item m) (out b m) (out a m) (out b m) (into y.item n) (into d n) (into c n) (into d n) (sym still.0) refl (sym still.1) refl was

      stays : (n m : ℕ) (a b c d : Cast D) → slice_get xs n ≡ Some a → slice_get zs n ≡ Some b → slice_get xs m ≡ Some c → slice_get zs m ≡ Some d → n ≢ m → (x : Got ys n) (y : Got ys m)
          → (e : Bool) → first n m ≡ e → (e || second n m) ≡ false → (out b m ≡ out a m) × (into d n ≡ into c n)
      stays n m a b c d here there at to differ x y true is not_done = absurd (cc not_done)
      stays n m a b c d here there at to differ x y false is not_done =
          let before = front.kept n m a x.item c y.item here x.is at y.is differ is in
          let after = back.kept n m x.item b y.item d x.is there y.is to differ not_done in
          (after.0 ∙ before.0, after.1 ∙ before.1)

-- so of what came less
pub where_less : {D : Type 0} (Came Less : Comes) → ((o p : OutgoingValue) (i j : DrawValue Packet) → Came o p i j → Less o p i j) → (done : ℕ → ℕ → Bool) (old new : List (Cast D)) → CarriesWhere Came done old new → CarriesWhere Less done old new
where_less Came Less less done old new carries = record {
  others = carries.others;
  moved = λ n m a b c d here there at to apart done_is. less (out a m) (out b m) (into c n) (into d n) (carries.moved n m a b c d here there at to apart done_is);
  kept = carries.kept;
}

-- ---- two calls, of which memory may have been refused to either

looked : (o p : OutgoingValue) (i j : DrawValue Packet) → WasCarried o p i j → WasLookedAt o p i j
looked o p i j was = record { result = Ok was.held; carried = was.carried }

pub met_first : (a b : Result (Unit {0}) NoMemory) (o p : OutgoingValue) (i j : DrawValue Packet) → WasMet a o p i j → WasMet (result_and a b) o p i j
met_first (Ok done) (Ok also) o p i j was = was
met_first (Ok done) (Err refused) o p i j was = looked o p i j was
met_first (Err refused) b o p i j was = was

pub met_second : (a b : Result (Unit {0}) NoMemory) (o p : OutgoingValue) (i j : DrawValue Packet) → WasMet b o p i j → WasMet (result_and a b) o p i j
met_second (Ok done) b o p i j was = was
met_second (Err refused) (Ok done) o p i j was = looked o p i j was
met_second (Err refused) (Err also) o p i j was = was

met_fifo : (came : Result (Unit {0}) NoMemory) (o p : OutgoingValue) (i j : DrawValue Packet) → WasMet came o p i j → IsFifo o.feed i
met_fifo (Ok done) o p i j was = was.carried.fifo.0
met_fifo (Err refused) o p i j was = was.carried.fifo.0

-- ---- all links

module _ {D : Type 0} (old new : List (Cast D)) where
  pub all_carried : (came : Result (Unit {0}) NoMemory) → CarriesWhere (WasMet came) (λ n m. true) old new → OnOk came (AreLinksCarried old new)
  all_carried (Ok done) carries = record { others = carries.others; links = λ n m a b c d here there at to apart. carries.moved n m a b c d here there at to apart refl }
  all_carried (Err refused) carries = tt

  pub all_fifo : (came : Result (Unit {0}) NoMemory) → CarriesWhere (WasMet came) (λ n m. true) old new → AreFifoSites old
  all_fifo came carries n m a c here at apart =
      let there = now n a here in
      let to = now m c at in
      met_fifo came (out a m) (out there.item m) (into c n) (into to.item n) (carries.moved n m a there.item c to.item here there.is at to.is apart refl)
    where
      now : (k : ℕ) (x : Cast D) → slice_get old k ≡ Some x → Got new k
      now k x here = got_at new k (let less = got_below old k x here in let same = carries.others.count in omega arith)

-- ---- one link

same_of : (n m : ℕ) → (n == m) ≡ true → n ≡ m
same_of n m is = grind (arith, nat_tests, is)

apart_of : (n m : ℕ) → (n == m) ≡ false → n ≢ m
apart_of n m is = grind (arith, nat_tests, is)

same_test : (n m : ℕ) → n ≡ m → (n == m) ≡ true
same_test n m is = grind (arith, nat_tests, is)

-- a number is that of one site, that of another, or neither
which : (from to k : ℕ) → (k ≡ from) ⊎ ((k ≡ to) ⊎ ((k ≢ from) × (k ≢ to)))
which from to k = by (k == from) refl (k == to) refl
  where
    by : (b : Bool) → (k == from) ≡ b → (e : Bool) → (k == to) ≡ e → (k ≡ from) ⊎ ((k ≡ to) ⊎ ((k ≢ from) × (k ≢ to)))
    by true is e other = inl (same_of k from is)
    by false is true other = inr (inl (same_of k to other))
    by false is false other = inr (inr (apart_of k from is, apart_of k to other))

differs : (n m : ℕ) → n ≢ m → not (n == m) ≡ true
differs n m apart = grind (arith, nat_tests, apart)

refused : (n m from to : ℕ) → n ≡ from → m ≡ to → ((n == from) && (m == to)) ≡ false → ⊥
refused n m from to is there_is not_done = let first = same_test n from is in let second = same_test m to there_is in absurd (cc (first, second, not_done))

both_are : (n m from to : ℕ) → ((n == from) && (m == to)) ≡ true → (n ≡ from) × (m ≡ to)
both_are n m from to done_is = by (n == from) refl (m == to) refl done_is
  where
    by : (b : Bool) → (n == from) ≡ b → (e : Bool) → (m == to) ≡ e → (b && e) ≡ true → (n ≡ from) × (m ≡ to)
    by true is true other done_is = (same_of n from is, same_of m to other)
    by true is false other done_is = absurd (cc done_is)
    by false is e other done_is = absurd (cc done_is)

-- the link from site x to site y was carried, and all else is as it was
pub record IsOneCarried {D : Type 0} (result : Result ℕ NoMemory) (from to : ℕ) (old new : List (Cast D)) (x x' y y' : Cast D) : Type 0 where
  pub apart : from ≢ to
  pub x_is : slice_get old from ≡ Some x
  pub y_is : slice_get old to ≡ Some y
  pub new_x : slice_get new from ≡ Some x'
  pub new_y : slice_get new to ≡ Some y'
  pub count : length new ≡ length old
  pub rest : (k : ℕ) → k ≢ from → k ≢ to → slice_get new k ≡ slice_get old k
  pub carries : CarriesLink result (links_of x) (links_of x') (links_of y) (links_of y')
  pub own : y' ≡ record y { node = record y.node { links = y'.node.links } }
  pub its : x' ≡ record x { node = record x.node { links = x'.node.links } }

same_producer : (o p : OutgoingValue) → p ≡ o → SameProducer o.feed.ring p.feed.ring
same_producer o p is = subst (λ (x : OutgoingValue). SameProducer o.feed.ring x.feed.ring) (sym is) ((refl, refl, refl, refl), refl)

same_consumer : (i j : DrawValue Packet) → j ≡ i → SameConsumer i.ring j.ring
same_consumer i j is = subst (λ (x : DrawValue Packet). SameConsumer i.ring x.ring) (sym is) ((refl, refl, refl, refl), refl)

module _ {D : Type 0} (result : Result ℕ NoMemory) (from to : ℕ) (old new : List (Cast D)) (x x' y y' : Cast D) (linked : AreLinked old) (c : IsOneCarried result from to old new x x' y y') where
  from_is : (links_of x).me.0 ≡ from
  from_is = linked.numbers from x c.x_is

  to_is : (links_of y).me.0 ≡ to
  to_is = linked.numbers to y c.y_is

  carried : HasCarried result (out x to) (out x' to) (into y from) (into y' from)
  carried = subst (λ (k : ℕ). HasCarried result (out x k) (out x' k) (into y from) (into y' from)) to_is
      (subst (λ (k : ℕ). HasCarried result (out x (links_of y).me.0) (out x' (links_of y).me.0) (into y k) (into y' k)) from_is c.carries.carried)

  out_stays : (m : ℕ) → is_peer_of (links_of x) m ≡ true → m ≢ to → out x' m ≡ out x m
  out_stays m peer other = c.carries.from_out m peer (ap (λ (k : ℕ). not (m == k)) to_is ∙ differs m to other)

  into_stays : (n : ℕ) → is_peer_of (links_of y) n ≡ true → n ≢ from → into y' n ≡ into y n
  into_stays n peer other = c.carries.to_into n peer (ap (λ (k : ℕ). not (n == k)) from_is ∙ differs n from other)

  from_linked : StayLinked (links_of x) (links_of x')
  from_linked = record {
    same = c.carries.from_same;
    out = λ m peer. by m peer (m == to) refl;
    into = λ n peer. same_consumer (into x n) (into x' n) (c.carries.from_into n peer refl);
  }
    where
      by : (m : ℕ) → is_peer_of (links_of x) m ≡ true → (e : Bool) → (m == to) ≡ e → SameProducer (out x m).feed.ring (out x' m).feed.ring
      by m peer true is = let at : m ≡ to = same_of m to is in subst (λ (k : ℕ). SameProducer (out x k).feed.ring (out x' k).feed.ring) (sym at) carried.feed
      by m peer false is = let other : m ≢ to = apart_of m to is in same_producer (out x m) (out x' m) (out_stays m peer other)

  to_linked : StayLinked (links_of y) (links_of y')
  to_linked = record {
    same = c.carries.to_same;
    out = λ m peer. same_producer (out y m) (out y' m) (c.carries.to_out m peer refl);
    into = λ n peer. by n peer (n == from) refl;
  }
    where
      by : (n : ℕ) → is_peer_of (links_of y) n ≡ true → (e : Bool) → (n == from) ≡ e → SameConsumer (into y n).ring (into y' n).ring
      by n peer true is = let at : n ≡ from = same_of n from is in subst (λ (k : ℕ). SameConsumer (into y k).ring (into y' k).ring) (sym at) carried.draw
      by n peer false is = let other : n ≢ from = apart_of n from is in same_consumer (into y n) (into y' n) (into_stays n peer other)

  pub one_others : Each HasOtherLinks old new
  one_others = record { count = c.count; each = λ k a b here there. by k a b here there (which from to k) }
    where
      by : (k : ℕ) (a b : Cast D) → slice_get old k ≡ Some a → slice_get new k ≡ Some b → (k ≡ from) ⊎ ((k ≡ to) ⊎ ((k ≢ from) × (k ≢ to))) → HasOtherLinks a b
      by k a b here there (inl is) =
          subst (HasOtherLinks a) (one (sym c.new_x ∙ (ap (slice_get new) (sym is) ∙ there)))
          (subst (λ (z : Cast D). HasOtherLinks z x') (one (sym c.x_is ∙ (ap (slice_get old) (sym is) ∙ here))) (record { is = c.its; linked = from_linked }))
      by k a b here there (inr (inl is)) =
          subst (HasOtherLinks a) (one (sym c.new_y ∙ (ap (slice_get new) (sym is) ∙ there)))
          (subst (λ (z : Cast D). HasOtherLinks z y') (one (sym c.y_is ∙ (ap (slice_get old) (sym is) ∙ here))) (record { is = c.own; linked = to_linked }))
      by k a b here there (inr (inr apart)) = subst (HasOtherLinks a) (one (sym here ∙ (sym (c.rest k apart.0 apart.1) ∙ there))) (links_none a)

  -- the sites by their numbers
  at_from : (a : Cast D) → slice_get old from ≡ Some a → x ≡ a
  at_from a here = one (sym c.x_is ∙ here)

  now_from : (b : Cast D) → slice_get new from ≡ Some b → x' ≡ b
  now_from b there = one (sym c.new_x ∙ there)

  at_to : (a : Cast D) → slice_get old to ≡ Some a → y ≡ a
  at_to a here = one (sym c.y_is ∙ here)

  now_to : (b : Cast D) → slice_get new to ≡ Some b → y' ≡ b
  now_to b there = one (sym c.new_y ∙ there)

  -- what goes out of a site
  kept_out : (n m : ℕ) (a b e : Cast D) → slice_get old n ≡ Some a → slice_get new n ≡ Some b → slice_get old m ≡ Some e → n ≢ m → (n ≡ from → m ≢ to) → out b m ≡ out a m
  kept_out n m a b e here there at differ not_it = by (which from to n)
    where
      by : (n ≡ from) ⊎ ((n ≡ to) ⊎ ((n ≢ from) × (n ≢ to))) → out b m ≡ out a m
      by (inl is) =
          let old_is : x ≡ a = at_from a (ap (slice_get old) (sym is) ∙ here) in
          let new_is : x' ≡ b = now_from b (ap (slice_get new) (sym is) ∙ there) in
          let peer = peer_at old from m x e linked c.x_is at (λ f. differ (is ∙ f)) in
          ap (λ (z : Cast D). out z m) (sym new_is) ∙ (out_stays m peer (not_it is) ∙ ap (λ (z : Cast D). out z m) old_is)
      by (inr (inl is)) =
          let old_is : y ≡ a = at_to a (ap (slice_get old) (sym is) ∙ here) in
          let new_is : y' ≡ b = now_to b (ap (slice_get new) (sym is) ∙ there) in
          let peer = peer_at old to m y e linked c.y_is at (λ f. differ (is ∙ f)) in
          ap (λ (z : Cast D). out z m) (sym new_is) ∙ (c.carries.to_out m peer refl ∙ ap (λ (z : Cast D). out z m) old_is)
      by (inr (inr apart)) = ap (λ (z : Cast D). out z m) (one (sym there ∙ (c.rest n apart.0 apart.1 ∙ here)))

  -- and what comes into one
  kept_into : (n m : ℕ) (a b e : Cast D) → slice_get old m ≡ Some a → slice_get new m ≡ Some b → slice_get old n ≡ Some e → n ≢ m → (m ≡ to → n ≢ from) → into b n ≡ into a n
  kept_into n m a b e here there at differ not_it = by (which from to m)
    where
      by : (m ≡ from) ⊎ ((m ≡ to) ⊎ ((m ≢ from) × (m ≢ to))) → into b n ≡ into a n
      by (inl is) =
          let old_is : x ≡ a = at_from a (ap (slice_get old) (sym is) ∙ here) in
          let new_is : x' ≡ b = now_from b (ap (slice_get new) (sym is) ∙ there) in
          let peer = peer_at old from n x e linked c.x_is at (λ f. differ (sym f ∙ sym is)) in
          ap (λ (z : Cast D). into z n) (sym new_is) ∙ (c.carries.from_into n peer refl ∙ ap (λ (z : Cast D). into z n) old_is)
      by (inr (inl is)) =
          let old_is : y ≡ a = at_to a (ap (slice_get old) (sym is) ∙ here) in
          let new_is : y' ≡ b = now_to b (ap (slice_get new) (sym is) ∙ there) in
          let peer = peer_at old to n y e linked c.y_is at (λ f. differ (sym f ∙ sym is)) in
          ap (λ (z : Cast D). into z n) (sym new_is) ∙ (into_stays n peer (not_it is) ∙ ap (λ (z : Cast D). into z n) old_is)
      by (inr (inr apart)) = ap (λ (z : Cast D). into z n) (one (sym there ∙ (c.rest m apart.0 apart.1 ∙ here)))

  module _ (Came : Comes) (was : Came (out x to) (out x' to) (into y from) (into y' from)) where
    one_came : CarriesWhere Came (λ n m. (n == from) && (m == to)) old new
    one_came = record {
      others = one_others;
      moved = λ n m a b d e here there at to_is differ done. moves n m a b d e here there at to_is (both_are n m from to done);
      kept = λ n m a b d e here there at to_is differ not_done. (
        kept_out n m a b d here there at differ (λ is there_is. no_both n m is there_is not_done),
        kept_into n m d e a at to_is here differ (λ is there_is. no_both n m there_is is not_done),
      );
    }
      where
        no_both : (n m : ℕ) → n ≡ from → m ≡ to → ((n == from) && (m == to)) ≡ false → ⊥
        no_both n m is there_is not_done = refused n m from to is there_is not_done

        moves : (n m : ℕ) (a b d e : Cast D) → slice_get old n ≡ Some a → slice_get new n ≡ Some b → slice_get old m ≡ Some d → slice_get new m ≡ Some e → (n ≡ from) × (m ≡ to)
            → Came (out a m) (out b m) (into d n) (into e n)
        moves n m a b d e here there at now is =
            subst (λ (k : ℕ). Came (out a m) (out b m) (into d k) (into e k)) (sym is.0)
            (subst (λ (k : ℕ). Came (out a k) (out b k) (into d from) (into e from)) (sym is.1)
            (came_as Came (out x to) (out x' to) (out a to) (out b to) (into y from) (into y' from) (into d from) (into e from)
            (ap (λ (z : Cast D). out z to) (sym (at_from a (ap (slice_get old) (sym is.0) ∙ here)))) (ap (λ (z : Cast D). out z to) (sym (now_from b (ap (slice_get new) (sym is.0) ∙ there))))
            (ap (λ (z : Cast D). into z from) (sym (at_to d (ap (slice_get old) (sym is.1) ∙ at)))) (ap (λ (z : Cast D). into z from) (sym (now_to e (ap (slice_get new) (sym is.1) ∙ now)))) was))

  -- all of it was carried, or memory was refused
  pub one_where : (held : ℕ) → result ≡ Ok held → CarriesWhere (WasMet (Ok tt)) (λ n m. (n == from) && (m == to)) old new
  one_where held ok = one_came (WasMet (Ok tt)) (record { held = held; carried = subst (λ (r : Result ℕ NoMemory). HasCarried r (out x to) (out x' to) (into y from) (into y' from)) ok carried })

  pub one_looked : (e : NoMemory) → CarriesWhere (WasMet (Err e)) (λ n m. (n == from) && (m == to)) old new
  one_looked e = one_came (WasMet (Err e)) (record { result = result; carried = carried })
