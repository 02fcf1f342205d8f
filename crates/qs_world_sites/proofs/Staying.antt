-- What holds of each site before and after, one change after another; and sites that stay linked.
use Rattle.std.proofs.Common.{◌≡◌, ◌≢◌, ◌∙◌, ◌<◌, ◌==◌, Bool, true, false, ap, append_assoc, subst, sym, refl, ℕ, zero, suc, List, [], ◌∷◌, ◌++◌, length, arith}
use Rattle.std.proofs.lemmas.Bool.Decides.{nat_tests}
use Rattle.std.proofs.lemmas.List.{append-nil}
use Rattle.std.specs.Prelude.{Some, slice_get, slice_set}
use Rattle.qs_book_journal.specs.declared.entry.Entry.{Entry}
use Rattle.qs_cell.specs.Starts.{journal_of}
use Rattle.qs_cell.specs.State.{carried_of}
use Rattle.qs_cell.specs.Visits.{Grows}
use Rattle.qs_cell_peers.proofs.Linked.{linked_as, linked_none, linked_on}
use Rattle.qs_cell_peers.specs.Links.{into_of, is_peer_of, out_of}
use Rattle.qs_cell_peers.specs.Peers.{is_peer}
use Rattle.qs_link.specs.Lane.{DrawValue, FeedValue, IsLane}
use Rattle.qs_world_rounds.specs.Rounds.{Cast, IsSameStart}
use Rattle.qs_world_sites.specs.Sites.{AreLinked, Each, GoesOn, HasOtherLinks, HasSameCell, StaysLinked, links_of}
use Rattle.rtrb.specs.Ring.{SameConsumer, SameProducer}

-- ---- places of a list

one : {A : Type 0} {x y : A} → Some x ≡ Some y → x ≡ y
one is = cc is

pub got_below : {A : Type 0} (xs : List A) (n : ℕ) (a : A) → slice_get xs n ≡ Some a → n < length xs
got_below [] n a got = absurd (cc got)
got_below (x ∷ xs) zero a got = omega arith
got_below (x ∷ xs) (suc n) a got = let less = got_below xs n a got in omega arith

pub record Got {A : Type 0} (xs : List A) (n : ℕ) : Type 0 where
  pub item : A
  pub is : slice_get xs n ≡ Some item

pub got_at : {A : Type 0} (xs : List A) (n : ℕ) → n < length xs → Got xs n
got_at [] n less = absurd (omega (arith, less))
got_at (x ∷ xs) zero less = record { item = x; is = refl }
got_at (x ∷ xs) (suc n) less = let rest = got_at xs n (omega (arith, less)) in record { item = rest.item; is = rest.is }

pub set_long : {A : Type 0} (xs : List A) (n : ℕ) (a : A) → length (slice_set xs n a) ≡ length xs
set_long [] n a = refl
set_long (x ∷ xs) zero a = refl
set_long (x ∷ xs) (suc n) a = let rest = set_long xs n a in omega arith

pub set_here : {A : Type 0} (xs : List A) (n : ℕ) (a : A) → n < length xs → slice_get (slice_set xs n a) n ≡ Some a
set_here [] n a less = absurd (omega (arith, less))
set_here (x ∷ xs) zero a less = refl
set_here (x ∷ xs) (suc n) a less = set_here xs n a (omega (arith, less))

pub set_there : {A : Type 0} (xs : List A) (n m : ℕ) (a : A) → n ≢ m → slice_get (slice_set xs n a) m ≡ slice_get xs m
set_there [] n m a apart = refl
set_there (x ∷ xs) zero zero a apart = absurd (apart refl)
set_there (x ∷ xs) zero (suc m) a apart = refl
set_there (x ∷ xs) (suc n) zero a apart = refl
set_there (x ∷ xs) (suc n) (suc m) a apart = set_there xs n m a (λ is. apart (ap suc is))

-- ---- each

module _ {D : Type 0} where
  pub each_none : (P : Cast D → Cast D → Type 0) → Each P [] []
  each_none P = record { count = refl; each = λ n a b here there. absurd (cc here) }

  pub each_same : (P : Cast D → Cast D → Type 0) → ((a : Cast D) → P a a) → (xs : List (Cast D)) → Each P xs xs
  each_same P same xs = record { count = refl; each = λ n a b here there. subst (P a) (one (sym here ∙ there)) (same a) }

  pub each_more : (P : Cast D → Cast D → Type 0) (a b : Cast D) (xs ys : List (Cast D)) → P a b → Each P xs ys → Each P (a ∷ xs) (b ∷ ys)
  each_more P a b xs ys first rest = record { count = let c = rest.count in omega arith; each = by }
    where
      by : (n : ℕ) (x y : Cast D) → slice_get (a ∷ xs) n ≡ Some x → slice_get (b ∷ ys) n ≡ Some y → P x y
      by zero x y here there = subst (P x) (one there) (subst (λ (z : Cast D). P z b) (one here) first)
      by (suc n) x y here there = rest.each n x y here there

  pub each_on : (P Q R : Cast D → Cast D → Type 0) → ((a b c : Cast D) → P a b → Q b c → R a c) → (xs ys zs : List (Cast D)) → Each P xs ys → Each Q ys zs → Each R xs zs
  each_on P Q R on xs ys zs first second = record { count = second.count ∙ first.count; each = by }
    where
      by : (n : ℕ) (a c : Cast D) → slice_get xs n ≡ Some a → slice_get zs n ≡ Some c → R a c
      by n a c here there =
          let mid = got_at ys n (let less = got_below xs n a here in let same = first.count in omega arith) in
          on a mid.item c (first.each n a mid.item here mid.is) (second.each n mid.item c mid.is there)

  pub each_is : (P Q : Cast D → Cast D → Type 0) → ((a b : Cast D) → P a b → Q a b) → (xs ys : List (Cast D)) → Each P xs ys → Each Q xs ys
  each_is P Q weaker xs ys all = record { count = all.count; each = λ n a b here there. weaker a b (all.each n a b here there) }

  -- one site changes
  pub each_set : (P : Cast D → Cast D → Type 0) → ((a : Cast D) → P a a) → (xs : List (Cast D)) (n : ℕ) (a b : Cast D) → slice_get xs n ≡ Some a → P a b → Each P xs (slice_set xs n b)
  each_set P same xs n a b at changed = record { count = set_long xs n b; each = λ m x y here there. by m x y here there (n == m) refl }
    where
      by : (m : ℕ) (x y : Cast D) → slice_get xs m ≡ Some x → slice_get (slice_set xs n b) m ≡ Some y → (e : Bool) → (n == m) ≡ e → P x y
      by m x y here there true is =
          let at_m : n ≡ m = grind (arith, nat_tests, is) in
          subst (P x) (one (sym (set_here xs n b (got_below xs n a at)) ∙ (ap (slice_get (slice_set xs n b)) at_m ∙ there)))
          (subst (λ (z : Cast D). P z b) (one (sym at ∙ (ap (slice_get xs) at_m ∙ here))) changed)
      by m x y here there false is =
          let apart : n ≢ m = grind (arith, nat_tests, is) in
          subst (P x) (one (sym here ∙ (sym (set_there xs n m b apart) ∙ there))) (same x)

-- ---- what stays

pub grows_none : (journal : List Entry) → Grows journal journal
grows_none journal = record { made = []; is = sym (append-nil journal) }

pub grows_on : (a b c : List Entry) → Grows a b → Grows b c → Grows a c
grows_on a b c first second = record { made = first.made ++ second.made; is = second.is ∙ (ap (λ (l : List Entry). l ++ second.made) first.is ∙ append_assoc a first.made second.made) }

module _ {D : Type 0} where
  pub start_none : (a : Cast D) → IsSameStart a.node a.node
  start_none a = record { opened = refl; faults = refl; links = record { size = refl; me = refl } }

  pub goes_none : (a : Cast D) → GoesOn a a
  goes_none a = record { start = start_none a; grows = grows_none (journal_of a.node) }

  pub goes_on : (a b c : Cast D) → GoesOn a b → GoesOn b c → GoesOn a c
  goes_on a b c first second = record {
    start = record {
      opened = second.start.opened ∙ first.start.opened;
      faults = second.start.faults ∙ first.start.faults;
      links = record { size = second.start.links.size ∙ first.start.links.size; me = second.start.links.me ∙ first.start.links.me };
    };
    grows = grows_on (journal_of a.node) (journal_of b.node) (journal_of c.node) first.grows second.grows;
  }

  pub stays_none : (a : Cast D) → StaysLinked a a
  stays_none a = record { goes_on = goes_none a; linked = linked_none (links_of a) }

  pub stays_on : (a b c : Cast D) → StaysLinked a b → StaysLinked b c → StaysLinked a c
  stays_on a b c first second = record { goes_on = goes_on a b c first.goes_on second.goes_on; linked = linked_on (links_of a) (links_of b) (links_of c) first.linked second.linked }

  pub cell_none : (a : Cast D) → HasSameCell a a
  cell_none a = record { node = refl; stays = stays_none a }

  pub cell_on : (a b c : Cast D) → HasSameCell a b → HasSameCell b c → HasSameCell a c
  cell_on a b c first second = record { node = second.node ∙ first.node; stays = stays_on a b c first.stays second.stays }

  pub same_cell : (a b : Cast D) → b.node.seat.node ≡ a.node.seat.node → b.node.links ≡ a.node.links → IsSameStart a.node b.node → HasSameCell a b
  same_cell a b node links start = record {
    node = node;
    stays = record {
      goes_on = record { start = start; grows = subst (Grows (journal_of a.node)) (sym (ap (λ n. (carried_of n).chronicle.told.journal) node)) (grows_none (journal_of a.node)) };
      linked = linked_as (links_of a) (links_of b) links;
    };
  }

  pub links_none : (a : Cast D) → HasOtherLinks a a
  links_none a = record { is = refl; linked = linked_none (links_of a) }

  pub links_on : (a b c : Cast D) → HasOtherLinks a b → HasOtherLinks b c → HasOtherLinks a c
  links_on a b c first second = record {
    is = second.is ∙ ap (λ (x : Cast D). record x { node = record x.node { links = c.node.links } }) first.is;
    linked = linked_on (links_of a) (links_of b) (links_of c) first.linked second.linked;
  }

  pub links_cell : (a b : Cast D) → HasOtherLinks a b → HasSameCell a b
  links_cell a b other = record {
    node = ap (λ (x : Cast D). x.node.seat.node) other.is;
    stays = record {
      goes_on = record {
        start = record { opened = ap (λ (x : Cast D). x.node.opened) other.is; faults = ap (λ (x : Cast D). x.node.faults) other.is; links = other.linked.same };
        grows = subst (Grows (journal_of a.node)) (sym (ap (λ (x : Cast D). journal_of x.node) other.is)) (grows_none (journal_of a.node));
      };
      linked = other.linked;
    };
  }

-- ---- sites stay linked

lane_on : {T : Type 0} (f g : FeedValue T) (d e : DrawValue T) → SameProducer f.ring g.ring → SameConsumer d.ring e.ring → IsLane f d → IsLane g e
lane_on f g d e out into lane = grind (arith, out, into, lane)

-- another node of a run of so many
pub peer_below : (size n m : ℕ) → m < size → n ≢ m → is_peer size n m ≡ true
peer_below size n m less apart = grind (arith, nat_tests, less, apart)

module _ {D : Type 0} where
  pub peer_at : (sites : List (Cast D)) (n m : ℕ) (a c : Cast D) → AreLinked sites → slice_get sites n ≡ Some a → slice_get sites m ≡ Some c → n ≢ m → is_peer_of (links_of a) m ≡ true
  peer_at sites n m a c linked here there apart =
      peer_below (links_of a).size (links_of a).me.0 m (subst (λ (k : ℕ). m < k) (sym (linked.size n a here)) (got_below sites m c there))
      (λ is. apart (sym (linked.numbers n a here) ∙ is))

  pub linked_each : (old new : List (Cast D)) → AreLinked old → Each StaysLinked old new → AreLinked new
  linked_each old new linked all = record { size = size_at; numbers = number_at; lanes = lane_at }
    where
      was : (n : ℕ) (b : Cast D) → slice_get new n ≡ Some b → Got old n
      was n b there = got_at old n (let less = got_below new n b there in let same = all.count in omega arith)

      size_at : (n : ℕ) (b : Cast D) → slice_get new n ≡ Some b → (links_of b).size ≡ length new
      size_at n b there = let a = was n b there in (all.each n a.item b a.is there).linked.same.size ∙ (linked.size n a.item a.is ∙ sym all.count)

      number_at : (n : ℕ) (b : Cast D) → slice_get new n ≡ Some b → (links_of b).me.0 ≡ n
      number_at n b there = let a = was n b there in ap (λ k. k.0) (all.each n a.item b a.is there).linked.same.me ∙ linked.numbers n a.item a.is

      lane_at : (n m : ℕ) (b d : Cast D) → slice_get new n ≡ Some b → slice_get new m ≡ Some d → n ≢ m → IsLane (out_of (links_of b) m).feed (into_of (links_of d) n)
      lane_at n m b d there other apart =
          let a = was n b there in
          let c = was m d other in
          let out = (all.each n a.item b a.is there).linked.out m (peer_at old n m a.item c.item linked a.is c.is apart) in
          let into = (all.each m c.item d c.is other).linked.into n (peer_at old m n c.item a.item linked c.is a.is (λ is. apart (sym is))) in
          lane_on (out_of (links_of a.item) m).feed (out_of (links_of b) m).feed (into_of (links_of c.item) n) (into_of (links_of d) n) out into (linked.lanes n m a.item c.item a.is c.is apart)

  pub linked_set : (sites : List (Cast D)) (n : ℕ) (a b : Cast D) → AreLinked sites → slice_get sites n ≡ Some a → StaysLinked a b → AreLinked (slice_set sites n b)
  linked_set sites n a b linked at stays = linked_each sites (slice_set sites n b) linked (each_set StaysLinked stays_none sites n a b at stays)
