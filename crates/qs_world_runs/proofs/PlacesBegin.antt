-- As a run begins nothing is undecided whose home is in the run; and what the machine has undecided, or has of a home that runs, has begun.
use Rattle.qs_world_runs.proofs.Words.{◌≡◌, inl, inr, ℕ, ◌+◌, ◌<◌, ◌≤◌, ◌==◌, ◌&&◌, ◌||◌, Bool, true, false, [], Some, refl, sym, ap, subst, ◌∙◌, arith, nat_lt, nat_le, is_some, if◌then◌else◌, nat_tests, slice_get, Tid, BookValue, find_transaction, TransactionValue, names_transaction, book_of, IsOpening, Opening, World, inc_of, start, count_in, inc_in, IsShown, IsShownWorld, home_in_run, HoldsStill, Lasts, HoldsNodeAt, HoldsWorld, state, state_there, same_Some, eq-eqb, or_left, lt-ltb}
use Rattle.qs_book_machine.specs.Nodes as machine
use Rattle.qs_book_machine.specs.Transaction.{is_open}
use Rattle.qs_world_refine.specs.Begun.{has_begun}
use Rattle.qs_world_refine.specs.Links.{node_no}
use Rattle.qs_world_refine.proofs.EveryRunShown.{every_run_shown}
use Rattle.qs_world_lawful.specs.Holds.{HasBegun}
use Rattle.qs_world_lawful.specs.Lasting.{IsOfNow}
use Rattle.qs_world_lawful.proofs.OpenedFresh.{lasts}
use Rattle.qs_world_runs.specs.PlacesLaws.{OpensPlaces}

-- ---- as a run begins

none_open : (o : Opening) → IsOpening o → (tid : Tid) (tx : TransactionValue) → find_transaction (book_of o) tid ≡ Some tx → is_open tx.cell ≡ true → tid.home.0 < o.size → ⊥
none_open o opens tid tx found undecided low = none tid.seq ((lasts o opens).named tid (ap is_some found)) (((lasts o opens).nodes tid.home (state o opens tid.home.0 low) (state_there o opens tid.home.0 low)).open_now tid tx found refl undecided).counted
  where
    none : (k : ℕ) → nat_lt 0 k ≡ true → k ≤ 0 → ⊥
    none k some least = grind (arith, nat_tests, some, least)

pub opens_places : OpensPlaces
opens_places o opens tid begun = record {
  places = record { machine = its.machine; shows = its.shows; placed = λ tx found undecided. absurd (none_open o opens tid tx found undecided (home_in_run (start o) shown tid begun)) };
  awaited = λ tx found undecided. absurd (none_open o opens tid tx found undecided (home_in_run (start o) shown tid begun));
}
  where
    shown : IsShownWorld (start o)
    shown = every_run_shown (start o) (record { opening = o; opens = opens; moves = []; run = refl })

    its : IsShown tid (start o)
    its = shown.shown tid begun

-- ---- what the machine has undecided began in its home's present incarnation

has : (a b c d : Bool) → a ≡ true → b ≡ true → (c || d) ≡ true → (a && (b && (c || d))) ≡ true
has a b c d p q r = rw (p, q) r

module _ (book : BookValue) (world : World) (lasts : Lasts book) (held : HoldsWorld book world) (tid : Tid) (tx : TransactionValue) (found : find_transaction book tid ≡ Some tx) (undecided : is_open tx.cell ≡ true) (low : tid.home.0 < world.size) where
  abbrev k : ℕ
  k = tid.home.0

  at : HoldsNodeAt book world k
  at = held.nodes k low

  now : IsOfNow at.state tid
  now = (lasts.nodes tid.home at.state at.there).open_now tid tx found refl undecided

  pub begun_inc : tid.inc ≡ inc_of world k
  begun_inc = now.inc ∙ at.inc_is

  pub begun_down : world.channels.up k ≡ false → has_begun world tid ≡ true
  begun_down off = has (names_transaction tid) (nat_lt k world.size) (nat_lt tid.inc (inc_in world k)) _ (lasts.named tid (ap is_some found)) (lt-ltb k world.size low) (or_left (nat_lt tid.inc (inc_in world k)) _ less)
    where
      below : (a b : ℕ) → a ≡ b → nat_lt a (b + 1) ≡ true
      below a b same = grind (arith, nat_tests, same)

      less : nat_lt tid.inc (inc_in world k) ≡ true
      less = subst (λ (b : Bool). nat_lt tid.inc (if b then world.channels.inc k else world.channels.inc k + 1) ≡ true) (sym off) (below tid.inc (world.channels.inc k) begun_inc)

-- ---- what the machine has began, where its home runs

module _ (book : BookValue) (world : World) (lasts : Lasts book) (held : HoldsWorld book world) (tid : Tid) (some : is_some (find_transaction book tid) ≡ true) (low : tid.home.0 < world.size) (on : world.channels.up tid.home.0 ≡ true) where
  abbrev home : ℕ
  home = tid.home.0

  at_home : HoldsNodeAt book world home
  at_home = held.nodes home low

  still : HoldsStill book (world.hosts home).node
  still = (at_home.runs on).still

  inc_is : (world.hosts home).node.setting.inc ≡ inc_in world home
  inc_is = sym still.same.inc ∙ (ap (λ (s : machine.NodeValue). s.inc) (same_Some still.state at_home.state (sym still.there ∙ (ap (slice_get book.nodes) at_home.node ∙ at_home.there)))
      ∙ (at_home.inc_is ∙ subst (λ (b : Bool). inc_of world home ≡ (if b then world.channels.inc home else world.channels.inc home + 1)) (sym on) refl))

  count_is : (world.hosts home).node.manager.begun ≡ count_in world home
  count_is = subst (λ (b : Bool). (world.hosts home).node.manager.begun ≡ (if b then (world.hosts home).node.manager.begun else 0)) (sym on) refl

  pub begun_up : has_begun world tid ≡ true
  begun_up = has (names_transaction tid) (nat_lt home world.size) (nat_lt tid.inc (inc_in world home)) ((tid.inc == inc_in world home) && nat_le tid.seq (count_in world home)) (lasts.named tid some) (lt-ltb home world.size low)
      (by (still.begun tid (ap (λ (n : ℕ). node_no n) (sym at_home.node)) some))
    where
      less : (a b c : ℕ) → a < b → b ≡ c → nat_lt a c ≡ true
      less a b c p e = grind (arith, nat_tests, p, e)

      later : (a b c : Bool) → b ≡ true → c ≡ true → (a || (b && c)) ≡ true
      later true b c p q = refl
      later false b c p q = rw (p, q) refl

      at_most : (a b c : ℕ) → a ≤ b → b ≡ c → nat_le a c ≡ true
      at_most a b c e p = grind (arith, nat_tests, e, p)

      by : HasBegun (world.hosts home).node.setting.inc (world.hosts home).node.manager.begun tid → (nat_lt tid.inc (inc_in world home) || ((tid.inc == inc_in world home) && nat_le tid.seq (count_in world home))) ≡ true
      by (inl before) = or_left (nat_lt tid.inc (inc_in world home)) _ (less tid.inc (world.hosts home).node.setting.inc (inc_in world home) before inc_is)
      by (inr (same, counted)) = later (nat_lt tid.inc (inc_in world home)) _ _ (eq-eqb tid.inc (inc_in world home) (same ∙ inc_is)) (at_most tid.seq (world.hosts home).node.manager.begun (count_in world home) counted count_is)
