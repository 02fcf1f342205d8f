-- What is on the way to a node as it takes in what comes: its first message is handed up, or those of incarnations that are over are passed by.
use Rattle.qs_world_runs.proofs.Words.{◌≡◌, ℕ, ◌+◌, ◌-◌, ◌==◌, ◌<◌, ◌≤◌, Bool, true, false, List, [], ◌∷◌, ◌++◌, drop, length, zero, suc, Option, Some, refl, sym, ap, subst, ◌∙◌, arith, if◌then◌else◌, append_assoc, append-nil, le_refl, eqb-true, nat_tests, slice_get, ServerNo, Tid, Channels, Op, Event, Clock, Commanded, Handed, Noticed, Queues, Source, event_of, hand_next, taken_by, Parcel, World, IsSteady, FromNotice, from_client, from_node, from_notice, is_asking_for, on_its_way, ops_of}
use Rattle.qs_world_runs.proofs.Words.{pending, pending_from, eqb-self, apart_turned}
use Rattle.qs_session_channels.proofs.Lists.{tail_from}
use Rattle.qs_session_channels.specs.Channels as channel
use Rattle.qs_node_step.specs.declared.event.Event.TheVariants as events
use Rattle.qs_world_refine.proofs.EachMay.{FromNode}
use Rattle.qs_world_lawful.proofs.StepWays.{KeepsPair, way_same}
use Rattle.qs_world_lawful.proofs.WithinParts.{pending_parts}
use Rattle.qs_world_runs.proofs.WaysServed.{came_from}

-- some are passed by, then the one that comes, and then what is on its way still
pub record Split (c d : Channels Parcel) (a n : ℕ) (event : Event) : Type 0 where
  pub front : List Parcel
  pub came : List Parcel
  pub way : on_its_way c a n ≡ front ++ (came ++ on_its_way d a n)
  pub is : (tid : Tid) (s : ServerNo) (k : ℕ) → came_from a event tid s k ≡ ops_of tid s k came

-- ---- lists

pending_later : (f g : ℕ → List Parcel) (i : ℕ) → ((k : ℕ) → i ≤ k → g k ≡ f k) → (more : ℕ) → pending_from g i more ≡ pending_from f i more
pending_later f g i same zero = refl
pending_later f g i same (suc more) = rw (same i (le_refl i), pending_later f g (suc i) (λ k low. same k (below i k low)) more) refl
  where
    below : (i k : ℕ) → suc i ≤ k → i ≤ k
    below i k low = grind (arith, low)

module _ (world : World) (n stamp a : ℕ) (far : (a == n) ≡ false) (steady : IsSteady world) (known : world.channels.peer n a ≤ world.channels.inc a) (event : Event) where
  abbrev c : Channels Parcel
  c = world.channels

  -- what comes is no message: nothing is handed up
  still : (d : Channels Parcel) → KeepsPair c d a n → ((tid : Tid) (s : ServerNo) (k : ℕ) → came_from a event tid s k ≡ []) → Split c d a n event
  still d pair none = record { front = []; came = []; way = sym (way_same c d a n pair); is = none }

  same_pair : KeepsPair c c a n
  same_pair = record { peer = refl; inc = refl; up = refl; waits = refl; posted = refl; handed = refl }

  -- ---- the first is handed up

  module _ (parcel : Parcel) (next : slice_get (c.posted a n (c.peer n a) (c.inc n)) (length (c.handed a n (c.peer n a) (c.inc n))) ≡ Some parcel) where
    abbrev d : Channels Parcel
    d = channel.moved (channel.Hand n a parcel) c

    abbrev at : ℕ → List Parcel
    at i = pending c a n i (c.inc n)

    abbrev now : ℕ → List Parcel
    now i = pending d a n i (c.inc n)

    longer : (xs : List Parcel) → length (xs ++ parcel ∷ []) ≡ length xs + 1
    longer [] = refl
    longer (x ∷ xs) = omega (arith, longer xs)

    first : at (c.peer n a) ≡ parcel ∷ now (c.peer n a)
    first = tail_from (length (c.handed a n (c.peer n a) (c.inc n))) (c.posted a n (c.peer n a) (c.inc n)) parcel next
        ∙ ap (λ (k : ℕ). parcel ∷ drop k (c.posted a n (c.peer n a) (c.inc n))) (sym (ap length handed_now ∙ longer (c.handed a n (c.peer n a) (c.inc n))))
      where
        handed_now : d.handed a n (c.peer n a) (c.inc n) ≡ c.handed a n (c.peer n a) (c.inc n) ++ parcel ∷ []
        handed_now = rw (eqb-self a, eqb-self n, eqb-self (c.peer n a), eqb-self (c.inc n)) refl

    later : (k : ℕ) → suc (c.peer n a) ≤ k → now k ≡ at k
    later k low = ap (λ (hs : List Parcel). drop (length hs) (c.posted a n k (c.inc n))) handed_same
      where
        other : (p k : ℕ) → suc p ≤ k → (k == p) ≡ false
        other p k e = grind (arith, nat_tests, e)

        handed_same : d.handed a n k (c.inc n) ≡ c.handed a n k (c.inc n)
        handed_same = rw (eqb-self a, eqb-self n, other (c.peer n a) k low) refl

    handed_way : on_its_way c a n ≡ parcel ∷ on_its_way d a n
    handed_way = ap (λ (l : ℕ). pending_from at (c.peer n a) l ++ c.waits a n) (count (c.peer n a) (c.inc a) known)
        ∙ (ap (λ (xs : List Parcel). (xs ++ pending_from at (suc (c.peer n a)) (c.inc a - c.peer n a)) ++ c.waits a n) first
        ∙ (ap (λ (xs : List Parcel). (parcel ∷ (now (c.peer n a) ++ xs)) ++ c.waits a n) (sym (pending_later at now (suc (c.peer n a)) later (c.inc a - c.peer n a)))
        ∙ ap (λ (l : ℕ). parcel ∷ (pending_from now (c.peer n a) l ++ c.waits a n)) (sym (count (c.peer n a) (c.inc a) known))))
      where
        count : (p l : ℕ) → p ≤ l → (l + 1) - p ≡ suc (l - p)
        count p l e = grind (arith, e)

  -- ---- each source

  one_event : (e : Event) → Some e ≡ Some event → event ≡ e
  one_event e same = cc same

  none_by : (e : Event) → event ≡ e → ((tid : Tid) (s : ServerNo) (k : ℕ) → came_from a e tid s k ≡ []) → (tid : Tid) (s : ServerNo) (k : ℕ) → came_from a event tid s k ≡ []
  none_by e is none tid s k = ap (λ (x : Event). came_from a x tid s k) is ∙ none tid s k

  handed_own : event_of world n stamp (Handed a) ≡ Some event → Split c (taken_by world n (Handed a)) a n event
  handed_own comes = subst (λ (x : Channels Parcel). Split c x a n event) (sym (ap (λ (o : Option Parcel). hand_next n a o c) from.found)) (record {
    front = [];
    came = from.parcel ∷ [];
    way = handed_way from.parcel from.found;
    is = λ tid s k. ap (λ (e : Event). came_from a e tid s k) from.is ∙ (asks (a == a) (eqb-self a) tid s k ∙ sym (append-nil (is_asking_for tid s k from.parcel.message)));
  })
    where
      from : FromNode world n a event
      from = from_node world n stamp a event comes

      asks : (b : Bool) → b ≡ true → (tid : Tid) (s : ServerNo) (k : ℕ) → ◌≡◌ {A = List Op} (if b then is_asking_for tid s k from.parcel.message else []) (is_asking_for tid s k from.parcel.message)
      asks b is tid s k = rw is refl

  handed_other : (m : ℕ) → (a == m) ≡ false → event_of world n stamp (Handed m) ≡ Some event → Split c (taken_by world n (Handed m)) a n event
  handed_other m other comes = subst (λ (x : Channels Parcel). Split c x a n event) (sym (ap (λ (o : Option Parcel). hand_next n m o c) from.found))
      (still (channel.moved (channel.Hand n m from.parcel) c) (record { peer = refl; inc = refl; up = refl; waits = refl; posted = refl; handed = rw other refl })
      (λ tid s k. ap (λ (e : Event). came_from a e tid s k) from.is ∙ asks (m == a) (apart_turned a m other) tid s k))
    where
      from : FromNode world n m event
      from = from_node world n stamp m event comes

      asks : (b : Bool) → b ≡ false → (tid : Tid) (s : ServerNo) (k : ℕ) → ◌≡◌ {A = List Op} (if b then is_asking_for tid s k from.parcel.message else []) []
      asks b is tid s k = rw is refl

  -- ---- those of incarnations that are over are passed by

  noticed_own : (new : ℕ) → event_of world n stamp (Noticed a new) ≡ Some event → Split c (taken_by world n (Noticed a new)) a n event
  noticed_own new comes = record {
    front = pending_from at_old (c.peer n a) (new - c.peer n a);
    came = [];
    way = ap (λ (l : ℕ). pending_from at_old (c.peer n a) l ++ c.waits a n) (count (c.peer n a) new (c.inc a) from.later from.begun)
        ∙ (ap (λ (xs : List Parcel). xs ++ c.waits a n) (pending_parts at_old (c.peer n a) (new - c.peer n a) ((c.inc a + 1) - new))
        ∙ (append_assoc (pending_from at_old (c.peer n a) (new - c.peer n a)) (pending_from at_old (c.peer n a + (new - c.peer n a)) ((c.inc a + 1) - new)) (c.waits a n)
        ∙ (ap (λ (i : ℕ). pending_from at_old (c.peer n a) (new - c.peer n a) ++ (pending_from at_old i ((c.inc a + 1) - new) ++ c.waits a n)) (whole (c.peer n a) new from.later)
        ∙ ap (λ (i : ℕ). pending_from at_old (c.peer n a) (new - c.peer n a) ++ (pending_from at_old i ((c.inc a + 1) - i) ++ c.waits a n)) (sym (peer_now (n == n) (eqb-self n) (a == a) (eqb-self a))))));
    is = none_by (events.PeerRestarted (record { 0 = a }) (c.peer n a) new) from.is (λ tid s k. refl);
  }
    where
      at_old : ℕ → List Parcel
      at_old i = drop (length (c.handed a n i (c.inc n))) (c.posted a n i (c.inc n))

      from : FromNotice world n a new event
      from = from_notice world n stamp a new event comes

      peer_now : (x : Bool) → x ≡ true → (y : Bool) → y ≡ true → (if x then (if y then new else c.peer n a) else c.peer n a) ≡ new
      peer_now x p y q = rw (p, q) refl

      count : (p m l : ℕ) → p < m → m ≤ l → (l + 1) - p ≡ (m - p) + ((l + 1) - m)
      count p m l e f = grind (arith, e, f)

      whole : (p m : ℕ) → p < m → p + (m - p) ≡ m
      whole p m e = grind (arith, e)

  noticed_other : (m new : ℕ) → (a == m) ≡ false → event_of world n stamp (Noticed m new) ≡ Some event → Split c (taken_by world n (Noticed m new)) a n event
  noticed_other m new other comes = still (channel.moved (channel.Notice n m new) c) (record { peer = rw (eqb-self n, other) refl; inc = refl; up = refl; waits = refl; posted = refl; handed = refl })
      (none_by (events.PeerRestarted (record { 0 = m }) (c.peer n m) new) (from_notice world n stamp m new event comes).is (λ tid s k. refl))

  pub way_split : (source : Source) → event_of world n stamp source ≡ Some event → Split c (taken_by world n source) a n event
  way_split (Commanded k) comes = let from = from_client world n k event steady comes in still c same_pair (λ tid s i. ap (λ (e : Event). came_from a e tid s i) from.is)
  way_split Queues comes = still c same_pair (none_by events.ServeAll (one_event events.ServeAll comes) (λ tid s k. refl))
  way_split Clock comes = still c same_pair (none_by events.Tick (one_event events.Tick comes) (λ tid s k. refl))
  way_split (Handed m) comes = by (a == m) refl
    where
      by : (b : Bool) → (a == m) ≡ b → Split c (taken_by world n (Handed m)) a n event
      by true same = subst (λ (i : ℕ). event_of world n stamp (Handed i) ≡ Some event → Split c (taken_by world n (Handed i)) a n event) (eqb-true a m same) handed_own comes
      by false other = handed_other m other comes
  way_split (Noticed m new) comes = by (a == m) refl
    where
      by : (b : Bool) → (a == m) ≡ b → Split c (taken_by world n (Noticed m new)) a n event
      by true same = subst (λ (i : ℕ). event_of world n stamp (Noticed i new) ≡ Some event → Split c (taken_by world n (Noticed i new)) a n event) (eqb-true a m same) (noticed_own new) comes
      by false other = noticed_other m new other comes
