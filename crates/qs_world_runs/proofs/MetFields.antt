-- A node gets to know a first incarnation of another: what it kept back goes on its way, where that runs; what else was on its way to it or back stays there, or dooms.
use Rattle.qs_world_runs.proofs.Words.{◌≡◌, ◌⊎◌, inl, inr, ℕ, ◌+◌, ◌-◌, ◌<◌, ◌≤◌, ◌==◌, ◌&&◌, Bool, true, false, List, ◌++◌, drop, length, map, zero, suc, refl, sym, ap, subst, ◌∙◌, arith, if◌then◌else◌, eqb-true, ServerNo, Tid, Channels, with_at2, RequestNo, Parcel, World, IsDoomed, has_request, all_said, pending, pending_from, AreSound, Field, asked, field_of, message_of, waiting, zero_plus, zero_least, eqb-self}
use Rattle.std.proofs.lemmas.List.{drop-append-le}
use Rattle.qs_node_step.specs.State.{NodeValue}
use Rattle.qs_world.specs.Moves.{met}
use Rattle.qs_world_agree.specs.World as machine
use Rattle.qs_world_lawful.specs.Face.{is_numbered, waiting_at}
use Rattle.qs_world_lawful.proofs.WithinParts.{pending_last, pending_parts, pending_same}
use Rattle.qs_world_runs.proofs.CommitsPlaced.{none_in}
use Rattle.qs_world_runs.proofs.PlacedTx.{HasRoom, SameNodes}
use Rattle.qs_world_runs.proofs.RisenFields.{asked_both, asked_in}
use Rattle.qs_base_lemmas.proofs.Tests.{lt_apart, and_rest}

module _ (tid : Tid) (world : World) (n stamp m j : ℕ) (v : machine.World) (on : world.channels.up n ≡ true) (apart : (m == n) ≡ false) (unknown : world.channels.peer n m ≡ 0) (begun : j ≤ world.channels.inc m)
    (sound : AreSound world.channels) (known : world.channels.peer m n ≤ world.channels.inc n)
    -- what it kept back, for one that stopped, and what an earlier incarnation of that has for it
    (lost : (world.channels.up m && (world.channels.inc m == j)) ≡ false → has_request (all_said tid (map message_of (world.channels.waits n m))) ≡ true → IsDoomed v)
    (left : (i : ℕ) → i < j → has_request (all_said tid (map message_of (pending world.channels m n i (world.channels.inc n)))) ≡ true → IsDoomed v) where
  abbrev after : World
  after = met world n stamp m j

  abbrev c : Channels Parcel
  c = world.channels

  abbrev old : Field
  old = field_of world

  abbrev new : Field
  new = field_of after

  pub same_nodes : SameNodes old new
  same_nodes = record { size = refl; up = λ k. refl; inc = λ k. refl }

  node_is : (k : ℕ) → new.node k ≡ old.node k
  node_is k = picked (k == n) refl
    where
      picked : (b : Bool) → (k == n) ≡ b → (if b then record (world.hosts n) { stamp = stamp } else world.hosts k).node ≡ (world.hosts k).node
      picked true near = ap (λ (i : ℕ). (world.hosts i).node) (sym (eqb-true k n near))
      picked false far = refl

  -- ---- what is kept back for others stays

  kept_away : (a b : ℕ) → ((a == n) && (b == m)) ≡ false → new.kept a b ≡ old.kept a b
  kept_away a b far = by (a == n) (b == m) refl refl far
    where
      by : (x y : Bool) → (a == n) ≡ x → (b == m) ≡ y → (x && y) ≡ false → new.kept a b ≡ old.kept a b
      by false y at to off = rw at refl
      by true false at to off = rw (at, to) refl
      by true true at to off = absurd (cc off)

  module _ (server : ServerNo) (number : ℕ) where
    kept_own : asked tid server number (old.kept n m) ≡ asked_in tid server number (c.waits n m)
    kept_own = rw (on, unknown) refl

    abbrev at : ℕ → ℕ → ℕ → List Parcel
    at a b i = pending c a b i (c.inc b)

    abbrev met_at : ℕ → ℕ → ℕ → List Parcel
    met_at a b i = pending after.channels a b i (c.inc b)

    at_others : (a b : ℕ) → ((a == n) && (b == m)) ≡ false → (i : ℕ) → met_at a b i ≡ at a b i
    at_others a b far i = by (a == n) (b == m) refl refl far
      where
        by : (x y : Bool) → (a == n) ≡ x → (b == m) ≡ y → (x && y) ≡ false → met_at a b i ≡ at a b i
        by false y from to off = rw from refl
        by true false from to off = rw (from, to) refl
        by true true from to off = absurd (cc off)

    own_at : (i : ℕ) → met_at n m i ≡ drop (length (c.handed n m i (c.inc m))) (with_at2 (c.posted n m) (c.inc n) j (c.posted n m (c.inc n) j ++ c.waits n m) i (c.inc m))
    own_at i = rw (eqb-self n, eqb-self m) refl

    peer_on : (a b : ℕ) → ((a == n) && (b == m)) ≡ false → after.channels.peer a b ≡ c.peer a b
    peer_on a b far = by (a == n) (b == m) refl refl far
      where
        by : (x y : Bool) → (a == n) ≡ x → (b == m) ≡ y → (x && y) ≡ false → after.channels.peer a b ≡ c.peer a b
        by false y from to off = rw from refl
        by true false from to off = rw (from, to) refl
        by true true from to off = absurd (cc off)

    off_turned : ((m == n) && (n == m)) ≡ false
    off_turned = rw apart refl

    equal : (a b : ℕ) → a ≡ b → a ≤ b
    equal a b e = omega (arith, e)

    -- between two others, and so for all but the node that is met
    sent_away : (a b : ℕ) → ((a == n) && (b == m)) ≡ false → ((b == n) && (a == m)) ≡ false → asked tid server number (old.sent a b) ≡ asked tid server number (new.sent a b)
    sent_away a b far behind = ap (λ (ps : List Parcel). asked_in tid server number ps) (sym (ap (λ (p : ℕ). pending_from (met_at a b) p ((c.inc a + 1) - p)) (peer_on b a behind) ∙ pending_same (met_at a b) (at a b) (at_others a b far) (c.peer b a) ((c.inc a + 1) - c.peer b a)))

    -- to it, where it runs in that incarnation: what was kept back is behind all else
    sent_met : (c.inc m == j) ≡ true → asked tid server number (new.sent n m) ≡ asked tid server number (old.sent n m) + asked_in tid server number (c.waits n m)
    sent_met same = ap (λ (ps : List Parcel). asked_in tid server number ps) whole ∙ asked_both tid server number (pending_from (at n m) (c.peer m n) ((c.inc n + 1) - c.peer m n)) (c.waits n m)
      where
        numbers : (p l : ℕ) → p ≤ l → (l + 1) - p ≡ suc (l - p)
        numbers p l e = grind (arith, e)

        both : (p l : ℕ) → p ≤ l → p + (l - p) ≡ l
        both p l e = grind (arith, e)

        at_last : met_at n m (c.inc n) ≡ at n m (c.inc n) ++ c.waits n m
        at_last = own_at (c.inc n) ∙ (rw (eqb-self (c.inc n), same) (ap (λ (k : ℕ). drop (length (c.handed n m (c.inc n) (c.inc m))) (c.posted n m (c.inc n) k ++ c.waits n m)) (sym (eqb-true (c.inc m) j same)))
            ∙ drop-append-le (length (c.handed n m (c.inc n) (c.inc m))) (c.posted n m (c.inc n) (c.inc m)) (c.waits n m) (sound.within n m (c.inc n) (c.inc m)))

        less : (i : ℕ) → i < c.inc n → met_at n m i ≡ at n m i
        less i e = own_at i ∙ rw (lt_apart i (c.inc n) e) refl

        whole : pending_from (met_at n m) (after.channels.peer m n) ((c.inc n + 1) - after.channels.peer m n) ≡ pending_from (at n m) (c.peer m n) ((c.inc n + 1) - c.peer m n) ++ c.waits n m
        whole = ap (λ (p : ℕ). pending_from (met_at n m) p ((c.inc n + 1) - p)) (peer_on m n off_turned)
            ∙ (ap (pending_from (met_at n m) (c.peer m n)) (numbers (c.peer m n) (c.inc n) known)
            ∙ (pending_last (at n m) (met_at n m) (c.waits n m) (c.inc n) at_last less (c.peer m n) (c.inc n - c.peer m n) (both (c.peer m n) (c.inc n) known)
            ∙ ap (λ (k : ℕ). pending_from (at n m) (c.peer m n) k ++ c.waits n m) (sym (numbers (c.peer m n) (c.inc n) known))))

    -- to another incarnation of it
    sent_past : (c.inc m == j) ≡ false → asked tid server number (old.sent n m) ≡ asked tid server number (new.sent n m)
    sent_past other = ap (λ (ps : List Parcel). asked_in tid server number ps) (sym (ap (λ (p : ℕ). pending_from (met_at n m) p ((c.inc n + 1) - p)) (peer_on m n off_turned) ∙ pending_same (met_at n m) (at n m) same (c.peer m n) ((c.inc n + 1) - c.peer m n)))
      where
        same : (i : ℕ) → met_at n m i ≡ at n m i
        same i = own_at i ∙ of (i == c.inc n)
          where
            of : (x : Bool) → drop (length (c.handed n m i (c.inc m))) (if x then (if c.inc m == j then c.posted n m (c.inc n) j ++ c.waits n m else c.posted n m i (c.inc m)) else c.posted n m i (c.inc m)) ≡ at n m i
            of true = rw other refl
            of false = refl

    -- from it: what earlier incarnations of it had is not taken any more
    sent_back : asked_in tid server number (pending_from (at m n) 0 j) ≡ 0 → asked tid server number (old.sent m n) ≡ asked tid server number (new.sent m n)
    sent_back none = ap (λ (ps : List Parcel). asked_in tid server number ps) parts ∙ (asked_both tid server number (pending_from (at m n) 0 j) (pending_from (at m n) j ((c.inc m + 1) - j)) ∙ (ap (λ (k : ℕ). k + asked_in tid server number (pending_from (at m n) j ((c.inc m + 1) - j))) none
        ∙ (zero_plus (asked_in tid server number (pending_from (at m n) j ((c.inc m + 1) - j))) ∙ ap (λ (ps : List Parcel). asked_in tid server number ps) (sym now))))
      where
        numbers : (i l : ℕ) → i ≤ l → (l + 1) - 0 ≡ i + ((l + 1) - i)
        numbers i l e = grind (arith, e)

        parts : pending_from (at m n) (c.peer n m) ((c.inc m + 1) - c.peer n m) ≡ pending_from (at m n) 0 j ++ pending_from (at m n) j ((c.inc m + 1) - j)
        parts = ap (λ (k : ℕ). pending_from (at m n) k ((c.inc m + 1) - k)) unknown ∙ (ap (pending_from (at m n) 0) (numbers j (c.inc m) begun) ∙ (pending_parts (at m n) 0 j ((c.inc m + 1) - j) ∙ ap (λ (k : ℕ). pending_from (at m n) 0 j ++ pending_from (at m n) k ((c.inc m + 1) - j)) (zero_plus j)))

        now : pending_from (met_at m n) (after.channels.peer n m) ((c.inc m + 1) - after.channels.peer n m) ≡ pending_from (at m n) j ((c.inc m + 1) - j)
        now = ap (λ (k : ℕ). pending_from (met_at m n) k ((c.inc m + 1) - k)) peer_now ∙ pending_same (met_at m n) (at m n) (at_others m n (rw apart refl)) j ((c.inc m + 1) - j)
          where
            peer_now : after.channels.peer n m ≡ j
            peer_now = rw (eqb-self n, eqb-self m) refl

  -- ---- what is nowhere any more asks for nothing, or dooms

  abbrev NothingIn : List Parcel → Type 0
  NothingIn ps = (server : ServerNo) (number : ℕ) → asked_in tid server number ps ≡ 0

  none_of : (ps : List Parcel) → (has_request (all_said tid (map message_of ps)) ≡ true → IsDoomed v) → IsDoomed v ⊎ NothingIn ps
  none_of ps dooms = by (has_request (all_said tid (map message_of ps))) refl
    where
      by : (b : Bool) → has_request (all_said tid (map message_of ps)) ≡ b → IsDoomed v ⊎ NothingIn ps
      by true has = inl (dooms has)
      by false none = inr (λ server number. none_in tid server number ps none)

  none_before : (k : ℕ) → (i : ℕ) → i + k ≤ j → IsDoomed v ⊎ NothingIn (pending_from (λ i. pending c m n i (c.inc n)) i k)
  none_before zero i low = inr (λ server number. refl)
  none_before (suc k) i low = by (none_of (pending c m n i (c.inc n)) (left i (first i k j low))) (none_before k (suc i) (rest i k j low))
    where
      first : (a b d : ℕ) → a + suc b ≤ d → a < d
      first a b d h = omega (arith, h)

      rest : (a b d : ℕ) → a + suc b ≤ d → suc a + b ≤ d
      rest a b d h = omega (arith, h)

      by : IsDoomed v ⊎ NothingIn (pending c m n i (c.inc n)) → IsDoomed v ⊎ NothingIn (pending_from (λ i. pending c m n i (c.inc n)) (suc i) k) → IsDoomed v ⊎ NothingIn (pending_from (λ i. pending c m n i (c.inc n)) i (suc k))
      by (inl doomed) more = inl doomed
      by (inr none) (inl doomed) = inl doomed
      by (inr none) (inr more) = inr (λ server number. asked_both tid server number (pending c m n i (c.inc n)) (pending_from (λ i. pending c m n i (c.inc n)) (suc i) k) ∙ zeros (asked_in tid server number (pending c m n i (c.inc n))) _ (none server number) (more server number))
        where
          zeros : (a b : ℕ) → a ≡ 0 → b ≡ 0 → a + b ≡ 0
          zeros a b p q = omega (arith, p, q)

  -- ---- of the requests under one number

  module _ (way : RequestNo) where
    abbrev from : ℕ
    from = way.link.from.0

    abbrev to : ℕ
    to = way.link.to.0

    waits_on : (server : ServerNo) → waiting tid old way server ≡ waiting tid new way server
    waits_on server = ap (λ (node : NodeValue). length (Rattle.std.specs.List.filter (is_numbered way) (waiting_at node tid server))) (sym (node_is to))

    -- as much is there, and kept back
    with_room : ((server : ServerNo) → new.up to ≡ true → asked tid server way.number (old.sent from to) + asked tid server way.number (old.kept from to) ≤ asked tid server way.number (new.sent from to) + asked tid server way.number (new.kept from to))
        → ((server : ServerNo) → new.up to ≡ false → asked tid server way.number (old.kept from to) ≤ asked tid server way.number (new.kept from to)) → HasRoom tid old new way
    with_room sums backs = record {
      runs = λ up server. more (waiting tid old way server) (waiting tid new way server) _ _ (waits_on server) (sums server up);
      stopped = λ down server. backs server down;
    }
      where
        more : (a b p q : ℕ) → a ≡ b → p ≤ q → a + p ≤ b + q
        more a b p q e h = omega (arith, e, h)

    sums_of : (a b x y : ℕ) → a ≡ x → b ≡ y → a + b ≤ x + y
    sums_of a b x y p q = omega (arith, p, q)

    other_way : ((from == n) && (to == m)) ≡ false → ((to == n) && (from == m)) ≡ false → HasRoom tid old new way
    other_way far behind = with_room (λ server up. sums_of _ _ _ _ (sent_away server way.number from to far behind) (kept_same server)) (λ server down. equal server way.number _ _ (kept_same server))
      where
        kept_same : (server : ServerNo) → asked tid server way.number (old.kept from to) ≡ asked tid server way.number (new.kept from to)
        kept_same server = ap (λ ms. asked tid server way.number ms) (sym (kept_away from to far))

    back_way : from ≡ m → to ≡ n → NothingIn (pending_from (λ i. pending c m n i (c.inc n)) 0 j) → HasRoom tid old new way
    back_way at_from at_to none = with_room (λ server up. sums_of _ _ _ _ (sents server) (kept_same server)) (λ server down. equal server way.number _ _ (kept_same server))
      where
        sents : (server : ServerNo) → asked tid server way.number (old.sent from to) ≡ asked tid server way.number (new.sent from to)
        sents server = subst (λ (a : ℕ). asked tid server way.number (old.sent a to) ≡ asked tid server way.number (new.sent a to)) (sym at_from) (subst (λ (b : ℕ). asked tid server way.number (old.sent m b) ≡ asked tid server way.number (new.sent m b)) (sym at_to) (sent_back server way.number (none server way.number)))

        far : ((from == n) && (to == m)) ≡ false
        far = subst (λ (a : ℕ). ((a == n) && (to == m)) ≡ false) (sym at_from) (rw apart refl)

        kept_same : (server : ServerNo) → asked tid server way.number (old.kept from to) ≡ asked tid server way.number (new.kept from to)
        kept_same server = ap (λ ms. asked tid server way.number ms) (sym (kept_away from to far))

    -- of the way on which it goes from now on
    met_way : from ≡ n → to ≡ m → world.channels.up m ≡ true → (c.inc m == j) ≡ true → HasRoom tid old new way
    met_way at_from at_to up same = with_room (λ server on_up. at_pair server) (λ server down. absurd (let off : world.channels.up m ≡ false = subst (λ (k : ℕ). world.channels.up k ≡ false) at_to down in cc (up, off)))
      where
        at_pair : (server : ServerNo) → asked tid server way.number (old.sent from to) + asked tid server way.number (old.kept from to) ≤ asked tid server way.number (new.sent from to) + asked tid server way.number (new.kept from to)
        at_pair server = subst (λ (a : ℕ). asked tid server way.number (old.sent a to) + asked tid server way.number (old.kept a to) ≤ asked tid server way.number (new.sent a to) + asked tid server way.number (new.kept a to)) (sym at_from)
            (subst (λ (b : ℕ). asked tid server way.number (old.sent n b) + asked tid server way.number (old.kept n b) ≤ asked tid server way.number (new.sent n b) + asked tid server way.number (new.kept n b)) (sym at_to)
            (sums _ _ _ _ _ (kept_own server way.number) (sent_met server way.number same)))
          where
            sums : (a b w x y : ℕ) → b ≡ w → x ≡ a + w → a + b ≤ x + y
            sums a b w x y p q = omega (arith, p, q)

    lost_way : from ≡ n → to ≡ m → (world.channels.up m && (world.channels.inc m == j)) ≡ false → NothingIn (c.waits n m) → HasRoom tid old new way
    lost_way at_from at_to gone none = with_room (λ server up. at_pair server (subst (λ (k : ℕ). world.channels.up k ≡ true) at_to up)) (λ server down. zero_least _ _ (kept_none server))
      where
        kept_none : (server : ServerNo) → asked tid server way.number (old.kept from to) ≡ 0
        kept_none server = subst (λ (a : ℕ). asked tid server way.number (old.kept a to) ≡ 0) (sym at_from) (subst (λ (b : ℕ). asked tid server way.number (old.kept n b) ≡ 0) (sym at_to) (kept_own server way.number ∙ none server way.number))

        at_pair : (server : ServerNo) → world.channels.up m ≡ true → asked tid server way.number (old.sent from to) + asked tid server way.number (old.kept from to) ≤ asked tid server way.number (new.sent from to) + asked tid server way.number (new.kept from to)
        at_pair server up = sums _ _ _ _ (kept_none server) sents
          where
            sums : (a b x y : ℕ) → b ≡ 0 → a ≡ x → a + b ≤ x + y
            sums a b x y p q = omega (arith, p, q)

            sents : asked tid server way.number (old.sent from to) ≡ asked tid server way.number (new.sent from to)
            sents = subst (λ (a : ℕ). asked tid server way.number (old.sent a to) ≡ asked tid server way.number (new.sent a to)) (sym at_from) (subst (λ (b : ℕ). asked tid server way.number (old.sent n b) ≡ asked tid server way.number (new.sent n b)) (sym at_to)
                (sent_past server way.number (and_rest (world.channels.up m) (world.channels.inc m == j) up gone)))

    pub room_then : IsDoomed v ⊎ HasRoom tid old new way
    room_then = by (from == n) (to == m) (to == n) (from == m) refl refl refl refl
      where
        gone : from ≡ n → to ≡ m → (world.channels.up m && (world.channels.inc m == j)) ≡ false → IsDoomed v ⊎ NothingIn (c.waits n m) → IsDoomed v ⊎ HasRoom tid old new way
        gone at_from at_to off (inl doomed) = inl doomed
        gone at_from at_to off (inr none) = inr (lost_way at_from at_to off none)

        own : from ≡ n → to ≡ m → (a b : Bool) → world.channels.up m ≡ a → (world.channels.inc m == j) ≡ b → IsDoomed v ⊎ HasRoom tid old new way
        own at_from at_to true true up same = inr (met_way at_from at_to up same)
        own at_from at_to true false up other = gone at_from at_to (rw (up, other) refl) (none_of (c.waits n m) (lost (rw (up, other) refl)))
        own at_from at_to false b down same = gone at_from at_to (rw down refl) (none_of (c.waits n m) (lost (rw down refl)))

        behind : from ≡ m → to ≡ n → IsDoomed v ⊎ NothingIn (pending_from (λ i. pending c m n i (c.inc n)) 0 j) → IsDoomed v ⊎ HasRoom tid old new way
        behind at_from at_to (inl doomed) = inl doomed
        behind at_from at_to (inr none) = inr (back_way at_from at_to none)

        whole : (a : ℕ) → 0 + a ≤ a
        whole a = omega arith

        by : (a b d e : Bool) → (from == n) ≡ a → (to == m) ≡ b → (to == n) ≡ d → (from == m) ≡ e → IsDoomed v ⊎ HasRoom tid old new way
        by true true d e at_from at_to to_n from_m = own (eqb-true from n at_from) (eqb-true to m at_to) (world.channels.up m) (world.channels.inc m == j) refl refl
        by true false true true at_from at_to to_n from_m = behind (eqb-true from m from_m) (eqb-true to n to_n) (none_before j 0 (whole j))
        by true false true false at_from at_to to_n from_m = inr (other_way (rw (at_from, at_to) refl) (rw (to_n, from_m) refl))
        by true false false e at_from at_to to_n from_m = inr (other_way (rw (at_from, at_to) refl) (rw to_n refl))
        by false b true true at_from at_to to_n from_m = behind (eqb-true from m from_m) (eqb-true to n to_n) (none_before j 0 (whole j))
        by false b true false at_from at_to to_n from_m = inr (other_way (rw at_from refl) (rw (to_n, from_m) refl))
        by false b false e at_from at_to to_n from_m = inr (other_way (rw at_from refl) (rw to_n refl))
