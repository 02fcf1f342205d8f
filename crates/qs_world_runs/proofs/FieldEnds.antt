-- As a step ends each message stands behind what was on its way, or waits where no incarnation is known.
use Rattle.qs_world_runs.proofs.Words.{◌≡◌, ℕ, ◌+◌, ◌-◌, ◌<◌, ◌≤◌, ◌==◌, ◌&&◌, not, Bool, true, false, List, [], ◌∷◌, ◌++◌, length, map, zero, suc, refl, sym, ap, subst, ◌∙◌, arith, if◌then◌else◌, le_refl, eqb-true, and_parts, nat_tests, drop, ServerNo, Tid, Channels, RequestNo, Message, Work, accept, Source, stepped_host, taken_by, post_all, Parcel, World, sent_to, inc_all, parcels, peer_all, up_all, pending, pending_from, Field, asked, field_of, message_of, waiting, field_amid, AreInOrder}
use Rattle.qs_world_runs.proofs.Words.{taken, and_three, eq_le}
use Rattle.qs_world.specs.Moves.{stepped}
use Rattle.qs_world_refine.proofs.Posted.{handed_all, parcels_say, posted_all, waits_all}
use Rattle.qs_world_runs.specs.PlacesAmid.{counted}
use Rattle.qs_world_runs.specs.PlacesEnds.{StepEnds}
use Rattle.qs_world_runs.proofs.FieldBegins.{three_more}
use Rattle.qs_world_runs.proofs.PlacedActs.{open_grown}
use Rattle.qs_world_runs.proofs.PlacedAmid.{kept_amid, sent_amid, waits_amid}
use Rattle.qs_world_runs.proofs.PlacedTx.{Grows, back}
use Rattle.qs_world_runs.proofs.PlacesLeft.{asked_more}

module _ (t : Tid) (world : World) (n stamp : ℕ) (source : Source) (work : Work) (order : AreInOrder (taken_by world n source) n) where
  abbrev c : Channels Parcel
  c = taken_by world n source

  abbrev d : Channels Parcel
  d = post_all n stamp work.out.messages c

  abbrev base : Field
  base = field_of (taken world n source)

  abbrev amid : Field
  amid = field_amid base (c.peer n) n work

  abbrev after : World
  after = stepped world n stamp source (accept work.node) work.out

  module _ (server : ServerNo) (number : ℕ) where
    abbrev ask : List Parcel → ℕ
    ask ps = asked t server number (map message_of ps)

    ask_more : (xs ys : List Parcel) → ask (xs ++ ys) ≡ ask xs + ask ys
    ask_more xs ys = ap (asked t server number) (mapped xs ys) ∙ asked_more t server number (map message_of xs) (map message_of ys)
      where
        mapped : (xs ys : List Parcel) → map message_of (xs ++ ys) ≡ map message_of xs ++ map message_of ys
        mapped [] ys = refl
        mapped (x ∷ xs) ys = ap (λ (rest : List Message). x.message ∷ rest) (mapped xs ys)

    -- at one of those incarnations there is so much more
    from_more : (f g : ℕ → List Parcel) (k x : ℕ) → ((i : ℕ) → ask (f i) ≤ ask (g i)) → ask (f k) + x ≤ ask (g k) → (i more : ℕ) → i ≤ k → k < i + more → ask (pending_from f i more) + x ≤ ask (pending_from g i more)
    from_more f g k x each one i zero low high = absurd (none i k low high)
      where
        none : (i k : ℕ) → i ≤ k → k < i + 0 → ⊥
        none i k p q = omega (arith, p, q)
    from_more f g k x each one i (suc more) low high = by (i == k) refl (from_more f g k x each one (suc i) more)
      where
        rest : (i more : ℕ) → ask (pending_from f i more) ≤ ask (pending_from g i more)
        rest i zero = le_refl 0
        rest i (suc more) = sums (ask (f i ++ pending_from f (suc i) more)) (ask (g i ++ pending_from g (suc i) more)) (ask (f i)) (ask (pending_from f (suc i) more)) (ask (g i)) (ask (pending_from g (suc i) more))
            (ask_more (f i) (pending_from f (suc i) more)) (ask_more (g i) (pending_from g (suc i) more)) (each i) (rest (suc i) more)
          where
            sums : (a b u v p q : ℕ) → a ≡ u + v → b ≡ p + q → u ≤ p → v ≤ q → a ≤ b
            sums a b u v p q e r x y = omega (arith, e, r, x, y)

        here : (a b u v p q y : ℕ) → a ≡ u + v → b ≡ p + q → u + y ≤ p → v ≤ q → a + y ≤ b
        here a b u v p q y e r m o = omega (arith, e, r, m, o)

        later : (a b u v p q y : ℕ) → a ≡ u + v → b ≡ p + q → u ≤ p → v + y ≤ q → a + y ≤ b
        later a b u v p q y e r m o = omega (arith, e, r, m, o)

        above : (i k : ℕ) → i ≤ k → (i == k) ≡ false → suc i ≤ k
        above i k p q = grind (arith, nat_tests, p, q)

        within : (i k more : ℕ) → k < i + suc more → k < suc i + more
        within i k more p = omega (arith, p)

        by : (b : Bool) → (i == k) ≡ b → (suc i ≤ k → k < suc i + more → ask (pending_from f (suc i) more) + x ≤ ask (pending_from g (suc i) more)) → ask (f i ++ pending_from f (suc i) more) + x ≤ ask (g i ++ pending_from g (suc i) more)
        by true same next = here (ask (f i ++ pending_from f (suc i) more)) (ask (g i ++ pending_from g (suc i) more)) (ask (f i)) (ask (pending_from f (suc i) more)) (ask (g i)) (ask (pending_from g (suc i) more)) x
            (ask_more (f i) (pending_from f (suc i) more)) (ask_more (g i) (pending_from g (suc i) more)) (subst (λ (j : ℕ). ask (f j) + x ≤ ask (g j)) (sym (eqb-true i k same)) one) (rest (suc i) more)
        by false apart next = later (ask (f i ++ pending_from f (suc i) more)) (ask (g i ++ pending_from g (suc i) more)) (ask (f i)) (ask (pending_from f (suc i) more)) (ask (g i)) (ask (pending_from g (suc i) more)) x
            (ask_more (f i) (pending_from f (suc i) more)) (ask_more (g i) (pending_from g (suc i) more)) (each i) (next (above i k low apart) (within i k more high))

    -- ---- one channel

    abbrev test : ℕ → ℕ → ℕ → ℕ → Bool
    test p q i j = (p == n) && ((i == c.inc n) && ((j == c.peer n q) && not (j == 0)))

    drop_more : (k : ℕ) (xs ys : List Parcel) → k ≤ length xs → drop k (xs ++ ys) ≡ drop k xs ++ ys
    drop_more zero xs ys low = refl
    drop_more (suc k) [] ys low = absurd (none k low)
      where
        none : (k : ℕ) → suc k ≤ 0 → ⊥
        none k p = omega (arith, p)
    drop_more (suc k) (x ∷ xs) ys low = drop_more k xs ys (less k (length xs) low)
      where
        less : (k l : ℕ) → suc k ≤ suc l → k ≤ l
        less k l p = omega (arith, p)

    pending_is : (p q i j : ℕ) → pending d p q i j ≡ (if test p q i j then pending c p q i j ++ parcels n stamp q work.out.messages else pending c p q i j)
    pending_is p q i j = ap (λ (h : ℕ → ℕ → ℕ → ℕ → List Parcel). drop (length (h p q i j)) (d.posted p q i j)) (handed_all n stamp work.out.messages c)
        ∙ (ap (λ (xs : List Parcel). drop (length (c.handed p q i j)) xs) (posted_all n stamp work.out.messages c p q i j) ∙ by (test p q i j))
      where
        by : (b : Bool) → drop (length (c.handed p q i j)) (if b then c.posted p q i j ++ parcels n stamp q work.out.messages else c.posted p q i j) ≡ (if b then pending c p q i j ++ parcels n stamp q work.out.messages else pending c p q i j)
        by true = drop_more (length (c.handed p q i j)) (c.posted p q i j) (parcels n stamp q work.out.messages) (order.handed p q i j)
        by false = refl

    as_many : (p q i j : ℕ) → ask (pending c p q i j) ≤ ask (pending d p q i j)
    as_many p q i j = subst (λ (ps : List Parcel). ask (pending c p q i j) ≤ ask ps) (sym (pending_is p q i j)) (by (test p q i j))
      where
        up : (a b k : ℕ) → b ≡ a + k → a ≤ b
        up a b k e = omega (arith, e)

        by : (b : Bool) → ask (pending c p q i j) ≤ ask (if b then pending c p q i j ++ parcels n stamp q work.out.messages else pending c p q i j)
        by true = up (ask (pending c p q i j)) (ask (pending c p q i j ++ parcels n stamp q work.out.messages)) (ask (parcels n stamp q work.out.messages)) (ask_more (pending c p q i j) (parcels n stamp q work.out.messages))
        by false = le_refl (ask (pending c p q i j))

    -- what was sent stands behind it
    and_more : (p q i j : ℕ) → test p q i j ≡ true → ask (pending c p q i j) + asked t server number (sent_to q work.out.messages) ≤ ask (pending d p q i j)
    and_more p q i j so = subst (λ (ps : List Parcel). ask (pending c p q i j) + asked t server number (sent_to q work.out.messages) ≤ ask ps) (sym (pending_is p q i j ∙ picked (test p q i j) so))
        (least (ask (pending c p q i j ++ parcels n stamp q work.out.messages)) (ask (pending c p q i j)) (ask (parcels n stamp q work.out.messages)) (asked t server number (sent_to q work.out.messages)) (ask_more (pending c p q i j) (parcels n stamp q work.out.messages)) (ap (asked t server number) (parcels_say n stamp q work.out.messages)))
      where
        picked : (b : Bool) → b ≡ true → (if b then pending c p q i j ++ parcels n stamp q work.out.messages else pending c p q i j) ≡ pending c p q i j ++ parcels n stamp q work.out.messages
        picked true e = refl
        picked false e = absurd (cc e)

        least : (a b k l : ℕ) → a ≡ b + k → k ≡ l → b + l ≤ a
        least a b k l e r = omega (arith, e, r)

    -- ---- all that is on its way

    abbrev goes : ℕ → ℕ → Bool
    goes p q = (p == n) && ((c.peer n q == c.inc q) && not (c.peer n q == 0))

    between : (p q : ℕ) → ask (pending_from (λ i. pending c p q i (c.inc q)) (c.peer q p) ((c.inc p + 1) - c.peer q p)) + (if goes p q then asked t server number (sent_to q work.out.messages) else 0)
        ≤ ask (pending_from (λ i. pending d p q i (c.inc q)) (c.peer q p) ((c.inc p + 1) - c.peer q p))
    between p q = by (goes p q) refl
      where
        f : ℕ → List Parcel
        f i = pending c p q i (c.inc q)

        g : ℕ → List Parcel
        g i = pending d p q i (c.inc q)

        all_more : (i more : ℕ) → ask (pending_from f i more) ≤ ask (pending_from g i more)
        all_more i zero = le_refl 0
        all_more i (suc more) = sums (ask (f i ++ pending_from f (suc i) more)) (ask (g i ++ pending_from g (suc i) more)) (ask (f i)) (ask (pending_from f (suc i) more)) (ask (g i)) (ask (pending_from g (suc i) more))
            (ask_more (f i) (pending_from f (suc i) more)) (ask_more (g i) (pending_from g (suc i) more)) (as_many p q i (c.inc q)) (all_more (suc i) more)
          where
            sums : (a b u v x y : ℕ) → a ≡ u + v → b ≡ x + y → u ≤ x → v ≤ y → a ≤ b
            sums a b u v x y e r m o = omega (arith, e, r, m, o)

        plus_none : (a b : ℕ) → a ≤ b → a + 0 ≤ b
        plus_none a b e = omega (arith, e)

        tests : (a : Bool) (k l j : ℕ) → (a && ((k == l) && not (k == 0))) ≡ true → (a && ((j == j) && ((l == k) && not (l == 0)))) ≡ true
        tests true k l j so = let same : k ≡ l = eqb-true k l (and_parts (k == l) (not (k == 0)) so).0 in let some : not (k == 0) ≡ true = (and_parts (k == l) (not (k == 0)) so).1 in
            subst (λ (x : ℕ). ((j == j) && ((x == k) && not (x == 0))) ≡ true) same (and_three (j == j) (k == k) (not (k == 0)) (grind (arith, nat_tests)) (grind (arith, nat_tests)) some)
        tests false k l j so = absurd (cc so)

        within : (a b : ℕ) → a ≤ b → b < a + ((b + 1) - a)
        within a b low = omega (arith, low)

        by : (b : Bool) → goes p q ≡ b → ask (pending_from f (c.peer q p) ((c.inc p + 1) - c.peer q p)) + (if b then asked t server number (sent_to q work.out.messages) else 0) ≤ ask (pending_from g (c.peer q p) ((c.inc p + 1) - c.peer q p))
        by false so = plus_none (ask (pending_from f (c.peer q p) ((c.inc p + 1) - c.peer q p))) (ask (pending_from g (c.peer q p) ((c.inc p + 1) - c.peer q p))) (all_more (c.peer q p) ((c.inc p + 1) - c.peer q p))
        by true so = let at_n : p ≡ n = eqb-true p n (and_parts (p == n) ((c.peer n q == c.inc q) && not (c.peer n q == 0)) so).0 in
            let low : c.peer q p ≤ c.inc p = subst (λ (k : ℕ). c.peer q k ≤ c.inc k) (sym at_n) (order.known q) in
            from_more f g (c.inc p) (asked t server number (sent_to q work.out.messages)) (λ i. as_many p q i (c.inc q))
            (and_more p q (c.inc p) (c.inc q) (subst (λ (k : ℕ). (k == n) && ((c.inc k == c.inc n) && ((c.inc q == c.peer n q) && not (c.inc q == 0))) ≡ true) (sym at_n) (tests (n == n) (c.peer n q) (c.inc q) (c.inc n) (subst (λ (k : ℕ). ((k == n) && ((c.peer n q == c.inc q) && not (c.peer n q == 0))) ≡ true) at_n so))))
            (c.peer q p) ((c.inc p + 1) - c.peer q p) low (within (c.peer q p) (c.inc p) low)

    abbrev sent_least : ℕ → ℕ → ℕ
    sent_least p q = asked t server number (base.sent p q) + (if goes p q then asked t server number (sent_to q work.out.messages) else 0)

    sent_then : (p q : ℕ) → sent_least p q ≤ asked t server number ((field_of after).sent p q)
    sent_then p q = subst (λ (peer : ℕ → ℕ → ℕ). sent_least p q ≤ ask (pending_from (λ i. pending d p q i (d.inc q)) (peer q p) ((d.inc p + 1) - peer q p))) (sym (peer_all n stamp work.out.messages c))
        (subst (λ (inc : ℕ → ℕ). sent_least p q ≤ ask (pending_from (λ i. pending d p q i (inc q)) (c.peer q p) ((inc p + 1) - c.peer q p))) (sym (inc_all n stamp work.out.messages c)) (between p q))

    abbrev kept_least : ℕ → ℕ → ℕ
    kept_least p q = asked t server number (base.kept p q) + (if (p == n) && (c.peer n q == 0) then asked t server number (sent_to q work.out.messages) else 0)

    kept_then : (p q : ℕ) → kept_least p q ≤ asked t server number ((field_of after).kept p q)
    kept_then p q = subst (λ (up : ℕ → Bool). kept_least p q ≤ ask (if up p && (d.peer p q == 0) then d.waits p q else [])) (sym (up_all n stamp work.out.messages c))
        (subst (λ (peer : ℕ → ℕ → ℕ). kept_least p q ≤ ask (if c.up p && (peer p q == 0) then d.waits p q else [])) (sym (peer_all n stamp work.out.messages c))
        (subst (λ (ps : List Parcel). kept_least p q ≤ ask (if c.up p && (c.peer p q == 0) then ps else [])) (sym (waits_all n stamp work.out.messages c p q)) (by (p == n) refl)))
      where
        plus_none : (a : ℕ) → a + 0 ≤ a
        plus_none a = omega arith

        least : (a b k l : ℕ) → a ≡ b + k → k ≡ l → b + l ≤ a
        least a b k l e r = omega (arith, e, r)

        own : (e : Bool) → ask (if e then c.waits p q else []) + (if e then asked t server number (sent_to q work.out.messages) else 0) ≤ ask (if e then (if e then c.waits p q ++ parcels n stamp q work.out.messages else c.waits p q) else [])
        own true = least (ask (c.waits p q ++ parcels n stamp q work.out.messages)) (ask (c.waits p q)) (ask (parcels n stamp q work.out.messages)) (asked t server number (sent_to q work.out.messages)) (ask_more (c.waits p q) (parcels n stamp q work.out.messages)) (ap (asked t server number) (parcels_say n stamp q work.out.messages))
        own false = le_refl 0

        by : (b : Bool) → (p == n) ≡ b → ask (if c.up p && (c.peer p q == 0) then c.waits p q else []) + (if b && (c.peer n q == 0) then asked t server number (sent_to q work.out.messages) else 0)
            ≤ ask (if c.up p && (c.peer p q == 0) then (if b && (c.peer n q == 0) then c.waits p q ++ parcels n stamp q work.out.messages else c.waits p q) else [])
        by false apart = plus_none (ask (if c.up p && (c.peer p q == 0) then c.waits p q else []))
        by true same = let at_n : p ≡ n = eqb-true p n same in
            subst (λ (up : Bool). ask (if up && (c.peer p q == 0) then c.waits p q else []) + (if c.peer n q == 0 then asked t server number (sent_to q work.out.messages) else 0) ≤ ask (if up && (c.peer p q == 0) then (if c.peer n q == 0 then c.waits p q ++ parcels n stamp q work.out.messages else c.waits p q) else []))
            (sym (ap c.up at_n ∙ order.up))
            (subst (λ (e : Bool). ask (if e then c.waits p q else []) + (if c.peer n q == 0 then asked t server number (sent_to q work.out.messages) else 0) ≤ ask (if e then (if c.peer n q == 0 then c.waits p q ++ parcels n stamp q work.out.messages else c.waits p q) else []))
            (ap (λ (k : ℕ). c.peer k q == 0) (sym at_n)) (own (c.peer n q == 0)))

  waits_then : (at : RequestNo) (server : ServerNo) → waiting t amid at server ≤ waiting t (field_of after) at server
  waits_then at server = eq_le (waiting t amid at server) (waiting t (field_of after) at server) (waits_amid t base (c.peer n) n work at server ∙ by (at.link.to.0 == n))
    where
      by : (b : Bool) → (if b then counted t at server work.node else waiting t base at server) ≡ counted t at server (if b then stepped_host stamp (accept work.node) work.out (world.hosts n) else world.hosts at.link.to.0).node
      by true = refl
      by false = refl

  end_grows : Grows t amid (field_of after)
  end_grows = record {
    nodes = record { size = refl; up = λ k. ap (λ (up : ℕ → Bool). up k) (up_all n stamp work.out.messages c); inc = λ k. ap (λ (inc : ℕ → ℕ). inc k) (inc_all n stamp work.out.messages c) };
    room = λ at. record {
      runs = λ up server. three_more (waiting t amid at server) (asked t server at.number (amid.sent at.link.from.0 at.link.to.0)) (back t amid at server) (waiting t (field_of after) at server) (asked t server at.number ((field_of after).sent at.link.from.0 at.link.to.0)) (back t (field_of after) at server)
          (waits_then at server) (subst (λ (k : ℕ). k ≤ asked t server at.number ((field_of after).sent at.link.from.0 at.link.to.0)) (sym (sent_amid t base (c.peer n) n work at server)) (sent_then server at.number at.link.from.0 at.link.to.0)) (kept at server);
      stopped = λ off server. kept at server;
    };
  }
    where
      kept : (at : RequestNo) (server : ServerNo) → back t amid at server ≤ back t (field_of after) at server
      kept at server = subst (λ (k : ℕ). k ≤ back t (field_of after) at server) (sym (kept_amid t base (c.peer n) n work at server)) (kept_then server at.number at.link.from.0 at.link.to.0)

pub step_ends : StepEnds
step_ends t book world n stamp source work order placed tx found = open_grown t (amid t world n stamp source work order) (field_of (after t world n stamp source work order)) (end_grows t world n stamp source work order) tx (placed tx found)
