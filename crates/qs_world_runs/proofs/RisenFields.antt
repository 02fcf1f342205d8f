-- A node restarts: what was on its way to it or kept back for it is so still, it keeps nothing back any more, and its present lives begin.
use Rattle.qs_world_runs.proofs.Words.{◌≡◌, ◌⊎◌, inl, inr, ℕ, ◌+◌, ◌-◌, ◌<◌, ◌≤◌, ◌==◌, ◌&&◌, Bool, true, false, List, [], ◌∷◌, ◌++◌, length, length-append, map, zero, suc, refl, sym, ap, subst, ◌∙◌, arith, if◌then◌else◌, le_refl, eqb-true, nat_tests, ServerNo, Tid, agrees, Life, Part, Request, RequestNo, Recovered, is_asking_for, pending, pending_from, risen_host, Parcel, World, Field, IsPlaced, IsPresent, asked, field_of, kept_between, message_of, sent_between, standing, waiting, le_le}
use Rattle.qs_world_runs.proofs.Words.{is_zero_plus, zero_le}
use Rattle.std.specs.List.{flat_map}
use Rattle.qs_node_step.specs.State.{NodeValue}
use Rattle.qs_world_lawful.specs.Face.{is_numbered, waiting_at}
use Rattle.qs_world.specs.Moves.{risen}
use Rattle.qs_world_runs.proofs.PlacedTx.{IsBare}
use Rattle.qs_base_lemmas.proofs.Tests.{lt_le}

-- ---- counts of what is on its way

module _ (tid : Tid) (server : ServerNo) (number : ℕ) where
  abbrev pub asked_in : List Parcel → ℕ
  asked_in ps = asked tid server number (map message_of ps)

  pub asked_both : (ps qs : List Parcel) → asked_in (ps ++ qs) ≡ asked_in ps + asked_in qs
  asked_both [] qs = is_zero_plus (asked_in qs)
  asked_both (p ∷ ps) qs = length-append (is_asking_for tid server number p.message) (flat_map (is_asking_for tid server number) (map message_of (ps ++ qs)))
      ∙ (ap (λ (k : ℕ). length (is_asking_for tid server number p.message) + k) (asked_both ps qs)
      ∙ (all (length (is_asking_for tid server number p.message)) (asked_in ps) (asked_in qs)
      ∙ ap (λ (k : ℕ). k + asked_in qs) (sym (length-append (is_asking_for tid server number p.message) (flat_map (is_asking_for tid server number) (map message_of ps))))))
    where
      all : (a b c : ℕ) → a + (b + c) ≡ (a + b) + c
      all a b c = omega arith

  -- from more incarnations there is as much at least
  pub asked_more : (at : ℕ → List Parcel) (i a b : ℕ) → a ≤ b → asked_in (pending_from at i a) ≤ asked_in (pending_from at i b)
  asked_more at i zero b less = zero_le (asked_in (pending_from at i b))
  asked_more at i (suc a) zero less = absurd (none a less)
    where
      none : (k : ℕ) → suc k ≤ 0 → ⊥
      none k h = omega (arith, h)
  asked_more at i (suc a) (suc b) less = both (asked_in (at i)) (asked_in (pending_from at (suc i) a)) (asked_in (pending_from at (suc i) b)) _ _ (asked_both (at i) (pending_from at (suc i) a)) (asked_both (at i) (pending_from at (suc i) b)) (asked_more at (suc i) a b (under a b less))
    where
      under : (j k : ℕ) → suc j ≤ suc k → j ≤ k
      under j k h = omega (arith, h)

      both : (x y z p q : ℕ) → p ≡ x + y → q ≡ x + z → y ≤ z → p ≤ q
      both x y z p q e f h = omega (arith, e, f, h)

module _ (tid : Tid) (world : World) (n stamp inc : ℕ) (found : Recovered) (n_in : n < world.size) (off : world.channels.up n ≡ false) (later : world.channels.inc n < inc) where
  abbrev pub after : World
  after = risen world n stamp inc found

  abbrev pub old : Field
  old = field_of world

  abbrev pub new : Field
  new = field_of after

  itself : (n == n) ≡ true
  itself = grind (arith, nat_tests)

  pub up_now : new.up n ≡ true
  up_now = picked (n == n) itself
    where
      picked : (b : Bool) → b ≡ true → (if b then true else world.channels.up n) ≡ true
      picked b so = rw so refl

  pub inc_now : inc ≡ new.inc n
  inc_now = picked (n == n) itself
    where
      picked : (b : Bool) → b ≡ true → inc ≡ (if b then inc else world.channels.inc n)
      picked b so = rw so refl

  up_is : (k : ℕ) → (k == n) ≡ false → new.up k ≡ old.up k
  up_is k apart = picked (k == n) apart
    where
      picked : (b : Bool) → b ≡ false → (if b then true else world.channels.up k) ≡ world.channels.up k
      picked b so = rw so refl

  inc_is : (k : ℕ) → (k == n) ≡ false → new.inc k ≡ old.inc k
  inc_is k apart = picked (k == n) apart
    where
      picked : (b : Bool) → b ≡ false → (if b then inc else world.channels.inc k) ≡ world.channels.inc k
      picked b so = rw so refl

  inc_grows : (k : ℕ) → world.channels.inc k ≤ after.channels.inc k
  inc_grows k = picked (k == n) refl
    where
      picked : (b : Bool) → (k == n) ≡ b → world.channels.inc k ≤ (if b then inc else world.channels.inc k)
      picked true is = lt_le (world.channels.inc k) inc (subst (λ (j : ℕ). world.channels.inc j < inc) (sym (eqb-true k n is)) later)
      picked false is = le_refl (world.channels.inc k)

  peer_is : (k m : ℕ) → (k == n) ≡ false → after.channels.peer k m ≡ world.channels.peer k m
  peer_is k m apart = picked (k == n) apart
    where
      picked : (b : Bool) → b ≡ false → (if b then (λ (j : ℕ). 0) else world.channels.peer k) m ≡ world.channels.peer k m
      picked b so = rw so refl

  node_is : (k : ℕ) → (k == n) ≡ false → new.node k ≡ old.node k
  node_is k apart = picked (k == n) apart
    where
      picked : (b : Bool) → b ≡ false → (if b then risen_host stamp inc found (world.hosts n) else world.hosts k).node ≡ (world.hosts k).node
      picked b so = rw so refl

  module _ (server : ServerNo) (number : ℕ) where
    least : (a b : ℕ) → a ≡ 0 → a ≤ b
    least a b none = omega (arith, none)

    itself_least : (a b : ℕ) → a ≡ b → a ≤ b
    itself_least a b same = omega (arith, same)

    -- what is kept back
    kept_on : (k m : ℕ) → asked tid server number (old.kept k m) ≤ asked tid server number (new.kept k m)
    kept_on k m = by (k == n) refl
      where
        lost : (b : Bool) → b ≡ false → asked tid server number (map message_of (kept_between world b n m)) ≡ 0
        lost b so = rw so refl

        by : (b : Bool) → (k == n) ≡ b → asked tid server number (old.kept k m) ≤ asked tid server number (new.kept k m)
        by true near = least (asked tid server number (old.kept k m)) (asked tid server number (new.kept k m)) (subst (λ (j : ℕ). asked tid server number (old.kept j m) ≡ 0) (sym (eqb-true k n near)) (lost (world.channels.up n) off))
        by false far = itself_least _ _ (picked (k == n) far)
          where
            picked : (b : Bool) → b ≡ false → asked tid server number (map message_of (if world.channels.up k && (world.channels.peer k m == 0) then world.channels.waits k m else []))
                ≡ asked tid server number (map message_of (if (if b then true else world.channels.up k) && ((if b then (λ (j : ℕ). 0) else world.channels.peer k) m == 0) then (if b then (λ (j : ℕ). []) else world.channels.waits k) m else []))
            picked b so = rw so refl

    -- what is on its way to another
    sent_on : (k m : ℕ) → (m == n) ≡ false → asked tid server number (old.sent k m) ≤ asked tid server number (new.sent k m)
    sent_on k m apart = subst (λ (j : ℕ). asked_in tid server number (sent_between world k m) ≤ asked_in tid server number (pending_from (λ i. pending world.channels k m i j) (after.channels.peer m k) ((after.channels.inc k + 1) - after.channels.peer m k))) (sym (inc_is m apart))
        (subst (λ (p : ℕ). asked_in tid server number (sent_between world k m) ≤ asked_in tid server number (pending_from (λ i. pending world.channels k m i (world.channels.inc m)) p ((after.channels.inc k + 1) - p))) (sym (peer_is m k apart))
        (asked_more tid server number (λ i. pending world.channels k m i (world.channels.inc m)) (world.channels.peer m k) ((world.channels.inc k + 1) - world.channels.peer m k) ((after.channels.inc k + 1) - world.channels.peer m k)
        (wider (world.channels.inc k) (after.channels.inc k) (world.channels.peer m k) (inc_grows k))))
      where
        wider : (a b c : ℕ) → a ≤ b → (a + 1) - c ≤ (b + 1) - c
        wider a b c h = omega (arith, h)

  -- ---- requests and lives

  pub request_on : (at : RequestNo) (requests : List Request) → IsPlaced tid old at requests → IsPlaced tid new at requests
  request_on at requests placed = record {
    from_in = placed.from_in;
    to_in = placed.to_in;
    there = placed.there;
    runs = λ up server. runs server (to == n) refl up;
    stopped = λ down server. stopped server (to == n) refl down;
  }
    where
      from : ℕ
      from = at.link.from.0

      to : ℕ
      to = at.link.to.0

      runs : (server : ServerNo) (b : Bool) → (to == n) ≡ b → new.up to ≡ true → standing at server requests ≤ waiting tid new at server + (asked tid server at.number (new.sent from to) + asked tid server at.number (new.kept from to))
      runs server true near up = last (standing at server requests) (asked tid server at.number (old.kept from to)) (asked tid server at.number (new.kept from to)) (waiting tid new at server) (asked tid server at.number (new.sent from to))
          (placed.stopped (subst (λ (k : ℕ). world.channels.up k ≡ false) (sym (eqb-true to n near)) off) server) (kept_on server at.number from to)
        where
          last : (a b c d e : ℕ) → a ≤ b → b ≤ c → a ≤ d + (e + c)
          last a b c d e p q = omega (arith, p, q)
      runs server false far up = more (standing at server requests) (waiting tid old at server) (waiting tid new at server) (asked tid server at.number (old.sent from to)) (asked tid server at.number (new.sent from to)) (asked tid server at.number (old.kept from to)) (asked tid server at.number (new.kept from to))
          (placed.runs (sym (up_is to far) ∙ up) server) (ap (λ (node : NodeValue). length (Rattle.std.specs.List.filter (is_numbered at) (waiting_at node tid server))) (node_is to far)) (sent_on server at.number from to far) (kept_on server at.number from to)
        where
          more : (a b c d e f g : ℕ) → a ≤ b + (d + f) → c ≡ b → d ≤ e → f ≤ g → a ≤ c + (e + g)
          more a b c d e f g p q r s = omega (arith, p, q, r, s)

      stopped : (server : ServerNo) (b : Bool) → (to == n) ≡ b → new.up to ≡ false → standing at server requests ≤ asked tid server at.number (new.kept from to)
      stopped server true near down = absurd (let up : new.up to ≡ true = subst (λ (k : ℕ). new.up k ≡ true) (sym (eqb-true to n near)) up_now in cc (up, down))
      stopped server false far down = le_le (standing at server requests) (asked tid server at.number (old.kept from to)) (asked tid server at.number (new.kept from to)) (placed.stopped (sym (up_is to far) ∙ down) server) (kept_on server at.number from to)

  pub life_on : (l : Life) (part : Part) → IsBare old l part → IsBare new l part
  life_on l part its = record { member = its.member; cast = its.cast; made = its.made; lives = by its.lives }
    where
      over : (b : Bool) → (l.member.node.0 == n) ≡ b → IsPresent old l → IsPresent new l
      over true near present = absurd (let on : world.channels.up n ≡ true = subst (λ (k : ℕ). world.channels.up k ≡ true) (eqb-true l.member.node.0 n near) present.up in cc (on, off))
      over false far present = record { in_run = present.in_run; up = up_is l.member.node.0 far ∙ present.up; now = present.now ∙ sym (inc_is l.member.node.0 far) }

      by : IsPresent old l ⊎ (agrees (l, part) ≡ true) → IsPresent new l ⊎ (agrees (l, part) ≡ true)
      by (inl present) = inl (over (l.member.node.0 == n) refl present)
      by (inr agreed) = inr agreed
