-- A node restarts: its new place runs and shows what the node made of its log, and all else stays as it was.
use Rattle.qs_world_refine.proofs.Words.{◌≡◌, ◌≢◌, ℕ, ◌+◌, ◌<◌, ◌≤◌, ◌==◌, ◌&&◌, ◌||◌, Bool, true, false, [], arith, refl, sym, ◌∙◌, subst, ap, if◌then◌else◌, eqb-true, nat_tests, Tid, Open, Counts, place, known_place, Face, ShowsFace, link, IsLink, IsEmpty, waiting_link, sight_risen_as, IsRisenFace, Sight, ShowsSight, eqb-self}
use Rattle.qs_world_agree.specs.World.{World, Outcome}
use Rattle.qs_world_refine.specs.Links.{is_aborted}
use Rattle.qs_world_refine.specs.RiseLaws.{MayRise}
use Rattle.qs_world_refine.proofs.Same.{same_place}
use Rattle.qs_world_refine.proofs.Streams.{Stays, still}
use Rattle.qs_world_refine.proofs.Still.{log_still}
use Rattle.qs_world_refine.proofs.Fresh.{Fresh}
use Rattle.qs_world_refine.proofs.Unborn.{Blank}
use Rattle.qs_base_lemmas.proofs.Tests.{le_zero}

-- a place that no restart has taken yet: nothing was put for it or by it, and it knows nobody
pub record IsUnborn (w : World) (q : ℕ) : Type 0 where
  pub later : w.present (w.node q) < q
  pub blank : Blank w q
  pub counts : Counts w
  pub fresh : (a b : ℕ) → Fresh w a b
  pub stranger : (m : ℕ) → w.peer q m ≡ 0

module _ (q : ℕ) (w : World) (present : ℕ → ℕ) (up involved : ℕ → Bool) (outcome : ℕ → Outcome) (acknowledged : ℕ → Bool) (cell : Outcome) (learnt : ℕ → Bool) where
  -- what a restart of the place makes of the machine's world
  abbrev pub risen_world : World
  risen_world = record w { present = present; up = up; involved = involved; outcome = outcome; acknowledged = acknowledged; cell = cell; learnt_abort = learnt }

  -- it runs, and changes no other place
  pub record Rises : Type 0 where
    pub present_here : present (w.node q) ≡ q
    pub present_other : (m : ℕ) → m ≢ w.node q → present m ≡ w.present m
    pub up_here : up q ≡ true
    pub up_other : (k : ℕ) → k ≢ q → up k ≡ w.up k
    pub involved_other : (k : ℕ) → k ≢ q → involved k ≡ w.involved k
    pub outcome_other : (k : ℕ) → k ≢ q → outcome k ≡ w.outcome k
    pub aborted : is_aborted w ≡ true → is_aborted risen_world ≡ true

  module _ (r : Rises) where
    other_shown : (k : ℕ) (f : Face) → k ≢ q → ShowsFace f k w → ShowsFace f k risen_world
    other_shown k f other i = record {
      up = r.up_other k other ∙ i.up;
      outcome = r.outcome_other k other ∙ i.outcome;
      engaged = i.engaged;
      superior = i.superior;
      last = i.last;
      last_new = i.last_new;
      sent = i.sent;
      told_in = i.told_in;
      tell = i.tell;
      running = λ is. record {
        covered = (i.running is).covered;
        asked = (i.running is).asked;
        refused = (i.running is).refused;
        gone = (i.running is).gone;
        abort_vote = (i.running is).abort_vote;
        waits = (i.running is).waits;
        uncast = (i.running is).uncast;
        loans = (i.running is).loans;
        involved = r.involved_other k other ∙ (i.running is).involved;
        told = (i.running is).told;
      };
    }

    stays : (a b : ℕ) → a ≢ q → Stays (link w a b) (link risen_world a b)
    stays a b other = record {
      carries = record { live = λ is. sym (r.up_other a other) ∙ is; received = refl; taken = refl; to_home = refl; inquiry_taken = refl; server = λ n _. refl; closer = λ n _. refl; closer_set = λ n m _. refl; tell_commit = λ is. is; tell_abort = λ is. is; ack_put = λ is. is; aborted = r.aborted; named = λ n is. is };
      posted = refl;
      closers = refl;
      inquiry_put = λ _. refl;
    }

    waiting_stays : (a m : ℕ) → a ≢ q → Stays (waiting_link w a m) (waiting_link risen_world a m)
    waiting_stays a m other = record {
      carries = record { live = λ is. sym (r.up_other a other) ∙ is; received = refl; taken = refl; to_home = refl; inquiry_taken = refl; server = λ n _. refl; closer = λ n _. refl; closer_set = λ n m _. refl; tell_commit = λ is. is; tell_abort = λ is. is; ack_put = λ is. is; aborted = r.aborted; named = λ n is. is };
      posted = refl;
      closers = refl;
      inquiry_put = λ _. refl;
    }

    module _ (u : IsUnborn w q) where
      zero_is : (a b : ℕ) → a ≤ b → b ≡ 0 → a ≡ b
      zero_is a b c d = omega (arith, c, d)

      unknown_to_all : (p : ℕ) → w.peer p (w.node q) < q
      unknown_to_all p = below (w.peer p (w.node q)) (w.present (w.node q)) (u.counts.peer_present p (w.node q)) u.later
        where
          below : (a b : ℕ) → a ≤ b → b < q → a < q
          below a b c d = omega (arith, c, d)

      empty : (p m : ℕ) → w.peer p (w.node m) < m → w.posted p m ≡ 0 → IsEmpty (link risen_world p m)
      empty p m late none = record {
        requests = u.counts.received_posted m p;
        closers = (u.fresh p m).taken;
        inquiries = λ _. (u.fresh p m).inquiry_taken;
        all_requests = λ _. zero_is (w.received m p) (w.posted p m) (u.counts.received_posted m p) none;
        all_closers = λ _. zero_is (w.closers_taken m p) (w.closers p m) (u.fresh p m).taken ((u.fresh p m).none late);
        all_inquiries = λ _ _. zero_is (w.inquiry_taken m p) (w.inquiry_put p m) (u.fresh p m).inquiry_taken ((u.fresh p m).inquiry_none late);
      }

      -- nothing is on its way to it, or from it, and nothing waits
      to_new : (p : ℕ) → IsEmpty (link risen_world p q)
      to_new p = empty p q (unknown_to_all p) (u.counts.posted_known p q (unknown_to_all p))

      from_new : (m : ℕ) → 1 ≤ m → IsEmpty (link risen_world q m)
      from_new m some = empty q m (zero_below (w.peer q (w.node m)) (u.stranger (w.node m))) (le_zero (w.posted q m) (w.sent q (w.node m)) (u.counts.posted_sent q m) (u.blank.sent (w.node m)))
        where
          zero_below : (a : ℕ) → a ≡ 0 → a < m
          zero_below a e = omega (arith, e, some)

      waiting_new : (m : ℕ) → IsEmpty (waiting_link risen_world q m)
      waiting_new m = record {
        requests = grind (arith);
        closers = grind (arith);
        inquiries = λ _. grind (arith);
        all_requests = λ _. sym (u.blank.sent m);
        all_closers = λ _. refl;
        all_inquiries = λ _ _. sym u.blank.inquiries;
      }

      -- it shows what the node made of its log
      pub new_shown : (tid : Tid) (n : ℕ) (said : Rattle.qs_restart.specs.Recovery.Recovery) (f : Face) → IsRisenFace tid n said f → outcome q ≡ f.outcome → (f.outcome ≡ Open → involved q ≡ f.involved) → ShowsFace f q risen_world
      new_shown tid n said f is knows drawn = record {
        up = r.up_here;
        outcome = knows;
        engaged = u.blank.engaged ∙ sym is.on;
        superior = λ on _. absurd (cc (on, is.on));
        last = λ on _. absurd (cc (on, is.on));
        last_new = λ p _. u.blank.last p;
        sent = λ _ m. u.blank.sent m ∙ sym (is.sent m);
        told_in = λ m has. absurd (cc (has, is.told m));
        tell = λ aborted m has. absurd (cc (has, is.tell aborted m));
        running = λ open_is. record {
          covered = λ m. u.blank.covered m ∙ sym (is.covered m);
          asked = u.blank.asked ∙ sym is.asked;
          refused = λ _. u.blank.refused;
          gone = λ _. u.blank.gone;
          abort_vote = λ _. u.blank.abort_vote;
          waits = λ s. none (w.arrived q s) (w.served q s) (f.waits s) (u.blank.arrived s) (u.blank.served s) (is.waits s);
          uncast = λ s _. none (w.served q s) (w.voted q s) (f.uncast s) (u.blank.served s) (u.blank.voted s) (is.uncast s);
          loans = u.blank.loans ∙ sym is.loans;
          involved = drawn open_is;
          told = λ m. u.blank.told m ∙ sym (is.told m);
        };
      }
        where
          none : (a b c : ℕ) → a ≡ 0 → b ≡ 0 → c ≡ 0 → a ≡ b + c
          none a b c d e g = omega (arith, d, e, g)

-- the whole sight
module _ (tid : Tid) (x : Sight) (w : World) (n new : ℕ) (shown : ShowsSight tid x w) (may : MayRise x n new)
    (present : ℕ → ℕ) (up involved : ℕ → Bool) (outcome : ℕ → Outcome) (acknowledged : ℕ → Bool) (cell : Outcome) (learnt : ℕ → Bool)
    (r : Rises (place n new) w present up involved outcome acknowledged cell learnt) (u : IsUnborn w (place n new)) where
  abbrev q : ℕ
  q = place n new

  abbrev v : World
  v = risen_world q w present up involved outcome acknowledged cell learnt

  apart : (a k : ℕ) → a < x.size → (a ≡ n → k ≡ new → ⊥) → place a k ≢ q
  apart a k a_in differ e = let same = same_place a n k new (omega (arith, a_in, shown.stage.small)) (omega (arith, may.in_run, shown.stage.small)) e in differ same.0 same.1

  other_node : (k i : ℕ) → k < x.size → k ≢ n → place k i ≢ q
  other_node k i k_in other = apart k i k_in (λ is _. other is)

  not_n : (k : ℕ) → (k == n) ≡ false → k ≢ n
  not_n k e is = grind (arith, nat_tests, e, is)

  node_q : w.node q ≡ n
  node_q = shown.stage.nodes n new may.in_run

  links_after : (a k b l : ℕ) → a < x.size → b < x.size → (if b == n then true else x.up b) ≡ true → l ≡ (if b == n then new else x.inc b) → IsLink (link v (place a k) (place b l)) (if ((a == n) && (k == new)) || ((b == n) && (l == new)) then [] else x.said a k b l)
  links_after a k b l a_in b_in b_up now = by (a == n) (k == new) (b == n) refl refl refl b_up now
    where
      old : (a ≡ n → k ≡ new → ⊥) → b ≢ n → x.up b ≡ true → l ≡ x.inc b → IsLink (link v (place a k) (place b l)) (x.said a k b l)
      old differ other b_up now = still (x.said a k b l) (link w (place a k) (place b l)) (link v (place a k) (place b l)) (stays q w present up involved outcome acknowledged cell learnt r (place a k) (place b l) (apart a k a_in differ)) (shown.links a k b l a_in b_in b_up now)

      pick : (t : Bool) → (t || (true && (l == new))) ≡ true → IsLink (link v (place a k) (place b l)) [] → IsLink (link v (place a k) (place b l)) (if t || (true && (l == new)) then [] else x.said a k b l)
      pick t e i = rw e i

      right : (t u : Bool) → u ≡ true → (t || (true && u)) ≡ true
      right true u e = refl
      right false u e = e

      some : (i : ℕ) → 1 ≤ i → 1 ≤ place b i
      some i is = omega (arith, is)

      by : (c d e : Bool) → (a == n) ≡ c → (k == new) ≡ d → (b == n) ≡ e → (if e then true else x.up b) ≡ true → l ≡ (if e then new else x.inc b) → IsLink (link v (place a k) (place b l)) (if (c && d) || (e && (l == new)) then [] else x.said a k b l)
      by c d true ec ed ee b_up now =
          let is_b : b ≡ n = eqb-true b n ee in
          let hit : (l == new) ≡ true = subst (λ (z : ℕ). (z == new) ≡ true) (sym now) (eqb-self new) in
          pick (c && d) (right (c && d) (l == new) hit) (rw (is_b, now) (to_new q w present up involved outcome acknowledged cell learnt r u (place a k)))
      by true true false ec ed ee b_up now = rw (eqb-true a n ec, eqb-true k new ed) (from_new q w present up involved outcome acknowledged cell learnt r u (place b l) (some l (rw now (may.begun b b_in))))
      by true false false ec ed ee b_up now = old (λ _ is. grind (arith, nat_tests, ed, is)) (not_n b ee) b_up now
      by false d false ec ed ee b_up now = old (λ is _. grind (arith, nat_tests, ec, is)) (not_n b ee) b_up now

  pub after : (f : Face) → ShowsFace f q v → ShowsSight tid (sight_risen_as x n new f) v
  after f here = record {
    stage = record {
      small = shown.stage.small;
      numbered = shown.stage.numbered;
      home = shown.stage.home;
      nodes = shown.stage.nodes;
      classes = shown.stage.classes;
      present = λ k k_in. present_now k k_in (k == n) refl;
      up = λ k i k_in. up_now k i k_in (k == n) refl;
      peers = λ k m k_in m_in k_up. peers_now k m k_in m_in (k == n) refl k_up;
    };
    faces = λ k k_in k_up. face_now k k_in (k == n) refl k_up;
    links = links_after;
    unmet = λ a b a_in b_in a_up none. unmet_now a b a_in b_in (a == n) refl a_up none;
    logs = λ k k_in. log_still tid k (x.found k) w v (record { prepared = refl; commit_logged = refl; unended = refl; commit_list = refl }) (shown.logs k k_in);
  }
    where
      present_now : (k : ℕ) → k < x.size → (b : Bool) → (k == n) ≡ b → v.present k ≡ place k (if b then new else x.inc k)
      present_now k k_in true e = let is : k ≡ n = eqb-true k n e in rw is (subst (λ (m : ℕ). present m ≡ q) node_q r.present_here)
      present_now k k_in false e = r.present_other k (λ is. not_n k e (is ∙ node_q)) ∙ shown.stage.present k k_in

      up_now : (k i : ℕ) → k < x.size → (b : Bool) → (k == n) ≡ b → v.up (place k i) ≡ ((if b then true else x.up k) && (i == (if b then new else x.inc k)))
      up_now k i k_in true e = let is : k ≡ n = eqb-true k n e in rw is (by (i == new) refl)
        where
          by : (c : Bool) → (i == new) ≡ c → up (place n i) ≡ c
          by true ec = rw (eqb-true i new ec) r.up_here
          by false ec = r.up_other (place n i) (apart n i may.in_run (λ _ is. grind (arith, nat_tests, ec, is))) ∙ (shown.stage.up n i may.in_run ∙ ap (λ (b : Bool). b && (i == x.inc n)) may.down)
      up_now k i k_in false e = r.up_other (place k i) (other_node k i k_in (not_n k e)) ∙ shown.stage.up k i k_in

      peers_now : (k m : ℕ) → k < x.size → m < x.size → (b : Bool) → (k == n) ≡ b → (if b then true else x.up k) ≡ true → w.peer (place k (if b then new else x.inc k)) m ≡ known_place m (if b then 0 else x.knows k m)
      peers_now k m k_in m_in true e k_up = let is : k ≡ n = eqb-true k n e in rw is (u.stranger m)
      peers_now k m k_in m_in false e k_up = shown.stage.peers k m k_in m_in k_up

      face_now : (k : ℕ) → k < x.size → (b : Bool) → (k == n) ≡ b → (if b then true else x.up k) ≡ true → ShowsFace (if b then f else x.face k) (place k (if b then new else x.inc k)) v
      face_now k k_in true e k_up = let is : k ≡ n = eqb-true k n e in rw is here
      face_now k k_in false e k_up = other_shown q w present up involved outcome acknowledged cell learnt r (place k (x.inc k)) (x.face k) (other_node k (x.inc k) k_in (not_n k e)) (shown.faces k k_in k_up)

      unmet_now : (a b : ℕ) → a < x.size → b < x.size → (c : Bool) → (a == n) ≡ c → (if c then true else x.up a) ≡ true → (if c then 0 else x.knows a b) ≡ 0 → IsLink (waiting_link v (place a (if c then new else x.inc a)) b) (if c then [] else x.unmet a b)
      unmet_now a b a_in b_in true e a_up none = let is : a ≡ n = eqb-true a n e in rw is (waiting_new q w present up involved outcome acknowledged cell learnt r u b)
      unmet_now a b a_in b_in false e a_up none = still (x.unmet a b) (waiting_link w (place a (x.inc a)) b) (waiting_link v (place a (x.inc a)) b) (waiting_stays q w present up involved outcome acknowledged cell learnt r (place a (x.inc a)) b (other_node a (x.inc a) a_in (not_n a e))) (shown.unmet a b a_in b_in a_up none)
