-- A node gets to know a first incarnation of another one, and what waited is put for it: Meet.
use Rattle.qs_world_refine.proofs.Words.{◌≡◌, ◌≢◌, ℕ, ◌+◌, ◌<◌, ◌≤◌, ◌==◌, ◌&&◌, Bool, true, false, List, [], ◌∷◌, arith, refl, sym, ◌∙◌, ap, if◌then◌else◌, eqb-true, nat_tests, IsLawful, Tid, Face, ShowsFace, ShowsOpen, Said, Requested, Closed, Outcome_told, Taken_in, Inquired, Link, link, waiting_link, IsLink, met_at, place, known_place, Runs, Sight, ShowsSight}
use Rattle.qs_world_agree.specs.World.{World, with_at2}
use Rattle.qs_world_agree.specs.Step.{Step, Meet}
use Rattle.qs_world_refine.specs.MeetingLaws.{MeetGoes}
use Rattle.qs_world_refine.proofs.Around.{links_around, known_is, place_some}
use Rattle.qs_world_refine.proofs.Facts.{invariant}
use Rattle.qs_world_refine.proofs.FreshRuns.{fresh}
use Rattle.qs_world_refine.proofs.Same.{same_place}
use Rattle.qs_world_refine.proofs.Still.{log_still}
use Rattle.qs_world_refine.proofs.Streams.{Stays, still, within}
use Rattle.qs_base_lemmas.proofs.Tests.{le_zero}

abbrev after_meet : ℕ → ℕ → World → World
after_meet p q old = met_at old p q

-- where no Covered and no VotedYes was put, it is of no account which ones might be
unclosed : (saids : List Said) (k : Link) (closer : ℕ → ℕ) (set : ℕ → ℕ → Bool) → k.closers ≤ k.taken → IsLink (record k { closer = closer; closer_set = set }) saids → IsLink k saids
unclosed [] k closer set none is = record { requests = is.requests; closers = is.closers; inquiries = is.inquiries; all_requests = is.all_requests; all_closers = is.all_closers; all_inquiries = is.all_inquiries }
unclosed (Requested number server ∷ rest) k closer set none is = (is.0, is.1, unclosed rest (record k { received = k.received + 1 }) closer set none is.2)
unclosed (Closed number told ∷ rest) k closer set none is = absurd (let more = (within rest (record k { closer = closer; closer_set = set; taken = k.taken + 1 }) is.2).closers in omega (arith, more, none))
unclosed (Outcome_told true ∷ rest) k closer set none is = (is.0, unclosed rest k closer set none is.1)
unclosed (Outcome_told false ∷ rest) k closer set none is = (is.0, unclosed rest k closer set none is.1)
unclosed (Taken_in further ∷ rest) k closer set none is = (is.0, unclosed rest k closer set none is.1)
unclosed (Inquired ∷ rest) k closer set none is = unclosed rest (record k { inquiry_taken = k.inquiry_taken + 1 }) closer set none is

-- nothing went to the place before
record Untouched (p q : ℕ) (w : World) : Type 0 where
  received : w.received q p ≡ 0
  closers : w.closers p q ≡ 0
  taken : w.closers_taken q p ≡ 0
  inquiry_taken : w.inquiry_taken q p ≡ 0
  last : w.last p q ≡ 0

-- what waited is on the link
met_stays : (p q m : ℕ) (w v : World) → Untouched p q w → w.node q ≡ m → Step (Meet p q) w v → Stays (waiting_link w p m) (record (link v p q) { closer = (waiting_link w p m).closer; closer_set = (waiting_link w p m).closer_set })
met_stays p q m w v none node s = record {
  carries = record {
    live = grind (arith, s);
    received = grind (arith, none.received, s);
    taken = grind (arith, none.taken, s);
    to_home = grind (arith, node, s);
    inquiry_taken = grind (arith, none.inquiry_taken, s);
    server = λ k _. grind (arith, node, s);
    closer = λ k _. refl;
    closer_set = λ k j _. refl;
    tell_commit = grind (arith, node, s);
    tell_abort = grind (arith, node, s);
    ack_put = grind (arith, s);
    aborted = grind (arith, s);
    named = grind (arith, s);
  };
  posted = grind (arith, nat_tests, node, s);
  closers = grind (arith, none.closers, s);
  inquiry_put = grind (arith, nat_tests, s);
}

meet_links : (p q a b : ℕ) (w v : World) → (a ≡ p → b ≡ q → ⊥) → Step (Meet p q) w v → Stays (link w a b) (link v a b)
meet_links p q a b w v other s = record { carries = grind (arith, s); posted = grind (arith, nat_tests, other, s); closers = grind (arith, s); inquiry_put = grind (arith, nat_tests, other, s) }

meet_waiting : (p q a b : ℕ) (w v : World) → Step (Meet p q) w v → Stays (waiting_link w a b) (waiting_link v a b)
meet_waiting p q a b w v s = record { carries = grind (arith, s); posted = grind (arith, s); closers = grind (arith, s); inquiry_put = grind (arith, s) }

meet_other : (p q k : ℕ) (w v : World) (f : Face) → k ≢ p → ShowsFace f k w → Step (Meet p q) w v → ShowsFace f k v
meet_other p q k w v f other i s = grind (arith, nat_tests, other, i, s)

meet_open : (p q : ℕ) (w v : World) (f : Face) → ShowsOpen f p w → Step (Meet p q) w v → ShowsOpen f p v
meet_open p q w v f i s = grind (arith, i, s)

meet_face : (p q : ℕ) (w v : World) (f : Face) → w.last p q ≡ 0 → (f.on ≡ true → f.is_home ≡ false → f.superior ≢ w.node q) → ShowsFace f p w → Step (Meet p q) w v → ShowsFace f p v
meet_face p q w v f none apart i s = record {
  up = grind (arith, i.up, s);
  outcome = grind (arith, i.outcome, s);
  engaged = grind (arith, i.engaged, s);
  superior = grind (arith, i.superior, s);
  last = λ on away. grind (arith, nat_tests, i.last on away, apart on away, s);
  last_new = grind (arith, nat_tests, none, i.last_new, s);
  sent = grind (arith, i.sent, s);
  told_in = grind (arith, i.told_in, s);
  tell = grind (arith, i.tell, s);
  running = λ is. meet_open p q w v f (i.running is) s;
}

pub meet : MeetGoes
meet tid x w n m first lawful shown at m_in other unknown some begun apart = record {
  next = v;
  leads = record { events = Meet p q ∷ []; run = (v, step, refl) };
  shown = record {
    stage = record { small = shown.stage.small; numbered = shown.stage.numbered; home = shown.stage.home; nodes = shown.stage.nodes; classes = shown.stage.classes; present = shown.stage.present; up = shown.stage.up; peers = peers_after };
    faces = λ k k_in k_up. face_at k k_in k_up (k == n) refl;
    links = links_around x n (x.inc n) m first (x.unmet n m) w v shown.stage.small at.in_run m_in shown.links
        (λ _ _. unclosed (x.unmet n m) (link v p q) (waiting_link w p m).closer (waiting_link w p m).closer_set (none_closed untouched.closers)
        (still (x.unmet n m) (waiting_link w p m) (record (link v p q) { closer = (waiting_link w p m).closer; closer_set = (waiting_link w p m).closer_set }) (met_stays p q m w v untouched node_q step) (shown.unmet n m at.in_run m_in at.up unknown)))
        (λ a b differ. meet_links p q a b w v differ step);
    unmet = λ a b a_in b_in a_up none. unmet_at a b a_in b_in a_up (a == n) (b == m) refl refl none;
    logs = λ k k_in. log_still tid k (x.found k) w v (record { prepared = refl; commit_logged = refl; unended = refl; commit_list = refl }) (shown.logs k k_in);
  };
}
  where
    p : ℕ
    p = place n (x.inc n)

    q : ℕ
    q = place m first

    v : World
    v = after_meet p q w

    here : ShowsFace (x.face n) p w
    here = shown.faces n at.in_run at.up

    node_p : w.node p ≡ n
    node_p = shown.stage.nodes n (x.inc n) at.in_run

    node_q : w.node q ≡ m
    node_q = shown.stage.nodes m first m_in

    peer_is : w.peer p (w.node q) ≡ 0
    peer_is = ap (w.peer p) node_q ∙ (shown.stage.peers n m at.in_run m_in at.up ∙ rw unknown refl)

    step : Step (Meet p q) w v
    step = (here.up, (λ e. other (sym node_q ∙ (e ∙ node_p))), place_some m first some, no_later (w.present (w.node q)) (ap w.present node_q ∙ shown.stage.present m m_in), peer_is, refl)
      where
        no_later : (a : ℕ) → a ≡ place m (x.inc m) → q ≤ a
        no_later a e = omega (arith, e, begun)

    below : w.peer p (w.node q) < q
    below = less (w.peer p (w.node q)) peer_is
      where
        less : (a : ℕ) → a ≡ 0 → a < place m first
        less a e = omega (arith, e, some)

    untouched : Untouched p q w
    untouched = record {
      received = le_zero (w.received q p) (w.posted p q) ((invariant w lawful).counts.received_posted q p) ((invariant w lawful).counts.posted_known p q below);
      closers = (fresh w lawful p q).none below;
      taken = le_zero (w.closers_taken q p) (w.closers p q) (fresh w lawful p q).taken ((fresh w lawful p q).none below);
      inquiry_taken = le_zero (w.inquiry_taken q p) (w.inquiry_put p q) (fresh w lawful p q).inquiry_taken ((fresh w lawful p q).inquiry_none below);
      last = here.last_new q below;
    }

    none_closed : w.closers p q ≡ 0 → w.closers p q ≤ w.closers_taken q p
    none_closed e = omega (arith, e)

    met_face : ShowsFace (x.face n) p v
    met_face = meet_face p q w v (x.face n) untouched.last (λ on away e. apart on away (e ∙ node_q)) here step

    face_at : (k : ℕ) → k < x.size → x.up k ≡ true → (b : Bool) → (k == n) ≡ b → ShowsFace (x.face k) (place k (x.inc k)) v
    face_at k k_in k_up true e = let is : k ≡ n = eqb-true k n e in rw is met_face
    face_at k k_in k_up false e = meet_other p q (place k (x.inc k)) w v (x.face k) (λ is. not_n (same_place k n (x.inc k) (x.inc n) (omega (arith, k_in, shown.stage.small)) (omega (arith, at.in_run, shown.stage.small)) is).0) (shown.faces k k_in k_up) step
      where
        not_n : k ≡ n → ⊥
        not_n is = grind (arith, nat_tests, e, is)

    unmet_at : (a b : ℕ) → a < x.size → b < x.size → x.up a ≡ true → (c d : Bool) → (a == n) ≡ c → (b == m) ≡ d → (if c && d then first else x.knows a b) ≡ 0 → IsLink (waiting_link v (place a (x.inc a)) b) (if c && d then [] else x.unmet a b)
    unmet_at a b a_in b_in a_up true true ec ed none = absurd (omega (arith, none, some))
    unmet_at a b a_in b_in a_up true false ec ed none = still (x.unmet a b) (waiting_link w (place a (x.inc a)) b) (waiting_link v (place a (x.inc a)) b) (meet_waiting p q (place a (x.inc a)) b w v step) (shown.unmet a b a_in b_in a_up none)
    unmet_at a b a_in b_in a_up false d ec ed none = still (x.unmet a b) (waiting_link w (place a (x.inc a)) b) (waiting_link v (place a (x.inc a)) b) (meet_waiting p q (place a (x.inc a)) b w v step) (shown.unmet a b a_in b_in a_up none)

    peers_after : (a b : ℕ) → a < x.size → b < x.size → x.up a ≡ true → v.peer (place a (x.inc a)) b ≡ known_place b (if (a == n) && (b == m) then first else x.knows a b)
    peers_after a b a_in b_in a_up = by (a == n) (b == m) refl refl
      where
        els : (a ≡ n → b ≡ m → ⊥) → v.peer (place a (x.inc a)) b ≡ known_place b (x.knows a b)
        els differ = unchanged (place a (x.inc a)) p b (w.node q) (λ e d. differ (same_place a n (x.inc a) (x.inc n) (omega (arith, a_in, shown.stage.small)) (omega (arith, at.in_run, shown.stage.small)) e).0 (d ∙ node_q)) ∙ shown.stage.peers a b a_in b_in a_up
          where
            unchanged : (c d e f : ℕ) → (c ≡ d → e ≡ f → ⊥) → with_at2 w.peer d f q c e ≡ w.peer c e
            unchanged c d e f differ = grind (arith, nat_tests, differ)

        by : (c d : Bool) → (a == n) ≡ c → (b == m) ≡ d → v.peer (place a (x.inc a)) b ≡ known_place b (if c && d then first else x.knows a b)
        by true true ec ed = let is_a : a ≡ n = eqb-true a n ec in let is_b : b ≡ m = eqb-true b m ed in rw (is_a, is_b) (changed p m (w.node q) node_q ∙ sym (known_is m first some))
          where
            changed : (c e f : ℕ) → f ≡ e → with_at2 w.peer c f q c e ≡ q
            changed c e f is = grind (arith, nat_tests, is)
        by false d ec ed = els (λ is _. grind (arith, nat_tests, ec, is))
        by true false ec ed = els (λ _ is. grind (arith, nat_tests, ed, is))

-- the machine then is as it says
pub meet_next : (tid : Tid) (x : Sight) (w : World) (n m first : ℕ) (lawful : IsLawful w) (shown : ShowsSight tid x w) (at : Runs x n) (m_in : m < x.size) (other : m ≢ n) (unknown : x.knows n m ≡ 0) (some : 1 ≤ first) (begun : first ≤ x.inc m)
    (apart : (x.face n).on ≡ true → (x.face n).is_home ≡ false → (x.face n).superior ≢ m) → (meet tid x w n m first lawful shown at m_in other unknown some begun apart).next ≡ met_at w (place n (x.inc n)) (place m first)
unfolding meet
meet_next tid x w n m first lawful shown at m_in other unknown some begun apart = refl
