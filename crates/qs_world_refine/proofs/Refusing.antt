-- A request is dropped where the sender is not the superior, and Covered goes back: Drop_cover.
use Rattle.qs_world_refine.proofs.Words.{◌≡◌, ◌≢◌, ◌⊎◌, inl, inr, ℕ, ◌+◌, ◌<◌, ◌≤◌, true, false, List, [], ◌∷◌, ◌++◌, arith, refl, sym, ◌∙◌, ap, nat_tests, Tid, with_at3, IsLawful, next, Drop_cover, Face, ShowsFace, ShowsOpen, Said, Requested, Closed, link, waiting_link, IsLink, place, Runs, Meets, sight_returned, Sight, ShowsSight}
use Rattle.qs_world_agree.specs.World.{World, with_at, with_at2}
use Rattle.qs_world_agree.specs.Guards.{Drops}
use Rattle.qs_world_agree.specs.Step.{Step}
use Rattle.qs_world_refine.specs.EventLaws.{DropCoverGoes, DropHomeGoes}
use Rattle.qs_world_refine.specs.Sights.{with_at4}
use Rattle.qs_world_refine.proofs.Around.{faces_around, place_some}
use Rattle.qs_world_refine.proofs.EventFaces.{Knows}
use Rattle.qs_world_refine.proofs.Facts.{invariant}
use Rattle.qs_world_refine.proofs.FreshRuns.{fresh}
use Rattle.qs_world_refine.proofs.Same.{same_place}
use Rattle.qs_world_refine.proofs.Still.{stage_still, log_still, at_four}
use Rattle.qs_world_refine.proofs.Streams.{Stays, Carries, still, behind, ended}
use Rattle.qs_world_refine.proofs.Taking.{next_at, number_is, rest_link, sender_node}

abbrev pub after_refuse : ℕ → ℕ → World → World
after_refuse q p old = record old {
  received = with_at2 old.received q p (next old q p);
  last = with_at2 old.last q p (next old q p);
  closers = with_at2 old.closers q p (old.closers q p + 1);
  closer = with_at3 old.closer q p (old.closers q p + 1) (next old q p);
}

-- it takes from one link and puts on the one back
pub refuse_stays : (q p a b : ℕ) (w v : World) → (a ≡ p → b ≡ q → ⊥) → (a ≡ q → b ≡ p → ⊥) → Step (Drop_cover q p) w v → Stays (link w a b) (link v a b)
refuse_stays q p a b w v other back step = record { carries = grind (arith, nat_tests, other, back, step); posted = grind (arith, step); closers = grind (arith, nat_tests, back, step); inquiry_put = grind (arith, step) }

pub refuse_took : (q p : ℕ) (w v : World) → p ≢ q → Step (Drop_cover q p) w v → Stays (record (link w p q) { received = w.received q p + 1 }) (link v p q)
refuse_took q p w v apart step = record { carries = grind (arith, nat_tests, apart, step); posted = grind (arith, step); closers = grind (arith, nat_tests, apart, step); inquiry_put = grind (arith, step) }

pub refuse_back : (q p : ℕ) (w v : World) → p ≢ q → Step (Drop_cover q p) w v → Carries (link w q p) (link v q p)
refuse_back q p w v apart step = record {
  live = grind (arith, step);
  received = grind (arith, nat_tests, apart, step);
  taken = grind (arith, step);
  to_home = grind (arith, nat_tests, step);
  inquiry_taken = grind (arith, step);
  server = grind (arith, step);
  closer = λ k in_put. grind (arith, nat_tests, in_put, step);
  closer_set = grind (arith, step);
  tell_commit = grind (arith, step);
  tell_abort = grind (arith, step);
  ack_put = grind (arith, step);
  aborted = grind (arith, step);
  named = grind (arith, step);
}

pub refuse_waiting : (q p a m : ℕ) (w v : World) → Step (Drop_cover q p) w v → Stays (waiting_link w a m) (waiting_link v a m)
refuse_waiting q p a m w v step = record { carries = grind (arith, nat_tests, step); posted = grind (arith, step); closers = grind (arith, step); inquiry_put = grind (arith, step) }

pub refuse_other : (q p k : ℕ) (w v : World) (f : Face) → k ≢ q → ShowsFace f k w → Step (Drop_cover q p) w v → ShowsFace f k v
refuse_other q p k w v f other i step = grind (arith, nat_tests, other, i, step)

-- the number of the next Covered that is put, with an empty told set, which is a fact of its own
pub refuse_next : (q p number : ℕ) (w v : World) → p ≢ q → number ≡ next w q p → ((n : ℕ) → w.closer_set q p (w.closers q p + 1) n ≡ false) → Step (Drop_cover q p) w v → IsLink (ended (link w q p) (link v q p)) (Closed number [] ∷ [])
refuse_next q p number w v apart is clear step = (
  grind (arith, nat_tests, is, step),
  λ n. grind (arith, nat_tests, clear n, step),
  record {
    requests = grind (arith, step);
    closers = grind (arith, nat_tests, step);
    inquiries = grind (arith, step);
    all_requests = grind (arith, step);
    all_closers = grind (arith, nat_tests, step);
    all_inquiries = grind (arith, step);
  },
)

-- the face where abort is known, and where the transaction is at home
refuse_face : (q p : ℕ) (w v : World) (f : Face) → Knows w q → 1 ≤ p → (f.on ≡ true → f.is_home ≡ false → w.node p ≢ f.superior) → ShowsFace f q w → Step (Drop_cover q p) w v → ShowsFace (record f { last = with_at f.last (w.node p) (next w q p) }) q v
refuse_face q p w v f known some apart i s = record {
  up = grind (arith, i.up, s);
  outcome = grind (arith, i.outcome, s);
  engaged = grind (arith, nat_tests, i.engaged, s);
  superior = grind (arith, nat_tests, i.superior, s);
  last = λ on away. grind (arith, nat_tests, i.last on away, apart on away, known f.superior, s);
  last_new = grind (arith, nat_tests, i.last_new, s);
  sent = grind (arith, i.sent, s);
  told_in = grind (arith, nat_tests, i.told_in, s);
  tell = grind (arith, i.tell, s);
  running = λ is. running (i.running is);
}
  where
    running : ShowsOpen f q w → ShowsOpen (record f { last = with_at f.last (w.node p) (next w q p) }) q v
    running o = grind (arith, nat_tests, o, s)

-- nothing of it is shown where nothing is answered to anybody
unshown_last : (f : Face) (last : ℕ → ℕ) (q : ℕ) (w : World) → (f.on ≡ true → f.is_home ≡ false → ⊥) → ShowsFace f q w → ShowsFace (record f { last = last }) q w
unshown_last f last q w none i = record {
  up = i.up;
  outcome = i.outcome;
  engaged = i.engaged;
  superior = i.superior;
  last = λ on away. absurd (none on away);
  last_new = i.last_new;
  sent = i.sent;
  told_in = i.told_in;
  tell = i.tell;
  running = λ is. let o = i.running is in record { covered = o.covered; asked = o.asked; refused = o.refused; gone = o.gone; abort_vote = o.abort_vote; waits = o.waits; uncast = o.uncast; loans = o.loans; involved = o.involved; told = o.told };
}

module _ (tid : Tid) (x : Sight) (w : World) (n m i number s : ℕ) (rest : List Said) (lawful : IsLawful w) (shown : ShowsSight tid x w) (at : Runs x n) (peer : Meets x n m i)
    (head : x.said m i n (x.inc n) ≡ Requested number s ∷ rest)
    (drops : Drops w (place n (x.inc n))) (apart : (w.node (place n (x.inc n)) ≡ w.node w.home) ⊎ ((w.engaged (place n (x.inc n)) ≡ true) × (w.superior (place n (x.inc n)) ≢ m))) where
  abbrev pub q : ℕ
  q = place n (x.inc n)

  abbrev pub p : ℕ
  p = place m i

  abbrev pub v : World
  v = after_refuse q p w

  here : ShowsFace (x.face n) q w
  here = shown.faces n at.in_run at.up

  sender : w.node p ≡ m
  sender = sender_node tid x w n m i number s rest shown at peer head

  places_apart : p ≢ q
  places_apart = λ e. peer.other (same_place m n i (x.inc n) (omega (arith, peer.in_run, shown.stage.small)) (omega (arith, at.in_run, shown.stage.small)) e).0

  clear : (k : ℕ) → w.closer_set q p (w.closers q p + 1) k ≡ false
  clear k = (fresh w lawful q p).set (w.closers q p + 1) k (omega arith)

  pub step : Step (Drop_cover q p) w v
  step = (next_at tid x w n m i number s rest shown at peer head, drops, elsewhere apart, refl)
    where
      elsewhere : (w.node q ≡ w.node w.home) ⊎ ((w.engaged q ≡ true) × (w.superior q ≢ m)) → (w.node q ≡ w.node w.home) ⊎ ((w.engaged q ≡ true) × (w.superior q ≢ w.node p))
      elsewhere (inl home) = inl home
      elsewhere (inr other) = inr (other.0, λ e. other.1 (e ∙ sender))

  new_link : x.up m ≡ true → i ≡ x.inc m → IsLink (link v q p) (x.said n (x.inc n) m i ++ Closed number [] ∷ [])
  new_link m_up now = behind (x.said n (x.inc n) m i) (Closed number [] ∷ []) (link w q p) (link v q p) (refuse_back q p w v places_apart step) here.up
      (shown.links n (x.inc n) m i at.in_run peer.in_run m_up now) (refuse_next q p number w v places_apart (sym (number_is tid x w n m i number s rest shown at peer head)) clear step)

  pub returned : (f : Face) → ShowsFace f q v → ShowsSight tid (sight_returned x n m i number f rest) v
  returned f face = record {
    stage = stage_still tid x (sight_returned x n m i number f rest) w v (rw step.3 (record { node = refl; class = refl; home = refl; present = refl; up = refl; peer = refl })) refl refl refl refl shown.stage;
    faces = faces_around x n f w v shown.stage.small at.in_run shown.faces face (λ k g off is. refuse_other q p k w v g off is step);
    links = λ a k b l a_in b_in b_up now.
        at_four (λ (a k b l : ℕ) (t : List Said). a < x.size → b < x.size → x.up b ≡ true → l ≡ x.inc b → IsLink (link v (place a k) (place b l)) t) (with_at4 x.said m i n (x.inc n) rest) n (x.inc n) m i (x.said n (x.inc n) m i ++ Closed number [] ∷ []) (λ _ _ m_up now. new_link m_up now) a k b l
        (λ not_back a_in b_in b_up now.
        at_four (λ (a k b l : ℕ) (t : List Said). (a ≡ n → k ≡ x.inc n → b ≡ m → l ≡ i → ⊥) → a < x.size → b < x.size → x.up b ≡ true → l ≡ x.inc b → IsLink (link v (place a k) (place b l)) t) x.said m i n (x.inc n) rest
        (λ _ _ _ _ _. still rest (record (link w p q) { received = w.received q p + 1 }) (link v p q) (refuse_took q p w v places_apart step) (rest_link tid x w n m i number s rest shown at peer head))
        a k b l
        (λ not_here not_back a_in b_in b_up now. still (x.said a k b l) (link w (place a k) (place b l)) (link v (place a k) (place b l))
        (refuse_stays q p (place a k) (place b l) w v
        (λ e d. let first = same_place a m k i (omega (arith, a_in, shown.stage.small)) (omega (arith, peer.in_run, shown.stage.small)) e in let second = same_place b n l (x.inc n) (omega (arith, b_in, shown.stage.small)) (omega (arith, at.in_run, shown.stage.small)) d in not_here first.0 first.1 second.0 second.1)
        (λ e d. let first = same_place a n k (x.inc n) (omega (arith, a_in, shown.stage.small)) (omega (arith, at.in_run, shown.stage.small)) e in let second = same_place b m l i (omega (arith, b_in, shown.stage.small)) (omega (arith, peer.in_run, shown.stage.small)) d in not_back first.0 first.1 second.0 second.1)
        step)
        (shown.links a k b l a_in b_in b_up now))
        not_back a_in b_in b_up now)
        a_in b_in b_up now;
    unmet = λ a b a_in b_in a_up none. still (x.unmet a b) (waiting_link w (place a (x.inc a)) b) (waiting_link v (place a (x.inc a)) b) (refuse_waiting q p (place a (x.inc a)) b w v step) (shown.unmet a b a_in b_in a_up none);
    logs = λ k k_in. log_still tid k (x.found k) w v (rw step.3 (record { prepared = refl; commit_logged = refl; unended = refl; commit_list = refl })) (shown.logs k k_in);
  }

  pub refused_face : ((x.face n).on ≡ true → (x.face n).is_home ≡ false → m ≢ (x.face n).superior) → ShowsFace (record (x.face n) { last = with_at (x.face n).last m number }) q v
  refused_face other = same (x.face n) (w.node p) (next w q p) q v sender (number_is tid x w n m i number s rest shown at peer head)
      (refuse_face q p w v (x.face n) ((invariant w lawful).counts.peer_node q) (place_some m i peer.some) (λ on away e. other on away (sym sender ∙ e)) here step)
    where
      same : (f : Face) (a b o : ℕ) (u : World) → a ≡ m → b ≡ number → ShowsFace (record f { last = with_at f.last a b }) o u → ShowsFace (record f { last = with_at f.last m number }) o u
      same f a b o u ea eb is = rw (sym ea, sym eb) is

-- elsewhere than at the home, where abort is known
pub drop_cover : DropCoverGoes
drop_cover tid x w n m i number s rest lawful shown at peer head aborted on away other = record {
  next = v tid x w n m i number s rest lawful shown at peer head drops apart;
  leads = record { events = Drop_cover (place n (x.inc n)) (place m i) ∷ []; run = (after_refuse (place n (x.inc n)) (place m i) w, step tid x w n m i number s rest lawful shown at peer head drops apart, refl) };
  shown = returned tid x w n m i number s rest lawful shown at peer head drops apart (record (x.face n) { last = with_at (x.face n).last m number }) (refused_face tid x w n m i number s rest lawful shown at peer head drops apart (λ _ _ e. other (sym e)));
}
  where
    here : ShowsFace (x.face n) (place n (x.inc n)) w
    here = shown.faces n at.in_run at.up

    drops : Drops w (place n (x.inc n))
    drops = inl (here.outcome ∙ aborted)

    apart : (w.node (place n (x.inc n)) ≡ w.node w.home) ⊎ ((w.engaged (place n (x.inc n)) ≡ true) × (w.superior (place n (x.inc n)) ≢ m))
    apart = inr (here.engaged ∙ on, λ e. other (sym (here.superior on away) ∙ e))

-- at the home's node, where the transaction doesn't run
pub drop_home : DropHomeGoes
drop_home tid x w n m i number s rest last lawful shown at peer head home off = record {
  next = v tid x w n m i number s rest lawful shown at peer head drops apart;
  leads = record { events = Drop_cover (place n (x.inc n)) (place m i) ∷ []; run = (after_refuse (place n (x.inc n)) (place m i) w, step tid x w n m i number s rest lawful shown at peer head drops apart, refl) };
  shown = returned tid x w n m i number s rest lawful shown at peer head drops apart (record (x.face n) { last = last })
      (unshown_last (record (x.face n) { last = with_at (x.face n).last m number }) last (place n (x.inc n)) _ (λ on _. not_on on) (refused_face tid x w n m i number s rest lawful shown at peer head drops apart (λ on _. absurd (not_on on))));
}
  where
    here : ShowsFace (x.face n) (place n (x.inc n)) w
    here = shown.faces n at.in_run at.up

    not_on : (x.face n).on ≡ true → ⊥
    not_on on = cc (on, off)

    node_is : w.node (place n (x.inc n)) ≡ w.node w.home
    node_is = shown.stage.nodes n (x.inc n) at.in_run ∙ (sym home ∙ (sym (shown.stage.nodes tid.home.0 tid.inc (rw home at.in_run)) ∙ sym (ap w.node shown.stage.home)))

    drops : Drops w (place n (x.inc n))
    drops = inr (node_is, here.engaged ∙ off)

    apart : (w.node (place n (x.inc n)) ≡ w.node w.home) ⊎ ((w.engaged (place n (x.inc n)) ≡ true) × (w.superior (place n (x.inc n)) ≢ m))
    apart = inl node_is
