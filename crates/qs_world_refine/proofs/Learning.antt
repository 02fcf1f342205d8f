-- A node that is told commit learns or acknowledges it: Learn and Acknowledge.
use Rattle.qs_world_refine.proofs.Words.{◌≡◌, ◌≢◌, ◌⊎◌, inl, inr, ℕ, ◌<◌, Bool, true, false, List, [], ◌∷◌, ◌++◌, arith, refl, sym, ◌∙◌, ap, nat_tests, Tid, Recovery, Open, Committed, Learn, Acknowledge, Face, ShowsFace, Said, Link, link, waiting_link, IsLink, place, Runs, Meets, sight_taken, sight_said, Sight, ShowsSight, ShowsLog, is_in_doubt}
use Rattle.qs_world_agree.specs.World.{World, with_at}
use Rattle.qs_world_agree.specs.Step.{Step}
use Rattle.qs_world_refine.specs.EventLaws.{LearnGoes, AcknowledgeGoes}
use Rattle.qs_world_refine.specs.Seen.{sight_learnt}
use Rattle.qs_world_refine.proofs.Around.{faces_around, links_around}
use Rattle.qs_world_refine.proofs.Local.{Local, local_sight}
use Rattle.qs_world_refine.proofs.Still.{SameStage, stage_still, at_one}
use Rattle.qs_world_refine.proofs.Streams.{Stays, still, carries_itself, behind, ended}
use Rattle.qs_world_refine.proofs.Taking.{home_apart}

-- ---- what is said of an outcome is no event: it is handed up, and put, as it stands

same_stage : (w : World) → SameStage w w
same_stage w = record { node = refl; class = refl; home = refl; present = refl; up = refl; peer = refl }

pub stays_itself : (l : Link) → Stays l l
stays_itself l = record { carries = carries_itself l; posted = refl; closers = refl; inquiry_put = λ _. refl }

-- what comes first on a link is one that the machine's link doesn't count
pub uncounted_taken : (tid : Tid) (x : Sight) (w : World) (n m i : ℕ) (rest : List Said) → ShowsSight tid x w → Runs x n → Meets x n m i → IsLink (link w (place m i) (place n (x.inc n))) rest → ShowsSight tid (sight_taken x n m i (x.face n) rest) w
uncounted_taken tid x w n m i rest shown at peer next = record {
  stage = stage_still tid x (sight_taken x n m i (x.face n) rest) w w (same_stage w) refl refl refl refl shown.stage;
  faces = faces_around x n (x.face n) w w shown.stage.small at.in_run shown.faces (shown.faces n at.in_run at.up) (λ k f other is. is);
  links = links_around x m i n (x.inc n) rest w w shown.stage.small peer.in_run at.in_run shown.links (λ _ _. next) (λ a b _. stays_itself (link w a b));
  unmet = shown.unmet;
  logs = shown.logs;
}

-- and one more is put behind
pub uncounted_said : (tid : Tid) (x : Sight) (w : World) (n m i : ℕ) (what : Said) → ShowsSight tid x w → Runs x n → m < x.size
    → IsLink (ended (link w (place n (x.inc n)) (place m i)) (link w (place n (x.inc n)) (place m i))) (what ∷ []) → ShowsSight tid (sight_said x n m i (x.face n) what) w
uncounted_said tid x w n m i what shown at m_in next = record {
  stage = stage_still tid x (sight_said x n m i (x.face n) what) w w (same_stage w) refl refl refl refl shown.stage;
  faces = faces_around x n (x.face n) w w shown.stage.small at.in_run shown.faces (shown.faces n at.in_run at.up) (λ k f other is. is);
  links = links_around x n (x.inc n) m i (x.said n (x.inc n) m i ++ what ∷ []) w w shown.stage.small at.in_run m_in shown.links
      (λ m_up now. behind (x.said n (x.inc n) m i) (what ∷ []) (link w (place n (x.inc n)) (place m i)) (link w (place n (x.inc n)) (place m i)) (carries_itself (link w (place n (x.inc n)) (place m i))) (shown.faces n at.in_run at.up).up (shown.links n (x.inc n) m i at.in_run m_in m_up now) next)
      (λ a b _. stays_itself (link w a b));
  unmet = shown.unmet;
  logs = shown.logs;
}

put_here : (f : ℕ → Bool) (q : ℕ) → with_at f q true q ≡ true
put_here f q = grind (arith, nat_tests)

-- ---- Learn

abbrev pub after_learn : ℕ → World → World
after_learn q old = record old {
  outcome = with_at old.outcome q Committed;
  prepared = with_at old.prepared (old.node q) (λ s. false);
  ack_put = with_at old.ack_put q true;
  learnt_commit = with_at old.learnt_commit (old.node q) true;
}

learn_links : (q a b : ℕ) (w v : World) → Step (Learn q) w v → Stays (link w a b) (link v a b)
learn_links q a b w v e = record { carries = grind (arith, nat_tests, e); posted = grind (arith, e); closers = grind (arith, e); inquiry_put = grind (arith, e) }

learn_waiting : (q a b : ℕ) (w v : World) → Step (Learn q) w v → Stays (waiting_link w a b) (waiting_link v a b)
learn_waiting q a b w v e = record { carries = grind (arith, nat_tests, e); posted = grind (arith, e); closers = grind (arith, e); inquiry_put = grind (arith, e) }

learn_others : (q k : ℕ) (w v : World) (f : Face) → k ≢ q → ShowsFace f k w → Step (Learn q) w v → ShowsFace f k v
learn_others q k w v f other i e = grind (arith, nat_tests, other, i, e)

learn_face : (q : ℕ) (w v : World) (f : Face) → ShowsFace f q w → Step (Learn q) w v → ShowsFace (record f { outcome = Committed }) q v
learn_face q w v f i e = record {
  up = grind (arith, i.up, e);
  outcome = grind (arith, nat_tests, e);
  engaged = grind (arith, i.engaged, e);
  superior = grind (arith, i.superior, e);
  last = grind (arith, i.last, e);
  last_new = grind (arith, i.last_new, e);
  sent = λ running. absurd (running refl);
  told_in = grind (arith, i.told_in, e);
  tell = λ is. absurd (cc is);
  running = λ is. absurd (cc is);
}

pub learn : LearnGoes
learn tid x w n found shown at undecided involved told met elsewhere home_in clear = record {
  next = (after_learn (place n (x.inc n)) w);
  leads = record { events = Learn (place n (x.inc n)) ∷ []; run = ((after_learn (place n (x.inc n)) w), step, refl) };
  acks = put_here w.ack_put (place n (x.inc n));
  shown = record {
    stage = stage_still tid x (sight_learnt x n found) w (after_learn (place n (x.inc n)) w) (record { node = refl; class = refl; home = refl; present = refl; up = refl; peer = refl }) refl refl refl refl shown.stage;
    faces = faces_around x n (record (x.face n) { outcome = Committed }) w (after_learn (place n (x.inc n)) w) shown.stage.small at.in_run shown.faces (learn_face (place n (x.inc n)) w (after_learn (place n (x.inc n)) w) (x.face n) here step) (λ k f other is. learn_others (place n (x.inc n)) k w (after_learn (place n (x.inc n)) w) f other is step);
    links = λ a k b l a_in b_in b_up now. still (x.said a k b l) (link w (place a k) (place b l)) (link (after_learn (place n (x.inc n)) w) (place a k) (place b l)) (learn_links (place n (x.inc n)) (place a k) (place b l) w (after_learn (place n (x.inc n)) w) step) (shown.links a k b l a_in b_in b_up now);
    unmet = λ a b a_in b_in a_up none. still (x.unmet a b) (waiting_link w (place a (x.inc a)) b) (waiting_link (after_learn (place n (x.inc n)) w) (place a (x.inc a)) b) (learn_waiting (place n (x.inc n)) (place a (x.inc a)) b w (after_learn (place n (x.inc n)) w) step) (shown.unmet a b a_in b_in a_up none);
    logs = λ k k_in. at_one (λ (k : ℕ) (f : Recovery). k < x.size → ShowsLog tid k f (after_learn (place n (x.inc n)) w)) x.found n found (λ _. log_here) k (λ other k_in. log_there k other (shown.logs k k_in)) k_in;
  };
}
  where
    here : ShowsFace (x.face n) (place n (x.inc n)) w
    here = shown.faces n at.in_run at.up

    node_q : w.node (place n (x.inc n)) ≡ n
    node_q = shown.stage.nodes n (x.inc n) at.in_run

    home_node : w.node w.home ≡ tid.home.0
    home_node = ap w.node shown.stage.home ∙ shown.stage.nodes tid.home.0 tid.inc home_in

    step : Step (Learn (place n (x.inc n))) w (after_learn (place n (x.inc n)) w)
    step = ((ap w.tell_commit node_q ∙ told, here.up, home_apart tid x w n shown at elsewhere home_in, (λ e. met (sym (ap (w.peer (place n (x.inc n))) home_node) ∙ e))), (here.running undecided).involved ∙ involved, here.outcome ∙ undecided, refl)

    log_here : ShowsLog tid n found (after_learn (place n (x.inc n)) w)
    log_here = record { prepared = λ s. cleared s ∙ sym (clear s); committed = λ is. absurd (elsewhere (sym is)); unended = λ is. absurd (elsewhere (sym is)); named = λ is _ _. absurd (elsewhere (sym is)) }
      where
        cleared : (s : ℕ) → with_at w.prepared (w.node (place n (x.inc n))) (λ (s : ℕ). false) n s ≡ false
        cleared s = grind (arith, nat_tests, node_q)

    log_there : (k : ℕ) → k ≢ n → ShowsLog tid k (x.found k) w → ShowsLog tid k (x.found k) (after_learn (place n (x.inc n)) w)
    log_there k other i = record { prepared = λ r. at_other r (i.prepared r); committed = i.committed; unended = i.unended; named = i.named }
      where
        at_other : (r : ℕ) → w.prepared k r ≡ is_in_doubt tid r (x.found k) → with_at w.prepared (w.node (place n (x.inc n))) (λ (s : ℕ). false) k r ≡ is_in_doubt tid r (x.found k)
        at_other r e = grind (arith, nat_tests, node_q, other, e)

-- ---- Acknowledge

abbrev pub after_ack : ℕ → World → World
after_ack q old = record old {
  ack_put = with_at old.ack_put q true;
}

ack_links : (q : ℕ) (a b : ℕ) (w v : World) → Step (Acknowledge q) w v → Stays (link w a b) (link v a b)
ack_links q a b w v e = record { carries = grind (arith, nat_tests, e); posted = grind (arith, e); closers = grind (arith, e); inquiry_put = grind (arith, e) }

ack_waiting : (q : ℕ) (a b : ℕ) (w v : World) → Step (Acknowledge q) w v → Stays (waiting_link w a b) (waiting_link v a b)
ack_waiting q a b w v e = record { carries = grind (arith, nat_tests, e); posted = grind (arith, e); closers = grind (arith, e); inquiry_put = grind (arith, e) }

ack_others : (q : ℕ) (k : ℕ) (w v : World) (f : Face) → k ≢ q → ShowsFace f k w → Step (Acknowledge q) w v → ShowsFace f k v
ack_others q k w v f other i e = grind (arith, nat_tests, other, i, e)

pub ack_local : (q : ℕ) (w v : World) → Step (Acknowledge q) w v → Local q w v
ack_local q w v e = record {
  stage = rw e.2 (record { node = refl; class = refl; home = refl; present = refl; up = refl; peer = refl });
  logs = rw e.2 (record { prepared = refl; commit_logged = refl; unended = refl; commit_list = refl });
  links = λ a b. ack_links q a b w v e;
  waiting = λ a b. ack_waiting q a b w v e;
  others = λ k f other i. ack_others q k w v f other i e;
}

ack_face : (q : ℕ) (w v : World) (f : Face) → ShowsFace f q w → Step (Acknowledge q) w v → ShowsFace f q v
ack_face q w v f i e = grind (arith, nat_tests, i, e)

pub acknowledge : AcknowledgeGoes
acknowledge tid x w n shown at told met elsewhere home_in may = record {
  next = after_ack (place n (x.inc n)) w;
  leads = record { events = Acknowledge (place n (x.inc n)) ∷ []; run = (after_ack (place n (x.inc n)) w, step, refl) };
  acks = put_here w.ack_put (place n (x.inc n));
  shown = local_sight tid x w (after_ack (place n (x.inc n)) w) n (x.face n) shown at.in_run (ack_local (place n (x.inc n)) w (after_ack (place n (x.inc n)) w) step) (ack_face (place n (x.inc n)) w (after_ack (place n (x.inc n)) w) (x.face n) here step);
}
  where
    here : ShowsFace (x.face n) (place n (x.inc n)) w
    here = shown.faces n at.in_run at.up

    node_q : w.node (place n (x.inc n)) ≡ n
    node_q = shown.stage.nodes n (x.inc n) at.in_run

    home_node : w.node w.home ≡ tid.home.0
    home_node = ap w.node shown.stage.home ∙ shown.stage.nodes tid.home.0 tid.inc home_in

    may_now : ((x.face n).outcome ≡ Committed) ⊎ (((x.face n).outcome ≡ Open) × ((x.face n).involved ≡ false) × ((x.face n).on ≡ false)) → (w.outcome (place n (x.inc n)) ≡ Committed) ⊎ ((w.involved (place n (x.inc n)) ≡ false) × (w.engaged (place n (x.inc n)) ≡ false))
    may_now (inl is) = inl (here.outcome ∙ is)
    may_now (inr is) = inr ((here.running is.0).involved ∙ is.1, here.engaged ∙ is.2)

    step : Step (Acknowledge (place n (x.inc n))) w (after_ack (place n (x.inc n)) w)
    step = ((ap w.tell_commit node_q ∙ told, here.up, home_apart tid x w n shown at elsewhere home_in, (λ e. met (sym (ap (w.peer (place n (x.inc n))) home_node) ∙ e))), may_now may, refl)
