-- The home tells an outcome, to a place that is known or to one that is to come: Tell and Tell_abort.
use Rattle.qs_world_refine.proofs.Words.{◌≡◌, ◌⊎◌, inl, inr, ℕ, ◌<◌, true, false, [], ◌∷◌, arith, refl, sym, ◌∙◌, subst, ap, nat_tests, Tid, Aborted, Tell, Tell_abort, Face, ShowsFace, Outcome_told, link, waiting_link, IsLink, place, Runs, SightGoes, sight_said, sight_waiting, Sight, ShowsSight}
use Rattle.qs_world_agree.specs.World.{World, with_at}
use Rattle.qs_world_agree.specs.Step.{Step}
use Rattle.qs_world_refine.specs.OutcomeLaws.{TellWaitsGoes, TellAbortGoes, TellAbortWaitsGoes}
use Rattle.qs_world_refine.proofs.Learning.{uncounted_said, stays_itself}
use Rattle.qs_world_refine.proofs.Putting.{put_sight}
use Rattle.qs_world_refine.proofs.Streams.{Stays, carries_itself, ended}
use Rattle.qs_world_refine.proofs.Waiting.{wait_sight}

-- the node of the home's place, and of a place of its own
pub home_same : (tid : Tid) (x : Sight) (w : World) (n : ℕ) → ShowsSight tid x w → Runs x n → n ≡ tid.home.0 → w.node (place n (x.inc n)) ≡ w.node w.home
home_same tid x w n shown at home = shown.stage.nodes n (x.inc n) at.in_run ∙ (home ∙ sym (ap w.node shown.stage.home ∙ shown.stage.nodes tid.home.0 tid.inc (subst (λ (k : ℕ). k < x.size) home at.in_run)))

-- ---- Tell

abbrev after_tell : ℕ → World → World
after_tell m old = record old { tell_commit = with_at old.tell_commit m true }

tell_links : (h m a b : ℕ) (w v : World) → Step (Tell h m) w v → Stays (link w a b) (link v a b)
tell_links h m a b w v s = record { carries = grind (arith, nat_tests, s); posted = grind (arith, s); closers = grind (arith, s); inquiry_put = grind (arith, s) }

tell_waiting : (h m a b : ℕ) (w v : World) → Step (Tell h m) w v → Stays (waiting_link w a b) (waiting_link v a b)
tell_waiting h m a b w v s = record { carries = grind (arith, nat_tests, s); posted = grind (arith, s); closers = grind (arith, s); inquiry_put = grind (arith, s) }

tell_face : (h m k : ℕ) (w v : World) (f : Face) → ShowsFace f k w → Step (Tell h m) w v → ShowsFace f k v
tell_face h m k w v f i s = grind (arith, i, s)

tell_next : (h m q : ℕ) (w v : World) → Step (Tell h m) w v → IsLink (ended (waiting_link w q m) (waiting_link v q m)) (Outcome_told true ∷ [])
tell_next h m q w v s = (grind (arith, nat_tests, s), record { requests = grind (arith, s); closers = grind (arith, s); inquiries = grind (arith, s); all_requests = grind (arith, s); all_closers = grind (arith, s); all_inquiries = grind (arith, s) })

pub tell_waits : TellWaitsGoes
tell_waits tid x w n m shown at committed home = record {
  next = v;
  leads = record { events = Tell h m ∷ []; run = (v, step, refl) };
  shown = wait_sight tid x w v n m (x.face n) (Outcome_told true) shown at.in_run at.up
      (record {
        stage = rw step.3 (record { node = refl; class = refl; home = refl; present = refl; up = refl; peer = refl });
        logs = rw step.3 (record { prepared = refl; commit_logged = refl; unended = refl; commit_list = refl });
        links = λ a b. tell_links h m a b w v step;
        waiting = λ a b _. tell_waiting h m a b w v step;
        others = λ k f _ is. tell_face h m k w v f is step;
        carries = (tell_waiting h m h m w v step).carries;
      })
      (tell_face h m h w v (x.face n) here step)
      (tell_next h m h w v step);
}
  where
    h : ℕ
    h = place n (x.inc n)

    v : World
    v = after_tell m w

    here : ShowsFace (x.face n) h w
    here = shown.faces n at.in_run at.up

    step : Step (Tell h m) w v
    step = (here.up, home_same tid x w n shown at home, here.outcome ∙ committed, refl)

-- ---- Tell_abort

abbrev after_abort : ℕ → World → World
after_abort m old = record old { tell_abort = with_at old.tell_abort m true }

abort_links : (h m a b : ℕ) (w v : World) → Step (Tell_abort h m) w v → Stays (link w a b) (link v a b)
abort_links h m a b w v s = record { carries = grind (arith, nat_tests, s); posted = grind (arith, s); closers = grind (arith, s); inquiry_put = grind (arith, s) }

abort_waiting : (h m a b : ℕ) (w v : World) → Step (Tell_abort h m) w v → Stays (waiting_link w a b) (waiting_link v a b)
abort_waiting h m a b w v s = record { carries = grind (arith, nat_tests, s); posted = grind (arith, s); closers = grind (arith, s); inquiry_put = grind (arith, s) }

abort_face : (h m k : ℕ) (w v : World) (f : Face) → ShowsFace f k w → Step (Tell_abort h m) w v → ShowsFace f k v
abort_face h m k w v f i s = grind (arith, nat_tests, i, s)

abort_next : (h m q : ℕ) (w v : World) → Step (Tell_abort h m) w v → IsLink (ended (waiting_link w q m) (waiting_link v q m)) (Outcome_told false ∷ [])
abort_next h m q w v s = (grind (arith, nat_tests, s), record { requests = grind (arith, s); closers = grind (arith, s); inquiries = grind (arith, s); all_requests = grind (arith, s); all_closers = grind (arith, s); all_inquiries = grind (arith, s) })

abort_put : (h m q : ℕ) (w v : World) → w.node q ≡ m → Step (Tell_abort h m) w v → IsLink (ended (link w h q) (link v h q)) (Outcome_told false ∷ [])
abort_put h m q w v at s = (grind (arith, nat_tests, at, s), record { requests = grind (arith, s); closers = grind (arith, s); inquiries = grind (arith, s); all_requests = grind (arith, s); all_closers = grind (arith, s); all_inquiries = grind (arith, s) })

module _ (tid : Tid) (x : Sight) (w : World) (n m : ℕ) (shown : ShowsSight tid x w) (at : Runs x n) (aborted : (x.face n).outcome ≡ Aborted) (home : n ≡ tid.home.0) where
  abbrev h : ℕ
  h = place n (x.inc n)

  abbrev v : World
  v = after_abort m w

  here : ShowsFace (x.face n) h w
  here = shown.faces n at.in_run at.up

  step : w.to_tell h m ≡ true → Step (Tell_abort h m) w v
  step to_tell = (here.up, home_same tid x w n shown at home, here.outcome ∙ aborted, to_tell, refl)

  -- who may be told by anybody is told once more
  told_already : (i : ℕ) → m < x.size → w.tell_abort m ≡ true → SightGoes tid (sight_said x n m i (x.face n) (Outcome_told false)) w
  told_already i m_in told = record {
    next = w;
    leads = record { events = []; run = refl };
    shown = uncounted_said tid x w n m i (Outcome_told false) shown at m_in
        (ap w.tell_abort (shown.stage.nodes m i m_in) ∙ told, record { requests = omega arith; closers = omega arith; inquiries = λ _. omega arith; all_requests = λ _. refl; all_closers = λ _. refl; all_inquiries = λ _ _. refl });
  }

  waits_already : w.tell_abort m ≡ true → SightGoes tid (sight_waiting x n m (x.face n) (Outcome_told false)) w
  waits_already told = record {
    next = w;
    leads = record { events = []; run = refl };
    shown = wait_sight tid x w w n m (x.face n) (Outcome_told false) shown at.in_run at.up
        (record {
          stage = record { node = refl; class = refl; home = refl; present = refl; up = refl; peer = refl };
          logs = record { prepared = refl; commit_logged = refl; unended = refl; commit_list = refl };
          links = λ a b. stays_itself (link w a b);
          waiting = λ a b _. stays_itself (waiting_link w a b);
          others = λ k f _ is. is;
          carries = carries_itself (waiting_link w h m);
        })
        here
        (told, record { requests = omega arith; closers = omega arith; inquiries = λ _. omega arith; all_requests = λ _. refl; all_closers = λ _. refl; all_inquiries = λ _ _. refl });
  }

pub tell_abort : TellAbortGoes
tell_abort tid x w n m i shown at m_in aborted tells home = by ((shown.faces n at.in_run at.up).tell aborted m tells)
  where
    now : w.to_tell (place n (x.inc n)) m ≡ true → SightGoes tid (sight_said x n m i (x.face n) (Outcome_told false)) w
    now to_tell =
        let q = h tid x w n m shown at aborted home in
        let u = v tid x w n m shown at aborted home in
        let did = step tid x w n m shown at aborted home to_tell in
        record {
          next = u;
          leads = record { events = Tell_abort q m ∷ []; run = (u, did, refl) };
          shown = put_sight tid x w u n m i (x.face n) (Outcome_told false ∷ []) shown at.in_run m_in at.up
              (record {
                stage = rw did.4 (record { node = refl; class = refl; home = refl; present = refl; up = refl; peer = refl });
                logs = rw did.4 (record { prepared = refl; commit_logged = refl; unended = refl; commit_list = refl });
                links = λ a b _. abort_links q m a b w u did;
                waiting = λ a b. abort_waiting q m a b w u did;
                others = λ k f _ is. abort_face q m k w u f is did;
                carries = (abort_links q m q (place m i) w u did).carries;
              })
              (abort_face q m q w u (x.face n) (shown.faces n at.in_run at.up) did)
              (abort_put q m (place m i) w u (shown.stage.nodes m i m_in) did);
        }

    by : (w.to_tell (place n (x.inc n)) m ≡ true) ⊎ (w.tell_abort m ≡ true) → SightGoes tid (sight_said x n m i (x.face n) (Outcome_told false)) w
    by (inl to_tell) = now to_tell
    by (inr told) = told_already tid x w n m shown at aborted home i m_in told

pub tell_abort_waits : TellAbortWaitsGoes
tell_abort_waits tid x w n m shown at aborted tells home = by ((shown.faces n at.in_run at.up).tell aborted m tells)
  where
    now : w.to_tell (place n (x.inc n)) m ≡ true → SightGoes tid (sight_waiting x n m (x.face n) (Outcome_told false)) w
    now to_tell =
        let q = h tid x w n m shown at aborted home in
        let u = v tid x w n m shown at aborted home in
        let did = step tid x w n m shown at aborted home to_tell in
        record {
          next = u;
          leads = record { events = Tell_abort q m ∷ []; run = (u, did, refl) };
          shown = wait_sight tid x w u n m (x.face n) (Outcome_told false) shown at.in_run at.up
              (record {
                stage = rw did.4 (record { node = refl; class = refl; home = refl; present = refl; up = refl; peer = refl });
                logs = rw did.4 (record { prepared = refl; commit_logged = refl; unended = refl; commit_list = refl });
                links = λ a b. abort_links q m a b w u did;
                waiting = λ a b _. abort_waiting q m a b w u did;
                others = λ k f _ is. abort_face q m k w u f is did;
                carries = (abort_waiting q m q m w u did).carries;
              })
              (abort_face q m q w u (x.face n) (shown.faces n at.in_run at.up) did)
              (abort_next q m q w u did);
        }

    by : (w.to_tell (place n (x.inc n)) m ≡ true) ⊎ (w.tell_abort m ≡ true) → SightGoes tid (sight_waiting x n m (x.face n) (Outcome_told false)) w
    by (inl to_tell) = now to_tell
    by (inr told) = waits_already tid x w n m shown at aborted home told
