-- A request goes to another node, no place of which is known, and waits: Issue_unmet.
use Rattle.qs_world_refine.proofs.Words.{◌≡◌, ◌≢◌, ◌⊎◌, inl, inr, ℕ, ◌+◌, ◌≤◌, true, [], ◌∷◌, arith, refl, sym, ◌∙◌, ap, nat_tests, Open, Committed, with_at3, held, held_at, Issue_unmet, Face, ShowsFace, Requested, link, waiting_link, IsLink, place}
use Rattle.qs_world_agree.specs.World.{World, with_at, with_at2}
use Rattle.qs_world_agree.specs.Step.{Step}
use Rattle.qs_world_refine.specs.WaitingLaws.{IssueUnmetGoes}
use Rattle.qs_world_refine.proofs.EventFaces.{face_issue_unmet}
use Rattle.qs_world_refine.proofs.Facts.{posted_below}
use Rattle.qs_world_refine.proofs.Issuing.{Posted}
use Rattle.qs_world_refine.proofs.Streams.{Stays, Carries, ended}
use Rattle.qs_world_refine.proofs.Waiting.{wait_sight}

abbrev after_issue : ℕ → ℕ → ℕ → World → World
after_issue p m s old = record old {
  sent = with_at2 old.sent p m (old.sent p m + 1);
  server_of = with_at3 old.server_of p m (old.sent p m + 1) s;
  involved = with_at old.involved p true;
  way = with_at old.way (old.node p) (held (old.way (old.node p)));
  holder = with_at old.holder (old.node p) (held_at (old.way (old.node p)) p (old.holder (old.node p)));
}

unmet_links : (p m s a b : ℕ) (w v : World) → Posted w → Step (Issue_unmet p m s) w v → Stays (link w a b) (link v a b)
unmet_links p m s a b w v below step = record {
  carries = record {
    live = grind (arith, step);
    received = grind (arith, step);
    taken = grind (arith, step);
    to_home = grind (arith, nat_tests, step);
    inquiry_taken = grind (arith, step);
    server = λ k in_posted. grind (arith, nat_tests, below a b, in_posted, step);
    closer = grind (arith, step);
    closer_set = grind (arith, step);
    tell_commit = grind (arith, step);
    tell_abort = grind (arith, step);
    ack_put = grind (arith, step);
    aborted = grind (arith, step);
    named = grind (arith, step);
  };
  posted = grind (arith, step);
  closers = grind (arith, step);
  inquiry_put = grind (arith, step);
}

unmet_waiting : (p m s a b : ℕ) (w v : World) → (a ≡ p → b ≡ m → ⊥) → Step (Issue_unmet p m s) w v → Stays (waiting_link w a b) (waiting_link v a b)
unmet_waiting p m s a b w v other step = record { carries = grind (arith, nat_tests, other, step); posted = grind (arith, nat_tests, other, step); closers = grind (arith, step); inquiry_put = grind (arith, step) }

unmet_carries : (p m s : ℕ) (w v : World) → Step (Issue_unmet p m s) w v → Carries (waiting_link w p m) (waiting_link v p m)
unmet_carries p m s w v step = record {
  live = grind (arith, step);
  received = grind (arith, step);
  taken = grind (arith, step);
  to_home = grind (arith, nat_tests, step);
  inquiry_taken = grind (arith, step);
  server = λ k in_sent. grind (arith, nat_tests, in_sent, step);
  closer = grind (arith, step);
  closer_set = grind (arith, step);
  tell_commit = grind (arith, step);
  tell_abort = grind (arith, step);
  ack_put = grind (arith, step);
  aborted = grind (arith, step);
  named = grind (arith, step);
}

unmet_other : (p m s k : ℕ) (w v : World) (f : Face) → k ≢ p → ShowsFace f k w → Step (Issue_unmet p m s) w v → ShowsFace f k v
unmet_other p m s k w v f other i step = grind (arith, nat_tests, other, i, step)

unmet_next : (p m s number : ℕ) (w v : World) → number ≡ w.sent p m + 1 → Step (Issue_unmet p m s) w v → IsLink (ended (waiting_link w p m) (waiting_link v p m)) (Requested number s ∷ [])
unmet_next p m s number w v is step = (
  grind (arith, is),
  grind (arith, nat_tests, is, step),
  record {
    requests = grind (arith, nat_tests, step);
    closers = grind (arith, step);
    inquiries = grind (arith, step);
    all_requests = grind (arith, nat_tests, step);
    all_closers = grind (arith, step);
    all_inquiries = grind (arith, step);
  },
)

pub issue_unmet : IssueUnmetGoes
issue_unmet tid x w n m s lawful shown at m_in other none may = record {
  next = v;
  leads = record { events = Issue_unmet p m s ∷ []; run = (v, step, refl) };
  shown = wait_sight tid x w v n m (record (x.face n) { sent = with_at (x.face n).sent m ((x.face n).sent m + 1); involved = true }) (Requested ((x.face n).sent m + 1) s) shown at.in_run at.up
      (record {
        stage = rw step.3 (record { node = refl; class = refl; home = refl; present = refl; up = refl; peer = refl });
        logs = rw step.3 (record { prepared = refl; commit_logged = refl; unended = refl; commit_list = refl });
        links = λ a b. unmet_links p m s a b w v (posted_below w lawful) step;
        waiting = λ a b apart. unmet_waiting p m s a b w v apart step;
        others = λ k f apart is. unmet_other p m s k w v f apart is step;
        carries = unmet_carries p m s w v step;
      })
      (face_issue_unmet p m s w v (x.face n) here step)
      (unmet_next p m s ((x.face n).sent m + 1) w v (ap (λ (k : ℕ). k + 1) (sym (here.sent (running may) m))) step);
}
  where
    p : ℕ
    p = place n (x.inc n)

    v : World
    v = after_issue p m s w

    here : ShowsFace (x.face n) p w
    here = shown.faces n at.in_run at.up

    -- who is engaged, or is lent it, knows no commit
    running : ((x.face n).on ≡ true) ⊎ (((x.face n).outcome ≡ Open) × (1 ≤ (x.face n).loans)) → (x.face n).outcome ≢ Committed
    running (inl on) is =
        let passive = (lawful.settled (lawful.agreed.knows_commit p (here.outcome ∙ is))).passive p in
        let engaged : w.engaged p ≡ true = here.engaged ∙ on in
        cc (passive, engaged)
    running (inr has) is = let undecided = has.0 in cc (undecided, is)

    may_issue : ((x.face n).on ≡ true) ⊎ (((x.face n).outcome ≡ Open) × (1 ≤ (x.face n).loans)) → (w.engaged p ≡ true) ⊎ (1 ≤ w.loans p)
    may_issue (inl on) = inl (here.engaged ∙ on)
    may_issue (inr has) = inr (rw ((here.running has.0).loans) has.1)

    step : Step (Issue_unmet p m s) w v
    step = ((here.up, may_issue may), (λ e. other (e ∙ shown.stage.nodes n (x.inc n) at.in_run)), (shown.stage.peers n m at.in_run m_in at.up ∙ rw none refl), refl)
