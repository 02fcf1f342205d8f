-- The home decides abort: Abort.
use Rattle.qs_world_refine.proofs.Words.{◌≡◌, ◌≢◌, inl, ℕ, ◌==◌, Bool, true, false, [], ◌∷◌, arith, refl, sym, ◌∙◌, subst, ap, if◌then◌else◌, nat_tests, Open, Aborted, Abort, Face, ShowsFace, link, waiting_link, place}
use Rattle.qs_world_agree.specs.World.{World, with_at}
use Rattle.qs_world_agree.specs.Guards.{drawn}
use Rattle.qs_world_agree.specs.Step.{Step}
use Rattle.qs_world_refine.specs.OutcomeLaws.{AbortGoes}
use Rattle.qs_world_refine.specs.SeenOutcome.{aborted_face}
use Rattle.qs_world_refine.proofs.Local.{Local, local_sight}
use Rattle.qs_world_refine.proofs.Streams.{Stays}

abbrev after_abort : World → World
after_abort old = record old {
  engaged = with_at old.engaged old.home false;
  outcome = with_at old.outcome old.home Aborted;
  to_tell = with_at old.to_tell old.home (drawn old old.home);
  cell = Aborted;
  learnt_abort = with_at old.learnt_abort (old.node old.home) true;
}

abort_links : (a b : ℕ) (w v : World) → Step Abort w v → Stays (link w a b) (link v a b)
abort_links a b w v s = record { carries = grind (arith, s.2); posted = grind (arith, s.2); closers = grind (arith, s.2); inquiry_put = grind (arith, s.2) }

abort_waiting : (a b : ℕ) (w v : World) → Step Abort w v → Stays (waiting_link w a b) (waiting_link v a b)
abort_waiting a b w v s = record { carries = grind (arith, s.2); posted = grind (arith, s.2); closers = grind (arith, s.2); inquiry_put = grind (arith, s.2) }

abort_others : (k : ℕ) (w v : World) (f : Face) → k ≢ w.home → ShowsFace f k w → Step Abort w v → ShowsFace f k v
abort_others k w v f other i s = grind (arith, nat_tests, other, i, s.2)

abort_local : (w v : World) → Step Abort w v → Local w.home w v
abort_local w v s = record {
  stage = rw s.2 (record { node = refl; class = refl; home = refl; present = refl; up = refl; peer = refl });
  logs = rw s.2 (record { prepared = refl; commit_logged = refl; unended = refl; commit_list = refl });
  links = λ a b. abort_links a b w v s;
  waiting = λ a b. abort_waiting a b w v s;
  others = λ k f other i. abort_others k w v f other i s;
}

-- whom it drew in, as the machine has it
drew : (f : Face) (w : World) (m : ℕ) → w.told_set w.home m ≡ f.told m → w.sent w.home m ≡ f.sent m → drawn w w.home m ≡ (if f.told m then true else (if f.sent m == 0 then false else true))
drew f w m told sent = rw (told, sent) refl

abort_face : (w v : World) (f : Face) → ((m : ℕ) → drawn w w.home m ≡ (aborted_face f).tell m) → f.is_home ≡ true → f.outcome ≡ Open → ShowsFace f w.home w → Step Abort w v → ShowsFace (aborted_face f) w.home v
abort_face w v f same here undecided i s = record {
  up = grind (arith, i.up, s.2);
  outcome = grind (arith, nat_tests, s.2);
  engaged = grind (arith, nat_tests, s.2);
  superior = λ is. absurd (cc is);
  last = λ is. absurd (cc is);
  last_new = grind (arith, i.last_new, s.2);
  sent = λ _ m. rw s.2 (i.sent (λ is. cc (is, undecided)) m);
  told_in = grind (arith, i.told_in, s.2);
  tell = λ _ m has. inl (tells m (same m ∙ has));
  running = λ is. absurd (cc is);
}
  where
    tells : (m : ℕ) → drawn w w.home m ≡ true → v.to_tell w.home m ≡ true
    tells m has = rw s.2 (at_home (w.home == w.home) (grind (arith, nat_tests)))
      where
        at_home : (b : Bool) → b ≡ true → (if b then drawn w w.home else w.to_tell w.home) m ≡ true
        at_home b is = rw is has

pub abort : AbortGoes
abort tid x w shown at first is_home undecided = record {
  next = v;
  leads = record { events = Abort ∷ []; run = (v, step, refl) };
  shown = local_sight tid x w v tid.home.0 (aborted_face (x.face tid.home.0)) shown at.in_run
      (subst (λ (q : ℕ). Local q w v) (sym home_is) (abort_local w v step))
      (subst (λ (q : ℕ). ShowsFace (aborted_face (x.face tid.home.0)) q v) (sym home_is) (abort_face w v (x.face tid.home.0) (λ m. drew (x.face tid.home.0) w m ((here.running undecided).told m) (here.sent (λ is. cc (is, undecided)) m)) is_home undecided here step));
}
  where
    v : World
    v = after_abort w

    home_is : place tid.home.0 (x.inc tid.home.0) ≡ w.home
    home_is = ap (λ (i : ℕ). place tid.home.0 i) first ∙ sym shown.stage.home

    here : ShowsFace (x.face tid.home.0) w.home w
    here = subst (λ (q : ℕ). ShowsFace (x.face tid.home.0) q w) home_is (shown.faces tid.home.0 at.in_run at.up)

    step : Step Abort w v
    step = (here.up, here.outcome ∙ undecided, refl)
