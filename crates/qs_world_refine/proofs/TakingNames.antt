-- The home's node takes in one more whom an abort is to be told: Take_names.
use Rattle.qs_world_refine.proofs.Words.{◌≢◌, ℕ, true, [], ◌∷◌, arith, refl, nat_tests, Committed, Aborted, Take_names, Face, ShowsFace, telling_face, link, waiting_link, place}
use Rattle.qs_world_agree.specs.World.{World, with_at, with_at2}
use Rattle.qs_world_agree.specs.Step.{Step}
use Rattle.qs_world_refine.specs.InquiryLaws.{TakeNameGoes}
use Rattle.qs_world_refine.proofs.Inquired.{IsToTell, tells_abort, not_committed, to_tell}
use Rattle.qs_world_refine.proofs.Local.{Local, local_sight}
use Rattle.qs_world_refine.proofs.Streams.{Stays}

abbrev after_name : ℕ → ℕ → World → World
after_name h k old = record old { outcome = with_at old.outcome h Aborted; to_tell = with_at2 old.to_tell h k true }

name_links : (h q k a b : ℕ) (w v : World) → Step (Take_names h q k) w v → Stays (link w a b) (link v a b)
name_links h q k a b w v s = record { carries = grind (arith, s.2); posted = grind (arith, s.2); closers = grind (arith, s.2); inquiry_put = grind (arith, s.2) }

name_waiting : (h q k a b : ℕ) (w v : World) → Step (Take_names h q k) w v → Stays (waiting_link w a b) (waiting_link v a b)
name_waiting h q k a b w v s = record { carries = grind (arith, s.2); posted = grind (arith, s.2); closers = grind (arith, s.2); inquiry_put = grind (arith, s.2) }

name_others : (h q k p : ℕ) (w v : World) (f : Face) → p ≢ h → ShowsFace f p w → Step (Take_names h q k) w v → ShowsFace f p v
name_others h q k p w v f other i s = grind (arith, nat_tests, other, i, s.2)

name_local : (h q k : ℕ) (w v : World) → Step (Take_names h q k) w v → Local h w v
name_local h q k w v s = record {
  stage = rw s.2 (record { node = refl; class = refl; home = refl; present = refl; up = refl; peer = refl });
  logs = rw s.2 (record { prepared = refl; commit_logged = refl; unended = refl; commit_list = refl });
  links = λ a b. name_links h q k a b w v s;
  waiting = λ a b. name_waiting h q k a b w v s;
  others = λ p f other i. name_others h q k p w v f other i s;
}

name_face : (h q k : ℕ) (w v : World) (f : Face) → f.outcome ≢ Committed → IsToTell w h f → ShowsFace f h w → Step (Take_names h q k) w v → ShowsFace (telling_face f k) h v
name_face h q k w v f running tells i s = record {
  up = grind (arith, i.up, s.2);
  outcome = grind (arith, nat_tests, s.2);
  engaged = grind (arith, i.engaged, s.2);
  superior = grind (arith, i.superior, s.2);
  last = grind (arith, i.last, s.2);
  last_new = grind (arith, i.last_new, s.2);
  sent = λ _ m. rw s.2 (i.sent running m);
  told_in = grind (arith, i.told_in, s.2);
  tell = λ _ m. grind (arith, nat_tests, tells m, s.2);
  running = λ is. absurd (cc is);
}

pub take_name : TakeNameGoes
take_name tid x w n q k shown at may named = record {
  next = v;
  leads = record { events = Take_names h q k ∷ []; run = (v, step, refl) };
  shown = local_sight tid x w v n (telling_face (x.face n) k) shown at.in_run (name_local h q k w v step)
      (name_face h q k w v (x.face n) (not_committed tid x w n shown at may) (to_tell tid x w n shown at may) (shown.faces n at.in_run at.up) step);
  kept = λ m has. has;
}
  where
    h : ℕ
    h = place n (x.inc n)

    v : World
    v = after_name h k w

    step : Step (Take_names h q k) w v
    step = (tells_abort tid x w n shown at may, named, refl)
