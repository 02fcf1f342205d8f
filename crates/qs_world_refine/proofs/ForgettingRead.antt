-- Another node than the home forgets what it only read: Forget.
use Rattle.qs_world_refine.proofs.Words.{◌≡◌, ◌≢◌, ℕ, ◌+◌, ◌≤◌, true, false, [], ◌∷◌, arith, refl, ◌∙◌, ap, nat_tests, Open, Votes, Forget, Face, ShowsFace, ShowsOpen, link, waiting_link, place}
use Rattle.qs_world_agree.specs.World.{World, with_at}
use Rattle.qs_world_agree.specs.Step.{Step}
use Rattle.qs_world_refine.specs.OutcomeLaws.{ForgetGoes}
use Rattle.qs_world_refine.specs.SeenOutcome.{forgotten_face}
use Rattle.qs_world_refine.proofs.Facts.{invariant}
use Rattle.qs_world_refine.proofs.Local.{Local, local_sight}
use Rattle.qs_world_refine.proofs.Off.{Off}
use Rattle.qs_world_refine.proofs.OffRuns.{off}
use Rattle.qs_world_refine.proofs.Streams.{Stays}
use Rattle.qs_world_refine.proofs.Taking.{home_apart}

abbrev after_forget : ℕ → World → World
after_forget q old = record old { asked = with_at old.asked q false; refused = with_at old.refused q false }

forget_links : (q a b : ℕ) (w v : World) → Step (Forget q) w v → Stays (link w a b) (link v a b)
forget_links q a b w v s = record { carries = grind (arith, s.5); posted = grind (arith, s.5); closers = grind (arith, s.5); inquiry_put = grind (arith, s.5) }

forget_waiting : (q a b : ℕ) (w v : World) → Step (Forget q) w v → Stays (waiting_link w a b) (waiting_link v a b)
forget_waiting q a b w v s = record { carries = grind (arith, s.5); posted = grind (arith, s.5); closers = grind (arith, s.5); inquiry_put = grind (arith, s.5) }

forget_others : (q k : ℕ) (w v : World) (f : Face) → k ≢ q → ShowsFace f k w → Step (Forget q) w v → ShowsFace f k v
forget_others q k w v f other i s = grind (arith, nat_tests, other, i, s.5)

forget_local : (q : ℕ) (w v : World) → Step (Forget q) w v → Local q w v
forget_local q w v s = record {
  stage = rw s.5 (record { node = refl; class = refl; home = refl; present = refl; up = refl; peer = refl });
  logs = rw s.5 (record { prepared = refl; commit_logged = refl; unended = refl; commit_list = refl });
  links = λ a b. forget_links q a b w v s;
  waiting = λ a b. forget_waiting q a b w v s;
  others = λ k f other i. forget_others q k w v f other i s;
}

-- what the machine has of such a place
record Nothing (q : ℕ) (w : World) : Type 0 where
  sent : (m : ℕ) → w.sent q m ≡ 0
  covered : (m : ℕ) → w.covered q m ≡ 0
  gone : w.gone q ≡ false
  against : w.abort_vote q ≡ false
  voted : (s : ℕ) → Votes w q s → w.served q s ≡ w.voted q s + 0
  told : (m : ℕ) → w.told_set q m ≡ false

forget_open : (q : ℕ) (w v : World) (f : Face) → Nothing q w → ShowsOpen f q w → w.involved q ≡ false → Step (Forget q) w v → ShowsOpen (forgotten_face f) q v
forget_open q w v f none i uninvolved s = record {
  covered = λ m. rw s.5 (none.covered m);
  asked = grind (arith, nat_tests, s.5);
  refused = grind (arith, nat_tests, s.5);
  gone = λ _. rw s.5 none.gone;
  abort_vote = λ _. rw s.5 none.against;
  waits = λ r. rw s.5 (i.waits r);
  uncast = λ r votes. rw s.5 (none.voted r (rw s.5 at votes));
  loans = rw s.5 i.loans;
  involved = rw s.5 uninvolved;
  told = λ m. rw s.5 (none.told m);
}

forget_face : (q : ℕ) (w v : World) (f : Face) → Nothing q w → ShowsFace f q w → f.outcome ≡ Open → f.on ≡ false → Step (Forget q) w v → ShowsFace (forgotten_face f) q v
forget_face q w v f none i undecided off s = record {
  up = grind (arith, i.up, s.5);
  outcome = rw s.5 (i.outcome ∙ undecided);
  engaged = rw s.5 (i.engaged ∙ off);
  superior = λ on. absurd (cc on);
  last = λ on. absurd (cc on);
  last_new = grind (arith, i.last_new, s.5);
  sent = λ _ m. rw s.5 (none.sent m);
  told_in = λ m has. absurd (cc has);
  tell = λ is. absurd (cc is);
  running = λ _. forget_open q w v f none (i.running undecided) s.3 s;
}

pub forget_read : ForgetGoes
forget_read tid x w n lawful shown at elsewhere home_in undecided quiet uninvolved nobody = record {
  next = v;
  leads = record { events = Forget q ∷ []; run = (v, step, refl) };
  shown = local_sight tid x w v n (forgotten_face (x.face n)) shown at.in_run (forget_local q w v step) (forget_face q w v (x.face n) nothing here undecided quiet step);
}
  where
    q : ℕ
    q = place n (x.inc n)

    v : World
    v = after_forget q w

    here : ShowsFace (x.face n) q w
    here = shown.faces n at.in_run at.up

    away : q ≢ w.home
    away = λ e. home_apart tid x w n shown at elsewhere home_in (ap w.node e)

    disengaged : w.engaged q ≡ false
    disengaged = here.engaged ∙ quiet

    free : w.involved q ≡ false
    free = (here.running undecided).involved ∙ uninvolved

    step : Step (Forget q) w v
    step = (here.up, away, disengaged, free, here.outcome ∙ undecided, refl)

    open_at : (s m : ℕ) → Off w q s m
    open_at s m = off w lawful q s m

    sent : (m : ℕ) → w.sent q m ≡ 0
    sent m = none (w.sent q m) ((invariant w lawful).involved q m).sender
      where
        none : (k : ℕ) → (1 ≤ k → w.involved q ≡ true) → k ≡ 0
        none k sender = grind (arith, free, sender)

    nothing : Nothing q w
    nothing = record {
      sent = sent;
      covered = λ m. (open_at 0 m).covered disengaged away ∙ sent m;
      gone = (open_at 0 0).gone disengaged away;
      against = (open_at 0 0).against disengaged away;
      voted = λ s votes. all (w.served q s) (w.arrived q s) (w.voted q s) ((open_at s 0).served disengaged away) ((open_at s 0).voted disengaged away votes);
      told = λ m. (here.running undecided).told m ∙ nobody m;
    }
      where
        all : (a b c : ℕ) → a ≡ b → c ≡ b → a ≡ c + 0
        all a b c e d = omega (arith, e, d)
