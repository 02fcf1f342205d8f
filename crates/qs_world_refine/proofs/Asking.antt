-- What is asked, given back and issued at a place: Ask, Yield and Issue_local change its face alone.
use Rattle.qs_world_refine.proofs.Words.{◌≡◌, ◌≢◌, ◌⊎◌, inl, inr, ℕ, ◌+◌, ◌≤◌, true, [], ◌∷◌, arith, refl, ◌∙◌, nat_tests, Open, Ask, Yield, Issue_local, Face, ShowsFace, link, waiting_link, place}
use Rattle.qs_world_agree.specs.World.{World, with_at, with_at2}
use Rattle.qs_world_agree.specs.Step.{Step}
use Rattle.qs_world_refine.specs.EventLaws.{AskGoes, YieldGoes, IssueLocalGoes}
use Rattle.qs_world_refine.proofs.EventFaces.{face_issue_local}
use Rattle.qs_world_refine.proofs.Local.{Local, local_sight}
use Rattle.qs_world_refine.proofs.Streams.{Stays}

-- ---- Ask

abbrev pub after_ask : ℕ → World → World
after_ask q old = record old {
  asked = with_at old.asked q true;
}

ask_links : (q : ℕ) (a b : ℕ) (w v : World) → Step (Ask q) w v → Stays (link w a b) (link v a b)
ask_links q a b w v e = record { carries = grind (arith, e); posted = grind (arith, e); closers = grind (arith, e); inquiry_put = grind (arith, e) }

ask_waiting : (q : ℕ) (a b : ℕ) (w v : World) → Step (Ask q) w v → Stays (waiting_link w a b) (waiting_link v a b)
ask_waiting q a b w v e = record { carries = grind (arith, e); posted = grind (arith, e); closers = grind (arith, e); inquiry_put = grind (arith, e) }

ask_others : (q : ℕ) (k : ℕ) (w v : World) (f : Face) → k ≢ q → ShowsFace f k w → Step (Ask q) w v → ShowsFace f k v
ask_others q k w v f other i e = grind (arith, nat_tests, other, i, e)

pub ask_local : (q : ℕ) (w v : World) → Step (Ask q) w v → Local q w v
ask_local q w v e = record {
  stage = rw e.1 (record { node = refl; class = refl; home = refl; present = refl; up = refl; peer = refl });
  logs = rw e.1 (record { prepared = refl; commit_logged = refl; unended = refl; commit_list = refl });
  links = λ a b. ask_links q a b w v e;
  waiting = λ a b. ask_waiting q a b w v e;
  others = λ k f other i. ask_others q k w v f other i e;
}

ask_face : (q : ℕ) (w v : World) (f : Face) → ShowsFace f q w → Step (Ask q) w v → ShowsFace (record f { asked = true }) q v
ask_face q w v f i e = grind (arith, nat_tests, i, e)

pub ask : AskGoes
ask tid x w n shown at =
    let q = place n (x.inc n) in
    let step : Step (Ask q) w (after_ask q w) = ((shown.faces n at.in_run at.up).up, refl) in
    record {
      next = after_ask q w;
      leads = record { events = Ask q ∷ []; run = (after_ask q w, step, refl) };
      shown = local_sight tid x w (after_ask q w) n (record (x.face n) { asked = true }) shown at.in_run (ask_local q w (after_ask q w) step) (ask_face q w (after_ask q w) (x.face n) (shown.faces n at.in_run at.up) step);
    }

-- ---- Yield

abbrev pub after_yield : ℕ → ℕ → World → World
after_yield q left old = record old { loans = with_at old.loans q left }

yield_links : (q : ℕ) (a b : ℕ) (w v : World) → Step (Yield q) w v → Stays (link w a b) (link v a b)
yield_links q a b w v e = record { carries = grind (arith, e); posted = grind (arith, e); closers = grind (arith, e); inquiry_put = grind (arith, e) }

yield_waiting : (q : ℕ) (a b : ℕ) (w v : World) → Step (Yield q) w v → Stays (waiting_link w a b) (waiting_link v a b)
yield_waiting q a b w v e = record { carries = grind (arith, e); posted = grind (arith, e); closers = grind (arith, e); inquiry_put = grind (arith, e) }

yield_others : (q : ℕ) (k : ℕ) (w v : World) (f : Face) → k ≢ q → ShowsFace f k w → Step (Yield q) w v → ShowsFace f k v
yield_others q k w v f other i e = grind (arith, nat_tests, other, i, e)

pub yield_local : (q : ℕ) (w v : World) → Step (Yield q) w v → Local q w v
yield_local q w v e = record {
  stage = rw e.2.2 (record { node = refl; class = refl; home = refl; present = refl; up = refl; peer = refl });
  logs = rw e.2.2 (record { prepared = refl; commit_logged = refl; unended = refl; commit_list = refl });
  links = λ a b. yield_links q a b w v e;
  waiting = λ a b. yield_waiting q a b w v e;
  others = λ k f other i. yield_others q k w v f other i e;
}

yield_face : (q left : ℕ) (w v : World) (f : Face) → f.loans ≡ left + 1 → f.outcome ≡ Open → ShowsFace f q w → Step (Yield q) w v → ShowsFace (record f { loans = left }) q v
yield_face q left w v f one undecided i e = grind (arith, nat_tests, one, undecided, i, e)

pub yield : YieldGoes
yield tid x w n left shown at undecided one =
    let q = place n (x.inc n) in
    let here = shown.faces n at.in_run at.up in
    let lent : w.loans q ≡ left + 1 = (here.running undecided).loans ∙ one in
    let step : Step (Yield q) w (after_yield q left w) = (here.up, grind (arith, lent), (left, lent, refl)) in
    record {
      next = after_yield q left w;
      leads = record { events = Yield q ∷ []; run = (after_yield q left w, step, refl) };
      shown = local_sight tid x w (after_yield q left w) n (record (x.face n) { loans = left }) shown at.in_run (yield_local q w (after_yield q left w) step) (yield_face q left w (after_yield q left w) (x.face n) one undecided here step);
    }

-- ---- Issue_local

abbrev pub after_issue_local : ℕ → ℕ → World → World
after_issue_local p s old = record old {
  arrived = with_at2 old.arrived p s (old.arrived p s + 1);
}

issue_local_links : (p s : ℕ) (a b : ℕ) (w v : World) → Step (Issue_local p s) w v → Stays (link w a b) (link v a b)
issue_local_links p s a b w v e = record { carries = grind (arith, e); posted = grind (arith, e); closers = grind (arith, e); inquiry_put = grind (arith, e) }

issue_local_waiting : (p s : ℕ) (a b : ℕ) (w v : World) → Step (Issue_local p s) w v → Stays (waiting_link w a b) (waiting_link v a b)
issue_local_waiting p s a b w v e = record { carries = grind (arith, e); posted = grind (arith, e); closers = grind (arith, e); inquiry_put = grind (arith, e) }

issue_local_others : (p s : ℕ) (k : ℕ) (w v : World) (f : Face) → k ≢ p → ShowsFace f k w → Step (Issue_local p s) w v → ShowsFace f k v
issue_local_others p s k w v f other i e = grind (arith, nat_tests, other, i, e)

pub issue_local_local : (p s : ℕ) (w v : World) → Step (Issue_local p s) w v → Local p w v
issue_local_local p s w v e = record {
  stage = rw e.1 (record { node = refl; class = refl; home = refl; present = refl; up = refl; peer = refl });
  logs = rw e.1 (record { prepared = refl; commit_logged = refl; unended = refl; commit_list = refl });
  links = λ a b. issue_local_links p s a b w v e;
  waiting = λ a b. issue_local_waiting p s a b w v e;
  others = λ k f other i. issue_local_others p s k w v f other i e;
}

pub issue_local : IssueLocalGoes
issue_local tid x w n s shown at may =
    let p = place n (x.inc n) in
    let here = shown.faces n at.in_run at.up in
    let step : Step (Issue_local p s) w (after_issue_local p s w) = ((here.up, lent may), refl) in
    record {
      next = after_issue_local p s w;
      leads = record { events = Issue_local p s ∷ []; run = (after_issue_local p s w, step, refl) };
      shown = local_sight tid x w (after_issue_local p s w) n (record (x.face n) { waits = with_at (x.face n).waits s ((x.face n).waits s + 1) }) shown at.in_run (issue_local_local p s w (after_issue_local p s w) step) (face_issue_local p s w (after_issue_local p s w) (x.face n) here step);
    }
  where
    lent : ((x.face n).on ≡ true) ⊎ (((x.face n).outcome ≡ Open) × (1 ≤ (x.face n).loans)) → (w.engaged (place n (x.inc n)) ≡ true) ⊎ (1 ≤ w.loans (place n (x.inc n)))
    lent (inl on) = inl ((shown.faces n at.in_run at.up).engaged ∙ on)
    lent (inr has) = inr (rw (((shown.faces n at.in_run at.up).running has.0).loans) has.1)
