-- A node that is told abort learns it, or names again whom it drew in: Learn_abort and Name_again.
use Rattle.qs_world_refine.proofs.Words.{◌≡◌, ◌≢◌, ℕ, ◌<◌, ◌==◌, Bool, true, false, [], ◌∷◌, arith, refl, sym, ◌∙◌, ap, if◌then◌else◌, nat_tests, Tid, Open, Committed, Aborted, Learn_abort, Name_again, Face, ShowsFace, link, waiting_link, place, Runs, drew, Sight, ShowsSight}
use Rattle.qs_world_agree.specs.World.{World, with_at}
use Rattle.qs_world_agree.specs.Guards.{drawn, names}
use Rattle.qs_world_agree.specs.Step.{Step}
use Rattle.qs_world_refine.specs.EventLaws.{LearnAbortGoes, NameAgainGoes}
use Rattle.qs_world_refine.proofs.FreshRuns.{fresh}
use Rattle.qs_world_refine.proofs.Local.{Local, local_sight}
use Rattle.qs_world_refine.proofs.Streams.{Stays}
use Rattle.qs_world_refine.proofs.Taking.{home_apart}

-- whom a face drew in, the machine has among those whom it names
named_so : (tid : Tid) (x : Sight) (w : World) (n k : ℕ) → ShowsSight tid x w → Runs x n → tid.home.0 < x.size → (x.face n).outcome ≢ Committed → k ≢ tid.home.0 → drew (x.face n) k ≡ true → names w (place n (x.inc n)) k ≡ true
named_so tid x w n k shown at home_in running other has = not_home (k == w.node w.home) (apart (w.node w.home) home_node) (by ((x.face n).told k) refl has)
  where
    here : ShowsFace (x.face n) (place n (x.inc n)) w
    here = shown.faces n at.in_run at.up

    home_node : w.node w.home ≡ tid.home.0
    home_node = ap w.node shown.stage.home ∙ shown.stage.nodes tid.home.0 tid.inc home_in

    apart : (h : ℕ) → h ≡ tid.home.0 → (k == h) ≡ false
    apart h is = grind (arith, nat_tests, other, is)

    not_home : (b : Bool) → b ≡ false → drawn w (place n (x.inc n)) k ≡ true → (if b then false else drawn w (place n (x.inc n)) k) ≡ true
    not_home b is has = rw is has

    by : (b : Bool) → (x.face n).told k ≡ b → (if b then true else (if (x.face n).sent k == 0 then false else true)) ≡ true → drawn w (place n (x.inc n)) k ≡ true
    by true is _ = rw (here.told_in k is) refl
    by false is has = rw (here.sent running k) (either (w.told_set (place n (x.inc n)) k) has)
      where
        either : (b : Bool) → (if (x.face n).sent k == 0 then false else true) ≡ true → (if b then true else (if (x.face n).sent k == 0 then false else true)) ≡ true
        either true has = refl
        either false has = has

-- ---- Name_again

abbrev pub after_name : ℕ → World → World
after_name q old = record old {
  named = with_at old.named q (λ n. if old.named q n then true else names old q n);
}

name_links : (q : ℕ) (a b : ℕ) (w v : World) → Step (Name_again q) w v → Stays (link w a b) (link v a b)
name_links q a b w v e = record { carries = grind (arith, nat_tests, e); posted = grind (arith, e); closers = grind (arith, e); inquiry_put = grind (arith, e) }

name_waiting : (q : ℕ) (a b : ℕ) (w v : World) → Step (Name_again q) w v → Stays (waiting_link w a b) (waiting_link v a b)
name_waiting q a b w v e = record { carries = grind (arith, nat_tests, e); posted = grind (arith, e); closers = grind (arith, e); inquiry_put = grind (arith, e) }

name_others : (q : ℕ) (k : ℕ) (w v : World) (f : Face) → k ≢ q → ShowsFace f k w → Step (Name_again q) w v → ShowsFace f k v
name_others q k w v f other i e = grind (arith, nat_tests, other, i, e)

pub name_local : (q : ℕ) (w v : World) → Step (Name_again q) w v → Local q w v
name_local q w v e = record {
  stage = rw e.3 (record { node = refl; class = refl; home = refl; present = refl; up = refl; peer = refl });
  logs = rw e.3 (record { prepared = refl; commit_logged = refl; unended = refl; commit_list = refl });
  links = λ a b. name_links q a b w v e;
  waiting = λ a b. name_waiting q a b w v e;
  others = λ k f other i. name_others q k w v f other i e;
}

name_face : (q : ℕ) (w v : World) (f : Face) → ShowsFace f q w → Step (Name_again q) w v → ShowsFace f q v
name_face q w v f i e = grind (arith, nat_tests, i, e)

pub name_again : NameAgainGoes
name_again tid x w n shown at aborted elsewhere home_in = record {
  next = after_name (place n (x.inc n)) w;
  leads = record { events = Name_again (place n (x.inc n)) ∷ []; run = (after_name (place n (x.inc n)) w, step, refl) };
  shown = local_sight tid x w (after_name (place n (x.inc n)) w) n (x.face n) shown at.in_run (name_local (place n (x.inc n)) w (after_name (place n (x.inc n)) w) step) (name_face (place n (x.inc n)) w (after_name (place n (x.inc n)) w) (x.face n) here step);
  named = λ k other has. now k (named_so tid x w n k shown at home_in (λ e. cc (e, aborted)) other has);
}
  where
    here : ShowsFace (x.face n) (place n (x.inc n)) w
    here = shown.faces n at.in_run at.up

    now : (k : ℕ) → names w (place n (x.inc n)) k ≡ true → with_at w.named (place n (x.inc n)) (λ m. if w.named (place n (x.inc n)) m then true else names w (place n (x.inc n)) m) (place n (x.inc n)) k ≡ true
    now k has = here_is (place n (x.inc n) == place n (x.inc n)) (grind (arith, nat_tests)) (w.named (place n (x.inc n)) k)
      where
        either : (b : Bool) → (if b then true else names w (place n (x.inc n)) k) ≡ true
        either true = refl
        either false = has

        here_is : (b : Bool) → b ≡ true → (c : Bool) → (if b then (λ (m : ℕ). if w.named (place n (x.inc n)) m then true else names w (place n (x.inc n)) m) else w.named (place n (x.inc n))) k ≡ true
        here_is b is c = rw is (either (w.named (place n (x.inc n)) k))

    step : Step (Name_again (place n (x.inc n))) w (after_name (place n (x.inc n)) w)
    step = (here.up, home_apart tid x w n shown at elsewhere home_in, here.outcome ∙ aborted, refl)

-- ---- Learn_abort

abbrev pub after_abort : ℕ → World → World
after_abort q old = record old {
  outcome = with_at old.outcome q Aborted;
  named = with_at old.named q (names old q);
  learnt_abort = with_at old.learnt_abort (old.node q) true;
}

abort_links : (q : ℕ) (a b : ℕ) (w v : World) → ((m : ℕ) → w.named q m ≡ false) → Step (Learn_abort q) w v → Stays (link w a b) (link v a b)
abort_links q a b w v none e = record { carries = grind (arith, nat_tests, none, e); posted = grind (arith, e); closers = grind (arith, e); inquiry_put = grind (arith, e) }

abort_waiting : (q : ℕ) (a b : ℕ) (w v : World) → ((m : ℕ) → w.named q m ≡ false) → Step (Learn_abort q) w v → Stays (waiting_link w a b) (waiting_link v a b)
abort_waiting q a b w v none e = record { carries = grind (arith, nat_tests, none, e); posted = grind (arith, e); closers = grind (arith, e); inquiry_put = grind (arith, e) }

abort_others : (q : ℕ) (k : ℕ) (w v : World) (f : Face) → k ≢ q → ShowsFace f k w → Step (Learn_abort q) w v → ShowsFace f k v
abort_others q k w v f other i e = grind (arith, nat_tests, other, i, e)

pub abort_local : (q : ℕ) (w v : World) → ((m : ℕ) → w.named q m ≡ false) → Step (Learn_abort q) w v → Local q w v
abort_local q w v none e = record {
  stage = rw e.2 (record { node = refl; class = refl; home = refl; present = refl; up = refl; peer = refl });
  logs = rw e.2 (record { prepared = refl; commit_logged = refl; unended = refl; commit_list = refl });
  links = λ a b. abort_links q a b w v none e;
  waiting = λ a b. abort_waiting q a b w v none e;
  others = λ k f other i. abort_others q k w v f other i e;
}

abort_face : (q : ℕ) (w v : World) (f : Face) → f.outcome ≡ Open → ((m : ℕ) → f.tell m ≡ false) → ShowsFace f q w → Step (Learn_abort q) w v → ShowsFace (record f { outcome = Aborted }) q v
abort_face q w v f undecided nobody i e = record {
  up = grind (arith, i.up, e);
  outcome = grind (arith, nat_tests, e);
  engaged = grind (arith, i.engaged, e);
  superior = grind (arith, i.superior, e);
  last = grind (arith, i.last, e);
  last_new = grind (arith, i.last_new, e);
  sent = λ _ m. rw e.2 (i.sent (λ is. cc (is, undecided)) m);
  told_in = grind (arith, i.told_in, e);
  tell = λ _ m has. absurd (none m has);
  running = λ is. absurd (cc is);
}
  where
    none : (m : ℕ) → f.tell m ≡ true → ⊥
    none m has = let off : f.tell m ≡ false = nobody m in cc (has, off)

pub learn_abort : LearnAbortGoes
learn_abort tid x w n lawful shown at undecided told met elsewhere home_in nobody = record {
  next = after_abort (place n (x.inc n)) w;
  leads = record { events = Learn_abort (place n (x.inc n)) ∷ []; run = (after_abort (place n (x.inc n)) w, step, refl) };
  shown = local_sight tid x w (after_abort (place n (x.inc n)) w) n (record (x.face n) { outcome = Aborted }) shown at.in_run (abort_local (place n (x.inc n)) w (after_abort (place n (x.inc n)) w) unnamed step)
      (abort_face (place n (x.inc n)) w (after_abort (place n (x.inc n)) w) (x.face n) undecided nobody here step);
  named = λ k other has. now k (named_so tid x w n k shown at home_in (λ e. cc (e, undecided)) other has);
}
  where
    here : ShowsFace (x.face n) (place n (x.inc n)) w
    here = shown.faces n at.in_run at.up

    now : (k : ℕ) → names w (place n (x.inc n)) k ≡ true → with_at w.named (place n (x.inc n)) (names w (place n (x.inc n))) (place n (x.inc n)) k ≡ true
    now k has = here_is (place n (x.inc n) == place n (x.inc n)) (grind (arith, nat_tests))
      where
        here_is : (b : Bool) → b ≡ true → (if b then names w (place n (x.inc n)) else w.named (place n (x.inc n))) k ≡ true
        here_is b is = rw is has

    unnamed : (m : ℕ) → w.named (place n (x.inc n)) m ≡ false
    unnamed = (fresh w lawful (place n (x.inc n)) 0).unnamed (here.outcome ∙ undecided)

    node_q : w.node (place n (x.inc n)) ≡ n
    node_q = shown.stage.nodes n (x.inc n) at.in_run

    home_node : w.node w.home ≡ tid.home.0
    home_node = ap w.node shown.stage.home ∙ shown.stage.nodes tid.home.0 tid.inc home_in

    step : Step (Learn_abort (place n (x.inc n))) w (after_abort (place n (x.inc n)) w)
    step = ((ap w.tell_abort node_q ∙ told, here.up, home_apart tid x w n shown at elsewhere home_in, (λ e. met (sym (ap (w.peer (place n (x.inc n))) home_node) ∙ e))), here.outcome ∙ undecided, refl)
