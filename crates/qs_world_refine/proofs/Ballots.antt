-- Votes that change the face of a place alone: Vote_read, Vote_volatile and Vote_abort. A vote against a commit counts as cast too.
use Rattle.qs_world_refine.proofs.Words.{◌≡◌, ◌≢◌, ◌⊎◌, inl, inr, ℕ, ◌+◌, ◌≤◌, ◌<◌, true, [], ◌∷◌, arith, refl, ap, ◌∙◌, nat_tests, Tid, class_of, Votes, held, held_at, Vote_read, Vote_volatile, Vote_abort, Face, ShowsFace, link, waiting_link, place, class_in, MayVote, Runs, Sight, ShowsSight}
use Rattle.qs_base.specs.declared.identifiers.Class.TheVariants as classes
use Rattle.qs_world_agree.specs.World.{World, with_at, with_at2}
use Rattle.qs_world_agree.specs.Guards.{VoteDue}
use Rattle.qs_world_agree.specs.Step.{Step}
use Rattle.qs_world_refine.specs.EventLaws.{VoteReadGoes, VoteVolatileGoes, VoteAbortGoes}
use Rattle.qs_world_refine.proofs.EventFaces.{face_vote_read, face_vote_volatile}
use Rattle.qs_world_refine.proofs.Local.{Local, local_sight, both}
use Rattle.qs_world_refine.proofs.Streams.{Stays}

-- ---- Vote_read

abbrev pub after_read : ℕ → ℕ → World → World
after_read q s old = record old {
  voted = with_at2 old.voted q s (old.served q s);
}

read_links : (q s : ℕ) (a b : ℕ) (w v : World) → Step (Vote_read q s) w v → Stays (link w a b) (link v a b)
read_links q s a b w v e = record { carries = grind (arith, e); posted = grind (arith, e); closers = grind (arith, e); inquiry_put = grind (arith, e) }

read_waiting : (q s : ℕ) (a b : ℕ) (w v : World) → Step (Vote_read q s) w v → Stays (waiting_link w a b) (waiting_link v a b)
read_waiting q s a b w v e = record { carries = grind (arith, e); posted = grind (arith, e); closers = grind (arith, e); inquiry_put = grind (arith, e) }

read_others : (q s : ℕ) (k : ℕ) (w v : World) (f : Face) → k ≢ q → ShowsFace f k w → Step (Vote_read q s) w v → ShowsFace f k v
read_others q s k w v f other i e = grind (arith, nat_tests, other, i, e)

pub read_local : (q s : ℕ) (w v : World) → Step (Vote_read q s) w v → Local q w v
read_local q s w v e = record {
  stage = rw e.1 (record { node = refl; class = refl; home = refl; present = refl; up = refl; peer = refl });
  logs = rw e.1 (record { prepared = refl; commit_logged = refl; unended = refl; commit_list = refl });
  links = λ a b. read_links q s a b w v e;
  waiting = λ a b. read_waiting q s a b w v e;
  others = λ k f other i. read_others q s k w v f other i e;
}

-- ---- Vote_volatile

abbrev pub after_volatile : ℕ → ℕ → World → World
after_volatile q s old = record old {
  voted = with_at2 old.voted q s (old.served q s);
  involved = with_at old.involved q true;
  way = with_at old.way (old.node q) (held (old.way (old.node q)));
  holder = with_at old.holder (old.node q) (held_at (old.way (old.node q)) q (old.holder (old.node q)));
}

volatile_links : (q s : ℕ) (a b : ℕ) (w v : World) → Step (Vote_volatile q s) w v → Stays (link w a b) (link v a b)
volatile_links q s a b w v e = record { carries = grind (arith, e); posted = grind (arith, e); closers = grind (arith, e); inquiry_put = grind (arith, e) }

volatile_waiting : (q s : ℕ) (a b : ℕ) (w v : World) → Step (Vote_volatile q s) w v → Stays (waiting_link w a b) (waiting_link v a b)
volatile_waiting q s a b w v e = record { carries = grind (arith, e); posted = grind (arith, e); closers = grind (arith, e); inquiry_put = grind (arith, e) }

volatile_others : (q s : ℕ) (k : ℕ) (w v : World) (f : Face) → k ≢ q → ShowsFace f k w → Step (Vote_volatile q s) w v → ShowsFace f k v
volatile_others q s k w v f other i e = grind (arith, nat_tests, other, i, e)

pub volatile_local : (q s : ℕ) (w v : World) → Step (Vote_volatile q s) w v → Local q w v
volatile_local q s w v e = record {
  stage = rw e.2 (record { node = refl; class = refl; home = refl; present = refl; up = refl; peer = refl });
  logs = rw e.2 (record { prepared = refl; commit_logged = refl; unended = refl; commit_list = refl });
  links = λ a b. volatile_links q s a b w v e;
  waiting = λ a b. volatile_waiting q s a b w v e;
  others = λ k f other i. volatile_others q s k w v f other i e;
}

-- ---- Vote_abort

abbrev pub after_against : ℕ → ℕ → World → World
after_against q s old = record old {
  abort_vote = with_at old.abort_vote q true;
}

against_links : (q s : ℕ) (a b : ℕ) (w v : World) → Step (Vote_abort q s) w v → Stays (link w a b) (link v a b)
against_links q s a b w v e = record { carries = grind (arith, e); posted = grind (arith, e); closers = grind (arith, e); inquiry_put = grind (arith, e) }

against_waiting : (q s : ℕ) (a b : ℕ) (w v : World) → Step (Vote_abort q s) w v → Stays (waiting_link w a b) (waiting_link v a b)
against_waiting q s a b w v e = record { carries = grind (arith, e); posted = grind (arith, e); closers = grind (arith, e); inquiry_put = grind (arith, e) }

against_others : (q s : ℕ) (k : ℕ) (w v : World) (f : Face) → k ≢ q → ShowsFace f k w → Step (Vote_abort q s) w v → ShowsFace f k v
against_others q s k w v f other i e = grind (arith, nat_tests, other, i, e)

pub against_local : (q s : ℕ) (w v : World) → Step (Vote_abort q s) w v → Local q w v
against_local q s w v e = record {
  stage = rw e.1 (record { node = refl; class = refl; home = refl; present = refl; up = refl; peer = refl });
  logs = rw e.1 (record { prepared = refl; commit_logged = refl; unended = refl; commit_list = refl });
  links = λ a b. against_links q s a b w v e;
  waiting = λ a b. against_waiting q s a b w v e;
  others = λ k f other i. against_others q s k w v f other i e;
}

against_face : (q s : ℕ) (w v : World) (f : Face) → ShowsFace f q w → Step (Vote_abort q s) w v → ShowsFace (record f { blocked = true }) q v
against_face q s w v f i e = grind (arith, nat_tests, i, e)

-- ---- where a vote is due

votes_here : (tid : Tid) (x : Sight) (w : World) (n s : ℕ) → ShowsSight tid x w → (class_of s ≡ classes.Recoverable) ⊎ (class_of s ≡ classes.Volatile) → Votes w (place n (x.inc n)) s
votes_here tid x w n s shown (inl is) = inl (shown.stage.classes (w.node (place n (x.inc n))) s ∙ ap class_in is)
votes_here tid x w n s shown (inr is) = inr (shown.stage.classes (w.node (place n (x.inc n))) s ∙ ap class_in is)

due_here : (tid : Tid) (x : Sight) (w : World) (n s : ℕ) → ShowsSight tid x w → Runs x n → MayVote (x.face n) s → Votes w (place n (x.inc n)) s → VoteDue w (place n (x.inc n)) s
due_here tid x w n s shown at may votes = (here.up, running.asked ∙ may.asked, here.outcome ∙ may.undecided, (served_all, running.loans ∙ may.unlent), votes, more (running.uncast s votes) may.due)
  where
    here : ShowsFace (x.face n) (place n (x.inc n)) w
    here = shown.faces n at.in_run at.up

    running : Rattle.qs_world_refine.specs.Faces.ShowsOpen (x.face n) (place n (x.inc n)) w
    running = here.running may.undecided

    served_all : (r : ℕ) → w.served (place n (x.inc n)) r ≡ w.arrived (place n (x.inc n)) r
    served_all r = let e = running.waits r in let z = may.idle r in omega (arith, e, z)

    more : w.served (place n (x.inc n)) s ≡ w.voted (place n (x.inc n)) s + (x.face n).uncast s → 1 ≤ (x.face n).uncast s → w.voted (place n (x.inc n)) s < w.served (place n (x.inc n)) s
    more e due = omega (arith, e, due)

pub vote_read : VoteReadGoes
vote_read tid x w n s shown at may class =
    let q = place n (x.inc n) in
    let v = after_read q s w in
    let step : Step (Vote_read q s) w v = (due_here tid x w n s shown at may (votes_here tid x w n s shown class), refl) in
    record {
      next = v;
      leads = record { events = Vote_read q s ∷ []; run = (v, step, refl) };
      shown = local_sight tid x w v n (record (x.face n) { uncast = with_at (x.face n).uncast s 0 }) shown at.in_run (read_local q s w v step) (face_vote_read q s w v (x.face n) (shown.faces n at.in_run at.up) step);
    }

pub vote_volatile : VoteVolatileGoes
vote_volatile tid x w n s shown at may class =
    let q = place n (x.inc n) in
    let v = after_volatile q s w in
    let step : Step (Vote_volatile q s) w v = (due_here tid x w n s shown at may (votes_here tid x w n s shown (inr class)), shown.stage.classes (w.node q) s ∙ ap class_in class, refl) in
    record {
      next = v;
      leads = record { events = Vote_volatile q s ∷ []; run = (v, step, refl) };
      shown = local_sight tid x w v n (record (x.face n) { uncast = with_at (x.face n).uncast s 0; involved = true }) shown at.in_run (volatile_local q s w v step) (face_vote_volatile q s w v (x.face n) (shown.faces n at.in_run at.up) step);
    }

-- a vote against a commit, and then as one that only read
pub vote_abort : VoteAbortGoes
vote_abort tid x w n s shown at may class =
    let q = place n (x.inc n) in
    let u = after_against q s w in
    let v = after_read q s u in
    let votes = votes_here tid x w n s shown class in
    let due = due_here tid x w n s shown at may votes in
    let step : Step (Vote_abort q s) w u = (due, refl) in
    let second : Step (Vote_read q s) u v = (due, refl) in
    record {
      next = v;
      leads = record { events = Vote_abort q s ∷ Vote_read q s ∷ []; run = (u, step, (v, second, refl)) };
      shown = local_sight tid x w v n (record (x.face n) { uncast = with_at (x.face n).uncast s 0; blocked = true }) shown at.in_run
          (both q w u v (against_local q s w u step) (read_local q s u v second))
          (face_vote_read q s u v (record (x.face n) { blocked = true }) (against_face q s w u (x.face n) (shown.faces n at.in_run at.up) step) second);
    }
