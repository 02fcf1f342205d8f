-- The home takes in that a node acknowledged the commit: Take_told.
use Rattle.qs_world_refine.proofs.Words.{◌≡◌, inl, inr, ℕ, true, false, List, [], ◌∷◌, arith, refl, ◌∙◌, subst, nat_tests, Tid, Committed, Take_told, Face, ShowsFace, Said, Taken_in, link, waiting_link, IsLink, place, Sight, ShowsSight}
use Rattle.qs_world_agree.specs.World.{World, with_at}
use Rattle.qs_world_agree.specs.Step.{Step}
use Rattle.qs_world_refine.specs.Links.{is_aborted, IsTaken}
use Rattle.qs_world_refine.specs.OutcomeLaws.{TakeToldGoes}
use Rattle.qs_world_refine.proofs.Learning.{uncounted_taken}
use Rattle.qs_world_refine.proofs.Still.{SameStage, stage_still, SameLogs, log_still}
use Rattle.qs_world_refine.proofs.Streams.{Stays, still}
use Rattle.qs_world_refine.proofs.Telling.{home_same}

-- an event that changes nothing of what is seen
pub unseen_sight : (tid : Tid) (x : Sight) (w v : World) → ShowsSight tid x w → SameStage w v → SameLogs w v → ((a b : ℕ) → Stays (link w a b) (link v a b)) → ((a b : ℕ) → Stays (waiting_link w a b) (waiting_link v a b))
    → ((k : ℕ) (f : Face) → ShowsFace f k w → ShowsFace f k v) → ShowsSight tid x v
unseen_sight tid x w v shown stage logs links waiting faces = record {
  stage = stage_still tid x x w v stage refl refl refl refl shown.stage;
  faces = λ n n_in n_up. faces (place n (x.inc n)) (x.face n) (shown.faces n n_in n_up);
  links = λ a k b l a_in b_in b_up now. still (x.said a k b l) (link w (place a k) (place b l)) (link v (place a k) (place b l)) (links (place a k) (place b l)) (shown.links a k b l a_in b_in b_up now);
  unmet = λ a b a_in b_in a_up none. still (x.unmet a b) (waiting_link w (place a (x.inc a)) b) (waiting_link v (place a (x.inc a)) b) (waiting (place a (x.inc a)) b) (shown.unmet a b a_in b_in a_up none);
  logs = λ k k_in. log_still tid k (x.found k) w v logs (shown.logs k k_in);
}

abbrev after_told : ℕ → World → World
after_told q old = record old { acknowledged = with_at old.acknowledged (old.node q) true }

told_links : (h q a b : ℕ) (w v : World) → Step (Take_told h q) w v → Stays (link w a b) (link v a b)
told_links h q a b w v s = record { carries = grind (arith, s.3); posted = grind (arith, s.3); closers = grind (arith, s.3); inquiry_put = grind (arith, s.3) }

told_waiting : (h q a b : ℕ) (w v : World) → Step (Take_told h q) w v → Stays (waiting_link w a b) (waiting_link v a b)
told_waiting h q a b w v s = record { carries = grind (arith, s.3); posted = grind (arith, s.3); closers = grind (arith, s.3); inquiry_put = grind (arith, s.3) }

told_face : (h q k : ℕ) (w v : World) (f : Face) → ShowsFace f k w → Step (Take_told h q) w v → ShowsFace f k v
told_face h q k w v f i s = grind (arith, i, s.3)

pub take_told : TakeToldGoes
take_told tid x w n m i further rest lawful shown at peer head committed home = record {
  next = v;
  leads = record { events = Take_told h q ∷ []; run = (v, step, refl) };
  shown = unseen_sight tid _ w v (uncounted_taken tid x w n m i rest shown at peer before.1)
      (record { node = refl; class = refl; home = refl; present = refl; up = refl; peer = refl }) (record { prepared = refl; commit_logged = refl; unended = refl; commit_list = refl })
      (λ a b. told_links h q a b w v step) (λ a b. told_waiting h q a b w v step) (λ k f is. told_face h q k w v f is step);
  taken = now (w.node q) node_q;
  kept = λ k is. grind (arith, nat_tests, is);
}
  where
    h : ℕ
    h = place n (x.inc n)

    q : ℕ
    q = place m i

    v : World
    v = after_told q w

    node_q : w.node q ≡ m
    node_q = shown.stage.nodes m i peer.in_run

    before : IsLink (link w q h) (Taken_in further ∷ rest)
    before = subst (λ (l : List Said). IsLink (link w q h) l) head (shown.links m i n (x.inc n) peer.in_run at.in_run at.up refl)

    outcome : w.outcome h ≡ Committed
    outcome = (shown.faces n at.in_run at.up).outcome ∙ committed

    acked : IsTaken (link w q h) further → w.ack_put q ≡ true
    acked (inl is) = is.0
    acked (inr is) = absurd (let open_cell : is_aborted w ≡ false = rw (lawful.agreed.knows_commit h outcome) refl in let is_it : is_aborted w ≡ true = is.0 in cc (is_it, open_cell))

    step : Step (Take_told h q) w v
    step = ((shown.faces n at.in_run at.up).up, home_same tid x w n shown at home, acked before.0, refl)

    now : (k : ℕ) → k ≡ m → with_at w.acknowledged k true m ≡ true
    now k is = grind (arith, nat_tests, is)
