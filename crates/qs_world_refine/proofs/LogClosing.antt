-- End and Aborted reach the disk: End and Abort_logged.
use Rattle.qs_world_refine.proofs.Words.{◌≡◌, ◌≢◌, ℕ, ◌<◌, Bool, true, false, [], ◌∷◌, arith, refl, sym, ◌∙◌, ap, nat_tests, Recovery, found_record, Committed, Aborted, End, Abort_logged, Face, ShowsFace, link, waiting_link, place, ShowsLog, is_in_doubt}
use Rattle.qs_record.specs.declared.record.Record.TheVariants as records
use Rattle.qs_world_agree.specs.World.{World, with_at}
use Rattle.qs_world_agree.specs.Step.{Step}
use Rattle.qs_world_refine.specs.ClosingLaws.{sight_recorded, EndLoggedGoes, AbortLoggedGoes}
use Rattle.qs_world_refine.proofs.CommittingAlone.{end_face, end_links, end_waiting}
use Rattle.qs_world_refine.proofs.Facts.{invariant}
use Rattle.qs_world_refine.proofs.LogEnds.{doubt_ended, untold_ended}
use Rattle.qs_world_refine.proofs.Still.{stage_still, at_one}
use Rattle.qs_world_refine.proofs.Streams.{Stays, still}
use Rattle.qs_world_refine.proofs.Telling.{home_same}

-- ---- End

pub end_logged : EndLoggedGoes
end_logged tid x w lawful shown at committed all = record {
  next = v;
  leads = record { events = End h ∷ []; run = (v, step, refl) };
  shown = record {
    stage = stage_still tid x (sight_recorded x tid.home.0 (records.End tid)) w v (record { node = refl; class = refl; home = refl; present = refl; up = refl; peer = refl }) refl refl refl refl shown.stage;
    faces = λ k k_in k_up. end_face h (place k (x.inc k)) w v (x.face k) (shown.faces k k_in k_up) step;
    links = λ a k b l a_in b_in b_up now. still (x.said a k b l) (link w (place a k) (place b l)) (link v (place a k) (place b l)) (end_links h (place a k) (place b l) w v step) (shown.links a k b l a_in b_in b_up now);
    unmet = λ a b a_in b_in a_up none. still (x.unmet a b) (waiting_link w (place a (x.inc a)) b) (waiting_link v (place a (x.inc a)) b) (end_waiting h (place a (x.inc a)) b w v step) (shown.unmet a b a_in b_in a_up none);
    logs = λ k k_in. at_one (λ (k : ℕ) (f : Recovery). k < x.size → ShowsLog tid k f v) x.found tid.home.0 (found_record (x.found tid.home.0) (records.End tid)) (λ _. log_here (shown.logs tid.home.0 at.in_run)) k (λ other k_in. log_there k other (shown.logs k k_in)) k_in;
  };
}
  where
    h : ℕ
    h = place tid.home.0 (x.inc tid.home.0)

    v : World
    v = record w { unended = false }

    outcome : w.outcome h ≡ Committed
    outcome = (shown.faces tid.home.0 at.in_run at.up).outcome ∙ committed

    step : Step (End h) w v
    step = ((shown.faces tid.home.0 at.in_run at.up).up, home_same tid x w tid.home.0 shown at refl, outcome, all, refl)

    home_node : w.node w.home ≡ tid.home.0
    home_node = ap w.node shown.stage.home ∙ shown.stage.nodes tid.home.0 tid.inc at.in_run

    clear : (s : ℕ) → w.prepared tid.home.0 s ≡ false
    clear s = ap (λ (k : ℕ). w.prepared k s) (sym home_node) ∙ (lawful.answered (lawful.agreed.knows_commit h outcome)).home_clear s

    log_here : ShowsLog tid tid.home.0 (x.found tid.home.0) w → ShowsLog tid tid.home.0 (found_record (x.found tid.home.0) (records.End tid)) v
    log_here i = record { prepared = λ s. clear s ∙ sym (doubt_ended tid s (x.found tid.home.0).prepared); committed = i.committed; unended = λ _. sym (untold_ended tid (x.found tid.home.0).untold); named = λ _ stands _. absurd (cc stands) }

    log_there : (k : ℕ) → k ≢ tid.home.0 → ShowsLog tid k (x.found k) w → ShowsLog tid k (x.found k) v
    log_there k other i = record { prepared = i.prepared; committed = i.committed; unended = λ is. absurd (other is); named = λ is _ _. absurd (other is) }

-- ---- Abort_logged

abbrev after_logged : ℕ → World → World
after_logged q old = record old { prepared = with_at old.prepared (old.node q) (λ s. false) }

logged_face : (q k : ℕ) (w v : World) (f : Face) → ShowsFace f k w → Step (Abort_logged q) w v → ShowsFace f k v
logged_face q k w v f i s = grind (arith, i, s.2)

logged_links : (q a b : ℕ) (w v : World) → Step (Abort_logged q) w v → Stays (link w a b) (link v a b)
logged_links q a b w v s = record { carries = grind (arith, s.2); posted = grind (arith, s.2); closers = grind (arith, s.2); inquiry_put = grind (arith, s.2) }

logged_waiting : (q a b : ℕ) (w v : World) → Step (Abort_logged q) w v → Stays (waiting_link w a b) (waiting_link v a b)
logged_waiting q a b w v s = record { carries = grind (arith, s.2); posted = grind (arith, s.2); closers = grind (arith, s.2); inquiry_put = grind (arith, s.2) }

pub abort_logged : AbortLoggedGoes
abort_logged tid x w n lawful shown at aborted = record {
  next = v;
  leads = record { events = Abort_logged q ∷ []; run = (v, step, refl) };
  shown = record {
    stage = stage_still tid x (sight_recorded x n (records.Aborted tid)) w v (record { node = refl; class = refl; home = refl; present = refl; up = refl; peer = refl }) refl refl refl refl shown.stage;
    faces = λ k k_in k_up. logged_face q (place k (x.inc k)) w v (x.face k) (shown.faces k k_in k_up) step;
    links = λ a k b l a_in b_in b_up now. still (x.said a k b l) (link w (place a k) (place b l)) (link v (place a k) (place b l)) (logged_links q (place a k) (place b l) w v step) (shown.links a k b l a_in b_in b_up now);
    unmet = λ a b a_in b_in a_up none. still (x.unmet a b) (waiting_link w (place a (x.inc a)) b) (waiting_link v (place a (x.inc a)) b) (logged_waiting q (place a (x.inc a)) b w v step) (shown.unmet a b a_in b_in a_up none);
    logs = λ k k_in. at_one (λ (k : ℕ) (f : Recovery). k < x.size → ShowsLog tid k f v) x.found n (found_record (x.found n) (records.Aborted tid)) (λ _. log_here (shown.logs n at.in_run)) k (λ other k_in. log_there k other (shown.logs k k_in)) k_in;
  };
}
  where
    q : ℕ
    q = place n (x.inc n)

    v : World
    v = after_logged q w

    outcome : w.outcome q ≡ Aborted
    outcome = (shown.faces n at.in_run at.up).outcome ∙ aborted

    step : Step (Abort_logged q) w v
    step = ((shown.faces n at.in_run at.up).up, outcome, refl)

    node_q : w.node q ≡ n
    node_q = shown.stage.nodes n (x.inc n) at.in_run

    -- of what is aborted no Commit stands
    unended : w.unended ≡ false
    unended = by w.unended refl
      where
        by : (b : Bool) → w.unended ≡ b → b ≡ false
        by false is = refl
        by true is = absurd (
            let decided : w.cell ≡ Committed = (invariant w lawful).outcomes.logged ((invariant w lawful).outcomes.stands is) in
            let cell : w.cell ≡ Aborted = lawful.agreed.knows_abort q outcome in cc (decided, cell))

    log_here : ShowsLog tid n (x.found n) w → ShowsLog tid n (found_record (x.found n) (records.Aborted tid)) v
    log_here i = record { prepared = λ s. cleared s ∙ sym (doubt_ended tid s (x.found n).prepared); committed = i.committed; unended = λ _. unended ∙ sym (untold_ended tid (x.found n).untold); named = λ _ stands _. absurd (cc (unended, stands)) }
      where
        cleared : (s : ℕ) → with_at w.prepared (w.node q) (λ (s : ℕ). false) n s ≡ false
        cleared s = grind (arith, nat_tests, node_q)

    log_there : (k : ℕ) → k ≢ n → ShowsLog tid k (x.found k) w → ShowsLog tid k (x.found k) v
    log_there k other i = record { prepared = λ s. at_other s (i.prepared s); committed = i.committed; unended = i.unended; named = i.named }
      where
        at_other : (s : ℕ) → w.prepared k s ≡ is_in_doubt tid s (x.found k) → with_at w.prepared (w.node q) (λ (s : ℕ). false) k s ≡ is_in_doubt tid s (x.found k)
        at_other s e = grind (arith, nat_tests, node_q, other, e)
