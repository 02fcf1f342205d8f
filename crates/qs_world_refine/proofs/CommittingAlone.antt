-- The home is ready, its Commit is on the disk and names nobody: Commit, and End at once.
use Rattle.qs_world_refine.proofs.Words.{◌≡◌, ◌≢◌, ℕ, ◌<◌, ◌≤◌, Bool, true, false, [], ◌∷◌, ◌++◌, arith, refl, sym, ◌∙◌, subst, ap, if◌then◌else◌, list_any, nat_tests, same_tid, Tid, Recovery, found_record, names_transaction, Open, Committed, Commit, End, Leads, Face, ShowsFace, link, waiting_link, place, FaceReady, sight_committed, Sight, ShowsSight, ShowsLog, is_in_doubt}
use Rattle.qs_record.specs.declared.record.Record.TheVariants as records
use Rattle.qs_world_agree.specs.World.{World}
use Rattle.qs_world_agree.specs.Step.{Step}
use Rattle.qs_world_refine.proofs.Around.{faces_around}
use Rattle.qs_world_refine.proofs.Committing.{after_commit, commit_stays, commit_waiting, commit_other, any_last}
use Rattle.qs_world_refine.proofs.EventFaces.{face_commit}
use Rattle.qs_world_refine.proofs.LogEnds.{doubt_ended, untold_ended}
use Rattle.qs_world_refine.proofs.Ready.{is_ready}
use Rattle.qs_world_refine.proofs.Still.{stage_still, at_one}
use Rattle.qs_world_refine.proofs.Streams.{Stays, still, stays_on}

-- ---- End

pub end_face : (h k : ℕ) (w v : World) (f : Face) → ShowsFace f k w → Step (End h) w v → ShowsFace f k v
end_face h k w v f i s = grind (arith, i, s.4)

pub end_links : (h a b : ℕ) (w v : World) → Step (End h) w v → Stays (link w a b) (link v a b)
end_links h a b w v s = record { carries = grind (arith, s.4); posted = grind (arith, s.4); closers = grind (arith, s.4); inquiry_put = grind (arith, s.4) }

pub end_waiting : (h a b : ℕ) (w v : World) → Step (End h) w v → Stays (waiting_link w a b) (waiting_link v a b)
end_waiting h a b w v s = record { carries = grind (arith, s.4); posted = grind (arith, s.4); closers = grind (arith, s.4); inquiry_put = grind (arith, s.4) }

-- ---- both

log_alone : (tid : Tid) (found : Recovery) (v : World) → ((s : ℕ) → v.prepared tid.home.0 s ≡ false) → v.commit_logged ≡ true → v.unended ≡ false → names_transaction tid ≡ true
    → ShowsLog tid tid.home.0 (found_record found (records.Commit tid [])) v
log_alone tid found v clear logged over numbered = record {
  prepared = λ s. clear s ∙ sym (doubt_ended tid s found.prepared);
  committed = λ _. logged ∙ sym (ap (λ (b : Bool). list_any (same_tid tid) (found.committed ++ (if b then tid ∷ [] else []))) numbered ∙ any_last found.committed tid);
  unended = λ _. over ∙ sym (untold_ended tid found.untold);
  named = λ _ stands _. absurd (cc (over, stands));
}

module _ (tid : Tid) (x : Sight) (w : World)
    (shown : ShowsSight tid x w) (n_in : tid.home.0 < x.size) (is_up : x.up tid.home.0 ≡ true) (first_home : x.inc tid.home.0 ≡ tid.inc) (is_home : (x.face tid.home.0).is_home ≡ true)
    (ready : FaceReady (x.face tid.home.0) (place tid.home.0 (x.inc tid.home.0)) w) (nobody : (m : ℕ) → (x.face tid.home.0).told m ≡ false)
    (counts : (m : ℕ) → w.covered (place tid.home.0 (x.inc tid.home.0)) m ≤ w.sent (place tid.home.0 (x.inc tid.home.0)) m) (undecided : w.cell ≡ Open) where
  abbrev mid : World
  mid = after_commit w

  abbrev pub v : World
  v = record (after_commit w) { unended = false }

  home_is : place tid.home.0 (x.inc tid.home.0) ≡ w.home
  home_is = ap (λ (i : ℕ). place tid.home.0 i) first_home ∙ sym shown.stage.home

  here : ShowsFace (x.face tid.home.0) w.home w
  here = subst (λ (q : ℕ). ShowsFace (x.face tid.home.0) q w) home_is (shown.faces tid.home.0 n_in is_up)

  node_is : w.node w.home ≡ tid.home.0
  node_is = ap w.node shown.stage.home ∙ shown.stage.nodes tid.home.0 tid.inc n_in

  commits : Step Commit w mid
  commits = (subst (λ (q : ℕ). Rattle.qs_world_agree.specs.Guards.IsReady w q) home_is (is_ready (x.face tid.home.0) (place tid.home.0 (x.inc tid.home.0)) w counts (shown.faces tid.home.0 n_in is_up) ready), refl)

  face_mid : ShowsFace (record (x.face tid.home.0) { on = false; outcome = Committed }) w.home mid
  face_mid = face_commit w mid (x.face tid.home.0) here is_home commits

  ends : Step (End w.home) mid v
  ends = (face_mid.up, refl, face_mid.outcome, (λ m named. absurd (none m named)), refl)
    where
      none : (m : ℕ) → w.told_set w.home m ≡ true → ⊥
      none m named = let off : w.told_set w.home m ≡ false = (here.running ready.undecided).told m ∙ nobody m in cc (off, named)

  pub after : ShowsSight tid (sight_committed tid x []) v
  after = record {
    stage = stage_still tid x (sight_committed tid x []) w v (record { node = refl; class = refl; home = refl; present = refl; up = refl; peer = refl }) refl refl refl refl shown.stage;
    faces = faces_around x tid.home.0 (record (x.face tid.home.0) { on = false; outcome = Committed }) w v shown.stage.small n_in shown.faces
        (subst (λ (q : ℕ). ShowsFace (record (x.face tid.home.0) { on = false; outcome = Committed }) q v) (sym home_is) (end_face w.home w.home mid v (record (x.face tid.home.0) { on = false; outcome = Committed }) face_mid ends))
        (λ k g apart is. end_face w.home k mid v g (commit_other k w mid g (λ e. apart (e ∙ sym home_is)) is commits) ends);
    links = λ a k b l a_in b_in b_up now. still (x.said a k b l) (link w (place a k) (place b l)) (link v (place a k) (place b l))
        (stays_on (link w (place a k) (place b l)) (link mid (place a k) (place b l)) (link v (place a k) (place b l)) (commit_stays (place a k) (place b l) w mid undecided commits) (end_links w.home (place a k) (place b l) mid v ends)) (shown.links a k b l a_in b_in b_up now);
    unmet = λ a b a_in b_in a_up none. still (x.unmet a b) (waiting_link w (place a (x.inc a)) b) (waiting_link v (place a (x.inc a)) b)
        (stays_on (waiting_link w (place a (x.inc a)) b) (waiting_link mid (place a (x.inc a)) b) (waiting_link v (place a (x.inc a)) b) (commit_waiting (place a (x.inc a)) b w mid undecided commits) (end_waiting w.home (place a (x.inc a)) b mid v ends)) (shown.unmet a b a_in b_in a_up none);
    logs = λ k k_in. at_one (λ (k : ℕ) (f : Recovery). k < x.size → ShowsLog tid k f v) x.found tid.home.0 (found_record (x.found tid.home.0) (records.Commit tid []))
        (λ _. log_alone tid (x.found tid.home.0) v clear refl refl shown.stage.numbered)
        k (λ other k_in. elsewhere k other (shown.logs k k_in)) k_in;
  }
    where
      clear : (s : ℕ) → Rattle.qs_world_agree.specs.World.with_at w.prepared (w.node w.home) (λ (s : ℕ). false) tid.home.0 s ≡ false
      clear s = grind (arith, nat_tests, node_is)

      elsewhere : (k : ℕ) → k ≢ tid.home.0 → ShowsLog tid k (x.found k) w → ShowsLog tid k (x.found k) v
      elsewhere k other i = record { prepared = λ r. at r (i.prepared r); committed = λ is. absurd (other is); unended = λ is. absurd (other is); named = λ is _ _. absurd (other is) }
        where
          at : (r : ℕ) → w.prepared k r ≡ is_in_doubt tid r (x.found k) → Rattle.qs_world_agree.specs.World.with_at w.prepared (w.node w.home) (λ (s : ℕ). false) k r ≡ is_in_doubt tid r (x.found k)
          at r e = grind (arith, nat_tests, node_is, other, e)

  pub leads : Leads w v
  leads = record { events = Commit ∷ End w.home ∷ []; run = (mid, commits, (v, ends, refl)) }
