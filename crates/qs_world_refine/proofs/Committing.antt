-- The home is ready and forces its Commit: Commit, and End at once where nobody is named.
use Rattle.qs_world_refine.proofs.Words.{◌≡◌, ◌≢◌, ℕ, ◌<◌, ◌≤◌, ◌==◌, ◌&&◌, ◌||◌, not, Bool, true, false, List, [], ◌∷◌, ◌++◌, arith, refl, sym, ◌∙◌, subst, ap, if◌then◌else◌, map, filter, list_any, flat_map, nat_tests, same_tid, NodeNo, Tid, Open, Committed, Commit, Leads, names_node, node_no, link, waiting_link, Prepared, Untold, Recovery, found_record, is_vote_of, is_untold_of, mark_committed, names_transaction, place, Face, ShowsFace, server_no, Sight, ShowsSight, ShowsLog, is_in_doubt}
use Rattle.qs_world_refine.proofs.Words.{FaceReady, sight_committed}
use Rattle.qs_record.specs.declared.record.Record.TheVariants as records
use Rattle.qs_world_agree.specs.World.{World, with_at}
use Rattle.qs_world_agree.specs.Step.{Step}
use Rattle.qs_world_agree.specs.Guards.{IsReady}
use Rattle.qs_world_refine.proofs.EventFaces.{face_commit}
use Rattle.qs_world_refine.proofs.Streams.{Stays, still}
use Rattle.qs_world_refine.proofs.Still.{stage_still, at_one}
use Rattle.qs_world_refine.proofs.Around.{faces_around}
use Rattle.qs_world_refine.proofs.Ready.{is_ready}
use Rattle.qs_world_refine.proofs.Same.{tid_same}

abbrev pub after_commit : World → World
after_commit old = record old {
  engaged = with_at old.engaged old.home false;
  outcome = with_at old.outcome old.home Committed;
  prepared = with_at old.prepared (old.node old.home) (λ s. false);
  commit_logged = true;
  unended = true;
  commit_list = old.told_set old.home;
  cell = Committed;
  learnt_commit = with_at old.learnt_commit (old.node old.home) true;
}

pub commit_stays : (a b : ℕ) (w v : World) → w.cell ≡ Open → Step Commit w v → Stays (link w a b) (link v a b)
commit_stays a b w v undecided s = record { carries = grind (arith, undecided, s); posted = grind (arith, s); closers = grind (arith, s); inquiry_put = grind (arith, s) }

pub commit_waiting : (a b : ℕ) (w v : World) → w.cell ≡ Open → Step Commit w v → Stays (waiting_link w a b) (waiting_link v a b)
commit_waiting a b w v undecided s = record { carries = grind (arith, undecided, s); posted = grind (arith, s); closers = grind (arith, s); inquiry_put = grind (arith, s) }

pub commit_other : (k : ℕ) (w v : World) (f : Face) → k ≢ w.home → ShowsFace f k w → Step Commit w v → ShowsFace f k v
commit_other k w v f other i s = grind (arith, nat_tests, other, i, s)

-- ---- the log with the Commit

-- once marked, no vote of the transaction is in doubt
marked_none : (tid : Tid) (s : ℕ) (votes : List Prepared) → list_any (λ (v : Prepared). is_vote_of tid (server_no s) v && not v.committed) (map (mark_committed tid) votes) ≡ false
marked_none tid s [] = refl
marked_none tid s (v ∷ votes) = by (same_tid v.tid tid) refl (marked_none tid s votes)
  where
    off : (c : Bool) → list_any (λ (v : Prepared). is_vote_of tid (server_no s) v && not v.committed) (map (mark_committed tid) votes) ≡ false → (((true && c) && false) || list_any (λ (v : Prepared). is_vote_of tid (server_no s) v && not v.committed) (map (mark_committed tid) votes)) ≡ false
    off true more = more
    off false more = more

    by : (b : Bool) → same_tid v.tid tid ≡ b → list_any (λ (v : Prepared). is_vote_of tid (server_no s) v && not v.committed) (map (mark_committed tid) votes) ≡ false → list_any (λ (v : Prepared). is_vote_of tid (server_no s) v && not v.committed) (map (mark_committed tid) (v ∷ votes)) ≡ false
    by true e more = rw (e, e) (off (v.server.0 == s) more)
    by false e more = rw (e, e) more

pub any_last : (tids : List Tid) (tid : Tid) → list_any (same_tid tid) (tids ++ tid ∷ []) ≡ true
any_last [] tid = rw (tid_same tid) refl
any_last (t ∷ tids) tid = by (same_tid tid t) (any_last tids tid)
  where
    by : (b : Bool) → list_any (same_tid tid) (tids ++ tid ∷ []) ≡ true → (b || list_any (same_tid tid) (tids ++ tid ∷ [])) ≡ true
    by true more = refl
    by false more = more

untold_last : (tid : Tid) (told : List NodeNo) (commits : List Untold) → list_any (is_untold_of tid) (commits ++ record { tid = tid; told = told } ∷ []) ≡ true
untold_last tid told [] = rw (tid_same tid) refl
untold_last tid told (c ∷ commits) = by (is_untold_of tid c) (untold_last tid told commits)
  where
    by : (b : Bool) → list_any (is_untold_of tid) (commits ++ record { tid = tid; told = told } ∷ []) ≡ true → (b || list_any (is_untold_of tid) (commits ++ record { tid = tid; told = told } ∷ [])) ≡ true
    by true more = refl
    by false more = more

nil_right : {A : Type 0} (xs : List A) → xs ++ [] ≡ xs
nil_right [] = refl
nil_right {A} (x ∷ xs) = ap (λ (t : List A). x ∷ t) (nil_right xs)

list_last : (tid : Tid) (told : List NodeNo) (commits : List Untold) → list_any (is_untold_of tid) commits ≡ false → flat_map (λ (c : Untold). c.told) (filter (is_untold_of tid) (commits ++ record { tid = tid; told = told } ∷ [])) ≡ told
list_last tid told [] none = rw (tid_same tid) (nil_right told)
list_last tid told (c ∷ commits) none = by (is_untold_of tid c) refl none (list_last tid told commits)
  where
    by : (b : Bool) → is_untold_of tid c ≡ b → list_any (is_untold_of tid) (c ∷ commits) ≡ false → (list_any (is_untold_of tid) commits ≡ false → flat_map (λ (c : Untold). c.told) (filter (is_untold_of tid) (commits ++ record { tid = tid; told = told } ∷ [])) ≡ told) → flat_map (λ (c : Untold). c.told) (filter (is_untold_of tid) (c ∷ commits ++ record { tid = tid; told = told } ∷ [])) ≡ told
    by true e none more = absurd (cc (rw e at none))
    by false e none more = rw e (more (rw e at none))

log_committed : (tid : Tid) (first : NodeNo) (others : List NodeNo) (found : Recovery) (w v : World)
    → ((s : ℕ) → v.prepared tid.home.0 s ≡ false) → v.commit_logged ≡ true → v.unended ≡ true → ((m : ℕ) → v.commit_list m ≡ names_node (first ∷ others) (node_no m))
    → list_any (is_untold_of tid) found.untold ≡ false → names_transaction tid ≡ true
    → ShowsLog tid tid.home.0 (found_record found (records.Commit tid (first ∷ others))) v
log_committed tid first others found w v clear logged stands list none numbered = record {
  prepared = λ s. clear s ∙ sym (marked_none tid s found.prepared);
  committed = λ _. logged ∙ sym (ap (λ (b : Bool). list_any (same_tid tid) (found.committed ++ (if b then tid ∷ [] else []))) numbered ∙ any_last found.committed tid);
  unended = λ _. stands ∙ sym (untold_last tid (first ∷ others) found.untold);
  named = λ _ _ m. list m ∙ ap (λ (t : List NodeNo). names_node t (node_no m)) (sym (list_last tid (first ∷ others) found.untold none));
}

module _ (tid : Tid) (x : Sight) (w : World) (first : NodeNo) (others : List NodeNo)
    (shown : ShowsSight tid x w) (n_in : tid.home.0 < x.size) (is_up : x.up tid.home.0 ≡ true) (first_home : x.inc tid.home.0 ≡ tid.inc) (is_home : (x.face tid.home.0).is_home ≡ true)
    (ready : FaceReady (x.face tid.home.0) (place tid.home.0 (x.inc tid.home.0)) w)
    (told : (m : ℕ) → (x.face tid.home.0).told m ≡ names_node (first ∷ others) (node_no m))
    (counts : (m : ℕ) → w.covered (place tid.home.0 (x.inc tid.home.0)) m ≤ w.sent (place tid.home.0 (x.inc tid.home.0)) m)
    (undecided : w.cell ≡ Open) (unlogged : w.unended ≡ false) where
  abbrev pub v : World
  v = after_commit w

  home_is : place tid.home.0 (x.inc tid.home.0) ≡ w.home
  home_is = ap (λ (i : ℕ). place tid.home.0 i) first_home ∙ sym shown.stage.home

  here : ShowsFace (x.face tid.home.0) w.home w
  here = subst (λ (q : ℕ). ShowsFace (x.face tid.home.0) q w) home_is (shown.faces tid.home.0 n_in is_up)

  node_is : w.node w.home ≡ tid.home.0
  node_is = ap w.node shown.stage.home ∙ shown.stage.nodes tid.home.0 tid.inc n_in

  step : Step Commit w v
  step = (subst (λ (q : ℕ). IsReady w q) home_is (is_ready (x.face tid.home.0) (place tid.home.0 (x.inc tid.home.0)) w counts (shown.faces tid.home.0 n_in is_up) ready), refl)

  pub after : ShowsSight tid (sight_committed tid x (first ∷ others)) v
  after = record {
    stage = stage_still tid x (sight_committed tid x (first ∷ others)) w v (rw step.1 (record { node = refl; class = refl; home = refl; present = refl; up = refl; peer = refl })) refl refl refl refl shown.stage;
    faces = faces_around x tid.home.0 (record (x.face tid.home.0) { on = false; outcome = Committed }) w v shown.stage.small n_in shown.faces
        (subst (λ (q : ℕ). ShowsFace (record (x.face tid.home.0) { on = false; outcome = Committed }) q v) (sym home_is) (face_commit w v (x.face tid.home.0) here is_home step))
        (λ k g apart is. commit_other k w v g (λ e. apart (e ∙ sym home_is)) is step);
    links = λ a k b l a_in b_in b_up now. still (x.said a k b l) (link w (place a k) (place b l)) (link v (place a k) (place b l)) (commit_stays (place a k) (place b l) w v undecided step) (shown.links a k b l a_in b_in b_up now);
    unmet = λ a b a_in b_in a_up none. still (x.unmet a b) (waiting_link w (place a (x.inc a)) b) (waiting_link v (place a (x.inc a)) b) (commit_waiting (place a (x.inc a)) b w v undecided step) (shown.unmet a b a_in b_in a_up none);
    logs = λ k k_in. at_one (λ (k : ℕ) (f : Recovery). k < x.size → ShowsLog tid k f v) x.found tid.home.0 (found_record (x.found tid.home.0) (records.Commit tid (first ∷ others)))
        (λ _. log_committed tid first others (x.found tid.home.0) w v clear refl refl list (sym ((shown.logs tid.home.0 n_in).unended refl) ∙ unlogged) shown.stage.numbered)
        k (λ other k_in. elsewhere k other (shown.logs k k_in)) k_in;
  }
    where
      clear : (s : ℕ) → with_at w.prepared (w.node w.home) (λ (s : ℕ). false) tid.home.0 s ≡ false
      clear s = grind (arith, nat_tests, node_is)

      list : (m : ℕ) → w.told_set w.home m ≡ names_node (first ∷ others) (node_no m)
      list m = (here.running ready.undecided).told m ∙ told m

      elsewhere : (k : ℕ) → k ≢ tid.home.0 → ShowsLog tid k (x.found k) w → ShowsLog tid k (x.found k) v
      elsewhere k other i = record { prepared = λ r. at r (i.prepared r); committed = λ is. absurd (other is); unended = λ is. absurd (other is); named = λ is _ _. absurd (other is) }
        where
          at : (r : ℕ) → w.prepared k r ≡ is_in_doubt tid r (x.found k) → with_at w.prepared (w.node w.home) (λ (s : ℕ). false) k r ≡ is_in_doubt tid r (x.found k)
          at r e = grind (arith, nat_tests, node_is, other, e)

  pub leads : Leads w v
  leads = record { events = Commit ∷ []; run = (v, step, refl) }
