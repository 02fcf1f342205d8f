-- A server votes recoverable, its Prepare forced: Vote_recoverable.
use Rattle.qs_world_refine.proofs.Words.{◌≡◌, ◌≢◌, inl, ℕ, ◌+◌, ◌<◌, ◌≤◌, ◌==◌, ◌&&◌, ◌||◌, not, Bool, true, false, List, [], ◌∷◌, ◌++◌, arith, refl, sym, ◌∙◌, ap, if◌then◌else◌, fold, filter, list_any, eqb-true, nat_tests, Tid, class_of, Op, Record, Open, held, held_at, Vote_recoverable, Leads, Prepared, Recovery, recovery, found_record, is_vote_of, nothing_said, place, class_in, Face, ShowsFace, ShowsOpen, server_no, Sight, ShowsSight, ShowsLog, is_in_doubt, link, waiting_link}
use Rattle.qs_base.specs.declared.identifiers.Class.TheVariants as classes
use Rattle.qs_record.specs.declared.record.Record.TheVariants as records
use Rattle.qs_world_agree.specs.World.{World, Recoverable, with_at, with_at2}
use Rattle.qs_world_agree.specs.Step.{Step}
use Rattle.qs_world_refine.specs.Seen.{sight_prepared}
use Rattle.qs_world_refine.proofs.EventFaces.{face_vote_recoverable}
use Rattle.qs_world_refine.proofs.Streams.{Stays, still}
use Rattle.qs_world_refine.proofs.Still.{stage_still, at_one}
use Rattle.qs_world_refine.proofs.Around.{faces_around}
use Rattle.qs_world_refine.proofs.Same.{tid_same}

-- ---- what a log says with one more record

pub recovered_more : (log : List Record) (rec : Record) → recovery (log ++ rec ∷ []) ≡ found_record (recovery log) rec
recovered_more log rec = more log nothing_said
  where
    more : (log : List Record) (found : Recovery) → fold found_record found (log ++ rec ∷ []) ≡ found_record (fold found_record found log) rec
    more [] found = refl
    more (r ∷ log) found = more log (found_record found r)

doubts : Tid → ℕ → Prepared → Bool
doubts tid s vote = is_vote_of tid (server_no s) vote && not vote.committed

-- the vote that was put is in doubt
put_here : (tid : Tid) (s : ℕ) (votes : List Prepared) (vote : Prepared) → (is_vote_of tid (server_no s) vote && not vote.committed) ≡ true → list_any (λ (v : Prepared). is_vote_of tid (server_no s) v && not v.committed) (votes ++ vote ∷ []) ≡ true
put_here tid s [] vote is = rw is refl
put_here tid s (v ∷ votes) vote is = by (is_vote_of tid (server_no s) v && not v.committed) (put_here tid s votes vote is)
  where
    by : (b : Bool) → list_any (λ (v : Prepared). is_vote_of tid (server_no s) v && not v.committed) (votes ++ vote ∷ []) ≡ true → (b || list_any (λ (v : Prepared). is_vote_of tid (server_no s) v && not v.committed) (votes ++ vote ∷ [])) ≡ true
    by true more = refl
    by false more = more

-- and all others are as they were
pub put_there : (tid u : Tid) (s r : ℕ) (votes : List Prepared) (vote : Prepared)
    → is_vote_of u (server_no r) vote ≡ false
    → ((v : Prepared) → is_vote_of u (server_no r) v ≡ true → is_vote_of tid (server_no s) v ≡ false)
    → list_any (λ (v : Prepared). is_vote_of u (server_no r) v && not v.committed) (filter (λ (v : Prepared). not (is_vote_of tid (server_no s) v)) votes ++ vote ∷ [])
    ≡ list_any (λ (v : Prepared). is_vote_of u (server_no r) v && not v.committed) votes
put_there tid u s r [] vote off apart = rw off refl
put_there tid u s r (v ∷ votes) vote off apart = by (is_vote_of tid (server_no s) v) (is_vote_of u (server_no r) v) refl refl (put_there tid u s r votes vote off apart)
  where
    by : (a b : Bool) → is_vote_of tid (server_no s) v ≡ a → is_vote_of u (server_no r) v ≡ b
        → list_any (λ (v : Prepared). is_vote_of u (server_no r) v && not v.committed) (filter (λ (v : Prepared). not (is_vote_of tid (server_no s) v)) votes ++ vote ∷ []) ≡ list_any (λ (v : Prepared). is_vote_of u (server_no r) v && not v.committed) votes
        → list_any (λ (v : Prepared). is_vote_of u (server_no r) v && not v.committed) (filter (λ (v : Prepared). not (is_vote_of tid (server_no s) v)) (v ∷ votes) ++ vote ∷ []) ≡ list_any (λ (v : Prepared). is_vote_of u (server_no r) v && not v.committed) (v ∷ votes)
    by true true ea eb more = let no : is_vote_of tid (server_no s) v ≡ false = apart v eb in absurd (cc (ea, no))
    by true false ea eb more = rw (ea, eb) more
    by false b ea eb more = rw ea (ap (λ (t : Bool). (is_vote_of u (server_no r) v && not v.committed) || t) more)

servers_apart : (tid : Tid) (s r : ℕ) → r ≢ s → (v : Prepared) → is_vote_of tid (server_no r) v ≡ true → is_vote_of tid (server_no s) v ≡ false
servers_apart tid s r other v is = grind (arith, nat_tests, other, is)

-- a Prepare that is put
pub log_prepared : (tid : Tid) (n s covers : ℕ) (changes : List Op) (found : Recovery) (w v : World)
    → ((r : ℕ) → v.prepared n r ≡ (if r == s then true else w.prepared n r)) → v.commit_logged ≡ w.commit_logged → v.unended ≡ w.unended → v.commit_list ≡ w.commit_list
    → ShowsLog tid n found w → ShowsLog tid n (found_record found (records.Prepare tid (server_no s) covers changes)) v
log_prepared tid n s covers changes found w v now same_commit same_end same_list i = record {
  prepared = λ r. now r ∙ by r (r == s) refl;
  committed = λ here. same_commit ∙ i.committed here;
  unended = λ here. same_end ∙ i.unended here;
  named = λ here stands m. rw same_list (i.named here (rw same_end at stands) m);
}
  where
    vote : Prepared
    vote = record { tid = tid; server = server_no s; covers = covers; changes = changes; committed = false }

    itself : (is_vote_of tid (server_no s) (record { tid = tid; server = server_no s; covers = covers; changes = changes; committed = false }) && not false) ≡ true
    itself = rw (tid_same tid) (grind (arith, nat_tests))

    not_it : (r : ℕ) → r ≢ s → is_vote_of tid (server_no r) (record { tid = tid; server = server_no s; covers = covers; changes = changes; committed = false }) ≡ false
    not_it r other = grind (arith, nat_tests, other)

    by : (r : ℕ) (b : Bool) → (r == s) ≡ b → (if b then true else w.prepared n r) ≡ is_in_doubt tid r (found_record found (records.Prepare tid (server_no s) covers changes))
    by r true e = rw (eqb-true r s e) (sym (put_here tid s (filter (λ (v : Prepared). not (is_vote_of tid (server_no s) v)) found.prepared) (record { tid = tid; server = server_no s; covers = covers; changes = changes; committed = false }) itself))
    by r false e =
        let other : r ≢ s = (λ is. grind (arith, nat_tests, e, is)) in
        i.prepared r ∙ sym (put_there tid tid s r found.prepared (record { tid = tid; server = server_no s; covers = covers; changes = changes; committed = false }) (not_it r other) (servers_apart tid s r other))

-- ---- the vote

abbrev pub after_vote : ℕ → ℕ → World → World
after_vote q s old = record old {
  voted = with_at2 old.voted q s (old.served q s);
  involved = with_at old.involved q true;
  prepared = with_at2 old.prepared (old.node q) s true;
  way = with_at old.way (old.node q) (held (old.way (old.node q)));
  holder = with_at old.holder (old.node q) (held_at (old.way (old.node q)) q (old.holder (old.node q)));
}

vote_stays : (q s a b : ℕ) (w v : World) → Step (Vote_recoverable q s) w v → Stays (link w a b) (link v a b)
vote_stays q s a b w v step = record { carries = grind (arith, step); posted = grind (arith, step); closers = grind (arith, step); inquiry_put = grind (arith, step) }

vote_waiting : (q s a b : ℕ) (w v : World) → Step (Vote_recoverable q s) w v → Stays (waiting_link w a b) (waiting_link v a b)
vote_waiting q s a b w v step = record { carries = grind (arith, step); posted = grind (arith, step); closers = grind (arith, step); inquiry_put = grind (arith, step) }

vote_other : (q s k : ℕ) (w v : World) (f : Face) → k ≢ q → ShowsFace f k w → Step (Vote_recoverable q s) w v → ShowsFace f k v
vote_other q s k w v f other i step = grind (arith, nat_tests, other, i, step)

module _ (tid : Tid) (x : Sight) (w : World) (n s covers : ℕ) (changes : List Op)
    (shown : ShowsSight tid x w) (n_in : n < x.size) (is_up : x.up n ≡ true)
    (undecided : (x.face n).outcome ≡ Open) (asked : (x.face n).asked ≡ true) (idle : (r : ℕ) → (x.face n).waits r ≡ 0) (unlent : (x.face n).loans ≡ 0) (due : 1 ≤ (x.face n).uncast s) (class : class_of s ≡ classes.Recoverable) where
  abbrev pub q : ℕ
  q = place n (x.inc n)

  abbrev pub v : World
  v = after_vote q s w

  here : ShowsFace (x.face n) q w
  here = shown.faces n n_in is_up

  open_here : ShowsOpen (x.face n) q w
  open_here = here.running undecided

  node_is : w.node q ≡ n
  node_is = shown.stage.nodes n (x.inc n) n_in

  class_is : w.class (w.node q) s ≡ Recoverable
  class_is = shown.stage.classes (w.node q) s ∙ ap class_in class

  step : Step (Vote_recoverable q s) w v
  step = ((here.up, open_here.asked ∙ asked, here.outcome ∙ undecided, (served_all, open_here.loans ∙ unlent), inl class_is, more (open_here.uncast s (inl class_is))), class_is, refl)
    where
      served_all : (r : ℕ) → w.served q r ≡ w.arrived q r
      served_all r = let e = open_here.waits r in let z = idle r in omega (arith, e, z)

      more : w.served q s ≡ w.voted q s + (x.face n).uncast s → w.voted q s < w.served q s
      more e = omega (arith, e, due)

  pub after : ShowsSight tid (sight_prepared tid x n s covers changes) v
  after = record {
    stage = stage_still tid x (sight_prepared tid x n s covers changes) w v (rw step.2 (record { node = refl; class = refl; home = refl; present = refl; up = refl; peer = refl })) refl refl refl refl shown.stage;
    faces = faces_around x n (record (x.face n) { uncast = with_at (x.face n).uncast s 0; involved = true }) w v shown.stage.small n_in shown.faces (face_vote_recoverable q s w v (x.face n) here step) (λ k g apart is. vote_other q s k w v g apart is step);
    links = λ a k b l a_in b_in b_up now. still (x.said a k b l) (link w (place a k) (place b l)) (link v (place a k) (place b l)) (vote_stays q s (place a k) (place b l) w v step) (shown.links a k b l a_in b_in b_up now);
    unmet = λ a b a_in b_in a_up none. still (x.unmet a b) (waiting_link w (place a (x.inc a)) b) (waiting_link v (place a (x.inc a)) b) (vote_waiting q s (place a (x.inc a)) b w v step) (shown.unmet a b a_in b_in a_up none);
    logs = λ k k_in. at_one (λ (k : ℕ) (f : Recovery). k < x.size → ShowsLog tid k f v) x.found n (found_record (x.found n) (records.Prepare tid (server_no s) covers changes))
        (λ _. log_prepared tid n s covers changes (x.found n) w v (λ r. prepared_now r) refl refl refl (shown.logs n n_in))
        k (λ other k_in. elsewhere k other (shown.logs k k_in)) k_in;
  }
    where
      prepared_now : (r : ℕ) → with_at2 w.prepared (w.node q) s true n r ≡ (if r == s then true else w.prepared n r)
      prepared_now r = grind (arith, nat_tests, node_is)

      elsewhere : (k : ℕ) → k ≢ n → ShowsLog tid k (x.found k) w → ShowsLog tid k (x.found k) v
      elsewhere k other i = record { prepared = λ r. at r (i.prepared r); committed = i.committed; unended = i.unended; named = i.named }
        where
          at : (r : ℕ) → w.prepared k r ≡ is_in_doubt tid r (x.found k) → with_at2 w.prepared (w.node q) s true k r ≡ is_in_doubt tid r (x.found k)
          at r e = grind (arith, nat_tests, node_is, other, e)

  pub leads : Leads w v
  leads = record { events = Vote_recoverable q s ∷ []; run = (v, step, refl) }
