-- The home's node answers inquiries: Answer_running, Answer_commit and Answer_abort.
use Rattle.qs_world_refine.proofs.Words.{◌≡◌, ◌≢◌, ◌⊎◌, inl, inr, ℕ, ◌+◌, ◌==◌, Bool, true, false, List, [], ◌∷◌, arith, refl, sym, ◌∙◌, subst, ap, nat_tests, Tid, Open, Committed, Aborted, Answer_running, Answer_commit, Answer_abort, Face, ShowsFace, telling_face, Said, Inquired, Link, link, waiting_link, IsLink, place, Runs, Meets, Sight, ShowsSight}
use Rattle.qs_world_agree.specs.World.{World, with_at, with_at2}
use Rattle.qs_world_agree.specs.Guards.{NextInquiry, TellsAbort}
use Rattle.qs_world_agree.specs.Step.{Step}
use Rattle.qs_world_refine.specs.InquiryLaws.{MayTellAbort, AnswerRunningGoes, AnswerCommitGoes, AnswerAbortGoes}
use Rattle.qs_world_refine.proofs.Around.{known_is}
use Rattle.qs_world_refine.proofs.Streams.{Stays, asked}
use Rattle.qs_world_refine.proofs.Taking.{Takes, take_sight}
use Rattle.qs_world_refine.proofs.Telling.{home_same}

-- ---- an inquiry is the next that is handed up

module _ (tid : Tid) (x : Sight) (w : World) (n m i : ℕ) (rest : List Said) (shown : ShowsSight tid x w) (at : Runs x n) (peer : Meets x n m i)
    (head : x.said m i n (x.inc n) ≡ Inquired ∷ rest) (home : n ≡ tid.home.0) where
  abbrev pub h : ℕ
  h = place n (x.inc n)

  abbrev pub q : ℕ
  q = place m i

  pub node_q : w.node q ≡ m
  node_q = shown.stage.nodes m i peer.in_run

  -- the link behind it
  abbrev pub behind_it : Link
  behind_it = record (link w q h) { inquiry_taken = w.inquiry_taken h q + 1 }

  pub rest_link : IsLink behind_it rest
  rest_link = subst (λ (l : List Said). IsLink (link w q h) l) head (shown.links m i n (x.inc n) peer.in_run at.in_run at.up refl)

  pub next_inquiry : NextInquiry w h q
  next_inquiry = ((shown.faces n at.in_run at.up).up, home_same tid x w n shown at home, known, omega (arith, asked rest behind_it leads_home rest_link))
    where
      leads_home : (w.node h == w.node w.home) ≡ true
      leads_home = rw (home_same tid x w n shown at home) (grind (arith, nat_tests))

      known : w.peer h (w.node q) ≡ q
      known = rw node_q (shown.stage.peers n m at.in_run peer.in_run at.up ∙ rw peer.knows (known_is m i peer.some))

-- ---- Answer_running

abbrev after_running : ℕ → World → World
after_running q old = record old {
  told_set = with_at2 old.told_set old.home (old.node q) true;
  inquiry_taken = with_at2 old.inquiry_taken old.home q (old.inquiry_taken old.home q + 1);
}

running_links : (q a b : ℕ) (w v : World) → (a ≡ q → b ≡ w.home → ⊥) → Step (Answer_running q) w v → Stays (link w a b) (link v a b)
running_links q a b w v other s = record { carries = grind (arith, nat_tests, other, s.2); posted = grind (arith, s.2); closers = grind (arith, s.2); inquiry_put = grind (arith, s.2) }

running_took : (q : ℕ) (w v : World) → Step (Answer_running q) w v → Stays (record (link w q w.home) { inquiry_taken = w.inquiry_taken w.home q + 1 }) (link v q w.home)
running_took q w v s = record { carries = grind (arith, nat_tests, s.2); posted = grind (arith, s.2); closers = grind (arith, s.2); inquiry_put = grind (arith, s.2) }

running_waiting : (q a b : ℕ) (w v : World) → Step (Answer_running q) w v → Stays (waiting_link w a b) (waiting_link v a b)
running_waiting q a b w v s = record { carries = grind (arith, nat_tests, s.2); posted = grind (arith, s.2); closers = grind (arith, s.2); inquiry_put = grind (arith, s.2) }

running_others : (q k : ℕ) (w v : World) (f : Face) → k ≢ w.home → ShowsFace f k w → Step (Answer_running q) w v → ShowsFace f k v
running_others q k w v f other i s = grind (arith, nat_tests, other, i, s.2)

running_face : (q m : ℕ) (w v : World) (f : Face) → w.node q ≡ m → ShowsFace f w.home w → Step (Answer_running q) w v → ShowsFace (record f { told = with_at f.told m true }) w.home v
running_face q m w v f node i s = grind (arith, nat_tests, node, i, s.2)

running_takes : (q : ℕ) (w v : World) → Step (Answer_running q) w v → Takes q w.home (record (link w q w.home) { inquiry_taken = w.inquiry_taken w.home q + 1 }) w v
running_takes q w v s = record {
  stage = rw s.2 (record { node = refl; class = refl; home = refl; present = refl; up = refl; peer = refl });
  logs = rw s.2 (record { prepared = refl; commit_logged = refl; unended = refl; commit_list = refl });
  links = λ a b other. running_links q a b w v other s;
  waiting = λ a b. running_waiting q a b w v s;
  others = λ k f other i. running_others q k w v f other i s;
  took = running_took q w v s;
}

pub answer_running : AnswerRunningGoes
answer_running tid x w n m i rest shown at peer head home first undecided = record {
  next = v;
  leads = record { events = Answer_running (place m i) ∷ []; run = (v, step, refl) };
  shown = take_sight tid x w v n m i (record (x.face n) { told = with_at (x.face n).told m true }) rest (behind_it tid x w n m i rest shown at peer head home) shown at peer
      (subst (λ (k : ℕ). Takes (place m i) k (record (link w (place m i) k) { inquiry_taken = w.inquiry_taken k (place m i) + 1 }) w v) (sym home_is) (running_takes (place m i) w v step))
      (rest_link tid x w n m i rest shown at peer head home)
      (subst (λ (k : ℕ). ShowsFace (record (x.face n) { told = with_at (x.face n).told m true }) k v) (sym home_is) (running_face (place m i) m w v (x.face n) (node_q tid x w n m i rest shown at peer head home) here step));
}
  where
    v : World
    v = after_running (place m i) w

    home_is : place n (x.inc n) ≡ w.home
    home_is = ap (λ (k : ℕ). place n k) first ∙ (ap (λ (k : ℕ). place k tid.inc) home ∙ sym shown.stage.home)

    here : ShowsFace (x.face n) w.home w
    here = subst (λ (k : ℕ). ShowsFace (x.face n) k w) home_is (shown.faces n at.in_run at.up)

    step : Step (Answer_running (place m i)) w v
    step = (subst (λ (k : ℕ). NextInquiry w k (place m i)) home_is (next_inquiry tid x w n m i rest shown at peer head home), here.outcome ∙ undecided, refl)

-- ---- Answer_commit

abbrev after_commit : ℕ → ℕ → World → World
after_commit h q old = record old { tell_commit = with_at old.tell_commit (old.node q) true; inquiry_taken = with_at2 old.inquiry_taken h q (old.inquiry_taken h q + 1) }

commit_links : (h q a b : ℕ) (w v : World) → (a ≡ q → b ≡ h → ⊥) → Step (Answer_commit h q) w v → Stays (link w a b) (link v a b)
commit_links h q a b w v other s = record { carries = grind (arith, nat_tests, other, s.2); posted = grind (arith, s.2); closers = grind (arith, s.2); inquiry_put = grind (arith, s.2) }

commit_took : (h q : ℕ) (w v : World) → Step (Answer_commit h q) w v → Stays (record (link w q h) { inquiry_taken = w.inquiry_taken h q + 1 }) (link v q h)
commit_took h q w v s = record { carries = grind (arith, nat_tests, s.2); posted = grind (arith, s.2); closers = grind (arith, s.2); inquiry_put = grind (arith, s.2) }

commit_waiting : (h q a b : ℕ) (w v : World) → Step (Answer_commit h q) w v → Stays (waiting_link w a b) (waiting_link v a b)
commit_waiting h q a b w v s = record { carries = grind (arith, nat_tests, s.2); posted = grind (arith, s.2); closers = grind (arith, s.2); inquiry_put = grind (arith, s.2) }

commit_face : (h q k : ℕ) (w v : World) (f : Face) → ShowsFace f k w → Step (Answer_commit h q) w v → ShowsFace f k v
commit_face h q k w v f i s = grind (arith, i, s.2)

commit_takes : (h q : ℕ) (w v : World) → Step (Answer_commit h q) w v → Takes q h (record (link w q h) { inquiry_taken = w.inquiry_taken h q + 1 }) w v
commit_takes h q w v s = record {
  stage = rw s.2 (record { node = refl; class = refl; home = refl; present = refl; up = refl; peer = refl });
  logs = rw s.2 (record { prepared = refl; commit_logged = refl; unended = refl; commit_list = refl });
  links = λ a b other. commit_links h q a b w v other s;
  waiting = λ a b. commit_waiting h q a b w v s;
  others = λ k f _ i. commit_face h q k w v f i s;
  took = commit_took h q w v s;
}

told_there : (f : ℕ → Bool) (k m : ℕ) → k ≡ m → with_at f k true m ≡ true
told_there f k m is = grind (arith, nat_tests, is)

pub answer_commit : AnswerCommitGoes
answer_commit tid x w n m i rest shown at peer head home committed = record {
  next = v;
  leads = record { events = Answer_commit h q ∷ []; run = (v, step, refl) };
  shown = take_sight tid x w v n m i (x.face n) rest (behind_it tid x w n m i rest shown at peer head home) shown at peer (commit_takes h q w v step) (rest_link tid x w n m i rest shown at peer head home)
      (commit_face h q h w v (x.face n) (shown.faces n at.in_run at.up) step);
  tells = told_there w.tell_commit (w.node q) m (shown.stage.nodes m i peer.in_run);
}
  where
    h : ℕ
    h = place n (x.inc n)

    q : ℕ
    q = place m i

    v : World
    v = after_commit h q w

    step : Step (Answer_commit h q) w v
    step = (next_inquiry tid x w n m i rest shown at peer head home, (shown.faces n at.in_run at.up).outcome ∙ committed, refl)

-- ---- Answer_abort

abbrev after_abort : ℕ → ℕ → World → World
after_abort h q old = record old {
  outcome = with_at old.outcome h Aborted;
  tell_abort = with_at old.tell_abort (old.node q) true;
  to_tell = with_at2 old.to_tell h (old.node q) true;
  inquiry_taken = with_at2 old.inquiry_taken h q (old.inquiry_taken h q + 1);
}

abort_links : (h q a b : ℕ) (w v : World) → (a ≡ q → b ≡ h → ⊥) → Step (Answer_abort h q) w v → Stays (link w a b) (link v a b)
abort_links h q a b w v other s = record { carries = grind (arith, nat_tests, other, s.2); posted = grind (arith, s.2); closers = grind (arith, s.2); inquiry_put = grind (arith, s.2) }

abort_took : (h q : ℕ) (w v : World) → Step (Answer_abort h q) w v → Stays (record (link w q h) { inquiry_taken = w.inquiry_taken h q + 1 }) (link v q h)
abort_took h q w v s = record { carries = grind (arith, nat_tests, s.2); posted = grind (arith, s.2); closers = grind (arith, s.2); inquiry_put = grind (arith, s.2) }

abort_waiting : (h q a b : ℕ) (w v : World) → Step (Answer_abort h q) w v → Stays (waiting_link w a b) (waiting_link v a b)
abort_waiting h q a b w v s = record { carries = grind (arith, nat_tests, s.2); posted = grind (arith, s.2); closers = grind (arith, s.2); inquiry_put = grind (arith, s.2) }

abort_others : (h q k : ℕ) (w v : World) (f : Face) → k ≢ h → ShowsFace f k w → Step (Answer_abort h q) w v → ShowsFace f k v
abort_others h q k w v f other i s = grind (arith, nat_tests, other, i, s.2)

-- whom it is to tell
abbrev pub IsToTell : World → ℕ → Face → Type 0
IsToTell w h f = (k : ℕ) → f.tell k ≡ true → (w.to_tell h k ≡ true) ⊎ (w.tell_abort k ≡ true)

abort_face : (h q m : ℕ) (w v : World) (f : Face) → w.node q ≡ m → f.outcome ≢ Committed → IsToTell w h f → ShowsFace f h w → Step (Answer_abort h q) w v → ShowsFace (telling_face f m) h v
abort_face h q m w v f node running tells i s = record {
  up = grind (arith, i.up, s.2);
  outcome = grind (arith, nat_tests, s.2);
  engaged = grind (arith, i.engaged, s.2);
  superior = grind (arith, i.superior, s.2);
  last = grind (arith, i.last, s.2);
  last_new = grind (arith, i.last_new, s.2);
  sent = λ _ k. rw s.2 (i.sent running k);
  told_in = grind (arith, i.told_in, s.2);
  tell = λ _ k. grind (arith, nat_tests, node, tells k, s.2);
  running = λ is. absurd (cc is);
}

abort_takes : (h q : ℕ) (w v : World) → Step (Answer_abort h q) w v → Takes q h (record (link w q h) { inquiry_taken = w.inquiry_taken h q + 1 }) w v
abort_takes h q w v s = record {
  stage = rw s.2 (record { node = refl; class = refl; home = refl; present = refl; up = refl; peer = refl });
  logs = rw s.2 (record { prepared = refl; commit_logged = refl; unended = refl; commit_list = refl });
  links = λ a b other. abort_links h q a b w v other s;
  waiting = λ a b. abort_waiting h q a b w v s;
  others = λ k f other i. abort_others h q k w v f other i s;
  took = abort_took h q w v s;
}

module _ (tid : Tid) (x : Sight) (w : World) (n : ℕ) (shown : ShowsSight tid x w) (at : Runs x n) (may : MayTellAbort tid x n) where
  here : ShowsFace (x.face n) (place n (x.inc n)) w
  here = shown.faces n at.in_run at.up

  pub tells_abort : TellsAbort w (place n (x.inc n))
  tells_abort = (here.up, home_same tid x w n shown at may.home, by may.may)
    where
      later : tid.inc ≢ x.inc n → place n (x.inc n) ≢ w.home
      later other e = other (sym (apart (x.inc n) tid.inc (e ∙ (shown.stage.home ∙ ap (λ (k : ℕ). place k tid.inc) (sym may.home)))))
        where
          apart : (a b : ℕ) → place n a ≡ place n b → a ≡ b
          apart a b e = omega (arith, e)

      by : ((x.face n).outcome ≡ Aborted) ⊎ (((x.face n).outcome ≡ Open) × (tid.inc ≢ x.inc n) × ((k : ℕ) → (x.face n).tell k ≡ false)) → (w.outcome (place n (x.inc n)) ≡ Aborted) ⊎ ((w.outcome (place n (x.inc n)) ≡ Open) × (place n (x.inc n) ≢ w.home))
      by (inl is) = inl (here.outcome ∙ is)
      by (inr is) = inr (here.outcome ∙ is.0, later is.1)

  pub not_committed : (x.face n).outcome ≢ Committed
  not_committed e = by may.may
    where
      by : ((x.face n).outcome ≡ Aborted) ⊎ (((x.face n).outcome ≡ Open) × (tid.inc ≢ x.inc n) × ((k : ℕ) → (x.face n).tell k ≡ false)) → ⊥
      by (inl is) = cc (is, e)
      by (inr is) = let undecided = is.0 in cc (undecided, e)

  pub to_tell : IsToTell w (place n (x.inc n)) (x.face n)
  to_tell k has = by may.may
    where
      by : ((x.face n).outcome ≡ Aborted) ⊎ (((x.face n).outcome ≡ Open) × (tid.inc ≢ x.inc n) × ((k : ℕ) → (x.face n).tell k ≡ false)) → (w.to_tell (place n (x.inc n)) k ≡ true) ⊎ (w.tell_abort k ≡ true)
      by (inl is) = here.tell is k has
      by (inr is) = absurd (let none = is.2 k in cc (has, none))

pub answer_abort : AnswerAbortGoes
answer_abort tid x w n m i rest shown at peer head may = record {
  next = v;
  leads = record { events = Answer_abort h q ∷ []; run = (v, step, refl) };
  shown = take_sight tid x w v n m i (telling_face (x.face n) m) rest (behind_it tid x w n m i rest shown at peer head may.home) shown at peer (abort_takes h q w v step) (rest_link tid x w n m i rest shown at peer head may.home)
      (abort_face h q m w v (x.face n) (shown.stage.nodes m i peer.in_run) (not_committed tid x w n shown at may) (to_tell tid x w n shown at may) (shown.faces n at.in_run at.up) step);
  tells = told_there w.tell_abort (w.node q) m (shown.stage.nodes m i peer.in_run);
}
  where
    h : ℕ
    h = place n (x.inc n)

    q : ℕ
    q = place m i

    v : World
    v = after_abort h q w

    step : Step (Answer_abort h q) w v
    step = (next_inquiry tid x w n m i rest shown at peer head may.home, tells_abort tid x w n shown at may, refl)
