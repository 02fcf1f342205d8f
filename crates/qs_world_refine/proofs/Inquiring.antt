-- A node inquires of the home's node: Inquire, Inquire_lost or Inquire_home.
use Rattle.qs_world_refine.proofs.Words.{◌≡◌, ◌≢◌, inl, inr, ℕ, ◌+◌, ◌<◌, ◌≤◌, ◌==◌, true, [], ◌∷◌, ◌++◌, arith, refl, sym, ◌∙◌, ap, if◌then◌else◌, nat_tests, Tid, Open, Inquire, Inquire_lost, Inquire_home, Leads, Face, ShowsFace, MayInquire, Inquired, link, waiting_link, IsLink, place, Runs, sight_said, Sight, ShowsSight}
use Rattle.qs_world_agree.specs.World.{World, with_at, with_at2}
use Rattle.qs_world_refine.specs.InquireLaws.{InquireGoes, InquireWaitsGoes}
use Rattle.qs_world_refine.proofs.Around.{faces_around, links_around, known_is, place_some}
use Rattle.qs_world_refine.proofs.FreshRuns.{fresh}
use Rattle.qs_world_refine.proofs.Same.{same_place}
use Rattle.qs_world_refine.proofs.Still.{SameStage, stage_still, SameLogs, log_still}
use Rattle.qs_world_refine.proofs.Streams.{Stays, Carries, still, behind, ended}
use Rattle.qs_world_refine.proofs.Taking.{home_apart}
use Rattle.qs_world_refine.proofs.Waiting.{wait_sight}

abbrev after_inquire : ℕ → World → World
after_inquire q old = record old {
  inquiries = with_at old.inquiries q (old.inquiries q + 1);
  inquiry_put = if old.peer q (old.node old.home) == 0 then old.inquiry_put else with_at2 old.inquiry_put q (old.peer q (old.node old.home)) (old.inquiries q + 1);
}

abbrev after_lost : ℕ → World → World
after_lost q old = record (after_inquire q old) { orphaned = true; orphaned_by = old.engager q }

-- what each of the three makes of a world
data Asks (q : ℕ) (w v : World) : Type 0 where
  kept : v ≡ after_inquire q w → Asks q w v
  lost : v ≡ after_lost q w → Asks q w v

asks_links : (q a b : ℕ) (w v : World) → (a ≡ q → b ≡ w.peer q (w.node w.home) → ⊥) → Asks q w v → Stays (link w a b) (link v a b)
asks_links q a b w v other (kept is) = record { carries = grind (arith, is); posted = grind (arith, is); closers = grind (arith, is); inquiry_put = grind (arith, nat_tests, other, is) }
asks_links q a b w v other (lost is) = record { carries = grind (arith, is); posted = grind (arith, is); closers = grind (arith, is); inquiry_put = grind (arith, nat_tests, other, is) }

-- where no place of the home's node is known, nothing is put
asks_still : (q a b : ℕ) (w v : World) → w.peer q (w.node w.home) ≡ 0 → Asks q w v → Stays (link w a b) (link v a b)
asks_still q a b w v none (kept is) = record { carries = grind (arith, is); posted = grind (arith, is); closers = grind (arith, is); inquiry_put = grind (arith, nat_tests, none, is) }
asks_still q a b w v none (lost is) = record { carries = grind (arith, is); posted = grind (arith, is); closers = grind (arith, is); inquiry_put = grind (arith, nat_tests, none, is) }

asks_carries : (q p : ℕ) (w v : World) → Asks q w v → Carries (link w q p) (link v q p)
asks_carries q p w v (kept is) = grind (arith, is)
asks_carries q p w v (lost is) = grind (arith, is)

-- what waits for another node than the home's is no inquiry
asks_waiting : (q a b : ℕ) (w v : World) → (a ≡ q → b ≡ w.node w.home → ⊥) → Asks q w v → Stays (waiting_link w a b) (waiting_link v a b)
asks_waiting q a b w v other (kept is) = record { carries = grind (arith, is); posted = grind (arith, is); closers = grind (arith, is); inquiry_put = grind (arith, nat_tests, other, is) }
asks_waiting q a b w v other (lost is) = record { carries = grind (arith, is); posted = grind (arith, is); closers = grind (arith, is); inquiry_put = grind (arith, nat_tests, other, is) }

asks_awaits : (q m : ℕ) (w v : World) → Asks q w v → Carries (waiting_link w q m) (waiting_link v q m)
asks_awaits q m w v (kept is) = grind (arith, is)
asks_awaits q m w v (lost is) = grind (arith, is)

asks_face : (q k : ℕ) (w v : World) (f : Face) → ShowsFace f k w → Asks q w v → ShowsFace f k v
asks_face q k w v f i (kept is) = grind (arith, i, is)
asks_face q k w v f i (lost is) = grind (arith, i, is)

-- the one that is put
asks_next : (q p : ℕ) (w v : World) → w.peer q (w.node w.home) ≡ p → 1 ≤ p → w.inquiry_put q p ≡ w.inquiries q → Asks q w v → IsLink (ended (link w q p) (link v q p)) (Inquired ∷ [])
asks_next q p w v known some all (kept is) = record { requests = grind (arith, is); closers = grind (arith, is); inquiries = grind (arith, nat_tests, known, some, all, is); all_requests = grind (arith, is); all_closers = grind (arith, is); all_inquiries = grind (arith, nat_tests, known, some, all, is) }
asks_next q p w v known some all (lost is) = record { requests = grind (arith, is); closers = grind (arith, is); inquiries = grind (arith, nat_tests, known, some, all, is); all_requests = grind (arith, is); all_closers = grind (arith, is); all_inquiries = grind (arith, nat_tests, known, some, all, is) }

-- the one that waits
asks_then : (q m : ℕ) (w v : World) → Asks q w v → IsLink (ended (waiting_link w q m) (waiting_link v q m)) (Inquired ∷ [])
asks_then q m w v (kept is) = record { requests = grind (arith, is); closers = grind (arith, is); inquiries = grind (arith, nat_tests, is); all_requests = grind (arith, is); all_closers = grind (arith, is); all_inquiries = grind (arith, nat_tests, is) }
asks_then q m w v (lost is) = record { requests = grind (arith, is); closers = grind (arith, is); inquiries = grind (arith, nat_tests, is); all_requests = grind (arith, is); all_closers = grind (arith, is); all_inquiries = grind (arith, nat_tests, is) }

-- the world that it leads to
record Asked (q : ℕ) (w : World) : Type 0 where
  next : World
  leads : Leads w next
  asks : Asks q w next

asked : (tid : Tid) (x : Sight) (w : World) (n : ℕ) → ShowsSight tid x w → Runs x n → tid.home.0 ≢ n → tid.home.0 < x.size → (x.face n).outcome ≡ Open → MayInquire w (place n (x.inc n)) → Asked (place n (x.inc n)) w
asked tid x w n shown at away home_in undecided may = by may
  where
    q : ℕ
    q = place n (x.inc n)

    here : ShowsFace (x.face n) q w
    here = shown.faces n at.in_run at.up

    apart : w.node q ≢ w.node w.home
    apart = home_apart tid x w n shown at away home_in

    by : MayInquire w q → Asked q w
    by (inl involved) = record { next = after_inquire q w; leads = record { events = Inquire q ∷ []; run = (after_inquire q w, (here.up, apart, here.outcome ∙ undecided, involved, refl), refl) }; asks = kept refl }
    by (inr (inl is)) = record { next = after_lost q w; leads = record { events = Inquire_lost q ∷ []; run = (after_lost q w, (here.up, apart, here.outcome ∙ undecided, is.0, is.1, refl), refl) }; asks = lost refl }
    by (inr (inr is)) = record { next = after_inquire q w; leads = record { events = Inquire_home q ∷ []; run = (after_inquire q w, (here.up, apart, here.outcome ∙ undecided, is.0, is.1, refl), refl) }; asks = kept refl }

same_stage : (q : ℕ) (w v : World) → Asks q w v → SameStage w v
same_stage q w v (kept is) = rw is (record { node = refl; class = refl; home = refl; present = refl; up = refl; peer = refl })
same_stage q w v (lost is) = rw is (record { node = refl; class = refl; home = refl; present = refl; up = refl; peer = refl })

same_logs : (q : ℕ) (w v : World) → Asks q w v → SameLogs w v
same_logs q w v (kept is) = rw is (record { prepared = refl; commit_logged = refl; unended = refl; commit_list = refl })
same_logs q w v (lost is) = rw is (record { prepared = refl; commit_logged = refl; unended = refl; commit_list = refl })

home_node : (tid : Tid) (x : Sight) (w : World) → ShowsSight tid x w → tid.home.0 < x.size → w.node w.home ≡ tid.home.0
home_node tid x w shown home_in = ap w.node shown.stage.home ∙ shown.stage.nodes tid.home.0 tid.inc home_in

pub inquire : InquireGoes
inquire tid x w n i lawful shown at peer undecided may = record {
  next = turn.next;
  leads = turn.leads;
  shown = record {
    stage = stage_still tid x (sight_said x n tid.home.0 i (x.face n) Inquired) w turn.next (same_stage q w turn.next turn.asks) refl refl refl refl shown.stage;
    faces = faces_around x n (x.face n) w turn.next shown.stage.small at.in_run shown.faces (asks_face q q w turn.next (x.face n) here turn.asks) (λ k f _ is. asks_face q k w turn.next f is turn.asks);
    links = links_around x n (x.inc n) tid.home.0 i (x.said n (x.inc n) tid.home.0 i ++ Inquired ∷ []) w turn.next shown.stage.small at.in_run peer.in_run shown.links
        (λ m_up now. behind (x.said n (x.inc n) tid.home.0 i) (Inquired ∷ []) (link w q p) (link turn.next q p) (asks_carries q p w turn.next turn.asks) here.up (shown.links n (x.inc n) tid.home.0 i at.in_run peer.in_run m_up now)
        (asks_next q p w turn.next known (place_some tid.home.0 i peer.some) all turn.asks))
        (λ a b other. asks_links q a b w turn.next (λ ea eb. other ea (eb ∙ known)) turn.asks);
    unmet = λ a b a_in b_in a_up none. still (x.unmet a b) (waiting_link w (place a (x.inc a)) b) (waiting_link turn.next (place a (x.inc a)) b)
        (asks_waiting q (place a (x.inc a)) b w turn.next (λ ea eb. met a b a_in none ea eb) turn.asks) (shown.unmet a b a_in b_in a_up none);
    logs = λ k k_in. log_still tid k (x.found k) w turn.next (same_logs q w turn.next turn.asks) (shown.logs k k_in);
  };
}
  where
    q : ℕ
    q = place n (x.inc n)

    p : ℕ
    p = place tid.home.0 i

    here : ShowsFace (x.face n) q w
    here = shown.faces n at.in_run at.up

    turn : Asked q w
    turn = asked tid x w n shown at peer.other peer.in_run undecided may

    known : w.peer q (w.node w.home) ≡ p
    known = ap (w.peer q) (home_node tid x w shown peer.in_run) ∙ (shown.stage.peers n tid.home.0 at.in_run peer.in_run at.up ∙ rw peer.knows (known_is tid.home.0 i peer.some))

    node_p : w.node p ≡ w.node w.home
    node_p = shown.stage.nodes tid.home.0 i peer.in_run ∙ sym (home_node tid x w shown peer.in_run)

    all : w.inquiry_put q p ≡ w.inquiries q
    all = (fresh w lawful q p).asks_all (ap (w.peer q) node_p ∙ known) (place_some tid.home.0 i peer.some) node_p

    -- nothing waits for the home's node, a place of which is known
    met : (a b : ℕ) → a < x.size → x.knows a b ≡ 0 → place a (x.inc a) ≡ q → b ≡ w.node w.home → ⊥
    met a b a_in none ea eb =
        let same : a ≡ n = (same_place a n (x.inc a) (x.inc n) (omega (arith, a_in, shown.stage.small)) (omega (arith, at.in_run, shown.stage.small)) ea).0 in
        let home : b ≡ tid.home.0 = eb ∙ home_node tid x w shown peer.in_run in
        let zero_is : i ≡ 0 = sym peer.knows ∙ (rw (same, home) at none) in omega (arith, zero_is, peer.some)

pub inquire_waits : InquireWaitsGoes
inquire_waits tid x w n shown at away home_in none undecided may = record {
  next = turn.next;
  leads = turn.leads;
  shown = wait_sight tid x w turn.next n tid.home.0 (x.face n) Inquired shown at.in_run at.up
      (record {
        stage = same_stage q w turn.next turn.asks;
        logs = same_logs q w turn.next turn.asks;
        links = λ a b. asks_still q a b w turn.next unknown turn.asks;
        waiting = λ a b other. asks_waiting q a b w turn.next (λ ea eb. other ea (eb ∙ home_node tid x w shown home_in)) turn.asks;
        others = λ k f _ is. asks_face q k w turn.next f is turn.asks;
        carries = asks_awaits q tid.home.0 w turn.next turn.asks;
      })
      (asks_face q q w turn.next (x.face n) (shown.faces n at.in_run at.up) turn.asks)
      (asks_then q tid.home.0 w turn.next turn.asks);
}
  where
    q : ℕ
    q = place n (x.inc n)

    turn : Asked q w
    turn = asked tid x w n shown at away home_in undecided may

    unknown : w.peer q (w.node w.home) ≡ 0
    unknown = ap (w.peer q) (home_node tid x w shown home_in) ∙ (shown.stage.peers n tid.home.0 at.in_run home_in at.up ∙ rw none refl)
