-- Where nothing but logs speaks of a transaction, the agreement machine that begins over them shows it.
use Rattle.qs_world_refine.proofs.Words.{◌≡◌, ℕ, ◌<◌, ◌≤◌, ◌==◌, ◌&&◌, nat_lt, Bool, true, false, List, [], refl, sym, ap, subst, ◌∙◌, arith, if◌then◌else◌, list_any, eqb-true, and_right, nat_tests, same_tid, Tid, is_untold_of, lawful, IsLawful, Found, Open, Committed, Aborted, ShowsFace, reopening_seen, Said, IsLink, link, waiting_link, names_node, node_no, place, ArePlaced, IsRisenFace, outcome_at_home, Sight, ShowsSight, ShowsLog, is_in_doubt, list_of, has_doubt}
use Rattle.qs_world_agree.specs.Origins as origins
use Rattle.qs_world_agree.specs.World.{World}
use Rattle.qs_world_refine.specs.Lefts.{IsLeft}
use Rattle.qs_world_refine.specs.Places.{home_place}
use Rattle.qs_world_refine.specs.RiseLaws.{outcome_found}
use Rattle.qs_world_refine.specs.Starts.{node_of}
use Rattle.qs_world_refine.proofs.Doubts.{none_of}
use Rattle.qs_world_refine.proofs.Starting.{node_place, below, up_is, stage_seen, staged}

module _ (tid : Tid) (x : Sight) (left : IsLeft tid x) where
  abbrev o : origins.Reopening
  o = reopening_seen tid x

  abbrev pub over_logs : World
  over_logs = origins.reopened o

  abbrev h : ℕ
  h = tid.home.0

  low : (n : ℕ) → n < x.size → n < 256
  low = below tid x left.small

  within : (n : ℕ) → n < x.size → (b : Bool) → (if nat_lt n x.size then b else false) ≡ b
  within n n_in b = picked (nat_lt n x.size) (grind (arith, nat_tests, n_in)) b
    where
      picked : (a : Bool) → a ≡ true → (b : Bool) → (if a then b else false) ≡ b
      picked a is b = rw is refl

  home_node : o.node o.home ≡ h
  home_node = node_place h tid.inc (low h left.home_in)

  doubts_home : o.doubts (o.node o.home) ≡ has_doubt tid (x.found h)
  doubts_home = ap o.doubts home_node ∙ within h left.home_in (has_doubt tid (x.found h))

  -- ---- the machine may begin so

  some_doubt : (n s : ℕ) → is_in_doubt tid s (x.found n) ≡ true → has_doubt tid (x.found n) ≡ true
  some_doubt n s is = by (has_doubt tid (x.found n)) refl
    where
      by : (b : Bool) → has_doubt tid (x.found n) ≡ b → b ≡ true
      by true so = refl
      by false none = absurd (let off : is_in_doubt tid s (x.found n) ≡ false = none_of tid s (x.found n).prepared none in cc (off, is))

  pub may_reopen : origins.IsReopening o
  may_reopen = record {
    home_past = subst (λ (k : ℕ). place h tid.inc < place k (x.inc k)) (sym home_node) (omega (arith, left.past));
    up_present = (staged tid x left.small left.known).up_present;
    peer_node = (staged tid x left.small left.known).peer_node;
    peer_present = (staged tid x left.small left.known).peer_present;
    in_doubt = λ n s. in_doubt n s (nat_lt n x.size);
    stands = left.stands;
    home_clear = λ is. doubts_home ∙ left.home_clear is;
    listed = λ n is doubts. listed n is (nat_lt n x.size) refl doubts;
  }
    where
      in_doubt : (n s : ℕ) (b : Bool) → (if b then is_in_doubt tid s (x.found n) else false) ≡ true → (if b then has_doubt tid (x.found n) else false) ≡ true
      in_doubt n s true is = some_doubt n s is
      in_doubt n s false is = absurd (cc (is))

      listed : (n : ℕ) → o.committed ≡ true → (b : Bool) → nat_lt n x.size ≡ b → (if b then has_doubt tid (x.found n) else false) ≡ true → (o.unended ≡ true) × (o.list n ≡ true)
      listed n is true n_in doubts = left.listed n (grind (arith, nat_tests, n_in)) is doubts
      listed n is false out doubts = absurd (cc (doubts))

  pub reopens_lawful : IsLawful over_logs
  reopens_lawful = lawful over_logs (record { origin = Found o; begins = may_reopen; events = []; run = refl })

  pub reopens_placed : ((k : ℕ) → k < x.size → 1 ≤ x.inc k) → ArePlaced over_logs
  reopens_placed begun q m = record {
    stranger = λ late. apart (q == place (node_of q) (x.inc (node_of q))) (grind (arith, nat_tests, late)) (nat_lt m x.size) (Rattle.qs_world_refine.specs.Places.known_place m (x.knows (node_of q) m));
    none_up = and_right (x.up 0) (0 == place 0 (x.inc 0)) (no_place (x.inc 0) (begun 0 (grind (arith, nat_tests, left.home_in))));
    none_posted = refl;
    engager = λ on away. absurd (cc (on));
  }
    where
      apart : (a : Bool) → a ≡ false → (b : Bool) (k : ℕ) → (if a && b then k else 0) ≡ 0
      apart a is b k = rw is refl

      no_place : (i : ℕ) → 1 ≤ i → (0 == place 0 i) ≡ false
      no_place i some = grind (arith, nat_tests, some)

  -- ---- nodes

  module _ (n : ℕ) (n_in : n < x.size) (up : x.up n ≡ true) where
    abbrev q : ℕ
    q = place n (x.inc n)

    f : IsRisenFace tid n (x.found n) (x.face n)
    f = left.faces n n_in up

    node_is : node_of q ≡ n
    node_is = node_place n (x.inc n) (low n n_in)

    runs : over_logs.up q ≡ true
    runs = up_is tid x left.small n (x.inc n) n_in ∙ both (x.up n) up (x.inc n)
      where
        both : (b : Bool) → b ≡ true → (i : ℕ) → (b && (i == i)) ≡ true
        both b is i = rw is (grind (arith, nat_tests))

    picked : {A : Type 0} (b : Bool) → b ≡ true → (a c : A) → (if b then a else c) ≡ a
    picked b is a c = rw is refl

    at_home : (c d : Bool) → (list_any (is_untold_of tid) (x.found h).untold ≡ true → list_any (same_tid tid) (x.found h).committed ≡ true) → (list_any (same_tid tid) (x.found h).committed ≡ true → has_doubt tid (x.found h) ≡ false)
        → (if list_any (same_tid tid) (x.found h).committed then Committed else (if has_doubt tid (x.found h) then Aborted else Open)) ≡ outcome_at_home tid (x.found h)
    at_home c d stands clear = by (list_any (is_untold_of tid) (x.found h).untold) (list_any (same_tid tid) (x.found h).committed) (has_doubt tid (x.found h)) stands clear
      where
        by : (u k d : Bool) → (u ≡ true → k ≡ true) → (k ≡ true → d ≡ false) → (if k then Committed else (if d then Aborted else Open)) ≡ (if u then Committed else (if d then Aborted else (if k then Committed else Open)))
        by true true d stands clear = refl
        by true false d stands clear = absurd (let never = stands refl in cc (never))
        by false true true stands clear = absurd (let never = clear refl in cc (never))
        by false true false stands clear = refl
        by false false true stands clear = refl
        by false false false stands clear = refl

    outcome_is : over_logs.outcome q ≡ outcome_found tid n (x.found n)
    outcome_is = picked (over_logs.up q) runs (if node_of q == o.node o.home then origins.found_at_home o else Open) Open ∙ (ap (λ (k : ℕ). if k == o.node o.home then origins.found_at_home o else Open) node_is
        ∙ (ap (λ (k : ℕ). if n == k then origins.found_at_home o else Open) home_node ∙ by (n == h) (h == n) (turned n h) refl))
      where
        turned : (a b : ℕ) → (b == a) ≡ (a == b)
        turned a b = grind (arith, nat_tests)

        by : (a b : Bool) → b ≡ a → (h == n) ≡ b → (if a then origins.found_at_home o else Open) ≡ (if b then outcome_at_home tid (x.found n) else Open)
        by true true same is = subst (λ (k : ℕ). origins.found_at_home o ≡ outcome_at_home tid (x.found k)) (eqb-true h n is)
            (ap (λ (d : Bool). if list_any (same_tid tid) (x.found h).committed then Committed else (if d then Aborted else Open)) doubts_home ∙ at_home true true left.stands left.home_clear)
        by false false same is = refl
        by true false same is = absurd (cc (same))
        by false true same is = absurd (cc (same))

    involved_is : over_logs.involved q ≡ has_doubt tid (x.found n)
    involved_is = picked (over_logs.up q) runs (o.doubts (node_of q)) false ∙ (ap o.doubts node_is ∙ within n n_in (has_doubt tid (x.found n)))

    shown_face : ShowsFace (x.face n) q over_logs
    shown_face = record {
      up = runs;
      outcome = outcome_is ∙ sym f.outcome;
      engaged = sym f.on;
      superior = λ on away. absurd (cc (f.on, on));
      last = λ on away. absurd (cc (f.on, on));
      last_new = λ p late. refl;
      sent = λ _ m. sym (f.sent m);
      told_in = λ m has. absurd (cc (f.told m, has));
      tell = λ is m has. absurd (cc (f.tell is m, has));
      running = λ is. record {
        covered = λ m. sym (f.covered m);
        asked = sym f.asked;
        refused = λ is. refl;
        gone = λ is. refl;
        abort_vote = λ is. refl;
        waits = λ s. rw (f.waits s) (omega (arith));
        uncast = λ s votes. rw (f.uncast s) (omega (arith));
        loans = sym f.loans;
        involved = involved_is ∙ sym (f.involved is);
        told = λ m. sym (f.told m);
      };
    }

  -- ---- links

  nothing_said : (p q : ℕ) (said : List Said) → said ≡ [] → IsLink (link over_logs p q) said
  nothing_said p q said none = subst (λ (s : List Said). IsLink (link over_logs p q) s) (sym none)
      (record { requests = grind (arith); closers = grind (arith); inquiries = grind (arith); all_requests = λ live. refl; all_closers = λ live. refl; all_inquiries = λ live home. refl })

  nothing_waits : (p m : ℕ) (said : List Said) → said ≡ [] → IsLink (waiting_link over_logs p m) said
  nothing_waits p m said none = subst (λ (s : List Said). IsLink (waiting_link over_logs p m) s) (sym none)
      (record { requests = grind (arith); closers = grind (arith); inquiries = grind (arith); all_requests = λ live. refl; all_closers = λ live. refl; all_inquiries = λ live home. refl })

  -- ---- logs

  shown_log : (n : ℕ) → n < x.size → ShowsLog tid n (x.found n) over_logs
  shown_log n n_in = record {
    prepared = λ s. within n n_in (is_in_doubt tid s (x.found n));
    committed = λ home. ap (λ (k : ℕ). list_any (same_tid tid) (x.found k).committed) (sym home);
    unended = λ home. ap (λ (k : ℕ). list_any (is_untold_of tid) (x.found k).untold) (sym home);
    named = λ home stands m. ap (λ (k : ℕ). names_node (list_of tid (x.found k)) (node_no m)) (sym home);
  }

  pub left_shown : ShowsSight tid x over_logs
  left_shown = let stage = stage_seen tid x left.small left.numbered in record {
    stage = record { small = stage.small; numbered = stage.numbered; home = stage.home; nodes = stage.nodes; classes = stage.classes; present = stage.present; up = stage.up; peers = stage.peers };
    faces = λ n n_in up. shown_face n n_in up;
    links = λ n i m j in_run in_too up now. nothing_said (place n i) (place m j) (x.said n i m j) (left.links n i m j);
    unmet = λ n m in_run in_too up none. nothing_waits (place n (x.inc n)) m (x.unmet n m) (left.unmet n m);
    logs = λ n n_in. shown_log n n_in;
  }
