-- Incarnations that have begun are those of the opening and of Restarts in the journal: where a world begins, and after each move.
use Rattle.qs_world_runs.proofs.Words.{◌≡◌, ℕ, ◌≤◌, ◌<◌, ◌==◌, ◌&&◌, ◌||◌, not, Bool, true, false, List, [], ◌∷◌, ◌++◌, Option, Some, None, is_some, refl, sym, ap, subst, ◌∙◌, arith, nat_le, nat_lt, if◌then◌else◌, eqb-true, ltb-true, nat_tests, list_any-append, list_any, CrashCause, Entry, Record, effects_of, Event, Clock, Commanded, Cut, Handed, Meet, Move, Noticed, Queues, Rise, Source, Step, Stop, cut_log, cut_with, event_of, hand_next, is_later, may_move, moved, step_with, stopped}
use Rattle.qs_world_runs.proofs.Words.{taken_by, next_parcel, Opening, Parcel, World, inc_of, known_of, start, inc_taken, inc_all, peer_all, eqb-self}
use Rattle.qs_session_channels.specs.Network.{with_at}
use Rattle.qs_book_laws.specs.Gone.{restarts_into}
use Rattle.qs_node_step.specs.declared.event.Event.TheVariants as events
use Rattle.qs_world.specs.Moves.{has_begun, is_before, node_no}
use Rattle.qs_world_refine.proofs.SoundParts.{and_both}
use Rattle.qs_world_runs.specs.Born.{BornAt, HasRun}
use Rattle.qs_base_lemmas.proofs.Tests.{le_lt_le}

-- ---- where a world begins

-- with the stamp 0
abbrev stamped : Bool → Option ℕ
stamped b = if b then Some 0 else None

pub born_start : (o : Opening) → BornAt o (start o)
born_start o = record {
  born = λ m inc is. first m inc (inc == (o.settings m).inc) refl is;
  present = λ m. opened m ((o.settings m).inc == (o.settings m).inc) (eqb-self (o.settings m).inc);
  known = λ n m some. absurd (none some);
}
  where
    none : 1 ≤ 0 → ⊥
    none some = grind (arith, some)

    opened : (m : ℕ) (b : Bool) → b ≡ true → is_some (stamped b) ≡ true
    opened m b is = rw is refl

    first : (m inc : ℕ) (b : Bool) → (inc == (o.settings m).inc) ≡ b → is_some (stamped b) ≡ true → HasRun o [] m inc
    first m inc false other is = absurd (cc is)
    first m inc true same is = record { least = grind (arith, nat_tests, same); ran = turned (o.settings m).inc inc same }
      where
        turned : (a b : ℕ) → (b == a) ≡ true → (a == b || false) ≡ true
        turned a b e = grind (arith, nat_tests, e)

-- what has begun has a stamp
begun_some : (world : World) (stamp m inc : ℕ) → has_begun world stamp m inc ≡ true → is_some (world.born m inc) ≡ true
begun_some world stamp m inc is = by (world.born m inc) (and_both (nat_le inc (inc_of world m)) (is_before stamp (world.born m inc)) is).1
  where
    by : (o : Option ℕ) → is_before stamp o ≡ true → is_some o ≡ true
    by None is = absurd (cc is)
    by (Some began) is = refl

module _ (o : Opening) (world : World) (b : BornAt o world) where
  has_more : (more : List Entry) (m inc : ℕ) → HasRun o world.journal m inc → HasRun o (world.journal ++ more) m inc
  has_more more m inc h = record { least = h.least; ran = by ((o.settings m).inc == inc) (list_any (restarts_into (record { 0 = m }) inc) world.journal) (list_any (restarts_into (record { 0 = m }) inc) more) (list_any-append (restarts_into (record { 0 = m }) inc) world.journal more) h.ran }
    where
      by : (a c d : Bool) {e : Bool} → e ≡ (c || d) → (a || c) ≡ true → (a || e) ≡ true
      by true c d is h = refl
      by false true d is h = is
      by false false d is h = absurd (cc h)

  -- ---- a move in which none begins, and what another node gets to know has begun

  goes_on : (new : World) (more : List Entry) → new.journal ≡ world.journal ++ more → ((m inc : ℕ) → new.born m inc ≡ world.born m inc) → ((m : ℕ) → new.channels.inc m ≡ world.channels.inc m)
      → ((n m : ℕ) → 1 ≤ new.channels.peer n m → is_some (world.born m (new.channels.peer n m)) ≡ true) → BornAt o new
  goes_on new more journal same incs knows = record {
    born = λ m inc is. subst (λ (history : List Entry). HasRun o history m inc) (sym journal) (has_more more m inc (b.born m inc (ap (λ (s : Option ℕ). is_some s) (sym (same m inc)) ∙ is)));
    present = λ m. subst (λ (inc : ℕ). is_some (new.born m inc) ≡ true) (sym (incs m)) (ap (λ (s : Option ℕ). is_some s) (same m (world.channels.inc m)) ∙ b.present m);
    known = λ n m one. ap (λ (s : Option ℕ). is_some s) (same m (new.channels.peer n m)) ∙ knows n m one;
  }

  crashed : (n stamp : ℕ) (cause : CrashCause) (log : List Record) → BornAt o (stopped world n stamp cause log)
  crashed n stamp cause log = goes_on (stopped world n stamp cause log) _ refl (λ m inc. refl) (λ m. refl) b.known

  -- what it gets to know of a node has begun
  learns : (n m new : ℕ) → is_some (world.born m new) ≡ true → (a c : ℕ) (x y : Bool) → (a == n) ≡ x → (c == m) ≡ y
      → 1 ≤ (if x then (if y then new else world.channels.peer a c) else world.channels.peer a c) → is_some (world.born c (if x then (if y then new else world.channels.peer a c) else world.channels.peer a c)) ≡ true
  learns n m new begun a c true true here there one = subst (λ (k : ℕ). is_some (world.born k new) ≡ true) (sym (eqb-true c m there)) begun
  learns n m new begun a c true false here other one = b.known a c one
  learns n m new begun a c false y far there one = b.known a c one

  -- ---- a step

  taken_known : (n stamp : ℕ) (source : Source) (event : Event) → event_of world n stamp source ≡ Some event → (a c : ℕ) → 1 ≤ (taken_by world n source).peer a c → is_some (world.born c ((taken_by world n source).peer a c)) ≡ true
  taken_known n stamp (Commanded k) event comes a c one = b.known a c one
  taken_known n stamp (Handed m) event comes a c one = by (next_parcel world n m) one
    where
      by : (p : Option Parcel) → 1 ≤ (hand_next n m p world.channels).peer a c → is_some (world.born c ((hand_next n m p world.channels).peer a c)) ≡ true
      by None one = b.known a c one
      by (Some parcel) one = b.known a c one
  taken_known n stamp Queues event comes a c one = b.known a c one
  taken_known n stamp Clock event comes a c one = b.known a c one
  taken_known n stamp (Noticed m new) event comes a c one = learns n m new (begun_some world stamp m new (has (nat_lt 0 (known_of world n m)) (nat_lt (known_of world n m) new) (has_begun world stamp m new) comes)) a c (a == n) (c == m) refl refl one
    where
      has : (x y z : Bool) → (if x && (y && z) then Some (events.PeerRestarted (node_no m) (known_of world n m) new) else None) ≡ Some event → z ≡ true
      has true true true is = refl
      has true true false is = absurd (cc is)
      has true false z is = absurd (cc is)
      has false y z is = absurd (cc is)

  stepped_so : (n stamp free : ℕ) (source : Source) (event : Event) → event_of world n stamp source ≡ Some event → BornAt o (step_with world n stamp free source (Some event))
  stepped_so n stamp free source event comes = goes_on (step_with world n stamp free source (Some event)) _ refl (λ m inc. refl)
      (λ m. ap (λ (incs : ℕ → ℕ). incs m) (inc_all n stamp (effects_of (world.hosts n).node event free).messages (taken_by world n source) ∙ inc_taken world n source))
      (λ a c. subst (λ (peer : ℕ → ℕ → ℕ). 1 ≤ peer a c → is_some (world.born c (peer a c)) ≡ true) (sym (peer_all n stamp (effects_of (world.hosts n).node event free).messages (taken_by world n source))) (taken_known n stamp source event comes a c))

  -- ---- a restart

  module _ (n stamp inc : ℕ) (may : may_move world (Rise n stamp inc) ≡ true) where
    abbrev new : World
    new = moved (Rise n stamp inc) world

    later : world.channels.inc n < inc
    later = ltb-true (world.channels.inc n) inc (and_both _ (nat_lt (inc_of world n) inc) (and_both (not (world.channels.up n)) _ may).1).1

    -- it has begun then, and what had begun has
    still_some : (m i : ℕ) → is_some (world.born m i) ≡ true → is_some (new.born m i) ≡ true
    still_some m i is = by (m == n) refl
      where
        at : (y : Bool) → is_some (world.born n i) ≡ true → is_some (if y then Some stamp else world.born n i) ≡ true
        at true had = refl
        at false had = had

        by : (x : Bool) → (m == n) ≡ x → is_some ((if x then with_at (world.born n) inc (Some stamp) else world.born m) i) ≡ true
        by true here = at (i == inc) (subst (λ (k : ℕ). is_some (world.born k i) ≡ true) (eqb-true m n here) is)
        by false far = is

    own : HasRun o new.journal n inc
    own = record { least = le_lt_le (o.settings n).inc (world.channels.inc n) inc (b.born n (world.channels.inc n) (b.present n)).least later; ran = last ((o.settings n).inc == inc) (list_any (restarts_into (record { 0 = n }) inc) world.journal) (n == n) (inc == inc) (list_any-append (restarts_into (record { 0 = n }) inc) world.journal _) (eqb-self n) (eqb-self inc) }
      where
        last : (a c x y : Bool) {e : Bool} → e ≡ (c || ((x && y) || false)) → x ≡ true → y ≡ true → (a || e) ≡ true
        last true c x y is p q = refl
        last false true x y is p q = is
        last false false x y is p q = is ∙ rw (p, q) refl

    risen_born : (m i : ℕ) → is_some (new.born m i) ≡ true → HasRun o new.journal m i
    risen_born m i is = by (m == n) refl is
      where
        at : (m == n) ≡ true → (y : Bool) → (i == inc) ≡ y → is_some (if y then Some stamp else world.born n i) ≡ true → HasRun o new.journal m i
        at here true now is = subst (λ (k : ℕ). HasRun o new.journal k i) (sym (eqb-true m n here)) (subst (λ (k : ℕ). HasRun o new.journal n k) (sym (eqb-true i inc now)) own)
        at here false old is = has_more _ m i (b.born m i (subst (λ (k : ℕ). is_some (world.born k i) ≡ true) (sym (eqb-true m n here)) is))

        by : (x : Bool) → (m == n) ≡ x → is_some ((if x then with_at (world.born n) inc (Some stamp) else world.born m) i) ≡ true → HasRun o new.journal m i
        by true here is = at here (i == inc) refl is
        by false far is = has_more _ m i (b.born m i is)

    risen_so : BornAt o new
    risen_so = record {
      born = risen_born;
      present = λ m. now m (m == n) refl;
      known = λ a c one. knows a c (a == n) refl one;
    }
      where
        now : (m : ℕ) (x : Bool) → (m == n) ≡ x → is_some (new.born m (if x then inc else world.channels.inc m)) ≡ true
        now m false far = still_some m (world.channels.inc m) (b.present m)
        now m true here = at (m == n) here
          where
            is_it : (y : Bool) → y ≡ true → is_some (if y then Some stamp else world.born n inc) ≡ true
            is_it y e = rw e refl

            at : (x : Bool) → x ≡ true → is_some ((if x then with_at (world.born n) inc (Some stamp) else world.born m) inc) ≡ true
            at true e = is_it (inc == inc) (eqb-self inc)
            at false e = absurd (cc e)

        none : 1 ≤ 0 → ⊥
        none some = grind (arith, some)

        knows : (a c : ℕ) (x : Bool) → (a == n) ≡ x → 1 ≤ (if x then (λ (m : ℕ). 0) else world.channels.peer a) c → is_some (new.born c ((if x then (λ (m : ℕ). 0) else world.channels.peer a) c)) ≡ true
        knows a c true here one = absurd (none one)
        knows a c false far one = still_some c (world.channels.peer a c) (b.known a c one)

  -- ---- each move

  pub born_moved : (move : Move) → may_move world move ≡ true → BornAt o (moved move world)
  born_moved (Step n stamp free source) may = by (event_of world n stamp source) refl
    where
      by : (e : Option Event) → event_of world n stamp source ≡ e → BornAt o (moved (Step n stamp free source) world)
      by None none = subst (λ (e : Option Event). BornAt o (step_with world n stamp free source e)) (sym none) b
      by (Some event) comes = subst (λ (e : Option Event). BornAt o (step_with world n stamp free source e)) (sym comes) (stepped_so n stamp free source event comes)
  born_moved (Cut n stamp free source is_kept cause) may = by (event_of world n stamp source)
    where
      by : (e : Option Event) → BornAt o (cut_with world n stamp free is_kept cause e)
      by None = b
      by (Some event) = crashed n stamp cause (cut_log (world.hosts n) is_kept (effects_of (world.hosts n).node event free))
  born_moved (Stop n stamp cause) may = crashed n stamp cause (world.hosts n).log
  born_moved (Rise n stamp inc) may = risen_so n stamp inc may
  born_moved (Meet n stamp m inc) may = goes_on (moved (Meet n stamp m inc) world) [] (sym (nil world.journal)) (λ k i. refl) (λ k. refl) (λ a c. learns n m inc (begun_some world stamp m inc begun) a c (a == n) (c == m) refl refl)
    where
      nil : (xs : List Entry) → xs ++ [] ≡ xs
      nil [] = refl
      nil (x ∷ xs) = ap (λ (rest : List Entry). x ∷ rest) (nil xs)

      begun : has_begun world stamp m inc ≡ true
      begun = (and_both (nat_lt 0 inc) _ (and_both (known_of world n m == 0) _ (and_both (not (m == n) && nat_lt m world.size) _ (and_both (is_later world n stamp) _ (and_both (world.channels.up n) _ may).1).1).1).1).1
