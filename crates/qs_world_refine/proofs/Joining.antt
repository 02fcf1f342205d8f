-- A whole step shows the world after it, once records that need not be forced are on the disk too.
use Rattle.qs_world_refine.proofs.Words.{◌≡◌, ◌<◌, ℕ, ◌==◌, ◌&&◌, ◌||◌, not, Bool, true, false, List, [], ◌∷◌, ◌++◌, fold, refl, sym, ap, subst, ◌∙◌, if◌then◌else◌, filter, list_any, list_any-append, fold-append, same_tid, Tid, Record, Recovery, recovery, found_record, nothing_said, is_forced, Work, effects_of, step_work, Effects, Source, Leads, leads_on, is_loose_of, is_forced_of, are_in_turn, IsSeated, ShowsWorld, MayClose, AllClose, sight_logged, taken_scene, StepShown, is_record_of, place}
use Rattle.qs_world_refine.proofs.Words.{SightGoes, sight, Shows, or_parts, and_right, or_assoc, and_false, eqb-self}
use Rattle.qs_record.specs.declared.record.Record.TheVariants as records
use Rattle.qs_node_step.specs.declared.event.Event.{Event}
use Rattle.qs_world.specs.World.{World}
use Rattle.qs_world_agree.specs.World as machine
use Rattle.qs_world_refine.specs.JoinLaws.{is_loose, StepForced, StepCloses}
use Rattle.qs_world_refine.specs.StepLaws.{stepped}
use Rattle.qs_world_refine.proofs.Alike.{SameFound, same_itself, found_itself, sight_alike}
use Rattle.qs_world_refine.proofs.ClosingAll.{stays_closed, closed_goes}
use Rattle.qs_world_refine.proofs.Facts.{lawful_on}
use Rattle.qs_world_refine.proofs.InTurn.{IsEnded, is_commit, others_say, last_ends, committed_all, forced_say}
use Rattle.qs_world_refine.proofs.Moving.{inc_taken, up_taken}
use Rattle.qs_world_refine.proofs.Sending.{append_nil}
use Rattle.qs_world_refine.proofs.StepMoves.{at_home, all_append}

-- ---- lists of records

-- what may close need not be forced
none_forced : (tid : Tid) (n q : ℕ) (w : machine.World) (recs : List Record) → AllClose tid n q w recs → list_any (is_forced_of tid) recs ≡ false
none_forced tid n q w [] all = refl
none_forced tid n q w (rec ∷ recs) all = rw (one rec all.0) (none_forced tid n q w recs all.1)
  where
    one : (rec : Record) → MayClose tid n q w rec → is_forced_of tid rec ≡ false
    one (records.Prepare u server covers changes) may = rw may refl
    one (records.Commit u told) may = rw may refl
    one (records.Aborted u) may = and_false (same_tid tid u)
    one (records.End u) may = and_false (same_tid tid u)

-- and is no Commit
none_commit : (tid : Tid) (n q : ℕ) (w : machine.World) (recs : List Record) → AllClose tid n q w recs → list_any (is_commit tid) recs ≡ false
none_commit tid n q w [] all = refl
none_commit tid n q w (rec ∷ recs) all = rw (one rec all.0) (none_commit tid n q w recs all.1)
  where
    one : (rec : Record) → MayClose tid n q w rec → is_commit tid rec ≡ false
    one (records.Prepare u server covers changes) may = refl
    one (records.Commit u told) may = and_right _ (same_tid tid u) may
    one (records.Aborted u) may = refl
    one (records.End u) may = refl

turn_alone : (tid : Tid) (recs : List Record) → list_any (is_forced_of tid) recs ≡ false → are_in_turn tid recs ≡ true
turn_alone tid [] none = refl
turn_alone tid (rec ∷ recs) none = by (is_forced_of tid rec) (list_any (is_forced_of tid) recs) refl none (turn_alone tid recs)
  where
    or_last : (a : Bool) → (not a || true) ≡ true
    or_last true = refl
    or_last false = refl

    by : (a b : Bool) → list_any (is_forced_of tid) recs ≡ b → (a || b) ≡ false → (list_any (is_forced_of tid) recs ≡ false → are_in_turn tid recs ≡ true) → ((not (is_loose_of tid rec) || not (list_any (is_forced_of tid) recs)) && are_in_turn tid recs) ≡ true
    by true b is so more = absurd (cc (so))
    by false true is so more = absurd (cc (so))
    by false false is so more = rw (is, more is) (both (or_last (is_loose_of tid rec)))
      where
        both : {a : Bool} → a ≡ true → (a && true) ≡ true
        both is = rw is refl

-- what is left out is of others
loose_left : (tid : Tid) (recs : List Record) → list_any (is_loose_of tid) (filter is_loose recs) ≡ list_any (is_loose_of tid) recs
loose_left tid [] = refl
loose_left tid (rec ∷ recs) = by (is_record_of tid rec) (is_forced rec) refl refl (loose_left tid recs)
  where
    by : (a b : Bool) → is_record_of tid rec ≡ a → is_forced rec ≡ b → list_any (is_loose_of tid) (filter is_loose recs) ≡ list_any (is_loose_of tid) recs
        → list_any (is_loose_of tid) (if not b then rec ∷ filter is_loose recs else filter is_loose recs) ≡ ((a && not b) || list_any (is_loose_of tid) recs)
    by a false ea eb more = rw (ea, eb, more) refl
    by true true ea eb more = more
    by false true ea eb more = more

commits_split : (tid : Tid) (recs : List Record) → (list_any (is_commit tid) (filter is_forced recs) || list_any (is_commit tid) (filter is_loose recs)) ≡ list_any (is_commit tid) recs
commits_split tid [] = refl
commits_split tid (rec ∷ recs) = by (is_forced rec) (is_commit tid rec) refl (commits_split tid recs)
  where
    turned : (a b c : Bool) → (a || (b || c)) ≡ (b || (a || c))
    turned true true c = refl
    turned true false c = refl
    turned false true c = refl
    turned false false c = refl

    first : (a b c d : Bool) → (a || b) ≡ c → ((d || a) || b) ≡ (d || c)
    first a b c true is = refl
    first a b c false is = is

    by : (f d : Bool) → is_commit tid rec ≡ d → (list_any (is_commit tid) (filter is_forced recs) || list_any (is_commit tid) (filter is_loose recs)) ≡ list_any (is_commit tid) recs
        → (list_any (is_commit tid) (if f then rec ∷ filter is_forced recs else filter is_forced recs) || list_any (is_commit tid) (if not f then rec ∷ filter is_loose recs else filter is_loose recs)) ≡ (d || list_any (is_commit tid) recs)
    by true d ed more = rw ed (first (list_any (is_commit tid) (filter is_forced recs)) (list_any (is_commit tid) (filter is_loose recs)) (list_any (is_commit tid) recs) d more)
    by false d ed more = rw ed (turned (list_any (is_commit tid) (filter is_forced recs)) d (list_any (is_commit tid) (filter is_loose recs)) ∙ ap (λ (b : Bool). d || b) more)

-- ---- the logs say the same

module _ (tid : Tid) (r : Recovery) (waiting recs : List Record) (alone : list_any (is_forced_of tid) waiting ≡ false) (uncommitted : list_any (is_commit tid) waiting ≡ false) (turn : are_in_turn tid (waiting ++ recs) ≡ true)
    (loose_alone : list_any (is_forced_of tid) (filter is_loose recs) ≡ false) where
  pub two_orders : SameFound tid (fold found_record (fold found_record r (filter is_forced recs)) (waiting ++ filter is_loose recs)) (fold found_record r (waiting ++ recs))
  two_orders = by (list_any (is_loose_of tid) (waiting ++ recs)) refl
    where
      forced : Recovery
      forced = fold found_record r (filter is_forced recs)

      neither : (xs : List Record) → list_any (is_loose_of tid) xs ≡ false → list_any (is_forced_of tid) xs ≡ false → list_any (is_record_of tid) xs ≡ false
      neither [] a b = refl
      neither (x ∷ xs) a b = at (is_record_of tid x) (is_forced x) (or_parts (is_loose_of tid x) (list_any (is_loose_of tid) xs) a).0 (or_parts (is_forced_of tid x) (list_any (is_forced_of tid) xs) b).0
          (neither xs (or_parts (is_loose_of tid x) (list_any (is_loose_of tid) xs) a).1 (or_parts (is_forced_of tid x) (list_any (is_forced_of tid) xs) b).1)
        where
          at : (c d : Bool) → (c && not d) ≡ false → (c && d) ≡ false → list_any (is_record_of tid) xs ≡ false → (c || list_any (is_record_of tid) xs) ≡ false
          at true true p q more = absurd (cc (q))
          at true false p q more = absurd (cc (p))
          at false d p q more = more

      back : (a b : Recovery) → SameFound tid a b → SameFound tid b a
      back a b same = record { prepared = λ k. sym (same.prepared k); committed = sym same.committed; unended = sym same.unended; named = λ m. sym (same.named m) }

      on : (a b c : Recovery) → SameFound tid a b → SameFound tid b c → SameFound tid a c
      on a b c first second = Rattle.qs_world_refine.proofs.Alike.found_on tid a b c first second

      loose_both : list_any (is_loose_of tid) (waiting ++ filter is_loose recs) ≡ list_any (is_loose_of tid) (waiting ++ recs)
      loose_both = list_any-append (is_loose_of tid) waiting (filter is_loose recs) ∙ (ap (λ (b : Bool). list_any (is_loose_of tid) waiting || b) (loose_left tid recs) ∙ sym (list_any-append (is_loose_of tid) waiting recs))

      commits : (list_any (is_commit tid) (filter is_forced recs) || list_any (is_commit tid) (waiting ++ filter is_loose recs)) ≡ list_any (is_commit tid) (waiting ++ recs)
      commits = ap (λ (b : Bool). list_any (is_commit tid) (filter is_forced recs) || b) (list_any-append (is_commit tid) waiting (filter is_loose recs) ∙ ap (λ (b : Bool). b || list_any (is_commit tid) (filter is_loose recs)) uncommitted)
          ∙ (commits_split tid recs ∙ sym (list_any-append (is_commit tid) waiting recs ∙ ap (λ (b : Bool). b || list_any (is_commit tid) recs) uncommitted))

      by : (b : Bool) → list_any (is_loose_of tid) (waiting ++ recs) ≡ b → SameFound tid (fold found_record forced (waiting ++ filter is_loose recs)) (fold found_record r (waiting ++ recs))
      by true some = record {
        prepared = λ k. second.prepared k ∙ sym (first.prepared k);
        committed = committed_all tid (waiting ++ recs) r ∙ sym (committed_all tid (waiting ++ filter is_loose recs) forced ∙ (ap (λ (b : Bool). b || list_any (is_commit tid) (waiting ++ filter is_loose recs)) (committed_all tid (filter is_forced recs) r)
            ∙ (or_assoc (list_any (same_tid tid) r.committed) (list_any (is_commit tid) (filter is_forced recs)) (list_any (is_commit tid) (waiting ++ filter is_loose recs)) ∙ ap (λ (b : Bool). list_any (same_tid tid) r.committed || b) commits)));
        unended = second.unended ∙ sym first.unended;
        named = λ m. second.named m ∙ sym (first.named m);
      }
        where
          first : IsEnded tid (fold found_record forced (waiting ++ filter is_loose recs))
          first = last_ends tid (waiting ++ filter is_loose recs) forced (loose_both ∙ some)
              (turn_alone tid (waiting ++ filter is_loose recs) (list_any-append (is_forced_of tid) waiting (filter is_loose recs) ∙ rw (alone, loose_alone) refl))

          second : IsEnded tid (fold found_record r (waiting ++ recs))
          second = last_ends tid (waiting ++ recs) r some turn
      by false none =
          let parts = or_parts (list_any (is_loose_of tid) waiting) (list_any (is_loose_of tid) recs) (sym (list_any-append (is_loose_of tid) waiting recs) ∙ none) in
          let no_waiting : list_any (is_record_of tid) waiting ≡ false = neither waiting parts.0 alone in
          let no_loose : list_any (is_record_of tid) (waiting ++ filter is_loose recs) ≡ false = list_any-append (is_record_of tid) waiting (filter is_loose recs) ∙ rw (no_waiting, neither (filter is_loose recs) (loose_left tid recs ∙ parts.1) loose_alone) refl in
          on (fold found_record forced (waiting ++ filter is_loose recs)) forced (fold found_record r (waiting ++ recs))
          (back forced (fold found_record forced (waiting ++ filter is_loose recs)) (others_say tid (waiting ++ filter is_loose recs) forced no_loose))
          (subst (λ (s : Recovery). SameFound tid forced s) (sym (fold-append found_record r waiting recs)) (forced_say tid recs r (fold found_record r waiting) parts.1 (others_say tid waiting r no_waiting)))

-- ---- the step

-- and the machine goes on from where the records that must be forced stand
pub step_closes_after : (tid : Tid) (world : World) (n free : ℕ) (source : Source) (event : Event) (w : machine.World) → IsSeated world → tid.home.0 < world.size → n < world.size → world.channels.up n ≡ true → ShowsWorld tid world w
    → (effects_of (world.hosts n).node event free).force ≡ list_any is_forced (effects_of (world.hosts n).node event free).records
    → are_in_turn tid ((world.hosts n).waiting ++ (effects_of (world.hosts n).node event free).records) ≡ true
    → (step : StepForced tid world n free source event w) → (shown : StepShown tid world n free source event w) × Leads step.next shown.next
step_closes_after tid world n free source event w seated home_in n_in on sw force turn step = by out.force refl
  where
    out : Effects
    out = effects_of (world.hosts n).node event free

    work : Work
    work = step_work (world.hosts n).node event free

    q : ℕ
    q = place n (world.channels.inc n)

    -- what waited may close still
    waiting : AllClose tid n q step.next (world.hosts n).waiting
    waiting = stays_closed tid n q w step.next (world.hosts n).waiting sw.lawful step.leads runs (at_home tid world w seated home_in sw n (world.channels.inc n) n_in) (sw.closes n n_in on)
      where
        runs : step.next.up q ≡ true
        runs = subst (λ (i : ℕ → ℕ). step.next.up (place n (i n)) ≡ true) (inc_taken world n source) (step.shown.faces n n_in (ap (λ (f : ℕ → Bool). f n) (up_taken world n source) ∙ on)).up

    all : AllClose tid n q step.next ((world.hosts n).waiting ++ filter is_loose out.records)
    all = all_append tid n q step.next (world.hosts n).waiting (filter is_loose out.records) waiting step.closes

    by : (b : Bool) → out.force ≡ b → (shown : StepShown tid world n free source event w) × Leads step.next shown.next
    by false off = (
      record {
        next = step.next;
        leads = step.leads;
        shown = subst (λ (log : List Record). Shows tid (stepped (taken_scene world n source) n work log) step.next) (ap (λ (l : List Record). (world.hosts n).log ++ l) (none_left out.records (sym force ∙ off)) ∙ (append_nil (world.hosts n).log ∙ sym (ap (λ (b : Bool). if b then (world.hosts n).log ++ ((world.hosts n).waiting ++ out.records) else (world.hosts n).log) off))) step.shown;
        closes = subst (λ (l : List Record). AllClose tid n q step.next l) (ap (λ (l : List Record). (world.hosts n).waiting ++ l) (all_left out.records (sym force ∙ off)) ∙ sym (ap (λ (b : Bool). if b then [] else (world.hosts n).waiting ++ out.records) off)) all;
      },
      record { events = []; run = refl },
    )
      where
        none_left : (recs : List Record) → list_any is_forced recs ≡ false → filter is_forced recs ≡ []
        none_left [] none = refl
        none_left (rec ∷ recs) none = at (is_forced rec) none (none_left recs)
          where
            at : (b : Bool) → (b || list_any is_forced recs) ≡ false → (list_any is_forced recs ≡ false → filter is_forced recs ≡ []) → (if b then rec ∷ filter is_forced recs else filter is_forced recs) ≡ []
            at true so more = absurd (cc (so))
            at false so more = more so

        all_left : (recs : List Record) → list_any is_forced recs ≡ false → filter is_loose recs ≡ recs
        all_left [] none = refl
        all_left (rec ∷ recs) none = at (is_forced rec) none (all_left recs)
          where
            at : (b : Bool) → (b || list_any is_forced recs) ≡ false → (list_any is_forced recs ≡ false → filter is_loose recs ≡ recs) → (if not b then rec ∷ filter is_loose recs else filter is_loose recs) ≡ rec ∷ recs
            at true so more = absurd (cc (so))
            at false so more = ap (λ (l : List Record). rec ∷ l) (more so)
    by true is = (
      record {
        next = ends.next;
        leads = leads_on w step.next ends.next step.leads ends.leads;
        shown = subst (λ (log : List Record). Shows tid (stepped (taken_scene world n source) n work log) ends.next) (sym (ap (λ (b : Bool). if b then (world.hosts n).log ++ ((world.hosts n).waiting ++ out.records) else (world.hosts n).log) is)) whole;
        closes = subst (λ (l : List Record). AllClose tid n q ends.next l) (sym (ap (λ (b : Bool). if b then [] else (world.hosts n).waiting ++ out.records) is)) tt;
      },
      ends.leads,
    )
      where
        forced : List Record
        forced = (world.hosts n).log ++ filter is_forced out.records

        ends : SightGoes tid (sight_logged (sight tid (stepped (taken_scene world n source) n work forced)) n ((world.hosts n).waiting ++ filter is_loose out.records)) step.next
        ends = closed_goes tid ((world.hosts n).waiting ++ filter is_loose out.records) (sight tid (stepped (taken_scene world n source) n work forced)) step.next n (lawful_on w step.next sw.lawful step.leads) step.shown
            (record { in_run = n_in; up = ap (λ (f : ℕ → Bool). f n) (up_taken world n source) ∙ on }) home_in (subst (λ (i : ℕ → ℕ). AllClose tid n (place n (i n)) step.next ((world.hosts n).waiting ++ filter is_loose out.records)) (sym (inc_taken world n source)) all)

        log_is : SameFound tid (fold found_record (recovery forced) ((world.hosts n).waiting ++ filter is_loose out.records)) (recovery ((world.hosts n).log ++ ((world.hosts n).waiting ++ out.records)))
        log_is = subst (λ (s : Recovery). SameFound tid (fold found_record s ((world.hosts n).waiting ++ filter is_loose out.records)) (recovery ((world.hosts n).log ++ ((world.hosts n).waiting ++ out.records)))) (sym (fold-append found_record nothing_said (world.hosts n).log (filter is_forced out.records)))
            (subst (λ (s : Recovery). SameFound tid (fold found_record (fold found_record (recovery (world.hosts n).log) (filter is_forced out.records)) ((world.hosts n).waiting ++ filter is_loose out.records)) s) (sym (fold-append found_record nothing_said (world.hosts n).log ((world.hosts n).waiting ++ out.records)))
            (two_orders tid (recovery (world.hosts n).log) (world.hosts n).waiting out.records (none_forced tid n q step.next (world.hosts n).waiting waiting) (none_commit tid n q step.next (world.hosts n).waiting waiting) turn (none_forced tid n q step.next (filter is_loose out.records) step.closes)))

        whole : Shows tid (stepped (taken_scene world n source) n work ((world.hosts n).log ++ ((world.hosts n).waiting ++ out.records))) ends.next
        whole = sight_alike tid (sight_logged (sight tid (stepped (taken_scene world n source) n work forced)) n ((world.hosts n).waiting ++ filter is_loose out.records)) (sight tid (stepped (taken_scene world n source) n work ((world.hosts n).log ++ ((world.hosts n).waiting ++ out.records)))) ends.next
            (record { size = refl; inc = refl; up = refl; knows = refl; face = λ k. same_itself ((sight tid (stepped (taken_scene world n source) n work forced)).face k); said = λ a i b j. refl; unmet = λ a b. refl; found = λ k. found k (k == n) (n == n) (eqb-self n) }) ends.shown
          where
            found : (k : ℕ) (b c : Bool) → c ≡ true → SameFound tid (if b then fold found_record (recovery (if c then forced else (world.hosts n).log)) ((world.hosts n).waiting ++ filter is_loose out.records) else recovery (if b then forced else (world.hosts k).log))
                (recovery (if b then (world.hosts n).log ++ ((world.hosts n).waiting ++ out.records) else (world.hosts k).log))
            found k true c is = rw is log_is
            found k false c is = found_itself tid (recovery (world.hosts k).log)

pub step_closes : StepCloses
step_closes tid world n free source event w seated home_in n_in on sw force turn step = (step_closes_after tid world n free source event w seated home_in n_in on sw force turn step).0
