-- A node stops: who was engaged dooms what it was engaged for; who was not was idle, and its lives agree. What was on its way to it, and what it kept back, dooms too.
use Rattle.qs_world_runs.proofs.Words.{◌≡◌, ◌⊎◌, inl, inr, ℕ, ◌+◌, ◌<◌, ◌≤◌, Bool, true, false, List, map, Some, refl, sym, subst, ◌∙◌, arith, nat_tests, Tid, CrashCause, BookValue, find_transaction, TransactionValue, Record, stopped, World, Open, Committed, Aborted, IsDoomed, IsPast, IsLeft, doom_stays, abort_dooms, has_request, ShowsAll, ShowsFace, link, waiting_link, all_said, face_at, place, scene_of, sight, IsShownWorld, requested, commit_clear, commit_unmet, invariant, steady, pending}
use Rattle.qs_world_runs.proofs.Words.{still_held, message_of, field_of, Placed, LeavesNone}
use Rattle.qs_book_machine.specs.Transaction.{is_open}
use Rattle.qs_world_agree.specs.World as machine
use Rattle.qs_world_agree.specs.World.{Outcome}
use Rattle.qs_world_agree.specs.Doomed.{IsKeptBack}
use Rattle.qs_world_agree.proofs.Doomed.{engaged_past_dooms, left_dooms, kept_back_dooms, engaged_is_open}
use Rattle.qs_world_refine.specs.CutLaws.{StopsAlone}
use Rattle.qs_world_refine.proofs.CommitIdles.{never, off_idle}
use Rattle.qs_world_lawful.specs.Holds.{Holds}
use Rattle.qs_world_runs.specs.PlacedLaws.{IsFree}
use Rattle.qs_world_runs.specs.StopLaws.{StopsPlaced, CutPlaced, StopHolds, CutHolds}
use Rattle.qs_world_runs.proofs.CommitsPlaced.{idle_free, none_decided}
use Rattle.qs_world_runs.proofs.StoppedFields.{placed_then}
use Rattle.qs_world_runs.proofs.UnanimousPlaced.{unanimous_placed}

module _ (tid : Tid) (book : BookValue) (tx : TransactionValue) (world : World) (n stamp : ℕ) (cause : CrashCause) (log : List Record) (w : machine.World) (goes : StopsAlone tid world (stopped world n stamp cause log) n w)
    (is : IsShownWorld world) (all : ShowsAll tid world w) (n_in : n < world.size) (on : world.channels.up n ≡ true) (found : find_transaction book tid ≡ Some tx) (undecided : is_open tx.cell ≡ true) (next : ℕ) (h : Holds next book (world.hosts n).node) (apart : LeavesNone tid world n tx) where
  abbrev v : machine.World
  v = goes.goes.next

  abbrev q : ℕ
  q = place n (world.channels.inc n)

  abbrev on_now : Bool
  on_now = (face_at (world.hosts n).node tid).on

  abbrev After : Type 0
  After = IsDoomed v ⊎ Placed tid tx (field_of (stopped world n stamp cause log))

  face : ShowsFace (face_at (world.hosts n).node tid) q w
  face = all.seen.shown.faces n n_in on

  free : on_now ≡ false → IsFree tid (world.hosts n).node
  free off = idle_free tid (world.hosts n).node (off_idle tid (world.hosts n).node ((steady world is).sound n n_in).node off (none_decided book tid tx (world.hosts n).node (still_held next book (world.hosts n).node h) found undecided))

  abbrev to_it : ℕ → ℕ → Bool
  to_it k i = has_request (all_said tid (map message_of (pending world.channels k n i (world.channels.inc n))))

  abbrev by_it : ℕ → Bool
  by_it m = has_request (all_said tid (map message_of (world.channels.waits n m)))

  then_placed : Placed tid tx (field_of world) → on_now ≡ false → ((k i : ℕ) → k < world.size → to_it k i ≡ true → IsDoomed v) → ((m : ℕ) → m < world.size → world.channels.peer n m ≡ 0 → by_it m ≡ true → IsDoomed v) → After
  then_placed placed off left kept_back = placed_then tid book tx world n stamp cause log v is n_in on found undecided next h (free off) left kept_back (apart placed off) placed

  -- ---- undecided: its place stopped, and nothing else happened

  module _ (open_now : w.cell ≡ Open) where
    abbrev down : machine.World
    down = record w { up = machine.with_at w.up q false }

    same : v ≡ down
    same = goes.alone open_now

    as_stopped : (P : machine.World → Type 0) → P down → P v
    as_stopped P its = subst P (sym same) its

    past : IsPast v q
    past = as_stopped (λ (y : machine.World). IsPast y q) (record { down = grind (arith, nat_tests); begun = below (w.present (w.node q)) ((invariant w all.seen.lawful).counts.up_present q face.up) })
      where
        below : (a : ℕ) → a ≡ q → q ≤ a
        below a so = omega (arith, so)

    engaged : on_now ≡ true → IsDoomed v
    engaged so = engaged_past_dooms v q goes.goes.shown.seen.lawful.reached past (as_stopped (λ (y : machine.World). y.engaged q ≡ true) (face.engaged ∙ so))

    left : (k i : ℕ) → k < world.size → to_it k i ≡ true → IsDoomed v
    left k i k_in has = left_dooms v (place k i) q (w.received q (place k i) + 1) goes.goes.shown.seen.lawful.reached past (as_stopped (λ (y : machine.World). IsLeft y (place k i) q (w.received q (place k i) + 1)) put)
      where
        less : w.received q (place k i) < w.posted (place k i) q
        less = requested (all_said tid (map message_of (pending world.channels k n i (world.channels.inc n)))) (link w (place k i) q) has (all.seen.shown.links k i n (world.channels.inc n) k_in n_in on refl)

        put : IsLeft down (place k i) q (w.received q (place k i) + 1)
        put = record { number = omega arith; put = omega (arith, less); untaken = omega arith }

    kept_back : (m : ℕ) → m < world.size → world.channels.peer n m ≡ 0 → by_it m ≡ true → IsDoomed v
    kept_back m m_in unknown has = kept_back_dooms v q m 1 goes.goes.shown.seen.lawful.reached past (as_stopped (λ (y : machine.World). IsKeptBack y q m 1) kept)
      where
        kept : IsKeptBack down q m 1
        kept = record {
          number = omega arith;
          was_sent = requested (all_said tid (map message_of (world.channels.waits n m))) (waiting_link w q m) has (all.seen.shown.unmet n m n_in m_in on unknown);
          unknown = all.seen.shown.stage.peers n m n_in m_in on ∙ rw unknown refl;
        }

    open_then : Placed tid tx (field_of world) → (b : Bool) → on_now ≡ b → After
    open_then placed true so = inl (engaged so)
    open_then placed false off = then_placed placed off left kept_back

  -- ---- committed: nobody is engaged, and nothing is on its way

  committed_then : w.cell ≡ Committed → Placed tid tx (field_of world) → After
  committed_then committed placed = then_placed placed (never on_now (λ so. engaged_is_open w q all.seen.lawful.reached (face.engaged ∙ so) committed))
      (λ k i k_in has. absurd (let none : to_it k i ≡ false = commit_clear tid (sight tid (scene_of world)) w all.seen.lawful committed all.seen.shown k i n k_in n_in on in cc (has, none)))
      (λ m m_in unknown has. absurd (let none : by_it m ≡ false = commit_unmet tid (sight tid (scene_of world)) w all.seen.lawful committed all.seen.shown n m n_in m_in on unknown in cc (has, none)))

  stays_placed : Placed tid tx (field_of world) → (o : Outcome) → w.cell ≡ o → After
  stays_placed placed Open open_now = open_then open_now placed on_now refl
  stays_placed placed Committed committed = committed_then committed placed
  stays_placed placed Aborted aborted = inl (doom_stays w v (abort_dooms w all.seen.lawful.reached aborted) goes.goes.leads)

pub stops_placed : StopsPlaced
stops_placed tid book tx world n stamp cause log w goes is all n_in on found undecided next h apart (inl doomed) = inl (doom_stays w goes.goes.next doomed goes.goes.leads)
stops_placed tid book tx world n stamp cause log w goes is all n_in on found undecided next h apart (inr placed) = stays_placed tid book tx world n stamp cause log w goes is all n_in on found undecided next h apart placed w.cell refl

-- ---- with a record of it kept

pub cut_placed : CutPlaced
cut_placed tid book tx world n stamp cause log w leaves goes is all n_in on found undecided next h apart decides (inl doomed) = inl (doom_stays w goes.goes.next doomed goes.goes.leads)
cut_placed tid book tx world n stamp cause log w leaves goes is all n_in on found undecided next h apart decides (inr placed) = by goes.fate
  where
    After : Type 0
    After = IsDoomed goes.goes.next ⊎ Placed tid tx (field_of (stopped world n stamp cause log))

    face : ShowsFace (face_at (world.hosts n).node tid) (place n (world.channels.inc n)) w
    face = all.seen.shown.faces n n_in on

    off : w.cell ≡ Committed → (face_at (world.hosts n).node tid).on ≡ false
    off committed = never (face_at (world.hosts n).node tid).on (λ so. engaged_is_open w (place n (world.channels.inc n)) all.seen.lawful.reached (face.engaged ∙ so) committed)

    -- decided before: nobody is engaged, and nothing is on its way
    decided : w.cell ≡ Committed → After
    decided committed = placed_then tid book tx world n stamp cause log goes.goes.next is n_in on found undecided next h
        (idle_free tid (world.hosts n).node (off_idle tid (world.hosts n).node ((steady world is).sound n n_in).node (off committed) (none_decided book tid tx (world.hosts n).node (still_held next book (world.hosts n).node h) found undecided)))
        (λ k i k_in has. absurd (let none : has_request (all_said tid (map message_of (pending world.channels k n i (world.channels.inc n)))) ≡ false = commit_clear tid (sight tid (scene_of world)) w all.seen.lawful committed all.seen.shown k i n k_in n_in on in cc (has, none)))
        (λ m m_in unknown has. absurd (let none : has_request (all_said tid (map message_of (world.channels.waits n m))) ≡ false = commit_unmet tid (sight tid (scene_of world)) w all.seen.lawful committed all.seen.shown n m n_in m_in on unknown in cc (has, none))) (apart placed (off committed)) placed

    of_cell : (o : Outcome) → w.cell ≡ o → goes.goes.next.cell ≡ Committed → After
    of_cell Open open_now committed = inr (unanimous_placed tid tx (field_of world) (field_of (stopped world n stamp cause log)) refl (decides open_now committed) placed)
    of_cell Committed before committed = decided before
    of_cell Aborted aborted committed = inl (doom_stays w goes.goes.next (abort_dooms w all.seen.lawful.reached aborted) goes.goes.leads)

    by : IsDoomed goes.goes.next ⊎ (goes.goes.next.cell ≡ Committed) → After
    by (inl doomed) = inl doomed
    by (inr committed) = of_cell w.cell refl committed

-- ---- the reference machine keeps of each transaction what it had

pub stop_holds : StopHolds
stop_holds tid book world n stamp cause log w goes is all n_in on next h apart places tx found undecided = by (apart tx found undecided)
  where
    by : IsDoomed w ⊎ LeavesNone tid world n tx → IsDoomed goes.goes.next ⊎ Placed tid tx (field_of (stopped world n stamp cause log))
    by (inl doomed) = inl (doom_stays w goes.goes.next doomed goes.goes.leads)
    by (inr none) = stops_placed tid book tx world n stamp cause log w goes is all n_in on found undecided next h none (places tx found undecided)

pub cut_holds : CutHolds
cut_holds tid book world n stamp cause log w leaves goes is all n_in on next h apart decides places tx found undecided = by (apart tx found undecided)
  where
    by : IsDoomed w ⊎ LeavesNone tid world n tx → IsDoomed goes.goes.next ⊎ Placed tid tx (field_of (stopped world n stamp cause log))
    by (inl doomed) = inl (doom_stays w goes.goes.next doomed goes.goes.leads)
    by (inr none) = cut_placed tid book tx world n stamp cause log w leaves goes is all n_in on found undecided next h none (λ open_now committed. decides open_now committed tx found undecided) (places tx found undecided)
