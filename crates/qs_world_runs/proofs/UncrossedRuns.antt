-- At the only node of a run no transaction is crossed, along the whole run: what gets a number there began in the node's present incarnation.
use Rattle.qs_world_runs.proofs.Words.{◌≡◌, ◌⊎◌, inl, inr, ℕ, ◌≤◌, ◌<◌, Bool, true, List, [], ◌∷◌, Option, Some, None, refl, sym, ap, subst, ◌∙◌, arith, ◌++◌, length, map, slice_get, NodeNo, Tid, CrashCause, Entry, BookValue, find_transaction, inc_at, book_after, TransactionValue, sent_in, sent_on, recovered_of, effects_of, Event, book_of, opened_from, Cut, Meet, Move, Rise, Source, Step, Stop, cut_with, event_of, may_move, moved, step_with, taken_by, entries_of, Run, Opening, World, start}
use Rattle.qs_world_runs.proofs.Words.{StepMay, step_may, inc_taken, up_taken, inc_all, up_all, face_of, HoldsAt, HoldsStill, HoldsTid, way_between, HoldsNodeAt, HoldsUp, opening_empty, clash, of_some, AlongRun, IsBare, IsTallied, given_in, tally_of, Joined, book_in, entries_in, Field, field_of, Here, eq-eqb, some_not_zero}
use Rattle.qs_book_journal.specs.declared.entry.Act.TheVariants as acts
use Rattle.qs_book_machine.specs.Lawful.{IsLawful}
use Rattle.qs_book_machine.specs.Nodes as machine
use Rattle.qs_node_step.specs.State.{NodeValue}
use Rattle.qs_world.specs.Moves.{found_of}
use Rattle.qs_world_runs.specs.Uncrossed.{EachUncrossedAlone}
use Rattle.qs_world_runs.proofs.JoinedMoves.{each_move_joined}
use Rattle.qs_world_runs.proofs.JoinedOver.{each_opens_joined, each_run_joined}
use Rattle.qs_world_runs.proofs.JoinedParts.{book_on, lawful_more}
use Rattle.qs_world_runs.proofs.JoinedWays.{lasts_now}
use Rattle.qs_world_runs.proofs.RunsGoOn.{runs_go}
use Rattle.qs_world_runs.proofs.UncrossedEntries.{Goes, IsClean, IsLate, clean_bare, crash_clean, goes_on, restart_clean}

one_low : (size : ℕ) → size ≡ 1 → 0 < size
one_low size one = omega (arith, one)

only : (n size : ℕ) → size ≡ 1 → n < size → n ≡ 0
only n size one low = omega (arith, one, low)

-- ---- the only node of a world

module _ (o : Opening) (world : World) (j : Joined AlongRun o world) (one : world.size ≡ 1) where
  node_at : HoldsNodeAt (book_in o world) world 0
  node_at = j.held.nodes 0 (one_low world.size one)

  sized : length (book_in o world).nodes ≡ 1
  sized = j.held.size ∙ one

  in_inc : inc_at (book_in o world) (record { 0 = 0 }) ≡ world.channels.inc 0
  in_inc = ap (λ (s : Option machine.NodeValue). elim s [ None ↦ 0 | Some state ↦ state.inc ]) node_at.there ∙ node_at.inc_is

  -- while it runs it gives numbers to what began in its present incarnation alone
  young : (tid : Tid) (base : Field) (tx : TransactionValue) → world.channels.up 0 ≡ true → find_transaction (book_in o world) tid ≡ Some tx → IsLate tid base (world.channels.inc 0) tx → ⊥
  young tid base tx up found late = by ((j.places.counted one up).each tid)
    where
      node : NodeValue
      node = (world.hosts 0).node

      runs : HoldsUp 0 (book_in o world) node_at.state (world.hosts 0)
      runs = node_at.runs up

      still : HoldsStill (book_in o world) node
      still = runs.still

      here_is : node.setting.node ≡ record { 0 = 0 }
      here_is = ap (λ (k : ℕ). record { 0 = k }) node_at.node

      inc_is : node.setting.inc ≡ world.channels.inc 0
      inc_is = sym still.same.inc ∙ (ap (λ (s : machine.NodeValue). s.inc) (of_some (sym (subst (λ (k : ℕ). slice_get (book_in o world).nodes k ≡ Some still.state) node_at.node still.there) ∙ node_at.there)) ∙ node_at.inc_is)

      holds : HoldsTid node.setting.node node.setting.inc tid tx (face_of node tid)
      holds = subst (λ (t : Option TransactionValue). HoldsAt node.setting.node node.setting.inc tid t (face_of node tid)) found (still.at tid)

      local_is : sent_in (world.channels.inc 0) (sent_on tx (way_between 0 0 1).link) ≡ given_in tid node.locals
      local_is = subst (λ (n : NodeNo). sent_in (world.channels.inc 0) (sent_on tx (record { from = n; to = n })) ≡ given_in tid node.locals) here_is
          (subst (λ (i : ℕ). sent_in i (sent_on tx (record { from = node.setting.node; to = node.setting.node })) ≡ given_in tid node.locals) inc_is holds.local)

      given : 1 ≤ given_in tid node.locals
      given = subst (λ (n : ℕ). 1 ≤ n) local_is late.given

      by : IsTallied tid (tally_of node) ⊎ IsBare tid (tally_of node) → ⊥
      by (inl it) = clash (sym late.apart ∙ eq-eqb (world.channels.inc 0) tid.inc (sym inc_is ∙ sym it.began))
      by (inr bare) = some_not_zero (given_in tid node.locals) given bare.none

-- ---- along a run

module _ (o : Opening) (tid : Tid) where
  abbrev base : Field
  base = field_of (start o)

  abbrev Clean : BookValue → Type 0
  Clean book = Here tid (IsClean tid base) book

  clean_first : Clean (book_of o)
  clean_first tx found = let e = opening_empty (opened_from o 0 o.size) tid tx found in clean_bare tid base tx e.requests e.crossed

  module _ (world : World) (j : Joined AlongRun o world) (one : world.size ≡ 1) (all : Clean (book_in o world)) where
    step_clean : (n stamp free : ℕ) (source : Source) (event : Event) → StepMay world n source → Joined AlongRun o (step_with world n stamp free source (Some event)) → Clean (book_in o (step_with world n stamp free source (Some event)))
    step_clean n stamp free source event may later tx found = by (goes tx found)
      where
        new : World
        new = step_with world n stamp free source (Some event)

        more : List Entry
        more = entries_in world n stamp free event

        book_is : book_in o new ≡ book_after (book_in o world) more
        book_is = book_on o world new more refl

        inc_is : new.channels.inc 0 ≡ world.channels.inc 0
        inc_is = ap (λ (incs : ℕ → ℕ). incs 0) (inc_all n stamp (effects_of (world.hosts n).node event free).messages (taken_by world n source) ∙ inc_taken world n source)

        up_now : new.channels.up 0 ≡ true
        up_now = ap (λ (ups : ℕ → Bool). ups 0) (up_all n stamp (effects_of (world.hosts n).node event free).messages (taken_by world n source) ∙ up_taken world n source)
            ∙ subst (λ (k : ℕ). world.channels.up k ≡ true) (only n world.size one may.low) may.runs

        goes : Here tid (Goes tid base (world.channels.inc 0)) (book_in o new)
        goes = subst (λ (b : BookValue). Here tid (Goes tid base (world.channels.inc 0)) b) (sym book_is)
            (goes_on tid base (world.channels.inc 0) more (book_in o world) (lasts_now o world j.opens j.lawful) (lawful_more o world new more refl later.lawful) (sized o world j one) (in_inc o world j one)
            (ap (λ (b : BookValue). inc_at b (record { 0 = 0 })) (sym book_is) ∙ (in_inc o new later one ∙ inc_is)) (λ t is. inl (all t is)))

        by : Goes tid base (world.channels.inc 0) tx → IsClean tid base tx
        by (inl clean) = clean
        by (inr late) = absurd (young o new later one tid base tx up_now found (subst (λ (i : ℕ). IsLate tid base i tx) (sym inc_is) late))

    -- a crash
    stop_clean : (new : World) (n stamp : ℕ) (cause : CrashCause) → new.journal ≡ world.journal ++ entries_of n stamp (acts.Crash cause ∷ []) → IsLawful (book_of o) new.journal → Clean (book_in o new)
    stop_clean new n stamp cause more lawful = subst Clean (sym (book_on o world new (entries_of n stamp (acts.Crash cause ∷ [])) more))
        (crash_clean tid base (book_in o world) n stamp cause (lasts_now o world j.opens j.lawful) (lawful_more o world new (entries_of n stamp (acts.Crash cause ∷ [])) more lawful).0 all)

    move_clean : (move : Move) → may_move world move ≡ true → Joined AlongRun o (moved move world) → Clean (book_in o (moved move world))
    move_clean (Step n stamp free source) may = by (event_of world n stamp source)
      where
        by : (e : Option Event) → Joined AlongRun o (step_with world n stamp free source e) → Clean (book_in o (step_with world n stamp free source e))
        by None later = all
        by (Some event) later = step_clean n stamp free source event (step_may world n stamp source may) later
    move_clean (Cut n stamp free source is_kept cause) may = by (event_of world n stamp source)
      where
        by : (e : Option Event) → Joined AlongRun o (cut_with world n stamp free is_kept cause e) → Clean (book_in o (cut_with world n stamp free is_kept cause e))
        by None later = all
        by (Some event) later = stop_clean (cut_with world n stamp free is_kept cause (Some event)) n stamp cause refl later.lawful
    move_clean (Stop n stamp cause) may = λ later. stop_clean (moved (Stop n stamp cause) world) n stamp cause refl later.lawful
    move_clean (Rise n stamp inc) may = λ later. subst Clean (sym (book_on o world (moved (Rise n stamp inc) world) more refl))
        (restart_clean tid base (book_in o world) n stamp inc _ _ (lasts_now o world j.opens j.lawful) (lawful_more o world (moved (Rise n stamp inc) world) more refl later.lawful).0 all)
      where
        more : List Entry
        more = entries_of n stamp (acts.Restart inc (map found_of (recovered_of (world.hosts n).log).votes) (recovered_of (world.hosts n).log).committed ∷ [])
    move_clean (Meet n stamp m inc) may = λ later. all

  run_clean : (moves : List Move) (old new : World) → Joined AlongRun o old → old.size ≡ 1 → Clean (book_in o old) → Run old moves new → Clean (book_in o new)
  run_clean [] old new j one all run = subst (λ (w : World). Clean (book_in o w)) (sym run) all
  run_clean (move ∷ moves) old new j one all run = let later = each_move_joined AlongRun runs_go o old move j run.0 in
      run_clean moves (moved move old) new later (later.size ∙ (sym j.size ∙ one)) (move_clean old j one all move run.0 later) run.1

pub uncrossed_alone : EachUncrossedAlone
uncrossed_alone o moves world opens run one tid tx found = (run_clean o tid moves (start o) world first first_size (clean_first o tid) run tx found).uncrossed
  where
    first : Joined AlongRun o (start o)
    first = each_opens_joined AlongRun runs_go o opens

    first_size : o.size ≡ 1
    first_size = sym (each_run_joined AlongRun runs_go o moves world opens run).size ∙ one
