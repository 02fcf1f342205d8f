-- Over a run the log of another node has a Commit only where the log of the home has one: an old log has it so, each step commits so, and logs only grow.
use Rattle.qs_world_runs.proofs.Words.{◌≡◌, ◌⊎◌, inl, inr, ℕ, ◌<◌, ◌==◌, ◌||◌, ◌++◌, not, nat_lt, Bool, true, false, List, [], ◌∷◌, Option, Some, None, refl, sym, ap, subst, ◌∙◌, arith, if◌then◌else◌, eqb-true, or_right, or_cases, nat_tests, list_any-append, list_all, list_any, same_tid-true, Tid, is_crash, Record, names_transaction, recovered_of, after_step, effects_of, Effects, Event, Move, Source, Step, Cut, Stop, Rise, Meet, event_of, cut_log, cut_with, may_move, may_step, moved}
use Rattle.qs_world_runs.proofs.Words.{risen_host, step_with, stepped_host, stopped, stopped_host, IsOpening, is_earlier, is_record, Run, Host, Opening, World, start, MakesStep, Joined, AlongRun, PlacesAt}
use Rattle.qs_session_channels.specs.Network.{with_at}
use Rattle.qs_record.specs.declared.record.Record.TheVariants as records
use Rattle.qs_world.specs.Openings.{is_commit_of, is_committed_at_home, is_list}
use Rattle.qs_world_refine.specs.EveryRun.{GrewFrom, is_named_record}
use Rattle.qs_world_refine.proofs.LogsGrow.{every_log_grows}
use Rattle.qs_world_refine.proofs.SoundParts.{and_both}
use Rattle.qs_world_lawful.proofs.CoherentOpenings.{each_is}
use Rattle.qs_world_runs.specs.CoherentAgain.{CommitsHome, EachCommitsHome}
use Rattle.qs_world_runs.proofs.CommitsHome.{one_of, steps_commit_home}
use Rattle.qs_world_runs.proofs.JoinedMoves.{each_move_joined}
use Rattle.qs_world_runs.proofs.JoinedOver.{each_opens_joined, each_run_joined}
use Rattle.qs_world_runs.proofs.JoinedAs.{along_placed}
use Rattle.qs_world_runs.proofs.RunsGoOn.{runs_go}

-- ---- a Commit in a list of records

abbrev pub Has : Tid → List Record → Type 0
Has tid recs = list_any (is_commit_of tid) recs ≡ true

module _ (tid : Tid) where
  has_first : (xs ys : List Record) → Has tid xs → Has tid (xs ++ ys)
  has_first xs ys is = list_any-append (is_commit_of tid) xs ys ∙ rw is refl

  has_last : (xs ys : List Record) → Has tid ys → Has tid (xs ++ ys)
  has_last xs ys is = list_any-append (is_commit_of tid) xs ys ∙ or_right (list_any (is_commit_of tid) xs) (list_any (is_commit_of tid) ys) is

  has_split : (xs ys : List Record) → Has tid (xs ++ ys) → Has tid xs ⊎ Has tid ys
  has_split xs ys is = or_cases (list_any (is_commit_of tid) xs) (list_any (is_commit_of tid) ys) (sym (list_any-append (is_commit_of tid) xs ys) ∙ is)

  has_front : (xs : List Record) → Has tid (xs ++ []) → Has tid xs
  has_front xs is = by (has_split xs [] is)
    where
      by : Has tid xs ⊎ Has tid [] → Has tid xs
      by (inl h) = h
      by (inr h) = absurd (cc h)

-- ---- one host changes

-- its log grows, and what it commits of what began elsewhere it committed before, or the home's log has
pub record Commits (world : World) (n : ℕ) (host : Host) : Type 0 where
  pub grows : (tid : Tid) → Has tid (world.hosts n).log → Has tid host.log
  pub own : (tid : Tid) → names_transaction tid ≡ true → nat_lt tid.home.0 world.size ≡ true → (tid.home.0 == n) ≡ false → Has tid (host.log ++ host.waiting)
      → Has tid ((world.hosts n).log ++ (world.hosts n).waiting) ⊎ Has tid (world.hosts tid.home.0).log

home_with : (world after : World) (n : ℕ) (host : Host) → after.size ≡ world.size → ((k : ℕ) → after.hosts k ≡ with_at world.hosts n host k) → Commits world n host → CommitsHome world → CommitsHome after
home_with world after n host sized hosts commits old k low tid named home_in far some = by (k == n) refl (subst (λ (h : Host). Has tid (h.log ++ h.waiting)) (hosts k) some)
  where
    low_then : k < world.size
    low_then = subst (λ (s : ℕ). k < s) sized low

    in_then : nat_lt tid.home.0 world.size ≡ true
    in_then = subst (λ (s : ℕ). nat_lt tid.home.0 s ≡ true) sized home_in

    still : Has tid (world.hosts tid.home.0).log → Has tid (after.hosts tid.home.0).log
    still has = subst (λ (h : Host). Has tid h.log) (sym (hosts tid.home.0)) (at (tid.home.0 == n) refl)
      where
        at : (b : Bool) → (tid.home.0 == n) ≡ b → Has tid (if b then host else world.hosts tid.home.0).log
        at true same = commits.grows tid (subst (λ (i : ℕ). Has tid (world.hosts i).log) (eqb-true tid.home.0 n same) has)
        at false apart = has

    by : (b : Bool) → (k == n) ≡ b → Has tid ((if b then host else world.hosts k).log ++ (if b then host else world.hosts k).waiting) → Has tid (after.hosts tid.home.0).log
    by false apart has = still (old k low_then tid named in_then far has)
    by true same has = of (commits.own tid named in_then (subst (λ (i : ℕ). (tid.home.0 == i) ≡ false) (eqb-true k n same) far) has)
      where
        of : Has tid ((world.hosts n).log ++ (world.hosts n).waiting) ⊎ Has tid (world.hosts tid.home.0).log → Has tid (after.hosts tid.home.0).log
        of (inl before) = still (old k low_then tid named in_then far (subst (λ (i : ℕ). Has tid ((world.hosts i).log ++ (world.hosts i).waiting)) (sym (eqb-true k n same)) before))
        of (inr home) = still home

-- nothing is logged
keeps_log : (world : World) (n : ℕ) (host : Host) → host.log ≡ (world.hosts n).log → ((tid : Tid) → Has tid host.waiting → Has tid (world.hosts n).waiting) → Commits world n host
keeps_log world n host same waits = record {
  grows = λ tid has. subst (Has tid) (sym same) has;
  own = λ tid named home_in far has. inl (of tid (has_split tid host.log host.waiting has));
}
  where
    of : (tid : Tid) → Has tid host.log ⊎ Has tid host.waiting → Has tid ((world.hosts n).log ++ (world.hosts n).waiting)
    of tid (inl has) = has_first tid (world.hosts n).log (world.hosts n).waiting (subst (Has tid) same has)
    of tid (inr has) = has_last tid (world.hosts n).log (world.hosts n).waiting (waits tid has)

-- ---- a step, whole or cut off

module _ (o : Opening) (world : World) (n stamp free : ℕ) (source : Source) (event : Event) (j : Joined PlacesAt o world) (makes : MakesStep world n stamp source event) where
  abbrev was : Host
  was = world.hosts n

  abbrev out : Effects
  out = effects_of was.node event free

  of_step : (tid : Tid) → names_transaction tid ≡ true → nat_lt tid.home.0 world.size ≡ true → (tid.home.0 == n) ≡ false → Has tid was.log ⊎ (Has tid was.waiting ⊎ Has tid out.records)
      → Has tid (was.log ++ was.waiting) ⊎ Has tid (world.hosts tid.home.0).log
  of_step tid named home_in far (inl log) = inl (has_first tid was.log was.waiting log)
  of_step tid named home_in far (inr (inl waits)) = inl (has_last tid was.log was.waiting waits)
  of_step tid named home_in far (inr (inr made)) = inr (steps_commit_home o world n stamp free source event j makes tid named home_in far made)

  parts : (tid : Tid) → Has tid (was.log ++ (was.waiting ++ out.records)) → Has tid was.log ⊎ (Has tid was.waiting ⊎ Has tid out.records)
  parts tid has = of (has_split tid was.log (was.waiting ++ out.records) has)
    where
      of : Has tid was.log ⊎ Has tid (was.waiting ++ out.records) → Has tid was.log ⊎ (Has tid was.waiting ⊎ Has tid out.records)
      of (inl log) = inl log
      of (inr rest) = inr (has_split tid was.waiting out.records rest)

  forced : (host : Host) → host.log ≡ was.log ++ (was.waiting ++ out.records) → host.waiting ≡ [] → Commits world n host
  forced host log none = record {
    grows = λ tid has. subst (Has tid) (sym log) (has_first tid was.log (was.waiting ++ out.records) has);
    own = λ tid named home_in far has. of_step tid named home_in far (parts tid (subst (Has tid) log (has_front tid host.log (subst (λ (rs : List Record). Has tid (host.log ++ rs)) none has))));
  }

  unforced : (host : Host) → host.log ≡ was.log → host.waiting ≡ was.waiting ++ out.records → Commits world n host
  unforced host log waits = record {
    grows = λ tid has. subst (Has tid) (sym log) has;
    own = λ tid named home_in far has. of_step tid named home_in far (parts tid (subst (λ (rs : List Record). Has tid (was.log ++ rs)) waits (subst (λ (rs : List Record). Has tid (rs ++ host.waiting)) log has)));
  }

  stepped_commits : Commits world n (stepped_host stamp (after_step was.node event free) out was)
  stepped_commits = by out.force refl
    where
      by : (b : Bool) → out.force ≡ b → Commits world n (stepped_host stamp (after_step was.node event free) out was)
      by true force = forced (stepped_host stamp (after_step was.node event free) out was) (ap (λ (f : Bool). if f then was.log ++ (was.waiting ++ out.records) else was.log) force) (ap (λ (f : Bool). if f then [] else was.waiting ++ out.records) force)
      by false force = unforced (stepped_host stamp (after_step was.node event free) out was) (ap (λ (f : Bool). if f then was.log ++ (was.waiting ++ out.records) else was.log) force) (ap (λ (f : Bool). if f then [] else was.waiting ++ out.records) force)

  cut_commits : (is_kept : Bool) → Commits world n (stopped_host stamp (cut_log was is_kept out) was)
  cut_commits false = keeps_log world n (stopped_host stamp (cut_log was false out) was) refl (λ tid has. absurd (cc has))
  cut_commits true = by out.force refl
    where
      by : (b : Bool) → out.force ≡ b → Commits world n (stopped_host stamp (cut_log was true out) was)
      by true force = forced (stopped_host stamp (cut_log was true out) was) (ap (λ (f : Bool). if f then was.log ++ (was.waiting ++ out.records) else was.log) force) refl
      by false force = keeps_log world n (stopped_host stamp (cut_log was true out) was) (ap (λ (f : Bool). if f then was.log ++ (was.waiting ++ out.records) else was.log) force) (λ tid has. absurd (cc has))

-- ---- each move

move_home : (o : Opening) (world : World) (move : Move) → Joined PlacesAt o world → may_move world move ≡ true → CommitsHome world → CommitsHome (moved move world)
move_home o world (Step n stamp free source) j may old = by (event_of world n stamp source) refl
  where
    by : (found : Option Event) → event_of world n stamp source ≡ found → CommitsHome (step_with world n stamp free source found)
    by None none = old
    by (Some event) came = home_with world (step_with world n stamp free source (Some event)) n (stepped_host stamp (after_step (world.hosts n).node event free) (effects_of (world.hosts n).node event free) (world.hosts n)) refl (λ k. refl)
        (stepped_commits o world n stamp free source event j (record { may = may; comes = came })) old
move_home o world (Cut n stamp free source is_kept cause) j may old = by (event_of world n stamp source) refl
  where
    by : (found : Option Event) → event_of world n stamp source ≡ found → CommitsHome (cut_with world n stamp free is_kept cause found)
    by None none = old
    by (Some event) came = home_with world (cut_with world n stamp free is_kept cause (Some event)) n (stopped_host stamp (cut_log (world.hosts n) is_kept (effects_of (world.hosts n).node event free)) (world.hosts n)) refl (λ k. refl)
        (cut_commits o world n stamp free source event j (record { may = (and_both (may_step world n stamp source) (is_crash cause) may).0; comes = came }) is_kept) old
move_home o world (Stop n stamp cause) j may old = home_with world (stopped world n stamp cause (world.hosts n).log) n (stopped_host stamp (world.hosts n).log (world.hosts n)) refl (λ k. refl)
    (keeps_log world n (stopped_host stamp (world.hosts n).log (world.hosts n)) refl (λ tid has. absurd (cc has))) old
move_home o world (Rise n stamp inc) j may old = home_with world (moved (Rise n stamp inc) world) n (risen_host stamp inc (recovered_of (world.hosts n).log) (world.hosts n)) refl (λ k. refl)
    (keeps_log world n (risen_host stamp inc (recovered_of (world.hosts n).log) (world.hosts n)) refl (λ tid has. has)) old
move_home o world (Meet n stamp m inc) j may old = home_with world (moved (Meet n stamp m inc) world) n (record (world.hosts n) { stamp = stamp }) refl (λ k. refl)
    (keeps_log world n (record (world.hosts n) { stamp = stamp }) refl (λ tid has. has)) old

run_home : (o : Opening) (moves : List Move) (old new : World) → Joined AlongRun o old → Run old moves new → CommitsHome old → CommitsHome new
run_home o [] old new j run home = subst CommitsHome (sym run) home
run_home o (move ∷ moves) old new j run home = run_home o moves (moved move old) new (each_move_joined AlongRun runs_go o old move j run.0) run.1 (move_home o old move (along_placed o old j) run.0 home)

-- ---- as a run begins

module _ (o : Opening) (opens : IsOpening o) (n : ℕ) (low : n < o.size) (tid : Tid) (home_in : nat_lt tid.home.0 o.size ≡ true) where
  in_run : (b : Bool) → b ≡ true → (not b || list_any (is_commit_of tid) (o.logs tid.home.0)) ≡ true → Has tid (o.logs tid.home.0)
  in_run true is its = its
  in_run false is its = absurd (cc is)

  of_record : (rec : Record) → is_record o n rec ≡ true → is_commit_of tid rec ≡ true → Has tid (o.logs tid.home.0)
  of_record (records.Prepare u server covers changes) all is = absurd (cc is)
  of_record (records.Commit u told) all is = in_run (nat_lt tid.home.0 o.size) home_in
      (subst (λ (t : Tid). is_committed_at_home o t ≡ true) (sym (same_tid-true tid u is)) (and_both (is_committed_at_home o u) (is_list n u told) (and_both (is_earlier o u) _ all).1).0)
  of_record (records.Aborted u) all is = absurd (cc is)
  of_record (records.End u) all is = absurd (cc is)

  opened_home : Has tid (o.logs n) → Has tid (o.logs tid.home.0)
  opened_home has = one_of (is_record o n) (is_commit_of tid) (Has tid (o.logs tid.home.0)) of_record (o.logs n) (each_is o.size (λ n. list_all (is_record o n) (o.logs n)) opens.logs n low) has

-- ---- each run

-- what names no transaction is of the log that the run began with
unnamed_old : (tid : Tid) → names_transaction tid ≡ false → (more : List Record) → list_all is_named_record more ≡ true → Has tid more → ⊥
unnamed_old tid off more all has = one_of is_named_record (is_commit_of tid) ⊥ of more all has
  where
    of : (r : Record) → is_named_record r ≡ true → is_commit_of tid r ≡ true → ⊥
    of (records.Prepare u server covers changes) on is = cc is
    of (records.Commit u told) on is = let named : names_transaction tid ≡ true = subst (λ (t : Tid). names_transaction t ≡ true) (sym (same_tid-true tid u is)) on in cc (named, off)
    of (records.Aborted u) on is = cc is
    of (records.End u) on is = cc is

pub each_commits_home : EachCommitsHome
each_commits_home o moves world opens run n low tid home_in has = by (tid.home.0 == n) (names_transaction tid) refl refl
  where
    size : world.size ≡ o.size
    size = (each_run_joined AlongRun runs_go o moves world opens run).size

    opened_low : (k : ℕ) → k < world.size → k < o.size
    opened_low k is = subst (λ (s : ℕ). k < s) size is

    home_low : tid.home.0 < world.size
    home_low = grind (arith, nat_tests, home_in)

    grew : (k : ℕ) → k < world.size → GrewFrom (o.logs k) (world.hosts k)
    grew k is = every_log_grows o moves world opens run k is

    begun : CommitsHome (start o)
    begun k is tid named home_in far has = opened_home o opens k is tid home_in (has_front tid (o.logs k) has)

    old : Has tid (o.logs n) → Has tid (world.hosts tid.home.0).log
    old is = subst (Has tid) (sym (grew tid.home.0 home_low).is) (has_first tid (o.logs tid.home.0) (grew tid.home.0 home_low).more (opened_home o opens n (opened_low n low) tid (subst (λ (s : ℕ). nat_lt tid.home.0 s ≡ true) size home_in) is))

    unnamed : names_transaction tid ≡ false → Has tid (o.logs n) ⊎ Has tid (grew n low).more → Has tid (world.hosts tid.home.0).log
    unnamed off (inl is) = old is
    unnamed off (inr is) = absurd (unnamed_old tid off (grew n low).more (grew n low).named is)

    by : (a b : Bool) → (tid.home.0 == n) ≡ a → names_transaction tid ≡ b → Has tid (world.hosts tid.home.0).log
    by true b here named = subst (λ (k : ℕ). Has tid (world.hosts k).log) (sym (eqb-true tid.home.0 n here)) has
    by false true far named = run_home o moves (start o) world (each_opens_joined AlongRun runs_go o opens) run begun n low tid named home_in far (has_first tid (world.hosts n).log (world.hosts n).waiting has)
    by false false far off = unnamed off (has_split tid (o.logs n) (grew n low).more (subst (Has tid) (grew n low).is has))
