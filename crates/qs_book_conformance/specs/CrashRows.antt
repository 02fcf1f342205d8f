-- Crashes: each by plan has a fault line of its own.
use Rattle.std.specs.Prelude.{◌≡◌, ℕ, ◌+◌, ◌-◌, ◌^◌, List, [], ◌∷◌, ◌++◌, codes, Option}
use Rattle.qs_base.specs.declared.identifiers.Tid.{Tid}
use Rattle.qs_ops.specs.declared.answer.Answer.TheVariants as answers
use Rattle.qs_ops.specs.declared.answer.Cause.TheVariants as causes
use Rattle.qs_ops.specs.declared.reply.Reply.TheVariants as replies
use Rattle.qs_ops.specs.declared.vote.Vote.TheVariants as votes
use Rattle.qs_book_journal.specs.declared.entry.Act.TheVariants as acts
use Rattle.qs_book_journal.specs.declared.entry.CrashCause.{CrashCause}
use Rattle.qs_book_journal.specs.declared.entry.CrashCause.TheVariants as crashes
use Rattle.qs_book_journal.specs.declared.entry.Entry.{Entry}
use Rattle.qs_book_journal.specs.declared.script_line.Command.TheVariants as commands
use Rattle.qs_book_journal.specs.declared.script_line.PointKind.TheVariants as kinds
use Rattle.qs_book_script.specs.declared.script.Planned.{Planned}
use Rattle.qs_book_script.specs.declared.script.Script.{Script}
use Rattle.qs_book_conformance.specs.Crashes.{last_stamp}
use Rattle.qs_book_conformance.specs.OwnerRows.{a}
use Rattle.qs_book_conformance.specs.FileRows.{put_xy, xy_start, xy_votes, found}
use Rattle.qs_book_conformance.specs.Scenes.{node, client, tid, member, put, seat, said, asks, script, with_faults, crash, stop, before, after, step, judged, well, broken_at, unlawful_at}
use Rattle.qs_book_conformance.specs.declared.fault.Misfit.{Misfit}
use Rattle.qs_book_conformance.specs.declared.fault.Rule.TheVariants as rules

-- it stops and starts again in the incarnation after this one
abbrev pub stops : ℕ → CrashCause → ℕ → List Entry
stops stamp cause inc = step stamp 0 (acts.Crash cause ∷ []) ++ step (stamp + 1) 0 (acts.Restart (inc + 1) [] [] ∷ [])

-- the home stops before any vote, with these fault lines
abbrev pub stopped_by : List Planned → Option Misfit
stopped_by plans = judged 1 (with_faults plans (put_xy a))
    (xy_start ++ (stops 5 crashes.Plan 1 ++ step 7 0 (acts.Answer (client 0) 4 (answers.Aborted (causes.Home 1)) ∷ [])))

-- it stops twice
abbrev pub twice_by : List Planned → Option Misfit
twice_by plans = judged 1 (with_faults plans (put_xy a)) (xy_start ++ (stops 5 crashes.Plan 1 ++ stops 7 crashes.Plan 2))

pub record LineRows : Type 0 where
  pub by_event : stopped_by (crash 0 ∷ []) ≡ well
  pub by_call : stopped_by (stop 0 ∷ []) ≡ well
  pub none : stopped_by [] ≡ broken_at 6 rules.CrashHasItsLine
  pub elsewhere : stopped_by (crash 1 ∷ []) ≡ broken_at 6 rules.CrashHasItsLine
  pub not_yet : stopped_by (before 0 kinds.Vote a ∷ []) ≡ well
  pub past : stopped_by (before 0 kinds.Serve a ∷ []) ≡ broken_at 6 rules.CrashHasItsLine
  pub other_label : stopped_by (before 0 kinds.Serve (codes "b") ∷ []) ≡ well
  pub other_node : stopped_by (before 1 kinds.Vote a ∷ []) ≡ broken_at 6 rules.CrashHasItsLine
  pub once : twice_by (crash 0 ∷ []) ≡ broken_at 8 rules.CrashHasItsLine
  pub each : twice_by (crash 0 ∷ stop 0 ∷ []) ≡ well
  pub both : twice_by (before 0 kinds.Vote a ∷ before 0 kinds.Learn a ∷ []) ≡ well

-- ---- right after its vote

abbrev pub after_vote : List Planned
after_vote = after 0 kinds.Vote a ∷ []

abbrev pub voted_then : List Entry → Option Misfit
voted_then end = judged 1 (with_faults after_vote (put_xy a)) (xy_votes votes.Recoverable ++ end)

-- or with a vote that has the last stamp
abbrev pub voted_last_then : List Entry → Option Misfit
voted_last_then end = judged 1 (with_faults after_vote (put_xy a)) (xy_start ++ (step last_stamp 0 (acts.Vote (tid 1) (member 0 0) votes.Recoverable 1 ∷ []) ++ end))

abbrev pub stops_last : List Entry
stops_last = step last_stamp 0 (acts.Crash crashes.Plan ∷ [])

pub record AfterRows : Type 0 where
  pub right_after : voted_then (step 6 0 (acts.Crash crashes.Plan ∷ [])) ≡ well
  pub in_the_step : voted_then (step 5 0 (acts.Crash crashes.Plan ∷ [])) ≡ broken_at 8 rules.CrashHasItsLine
  pub later : voted_then (step 6 0 (acts.Tick ∷ []) ++ step 7 0 (acts.Crash crashes.Plan ∷ [])) ≡ broken_at 9 rules.CrashHasItsLine
  pub earlier : stopped_by after_vote ≡ broken_at 6 rules.CrashHasItsLine
  -- which the crash has too, and no crash after it
  pub at_last : voted_last_then stops_last ≡ well
  pub behind_last : voted_last_then (stops_last ++ (step last_stamp 0 (acts.Restart 2 found [] ∷ []) ++ stops_last)) ≡ broken_at 9 rules.CrashHasItsLine

-- ---- two transactions: the first crash may have either line, the second only the first one's

abbrev pub b : List ℕ
b = codes "b"

abbrev pub next : Tid
next = record { home = node 0; inc = 2; seq = 1 }

abbrev pub both_script : Script
both_script = script (seat 0 0 ∷ [])
    (said 0 2 a commands.Begin ∷ said 0 3 a (asks 0 0 (put (codes "f") (codes "xy"))) ∷ said 0 4 a commands.Commit
    ∷ said 0 5 b commands.Begin ∷ said 0 6 b (asks 0 0 (put (codes "f") (codes "xy"))) ∷ said 0 7 b commands.Commit ∷ [])

abbrev pub both_start : List Entry
both_start =
    xy_start ++ (stops 5 crashes.Plan 1
    ++ (step 7 0 (acts.Answer (client 0) 4 (answers.Aborted (causes.Home 1)) ∷ [])
    ++ (step 8 0 (acts.Begin next b (client 0) ∷ acts.Answer (client 0) 5 answers.Done ∷ [])
    ++ (step 9 0 (acts.Issue next (member 0 32) (member 0 0) 1 (put (codes "f") (codes "xy")) ∷ [])
    ++ (step 10 0 (acts.Serve next (member 0 0) (node 0) 1 replies.Done ∷ acts.Answer (client 0) 6 answers.Done ∷ [])
    ++ (step 11 0 (acts.Ask next ∷ [])
    ++ step 12 0 (acts.Tick ∷ acts.Vote next (member 0 0) votes.Recoverable 1 ∷ [])))))))

abbrev pub both_by : List Planned → Option Misfit
both_by plans = judged 1 (with_faults plans both_script) (both_start ++ step 13 0 (acts.Crash crashes.Plan ∷ []))

pub record SharedRows : Type 0 where
  pub either : both_by (before 0 kinds.Vote a ∷ before 0 kinds.Vote b ∷ []) ≡ well
  pub turned : both_by (before 0 kinds.Vote b ∷ before 0 kinds.Vote a ∷ []) ≡ well
  pub one : both_by (before 0 kinds.Vote b ∷ []) ≡ broken_at 17 rules.CrashHasItsLine
  pub other : both_by (before 0 kinds.Vote b ∷ after 0 kinds.Vote b ∷ []) ≡ well
  pub past_both : both_by (before 0 kinds.Serve b ∷ before 0 kinds.Vote b ∷ []) ≡ broken_at 17 rules.CrashHasItsLine

-- ---- other causes

abbrev pub stopped_for : CrashCause → Option Misfit
stopped_for cause = judged 1 (put_xy a) (xy_start ++ stops 5 cause 1)

abbrev pub disk_twice : CrashCause → CrashCause → Option Misfit
disk_twice one two = judged 1 (put_xy a) (xy_start ++ (stops 5 one 1 ++ stops 7 two 2))

pub record CauseRows : Type 0 where
  pub disk : disk_twice (crashes.Disk 3 4) (crashes.Disk 4 9) ≡ well
  pub between : disk_twice (crashes.Disk 3 4) (crashes.Disk 6 9) ≡ well
  pub falls : disk_twice (crashes.Disk 3 6) (crashes.Disk 4 9) ≡ broken_at 8 rules.DiskCountsFollow
  pub still : stopped_for (crashes.Disk 3 3) ≡ unlawful_at 6 100
  pub stamps : stopped_for (crashes.Last (2 ^ 62 - 1)) ≡ well
  pub counts : stopped_for (crashes.Last 4294967295) ≡ well
  pub no_last : stopped_for (crashes.Last 7) ≡ broken_at 6 rules.StandsAtLast
  pub memory : stopped_for crashes.Memory ≡ well
