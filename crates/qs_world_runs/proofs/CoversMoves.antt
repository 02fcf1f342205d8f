-- The last votes of members cover what the log of their node says of them in doubt as a run begins, and after each move.
use Rattle.qs_world_runs.proofs.Words.{◌≡◌, ℕ, ◌<◌, ◌≤◌, ◌==◌, ◌++◌, append-nil, not, Bool, true, false, List, [], ◌∷◌, Option, Some, None, refl, sym, ap, subst, ◌∙◌, if◌then◌else◌, le_refl, eqb-true, not-true, Global, list_all, ⊤, Tid, same_node, CrashCause, is_recoverable, is_among, Record, Prepared, Recovery, recovery, recovered_of, after_step, effects_of, Effects, Event, Setting, member_of, MemberPart, Participant, book_of, Cut, Meet, Move, Rise, Source, Step, Stop, cut_log, cut_with}
use Rattle.qs_world_runs.proofs.Words.{event_of, may_move, moved, risen_host, step_with, stepped_host, stopped, stopped_host, entries_of, Opening, World, start, doubt_at, part_or_new, IsMarked, Every, IsApart, HoldsDown, HoldsNodeAt, HoldsUp, every_two, every_on, world_held, MakesStep, Joined, book_in, CoversAt}
use Rattle.qs_book_machine.specs.Lawful.{IsLawful}
use Rattle.qs_restart.specs.Recovery.{is_in_doubt}
use Rattle.qs_node_step.specs.Opening.{opened_manager}
use Rattle.qs_tm.specs.Manager as tm
use Rattle.qs_tm.specs.declared.members.Ballot.TheVariants as ballots
use Rattle.qs_world_refine.proofs.SoundParts.{and_both}
use Rattle.qs_world_lawful.specs.Doubtful.{member_as}
use Rattle.qs_world_lawful.proofs.FoundOnce.{found_once}
use Rattle.qs_world_lawful.proofs.OpenedRecords.{doubts_once}
use Rattle.qs_world_lawful.proofs.Reopened.{IsReopened, manager_reopened}
use Rattle.qs_world_lawful.proofs.RestartVotes.{IsSorted}
use Rattle.qs_world_lawful.proofs.UntoldListed.{untold_listed}
use Rattle.qs_world_runs.specs.CoversAhead.{HostCovers, IsCovered}
use Rattle.qs_world_runs.specs.RecordLaws.{MovesKeepCovers, OpensCovers, VotesAreBeyond}
use Rattle.qs_world_runs.proofs.CoversBeyond.{votes_beyond}
use Rattle.qs_world_runs.proofs.CoversRecords.{low_of}
use Rattle.qs_world_runs.proofs.CoversSteps.{covers_then}
use Rattle.qs_world_runs.proofs.JoinedParts.{lawful_more}
use Rattle.qs_world_runs.proofs.OnRecordMoves.{ran_then, whole_log}

-- ---- a node that opens with what its log says

module _ (alloc : Global) (setting : Setting) (records : List Record) (kinds : Every (λ (v : Prepared). is_recoverable v.server.0 ≡ true) (recovery records).prepared) (marked : Every (IsMarked (recovery records)) (recovery records).prepared)
    (apart : Every (IsApart (recovery records)) (recovery records).prepared) where
  abbrev log : Recovery
  log = recovery records

  all_true : (votes : List Prepared) → Every (λ (v : Prepared). is_recoverable v.server.0 ≡ true) votes → list_all (λ (v : Prepared). is_recoverable v.server.0) votes ≡ true
  all_true [] all = refl
  all_true (v ∷ votes) all = rw (all.0) (all_true votes all.1)

  sorted : (v : Prepared) → IsMarked log v → IsApart log v → IsSorted log.committed v
  sorted v mark far named = by v.committed refl
    where
      by : (b : Bool) → v.committed ≡ b → is_among log.committed v.tid ≡ v.committed
      by true is = mark is ∙ sym is
      by false is = far named is ∙ sym is

  reopened : (tid : Tid) → IsReopened (same_node tid.home setting.node) log.committed tid ⊤ (λ s. doubt_at log.prepared tid s) (tm.part_of tid (opened_manager alloc setting (recovered_of records)))
  reopened tid = manager_reopened alloc setting log (all_true log.prepared kinds) (every_two (IsMarked log) (IsApart log) (IsSorted log.committed) sorted log.prepared marked apart) (untold_listed records) tid (λ t. ⊤)
      (every_on (IsMarked log) (λ (v : Prepared). is_in_doubt v ≡ true → ⊤) (λ v m is. tt) log.prepared marked)

  covered : (v : Prepared) → is_recoverable v.server.0 ≡ true → (is_in_doubt v ≡ true → doubt_at log.prepared v.tid v.server.0 ≡ Some v) → IsCovered (opened_manager alloc setting (recovered_of records)) v
  covered v kept last doubt part known = record { cast = record { ballot = ballots.Recoverable; covers = v.covers }; vote = ap (λ (m : MemberPart). m.vote) member_is; least = le_refl v.covers; most = subst (λ (m : MemberPart). v.covers ≤ m.served) (sym member_is) (le_refl v.covers) }
    where
      member_is : member_of part v.server ≡ member_as (Some v)
      member_is = ap (λ (o : Option Participant). member_of (part_or_new o) v.server) (sym known) ∙ ((reopened v.tid).members v.server.0 (low_of v.server kept) ∙ ap member_as (last doubt))

  pub opened_covers : Every (IsCovered (opened_manager alloc setting (recovered_of records))) log.prepared
  opened_covers = every_two (λ (v : Prepared). is_recoverable v.server.0 ≡ true) (λ (v : Prepared). is_in_doubt v ≡ true → doubt_at log.prepared v.tid v.server.0 ≡ Some v) (IsCovered (opened_manager alloc setting (recovered_of records))) covered log.prepared kinds
      (doubts_once log.prepared (λ tid s. None) (found_once records))

-- ---- as a run begins

pub opens_covers : OpensCovers
opens_covers o opens n low on = subst (λ (records : List Record). Every (IsCovered (opened_manager o.alloc (o.settings n) (recovered_of (o.logs n)))) (recovery records).prepared) (sym (append-nil (o.logs n)))
    (opened_covers o.alloc (o.settings n) (o.logs n)
    (subst (λ (records : List Record). Every (λ (v : Prepared). is_recoverable v.server.0 ≡ true) (recovery records).prepared) (append-nil (o.logs n)) up.log.all.kinds)
    (subst (λ (records : List Record). Every (IsMarked (recovery records)) (recovery records).prepared) (append-nil (o.logs n)) up.log.all.marked)
    (subst (λ (records : List Record). Every (IsApart (recovery records)) (recovery records).prepared) (append-nil (o.logs n)) up.said.apart))
  where
    at : HoldsNodeAt (book_of o) (start o) n
    at = (world_held o opens).nodes n low

    up : HoldsUp n (book_of o) at.state ((start o).hosts n)
    up = at.runs on

-- ---- moves

module _ (P : Opening → World → Type 0) (o : Opening) (world : World) (j : Joined P o world) (h : CoversAt o world) where
  crash_covers : (n stamp : ℕ) (cause : CrashCause) (log : List Record) → CoversAt o (stopped world n stamp cause log)
  crash_covers n stamp cause log k low = by (k == n) refl
    where
      by : (b : Bool) → (k == n) ≡ b → (if b then false else world.channels.up k) ≡ true → HostCovers (if b then stopped_host stamp log (world.hosts n) else world.hosts k)
      by true near on = absurd (cc on)
      by false far on = h k low on

  meet_covers : (n stamp m inc : ℕ) → CoversAt o (moved (Meet n stamp m inc) world)
  meet_covers n stamp m inc k low on = by (k == n) refl
    where
      by : (b : Bool) → (k == n) ≡ b → HostCovers (if b then record (world.hosts n) { stamp = stamp } else world.hosts k)
      by true near = subst (λ (i : ℕ). HostCovers (record (world.hosts i) { stamp = stamp })) (eqb-true k n near) (h k low on)
      by false far = h k low on

  rise_covers : (n stamp inc : ℕ) → may_move world (Rise n stamp inc) ≡ true → CoversAt o (moved (Rise n stamp inc) world)
  rise_covers n stamp inc may k low = by (k == n) refl
    where
      own : n < world.size → HostCovers (risen_host stamp inc (recovered_of (world.hosts n).log) (world.hosts n))
      own below = subst (λ (records : List Record). Every (IsCovered (risen_host stamp inc (recovered_of (world.hosts n).log) (world.hosts n)).node.manager) (recovery records).prepared) (sym nothing)
          (opened_covers (world.hosts n).node.manager.alloc (record (world.hosts n).node.setting { inc = inc }) (world.hosts n).log down.log.kinds down.marked down.left.apart)
        where
          at : HoldsNodeAt (book_in o world) world n
          at = j.held.nodes n below

          down : HoldsDown n (book_in o world) at.state (world.hosts n)
          down = at.stopped (not-true (world.channels.up n) (and_both (not (world.channels.up n)) _ may).0)

          nothing : (world.hosts n).log ++ (world.hosts n).waiting ≡ (world.hosts n).log
          nothing = ap (λ (w : List Record). (world.hosts n).log ++ w) down.nothing_waits ∙ append-nil (world.hosts n).log

      by : (b : Bool) → (k == n) ≡ b → (if b then true else world.channels.up k) ≡ true → HostCovers (if b then risen_host stamp inc (recovered_of (world.hosts n).log) (world.hosts n) else world.hosts k)
      by true near on = own (subst (λ (i : ℕ). i < world.size) (eqb-true k n near) low)
      by false far on = h k low on

  step_covers : (n stamp free : ℕ) (source : Source) (event : Event) → MakesStep world n stamp source event → IsLawful (book_of o) (step_with world n stamp free source (Some event)).journal → CoversAt o (step_with world n stamp free source (Some event))
  step_covers n stamp free source event makes lawful k low on = by (k == n) refl
    where
      next : World
      next = step_with world n stamp free source (Some event)

      out : Effects
      out = effects_of (world.hosts n).node event free

      by : (b : Bool) → (k == n) ≡ b → HostCovers (if b then stepped_host stamp (after_step (world.hosts n).node event free) (effects_of (world.hosts n).node event free) (world.hosts n) else world.hosts k)
      by true near = subst (λ (log : Recovery). Every (IsCovered (after_step (world.hosts n).node event free).manager) log.prepared) (sym (whole_log (world.hosts n) out))
          (covers_then P o world j h n stamp free source event makes (lawful_more o world next (entries_of n stamp (effects_of (world.hosts n).node event free).entries) refl lawful))
      by false far = h k low (ran_then world n stamp free source event k on)

  each_move : (move : Move) → may_move world move ≡ true → IsLawful (book_of o) (moved move world).journal → CoversAt o (moved move world)
  each_move (Step n stamp free source) may lawful = by (event_of world n stamp source) refl lawful
    where
      by : (e : Option Event) → event_of world n stamp source ≡ e → IsLawful (book_of o) (step_with world n stamp free source e).journal → CoversAt o (step_with world n stamp free source e)
      by None none lawful = h
      by (Some event) comes lawful = step_covers n stamp free source event (record { may = may; comes = comes }) lawful
  each_move (Cut n stamp free source is_kept cause) may lawful = by (event_of world n stamp source)
    where
      by : (e : Option Event) → CoversAt o (cut_with world n stamp free is_kept cause e)
      by None = h
      by (Some event) = crash_covers n stamp cause (cut_log (world.hosts n) is_kept (effects_of (world.hosts n).node event free))
  each_move (Stop n stamp cause) may lawful = crash_covers n stamp cause (world.hosts n).log
  each_move (Rise n stamp inc) may lawful = rise_covers n stamp inc may
  each_move (Meet n stamp m inc) may lawful = meet_covers n stamp m inc

pub moves_keep_covers : (P : Opening → World → Type 0) → MovesKeepCovers P
moves_keep_covers P o world move j h may lawful = each_move P o world j h move may lawful

pub votes_are_beyond : (P : Opening → World → Type 0) → VotesAreBeyond P
votes_are_beyond P o world n stamp free source event j h makes lawful state there = votes_beyond P o world j h n stamp free source event makes lawful state
