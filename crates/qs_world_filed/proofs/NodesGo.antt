-- What is so of each node as its incarnation begins, and goes on through its steps and through all entries, is so in every run.
use Rattle.std.proofs.Common.{◌≡◌, ℕ, ◌==◌, Bool, true, false, List, [], ◌∷◌, ◌++◌, Option, Some, None, refl, sym, subst}
use Rattle.std.specs.Global.{Global}
use Rattle.std.specs.Prelude.{fold, if◌then◌else◌, length, map}
use Rattle.qs_base.specs.declared.identifiers.Tid.{Tid}
use Rattle.qs_book_journal.specs.declared.entry.Act.TheVariants as acts
use Rattle.qs_book_journal.specs.declared.entry.CrashCause.{CrashCause}
use Rattle.qs_book_journal.specs.declared.entry.Entry.{Entry}
use Rattle.qs_book_machine.specs.Book.{BookValue}
use Rattle.qs_book_machine.specs.Lawful.{IsLawful, book_after, broken, effect}
use Rattle.qs_record.specs.declared.record.Record.{Record}
use Rattle.qs_record.specs.declared.record.Record.TheVariants as records
use Rattle.qs_restart.specs.declared.recovered.Recovered.{Recovered}
use Rattle.qs_tm.specs.Manager as tm
use Rattle.qs_tm.specs.Outcomes.{committed_before, voted_before}
use Rattle.qs_tm.specs.Participant.{new_participant}
use Rattle.qs_tm.specs.declared.manager.Manager.{Manager}
use Rattle.qs_tm.specs.declared.participant.Participant.{Participant}
use Rattle.qs_node_kept.specs.declared.kept.Kept.{Kept}
use Rattle.qs_node_step.specs.Opening.{new_manager, opened_node, recovered_of, take_up}
use Rattle.qs_node_step.specs.State.{NodeValue}
use Rattle.qs_node_step.specs.Step.{after_step, effects_of}
use Rattle.qs_node_step.specs.declared.event.Event.{Event}
use Rattle.qs_node_step.specs.declared.setting.Setting.{Setting}
use Rattle.qs_world.specs.Histories.{book_of}
use Rattle.qs_world.specs.Moves.{Cut, Meet, Move, Rise, Source, Step, Stop, cut_log, cut_with, event_of, found_of, may_move, may_step, moved, risen_host, step_with, stepped_host, stopped_host}
use Rattle.qs_world.specs.Posting.{entries_of}
use Rattle.qs_world.specs.World.{Host, Opening, World, start}
use Rattle.qs_world_lawful.specs.Logs.{Every}
use Rattle.qs_world_lawful.proofs.LastsEntry.{lasts_on}
use Rattle.qs_world_lawful.proofs.LastsWell.{LastsWell}
use Rattle.qs_world_runs.specs.Agrees.{MakesStep}
use Rattle.qs_world_runs.specs.AlongRun.{AlongRun}
use Rattle.qs_world_runs.specs.Joined.{Joined, book_in}
use Rattle.qs_world_runs.proofs.JoinedMoves.{each_move_joined}
use Rattle.qs_world_runs.proofs.JoinedParts.{book_on, lawful_more}
use Rattle.qs_world_runs.proofs.JoinedWays.{lasts_now}
use Rattle.qs_world_runs.proofs.RunsGoOn.{runs_go}
use Rattle.qs_world_filed.proofs.NotesParts.{parts_changed, parts_put}
use Rattle.qs_world_filed.proofs.Over.{GoesAlong}

-- ---- as an incarnation begins, nothing waits and nothing is noted

abbrev pub IsBare : Tid × Participant → Type 0
IsBare entry = (entry.1.waiting ≡ []) × (entry.1.noted ≡ [])

bare_met : (tid : Tid) (m : Manager) → Every IsBare m.known → Every IsBare (tm.meet tid m).known
bare_met tid m h = by (tm.knows tid m)
  where
    by : (b : Bool) → Every IsBare (if b then m else tm.put_part tid (new_participant (tm.is_home tid m)) m).known
    by true = h
    by false = parts_put IsBare tid (new_participant (tm.is_home tid m)) m.known (λ t. (refl, refl)) h

bare_committed : (b : Bool) (tid : Tid) (told : Bool) (names : List _) (m : Manager) → Every IsBare m.known → Every IsBare (if b then m else tm.put_part tid (committed_before told names) m).known
bare_committed true tid told names m h = h
bare_committed false tid told names m h = parts_put IsBare tid (committed_before told names) m.known (λ t. (refl, refl)) h

bare_up : (found : List Record) (m : Manager) → Every IsBare m.known → Every IsBare (fold take_up m found).known
bare_up [] m h = h
bare_up (records.Prepare tid server covers changes ∷ found) m h = bare_up found (take_up m (records.Prepare tid server covers changes)) (parts_changed IsBare _ (voted_before (tm.is_home tid m) server covers) (tm.meet tid m).known (λ t v at its. its) (bare_met tid m h))
bare_up (records.Commit tid told ∷ found) m h = bare_up found (take_up m (records.Commit tid told)) (bare_committed (length told == 0) tid (tm.is_home tid m) told m h)
bare_up (records.Aborted tid ∷ found) m h = bare_up found m h
bare_up (records.End tid ∷ found) m h = bare_up found m h

pub bare_opened : (alloc : Global) (setting : Setting) (found : Recovered) (kept : Kept) → Every IsBare (opened_node alloc setting found kept).manager.known
bare_opened alloc setting found kept = bare_up (found.in_doubt ++ found.untold) (new_manager alloc setting) tt

-- ---- what goes on

pub record NodesGo (Q : BookValue → NodeValue → Type 0) : Type 0 where
  pub begins : (book : BookValue) (alloc : Global) (setting : Setting) (found : Recovered) (kept : Kept) → Q book (opened_node alloc setting found kept)
  pub enters : (book : BookValue) (entry : Entry) (node : NodeValue) → LastsWell book → broken book entry ≡ None → Q book node → Q (effect book entry) node
  pub steps : (o : Opening) (world : World) (n stamp free : ℕ) (source : Source) (event : Event) → Joined AlongRun o world → MakesStep world n stamp source event → Q (book_in o world) (world.hosts n).node
      → Q (book_after (book_in o world) (entries_of n stamp (effects_of (world.hosts n).node event free).entries)) (after_step (world.hosts n).node event free)

module _ (Q : BookValue → NodeValue → Type 0) (go : NodesGo Q) where
  abbrev pub AtAll : Opening → World → Type 0
  AtAll o world = (n : ℕ) → Q (book_in o world) (world.hosts n).node

  later : (node : NodeValue) (entries : List Entry) (book : BookValue) → LastsWell book → IsLawful book entries → Q book node → Q (book_after book entries) node
  later node [] book w lawful h = h
  later node (entry ∷ entries) book w lawful h = later node entries (effect book entry) (lasts_on book entry w lawful.0) lawful.1 (go.enters book entry node w lawful.0 h)

  module _ (o : Opening) (world : World) (j : Joined AlongRun o world) (all : AtAll o world) where
    -- entries are added
    module _ (new : World) (more : List Entry) (same : new.journal ≡ world.journal ++ more) (lawful : IsLawful (book_of o) new.journal) where
      stays : (k : ℕ) → Q (book_in o new) (world.hosts k).node
      stays k = subst (λ (b : BookValue). Q b (world.hosts k).node) (sym (book_on o world new more same)) (later (world.hosts k).node more (book_in o world) (lasts_now o world j.opens j.lawful) (lawful_more o world new more same lawful) (all k))

      with_one : (n : ℕ) (host : Host) → Q (book_in o new) host.node → (k : ℕ) → Q (book_in o new) (if k == n then host else world.hosts k).node
      with_one n host its k = by (k == n)
        where
          by : (b : Bool) → Q (book_in o new) (if b then host else world.hosts k).node
          by true = its
          by false = stays k

    step_all : (n stamp free : ℕ) (source : Source) (e : Option Event) → event_of world n stamp source ≡ e → may_step world n stamp source ≡ true → IsLawful (book_of o) (step_with world n stamp free source e).journal → AtAll o (step_with world n stamp free source e)
    step_all n stamp free source None comes may fine = all
    step_all n stamp free source (Some event) comes may fine = with_one (step_with world n stamp free source (Some event)) more refl fine n host
        (subst (λ (b : BookValue). Q b (after_step (world.hosts n).node event free)) (sym (book_on o world (step_with world n stamp free source (Some event)) more refl)) (go.steps o world n stamp free source event j (record { may = may; comes = comes }) (all n)))
      where
        more : List Entry
        more = entries_of n stamp (effects_of (world.hosts n).node event free).entries

        host : Host
        host = stepped_host stamp (after_step (world.hosts n).node event free) (effects_of (world.hosts n).node event free) (world.hosts n)

    stop_all : (n stamp : ℕ) (cause : CrashCause) (log : List Record) (new : World) → new.journal ≡ world.journal ++ entries_of n stamp (acts.Crash cause ∷ []) → IsLawful (book_of o) new.journal → (k : ℕ) → Q (book_in o new) (if k == n then stopped_host stamp log (world.hosts n) else world.hosts k).node
    stop_all n stamp cause log new same fine = with_one new (entries_of n stamp (acts.Crash cause ∷ [])) same fine n (stopped_host stamp log (world.hosts n)) (stays new (entries_of n stamp (acts.Crash cause ∷ [])) same fine n)

    cut_all : (n stamp free : ℕ) (is_kept : Bool) (cause : CrashCause) (e : Option Event) → IsLawful (book_of o) (cut_with world n stamp free is_kept cause e).journal → AtAll o (cut_with world n stamp free is_kept cause e)
    cut_all n stamp free is_kept cause None fine = all
    cut_all n stamp free is_kept cause (Some event) fine = stop_all n stamp cause (cut_log (world.hosts n) is_kept (effects_of (world.hosts n).node event free)) (cut_with world n stamp free is_kept cause (Some event)) refl fine

    met_all : (n stamp m inc : ℕ) → AtAll o (moved (Meet n stamp m inc) world)
    met_all n stamp m inc k = by (k == n)
      where
        by : (b : Bool) → Q (book_in o world) (if b then record (world.hosts n) { stamp = stamp } else world.hosts k).node
        by true = all n
        by false = all k

    move_all : (move : Move) → may_move world move ≡ true → IsLawful (book_of o) (moved move world).journal → AtAll o (moved move world)
    move_all (Step n stamp free source) may fine = step_all n stamp free source (event_of world n stamp source) refl may fine
    move_all (Cut n stamp free source is_kept cause) may fine = cut_all n stamp free is_kept cause (event_of world n stamp source) fine
    move_all (Stop n stamp cause) may fine = stop_all n stamp cause (world.hosts n).log (moved (Stop n stamp cause) world) refl fine
    move_all (Rise n stamp inc) may fine = with_one (moved (Rise n stamp inc) world) (entries_of n stamp (acts.Restart inc (map found_of (recovered_of (world.hosts n).log).votes) (recovered_of (world.hosts n).log).committed ∷ [])) refl fine n
        (risen_host stamp inc (recovered_of (world.hosts n).log) (world.hosts n))
        (go.begins (book_in o (moved (Rise n stamp inc) world)) (world.hosts n).node.manager.alloc (record (world.hosts n).node.setting { inc = inc }) (recovered_of (world.hosts n).log) (world.hosts n).node.kept.saved)
    move_all (Meet n stamp m inc) may fine = met_all n stamp m inc

  pub nodes_along : GoesAlong AtAll
  nodes_along = record {
    opens = λ o opens n. go.begins (book_in o (start o)) o.alloc (o.settings n) (recovered_of (o.logs n)) _;
    moves = λ o world move j all may. move_all o world j all move may (each_move_joined AlongRun runs_go o world move j may).lawful;
  }
