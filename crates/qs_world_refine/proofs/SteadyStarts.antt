-- So it is where a world begins, over the logs that it begins with.
use Rattle.qs_world_refine.proofs.Words.{◌≡◌, ℕ, ◌<◌, ◌==◌, ◌&&◌, ◌||◌, not, Bool, true, false, List, [], ◌∷◌, refl, sym, subst, arith, nat_lt, list_all, NodeNo, Tid, is_for, Command, ScriptLine, is_recoverable, Record, recovery, names_transaction, no_kept, client_count, IsOpening, is_record, is_earlier, is_list, is_committed_at_home, are_unended, each_is, Opening, start, may_be_known, is_list_at, may_command, node_no, IsSeated, IsSteadyHost, IsSteadyWorld, stage_of, is_steady_record}
use Rattle.qs_world_refine.proofs.Words.{is_steady_line}
use Rattle.qs_book_journal.specs.declared.script_line.Command.TheVariants as commands
use Rattle.qs_record.specs.declared.record.Record.TheVariants as records
use Rattle.qs_world.specs.Openings.{is_script, is_line, is_command, labels_begun, are_rising}
use Rattle.qs_world.specs.World.{World}
use Rattle.qs_world_refine.specs.Steadies.{StartSteady}
use Rattle.qs_world_refine.proofs.SaidMoves.{opening_said}
use Rattle.qs_world_refine.proofs.SaidNames.{opening_left}
use Rattle.qs_world_refine.proofs.SaidTidy.{log_tidy}
use Rattle.qs_world_refine.proofs.Seating.{start_seated}
use Rattle.qs_world_refine.proofs.Sending.{append_nil}
use Rattle.qs_world_refine.proofs.SoundBegin.{all_implied}
use Rattle.qs_world_refine.proofs.SoundParts.{and_both, both_and}
use Rattle.qs_world_refine.proofs.SoundViews.{seen}
use Rattle.qs_world_refine.proofs.SteadyGrows.{stage_is}
use Rattle.qs_world_refine.proofs.TidyOpened.{opened_tidy, opened_first}
use Rattle.qs_world_refine.proofs.TidyTaken.{opened_taken}

module _ (o : Opening) (opens : IsOpening o) where
  abbrev world : World
  world = start o

  seated : IsSeated world
  seated = start_seated o opens

  -- what a log names may be known
  earlier_named : (tid : Tid) → is_earlier o tid ≡ true → (not (names_transaction tid) || may_be_known world tid) ≡ true
  earlier_named tid is = by (names_transaction tid) refl (nat_lt tid.home.0 o.size) refl is
    where
      by : (b : Bool) → names_transaction tid ≡ b → (r : Bool) → nat_lt tid.home.0 o.size ≡ r → (not r || nat_lt tid.inc (o.settings tid.home.0).inc) ≡ true → (not b || may_be_known world tid) ≡ true
      by false names r run its = refl
      by true names false run its = rw (names, run) refl
      by true names true run its = rw (names, run, its) refl

  record_opens : (n : ℕ) (rec : Record) → is_record o n rec ≡ true → is_steady_record (may_be_known world) (node_no n) rec ≡ true
  record_opens n (records.Prepare tid server covers changes) is =
      let both : (is_earlier o tid ≡ true) × ((is_recoverable server.0 && list_all (is_for server) changes) ≡ true) = and_both (is_earlier o tid) _ is in
      both_and (not (names_transaction tid) || may_be_known world tid) (is_recoverable server.0) (earlier_named tid both.0) (and_both (is_recoverable server.0) _ both.1).0
  record_opens n (records.Commit tid told) is =
      let both : (is_earlier o tid ≡ true) × ((is_committed_at_home o tid && is_list n tid told) ≡ true) = and_both (is_earlier o tid) _ is in
      both_and (not (names_transaction tid) || may_be_known world tid) (is_list_at (node_no n) tid told) (earlier_named tid both.0) (listed told (and_both (is_committed_at_home o tid) (is_list n tid told) both.1).1)
    where
      listed : (told : List NodeNo) → is_list n tid told ≡ true → is_list_at (node_no n) tid told ≡ true
      listed [] its = refl
      listed (first ∷ others) its = (and_both (tid.home.0 == n) _ its).0
  record_opens n (records.Aborted tid) is = earlier_named tid is
  record_opens n (records.End tid) is = earlier_named tid is

  host_opens : (n : ℕ) → n < o.size → IsSteadyHost (stage_of world n) (world.hosts n)
  host_opens n low = record {
    tidy = opened_tidy (stage_of world n) (stage_is world n low refl seated) none o.alloc (recovery (o.logs n)) said no_kept refl refl refl (seen (world.hosts n).node ((opening_said o opens n low).node)).ordered;
    saved = refl;
    first = λ is. opened_first (stage_of world n) (stage_is world n low refl seated) none o.alloc (recovery (o.logs n)) said no_kept refl refl refl;
    records = subst (λ (l : List Record). list_all (is_steady_record (may_be_known world) (o.settings n).node) l ≡ true) (sym (append_nil (o.logs n))) logged;
    waiting = refl;
    unended = opening_left (recovery (o.logs n)) (each_is o.size (λ k. are_unended (recovery (o.logs k))) opens.unended n low);
  }
    where
      logged : list_all (is_steady_record (may_be_known world) (o.settings n).node) (o.logs n) ≡ true
      logged = subst (λ (m : NodeNo). list_all (is_steady_record (may_be_known world) m) (o.logs n) ≡ true) (sym (seated.node n low))
          (all_implied (is_record o n) (is_steady_record (may_be_known world) (node_no n)) (record_opens n) (o.logs n) (each_is o.size (λ k. list_all (is_record o k) (o.logs k)) opens.logs n low))

      said : Rattle.qs_world_refine.proofs.SaidTidy.IsSaidTidy (may_be_known world) (o.settings n).node (recovery (o.logs n))
      said = log_tidy (may_be_known world) (o.settings n).node (o.logs n) logged

      none : (stage_of world n).count ≡ 0
      none = (opened_taken (stage_of world n) o.alloc (recovery (o.logs n)) said).none

  line_opens : (size k : ℕ) (begun : List (List ℕ)) (line : ScriptLine) → is_line size k begun line ≡ true → is_steady_line size line ≡ true
  line_opens size k begun line is = by line.command (and_both (line.client.0 == k) _ is).1
    where
      by : (command : Command) → is_command size begun line.label command ≡ true → may_command size command ≡ true
      by commands.Begin its = refl
      by commands.Commit its = refl
      by commands.Abort its = refl
      by commands.Take its = refl
      by commands.Yield its = refl
      by (commands.Request member op) its = its

  script_opens : (k : ℕ) → k < client_count → list_all (is_steady_line o.size) (o.clients k).1 ≡ true
  script_opens k low =
      let script : is_script o.size k (o.clients k) ≡ true = each_is client_count (λ k. is_script o.size k (o.clients k)) opens.scripts k low in
      all_implied (is_line o.size k (labels_begun (o.clients k).1)) (is_steady_line o.size) (line_opens o.size k (labels_begun (o.clients k).1)) (o.clients k).1 (and_both (are_rising 0 (o.clients k).1) _ (and_both (nat_lt (o.clients k).0 o.size) _ script).1).1

  steady : IsSteadyWorld world
  steady = record {
    seated = seated;
    sound = opening_said o opens;
    nodes = host_opens;
    peers = λ n m is. absurd (grind (arith, is));
    nobody = λ n m j. refl;
    posted = λ n m i j. refl;
    waits = λ n m. refl;
    scripts = script_opens;
  }

pub start_steady : StartSteady
start_steady o opens = steady o opens
