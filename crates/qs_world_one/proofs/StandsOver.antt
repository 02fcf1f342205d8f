-- The log of a world that a run leads to stands for the machine: where its only node stops in its place, or is down, and restarts, the machine then holds of files and audit what a node
-- that opens over the log by itself does.
use Rattle.std.proofs.Common.{◌≡◌, ◌∙◌, ap, refl, subst, sym, ℕ, ◌<◌, ◌==◌, ◌&&◌, ◌||◌, not, Bool, true, false, List, [], ◌∷◌, ◌++◌, Option, None, Some, arith, nat_lt, nat_le, slice_get}
use Rattle.std.proofs.lemmas.Bool.Decides.{nat_tests}
use Rattle.std.specs.BTreeMap.{is_at}
use Rattle.std.specs.List.{filter}
use Rattle.std.specs.Map.{lookup}
use Rattle.std.specs.Prelude.{is_some}
use Rattle.qs_base.specs.Order.{member_cmp}
use Rattle.qs_base.specs.declared.identifiers.Member.{Member}
use Rattle.qs_base.specs.declared.identifiers.NodeNo.{NodeNo}
use Rattle.qs_base.specs.declared.identifiers.Tid.{Tid}
use Rattle.qs_book_journal.specs.declared.entry.Act.TheVariants as acts
use Rattle.qs_book_journal.specs.declared.entry.CrashCause.TheVariants as causes
use Rattle.qs_book_journal.specs.declared.entry.Entry.{Entry}
use Rattle.qs_book_laws.proofs.Holding.{left_of}
use Rattle.qs_book_laws.proofs.Openings.{opening_names}
use Rattle.qs_world_lawful.specs.Holds.{HoldsStill}
use Rattle.qs_world_lawful.specs.Logs.{found_votes}
use Rattle.qs_world_lawful.specs.Tables.{HoldsTable, is_seen, of_seen}
use Rattle.qs_world_lawful.specs.Worlds.{HoldsNodeAt, HoldsUp}
use Rattle.qs_world_lawful.proofs.CoherentOpenings.{opens_soundly}
use Rattle.qs_book_machine.specs.Book.{BookValue, find_transaction}
use Rattle.qs_book_machine.specs.Lawful.{effect}
use Rattle.qs_book_machine.specs.Nodes as machine
use Rattle.qs_book_machine.specs.Opening.{opened_node}
use Rattle.qs_book_machine.specs.Transaction.{TransactionValue, is_empty}
use Rattle.qs_ops.specs.Servers.{audit_no, files_no}
use Rattle.qs_ops.specs.Table.{TableValue}
use Rattle.qs_ops.specs.declared.file.File.{File}
use Rattle.qs_ops.specs.declared.share.Share.{Share}
use Rattle.qs_record.specs.declared.record.Record.{Record}
use Rattle.qs_restart.specs.Recovery.{Recovery, recovery}
use Rattle.qs_node_step.specs.Opening.{recovered_of}
use Rattle.qs_node_step.specs.State.{NodeValue}
use Rattle.qs_node_step.specs.declared.setting.Setting.{Setting}
use Rattle.qs_world.specs.Histories.{opened_from, opened_with}
use Rattle.qs_world.specs.Moves.{Move, Rise, Stop, is_in_order, may_move, moved, stamp_limit}
use Rattle.qs_world.specs.Openings.{IsOpening}
use Rattle.qs_world.specs.Posting.{entry_of}
use Rattle.qs_world.specs.Runs.{Run}
use Rattle.qs_world.specs.World.{Opening, World, start}
use Rattle.qs_world_runs.specs.AlongRun.{AlongRun}
use Rattle.qs_world_runs.specs.Joined.{Joined, book_in}
use Rattle.qs_world_runs.specs.Uncrossed.{IsUncrossed}
use Rattle.qs_world_runs.proofs.JoinedOver.{each_run_joined}
use Rattle.qs_world_runs.proofs.JoinedParts.{book_on}
use Rattle.qs_world_runs.proofs.NextOpening.{each_run_coherent}
use Rattle.qs_world_runs.proofs.RunsGoOn.{runs_go}
use Rattle.qs_world_runs.proofs.UncrossedRuns.{uncrossed_alone}
use Rattle.qs_world_one.proofs.NextOver.{is_next, over_log}

-- ---- what the machine then holds

-- the node stops, for a cause of which the machine asks nothing
abbrev pub crash_entry : ℕ → Entry
crash_entry stamp = entry_of 0 stamp (acts.Crash causes.Memory)

-- and finds these votes and Commits
abbrev pub restart_entry : ℕ → ℕ → Recovery → Entry
restart_entry stamp inc said = entry_of 0 stamp (acts.Restart inc (found_votes said) said.committed)

-- what a node that opens over the log by itself has, whatever its setting
pub record HoldsAll (book : BookValue) (records : List Record) : Type 0 where
  pub state : machine.NodeValue
  pub there : slice_get book.nodes 0 ≡ Some state
  pub files : (setting : Setting) → state.files ≡ (opened_node (opened_with setting (recovered_of records))).files
  pub audit : (setting : Setting) → state.audit ≡ (opened_node (opened_with setting (recovered_of records))).audit

-- ---- tables

all_pass : (seen : Tid → Bool) → ((tid : Tid) → seen tid ≡ true) → (entries : List (Tid × Share)) → filter (of_seen seen) entries ≡ entries
all_pass seen all [] = refl
all_pass seen all (e ∷ es) = rw (all e.0, all_pass seen all es) refl

same_table : (seen : Tid → Bool) (kept held : TableValue) → ((tid : Tid) → seen tid ≡ true) → HoldsTable seen kept held → kept ≡ held
same_table seen kept held all h = ap (λ (c : List File). record { contents = c; notes = kept.notes; shares = kept.shares }) h.contents
    ∙ (ap (λ (n : List (List ℕ)). record { contents = held.contents; notes = n; shares = kept.shares }) h.notes
    ∙ ap (λ (s : List (Tid × Share)). record { contents = held.contents; notes = held.notes; shares = s }) (h.shares ∙ all_pass seen all held.shares))

all_seen : (book : BookValue) → IsUncrossed book → (here : NodeNo) (server : ℕ) (tid : Tid) → is_seen book here server tid ≡ true
all_seen book uncrossed here server tid = by (find_transaction book tid) refl
  where
    none_at : (member : Member) (crossed : List (Member × ℕ)) → is_empty crossed ≡ true → not (is_some (lookup (is_at (member_cmp member)) crossed)) ≡ true
    none_at member [] none = refl
    none_at member (x ∷ xs) none = absurd (cc none)

    by : (o : Option TransactionValue) → find_transaction book tid ≡ o → is_seen book here server tid ≡ true
    by None none = rw none refl
    by (Some tx) found = rw found (none_at (record { node = here; server = record { 0 = server } }) tx.crossed (uncrossed tid tx found))

-- ---- the only node of a world, that runs

one_low : (size : ℕ) → size ≡ 1 → 0 < size
one_low size one = omega (arith, one)

one_state : {a b : machine.NodeValue} → Some a ≡ Some b → a ≡ b
one_state same = cc same

record HoldsSame (o : Opening) (world : World) : Type 0 where
  state : machine.NodeValue
  there : slice_get (book_in o world).nodes 0 ≡ Some state
  files : state.files ≡ (world.hosts 0).node.servers.files.table
  audit : state.audit ≡ (world.hosts 0).node.servers.audit.table

holds_same : (o : Opening) (moves : List Move) (world : World) → IsOpening o → Run (start o) moves world → world.size ≡ 1 → world.channels.up 0 ≡ true → HoldsSame o world
holds_same o moves world opens run one up = record {
  state = at.state;
  there = at.there;
  files = subst (λ (s : machine.NodeValue). s.files ≡ node.servers.files.table) same (same_table (is_seen book node.setting.node files_no) still.state.files node.servers.files.table (all_seen book whole node.setting.node files_no) still.servers.files);
  audit = subst (λ (s : machine.NodeValue). s.audit ≡ node.servers.audit.table) same (same_table (is_seen book node.setting.node audit_no) still.state.audit node.servers.audit.table (all_seen book whole node.setting.node audit_no) still.servers.audit);
}
  where
    book : BookValue
    book = book_in o world

    node : NodeValue
    node = (world.hosts 0).node

    joined : Joined AlongRun o world
    joined = each_run_joined AlongRun runs_go o moves world opens run

    whole : IsUncrossed book
    whole = uncrossed_alone o moves world opens run one

    at : HoldsNodeAt book world 0
    at = joined.held.nodes 0 (one_low world.size one)

    runs : HoldsUp 0 book at.state (world.hosts 0)
    runs = at.runs up

    still : HoldsStill book node
    still = runs.still

    same : still.state ≡ at.state
    same = one_state (sym (subst (λ (k : ℕ). slice_get book.nodes k ≡ Some still.state) at.node still.there) ∙ at.there)

-- ---- moves

run_then : (moves : List Move) (old new : World) (move : Move) → Run old moves new → may_move new move ≡ true → Run old (moves ++ move ∷ []) (moved move new)
run_then [] old new move same may = (subst (λ (w : World). may_move w move ≡ true) same may, ap (moved move) same)
run_then (m ∷ moves) old new move run may = (run.0, run_then moves (moved m old) new move run.1 may)

less : (a b : ℕ) → a < b → nat_lt a b ≡ true
less a b is = grind (arith, nat_tests, is)

-- a restart of a node that is down, over its log
module _ (o : Opening) (opens : IsOpening o) (moves : List Move) (world : World) (run : Run (start o) moves world) (one : world.size ≡ 1) (stamp inc : ℕ) (order : is_in_order world 0 stamp ≡ true) (later : world.channels.inc 0 < inc) where
  abbrev log : List Record
  log = (world.hosts 0).log

  -- a node that opens by itself over it, with the quota of this one
  abbrev next : Opening
  next = over_log o.alloc inc log (world.hosts 0).node.setting.quota

  next_opens : IsOpening next
  next_opens = each_run_coherent o moves world next opens run (is_next o.alloc inc log (world.hosts 0).node.setting.quota world one refl later)

  by_itself : HoldsSame next (start next)
  by_itself = holds_same next [] (start next) next_opens refl refl refl

  itself_is : (setting : Setting) → (by_itself.state.files ≡ (opened_node (opened_with setting (recovered_of log))).files) × (by_itself.state.audit ≡ (opened_node (opened_with setting (recovered_of log))).audit)
  itself_is setting = (ap (λ (s : machine.NodeValue). s.files) is, ap (λ (s : machine.NodeValue). s.audit) is)
    where
      is : by_itself.state ≡ opened_node (opened_with (next.settings 0) (recovered_of log))
      is = one_state (sym by_itself.there ∙ ap (λ (ns : List machine.NodeValue). slice_get ns 0) (opening_names (opened_from next 0 1) (opens_soundly next next_opens)).nodes)

  module _ (off : world.channels.up 0 ≡ false) where
    may_rise : may_move world (Rise 0 stamp inc) ≡ true
    may_rise = all (world.channels.up 0) (is_in_order world 0 stamp) (nat_lt (world.channels.inc 0) inc) off order (less (world.channels.inc 0) inc later)
      where
        all : (a b c : Bool) → a ≡ false → b ≡ true → c ≡ true → (not a && (b && c)) ≡ true
        all a b c p q r = rw (p, q, r) refl

    abbrev new : World
    new = moved (Rise 0 stamp inc) world

    risen : HoldsSame o new
    risen = holds_same o (moves ++ Rise 0 stamp inc ∷ []) new opens (run_then moves (start o) world (Rise 0 stamp inc) run may_rise) one refl

    pub stands_down : HoldsAll (effect (book_in o world) (restart_entry stamp inc (recovery log))) log
    stands_down = record {
      state = risen.state;
      there = subst (λ (b : BookValue). slice_get b.nodes 0 ≡ Some risen.state) (book_on o world new (restart_entry stamp inc (recovery log) ∷ []) refl) risen.there;
      files = λ setting. risen.files ∙ (sym by_itself.files ∙ (itself_is setting).0);
      audit = λ setting. risen.audit ∙ (sym by_itself.audit ∙ (itself_is setting).1);
    }

-- and where it is up, after a crash in its place
module _ (o : Opening) (opens : IsOpening o) (moves : List Move) (world : World) (run : Run (start o) moves world) (one : world.size ≡ 1) (stamp inc : ℕ) (order : is_in_order world 0 stamp ≡ true) (later : world.channels.inc 0 < inc) (up : world.channels.up 0 ≡ true) where
  may_stop : may_move world (Stop 0 stamp causes.Memory) ≡ true
  may_stop = all (world.channels.up 0) (is_in_order world 0 stamp) up order
    where
      all : (a b : Bool) → a ≡ true → b ≡ true → (a && (b && true)) ≡ true
      all a b p q = rw (p, q) refl

  abbrev stopped : World
  stopped = moved (Stop 0 stamp causes.Memory) world

  run_stopped : Run (start o) (moves ++ Stop 0 stamp causes.Memory ∷ []) stopped
  run_stopped = run_then moves (start o) world (Stop 0 stamp causes.Memory) run may_stop

  order_stopped : is_in_order stopped 0 stamp ≡ true
  order_stopped = at (nat_lt 0 world.size && nat_lt stamp stamp_limit) stamp (left_of (nat_lt 0 world.size && nat_lt stamp stamp_limit) _ order)
    where
      at : (a : Bool) (s : ℕ) → a ≡ true → (a && ((nat_lt s s || ((s == s) && nat_le 0 0)) && nat_le s s)) ≡ true
      at a s is = grind (arith, nat_tests, is)

  r : HoldsAll (effect (book_in o stopped) (restart_entry stamp inc (recovery (world.hosts 0).log))) (world.hosts 0).log
  r = stands_down o opens (moves ++ Stop 0 stamp causes.Memory ∷ []) stopped run_stopped one stamp inc order_stopped later refl

  book_stopped : book_in o stopped ≡ effect (book_in o world) (crash_entry stamp)
  book_stopped = book_on o world stopped (crash_entry stamp ∷ []) refl

  pub stands_up : HoldsAll (effect (effect (book_in o world) (crash_entry stamp)) (restart_entry stamp inc (recovery (world.hosts 0).log))) (world.hosts 0).log
  stands_up = subst (λ (b : BookValue). HoldsAll (effect b (restart_entry stamp inc (recovery (world.hosts 0).log))) (world.hosts 0).log) book_stopped r
