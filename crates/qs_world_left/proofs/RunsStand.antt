-- The log of each node of a run of packets stands for the machine: in the world of channels that shows the run, the node stops where it is up, and restarts.
use Rattle.std.proofs.Common.{◌≡◌, ◌∙◌, ap, refl, subst, sym, ℕ, ◌==◌, ◌<◌, ◌&&◌, ◌||◌, Bool, true, false, not, List, [], ◌∷◌, Some, arith, nat_le, nat_lt, slice_get}
use Rattle.std.proofs.lemmas.Bool.{and_from, lt-ltb, ltb-true}
use Rattle.std.proofs.lemmas.Bool.Decides.{nat_tests}
use Rattle.qs_book_journal.specs.declared.entry.CrashCause.TheVariants as causes
use Rattle.qs_book_machine.specs.Book.{BookValue}
use Rattle.qs_book_machine.specs.Lawful.{IsLawful, book_after, effect}
use Rattle.qs_book_machine.specs.Nodes as machine
use Rattle.qs_ops.specs.Table.{TableValue}
use Rattle.qs_ops.specs.declared.operation.Op.{Op}
use Rattle.qs_record.specs.declared.record.Record.{Record}
use Rattle.qs_restart.specs.Recovery.{recovery}
use Rattle.qs_world.specs.Histories.{book_of}
use Rattle.qs_world.specs.Moves.{Rise, Stop, is_in_order, may_move, moved, stamp_limit}
use Rattle.qs_world.specs.Openings.{IsOpening}
use Rattle.qs_world.specs.World.{Opening, World}
use Rattle.qs_world_lawful.specs.Logged.{HoldsLogged}
use Rattle.qs_world_lawful.specs.Said.{HoldsSaid, IsMadeBy, SameContents}
use Rattle.qs_world_lawful.specs.Worlds.{HoldsNodeAt}
use Rattle.qs_world_left.proofs.RunsLeave.{same_size}
use Rattle.qs_world_left.specs.Standing.{EachRunStands, EachRunStandsAlone, KeepsContents, Restarts, StandsFor, StandsWhole, restart_entry, stop_entries}
use Rattle.qs_world_one.proofs.StandsOver as one
use Rattle.qs_world_opening.proofs.Tests.{itself, parts}
use Rattle.qs_world_packets.proofs.OpensWithin.{opens_alike}
use Rattle.qs_world_packets.proofs.RunsGo.{each_run_shown}
use Rattle.qs_world_packets.specs.PacketLaws.{BeginsAlike, IsRunOf}
use Rattle.qs_world_packets.specs.PacketMoves as packets
use Rattle.qs_world_packets.specs.PacketRuns.{Run}
use Rattle.qs_world_packets.specs.PacketWorld.{PacketWorld, over, start, within}
use Rattle.qs_world_packets.specs.WorldShown.{run_moves}
use Rattle.qs_world_runs.proofs.JoinedMoves.{each_move_joined}
use Rattle.qs_world_runs.proofs.JoinedOver.{each_run_joined}
use Rattle.qs_world_runs.proofs.JoinedParts.{book_on, lawful_more}
use Rattle.qs_world_runs.proofs.LogsStandFor.{rises_restored}
use Rattle.qs_world_runs.proofs.RunsGoOn.{runs_go}
use Rattle.qs_world_runs.specs.AlongRun.{AlongRun}
use Rattle.qs_world_runs.specs.Joined.{Joined, book_in}
use Rattle.qs_world_runs.specs.StandsFor.{IsRestored}

same_made : (table other : TableValue) (changes : List Op) → IsMadeBy table changes → IsMadeBy other changes → SameContents table other
same_made table other changes a b = record { contents = a.contents ∙ sym b.contents; notes = a.notes ∙ sym b.notes }

one_state : {a b : machine.NodeValue} → Some a ≡ Some b → a ≡ b
one_state same = cc same

-- the stamp of the last step will do for the next one of its node
still_ordered : (bounds : Bool) (n stamp s : ℕ) → bounds ≡ true → s ≡ stamp → (bounds && ((nat_lt stamp stamp || ((stamp == stamp) && nat_le n n)) && nat_le s stamp)) ≡ true
still_ordered bounds n stamp s is same = grind (arith, nat_tests, is, same)

-- ---- a node that is down, in the world of channels

module _ (o : Opening) (world : World) (n stamp inc : ℕ) (j : Joined AlongRun o world) (down : world.channels.up n ≡ false) (order : is_in_order world n stamp ≡ true) (later : world.channels.inc n < inc) where
  may_rise : may_move world (Rise n stamp inc) ≡ true
  may_rise = and_from (not (world.channels.up n)) _ (ap not down) (and_from (is_in_order world n stamp) (nat_lt (world.channels.inc n) inc) order (lt-ltb (world.channels.inc n) inc later))

  abbrev after : World
  after = moved (Rise n stamp inc) world

  abbrev log : List Record
  log = (world.hosts n).log

  joined : Joined AlongRun o after
  joined = each_move_joined AlongRun runs_go o world (Rise n stamp inc) j may_rise

  restored : IsRestored o after n
  restored = rises_restored o world n stamp inc may_rise joined

  book_is : book_in o after ≡ book_after (book_in o world) (restart_entry n stamp inc (recovery log) ∷ [])
  book_is = book_on o world after (restart_entry n stamp inc (recovery log) ∷ []) refl

  log_is : (after.hosts n).log ≡ log
  log_is = rw (itself n) refl

  restarts : Restarts (book_in o world) n stamp inc log
  restarts = record {
    lawful = lawful_more o world after (restart_entry n stamp inc (recovery log) ∷ []) refl joined.lawful;
    state = restored.state;
    there = subst (λ (b : BookValue). slice_get b.nodes n ≡ Some restored.state) book_is restored.there;
    said = subst (λ (b : BookValue). HoldsSaid n b restored.state (recovery log)) book_is (subst (λ (l : List Record). HoldsSaid n (book_in o after) restored.state (recovery l)) log_is restored.said);
    logged = subst (λ (b : BookValue). HoldsLogged n b restored.state (recovery log)) book_is (subst (λ (l : List Record). HoldsLogged n (book_in o after) restored.state (recovery l)) log_is restored.logged);
  }

-- ---- one that is up

module _ (o : Opening) (world : World) (n stamp inc : ℕ) (j : Joined AlongRun o world) (up : world.channels.up n ≡ true) (order : is_in_order world n stamp ≡ true) (later : world.channels.inc n < inc) where
  may_stop : may_move world (Stop n stamp causes.Memory) ≡ true
  may_stop = and_from (world.channels.up n) _ up (and_from (is_in_order world n stamp) true order refl)

  abbrev stopped : World
  stopped = moved (Stop n stamp causes.Memory) world

  joined_stopped : Joined AlongRun o stopped
  joined_stopped = each_move_joined AlongRun runs_go o world (Stop n stamp causes.Memory) j may_stop

  bounds : (nat_lt n world.size && nat_lt stamp stamp_limit) ≡ true
  bounds = (parts (nat_lt n world.size && nat_lt stamp stamp_limit) _ order).0

  is_down : stopped.channels.up n ≡ false
  is_down = rw (itself n) refl

  log_stays : (stopped.hosts n).log ≡ (world.hosts n).log
  log_stays = rw (itself n) refl

  stamp_is : (stopped.hosts n).stamp ≡ stamp
  stamp_is = rw (itself n) refl

  order_stopped : is_in_order stopped n stamp ≡ true
  order_stopped = still_ordered (nat_lt n world.size && nat_lt stamp stamp_limit) n stamp (stopped.hosts n).stamp bounds stamp_is

  book_stopped : book_in o stopped ≡ book_after (book_in o world) (stop_entries n true stamp)
  book_stopped = book_on o world stopped (stop_entries n true stamp) refl

  behind : Restarts (book_after (book_in o world) (stop_entries n true stamp)) n stamp inc (world.hosts n).log
  behind = subst (λ (b : BookValue). Restarts b n stamp inc (world.hosts n).log) book_stopped
      (subst (λ (l : List Record). Restarts (book_in o stopped) n stamp inc l) log_stays (restarts o stopped n stamp inc joined_stopped is_down order_stopped later))

  low : n < world.size
  low = ltb-true n world.size (parts (nat_lt n world.size) _ bounds).0

  at : HoldsNodeAt (book_in o world) world n
  at = j.held.nodes n low

  was_said : HoldsSaid n (book_in o world) at.state (recovery (world.hosts n).log)
  was_said = (at.runs up).on_disk

  keeps : KeepsContents true (slice_get (book_in o world).nodes n) behind.state
  keeps is before there = subst (λ (s : machine.NodeValue). SameContents behind.state.files s.files × SameContents behind.state.audit s.audit) (one_state (sym at.there ∙ there))
      (same_made behind.state.files at.state.files (recovery (world.hosts n).log).files behind.said.files was_said.files, same_made behind.state.audit at.state.audit (recovery (world.hosts n).log).audit behind.said.audit was_said.audit)

  stands_up : StandsFor (book_in o world) n true inc (world.hosts n).log
  stands_up = record { stamp = stamp; stops = lawful_more o world stopped (stop_entries n true stamp) refl joined_stopped.lawful; restarts = behind; kept = keeps }

stands : (o : Opening) (world : World) (n stamp inc : ℕ) → Joined AlongRun o world → is_in_order world n stamp ≡ true → world.channels.inc n < inc → (b : Bool) → world.channels.up n ≡ b → StandsFor (book_in o world) n b inc (world.hosts n).log
stands o world n stamp inc j order later true up = stands_up o world n stamp inc j up order later
stands o world n stamp inc j order later false down = record { stamp = stamp; stops = tt; restarts = restarts o world n stamp inc j down order later; kept = λ is. absurd (cc is) }

-- of the only node: the machine that has all that the log says is the one of the restart
stands_whole : (book : BookValue) (up : Bool) (inc : ℕ) (records : List Record) (s : StandsFor book 0 up inc records) (after : BookValue) (all : one.HoldsAll after records) → s.restarts.state ≡ all.state → StandsWhole book up inc records
stands_whole book up inc records s after all same = record {
  stands = s;
  files = λ setting. ap (λ (n : machine.NodeValue). n.files) same ∙ all.files setting;
  audit = λ setting. ap (λ (n : machine.NodeValue). n.audit) same ∙ all.audit setting;
}

whole_up : (book : BookValue) (stamp inc : ℕ) (records : List Record) (stops : IsLawful book (stop_entries 0 true stamp)) (again : Restarts (book_after book (stop_entries 0 true stamp)) 0 stamp inc records)
    → KeepsContents true (slice_get book.nodes 0) again.state → one.HoldsAll (effect (effect book (one.crash_entry stamp)) (one.restart_entry stamp inc (recovery records))) records → StandsWhole book true inc records
whole_up book stamp inc records stops again kept all = stands_whole book true inc records (record { stamp = stamp; stops = stops; restarts = again; kept = kept })
    (effect (effect book (one.crash_entry stamp)) (one.restart_entry stamp inc (recovery records))) all (one_state (sym again.there ∙ all.there))

whole_down : (book : BookValue) (stamp inc : ℕ) (records : List Record) (again : Restarts book 0 stamp inc records) → one.HoldsAll (effect book (one.restart_entry stamp inc (recovery records))) records → StandsWhole book false inc records
whole_down book stamp inc records again all = stands_whole book false inc records (record { stamp = stamp; stops = tt; restarts = again; kept = λ is. absurd (cc is) })
    (effect book (one.restart_entry stamp inc (recovery records))) all (one_state (sym again.there ∙ all.there))

-- ---- over packets

module _ (o : Opening) (moves : List packets.Move) (world : PacketWorld) (opens : IsOpening o) (run : Run (start o) moves world) (n stamp inc : ℕ) where
  r : IsRunOf o moves world
  r = each_run_shown o moves world opens run

  alike : BeginsAlike o
  alike = opens_alike o opens

  joined_over : Joined AlongRun (within o) (over world r.channels)
  joined_over = each_run_joined AlongRun runs_go (within o) (run_moves (start o) moves) (over world r.channels) alike.opens r.run

  stands_over : is_in_order (over world r.channels) n stamp ≡ true → world.network.inc n < inc → StandsFor (book_after (book_of o) world.journal) n (world.network.up n) inc (world.hosts n).log
  stands_over order later = subst (λ (b : BookValue). StandsFor (book_after b world.journal) n (world.network.up n) inc (world.hosts n).log) alike.book
      (stands (within o) (over world r.channels) n stamp inc joined_over order (subst (λ (k : ℕ). k < inc) (sym (ap (λ (f : ℕ → ℕ). f n) r.shown.shows.inc)) later) (world.network.up n) (ap (λ (f : ℕ → Bool). f n) r.shown.shows.up))

  -- of a run of one node
  alone_over : o.size ≡ 1 → is_in_order (over world r.channels) 0 stamp ≡ true → world.network.inc 0 < inc → StandsWhole (book_after (book_of o) world.journal) (world.network.up 0) inc (world.hosts 0).log
  alone_over single order later = subst (λ (b : BookValue). StandsWhole (book_after b world.journal) (world.network.up 0) inc (world.hosts 0).log) alike.book
      (by (world.network.up 0) (ap (λ (f : ℕ → Bool). f 0) r.shown.shows.up))
    where
      size_is : world.size ≡ 1
      size_is = same_size o moves world opens run ∙ single

      later_over : (over world r.channels).channels.inc 0 < inc
      later_over = subst (λ (k : ℕ). k < inc) (sym (ap (λ (f : ℕ → ℕ). f 0) r.shown.shows.inc)) later

      by : (b : Bool) → (over world r.channels).channels.up 0 ≡ b → StandsWhole (book_in (within o) (over world r.channels)) b inc (world.hosts 0).log
      by true up = whole_up (book_in (within o) (over world r.channels)) stamp inc (world.hosts 0).log
          (lawful_more (within o) (over world r.channels) (stopped (within o) (over world r.channels) 0 stamp inc joined_over up order later_over) (stop_entries 0 true stamp) refl
          (joined_stopped (within o) (over world r.channels) 0 stamp inc joined_over up order later_over).lawful)
          (behind (within o) (over world r.channels) 0 stamp inc joined_over up order later_over) (keeps (within o) (over world r.channels) 0 stamp inc joined_over up order later_over)
          (one.stands_up (within o) alike.opens (run_moves (start o) moves) (over world r.channels) r.run size_is stamp inc order later_over up)
      by false down = whole_down (book_in (within o) (over world r.channels)) stamp inc (world.hosts 0).log (restarts (within o) (over world r.channels) 0 stamp inc joined_over down order later_over)
          (one.stands_down (within o) alike.opens (run_moves (start o) moves) (over world r.channels) r.run size_is stamp inc order later_over down)

pub each_run_stands : EachRunStands
each_run_stands o moves world n stamp inc opens run order later = stands_over o moves world opens run n stamp inc order later

pub each_run_stands_alone : EachRunStandsAlone
each_run_stands_alone o moves world stamp inc opens run single order later = alone_over o moves world opens run 0 stamp inc single order later
