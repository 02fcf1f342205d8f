-- A move that may be made of a world that is steady may be made of its nodes too.
use Rattle.qs_world_refine.proofs.Words.{◌≡◌, inl, inr, ℕ, ◌+◌, ◌≤◌, ◌<◌, ◌==◌, ◌&&◌, ◌||◌, not, Bool, true, false, List, [], ◌∷◌, length, Option, Some, None, is_some, refl, sym, subst, arith, nat_lt, nat_le, if◌then◌else◌, nat_tests, ◌⊎◌, zero, suc, list_all, NodeNo, Tid, same_node, Command, ScriptLine, Lent, recovery, names_transaction, Source, Commanded, Handed, Queues, Clock, Noticed, Move, Cut, Stop, Rise, client_count, event_of, command_of, is_later, is_in_order, may_move, next_parcel}
use Rattle.qs_world_refine.proofs.Words.{Parcel, known_of, inc_in, count_in, fits, may_command, node_no, BeginsNewAt, MayMoveOver, where_so, goes_in_run, may_take_up, kept_before, is_loan_before, is_label_before, begun, is_open_in_run, commands_in_run, stage_of, IsSteadyHost, IsSteadyWorld, GivesAt, is_steady_parcel, is_steady_line, are_two, Stage, is_tidy_label, is_tidy_loan, is_tidy_command, not-true}
use Rattle.std.specs.List.{slice_get}
use Rattle.qs_book_journal.specs.declared.script_line.Command.TheVariants as commands
use Rattle.qs_node_kept.specs.declared.kept.KeptLabel.{KeptLabel}
use Rattle.qs_node_step.specs.declared.event.Event.{Event}
use Rattle.qs_node_step.specs.declared.event.Event.TheVariants as events
use Rattle.qs_world.specs.Moves.{Step, Meet, command_from, message_from, notice_of, has_begun as has_risen}
use Rattle.qs_world.specs.Posting.{next_line}
use Rattle.qs_world.specs.World.{World}
use Rattle.qs_world_refine.specs.OpenLaws.{MayCome, MayComeAt}
use Rattle.qs_world_refine.specs.Steadies.{SteadyMay}
use Rattle.qs_world_refine.proofs.OpenMoves.{move_may}
use Rattle.qs_world_refine.proofs.SaidTidy.{log_tidy, takes_up, all_parted}
use Rattle.qs_world_refine.proofs.SoundBegin.{all_implied}
use Rattle.qs_world_refine.proofs.SoundParts.{and_both, both_and}
use Rattle.qs_world_refine.proofs.MoveGoes.{step_may}
use Rattle.qs_world_refine.proofs.SteadyGrows.{begun_past, own_past}
use Rattle.qs_world_refine.proofs.SteadyBegins.{ComesFit, place, size, comes_may, comes_new}

-- ---- what an event says, from each source

module _ (world : World) (steady : IsSteadyWorld world) (n free : ℕ) (low : n < world.size) (up : world.channels.up n ≡ true) where
  abbrev Fit : Event → Type 0
  Fit = ComesFit world steady n free low up

  abbrev c : Stage
  c = stage_of world n

  node_place : c.setting.node ≡ node_no n
  node_place = place world steady n free low up

  node_size : c.setting.nodes ≡ world.size
  node_size = size world steady n free low up

  first_got : (xs : List ScriptLine) (line : ScriptLine) → slice_get xs 0 ≡ Some line → list_all (is_steady_line world.size) xs ≡ true → is_steady_line world.size line ≡ true
  first_got [] line is all = absurd (cc (is))
  first_got (x ∷ xs) line is all = let it : x ≡ line = cc (is) in subst (λ (l : ScriptLine). is_steady_line world.size l ≡ true) it (and_both (is_steady_line world.size x) _ all).0

  got : (q : Parcel → Bool) (xs : List Parcel) (k : ℕ) (x : Parcel) → slice_get xs k ≡ Some x → list_all q xs ≡ true → q x ≡ true
  got q [] k x is all = absurd (cc (is))
  got q (y ∷ ys) zero x is all = let it : y ≡ x = cc (is) in subst (λ (p : Parcel). q p ≡ true) it (and_both (q y) _ all).0
  got q (y ∷ ys) (suc k) x is all = got q ys k x is (and_both (q y) _ all).1

  command_fits : (k : ℕ) (event : Event) → command_from world n k ≡ Some event → Fit event
  command_fits k event is = by (nat_lt k client_count) refl ((world.clients k).at == n) (next_line (world.clients k)) refl is
    where
      line_of : (h : Bool) (line : ScriptLine) → k < client_count → (if h then None else slice_get (world.clients k).lines 0) ≡ Some line → may_command c.setting.nodes line.command ≡ true
      line_of true line lower is = absurd (cc (is))
      line_of false line lower is = subst (λ (s : ℕ). may_command s line.command ≡ true) (sym node_size) (first_got (world.clients k).lines line is (steady.scripts k lower))

      by : (a : Bool) → nat_lt k client_count ≡ a → (b : Bool) (o : Option ScriptLine) → next_line (world.clients k) ≡ o → (if a && b then elim o [ None ↦ None | Some line ↦ Some (command_of line) ] else None) ≡ Some event → Fit event
      by true lower true (Some line) next is = let it : command_of line ≡ event = cc (is) in subst Fit it (line_of (world.clients k).is_handed line (grind (arith, nat_tests, lower)) next)
      by true lower true None next is = absurd (cc (is))
      by true lower false o next is = absurd (cc (is))
      by false lower b o next is = absurd (cc (is))

  apart_of : (m : ℕ) → not (m == n) ≡ true → same_node (node_no m) c.setting.node ≡ false
  apart_of m is = subst (λ (p : NodeNo). same_node (node_no m) p ≡ false) (sym node_place) (not-true (m == n) is)

  message_fits : (stamp m : ℕ) (event : Event) → message_from world n stamp m ≡ Some event → Fit event
  message_fits stamp m event is = by (next_parcel world n m) refl is
    where
      parcel_of : (parcel : Parcel) → next_parcel world n m ≡ Some parcel → is_steady_parcel world m n parcel ≡ true
      parcel_of parcel next = got (is_steady_parcel world m n) (world.channels.posted m n (known_of world n m) (world.channels.inc n)) (length (world.channels.handed m n (known_of world n m) (world.channels.inc n))) parcel next
          (steady.posted m n (known_of world n m) (world.channels.inc n))

      some_posted : (k : ℕ) (parcel : Parcel) → slice_get (world.channels.posted m n k (world.channels.inc n)) (length (world.channels.handed m n k (world.channels.inc n))) ≡ Some parcel → nat_lt 0 k ≡ true
      some_posted zero parcel next = absurd (
          let none : world.channels.posted m n 0 (world.channels.inc n) ≡ [] = steady.nobody m n (world.channels.inc n) in
          let never : slice_get [] (length (world.channels.handed m n 0 (world.channels.inc n))) ≡ Some parcel = subst (λ (l : List Parcel). slice_get l (length (world.channels.handed m n 0 (world.channels.inc n))) ≡ Some parcel) none next in cc (never))
      some_posted (suc k) parcel next = grind (arith, nat_tests)

      fit_of : (parcel : Parcel) → next_parcel world n m ≡ Some parcel → Fit (events.Received (node_no m) parcel.message)
      fit_of parcel next =
          let both : (are_two world.size m n ≡ true) × (fits c.past c.begun world.size (node_no m) (node_no n) parcel.message ≡ true) = and_both (are_two world.size m n) _ (parcel_of parcel next) in
          let two : (nat_lt m world.size ≡ true) × ((nat_lt n world.size && not (m == n)) ≡ true) = and_both (nat_lt m world.size) _ both.0 in (
            record { in_run = subst (λ (s : ℕ). nat_lt m s ≡ true) (sym node_size) two.0; other = apart_of m (and_both (nat_lt n world.size) _ two.1).1 },
            (
              some_posted (known_of world n m) parcel next,
              subst (λ (p : NodeNo). fits c.past c.begun c.setting.nodes (node_no m) p parcel.message ≡ true) (sym node_place) (subst (λ (s : ℕ). fits c.past c.begun s (node_no m) (node_no n) parcel.message ≡ true) (sym node_size) both.1),
            ),
          )

      by : (o : Option Parcel) → next_parcel world n m ≡ o → (elim o [ None ↦ None | Some parcel ↦ if nat_lt parcel.stamp stamp then Some (events.Received (node_no m) parcel.message) else None ]) ≡ Some event → Fit event
      by None next is = absurd (cc (is))
      by (Some parcel) next is = at (nat_lt parcel.stamp stamp) is
        where
          at : (b : Bool) → (if b then Some (events.Received (node_no m) parcel.message) else None) ≡ Some event → Fit event
          at true is = let it : events.Received (node_no m) parcel.message ≡ event = cc (is) in subst Fit it (fit_of parcel next)
          at false is = absurd (cc (is))

  notice_fits : (stamp m new : ℕ) (event : Event) → notice_of world n stamp m new ≡ Some event → Fit event
  notice_fits stamp m new event is = by (nat_lt 0 (known_of world n m)) refl (nat_lt (known_of world n m) new && has_risen world stamp m new) is
    where
      in_run : nat_lt 0 (known_of world n m) ≡ true → nat_lt m c.setting.nodes ≡ true
      in_run known = subst (λ (s : ℕ). nat_lt m s ≡ true) (sym node_size)
          (and_both (nat_lt m world.size) _ (and_both (nat_lt n world.size) _ (steady.peers n m (grind (arith, nat_tests, known)))).1).0

      by : (a : Bool) → nat_lt 0 (known_of world n m) ≡ a → (b : Bool) → (if a && b then Some (events.PeerRestarted (node_no m) (known_of world n m) new) else None) ≡ Some event → Fit event
      by true known true is = let it : events.PeerRestarted (node_no m) (known_of world n m) new ≡ event = cc (is) in subst Fit it (in_run known)
      by true known false is = absurd (cc (is))
      by false known b is = absurd (cc (is))

  pub event_fits : (stamp : ℕ) (source : Source) (event : Event) → event_of world n stamp source ≡ Some event → Fit event
  event_fits stamp (Commanded k) event is = command_fits k event is
  event_fits stamp (Handed m) event is = message_fits stamp m event is
  event_fits stamp Queues event is = let it : events.ServeAll ≡ event = cc (is) in subst Fit it tt
  event_fits stamp Clock event is = let it : events.Tick ≡ event = cc (is) in subst Fit it tt
  event_fits stamp (Noticed m new) event is = notice_fits stamp m new event is

-- ---- what is open goes to nodes of the run

pub goes_of : (nodes : ℕ) (command : Command) → may_command nodes command ≡ true → goes_in_run nodes command ≡ true
goes_of nodes commands.Begin is = refl
goes_of nodes commands.Commit is = refl
goes_of nodes commands.Abort is = refl
goes_of nodes commands.Take is = refl
goes_of nodes commands.Yield is = refl
goes_of nodes (commands.Request member op) is = (and_both (nat_lt member.node.0 nodes) _ is).0

pub open_at : (world : World) → IsSteadyWorld world → (k : ℕ) → k < world.size → commands_in_run (world.hosts k).node ≡ true
open_at world steady k low = all_implied (is_tidy_command (stage_of world k)) (is_open_in_run (world.hosts k).node.setting.nodes) (λ e its. goes_of (world.hosts k).node.setting.nodes e.1.line.command its) (world.hosts k).node.commands (steady.nodes k low).tidy.commands

-- ---- a restart

module _ (world : World) (steady : IsSteadyWorld world) (n : ℕ) (low : n < world.size) (down : world.channels.up n ≡ false) where
  abbrev was : Stage
  was = stage_of world n

  rests : IsSteadyHost was (world.hosts n)
  rests = steady.nodes n low

  pub rises_may : (inc : ℕ) → world.channels.inc n < inc → (nat_lt (world.hosts n).node.setting.inc inc ≡ true) × ((may_take_up (world.hosts n).node.setting.node (recovery (world.hosts n).log) ≡ true) × (kept_before (world.hosts n).node.setting.node inc (world.hosts n).node.kept.saved ≡ true))
  rises_may inc later = (
    later_inc,
    (
      takes_up was.past was.setting.node (recovery (world.hosts n).log) (log_tidy was.past was.setting.node (world.hosts n).log (all_parted _ (world.hosts n).log (world.hosts n).waiting rests.records).0),
      subst (λ (k : Rattle.qs_node_kept.specs.declared.kept.Kept.Kept). kept_before was.setting.node inc k ≡ true) (sym rests.saved)
          (both_and (list_all (is_loan_before inc) (world.hosts n).node.kept.now.loans) (list_all (is_label_before was.setting.node inc) (world.hosts n).node.kept.now.labels)
          (all_implied (is_tidy_loan was) (is_loan_before inc) loan_before (world.hosts n).node.kept.now.loans rests.tidy.loans)
          (all_implied (is_tidy_label was) (is_label_before was.setting.node inc) label_before (world.hosts n).node.kept.now.labels rests.tidy.labels)),
    ),
  )
    where
      now : was.setting.inc ≡ world.channels.inc n
      now = steady.seated.inc n low

      next : inc_in world n ≡ world.channels.inc n + 1
      next = rw down refl

      later_inc : nat_lt was.setting.inc inc ≡ true
      later_inc = grind (arith, nat_tests, now, later)

      loan_before : (loan : Lent) → is_tidy_loan was loan ≡ true → is_loan_before inc loan ≡ true
      loan_before loan is = let it : nat_le loan.inc was.setting.inc ≡ true = (and_both (was.begun loan.tid) _ is).1 in grind (arith, nat_tests, it, now, later)

      label_before : (begun : KeptLabel) → is_tidy_label was begun ≡ true → is_label_before was.setting.node inc begun ≡ true
      label_before begun is = by begun.tid is
        where
          given : (tid : Tid) → names_transaction tid ≡ true → ((tid.inc < inc_in world n) ⊎ ((tid.inc ≡ inc_in world n) × (tid.seq ≤ count_in world n))) → nat_lt tid.inc inc ≡ true
          given tid names (inl less) = grind (arith, nat_tests, less, next, later)
          given tid names (inr same) = absurd (
              let none : count_in world n ≡ 0 = rw down refl in
              let it : tid.seq ≤ count_in world n = same.1 in grind (arith, nat_tests, names, it, none))

          at : (tid : Tid) → was.begun tid ≡ true → (b : Bool) → same_node tid.home was.setting.node ≡ b → (not b || nat_lt tid.inc inc) ≡ true
          at tid its true home =
              let own : (names_transaction tid ≡ true) × ((tid.inc < inc_in world n) ⊎ ((tid.inc ≡ inc_in world n) × (tid.seq ≤ count_in world n))) =
              own_past world.size (inc_in world) (count_in world) n tid low (begun_past world.size (inc_in world) (count_in world) tid its).0 (subst (λ (m : NodeNo). same_node tid.home m ≡ true) (steady.seated.node n low) home) in
              given tid own.0 own.1
          at tid its false away = refl

          by : (o : Option Tid) → elim o [ None ↦ true | Some tid ↦ was.begun tid && where_so (is_some begun.owner) (same_node tid.home was.setting.node) ] ≡ true → elim o [ None ↦ true | Some tid ↦ not (same_node tid.home was.setting.node) || nat_lt tid.inc inc ] ≡ true
          by None its = refl
          by (Some tid) its = at tid (and_both (was.begun tid) _ its).0 (same_node tid.home was.setting.node) refl

-- ---- each move

pub steady_may : SteadyMay
steady_may world (Step n stamp free source) may gives steady = (move_may world (Step n stamp free source) may comes new (λ k low. (steady.sound k low).node) (λ k low. open_at world steady k low), new)
  where
    runs : world.channels.up n ≡ true
    runs = (step_may world n stamp source may).runs

    low : n < world.size
    low = (step_may world n stamp source may).low

    come : (o : Option Event) → event_of world n stamp source ≡ o → GivesAt world n free o → MayComeAt world n free o
    come None is gives = tt
    come (Some event) is gives = comes_may world steady n free low runs event (event_fits world steady n free low runs stamp source event is) gives

    comes : MayCome world (Step n stamp free source)
    comes = come (event_of world n stamp source) refl gives

    begins : (o : Option Event) → BeginsNewAt world n free o
    begins None = tt
    begins (Some event) = comes_new world steady n free low runs event

    new : MayMoveOver world (Step n stamp free source)
    new = begins (event_of world n stamp source)
steady_may world (Cut n stamp free source is_kept cause) may gives steady = (tt, tt)
steady_may world (Stop n stamp cause) may gives steady = (tt, tt)
steady_may world (Rise n stamp inc) may gives steady = (rises_may world steady n low down inc later, (steady.nodes n low).unended)
  where
    rest : (not (world.channels.up n) ≡ true) × ((is_in_order world n stamp && nat_lt (world.channels.inc n) inc) ≡ true)
    rest = and_both (not (world.channels.up n)) _ may

    down : world.channels.up n ≡ false
    down = not-true (world.channels.up n) rest.0

    low : n < world.size
    low = let it : nat_lt n world.size ≡ true = (and_both (nat_lt n world.size) _ (and_both (nat_lt n world.size && nat_lt stamp Rattle.qs_world.specs.Moves.stamp_limit) _ (and_both (is_in_order world n stamp) _ rest.1).0).0).0 in grind (arith, nat_tests, it)

    later : world.channels.inc n < inc
    later = let it : nat_lt (world.channels.inc n) inc ≡ true = (and_both (is_in_order world n stamp) _ rest.1).1 in grind (arith, nat_tests, it)
steady_may world (Meet n stamp m inc) may gives steady = (tt, tt)
