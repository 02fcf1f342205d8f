-- Each move of the world leaves the nodes that run sound over their logs, and so they are where a world begins.
use Rattle.qs_world_refine.proofs.Words.{◌≡◌, ℕ, ◌<◌, ◌==◌, ◌&&◌, ◌||◌, not, Bool, true, false, List, [], ◌∷◌, ◌++◌, Option, Some, None, refl, sym, ap, subst, ◌∙◌, arith, if◌then◌else◌, list_all, list_any, eqb-true, not-true, nat_tests, Tid, same_node, no_kept, Record, Prepared, Untold, Recovery, recovery, nothing_said, names_transaction, is_untold_of, committed_before, Manager, InLog, Participant, opened_manager, recovered_as, recovered_of, NodeValue, after_step, effects_of, Effects, Setting}
use Rattle.qs_world_refine.proofs.Words.{Source, Move, Commanded, Handed, Queues, Clock, Noticed, Cut, Stop, Rise, event_of, step_with, cut_with, stepped_host, stopped_host, risen_host, cut_log, hand_next, taken_by, may_move, moved, IsOpening, are_unended, is_untold, post_all, next_parcel, Host, Parcel, start, each_is, are_left_open, no_flags, AreSaid, AreSoundOver, BeginsNewAt, MayMoveOver, has_doubt, may_vote, is_list_of, MayStep}
use Rattle.qs_session_channels.specs.Network.{with_at}
use Rattle.qs_tm.specs.Manager as tm
use Rattle.qs_node_step.specs.declared.event.Event.{Event}
use Rattle.qs_world.specs.Moves.{Step, Meet}
use Rattle.qs_world.specs.World.{World}
use Rattle.qs_world_refine.specs.SaidLaws.{is_open_vote, is_said_host, OpenedSaid, RestartSaid, MoveSaid}
use Rattle.qs_world_refine.specs.SoundMoves.{MayMove}
use Rattle.qs_world_refine.proofs.Doubts.{is_doubt_of, none_of}
use Rattle.qs_world_refine.proofs.Posted.{up_all}
use Rattle.qs_world_refine.proofs.RisenFaces.{lists_from}
use Rattle.qs_world_refine.proofs.SaidNames.{opening_left}
use Rattle.qs_world_refine.proofs.SaidSteps.{step_said}
use Rattle.qs_world_refine.proofs.SaysOn.{append_three}
use Rattle.qs_world_refine.proofs.SaysSeen.{seen_said}
use Rattle.qs_world_refine.proofs.Sending.{append_nil}
use Rattle.qs_world_refine.proofs.SoundKnown.{same_is}
use Rattle.qs_world_refine.proofs.SoundLogs.{opened_sound, restart_sound, log_fits}
use Rattle.qs_world_refine.proofs.SoundMoves.{move_sound}
use Rattle.qs_world_refine.proofs.SoundParts.{and_both}
use Rattle.qs_world_refine.proofs.StartLogs.{unknown_log}
use Rattle.qs_world_refine.proofs.TakingUp.{Known, has_list, log_taken}

-- ---- a node that opens

-- in a log that names its transactions no vote is in doubt of one that is none, or beside a Commit that waits
module _ (said : Recovery) (unended : are_left_open said ≡ true) where
  tests : (list_all (is_open_vote said) said.prepared ≡ true) × (list_all is_untold said.untold ≡ true)
  tests = and_both (list_all (is_open_vote said) said.prepared) (list_all is_untold said.untold) unended

  doubt_named : (tid : Tid) (votes : List Prepared) → list_all (is_open_vote said) votes ≡ true → list_any (is_doubt_of tid) votes ≡ true → (names_transaction tid ≡ true) × (list_any (is_untold_of tid) said.untold ≡ false)
  doubt_named tid [] all some = absurd (cc (some))
  doubt_named tid (v ∷ votes) all some = by (is_doubt_of tid v) refl some (doubt_named tid votes (and_both (is_open_vote said v) (list_all (is_open_vote said) votes) all).1)
    where
      open_is : (c a b : Bool) → (c || (a && b)) ≡ true → not c ≡ true → (a ≡ true) × (b ≡ true)
      open_is true a b is so = absurd (cc (so))
      open_is false a b is so = and_both a b is

      by : (b : Bool) → is_doubt_of tid v ≡ b → (b || list_any (is_doubt_of tid) votes) ≡ true → (list_any (is_doubt_of tid) votes ≡ true → (names_transaction tid ≡ true) × (list_any (is_untold_of tid) said.untold ≡ false)) → (names_transaction tid ≡ true) × (list_any (is_untold_of tid) said.untold ≡ false)
      by false is some more = more some
      by true is some more =
          let both : (Rattle.qs_restart.specs.Recovery.is_of tid v ≡ true) × (not v.committed ≡ true) = and_both (Rattle.qs_restart.specs.Recovery.is_of tid v) (not v.committed) is in
          let its : (names_transaction v.tid ≡ true) × (not (list_any (is_untold_of v.tid) said.untold) ≡ true) = open_is v.committed (names_transaction v.tid) (not (list_any (is_untold_of v.tid) said.untold)) (and_both (is_open_vote said v) (list_all (is_open_vote said) votes) all).0 both.1 in
          subst (λ (t : Tid). (names_transaction t ≡ true) × (list_any (is_untold_of t) said.untold ≡ false)) (same_is v.tid tid both.0) (its.0, not-true (list_any (is_untold_of v.tid) said.untold) its.1)

  pub untold_named : (tid : Tid) (commits : List Untold) → list_all is_untold commits ≡ true → list_any (is_untold_of tid) commits ≡ true → names_transaction tid ≡ true
  untold_named tid [] all some = absurd (cc (some))
  untold_named tid (c ∷ commits) all some = by (is_untold_of tid c) refl some (untold_named tid commits (and_both (is_untold c) (list_all is_untold commits) all).1)
    where
      by : (b : Bool) → is_untold_of tid c ≡ b → (b || list_any (is_untold_of tid) commits) ≡ true → (list_any (is_untold_of tid) commits ≡ true → names_transaction tid ≡ true) → names_transaction tid ≡ true
      by false is some more = more some
      by true is some more = subst (λ (t : Tid). names_transaction t ≡ true) (same_is c.tid tid is) (and_both (is_untold c) (list_all is_untold commits) all).0

-- what the node takes up has just the flags that the log says
module _ (alloc : Rattle.std.specs.Global.Global) (setting : Setting) (said : Recovery) (may : list_all may_vote said.prepared ≡ true) (unended : are_left_open said ≡ true) (tid : Tid) (lists : list_all (has_list tid) said.untold ≡ true) where
  abbrev taken : Manager
  taken = opened_manager alloc setting (recovered_as said)

  abbrev told : Option Participant → InLog
  told o = elim o [ None ↦ no_flags | Some part ↦ part.log ]

  pub record Flags : Type 0 where
    pub prepared : (told (tm.part_of tid taken)).prepared ≡ has_doubt tid said
    pub listed : (told (tm.part_of tid taken)).listed ≡ list_any (is_untold_of tid) said.untold

  found : (o : Option Participant) → tm.part_of tid taken ≡ o → (told o).prepared ≡ has_doubt tid said → (told o).listed ≡ list_any (is_untold_of tid) said.untold → Flags
  found o is prepared listed = record { prepared = ap (λ (o : Option Participant). (told o).prepared) is ∙ prepared; listed = ap (λ (o : Option Participant). (told o).listed) is ∙ listed }

  named : names_transaction tid ≡ true → Flags
  named numbered = by (list_any (is_untold_of tid) said.untold) (has_doubt tid said) refl refl
      (log_taken tid (same_node tid.home setting.node) numbered said (Rattle.qs_node_step.specs.Opening.new_manager alloc setting) may lists refl refl)
    where
      apart : has_doubt tid said ≡ true → list_any (is_untold_of tid) said.untold ≡ true → ⊥
      apart doubt untold = let none : list_any (is_untold_of tid) said.untold ≡ false = (doubt_named said unended tid said.prepared (tests said unended).0 doubt).1 in cc (none, untold)

      by : (a b : Bool) → list_any (is_untold_of tid) said.untold ≡ a → has_doubt tid said ≡ b → Known tid (same_node tid.home setting.node) a b taken → Flags
      by true true untold doubt known = absurd (apart doubt untold)
      by true false untold doubt known = found (Some (committed_before (same_node tid.home setting.node) known.0)) known.1 (sym doubt) (sym untold)
      by false true untold doubt known = found (Some known.0) known.1 (known.2.prepared ∙ sym doubt) (known.2.bare.unlisted ∙ sym untold)
      by false false untold doubt known = found None known (sym doubt) (sym untold)

  pub taken_flags : Flags
  taken_flags = by (names_transaction tid) refl
    where
      unnamed : (b : Bool) → (b ≡ true → names_transaction tid ≡ true) → names_transaction tid ≡ false → b ≡ false
      unnamed false so is = refl
      unnamed true so is = absurd (let yes_it : names_transaction tid ≡ true = so refl in cc (yes_it, is))

      by : (b : Bool) → names_transaction tid ≡ b → Flags
      by true is = named is
      by false is =
          let doubt : has_doubt tid said ≡ false = unnamed (has_doubt tid said) (λ some. (doubt_named said unended tid said.prepared (tests said unended).0 some).0) is in
          let untold : list_any (is_untold_of tid) said.untold ≡ false = unnamed (list_any (is_untold_of tid) said.untold) (λ some. untold_named said unended tid said.untold (tests said unended).1 some) is in
          found None (unknown_log tid alloc setting said (λ s. none_of tid s said.prepared doubt) untold) (sym doubt) (sym untold)

-- over a log as it is read
opened_said : (alloc : Rattle.std.specs.Global.Global) (setting : Setting) (kept : Rattle.qs_node_kept.specs.declared.kept.Kept.Kept) (log : List Record) → list_all may_vote (recovery log).prepared ≡ true → are_left_open (recovery log) ≡ true
    → AreSaid (Rattle.qs_node_step.specs.Opening.opened_node alloc setting (recovered_of log) kept) (recovery log)
opened_said alloc setting kept log may unended tid =
    let flags : Flags alloc setting (recovery log) may unended tid (lists_from tid log nothing_said refl) = taken_flags alloc setting (recovery log) may unended tid (lists_from tid log nothing_said refl) in
    record { prepared = flags.prepared; listed = flags.listed }

pub restart_said : RestartSaid
restart_said inc log node takes unended = opened_said node.manager.alloc (record node.setting { inc = inc }) node.kept.saved log (and_both (list_all may_vote (recovery log).prepared) (list_all (is_list_of node.setting.node) (recovery log).untold) takes).0 unended

pub opening_said : OpenedSaid
opening_said o opens n in_run = record {
  node = opened_sound o opens n in_run;
  runs = λ _. (rw (append_nil (o.logs n)) (seen_said ((start o).hosts n).node (recovery (o.logs n)) (opened_sound o opens n in_run) (opened_said o.alloc (o.settings n) no_kept (o.logs n) may unended)));
  stopped = λ off. absurd (cc (off));
}
  where
    may : list_all may_vote (recovery (o.logs n)).prepared ≡ true
    may = (log_fits o n (o.logs n) nothing_said (each_is o.size (λ k. list_all (Rattle.qs_world.specs.Openings.is_record o k) (o.logs k)) opens.logs n in_run) (refl, refl)).0

    unended : are_left_open (recovery (o.logs n)) ≡ true
    unended = opening_left (recovery (o.logs n)) (each_is o.size (λ k. are_unended (recovery (o.logs k))) opens.unended n in_run)

-- ---- moves

-- which nodes run stays where a message is taken
taken_up : (world : World) (n : ℕ) (source : Source) → (taken_by world n source).up ≡ world.channels.up
taken_up world n (Commanded k) = refl
taken_up world n (Handed m) = by (next_parcel world n m)
  where
    by : (o : Option Parcel) → (hand_next n m o world.channels).up ≡ world.channels.up
    by None = refl
    by (Some parcel) = refl
taken_up world n Queues = refl
taken_up world n Clock = refl
taken_up world n (Noticed m new) = refl

-- one host changes
over_with : (world : World) (n : ℕ) (host : Host) (up : ℕ → Bool) → AreSoundOver world → ((m : ℕ) → (m ≡ n → ⊥) → up m ≡ world.channels.up m)
    → (n < world.size → (up n ≡ true → is_said_host host ≡ true) × (up n ≡ false → host.waiting ≡ [])) → (m : ℕ) → m < world.size
    → (up m ≡ true → is_said_host (with_at world.hosts n host m) ≡ true) × (up m ≡ false → (with_at world.hosts n host m).waiting ≡ [])
over_with world n host up all others its m low = by (m == n) refl
  where
    by : (b : Bool) → (m == n) ≡ b → (up m ≡ true → is_said_host (if b then host else world.hosts m) ≡ true) × (up m ≡ false → (if b then host else world.hosts m).waiting ≡ [])
    by true same = let is : m ≡ n = eqb-true m n same in subst (λ (k : ℕ). (up k ≡ true → is_said_host host ≡ true) × (up k ≡ false → host.waiting ≡ [])) (sym is) (its (subst (λ (k : ℕ). k < world.size) is low))
    by false apart = let stays : up m ≡ world.channels.up m = others m (λ is. grind (arith, nat_tests, apart, is)) in (λ on. (all m low).runs (sym stays ∙ on), λ off. (all m low).stopped (sym stays ∙ off))

-- with or without a force the records of a step come behind all others
pub log_same : (b : Bool) (log waiting more : List Record) → (if b then log ++ (waiting ++ more) else log) ++ (if b then [] else waiting ++ more) ≡ (log ++ waiting) ++ more
log_same true log waiting more = append_nil (log ++ (waiting ++ more)) ∙ sym (append_three log waiting more)
log_same false log waiting more = sym (append_three log waiting more)

stops : (world : World) (n : ℕ) (stamp : ℕ) (log : List Record) → AreSoundOver world → (m : ℕ) → m < world.size
    → (with_at world.channels.up n false m ≡ true → is_said_host (with_at world.hosts n (stopped_host stamp log (world.hosts n)) m) ≡ true) × (with_at world.channels.up n false m ≡ false → (with_at world.hosts n (stopped_host stamp log (world.hosts n)) m).waiting ≡ [])
stops world n stamp log all = over_with world n (stopped_host stamp log (world.hosts n)) (with_at world.channels.up n false) all (λ m other. grind (arith, nat_tests, other))
    (λ low. ((λ on. absurd (let off : with_at world.channels.up n false n ≡ false = grind (arith, nat_tests) in cc (off, on))), (λ off. refl)))

-- over its log
abbrev IsOver : World → ℕ → Type 0
IsOver world m = (world.channels.up m ≡ true → is_said_host (world.hosts m) ≡ true) × (world.channels.up m ≡ false → (world.hosts m).waiting ≡ [])

over_said : (world : World) (move : Move) → may_move world move ≡ true → MayMove world move → MayMoveOver world move → AreSoundOver world → (m : ℕ) → m < (moved move world).size → IsOver (moved move world) m
over_said world (Step n stamp free source) may fits new all = by (event_of world n stamp source) fits new (and_both (world.channels.up n) _ may).0
  where
    by : (o : Option Event) → MayStep world n free o → BeginsNewAt world n free o → world.channels.up n ≡ true → (m : ℕ) → m < (step_with world n stamp free source o).size → IsOver (step_with world n stamp free source o) m
    by None fits new runs = λ m low. ((all m low).runs, (all m low).stopped)
    by (Some event) fits new runs = over
      where
        out : Effects
        out = effects_of (world.hosts n).node event free

        node : NodeValue
        node = after_step (world.hosts n).node event free

        up_is : (post_all n stamp out.messages (taken_by world n source)).up ≡ world.channels.up
        up_is = up_all n stamp out.messages (taken_by world n source) ∙ taken_up world n source

        said : n < world.size → is_said_host (stepped_host stamp node out (world.hosts n)) ≡ true
        said in_run = rw (log_same out.force (world.hosts n).log (world.hosts n).waiting out.records)
            (step_said (world.hosts n).node event free ((world.hosts n).log ++ (world.hosts n).waiting) fits.0 new fits.1 (all n in_run).node ((all n in_run).runs runs))

        over : (m : ℕ) → m < world.size → ((post_all n stamp out.messages (taken_by world n source)).up m ≡ true → is_said_host (with_at world.hosts n (stepped_host stamp node out (world.hosts n)) m) ≡ true) × ((post_all n stamp out.messages (taken_by world n source)).up m ≡ false → (with_at world.hosts n (stepped_host stamp node out (world.hosts n)) m).waiting ≡ [])
        over m low = rw up_is (over_with world n (stepped_host stamp node out (world.hosts n)) world.channels.up all (λ k other. refl) (λ in_run. ((λ on. said in_run), (λ off. absurd (cc (runs, off))))) m low)
over_said world (Cut n stamp free source is_kept cause) may fits new all = by (event_of world n stamp source)
  where
    by : (o : Option Event) → (m : ℕ) → m < (cut_with world n stamp free is_kept cause o).size → IsOver (cut_with world n stamp free is_kept cause o) m
    by None = λ m low. ((all m low).runs, (all m low).stopped)
    by (Some event) = stops world n stamp (cut_log (world.hosts n) is_kept (effects_of (world.hosts n).node event free)) all
over_said world (Stop n stamp cause) may fits new all = stops world n stamp (world.hosts n).log all
over_said world (Rise n stamp inc) may fits new all = over
  where
    off : (b : Bool) → not b ≡ true → b ≡ false
    off true is = absurd (cc (is))
    off false is = refl

    host : Host
    host = risen_host stamp inc (recovered_of (world.hosts n).log) (world.hosts n)

    said : n < world.size → is_said_host host ≡ true
    said in_run =
        let none : (world.hosts n).waiting ≡ [] = (all n in_run).stopped (off (world.channels.up n) (and_both (not (world.channels.up n)) _ may).0) in
        rw (none, append_nil (world.hosts n).log) (seen_said host.node (recovery (world.hosts n).log)
        (restart_sound inc (recovery (world.hosts n).log) (world.hosts n).node fits.0 fits.1.0 fits.1.1 (all n in_run).node) (restart_said inc (world.hosts n).log (world.hosts n).node fits.1.0 new))

    over : (m : ℕ) → m < world.size → (with_at world.channels.up n true m ≡ true → is_said_host (with_at world.hosts n host m) ≡ true) × (with_at world.channels.up n true m ≡ false → (with_at world.hosts n host m).waiting ≡ [])
    over = over_with world n host (with_at world.channels.up n true) all (λ k other. grind (arith, nat_tests, other)) (λ in_run. ((λ on. said in_run), (λ off. absurd (let on : with_at world.channels.up n true n ≡ true = grind (arith, nat_tests) in cc (on, off)))))
over_said world (Meet n stamp k inc) may fits new all = over
  where
    over : (m : ℕ) → m < world.size → (world.channels.up m ≡ true → is_said_host (with_at world.hosts n (record (world.hosts n) { stamp = stamp }) m) ≡ true) × (world.channels.up m ≡ false → (with_at world.hosts n (record (world.hosts n) { stamp = stamp }) m).waiting ≡ [])
    over = over_with world n (record (world.hosts n) { stamp = stamp }) world.channels.up all (λ j other. refl) (λ in_run. ((all n in_run).runs, (all n in_run).stopped))

same_size : (world : World) (move : Move) → (moved move world).size ≡ world.size
same_size world (Step n stamp free source) = by (event_of world n stamp source)
  where
    by : (o : Option Event) → (step_with world n stamp free source o).size ≡ world.size
    by None = refl
    by (Some event) = refl
same_size world (Cut n stamp free source is_kept cause) = by (event_of world n stamp source)
  where
    by : (o : Option Event) → (cut_with world n stamp free is_kept cause o).size ≡ world.size
    by None = refl
    by (Some event) = refl
same_size world (Stop n stamp cause) = refl
same_size world (Rise n stamp inc) = refl
same_size world (Meet n stamp k inc) = refl

pub move_said : MoveSaid
move_said world move may fits new all m low =
    let over = over_said world move may fits new all m low in
    record { node = move_sound world move fits (λ k in_run. (all k in_run).node) m low; runs = over.0; stopped = over.1 }
