-- A Told that comes to the home's node finds what its coming asks.
use Rattle.qs_world_refine.proofs.Words.{◌≡◌, ◌≢◌, ◌⊎◌, inl, inr, ℕ, ◌<◌, ◌==◌, ◌&&◌, ◌||◌, not, Bool, true, false, List, [], ◌∷◌, ◌++◌, fold, Option, Some, None, refl, sym, ap, subst, ◌∙◌, arith, if◌then◌else◌, list_any, filter, nat_tests, same_tid, NodeNo, Tid, same_node, has_all, Record, Recovery, recovery, found_record, is_untold_of, InLog, Participant, is_forced, tid_of, NodeValue, Work, part_of, work_on, is_other_node, Open, Committed, Aborted, Leads, ShowsTold, ShowsAll, Face, is_forced_of}
use Rattle.qs_world_refine.proofs.Words.{names_node, node_no, is_record_of, MayClose, AllClose, began_here, unknown, unknown_at_home, outcome_of, place, no_flags, AreSaid, SaysOn, Scene, scene_of, sight, sight_during, list_of, same_flag, begun, Stands, IsSteady, HasBegun, IsNext, TakesTold, or_first, or_last, and_false, and_right}
use Rattle.qs_base.specs.declared.identifiers.Outcome.TheVariants as outcomes
use Rattle.qs_engage.specs.Nodes.{has_node}
use Rattle.qs_packet.specs.declared.message.Message.TheVariants as messages
use Rattle.qs_record.specs.declared.record.Record.TheVariants as records
use Rattle.qs_tm.specs.Manager as tm
use Rattle.qs_tm.specs.Outcomes as outcome_rules
use Rattle.qs_world.specs.World.{World}
use Rattle.qs_world_agree.specs.World as machine
use Rattle.qs_world_refine.specs.DecisionLaws.{IsListed}
use Rattle.qs_world_refine.proofs.EachHears.{is_calm, keeps, was, past_commit}
use Rattle.qs_world_refine.proofs.Heads.{shown_here, face_is, taken_names}
use Rattle.qs_world_refine.proofs.LaterWorlds.{acks_on}
use Rattle.qs_world_refine.proofs.LogFrames.{record_apart}
use Rattle.qs_world_refine.proofs.InTurn.{others_say}
use Rattle.qs_world_refine.proofs.LogEnds.{untold_ended}
use Rattle.qs_world_refine.proofs.SaysSeen.{said_seen}
use Rattle.qs_world_refine.proofs.SaysSettles.{begin_incarnation_on}
use Rattle.qs_world_refine.proofs.SoundHolds.{known_sound}
use Rattle.qs_world_refine.proofs.SoundKnown.{same_is}
use Rattle.qs_world_refine.proofs.SoundParts.{and_both}

-- ---- records that need not be forced put no Commit into the log

untold_one : (t : Tid) (rec : Record) (said : Recovery) → is_forced_of t rec ≡ false → list_any (is_untold_of t) (found_record said rec).untold ≡ true → list_any (is_untold_of t) said.untold ≡ true
untold_one t rec said loose has = by (same_tid t (tid_of rec)) refl
  where
    ended : (r : Record) → same_tid t (tid_of r) ≡ true → is_forced_of t r ≡ false → list_any (is_untold_of t) (found_record said r).untold ≡ true → list_any (is_untold_of t) said.untold ≡ true
    ended (records.Prepare u server covers changes) same off has = has
    ended (records.Commit u told) same off has = absurd (let so : (same_tid t u && true) ≡ true = rw same refl in cc (so, off))
    ended (records.Aborted u) same off has = absurd (let none : list_any (is_untold_of t) (found_record said (records.Aborted u)).untold ≡ false = subst (λ (k : Tid). list_any (is_untold_of t) (found_record said (records.Aborted k)).untold ≡ false) (same_is t u same) (untold_ended t said.untold) in cc (none, has))
    ended (records.End u) same off has = absurd (let none : list_any (is_untold_of t) (found_record said (records.End u)).untold ≡ false = subst (λ (k : Tid). list_any (is_untold_of t) (found_record said (records.End k)).untold ≡ false) (same_is t u same) (untold_ended t said.untold) in cc (none, has))

    by : (b : Bool) → same_tid t (tid_of rec) ≡ b → list_any (is_untold_of t) said.untold ≡ true
    by true same = ended rec same loose has
    by false apart = sym (record_apart t rec said (rw (own rec) apart)).unended ∙ has
      where
        own : (r : Record) → Rattle.qs_world_refine.proofs.LogFrames.record_tid r ≡ tid_of r
        own (records.Prepare u server covers changes) = refl
        own (records.Commit u told) = refl
        own (records.Aborted u) = refl
        own (records.End u) = refl

untold_before : (t : Tid) (rs : List Record) (said : Recovery) → list_any (is_forced_of t) rs ≡ false → list_any (is_untold_of t) (fold found_record said rs).untold ≡ true → list_any (is_untold_of t) said.untold ≡ true
untold_before t [] said none has = has
untold_before t (r ∷ rs) said none has = untold_one t r said (or_first (is_forced_of t r) _ none) (untold_before t rs (found_record said r) (or_last (is_forced_of t r) _ none) has)

-- where a Commit waits for its End behind them, none of them is of it
none_behind : (t : Tid) (rs : List Record) (said : Recovery) → list_any (is_forced_of t) rs ≡ false → list_any (is_untold_of t) (fold found_record said rs).untold ≡ true → list_any (is_record_of t) rs ≡ false
none_behind t [] said none has = refl
none_behind t (r ∷ rs) said none has = neither (one (is_record_of t r) refl) (none_behind t rs (found_record said r) rest has)
  where
    neither : {a b : Bool} → a ≡ false → b ≡ false → (a || b) ≡ false
    neither x y = rw (x, y) refl

    rest : list_any (is_forced_of t) rs ≡ false
    rest = or_last (is_forced_of t r) _ none

    still : list_any (is_untold_of t) (found_record said r).untold ≡ true
    still = untold_before t rs (found_record said r) rest has

    ended : (r : Record) → is_record_of t r ≡ true → is_forced_of t r ≡ false → list_any (is_untold_of t) (found_record said r).untold ≡ true → ⊥
    ended (records.Prepare u server covers changes) same off has = let so : (same_tid t u && true) ≡ true = rw same refl in cc (so, off)
    ended (records.Commit u told) same off has = let so : (same_tid t u && true) ≡ true = rw same refl in cc (so, off)
    ended (records.Aborted u) same off has = let none : list_any (is_untold_of t) (found_record said (records.Aborted u)).untold ≡ false = subst (λ (k : Tid). list_any (is_untold_of t) (found_record said (records.Aborted k)).untold ≡ false) (same_is t u same) (untold_ended t said.untold) in cc (none, has)
    ended (records.End u) same off has = let none : list_any (is_untold_of t) (found_record said (records.End u)).untold ≡ false = subst (λ (k : Tid). list_any (is_untold_of t) (found_record said (records.End k)).untold ≡ false) (same_is t u same) (untold_ended t said.untold) in cc (none, has)

    one : (b : Bool) → is_record_of t r ≡ b → b ≡ false
    one false apart = refl
    one true same = absurd (ended r same (or_first (is_forced_of t r) _ none) still)

-- where nothing is forced nothing of it is
none_forced_of : (t : Tid) (rs : List Record) → list_any is_forced rs ≡ false → list_any (is_forced_of t) rs ≡ false
none_forced_of t [] none = refl
none_forced_of t (r ∷ rs) none = neither (and_right (is_record_of t r) (is_forced r) (or_first (is_forced r) _ none)) (none_forced_of t rs (or_last (is_forced r) _ none))
  where
    neither : {a b : Bool} → a ≡ false → b ≡ false → (a || b) ≡ false
    neither x y = rw (x, y) refl

pub filter_none : (rs : List Record) → list_any is_forced rs ≡ false → filter is_forced rs ≡ []
filter_none [] none = refl
filter_none (r ∷ rs) none = by (is_forced r) none (filter_none rs)
  where
    by : (b : Bool) → (b || list_any is_forced rs) ≡ false → (list_any is_forced rs ≡ false → filter is_forced rs ≡ []) → (if b then r ∷ filter is_forced rs else filter is_forced rs) ≡ []
    by true is more = absurd (cc (is))
    by false is more = more is

-- nor does any that waits
waits_loose : (t : Tid) (n q : ℕ) (w : machine.World) (rs : List Record) → AllClose t n q w rs → list_any (is_forced_of t) rs ≡ false
waits_loose t n q w [] all = refl
waits_loose t n q w (r ∷ rs) all = neither (one r all.0) (waits_loose t n q w rs all.1)
  where
    neither : {a b : Bool} → a ≡ false → b ≡ false → (a || b) ≡ false
    neither x y = rw (x, y) refl

    one : (r : Record) → MayClose t n q w r → is_forced_of t r ≡ false
    one (records.Prepare u server covers changes) may = rw may refl
    one (records.Commit u told) may = rw may refl
    one (records.Aborted u) may = and_false (same_tid t u)
    one (records.End u) may = and_false (same_tid t u)

module _ (t : Tid) (world : World) (w : machine.World) (steady : IsSteady world) (home_in : t.home.0 < world.size) (began : HasBegun world t) (all : ShowsAll t world w) (free : ℕ) (on : world.channels.up t.home.0 ≡ true)
    (v : machine.World) (leads : Leads w v) (scene : Scene) (sized : scene.size ≡ world.size) (same : scene.inc ≡ world.channels.inc) (logged : scene.log t.home.0 ≡ (world.hosts t.home.0).log)
    (is : Stands t scene t.home.0 (begun (world.hosts t.home.0).node free) v) (m i : ℕ) (further : List NodeNo) (rest : List Rattle.qs_packet.specs.declared.message.Message.Message) (next : IsNext scene t.home.0 m i (messages.Told t further) rest) where
  abbrev h : ℕ
  h = t.home.0

  abbrev node : NodeValue
  node = (world.hosts h).node

  abbrev work : Work
  work = begun node free

  home_is : (part : Participant) → part_of t work ≡ Some part → part.engage.home ≡ true
  home_is part known = flag part.engage.home (same_node t.home work.node.setting.node) (ap (λ (k : NodeNo). same_node t.home k) is.at.node ∙ grind (arith, nat_tests)) (known_sound t work.node part known is.sound).homed
    where
      flag : (a b : Bool) → b ≡ true → same_flag a b ≡ true → a ≡ true
      flag true b so both = refl
      flag false b so both = absurd (let off : not b ≡ false = rw so refl in cc (off, both))

  -- ---- the Commit stands in the log

  not_forced : list_any is_forced work.out.records ≡ false
  not_forced = (keeps t world w steady home_in all h free home_in on).forced

  says : SaysOn (work_on node free) work
  says = begin_incarnation_on (work_on node free)

  more_is : says.more ≡ work.out.records
  more_is = sym says.records

  said_before : AreSaid node (recovery ((world.hosts h).log ++ (world.hosts h).waiting))
  said_before = said_seen node (recovery ((world.hosts h).log ++ (world.hosts h).waiting)) (steady.sound h home_in).node ((steady.sound h home_in).runs on)

  found_is : (sight_during t scene h work).found h ≡ recovery (world.hosts h).log
  found_is = picked (h == h) (grind (arith, nat_tests)) ∙ (ap (λ (l : List Record). recovery (scene.log h ++ l)) (filter_none work.out.records not_forced) ∙ (ap recovery (Rattle.qs_world_refine.proofs.Sending.append_nil (scene.log h)) ∙ ap recovery logged))
    where
      picked : (b : Bool) → b ≡ true → (if b then recovery (scene.log h ++ filter is_forced work.out.records) else recovery (scene.log h)) ≡ recovery (scene.log h ++ filter is_forced work.out.records)
      picked b is = rw is refl

  module _ (part : Participant) (known : part_of t work ≡ Some part) (committed : part.outcome ≡ Some outcomes.Commit) where
    old : (p : Participant) × ((tm.part_of t node.manager ≡ Some p) × Rattle.qs_world_refine.proofs.Calm.SameCore p part)
    old = was t world w steady home_in all h free home_in on part known

    was_committed : old.0.outcome ≡ Some outcomes.Commit
    was_committed = sym old.1.1.outcome ∙ committed

    module _ (ends : tm.all_acknowledged t (node_no m) work.node.manager ≡ true) where
      is_listed : part.log.listed ≡ true
      is_listed = (and_both part.log.listed (has_all (outcome_rules.acknowledged (node_no m) part).acknowledged part.tell) (sym (ap all_told known) ∙ ends)).0
        where
          all_told : Option Participant → Bool
          all_told o = elim o [ None ↦ false | Some p ↦ outcome_rules.is_all_told (outcome_rules.acknowledged (node_no m) p) ]

      abbrev log_of : Option Participant → InLog
      log_of o = elim o [ None ↦ no_flags | Some p ↦ p.log ]

      then_untold : list_any (is_untold_of t) (fold found_record (recovery ((world.hosts h).log ++ (world.hosts h).waiting)) says.more).untold ≡ true
      then_untold = sym (says.said (recovery ((world.hosts h).log ++ (world.hosts h).waiting)) said_before t).listed ∙ (ap (λ (o : Option Participant). (log_of o).listed) known ∙ is_listed)

      with_waiting : list_any (is_untold_of t) (recovery ((world.hosts h).log ++ (world.hosts h).waiting)).untold ≡ true
      with_waiting = untold_before t says.more (recovery ((world.hosts h).log ++ (world.hosts h).waiting)) (ap (list_any (is_forced_of t)) more_is ∙ none_forced_of t work.out.records not_forced) then_untold

      in_log : list_any (is_untold_of t) (recovery (world.hosts h).log).untold ≡ true
      in_log = untold_before t (world.hosts h).waiting (recovery (world.hosts h).log) (waits_loose t h (place h (world.channels.inc h)) w (world.hosts h).waiting (all.seen.closes h home_in on))
          (subst (λ (r : Recovery). list_any (is_untold_of t) r.untold ≡ true) (Rattle.std.proofs.lemmas.List.Sums.fold-append found_record Rattle.qs_restart.specs.Recovery.nothing_said (world.hosts h).log (world.hosts h).waiting) with_waiting)

      -- the records that wait say nothing of it
      same_list : (k : ℕ) → names_node (list_of t (recovery ((world.hosts h).log ++ (world.hosts h).waiting))) (node_no k) ≡ names_node (list_of t (recovery (world.hosts h).log)) (node_no k)
      same_list k = ap (λ (r : Recovery). names_node (list_of t r) (node_no k)) whole
          ∙ (others_say t (world.hosts h).waiting (recovery (world.hosts h).log) (none_behind t (world.hosts h).waiting (recovery (world.hosts h).log) (waits_loose t h (place h (world.channels.inc h)) w (world.hosts h).waiting (all.seen.closes h home_in on)) (subst (λ (r : Recovery). list_any (is_untold_of t) r.untold ≡ true) whole with_waiting))).named k
        where
          whole : recovery ((world.hosts h).log ++ (world.hosts h).waiting) ≡ fold found_record (recovery (world.hosts h).log) (world.hosts h).waiting
          whole = Rattle.std.proofs.lemmas.List.Sums.fold-append found_record Rattle.qs_restart.specs.Recovery.nothing_said (world.hosts h).log (world.hosts h).waiting

      pub listed : IsListed t scene work part
      listed = record {
        stands = ap (λ (r : Recovery). list_any (is_untold_of t) r.untold) found_is ∙ in_log;
        named = λ k names. ap (λ (s : Rattle.qs_engage.specs.declared.nodes.Nodes.Nodes). has_node s (node_no k)) old.1.1.tell
            ∙ steady.listed t old.0 home_in on old.1.0 was_committed k (same_list k ∙ (sym (ap (λ (r : Recovery). names_node (list_of t r) (node_no k)) found_is) ∙ names));
      }

    acknowledged : ShowsTold t work v
    acknowledged k has = acks_on t (sight t (scene_of world)) (sight_during t scene h work) w v home_in is.home_in (ap (λ (f : ℕ → ℕ). f h) same) all.seen.shown.stage is.shown.stage leads k
        (all.outcome.acknowledged old.0 on old.1.0 k (sym (ap (λ (s : Rattle.qs_engage.specs.declared.nodes.Nodes.Nodes). has_node s (node_no k)) old.1.1.acknowledged)
        ∙ (sym (ap (λ (f : Face). f.acknowledged k) (face_is t scene h work v is part known)) ∙ has)))

  -- what it knows nothing of, and is told to others, it began earlier
  earlier : part_of t work ≡ None → list_any (is_other_node t) further ≡ true → t.inc ≢ scene.inc h
  earlier none others now = by (taken_names t scene h work v is m i (messages.Told t further) rest next further refl)
    where
      here : began_here work.node t ≡ true
      here = both (ap (λ (k : NodeNo). same_node t.home k) is.at.node ∙ grind (arith, nat_tests)) (ap (λ (k : ℕ). t.inc == k) is.at.inc ∙ grind (arith, nat_tests, now))
        where
          both : {a b : Bool} → a ≡ true → b ≡ true → (a && b) ≡ true
          both x y = rw (x, y) refl

      home_node : same_node t.home work.node.setting.node ≡ true
      home_node = ap (λ (k : NodeNo). same_node t.home k) is.at.node ∙ grind (arith, nat_tests)

      outcome_if : Bool → machine.Outcome
      outcome_if b = outcome_of (record (Rattle.qs_tm.specs.Participant.new_participant true) { outcome = if b then Some outcomes.Commit else None })

      committed : v.cell ≡ Committed
      committed = is.lawful.agreed.knows_commit (place h (scene.inc h)) ((shown_here t scene h work v is).outcome ∙ (ap (λ (o : Option Participant). outcome_of (Rattle.std.specs.Prelude.unwrap_or o (unknown work.node t))) none
          ∙ (ap (λ (b : Bool). outcome_of (if b then unknown_at_home work.node t else Rattle.qs_tm.specs.Participant.new_participant false)) home_node
          ∙ ap outcome_if (past_commit t world w steady home_in all h free home_in on v leads scene sized same is began none here))))

      by : ((further ≡ []) × (v.ack_put (place m i) ≡ true)) ⊎ (v.cell ≡ Aborted) → ⊥
      by (inl none_named) = let off : list_any (is_other_node t) further ≡ false = ap (list_any (is_other_node t)) none_named.0 in cc (off, others)
      by (inr aborted) = let other : Committed ≡ Aborted = sym committed ∙ aborted in cc (other)

  pub takes_told : TakesTold t scene m further work v
  takes_told = record {
    acknowledged = λ part known committed. acknowledged part known committed;
    listed = λ part known committed ends. listed part known committed ends;
    past = λ part known committed ends. (is_calm t world w steady home_in all h free home_in on).decided t part known (home_is part known) committed;
    earlier = earlier;
  }
