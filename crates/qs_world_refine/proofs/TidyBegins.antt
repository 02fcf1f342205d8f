-- A tidy node stays tidy where a client begins a transaction, of which nothing was known, and where more is known to have begun.
use Rattle.qs_world_refine.proofs.Words.{◌≡◌, inl, inr, ℕ, ◌+◌, ◌≤◌, ◌==◌, ◌&&◌, ◌||◌, Bool, true, false, Option, Some, None, is_some, refl, sym, ap, subst, ◌∙◌, arith, nat_le, nat_tests, ◌⊎◌, list_all, list_any, same_tid, ClientNo, NodeNo, ServerNo, Tid, same_node, QueueValue, is_outcome_of, Decided, Lent, Message, Record, names_transaction, kept_outcome, was_committed, is_other, NodeValue, Work, Sending, begun_participant, Manager, Participant, fits, fits_record, is_drawn, is_list_at, began_here}
use Rattle.qs_world_refine.proofs.Words.{where_so, same_flag, is_owned, Stage, IsTidyNode, IsTidy, IsCrossed, is_settled, is_tidy_part, is_tidy_superior, is_tidy_label, is_tidy_loan, is_tidy_outcome, is_tidy_sending, is_tidy_record, is_begun_delivery, is_begun_queue, is_run, or_left, or_right, or_cases}
use Rattle.qs_base.specs.declared.identifiers.Outcome.TheVariants as outcomes
use Rattle.qs_node_kept.specs.declared.kept.KeptLabel.{KeptLabel}
use Rattle.qs_packet.specs.declared.message.Message.TheVariants as messages
use Rattle.qs_record.specs.declared.record.Record.TheVariants as records
use Rattle.qs_tm.specs.Manager as tm
use Rattle.qs_world_refine.specs.Tidy.{IsTidyOut}
use Rattle.qs_world_refine.proofs.CrossedKept.{owned_on}
use Rattle.qs_world_refine.proofs.PartsAfter.{IsSame, IsPut, put_seen, told_is, as_told, is_known, as_known, put_known}
use Rattle.qs_world_refine.proofs.SoundBegin.{all_put, order_put, all_implied}
use Rattle.qs_world_refine.proofs.SoundParts.{and_both, both_and, all_found}

-- ---- more has begun

pub record Widens (c d : Stage) : Type 0 where
  pub setting : d.setting ≡ c.setting
  pub past : (tid : Tid) → c.past tid ≡ true → d.past tid ≡ true
  pub begun : (tid : Tid) → c.begun tid ≡ true → d.begun tid ≡ true
  pub met : (node : NodeNo) → c.met node ≡ true → d.met node ≡ true

module _ (c d : Stage) (wide : Widens c d) where
  both_more : (a b x y : Bool) → (a ≡ true → x ≡ true) → (b ≡ true → y ≡ true) → (a && b) ≡ true → (x && y) ≡ true
  both_more a b x y first second is = let both : (a ≡ true) × (b ≡ true) = and_both a b is in both_and x y (first both.0) (second both.1)

  where_more : (a b y : Bool) → (b ≡ true → y ≡ true) → where_so a b ≡ true → where_so a y ≡ true
  where_more true b y more is = more is
  where_more false b y more is = refl

  -- the setting's own tests
  at_setting : (test : Rattle.qs_node_step.specs.declared.setting.Setting.Setting → Bool) → test c.setting ≡ true → test d.setting ≡ true
  at_setting test is = subst (λ (s : Rattle.qs_node_step.specs.declared.setting.Setting.Setting). test s ≡ true) (sym wide.setting) is

  superior_wide : (tid : Tid) (o : Option NodeNo) → is_tidy_superior c tid o ≡ true → is_tidy_superior d tid o ≡ true
  superior_wide tid None is = refl
  superior_wide tid (Some superior) is = both_more (c.begun tid) (c.met superior) (d.begun tid) (d.met superior) (wide.begun tid) (wide.met superior) is

  part_wide : (e : Tid × Participant) → is_tidy_part c e ≡ true → is_tidy_part d e ≡ true
  part_wide e is = both_more _ _ (d.past e.0 && same_flag e.1.engage.home (same_node e.0.home d.setting.node)) (where_so e.1.asked (d.begun e.0) && is_tidy_superior d e.0 e.1.engage.superior)
      (both_more (c.past e.0) (same_flag e.1.engage.home (same_node e.0.home c.setting.node)) (d.past e.0) (same_flag e.1.engage.home (same_node e.0.home d.setting.node)) (wide.past e.0) (at_setting (λ s. same_flag e.1.engage.home (same_node e.0.home s.node))))
      (both_more (where_so e.1.asked (c.begun e.0)) (is_tidy_superior c e.0 e.1.engage.superior) (where_so e.1.asked (d.begun e.0)) (is_tidy_superior d e.0 e.1.engage.superior) (where_more e.1.asked (c.begun e.0) (d.begun e.0) (wide.begun e.0)) (superior_wide e.0 e.1.engage.superior)) is

  queue_wide : (e : ServerNo × QueueValue) → is_begun_queue c e ≡ true → is_begun_queue d e ≡ true
  queue_wide e is = all_implied (is_begun_delivery c) (is_begun_delivery d) (λ delivery its. wide.begun delivery.tid its) e.1.waiting is

  label_wide : (begun : KeptLabel) → is_tidy_label c begun ≡ true → is_tidy_label d begun ≡ true
  label_wide begun is = by begun.tid is
    where
      by : (o : Option Tid) → elim o [ None ↦ true | Some tid ↦ c.begun tid && where_so (is_some begun.owner) (same_node tid.home c.setting.node) ] ≡ true → elim o [ None ↦ true | Some tid ↦ d.begun tid && where_so (is_some begun.owner) (same_node tid.home d.setting.node) ] ≡ true
      by None is = refl
      by (Some tid) is = both_more (c.begun tid) (where_so (is_some begun.owner) (same_node tid.home c.setting.node)) (d.begun tid) (where_so (is_some begun.owner) (same_node tid.home d.setting.node)) (wide.begun tid) (at_setting (λ s. where_so (is_some begun.owner) (same_node tid.home s.node))) is

  loan_wide : (loan : Lent) → is_tidy_loan c loan ≡ true → is_tidy_loan d loan ≡ true
  loan_wide loan is = both_more (c.begun loan.tid) (nat_le loan.inc c.setting.inc) (d.begun loan.tid) (nat_le loan.inc d.setting.inc) (wide.begun loan.tid) (at_setting (λ s. nat_le loan.inc s.inc)) is

  outcome_wide : (decided : Decided) → is_tidy_outcome c decided ≡ true → is_tidy_outcome d decided ≡ true
  outcome_wide decided is = both_more (c.past decided.tid) (same_node decided.tid.home c.setting.node) (d.past decided.tid) (same_node decided.tid.home d.setting.node) (wide.past decided.tid) (at_setting (λ s. same_node decided.tid.home s.node)) is

  -- what is said
  pub fits_wide : (nodes : ℕ) (from to : NodeNo) (message : Message) → fits c.past c.begun nodes from to message ≡ true → fits d.past d.begun nodes from to message ≡ true
  fits_wide nodes from to messages.Hello is = refl
  fits_wide nodes from to (messages.Request tid label member number issuer op) is = both_more (c.begun tid) _ (d.begun tid) _ (wide.begun tid) (λ its. its) is
  fits_wide nodes from to (messages.Answered tid member number reply) is = wide.begun tid is
  fits_wide nodes from to (messages.AskVote tid) is = wide.begun tid is
  fits_wide nodes from to (messages.Covered tid up_to) is = wide.begun tid is
  fits_wide nodes from to (messages.VotedYes tid up_to told) is = both_more (c.begun tid) (list_all (is_drawn nodes tid) told) (d.begun tid) (list_all (is_drawn nodes tid) told) (wide.begun tid) (λ its. its) is
  fits_wide nodes from to (messages.VotedAbort tid cause) is = both_more (c.past tid) _ (d.past tid) _ (wide.past tid) (λ its. its) is
  fits_wide nodes from to (messages.Tell tid outcome) is = both_more (c.past tid) (same_node tid.home from) (d.past tid) (same_node tid.home from) (wide.past tid) (λ its. its) is
  fits_wide nodes from to (messages.Told tid further) is = both_more (c.past tid) (same_node tid.home to) (d.past tid) (same_node tid.home to) (wide.past tid) (λ its. its) is
  fits_wide nodes from to (messages.Inquire tid) is = both_more (c.past tid) (same_node tid.home to) (d.past tid) (same_node tid.home to) (wide.past tid) (λ its. its) is

  pub record_wide : (rec : Record) → is_tidy_record c rec ≡ true → is_tidy_record d rec ≡ true
  record_wide rec is = subst (λ (s : Rattle.qs_node_step.specs.declared.setting.Setting.Setting). fits_record d.past s.node rec ≡ true) (sym wide.setting) (by rec is)
    where
      by : (rec : Record) → fits_record c.past c.setting.node rec ≡ true → fits_record d.past c.setting.node rec ≡ true
      by (records.Prepare tid server covers changes) is = both_more (c.past tid) _ (d.past tid) _ (wide.past tid) (λ its. its) is
      by (records.Commit tid told) is = both_more (c.past tid) (is_list_at c.setting.node tid told) (d.past tid) (is_list_at c.setting.node tid told) (wide.past tid) (λ its. its) is
      by (records.Aborted tid) is = wide.past tid is
      by (records.End tid) is = wide.past tid is

  sending_wide : (sending : Sending) → is_tidy_sending c sending ≡ true → is_tidy_sending d sending ≡ true
  sending_wide sending is = subst (λ (s : Rattle.qs_node_step.specs.declared.setting.Setting.Setting). (is_other s sending.to && fits d.past d.begun s.nodes s.node sending.to sending.message) ≡ true) (sym wide.setting)
      (both_more (is_other c.setting sending.to) (fits c.past c.begun c.setting.nodes c.setting.node sending.to sending.message) (is_other c.setting sending.to) (fits d.past d.begun c.setting.nodes c.setting.node sending.to sending.message) (λ its. its)
      (fits_wide c.setting.nodes c.setting.node sending.to sending.message) is)

  pub out_wide : (out : Rattle.qs_node_step.specs.declared.event.Effects.Effects) → IsTidyOut c out → IsTidyOut d out
  out_wide out is = record { messages = all_implied (is_tidy_sending c) (is_tidy_sending d) sending_wide out.messages is.messages; records = all_implied (is_tidy_record c) (is_tidy_record d) record_wide out.records is.records }

  -- a node that gave as many numbers
  pub node_wide : (node : NodeValue) → d.count ≡ c.count → IsTidyNode c node → IsTidyNode d node
  node_wide node counts n = record {
    setting = n.setting ∙ sym wide.setting;
    own = n.own ∙ ap (λ (s : Rattle.qs_node_step.specs.declared.setting.Setting.Setting). s.node) (sym wide.setting);
    inc = n.inc ∙ ap (λ (s : Rattle.qs_node_step.specs.declared.setting.Setting.Setting). s.inc) (sym wide.setting);
    count = n.count ∙ sym counts;
    ordered = n.ordered;
    known = all_implied (is_tidy_part c) (is_tidy_part d) part_wide node.manager.known n.known;
    apart = n.apart;
    waiting = all_implied (is_begun_queue c) (is_begun_queue d) queue_wide node.queues n.waiting;
    labels = all_implied (is_tidy_label c) (is_tidy_label d) label_wide node.kept.now.labels n.labels;
    loans = all_implied (is_tidy_loan c) (is_tidy_loan d) loan_wide node.kept.now.loans n.loans;
    outcomes = all_implied (is_tidy_outcome c) (is_tidy_outcome d) outcome_wide node.kept.now.outcomes n.outcomes;
    commands = subst (λ (s : Rattle.qs_node_step.specs.declared.setting.Setting.Setting). list_all (λ (entry : ClientNo × Rattle.qs_node_step.specs.declared.state.OpenCommand.OpenCommand). Rattle.qs_world_refine.specs.Begun.may_command s.nodes entry.1.line.command) node.commands ≡ true) (sym wide.setting) n.commands;
    kinds = n.kinds;
    committed = all_implied c.past d.past wide.past node.committed n.committed;
    crossed = n.crossed;
  }

  pub tidy_wide : (work : Work) → d.count ≡ c.count → IsTidy c work → IsTidy d work
  tidy_wide work counts t = record { node = node_wide work.node counts t.node; begun = t.begun; out = out_wide work.out t.out }

  -- ---- a client begins a transaction, whose number is new

  module _ (counts : d.count ≡ c.count + 1) (node : NodeValue) (n : IsTidyNode c node) (fresh : c.past (tm.next_tid node.manager) ≡ false) (its : d.past (tm.next_tid node.manager) ≡ true) (client : ClientNo) where
    abbrev next : Tid
    next = tm.next_tid node.manager

    abbrev begun_node : NodeValue
    begun_node = record node { manager = tm.begin client node.manager }

    new : tm.part_of next node.manager ≡ None
    new = by (tm.part_of next node.manager) refl
      where
        by : (o : Option Participant) → tm.part_of next node.manager ≡ o → o ≡ None
        by None none = refl
        by (Some part) known = absurd (
            let past : c.past next ≡ true = (and_both (c.past next) _ (and_both (c.past next && same_flag part.engage.home (same_node next.home c.setting.node)) _ (all_found next (is_tidy_part c) node.manager.known part known n.known)).0).0 in cc (past, fresh))

    unkept : kept_outcome next node ≡ None
    unkept = by (kept_outcome next node) refl
      where
        by : (o : Option Decided) → kept_outcome next node ≡ o → o ≡ None
        by None none = refl
        by (Some decided) found = absurd (
            let past : c.past decided.tid ≡ true = (and_both (c.past decided.tid) _ (Rattle.qs_world_refine.proofs.Entries.one_found (is_outcome_of next) (is_tidy_outcome c) node.kept.now.outcomes decided found n.outcomes)).0 in
            let same : same_tid next decided.tid ≡ true = Rattle.qs_world_refine.proofs.Entries.found_is (is_outcome_of next) node.kept.now.outcomes decided found in
            let it : next ≡ decided.tid = Rattle.qs_world_refine.proofs.SoundKnown.same_is next decided.tid same in
            let known : c.past next ≡ true = subst (λ (t : Tid). c.past t ≡ true) (sym it) past in cc (known, fresh))

    crossed : IsCrossed begun_node
    crossed = record {
      owned = owned_on node begun_node owns node.kept.now.labels n.crossed.owned;
      commits = λ t part now here its. commit t part here its (put_seen t next (begun_participant client node.manager.ticks) counted part now);
      fresh = λ t part now open_now. free t part open_now (put_seen t next (begun_participant client node.manager.ticks) counted part now);
      pasts = λ t here names low. past t here names (same_tid t next) refl low;
      earlier = λ t part now home later. early t part home later (put_seen t next (begun_participant client node.manager.ticks) counted part now);
    }
      where
        -- the new one begins here
        begins : began_here node next ≡ true
        begins = both_and (same_node next.home node.setting.node) (next.inc == node.setting.inc) at.0 at.1
          where
            at : (same_node next.home node.setting.node ≡ true) × ((next.inc == node.setting.inc) ≡ true)
            at = (
              subst (λ (s : Rattle.qs_node_step.specs.declared.setting.Setting.Setting). same_node node.manager.node s.node ≡ true) (sym n.setting) (subst (λ (m : NodeNo). same_node m c.setting.node ≡ true) (sym n.own) (grind (arith, nat_tests))),
              subst (λ (s : Rattle.qs_node_step.specs.declared.setting.Setting.Setting). (node.manager.inc == s.inc) ≡ true) (sym n.setting) (subst (λ (k : ℕ). (k == c.setting.inc) ≡ true) (sym n.inc) (grind (arith, nat_tests))),
            )

        counted : Manager
        counted = record node.manager { begun = node.manager.begun + 1 }

        early : (t : Tid) (part : Participant) → same_node t.home node.setting.node ≡ true → began_here node t ≡ false → (IsSame t next counted (tm.begin client node.manager) part ⊎ IsPut t next (begun_participant client node.manager.ticks) part) → is_settled part.outcome (list_any (same_tid t) node.committed) ≡ true
        early t part home later (inl same) = n.crossed.earlier t part same.was home later
        early t part home later (inr put) = absurd (let on : began_here node t ≡ true = subst (λ (u : Tid). began_here node u ≡ true) (sym put.same) begins in cc (on, later))

        owns : (t : Tid) → is_owned node t ≡ true → is_owned begun_node t ≡ true
        owns t owned = by (or_cases (is_some (kept_outcome t node)) (tm.told_of t false is_run node.manager) owned) (same_tid t next) refl
          where
            by : ((is_some (kept_outcome t node) ≡ true) ⊎ (tm.told_of t false is_run node.manager ≡ true)) → (b : Bool) → same_tid t next ≡ b → is_owned begun_node t ≡ true
            by (inl kept) b same = or_left (is_some (kept_outcome t node)) _ kept
            by (inr runs) true same = absurd (
                let part : (part : Participant) × ((tm.part_of t node.manager ≡ Some part) × (is_run part ≡ true)) = told_is is_run t node.manager runs in
                let was : tm.part_of next node.manager ≡ Some part.0 = subst (λ (u : Tid). tm.part_of u node.manager ≡ Some part.0) (Rattle.qs_world_refine.proofs.SoundKnown.same_is t next same) part.1.0 in cc (was, new))
            by (inr runs) false apart =
                let part : (part : Participant) × ((tm.part_of t node.manager ≡ Some part) × (is_run part ≡ true)) = told_is is_run t node.manager runs in
                or_right (is_some (kept_outcome t node)) (tm.told_of t false is_run (tm.begin client node.manager)) (as_told is_run t (tm.begin client node.manager) part.0 (Rattle.qs_world_refine.proofs.Others.put_apart t next (begun_participant client node.manager.ticks) counted apart ∙ part.1.0) part.1.1)

        commit : (t : Tid) (part : Participant) → began_here node t ≡ true → part.outcome ≡ Some outcomes.Commit → (IsSame t next counted (tm.begin client node.manager) part ⊎ IsPut t next (begun_participant client node.manager.ticks) part) → was_committed t node ≡ true
        commit t part here its (inl same) = n.crossed.commits t part same.was here its
        commit t part here its (inr put) = absurd (let none : part.outcome ≡ None = ap (λ (p : Participant). p.outcome) put.now in cc (none, its))

        free : (t : Tid) (part : Participant) → part.outcome ≡ None → (IsSame t next counted (tm.begin client node.manager) part ⊎ IsPut t next (begun_participant client node.manager.ticks) part) → kept_outcome t node ≡ None
        free t part open_now (inl same) = n.crossed.fresh t part same.was open_now
        free t part open_now (inr put) = subst (λ (u : Tid). kept_outcome u node ≡ None) (sym put.same) unkept

        -- numbers up to the new one
        low_one : (t : Tid) → same_tid t next ≡ false → began_here node t ≡ true → node.manager.node ≡ node.setting.node → node.manager.inc ≡ node.setting.inc → t.seq ≤ node.manager.begun + 1 → t.seq ≤ node.manager.begun
        low_one t apart here own inc low = grind (arith, nat_tests, apart, at.0, at.1, low, home, inc)
          where
            at : (same_node t.home node.setting.node ≡ true) × ((t.inc == node.setting.inc) ≡ true)
            at = and_both (same_node t.home node.setting.node) (t.inc == node.setting.inc) here

            home : node.manager.node.0 ≡ node.setting.node.0
            home = ap (λ (m : NodeNo). m.0) own

        past : (t : Tid) → began_here node t ≡ true → names_transaction t ≡ true → (b : Bool) → same_tid t next ≡ b → t.seq ≤ node.manager.begun + 1 → (tm.knows t (tm.begin client node.manager) || was_committed t node) ≡ true
        past t here names true same low = or_left (tm.knows t (tm.begin client node.manager)) (was_committed t node)
            (subst (λ (u : Tid). tm.knows u (tm.begin client node.manager) ≡ true) (sym (Rattle.qs_world_refine.proofs.SoundKnown.same_is t next same))
            (as_known next (tm.begin client node.manager) (begun_participant client node.manager.ticks) (Rattle.qs_world_refine.proofs.Maps.lookup_put Rattle.qs_base.specs.Order.tid_cmp next (begun_participant client node.manager.ticks) (grind (arith, nat_tests)) node.manager.known)))
        past t here names false apart low = old (or_cases (tm.knows t node.manager) (was_committed t node) (n.crossed.pasts t here names (low_one t apart here (n.own ∙ ap (λ (s : Rattle.qs_node_step.specs.declared.setting.Setting.Setting). s.node) (sym n.setting)) (n.inc ∙ ap (λ (s : Rattle.qs_node_step.specs.declared.setting.Setting.Setting). s.inc) (sym n.setting)) low)))
          where
            old : ((tm.knows t node.manager ≡ true) ⊎ (was_committed t node ≡ true)) → (tm.knows t (tm.begin client node.manager) || was_committed t node) ≡ true
            old (inl knows) = let part : (part : Participant) × (tm.part_of t node.manager ≡ Some part) = is_known t node.manager knows in
                or_left (tm.knows t (tm.begin client node.manager)) (was_committed t node) (put_known t next (begun_participant client node.manager.ticks) counted part.0 part.1)
            old (inr committed) = or_right (tm.knows t (tm.begin client node.manager)) (was_committed t node) committed

    next_part : is_tidy_part d (next, begun_participant client node.manager.ticks) ≡ true
    next_part = both_and (d.past next && same_flag true (same_node node.manager.node d.setting.node)) true
        (both_and (d.past next) _ its (subst (λ (m : NodeNo). same_node m d.setting.node ≡ true) (sym (n.own ∙ ap (λ (s : Rattle.qs_node_step.specs.declared.setting.Setting.Setting). s.node) (sym wide.setting))) (itself d.setting.node))) refl
      where
        itself : (m : NodeNo) → same_node m m ≡ true
        itself m = grind (arith, nat_tests)

    pub begun_tidy : IsTidyNode d begun_node
    begun_tidy = record {
      setting = n.setting ∙ sym wide.setting;
      own = n.own ∙ ap (λ (s : Rattle.qs_node_step.specs.declared.setting.Setting.Setting). s.node) (sym wide.setting);
      inc = n.inc ∙ ap (λ (s : Rattle.qs_node_step.specs.declared.setting.Setting.Setting). s.inc) (sym wide.setting);
      count = ap (λ (k : ℕ). k + 1) n.count ∙ sym counts;
      ordered = order_put next (begun_participant client node.manager.ticks) node.manager.known n.ordered;
      known = all_put next (begun_participant client node.manager.ticks) (is_tidy_part d) node.manager.known next_part (all_implied (is_tidy_part c) (is_tidy_part d) part_wide node.manager.known n.known);
      apart = n.apart;
      waiting = all_implied (is_begun_queue c) (is_begun_queue d) queue_wide node.queues n.waiting;
      labels = all_implied (is_tidy_label c) (is_tidy_label d) label_wide node.kept.now.labels n.labels;
      loans = all_implied (is_tidy_loan c) (is_tidy_loan d) loan_wide node.kept.now.loans n.loans;
      outcomes = all_implied (is_tidy_outcome c) (is_tidy_outcome d) outcome_wide node.kept.now.outcomes n.outcomes;
      commands = subst (λ (s : Rattle.qs_node_step.specs.declared.setting.Setting.Setting). list_all (λ (entry : ClientNo × Rattle.qs_node_step.specs.declared.state.OpenCommand.OpenCommand). Rattle.qs_world_refine.specs.Begun.may_command s.nodes entry.1.line.command) node.commands ≡ true) (sym wide.setting) n.commands;
      kinds = n.kinds;
      committed = all_implied c.past d.past wide.past node.committed n.committed;
      crossed = crossed;
    }

    -- it runs here
    pub begun_runs : tm.told_of next false is_run begun_node.manager ≡ true
    begun_runs = as_told is_run next begun_node.manager (begun_participant client node.manager.ticks) (Rattle.qs_world_refine.proofs.Maps.lookup_put Rattle.qs_base.specs.Order.tid_cmp next (begun_participant client node.manager.ticks) (grind (arith, nat_tests)) node.manager.known) refl
