-- A node stays sound where a client begins a transaction there.
use Rattle.qs_world_refine.proofs.Words.{◌≡◌, ℕ, ◌+◌, ◌==◌, ◌&&◌, ◌||◌, not, Bool, true, false, List, [], ◌∷◌, ◌++◌, Option, Some, None, nat_le, refl, ap, subst, ◌∙◌, arith, list_all, lookup, insert_entry, is_at, Ordering, Less, Equal, Greater, nat_tests, tid_exact, tid_cmp, same_tid, Tid, same_node, ScriptLine, is_abort, begun_participant, is_undecided, BeginFault, Participant, was_committed, enter, refuse_begin, begin_or_refuse, put_label, NodeValue, Work, with_manager, is_sound, fits_setting}
use Rattle.qs_world_refine.proofs.Words.{in_order, is_less, is_sound_part, is_sound_queue, is_sound_delivery, is_sound_loan, is_sound_label, may_be_served, is_past, where_so, is_sound_home, is_whole, is_sound_peer, is_sound_member, same_flag, is_sound_superior, is_engaged, tells_nobody, StaysSound, began_here}
use Rattle.qs_engage.specs.Nodes.{all_nodes, has_node}
use Rattle.qs_book_journal.specs.declared.entry.Act.TheVariants as acts
use Rattle.qs_node_kept.specs.declared.kept.KeptLabel.{KeptLabel}
use Rattle.qs_ops.specs.declared.answer.Answer.TheVariants as answers
use Rattle.qs_tm.specs.Manager as tm
use Rattle.qs_tm.specs.Members.{all_servers}
use Rattle.qs_tm.specs.declared.manager.BeginFault.TheVariants as faults
use Rattle.qs_world_refine.specs.Sound.{is_idle, is_sound_log}
use Rattle.qs_world_refine.specs.SoundLaws.{BeginSound, BeginCommandSound}
use Rattle.qs_world_refine.proofs.Maps.{lookup_put}
use Rattle.qs_world_refine.proofs.Others.{put_apart}
use Rattle.qs_world_refine.proofs.SoundParts.{and_both, both_and}
use Rattle.qs_world_refine.proofs.SoundRules.{answer_sound}
use Rattle.qs_world_refine.proofs.StartWorlds.{nobody}

pub all_implied : {X : Type 0} (p q : X → Bool) → ((x : X) → p x ≡ true → q x ≡ true) → (xs : List X) → list_all p xs ≡ true → list_all q xs ≡ true
all_implied p q more [] all = refl
all_implied p q more (x ∷ xs) all = let is : (p x ≡ true) × (list_all p xs ≡ true) = and_both (p x) (list_all p xs) all in both_and (q x) (list_all q xs) (more x is.0) (all_implied p q more xs is.1)

pub all_last : {X : Type 0} (p : X → Bool) (xs : List X) (x : X) → list_all p xs ≡ true → p x ≡ true → list_all p (xs ++ x ∷ []) ≡ true
all_last p [] x all is = rw is refl
all_last p (y ∷ xs) x all is = let first : (p y ≡ true) × (list_all p xs ≡ true) = and_both (p y) (list_all p xs) all in both_and (p y) (list_all p (xs ++ x ∷ [])) first.0 (all_last p xs x first.1 is)

-- ---- an entry is put into what is in order

module _ (k : Tid) (v : Participant) where
  pub all_put : (q : Tid × Participant → Bool) (es : List (Tid × Participant)) → q (k, v) ≡ true → list_all q es ≡ true → list_all q (insert_entry tid_cmp es k v) ≡ true
  all_put q [] new all = rw new refl
  all_put q (e ∷ es) new all = by (tid_cmp k e.0) refl (all_put q es new (and_both (q e) (list_all q es) all).1)
    where
      by : (r : Ordering) → tid_cmp k e.0 ≡ r → list_all q (insert_entry tid_cmp es k v) ≡ true → list_all q (insert_entry tid_cmp (e ∷ es) k v) ≡ true
      by Less is more = rw is (both_and (q (k, v)) (list_all q (e ∷ es)) new all)
      by Equal is more = rw is (both_and (q (e.0, v)) (list_all q es) (subst (λ (t : Tid). q (t, v) ≡ true) (tid_exact k e.0 is) new) (and_both (q e) (list_all q es) all).1)
      by Greater is more = rw is (both_and (q e) (list_all q (insert_entry tid_cmp es k v)) (and_both (q e) (list_all q es) all).0 more)

  turned : (t : Tid) → tid_cmp k t ≡ Greater → is_less (tid_cmp t k) ≡ true
  turned t is = grind (arith, nat_tests, is)

  pub order_put : (es : List (Tid × Participant)) → in_order es ≡ true → in_order (insert_entry tid_cmp es k v) ≡ true
  order_put [] ordered = refl
  order_put (e ∷ []) ordered = by (tid_cmp k e.0) refl
    where
      by : (r : Ordering) → tid_cmp k e.0 ≡ r → in_order (insert_entry tid_cmp (e ∷ []) k v) ≡ true
      by Less is = rw (is, is) refl
      by Equal is = rw is refl
      by Greater is = rw is (both_and (is_less (tid_cmp e.0 k)) true (turned e.0 is) refl)
  order_put (e ∷ (next ∷ rest)) ordered = by (tid_cmp k e.0) (tid_cmp k next.0) refl refl (order_put (next ∷ rest) (and_both (is_less (tid_cmp e.0 next.0)) (in_order (next ∷ rest)) ordered).1)
    where
      by : (r s : Ordering) → tid_cmp k e.0 ≡ r → tid_cmp k next.0 ≡ s → in_order (insert_entry tid_cmp (next ∷ rest) k v) ≡ true → in_order (insert_entry tid_cmp (e ∷ (next ∷ rest)) k v) ≡ true
      by Less s is has more = rw is (both_and (is_less (tid_cmp k e.0)) (in_order (e ∷ (next ∷ rest))) (rw is refl) ordered)
      by Equal s is has more = rw is ordered
      by Greater Less is has more = rw (is, has) (both_and (is_less (tid_cmp e.0 k)) _ (turned e.0 is) (rw has at more))
      by Greater Equal is has more = rw (is, has) (both_and (is_less (tid_cmp e.0 next.0)) _ (and_both (is_less (tid_cmp e.0 next.0)) (in_order (next ∷ rest)) ordered).0 (rw has at more))
      by Greater Greater is has more = rw (is, has) (both_and (is_less (tid_cmp e.0 next.0)) _ (and_both (is_less (tid_cmp e.0 next.0)) (in_order (next ∷ rest)) ordered).0 (rw has at more))

-- ---- the transaction begins

module _ (line : ScriptLine) (work : Work) where
  abbrev node : NodeValue
  node = work.node

  abbrev tid : Tid
  tid = tm.next_tid node.manager

  abbrev begun : Participant
  begun = begun_participant line.client node.manager.ticks

  abbrev mid : NodeValue
  mid = (with_manager (tm.begin line.client) work).node

  abbrev label : KeptLabel
  label = record { label = line.label; tid = Some tid; owner = Some line.client }

  module _ (sound : is_sound node ≡ true) where
    front : ((fits_setting node && (in_order node.manager.known && list_all (is_sound_part node) node.manager.known)) ≡ true)
        × ((list_all (is_sound_queue node) node.queues && (list_all (is_sound_loan node) node.kept.now.loans && list_all (is_sound_label node) node.kept.now.labels)) ≡ true)
    front = and_both (fits_setting node && (in_order node.manager.known && list_all (is_sound_part node) node.manager.known)) _ sound

    fits : fits_setting node ≡ true
    fits = (and_both (fits_setting node) _ front.0).0

    ordered : in_order node.manager.known ≡ true
    ordered = (and_both (in_order node.manager.known) _ (and_both (fits_setting node) _ front.0).1).0

    parts : list_all (is_sound_part node) node.manager.known ≡ true
    parts = (and_both (in_order node.manager.known) _ (and_both (fits_setting node) _ front.0).1).1

    node_is : same_node node.manager.node node.setting.node ≡ true
    node_is = grind (arith, nat_tests, fits)

    inc_is : (node.manager.inc == node.setting.inc) ≡ true
    inc_is = grind (arith, nat_tests, fits)

    -- more may have begun
    part_stays : (e : Tid × Participant) → is_sound_part node e ≡ true → is_sound_part mid e ≡ true
    part_stays e is = kept ((is_whole e.1 && same_flag e.1.engage.home (same_node e.0.home node.setting.node)) && (list_all (is_sound_peer node e.1) all_nodes && (list_all (is_sound_member e.1) all_servers && is_sound_superior node e.1))) (not (has_node e.1.told e.0.home)) (where_so (not e.1.engage.home && (is_undecided e.1 && not (is_engaged e.1))) (is_idle node e.0 e.1)) (is_sound_log e.1 && tells_nobody e.1) (is_sound_home node e.0 e.1) (is_sound_home mid e.0 e.1) later is
      where
        kept : (a b c d h k : Bool) → (h ≡ true → k ≡ true) → (a && ((b && (c && h)) && d)) ≡ true → (a && ((b && (c && k)) && d)) ≡ true
        kept true true true true true k more is = rw (more refl) refl
        kept true true true true false k more is = absurd (cc (is))
        kept true true true false true k more is = absurd (cc (is))
        kept true true true false false k more is = absurd (cc (is))
        kept true true false d h k more is = absurd (cc (is))
        kept true false c d h k more is = absurd (cc (is))
        kept false b c d h k more is = absurd (cc (is))

        later : is_sound_home node e.0 e.1 ≡ true → is_sound_home mid e.0 e.1 ≡ true
        later is = by (e.1.engage.home && is_undecided e.1) is
          where
            by : (b : Bool) → where_so b ((e.0.inc == node.setting.inc) && nat_le e.0.seq node.manager.begun) ≡ true → where_so b ((e.0.inc == node.setting.inc) && nat_le e.0.seq (node.manager.begun + 1)) ≡ true
            by false is = refl
            by true is = grind (arith, nat_tests, is)

    peers_sound : list_all (is_sound_peer mid begun) all_nodes ≡ true
    unfolding all_nodes
    peers_sound = refl

    members_sound : list_all (is_sound_member begun) all_servers ≡ true
    unfolding all_servers
    members_sound = refl

    own_home : is_sound_home mid tid begun ≡ true
    own_home = grind (arith, nat_tests, inc_is)

    begun_sound : is_sound_part mid (tid, begun) ≡ true
    begun_sound = rw (peers_sound, members_sound, node_is, nobody tid.home.0, own_home) refl

    -- what may be served, and what is past, stays so
    serves : (t : Tid) → may_be_served node t ≡ true → may_be_served mid t ≡ true
    serves t is = by (same_tid t tid) refl
      where
        served_as : Option Participant → Bool
        served_as o = elim o [ None ↦ false | Some p ↦ is_undecided p || is_abort p.outcome ]

        by : (b : Bool) → same_tid t tid ≡ b → may_be_served mid t ≡ true
        by true same = subst (λ (u : Tid). may_be_served mid u ≡ true) (tid_exact tid t (grind (arith, nat_tests, same)))
            (ap served_as (lookup_put tid_cmp tid begun (grind (arith, nat_tests)) node.manager.known))
        by false apart = ap served_as (put_apart t tid begun (record node.manager { begun = node.manager.begun + 1 }) apart) ∙ is

    knows_now : tm.knows tid mid.manager ≡ true
    knows_now = ap (λ (o : Option Participant). Rattle.std.specs.Prelude.is_some o) (lookup_put tid_cmp tid begun (grind (arith, nat_tests)) node.manager.known)

    past_now : is_past mid tid ≡ true
    past_now = by (began_here node tid) (tm.knows tid mid.manager) knows_now (was_committed tid node)
      where
        by : (b c : Bool) → c ≡ true → (d : Bool) → where_so (b && not c) d ≡ true
        by true c is d = rw is refl
        by false c is d = refl

    past : (t : Tid) → is_past node t ≡ true → is_past mid t ≡ true
    past t is = by (same_tid t tid) refl
      where
        by : (b : Bool) → same_tid t tid ≡ b → is_past mid t ≡ true
        by true same = subst (λ (u : Tid). is_past mid u ≡ true) (tid_exact tid t (grind (arith, nat_tests, same))) past_now
        by false apart = ap (λ (o : Option Participant). where_so (began_here node t && not (Rattle.std.specs.Prelude.is_some o)) (was_committed t node)) (put_apart t tid begun (record node.manager { begun = node.manager.begun + 1 }) apart) ∙ is

    queues_stay : list_all (is_sound_queue node) node.queues ≡ true → list_all (is_sound_queue mid) node.queues ≡ true
    queues_stay = all_implied (is_sound_queue node) (is_sound_queue mid) (λ queue. all_implied (is_sound_delivery node queue.0) (is_sound_delivery mid queue.0) (λ delivery is. kept _ (may_be_served node delivery.tid) (may_be_served mid delivery.tid) _ (serves delivery.tid) is) queue.1.waiting) node.queues
      where
        kept : (a h k d : Bool) → (h ≡ true → k ≡ true) → (a && (h && d)) ≡ true → (a && (k && d)) ≡ true
        kept true true k true more is = rw (more refl) refl
        kept true true k false more is = absurd (cc (is))
        kept true false k d more is = absurd (cc (is))
        kept false h k d more is = absurd (cc (is))

    loans_stay : list_all (is_sound_loan node) node.kept.now.loans ≡ true → list_all (is_sound_loan mid) node.kept.now.loans ≡ true
    loans_stay = all_implied (is_sound_loan node) (is_sound_loan mid) (λ loan. kept (Rattle.qs_node_kept.specs.Loans.is_standing_loan loan.tid node.setting.inc loan) (may_be_served node loan.tid) (may_be_served mid loan.tid) (serves loan.tid)) node.kept.now.loans
      where
        kept : (b h k : Bool) → (h ≡ true → k ≡ true) → where_so b h ≡ true → where_so b k ≡ true
        kept true h k more is = more is
        kept false h k more is = refl

    labels_stay : list_all (is_sound_label node) node.kept.now.labels ≡ true → list_all (is_sound_label mid) (node.kept.now.labels ++ label ∷ []) ≡ true
    labels_stay all = all_last (is_sound_label mid) node.kept.now.labels label (all_implied (is_sound_label node) (is_sound_label mid) (λ begun. by begun.tid) node.kept.now.labels all) past_now
      where
        by : (o : Option Tid) → ◌≡◌ {A = Bool} (elim o [ None ↦ true | Some t ↦ is_past node t ]) true → ◌≡◌ {A = Bool} (elim o [ None ↦ true | Some t ↦ is_past mid t ]) true
        by None is = refl
        by (Some t) is = past t is

    abbrev entered : Work
    entered = enter (acts.Begin tid line.label line.client) (put_label label (with_manager (tm.begin line.client) work))

    entered_sound : is_sound entered.node ≡ true
    entered_sound =
        let back : (list_all (is_sound_queue node) node.queues ≡ true) × ((list_all (is_sound_loan node) node.kept.now.loans && list_all (is_sound_label node) node.kept.now.labels) ≡ true) = and_both (list_all (is_sound_queue node) node.queues) _ front.1 in
        let ends : (list_all (is_sound_loan node) node.kept.now.loans ≡ true) × (list_all (is_sound_label node) node.kept.now.labels ≡ true) = and_both (list_all (is_sound_loan node) node.kept.now.loans) _ back.1 in
        both_and (fits_setting mid && (in_order mid.manager.known && list_all (is_sound_part mid) mid.manager.known)) _
        (both_and (fits_setting mid) _ fits (both_and (in_order mid.manager.known) _ (order_put tid begun node.manager.known ordered)
        (all_put tid begun (is_sound_part mid) node.manager.known begun_sound (all_implied (is_sound_part node) (is_sound_part mid) part_stays node.manager.known parts))))
        (both_and (list_all (is_sound_queue mid) node.queues) _ (queues_stay back.0)
        (both_and (list_all (is_sound_loan mid) node.kept.now.loans) _ (loans_stay ends.0) (labels_stay ends.1)))

pub begin_sound : BeginSound
begin_sound line work sound = answer_sound line.client answers.Done (entered line work sound) (entered_sound line work sound)

-- ---- the whole command

-- a label under which nothing began
refused_sound : (line : ScriptLine) (need room : ℕ) (work : Work) → StaysSound work (refuse_begin line need room work)
refused_sound line need room work sound = answer_sound line.client (answers.LogFull need room) labelled labelled_sound
  where
    labelled : Work
    labelled = put_label (record { label = line.label; tid = None; owner = Some line.client }) work

    front : ((fits_setting work.node && (in_order work.node.manager.known && list_all (is_sound_part work.node) work.node.manager.known)) ≡ true)
        × ((list_all (is_sound_queue work.node) work.node.queues && (list_all (is_sound_loan work.node) work.node.kept.now.loans && list_all (is_sound_label work.node) work.node.kept.now.labels)) ≡ true)
    front = and_both (fits_setting work.node && (in_order work.node.manager.known && list_all (is_sound_part work.node) work.node.manager.known)) _ sound

    labelled_sound : is_sound labelled.node ≡ true
    labelled_sound =
        let back : (list_all (is_sound_queue work.node) work.node.queues ≡ true) × ((list_all (is_sound_loan work.node) work.node.kept.now.loans && list_all (is_sound_label work.node) work.node.kept.now.labels) ≡ true) = and_both (list_all (is_sound_queue work.node) work.node.queues) _ front.1 in
        let ends : (list_all (is_sound_loan work.node) work.node.kept.now.loans ≡ true) × (list_all (is_sound_label work.node) work.node.kept.now.labels ≡ true) = and_both (list_all (is_sound_loan work.node) work.node.kept.now.loans) _ back.1 in
        both_and (fits_setting work.node && (in_order work.node.manager.known && list_all (is_sound_part work.node) work.node.manager.known)) _ front.0
        (both_and (list_all (is_sound_queue work.node) work.node.queues) _ back.0
        (both_and (list_all (is_sound_loan work.node) work.node.kept.now.loans) _ ends.0
        (all_last (is_sound_label work.node) work.node.kept.now.labels (record { label = line.label; tid = None; owner = Some line.client }) ends.1 refl)))

pub begin_command_sound : BeginCommandSound
begin_command_sound line work sound = by (tm.begin_fault work.room work.node.manager)
  where
    by : (fault : Option BeginFault) → is_sound (begin_or_refuse line fault work).node ≡ true
    by None = begin_sound line work sound
    by (Some (faults.LogFull need room)) = refused_sound line need room work sound
    by (Some (faults.Last number)) = sound
    by (Some faults.NoMemory) = sound
