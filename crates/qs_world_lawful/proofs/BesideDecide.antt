-- A home decides: what the machine has beside the node stands on, and what it commits is kept so for its owner.
use Rattle.qs_world_lawful.proofs.Words.{◌≡◌, ◌⊎◌, inl, inr, ℕ, Bool, true, false, List, [], ◌∷◌, ◌++◌, Option, Some, None, refl, sym, ap, subst, ◌∙◌, ◌<◌, ◌^◌, ◌==◌, find, list_any, option_map, ◌||◌, is_some, slice_get, same_tid, same_tid-self, ClientNo, NodeNo, Outcome, Tid, Act, is_outcome_of, Decided, changed_at_alike, held, BookValue, find_transaction, owner_of, told, told_owner, broken_decide, may_decide, broken, effect, TransactionValue, cell_of, decided_at, is_commit, is_open, Owner, Cell}
use Rattle.qs_world_lawful.proofs.Words.{Cause, Record, is_kept_commit, kept_outcome, enter, log_if, send_each, tid_of, give_notices, keep_outcome, Work, with_manager, Decision, has_noted, is_count, Outstanding, Participant, entry_of, InRun, HasOwner, HoldsBeside, HoldsEnded, HoldsNotes, HoldsPart, HoldsStranger, IsTrueCause, awaits_count, is_note_with, book_at}
use Rattle.qs_base.specs.declared.identifiers.Outcome.TheVariants as outcomes
use Rattle.qs_book_journal.specs.declared.entry.Act.TheVariants as acts
use Rattle.qs_book_machine.specs.Transaction.{is_abort}
use Rattle.qs_book_machine.specs.declared.transaction.Cell.TheVariants as cells
use Rattle.qs_packet.specs.declared.message.Message.TheVariants as messages
use Rattle.qs_node_step.specs.Answering.{was_committed}
use Rattle.qs_node_step.specs.Deciding.{decide}
use Rattle.qs_node_step.specs.State.{NodeValue}
use Rattle.qs_tm.specs.Manager as tm
use Rattle.qs_tm.specs.Outcomes as outcome_rules
use Rattle.qs_world_lawful.proofs.Apart.{Apart, same_or_apart}
use Rattle.qs_world_lawful.proofs.BesideActs.{others_changed}
use Rattle.qs_world_lawful.proofs.BesideGoes.{Goes, goes_entry, goes_self, goes_sends, goes_then}
use Rattle.qs_world_lawful.proofs.BesideLearnt.{Ended, goes_notices, no_notices, notices_still}
use Rattle.qs_world_lawful.proofs.BesideOwn.{beside_one, found_changed, own_by}
use Rattle.qs_world_lawful.proofs.BesideParts.{CommittedOn, notes_on, part_ended, with_setting}
use Rattle.qs_world_lawful.proofs.BesidePlain.{MachineOn}
use Rattle.qs_world_lawful.proofs.Faces.{part_apart, part_changed, part_unknown}
use Rattle.qs_world_lawful.proofs.LogActs.{acting}
use Rattle.qs_world_lawful.proofs.Steps.{tx_apart}
use Rattle.qs_world_lawful.proofs.Truths.{clash, of_some, right_true}
use Rattle.qs_world_lawful.proofs.DecidedOutcomes.{committed_more, decision_of, found_last, made_of, outcome_is, outcome_said}

module _ (stamp : ℕ) (before : BookValue) (run : InRun before) where
  abbrev On : Work → Work → Type 0
  On work new = Goes stamp before run work new

  module _ (work : Work) (tid : Tid) (outcome : Outcome) (cause : Option Cause) (rec : Option Record) (its : (r : Record) → rec ≡ Some r → tid_of r ≡ tid) (unkept : outcome ≡ outcomes.Commit → kept_outcome tid work.node ≡ None) where
    abbrev node : NodeValue
    node = work.node

    abbrev own_node : NodeNo
    own_node = node.setting.node

    abbrev inc : ℕ
    inc = node.setting.inc

    abbrev book : BookValue
    book = book_at stamp before work

    abbrev pub decided_work : Work
    decided_work = enter (acts.Decide tid outcome cause) (keep_outcome tid outcome cause (log_if rec (with_manager (tm.decide tid outcome) work)))

    abbrev fresh : NodeValue
    fresh = decided_work.node

    abbrev act : Act
    act = acts.Decide tid outcome cause

    abbrev new : BookValue
    new = effect book (entry_of own_node.0 stamp act)

    abbrev f : TransactionValue → TransactionValue
    f = decided_at book.place outcome cause

    -- whether there is a record or not
    left : {A : Type 0} (g : Work → A) (x : A) → g (with_manager (tm.decide tid outcome) work) ≡ x → ((r : Record) → rec ≡ Some r → g (log_if (Some r) (with_manager (tm.decide tid outcome) work)) ≡ x) → g (log_if rec (with_manager (tm.decide tid outcome) work)) ≡ x
    left g x none some = by rec refl
      where
        by : (o : Option Record) → rec ≡ o → g (log_if o (with_manager (tm.decide tid outcome) work)) ≡ x
        by None is = none
        by (Some r) is = some r is

    setting_is : fresh.setting ≡ node.setting
    setting_is = left (λ w. w.node.setting) node.setting refl (λ r is. refl)

    outcomes_are : fresh.kept.now.outcomes ≡ node.kept.now.outcomes ++ record { tid = tid; outcome = outcome; cause = cause } ∷ []
    outcomes_are = ap (λ (ds : List Decided). ds ++ record { tid = tid; outcome = outcome; cause = cause } ∷ []) (left (λ w. w.node.kept.now.outcomes) node.kept.now.outcomes refl (λ r is. refl))

    committed_are : fresh.committed ≡ node.committed
    committed_are = left (λ w. w.node.committed) node.committed refl (λ r is. refl)

    ticks_are : fresh.servers.timers.timers.ticks ≡ node.servers.timers.timers.ticks
    ticks_are = left (λ w. w.node.servers.timers.timers.ticks) node.servers.timers.timers.ticks refl (λ r is. refl)

    manager_ticks : fresh.manager.ticks ≡ node.manager.ticks
    manager_ticks = left (λ w. w.node.manager.ticks) node.manager.ticks refl (λ r is. refl)

    -- what it keeps then
    pub record KeptThen (p q : Participant) : Type 0 where
      pub outcome_is : q.outcome ≡ Some outcome
      pub noted : q.noted ≡ p.noted
      pub waiting : q.waiting ≡ p.waiting
      pub asked : q.asked ≡ p.asked

    known_then : (p : Participant) → tm.part_of tid node.manager ≡ Some p → (q : Participant) × (tm.part_of tid fresh.manager ≡ Some q) × KeptThen p q
    known_then p known = by rec refl
      where
        once : tm.part_of tid (tm.decide tid outcome node.manager) ≡ Some (outcome_rules.decided outcome p)
        once = part_changed tid (outcome_rules.decided outcome) node.manager p known

        by : (o : Option Record) → rec ≡ o → (q : Participant) × (tm.part_of tid (log_if o (with_manager (tm.decide tid outcome) work)).node.manager ≡ Some q) × KeptThen p q
        by None is = (outcome_rules.decided outcome p, once, record { outcome_is = refl; noted = refl; waiting = refl; asked = refl })
        by (Some r) is = (
          outcome_rules.logged r (outcome_rules.decided outcome p),
          ap (λ (t : Tid). tm.part_of tid (tm.logged t r (tm.decide tid outcome node.manager))) (its r is) ∙ part_changed tid (outcome_rules.logged r) (tm.decide tid outcome node.manager) (outcome_rules.decided outcome p) once,
          record { outcome_is = refl; noted = refl; waiting = refl; asked = refl },
        )

    unknown_then : tm.part_of tid node.manager ≡ None → tm.part_of tid fresh.manager ≡ None
    unknown_then none = left (λ w. tm.part_of tid w.node.manager) None once (λ r is. ap (λ (t : Tid). tm.part_of tid (tm.logged t r (tm.decide tid outcome node.manager))) (its r is) ∙ part_unknown tid (outcome_rules.logged r) (tm.decide tid outcome node.manager) once)
      where
        once : tm.part_of tid (tm.decide tid outcome node.manager) ≡ None
        once = part_unknown tid (outcome_rules.decided outcome) node.manager none

    others : (t : Tid) → Apart tid t → tm.part_of t fresh.manager ≡ tm.part_of t node.manager
    others t far = left (λ w. tm.part_of t w.node.manager) (tm.part_of t node.manager) once
        (λ r is. ap (λ (u : Tid). tm.part_of t (tm.logged u r (tm.decide tid outcome node.manager))) (its r is) ∙ (part_apart tid t (outcome_rules.logged r) (tm.decide tid outcome node.manager) far ∙ once))
      where
        once : tm.part_of t (tm.decide tid outcome node.manager) ≡ tm.part_of t node.manager
        once = part_apart tid t (outcome_rules.decided outcome) node.manager far

    committed_on : (t : Tid) → CommittedOn node fresh t
    committed_on t is = committed_more t node fresh (record { tid = tid; outcome = outcome; cause = cause }) outcomes_are committed_are is

    -- a commit is kept so
    kept_commit : outcome ≡ outcomes.Commit → was_committed tid fresh ≡ true
    kept_commit is = ap (λ (b : Bool). b || list_any (same_tid tid) fresh.committed)
        (ap is_kept_commit (ap (find (is_outcome_of tid)) outcomes_are ∙ found_last (is_outcome_of tid) node.kept.now.outcomes (record { tid = tid; outcome = outcome; cause = cause }) (unkept is) (same_tid-self tid))
        ∙ ap (λ (o : Outcome). elim o [ outcomes.Commit ↦ true | outcomes.Abort ↦ false ]) is)

    module _ (fine : broken book (entry_of own_node.0 stamp act) ≡ None) (causes : (t : Tid) (c : Cause) → IsTrueCause book t c → IsTrueCause new t c) (h : HoldsBeside book node) where
      stands : (tx : TransactionValue) × (find_transaction book tid ≡ Some tx) × (is_open tx.cell ≡ true)
      stands = by (find_transaction book tid) refl (held h.state.up 2 _ (acting book stamp own_node.0 act h.state h.there fine)).1
        where
          by : (o : Option TransactionValue) → find_transaction book tid ≡ o → broken_decide own_node.0 h.state book.nodes tid o stamp outcome cause ≡ None → (tx : TransactionValue) × (find_transaction book tid ≡ Some tx) × (is_open tx.cell ≡ true)
          by None is e = absurd (cc e)
          by (Some tx) is e = (tx, is, right_true (tid.home.0 == own_node.0) (is_open tx.cell) (held (may_decide own_node.0 tid tx) 70 _ e).0)

      module _ (tx : TransactionValue) (found : find_transaction book tid ≡ Some tx) (undecided : is_open tx.cell ≡ true) where
        found_now : find_transaction new tid ≡ Some (f tx)
        found_now = found_changed tid f book new tx refl found

        -- owners stay
        owner_still : (o : Option ClientNo) (client : ClientNo) → is_some (slice_get book.owners client.0) ≡ true → is_some (slice_get (told_owner o outcome cause book.owners) client.0) ≡ true
        owner_still None client is = is
        owner_still (Some owner) client is = by (slice_get book.owners client.0) (slice_get (told_owner (Some owner) outcome cause book.owners) client.0) (changed_at_alike (λ (x : Owner). true) (told outcome cause) (λ x. refl) book.owners owner.0 client.0) is
          where
            by : (a b : Option Owner) → option_map (λ (x : Owner). true) b ≡ option_map (λ (x : Owner). true) a → is_some a ≡ true → is_some b ≡ true
            by None b e is = absurd (cc is)
            by (Some x) None e is = absurd (cc e)
            by (Some x) (Some y) e is = refl

        machine_on : MachineOn book new own_node.0 h.state
        machine_on = record { next = h.state; there = h.there; inc = refl; owners = λ was t l at client owns. owner_still (owner_of (find_transaction book tid)) client (of was t l at client owns (same_or_apart tid t)) }
          where
            of : ((t : Tid) (x : TransactionValue) → find_transaction book t ≡ Some x → HasOwner book x) → (t : Tid) (l : TransactionValue) → find_transaction new t ≡ Some l → (client : ClientNo) → l.owner ≡ Some client → (tid ≡ t) ⊎ Apart tid t
                → is_some (slice_get book.owners client.0) ≡ true
            of was t l at client owns (inl same) = was tid tx found client (ap (λ (x : TransactionValue). x.owner) (of_some (sym found_now ∙ subst (λ (u : Tid). find_transaction new u ≡ Some l) (sym same) at)) ∙ owns)
            of was t l at client owns (inr far) = was t l (sym (tx_apart tid t f book.transactions far) ∙ at) client owns

        known_now : (p : Participant) → tm.part_of tid node.manager ≡ Some p → (q : Participant) × (tm.part_of tid fresh.manager ≡ Some q) × HoldsPart new h.state fresh tid (f tx) q
        known_now p known =
            let k : (q : Participant) × (tm.part_of tid fresh.manager ≡ Some q) × KeptThen p q = known_then p known in
            let w : HoldsPart book h.state node tid tx p = (h.at tid).parts tx p found known in (
              k.0,
              k.1,
              part_ended new h.state fresh tid (f tx) k.0 outcome k.2.outcome_is (outcome_is outcome)
                  (with_setting (λ n i. HoldsNotes n i tid (f tx) k.0) node fresh setting_is (notes_on own_node inc tid tx (f tx) p k.0 refl refl
                  (record { keeps = λ count is. moved count k.2 is }) w.notes))
                  (λ is. w.asked (sym k.2.asked ∙ is)),
            )
          where
            moved : {q : Participant} (count : ℕ) → KeptThen p q → (has_noted count p ≡ true) ⊎ (awaits_count count p ≡ true) → (has_noted count q ≡ true) ⊎ (awaits_count count q ≡ true)
            moved count k (inl noted) = inl (ap (λ (ns : List ℕ). list_any (is_count count) ns) k.noted ∙ noted)
            moved count k (inr waits) = inr (ap (λ (ws : List Outstanding). list_any (is_note_with count) ws) k.waiting ∙ waits)

        not_commit : (c : Cell) → is_open c ≡ true → is_commit c ≡ false
        not_commit cells.Open e = refl
        not_commit cells.Commit e = absurd (cc e)
        not_commit cells.Abort e = absurd (cc e)

        ended_now : (o : Outcome) → outcome ≡ o → HoldsEnded fresh tid (f tx)
        ended_now outcomes.Commit is = record { committed = λ c. kept_commit is; unknown = λ none kept. absurd (clash (sym kept ∙ kept_commit is)) }
        ended_now outcomes.Abort is = record { committed = λ c. absurd (clash (sym (ap (λ (o : Outcome). is_commit (cell_of o)) is) ∙ c)); unknown = λ none kept. ap (λ (o : Outcome). is_abort (cell_of o)) is }

        pub decided_beside : HoldsBeside new fresh
        unfolding machine_on
        decided_beside = beside_one book new node fresh setting_is h machine_on causes tid committed_on others (λ t far is. is) (λ t far. others_changed own_node inc tid t f book new refl far)
            (record { ticks = ticks_are ∙ (h.clock.ticks ∙ sym manager_ticks); room = subst (λ (k : ℕ). k < 2 ^ 62) (sym manager_ticks) h.clock.room })
            (own_by new h.state node fresh tid (f tx) found_now unknown_then known_now
            (λ none open_still. let s : HoldsStranger own_node inc tid tx = (h.at tid).strangers tx found none (not_commit tx.cell undecided) in
            with_setting (λ n i. HoldsStranger n i tid (f tx)) node fresh setting_is (record { unissued = s.unissued; unchanged = s.unchanged }))
            (λ home back. ended_now outcome refl))

    pub goes_entered : On work decided_work
    goes_entered = goes_entry stamp before run work decided_work act setting_is committed_are (ap (λ (es : List Act). es ++ act ∷ []) (left (λ w. w.out.entries) work.out.entries refl (λ r is. refl))) (left (λ w. w.out.messages) work.out.messages refl (λ r is. refl))
        (λ fine inv causes h. let s : (tx : TransactionValue) × (find_transaction book tid ≡ Some tx) × (is_open tx.cell ≡ true) = stands fine causes h in decided_beside fine causes h s.0 s.1 s.2)

    pub ended_then : (p : Participant) → tm.part_of tid node.manager ≡ Some p → Ended stamp before run tid outcome decided_work
    ended_then p known = let k : (q : Participant) × (tm.part_of tid fresh.manager ≡ Some q) × KeptThen p q = known_then p known in record { part = k.0; known = k.1; decided = k.2.outcome_is }

    pub unknown_so : tm.part_of tid node.manager ≡ None → tm.part_of tid decided_work.node.manager ≡ None
    unknown_so none = unknown_then none

  -- the decision as a whole
  pub goes_decide : (tid : Tid) (outcome : Outcome) (cause : Option Cause) (work : Work) → (outcome ≡ outcomes.Commit → kept_outcome tid work.node ≡ None) → On work (decide tid outcome cause work)
  goes_decide tid outcome cause work unkept = by (tm.part_of tid work.node.manager) refl
    where
      made : Decision
      made = tm.decision tid outcome work.node.manager

      entered : Work
      entered = decided_work work tid outcome cause made.rec (decision_of tid outcome work.node.manager) unkept

      noticed : Work
      noticed = give_notices tid outcome entered

      first : On work entered
      first = goes_entered work tid outcome cause made.rec (decision_of tid outcome work.node.manager) unkept

      by : (o : Option Participant) → tm.part_of tid work.node.manager ≡ o → On work (decide tid outcome cause work)
      by None none = goes_then stamp before run work entered (decide tid outcome cause work) first
          (subst (λ (d : Decision). On entered (send_each d.tell (messages.Tell tid outcome) noticed)) (sym (ap (made_of tid outcome) none))
          (subst (λ (w : Work). On entered w) (sym (no_notices stamp before run tid outcome entered (unknown_so work tid outcome cause made.rec (decision_of tid outcome work.node.manager) unkept none))) (goes_self stamp before run entered)))
      by (Some p) known =
          let e : Ended stamp before run tid outcome entered = ended_then work tid outcome cause made.rec (decision_of tid outcome work.node.manager) unkept p known in
          let e2 : Ended stamp before run tid outcome noticed = notices_still stamp before run tid outcome outcome entered e in
          goes_then stamp before run work entered (decide tid outcome cause work) first
          (goes_then stamp before run entered noticed (decide tid outcome cause work) (goes_notices stamp before run tid outcome outcome entered e)
          (goes_sends stamp before run made.tell (messages.Tell tid outcome) noticed (λ to. tt)
          (λ w at es h. outcome_said (book_at stamp before w) w.node tid e2.part outcome (ap (λ (n : NodeValue). tm.part_of tid n.manager) at ∙ e2.known) e2.decided h)))
