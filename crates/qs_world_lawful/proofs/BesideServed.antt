-- A request is served, as an entry: what the machine has beside the node stands on.
use Rattle.qs_world_lawful.proofs.Words.{◌≡◌, ℕ, ◌+◌, ◌==◌, Bool, true, false, List, [], ◌∷◌, ◌++◌, Option, Some, None, refl, sym, ap, subst, ◌∙◌, length, if◌then◌else◌, ◌<◌, ◌^◌, ◌||◌, is_some, NodeNo, ServerNo, Tid, last_number, Delivery, Act, BookValue, find_transaction, inc_at, has_no_record, effect, TransactionValue, served_in, RequestNo, class_of, is_two_phase, after_serving, Cause, Reply, is_client, member_here, enter_serve, Work, change_server, Setting, class_here, is_told_class, member_of}
use Rattle.qs_world_lawful.proofs.Words.{with_member, MemberPart, Manager, Participant, entry_of, InRun, HoldsBeside, HoldsNotes, HoldsPart, HoldsReads, IsTrueCause, book_at, covers_at_most, Every, false≢true}
use Rattle.qs_book_journal.specs.declared.entry.Act.TheVariants as acts
use Rattle.qs_book_laws.proofs.Acts as of
use Rattle.qs_book_machine.specs.Book.{is_done}
use Rattle.qs_book_machine.specs.Nodes as machine
use Rattle.qs_node_step.specs.Serving.{change_served}
use Rattle.qs_node_step.specs.State.{NodeValue}
use Rattle.qs_tm.specs.Manager as tm
use Rattle.qs_tm.specs.Participant as participant
use Rattle.qs_world_lawful.specs.Holds.{is_kept}
use Rattle.qs_world_lawful.proofs.BesideActs.{others_changed}
use Rattle.qs_world_lawful.proofs.BesideClocks.{serving_ticks, ticks_still}
use Rattle.qs_world_lawful.proofs.BesideGoes.{Goes, alike_committed, goes_entry}
use Rattle.qs_world_lawful.proofs.BesideOwn.{beside_one, found_changed, own_known}
use Rattle.qs_world_lawful.proofs.BesideParts.{CommittedOn, with_setting}
use Rattle.qs_world_lawful.proofs.BesidePlain.{MachineOn, machine_alike, plain_records}
use Rattle.qs_world_lawful.proofs.Faces.{part_apart, part_changed}
use Rattle.qs_world_lawful.proofs.GivenServing.{notes_alike, notes_served, served_noted}
use Rattle.qs_world_lawful.proofs.LogFrames.{every_on}
use Rattle.qs_world_lawful.proofs.BesideServe.{reads_now}

module _ (stamp : ℕ) (before : BookValue) (run : InRun before) (work : Work) (server : ServerNo) (delivery : Delivery) (reply : Reply) (p : Participant) (known : tm.part_of delivery.tid work.node.manager ≡ Some p) (size : length p.members ≡ 7)
    (room : is_kept server ≡ true → ((member_of p server).served == last_number) ≡ false) (most : is_kept server ≡ true → is_two_phase (class_of server.0) ≡ true → covers_at_most (member_of p server).served (member_of p server).vote) where
  abbrev node : NodeValue
  node = work.node

  abbrev own_node : NodeNo
  own_node = node.setting.node

  abbrev book : BookValue
  book = book_at stamp before work

  abbrev act : Act
  act = acts.Serve delivery.tid (member_here work server) delivery.from delivery.number reply

  abbrev new : BookValue
  new = effect book (entry_of own_node.0 stamp act)

  abbrev changed : Work
  changed = change_served server delivery.tid delivery.op reply work

  -- what a server's own values leave
  left : {A : Type 0} (g : Work → A) → g (change_server server (λ value. after_serving value delivery.tid delivery.op reply) work) ≡ g work → g changed ≡ g work
  left g same = by (is_client server)
    where
      by : (b : Bool) → g (if b then work else change_server server (λ value. after_serving value delivery.tid delivery.op reply) work) ≡ g work
      by true = refl
      by false = same

  abbrev fresh : NodeValue
  fresh = (enter_serve server delivery reply work).node

  setting_is : fresh.setting ≡ node.setting
  setting_is = left (λ w. w.node.setting) refl

  manager_is : fresh.manager ≡ tm.served delivery.tid server node.manager
  manager_is = ap (tm.served delivery.tid server) (left (λ w. w.node.manager) refl)

  outcomes_are : fresh.kept.now.outcomes ≡ node.kept.now.outcomes
  outcomes_are = left (λ w. w.node.kept.now.outcomes) refl

  committed_are : fresh.committed ≡ node.committed
  committed_are = left (λ w. w.node.committed) refl

  ticks_are : fresh.servers.timers.timers.ticks ≡ node.servers.timers.timers.ticks
  ticks_are = left (λ w. w.node.servers.timers.timers.ticks) (ticks_still server (λ value. after_serving value delivery.tid delivery.op reply) (serving_ticks delivery.tid delivery.op reply) node.servers)

  abbrev at : RequestNo
  at = record { link = record { from = delivery.from; to = own_node }; number = delivery.number }

  abbrev inc : ℕ
  inc = node.setting.inc

  module _ (causes : (t : Tid) (cause : Cause) → IsTrueCause book t cause → IsTrueCause new t cause) (h : HoldsBeside book node) where
    inc_is : inc_at book (record { 0 = own_node.0 }) ≡ inc
    inc_is = ap (λ (o : Option machine.NodeValue). elim o [ None ↦ 0 | Some s ↦ s.inc ]) h.there ∙ h.inc

    machine_on : MachineOn book new own_node.0 h.state
    machine_on = machine_alike book new own_node.0 h.state h.there (let a = of.by_serve own_node.0 delivery.tid (member_here work server) delivery.from delivery.number stamp reply book in record { faces = a.faces; ages = a.ages; tolds = a.tolds })

    records : (t : Tid) → has_no_record h.state t ≡ true → has_no_record machine_on.next t ≡ true
    records t = plain_records stamp book own_node.0 act refl h.state machine_on.next h.there machine_on.there t

    module _ (tx : TransactionValue) (found : find_transaction book delivery.tid ≡ Some tx) where
      abbrev f : ℕ → TransactionValue → TransactionValue
      f k = served_in at (member_here work server) k stamp (is_done reply)

      found_now : find_transaction new delivery.tid ≡ Some (f inc tx)
      found_now = subst (λ (k : ℕ). find_transaction new delivery.tid ≡ Some (f k tx)) inc_is (found_changed delivery.tid (f (inc_at book (record { 0 = own_node.0 }))) book new tx refl found)

      was : HoldsPart book h.state node delivery.tid tx p
      was = (h.at delivery.tid).parts tx p found known

      abbrev q : Participant
      q = participant.served server p

      -- a serve leaves all else of what is kept
      alike : {A : Type 0} (g : Participant → A) → ((m : List MemberPart) (i : Bool) → g (record p { members = m; involved = i }) ≡ g p) → g q ≡ g p
      alike g same = by ((member_of p server).served == last_number)
        where
          by : (b : Bool) → g (if b then p else record (with_member server (record (member_of p server) { served = (member_of p server).served + 1; fresh = true }) p) { involved = p.involved || is_told_class (class_here server) }) ≡ g p
          by true = refl
          by false = same _ _

      part_now : HoldsPart new machine_on.next fresh delivery.tid (f inc tx) q
      part_now = record {
        notes = with_setting (λ n i. HoldsNotes n i delivery.tid (f inc tx) q) node fresh setting_is
            (notes_alike own_node inc delivery.tid (f inc tx) (f inc tx) p q (record { noted = refl; requests = refl }) (served_noted server p) (alike (λ x. x.waiting) (λ m i. refl))
            (notes_served own_node inc delivery.tid tx p was.notes at (member_here work server) inc stamp (is_done reply)));
        asked = λ is. was.asked (sym (alike (λ x. x.asked) (λ m i. refl)) ∙ is);
        outcome = λ o is. was.outcome o (sym (alike (λ x. x.outcome) (λ m i. refl)) ∙ is);
        causes = λ none. subst (λ (cs : List Cause). Every (IsTrueCause new delivery.tid) cs) (sym (alike (λ x. x.causes) (λ m i. refl)))
            (every_on (IsTrueCause book delivery.tid) (IsTrueCause new delivery.tid) (causes delivery.tid) p.causes (was.causes (sym (alike (λ x. x.outcome) (λ m i. refl)) ∙ none)));
        reads = λ none. with_setting (λ n i. HoldsReads n i delivery.tid (f inc tx) q) node fresh setting_is
            (reads_now own_node inc stamp at server (is_done reply) delivery.tid tx p size room most (was.reads (sym (alike (λ x. x.outcome) (λ m i. refl)) ∙ none)));
        begun_at = λ home none. was.begun_at (sym (alike (λ x. x.engage.home) (λ m i. refl)) ∙ home) (sym (alike (λ x. x.outcome) (λ m i. refl)) ∙ none) ∙ sym (alike (λ x. x.begun_at) (λ m i. refl));
        records = λ home none unended. records delivery.tid (was.records (sym (alike (λ x. x.engage.home) (λ m i. refl)) ∙ home) (sym (alike (λ x. x.outcome) (λ m i. refl)) ∙ none) (sym (alike (λ x. x.log.unended) (λ m i. refl)) ∙ unended));
      }

      known_now : tm.part_of delivery.tid fresh.manager ≡ Some q
      known_now = ap (tm.part_of delivery.tid) manager_is ∙ part_changed delivery.tid (participant.served server) node.manager p known

      committed_on : (t : Tid) → CommittedOn node fresh t
      committed_on t is = alike_committed stamp before run node fresh t outcomes_are committed_are ∙ is

      pub served_beside : HoldsBeside new fresh
      served_beside = beside_one book new node fresh setting_is h machine_on causes delivery.tid committed_on (λ t far. ap (tm.part_of t) manager_is ∙ part_apart delivery.tid t (participant.served server) node.manager far) (λ t far. records t)
          (λ t far. others_changed own_node inc delivery.tid t (f (inc_at book (record { 0 = own_node.0 }))) book new refl far)
          (record { ticks = ticks_are ∙ (h.clock.ticks ∙ ap (λ (m : Manager). m.ticks) (sym manager_is)); room = subst (λ (m : Manager). m.ticks < 2 ^ 62) (sym manager_is) h.clock.room })
          (own_known new machine_on.next node fresh delivery.tid (f inc tx) found_now p q known known_now part_now
          (λ home committed. committed_on delivery.tid (((h.at delivery.tid).ended tx (home ∙ ap (λ (s : Setting). s.node) setting_is) found).committed committed)))

  pub goes_served : Goes stamp before run work (enter_serve server delivery reply work)
  goes_served = goes_entry stamp before run work (enter_serve server delivery reply work) act setting_is (left (λ w. w.node.committed) refl) (ap (λ (es : List Act). es ++ act ∷ []) (left (λ w. w.out.entries) refl)) (left (λ w. w.out.messages) refl)
      (λ fine inv causes h. of h (find_transaction book delivery.tid) refl ((h.at delivery.tid).stands p known) causes)
    where
      of : (h : HoldsBeside book node) (o : Option TransactionValue) → find_transaction book delivery.tid ≡ o → is_some (find_transaction book delivery.tid) ≡ true → ((t : Tid) (cause : Cause) → IsTrueCause book t cause → IsTrueCause new t cause) → HoldsBeside new fresh
      of h None is there causes = absurd (false≢true (sym (ap is_some is) ∙ there))
      of h (Some tx) is there causes = served_beside causes h tx is
