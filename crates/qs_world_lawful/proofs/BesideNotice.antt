-- A server is told that a transaction ends, or learns how: what the machine has beside the node stands on.
use Rattle.qs_world_lawful.proofs.Words.{◌≡◌, ◌≢◌, ℕ, ◌==◌, ◌≤◌, Bool, true, false, Option, Some, None, refl, sym, ap, subst, ◌∙◌, if◌then◌else◌, ◌&&◌, Class, NodeNo, ServerNo, Tid, Act, held, BookValue, find_transaction, inc_at, has_no_record, broken, effect, effect_act, TransactionValue, is_commit, is_outcome, class_of, is_two_phase, after_notice, Cause, Notice, with_server, member_here, end_member, Work, here, member_of, Participant, entry_of, InRun, HoldsBeside, HoldsPart, HoldsReader}
use Rattle.qs_world_lawful.proofs.Words.{HoldsReads, HoldsStranger, IsTrueCause, book_at, eqb-false, eqb-true}
use Rattle.qs_base.specs.declared.identifiers.Class.TheVariants as classes
use Rattle.qs_book_journal.specs.declared.entry.Act.TheVariants as acts
use Rattle.qs_book_laws.proofs.Acts as of
use Rattle.qs_book_machine.specs.Clauses.{broken_ending, is_immediate, may_end}
use Rattle.qs_book_machine.specs.Nodes as machine
use Rattle.qs_book_machine.specs.Transaction.{is_abort}
use Rattle.qs_ops.specs.declared.vote.Notice.TheVariants as notices
use Rattle.qs_node_step.specs.State.{NodeValue}
use Rattle.qs_tm.specs.Manager as tm
use Rattle.qs_tm.specs.Members as rules
use Rattle.qs_tm.specs.Outcomes as outcome_rules
use Rattle.qs_world_lawful.proofs.Apart.{Apart}
use Rattle.qs_world_lawful.proofs.BesideActs.{Steps, ended_steps, steps_as}
use Rattle.qs_world_lawful.proofs.BesideClocks.{notice_ticks, ticks_still}
use Rattle.qs_world_lawful.proofs.BesideGoes.{Goes, goes_entry}
use Rattle.qs_world_lawful.proofs.BesideOwn.{beside_one, own_by}
use Rattle.qs_world_lawful.proofs.BesideParts.{SameWhole, notes_on, reader_on, same_issued}
use Rattle.qs_world_lawful.proofs.BesidePlain.{MachineOn, machine_alike, plain_records}
use Rattle.qs_world_lawful.proofs.Faces.{part_apart, part_changed, part_unknown}
use Rattle.qs_world_lawful.proofs.LogActs as logs
use Rattle.qs_world_lawful.proofs.LogFrames.{every_on}
use Rattle.qs_world_lawful.proofs.Parts.{with_other}
use Rattle.qs_world_lawful.proofs.Truths.{left_true}

-- ---- classes

no_voter : (c : Class) → rules.is_immediate c ≡ true → is_two_phase c ≡ true → ⊥
no_voter classes.Recoverable is two = cc is
no_voter classes.Volatile is two = cc is
no_voter classes.Immediate is two = cc two
no_voter classes.Standard is two = cc is
no_voter classes.Delayed is two = cc is
no_voter classes.Activity is two = cc is

no_told : (c : Class) → rules.is_immediate c ≡ true → rules.is_told_class c ≡ true → ⊥
no_told classes.Recoverable is told = cc is
no_told classes.Volatile is told = cc is
no_told classes.Immediate is told = cc told
no_told classes.Standard is told = cc is
no_told classes.Delayed is told = cc is
no_told classes.Activity is told = cc is

as_rule : (c : Class) → is_immediate c ≡ rules.is_immediate c
as_rule classes.Recoverable = refl
as_rule classes.Volatile = refl
as_rule classes.Immediate = refl
as_rule classes.Standard = refl
as_rule classes.Delayed = refl
as_rule classes.Activity = refl

-- ---- an immediate server that is told leaves what is held of the others

settled_reads : (here : NodeNo) (inc : ℕ) (tid : Tid) (tx later : TransactionValue) (p : Participant) (server : ServerNo) → rules.is_immediate (class_of server.0) ≡ true → SameWhole here inc tx later → HoldsReads here inc tid tx p → HoldsReads here inc tid later (outcome_rules.settled server p)
settled_reads here inc tid tx later p server imm t r = record {
  readers = λ other kept. reader other (server.0 == other.0) refl (r.readers other kept);
  unchanged = λ read. t.pending ∙ r.unchanged (ap (rules.has_read rules.files_no) (sym (apart rules.files_no not_files)) ∙ read);
  counted = λ count one is. subst (λ (n : ℕ). count ≤ n) (sym t.pending) (r.counted count one (sym (same_issued here inc _ tx later t.same.requests) ∙ is));
}
  where
    apart : (other : ServerNo) → server.0 ≢ other.0 → member_of (outcome_rules.settled server p) other ≡ member_of p other
    apart other far = with_other server other (record (member_of p server) { fresh = false }) p far

    not_files : server.0 ≢ 0
    not_files is = recoverable (subst (λ (n : ℕ). rules.is_immediate (class_of n) ≡ true) is imm)
      where
        recoverable : rules.is_immediate (class_of 0) ≡ true → ⊥
        recoverable e = cc e

    reader : (other : ServerNo) → (b : Bool) → (server.0 == other.0) ≡ b → HoldsReader here inc tx p other → HoldsReader here inc later (outcome_rules.settled server p) other
    reader other true is g = record {
      anew = λ two read. absurd (no_voter (class_of other.0) imm_other two);
      unfresh = λ two read. absurd (no_voter (class_of other.0) imm_other two);
      told = λ told fresh. absurd (no_told (class_of other.0) imm_other told);
    }
      where
        imm_other : rules.is_immediate (class_of other.0) ≡ true
        imm_other = subst (λ (n : ℕ). rules.is_immediate (class_of n) ≡ true) (eqb-true server.0 other.0 is) imm
    reader other false is g = reader_on here inc tx later p (outcome_rules.settled server p) other t.same (apart other (eqb-false server.0 other.0 is)) (λ i. i) g

-- ---- the entries

module _ (stamp : ℕ) (before : BookValue) (run : InRun before) (work : Work) (tid : Tid) (server : ServerNo) where
  abbrev node : NodeValue
  node = work.node

  abbrev own_node : NodeNo
  own_node = node.setting.node

  abbrev inc : ℕ
  inc = node.setting.inc

  abbrev book : BookValue
  book = book_at stamp before work

  abbrev told : Notice → NodeValue
  told notice = record node { servers = with_server server (λ value. after_notice value tid notice) node.servers; manager = tm.settled tid server node.manager }

  ticks_told : (notice : Notice) → (with_server server (λ value. after_notice value tid notice) node.servers).timers.timers.ticks ≡ node.servers.timers.timers.ticks
  ticks_told notice = ticks_still server (λ value. after_notice value tid notice) (notice_ticks tid notice) node.servers

  others_told : (t : Tid) → Apart tid t → tm.part_of t (tm.settled tid server node.manager) ≡ tm.part_of t node.manager
  others_told t far = part_apart tid t (outcome_rules.settled server) node.manager far

  -- ---- it ends

  abbrev ending : Act
  ending = acts.Ending tid (member_here work server)

  abbrev after_ending : BookValue
  after_ending = effect book (entry_of own_node.0 stamp ending)

  module _ (fine : broken book (entry_of own_node.0 stamp ending) ≡ None) (causes : (t : Tid) (cause : Cause) → IsTrueCause book t cause → IsTrueCause after_ending t cause) (h : HoldsBeside book node) where
    ends : (tx : TransactionValue) × (find_transaction book tid ≡ Some tx) × (rules.is_immediate (class_of server.0) ≡ true)
    ends = by (find_transaction book tid) refl (held h.state.up 2 _ (logs.acting book stamp own_node.0 ending h.state h.there fine)).1
      where
        clause : ℕ → Option ℕ
        clause n = Some n

        allowed : (b : Bool) → (if b then None else clause 90) ≡ None → b ≡ true
        allowed true e = refl
        allowed false e = absurd (cc e)

        by : (o : Option TransactionValue) → find_transaction book tid ≡ o → broken_ending own_node.0 h.state o (member_here work server) ≡ None → (tx : TransactionValue) × (find_transaction book tid ≡ Some tx) × (rules.is_immediate (class_of server.0) ≡ true)
        by None is e = absurd (cc e)
        by (Some tx) is e = (tx, is, sym (as_rule (class_of server.0)) ∙ left_true (is_immediate (class_of server.0)) (own_node.0 == own_node.0) (left_true (is_immediate (class_of server.0) && (own_node.0 == own_node.0)) _ (allowed (may_end own_node.0 h.state tx (member_here work server)) e)))

    inc_is : inc_at book (record { 0 = own_node.0 }) ≡ inc
    inc_is = ap (λ (o : Option machine.NodeValue). elim o [ None ↦ 0 | Some s ↦ s.inc ]) h.there ∙ h.inc

    module _ (tx : TransactionValue) (found : find_transaction book tid ≡ Some tx) (imm : rules.is_immediate (class_of server.0) ≡ true) where
      not_files : server.0 ≢ 0
      not_files is = recoverable (subst (λ (n : ℕ). rules.is_immediate (class_of n) ≡ true) is imm)
        where
          recoverable : rules.is_immediate (class_of 0) ≡ true → ⊥
          recoverable e = cc e

      steps : Steps own_node inc book after_ending
      steps = steps_as own_node inc book (effect_act stamp own_node.0 ending book) after_ending refl (ended_steps own_node inc own_node.0 inc tid server not_files refl book inc_is)

      machine_on : MachineOn book after_ending own_node.0 h.state
      machine_on = machine_alike book after_ending own_node.0 h.state h.there (let a = of.by_end own_node.0 tid (member_here work server) book in record { faces = a.faces; ages = a.ages; tolds = a.tolds })

      records : (t : Tid) → has_no_record h.state t ≡ true → has_no_record machine_on.next t ≡ true
      records t = plain_records stamp book own_node.0 ending refl h.state machine_on.next h.there machine_on.there t

      now : (l : TransactionValue) × (find_transaction after_ending tid ≡ Some l) × SameWhole own_node inc tx l
      now = (steps tid).some tx found

      settled_part : (l : TransactionValue) → SameWhole own_node inc tx l → (p : Participant) → tm.part_of tid node.manager ≡ Some p → HoldsPart after_ending machine_on.next (told notices.Ending) tid l (outcome_rules.settled server p)
      settled_part l t p known =
          let w : HoldsPart book h.state node tid tx p = (h.at tid).parts tx p found known in
          record {
            notes = notes_on own_node inc tid tx l p (outcome_rules.settled server p) t.same.requests t.same.noted (record { keeps = λ c is. is }) w.notes;
            asked = λ is. t.same.asked (w.asked is);
            outcome = λ o is. ap (is_outcome o) t.cell ∙ w.outcome o is;
            causes = λ none. every_on (IsTrueCause book tid) (IsTrueCause after_ending tid) (causes tid) p.causes (w.causes none);
            reads = λ none. settled_reads own_node inc tid tx l p server imm t (w.reads none);
            begun_at = λ home none. t.same.begun_at ∙ w.begun_at home none;
            records = λ home none unended. records tid (w.records home none unended);
          }

      pub ended_beside : HoldsBeside after_ending (told notices.Ending)
      ended_beside = beside_one book after_ending node (told notices.Ending) refl h machine_on causes tid (λ t is. is) others_told (λ t far. records t) (λ t far. steps t)
          (record { ticks = ticks_told notices.Ending ∙ h.clock.ticks; room = h.clock.room })
          (own_by after_ending machine_on.next node (told notices.Ending) tid now.0 now.1 (λ none. part_unknown tid (outcome_rules.settled server) node.manager none)
          (λ p known. (outcome_rules.settled server p, part_changed tid (outcome_rules.settled server) node.manager p known, settled_part now.0 now.2 p known))
          (λ none open_still. let s : HoldsStranger own_node inc tid tx = (h.at tid).strangers tx found none (ap is_commit (sym now.2.cell) ∙ open_still) in
          record { unissued = λ count one. same_issued own_node inc _ tx now.0 now.2.same.requests ∙ s.unissued count one; unchanged = now.2.pending ∙ s.unchanged })
          (λ home back. let e = (h.at tid).ended tx home found in
          record { committed = λ is. e.committed (ap is_commit (sym now.2.cell) ∙ is); unknown = λ none kept. ap is_abort now.2.cell ∙ e.unknown (back none) kept }))

  pub goes_ended : Goes stamp before run work (end_member tid work server)
  goes_ended = goes_entry stamp before run work (end_member tid work server) ending refl refl refl refl (λ fine inv causes h. let e : (tx : TransactionValue) × (find_transaction book tid ≡ Some tx) × (rules.is_immediate (class_of server.0) ≡ true) = ends fine causes h in ended_beside fine causes h e.0 e.1 e.2)
