-- A server learns how a transaction ends, and all servers do in their order: what the machine has beside the node stands on.
use Rattle.qs_world_lawful.proofs.Words.{◌≡◌, ℕ, Bool, true, List, [], ◌∷◌, Option, Some, None, refl, sym, ap, subst, ◌∙◌, fold, is_at, lookup, is_some, slice_get, NodeNo, Outcome, ServerNo, Tid, Act, voter_exact, Inv, removed_apart, BookValue, find_transaction, inc_at, has_no_record, effect, TransactionValue, is_commit, is_outcome, learnt, OnRecord, Voter, after_notice, Cause, with_server, member_here, due_endings, end_member, end_members, give_notices, learn_member, learn_members, learners_at}
use Rattle.qs_world_lawful.proofs.Words.{notice_of, Work, learners, servers_due, Participant, entry_of, InRun, HoldsBeside, HoldsPart, IsTrueCause, book_at, is_plain, false≢true, false_from_ne_true}
use Rattle.qs_base.specs.declared.identifiers.Outcome.TheVariants as outcomes
use Rattle.qs_book_journal.specs.declared.entry.Act.TheVariants as acts
use Rattle.qs_book_laws.proofs.Acts as of
use Rattle.qs_book_machine.specs.Nodes as machine
use Rattle.qs_ops.specs.Servers.{audit_no, extra_no, files_no}
use Rattle.qs_node_step.specs.State.{NodeValue}
use Rattle.qs_tm.specs.Manager as tm
use Rattle.qs_tm.specs.Outcomes as outcome_rules
use Rattle.qs_tm.specs.declared.participant.Due.TheVariants as dues
use Rattle.qs_world_lawful.proofs.Apart.{Apart}
use Rattle.qs_world_lawful.proofs.BesideActs.{others_changed}
use Rattle.qs_world_lawful.proofs.BesideClocks.{notice_ticks, ticks_still}
use Rattle.qs_world_lawful.proofs.BesideGoes.{Goes, goes_entry, goes_fold, goes_self, goes_then}
use Rattle.qs_world_lawful.proofs.BesideOwn.{beside_one, found_changed, own_known}
use Rattle.qs_world_lawful.proofs.BesideParts.{notes_on, part_ended}
use Rattle.qs_world_lawful.proofs.BesidePlain.{MachineOn, machine_alike, plain_records}
use Rattle.qs_world_lawful.proofs.Faces.{part_apart, part_changed}
use Rattle.qs_world_lawful.proofs.LogActs as logs
use Rattle.qs_world_lawful.proofs.Truths.{of_some}
use Rattle.qs_world_lawful.proofs.BesideNotice.{goes_ended}

module _ (stamp : ℕ) (before : BookValue) (run : InRun before) where
  abbrev On : Work → Work → Type 0
  On work new = Goes stamp before run work new

  -- ---- it learns the outcome

  module _ (work : Work) (tid : Tid) (outcome : Outcome) (server : ServerNo) (p : Participant) (o : Outcome) (known : tm.part_of tid work.node.manager ≡ Some p) (decided : p.outcome ≡ Some o) where
    abbrev node : NodeValue
    node = work.node

    abbrev own_node : NodeNo
    own_node = node.setting.node

    abbrev inc : ℕ
    inc = node.setting.inc

    abbrev book : BookValue
    book = book_at stamp before work

    abbrev fresh : NodeValue
    fresh = record node { servers = with_server server (λ value. after_notice value tid (notice_of outcome)) node.servers; manager = tm.settled tid server node.manager }

    abbrev q : Participant
    q = outcome_rules.settled server p

    abbrev learning : Act
    learning = acts.Learn tid (member_here work server) outcome

    abbrev new : BookValue
    new = effect book (entry_of own_node.0 stamp learning)

    abbrev f : TransactionValue → TransactionValue
    f = learnt (member_here work server) (inc_at book (record { 0 = own_node.0 })) outcome

    same_requests : (x : Outcome) (tx : TransactionValue) → (learnt (member_here work server) (inc_at book (record { 0 = own_node.0 })) x tx).requests ≡ tx.requests
    same_requests outcomes.Commit tx = refl
    same_requests outcomes.Abort tx = refl

    same_noted : (x : Outcome) (tx : TransactionValue) → (learnt (member_here work server) (inc_at book (record { 0 = own_node.0 })) x tx).noted ≡ tx.noted
    same_noted outcomes.Commit tx = refl
    same_noted outcomes.Abort tx = refl

    same_cell : (x : Outcome) (tx : TransactionValue) → (learnt (member_here work server) (inc_at book (record { 0 = own_node.0 })) x tx).cell ≡ tx.cell
    same_cell outcomes.Commit tx = refl
    same_cell outcomes.Abort tx = refl

    same_asked : (x : Outcome) (tx : TransactionValue) → (learnt (member_here work server) (inc_at book (record { 0 = own_node.0 })) x tx).asked ≡ tx.asked
    same_asked outcomes.Commit tx = refl
    same_asked outcomes.Abort tx = refl

    module _ (causes : (t : Tid) (cause : Cause) → IsTrueCause book t cause → IsTrueCause new t cause) (inv : Inv book) (h : HoldsBeside book node) where
      machine_on : MachineOn book new own_node.0 h.state
      machine_on = machine_alike book new own_node.0 h.state h.there (let a = of.by_learn own_node.0 tid (member_here work server) outcome book in record { faces = a.faces; ages = a.ages; tolds = a.tolds })

      -- what is on record of others stays so
      taken : (t : Tid) → Apart tid t → (next : machine.NodeValue) → slice_get (effect book (entry_of own_node.0 stamp (acts.Learn tid (member_here work server) outcomes.Commit))).nodes own_node.0 ≡ Some next → has_no_record next t ≡ has_no_record h.state t
      taken t far next there = ap (λ (s : machine.NodeValue). has_no_record s t) (of_some (sym there ∙ logs.next_there book stamp own_node.0 h.state inv h.there tid server)) ∙ rw (one files_no, one audit_no, one extra_no) refl
        where
          test : Voter → Bool
          test = is_at (machine.voter_cmp (machine.voter tid server.0))

          one : (s : ℕ) → machine.record_of (logs.next book stamp own_node.0 h.state inv h.there tid server) t s ≡ machine.record_of h.state t s
          one s = ap (λ (rs : List (Voter × OnRecord)). lookup (is_at (machine.voter_cmp (machine.voter t s))) rs) (logs.records_are book stamp own_node.0 h.state inv h.there tid server)
              ∙ removed_apart test (is_at (machine.voter_cmp (machine.voter t s)))
              (λ k at. false_from_ne_true (test k) (λ is. far.differ (ap (λ (v : Voter). v.tid) (voter_exact (machine.voter tid server.0) k is ∙ sym (voter_exact (machine.voter t s) k at))))) h.state.records

      records : (x : Outcome) → outcome ≡ x → (t : Tid) → Apart tid t → has_no_record h.state t ≡ true → has_no_record machine_on.next t ≡ true
      records outcomes.Commit is t far none = taken t far machine_on.next (subst (λ (x : Outcome). slice_get (effect book (entry_of own_node.0 stamp (acts.Learn tid (member_here work server) x))).nodes own_node.0 ≡ Some machine_on.next) is machine_on.there) ∙ none
      records outcomes.Abort is t far none = plain_records stamp book own_node.0 learning (ap (λ (x : Outcome). is_plain (acts.Learn tid (member_here work server) x)) is) h.state machine_on.next h.there machine_on.there t none

      module _ (tx : TransactionValue) (found : find_transaction book tid ≡ Some tx) where
        was : HoldsPart book h.state node tid tx p
        was = (h.at tid).parts tx p found known

        found_now : find_transaction new tid ≡ Some (f tx)
        found_now = found_changed tid f book new tx refl found

        part_now : HoldsPart new machine_on.next fresh tid (f tx) q
        part_now = part_ended new machine_on.next fresh tid (f tx) q o decided (ap (is_outcome o) (same_cell outcome tx) ∙ was.outcome o decided)
            (notes_on own_node inc tid tx (f tx) p q (same_requests outcome tx) (same_noted outcome tx) (record { keeps = λ c is. is }) was.notes)
            (λ is. ap (λ (x : Option ℕ). is_some x) (same_asked outcome tx) ∙ was.asked is)

        pub learnt_beside : HoldsBeside new fresh
        learnt_beside = beside_one book new node fresh refl h machine_on causes tid (λ t is. is) (λ t far. part_apart tid t (outcome_rules.settled server) node.manager far) (records outcome refl)
            (λ t far. others_changed own_node inc tid t f book new refl far)
            (record { ticks = ticks_still server (λ value. after_notice value tid (notice_of outcome)) (notice_ticks tid (notice_of outcome)) node.servers ∙ h.clock.ticks; room = h.clock.room })
            (own_known new machine_on.next node fresh tid (f tx) found_now p q known (part_changed tid (outcome_rules.settled server) node.manager p known) part_now
            (λ home committed. ((h.at tid).ended tx home found).committed (ap is_commit (sym (same_cell outcome tx)) ∙ committed)))

    pub goes_learnt : On work (learn_member tid outcome work server)
    goes_learnt = goes_entry stamp before run work (learn_member tid outcome work server) learning refl refl refl refl (λ fine inv causes h. of h inv (find_transaction book tid) refl ((h.at tid).stands p known) causes)
      where
        of : (h : HoldsBeside book node) → Inv book → (x : Option TransactionValue) → find_transaction book tid ≡ x → is_some (find_transaction book tid) ≡ true → ((t : Tid) (cause : Cause) → IsTrueCause book t cause → IsTrueCause new t cause) → HoldsBeside new fresh
        of h inv None is there causes = absurd (false≢true (sym (ap is_some is) ∙ there))
        of h inv (Some tx) is there causes = learnt_beside causes inv h tx is

  -- ---- all of them, in their order

  -- it is known with that outcome
  pub record Ended (tid : Tid) (o : Outcome) (work : Work) : Type 0 where
    pub part : Participant
    pub known : tm.part_of tid work.node.manager ≡ Some part
    pub decided : part.outcome ≡ Some o

  told_still : (tid : Tid) (o : Outcome) (work new : Work) (server : ServerNo) → new.node.manager ≡ tm.settled tid server work.node.manager → Ended tid o work → Ended tid o new
  told_still tid o work new server is e = record { part = outcome_rules.settled server e.part; known = ap (tm.part_of tid) is ∙ part_changed tid (outcome_rules.settled server) work.node.manager e.part e.known; decided = e.decided }

  pub goes_ends : (tid : Tid) (work : Work) → On work (end_members tid work)
  goes_ends tid work = goes_fold stamp before run (end_member tid) (λ w server. goes_ended stamp before run w tid server) (due_endings tid work) work

  ends_still : (tid : Tid) (o : Outcome) (servers : List ServerNo) (work : Work) → Ended tid o work → Ended tid o (fold (end_member tid) work servers)
  ends_still tid o [] work e = e
  ends_still tid o (server ∷ servers) work e = ends_still tid o servers (end_member tid work server) (told_still tid o work (end_member tid work server) server refl e)

  learns_still : (tid : Tid) (o outcome : Outcome) (servers : List ServerNo) (work : Work) → Ended tid o work → Ended tid o (fold (learn_member tid outcome) work servers)
  learns_still tid o outcome [] work e = e
  learns_still tid o outcome (server ∷ servers) work e = learns_still tid o outcome servers (learn_member tid outcome work server) (told_still tid o work (learn_member tid outcome work server) server refl e)

  goes_learns : (tid : Tid) (o outcome : Outcome) (servers : List ServerNo) (work : Work) → Ended tid o work → On work (fold (learn_member tid outcome) work servers)
  goes_learns tid o outcome [] work e = goes_self stamp before run work
  goes_learns tid o outcome (server ∷ servers) work e = goes_then stamp before run work (learn_member tid outcome work server) (fold (learn_member tid outcome) (learn_member tid outcome work server) servers)
      (goes_learnt work tid outcome server e.part o e.known e.decided) (goes_learns tid o outcome servers (learn_member tid outcome work server) (told_still tid o work (learn_member tid outcome work server) server refl e))

  pub goes_notices : (tid : Tid) (o outcome : Outcome) (work : Work) → Ended tid o work → On work (give_notices tid outcome work)
  goes_notices tid o outcomes.Commit work e = goes_learns tid o outcomes.Commit (learners_at tid work) work e
  goes_notices tid o outcomes.Abort work e = goes_then stamp before run work (end_members tid work) (give_notices tid outcomes.Abort work) (goes_ends tid work)
      (goes_learns tid o outcomes.Abort (learners_at tid (end_members tid work)) (end_members tid work) (ends_still tid o (due_endings tid work) work e))

  pub notices_still : (tid : Tid) (o outcome : Outcome) (work : Work) → Ended tid o work → Ended tid o (give_notices tid outcome work)
  notices_still tid o outcomes.Commit work e = learns_still tid o outcomes.Commit (learners_at tid work) work e
  notices_still tid o outcomes.Abort work e = learns_still tid o outcomes.Abort (learners_at tid (end_members tid work)) (end_members tid work) (ends_still tid o (due_endings tid work) work e)

  -- of what is unknown nobody learns
  pub no_notices : (tid : Tid) (outcome : Outcome) (work : Work) → tm.part_of tid work.node.manager ≡ None → give_notices tid outcome work ≡ work
  no_notices tid outcome work none = by outcome
    where
      learners_none : (w : Work) → tm.part_of tid w.node.manager ≡ None → learners_at tid w ≡ []
      learners_none w is = ap (λ (x : Option Participant). elim x [ None ↦ [] | Some q ↦ learners q ]) is

      endings_none : due_endings tid work ≡ []
      endings_none = ap (λ (x : Option Participant). elim x [ None ↦ [] | Some q ↦ servers_due dues.Ending q ]) none

      ends_none : end_members tid work ≡ work
      ends_none = ap (λ (servers : List ServerNo). fold (end_member tid) work servers) endings_none

      learns_none : (w : Work) → tm.part_of tid w.node.manager ≡ None → learn_members tid outcomes.Abort w ≡ w
      learns_none w is = ap (λ (servers : List ServerNo). fold (learn_member tid outcomes.Abort) w servers) (learners_none w is)

      by : (x : Outcome) → give_notices tid x work ≡ work
      by outcomes.Commit = ap (λ (servers : List ServerNo). fold (learn_member tid outcomes.Commit) work servers) (learners_none work none)
      by outcomes.Abort = ap (learn_members tid outcomes.Abort) ends_none ∙ learns_none work none
