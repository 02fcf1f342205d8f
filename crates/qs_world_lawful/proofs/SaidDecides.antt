-- A home that decides commit leaves what its log says as the machine has it: what it has of the transaction is in doubt till then, and its own servers learn the commit in the same rule.
use Rattle.qs_world_lawful.proofs.Words.{◌≡◌, ℕ, ◌++◌, Bool, true, false, List, [], ◌∷◌, length, Option, Some, None, refl, sym, ap, subst, ◌∙◌, nat_lt, if◌then◌else◌, true≢false, is_at, list_any, ◌||◌, is_some, slice_get, tid_cmp, NodeNo, ServerNo, Tid, listed, Act, Entry, lookup_changed, Inv, IsCoherent, AllLearn, is_server, BookValue, cell_of_transaction, find_transaction, IsLawful, book_after, opening, TransactionValue, decided_at, is_open, may_learn_still, Opened, Cell, Record, recovery}
use Rattle.qs_world_lawful.proofs.Words.{send_each, decide_as, decide_commit, learners_at, answer_superior, is_quiet, may_answer, ready, ready_rule, Work, doings_of, here, learners, Participant, HoldsWork, book_at, entries_so_far, IsNumbered, HoldsLogs, IsPrepared, Every, AreInDoubt, book_then, learn_all, both_ways}
use Rattle.qs_base.specs.declared.identifiers.Outcome.TheVariants as outcomes
use Rattle.qs_book_journal.specs.declared.entry.Act.TheVariants as acts
use Rattle.qs_book_machine.specs.Nodes as machine
use Rattle.qs_book_machine.specs.Transaction.{part_of as machine_part}
use Rattle.qs_book_machine.specs.declared.transaction.Cell.TheVariants as cells
use Rattle.qs_ops.specs.declared.answer.Cause.TheVariants as causes
use Rattle.qs_packet.specs.declared.message.Message.TheVariants as messages
use Rattle.qs_record.specs.declared.record.Record.TheVariants as made
use Rattle.qs_node_step.specs.Deciding.{decide}
use Rattle.qs_node_step.specs.State.{part_of}
use Rattle.qs_tm.specs.Manager as tm
use Rattle.qs_tm.specs.Outcomes as outcome_rules
use Rattle.qs_world_lawful.proofs.LogDeciding.{all_learns, bare, bare_grows, bare_learns, bare_noticed, by_unwritten, by_written, decided_now, decided_part, decides, grows, noticed, rec, start}
use Rattle.qs_world_lawful.proofs.LogDecisions.{by_decide}
use Rattle.qs_world_lawful.proofs.LogKeeps.{lawful_before, lawful_since}
use Rattle.qs_world_lawful.proofs.LogLaws.{inv_is}
use Rattle.qs_world_lawful.proofs.LogMarks.{changes_part}
use Rattle.qs_world_lawful.proofs.LogSettling.{quiet_superior}
use Rattle.qs_world_lawful.proofs.Recordless.{quiet_sends}
use Rattle.qs_world_lawful.proofs.SaidDoubts.{uncommitted_in_doubt}
use Rattle.qs_world_lawful.proofs.SaidEnds.{ends_decide}
use Rattle.qs_world_lawful.proofs.SaidHeld.{learners_held}
use Rattle.qs_world_lawful.proofs.SaidLearns.{LearnsSo, says_unwritten, says_written}
use Rattle.qs_world_lawful.proofs.SaidPasses.{lasts_amid}
use Rattle.qs_world_lawful.proofs.SaidSteps.{Says, says_ends, says_if, says_quiet, says_self, says_then}
use Rattle.qs_world_lawful.proofs.Truths.{of_some}

-- what is open is neither committed nor aborted
open_not : (o : Option TransactionValue) (tx : TransactionValue) → o ≡ Some tx → is_open tx.cell ≡ true → (c : Cell) → is_open c ≡ false → cell_of_transaction o ≡ Some c → ⊥
open_not o tx found opened c shut is = apart (of_some (sym (ap cell_of_transaction found) ∙ is))
  where
    apart : tx.cell ≡ c → ⊥
    apart e = true≢false (sym opened ∙ (ap is_open e ∙ shut))

module _ (opened : List Opened) (history : List Entry) (coherent : IsCoherent opened) (numbered : Every IsNumbered opened) (lawful_till : IsLawful (opening opened) history) (stamp : ℕ) (disk waiting : List Record) (tid : Tid) (work : Work)
    (held : HoldsWork stamp (book_after (opening opened) history) work) (part : Participant) (known : part_of tid work ≡ Some part) (in_run : nat_lt (here work).0 (length opened) ≡ true) where
  abbrev before : BookValue
  before = book_after (opening opened) history

  i : Inv before
  i = inv_is opened history coherent lawful_till

  abbrev Goes : Work → Work → Type 0
  Goes old new = Says stamp before disk waiting old new

  abbrev book : BookValue
  book = book_at stamp before work

  abbrev act : Act
  act = acts.Decide tid outcomes.Commit None

  abbrev mid : BookValue
  mid = book_then stamp before work (act ∷ [])

  -- those that are still to learn it before the decision are so after it
  learners_of : (tx : TransactionValue) → find_transaction book tid ≡ Some tx → (servers : List ServerNo) → servers ≡ learners part → (state : machine.NodeValue) → slice_get mid.nodes (here work).0 ≡ Some state → AllLearn mid tid (here work).0 state servers
  learners_of tx found servers same state there now server found_now keeps due =
      subst (λ (ss : List ServerNo). list_any (is_server server.0) ss ≡ true) (sym same)
      (learners_held stamp book work.node tid part held.holds known tx server found keeps
      (ap (λ (t : TransactionValue). may_learn_still (machine_part t (record { node = record { 0 = (here work).0 }; server = server }) held.holds.state.inc)) now_is
      ∙ (ap (λ (s : machine.NodeValue). may_learn_still (machine_part now (record { node = record { 0 = (here work).0 }; server = server }) s.inc)) state_is ∙ due)))
    where
      now_is : decided_at book.place outcomes.Commit None tx ≡ now
      now_is = of_some (sym (lookup_changed (is_at (tid_cmp tid)) (decided_at book.place outcomes.Commit None) book.transactions tx found) ∙ found_now)

      state_is : held.holds.state ≡ state
      state_is = of_some (sym held.holds.there ∙ there)

  module _ (new : Work) (more : List Act) (entered : new.out.entries ≡ work.out.entries ++ (act ∷ more)) (setting : new.node.setting ≡ work.node.setting) (servers : List ServerNo) (same : servers ≡ learners part) (lawful : IsLawful before (entries_so_far stamp new)) (h : HoldsLogs stamp before disk waiting work) where
    at : (tx : TransactionValue) × (find_transaction book tid ≡ Some tx) × (is_open tx.cell ≡ true)
    at = decides book stamp (here work).0 h.state h.there tid outcomes.Commit None (lawful_since stamp before i disk waiting work new (act ∷ more) entered setting lawful).0

    learns_so : LearnsSo stamp before work tid (act ∷ []) servers
    learns_so = record {
      done = decided_now book stamp (here work).0 tid outcomes.Commit None at.0 at.1;
      all = learners_of at.0 at.1 servers same;
      named = h.named tid (ap is_some at.1);
      unaborted = λ aborted. open_not (find_transaction book tid) at.0 at.1 at.2 cells.Abort refl aborted;
    }

    doubted : AreInDoubt tid (recovery (disk ++ (waiting ++ work.out.records)))
    doubted = uncommitted_in_doubt (here work).0 book h.state (recovery (disk ++ (waiting ++ work.out.records))) tid h.all.marked
        (lasts_amid opened history coherent numbered lawful_till stamp work (lawful_before stamp before i disk waiting work new (act ∷ more) entered setting lawful)) h.there h.all.commits (λ done. open_not (find_transaction book tid) at.0 at.1 at.2 cells.Commit refl done)

  abbrev learners_in : Option Participant → List ServerNo
  learners_in o = elim o [ None ↦ [] | Some p ↦ learners p ]

  module _ (at_home : nat_lt tid.home.0 (length opened) ≡ true) where
    -- with its Commit
    module _ (told : List NodeNo) where
      abbrev wrote : Work
      wrote = start stamp before i disk waiting tid None work part known told

      abbrev ended : Work
      ended = noticed stamp before i disk waiting tid None work part known told

      wrote_learners : learners_at tid wrote ≡ learners part
      wrote_learners = ap learners_in (changes_part tid (outcome_rules.logged (rec stamp before i disk waiting tid None work part known told)) (tm.decide tid outcomes.Commit work.node.manager) (outcome_rules.decided outcomes.Commit part) (decided_part stamp before i disk waiting tid None work part known outcomes.Commit).now).now

      says_with : Goes work ended
      says_with =
          let l = all_learns stamp before i disk waiting tid None work part known told in
          let g = grows stamp before i disk waiting tid None work part known told in
          says_written opened history coherent lawful_till stamp disk waiting work ended tid (act ∷ []) (learners_at tid wrote) g (refl, tt) l.setting in_run at_home (by_written stamp before i disk waiting tid None work part known told) told l.records l.force
          (λ lawful h said. (learns_so ended (learn_all (here work) tid (learners_at tid wrote)) g l.setting (learners_at tid wrote) wrote_learners lawful h, doubted ended (learn_all (here work) tid (learners_at tid wrote)) g l.setting (learners_at tid wrote) wrote_learners lawful h))

    -- with none
    module _ (unprepared : part.log.prepared ≡ false) where
      abbrev plain_start : Work
      plain_start = bare stamp before i disk waiting tid None work part known unprepared

      abbrev plain_end : Work
      plain_end = bare_noticed stamp before i disk waiting tid None work part known unprepared

      plain_learners : learners_at tid plain_start ≡ learners part
      plain_learners = ap learners_in (decided_part stamp before i disk waiting tid None work part known outcomes.Commit).now

      unknown : IsPrepared (tm.part_of tid work.node.manager) → ⊥
      unknown is = both_ways part.log.prepared unprepared (subst IsPrepared known is)

      says_without : Goes work plain_end
      says_without =
          let l = bare_learns stamp before i disk waiting tid None work part known unprepared in
          let g = bare_grows stamp before i disk waiting tid None work part known unprepared in
          says_unwritten opened history coherent lawful_till stamp disk waiting work plain_end tid (act ∷ []) (learners_at tid plain_start) g (refl, tt) l.setting in_run at_home (by_unwritten stamp before i disk waiting tid None work part known unprepared) l.records l.force unknown
          (λ lawful h. learns_so plain_end (learn_all (here work) tid (learners_at tid plain_start)) g l.setting (learners_at tid plain_start) plain_learners lawful h)

    or_left : (a b : Bool) → (a || b) ≡ false → a ≡ false
    or_left true b e = absurd (cc e)
    or_left false b e = refl

    says_decide : Goes work (decide tid outcomes.Commit None work)
    says_decide = of (part_of tid work) known
      where
        telling : (b : Bool) → outcome_rules.writes_commit part ≡ b → (tell : List NodeNo) → Goes work (decide_as tid outcomes.Commit None (record { rec = if b then Some (made.Commit tid (listed part.told)) else None; tell = tell }) work)
        telling true writes tell = says_then stamp before i disk waiting work (ended (listed part.told)) (send_each tell (messages.Tell tid outcomes.Commit) (ended (listed part.told))) (says_with (listed part.told))
            (says_quiet stamp before i disk waiting (ended (listed part.told)) (send_each tell (messages.Tell tid outcomes.Commit) (ended (listed part.told))) (quiet_sends tell (messages.Tell tid outcomes.Commit) (ended (listed part.told))))
        telling false writes tell =
            let unprepared : part.log.prepared ≡ false = or_left part.log.prepared _ writes in
            says_then stamp before i disk waiting work (plain_end unprepared) (send_each tell (messages.Tell tid outcomes.Commit) (plain_end unprepared)) (says_without unprepared)
            (says_quiet stamp before i disk waiting (plain_end unprepared) (send_each tell (messages.Tell tid outcomes.Commit) (plain_end unprepared)) (quiet_sends tell (messages.Tell tid outcomes.Commit) (plain_end unprepared)))

        of : (o : Option Participant) → o ≡ Some part → Goes work (decide_as tid outcomes.Commit None (elim o [ None ↦ tm.no_decision | Some p ↦ record { rec = outcome_rules.record_of tid outcomes.Commit p; tell = listed (outcome_rules.tell_of outcomes.Commit p) } ]) work)
        of None e = absurd (cc e)
        of (Some p) e = subst (λ (q : Participant). Goes work (decide_as tid outcomes.Commit None (record { rec = outcome_rules.record_of tid outcomes.Commit q; tell = listed (outcome_rules.tell_of outcomes.Commit q) }) work)) (sym (of_some e))
            (telling (outcome_rules.writes_commit part) refl (listed (outcome_rules.tell_of outcomes.Commit part)))

    -- or aborts where the Commit finds no room
    pub says_commit : Goes work (decide_commit tid work)
    says_commit = by (tm.need_past tid work.room work.node.manager)
      where
        by : (o : Option ℕ) → Goes work (elim o [ None ↦ decide tid outcomes.Commit None work | Some need ↦ decide tid outcomes.Abort (Some (causes.Room need work.room)) work ])
        by None = says_decide
        by (Some need) = says_ends stamp before i disk waiting work (decide tid outcomes.Abort (Some (causes.Room need work.room)) work) (by_decide stamp before i disk waiting tid (Some (causes.Room need work.room)) work outcomes.Abort) (ends_decide tid (Some (causes.Room need work.room)) work)

  -- readiness
  pub says_ready : (part.engage.home ≡ true → nat_lt tid.home.0 (length opened) ≡ true) → Goes work (ready_rule tid part work)
  says_ready at_home = says_if stamp before i disk waiting (may_answer tid part work) work (ready tid part work) work
      (λ may. says_if stamp before i disk waiting part.engage.home work (if is_quiet (doings_of tid work) then decide_commit tid work else work) (answer_superior tid part work)
      (λ home. says_if stamp before i disk waiting (is_quiet (doings_of tid work)) work (decide_commit tid work) work (λ quiet. says_commit (at_home home)) (λ busy. says_self stamp before i disk waiting work))
      (λ away. says_quiet stamp before i disk waiting work (answer_superior tid part work) (quiet_superior stamp before i disk waiting tid part work)))
      (λ not_yet. says_self stamp before i disk waiting work)
