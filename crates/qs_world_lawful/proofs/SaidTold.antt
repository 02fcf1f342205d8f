-- A node that is told of a commit leaves what its log says as the machine has it: what the log has of the transaction is in doubt till then, and the node's servers learn the commit in the same rule.
use Rattle.qs_world_lawful.proofs.Words.{◌≡◌, ℕ, ◌++◌, Bool, true, false, List, [], ◌∷◌, length, Option, Some, None, refl, sym, ap, subst, ◌∙◌, nat_lt, if◌then◌else◌, list_any, ◌||◌, is_some, slice_get, NodeNo, Outcome, ServerNo, Tid, same_node, Entry, Inv, IsCoherent, AllLearn, is_server, BookValue, cell_of_transaction, find_transaction, IsLawful, book_after, opening, TransactionValue, may_learn_still, Opened, Record, recovery, log, log_if, send, learn_members, learners_at, Work, here}
use Rattle.qs_world_lawful.proofs.Words.{with_manager, end_record, learn_unknown, names_at, take_outcome, tell_came, is_undecided, learners, Participant, HoldsWork, book_at, HasCommitted, HasOutcome, HoldsLogs, IsPrepared, KeepsLogs, both_ways, none_is}
use Rattle.qs_base.specs.declared.identifiers.Outcome.TheVariants as outcomes
use Rattle.qs_book_machine.specs.Nodes as machine
use Rattle.qs_book_machine.specs.Transaction.{part_of as machine_part}
use Rattle.qs_book_machine.specs.declared.transaction.Cell.TheVariants as cells
use Rattle.qs_packet.specs.declared.message.Message.TheVariants as messages
use Rattle.qs_record.specs.declared.record.Record.TheVariants as made
use Rattle.qs_node_step.specs.State.{part_of}
use Rattle.qs_node_step.specs.Telling.{learn}
use Rattle.qs_tm.specs.Manager as tm
use Rattle.qs_tm.specs.Outcomes as outcome_rules
use Rattle.qs_world_lawful.specs.SayingSteps.{IsToldSo}
use Rattle.qs_world_lawful.proofs.LogEndings.{by_learn_rule}
use Rattle.qs_world_lawful.proofs.LogLaws.{inv_is}
use Rattle.qs_world_lawful.proofs.LogLearning.{Learns, learns}
use Rattle.qs_world_lawful.proofs.LogMarks.{changes_part}
use Rattle.qs_world_lawful.proofs.Recordless.{quiet_send}
use Rattle.qs_world_lawful.proofs.SaidDoubts.{doubt_of_all, not_both}
use Rattle.qs_world_lawful.proofs.SaidHeld.{learners_held}
use Rattle.qs_world_lawful.proofs.SaidLearns.{LearnsSo, says_unwritten, says_written}
use Rattle.qs_world_lawful.proofs.SaidSteps.{Says, says_if, says_quiet, says_self, says_then}
use Rattle.qs_world_lawful.proofs.Truths.{of_some}

module _ (opened : List Opened) (history : List Entry) (coherent : IsCoherent opened) (lawful_till : IsLawful (opening opened) history) (stamp : ℕ) (disk waiting : List Record) (tid : Tid) (work : Work)
    (held : HoldsWork stamp (book_after (opening opened) history) work) (in_run : nat_lt (here work).0 (length opened) ≡ true) (told : HasOutcome (book_after (opening opened) history) tid outcomes.Commit)
    (so : IsToldSo opened (recovery (disk ++ (waiting ++ work.out.records))) tid work) where
  abbrev before : BookValue
  before = book_after (opening opened) history

  i : Inv before
  i = inv_is opened history coherent lawful_till

  abbrev Goes : Work → Work → Type 0
  Goes old new = Says stamp before disk waiting old new

  abbrev book : BookValue
  book = book_at stamp before work

  abbrev took : Work
  took = with_manager (tm.took_outcome tid outcomes.Commit) work

  abbrev done : Work
  done = learn_members tid outcomes.Commit took

  module _ (part : Participant) (known : part_of tid work ≡ Some part) (undecided : part.outcome ≡ None) where
    learners_are : learners_at tid took ≡ learners part
    learners_are = ap (λ (o : Option Participant). elim o [ None ↦ [] | Some p ↦ learners p ]) (changes_part tid (outcome_rules.took_outcome outcomes.Commit) work.node.manager part known).now

    l : Learns tid (learners_at tid took) took done
    l = learns tid (learners_at tid took) took

    all_learn : (state : machine.NodeValue) → slice_get book.nodes (here work).0 ≡ Some state → AllLearn book tid (here work).0 state (learners_at tid took)
    all_learn state there tx server found keeps due =
        subst (λ (ss : List ServerNo). list_any (is_server server.0) ss ≡ true) (sym learners_are)
        (learners_held stamp book work.node tid part held.holds known tx server found keeps
        (ap (λ (s : machine.NodeValue). may_learn_still (machine_part tx (record { node = record { 0 = (here work).0 }; server = server }) s.inc)) (of_some (sym held.holds.there ∙ there)) ∙ due))

    learns_so : HoldsLogs stamp before disk waiting work → LearnsSo stamp before work tid [] (learners_at tid took)
    learns_so h = record {
      done = committed;
      all = all_learn;
      named = h.named tid (stands (find_transaction book tid) committed);
      unaborted = λ aborted. not_both book tid aborted committed;
    }
      where
        committed : HasCommitted book tid
        committed = h.since.committed tid told

        stands : (o : Option TransactionValue) → cell_of_transaction o ≡ Some cells.Commit → is_some o ≡ true
        stands None e = absurd (cc e)
        stands (Some tx) e = refl

    says_learn : Goes work (learn tid outcomes.Commit part work)
    says_learn = by part.log.prepared refl (by_learn_rule stamp before i disk waiting tid work part known undecided outcomes.Commit told)
      where
        by : (b : Bool) → part.log.prepared ≡ b → KeepsLogs stamp before disk waiting work (log_if (if b then Some (end_record tid outcomes.Commit) else None) done) → Goes work (log_if (if b then Some (end_record tid outcomes.Commit) else None) done)
        by true prepared logs = says_written opened history coherent lawful_till stamp disk waiting work (log (made.Commit tid []) done) tid [] (learners_at tid took) l.entries tt l.setting in_run so.at_home logs []
            (ap (λ (rs : List Record). rs ++ made.Commit tid [] ∷ []) l.records) (ap (λ (b : Bool). b || true) l.force)
            (λ lawful h said. let its = learns_so h in (its, doubt_of_all (here work).0 book h.state (recovery (disk ++ (waiting ++ work.out.records))) tid h.all.marked its.named said.said.apart (so.doubted part known prepared)))
        by false unprepared logs = says_unwritten opened history coherent lawful_till stamp disk waiting work done tid [] (learners_at tid took) l.entries tt l.setting in_run so.at_home logs l.records l.force
            (λ is. both_ways part.log.prepared unprepared (subst IsPrepared known is)) (λ lawful h. learns_so h)

  says_take : Goes work (take_outcome tid outcomes.Commit work)
  says_take = by (part_of tid work) refl
    where
      by : (o : Option Participant) → part_of tid work ≡ o → Goes work (elim o [ None ↦ learn_unknown tid outcomes.Commit work | Some part ↦ if is_undecided part then learn tid outcomes.Commit part work else work ])
      by None is = says_self stamp before i disk waiting work
      by (Some part) is = says_if stamp before i disk waiting (is_undecided part) work (learn tid outcomes.Commit part work) work (λ open_still. says_learn part is (none_is part.outcome open_still)) (λ known. says_self stamp before i disk waiting work)

  pub says_told : (peer : NodeNo) → Goes work (tell_came peer tid outcomes.Commit work)
  says_told peer = says_if stamp before i disk waiting (same_node tid.home (here work)) work work (send peer (messages.Told tid (names_at tid outcomes.Commit work)) taken) (λ home. says_self stamp before i disk waiting work)
      (λ away. says_then stamp before i disk waiting work taken (send peer (messages.Told tid (names_at tid outcomes.Commit work)) taken) says_take
      (says_quiet stamp before i disk waiting taken (send peer (messages.Told tid (names_at tid outcomes.Commit work)) taken) (quiet_send peer (messages.Told tid (names_at tid outcomes.Commit work)) taken)))
    where
      taken : Work
      taken = take_outcome tid outcomes.Commit work
