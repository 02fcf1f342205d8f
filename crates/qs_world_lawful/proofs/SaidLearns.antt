-- A rule by which servers learn that a transaction is committed, with its Commit or with none: what the log says with the records of the step, and what the disk says where nothing forces it.
use Rattle.qs_world_lawful.proofs.Words.{◌≡◌, ℕ, ◌++◌, Bool, true, false, List, [], ◌∷◌, length, Some, sym, subst, ◌∙◌, nat_lt, ◌||◌, slice_get, NodeNo, ServerNo, Tid, Act, Entry, IsCoherent, AllLearn, BookValue, IsLawful, book_after, opening, Opened, Record, names_transaction, recovery, Work, here, book_at, entries_so_far, HasAborted, HasCommitted, HoldsLogs, IsPlain, IsPrepared, KeepsLogs, Every, AreInDoubt, SaidAfter, SaidAt, book_then, learn_all}
use Rattle.qs_book_machine.specs.Nodes as machine
use Rattle.qs_record.specs.declared.record.Record.TheVariants as made
use Rattle.qs_tm.specs.Manager as tm
use Rattle.qs_world_lawful.proofs.SaidCommits.{commit_says}
use Rattle.qs_world_lawful.proofs.SaidDoubts.{none_in_doubt, none_on_disk}
use Rattle.qs_world_lawful.proofs.SaidLearnt.{learnt_says}
use Rattle.qs_world_lawful.proofs.SaidSteps.{Says}

-- what is so of the transaction behind the entries that come first: all that have still to learn it do
pub record LearnsSo (stamp : ℕ) (before : BookValue) (work : Work) (tid : Tid) (front : List Act) (servers : List ServerNo) : Type 0 where
  pub done : HasCommitted (book_then stamp before work front) tid
  pub all : (state : machine.NodeValue) → slice_get (book_then stamp before work front).nodes (here work).0 ≡ Some state → AllLearn (book_then stamp before work front) tid (here work).0 state servers
  pub named : names_transaction tid ≡ true
  pub unaborted : HasAborted (book_at stamp before work) tid → ⊥

module _ (opened : List Opened) (history : List Entry) (coherent : IsCoherent opened) (lawful_till : IsLawful (opening opened) history) (stamp : ℕ) (disk waiting : List Record) (work new : Work) (tid : Tid) (front : List Act) (servers : List ServerNo)
    (grows : new.out.entries ≡ work.out.entries ++ (front ++ learn_all (here work) tid servers)) (plain : Every IsPlain front) (setting : new.node.setting ≡ work.node.setting) (in_run : nat_lt (here work).0 (length opened) ≡ true) (at_home : nat_lt tid.home.0 (length opened) ≡ true)
    (logs : KeepsLogs stamp (book_after (opening opened) history) disk waiting work new) where
  abbrev before : BookValue
  before = book_after (opening opened) history

  -- with its Commit, where all that the log has of it is in doubt
  pub says_written : (told : List NodeNo) → new.out.records ≡ work.out.records ++ made.Commit tid told ∷ [] → new.out.force ≡ (work.out.force || true)
      → (IsLawful before (entries_so_far stamp new) → HoldsLogs stamp before disk waiting work → SaidAt stamp before disk waiting work → LearnsSo stamp before work tid front servers × AreInDoubt tid (recovery (disk ++ (waiting ++ work.out.records)))) → Says stamp before disk waiting work new
  says_written told written forced so = record {
    logs = logs;
    says = λ lawful h s.
        let both = so lawful h s.all in
        record {
          all = commit_says opened history coherent lawful_till stamp disk waiting work new tid front servers told grows plain written setting in_run at_home lawful both.0.done both.0.all both.1 h s.all;
          on_disk = λ unforced. absurd (or_true work.out.force (sym forced ∙ unforced));
        };
  }
    where
      or_true : (b : Bool) → (b || true) ≡ false → ⊥
      or_true true e = cc e
      or_true false e = cc e

  -- with none, where the node does not know it as prepared
  pub says_unwritten : new.out.records ≡ work.out.records → new.out.force ≡ work.out.force → (IsPrepared (tm.part_of tid work.node.manager) → ⊥) → (IsLawful before (entries_so_far stamp new) → HoldsLogs stamp before disk waiting work → LearnsSo stamp before work tid front servers)
      → Says stamp before disk waiting work new
  says_unwritten same forced unprepared so = record {
    logs = logs;
    says = λ lawful h s.
        let its : LearnsSo stamp before work tid front servers = so lawful h in
        record {
          all = subst (λ (records : List Record). SaidAfter (here new).0 (book_at stamp before new) (recovery (disk ++ (waiting ++ records)))) (sym same)
              (learnt_says opened history coherent lawful_till stamp disk waiting work new tid front servers (recovery (disk ++ (waiting ++ work.out.records))) grows plain setting in_run at_home lawful its.done its.all
              (none_in_doubt work.node.manager (recovery (disk ++ (waiting ++ work.out.records))) h.knows.votes tid its.named unprepared) h h.all s.all);
          on_disk = λ unforced.
              let off : work.out.force ≡ false = sym forced ∙ unforced in
              learnt_says opened history coherent lawful_till stamp disk waiting work new tid front servers (recovery disk) grows plain setting in_run at_home lawful its.done its.all
              (none_on_disk (here work).0 (book_at stamp before work) h.state work.node.manager (recovery (disk ++ (waiting ++ work.out.records))) (recovery disk) h.all (h.on_disk off) (h.alike off) h.knows.votes tid its.named unprepared its.unaborted (s.on_disk off).said.apart)
              h (h.on_disk off) (s.on_disk off);
        };
  }
