-- The rules by which the servers of a node learn that a transaction is committed, with its Commit, leave what the log says of contents and changes.
use Rattle.qs_world_lawful.proofs.Words.{◌≡◌, ℕ, ◌++◌, true, List, [], ◌∷◌, length, Option, Some, None, refl, sym, ap, subst, ◌∙◌, is_some, nat_lt, fold-append, slice_get, NodeNo, ServerNo, Tid, Act, Entry, Inv, after_both, lawful_front, lawful_rest, IsCoherent, AllLearn, learning, BookValue, cell_of_transaction, find_transaction, IsLawful, book_after, effect, opening, TransactionValue, Opened, Record, Recovery, found_record, names_transaction, nothing_said, recovery, Work, here, entries_of}
use Rattle.qs_world_lawful.proofs.Words.{book_at, entries_so_far, HasCommitted, HoldsLogged, HoldsLogs, IsPlain, Every, AreInDoubt, HoldsMade, SaidAfter, SaidAt, book_then, learn_all, same_Some}
use Rattle.qs_base.specs.declared.identifiers.Outcome.TheVariants as outcomes
use Rattle.qs_book_journal.specs.declared.entry.Act.TheVariants as acts
use Rattle.qs_book_machine.specs.Nodes as machine
use Rattle.qs_book_machine.specs.declared.transaction.Cell.TheVariants as cells
use Rattle.qs_record.specs.declared.record.Record.TheVariants as made
use Rattle.qs_world_lawful.proofs.LogCommitting.{begun}
use Rattle.qs_world_lawful.proofs.LogKeeps.{RanOn, book_is, inv_at, lawful_before, lawful_since, map_both}
use Rattle.qs_world_lawful.proofs.LogLaws.{inv_is}
use Rattle.qs_world_lawful.proofs.LogMarks.{one_more}
use Rattle.qs_world_lawful.proofs.SaidEntries.{commit_enters}
use Rattle.qs_world_lawful.proofs.SaidRules.{all_plain}

pub lawful_join : (entries more : List Entry) (book : BookValue) → IsLawful book entries → IsLawful (book_after book entries) more → IsLawful book (entries ++ more)
lawful_join [] more book front rest = rest
lawful_join (entry ∷ entries) more book front rest = (front.0, lawful_join entries more (effect book entry) front.1 rest)

pub learning_is : (stamp at : ℕ) (tid : Tid) (servers : List ServerNo) → entries_of at stamp (learn_all (record { 0 = at }) tid servers) ≡ learning stamp at tid servers
learning_is stamp at tid [] = refl
learning_is stamp at tid (server ∷ servers) = ap (λ (es : List Entry). record { stamp = stamp; node = record { 0 = at }; act = acts.Learn tid (record { node = record { 0 = at }; server = server }) outcomes.Commit } ∷ es) (learning_is stamp at tid servers)

module _ (opened : List Opened) (history : List Entry) (coherent : IsCoherent opened) (lawful_before_it : IsLawful (opening opened) history) (stamp : ℕ) (disk waiting : List Record) (work new : Work) (tid : Tid) (front : List Act) (servers : List ServerNo) (told : List NodeNo)
    (grows : new.out.entries ≡ work.out.entries ++ (front ++ learn_all (here work) tid servers)) (plain : Every IsPlain front) (written : new.out.records ≡ work.out.records ++ made.Commit tid told ∷ []) (setting : new.node.setting ≡ work.node.setting)
    (in_run : nat_lt (here work).0 (length opened) ≡ true) (at_home : nat_lt tid.home.0 (length opened) ≡ true) (lawful : IsLawful (book_after (opening opened) history) (entries_so_far stamp new)) (done : HasCommitted (book_then stamp (book_after (opening opened) history) work front) tid)
    (all : (state : machine.NodeValue) → slice_get (book_then stamp (book_after (opening opened) history) work front).nodes (here work).0 ≡ Some state → AllLearn (book_then stamp (book_after (opening opened) history) work front) tid (here work).0 state servers)
    (doubt : AreInDoubt tid (recovery (disk ++ (waiting ++ work.out.records)))) (logs : HoldsLogs stamp (book_after (opening opened) history) disk waiting work) (said : SaidAt stamp (book_after (opening opened) history) disk waiting work) where
  abbrev before : BookValue
  before = book_after (opening opened) history

  i : Inv before
  i = inv_is opened history coherent lawful_before_it

  abbrev at : ℕ
  at = (here work).0

  abbrev book : BookValue
  book = book_at stamp before work

  abbrev more : List Act
  more = front ++ learn_all (here work) tid servers

  abbrev first : List Entry
  first = entries_of at stamp front

  abbrev second : List Entry
  second = learning stamp at tid servers

  abbrev mid : BookValue
  mid = book_then stamp before work front

  abbrev records_so_far : List Record
  records_so_far = disk ++ (waiting ++ work.out.records)

  abbrev log : Recovery
  log = recovery records_so_far

  more_is : entries_of at stamp more ≡ first ++ second
  more_is = map_both at stamp front (learn_all (here work) tid servers) ∙ ap (λ (es : List Entry). first ++ es) (learning_is stamp at tid servers)

  lawful_work : IsLawful before (entries_so_far stamp work)
  lawful_work = lawful_before stamp before i disk waiting work new more grows setting lawful

  lawful_both : IsLawful book (first ++ second)
  lawful_both = subst (IsLawful book) more_is (lawful_since stamp before i disk waiting work new more grows setting lawful)

  lawful_first : IsLawful book first
  lawful_first = lawful_front first second book lawful_both

  ran : RanOn at book mid logs.state
  ran = begun stamp before i disk waiting work new logs tid front servers grows setting plain lawful

  said_mid : SaidAfter at mid log
  said_mid = all_plain stamp at front book (inv_at stamp before i disk waiting work lawful_work) plain lawful_first log said

  logged_mid : HoldsLogged at mid said_mid.state log
  logged_mid = subst (λ (state : machine.NodeValue). HoldsLogged at mid state log) (same_Some ran.next said_mid.state (sym ran.there ∙ said_mid.there)) (ran.logged log logs.all)

  named : names_transaction tid ≡ true
  named = ran.named tid (stands (find_transaction mid tid) done)
    where
      stands : (o : Option TransactionValue) → cell_of_transaction o ≡ Some cells.Commit → is_some o ≡ true
      stands None e = absurd (cc e)
      stands (Some tx) e = refl

  -- the history up to there
  abbrev whole : List Entry
  whole = history ++ (entries_so_far stamp work ++ first)

  whole_is : book_after (opening opened) whole ≡ mid
  whole_is = after_both history (entries_so_far stamp work ++ first) (opening opened) ∙ after_both (entries_so_far stamp work) first before

  whole_lawful : IsLawful (opening opened) whole
  whole_lawful = lawful_join history (entries_so_far stamp work ++ first) (opening opened) lawful_before_it (lawful_join (entries_so_far stamp work) first before lawful_work lawful_first)

  abbrev Enters : BookValue → Type 0
  Enters b = HasCommitted b tid → slice_get b.nodes at ≡ Some said_mid.state → AllLearn b tid at said_mid.state servers → IsLawful b second → HoldsLogged at b said_mid.state log → HoldsMade at b said_mid.state log
      → SaidAfter at (book_after b second) (recovery (records_so_far ++ made.Commit tid told ∷ []))

  enters : Enters mid
  enters = subst Enters whole_is (λ d t a g l h. commit_enters opened whole stamp at said_mid.state tid servers told records_so_far coherent in_run at_home whole_lawful d t a g named doubt l h)

  entered : SaidAfter at (book_after mid second) (recovery (records_so_far ++ made.Commit tid told ∷ []))
  entered = enters done said_mid.there (all said_mid.state said_mid.there) (lawful_rest first second book lawful_both) logged_mid said_mid.said

  last_is : book_at stamp before new ≡ book_after mid second
  last_is = book_is stamp before i disk waiting work new more grows setting ∙ (ap (book_after book) more_is ∙ after_both first second book)

  log_is : recovery (records_so_far ++ made.Commit tid told ∷ []) ≡ recovery (disk ++ (waiting ++ new.out.records))
  log_is = fold-append found_record nothing_said records_so_far (made.Commit tid told ∷ []) ∙ (sym (one_more disk waiting work.out.records (made.Commit tid told)) ∙ ap (λ (records : List Record). recovery (disk ++ (waiting ++ records))) (sym written))

  pub commit_says : SaidAt stamp before disk waiting new
  commit_says = subst (λ (n : ℕ). SaidAfter n (book_at stamp before new) (recovery (disk ++ (waiting ++ new.out.records)))) (sym (ap (λ s. s.node.0) setting))
      (subst (λ (b : BookValue). SaidAfter at b (recovery (disk ++ (waiting ++ new.out.records)))) (sym last_is) (subst (SaidAfter at (book_after mid second)) log_is entered))
