-- The rules by which the servers of a node learn that a transaction is committed, where a log has nothing in doubt of it, leave what that log says.
use Rattle.qs_world_lawful.proofs.Words.{◌≡◌, ℕ, ◌++◌, true, List, length, Some, sym, ap, subst, ◌∙◌, nat_lt, slice_get, ServerNo, Tid, Act, Entry, Inv, after_both, lawful_front, lawful_rest, IsCoherent, AllLearn, learning, BookValue, IsLawful, book_after, opening, Opened, Record, Recovery, Work, here, entries_of, book_at, entries_so_far, HasCommitted, HoldsLogged, HoldsLogs, IsPlain, Every, HoldsMade, SaidAfter, book_then, learn_all, same_Some}
use Rattle.qs_book_machine.specs.Nodes as machine
use Rattle.qs_world_lawful.specs.Saying.{AreCommitted}
use Rattle.qs_world_lawful.proofs.LogCommitting.{begun}
use Rattle.qs_world_lawful.proofs.LogKeeps.{RanOn, book_is, inv_at, lawful_before, lawful_since, map_both}
use Rattle.qs_world_lawful.proofs.LogLaws.{inv_is}
use Rattle.qs_world_lawful.proofs.SaidCommits.{lawful_join, learning_is}
use Rattle.qs_world_lawful.proofs.SaidEntries.{learning_enters}
use Rattle.qs_world_lawful.proofs.SaidRules.{all_plain}

module _ (opened : List Opened) (history : List Entry) (coherent : IsCoherent opened) (lawful_before_it : IsLawful (opening opened) history) (stamp : ℕ) (disk waiting : List Record) (work new : Work) (tid : Tid) (front : List Act) (servers : List ServerNo) (log : Recovery)
    (grows : new.out.entries ≡ work.out.entries ++ (front ++ learn_all (here work) tid servers)) (plain : Every IsPlain front) (setting : new.node.setting ≡ work.node.setting)
    (in_run : nat_lt (here work).0 (length opened) ≡ true) (at_home : nat_lt tid.home.0 (length opened) ≡ true) (lawful : IsLawful (book_after (opening opened) history) (entries_so_far stamp new)) (done : HasCommitted (book_then stamp (book_after (opening opened) history) work front) tid)
    (all : (state : machine.NodeValue) → slice_get (book_then stamp (book_after (opening opened) history) work front).nodes (here work).0 ≡ Some state → AllLearn (book_then stamp (book_after (opening opened) history) work front) tid (here work).0 state servers)
    (ended : AreCommitted tid log) (logs : HoldsLogs stamp (book_after (opening opened) history) disk waiting work) (logged : HoldsLogged (here work).0 (book_at stamp (book_after (opening opened) history) work) logs.state log)
    (said : SaidAfter (here work).0 (book_at stamp (book_after (opening opened) history) work) log) where
  abbrev before : BookValue
  before = book_after (opening opened) history

  i : Inv before
  i = inv_is opened history coherent lawful_before_it

  abbrev at : ℕ
  at = (here work).0

  abbrev book : BookValue
  book = book_at stamp before work

  abbrev more : List Act
  more = front ++ learn_all (here work) tid servers

  abbrev first : List Entry
  first = entries_of at stamp front

  abbrev second : List Entry
  second = learning stamp at tid servers

  abbrev mid : BookValue
  mid = book_then stamp before work front

  more_is : entries_of at stamp more ≡ first ++ second
  more_is = map_both at stamp front (learn_all (here work) tid servers) ∙ ap (λ (es : List Entry). first ++ es) (learning_is stamp at tid servers)

  lawful_work : IsLawful before (entries_so_far stamp work)
  lawful_work = lawful_before stamp before i disk waiting work new more grows setting lawful

  lawful_both : IsLawful book (first ++ second)
  lawful_both = subst (IsLawful book) more_is (lawful_since stamp before i disk waiting work new more grows setting lawful)

  lawful_first : IsLawful book first
  lawful_first = lawful_front first second book lawful_both

  ran : RanOn at book mid logs.state
  ran = begun stamp before i disk waiting work new logs tid front servers grows setting plain lawful

  said_mid : SaidAfter at mid log
  said_mid = all_plain stamp at front book (inv_at stamp before i disk waiting work lawful_work) plain lawful_first log said

  logged_mid : HoldsLogged at mid said_mid.state log
  logged_mid = subst (λ (state : machine.NodeValue). HoldsLogged at mid state log) (same_Some ran.next said_mid.state (sym ran.there ∙ said_mid.there)) (ran.logged log logged)

  -- the history up to there
  abbrev whole : List Entry
  whole = history ++ (entries_so_far stamp work ++ first)

  whole_is : book_after (opening opened) whole ≡ mid
  whole_is = after_both history (entries_so_far stamp work ++ first) (opening opened) ∙ after_both (entries_so_far stamp work) first before

  whole_lawful : IsLawful (opening opened) whole
  whole_lawful = lawful_join history (entries_so_far stamp work ++ first) (opening opened) lawful_before_it (lawful_join (entries_so_far stamp work) first before lawful_work lawful_first)

  abbrev Enters : BookValue → Type 0
  Enters b = HasCommitted b tid → slice_get b.nodes at ≡ Some said_mid.state → AllLearn b tid at said_mid.state servers → IsLawful b second → HoldsLogged at b said_mid.state log → HoldsMade at b said_mid.state log → SaidAfter at (book_after b second) log

  enters : Enters mid
  enters = subst Enters whole_is (λ d t a g l h. learning_enters opened whole stamp at said_mid.state tid servers log coherent in_run at_home whole_lawful d t a g ended l h)

  entered : SaidAfter at (book_after mid second) log
  entered = enters done said_mid.there (all said_mid.state said_mid.there) (lawful_rest first second book lawful_both) logged_mid said_mid.said

  last_is : book_at stamp before new ≡ book_after mid second
  last_is = book_is stamp before i disk waiting work new more grows setting ∙ (ap (book_after book) more_is ∙ after_both first second book)

  pub learnt_says : SaidAfter (here new).0 (book_at stamp before new) log
  learnt_says = subst (λ (n : ℕ). SaidAfter n (book_at stamp before new) log) (sym (ap (λ s. s.node.0) setting)) (subst (λ (b : BookValue). SaidAfter at b log) (sym last_is) entered)
