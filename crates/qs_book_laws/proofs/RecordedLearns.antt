-- What is on record of a committed transaction at files and audit, its member has still to learn: through whole runs.
use Rattle.qs_book_laws.proofs.Words.{◌≡◌, ℕ, ◌==◌, ◌&&◌, ◌||◌, ◌++◌, Bool, true, false, List, [], ◌∷◌, Option, Some, None, refl, sym, ap, subst, ◌∙◌, fold, append_assoc, arith, length, nat_lt, nat_tests, append-nil, slice_get-map, slice_get, is_some, list_any, lookup, is_at, option_map}
use Rattle.qs_book_laws.proofs.Words.{same_tid, Member, Tid, Entry, BookValue, cell_of_transaction, crossed_in, find_transaction, IsLawful, book_after, broken, effect, NodeValue, record_of, voter, voter_cmp, opened_node, opening, put_record, record_at, TransactionValue, is_abort, is_open, may_learn_still, part_of, Opened, Pending, OnRecord, Voter, Cell, IsCoherent, IsCommitted, IsDecided, crossed_at, held_at, keeps_contents}
use Rattle.std.proofs.lemmas.List.{length-map}
use Rattle.qs_book_machine.specs.declared.transaction.Cell.TheVariants as cells
use Rattle.qs_book_laws.proofs.Again.{record_there}
use Rattle.qs_book_laws.proofs.Alikes.{voter_equal}
use Rattle.qs_book_laws.proofs.Always.{unknown}
use Rattle.qs_book_laws.proofs.Committed.{ran_shut}
use Rattle.qs_book_laws.proofs.Covers.{voter_apart}
use Rattle.qs_book_laws.proofs.Durable.{ran_tidy}
use Rattle.qs_book_laws.proofs.Faces.{face}
use Rattle.qs_book_laws.proofs.Filled.{IsFilled, filled_step}
use Rattle.qs_book_laws.proofs.FoundParts.{OfFound, found_first, is_opened_with}
use Rattle.qs_book_laws.proofs.Histories.{stays}
use Rattle.qs_book_laws.proofs.LiveOpenings.{log_at}
use Rattle.qs_book_laws.proofs.Lives.{inc_of_node}
use Rattle.qs_book_laws.proofs.Maps.{lookup_put_apart}
use Rattle.qs_book_laws.proofs.Openings.{opening_holds}
use Rattle.qs_book_laws.proofs.Outcomes.{Inv}
use Rattle.qs_book_laws.proofs.Ready.{Ready, ready_plain, unanimous_ready}
use Rattle.qs_book_laws.proofs.ReadyCommits.{ready_once}
use Rattle.qs_book_laws.proofs.Recorded.{IsDue, due_step}
use Rattle.qs_book_laws.proofs.ShutOpenings.{opening_opens, opening_shut}
use Rattle.qs_book_laws.proofs.Steps.{after_both, lawful_front, lawful_rest, ran, stepped}
use Rattle.qs_book_laws.proofs.StillToLearn.{IsUnlearnt, found_unlearnt}
use Rattle.qs_book_laws.proofs.Takes.{some_same}
use Rattle.qs_book_laws.proofs.Tidy.{AllTidy, opening_tidy}
use Rattle.qs_book_laws.proofs.Turns.{Stands}
use Rattle.qs_book_laws.proofs.Unanimous.{Commits, step_commits}
use Rattle.qs_book_laws.proofs.Unlearnt.{pending_learns}

-- ---- as a run begins

none_put : (tid : Tid) (member : Member) (pending : List Pending) (es : List (Voter × OnRecord)) → list_any (is_opened_with tid member) pending ≡ false → lookup (is_at (voter_cmp (voter tid member.server.0))) es ≡ None
    → lookup (is_at (voter_cmp (voter tid member.server.0))) (fold put_record es pending) ≡ None
none_put tid member [] es off none = none
none_put tid member (p ∷ pending) es off none = none_put tid member pending (put_record es p) (or_right (is_opened_with tid member p) _ off)
    (lookup_put_apart voter_cmp (voter p.tid p.server.0) _ (λ x. voter_equal (voter p.tid p.server.0) x) (is_at (voter_cmp (voter tid member.server.0)))
    (voter_apart tid p.tid member.server.0 p.server.0 (λ at. far (same_tid p.tid tid) (p.server.0 == member.server.0) (near p.server.0 member.server.0 at) (or_left (is_opened_with tid member p) _ off))) es ∙ none)
  where
    or_left : (a b : Bool) → (a || b) ≡ false → a ≡ false
    or_left true b e = absurd (cc e)
    or_left false b e = refl

    or_right : (a b : Bool) → (a || b) ≡ false → b ≡ false
    or_right true b e = absurd (cc e)
    or_right false b e = e

    near : (m n : ℕ) → m ≡ n → (m == n) ≡ true
    near m n e = grind (arith, nat_tests, e)

    far : (b c : Bool) → c ≡ true → (b && c) ≡ false → b ≡ false
    far false c e f = refl
    far true true e f = absurd (cc f)
    far true false e f = absurd (cc e)

module _ (opened : List Opened) (coherent : IsCoherent opened) (tid : Tid) (member : Member) (keeps : keeps_contents member.server.0 ≡ true) (there : nat_lt member.node.0 (length opened) ≡ true) (at_home : nat_lt tid.home.0 (length opened) ≡ true) where
  abbrev at : List Entry → BookValue
  at history = book_after (opening opened) history

  one : (one : Opened) × (slice_get opened member.node.0 ≡ Some one)
  one = log_at opened member.node.0 there

  node_there : slice_get (opening opened).nodes member.node.0 ≡ Some (opened_node one.0)
  node_there = ap (λ (nodes : List NodeValue). slice_get nodes member.node.0) (opening_opens opened).nodes ∙ (slice_get-map opened_node opened member.node.0 ∙ ap (λ (o : Option Opened). option_map opened_node o) one.1)

  first_due : IsDue tid member keeps (opening opened)
  first_due tx inc found inc_now has = by (list_any (is_opened_with tid member) one.0.pending) refl
    where
      by : (b : Bool) → list_any (is_opened_with tid member) one.0.pending ≡ b → IsUnlearnt (part_of tx member inc)
      by false none = absurd (has (record_there (opening opened) tid member.node.0 member.server.0 (opened_node one.0) node_there ∙ none_put tid member one.0.pending [] none refl))
      by true is =
          let its : one.0.inc ≡ inc = some_same one.0.inc inc (sym (inc_of_node (opening opened) member.node.0 (opened_node one.0) node_there) ∙ inc_now) in
          let s : Stands tid (OfFound tid member inc) (opening opened) = found_first tid member inc opened one.0 one.1 its is in
          found_unlearnt (part_of tx member inc) (subst (OfFound tid member inc) (some_same s.tx tx (sym s.found ∙ found)) s.holds)

  -- the outcome of what a log names is known, since its home is in the run
  first_filled : IsFilled tid member keeps (opening opened)
  first_filled rec recorded plain not_yet = absurd (by (list_any (is_opened_with tid member) one.0.pending) refl)
    where
      decided : (o : Option TransactionValue) → find_transaction (opening opened) tid ≡ o → is_some o ≡ true → ⊥
      decided None none h = cc h
      decided (Some tx) found h = of tx.cell refl
        where
          homes : nat_lt tid.home.0 (length (opening opened).nodes) ≡ true
          homes = ap (λ (n : ℕ). nat_lt tid.home.0 n) (ap (λ (nodes : List NodeValue). length nodes) (opening_opens opened).nodes ∙ length-map opened opened_node) ∙ at_home

          of : (c : Cell) → tx.cell ≡ c → ⊥
          of cells.Open is = cc (sym (ap is_open is) ∙ (opening_opens opened).fresh.closed tid (face tx) (ap (option_map face) found) homes)
          of cells.Commit is = not_yet.0 (ap cell_of_transaction found ∙ ap Some is)
          of cells.Abort is = not_yet.1 (ap cell_of_transaction found ∙ ap Some is)

      by : (b : Bool) → list_any (is_opened_with tid member) one.0.pending ≡ b → ⊥
      by false none = cc (sym recorded ∙ (record_there (opening opened) tid member.node.0 member.server.0 (opened_node one.0) node_there ∙ none_put tid member one.0.pending [] none refl))
      by true is =
          let s : Stands tid (OfFound tid member one.0.inc) (opening opened) = found_first tid member one.0.inc opened one.0 one.1 refl is in
          decided (find_transaction (opening opened) tid) refl (ap is_some s.found)

  -- ---- one entry more

  record Both (book : BookValue) : Type 0 where
    pub filled : IsFilled tid member keeps book
    pub due : IsCommitted book tid → IsDue tid member keeps book

  -- what is open, and on record, is pending: so it is still to learn
  open_due : (history : List Entry) → IsLawful (opening opened) history → IsFilled tid member keeps (at history) → cell_of_transaction (find_transaction (at history) tid) ≡ Some cells.Open → crossed_at (at history) tid member ≡ false → IsDue tid member keeps (at history)
  open_due history lawful filled is plain tx inc found inc_now has = by (slice_get (at history).nodes member.node.0) refl
    where
      cell_is : tx.cell ≡ cells.Open
      cell_is = some_same tx.cell cells.Open (sym (ap cell_of_transaction found) ∙ is)

      held_some : held_at (at history) tid member ≡ [] → ⊥
      held_some = of (record_at member.node.0 (at history) tid member.server.0) refl
        where
          of : (o : Option OnRecord) → record_at member.node.0 (at history) tid member.server.0 ≡ o → held_at (at history) tid member ≡ [] → ⊥
          of None none = absurd (has none)
          of (Some rec) recorded = (filled rec recorded plain (λ c. cc (sym is ∙ c), λ a. cc (sym is ∙ a))).1

      by : (o : Option NodeValue) → slice_get (at history).nodes member.node.0 ≡ o → IsUnlearnt (part_of tx member inc)
      by None none = absurd (has (ap (λ (o : Option NodeValue). elim o [ None ↦ None | Some v ↦ record_of v tid member.server.0 ]) none))
      by (Some node) node_is =
          let its : node.inc ≡ inc = some_same node.inc inc (sym (inc_of_node (at history) member.node.0 node node_is) ∙ inc_now) in
          subst (λ (k : ℕ). IsUnlearnt (part_of tx member k)) its
          (pending_learns opened coherent tid member keeps there at_home history lawful tx node found node_is (ap is_abort cell_is) (sym (ap (λ (o : Option TransactionValue). crossed_in o member) found) ∙ plain) held_some)

  next : (history : List Entry) (entry : Entry) → IsLawful (opening opened) (history ++ entry ∷ []) → Both (at history) → Both (effect (at history) entry)
  next history entry lawful was = record {
    filled = filled_step tid member keeps (at history) entry inv tidy last was.filled;
    due = λ now. by now (cell_of_transaction (find_transaction (at history) tid)) refl;
  }
    where
      front : IsLawful (opening opened) history
      front = lawful_front history (entry ∷ []) (opening opened) lawful

      last : broken (at history) entry ≡ None
      last = (lawful_rest history (entry ∷ []) (opening opened) lawful).0

      inv : Inv (at history)
      inv = (ran history (opening opened) (opening_holds opened coherent) front).inv

      tidy : AllTidy (at history).nodes
      tidy = ran_tidy history (opening opened) (opening_tidy opened coherent)

      no_cell : (o : Option TransactionValue) → cell_of_transaction o ≡ None → o ≡ None
      no_cell None h = refl
      no_cell (Some tx) h = absurd (cc h)

      cell_there : (o : Option TransactionValue) (cell : Cell) → cell_of_transaction o ≡ Some cell → (tx : TransactionValue) × (o ≡ Some tx) × (tx.cell ≡ cell)
      cell_there None cell h = absurd (cc h)
      cell_there (Some tx) cell h = (tx, refl, some_same tx.cell cell h)

      goes : Ready (at history) tid member → IsDue tid member keeps (at history) → IsCommitted (effect (at history) entry) tid → IsDue tid member keeps (effect (at history) entry)
      goes ready due now = due_step tid member keeps (at history) entry inv tidy ready last now due

      by : IsCommitted (effect (at history) entry) tid → (o : Option Cell) → cell_of_transaction (find_transaction (at history) tid) ≡ o → IsDue tid member keeps (effect (at history) entry)
      by now (Some cells.Commit) is = goes (ready_once tid member opened history coherent front is) (was.due is) now
      by now (Some cells.Open) is =
          let c : Commits (at history) tid = step_commits (at history) entry tid (ran_shut history (opening opened) (opening_holds opened coherent) (opening_shut opened coherent) front) last is now in
          let ready : Ready (at history) tid member = unanimous_ready (at history) tid member c.tx c.found c.unanimous in
          goes ready (open_due history front was.filled is (ready_plain (at history) tid member ready)) now
      by now (Some cells.Abort) is =
          let d : IsDecided (effect (at history) entry) tid cells.Abort = stays (at history) (effect (at history) entry) tid cells.Abort (stepped (at history) entry inv last).kept (record { decided = refl; cell_is = is }) in
          absurd (cc (sym d.cell_is ∙ now))
      by now None none =
          let tx = cell_there (find_transaction (effect (at history) entry) tid) cells.Commit now in
          let begun : tx.0.cell ≡ cells.Open = unknown tid (λ t. t.cell ≡ cells.Open) (at history) entry last (λ label client ticks. refl) (no_cell (find_transaction (at history) tid) none) tx.0 tx.1 in
          absurd (cc (sym begun ∙ tx.2))

  on : (entries history : List Entry) → IsLawful (opening opened) (history ++ entries) → Both (at history) → Both (at (history ++ entries))
  on [] history lawful b = subst (λ (h : List Entry). Both (at h)) (sym (append-nil history)) b
  on (entry ∷ entries) history lawful b =
      let one : history ++ (entry ∷ entries) ≡ (history ++ entry ∷ []) ++ entries = sym (append_assoc history (entry ∷ []) entries) in
      let whole : IsLawful (opening opened) ((history ++ entry ∷ []) ++ entries) = subst (IsLawful (opening opened)) one lawful in
      let early : IsLawful (opening opened) (history ++ entry ∷ []) = lawful_front (history ++ entry ∷ []) entries (opening opened) whole in
      subst (λ (h : List Entry). Both (at h)) (sym one)
      (on entries (history ++ entry ∷ []) whole (subst Both (sym (after_both history (entry ∷ []) (opening opened))) (next history entry early b)))

  -- what is on record of a committed transaction, its member has still to learn
  pub recorded_learns : (history : List Entry) → IsLawful (opening opened) history → IsCommitted (at history) tid → (tx : TransactionValue) (node : NodeValue) → find_transaction (at history) tid ≡ Some tx → slice_get (at history).nodes member.node.0 ≡ Some node
      → (record_of node tid member.server.0 ≡ None → ⊥) → may_learn_still (part_of tx member node.inc) ≡ true
  recorded_learns history lawful is tx node found node_is has =
      (on history [] lawful (record { filled = first_filled; due = λ c. first_due })).due is tx node.inc found (inc_of_node (at history) member.node.0 node node_is)
      (λ none. has (sym (record_there (at history) tid member.node.0 member.server.0 node node_is) ∙ none))
