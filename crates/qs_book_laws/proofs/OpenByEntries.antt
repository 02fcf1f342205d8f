-- A request of a transaction to a node stands open by the entries of a lawful history exactly where the machine has it open.
use Rattle.qs_book_laws.proofs.Words.{◌≡◌, ℕ, ◌==◌, ◌&&◌, ◌||◌, Bool, true, false, not, List, [], ◌∷◌, Option, Some, None, refl, sym, ap, subst, ◌∙◌, nat_lt, list_any, same_tid, NodeNo, Tid, files_no, Act, Issue, Entry, TransactionValue, is_open_link, BookValue, find_transaction, inc_at, IsLawful, book_after, opening, Opened, is_counted, IsCoherent}
use Rattle.qs_book_laws.specs.Gone.{waits_still, is_open_issue, stands_open}
use Rattle.qs_book_laws.proofs.Gone.{Keeps}
use Rattle.qs_book_laws.proofs.LinkCounts.{stays}
use Rattle.qs_book_laws.proofs.LinkHistories.{sent_of, Known, through}
use Rattle.qs_book_laws.proofs.LinkLists.{Sents}
use Rattle.qs_book_laws.proofs.LinkSteps.{is_lasting_issue, some_last, Sound}
use Rattle.qs_book_laws.proofs.Openings.{opening_holds}
use Rattle.qs_book_laws.proofs.OpenThen.{is_open_in, is_open_at}
use Rattle.qs_book_laws.proofs.StoodOpen.{ran_keeps, bare_first, keeps_first}
use Rattle.qs_book_laws.proofs.Unanswered.{times, all_of}
use Rattle.qs_book_laws.proofs.WaitsByEntries.{waits_through, is_waiting_issue, some_wait, wait_through}

module _ (tid : Tid) (node : NodeNo) where
  -- ---- for a client that waits, or on a link

  split_issue : (from : NodeNo) (act : Act) (since : List Entry) → is_open_issue tid node from act since ≡ (is_waiting_issue tid node act since || is_lasting_issue tid node from act since)
  split_issue from (Issue t issuer member number op) since =
      by (same_tid t tid && (member.node.0 == node.0)) (issuer.server.0 == files_no) (waits_still issuer.server.0 since) (not (is_counted tid node from number since))
    where
      by : (g f w c : Bool) → (g && (f || (w || c))) ≡ ((g && w) || (g && (f || c)))
      by false f w c = refl
      by true true true c = refl
      by true true false c = refl
      by true false true c = refl
      by true false false c = refl
  split_issue from act since = refl

  split : (entries : List Entry) → stands_open tid node entries ≡ (some_wait tid node entries || some_last tid node entries)
  split [] = refl
  split (entry ∷ since) =
      ap (λ (b : Bool). b || stands_open tid node since) (split_issue entry.node entry.act since)
      ∙ (ap (λ (b : Bool). (is_waiting_issue tid node entry.act since || is_lasting_issue tid node entry.node entry.act since) || b) (split since)
      ∙ by (is_waiting_issue tid node entry.act since) (is_lasting_issue tid node entry.node entry.act since) (some_wait tid node since) (some_last tid node since))
    where
      by : (w l a b : Bool) → ((w || l) || (a || b)) ≡ ((w || a) || (l || b))
      by true l a b = refl
      by false true true b = refl
      by false true false b = refl
      by false false a b = refl

  -- ---- from an opening

  pub open_as : (opened : List Opened) (history : List Entry) → IsCoherent opened → IsLawful (opening opened) history → is_open_at (book_after (opening opened) history) tid node ≡ stands_open tid node history
  open_as opened history coherent lawful = by (find_transaction last tid) refl ∙ sym (split history)
    where
      first : BookValue
      first = opening opened

      last : BookValue
      last = book_after (opening opened) history

      none_sent : (tx : TransactionValue) → find_transaction first tid ≡ Some tx → tx.sent ≡ []
      none_sent tx there = (bare_first tid node 0 opened tx there).0

      known : Known tid node first
      known tx there = subst (λ (es : Sents). Sound tid node (inc_at first) es) (sym (none_sent tx there)) (record { rising = tt; fit = tt })

      nothing : (o : Option TransactionValue) → find_transaction first tid ≡ o → list_any (stays tid node (inc_at first) history) (sent_of tid node (find_transaction first tid)) ≡ false
      nothing None there = ap (λ (o : Option TransactionValue). list_any (stays tid node (inc_at first) history) (sent_of tid node o)) there
      nothing (Some tx) there =
          ap (λ (o : Option TransactionValue). list_any (stays tid node (inc_at first) history) (sent_of tid node o)) there ∙ ap (λ (es : Sents). list_any (stays tid node (inc_at first) history) es) (none_sent tx there)

      links : list_any (is_open_link node) (sent_of tid node (find_transaction last tid)) ≡ some_last tid node history
      links =
          through tid node history first (opening_holds opened coherent) lawful known
          ∙ ap (λ (b : Bool). b || some_last tid node history) (nothing (find_transaction first tid) refl)

      keeps : Keeps tid node 0 last (waits_through [] history)
      keeps = ran_keeps tid node 0 history first [] (opening_holds opened coherent) lawful (keeps_first tid node 0 opened coherent)

      clients : nat_lt 0 (times tid node (all_of (waits_through [] history))) ≡ some_wait tid node history
      clients = wait_through tid node history []

      by : (o : Option TransactionValue) → find_transaction last tid ≡ o → is_open_at last tid node ≡ (some_wait tid node history || some_last tid node history)
      by None none =
          ap (is_open_in node) none
          ∙ sym (ap (λ (b : Bool). b || some_last tid node history) (sym clients ∙ ap (λ (n : ℕ). nat_lt 0 n) (keeps.none none))
          ∙ (sym links ∙ ap (λ (o : Option TransactionValue). list_any (is_open_link node) (sent_of tid node o)) none))
      by (Some tx) found =
          ap (is_open_in node) found
          ∙ (ap (λ (n : ℕ). nat_lt 0 n || list_any (is_open_link node) tx.sent) (keeps.goes tx found).waits
          ∙ (ap (λ (b : Bool). b || list_any (is_open_link node) tx.sent) clients
          ∙ ap (λ (b : Bool). some_wait tid node history || b) (sym (ap (λ (o : Option TransactionValue). list_any (is_open_link node) (sent_of tid node o)) found) ∙ links)))
