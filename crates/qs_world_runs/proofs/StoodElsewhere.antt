-- What stands of other nodes' requests after a node's entries stood before: each entry of a node issues requests of that node alone.
use Rattle.qs_world_runs.proofs.Words.{◌≡◌, ◌⊎◌, inl, inr, ℕ, ◌==◌, Bool, true, false, List, [], ◌∷◌, Some, None, is_some, refl, sym, ap, subst, ◌∙◌, find, slice_get, Member, Tid, Act, Inv, ran, BookValue, find_transaction, book_after, broken, effect, Cell, TransactionValue, is_standing, requests_at, standing_request, Request, RequestNo, entries_of, entry_of, same_or_apart, Begins, Turning, by_entry, Turns, some_same, equal_apart}
use Rattle.qs_book_machine.specs.Book.{ticks_at}
use Rattle.qs_book_machine.specs.Lawful.{IsLawful}
use Rattle.qs_book_machine.specs.Transaction.{begun, is_open}
use Rattle.qs_world_lawful.proofs.Apart.{Apart}
use Rattle.qs_world_lawful.proofs.Turning.{stood}
use Rattle.qs_world_lawful.proofs.TurnedRequests.{AtNumber, at_number}
use Rattle.qs_world_runs.proofs.PlacedIssued.{stood_before}

-- it stands in the machine, undecided
pub record Stands (book : BookValue) (tid : Tid) (at : RequestNo) (member : Member) : Type 0 where
  pub tx : TransactionValue
  pub found : find_transaction book tid ≡ Some tx
  pub undecided : is_open tx.cell ≡ true
  pub stands : is_some (standing_request tx at member) ≡ true

module _ (n stamp : ℕ) (tid : Tid) (at : RequestNo) (member : Member) (far : (at.link.from.0 == n) ≡ false) where
  not_own : at.link.from.0 ≡ n → ⊥
  not_own own = equal_apart at.link.from.0 n own far

  -- one entry
  module _ (book : BookValue) (act : Act) (i : Inv book) (h : broken book (entry_of n stamp act) ≡ None) where
    of_begun : Begins book (entry_of n stamp act) → Stands (effect book (entry_of n stamp act)) tid at member → Stands book tid at member
    of_begun b s = by (same_or_apart b.tid tid)
      where
        by : (b.tid ≡ tid) ⊎ Apart b.tid tid → Stands book tid at member
        by (inl same) = absurd (let none : is_some (standing_request (begun b.label b.client (ticks_at (slice_get book.nodes n))) at member) ≡ true = subst (λ (tx : TransactionValue). is_some (standing_request tx at member) ≡ true)
            (some_same (sym s.found ∙ (ap (find_transaction (effect book (entry_of n stamp act))) (sym same) ∙ b.stands))) s.stands in cc none)
        by (inr apart) = record { tx = s.tx; found = sym (b.others tid apart) ∙ s.found; undecided = s.undecided; stands = s.stands }

    of_turned : Turning book (entry_of n stamp act) → Stands (effect book (entry_of n stamp act)) tid at member → Stands book tid at member
    of_turned t s = let p = stood (Turns n t.now book.place) book (effect book (entry_of n stamp act)) t.turned tid s.tx s.found in
        record { tx = p.0; found = p.1; undecided = was_open p.0 p.2.decided; stands = by p.0 (at_number n t.now book.place p.0 s.tx p.2.requests at) }
      where
        Still : List Request → Type 0
        Still rs = is_some (find (is_standing member) rs) ≡ true

        was_open : (tx : TransactionValue) → (is_open tx.cell ≡ false → s.tx.cell ≡ tx.cell) → is_open tx.cell ≡ true
        was_open tx stays = of (is_open tx.cell) refl
          where
            of : (b : Bool) → is_open tx.cell ≡ b → is_open tx.cell ≡ true
            of true is = is
            of false over = absurd (let undecided : is_open tx.cell ≡ true = subst (λ (c : Cell). is_open c ≡ true) (stays over) s.undecided in cc (undecided, over))

        by : (tx : TransactionValue) → AtNumber n tx s.tx at → is_some (standing_request tx at member) ≡ true
        by tx (inl same) = subst Still same s.stands
        by tx (inr (inl more)) = absurd (not_own more.from)
        by tx (inr (inr served)) = stood_before served.member member (requests_at tx at) (subst Still served.requests s.stands)

    stood_one : Stands (effect book (entry_of n stamp act)) tid at member → Stands book tid at member
    stood_one s = by (by_entry book (entry_of n stamp act) i h)
      where
        by : Begins book (entry_of n stamp act) ⊎ Turning book (entry_of n stamp act) → Stands book tid at member
        by (inl b) = of_begun b s
        by (inr t) = of_turned t s

  -- a step's
  pub stood_elsewhere : (list : List Act) (book : BookValue) → Inv book → IsLawful book (entries_of n stamp list) → Stands (book_after book (entries_of n stamp list)) tid at member → Stands book tid at member
  stood_elsewhere [] book i lawful s = s
  stood_elsewhere (act ∷ list) book i lawful s = stood_one book act i lawful.0 (stood_elsewhere list (effect book (entry_of n stamp act)) (ran (entry_of n stamp act ∷ []) book i (lawful.0, tt)).inv lawful.1 s)
