-- Nothing was served of a transaction that has not begun.
use Rattle.qs_book_laws.proofs.Words.{◌≡◌, Bool, true, false, List, [], ◌∷◌, Option, Some, None, refl, sym, ap, ◌∙◌, is_some, same_tid, same_tid-true, Member, Tid, Act, Entry, BookValue, find_transaction, IsLawful, book_after, effect, TransactionValue, change_of_request, change_served, changes_served, is_share, standing_at}
use Rattle.qs_book_journal.specs.declared.entry.Act.TheVariants as acts
use Rattle.qs_book_laws.proofs.Grows.{step_grows}
use Rattle.qs_book_laws.proofs.Holding.{left_of}
use Rattle.qs_book_laws.proofs.Outcomes.{Inv}
use Rattle.qs_book_laws.proofs.Shares.{number}
use Rattle.qs_book_laws.proofs.Steps.{stepped}

module _ (tid : Tid) (member : Member) where
  known_still : (entries : List Entry) (book : BookValue) → Inv book → IsLawful book entries → is_some (find_transaction book tid) ≡ true → is_some (find_transaction (book_after book entries) tid) ≡ true
  known_still [] book i lawful is = is
  known_still (entry ∷ entries) book i lawful is = known_still entries (effect book entry) (stepped book entry i lawful.0).inv lawful.1 ((step_grows tid member book entry i lawful.0).known is)

  none_before : (entries : List Entry) (book : BookValue) → Inv book → IsLawful book entries → find_transaction (book_after book entries) tid ≡ None → find_transaction book tid ≡ None
  none_before entries book i lawful none = by (find_transaction book tid) refl
    where
      by : (o : Option TransactionValue) → find_transaction book tid ≡ o → o ≡ None
      by None is = refl
      by (Some tx) is = absurd (cc (sym (known_still entries book i lawful (ap is_some is)) ∙ ap is_some none))

  unserved_act : (book : BookValue) (act : Act) → find_transaction book tid ≡ None → change_served book tid member act ≡ []
  unserved_act book (acts.Serve t other from number reply) none = by (is_share tid member t other) refl
    where
      by : (b : Bool) → is_share tid member t other ≡ b → change_served book tid member (acts.Serve t other from number reply) ≡ []
      by true is = rw is (ap (λ (o : Option TransactionValue). change_of_request (standing_at o (record { link = record { from = from; to = other.node }; number = number }) other) reply) (ap (find_transaction book) (same_tid-true t tid (left_of (same_tid t tid) _ is)) ∙ none))
      by false is = rw is refl
  unserved_act book act none = refl

  pub unserved : (entries : List Entry) (book : BookValue) → Inv book → IsLawful book entries → find_transaction (book_after book entries) tid ≡ None → changes_served book tid member entries ≡ []
  unserved [] book i lawful none = refl
  unserved (entry ∷ entries) book i lawful none = rw (unserved_act book entry.act (none_before (entry ∷ entries) book i lawful none), unserved entries (effect book entry) (stepped book entry i lawful.0).inv lawful.1 none) refl
