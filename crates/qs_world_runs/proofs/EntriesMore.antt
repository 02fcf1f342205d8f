-- What holds of the machine after the entries of a step so far, once they are lawful, goes on with one more of them.
use Rattle.qs_world_runs.proofs.Words.{◌≡◌, ℕ, List, [], ◌∷◌, ◌++◌, Option, Some, None, refl, sym, ap, subst, ◌∙◌, length, Member, Tid, Act, after_both, held, lawful_front, lawful_rest, BookValue, find_transaction, broken_issue, book_after, broken, effect, TransactionValue, Op, entries_of, entry_of, Actor, actor, lasts_ran, LastsWell}
use Rattle.std.proofs.lemmas.List.{map-append}
use Rattle.qs_book_journal.specs.declared.entry.Act.TheVariants as acts
use Rattle.qs_book_machine.specs.Lawful.{IsLawful}

module _ (n stamp : ℕ) where
  module _ (before : BookValue) (w : LastsWell before) where
    abbrev pub Lawful : List Act → Type 0
    Lawful entries = IsLawful before (entries_of n stamp entries)

    abbrev pub book_at : List Act → BookValue
    book_at entries = book_after before (entries_of n stamp entries)

    more_entries : (entries : List Act) (act : Act) → entries_of n stamp (entries ++ act ∷ []) ≡ entries_of n stamp entries ++ entry_of n stamp act ∷ []
    more_entries entries act = map-append (entry_of n stamp) entries (act ∷ [])

    pub one_more : (X Y : BookValue → Type 0) (entries : List Act) (act : Act) → ((book : BookValue) → LastsWell book → broken book (entry_of n stamp act) ≡ None → X book → Y (effect book (entry_of n stamp act)))
        → (Lawful entries → X (book_at entries)) → Lawful (entries ++ act ∷ []) → Y (book_at (entries ++ act ∷ []))
    one_more X Y entries act goes holds lawful = subst Y (sym now_is) (goes (book_at entries) (lasts_ran (entries_of n stamp entries) before w front) last.0 (holds front))
      where
        both : IsLawful before (entries_of n stamp entries ++ entry_of n stamp act ∷ [])
        both = subst (IsLawful before) (more_entries entries act) lawful

        front : Lawful entries
        front = lawful_front (entries_of n stamp entries) (entry_of n stamp act ∷ []) before both

        last : IsLawful (book_at entries) (entry_of n stamp act ∷ [])
        last = lawful_rest (entries_of n stamp entries) (entry_of n stamp act ∷ []) before both

        now_is : book_at (entries ++ act ∷ []) ≡ effect (book_at entries) (entry_of n stamp act)
        now_is = ap (book_after before) (more_entries entries act) ∙ after_both (entries_of n stamp entries) (entry_of n stamp act ∷ []) before

  -- what is issued is of a transaction that the machine knows
  pub issue_known : (book : BookValue) (tid : Tid) (issuer member : Member) (number : ℕ) (op : Op) → broken book (entry_of n stamp (acts.Issue tid issuer member number op)) ≡ None → (tx : TransactionValue) × (find_transaction book tid ≡ Some tx)
  issue_known book tid issuer member number op fine = by (find_transaction book tid) refl
    where
      it : Actor book (entry_of n stamp (acts.Issue tid issuer member number op))
      it = actor book (entry_of n stamp (acts.Issue tid issuer member number op)) fine

      allowed : broken_issue n it.state (length book.nodes) tid (find_transaction book tid) issuer member number op ≡ None
      allowed = (held it.state.up 2 _ it.allowed).1

      by : (o : Option TransactionValue) → find_transaction book tid ≡ o → (tx : TransactionValue) × (find_transaction book tid ≡ Some tx)
      by None none = absurd (cc (subst (λ (o : Option TransactionValue). broken_issue n it.state (length book.nodes) tid o issuer member number op ≡ None) none allowed))
      by (Some tx) found = (tx, found)
