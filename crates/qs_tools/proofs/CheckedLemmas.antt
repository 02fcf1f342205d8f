-- A history is lawful exactly where no line of it breaks a clause.
use Rattle.std.proofs.Common.{◌≡◌, ℕ, ◌+◌, List, [], ◌∷◌, Option, Some, None, refl, sym, subst}
use Rattle.std.specs.Prelude.{◌↔◌}
use Rattle.qs_book_journal.specs.declared.entry.Entry.{Entry}
use Rattle.qs_book_machine.specs.Book.{BookValue}
use Rattle.qs_book_machine.specs.Lawful.{broken, effect, IsLawful}
use Rattle.qs_tools.specs.Checked.{first_broken_line}

abbrev from_first : ℕ → Option ℕ → Option (ℕ × ℕ) → Option (ℕ × ℕ)
from_first line first rest = elim first [ Some clause ↦ Some (line, clause) | None ↦ rest ]

pub none_lawful : (line : ℕ) (book : BookValue) (entries : List Entry) → first_broken_line line book entries ≡ None → IsLawful book entries
none_lawful line book [] h = tt
none_lawful line book (entry ∷ entries) h =
    by (broken book entry) refl (none_lawful (line + 1) (effect book entry) entries) h
  where
    by : (first : Option ℕ) → broken book entry ≡ first
        → (first_broken_line (line + 1) (effect book entry) entries ≡ None → IsLawful (effect book entry) entries)
        → from_first line first (first_broken_line (line + 1) (effect book entry) entries) ≡ None → IsLawful book (entry ∷ entries)
    by None is more g = (is, more g)
    by (Some clause) is more g = absurd (cc g)

pub lawful_none : (line : ℕ) (book : BookValue) (entries : List Entry) → IsLawful book entries → first_broken_line line book entries ≡ None
lawful_none line book [] l = refl
lawful_none line book (entry ∷ entries) l =
    subst (λ (first : Option ℕ). from_first line first (first_broken_line (line + 1) (effect book entry) entries) ≡ None) (sym l.0)
    (lawful_none (line + 1) (effect book entry) entries l.1)

pub lawful_iff : (line : ℕ) (book : BookValue) (entries : List Entry) → (first_broken_line line book entries ≡ None) ↔ IsLawful book entries
lawful_iff line book entries = (none_lawful line book entries, lawful_none line book entries)
