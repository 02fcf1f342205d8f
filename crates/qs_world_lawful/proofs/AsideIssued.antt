-- From what the machine has beside a node that runs: each note that its files issued is noted or waited for.
use Rattle.qs_world_lawful.proofs.Words.{◌≡◌, ◌⊎◌, inl, inr, ℕ, ◌==◌, ◌||◌, ◌&&◌, not, Bool, true, false, List, [], ◌∷◌, Option, Some, None, refl, sym, ◌∙◌, is_some, list_any, is_commit, awaits_note, has_noted, Outstanding, Participant, awaits_count, is_note_with, part_or_new}
use Rattle.qs_tm.specs.Manager as tm
use Rattle.qs_tm.specs.Participant.{is_by_files}
use Rattle.qs_world_lawful.specs.AsideLaws.{EachHoldsIssued}

any_less : (count : ℕ) (xs : List Outstanding) → list_any (is_note_with count) xs ≡ true → list_any is_by_files xs ≡ true
any_less count [] is = absurd (cc is)
any_less count (x ∷ xs) is = by (is_by_files x) (x.count == count) refl (any_less count xs) is
  where
    by : (a b : Bool) → is_by_files x ≡ a → (list_any (is_note_with count) xs ≡ true → list_any is_by_files xs ≡ true) → ((a && b) || list_any (is_note_with count) xs) ≡ true → (is_by_files x || list_any is_by_files xs) ≡ true
    by true b files rest h = rw files refl
    by false b files rest h = rw files (rest h)

abbrev Answered : ℕ → Participant → Type 0
Answered count part = (has_noted count part ≡ true) ⊎ (awaits_note part ≡ true)

pub issued_held : EachHoldsIssued
issued_held book node b tid tx found held count low is = by (tm.part_of tid node.manager) refl held
  where
    weaker : (part : Participant) → (has_noted count part ≡ true) ⊎ (awaits_count count part ≡ true) → Answered count part
    weaker part (inl noted) = inl noted
    weaker part (inr waits) = inr (any_less count part.waiting waits)

    by : (o : Option Participant) → tm.part_of tid node.manager ≡ o → (is_some o || not (is_commit tx.cell)) ≡ true → Answered count (part_or_new o)
    by (Some part) known h = weaker part (((b.at tid).parts tx part found known).notes.issued count low is)
    by None unknown h = absurd (cc (sym (((b.at tid).strangers tx found unknown (undone h)).unissued count low) ∙ is))
      where
        undone : (false || not (is_commit tx.cell)) ≡ true → is_commit tx.cell ≡ false
        undone e = of (is_commit tx.cell) refl e
          where
            of : (c : Bool) → is_commit tx.cell ≡ c → (false || not c) ≡ true → is_commit tx.cell ≡ false
            of false is e = is
            of true is e = absurd (cc e)
