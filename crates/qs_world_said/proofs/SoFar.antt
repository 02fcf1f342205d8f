-- What a step entered so far goes on by the entries of a deed, and where all of it is lawful, what it entered before is.
use Rattle.std.proofs.Common.{◌≡◌, ◌∙◌, ℕ, List, ◌++◌, ap, subst}
use Rattle.qs_book_journal.specs.declared.entry.Act.{Act}
use Rattle.qs_book_journal.specs.declared.entry.Entry.{Entry}
use Rattle.qs_book_laws.proofs.Steps.{after_both, lawful_front, lawful_rest}
use Rattle.qs_book_machine.specs.Book.{BookValue}
use Rattle.qs_book_machine.specs.Lawful.{IsLawful, book_after}
use Rattle.qs_node_step.specs.State.{Work}
use Rattle.qs_world.specs.Posting.{entries_of}
use Rattle.qs_world_lawful.specs.Entering.{book_at, entries_so_far}
use Rattle.qs_world_said.proofs.Frames.{so_far}

module _ (stamp : ℕ) (before : BookValue) (work new : Work) (more : List Act) (setting : new.node.setting ≡ work.node.setting) (entries : new.out.entries ≡ work.out.entries ++ more) where
  abbrev pub added : List Entry
  added = entries_of work.node.setting.node.0 stamp more

  pub lawful_all : IsLawful before (entries_so_far stamp new) → IsLawful before (entries_so_far stamp work ++ added)
  lawful_all = subst (IsLawful before) (so_far stamp work new more setting entries)

  pub book_then : book_at stamp before new ≡ book_after (book_at stamp before work) added
  book_then = ap (book_after before) (so_far stamp work new more setting entries) ∙ after_both (entries_so_far stamp work) added before

  pub was_lawful : IsLawful before (entries_so_far stamp new) → IsLawful before (entries_so_far stamp work)
  was_lawful lawful = lawful_front (entries_so_far stamp work) added before (lawful_all lawful)

  pub more_lawful : IsLawful before (entries_so_far stamp new) → IsLawful (book_at stamp before work) added
  more_lawful lawful = lawful_rest (entries_so_far stamp work) added before (lawful_all lawful)
