-- The lists of the nodes as the code has them: one list of lists, by number.
use Rattle.std.specs.Prelude.{◌≡◌, ℕ, ◌<◌, List, [], length, get_or}
use Rattle.std.specs.List.{flat_map}
use Rattle.qs_book_journal.specs.declared.entry.Entry.{Entry}
use Rattle.qs_world_merge.specs.MergedByKey.{flat_of}
use Rattle.qs_world_merge.specs.Observed.{Observed, journals_of}
use Rattle.qs_node_step.specs.declared.trace.Step.{Step}

abbrev pub EachJournalListed : Type 0
EachJournalListed = (journals : List (List Entry)) (observed : ℕ → Observed) → ((n : ℕ) → n < length journals → (observed n).journal ≡ get_or journals n []) → journals_of (length journals) observed ≡ journals

abbrev pub EachTraceListed : Type 0
EachTraceListed = (traces : List (List Step)) (own : ℕ → List Step) → ((n : ℕ) → n < length traces → own n ≡ get_or traces n []) → flat_of (length traces) own ≡ flat_map (λ steps. steps) traces
