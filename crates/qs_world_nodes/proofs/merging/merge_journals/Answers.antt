use Rattle.std.proofs.Common.{◌∙◌, ℕ, rules, sym, subst}
use Rattle.std.proofs.lemmas.List.Sorted.{answers_always}
use Rattle.qs_book_journal.specs.declared.entry.Entry.{Entry}
use Rattle.qs_book_journal.specs.Merge.{IsMerged}
use Rattle.qs_book_journal.proofs.MergeLemmas.{merged_by}
use Rattle.qs_world_nodes.proofs.merging.merge_journals.Goals as goal

pub returns : goal.returns
returns c =
    let key : Entry → ℕ × ℕ = λ entry. (entry.stamp, entry.node.0) in
    let asked = answers_always _ _ _ (λ f a r g h. search rules) in
    let sort = c.in_ok-sort_by_key.ensures in
    subst (IsMerged c.args.journals) (sym c.from_vec.ensures)
    (merged_by c.args.journals c.into_vec-entries.result.items c.sort_by_key.new.self.items (c.into_vec-entries.ensures ∙ c.in_ok-joined.ensures)
    sort.permutation (sort.sorted key asked) (sort.stable key asked))
