-- The lists of the nodes as the code has them.
use Rattle.std.proofs.Common.{◌≡◌, ℕ, ◌≤◌, ◌<◌, zero, suc, List, [], ◌∷◌, ◌++◌, length, get_or, take, refl, sym, ap, ◌∙◌, arith, le_refl, take-suc}
use Rattle.std.specs.List.{flat_map}
use Rattle.std.proofs.Math.Seq.{take-length}
use Rattle.std.proofs.lemmas.List.{flat_map_more}
use Rattle.qs_book_journal.specs.declared.entry.Entry.{Entry}
use Rattle.qs_world_merge.specs.MergedByKey.{flat_of}
use Rattle.qs_world_merge.specs.Observed.{Observed, journals_of}
use Rattle.qs_node_step.specs.declared.trace.Step.{Step}
use Rattle.qs_world_traces.specs.Listed.{EachJournalListed, EachTraceListed}

abbrev flat : {X : Type 0} → List (List X) → List X
flat lists = flat_map (λ xs. xs) lists

journals_up_to : (n : ℕ) (journals : List (List Entry)) (observed : ℕ → Observed) → n ≤ length journals → ((k : ℕ) → k < length journals → (observed k).journal ≡ get_or journals k []) → journals_of n observed ≡ take n journals
journals_up_to zero journals observed few same = refl
journals_up_to (suc n) journals observed few same =
    ap (λ (l : List (List Entry)). l ++ (observed n).journal ∷ []) (journals_up_to n journals observed (omega (arith, few)) same)
    ∙ (ap (λ (j : List Entry). take n journals ++ j ∷ []) (same n (omega (arith, few))) ∙ sym (take-suc journals n [] (omega (arith, few))))

pub each_journal_listed : EachJournalListed
each_journal_listed journals observed same = journals_up_to (length journals) journals observed (le_refl (length journals)) same ∙ take-length journals

traces_up_to : (n : ℕ) (traces : List (List Step)) (own : ℕ → List Step) → n ≤ length traces → ((k : ℕ) → k < length traces → own k ≡ get_or traces k []) → flat_of n own ≡ flat (take n traces)
traces_up_to zero traces own few same = refl
traces_up_to (suc n) traces own few same =
    ap (λ (l : List Step). l ++ own n) (traces_up_to n traces own (omega (arith, few)) same)
    ∙ (ap (λ (l : List Step). flat (take n traces) ++ l) (same n (omega (arith, few)))
    ∙ (flat_map_more (λ (xs : List Step). xs) [] (take n traces) (get_or traces n []) ∙ ap (λ (l : List (List Step)). flat l) (sym (take-suc traces n [] (omega (arith, few))))))

pub each_trace_listed : EachTraceListed
each_trace_listed traces own same = traces_up_to (length traces) traces own (le_refl (length traces)) same ∙ ap (λ (l : List (List Step)). flat l) (take-length traces)
