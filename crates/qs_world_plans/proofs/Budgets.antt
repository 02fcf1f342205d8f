-- The rounds that a script has are one at least, and no fewer once more faults of disks were counted, which are no fewer once more entries were made.
use Rattle.std.proofs.Common.{◌≡◌, ◌≤◌, ◌+◌, ◌*◌, ℕ, List, ◌++◌, arith}
use Rattle.std.specs.List.{count_by}
use Rattle.std.proofs.lemmas.List.Sums.{sum_by-append}
use Rattle.std.proofs.lemmas.Nat.{mul-le}
use Rattle.qs_book_journal.specs.declared.entry.Entry.{Entry}
use Rattle.qs_world_plans.specs.Budget.{capped, budget_of, disk_crashes, rounds_each, tells_disk_crash}

capped_more : (a b : ℕ) → a ≤ b → capped a ≤ capped b
capped_more a b le = omega arith

capped_least : (a : ℕ) → 1 ≤ a → 1 ≤ capped a
capped_least a le = omega arith

pub budget_of_more : (commands faults x y : ℕ) → x ≤ y → budget_of commands faults x ≤ budget_of commands faults y
budget_of_more commands faults x y le =
    let each = capped (rounds_each * capped (commands + 1)) in
    let more : capped (capped (faults + x) + 1) ≤ capped (capped (faults + y) + 1) = omega arith in
    capped_more _ _ (mul-le each (capped (capped (faults + x) + 1)) each (capped (capped (faults + y) + 1)) (omega arith) more)

pub budget_of_least : (commands faults x : ℕ) → 1 ≤ budget_of commands faults x
budget_of_least commands faults x =
    let one : 1 ≤ capped (rounds_each * capped (commands + 1)) = omega arith in
    let two : 1 ≤ capped (capped (faults + x) + 1) = omega arith in
    capped_least _ (mul-le 1 1 (capped (rounds_each * capped (commands + 1))) (capped (capped (faults + x) + 1)) one two)

pub crashes_more : (journal made : List Entry) → disk_crashes journal ≤ disk_crashes (journal ++ made)
crashes_more journal made =
    let all : count_by tells_disk_crash (journal ++ made) ≡ count_by tells_disk_crash journal + count_by tells_disk_crash made = sum_by-append _ journal made in
    omega arith
