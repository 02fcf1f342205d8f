-- The rounds that a script has over all sites are one at least, no fewer once more entries were made, and at most those with all faults of disks that are counted.
use Rattle.std.proofs.Common.{◌≤◌, ◌<◌, ◌+◌, ◌*◌, refl, subst, sym, ℕ, suc, List, [], ◌∷◌, length, arith}
use Rattle.std.specs.List.{fold}
use Rattle.qs_book_journal.specs.declared.entry.Entry.{Entry}
use Rattle.qs_book_script.specs.declared.script.Script.{Script}
use Rattle.qs_cell.specs.Starts.{journal_of}
use Rattle.qs_cell.specs.Visits.{Grows}
use Rattle.qs_world_plans.proofs.Budgets.{budget_of_least, budget_of_more, crashes_more}
use Rattle.qs_world_plans.specs.Budget.{disk_crashes, most_budget, most_disk_crashes}
use Rattle.qs_world_rounds.specs.Rounds.{Cast}
use Rattle.qs_world_sites.specs.Endings.{add_crashes, budget_of, crashes_of}
use Rattle.qs_world_sites.proofs.Staying.{each_same}
use Rattle.qs_world_sites.specs.Late.{RisesBy}
use Rattle.qs_world_sites.specs.Sites.{Each, GoesOn, SitesValue}

journal_more : (old new : List Entry) → Grows old new → disk_crashes old ≤ disk_crashes new
journal_more old new grows = subst (λ (journal : List Entry). disk_crashes old ≤ disk_crashes journal) (sym grows.is) (crashes_more old grows.made)

module _ {D : Type 0} where
  rest_of : (P : Cast D → Cast D → Type 0) (x y : Cast D) (xs ys : List (Cast D)) → Each P (x ∷ xs) (y ∷ ys) → Each P xs ys
  rest_of P x y xs ys all = record { count = let c = all.count in omega arith; each = λ n a b here there. all.each (suc n) a b here there }

  sum_more : (xs ys : List (Cast D)) (a b : ℕ) → Each GoesOn xs ys → a ≤ b → fold add_crashes a xs ≤ fold add_crashes b ys
  sum_more [] [] a b all le = le
  sum_more (x ∷ xs) (y ∷ ys) a b all le =
      let here : disk_crashes (journal_of x.node) ≤ disk_crashes (journal_of y.node) = journal_more (journal_of x.node) (journal_of y.node) (all.each 0 x y refl refl).grows in
      sum_more xs ys (add_crashes a x) (add_crashes b y) (rest_of GoesOn x y xs ys all) (omega arith)
  sum_more [] (y ∷ ys) a b all le = absurd (let c = all.count in omega arith)
  sum_more (x ∷ xs) [] a b all le = absurd (let c = all.count in omega arith)

  sum_most : (xs : List (Cast D)) (a : ℕ) → a ≤ most_disk_crashes → fold add_crashes a xs ≤ most_disk_crashes
  sum_most [] a le = le
  sum_most (x ∷ xs) a le = sum_most xs (add_crashes a x) (omega arith)

  -- ---- the rounds

  pub budget_least : (script : Script) (all : SitesValue D) → 1 ≤ budget_of script all
  budget_least script all = budget_of_least (length script.lines) (length script.faults) (crashes_of all.sites)

  pub budget_more : (script : Script) (old new : SitesValue D) → Each GoesOn old.sites new.sites → budget_of script old ≤ budget_of script new
  budget_more script old new stays =
      budget_of_more (length script.lines) (length script.faults) (crashes_of old.sites) (crashes_of new.sites) (sum_more old.sites new.sites 0 0 stays (omega arith))

  pub budget_most : (script : Script) (all : SitesValue D) → budget_of script all ≤ most_budget script
  budget_most script all = budget_of_more (length script.lines) (length script.faults) (crashes_of all.sites) most_disk_crashes (sum_most all.sites 0 (omega arith))

  pub most_on : (script : Script) (n : ℕ) (old new : SitesValue D) → n ≤ budget_of script old → Each GoesOn old.sites new.sites → n ≤ budget_of script new
  most_on script n old new le stays = le_on n (budget_of script old) (budget_of script new) le (budget_more script old new stays)
    where
      le_on : (a b c : ℕ) → a ≤ b → b ≤ c → a ≤ c
      le_on a b c first second = omega arith

  -- one more round may be made
  pub more_on : (script : Script) (n : ℕ) (old new : SitesValue D) → n < budget_of script old → Each GoesOn old.sites new.sites → n + 1 ≤ budget_of script new
  more_on script n old new less stays = lt_on n (budget_of script old) (budget_of script new) less (budget_more script old new stays)
    where
      lt_on : (a b c : ℕ) → a < b → b ≤ c → a + 1 ≤ c
      lt_on a b c first second = omega arith

pub lt_le_on : (a b c : ℕ) → a < b → b ≤ c → a < c
lt_le_on a b c first second = omega arith

pub rises_none : {D : Type 0} (count : ℕ) (sites : List (Cast D)) → Each (RisesBy (0 * count)) sites sites
rises_none count sites = each_same (RisesBy (0 * count)) (λ a. record { most = omega arith }) sites
