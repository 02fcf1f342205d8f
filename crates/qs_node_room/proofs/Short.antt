-- A record that has a spelling names at most 16 nodes, and so does each of a log on a disk.
use Rattle.std.proofs.Common.{◌≡◌, ℕ, ◌+◌, ◌≤◌, arith, Bool, true, List, [], ◌∷◌, ◌++◌, length, suc, refl, subst}
use Rattle.std.proofs.lemmas.Bool.Decides.{nat_tests}
use Rattle.std.specs.Prelude.{◌&&◌, nat_le}
use Rattle.std.specs.List.{list_all}
use Rattle.qs_base.specs.declared.identifiers.NodeNo.{NodeNo}
use Rattle.qs_log_batch.specs.Batch.{SpellsBatches, SpellsRecords, joined}
use Rattle.qs_record.proofs.Fronts.{record_valid}
use Rattle.qs_record.specs.Grammar.{is_node, is_rising}
use Rattle.qs_record.specs.declared.record.Record.{Record}
use Rattle.qs_record.specs.declared.record.Record.TheVariants as records
use Rattle.qs_node_room.specs.Opens.{EachIsShort, EachLogIsShort, is_short}
use Rattle.qs_node_room.proofs.Lists.{both_of}

up_to : (least : ℕ) (nodes : List NodeNo) → least ≤ 16 → is_rising least nodes ≡ true → length nodes + least ≤ 16
up_to least [] low is = zeros least low
  where
    zeros : (n : ℕ) → n ≤ 16 → 0 + n ≤ 16
    zeros n h = grind (arith)
up_to least (node ∷ nodes) low is =
    let a = both_of (nat_le least node.0) (is_node node.0 && is_rising (node.0 + 1) nodes) is in
    let b = both_of (is_node node.0) (is_rising (node.0 + 1) nodes) a.1 in
    counts (length nodes) least node.0 a.0 (up_to (node.0 + 1) nodes (below node.0 b.0) b.1)
  where
    below : (n : ℕ) → is_node n ≡ true → n + 1 ≤ 16
    below n h = grind (arith, nat_tests)

    counts : (l m n : ℕ) → nat_le m n ≡ true → l + (n + 1) ≤ 16 → suc l + m ≤ 16
    counts l m n h more = grind (arith, nat_tests)

pub each_is_short : EachIsShort
each_is_short (records.Prepare tid server covers changes) is = refl
each_is_short (records.Commit tid told) is = few (length told) (up_to 0 told least is.1)
  where
    least : 0 ≤ 16
    least = grind (arith)

    few : (n : ℕ) → n + 0 ≤ 16 → nat_le n 16 ≡ true
    few n h = grind (arith, nat_tests)
each_is_short (records.Aborted tid) is = refl
each_is_short (records.End tid) is = refl

-- ---- a log

all_both : (p : Record → Bool) (xs ys : List Record) → list_all p xs ≡ true → list_all p ys ≡ true → list_all p (xs ++ ys) ≡ true
all_both p [] ys left right = right
all_both p (x ∷ xs) ys left right = let a = both_of (p x) (list_all p xs) left in let one : p x ≡ true = a.0 in rw one (all_both p xs ys a.1 right)

all_records : (records : List Record) (bytes : List ℕ) → SpellsRecords records bytes → list_all is_short records ≡ true
all_records [] bytes spelled = refl
all_records (rec ∷ more) bytes spelled =
    let one : is_short rec ≡ true = each_is_short rec (record_valid rec spelled.front spelled.first) in rw one (all_records more spelled.back spelled.second)

all_batches : (format : ℕ) (batches : List (List Record)) (bytes : List ℕ) → SpellsBatches format batches bytes → list_all is_short (joined batches) ≡ true
all_batches format [] bytes spelled = refl
all_batches format (batch ∷ more) bytes spelled =
    all_both is_short batch (joined more) (all_records batch spelled.first.body spelled.first.spelled.1) (all_batches format more spelled.back spelled.second)

pub each_log_is_short : EachLogIsShort
each_log_is_short present records used image log =
    subst (λ (rs : List Record). list_all is_short rs ≡ true) log.counted.records_are
    (all_batches present.value.format log.counted.batches log.counted.counted.used log.counted.counted.spelled)
