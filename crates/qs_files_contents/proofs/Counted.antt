-- Texts counted as a transaction sees them, name by name.
use Rattle.std.proofs.Common.{◌≡◌, ℕ, suc, ◌+◌, ◌<◌, ◌≤◌, take, get_or, length, List, [], ◌∷◌, ◌++◌, Option, Some, None, refl, sym, ap, ◌∙◌, subst, arith}
use Rattle.std.specs.Prelude.{Bool, true, false, ⊤, cond, unwrap_or, is_some, ◌||◌, IfSome, if◌then◌else◌}
use Rattle.std.specs.List.{fold, list_any, AllByRecursion}
use Rattle.std.specs.List.Sorted.{IsStrictlySortedBy}
use Rattle.std.specs.declared.cmp.Ordering.{Ordering}
use Rattle.std.specs.declared.cmp.Ordering.TheVariants.{Less, Equal, Greater}
use Rattle.std.specs.Ordering.{is_eq}
use Rattle.std.specs.Cmp.Lexicographic.{texts_ties}
use Rattle.std.specs.Map.{lookup, keys_of}
use Rattle.std.specs.BTreeMap.{insert_entry, is_at}
use Rattle.std.proofs.Math.Seq.{take-suc}
use Rattle.std.proofs.lemmas.Cmp.{tied_itself}
use Rattle.std.proofs.lemmas.List.{take_all}
use Rattle.std.proofs.lemmas.Map.Keys.{sorted_head, sorted_tail}
use Rattle.std.proofs.lemmas.Map.Lookups.{exact_bytes}
use Rattle.qs_base.specs.Order.{bytes_cmp, same_bytes}
use Rattle.qs_base.specs.declared.identifiers.Tid.{Tid}
use Rattle.qs_base.proofs.Same.{same_bytes-true, same_bytes-self}
use Rattle.qs_ops.proofs.FileOrder.{bytes_total}
use Rattle.qs_ops.specs.Table.{is_change_of}
use Rattle.qs_ops.specs.declared.operation.Op.{Op}
use Rattle.qs_ops.specs.declared.operation.Op.TheVariants.{Put, Append, Del, Bind, Window, Keep}
use Rattle.qs_files_contents.specs.Edits.{changed_name}
use Rattle.qs_files_contents.specs.Slots.{Entries, slot_in, slot_or_new, new_slot, seen_at, text_at, add_entry}
use Rattle.qs_files_contents.specs.Sums.{sum_under, committed_bytes, ChangesAlone, count_at, has_counted, IsCounted, CountsAlso, CountsOn, IsReplacedSum}
use Rattle.qs_files_contents.specs.Texts.{text_bytes}
use Rattle.qs_files_contents.specs.declared.counting.Count.{Count}
use Rattle.qs_files_contents.specs.declared.slot.FileText.{FileText}
use Rattle.qs_files_contents.proofs.Maps.{lookup-put, lookup-below}
use Rattle.qs_files_contents.proofs.Named.{same_cmp}

abbrev IsSorted : Entries → Type 0
IsSorted es = IsStrictlySortedBy bytes_cmp (keys_of es)

abbrev picked : Tid → Bool → FileText → ℕ
picked tid b slot = if b then text_bytes (seen_at slot tid) else text_bytes (text_at slot)

-- ---- tests that pass for the same names

sum-same : (tid : Tid) (t u : List ℕ → Bool) → ((q : List ℕ) → u q ≡ t q) → (es : Entries) → sum_under (count_at tid u) es ≡ sum_under (count_at tid t) es
sum-same tid t u same [] = refl
sum-same tid t u same (e ∷ es) =
    let one : picked tid (u e.0) e.1 ≡ picked tid (t e.0) e.1 = ap (λ (b : Bool). picked tid b e.1) (same e.0) in
    let rest = sum-same tid t u same es in
    omega (arith, one, rest)

counted-same : (tid : Tid) (slots : Entries) (t u : List ℕ → Bool) (count : Count) → ((q : List ℕ) → u q ≡ t q) → IsCounted tid slots t count → IsCounted tid slots u count
counted-same tid slots t u count same is = record { bytes = is.bytes ∙ sym (sum-same tid t u same slots); names = λ q. is.names q ∙ sym (same q) }

pub sum-none : (tid : Tid) (es : Entries) → sum_under (count_at tid (λ q. false)) es ≡ committed_bytes es
sum-none tid [] = refl
sum-none tid (e ∷ es) = ap (λ (n : ℕ). text_bytes (text_at e.1) + n) (sum-none tid es)

-- ---- one name more

or_false : (b : Bool) → (b || false) ≡ b
or_false true = refl
or_false false = refl

or_true : (b : Bool) → (b || true) ≡ true
or_true true = refl
or_true false = refl

module _ (tid : Tid) (test : List ℕ → Bool) (name : List ℕ) where
  abbrev more : List ℕ → Bool
  more q = test q || same_bytes name q

  apart : (q : List ℕ) → is_eq (bytes_cmp name q) ≡ false → more q ≡ test q
  apart q is = ap (λ (b : Bool). test q || b) (texts_ties name q ∙ is) ∙ or_false (test q)

  sum-below : (es : Entries) → AllByRecursion (λ k. bytes_cmp name k ≡ Less) (keys_of es) → sum_under (count_at tid more) es ≡ sum_under (count_at tid test) es
  sum-below [] all = refl
  sum-below (e ∷ es) all =
      let one : picked tid (more e.0) e.1 ≡ picked tid (test e.0) e.1 = ap (λ (b : Bool). picked tid b e.1) (apart e.0 (ap is_eq all.0)) in
      let rest = sum-below es all.1 in
      omega (arith, one, rest)

  sum-more : (es : Entries) → IsSorted es → test name ≡ false
      → sum_under (count_at tid more) es + text_bytes (text_at (slot_or_new es name)) ≡ sum_under (count_at tid test) es + text_bytes (seen_at (slot_or_new es name) tid)
  sum-more [] sorted not = refl
  sum-more (e ∷ es) sorted not =
      let head = sorted_head bytes_cmp e.0 (keys_of es) sorted in
      let tail = sorted_tail bytes_cmp e.0 (keys_of es) sorted in
      let slot : Ordering → FileText = λ r. unwrap_or (cond (is_eq r) (Some e.1) (slot_in es name)) new_slot in
      (elim (bytes_cmp name e.0) as (λ r. bytes_cmp name e.0 ≡ r → sum_under (count_at tid more) (e ∷ es) + text_bytes (text_at (slot r)) ≡ sum_under (count_at tid test) (e ∷ es) + text_bytes (seen_at (slot r) tid)) [
        | Less ↦ λ is. elsewhere e es (ap is_eq is) (sum-more es tail not)
        | Equal ↦ λ is. here e es (exact_bytes name e.0 is) head not
        | Greater ↦ λ is. elsewhere e es (ap is_eq is) (sum-more es tail not)
      ]) refl
    where
      elsewhere : (e : List ℕ × FileText) (es : Entries) → is_eq (bytes_cmp name e.0) ≡ false
          → sum_under (count_at tid more) es + text_bytes (text_at (slot_or_new es name)) ≡ sum_under (count_at tid test) es + text_bytes (seen_at (slot_or_new es name) tid)
          → sum_under (count_at tid more) (e ∷ es) + text_bytes (text_at (slot_or_new es name)) ≡ sum_under (count_at tid test) (e ∷ es) + text_bytes (seen_at (slot_or_new es name) tid)
      elsewhere e es is rest =
          let one : picked tid (more e.0) e.1 ≡ picked tid (test e.0) e.1 = ap (λ (b : Bool). picked tid b e.1) (apart e.0 is) in
          omega (arith, one, rest)

      here : (e : List ℕ × FileText) (es : Entries) → name ≡ e.0 → AllByRecursion (λ k. bytes_cmp e.0 k ≡ Less) (keys_of es) → test name ≡ false
          → sum_under (count_at tid more) (e ∷ es) + text_bytes (text_at e.1) ≡ sum_under (count_at tid test) (e ∷ es) + text_bytes (seen_at e.1 tid)
      here e es is below not =
          let one : picked tid (more e.0) e.1 ≡ text_bytes (seen_at e.1 tid) = ap (λ (b : Bool). picked tid b e.1) (ap (λ (q : List ℕ). more q) (sym is) ∙ ap (λ (b : Bool). test name || b) (same_bytes-self name) ∙ or_true (test name)) in
          let two : picked tid (test e.0) e.1 ≡ text_bytes (text_at e.1) = ap (λ (b : Bool). picked tid b e.1) (ap test (sym is) ∙ not) in
          let rest : sum_under (count_at tid more) es ≡ sum_under (count_at tid test) es = sum-below es (subst (λ (n : List ℕ). AllByRecursion (λ k. bytes_cmp n k ≡ Less) (keys_of es)) (sym is) below) in
          omega (arith, one, two, rest)

-- ---- a count goes on

abbrev count_of : ℕ → List (List ℕ × ⊤) → Count
count_of bytes names = record { bytes = bytes; names = names }

names-put : (names : List (List ℕ × ⊤)) (name q : List ℕ) (test : List ℕ → Bool) → is_some (lookup (is_at (bytes_cmp q)) names) ≡ test q
    → is_some (lookup (is_at (bytes_cmp q)) (insert_entry bytes_cmp names name tt)) ≡ (test q || same_bytes name q)
names-put names name q test is =
    ap (λ (o : Option ⊤). is_some o) (lookup-put bytes_total exact_bytes names name tt q)
    ∙ ap (λ (b : Bool). is_some (cond b (Some tt) (lookup (is_at (bytes_cmp q)) names))) (same_cmp name q)
    ∙ either (same_bytes name q) (lookup (is_at (bytes_cmp q)) names)
    ∙ ap (λ (b : Bool). b || same_bytes name q) is
  where
    either : (b : Bool) (o : Option ⊤) → is_some (cond b (Some tt) o) ≡ (is_some o || b)
    either true None = refl
    either true (Some x) = refl
    either false None = refl
    either false (Some x) = refl

pub counts_already : (tid : Tid) (slots : Entries) (name : List ℕ) (count : Count) → has_counted count name ≡ true → CountsAlso tid slots name count count
counts_already tid slots name count has sorted test is =
    counted-same tid slots test (more tid test name) count (λ q. again q (same_bytes name q) refl) is
  where
    again : (q : List ℕ) (b : Bool) → same_bytes name q ≡ b → (test q || same_bytes name q) ≡ test q
    again q true e =
        let there : test q ≡ true = ap test (sym (same_bytes-true name q e)) ∙ sym (is.names name) ∙ has in
        ap (λ (b : Bool). b || same_bytes name q) there ∙ sym there
    again q false e = ap (λ (b : Bool). test q || b) e ∙ or_false (test q)

pub counts_more : (tid : Tid) (slots : Entries) (name : List ℕ) (count : Count) (bytes : ℕ) (names : List (List ℕ × ⊤)) → has_counted count name ≡ false
    → bytes + text_bytes (text_at (slot_or_new slots name)) ≡ count.bytes + text_bytes (seen_at (slot_or_new slots name) tid) → names ≡ insert_entry bytes_cmp count.names name tt
    → CountsAlso tid slots name count (count_of bytes names)
counts_more tid slots name count bytes names has sum put sorted test is = record {
  bytes = let all = sum-more tid test name slots sorted (sym (is.names name) ∙ has) in omega (arith, all, sum, is.bytes);
  names = λ q. ap (λ (ns : List (List ℕ × ⊤)). is_some (lookup (is_at (bytes_cmp q)) ns)) put ∙ names-put count.names name q test (is.names q);
}

-- what stands in place of a count is told
pub seen-told : (sum : ℕ) (slot : FileText) (tid : Tid) (before after r : Option ℕ) → IfSome before (λ m. m ≡ text_bytes (text_at slot)) → IfSome after (λ m. m ≡ text_bytes (seen_at slot tid)) → IfSome r (IsReplacedSum (Some sum) before after)
    → IfSome r (λ n. n + text_bytes (text_at slot) ≡ sum + text_bytes (seen_at slot tid))
seen-told sum slot tid before after None is also moved = tt
seen-told sum slot tid None after (Some n) is also moved = absurd moved
seen-told sum slot tid (Some u) None (Some n) is also moved = absurd moved
seen-told sum slot tid (Some u) (Some v) (Some n) is also moved = omega (arith, is, also, moved)

-- ---- a change more

change-name : (q : List ℕ) (op : Op) → is_change_of q op ≡ (elim (changed_name op) [ None ↦ false | Some name ↦ same_bytes name q ])
change-name q (Put name text) = refl
change-name q (Append name text) = refl
change-name q (Del name) = refl
change-name q (Bind name text) = refl
change-name q (Window name text) = refl
change-name q (Keep name text) = refl
change-name q op = refl

pub counts_on : (tid : Tid) (slots : Entries) (op : Op) (name : List ℕ) (old new : Count) → changed_name op ≡ Some name → CountsAlso tid slots name old new → CountsOn tid slots op old new
counts_on tid slots op name old new is also sorted test counted =
    counted-same tid slots (λ q. test q || same_bytes name q) (λ q. test q || is_change_of q op) new
    (λ q. ap (λ (b : Bool). test q || b) (change-name q op ∙ ap (λ (o : Option (List ℕ)). elim o [ None ↦ false | Some n ↦ same_bytes n q ]) is))
    (also sorted test counted)

pub counts_none : (tid : Tid) (slots : Entries) (op : Op) (count : Count) → changed_name op ≡ None → CountsOn tid slots op count count
counts_none tid slots op count is sorted test counted =
    counted-same tid slots test (λ q. test q || is_change_of q op) count
    (λ q. ap (λ (b : Bool). test q || b) (change-name q op ∙ ap (λ (o : Option (List ℕ)). elim o [ None ↦ false | Some n ↦ same_bytes n q ]) is) ∙ or_false (test q))
    counted

any-on : (t : Op → Bool) (ops : List Op) (op : Op) → list_any t (ops ++ op ∷ []) ≡ (list_any t ops || t op)
any-on t [] op = or_false (t op)
any-on t (o ∷ ops) op = elim (t o) as (λ b. (b || list_any t (ops ++ op ∷ [])) ≡ ((b || list_any t ops) || t op)) [ true ↦ refl | false ↦ any-on t ops op ]

-- the texts of these changes are counted as the transaction sees them
abbrev pub IsCountedOf : Tid → Entries → List Op → Count → Type 0
IsCountedOf tid slots ops count = IsCounted tid slots (λ q. list_any (is_change_of q) ops) count

pub counted-begun : (tid : Tid) (slots : Entries) (bytes : ℕ) → bytes ≡ committed_bytes slots → IsCountedOf tid slots [] (count_of bytes [])
counted-begun tid slots bytes is = record { bytes = is ∙ sym (sum-none tid slots); names = λ q. refl }

pub counted-on : (tid : Tid) (slots : Entries) (changes : List Op) (i : ℕ) (op : Op) (old new : Count) → i < length changes → op ≡ get_or changes i op → IsSorted slots
    → IsCountedOf tid slots (take i changes) old → CountsOn tid slots op old new → IsCountedOf tid slots (take (i + 1) changes) new
counted-on tid slots changes i op old new lt is sorted counted on =
    counted-same tid slots (λ q. list_any (is_change_of q) (take i changes) || is_change_of q op) (λ q. list_any (is_change_of q) (take (i + 1) changes)) new
    (λ q. ap (λ (ops : List Op). list_any (is_change_of q) ops) taken ∙ any-on (is_change_of q) (take i changes) op)
    (on sorted (λ q. list_any (is_change_of q) (take i changes)) counted)
  where
    next : i + 1 ≡ suc i
    next = omega arith

    taken : take (i + 1) changes ≡ take i changes ++ op ∷ []
    taken = ap (λ (n : ℕ). take n changes) next ∙ take-suc changes i op lt ∙ ap (λ (o : Op). take i changes ++ o ∷ []) (sym is)

-- ---- all is counted as the transaction sees it

module _ (tid : Tid) (test : List ℕ → Bool) where
  abbrev SeesTheRest : Entries → Type 0
  SeesTheRest es = (q : List ℕ) → test q ≡ false → seen_at (slot_or_new es q) tid ≡ text_at (slot_or_new es q)

  abbrev slot_by : Ordering → List ℕ × FileText → Entries → List ℕ → FileText
  slot_by r e es q = unwrap_or (cond (is_eq r) (Some e.1) (slot_in es q)) new_slot

  behind : (e : List ℕ × FileText) (es : Entries) → AllByRecursion (λ k. bytes_cmp e.0 k ≡ Less) (keys_of es) → SeesTheRest (e ∷ es) → SeesTheRest es
  behind e es below sees q not =
      (elim (bytes_cmp q e.0) as (λ r. bytes_cmp q e.0 ≡ r → seen_at (slot_by r e es q) tid ≡ text_at (slot_by r e es q) → seen_at (slot_or_new es q) tid ≡ text_at (slot_or_new es q)) [
        | Less ↦ λ is s. s
        | Equal ↦ λ is s. gone (ap (λ (o : Option FileText). unwrap_or o new_slot) (ap (λ (k : List ℕ). slot_in es k) (exact_bytes q e.0 is) ∙ lookup-below bytes_total exact_bytes e.0 es below))
        | Greater ↦ λ is s. s
      ]) refl (sees q not)
    where
      gone : slot_or_new es q ≡ new_slot → seen_at (slot_or_new es q) tid ≡ text_at (slot_or_new es q)
      gone is = rw is refl

  first : (e : List ℕ × FileText) (es : Entries) → SeesTheRest (e ∷ es) → picked tid (test e.0) e.1 ≡ text_bytes (seen_at e.1 tid)
  first e es sees =
      (elim (test e.0) as (λ b. test e.0 ≡ b → picked tid b e.1 ≡ text_bytes (seen_at e.1 tid)) [
        | true ↦ λ is. refl
        | false ↦ λ is. ap text_bytes (sym (there (bytes_cmp e.0 e.0) (tied_itself bytes_total e.0) (sees e.0 is)))
      ]) refl
    where
      there : (r : Ordering) → r ≡ Equal → seen_at (slot_by r e es e.0) tid ≡ text_at (slot_by r e es e.0) → seen_at e.1 tid ≡ text_at e.1
      there Less is s = absurd (cc)
      there Equal is s = s
      there Greater is s = absurd (cc)

  sum-all : (es : Entries) (n : ℕ) → IsSorted es → SeesTheRest es → fold (add_entry tid) n es ≡ n + sum_under (count_at tid test) es
  sum-all [] n sorted sees = omega (arith)
  sum-all (e ∷ es) n sorted sees =
      let head = sorted_head bytes_cmp e.0 (keys_of es) sorted in
      let tail = sorted_tail bytes_cmp e.0 (keys_of es) sorted in
      let one = first e es sees in
      let rest = sum-all es (n + text_bytes (seen_at e.1 tid)) tail (behind e es head sees) in
      omega (arith, one, rest)

pub counted-all : (tid : Tid) (slots : Entries) (changes : List Op) (i : ℕ) (count : Count) → length changes ≤ i → ChangesAlone tid slots changes → IsCountedOf tid slots (take i changes) count
    → count.bytes ≡ fold (add_entry tid) 0 slots
counted-all tid slots changes i count end alone counted =
    let is = subst (λ (ops : List Op). IsCountedOf tid slots ops count) (take_all i changes end) counted in
    let all = sum-all tid (λ q. list_any (is_change_of q) changes) slots 0 alone.names alone.others in
    omega (arith, all, is.bytes)
