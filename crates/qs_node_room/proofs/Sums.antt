-- What is kept in all, after a transaction is put in, changed or taken out; and what a step spends.
use Rattle.std.proofs.Common.{◌≡◌, ℕ, ◌+◌, ◌-◌, ◌*◌, ◌≤◌, arith, Bool, true, false, List, [], ◌∷◌, ◌++◌, length, suc, Option, Some, None, refl, sym, ap, subst, ◌∙◌}
use Rattle.std.specs.Prelude.{cond, ⊤}
use Rattle.std.specs.Map.{set_value, remove_entry}
use Rattle.std.specs.BTreeMap.{insert_entry, is_at}
use Rattle.std.specs.declared.cmp.Ordering.{Ordering}
use Rattle.std.specs.declared.cmp.Ordering.TheVariants.{Less, Equal, Greater}
use Rattle.qs_base.specs.Order.{tid_cmp}
use Rattle.qs_base.specs.declared.identifiers.Tid.{Tid}
use Rattle.qs_record.specs.declared.record.Record.{Record}
use Rattle.qs_record.specs.declared.record.Record.TheVariants as records
use Rattle.qs_node_room.specs.Kept.{Kept, kept_at, own_bytes, with_first, with_list, without, after_record, kept_after, kept_of, total, spent}

pub put_total : (tid : Tid) (v : ℕ) (kept : Kept) → kept_at tid kept ≡ None → total (insert_entry tid_cmp kept tid v) ≡ total kept + v
put_total tid v [] none = grind (arith)
put_total tid v (e ∷ es) none = by (tid_cmp tid e.0) refl (put_total tid v es)
  where
    by : (r : Ordering) → tid_cmp tid e.0 ≡ r → (kept_at tid es ≡ None → total (insert_entry tid_cmp es tid v) ≡ total es + v) → total (insert_entry tid_cmp (e ∷ es) tid v) ≡ total (e ∷ es) + v
    by Less is more = rw is (sums v e.1 (total es))
      where
        sums : (v x t : ℕ) → v + (x + t) ≡ x + t + v
        sums v x t = grind (arith)
    by Equal is more = absurd (let found = rw is at none in cc)
    by Greater is more = rw is (ap (λ (n : ℕ). e.1 + n) (more (rw is at none)) ∙ sums e.1 (total es) v)
      where
        sums : (x t v : ℕ) → x + (t + v) ≡ x + t + v
        sums x t v = grind (arith)

pub set_total : (tid : Tid) (v old : ℕ) (kept : Kept) → kept_at tid kept ≡ Some old → total (set_value (is_at (tid_cmp tid)) kept v) + old ≡ total kept + v
set_total tid v old [] is = absurd (cc is)
set_total tid v old (e ∷ es) is = by (is_at (tid_cmp tid) e.0) refl (set_total tid v old es)
  where
    swaps : (v t x old : ℕ) → x ≡ old → v + t + old ≡ x + t + v
    swaps v t x old same = grind (arith)

    adds : (x s t v old : ℕ) → s + old ≡ t + v → x + s + old ≡ x + t + v
    adds x s t v old same = grind (arith)

    by : (b : Bool) → is_at (tid_cmp tid) e.0 ≡ b → (kept_at tid es ≡ Some old → total (set_value (is_at (tid_cmp tid)) es v) + old ≡ total es + v) → total (set_value (is_at (tid_cmp tid)) (e ∷ es) v) + old ≡ total (e ∷ es) + v
    by true at more = rw at (let found : Some e.1 ≡ Some old = rw at at is in swaps v (total es) e.1 old (cc found))
    by false at more = rw at (adds e.1 (total (set_value (is_at (tid_cmp tid)) es v)) (total es) v old (more (rw at at is)))

pub remove_total : (tid : Tid) (old : ℕ) (kept : Kept) → kept_at tid kept ≡ Some old → total (without tid kept) + old ≡ total kept
remove_total tid old [] is = absurd (cc is)
remove_total tid old (e ∷ es) is = by (is_at (tid_cmp tid) e.0) refl (remove_total tid old es)
  where
    swaps : (t x old : ℕ) → x ≡ old → t + old ≡ x + t
    swaps t x old same = grind (arith)

    adds : (x s t old : ℕ) → s + old ≡ t → x + s + old ≡ x + t
    adds x s t old same = grind (arith)

    by : (b : Bool) → is_at (tid_cmp tid) e.0 ≡ b → (kept_at tid es ≡ Some old → total (without tid es) + old ≡ total es) → total (without tid (e ∷ es)) + old ≡ total (e ∷ es)
    by true at more = rw at (let found : Some e.1 ≡ Some old = rw at at is in swaps (total es) e.1 old (cc found))
    by false at more = rw at (adds e.1 (total (without tid es)) (total es) old (more (rw at at is)))

-- ---- what a step spends

pub spent_one : (extra : ℕ) (done : List Record) (rec : Record) → spent extra (done ++ rec ∷ []) ≡ spent extra done + own_bytes extra rec
spent_one extra [] rec = zeros (own_bytes extra rec)
  where
    zeros : (n : ℕ) → n + 0 ≡ 0 + n
    zeros n = grind (arith)
spent_one extra (first ∷ done) rec = ap (λ (n : ℕ). own_bytes extra first + n) (spent_one extra done rec) ∙ sums (own_bytes extra first) (spent extra done) (own_bytes extra rec)
  where
    sums : (x t v : ℕ) → x + (t + v) ≡ x + t + v
    sums x t v = grind (arith)

pub kept_one : (keep extra : ℕ) (kept : Kept) (done : List Record) (rec : Record) → kept_after keep extra kept (done ++ rec ∷ []) ≡ after_record keep extra (kept_after keep extra kept done) rec
kept_one keep extra kept [] rec = refl
kept_one keep extra kept (first ∷ done) rec = kept_one keep extra (after_record keep extra kept first) done rec

pub kept_both : (keep extra : ℕ) (kept : Kept) (log more : List Record) → kept_after keep extra kept (log ++ more) ≡ kept_after keep extra (kept_after keep extra kept log) more
kept_both keep extra kept [] more = refl
kept_both keep extra kept (first ∷ log) more = kept_both keep extra (after_record keep extra kept first) log more

-- ---- nothing is kept beyond the whole for each

abbrev AreSmall : ℕ → Kept → Type 0
AreSmall keep [] = ⊤
AreSmall keep (e ∷ es) = (e.1 ≤ keep) × AreSmall keep es

small_put : (keep : ℕ) (tid : Tid) (v : ℕ) → v ≤ keep → (kept : Kept) → AreSmall keep kept → AreSmall keep (insert_entry tid_cmp kept tid v)
small_put keep tid v low [] small = (low, tt)
small_put keep tid v low (e ∷ es) small = by (tid_cmp tid e.0) refl (small_put keep tid v low es small.1)
  where
    by : (r : Ordering) → tid_cmp tid e.0 ≡ r → AreSmall keep (insert_entry tid_cmp es tid v) → AreSmall keep (insert_entry tid_cmp (e ∷ es) tid v)
    by Less is more = rw is (low, small)
    by Equal is more = rw is (low, small.1)
    by Greater is more = rw is (small.0, more)

small_set : (keep : ℕ) (p : Tid → Bool) (v : ℕ) → v ≤ keep → (kept : Kept) → AreSmall keep kept → AreSmall keep (set_value p kept v)
small_set keep p v low [] small = tt
small_set keep p v low (e ∷ es) small = by (p e.0) (small_set keep p v low es small.1)
  where
    by : (b : Bool) → AreSmall keep (set_value p es v) → AreSmall keep (cond b ((e.0, v) ∷ es) (e ∷ set_value p es v))
    by true more = (low, small.1)
    by false more = (small.0, more)

small_remove : (keep : ℕ) (p : Tid → Bool) (kept : Kept) → AreSmall keep kept → AreSmall keep (remove_entry p kept)
small_remove keep p [] small = tt
small_remove keep p (e ∷ es) small = by (p e.0) (small_remove keep p es small.1)
  where
    by : (b : Bool) → AreSmall keep (remove_entry p es) → AreSmall keep (cond b es (e ∷ remove_entry p es))
    by true more = small.1
    by false more = (small.0, more)

itself : (n : ℕ) → n ≤ n
itself n = grind (arith)

less : (n m : ℕ) → n - m ≤ n
less n m = grind (arith)

small_first : (keep : ℕ) (tid : Tid) (kept : Kept) → AreSmall keep kept → AreSmall keep (with_first keep tid kept)
small_first keep tid kept small = by (kept_at tid kept)
  where
    by : (o : Option ℕ) → AreSmall keep (elim o [ None ↦ insert_entry tid_cmp kept tid keep | Some old ↦ kept ])
    by None = small_put keep tid keep (itself keep) kept small
    by (Some old) = small

small_list : (keep : ℕ) (tid : Tid) (v : ℕ) → v ≤ keep → (kept : Kept) → AreSmall keep kept → AreSmall keep (with_list v tid kept)
small_list keep tid v low kept small = by (kept_at tid kept)
  where
    by : (o : Option ℕ) → AreSmall keep (elim o [ None ↦ insert_entry tid_cmp kept tid v | Some old ↦ set_value (is_at (tid_cmp tid)) kept v ])
    by None = small_put keep tid v low kept small
    by (Some old) = small_set keep (is_at (tid_cmp tid)) v low kept small

small_one : (keep extra : ℕ) (kept : Kept) (rec : Record) → AreSmall keep kept → AreSmall keep (after_record keep extra kept rec)
small_one keep extra kept (records.Prepare tid server covers changes) small = small_first keep tid kept small
small_one keep extra kept (records.Commit tid []) small = small_remove keep (is_at (tid_cmp tid)) kept small
small_one keep extra kept (records.Commit tid (node ∷ nodes)) small = small_list keep tid (keep - own_bytes extra (records.Commit tid (node ∷ nodes))) (less keep (own_bytes extra (records.Commit tid (node ∷ nodes)))) kept small
small_one keep extra kept (records.Aborted tid) small = small_remove keep (is_at (tid_cmp tid)) kept small
small_one keep extra kept (records.End tid) small = small_remove keep (is_at (tid_cmp tid)) kept small

small_all : (keep extra : ℕ) (log : List Record) (kept : Kept) → AreSmall keep kept → AreSmall keep (kept_after keep extra kept log)
small_all keep extra [] kept small = small
small_all keep extra (rec ∷ log) kept small = small_all keep extra log (after_record keep extra kept rec) (small_one keep extra kept rec small)

small_total : (keep : ℕ) (kept : Kept) → AreSmall keep kept → total kept ≤ keep * length kept
small_total keep [] small = grind (arith)
small_total keep (e ∷ es) small = sums keep e.1 (total es) (length es) small.0 (small_total keep es small.1)
  where
    times : (k n : ℕ) → k * suc n ≡ k + k * n
    times k n = grind (arith)

    adds : (k v t m : ℕ) → v ≤ k → t ≤ m → v + t ≤ k + m
    adds k v t m a b = grind (arith)

    sums : (k v t n : ℕ) → v ≤ k → t ≤ k * n → v + t ≤ k * suc n
    sums k v t n low more = subst (λ (x : ℕ). v + t ≤ x) (sym (times k n)) (adds k v t (k * n) low more)

pub total_small : (keep extra : ℕ) (log : List Record) → total (kept_of keep extra log) ≤ keep * length (kept_of keep extra log)
total_small keep extra log = small_total keep (kept_of keep extra log) (small_all keep extra log [] tt)
