-- A transaction that was opened and is taken back: all is as it was.
use Rattle.std.proofs.Common.{◌≡◌, ap, refl, false, is_some, List, [], ◌∷◌}
use Rattle.std.specs.Map.{lookup, remove_entry}
use Rattle.std.specs.BTreeMap.{insert_entry, is_at}
use Rattle.std.specs.Cmp.{tied_itself}
use Rattle.std.specs.declared.cmp.Ordering.{Ordering}
use Rattle.std.specs.declared.cmp.Ordering.TheVariants.{Less, Equal, Greater}
use Rattle.qs_base.specs.Order.{tid_cmp}
use Rattle.qs_base.specs.declared.identifiers.Tid.{Tid}
use Rattle.qs_base.proofs.TidOrder.{tid_total}
use Rattle.qs_node_room.specs.Room.{Tids, has_open, ended}

-- a key that no entry has is put in and taken out again
removed_inserted : {K X : Type 0} (cmp : K → K → Ordering) (k : K) (v : X) (es : List (K × X)) → cmp k k ≡ Equal → is_some (lookup (is_at (cmp k)) es) ≡ false
    → remove_entry (is_at (cmp k)) (insert_entry cmp es k v) ≡ es
removed_inserted cmp k v [] itself none = rw itself refl
removed_inserted {K} {X} cmp k v (e ∷ es) itself none = by (cmp k e.0) refl (removed_inserted cmp k v es itself)
  where
    by : (r : Ordering) → cmp k e.0 ≡ r → (is_some (lookup (is_at (cmp k)) es) ≡ false → remove_entry (is_at (cmp k)) (insert_entry cmp es k v) ≡ es)
        → remove_entry (is_at (cmp k)) (insert_entry cmp (e ∷ es) k v) ≡ e ∷ es
    by Less is rest = rw (is, itself) refl
    by Equal is rest = absurd (let found = rw is at none in cc)
    by Greater is rest = rw (is, is) (ap (λ (more : List (K × X)). e ∷ more) (rest (rw is at none)))

-- one that was not among them
pub ended_inserted : (tid : Tid) (tids : Tids) → has_open tid tids ≡ false → ended tid (insert_entry tid_cmp tids tid tt) ≡ tids
ended_inserted tid tids none = removed_inserted tid_cmp tid tt tids (tied_itself tid_total tid) none
