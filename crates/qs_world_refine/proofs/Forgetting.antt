-- A transaction that a node forgets is known there no more, since what is known stands in order.
use Rattle.qs_world_refine.proofs.Words.{◌≡◌, ◌⊎◌, inl, inr, ◌&&◌, Bool, true, false, List, [], ◌∷◌, Option, Some, None, refl, ap, ◌∙◌, lookup, remove_entry, set_value, is_at, Ordering, Less, Equal, Greater, tid_exact, tid_cmp, Tid, changed_value, Manager, Participant, in_order, is_less, and_parts}
use Rattle.qs_base.proofs.TidOrder.{tid_total}
use Rattle.qs_tm.specs.Manager as tm

less_is : (r : Ordering) → is_less r ≡ true → r ≡ Less
less_is Less is = refl
less_is Equal is = absurd (cc is)
less_is Greater is = absurd (cc is)

-- ---- the order stays where a value is changed

order_set : (p : Tid → Bool) (es : List (Tid × Participant)) (v : Participant) → in_order (set_value p es v) ≡ in_order es
order_set p [] v = refl
order_set p (e ∷ []) v = by (p e.0) refl
  where
    by : (b : Bool) → p e.0 ≡ b → in_order (set_value p (e ∷ []) v) ≡ true
    by true is = rw is refl
    by false is = rw is refl
order_set p (e ∷ (next ∷ rest)) v = by (p e.0) (p next.0) refl refl (order_set p (next ∷ rest) v)
  where
    by : (b c : Bool) → p e.0 ≡ b → p next.0 ≡ c → in_order (set_value p (next ∷ rest) v) ≡ in_order (next ∷ rest) → in_order (set_value p (e ∷ (next ∷ rest)) v) ≡ in_order (e ∷ (next ∷ rest))
    by true c is has more = rw is refl
    by false true is has more = rw (is, has) (ap (λ (b : Bool). is_less (tid_cmp e.0 next.0) && b) (rw has at more))
    by false false is has more = rw (is, has) (ap (λ (b : Bool). is_less (tid_cmp e.0 next.0) && b) (rw has at more))

pub order_changed : (tid : Tid) (f : Participant → Participant) (manager : Manager) → in_order manager.known ≡ true → in_order (tm.with_part tid f manager).known ≡ true
order_changed tid f manager ordered = by (lookup (is_at (tid_cmp tid)) manager.known)
  where
    by : (o : Option Participant) → in_order (elim o [ None ↦ manager.known | Some v ↦ set_value (is_at (tid_cmp tid)) manager.known (f v) ]) ≡ true
    by None = ordered
    by (Some v) = order_set (is_at (tid_cmp tid)) manager.known (f v) ∙ ordered

-- ---- behind an entry that is not before it a transaction is not found

pub none_behind : (tid : Tid) (e : Tid × Participant) (es : List (Tid × Participant)) → in_order (e ∷ es) ≡ true → (tid_cmp tid e.0 ≡ Equal) ⊎ (tid_cmp tid e.0 ≡ Less) → lookup (is_at (tid_cmp tid)) es ≡ None
none_behind tid e [] ordered first = refl
none_behind tid e (next ∷ rest) ordered first = rw below (none_behind tid next rest (and_parts (is_less (tid_cmp e.0 next.0)) (in_order (next ∷ rest)) ordered).1 (inr below))
  where
    step : tid_cmp e.0 next.0 ≡ Less
    step = less_is (tid_cmp e.0 next.0) (and_parts (is_less (tid_cmp e.0 next.0)) (in_order (next ∷ rest)) ordered).0

    by : (tid_cmp tid e.0 ≡ Equal) ⊎ (tid_cmp tid e.0 ≡ Less) → tid_cmp tid next.0 ≡ Less
    by (inl same) = ap (λ (t : Tid). tid_cmp t next.0) (tid_exact tid e.0 same) ∙ step
    by (inr less) = tid_total.trans tid e.0 next.0 less step

    below : tid_cmp tid next.0 ≡ Less
    below = by first

removed : (tid : Tid) (es : List (Tid × Participant)) → in_order es ≡ true → lookup (is_at (tid_cmp tid)) (remove_entry (is_at (tid_cmp tid)) es) ≡ None
removed tid [] ordered = refl
removed tid (e ∷ es) ordered = by (tid_cmp tid e.0) refl (removed tid es (rest_ordered es ordered))
  where
    rest_ordered : (es : List (Tid × Participant)) → in_order (e ∷ es) ≡ true → in_order es ≡ true
    rest_ordered [] ordered = refl
    rest_ordered (next ∷ rest) ordered = (and_parts (is_less (tid_cmp e.0 next.0)) (in_order (next ∷ rest)) ordered).1

    by : (r : Ordering) → tid_cmp tid e.0 ≡ r → lookup (is_at (tid_cmp tid)) (remove_entry (is_at (tid_cmp tid)) es) ≡ None → lookup (is_at (tid_cmp tid)) (remove_entry (is_at (tid_cmp tid)) (e ∷ es)) ≡ None
    by Equal is more = rw is (none_behind tid e es ordered (inl is))
    by Less is more = rw (is, is) more
    by Greater is more = rw (is, is) more

pub forgotten : (tid : Tid) (manager : Manager) → in_order manager.known ≡ true → tm.part_of tid (tm.forget tid manager) ≡ None
forgotten tid manager ordered = removed tid manager.known ordered
