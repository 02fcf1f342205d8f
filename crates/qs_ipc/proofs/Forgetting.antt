-- Server by server, a transaction is forgotten.
use Rattle.std.proofs.Common.{◌≡◌, ◌∙◌, ℕ, ◌+◌, Bool, true, false, List, [], ◌∷◌, Option, Some, None, refl, sym, ap, subst, map, cond, arith}
use Rattle.std.proofs.lemmas.Bool.Decides.{nat_tests}
use Rattle.std.proofs.lemmas.Map.Keys.{sorted_head, sorted_tail}
use Rattle.std.specs.Prelude.{◌==◌, ◌||◌, nat_lt, unwrap_or, if◌then◌else◌}
use Rattle.std.specs.List.{AllByRecursion, list_any}
use Rattle.std.specs.List.Sorted.{IsStrictlySortedBy}
use Rattle.std.specs.Map.{lookup, set_value, keys_of}
use Rattle.std.specs.BTreeMap.{is_at}
use Rattle.std.specs.Ordering.{nat_cmp, is_eq}
use Rattle.std.specs.Cmp.{unsigned_ties}
use Rattle.std.specs.declared.cmp.Ordering.TheVariants.{Less, Equal, Greater}
use Rattle.qs_base.specs.declared.identifiers.ServerNo.{ServerNo}
use Rattle.qs_base.specs.declared.identifiers.Tid.{Tid}
use Rattle.qs_ipc.specs.Queue.{QueueValue, no_queue, waits_at, forgotten, changed_entry}
use Rattle.qs_ipc.specs.Ipc.{IpcValue, server_cmp, queue_at, waits, waits_in, forgotten_below}

-- the entry of one server alone
abbrev forgotten_one : ℕ → Tid → ServerNo × QueueValue → ServerNo × QueueValue
forgotten_one n tid entry = if n == entry.0.0 then (entry.0, forgotten tid entry.1) else entry

same_server : (s t : ServerNo) → is_at (server_cmp s) t ≡ (s.0 == t.0)
same_server s t = sym (unsigned_ties s.0 t.0)

above : (s t u : ServerNo) → (s.0 == t.0) ≡ true → server_cmp t u ≡ Less → (s.0 == u.0) ≡ false
above s t u is less = grind (arith, nat_tests, is, less)

-- where no key is that server's, nothing changes
none_one : (s : ServerNo) (tid : Tid) (es : IpcValue) → AllByRecursion (λ k. (s.0 == k.0) ≡ false) (keys_of es) → map (forgotten_one s.0 tid) es ≡ es
none_one s tid [] all = refl
none_one s tid (e ∷ es) all = rw all.0 (ap (λ (l : IpcValue). e ∷ l) (none_one s tid es all.1))

all_above : (s t : ServerNo) (ks : List ServerNo) → (s.0 == t.0) ≡ true → AllByRecursion (λ k. server_cmp t k ≡ Less) ks → AllByRecursion (λ k. (s.0 == k.0) ≡ false) ks
all_above s t [] is all = tt
all_above s t (k ∷ ks) is all = (above s t k is all.0, all_above s t ks is all.1)

-- what is found and set at the front, and behind it
module _ (p : ServerNo → Bool) (e : ServerNo × QueueValue) (es : IpcValue) where
  found_head : p e.0 ≡ true → lookup p (e ∷ es) ≡ Some e.1
  found_head h = rw h refl

  found_tail : p e.0 ≡ false → lookup p (e ∷ es) ≡ lookup p es
  found_tail h = rw h refl

  set_head : (w : QueueValue) → p e.0 ≡ true → set_value p (e ∷ es) w ≡ (e.0, w) ∷ es
  set_head w h = rw h refl

  set_tail : (w : QueueValue) → p e.0 ≡ false → set_value p (e ∷ es) w ≡ e ∷ set_value p es w
  set_tail w h = rw h refl

-- the change at a server is the same in a map over all
one_changed : (s : ServerNo) (tid : Tid) (es : IpcValue) → IsStrictlySortedBy server_cmp (keys_of es) → changed_entry (is_at (server_cmp s)) (forgotten tid) es ≡ map (forgotten_one s.0 tid) es
one_changed s tid [] sorted = refl
one_changed s tid (e ∷ es) sorted = by (s.0 == e.0.0) refl (lookup (is_at (server_cmp s)) es) refl (one_changed s tid es (sorted_tail server_cmp e.0 (keys_of es) sorted))
  where
    changes : IpcValue → Option QueueValue → IpcValue
    changes l o = elim o [ None ↦ l | Some v ↦ set_value (is_at (server_cmp s)) l (forgotten tid v) ]

    mapped : (b : Bool) → (s.0 == e.0.0) ≡ b → map (forgotten_one s.0 tid) (e ∷ es) ≡ (if b then (e.0, forgotten tid e.1) else e) ∷ map (forgotten_one s.0 tid) es
    mapped b is = rw is refl

    by : (b : Bool) → (s.0 == e.0.0) ≡ b → (o : Option QueueValue) → lookup (is_at (server_cmp s)) es ≡ o → changed_entry (is_at (server_cmp s)) (forgotten tid) es ≡ map (forgotten_one s.0 tid) es
        → changed_entry (is_at (server_cmp s)) (forgotten tid) (e ∷ es) ≡ map (forgotten_one s.0 tid) (e ∷ es)
    by true is o at more =
        ap (changes (e ∷ es)) (found_head (is_at (server_cmp s)) e es (same_server s e.0 ∙ is))
        ∙ set_head (is_at (server_cmp s)) e es (forgotten tid e.1) (same_server s e.0 ∙ is)
        ∙ ap (λ (l : IpcValue). (e.0, forgotten tid e.1) ∷ l) (sym (none_one s tid es (all_above s e.0 (keys_of es) is (sorted_head server_cmp e.0 (keys_of es) sorted))))
        ∙ sym (mapped true is)
    by false is None at more =
        ap (changes (e ∷ es)) (found_tail (is_at (server_cmp s)) e es (same_server s e.0 ∙ is) ∙ at)
        ∙ ap (λ (l : IpcValue). e ∷ l) (sym (ap (changes es) at) ∙ more) ∙ sym (mapped false is)
    by false is (Some v) at more =
        ap (changes (e ∷ es)) (found_tail (is_at (server_cmp s)) e es (same_server s e.0 ∙ is) ∙ at)
        ∙ set_tail (is_at (server_cmp s)) e es (forgotten tid v) (same_server s e.0 ∙ is)
        ∙ ap (λ (l : IpcValue). e ∷ l) (sym (ap (changes es) at) ∙ more) ∙ sym (mapped false is)

-- one server more
one_more : (n : ℕ) (tid : Tid) (es : IpcValue) → map (forgotten_one n tid) (map (forgotten_below n tid) es) ≡ map (forgotten_below (n + 1) tid) es
one_more n tid [] = refl
one_more n tid (e ∷ es) = by (nat_lt e.0.0 n) refl (n == e.0.0) refl (one_more n tid es)
  where
    here : (k m : ℕ) → (m == k) ≡ true → nat_lt k (m + 1) ≡ true
    here k m is = grind (arith, nat_tests, is)

    before : (k m : ℕ) → nat_lt k m ≡ true → (nat_lt k (m + 1) ≡ true) × ((m == k) ≡ false)
    before k m is = grind (arith, nat_tests, is)

    after : (k m : ℕ) → nat_lt k m ≡ false → (m == k) ≡ false → nat_lt k (m + 1) ≡ false
    after k m is other = grind (arith, nat_tests, is, other)

    by : (a : Bool) → nat_lt e.0.0 n ≡ a → (b : Bool) → (n == e.0.0) ≡ b → map (forgotten_one n tid) (map (forgotten_below n tid) es) ≡ map (forgotten_below (n + 1) tid) es
        → map (forgotten_one n tid) (map (forgotten_below n tid) (e ∷ es)) ≡ map (forgotten_below (n + 1) tid) (e ∷ es)
    by true below true is more = let no = (before e.0.0 n below).1 in absurd (cc (no, is))
    by true below false is more = rw (below, (before e.0.0 n below).0, is) (ap (λ (l : IpcValue). (e.0, forgotten tid e.1) ∷ l) more)
    by false not_below true is more = rw (not_below, here e.0.0 n is, is) (ap (λ (l : IpcValue). (e.0, forgotten tid e.1) ∷ l) more)
    by false not_below false is more = rw (not_below, after e.0.0 n not_below is, is) (ap (λ (l : IpcValue). e ∷ l) more)

pub forget_on : (n : ℕ) (s : ServerNo) (tid : Tid) (first cur new : IpcValue) → s.0 ≡ n → IsStrictlySortedBy server_cmp (keys_of cur) → cur ≡ map (forgotten_below n tid) first
    → new ≡ changed_entry (is_at (server_cmp s)) (forgotten tid) cur → new ≡ map (forgotten_below (n + 1) tid) first
forget_on n s tid first cur new is sorted so_far grew =
    grew ∙ one_changed s tid cur sorted ∙ ap (λ (m : ℕ). map (forgotten_one m tid) cur) is ∙ ap (map (forgotten_one n tid)) so_far ∙ one_more n tid first

pub none_below : (tid : Tid) (es : IpcValue) → es ≡ map (forgotten_below 0 tid) es
none_below tid [] = refl
none_below tid (e ∷ es) = rw (no e.0.0) (ap (λ (l : IpcValue). e ∷ l) (none_below tid es))
  where
    no : (k : ℕ) → nat_lt k 0 ≡ false
    no k = grind (arith, nat_tests)

-- what waits, waits as before
pub waits_mapped : (n : ℕ) (tid : Tid) (es : IpcValue) → waits tid (map (forgotten_below n tid) es) ≡ waits tid es
waits_mapped n tid [] = refl
waits_mapped n tid (e ∷ es) = by (nat_lt e.0.0 n) refl (waits_mapped n tid es)
  where
    by : (b : Bool) → nat_lt e.0.0 n ≡ b → waits tid (map (forgotten_below n tid) es) ≡ waits tid es → waits tid (map (forgotten_below n tid) (e ∷ es)) ≡ waits tid (e ∷ es)
    by true is more = rw is (ap (λ (b : Bool). waits_at tid e.1 || b) more)
    by false is more = rw is (ap (λ (b : Bool). waits_at tid e.1 || b) more)

or_left : (a b : Bool) → (a || b) ≡ false → a ≡ false
or_left true b h = absurd (cc h)
or_left false b h = refl

or_right : (a b : Bool) → (a || b) ≡ false → b ≡ false
or_right true b h = absurd (cc h)
or_right false b h = h

pub quiet_at : (p : ServerNo → Bool) (tid : Tid) (es : IpcValue) (v : QueueValue) → Some v ≡ lookup p es → waits tid es ≡ false → waits_at tid v ≡ false
quiet_at p tid [] v at none = absurd (cc at)
quiet_at p tid (e ∷ es) v at none = by (p e.0) refl (λ there. quiet_at p tid es v there (or_right (waits_at tid e.1) (waits tid es) none))
  where
    by : (b : Bool) → p e.0 ≡ b → (Some v ≡ lookup p es → waits_at tid v ≡ false) → waits_at tid v ≡ false
    by true is more = ap (waits_at tid) (same (rw is at at)) ∙ or_left (waits_at tid e.1) (waits tid es) none
      where
        same : Some v ≡ Some e.1 → v ≡ e.1
        same h = cc h
    by false is more = more (rw is at at)
