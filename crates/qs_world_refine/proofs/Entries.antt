-- Tests of all entries of a map stay through each change of it, and so do keys that stand apart.
use Rattle.qs_world_refine.proofs.Words.{◌≡◌, ◌==◌, ◌&&◌, not, Bool, true, false, List, [], ◌∷◌, map, Option, Some, None, refl, ap, subst, ◌∙◌, arith, nat_tests, list_all, find, lookup, set_value, remove_entry, insert_entry, is_at, Ordering, Less, Equal, Greater, tid_cmp, ServerNo, Tid, IpcValue, server_cmp, QueueValue, changed_value, are_servers_apart}
use Rattle.qs_world_refine.specs.Tidy.{is_other_server}
use Rattle.qs_world_refine.proofs.SoundParts.{and_both, both_and, all_found, all_set}

-- ---- any map

-- an entry that is found passes what all pass
pub found_passes : {K V : Type 0} (p : K → Bool) (q : K × V → Bool) (es : List (K × V)) (v : V) → lookup p es ≡ Some v → list_all q es ≡ true → (k : K) × (q (k, v) ≡ true)
found_passes p q [] v found all = absurd (cc (found))
found_passes {K} {V} p q (e ∷ es) v found all = by (p e.0) refl (found_passes p q es v)
  where
    both : (q e ≡ true) × (list_all q es ≡ true)
    both = and_both (q e) (list_all q es) all

    by : (b : Bool) → p e.0 ≡ b → (lookup p es ≡ Some v → list_all q es ≡ true → (k : K) × (q (k, v) ≡ true)) → (k : K) × (q (k, v) ≡ true)
    by true is more = let value : Some e.1 ≡ Some v = rw is at found in (e.0, subst (λ (x : V). q (e.0, x) ≡ true) (cc (value)) both.0)
    by false is more = more (rw is at found) both.1

pub all_set_value : {K V : Type 0} (p : K → Bool) (q : K × V → Bool) (w : V) → ((k : K) → q (k, w) ≡ true) → (es : List (K × V)) → list_all q es ≡ true → list_all q (set_value p es w) ≡ true
all_set_value p q w new [] all = refl
all_set_value p q w new (e ∷ es) all = by (p e.0) refl (all_set_value p q w new es both.1)
  where
    both : (q e ≡ true) × (list_all q es ≡ true)
    both = and_both (q e) (list_all q es) all

    by : (b : Bool) → p e.0 ≡ b → list_all q (set_value p es w) ≡ true → list_all q (set_value p (e ∷ es) w) ≡ true
    by true is more = rw is (both_and (q (e.0, w)) (list_all q es) (new e.0) both.1)
    by false is more = rw is (both_and (q e) (list_all q (set_value p es w)) both.0 more)

pub all_changed_value : {K V : Type 0} (p : K → Bool) (q : K × V → Bool) (f : V → V) → ((k l : K) (v : V) → q (k, v) ≡ true → q (l, f v) ≡ true) → (es : List (K × V)) → list_all q es ≡ true → list_all q (changed_value p f es) ≡ true
all_changed_value {K} {V} p q f more es all = by (lookup p es) refl
  where
    by : (o : Option V) → lookup p es ≡ o → list_all q (elim o [ None ↦ es | Some v ↦ set_value p es (f v) ]) ≡ true
    by None none = all
    by (Some v) found = let it : (k : K) × (q (k, v) ≡ true) = found_passes p q es v found all in all_set_value p q (f v) (λ l. more it.0 l v it.1) es all

pub all_inserted : {K V : Type 0} (cmp : K → K → Ordering) (q : K × V → Bool) (k : K) (v : V) → ((l : K) → q (l, v) ≡ true) → (es : List (K × V)) → list_all q es ≡ true → list_all q (insert_entry cmp es k v) ≡ true
all_inserted cmp q k v new [] all = rw (new k) refl
all_inserted cmp q k v new (e ∷ es) all = by (cmp k e.0) refl (all_inserted cmp q k v new es both.1)
  where
    both : (q e ≡ true) × (list_all q es ≡ true)
    both = and_both (q e) (list_all q es) all

    by : (r : Ordering) → cmp k e.0 ≡ r → list_all q (insert_entry cmp es k v) ≡ true → list_all q (insert_entry cmp (e ∷ es) k v) ≡ true
    by Less is more = rw is (both_and (q (k, v)) (list_all q (e ∷ es)) (new k) all)
    by Equal is more = rw is (both_and (q (e.0, v)) (list_all q es) (new e.0) both.1)
    by Greater is more = rw is (both_and (q e) (list_all q (insert_entry cmp es k v)) both.0 more)

pub all_but_removed : {K V : Type 0} (p : K → Bool) (q : K × V → Bool) (es : List (K × V)) → list_all q es ≡ true → list_all q (remove_entry p es) ≡ true
all_but_removed p q [] all = refl
all_but_removed p q (e ∷ es) all = by (p e.0) refl (all_but_removed p q es both.1)
  where
    both : (q e ≡ true) × (list_all q es ≡ true)
    both = and_both (q e) (list_all q es) all

    by : (b : Bool) → p e.0 ≡ b → list_all q (remove_entry p es) ≡ true → list_all q (remove_entry p (e ∷ es)) ≡ true
    by true is more = rw is both.1
    by false is more = rw is (both_and (q e) (list_all q (remove_entry p es)) both.0 more)

pub all_mapped : {X : Type 0} (q : X → Bool) (f : X → X) → ((x : X) → q x ≡ true → q (f x) ≡ true) → (xs : List X) → list_all q xs ≡ true → list_all q (map f xs) ≡ true
all_mapped q f more [] all = refl
all_mapped q f more (x ∷ xs) all = let both : (q x ≡ true) × (list_all q xs ≡ true) = and_both (q x) (list_all q xs) all in both_and (q (f x)) (list_all q (map f xs)) (more x both.0) (all_mapped q f more xs both.1)

pub one_found : {X : Type 0} (p q : X → Bool) (xs : List X) (x : X) → find p xs ≡ Some x → list_all q xs ≡ true → q x ≡ true
one_found p q [] x found all = absurd (cc (found))
one_found {X} p q (y ∷ ys) x found all = by (p y) refl (one_found p q ys x)
  where
    both : (q y ≡ true) × (list_all q ys ≡ true)
    both = and_both (q y) (list_all q ys) all

    by : (b : Bool) → p y ≡ b → (find p ys ≡ Some x → list_all q ys ≡ true → q x ≡ true) → q x ≡ true
    by true is more = let value : Some y ≡ Some x = rw is at found in subst (λ (b : X). q b ≡ true) (cc (value)) both.0
    by false is more = more (rw is at found) both.1

pub none_found : {X : Type 0} (p q : X → Bool) → ((x : X) → q x ≡ true → p x ≡ false) → (xs : List X) → list_all q xs ≡ true → find p xs ≡ None
none_found p q off [] all = refl
none_found p q off (x ∷ xs) all = let both : (q x ≡ true) × (list_all q xs ≡ true) = and_both (q x) (list_all q xs) all in rw (off x both.0) (none_found p q off xs both.1)

-- ---- one of transactions: the entry of one is changed

pub all_of_tid : {V : Type 0} (tid : Tid) (q : Tid × V → Bool) (f : V → V) → ((v : V) → q (tid, v) ≡ true → q (tid, f v) ≡ true) → (es : List (Tid × V)) → list_all q es ≡ true → list_all q (changed_value (is_at (tid_cmp tid)) f es) ≡ true
all_of_tid {V} tid q f more es all = by (lookup (is_at (tid_cmp tid)) es) refl
  where
    by : (o : Option V) → lookup (is_at (tid_cmp tid)) es ≡ o → list_all q (elim o [ None ↦ es | Some v ↦ set_value (is_at (tid_cmp tid)) es (f v) ]) ≡ true
    by None none = all
    by (Some v) found = all_set tid q es (f v) (more v (all_found tid q es v found all)) all

-- ---- servers: each has one queue

module _ (server : ServerNo) where
  abbrev at : ServerNo → Bool
  at = is_at (server_cmp server)

  others_set : (s : ServerNo) (w : QueueValue) (es : IpcValue) → list_all (is_other_server s) (set_value at es w) ≡ list_all (is_other_server s) es
  others_set s w [] = refl
  others_set s w (e ∷ es) = by (at e.0) refl (others_set s w es)
    where
      by : (b : Bool) → at e.0 ≡ b → list_all (is_other_server s) (set_value at es w) ≡ list_all (is_other_server s) es → list_all (is_other_server s) (set_value at (e ∷ es) w) ≡ list_all (is_other_server s) (e ∷ es)
      by true is more = rw is refl
      by false is more = rw is (ap (λ (b : Bool). is_other_server s e && b) more)

  pub apart_set : (w : QueueValue) (es : IpcValue) → are_servers_apart (set_value at es w) ≡ are_servers_apart es
  apart_set w [] = refl
  apart_set w (e ∷ es) = by (at e.0) refl (apart_set w es)
    where
      by : (b : Bool) → at e.0 ≡ b → are_servers_apart (set_value at es w) ≡ are_servers_apart es → are_servers_apart (set_value at (e ∷ es) w) ≡ are_servers_apart (e ∷ es)
      by true is more = rw is refl
      by false is more = rw is (ap (λ (b : Bool). list_all (is_other_server e.0) (set_value at es w) && b) more ∙ ap (λ (b : Bool). b && are_servers_apart es) (others_set e.0 w es))

  -- one that is not there is another than each
  none_there : (es : IpcValue) → lookup at es ≡ None → list_all (is_other_server server) es ≡ true
  none_there [] none = refl
  none_there (e ∷ es) none = by (at e.0) refl (none_there es)
    where
      other : at e.0 ≡ false → is_other_server server e ≡ true
      other off = grind (arith, nat_tests, off)

      by : (b : Bool) → at e.0 ≡ b → (lookup at es ≡ None → list_all (is_other_server server) es ≡ true) → list_all (is_other_server server) (e ∷ es) ≡ true
      by true is more = absurd (let value : Some e.1 ≡ None = rw is at none in cc (value))
      by false is more = both_and (is_other_server server e) (list_all (is_other_server server) es) (other is) (more (rw is at none))

  others_put : (s : ServerNo) (w : QueueValue) → not (s.0 == server.0) ≡ true → (es : IpcValue) → list_all (is_other_server s) es ≡ true → list_all (is_other_server s) (insert_entry server_cmp es server w) ≡ true
  others_put s w other [] all = both_and (not (s.0 == server.0)) true other refl
  others_put s w other (e ∷ es) all = by (server_cmp server e.0) refl (others_put s w other es both.1)
    where
      both : (is_other_server s e ≡ true) × (list_all (is_other_server s) es ≡ true)
      both = and_both (is_other_server s e) (list_all (is_other_server s) es) all

      by : (r : Ordering) → server_cmp server e.0 ≡ r → list_all (is_other_server s) (insert_entry server_cmp es server w) ≡ true → list_all (is_other_server s) (insert_entry server_cmp (e ∷ es) server w) ≡ true
      by Less is more = rw is (both_and (not (s.0 == server.0)) _ other all)
      by Equal is more = rw is (both_and (is_other_server s e) (list_all (is_other_server s) es) both.0 both.1)
      by Greater is more = rw is (both_and (is_other_server s e) _ both.0 more)

  pub apart_put : (w : QueueValue) (es : IpcValue) → lookup at es ≡ None → are_servers_apart es ≡ true → are_servers_apart (insert_entry server_cmp es server w) ≡ true
  apart_put w [] none apart = refl
  apart_put w (e ∷ es) none apart = by (server_cmp server e.0) refl (apart_put w es)
    where
      there : list_all (is_other_server server) (e ∷ es) ≡ true
      there = none_there (e ∷ es) none

      both : (list_all (is_other_server e.0) es ≡ true) × (are_servers_apart es ≡ true)
      both = and_both (list_all (is_other_server e.0) es) (are_servers_apart es) apart

      off : is_other_server server e ≡ true
      off = (and_both (is_other_server server e) _ there).0

      turned : not (e.0.0 == server.0) ≡ true
      turned = grind (arith, nat_tests, off)

      rest : server_cmp server e.0 ≡ Greater → lookup at es ≡ None
      rest is = rw (is_off is) at none
        where
          is_off : server_cmp server e.0 ≡ Greater → at e.0 ≡ false
          is_off is = rw is refl

      never : server_cmp server e.0 ≡ Equal → at e.0 ≡ true
      never is = rw is refl

      by : (r : Ordering) → server_cmp server e.0 ≡ r → (lookup at es ≡ None → are_servers_apart es ≡ true → are_servers_apart (insert_entry server_cmp es server w) ≡ true) → are_servers_apart (insert_entry server_cmp (e ∷ es) server w) ≡ true
      by Less is more = rw is (both_and (list_all (is_other_server server) (e ∷ es)) _ there apart)
      by Equal is more = absurd (let it : at e.0 ≡ true = never is in let value : Some e.1 ≡ None = rw it at none in cc (value))
      by Greater is more = rw is (both_and (list_all (is_other_server e.0) (insert_entry server_cmp es server w)) _ (others_put e.0 w turned es both.0) (more (rest is) both.1))

-- a change of each queue leaves its server
pub apart_mapped : (f : ServerNo × QueueValue → ServerNo × QueueValue) → ((e : ServerNo × QueueValue) → (f e).0 ≡ e.0) → (es : IpcValue) → are_servers_apart (map f es) ≡ are_servers_apart es
apart_mapped f same [] = refl
apart_mapped f same (e ∷ es) = ap (λ (b : Bool). list_all (is_other_server (f e).0) (map f es) && b) (apart_mapped f same es) ∙ ap (λ (b : Bool). b && are_servers_apart es) (others es ∙ ap (λ (s : ServerNo). list_all (is_other_server s) es) (same e))
  where
    others : (xs : IpcValue) → list_all (is_other_server (f e).0) (map f xs) ≡ list_all (is_other_server (f e).0) xs
    others [] = refl
    others (x ∷ xs) = ap (λ (b : Bool). is_other_server (f e).0 (f x) && b) (others xs) ∙ ap (λ (s : ServerNo). not ((f e).0.0 == s.0) && list_all (is_other_server (f e).0) xs) (same x)

-- what is found passes the test by which it was looked for
pub found_is : {X : Type 0} (p : X → Bool) (xs : List X) (x : X) → find p xs ≡ Some x → p x ≡ true
found_is p [] x found = absurd (cc (found))
found_is {X} p (y ∷ ys) x found = by (p y) refl (found_is p ys x)
  where
    by : (b : Bool) → p y ≡ b → (find p ys ≡ Some x → p x ≡ true) → p x ≡ true
    by true is more = let value : Some y ≡ Some x = rw is at found in subst (λ (z : X). p z ≡ true) (cc (value)) is
    by false is more = more (rw is at found)
