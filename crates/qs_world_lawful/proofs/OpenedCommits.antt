-- Which Commits the machine opens with: those of the log of each node, and of a home in the run none that its own log has not.
use Rattle.qs_world_lawful.proofs.Words.{◌≡◌, ◌⊎◌, inl, inr, ℕ, ◌<◌, ◌||◌, ◌++◌, not, Bool, true, false, List, [], ◌∷◌, map, Option, Some, None, fold, suc, refl, sym, ap, subst, ◌∙◌, nat_lt, if◌then◌else◌, Less, Equal, Greater, true≢false, slice_get-map, slice_get, option_map, list_all, list_any, insert_key, Ordering, same_tid, tid_cmp, same_tid-true, tid_exact, NodeNo, Tid, has_commit, is_among, Opened, Record, Recovery, found_record, names_transaction, nothing_said, recovery, with_list}
use Rattle.qs_world_lawful.proofs.Words.{opened_from, IsOpening, is_earlier, is_record, Opening, Every, some_same, and_parts}
use Rattle.qs_book_machine.specs.Nodes as machine
use Rattle.qs_book_machine.specs.Opening.{opened_node, put_tid}
use Rattle.qs_record.specs.declared.record.Record.TheVariants as records
use Rattle.qs_world.specs.Openings.{is_commit_of, is_committed_at_home, is_list}
use Rattle.qs_world_lawful.proofs.CoherentOpenings.{each_is, every_of, opened_is}
use Rattle.qs_world_lawful.proofs.FoundMembers.{every_among}
use Rattle.qs_world_lawful.proofs.LogRecords.{among_last, among_more}
use Rattle.qs_world_lawful.proofs.NotesServed.{any_put_back}
use Rattle.std.proofs.lemmas.Bool.{or_cases}

-- ---- as a set

insert_among : (t k : Tid) (xs : List Tid) → (is_among xs t ≡ true) ⊎ (same_tid t k ≡ true) → is_among (insert_key tid_cmp xs k) t ≡ true
insert_among t k [] (inl h) = absurd (cc h)
insert_among t k [] (inr h) = rw h refl
insert_among t k (x ∷ xs) h = by (tid_cmp k x) refl (insert_among t k xs)
  where
    or_right : (a b : Bool) → b ≡ true → (a || b) ≡ true
    or_right true b e = refl
    or_right false b e = e

    first : (is_among (x ∷ xs) t ≡ true) ⊎ (same_tid t k ≡ true) → (same_tid t k || is_among (x ∷ xs) t) ≡ true
    first (inl e) = or_right (same_tid t k) (is_among (x ∷ xs) t) e
    first (inr e) = rw e refl

    equal : tid_cmp k x ≡ Equal → (is_among (x ∷ xs) t ≡ true) ⊎ (same_tid t k ≡ true) → is_among (x ∷ xs) t ≡ true
    equal is (inl e) = e
    equal is (inr e) = rw (subst (λ (y : Tid). same_tid t y ≡ true) (tid_exact k x is) e) refl

    further : ((is_among xs t ≡ true) ⊎ (same_tid t k ≡ true) → is_among (insert_key tid_cmp xs k) t ≡ true) → (is_among (x ∷ xs) t ≡ true) ⊎ (same_tid t k ≡ true) → (same_tid t x || is_among (insert_key tid_cmp xs k) t) ≡ true
    further more (inr e) = or_right (same_tid t x) (is_among (insert_key tid_cmp xs k) t) (more (inr e))
    further more (inl e) = of (or_cases (same_tid t x) (is_among xs t) e)
      where
        of : (same_tid t x ≡ true) ⊎ (is_among xs t ≡ true) → (same_tid t x || is_among (insert_key tid_cmp xs k) t) ≡ true
        of (inl a) = rw a refl
        of (inr b) = or_right (same_tid t x) (is_among (insert_key tid_cmp xs k) t) (more (inl b))

    by : (o : Ordering) → tid_cmp k x ≡ o → ((is_among xs t ≡ true) ⊎ (same_tid t k ≡ true) → is_among (insert_key tid_cmp xs k) t ≡ true) → is_among (insert_key tid_cmp (x ∷ xs) k) t ≡ true
    by Less is more = rw is (first h)
    by Equal is more = rw is (equal is h)
    by Greater is more = rw is (further more h)

pub put_among : (t : Tid) (xs acc : List Tid) → (is_among acc t ≡ true) ⊎ (is_among xs t ≡ true) → is_among (fold put_tid acc xs) t ≡ true
put_among t [] acc (inl h) = h
put_among t [] acc (inr h) = absurd (cc h)
put_among t (x ∷ xs) acc h = put_among t xs (put_tid acc x) (of h)
  where
    of : (is_among acc t ≡ true) ⊎ (is_among (x ∷ xs) t ≡ true) → (is_among (put_tid acc x) t ≡ true) ⊎ (is_among xs t ≡ true)
    of (inl a) = inl (insert_among t x acc (inl a))
    of (inr b) = at (or_cases (same_tid t x) (is_among xs t) b)
      where
        at : (same_tid t x ≡ true) ⊎ (is_among xs t ≡ true) → (is_among (put_tid acc x) t ≡ true) ⊎ (is_among xs t ≡ true)
        at (inl c) = inl (insert_among t x acc (inr c))
        at (inr d) = inr d

pub put_was : (t : Tid) (xs acc : List Tid) → is_among (fold put_tid acc xs) t ≡ true → (is_among acc t ≡ true) ⊎ (is_among xs t ≡ true)
put_was t [] acc h = inl h
put_was t (x ∷ xs) acc h = of (put_was t xs (put_tid acc x) h)
  where
    or_right : (a b : Bool) → b ≡ true → (a || b) ≡ true
    or_right true b e = refl
    or_right false b e = e

    of : (is_among (put_tid acc x) t ≡ true) ⊎ (is_among xs t ≡ true) → (is_among acc t ≡ true) ⊎ (is_among (x ∷ xs) t ≡ true)
    of (inr b) = inr (or_right (same_tid t x) (is_among xs t) b)
    of (inl a) = at (any_put_back tid_cmp (same_tid t) x acc a)
      where
        at : (is_among acc t ≡ true) ⊎ (same_tid t x ≡ true) → (is_among acc t ≡ true) ⊎ (is_among (x ∷ xs) t ≡ true)
        at (inl c) = inl c
        at (inr d) = inr (rw d refl)

-- ---- the Commits of a log

list_commits : (tid : Tid) (told : List NodeNo) (said : Recovery) → (with_list tid told said).committed ≡ said.committed
list_commits tid [] said = refl
list_commits tid (first ∷ more) said = refl

pub stays_among : (tid : Tid) (log : List Record) (said : Recovery) → is_among said.committed tid ≡ true → is_among (fold found_record said log).committed tid ≡ true
stays_among tid [] said h = h
stays_among tid (rec ∷ log) said h = stays_among tid log (found_record said rec) (one rec)
  where
    one : (rec : Record) → is_among (found_record said rec).committed tid ≡ true
    one (records.Prepare t server covers changes) = h
    one (records.Commit t told) = ap (λ (tids : List Tid). is_among tids tid) (list_commits t told _) ∙ among_more said.committed (if names_transaction t then t ∷ [] else []) tid h
    one (records.Aborted t) = h
    one (records.End t) = h

-- a Commit that names a transaction is among them
pub commit_among : (tid : Tid) → names_transaction tid ≡ true → (log : List Record) → list_any (is_commit_of tid) log ≡ true → is_among (recovery log).committed tid ≡ true
commit_among tid named log any = from log nothing_said any
  where
    from : (log : List Record) (said : Recovery) → list_any (is_commit_of tid) log ≡ true → is_among (fold found_record said log).committed tid ≡ true
    from [] said h = absurd (cc h)
    from (rec ∷ log) said h = by (or_cases (is_commit_of tid rec) (list_any (is_commit_of tid) log) h) (λ more. from log (found_record said rec) more)
      where
        own : (rec : Record) → is_commit_of tid rec ≡ true → is_among (found_record said rec).committed tid ≡ true
        own (records.Prepare t server covers changes) is = absurd (cc is)
        own (records.Aborted t) is = absurd (cc is)
        own (records.End t) is = absurd (cc is)
        own (records.Commit t told) is = ap (λ (tids : List Tid). is_among tids tid) (list_commits t told _)
            ∙ subst (λ (x : Tid). is_among (said.committed ++ (if names_transaction x then x ∷ [] else [])) tid ≡ true) (same_tid-true tid t is) (rw named (among_last said.committed tid))

        by : (is_commit_of tid rec ≡ true) ⊎ (list_any (is_commit_of tid) log ≡ true) → (list_any (is_commit_of tid) log ≡ true → is_among (fold found_record (found_record said rec) log).committed tid ≡ true) → is_among (fold found_record (found_record said rec) log).committed tid ≡ true
        by (inl is) rest = stays_among tid log (found_record said rec) (own rec is)
        by (inr more) rest = rest more

-- ---- at a home in the run

module _ (o : Opening) (opens : IsOpening o) where
  abbrev At : Tid → Type 0
  At tid = is_committed_at_home o tid ≡ true

  record_at : (n : ℕ) (said : Recovery) (rec : Record) → is_record o n rec ≡ true → Every At said.committed → Every At (found_record said rec).committed
  record_at n said (records.Prepare t server covers changes) is all = all
  record_at n said (records.Aborted t) is all = all
  record_at n said (records.End t) is all = all
  record_at n said (records.Commit t told) is all = subst (Every At) (sym (list_commits t told _)) (more said.committed all)
    where
      mine : At t
      mine = (and_parts (is_committed_at_home o t) (is_list n t told) (and_parts (is_earlier o t) _ is).1).0

      if_named : (b : Bool) → Every At (if b then t ∷ [] else [])
      if_named true = (mine, tt)
      if_named false = tt

      more : (xs : List Tid) → Every At xs → Every At (xs ++ (if names_transaction t then t ∷ [] else []))
      more [] all = if_named (names_transaction t)
      more (x ∷ xs) all = (all.0, more xs all.1)

  all_at : (n : ℕ) (log : List Record) (said : Recovery) → Every (λ (rec : Record). is_record o n rec ≡ true) log → Every At said.committed → Every At (fold found_record said log).committed
  all_at n [] said sound all = all
  all_at n (rec ∷ log) said sound all = all_at n log (found_record said rec) sound.1 (record_at n said rec sound.0 all)

  pub committed_home : (n : ℕ) → n < o.size → (tid : Tid) → is_among (recovery (o.logs n)).committed tid ≡ true → is_committed_at_home o tid ≡ true
  committed_home n low tid among = every_among At (recovery (o.logs n)).committed tid (all_at n (o.logs n) nothing_said (every_of (is_record o n) (o.logs n) (each_is o.size (λ m. list_all (is_record o m) (o.logs m)) opens.logs n low)) tt) among

  -- of a transaction that its home's log has not no node has a Commit
  pub none_commits : (tid : Tid) → names_transaction tid ≡ true → nat_lt tid.home.0 o.size ≡ true → is_among (recovery (o.logs tid.home.0)).committed tid ≡ false → list_any (has_commit tid) (map opened_node (opened_from o 0 o.size)) ≡ false
  none_commits tid named in_run none = by (list_any (has_commit tid) (map opened_node (opened_from o 0 o.size))) refl
    where
      some_has : (ns : List machine.NodeValue) → list_any (has_commit tid) ns ≡ true → (k : ℕ) × (v : machine.NodeValue) × (slice_get ns k ≡ Some v) × (has_commit tid v ≡ true)
      some_has [] h = absurd (cc h)
      some_has (v ∷ ns) h = of (or_cases (has_commit tid v) (list_any (has_commit tid) ns) h) (λ more. some_has ns more)
        where
          of : (has_commit tid v ≡ true) ⊎ (list_any (has_commit tid) ns ≡ true) → (list_any (has_commit tid) ns ≡ true → (k : ℕ) × (u : machine.NodeValue) × (slice_get ns k ≡ Some u) × (has_commit tid u ≡ true))
              → (k : ℕ) × (u : machine.NodeValue) × (slice_get (v ∷ ns) k ≡ Some u) × (has_commit tid u ≡ true)
          of (inl is) rest = (0, v, refl, is)
          of (inr more) rest = let p = rest more in (suc p.0, p.1, p.2, p.3)

      never : (k : ℕ) (v : machine.NodeValue) → slice_get (map opened_node (opened_from o 0 o.size)) k ≡ Some v → has_commit tid v ≡ true → ⊥
      never k v at has = of (slice_get (opened_from o 0 o.size) k) refl (sym (slice_get-map opened_node (opened_from o 0 o.size) k) ∙ at)
        where
          of : (p : Option Opened) → slice_get (opened_from o 0 o.size) k ≡ p → option_map opened_node p ≡ Some v → ⊥
          of None is e = cc e
          of (Some one) is e =
              let q = opened_is o opens k one is in
              among q.0 (subst (λ (x : Opened). is_among x.committed tid ≡ true) q.1 (was (put_was tid one.committed [] (subst (λ (x : machine.NodeValue). has_commit tid x ≡ true) (sym (some_same e)) has))))
            where
              was : (is_among [] tid ≡ true) ⊎ (is_among one.committed tid ≡ true) → is_among one.committed tid ≡ true
              was (inl h) = absurd (cc h)
              was (inr h) = h

              among : k < o.size → is_among (recovery (o.logs k)).committed tid ≡ true → ⊥
              among low h = true≢false (sym (commit_among tid named (o.logs tid.home.0) (home (nat_lt tid.home.0 o.size) in_run (committed_home k low tid h))) ∙ none)
                where
                  home : (b : Bool) → b ≡ true → (not b || list_any (is_commit_of tid) (o.logs tid.home.0)) ≡ true → list_any (is_commit_of tid) (o.logs tid.home.0) ≡ true
                  home true e x = x
                  home false e x = absurd (cc e)

      by : (b : Bool) → list_any (has_commit tid) (map opened_node (opened_from o 0 o.size)) ≡ b → list_any (has_commit tid) (map opened_node (opened_from o 0 o.size)) ≡ false
      by false is = is
      by true is = let p = some_has (map opened_node (opened_from o 0 o.size)) is in absurd (never p.0 p.1 p.2 p.3)
