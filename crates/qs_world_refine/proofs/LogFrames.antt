-- A record of one transaction changes nothing of what a log says of another one.
use Rattle.qs_world_refine.proofs.Words.{◌≡◌, ℕ, ◌==◌, ◌&&◌, ◌||◌, not, Bool, true, false, List, [], ◌∷◌, ◌++◌, map, refl, sym, ap, ◌∙◌, arith, if◌then◌else◌, filter, list_any, flat_map, nat_tests, same_tid, NodeNo, ServerNo, Tid, Op, Record, Prepared, Untold, Recovery, found_record, is_vote_of, is_untold_of, mark_committed, ended, names_transaction, server_no}
use Rattle.qs_record.specs.declared.record.Record.TheVariants as records
use Rattle.qs_restart.specs.Recovery.{is_of}
use Rattle.qs_world_refine.proofs.Alike.{SameFound}
use Rattle.qs_world_refine.proofs.Voting.{put_there}

abbrev pub Apart : Tid → Tid → Type 0
Apart t tid = same_tid t tid ≡ false

-- ---- lists

any_filter : {A : Type 0} (p q : A → Bool) → ((x : A) → p x ≡ true → q x ≡ true) → (xs : List A) → list_any p (filter q xs) ≡ list_any p xs
any_filter p q keeps [] = refl
any_filter {A} p q keeps (x ∷ xs) = by (q x) refl (any_filter p q keeps xs)
  where
    off : (b : Bool) → p x ≡ b → q x ≡ false → b ≡ false
    off true is not_it = let holds : q x ≡ true = keeps x is in absurd (cc (holds, not_it))
    off false is not_it = refl

    by : (b : Bool) → q x ≡ b → list_any p (filter q xs) ≡ list_any p xs → list_any p (if b then x ∷ filter q xs else filter q xs) ≡ (p x || list_any p xs)
    by true is more = ap (λ (t : Bool). p x || t) more
    by false is more = more ∙ sym (ap (λ (t : Bool). t || list_any p xs) (off (p x) refl is))

filter_filter : {A : Type 0} (p q : A → Bool) → ((x : A) → p x ≡ true → q x ≡ true) → (xs : List A) → filter p (filter q xs) ≡ filter p xs
filter_filter p q keeps [] = refl
filter_filter {A} p q keeps (x ∷ xs) = by (q x) (p x) refl refl (filter_filter p q keeps xs)
  where
    by : (b c : Bool) → q x ≡ b → p x ≡ c → filter p (filter q xs) ≡ filter p xs → filter p (if b then x ∷ filter q xs else filter q xs) ≡ (if c then x ∷ filter p xs else filter p xs)
    by true true is has more = rw has (ap (λ (t : List A). x ∷ t) more)
    by true false is has more = rw has more
    by false true is has more = let holds : q x ≡ true = keeps x has in absurd (cc (holds, is))
    by false false is has more = more

any_map : {A : Type 0} (p : A → Bool) (g : A → A) → ((x : A) → p (g x) ≡ p x) → (xs : List A) → list_any p (map g xs) ≡ list_any p xs
any_map p g keeps [] = refl
any_map p g keeps (x ∷ xs) = rw (keeps x, any_map p g keeps xs) refl

any_more : {A : Type 0} (p : A → Bool) (y : A) → p y ≡ false → (xs : List A) → list_any p (xs ++ y ∷ []) ≡ list_any p xs
any_more p y not_it [] = rw not_it refl
any_more p y not_it (x ∷ xs) = ap (λ (t : Bool). p x || t) (any_more p y not_it xs)

filter_more : {A : Type 0} (p : A → Bool) (y : A) → p y ≡ false → (xs : List A) → filter p (xs ++ y ∷ []) ≡ filter p xs
filter_more p y not_it [] = rw not_it refl
filter_more {A} p y not_it (x ∷ xs) = by (p x) (filter_more p y not_it xs)
  where
    by : (b : Bool) → filter p (xs ++ y ∷ []) ≡ filter p xs → (if b then x ∷ filter p (xs ++ y ∷ []) else filter p (xs ++ y ∷ [])) ≡ (if b then x ∷ filter p xs else filter p xs)
    by true more = ap (λ (t : List A). x ∷ t) more
    by false more = more

-- ---- another transaction

module _ (t u : Tid) (apart : Apart t u) where
  turned : same_tid u t ≡ false
  turned = grind (arith, nat_tests, apart)

  vote_apart : (k : ℕ) (v : Prepared) → (is_vote_of t (server_no k) v && not v.committed) ≡ true → not (is_of u v) ≡ true
  vote_apart k v is = grind (arith, nat_tests, apart, is)

  vote_other : (k : ℕ) (s : ServerNo) (v : Prepared) → is_vote_of t (server_no k) v ≡ true → is_vote_of u s v ≡ false
  vote_other k s v is = grind (arith, nat_tests, apart, is)

  commit_apart : (c : Untold) → is_untold_of t c ≡ true → not (is_untold_of u c) ≡ true
  commit_apart c is = grind (arith, nat_tests, apart, is)

  mark_apart : (k : ℕ) (v : Prepared) → (is_vote_of t (server_no k) (mark_committed u v) && not (mark_committed u v).committed) ≡ (is_vote_of t (server_no k) v && not v.committed)
  mark_apart k v = by (is_of u v) refl
    where
      off : (a b c : Bool) → a ≡ false → ((a && b) && false) ≡ ((a && b) && c)
      off a b c is = rw is refl

      by : (b : Bool) → is_of u v ≡ b → (is_vote_of t (server_no k) (if b then record v { committed = true } else v) && not (if b then record v { committed = true } else v).committed) ≡ (is_vote_of t (server_no k) v && not v.committed)
      by true is = off (same_tid v.tid t) (v.server.0 == k) (not v.committed) (grind (arith, nat_tests, is, apart))
      by false is = refl

  new_apart : (b : Bool) (tids : List Tid) → list_any (same_tid t) (tids ++ (if b then u ∷ [] else [])) ≡ list_any (same_tid t) tids
  new_apart true tids = any_more (same_tid t) u apart tids
  new_apart false tids = any_none tids
    where
      any_none : (tids : List Tid) → list_any (same_tid t) (tids ++ []) ≡ list_any (same_tid t) tids
      any_none [] = refl
      any_none (x ∷ tids) = ap (λ (b : Bool). same_tid t x || b) (any_none tids)

  pub ended_apart : (r : Recovery) → SameFound t r (ended u r)
  ended_apart r = record {
    prepared = λ k. any_filter (λ (v : Prepared). is_vote_of t (server_no k) v && not v.committed) (λ v. not (is_of u v)) (vote_apart k) r.prepared;
    committed = refl;
    unended = any_filter (is_untold_of t) (λ c. not (is_untold_of u c)) commit_apart r.untold;
    named = λ m. ap (λ (l : List Untold). Rattle.qs_world_refine.specs.Links.names_node (flat_map (λ (c : Untold). c.told) l) (Rattle.qs_world_refine.specs.Links.node_no m)) (filter_filter (is_untold_of t) (λ c. not (is_untold_of u c)) commit_apart r.untold);
  }

  commit_record : (told : List NodeNo) (r : Recovery) → SameFound t r (found_record r (records.Commit u told))
  commit_record [] r = record {
    prepared = λ k. any_filter (λ (v : Prepared). is_vote_of t (server_no k) v && not v.committed) (λ v. not (is_of u v)) (vote_apart k) r.prepared;
    committed = new_apart (names_transaction u) r.committed;
    unended = any_filter (is_untold_of t) (λ c. not (is_untold_of u c)) commit_apart r.untold;
    named = λ m. ap (λ (l : List Untold). Rattle.qs_world_refine.specs.Links.names_node (flat_map (λ (c : Untold). c.told) l) (Rattle.qs_world_refine.specs.Links.node_no m)) (filter_filter (is_untold_of t) (λ c. not (is_untold_of u c)) commit_apart r.untold);
  }
  commit_record (node ∷ told) r = record {
    prepared = λ k. any_map (λ (v : Prepared). is_vote_of t (server_no k) v && not v.committed) (mark_committed u) (mark_apart k) r.prepared;
    committed = new_apart (names_transaction u) r.committed;
    unended = any_more (is_untold_of t) (record { tid = u; told = node ∷ told }) turned r.untold;
    named = λ m. ap (λ (l : List Untold). Rattle.qs_world_refine.specs.Links.names_node (flat_map (λ (c : Untold). c.told) l) (Rattle.qs_world_refine.specs.Links.node_no m)) (filter_more (is_untold_of t) (record { tid = u; told = node ∷ told }) turned r.untold);
  }

  pub prepare_record : (s : ServerNo) (covers : ℕ) (changes : List Op) (r : Recovery) → SameFound t r (found_record r (records.Prepare u s covers changes))
  prepare_record s covers changes r = record {
    prepared = λ k. put_there u t s.0 k r.prepared (record { tid = u; server = s; covers = covers; changes = changes; committed = false }) (no_vote k) (λ v is. vote_other k s v is);
    committed = refl;
    unended = refl;
    named = λ m. refl;
  }
    where
      no_vote : (k : ℕ) → is_vote_of t (server_no k) (record { tid = u; server = s; covers = covers; changes = changes; committed = false }) ≡ false
      no_vote k = rw turned refl

abbrev pub record_tid : Record → Tid
record_tid (records.Prepare tid server covers changes) = tid
record_tid (records.Commit tid told) = tid
record_tid (records.Aborted tid) = tid
record_tid (records.End tid) = tid

pub record_apart : (t : Tid) (rec : Record) (r : Recovery) → Apart t (record_tid rec) → SameFound t r (found_record r rec)
record_apart t (records.Prepare u s covers changes) r apart = prepare_record t u apart s covers changes r
record_apart t (records.Commit u told) r apart = commit_record t u apart told r
record_apart t (records.Aborted u) r apart = ended_apart t u apart r
record_apart t (records.End u) r apart = ended_apart t u apart r
