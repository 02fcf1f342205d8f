-- What the logs of an opening hold is what the laws want of an opening.
use Rattle.qs_world_lawful.proofs.Words.{◌≡◌, ℕ, ◌+◌, ◌<◌, ◌==◌, ◌&&◌, ◌||◌, not, zero, suc, Bool, true, false, List, [], ◌∷◌, map, flat_map, Option, Some, None, fold, refl, sym, ap, subst, arith, if◌then◌else◌, nat_lt, nat_tests, slice_get, filter, list_all, list_any, NodeNo, Tid, IsCoherent, is_among, Opened, Pending, Op, Record, Prepared, Recovery, found_record, is_in_doubt, is_untold_of, is_vote_of, mark_committed, names_transaction, nothing_said, prepare_of, recovery, with_list, recovered_of}
use Rattle.qs_world_lawful.proofs.Words.{opened_from, opened_with, pending_of, IsOpening, is_earlier, is_record, Opening, Every, ltb-true, lt-ltb, and_parts, eqb_turned, is_plus_zero, zero_plus}
use Rattle.std.specs.List.{All}
use Rattle.std.proofs.lemmas.List.Elements.{All-cons, All-nil}
use Rattle.qs_book_laws.specs.Laws.{HasNoCommit, IsEarlier, IsSound, IsVoteEarlier}
use Rattle.qs_record.specs.declared.record.Record.TheVariants as records
use Rattle.qs_restart.specs.Recovery.{is_of}
use Rattle.qs_world.specs.Openings.{are_unended, each_below, is_doubt}
use Rattle.qs_world_lawful.proofs.LogFrames.{every_on}
use Rattle.qs_world_lawful.proofs.LogRecords.{every_append, every_filter, every_map}

pub each_is : (n : ℕ) (test : ℕ → Bool) → each_below n test ≡ true → (k : ℕ) → k < n → test k ≡ true
each_is zero test all k low = absurd (none low)
  where
    none : {m : ℕ} → m < 0 → ⊥
    none {m} e = grind (arith, e)
each_is (suc n) test all k low = by (k == n) refl (λ less. each_is n test (and_parts (test n) _ all).1 k less)
  where
    fewer : (a b : ℕ) → a < suc b → (a == b) ≡ false → a < b
    fewer a b e f = grind (arith, nat_tests, e, f)

    by : (b : Bool) → (k == n) ≡ b → (k < n → test k ≡ true) → test k ≡ true
    by true e more = subst (λ (m : ℕ). test m ≡ true) (eqb_turned k n e) (and_parts (test n) _ all).0
    by false e more = more (fewer k n low e)

-- ---- what holds of each record's transaction holds of what the log says

abbrev pub tid_of : Record → Tid
tid_of (records.Prepare tid server covers changes) = tid
tid_of (records.Commit tid told) = tid
tid_of (records.Aborted tid) = tid
tid_of (records.End tid) = tid

module _ (P : Tid → Type 0) where
  pub record Says (said : Recovery) : Type 0 where
    pub votes : Every (λ (v : Prepared). P v.tid) said.prepared
    pub commits : Every P said.committed

  listed : (tid : Tid) (told : List NodeNo) (said : Recovery) (files audit extra : List Op) (done : List Tid) → Every (λ (v : Prepared). P v.tid) said.prepared → Every P done
      → Says (with_list tid told (record said { files = files; audit = audit; extra = extra; committed = done }))
  listed tid [] said files audit extra done votes commits = record { votes = every_filter (λ (v : Prepared). P v.tid) (λ vote. not (is_of tid vote)) said.prepared votes; commits = commits }
  listed tid (first ∷ more) said files audit extra done votes commits = record { votes = every_map (λ (v : Prepared). P v.tid) (λ (v : Prepared). P v.tid) (mark_committed tid) marked said.prepared votes; commits = commits }
    where
      marked : (v : Prepared) → P v.tid → P (mark_committed tid v).tid
      marked v p = by (is_of tid v)
        where
          by : (b : Bool) → P (if b then record v { committed = true } else v).tid
          by true = p
          by false = p

  says_record : (said : Recovery) (rec : Record) → P (tid_of rec) → Says said → Says (found_record said rec)
  says_record said (records.Prepare tid server covers changes) p s = record {
    votes = every_append (λ (v : Prepared). P v.tid) (filter (λ other. not (is_vote_of tid server other)) said.prepared) (record { tid = tid; server = server; covers = covers; changes = changes; committed = false } ∷ [])
        (every_filter (λ (v : Prepared). P v.tid) (λ other. not (is_vote_of tid server other)) said.prepared s.votes) (p, tt);
    commits = s.commits;
  }
  says_record said (records.Commit tid told) p s = listed tid told said _ _ _ _ s.votes (every_append P said.committed (if names_transaction tid then tid ∷ [] else []) s.commits (by (names_transaction tid)))
    where
      by : (b : Bool) → Every P (if b then tid ∷ [] else [])
      by true = (p, tt)
      by false = tt
  says_record said (records.Aborted tid) p s = record { votes = every_filter (λ (v : Prepared). P v.tid) (λ vote. not (is_of tid vote)) said.prepared s.votes; commits = s.commits }
  says_record said (records.End tid) p s = record { votes = every_filter (λ (v : Prepared). P v.tid) (λ vote. not (is_of tid vote)) said.prepared s.votes; commits = s.commits }

  says_from : (log : List Record) (said : Recovery) → Every (λ (rec : Record). P (tid_of rec)) log → Says said → Says (fold found_record said log)
  says_from [] said all s = s
  says_from (rec ∷ log) said all s = says_from log (found_record said rec) all.1 (says_record said rec all.0 s)

  pub says_all : (log : List Record) → Every (λ (rec : Record). P (tid_of rec)) log → Says (recovery log)
  says_all log all = says_from log nothing_said all (record { votes = tt; commits = tt })

pub every_of : {A : Type 0} (p : A → Bool) (xs : List A) → list_all p xs ≡ true → Every (λ (x : A). p x ≡ true) xs
every_of p [] all = tt
every_of p (x ∷ xs) all = ((and_parts (p x) _ all).0, every_of p xs (and_parts (p x) _ all).1)

pub all_of : {A : Type 0} (P : A → Type 0) (xs : List A) → Every P xs → All P xs
all_of P [] all = All-nil P
all_of P (x ∷ xs) all = All-cons P x xs all.0 (all_of P xs all.1)

-- ---- the logs

-- what is opened at a place is what that node's log says
opened_at : (o : Opening) (n more k : ℕ) (one : Opened) → slice_get (opened_from o n more) k ≡ Some one → (k < more) × (one ≡ opened_with (o.settings (n + k)) (recovered_of (o.logs (n + k))))
opened_at o n zero k one is = absurd (cc is)
opened_at o n (suc more) zero one is = (grind (arith), here)
  where
    here : one ≡ opened_with (o.settings (n + 0)) (recovered_of (o.logs (n + 0)))
    here = subst (λ (m : ℕ). one ≡ opened_with (o.settings m) (recovered_of (o.logs m))) (is_plus_zero n) (ap (λ (x : Option Opened). elim x [ None ↦ one | Some y ↦ y ]) (sym is))
opened_at o n (suc more) (suc k) one is =
    let p = opened_at o (n + 1) more k one is in
    (higher p.0, subst (λ (m : ℕ). one ≡ opened_with (o.settings m) (recovered_of (o.logs m))) (same n k) p.1)
  where
    higher : {a b : ℕ} → a < b → suc a < suc b
    higher {a} {b} e = grind (arith, e)

    same : (a b : ℕ) → (a + 1) + b ≡ a + suc b
    same a b = grind (arith)

module _ (o : Opening) (opens : IsOpening o) where
  abbrev opened : List Opened
  opened = opened_from o 0 o.size

  pub opened_is : (k : ℕ) (one : Opened) → slice_get opened k ≡ Some one → (k < o.size) × (one ≡ opened_with (o.settings k) (recovered_of (o.logs k)))
  opened_is k one is =
      let p = opened_at o 0 o.size k one is in
      (p.0, subst (λ (m : ℕ). one ≡ opened_with (o.settings m) (recovered_of (o.logs m))) (zero_plus k) p.1)

  -- a transaction that a log names began in an earlier incarnation of its home
  earlier : (tid : Tid) → is_earlier o tid ≡ true → IsEarlier opened tid
  earlier tid is home there =
      let p = opened_is tid.home.0 home there in
      subst (λ (x : Opened). tid.inc < x.inc) (sym p.1) (ltb-true tid.inc (o.settings tid.home.0).inc (of (nat_lt tid.home.0 o.size) (lt-ltb tid.home.0 o.size p.0) is))
    where
      of : (b : Bool) → b ≡ true → (not b || nat_lt tid.inc (o.settings tid.home.0).inc) ≡ true → nat_lt tid.inc (o.settings tid.home.0).inc ≡ true
      of true e h = h
      of false e h = absurd (cc e)

  module _ (n : ℕ) (low : n < o.size) where
    record_earlier : (rec : Record) → is_record o n rec ≡ true → is_earlier o (tid_of rec) ≡ true
    record_earlier (records.Prepare tid server covers changes) is = (and_parts (is_earlier o tid) _ is).0
    record_earlier (records.Commit tid told) is = (and_parts (is_earlier o tid) _ is).0
    record_earlier (records.Aborted tid) is = is
    record_earlier (records.End tid) is = is

    abbrev log : Recovery
    log = recovery (o.logs n)

    says : Says (λ (tid : Tid). is_earlier o tid ≡ true) log
    says = says_all (λ (tid : Tid). is_earlier o tid ≡ true) (o.logs n) (every_on (λ (rec : Record). is_record o n rec ≡ true) (λ (rec : Record). is_earlier o (tid_of rec) ≡ true) record_earlier (o.logs n) (every_of (is_record o n) (o.logs n) (each_is o.size (λ m. list_all (is_record o m) (o.logs m)) opens.logs n low)))

    -- of each vote that is pending
    pending_all : (P : Pending → Type 0) (votes : List Prepared) → Every (λ (v : Prepared). is_in_doubt v ≡ true → P (record { tid = v.tid; server = v.server; covers = v.covers; changes = v.changes })) votes → All P (flat_map pending_of (map prepare_of (filter is_in_doubt votes)))
    pending_all P [] all = All-nil P
    pending_all P (v ∷ votes) all = by (is_in_doubt v) refl (pending_all P votes all.1)
      where
        by : (b : Bool) → is_in_doubt v ≡ b → All P (flat_map pending_of (map prepare_of (filter is_in_doubt votes))) → All P (flat_map pending_of (map prepare_of (if b then v ∷ filter is_in_doubt votes else filter is_in_doubt votes)))
        by true e more = All-cons P (record { tid = v.tid; server = v.server; covers = v.covers; changes = v.changes }) (flat_map pending_of (map prepare_of (filter is_in_doubt votes))) (all.0 e) more
        by false e more = more

    sound : IsSound opened (opened_with (o.settings n) (recovered_of (o.logs n)))
    sound = record {
      committed = all_of (IsEarlier opened) log.committed (every_on (λ (tid : Tid). is_earlier o tid ≡ true) (IsEarlier opened) earlier log.committed says.commits);
      pending = pending_all (IsVoteEarlier opened) log.prepared (every_on (λ (v : Prepared). is_earlier o v.tid ≡ true) _ (λ v is doubt. earlier v.tid is) log.prepared says.votes);
      apart = pending_all (HasNoCommit (opened_with (o.settings n) (recovered_of (o.logs n)))) log.prepared
          (every_on (λ (v : Prepared). is_doubt log v ≡ true) _ far log.prepared (every_of (is_doubt log) log.prepared (and_parts (list_all (is_doubt log) log.prepared) _ (each_is o.size (λ m. are_unended (recovery (o.logs m))) opens.unended n low)).0));
    }
      where
        far : (v : Prepared) → is_doubt log v ≡ true → is_in_doubt v ≡ true → is_among log.committed v.tid ≡ false
        far v is doubt = of v.committed (names_transaction v.tid) (list_any (is_untold_of v.tid) log.untold) (is_among log.committed v.tid) refl is doubt
          where
            of : (a b c d : Bool) → is_among log.committed v.tid ≡ d → (a || (b && (not c && not d))) ≡ true → (b && not a) ≡ true → is_among log.committed v.tid ≡ false
            of false true false false e h k = e
            of false true false true e h k = absurd (cc h)
            of false true true d e h k = absurd (cc h)
            of false false c d e h k = absurd (cc k)
            of true true c d e h k = absurd (cc k)
            of true false c d e h k = absurd (cc k)

  each_sound : (ones : List Opened) → ((n : ℕ) (one : Opened) → slice_get ones n ≡ Some one → IsSound opened one) → All (IsSound opened) ones
  each_sound [] all = All-nil (IsSound opened)
  each_sound (one ∷ ones) all = All-cons (IsSound opened) one ones (all zero one refl) (each_sound ones (λ n x is. all (suc n) x is))

  pub opens_soundly : IsCoherent opened
  opens_soundly = each_sound opened (λ n one there. let p = opened_is n one there in subst (IsSound opened) (sym p.1) (sound n p.0))
