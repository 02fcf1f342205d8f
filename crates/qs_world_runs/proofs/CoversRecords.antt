-- What holds of each vote that a log says holds of those that it says with more records, where it holds of each Prepare among these.
use Rattle.qs_world_runs.proofs.Words.{◌≡◌, ℕ, ◌<◌, ◌==◌, ◌||◌, ◌++◌, append_assoc, arith, not, Bool, true, false, List, [], ◌∷◌, nat_lt, refl, sym, ◌∙◌, fold, if◌then◌else◌, nat_tests, filter, ServerNo, Tid, is_recoverable, Record, Prepared, Recovery, found_record, mark_committed, Every, every_append, every_filter, every_map, IsOfPrepare}
use Rattle.qs_record.specs.declared.record.Record.TheVariants as made
use Rattle.qs_restart.specs.Recovery.{is_of, is_vote_of}

-- ---- a server that keeps its votes in a log is one of a node's

pub low_of : (server : ServerNo) → is_recoverable server.0 ≡ true → server.0 < 7
low_of server is = by (server.0 == 0) (server.0 == 1) (server.0 == 6) refl refl refl is
  where
    zeroth : (k : ℕ) → (k == 0) ≡ true → k < 7
    zeroth k e = grind (arith, nat_tests, e)

    first : (k : ℕ) → (k == 1) ≡ true → k < 7
    first k e = grind (arith, nat_tests, e)

    sixth : (k : ℕ) → (k == 6) ≡ true → k < 7
    sixth k e = grind (arith, nat_tests, e)

    by : (a b c : Bool) → (server.0 == 0) ≡ a → (server.0 == 1) ≡ b → (server.0 == 6) ≡ c → (a || (b || c)) ≡ true → server.0 < 7
    by true b c p q r e = zeroth server.0 p
    by false true c p q r e = first server.0 q
    by false false true p q r e = sixth server.0 r
    by false false false p q r e = absurd (cc e)

pub small : (k : ℕ) → k < 7 → nat_lt k 7 ≡ true
small k e = grind (arith, nat_tests, e)

-- ---- what holds of each vote of a log holds with more records, where it holds of each Prepare

module _ (Q : Prepared → Type 0) (marks : (v : Prepared) → Q v → Q (record v { committed = true })) where
  marked : (tid : Tid) (v : Prepared) → Q v → Q (mark_committed tid v)
  marked tid v q = by (is_of tid v)
    where
      by : (b : Bool) → Q (if b then record v { committed = true } else v)
      by true = marks v q
      by false = q

  one_record : (rec : Record) (log : Recovery) → Every Q log.prepared → IsOfPrepare Q rec → Every Q (found_record log rec).prepared
  one_record (made.Prepare tid server covers changes) log all own = every_append Q (filter (λ other. not (is_vote_of tid server other)) log.prepared) _ (every_filter Q (λ other. not (is_vote_of tid server other)) log.prepared all) (own, tt)
  one_record (made.Commit tid []) log all own = every_filter Q (λ vote. not (is_of tid vote)) log.prepared all
  one_record (made.Commit tid (node ∷ told)) log all own = every_map Q Q (mark_committed tid) (marked tid) log.prepared all
  one_record (made.Aborted tid) log all own = every_filter Q (λ vote. not (is_of tid vote)) log.prepared all
  one_record (made.End tid) log all own = every_filter Q (λ vote. not (is_of tid vote)) log.prepared all

  pub all_records : (batch : List Record) (log : Recovery) → Every Q log.prepared → Every (IsOfPrepare Q) batch → Every Q (fold found_record log batch).prepared
  all_records [] log all own = all
  all_records (rec ∷ batch) log all own = all_records batch (found_record log rec) (one_record rec log all own.0) own.1

-- each of a list, at its place
pub every_place : {A : Type 0} (P : A → Type 0) (whole front rest : List A) → whole ≡ front ++ rest → ((a : A) (before after : List A) → whole ≡ before ++ a ∷ after → P a) → Every P rest
every_place P whole front [] is each = tt
every_place P whole front (a ∷ rest) is each = (each a front rest is, every_place P whole (front ++ a ∷ []) rest (is ∙ sym (append_assoc front (a ∷ []) rest)) each)

pub at_place : {A : Type 0} (P : A → Type 0) (before : List A) (a : A) (after : List A) → Every P (before ++ a ∷ after) → P a
at_place P [] a after all = all.0
at_place P (x ∷ before) a after all = at_place P before a after all.1
