-- As a world begins the machine has at each server of a node what the node has there.
use Rattle.qs_world_lawful.proofs.Words.{◌≡◌, ℕ, ◌<◌, ◌==◌, ◌&&◌, not, Bool, true, false, List, [], ◌∷◌, map, flat_map, Option, Some, None, fold, refl, sym, ap, subst, ◌∙◌, if◌then◌else◌, is_some, filter, lookup, is_at, member_cmp, tid_cmp, tid_total, NodeNo, Tid, IsRising, put_rises, BookValue, find_transaction, put_of, TransactionValue, names_no, ServerValue, TableValue, applied, kept, no_table, File, Op, Share, Prepared, is_in_doubt, prepare_of, opened_servers, recovered_as, Setting, pending_of}
use Rattle.qs_world_lawful.proofs.Words.{IsOpening, Opening, HoldsDoubts, Every, HoldsServers, HoldsTable, HoldsTimers, is_seen, of_seen, seen_in}
use Rattle.qs_node_kept.specs.Keeping.{no_kept}
use Rattle.qs_book_machine.specs.Opening.{keep_pending, note_of}
use Rattle.qs_ops.specs.Servers.{audit_no, files_no}
use Rattle.qs_node_step.specs.State.{NodeValue}
use Rattle.qs_world_lawful.proofs.FreshFace.{Fresh, IsOldLoan, node, tables}
use Rattle.qs_world_lawful.proofs.LastsOpening.{opening_empty}
use Rattle.qs_world_lawful.proofs.OpenedContents.{audit_opened, files_opened}
use Rattle.qs_world_lawful.proofs.OpenedFresh.{book, fresh, log, one, opened, says, state}
use Rattle.qs_world_lawful.proofs.RestartTables.{HaveTables, take_changes}

-- ---- the votes in doubt are pending on both sides alike

same_kept : (s : ℕ) (votes : List Prepared) (table : TableValue) → fold kept table (flat_map (keep_pending s) (flat_map pending_of (map prepare_of (filter is_in_doubt votes)))) ≡ fold (take_changes s) table votes
same_kept s [] table = refl
same_kept s (v ∷ votes) table = by (is_in_doubt v) (v.server.0 == s) refl refl (λ t. same_kept s votes t)
  where
    by : (b c : Bool) → is_in_doubt v ≡ b → (v.server.0 == s) ≡ c → ((t : TableValue) → fold kept t (flat_map (keep_pending s) (flat_map pending_of (map prepare_of (filter is_in_doubt votes)))) ≡ fold (take_changes s) t votes)
        → fold kept table (flat_map (keep_pending s) (flat_map pending_of (map prepare_of (filter is_in_doubt (v ∷ votes))))) ≡ fold (take_changes s) (take_changes s table v) votes
    by true true p q more = rw (p, q) (more (kept table (record { tid = v.tid; changes = v.changes })))
    by true false p q more = rw (p, q) (more table)
    by false c p q more = rw p (more table)

kept_rises : (s : ℕ) (votes : List Prepared) (table : TableValue) → IsRising tid_cmp table.shares → IsRising tid_cmp (fold (take_changes s) table votes).shares
kept_rises s [] table rising = rising
kept_rises s (v ∷ votes) table rising = kept_rises s votes (take_changes s table v) (by (is_in_doubt v && (v.server.0 == s)))
  where
    by : (b : Bool) → IsRising tid_cmp (if b then kept table (record { tid = v.tid; changes = v.changes }) else table).shares
    by true = put_rises tid_cmp tid_total v.tid _ table.shares rising
    by false = rising

all_pass : {A : Type 0} (p : A → Bool) → ((x : A) → p x ≡ true) → (xs : List A) → filter p xs ≡ xs
all_pass p all [] = refl
all_pass p all (x ∷ xs) = rw (all x) (ap (λ l. x ∷ l) (all_pass p all xs))

same_table : (table : TableValue) (contents : List File) (notes : List (List ℕ)) → table.contents ≡ contents → table.notes ≡ notes → table.shares ≡ [] → table ≡ record { contents = contents; notes = notes; shares = [] }
same_table table contents notes a b c = of table.contents table.notes table.shares a b c
  where
    made : List File → List (List ℕ) → List (Tid × Share) → TableValue
    made x y z = record { contents = x; notes = y; shares = z }

    of : (x : List File) (y : List (List ℕ)) (z : List (Tid × Share)) → x ≡ contents → y ≡ notes → z ≡ [] → made x y z ≡ made contents notes []
    of x y z p q r = rw (p, q, r) refl

module _ (o : Opening) (opens : IsOpening o) (n : ℕ) (low : n < o.size) (own : (o.settings n).node ≡ record { 0 = n }) where
  abbrev setting : Setting
  setting = o.settings n

  abbrev now : BookValue
  now = book o opens

  pub fresh_own : Fresh now setting.node setting.inc (log o opens n low)
  fresh_own = subst (λ (h : NodeNo). Fresh now h setting.inc (log o opens n low)) (sym own) (fresh o opens n low)

  pub no_loans : Every (IsOldLoan now setting.inc) no_kept.loans
  no_loans = tt

  abbrev pub begins : NodeValue
  begins = node o.alloc setting no_kept now (log o opens n low) fresh_own no_loans

  -- nothing is crossed
  all_seen : (s : ℕ) (tid : Tid) → is_seen now setting.node s tid ≡ true
  all_seen s tid = by (find_transaction now tid) refl
    where
      by : (p : Option TransactionValue) → find_transaction now tid ≡ p → is_seen now setting.node s tid ≡ true
      by None is = ap (seen_in setting.node s) is
      by (Some tx) is = ap (seen_in setting.node s) is ∙ ap (λ crossed. not (is_some (lookup (is_at (member_cmp (record { node = setting.node; server = record { 0 = s } }))) crossed))) (opening_empty (opened o opens) tid tx is).crossed

  t : HaveTables (opened_servers setting.quota (recovered_as (log o opens n low))) begins.servers (fold (take_changes files_no) (applied no_table (log o opens n low).files) (log o opens n low).prepared) (fold (take_changes audit_no) (applied no_table (log o opens n low).audit) (log o opens n low).prepared)
  t = tables o.alloc setting no_kept now (log o opens n low) fresh_own no_loans

  table_held : (s : ℕ) (ops puts : List Op) → (applied no_table puts).contents ≡ (applied no_table ops).contents → (applied no_table puts).notes ≡ (applied no_table ops).notes
      → HoldsTable (is_seen now setting.node s) (fold kept (record (applied no_table puts) { shares = [] }) (flat_map (keep_pending s) (one o opens n low).pending)) (fold (take_changes s) (applied no_table ops) (log o opens n low).prepared)
  table_held s ops puts contents notes = subst (λ (k : TableValue). HoldsTable (is_seen now setting.node s) k (fold (take_changes s) (applied no_table ops) (log o opens n low).prepared)) (sym same)
      (record { contents = refl; notes = refl; shares = sym (all_pass (of_seen (is_seen now setting.node s)) (λ e. all_seen s e.0) _); rising = kept_rises s (log o opens n low).prepared (applied no_table ops) tt })
    where
      same : fold kept (record (applied no_table puts) { shares = [] }) (flat_map (keep_pending s) (one o opens n low).pending) ≡ fold (take_changes s) (applied no_table ops) (log o opens n low).prepared
      same = ap (λ (k : TableValue). fold kept k (flat_map (keep_pending s) (one o opens n low).pending)) (same_table (record (applied no_table puts) { shares = [] }) (applied no_table ops).contents (applied no_table ops).notes contents notes refl)
          ∙ same_kept s (log o opens n low).prepared (applied no_table ops)

  empty_held : (s : ℕ) → HoldsTable (is_seen now setting.node s) no_table no_table
  empty_held s = record { contents = refl; notes = refl; shares = refl; rising = tt }

  pub servers_held : HoldsServers (is_seen now setting.node) (state o opens n low) begins.servers
  servers_held = record {
    kinds = record {
      quota = setting.quota;
      files = ap (λ (s : ServerValue). s.kind) t.files_are;
      audit = ap (λ (s : ServerValue). s.kind) t.audit_is;
      names = ap (λ (s : ServerValue). s.kind) t.names_same;
      timers = ap (λ (s : ServerValue). s.kind) t.timers_same;
      windows = ap (λ (s : ServerValue). s.kind) t.windows_same;
      scratch = ap (λ (s : ServerValue). s.kind) t.scratch_same;
      extra = ap (λ (s : ServerValue). s.kind) t.extra_same;
    };
    files = subst (λ (held : TableValue). HoldsTable (is_seen now setting.node files_no) (state o opens n low).files held) (sym (ap (λ (s : ServerValue). s.table) t.files_are))
        (table_held files_no (log o opens n low).files (map put_of (one o opens n low).files) (files_opened (log o opens n low).files (says o opens n low).files).0 (files_opened (log o opens n low).files (says o opens n low).files).1);
    audit = subst (λ (held : TableValue). HoldsTable (is_seen now setting.node audit_no) (state o opens n low).audit held) (sym (ap (λ (s : ServerValue). s.table) t.audit_is))
        (table_held audit_no (log o opens n low).audit (map note_of (one o opens n low).audit) (audit_opened (log o opens n low).audit (says o opens n low).audit).0 (audit_opened (log o opens n low).audit (says o opens n low).audit).1);
    names = subst (λ (s : ServerValue). HoldsTable (is_seen now setting.node names_no) no_table s.table) (sym t.names_same) (empty_held names_no);
    timers = subst (λ (s : ServerValue). HoldsTimers (is_seen now setting.node 3) (state o opens n low).timers s.timers) (sym t.timers_same) (record { ticks = refl; shares = refl; rising = tt });
    windows = subst (λ (s : ServerValue). HoldsTable (is_seen now setting.node 4) no_table s.table) (sym t.windows_same) (empty_held 4);
    scratch = subst (λ (s : ServerValue). HoldsTable (is_seen now setting.node 5) no_table s.table) (sym t.scratch_same) (empty_held 5);
    doubts = subst (λ (s : ServerValue). HoldsDoubts (is_seen now setting.node names_no) [] s.table) (sym t.names_same) (record { binds = λ tid. refl; hidden = λ tid hidden name has. absurd (cc has) });
  }
