-- After a restart the machine has at each server of the node what the node has there, but for what is crossed.
use Rattle.qs_world_lawful.proofs.Words.{◌≡◌, ℕ, not, false, List, [], ◌∷◌, Option, Some, None, fold, flat_map, refl, sym, ap, subst, ◌∙◌, is_some, Global, lookup, is_at, member_cmp, Tid, BookValue, crossed_in, find_transaction, member_at, new_votes, record_at, reopened, with_votes, without_records, TransactionValue, OnRecord, Voter, ServerValue, names_no, TableValue, applied, no_table, Op, Prepared, Recovery, opened_servers, recovered_as, Setting, HoldsDoubts, Every, found_votes, IsMadeBy}
use Rattle.qs_world_lawful.proofs.Words.{IsToBeRecorded, HoldsServers, HoldsTable, HoldsTimers, is_seen, seen_in, IsLoanOf, eqb-true, not-true}
use Rattle.qs_node_kept.specs.declared.kept.Kept.{Kept}
use Rattle.qs_book_machine.specs.Nodes as machine
use Rattle.qs_book_machine.specs.Restart.{keep_found, with_vote}
use Rattle.qs_ops.specs.Servers.{audit_no, files_no}
use Rattle.qs_ops.specs.Table.{restarted}
use Rattle.qs_node_step.specs.State.{NodeValue}
use Rattle.qs_world_lawful.proofs.LogFrames.{every_on}
use Rattle.qs_world_lawful.proofs.RestartTables.{HaveTables, IsKeptAs, take_changes, votes_kept}
use Rattle.qs_world_lawful.proofs.FreshFace.{node, tables}
use Rattle.qs_world_lawful.proofs.RestoredFace.{after, fresh, old_loans}
use Rattle.qs_world_lawful.proofs.Restored.{new_state, state_found, with_found}
use Rattle.qs_world_lawful.proofs.RestoredTid.{Restarts, goes, none, sorted}

-- ---- what votes that go on record leave of a node

pub record SameNode (old new : machine.NodeValue) : Type 0 where
  pub files : new.files ≡ old.files
  pub audit : new.audit ≡ old.audit
  pub format : new.format ≡ old.format
  pub committed : new.committed ≡ old.committed

pub same_votes : (votes : List (Voter × OnRecord)) (v : machine.NodeValue) → SameNode v (with_votes votes v)
same_votes [] v = record { files = refl; audit = refl; format = refl; committed = refl }
same_votes (vote ∷ votes) v =
    let more = same_votes votes (with_vote v vote) in
    record { files = more.files; audit = more.audit; format = more.format; committed = more.committed }

pub same_forgot : (tids : List Tid) (v : machine.NodeValue) → SameNode v (fold without_records v tids)
same_forgot [] v = record { files = refl; audit = refl; format = refl; committed = refl }
same_forgot (tid ∷ tids) v =
    let more = same_forgot tids (without_records v tid) in
    record { files = more.files; audit = more.audit; format = more.format; committed = more.committed }

pub same_then : (a b c : machine.NodeValue) → SameNode a b → SameNode b c → SameNode a c
same_then a b c p q = record { files = q.files ∙ p.files; audit = q.audit ∙ p.audit; format = q.format ∙ p.format; committed = q.committed ∙ p.committed }

module _ (alloc : Global) (setting : Setting) (saved : Kept) (book : BookValue) (stamp : ℕ) (log : Recovery) (state : machine.NodeValue) (r : Restarts book setting.node setting.inc log state) (loans : Every (IsLoanOf book state.inc) saved.loans) where
  abbrev here : ℕ
  here = setting.node.0

  abbrev now : BookValue
  now = after alloc setting saved book stamp log state r loans

  abbrev begins : NodeValue
  begins = node alloc setting saved now log (fresh alloc setting saved book stamp log state r loans) (old_loans alloc setting saved book stamp log state r loans)

  abbrev pub reborn : machine.NodeValue
  reborn = new_state book here stamp setting.inc log state r.there

  abbrev mid : BookValue
  mid = with_found book here stamp setting.inc log state r.there

  -- the node but for what its new incarnation empties
  pub same_found : SameNode state (fold without_records (state_found book here stamp setting.inc log state r.there) log.committed)
  same_found = same_then state (state_found book here stamp setting.inc log state r.there) (fold without_records (state_found book here stamp setting.inc log state r.there) log.committed) (same_votes (new_votes here book (found_votes log)) state) (same_forgot log.committed (state_found book here stamp setting.inc log state r.there))

  pub hides : (s : ℕ) (tid : Tid) → is_seen now setting.node s tid ≡ not (crossed_in (find_transaction mid tid) (member_at here s))
  hides s tid = by (find_transaction book tid) refl
    where
      by : (o : Option TransactionValue) → find_transaction book tid ≡ o → seen_in setting.node s (find_transaction now tid) ≡ not (crossed_in (find_transaction book tid) (member_at here s))
      by None is = rw (none book setting.node stamp setting.inc log state r tid is, is) refl
      by (Some tx) is =
          let p = goes book setting.node stamp setting.inc log state r tid tx is in
          ap (seen_in setting.node s) p.1 ∙ (ap (λ crossed. not (is_some (lookup (is_at (member_cmp (member_at here s))) crossed))) p.2.crossed ∙ sym (ap (λ (o : Option TransactionValue). not (crossed_in o (member_at here s))) is))

  kept_as : (s : ℕ) → Every (IsKeptAs here mid s log.committed (is_seen now setting.node s) (hides s)) log.prepared
  kept_as s = every_on (IsToBeRecorded here book log) (IsKeptAs here mid s log.committed (is_seen now setting.node s) (hides s)) one log.prepared r.left.recorded
    where
      one : (v : Prepared) → IsToBeRecorded here book log v → IsKeptAs here mid s log.committed (is_seen now setting.node s) (hides s) v
      one v is named open_still own shown =
          subst (λ (k : ℕ). machine.changes_of (record_at here mid v.tid k) ≡ v.changes) (eqb-true v.server.0 s own)
          ((is named open_still).changes (subst (λ (k : ℕ). crossed_in (find_transaction book v.tid) (member_at here k) ≡ false) (sym (eqb-true v.server.0 s own)) (not-true (crossed_in (find_transaction book v.tid) (member_at here s)) (sym (hides s v.tid) ∙ shown))))

  -- a table of the machine that keeps changes in the log, against the node's
  table_held : (s : ℕ) (old : TableValue) (changes : List Op) (said : List Op) → IsMadeBy (applied old changes) said → HoldsTable (is_seen now setting.node s) (restarted old changes (flat_map (keep_found here mid s log.committed) (found_votes log))) (fold (take_changes s) (applied no_table said) log.prepared)
  table_held s old changes said made = votes_kept here mid s log.committed (is_seen now setting.node s) (hides s) log.prepared (sorted book setting.node stamp setting.inc log state r) (kept_as s) (record (applied old changes) { shares = [] }) (applied no_table said)
      (record { contents = made.contents; notes = made.notes; shares = refl; rising = tt })

  t : HaveTables (opened_servers setting.quota (recovered_as log)) begins.servers (fold (take_changes files_no) (applied no_table log.files) log.prepared) (fold (take_changes 1) (applied no_table log.audit) log.prepared)
  t = tables alloc setting saved now log (fresh alloc setting saved book stamp log state r loans) (old_loans alloc setting saved book stamp log state r loans)

  files_held : HoldsTable (is_seen now setting.node files_no) reborn.files begins.servers.files.table
  files_held = subst (λ (held : TableValue). HoldsTable (is_seen now setting.node files_no) reborn.files held) (sym (ap (λ (s : ServerValue). s.table) t.files_are))
      (subst (λ (old : TableValue). HoldsTable (is_seen now setting.node files_no) (restarted old (reopened here setting.inc (found_votes log) log.committed mid).files (reopened here setting.inc (found_votes log) log.committed mid).files_kept) (fold (take_changes files_no) (applied no_table log.files) log.prepared)) (sym same_found.files)
      (table_held files_no state.files (reopened here setting.inc (found_votes log) log.committed mid).files log.files r.left.files))

  audit_held : HoldsTable (is_seen now setting.node audit_no) reborn.audit begins.servers.audit.table
  audit_held = subst (λ (held : TableValue). HoldsTable (is_seen now setting.node audit_no) reborn.audit held) (sym (ap (λ (s : ServerValue). s.table) t.audit_is))
      (subst (λ (old : TableValue). HoldsTable (is_seen now setting.node audit_no) (restarted old (reopened here setting.inc (found_votes log) log.committed mid).audit (reopened here setting.inc (found_votes log) log.committed mid).audit_kept) (fold (take_changes audit_no) (applied no_table log.audit) log.prepared)) (sym same_found.audit)
      (table_held audit_no state.audit (reopened here setting.inc (found_votes log) log.committed mid).audit log.audit r.left.audit))

  empty_held : (s : ℕ) → HoldsTable (is_seen now setting.node s) no_table no_table
  empty_held s = record { contents = refl; notes = refl; shares = refl; rising = tt }

  pub servers_held : HoldsServers (is_seen now setting.node) reborn begins.servers
  servers_held = record {
    kinds = record {
      quota = setting.quota;
      files = ap (λ (s : ServerValue). s.kind) t.files_are;
      audit = ap (λ (s : ServerValue). s.kind) t.audit_is;
      names = ap (λ (s : ServerValue). s.kind) t.names_same;
      timers = ap (λ (s : ServerValue). s.kind) t.timers_same;
      windows = ap (λ (s : ServerValue). s.kind) t.windows_same;
      scratch = ap (λ (s : ServerValue). s.kind) t.scratch_same;
      extra = ap (λ (s : ServerValue). s.kind) t.extra_same;
    };
    files = files_held;
    audit = audit_held;
    names = subst (λ (s : ServerValue). HoldsTable (is_seen now setting.node names_no) no_table s.table) (sym t.names_same) (empty_held names_no);
    timers = subst (λ (s : ServerValue). HoldsTimers (is_seen now setting.node 3) reborn.timers s.timers) (sym t.timers_same) (record { ticks = refl; shares = refl; rising = tt });
    windows = subst (λ (s : ServerValue). HoldsTable (is_seen now setting.node 4) no_table s.table) (sym t.windows_same) (empty_held 4);
    scratch = subst (λ (s : ServerValue). HoldsTable (is_seen now setting.node 5) no_table s.table) (sym t.scratch_same) (empty_held 5);
    doubts = subst (λ (s : ServerValue). HoldsDoubts (is_seen now setting.node names_no) [] s.table) (sym t.names_same) (record { binds = λ tid. refl; hidden = λ tid hidden name has. absurd (cc has) });
  }
