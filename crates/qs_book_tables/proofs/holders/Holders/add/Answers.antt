use Rattle.std.proofs.Common.{◌∙◌, ap, Some, rules}
use Rattle.std.specs.Prelude.{ℕ, List, cond}
use Rattle.std.specs.Map.{lookup}
use Rattle.std.specs.BTreeMap.{BTreeMap, is_at}
use Rattle.std.specs.BTreeSet.{BTreeSet}
use Rattle.qs_base.specs.Order.{bytes_cmp}
use Rattle.qs_base.specs.declared.identifiers.Tid.{Tid}
use Rattle.qs_book_tables.specs.Index.{tids_of, with_tid}
use Rattle.qs_book_tables.proofs.IndexSteps.{on_err_always, on_false_weaker, changes_from_lookup, same_from_lookup}
use Rattle.qs_book_tables.proofs.holders.Holders.add.Goals as goal

pub returns-in_err-insert-in-Some-clause-err : goal.returns-in_err-insert-in-Some-clause-err
returns-in_err-insert-in-Some-clause-err c =
    let entry = ((c.get_mut.follows.holds c.insert.new.self).3 (search rules)).0 in
    on_err_always c.from_residual.result
    (same_from_lookup c.args.self.now.names.entries _ c.args.name.now (Some c.insert.new.self) entry
    (c.in_err-insert-in-Some.ensures.err ∙ ap tids_of c.in-Some.ensures.value))

pub returns-in_ok-insert-in-Some-clause-ok : goal.returns-in_ok-insert-in-Some-clause-ok
returns-in_ok-insert-in-Some-clause-ok c =
    let entry = ((c.get_mut.follows.holds c.insert.new.self).3 (search rules)).0 in
    changes_from_lookup c.args.self.now.names.entries _ c.args.name.now (with_tid c.args.tid) (Some c.insert.new.self) entry
    (c.in_ok-insert-in-Some.ensures.keys ∙ ap (λ w. with_tid c.args.tid (tids_of w)) c.in-Some.ensures.value)

pub returns-in_ok-insert-in-Some-clause-held : goal.returns-in_ok-insert-in-Some-clause-held
returns-in_ok-insert-in-Some-clause-held c =
    let entry = ((c.get_mut.follows.holds c.insert.new.self).3 (search rules)).0 in
    on_false_weaker c.in_ok-insert-in-Some.field-0
    (λ same. same_from_lookup c.args.self.now.names.entries _ c.args.name.now (Some c.insert.new.self) entry (same ∙ ap tids_of c.in-Some.ensures.value))
    c.in_ok-insert-in-Some.ensures.unchanged

pub returns-in_ok-insert-in-None-2-clause-ok : goal.returns-in_ok-insert-in-None-2-clause-ok
returns-in_ok-insert-in-None-2-clause-ok c =
    let tids = c.insert-in-None.new.self in
    let entries = c.in_ok-insert-in-None-2.ensures.updates.0 in
    let name = c.in_ok-copy-in-None.ensures in
    let map = c.get_mut.follows.holds-at-none in
    changes_from_lookup c.args.self.now.names.entries _ c.args.name.now (with_tid c.args.tid) (Some tids)
    (λ q. entries q
    ∙ ap (λ (k : List ℕ). cond (is_at (bytes_cmp k) q) (Some tids) (lookup (is_at (bytes_cmp q)) c.get_mut.follows.lender-at-none.entries)) name
    ∙ ap (λ (m : BTreeMap (List ℕ) (BTreeSet Tid)). cond (is_at (bytes_cmp c.args.name.now) q) (Some tids) (lookup (is_at (bytes_cmp q)) m.entries)) map)
    (c.in_ok-insert-in-None.ensures.keys ∙ ap (λ (l : List Tid). with_tid c.args.tid l) (c.new-tids.ensures.empty ∙ ap tids_of c.in-None.ensures.value))
