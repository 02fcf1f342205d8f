use Rattle.std.proofs.Common.{◌∙◌, sym, ap, Some, None, rules}
use Rattle.qs_base.specs.Order.{same_bytes}
use Rattle.qs_book_tables.specs.Index.{tids_of, without_tid}
use Rattle.qs_book_tables.proofs.IndexSteps.{changes_from_lookup, same_from_lookup, changes_then_same, without_tid-remove_key, nil_from_length}
use Rattle.qs_book_tables.proofs.holders.Holders.remove.Goals as goal

pub returns-then-is_empty : goal.returns-then-is_empty
returns-then-is_empty c =
    let tids = c.remove.new.self in
    let mid = c.get_mut.follows.lender tids in
    let entry = ((c.get_mut.follows.holds tids).3 (search rules)).0 in
    let first = changes_from_lookup c.args.self.now.names.entries mid.entries c.args.name.now (without_tid c.args.tid) (Some tids) entry
    (c.remove.ensures.keys ∙ without_tid-remove_key c.args.tid c.in-Some.tids.now.keys (rw (← c.remove.ensures.keys) c.remove.ensures.updates.1) ∙ ap (λ w. without_tid c.args.tid (tids_of w)) c.in-Some.ensures.value) in
    let none = nil_from_length tids.keys (c.is_empty.ensures.0 c.if-is_empty.true) in
    changes_then_same c.args.self.now.names.entries mid.entries _ (same_bytes c.args.name.now) (without_tid c.args.tid) first
    (same_from_lookup mid.entries _ c.args.name.now None c.remove-then-is_empty.ensures.updates.0
    (sym none ∙ sym (ap tids_of ((c.get_mut.follows.holds tids).3 (search rules)).1)))

pub returns-else-is_empty : goal.returns-else-is_empty
returns-else-is_empty c =
    let tids = c.remove.new.self in
    let entry = ((c.get_mut.follows.holds tids).3 (search rules)).0 in
    changes_from_lookup c.args.self.now.names.entries _ c.args.name.now (without_tid c.args.tid) (Some tids) entry
    (c.remove.ensures.keys ∙ without_tid-remove_key c.args.tid c.in-Some.tids.now.keys (rw (← c.remove.ensures.keys) c.remove.ensures.updates.1) ∙ ap (λ w. without_tid c.args.tid (tids_of w)) c.in-Some.ensures.value)
