use Rattle.std.proofs.Common.{◌∙◌, sym, ap, Some, None, Option, rules}
use Rattle.std.specs.Prelude.{◌&&◌, if◌then◌else◌}
use Rattle.qs_base.specs.Order.{same_bytes, same_tid}
use Rattle.qs_ops_shelf.specs.Slots.{text_of, pending_of}
use Rattle.qs_ops_shelf.specs.Texts.{shadowed}
use Rattle.qs_ops_shelf.specs.declared.slot.ShelfText.{ShelfText}
use Rattle.qs_ops_shelf.proofs.Steps.{staged_from_put, settled_from_put, same_from_put, same_pending_from_put, staged_then_out, settled_then_out}
use Rattle.qs_ops_shelf.proofs.slots.ShelfTexts.settle.Goals as goal

pub returns-else-is_empty-clause-staged : goal.returns-else-is_empty-clause-staged
returns-else-is_empty-clause-staged c =
    let slot = c.settle.new.self in
    staged_from_put c.args.self.now.names.entries _ c.args.name.now c.args.tid None (Some slot) ((c.get_mut.follows.holds slot).3 (search rules)).0
    (λ t. c.settle.ensures.pending t ∙ ap (λ (s : Option ShelfText). if same_tid c.args.tid t then None else pending_of s t) c.in-Some.ensures.value)

pub returns-else-is_empty-clause-settled : goal.returns-else-is_empty-clause-settled
returns-else-is_empty-clause-settled c =
    let slot = c.settle.new.self in
    settled_from_put c.args.self.now.names.entries _ c.args.name.now c.args.tid c.args.commits (Some slot) ((c.get_mut.follows.holds slot).3 (search rules)).0
    (c.settle.ensures.text ∙ ap (λ (s : Option ShelfText). if c.args.commits then shadowed (pending_of s c.args.tid) (text_of s) else text_of s) c.in-Some.ensures.value)

pub returns-then-is_empty-clause-staged : goal.returns-then-is_empty-clause-staged
returns-then-is_empty-clause-staged c =
    let slot = c.settle.new.self in
    let old = c.args.self.now.names.entries in
    let mid = c.get_mut.follows.lender slot in
    let put = (c.get_mut.follows.holds slot).3 (search rules) in
    let emptied = c.is_empty.ensures c.if-is_empty.true in
    staged_then_out old mid.entries _ c.args.name.now c.args.tid
    (staged_from_put old mid.entries c.args.name.now c.args.tid None (Some slot) put.0
    (λ t. c.settle.ensures.pending t ∙ ap (λ (s : Option ShelfText). if same_tid c.args.tid t then None else pending_of s t) c.in-Some.ensures.value))
    (same_pending_from_put mid.entries _ c.args.name.now None c.remove.ensures.updates.0
    (λ t. sym (emptied.staged t) ∙ sym (ap (λ (s : Option ShelfText). pending_of s t) put.1)))

pub returns-then-is_empty-clause-settled : goal.returns-then-is_empty-clause-settled
returns-then-is_empty-clause-settled c =
    let slot = c.settle.new.self in
    let old = c.args.self.now.names.entries in
    let mid = c.get_mut.follows.lender slot in
    let put = (c.get_mut.follows.holds slot).3 (search rules) in
    let emptied = c.is_empty.ensures c.if-is_empty.true in
    settled_then_out old mid.entries _ (λ q. c.args.commits && same_bytes c.args.name.now q) c.args.tid
    (settled_from_put old mid.entries c.args.name.now c.args.tid c.args.commits (Some slot) put.0
    (c.settle.ensures.text ∙ ap (λ (s : Option ShelfText). if c.args.commits then shadowed (pending_of s c.args.tid) (text_of s) else text_of s) c.in-Some.ensures.value))
    (same_from_put mid.entries _ c.args.name.now None c.remove.ensures.updates.0
    (sym emptied.committed ∙ sym (ap text_of put.1)))
