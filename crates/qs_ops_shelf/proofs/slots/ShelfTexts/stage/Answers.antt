use Rattle.std.proofs.Common.{◌∙◌, sym, ap, Some, Option, List, ℕ, rules}
use Rattle.std.specs.Prelude.{cond, if◌then◌else◌}
use Rattle.std.specs.BTreeMap.{BTreeMap, is_at}
use Rattle.std.proofs.lemmas.Result.{on_ok_weaker, on_err_weaker}
use Rattle.qs_base.specs.Order.{bytes_cmp, same_tid}
use Rattle.qs_ops_shelf.specs.Slots.{text_of, pending_of, slot_in}
use Rattle.qs_ops_shelf.specs.declared.slot.ShelfText.{ShelfText}
use Rattle.qs_ops_shelf.proofs.Steps.{staged_from_put, same_from_put, same_pending_from_put}
use Rattle.qs_ops_shelf.proofs.slots.ShelfTexts.stage.Goals as goal

pub returns-in-Some-clause-staged : goal.returns-in-Some-clause-staged
returns-in-Some-clause-staged c =
    let slot = c.stage.new.self in
    on_ok_weaker c.stage.result
    (λ pending. staged_from_put c.args.self.now.names.entries _ c.args.name.now c.args.tid (Some c.args.text) (Some slot) ((c.get_mut.follows.holds slot).3 (search rules)).0
    (λ t. pending t ∙ ap (λ (s : Option ShelfText). if same_tid c.args.tid t then Some c.args.text else pending_of s t) c.in-Some.ensures.value))
    c.stage.ensures.pending

pub returns-in-Some-clause-texts : goal.returns-in-Some-clause-texts
returns-in-Some-clause-texts c =
    let slot = c.stage.new.self in
    same_from_put c.args.self.now.names.entries _ c.args.name.now (Some slot) ((c.get_mut.follows.holds slot).3 (search rules)).0
    (c.stage.ensures.text ∙ ap text_of c.in-Some.ensures.value)

pub returns-in-Some-clause-err : goal.returns-in-Some-clause-err
returns-in-Some-clause-err c =
    let slot = c.stage.new.self in
    on_err_weaker c.stage.result
    (λ same. same_pending_from_put c.args.self.now.names.entries _ c.args.name.now (Some slot) ((c.get_mut.follows.holds slot).3 (search rules)).0
    (λ t. same t ∙ ap (λ (s : Option ShelfText). pending_of s t) c.in-Some.ensures.value))
    c.stage.ensures.err

pub returns-in_ok-insert-in-None-clause-staged : goal.returns-in_ok-insert-in-None-clause-staged
returns-in_ok-insert-in-None-clause-staged c =
    let slot = c.in_ok-slot-in-None.slot in
    staged_from_put c.args.self.now.names.entries _ c.args.name.now c.args.tid (Some c.args.text) (Some slot)
    (λ q. c.in_ok-insert-in-None.ensures.updates.0 q
    ∙ ap (λ (k : List ℕ). cond (is_at (bytes_cmp k) q) (Some slot) (slot_in c.get_mut.follows.lender-at-none.entries q)) c.in_ok-copy-in-None.ensures
    ∙ ap (λ (m : BTreeMap (List ℕ) ShelfText). cond (is_at (bytes_cmp c.args.name.now) q) (Some slot) (slot_in m.entries q)) c.get_mut.follows.holds-at-none)
    (λ t. c.in_ok-slot-in-None.ensures.pending t ∙ ap (λ (s : Option ShelfText). if same_tid c.args.tid t then Some c.args.text else pending_of s t) c.in-None.ensures.value)

pub returns-in_ok-insert-in-None-clause-texts : goal.returns-in_ok-insert-in-None-clause-texts
returns-in_ok-insert-in-None-clause-texts c =
    let slot = c.in_ok-slot-in-None.slot in
    same_from_put c.args.self.now.names.entries _ c.args.name.now (Some slot)
    (λ q. c.in_ok-insert-in-None.ensures.updates.0 q
    ∙ ap (λ (k : List ℕ). cond (is_at (bytes_cmp k) q) (Some slot) (slot_in c.get_mut.follows.lender-at-none.entries q)) c.in_ok-copy-in-None.ensures
    ∙ ap (λ (m : BTreeMap (List ℕ) ShelfText). cond (is_at (bytes_cmp c.args.name.now) q) (Some slot) (slot_in m.entries q)) c.get_mut.follows.holds-at-none)
    (c.in_ok-slot-in-None.ensures.text ∙ ap text_of c.in-None.ensures.value)

pub returns-in-Some-clause-refused : goal.returns-in-Some-clause-refused
returns-in-Some-clause-refused c =
    on_err_weaker c.stage.result
    (λ none. ap (λ (s : Option ShelfText). pending_of s c.args.tid) (sym c.in-Some.ensures.value) ∙ none)
    c.stage.ensures.refused
