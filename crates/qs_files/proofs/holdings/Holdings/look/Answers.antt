use Rattle.std.proofs.Common.{◌≡◌, List, Option, Some, None, sym, ap, ◌∙◌}
use Rattle.std.proofs.lemmas.Result.{IfOk-weaker}
use Rattle.qs_base.specs.declared.identifiers.Tid.{Tid}
use Rattle.qs_files_contents.specs.Slots.{first_other, is_edit, look_at, seen_at, slot_or_new}
use Rattle.qs_files_contents.specs.declared.slot.Look.{Look}
use Rattle.qs_files_contents.specs.declared.slot.Look.TheVariants as looks
use Rattle.qs_ops.specs.Table.{TableValue, changes_name, least_other}
use Rattle.qs_files.specs.Held.{look_in}
use Rattle.qs_files.proofs.Locks.{least-changer}
use Rattle.qs_files.proofs.Seen.{text-seen}
use Rattle.qs_files.proofs.holdings.Holdings.look.Goals as goal

pub returns : goal.returns
returns c =
    let slots = c.self.inside.slots in
    let shares = c.self.inside.shares in
    let name = c.args.name.now in
    let tid = c.args.tid in
    let follows = c.self.invariant.follows in
    let n = c.self.inside.counts.committed in
    IfOk-weaker c.look.result (λ look. look ≡ look_at (slot_or_new slots name) tid) (λ look. look ≡ look_in c.args.self.now tid name)
    (λ look is.
    is
    ∙ ap (λ (other : Option Tid). elim other [ Some by ↦ looks.Held by | None ↦ looks.Free (seen_at (slot_or_new slots name) tid) ]) (least-changer slots shares n follows name c.in_order.ensures tid)
    ∙ ap (λ text. elim (least_other (changes_name name) tid shares) [ Some by ↦ looks.Held by | None ↦ looks.Free text ]) (sym (text-seen slots shares tid n follows name))
    ∙ ap (λ (table : TableValue). look_in table tid name) c.self.view_is)
    c.look.ensures
