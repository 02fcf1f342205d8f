use Rattle.std.proofs.Common.{rules, ◌∙◌, ap, sym}
use Rattle.std.specs.Prelude.{Option, unwrap_or}
use Rattle.std.specs.BTreeMap.{is_at}
use Rattle.qs_base.specs.Order.{bytes_cmp}
use Rattle.qs_files_contents.specs.Slots.{is_empty_slot, new_slot}
use Rattle.qs_files_contents.specs.declared.slot.FileText.{FileText}
use Rattle.qs_files_contents.proofs.Maps.{lookup-written}
use Rattle.qs_files_contents.proofs.under.unread_slot.Goals as goal

pub returns-in-Some-clause-empty : goal.returns-in-Some-clause-empty
returns-in-Some-clause-empty c =
    c.is_empty.ensures
    ∙ ap (λ (o : Option FileText). is_empty_slot (unwrap_or o new_slot))
    (sym (lookup-written (is_at (bytes_cmp c.args.name.now)) c.args.names.now c.in-Some.slot.now c.unread.new.self (search rules)))
