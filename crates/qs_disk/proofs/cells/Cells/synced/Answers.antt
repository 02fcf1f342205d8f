use Rattle.std.proofs.Common.{false, length, ap, sym, ◌∙◌, subst, arith}
use Rattle.std.proofs.lemmas.List.{length-replicate}
use Rattle.qs_disk.specs.Cells.{IsQuiet}
use Rattle.qs_disk.proofs.Images.{quiet_replicate, within_synced, still_quiet}
use Rattle.qs_disk.proofs.cells.Cells.synced.Goals as goal

pub invariant_of-result : goal.invariant_of-result
invariant_of-result c =
    within_synced c.args.content.items c.args.stable.items c.args.loose.items c.len-from.result c.requires.same
    (ap length c.requires.quiet ∙ length-replicate (length c.args.content.items) false)
    (subst IsQuiet (sym c.requires.quiet) (quiet_replicate (length c.args.content.items))) (omega arith)

pub returns-clause-still : goal.returns-clause-still
returns-clause-still c =
    still_quiet c.args.content.items c.args.stable.items c.args.loose.items c.requires.same (subst IsQuiet (sym c.requires.quiet) (quiet_replicate (length c.args.content.items)))
