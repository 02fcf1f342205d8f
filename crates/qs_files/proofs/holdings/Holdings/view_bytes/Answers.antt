use Rattle.std.proofs.Common.{◌≡◌, List, fold, sym, subst, ap, ◌∙◌}
use Rattle.std.specs.Prelude.{sum_by, length}
use Rattle.std.proofs.lemmas.Result.{IfOk-weaker}
use Rattle.qs_files_contents.specs.Slots.{add_entry}
use Rattle.qs_ops.specs.declared.file.File.{File}
use Rattle.qs_ops.specs.Table.{TableValue, view_bytes}
use Rattle.qs_ops.specs.declared.operation.Op.{Op}
use Rattle.qs_files_contents.specs.Sums.{ChangesAlone}
use Rattle.qs_files.proofs.Alone.{changes_alone}
use Rattle.qs_files.proofs.Seen.{bytes-seen, files-seen}
use Rattle.qs_files.proofs.holdings.Holdings.view_bytes.Goals as goal

pub bytes-requires : goal.bytes-requires
bytes-requires c =
    let inside = c.self.inside in
    subst (λ (ops : List Op). ChangesAlone c.args.tid inside.slots ops) (sym c.changes.ensures)
    (changes_alone inside.slots inside.shares c.args.tid inside.counts.committed c.self.invariant.follows)

pub returns : goal.returns
returns c =
    let slots = c.self.inside.slots in
    IfOk-weaker c.bytes.result (λ bytes. bytes ≡ fold (add_entry c.args.tid) 0 slots) (λ bytes. bytes ≡ view_bytes c.args.self.now c.args.tid)
    (λ bytes is. is ∙ bytes-seen c.args.tid slots 0
    ∙ ap (λ (fs : List File). sum_by (λ f. length f.content) fs) (sym (files-seen slots c.self.inside.shares c.args.tid c.self.inside.counts.committed c.self.invariant.follows))
    ∙ ap (λ (table : TableValue). view_bytes table c.args.tid) c.self.view_is)
    c.bytes.ensures
