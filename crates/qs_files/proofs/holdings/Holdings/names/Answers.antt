use Rattle.std.proofs.Common.{◌≡◌, [], map, List, fold, sym, ap, ◌∙◌}
use Rattle.std.proofs.lemmas.Result.{IfOk-weaker}
use Rattle.qs_files_contents.specs.Slots.{add_name}
use Rattle.qs_ops.specs.declared.file.File.{File}
use Rattle.qs_ops.specs.Table.{TableValue, view_contents}
use Rattle.qs_files.proofs.Seen.{names-seen, files-seen}
use Rattle.qs_files.proofs.holdings.Holdings.names.Goals as goal

pub returns : goal.returns
returns c =
    let slots = c.self.inside.slots in
    IfOk-weaker c.names.result (λ names. names ≡ fold (add_name c.args.tid) [] slots) (λ names. names ≡ map (λ f. f.name) (view_contents c.args.self.now c.args.tid))
    (λ names is. is ∙ names-seen c.args.tid slots []
    ∙ ap (λ (fs : List File). map (λ f. f.name) fs) (sym (files-seen slots c.self.inside.shares c.args.tid c.self.inside.counts.committed c.self.invariant.follows))
    ∙ ap (λ (table : TableValue). map (λ f. f.name) (view_contents table c.args.tid)) c.self.view_is)
    c.names.ensures
