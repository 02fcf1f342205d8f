use Rattle.std.proofs.Common.{◌∙◌, ap, [], ◌∷◌, ◌++◌}
use Rattle.std.specs.Prelude.{None}
use Rattle.qs_cell_chronicle.specs.Chronicle.{Told, step_of}
use Rattle.qs_cell_chronicle.proofs.Entries.{all_added}
use Rattle.qs_cell_chronicle.proofs.chronicle.Chronicle.note.Goals as goal

pub returns-clause-told : goal.returns-clause-told
returns-clause-told c =
    c.add_step.ensures.told
    ∙ ap (λ (told : Told). record told { trace = told.trace ++ step_of told c.args.did c.args.put None ∷ [] }) (c.add_entries.ensures.told ∙ all_added c.args.self.now.told c.args.acts)
