use Rattle.qs_files_contents.proofs.Sums.{by_result, told_placed, told_same}
use Rattle.qs_files_contents.proofs.slots.FileTexts.place.Goals as goal

pub invariant_of-self : goal.invariant_of-self
invariant_of-self c =
    let names = c.self.inside.names in
    let bytes = c.self.inside.committed in
    by_result c.place.result c.place.ensures.ok c.place.ensures.err
    (told_placed c.args.tid c.args.name.now names c.place.new.names bytes c.self.invariant)
    (told_same names c.place.new.names bytes c.self.invariant)
