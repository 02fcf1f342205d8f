use Rattle.qs_disk.proofs.Images.{matches_set}
use Rattle.qs_disk.proofs.cells.draw_at.Goals as goal

pub returns-clause-image : goal.returns-clause-image
returns-clause-image c = matches_set c.args.stable.now c.args.loose.now c.args.content.now.items c.args.at c.drawn.result c.if-not-loose-at.false c.requires.image
