use Rattle.std.proofs.Common.{◌∙◌}
use Rattle.std.proofs.lemmas.Result.{on_ok_weaker}
use Rattle.qs_files_contents.proofs.Pieces.{fold-pieces}
use Rattle.qs_files_contents.proofs.text.Text.add_to.Goals as goal

pub returns : goal.returns
returns c = on_ok_weaker c.add_pieces.result (λ is. is ∙ fold-pieces c.args.self.now c.args.out.now) c.add_pieces.ensures
