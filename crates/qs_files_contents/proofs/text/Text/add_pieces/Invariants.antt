use Rattle.std.proofs.Common.{◌≡◌, fold, map}
use Rattle.qs_files_contents.specs.Texts.{add_piece}
use Rattle.qs_files_contents.proofs.text.Text.add_pieces.Given as goal

abbrev pub invariant-loop-piece : goal.invariant-loop-piece
invariant-loop-piece l = l.out ≡ fold add_piece l.initial.out (map (λ x. x.now) l.yielded)
