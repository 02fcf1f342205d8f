use Rattle.std.proofs.Common.{◌≡◌, sym, subst, length}
use Rattle.std.specs.Prelude.{IfSome}
use Rattle.std.specs.List.{concat}
use Rattle.qs_files_contents.specs.Texts.{Pieces}
use Rattle.qs_files_contents.proofs.Pieces.{sum-told}
use Rattle.qs_files_contents.proofs.text.Text.append.Goals as goal

pub invariant_of-self : goal.invariant_of-self
invariant_of-self c =
    subst (λ (ps : Pieces). IfSome c.sum-self-inside.result (λ n. n ≡ length (concat ps))) (sym c.in-Ok.ensures.items)
    (sum-told c.self.inside.bytes c.more.inside.bytes c.sum-self-inside.result c.self.inside.pieces c.more.inside.pieces c.self.invariant c.more.invariant c.sum-self-inside.ensures)
