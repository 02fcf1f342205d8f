use Rattle.std.proofs.Common.{◌≡◌, ℕ, List, Option, sym, ap, ◌∙◌, subst}
use Rattle.std.specs.Prelude.{IfSome, length}
use Rattle.qs_files_contents.specs.Texts.{text_bytes}
use Rattle.qs_ops.specs.Table.{TableValue, view_contents, text_or_empty}
use Rattle.qs_files.proofs.Seen.{text-seen}
use Rattle.qs_files.proofs.holdings.Holdings.length.Goals as goal

pub returns : goal.returns
returns c =
    let is = sym (text-seen c.self.inside.slots c.self.inside.shares c.args.tid c.self.inside.counts.committed c.self.invariant.follows c.args.name.now) in
    let same = ap (λ (o : Option (List ℕ)). text_bytes o) is ∙ ap (λ (table : TableValue). length (text_or_empty (view_contents table c.args.tid) c.args.name.now)) c.self.view_is in
    subst (λ (m : ℕ). IfSome c.length.result (λ n. n ≡ m)) same c.length.ensures
