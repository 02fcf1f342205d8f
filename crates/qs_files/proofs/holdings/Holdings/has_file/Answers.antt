use Rattle.std.proofs.Common.{ℕ, List, Option, sym, ap, ◌∙◌}
use Rattle.std.specs.Prelude.{is_some}
use Rattle.qs_ops.specs.Table.{TableValue, text_at}
use Rattle.qs_files.proofs.Seen.{text-seen}
use Rattle.qs_files.proofs.holdings.Holdings.has_file.Goals as goal

pub returns : goal.returns
returns c =
    c.is_seen.ensures
    ∙ ap (λ (o : Option (List ℕ)). is_some o) (sym (text-seen c.self.inside.slots c.self.inside.shares c.args.tid c.self.inside.counts.committed c.self.invariant.follows c.args.name.now))
    ∙ ap (λ (table : TableValue). is_some (text_at table c.args.tid c.args.name.now)) c.self.view_is
