use Rattle.std.proofs.Common.{rules, ◌≡◌, ◌+◌, ◌++◌, length, ◌∙◌, ap}
use Rattle.qs_log_batch.specs.Gathering.{body_in}
use Rattle.qs_log_batch.proofs.GatheringLemmas.{body_put}
use Rattle.qs_log_batch.proofs.buffer.put_behind.Goals as goal

pub returns-clause-body : goal.returns-clause-body
returns-clause-body c =
    let put : c.append_within.new.bytes.items ≡ c.resize.new.self.items ++ c.args.part.now = search rules in
    ap (body_in (c.args.size + length c.args.part.now)) put
    ∙ body_put c.args.size c.args.bytes.now.len c.args.bytes.now.items c.resize.new.self.items c.args.part.now c.requires.within (search rules) (search rules)
