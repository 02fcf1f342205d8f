use Rattle.std.proofs.Common.{◌∙◌, ap, refl, replicate, rules}
use Rattle.sha2.specs.Sha256.{sha256}
use Rattle.qs_disk.specs.Disk.{with_range}
use Rattle.qs_slot.proofs.BodyLemmas.{body_is}
use Rattle.qs_slot.proofs.body.body_of.Goals as goal

pub returns : goal.returns
returns c =
    body_is c.args.sequence c.args.value (replicate 56 0) c.digest_of-digest.result (search rules) (search rules) (search rules) (search rules) refl (search rules)
    c.put.new.out c.put-2.new.out c.put-3.new.out c.put-4.new.out c.put-5.new.out
    (c.put.ensures ∙ ap (with_range (replicate 56 0) 0) c.to_be_bytes.ensures)
    (c.put-2.ensures ∙ ap (with_range c.put.new.out 8) c.to_be_bytes-2.ensures)
    (c.put-3.ensures ∙ ap (with_range c.put-2.new.out 12) c.to_be_bytes-3.ensures)
    (c.put-4.ensures ∙ ap (with_range c.put-3.new.out 20) c.to_be_bytes-4.ensures)
    (c.digest_of-digest.ensures ∙ ap sha256 c.part_at.ensures.exact)
    c.put-5.ensures
