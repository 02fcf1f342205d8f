use Rattle.std.proofs.Common.{◌≡◌, ℕ, List, ◌∙◌, ap, refl, rules}
use Rattle.qs_slot.specs.Slot.{slot_in}
use Rattle.qs_disk.proofs.Moments.{read_keeps}
use Rattle.qs_slot.proofs.SlotLemmas.{slot_in-read}
use Rattle.qs_slot.proofs.opening.read_slot.Goals as goal

pub returns-in_err-read-clause-moments : goal.returns-in_err-read-clause-moments
returns-in_err-read-clause-moments g c = λ told.
    read_keeps (λ (bytes : List ℕ). bytes ≡ (g.D.Disk.state c.args.disk.now).content) c.offset.result c.read.new.buf _ (g.D.Disk.state c.args.disk.now) (g.D.Disk.state c.read.new.self)
    (c.requires.still told) (c.read.ensures.state told)

pub returns-clause-slot : goal.returns-clause-slot
returns-clause-slot g c = λ told.
    c.found_in.ensures.slot
    ∙ slot_in-read c.args.limit c.offset.result c.read.new.buf (g.D.Disk.state c.args.disk.now).content (search rules) ((c.in_ok-read.ensures.state told).read refl)
    ∙ ap (λ (place : ℕ). slot_in c.args.limit place (g.D.Disk.state c.args.disk.now).content) c.offset.ensures.exact

pub returns-clause-moments : goal.returns-clause-moments
returns-clause-moments g c = λ told.
    read_keeps (λ (bytes : List ℕ). bytes ≡ (g.D.Disk.state c.args.disk.now).content) c.offset.result c.read.new.buf _ (g.D.Disk.state c.args.disk.now) (g.D.Disk.state c.read.new.self)
    (c.requires.still told) (c.read.ensures.state told)
