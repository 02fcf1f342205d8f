use Rattle.std.proofs.Common.{◌∙◌, ap, sym}
use Rattle.std.specs.Prelude.{List}
use Rattle.qs_base.specs.declared.identifiers.Tid.{Tid}
use Rattle.qs_tm.specs.Manager.{put_tid}
use Rattle.qs_tm.specs.declared.manager.Which.TheVariants as whiches
use Rattle.qs_tm.proofs.KnownLemmas.{due_alone, listed_at}
use Rattle.qs_tm.proofs.known.due_alone.Goals as goal
use Rattle.qs_tm.proofs.known.due_alone.Goals.{in-Some+in_ok-put_tid, in_default}

pub returns : goal.returns
returns c = elim c.match-get_unique.branch [
  | in-Some+in_ok-put_tid w ↦
      w.tids-is ∙ w.in_ok-put_tid.ensures
      ∙ ap (λ (tids : List Tid). put_tid whiches.Due tids (c.args.tid, w.in-Some.part.now)) c.new-tids.ensures
      ∙ ap (listed_at c.args.tid) w.in-Some.ensures.value
      ∙ sym (due_alone c.args.tid c.args.parts.now c.get_unique.ensures.ordered c.requires.due)
  | in_default w ↦
      w.tids-is ∙ c.new-tids.ensures
      ∙ ap (listed_at c.args.tid) w.in_default.ensures.value
      ∙ sym (due_alone c.args.tid c.args.parts.now c.get_unique.ensures.ordered c.requires.due)
]
