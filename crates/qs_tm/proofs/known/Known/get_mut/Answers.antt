use Rattle.std.specs.Prelude.{Some}
use Rattle.qs_tm.proofs.KnownLemmas.{spanned_set}
use Rattle.qs_tm.proofs.known.Known.get_mut.Goals as goal

pub invariant_of-self-lent : goal.invariant_of-self-lent
invariant_of-self-lent c = λ lent. (
  (λ w. record {
    forward = c.touched.ensures.spanned.forward;
    due = spanned_set (Some c.touched.result) c.args.tid.now c.self.inside.parts w c.touched.ensures.within c.touched.ensures.spanned.due;
  }),
  c.touched.ensures.spanned,
)
