-- In the world a whole step of one node leaves all that is held of each other.
use Rattle.qs_world_lawful.proofs.Words.{◌≡◌, ℕ, ◌++◌, Bool, sym, subst, BookValue, book_after, opening, Step, moved, Host, World, inc_of, HoldsNodeAt, HoldsNodeOf}
use Rattle.qs_world_lawful.specs.AsideLaws.{EachStepKeepsOtherNodes}
use Rattle.qs_world_lawful.proofs.AsideWhole.{keeps_others}
use Rattle.qs_world_lawful.proofs.StepWays.{KeepsWay, step_keeps}

same_node : (book : BookValue) (world next : World) (k : ℕ) → next.hosts k ≡ world.hosts k → next.size ≡ world.size → next.channels.inc ≡ world.channels.inc → next.channels.up ≡ world.channels.up → HoldsNodeAt book world k → HoldsNodeAt book next k
same_node book world next k host size inc up h =
    subst (λ (x : Host). HoldsNodeOf book next.size k (next.channels.inc k) (next.channels.up k) x) (sym host)
    (subst (λ (x : ℕ). HoldsNodeOf book x k (next.channels.inc k) (next.channels.up k) (world.hosts k)) (sym size)
    (subst (λ (x : ℕ → ℕ). HoldsNodeOf book world.size k (x k) (next.channels.up k) (world.hosts k)) (sym inc)
    (subst (λ (x : ℕ → Bool). HoldsNodeOf book world.size k (world.channels.inc k) (x k) (world.hosts k)) (sym up) h)))

pub step_others : EachStepKeepsOtherNodes
step_others opened history more coherent numbered lawful world n stamp free source k far aside unanimous held issued =
    same_node (book_after (opening opened) (history ++ more)) world (moved (Step n stamp free source) world) k w.host w.size w.inc w.up
    (keeps_others opened history more coherent numbered lawful world.size k (inc_of world k) (world.channels.up k) (world.hosts k) aside unanimous (record { node = held; issued = issued })).node
  where
    w : KeepsWay k k n far far world (moved (Step n stamp free source) world)
    w = step_keeps k k n far far world stamp free source
