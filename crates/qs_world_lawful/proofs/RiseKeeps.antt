-- A node that restarts leaves all that is held of every other node that runs.
use Rattle.qs_world_lawful.proofs.Words.{◌≡◌, ℕ, ◌==◌, true, false, sym, ap, subst, ◌∙◌, BookValue, effect, Rise, may_move, World, HoldsStill, Lasts, rise_entry, HoldsWorld, apart_turned}
use Rattle.qs_node_step.specs.State.{NodeValue}
use Rattle.qs_world_lawful.proofs.OthersRise.{holds_on}
use Rattle.qs_world_lawful.proofs.RisesWell.{at, book_now, log, r, same_book, setting}

pub keeps : (book : BookValue) (world : World) (n stamp inc : ℕ) → Lasts book → HoldsWorld book world → may_move world (Rise n stamp inc) ≡ true
    → (k : ℕ) (node : NodeValue) → (k == n) ≡ false → node.setting.node.0 ≡ k → HoldsStill book node → HoldsStill (effect book (rise_entry world n stamp inc)) node
keeps book world n stamp inc lasts h may k node far here held =
    subst (λ (b : BookValue). HoldsStill b node) (sym same)
    (holds_on book (setting book world n stamp inc lasts h may).node stamp inc (log book world n stamp inc lasts h may) (at book world n stamp inc lasts h may).state (r book world n stamp inc lasts h may) k apart (apart_turned k (world.hosts n).node.setting.node.0 apart) node here held)
  where
    apart : (k == (world.hosts n).node.setting.node.0) ≡ false
    apart = ap (λ (m : ℕ). k == m) (at book world n stamp inc lasts h may).node ∙ far

    same : effect book (rise_entry world n stamp inc) ≡ book_now book world n stamp inc lasts h may
    same = same_book book world n stamp inc lasts h may
