-- A node that is down restarts: the machine after the entry has the whole world after it.
use Rattle.qs_world_lawful.proofs.Words.{◌≡◌, ℕ, ◌<◌, ◌==◌, Bool, true, false, [], ◌∷◌, length, refl, sym, ap, subst, ◌∙◌, if◌then◌else◌, ran_run, BookValue, effect, recovered_of, Rise, may_move, moved, risen_host, stamp_limit, World, inc_of, is_next, Lasts, rise_entry, HoldsNodeAt, HoldsNodeOf, HoldsWorld, apart_turned, eqb-true}
use Rattle.qs_world.specs.Moves.{is_in_order}
use Rattle.qs_world_lawful.specs.WorldLaws.{RisesWell}
use Rattle.qs_world_lawful.proofs.OthersDown.{node_on}
use Rattle.qs_world_lawful.proofs.RisesWell.{at, book_now, log, r, rises_own, same_book, setting}
use Rattle.qs_world_lawful.proofs.StopsWhole.{next_by}

module _ (book : BookValue) (world : World) (n stamp inc : ℕ) (lasts : Lasts book) (h : HoldsWorld book world) (may : may_move world (Rise n stamp inc) ≡ true) where
  abbrev now : BookValue
  now = effect book (rise_entry world n stamp inc)

  abbrev next : World
  next = moved (Rise n stamp inc) world

  own : HoldsNodeAt now next n
  own = (rises_own book world n stamp inc lasts h may).1

  same : now ≡ book_now book world n stamp inc lasts h may
  same = same_book book world n stamp inc lasts h may

  size_now : length now.nodes ≡ length book.nodes
  size_now = ran_run (rise_entry world n stamp inc ∷ []) book

  order_now : (k s : ℕ) → is_in_order next k s ≡ true → is_next s k now ≡ true
  order_now k s is = next_by stamp_limit world.size stamp n s k (next.hosts k).stamp is

  other : (k : ℕ) → k < world.size → (k == n) ≡ false → HoldsNodeOf now world.size k (inc_of world k) (world.channels.up k) (world.hosts k)
  other k low far = subst (λ (b : BookValue). HoldsNodeOf b world.size k (inc_of world k) (world.channels.up k) (world.hosts k)) (sym same)
      (node_on book (setting book world n stamp inc lasts h may).node stamp inc (log book world n stamp inc lasts h may) (at book world n stamp inc lasts h may).state (r book world n stamp inc lasts h may) k apart (apart_turned k (world.hosts n).node.setting.node.0 apart)
      world.size (inc_of world k) (world.channels.up k) (world.hosts k) (λ s there. (lasts.nodes (record { 0 = k }) s there).stopped) (h.nodes k low))
    where
      apart : (k == (world.hosts n).node.setting.node.0) ≡ false
      apart = ap (λ (m : ℕ). k == m) (at book world n stamp inc lasts h may).node ∙ far

  nodes_now : (k : ℕ) → k < world.size → HoldsNodeAt now next k
  nodes_now k low = by (k == n) refl
    where
      by : (b : Bool) → (k == n) ≡ b → HoldsNodeAt now next k
      by true near = subst (λ (j : ℕ). HoldsNodeAt now next j) (sym (eqb-true k n near)) own
      by false far = subst (λ (b : Bool). HoldsNodeOf now world.size k (if b then inc else inc_of world k) (if b then true else world.channels.up k) (if b then risen_host stamp inc (recovered_of (world.hosts n).log) (world.hosts n) else world.hosts k)) (sym far) (other k low far)

  pub rises_well : RisesWell book world n stamp inc
  rises_well = record {
    lawful = ((rises_own book world n stamp inc lasts h may).0, tt);
    holds = record { size = size_now ∙ h.size; order = order_now; nodes = nodes_now };
  }
