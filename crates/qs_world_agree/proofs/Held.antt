-- How node n comes into the home's told set, while nothing is decided.
use Rattle.std.proofs.Common.{◌≡◌, ◌≢◌, ℕ, ◌+◌, ◌<◌, ◌≤◌, true, false, sym, subst, arith}
use Rattle.qs_world_agree.specs.World.{Open, Nobody, Own, InSet, Flight, Dead, World}
use Rattle.qs_world_agree.specs.Guards.{IsReady}
use Rattle.qs_world_agree.proofs.Counts.{Counts}
use Rattle.qs_world_agree.proofs.At.{At}
use Rattle.qs_world_agree.proofs.Tree.{Tree, only_home}
use Rattle.qs_world_agree.proofs.Bond.{Bond}

pub record Held (w : World) (n : ℕ) : Type 0 where
  pub engaged : w.cell ≡ Open → w.way n ≢ Nobody → w.engaged (w.holder n) ≡ true  -- who holds its name is engaged
  pub own : w.cell ≡ Open → w.way n ≡ Own → (w.node (w.holder n) ≡ n) × (w.involved (w.holder n) ≡ true)  -- its own place will add it
  pub in_set : w.cell ≡ Open → w.way n ≡ InSet → w.told_set (w.holder n) n ≡ true  -- or a told set names it
  pub dead : w.cell ≡ Open → w.way n ≡ Dead → w.holder n < w.present (w.node (w.holder n))  -- or the way ends at a dead place
  pub flight : w.cell ≡ Open → w.way n ≡ Flight → (w.closers_taken (w.holder n) (w.sender n) < w.index n) × (w.index n ≤ w.closers (w.sender n) (w.holder n)) × (w.closer_set (w.sender n) (w.holder n) (w.index n) n ≡ true)  -- or a VotedYes on its way names it
  pub flight_open : w.cell ≡ Open → w.way n ≡ Flight → w.gone (w.holder n) ≡ false → (w.covered (w.holder n) (w.node (w.sender n)) < w.closer (w.sender n) (w.holder n) (w.index n)) × (w.peer (w.holder n) (w.node (w.sender n)) ≡ w.sender n)  -- and until it comes its receiver has a request that is not covered
  pub flight_below : (x : ℕ) → w.cell ≡ Open → w.way n ≡ Flight → 1 ≤ x → x < w.index n → w.closer (w.sender n) (w.holder n) x < w.closer (w.sender n) (w.holder n) (w.index n)  -- which nothing earlier in that stream covers

-- at the decision: who is to be told is in the home's told set
pub told_at : (w : World) (n : ℕ) → Counts w → Tree w → Held w n → w.cell ≡ Open → IsReady w w.home → n ≢ w.node w.home → w.way n ≢ Nobody → w.told_set w.home n ≡ true
told_at w n c t h is r other some =
    let at_home : w.holder n ≡ w.home = only_home w c t r (w.depth (w.holder n) + 1) (w.holder n) (omega arith) (h.engaged is some) in
    told_by w n h at_home other some is (t.home.home_present is) r.gone (r.covered (w.node (w.sender n))) (c.closer_last (w.sender n) w.home (w.index n)) (c.last_received (w.sender n) w.home) (c.received_posted (w.sender n) w.home) (c.posted_sent w.home (w.sender n))
  where
    told_by : (w : World) (n : ℕ) → Held w n → w.holder n ≡ w.home → n ≢ w.node w.home → w.way n ≢ Nobody → w.cell ≡ Open → w.present (w.node w.home) ≡ w.home → w.gone w.home ≡ false
        → w.covered w.home (w.node (w.sender n)) ≡ w.sent w.home (w.node (w.sender n))
        → (1 ≤ w.index n → w.index n ≤ w.closers (w.sender n) w.home → w.closer (w.sender n) w.home (w.index n) ≤ w.last (w.sender n) w.home)
        → w.last (w.sender n) w.home ≤ w.received (w.sender n) w.home → w.received (w.sender n) w.home ≤ w.posted w.home (w.sender n) → w.posted w.home (w.sender n) ≤ w.sent w.home (w.node (w.sender n))
        → w.told_set w.home n ≡ true
    told_by w n h at_home other some is now gone covered a b d e = grind arith

-- a VotedYes on its way to a place without Gone keeps a request there open
pub record Flying (w : World) (n : ℕ) : Type 0 where
  pub from : 1 ≤ w.sender n  -- its sender is a place
  pub is_open : w.covered (w.holder n) (w.node (w.sender n)) < w.sent (w.holder n) (w.node (w.sender n))  -- the receiver has a request there that is not covered
  pub peer : w.peer (w.holder n) (w.node (w.sender n)) ≡ w.sender n  -- and knows the sender as its node's place

pub flying : (w : World) (n : ℕ) → Counts w → Held w n → w.cell ≡ Open → w.way n ≡ Flight → w.gone (w.holder n) ≡ false → Flying w n
flying w n c h is flies gone =
    fly w n (h.flight is flies) (h.flight_open is flies gone) (c.closer_last (w.sender n) (w.holder n) (w.index n)) (c.last_received (w.sender n) (w.holder n)) (c.received_posted (w.sender n) (w.holder n)) (c.posted_sent (w.holder n) (w.sender n)) (c.posted_none (w.holder n))
  where
    fly : (w : World) (n : ℕ)
        → (w.closers_taken (w.holder n) (w.sender n) < w.index n) × (w.index n ≤ w.closers (w.sender n) (w.holder n)) × (w.closer_set (w.sender n) (w.holder n) (w.index n) n ≡ true)
        → (w.covered (w.holder n) (w.node (w.sender n)) < w.closer (w.sender n) (w.holder n) (w.index n)) × (w.peer (w.holder n) (w.node (w.sender n)) ≡ w.sender n)
        → (1 ≤ w.index n → w.index n ≤ w.closers (w.sender n) (w.holder n) → w.closer (w.sender n) (w.holder n) (w.index n) ≤ w.last (w.sender n) (w.holder n))
        → w.last (w.sender n) (w.holder n) ≤ w.received (w.sender n) (w.holder n) → w.received (w.sender n) (w.holder n) ≤ w.posted (w.holder n) (w.sender n) → w.posted (w.holder n) (w.sender n) ≤ w.sent (w.holder n) (w.node (w.sender n)) → w.posted (w.holder n) 0 ≡ 0
        → Flying w n
    fly w n f o a b d e z = grind arith

-- a ready place holds a name by itself or by its told set
pub ready_holds : (w : World) (n q : ℕ) → Counts w → Held w n → w.cell ≡ Open → IsReady w q → w.holder n ≡ q → (w.way n ≢ Flight) × (w.way n ≢ Dead)
ready_holds w n q c h is r at = (
  λ flies. let f : Flying w n = flying w n c h is flies (subst (λ (p : ℕ). w.gone p ≡ false) (sym at) r.gone) in not_open w n q at (r.covered (w.node (w.sender n))) f,
  λ dead. not_dead w n q at (h.dead is dead) (c.up_present q r.up),
)
  where
    not_open : (w : World) (n q : ℕ) → w.holder n ≡ q → w.covered q (w.node (w.sender n)) ≡ w.sent q (w.node (w.sender n)) → Flying w n → ⊥
    not_open w n q at r f = grind arith

    not_dead : (w : World) (n q : ℕ) → w.holder n ≡ q → w.holder n < w.present (w.node (w.holder n)) → w.present (w.node q) ≡ q → ⊥
    not_dead w n q at a b = grind arith

-- what a place and its superior are to each other when it sends VotedYes
pub record Leaving (w : World) (q : ℕ) : Type 0 where
  pub above : w.engaged (w.engager q) ≡ true  -- the engager is engaged
  pub not_self : w.engager q ≢ q  -- and another
  pub taken : w.closers_taken (w.engager q) q ≤ w.closers q (w.engager q)  -- it took no more than was put
  pub is_open : w.gone (w.engager q) ≡ false → (w.covered (w.engager q) (w.node q) < w.last q (w.engager q)) × (w.peer (w.engager q) (w.node q) ≡ q)  -- without Gone it has not covered the last request, and knows this place
  pub below : (x : ℕ) → 1 ≤ x → x ≤ w.closers q (w.engager q) → w.closer q (w.engager q) x < w.last q (w.engager q)  -- nothing on its way covers that request
  pub older : w.peer q (w.superior q) ≢ w.engager q → w.engager q < w.present (w.node (w.engager q))  -- where another place of the superior is known, the engager is dead

pub leaving : (w : World) (q : ℕ) → Counts w → At w q → Bond w q → w.engaged q ≡ true → q ≢ w.home → Leaving w q
leaving w q c t b on other = record {
  above = (t.by_engaged on other).0;
  not_self = not_self_at w q (t.by_engaged on other).1;
  taken = b.taken (w.engager q);
  is_open = λ g. open_at w q (t.by_open on other g) (b.by_last on other) (t.by_received on other) (c.received_posted q (w.engager q)) (c.posted_known (w.engager q) q) (t.by_newer on other) g;
  below = λ x from to. omega (arith, t.by_closers x on other from to, b.by_last on other);
  older = λ new. older_at w q (b.by_peer on other) (t.by_superior on other) (c.peer_present q (w.superior q)) new;
}
  where
    not_self_at : (w : World) (q : ℕ) → w.depth (w.engager q) < w.depth q → w.engager q ≢ q
    not_self_at w q a = grind arith

    open_at : (w : World) (q : ℕ) → w.covered (w.engager q) (w.node q) < w.engaging q → w.engaging q ≤ w.last q (w.engager q) → (1 ≤ w.engaging q) × (w.engaging q ≤ w.received q (w.engager q)) → w.received q (w.engager q) ≤ w.posted (w.engager q) q → (w.peer (w.engager q) (w.node q) < q → w.posted (w.engager q) q ≡ 0)
        → (q < w.peer (w.engager q) (w.node q) → w.gone (w.engager q) ≡ true) → w.gone (w.engager q) ≡ false → (w.covered (w.engager q) (w.node q) < w.last q (w.engager q)) × (w.peer (w.engager q) (w.node q) ≡ q)
    open_at w q a b d e f g z = grind arith

    older_at : (w : World) (q : ℕ) → w.engager q ≤ w.peer q (w.superior q) → w.superior q ≡ w.node (w.engager q) → w.peer q (w.superior q) ≤ w.present (w.superior q) → w.peer q (w.superior q) ≢ w.engager q → w.engager q < w.present (w.node (w.engager q))
    older_at w q a b d e = grind arith
