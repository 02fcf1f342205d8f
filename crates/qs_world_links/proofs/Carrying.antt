-- All links of a run, as one is carried, and as nothing is done with any.
use Rattle.std.proofs.Common.{◌≡◌, ◌≢◌, ap, refl, subst, sym, ℕ, ◌<◌, ◌==◌, Bool, true, false, not, List}
use Rattle.std.specs.Prelude.{Result}
use Rattle.std.proofs.lemmas.Bool.{eqb-false, eqb-true, ne_eqb}
use Rattle.qs_base.specs.declared.memory.NoMemory.{NoMemory}
use Rattle.qs_cell.specs.Hearing.{Post}
use Rattle.qs_cell.specs.WholeVisits.{steps_in}
use Rattle.qs_cell.specs.declared.state.CellState.{CellState}
use Rattle.qs_cell_peers.proofs.Places.{is_peer_from}
use Rattle.qs_cell_peers.specs.Links.{IsSameNode, LinksValue, into_of, is_peer_of, out_of}
use Rattle.qs_link.specs.declared.outgoing.LinkFault.{LinkFault}
use Rattle.qs_world_links.proofs.Hearing.{peer_there, post_of_node}
use Rattle.qs_world_links.proofs.Linking.{each_link_is_carried}
use Rattle.qs_world_links.specs.Between.{IsLinkOf}
use Rattle.qs_world_links.specs.Everywhere.{LinksAreTold, HasCarriedLink, ToldAsAllCarried, ToldAsCarried, ToldAsSame}
use Rattle.qs_world_links.specs.Posts.{IsOfNode, IsPostOf, trace_in}
use Rattle.qs_world_links.proofs.Linked.{link_same}

-- the same node, with the same trace
same_trace : {D : Type 0} (old new : Post D) → new.seat.node ≡ old.seat.node → trace_in new ≡ trace_in old
same_trace old new same = ap (λ (s : CellState _). steps_in s) same

module _ {D : Type 0} (nodes : ℕ) (plans : ℕ → ℕ → List LinkFault) (old new : ℕ → Post D) where
  pub each_same : ToldAsSame nodes plans old new
  each_same same linked = record {
    of = λ n low. post_of_node nodes n (old n) (new n) (linked.of n low) (record { size = ap (λ (l : LinksValue). l.size) (same n low).1; me = ap (λ (l : LinksValue). l.me) (same n low).1 })
        (subst (λ (s : CellState D). IsOfNode nodes n s) (sym (same n low).0) (linked.of n low).node);
    links = λ m n low_m low_n other. link_same (plans m n) m n (trace_in (old m)) (trace_in (new m)) (trace_in (old n)) (trace_in (new n)) (out_of (old m).links n) (out_of (new m).links n) (into_of (old n).links m) (into_of (new n).links m)
        (traces m low_m) (traces n low_n) (ap (λ (l : LinksValue). out_of l n) (same m low_m).1) (ap (λ (l : LinksValue). into_of l m) (same n low_n).1)
        (linked.links m n low_m low_n other);
  }
    where
      traces : (j : ℕ) → j < nodes → trace_in (new j) ≡ trace_in (old j)
      traces j low = same_trace (old j) (new j) (same j low).0

  -- ---- all links are carried

  pub each_all_carried : ToldAsAllCarried nodes plans old new
  each_all_carried c linked = record {
    of = λ n low. post_of_node nodes n (old n) (new n) (linked.of n low) (c.same n low).1 (subst (λ (s : CellState D). IsOfNode nodes n s) (sym (c.same n low).0) (linked.of n low).node);
    links = λ m n low_m low_n other. link_same (plans m n) m n (trace_in (old m)) (trace_in (new m)) (trace_in (old n)) (trace_in (new n)) (out_of (new m).links n) (out_of (new m).links n) (into_of (new n).links m) (into_of (new n).links m)
        (traces m low_m) (traces n low_n) refl refl
        (each_link_is_carried (plans m n) m n (trace_in (old m)) (trace_in (old n)) (c.each m n low_m low_n other).result (out_of (old m).links n) (out_of (new m).links n) (into_of (old n).links m) (into_of (new n).links m)
        (c.each m n low_m low_n other).carried (linked.links m n low_m low_n other));
  }
    where
      traces : (j : ℕ) → j < nodes → trace_in (new j) ≡ trace_in (old j)
      traces j low = same_trace (old j) (new j) (c.same j low).0

  -- ---- one link is carried

  module _ (m n : ℕ) (result : Result ℕ NoMemory) (low_m : m < nodes) (low_n : n < nodes) (apart : m ≢ n) (c : HasCarriedLink nodes m n result old new) (linked : LinksAreTold nodes plans old) where
    -- what holds of each node holds of the two, and of the others
    by_node : (P : ℕ → Type 0) → P m → P n → ((j : ℕ) → j < nodes → j ≢ m → j ≢ n → P j) → (j : ℕ) → j < nodes → P j
    by_node P at_m at_n at_others j low = by (j == m) refl (j == n) refl
      where
        by : (a : Bool) → (j == m) ≡ a → (b : Bool) → (j == n) ≡ b → P j
        by true is b also = subst P (sym (eqb-true j m is)) at_m
        by false is true also = subst P (sym (eqb-true j n also)) at_n
        by false is false also = at_others j low (eqb-false j m is) (eqb-false j n also)

    node_same : (j : ℕ) → j < nodes → (new j).seat.node ≡ (old j).seat.node
    node_same = by_node (λ j. (new j).seat.node ≡ (old j).seat.node) c.from c.to (λ j low other_m other_n. ap (λ (p : Post D). p.seat.node) (c.others j low other_m other_n))

    links_of : (j : ℕ) → j < nodes → IsSameNode (old j).links (new j).links
    links_of = by_node (λ j. IsSameNode (old j).links (new j).links) c.same_from c.same_to
        (λ j low other_m other_n. record { size = ap (λ (p : Post D). p.links.size) (c.others j low other_m other_n); me = ap (λ (p : Post D). p.links.me) (c.others j low other_m other_n) })

    of_each : (j : ℕ) → j < nodes → IsPostOf nodes j (new j)
    of_each j low = post_of_node nodes j (old j) (new j) (linked.of j low) (links_of j low) (subst (λ (s : CellState D). IsOfNode nodes j s) (sym (node_same j low)) (linked.of j low).node)

    traces : (j : ℕ) → j < nodes → trace_in (new j) ≡ trace_in (old j)
    traces j low = same_trace (old j) (new j) (node_same j low)

    peer_of : (j k : ℕ) → j < nodes → k < nodes → k ≢ j → is_peer_of (old j).links k ≡ true
    peer_of j k low_j low_k other = peer_there nodes j (old j) (linked.of j low_j) k (is_peer_from nodes j k low_k other)

    -- the other ends are the same
    out_same : (j k : ℕ) → j < nodes → k < nodes → j ≢ k → (j ≡ m → k ≢ n) → out_of (new j).links k ≡ out_of (old j).links k
    out_same j k low_j low_k other not_it = by_node (λ h. h ≢ k → (h ≡ m → k ≢ n) → out_of (new h).links k ≡ out_of (old h).links k)
        (λ k_other free. c.its_out k (peer_of m k low_m low_k (λ same. k_other (sym same))) (ap not (ne_eqb k n (free refl))))
        (λ k_other free. c.own_out k (peer_of n k low_n low_k (λ same. k_other (sym same))) refl)
        (λ h low other_m other_n k_other free. ap (λ (p : Post D). out_of p.links k) (c.others h low other_m other_n))
        j low_j other not_it

    into_same : (j k : ℕ) → j < nodes → k < nodes → j ≢ k → (j ≡ n → k ≢ m) → into_of (new j).links k ≡ into_of (old j).links k
    into_same j k low_j low_k other not_it = by_node (λ h. h ≢ k → (h ≡ n → k ≢ m) → into_of (new h).links k ≡ into_of (old h).links k)
        (λ k_other free. c.its_into k (peer_of m k low_m low_k (λ same. k_other (sym same))) refl)
        (λ k_other free. c.own_into k (peer_of n k low_n low_k (λ same. k_other (sym same))) (ap not (ne_eqb k m (free refl))))
        (λ h low other_m other_n k_other free. ap (λ (p : Post D). into_of p.links k) (c.others h low other_m other_n))
        j low_j other not_it

    -- the link itself
    it : IsLinkOf (plans m n) m n (trace_in (new m)) (trace_in (new n)) (out_of (new m).links n) (into_of (new n).links m)
    it = link_same (plans m n) m n (trace_in (old m)) (trace_in (new m)) (trace_in (old n)) (trace_in (new n)) (out_of (new m).links n) (out_of (new m).links n) (into_of (new n).links m) (into_of (new n).links m)
        (traces m low_m) (traces n low_n) refl refl
        (each_link_is_carried (plans m n) m n (trace_in (old m)) (trace_in (old n)) result (out_of (old m).links n) (out_of (new m).links n) (into_of (old n).links m) (into_of (new n).links m) c.carried
        (linked.links m n low_m low_n apart))

    other_link : (a b : ℕ) → a < nodes → b < nodes → a ≢ b → (a ≡ m → b ≢ n) → IsLinkOf (plans a b) a b (trace_in (new a)) (trace_in (new b)) (out_of (new a).links b) (into_of (new b).links a)
    other_link a b low_a low_b other not_it = link_same (plans a b) a b (trace_in (old a)) (trace_in (new a)) (trace_in (old b)) (trace_in (new b)) (out_of (old a).links b) (out_of (new a).links b) (into_of (old b).links a) (into_of (new b).links a)
        (traces a low_a) (traces b low_b) (out_same a b low_a low_b other not_it) (into_same b a low_b low_a (λ same. other (sym same)) (λ is_n is_m. not_it is_m is_n))
        (linked.links a b low_a low_b other)

    each_link : (a b : ℕ) → a < nodes → b < nodes → a ≢ b → IsLinkOf (plans a b) a b (trace_in (new a)) (trace_in (new b)) (out_of (new a).links b) (into_of (new b).links a)
    each_link a b low_a low_b other = by (a == m) refl (b == n) refl
      where
        by : (x : Bool) → (a == m) ≡ x → (y : Bool) → (b == n) ≡ y → IsLinkOf (plans a b) a b (trace_in (new a)) (trace_in (new b)) (out_of (new a).links b) (into_of (new b).links a)
        by true is true also = subst (λ (h : ℕ). IsLinkOf (plans h b) h b (trace_in (new h)) (trace_in (new b)) (out_of (new h).links b) (into_of (new b).links h)) (sym (eqb-true a m is))
            (subst (λ (h : ℕ). IsLinkOf (plans m h) m h (trace_in (new m)) (trace_in (new h)) (out_of (new m).links h) (into_of (new h).links m)) (sym (eqb-true b n also)) it)
        by true is false also = other_link a b low_a low_b other (λ same. eqb-false b n also)
        by false is y also = other_link a b low_a low_b other (λ same. absurd (eqb-false a m is same))

  pub each_carried : (m n : ℕ) (result : Result ℕ NoMemory) → ToldAsCarried nodes plans m n result old new
  each_carried m n result low_m low_n apart c linked = record { of = of_each m n result low_m low_n apart c linked; links = each_link m n result low_m low_n apart c linked }
