-- All links of a run, as one of its cells goes on, and as a link is carried.
use Rattle.std.proofs.Common.{◌≡◌, ◌≢◌, refl, subst, sym, ℕ, ◌<◌, ◌==◌, Bool, true, false, List, [], ◌++◌, drop, length}
use Rattle.std.specs.Prelude.{Result}
use Rattle.std.specs.Global.{Global}
use Rattle.std.proofs.lemmas.Bool.{eqb-false, eqb-true}
use Rattle.qs_cell.specs.Hearing.{Post}
use Rattle.qs_cell.specs.declared.state.RestartFault.{RestartFault}
use Rattle.qs_cell_peers.proofs.Places.{is_peer_from, peer_is}
use Rattle.qs_cell_peers.specs.Links.{into_of, out_of}
use Rattle.qs_disk.specs.Disk.{DiskState}
use Rattle.qs_link.specs.Lane.{DrawValue}
use Rattle.qs_link.specs.Plan.{OutgoingValue}
use Rattle.qs_link.specs.declared.outgoing.LinkFault.{LinkFault}
use Rattle.qs_node_step.specs.declared.trace.Step.{Step}
use Rattle.qs_packet.specs.declared.packet.Packet.{Packet}
use Rattle.rtrb.specs.Ring.{received, sent}
use Rattle.qs_world_links.proofs.Ends.{all_front}
use Rattle.qs_world_links.proofs.Linking.{each_link_begins, each_link_is_named, each_link_keeps_plan, puts_on, takes_on}
use Rattle.qs_world_links.proofs.Starting.{each_restart}
use Rattle.qs_world_links.proofs.Visiting.{each_visit}
use Rattle.qs_world_links.specs.Between.{Goes, IsLinkOf}
use Rattle.qs_world_links.specs.Everywhere.{LinksAreTold, ToldAsNew, ToldAsRestarted, ToldAsOneTells, ToldAsVisited, ToldKeepPlans, OthersStay}
use Rattle.qs_world_links.specs.Posts.{AreCarriedNamed, IsPostOf, LinkIsPutTo, LinkIsTakenFrom, TellsOfLinks, trace_in}

-- ---- one link, by what its cells tell

pub each_put : {D : Type 0} (nodes m n : ℕ) (old new : Post D) → LinkIsPutTo nodes m n old new
each_put nodes m n old new plan receiver i t peer link =
    subst (λ (l : List Step). IsLinkOf plan m n l receiver (out_of new.links n) i) (sym t.trace)
    (puts_on plan m n (trace_in old) receiver t.steps (out_of old.links n) (out_of new.links n) i (t.put n peer) t.from link)

pub each_taken : {D : Type 0} (nodes m n : ℕ) (old new : Post D) → LinkIsTakenFrom nodes m n old new
each_taken nodes m n old new plan sender o t peer named link =
    subst (λ (l : List Step). IsLinkOf plan m n sender l o (into_of new.links m)) (sym t.trace)
    (takes_on plan m n sender (trace_in old) t.steps o (into_of old.links m) (into_of new.links m) (t.took named m peer) (t.rings m peer) link)

-- the same ends, and traces
pub link_same : (plan : List LinkFault) (m n : ℕ) (s s_new r r_new : List Step) (o o_new : OutgoingValue) (i i_new : DrawValue Packet) → s_new ≡ s → r_new ≡ r → o_new ≡ o → i_new ≡ i
    → IsLinkOf plan m n s r o i → IsLinkOf plan m n s_new r_new o_new i_new
link_same plan m n s s_new r r_new o o_new i i_new same_s same_r same_o same_i link =
    subst (λ (l : List Step). IsLinkOf plan m n l r_new o_new i_new) (sym same_s)
    (subst (λ (l : List Step). IsLinkOf plan m n s l o_new i_new) (sym same_r)
    (subst (λ (e : OutgoingValue). IsLinkOf plan m n s r e i_new) (sym same_o)
    (subst (λ (e : DrawValue Packet). IsLinkOf plan m n s r o e) (sym same_i) link)))

-- ---- all of them

module _ {D : Type 0} (nodes : ℕ) (plans : ℕ → ℕ → List LinkFault) where
  -- all that was carried is named
  pub named_there : (posts : ℕ → Post D) → LinksAreTold nodes plans posts → (k : ℕ) → k < nodes → AreCarriedNamed nodes k (posts k).links
  named_there posts linked k low m peer =
      all_front (Goes m k) i.inbox (drop (length (received i.ring)) (sent o.feed.ring))
      (all_front (Goes m k) (i.inbox ++ drop (length (received i.ring)) (sent o.feed.ring)) o.feed.outbox
      (each_link_is_named (plans m k) m k (trace_in (posts m)) (trace_in (posts k)) o i (linked.links m k (peer_is nodes k m peer).0 low (peer_is nodes k m peer).1)))
    where
      o : OutgoingValue
      o = out_of (posts m).links k

      i : DrawValue Packet
      i = into_of (posts k).links m

  pub each_new : (posts : ℕ → Post D) → ToldAsNew nodes plans posts
  each_new posts new = record {
    of = new.of;
    links = λ m n low_m low_n other. link_same (plans m n) m n [] (trace_in (posts m)) [] (trace_in (posts n)) (out_of (posts m).links n) (out_of (posts m).links n) (into_of (posts n).links m) (into_of (posts n).links m)
        (new.none m low_m) (new.none n low_n) refl refl (each_link_begins (plans m n) m n (out_of (posts m).links n) (into_of (posts n).links m) (new.links m n low_m low_n other));
  }

  pub each_keeps : (posts : ℕ → Post D) → ToldKeepPlans nodes plans posts
  each_keeps posts linked n m low_n low_m other =
      each_link_keeps_plan (plans m n) m n (trace_in (posts m)) (trace_in (posts n)) (out_of (posts m).links n) (into_of (posts n).links m) (linked.links m n low_m low_n other)

  -- ---- a cell goes on

  module _ (k : ℕ) (old new : ℕ → Post D) (low : k < nodes) (t : TellsOfLinks nodes k (old k) (new k)) (others : OthersStay nodes k old new) (linked : LinksAreTold nodes plans old) where
    of_each : (j : ℕ) → j < nodes → IsPostOf nodes j (new j)
    of_each j low_j = by (j == k) refl
      where
        by : (b : Bool) → (j == k) ≡ b → IsPostOf nodes j (new j)
        by true is = subst (λ (h : ℕ). IsPostOf nodes h (new h)) (sym (eqb-true j k is)) t.post
        by false is = subst (λ (p : Post D). IsPostOf nodes j p) (sym (others j low_j (eqb-false j k is))) (linked.of j low_j)

    -- the link from that node, the one to it, and another
    from_it : (n : ℕ) → n < nodes → k ≢ n → IsLinkOf (plans k n) k n (trace_in (new k)) (trace_in (new n)) (out_of (new k).links n) (into_of (new n).links k)
    from_it n low_n other = subst (λ (p : Post D). IsLinkOf (plans k n) k n (trace_in (new k)) (trace_in p) (out_of (new k).links n) (into_of p.links k)) (sym (others n low_n (λ same. other (sym same))))
        (each_put nodes k n (old k) (new k) (plans k n) (trace_in (old n)) (into_of (old n).links k) t (is_peer_from nodes k n low_n (λ same. other (sym same)))
        (linked.links k n low low_n other))

    to_it : (m : ℕ) → m < nodes → m ≢ k → IsLinkOf (plans m k) m k (trace_in (new m)) (trace_in (new k)) (out_of (new m).links k) (into_of (new k).links m)
    to_it m low_m other = subst (λ (p : Post D). IsLinkOf (plans m k) m k (trace_in p) (trace_in (new k)) (out_of p.links k) (into_of (new k).links m)) (sym (others m low_m other))
        (each_taken nodes m k (old k) (new k) (plans m k) (trace_in (old m)) (out_of (old m).links k) t (is_peer_from nodes k m low_m other) (named_there old linked k low)
        (linked.links m k low_m low other))

    each_link : (m n : ℕ) → m < nodes → n < nodes → m ≢ n → IsLinkOf (plans m n) m n (trace_in (new m)) (trace_in (new n)) (out_of (new m).links n) (into_of (new n).links m)
    each_link m n low_m low_n other = by (m == k) refl (n == k) refl
      where
        by : (b : Bool) → (m == k) ≡ b → (c : Bool) → (n == k) ≡ c → IsLinkOf (plans m n) m n (trace_in (new m)) (trace_in (new n)) (out_of (new m).links n) (into_of (new n).links m)
        by true is c also = subst (λ (h : ℕ). IsLinkOf (plans h n) h n (trace_in (new h)) (trace_in (new n)) (out_of (new h).links n) (into_of (new n).links h)) (sym (eqb-true m k is))
            (from_it n low_n (subst (λ (h : ℕ). h ≢ n) (eqb-true m k is) other))
        by false is true also = subst (λ (h : ℕ). IsLinkOf (plans m h) m h (trace_in (new m)) (trace_in (new h)) (out_of (new m).links h) (into_of (new h).links m)) (sym (eqb-true n k also))
            (to_it m low_m (eqb-false m k is))
        by false is false also = subst (λ (p : Post D). IsLinkOf (plans m n) m n (trace_in p) (trace_in (new n)) (out_of p.links n) (into_of (new n).links m)) (sym (others m low_m (eqb-false m k is)))
            (subst (λ (p : Post D). IsLinkOf (plans m n) m n (trace_in (old m)) (trace_in p) (out_of (old m).links n) (into_of p.links m)) (sym (others n low_n (eqb-false n k also)))
            (linked.links m n low_m low_n other))

  pub each_told : (k : ℕ) (old new : ℕ → Post D) → ToldAsOneTells nodes plans k old new
  each_told k old new low t others linked = record { of = of_each k old new low t others linked; links = each_link k old new low t others linked }

  pub each_visited : (told : Type 0) (state : D → DiskState) (own size : D → ℕ) (k : ℕ) (old new : ℕ → Post D) → ToldAsVisited told state own size nodes plans k old new
  each_visited told state own size k old new low visits others linked =
      each_told k old new low (each_visit told state own size nodes k (old k) (new k) visits (linked.of k low)) others linked

  pub each_restarted : (told : Type 0) (state : D → DiskState) (own size : D → ℕ) (alloc : Global) (k : ℕ) (old new : ℕ → Post D) (answer : Result Bool RestartFault) → ToldAsRestarted told state own size alloc nodes plans k old new answer
  each_restarted told state own size alloc k old new answer low starts same others linked =
      each_told k old new low (each_restart told state own size alloc nodes k (old k) (new k) answer starts same (linked.of k low)) others linked
