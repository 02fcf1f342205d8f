-- All links of a run where memory was refused at one of its cells: what each node took of each other one is still a front of what goes out by the plan.
use Rattle.std.proofs.Common.{◌≡◌, ◌≢◌, ◌∙◌, ap, refl, subst, sym, ℕ, ◌<◌, ◌==◌, Bool, true, false, List, [], ◌++◌, append_assoc}
use Rattle.std.proofs.lemmas.Bool.{eqb-false, eqb-true}
use Rattle.qs_cell.specs.Hearing.{Post}
use Rattle.qs_cell_peers.proofs.Places.{is_peer_from}
use Rattle.qs_cell_peers.specs.Links.{into_of, out_of}
use Rattle.qs_link.specs.Lane.{DrawValue, Drawn}
use Rattle.qs_link.specs.Plan.{OutgoingValue}
use Rattle.qs_link.specs.Planned.{goes_out}
use Rattle.qs_link.specs.declared.outgoing.LinkFault.{LinkFault}
use Rattle.qs_node_step.specs.declared.trace.Step.{Step}
use Rattle.qs_packet.specs.declared.packet.Packet.{Packet}
use Rattle.qs_world_links.proofs.Ends.{drawn_carried}
use Rattle.qs_world_links.proofs.Linked.{each_keeps, named_there}
use Rattle.qs_world_links.proofs.Linking.{each_link_keeps_plan, goes_out_more, put_to_more, takes_on}
use Rattle.qs_world_links.specs.Everywhere.{KeepAsOneTook, LinksAreTold, OthersStay}
use Rattle.qs_world_links.specs.Posts.{AreInFront, TellsOfTakes, trace_in}
use Rattle.qs_world_traces.specs.Links.{IsTakenByPlan, put_to, took_from}

-- what is put later goes out behind
pub taken_still : (plan : List LinkFault) (put took more : List Packet) → IsTakenByPlan plan put took → IsTakenByPlan plan (put ++ more) took
taken_still plan put took more t =
    let it : (rest : List Packet) × (goes_out plan [] put ++ rest ≡ goes_out plan [] (put ++ more)) = goes_out_more plan [] put more in
    record { rest = t.rest ++ it.0; is = sym (append_assoc took t.rest it.0) ∙ (ap (λ (l : List Packet). l ++ it.0) t.is ∙ it.1) }

module _ {D : Type 0} (nodes : ℕ) (plans : ℕ → ℕ → List LinkFault) (k : ℕ) (old new : ℕ → Post D) (low : k < nodes) (t : TellsOfTakes nodes k (old k) (new k)) (others : OthersStay nodes k old new) (linked : LinksAreTold nodes plans old) where
  abbrev Keeps : ℕ → ℕ → Type 0
  Keeps n m = IsTakenByPlan (plans m n) (put_to n (trace_in (new m))) (took_from m (trace_in (new n)))

  same_trace : (j : ℕ) → j < nodes → j ≢ k → trace_in (new j) ≡ trace_in (old j)
  same_trace j low_j apart = ap (λ (p : Post D). trace_in p) (others j low_j apart)

  -- of the links from that node
  from_it : (n : ℕ) → n < nodes → k ≢ n → Keeps n k
  from_it n low_n apart = subst (λ (l : List Step). IsTakenByPlan (plans k n) (put_to n (trace_in (new k))) (took_from k l)) (sym (same_trace n low_n (λ same. apart (sym same))))
      (subst (λ (l : List Packet). IsTakenByPlan (plans k n) l (took_from k (trace_in (old n)))) (sym (ap (put_to n) t.trace ∙ put_to_more n (trace_in (old k)) t.steps))
      (taken_still (plans k n) (put_to n (trace_in (old k))) (took_from k (trace_in (old n))) (put_to n t.steps) (each_keeps nodes plans old linked n k low_n low apart)))

  -- of those to it
  to_it : (m : ℕ) → m < nodes → m ≢ k → Keeps k m
  to_it m low_m apart = subst (λ (l : List Step). IsTakenByPlan (plans m k) (put_to k l) (took_from m (trace_in (new k)))) (sym (same_trace m low_m apart))
      (subst (λ (l : List Step). IsTakenByPlan (plans m k) (put_to k (trace_in (old m))) (took_from m l)) (sym t.trace)
      (each_link_keeps_plan (plans m k) m k (trace_in (old m)) (trace_in (old k) ++ t.steps) out left
      (takes_on (plans m k) m k (trace_in (old m)) (trace_in (old k)) t.steps out into left drawn refl (linked.links m k low_m low apart))))
    where
      out : OutgoingValue
      out = out_of (old m).links k

      into : DrawValue Packet
      into = into_of (old k).links m

      front : AreInFront (took_from m t.steps) into.inbox
      front = t.took (named_there nodes plans old linked k low) m (is_peer_from nodes k m low_m apart)

      left : DrawValue Packet
      left = record { ring = into.ring; inbox = front.rest }

      drawn : Drawn (took_from m t.steps) into left
      drawn = drawn_carried (took_from m t.steps) into left refl front.is

  each_keeps_on : (n m : ℕ) → n < nodes → m < nodes → m ≢ n → Keeps n m
  each_keeps_on n m low_n low_m apart = by (m == k) refl (n == k) refl
    where
      by : (b : Bool) → (m == k) ≡ b → (c : Bool) → (n == k) ≡ c → Keeps n m
      by true is c also = subst (λ (h : ℕ). Keeps n h) (sym (eqb-true m k is)) (from_it n low_n (subst (λ (h : ℕ). h ≢ n) (eqb-true m k is) apart))
      by false is true also = subst (λ (h : ℕ). Keeps h m) (sym (eqb-true n k also)) (to_it m low_m (eqb-false m k is))
      by false is false also = subst (λ (l : List Step). IsTakenByPlan (plans m n) (put_to n l) (took_from m (trace_in (new n)))) (sym (same_trace m low_m (eqb-false m k is)))
          (subst (λ (l : List Step). IsTakenByPlan (plans m n) (put_to n (trace_in (old m))) (took_from m l)) (sym (same_trace n low_n (eqb-false n k also))) (each_keeps nodes plans old linked n m low_n low_m apart))

pub each_took : {D : Type 0} (nodes : ℕ) (plans : ℕ → ℕ → List LinkFault) (k : ℕ) (old new : ℕ → Post D) → KeepAsOneTook nodes plans k old new
each_took nodes plans k old new low t others linked = each_keeps_on nodes plans k old new low t others linked
