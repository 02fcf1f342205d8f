-- The laws of serving: of each class of server its event.
use Rattle.qs_world_refine.proofs.Words.{◌≡◌, ◌⊎◌, inl, inr, ℕ, ◌<◌, ◌≤◌, ◌==◌, true, false, List, ◌∷◌, Some, None, refl, sym, ap, ◌∙◌, arith, nat_tests, Class, Tid, ClientNo, last_number, queue_at, Delivery, class_of, Reply, member_of, Participant, serve_next, lent_to, Work, Scene, ShowsWork, server_no, is_covered_vote, IsAt, Goes}
use Rattle.qs_base.specs.declared.identifiers.Class.TheVariants as classes
use Rattle.qs_world_agree.specs.World.{World}
use Rattle.qs_world_refine.specs.RuleLaws.{ServesFirst, ServeNextGoes, LendNextGoes}
use Rattle.qs_world_refine.specs.Steps.{Knows}
use Rattle.qs_world_refine.proofs.ServeNext as serving

-- no server of a node is a client
below_clients : (s : ℕ) → s < 7 → class_of s ≡ classes.Activity → ⊥
below_clients s below is = grind (arith, nat_tests, below, is)

module _ (tid : Tid) (scene : Scene) (n s : ℕ) (d : Delivery) (rest : List Delivery) (reply : Reply) (work : Work) (part : Participant) (w : World) (shown : ShowsWork tid scene n work w)
    (at : IsAt scene n work) (knows : Knows tid work part) (first : ServesFirst tid s d rest reply work part) where
  its : record { tid = tid; from = d.from; number = d.number; op = d.op; stale = d.stale } ≡ d
  its = ap (λ (t : Tid). record { tid = t; from = d.from; number = d.number; op = d.op; stale = d.stale }) (sym first.1)

  waiting : (queue_at work.node.queues (server_no s)).waiting ≡ record { tid = tid; from = d.from; number = d.number; op = d.op; stale = d.stale } ∷ rest
  waiting = first.0 ∙ ap (λ (k : Delivery). k ∷ rest) (sym its)

  pub served : s < 7 → ((member_of part (server_no s)).served == last_number) ≡ false → is_covered_vote (member_of part (server_no s)) ≡ true → lent_to d.op ≡ None → Goes tid scene n (serve_next work (server_no s)) w
  served server_in left covered no_loan = by (class_of s) refl
    where
      votes : (class_of s ≡ classes.Recoverable) ⊎ ((class_of s ≡ classes.Volatile) ⊎ (class_of s ≡ classes.Immediate)) → Goes tid scene n (serve_next work (server_no s)) w
      votes class = serving.serve_goes tid scene n s d.from d.number d.op d.stale rest reply work part w at knows first.3 waiting first.2 shown server_in left covered no_loan class

      told : (class_of s ≡ classes.Standard) ⊎ (class_of s ≡ classes.Delayed) → Goes tid scene n (serve_next work (server_no s)) w
      told class = serving.serve_told_goes tid scene n s d.from d.number d.op d.stale rest reply work part w at knows first.3 waiting first.2 shown server_in left covered no_loan class

      by : (c : Class) → class_of s ≡ c → Goes tid scene n (serve_next work (server_no s)) w
      by classes.Recoverable is = votes (inl is)
      by classes.Volatile is = votes (inr (inl is))
      by classes.Immediate is = votes (inr (inr is))
      by classes.Standard is = told (inl is)
      by classes.Delayed is = told (inr is)
      by classes.Activity is = absurd (below_clients s server_in is)

  pub lent : (client : ClientNo) → 7 ≤ s → class_of s ≡ classes.Activity → lent_to d.op ≡ Some client → Goes tid scene n (serve_next work (server_no s)) w
  lent client client_no class lends = serving.lend_goes tid scene n s d.from d.number d.op d.stale rest reply work part w at knows first.3 waiting first.2 shown client_no client lends class

pub serve_law : ServeNextGoes
serve_law tid scene n s d rest reply work part w shown at knows first server_in left covered no_loan = served tid scene n s d rest reply work part w shown at knows first server_in left covered no_loan

pub lend_law : LendNextGoes
lend_law tid scene n s d rest reply client work part w shown at knows first client_no class lends = lent tid scene n s d rest reply work part w shown at knows first client client_no class lends
