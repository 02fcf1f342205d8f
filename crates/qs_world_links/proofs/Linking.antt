-- The link from one node to another, as one of the two goes on, and what it tells.
use Rattle.std.proofs.Common.{◌≡◌, ℕ, ◌+◌, true, List, [], ◌∷◌, ◌++◌, length, refl, sym, ap, subst, ◌∙◌, append_assoc, append-nil}
use Rattle.std.specs.Prelude.{All}
use Rattle.std.specs.List.{filter, flat_map}
use Rattle.std.proofs.lemmas.Bool.{eqb-true}
use Rattle.std.proofs.lemmas.List.Concat.{flat_map-append}
use Rattle.std.proofs.lemmas.List.Elements.{All-append, All-cons, All-filter, All-head, All-nil, All-same, All-tail, filter-append, filter_passes}
use Rattle.qs_cell_peers.specs.Peers.{is_to}
use Rattle.qs_link.specs.Lane.{DrawValue, Drawn, IsFifo, on_way}
use Rattle.qs_link.specs.OnlyPut.{Each}
use Rattle.qs_link.specs.Plan.{HoldsSome, OutgoingValue, due, fate, own}
use Rattle.qs_link.specs.Planned.{IsLink, PutAll, goes_out, held_of}
use Rattle.qs_link.specs.declared.outgoing.LinkFault.{LinkFault}
use Rattle.qs_link.proofs.Going.{Gone, begins, goes_on, is_carried, put_all}
use Rattle.qs_link.proofs.OnlyPut.{out_each}
use Rattle.qs_node_step.specs.declared.trace.Step.{Step}
use Rattle.qs_packet.specs.declared.packet.Packet.{Packet}
use Rattle.qs_world_traces.specs.Links.{is_from, put_to, puts_of, takes_of, took_from}
use Rattle.qs_world_links.proofs.Ends.{all_behind, fifo_fed, none_drawn, none_put}
use Rattle.qs_world_links.specs.Between.{EachLinkBegins, EachLinkGoesOn, EachLinkIsCarried, EachLinkIsNamed, EachLinkKeepsPlan, Goes, IsFrom, IsLinkOf}

-- ---- what two parts of a trace put and took

pub put_to_more : (n : ℕ) (before steps : List Step) → put_to n (before ++ steps) ≡ put_to n before ++ put_to n steps
put_to_more n before steps = ap (filter (is_to n)) (flat_map-append puts_of before steps) ∙ filter-append (is_to n) (flat_map puts_of before) (flat_map puts_of steps)

pub took_from_more : (m : ℕ) (before steps : List Step) → took_from m (before ++ steps) ≡ took_from m before ++ took_from m steps
took_from_more m before steps = ap (filter (is_from m)) (flat_map-append takes_of before steps) ∙ filter-append (is_from m) (flat_map takes_of before) (flat_map takes_of steps)

-- behind what went out there goes out what is put later
pub goes_out_more : (plan : List LinkFault) (before xs ys : List Packet) → (rest : List Packet) × (goes_out plan before xs ++ rest ≡ goes_out plan before (xs ++ ys))
goes_out_more plan before [] ys = (goes_out plan before ys, refl)
goes_out_more plan before (x ∷ xs) ys =
    let it : (rest : List Packet) × (goes_out plan (before ++ x ∷ []) xs ++ rest ≡ goes_out plan (before ++ x ∷ []) (xs ++ ys)) = goes_out_more plan (before ++ x ∷ []) xs ys in
    let first : List Packet = own (fate plan (length before + 1)) x ++ due (length before + 1) (held_of plan 0 before) in
    (it.0, append_assoc first (goes_out plan (before ++ x ∷ []) xs) it.0 ∙ ap (λ (l : List Packet). first ++ l) it.1)

-- ---- it goes on

pub each_link_goes_on : EachLinkGoesOn
each_link_goes_on plan m n sender steps receiver more o p i j link from put drawn fifo = record {
  by_plan = gone.plan ∙ link.by_plan;
  is_plan = link.is_plan;
  fifo = fifo;
  from = All-same (IsFrom m) (put_to n (sender ++ steps)) (put_to n sender ++ put_to n steps) (put_to_more n sender steps) (All-append (IsFrom m) (put_to n sender) (put_to n steps) link.from from);
  is = subst (λ (l : List Packet). IsLink l (took_from m (receiver ++ more)) p j) (sym (put_to_more n sender steps))
      (subst (λ (l : List Packet). IsLink (put_to n sender ++ put_to n steps) l p j) (sym (took_from_more m receiver more))
      (goes_on (put_to n sender) (took_from m receiver) (put_to n steps) (took_from m more) o p i j holds link.is link.fifo fifo put drawn));
}
  where
    holds : HoldsSome o.plan
    holds = subst HoldsSome (sym link.by_plan) link.is_plan.held

    gone : Gone (put_to n sender) (put_to n steps) o p
    gone = put_all (put_to n steps) (put_to n sender) o p holds link.is.has put

module _ (plan : List LinkFault) (m n : ℕ) (sender receiver steps : List Step) where
  -- the sender alone
  pub puts_on : (o p : OutgoingValue) (i : DrawValue Packet) → PutAll (put_to n steps) o p → All (IsFrom m) (flat_map puts_of steps)
      → IsLinkOf plan m n sender receiver o i → IsLinkOf plan m n (sender ++ steps) receiver p i
  puts_on o p i put from link = subst (λ (l : List Step). IsLinkOf plan m n (sender ++ steps) l p i) (append-nil receiver)
      (each_link_goes_on plan m n sender steps receiver [] o p i i link (All-filter (is_to n) (IsFrom m) (flat_map puts_of steps) from) put (none_drawn i) fifo)
    where
      holds : HoldsSome o.plan
      holds = subst HoldsSome (sym link.by_plan) link.is_plan.held

      fifo : IsFifo p.feed i
      fifo = fifo_fed (goes_out o.plan (put_to n sender) (put_to n steps)) o.feed p.feed i link.fifo (put_all (put_to n steps) (put_to n sender) o p holds link.is.has put).fed

  -- the receiver alone
  pub takes_on : (o : OutgoingValue) (i j : DrawValue Packet) → Drawn (took_from m steps) i j → j.ring ≡ i.ring
      → IsLinkOf plan m n sender receiver o i → IsLinkOf plan m n sender (receiver ++ steps) o j
  takes_on o i j drawn ring link = subst (λ (l : List Step). IsLinkOf plan m n l (receiver ++ steps) o j) (append-nil sender)
      (each_link_goes_on plan m n sender [] receiver steps o o i j link (All-nil (IsFrom m)) (none_put o) drawn
      (subst (λ r. IsFifo o.feed (record { ring = r; inbox = j.inbox })) (sym ring) link.fifo))

-- ---- it begins, and is carried

pub each_link_begins : EachLinkBegins
each_link_begins plan m n o i new = record {
  by_plan = new.fresh.plan;
  is_plan = new.is_plan;
  fifo = new.fifo;
  from = All-nil (IsFrom m);
  is = begins o i plan new.fresh new.empty;
}

pub each_link_is_carried : EachLinkIsCarried
each_link_is_carried plan m n sender receiver result o p i j carried link = record {
  by_plan = carried.carried.plan ∙ link.by_plan;
  is_plan = link.is_plan;
  fifo = carried.fifo.1;
  from = link.from;
  is = is_carried (put_to n sender) (took_from m receiver) o p i j link.is carried.carried;
}

-- ---- what it tells

as_each : {T : Type 0} (P : T → Type 0) (xs : List T) → All P xs → Each P xs
as_each P [] all = tt
as_each P (x ∷ xs) all = (All-head P x xs all, as_each P xs (All-tail P x xs all))

as_all : {T : Type 0} (P : T → Type 0) (xs : List T) → Each P xs → All P xs
as_all P [] each = All-nil P
as_all P (x ∷ xs) each = All-cons P x xs each.0 (as_all P xs each.1)

-- what was put for a node, and from another one, goes between the two
goes_all : (m n : ℕ) (packets : List Packet) → All (IsFrom m) packets → All (λ p. is_to n p ≡ true) packets → All (Goes m n) packets
goes_all m n [] from to = All-nil (Goes m n)
goes_all m n (p ∷ packets) from to = All-cons (Goes m n) p packets
    (All-head (IsFrom m) p packets from, eqb-true p.to.0 n (All-head (λ q. is_to n q ≡ true) p packets to))
    (goes_all m n packets (All-tail (IsFrom m) p packets from) (All-tail (λ q. is_to n q ≡ true) p packets to))

pub each_link_is_named : EachLinkIsNamed
each_link_is_named plan m n sender receiver o i link =
    all_behind (Goes m n) (took_from m receiver) (on_way o.feed i)
    (All-same (Goes m n) (took_from m receiver ++ on_way o.feed i) (goes_out o.plan [] (put_to n sender)) link.is.way
    (as_all (Goes m n) (goes_out o.plan [] (put_to n sender))
    (out_each (Goes m n) o.plan [] (put_to n sender) tt
    (as_each (Goes m n) (put_to n sender) (goes_all m n (put_to n sender) link.from (filter_passes (is_to n) (flat_map puts_of sender)))))))

pub each_link_keeps_plan : EachLinkKeepsPlan
each_link_keeps_plan plan m n sender receiver o i link = record {
  rest = on_way o.feed i;
  is = link.is.way ∙ ap (λ (p : List LinkFault). goes_out p [] (put_to n sender)) link.by_plan;
}
