use Rattle.std.proofs.Common.{◌≡◌, subst, sym, rules, ◌∷◌}
use Rattle.qs_world_rounds.specs.Lanes.{AllJoined}
use Rattle.qs_world_rounds.specs.Rounds.{CarriesAll}
use Rattle.qs_world_rounds.proofs.Joining.{all_stay, on_ok_map, one_stays, stays_on}
use Rattle.qs_world_rounds.proofs.lanes.+carry_each.Goals as goal

pub returns-in_err-carry_both-in-Some-clause-each : goal.returns-in_err-carry_both-in-Some-clause-each
returns-in_err-carry_both-in-Some-clause-each g t c =
    let split : c.args.clients.now ≡ c.in-Some.client.now ∷ c.in-Some.clients.now = search rules in (
      c.carry_both.ensures.here,
      all_stay c.args.node.now.seat.ends c.carry_both.new.node.seat.ends c.in-Some.clients.now c.carry_both.ensures.joined
          (subst (AllJoined c.args.node.now.seat.ends) split c.requires.each).1,
    )

pub carry_each-requires : goal.carry_each-requires
carry_each-requires g t c =
    let split : c.args.clients.now ≡ c.in-Some.client.now ∷ c.in-Some.clients.now = search rules in
    λ κs within. (
      search rules,
      (
        within,
        all_stay c.args.node.now.seat.ends c.carry_both.new.node.seat.ends c.in-Some.clients.now c.carry_both.ensures.joined
            (subst (AllJoined c.args.node.now.seat.ends) split c.requires.each).1,
      ),
    )

pub returns-in_ok-carry_both-in-Some-clause-carries : goal.returns-in_ok-carry_both-in-Some-clause-carries
returns-in_ok-carry_both-in-Some-clause-carries g t c =
    let split : c.args.clients.now ≡ c.in-Some.client.now ∷ c.in-Some.clients.now = search rules in
    on_ok_map c.carry_each.result c.carry_each.ensures.carries (λ rest.
    subst (λ l. CarriesAll c.args.node.now c.carry_each.new.node l (c.carry_both.new.client ∷ c.carry_each.new.clients)) (sym split)
    (c.carry_both.new.node, (c.in_ok-carry_both-in-Some.ensures.carries, rest)))

pub returns-in_ok-carry_both-in-Some-clause-each : goal.returns-in_ok-carry_both-in-Some-clause-each
returns-in_ok-carry_both-in-Some-clause-each g t c = (
  one_stays c.carry_both.new.node.seat.ends c.carry_each.new.node.seat.ends c.carry_both.new.client c.carry_each.ensures.joined c.carry_both.ensures.here,
  c.carry_each.ensures.each,
)

pub returns-in_ok-carry_both-in-Some-clause-joined : goal.returns-in_ok-carry_both-in-Some-clause-joined
returns-in_ok-carry_both-in-Some-clause-joined g t c =
    stays_on c.args.node.now.seat.ends c.carry_both.new.node.seat.ends c.carry_each.new.node.seat.ends c.carry_both.ensures.joined c.carry_each.ensures.joined
