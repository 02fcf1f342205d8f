use Rattle.std.proofs.Common.{◌∙◌, ap, inl, inr, subst}
use Rattle.qs_cell.proofs.Turning.{on_err_all, on_ok_map}
use Rattle.qs_cell.specs.Starts.{CellValue, journal_of}
use Rattle.qs_cell.specs.State.{carried_of}
use Rattle.qs_cell.specs.Visits.{Grows}
use Rattle.qs_cell_peers.proofs.Linked.{linked_as}
use Rattle.qs_cell_peers.specs.Links.{StayLinked}
use Rattle.qs_world_rounds.specs.Rounds.{IsSameStart}
use Rattle.qs_world_rounds.proofs.Turning.{grows_as, on_err_map, start_on, start_same}
use Rattle.qs_world_rounds.proofs.actors.Actors.take_turn.Goals as goal

-- ---- memory was refused as lanes were carried, or to a client

pub returns-in_err-carry-clause-refused : goal.returns-in_err-carry-clause-refused
returns-in_err-carry-clause-refused g c = on_err_all c.from_residual.result (inl (c.carry.ensures.node, c.carry.ensures.links))

pub returns-in_err-carry-clause-grows : goal.returns-in_err-carry-clause-grows
returns-in_err-carry-clause-grows g c = grows_as c.args.self.now.node c.carry.new.self.node c.carry.ensures.node

pub returns-in_err-carry-clause-linked : goal.returns-in_err-carry-clause-linked
returns-in_err-carry-clause-linked g c = linked_as c.args.self.now.node.links c.carry.new.self.node.links c.carry.ensures.links

pub returns-in_err-visit_clients-clause-refused : goal.returns-in_err-visit_clients-clause-refused
returns-in_err-visit_clients-clause-refused g c = on_err_all c.from_residual-in_err-visit_clients.result
    (inl (ap (λ (n : CellValue g.row.D.Denot). n.seat.node) c.visit_clients.ensures.node ∙ c.carry.ensures.node, ap (λ (n : CellValue g.row.D.Denot). n.links) c.visit_clients.ensures.node ∙ c.carry.ensures.links))

pub returns-in_err-visit_clients-clause-start : goal.returns-in_err-visit_clients-clause-start
returns-in_err-visit_clients-clause-start g c = start_on c.args.self.now.node c.carry.new.self.node c.visit_clients.new.self.node c.carry.ensures.start (start_same c.carry.new.self.node c.visit_clients.new.self.node c.visit_clients.ensures.node)

pub returns-in_err-visit_clients-clause-grows : goal.returns-in_err-visit_clients-clause-grows
returns-in_err-visit_clients-clause-grows g c = grows_as c.args.self.now.node c.visit_clients.new.self.node (ap (λ (n : CellValue g.row.D.Denot). n.seat.node) c.visit_clients.ensures.node ∙ c.carry.ensures.node)

pub returns-in_err-visit_clients-clause-linked : goal.returns-in_err-visit_clients-clause-linked
returns-in_err-visit_clients-clause-linked g c =
    linked_as c.args.self.now.node.links c.visit_clients.new.self.node.links (ap (λ (n : CellValue g.row.D.Denot). n.links) c.visit_clients.ensures.node ∙ c.carry.ensures.links)

-- ---- the node acts

pub returns-clause-turn : goal.returns-clause-turn
returns-clause-turn g c = on_ok_map c.act.result c.act.ensures.acts (λ acts. record {
  carried = c.carry.new.self;
  carries = c.in_ok-carry.ensures.carries;
  visited = c.visit_clients.new.self;
  did = c.in_ok-visit_clients.field-0;
  visits = c.in_ok-visit_clients.ensures.visits;
  act = acts;
  same = c.act.ensures.clients;
})

pub returns-clause-refused : goal.returns-clause-refused
returns-clause-refused g c = on_err_map c.act.result c.act.ensures.refused (λ refused. inr (record {
  carried = c.carry.new.self;
  carries = c.in_ok-carry.ensures.carries;
  visited = c.visit_clients.new.self;
  did = c.in_ok-visit_clients.field-0;
  visits = c.in_ok-visit_clients.ensures.visits;
  refused = refused;
}))

pub returns-clause-start : goal.returns-clause-start
returns-clause-start g c = start_on c.args.self.now.node c.carry.new.self.node c.act.new.self.node c.carry.ensures.start
    (subst (λ (n : CellValue g.row.D.Denot). IsSameStart n c.act.new.self.node) c.visit_clients.ensures.node c.act.ensures.start)

pub returns-clause-grows : goal.returns-clause-grows
returns-clause-grows g c = subst (λ j. Grows j (journal_of c.act.new.self.node)) (ap (λ (n : CellValue g.row.D.Denot). journal_of n) c.visit_clients.ensures.node ∙ ap (λ n. (carried_of n).chronicle.told.journal) c.carry.ensures.node) c.act.ensures.grows

pub returns-clause-linked : goal.returns-clause-linked
returns-clause-linked g c = subst (λ l. StayLinked l c.act.new.self.node.links) (ap (λ (n : CellValue g.row.D.Denot). n.links) c.visit_clients.ensures.node ∙ c.carry.ensures.links) c.act.ensures.linked
