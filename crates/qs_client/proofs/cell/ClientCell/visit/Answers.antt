use Rattle.std.proofs.Common.{◌∙◌, ap, Bool, is_some}
use Rattle.std.specs.Prelude.{◌||◌}
use Rattle.qs_client.specs.Turns.{first_answer}
use Rattle.qs_client.proofs.cell.ClientCell.visit.Goals as goal

pub returns-clause-turn : goal.returns-clause-turn
returns-clause-turn c = record {
  mid = c.hear_carried-has_heard.new.self;
  hears = c.hear_carried-has_heard.ensures.hears;
  sends = c.in_ok-has_sent.ensures.sends;
  did_is = c.either.ensures
      ∙ (ap (λ (heard : Bool). heard || c.in_ok-has_sent.has_sent) c.hear_carried-has_heard.ensures.some
      ∙ ap (λ (more : Bool). is_some (first_answer c.args.self.now.answers.inbox) || more) c.in_ok-has_sent.ensures.some);
}
