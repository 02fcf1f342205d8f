use Rattle.qs_world_agree_ends.proofs.MomentLaws.{engagers_come_first, owed_comes_later, engagers_lead_home}
use Rattle.qs_world_agree_ends.proofs.laws.engagers_come_first.Goals as goal

pub returns : goal.returns
returns c = record { order = engagers_come_first; owed = owed_comes_later; home = engagers_lead_home }
