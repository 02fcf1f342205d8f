use Rattle.qs_world_links.proofs.Linking.{each_link_begins, each_link_goes_on, each_link_is_carried, each_link_is_named, each_link_keeps_plan}
use Rattle.qs_world_links.proofs.between.links_bring_by_plan.Goals as goal

pub returns : goal.returns
returns c = record { begins = each_link_begins; carried = each_link_is_carried; goes_on = each_link_goes_on; named = each_link_is_named; keeps = each_link_keeps_plan }
