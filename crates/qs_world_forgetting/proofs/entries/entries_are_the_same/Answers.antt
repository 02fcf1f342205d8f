use Rattle.qs_world_forgetting.proofs.EntriesBreak.{each_entry_is_same, each_stretch_is_same}
use Rattle.qs_world_forgetting.proofs.entries.entries_are_the_same.Goals as goal

pub returns : goal.returns
returns c = record { one = each_entry_is_same; stretch = each_stretch_is_same }
