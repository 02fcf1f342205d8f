use Rattle.qs_world_refine.proofs.EachBeginning.{each_begins}
use Rattle.qs_world_refine.proofs.PassedOver.{w, passed_shows_all}
use Rattle.qs_world_refine.proofs.ShownBegins.{each_begun_shown}
use Rattle.qs_world_refine.proofs.UnseenWorlds.{world_unseen, start_shows_all}
use Rattle.qs_world_refine.proofs.begins.each_begins.Goals as goal

pub returns : goal.returns
returns c = record {
  unseen = λ tid world steady is. world_unseen tid world steady is.numbered is.home_in is.unknown;
  shown = λ tid world steady is up now. start_shows_all tid world steady is.numbered is.home_in is.unknown up now;
  passed = λ tid world stamp inc steady is down later past. (w tid world steady is.numbered is.home_in is.unknown stamp inc down later past, ((passed_shows_all tid world steady is.numbered is.home_in is.unknown stamp inc down later past).seen.lawful, passed_shows_all tid world steady is.numbered is.home_in is.unknown stamp inc down later past));
  moves = each_begins;
  worlds = each_begun_shown;
}
