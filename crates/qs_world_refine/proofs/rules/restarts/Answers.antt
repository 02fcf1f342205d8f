use Rattle.qs_world_refine.proofs.InquireSent.{inquire_goes}
use Rattle.qs_world_refine.proofs.PeerNoticed.{find_gone_goes, notice_decided}
use Rattle.qs_world_refine.proofs.Resuming.{tell_again_goes, name_home, name_other}
use Rattle.qs_world_refine.proofs.rules.restarts.Goals as goal

pub returns : goal.returns
returns c = record { find_gone = find_gone_goes; decided = notice_decided; tell_again = tell_again_goes; name_home = name_home; name_other = name_other; inquire = inquire_goes }
