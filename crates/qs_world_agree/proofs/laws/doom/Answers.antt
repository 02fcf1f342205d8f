use Rattle.qs_world_agree.proofs.Doomed.{doom_stays, abort_dooms, engaged_past_dooms, past_home_dooms, abort_vote_dooms, gone_dooms, refusal_dooms, left_dooms, left_behind_dooms, kept_back_dooms, sent_stays, late_dooms}
use Rattle.qs_world_agree.proofs.laws.doom.Goals as goal

pub returns : goal.returns
returns c = record {
  stays = doom_stays;
  aborted = abort_dooms;
  engaged = engaged_past_dooms;
  home = past_home_dooms;
  voted = abort_vote_dooms;
  gone = gone_dooms;
  refused = refusal_dooms;
  left = left_dooms;
  left_behind = left_behind_dooms;
  kept_back = kept_back_dooms;
  sent = sent_stays;
  late = late_dooms;
}
